use Rattle.std.proofs.Common.{◌∙◌, ap}
use Rattle.mvd_kept.specs.Sites.{has_no_room}
use Rattle.mvd_kept.proofs.Installed.{put_few, put_stands}
use Rattle.mvd_kept.proofs.Room.{is_roomy}
use Rattle.mvd_kept.proofs.installing.put_change.Goals as goal

pub replace-requires-clause-few : goal.replace-requires-clause-few
replace-requires-clause-few c = is_roomy c.args.states.now c.args.config.now.max_keys c.stands.ensures c.requires.few c.max_keys-most.ensures.valid.keys_high

pub returns-clause-stand : goal.returns-clause-stand
returns-clause-stand c =
    put_stands c.replace.result c.args.config.now c.args.states.now c.replace.new.self c.args.rows.now c.replace.new.rows c.into_parts-key.result.0 c.into_parts-key.result.1
    c.replace.ensures.ok c.replace.ensures.stand c.requires.stand

pub returns-clause-few : goal.returns-clause-few
returns-clause-few c =
    put_few c.replace.result c.args.config.now c.args.states.now c.replace.new.self c.into_parts-key.result.0 c.into_parts-key.result.1
    c.replace.ensures.ok c.replace.ensures.err (ap (has_no_room c.args.config.now c.args.states.now) c.into_parts-key.ensures.key ∙ c.requires.room) c.requires.few
