use Rattle.std.proofs.Common.{ap, subst, ◌∙◌}
use Rattle.mvd_digest.specs.Sha256.{sha256}
use Rattle.mvd_dots.specs.Answer.{IsAnswer}
use Rattle.mvd_tree.proofs.Gathered.{path_of_place}
use Rattle.mvd_tree.proofs.key_path.Goals as goal

pub returns-clause-path : goal.returns-clause-path
returns-clause-path c =
    let told = c.text_digest-digest.ensures.digest ∙ ap sha256 (c.as_bytes.ensures.value ∙ c.text.ensures.same) in
    subst (IsAnswer c.new.result) (path_of_place c.args.key.now c.text_digest-digest.result told) c.new.ensures
