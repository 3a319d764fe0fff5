use Rattle.std.proofs.Common.{◌≡◌, false, sym, ◌∙◌}
use Rattle.mvd_dots.specs.declared.refusals.Refusal.TheVariants.{Broken}
use Rattle.mvd_peer.specs.Sides.{IsWholeSite}
use Rattle.mvd_sync.specs.declared.report.SyncFault.TheVariants.{Local, Peer}
use Rattle.mvd_world.proofs.Gained.{local_at_once, nothing_met, peer_at_once, says_broken, sites_meet}
use Rattle.mvd_world.proofs.sessions.session.Goals as goal

pub returns-then-is_broken-clause-exchange : goal.returns-then-is_broken-clause-exchange
returns-then-is_broken-clause-exchange c =
    let broken = sym c.is_broken.ensures ∙ c.if-is_broken.true in
    nothing_met c.args.local.now c.args.peer.now (Local Broken) (local_at_once c.args.local.now.broken c.args.peer.now.broken broken) (λ a b. says_broken a b a c.args.local.now.broken broken)

pub returns-then-is_broken-2-clause-exchange : goal.returns-then-is_broken-2-clause-exchange
returns-then-is_broken-2-clause-exchange c =
    let broken = sym c.is_broken-2.ensures ∙ c.if-is_broken-2.true in
    nothing_met c.args.local.now c.args.peer.now (Peer Broken) (peer_at_once c.args.local.now.broken c.args.peer.now.broken (sym c.is_broken.ensures ∙ c.if-is_broken.false) broken) (λ a b. says_broken a b b c.args.peer.now.broken broken)

pub returns-clause-exchange : goal.returns-clause-exchange
returns-clause-exchange c =
    let whole : c.args.local.now.broken ≡ false = sym c.is_broken.ensures ∙ c.if-is_broken.false in
    let whole' : c.args.peer.now.broken ≡ false = sym c.is_broken-2.ensures ∙ c.if-is_broken-2.false in
    let mine : IsWholeSite c.args.local.now = (whole, c.stands.ensures.held) in
    let theirs : IsWholeSite c.args.peer.now = (whole', c.stands-2.ensures.held) in
    sites_meet c.args.local.now c.args.peer.now c.sync-ended.new.local c.sync-ended.new.peer c.sync-ended.result mine theirs c.stands-3.ensures.held c.stands-4.ensures.held c.sync-ended.ensures.session

pub returns-clause-local_config : goal.returns-clause-local_config
returns-clause-local_config c = c.sync-ended.ensures.session.course.follows.0.0

pub returns-clause-peer_config : goal.returns-clause-peer_config
returns-clause-peer_config c = c.sync-ended.ensures.session.course.follows.1.0
