use Rattle.std.proofs.Common.{◌≡◌, ◌++◌, List, ℕ, OnOk, string_bytes, subst}
use Rattle.mvd_replica.specs.Replicas.{site_of}
use Rattle.mvd_server.proofs.Sinces.{since_none}
use Rattle.mvd_server.proofs.changes.push_since.Goals as goal

pub returns-in_default : goal.returns-in_default
returns-in_default g c =
    subst (λ (text : List ℕ). OnOk c.push_changes.result (string_bytes c.push_changes.new.out ≡ string_bytes c.args.body.now ++ text))
    (since_none c.args.changes.now (site_of c.args.replica.now) c.in_ok-root.field-0 c.args.followed.now c.args.since c.in_default.ensures.last c.in_ok-root.ensures.0) c.push_changes.ensures.text
