use Rattle.std.proofs.Common.{◌≡◌, ◌<◌, ◌+◌, length, List, ℕ, sym, ap, ◌∙◌, subst, cond, if◌then◌else◌, Option, Some, None, is_some, arith}
use Rattle.std.proofs.lemmas.Bool.Decides.{nat_tests}
use Rattle.std.specs.Ordering.{nat_cmp}
use Rattle.std.specs.BTreeMap.{is_at}
use Rattle.mvd_conn.specs.History.{History}
use Rattle.mvd_host.specs.AtHand.{first_at_hand}
use Rattle.mvd_host.specs.Hosts.{AdmitsOne, AreKept, HostValue, client_in}
use Rattle.mvd_host.proofs.Hosts.{admits, kept_inserted, none_at}
use Rattle.mvd_host.proofs.host.Host.admit.Goals as goal

pub invariant_of-self : goal.invariant_of-self
invariant_of-self c = subst (λ (l : List (ℕ × History)). AreKept l c.self.inside.admitted) (sym c.in_err-insert.ensures.err) c.self.invariant

pub invariant_of-self-2 : goal.invariant_of-self-2
invariant_of-self-2 c =
    let old = c.self.inside.clients.entries in
    let n = c.self.inside.admitted in
    let below : n < first_at_hand = let most = c.self.invariant.below in omega (arith, most) in
    kept_inserted c.args.guard old c.insert.new.self.entries n c.self.invariant below
    (λ q. c.in_ok-insert.ensures.updates.0 q ∙ ap (λ (h : History). cond (is_at (nat_cmp n) q) (Some h) (client_in old q)) c.in_ok-connection.ensures.new)

pub returns-clause-ok : goal.returns-clause-ok
returns-clause-ok c =
    let old = c.self.inside.clients.entries in
    let new = c.insert.new.self.entries in
    let n = c.self.inside.admitted in
    let none : c.in_ok-insert.field-0 ≡ None = c.in_ok-insert.ensures.old ∙ none_at old n c.self.invariant in
    let more : length new ≡ length old + 1 = c.in_ok-insert.ensures.len ∙ ap (λ (o : Option History). length old + (if is_some o then 0 else 1)) none in
    let few : length old < 10000 = let len = c.len.ensures.len in let room = c.if-len-ge-CLIENTS_MAX.false in grind (arith, nat_tests) in
    let below : n < first_at_hand = let most = c.self.invariant.below in omega (arith, most) in
    subst (λ (v : HostValue). AdmitsOne c.args.guard v (record { clients = new; admitted = n + 1 }) n) c.self.view_is
    (admits c.args.guard old new n c.in_ok-connection.connection below few more c.in_ok-connection.ensures.new c.in_ok-insert.ensures.updates.0)
