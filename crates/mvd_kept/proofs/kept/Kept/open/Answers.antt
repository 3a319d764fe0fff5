use Rattle.std.proofs.Common.{rules, ◌≡◌, T, ap, sym, ◌∙◌, subst, subst₂, length, arith}
use Rattle.std.specs.FinMap.{from_entries, is_sorted, len}
use Rattle.mvd_keys.specs.Key.{key_cmp}
use Rattle.mvd_keys.proofs.Parts.{holds}
use Rattle.mvd_kept.specs.Held.{key_digests}
use Rattle.mvd_tree.proofs.Held.{digests_rise}
use Rattle.mvd_kept.specs.Answer.{spelled}
use Rattle.mvd_kept.proofs.Digested.{keeps_opened}
use Rattle.mvd_rows.specs.Stands.{IsRowsOf}
use Rattle.mvd_kept.proofs.OpenCosted.{opened_costs}
use Rattle.mvd_kept.proofs.Opened.{rising_len, stands_held}
use Rattle.mvd_kept.proofs.kept.Kept.open.Goals as goal

pub open-requires : goal.open-requires
open-requires c =
    let entries = c.args.states.items in
    let are : c.in_ok-digests.digests.items ≡ key_digests entries = c.in_ok-digests.ensures.digests ∙ ap key_digests c.deref.ensures.value in
    subst (λ l. T (is_sorted key_cmp l)) (sym are) (digests_rise spelled entries (holds _ c.requires.rising))

pub invariant_of-kept : goal.invariant_of-kept
invariant_of-kept c =
    let entries = c.args.states.items in
    let size : len c.in_ok-held.held ≡ length entries = ap len c.in_ok-held.ensures.held ∙ rising_len entries (holds _ c.requires.rising) in
    let digested : c.in_ok-tree.tree ≡ from_entries (key_digests entries) =
    c.in_ok-tree.ensures.ok ∙ ap from_entries (c.in_ok-digests.ensures.digests ∙ ap key_digests c.deref.ensures.value) in
    keeps_opened c.args.config entries c.in_ok-held.held c.in_ok-tree.tree c.in_ok-rows.rows _ c.in_ok-held.ensures.held digested (subst₂ (λ d es. IsRowsOf c.in_ok-rows.rows d (from_entries es)) c.defs.ensures c.deref-2.ensures.value c.in_ok-rows.ensures.rows) (omega (arith, size, c.len.ensures, c.max_keys.ensures.max_keys))

pub returns-clause-stands : goal.returns-clause-stands
returns-clause-stands c =
    stands_held c.in_ok-held.held c.in_ok-held.ensures.kept

pub returns-in_err-held-clause-costs : goal.returns-in_err-held-clause-costs
returns-in_err-held-clause-costs c =
    opened_costs c.args.states.items c.deref.result.now c.deref-2.result.now c.in_ok-digests.digests.items c.defs.result.now c.args.config c.args.work.now c.digests_of.new.hashed c.open.new.hashed c.rows_of.new.meter
    (cc (c.deref.ensures.value)) (cc (c.deref-2.ensures.value)) c.in_ok-digests.ensures.digests (search rules) c.digests_of.ensures.counts c.open.ensures.counts c.rows_of.ensures.counts

pub returns-clause-costs : goal.returns-clause-costs
returns-clause-costs c =
    opened_costs c.args.states.items c.deref.result.now c.deref-2.result.now c.in_ok-digests.digests.items c.defs.result.now c.args.config c.args.work.now c.digests_of.new.hashed c.open.new.hashed c.rows_of.new.meter
    (cc (c.deref.ensures.value)) (cc (c.deref-2.ensures.value)) c.in_ok-digests.ensures.digests (search rules) c.digests_of.ensures.counts c.open.ensures.counts c.rows_of.ensures.counts
