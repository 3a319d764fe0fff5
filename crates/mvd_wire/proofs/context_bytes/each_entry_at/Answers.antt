use Rattle.std.proofs.Common.{◌≡◌, ◌∙◌, ◌-◌, ℕ, List, ap, arith, subst}
use Rattle.std.proofs.lemmas.Result.{err_from_is_err_and}
use Rattle.std.specs.FinSet as set
use Rattle.mvd_dots.specs.Entry.{EntryValue}
use Rattle.mvd_dots.specs.Context.{DotSet, HoldsDot, entry_dots}
use Rattle.mvd_dots.proofs.Sets.{empty_holds}
use Rattle.mvd_wire.specs.Codec.{read_each}
use Rattle.mvd_wire.specs.Codecs.{entry, layout_of, dots_read}
use Rattle.mvd_wire.proofs.Entries.{dots_start, dots_go_on, dots_end, dots_done, sites_after}
use Rattle.mvd_wire.proofs.context_bytes.each_entry_at.Goals as goal

none_in : (dots : DotSet) → dots ≡ set.empty → (site n : ℕ) → HoldsDot dots site n → ⊥
none_in dots e site n there = empty_holds site n (subst (λ (s : DotSet). HoldsDot s site n) e there)

pub loop-init : goal.loop-init
loop-init c =
    let whole : c.args.count - 0 ≡ c.args.count = omega arith in
    record {
      sites = λ site n there. absurd (none_in c.new-context.result c.new-context.ensures site n there);
      so_far = rw (c.new-context.ensures, whole) (dots_start (read_each (entry (layout_of c.args.version)) (λ _ e. e.site) 0 c.args.count c.args.bytes.now));
    }

pub returns-in_err-entry : goal.returns-in_err-entry
returns-in_err-entry c =
    let p = err_from_is_err_and c.from_residual.result c.from_residual.ensures.1 in
    rw (p.1, p.2) (dots_end (layout_of c.args.version) c.in_err-entry.field-0.0 c.loop.context c.loop.previous c.args.count c.loop.counter c.loop.rest.now (dots_read (read_each (entry (layout_of c.args.version)) (λ _ e. e.site) 0 c.args.count c.args.bytes.now)) c.loop-test.true c.in_err-entry.ensures.read c.loop.invariant.so_far)

pub returns-in_err-add_entry : goal.returns-in_err-add_entry
returns-in_err-add_entry c =
    let p = err_from_is_err_and c.from_residual-in_err-add_entry.result c.from_residual-in_err-add_entry.ensures.1 in
    rw p.1 (λ other. absurd (other (p.2 ∙ c.in_err-add_entry.ensures.memory)))

pub loop-preserved : goal.loop-preserved
loop-preserved c =
    let e = c.in_ok-entry.entry in
    let is : record { site = c.entry.inside.site; base = c.entry.inside.base; loose = c.deref.result.now } ≡ e = ap (λ (l : List ℕ). record { site = c.entry.inside.site; base = c.entry.inside.base; loose = l }) c.deref.ensures.value ∙ c.entry.view_is in
    let same : c.entry.inside.site ≡ e.site = ap (λ (x : EntryValue). x.site) c.entry.view_is in
    let now : c.add_entry.new.self ≡ set.union c.loop.context (entry_dots e) = c.in_ok-add_entry.ensures.ok ∙ ap (λ (x : EntryValue). set.union c.loop.context (entry_dots x)) is in
    record {
      sites = rw (now, same) (sites_after c.loop.context c.loop.previous e c.loop.invariant.sites c.in_ok-entry.ensures.above);
      so_far = rw (now, same) (dots_go_on (layout_of c.args.version) c.loop.context c.loop.previous c.args.count c.loop.counter c.loop.rest.now e c.in_ok-entry.after.now (dots_read (read_each (entry (layout_of c.args.version)) (λ _ e. e.site) 0 c.args.count c.args.bytes.now)) c.loop-test.true c.in_ok-entry.ensures.read c.loop.invariant.so_far);
    }

pub returns : goal.returns
returns c = dots_done (layout_of c.args.version) c.loop.context c.loop.previous c.args.count c.loop.counter c.loop.rest.now (dots_read (read_each (entry (layout_of c.args.version)) (λ _ e. e.site) 0 c.args.count c.args.bytes.now)) c.loop-test.false c.loop.invariant.so_far
