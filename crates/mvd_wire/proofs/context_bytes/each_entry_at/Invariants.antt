use Rattle.std.proofs.Common.{◌≡◌, ℕ, ◌≤◌, ◌-◌}
use Rattle.mvd_dots.specs.Context.{HoldsDot}
use Rattle.mvd_wire.specs.Codec.{read_each}
use Rattle.mvd_wire.specs.Codecs.{entry, layout_of, dots_read}
use Rattle.mvd_wire.proofs.Entries.{with_dots}
use Rattle.mvd_wire.proofs.context_bytes.each_entry_at.Given as goal

abbrev pub invariant-loop : goal.invariant-loop
invariant-loop l = record {
  sites : (site n : ℕ) → HoldsDot l.context site n → site ≤ l.previous;
  so_far : with_dots l.context (read_each (entry (layout_of l.version)) (λ _ e. e.site) l.previous (l.count - l.counter) l.rest) ≡ dots_read (read_each (entry (layout_of l.version)) (λ _ e. e.site) 0 l.count l.bytes);
}
