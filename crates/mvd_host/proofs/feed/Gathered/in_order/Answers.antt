use Rattle.std.proofs.Common.{◌≡◌, ◌+◌, ◌-◌, ◌∙◌, ◌++◌, ◌∷◌, [], List, Result, Ok, ap, arith, drop, map, reverse}
use Rattle.std.specs.Borrow.{Bor}
use Rattle.mvd_dots.specs.declared.refusals.Refusal.{Refusal}
use Rattle.mvd_keys.specs.Writes.{Key}
use Rattle.mvd_host.proofs.Feeding.{one_copied}
use Rattle.mvd_host.proofs.feed.Gathered.in_order.Goals as goal

ok_is : (a b : Key) → ◌≡◌ {A = Result Key Refusal} (Ok a) (Ok b) → a ≡ b
ok_is a b e = cc

pub copying-preserved : goal.copying-preserved
copying-preserved c =
    let found = c.args.self.now.found.items in
    let i = c.copying.left - 1 in
    let next : c.copying.left ≡ i + 1 = omega arith in
    let copied : c.index.result.now.now ≡ c.in_ok-copy.field-0 = ok_is c.index.result.now.now c.in_ok-copy.field-0 c.in_ok-copy.ensures in (
      omega arith,
      c.in_ok-push.ensures.items ∙ ap (λ (l : List Key). l ++ c.in_ok-copy.field-0 ∷ []) (c.copying.invariant.1 ∙ ap (λ n. reverse (drop n (map (λ (k : Bor Key). k.now) found))) next)
          ∙ one_copied found i c.index.result.now c.in_ok-copy.field-0 (omega arith) c.index.ensures copied,
    )
