-- A minted dot is the site's next one, and no write has it.
use Rattle.std.proofs.Common.{◌≡◌, ℕ, ◌+◌, ◌<◌, ◌≤◌, Bool, true, false, nat_lt, if◌then◌else◌, ◌||◌, ◌≢◌, ◌↔◌, List, Option, Some, None, Result, Ok, Err, Contains, is_some, refl, sym, ap, ◌∙◌, subst, arith, true≢false, ltb-true}
use Rattle.std.specs.FinSet.{contains, union}
use Rattle.mvd_dots.specs.Dot.{DotValue}
use Rattle.mvd_dots.specs.Context.{DotSet, HoldsDot, greatest}
use Rattle.mvd_dots.specs.declared.dots.TheConstants.{COUNTER_MAX}
use Rattle.mvd_dots.proofs.Greatest.{greatest_bounds}
use Rattle.mvd_keys.specs.Minting.{mint}
use Rattle.mvd_dots.specs.Answer.{IsAnswer}
use Rattle.mvd_dots.specs.declared.refusals.Refusal.{Refusal}
use Rattle.mvd_dots.specs.declared.refusals.Refusal.TheVariants.{Exhausted, Memory}
use Rattle.mvd_keys.specs.State.{State, Text, after_put, put_with}
use Rattle.mvd_keys.specs.Writes.{Key, Write, Wrote, context, covered}
use Rattle.mvd_keys.proofs.Parts.{minted_unseen}
use Rattle.mvd_keys.proofs.Sets.{is_some-put_at}
use Rattle.mvd_keys.proofs.StatesOfWrites.{contains-context, put_at}

-- a minted dot is the next one after the greatest, which was not the last
pub record IsNext (site : ℕ) (seen : DotSet) (dot : DotValue) : Type 0 where
  pub own : dot.site ≡ site
  pub next : dot.counter ≡ greatest site seen + 1
  pub early : greatest site seen < COUNTER_MAX

pub minted_next : (site : ℕ) (seen : DotSet) (dot : DotValue) → mint site seen ≡ Some dot → IsNext site seen dot
minted_next site seen dot h =
    elim (nat_lt (greatest site seen) COUNTER_MAX) as (λ b. nat_lt (greatest site seen) COUNTER_MAX ≡ b → (if b then Some (record { site = site; counter = greatest site seen + 1 }) else None) ≡ Some dot → IsNext site seen dot) [
      | true ↦ λ low e.
          let one : ◌≡◌ {A = DotValue} (record { site = site; counter = greatest site seen + 1 }) dot = cc in
          record { own = sym (ap (λ (d : DotValue). d.site) one); next = sym (ap (λ (d : DotValue). d.counter) one); early = ltb-true _ _ low }
      | false ↦ λ _ e. cc
    ] refl h

pub minted_within : (site : ℕ) (seen : DotSet) (dot : DotValue) → mint site seen ≡ Some dot → (1 ≤ dot.counter) × (dot.counter ≤ COUNTER_MAX)
minted_within site seen dot h = let next = minted_next site seen dot h in (omega (arith, next.next), omega (arith, next.next, next.early))

pub minted_above : (site : ℕ) (seen : DotSet) (dot : DotValue) (n : ℕ) → mint site seen ≡ Some dot → HoldsDot seen site n → n < dot.counter
minted_above site seen dot n h has = let next = minted_next site seen dot h in let low : n ≤ greatest site seen = greatest_bounds seen site n has in omega (arith, next.next)

seen_too : (a b : Bool) → b ≡ true → (a || b) ≡ true
seen_too true b h = refl
seen_too false b h = h

-- no write of the key has the dot
pub minted_unwritten : (key : Key) (W : List Write) (site : ℕ) (seen also_seen : DotSet) (dot : DotValue) (document : Text) → mint site (union (context key W) seen) ≡ Some dot → Contains W (Wrote key dot also_seen document) → ⊥
minted_unwritten key W site seen also_seen dot document h written =
    true≢false (sym (contains-context key W dot ∙ seen_too (contains (covered key W) dot) (is_some (put_at key W dot)) (is_some-put_at key W dot document (also_seen, written)))
    ∙ minted_unseen (context key W) seen site dot (sym h))

-- ---- what a put answers, from the dot that is minted or missing

-- with the dot minted, the answer of a put is the state after it
pub put_as_minted : (r : Result (State × DotValue) Refusal) (s : State) (seen : DotSet) (document : Text) (dot : DotValue) (next : Option DotValue) → Some dot ≡ next → IsAnswer r (Ok (after_put s dot seen document, dot)) → IsAnswer r (put_with s seen document next)
put_as_minted r s seen document dot next is answer = subst (λ o. IsAnswer r (put_with s seen document o)) is answer

no_dot : (dot : DotValue) → ◌≡◌ {A = Option DotValue} None (Some dot) → ⊥
no_dot dot e = cc

not_memory : Exhausted ≢ Memory
not_memory e = cc

never_exhausted : (r : Result (State × DotValue) Refusal) (x : State × DotValue) → IsAnswer r (Ok x) → r ≡ Err Exhausted → ⊥
never_exhausted (Ok y) x answer e = cc
never_exhausted (Err refusal) x answer e =
    let is : refusal ≡ Exhausted = cc in
    let other : ◌≡◌ {A = Result (State × DotValue) Refusal} (Ok x) (Err refusal) = answer (λ memory. not_memory (sym is ∙ memory)) in
    absurd (cc)

-- where there is a next dot, no put is refused for want of one
pub exhausted_never : (r : Result (State × DotValue) Refusal) (x : State × DotValue) (dot : DotValue) (next : Option DotValue) → Some dot ≡ next → IsAnswer r (Ok x) → (r ≡ Err Exhausted) ↔ (next ≡ None)
exhausted_never r x dot next is answer = (λ e. absurd (never_exhausted r x answer e), λ none. absurd (no_dot dot (sym (is ∙ none))))

pub exhausted_none : (next : Option DotValue) → None ≡ next → ◌≡◌ {A = Result (State × DotValue) Refusal} (Err Exhausted) (Err Exhausted) ↔ (next ≡ None)
exhausted_none next is = (λ _. sym is, λ _. refl)
