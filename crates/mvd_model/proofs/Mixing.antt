-- What happens at each site alone is one behaviour of all, in whatever order.
use Rattle.std.proofs.Common.{◌≡◌, ◌≢◌, ℕ, if◌then◌else◌, List, [], ◌∷◌, refl, sym, ap, subst, subst₂, ⊎_elim, eq-eqb, ne_eqb}
use Rattle.std.proofs.lemmas.Bool.Decides.{eqb_tells}
use Rattle.mvd_model.specs.TheStore.{Does, Event, Happen, Knows, at_site}
use Rattle.mvd_model.specs.Apart.{HappenAt, events_at}
use Rattle.mvd_model.proofs.Placing.{does_next, placed, placed_at, placed_else}

here : (i : ℕ) (event : Event) (events : List Event) → i ≡ at_site event → events_at i (event ∷ events) ≡ event ∷ events_at i events
here i event events is = ap (λ b. if b then event ∷ events_at i events else events_at i events) (eq-eqb i (at_site event) is)

elsewhere : (i : ℕ) (event : Event) (events : List Event) → i ≢ at_site event → events_at i (event ∷ events) ≡ events_at i events
elsewhere i event events other = ap (λ b. if b then event ∷ events_at i events else events_at i events) (ne_eqb i (at_site event) other)

pub mixed : (a end : Knows) (events : List Event) → ((i : ℕ) → HappenAt (a i) (events_at i events) (end i)) → Happen a events end
mixed a end [] each = λ k i. each i k
mixed a end (event ∷ events) each =
    let i : ℕ = at_site event in
    let own : HappenAt (a i) (event ∷ events_at i events) (end i) = subst (λ es. HappenAt (a i) es (end i)) (here i event events refl) (each i) in
    let b : Knows = placed a i own.0 in (
      b,
      does_next a event own.0 own.1,
      mixed b end events (λ j. ⊎_elim
          (λ same. subst (λ n. HappenAt (b n) (events_at n events) (end n)) (sym same.1) (subst (λ s. HappenAt s (events_at i events) (end i)) (sym (placed_at a i own.0)) own.2))
          (λ other. subst₂ (λ s es. HappenAt s es (end j)) (sym (placed_else a i own.0 j other.1)) (elsewhere j event events other.1) (each j))
          (eqb_tells j i)),
    )

pub alone : (a end : Knows) (events : List Event) → Happen a events end → (i : ℕ) → HappenAt (a i) (events_at i events) (end i)
alone a end [] happen i = ap (λ (k : Knows). k i) happen
alone a end (event ∷ events) (b, does, rest) i =
    let later = alone b end events rest i in
    ⊎_elim
    (λ same. subst (λ es. HappenAt (a i) es (end i)) (sym (here i event events same.1)) (b i, subst (λ n. Does event (a n) (b n)) (sym same.1) does.0, later))
    (λ other. subst₂ (λ s es. HappenAt s es (end i)) (does.1 i other.1) (sym (elsewhere i event events other.1)) later)
    (eqb_tells i (at_site event))
