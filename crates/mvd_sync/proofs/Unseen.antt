-- Dots that one context has and another has not.
use Rattle.std.proofs.Common.{◌≡◌, ℕ, zero, suc, ◌<◌, ◌≤◌, Bool, true, false, not, ◌⊎◌, inl, inr, List, [], ◌∷◌, length, get_or, refl, sym, ap, ◌∙◌, subst, arith, true≢false, ◌↔◌}
use Rattle.std.specs.Prelude.{IsTrue, Option, Some, None}
use Rattle.std.specs.FinSet as set
use Rattle.mvd_dots.specs.Dot.{DotValue}
use Rattle.mvd_dots.specs.Entry.{Among, EntryValue, HasCounter, IsEntry}
use Rattle.mvd_dots.specs.Context.{AreEntriesOf, DotSet, HoldsDot, IsEntryAt}
use Rattle.mvd_dots.proofs.EntryLists.{place_of_site}
use Rattle.mvd_keys.specs.State.{State, empty_state}
use Rattle.mvd_sync.specs.Olds.{HasUnseen}
use Rattle.mvd_dots.proofs.Members.{some_dot}
use Rattle.mvd_dots.proofs.Sets.{empty_holds}

-- no entry of the site, no dot of it
pub no_entry : (dots : DotSet) (es : List EntryValue) (site : ℕ) → AreEntriesOf dots es → ((k : ℕ) (d : EntryValue) → k < length es → (get_or es k d).site ≡ site → ⊥) → (n : ℕ) → HoldsDot dots site n → ⊥
no_entry dots es site of_set none n holds =
    let d : EntryValue = record { site = 0; base = 0; loose = [] } in
    let at = place_of_site es site n d (subst (λ s. HoldsDot s site n) (sym of_set.same) holds) in
    none at.0 d at.1 at.2

-- an entry has a dot
pub not_empty : (e : EntryValue) → IsEntry e → ((n : ℕ) → HasCounter e.base e.loose n → HoldsDot set.empty e.site n) → ⊥
not_empty e form all = let some = some_dot e form in empty_holds e.site some.0 (all some.0 some.1)

pub not_missing : (e : EntryValue) (dots : DotSet) → IsEntry e → ((n : ℕ) → HoldsDot dots e.site n → ⊥) → ((n : ℕ) → HasCounter e.base e.loose n → HoldsDot dots e.site n) → ⊥
not_missing e dots form none all = let some = some_dot e form in none some.0 (all some.0 some.1)

-- ---- all of them, or one that is not

all_up_to : (P : ℕ → Bool) (base : ℕ) → ((n : ℕ) → 0 < n → n ≤ base → P n ≡ true) ⊎ ((n : ℕ) × (0 < n) × (n ≤ base) × (P n ≡ false))
all_up_to P zero = inl (λ n low high. absurd (omega arith))
all_up_to P (suc base) =
    elim (all_up_to P base) [
      | inr found ↦ inr (found.0, found.1, omega (arith, found.2), found.3)
      | inl all ↦ elim (P (suc base)) as (λ b. P (suc base) ≡ b → ((n : ℕ) → 0 < n → n ≤ suc base → P n ≡ true) ⊎ ((n : ℕ) × (0 < n) × (n ≤ suc base) × (P n ≡ false))) [
        | false ↦ λ e. inr (suc base, omega arith, omega arith, e)
        | true ↦ λ e. inl (λ n low high. elim (Rattle.std.proofs.lemmas.Bool.cases_eq n (suc base)) [
          | inl is ↦ ap P is ∙ e
          | inr other ↦ all n low (omega arith)
        ])
      ] refl
    ]

all_among : (P : ℕ → Bool) (ns : List ℕ) → ((n : ℕ) → Among ns n → P n ≡ true) ⊎ ((n : ℕ) × Among ns n × (P n ≡ false))
all_among P [] = inl (λ n h. absurd h)
all_among P (x ∷ ns) =
    elim (all_among P ns) [
      | inr found ↦ inr (found.0, inr found.1, found.2)
      | inl all ↦ elim (P x) as (λ b. P x ≡ b → ((n : ℕ) → Among (x ∷ ns) n → P n ≡ true) ⊎ ((n : ℕ) × Among (x ∷ ns) n × (P n ≡ false))) [
        | false ↦ λ e. inr (x, inl refl, e)
        | true ↦ λ e. inl (λ n h. elim h [ inl is ↦ ap P is ∙ e | inr later ↦ all n later ])
      ] refl
    ]

all_counters : (P : ℕ → Bool) (base : ℕ) (loose : List ℕ) → ((n : ℕ) → HasCounter base loose n → P n ≡ true) ⊎ ((n : ℕ) × HasCounter base loose n × (P n ≡ false))
all_counters P base loose =
    elim (all_up_to P base) [
      | inr found ↦ inr (found.0, inl (found.1, found.2), found.3)
      | inl low ↦ elim (all_among P loose) [
        | inr found ↦ inr (found.0, inr found.1, found.2)
        | inl high ↦ inl (λ n has. elim has [ inl k ↦ low n k.0 k.1 | inr k ↦ high n k ])
      ]
    ]

dot_at : ℕ → ℕ → DotValue
dot_at site counter = record { site = site; counter = counter }

not_true : (b : Bool) → (b ≡ true → ⊥) → not b ≡ true
not_true true h = absurd (h refl)
not_true false h = refl

not_both : (b : Bool) → not b ≡ true → b ≡ true → ⊥
not_both true h e = absurd (true≢false (sym h))
not_both false h e = absurd (true≢false (sym e))

module _ (site : ℕ) (mine theirs : State) (e : EntryValue) (at : IsEntryAt theirs.context site e) (r : Bool) (is : IsTrue r ↔ ((n : ℕ) → HasCounter e.base e.loose n → HoldsDot mine.context e.site n)) where
  -- a dot of the site is unseen just where not all of them are seen
  pub unseen_there : IsTrue (not r) → HasUnseen (Some site) mine theirs
  unfolding dot_at
  unseen_there h =
      elim (all_counters (λ n. set.contains mine.context (dot_at e.site n)) e.base e.loose) [
        | inl all ↦ absurd (not_both r h (is.1 all))
        | inr found ↦
            (dot_at e.site found.0, at.at, subst (λ s. HoldsDot theirs.context s found.0) (sym at.at) (at.back found.0 found.1), found.2)
      ]

  pub unseen_back : HasUnseen (Some site) mine theirs → IsTrue (not r)
  unseen_back (dot, same, there, not_here) =
      not_true r (λ h.
      let held : HoldsDot theirs.context site dot.counter = subst (λ s. HoldsDot theirs.context s dot.counter) same there in
      let here : HoldsDot mine.context dot.site dot.counter = subst (λ s. HoldsDot mine.context s dot.counter) (at.at ∙ sym same) (is.0 h dot.counter (at.there dot.counter held)) in
      true≢false (sym here ∙ not_here))

-- where the peer has no dot of the site, none is unseen
pub none_unseen : (site : ℕ) (mine theirs : State) → ((n : ℕ) → HoldsDot theirs.context site n → ⊥) → HasUnseen (Some site) mine theirs → ⊥
none_unseen site mine theirs none (dot, same, there, not_here) = none dot.counter (subst (λ s. HoldsDot theirs.context s dot.counter) same there)

pub nothing_unseen : (number : Option ℕ) (mine : State) → HasUnseen number mine empty_state → ⊥
nothing_unseen None mine h = h
nothing_unseen (Some site) mine (dot, same, there, not_here) = empty_holds dot.site dot.counter there
