-- What is to be done for the keys of a window.
use Rattle.std.proofs.Common.{◌≡◌, ◌++◌, ◌↔◌, ℕ, Bool, true, false, List, [], ◌∷◌, map, filter_map, refl, sym, ap, subst, ◌∙◌, Some, None, Option, option_map}
use Rattle.std.specs.Prelude.{IsTrue}
use Rattle.std.specs.List.{cons_option}
use Rattle.std.proofs.lemmas.List.{map-append}
use Rattle.std.proofs.lemmas.List.Elements.{filter_map-append}
use Rattle.mvd_keys.specs.State.{IsValid, State, empty_state}
use Rattle.mvd_keys.proofs.Joins.{apart_empty, empty_apart}
use Rattle.mvd_sync.specs.Meetings.{ArePlans, IsPlan, first_if, meet, or_empty, pushed_pair, rest_if, taken_from, wanted}
use Rattle.mvd_sync.specs.Olds.{HasUnseen}
use Rattle.mvd_sync.specs.declared.cursor.Entry.{Entry}
use Rattle.mvd_sync.specs.declared.meetings.Meeting.{Meeting}
use Rattle.mvd_sync.specs.declared.report.Side.{Side}
use Rattle.mvd_sync.specs.declared.report.Side.TheVariants.{Local as AtLocal, Peer as AtPeer}

-- a meeting that hands states over as they are
abbrev pub handed : List ℕ → Bool → Option State → Option State → Meeting
handed key is_old pull give = record { key = key; is_old = is_old; pull = pull; give = give; asked = false; refused = None }

module _ (key : List ℕ) (is_old : Bool) where
  pub plan_mine : (s : State) → IsValid s → IsPlan key is_old (Some s) None (handed key is_old None (Some s))
  plan_mine s valid = record { of_key = refl; told_old = refl; fresh = refl; meets = meet (empty_apart s) refl refl refl; pull_valid = tt; give_valid = valid }

  pub plan_theirs : (t : State) → IsValid t → IsPlan key is_old None (Some t) (handed key is_old (Some t) None)
  plan_theirs t valid = record { of_key = refl; told_old = refl; fresh = refl; meets = meet (apart_empty t) refl refl refl; pull_valid = valid; give_valid = tt }

  pub plan_none : IsPlan key is_old None None (handed key is_old None None)
  plan_none = record { of_key = refl; told_old = refl; fresh = refl; meets = meet (empty_apart empty_state) refl refl refl; pull_valid = tt; give_valid = tt }

  pub plan_at : (mine mine' theirs theirs' : Option State) (m m' : Meeting) → mine ≡ mine' → theirs ≡ theirs' → m ≡ m' → IsPlan key is_old mine' theirs' m' → IsPlan key is_old mine theirs m
  plan_at mine mine' theirs theirs' m m' e f g plan =
      subst (λ o. IsPlan key is_old o theirs m) (sym e) (subst (λ o. IsPlan key is_old mine' o m) (sym f) (subst (IsPlan key is_old mine' theirs') (sym g) plan))

-- one plan more, before the others
pub plans_more : (number : Option ℕ) (e : Entry) (es : List Entry) (mine theirs mine' theirs' : List State) (own other : Option State) (r : Bool) (m : Meeting) (ms : List Meeting)
    → own ≡ first_if e.mine mine → mine' ≡ rest_if e.mine mine → other ≡ first_if e.theirs theirs → theirs' ≡ rest_if e.theirs theirs
    → IsPlan e.key r own other m → (IsTrue r ↔ HasUnseen number (or_empty own) (or_empty other)) → ArePlans number es mine' theirs' ms → ArePlans number (e ∷ es) mine theirs (m ∷ ms)
plans_more number e es mine theirs mine' theirs' own other r m ms o o' t t' plan old more =
    let at : (x y : Option State) → own ≡ x → other ≡ y → (IsPlan e.key m.is_old x y m) × ((m.is_old ≡ true) ↔ HasUnseen number (or_empty x) (or_empty y))
    = λ x y p q.
    subst (λ x. (IsPlan e.key m.is_old x y m) × ((m.is_old ≡ true) ↔ HasUnseen number (or_empty x) (or_empty y))) p
    (subst (λ y. (IsPlan e.key m.is_old own y m) × ((m.is_old ≡ true) ↔ HasUnseen number (or_empty own) (or_empty y))) q
    (subst (λ b. (IsPlan e.key b own other m) × ((b ≡ true) ↔ HasUnseen number (or_empty own) (or_empty other))) (sym plan.told_old) (plan, old))) in
    let both = at (first_if e.mine mine) (first_if e.theirs theirs) o t in
    (both.0, both.1, subst (λ v. ArePlans number es (rest_if e.mine mine) v ms) t' (subst (λ v. ArePlans number es v theirs' ms) o' more))

key_taken : (side : Side) (m : Meeting) → (taken_from side m).key ≡ m.key
key_taken AtLocal m = refl
key_taken AtPeer m = refl

-- one more was taken out
pub pairs_more : (side : Side) (ms : List Meeting) (m n : Meeting) (ps qs : List (List ℕ × State)) (state : Option State) → ps ≡ filter_map (pushed_pair side) ms → state ≡ wanted side m → n ≡ taken_from side m → qs ≡ ps ++ cons_option (option_map (λ s. (n.key, s)) state) [] → qs ≡ filter_map (pushed_pair side) (ms ++ m ∷ [])
pairs_more side ms m n ps qs state p w t q =
    q ∙ ap (λ xs. xs ++ cons_option (option_map (λ s. (n.key, s)) state) []) p
    ∙ ap (λ k. filter_map (pushed_pair side) ms ++ cons_option (option_map (λ s. (k, s)) state) []) (ap (λ (v : Meeting). v.key) t ∙ key_taken side m)
    ∙ ap (λ o. filter_map (pushed_pair side) ms ++ cons_option (option_map (λ s. (m.key, s)) o) []) w
    ∙ sym (filter_map-append (pushed_pair side) ms (m ∷ []))

pub asked_more : (side : Side) (ms : List Meeting) (m n : Meeting) (xs ys : List Meeting) → xs ≡ map (taken_from side) ms → n ≡ taken_from side m → ys ≡ xs ++ n ∷ [] → ys ≡ map (taken_from side) (ms ++ m ∷ [])
asked_more side ms m n xs ys p t q =
    q ∙ ap (λ v. v ++ n ∷ []) p ∙ ap (λ v. map (taken_from side) ms ++ v ∷ []) t ∙ sym (map-append (taken_from side) ms (m ∷ []))
