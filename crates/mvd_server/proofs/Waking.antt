-- The earlier of two times.
use Rattle.std.proofs.Common.{◌≡◌, ◌≤◌, ◌<◌, ◌+◌, ℕ, List, Option, Some, None, true, arith, below_more, get_or, length, subst, sym, ◌∙◌}
use Rattle.std.proofs.lemmas.List.{get_or_default}
use Rattle.std.specs.Prelude.{IsSomeAnd}
use Rattle.mvd_meet.specs.Times.{due_of}
use Rattle.mvd_server.specs.Dues.{earlier_of}
use Rattle.mvd_server.specs.Peerings.{is_resting}
use Rattle.mvd_server.specs.declared.peering.Peering.{Peering}

pub earlier_first : (first second : Option ℕ) (n : ℕ) → IsSomeAnd first (λ due. due ≤ n) → IsSomeAnd (earlier_of first second) (λ due. due ≤ n)
earlier_first None second n never = absurd never
earlier_first (Some a) None n low = low
earlier_first (Some a) (Some b) n low = omega (arith, low)

pub earlier_second : (first second : Option ℕ) (n : ℕ) → IsSomeAnd second (λ due. due ≤ n) → IsSomeAnd (earlier_of first second) (λ due. due ≤ n)
earlier_second None second n low = low
earlier_second (Some a) None n never = absurd never
earlier_second (Some a) (Some b) n low = omega (arith, low)

-- one of them
abbrev IsLookedAt : Peering → Option ℕ → Type 0
IsLookedAt peer time = is_resting peer.link ≡ true → IsSomeAnd time (λ due. due ≤ due_of peer.schedule)

due_at : (time : Option ℕ) (n : ℕ) → time ≡ Some n → IsSomeAnd time (λ due. due ≤ n)
due_at time n is = subst (λ (t : Option ℕ). IsSomeAnd t (λ due. due ≤ n)) (sym is) (omega arith)

pub earlier_due : (first second time : Option ℕ) (n : ℕ) → time ≡ earlier_of first second → first ≡ Some n → IsSomeAnd time (λ due. due ≤ n)
earlier_due first second time n both is = subst (λ (t : Option ℕ). IsSomeAnd t (λ due. due ≤ n)) (sym both) (earlier_first first second n (due_at first n is))

-- one more is looked at in time
pub looks_more : (peers : List Peering) (i : ℕ) (item : Peering) (first second time : Option ℕ) → i < length peers → item ≡ get_or peers i item
    → time ≡ earlier_of first second → (is_resting item.link ≡ true → IsSomeAnd second (λ due. due ≤ due_of item.schedule))
    → ((k : ℕ) (d : Peering) → k < i → IsLookedAt (get_or peers k d) first)
    → (k : ℕ) (d : Peering) → k < i + 1 → IsLookedAt (get_or peers k d) time
looks_more peers i item first second time at is both looks before k d low =
    let earlier : (k : ℕ) → k < i → IsLookedAt (get_or peers k d) time =
    λ k low rests. subst (λ (t : Option ℕ). IsSomeAnd t (λ due. due ≤ due_of (get_or peers k d).schedule)) (sym both)
    (earlier_first first second _ (before k d low rests)) in
    let last : IsLookedAt item time =
    λ rests. subst (λ (t : Option ℕ). IsSomeAnd t (λ due. due ≤ due_of item.schedule)) (sym both)
    (earlier_second first second _ (looks rests)) in
    let all : (k : ℕ) → k < i + 1 → IsLookedAt (get_or peers k d) time =
    below_more _ _ earlier (subst (λ (p : Peering). IsLookedAt p time) (is ∙ get_or_default peers i item d at) last) in
    all k low
