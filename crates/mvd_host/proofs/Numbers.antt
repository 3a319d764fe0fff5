-- Of numbers at hand and those of connections, and what of a list is each one's own.
use Rattle.std.proofs.Common.{◌≡◌, ◌⊎◌, inl, inr, ℕ, ◌<◌, ◌≤◌, ◌==◌, Bool, true, false, cond, List, [], ◌∷◌, Option, Some, None, refl, sym, ap, ◌∙◌, arith}
use Rattle.std.specs.Prelude.{nat_le}
use Rattle.std.proofs.lemmas.Bool.Decides.{nat_tests}
use Rattle.mvd_wire.specs.declared.request.Request.{Request}
use Rattle.mvd_wire.specs.declared.reply.Reply.{Reply}
use Rattle.mvd_conn.specs.History.{History}
use Rattle.mvd_host.specs.AtHand.{AllMayWait, first_at_hand, told_at_hand}
use Rattle.mvd_host.specs.Course.{own}
use Rattle.mvd_host.specs.Hosts.{AreKept, client_in}
use Rattle.mvd_host.specs.Taking.{AreApart}

pub low_or_high : (n k : ℕ) → (n < k) ⊎ (k ≤ n)
low_or_high n k = by_eq (nat_le k n) refl
  where
    by_eq : (b : Bool) → nat_le k n ≡ b → (n < k) ⊎ (k ≤ n)
    by_eq true is = inr (grind (arith, nat_tests))
    by_eq false is = inl (grind (arith, nat_tests))

other_below : (m n k : ℕ) → k ≤ m → n < k → (m == n) ≡ false
other_below m n k high low = grind (arith, nat_tests)

other_above : (m n k : ℕ) → nat_le k m ≡ false → k ≤ n → (m == n) ≡ false
other_above m n k low high = grind (arith, nat_tests)

-- none of what is asked at hand is of a connection
pub own_below : (n : ℕ) (asks : List (ℕ × Request)) → AllMayWait asks → n < first_at_hand → own n asks ≡ []
own_below n [] all low = refl
own_below n (ask ∷ asks) all low = ap (λ b. cond b (ask.1 ∷ own n asks) (own n asks)) (other_below ask.0 n first_at_hand all.0.0 low) ∙ own_below n asks all.1 low

-- what one at hand is told is told at hand
pub own_at_hand : (n : ℕ) (replies : List (ℕ × Reply)) → first_at_hand ≤ n → own n (told_at_hand replies) ≡ own n replies
own_at_hand n [] high = refl
own_at_hand n (told ∷ replies) high = by_eq (own_at_hand n replies high) (nat_le first_at_hand told.0) refl
  where
    by_eq : own n (told_at_hand replies) ≡ own n replies → (b : Bool) → nat_le first_at_hand told.0 ≡ b → own n (cond b (told ∷ told_at_hand replies) (told_at_hand replies)) ≡ own n (told ∷ replies)
    by_eq rest true is = ap (λ l. cond (told.0 == n) (told.1 ∷ l) l) rest
    by_eq rest false is = rest ∙ sym (ap (λ b. cond b (told.1 ∷ own n replies) (own n replies)) (other_above told.0 n first_at_hand is high))

-- a client of a host has the number of a connection
pub below_hand : (clients : List (ℕ × History)) (admitted n : ℕ) (h : History) → AreKept clients admitted → client_in clients n ≡ Some h → n < first_at_hand
below_hand clients admitted n h kept found = let given = kept.given n h found in let below = kept.below in omega (arith, given, below)

pub are_apart : (asks : List (ℕ × Request)) (clients : List (ℕ × History)) (admitted : ℕ) → AllMayWait asks → AreKept clients admitted → AreApart asks clients
are_apart asks clients admitted may kept n h found = own_below n asks may (below_hand clients admitted n h kept found)

pub none_at_hand_there : (clients : List (ℕ × History)) (admitted n : ℕ) → AreKept clients admitted → first_at_hand ≤ n → client_in clients n ≡ None
none_at_hand_there clients admitted n kept high = by_client (client_in clients n) (λ h found. below_hand clients admitted n h kept found)
  where
    by_client : (o : Option History) → ((h : History) → o ≡ Some h → n < first_at_hand) → o ≡ None
    by_client None low = refl
    by_client (Some h) low = absurd (let no : n < first_at_hand = low h refl in omega (arith, no, high))
