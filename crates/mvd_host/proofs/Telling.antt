-- The clients of a round with what they were told, one after the other.
use Rattle.std.proofs.Common.{◌≡◌, ℕ, zero, suc, ◌<◌, ◌≤◌, true, false, cond, List, [], ◌∷◌, drop, get_or, length, map, set, zip, refl, sym, ap, ◌∙◌, arith}
use Rattle.std.proofs.lemmas.List.{length-map}
use Rattle.std.proofs.Math.ListN.{drop_of_length-le}
use Rattle.std.proofs.lemmas.Bool.Decides.{nat_tests}
use Rattle.std.specs.Prelude.{nat_le}
use Rattle.mvd_wire.specs.declared.reply.Reply.{Reply}
use Rattle.mvd_wire.specs.declared.reply.Reply.TheVariants.{Refused}
use Rattle.mvd_host.specs.AtHand.{first_at_hand, told_at_hand}
use Rattle.mvd_host.specs.KeptAtHand.{told_each}
use Rattle.mvd_host.specs.declared.at_hand.Told.{Told}
use Rattle.mvd_host.specs.declared.at_hand.Told.TheVariants.{Each, All}

zip_short : {X Y : Type 0} (xs : List X) (ys : List Y) → (length (zip xs ys) ≤ length xs) × (length (zip xs ys) ≤ length ys)
zip_short [] ys = (omega arith, omega arith)
zip_short (x ∷ xs) [] = (omega arith, omega arith)
zip_short (x ∷ xs) (y ∷ ys) = let rest = zip_short xs ys in (omega (arith, rest.0), omega (arith, rest.1))

-- no reply is left at this place
pub each_past : (clients : List ℕ) (replies : List Reply) (i : ℕ) → length replies ≤ i → drop i (zip clients replies) ≡ []
each_past clients replies i past = let short = zip_short clients replies in drop_of_length-le (zip clients replies) (omega (arith, short.1))

-- nor a client
pub none_past : (clients : List ℕ) (told : Told) (i : ℕ) → length clients ≤ i → drop i (told_each clients told) ≡ []
none_past clients (Each replies) i past = let short = zip_short clients replies.items in drop_of_length-le (zip clients replies.items) (omega (arith, short.0))
none_past clients (All refusal) i past = let all = length-map {B = ℕ × Reply} clients (λ n. (n, Refused refusal)) in drop_of_length-le (map {B = ℕ × Reply} (λ n. (n, Refused refusal)) clients) (omega (arith, all))

-- one is there, and another is put into its place
pub each_at : (clients : List ℕ) (replies : List Reply) (i : ℕ) (reply other : Reply) → i < length clients → i < length replies → reply ≡ get_or replies i reply →
    drop i (zip clients replies) ≡ (get_or clients i 0, reply) ∷ drop (suc i) (zip clients (set replies i other))
each_at (n ∷ clients) (r ∷ replies) zero reply other low lower is = ap (λ x. (n, x) ∷ zip clients replies) (sym is)
each_at (n ∷ clients) (r ∷ replies) (suc i) reply other low lower is = each_at clients replies i reply other (omega arith) (omega arith) is
each_at [] replies i reply other low lower is = absurd (omega arith)
each_at (n ∷ clients) [] i reply other low lower is = absurd (omega arith)

-- all are told one thing
pub all_at : (clients : List ℕ) (reply : Reply) (i : ℕ) → i < length clients → drop i (map {B = ℕ × Reply} (λ n. (n, reply)) clients) ≡ (get_or clients i 0, reply) ∷ drop (suc i) (map {B = ℕ × Reply} (λ n. (n, reply)) clients)
all_at (n ∷ clients) reply zero low = refl
all_at (n ∷ clients) reply (suc i) low = all_at clients reply i (omega arith)
all_at [] reply i low = absurd (omega arith)

-- ---- those at hand

pub hand_next : (told : List (ℕ × Reply)) (n : ℕ) (reply : Reply) (rest : List (ℕ × Reply)) → told ≡ (n, reply) ∷ rest → first_at_hand ≤ n → told_at_hand told ≡ (n, reply) ∷ told_at_hand rest
hand_next told n reply rest is high = ap told_at_hand is ∙ ap (λ b. cond b ((n, reply) ∷ told_at_hand rest) (told_at_hand rest)) yes
  where
    yes : nat_le first_at_hand n ≡ true
    yes = grind (arith, nat_tests)

pub hand_past : (told : List (ℕ × Reply)) (n : ℕ) (reply : Reply) (rest : List (ℕ × Reply)) → told ≡ (n, reply) ∷ rest → n < first_at_hand → told_at_hand told ≡ told_at_hand rest
hand_past told n reply rest is low = ap told_at_hand is ∙ ap (λ b. cond b ((n, reply) ∷ told_at_hand rest) (told_at_hand rest)) no
  where
    no : nat_le first_at_hand n ≡ false
    no = grind (arith, nat_tests)
