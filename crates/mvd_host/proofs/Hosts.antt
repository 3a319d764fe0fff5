-- The clients of a host, as they come and go.
use Rattle.std.proofs.Common.{◌≡◌, ℕ, ◌+◌, ◌<◌, ◌==◌, cond, Bool, true, false, List, [], length, Option, Some, None, refl, sym, ap, ◌∙◌, subst, arith}
use Rattle.std.proofs.lemmas.Bool.Decides.{nat_tests}
use Rattle.std.specs.Ordering.{nat_cmp}
use Rattle.std.specs.BTreeMap.{is_at}
use Rattle.mvd_conn.specs.History.{History, new_history}
use Rattle.mvd_conn.specs.declared.guard.Guard.{Guard}
use Rattle.mvd_host.specs.AtHand.{first_at_hand}
use Rattle.mvd_host.specs.Hosts.{AdmitsOne, AreKept, client_in, clients_most}

-- a query finds just its number
pub at_is : (n q : ℕ) → is_at (nat_cmp n) q ≡ (q == n)
at_is n q = grind (arith, nat_tests)

pub kept_none : (clients : List (ℕ × History)) → clients ≡ [] → AreKept clients 0
kept_none clients none = record {
  given = λ n h found. absurd (nothing n h found);
  below = omega arith;
  answered = λ n h found. absurd (nothing n h found);
}
  where
    nothing : (n : ℕ) (h : History) → client_in clients n ≡ Some h → ⊥
    nothing n h found = let no : ◌≡◌ {A = Option History} None (Some h) = sym (ap (λ (l : List (ℕ × History)). client_in l n) none) ∙ found in cc

came_in : (b : Bool) (h c : History) (o : Option History) (P : History → Type 0) → (b ≡ true → P h) → ((x : History) → o ≡ Some x → P x) → cond b (Some h) o ≡ Some c → P c
came_in true h c o P here there e = let same : h ≡ c = cc in subst P same (here refl)
came_in false h c o P here there e = there c e

pub kept_inserted : (guard : Option Guard) (old new : List (ℕ × History)) (n : ℕ) → AreKept old n → n < first_at_hand
    → ((q : ℕ) → client_in new q ≡ cond (is_at (nat_cmp n) q) (Some (new_history guard)) (client_in old q)) → AreKept new (n + 1)
kept_inserted guard old new n kept below is = record {
  given = λ q h found. came_in (is_at (nat_cmp n) q) (new_history guard) h (client_in old q) (λ _. q < n + 1) (λ at. grind (arith, nat_tests)) (λ x was. let below : q < n = kept.given q x was in omega arith) (sym (is q) ∙ found);
  below = omega (arith, below);
  answered = λ q h found. came_in (is_at (nat_cmp n) q) (new_history guard) h (client_in old q) (λ (c : History). length c.answers ≡ length c.taken) (λ _. refl) (kept.answered q) (sym (is q) ∙ found);
}

went : (b : Bool) (o : Option History) (c : History) → cond b None o ≡ Some c → o ≡ Some c
went true o c e = absurd (let no : ◌≡◌ {A = Option History} None (Some c) = e in cc)
went false o c e = e

pub kept_removed : (old new : List (ℕ × History)) (n admitted : ℕ) → AreKept old admitted
    → ((q : ℕ) → client_in new q ≡ cond (is_at (nat_cmp n) q) None (client_in old q)) → AreKept new admitted
kept_removed old new n admitted kept is = record {
  given = λ q h found. kept.given q h (went (is_at (nat_cmp n) q) (client_in old q) h (sym (is q) ∙ found));
  below = kept.below;
  answered = λ q h found. kept.answered q h (went (is_at (nat_cmp n) q) (client_in old q) h (sym (is q) ∙ found));
}

none_above : (n : ℕ) (o : Option History) → ((h : History) → o ≡ Some h → n < n) → o ≡ None
none_above n None below = refl
none_above n (Some h) below = absurd (let no : n < n = below h refl in omega arith)

-- no client has the next number
pub none_at : (clients : List (ℕ × History)) (n : ℕ) → AreKept clients n → client_in clients n ≡ None
none_at clients n kept = none_above n (client_in clients n) (λ h found. kept.given n h found)

pub admits : (guard : Option Guard) (old new : List (ℕ × History)) (n : ℕ) (h : History) → n < first_at_hand → length old < clients_most → length new ≡ length old + 1 → h ≡ new_history guard
    → ((q : ℕ) → client_in new q ≡ cond (is_at (nat_cmp n) q) (Some h) (client_in old q))
    → AdmitsOne guard (record { clients = old; admitted = n }) (record { clients = new; admitted = n + 1 }) n
admits guard old new n h below few more is_new is = record {
  number = refl;
  next = refl;
  below = below;
  few = few;
  more = more;
  clients = λ q. is q ∙ ap (λ b. cond b (Some h) (client_in old q)) (at_is n q) ∙ ap (λ c. cond (q == n) (Some c) (client_in old q)) is_new;
}
