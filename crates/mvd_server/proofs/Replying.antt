-- What this server's own sessions are told, and by which of them it is heard.
use Rattle.std.proofs.Common.{◌≡◌, ◌∙◌, ◌<◌, ◌≤◌, ◌+◌, ◌++◌, ℕ, Bool, true, false, true≢false, cond, List, [], ◌∷◌, Option, None, Some, ap, append-nil, append_assoc, arith, below_more, get_or, length, nat_le, not, refl, set, subst, sym, ⊎_elim}
use Rattle.std.proofs.lemmas.Bool.Decides.{nat_tests}
use Rattle.std.proofs.lemmas.List.Elements.{filter-append}
use Rattle.std.proofs.lemmas.Bool.{cases_eq}
use Rattle.std.proofs.lemmas.List.{get_or-set_other, get_or-set_same, get_or_default}
use Rattle.mvd_host.specs.AtHand.{AtHandValue, TakesFirst}
use Rattle.mvd_meet.specs.Nears.{near_has_all}
use Rattle.mvd_server.specs.Replied.{EndsIfLost, HearsAll, HearsAs, KeepsReplies, has_number, told_own}
use Rattle.mvd_server.specs.Talking.{first_own}
use Rattle.mvd_server.specs.declared.own_session.OwnSession.{OwnSession}
use Rattle.mvd_server.specs.declared.peering.Peering.{Peering}
use Rattle.mvd_server.specs.declared.talks.Talks.{Talks}
use Rattle.mvd_server.specs.declared.talks.own.Heard.{Heard}
use Rattle.mvd_wire.specs.declared.reply.Reply.{Reply}

-- a number is one of a session
pub own_above : (n : ℕ) → nat_le first_own n ≡ true → first_own ≤ n
own_above n is = grind (arith, nat_tests, is)

-- ---- replies that are taken away

-- none is
pub keeps_none : (old new : Talks) → new.hand ≡ old.hand → new.heard ≡ old.heard → KeepsReplies old new
keeps_none old new hand heard = record {
  more = [];
  taken = ap (λ (h : AtHandValue). h.taken) hand ∙ sym (append-nil old.hand.taken);
  kept = λ none. ap (λ (h : Heard). h.told.items) heard ∙ sym (append-nil old.heard.told.items);
  lost = λ is. ap (λ (h : Heard). h.has_lost) heard ∙ is;
}

-- one to a session
pub keeps_own : (n : ℕ) (reply : Reply) (old new : Talks) → TakesFirst old.hand (Some (n, reply)) new.hand → nat_le first_own n ≡ true
    → (new.heard.has_lost ≡ false → new.heard.told.items ≡ old.heard.told.items ++ (n, reply) ∷ []) → (old.heard.has_lost ≡ true → new.heard.has_lost ≡ true) → KeepsReplies old new
keeps_own n reply old new takes own keeps lost = record {
  more = (n, reply) ∷ [];
  taken = ap (λ (h : AtHandValue). h.taken) takes.1;
  kept = λ none. keeps none ∙ ap (λ b. old.heard.told.items ++ cond b ((n, reply) ∷ []) []) (sym own);
  lost = lost;
}

-- one to another client
pub keeps_other : (n : ℕ) (reply : Reply) (old new : Talks) → TakesFirst old.hand (Some (n, reply)) new.hand → nat_le first_own n ≡ false → new.heard ≡ old.heard → KeepsReplies old new
keeps_other n reply old new takes other same = record {
  more = (n, reply) ∷ [];
  taken = ap (λ (h : AtHandValue). h.taken) takes.1;
  kept = λ none.
      ap (λ (h : Heard). h.told.items) same ∙ sym (append-nil old.heard.told.items)
      ∙ ap (λ b. old.heard.told.items ++ cond b ((n, reply) ∷ []) []) (sym other);
  lost = λ is. ap (λ (h : Heard). h.has_lost) same ∙ is;
}

-- one after the other
pub keeps_on : (old mid new : Talks) → KeepsReplies old mid → KeepsReplies mid new → KeepsReplies old new
keeps_on old mid new p q = record {
  more = p.more ++ q.more;
  taken = q.taken ∙ ap (λ l. l ++ q.more) p.taken ∙ append_assoc old.hand.taken p.more q.more;
  kept = λ none.
      q.kept none ∙ ap (λ l. l ++ told_own q.more) (p.kept (early none mid.heard.has_lost refl)) ∙ append_assoc old.heard.told.items (told_own p.more) (told_own q.more)
      ∙ ap (λ l. old.heard.told.items ++ l) (sym (filter-append (λ told. nat_le first_own told.0) p.more q.more));
  lost = λ is. q.lost (p.lost is);
}
  where
    early : new.heard.has_lost ≡ false → (b : Bool) → mid.heard.has_lost ≡ b → mid.heard.has_lost ≡ false
    early none true is = absurd (true≢false (sym (q.lost is) ∙ none))
    early none false is = is

-- ---- replies that are heard

-- one more
pub hears_more : (first : List (ℕ × Reply)) (n : ℕ) (reply : Reply) (old mid new : List Peering) → HearsAll first old mid → HearsAs n reply mid new → HearsAll (first ++ (n, reply) ∷ []) old new
hears_more [] n reply old mid new same hears = (new, subst (λ l. HearsAs n reply l new) same hears, refl)
hears_more (told ∷ first) n reply old mid new (next, one, more) hears = (next, one, hears_more first n reply next mid new more hears)

-- so many of them have another number
abbrev pub OthersBelow : ℕ → ℕ → List Peering → Type 0
OthersBelow n count peers = (k : ℕ) (d : Peering) → k < count → has_number n (get_or peers k d).session ≡ false

-- one more
pub others_more : (n : ℕ) (peers : List Peering) (i : ℕ) (d item : Peering) → i < length peers → item ≡ get_or peers i d → has_number n item.session ≡ false → OthersBelow n i peers → OthersBelow n (i + 1) peers
others_more n peers i d item at is other below k e low =
    below_more (λ j. has_number n (get_or peers j e).session ≡ false) i (λ j less. below j e less)
    (subst (λ (p : Peering). has_number n p.session ≡ false) (is ∙ get_or_default peers i d e at) other) k low

-- ---- replies that are lost

-- one that is over has ended, and so has one of which nothing is lost, or that waits for nothing
pub ends_now : (lost : Bool) (old new : Option OwnSession) → new ≡ None → EndsIfLost lost old new
ends_now lost None new over = tt
ends_now lost (Some session) new over = λ is waits. over

pub ends_kept : (lost : Bool) (old new : Option OwnSession) → lost ≡ false → EndsIfLost lost old new
ends_kept lost None new none = tt
ends_kept lost (Some session) new none = λ is waits. absurd (true≢false (sym is ∙ none))

pub ends_none : (lost : Bool) (old new : Option OwnSession) → old ≡ None → EndsIfLost lost old new
ends_none lost old new none = subst (λ o. EndsIfLost lost o new) (sym none) tt

pub ends_all : (lost : Bool) (old new : Option OwnSession) (session : OwnSession) → old ≡ Some session → not (near_has_all session.near) ≡ false → EndsIfLost lost old new
ends_all lost old new session was idle = subst (λ o. EndsIfLost lost o new) (sym was) (λ is waits. absurd (true≢false (sym (ap not waits) ∙ idle)))

-- of so many that had their turn each has ended, if it had to, and the others are as they were
pub record EndedBelow (lost : Bool) (n : ℕ) (old now : List Peering) : Type 0 where
  pub ended : (k : ℕ) (d : Peering) → k < n → EndsIfLost lost (get_or old k d).session (get_or now k d).session
  pub rest : (k : ℕ) (d : Peering) → n ≤ k → get_or now k d ≡ get_or old k d

pub ended_none : (lost : Bool) (peers : List Peering) → EndedBelow lost 0 peers peers
ended_none lost peers = record { ended = λ k d low. let no : ⊥ = omega (arith, low) in absurd no; rest = λ k d high. refl }

-- one more
pub ended_more : (lost : Bool) (old now : List Peering) (i : ℕ) (d new : Peering) → i < length now → EndsIfLost lost (get_or now i d).session new.session → EndedBelow lost i old now → EndedBelow lost (i + 1) old (set now i new)
ended_more lost old now i d new at ends below = record { ended = ended; rest = rest }
  where
    ended : (k : ℕ) (e : Peering) → k < i + 1 → EndsIfLost lost (get_or old k e).session (get_or (set now i new) k e).session
    ended k e low = ⊎_elim
        (λ same. subst (λ (n : ℕ). EndsIfLost lost (get_or old n e).session (get_or (set now i new) n e).session) (sym same)
        (subst (λ (p : Peering). EndsIfLost lost (get_or old i e).session p.session) (sym (get_or-set_same now i new e at))
        (subst (λ (p : Peering). EndsIfLost lost p.session new.session) (get_or_default now i d e at ∙ below.rest i e (omega arith)) ends)))
        (λ other. subst (λ (p : Peering). EndsIfLost lost (get_or old k e).session p.session) (sym (get_or-set_other now i k new e other)) (below.ended k e (omega (arith, low, other))))
        (cases_eq k i)

    rest : (k : ℕ) (e : Peering) → i + 1 ≤ k → get_or (set now i new) k e ≡ get_or old k e
    rest k e high =
        let other : (k ≡ i) → ⊥ = λ same. omega (arith, high, same) in
        get_or-set_other now i k new e other ∙ below.rest k e (omega (arith, high))
