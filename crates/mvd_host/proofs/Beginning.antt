-- What a round began with, of what waits at hand.
use Rattle.std.proofs.Common.{◌≡◌, ◌≤◌, ◌⊎◌, ◌||◌, Bool, inl, inr, ℕ, true, false, true≢false, List, [], ◌∷◌, ◌++◌, map, length, refl, sym, ap, ap₂, ◌∙◌, subst, append-nil, arith, zip}
use Rattle.std.proofs.lemmas.List.{length-map}
use Rattle.mvd_wire.specs.declared.reply.Reply.{Reply}
use Rattle.mvd_wire.specs.declared.request.Request.{Request}
use Rattle.mvd_site.specs.Held.{States}
use Rattle.mvd_host.specs.AtHand.{AllMayWait, AtHandValue, BeginsWith}
use Rattle.mvd_host.specs.Course.{own}
use Rattle.mvd_host.specs.Fronts.{Parts}
use Rattle.mvd_host.specs.declared.front.Front.{Front}
use Rattle.mvd_host.specs.Taking.{HoldsTaken, held_in}
use Rattle.mvd_host.specs.Weights.{AreHeavy, IsWeighed, weights_in}
use Rattle.mvd_host.specs.declared.taking.Taken.{Taken}
use Rattle.mvd_host.proofs.Fronts.{none_own}
use Rattle.mvd_host.proofs.Orders.{zip_requests}

zip_both : (asks : List (ℕ × Request)) → zip (map (λ r. r.0) asks) (map (λ r. r.1) asks) ≡ asks
zip_both [] = refl
zip_both (ask ∷ asks) = ap (λ l. ask ∷ l) (zip_both asks)

module _ (states : States) (done asked waits : List (ℕ × Request)) (front : Front) (parts : Parts states done asked waits front) where
  -- what waits stands in another order
  pub parts_turned : (later : List (ℕ × Request)) → ((n : ℕ) → own n later ≡ own n waits) → AllMayWait later → Parts states done asked later front
  parts_turned later same may = record {
    first = parts.first;
    clients = parts.clients;
    requests = parts.requests;
    noted = parts.noted;
    may = parts.may;
    rest_may = may;
    own_are = λ n. parts.own_are n ∙ ap (λ l. own n parts.first ++ l) (sym (same n));
    weighed = parts.weighed;
    held = λ shut n free. same n ∙ parts.held shut n free;
    heavy = parts.heavy;
  }

  first_is : zip front.clients.items front.requests.items ≡ parts.first
  first_is = ap₂ (λ (ns : List ℕ) (rs : List Request). zip ns rs) parts.clients parts.requests ∙ zip_both parts.first

  pub parts_pairs : length front.clients.items ≡ length front.requests.items
  parts_pairs =
      ap length parts.clients ∙ length-map parts.first (λ (r : ℕ × Request). r.0) ∙ sym (length-map parts.first (λ (r : ℕ × Request). r.1)) ∙ sym (ap length parts.requests)

  pub parts_may : AllMayWait (zip front.clients.items front.requests.items)
  parts_may = subst AllMayWait (sym first_is) parts.may

  pub parts_rest : front.is_shut ≡ false → (waits ≡ []) ⊎ (4194304 ≤ front.weighed)
  parts_rest shut = elim (parts.heavy shut) [
    | inl nobody ↦ inl (none_own waits (λ n. parts.held shut n (nobody n)))
    | inr much ↦ inr much
  ]

  pub parts_begin : (taken left : List (ℕ × Reply)) (hand : AtHandValue) → ◌≡◌ {A = AtHandValue} (record { done = done; waits = asked; taken = taken; left = left }) hand
      → (noted : List (ℕ × Request)) → noted ≡ front.done.items
      → BeginsWith (zip front.clients.items front.requests.items) hand (record { done = noted; waits = waits; taken = taken; left = left })
  parts_begin taken left hand is noted same =
      subst (λ (h : AtHandValue). BeginsWith (zip front.clients.items front.requests.items) h (record { done = noted; waits = waits; taken = taken; left = left })) is
      (subst (λ (l : List (ℕ × Request)). BeginsWith l (record { done = done; waits = asked; taken = taken; left = left }) (record { done = noted; waits = waits; taken = taken; left = left })) (sym first_is)
      (record { done = same ∙ parts.noted; front = parts.own_are; told = (refl, refl) }))

-- ---- in a round

module _ (states : States) (clients : List ℕ) (requests : List Request) (weighed : ℕ) (pairs : length clients ≡ length requests) (counted : IsWeighed states requests weighed) where
  -- what is held of it weighs as much
  pub weighed_held : (taken : Taken) → HoldsTaken (held_in taken) [] taken → held_in taken ≡ zip clients requests → IsWeighed states taken.requests.items weighed
  weighed_held taken holds is =
      subst (λ l. IsWeighed states l weighed) (zip_requests clients requests pairs ∙ sym (holds.requests_are ∙ ap (λ (l : List (ℕ × Request)). map (λ r. r.1) l) is)) counted

  pub rests_at_hand : (begun : AtHandValue) (asks : List (ℕ × Request)) → asks ≡ zip clients requests → (begun.waits ≡ []) ⊎ (4194304 ≤ weighed) → (begun.waits ≡ []) ⊎ AreHeavy states asks
  rests_at_hand begun asks is (inl none) = inl none
  rests_at_hand begun asks is (inr much) = inr (subst (AreHeavy states) (sym is) (let same = ap (weights_in states) (zip_requests clients requests pairs) in omega (arith, same, counted, much)))

pub kept_left : (kept begun : AtHandValue) (told : List (ℕ × Reply)) → kept ≡ record begun { left = told } → kept ≡ record begun { left = kept.left }
kept_left kept begun told is = is ∙ ap (λ (l : List (ℕ × Reply)). record begun { left = l }) (sym (ap (λ (h : AtHandValue). h.left) is))

pub neither : (a b : Bool) → (a || b) ≡ false → (a ≡ false) × (b ≡ false)
neither true b is = absurd (true≢false is)
neither false b is = (refl, is)
