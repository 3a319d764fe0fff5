-- What a session hands on, and what it is told.
use Rattle.std.proofs.Common.{◌≡◌, ◌∙◌, ◌++◌, ℕ, List, [], ◌∷◌, Option, Some, None, ap, ap₂, append-nil, inl, inr, refl, sym}
use Rattle.std.specs.Prelude.{option_map}
use Rattle.mvd_conn.specs.History.{History}
use Rattle.mvd_host.specs.AtHand.{AtHandValue}
use Rattle.mvd_meet.specs.Inboxes.{InboxValue}
use Rattle.mvd_meet.specs.Nears.{NearGoesOn, NearHears, asked_of_near, next_at, replies_at, requests_at}
use Rattle.mvd_meet.specs.declared.near.Near.{Near}
use Rattle.mvd_server.specs.HostBytes.{waits_in}
use Rattle.mvd_server.specs.OwnSides.{HandsNext, HandsOn, HandsRequests, MovesAtHand}
use Rattle.mvd_wire.specs.declared.reply.Reply.{Reply}
use Rattle.mvd_wire.specs.declared.request.Request.{Request}

pub waits_some : (o : Option History) (bytes : List ℕ) → Some bytes ≡ option_map (λ h. h.waits) o → waits_in o ≡ bytes
waits_some None bytes is = cc
waits_some (Some h) bytes is = cc

pub waits_none : (o : Option History) → None ≡ option_map (λ h. h.waits) o → waits_in o ≡ []
waits_none None is = refl
waits_none (Some h) is = cc

-- requests go on, and none comes or goes
goes_same : (old mid : Near) → NearGoesOn old mid → (requests_at old ≡ requests_at mid) × (replies_at mid ≡ replies_at old) × (asked_of_near mid ≡ asked_of_near old)
goes_same old mid goes = (sym goes.goes.requests, ap (λ (i : InboxValue). i.came) goes.goes.rest, ap (λ (i : InboxValue). i.asked) goes.goes.rest)

-- of those that are next all are asked, or none
module _ (mid new : Near) (is : new ≡ record mid { leaving = new.leaving }) where
  later : new.inbox.later ≡ mid.inbox.later
  later = ap (λ (n : Near). n.inbox.later) is

  asks_front : next_at new ≡ [] → requests_at mid ≡ next_at mid ++ requests_at new
  asks_front gone = ap (λ l. next_at mid ++ l) (sym (ap₂ (λ a b. a ++ b) gone later))

  asks_none : next_at new ≡ next_at mid → requests_at mid ≡ [] ++ requests_at new
  asks_none same = sym (ap₂ (λ a b. a ++ b) same later)

  front_of : (n : ℕ) (hand hand' : AtHandValue) → HandsRequests n (next_at mid) hand (next_at new) hand' → (left : List Request) × (requests_at mid ≡ left ++ requests_at new)
  front_of n hand hand' (inl asks) = (next_at mid, asks_front asks.gone)
  front_of n hand hand' (inr (same, none)) = ([], asks_none same)

moves_next : (n : ℕ) (old : Near) (hand : AtHandValue) (new : Near) (hand' : AtHandValue) → HandsNext n old hand new hand' → MovesAtHand old new
moves_next n old hand new hand' h =
    let same = goes_same old h.mid h.goes in
    let front = front_of h.mid new h.same n hand hand' h.hands in
    record {
      left = front.0;
      more = [];
      leaving = same.0 ∙ front.1;
      came = ap (λ (m : Near). replies_at m) h.same ∙ same.1 ∙ sym (append-nil (replies_at old));
      asked = ap (λ (m : Near). asked_of_near m) h.same ∙ same.2;
    }

module _ (old new : Near) where
  -- nothing moves
  pub moves_none : new ≡ old → MovesAtHand old new
  moves_none is = record {
    left = [];
    more = [];
    leaving = sym (ap (λ (n : Near). requests_at n) is);
    came = ap (λ (n : Near). replies_at n) is ∙ sym (append-nil (replies_at old));
    asked = ap (λ (n : Near). asked_of_near n) is;
  }

  -- the next requests are handed on, or none
  pub moves_on : (n : ℕ) (hand hand' : AtHandValue) → HandsOn n old hand new hand' → MovesAtHand old new
  moves_on n hand hand' (inl next) = moves_next n old hand new hand' next
  moves_on n hand hand' (inr (same, none)) = moves_none same

  -- a reply comes
  pub hears_one : (reply : Reply) → NearHears reply old new → MovesAtHand old new
  hears_one reply h = record {
    left = [];
    more = h.hears.kept ∷ [];
    leaving = sym (ap₂ (λ a b. a ++ b) (ap (λ (n : Near). next_at n) h.same) h.hears.later);
    came = h.hears.came;
    asked = h.hears.asked;
  }
