-- What a round asks of what waits at hand.
use Rattle.std.specs.Prelude.{◌≡◌, ◌≤◌, ◌⊎◌, ◌+◌, ◌==◌, ℕ, not, Bool, false, List, [], ◌∷◌, ◌++◌, map, vec_len, vec_capacity}
use Rattle.std.specs.BTreeSet.{contains}
use Rattle.std.specs.Ordering.{nat_cmp}
use Rattle.mvd_wire.specs.declared.request.Request.{Request}
use Rattle.mvd_site.specs.Held.{States}
use Rattle.mvd_host.specs.AtHand.{AllMayWait, asks_of}
use Rattle.mvd_host.specs.Course.{own}
use Rattle.mvd_host.specs.Weights.{IsWeighed}
use Rattle.mvd_host.specs.declared.front.Asking.{Asking}
use Rattle.mvd_host.specs.declared.front.Front.{Front}

-- what a client asks that waits still
abbrev pub asked_in : Asking → List (ℕ × Request)
asked_in asking = asks_of asking.client asking.requests.items

-- and what all of these ask, in order
abbrev pub waiting_in : List Asking → List (ℕ × Request)
waiting_in [] = []
waiting_in (asking ∷ others) = asked_in asking ++ waiting_in others

-- something of it waits
abbrev pub has_some : Asking → Bool
has_some asking = not (asking.requests.len == 0)

-- Of what was asked, a front was taken, and that is noted behind what was asked in earlier rounds; what waits is the
-- rest: of each client both are what it asked, in order. Nothing waits of a client that is not held; and where any is
-- held, what was taken weighs 4,194,304 bytes, unless memory was refused
pub record Parts (states : States) (done asked waits : List (ℕ × Request)) (front : Front) : Type 0 where
  pub first : List (ℕ × Request)
  pub clients : front.clients.items ≡ map (λ r. r.0) first
  pub requests : front.requests.items ≡ map (λ r. r.1) first
  pub noted : front.done.items ≡ done ++ first
  pub may : AllMayWait first
  pub rest_may : AllMayWait waits
  pub own_are : (n : ℕ) → own n asked ≡ own n first ++ own n waits
  pub weighed : IsWeighed states front.requests.items front.weighed
  pub held : front.is_shut ≡ false → (n : ℕ) → contains nat_cmp front.held n ≡ false → own n waits ≡ []
  pub heavy : front.is_shut ≡ false
      → ((n : ℕ) → contains nat_cmp front.held n ≡ false) ⊎ (4194304 ≤ front.weighed)

-- what was taken is the same
pub record KeepsFront (old new : Front) : Type 0 where
  pub clients : new.clients.items ≡ old.clients.items
  pub requests : new.requests.items ≡ old.requests.items
  pub weighed : new.weighed ≡ old.weighed
  pub held : new.held ≡ old.held
  pub shut : new.is_shut ≡ old.is_shut
  pub done : new.done.items ≡ old.done.items

-- there is room for one request more
pub record HasPlace (front : Front) : Type 0 where
  pub clients : vec_len front.clients + 1 ≤ vec_capacity front.clients
  pub requests : vec_len front.requests + 1 ≤ vec_capacity front.requests

-- these requests of a client were taken
pub record TakesThese (states : States) (client : ℕ) (taken : List Request) (old new : Front) : Type 0 where
  pub clients : new.clients.items ≡ old.clients.items ++ map (λ r. r.0) (asks_of client taken)
  pub requests : new.requests.items ≡ old.requests.items ++ taken
  pub weighed : IsWeighed states old.requests.items old.weighed → IsWeighed states new.requests.items new.weighed
  pub heavy : 4194304 ≤ old.weighed → 4194304 ≤ new.weighed
  pub held : new.held ≡ old.held
  pub done : new.done.items ≡ old.done.items ++ asks_of client taken

-- the next request of a client was taken
pub record TakesOne (states : States) (asking asking' : Asking) (old new : Front) : Type 0 where
  pub request : Request
  pub next : asking.requests.items ≡ request ∷ asking'.requests.items
  pub client : asking'.client ≡ asking.client
  pub takes : TakesThese states asking.client (request ∷ []) old new
  pub shut : new.is_shut ≡ old.is_shut

-- none was: there is none, or what was taken weighs as much as it may, or memory was refused
pub record StopsTaking (asking asking' : Asking) (old new : Front) : Type 0 where
  pub asking_is : asking' ≡ asking
  pub clients : new.clients.items ≡ old.clients.items
  pub requests : new.requests.items ≡ old.requests.items
  pub weighed : new.weighed ≡ old.weighed
  pub held : new.held ≡ old.held
  pub done : new.done.items ≡ old.done.items
  pub shut : new.is_shut ≡ false → old.is_shut ≡ false
  pub why : new.is_shut ≡ false → (asking.requests.items ≡ []) ⊎ (4194304 ≤ new.weighed)
