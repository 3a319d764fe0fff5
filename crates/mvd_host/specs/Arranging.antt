-- The order in which the requests of a round are answered.
use Rattle.std.specs.Prelude.{◌≡◌, ◌≤◌, ◌+◌, ℕ, List, [], ◌++◌, map, length, zip, false, vec_capacity}
use Rattle.std.specs.BTreeSet.{contains}
use Rattle.std.specs.Ordering.{nat_cmp}
use Rattle.mvd_wire.specs.declared.request.Request.{Request}
use Rattle.mvd_host.specs.declared.arranging.Lanes.{Lanes}
use Rattle.mvd_host.specs.declared.taking.Taken.{Taken}
use Rattle.mvd_site.specs.Held.{States}
use Rattle.mvd_host.specs.Course.{own}
use Rattle.mvd_host.specs.Weights.{weights_in}

-- these clients and requests are those that were asked, in an order in which each client's own are as they were
pub record Arranged (asked : List (ℕ × Request)) (clients : List ℕ) (requests : List Request) : Type 0 where
  pub ordered : List (ℕ × Request)
  pub clients_are : clients ≡ map (λ r. r.0) ordered
  pub requests_are : requests ≡ map (λ r. r.1) ordered
  pub count : length ordered ≡ length asked
  pub own_are : (n : ℕ) → own n ordered ≡ own n asked
  pub weight : (states : States) → weights_in states requests ≡ weights_in states (map (λ r. r.1) asked)

-- The requests that were asked lie in two parts. What leads of a client came before what stands behind of it; a client
-- that is not noted has nothing behind
pub record Lays (asked : List (ℕ × Request)) (lanes : Lanes) : Type 0 where
  pub first : List (ℕ × Request)
  pub second : List (ℕ × Request)
  pub first_clients : lanes.leading_clients.items ≡ map (λ r. r.0) first
  pub first_requests : lanes.leading.items ≡ map (λ r. r.1) first
  pub second_clients : lanes.later_clients.items ≡ map (λ r. r.0) second
  pub second_requests : lanes.later.items ≡ map (λ r. r.1) second
  pub count : length first + length second ≡ length asked
  pub weight : (states : States) → weights_in states lanes.leading.items + weights_in states lanes.later.items
      ≡ weights_in states (map (λ r. r.1) asked)
  pub own_are : (n : ℕ) → own n first ++ own n second ≡ own n asked
  pub noted : lanes.is_shut ≡ false → (n : ℕ) → contains nat_cmp lanes.behind n ≡ false → own n second ≡ []

-- there is room for so many in either part
pub record HasPlaces (most : ℕ) (lanes : Lanes) : Type 0 where
  pub first_clients : most ≤ vec_capacity lanes.leading_clients
  pub first_requests : most ≤ vec_capacity lanes.leading
  pub second_clients : most ≤ vec_capacity lanes.later_clients
  pub second_requests : most ≤ vec_capacity lanes.later

-- what was taken is in another order, in which each client's own is as it was
pub record Arranges (old new : Taken) : Type 0 where
  pub faults : new.faults.items ≡ old.faults.items
  pub arranged : Arranged (zip old.clients.items old.requests.items) new.clients.items new.requests.items
