-- What was taken, as it grows.
use Rattle.std.proofs.Common.{◌≡◌, ℕ, List, [], ◌∷◌, ◌++◌, map, Result, Err, refl, sym, ap, ◌∙◌, subst, append_assoc, append-nil}
use Rattle.std.proofs.lemmas.List.{map-append}
use Rattle.mvd_dots.specs.declared.refusals.Refusal.{Refusal}
use Rattle.mvd_dots.specs.Answer.{IsAnswer}
use Rattle.mvd_wire.specs.declared.request.Request.{Request}
use Rattle.mvd_conn.specs.History.{History}
use Rattle.mvd_host.specs.Taking.{AreFaults, HoldsTaken, KeepsTaken, TakesMore, TakesOn, TakesRequests}
use Rattle.mvd_host.proofs.Frames.{none_moved, same, takes_on}
use Rattle.mvd_host.specs.declared.taking.Taken.{Taken}

pub holds_same : (asked : List (ℕ × Request)) (faults : List (ℕ × Result Request Refusal)) (old new : Taken) → KeepsTaken old new → HoldsTaken asked faults old → HoldsTaken (asked ++ []) (faults ++ []) new
holds_same asked faults old new same holds = record {
  clients = same.clients ∙ holds.clients ∙ ap (map (λ r. r.0)) (sym (append-nil asked));
  requests_are = same.requests ∙ holds.requests_are ∙ ap (map (λ r. r.1)) (sym (append-nil asked));
  faults = subst (λ l. AreFaults l new.faults.items) (sym (append-nil faults)) (subst (AreFaults faults) (sym same.faults) holds.faults);
}

faults_grow : (fs : List (ℕ × Result Request Refusal)) (es : List (ℕ × Refusal)) (client : ℕ) (f : Result Request Refusal) (e : Refusal) → AreFaults fs es → IsAnswer {T = Request} (Err e) f → AreFaults (fs ++ (client, f) ∷ []) (es ++ (client, e) ∷ [])
faults_grow [] [] client f e all one = (refl, one, tt)
faults_grow [] (x ∷ es) client f e all one = absurd all
faults_grow (x ∷ fs) [] client f e all one = absurd all
faults_grow (x ∷ fs) (y ∷ es) client f e all one = (all.0, all.1, faults_grow fs es client f e all.2 one)

pub holds_request : (asked : List (ℕ × Request)) (faults : List (ℕ × Result Request Refusal)) (old new : Taken) (client : ℕ) (r : Request) → new.clients.items ≡ old.clients.items ++ client ∷ [] → new.requests.items ≡ old.requests.items ++ r ∷ [] → new.faults.items ≡ old.faults.items
    → HoldsTaken asked faults old → HoldsTaken (asked ++ (client, r) ∷ []) (faults ++ []) new
holds_request asked faults old new client r clients requests same holds = record {
  clients = clients ∙ ap (λ l. l ++ client ∷ []) holds.clients ∙ sym (map-append (λ (x : ℕ × Request). x.0) asked ((client, r) ∷ []));
  requests_are = requests ∙ ap (λ l. l ++ r ∷ []) holds.requests_are ∙ sym (map-append (λ (x : ℕ × Request). x.1) asked ((client, r) ∷ []));
  faults = subst (λ l. AreFaults l new.faults.items) (sym (append-nil faults)) (subst (AreFaults faults) (sym same) holds.faults);
}

pub holds_fault : (asked : List (ℕ × Request)) (faults : List (ℕ × Result Request Refusal)) (old new : Taken) (client : ℕ) (f : Result Request Refusal) (e : Refusal) → new.clients.items ≡ old.clients.items → new.requests.items ≡ old.requests.items → new.faults.items ≡ old.faults.items ++ (client, e) ∷ []
    → IsAnswer {T = Request} (Err e) f → HoldsTaken asked faults old → HoldsTaken (asked ++ []) (faults ++ (client, f) ∷ []) new
holds_fault asked faults old new client f e clients requests grown told holds = record {
  clients = clients ∙ holds.clients ∙ ap (map (λ r. r.0)) (sym (append-nil asked));
  requests_are = requests ∙ holds.requests_are ∙ ap (map (λ r. r.1)) (sym (append-nil asked));
  faults = subst (AreFaults (faults ++ (client, f) ∷ [])) (sym grown) (faults_grow faults old.faults.items client f e holds.faults told);
}

map_both : {X : Type 0} (client : ℕ) (xs ys : List X) → map {B = ℕ × X} (λ x. (client, x)) (xs ++ ys) ≡ map {B = ℕ × X} (λ x. (client, x)) xs ++ map {B = ℕ × X} (λ x. (client, x)) ys
map_both {X} client xs ys = map-append {B = ℕ × X} (λ x. (client, x)) xs ys

-- requests, and then more
pub takes_more : (client : ℕ) (old mid new : History) (before between after : Taken) → TakesRequests client old mid before between → TakesMore client mid new between after → TakesMore client old new before after
takes_more client old mid new before between after one other = record {
  requests = one.took.requests ++ other.requests;
  faulty = other.faulty;
  conn = takes_on old mid new one.took.requests other.requests other.faulty (subst (λ l. TakesOn one.took.requests l old mid) one.none one.took.conn) other.conn;
  holds = λ asked faults holds.
      let first : HoldsTaken (asked ++ map (λ r. (client, r)) one.took.requests) faults between =
      subst (λ l. HoldsTaken (asked ++ map (λ r. (client, r)) one.took.requests) l between) (ap (λ l. faults ++ map (λ f. (client, f)) l) one.none ∙ append-nil faults) (one.took.holds asked faults holds) in
      subst (λ l. HoldsTaken l (faults ++ map (λ f. (client, f)) other.faulty) after)
      (append_assoc asked (map (λ r. (client, r)) one.took.requests) (map (λ r. (client, r)) other.requests) ∙ ap (λ l. asked ++ l) (sym (map_both client one.took.requests other.requests)))
      (other.holds (asked ++ map (λ r. (client, r)) one.took.requests) faults first);
}

pub takes_requests : (client : ℕ) (old mid new : History) (before between after : Taken) → TakesRequests client old mid before between → TakesRequests client mid new between after → TakesRequests client old new before after
unfolding takes_more
takes_requests client old mid new before between after one other = record {
  took = takes_more client old mid new before between after one other.took;
  none = other.none;
  faults = other.faults ∙ one.faults;
}

pub took_no_request : (client : ℕ) (h : History) (t : Taken) → TakesRequests client h h t t
took_no_request client h t = record {
  took = record { requests = []; faulty = []; conn = same h h (record { taken = refl; answers = refl; moved = none_moved h }); holds = λ asked faults holds. holds_same asked faults t t (record { clients = refl; requests = refl; faults = refl }) holds };
  none = refl;
  faults = refl;
}

pub kept_more : (client : ℕ) (h k : History) (before between after : Taken) → KeepsTaken before between → TakesMore client h k between after → TakesMore client h k before after
kept_more client h k before between after same more = record {
  requests = more.requests;
  faulty = more.faulty;
  conn = more.conn;
  holds = λ asked faults holds. more.holds asked faults (record { clients = same.clients ∙ holds.clients; requests_are = same.requests ∙ holds.requests_are; faults = subst (AreFaults faults) (sym same.faults) holds.faults });
}

pub kept_requests : (client : ℕ) (h k : History) (before between after : Taken) → KeepsTaken before between → TakesRequests client h k between after → TakesRequests client h k before after
unfolding kept_more
kept_requests client h k before between after same one = record {
  took = kept_more client h k before between after same one.took;
  none = one.none;
  faults = one.faults ∙ same.faults;
}

pub kept_nothing : (client : ℕ) (h k : History) (before after : Taken) → KeepsTaken before after → TakesOn [] [] h k → TakesMore client h k before after
kept_nothing client h k before after same none = record {
  requests = [];
  faulty = [];
  conn = none;
  holds = λ asked faults holds. holds_same asked faults before after same holds;
}
