-- The order in which the requests of a round are answered.
use Rattle.std.proofs.Common.{◌≡◌, ◌∙◌, ◌<◌, ◌+◌, ◌==◌, slice_index, ℕ, Bool, true, false, true≢false, cond, List, [], ◌∷◌, ◌++◌, Result, Ok, Err, map, length, zip, take, get_or, refl, sym, ap, ap₂, subst, append_assoc, append-nil, length-append, inl, inr, arith}
use Rattle.std.specs.Prelude.{IsOk, is_ok}
use Rattle.std.proofs.lemmas.Bool.Decides.{nat_tests}
use Rattle.std.proofs.lemmas.List.{length-map, length-take-le, map-append, take_more}
use Rattle.std.specs.BTreeSet.{BTreeSet, Updates, contains}
use Rattle.std.specs.Ordering.{nat_cmp}
use Rattle.mvd_dots.specs.declared.refusals.Refusal.{Refusal}
use Rattle.mvd_wire.specs.declared.request.Request.{Request}
use Rattle.mvd_conn.specs.History.{History}
use Rattle.mvd_host.specs.Hosts.{client_in}
use Rattle.mvd_host.specs.Course.{BothClients, own}
use Rattle.mvd_host.specs.Taking.{AreFaults, HasTakenFrame, HoldsTaken, IsFair, IsNothingTaken, TakesFairly, TakesOn, TakesOnly}
use Rattle.mvd_site.specs.Held.{States}
use Rattle.mvd_host.specs.Arranging.{Arranged, Arranges, Lays}
use Rattle.mvd_host.specs.Weights.{AreHeavy, weight_of, weights_in}
use Rattle.mvd_host.specs.declared.arranging.Lanes.{Lanes}
use Rattle.mvd_host.specs.declared.taking.Taken.{Taken}
use Rattle.mvd_host.proofs.Hosts.{at_is}
use Rattle.mvd_host.proofs.Own.{own-append, own-other}
use Rattle.mvd_host.proofs.Weights.{weights_append, weights_push}

-- ---- one more

pub lays_none : (lanes : Lanes) → lanes.leading_clients.items ≡ [] → lanes.leading.items ≡ [] → lanes.later_clients.items ≡ [] → lanes.later.items ≡ [] → Lays [] lanes
lays_none lanes a b c d = record { first = []; second = []; first_clients = a; first_requests = b; second_clients = c; second_requests = d; count = refl; weight = λ states. ap₂ (λ x y. weights_in states x + weights_in states y) b d; own_are = λ n. refl; noted = λ _ n _. refl }

past : {X : Type 0} (b : Bool) (x : X) (first second : List X) → (b ≡ true → second ≡ []) → (first ++ cond b (x ∷ []) []) ++ second ≡ (first ++ second) ++ cond b (x ∷ []) []
past true x first second none =
    ap (λ s. (first ++ x ∷ []) ++ s) (none refl) ∙ append-nil (first ++ x ∷ []) ∙ sym (ap (λ s. (first ++ s) ++ x ∷ []) (none refl) ∙ ap (λ l. l ++ x ∷ []) (append-nil first))
past false x first second none = ap (λ l. l ++ second) (append-nil first) ∙ sym (append-nil (first ++ second))

own_past : (n client : ℕ) (r : Request) (first second asked : List (ℕ × Request)) → own n first ++ own n second ≡ own n asked → ((client == n) ≡ true → own n second ≡ []) →
    own n (first ++ (client, r) ∷ []) ++ own n second ≡ own n (asked ++ (client, r) ∷ [])
own_past n client r first second asked is none =
    ap (λ l. l ++ own n second) (own-append n first ((client, r) ∷ [])) ∙ past (client == n) r (own n first) (own n second) none
    ∙ ap (λ l. l ++ own n ((client, r) ∷ [])) is ∙ sym (own-append n asked ((client, r) ∷ []))

own_behind : (n client : ℕ) (r : Request) (first second asked : List (ℕ × Request)) → own n first ++ own n second ≡ own n asked → own n first ++ own n (second ++ (client, r) ∷ []) ≡ own n (asked ++ (client, r) ∷ [])
own_behind n client r first second asked is =
    ap (λ l. own n first ++ l) (own-append n second ((client, r) ∷ [])) ∙ sym (append_assoc (own n first) (own n second) (own n ((client, r) ∷ [])))
    ∙ ap (λ l. l ++ own n ((client, r) ∷ [])) is ∙ sym (own-append n asked ((client, r) ∷ []))

there : (n m : ℕ) → (m == n) ≡ true → m ≡ n
there n m is = grind (arith, nat_tests)

count_more : (first second asked one : List (ℕ × Request)) → length first + length second ≡ length asked → length (first ++ one) + length second ≡ length (asked ++ one)
count_more first second asked one count = omega (arith, count, length-append first one, length-append asked one)

count_behind : (first second asked one : List (ℕ × Request)) → length first + length second ≡ length asked → length first + length (second ++ one) ≡ length (asked ++ one)
count_behind first second asked one count = omega (arith, count, length-append second one, length-append asked one)

-- what one more weighs
weight_more : (states : States) (asked : List (ℕ × Request)) (client : ℕ) (r : Request) → weights_in states (map (λ x. x.1) (asked ++ (client, r) ∷ [])) ≡ weights_in states (map (λ x. x.1) asked) + weight_of states r
weight_more states asked client r = ap (weights_in states) (map-append (λ (x : ℕ × Request). x.1) asked ((client, r) ∷ [])) ∙ weights_push states (map (λ x. x.1) asked) r

weight_first : (states : States) (leading later all_leading all_later : List Request) (asked : List (ℕ × Request)) (client : ℕ) (r : Request) → all_leading ≡ leading ++ r ∷ [] → all_later ≡ later →
    weights_in states leading + weights_in states later ≡ weights_in states (map (λ x. x.1) asked) → weights_in states all_leading + weights_in states all_later ≡ weights_in states (map (λ x. x.1) (asked ++ (client, r) ∷ []))
weight_first states leading later all_leading all_later asked client r front behind so_far =
    let a = ap (weights_in states) front ∙ weights_push states leading r in
    let b = ap (weights_in states) behind in
    let c = weight_more states asked client r in
    omega (arith, a, b, c, so_far)

weight_second : (states : States) (leading later all_leading all_later : List Request) (asked : List (ℕ × Request)) (client : ℕ) (r : Request) → all_leading ≡ leading → all_later ≡ later ++ r ∷ [] →
    weights_in states leading + weights_in states later ≡ weights_in states (map (λ x. x.1) asked) → weights_in states all_leading + weights_in states all_later ≡ weights_in states (map (λ x. x.1) (asked ++ (client, r) ∷ []))
weight_second states leading later all_leading all_later asked client r front behind so_far =
    let a = ap (weights_in states) front in
    let b = ap (weights_in states) behind ∙ weights_push states later r in
    let c = weight_more states asked client r in
    omega (arith, a, b, c, so_far)

-- a question leads
pub lays_first : (asked : List (ℕ × Request)) (old new : Lanes) (client : ℕ) (r : Request) → old.is_shut ≡ false → contains nat_cmp old.behind client ≡ false →
    new.leading_clients.items ≡ old.leading_clients.items ++ client ∷ [] → new.leading.items ≡ old.leading.items ++ r ∷ [] → new.later_clients.items ≡ old.later_clients.items → new.later.items ≡ old.later.items →
    new.behind ≡ old.behind → new.is_shut ≡ old.is_shut → Lays asked old → Lays (asked ++ (client, r) ∷ []) new
lays_first asked old new client r unshut none clients requests later_clients later behind shut lays = record {
  first = lays.first ++ (client, r) ∷ [];
  second = lays.second;
  first_clients = clients ∙ ap (λ l. l ++ client ∷ []) lays.first_clients ∙ sym (map-append (λ (x : ℕ × Request). x.0) lays.first ((client, r) ∷ []));
  first_requests = requests ∙ ap (λ l. l ++ r ∷ []) lays.first_requests ∙ sym (map-append (λ (x : ℕ × Request). x.1) lays.first ((client, r) ∷ []));
  second_clients = later_clients ∙ lays.second_clients;
  second_requests = later ∙ lays.second_requests;
  count = count_more lays.first lays.second asked ((client, r) ∷ []) lays.count;
  weight = λ states. weight_first states old.leading.items old.later.items new.leading.items new.later.items asked client r requests later (lays.weight states);
  own_are = λ n. own_past n client r lays.first lays.second asked (lays.own_are n) (λ is. lays.noted unshut n (subst (λ m. contains nat_cmp old.behind m ≡ false) (there n client is) none));
  noted = λ is n not. lays.noted (sym shut ∙ is) n (sym (ap (λ b. contains nat_cmp b n) behind) ∙ not);
}

neither : (b c : Bool) → cond b true c ≡ false → (b ≡ false) × (c ≡ false)
neither true c is = absurd (true≢false is)
neither false c is = (refl, is)

pub not_noted : (old new : BTreeSet ℕ) (client n : ℕ) → Updates nat_cmp old new client true → contains nat_cmp new n ≡ false → ((n == client) ≡ false) × (contains nat_cmp old n ≡ false)
not_noted old new client n updates not =
    let both = neither _ _ (sym (updates.0 n) ∙ not) in
    (sym (at_is client n) ∙ both.0, both.1)

-- any other request stands behind
pub lays_second : (asked : List (ℕ × Request)) (old new : Lanes) (client : ℕ) (r : Request) → (new.is_shut ≡ false → old.is_shut ≡ false) → (new.is_shut ≡ false → Updates nat_cmp old.behind new.behind client true) →
    new.leading_clients.items ≡ old.leading_clients.items → new.leading.items ≡ old.leading.items → new.later_clients.items ≡ old.later_clients.items ++ client ∷ [] → new.later.items ≡ old.later.items ++ r ∷ [] →
    Lays asked old → Lays (asked ++ (client, r) ∷ []) new
lays_second asked old new client r stays updates clients requests later_clients later lays = record {
  first = lays.first;
  second = lays.second ++ (client, r) ∷ [];
  first_clients = clients ∙ lays.first_clients;
  first_requests = requests ∙ lays.first_requests;
  second_clients = later_clients ∙ ap (λ l. l ++ client ∷ []) lays.second_clients ∙ sym (map-append (λ (x : ℕ × Request). x.0) lays.second ((client, r) ∷ []));
  second_requests = later ∙ ap (λ l. l ++ r ∷ []) lays.second_requests ∙ sym (map-append (λ (x : ℕ × Request). x.1) lays.second ((client, r) ∷ []));
  count = count_behind lays.first lays.second asked ((client, r) ∷ []) lays.count;
  weight = λ states. weight_second states old.leading.items old.later.items new.leading.items new.later.items asked client r requests later (lays.weight states);
  own_are = λ n. own_behind n client r lays.first lays.second asked (lays.own_are n);
  noted = λ is n not. (
      let apart = not_noted old.behind new.behind client n (updates is) not in
      own-append n lays.second ((client, r) ∷ []) ∙ ap₂ (λ a b. a ++ b) (lays.noted (stays is) n apart.1) (own-other client n (r ∷ []) apart.0));
}

-- ---- all of them

pub zip_push : {X Y : Type 0} (xs : List X) (ys : List Y) (x : X) (y : Y) → length xs ≡ length ys → zip (xs ++ x ∷ []) (ys ++ y ∷ []) ≡ zip xs ys ++ (x, y) ∷ []
zip_push [] [] x y same = refl
zip_push [] (b ∷ ys) x y same = absurd (omega (arith, same))
zip_push (a ∷ xs) [] x y same = absurd (omega (arith, same))
zip_push (a ∷ xs) (b ∷ ys) x y same = ap (λ l. (a, b) ∷ l) (zip_push xs ys x y (omega (arith, same)))

pub zip_length : {X Y : Type 0} (xs : List X) (ys : List Y) → length xs ≡ length ys → length (zip xs ys) ≡ length ys
zip_length [] [] same = refl
zip_length [] (b ∷ ys) same = absurd (omega (arith, same))
zip_length (a ∷ xs) [] same = absurd (omega (arith, same))
zip_length (a ∷ xs) (b ∷ ys) same = let rest = zip_length xs ys (omega (arith, same)) in omega (arith, rest)

-- one pair more
pub zip_next : (clients : List ℕ) (yielded : List Request) (request : Request) (next : ℕ) → next ≡ length yielded → length yielded < length clients →
    zip (take (length (yielded ++ request ∷ [])) clients) (yielded ++ request ∷ []) ≡ zip (take (length yielded) clients) yielded ++ (slice_index clients next, request) ∷ []
zip_next clients yielded request next is low =
    let at : get_or clients (length yielded) 0 ≡ slice_index clients next = ap (λ n. get_or clients n 0) (sym is) in
    let front : take (length (yielded ++ request ∷ [])) clients ≡ take (length yielded) clients ++ slice_index clients next ∷ [] =
    ap (λ n. take n clients) (length-append yielded (request ∷ [])) ∙ take_more clients (length yielded) 0 low ∙ ap (λ n. take (length yielded) clients ++ n ∷ []) at in
    ap (λ l. zip l (yielded ++ request ∷ [])) front
    ∙ zip_push (take (length yielded) clients) yielded (slice_index clients next) request (length-take-le (length yielded) clients (omega (arith, low)))

pub zip_clients : (cs : List ℕ) (rs : List Request) → length cs ≡ length rs → cs ≡ map (λ r. r.0) (zip cs rs)
zip_clients [] [] same = refl
zip_clients [] (r ∷ rs) same = absurd (omega (arith, same))
zip_clients (c ∷ cs) [] same = absurd (omega (arith, same))
zip_clients (c ∷ cs) (r ∷ rs) same = ap (λ l. c ∷ l) (zip_clients cs rs (omega (arith, same)))

pub zip_requests : (cs : List ℕ) (rs : List Request) → length cs ≡ length rs → rs ≡ map (λ r. r.1) (zip cs rs)
zip_requests [] [] same = refl
zip_requests [] (r ∷ rs) same = absurd (omega (arith, same))
zip_requests (c ∷ cs) [] same = absurd (omega (arith, same))
zip_requests (c ∷ cs) (r ∷ rs) same = ap (λ l. r ∷ l) (zip_requests cs rs (omega (arith, same)))

-- as they are
pub arranged_same : (cs : List ℕ) (rs : List Request) → length cs ≡ length rs → Arranged (zip cs rs) cs rs
arranged_same cs rs same = record {
  ordered = zip cs rs;
  clients_are = zip_clients cs rs same;
  requests_are = zip_requests cs rs same;
  count = refl;
  own_are = λ n. refl;
  weight = λ states. ap (weights_in states) (zip_requests cs rs same);
}

-- of what is arranged there are as many clients as requests
pub arranged_count : (asked : List (ℕ × Request)) (cs : List ℕ) (rs : List Request) → Arranged asked cs rs → length cs ≡ length rs
arranged_count asked cs rs a =
    ap length a.clients_are ∙ length-map a.ordered (λ (x : ℕ × Request). x.0) ∙ sym (ap length a.requests_are ∙ length-map a.ordered (λ (x : ℕ × Request). x.1))

zip_parts : (asked : List (ℕ × Request)) → zip (map (λ (r : ℕ × Request). r.0) asked) (map (λ (r : ℕ × Request). r.1) asked) ≡ asked
zip_parts [] = refl
zip_parts (r ∷ asked) = ap (λ l. r ∷ l) (zip_parts asked)

-- what is arranged again
pub arranged_twice : (asked : List (ℕ × Request)) (cs ds : List ℕ) (rs qs : List Request) → Arranged asked cs rs → Arranged (zip cs rs) ds qs → Arranged asked ds qs
arranged_twice asked cs ds rs qs one other =
    let same : zip cs rs ≡ one.ordered = ap₂ (λ (c : List ℕ) (r : List Request). zip c r) one.clients_are one.requests_are ∙ zip_parts one.ordered in
    record {
      ordered = other.ordered;
      clients_are = other.clients_are;
      requests_are = other.requests_are;
      count = other.count ∙ ap length same ∙ one.count;
      own_are = λ n. other.own_are n ∙ ap (own n) same ∙ one.own_are n;
      weight = λ states. other.weight states ∙ ap (λ (l : List (ℕ × Request)). weights_in states (map (λ r. r.1) l)) same ∙ ap (weights_in states) (sym one.requests_are) ∙ one.weight states;
    }

pub ok_is : {A E X : Type 0} (result : Result A E) (a b : X) → IsOk result → cond (is_ok result) a b ≡ a
ok_is (Ok x) a b ok = refl
ok_is (Err e) a b ok = absurd (true≢false (sym ok))

pub lengths_are : (asked : List (ℕ × Request)) (lanes : Lanes) → Lays asked lanes →
    (length lanes.leading_clients.items + length lanes.later_clients.items ≡ length asked) × (length lanes.leading.items + length lanes.later.items ≡ length asked)
lengths_are asked lanes lays =
    let a : length lanes.leading_clients.items ≡ length lays.first = ap length lays.first_clients ∙ length-map lays.first (λ (x : ℕ × Request). x.0) in
    let b : length lanes.later_clients.items ≡ length lays.second = ap length lays.second_clients ∙ length-map lays.second (λ (x : ℕ × Request). x.0) in
    let c : length lanes.leading.items ≡ length lays.first = ap length lays.first_requests ∙ length-map lays.first (λ (x : ℕ × Request). x.1) in
    let d : length lanes.later.items ≡ length lays.second = ap length lays.second_requests ∙ length-map lays.second (λ (x : ℕ × Request). x.1) in
    (omega (arith, a, b, lays.count), omega (arith, c, d, lays.count))

pub lays_joined : (asked : List (ℕ × Request)) (lanes : Lanes) (clients : List ℕ) (requests : List Request) → clients ≡ lanes.leading_clients.items ++ lanes.later_clients.items → requests ≡ lanes.leading.items ++ lanes.later.items →
    Lays asked lanes → Arranged asked clients requests
lays_joined asked lanes clients requests clients_are requests_are lays = record {
  ordered = lays.first ++ lays.second;
  clients_are = clients_are ∙ ap₂ (λ a b. a ++ b) lays.first_clients lays.second_clients ∙ sym (map-append (λ (x : ℕ × Request). x.0) lays.first lays.second);
  requests_are = requests_are ∙ ap₂ (λ a b. a ++ b) lays.first_requests lays.second_requests ∙ sym (map-append (λ (x : ℕ × Request). x.1) lays.first lays.second);
  count = length-append lays.first lays.second ∙ lays.count;
  own_are = λ n. own-append n lays.first lays.second ∙ lays.own_are n;
  weight = λ states. ap (weights_in states) requests_are ∙ weights_append states lanes.leading.items lanes.later.items ∙ lays.weight states;
}

-- ---- what was taken

pub same_count : (asked : List (ℕ × Request)) (faults : List (ℕ × Result Request Refusal)) (taken : Taken) → HoldsTaken asked faults taken → length taken.clients.items ≡ length taken.requests.items
same_count asked faults taken holds =
    ap length holds.clients ∙ length-map asked (λ (x : ℕ × Request). x.0) ∙ sym (ap length holds.requests_are ∙ length-map asked (λ (x : ℕ × Request). x.1))

module _ (asks : List (ℕ × Request)) (ready : List ℕ) (old new : List (ℕ × History)) (before after : Taken) (a : Arranges before after) (t : TakesOnly asks ready (length ready) old new before) where
  asked_is : zip before.clients.items before.requests.items ≡ t.all.requests
  asked_is = ap₂ (λ (c : List ℕ) (r : List Request). zip c r) t.all.holds.clients t.all.holds.requests_are ∙ zip_parts t.all.requests

  own_is : (n : ℕ) → own n a.arranged.ordered ≡ own n t.all.requests
  own_is n = a.arranged.own_are n ∙ ap (own n) asked_is

  holds_still : HoldsTaken a.arranged.ordered t.all.faulty after
  holds_still = record {
    clients = a.arranged.clients_are;
    requests_are = a.arranged.requests_are;
    faults = subst (λ l. AreFaults t.all.faulty l) (sym a.faults) t.all.holds.faults;
  }

  same_weight : (states : States) → weights_in states (map (λ r. r.1) a.arranged.ordered) ≡ weights_in states (map (λ r. r.1) t.all.requests)
  same_weight states = ap (weights_in states) (sym a.arranged.requests_are) ∙ a.arranged.weight states ∙ ap (λ (l : List (ℕ × Request)). weights_in states (map (λ r. r.1) l)) asked_is

  abbrev only_still : TakesOnly asks ready (length ready) old new after
  only_still = record {
    all = record {
      requests = a.arranged.ordered;
      faulty = t.all.faulty;
      holds = holds_still;
      takes = λ n. subst (λ l. BothClients (client_in old n) (client_in new n) (TakesOn l (own n t.all.faulty))) (sym (own_is n)) (t.all.takes n);
    };
    none = λ n gone. (own_is n ∙ (t.none n gone).0, (t.none n gone).1);
    only = λ n out. (own_is n ∙ (t.only n out).0, (t.only n out).1);
    same = t.same;
    weight = λ states. let same = same_weight states in let before = t.weight states in omega (arith, same, before);
  }

  frame_still : (n : ℕ) → HasTakenFrame n t.all.requests t.all.faulty → HasTakenFrame n a.arranged.ordered t.all.faulty
  frame_still n (inl some) = inl (λ none. some (sym (own_is n) ∙ none))
  frame_still n (inr some) = inr some

  heavy_still : (states : States) → AreHeavy states t.all.requests → AreHeavy states a.arranged.ordered
  heavy_still states heavy =
      let same = same_weight states in omega (arith, same, heavy)

  pub fairly_still : (states : States) (refused : Bool) → (refused ≡ false → IsFair states ready (length ready) t.all.requests t.all.faulty new) → TakesFairly states refused asks ready (length ready) old new after
  fairly_still states refused fair = (
    only_still,
    λ no i below. elim (fair no i below) [
      | inl frame ↦ inl (frame_still (slice_index ready i) frame)
      | inr (inl idle) ↦ inr (inl idle)
      | inr (inr heavy) ↦ inr (inr (heavy_still states heavy))
    ],
  )

-- nothing is nothing, in any order
pub none_still : (asked : List (ℕ × Request)) (faults : List (ℕ × Result Request Refusal)) (before after : Taken) → Arranges before after → HoldsTaken asked faults before → IsNothingTaken after → IsNothingTaken before
none_still asked faults before after a holds none =
    let same : length before.clients.items ≡ length before.requests.items = same_count asked faults before holds in
    let count : length (zip before.clients.items before.requests.items) ≡ length before.requests.items = zip_length before.clients.items before.requests.items same in
    let now : length after.clients.items ≡ length a.arranged.ordered = ap length a.arranged.clients_are ∙ length-map a.arranged.ordered (λ (x : ℕ × Request). x.0) in
    let faulty : length after.faults.items ≡ length before.faults.items = ap length a.faults in
    omega (arith, none, same, count, now, faulty, a.arranged.count)
