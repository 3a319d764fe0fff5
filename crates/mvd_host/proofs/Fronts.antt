-- What a round asks of what waits at hand, one request after the other.
use Rattle.std.proofs.Common.{◌≡◌, ◌≤◌, ◌<◌, ◌==◌, ◌≢◌, ◌⊎◌, inl, inr, ℕ, zero, suc, get_or, Bool, true, false, true≢false, cond, not, ◌||◌, List, [], ◌∷◌, ◌++◌, map, length, refl, sym, ap, ap₂, ◌∙◌, subst, append-nil, append_assoc, arith}
use Rattle.std.proofs.lemmas.Bool.Decides.{nat_tests}
use Rattle.std.proofs.lemmas.List.{map-append}
use Rattle.std.specs.BTreeSet.{BTreeSet, Updates, contains}
use Rattle.std.specs.List.{list_any}
use Rattle.std.specs.Ordering.{nat_cmp}
use Rattle.mvd_wire.specs.declared.reply.Reply.{Reply}
use Rattle.mvd_wire.specs.declared.request.Request.{Request}
use Rattle.mvd_site.specs.Held.{States}
use Rattle.mvd_host.specs.AtHand.{AllMayWait, AtHandValue, MayWait, asked_by_one, asks_of}
use Rattle.mvd_host.specs.Course.{own}
use Rattle.mvd_host.specs.Fronts.{Parts, TakesOne, TakesThese, asked_in, has_some, waiting_in}
use Rattle.mvd_host.specs.Weights.{IsWeighed}
use Rattle.mvd_host.specs.declared.front.Asking.{Asking}
use Rattle.mvd_host.specs.declared.front.Front.{Front}
use Rattle.mvd_host.proofs.Orders.{not_noted}
use Rattle.mvd_host.proofs.Own.{own-append, own-other, same_number}

-- ---- what waits

waiting_append : (xs ys : List Asking) → waiting_in (xs ++ ys) ≡ waiting_in xs ++ waiting_in ys
waiting_append [] ys = refl
waiting_append (x ∷ xs) ys = ap (λ l. asked_in x ++ l) (waiting_append xs ys) ∙ sym (append_assoc (asked_in x) (waiting_in xs) (waiting_in ys))

pub waiting_push : (xs : List Asking) (x : Asking) → waiting_in (xs ++ x ∷ []) ≡ waiting_in xs ++ asked_in x
waiting_push xs x = waiting_append xs (x ∷ []) ∙ ap (λ l. waiting_in xs ++ l) (append-nil (asked_in x))

pub may_append : (xs ys : List (ℕ × Request)) → AllMayWait xs → AllMayWait ys → AllMayWait (xs ++ ys)
may_append [] ys first second = second
may_append (x ∷ xs) ys first second = (first.0, may_append xs ys first.1 second)

pub may_front : (xs ys : List (ℕ × Request)) → AllMayWait (xs ++ ys) → AllMayWait xs
may_front [] ys all = tt
may_front (x ∷ xs) ys all = (all.0, may_front xs ys all.1)

pub may_back : (xs ys : List (ℕ × Request)) → AllMayWait (xs ++ ys) → AllMayWait ys
may_back [] ys all = all
may_back (x ∷ xs) ys all = may_back xs ys all.1

-- ---- requests of one client

-- those taken first, and those taken then
pub takes_none : (states : States) (client : ℕ) (front : Front) → TakesThese states client [] front front
takes_none states client front = record {
  clients = sym (append-nil front.clients.items);
  requests = sym (append-nil front.requests.items);
  weighed = λ so_far. so_far;
  heavy = λ much. much;
  held = refl;
  done = sym (append-nil front.done.items);
}

both_parts : {X : Type 0} (old mid new first second : List X) → mid ≡ old ++ first → new ≡ mid ++ second → new ≡ old ++ (first ++ second)
both_parts old mid new first second one other = other ∙ ap (λ l. l ++ second) one ∙ append_assoc old first second

pub takes_both : (states : States) (client : ℕ) (first second : List Request) (old mid new : Front) → TakesThese states client first old mid → TakesThese states client second mid new → TakesThese states client (first ++ second) old new
takes_both states client first second old mid new one other =
    let all : asks_of client (first ++ second) ≡ asks_of client first ++ asks_of client second = map-append {B = ℕ × Request} (λ r. (client, r)) first second in
    record {
      clients = both_parts old.clients.items mid.clients.items new.clients.items (map (λ r. r.0) (asks_of client first)) (map (λ r. r.0) (asks_of client second)) one.clients other.clients
          ∙ ap (λ l. old.clients.items ++ l) (sym (ap (map (λ r. r.0)) all ∙ map-append (λ (r : ℕ × Request). r.0) (asks_of client first) (asks_of client second)));
      requests = both_parts old.requests.items mid.requests.items new.requests.items first second one.requests other.requests;
      weighed = λ so_far. other.weighed (one.weighed so_far);
      heavy = λ much. other.heavy (one.heavy much);
      held = other.held ∙ one.held;
      done = both_parts old.done.items mid.done.items new.done.items (asks_of client first) (asks_of client second) one.done other.done ∙ ap (λ l. old.done.items ++ l) (sym all);
    }

-- those so far
pub record TakesSoFar (states : States) (asking asking' : Asking) (old new : Front) : Type 0 where
  pub taken : List Request
  pub parts : asking.requests.items ≡ taken ++ asking'.requests.items
  pub client : asking'.client ≡ asking.client
  pub takes : TakesThese states asking.client taken old new
  pub shut : new.is_shut ≡ old.is_shut

pub so_far_none : (states : States) (asking : Asking) (front : Front) → TakesSoFar states asking asking front front
so_far_none states asking front = record { taken = []; parts = refl; client = refl; takes = takes_none states asking.client front; shut = refl }

pub so_far_more : (states : States) (asking mid_asking asking' : Asking) (old mid new : Front) → TakesSoFar states asking mid_asking old mid → TakesOne states mid_asking asking' mid new → TakesSoFar states asking asking' old new
so_far_more states asking mid_asking asking' old mid new so_far one = record {
  taken = so_far.taken ++ one.request ∷ [];
  parts = so_far.parts ∙ ap (λ l. so_far.taken ++ l) one.next ∙ sym (append_assoc so_far.taken (one.request ∷ []) asking'.requests.items);
  client = one.client ∙ so_far.client;
  takes = takes_both states asking.client so_far.taken (one.request ∷ []) old mid new so_far.takes (subst (λ n. TakesThese states n (one.request ∷ []) mid new) so_far.client one.takes);
  shut = one.shut ∙ so_far.shut;
}

-- ---- what was asked, in two parts

pub parts_none : (states : States) (front : Front) → front.clients.items ≡ [] → front.requests.items ≡ [] → front.weighed ≡ 0 → ((n : ℕ) → contains nat_cmp front.held n ≡ false) → Parts states front.done.items [] [] front
parts_none states front clients requests weighed held = record {
  first = [];
  clients = clients;
  requests = requests;
  noted = sym (append-nil front.done.items);
  may = tt;
  rest_may = tt;
  own_are = λ n. refl;
  weighed = omega (arith, weighed);
  held = λ _ n _. refl;
  heavy = λ _. inl held;
}

-- the parts of two lists, where one of two is empty
shuffled : {X : Type 0} (a b c d : List X) → (b ≡ []) ⊎ (c ≡ []) → (a ++ b) ++ (c ++ d) ≡ (a ++ c) ++ (b ++ d)
shuffled a b c d (inl none) =
    ap (λ l. (a ++ l) ++ (c ++ d)) none ∙ ap (λ l. l ++ (c ++ d)) (append-nil a) ∙ sym (append_assoc a c d) ∙ ap (λ l. (a ++ c) ++ (l ++ d)) (sym none)
shuffled a b c d (inr none) =
    ap (λ l. (a ++ b) ++ (l ++ d)) none ∙ append_assoc a b d ∙ ap (λ l. l ++ (b ++ d)) (sym (append-nil a)) ∙ ap (λ l. (a ++ l) ++ (b ++ d)) (sym none)

turned_number : (m n : ℕ) → (m == n) ≡ true → m ≡ n
turned_number m n is = grind (arith, nat_tests)

turned_apart : (m n : ℕ) → (m == n) ≡ false → (n == m) ≡ false
turned_apart m n is = grind (arith, nat_tests)

-- those of another client are none of this one's
pub none_of_other : (n client : ℕ) (requests : List Request) → (client == n) ≡ false → own n (asks_of client requests) ≡ []
none_of_other n client requests apart = own-other client n requests (turned_apart client n apart)

module _ (states : States) (done asked waits : List (ℕ × Request)) where
  -- nothing was taken of a client of which something waits already, or since memory was refused
  pub parts_skipped : (asking : Asking) (front : Front) → AllMayWait (asked_in asking) → (front.is_shut ≡ false → contains nat_cmp front.held asking.client ≡ true) → Parts states done asked waits front → Parts states done (asked ++ asked_in asking) (waits ++ asked_in asking) front
  parts_skipped asking front may held parts = record {
    first = parts.first;
    clients = parts.clients;
    requests = parts.requests;
    noted = parts.noted;
    may = parts.may;
    rest_may = may_append waits (asked_in asking) parts.rest_may may;
    own_are = λ n.
        own-append n asked (asked_in asking) ∙ ap (λ l. l ++ own n (asked_in asking)) (parts.own_are n) ∙ append_assoc (own n parts.first) (own n waits) (own n (asked_in asking))
        ∙ ap (λ l. own n parts.first ++ l) (sym (own-append n waits (asked_in asking)));
    weighed = parts.weighed;
    held = λ unshut n free. own-append n waits (asked_in asking) ∙ ap₂ (λ a b. a ++ b) (parts.held unshut n free) (none_of_other n asking.client asking.requests.items (apart n unshut free (asking.client == n) refl));
    heavy = parts.heavy;
  }
    where
      apart : (n : ℕ) → front.is_shut ≡ false → contains nat_cmp front.held n ≡ false → (b : Bool) → (asking.client == n) ≡ b → b ≡ false
      apart n unshut free false is = refl
      apart n unshut free true is = absurd (true≢false (sym (held unshut) ∙ ap (contains nat_cmp front.held) (turned_number asking.client n is) ∙ free))

  module _ (client : ℕ) (taken rest : List Request) (old mid : Front) (parts : Parts states done asked waits old) (unshut : old.is_shut ≡ false) (free : contains nat_cmp old.held client ≡ false) (may : AllMayWait (asks_of client (taken ++ rest)))
      (takes : TakesThese states client taken old mid) where
    all_are : asks_of client (taken ++ rest) ≡ asks_of client taken ++ asks_of client rest
    all_are = map-append {B = ℕ × Request} (λ r. (client, r)) taken rest

    -- of each client, what was taken before and now, and what waits
    own_more : (n : ℕ) → own n (asked ++ asks_of client (taken ++ rest)) ≡ own n (parts.first ++ asks_of client taken) ++ own n (waits ++ asks_of client rest)
    own_more n =
        own-append n asked (asks_of client (taken ++ rest)) ∙ ap₂ (λ a b. a ++ b) (parts.own_are n) (ap (own n) all_are ∙ own-append n (asks_of client taken) (asks_of client rest))
        ∙ shuffled (own n parts.first) (own n waits) (own n (asks_of client taken)) (own n (asks_of client rest)) (either (client == n) refl)
        ∙ sym (ap₂ (λ a b. a ++ b) (own-append n parts.first (asks_of client taken)) (own-append n waits (asks_of client rest)))
      where
        either : (b : Bool) → (client == n) ≡ b → (own n waits ≡ []) ⊎ (own n (asks_of client taken) ≡ [])
        either true is = inl (parts.held unshut n (ap (contains nat_cmp old.held) (sym (turned_number client n is)) ∙ free))
        either false is = inr (none_of_other n client taken is)

    -- what was taken is kept, and who is held
    pub parts_taken : (new : Front) → new.clients.items ≡ mid.clients.items → new.requests.items ≡ mid.requests.items → new.weighed ≡ mid.weighed → new.done.items ≡ mid.done.items
        → (new.is_shut ≡ false → (n : ℕ) → contains nat_cmp new.held n ≡ false → own n (waits ++ asks_of client rest) ≡ [])
        → (new.is_shut ≡ false → ((n : ℕ) → contains nat_cmp new.held n ≡ false) ⊎ (4194304 ≤ new.weighed))
        → Parts states done (asked ++ asks_of client (taken ++ rest)) (waits ++ asks_of client rest) new
    parts_taken new clients requests weighed noted held heavy = record {
      first = parts.first ++ asks_of client taken;
      clients = clients ∙ takes.clients ∙ ap (λ l. l ++ map (λ r. r.0) (asks_of client taken)) parts.clients ∙ sym (map-append (λ (r : ℕ × Request). r.0) parts.first (asks_of client taken));
      requests = requests ∙ takes.requests ∙ ap₂ (λ a b. a ++ b) parts.requests (asked_requests taken) ∙ sym (map-append (λ (r : ℕ × Request). r.1) parts.first (asks_of client taken));
      noted = noted ∙ takes.done ∙ ap (λ l. l ++ asks_of client taken) parts.noted ∙ append_assoc done parts.first (asks_of client taken);
      may = may_append parts.first (asks_of client taken) parts.may (may_front (asks_of client taken) (asks_of client rest) (subst AllMayWait all_are may));
      rest_may = may_append waits (asks_of client rest) parts.rest_may (may_back (asks_of client taken) (asks_of client rest) (subst AllMayWait all_are may));
      own_are = own_more;
      weighed = let counted : mid.weighed ≤ _ = takes.weighed parts.weighed in subst (λ l. IsWeighed states l new.weighed) (sym requests) (omega (arith, counted, weighed));
      held = held;
      heavy = heavy;
    }
      where
        asked_requests : (requests : List Request) → requests ≡ map (λ r. r.1) (asks_of client requests)
        asked_requests [] = refl
        asked_requests (r ∷ requests) = ap (λ l. r ∷ l) (asked_requests requests)

    -- all that the client asked was taken
    pub parts_all : (new : Front) → rest ≡ [] → new.clients.items ≡ mid.clients.items → new.requests.items ≡ mid.requests.items → new.weighed ≡ mid.weighed → new.done.items ≡ mid.done.items → new.held ≡ mid.held
        → Parts states done (asked ++ asks_of client (taken ++ rest)) (waits ++ asks_of client rest) new
    parts_all new none clients requests weighed noted held =
        let same : new.held ≡ old.held = held ∙ takes.held in
        let no_more : (n : ℕ) → own n (waits ++ asks_of client rest) ≡ own n waits = λ n. ap (λ l. own n (waits ++ asks_of client l)) none ∙ ap (own n) (append-nil waits) in
        parts_taken new clients requests weighed noted
        (λ _ n none_held. no_more n ∙ parts.held unshut n (ap (λ (h : BTreeSet ℕ). contains nat_cmp h n) (sym same) ∙ none_held))
        (λ _. elim (parts.heavy unshut) [
          | inl nobody ↦ inl (λ n. ap (λ (h : BTreeSet ℕ). contains nat_cmp h n) same ∙ nobody n)
          | inr much ↦ inr (let still = takes.heavy much in omega (arith, still, weighed))
        ])

    -- the rest waits
    pub parts_held : (new : Front) → new.clients.items ≡ mid.clients.items → new.requests.items ≡ mid.requests.items → new.weighed ≡ mid.weighed → new.done.items ≡ mid.done.items
        → (new.is_shut ≡ false → Updates nat_cmp mid.held new.held client true) → (new.is_shut ≡ false → 4194304 ≤ new.weighed)
        → Parts states done (asked ++ asks_of client (taken ++ rest)) (waits ++ asks_of client rest) new
    parts_held new clients requests weighed noted updates much =
        parts_taken new clients requests weighed noted
        (λ shut n none_held. (
        let apart = not_noted mid.held new.held client n (updates shut) none_held in
        own-append n waits (asks_of client rest)
        ∙ ap₂ (λ a b. a ++ b) (parts.held unshut n (ap (λ (h : BTreeSet ℕ). contains nat_cmp h n) (sym takes.held) ∙ apart.1)) (own-other client n rest apart.0)))
        (λ shut. inr (much shut))

-- ---- those that ask, in another order

-- nobody's is nothing
pub none_own : (asks : List (ℕ × Request)) → ((n : ℕ) → own n asks ≡ []) → asks ≡ []
none_own [] none = refl
none_own (ask ∷ asks) none = absurd (let no : ◌≡◌ {A = List Request} (ask.1 ∷ own ask.0 asks) [] = sym (ap (λ b. cond b (ask.1 ∷ own ask.0 asks) (own ask.0 asks)) (same_number ask.0)) ∙ none ask.0 in cc)

-- this client's come last, behind those of the others
pub record PartedSoFar (client : ℕ) (yielded others last : List Asking) : Type 0 where
  pub own_are : (n : ℕ) → own n (waiting_in others) ++ own n (waiting_in last) ≡ own n (waiting_in yielded)
  pub apart : own client (waiting_in others) ≡ []
  pub alone : (n : ℕ) → (client == n) ≡ false → own n (waiting_in last) ≡ []
  pub may : AllMayWait (waiting_in yielded) → AllMayWait (waiting_in others) × AllMayWait (waiting_in last)

own_pushed : (n : ℕ) (xs : List Asking) (x : Asking) → own n (waiting_in (xs ++ x ∷ [])) ≡ own n (waiting_in xs) ++ own n (asked_in x)
own_pushed n xs x = ap (own n) (waiting_push xs x) ∙ own-append n (waiting_in xs) (asked_in x)

may_pushed : (xs : List Asking) (x : Asking) → AllMayWait (waiting_in (xs ++ x ∷ [])) → AllMayWait (waiting_in xs) × AllMayWait (asked_in x)
may_pushed xs x may = let both = subst AllMayWait (waiting_push xs x) may in (may_front (waiting_in xs) (asked_in x) both, may_back (waiting_in xs) (asked_in x) both)

pub may_push : (xs : List Asking) (x : Asking) → AllMayWait (waiting_in xs) → AllMayWait (asked_in x) → AllMayWait (waiting_in (xs ++ x ∷ []))
may_push xs x all one = subst AllMayWait (sym (waiting_push xs x)) (may_append (waiting_in xs) (asked_in x) all one)

module _ (client : ℕ) (yielded others last : List Asking) (one : Asking) (so_far : PartedSoFar client yielded others last) where
  pub parted_last : one.client ≡ client → PartedSoFar client (yielded ++ one ∷ []) others (last ++ one ∷ [])
  parted_last is = record {
    own_are = λ n.
        ap (λ l. own n (waiting_in others) ++ l) (own_pushed n last one) ∙ sym (append_assoc (own n (waiting_in others)) (own n (waiting_in last)) (own n (asked_in one)))
        ∙ ap (λ l. l ++ own n (asked_in one)) (so_far.own_are n) ∙ sym (own_pushed n yielded one);
    apart = so_far.apart;
    alone = λ n apart. own_pushed n last one ∙ ap₂ (λ a b. a ++ b) (so_far.alone n apart) (none_of_other n one.client one.requests.items (ap (λ m. m == n) is ∙ apart));
    may = λ may. let both = may_pushed yielded one may in let before = so_far.may both.0 in (before.0, may_push last one before.1 both.1);
  }

  pub parted_other : (one.client == client) ≡ false → PartedSoFar client (yielded ++ one ∷ []) (others ++ one ∷ []) last
  parted_other not = record {
    own_are = λ n.
        ap (λ l. l ++ own n (waiting_in last)) (own_pushed n others one)
        ∙ ap (λ l. (own n (waiting_in others) ++ own n (asked_in one)) ++ l) (sym (append-nil (own n (waiting_in last))))
        ∙ shuffled (own n (waiting_in others)) (own n (asked_in one)) (own n (waiting_in last)) [] (either n (client == n) refl)
        ∙ ap₂ (λ a b. a ++ b) (so_far.own_are n) (append-nil (own n (asked_in one))) ∙ sym (own_pushed n yielded one);
    apart = own_pushed client others one ∙ ap₂ (λ a b. a ++ b) so_far.apart (none_of_other client one.client one.requests.items not);
    alone = so_far.alone;
    may = λ may. let both = may_pushed yielded one may in let before = so_far.may both.0 in (may_push others one before.0 both.1, before.1);
  }
    where
      either : (n : ℕ) (b : Bool) → (client == n) ≡ b → (own n (asked_in one) ≡ []) ⊎ (own n (waiting_in last) ≡ [])
      either n true is = inl (none_of_other n one.client one.requests.items (ap (λ m. one.client == m) (sym (turned_number client n is)) ∙ not))
      either n false is = inr (so_far.alone n is)

pub parted_own : (client : ℕ) (all others last : List Asking) → PartedSoFar client all others last → (n : ℕ) → own n (waiting_in (others ++ last)) ≡ own n (waiting_in all)
parted_own client all others last so_far n = ap (own n) (waiting_append others last) ∙ own-append n (waiting_in others) (waiting_in last) ∙ so_far.own_are n

pub parted_may : (client : ℕ) (all others last : List Asking) → PartedSoFar client all others last → AllMayWait (waiting_in all) → AllMayWait (waiting_in (others ++ last))
parted_may client all others last so_far may = let both = so_far.may may in subst AllMayWait (sym (waiting_append others last)) (may_append (waiting_in others) (waiting_in last) both.0 both.1)

-- ---- several of one client

-- a client asks these, behind what waits
pub waiting_more : (old new : List Asking) (client : ℕ) (requests : List Request) (one : Asking) → new ≡ old ++ one ∷ [] → one.client ≡ client → one.requests.items ≡ requests → waiting_in new ≡ waiting_in old ++ asks_of client requests
waiting_more old new client requests one is same items = ap waiting_in is ∙ waiting_push old one ∙ ap₂ (λ n l. waiting_in old ++ asks_of n l) same items

-- one more
pub may_more : (asks : List (ℕ × Request)) (ask : ℕ × Request) → AllMayWait asks → MayWait ask → AllMayWait (asks ++ ask ∷ [])
may_more [] ask all one = (one, tt)
may_more (first ∷ asks) ask all one = (all.0, may_more asks ask all.1 one)

pub asks_more : (client : ℕ) (requests : List Request) (request : Request) → asks_of client (requests ++ request ∷ []) ≡ asks_of client requests ++ (client, request) ∷ []
asks_more client requests request = map-append {B = ℕ × Request} (λ r. (client, r)) requests (request ∷ [])

-- one of those that may wait
pub may_at : (client : ℕ) (requests : List Request) (i : ℕ) (request : Request) → i < length requests → request ≡ get_or requests i request → AllMayWait (asks_of client requests) → MayWait (client, request)
may_at client [] i request low is may = absurd (omega arith)
may_at client (first ∷ requests) zero request low is may = subst (λ (r : Request). MayWait (client, r)) (sym is) may.0
may_at client (first ∷ requests) (suc i) request low is may = may_at client requests i request (omega arith) is may.1

-- ---- whether something is left

pub empty_items : (count : ℕ) (requests : List Request) → count ≡ length requests → (count == 0) ≡ true → requests ≡ []
empty_items count [] is nothing = refl
empty_items count (r ∷ requests) is nothing = absurd (let none : count ≡ 0 = grind (arith, nat_tests, nothing) in omega (arith, none, is))

pub some_items : (count : ℕ) (requests : List Request) → count ≡ length requests → (count == 0) ≡ false → requests ≡ [] → ⊥
some_items count requests is some none =
    let nothing : count ≡ 0 = is ∙ ap length none in
    let yes : (count == 0) ≡ true = grind (arith, nat_tests, nothing) in
    true≢false (sym yes ∙ some)

-- nothing waits just where none of those that ask has something left
none_asked : (client : ℕ) (requests : List Request) → asks_of client requests ≡ [] → requests ≡ []
none_asked client [] is = refl
none_asked client (r ∷ requests) is = absurd (let no : ◌≡◌ {A = List (ℕ × Request)} ((client, r) ∷ asks_of client requests) [] = is in cc)

none_in_front : (xs ys : List (ℕ × Request)) → xs ++ ys ≡ [] → xs ≡ []
none_in_front [] ys is = refl
none_in_front (x ∷ xs) ys is = absurd (let no : ◌≡◌ {A = List (ℕ × Request)} (x ∷ (xs ++ ys)) [] = is in cc)

none_behind : (xs ys : List (ℕ × Request)) → xs ++ ys ≡ [] → ys ≡ []
none_behind [] ys is = is
none_behind (x ∷ xs) ys is = absurd (let no : ◌≡◌ {A = List (ℕ × Request)} (x ∷ (xs ++ ys)) [] = is in cc)

pub none_of_any : (all : List Asking) → list_any has_some all ≡ false → waiting_in all ≡ []
none_of_any [] is = refl
none_of_any (one ∷ all) is = by_len (one.requests.len == 0) refl (λ (h : list_any has_some all ≡ false). none_of_any all h)
  where
    by_len : (b : Bool) → (one.requests.len == 0) ≡ b → (list_any has_some all ≡ false → waiting_in all ≡ []) → waiting_in (one ∷ all) ≡ []
    by_len true none rest =
        ap₂ (λ a b. a ++ b) (ap (asks_of one.client) (empty_items one.requests.len one.requests.items one.requests.ok.0 none)) (rest (sym (ap (λ b. not b || list_any has_some all) none) ∙ is))
    by_len false some rest = absurd (true≢false (sym (ap (λ b. not b || list_any has_some all) some) ∙ is))

pub some_of_any : (all : List Asking) → list_any has_some all ≡ true → waiting_in all ≡ [] → ⊥
some_of_any [] is nothing = true≢false (sym is)
some_of_any (one ∷ all) is nothing = by_len (one.requests.len == 0) refl (λ (h : list_any has_some all ≡ true). some_of_any all h (none_behind (asked_in one) (waiting_in all) nothing))
  where
    by_len : (b : Bool) → (one.requests.len == 0) ≡ b → (list_any has_some all ≡ true → ⊥) → ⊥
    by_len true none rest = rest (sym (ap (λ b. not b || list_any has_some all) none) ∙ is)
    by_len false some rest =
        some_items one.requests.len one.requests.items one.requests.ok.0 some (none_asked one.client one.requests.items (none_in_front (asked_in one) (waiting_in all) nothing))

-- one of those that ask
pub may_in : (all : List Asking) (i : ℕ) (one : Asking) → i < length all → one ≡ get_or all i one → AllMayWait (waiting_in all) → AllMayWait (asked_in one)
may_in [] i one low is may = absurd (omega arith)
may_in (first ∷ all) zero one low is may = subst (λ (a : Asking). AllMayWait (asked_in a)) (sym is) (may_front (asked_in first) (waiting_in all) may)
may_in (first ∷ all) (suc i) one low is may = may_in all i one (omega arith) is (may_back (asked_in first) (waiting_in all) may)

pub apart_of : (n m : ℕ) → n ≢ m → (n == m) ≡ false
apart_of n m other = by_eq (n == m) refl
  where
    by_eq : (b : Bool) → (n == m) ≡ b → (n == m) ≡ false
    by_eq true is = absurd (other (turned_number n m is))
    by_eq false is = is

-- a client asks more
pub asked_then : (done now then : List (ℕ × Request)) (taken left : List (ℕ × Reply)) (hand : AtHandValue) (client : ℕ) (requests : List Request) → ◌≡◌ {A = AtHandValue} (record { done = done; waits = now; taken = taken; left = left }) hand
    → then ≡ now ++ asks_of client requests → ◌≡◌ {A = AtHandValue} (record { done = done; waits = then; taken = taken; left = left }) (asked_by_one hand client requests)
asked_then done now then taken left hand client requests is more =
    let first : ◌≡◌ {A = AtHandValue} (record { done = done; waits = then; taken = taken; left = left }) (asked_by_one (record { done = done; waits = now; taken = taken; left = left }) client requests) =
    ap (λ (l : List (ℕ × Request)). record { done = done; waits = l; taken = taken; left = left }) more in
    first ∙ ap (λ (v : AtHandValue). asked_by_one v client requests) is
