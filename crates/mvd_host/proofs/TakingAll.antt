-- The frames of clients, one client after the other.
use Rattle.std.proofs.Common.{◌≡◌, ◌⊎◌, inl, inr, ℕ, ◌+◌, ◌≤◌, ◌==◌, Bool, true, false, cond, List, [], ◌∷◌, ◌++◌, map, length, slice_index, ◌<◌, ◌||◌, true≢false, Option, Some, None, refl, sym, ap, ap₂, ◌≢◌, ◌∙◌, subst, subst₂, append-nil, arith, Result}
use Rattle.std.proofs.lemmas.Bool.Decides.{nat_tests}
use Rattle.std.specs.Ordering.{nat_cmp}
use Rattle.std.specs.BTreeMap.{is_at}
use Rattle.std.specs.List.{list_any}
use Rattle.mvd_dots.specs.declared.refusals.Refusal.{Refusal}
use Rattle.mvd_wire.specs.declared.request.Request.{Request}
use Rattle.mvd_conn.specs.History.{History}
use Rattle.mvd_host.specs.Hosts.{IfClient, client_in}
use Rattle.mvd_host.specs.Course.{BothClients, own}
use Rattle.mvd_host.specs.Taking.{AreApart, AreFaults, ExtendsTaken, HasTakenFrame, HoldsTaken, IsFair, HasNoNext, EndsTurn, IsNothingTaken, TakesAllFrames, TakesMore, TakesOf, TakesOn, TakesOnly}
use Rattle.mvd_site.specs.Held.{States}
use Rattle.mvd_host.specs.Weights.{AreHeavy, IsWeighed}
use Rattle.mvd_host.specs.declared.taking.Taken.{Taken}
use Rattle.mvd_host.proofs.Frames.{none_moved, same, takes_on, then_none}
use Rattle.mvd_host.proofs.Holding.{holds_same}
use Rattle.mvd_host.proofs.Hosts.{at_is}
use Rattle.std.proofs.lemmas.List.{length-append, length-map}
use Rattle.mvd_host.proofs.ToldLemmas.{no_first, no_second}
use Rattle.mvd_host.proofs.Weights.{heavy_more, heavy_of, not_heavy, weights_more}
use Rattle.mvd_host.proofs.Own.{both_none, both_on, both_self, own-append, own-other, own-same}

same_there : (n m : ℕ) → (n == m) ≡ true → m ≡ n
same_there n m is = grind (arith, nat_tests)

own_apart : (o : Option History) (rs : List Request) → ((h : History) → o ≡ Some h → rs ≡ []) → BothClients o o (TakesOn rs [])
own_apart None rs none = tt
own_apart (Some h) rs none = subst (λ l. TakesOn l [] h h) (sym (none h refl)) (same h h (record { taken = refl; answers = refl; moved = none_moved h }))

-- what is held before is of none of the clients
pub takes_nothing : (asks : List (ℕ × Request)) (clients : List (ℕ × History)) (taken : Taken) → HoldsTaken asks [] taken → AreApart asks clients → TakesAllFrames clients clients taken
takes_nothing asks clients taken holds apart = record {
  requests = asks;
  faulty = [];
  holds = holds;
  takes = λ n. own_apart (client_in clients n) (own n asks) (apart n);
}

module _ (client : ℕ) (old mid new : List (ℕ × History)) (before after : Taken) (all : TakesAllFrames old mid before) (one : TakesOf client mid new before after) where
  more_requests : List (ℕ × Request)
  more_requests = map (λ r. (client, r)) one.requests

  more_faulty : List (ℕ × Result Request Refusal)
  more_faulty = map (λ f. (client, f)) one.faulty

  here : (x y z : History) → TakesOn (own client all.requests) (own client all.faulty) x y → TakesOn one.requests one.faulty y z → TakesOn (own client (all.requests ++ more_requests)) (own client (all.faulty ++ more_faulty)) x z
  unfolding more_requests more_faulty
  here x y z p q =
      let rs : own client (all.requests ++ more_requests) ≡ own client all.requests ++ one.requests = own-append client all.requests more_requests ∙ ap (λ l. own client all.requests ++ l) (own-same client one.requests) in
      let fs : own client (all.faulty ++ more_faulty) ≡ own client all.faulty ++ one.faulty = own-append client all.faulty more_faulty ∙ ap (λ l. own client all.faulty ++ l) (own-same client one.faulty) in
      let on : TakesOn (own client all.requests ++ one.requests) (own client all.faulty ++ one.faulty) x z =
      elim (one.first all.requests all.faulty all.holds) [
        | inl none ↦ subst (λ l. TakesOn (own client all.requests ++ one.requests) (l ++ one.faulty) x z) (sym none)
            (takes_on x y z (own client all.requests) one.requests one.faulty (subst (λ l. TakesOn (own client all.requests) l x y) none p) q)
        | inr nothing ↦ subst₂ (λ a b. TakesOn (own client all.requests ++ a) (own client all.faulty ++ b) x z) (sym nothing.0) (sym nothing.1)
            (subst₂ (λ a b. TakesOn a b x z) (sym (append-nil (own client all.requests))) (sym (append-nil (own client all.faulty)))
            (then_none x y z (own client all.requests) (own client all.faulty) p (subst₂ (λ a b. TakesOn a b y z) nothing.0 nothing.1 q)))
      ] in
      subst₂ (λ a b. TakesOn a b x z) (sym rs) (sym fs) on

  elsewhere : (n : ℕ) → (n == client) ≡ false → BothClients (client_in old n) (client_in new n) (TakesOn (own n (all.requests ++ more_requests)) (own n (all.faulty ++ more_faulty)))
  unfolding more_requests more_faulty
  elsewhere n apart =
      let rs : own n (all.requests ++ more_requests) ≡ own n all.requests = own-append n all.requests more_requests ∙ ap (λ l. own n all.requests ++ l) (own-other client n one.requests apart) ∙ append-nil (own n all.requests) in
      let fs : own n (all.faulty ++ more_faulty) ≡ own n all.faulty = own-append n all.faulty more_faulty ∙ ap (λ l. own n all.faulty ++ l) (own-other client n one.faulty apart) ∙ append-nil (own n all.faulty) in
      subst (λ o. BothClients (client_in old n) o (TakesOn (own n (all.requests ++ more_requests)) (own n (all.faulty ++ more_faulty)))) (sym (one.others n apart))
      (subst₂ (λ a b. BothClients (client_in old n) (client_in mid n) (TakesOn a b)) (sym rs) (sym fs) (all.takes n))

  at : (n : ℕ) (b : Bool) → (n == client) ≡ b → BothClients (client_in old n) (client_in new n) (TakesOn (own n (all.requests ++ more_requests)) (own n (all.faulty ++ more_faulty)))
  at n true is =
      let eq : client ≡ n = same_there n client is in
      subst (λ m. BothClients (client_in old m) (client_in new m) (TakesOn (own m (all.requests ++ more_requests)) (own m (all.faulty ++ more_faulty)))) eq
      (both_on (client_in old client) (client_in mid client) (client_in new client) _ _ _ here (all.takes client) one.one)
  at n false is = elsewhere n is

  pub takes_of : TakesAllFrames old new after
  unfolding more_requests more_faulty
  takes_of = record {
    requests = all.requests ++ more_requests;
    faulty = all.faulty ++ more_faulty;
    holds = one.holds all.requests all.faulty all.holds;
    takes = λ n. at n (n == client) refl;
  }

  -- of a client that is not this one, no more was taken
  apart_too : (n : ℕ) (kept : List Request) → (n == client) ≡ false → (own n all.requests ≡ kept) × (own n all.faulty ≡ []) → (own n (all.requests ++ more_requests) ≡ kept) × (own n (all.faulty ++ more_faulty) ≡ [])
  unfolding more_requests more_faulty
  apart_too n kept apart none = (
    own-append n all.requests more_requests ∙ ap₂ (λ a b. a ++ b) none.0 (own-other client n one.requests apart) ∙ append-nil kept,
    own-append n all.faulty more_faulty ∙ ap₂ (λ a b. a ++ b) none.1 (own-other client n one.faulty apart),
  )

  none_too : (n : ℕ) (kept : List Request) (b : Bool) → (n == client) ≡ b → client_in mid n ≡ None → (own n all.requests ≡ kept) × (own n all.faulty ≡ []) → (own n (all.requests ++ more_requests) ≡ kept) × (own n (all.faulty ++ more_faulty) ≡ [])
  unfolding more_requests more_faulty
  none_too n kept false is gone none = apart_too n kept is none
  none_too n kept true is gone none =
      let nothing = one.none (ap (client_in mid) (same_there n client is) ∙ gone) in (
        own-append n all.requests more_requests ∙ ap₂ (λ a b. a ++ b) none.0 (ap (λ (l : List Request). own n (map {B = ℕ × Request} (λ r. (client, r)) l)) nothing.0) ∙ append-nil kept,
        own-append n all.faulty more_faulty ∙ ap₂ (λ a b. a ++ b) none.1 (ap (λ (l : List (Result Request Refusal)). own n (map {B = ℕ × Result Request Refusal} (λ f. (client, f)) l)) nothing.1),
      )

apart_is : (n m : ℕ) → m ≢ n → (n == m) ≡ false
apart_is n m other = by_eq (n == m) refl
  where
    by_eq : (b : Bool) → (n == m) ≡ b → (n == m) ≡ false
    by_eq true is = absurd (other (same_there n m is))
    by_eq false is = is

pub only_nothing : (asks : List (ℕ × Request)) (ready : List ℕ) (clients : List (ℕ × History)) (taken : Taken) → HoldsTaken asks [] taken → AreApart asks clients → TakesOnly asks ready 0 clients clients taken
unfolding takes_nothing
only_nothing asks ready clients taken holds apart = record { all = takes_nothing asks clients taken holds apart; none = λ n _. (refl, refl); only = λ n _. (refl, refl); same = λ n _. refl; weight = λ states. omega arith }

abbrev only_at : (asks : List (ℕ × Request)) (ready : List ℕ) (at : ℕ) (old mid new : List (ℕ × History)) (before after : Taken) → TakesOnly asks ready at old mid before → TakesOf (slice_index ready at) mid new before after → TakesOnly asks ready (at + 1) old new after
unfolding takes_of
only_at asks ready at old mid new before after so_far one =
    let client = slice_index ready at in
    record {
      all = takes_of client old mid new before after so_far.all one;
      none = λ n gone. none_too client old mid new before after so_far.all one n (own n asks) (n == client) refl
          (both_none (client_in old n) (client_in mid n) (TakesOn (own n so_far.all.requests) (own n so_far.all.faulty)) gone (so_far.all.takes n)) (so_far.none n gone);
      only = λ n out. apart_too client old mid new before after so_far.all one n (own n asks) (apart_is n client (out at (omega arith))) (so_far.only n (λ i below. out i (omega (arith, below))));
      same = λ n out. one.others n (apart_is n client (out at (omega arith))) ∙ so_far.same n (λ i below. out i (omega (arith, below)));
      weight = λ states. let more = weights_more states so_far.all.requests (map (λ r. (client, r)) one.requests) in let before = so_far.weight states in omega (arith, more, before);
    }

pub only_of : (asks : List (ℕ × Request)) (ready : List ℕ) (at : ℕ) (old mid new : List (ℕ × History)) (before after : Taken) → TakesOnly asks ready at old mid before → TakesOf (slice_index ready at) mid new before after → TakesOnly asks ready (at + 1) old new after
only_of asks ready at old mid new before after so_far one = only_at asks ready at old mid new before after so_far one

-- ---- one of the clients

own_none : (client : ℕ) (fs : List (ℕ × Result Request Refusal)) (es : List (ℕ × Refusal)) → AreFaults fs es → list_any (λ (e : ℕ × Refusal). e.0 == client) es ≡ false → own client fs ≡ []
own_none client [] es all none = refl
own_none client (f ∷ fs) [] all none = absurd all
own_none client (f ∷ fs) (e ∷ es) all none =
    let parts : ((e.0 == client) ≡ false) × (list_any (λ (x : ℕ × Refusal). x.0 == client) es ≡ false) = neither (e.0 == client) (list_any (λ (x : ℕ × Refusal). x.0 == client) es) none in
    let apart : (f.0 == client) ≡ false = subst (λ n. (n == client) ≡ false) all.0 parts.0 in
    ap (λ b. cond b (f.1 ∷ own client fs) (own client fs)) apart ∙ own_none client fs es all.2 parts.1
  where
    neither : (a b : Bool) → (a || b) ≡ false → (a ≡ false) × (b ≡ false)
    neither true b e = absurd (true≢false e)
    neither false b e = (refl, e)

pub takes_here : (client : ℕ) (old new : List (ℕ × History)) (h k : History) (before after : Taken) → client_in old client ≡ Some h → client_in new client ≡ Some k
    → ((q : ℕ) → client_in new q ≡ cond (is_at (nat_cmp client) q) (Some k) (client_in old q)) → list_any (λ (e : ℕ × Refusal). e.0 == client) before.faults.items ≡ false
    → TakesMore client h k before after → TakesOf client old new before after
takes_here client old new h k before after was is at none more = record {
  requests = more.requests;
  faulty = more.faulty;
  first = λ asked faults holds. inl (own_none client faults before.faults.items holds.faults none);
  one = subst₂ (λ a b. BothClients a b (TakesOn more.requests more.faulty)) (sym was) (sym is) more.conn;
  none = λ gone. absurd (let no : ◌≡◌ {A = Option History} (Some h) None = sym was ∙ gone in cc);
  others = λ q apart. at q ∙ ap (λ b. cond b (Some k) (client_in old q)) (at_is client q ∙ apart);
  holds = more.holds;
}

pub takes_nowhere : (client : ℕ) (old new : List (ℕ × History)) (taken : Taken) → new ≡ old → TakesOf client old new taken taken
takes_nowhere client old new taken is = record {
  requests = [];
  faulty = [];
  first = λ asked faults holds. inr (refl, refl);
  one = subst (λ l. BothClients (client_in old client) (client_in l client) (TakesOn [] [])) (sym is) (both_self (client_in old client) (TakesOn [] []) (λ x. same x x (record { taken = refl; answers = refl; moved = none_moved x })));
  none = λ _. (refl, refl);
  others = λ q apart. ap (λ l. client_in l q) is;
  holds = λ asked faults holds. holds_same asked faults taken taken (record { clients = refl; requests = refl; faults = refl }) holds;
}

-- ---- nothing comes next

i_cases : (i at : ℕ) → i < at + 1 → (i ≡ at) ⊎ (i < at)
i_cases i at below = by_eq (i == at) refl
  where
    by_eq : (b : Bool) → (i == at) ≡ b → (i ≡ at) ⊎ (i < at)
    by_eq true is = inl (grind (arith, nat_tests))
    by_eq false is = inr (grind (arith, nat_tests))

idle_apart : (client : ℕ) (mid new : List (ℕ × History)) → IfClient (client_in new client) HasNoNext → ((q : ℕ) → (q == client) ≡ false → client_in new q ≡ client_in mid q)
    → (n : ℕ) (b : Bool) → (n == client) ≡ b → IfClient (client_in mid n) HasNoNext → IfClient (client_in new n) HasNoNext
idle_apart client mid new here others n true is idle = subst (λ m. IfClient (client_in new m) HasNoNext) (same_there n client is) here
idle_apart client mid new here others n false is idle = subst (λ o. IfClient o HasNoNext) (sym (others n is)) idle

none_any : (es : List (ℕ × Refusal)) (client : ℕ) → length es ≡ 0 → list_any (λ (e : ℕ × Refusal). e.0 == client) es ≡ true → ⊥
none_any [] client none any = true≢false (sym any)
none_any (e ∷ es) client none any = omega arith

idle_here : (client : ℕ) (new : List (ℕ × History)) (before after : Taken) (Heavy : Type 0) → ¬ Heavy → IsNothingTaken after → ExtendsTaken before after → EndsTurn client new before after Heavy → IfClient (client_in new client) HasNoNext
idle_here client new before after Heavy light none grows (inl more) = absurd (omega (arith, none, more))
idle_here client new before after Heavy light none grows (inr (inl any)) = absurd (none_any before.faults.items client (let f = grows.faults in omega (arith, none, f)) any)
idle_here client new before after Heavy light none grows (inr (inr (inl idle))) = idle
idle_here client new before after Heavy light none grows (inr (inr (inr heavy))) = absurd (light heavy)

pub idle_all : (ready : List ℕ) (at : ℕ) (mid new : List (ℕ × History)) (before after : Taken) (Heavy : Type 0) → ¬ Heavy → TakesOf (slice_index ready at) mid new before after → ExtendsTaken before after → IsNothingTaken after
    → EndsTurn (slice_index ready at) new before after Heavy
    → (IsNothingTaken before → (i : ℕ) → i < at → IfClient (client_in mid (slice_index ready i)) HasNoNext) → (i : ℕ) → i < at + 1 → IfClient (client_in new (slice_index ready i)) HasNoNext
idle_all ready at mid new before after Heavy light took grows none ends so_far i below =
    let here : IfClient (client_in new (slice_index ready at)) HasNoNext = idle_here (slice_index ready at) new before after Heavy light none grows ends in
    let before_none : IsNothingTaken before = let a = grows.clients in let b = grows.faults in omega (arith, none, a, b) in
    elim (i_cases i at below) [
      | inl same ↦ subst (λ j. IfClient (client_in new (slice_index ready j)) HasNoNext) (sym same) here
      | inr less ↦ idle_apart (slice_index ready at) mid new here took.others (slice_index ready i) (slice_index ready i == slice_index ready at) refl (so_far before_none i less)
    ]

-- ---- each had a turn, or nothing comes next

faults_long : (fs : List (ℕ × Result Request Refusal)) (es : List (ℕ × Refusal)) → AreFaults fs es → length es ≡ length fs
faults_long [] [] all = refl
faults_long [] (e ∷ es) all = absurd all
faults_long (f ∷ fs) [] all = absurd all
faults_long (f ∷ fs) (e ∷ es) all = let rest = faults_long fs es all.2 in omega (arith, rest)

-- what was taken of a client later is its own too
own_later : {X : Type 0} (client : ℕ) (xs : List (ℕ × X)) (ys : List X) → own client (xs ++ map {B = ℕ × X} (λ y. (client, y)) ys) ≡ [] → ys ≡ []
own_later client xs ys none = no_second (own client xs) ys (ap (λ l. own client xs ++ l) (sym (own-same client ys)) ∙ sym (own-append client xs (map (λ y. (client, y)) ys)) ∙ none)

own_before : {X : Type 0} (n : ℕ) (xs ys : List (ℕ × X)) → own n (xs ++ ys) ≡ [] → own n xs ≡ []
own_before n xs ys none = no_first (own n xs) (own n ys) (sym (own-append n xs ys) ∙ none)

no_items_there : {X : Type 0} (x : X) (xs : List X) → x ∷ xs ≡ [] → ⊥
no_items_there {X} x xs none = let no : ◌≡◌ {A = List X} (x ∷ xs) [] = none in absurd (cc)

some_frame : (client : ℕ) (rs : List (ℕ × Request)) (fs : List (ℕ × Result Request Refusal)) (more : List Request) (faulty : List (Result Request Refusal)) → 0 < length more + length faulty
    → HasTakenFrame client (rs ++ map (λ r. (client, r)) more) (fs ++ map (λ f. (client, f)) faulty)
some_frame client rs fs (r ∷ more) faulty some = inl (λ none. no_items_there r more (own_later client rs (r ∷ more) none))
some_frame client rs fs [] (f ∷ faulty) some = inr (λ none. no_items_there f faulty (own_later client fs (f ∷ faulty) none))
some_frame client rs fs [] [] some = absurd (omega (arith, some))

-- a client that has a fault has a frame that is none
own_any : (client : ℕ) (fs : List (ℕ × Result Request Refusal)) (es : List (ℕ × Refusal)) → AreFaults fs es → list_any (λ (e : ℕ × Refusal). e.0 == client) es ≡ true → own client fs ≡ [] → ⊥
own_any client [] [] all any none = true≢false (sym any)
own_any client [] (e ∷ es) all any none = absurd all
own_any client (f ∷ fs) [] all any none = absurd all
own_any client (f ∷ fs) (e ∷ es) all any none = by_bool (own_any client fs es all.2) (f.0 == client) refl
  where
    by_bool : (list_any (λ (x : ℕ × Refusal). x.0 == client) es ≡ true → own client fs ≡ [] → ⊥) → (b : Bool) → (f.0 == client) ≡ b → ⊥
    by_bool rest true is = no_items_there f.1 (own client fs) (sym (ap (λ b. cond b (f.1 ∷ own client fs) (own client fs)) is) ∙ none)
    by_bool rest false is =
        let later : own client fs ≡ [] = sym (ap (λ b. cond b (f.1 ∷ own client fs) (own client fs)) is) ∙ none in
        let apart : (e.0 == client) ≡ false = subst (λ n. (n == client) ≡ false) (sym all.0) is in
        rest (sym (ap (λ b. b || list_any (λ (x : ℕ × Refusal). x.0 == client) es) apart) ∙ any) later

pub fair_of : (states : States) (asks : List (ℕ × Request)) (ready : List ℕ) (at : ℕ) (old mid new : List (ℕ × History)) (before after : Taken) (counted : ℕ) (so_far : TakesOnly asks ready at old mid before) (one : TakesOf (slice_index ready at) mid new before after)
    → IsWeighed states after.requests.items counted → EndsTurn (slice_index ready at) new before after (4194304 ≤ counted)
    → (t : TakesOnly asks ready (at + 1) old new after) × (IsFair states ready at so_far.all.requests so_far.all.faulty mid → IsFair states ready (at + 1) t.all.requests t.all.faulty new)
unfolding takes_of more_requests more_faulty
fair_of states asks ready at old mid new before after counted so_far one weighed ends =
    let client = slice_index ready at in
    let rs = so_far.all.requests in
    let fs = so_far.all.faulty in
    let Rs : List (ℕ × Request) = rs ++ map (λ r. (client, r)) one.requests in
    let Fs : List (ℕ × Result Request Refusal) = fs ++ map (λ f. (client, f)) one.faulty in
    let held = one.holds rs fs so_far.all.holds in
    let here : HasTakenFrame client Rs Fs ⊎ IfClient (client_in new client) HasNoNext ⊎ AreHeavy states Rs = elim ends [
      | inl more ↦
          let a : length before.clients.items ≡ length rs = ap length so_far.all.holds.clients ∙ length-map rs (λ (r : ℕ × Request). r.0) in
          let b : length before.faults.items ≡ length fs = faults_long fs before.faults.items so_far.all.holds.faults in
          let c : length after.clients.items ≡ length Rs = ap length held.clients ∙ length-map Rs (λ (r : ℕ × Request). r.0) in
          let d : length after.faults.items ≡ length Fs = faults_long Fs after.faults.items held.faults in
          let x : length Rs ≡ length rs + length one.requests = length-append rs (map (λ r. (client, r)) one.requests) ∙ ap (λ k. length rs + k) (length-map one.requests (λ (r : Request). (client, r))) in
          let y : length Fs ≡ length fs + length one.faulty = length-append fs (map (λ f. (client, f)) one.faulty) ∙ ap (λ k. length fs + k) (length-map one.faulty (λ (f : Result Request Refusal). (client, f))) in
          inl (some_frame client rs fs one.requests one.faulty (omega (arith, more, a, b, c, d, x, y)))
      | inr (inl any) ↦ inl (inr (λ none. own_any client fs before.faults.items so_far.all.holds.faults any (own_before client fs (map (λ f. (client, f)) one.faulty) none)))
      | inr (inr (inl idle)) ↦ inr (inl idle)
      | inr (inr (inr much)) ↦ inr (inr (heavy_of states after.requests.items Rs counted held.requests_are weighed much))
    ] in (
      only_at asks ready at old mid new before after so_far one,
      λ fair i below. elim (i_cases i at below) [
        | inl same ↦ subst (λ j. HasTakenFrame (slice_index ready j) Rs Fs ⊎ IfClient (client_in new (slice_index ready j)) HasNoNext ⊎ AreHeavy states Rs) (sym same) here
        | inr less ↦ still states ready at mid new before after one rs fs here (slice_index ready i) (slice_index ready i == client) refl (fair i less)
      ],
    )
  where
    still : (states : States) (ready : List ℕ) (at : ℕ) (mid new : List (ℕ × History)) (before after : Taken) (one : TakesOf (slice_index ready at) mid new before after) (rs : List (ℕ × Request)) (fs : List (ℕ × Result Request Refusal))
        → (HasTakenFrame (slice_index ready at) (rs ++ map (λ r. (slice_index ready at, r)) one.requests) (fs ++ map (λ f. (slice_index ready at, f)) one.faulty) ⊎ IfClient (client_in new (slice_index ready at)) HasNoNext ⊎ AreHeavy states (rs ++ map (λ r. (slice_index ready at, r)) one.requests))
        → (n : ℕ) (b : Bool) → (n == slice_index ready at) ≡ b → (HasTakenFrame n rs fs ⊎ IfClient (client_in mid n) HasNoNext ⊎ AreHeavy states rs)
        → HasTakenFrame n (rs ++ map (λ r. (slice_index ready at, r)) one.requests) (fs ++ map (λ f. (slice_index ready at, f)) one.faulty) ⊎ IfClient (client_in new n) HasNoNext ⊎ AreHeavy states (rs ++ map (λ r. (slice_index ready at, r)) one.requests)
    still states ready at mid new before after one rs fs here n true is was =
        subst (λ m. HasTakenFrame m (rs ++ map (λ r. (slice_index ready at, r)) one.requests) (fs ++ map (λ f. (slice_index ready at, f)) one.faulty) ⊎ IfClient (client_in new m) HasNoNext ⊎ AreHeavy states (rs ++ map (λ r. (slice_index ready at, r)) one.requests)) (same_there n (slice_index ready at) is) here
    still states ready at mid new before after one rs fs here n false is (inl (inl some)) = inl (inl (λ none. some (own_before n rs (map (λ r. (slice_index ready at, r)) one.requests) none)))
    still states ready at mid new before after one rs fs here n false is (inl (inr some)) = inl (inr (λ none. some (own_before n fs (map (λ f. (slice_index ready at, f)) one.faulty) none)))
    still states ready at mid new before after one rs fs here n false is (inr (inl idle)) = inr (inl (subst (λ o. IfClient o HasNoNext) (sym (one.others n is)) idle))
    still states ready at mid new before after one rs fs here n false is (inr (inr heavy)) = inr (inr (heavy_more states rs (map (λ r. (slice_index ready at, r)) one.requests) heavy))

-- where nothing was taken, nothing is heavy
pub nothing_heavy : (asks : List (ℕ × Request)) (ready : List ℕ) (at : ℕ) (old mid new : List (ℕ × History)) (before after : Taken) (states : States) (counted : ℕ) → TakesOnly asks ready at old mid before → TakesOf (slice_index ready at) mid new before after
    → IsNothingTaken after → IsWeighed states after.requests.items counted → 4194304 ≤ counted → ⊥
nothing_heavy asks ready at old mid new before after states counted so_far one none weighed much =
    let t = only_of asks ready at old mid new before after so_far one in
    let rs = t.all.requests in
    let clients : length after.clients.items ≡ length rs = ap length t.all.holds.clients ∙ length-map rs (λ (r : ℕ × Request). r.0) in
    not_heavy states rs (empty_of rs (omega (arith, none, clients))) (heavy_of states after.requests.items rs counted t.all.holds.requests_are weighed much)
  where
    empty_of : (rs : List (ℕ × Request)) → length rs ≡ 0 → rs ≡ []
    empty_of [] none = refl
    empty_of (r ∷ rs) none = absurd (omega (arith, none))
