-- Rounds, and what comes between them, one after the other.
use Rattle.std.proofs.Common.{◌≡◌, ℕ, ◌≤◌, ◌<◌, ◌==◌, Bool, true, false, cond, List, [], ◌∷◌, ◌++◌, map, Option, Some, None, refl, sym, ap, ap₂, ◌∙◌, subst, append-nil, append_assoc, Result, Ok, Err, IfOk, arith}
use Rattle.std.proofs.lemmas.Bool.Decides.{nat_tests}
use Rattle.std.proofs.lemmas.List.{map-append}
use Rattle.std.specs.List.{concat}
use Rattle.mvd_conn.proofs.Hellos.{hello_asks}
use Rattle.mvd_conn.specs.Guard.{IsShown, asked_under, may_under, shows}
use Rattle.mvd_conn.specs.Stands.{IsLast, HistoryStands}
use Rattle.mvd_conn.specs.declared.guard.Guard.{Guard}
use Rattle.mvd_conn.specs.declared.guard.Guard.TheVariants.{Asks, Knows, Left}
use Rattle.mvd_conn.specs.declared.passes.Pass.{Pass}
use Rattle.mvd_conn.specs.History.{History, last_bytes, new_history}
use Rattle.mvd_dots.specs.declared.refusals.Refusal.{Refusal}
use Rattle.mvd_dots.specs.declared.refusals.Refusal.TheVariants.{NotAdmitted}
use Rattle.mvd_wire.specs.Frames.{FrameValue}
use Rattle.mvd_wire.specs.Requests.{request_of}
use Rattle.mvd_wire.specs.declared.request.Request.{Request}
use Rattle.mvd_wire.specs.declared.request.Request.TheVariants.{Hello}
use Rattle.mvd_replica.specs.Turns.{Turn}
use Rattle.mvd_host.specs.AtHand.{AtHandValue, StepsAtHand, first_at_hand, none_at_hand}
use Rattle.mvd_host.specs.Hosts.{AdmitsOne, HostValue, ClientLeaves, altered, client_of, new_host}
use Rattle.mvd_host.specs.Course.{AreQueued, BothClients, asked_by, own}
use Rattle.mvd_host.specs.Round.{ClientCourse, Round, turns_of}
use Rattle.mvd_host.specs.Runs.{Call, Calls, Comes, Goes, Hands, Happening, HasRight, HasShown, IsHelloOf, May, HostMoment, OneList, Rounds, Runs, TellsOwn, after_call, after_one, after_run, side_at, happened_turns, turns_in}
use Rattle.mvd_host.proofs.Called.{called, none_called, admitted_called, tells_call}
use Rattle.mvd_host.proofs.MoreAtHand.{MoreAtHand, none_more, more_on, more_stepped, more_answered, tells_at_hand}
use Rattle.mvd_host.proofs.Own.{own-append}
use Rattle.mvd_host.proofs.Positions.{Serves}
use Rattle.mvd_host.proofs.RoundLemmas.{was}
use Rattle.mvd_host.proofs.Serving.{serves_none, serves_on}
use Rattle.mvd_host.proofs.ToldLemmas.{queued_on}
use Rattle.sqlite.specs.State.{State}

-- ---- what holds from round to round

pub record SoFar {C : Type 0} (f : C → State) (old : HostMoment C) (turns : List (ℕ × Turn)) (side : HostMoment C) : Type 0 where
  pub serves : Serves (turns_of turns) old.site side.site (f old.conn) (f side.conn)
  pub tells : (n : ℕ) (h : History) → client_of side.host n ≡ Some h → TellsOwn (own n turns) h
  pub given : (n : ℕ) (h : History) → client_of side.host n ≡ Some h → n < side.host.admitted
  pub below : side.host.admitted ≤ first_at_hand
  pub later : (n : ℕ) → n < first_at_hand → side.host.admitted ≤ n → own n turns ≡ []
  at_hand : (n : ℕ) → first_at_hand ≤ n → MoreAtHand (own n turns) n old.hand side.hand

no_client : (n : ℕ) (h : History) → client_of new_host n ≡ Some h → ⊥
no_client n h found = let no : ◌≡◌ {A = Option History} None (Some h) = found in cc

pub begins : {C : Type 0} (f : C → State) → (side : HostMoment C) → side.host ≡ new_host → SoFar f side [] side
begins f side empty = record {
  serves = serves_none side.site (f side.conn);
  tells = λ n h found. absurd (no_client n h (ap (λ host. client_of host n) (sym empty) ∙ found));
  given = λ n h found. absurd (no_client n h (ap (λ host. client_of host n) (sym empty) ∙ found));
  below = subst (λ (host : HostValue). host.admitted ≤ first_at_hand) (sym empty) (omega (arith));
  later = λ n below above. refl;
  at_hand = λ n above. none_more n side.hand;
}

tells_new : (guard : Option Guard) → TellsOwn [] (new_history guard)
tells_new None = record { asked = refl; told = tt; shown = tt }
tells_new (Some guard) = record { asked = refl; told = tt; shown = tt }

tells_none : (guard : Option Guard) (turns : List Turn) (h : History) → turns ≡ [] → h ≡ new_history guard → TellsOwn turns h
tells_none guard turns h none new = subst (λ l. TellsOwn l h) (sym none) (subst (TellsOwn []) (sym new) (tells_new guard))

came : {C : Type 0} (f : C → State) → (old : HostMoment C) (turns : List (ℕ × Turn)) (side : HostMoment C) (n : ℕ) (host : HostValue) (guard : Option Guard) → AdmitsOne guard side.host host n → SoFar f old turns side → SoFar f old turns (record side { host = host })
came f old turns side n host guard one s = record {
  serves = s.serves;
  tells = λ q h found. on q h (q == n) refl (sym (one.clients q) ∙ found);
  given = λ q h found. given q h (q == n) refl (sym (one.clients q) ∙ found);
  below = let next = one.next in let number = one.number in let below = one.below in omega (arith, next, number, below);
  later = λ q below above. let next = one.next in s.later q below (omega (arith, above, next));
  at_hand = s.at_hand;
}
  where
    on : (q : ℕ) (h : History) (b : Bool) → (q == n) ≡ b → cond (q == n) (Some (new_history guard)) (client_of side.host q) ≡ Some h → TellsOwn (own q turns) h
    on q h true is found =
        let some : ◌≡◌ {A = Option History} (Some (new_history guard)) (Some h) = sym (ap (λ b. cond b (Some (new_history guard)) (client_of side.host q)) is) ∙ found in
        let eq : new_history guard ≡ h = cc in
        let number = one.number in
        let same : q ≡ n = grind (arith, nat_tests, is) in
        let below : q < first_at_hand = subst (λ m. m < first_at_hand) (sym same) one.below in
        tells_none guard (own q turns) h (s.later q below (omega (arith, number, same))) (sym eq)
    on q h false is found = s.tells q h (sym (ap (λ b. cond b (Some (new_history guard)) (client_of side.host q)) is) ∙ found)

    given : (q : ℕ) (h : History) (b : Bool) → (q == n) ≡ b → cond (q == n) (Some (new_history guard)) (client_of side.host q) ≡ Some h → q < host.admitted
    given q h true is found =
        let number = one.number in
        let next = one.next in
        let same : q ≡ n = grind (arith, nat_tests, is) in
        omega (arith, number, next, same)
    given q h false is found =
        let next = one.next in
        let below : q < side.host.admitted = s.given q h (sym (ap (λ b. cond b (Some (new_history guard)) (client_of side.host q)) is) ∙ found) in
        omega (arith, next, below)

stayed : (b : Bool) (o : Option History) (h : History) → cond b None o ≡ Some h → o ≡ Some h
stayed true o h found = absurd (let no : ◌≡◌ {A = Option History} None (Some h) = found in cc)
stayed false o h found = found

left : {C : Type 0} (f : C → State) → (old : HostMoment C) (turns : List (ℕ × Turn)) (side : HostMoment C) (n : ℕ) (host : HostValue) → ClientLeaves side.host n host → SoFar f old turns side → SoFar f old turns (record side { host = host })
left f old turns side n host one s = record {
  serves = s.serves;
  tells = λ q h found. s.tells q h (stayed (q == n) (client_of side.host q) h (sym (one.clients q) ∙ found));
  given = λ q h found. subst (λ a. q < a) (sym one.admitted) (s.given q h (stayed (q == n) (client_of side.host q) h (sym (one.clients q) ∙ found)));
  below = subst (λ a. a ≤ first_at_hand) (sym one.admitted) s.below;
  later = λ q below above. s.later q below (subst (λ a. a ≤ q) one.admitted above);
  at_hand = s.at_hand;
}

was_called : {C : Type 0} (f : C → State) → (old : HostMoment C) (turns : List (ℕ × Turn)) (side : HostMoment C) (n : ℕ) (call : Call) → SoFar f old turns side → SoFar f old turns (record side { host = altered side.host n (after_call call) })
was_called f old turns side n call s =
    let same : (altered side.host n (after_call call)).admitted ≡ side.host.admitted = admitted_called side.host n (after_call call) (client_of side.host n) in
    record {
      serves = s.serves;
      tells = called side.host n (after_call call) (λ q h. TellsOwn (own q turns) h) (λ q h t. tells_call (own q turns) call h t) s.tells;
      given = λ q h found. subst (λ a. q < a) (sym same) (called side.host n (after_call call) (λ q h. q < side.host.admitted) (λ q h below. below) s.given q h found);
      below = subst (λ a. a ≤ first_at_hand) (sym same) s.below;
      later = λ q below above. s.later q below (subst (λ a. a ≤ q) same above);
      at_hand = s.at_hand;
    }

was_handed : {C : Type 0} (f : C → State) → (old : HostMoment C) (turns : List (ℕ × Turn)) (side : HostMoment C) (hand : AtHandValue) → StepsAtHand side.hand hand → SoFar f old turns side → SoFar f old turns (record side { hand = hand })
was_handed f old turns side hand steps s = record {
  serves = s.serves;
  tells = s.tells;
  given = s.given;
  below = s.below;
  later = s.later;
  at_hand = λ n above.
      subst (λ l. MoreAtHand l n old.hand hand) (append-nil (own n turns)) (more_on (own n turns) [] n old.hand side.hand hand (s.at_hand n above) (more_stepped n side.hand hand steps));
}

tells_on : (first second : List Turn) (h k : History) → TellsOwn first h → ClientCourse second h k → TellsOwn (first ++ second) k
tells_on first second h k t c = record {
  asked = ap (map (asked_by k.guard)) c.taken ∙ map-append (asked_by k.guard) h.taken c.frames ∙ ap₂ (λ a b. a ++ b) (ap (λ (g : Option Guard). map (asked_by g) h.taken) c.moved.guard ∙ t.asked) c.asked ∙ sym (map-append (λ (t : Turn). t.asked) first second);
  told = subst (AreQueued (map (λ (t : Turn). t.reply) (first ++ second))) (sym c.answers)
      (subst (λ l. AreQueued l (h.answers ++ c.queued)) (sym (map-append (λ (t : Turn). t.reply) first second))
      (queued_on (map (λ t. t.reply) first) (map (λ t. t.reply) second) h.answers c.queued t.told c.told));
  shown = c.shown t.shown;
}

none_given : (o : Option History) (n a : ℕ) → a ≤ n → ((h : History) → o ≡ Some h → n < a) → o ≡ None
none_given None n a above given = refl
none_given (Some h) n a above given = absurd (let below : n < a = given h refl in omega (arith, above, below))

answered : {C : Type 0} (f : C → State) → (old : HostMoment C) (turns : List (ℕ × Turn)) (side : HostMoment C) (ready : List ℕ) (more : List (ℕ × Turn)) (new : HostMoment C) → Round ready more (side_at f side) (side_at f new) → SoFar f old turns side → SoFar f old (turns ++ more) new
answered f old turns side ready more new r s = record {
  serves = subst (λ l. Serves l old.site new.site (f old.conn) (f new.conn)) (sym (map-append (λ (t : ℕ × Turn). t.1) turns more))
      (serves_on (turns_of turns) (turns_of more) old.site side.site new.site (f old.conn) (f side.conn) (f new.conn) s.serves r.serves);
  tells = λ n k found.
      let h = was (client_of side.host n) k (ClientCourse (own n more)) (subst (λ o. BothClients (client_of side.host n) o (ClientCourse (own n more))) found (r.clients n)) in
      subst (λ l. TellsOwn l k) (sym (own-append n turns more)) (tells_on (own n turns) (own n more) h.0 k (s.tells n h.0 h.1) h.2);
  given = λ n k found.
      let h = was (client_of side.host n) k (ClientCourse (own n more)) (subst (λ o. BothClients (client_of side.host n) o (ClientCourse (own n more))) found (r.clients n)) in
      subst (λ a. n < a) (sym r.admitted) (s.given n h.0 h.1);
  below = subst (λ a. a ≤ first_at_hand) (sym r.admitted) s.below;
  later = λ n below above.
      let before : side.host.admitted ≤ n = subst (λ a. a ≤ n) r.admitted above in
      own-append n turns more ∙ ap₂ (λ a b. a ++ b) (s.later n below before) (r.spares.none n below (none_given (client_of side.host n) n side.host.admitted before (s.given n)));
  at_hand = λ n above.
      subst (λ l. MoreAtHand l n old.hand new.hand) (sym (own-append n turns more))
      (more_on (own n turns) (own n more) n old.hand side.hand new.hand (s.at_hand n above) (more_answered more n side.hand new.hand above r.at_hand));
}

one_more : {C : Type 0} (f : C → State) → (old : HostMoment C) (turns : List (ℕ × Turn)) (side : HostMoment C) (x : Happening C) → May f side x → SoFar f old turns side → SoFar f old (turns ++ happened_turns x) (after_one side x)
one_more f old turns side (Comes n host) may s = subst (λ l. SoFar f old l (record side { host = host })) (sym (append-nil turns)) (came f old turns side n host may.0 may.1 s)
one_more f old turns side (Goes n host) may s = subst (λ l. SoFar f old l (record side { host = host })) (sym (append-nil turns)) (left f old turns side n host may s)
one_more f old turns side (Calls n call) may s = subst (λ l. SoFar f old l (record side { host = altered side.host n (after_call call) })) (sym (append-nil turns)) (was_called f old turns side n call s)
one_more f old turns side (Hands hand) may s = subst (λ l. SoFar f old l (record side { hand = hand })) (sym (append-nil turns)) (was_handed f old turns side hand may s)
one_more f old turns side (Rounds ready more new) may s = answered f old turns side ready more new may s

pub goes_on : {C : Type 0} (f : C → State) → (old : HostMoment C) (turns : List (ℕ × Turn)) (side : HostMoment C) (xs : List (Happening C)) → Runs f side xs → SoFar f old turns side → SoFar f old (turns ++ turns_in xs) (after_run side xs)
goes_on f old turns side [] runs s = subst (λ l. SoFar f old l side) (sym (append-nil turns)) s
goes_on f old turns side (x ∷ xs) runs s =
    subst (λ l. SoFar f old l (after_run (after_one side x) xs)) (append_assoc turns (happened_turns x) (turns_in xs))
    (goes_on f old (turns ++ happened_turns x) (after_one side x) xs runs.1 (one_more f old turns side x runs.0 s))

pub so_far : {C : Type 0} (f : C → State) → (side : HostMoment C) (xs : List (Happening C)) → side.host ≡ new_host → Runs f side xs → SoFar f side (turns_in xs) (after_run side xs)
so_far f side xs empty runs = goes_on f side [] side xs runs (begins f side empty)

pub one_list : {C : Type 0} (f : C → State) → (side : HostMoment C) (xs : List (Happening C)) → side.host ≡ new_host → side.hand ≡ none_at_hand → Runs f side xs → OneList (turns_in xs) (side_at f side) (side_at f (after_run side xs))
one_list f side xs empty none runs =
    let s = so_far f side xs empty runs in
    record {
      serves = s.serves;
      clients = s.tells;
      at_hand = λ n above. tells_at_hand (own n (turns_in xs)) n side.hand (after_run side xs).hand none (s.at_hand n above);
    }

-- ---- a client that went

-- no client has this number, which no other gets, and it is of none at hand
record IsGone (n : ℕ) (host : HostValue) : Type 0 where
  below : n < first_at_hand
  given : n < host.admitted
  none : client_of host n ≡ None

gone_on : {C : Type 0} (f : C → State) → (n : ℕ) (side : HostMoment C) (x : Happening C) → May f side x → IsGone n side.host → (own n (happened_turns x) ≡ []) × IsGone n (after_one side x).host
gone_on f n side (Comes m host) (guard, one) gone =
    let number = one.number in
    let next = one.next in
    let given = gone.given in
    let apart : (n == m) ≡ false = grind (arith, nat_tests, number, given) in
    (refl, record { below = gone.below; given = omega (arith, next, given); none = one.clients n ∙ ap (λ b. cond b (Some (new_history guard)) (client_of side.host n)) apart ∙ gone.none })
gone_on f n side (Goes m host) may gone =
    (refl, record { below = gone.below; given = subst (λ a. n < a) (sym may.admitted) gone.given; none = may.clients n ∙ ap (λ o. cond (n == m) None o) gone.none ∙ either (n == m) })
  where
    either : (b : Bool) → ◌≡◌ {A = Option History} (cond b None None) None
    either true = refl
    either false = refl
gone_on f n side (Calls m call) may gone = (
  refl,
  record {
    below = gone.below;
    given = subst (λ a. n < a) (sym (admitted_called side.host m (after_call call) (client_of side.host m))) gone.given;
    none = none_called side.host m (after_call call) n (client_of side.host m) refl gone.none;
  },
)
gone_on f n side (Hands hand) may gone = (refl, gone)
gone_on f n side (Rounds ready more new) may gone = (
  may.spares.none n gone.below gone.none,
  record {
    below = gone.below;
    given = subst (λ a. n < a) (sym may.admitted) gone.given;
    none = both_gone (client_of side.host n) (client_of new.host n) (may.clients n) gone.none;
  },
)
  where
    both_gone : (a b : Option History) → BothClients a b (ClientCourse (own n more)) → a ≡ None → b ≡ None
    both_gone None None both is = refl
    both_gone None (Some y) both is = absurd both
    both_gone (Some x) b both is = absurd (let no : ◌≡◌ {A = Option History} (Some x) None = is in cc)

gone_for_good : {C : Type 0} (f : C → State) → (n : ℕ) (side : HostMoment C) (xs : List (Happening C)) → Runs f side xs → IsGone n side.host → own n (turns_in xs) ≡ []
gone_for_good f n side [] runs gone = refl
gone_for_good f n side (x ∷ xs) runs gone =
    let one = gone_on f n side x runs.0 gone in
    own-append n (happened_turns x) (turns_in xs) ∙ ap₂ (λ a b. a ++ b) one.0 (gone_for_good f n (after_one side x) xs runs.1 one.1)

turns-append : {C : Type 0} (xs ys : List (Happening C)) → turns_in (xs ++ ys) ≡ turns_in xs ++ turns_in ys
turns-append [] ys = refl
turns-append (x ∷ xs) ys = ap (λ l. happened_turns x ++ l) (turns-append xs ys) ∙ sym (append_assoc (happened_turns x) (turns_in xs) (turns_in ys))

pub tells_gone : {C : Type 0} (f : C → State) → (side : HostMoment C) (before after : List (Happening C)) (n : ℕ) (host : HostValue) (h : History) → side.host ≡ new_host → Runs f side before → Runs f (after_run side before) (Goes n host ∷ after)
    → client_of (after_run side before).host n ≡ Some h → TellsOwn (own n (turns_in (before ++ Goes n host ∷ after))) h
tells_gone f side before after n host h empty first second found =
    let s = so_far f side before empty first in
    let mid = after_run side before in
    let one : ClientLeaves mid.host n host = second.0 in
    let here : (n == n) ≡ true = grind (arith, nat_tests) in
    let given : n < mid.host.admitted = s.given n h found in
    let below : n < first_at_hand = let most = s.below in omega (arith, given, most) in
    let gone : IsGone n host = record { below = below; given = subst (λ a. n < a) (sym one.admitted) given; none = one.clients n ∙ ap (λ b. cond b None (client_of mid.host n)) here } in
    let nothing : own n (turns_in after) ≡ [] = gone_for_good f n (record mid { host = host }) after second.1 gone in
    let all : own n (turns_in (before ++ Goes n host ∷ after)) ≡ own n (turns_in before) =
    ap (own n) (turns-append before (Goes n host ∷ after)) ∙ own-append n (turns_in before) (turns_in after) ∙ ap (λ l. own n (turns_in before) ++ l) nothing ∙ append-nil (own n (turns_in before)) in
    subst (λ l. TellsOwn l h) (sym all) (s.tells n h found)

-- ---- a client that has to show a token

first_asked : (a b : Result Request Refusal) (rest bs : List (Result Request Refusal)) → a ∷ rest ≡ b ∷ bs → b ≡ a
first_asked a b rest bs e = cc

rest_asked : (a b : Result Request Refusal) (rest bs : List (Result Request Refusal)) → a ∷ rest ≡ b ∷ bs → rest ≡ bs
rest_asked a b rest bs e = cc

none_asked : (b : Result Request Refusal) (bs : List (Result Request Refusal)) → [] ≡ b ∷ bs → ⊥
none_asked b bs e = absurd cc

under_on : (r request : Request) (b : Bool) → ◌≡◌ {A = Result Request Refusal} (cond b (Ok r) (Err NotAdmitted)) (Ok request) → (b ≡ true) × (r ≡ request)
under_on r request true e = (refl, cc)
under_on r request false e = absurd cc

under_may : (guard : Option Guard) (asked : Result Request Refusal) (request : Request) → asked_under guard asked ≡ Ok request → may_under guard request ≡ true
under_may guard (Ok r) request e = let it = under_on r request (may_under guard r) e in subst (λ (x : Request). may_under guard x ≡ true) it.1 it.0
under_may guard (Err refusal) request e = absurd cc

-- a Hello is asked by whoever may come in
hello_under : (guard : Option Guard) (asked : Result Request Refusal) (token : List ℕ) → may_under guard (Hello token) ≡ true → asked ≡ Ok (Hello token) → asked_under guard asked ≡ Ok (Hello token)
hello_under guard (Ok r) token may e = let same : r ≡ Hello token = cc in subst (λ (x : Request). asked_under guard (Ok x) ≡ Ok (Hello token)) (sym same) (ap (λ (b : Bool). cond b (Ok (Hello token)) (Err NotAdmitted)) may)
hello_under guard (Err refusal) token may e = absurd cc

hello_of : (guard : Option Guard) (pass : Pass) (f : FrameValue) (t : Turn) → ((token : List ℕ) → may_under guard (Hello token) ≡ true) → shows pass f ≡ true → t.asked ≡ asked_by guard f → IsHelloOf pass t.asked
hello_of guard pass f t may shown asked =
    let hello = hello_asks pass f shown in
    (hello.0, asked ∙ hello_under guard (request_of f.kind f.payload) hello.0 (may hello.0) hello.1, hello.2)

shown_first : (guard : Option Guard) (taken : List FrameValue) (turns : List Turn) → map (asked_by guard) taken ≡ map (λ t. t.asked) turns → IsShown guard taken → HasShown guard turns
shown_first None taken turns asked shown = tt
shown_first (Some guard) taken [] asked shown = tt
shown_first (Some guard) [] (t ∷ turns) asked shown = absurd (none_asked t.asked (map (λ t. t.asked) turns) asked)
shown_first (Some Asks) (f ∷ taken) (t ∷ turns) asked shown = absurd shown
shown_first (Some (Knows pass)) (f ∷ taken) (t ∷ turns) asked shown = hello_of (Some (Knows pass)) pass f t (λ token. refl) shown (first_asked (asked_by (Some (Knows pass)) f) t.asked (map (asked_by (Some (Knows pass))) taken) (map (λ t. t.asked) turns) asked)
shown_first (Some (Left pass)) (f ∷ taken) (t ∷ turns) asked shown = hello_of (Some (Left pass)) pass f t (λ token. refl) shown (first_asked (asked_by (Some (Left pass)) f) t.asked (map (asked_by (Some (Left pass))) taken) (map (λ t. t.asked) turns) asked)

-- it has no turn before it
pub has_shown : (turns : List Turn) (h : History) → TellsOwn turns h → HasShown h.guard turns
has_shown turns h own = shown_first h.guard h.taken turns own.asked own.shown

right_if : (guard : Option Guard) (f : FrameValue) (asked : Result Request Refusal) → asked ≡ asked_by guard f → IfOk asked (λ request. may_under guard request ≡ true)
right_if guard f (Ok request) is = under_may guard (request_of f.kind f.payload) request (sym is)
right_if guard f (Err refusal) is = tt

right_all : (guard : Option Guard) (taken : List FrameValue) (turns : List Turn) → map (asked_by guard) taken ≡ map (λ t. t.asked) turns → HasRight guard turns
right_all guard taken [] asked = tt
right_all guard [] (t ∷ turns) asked = absurd (none_asked t.asked (map (λ t. t.asked) turns) asked)
right_all guard (f ∷ taken) (t ∷ turns) asked = (right_if guard f t.asked (first_asked (asked_by guard f) t.asked (map (asked_by guard) taken) (map (λ t. t.asked) turns) asked), right_all guard taken turns (rest_asked (asked_by guard f) t.asked (map (asked_by guard) taken) (map (λ t. t.asked) turns) asked))

-- and each is one that its right allows
pub has_right : (turns : List Turn) (h : History) → TellsOwn turns h → HasRight h.guard turns
has_right turns h own = right_all h.guard h.taken turns own.asked

no_answers : (answers : List (List ℕ)) → AreQueued [] answers → answers ≡ []
no_answers [] told = refl
no_answers (a ∷ answers) told = absurd told

-- and before its first turn nothing was told it but its end
pub told_end : (h : History) → TellsOwn [] h → HistoryStands h → (h.left ++ h.waits ≡ last_bytes h.last) × IsLast h h.last
told_end h own s = (sym s.output ∙ ap (λ (l : List (List ℕ)). concat l ++ last_bytes h.last) (no_answers h.answers own.told), s.last)
