-- Requests of one commit: what each comes to after the others.
use Rattle.std.proofs.lemmas.Bool.Decides.{nat_tests}
use Rattle.std.proofs.Common.{◌≡◌, ◌≢◌, ◌∙◌, ℕ, ◌+◌, ◌-◌, ◌<◌, ◌≤◌, ◌==◌, arith, length-append, zero, suc, Bool, true, false, not, ◌&&◌, cond, if◌then◌else◌, List, [], ◌∷◌, ◌++◌, Option, Some, None, Ok, is_some, unwrap_or, refl, sym, ap, ap₂, subst, inl, inr, length, take, drop, get_or, ◌⊎◌}
use Rattle.std.proofs.Math.Seq.{take-append_seam}
use Rattle.std.proofs.lemmas.List.{drop_more, take_more}
use Rattle.std.specs.Prelude.{IfSome}
use Rattle.std.specs.List.{AllByRecursion}
use Rattle.std.specs.FinMap.{get, get-insert, insert, len as map_len, len-insert}
use Rattle.std.specs.FinSet.{union}
use Rattle.mvd_dots.specs.Dot.{DotValue}
use Rattle.mvd_dots.specs.Context.{DotSet}
use Rattle.mvd_dots.specs.declared.refusals.Refusal.TheVariants.{DotClash, Full, StateTooLarge}
use Rattle.mvd_keys.specs.Minting.{mint}
use Rattle.mvd_keys.specs.State.{State as Keyed, Text, after_delete, after_put, clashes, empty_state, join, join_answer}
use Rattle.mvd_keys.specs.Writes.{Key, is_empty}
use Rattle.mvd_keys.proofs.KeyOrder.{key_total}
use Rattle.mvd_keys.proofs.StatesOfWrites.{key_apart}
use Rattle.mvd_wire.specs.declared.request.Request.{Request}
use Rattle.mvd_wire.specs.declared.request.Request.TheVariants.{Get, Put, Delete, Push, Hello, Bye}
use Rattle.mvd_wire.specs.declared.reply.Reply.{Reply}
use Rattle.mvd_wire.specs.declared.reply.Reply.TheVariants.{State as Shown, Done, Refused, Written}
use Rattle.mvd_site.specs.Answer.{is_too_large}
use Rattle.mvd_site.specs.Change.{ChangeValue}
use Rattle.mvd_site.specs.Config.{ConfigValue}
use Rattle.mvd_site.specs.FromStates.{answer_from, change_from, put_from, with_change as with_changed, within}
use Rattle.mvd_site.specs.Held.{States, state_at}
use Rattle.mvd_site.specs.Prepared.{IsFrugal, PreparesAnswerFrom, PreparesChangeFrom}
use Rattle.mvd_kept.specs.declared.prepared.Prepared.{Prepared}
use Rattle.mvd_kept.specs.declared.prepared.Prepared.TheVariants.{Answer, Change}
use Rattle.mvd_site.specs.Sites.{SiteValue, has_no_room}
use Rattle.mvd_site.proofs.Answered.{with_state-same, with_state-seen}
use Rattle.mvd_site.specs.Installs.{MayAllBeIn, MayBeIn, changes_in, is_change, with_group, with_one, with_prepared}
use Rattle.mvd_replica.specs.Adding.{KeepsRoom}
use Rattle.mvd_replica.specs.Groups.{AllComeAlone, AreSendable, ComeInOrder, ComesAlone, ComesTo, FirstWaits, IsApart, IsElsewhere, IsSendable, ComesInGroup, IsBounded, MustWait, StandTogether, pairs_in, state_bytes_in, state_bytes_of}

-- ---- a request at one key is untouched by a change of another

same_state : (m n : States) (key : Key) → get n key ≡ get m key → state_at n key ≡ state_at m key
same_state m n key same = ap (λ o. unwrap_or o empty_state) same

module _ (config : ConfigValue) (m n : States) (own : Key) (same : get n own ≡ get m own) (room : has_no_room config n own ≡ has_no_room config m own) where
  within_same : (after : Keyed) (reply : Reply) → within config n own after reply ≡ within config m own after reply
  within_same after reply = ap (λ b. if is_too_large after then Refused StateTooLarge else if b && not (is_empty after.context) then Refused Full else reply) room

  put_same : (seen : DotSet) (document : Text) (next : Option DotValue) → put_from config n own seen document next ≡ put_from config m own seen document next
  put_same seen document None = refl
  put_same seen document (Some dot) =
      ap (λ s. within config n own (after_put s dot seen document) (Written dot)) (same_state m n own same) ∙ within_same (after_put (state_at m own) dot seen document) (Written dot)

  answer_put : (seen : DotSet) (document : Text) → answer_from config n (Put own seen document) ≡ answer_from config m (Put own seen document)
  answer_put seen document =
      ap (λ (s : Keyed). put_from config n own seen document (mint config.site (union s.context seen))) (same_state m n own same)
      ∙ put_same seen document (mint config.site (union (state_at m own).context seen))

  answer_delete : (seen : DotSet) → answer_from config n (Delete own seen) ≡ answer_from config m (Delete own seen)
  answer_delete seen = ap (λ s. within config n own (after_delete s seen) Done) (same_state m n own same) ∙ within_same (after_delete (state_at m own) seen) Done

  answer_push : (pushed : Keyed) → answer_from config n (Push own pushed) ≡ answer_from config m (Push own pushed)
  answer_push pushed =
      ap (λ s. if is_too_large pushed then Refused StateTooLarge else if clashes s pushed then Refused DotClash else within config n own (join s pushed) Done) (same_state m n own same)
      ∙ ap (λ r. if is_too_large pushed then Refused StateTooLarge else if clashes (state_at m own) pushed then Refused DotClash else r) (within_same (join (state_at m own) pushed) Done)

-- the request finds the same in both: the state of its key, and whether there is room for it; or it asks for nothing, or both are the same
abbrev pub FindsAlike : ConfigValue → States → States → Request → Type 0
FindsAlike config m n (Get own) = get n own ≡ get m own
FindsAlike config m n (Put own seen document) = (get n own ≡ get m own) × (has_no_room config n own ≡ has_no_room config m own)
FindsAlike config m n (Delete own seen) = (get n own ≡ get m own) × (has_no_room config n own ≡ has_no_room config m own)
FindsAlike config m n (Push own pushed) = (get n own ≡ get m own) × (has_no_room config n own ≡ has_no_room config m own)
FindsAlike config m n (Hello token) = Unit {0}
FindsAlike config m n Bye = Unit {0}
FindsAlike config m n request = n ≡ m

-- the key of a change is that of its request
pub keyed : (key : Key) (s : Keyed) (c : Key × Keyed) → Some (key, s) ≡ Some c → key ≡ c.0
keyed key s c is = let same : ◌≡◌ {A = Key × Keyed} (key, s) c = cc in ap (λ p. p.0) same

-- and it is another than one that the request does not see
changes_elsewhere : (m : States) (key : Key) (request : Request) (reply : Reply) (c : Key × Keyed) → change_from m request reply ≡ Some c → IsElsewhere key request → c.0 ≢ key
changes_elsewhere m key (Put own seen document) (Written dot) c is apart = λ e. apart (keyed own (after_put (state_at m own) dot seen document) c is ∙ e)
changes_elsewhere m key (Delete own seen) Done c is apart = λ e. apart (keyed own (after_delete (state_at m own) seen) c is ∙ e)
changes_elsewhere m key (Push own pushed) Done c is apart = λ e. apart (keyed own (join (state_at m own) pushed) c is ∙ e)
changes_elsewhere m key request reply c is apart = absurd cc

with_still : (n : States) (o : Option (Key × Keyed)) → IfSome o (λ c. c.1 ≡ state_at n c.0) → with_changed n o ≡ n
with_still n None still = refl
with_still n (Some c) still = with_state-same n c.0 c.1 still

module _ (config : ConfigValue) (m n : States) where
  answer_alike : (request : Request) → FindsAlike config m n request → answer_from config n request ≡ answer_from config m request
  answer_alike (Get own) alike = ap Shown (same_state m n own alike)
  answer_alike (Put own seen document) alike = answer_put config m n own alike.0 alike.1 seen document
  answer_alike (Delete own seen) alike = answer_delete config m n own alike.0 alike.1 seen
  answer_alike (Push own pushed) alike = answer_push config m n own alike.0 alike.1 pushed
  answer_alike (Hello token) alike = refl
  answer_alike Bye alike = refl
  answer_alike request alike = ap (λ s. answer_from config s request) alike

  change_alike : (request : Request) (reply : Reply) → FindsAlike config m n request → change_from n request reply ≡ change_from m request reply
  change_alike (Put own seen document) (Written dot) alike = ap (λ t. Some (own, after_put t dot seen document)) (same_state m n own alike.0)
  change_alike (Delete own seen) Done alike = ap (λ t. Some (own, after_delete t seen)) (same_state m n own alike.0)
  change_alike (Push own pushed) Done alike = ap (λ t. Some (own, join t pushed)) (same_state m n own alike.0)
  change_alike request reply alike = refl

  both_alike : (request : Request) → FindsAlike config m n request → change_from n request (answer_from config n request) ≡ change_from m request (answer_from config m request)
  both_alike request alike = ap (change_from n request) (answer_alike request alike) ∙ change_alike request (answer_from config m request) alike

  -- the key that it changes
  changed_alike : (request : Request) (reply : Reply) (c : Key × Keyed) → FindsAlike config m n request → change_from m request reply ≡ Some c →
      (get n c.0 ≡ get m c.0) × (has_no_room config n c.0 ≡ has_no_room config m c.0)
  changed_alike (Put own seen document) (Written dot) c alike is =
      subst (λ k. (get n k ≡ get m k) × (has_no_room config n k ≡ has_no_room config m k)) (keyed own (after_put (state_at m own) dot seen document) c is) alike
  changed_alike (Delete own seen) Done c alike is =
      subst (λ k. (get n k ≡ get m k) × (has_no_room config n k ≡ has_no_room config m k)) (keyed own (after_delete (state_at m own) seen) c is) alike
  changed_alike (Push own pushed) Done c alike is =
      subst (λ k. (get n k ≡ get m k) × (has_no_room config n k ≡ has_no_room config m k)) (keyed own (join (state_at m own) pushed) c is) alike
  changed_alike request reply c alike is = absurd cc

  -- and whether it takes memory
  frugal_alike : (request : Request) → FindsAlike config m n request → IsFrugal n request → IsFrugal m request
  frugal_alike (Get own) alike frugal = absurd frugal
  frugal_alike (Put own seen document) alike frugal = absurd frugal
  frugal_alike (Delete own seen) alike frugal = absurd frugal
  frugal_alike (Push own pushed) alike frugal = subst (λ t. join_answer t pushed ≡ Ok t) (same_state m n own alike.0) frugal
  frugal_alike (Hello token) alike frugal = tt
  frugal_alike Bye alike frugal = tt
  frugal_alike request alike frugal = subst (λ s. IsFrugal s request) alike frugal

module _ (config : ConfigValue) (m n : States) (request : Request) (alike : FindsAlike config m n request) where
  still_alike : (o : Option (Key × Keyed)) → change_from m request (answer_from config m request) ≡ o → IfSome o (λ c. c.1 ≡ state_at m c.0) → IfSome o (λ c. c.1 ≡ state_at n c.0)
  still_alike None is still = tt
  still_alike (Some c) is still = still ∙ sym (same_state m n c.0 (changed_alike config m n request (answer_from config m request) c alike is).0)

  answer_still : (reply : Reply) → PreparesAnswerFrom config m request reply → PreparesAnswerFrom config n request reply
  answer_still reply was =
      let same = both_alike config m n request alike in
      let still : IfSome (change_from n request (answer_from config n request)) (λ c. c.1 ≡ state_at n c.0) =
      subst (λ o. IfSome o (λ c. c.1 ≡ state_at n c.0)) (sym same) (still_alike (change_from m request (answer_from config m request)) refl was.still) in
      record { answers = was.answers ∙ sym (answer_alike config m n request alike); still = still; after = with_still n _ still }

  change_still : (change : ChangeValue) → is_empty change.state.context ≡ false → PreparesChangeFrom config m request change → PreparesChangeFrom config n request change
  change_still change seen was =
      let leaves : change_from n request (answer_from config n request) ≡ Some (change.key, change.state) = both_alike config m n request alike ∙ was.leaves in
      let found = changed_alike config m n request (answer_from config m request) (change.key, change.state) alike was.leaves in
      record {
        answers = was.answers ∙ sym (answer_alike config m n request alike);
        leaves = leaves;
        differs = λ e. was.differs (e ∙ same_state m n change.key found.0);
        held = was.held ∙ ap is_some (sym found.0);
        after = ap (with_changed n) leaves ∙ with_state-seen n change.key change.state seen;
      }

  -- what a request comes to, it comes to also where it finds the same
  pub comes_alike : (prepared : Prepared) → IsSendable request prepared → ComesTo config m request prepared → ComesTo config n request prepared
  comes_alike (Answer reply) sendable was = (
    elim was.0 [ inl same ↦ inl (answer_still reply same) | inr memory ↦ inr memory ],
    λ frugal. was.1 (frugal_alike config m n request alike frugal),
  )
  comes_alike (Change change) sendable was = (
    change_still change sendable.1.seen was.0,
    (changed_alike config m n request (answer_from config m request) (change.key, change.state) alike was.0.leaves).1 ∙ was.1,
  )

-- ---- after changes of others

found_elsewhere : (m : States) (key : Key) (s : Keyed) (own : Key) → own ≢ key → get (insert m key s) own ≡ get m own
found_elsewhere m key s own apart = get-insert key_total m key s own ∙ ap (λ b. cond b (Some s) (get m own)) (key_apart own key apart)

-- where the request sees a key, that has the state that it had
pub found_after : (own : Key) (request : Request) → ((key : Key) → IsElsewhere key request → own ≢ key) → (group : List Prepared) (m : States) → AllByRecursion (IsApart request) group →
    get (with_group m group) own ≡ get m own
found_after own request other [] m apart = refl
found_after own request other (Answer reply ∷ group) m apart = found_after own request other group m apart.1
found_after own request other (Change change ∷ group) m apart =
    found_after own request other group (insert m change.key change.state) apart.1 ∙ found_elsewhere m change.key change.state own (other change.key apart.0)

-- so has the key that it changes
pub found_changed : (config : ConfigValue) (m : States) (group : List Prepared) (request : Request) (change : ChangeValue) → AllByRecursion (IsApart request) group → PreparesChangeFrom config m request change →
    get (with_group m group) change.key ≡ get m change.key
found_changed config m group request change apart was =
    found_after change.key request (λ key other. changes_elsewhere m key request (answer_from config m request) (change.key, change.state) was.leaves other) group m apart

-- where it sees all keys there is no change
still_after : (request : Request) → ((key : Key) → IsElsewhere key request → ⊥) → (group : List Prepared) (m : States) → AllByRecursion (IsApart request) group → with_group m group ≡ m
still_after request never [] m apart = refl
still_after request never (Answer reply ∷ group) m apart = still_after request never group m apart.1
still_after request never (Change change ∷ group) m apart = absurd (never change.key apart.0)

len_least : (m : States) (key : Key) (s : Keyed) → map_len m ≤ map_len (insert m key s)
len_least m key s = subst (λ n. map_len m ≤ n) (sym (len-insert key_total m key s)) (elim (is_some (get m key)) as (λ b. map_len m ≤ cond b (map_len m) (map_len m + 1)) [ true ↦ omega arith | false ↦ omega arith ])

-- no key goes
pub keys_grow : (group : List Prepared) (m : States) → map_len m ≤ map_len (with_group m group)
keys_grow [] m = omega arith
keys_grow (Answer reply ∷ group) m = keys_grow group m
keys_grow (Change change ∷ group) m =
    let one : map_len m ≤ map_len (insert m change.key change.state) = len_least m change.key change.state in
    let later : map_len (insert m change.key change.state) ≤ map_len (with_group (insert m change.key change.state) group) = keys_grow group (insert m change.key change.state) in
    omega (arith, one, later)

not_full : (b : Bool) (n most : ℕ) → n < most → (not b && (n == most)) ≡ false
not_full true n most few = refl
not_full false n most few = grind (arith, nat_tests)

room_alike : (config : ConfigValue) (m n : States) (own : Key) → get n own ≡ get m own → map_len m ≤ map_len n →
    (map_len n ≡ map_len m) ⊎ (map_len n < config.max_keys) ⊎ (not (is_some (get m own)) ≡ false) → has_no_room config n own ≡ has_no_room config m own
room_alike config m n own same grows (inl count) = ap₂ (λ (o : Option Keyed) (k : ℕ). not (is_some o) && (k == config.max_keys)) same count
room_alike config m n own same grows (inr (inl few)) =
    not_full (is_some (get n own)) (map_len n) config.max_keys few ∙ sym (not_full (is_some (get m own)) (map_len m) config.max_keys (omega (arith, few, grows)))
room_alike config m n own same grows (inr (inr held)) =
    ap (λ b. b && (map_len n == config.max_keys)) (ap (λ (o : Option Keyed). not (is_some o)) same ∙ held) ∙ sym (ap (λ b. b && (map_len m == config.max_keys)) held)

-- a request that sees none of them finds the same as long as there is as much room for it
alike_after : (config : ConfigValue) (m : States) (group : List Prepared) (request : Request) → AllByRecursion (IsApart request) group → KeepsRoom config m (with_group m group) request →
    FindsAlike config m (with_group m group) request
alike_after config m group (Get own) apart room = found_after own (Get own) (λ key other. other) group m apart
alike_after config m group (Put own seen document) apart room =
    let same : get (with_group m group) own ≡ get m own = found_after own (Put own seen document) (λ key other. other) group m apart in
    (same, room_alike config m (with_group m group) own same (keys_grow group m) room)
alike_after config m group (Delete own seen) apart room =
    let same : get (with_group m group) own ≡ get m own = found_after own (Delete own seen) (λ key other. other) group m apart in
    (same, room_alike config m (with_group m group) own same (keys_grow group m) room)
alike_after config m group (Push own pushed) apart room =
    let same : get (with_group m group) own ≡ get m own = found_after own (Push own pushed) (λ key other. other) group m apart in
    (same, room_alike config m (with_group m group) own same (keys_grow group m) room)
alike_after config m group (Hello token) apart room = tt
alike_after config m group Bye apart room = tt
alike_after config m group request apart room = still_after request (λ key other. other) group m apart

pub answer_elsewhere : (config : ConfigValue) (m : States) (key : Key) (s : Keyed) (request : Request) → IsElsewhere key request → KeepsRoom config m (insert m key s) request →
    answer_from config (insert m key s) request ≡ answer_from config m request
answer_elsewhere config m key s request apart room =
    let change : ChangeValue = record { key = key; state = s; dot = None; was_held = is_some (get m key) } in
    answer_alike config m (insert m key s) request (alike_after config m (Change change ∷ []) request (apart, tt) room)

pub comes_after : (config : ConfigValue) (group : List Prepared) (m : States) (request : Request) (prepared : Prepared) → IsSendable request prepared → AllByRecursion (IsApart request) group →
    KeepsRoom config m (with_group m group) request → ComesTo config m request prepared → ComesTo config (with_group m group) request prepared
comes_after config group m request prepared sendable apart room comes =
    comes_alike config m (with_group m group) request (alike_after config m group request apart room) prepared sendable comes

-- ---- one request more

sendable_more : (requests : List Request) (group : List Prepared) (request : Request) (prepared : Prepared) → AreSendable requests group → IsSendable request prepared → AreSendable (requests ++ request ∷ []) (group ++ prepared ∷ [])
sendable_more [] [] request prepared all one = (one, tt)
sendable_more [] (p ∷ group) request prepared all one = absurd all
sendable_more (r ∷ requests) [] request prepared all one = absurd all
sendable_more (r ∷ requests) (p ∷ group) request prepared all one = (all.0, sendable_more requests group request prepared all.1 one)

each_more : (config : ConfigValue) (m : States) (requests : List Request) (group : List Prepared) (request : Request) (prepared : Prepared) → AllComeAlone config m requests group → ComesAlone config m request prepared →
    AllComeAlone config m (requests ++ request ∷ []) (group ++ prepared ∷ [])
each_more config m [] [] request prepared all one = (one, tt)
each_more config m [] (p ∷ group) request prepared all one = absurd all
each_more config m (r ∷ requests) [] request prepared all one = absurd all
each_more config m (r ∷ requests) (p ∷ group) request prepared all one = (all.0, each_more config m requests group request prepared all.1 one)

ordered_more : (config : ConfigValue) (m : States) (requests : List Request) (group : List Prepared) (request : Request) (prepared : Prepared) → ComeInOrder config m requests group → ComesTo config (with_group m group) request prepared →
    ComeInOrder config m (requests ++ request ∷ []) (group ++ prepared ∷ [])
ordered_more config m [] [] request prepared all one = (one, tt)
ordered_more config m [] (p ∷ group) request prepared all one = absurd all
ordered_more config m (r ∷ requests) [] request prepared all one = absurd all
ordered_more config m (r ∷ requests) (p ∷ group) request prepared all one = (all.0, ordered_more config (with_prepared m p) requests group request prepared all.1 one)

pub together_none : (site : SiteValue) → StandTogether site [] []
together_none site = record { each = tt; ordered = tt; sendable = tt }

pub together_more : (site : SiteValue) (requests : List Request) (group : List Prepared) (request : Request) (prepared : Prepared) → StandTogether site requests group → ComesInGroup site request group prepared →
    StandTogether site (requests ++ request ∷ []) (group ++ prepared ∷ [])
together_more site requests group request prepared all one = record {
  each = each_more site.config site.states requests group request prepared all.each one.alone;
  ordered = ordered_more site.config site.states requests group request prepared all.ordered one.behind;
  sendable = sendable_more requests group request prepared all.sendable one.sendable;
}

pub changes_more : (group : List Prepared) (prepared : Prepared) → changes_in (group ++ prepared ∷ []) ≡ changes_in group + is_change prepared
changes_more [] prepared = omega arith
changes_more (p ∷ group) prepared = let later : changes_in (group ++ prepared ∷ []) ≡ changes_in group + is_change prepared = changes_more group prepared in omega (arith, later)

-- ---- the bytes of states

pub bytes_more : (group : List Prepared) (prepared : Prepared) → state_bytes_in (group ++ prepared ∷ []) ≡ state_bytes_in group + state_bytes_of prepared
bytes_more [] prepared = omega arith
bytes_more (p ∷ group) prepared = let later = bytes_more group prepared in omega (arith, later)

pub bounded_none : IsBounded []
bounded_none = omega arith

pub bounded_more : (group : List Prepared) (prepared : Prepared) → state_bytes_in group < 4194304 → IsBounded (group ++ prepared ∷ [])
bounded_more group prepared light =
    let count : length (group ++ prepared ∷ []) - 1 ≡ length group = let all = length-append group (prepared ∷ []) in omega (arith, all) in
    subst (λ l. state_bytes_in l < 4194304) (sym (ap (λ n. take n (group ++ prepared ∷ [])) count ∙ take-append_seam group (prepared ∷ []))) light

-- ---- which request waits

pub apart_at : (request : Request) (group : List Prepared) (i : ℕ) (d : Prepared) → i < length group → AllByRecursion (IsApart request) group → IsApart request (get_or group i d)
apart_at request [] i d low all = absurd (omega (arith, low))
apart_at request (p ∷ group) zero d low all = all.0
apart_at request (p ∷ group) (suc i) d low all = apart_at request group i d (omega (arith, low)) all.1

-- the next one, as the code has it
pub next_waits : (site : SiteValue) (requests : List Request) (group : List Prepared) (i : ℕ) (request : Request) → length group ≡ i → i < length requests → request ≡ get_or requests i request →
    MustWait site request group → FirstWaits site group (drop (length group) requests)
next_waits site requests group i request count low is waits =
    subst (FirstWaits site group) (sym (ap (λ n. drop n requests) count ∙ drop_more requests i request low ∙ ap (λ r. r ∷ drop (i + 1) requests) (sym is))) waits

-- ---- which changes are counted

changes_at : (group : List Prepared) (i : ℕ) (d : Prepared) → i < length group → is_change (get_or group i d) ≤ changes_in group
changes_at [] i d low = absurd (omega (arith, low))
changes_at (p ∷ group) zero d low = omega arith
changes_at (p ∷ group) (suc i) d low = let later : is_change (get_or group i d) ≤ changes_in group = changes_at group i d (omega (arith, low)) in omega (arith, later)

pub change_at : (group : List Prepared) (i : ℕ) (item : Prepared) → i < length group → item ≡ get_or group i item → is_change item ≤ changes_in group
change_at group i item low is = subst (λ p. is_change p ≤ changes_in group) (sym is) (changes_at group i item low)

-- one more
pub changes_next : (group : List Prepared) (i : ℕ) (item : Prepared) → i < length group → item ≡ get_or group i item → changes_in (take (i + 1) group) ≡ changes_in (take i group) + is_change item
changes_next group i item low is = ap changes_in (take_more group i item low ∙ ap (λ p. take i group ++ p ∷ []) (sym is)) ∙ changes_more (take i group) item

pub pairs_none : (group : List Prepared) → changes_in group ≡ 0 → pairs_in group ≡ []
pairs_none [] none = refl
pairs_none (Answer reply ∷ group) none = pairs_none group (omega (arith, none))
pairs_none (Change change ∷ group) none = absurd (omega (arith, none))

-- ---- what may be put in

may_one : (site : SiteValue) (request : Request) (prepared : Prepared) → IsSendable request prepared → ComesTo site.config site.states request prepared → MayBeIn site prepared
may_one site request (Answer reply) sendable comes = tt
may_one site request (Change change) sendable comes = (comes.1, sendable.1, (request, comes.0))

pub ordered_next : (site : SiteValue) (prepared : Prepared) (requests : List Request) (group : List Prepared) → ComeInOrder site.config (with_prepared site.states prepared) requests group →
    ComeInOrder (with_one site prepared).config (with_one site prepared).states requests group
ordered_next site (Answer reply) requests group all = all
ordered_next site (Change change) requests group all = all

pub may_all : (group : List Prepared) (site : SiteValue) (requests : List Request) → AreSendable requests group → ComeInOrder site.config site.states requests group → MayAllBeIn site group
may_all [] site requests sendable ordered = tt
may_all (prepared ∷ group) site [] sendable ordered = absurd sendable
may_all (prepared ∷ group) site (request ∷ requests) sendable ordered =
    (may_one site request prepared sendable.0 ordered.0, may_all group (with_one site prepared) requests sendable.1 (ordered_next site prepared requests group ordered.1))
