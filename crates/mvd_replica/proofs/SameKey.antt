-- Changes of keys that change already in a commit: where the last one stands, and what comes behind it.
use Rattle.std.proofs.Common.{◌≡◌, ◌≢◌, ◌∙◌, ℕ, ◌+◌, ◌<◌, arith, Bool, true, false, cond, List, [], ◌∷◌, ◌++◌, Option, Some, None, is_some, true≢false, refl, sym, ap, subst, length, length-append, get_or}
use Rattle.std.proofs.lemmas.List.{get_or_append_left}
use Rattle.std.proofs.lemmas.Option.{same_Some}
use Rattle.std.proofs.Math.Seq.{get_or-append_seam}
use Rattle.std.specs.List.{AllByRecursion}
use Rattle.std.specs.Prelude.{IfSome}
use Rattle.std.specs.Ordering.{eq_by_cmp}
use Rattle.std.specs.FinMap.{empty, get, get-empty, get-insert, insert, len as map_len, len-insert}
use Rattle.mvd_keys.specs.Key.{key_cmp}
use Rattle.mvd_keys.specs.State.{State as Keyed, after_delete, after_put, join}
use Rattle.mvd_keys.specs.Writes.{Key}
use Rattle.mvd_keys.proofs.KeyOrder.{key_total, same_where_tied, tied_itself_key}
use Rattle.mvd_keys.proofs.StatesOfWrites.{key_apart}
use Rattle.mvd_wire.specs.declared.request.Request.{Request}
use Rattle.mvd_wire.specs.declared.request.Request.TheVariants.{Get, Put, Delete, Push, Hello, Bye}
use Rattle.mvd_wire.specs.declared.reply.Reply.{Reply}
use Rattle.mvd_wire.specs.declared.reply.Reply.TheVariants.{Done, Refused, Written}
use Rattle.mvd_dots.specs.declared.refusals.Refusal.TheVariants.{Broken}
use Rattle.mvd_site.specs.Change.{ChangeValue}
use Rattle.mvd_site.specs.Config.{ConfigValue}
use Rattle.mvd_site.specs.FromStates.{answer_from, change_from}
use Rattle.mvd_site.specs.Held.{States, state_at}
use Rattle.mvd_site.specs.Installs.{changes_in, with_group, with_prepared}
use Rattle.mvd_site.specs.Over.{AsksToChange}
use Rattle.mvd_site.specs.Sites.{SiteValue}
use Rattle.mvd_kept.specs.declared.prepared.Prepared.{Prepared}
use Rattle.mvd_kept.specs.declared.prepared.Prepared.TheVariants.{Answer, Change}
use Rattle.mvd_replica.specs.Adding.{CountsAdded, CountsKeys, KeepsRoomFor, adds_of, key_to_change}
use Rattle.mvd_replica.specs.Behind.{AreLast, ChangesAsked, ComesBehind, IsFree, IsLastAt, IsLastBefore, JoinsGroup, LeavesKey, Places, StandsLast, noted_at, noted_key, noted_of, sees_all_keys}
use Rattle.mvd_replica.specs.Groups.{ComesAlone, ComesTo, IsApart, IsElsewhere, IsSendable, SeesAny}
use Rattle.mvd_replica.proofs.AddedKeys.{counts_more, room_kept, with_more}
use Rattle.mvd_replica.proofs.Grouping.{apart_at, comes_after, keyed}
use Rattle.mvd_replica.proofs.Putting.{whole_change}

-- ---- where the last change stands

left_more : (key : Key) (group : List Prepared) (prepared : Prepared) → AllByRecursion (LeavesKey key) group → LeavesKey key prepared → AllByRecursion (LeavesKey key) (group ++ prepared ∷ [])
left_more key [] prepared all one = (one, tt)
left_more key (p ∷ group) prepared all one = (all.0, left_more key group prepared all.1 one)

insert_same : (m : States) (key : Key) (s : Keyed) → get (insert m key s) key ≡ Some s
insert_same m key s = get-insert key_total m key s key ∙ ap (λ b. cond b (Some s) (get m key)) (tied_itself_key key)

insert_else : (m : States) (key own : Key) (s : Keyed) → own ≢ key → get (insert m key s) own ≡ get m own
insert_else m key own s apart = get-insert key_total m key s own ∙ ap (λ b. cond b (Some s) (get m own)) (key_apart own key apart)

longer : (group : List Prepared) (prepared : Prepared) (at : ℕ) → at < length group → at < length (group ++ prepared ∷ [])
longer group prepared at low = let is : length (group ++ prepared ∷ []) ≡ length group + 1 = length-append group (prepared ∷ []) in omega (arith, low, is)

-- it stands where it stood, behind one more that leaves its key
stands_on : (group : List Prepared) (at : ℕ) (change : ChangeValue) (prepared : Prepared) → at < length group → LeavesKey change.key prepared → StandsLast group at change → StandsLast (group ++ prepared ∷ []) at change
stands_on group at change (Answer reply) low leaves it = record {
  stands = λ other. get_or_append_left group (Answer reply ∷ []) other at low ∙ it.stands other;
  leaves = λ states. ap (λ m. get m change.key) (with_more states group (Answer reply)) ∙ it.leaves states;
}
stands_on group at change (Change own) low leaves it = record {
  stands = λ other. get_or_append_left group (Change own ∷ []) other at low ∙ it.stands other;
  leaves = λ states. ap (λ m. get m change.key) (with_more states group (Change own)) ∙ insert_else (with_group states group) own.key change.key own.state (λ e. leaves (sym e)) ∙ it.leaves states;
}

last_on : (group : List Prepared) (prepared : Prepared) (key : Key) (at : Option ℕ) → LeavesKey key prepared → IsLastAt group key at → IsLastAt (group ++ prepared ∷ []) key at
last_on group prepared key None leaves it = left_more key group prepared it leaves
last_on group prepared key (Some at) leaves it =
    (longer group prepared at it.0, it.1, it.2, stands_on group at it.1 prepared it.0 (subst (λ k. LeavesKey k prepared) (sym it.2) leaves) it.3)

-- the last of all
stands_new : (group : List Prepared) (change : ChangeValue) → StandsLast (group ++ Change change ∷ []) (length group) change
stands_new group change = record {
  stands = λ other. get_or-append_seam group (Change change) [] other;
  leaves = λ states. ap (λ m. get m change.key) (with_more states group (Change change)) ∙ insert_same (with_group states group) change.key change.state;
}

last_new : (group : List Prepared) (change : ChangeValue) (key : Key) → change.key ≡ key → IsLastAt (group ++ Change change ∷ []) key (Some (length group))
last_new group change key is =
    let count : length (group ++ Change change ∷ []) ≡ length group + 1 = length-append group (Change change ∷ []) in
    (omega (arith, count), change, is, stands_new group change)

last_change : (group : List Prepared) (places : Places) (change : ChangeValue) (key : Key) (b : Bool) → eq_by_cmp key_cmp key change.key ≡ b → IsLastAt group key (get places key) →
    IsLastAt (group ++ Change change ∷ []) key (cond b (Some (length group)) (get places key))
last_change group places change key true tied it = last_new group change key (sym (same_where_tied key change.key tied))
last_change group places change key false tied it =
    last_on group (Change change) key (get places key) (λ e. true≢false (sym (tied_itself_key key) ∙ ap (eq_by_cmp key_cmp key) (sym e) ∙ tied)) it

pub last_none : AreLast [] empty
last_none key = subst (IsLastAt [] key) (sym (get-empty key_cmp key)) tt

-- one more is noted
pub last_more : (group : List Prepared) (places : Places) (prepared : Prepared) → AreLast group places → AreLast (group ++ prepared ∷ []) (noted_at places (length group) prepared)
last_more group places (Answer reply) all key = last_on group (Answer reply) key (get places key) tt (all key)
last_more group places (Change change) all key =
    subst (IsLastAt (group ++ Change change ∷ []) key) (sym (get-insert key_total places change.key (length group) key))
    (last_change group places change key (eq_by_cmp key_cmp key change.key) refl (all key))

-- ---- which change a request sees

sees_change : (request : Request) (group : List Prepared) (at : ℕ) (change : ChangeValue) → at < length group → StandsLast group at change → (IsElsewhere change.key request → ⊥) → SeesAny request group
sees_change request group at change low it sees all =
    sees (subst (IsApart request) (it.stands (Change change)) (apart_at request group at (Change change) low all))

-- a key that waits, as the request sees it
sees_place : (request : Request) (group : List Prepared) (places : Places) (own : Key) (at : ℕ) → AreLast group places → get places own ≡ Some at → (IsElsewhere own request → ⊥) → SeesAny request group
sees_place request group places own at all found sees =
    let it : IsLastAt group own (Some at) = subst (IsLastAt group own) found (all own) in
    sees_change request group at it.1 it.0 it.3 (λ apart. sees (subst (λ k. IsElsewhere k request) it.2 apart))

asks_here : (key : Key) (request : Request) → AsksToChange key request → IsElsewhere key request → ⊥
asks_here key (Put own seen document) is apart = apart is
asks_here key (Delete own seen) is apart = apart is
asks_here key (Push own pushed) is apart = apart is
asks_here key request is apart = absurd is

asks_of : (request : Request) (key : Key) → key_to_change request ≡ Some key → AsksToChange key request
asks_of (Put own seen document) key is = same_Some own key is
asks_of (Delete own seen) key is = same_Some own key is
asks_of (Push own pushed) key is = same_Some own key is
asks_of request key is = absurd cc

same_change : (a b : ChangeValue) → Change a ≡ Change b → a ≡ b
same_change a b is = cc

-- the last change of the key, as the code finds it
pub last_before : (group : List Prepared) (places : Places) (request : Request) (key : Key) (at : ℕ) (item : Prepared) (change : ChangeValue) → AreLast group places → key_to_change request ≡ Some key → get places key ≡ Some at →
    item ≡ get_or group at item → item ≡ Change change → IsLastBefore group request change
last_before group places request key at item change all asks found is change-is =
    let it : IsLastAt group key (Some at) = subst (IsLastAt group key) found (all key) in
    let same : it.1 ≡ change = same_change it.1 change (sym (it.3.stands item) ∙ sym is ∙ change-is) in
    subst (IsLastBefore group request) same (record {
      asks = subst (λ k. AsksToChange k request) (sym it.2) (asks_of request key asks);
      leaves = it.3.leaves;
      sees = sees_change request group at it.1 it.0 it.3 (asks_here it.1.key request (subst (λ k. AsksToChange k request) (sym it.2) (asks_of request key asks)));
    })

-- it stands within the group
pub place_low : (group : List Prepared) (places : Places) (key : Key) (at : ℕ) → AreLast group places → get places key ≡ Some at → at < length group
place_low group places key at all found = let it : IsLastAt group key (Some at) = subst (IsLastAt group key) found (all key) in it.0

-- and a change stands there
pub place_change : (group : List Prepared) (places : Places) (key : Key) (at : ℕ) (item : Prepared) (reply : Reply) → AreLast group places → get places key ≡ Some at → item ≡ get_or group at item → item ≡ Answer reply → ⊥
place_change group places key at item reply all found is bad =
    let it : IsLastAt group key (Some at) = subst (IsLastAt group key) found (all key) in
    let same : Answer reply ≡ Change it.1 = sym bad ∙ is ∙ it.3.stands item in absurd cc

pub free_none : (places : Places) (request : Request) → key_to_change request ≡ None → IsFree places request
free_none places request none key is = let bad : None ≡ Some key = sym none ∙ is in absurd cc

pub free_unfound : (places : Places) (request : Request) (key : Key) → key_to_change request ≡ Some key → get places key ≡ None → IsFree places request
free_unfound places request key asks none own is = ap (get places) (same_Some own key (sym is ∙ asks)) ∙ none

apart_left : (own : Key) (request : Request) → ((key : Key) → key ≢ own → IsElsewhere key request) → (group : List Prepared) → AllByRecursion (LeavesKey own) group → AllByRecursion (IsApart request) group
apart_left own request other [] all = tt
apart_left own request other (Answer reply ∷ group) all = (tt, apart_left own request other group all.1)
apart_left own request other (Change change ∷ group) all = (other change.key all.0, apart_left own request other group all.1)

-- a key that none changes
apart_free : (request : Request) (group : List Prepared) (places : Places) (own : Key) → AreLast group places → get places own ≡ None → ((key : Key) → key ≢ own → IsElsewhere key request) → AllByRecursion (IsApart request) group
apart_free request group places own all none other = apart_left own request other group (subst (IsLastAt group own) none (all own))

-- a request that asks for nothing
apart_all : (request : Request) → ((key : Key) → IsElsewhere key request) → (group : List Prepared) → AllByRecursion (IsApart request) group
apart_all request other [] = tt
apart_all request other (Answer reply ∷ group) = (tt, apart_all request other group)
apart_all request other (Change change ∷ group) = (other change.key, apart_all request other group)

-- and one that sees all keys
sees_all : (request : Request) → ((key : Key) → IsElsewhere key request → ⊥) → (group : List Prepared) → (changes_in group ≡ 0 → ⊥) → SeesAny request group
sees_all request never [] some all = some refl
sees_all request never (Answer reply ∷ group) some all = sees_all request never group (λ none. some (omega (arith, none))) all.1
sees_all request never (Change change ∷ group) some all = never change.key all.0

none_where : (o : Option ℕ) → is_some o ≡ false → o ≡ None
none_where None is = refl
none_where (Some n) is = absurd (true≢false is)

some_where : (o : Option ℕ) → is_some o ≡ true → (n : ℕ) × (o ≡ Some n)
some_where None is = absurd (true≢false (sym is))
some_where (Some n) is = (n, refl)

-- a get of a key that none changes, and of one that waits
pub get_apart : (request : Request) (own : Key) (group : List Prepared) (places : Places) → request ≡ Get own → AreLast group places → is_some (get places own) ≡ false → AllByRecursion (IsApart request) group
get_apart request own group places is all none =
    subst (λ r. AllByRecursion (IsApart r) group) (sym is) (apart_free (Get own) group places own all (none_where (get places own) none) (λ key apart same. apart (sym same)))

pub get_sees : (request : Request) (own : Key) (group : List Prepared) (places : Places) → request ≡ Get own → AreLast group places → is_some (get places own) ≡ true → SeesAny request group
get_sees request own group places is all some =
    let at = some_where (get places own) some in
    subst (λ r. SeesAny r group) (sym is) (sees_place (Get own) group places own at.0 all at.1 (λ apart. apart refl))

-- any other request
pub other_apart : (request : Request) (group : List Prepared) (places : Places) → ((own : Key) → request ≡ Get own → ⊥) → sees_all_keys request ≡ false → AreLast group places → IsFree places request →
    AllByRecursion (IsApart request) group
other_apart (Get own) group places not seen all free = absurd (not own refl)
other_apart (Put own seen document) group places not none all free = apart_free (Put own seen document) group places own all (free own refl) (λ key apart same. apart (sym same))
other_apart (Delete own seen) group places not none all free = apart_free (Delete own seen) group places own all (free own refl) (λ key apart same. apart (sym same))
other_apart (Push own pushed) group places not none all free = apart_free (Push own pushed) group places own all (free own refl) (λ key apart same. apart (sym same))
other_apart (Hello token) group places not none all free = apart_all (Hello token) (λ _. tt) group
other_apart Bye group places not none all free = apart_all Bye (λ _. tt) group
other_apart request group places not none all free = absurd (true≢false none)

never_elsewhere : (request : Request) → sees_all_keys request ≡ true → (key : Key) → IsElsewhere key request → ⊥
never_elsewhere (Get own) sees key apart = true≢false (sym sees)
never_elsewhere (Put own seen document) sees key apart = true≢false (sym sees)
never_elsewhere (Delete own seen) sees key apart = true≢false (sym sees)
never_elsewhere (Push own pushed) sees key apart = true≢false (sym sees)
never_elsewhere (Hello token) sees key apart = true≢false (sym sees)
never_elsewhere Bye sees key apart = true≢false (sym sees)
never_elsewhere request sees key apart = apart

pub other_sees : (request : Request) (group : List Prepared) → sees_all_keys request ≡ true → (changes_in group ≡ 0 → ⊥) → SeesAny request group
other_sees request group sees some = sees_all request (never_elsewhere request sees) group some

-- where no change waits
pub apart_none : (request : Request) (group : List Prepared) → changes_in group ≡ 0 → AllByRecursion (IsApart request) group
apart_none request [] none = tt
apart_none request (Answer reply ∷ group) none = (tt, apart_none request group (omega (arith, none)))
apart_none request (Change change ∷ group) none = absurd (omega (arith, none))

-- ---- the key of a change is the one that its request asks to change

asked_from : (m : States) (request : Request) (reply : Reply) (c : Key × Keyed) → change_from m request reply ≡ Some c → key_to_change request ≡ Some c.0
asked_from m (Put own seen document) (Written dot) c is = ap (λ k. Some k) (keyed own (after_put (state_at m own) dot seen document) c is)
asked_from m (Delete own seen) Done c is = ap (λ k. Some k) (keyed own (after_delete (state_at m own) seen) c is)
asked_from m (Push own pushed) Done c is = ap (λ k. Some k) (keyed own (join (state_at m own) pushed) c is)
asked_from m request reply c is = absurd cc

asked_where : (config : ConfigValue) (m : States) (request : Request) (prepared : Prepared) → ComesTo config m request prepared → ChangesAsked request prepared
asked_where config m request (Answer reply) comes = tt
asked_where config m request (Change change) comes = asked_from m request (answer_from config m request) (change.key, change.state) comes.0.leaves

-- also of a broken site
asked_beside : (site : SiteValue) (request : Request) (prepared : Prepared) → (site.broken ≡ true → prepared ≡ Answer (Refused Broken)) →
    (site.broken ≡ false → ComesTo site.config site.states request prepared × IsSendable request prepared) → ChangesAsked request prepared
asked_beside site request (Answer reply) broken comes = tt
asked_beside site request (Change change) broken comes = asked_where site.config site.states request (Change change) (comes (whole_change site.broken change broken)).0

-- so its place is noted by the request
pub noted_asked : (places : Places) (at : ℕ) (request : Request) (prepared : Prepared) → ChangesAsked request prepared → noted_of places at request prepared ≡ noted_at places at prepared
noted_asked places at request (Answer reply) asked = refl
noted_asked places at request (Change change) asked = ap (noted_key places at) asked

-- ---- what joins

changed_key : (m : States) (key : Key) (request : Request) (reply : Reply) (c : Key × Keyed) → AsksToChange key request → change_from m request reply ≡ Some c → c.0 ≡ key
changed_key m key (Put own seen document) (Written dot) c asks is = sym (keyed own (after_put (state_at m own) dot seen document) c is) ∙ asks
changed_key m key (Delete own seen) Done c asks is = sym (keyed own (after_delete (state_at m own) seen) c is) ∙ asks
changed_key m key (Push own pushed) Done c asks is = sym (keyed own (join (state_at m own) pushed) c is) ∙ asks
changed_key m key request reply c asks is = absurd cc

-- a key that is there adds none
grown_none : (m : States) (key : Key) (s : Keyed) (old : Keyed) → get m key ≡ Some old → map_len (insert m key s) ≡ map_len m
grown_none m key s old found = len-insert key_total m key s ∙ ap (λ (o : Option Keyed). cond (is_some o) (map_len m) (map_len m + 1)) found

size_behind : (config : ConfigValue) (m : States) (before : ChangeValue) (request : Request) (prepared : Prepared) → AsksToChange before.key request → get m before.key ≡ Some before.state → ComesTo config m request prepared →
    map_len (with_prepared m prepared) ≡ map_len m
size_behind config m before request (Answer reply) asks found comes = refl
size_behind config m before request (Change change) asks found comes =
    let is : change.key ≡ before.key = changed_key m before.key request (answer_from config m request) (change.key, change.state) asks comes.0.leaves in
    grown_none m change.key change.state before.state (ap (get m) is ∙ found)

pub joins_behind : (site : SiteValue) (group : List Prepared) (added : ℕ) (before : ChangeValue) (request : Request) (prepared : Prepared) → CountsKeys site group added → IsLastBefore group request before →
    (site.broken ≡ false → ComesAlone site.config site.states request prepared) → ComesBehind site.config before request prepared → JoinsGroup site group added request prepared 0
joins_behind site group added before request prepared keys last alone behind =
    let here = behind (with_group site.states group) (last.leaves site.states) in
    let size : map_len (with_group site.states (group ++ prepared ∷ [])) ≡ map_len (with_group site.states group) =
    ap map_len (with_more site.states group prepared) ∙ size_behind site.config (with_group site.states group) before request prepared last.asks (last.leaves site.states) here.0 in
    let count : length (group ++ prepared ∷ []) ≡ length group + 1 = length-append group (prepared ∷ []) in
    record {
      joins = λ whole. record { alone = alone whole; behind = here.0; sendable = here.1 };
      keys = record {
        most = omega (arith, size, keys.most);
        few = omega (arith, count, keys.few);
        exact = λ tight. (let was : map_len (with_group site.states group) ≡ map_len site.states + added = keys.exact tight in omega (arith, size, was));
      };
      few = omega arith;
      asked = asked_where site.config (with_group site.states group) request prepared here.0;
    }

alone_of : (config : ConfigValue) (m : States) (request : Request) (prepared : Prepared) → ComesTo config m request prepared → ComesAlone config m request prepared
alone_of config m request (Answer reply) comes = comes
alone_of config m request (Change change) comes = (change, comes)

pub joins_beside : (site : SiteValue) (group : List Prepared) (added count : ℕ) (request : Request) (prepared : Prepared) → CountsKeys site group added → AllByRecursion (IsApart request) group → KeepsRoomFor site request added →
    (site.broken ≡ true → prepared ≡ Answer (Refused Broken)) → (site.broken ≡ false → ComesTo site.config site.states request prepared × IsSendable request prepared) →
    CountsAdded site (adds_of site.states prepared) count → JoinsGroup site group added request prepared count
joins_beside site group added count request prepared keys apart room broken comes adds = record {
  joins = λ whole. record {
    alone = alone_of site.config site.states request prepared (comes whole).0;
    behind = comes_after site.config group site.states request prepared (comes whole).1 apart (room_kept site group request added keys room) (comes whole).0;
    sendable = (comes whole).1;
  };
  keys = counts_more site group request prepared added count keys apart broken comes adds;
  few = adds.few;
  asked = asked_beside site request prepared broken comes;
}

-- what joined, as the code has it
pub of_joined : (P : Prepared → ℕ → Type 0) (found : Option (Prepared × ℕ)) (prepared : Prepared) (adds : ℕ) → found ≡ Some (prepared, adds) → IfSome found (λ it. P it.0 it.1) → P prepared adds
of_joined P found prepared adds is all = subst (λ o. IfSome o (λ it. P it.0 it.1)) is all

pub none_joined : (found : Option (Prepared × ℕ)) → ((it : Prepared × ℕ) → found ≡ Some it → ⊥) → found ≡ None
none_joined None other = refl
none_joined (Some it) other = absurd (other it refl)
