-- How many keys the requests of one commit add, and whether there is room for the next.
use Rattle.std.proofs.Common.{◌≡◌, ◌∙◌, ℕ, ◌+◌, ◌<◌, ◌≤◌, ◌==◌, arith, Bool, true, false, not, cond, List, [], ◌∷◌, ◌++◌, Option, Some, None, is_some, unwrap_or, Result, Ok, Err, refl, sym, ap, inl, inr, length, length-append, true≢false}
use Rattle.std.specs.Prelude.{IfOk}
use Rattle.std.specs.List.{AllByRecursion}
use Rattle.std.specs.FinMap.{get, insert, len as map_len, len-insert}
use Rattle.std.specs.FinSet.{len-empty}
use Rattle.mvd_dots.specs.Dot.{dot_cmp}
use Rattle.mvd_dots.specs.declared.refusals.Refusal.{Refusal}
use Rattle.mvd_dots.specs.declared.refusals.Refusal.TheVariants.{Broken}
use Rattle.mvd_keys.specs.State.{State as Keyed, empty_state}
use Rattle.mvd_keys.specs.Writes.{Key, is_empty}
use Rattle.mvd_keys.proofs.KeyOrder.{key_total}
use Rattle.mvd_wire.specs.declared.request.Request.{Request}
use Rattle.mvd_wire.specs.declared.reply.Reply.TheVariants.{Refused}
use Rattle.mvd_site.specs.Change.{ChangeValue}
use Rattle.mvd_site.specs.Held.{AreHeld, States, state_at}
use Rattle.mvd_site.specs.Installs.{with_group, with_prepared}
use Rattle.mvd_site.specs.Sites.{SiteValue}
use Rattle.mvd_kept.specs.declared.prepared.Prepared.{Prepared}
use Rattle.mvd_kept.specs.declared.prepared.Prepared.TheVariants.{Answer, Change}
use Rattle.mvd_replica.specs.Adding.{CountsAdded, CountsKeys, IsTight, KeepsRoom, KeepsRoomFor, LacksRoom, LacksRoomFor, adds_of, adds_one, is_unheld, may_add}
use Rattle.mvd_replica.specs.Groups.{ComesTo, IsApart, IsSendable}
use Rattle.mvd_replica.proofs.Grouping.{found_changed, keys_grow}
use Rattle.mvd_replica.proofs.Putting.{whole_change}

-- ---- one key

-- a state that has seen no dot is held by no key
pub unheld_where : (m : States) (key : Key) → AreHeld m → is_empty (state_at m key).context ≡ is_unheld m key
unheld_where m key are = elim (get m key) as (λ o. get m key ≡ o → is_empty (unwrap_or o empty_state).context ≡ not (is_some o)) [
  | None ↦ λ _. ap (λ n. n == 0) (len-empty dot_cmp)
  | Some s ↦ λ is. (are.held key s is).seen
] refl

most_one : (b : Bool) → cond b 0 1 ≤ 1
most_one true = omega arith
most_one false = omega arith

pub counts_most : (site : SiteValue) (key : Key) → (IsTight site → ⊥) → CountsAdded site (adds_one site.states key) 1
counts_most site key ample = record { most = most_one (is_some (get site.states key)); few = omega arith; exact = λ tight. absurd (ample tight) }

added_where : (b : Bool) → not b ≡ true → ◌≡◌ {A = ℕ} (cond b 0 1) 1
added_where true is = absurd (true≢false (sym is))
added_where false is = refl

pub counts_one : (site : SiteValue) (key : Key) → is_unheld site.states key ≡ true → CountsAdded site (adds_one site.states key) 1
counts_one site key is =
    record { most = most_one (is_some (get site.states key)); few = omega arith; exact = λ _. sym (added_where (is_some (get site.states key)) is) }

none_where : (b : Bool) → not b ≡ false → ◌≡◌ {A = ℕ} (cond b 0 1) 0
none_where true is = refl
none_where false is = absurd (true≢false is)

pub counts_no : (site : SiteValue) (key : Key) → is_unheld site.states key ≡ false → CountsAdded site (adds_one site.states key) 0
counts_no site key is =
    let none : adds_one site.states key ≡ 0 = none_where (is_some (get site.states key)) is in
    record { most = omega (arith, none); few = omega arith; exact = λ _. sym none }

pub counts_nothing : (site : SiteValue) → CountsAdded site 0 0
counts_nothing site = record { most = omega arith; few = omega arith; exact = λ _. refl }

-- ---- the number that is added

-- whether the request may add a key decides
pub keeps_where : (site : SiteValue) (request : Request) (added : ℕ) (result : Result Bool Refusal) → IfOk result (λ adds. adds ≡ may_add site.states request) →
    IfOk result (λ lacks. lacks ≡ false → KeepsRoomFor site request added)
keeps_where site request added (Ok adds) is = λ none. inr (inr (sym is ∙ none))
keeps_where site request added (Err refusal) is = tt

pub lacks_where : (site : SiteValue) (request : Request) (added : ℕ) (result : Result Bool Refusal) → 0 < added → site.config.max_keys ≤ map_len site.states + added →
    IfOk result (λ adds. adds ≡ may_add site.states request) → IfOk result (λ lacks. lacks ≡ true → LacksRoomFor site request added)
lacks_where site request added (Ok adds) some full is = λ lacks. (some, full, sym is ∙ lacks)
lacks_where site request added (Err refusal) some full is = tt

-- ---- a group

pub counts_none : (site : SiteValue) → CountsKeys site [] 0
counts_none site = record { most = omega arith; few = omega arith; exact = λ _. omega arith }

pub with_more : (m : States) (group : List Prepared) (prepared : Prepared) → with_group m (group ++ prepared ∷ []) ≡ with_prepared (with_group m group) prepared
with_more m [] prepared = refl
with_more m (p ∷ group) prepared = with_more (with_prepared m p) group prepared

grown_by : (b : Bool) (n : ℕ) → cond b n (n + 1) ≡ n + cond b 0 1
grown_by true n = omega arith
grown_by false n = refl

grown : (m n : States) (change : ChangeValue) → get n change.key ≡ get m change.key → map_len (insert n change.key change.state) ≡ map_len n + adds_one m change.key
grown m n change same =
    len-insert key_total n change.key change.state ∙ ap (λ (o : Option Keyed). cond (is_some o) (map_len n) (map_len n + 1)) same ∙ grown_by (is_some (get m change.key)) (map_len n)

counts_on : (site : SiteValue) (group : List Prepared) (prepared : Prepared) (added count : ℕ) → CountsKeys site group added → CountsAdded site (adds_of site.states prepared) count →
    map_len (with_prepared (with_group site.states group) prepared) ≡ map_len (with_group site.states group) + adds_of site.states prepared →
    CountsKeys site (group ++ prepared ∷ []) (added + count)
counts_on site group prepared added count keys adds is =
    let size : map_len (with_group site.states (group ++ prepared ∷ [])) ≡ map_len (with_group site.states group) + adds_of site.states prepared =
    ap map_len (with_more site.states group prepared) ∙ is in
    let longer : length (group ++ prepared ∷ []) ≡ length group + 1 = length-append group (prepared ∷ []) in
    record {
      most = omega (arith, size, keys.most, adds.most);
      few = omega (arith, longer, keys.few, adds.few);
      exact = λ tight. (
          let before : map_len (with_group site.states group) ≡ map_len site.states + added = keys.exact tight in
          let here : count ≡ adds_of site.states prepared = adds.exact tight in
          omega (arith, size, before, here));
    }

-- with what one request more comes to
pub counts_more : (site : SiteValue) (group : List Prepared) (request : Request) (prepared : Prepared) (added count : ℕ) → CountsKeys site group added → AllByRecursion (IsApart request) group →
    (site.broken ≡ true → prepared ≡ Answer (Refused Broken)) → (site.broken ≡ false → ComesTo site.config site.states request prepared × IsSendable request prepared) →
    CountsAdded site (adds_of site.states prepared) count → CountsKeys site (group ++ prepared ∷ []) (added + count)
counts_more site group request (Answer reply) added count keys apart broken comes adds = counts_on site group (Answer reply) added count keys adds (omega arith)
counts_more site group request (Change change) added count keys apart broken comes adds =
    let whole : site.broken ≡ false = whole_change site.broken change broken in
    counts_on site group (Change change) added count keys adds
    (grown site.states (with_group site.states group) change (found_changed site.config site.states group request change apart (comes whole).0.0))

-- ---- room for the next

pub room_kept : (site : SiteValue) (group : List Prepared) (request : Request) (added : ℕ) → CountsKeys site group added → KeepsRoomFor site request added →
    KeepsRoom site.config site.states (with_group site.states group) request
room_kept site group request added keys (inl none) =
    let grows : map_len site.states ≤ map_len (with_group site.states group) = keys_grow group site.states in
    inl (omega (arith, none, keys.most, grows))
room_kept site group request added keys (inr (inl few)) = inr (inl (omega (arith, few, keys.most)))
room_kept site group request added keys (inr (inr none)) = inr (inr none)

pub room_lacking : (site : SiteValue) (group : List Prepared) (request : Request) (added : ℕ) → CountsKeys site group added → length group < 1024 → LacksRoomFor site request added →
    LacksRoom site request group
room_lacking site group request added keys short lacks =
    let tight : IsTight site = omega (arith, lacks.1, keys.few, short) in
    let is : map_len (with_group site.states group) ≡ map_len site.states + added = keys.exact tight in
    (omega (arith, is, lacks.0), omega (arith, is, lacks.1), lacks.2)
