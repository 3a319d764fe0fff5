-- The answers from the states, and the states afterwards, are those from the writes that the states stand for.
use Rattle.std.proofs.Common.{◌≡◌, ◌≢◌, ℕ, Bool, true, false, ◌||◌, ◌&&◌, not, ◌==◌, cond, if◌then◌else◌, List, ◌++◌, Option, Some, None, refl, sym, ap, ◌∙◌, subst, true≢false, unwrap_or}
use Rattle.std.specs.Ordering.{eq_by_cmp}
use Rattle.std.specs.FinMap.{get, get-insert, insert, same_map}
use Rattle.std.specs.FinSet.{contains, union, contains-union, len-empty}
use Rattle.mvd_dots.specs.Dot.{DotValue, dot_cmp}
use Rattle.mvd_dots.specs.Context.{DotSet}
use Rattle.mvd_dots.proofs.Sets.{dot_total}
use Rattle.mvd_dots.specs.declared.refusals.Refusal.TheVariants.{Full, StateTooLarge}
use Rattle.mvd_keys.specs.Key.{key_cmp}
use Rattle.mvd_keys.specs.Minting.{mint}
use Rattle.mvd_keys.specs.State.{State, Text, empty_state}
use Rattle.mvd_keys.specs.Writes.{AreOf, Key, Stands, Write, context, is_empty, state}
use Rattle.mvd_keys.proofs.KeyOrder.{key_antisymmetric, key_total, same_where_tied, tied_itself_key}
use Rattle.mvd_keys.proofs.Lists.{join-empty, mint-unseen}
use Rattle.mvd_keys.proofs.Sets.{IsValid-state}
use Rattle.mvd_keys.proofs.StatesOfWrites.{join-state}
use Rattle.mvd_wire.specs.declared.request.Request.{Request}
use Rattle.mvd_wire.specs.declared.request.Request.TheVariants.{Put}
use Rattle.mvd_wire.specs.declared.reply.Reply.{Reply}
use Rattle.mvd_wire.specs.declared.reply.Reply.TheVariants.{Written, Refused}
use Rattle.mvd_kept.specs.Answer.{answer, change_of, is_full, is_too_large, limited, states_of}
use Rattle.mvd_kept.specs.Config.{ConfigValue}
use Rattle.mvd_kept.specs.FromStates.{after_from, answer_from, change_from, put_from, with_change, with_state}
use Rattle.mvd_kept.specs.Held.{States, state_at}
use Rattle.mvd_kept.specs.Known.{Adds}
use Rattle.mvd_kept.proofs.KnownKeys.{states-stands}
use Rattle.mvd_kept.proofs.Steps.{Adds-change_of, Adds-nothing, IsFresh, Stands-insert, Stands-nothing, Stands-same, state_known}

-- ---- what a put and a delete make

either_false : (a b : Bool) → (a || b) ≡ false → (a ≡ false) × (b ≡ false)
either_false true b h = absurd (true≢false h)
either_false false b h = (refl, h)

-- the dot that is minted has been seen neither here nor by the author
minted_fresh : (site : ℕ) (W : List Write) (key : Key) (seen : DotSet) (dot : DotValue) → mint site (union (context key W) seen) ≡ Some dot →
    (contains (context key W) dot ≡ false) × (contains seen dot ≡ false)
minted_fresh site W key seen dot minted =
    either_false _ _ (sym (contains-union dot_total (context key W) seen dot) ∙ mint-unseen site (union (context key W) seen) dot minted)

-- ---- the answers

-- the answer from the states is that from the writes
pub answered : (config : ConfigValue) (m : States) (W : List Write) (request : Request) → Stands m W → answer_from config m request ≡ answer config W request
answered config m W request stands = ap (λ n. answer_from config n request) (states-stands m W stands)

-- ---- the key that is changed, and its state

pub limited_cases : (P : Reply → Type 0) (config : ConfigValue) (is_held : Bool) (count : ℕ) (after : State) (reply : Reply) →
    P (Refused StateTooLarge) → P (Refused Full) → P reply → P (limited config is_held count after reply)
limited_cases P config is_held count after reply large full ok =
    elim (is_too_large after) as (λ b. P (if b then Refused StateTooLarge else if is_full config is_held count && not (is_empty after.context) then Refused Full else reply)) [
      | true ↦ large
      | false ↦ elim (is_full config is_held count && not (is_empty after.context)) as (λ b. P (if b then Refused Full else reply)) [
        | true ↦ full
        | false ↦ ok
      ]
    ]

fresh_put : (config : ConfigValue) (m : States) (W : List Write) (key : Key) (seen : DotSet) (document : Text) (o : Option DotValue) →
    mint config.site (union (context key W) seen) ≡ o → IsFresh W (Put key seen document) (put_from config m key seen document o)
fresh_put config m W key seen document None minted = tt
fresh_put config m W key seen document (Some dot) minted =
    limited_cases (IsFresh W (Put key seen document)) config _ _ _ (Written dot) tt tt (minted_fresh config.site W key seen dot minted)

pub fresh_answer : (config : ConfigValue) (W : List Write) (request : Request) → IsFresh W request (answer config W request)
fresh_answer config W (Put key seen document) =
    fresh_put config (states_of W) W key seen document _ (ap (λ (s : State). mint config.site (union s.context seen)) (sym (state_known W key)))
fresh_answer config W request = tt

pub changed_alike : (config : ConfigValue) (m : States) (W : List Write) (request : Request) → Stands m W →
    change_from m request (answer_from config m request) ≡ change_of W request (answer config W request)
changed_alike config m W request stands = ap (λ n. change_from n request (answer_from config n request)) (states-stands m W stands)

-- ---- the states afterwards

-- writes that leave nothing seen change nothing
unseen : (W V : List Write) (key : Key) → is_empty (context key (W ++ V)) ≡ true → state key (W ++ V) ≡ state key W
unseen W V key none =
    sym (join-state key W V)
    ∙ join-empty (state key W) (state key V) (IsValid-state key W) (IsValid-state key V) (ap (λ (s : State). is_empty s.context) (join-state key W V) ∙ none)

changed_stands : (m : States) (W : List Write) (request : Request) (reply : Reply) (added : List Write) (o : Option (Key × State)) → IsFresh W request reply → change_of W request reply ≡ o → Stands m W → Adds request reply added →
    Stands (with_change m o) (W ++ added)
changed_stands m W request reply added None fresh is stands adds = Stands-nothing m W added stands (Adds-nothing W request reply added adds is)
changed_stands m W request reply added (Some change) fresh is stands adds =
    let grown : AreOf change.0 added × (state change.0 (W ++ added) ≡ change.1) = Adds-change_of W request reply added change.0 change.1 fresh adds is in
    elim (is_empty change.1.context) as (λ b. is_empty change.1.context ≡ b → Stands (if b then m else insert m change.0 change.1) (W ++ added)) [
      | true ↦ λ none. Stands-same m W added change.0 stands grown.0 (unseen W added change.0 (ap (λ (s : State). is_empty s.context) grown.1 ∙ none))
      | false ↦ λ seen. Stands-insert m W added change.0 change.1 stands grown.0 grown.1 seen
    ] refl

-- the states afterwards stand for the writes, and what was added
pub after_stands : (config : ConfigValue) (m : States) (W : List Write) (request : Request) (added : List Write) → Stands m W → Adds request (answer config W request) added →
    Stands (after_from config m request) (W ++ added)
after_stands config m W request added stands adds =
    subst (λ o. Stands (with_change m o) (W ++ added)) (sym (changed_alike config m W request stands))
    (changed_stands m W request (answer config W request) added (change_of W request (answer config W request)) (fresh_answer config W request) refl stands adds)

-- ---- one state put in

insert_same : (m : States) (key : Key) (s : State) → get m key ≡ Some s → insert m key s ≡ m
insert_same m key s found = same_map key_total key_antisymmetric _ _ (λ q.
    get-insert key_total m key s q
    ∙ elim (eq_by_cmp key_cmp q key) as (λ b. eq_by_cmp key_cmp q key ≡ b → cond b (Some s) (get m q) ≡ get m q) [
      | true ↦ λ tied. sym (ap (get m) (same_where_tied q key tied) ∙ found)
      | false ↦ λ _. refl
    ] refl)

-- a state that differs makes another map
pub insert_differs : (m : States) (key : Key) (s : State) → s ≢ state_at m key → insert m key s ≢ m
insert_differs m key s differs same =
    let found : get m key ≡ Some s = sym (ap (λ n. get n key) same) ∙ get-insert key_total m key s key ∙ ap (λ b. cond b (Some s) (get m key)) (tied_itself_key key) in
    differs (sym (ap (λ o. unwrap_or o empty_state) found))

held_there : (m : States) (key : Key) (s : State) (o : Option State) → get m key ≡ o → s ≡ state_at m key → is_empty s.context ≡ false → get m key ≡ Some s
held_there m key s None is same seen =
    absurd (true≢false (sym (ap (λ (t : State). is_empty t.context) (same ∙ ap (λ o. unwrap_or o empty_state) is) ∙ ap (λ n. n == 0) (len-empty dot_cmp)) ∙ seen))
held_there m key s (Some t) is same seen = is ∙ ap Some (sym (same ∙ ap (λ o. unwrap_or o empty_state) is))

-- the state that the key has, put in, changes nothing
pub with_state-same : (m : States) (key : Key) (s : State) → s ≡ state_at m key → with_state m key s ≡ m
with_state-same m key s same =
    elim (is_empty s.context) as (λ b. is_empty s.context ≡ b → (if b then m else insert m key s) ≡ m) [
      | true ↦ λ _. refl
      | false ↦ λ seen. insert_same m key s (held_there m key s (get m key) refl same seen)
    ] refl

-- and one that has seen a dot is put in
pub with_state-seen : (m : States) (key : Key) (s : State) → is_empty s.context ≡ false → with_state m key s ≡ insert m key s
with_state-seen m key s seen = ap (λ b. if b then m else insert m key s) seen
