-- One request: the map of states follows the writes known.
use Rattle.std.proofs.Common.{◌≡◌, Bool, true, false, not, ◌&&◌, ◌==◌, cond, if◌then◌else◌, List, [], ◌++◌, Option, Some, None, is_some, refl, sym, ap, ◌∙◌, subst, true≢false, append-nil, unwrap_or}
use Rattle.std.specs.Ordering.{eq_by_cmp}
use Rattle.std.specs.FinMap.{get, get-insert, insert as insert_at, len as len_of}
use Rattle.std.specs.FinSet.{contains, len-empty}
use Rattle.mvd_dots.specs.Dot.{dot_cmp}
use Rattle.mvd_dots.specs.declared.refusals.Refusal.TheVariants.{StateTooLarge, Full}
use Rattle.mvd_keys.specs.Key.{key_cmp}
use Rattle.mvd_keys.specs.State.{State, after_delete, after_put, empty_state, join}
use Rattle.mvd_keys.specs.Writes.{Key, Write, AreOf, Stands, context, held, is_empty, state}
use Rattle.mvd_keys.proofs.KeyOrder.{key_total, same_where_tied}
use Rattle.mvd_keys.proofs.StatesOfWrites.{join-state, key_tied, state-delete, state-put, state-untouched}
use Rattle.mvd_keys.proofs.Sets.{IsValid-state}
use Rattle.mvd_keys.proofs.Lists.{state_of_empty}
use Rattle.mvd_wire.specs.declared.request.Request.{Request}
use Rattle.mvd_wire.specs.declared.request.Request.TheVariants.{Put, Delete, Push}
use Rattle.mvd_wire.specs.declared.reply.Reply.{Reply}
use Rattle.mvd_wire.specs.declared.reply.Reply.TheVariants.{Written, Done, Refused}
use Rattle.mvd_kept.specs.Answer.{change_of, is_too_large, states_of}
use Rattle.mvd_kept.specs.Config.{ConfigValue}
use Rattle.mvd_kept.specs.Held.{States, state_at}
use Rattle.mvd_kept.specs.Known.{Adds}
use Rattle.mvd_kept.specs.FromStates.{within}
use Rattle.mvd_kept.specs.Sites.{has_no_room}
use Rattle.mvd_kept.proofs.KnownKeys.{states_of-stands}

pub state_at-stands : (m : States) (W : List Write) (key : Key) → Stands m W → state_at m key ≡ state key W
state_at-stands m W key stands =
    ap (λ o. unwrap_or o empty_state) (stands.at key)
    ∙ elim (is_empty (context key W)) as (λ b. is_empty (context key W) ≡ b → unwrap_or (cond b None (Some (state key W))) empty_state ≡ state key W) [
      | true ↦ λ none. sym (state_of_empty (state key W) none (IsValid-state key W))
      | false ↦ λ _. refl
    ] refl

-- ---- the limits

pub within-room : (config : ConfigValue) (m : States) (key : Key) (after : State) (reply : Reply) → is_too_large after ≡ false → has_no_room config m key ≡ false → within config m key after reply ≡ reply
within-room config m key after reply small room = λ i. if small i then Refused StateTooLarge else if room i && not (is_empty after.context) then Refused Full else reply

and-false : (a : Bool) → (a && false) ≡ false
and-false true = refl
and-false false = refl

within-empty : (config : ConfigValue) (m : States) (key : Key) (after : State) (reply : Reply) → is_too_large after ≡ false → is_empty after.context ≡ true → within config m key after reply ≡ reply
within-empty config m key after reply small none =
    (λ i. if small i then Refused StateTooLarge else if has_no_room config m key && not (none i) then Refused Full else reply)
    ∙ ap (λ b. if b then Refused Full else reply) (and-false (has_no_room config m key))

-- a key whose state stays meets no limit: it is held, or stays empty
pub within-still : (config : ConfigValue) (m : States) (key : Key) (after : State) (reply : Reply) → is_too_large after ≡ false → after ≡ state_at m key → within config m key after reply ≡ reply
within-still config m key after reply small still =
    elim (get m key) as (λ o. get m key ≡ o → within config m key after reply ≡ reply) [
      | Some s ↦ λ found. within-room config m key after reply small (ap (λ o. not (is_some o) && (len_of m == config.max_keys)) found)
      | None ↦ λ missing. within-empty config m key after reply small
          (ap (λ (s : State). is_empty s.context) (still ∙ ap (λ o. unwrap_or o empty_state) missing) ∙ ap (λ n. n == 0) (len-empty dot_cmp))
    ] refl

-- ---- the states after a request

-- writes of a key that make a state there, where the two are the ones named
renamed : (W V : List Write) (k key : Key) (s after : State) → ◌≡◌ {A = Option (Key × State)} (Some (k, s)) (Some (key, after)) → AreOf k V → state k (W ++ V) ≡ s → AreOf key V × (state key (W ++ V) ≡ after)
renamed W V k key s after e own is =
    let pair : ◌≡◌ {A = Key × State} (k, s) (key, after) = cc in
    (subst (λ q. AreOf q V) (ap (λ p. p.0) pair) own, subst (λ q. state q (W ++ V) ≡ after) (ap (λ p. p.0) pair) (is ∙ ap (λ p. p.1) pair))

-- the state that a key has once its writes are known
pub state_known : (W : List Write) (key : Key) → state_at (states_of W) key ≡ state key W
state_known W key = state_at-stands (states_of W) W key (states_of-stands W)

-- the dot of an accepted put has been seen neither here nor by the author
abbrev pub IsFresh : List Write → Request → Reply → Type 0
IsFresh W (Put key seen document) (Written dot) = (contains (context key W) dot ≡ false) × (contains seen dot ≡ false)
IsFresh W request reply = Unit {0}

-- an accepted request adds writes of its key, and they make the state after it
pub Adds-change_of : (W : List Write) (request : Request) (reply : Reply) (V : List Write) (key : Key) (after : State) → IsFresh W request reply → Adds request reply V → change_of W request reply ≡ Some (key, after) →
    AreOf key V × (state key (W ++ V) ≡ after)
Adds-change_of W (Put k seen document) (Written dot) V key after fresh adds e =
    renamed W V k key _ after e (subst (AreOf k) (sym adds) (refl, tt))
    (ap (λ X. state k (W ++ X)) adds ∙ state-put k W dot seen document fresh.0 fresh.1 ∙ ap (λ s. after_put s dot seen document) (sym (state_known W k)))
Adds-change_of W (Delete k seen) Done V key after fresh adds e =
    renamed W V k key _ after e (subst (AreOf k) (sym adds) (refl, tt))
    (ap (λ X. state k (W ++ X)) adds ∙ state-delete k W seen ∙ ap (λ s. after_delete s seen) (sym (state_known W k)))
Adds-change_of W (Push k pushed) Done V key after fresh adds e =
    renamed W V k key _ after e adds.0 (sym (join-state k W V) ∙ ap (join (state k W)) adds.1 ∙ ap (λ s. join s pushed) (sym (state_known W k)))
Adds-change_of W request reply V key after fresh adds e = cc

-- and any other request adds nothing
pub Adds-nothing : (W : List Write) (request : Request) (reply : Reply) (V : List Write) → Adds request reply V → change_of W request reply ≡ None → V ≡ []
Adds-nothing W (Put key seen document) (Written dot) V adds e = cc
Adds-nothing W (Delete key seen) Done V adds e = cc
Adds-nothing W (Push key pushed) Done V adds e = cc
Adds-nothing W request reply V adds e = adds

-- a reply that refuses adds nothing
pub Adds-Refused : (request : Request) (reply : Reply) (V : List Write) → ((W : List Write) → change_of W request reply ≡ None) → Adds request reply V → V ≡ []
Adds-Refused request reply V none adds = Adds-nothing [] request reply V adds (none [])

held-state : (key : Key) (V W : List Write) → state key V ≡ state key W → held key V ≡ held key W
held-state key V W same = ap (λ (s : State). if is_empty s.context then None else Some s) same

apart_from : (key other : Key) → eq_by_cmp key_cmp other key ≡ false → other ≡ key → ⊥
apart_from key other apart e = true≢false (sym (ap (eq_by_cmp key_cmp other) (sym e) ∙ key_tied other) ∙ apart)

pub Stands-insert : (m : States) (W V : List Write) (key : Key) (after : State) → Stands m W → AreOf key V → state key (W ++ V) ≡ after → is_empty after.context ≡ false → Stands (insert_at m key after) (W ++ V)
Stands-insert m W V key after stands own is seen = record {
  at = λ other.
      get-insert key_total m key after other
      ∙ elim (eq_by_cmp key_cmp other key) as (λ b. eq_by_cmp key_cmp other key ≡ b → cond b (Some after) (get m other) ≡ held other (W ++ V)) [
        | true ↦ λ tied.
            sym (ap (λ k. held k (W ++ V)) (same_where_tied other key tied)
            ∙ ap (λ (s : State). if is_empty s.context then None else Some s) is
            ∙ ap (λ b. if b then None else Some after) seen)
        | false ↦ λ apart.
            stands.at other ∙ held-state other W (W ++ V) (sym (state-untouched other key W V (apart_from key other apart) own))
      ] refl;
}

pub Stands-same : (m : States) (W V : List Write) (key : Key) → Stands m W → AreOf key V → state key (W ++ V) ≡ state key W → Stands m (W ++ V)
Stands-same m W V key stands own is = record {
  at = λ other.
      stands.at other
      ∙ elim (eq_by_cmp key_cmp other key) as (λ b. eq_by_cmp key_cmp other key ≡ b → held other W ≡ held other (W ++ V)) [
        | true ↦ λ tied. held-state other W (W ++ V) (ap (λ k. state k W) (same_where_tied other key tied) ∙ sym is ∙ ap (λ k. state k (W ++ V)) (sym (same_where_tied other key tied)))
        | false ↦ λ apart. held-state other W (W ++ V) (sym (state-untouched other key W V (apart_from key other apart) own))
      ] refl;
}

pub Stands-nothing : (m : States) (W V : List Write) → Stands m W → V ≡ [] → Stands m (W ++ V)
Stands-nothing m W V stands none = subst (Stands m) (sym (ap (λ X. W ++ X) none ∙ append-nil W)) stands
