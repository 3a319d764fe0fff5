-- No answer is 21 or 22: these come of the store alone.
use Rattle.std.proofs.Common.{◌≡◌, ◌≢◌, ◌==◌, Bool, true, false, if◌then◌else◌, List, length, Option, Some, None, Result, Ok, Err, refl, sym, ap, subst}
use Rattle.std.specs.Prelude.{⊤}
use Rattle.std.specs.FinSet.{union}
use Rattle.mvd_dots.specs.declared.refusals.Refusal.{Refusal}
use Rattle.mvd_dots.specs.declared.refusals.Refusal.TheVariants.{BadPath, Broken, DotClash, StateTooLarge, Store}
use Rattle.mvd_dots.specs.Dot.{DotValue}
use Rattle.mvd_dots.specs.Context.{DotSet}
use Rattle.mvd_keys.specs.Minting.{mint}
use Rattle.mvd_keys.specs.State.{State, Text, clashes, join}
use Rattle.mvd_keys.specs.Writes.{Key, Write}
use Rattle.mvd_rows.specs.Answers.{find_answer, range_answer, row_answer, rows_answer}
use Rattle.mvd_rows.specs.Visible.{visible_in}
use Rattle.mvd_wire.specs.declared.request.Request.{Request}
use Rattle.mvd_wire.specs.declared.request.Request.TheVariants.{Get, Put, Delete, Find, Row, Rows, Node, Bucket, Push, Range, Keys, Conflicts, Hello, Bye}
use Rattle.mvd_wire.specs.declared.reply.Reply.{Reply}
use Rattle.mvd_wire.specs.declared.reply.Reply.TheVariants.{Done, Refused, Written}
use Rattle.mvd_kept.specs.Answer.{States, answer, answer_from, is_too_large, places_reply, put_from, push_from, row_reply, rows_reply, state_at, states_of, within}
use Rattle.mvd_kept.specs.Config.{ConfigValue}
use Rattle.mvd_kept.proofs.Answered.{limited_cases}
use Rattle.mvd_kept.proofs.Listed.{find_refuses, range_refuses, row_refuses, rows_refuses}

-- the reply is 21 or 22
abbrev pub IsUndone : Reply → Type 0
IsUndone (Refused Store) = ⊤
IsUndone (Refused Broken) = ⊤
IsUndone reply = ⊥

abbrev pub IsNone : Reply → Type 0
IsNone reply = IsUndone reply → ⊥

refused_none : (refusal : Refusal) → refusal ≢ Store → refusal ≢ Broken → IsNone (Refused refusal)
refused_none Store a b h = a refl
refused_none Broken a b h = b refl
refused_none refusal a b h = h

of_result : {X : Type 0} (f : Result X Refusal → Reply) (r : Result X Refusal) → ((x : X) → IsNone (f (Ok x))) → ((refusal : Refusal) → f (Err refusal) ≡ Refused refusal) → r ≢ Err Store → r ≢ Err Broken → IsNone (f r)
of_result f (Ok x) ok err a b = ok x
of_result f (Err refusal) ok err a b = subst IsNone (sym (err refusal)) (refused_none refusal (λ e. a (ap Err e)) (λ e. b (ap Err e)))

put_none : (c : ConfigValue) (m : States) (key : Key) (seen : DotSet) (document : Text) (minted : Option DotValue) → IsNone (put_from c m key seen document minted)
put_none c m key seen document None = λ h. h
put_none c m key seen document (Some dot) = limited_cases IsNone c _ _ _ (Written dot) (λ h. h) (λ h. h) (λ h. h)

push_none : (c : ConfigValue) (m : States) (key : Key) (pushed : State) → IsNone (push_from c m key pushed)
push_none c m key pushed =
    elim (is_too_large pushed) as (λ b. IsNone (if b then Refused StateTooLarge else if clashes (state_at m key) pushed then Refused DotClash else within c m key (join (state_at m key) pushed) Done)) [
      | true ↦ λ h. h
      | false ↦ elim (clashes (state_at m key) pushed) as (λ b. IsNone (if b then Refused DotClash else within c m key (join (state_at m key) pushed) Done)) [
        | true ↦ λ h. h
        | false ↦ limited_cases IsNone c _ _ (join (state_at m key) pushed) Done (λ h. h) (λ h. h) (λ h. h)
      ]
    ]

path_none : (is : Bool) (reply : Reply) → IsNone reply → IsNone (if is then reply else Refused BadPath)
path_none true reply none = none
path_none false reply none = λ h. h

none_from : (c : ConfigValue) (m : States) (request : Request) → IsNone (answer_from c m request)
none_from c m (Get key) = λ h. h
none_from c m (Put key seen document) = put_none c m key seen document (mint c.site (union (state_at m key).context seen))
none_from c m (Delete key seen) = limited_cases IsNone c _ _ _ Done (λ h. h) (λ h. h) (λ h. h)
none_from c m (Push key pushed) = push_none c m key pushed
none_from c m (Find field term after) = of_result places_reply (find_answer c.defs (visible_in m) field term after) (λ x h. h) (λ r. refl)
    (find_refuses c.defs (visible_in m) field term after Store (λ e. cc)) (find_refuses c.defs (visible_in m) field term after Broken (λ e. cc))
none_from c m (Range field from to after) = of_result places_reply (range_answer c.defs (visible_in m) field from to after) (λ x h. h) (λ r. refl)
    (range_refuses c.defs (visible_in m) field from to after Store (λ e. cc)) (range_refuses c.defs (visible_in m) field from to after Broken (λ e. cc))
none_from c m (Row view term) = of_result row_reply (row_answer c.defs (visible_in m) view term) (λ x h. h) (λ r. refl)
    (row_refuses c.defs (visible_in m) view term Store (λ e. cc)) (row_refuses c.defs (visible_in m) view term Broken (λ e. cc))
none_from c m (Rows view after) = of_result rows_reply (rows_answer c.defs (visible_in m) view after) (λ x h. h) (λ r. refl)
    (rows_refuses c.defs (visible_in m) view after Store (λ e. cc)) (rows_refuses c.defs (visible_in m) view after Broken (λ e. cc))
none_from c m (Node path) = λ h. h
none_from c m (Bucket path after) = path_none (length path == 3) _ (λ h. h)
none_from c m (Keys prefix after) = λ h. h
none_from c m (Conflicts after) = λ h. h
none_from c m (Hello token) = λ h. h
none_from c m Bye = λ h. h

pub answer_none : (c : ConfigValue) (known : List Write) (request : Request) → IsNone (answer c known request)
answer_none c known request = none_from c (states_of known) request
