-- What no answer refuses: that a site is broken; and, but to a push of a state that clashes with the key's, a clash.
use Rattle.std.proofs.Common.{◌≡◌, ◌≢◌, ℕ, ℤ, ◌==◌, Bool, true, false, if◌then◌else◌, List, length, Option, Some, None, Result, Ok, Err, refl, sym, ap, subst}
use Rattle.std.specs.FinSet.{union}
use Rattle.mvd_docs.specs.declared.term.Term.{Term}
use Rattle.mvd_dots.specs.Dot.{DotValue}
use Rattle.mvd_dots.specs.Context.{DotSet}
use Rattle.mvd_dots.specs.declared.refusals.Refusal.{Refusal}
use Rattle.mvd_dots.specs.declared.refusals.Refusal.TheVariants.{BadPath, Broken, DotClash, Exhausted, Full, NoIndex, NoView, StateTooLarge}
use Rattle.mvd_keys.specs.Minting.{mint}
use Rattle.mvd_keys.specs.State.{State, Text, after_delete, after_put, clashes}
use Rattle.mvd_keys.specs.Writes.{Key}
use Rattle.mvd_keys.specs.declared.places.Place.{Place}
use Rattle.mvd_rows.specs.Answers.{find_answer, range_answer, row_answer, rows_answer}
use Rattle.mvd_rows.specs.Visible.{visible_in}
use Rattle.mvd_tree.specs.Page.{is_more_after_page, bucket_page}
use Rattle.mvd_wire.specs.declared.request.Request.{Request}
use Rattle.mvd_wire.specs.declared.request.Request.TheVariants.{Get, Put, Delete, Find, Row, Rows, Node, Bucket, Push, Range, Keys, Conflicts, Hello, Bye}
use Rattle.mvd_wire.specs.declared.reply.Reply.{Reply}
use Rattle.mvd_wire.specs.declared.reply.Reply.TheVariants.{Written, Done, Keys as KeysTold, Refused}
use Rattle.mvd_kept.specs.Answer.{digests, is_too_large, places_reply, row_reply, rows_reply}
use Rattle.mvd_kept.specs.Config.{ConfigValue}
use Rattle.mvd_kept.specs.FromStates.{IsClashingPush, answer_from, put_from}
use Rattle.mvd_kept.specs.Held.{States, state_at}
use Rattle.mvd_kept.proofs.Answered.{limited_cases}
use Rattle.mvd_kept.proofs.Listed.{find_refuses, range_refuses, row_refuses, rows_refuses}
use Rattle.mvd_kept.proofs.Pushes.{clash_is, never_broken, refusal_is}

-- a reply that is not this refusal
module _ (r : Refusal) (exhausted : r ≢ Exhausted) (large : r ≢ StateTooLarge) (full : r ≢ Full) (index : r ≢ NoIndex) (view : r ≢ NoView) (path : r ≢ BadPath) where
  abbrev IsNot : Reply → Type 0
  IsNot reply = reply ≢ Refused r

  put_not : (config : ConfigValue) (m : States) (key : Key) (seen : DotSet) (document : Text) (o : Option DotValue) → IsNot (put_from config m key seen document o)
  put_not config m key seen document None e = exhausted (sym (refusal_is Exhausted r e))
  put_not config m key seen document (Some dot) e =
      limited_cases IsNot config _ _ (after_put (state_at m key) dot seen document) (Written dot) (λ e. large (sym (refusal_is StateTooLarge r e))) (λ e. full (sym (refusal_is Full r e))) (λ e. cc) e

  places_not : (page : Result (List Place × Bool) Refusal) → page ≢ Err r → IsNot (places_reply page)
  places_not (Ok page) other e = cc
  places_not (Err refusal) other e = other (ap Err (refusal_is refusal r e))

  row_not : (row : Result (ℕ × ℤ × Option (ℤ × ℤ)) Refusal) → row ≢ Err r → IsNot (row_reply row)
  row_not (Ok row) other e = cc
  row_not (Err refusal) other e = other (ap Err (refusal_is refusal r e))

  rows_not : (page : Result (List (Term × ℕ × ℤ × Option (ℤ × ℤ)) × Bool) Refusal) → page ≢ Err r → IsNot (rows_reply page)
  rows_not (Ok page) other e = cc
  rows_not (Err refusal) other e = other (ap Err (refusal_is refusal r e))

  -- of what a request asks or changes, but for a push
  pub refuses_not : (config : ConfigValue) (m : States) (request : Request) (P : Type 0) → ((key : Key) (pushed : State) → request ≡ Push key pushed → P) → answer_from config m request ≡ Refused r → P
  refuses_not config m (Get key) P push e = cc
  refuses_not config m (Put key seen document) P push e = absurd (put_not config m key seen document (mint config.site (union (state_at m key).context seen)) e)
  refuses_not config m (Delete key seen) P push e =
      absurd (limited_cases IsNot config _ _ (after_delete (state_at m key) seen) Done (λ e. large (sym (refusal_is StateTooLarge r e))) (λ e. full (sym (refusal_is Full r e))) (λ e. cc) e)
  refuses_not config m (Push key pushed) P push e = push key pushed refl
  refuses_not config m (Find field term after) P push e = absurd (places_not (find_answer config.defs (visible_in m) field term after) (find_refuses config.defs (visible_in m) field term after r index) e)
  refuses_not config m (Range field from to after) P push e = absurd (places_not (range_answer config.defs (visible_in m) field from to after) (range_refuses config.defs (visible_in m) field from to after r index) e)
  refuses_not config m (Row name term) P push e = absurd (row_not (row_answer config.defs (visible_in m) name term) (row_refuses config.defs (visible_in m) name term r view) e)
  refuses_not config m (Rows name after) P push e = absurd (rows_not (rows_answer config.defs (visible_in m) name after) (rows_refuses config.defs (visible_in m) name after r view) e)
  refuses_not config m (Node at) P push e = cc
  refuses_not config m (Bucket at after) P push e =
      absurd (elim (length at == 3) as (λ b. IsNot (if b then KeysTold (bucket_page (digests m) at after) (is_more_after_page (digests m) at after) else Refused BadPath)) [
        | true ↦ λ e. cc
        | false ↦ λ e. path (sym (refusal_is BadPath r e))
      ] e)
  refuses_not config m (Keys prefix after) P push e = cc
  refuses_not config m (Conflicts after) P push e = cc
  refuses_not config m (Hello token) P push e = cc
  refuses_not config m Bye P push e = cc

-- a clash is told of a push alone, of a state that clashes with the key's
pub clash_alone : (config : ConfigValue) (m : States) (request : Request) → answer_from config m request ≡ Refused DotClash → IsClashingPush m request
clash_alone config m request e =
    refuses_not DotClash (λ d. cc) (λ d. cc) (λ d. cc) (λ d. cc) (λ d. cc) (λ d. cc) config m request (IsClashingPush m request)
    (λ key pushed is. subst (IsClashingPush m) (sym is) (clash_is config m key pushed (is_too_large pushed) (clashes (state_at m key) pushed) (sym (subst (λ q. answer_from config m q ≡ Refused DotClash) is e)))) e

-- that a site is broken is no answer
pub no_answer_broken : (config : ConfigValue) (m : States) (request : Request) → answer_from config m request ≢ Refused Broken
no_answer_broken config m request e =
    refuses_not Broken (λ d. cc) (λ d. cc) (λ d. cc) (λ d. cc) (λ d. cc) (λ d. cc) config m request ⊥
    (λ key pushed is. never_broken config m key pushed (is_too_large pushed) (clashes (state_at m key) pushed) (sym (subst (λ q. answer_from config m q ≡ Refused Broken) is e))) e
