-- An answer from states in form is not too long for its frame.
use Rattle.std.proofs.Common.{◌≡◌, ℕ, ℤ, Bool, true, false, if◌then◌else◌, List, length, ◌==◌, Option, Some, None, Result, Ok, Err, refl, sym, subst, ⊎_elim, unwrap_or}
use Rattle.std.proofs.lemmas.Bool.{ltb-false}
use Rattle.std.specs.FinMap.{get}
use Rattle.std.specs.List.{AllByRecursion}
use Rattle.mvd_docs.specs.declared.term.Term.{Term}
use Rattle.mvd_dots.specs.Context.{DotSet}
use Rattle.mvd_dots.specs.Dot.{DotValue}
use Rattle.mvd_dots.specs.declared.refusals.Refusal.{Refusal}
use Rattle.mvd_dots.specs.declared.refusals.Refusal.TheVariants.{BadPath, Broken, DotClash, Exhausted, Full, Memory, StateTooLarge}
use Rattle.mvd_keys.specs.Minting.{mint}
use Rattle.mvd_keys.specs.State.{State, Text, after_delete, clashes, empty_state, join}
use Rattle.mvd_keys.specs.Writes.{Key}
use Rattle.mvd_keys.specs.declared.places.Place.{Place}
use Rattle.mvd_rows.specs.Answers.{find_answer, range_answer, row_answer, rows_answer}
use Rattle.mvd_rows.specs.Siblings.{conflicts_answer, keys_answer}
use Rattle.mvd_rows.specs.Visible.{visible_in}
use Rattle.mvd_tree.specs.Page.{bucket_page, is_more_after_page}
use Rattle.mvd_wire.specs.Codecs.{spell_state, state_limit}
use Rattle.mvd_wire.specs.Replies.{CanBeSent}
use Rattle.mvd_wire.specs.declared.request.Request.{Request}
use Rattle.mvd_wire.specs.declared.request.Request.TheVariants.{Get, Put, Delete, Find, Row, Rows, Node, Bucket, Push, Range, Keys, Conflicts, Hello, Bye}
use Rattle.mvd_wire.specs.declared.reply.Reply.{Reply}
use Rattle.mvd_wire.specs.declared.reply.Reply.TheVariants.{State as Shown, Written, Done, Keys as KeysTold, Refused}
use Rattle.mvd_wire.proofs.SentFrames.{short_can_be_sent, state_can_be_sent}
use Rattle.mvd_wire.proofs.SentPages.{IsShortPlace, IsShortTerm, counts_can_be_sent, keys_can_be_sent, places_can_be_sent, row_can_be_sent, rows_can_be_sent}
use Rattle.mvd_kept.specs.Answer.{answer_from, bucket_answer, counts_reply, digests, is_too_large, places_reply, push_from, put_from, row_reply, rows_reply, state_at, within}
use Rattle.mvd_kept.specs.AtOnce.{AnswersRequest}
use Rattle.mvd_kept.specs.Config.{ConfigValue}
use Rattle.mvd_kept.specs.FromStates.{Answered, AnswersFrom}
use Rattle.mvd_kept.specs.Held.{AreHeld, States}
use Rattle.mvd_kept.specs.Sites.{SiteValue}
use Rattle.mvd_kept.proofs.Digested.{node_can_be_sent, page_entries, short_page}
use Rattle.mvd_kept.proofs.Lengths.{kept_empty}
use Rattle.mvd_kept.proofs.Listed.{IsShortPage, conflicts_page, found_page, keys_page, ranged_page, rows_page}
use Rattle.mvd_kept.proofs.Outcomes.{refused_fits}

if_fits : (b : Bool) (x y : Reply) → CanBeSent x → CanBeSent y → CanBeSent (if b then x else y)
if_fits true x y one other = one
if_fits false x y one other = other

-- ---- one answer

module _ (config : ConfigValue) (states : States) (kept : AreHeld states) where
  state_fits : (key : Key) → CanBeSent (Shown (state_at states key))
  state_fits key = state_can_be_sent (state_at states key) (ltb-false state_limit (length (spell_state (state_at states key))) (
      elim (get states key) as (λ o. get states key ≡ o → is_too_large (unwrap_or o empty_state) ≡ false) [
        | Some s ↦ λ found. (kept.held key s found).short
        | None ↦ λ _. kept_empty.short
      ] refl))

  within_fits : (key : Key) (after : State) (reply : Reply) → CanBeSent reply → CanBeSent (within config states key after reply)
  within_fits key after reply fits = if_fits (is_too_large after) (Refused StateTooLarge) _ (refused_fits StateTooLarge) (if_fits _ (Refused Full) reply (refused_fits Full) fits)

  put_fits : (key : Key) (seen : DotSet) (document : Text) (dot : Option DotValue) → CanBeSent (put_from config states key seen document dot)
  put_fits key seen document None = refused_fits Exhausted
  put_fits key seen document (Some dot) = within_fits key _ (Written dot) (short_can_be_sent (Written dot) refl)

  push_fits : (key : Key) (pushed : State) → CanBeSent (push_from config states key pushed)
  push_fits key pushed = if_fits (is_too_large pushed) (Refused StateTooLarge) _ (refused_fits StateTooLarge)
      (if_fits (clashes (state_at states key) pushed) (Refused DotClash) _ (refused_fits DotClash)
      (within_fits key (join (state_at states key) pushed) Done (short_can_be_sent Done refl)))

places_fit : (answer : Result (List Place × Bool) Refusal) → ((page : List Place) (more : Bool) → answer ≡ Ok (page, more) → IsShortPage IsShortPlace page) → CanBeSent (places_reply answer)
places_fit (Ok page) short = let is = short page.0 page.1 refl in places_can_be_sent page.0 page.1 is.each is.few
places_fit (Err refusal) short = refused_fits refusal

row_fits : (answer : Result (ℕ × ℤ × Option (ℤ × ℤ)) Refusal) → CanBeSent (row_reply answer)
row_fits (Ok row) = row_can_be_sent (record { count = row.0; sum = row.1; ends = row.2 })
row_fits (Err refusal) = refused_fits refusal

rows_fit : (answer : Result (List (Term × ℕ × ℤ × Option (ℤ × ℤ)) × Bool) Refusal) → ((page : List (Term × ℕ × ℤ × Option (ℤ × ℤ))) (more : Bool) → answer ≡ Ok (page, more) → IsShortPage (λ r. IsShortTerm r.0) page) → CanBeSent (rows_reply answer)
rows_fit (Ok page) short = let is = short page.0 page.1 refl in rows_can_be_sent page.0 page.1 is.each is.few
rows_fit (Err refusal) short = refused_fits refusal

pub answer_fits : (config : ConfigValue) (states : States) (request : Request) → AreHeld states → CanBeSent (answer_from config states request)
answer_fits config states (Get key) kept = state_fits config states kept key
answer_fits config states (Put key seen document) kept = put_fits config states kept key seen document _
answer_fits config states (Delete key seen) kept = within_fits config states kept key (after_delete (state_at states key) seen) Done (short_can_be_sent Done refl)
answer_fits config states (Push key pushed) kept = push_fits config states kept key pushed
answer_fits config states (Find field term after) kept = places_fit _ (λ page more is. found_page config.defs states field term after page more kept is)
answer_fits config states (Range field from to after) kept = places_fit _ (λ page more is. ranged_page config.defs states field from to after page more kept is)
answer_fits config states (Row view term) kept = row_fits _
answer_fits config states (Rows view after) kept = rows_fit _ (λ page more is. rows_page config.defs (visible_in states) view after page more is)
answer_fits config states (Node path) kept = node_can_be_sent (digests states) path
answer_fits config states (Bucket path after) kept = if_fits (length path == 3) (KeysTold (bucket_page (digests states) path after) (is_more_after_page (digests states) path after)) (Refused BadPath)
    (keys_can_be_sent _ _ (page_entries states kept path after) (short_page (digests states) path after)) (refused_fits BadPath)
answer_fits config states (Keys prefix after) kept =
    let page = keys_answer states prefix after in
    let is = keys_page states prefix after page.0 page.1 kept refl in counts_can_be_sent page.0 page.1 is.each is.few
answer_fits config states (Conflicts after) kept =
    let page = conflicts_answer states after in
    let is = conflicts_page states after page.0 page.1 kept refl in counts_can_be_sent page.0 page.1 is.each is.few
answer_fits config states (Hello token) kept = short_can_be_sent Done refl
answer_fits config states Bye kept = short_can_be_sent Done refl

-- ---- what a site replies

pub reply_fits : (old new : SiteValue) (request : Request) (reply : Reply) → AreHeld old.states → AnswersFrom old new request reply → (old.broken ≡ true → reply ≡ Refused Broken) → CanBeSent reply
reply_fits old new request reply kept step broken =
    elim old.broken as (λ b. old.broken ≡ b → CanBeSent reply) [
      | true ↦ λ was. subst CanBeSent (sym (broken was)) (refused_fits Broken)
      | false ↦ λ whole. ⊎_elim (λ (here : Answered old new request reply). subst CanBeSent (sym here.answers) (answer_fits old.config old.states request kept))
          (λ rest. ⊎_elim (λ memory. subst CanBeSent (sym memory.0) (refused_fits Memory)) (λ broke. subst CanBeSent (sym broke.0) (refused_fits Broken)) rest) (step whole)
    ] refl

pub sent_fits : (old new : SiteValue) (request : Request) (reply : Reply) → AreHeld old.states → AnswersRequest old new request reply → CanBeSent reply
sent_fits old new request reply kept does = reply_fits old new request reply kept does.step (λ was. (does.broken was).0)
