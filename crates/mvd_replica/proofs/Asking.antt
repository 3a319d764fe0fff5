-- The reply to a request is of the kind that it asks for.
use Rattle.std.proofs.Common.{◌≡◌, true, false, Result, Ok, Err, Some, None, refl, sym, ap, subst, inl, inr, ◌∙◌}
use Rattle.std.specs.Prelude.{Option}
use Rattle.std.specs.FinSet.{union}
use Rattle.mvd_dots.specs.Dot.{DotValue}
use Rattle.mvd_dots.specs.declared.refusals.Refusal.{Refusal}
use Rattle.mvd_dots.specs.declared.refusals.Refusal.TheVariants.{Broken}
use Rattle.mvd_keys.specs.Minting.{mint}
use Rattle.mvd_keys.specs.State.{after_delete, after_put}
use Rattle.mvd_rows.specs.Answers.{find_answer, range_answer, row_answer, rows_answer}
use Rattle.mvd_rows.specs.Visible.{visible_in}
use Rattle.mvd_wire.specs.declared.request.Request.{Request}
use Rattle.mvd_wire.specs.declared.request.Request.TheVariants.{Get, Put, Delete, Find, Row, Rows, Node, Bucket, Push, Range, Keys, Conflicts, Hello, Bye}
use Rattle.mvd_wire.specs.declared.reply.Reply.{Reply}
use Rattle.mvd_wire.specs.declared.reply.Reply.TheVariants.{Written, Done, Refused}
use Rattle.mvd_site.specs.Answer.{places_reply, row_reply, rows_reply}
use Rattle.mvd_site.specs.Config.{ConfigValue}
use Rattle.mvd_site.specs.FromStates.{answer_from, put_from, unless_broken}
use Rattle.mvd_site.specs.Held.{States, state_at}
use Rattle.mvd_site.specs.Sites.{SiteValue}
use Rattle.mvd_site.specs.Prepared.{PreparesFromStates}
use Rattle.mvd_kept.specs.declared.prepared.Prepared.{Prepared}
use Rattle.mvd_site.proofs.Answered.{limited_cases}
use Rattle.mvd_site.proofs.Outcomes.{err_is}
use Rattle.mvd_replica.specs.Asks.{ArePlaces, AreRows, IsReplyTo, IsRow, IsWritten, TellsAnswer}
use Rattle.mvd_replica.specs.Batch.{AnswersOneFrom}
use Rattle.mvd_replica.proofs.Batching.{stays_from, stored_from}

refused_is : (request : Request) (refusal : Refusal) → IsReplyTo request (Refused refusal)
refused_is (Get key) refusal = tt
refused_is (Put key seen document) refusal = tt
refused_is (Delete key seen) refusal = tt
refused_is (Push key pushed) refusal = tt
refused_is (Find field term after) refusal = tt
refused_is (Range field from to after) refusal = tt
refused_is (Row view term) refusal = tt
refused_is (Rows view after) refusal = tt
refused_is (Node path) refusal = tt
refused_is (Bucket path after) refusal = tt
refused_is (Keys prefix after) refusal = tt
refused_is (Conflicts after) refusal = tt
refused_is (Hello token) refusal = tt
refused_is Bye refusal = tt

written : (config : ConfigValue) (m : States) (key : _) (seen : _) (document : _) (dot : Option DotValue) → IsWritten (put_from config m key seen document dot)
written config m key seen document None = tt
written config m key seen document (Some dot) =
    limited_cases IsWritten config _ _ (after_put (state_at m key) dot seen document) (Written dot) tt tt tt

are_places : (page : _) → ArePlaces (places_reply page)
are_places (Ok page) = tt
are_places (Err refusal) = tt

is_row : (row : _) → IsRow (row_reply row)
is_row (Ok row) = tt
is_row (Err refusal) = tt

are_rows : (page : _) → AreRows (rows_reply page)
are_rows (Ok page) = tt
are_rows (Err refusal) = tt

answer_is : (config : ConfigValue) (m : States) (request : Request) → IsReplyTo request (answer_from config m request)
answer_is config m (Get key) = tt
answer_is config m (Put key seen document) = written config m key seen document (mint config.site (union (state_at m key).context seen))
answer_is config m (Delete key seen) = limited_cases (IsReplyTo (Delete key seen)) config _ _ (after_delete (state_at m key) seen) Done tt tt tt
answer_is config m (Push key pushed) = tt
answer_is config m (Find field term after) = are_places (find_answer config.defs (visible_in m) field term after)
answer_is config m (Range field from to after) = are_places (range_answer config.defs (visible_in m) field from to after)
answer_is config m (Row view term) = is_row (row_answer config.defs (visible_in m) view term)
answer_is config m (Rows view after) = are_rows (rows_answer config.defs (visible_in m) view after)
answer_is config m (Node path) = tt
answer_is config m (Bucket path after) = tt
answer_is config m (Keys prefix after) = tt
answer_is config m (Conflicts after) = tt
answer_is config m (Hello token) = tt
answer_is config m Bye = tt

refusal_is_reply : (request : Request) (told : Reply) (refusal : Refusal) → told ≡ Refused refusal → IsReplyTo request told
refusal_is_reply request told refusal is = subst (IsReplyTo request) (sym is) (refused_is request refusal)

pub is_reply : (old new : SiteValue) (request : Request) (told : Reply) → AnswersOneFrom old new request told → IsReplyTo request told
is_reply old new request told it = elim old.broken as (λ b. old.broken ≡ b → IsReplyTo request told) [
  | true ↦ λ broken. refusal_is_reply request told Broken (stays_from it broken).0
  | false ↦ λ whole. elim (stored_from it) [
    | inl from ↦ elim (from whole) [
      | inl answered ↦ subst (IsReplyTo request) (sym answered.answers) (answer_is old.config old.states request)
      | inr (inl memory) ↦ refusal_is_reply request told _ memory.0
      | inr (inr broke) ↦ refusal_is_reply request told _ broke.0
    ]
    | inr store ↦ refusal_is_reply request told _ store.told
  ]
] refl

pub told_is : (site : SiteValue) (request : Request) (told : Reply) → TellsAnswer site request told → IsReplyTo request told
told_is site request told (inr memory) = refusal_is_reply request told _ memory.1
told_is site request told (inl is) = subst (IsReplyTo request) (sym is)
    (elim site.broken as (λ b. IsReplyTo request (unless_broken b (Refused Broken) (answer_from site.config site.states request))) [
      | true ↦ refused_is request Broken
      | false ↦ answer_is site.config site.states request
    ])

-- ---- what a question is told

pub whole_tells : (site : SiteValue) (request : Request) (told : Reply) → site.broken ≡ false → told ≡ answer_from site.config site.states request → TellsAnswer site request told
whole_tells site request told whole is =
    inl (is ∙ sym (ap (λ b. unless_broken b (Refused Broken) (answer_from site.config site.states request)) whole))

pub tells_refusal : (site : SiteValue) (request : Request) (refusal : Refusal) → (site.broken ≡ true → ◌≡◌ {A = Result Prepared Refusal} (Err refusal) (Err Broken)) → PreparesFromStates site request (Err refusal) →
    TellsAnswer site request (Refused refusal)
tells_refusal site request refusal broken from = elim site.broken as (λ b. site.broken ≡ b → TellsAnswer site request (Refused refusal)) [
  | true ↦ λ is. inl (ap Refused (err_is refusal Broken (broken is)) ∙ sym (ap (λ b. unless_broken b (Refused Broken) (answer_from site.config site.states request)) is))
  | false ↦ λ whole. elim (from whole) [
    | inl is ↦ whole_tells site request (Refused refusal) whole is
    | inr memory ↦ inr (whole, ap Refused memory)
  ]
] refl
