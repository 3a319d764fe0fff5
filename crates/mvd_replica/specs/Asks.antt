-- What a program asks of a replica by a call of its own, as the request that it is and the reply that its result stands
-- for.
use Rattle.std.specs.Prelude.{◌≡◌, ◌⊎◌, ⊤, ℕ, Bool, List, false, Result, Ok, Err}
use Rattle.mvd_dots.specs.Dot.{DotValue}
use Rattle.mvd_dots.specs.declared.refusals.Refusal.{Refusal}
use Rattle.mvd_dots.specs.declared.refusals.Refusal.TheVariants.{Broken, Memory}
use Rattle.mvd_keys.specs.Writes.{Key}
use Rattle.mvd_wire.specs.declared.request.Request.{Request}
use Rattle.mvd_wire.specs.declared.request.Request.TheVariants.{Put, Delete, Find, Row, Rows, Range, Keys, Conflicts}
use Rattle.mvd_wire.specs.declared.reply.Reply.{Reply}
use Rattle.mvd_wire.specs.declared.reply.Reply.TheVariants as reply
use Rattle.mvd_wire.specs.declared.reply.RowValue.{RowValue}
use Rattle.mvd_site.specs.FromStates.{answer_from, unless_broken}
use Rattle.mvd_site.specs.Sites.{SiteValue}

-- ---- a write

-- the reply to a put that came to this
abbrev pub put_reply : Result DotValue Refusal → Reply
put_reply (Ok dot) = reply.Written dot
put_reply (Err refusal) = reply.Refused refusal

-- ---- a question

-- the reply that `answer` gives to a question, from the states that are held: 22 of a broken replica
abbrev pub question_told : SiteValue → Request → Reply
question_told site request =
    unless_broken site.broken (reply.Refused Broken) (answer_from site.config site.states request)

-- this reply, or 20 of a replica that is not broken, where memory was refused
abbrev pub TellsAnswer : SiteValue → Request → Reply → Type 0
TellsAnswer site request told =
    (told ≡ question_told site request) ⊎ ((site.broken ≡ false) × (told ≡ reply.Refused Memory))

-- the reply to a question of a row that came to this
abbrev pub row_told : Result RowValue Refusal → Reply
row_told (Ok row) = reply.Row row
row_told (Err refusal) = reply.Refused refusal

-- the reply to a question of keys that came to this
abbrev pub counts_told : Result (List (Key × ℕ) × Bool) Refusal → Reply
counts_told (Ok page) = reply.Counts page.0 page.1
counts_told (Err refusal) = reply.Refused refusal

-- ---- replies of a kind, or a refusal

abbrev pub IsWritten : Reply → Type 0
IsWritten (reply.Written dot) = ⊤
IsWritten (reply.Refused refusal) = ⊤
IsWritten told = ⊥

abbrev pub IsDoneReply : Reply → Type 0
IsDoneReply reply.Done = ⊤
IsDoneReply (reply.Refused refusal) = ⊤
IsDoneReply told = ⊥

abbrev pub ArePlaces : Reply → Type 0
ArePlaces (reply.Places places more) = ⊤
ArePlaces (reply.Refused refusal) = ⊤
ArePlaces told = ⊥

abbrev pub IsRow : Reply → Type 0
IsRow (reply.Row row) = ⊤
IsRow (reply.Refused refusal) = ⊤
IsRow told = ⊥

abbrev pub AreRows : Reply → Type 0
AreRows (reply.Rows rows more) = ⊤
AreRows (reply.Refused refusal) = ⊤
AreRows told = ⊥

abbrev pub AreCounts : Reply → Type 0
AreCounts (reply.Counts keys more) = ⊤
AreCounts (reply.Refused refusal) = ⊤
AreCounts told = ⊥

-- the reply is of the kind that a put, a delete or a question of an index, a view or keys asks for
abbrev pub IsReplyTo : Request → Reply → Type 0
IsReplyTo (Put key seen document) told = IsWritten told
IsReplyTo (Delete key seen) told = IsDoneReply told
IsReplyTo (Find field term after) told = ArePlaces told
IsReplyTo (Range field from to after) told = ArePlaces told
IsReplyTo (Row view term) told = IsRow told
IsReplyTo (Rows view after) told = AreRows told
IsReplyTo (Keys prefix after) told = AreCounts told
IsReplyTo (Conflicts after) told = AreCounts told
IsReplyTo request told = ⊤
