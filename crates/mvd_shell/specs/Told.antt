-- The text of a reply to what a line asks (docs/FORMATS.md, Script), by the texts of replies.
use Rattle.std.specs.Prelude.{ℕ, ◌++◌, Bool, true, false, List, Result, codes}
use Rattle.std.specs.Fmt.{decimal}
use Rattle.mvd_dots.specs.Refusal.{name_of, number_of}
use Rattle.mvd_dots.specs.declared.refusals.Refusal.{Refusal}
use Rattle.mvd_input.specs.declared.command.Ask.{Ask}
use Rattle.mvd_input.specs.declared.command.Ask.TheVariants.{Put, Delete, Get, Row, Node, Find, Range, Rows, Keys, Conflicts}
use Rattle.mvd_print.specs.Text.{reply_text}
use Rattle.mvd_wire.specs.declared.reply.Reply.{Reply}

-- whether places are told with their terms: where the terms of a range were asked for
abbrev pub tells_terms : Ask → Bool
tells_terms (Put _ _ _) = false
tells_terms (Delete _ _) = false
tells_terms (Get _) = false
tells_terms (Row _ _) = false
tells_terms (Node _) = false
tells_terms (Find _ _) = false
tells_terms (Range _ _) = true
tells_terms (Rows _) = false
tells_terms (Keys _) = false
tells_terms Conflicts = false

-- the number and the name of what a write's reply was lost to
abbrev pub unknown_text : Refusal → List ℕ
unknown_text refusal = codes "unknown " ++ decimal (number_of refusal) ++ codes " " ++ name_of refusal ++ codes "\n"

-- the text of a reply to what was asked
abbrev pub answer_text : Ask → Reply → Result (List ℕ) Refusal
answer_text ask reply = reply_text (tells_terms ask) reply
