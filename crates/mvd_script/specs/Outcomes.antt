-- The texts of what a step of a script came to (docs/FORMATS.md, Script), by the texts of replies.
use Rattle.std.specs.Prelude.{ℕ, List, [], ◌++◌, length, nat_lt, ◌-◌, if◌then◌else◌, Result, Ok, Err}
use Rattle.std.specs.List.{flat_map}
use Rattle.mvd_dots.specs.declared.refusals.Refusal.{Refusal}
use Rattle.mvd_print.specs.Text.{keys_text, left_text, message_text, more_left_text, none_such_text, short_text}
use Rattle.mvd_sync.specs.declared.report.Left.{Left}
use Rattle.mvd_sync.specs.declared.report.Report.{Report}
use Rattle.mvd_sync.specs.declared.report.SyncFault.TheVariants.{Local, Peer}
use Rattle.mvd_world.specs.declared.steps.Outcome.{Outcome}
use Rattle.mvd_world.specs.declared.steps.Outcome.TheVariants.{Replied, Sent, Met, Failed, NoSuch}

-- a key that a session left
abbrev pub key_left_text : Left → List ℕ
key_left_text left = left_text left.key left.refusal

-- how many more it left than it names, where there are more
abbrev pub more_text : ℕ → ℕ → List ℕ
more_text refused named = if nat_lt named refused then more_left_text (refused - named) else []

-- how many keys a session exchanged, and those that it left
abbrev pub report_text : Report → List ℕ
report_text report =
    keys_text report.keys
    ++ (flat_map key_left_text report.first_refused ++ more_text report.refused (length report.first_refused))

-- the text of an outcome; a refusal of either side is told in its place
abbrev pub outcome_text : Outcome → Result (List ℕ) Refusal
outcome_text (Replied reply) = short_text reply
outcome_text (Sent number) = Ok (message_text number)
outcome_text (Met report) = Ok (report_text report)
outcome_text (Failed (Local refusal)) = Err refusal
outcome_text (Failed (Peer refusal)) = Err refusal
outcome_text NoSuch = Ok none_such_text
