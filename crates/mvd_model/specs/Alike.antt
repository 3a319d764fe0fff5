-- Which questions two sites answer alike, whatever else they are set up with.
use Rattle.std.specs.Prelude.{◌≡◌, true}
use Rattle.mvd_rows.specs.Answers.{view_named}
use Rattle.mvd_rows.specs.Defs.{Definitions, has_index}
use Rattle.mvd_wire.specs.declared.request.Request.{Request}
use Rattle.mvd_wire.specs.declared.request.Request.TheVariants.{Find, Range, Row, Rows}
use Rattle.mvd_kept.specs.Answer.{is_question}

-- A question of a field that is an index of both or of neither; of a view that both define alike, or neither has; or
-- one of which no definition speaks
abbrev pub SpeakAlike : Definitions → Definitions → Request → Type 0
SpeakAlike d e (Find field term after) = has_index d.indexes field ≡ has_index e.indexes field
SpeakAlike d e (Range field from to after) = has_index d.indexes field ≡ has_index e.indexes field
SpeakAlike d e (Row view term) = view_named d.views view ≡ view_named e.views view
SpeakAlike d e (Rows view after) = view_named d.views view ≡ view_named e.views view
SpeakAlike d e request = is_question request ≡ true
