use Rattle.std.proofs.Common.{◌≡◌, ◌++◌, take, string_bytes}
use Rattle.std.specs.List.{flat_map}
use Rattle.mvd_http.specs.Json.{view_row_json, led}
use Rattle.mvd_http.proofs.json_lists.push_more_rows.Given as goal

abbrev pub invariant-loop-row : goal.invariant-loop-row
invariant-loop-row l = string_bytes l.out ≡ string_bytes l.initial.out ++ flat_map (led view_row_json) (take l.row-index l.rows)
