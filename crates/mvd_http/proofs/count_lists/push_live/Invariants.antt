use Rattle.std.proofs.Common.{◌≡◌, ◌++◌, take, string_bytes, length, ◌==◌}
use Rattle.mvd_http.specs.Json.{commaed, key_count_text, live_of}
use Rattle.mvd_http.proofs.count_lists.push_live.Given as goal

abbrev pub invariant-loop-entry : goal.invariant-loop-entry
invariant-loop-entry l =
    (string_bytes l.out ≡ string_bytes l.initial.out ++ commaed key_count_text (live_of (take l.entry-index l.keys)))
    × (l.is_first ≡ (length (live_of (take l.entry-index l.keys)) == 0))
