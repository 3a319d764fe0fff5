use Rattle.std.proofs.Common.{◌≡◌, ◌++◌, take, string_bytes}
use Rattle.std.specs.List.{flat_map}
use Rattle.mvd_http.specs.Json.{key_digest_text, led}
use Rattle.mvd_http.proofs.json_lists.push_more_keys.Given as goal

abbrev pub invariant-loop-entry : goal.invariant-loop-entry
invariant-loop-entry l = string_bytes l.out ≡ string_bytes l.initial.out ++ flat_map (led key_digest_text) (take l.entry-index l.keys)
