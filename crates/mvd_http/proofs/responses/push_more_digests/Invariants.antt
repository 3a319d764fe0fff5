use Rattle.std.proofs.Common.{◌≡◌, ◌++◌, take, string_bytes}
use Rattle.std.specs.List.{flat_map}
use Rattle.mvd_http.specs.Json.{digest_json, led}
use Rattle.mvd_http.proofs.responses.push_more_digests.Given as goal

abbrev pub invariant-loop-digest : goal.invariant-loop-digest
invariant-loop-digest l = string_bytes l.out ≡ string_bytes l.initial.out ++ flat_map (led digest_json) (take l.digest-index l.digests)
