-- What a stream has still to give, of which some bytes came before they were asked for.
use Rattle.std.specs.Prelude.{ℕ, List, Option}
use Rattle.std.specs.Io.KnownBytes.{prepend_known}
use Rattle.mvd_client.specs.declared.both_ways.BothWays.{BothWays}

-- what came early, and then what the stream gives
abbrev pub still_to_read : {S : Type 0} → (S → Option (List ℕ)) → BothWays S → Option (List ℕ)
still_to_read remaining both = prepend_known both.early.items (remaining both.stream)
