-- How many keys are exchanged at once.
use Rattle.std.specs.Prelude.{◌-◌, ◌*◌, ◌/◌, ◌^◌, ℕ, List, length, max, min, sum_by}
use Rattle.mvd_keys.specs.State.{State}
use Rattle.mvd_wire.specs.Codecs.{spell_state}

-- how many bytes these states have, spelled
abbrev pub weight : List State → ℕ
weight states = min (sum_by (λ s. length (spell_state s)) states) (2 ^ 64 - 1)

-- AFTER SO MANY KEYS, of which a side told states of so many bytes: as many as have 1,048,576 bytes if each has as many
-- as those on the average; at least one, at most eight times as many, and no more than a limit: 1,000, or as many as
-- were met where a side did not hold the states of all
abbrev pub next_most : (limit keys bytes : ℕ) → ℕ
next_most limit keys bytes = max 1 (min (1048576 / max 1 (bytes / max 1 keys)) (min limit (8 * keys)))
