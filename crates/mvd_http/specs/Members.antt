-- The members of a JSON object (RFC 8259, 4).
use Rattle.std.specs.Prelude.{ℕ, ◌+◌, List, Option, Some, None, option_map}
use Rattle.serde_json.specs.Data.{Data, Members, no_members, member}
use Rattle.serde_json.specs.Find.{as_str}

abbrev pub member_count : Members → ℕ
member_count no_members = 0
member_count (member name d ms) = member_count ms + 1

abbrev pub member_count_of : Option Members → ℕ
member_count_of None = 0
member_count_of (Some ms) = member_count ms

abbrev pub one_if : {A : Type 0} → Option A → ℕ
one_if None = 0
one_if (Some value) = 1

-- nothing where there is no such member, and its text where it is one
abbrev pub text_if : Option Data → Option (Option (List ℕ))
text_if None = Some None
text_if (Some d) = option_map Some (as_str d)
