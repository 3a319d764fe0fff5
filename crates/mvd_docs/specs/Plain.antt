-- Values that read back from their compact texts, and texts that begin with one (RFC 8259, and this repository's rising
-- names and whole numbers).
use Rattle.std.specs.Prelude.{◌≡◌, ◌≤◌, ◌<◌, ◌^◌, ℕ, pos, negsuc, List, ◌∷◌, ◌++◌, Bool, ⊤}
use Rattle.json.specs.Print.{quoted}
use Rattle.serde_json.specs.Data.{Num, unsigned, negative, float, Data, null, boolean, number, string, array, object}
use Rattle.serde_json.specs.Data.{Items, no_items, item, Members, no_members, member, depth, items_depth, members_depth}
use Rattle.serde_json.specs.Written.{number_text, compact_text, items_text, members_text}
use Rattle.mvd_docs.specs.Rising.{HasRisingNames, ItemsHaveRisingNames, MembersHaveRisingNames}

-- an i64, as it is read: one below 0 as `negative`, the others as `unsigned`
abbrev pub IsWhole : Num → Type 0
IsWhole (unsigned n) = n < 2 ^ 63
IsWhole (negative (pos n)) = ⊥
IsWhole (negative (negsuc n)) = n < 2 ^ 63
IsWhole (float x) = ⊥

-- every number in the value, at any depth
abbrev mutual
  pub AreWhole : Data → Type 0
  AreWhole null = ⊤
  AreWhole (boolean b) = ⊤
  AreWhole (number n) = IsWhole n
  AreWhole (string s) = ⊤
  AreWhole (array ds) = ItemsAreWhole ds
  AreWhole (object ms) = MembersAreWhole ms

  pub ItemsAreWhole : Items → Type 0
  ItemsAreWhole no_items = ⊤
  ItemsAreWhole (item d ds) = AreWhole d × ItemsAreWhole ds

  pub MembersAreWhole : Members → Type 0
  MembersAreWhole no_members = ⊤
  MembersAreWhole (member k d ms) = AreWhole d × MembersAreWhole ms

-- the text is a whole number's, and the rest
pub record BeginsWithNumber (text rest : List ℕ) : Type 0 where
  pub value : Num
  pub is_text : text ≡ number_text value ++ rest
  pub whole : IsWhole value

-- the text is a value's, which nests no deeper than `room`, and the rest
pub record BeginsWithValue (room : ℕ) (text rest : List ℕ) : Type 0 where
  pub value : Data
  pub is_text : text ≡ compact_text value ++ rest
  pub rising : HasRisingNames value
  pub whole : AreWhole value
  pub nests : depth value ≤ room

-- the same of a member, whose name this is
pub record BeginsWithMember (room : ℕ) (text name rest : List ℕ) : Type 0 where
  pub behind : List ℕ
  pub is_text : text ≡ quoted name ++ 58 ∷ behind
  pub begins : BeginsWithValue room behind rest

-- the same of an array's items, with its closing bracket; `later` where items stand before
pub record BeginsWithItems (room : ℕ) (later : Bool) (text rest : List ℕ) : Type 0 where
  pub items : Items
  pub is_text : text ≡ items_text later items ++ rest
  pub rising : ItemsHaveRisingNames items
  pub whole : ItemsAreWhole items
  pub nests : items_depth items ≤ room

-- the same of an object's members
pub record BeginsWithMembers (room : ℕ) (later : Bool) (text rest : List ℕ) : Type 0 where
  pub members : Members
  pub is_text : text ≡ members_text later members ++ rest
  pub rising : MembersHaveRisingNames members
  pub whole : MembersAreWhole members
  pub nests : members_depth members ≤ room
