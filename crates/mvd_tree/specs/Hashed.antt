-- What equal digests mean where SHA-256 tells the texts of two trees apart: the ground of anti-entropy by hash trees
-- (DeCandia et al., Dynamo, 2007, section 4.7).
use Rattle.std.specs.Prelude.{◌≡◌, ◌≢◌, ◌⊎◌, ℕ, ◌+◌, ◌≤◌, List, [], length, IsTrue, false, Option, Some}
use Rattle.std.specs.FinMap.{FinMap, get, len}
use Rattle.mvd_digest.specs.Sha256.{sha256}
use Rattle.mvd_keys.specs.Key.{key_cmp}
use Rattle.mvd_tree.specs.HashTree.{KeyDigests, is_under, under, zero_digest, text_above, node_digest}
use Rattle.mvd_tree.specs.States.{digests_of}
use Rattle.mvd_tree.specs.Change.{changed}

-- the text of a node under which a key is held
pub record IsNodeText (held : KeyDigests) (text : List ℕ) : Type 0 where
  pub path : List ℕ
  pub levels : ℕ
  pub depth : length path + levels ≡ 3
  pub holds : len (under path held) ≢ 0
  pub is : text ≡ text_above levels held path

-- each key has a digest of 32 bytes
abbrev pub AreDigests : KeyDigests → Type 0
AreDigests held = (key digest : List ℕ) → get held key ≡ Some digest → length digest ≡ 32

-- no two keys of the two maps share a digest, no two different texts of their nodes have one SHA-256, and none has
-- zeros
pub record AreToldApart (a b : KeyDigests) : Type 0 where
  pub left : AreDigests a
  pub right : AreDigests b
  pub keys : (k l digest : List ℕ) → get a k ≡ Some digest → get b l ≡ Some digest → k ≡ l
  pub distinct : (s t : List ℕ) → IsNodeText a s → IsNodeText b t → sha256 s ≡ sha256 t → s ≡ t
  pub left_nonzero : (s : List ℕ) → IsNodeText a s → sha256 s ≢ zero_digest
  pub right_nonzero : (s : List ℕ) → IsNodeText b s → sha256 s ≢ zero_digest

-- the two maps hold the same keys, with the same things, under a path
abbrev pub SameUnder : {X : Type 0} → List ℕ → FinMap key_cmp X → FinMap key_cmp X → Type 0
SameUnder path a b = (key : List ℕ) → IsTrue (is_under path key) → get a key ≡ get b key

-- nodes of one path with one digest hold the same keys with the same digests
abbrev pub EqualNodesHoldEqualKeys : Type 0
EqualNodesHoldEqualKeys =
    (a b : KeyDigests) → AreToldApart a b
    → (path : List ℕ) → length path ≤ 3
    → node_digest a path ≡ node_digest b path → SameUnder path a b

-- a node's digest depends on the keys under it alone
abbrev pub NodesDependOnKeysUnder : Type 0
NodesDependOnKeysUnder =
    (a b : KeyDigests) (path : List ℕ) → SameUnder path a b → node_digest a path ≡ node_digest b path

-- a change of one key leaves the digest of each node whose path does not begin the key's path
abbrev pub ChangeLeavesOtherNodes : Type 0
ChangeLeavesOtherNodes =
    (held : KeyDigests) (key : List ℕ) (digest : Option (List ℕ)) (path : List ℕ)
    → is_under path key ≡ false → node_digest (changed held key digest) path ≡ node_digest held path

-- the text of a key that is held in a state
pub record IsKeyText {S : Type 0} (spelled : List ℕ → S → List ℕ) (states : FinMap key_cmp S)
    (text : List ℕ) : Type 0 where
  pub key : List ℕ
  pub state : S
  pub held : get states key ≡ Some state
  pub is : text ≡ spelled key state

-- a text that is hashed for the tree of one of the two maps
abbrev pub IsHashed : {S : Type 0} → (List ℕ → S → List ℕ) → FinMap key_cmp S → FinMap key_cmp S → List ℕ → Type 0
IsHashed spelled a b text =
    (IsKeyText spelled a text ⊎ IsNodeText (digests_of spelled a) text)
    ⊎ (IsKeyText spelled b text ⊎ IsNodeText (digests_of spelled b) text)

-- the hash premise: no two different texts hashed for the two maps have one SHA-256, and none has zeros
pub record HashesTellApart {S : Type 0} (spelled : List ℕ → S → List ℕ) (a b : FinMap key_cmp S) : Type 0 where
  pub distinct : (s t : List ℕ) → IsHashed spelled a b s → IsHashed spelled a b t → sha256 s ≡ sha256 t → s ≡ t
  pub nonzero : (s : List ℕ) → IsHashed spelled a b s → sha256 s ≢ zero_digest

-- two keys that are held in the two maps are spelled alike only where they are one key in one state
abbrev pub HaveOneText : {S : Type 0} → (List ℕ → S → List ℕ) → FinMap key_cmp S → FinMap key_cmp S → Type 0
HaveOneText {S} spelled a b = (k l : List ℕ) (s t : S) → get a k ≡ Some s → get b l ≡ Some t → spelled k s ≡ spelled l t
    → (k ≡ l) × (s ≡ t)

-- nodes of one path with one digest hold the same keys in the same states
abbrev pub EqualNodesHoldEqualStates : {S : Type 0} → (List ℕ → S → List ℕ) → Type 0
EqualNodesHoldEqualStates {S} spelled =
    (a b : FinMap key_cmp S) → HashesTellApart spelled a b → HaveOneText spelled a b
    → (path : List ℕ) → length path ≤ 3
    → node_digest (digests_of spelled a) path ≡ node_digest (digests_of spelled b) path → SameUnder path a b

-- two maps whose roots have one digest are one map
abbrev pub EqualRootsAreOfEqualMaps : {S : Type 0} → (List ℕ → S → List ℕ) → Type 0
EqualRootsAreOfEqualMaps {S} spelled =
    (a b : FinMap key_cmp S) → HashesTellApart spelled a b → HaveOneText spelled a b
    → node_digest (digests_of spelled a) [] ≡ node_digest (digests_of spelled b) [] → a ≡ b
