-- Of keys and states that may be held, each has a text of its own.
use Rattle.std.proofs.Common.{◌≡◌, ℕ, ◌≤◌, List, length, arith}
use Rattle.mvd_tree.specs.Hashed.{HashesTellApart, HaveOneText, SameUnder}
use Rattle.mvd_tree.specs.HashTree.{node_digest}
use Rattle.mvd_tree.proofs.Apart.{same_states_under}
use Rattle.mvd_wire.proofs.Forms.{fits_of}
use Rattle.mvd_wire.proofs.StateTexts.{one_text_of}
use Rattle.mvd_kept.specs.Answer.{digests, spelled}
use Rattle.mvd_kept.specs.Held.{AreHeld, States}

-- two keys that may be held are spelled alike only where they are one key in one state
pub one_text : (a b : States) → AreHeld a → AreHeld b → HaveOneText spelled a b
unfolding spelled
one_text a b left right k l s t here there same =
    one_text_of k l s t (left.key k s here) (right.key l t there) (fits_of s (left.spelled k s here)) (fits_of t (right.spelled l t there)) same

-- nodes of one path with one digest hold the same keys in the same states
pub equal_nodes : (a b : States) → AreHeld a → AreHeld b → HashesTellApart spelled a b → (path : List ℕ) → length path ≤ 3 →
    node_digest (digests a) path ≡ node_digest (digests b) path → SameUnder path a b
equal_nodes a b left right apart path short e = same_states_under spelled a b apart (one_text a b left right) _ path (omega (arith, short)) e
