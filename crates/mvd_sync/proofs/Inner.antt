-- Nodes above the buckets.
use Rattle.std.proofs.Common.{◌≡◌, ℕ, ◌<◌, List, length, Some, None, ◌∙◌}
use Rattle.mvd_tree.specs.HashTree.{KeyDigests}
use Rattle.mvd_tree.specs.Page.{children_digests}
use Rattle.mvd_wire.specs.declared.reply.Digests.{Digests}
use Rattle.mvd_peer.specs.Windows.{IsNode}
use Rattle.mvd_sync.specs.declared.asking.Node.{Node}
use Rattle.mvd_sync.proofs.Readings.{IsInner}
use Rattle.mvd_sync.specs.Tellings.{IsNodeOf}

-- a faithful side does not leave the children out
pub never_without : (held : KeyDigests) (path : List ℕ) (d : Digests) → length path < 3 → IsNode held path d → d.children ≡ None → ⊥
never_without held path d short is none = let told : d.children ≡ Some (children_digests held path) = is.1 short in absurd (cc)

-- what was made of right digests is right
pub inner_right : (held : KeyDigests) (path : List ℕ) (d : Digests) (node : Node) → length path < 3 → IsNode held path d → IsNodeOf d node → IsInner held path node
inner_right held path d node short is made =
    let told : d.children ≡ Some (children_digests held path) = is.1 short in
    let read : d.children ≡ Some node.children = made.1 in
    record { own = made.0 ∙ is.0; children = cc }
