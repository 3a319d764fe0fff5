-- What a post keeps, and what of it is true.
use Rattle.std.specs.Prelude.{◌≡◌, ◌++◌, ◌+◌, ◌-◌, ◌^◌, ℕ, List, [], All, Option, Some, None, Result}
use Rattle.std.specs.Prelude.{flat_map, length, min, take}
use Rattle.std.specs.declared.alloc.Global.{Global}
use Rattle.bytes.specs.declared.unique.BytesMut.{BytesMut}
use Rattle.mvd_dots.specs.declared.refusals.Refusal.{Refusal}
use Rattle.mvd_wire.specs.declared.reply.Reply.{Reply}
use Rattle.mvd_peer.specs.Windows.{AreWithin}
use Rattle.mvd_peer.proofs.Dropped.{bytes_of}
use Rattle.mvd_remote.specs.LinkWindows.{IsOfKind, TakeTurns, TurnBreaks, states_in}
use Rattle.mvd_meet.specs.Posts.{PostValue, kind_of}
use Rattle.mvd_meet.specs.declared.asked.Asked.{Asked}
use Rattle.mvd_meet.specs.declared.post.Post.TheInside.{Inside}

-- the frames that were taken, each at the front of what had come
abbrev pub taken_in : List (BytesMut Global × ℕ) → List ℕ
taken_in frames = flat_map (λ r. take r.1 r.0.items) frames

abbrev pub post_of : Inside → PostValue
post_of p = record {
  leaving = p.leaving.items;
  came = taken_in p.taken.items ++ p.came.items;
  waits = p.came.items;
  asked = p.asked;
  answered = length p.replies.items;
  refused = p.refused;
}

-- the first requests of a window were answered by the frames that were taken, whatever comes behind these
pub record KeepsTurns (kind : ℕ) (nones : List (Option Refusal)) (replies : List (Result Reply Refusal)) (bytes : ℕ)
    (taken : List ℕ) : Type 0 where
  pub read : (more : List ℕ) → TakeTurns kind (take (length replies) nones) replies (Some (taken ++ more)) (Some more)
  pub of_kind : All (IsOfKind kind) replies
  -- the states in them are as many bytes, and not more than are held at once
  pub within : AreWithin 0 (states_in replies) × (bytes ≡ min (0 + bytes_of (states_in replies)) (2 ^ 64 - 1))

-- the frames that were taken broke the link
abbrev pub BrokeTurns : ℕ → List (Option Refusal) → List ℕ → Refusal → Type 0
BrokeTurns kind nones taken refusal =
    (more : List ℕ) → TurnBreaks kind nones (Some (taken ++ more)) (Some more) refusal

abbrev pub KeepsAsked : Option Asked → Option Refusal → List (Result Reply Refusal) → ℕ → List ℕ → Type 0
KeepsAsked None refused replies bytes taken = taken ≡ []
KeepsAsked (Some asked) None replies bytes taken =
    KeepsTurns (kind_of asked.sort) asked.frames.1 replies bytes taken
KeepsAsked (Some asked) (Some refusal) replies bytes taken =
    BrokeTurns (kind_of asked.sort) asked.frames.1 taken refusal

abbrev pub IsKeptPost : Inside → Type 0
IsKeptPost p = KeepsAsked p.asked p.refused p.replies.items p.bytes (taken_in p.taken.items)
