-- What an inbox keeps, and what of it is true.
use Rattle.std.specs.Prelude.{◌≡◌, ◌≤◌, ◌+◌, ◌-◌, ◌^◌, List, [], All, Option, Some, None, Result, length, min}
use Rattle.mvd_dots.specs.declared.refusals.Refusal.{Refusal}
use Rattle.mvd_wire.specs.declared.reply.Reply.{Reply}
use Rattle.mvd_peer.specs.Windows.{AreWithin}
use Rattle.mvd_peer.proofs.Dropped.{bytes_of}
use Rattle.mvd_remote.specs.LinkWindows.{IsOfKind, states_in}
use Rattle.mvd_meet.specs.Inboxes.{AreFewOut, InboxValue, count_due}
use Rattle.mvd_meet.specs.Posts.{kind_of}
use Rattle.mvd_meet.specs.declared.asked.Due.{Due}
use Rattle.mvd_meet.specs.declared.inbox.Inbox.TheInside.{Inside}

abbrev pub inbox_of : Inside → InboxValue
inbox_of i = record { asked = i.due; came = i.replies.items; later = i.later.items }

-- the replies are of the kind that was asked for, or refusals; none is kept where nothing was asked
abbrev pub AreOfSort : Option Due → List (Result Reply Refusal) → Type 0
AreOfSort None replies = replies ≡ []
AreOfSort (Some due) replies = All (IsOfKind (kind_of due.sort)) replies

-- FEW REQUESTS ARE OUT, and none that goes later has a reply. The states in the replies are as many bytes, and not more
-- than are held at once
pub record IsKeptInbox (i : Inside) : Type 0 where
  pub of_sort : AreOfSort i.due i.replies.items
  pub due : length i.replies.items + length i.later.items ≤ count_due i.due
  pub few : AreFewOut (inbox_of i)
  pub within : AreWithin 0 (states_in i.replies.items)
  pub bytes : i.bytes ≡ min (0 + bytes_of (states_in i.replies.items)) (2 ^ 64 - 1)
