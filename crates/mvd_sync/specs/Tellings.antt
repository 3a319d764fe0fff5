-- What a side told of a window, as a session reads it.
use Rattle.std.specs.Prelude.{◌≡◌, ◌≤◌, ◌<◌, ◌^◌, Bool, List, [], length, Option, Some, None, Result, Ok, Err, Vec}
use Rattle.std.specs.declared.alloc.Global.{Global}
use Rattle.mvd_dots.specs.declared.refusals.Refusal.{Refusal}
use Rattle.mvd_dots.specs.declared.refusals.Refusal.TheVariants.{BadBody, TooManyRequests}
use Rattle.mvd_keys.specs.State.{State}
use Rattle.mvd_peer.specs.Windows.{ForEach}
use Rattle.mvd_peer.specs.declared.window.Told.{Told}
use Rattle.mvd_peer.specs.declared.window.Told.TheVariants.{Nodes, Pages, States, Pushes, Refused}
use Rattle.mvd_wire.specs.declared.reply.Digests.{Digests}
use Rattle.mvd_sync.specs.Answers.{IsPage, ListingValue, PageEntry}
use Rattle.mvd_sync.specs.Made.{EndsMaking, PassesFault}
use Rattle.mvd_sync.specs.declared.asking.Node.{Node}
use Rattle.mvd_sync.specs.declared.telling.Share.{Share}

-- ---- the answers of a kind

abbrev pub Page : Type 0
Page = Vec PageEntry Global × Bool

-- the answers as a list
abbrev pub as_list : {A : Type 0} → Result (Vec (Result A Refusal) Global) Refusal
    → Result (List (Result A Refusal)) Refusal
as_list (Ok answers) = Ok answers.items
as_list (Err refusal) = Err refusal

-- answers of the kind, or none where nothing was told; a refusal; and 33 for any other kind
abbrev pub nodes_told : Option Told → Result (List (Result Digests Refusal)) Refusal
nodes_told None = Ok []
nodes_told (Some (Nodes answers)) = Ok answers.items
nodes_told (Some (Refused refusal)) = Err refusal
nodes_told (Some told) = Err BadBody

abbrev pub pages_told : Option Told → Result (List (Result Page Refusal)) Refusal
pages_told None = Ok []
pages_told (Some (Pages answers)) = Ok answers.items
pages_told (Some (Refused refusal)) = Err refusal
pages_told (Some told) = Err BadBody

abbrev pub states_told : Option Told → Result (List (Result State Refusal)) Refusal
states_told None = Ok []
states_told (Some (States answers)) = Ok answers.items
states_told (Some (Refused refusal)) = Err refusal
states_told (Some told) = Err BadBody

abbrev pub pushes_told : Option Told → Result (List (Result (Unit {0}) Refusal)) Refusal
pushes_told None = Ok []
pushes_told (Some (Pushes answers)) = Ok answers.items
pushes_told (Some (Refused refusal)) = Err refusal
pushes_told (Some told) = Err BadBody

-- a side that was asked nothing tells nothing
abbrev pub unasked_told : Option Told → Result (Unit {0}) Refusal
unasked_told None = Ok tt
unasked_told (Some (Refused refusal)) = Err refusal
unasked_told (Some told) = Err BadBody

-- ---- what is made of an answer

abbrev pub IsNodeOf : Digests → Node → Type 0
IsNodeOf digests node = (node.own ≡ digests.own) × (digests.children ≡ Some node.children)

abbrev pub IsNoNode : Digests → Type 0
IsNoNode digests = digests.children ≡ None

abbrev pub IsListingOf : Page → ListingValue → Type 0
IsListingOf page listing =
    (listing ≡ (page.0.items, page.1)) × IsPage None listing.0 listing.1 × (length listing.0 < 2 ^ 64)

abbrev pub IsNoPage : Page → Type 0
IsNoPage page = IsPage None page.0.items page.1 → ⊥

abbrev pub IsStateOf : State → State → Type 0
IsStateOf told state = state ≡ told

abbrev pub never : {A : Type 0} → A → Type 0
never a = ⊥

-- ---- all answers

-- Why they were not read: the side told a refusal in place of them (`refused`); they are not as many as were asked
-- (`of_number`, 33); one of them is a refusal, or one that no faithful side gives (33), or memory was refused
-- (`of_answer`); or they were told, but fewer were asked than were wanted (`of_questions`, 36)
pub data IsUnread {A : Type 0} (IsNone : A → Type 0) (told : Result (List (Result A Refusal)) Refusal) (share : Share)
    (refusal : Refusal) : Type 0 where
  refused : told ≡ Err refusal → IsUnread IsNone told share refusal
  of_number : (answers : List (Result A Refusal)) → told ≡ Ok answers → (length answers ≡ share.asked → ⊥)
      → refusal ≡ BadBody → IsUnread IsNone told share refusal
  of_answer : (answers : List (Result A Refusal)) → told ≡ Ok answers → EndsMaking IsNone answers refusal
      → IsUnread IsNone told share refusal
  of_questions : (answers : List (Result A Refusal)) → told ≡ Ok answers → share.asked < share.wanted
      → refusal ≡ TooManyRequests → IsUnread IsNone told share refusal

-- all were read, as many as were asked, and as many were asked as were wanted
pub record AllRead {A B : Type 0} (IsOf : A → B → Type 0) (told : Result (List (Result A Refusal)) Refusal)
    (share : Share) (read : List B) : Type 0 where
  pub answers : List (Result A Refusal)
  pub is : told ≡ Ok answers
  pub counted : length answers ≡ share.asked
  pub whole : share.wanted ≤ share.asked
  pub each : ForEach (PassesFault IsOf) answers read

-- THE ANSWERS OF A WINDOW, as they were read
abbrev pub IsRead : {A B : Type 0} → (A → B → Type 0) → (A → Type 0) → Result (List (Result A Refusal)) Refusal → Share
    → Result (Vec B Global) Refusal → Type 0
IsRead IsOf IsNone told share (Ok read) = AllRead IsOf told share read.items
IsRead IsOf IsNone told share (Err refusal) = IsUnread IsNone told share refusal
