-- What is asked by mail, and what came of it.
use Rattle.std.specs.Prelude.{◌≡◌, ◌≢◌, ◌⊎◌, ◌++◌, ◌-◌, ◌<◌, ℕ, Bool, true, false, List, [], ◌∷◌, Option, Some, None}
use Rattle.std.specs.Prelude.{IsSomeAnd, Result, Ok, Err, length}
use Rattle.std.specs.declared.alloc.Global.{Global}
use Rattle.std.specs.declared.vec.Vec.{Vec}
use Rattle.mvd_dots.specs.declared.refusals.Refusal.{Refusal}
use Rattle.mvd_dots.specs.declared.refusals.Refusal.TheVariants.{BadBody, Memory, Truncated}
use Rattle.mvd_wire.specs.Frames.{FrameValue, frame_at}
use Rattle.mvd_wire.specs.declared.reply.Reply.{Reply}
use Rattle.mvd_remote.specs.LinkWindows.{Collects}
use Rattle.mvd_remote.specs.Links.{Link}
use Rattle.mvd_remote.specs.Lines.{as_digests, as_done, as_page, as_state}
use Rattle.mvd_meet.specs.declared.asked.Asked.{Asked}
use Rattle.mvd_meet.specs.declared.asked.Sort.{Sort}
use Rattle.mvd_meet.specs.declared.asked.Sort.TheVariants as sort
use Rattle.mvd_peer.specs.declared.window.Told.{Told}
use Rattle.mvd_peer.specs.declared.window.Told.TheVariants as told

pub record PostValue : Type 0 where
  -- the bytes that are to leave
  pub leaving : List ℕ
  -- those that came and were not told, and the last of them, which were not taken
  pub came : List ℕ
  pub waits : List ℕ
  -- the window that was asked and was not told, and how many of its requests have their replies
  pub asked : Option Asked
  pub answered : ℕ
  -- why nothing more is asked, once that is refused
  pub refused : Option Refusal

-- the kind byte of the replies to a window
abbrev pub kind_of : Sort → ℕ
kind_of sort.Nodes = 0xA7
kind_of sort.Pages = 0xA8
kind_of sort.States = 0xA1
kind_of sort.Pushes = 0xA3

abbrev pub is_sort_of_pushes : Sort → Bool
is_sort_of_pushes sort.Pushes = true
is_sort_of_pushes other = false

-- what it was asked may change it: pushes, or what Done answers likewise
abbrev pub asks_pushes : Option Asked → Bool
asks_pushes None = false
asks_pushes (Some asked) = is_sort_of_pushes asked.sort

-- ---- whether all came

-- where what comes next is no frame, nothing more is waited for
abbrev pub goes_on : (List ℕ → Bool) → Result (Option FrameValue × List ℕ) Refusal → Bool
goes_on later (Ok (Some frame, rest)) = later rest
goes_on later (Ok (None, rest)) = false
goes_on later (Err Truncated) = false
goes_on later (Err refusal) = true

-- a whole frame came for each request that has one, or else what is no frame
abbrev pub has_turns : List (Option Refusal) → List ℕ → Bool
has_turns [] bytes = true
has_turns (None ∷ nones) bytes = goes_on (has_turns nones) (frame_at bytes)
has_turns (Some refusal ∷ nones) bytes = has_turns nones bytes

-- behind the reply to a request these bytes are left, for whatever requests are later
abbrev pub LeavesTurn : Option Refusal → List ℕ → List ℕ → Type 0
LeavesTurn none bytes left = (later : List (Option Refusal)) → has_turns (none ∷ later) bytes ≡ has_turns later left

-- the frame of the reply is not there, whatever requests are later
abbrev pub EndsTurns : Option Refusal → List ℕ → Bool → Type 0
EndsTurns none bytes all = (later : List (Option Refusal)) → has_turns (none ∷ later) bytes ≡ all

abbrev pub has_asked : Option Asked → Option Refusal → List ℕ → Bool
has_asked None refused came = true
has_asked (Some asked) (Some refusal) came = true
has_asked (Some asked) None came = has_turns asked.frames.1 came

-- all came that is due, or what is no reply to it
abbrev pub has_come : PostValue → Bool
has_come post = has_asked post.asked post.refused post.came

-- ---- what is taken

-- as many requests have no reply
abbrev pub due_in : Option Asked → ℕ → ℕ
due_in None answered = 0
due_in (Some asked) answered = length asked.frames.1 - answered

abbrev pub due_of : PostValue → ℕ
due_of post = due_in post.asked post.answered

-- no whole frame waits
abbrev pub NoneWhole : List ℕ → Type 0
NoneWhole waits = (frame : FrameValue) (rest : List ℕ) → frame_at waits ≢ Ok (Some frame, rest)

abbrev pub TookIf : Option Asked → Option Refusal → ℕ → List ℕ → Type 0
TookIf (Some asked) None answered waits = answered < length asked.frames.1 → NoneWhole waits
TookIf asked refused answered waits = Unit {0}

-- THE REPLIES THAT CAME ARE TAKEN, as far as they are whole and are due, unless one is refused
abbrev pub TookAll : PostValue → Type 0
TookAll post = TookIf post.asked post.refused post.answered post.waits

-- ---- what is asked

-- the frames of a window are to leave behind the others, and its replies are due
pub record PostSends (window : Asked) (old new : PostValue) : Type 0 where
  pub leaving : new.leaving ≡ old.leaving ++ window.frames.0
  pub came : new.came ≡ old.came
  pub asked : new.asked ≡ Some window

-- why nothing is sent: memory was refused; what was asked before was not told, or more came (33); or nothing more is
-- asked, since that was refused so
abbrev pub CannotSend : PostValue → Refusal → Type 0
CannotSend post refusal = (refusal ≡ Memory)
    ⊎ (((refusal ≡ BadBody) × ((post.asked ≢ None) ⊎ (post.came ≢ []))) ⊎ (post.refused ≡ Some refusal))

-- ---- what is told

abbrev pub link_by : PostValue → Link
link_by post = record { input = Some post.came; output = Some post.leaving; refused = post.refused }

abbrev pub AnswersOf : Type 0 → Type 0
AnswersOf A = Result (Vec (Result A Refusal) Global) Refusal

-- the answers to a window of one kind, or the refusal in place of them
abbrev pub told_as : {A : Type 0} → (Vec (Result A Refusal) Global → Told) → AnswersOf A → Told
told_as as_told (Ok answers) = as_told answers
told_as as_told (Err refusal) = told.Refused refusal

-- what came is told as answers of this kind
abbrev pub CallerTellsAs : {A : Type 0} → (Vec (Result A Refusal) Global → Told) → (A → Reply) → ℕ
    → List (Option Refusal)
    → Link → Link → Told → Type 0
CallerTellsAs {A} as_told as_reply kind nones old new told =
    (answers : AnswersOf A) × Collects as_reply kind nones old new answers × (told ≡ told_as as_told answers)

abbrev pub TellsBy : Sort → List (Option Refusal) → Link → Link → Told → Type 0
TellsBy sort.Nodes = CallerTellsAs (λ answers. told.Nodes answers) as_digests 0xA7
TellsBy sort.Pages = CallerTellsAs (λ answers. told.Pages answers) as_page 0xA8
TellsBy sort.States = CallerTellsAs (λ answers. told.States answers) as_state 0xA1
TellsBy sort.Pushes = CallerTellsAs (λ answers. told.Pushes answers) as_done 0xA3

-- what came of a window is told
pub record PostTellsOf (window : Asked) (old new : PostValue) (told : Told) : Type 0 where
  pub tells : TellsBy window.sort window.frames.1 (link_by old) (link_by new) told
  pub asked : new.asked ≡ None

-- so of what was asked, if something was
abbrev pub PostTells : Option Asked → PostValue → PostValue → Option Told → Type 0
PostTells None old new told = (told ≡ None) × (new ≡ old)
PostTells (Some asked) old new told = IsSomeAnd told (PostTellsOf asked old new)
