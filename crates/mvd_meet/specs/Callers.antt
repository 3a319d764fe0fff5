-- A side that is asked by mail.
use Rattle.std.specs.Prelude.{◌≡◌, ◌++◌, ◌+◌, ◌-◌, ◌^◌, ◌||◌, ℕ, Bool, List, [], ◌∷◌, Option, Some, None}
use Rattle.std.specs.Prelude.{IsSomeAnd, Result, Err, length, min}
use Rattle.mvd_dots.specs.declared.refusals.Refusal.{Refusal}
use Rattle.mvd_dots.specs.declared.refusals.Refusal.TheVariants.{BadBody}
use Rattle.mvd_wire.specs.declared.request.Request.{Request}
use Rattle.mvd_remote.specs.LinkWindows.{frames_of}
use Rattle.mvd_remote.specs.Links.{Link}
use Rattle.mvd_remote.specs.Remotes.{requests_of}
use Rattle.mvd_meet.specs.Posts.{CannotSend, TellsBy, has_come, link_by}
use Rattle.mvd_meet.specs.declared.asked.Asked.{Asked}
use Rattle.mvd_meet.specs.declared.asked.Sort.{Sort}
use Rattle.mvd_meet.specs.declared.asked.Sort.TheVariants as sort
use Rattle.mvd_meet.specs.declared.caller.Caller.{Caller}
use Rattle.mvd_peer.specs.declared.window.Window.{Window}
use Rattle.mvd_peer.specs.declared.window.Window.TheVariants as wanted
use Rattle.mvd_peer.specs.declared.window.Told.{Told}
use Rattle.mvd_peer.specs.declared.window.Told.TheVariants as told

-- the bytes that are to leave to it, and those that came of it and were not told
abbrev pub leaving_at : Caller → List ℕ
leaving_at caller = caller.post.leaving

abbrev pub came_at : Caller → List ℕ
came_at caller = caller.post.came

-- what it was asked and has not told
abbrev pub asked_of_caller : Caller → Option Asked
asked_of_caller caller = caller.post.asked

-- nothing more comes of it
abbrev pub has_ended : Caller → Bool
has_ended caller = caller.ended

-- as many questions were asked
abbrev pub questions_at : Caller → ℕ
questions_at caller = caller.questions

-- ALL CAME THAT IS DUE, or nothing more comes
abbrev pub has_all : Caller → Bool
has_all caller = caller.ended || has_come caller.post

-- ---- what is asked

abbrev pub sort_of : Window → Sort
sort_of (wanted.Nodes paths) = sort.Nodes
sort_of (wanted.Pages asked) = sort.Pages
sort_of (wanted.Gets keys) = sort.States
sort_of (wanted.Pushes pairs) = sort.Pushes

-- the frames of a window
abbrev pub asked_in_window : Window → Asked
asked_in_window window = record { sort = sort_of window; frames = frames_of (requests_of window) }

-- frames are to leave behind the others, and what they ask for is due
pub record SendsTo (window : Asked) (old new : Caller) : Type 0 where
  pub leaving : leaving_at new ≡ leaving_at old ++ window.frames.0
  pub came : came_at new ≡ came_at old
  pub asked : asked_of_caller new ≡ Some window
  pub ended : new.ended ≡ old.ended
  pub questions : new.questions ≡ min (old.questions + length window.frames.1) (2 ^ 64 - 1)

-- THE FRAMES OF A WINDOW are to leave, and its answers are due
abbrev pub CallerAsks : Window → Caller → Caller → Type 0
CallerAsks window old new = SendsTo (asked_in_window window) old new

-- the frame of a request that Done answers
abbrev pub CallerSays : Request → Caller → Caller → Type 0
CallerSays request old new = SendsTo (record { sort = sort.Pushes; frames = frames_of (request ∷ []) }) old new

-- WHY IT IS NOT ASKED
abbrev pub CannotAsk : Caller → Refusal → Type 0
CannotAsk caller refusal = CannotSend caller.post refusal

-- ---- what is told

abbrev pub link_at : Caller → Link
link_at caller = link_by caller.post

-- WHAT CAME OF A WINDOW IS TOLD as an answer to each of its questions in its turn, or as the refusal in place of them
pub record TellsOf (window : Asked) (old new : Caller) (told : Told) : Type 0 where
  pub tells : TellsBy window.sort window.frames.1 (link_at old) (link_at new) told
  pub asked : asked_of_caller new ≡ None
  pub ended : new.ended ≡ old.ended
  pub questions : new.questions ≡ old.questions

-- so of what was asked, if something was
abbrev pub CallerTells : Option Asked → Caller → Caller → Option Told → Type 0
CallerTells None old new told = (told ≡ None) × (new ≡ old)
CallerTells (Some asked) old new told = IsSomeAnd told (TellsOf asked old new)

-- what is told of a request that Done answers
abbrev pub only_of : List (Result (Unit {0}) Refusal) → Result (Unit {0}) Refusal
only_of (answer ∷ []) = answer
only_of answers = Err BadBody

abbrev pub outcome_told : Option Told → Result (Unit {0}) Refusal
outcome_told (Some (told.Pushes answers)) = only_of answers.items
outcome_told (Some (told.Refused refusal)) = Err refusal
outcome_told other = Err BadBody

-- WHAT CAME OF IT is this
abbrev pub CallerHears : Caller → Caller → Result (Unit {0}) Refusal → Type 0
CallerHears old new result =
    (told : Option Told) × CallerTells (asked_of_caller old) old new told × (result ≡ outcome_told told)
