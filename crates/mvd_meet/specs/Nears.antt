-- A side that is asked at hand.
use Rattle.std.specs.Prelude.{◌≡◌, ◌≢◌, ◌⊎◌, ◌++◌, ◌+◌, ◌-◌, ◌^◌, ℕ, Bool, List, [], Option, Some, None}
use Rattle.std.specs.Prelude.{IsSomeAnd, Result, min}
use Rattle.mvd_dots.specs.declared.refusals.Refusal.{Refusal}
use Rattle.mvd_dots.specs.declared.refusals.Refusal.TheVariants.{BadBody, Memory}
use Rattle.mvd_wire.specs.declared.request.Request.{Request}
use Rattle.mvd_wire.specs.declared.reply.Reply.{Reply}
use Rattle.mvd_remote.specs.Remotes.{requests_of}
use Rattle.mvd_meet.specs.Callers.{sort_of}
use Rattle.mvd_meet.specs.Inboxes.{AreFewOut, CannotHear, GoesNext, HearsReply, TellsDue, has_replies}
use Rattle.mvd_meet.specs.declared.asked.Due.{Due}
use Rattle.mvd_meet.specs.declared.near.Near.{Near}
use Rattle.mvd_peer.specs.Asking.{count_in}
use Rattle.mvd_peer.specs.declared.window.Window.{Window}
use Rattle.mvd_peer.specs.declared.window.Told.{Told}

-- what is to be handed on to it now; all that is to be handed on; what it was asked and has not told; and what came of
-- that
abbrev pub next_at : Near → List Request
next_at near = near.leaving.items

abbrev pub requests_at : Near → List Request
requests_at near = near.leaving.items ++ near.inbox.later

abbrev pub asked_of_near : Near → Option Due
asked_of_near near = near.inbox.asked

abbrev pub replies_at : Near → List (Result Reply Refusal)
replies_at near = near.inbox.came

-- as many questions were asked
abbrev pub asked_near : Near → ℕ
asked_near near = near.questions

-- ALL CAME THAT IS DUE
abbrev pub near_has_all : Near → Bool
near_has_all near = has_replies near.inbox

-- ---- what is asked

-- a window is due
abbrev pub due_in_window : Window → Due
due_in_window window = record { sort = sort_of window; count = count_in window }

-- THE REQUESTS OF A WINDOW are to be handed on, and their replies are due
pub record NearAsks (window : Window) (old new : Near) : Type 0 where
  pub leaving : requests_at new ≡ requests_of window
  pub came : replies_at new ≡ []
  pub asked : asked_of_near new ≡ Some (due_in_window window)
  pub questions : asked_near new ≡ min (asked_near old + count_in window) (2 ^ 64 - 1)

-- WHY IT IS NOT ASKED: memory was refused, or what was asked before was not handed on, or not told (33)
abbrev pub CannotAskNear : Near → Refusal → Type 0
CannotAskNear near refusal = (refusal ≡ Memory)
    ⊎ ((refusal ≡ BadBody) × ((asked_of_near near ≢ None) ⊎ (next_at near ≢ [])))

-- ---- what is handed on

-- AT MOST 64 REQUESTS ARE OUT: handed on, or to be now, and without a reply; but all pushes of a window, which weigh
abbrev pub FewAreOut : Near → Type 0
FewAreOut near = AreFewOut near.inbox

-- THE NEXT REQUESTS are to be handed on now, as many as may be out, unless some are: each once, and in order
pub record NearGoesOn (old new : Near) : Type 0 where
  pub goes : GoesNext old.inbox (next_at old) new.inbox (next_at new)
  pub same : new ≡ record old { leaving = new.leaving; inbox = new.inbox }

-- ---- what comes, and what is told

-- a reply came; all else stays
pub record NearHears (reply : Reply) (old new : Near) : Type 0 where
  pub hears : HearsReply reply old.inbox new.inbox
  pub same : new ≡ record old { inbox = new.inbox }

abbrev pub CannotHearNear : Reply → Near → Refusal → Type 0
CannotHearNear reply near refusal = CannotHear reply near.inbox refusal

-- WHAT CAME OF A WINDOW IS TOLD as an answer to each of its questions, or as the refusal in place of them
pub record NearTellsOf (due : Due) (old new : Near) (told : Told) : Type 0 where
  pub tells : TellsDue due old.inbox new.inbox told
  pub same : new ≡ record old { inbox = new.inbox }

-- so of what was asked, if something was
abbrev pub NearTells : Option Due → Near → Near → Option Told → Type 0
NearTells None old new told = (told ≡ None) × (new ≡ old)
NearTells (Some due) old new told = IsSomeAnd told (NearTellsOf due old new)
