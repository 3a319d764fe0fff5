-- A window that is asked at hand: its requests, and the replies to them.
use Rattle.std.specs.Prelude.{◌≡◌, ◌≢◌, ◌⊎◌, ◌≤◌, ◌++◌, ◌-◌, ℕ, nat_le, Bool, true, false, List, [], ◌∷◌, Option}
use Rattle.std.specs.Prelude.{Some, None, Contains, IsSomeAnd, Result, Ok, Err, length, take}
use Rattle.mvd_dots.specs.declared.refusals.Refusal.{Refusal}
use Rattle.mvd_dots.specs.declared.refusals.Refusal.TheVariants.{BadBody, BadKind, Broken, Memory, ReadFailed}
use Rattle.mvd_wire.specs.Replies.{reply_kind}
use Rattle.mvd_wire.specs.declared.reply.Reply.{Reply}
use Rattle.mvd_wire.specs.declared.reply.Reply.TheVariants.{Refused}
use Rattle.mvd_wire.specs.declared.request.Request.{Request}
use Rattle.mvd_remote.specs.Lines.{as_digests, as_done, as_page, as_state}
use Rattle.mvd_remote.specs.LinkWindows.{IsKeptOf, IsToldBy}
use Rattle.mvd_meet.specs.Posts.{AnswersOf, is_sort_of_pushes, kind_of, told_as}
use Rattle.mvd_meet.specs.declared.asked.Due.{Due}
use Rattle.mvd_meet.specs.declared.asked.Sort.{Sort}
use Rattle.mvd_meet.specs.declared.asked.Sort.TheVariants as sort
use Rattle.mvd_peer.specs.Windows.{ForEach}
use Rattle.mvd_peer.specs.declared.window.Told.{Told}
use Rattle.mvd_peer.specs.declared.window.Told.TheVariants as told
use Rattle.std.specs.declared.alloc.Global.{Global}
use Rattle.std.specs.declared.vec.Vec.{Vec}

-- the window that was asked and was not told, the replies that came to it, as they are kept, and those of its requests
-- that go later
pub record InboxValue : Type 0 where
  pub asked : Option Due
  pub came : List (Result Reply Refusal)
  pub later : List Request

-- pushes are asked, which may change the side
abbrev pub awaits_pushes : Option Due → Bool
awaits_pushes None = false
awaits_pushes (Some due) = is_sort_of_pushes due.sort

-- as many replies came as are due
abbrev has_due : Option Due → List (Result Reply Refusal) → Bool
has_due None came = true
has_due (Some due) came = nat_le due.count (length came)

abbrev pub has_replies : InboxValue → Bool
has_replies inbox = has_due inbox.asked inbox.came

-- ---- how many requests are out

abbrev pub count_due : Option Due → ℕ
count_due None = 0
count_due (Some due) = due.count

-- as many of the requests went, and have no reply
abbrev pub out_of : InboxValue → ℕ
out_of inbox = count_due inbox.asked - length inbox.came - length inbox.later

-- AT MOST 64 REQUESTS ARE OUT, but all pushes of a window
abbrev pub AreFewOut : InboxValue → Type 0
AreFewOut inbox = (awaits_pushes inbox.asked ≡ true) ⊎ (out_of inbox ≤ 64)

-- as many more may be out
abbrev room_beside : Bool → ℕ → ℕ → ℕ
room_beside true out left = left
room_beside false out left = 64 - out

abbrev pub room_in : InboxValue → ℕ
room_in inbox = room_beside (awaits_pushes inbox.asked) (out_of inbox) (length inbox.later)

-- THE NEXT REQUESTS GO, as many as may be out, unless some wait to be handed on: each once, and in order
pub record GoesNext (old : InboxValue) (leaving : List Request) (new : InboxValue) (leaving' : List Request)
    : Type 0 where
  pub requests : leaving' ++ new.later ≡ leaving ++ old.later
  pub next : leaving ≡ [] → leaving' ≡ take (room_in old) old.later
  pub rest : new ≡ record old { later = new.later }

-- why no window is begun: memory was refused, or what was asked before was not told (33)
abbrev pub CannotBegin : InboxValue → Refusal → Type 0
CannotBegin inbox refusal = (refusal ≡ Memory) ⊎ ((refusal ≡ BadBody) × (inbox.asked ≢ None))

-- ---- what comes

-- A REPLY CAME to a request that is out, and is kept; or the state that it tells is dropped, behind those that are held
-- at once
pub record HearsReply (reply : Reply) (old new : InboxValue) : Type 0 where
  pub out : out_of old ≢ 0
  pub kept : Result Reply Refusal
  pub is : IsKeptOf (Ok reply) kept
  pub came : new.came ≡ old.came ++ kept ∷ []
  pub asked : new.asked ≡ old.asked
  pub later : new.later ≡ old.later

-- it is none of the kind that was asked for, and no refusal
abbrev pub IsOfOther : Option Due → Reply → Type 0
IsOfOther None reply = ⊥
IsOfOther (Some due) reply = (reply_kind reply ≢ kind_of due.sort) × (reply_kind reply ≢ 0xEE)

-- why a reply is not taken: memory was refused, or no request is out (33), or it is of another kind (32)
abbrev pub CannotHear : Reply → InboxValue → Refusal → Type 0
CannotHear reply inbox refusal = (refusal ≡ Memory)
    ⊎ (((refusal ≡ BadBody) × (out_of inbox ≡ 0)) ⊎ ((refusal ≡ BadKind) × IsOfOther inbox.asked reply))

-- ---- what is told

-- what replies tell, or a refusal in place of it: memory was refused, or one tells that the side is broken
abbrev pub RepliesTell : {A : Type 0} → (A → Reply) → List (Result Reply Refusal) → AnswersOf A → Type 0
RepliesTell as_reply replies (Ok answers) = ForEach (IsToldBy as_reply) replies answers.items
RepliesTell as_reply replies (Err refusal) = (refusal ≡ Memory)
    ⊎ ((refusal ≡ Broken) × (Contains replies (Ok (Refused Broken)) ⊎ Contains replies (Err Broken)))

abbrev pub TellsAs : {A : Type 0} → (Vec (Result A Refusal) Global → Told) → (A → Reply) → List (Result Reply Refusal)
    → Told → Type 0
TellsAs {A} as_told as_reply replies told =
    (answers : AnswersOf A) × RepliesTell as_reply replies answers × (told ≡ told_as as_told answers)

-- WHAT THE REPLIES TELL, of a window of this kind
abbrev pub TellsReplies : Sort → List (Result Reply Refusal) → Told → Type 0
TellsReplies sort.Nodes = TellsAs (λ answers. told.Nodes answers) as_digests
TellsReplies sort.Pages = TellsAs (λ answers. told.Pages answers) as_page
TellsReplies sort.States = TellsAs (λ answers. told.States answers) as_state
TellsReplies sort.Pushes = TellsAs (λ answers. told.Pushes answers) as_done

-- so where all came
abbrev pub TellsIf : Bool → Sort → List (Result Reply Refusal) → Told → Type 0
TellsIf true sort came t = TellsReplies sort came t
TellsIf false sort came t = t ≡ told.Refused ReadFailed

pub record TellsDue (due : Due) (old new : InboxValue) (told : Told) : Type 0 where
  pub tells : TellsIf (has_replies old) due.sort old.came told
  pub new_is : new ≡ record { asked = None; came = []; later = [] }

abbrev pub InboxTells : Option Due → InboxValue → InboxValue → Option Told → Type 0
InboxTells None old new told = (told ≡ None) × (new ≡ old)
InboxTells (Some due) old new told = IsSomeAnd told (TellsDue due old new)
