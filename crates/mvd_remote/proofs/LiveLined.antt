-- What goes out and comes in over a live line.
use Rattle.std.proofs.Common.{◌≡◌, ◌≢◌, inl, inr, ℕ, ◌+◌, ◌<◌, ◌≤◌, arith, Bool, true, List, [], ◌∷◌, ◌++◌, length, take, get_or, Option, Some, None, refl, sym, ap, subst, ◌∙◌}
use Rattle.std.specs.Prelude.{Result, Ok, Err, IfOk, IfSome}
use Rattle.std.proofs.lemmas.List.{take_more}
use Rattle.mvd_dots.specs.declared.refusals.Refusal.{Refusal}
use Rattle.mvd_dots.specs.Refusal.{number_of}
use Rattle.mvd_dots.specs.declared.refusals.Refusal.TheVariants.{BadBody, BadContext, BadDefs, BadDocument, BadKey, BadKind, BadNumber, BadPath}
use Rattle.mvd_dots.specs.declared.refusals.Refusal.TheVariants.{BadTerm, Broken, Damaged, DocumentTooLong, DotClash, Exhausted, FrameTooLong, Full}
use Rattle.mvd_dots.specs.declared.refusals.Refusal.TheVariants.{Memory, NoIndex, NoView, NotAdmitted, NotCanonical, NotObject, ReadFailed}
use Rattle.mvd_dots.specs.declared.refusals.Refusal.TheVariants.{SiteMismatch, StateTooLarge, Store, TooManyRequests, Truncated, WriteFailed}
use Rattle.mvd_keys.specs.State.{IsValid, State}
use Rattle.mvd_keys.specs.Writes.{Key}
use Rattle.mvd_peer.specs.PushedStates.{Each}
use Rattle.mvd_peer.proofs.Pushes.{Each-append}
use Rattle.mvd_wire.specs.Frames.{EndsReading, FrameValue, frame_value}
use Rattle.mvd_wire.specs.declared.frame.Frame.{Frame}
use Rattle.mvd_wire.specs.Replies.{reply_of}
use Rattle.mvd_wire.specs.declared.request.Request.{Request}
use Rattle.mvd_wire.specs.declared.reply.Reply.{Reply}
use Rattle.mvd_wire.specs.declared.reply.Reply.TheVariants.{Refused}
use Rattle.mvd_wire.specs.declared.request.Request.TheVariants.{Get}
use Rattle.mvd_wire.specs.Requests.{request_frame}
use Rattle.mvd_site.specs.Config.{ConfigValue}
use Rattle.mvd_site.specs.Held.{AreHeld, States}
use Rattle.mvd_peer.specs.Live.{Grows}
use Rattle.mvd_peer.specs.Telling.{TellsEach}
use Rattle.mvd_peer.specs.Windows.{ForEach, leaves_open}
use Rattle.mvd_peer.proofs.Telling.{each_since, grows_over, grows_same}
use Rattle.mvd_remote.specs.LinkWindows.{Frames, IsToldBy, frames_of}
use Rattle.mvd_remote.specs.Lines.{AreGets, IsGet, TrueReply, IsNextReply, IsReplyTaken, LeavesNothingOpen, TakesDue, and_framed, framed_requests}
use Rattle.mvd_remote.specs.LiveLines.{AnswersAt, IsNextAnswer}
use Rattle.mvd_remote.specs.LiveRemotes.{LiveTurn, LiveTurns, SettlesLive, TakesAwaited, ToldAt, ToldLive, TookTurn}
use Rattle.mvd_remote.specs.declared.line.Line.{Ghosts}
use Rattle.mvd_remote.specs.declared.remote.Remote.{Remote}
use Rattle.mvd_remote.proofs.Lined.{after_is, is_memory, none_of, nones_of}

-- ---- one reply

next_taken : (config : ConfigValue) (awaited left : List Request) (old new : States) (frame : FrameValue) (told : Result Reply Refusal) → IsNextAnswer config awaited left old new frame → ((reply : Reply) → reply_of frame.kind frame.payload ≡ Ok reply → IsReplyTaken reply told) → TakesAwaited config awaited left old new told
next_taken config [] left old new frame told next taken = tt
next_taken config (q ∷ later) left old new frame told (same, reply, spells, held, at, up) taken = (same, held, (reply, taken reply spells, at), up)

-- the frame that came is taken for the reply that it spells
pub frame_taken : (config : ConfigValue) (awaited left : List Request) (old new : States) (came : Option Frame) (frame : Frame) (told : Reply) → came ≡ Some frame → IfSome came (λ f. IsNextAnswer config awaited left old new (frame_value f)) → reply_of frame.kind frame.payload.items ≡ Ok told
    → TakesAwaited config awaited left old new (Ok told)
frame_taken config awaited left old new came frame told e next is =
    next_taken config awaited left old new (frame_value frame) (Ok told) (subst (λ o. IfSome o (λ f. IsNextAnswer config awaited left old new (frame_value f))) e next) (λ reply spells. inl (sym is ∙ spells))

-- or there is no memory for it
pub frame_spent : (config : ConfigValue) (awaited left : List Request) (old new : States) (came : Option Frame) (frame : Frame) (refusal : Refusal) → came ≡ Some frame → IfSome came (λ f. IsNextAnswer config awaited left old new (frame_value f)) → (refusal ≢ Memory → reply_of frame.kind frame.payload.items ≡ Err refusal)
    → TakesAwaited config awaited left old new (Err refusal)
frame_spent config awaited left old new came frame refusal e next why =
    next_taken config awaited left old new (frame_value frame) (Err refusal) (subst (λ o. IfSome o (λ f. IsNextAnswer config awaited left old new (frame_value f))) e next) (λ reply spells. elim (is_memory refusal) [
      | inl memory ↦ inr (ap Err memory)
      | inr other ↦ let never = sym (why other) ∙ spells in absurd (cc)
    ])

-- a reply that was due is the one that the frame spells
next_due : (due left : List Reply) (frame : FrameValue) (reply : Reply) → IsNextReply due left frame → reply_of frame.kind frame.payload ≡ Ok reply → TakesDue due left (Ok reply)
next_due [] left frame reply next is = tt
next_due (r ∷ later) left frame reply next is = (inl (sym is ∙ next.0), next.1)

pub frame_due : (due left : List Reply) (came : Option Frame) (frame : Frame) (reply : Reply) → came ≡ Some frame → IfSome came (λ f. IsNextReply due left (frame_value f)) → reply_of frame.kind frame.payload.items ≡ Ok reply → TakesDue due left (Ok reply)
frame_due due left came frame reply e next is = next_due due left (frame_value frame) reply (subst (λ o. IfSome o (λ f. IsNextReply due left (frame_value f))) e next) is

-- reading ends with a refusal that leaves open what was taken
pub ends_open : (refusal : Refusal) → EndsReading refusal → leaves_open refusal ≡ true
ends_open refusal (inl e) = ap leaves_open e
ends_open refusal (inr (inl e)) = ap leaves_open e
ends_open refusal (inr (inr (inl e))) = ap leaves_open e
ends_open refusal (inr (inr (inr e))) = ap leaves_open e

-- and so does any from 30 on
pub high_open : (refusal : Refusal) → 30 ≤ number_of refusal → leaves_open refusal ≡ true
high_open BadKey high = absurd (omega (arith, high))
high_open BadContext high = absurd (omega (arith, high))
high_open BadDocument high = absurd (omega (arith, high))
high_open NotObject high = absurd (omega (arith, high))
high_open BadNumber high = absurd (omega (arith, high))
high_open DocumentTooLong high = absurd (omega (arith, high))
high_open NotCanonical high = absurd (omega (arith, high))
high_open Exhausted high = absurd (omega (arith, high))
high_open StateTooLarge high = absurd (omega (arith, high))
high_open Full high = absurd (omega (arith, high))
high_open DotClash high = absurd (omega (arith, high))
high_open NoIndex high = absurd (omega (arith, high))
high_open NoView high = absurd (omega (arith, high))
high_open BadPath high = absurd (omega (arith, high))
high_open BadTerm high = absurd (omega (arith, high))
high_open SiteMismatch high = absurd (omega (arith, high))
high_open Damaged high = absurd (omega (arith, high))
high_open Store high = absurd (omega (arith, high))
high_open Memory high = refl
high_open Broken high = refl
high_open Truncated high = refl
high_open FrameTooLong high = refl
high_open BadKind high = refl
high_open BadBody high = refl
high_open ReadFailed high = refl
high_open WriteFailed high = refl
high_open TooManyRequests high = refl
high_open BadDefs high = refl
high_open NotAdmitted high = refl

-- ---- turns

at_since : (config : ConfigValue) (q : Request) (t : Result Reply Refusal) (old mid held : States) → AreHeld old → AreHeld mid → Grows old mid → ToldAt config q t mid held → ToldAt config q t old held
at_since config q t old mid held p r up (reply, taken, at) = (
  reply,
  taken,
  record {
    before = at.before;
    was = (at.was.0, grows_over old mid at.before p r at.was.0 up at.was.1);
    is = at.is;
    so = at.so;
  },
)

-- one turn more, of what was held since before
one_turn : (config : ConfigValue) (why : Option Refusal) (told : Result Reply Refusal) (awaited left : List Request) (old mid new : States) → AreHeld old → AreHeld mid → AreHeld new → Grows old mid → Grows mid new → LiveTurn config why awaited left mid new told → (moments : List States) × LiveTurns config (why ∷ []) (told ∷ []) awaited left old moments new
one_turn config None told [] left old mid new p q r up on turn = ([], tt)
one_turn config None told (x ∷ later) left old mid new p q r up on (same, held, at, after) = (held ∷ [], (at_since config x told old mid held p q up at, (same, after)))
one_turn config (Some refusal) told awaited left old mid new p q r up on (is, same) = (new ∷ [], (is, (r, grows_over old mid new p q r up on), (same, grows_same new r)))

turns_more : (config : ConfigValue) (nones : List (Option Refusal)) (replies : List (Result Reply Refusal)) (why : Option Refusal) (told : Result Reply Refusal) (awaited between left : List Request) (old mid new : States) (moments : List States) → AreHeld old → AreHeld mid → AreHeld new → Grows mid new
    → LiveTurns config nones replies awaited between old moments mid → LiveTurn config why between left mid new told → (more : List States) × LiveTurns config (nones ++ why ∷ []) (replies ++ told ∷ []) awaited left old more new
turns_more config [] [] why told awaited between left old mid new [] p q r on h t = one_turn config why told awaited left old mid new p q r h.1 on (subst (λ b. LiveTurn config why b left mid new told) h.0 t)
turns_more config [] [] why told awaited between left old mid new (m ∷ moments) p q r on h t = absurd h
turns_more config [] (x ∷ replies) why told awaited between left old mid new moments p q r on h t = absurd h
turns_more config (None ∷ ns) [] why told awaited between left old mid new moments p q r on h t = absurd h
turns_more config (Some e ∷ ns) [] why told awaited between left old mid new moments p q r on h t = absurd h
turns_more config (None ∷ ns) (x ∷ replies) why told [] between left old mid new moments p q r on h t = ([], tt)
turns_more config (None ∷ ns) (x ∷ replies) why told (a ∷ later) between left old mid new [] p q r on h t = absurd h
turns_more config (None ∷ ns) (x ∷ replies) why told (a ∷ later) between left old mid new (m ∷ moments) p q r on h t =
    let rest = turns_more config ns replies why told later between left m mid new moments h.0.2.is.0 q r on h.1 t in
    (m ∷ rest.0, (h.0, rest.1))
turns_more config (Some e ∷ ns) (x ∷ replies) why told awaited between left old mid new [] p q r on h t = absurd h
turns_more config (Some e ∷ ns) (x ∷ replies) why told awaited between left old mid new (m ∷ moments) p q r on h t =
    let rest = turns_more config ns replies why told awaited between left m mid new moments h.1.0 q r on h.2 t in
    (m ∷ rest.0, (h.0, h.1, rest.1))

-- in turn
pub turns_more_at : (config : ConfigValue) (all : List (Option Refusal)) (i : ℕ) (why d : Option Refusal) (replies us : List (Result Reply Refusal)) (reply : Result Reply Refusal) (awaited between left : List Request) (old mid new : States) (moments : List States) → i < length all → why ≡ get_or all i d → us ≡ replies ++ reply ∷ [] → AreHeld old → AreHeld mid → AreHeld new → Grows mid new
    → LiveTurns config (take i all) replies awaited between old moments mid → LiveTurn config why between left mid new reply → (more : List States) × LiveTurns config (take (i + 1) all) us awaited left old more new
turns_more_at config all i why d replies us reply awaited between left old mid new moments low at told p q r on before turn =
    let longer : take (i + 1) all ≡ take i all ++ why ∷ [] = take_more all i d low ∙ ap (λ x. take i all ++ x ∷ []) (sym at) in
    subst (λ (ns : List (Option Refusal)). (more : List States) × LiveTurns config ns us awaited left old more new) (sym longer)
    (subst (λ (us : List (Result Reply Refusal)). (more : List States) × LiveTurns config (take i all ++ why ∷ []) us awaited left old more new) (sym told) (turns_more config (take i all) replies why reply awaited between left old mid new moments p q r on before turn))

-- over a line
pub took_more : {L : Type 0} (line : Ghosts L) → ((l : L) → line.is_live l → AreHeld (line.far l).states) → (first mid new : Remote L) (all : List (Option Refusal)) (i : ℕ) (why d : Option Refusal) (replies us : List (Result Reply Refusal)) (reply : Result Reply Refusal) → i < length all → why ≡ get_or all i d → us ≡ replies ++ reply ∷ [] → line.is_live first.line → line.is_live mid.line
    → (line.far mid.line).config ≡ (line.far first.line).config → Grows (line.far first.line).states (line.far mid.line).states
    → (moments : List States) → LiveTurns (line.far first.line).config (take i all) replies (line.awaits first.line) (line.awaits mid.line) (line.far first.line).states moments (line.far mid.line).states → TookTurn line why mid new (Ok reply)
    → line.is_live new.line × Grows (line.far first.line).states (line.far new.line).states × (moments : List States) × LiveTurns (line.far first.line).config (take (i + 1) all) us (line.awaits first.line) (line.awaits new.line) (line.far first.line).states moments (line.far new.line).states
took_more line form first mid new all i why d replies us reply low at pushed live live' same up moments before turn =
    let p = form first.line live in
    let q = form mid.line live' in
    let r = form new.line turn.live in
    let more = turns_more_at (line.far first.line).config all i why d replies us reply (line.awaits first.line) (line.awaits mid.line) (line.awaits new.line) (line.far first.line).states (line.far mid.line).states (line.far new.line).states moments low at pushed p q r turn.grows before
    (subst (λ c. LiveTurn c why (line.awaits mid.line) (line.awaits new.line) (line.far mid.line).states (line.far new.line).states reply) same turn.told) in
    (turn.live, grows_over (line.far first.line).states (line.far mid.line).states (line.far new.line).states p q r up turn.grows, more.0, more.1)

-- none yet
pub took_none : {L : Type 0} (line : Ghosts L) → ((l : L) → line.is_live l → AreHeld (line.far l).states) → (first : Remote L) (replies : List (Result Reply Refusal)) → replies ≡ [] → line.is_live first.line
    → line.is_live first.line × Grows (line.far first.line).states (line.far first.line).states × (moments : List States) × LiveTurns (line.far first.line).config [] replies (line.awaits first.line) (line.awaits first.line) (line.far first.line).states moments (line.far first.line).states
took_none line form first replies none live =
    let same = grows_same (line.far first.line).states (form first.line live) in
    (live, same, [], subst (λ ts. LiveTurns (line.far first.line).config [] ts (line.awaits first.line) (line.awaits first.line) (line.far first.line).states [] (line.far first.line).states) (sym none) (refl, same))

-- ---- what was told in turn

told_at : (config : ConfigValue) (q : Request) (reply : Reply) (t : Result Reply Refusal) (old held : States) → IsReplyTaken reply t → AnswersAt config q reply old held → ToldLive config held q t
told_at config q reply t old held (inl is) at = subst (ToldLive config held q) (sym is) (at.before, at.was.0, at.so)
told_at config q reply t old held (inr is) at = subst (ToldLive config held q) (sym is) (inr refl)

module _ (config : ConfigValue) (q : Request) (qs : List Request) (left : List Request) (new : States) (later : (old : States) (ts : List (Result Reply Refusal)) (moments : List States) → AreHeld old → LiveTurns config (nones_of qs) ts (framed_requests qs) left old moments new → TellsEach (ToldLive config) qs ts old moments new × (left ≡ [])) where
  told_step : (f : Result (List ℕ) Refusal) → request_frame q ≡ f → (old : States) (ts : List (Result Reply Refusal)) (moments : List States) → AreHeld old → LiveTurns config (none_of f ∷ nones_of qs) ts (and_framed q f (framed_requests qs)) left old moments new → TellsEach (ToldLive config) (q ∷ qs) ts old moments new × (left ≡ [])
  told_step (Ok frame) e old [] moments p h = absurd h
  told_step (Ok frame) e old (t ∷ ts) [] p h = absurd h
  told_step (Ok frame) e old (t ∷ ts) (m ∷ moments) p ((reply, taken, at), h) =
      let rest = later m ts moments at.is.0 h in
      ((at.is.0, grows_over old at.before m p at.was.0 at.is.0 at.was.1 at.is.1, told_at config q reply t old m taken at, rest.0), rest.1)
  told_step (Err refusal) e old [] moments p h = absurd h
  told_step (Err refusal) e old (t ∷ ts) [] p h = absurd h
  told_step (Err refusal) e old (t ∷ ts) (m ∷ moments) p (is, grown, h) =
      let rest = later m ts moments grown.0 h in
      ((grown.0, grown.1, subst (ToldLive config m q) (sym is) (inl e), rest.0), rest.1)

told_live : (config : ConfigValue) (qs : List Request) (left : List Request) (new old : States) (ts : List (Result Reply Refusal)) (moments : List States) → AreHeld old → LiveTurns config (nones_of qs) ts (framed_requests qs) left old moments new → TellsEach (ToldLive config) qs ts old moments new × (left ≡ [])
told_live config [] left new old [] [] p h = (h.1, h.0)
told_live config [] left new old [] (m ∷ moments) p h = absurd h
told_live config [] left new old (t ∷ ts) moments p h = absurd h
told_live config (q ∷ qs) left new old ts moments p h = told_step config q qs left new (told_live config qs left new) (request_frame q) refl old ts moments p h

-- A WINDOW THAT WENT OUT over a live line and was told of in turn
pub window_live : (config : ConfigValue) (qs : List Request) (frames : Frames) (ts : List (Result Reply Refusal)) (none awaited left : List Request) (old mid new : States) (moments : List States) → frames ≡ frames_of qs → none ≡ [] → awaited ≡ none ++ framed_requests qs → AreHeld old → AreHeld mid → AreHeld new → Grows old mid
    → LiveTurns config frames.1 ts awaited left mid moments new → TellsEach (ToldLive config) qs ts old moments new × (left ≡ [])
window_live config qs frames ts none awaited left old mid new moments is no_one all p q r up turns =
    let nones : frames.1 ≡ nones_of qs = ap (λ (f : Frames). f.1) (is ∙ after_is ([], []) qs) in
    let now : awaited ≡ framed_requests qs = all ∙ ap (λ (d : List Request). d ++ framed_requests qs) no_one in
    let told = told_live config qs left new mid ts moments q (subst (λ a. LiveTurns config (nones_of qs) ts a left mid moments new) now (subst (λ ns. LiveTurns config ns ts awaited left mid moments new) nones turns)) in
    (each_since (ToldLive config) qs ts old mid new moments p q r up told.0, told.1)

-- ---- answers

lacks_get : (config : ConfigValue) (held : States) (q : Request) → IsGet q → TrueReply config held q (Refused Memory) held
lacks_get config held (Get key) is = (refl, refl)
lacks_get config held q is = absurd is

module _ {A : Type 0} (as_reply : A → Reply) (gives_up : Bool) (config : ConfigValue) where
  one_settled : (held : States) (q : Request) (t : Result Reply Refusal) (a : Result A Refusal) → AreHeld held → ToldLive config held q t → IsToldBy as_reply t a → LeavesNothingOpen gives_up t a → (gives_up ≡ true → IsGet q) → SettlesLive as_reply config held q a
  one_settled held q t (Ok v) form h e s g = subst (ToldLive config held q) e h
  one_settled held q t (Err refusal) form h (inl e) s g = inl (subst (ToldLive config held q) e h)
  one_settled held q t (Err refusal) form h (inr e) s g = elim (subst (ToldLive config held q) e h) [
    | inl none ↦ inr none
    | inr memory ↦ inl (held, form, subst (λ e. TrueReply config held q (Refused e) held) (sym memory) (lacks_get config held q (g (s.0 (e ∙ ap Err memory)))))
  ]

  settled : (old new : States) (qs : List Request) (ts : List (Result Reply Refusal)) (us : List (Result A Refusal)) (moments : List States) → TellsEach (ToldLive config) qs ts old moments new → ForEach (IsToldBy as_reply) ts us → ForEach (LeavesNothingOpen gives_up) ts us → (gives_up ≡ true → AreGets qs) → TellsEach (SettlesLive as_reply config) qs us old moments new
  settled old new [] [] [] [] h e s g = h
  settled old new [] [] [] (m ∷ moments) h e s g = absurd h
  settled old new [] [] (u ∷ us) moments h e s g = absurd e
  settled old new [] (t ∷ ts) us moments h e s g = absurd h
  settled old new (q ∷ qs) [] us moments h e s g = absurd h
  settled old new (q ∷ qs) (t ∷ ts) [] moments h e s g = absurd e
  settled old new (q ∷ qs) (t ∷ ts) (u ∷ us) [] h e s g = absurd h
  settled old new (q ∷ qs) (t ∷ ts) (u ∷ us) (m ∷ moments) h e s g = (h.0, h.1, one_settled m q t u h.0 h.2 e.0 s.0 (λ is. (g is).0), settled m new qs ts us moments h.3 e.1 s.1 (λ is. (g is).1))

  pub live_answered : {V : Type 0} (items : V → List (Result A Refusal)) (qs : List Request) (ts : List (Result Reply Refusal)) (old new : States) (moments : List States) (made : Result V Refusal) → TellsEach (ToldLive config) qs ts old moments new → IfOk made (λ v. ForEach (IsToldBy as_reply) ts (items v)) → IfOk made (λ v. ForEach (LeavesNothingOpen gives_up) ts (items v)) → (gives_up ≡ true → AreGets qs)
      → IfOk made (λ v. (moments : List States) × TellsEach (SettlesLive as_reply config) qs (items v) old moments new)
  live_answered items qs ts old new moments (Ok v) h e s g = (moments, settled old new qs ts (items v) moments h e s g)
  live_answered items qs ts old new moments (Err refusal) h e s g = tt

-- ---- pushes

-- one state more that is valid, in turn
pub valid_more : (all : List (Key × State)) (i : ℕ) (pair : Key × State) → i < length all → pair ≡ get_or all i pair → Each (λ p. IsValid p.1) (take i all) → IsValid pair.1 → Each (λ p. IsValid p.1) (take (i + 1) all)
valid_more all i pair low at before valid =
    let longer : take (i + 1) all ≡ take i all ++ pair ∷ [] = take_more all i pair low ∙ ap (λ x. take i all ++ x ∷ []) (sym at) in
    subst (Each (λ p. IsValid p.1)) (sym longer) (Each-append (λ p. IsValid p.1) (take i all) (pair ∷ []) before (valid, tt))
