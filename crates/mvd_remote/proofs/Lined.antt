-- What goes out and comes in over a true line.
use Rattle.std.proofs.Common.{◌≡◌, ◌≢◌, ◌⊎◌, inl, inr, ℕ, zero, suc, ◌+◌, ◌<◌, Bool, true, List, [], ◌∷◌, ◌++◌, length, take, get_or, Option, Some, None, refl, sym, ap, subst, ◌∙◌, arith}
use Rattle.std.specs.Prelude.{Result, Ok, Err, IfOk, IfErr, IfSome, MatchResult, map}
use Rattle.std.proofs.lemmas.List.{append-nil, append_assoc, map-append, take_more, take_all}
use Rattle.mvd_dots.specs.declared.refusals.Refusal.{Refusal}
use Rattle.mvd_dots.specs.declared.refusals.Refusal.TheVariants.{Broken, Memory, WriteFailed}
use Rattle.mvd_wire.specs.Codec.{Gives}
use Rattle.mvd_wire.specs.Frames.{FrameValue, frame_value}
use Rattle.mvd_wire.specs.declared.frame.Frame.{Frame}
use Rattle.mvd_wire.specs.Replies.{reply_of}
use Rattle.mvd_wire.specs.declared.request.Request.{Request}
use Rattle.mvd_wire.specs.declared.reply.Reply.{Reply}
use Rattle.mvd_wire.specs.declared.reply.Reply.TheVariants.{Refused}
use Rattle.mvd_wire.specs.Requests.{IsRequest, request_frame}
use Rattle.mvd_site.specs.Config.{ConfigValue}
use Rattle.mvd_site.specs.Held.{States}
use Rattle.mvd_remote.specs.LinkWindows.{IsToldBy, Frames, and_frame, frames_after, frames_of}
use Rattle.mvd_remote.specs.Lines.{refuses_none, AreGets, IsGet, AllToldTruly, AnswersTruly, AreRequestFrames, HaveFrames, DueTurn, DueTurns, EndsOpen, Far, IsNextReply, LeavesNothingOpen, HasFrame, IsReplyTaken, IsTrueRemote, MayTake, SettleTruly, SettlesTruly, TakesAll, TakesDue, TakesFirst, TellsAllTruly, ToldTruly, Took, TrueReplies, TrueReply, and_framed, framed_requests}
use Rattle.mvd_remote.specs.Links.{ReadsReply}
use Rattle.mvd_wire.specs.declared.request.Request.TheVariants.{Get}
use Rattle.mvd_remote.proofs.FarSides.{get_keeps}
use Rattle.mvd_peer.specs.Windows.{ForEach}
use Rattle.mvd_peer.specs.Windows.{leaves_open}
use Rattle.mvd_remote.specs.declared.remote.Remote.{Remote}

-- ---- turns

due_more : (nones : List (Option Refusal)) (replies : List (Result Reply Refusal)) (why : Option Refusal) (told : Result Reply Refusal) (old mid new : List Reply) → DueTurns nones replies old mid → DueTurn why mid new told → DueTurns (nones ++ why ∷ []) (replies ++ told ∷ []) old new
due_more [] [] None told [] mid new h t = tt
due_more [] [] None told (r ∷ rs) mid new h t = subst (λ (m : List Reply). TakesDue m new told) h t
due_more [] [] (Some e) told old mid new h t = (t.0, t.1 ∙ h)
due_more [] (r ∷ rs) why told old mid new h t = absurd h
due_more (None ∷ ns) [] why told old mid new h t = absurd h
due_more (Some e ∷ ns) [] why told old mid new h t = absurd h
due_more (None ∷ ns) (r ∷ rs) why told [] mid new h t = tt
due_more (None ∷ ns) (r ∷ rs) why told (due ∷ later) mid new h t = (h.0, due_more ns rs why told later mid new h.1 t)
due_more (Some e ∷ ns) (r ∷ rs) why told old mid new h t = (h.0, due_more ns rs why told old mid new h.1 t)

-- one turn more
pub due_more_at : (all : List (Option Refusal)) (i : ℕ) (why d : Option Refusal) (replies us : List (Result Reply Refusal)) (reply : Result Reply Refusal) (old mid new : List Reply) → i < length all → why ≡ get_or all i d → us ≡ replies ++ reply ∷ [] → DueTurns (take i all) replies old mid → DueTurn why mid new reply → DueTurns (take (i + 1) all) us old new
due_more_at all i why d replies us reply old mid new low at told before turn =
    let longer : take (i + 1) all ≡ take i all ++ why ∷ [] = take_more all i d low ∙ ap (λ x. take i all ++ x ∷ []) (sym at) in
    subst (λ (ns : List (Option Refusal)). DueTurns ns us old new) (sym longer) (subst (λ (us : List (Result Reply Refusal)). DueTurns (take i all ++ why ∷ []) us old new) (sym told) (due_more (take i all) replies why reply old mid new before turn))

pub is_memory : (refusal : Refusal) → (refusal ≡ Memory) ⊎ (refusal ≢ Memory)
is_memory Memory = inl refl
is_memory refusal = inr (λ e. absurd (cc))

-- a reply that was due and was not taken: there was no memory for it
not_taken : (due left : List Reply) (frame : FrameValue) (refusal : Refusal) → IsNextReply due left frame → (refusal ≢ Memory → reply_of frame.kind frame.payload ≡ Err refusal) → TakesDue due left (Err refusal)
not_taken [] left frame refusal next why = tt
not_taken (r ∷ rs) left frame refusal next why = (
  elim (is_memory refusal) [
    | inl memory ↦ inr (ap Err memory)
    | inr other ↦ let e = sym (why other) ∙ next.0 in absurd (cc)
  ],
  next.1,
)

pub frame_not_taken : (due left : List Reply) (came : Option Frame) (frame : Frame) (refusal : Refusal) → came ≡ Some frame → IfSome came (λ f. IsNextReply due left (frame_value f)) → (refusal ≢ Memory → reply_of frame.kind frame.payload.items ≡ Err refusal) → TakesDue due left (Err refusal)
frame_not_taken due left came frame refusal e next why = not_taken due left (frame_value frame) refusal (subst (λ o. IfSome o (λ f. IsNextReply due left (frame_value f))) e next) why

-- ---- frames

abbrev pub none_of : Result (List ℕ) Refusal → Option Refusal
none_of (Ok frame) = None
none_of (Err refusal) = Some refusal

abbrev and_bytes : Result (List ℕ) Refusal → List ℕ → List ℕ
and_bytes (Ok frame) bytes = frame ++ bytes
and_bytes (Err refusal) bytes = bytes

abbrev pub nones_of : List Request → List (Option Refusal)
nones_of [] = []
nones_of (q ∷ qs) = none_of (request_frame q) ∷ nones_of qs

abbrev bytes_of : List Request → List ℕ
bytes_of [] = []
bytes_of (q ∷ qs) = and_bytes (request_frame q) (bytes_of qs)

abbrev both_of : Frames → List ℕ → List (Option Refusal) → Frames
both_of before bytes nones = (before.0 ++ bytes, before.1 ++ nones)

one_added : (before : Frames) (frame : Result (List ℕ) Refusal) (bytes : List ℕ) (nones : List (Option Refusal)) → both_of (and_frame before frame) bytes nones ≡ both_of before (and_bytes frame bytes) (none_of frame ∷ nones)
one_added (fs, ns) (Ok frame) bytes nones = ap (λ x. (x, (ns ++ None ∷ []) ++ nones)) (append_assoc fs frame bytes) ∙ ap (λ y. (fs ++ (frame ++ bytes), y)) (append_assoc ns (None ∷ []) nones)
one_added (fs, ns) (Err refusal) bytes nones = ap (λ y. (fs ++ bytes, y)) (append_assoc ns (Some refusal ∷ []) nones)

pub after_is : (before : Frames) (qs : List Request) → frames_after before qs ≡ both_of before (bytes_of qs) (nones_of qs)
after_is (fs, ns) [] = ap (λ x. (x, ns)) (sym (append-nil fs)) ∙ ap (λ y. (fs ++ [], y)) (sym (append-nil ns))
after_is before (q ∷ qs) = after_is (and_frame before (request_frame q)) qs ∙ one_added before (request_frame q) (bytes_of qs) (nones_of qs)

one_framed : (q : Request) (qs : List Request) (f : Result (List ℕ) Refusal) → request_frame q ≡ f → IfOk f (λ _. IsRequest q) → AreRequestFrames (framed_requests qs) (bytes_of qs) → AreRequestFrames (and_framed q f (framed_requests qs)) (and_bytes f (bytes_of qs))
one_framed q qs (Ok frame) e s rest = (frame, bytes_of qs, s, e, refl, rest)
one_framed q qs (Err refusal) e s rest = rest

frames_are : (qs : List Request) → HaveFrames qs → AreRequestFrames (framed_requests qs) (bytes_of qs)
frames_are [] s = refl
frames_are (q ∷ qs) s = one_framed q qs (request_frame q) refl s.0 (frames_are qs s.1)

-- the bytes of a window are the frames of those requests that have one
pub window_frames : (qs : List Request) (frames : Frames) → frames ≡ frames_of qs → HaveFrames qs → AreRequestFrames (framed_requests qs) frames.0
window_frames qs frames is s = subst (AreRequestFrames (framed_requests qs)) (sym (ap (λ (f : Frames). f.0) (is ∙ after_is ([], []) qs))) (frames_are qs s)

-- the frame of one request
pub one_frame : (q : Request) (frame : List ℕ) → IsRequest q → request_frame q ≡ Ok frame → AreRequestFrames (q ∷ []) frame
one_frame q frame fits e = (frame, [], fits, e, sym (append-nil frame), refl)

-- what was encoded, unless memory was refused, is spelled
spelled_of : {V : Type 0} (view : V → List ℕ) (q : Request) (frame : Result V Refusal) → Gives view frame (request_frame q) → IfOk frame (λ _. IsRequest q) → frame ≢ Err Memory → HasFrame q
spelled_of view q (Ok v) gives fits some = subst (λ f. IfOk f (λ _. IsRequest q)) (sym gives) fits
spelled_of view q (Err refusal) gives fits some = subst (λ f. IfOk f (λ _. IsRequest q)) (sym (gives (λ memory. some (ap Err memory)))) tt

spelled-append : (qs rs : List Request) → HaveFrames qs → HaveFrames rs → HaveFrames (qs ++ rs)
spelled-append [] rs p q = q
spelled-append (x ∷ qs) rs p q = (p.0, spelled-append qs rs p.1 q)

-- one request more, in turn
pub spelled_more : {X V : Type 0} (f : X → Request) (view : V → List ℕ) (xs : List X) (i : ℕ) (x : X) (frame : Result V Refusal) → i < length xs → x ≡ get_or xs i x → HaveFrames (map f (take i xs)) → Gives view frame (request_frame (f x)) → IfOk frame (λ _. IsRequest (f x)) → frame ≢ Err Memory → HaveFrames (map f (take (i + 1) xs))
spelled_more f view xs i x frame low at before gives fits some =
    let longer : take (i + 1) xs ≡ take i xs ++ x ∷ [] = take_more xs i x low ∙ ap (λ y. take i xs ++ y ∷ []) (sym at) in
    subst (λ ys. HaveFrames (map f ys)) (sym longer) (subst HaveFrames (sym (map-append f (take i xs) (x ∷ []))) (spelled-append (map f (take i xs)) (f x ∷ []) before (spelled_of view (f x) frame gives fits some, tt)))

-- ---- what was told in turn

one_told : (config : ConfigValue) (old mid : States) (q : Request) (r : Reply) (t : Result Reply Refusal) → TrueReply config old q r mid → IsReplyTaken r t → ToldTruly config old q t mid
one_told config old mid q r t h (inl e) = subst (λ (t : Result Reply Refusal). ToldTruly config old q t mid) (sym e) h
one_told config old mid q r t h (inr e) = subst (λ (t : Result Reply Refusal). ToldTruly config old q t mid) (sym e) (inr (refl, (r, h)))

module _ (config : ConfigValue) (q : Request) (qs : List Request) (left : List Reply) (new : States) (later : (old : States) (rs : List Reply) (ts : List (Result Reply Refusal)) → TrueReplies config old (framed_requests qs) rs new → DueTurns (nones_of qs) ts rs left → AllToldTruly config old qs ts new × (left ≡ [])) where
  told_step : (f : Result (List ℕ) Refusal) → request_frame q ≡ f → (old : States) (rs : List Reply) (ts : List (Result Reply Refusal)) → TrueReplies config old (and_framed q f (framed_requests qs)) rs new → DueTurns (none_of f ∷ nones_of qs) ts rs left → AllToldTruly config old (q ∷ qs) ts new × (left ≡ [])
  told_step (Ok frame) e old [] ts h d = absurd h
  told_step (Ok frame) e old (r ∷ rs) [] h d = absurd d
  told_step (Ok frame) e old (r ∷ rs) (t ∷ ts) h d =
      let rest = later h.0 rs ts h.2 d.1 in
      ((h.0, one_told config old h.0 q r t h.1 d.0, rest.0), rest.1)
  told_step (Err refusal) e old rs [] h d = absurd d
  told_step (Err refusal) e old rs (t ∷ ts) h d =
      let rest = later old rs ts h d.1 in
      ((old, subst (λ (t : Result Reply Refusal). ToldTruly config old q t old) (sym d.0) (inl (e, refl)), rest.0), rest.1)

told_truly : (config : ConfigValue) (qs : List Request) (left : List Reply) (new old : States) (rs : List Reply) (ts : List (Result Reply Refusal)) → TrueReplies config old (framed_requests qs) rs new → DueTurns (nones_of qs) ts rs left → AllToldTruly config old qs ts new × (left ≡ [])
told_truly config [] left new old [] [] h d = (h, d)
told_truly config [] left new old [] (t ∷ ts) h d = absurd d
told_truly config [] left new old (r ∷ rs) ts h d = absurd h
told_truly config (q ∷ qs) left new old rs ts h d = told_step config q qs left new (told_truly config qs left new) (request_frame q) refl old rs ts h d

-- all of them were taken
pub all_taken : (old new : Far) (qs : List Request) → TakesAll old qs new → TakesFirst old.config old.states qs new.states
all_taken old new qs all = (length qs, all.replies, subst (λ (xs : List Request). TrueReplies old.config old.states xs all.replies new.states) (sym (take_all (length qs) qs (omega arith))) all.are_true)

-- A WINDOW THAT WENT OUT and was told of in turn
pub window_told : (old mid new : Far) (qs : List Request) (frames : Frames) (ts : List (Result Reply Refusal)) → frames ≡ frames_of qs → old.due ≡ [] → TakesAll old (framed_requests qs) mid → new.states ≡ mid.states → DueTurns frames.1 ts mid.due new.due → TellsAllTruly old.config old.states qs ts new.states × (new.due ≡ [])
window_told old mid new qs frames ts is none all same due =
    let nones : frames.1 ≡ nones_of qs = ap (λ (f : Frames). f.1) (is ∙ after_is ([], []) qs) in
    let now : mid.due ≡ all.replies = all.due ∙ ap (λ d. d ++ all.replies) none in
    let true_then = subst (TrueReplies old.config old.states (framed_requests qs) all.replies) (sym same) all.are_true in
    let turns = subst (λ d. DueTurns (nones_of qs) ts d new.due) now (subst (λ ns. DueTurns ns ts mid.due new.due) nones due) in
    let told = told_truly old.config qs new.due new.states old.states all.replies ts true_then turns in
    let taken = all_taken old mid (framed_requests qs) all in
    ((told.0, subst (TakesFirst old.config old.states (framed_requests qs)) (sym same) taken), told.1)

-- ---- answers

-- a get that lacks memory for its reply is as one that was refused so
lacks_get : (config : ConfigValue) (old new : States) (q : Request) (r : Reply) → IsGet q → TrueReply config old q r new → TrueReply config old q (Refused Memory) new
lacks_get config old new (Get key) r is h = (refl, get_keeps key config old r new h)
lacks_get config old new q r is h = absurd is

module _ {A : Type 0} (as_reply : A → Reply) (gives_up : Bool) where
  one_settled : (config : ConfigValue) (old new : States) (q : Request) (t : Result Reply Refusal) (a : Result A Refusal) → ToldTruly config old q t new → IsToldBy as_reply t a → LeavesNothingOpen gives_up t a → (gives_up ≡ true → IsGet q) → SettlesTruly as_reply config old q a new
  one_settled config old new q t (Ok v) h e s g = subst (λ (t : Result Reply Refusal). ToldTruly config old q t new) e h
  one_settled config old new q t (Err refusal) h (inl e) s g = inl (λ broken. s.1 (ap Err broken), subst (λ (t : Result Reply Refusal). ToldTruly config old q t new) e h)
  one_settled config old new q t (Err refusal) h (inr e) s g = elim (subst (λ (t : Result Reply Refusal). ToldTruly config old q t new) e h) [
    | inl none ↦ inr none
    | inr (memory, told) ↦ inl ((λ broken. let no : Memory ≡ Broken = sym memory ∙ broken in absurd (cc)), subst (λ e. TrueReply config old q (Refused e) new) (sym memory) (lacks_get config old new q told.0 (g (s.0 (e ∙ ap Err memory))) told.1))
  ]

  settled : (config : ConfigValue) (old new : States) (qs : List Request) (ts : List (Result Reply Refusal)) (us : List (Result A Refusal)) → AllToldTruly config old qs ts new → ForEach (IsToldBy as_reply) ts us → ForEach (LeavesNothingOpen gives_up) ts us → (gives_up ≡ true → AreGets qs) → SettleTruly as_reply config old qs us new
  settled config old new [] [] [] h e s g = h
  settled config old new [] [] (u ∷ us) h e s g = absurd e
  settled config old new [] (t ∷ ts) us h e s g = absurd h
  settled config old new (q ∷ qs) [] us h e s g = absurd h
  settled config old new (q ∷ qs) (t ∷ ts) [] h e s g = absurd e
  settled config old new (q ∷ qs) (t ∷ ts) (u ∷ us) h e s g = (h.0, one_settled config old h.0 q t u h.1 e.0 s.0 (λ is. (g is).0), settled config h.0 new qs ts us h.2 e.1 s.1 (λ is. (g is).1))

open_end : {X : Type 0} (refusal : Refusal) → (refusal ≡ Memory) ⊎ ((refusal ≡ Broken) × X) → leaves_open refusal ≡ true
open_end refusal (inl memory) = ap leaves_open memory
open_end refusal (inr broken) = ap leaves_open broken.0

-- what is made of a window that was told of
pub window_answered : {A V : Type 0} (X : Type 0) (as_reply : A → Reply) (gives_up : Bool) (items : V → List (Result A Refusal)) (config : ConfigValue) (old new : States) (qs : List Request) (ts : List (Result Reply Refusal)) (made : Result V Refusal) → TellsAllTruly config old qs ts new → IfOk made (λ v. ForEach (IsToldBy as_reply) ts (items v)) → IfOk made (λ v. ForEach (LeavesNothingOpen gives_up) ts (items v)) → (gives_up ≡ true → AreGets qs)
    → IfErr made (λ refusal. (refusal ≡ Memory) ⊎ ((refusal ≡ Broken) × X)) → MatchResult made (λ v. SettleTruly as_reply config old qs (items v) new) (λ refusal. EndsOpen config old qs refusal new)
window_answered X as_reply gives_up items config old new qs ts (Ok v) told e s g ended = settled as_reply gives_up config old new qs ts (items v) told.0 e s g
window_answered X as_reply gives_up items config old new qs ts (Err refusal) told e s g ended = (open_end refusal ended, told.1)

-- ---- a remote side

module _ {L : Type 0} (is_true : L → Type 0) (far : L → Far) (remote : Remote L) where
  -- its link refuses
  pub now_refuses : (refusal : Refusal) → is_true remote.line → remote.refused ≡ Some refusal → leaves_open refusal ≡ true → IsTrueRemote is_true far remote
  now_refuses refusal t e o = record {
    line = t;
    step = λ goes. refuses_none remote.refused refusal goes e;
    own = λ own f. let same : own ≡ refusal = cc in ap leaves_open same ∙ o;
  }

  -- it goes on
  pub still_goes : is_true remote.line → remote.refused ≡ None → (far remote.line).due ≡ [] → IsTrueRemote is_true far remote
  still_goes t e none = record { line = t; step = λ _. none; own = λ own f. refuses_none remote.refused own e f }

-- ---- one question

-- what a request was taken for
may_take : (config : ConfigValue) (old new : States) (q : Request) (n : ℕ) (rs : List Reply) → TrueReplies config old (take n (q ∷ [])) rs new → MayTake config old q new
may_take config old new q zero [] h = inl h
may_take config old new q zero (r ∷ rs) h = absurd h
may_take config old new q (suc n) [] h = absurd h
may_take config old new q (suc zero) (r ∷ []) h = inr (r, subst (TrueReply config old q r) (sym h.2) h.1)
may_take config old new q (suc zero) (r ∷ s ∷ rs) h = absurd h.2
may_take config old new q (suc (suc n)) (r ∷ []) h = inr (r, subst (TrueReply config old q r) (sym h.2) h.1)
may_take config old new q (suc (suc n)) (r ∷ s ∷ rs) h = absurd h.2

-- the writer failed
pub not_sent : {A : Type 0} (as_reply : A → Reply) (config : ConfigValue) (old new : States) (q : Request) (refusal : Refusal) → TakesFirst config old (q ∷ []) new → leaves_open refusal ≡ true → AnswersTruly as_reply config old q (Err refusal) new
not_sent as_reply config old new q refusal first e = inr (inr (e, may_take config old new q first.0 first.1 first.2))

-- the reply to one request is due
one_due : (config : ConfigValue) (old mid : States) (q : Request) (rs : List Reply) → TrueReplies config old (q ∷ []) rs mid → (r : Reply) × TrueReply config old q r mid × (rs ≡ r ∷ [])
one_due config old mid q [] h = absurd h
one_due config old mid q (r ∷ []) h = (r, subst (TrueReply config old q r) (sym h.2) h.1, refl)
one_due config old mid q (r ∷ s ∷ rs) h = absurd h.2

module _ {L : Type 0} (is_true : L → Type 0) (far : L → Far) (new : Remote L) (config : ConfigValue) (old : States) (q : Request) (r : Reply) (is : TrueReply config old q r (far new.line).states) (due : List Reply) (one : due ≡ r ∷ []) where
  abbrev Ends : Result Reply Refusal → Type 0
  Ends told = IsTrueRemote is_true far new × AnswersTruly (λ reply. reply) config old q told (far new.line).states

  took : (told : Result Reply Refusal) (kind : ℕ) (before after : Option (List ℕ)) → is_true new.line → (new.refused ≡ None → TakesDue due (far new.line).due told) → ((refusal : Refusal) → new.refused ≡ Some refusal → leaves_open refusal ≡ true) → ReadsReply before after kind new.refused told → Ends told
  took (Ok reply) kind before after t d own reads =
      let taken : IsReplyTaken r (Ok reply) × ((far new.line).due ≡ []) = subst (λ ds. TakesDue ds (far new.line).due (Ok reply)) one (d reads.1) in
      let same : reply ≡ r = elim taken.0 [ inl e ↦ cc | inr e ↦ absurd (cc) ] in
      (still_goes is_true far new t reads.1 taken.1, subst (λ (x : Reply). TrueReply config old q x (far new.line).states) (sym same) is)
  took (Err refusal) kind before after t d own (inl broke) =
      (now_refuses is_true far new refusal t broke.1 (own refusal broke.1), inr (inr (own refusal broke.1, inr (r, is))))
  took (Err refusal) kind before after t d own (inr none) =
      let taken : IsReplyTaken r (Err refusal) × ((far new.line).due ≡ []) = subst (λ ds. TakesDue ds (far new.line).due (Err refusal)) one (d none.1) in
      let memory : refusal ≡ Memory = elim taken.0 [ inl e ↦ absurd (cc) | inr e ↦ cc ] in
      (still_goes is_true far new t none.1 taken.1, inr (inr (ap leaves_open memory, inr (r, is))))

-- A REQUEST WENT OUT over a true line, and what came was taken
pub one_answered : {L : Type 0} (is_true : L → Type 0) (far : L → Far) (old mid new : Remote L) (q : Request) (told : Result Reply Refusal) (kind : ℕ) (before after : Option (List ℕ)) → (far old.line).due ≡ [] → TakesAll (far old.line) (q ∷ []) (far mid.line) → Took is_true far mid new told → ReadsReply before after kind new.refused told
    → IsTrueRemote is_true far new × AnswersTruly (λ reply. reply) (far old.line).config (far old.line).states q told (far new.line).states
one_answered is_true far old mid new q told kind before after none all taken reads =
    let one = one_due (far old.line).config (far old.line).states (far mid.line).states q all.replies all.are_true in
    let due : (far mid.line).due ≡ one.0 ∷ [] = all.due ∙ ap (λ d. d ++ all.replies) none ∙ one.2 in
    took is_true far new (far old.line).config (far old.line).states q one.0 (subst (TrueReply (far old.line).config (far old.line).states q one.0) (sym taken.states) one.1) (far mid.line).due due told kind before after taken.line taken.due taken.own reads

-- ---- a window

-- turns broke the link
pub turns_broke : {L : Type 0} (is_true : L → Type 0) (far : L → Far) (new : Remote L) (old mid : Far) (qs : List Request) (refusal : Refusal) → TakesAll old (framed_requests qs) mid → is_true new.line → (far new.line).states ≡ mid.states → leaves_open refusal ≡ true → new.refused ≡ Some refusal → IsTrueRemote is_true far new × EndsOpen old.config old.states qs refusal (far new.line).states
turns_broke is_true far new old mid qs refusal all t same e now = (now_refuses is_true far new refusal t now e, (e, subst (TakesFirst old.config old.states (framed_requests qs)) (sym same) (all_taken old mid (framed_requests qs) all)))

-- its frames did not all go out
pub send_broke : {L : Type 0} (is_true : L → Type 0) (far : L → Far) (new : Remote L) (old : Far) (line : L) (qs : List Request) (refusal result : Refusal) → new.line ≡ line → new.refused ≡ Some refusal → result ≡ refusal → refusal ≡ WriteFailed → is_true line → TakesFirst old.config old.states (framed_requests qs) (far line).states → IsTrueRemote is_true far new × EndsOpen old.config old.states qs result (far new.line).states
send_broke is_true far new old line qs refusal result same now gives why t first = (
  now_refuses is_true far new refusal (subst is_true (sym same) t) now (ap leaves_open why),
  (ap leaves_open (gives ∙ why), subst (λ l. TakesFirst old.config old.states (framed_requests qs) (far l).states) (sym same) first),
)

-- the frame of one request did not all go out
pub one_broke : {L A : Type 0} (is_true : L → Type 0) (far : L → Far) (as_reply : A → Reply) (new : Remote L) (old : Far) (line : L) (q : Request) (refusal result : Refusal) → new.line ≡ line → new.refused ≡ Some refusal → result ≡ refusal → refusal ≡ WriteFailed → is_true line → TakesFirst old.config old.states (q ∷ []) (far line).states → IsTrueRemote is_true far new × AnswersTruly as_reply old.config old.states q (Err result) (far new.line).states
one_broke is_true far as_reply new old line q refusal result same now gives why t first = (
  now_refuses is_true far new refusal (subst is_true (sym same) t) now (ap leaves_open why),
  not_sent as_reply old.config old.states (far new.line).states q result (subst (λ l. TakesFirst old.config old.states (q ∷ []) (far l).states) (sym same) first) (ap leaves_open (gives ∙ why)),
)

-- ---- what one question is answered with

-- nothing was sent
pub none_asked : {A : Type 0} (as_reply : A → Reply) (config : ConfigValue) (old : States) (q : Request) (refusal : Refusal) → leaves_open refusal ≡ true → AnswersTruly as_reply config old q (Err refusal) old
none_asked as_reply config old q refusal e = inr (inr (e, inl refl))

-- a reply that accepts nothing is a refusal
pub told_none : {A : Type 0} (as_reply : A → Reply) (config : ConfigValue) (old new : States) (q : Request) (reply : Reply) (refusal : Refusal) → TrueReply config old q reply new → reply ≡ Refused refusal → AnswersTruly as_reply config old q (Err refusal) new
told_none as_reply config old new q reply refusal h e = inl (subst (λ (r : Reply). TrueReply config old q r new) e h)
