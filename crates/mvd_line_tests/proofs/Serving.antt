-- A site at hand, behind a true line.
use Rattle.std.proofs.Common.{◌≡◌, inl, inr, ℕ, ◌+◌, ◌≤◌, true, false, List, [], ◌∷◌, ◌++◌, length, Option, Some, None, refl, sym, ap, subst, ◌∙◌, leb-true}
use Rattle.std.proofs.Math.Seq.{take-append_seam}
use Rattle.std.proofs.lemmas.List.{append-nil, append_assoc}
use Rattle.std.specs.Prelude.{Result, Ok, Err, IfOk, IfSome, option_map, nat_le, if◌then◌else◌}
use Rattle.mvd_dots.specs.declared.refusals.Refusal.{Refusal}
use Rattle.mvd_dots.specs.declared.refusals.Refusal.TheVariants.{FrameTooLong, StateTooLarge, BadBody}
use Rattle.mvd_keys.specs.State.{State}
use Rattle.mvd_wire.specs.declared.request.Request.{Request}
use Rattle.mvd_wire.specs.declared.request.Request.TheVariants.{Get, Put, Delete, Find, Row, Rows, Node, Bucket, Push, Range, Keys as KeysAsked, Conflicts, Hello, Bye}
use Rattle.mvd_wire.specs.Codecs.{spell_state, state_limit}
use Rattle.mvd_wire.specs.Frames.{FrameValue, Reads, frame_at, frame_limit, frame_value, length_at, spell_frame}
use Rattle.mvd_wire.specs.Requests.{SpellsRequest, framed, request_frame, within_limit}
use Rattle.mvd_wire.specs.Requests as asked
use Rattle.mvd_wire.specs.Replies as answered
use Rattle.mvd_wire.specs.Replies.{reply_of, within_page}
use Rattle.mvd_wire.specs.Rows.{page_limit}
use Rattle.mvd_wire.specs.declared.frame.Frame.{Frame}
use Rattle.mvd_wire.specs.declared.reply.Reply.TheVariants as told
use Rattle.mvd_frames.proofs.FrameLemmas.{frame_again}
use Rattle.mvd_frames.proofs.ReplyLaws.{replies_again}
use Rattle.mvd_wire.specs.declared.reply.Reply.{Reply}
use Rattle.mvd_wire.specs.declared.reply.Reply.TheVariants.{Done, Keys, Refused}
use Rattle.mvd_site.specs.Config.{ConfigValue}
use Rattle.mvd_site.specs.Held.{States}
use Rattle.mvd_site.specs.Sites.{SiteValue}
use Rattle.mvd_line_tests.specs.Serving.{TakesOneRequest, far_at}
use Rattle.mvd_remote.specs.Lines.{AreRequestFrames, Far, IsNextReply, TakesAll, TakesFirst, TrueReplies, TrueReply}

-- ---- frames

frame_is : (kind : ℕ) (payload bytes : List ℕ) → framed kind payload ≡ Ok bytes → (bytes ≡ spell_frame (record { kind = kind; payload = payload })) × (length payload + 1 ≤ frame_limit)
frame_is kind payload bytes e = elim (nat_le (length payload + 1) frame_limit) as (λ b. nat_le (length payload + 1) frame_limit ≡ b → (if b then Ok (spell_frame (record { kind = kind; payload = payload })) else Err FrameTooLong) ≡ Ok bytes → (bytes ≡ spell_frame (record { kind = kind; payload = payload })) × (length payload + 1 ≤ frame_limit)) [
  | true ↦ λ is e. (cc, leb-true _ _ is)
  | false ↦ λ is e. absurd (cc)
] refl e

-- the frame of a request, read
abbrev asked_frame : Request → FrameValue
asked_frame q = record { kind = asked.request_kind q; payload = asked.request_payload q }

within_is : (s : State) (kind : ℕ) (payload bytes : List ℕ) → within_limit s (framed kind payload) ≡ Ok bytes → framed kind payload ≡ Ok bytes
within_is s kind payload bytes e = elim (nat_le (length (spell_state s)) state_limit) as (λ b. (if b then framed kind payload else Err StateTooLarge) ≡ Ok bytes → framed kind payload ≡ Ok bytes) [
  | true ↦ λ e. e
  | false ↦ λ e. absurd (cc)
] e

request_spelled : (q : Request) (bytes : List ℕ) → request_frame q ≡ Ok bytes → (bytes ≡ spell_frame (asked_frame q)) × (length (asked.request_payload q) + 1 ≤ frame_limit)
request_spelled (Get k) bytes e = frame_is _ _ bytes e
request_spelled (Put k c d) bytes e = frame_is _ _ bytes e
request_spelled (Delete k c) bytes e = frame_is _ _ bytes e
request_spelled (Find f t after) bytes e = frame_is _ _ bytes e
request_spelled (Row v t) bytes e = frame_is _ _ bytes e
request_spelled (Rows v after) bytes e = frame_is _ _ bytes e
request_spelled (Node p) bytes e = frame_is _ _ bytes e
request_spelled (Bucket p after) bytes e = frame_is _ _ bytes e
request_spelled (Push k s) bytes e = frame_is _ _ bytes (within_is s 0x29 (asked.push.spell (k, s)) bytes e)
request_spelled (Range f from to after) bytes e = frame_is _ _ bytes e
request_spelled (KeysAsked p after) bytes e = frame_is _ _ bytes e
request_spelled (Conflicts after) bytes e = frame_is _ _ bytes e
request_spelled (Hello t) bytes e = frame_is _ _ bytes e
request_spelled Bye bytes e = frame_is 0x2F [] bytes e

-- the first frame of what was sent
first_frame : (q : Request) (frame rest bytes : List ℕ) → request_frame q ≡ Ok frame → bytes ≡ frame ++ rest → frame_at bytes ≡ Ok (Some (asked_frame q), rest)
first_frame q frame rest bytes is e =
    let spelled = request_spelled q frame is in
    subst (λ b. frame_at b ≡ Ok (Some (asked_frame q), rest)) (sym (e ∙ ap (λ f. f ++ rest) spelled.0)) (frame_again (asked_frame q) rest spelled.1)

no_frame : frame_at [] ≡ Ok (None, [])
unfolding frame_at length_at
no_frame = refl

-- ---- what was sent, frame by frame

-- so many of the requests were taken, and these bytes are left
pub record Went (old new : Far) (requests : List Request) (bytes : List ℕ) : Type 0 where
  pub done : List Request
  pub left : List Request
  pub all : requests ≡ done ++ left
  pub replies : List Reply
  pub are_true : TrueReplies old.config old.states done replies new.states
  pub due : new.due ≡ old.due ++ replies
  pub frames : AreRequestFrames left bytes
  pub config : new.config ≡ old.config

-- none yet
pub went_none : (old : Far) (requests : List Request) (bytes : List ℕ) → AreRequestFrames requests bytes → Went old old requests bytes
went_none old requests bytes frames = record { done = []; left = requests; all = refl; replies = []; are_true = refl; due = sym (append-nil old.due); frames = frames; config = refl }

replies_append : (config : ConfigValue) (old mid new : States) (qs : List Request) (rs : List Reply) (q : Request) (r : Reply) → TrueReplies config old qs rs mid → TrueReply config mid q r new → TrueReplies config old (qs ++ q ∷ []) (rs ++ r ∷ []) new
replies_append config old mid new [] [] q r h t = (new, subst (λ m. TrueReply config m q r new) h t, refl)
replies_append config old mid new [] (s ∷ rs) q r h t = absurd h
replies_append config old mid new (p ∷ qs) [] q r h t = absurd h
replies_append config old mid new (p ∷ qs) (s ∷ rs) q r h t = (h.0, h.1, replies_append config h.0 mid new qs rs q r h.2 t)

first_of : (config : ConfigValue) (old new : States) (done left : List Request) (replies : List Reply) → TrueReplies config old done replies new → TakesFirst config old (done ++ left) new
first_of config old new done left replies h = (length done, replies, subst (λ (qs : List Request). TrueReplies config old qs replies new) (sym (take-append_seam done left)) h)

-- it stops here
pub went_some : (old new : Far) (requests : List Request) (bytes : List ℕ) → Went old new requests bytes → TakesFirst old.config old.states requests new.states
went_some old new requests bytes w = subst (λ (qs : List Request). TakesFirst old.config old.states qs new.states) (sym w.all) (first_of old.config old.states new.states w.done w.left w.replies w.are_true)

front : Result (Option FrameValue × List ℕ) Refusal → Option FrameValue
front (Ok p) = p.0
front (Err refusal) = None

behind : Result (Option FrameValue × List ℕ) Refusal → List ℕ
behind (Ok p) = p.1
behind (Err refusal) = []

abbrev read_at : Option FrameValue → List ℕ → Result (Option FrameValue × List ℕ) Refusal
read_at frame rest = Ok (frame, rest)

fronts : (a b : Option FrameValue) (r s : List ℕ) → read_at a r ≡ read_at b s → a ≡ b
unfolding front
fronts a b r s e = ap front e

behinds : (a b : Option FrameValue) (r s : List ℕ) → read_at a r ≡ read_at b s → r ≡ s
unfolding behind
behinds a b r s e = ap behind e

pub nothing_left : (left : List Request) (bytes rest : List ℕ) → AreRequestFrames left bytes → frame_at bytes ≡ Ok (None, rest) → left ≡ []
nothing_left [] bytes rest h e = refl
nothing_left (q ∷ qs) bytes rest h e = let never = fronts None (Some (asked_frame q)) rest h.1 (sym e ∙ first_frame q h.0 h.1 bytes h.3 h.4) in absurd (cc)

-- no frame is left
pub went_all : (old new : Far) (requests : List Request) (bytes : List ℕ) (came : Option Frame) (rest : List ℕ) → came ≡ None → frame_at bytes ≡ Ok (option_map frame_value came, rest) → Went old new requests bytes → TakesAll old requests new
went_all old new requests bytes came rest is e w =
    let none = nothing_left w.left bytes rest w.frames (subst (λ o. frame_at bytes ≡ Ok (option_map frame_value o, rest)) is e) in
    let whole : requests ≡ w.done = w.all ∙ ap (λ l. w.done ++ l) none ∙ append-nil w.done in
    record { replies = w.replies; are_true = subst (λ (qs : List Request). TrueReplies old.config old.states qs w.replies new.states) (sym whole) w.are_true; due = w.due }

-- a frame was read: it is that of the next request
pub record Next (left : List Request) (frame : Frame) (rest : List ℕ) : Type 0 where
  pub q : Request
  pub later : List Request
  pub is : left ≡ q ∷ later
  pub spells : SpellsRequest q frame.kind frame.payload.items
  pub frames : AreRequestFrames later rest

pub next_of : (left : List Request) (bytes : List ℕ) (frame : Frame) (rest : List ℕ) → AreRequestFrames left bytes → frame_at bytes ≡ Ok (Some (frame_value frame), rest) → Next left frame rest
next_of [] bytes frame rest h e = let never = fronts None (Some (frame_value frame)) [] rest (sym no_frame ∙ subst (λ b. frame_at b ≡ Ok (Some (frame_value frame), rest)) h e) in absurd (cc)
next_of (q ∷ qs) bytes frame rest h e =
    let both = sym (first_frame q h.0 h.1 bytes h.3 h.4) ∙ e in
    let some : Some (asked_frame q) ≡ Some (frame_value frame) = fronts (Some (asked_frame q)) (Some (frame_value frame)) h.1 rest both in
    let value : asked_frame q ≡ frame_value frame = cc in
    record {
      q = q;
      later = qs;
      is = refl;
      spells = (h.2, sym (ap (λ (f : FrameValue). f.kind) value), sym (ap (λ (f : FrameValue). f.payload) value));
      frames = subst (AreRequestFrames qs) (behinds (Some (asked_frame q)) (Some (frame_value frame)) h.1 rest both) h.5;
    }

module _ (old mid new : Far) (requests : List Request) (bytes : List ℕ) (came : Option Frame) (frame : Frame) (rest : List ℕ) (is : came ≡ Some frame) (e : frame_at bytes ≡ Ok (option_map frame_value came, rest)) (w : Went old mid requests bytes) where
  here : Next w.left frame rest
  here = next_of w.left bytes frame rest w.frames (subst (λ o. frame_at bytes ≡ Ok (option_map frame_value o, rest)) is e)

  split : requests ≡ (w.done ++ here.q ∷ []) ++ here.later
  split = w.all ∙ ap (λ l. w.done ++ l) here.is ∙ sym (append_assoc w.done (here.q ∷ []) here.later)

  at_mid : (r : Reply) → TrueReply mid.config mid.states here.q r new.states → TrueReply old.config mid.states here.q r new.states
  at_mid r t = subst (λ m. TrueReply m mid.states here.q r new.states) w.config t

  -- it was taken, and its reply waits
  pub went_on : new.config ≡ mid.config → ((q : Request) → SpellsRequest q frame.kind frame.payload.items → TakesOneRequest mid q new (Ok tt)) → Went old new requests rest
  went_on config takes =
      let one = takes here.q here.spells in
      record {
        done = w.done ++ here.q ∷ [];
        left = here.later;
        all = split;
        replies = w.replies ++ one.0 ∷ [];
        are_true = replies_append old.config old.states mid.states new.states w.done w.replies here.q one.0 w.are_true (at_mid one.0 one.1);
        due = one.2 ∙ ap (λ l. l ++ one.0 ∷ []) w.due ∙ append_assoc old.due w.replies (one.0 ∷ []);
        frames = here.frames;
        config = config ∙ w.config;
      }

  -- there was no memory for its reply
  pub went_cut : (refusal : Refusal) → ((q : Request) → SpellsRequest q frame.kind frame.payload.items → TakesOneRequest mid q new (Err refusal)) → TakesFirst old.config old.states requests new.states
  went_cut refusal takes = elim (takes here.q here.spells) [
    | inl same ↦ subst (TakesFirst old.config old.states requests) (sym same) (went_some old mid requests bytes w)
    | inr one ↦ subst (λ (qs : List Request). TakesFirst old.config old.states qs new.states) (sym split) (first_of old.config old.states new.states (w.done ++ here.q ∷ []) here.later (w.replies ++ one.0 ∷ []) (replies_append old.config old.states mid.states new.states w.done w.replies here.q one.0 w.are_true (at_mid one.0 one.1)))
  ]

-- ---- one request that was sent

-- its reply waits
pub queued : (old new : SiteValue) (was waits : List Reply) (q x : Request) (reply : Reply) → x ≡ q → TrueReply old.config old.states x reply new.states → waits ≡ was ++ reply ∷ [] → TakesOneRequest (far_at old was) q (far_at new waits) (Ok tt)
queued old new was waits q x reply e t w = (reply, subst (λ (y : Request). TrueReply old.config old.states y reply new.states) e t, w)

-- ---- a reply that is taken

page_is : {X : Type 0} (xs : List X) (kind : ℕ) (payload bytes : List ℕ) → within_page xs (framed kind payload) ≡ Ok bytes → framed kind payload ≡ Ok bytes
page_is xs kind payload bytes e = elim (nat_le (length xs) page_limit) as (λ b. (if b then framed kind payload else Err BadBody) ≡ Ok bytes → framed kind payload ≡ Ok bytes) [
  | true ↦ λ e. e
  | false ↦ λ e. absurd (cc)
] e

abbrev told_frame : Reply → FrameValue
told_frame r = record { kind = answered.reply_kind r; payload = answered.reply_payload r }

reply_spelled : (r : Reply) (bytes : List ℕ) → answered.reply_frame r ≡ Ok bytes → (bytes ≡ spell_frame (told_frame r)) × (length (answered.reply_payload r) + 1 ≤ frame_limit)
reply_spelled (told.State s) bytes e = frame_is _ _ bytes (within_is s 0xA1 (spell_state s) bytes e)
reply_spelled (told.Written d) bytes e = frame_is _ _ bytes e
reply_spelled told.Done bytes e = frame_is 0xA3 [] bytes e
reply_spelled (told.Places ps more) bytes e = frame_is _ _ bytes (page_is ps _ _ bytes e)
reply_spelled (told.Row r) bytes e = frame_is _ _ bytes e
reply_spelled (told.Rows rs more) bytes e = frame_is _ _ bytes (page_is rs _ _ bytes e)
reply_spelled (told.Digests d) bytes e = frame_is _ _ bytes e
reply_spelled (told.Keys ks more) bytes e = frame_is _ _ bytes (page_is ks _ _ bytes e)
reply_spelled (told.Counts cs more) bytes e = frame_is _ _ bytes (page_is cs _ _ bytes e)
reply_spelled (told.Refused refusal) bytes e = frame_is _ _ bytes e

-- the frame that is read spells it
pub next_reply : (r : Reply) (bytes : List ℕ) (after : Option (List ℕ)) (due left : List Reply) (result : Result (Option Frame) Refusal) → answered.reply_frame r ≡ Ok bytes → answered.IsReply r → due ≡ r ∷ left → Reads (option_map frame_value) (Some bytes) after result frame_at → IfOk result (λ came. IfSome came (λ frame. IsNextReply due left (frame_value frame)))
next_reply r bytes after due left (Err refusal) e fits is reads = tt
next_reply r bytes after due left (Ok None) e fits is reads = tt
next_reply r bytes after due left (Ok (Some frame)) e fits is reads =
    let spelled = reply_spelled r bytes e in
    let all : bytes ≡ spell_frame (told_frame r) ++ [] = spelled.0 ∙ sym (append-nil (spell_frame (told_frame r))) in
    let first : frame_at bytes ≡ Ok (Some (told_frame r), []) = subst (λ b. frame_at b ≡ Ok (Some (told_frame r), [])) (sym all) (frame_again (told_frame r) [] spelled.1) in
    let came = reads bytes refl in
    let both : read_at (Some (told_frame r)) [] ≡ read_at (Some (frame_value frame)) came.0 = sym first ∙ came.2 in
    let some : Some (told_frame r) ≡ Some (frame_value frame) = fronts (Some (told_frame r)) (Some (frame_value frame)) [] came.0 both in
    let value : told_frame r ≡ frame_value frame = cc in
    subst (λ ds. IsNextReply ds left (frame_value frame)) (sym is) (subst (λ (f : FrameValue). reply_of f.kind f.payload ≡ Ok r) value (replies_again r fits), refl)
