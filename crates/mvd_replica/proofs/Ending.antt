-- The ends of one frame.
use Rattle.std.proofs.Common.{◌≡◌, ◌≢◌, ℕ, List, [], ◌∷◌, ◌++◌, Option, Some, None, Result, Ok, Err, inl, inr, refl, sym, ap, ◌∙◌, subst, append-nil, option_map, if◌then◌else◌, Bool}
use Rattle.std.specs.Result.{IfErr, OnErr, OnOk}
use Rattle.std.specs.Io.KnownBytes.{Appends}
use Rattle.mvd_dots.specs.declared.refusals.Refusal.{Refusal}
use Rattle.mvd_dots.specs.declared.refusals.Refusal.TheVariants.{Memory, Broken, ReadFailed, WriteFailed, TooManyRequests}
use Rattle.mvd_wire.specs.declared.request.Request.{Request}
use Rattle.mvd_wire.specs.declared.request.Request.TheVariants.{Bye}
use Rattle.mvd_wire.specs.declared.reply.Reply.{Reply}
use Rattle.mvd_wire.specs.declared.reply.Reply.TheVariants.{Done, Refused}
use Rattle.mvd_site.specs.Sites.{SiteValue}
use Rattle.mvd_wire.specs.declared.frame.Frame.{Frame}
use Rattle.mvd_wire.specs.Frames.{AppendsFront, EndsReading, Reads, frame_at, frame_value}
use Rattle.mvd_wire.specs.Requests.{request_of}
use Rattle.mvd_wire.specs.Replies.{reply_bytes}
use Rattle.mvd_frames.proofs.FramesRead.{no_frame_taken}
use Rattle.mvd_replica.specs.declared.serving.Ended.{Ended}
use Rattle.mvd_replica.specs.declared.serving.Ended.TheVariants as ended
use Rattle.mvd_replica.specs.Sides.{replica_follows_self}
use Rattle.mvd_replica.specs.Whole.{leaves_self}
use Rattle.mvd_replica.specs.Turns.{AreFrames, IsFirstBroken, LeavesTurns, Replies, StandsOn, Turn}
use Rattle.mvd_replica.specs.Served.{AtBye, AtEnd, AtRefusal, AtWriter, ServesTurns, StopsServing, Went}
use Rattle.mvd_replica.specs.Steps.{EndsConversation, IsSent, RepliesTo}
use Rattle.mvd_replica.proofs.Leaving.{leaves_sent}
use Rattle.mvd_replica.proofs.Positions.{GoesOut, ReplicaFollows, conversation_at, stored_site}
use Rattle.std.proofs.KnownBytes.{Appends-nil}
use Rattle.mvd_replica.proofs.Whole.{GoesOut-err}
use Rattle.mvd_replica.proofs.Breaking.{follows_bye, follows_sent, told_sent}
use Rattle.sqlite.specs.State.{State}
use Rattle.mvd_replica.proofs.Replying.{Replies-none, Replies-one, RepliesOne-sent, StandsOn-none, StandsOn-one, HasChoice-none, HasChoice-sent}

-- no turn was taken
serves_none : (site : SiteValue) (store : State) → ServesTurns [] (stored_site site store) (stored_site site store)
serves_none site store = record {
  replies = Replies-none site;
  stands = StandsOn-none site;
  choice = HasChoice-none;
  goes_on = tt;
  told = λ _. tt;
  follows = replica_follows_self _;
  leaves = leaves_self _ _ tt;
}

-- one was
serves_one : (asked : Result Request Refusal) (old new : SiteValue) (was store : State) (reply sent : Reply) → RepliesTo asked old new reply → ReplicaFollows (λ request. asked ≡ Ok request) old new was store →
    LeavesTurns (record { asked = asked; reply = reply } ∷ []) (stored_site old was) (stored_site new store) → IsSent reply sent →
    ServesTurns (record { asked = asked; reply = sent } ∷ []) (stored_site old was) (stored_site new store)
serves_one asked old new was store reply sent replied follows leaves is =
    let one = RepliesOne-sent old new asked reply sent is replied.long replied.one in
    record {
      replies = Replies-one old new (record { asked = asked; reply = sent }) one;
      stands = StandsOn-one old new (record { asked = asked; reply = sent }) one;
      choice = HasChoice-sent asked reply sent is replied.choice;
      goes_on = (replied.goes_on, tt);
      told = told_sent asked old new reply sent is replied;
      follows = follows_sent asked old new was store reply sent is replied follows;
      leaves = leaves_sent asked reply sent (stored_site old was) (stored_site new store) is leaves;
    }

-- ---- the ends

pub at_end : (site : SiteValue) (store : State) (before after output : Option (List ℕ)) → Reads (option_map frame_value) before after (Ok None) frame_at →
    EndsConversation (conversation_at site store before output) (conversation_at site store after output) (Ok ended.End)
at_end site store before after output came = record {
  turns = [];
  ending = AtEnd;
  takes = serves_none site store;
  count = refl;
  read = λ bytes known.
      let p : (rest : List ℕ) × (after ≡ Some rest) × (frame_at bytes ≡ Ok (None, rest)) = came bytes known in
      let none : (bytes ≡ []) × (p.0 ≡ []) = no_frame_taken bytes p.0 p.2 in
      (bytes, refl, (none.0, p.1 ∙ ap (λ l. Some l) none.1));
  wrote = inl (refl, Appends-nil output);
}

told : (e : Refusal) (bytes : List ℕ) (left : Option (List ℕ)) → EndsReading e → (e ≢ Memory → e ≢ ReadFailed → frame_at bytes ≡ Err e) → StopsServing bytes left (AtRefusal e)
told e bytes left (inl is) exact = inr (inr (inr (exact (λ h. cc) (λ h. cc))))
told e bytes left (inr (inl is)) exact = inr (inr (inr (exact (λ h. cc) (λ h. cc))))
told e bytes left (inr (inr (inl is))) exact = inr (inl is)
told e bytes left (inr (inr (inr is))) exact = inl is

few : (e : Refusal) → EndsReading e → e ≡ TooManyRequests → ⊥
few e (inl is) h = cc
few e (inr (inl is)) h = cc
few e (inr (inr (inl is))) h = cc
few e (inr (inr (inr is))) h = cc

pub at_refusal : (site : SiteValue) (store : State) (before after output out : Option (List ℕ)) (e : Refusal) (fault : Refusal) → Reads (option_map frame_value) before after (Err e) frame_at → EndsReading e →
    GoesOut output out (reply_bytes (Refused e)) WriteFailed fault e →
    EndsConversation (conversation_at site store before output) (conversation_at site store after out) (Err fault)
at_refusal site store before after output out e fault came which wrote = record {
  turns = [];
  ending = AtRefusal e;
  takes = serves_none site store;
  count = (refl, few e which);
  read = λ bytes known. (bytes, refl, told e bytes after which (came bytes known));
  wrote = GoesOut-err output out (reply_bytes (Refused e)) WriteFailed fault e wrote;
}

bye_stops : (before after : Option (List ℕ)) (frame : Frame) → Reads (option_map frame_value) before after (Ok (Some frame)) frame_at → request_of frame.kind frame.payload.items ≡ Ok Bye →
    (bytes : List ℕ) → before ≡ Some bytes → (rest : List ℕ) × AreFrames [] bytes rest × StopsServing rest after AtBye
bye_stops before after frame came asked bytes known =
    let p : (rest : List ℕ) × (after ≡ Some rest) × (frame_at bytes ≡ Ok (Some (frame_value frame), rest)) = came bytes known in
    (bytes, refl, (frame_value frame, p.0, p.2, asked, p.1))

at_bye : (old site : SiteValue) (was store : State) (before after output out : Option (List ℕ)) (frame : Frame) (result : Result Ended Refusal) → Reads (option_map frame_value) before after (Ok (Some frame)) frame_at →
    request_of frame.kind frame.payload.items ≡ Ok Bye → site ≡ old → ReplicaFollows (IsFirstBroken []) old site was store → LeavesTurns [] (stored_site old was) (stored_site site store) →
    GoesOut output out (reply_bytes (if site.broken then Refused Broken else Done)) (Err WriteFailed) result (Ok ended.Bye) →
    EndsConversation (conversation_at old was before output) (conversation_at site store after out) result
at_bye old site was store before after output out frame result came asked same follows leaves wrote = record {
  turns = [];
  ending = AtBye;
  takes = record {
    replies = subst (λ s. Replies s site []) same (Replies-none site);
    stands = subst (λ s. StandsOn s site []) same (StandsOn-none site);
    choice = HasChoice-none;
    goes_on = tt;
    told = λ _. tt;
    follows = follows;
    leaves = leaves;
  };
  count = refl;
  read = bye_stops before after frame came asked;
  wrote = wrote;
}

goes_on : (old new : SiteValue) (was store : State) (before after output out : Option (List ℕ)) (frame : Frame) (reply sent : Reply) → Reads (option_map frame_value) before after (Ok (Some frame)) frame_at →
    RepliesTo (request_of frame.kind frame.payload.items) old new reply → ReplicaFollows (λ request. request_of frame.kind frame.payload.items ≡ Ok request) old new was store →
    LeavesTurns (record { asked = request_of frame.kind frame.payload.items; reply = reply } ∷ []) (stored_site old was) (stored_site new store) → IsSent reply sent →
    Appends output out (reply_bytes sent) →
    (turn : Turn) × Went (turn ∷ []) (conversation_at old was before output) (conversation_at new store after out)
goes_on old new was store before after output out frame reply sent came replied follows leaves is wrote =
    let asked = request_of frame.kind frame.payload.items in
    let turn : Turn = record { asked = asked; reply = sent } in (
      turn,
      record {
        takes = serves_one asked old new was store reply sent replied follows leaves is;
        config = replied.config;
        read = λ bytes known.
            let p : (rest : List ℕ) × (after ≡ Some rest) × (frame_at bytes ≡ Ok (Some (frame_value frame), rest)) = came bytes known in
            (p.0, p.1, (frame_value frame, p.0, p.2, refl, refl));
        wrote = subst (Appends output out) (sym (append-nil (reply_bytes sent))) wrote;
      },
    )

at_writer : (old new : SiteValue) (was store : State) (before after output out : Option (List ℕ)) (frame : Frame) (reply sent : Reply) → Reads (option_map frame_value) before after (Ok (Some frame)) frame_at →
    RepliesTo (request_of frame.kind frame.payload.items) old new reply → ReplicaFollows (λ request. request_of frame.kind frame.payload.items ≡ Ok request) old new was store →
    LeavesTurns (record { asked = request_of frame.kind frame.payload.items; reply = reply } ∷ []) (stored_site old was) (stored_site new store) → IsSent reply sent →
    AppendsFront output out (reply_bytes sent) →
    EndsConversation (conversation_at old was before output) (conversation_at new store after out) (Err WriteFailed)
at_writer old new was store before after output out frame reply sent came replied follows leaves is wrote =
    let asked = request_of frame.kind frame.payload.items in
    let turn : Turn = record { asked = asked; reply = sent } in
    let same : reply_bytes sent ≡ (reply_bytes sent ++ []) ++ [] = sym (append-nil (reply_bytes sent)) ∙ sym (append-nil (reply_bytes sent ++ [])) in record {
      turns = turn ∷ [];
      ending = AtWriter;
      takes = serves_one asked old new was store reply sent replied follows leaves is;
      count = refl;
      read = λ bytes known.
          let p : (rest : List ℕ) × (after ≡ Some rest) × (frame_at bytes ≡ Ok (Some (frame_value frame), rest)) = came bytes known in
          (p.0, (frame_value frame, p.0, p.2, refl, refl), p.1);
      wrote = inr (refl, subst (AppendsFront output out) same wrote);
    }

-- ---- as the code has them

pub came : {before after : Option (List ℕ)} {found frame : Option Frame} → found ≡ frame → Reads (option_map frame_value) before after (Ok found) frame_at → Reads (option_map frame_value) before after (Ok frame) frame_at
came {before} {after} same reads = subst (λ o. Reads (option_map frame_value) before after (Ok o) frame_at) same reads

last_is : (site : SiteValue) (broken : Bool) (bytes : List ℕ) → broken ≡ site.broken → bytes ≡ reply_bytes (if broken then Refused Broken else Done) → bytes ≡ reply_bytes (if site.broken then Refused Broken else Done)
last_is site broken bytes same is = is ∙ ap (λ b. reply_bytes (if b then Refused Broken else Done)) same

pub at_bye_ok : (old site : SiteValue) (was store : State) (before after output out : Option (List ℕ)) (frame : Frame) (broken : Bool) (bytes : List ℕ) → Reads (option_map frame_value) before after (Ok (Some frame)) frame_at →
    request_of frame.kind frame.payload.items ≡ Ok Bye → site ≡ old → ReplicaFollows (λ request. request_of frame.kind frame.payload.items ≡ Ok request) old site was store → LeavesTurns [] (stored_site old was) (stored_site site store) →
    broken ≡ site.broken → bytes ≡ reply_bytes (if broken then Refused Broken else Done) → Appends output out bytes →
    EndsConversation (conversation_at old was before output) (conversation_at site store after out) (Ok ended.Bye)
at_bye_ok old site was store before after output out frame broken bytes came asked same follows leaves is last wrote =
    at_bye old site was store before after output out frame (Ok ended.Bye) came asked same (follows_bye _ old site was store same follows) leaves (inl (refl, subst (Appends output out) (last_is site broken bytes is last) wrote))

pub at_bye_failed : (old site : SiteValue) (was store : State) (before after output out : Option (List ℕ)) (frame : Frame) (broken : Bool) (bytes : List ℕ) (failed : Refusal) → Reads (option_map frame_value) before after (Ok (Some frame)) frame_at →
    request_of frame.kind frame.payload.items ≡ Ok Bye → site ≡ old → ReplicaFollows (λ request. request_of frame.kind frame.payload.items ≡ Ok request) old site was store → LeavesTurns [] (stored_site old was) (stored_site site store) →
    broken ≡ site.broken → bytes ≡ reply_bytes (if broken then Refused Broken else Done) → failed ≡ WriteFailed → AppendsFront output out bytes →
    EndsConversation (conversation_at old was before output) (conversation_at site store after out) (Err failed)
at_bye_failed old site was store before after output out frame broken bytes failed came asked same follows leaves is last why wrote =
    at_bye old site was store before after output out frame (Err failed) came asked same (follows_bye _ old site was store same follows) leaves (inr (ap (λ (r : Refusal). Err r) why, subst (AppendsFront output out) (last_is site broken bytes is last) wrote))

appended : (output out : Option (List ℕ)) (bytes : List ℕ) → GoesOut {X = Result (Unit {0}) Refusal} output out bytes (Err WriteFailed) (Ok tt) (Ok tt) → Appends output out bytes
appended output out bytes (inl h) = h.1
appended output out bytes (inr h) = let no : ◌≡◌ {A = Result (Unit {0}) Refusal} (Ok tt) (Err WriteFailed) = h.0 in absurd cc

fronted : (output out : Option (List ℕ)) (bytes : List ℕ) (failed : Refusal) → GoesOut {X = Result (Unit {0}) Refusal} output out bytes (Err WriteFailed) (Err failed) (Ok tt) → (failed ≡ WriteFailed) × AppendsFront output out bytes
fronted output out bytes failed (inl h) = let no : ◌≡◌ {A = Result (Unit {0}) Refusal} (Err failed) (Ok tt) = h.0 in absurd cc
fronted output out bytes failed (inr h) = let is : ◌≡◌ {A = Result (Unit {0}) Refusal} (Err failed) (Err WriteFailed) = h.0 in (cc, h.1)

pub goes_on_sent : (old new : SiteValue) (was store : State) (before after output out : Option (List ℕ)) (frame : Frame) (reply : Reply) → Reads (option_map frame_value) before after (Ok (Some frame)) frame_at →
    RepliesTo (request_of frame.kind frame.payload.items) old new reply → ReplicaFollows (λ request. request_of frame.kind frame.payload.items ≡ Ok request) old new was store →
    LeavesTurns (record { asked = request_of frame.kind frame.payload.items; reply = reply } ∷ []) (stored_site old was) (stored_site new store) →
    ((sent : Reply) × IsSent reply sent × GoesOut {X = Result (Unit {0}) Refusal} output out (reply_bytes sent) (Err WriteFailed) (Ok tt) (Ok tt)) →
    (turn : Turn) × Went (turn ∷ []) (conversation_at old was before output) (conversation_at new store after out)
goes_on_sent old new was store before after output out frame reply came replied follows leaves sent =
    goes_on old new was store before after output out frame reply sent.0 came replied follows leaves sent.1 (appended output out (reply_bytes sent.0) sent.2)

pub at_writer_sent : (old new : SiteValue) (was store : State) (before after output out : Option (List ℕ)) (frame : Frame) (reply : Reply) (failed : Refusal) → Reads (option_map frame_value) before after (Ok (Some frame)) frame_at →
    RepliesTo (request_of frame.kind frame.payload.items) old new reply → ReplicaFollows (λ request. request_of frame.kind frame.payload.items ≡ Ok request) old new was store →
    LeavesTurns (record { asked = request_of frame.kind frame.payload.items; reply = reply } ∷ []) (stored_site old was) (stored_site new store) →
    ((sent : Reply) × IsSent reply sent × GoesOut {X = Result (Unit {0}) Refusal} output out (reply_bytes sent) (Err WriteFailed) (Err failed) (Ok tt)) →
    EndsConversation (conversation_at old was before output) (conversation_at new store after out) (Err failed)
at_writer_sent old new was store before after output out frame reply failed came replied follows leaves sent =
    let why : (failed ≡ WriteFailed) × AppendsFront output out (reply_bytes sent.0) = fronted output out (reply_bytes sent.0) failed sent.2 in
    subst (λ (r : Refusal). EndsConversation (conversation_at old was before output) (conversation_at new store after out) (Err r)) (sym why.0)
    (at_writer old new was store before after output out frame reply sent.0 came replied follows leaves sent.1 why.1)

-- a frame that was written, or a front of it
pub goes_out : (output out : Option (List ℕ)) (bytes wanted : List ℕ) (result : Result (Unit {0}) Refusal) → bytes ≡ wanted → OnOk result (Appends output out bytes) → OnErr result (AppendsFront output out bytes) →
    IfErr result (λ e. e ≡ WriteFailed) → GoesOut {X = Result (Unit {0}) Refusal} output out wanted (Err WriteFailed) result (Ok tt)
goes_out output out bytes wanted (Ok done) is ok front err = inl (refl, subst (Appends output out) is ok)
goes_out output out bytes wanted (Err e) is ok front err = inr (ap (λ (r : Refusal). Err r) err, subst (AppendsFront output out) is front)
