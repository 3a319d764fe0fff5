-- The bytes that a host queued for a client are live mail.
use Rattle.std.proofs.Common.{◌≡◌, inl, inr, ℕ, ◌==◌, true, false, List, [], ◌∷◌, ◌++◌, map, Some, refl, sym, ap, subst, ◌∙◌, true≢false}
use Rattle.std.specs.Prelude.{Ok, Err, Result, flat_map, if◌then◌else◌}
use Rattle.std.specs.List.{AllByRecursion, concat}
use Rattle.mvd_dots.specs.declared.refusals.Refusal.{Refusal}
use Rattle.mvd_dots.specs.declared.refusals.Refusal.TheVariants.{Memory}
use Rattle.mvd_wire.specs.Frames.{FrameValue, frame_at}
use Rattle.mvd_wire.specs.Replies.{CanBeSent, IsReply, is_short, reply_bytes, refusal, reply_kind, reply_payload}
use Rattle.mvd_wire.specs.declared.reply.Reply.{Reply}
use Rattle.mvd_wire.specs.declared.reply.Reply.TheVariants as reply
use Rattle.mvd_wire.specs.declared.request.Request.{Request}
use Rattle.mvd_wire.specs.declared.request.Request.TheVariants.{Bucket, Get, Node, Push}
use Rattle.mvd_frames.proofs.FrameLemmas.{frame_again}
use Rattle.mvd_frames.proofs.ReplyLaws.{replies_again}
use Rattle.mvd_conn.specs.Stands.{IsQueued}
use Rattle.mvd_conn.proofs.LengthLemmas.{payload_fits}
use Rattle.mvd_site.specs.Config.{ConfigValue}
use Rattle.mvd_site.specs.Held.{AreHeld, States}
use Rattle.mvd_site.specs.Sites.{SiteValue}
use Rattle.mvd_site.proofs.Outcomes.{refused_fits}
use Rattle.mvd_remote.specs.Lines.{TrueReply}
use Rattle.mvd_replica.specs.Turns.{Turn}
use Rattle.mvd_replica.proofs.Batching.{fits_turn, form_turn}
use Rattle.mvd_host.specs.Course.{AreQueued, own}
use Rattle.mvd_host.specs.Round.{ServesAllFrom, turns_of}
use Rattle.mvd_host.proofs.Positions.{ServesFrom}
use Rattle.mvd_remote.specs.Remotes.{requests_of}
use Rattle.mvd_peer.specs.declared.window.Window.{Window}
use Rattle.mvd_peer.specs.declared.window.Window.TheVariants as wanted
use Rattle.mvd_live.specs.Answers.{AnswersAmong, AreReplyFrames, SiteTurn, own_replies, own_requests}
use Rattle.mvd_live.specs.Hosts.{TellsWindows, and_turn, site_turns}
use Rattle.mvd_live.proofs.Hosted.{host_answers}
use Rattle.mvd_live.proofs.Replied.{turns_among}
use Rattle.mvd_live.proofs.Whole.{grows_self}

-- ---- what a session asks

abbrev IsOfSession : Request → Type 0
IsOfSession (Get key) = Unit {0}
IsOfSession (Node path) = Unit {0}
IsOfSession (Bucket path after) = Unit {0}
IsOfSession (Push key state) = Unit {0}
IsOfSession request = ⊥

all_mapped : {Q : Type 0} (ask : Q → Request) → ((q : Q) → IsOfSession (ask q)) → (qs : List Q) → AllByRecursion IsOfSession (map ask qs)
all_mapped ask each [] = tt
all_mapped ask each (q ∷ qs) = (each q, all_mapped ask each qs)

window_asks : (window : Window) → AllByRecursion IsOfSession (requests_of window)
window_asks (wanted.Nodes paths) = all_mapped (λ path. Node path) (λ q. tt) paths.items
window_asks (wanted.Pages asked) = all_mapped (λ q. Bucket q.0 q.1) (λ q. tt) asked.items
window_asks (wanted.Gets keys) = all_mapped (λ key. Get key) (λ q. tt) keys.items
window_asks (wanted.Pushes pairs) = all_mapped (λ pair. Push pair.0 pair.1) (λ q. tt) pairs.items

all_both : {X : Type 0} (P : X → Type 0) (xs ys : List X) → AllByRecursion P xs → AllByRecursion P ys → AllByRecursion P (xs ++ ys)
all_both P [] ys p q = q
all_both P (x ∷ xs) ys p q = (p.0, all_both P xs ys p.1 q)

windows_ask : (windows : List Window) → AllByRecursion IsOfSession (flat_map requests_of windows)
windows_ask [] = tt
windows_ask (window ∷ windows) = all_both IsOfSession (requests_of window) (flat_map requests_of windows) (window_asks window) (windows_ask windows)

-- ---- one reply, as it was queued

-- want of memory in place of what was told is told truly
memory_instead : (config : ConfigValue) (before : States) (q : Request) (r : Reply) (held : States) → IsOfSession q → TrueReply config before q r held → is_short r ≡ false → TrueReply config before q (reply.Refused Memory) held
memory_instead config before (Get key) (reply.State s) held ok so long = (refl, so.1)
memory_instead config before (Get key) (reply.Refused x) held ok so long = absurd (true≢false long)
memory_instead config before (Get key) r held ok so long = absurd so
memory_instead config before (Node path) (reply.Digests d) held ok so long = (refl, so.1)
memory_instead config before (Node path) (reply.Refused x) held ok so long = absurd (true≢false long)
memory_instead config before (Node path) r held ok so long = absurd so
memory_instead config before (Bucket path after) (reply.Keys page more) held ok so long = (refl, so.2)
memory_instead config before (Bucket path after) (reply.Refused x) held ok so long = absurd (true≢false long)
memory_instead config before (Bucket path after) r held ok so long = absurd so
memory_instead config before (Push key s) reply.Done held ok so long = absurd (true≢false long)
memory_instead config before (Push key s) (reply.Refused x) held ok so long = absurd (true≢false long)
memory_instead config before (Push key s) r held ok so long = absurd so
memory_instead config before q r held ok so long = absurd ok

-- a short one has a spelling
short_spelled : (config : ConfigValue) (before : States) (q : Request) (r : Reply) (held : States) → IsOfSession q → TrueReply config before q r held → is_short r ≡ true → IsReply r
unfolding refusal
short_spelled config before (Get key) (reply.Refused x) held ok so short = tt
short_spelled config before (Get key) (reply.State s) held ok so short = absurd (true≢false (sym short))
short_spelled config before (Get key) r held ok so short = absurd so
short_spelled config before (Node path) (reply.Refused x) held ok so short = tt
short_spelled config before (Node path) (reply.Digests d) held ok so short = absurd (true≢false (sym short))
short_spelled config before (Node path) r held ok so short = absurd so
short_spelled config before (Bucket path after) (reply.Refused x) held ok so short = tt
short_spelled config before (Bucket path after) (reply.Keys page more) held ok so short = absurd (true≢false (sym short))
short_spelled config before (Bucket path after) r held ok so short = absurd so
short_spelled config before (Push key s) reply.Done held ok so short = tt
short_spelled config before (Push key s) (reply.Refused x) held ok so short = tt
short_spelled config before (Push key s) r held ok so short = absurd so
short_spelled config before q r held ok so short = absurd ok

-- what was queued is told truly, and it has a spelling, which fits into a frame
record IsGood (config : ConfigValue) (before : States) (q : Request) (r : Reply) (held : States) : Type 0 where
  pub so : TrueReply config before q r held
  pub spelled : IsReply r
  pub fits : CanBeSent r

queued_so : (config : ConfigValue) (before : States) (q : Request) (r queued : Reply) (held : States) → IsOfSession q → TrueReply config before q r held → CanBeSent r → IsQueued r queued → IsGood config before q queued held
unfolding refusal
queued_so config before q r queued held ok so fits (inl (same, long)) = subst (λ x. IsGood config before q x held) (sym same) (record {
  so = so;
  spelled = elim (is_short r) as (λ b. is_short r ≡ b → IsReply r) [
    | true ↦ λ short. short_spelled config before q r held ok so short
    | false ↦ λ is. long is
  ] refl;
  fits = fits;
})
queued_so config before q r queued held ok so fits (inr (long, memory)) = subst (λ x. IsGood config before q x held) (sym memory) (record {
  so = memory_instead config before q r held ok so long;
  spelled = tt;
  fits = refused_fits Memory;
})

-- its frame is read again
abbrev told_frame : Reply → FrameValue
told_frame r = record { kind = reply_kind r; payload = reply_payload r }

frame_read : (r : Reply) (rest : List ℕ) → CanBeSent r → frame_at (reply_bytes r ++ rest) ≡ Ok (Some (told_frame r), rest)
frame_read r rest fits = frame_again (told_frame r) rest (payload_fits r fits)

-- ---- all of them

requeued : (config : ConfigValue) (qs : List Request) (rs : List Reply) (bs : List (List ℕ)) (old new : States) (moments : List States) → AllByRecursion IsOfSession qs → AnswersAmong config qs rs old moments new → AreQueued rs bs → AllByRecursion CanBeSent rs →
    (told : List Reply) × AreReplyFrames told (concat bs) [] × AnswersAmong config qs told old moments new
requeued config [] [] [] old new moments ok among queued fits = ([], refl, among)
requeued config [] [] (b ∷ bs) old new moments ok among queued fits = absurd queued
requeued config [] (r ∷ rs) bs old new moments ok among queued fits = absurd among
requeued config (q ∷ qs) [] bs old new moments ok among queued fits = absurd among
requeued config (q ∷ qs) (r ∷ rs) [] old new moments ok among queued fits = absurd queued
requeued config (q ∷ qs) (r ∷ rs) (b ∷ bs) old new [] ok among queued fits = absurd among
requeued config (q ∷ qs) (r ∷ rs) (b ∷ bs) old new (held ∷ later) ok (before, was, is, so, more) ((queued, sort, bytes), others) fits =
    let rest = requeued config qs rs bs held new later ok.1 more others fits.1 in
    let it : IsGood config before q queued held = queued_so config before q r queued held ok.0 so fits.0 sort in
    let read : frame_at (b ++ concat bs) ≡ Ok (Some (told_frame queued), concat bs) = subst (λ t. frame_at (t ++ concat bs) ≡ Ok (Some (told_frame queued), concat bs)) (sym bytes) (frame_read queued (concat bs) it.fits) in
    (queued ∷ rest.0, (told_frame queued, concat bs, read, replies_again queued it.spelled, rest.1), (before, was, is, it.so, rest.2))

-- ---- window by window

record Split (config : ConfigValue) (first second : List Request) (bytes : List ℕ) (old new : States) : Type 0 where
  pub replies : List Reply
  pub rest : List ℕ
  pub frames : AreReplyFrames replies bytes rest
  pub moments : List States
  pub mid : States
  pub form : AreHeld mid
  pub among : AnswersAmong config first replies old moments mid
  pub later : List Reply
  pub left : AreReplyFrames later rest []
  pub after : List States
  pub next : AnswersAmong config second later mid after new

split : (config : ConfigValue) (first second : List Request) (rs : List Reply) (bytes : List ℕ) (old new : States) (moments : List States) → AreHeld old → AnswersAmong config (first ++ second) rs old moments new → AreReplyFrames rs bytes [] → Split config first second bytes old new
split config [] second rs bytes old new moments form among frames = record {
  replies = [];
  rest = bytes;
  frames = refl;
  moments = [];
  mid = old;
  form = form;
  among = grows_self old form;
  later = rs;
  left = frames;
  after = moments;
  next = among;
}
split config (q ∷ first) second [] bytes old new moments form among frames = absurd among
split config (q ∷ first) second (r ∷ rs) bytes old new [] form among frames = absurd among
split config (q ∷ first) second (r ∷ rs) bytes old new (held ∷ moments) form (before, was, is, so, more) (frame, next, at, of, others) =
    let it : Split config first second next held new = split config first second rs next held new moments is.0 more others in
    record {
      replies = r ∷ it.replies;
      rest = it.rest;
      frames = (frame, next, at, of, it.frames);
      moments = held ∷ it.moments;
      mid = it.mid;
      form = it.form;
      among = (before, was, is, so, it.among);
      later = it.later;
      left = it.left;
      after = it.after;
      next = it.next;
    }

windows_told : (config : ConfigValue) (windows : List Window) (rs : List Reply) (bytes : List ℕ) (old new : States) (moments : List States) → AreHeld old → AnswersAmong config (flat_map requests_of windows) rs old moments new → AreReplyFrames rs bytes [] → TellsWindows config windows bytes old new
windows_told config [] [] bytes old new [] form among frames = (frames, among)
windows_told config [] [] bytes old new (held ∷ moments) form among frames = absurd among
windows_told config [] (r ∷ rs) bytes old new moments form among frames = absurd among
windows_told config (window ∷ windows) rs bytes old new moments form among frames =
    let it : Split config (requests_of window) (flat_map requests_of windows) bytes old new = split config (requests_of window) (flat_map requests_of windows) rs bytes old new moments form among frames in
    (it.replies, it.rest, it.frames, it.moments, it.mid, it.form, it.among, windows_told config windows it.later it.rest it.mid new it.after it.form it.next it.left)

-- ---- a client's own turns

turn_fits : (old mid : SiteValue) (asked : Result Request Refusal) (r : Reply) → AreHeld old.states → ServesFrom old mid (record { asked = asked; reply = r }) → CanBeSent r
turn_fits old mid asked r held (inl one) = fits_turn old mid asked r held one
turn_fits old mid asked r held (inr memory) = subst CanBeSent (sym memory.0) (refused_fits Memory)

turn_form : (old mid : SiteValue) (asked : Result Request Refusal) (r : Reply) → AreHeld old.states → ServesFrom old mid (record { asked = asked; reply = r }) → AreHeld mid.states
turn_form old mid asked r held (inl one) = form_turn old mid asked r held one
turn_form old mid asked r held (inr memory) = subst (λ (s : SiteValue). AreHeld s.states) (sym memory.1) held

own_fits : (n : ℕ) (turns : List (ℕ × Turn)) (old new : SiteValue) → AreHeld old.states → ServesAllFrom old new (turns_of turns) → AllByRecursion CanBeSent (map (λ (turn : Turn). turn.reply) (own n turns))
own_fits n [] old new held all = tt
own_fits n (t ∷ ts) old new held all =
    let rest = own_fits n ts all.0 new (turn_form old all.0 t.1.asked t.1.reply held all.1) all.2 in
    elim (t.0 == n) as (λ b. AllByRecursion CanBeSent (map (λ (turn : Turn). turn.reply) (if b then t.1 ∷ own n ts else own n ts))) [
      | true ↦ (turn_fits old all.0 t.1.asked t.1.reply held all.1, rest)
      | false ↦ rest
    ]

-- the turns that are a client's own are what it asked and was told
abbrev AsksAndTells : List SiteTurn → List Turn → List Request → Type 0
AsksAndTells site mine requests = (own_requests site ≡ requests) × (own_replies site ≡ map (λ (turn : Turn). turn.reply) mine)

abbrev pub asked_by_turns : List Turn → List (Result Request Refusal)
asked_by_turns mine = map (λ (turn : Turn). turn.asked) mine

abbrev pub told_by_turns : List Turn → List Reply
told_by_turns mine = map (λ (turn : Turn). turn.reply) mine

abbrev pub all_ok : List Request → List (Result Request Refusal)
all_ok requests = map (λ (request : Request). Ok request) requests

first_ok : (q : Request) (others : List (Result Request Refusal)) (requests : List Request) → Ok q ∷ others ≡ all_ok requests → (later : List Request) × (requests ≡ q ∷ later) × (others ≡ all_ok later)
first_ok q others [] e = absurd (cc)
first_ok q others (r ∷ requests) e = (requests, cc, cc)

no_fault : (fault : Refusal) (others : List (Result Request Refusal)) (requests : List Request) → Err fault ∷ others ≡ all_ok requests → ⊥
no_fault fault others [] e = cc
no_fault fault others (r ∷ requests) e = cc

own_more : (n client : ℕ) (asked : Result Request Refusal) (r : Reply) (mine : List Turn) (site : List SiteTurn) (requests : List Request) → ((later : List Request) → asked_by_turns mine ≡ all_ok later → AsksAndTells site mine later) →
    asked_by_turns (if client == n then record { asked = asked; reply = r } ∷ mine else mine) ≡ all_ok requests →
    AsksAndTells (and_turn n client asked r site) (if client == n then record { asked = asked; reply = r } ∷ mine else mine) requests
own_more n client (Ok q) r mine site requests rest = elim (client == n) as (λ b. asked_by_turns (if b then record { asked = Ok q; reply = r } ∷ mine else mine) ≡ all_ok requests →
    AsksAndTells (record { own = b; asked = q; reply = r } ∷ site) (if b then record { asked = Ok q; reply = r } ∷ mine else mine) requests) [
      | true ↦ λ e.
          let it = first_ok q (asked_by_turns mine) requests e in
          let later = rest it.0 it.2 in
          (ap (λ (qs : List Request). q ∷ qs) later.0 ∙ sym it.1, ap (λ (rs : List Reply). r ∷ rs) later.1)
      | false ↦ λ e. rest requests e
    ]
own_more n client (Err fault) r mine site requests rest = elim (client == n) as (λ b. asked_by_turns (if b then record { asked = Err fault; reply = r } ∷ mine else mine) ≡ all_ok requests →
    AsksAndTells site (if b then record { asked = Err fault; reply = r } ∷ mine else mine) requests) [
      | true ↦ λ e. absurd (no_fault fault (asked_by_turns mine) requests e)
      | false ↦ λ e. rest requests e
    ]

own_all : (n : ℕ) (turns : List (ℕ × Turn)) (requests : List Request) → asked_by_turns (own n turns) ≡ all_ok requests → AsksAndTells (site_turns n turns) (own n turns) requests
own_all n [] [] e = (refl, refl)
own_all n [] (q ∷ requests) e = absurd (cc)
own_all n (t ∷ ts) requests e = own_more n t.0 t.1.asked t.1.reply (own n ts) (site_turns n ts) requests (λ later is. own_all n ts later is) e

-- WHAT A HOST TELLS A CLIENT of requests
pub host_at_hand : (n : ℕ) (turns : List (ℕ × Turn)) (old new : SiteValue) (requests : List Request) → AreHeld old.states → ServesAllFrom old new (turns_of turns) → asked_by_turns (own n turns) ≡ all_ok requests →
    (moments : List States) × AnswersAmong old.config requests (told_by_turns (own n turns)) old.states moments new.states
host_at_hand n turns old new requests form all asked =
    let here : AsksAndTells (site_turns n turns) (own n turns) requests = own_all n turns requests asked in
    let among = turns_among old.config (site_turns n turns) old.states new.states form (host_answers n turns old new form all) in
    (among.0, subst (λ qs. AnswersAmong old.config qs (told_by_turns (own n turns)) old.states among.0 new.states) here.0 (subst (λ rs. AnswersAmong old.config (own_requests (site_turns n turns)) rs old.states among.0 new.states) here.1 among.1))

-- WHAT A HOST QUEUED FOR A CLIENT whose frames asked windows
pub host_tells : (n : ℕ) (turns : List (ℕ × Turn)) (old new : SiteValue) (answers : List (List ℕ)) (windows : List Window) → AreHeld old.states → ServesAllFrom old new (turns_of turns) → AreQueued (told_by_turns (own n turns)) answers →
    asked_by_turns (own n turns) ≡ all_ok (flat_map requests_of windows) → TellsWindows old.config windows (concat answers) old.states new.states
host_tells n turns old new answers windows form all told_all asked =
    let requests = flat_map requests_of windows in
    let among = host_at_hand n turns old new requests form all asked in
    let queued = requeued old.config requests (told_by_turns (own n turns)) answers old.states new.states among.0 (windows_ask windows) among.1 told_all (own_fits n turns old new form all) in
    windows_told old.config windows queued.0 (concat answers) old.states new.states among.0 form queued.2 queued.1
