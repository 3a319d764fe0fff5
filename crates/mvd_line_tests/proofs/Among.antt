-- A site at hand to which others write meanwhile, behind a live line.
use Rattle.std.proofs.Common.{◌≡◌, ◌≢◌, inl, inr, ℕ, true, false, List, [], ◌∷◌, ◌++◌, Option, Some, None, refl, sym, ap, subst, ◌∙◌}
use Rattle.std.proofs.lemmas.List.{append-nil, append_assoc}
use Rattle.std.specs.Prelude.{Result, Ok, Err, IfErr, IfOk, IfSome, OnOk, option_map}
use Rattle.mvd_dots.specs.declared.refusals.Refusal.{Refusal}
use Rattle.mvd_dots.specs.declared.refusals.Refusal.TheVariants.{Broken}
use Rattle.mvd_keys.specs.State.{IsValid, State, join}
use Rattle.mvd_keys.specs.Writes.{Key}
use Rattle.mvd_wire.specs.declared.frame.Frame.{Frame}
use Rattle.mvd_wire.specs.declared.reply.Reply.{Reply}
use Rattle.mvd_wire.specs.declared.reply.Reply.TheVariants as reply
use Rattle.mvd_wire.specs.declared.request.Request.{Request}
use Rattle.mvd_wire.specs.declared.request.Request.TheVariants.{Bucket, Bye, Conflicts, Delete, Find, Get, Hello, Keys as KeysAsked, Node, Push, Put, Range, Row, Rows}
use Rattle.mvd_wire.specs.Frames.{Reads, frame_at, frame_value}
use Rattle.mvd_wire.specs.Replies as answered
use Rattle.mvd_wire.specs.Requests.{SpellsRequest}
use Rattle.mvd_site.specs.Config.{ConfigValue}
use Rattle.mvd_site.specs.FromStates.{with_state}
use Rattle.mvd_site.specs.Held.{AreHeld, States, state_at}
use Rattle.mvd_site.specs.Known.{IsValidRequest}
use Rattle.mvd_site.specs.Sites.{SiteValue}
use Rattle.mvd_peer.specs.Live.{Grows}
use Rattle.mvd_peer.specs.PushedStates.{pushed}
use Rattle.mvd_peer.proofs.Growths.{pushed_grows}
use Rattle.mvd_peer.proofs.JoinLaws.{valid_at}
use Rattle.mvd_peer.proofs.SiteSides.{is_broken, put_is_pushed}
use Rattle.mvd_peer.proofs.Telling.{grows_over, grows_same}
use Rattle.mvd_remote.specs.Lines.{AreRequestFrames, IsNextReply, TrueReply}
use Rattle.mvd_remote.specs.LiveLines.{IsNextAnswer}
use Rattle.mvd_line_tests.specs.Among.{HasGrown, is_of_session}
use Rattle.mvd_line_tests.proofs.Serving.{next_of, next_reply, nothing_left}

-- ---- what a session asks leaves what is held, or adds to it

get_same : (config : ConfigValue) (old new : States) (key : Key) (r : Reply) → TrueReply config old (Get key) r new → new ≡ old
get_same config old new key (reply.State t) h = h.1
get_same config old new key (reply.Written d) h = absurd h
get_same config old new key reply.Done h = absurd h
get_same config old new key (reply.Places ps more) h = absurd h
get_same config old new key (reply.Row r) h = absurd h
get_same config old new key (reply.Rows rs more) h = absurd h
get_same config old new key (reply.Digests d) h = absurd h
get_same config old new key (reply.Keys ks more) h = absurd h
get_same config old new key (reply.Counts cs more) h = absurd h
get_same config old new key (reply.Refused e) h = h.1

node_same : (config : ConfigValue) (old new : States) (path : List ℕ) (r : Reply) → TrueReply config old (Node path) r new → new ≡ old
node_same config old new path (reply.State t) h = absurd h
node_same config old new path (reply.Written d) h = absurd h
node_same config old new path reply.Done h = absurd h
node_same config old new path (reply.Places ps more) h = absurd h
node_same config old new path (reply.Row r) h = absurd h
node_same config old new path (reply.Rows rs more) h = absurd h
node_same config old new path (reply.Digests d) h = h.1
node_same config old new path (reply.Keys ks more) h = absurd h
node_same config old new path (reply.Counts cs more) h = absurd h
node_same config old new path (reply.Refused e) h = h.1

bucket_same : (config : ConfigValue) (old new : States) (path : List ℕ) (after : Option Key) (r : Reply) → TrueReply config old (Bucket path after) r new → new ≡ old
bucket_same config old new path after (reply.State t) h = absurd h
bucket_same config old new path after (reply.Written d) h = absurd h
bucket_same config old new path after reply.Done h = absurd h
bucket_same config old new path after (reply.Places ps more) h = absurd h
bucket_same config old new path after (reply.Row r) h = absurd h
bucket_same config old new path after (reply.Rows rs more) h = absurd h
bucket_same config old new path after (reply.Digests d) h = absurd h
bucket_same config old new path after (reply.Keys ks more) h = h.2
bucket_same config old new path after (reply.Counts cs more) h = absurd h
bucket_same config old new path after (reply.Refused e) h = h.1

taken_grows : (old new : States) (key : Key) (s : State) → AreHeld old → IsValid s → new ≡ pushed old key s → Grows old new
taken_grows old new key s p valid is = subst (Grows old) (sym is) (pushed_grows old key s (valid_at old p) valid).1

same_grows : (old new : States) → AreHeld old → new ≡ old → Grows old new
same_grows old new p same = subst (Grows old) (sym same) (grows_same old p)

push_grows : (config : ConfigValue) (old new : States) (key : Key) (s : State) (r : Reply) → AreHeld old → IsValid s → TrueReply config old (Push key s) r new → Grows old new
push_grows config old new key s (reply.State t) p valid h = absurd h
push_grows config old new key s (reply.Written d) p valid h = absurd h
push_grows config old new key s reply.Done p valid h = taken_grows old new key s p valid h.1
push_grows config old new key s (reply.Places ps more) p valid h = absurd h
push_grows config old new key s (reply.Row r) p valid h = absurd h
push_grows config old new key s (reply.Rows rs more) p valid h = absurd h
push_grows config old new key s (reply.Digests d) p valid h = absurd h
push_grows config old new key s (reply.Keys ks more) p valid h = absurd h
push_grows config old new key s (reply.Counts cs more) p valid h = absurd h
push_grows config old new key s (reply.Refused e) p valid (inl h) = same_grows old new p h.1
push_grows config old new key s (reply.Refused e) p valid (inr h) = taken_grows old new key s p valid h.1.1

pub session_grows : (config : ConfigValue) (old new : States) (q : Request) (r : Reply) → is_of_session q ≡ true → AreHeld old → IsValidRequest q → TrueReply config old q r new → Grows old new
session_grows config old new (Get key) r of p valid h = same_grows old new p (get_same config old new key r h)
session_grows config old new (Node path) r of p valid h = same_grows old new p (node_same config old new path r h)
session_grows config old new (Bucket path after) r of p valid h = same_grows old new p (bucket_same config old new path after r h)
session_grows config old new (Push key s) r of p valid h = push_grows config old new key s r p valid h
session_grows config old new (Put k c d) r of p valid h = absurd (cc)
session_grows config old new (Delete k c) r of p valid h = absurd (cc)
session_grows config old new (Find f t after) r of p valid h = absurd (cc)
session_grows config old new (Row v t) r of p valid h = absurd (cc)
session_grows config old new (Rows v after) r of p valid h = absurd (cc)
session_grows config old new (Range f from to after) r of p valid h = absurd (cc)
session_grows config old new (KeysAsked x after) r of p valid h = absurd (cc)
session_grows config old new (Conflicts after) r of p valid h = absurd (cc)
session_grows config old new (Hello t) r of p valid h = absurd (cc)
session_grows config old new Bye r of p valid h = absurd (cc)

-- ---- what another writes

pub grown_same : (site : SiteValue) → AreHeld site.states → HasGrown site site
grown_same site p = record { was = p; is = p; grows = grows_same site.states p; config = refl }

pub pushed_grown : (old new : SiteValue) (key : Key) (s : State) (r : Result (Unit {0}) Refusal) → AreHeld old.states → AreHeld new.states → IsValid s → OnOk r (new ≡ record { config = old.config; states = with_state old.states key (join (state_at old.states key) s); broken = false })
    → IfErr r (λ refusal. refusal ≢ Broken → new ≡ old) → IfErr r (λ refusal. refusal ≡ Broken → new ≡ record { config = old.config; states = old.states; broken = true }) → HasGrown old new
pushed_grown old new key s (Ok done) p q valid is same told = record {
  was = p;
  is = q;
  grows = taken_grows old.states new.states key s p valid (ap (λ (v : SiteValue). v.states) is ∙ put_is_pushed old.states key s p valid);
  config = ap (λ (v : SiteValue). v.config) is;
}
pushed_grown old new key s (Err refusal) p q valid is same told = elim (is_broken refusal) [
  | inl e ↦ record { was = p; is = q; grows = same_grows old.states new.states p (ap (λ (v : SiteValue). v.states) (told e)); config = ap (λ (v : SiteValue). v.config) (told e) }
  | inr other ↦ record { was = p; is = q; grows = same_grows old.states new.states p (ap (λ (v : SiteValue). v.states) (same other)); config = ap (λ (v : SiteValue). v.config) (same other) }
]

-- ---- what was sent, frame by frame

-- so many of the requests wait, and these bytes are left
pub record Waits (before after requests : List Request) (bytes : List ℕ) : Type 0 where
  pub done : List Request
  pub left : List Request
  pub all : requests ≡ done ++ left
  pub waits : after ≡ before ++ done
  pub frames : AreRequestFrames left bytes

pub waits_none : (before requests : List Request) (bytes : List ℕ) → AreRequestFrames requests bytes → Waits before before requests bytes
waits_none before requests bytes frames = record { done = []; left = requests; all = refl; waits = sym (append-nil before); frames = frames }

-- no frame is left
pub waits_all : (before after requests : List Request) (bytes : List ℕ) (came : Option Frame) (rest : List ℕ) → came ≡ None → frame_at bytes ≡ Ok (option_map frame_value came, rest) → Waits before after requests bytes → after ≡ before ++ requests
waits_all before after requests bytes came rest is e w =
    let none = nothing_left w.left bytes rest w.frames (subst (λ o. frame_at bytes ≡ Ok (option_map frame_value o, rest)) is e) in
    let whole : requests ≡ w.done = w.all ∙ ap (λ l. w.done ++ l) none ∙ append-nil w.done in
    w.waits ∙ ap (λ l. before ++ l) (sym whole)

-- one more
pub waits_on : (before mid after requests : List Request) (bytes : List ℕ) (came : Option Frame) (frame : Frame) (rest : List ℕ) → came ≡ Some frame → frame_at bytes ≡ Ok (option_map frame_value came, rest) → Waits before mid requests bytes → ((q : Request) → SpellsRequest q frame.kind frame.payload.items → after ≡ mid ++ q ∷ []) → Waits before after requests rest
waits_on before mid after requests bytes came frame rest is e w takes =
    let next = next_of w.left bytes frame rest w.frames (subst (λ o. frame_at bytes ≡ Ok (option_map frame_value o, rest)) is e) in
    record {
      done = w.done ++ next.q ∷ [];
      left = next.later;
      all = w.all ∙ ap (λ l. w.done ++ l) next.is ∙ sym (append_assoc w.done (next.q ∷ []) next.later);
      waits = takes next.q next.spells ∙ ap (λ l. l ++ next.q ∷ []) w.waits ∙ append_assoc before w.done (next.q ∷ []);
      frames = next.frames;
    }

-- ---- what is answered

-- the frame that came spells it, and it was answered after others wrote
pub next_answer : (first mid last : SiteValue) (q : Request) (r : Reply) (bytes : List ℕ) (after : Option (List ℕ)) (awaited left : List Request) (result : Result (Option Frame) Refusal) → HasGrown first mid → HasGrown mid last → TrueReply mid.config mid.states q r last.states → awaited ≡ q ∷ left
    → answered.reply_frame r ≡ Ok bytes → answered.IsReply r → Reads (option_map frame_value) (Some bytes) after result frame_at → IfOk result (λ came. IfSome came (λ frame. IsNextAnswer first.config awaited left first.states last.states (frame_value frame)))
next_answer first mid last q r bytes after awaited left result up on so is spelled fits reads = answer_of result (next_reply r bytes after (r ∷ []) [] result spelled fits refl reads)
  where
    answer_of : (result : Result (Option Frame) Refusal) → IfOk result (λ came. IfSome came (λ frame. IsNextReply (r ∷ []) [] (frame_value frame))) → IfOk result (λ came. IfSome came (λ frame. IsNextAnswer first.config awaited left first.states last.states (frame_value frame)))
    answer_of (Err refusal) h = tt
    answer_of (Ok None) h = tt
    answer_of (Ok (Some frame)) h = subst (λ a. IsNextAnswer first.config a left first.states last.states (frame_value frame)) (sym is) (
      refl,
      r,
      h.0,
      last.states,
      record {
        before = mid.states;
        was = (up.is, up.grows);
        is = (on.is, on.grows);
        so = subst (λ c. TrueReply c mid.states q r last.states) up.config so;
      },
      grows_same last.states on.is,
    )

-- what a session asked, or what is refused
pub answered_grown : (old new : SiteValue) (q : Request) (r : Reply) → is_of_session q ≡ true → AreHeld old.states → AreHeld new.states → IsValidRequest q → new.config ≡ old.config → TrueReply old.config old.states q r new.states → HasGrown old new
answered_grown old new q r of p held valid same so = record { was = p; is = held; grows = session_grows old.config old.states new.states q r of p valid so; config = same }

pub grown_over : (first mid last : SiteValue) → HasGrown first mid → HasGrown mid last → HasGrown first last
grown_over first mid last up on = record { was = up.was; is = on.is; grows = grows_over first.states mid.states last.states up.was up.is on.is up.grows on.grows; config = on.config ∙ up.config }
