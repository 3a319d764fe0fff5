-- What a site answers among many at hand is told as a live side tells.
use Rattle.std.proofs.Common.{◌≡◌, inl, inr, ℕ, Bool, true, false, List, [], ◌∷◌, map, refl, sym, subst, Some, None, Option}
use Rattle.std.specs.Prelude.{Ok, Err, Result, Vec}
use Rattle.std.specs.declared.alloc.Global.{Global}
use Rattle.mvd_dots.specs.declared.refusals.Refusal.{Refusal}
use Rattle.mvd_dots.specs.declared.refusals.Refusal.TheVariants.{Memory}
use Rattle.mvd_keys.specs.State.{IsValid}
use Rattle.mvd_wire.specs.declared.reply.Reply.{Reply}
use Rattle.mvd_wire.specs.declared.reply.Reply.TheVariants.{Refused}
use Rattle.mvd_wire.specs.declared.request.Request.{Request}
use Rattle.mvd_wire.specs.declared.request.Request.TheVariants.{Bucket, Get, Node, Push}
use Rattle.mvd_site.specs.Config.{ConfigValue}
use Rattle.mvd_site.specs.Held.{AreHeld, States}
use Rattle.mvd_peer.specs.Live.{Grows}
use Rattle.mvd_peer.specs.PushedStates.{Each}
use Rattle.mvd_peer.specs.Windows.{ForEach}
use Rattle.mvd_remote.specs.Lines.{TrueReply, as_digests, as_done, as_page, as_state}
use Rattle.mvd_remote.specs.LinkWindows.{IsKeptOf, IsToldBy}
use Rattle.mvd_remote.specs.Remotes.{requests_of}
use Rattle.mvd_meet.specs.Inboxes.{TellsAs, TellsIf, TellsReplies, has_replies}
use Rattle.mvd_meet.specs.Nears.{NearTells, asked_of_near, due_in_window, replies_at}
use Rattle.mvd_meet.specs.declared.asked.Sort.{Sort}
use Rattle.mvd_meet.specs.declared.near.Near.{Near}
use Rattle.mvd_peer.specs.Asking.{asked, no_question}
use Rattle.mvd_peer.specs.declared.window.Window.{Window}
use Rattle.mvd_peer.specs.declared.window.Window.TheVariants as wanted
use Rattle.mvd_peer.specs.declared.window.Told.{Told}
use Rattle.mvd_peer.specs.declared.window.Told.TheVariants as told
use Rattle.mvd_live.specs.Answers.{AnswersAmong, AreKept}
use Rattle.mvd_live.specs.Mail.{IsAnswered, IsLiveAtHand}
use Rattle.mvd_live.specs.Told.{LiveTells, PageTold, StateTold, TellsEach, TellsNode, TellsPush}
use Rattle.mvd_live.proofs.Moments.{grown_on}
use Rattle.mvd_live.proofs.Replied.{each_fits, node_right, page_right, push_refuses, push_right, state_right}

-- ---- one answer

module _ {Q A : Type 0} (config : ConfigValue) (as_reply : A → Reply) (ask : Q → Request) (Fits : Q → Type 0) (Right : States → Q → Result A Refusal → Type 0)
    (right : (q : Q) (before held : States) (a : A) → AreHeld before → Fits q → TrueReply config before (ask q) (as_reply a) held → Right held q (Ok a))
    (refuses : (q : Q) (before held : States) (refusal : Refusal) → TrueReply config before (ask q) (Refused refusal) held → Right held q (Err refusal))
    (spent : (q : Q) (held : States) → Right held q (Err Memory)) where
  one_kept : (q : Q) (r : Reply) (before held : States) (k : Result Reply Refusal) (answer : Result A Refusal) → AreHeld before → Fits q → TrueReply config before (ask q) r held → IsKeptOf (Ok r) k → IsToldBy as_reply k answer → Right held q answer
  one_kept q r before held k (Ok a) form fits so (inl same) is =
      let told : as_reply a ≡ r = cc in
      right q before held a form fits (subst (λ x. TrueReply config before (ask q) x held) (sym told) so)
  one_kept q r before held k (Ok a) form fits so (inr (memory, some, any)) is = absurd (cc)
  one_kept q r before held k (Err refusal) form fits so (inl same) (inl is) =
      let told : Refused refusal ≡ r = cc in
      refuses q before held refusal (subst (λ x. TrueReply config before (ask q) x held) (sym told) so)
  one_kept q r before held k (Err refusal) form fits so (inl same) (inr is) = absurd (cc)
  one_kept q r before held k (Err refusal) form fits so (inr (memory, some, any)) (inl is) = absurd (cc)
  one_kept q r before held k (Err refusal) form fits so (inr (memory, some, any)) (inr is) =
      let lacks : refusal ≡ Memory = cc in
      subst (λ x. Right held q (Err x)) (sym lacks) (spent q held)

  -- ---- a window

  all_kept : (qs : List Q) (rs : List Reply) (old new : States) (moments : List States) (ks : List (Result Reply Refusal)) (answers : List (Result A Refusal)) → AreHeld old → Each Fits qs → AnswersAmong config (map ask qs) rs old moments new → AreKept rs ks → ForEach (IsToldBy as_reply) ks answers → TellsEach Right qs answers old moments new
  all_kept [] [] old new [] [] [] form fits among kept tells = among
  all_kept [] [] old new [] [] (a ∷ answers) form fits among kept tells = absurd tells
  all_kept [] [] old new [] (k ∷ ks) answers form fits among kept tells = absurd kept
  all_kept [] [] old new (m ∷ moments) ks answers form fits among kept tells = absurd among
  all_kept [] (r ∷ rs) old new moments ks answers form fits among kept tells = absurd among
  all_kept (q ∷ qs) [] old new moments ks answers form fits among kept tells = absurd among
  all_kept (q ∷ qs) (r ∷ rs) old new [] ks answers form fits among kept tells = absurd among
  all_kept (q ∷ qs) (r ∷ rs) old new (held ∷ later) [] answers form fits among kept tells = absurd kept
  all_kept (q ∷ qs) (r ∷ rs) old new (held ∷ later) (k ∷ ks) [] form fits among kept tells = absurd tells
  all_kept (q ∷ qs) (r ∷ rs) old new (held ∷ later) (k ∷ ks) (a ∷ answers) form fits (before, was, is, so, more) kept tells = (
    is.0,
    grown_on old before held form was.0 is.0 was.1 is.1,
    one_kept q r before held k a was.0 fits.0 so kept.0 tells.0,
    all_kept qs rs held new later ks answers is.0 fits.1 more kept.1 tells.1,
  )

  -- the answers to a window
  collected : (as_told : Vec (Result A Refusal) Global → Told) (qs : List Q) (rs : List Reply) (old new : States) (moments : List States) (ks : List (Result Reply Refusal)) (t : Told) → AreHeld old → Each Fits qs → AnswersAmong config (map ask qs) rs old moments new → AreKept rs ks → TellsAs as_told as_reply ks t → IsAnswered (Some t)
      → (answers : Vec (Result A Refusal) Global) × (t ≡ as_told answers) × TellsEach Right qs answers.items old moments new
  collected as_told qs rs old new moments ks t form fits among kept (Ok answers, tells, is) answered = (answers, is, all_kept qs rs old new moments ks answers.items form fits among kept tells)
  collected as_told qs rs old new moments ks t form fits among kept (Err refusal, tells, is) answered = absurd (subst (λ x. IsAnswered (Some x)) is answered)

-- it is told where all came
all_told : (b : Bool) (sort : Sort) (came : List (Result Reply Refusal)) (t : Told) → TellsIf b sort came t → IsAnswered (Some t) → TellsReplies sort came t
all_told true sort came t h answered = h
all_told false sort came t h answered = absurd (subst (λ x. IsAnswered (Some x)) h answered)

module _ (config : ConfigValue) where
  -- WHAT IS TOLD OF THE WINDOW
  window_told : (window : Window) (came : List (Result Reply Refusal)) (t : Told) (rs : List Reply) (old new : States) (moments : List States) → AreHeld old → AreKept rs came → Each (λ p. IsValid p.1) (asked (Some window)).pushes
      → AnswersAmong config (requests_of window) rs old moments new → TellsReplies (due_in_window window).sort came t → IsAnswered (Some t) → LiveTells config.max_keys (asked (Some window)) (Some t) old moments new
  window_told (wanted.Nodes paths) came t rs old new moments form kept valid among h answered =
      let it = collected config as_digests (λ path. Node path) (λ _. Unit {0}) TellsNode (node_right config) (λ q before held refusal so. tt) (λ q held. tt) (λ answers. told.Nodes answers) paths.items rs old new moments came t form (each_fits config paths.items) among kept h answered in
      subst (λ x. LiveTells config.max_keys (asked (Some (wanted.Nodes paths))) (Some x) old moments new) (sym it.1) it.2
  window_told (wanted.Pages pages) came t rs old new moments form kept valid among h answered =
      let it = collected config as_page (λ q. Bucket q.0 q.1) (λ _. Unit {0}) PageTold (page_right config) (λ q before held refusal so. tt) (λ q held. tt) (λ answers. told.Pages answers) pages.items rs old new moments came t form (each_fits config pages.items) among kept h answered in
      subst (λ x. LiveTells config.max_keys (asked (Some (wanted.Pages pages))) (Some x) old moments new) (sym it.1) it.2
  window_told (wanted.Gets keys) came t rs old new moments form kept valid among h answered =
      let it = collected config as_state (λ key. Get key) (λ _. Unit {0}) StateTold (state_right config) (λ q before held refusal so. tt) (λ q held. tt) (λ answers. told.States answers) keys.items rs old new moments came t form (each_fits config keys.items) among kept h answered in
      subst (λ x. LiveTells config.max_keys (asked (Some (wanted.Gets keys))) (Some x) old moments new) (sym it.1) it.2
  window_told (wanted.Pushes pairs) came t rs old new moments form kept valid among h answered =
      let it = collected config as_done (λ pair. Push pair.0 pair.1) (λ pair. IsValid pair.1) (TellsPush config.max_keys) (push_right config) (push_refuses config) (λ q held. tt) (λ answers. told.Pushes answers) pairs.items rs old new moments came t form valid among kept h answered in
      subst (λ x. LiveTells config.max_keys (asked (Some (wanted.Pushes pairs))) (Some x) old moments new) (sym it.1) it.2

  tells_if : (window : Window) (near after : Near) (t : Option Told) (rs : List Reply) (old new : States) (moments : List States) → AreHeld old → AreKept rs (replies_at near) → Each (λ p. IsValid p.1) (asked (Some window)).pushes
      → AnswersAmong config (requests_of window) rs old moments new → NearTells (Some (due_in_window window)) near after t → IsAnswered t → LiveTells config.max_keys (asked (Some window)) t old moments new
  tells_if window near after None rs old new moments form kept valid among h answered = absurd h
  tells_if window near after (Some t) rs old new moments form kept valid among h answered =
      window_told window (replies_at near) t rs old new moments form kept valid among (all_told (has_replies near.inbox) (due_in_window window).sort (replies_at near) t h.tells.tells answered) answered

  -- WHAT COMES OF SUCH A SITE IS LIVE
  pub live_at_hand : (window : Window) (near : Near) (rs : List Reply) (old new : States) (moments : List States) → asked_of_near near ≡ Some (due_in_window window) → AreHeld old → AreKept rs (replies_at near)
      → Each (λ p. IsValid p.1) (asked (Some window)).pushes → AnswersAmong config (requests_of window) rs old moments new → IsLiveAtHand config.max_keys (asked (Some window)) near old moments new
  live_at_hand window near rs old new moments is form kept valid among after t h answered =
      tells_if window near after t rs old new moments form kept valid among (subst (λ x. NearTells x near after t) is h) answered

-- and so where nothing was asked
pub none_at_hand : (most : ℕ) (near : Near) (old new : States) → asked_of_near near ≡ None → Grows old new → IsLiveAtHand most no_question near old [] new
none_at_hand most near old new is up after t h answered =
    let none : t ≡ None = (subst (λ x. NearTells x near after t) is h).0 in
    subst (λ x. LiveTells most no_question x old [] new) (sym none) (refl, up)
