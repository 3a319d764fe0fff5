-- A site at the other end of a live line, as a live side.
use Rattle.std.proofs.Common.{◌≡◌, inl, inr, ℕ, List, [], ◌∷◌, map, Option, sym, ap, subst, ◌∙◌}
use Rattle.std.specs.Prelude.{Result, Ok, Err}
use Rattle.mvd_dots.specs.declared.refusals.Refusal.{Refusal}
use Rattle.mvd_keys.specs.Order.{Includes}
use Rattle.mvd_keys.specs.State.{IsValid, State}
use Rattle.mvd_keys.specs.Writes.{Key}
use Rattle.mvd_keys.proofs.Joins.{join_back}
use Rattle.mvd_wire.specs.declared.reply.Digests.{Digests}
use Rattle.mvd_wire.specs.declared.reply.Reply.{Reply}
use Rattle.mvd_wire.specs.declared.reply.Reply.TheVariants.{Refused}
use Rattle.mvd_wire.specs.declared.request.Request.{Request}
use Rattle.mvd_wire.specs.declared.request.Request.TheVariants.{Bucket, Get, Node, Push}
use Rattle.mvd_wire.specs.Requests.{request_frame}
use Rattle.mvd_site.specs.Config.{ConfigValue}
use Rattle.mvd_site.specs.Held.{AreHeld, States, state_at}
use Rattle.mvd_peer.specs.Asking.{PageQuestion}
use Rattle.mvd_peer.specs.PushedStates.{Each}
use Rattle.mvd_peer.specs.Telling.{PageTold, StateTold, TellsEach, TellsNode, TellsPush}
use Rattle.mvd_peer.specs.Windows.{CannotTake, PageValue}
use Rattle.mvd_peer.proofs.JoinLaws.{valid_at}
use Rattle.mvd_peer.proofs.Pushes.{state-pushed}
use Rattle.mvd_remote.specs.Lines.{TrueReply, as_digests, as_done, as_page, as_state}
use Rattle.mvd_remote.specs.LiveRemotes.{SettlesLive}
use Rattle.mvd_remote.proofs.FarSides.{unframed_push}

-- ---- one answer at a moment

-- what is right of questions of a kind
module _ {Q A : Type 0} (as_reply : A → Reply) (config : ConfigValue) (ask : Q → Request) (Fits : Q → Type 0) (Right : States → Q → Result A Refusal → Type 0)
    (right : (q : Q) (before held : States) (a : A) → AreHeld before → Fits q → TrueReply config before (ask q) (as_reply a) held → Right held q (Ok a))
    (refuses : (q : Q) (before held : States) (refusal : Refusal) → TrueReply config before (ask q) (Refused refusal) held → Right held q (Err refusal))
    (unframed : (q : Q) (held : States) (refusal : Refusal) → request_frame (ask q) ≡ Err refusal → Right held q (Err refusal)) where
  one_settled : (q : Q) (held : States) (a : Result A Refusal) → Fits q → SettlesLive as_reply config held (ask q) a → Right held q a
  one_settled q held (Ok v) fits (before, form, so) = right q before held v form fits so
  one_settled q held (Err refusal) fits (inl (before, form, so)) = refuses q before held refusal so
  one_settled q held (Err refusal) fits (inr none) = unframed q held refusal none

  pub each_settled : (qs : List Q) (ts : List (Result A Refusal)) (old new : States) (moments : List States) → Each Fits qs → TellsEach (SettlesLive as_reply config) (map ask qs) ts old moments new → TellsEach Right qs ts old moments new
  each_settled [] [] old new [] fits h = h
  each_settled [] [] old new (m ∷ moments) fits h = absurd h
  each_settled [] (t ∷ ts) old new moments fits h = absurd h
  each_settled (q ∷ qs) [] old new moments fits h = absurd h
  each_settled (q ∷ qs) (t ∷ ts) old new [] fits h = absurd h
  each_settled (q ∷ qs) (t ∷ ts) old new (m ∷ moments) fits h = (h.0, h.1, one_settled q m t fits.0 h.2, each_settled qs ts m new moments fits.1 h.3)

-- ---- what a session asks

each_fits : {Q : Type 0} (qs : List Q) → Each (λ _. Unit {0}) qs
each_fits [] = tt
each_fits (q ∷ qs) = (tt, each_fits qs)

module _ (config : ConfigValue) where
  node_right : (q : List ℕ) (before held : States) (a : Digests) → AreHeld before → Unit {0} → TrueReply config before (Node q) (as_digests a) held → TellsNode held q (Ok a)
  node_right q before held a form fits (is, same) = subst (λ m. TellsNode m q (Ok a)) (sym same) is

  page_right : (q : List ℕ × Option (List ℕ)) (before held : States) (a : PageValue) → AreHeld before → Unit {0} → TrueReply config before (Bucket q.0 q.1) (as_page a) held → PageTold held q (Ok a)
  page_right q before held a form fits (keys, more, same) = subst (λ m. PageTold m q (Ok a)) (sym same) (keys, more)

  state_right : (q : Key) (before held : States) (a : State) → AreHeld before → Unit {0} → TrueReply config before (Get q) (as_state a) held → StateTold held q (Ok a)
  state_right q before held a form fits (is, same) = subst (λ m. StateTold m q (Ok a)) (sym same) is

  push_right : (q : Key × State) (before held : States) (a : Unit {0}) → AreHeld before → IsValid q.1 → TrueReply config before (Push q.0 q.1) (as_done a) held → TellsPush config.max_keys held q (Ok a)
  push_right q before held a form valid (apart, is) =
      subst (λ x. Includes x q.1) (sym (ap (λ (m : States). state_at m q.0) is ∙ state-pushed before q.0 q.1)) (join_back (state_at before q.0) q.1 (valid_at before form q.0) valid apart)

  push_refuses : (q : Key × State) (before held : States) (refusal : Refusal) → TrueReply config before (Push q.0 q.1) (Refused refusal) held → TellsPush config.max_keys held q (Err refusal)
  push_refuses q before held refusal (inl (why, same)) = subst (λ m. CannotTake config.max_keys m q.0 q.1 refusal) (sym same) why
  push_refuses q before held refusal (inr (broke, taken)) = subst (CannotTake config.max_keys held q.0 q.1) (sym broke) tt

  module _ (old new : States) (moments : List States) where
    pub nodes_settled : (paths : List (List ℕ)) (ts : List (Result Digests Refusal)) → TellsEach (SettlesLive as_digests config) (map (λ path. Node path) paths) ts old moments new → TellsEach TellsNode paths ts old moments new
    nodes_settled paths ts h = each_settled as_digests config (λ q. Node q) (λ _. Unit {0}) TellsNode node_right (λ _ _ _ _ _. tt) (λ _ _ _ _. tt) paths ts old new moments (each_fits paths) h

    pub pages_settled : (asked : List PageQuestion) (ts : List (Result PageValue Refusal)) → TellsEach (SettlesLive as_page config) (map (λ (q : PageQuestion). Bucket q.0 q.1) asked) ts old moments new → TellsEach PageTold asked ts old moments new
    pages_settled asked ts h = each_settled as_page config (λ (q : PageQuestion). Bucket q.0 q.1) (λ _. Unit {0}) PageTold page_right (λ _ _ _ _ _. tt) (λ _ _ _ _. tt) asked ts old new moments (each_fits asked) h

    pub states_settled : (keys : List Key) (ts : List (Result State Refusal)) → TellsEach (SettlesLive as_state config) (map (λ key. Get key) keys) ts old moments new → TellsEach StateTold keys ts old moments new
    states_settled keys ts h = each_settled as_state config (λ q. Get q) (λ _. Unit {0}) StateTold state_right (λ _ _ _ _ _. tt) (λ _ _ _ _. tt) keys ts old new moments (each_fits keys) h

    pub pushes_settled : (pairs : List (Key × State)) (ts : List (Result (Unit {0}) Refusal)) → Each (λ p. IsValid p.1) pairs → TellsEach (SettlesLive as_done config) (map (λ (p : Key × State). Push p.0 p.1) pairs) ts old moments new → TellsEach (TellsPush config.max_keys) pairs ts old moments new
    pushes_settled pairs ts valid h = each_settled as_done config (λ (q : Key × State). Push q.0 q.1) (λ (q : Key × State). IsValid q.1) (TellsPush config.max_keys) push_right push_refuses (λ q held refusal none. unframed_push config held q.0 q.1 refusal none) pairs ts old new moments valid h
