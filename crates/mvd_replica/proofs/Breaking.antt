-- What broke a site, among the turns of a connection.
use Rattle.std.proofs.Common.{◌≡◌, ◌∙◌, Bool, true, false, List, [], ◌∷◌, ◌++◌, Result, Ok, refl, sym, ap, inl, inr, true≢false}
use Rattle.std.specs.List.{AllByRecursion}
use Rattle.mvd_dots.specs.declared.refusals.Refusal.{Refusal}
use Rattle.mvd_dots.specs.declared.refusals.Refusal.TheVariants.{Broken, Memory}
use Rattle.mvd_wire.specs.declared.request.Request.{Request}
use Rattle.mvd_wire.specs.declared.reply.Reply.{Reply}
use Rattle.mvd_wire.specs.declared.reply.Reply.TheVariants.{Refused}
use Rattle.mvd_wire.specs.Replies.{is_short}
use Rattle.mvd_site.specs.Sites.{SiteValue}
use Rattle.mvd_peer.specs.Sides.{SiteFollows}
use Rattle.mvd_replica.specs.Sides.{replica_follows_on}
use Rattle.mvd_replica.specs.Steps.{IsSent, RepliesTo}
use Rattle.mvd_replica.specs.Turns.{IsFirstBroken, IsToldElse, Turn}
use Rattle.mvd_replica.proofs.Positions.{ReplicaFollows}
use Rattle.mvd_replica.proofs.Sides.{follows_where, follows_wider}
use Rattle.sqlite.specs.State.{State}

-- ---- one turn

-- 22 goes out where it is the reply
sent_broken : (reply sent : Reply) → IsSent reply sent → reply ≡ Refused Broken → sent ≡ Refused Broken
sent_broken reply sent (inl same) is = same ∙ is
sent_broken reply sent (inr other) is = absurd (true≢false (ap is_short (sym is) ∙ other.0))

-- and only there
reply_broken : (reply sent : Reply) → IsSent reply sent → sent ≡ Refused Broken → reply ≡ Refused Broken
reply_broken reply sent (inl same) is = sym same ∙ is
reply_broken reply sent (inr other) is = let bad : Refused Memory ≡ Refused Broken = sym other.1 ∙ is in absurd cc

pub told_sent : (asked : Result Request Refusal) (old new : SiteValue) (reply sent : Reply) → IsSent reply sent → RepliesTo asked old new reply → new.broken ≡ false →
    AllByRecursion IsToldElse (record { asked = asked; reply = sent } ∷ [])
told_sent asked old new reply sent is replied whole = (λ request bad. replied.told whole request (bad.0, reply_broken reply sent is bad.1), tt)

pub follows_sent : (asked : Result Request Refusal) (old new : SiteValue) (before after : State) (reply sent : Reply) → IsSent reply sent → RepliesTo asked old new reply →
    ReplicaFollows (λ request. asked ≡ Ok request) old new before after → ReplicaFollows (IsFirstBroken (record { asked = asked; reply = sent } ∷ [])) old new before after
follows_sent asked old new before after reply sent is replied follows =
    let turn : Turn = record { asked = asked; reply = sent } in
    follows_where (λ request. asked ≡ Ok request) (IsFirstBroken (turn ∷ [])) old new before after (λ whole broken request asks. inl (asks, sent_broken reply sent is (replied.breaks whole broken))) follows

-- a Bye breaks nothing
pub follows_bye : (asks : Request → Type 0) (old new : SiteValue) (before after : State) → new ≡ old → ReplicaFollows asks old new before after → ReplicaFollows (IsFirstBroken []) old new before after
follows_bye asks old new before after same follows =
    follows_where asks (IsFirstBroken []) old new before after (λ whole broken _ _. absurd (true≢false (sym broken ∙ ap (λ (s : SiteValue). s.broken) same ∙ whole))) follows

-- ---- turns after turns

pub else_both : (first second : List Turn) → AllByRecursion IsToldElse first → AllByRecursion IsToldElse second → AllByRecursion IsToldElse (first ++ second)
else_both [] second one other = other
else_both (turn ∷ first) second one other = (one.0, else_both first second one.1 other)

pub first_kept : (first second : List Turn) (request : Request) → IsFirstBroken first request → IsFirstBroken (first ++ second) request
first_kept [] second request found = absurd found
first_kept (turn ∷ first) second request (inl here) = inl here
first_kept (turn ∷ first) second request (inr later) = inr (later.0, first_kept first second request later.1)

pub first_later : (first second : List Turn) (request : Request) → AllByRecursion IsToldElse first → IsFirstBroken second request → IsFirstBroken (first ++ second) request
first_later [] second request none found = found
first_later (turn ∷ first) second request none found = inr (none.0, first_later first second request none.1 found)

-- a site that is not broken was not
was_whole : (old new : SiteValue) (was : Bool) → old.broken ≡ was → SiteFollows old new → new.broken ≡ false → old.broken ≡ false
was_whole old new false is follows whole = is
was_whole old new true is follows whole = absurd (true≢false (sym is ∙ sym (ap (λ (s : SiteValue). s.broken) (follows.1 is)) ∙ whole))

module _ (first second : List Turn) (old mid new : SiteValue) (before between after : State) (p : ReplicaFollows (IsFirstBroken first) old mid before between) (q : ReplicaFollows (IsFirstBroken second) mid new between after)
    (none : mid.broken ≡ false → AllByRecursion IsToldElse first) where
  pub follows_both : ReplicaFollows (IsFirstBroken (first ++ second)) old new before after
  follows_both =
      replica_follows_on (IsFirstBroken (first ++ second)) _ _ _
      (follows_wider (IsFirstBroken first) (IsFirstBroken (first ++ second)) old mid before between (first_kept first second) p)
      (follows_where (IsFirstBroken second) (IsFirstBroken (first ++ second)) mid new between after (λ whole _ request found. first_later first second request (none whole) found) q)

  pub told_both : (new.broken ≡ false → AllByRecursion IsToldElse second) → new.broken ≡ false → AllByRecursion IsToldElse (first ++ second)
  told_both rest whole = else_both first second (none (was_whole mid new mid.broken refl q.site whole)) (rest whole)
