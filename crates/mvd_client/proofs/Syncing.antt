-- What no session leaves, and what a Bye after one leaves.
use Rattle.std.proofs.Common.{◌≡◌, inl, inr, ℕ, Option, sym, subst}
use Rattle.std.specs.Prelude.{Result, Ok, Err, IfOk}
use Rattle.mvd_dots.specs.declared.refusals.Refusal.{Refusal}
use Rattle.mvd_wire.specs.declared.request.Request.TheVariants.{Bye}
use Rattle.mvd_wire.specs.declared.reply.Reply.{Reply}
use Rattle.mvd_wire.specs.declared.reply.Reply.TheVariants.{Done, Refused}
use Rattle.mvd_client.specs.Synced.{FollowsPushed, TakesPushes}
use Rattle.mvd_replica.specs.Replicas.{site_of, store_of, stored_of}
use Rattle.mvd_replica.specs.Sides.{side_follows_self}
use Rattle.mvd_replica.specs.declared.replica.Replica.{Replica}
use Rattle.mvd_site.specs.Config.{ConfigValue}
use Rattle.mvd_site.specs.Held.{States}
use Rattle.mvd_remote.specs.Lines.{AnswersTruly, RepliesFromStates}
use Rattle.mvd_sync.specs.Session.{After, Before, HasJoined, Meets}
use Rattle.mvd_sync.specs.declared.report.Report.{Report}
use Rattle.mvd_sync.specs.declared.report.SyncFault.{SyncFault}
use Rattle.mvd_runs.proofs.Pushing.{side_none}
use Rattle.mvd_sync.proofs.Positions.{MeetsBy, ReportsDoneBy}
use Rattle.sqlite_trees.specs.declared.store.Store.{Ghosts}

-- a site that nothing came to follows itself
pub pushed_none : {S : Type 0} {g : Ghosts S} (replica : Replica S g) → FollowsPushed replica replica
pushed_none replica = side_follows_self (stored_of replica)

pub takes_none : {S : Type 0} {g : Ghosts S} (replica : Replica S g) → TakesPushes replica replica
takes_none replica = side_none (site_of replica) (store_of replica)

-- a Bye changes nothing at the other end
bye_replied : (config : ConfigValue) (old new : States) (reply : Reply) → RepliesFromStates config old Bye reply new → new ≡ old
bye_replied config old new reply (inl h) = h.1
bye_replied config old new reply (inr (refusal, is, own, inl same)) = same
bye_replied config old new reply (inr (refusal, is, own, inr broke)) = broke.1

pub bye_keeps : (config : ConfigValue) (old new : States) (result : Result (Unit {0}) Refusal) → AnswersTruly (λ _. Done) config old Bye result new → new ≡ old
bye_keeps config old new (Ok done) h = bye_replied config old new Done h
bye_keeps config old new (Err refusal) (inl h) = bye_replied config old new (Refused refusal) h
bye_keeps config old new (Err refusal) (inr (inl h)) = h.1
bye_keeps config old new (Err refusal) (inr (inr (e, inl same))) = same
bye_keeps config old new (Err refusal) (inr (inr (e, inr h))) = bye_replied config old new h.0 h.1

-- what two sides came to have, they have after it
pub after_bye : (local_true peer_true later_true : Type 0) (most_local most_peer : ℕ) (number : Option ℕ) (a b a' b' b'' : States) (result told : Result Report SyncFault) (m : MeetsBy local_true peer_true most_local most_peer number a b a' b' result) → peer_true → b'' ≡ b' → IfOk told (ReportsDoneBy most_local most_peer number a b m.joined m.given) → MeetsBy local_true later_true most_local most_peer number a b a' b'' told
after_bye local_true peer_true later_true most_local most_peer number a b a' b' b'' result told m t same tells = record {
  joined = m.joined;
  given = m.given;
  joins = record {
    part = m.joins.part;
    met = m.joins.met;
    local_side = m.joins.local_side;
    peer_side = λ _. subst (HasJoined m.given a b b) (sym same) (m.joins.peer_side t);
  };
  tells = tells;
}

-- so where both the session and the Bye end well
pub after_bye_ok : (local_true peer_true later_true : Type 0) (most_local most_peer : ℕ) (number : Option ℕ) (a b a' b' b'' : States) (result : Result Report SyncFault) (report : Report) (m : MeetsBy local_true peer_true most_local most_peer number a b a' b' result) → result ≡ Ok report → peer_true → b'' ≡ b' → MeetsBy local_true later_true most_local most_peer number a b a' b'' (Ok report)
after_bye_ok local_true peer_true later_true most_local most_peer number a b a' b' b'' result report m e t same =
    let it : MeetsBy local_true peer_true most_local most_peer number a b a' b' (Ok report) = subst (MeetsBy local_true peer_true most_local most_peer number a b a' b') e m in
    after_bye local_true peer_true later_true most_local most_peer number a b a' b' b'' (Ok report) (Ok report) it t same it.tells

-- what two sides came to, told so
pub meets_as : (before : Before) (after : After) (result told : Result Report SyncFault) → result ≡ told → Meets before after result → Meets before after told
meets_as before after result told e m = subst (Meets before after) e m
