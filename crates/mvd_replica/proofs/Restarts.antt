-- Runs of a site, one after the other: what is known goes on through the file.
use Rattle.std.proofs.Common.{◌≡◌, ◌∙◌, ℕ, true, false, List, [], ◌∷◌, ◌++◌, append_assoc, append-nil, refl, sym, subst, ap, inl, inr}
use Rattle.std.specs.List.{AllByRecursion}
use Rattle.mvd_keys.specs.Writes.{Stands, Write}
use Rattle.mvd_wire.specs.declared.request.Request.{Request}
use Rattle.mvd_kept.proofs.Answered.{after_stands}
use Rattle.mvd_records.specs.Records.{IsOurs, IsSound}
use Rattle.mvd_site.specs.Config.{ConfigValue}
use Rattle.mvd_site.specs.FromStates.{after_from}
use Rattle.mvd_site.specs.Held.{States}
use Rattle.mvd_site.specs.Sites.{SiteValue}
use Rattle.mvd_replica.specs.Batch.{HoldsLost, lost_requests}
use Rattle.mvd_replica.specs.File.{HoldsFile}
use Rattle.mvd_replica.specs.Holds.{HoldsSite, HoldsStates}
use Rattle.mvd_replica.specs.Restarts.{AddAll, AllRunsAnswered, AreRuns, IsFileRun, LeavesWholeTurns, Run}
use Rattle.mvd_replica.specs.Sides.{HoldsBroken}
use Rattle.mvd_replica.specs.Whole.{after_all}
use Rattle.mvd_replica.specs.Turns.{AllTold, TurnEvent, IsFirstBroken, IsToldBroken, IsToldElse, LeavesTurns, TellsTurns, Turn, known_after_turns}
use Rattle.mvd_replica.proofs.Positions.{ReplicaFollows, TurnsFollow, stored_site}
use Rattle.mvd_replica.proofs.Follows.{ours_held}
use Rattle.mvd_replica.proofs.Stops.{held_in_file}
use Rattle.mvd_replica.proofs.Storing.{holds_states}
use Rattle.sqlite.specs.Effect.{Database}
use Rattle.sqlite.specs.Recovery.{Image}
use Rattle.sqlite.specs.State.{State}
use Rattle.sqlite_trees.specs.declared.store.Store.{Ghosts}

-- states stand for what is known, and after requests for what these add as well
pub all_stand : (config : ConfigValue) (states : States) (known : List Write) (requests : List Request) (added : List Write) → Stands states known →
    AddAll config known requests added → Stands (after_all config states requests) (known ++ added)
all_stand config states known [] added stands is = subst (Stands states) (sym (append-nil known) ∙ ap (λ ws. known ++ ws) (sym is)) stands
all_stand config states known (request ∷ requests) added stands (first, rest, is, one, others) =
    subst (Stands (after_all config (after_from config states request) requests)) (append_assoc known first rest ∙ ap (λ ws. known ++ ws) (sym is))
    (all_stand config (after_from config states request) (known ++ first) requests rest (after_stands config states known request first stands one) others)

-- one run
module _ {C : Type 0} (f : C → State) (site : ℕ) (image : Image) (states : States) (known : List Write) (run : Run C) (file : HoldsFile image site states) (stands : Stands states known)
    (from : run.image ≡ image) (number : run.config.site ≡ site) (is : IsFileRun f run) where
  was_sound : IsSound (f run.before)
  was_sound = is.follows.sound is.sound

  was_held : HoldsFile run.image site states
  was_held = subst (λ i. HoldsFile i site states) (sym from) file

  -- the site was opened with the states that the file held
  same : run.old.states ≡ states
  same = (is.opens was_sound).just site states was_held

  ours : IsOurs (is.opens was_sound).was
  ours = ours_held site states _ (subst (HoldsStates site states) (sym ((is.opens was_sound).found.holds was_held.db was_held.held)) was_held.holds)

  held_before : HoldsSite run.old (f run.before).committed
  held_before = ((is.opens was_sound).opened ours).holds

  old_stands : Stands run.old.states known
  old_stands = subst (λ m. Stands m known) (sym same) stands

  -- the configuration stays
  configured : run.new.config ≡ run.config
  configured = is.follows.config ∙ is.config

  numbered : run.new.config.site ≡ site
  numbered = ap (λ (c : ConfigValue). c.site) configured ∙ number

  module _ (events : List TurnEvent) (tells : TellsTurns events run.turns) where
    pub told : AllTold run.config known false events run.new.broken
    told = subst (λ c. AllTold c known false events run.new.broken) is.config
        (subst (λ b. AllTold run.old.config known b events run.new.broken) is.whole (is.replies known events (λ _. old_stands) tells).0)

    pub new_stands : Stands run.new.states (known ++ known_after_turns events)
    new_stands = is.stands known events old_stands tells

    -- the file holds the states, where the site is not broken
    pub left_whole : run.new.broken ≡ false → HoldsFile run.left site run.new.states
    left_whole whole =
        is.closes site run.new.states
        (subst (λ n. HoldsStates n run.new.states (f run.after).committed) numbered
        (holds_states run.new (f run.after).committed whole is.held.spelled (is.follows.holds is.sound held_before)))

    -- and with what was lost, where it is
    pub lost : run.new.broken ≡ true → HoldsLost run.turns run.new (f run.after).committed
    lost broken = is.follows.stored is.sound held_before is.whole broken

    pub left_lost : (it : HoldsLost run.turns run.new (f run.after).committed) → HoldsFile run.left site (after_all run.config run.new.states (lost_requests it.lost))
    left_lost it =
        subst (λ c. HoldsFile run.left site (after_all c run.new.states (lost_requests it.lost))) configured
        (is.closes site _ (subst (λ n. HoldsStates n (after_all run.new.config run.new.states (lost_requests it.lost)) (f run.after).committed) numbered it.holds))

pub all_answered : {C : Type 0} (f : C → State) (site : ℕ) (image : Image) (states : States) (known : List Write) (runs : List (Run C)) → HoldsFile image site states → Stands states known →
    AreRuns f site image runs → AllRunsAnswered f site known image runs
all_answered f site image states known [] file stands are = (states, file, stands)
all_answered f site image states known (run ∷ runs) file stands (from, number, is, rest) = λ events tells. (
  told f site image states known run file stands from number is events tells,
  λ whole.
      all_answered f site run.left run.new.states (known ++ known_after_turns events) runs
      (left_whole f site image states known run file stands from number is events tells whole)
      (new_stands f site image states known run file stands from number is events tells) rest,
  λ broken.
      let it = lost f site image states known run file stands from number is events tells broken in (
        it,
        λ added adds.
            all_answered f site run.left _ ((known ++ known_after_turns events) ++ added) runs
            (left_lost f site image states known run file stands from number is events tells it)
            (all_stand run.config run.new.states (known ++ known_after_turns events) (lost_requests it.lost) added
            (new_stands f site image states known run file stands from number is events tells) adds) rest,
      ),
)

-- ---- what a stop leaves of turns

pub left_stands : {S : Type 0} (g : Ghosts S) → LeavesWholeTurns g
left_stands g turns old new before after known events trees leaves stands knows tells rest clean may =
    let it = leaves.leaves clean rest trees may in (
      it.undone,
      it.are,
      λ image added held adds. (
        after_all new.config new.states it.undone,
        held_in_file image new.config.site _ trees it.left held,
        all_stand new.config new.states (known ++ known_after_turns events) it.undone added (stands known events knows tells) adds,
      ),
    )

-- ---- a connection as such turns

-- the first of the turns whose request was told 22, with those before it and behind it
record Split (turns : List Turn) (request : Request) : Type 0 where
  before : List Turn
  broke : Turn
  later : List Turn
  all : turns ≡ before ++ broke ∷ later
  first : AllByRecursion IsToldElse before
  asked : IsToldBroken request broke

split : (turns : List Turn) (request : Request) → IsFirstBroken turns request → Split turns request
split [] request found = absurd found
split (turn ∷ turns) request (inl here) = record { before = []; broke = turn; later = turns; all = refl; first = tt; asked = here }
split (turn ∷ turns) request (inr (other, later)) =
    let at = split turns request later in
    record { before = turn ∷ at.before; broke = at.broke; later = at.later; all = ap (λ ts. turn ∷ ts) at.all; first = (other, at.first); asked = at.asked }

broken_lost : (turns : List Turn) (site : SiteValue) (db : Database) → HoldsBroken (IsFirstBroken turns) site db → HoldsLost turns site db
broken_lost turns site db it =
    let at = split turns it.request it.asked in
    record {
      lost = record { before = at.before; broke = at.broke; later = at.later; all = at.all; first = at.first; request = it.request; asked = at.asked; changes = it.changes; rest = []; among = tt };
      holds = it.holds;
    }

pub turns_follow : (turns : List Turn) (old new : SiteValue) (before after : State) → ReplicaFollows (IsFirstBroken turns) old new before after →
    LeavesTurns turns (stored_site old before) (stored_site new after) → TurnsFollow turns old new before after
turns_follow turns old new before after it leaves = record {
  config = it.site.0;
  still = it.site.1;
  sound = it.store.sound;
  holds = it.store.holds;
  stays = it.store.stays;
  stored = λ sound holds whole broken. broken_lost turns new after.committed (it.store.stored sound holds whole broken);
  clean = it.store.clean;
  shut = it.store.shut;
  leaves = leaves;
}
