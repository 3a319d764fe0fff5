-- What the records are after requests of one commit.
use Rattle.std.proofs.Common.{◌≡◌, ◌⊎◌, ◌∙◌, ℕ, Bool, true, false, List, [], ◌∷◌, map, refl, sym, ap, subst, inl, inr, true≢false}
use Rattle.std.specs.Prelude.{IsTrue}
use Rattle.std.specs.FinMap.{insert}
use Rattle.mvd_wire.specs.Codecs.{spell_state}
use Rattle.mvd_wire.specs.declared.request.Request.{Request}
use Rattle.mvd_wire.specs.declared.reply.Reply.{Reply}
use Rattle.mvd_records.specs.States.{StoredStates as Stored}
use Rattle.mvd_records.specs.Records.{HasNone, HoldsRecords, IsSound, SavesStates, new_states, old_states, with_pairs}
use Rattle.mvd_site.specs.Config.{ConfigValue}
use Rattle.mvd_site.specs.Held.{States}
use Rattle.mvd_kept.specs.declared.prepared.Prepared.{Prepared}
use Rattle.mvd_kept.specs.declared.prepared.Prepared.TheVariants.{Answer, Change}
use Rattle.mvd_site.specs.Sites.{SiteValue}
use Rattle.mvd_replica.specs.Batch.{HoldsLost, TakesAllFrom, lost_requests}
use Rattle.mvd_site.specs.Installs.{PutsAll, PutsIfWhole, PutsOne, with_group}
use Rattle.mvd_replica.specs.Groups.{AllComeAlone, AreSendable, ComeInOrder, IsSendable, pairs_in, reply_unstored}
use Rattle.mvd_replica.specs.Holds.{AreSpelled, HoldsSite, HoldsStates, SpellStates}
use Rattle.mvd_replica.specs.Shared.{LeavesPairs}
use Rattle.mvd_replica.specs.Whole.{after_all}
use Rattle.mvd_replica.specs.Turns.{AreAskedIn, AreUndoneIn, LeavesTurns, Turn}
use Rattle.mvd_replica.proofs.Leaving.{IsLast, leaves_commit, lost_undone, undone_skip}
use Rattle.mvd_replica.proofs.Stops.{survives_self}
use Rattle.sqlite.proofs.StateLemmas.{survives_weaker}
use Rattle.mvd_replica.specs.Stops.{LeavesRequests, LeavesSome}
use Rattle.mvd_replica.proofs.Positions.{stored_site}
use Rattle.mvd_replica.proofs.Storing.{spelled_insert, spelled_with}
use Rattle.sqlite.specs.State.{HasCleanDisk, State, Survives}
use Rattle.sqlite.specs.Tree.{Trees}
use Rattle.mvd_replica.proofs.Batching.{config_all}
use Rattle.mvd_site.proofs.Installed.{states_end}
use Rattle.mvd_replica.proofs.Putting.{AreOne, LostAt, lost_end, one_put, one_unstored, still_end, takes_put, takes_unstored, turns_of}

-- ---- the records

saved_spelled : (group : List Prepared) (stored : Stored) (m : States) → SpellStates stored m → SpellStates (with_pairs stored (pairs_in group)) (with_group m group)
saved_spelled [] stored m spelled = spelled
saved_spelled (Answer reply ∷ group) stored m spelled = saved_spelled group stored m spelled
saved_spelled (Change change ∷ group) stored m spelled =
    saved_spelled group (insert stored change.key (spell_state change.state)) (insert m change.key change.state) (spelled_insert stored m change.key change.state spelled)

spelled_group : (requests : List Request) (group : List Prepared) (m : States) → AreSendable requests group → AreSpelled m → AreSpelled (with_group m group)
spelled_group requests [] m sendable fits = fits
spelled_group [] (p ∷ group) m sendable fits = absurd sendable
spelled_group (r ∷ requests) (Answer reply ∷ group) m sendable fits = spelled_group requests group m sendable.1 fits
spelled_group (r ∷ requests) (Change change ∷ group) m sendable fits =
    spelled_group requests group (insert m change.key change.state) sendable.1 (spelled_with m change.key change.state fits sendable.0.2)

-- what was put in has spellings, also where the site broke
spelled_one : (old mid : SiteValue) (request : Request) (prepared : Prepared) (reply : Reply) → IsSendable request prepared → PutsOne old mid prepared reply →
    AreSpelled old.states → AreSpelled mid.states
spelled_one old mid request (Answer told) reply sendable puts fits = subst (λ (s : SiteValue). AreSpelled s.states) (sym puts.1) fits
spelled_one old mid request (Change change) reply sendable (inl puts) fits =
    subst (λ (s : SiteValue). AreSpelled s.states) (sym puts.1) (spelled_with old.states change.key change.state fits sendable.2)
spelled_one old mid request (Change change) reply sendable (inr puts) fits = subst (λ (s : SiteValue). AreSpelled s.states) (sym puts.1) fits

spelled_next : (old mid : SiteValue) (request : Request) (prepared : Prepared) (reply : Reply) (was : Bool) → old.broken ≡ was → IsSendable request prepared →
    PutsIfWhole old mid prepared reply → AreSpelled old.states → AreSpelled mid.states
spelled_next old mid request prepared reply true was sendable puts fits = subst (λ (s : SiteValue). AreSpelled s.states) (sym (puts.broken was).1) fits
spelled_next old mid request prepared reply false was sendable puts fits = spelled_one old mid request prepared reply sendable (puts.whole was) fits

spelled_all : (requests : List Request) (group : List Prepared) (replies : List Reply) (old new : SiteValue) → AreSendable requests group → PutsAll old new group replies →
    AreSpelled old.states → AreSpelled new.states
spelled_all requests [] [] old new sendable all fits = subst (λ (s : SiteValue). AreSpelled s.states) (sym all) fits
spelled_all requests [] (x ∷ replies) old new sendable all fits = absurd all
spelled_all requests (p ∷ group) [] old new sendable all fits = absurd all
spelled_all [] (p ∷ group) (x ∷ replies) old new sendable all fits = absurd sendable
spelled_all (r ∷ requests) (p ∷ group) (x ∷ replies) old new sendable all fits =
    spelled_all requests group replies all.0 new sendable.1 all.2 (spelled_next old all.0 r p x old.broken refl sendable.0 all.1 fits)

-- ---- what they were to change

abbrev pub changing : List Request → List Prepared → List Request
changing requests [] = []
changing [] (prepared ∷ group) = []
changing (request ∷ requests) (Answer reply ∷ group) = changing requests group
changing (request ∷ requests) (Change change ∷ group) = request ∷ changing requests group

after_changing : (config : ConfigValue) (requests : List Request) (group : List Prepared) (m : States) → ComeInOrder config m requests group →
    after_all config m (changing requests group) ≡ with_group m group
after_changing config requests [] m ordered = refl
after_changing config [] (prepared ∷ group) m ordered = absurd ordered
after_changing config (request ∷ requests) (Answer reply ∷ group) m ordered = after_changing config requests group m ordered.1
after_changing config (request ∷ requests) (Change change ∷ group) m ordered =
    ap (λ n. after_all config n (changing requests group)) ordered.0.0.after ∙ after_changing config requests group (insert m change.key change.state) ordered.1

none_changing : (requests : List Request) (group : List Prepared) → pairs_in group ≡ [] → changing requests group ≡ []
none_changing requests [] none = refl
none_changing [] (prepared ∷ group) none = refl
none_changing (request ∷ requests) (Answer reply ∷ group) none = none_changing requests group none
none_changing (request ∷ requests) (Change change ∷ group) none = absurd cc

unstored_undone : (requests : List Request) (group : List Prepared) → AreSendable requests group →
    AreUndoneIn (turns_of requests (map reply_unstored group)) (changing requests group)
unstored_undone requests [] sendable = tt
unstored_undone [] (prepared ∷ group) sendable = absurd sendable
unstored_undone (request ∷ requests) (Answer reply ∷ group) sendable =
    undone_skip _ (turns_of requests (map reply_unstored group)) (changing requests group) (unstored_undone requests group sendable.1)
unstored_undone (request ∷ requests) (Change change ∷ group) sendable = inl ((refl, inl refl), unstored_undone requests group sendable.1)

asked_skip : (turn : Turn) (turns : List Turn) (requests : List Request) → AreAskedIn turns requests → AreAskedIn (turn ∷ turns) requests
asked_skip turn turns [] all = tt
asked_skip turn turns (request ∷ requests) all = inr all

asked_changing : (requests : List Request) (group : List Prepared) (replies : List Reply) → AreSendable requests group → AreOne requests replies → AreAskedIn (turns_of requests replies) (changing requests group)
asked_changing [] [] replies sendable one = tt
asked_changing [] (prepared ∷ group) replies sendable one = absurd sendable
asked_changing (request ∷ requests) [] replies sendable one = absurd sendable
asked_changing (request ∷ requests) (prepared ∷ group) [] sendable one = absurd one
asked_changing (request ∷ requests) (Answer told ∷ group) (reply ∷ replies) sendable one =
    asked_skip _ (turns_of requests replies) (changing requests group) (asked_changing requests group replies sendable.1 one)
asked_changing (request ∷ requests) (Change change ∷ group) (reply ∷ replies) sendable one = inl (refl, asked_changing requests group replies sendable.1 one)

no_pairs : (requests : List Request) (group : List Prepared) → AreSendable requests group → changing requests group ≡ [] → pairs_in group ≡ []
no_pairs [] [] sendable none = refl
no_pairs [] (prepared ∷ group) sendable none = absurd sendable
no_pairs (request ∷ requests) [] sendable none = absurd sendable
no_pairs (request ∷ requests) (Answer told ∷ group) sendable none = no_pairs requests group sendable.1 none
no_pairs (request ∷ requests) (Change change ∷ group) sendable none = absurd cc

-- what a crash may leave of the commit
module _ (requests : List Request) (group : List Prepared) (old : SiteValue) (before : State) (ordered : ComeInOrder old.config old.states requests group)
    (sendable : AreSendable requests group) (fits : AreSpelled old.states) where
  left_group : (trees : Trees) → LeavesPairs before (pairs_in group) trees → LeavesRequests old (changing requests group) before trees
  left_group trees left = (
    left.0,
    λ was holds. (
        let d = left.1 2 old.config.site left.0 holds.records in (
          d.0,
          d.1,
          subst (λ m. HoldsStates old.config.site m d.0) (sym (after_changing old.config requests group old.states ordered)) (record {
            records = d.2.0;
            alone = subst HasNone (sym d.2.1.old_same) holds.alone;
            spelled = subst (λ m. SpellStates m (with_group old.states group)) (sym d.2.1.saved) (saved_spelled group (new_states before.committed) old.states (holds.spelled was));
            fits = spelled_group requests group old.states sendable fits;
          }),
          d.3,
        )),
  )

  survives_by : (turns : List Turn) (after : State) → AreAskedIn turns (changing requests group) → (pairs_in group ≡ [] → after ≡ before) → Survives before after (LeavesPairs before (pairs_in group)) →
      (some : List Request) → changing requests group ≡ some → Survives before after (LeavesSome turns old before)
  survives_by turns after asked none survives [] is = subst (λ s. Survives before s (LeavesSome turns old before)) (sym (none (no_pairs requests group sendable is))) (survives_self before (LeavesSome turns old before))
  survives_by turns after asked none survives (request ∷ rest) is = survives_weaker before after (LeavesPairs before (pairs_in group)) (LeavesSome turns old before)
      (λ _ trees left. (request, rest, subst (AreAskedIn turns) is asked, subst (λ l. LeavesRequests old l before trees) is (left_group trees left))) survives

  pub survives_group : (turns : List Turn) (after : State) → AreAskedIn turns (changing requests group) → (pairs_in group ≡ [] → after ≡ before) → Survives before after (LeavesPairs before (pairs_in group)) →
      Survives before after (LeavesSome turns old before)
  survives_group turns after asked none survives = survives_by turns after asked none survives (changing requests group) refl

-- What a commit of turns does to a site and to its store, by its parts
pub record StoresTurns (turns : List Turn) (old new : SiteValue) (before after : State) : Type 0 where
  pub takes : TakesAllFrom old new turns
  pub taken : HasCleanDisk after → IsTrue after.is_open ⊎ (new ≡ old)
  pub records : IsSound after → HoldsSite old before.committed → HoldsSite new after.committed
  pub lost : IsSound after → HoldsSite old before.committed → old.broken ≡ false → new.broken ≡ true → HoldsLost turns new after.committed
  pub survives : Survives before after (LeavesSome turns old before)
  pub leaves : LeavesTurns turns (stored_site old before) (stored_site new after)

module _ (requests : List Request) (group : List Prepared) (replies : List Reply) (old new : SiteValue) (before after : State) (was : old.broken ≡ false) (ordered : ComeInOrder old.config old.states requests group)
    (sendable : AreSendable requests group) (all : PutsAll old new group replies) (fits : AreSpelled old.states) (opened : HasCleanDisk after → IsTrue after.is_open ⊎ (pairs_in group ≡ []))
    (saved : (site : ℕ) → IsSound after → HoldsRecords 2 site before.committed → HoldsRecords 2 site after.committed × SavesStates before.committed after.committed (pairs_in group))
    (last : IsLast after) (same : pairs_in group ≡ [] → after ≡ before) (survives : Survives before after (LeavesPairs before (pairs_in group))) where
  config_put : new.config ≡ old.config
  config_put = config_all (turns_of requests replies) old new (takes_put requests group replies old new (λ _. ordered) sendable all)

  spelled_put : IsSound after → HoldsSite old before.committed → SpellStates (new_states after.committed) (with_group old.states group)
  spelled_put real holds =
      subst (λ m. SpellStates m (with_group old.states group)) (sym (saved old.config.site real holds.records).1.saved) (saved_spelled group (new_states before.committed) old.states (holds.spelled was))

  alone_put : IsSound after → HoldsSite old before.committed → HasNone (old_states after.committed)
  alone_put real holds = subst HasNone (sym (saved old.config.site real holds.records).1.old_same) holds.alone

  holds_put : IsSound after → HoldsSite old before.committed → HoldsSite new after.committed
  holds_put real holds = record {
    records = subst (λ (c : ConfigValue). HoldsRecords 2 c.site after.committed) (sym config_put) (saved old.config.site real holds.records).0;
    alone = alone_put real holds;
    spelled = λ whole. subst (SpellStates (new_states after.committed)) (sym (states_end group replies old new all whole)) (spelled_put real holds);
  }

  lost_put : IsSound after → HoldsSite old before.committed → new.broken ≡ true → HoldsLost (turns_of requests replies) new after.committed
  lost_put real holds broken =
      let it : LostAt (turns_of requests replies) new (with_group old.states group) = lost_end requests group replies old new was broken ordered sendable all in
      record {
        lost = it.lost;
        holds = subst (λ m. HoldsStates new.config.site m after.committed) (sym it.is) (record {
          records = subst (λ (c : ConfigValue). HoldsRecords 2 c.site after.committed) (sym config_put) (saved old.config.site real holds.records).0;
          alone = alone_put real holds;
          spelled = spelled_put real holds;
          fits = spelled_group requests group old.states sendable fits;
        });
      }

  taken_put : HasCleanDisk after → IsTrue after.is_open ⊎ (new ≡ old)
  taken_put disk = elim (opened disk) [ inl is ↦ inl is | inr none ↦ inr (still_end group replies old new was none all) ]

  none_put : HasCleanDisk after → after.is_open ≡ false → AreUndoneIn (turns_of requests replies) (changing requests group)
  none_put disk shut = elim (opened disk) [
    | inl is ↦ absurd (true≢false (sym is ∙ shut))
    | inr none ↦ subst (AreUndoneIn (turns_of requests replies)) (sym (none_changing requests group none)) tt
  ]

  leaves_put : LeavesTurns (turns_of requests replies) (stored_site old before) (stored_site new after)
  leaves_put =
      leaves_commit (AreUndoneIn (turns_of requests replies)) tt (stored_site old before) (stored_site new after) (changing requests group) last was
      (spelled_all requests group replies old new sendable all) (λ disk trees may. elim (survives.crash disk trees may) [ inl first ↦ inl first | inr made ↦ inr (left_group requests group old before ordered sendable fits trees made) ])
      taken_put holds_put none_put
      (λ real rest broken. (let it = lost_put real rest.holds broken in (lost_requests it.lost, lost_undone (turns_of requests replies) new after.committed it, it.holds)))

  -- the changes were stored
  pub stores_put : StoresTurns (turns_of requests replies) old new before after
  stores_put = record {
    takes = takes_put requests group replies old new (λ _. ordered) sendable all;
    taken = taken_put;
    records = holds_put;
    lost = λ real holds _ broken. lost_put real holds broken;
    survives = survives_group requests group old before ordered sendable fits (turns_of requests replies) after
        (asked_changing requests group replies sendable (one_put requests group replies old new sendable all)) same survives;
    leaves = leaves_put;
  }

-- the store refused them
pub stores_none : (requests : List Request) (group : List Prepared) (old : SiteValue) (before after : State) → old.broken ≡ false → AllComeAlone old.config old.states requests group →
    ComeInOrder old.config old.states requests group → AreSendable requests group → AreSpelled old.states → (IsSound after → after.committed ≡ before.committed) →
    IsLast after → (pairs_in group ≡ [] → after ≡ before) → Survives before after (LeavesPairs before (pairs_in group)) →
    StoresTurns (turns_of requests (map reply_unstored group)) old old before after
stores_none requests group old before after was each ordered sendable fits same last none survives =
    let holds = λ (real : IsSound after) (held : HoldsSite old before.committed). subst (HoldsSite old) (sym (same real)) held in
    record {
      takes = takes_unstored requests group old was each sendable;
      taken = λ _. inr refl;
      records = holds;
      lost = λ _ _ whole broken. absurd (true≢false (sym broken ∙ whole));
      survives = survives_group requests group old before ordered sendable fits (turns_of requests (map reply_unstored group)) after
          (asked_changing requests group (map reply_unstored group) sendable (one_unstored requests group sendable)) none survives;
      leaves = leaves_commit (AreUndoneIn (turns_of requests (map reply_unstored group))) tt (stored_site old before) (stored_site old after) (changing requests group) last was
          (λ spelled. spelled) (λ disk trees may. elim (survives.crash disk trees may) [ inl first ↦ inl first | inr made ↦ inr (left_group requests group old before ordered sendable fits trees made) ])
          (λ _. inr refl) holds (λ _ _. unstored_undone requests group sendable)
          (λ _ _ broken. absurd (true≢false (sym broken ∙ was)));
    }
