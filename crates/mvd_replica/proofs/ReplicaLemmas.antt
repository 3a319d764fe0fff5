-- How a push comes by what a replica does with the request to push.
use Rattle.std.proofs.Common.{◌≡◌, ◌≢◌, ◌∙◌, [], ◌∷◌, true, false, Result, Ok, Err, refl, sym, ap, subst, inl, inr, true≢false}
use Rattle.std.specs.Result.{IfErr, MatchResult, OnOk}
use Rattle.mvd_dots.specs.declared.refusals.Refusal.{Refusal}
use Rattle.mvd_dots.specs.declared.refusals.Refusal.TheVariants.{Broken, DotClash, Memory}
use Rattle.mvd_keys.specs.State.{IsValid, State}
use Rattle.mvd_keys.specs.Writes.{Key}
use Rattle.mvd_wire.specs.declared.request.Request.{Request}
use Rattle.mvd_wire.specs.declared.request.Request.TheVariants.{Push}
use Rattle.mvd_wire.specs.declared.reply.Reply.{Reply}
use Rattle.mvd_wire.specs.declared.reply.Reply.TheVariants.{Refused}
use Rattle.mvd_records.specs.Records.{IsSound}
use Rattle.mvd_site.specs.FromStates.{push_reply}
use Rattle.mvd_site.specs.Installs.{broken_site}
use Rattle.mvd_site.specs.Prepared.{is_refusal}
use Rattle.mvd_site.specs.Sites.{SiteValue}
use Rattle.mvd_site.proofs.Pushes.{PushFacts}
use Rattle.sqlite_trees.specs.declared.store.Store.{Ghosts}
use Rattle.mvd_replica.specs.declared.replica.Replica.{Replica}
use Rattle.mvd_replica.specs.Batch.{AnswersOneFrom}
use Rattle.mvd_replica.specs.Commits.{AnswersOneRequest}
use Rattle.mvd_replica.specs.ReplicaCalls.{PushesState}
use Rattle.mvd_replica.proofs.Batching.{stored_from}
use Rattle.mvd_replica.proofs.Commits.{answer_follows, answer_still, answer_stored, answer_survives, answer_unstored, answers_one, clean}
use Rattle.mvd_replica.specs.Replicas.{KeepsCommit, committed_of, site_of, store_of, stored_of}
use Rattle.mvd_replica.specs.Sides.{AnswersFromStored, replica_follows_self}
use Rattle.mvd_replica.specs.Whole.{leaves_self}
use Rattle.mvd_replica.specs.Turns.{LeavesTurns}
use Rattle.mvd_replica.proofs.Sides.{pushed_reply, stored_facts}
use Rattle.mvd_replica.proofs.Stops.{survives_self}

the_request : (a b : Request) → ◌≡◌ {A = Result Request Refusal} (Ok a) (Ok b) → a ≡ b
the_request a b e = cc

on_ok : {A : Type 0} (result : Result A Refusal) (P : Type 0) → P → OnOk result P
on_ok (Ok x) P p = p
on_ok (Err refusal) P p = tt

broken_is : (site : SiteValue) → site.broken ≡ true → site ≡ broken_site site
broken_is site broken = λ i. record { config = site.config; states = site.states; broken = broken i }

module _ {S : Type 0} {g : Ghosts S} where
  push_unstored : (old new : Replica S g) (reply : Reply) (result : Result (Unit {0}) Refusal) → MatchResult result (λ _. is_refusal reply ≡ false) (λ refusal. reply ≡ Refused refusal) →
      ((refusal : Refusal) → IsSound (store_of new) → reply ≡ Refused refusal → refusal ≢ Broken → committed_of new ≡ committed_of old) → IfErr result (λ refusal. refusal ≢ Broken → KeepsCommit old new)
  push_unstored old new reply (Ok done) told it = tt
  push_unstored old new reply (Err refusal) told it = λ other sound. it refusal sound told other

  -- one that was answered
  pub push_answered : (old new : Replica S g) (key : Key) (pushed : State) (request : Request) (reply : Reply) (result : Result (Unit {0}) Refusal) → (site_of old).broken ≡ false → IsValid pushed →
      ◌≡◌ {A = Result Request Refusal} (Ok (Push key pushed)) (Ok request) → MatchResult result (λ _. is_refusal reply ≡ false) (λ refusal. reply ≡ Refused refusal) →
      AnswersOneRequest old request reply new → PushesState old key pushed result new
  push_answered old new key pushed request reply result whole valid same told it =
      let asked : AnswersOneRequest old (Push key pushed) reply new = subst (λ (r : Request). AnswersOneRequest old r reply new) (sym (the_request (Push key pushed) request same)) it in
      let one : AnswersOneFrom (site_of old) (site_of new) (Push key pushed) reply = answers_one old new (Push key pushed) reply asked in
      let is : reply ≡ push_reply result = pushed_reply (site_of old) (site_of new) key pushed reply result whole (stored_from one) told in
      let answer : AnswersFromStored (site_of old) (site_of new) (Push key pushed) (push_reply result) =
      subst (λ (r : Reply). AnswersFromStored (site_of old) (site_of new) (Push key pushed) r) is (stored_from one) in
      let facts : PushFacts (site_of old) (site_of new) key pushed result = stored_facts (site_of old) (site_of new) key pushed result whole answer in
      record {
        answer = answer;
        joined = facts.joined;
        agreed = facts.agreed;
        clash = facts.clash;
        unchanged = facts.unchanged;
        unstored = push_unstored old new reply result told (answer_unstored old new (Push key pushed) reply asked);
        still = answer_still old new (Push key pushed) reply asked;
        form = one.form;
        taken = asked.taken;
        clean = clean _ old new asked;
        told = facts.told;
        stays = λ broken. absurd (true≢false (sym broken ∙ whole));
        valid = on_ok result (IsValid pushed) valid;
        follows = answer_follows old new (Push key pushed) reply asked;
        stored = λ sound holds unbroken broke. answer_stored old new (Push key pushed) reply asked sound holds unbroken (is ∙ ap (λ (r : Result (Unit {0}) Refusal). push_reply r) broke);
        survives = answer_survives old new (Push key pushed) reply asked;
        leaves = subst (λ (r : Reply). LeavesTurns (record { asked = Ok (Push key pushed); reply = r } ∷ []) (stored_of old) (stored_of new)) is asked.leaves;
      }

  -- one to a broken replica
  pub push_broken : (old : Replica S g) (key : Key) (pushed : State) → (site_of old).broken ≡ true → PushesState old key pushed (Err Broken) old
  push_broken old key pushed broken = record {
    answer = inl (λ whole. absurd (true≢false (sym broken ∙ whole)));
    joined = tt;
    agreed = tt;
    clash = λ is. absurd (let bad : Broken ≡ DotClash = is in cc);
    unchanged = λ _. refl;
    unstored = λ _ _. refl;
    still = λ _. refl;
    form = λ held. held;
    taken = λ _. inr refl;
    clean = λ clean. clean;
    told = λ _. broken_is (site_of old) broken;
    stays = λ _. (refl, refl);
    valid = tt;
    follows = replica_follows_self (stored_of old);
    stored = λ sound holds whole is. absurd (true≢false (sym broken ∙ whole));
    survives = survives_self _ _;
    leaves = leaves_self _ (stored_of old) tt;
  }

  -- one for which no request could be made
  pub push_unmade : (old : Replica S g) (key : Key) (pushed : State) (refusal : Refusal) → (site_of old).broken ≡ false → refusal ≡ Memory → PushesState old key pushed (Err refusal) old
  push_unmade old key pushed refusal whole memory = record {
    answer = inl (λ _. inr (inl (ap Refused memory, refl)));
    joined = tt;
    agreed = tt;
    clash = λ is. absurd (let bad : DotClash ≡ Memory = sym is ∙ memory in cc);
    unchanged = λ _. refl;
    unstored = λ _ _. refl;
    still = λ _. refl;
    form = λ held. held;
    taken = λ _. inr refl;
    clean = λ clean. clean;
    told = λ is. absurd (let bad : Broken ≡ Memory = sym is ∙ memory in cc);
    stays = λ broken. absurd (true≢false (sym broken ∙ whole));
    valid = tt;
    follows = replica_follows_self (stored_of old);
    stored = λ sound holds unbroken is. absurd (let bad : ◌≡◌ {A = Result (Unit {0}) Refusal} (Err Memory) (Err Broken) = ap (λ (r : Refusal). Err r) (sym memory) ∙ is in cc);
    survives = survives_self _ _;
    leaves = leaves_self _ (stored_of old) tt;
  }
