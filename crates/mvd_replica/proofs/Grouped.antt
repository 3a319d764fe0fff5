-- Requests of one commit, as the code has them.
use Rattle.std.proofs.Common.{◌≡◌, ◌≢◌, ◌∙◌, ℕ, ◌+◌, ◌<◌, arith, Bool, true, false, List, [], ◌∷◌, ◌++◌, map, None, Result, Ok, Err, refl, sym, ap, ap₂, subst, subst₂, inl, inr, true≢false, length, take, get_or, append-nil}
use Rattle.std.proofs.lemmas.List.{map-append, take_more}
use Rattle.std.specs.Prelude.{IfSome, IsTrue, OnOk}
use Rattle.mvd_dots.specs.declared.refusals.Refusal.{Refusal}
use Rattle.mvd_dots.specs.declared.refusals.Refusal.TheVariants.{Broken, Memory}
use Rattle.mvd_keys.specs.Key.{is_key}
use Rattle.mvd_keys.specs.State.{IsValid}
use Rattle.mvd_wire.specs.Codecs.{spell_state, IsInForm}
use Rattle.mvd_wire.specs.declared.request.Request.{Request}
use Rattle.mvd_wire.specs.declared.request.Request.TheVariants.{Put, Delete, Push}
use Rattle.mvd_wire.specs.declared.reply.Reply.{Reply}
use Rattle.mvd_wire.specs.declared.reply.Reply.TheVariants.{Refused}
use Rattle.mvd_records.specs.Calls.{SavesAll}
use Rattle.mvd_records.specs.Contents.{Contents, Holds}
use Rattle.mvd_records.specs.Pairs.{saved_entries}
use Rattle.mvd_records.specs.declared.storing.Save.{Save}
use Rattle.mvd_records.specs.Seen.{Seen}
use Rattle.mvd_records.specs.Records.{HoldsRecords, IsSound, LeavesTrees, SavesState, SavesStates, new_states, old_states, with_pairs}
use Rattle.mvd_site.specs.Change.{ChangeValue, change_reply}
use Rattle.mvd_site.specs.Config.{ConfigValue}
use Rattle.mvd_site.specs.FromStates.{after_from, answer_from, change_from, with_change as with_changed}
use Rattle.mvd_site.specs.Held.{States, state_at}
use Rattle.mvd_site.specs.Known.{IsValidRequest}
use Rattle.mvd_site.specs.Prepared.{IsFrugal, IsPlain, IsReady, PreparesAnswerFrom, PreparesFrom, is_refusal}
use Rattle.mvd_kept.specs.declared.prepared.Prepared.{Prepared}
use Rattle.mvd_kept.specs.declared.prepared.Prepared.TheVariants.{Answer, Change}
use Rattle.mvd_site.specs.Sites.{SiteValue}
use Rattle.mvd_site.proofs.Outcomes.{change_plain, refused_fits}
use Rattle.mvd_site.proofs.Pushes.{refusal_is}
use Rattle.mvd_replica.specs.Groups.{ComesTo, IsGivenReply, IsSendable, held_in, pairs_in}
use Rattle.sqlite.specs.Effect.{Database}
use Rattle.sqlite.specs.State.{State as Shown, Survives}
use Rattle.sqlite.proofs.StateLemmas.{survives_weaker}
use Rattle.mvd_replica.specs.Shared.{LeavesPairs}
use Rattle.mvd_replica.proofs.Putting.{no_done}

-- ---- what was prepared, as the code has it

refuses : (states : States) (request : Request) (refusal : Refusal) → change_from states request (Refused refusal) ≡ None
refuses states (Put key seen document) refusal = refl
refuses states (Delete key seen) refusal = refl
refuses states (Push key pushed) refusal = refl
refuses states request refusal = refl

-- a refused request changes nothing
pub refuses_nothing : (config : ConfigValue) (states : States) (request : Request) (refusal : Refusal) → answer_from config states request ≡ Refused refusal → after_from config states request ≡ states
refuses_nothing config states request refusal is = ap (with_changed states) (ap (change_from states request) is ∙ refuses states request refusal)

refused_answer : (config : ConfigValue) (states : States) (request : Request) (refusal : Refusal) → Refused refusal ≡ answer_from config states request → PreparesAnswerFrom config states request (Refused refusal)
refused_answer config states request refusal is =
    let none : change_from states request (answer_from config states request) ≡ None = ap (change_from states request) (sym is) ∙ refuses states request refusal in
    record { answers = is; still = subst (λ o. IfSome o (λ c. c.1 ≡ state_at states c.0)) (sym none) tt; after = ap (with_changed states) none }

pub comes_refused : (site : SiteValue) (request : Request) (refusal : Refusal) → site.broken ≡ false → PreparesFrom site.config site.states request (Err refusal) → (refusal ≡ Broken → site.broken ≡ true) →
    (IsFrugal site.states request → refusal ≢ Memory) →
    ComesTo site.config site.states request (Answer (Refused refusal)) × IsSendable request (Answer (Refused refusal))
comes_refused site request refusal whole from broken frugal = (
  (
    elim from [ inl is ↦ inl (refused_answer site.config site.states request refusal is) | inr memory ↦ inr (ap Refused memory) ],
    λ takes bad. frugal takes (refusal_is refusal Memory bad),
  ),
  record {
    other = λ bad. true≢false (sym (broken (refusal_is refusal Broken bad)) ∙ whole);
    fits = refused_fits refusal;
    valid = no_done request refusal;
  },
)

plain_reply : (request : Request) (reply : Reply) → IsPlain reply → IsValidRequest request → IsGivenReply request reply
plain_reply request reply plain valid = record {
  other = λ bad. true≢false (sym (ap is_refusal bad) ∙ plain.accepts);
  fits = plain.fits;
  valid = λ _. valid;
}

pub comes_answer : (site : SiteValue) (request : Request) (reply : Reply) → PreparesFrom site.config site.states request (Ok (Answer reply)) → IsReady site (Answer reply) → IsValidRequest request →
    ComesTo site.config site.states request (Answer reply) × IsSendable request (Answer reply)
comes_answer site request reply from ready valid =
    ((inl from, λ _ bad. true≢false (sym (ap is_refusal bad) ∙ ready.accepts)), plain_reply request reply ready valid)

pub comes_change : (site : SiteValue) (request : Request) (change : ChangeValue) → PreparesFrom site.config site.states request (Ok (Change change)) → IsReady site (Change change) → IsValidRequest request → IsInForm change.state → IsValid change.state →
    is_key change.key ≡ true → ComesTo site.config site.states request (Change change) × IsSendable request (Change change)
comes_change site request change from ready valid spelled sound key =
    ((from, ready.0), (plain_reply request (change_reply change.dot) (change_plain change.dot) valid, ready.1, spelled, sound, key))

-- ---- lists, one more

pub pairs_more : (group : List Prepared) (prepared : Prepared) → pairs_in (group ++ prepared ∷ []) ≡ pairs_in group ++ pairs_in (prepared ∷ [])
pairs_more [] prepared = refl
pairs_more (Answer reply ∷ group) prepared = pairs_more group prepared
pairs_more (Change change ∷ group) prepared = ap (λ l. (change.key, spell_state change.state) ∷ l) (pairs_more group prepared)

pub held_more : (group : List Prepared) (prepared : Prepared) → held_in (group ++ prepared ∷ []) ≡ held_in group ++ held_in (prepared ∷ [])
held_more [] prepared = refl
held_more (Answer reply ∷ group) prepared = held_more group prepared
held_more (Change change ∷ group) prepared = ap (λ l. change.was_held ∷ l) (held_more group prepared)

-- ---- what is stored, as the code has it

pub store_one : {A : Type 0} (result : Result A Refusal) (a b : Database) (change : ChangeValue) (group : List Prepared) (key bytes : List ℕ) (site : ℕ) → key ≡ change.key → bytes ≡ spell_state change.state → group ≡ Change change ∷ [] →
    HoldsRecords 2 site b → OnOk result (SavesState a b key bytes) → OnOk result (HoldsRecords 2 site b × SavesStates a b (pairs_in group))
store_one (Ok done) a b change group key bytes site key-is bytes-is alone holds saved =
    let here : SavesState a b change.key (spell_state change.state) = subst₂ (SavesState a b) key-is bytes-is saved in
    (holds, subst (λ l. SavesStates a b (pairs_in l)) (sym alone) (record { old_same = here.old_same; saved = here.saved }))
store_one (Err refusal) a b change group key bytes site key-is bytes-is alone holds saved = tt

pub store_many : {A : Type 0} (result : Result A Refusal) (old new : Seen) (pairs : List (List ℕ × List ℕ)) (group : List Prepared) (site : ℕ) → SavesAll old pairs result new → pairs ≡ pairs_in group → IsSound new.store →
    HoldsRecords 2 site old.store.committed → OnOk result (HoldsRecords 2 site new.store.committed × SavesStates old.store.committed new.store.committed (pairs_in group))
store_many (Err refusal) old new pairs group site saves same sound holds = tt
store_many (Ok done) old new pairs group site saves same sound holds =
    let was : Contents = record { version = 2; site = site; old_map = old_states old.store.committed; new_map = new_states old.store.committed } in
    let now : (now : Contents) × (now ≡ record was { new_map = with_pairs was.new_map pairs }) × Holds new.store.committed now =
    saves.commits.done was sound (record { records = holds; old_is = refl; new_is = refl }) in (
      subst₂ (λ v n. HoldsRecords v n new.store.committed) (ap (λ (k : Contents). k.version) now.1) (ap (λ (k : Contents). k.site) now.1) now.2.records,
      subst (λ l. SavesStates old.store.committed new.store.committed l) same (record {
        old_same = now.2.old_is ∙ ap (λ (k : Contents). k.old_map) now.1;
        saved = now.2.new_is ∙ ap (λ (k : Contents). k.new_map) now.1;
      }),
    )

-- a crash leaves what it left before, or the pairs
pub survives_one : (old new : Shown) (change : ChangeValue) (group : List Prepared) (key bytes : List ℕ) → key ≡ change.key → bytes ≡ spell_state change.state → group ≡ Change change ∷ [] →
    Survives old new (λ trees. IsTrue old.is_open × LeavesTrees old (λ version site db. HoldsRecords version site db × SavesState old.committed db key bytes) trees) →
    Survives old new (LeavesPairs old (pairs_in group))
survives_one old new change group key bytes key-is bytes-is alone it = survives_weaker _ _ _ _ (λ _ trees left. (
  left.0,
  λ version site is_open holds. (
      let d = left.1 version site is_open holds in
      let here : SavesState old.committed d.0 change.key (spell_state change.state) = subst₂ (SavesState old.committed d.0) key-is bytes-is d.2.1 in
      (d.0, d.1, (d.2.0, subst (λ l. SavesStates old.committed d.0 (pairs_in l)) (sym alone) (record { old_same = here.old_same; saved = here.saved })), d.3)),
)) it

-- the only one
pub one_only : (group : List Prepared) (prepared : Prepared) → length group ≡ 1 → prepared ≡ get_or group 0 prepared → group ≡ prepared ∷ []
one_only [] prepared count is = absurd (omega (arith, count))
one_only (p ∷ []) prepared count is = ap (λ x. x ∷ []) (sym is)
one_only (p ∷ q ∷ group) prepared count is = absurd (omega (arith, count))

-- ---- what is to be stored, one more

abbrev pub held_told : List Save → List Bool
held_told saves = map (λ s. s.is_held) saves

module _ (saves : List Save) (group : List Prepared) (i : ℕ) (item : Prepared) where
  pub saves_next : (change : ChangeValue) (save : Save) → i < length group → item ≡ get_or group i item → item ≡ Change change → save.key.now ≡ change.key → save.bytes.now ≡ spell_state change.state →
      saved_entries saves ≡ pairs_in (take i group) → saved_entries (saves ++ save ∷ []) ≡ pairs_in (take (i + 1) group)
  saves_next change save low is change-is key bytes so_far =
      let last : (save.key.now, save.bytes.now) ∷ [] ≡ pairs_in (item ∷ []) = ap₂ (λ k b. (k, b) ∷ []) key bytes ∙ sym (ap (λ p. pairs_in (p ∷ [])) change-is) in
      map-append (λ (s : Save). (s.key.now, s.bytes.now)) saves (save ∷ []) ∙ ap₂ (λ a b. a ++ b) so_far last ∙ sym (pairs_more (take i group) item)
      ∙ ap pairs_in (ap (λ p. take i group ++ p ∷ []) is ∙ sym (take_more group i item low))

  pub saves_skip : (reply : Reply) → i < length group → item ≡ get_or group i item → item ≡ Answer reply → saved_entries saves ≡ pairs_in (take i group) → saved_entries saves ≡ pairs_in (take (i + 1) group)
  saves_skip reply low is reply-is so_far =
      so_far ∙ sym (append-nil (pairs_in (take i group))) ∙ ap (λ l. pairs_in (take i group) ++ l) (sym (ap (λ p. pairs_in (p ∷ [])) reply-is)) ∙ sym (pairs_more (take i group) item)
      ∙ ap pairs_in (ap (λ p. take i group ++ p ∷ []) is ∙ sym (take_more group i item low))

  -- and whether the key of each is held
  pub held_next : (change : ChangeValue) (save : Save) → i < length group → item ≡ get_or group i item → item ≡ Change change → save.is_held ≡ change.was_held →
      held_told saves ≡ held_in (take i group) → held_told (saves ++ save ∷ []) ≡ held_in (take (i + 1) group)
  held_next change save low is change-is held so_far =
      let last : save.is_held ∷ [] ≡ held_in (item ∷ []) = ap (λ b. b ∷ []) held ∙ sym (ap (λ p. held_in (p ∷ [])) change-is) in
      map-append (λ (s : Save). s.is_held) saves (save ∷ []) ∙ ap₂ (λ a b. a ++ b) so_far last ∙ sym (held_more (take i group) item)
      ∙ ap held_in (ap (λ p. take i group ++ p ∷ []) is ∙ sym (take_more group i item low))

  pub held_skip : (reply : Reply) → i < length group → item ≡ get_or group i item → item ≡ Answer reply → held_told saves ≡ held_in (take i group) → held_told saves ≡ held_in (take (i + 1) group)
  held_skip reply low is reply-is so_far =
      so_far ∙ sym (append-nil (held_in (take i group))) ∙ ap (λ l. held_in (take i group) ++ l) (sym (ap (λ p. held_in (p ∷ [])) reply-is)) ∙ sym (held_more (take i group) item)
      ∙ ap held_in (ap (λ p. take i group ++ p ∷ []) is ∙ sym (take_more group i item low))
