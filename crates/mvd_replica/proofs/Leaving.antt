-- What a stop leaves after one commit.
use Rattle.std.proofs.Common.{◌≡◌, ◌⊎◌, ◌∙◌, Bool, true, false, List, [], ◌∷◌, ◌++◌, Result, refl, sym, ap, subst, inl, inr, true≢false}
use Rattle.std.specs.Prelude.{IsTrue, ℕ}
use Rattle.mvd_dots.specs.declared.refusals.Refusal.{Refusal}
use Rattle.mvd_wire.specs.declared.request.Request.{Request}
use Rattle.mvd_wire.specs.declared.reply.Reply.{Reply}
use Rattle.mvd_wire.specs.Replies.{is_short}
use Rattle.mvd_records.specs.Records.{HoldsRecords, IsSound}
use Rattle.mvd_site.specs.Held.{States}
use Rattle.mvd_site.specs.Sites.{SiteValue}
use Rattle.sqlite.specs.Effect.{Database, IsDatabase}
use Rattle.sqlite.specs.State.{HasCleanDisk, IsLive, State}
use Rattle.sqlite.specs.Tree.{Trees}
use Rattle.mvd_replica.specs.Batch.{AreAmongTurns, HoldsLost, lost_requests}
use Rattle.mvd_replica.specs.Holds.{AreSpelled, HoldsSite, HoldsStates}
use Rattle.mvd_replica.specs.Replicas.{StoredSite}
use Rattle.mvd_replica.specs.Steps.{IsSent}
use Rattle.mvd_replica.specs.Stops.{LeavesRequests}
use Rattle.mvd_replica.specs.Whole.{IsAtRest, LeavesDone, LeavesStates, LeavesWhole, after_all, leaves_wider}
use Rattle.mvd_replica.specs.Turns.{AreUndoneIn, LeavesTurns, Turn}
use Rattle.mvd_replica.proofs.Positions.{stored_site}
use Rattle.mvd_replica.proofs.Storing.{holds_states}

-- ---- one commit

-- an open store leaves just its last commit
abbrev pub IsLast : State → Type 0
IsLast s = (trees : Trees) → IsTrue s.is_open → s.may_leave trees → trees ≡ s.committed.trees

same_database : (a b : Database) → a.schema ≡ b.schema → a.trees ≡ b.trees → a ≡ b
same_database a b schema trees = λ i. record { schema = schema i; trees = trees i }

-- a database of the same trees is sound where one of ours is
sound_as : (number version site : ℕ) (states : States) (trees : Trees) (db : Database) → LeavesStates number states trees → trees ≡ db.trees →
    HoldsRecords version site db → IsDatabase db
sound_as number version site states trees db left is records =
    subst IsDatabase (same_database left.0 db (left.2.records.tables.schema ∙ sym records.tables.schema) (sym left.3 ∙ is)) left.1

-- a site whose store is sound and holds it
pub at_rest : (site : SiteValue) (s : State) → IsLast s → IsLive s → IsSound s → site.broken ≡ false → AreSpelled site.states → HoldsSite site s.committed → IsAtRest (stored_site site s)
at_rest site s last live sound whole fits holds = record {
  is_open = sound.is_open;
  whole = whole;
  fits = fits;
  holds = holds;
  left = λ trees may. (s.committed, (live sound.is_open).1, holds_states site s.committed whole fits holds, last trees sound.is_open may);
}

module _ (AreUndone : List Request → Type 0) (none : AreUndone []) (old new : StoredSite) (requests : List Request)
    (last : IsLast new.store) (was : old.site.broken ≡ false) (spells : AreSpelled old.site.states → AreSpelled new.site.states)
    (crash : HasCleanDisk new.store → (trees : Trees) → new.store.may_leave trees → old.store.may_leave trees ⊎ LeavesRequests old.site requests old.store trees)
    (taken : HasCleanDisk new.store → IsTrue new.store.is_open ⊎ (new.site ≡ old.site))
    (holds : IsSound new.store → HoldsSite old.site old.store.committed → HoldsSite new.site new.store.committed)
    (shut : HasCleanDisk new.store → new.store.is_open ≡ false → AreUndone requests)
    (broke : IsSound new.store → IsAtRest old → new.site.broken ≡ true → (undone : List Request) × AreUndone undone ×
    HoldsStates new.site.config.site (after_all new.site.config new.site.states undone) new.store.committed) where
  left_open : (broken : Bool) → new.site.broken ≡ broken → IsSound new.store → IsAtRest old → (trees : Trees) → new.store.may_leave trees →
      LeavesDone AreUndone new trees
  left_open broken is sound rest trees may =
      let same : trees ≡ new.store.committed.trees = last trees sound.is_open may in
      let held : HoldsSite new.site new.store.committed = holds sound rest.holds in
      let real : IsDatabase new.store.committed = elim (crash sound.clean trees may) [
        | inl before ↦ sound_as _ _ _ _ trees new.store.committed (rest.left trees before) same held.records
        | inr after ↦ sound_as _ _ _ _ trees new.store.committed (after.1 was rest.holds) same held.records
      ] in
      elim broken as (λ b. new.site.broken ≡ b → LeavesDone AreUndone new trees) [
        | false ↦ λ whole. record {
          undone = [];
          are = none;
          left = (new.store.committed, real, holds_states new.site new.store.committed whole (spells rest.fits) held, same);
          none = λ _ _. refl;
        }
        | true ↦ λ broke_now. (let it = broke sound rest broke_now in record {
          undone = it.0;
          are = it.1;
          left = (new.store.committed, real, it.2, same);
          none = λ _ whole. absurd (true≢false (sym broke_now ∙ whole));
        })
      ] is

  left_shut : HasCleanDisk new.store → new.store.is_open ≡ false → IsAtRest old → (trees : Trees) → new.store.may_leave trees →
      LeavesDone AreUndone new trees
  left_shut clean is rest trees may =
      let same : new.site ≡ old.site = elim (taken clean) [ inl is_open ↦ absurd (true≢false (sym is_open ∙ is)) | inr same ↦ same ] in
      elim (crash clean trees may) [
        | inl before ↦ record {
          undone = [];
          are = none;
          left = subst (λ (s : SiteValue). LeavesStates s.config.site s.states trees) (sym same) (rest.left trees before);
          none = λ _ _. refl;
        }
        | inr after ↦ record {
          undone = requests;
          are = shut clean is;
          left = subst (λ (s : SiteValue). LeavesStates s.config.site (after_all s.config s.states requests) trees) (sym same) (after.1 was rest.holds);
          none = λ is_open _. absurd (true≢false (sym is_open ∙ is));
        }
      ]

  left_by : (is_open : Bool) → new.store.is_open ≡ is_open → HasCleanDisk new.store → IsAtRest old → (trees : Trees) → new.store.may_leave trees →
      LeavesDone AreUndone new trees
  left_by true is clean rest trees may = left_open new.site.broken refl (record { clean = clean; is_open = is }) rest trees may
  left_by false is clean rest trees may = left_shut clean is rest trees may

  pub leaves_commit : LeavesWhole AreUndone old new
  leaves_commit = record {
    fits = spells;
    leaves = left_by new.store.is_open refl;
    still = λ clean still trees may. elim still [
      | inl broken ↦ absurd (true≢false (sym broken ∙ was))
      | inr is ↦ elim (crash clean trees may) [
        | inl before ↦ before
        | inr after ↦ absurd (true≢false (sym after.0 ∙ is))
      ]
    ];
  }

-- want of memory in place of a reply that takes memory undoes nothing
sent_undone : (asked : Result Request Refusal) (reply sent : Reply) → IsSent reply sent → (requests : List Request) →
    AreUndoneIn (record { asked = asked; reply = reply } ∷ []) requests → AreUndoneIn (record { asked = asked; reply = sent } ∷ []) requests
sent_undone asked reply sent is [] all = tt
sent_undone asked reply sent is (request ∷ requests) (inr later) = absurd later
sent_undone asked reply sent (inl same) (request ∷ requests) (inl here) = inl (
  (here.0.0, elim here.0.1 [ inl store ↦ inl (same ∙ store) | inr broken ↦ inr (same ∙ broken) ]),
  here.1,
)
sent_undone asked reply sent (inr other) (request ∷ requests) (inl here) = elim here.0.1 [
  | inl store ↦ absurd (true≢false (ap is_short (sym store) ∙ other.0))
  | inr broken ↦ absurd (true≢false (ap is_short (sym broken) ∙ other.0))
]

pub leaves_sent : (asked : Result Request Refusal) (reply sent : Reply) (old new : StoredSite) → IsSent reply sent →
    LeavesTurns (record { asked = asked; reply = reply } ∷ []) old new → LeavesTurns (record { asked = asked; reply = sent } ∷ []) old new
leaves_sent asked reply sent old new is it = leaves_wider _ _ old new (sent_undone asked reply sent is) it

-- ---- turns, as lists

pub undone_more : (turns more : List Turn) (requests : List Request) → AreUndoneIn turns requests → AreUndoneIn (turns ++ more) requests
undone_more turns more [] all = tt
undone_more [] more (request ∷ requests) all = absurd all
undone_more (turn ∷ turns) more (request ∷ requests) (inl here) = inl (here.0, undone_more turns more requests here.1)
undone_more (turn ∷ turns) more (request ∷ requests) (inr later) = inr (undone_more turns more (request ∷ requests) later)

pub undone_skip : (turn : Turn) (turns : List Turn) (requests : List Request) → AreUndoneIn turns requests → AreUndoneIn (turn ∷ turns) requests
undone_skip turn turns [] all = tt
undone_skip turn turns (request ∷ requests) all = inr all

pub undone_later : (first turns : List Turn) (requests : List Request) → AreUndoneIn turns requests → AreUndoneIn (first ++ turns) requests
undone_later [] turns requests all = all
undone_later (turn ∷ first) turns requests all = undone_skip turn (first ++ turns) requests (undone_later first turns requests all)

undone_among : (turns : List Turn) (requests : List Request) → AreAmongTurns requests turns → AreUndoneIn turns requests
undone_among turns [] all = tt
undone_among [] (request ∷ requests) all = absurd all
undone_among (turn ∷ turns) (request ∷ requests) (inl here) = inl ((here.0.0, inr here.0.1), undone_among turns requests here.1)
undone_among (turn ∷ turns) (request ∷ requests) (inr later) = inr (undone_among turns (request ∷ requests) later)

-- what a broken site has lost is among what was refused
pub lost_undone : (turns : List Turn) (site : SiteValue) (db : Database) (it : HoldsLost turns site db) → AreUndoneIn turns (lost_requests it.lost)
lost_undone turns site db it =
    let lost = it.lost in
    subst (λ all. AreUndoneIn all (lost.request ∷ lost.rest)) (sym lost.all)
    (undone_later lost.before (lost.broke ∷ lost.later) (lost.request ∷ lost.rest)
    (inl ((lost.asked.0, inr lost.asked.1), undone_among lost.later lost.rest lost.among)))
