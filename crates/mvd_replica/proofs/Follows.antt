-- What the relations of an open and of a connection say, clause by clause.
use Rattle.std.proofs.Common.{◌≡◌, ◌∙◌, ℕ, List, [], ◌∷◌, ◌++◌, take, suc, Option, Result, Err, inl, inr, refl, sym, ap, subst, append_assoc}
use Rattle.std.specs.Io.KnownBytes.{Appends}
use Rattle.mvd_dots.specs.declared.refusals.Refusal.{Refusal}
use Rattle.mvd_dots.specs.declared.refusals.Refusal.TheVariants.{WriteFailed}
use Rattle.mvd_records.specs.Records.{HasNone, IsSound, old_states}
use Rattle.mvd_site.specs.Config.{ConfigValue}
use Rattle.mvd_site.specs.Held.{States}
use Rattle.mvd_site.specs.Sites.{SiteValue}
use Rattle.sqlite.specs.Effect.{Database}
use Rattle.sqlite.specs.State.{State}
use Rattle.mvd_records.specs.Records.{IsOurs}
use Rattle.mvd_replica.specs.declared.serving.Ended.{Ended}
use Rattle.mvd_replica.specs.Holds.{HoldsStates}
use Rattle.mvd_replica.specs.Opened.{IsOpened, IsRefused, OpensSite}
use Rattle.mvd_replica.specs.Served.{Served, Conversation, WentOut, ending_bytes, replies_bytes, result_of}
use Rattle.mvd_replica.specs.Readable.{SameStates}
use Rattle.mvd_replica.proofs.RestoredOrder.{held_just, just_one}
use Rattle.mvd_replica.proofs.Positions.{GoesOut, GoesOutAfter}
use Rattle.mvd_replica.proofs.Whole.{replies_bytes-append}

-- the records of some states are ours
pub ours_held : (number : _) (states : States) (db : Database) → HoldsStates number states db → IsOurs db
ours_held number states db holds = inr (inr holds.records.tables)

-- what held some states opens as just these
pub just_these : (config : ConfigValue) (was : Database) (site : SiteValue) (now : Database) → OpensSite config was site now →
    (number : _) (states : States) → HoldsStates number states was → site.states ≡ states
just_these config was site now it number states holds = just_one was site.states states it.spelled (held_just number was states holds)

module _ (config : ConfigValue) (store : State) (e : Refusal) (after : State) (it : IsRefused config store e after) where
  pub refuses_same : IsSound after → IsOurs store.committed → SameStates store.committed after.committed
  refuses_same sound ours = (it.refused sound ours).states

-- ---- a connection

take-past : (front bytes : List ℕ) (n : ℕ) → (m : ℕ) × (front ++ take n bytes ≡ take m (front ++ bytes))
take-past [] bytes n = (n, refl)
take-past (x ∷ front) bytes n = let later : (m : ℕ) × (front ++ take n bytes ≡ take m (front ++ bytes)) = take-past front bytes n in (suc later.0, ap (λ (l : List ℕ). x ∷ l) later.1)
