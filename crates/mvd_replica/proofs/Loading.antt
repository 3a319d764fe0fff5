-- The site that stored states make.
use Rattle.std.proofs.Common.{◌≡◌, ◌∙◌, ◌<◌, ◌&&◌, Bool, true, false, cond, ltb, ℕ, List, [], ◌∷◌, length, map, Some, Result, Ok, Err, T, option_map, if◌then◌else◌, inl, inr, refl, sym, ap, subst}
use Rattle.std.proofs.lemmas.Bool.{ltb-true}
use Rattle.std.proofs.lemmas.List.{length-map}
use Rattle.std.specs.Result.{IfErr, IfOk, MatchResult, OnErr, OnOk}
use Rattle.std.specs.Ordering.{is_lt, eq_by_cmp}
use Rattle.std.specs.FinMap.{entries, find, from_entries, get-entries, get-from_entries, is_sorted, len, len-entries}
use Rattle.std.specs.FinMap.Entries.{below_all}
use Rattle.mvd_dots.specs.Answer.{IsAnswer}
use Rattle.mvd_dots.specs.declared.refusals.Refusal.{Refusal}
use Rattle.mvd_dots.specs.declared.refusals.Refusal.TheVariants.{Damaged, Full, Memory, Store}
use Rattle.mvd_keys.specs.Key.{key_cmp}
use Rattle.mvd_keys.specs.State.{State}
use Rattle.mvd_keys.specs.Writes.{Key}
use Rattle.mvd_keys.proofs.KeyOrder.{key_total}
use Rattle.mvd_wire.specs.Codecs.{spell_state}
use Rattle.mvd_records.specs.States.{StoredStates as Stored}
use Rattle.mvd_records.specs.Records.{EndsMove, HasNone, HoldsRecords, new_states, old_states}
use Rattle.mvd_site.specs.Config.{ConfigValue}
use Rattle.mvd_site.specs.Sites.{SiteValue, opened}
use Rattle.sqlite.specs.Effect.{Database}
use Rattle.mvd_replica.specs.Holds.{HoldsSite, SpellStates}
use Rattle.mvd_replica.specs.Restored.{IsUnloaded, IsUnmoved}
use Rattle.mvd_replica.specs.Readable.{spelled_entries}

-- what is so, is so where a call gave something
pub whenever : {A E P : Type 0} (r : Result A E) → P → OnOk r P
whenever (Ok x) p = p
whenever (Err e) p = tt

-- ---- why nothing is moved

pub unmoved_unloaded : (e : Refusal) → IsUnmoved e → IsUnloaded e
unmoved_unloaded e (inl is) = inl is
unmoved_unloaded e (inr is) = inr (inr is)

pub unmoved_not_full : (e : Refusal) → IsUnmoved e → ¬ (e ≡ Full)
unmoved_not_full e (inl is) full = let bad : Damaged ≡ Full = sym is ∙ full in cc
unmoved_not_full e (inr (inl is)) full = let bad : Memory ≡ Full = sym is ∙ full in cc
unmoved_not_full e (inr (inr is)) full = let bad : Store ≡ Full = sym is ∙ full in cc

-- ---- entries whose values are mapped

module _ {X Y : Type 0} (f : X → Y) where
  abbrev with_values : List (Key × X) → List (Key × Y)
  with_values = map (λ e. (e.0, f e.1))

  below_alike : (key : Key) (es : List (Key × X)) → below_all key_cmp key (with_values es) ≡ below_all key_cmp key es
  below_alike key [] = refl
  below_alike key (e ∷ es) = ap (λ b. is_lt (key_cmp key e.0) && b) (below_alike key es)

  pub sorted_alike : (es : List (Key × X)) → is_sorted key_cmp (with_values es) ≡ is_sorted key_cmp es
  sorted_alike [] = refl
  sorted_alike (e ∷ es) = ap (λ b. b && is_sorted key_cmp (with_values es)) (below_alike e.0 es) ∙ ap (λ b. below_all key_cmp e.0 es && b) (sorted_alike es)

  find_alike : (key : Key) (es : List (Key × X)) → find key_cmp key (with_values es) ≡ option_map f (find key_cmp key es)
  find_alike key [] = refl
  find_alike key (e ∷ es) =
      elim (eq_by_cmp key_cmp key e.0) as (λ b. cond b (Some (f e.1)) (find key_cmp key (with_values es)) ≡ option_map f (cond b (Some e.1) (find key_cmp key es))) [
        | true ↦ refl
        | false ↦ find_alike key es
      ]

-- the entries of a map, each spelled
pub spelled_map : (m : Stored) (states : List (Key × State)) → spelled_entries states ≡ entries m → SpellStates m (from_entries states)
spelled_map m states same key =
    get-entries m key ∙ ap (find key_cmp key) (sym same) ∙ find_alike spell_state key states ∙ ap (option_map spell_state) (sym (get-from_entries key_total states key))

pub spelled_length : (m : Stored) (states : List (Key × State)) → spelled_entries states ≡ entries m → length states ≡ len m
spelled_length m states same = sym (length-map states (λ (e : Key × State). (e.0, spell_state e.1))) ∙ ap length same ∙ sym (len-entries m)

-- ---- what opening gives

opened_is : (full : Bool) (x y : SiteValue) → ◌≡◌ {A = Result SiteValue Refusal} (if full then Err Full else Ok x) (Ok y) → x ≡ y
opened_is true x y e = absurd cc
opened_is false x y e = cc

full_is : (full : Bool) (x : SiteValue) (e : Refusal) → ◌≡◌ {A = Result SiteValue Refusal} (if full then Err Full else Ok x) (Err e) → full ≡ true
full_is true x e is = refl
full_is false x e is = absurd cc

pub site_opened : (config : ConfigValue) (states : List (Key × State)) (site : SiteValue) → opened config states ≡ Ok site → record { config = config; states = from_entries states; broken = false } ≡ site
site_opened config states site is = opened_is (ltb config.max_keys (length states)) _ site is

pub loaded_spelled : (config : ConfigValue) (m : Stored) (states : List (Key × State)) (result : Result SiteValue Refusal) → IsAnswer result (opened config states) → spelled_entries states ≡ entries m → IfOk result (λ site. SpellStates m site.states)
loaded_spelled config m states (Ok site) is same = subst (λ (s : SiteValue). SpellStates m s.states) (site_opened config states site is) (spelled_map m states same)
loaded_spelled config m states (Err e) is same = tt

pub loaded_full : (config : ConfigValue) (m : Stored) (states : List (Key × State)) (result : Result SiteValue Refusal) → IsAnswer result (opened config states) → spelled_entries states ≡ entries m →
    IfErr result (λ e. e ≡ Full → config.max_keys < len m)
loaded_full config m states (Ok site) is same = tt
loaded_full config m states (Err e) is same = λ full.
    let refused : opened config states ≡ Err e = is (λ memory. (let bad : Full ≡ Memory = sym full ∙ memory in absurd cc)) in
    subst (λ n. config.max_keys < n) (spelled_length m states same) (ltb-true _ _ (full_is (ltb config.max_keys (length states)) _ e refused))

-- ---- as the code has them

t_true : (b : Bool) → T b → b ≡ true
t_true true h = refl
t_true false h = absurd h

-- states rise as what they are spelled from
pub states_rise : (states : List (Key × State)) (stored : List (Key × List ℕ)) → spelled_entries states ≡ stored → T (is_sorted key_cmp stored) → is_sorted key_cmp states ≡ true
states_rise states stored same rising = sym (sorted_alike spell_state states) ∙ ap (is_sorted key_cmp) same ∙ t_true _ rising

-- a load that changed nothing
pub loaded_holds : (result : Result SiteValue Refusal) (a b : Database) (version number : ℕ) → version ≡ 2 → b ≡ a → HoldsRecords version number a → IfOk result (λ site. SpellStates (new_states a) site.states) →
    IfOk result (λ site. HoldsRecords 2 number b × SpellStates (new_states b) site.states)
loaded_holds (Ok site) a b version number two same holds spelled = subst (λ d. HoldsRecords 2 number d × SpellStates (new_states d) site.states) (sym same) (subst (λ v. HoldsRecords v number a) two holds, spelled)
loaded_holds (Err e) a b version number two same holds spelled = tt

-- the end of a move
pub moved_by : (result : Result (Unit {0}) Refusal) (a b : Database) (version number : ℕ) → OnOk result (EndsMove number a b) → OnErr result (b ≡ a) → HoldsRecords version number a →
    MatchResult result (λ _. HoldsRecords 2 number b) (λ _. HoldsRecords version number b)
moved_by (Ok done) a b version number ends same holds = ends.holds
moved_by (Err e) a b version number ends same holds = subst (HoldsRecords version number) (sym same) holds

-- the records of the site that was read from them
pub holds_opened : (site : SiteValue) (config : ConfigValue) (number : ℕ) (b : Database) → site.config ≡ config → number ≡ config.site → HoldsRecords 2 number b → HasNone (old_states b) → SpellStates (new_states b) site.states → HoldsSite site b
holds_opened site config number b same is records alone spelled = record {
  alone = alone;
  records = subst (λ n. HoldsRecords 2 n b) (is ∙ ap (λ (k : ConfigValue). k.site) (sym same)) records;
  spelled = λ _. spelled;
}
