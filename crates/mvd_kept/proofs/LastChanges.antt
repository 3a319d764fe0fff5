-- The last change of each key of a group is all that the hash tree needs, and it is hashed alone.
use Rattle.std.proofs.Common.{◌≡◌, ◌∙◌, ℕ, zero, suc, ◌+◌, ◌≤◌, ◌<◌, Bool, true, false, true≢false, ◌||◌, cond, if◌then◌else◌, List, [], ◌∷◌, length, drop, get_or, Option, Some, refl, sym, ap, subst, arith}
use Rattle.std.proofs.lemmas.List.{drop_more}
use Rattle.std.proofs.lemmas.List.Sums.{sum_by-cons}
use Rattle.std.specs.FinMap.{get, get-insert, insert, same_map}
use Rattle.std.specs.Ordering.{eq_by_cmp}
use Rattle.mvd_digest.specs.Counted.{Hashes}
use Rattle.mvd_digest.specs.declared.digest.Hashed.{Hashed}
use Rattle.mvd_keys.specs.Key.{key_cmp}
use Rattle.mvd_keys.specs.State.{State}
use Rattle.mvd_keys.specs.Writes.{Key}
use Rattle.mvd_keys.proofs.KeyOrder.{key_antisymmetric, key_total, same_where_tied}
use Rattle.mvd_tree.specs.States.{key_digest}
use Rattle.mvd_tree.specs.Touched.{changed_bytes}
use Rattle.mvd_tree.proofs.Counts.{hashes_then}
use Rattle.mvd_kept.specs.Answer.{spelled}
use Rattle.mvd_kept.specs.Change.{ChangeValue}
use Rattle.mvd_kept.specs.Held.{States}
use Rattle.mvd_kept.specs.Installs.{HashesChanges, byte_count_in, changes_in, digests_in, is_changed, last_changes, with_group}
use Rattle.mvd_kept.specs.declared.prepared.Prepared.{Prepared}
use Rattle.mvd_kept.specs.declared.prepared.Prepared.TheVariants.{Answer, Change}

-- ---- what a change leaves of an earlier one

-- the later state of a key takes the place of an earlier one
insert_over : (m : States) (key : Key) (s t : State) → insert (insert m key s) key t ≡ insert m key t
insert_over m key s t = same_map key_total key_antisymmetric _ _ (λ q.
    get-insert key_total (insert m key s) key t q
    ∙ elim (eq_by_cmp key_cmp q key) as (λ b. eq_by_cmp key_cmp q key ≡ b → cond b (Some t) (get (insert m key s) q) ≡ cond b (Some t) (get m q)) [
      | true ↦ λ _. refl
      | false ↦ λ other. get-insert key_total m key s q ∙ ap (λ b. cond b (Some s) (get m q)) other
    ] refl
    ∙ sym (get-insert key_total m key t q))

-- states of two keys stand beside each other
both : (m : States) (key other q : Key) (s t : State) (a b : Bool) → (a ≡ true → b ≡ true → ⊥)
    → cond a (Some t) (cond b (Some s) (get m q)) ≡ cond b (Some s) (cond a (Some t) (get m q))
both m key other q s t true true never = absurd (never refl refl)
both m key other q s t true false never = refl
both m key other q s t false true never = refl
both m key other q s t false false never = refl

insert_beside : (m : States) (key other : Key) (s t : State) → eq_by_cmp key_cmp other key ≡ false → insert (insert m key s) other t ≡ insert (insert m other t) key s
insert_beside m key other s t apart = same_map key_total key_antisymmetric _ _ (λ q.
    get-insert key_total (insert m key s) other t q ∙ ap (cond (eq_by_cmp key_cmp q other) (Some t)) (get-insert key_total m key s q)
    ∙ both m key other q s t (eq_by_cmp key_cmp q other) (eq_by_cmp key_cmp q key)
    (λ one two. true≢false (sym (subst (λ k. eq_by_cmp key_cmp k key ≡ true) (same_where_tied q other one) two) ∙ apart))
    ∙ sym (get-insert key_total (insert m other t) key s q ∙ ap (cond (eq_by_cmp key_cmp q key) (Some s)) (get-insert key_total m other t q)))

later_changed : (group : List Prepared) (change : ChangeValue) (key : Key) → eq_by_cmp key_cmp change.key key ≡ false → is_changed (Change change ∷ group) key ≡ true → is_changed group key ≡ true
later_changed group change key apart is = sym (ap (λ b. b || is_changed group key) apart) ∙ is

-- a state of a key that is changed later is none of those in the end
hidden : (group : List Prepared) (states : States) (key : Key) (s : State) → is_changed group key ≡ true → with_group (insert states key s) group ≡ with_group states group
hidden [] states key s is = absurd (true≢false (sym is))
hidden (Answer reply ∷ group) states key s is = hidden group states key s is
hidden (Change change ∷ group) states key s is = by (λ m apart. hidden group m key s (later_changed group change key apart is)) (eq_by_cmp key_cmp change.key key) refl
  where
    by : ((m : States) → eq_by_cmp key_cmp change.key key ≡ false → with_group (insert m key s) group ≡ with_group m group) → (b : Bool) → eq_by_cmp key_cmp change.key key ≡ b → with_group (insert (insert states key s) change.key change.state) group ≡ with_group (insert states change.key change.state) group
    by rest true tied =
        let same : key ≡ change.key = sym (same_where_tied change.key key tied) in
        ap (λ m. with_group m group) (ap (λ k. insert (insert states k s) change.key change.state) same ∙ insert_over states change.key s change.state)
    by rest false apart = ap (λ m. with_group m group) (insert_beside states key change.key s change.state apart) ∙ rest (insert states change.key change.state) apart

-- the last changes leave the states that all do
pub lasts_leave : (states : States) (group : List Prepared) → with_group states (last_changes group) ≡ with_group states group
lasts_leave states [] = refl
lasts_leave states (Answer reply ∷ group) = lasts_leave states group
lasts_leave states (Change change ∷ group) = by (λ m. lasts_leave m group) (is_changed group change.key) refl
  where
    by : ((m : States) → with_group m (last_changes group) ≡ with_group m group) → (b : Bool) → is_changed group change.key ≡ b → with_group states (if b then last_changes group else Change change ∷ last_changes group) ≡ with_group (insert states change.key change.state) group
    by rest true later = rest states ∙ sym (hidden group states change.key change.state later)
    by rest false none = rest (insert states change.key change.state)

-- ---- how many there are

-- where there is no change there is no last one
pub no_lasts : (group : List Prepared) → changes_in group ≡ 0 → changes_in (last_changes group) ≡ 0
no_lasts [] none = refl
no_lasts (Answer reply ∷ group) none = no_lasts group (omega (arith, none))
no_lasts (Change change ∷ group) none = absurd (omega (arith, none))

module _ (f : List Prepared → ℕ) (grows : (p : Prepared) (group : List Prepared) → f group ≤ f (p ∷ group)) where
  one_more : (p : Prepared) (group : List Prepared) → f (last_changes group) ≤ f (last_changes (p ∷ group))
  one_more (Answer reply) group = omega arith
  one_more (Change change) group =
      let more = grows (Change change) (last_changes group) in
      elim (is_changed group change.key) as (λ b. f (last_changes group) ≤ f (if b then last_changes group else Change change ∷ last_changes group)) [ true ↦ omega arith | false ↦ omega (arith, more) ]

  all_more : (n : ℕ) (group : List Prepared) → f (last_changes (drop n group)) ≤ f (last_changes group)
  all_more zero group = omega arith
  all_more (suc n) [] = omega arith
  all_more (suc n) (p ∷ group) =
      let rest = all_more n group in
      let one = one_more p group in
      omega (arith, rest, one)

changes_grow : (p : Prepared) (group : List Prepared) → changes_in group ≤ changes_in (p ∷ group)
changes_grow p group = omega arith

bytes_grow : (p : Prepared) (group : List Prepared) → byte_count_in group ≤ byte_count_in (p ∷ group)
bytes_grow p group = omega arith

keys_grow : (p : Prepared) (group : List Prepared) → changed_bytes (digests_in group) ≤ changed_bytes (digests_in (p ∷ group))
keys_grow (Answer reply) group = omega arith
keys_grow (Change change) group =
    let more = sum_by-cons (λ (e : Key × Option (List ℕ)). length e.0) (change.key, Some (key_digest spelled change.key change.state)) (digests_in group) in
    omega (arith, more)

-- ---- what is hashed

no_hash : (h : Hashed) → Hashes 0 0 h h
no_hash h = record { ends = omega arith; reads = omega arith; least_ends = omega arith; least_reads = omega arith }

-- what is hashed of what was gone over is no more than of all
pub hashes_part : (n : ℕ) (group : List Prepared) (a b : Hashed) → HashesChanges (last_changes (drop n group)) a b → HashesChanges (last_changes group) a b
hashes_part n group a b part =
    let changes = all_more changes_in changes_grow n group in
    let bytes = all_more byte_count_in bytes_grow n group in
    let keys = all_more (λ l. changed_bytes (digests_in l)) keys_grow n group in
    hashes_then _ _ 0 0 _ _ a b b (omega (arith, changes)) (omega (arith, bytes, keys)) part (no_hash b)

-- ---- what is gathered

-- the next, from the end
pub group_next : (group : List Prepared) (i : ℕ) (item : Prepared) → i < length group → item ≡ get_or group i item → drop i group ≡ item ∷ drop (i + 1) group
group_next group i item low is = drop_more group i item low ∙ ap (λ p. p ∷ drop (i + 1) group) (sym is)
