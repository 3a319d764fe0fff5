-- What it takes to open a site: so much of each key, and that of the tree.
use Rattle.std.proofs.Common.{◌≡◌, ℕ, ◌+◌, ◌*◌, ◌≤◌, ◌<◌, not, List, length, take, get_or, sym, ap, subst, ◌∙◌, arith}
use Rattle.std.specs.FinMap.{entries, len, len-empty, len-entries}
use Rattle.std.proofs.Math.Nat.{mul-le-mul_right}
use Rattle.std.proofs.lemmas.List.Sums.{count_by-le-length, length-filter, sum_by-take-le, sum_by_more}
use Rattle.mvd_dots.specs.Dot.{DotValue}
use Rattle.mvd_keys.specs.State.{State, Text, empty_state}
use Rattle.mvd_keys.specs.Writes.{Key}
use Rattle.mvd_rows.specs.Changes.{differing, is_among, looks_each, not_among, updates_each}
use Rattle.mvd_rows.specs.Counted.{Within}
use Rattle.mvd_rows.specs.Defs.{Definitions}
use Rattle.mvd_rows.specs.declared.meters.Meter.{Meter}
use Rattle.mvd_rows.proofs.Counting.{within_less, within_then}
use Rattle.mvd_digest.specs.Counted.{Hashes}
use Rattle.mvd_tree.specs.Counted.{key_bytes}
use Rattle.mvd_tree.proofs.Counts.{hashes_then}
use Rattle.mvd_digest.specs.declared.digest.Hashed.{Hashed}
use Rattle.mvd_kept.specs.Config.{ConfigValue}
use Rattle.mvd_kept.specs.Costs.{OpenCosts, all_bytes, all_siblings}
use Rattle.mvd_kept.specs.Held.{key_digests}
use Rattle.mvd_kept.specs.declared.work.Work.{Work}
use Rattle.mvd_kept.proofs.Spent.{free}
use Rattle.std.proofs.lemmas.List.{length-map}

abbrev Entry : Type 0
Entry = Key × State

-- those that are not among others are no more than there were
few_left : (others es : List (DotValue × Text)) → length (not_among others es) ≤ length es
few_left others es =
    let left = length-filter (λ (x : DotValue × Text). not (is_among others x)) es in
    let few = count_by-le-length (λ (x : DotValue × Text). not (is_among others x)) es in
    omega (arith, left, few)

-- from nothing, no more than the siblings of the new state come
pub all_come : (s : State) → differing empty_state s ≤ len s.siblings
all_come s =
    let come = few_left (entries empty_state.siblings) (entries s.siblings) in
    let go = few_left (entries s.siblings) (entries empty_state.siblings) in
    let all : len s.siblings ≡ length (entries s.siblings) = len-entries s.siblings in
    let none : len empty_state.siblings ≡ length (entries empty_state.siblings) = len-entries empty_state.siblings in
    let zero : len empty_state.siblings ≡ 0 = len-empty _ _ in
    omega (arith, come, go, all, none, zero)

-- one entry more
pub siblings_more : (es : List Entry) (i : ℕ) (e : Entry) → i < length es → e ≡ get_or es i e → all_siblings (take (i + 1) es) ≡ all_siblings (take i es) + len e.1.siblings
siblings_more es i e low is = sum_by_more (λ (e : Entry). len e.1.siblings) es i e low ∙ ap (λ (x : Entry). all_siblings (take i es) + len x.1.siblings) (sym is)

-- the first entries have no more than all
pub siblings_part : (es : List Entry) (i : ℕ) → all_siblings (take i es) ≤ all_siblings es
siblings_part es i = sum_by-take-le (λ (e : Entry). len e.1.siblings) es i

-- so much of one more
pub one_more_each : (a d k t n u : ℕ) → d ≤ k → n ≡ u → t ≡ a + k → a * u + d * n ≤ t * u
one_more_each a d k t n u few same total = rw (total, same) (let each : d * u ≤ k * u = mul-le-mul_right u few in grind (arith, each))

-- and one more of each
with_one : (x y z i : ℕ) → x + y ≤ z → (x + i) + (y + 1) ≤ z + (i + 1)
with_one x y z i few = omega arith

-- the rows of one key more
pub rows_next : (es : List Entry) (i : ℕ) (e : Entry) (s : State) (d defs : Definitions) (x y z : Meter) → i < length es → e ≡ get_or es i e → s ≡ empty_state → d ≡ defs
    → Within (all_siblings (take i es) * updates_each defs + i) (all_siblings (take i es) * looks_each defs) x y
    → Within (differing s e.1 * updates_each d + 1) (differing s e.1 * looks_each d) y z
    → Within (all_siblings (take (i + 1) es) * updates_each defs + (i + 1)) (all_siblings (take (i + 1) es) * looks_each defs) x z
rows_next es i e s d defs x y z low is none same first second =
    let few : differing s e.1 ≤ len e.1.siblings = subst (λ t. differing t e.1 ≤ len e.1.siblings) (sym none) (all_come e.1) in
    let more = siblings_more es i e low is in
    within_then _ _ _ _ _ _ x y z (with_one _ _ _ i (one_more_each _ _ (len e.1.siblings) _ _ _ few (ap updates_each same) more)) (one_more_each _ _ (len e.1.siblings) _ _ _ few (ap looks_each same) more) first second

-- the rows of some keys cost no more than those of all
pub rows_part : (es : List Entry) (i : ℕ) (defs : Definitions) (x y : Meter) → i ≤ length es
    → Within (all_siblings (take i es) * updates_each defs + i) (all_siblings (take i es) * looks_each defs) x y
    → Within (all_siblings es * updates_each defs + length es) (all_siblings es * looks_each defs) x y
rows_part es i defs x y few within =
    within_less _ _ _ _ x y (no_more _ _ _ _ (mul-le-mul_right (updates_each defs) (siblings_part es i)) few) (mul-le-mul_right (looks_each defs) (siblings_part es i)) within
  where
    no_more : (a b c d : ℕ) → a ≤ b → c ≤ d → a + c ≤ b + d
    no_more a b c d first second = omega arith

equals : (a b : ℕ) → a ≡ b → a ≤ b
equals a b same = omega (arith, same)

-- the keys were digested, the tree was made of the digests, and then the rows
pub opened_costs : (es digested kept : List Entry) (ds : List (Key × List ℕ)) (d : Definitions) (config : ConfigValue) (old : Work) (mid last : Hashed) (rows : Meter)
    → digested ≡ es → kept ≡ es → ds ≡ key_digests digested → d ≡ config.defs
    → Hashes (length digested) (all_bytes digested) old.hashed mid
    → Hashes (length ds + 4369) (key_bytes ds + 32 * length ds + 174720) mid last
    → Within (all_siblings kept * updates_each d + length kept) (all_siblings kept * looks_each d) old.rows rows
    → OpenCosts config es old (record { looks = old.looks; rows = rows; hashed = last })
opened_costs es digested kept ds d config old mid last rows first second are same digests tree within =
    let many : length ds ≡ length es = ap length are ∙ length-map digested _ ∙ ap length first in
    let keys : key_bytes ds ≡ key_bytes (key_digests es) = ap key_bytes are ∙ ap (λ l. key_bytes (key_digests l)) first in
    let few : length digested ≡ length es = ap length first in
    let texts : all_bytes digested ≡ all_bytes es = ap all_bytes first in
    record {
      on_states = (free 0 0 0 0 0 old).on_states;
      on_rows = within_less _ _ _ _ old.rows rows
          (equals _ _ (λ i. all_siblings (second i) * updates_each (same i) + length (second i)))
          (equals _ _ (λ i. all_siblings (second i) * looks_each (same i))) within;
      hashes = hashes_then _ _ _ _ _ _ old.hashed mid last (omega (arith, many, few)) (omega (arith, many, keys, texts)) digests tree;
    }
