-- What it takes to put in a group.
use Rattle.std.proofs.Common.{◌≡◌, ℕ, zero, suc, ◌+◌, ◌*◌, ◌≤◌, Bool, true, false, cond, List, [], ◌∷◌, ◌++◌, length, take, refl, sym, ap, subst, Option, ◌∙◌, arith, Some, Ok, Err, Result}
use Rattle.std.proofs.Math.Seq.{take-nil}
use Rattle.std.proofs.lemmas.List.Sums.{sum_by-cons}
use Rattle.std.specs.Prelude.{⊤, nat_eq}
use Rattle.std.specs.Set.{is_member}
use Rattle.std.specs.declared.cmp.Ordering.TheVariants.{Less, Equal, Greater}
use Rattle.std.specs.Cmp.Lexicographic.{nat_list_cmp_total}
use Rattle.std.specs.FinMap.{entries, entries-insert, len, len-entries, retain_keys}
use Rattle.std.specs.FinMap.Entries.{by_order, put, where_key}
use Rattle.mvd_count.specs.Counted.{RoseBy}
use Rattle.mvd_digest.specs.Counted.{Hashes}
use Rattle.mvd_digest.specs.declared.digest.Hashed.{Hashed}
use Rattle.mvd_dots.specs.declared.refusals.Refusal.{Refusal}
use Rattle.mvd_keys.specs.Writes.{Key}
use Rattle.mvd_rows.specs.Changes.{looks_each, updates_each}
use Rattle.mvd_rows.specs.Counted.{Within}
use Rattle.mvd_rows.specs.Defs.{Definitions}
use Rattle.mvd_tree.specs.Change.{changed, changed_all}
use Rattle.mvd_tree.specs.HashTree.{KeyDigests}
use Rattle.mvd_tree.specs.Layout.{bucket_of}
use Rattle.mvd_tree.specs.States.{key_digest}
use Rattle.mvd_tree.specs.Touched.{Changes, ChangesAll, changed_bytes, count_touched, inner_touched, keys_touched, touched}
use Rattle.mvd_tree.proofs.Counts.{hashes_then}
use Rattle.mvd_tree.proofs.Entries.{Entry, entries-retain_keys, order}
use Rattle.mvd_kept.specs.Answer.{digests, spelled}
use Rattle.mvd_kept.specs.Change.{ChangeValue}
use Rattle.mvd_kept.specs.Config.{ConfigValue}
use Rattle.mvd_kept.specs.Costs.{Costs}
use Rattle.mvd_kept.specs.Held.{States}
use Rattle.mvd_kept.specs.Installs.{HashesChanges, InstallCosts, TreeCosts, byte_count_in, changes_in, digests_in, is_change, last_changes, moved_in, moved_of, with_group, with_prepared}
use Rattle.mvd_kept.specs.Sites.{SiteValue}
use Rattle.mvd_kept.specs.declared.prepared.Prepared.{Prepared}
use Rattle.mvd_kept.specs.declared.prepared.Prepared.TheVariants.{Answer, Change}
use Rattle.mvd_kept.specs.declared.work.Work.{Work}
use Rattle.mvd_kept.proofs.Installed.{digests_with, no_digests}
use Rattle.mvd_kept.proofs.LastChanges.{lasts_leave}
use Rattle.mvd_kept.proofs.OpenCosted.{one_more_each}
use Rattle.mvd_kept.proofs.Spent.{free}

abbrev digest_of : ChangeValue → List ℕ
digest_of change = key_digest spelled change.key change.state

-- ---- sums, one more

pub changes_more : (group : List Prepared) (prepared : Prepared) → changes_in (group ++ prepared ∷ []) ≡ changes_in group + is_change prepared
changes_more [] prepared = omega arith
changes_more (p ∷ group) prepared = let rest = changes_more group prepared in omega (arith, rest)

moved_more : (states : States) (group : List Prepared) (prepared : Prepared) → moved_in states (group ++ prepared ∷ []) ≡ moved_in states group + moved_of (with_group states group) prepared
moved_more states [] prepared = omega arith
moved_more states (p ∷ group) prepared = let rest = moved_more (with_prepared states p) group prepared in omega (arith, rest)

-- ---- keys in buckets, as more are put in

more_pass : (p : List ℕ → Bool) (k v : List ℕ) (es : List Entry) → length (where_key order p es) ≤ length (where_key order p (put order k v es))
more_pass p k v [] = omega arith
more_pass p k v (e ∷ es) =
    let rest = more_pass p k v es in
    elim (order k e.0) as (λ o. length (where_key order p (e ∷ es)) ≤ length (where_key order p (by_order o ((k, v) ∷ e ∷ es) ((e.0, v) ∷ es) (e ∷ put order k v es)))) [
      | Less ↦ elim (p k) as (λ b. length (where_key order p (e ∷ es)) ≤ length (cond b ((k, v) ∷ where_key order p (e ∷ es)) (where_key order p (e ∷ es)))) [ true ↦ omega arith | false ↦ omega arith ]
      | Equal ↦ elim (p e.0) as (λ b. length (cond b (e ∷ where_key order p es) (where_key order p es)) ≤ length (cond b ((e.0, v) ∷ where_key order p es) (where_key order p es))) [ true ↦ omega arith | false ↦ omega arith ]
      | Greater ↦ elim (p e.0) as (λ b. length (cond b (e ∷ where_key order p es) (where_key order p es)) ≤ length (cond b (e ∷ where_key order p (put order k v es)) (where_key order p (put order k v es)))) [ true ↦ omega (arith, rest) | false ↦ omega (arith, rest) ]
    ]

keys_passing : (held : KeyDigests) (p : List ℕ → Bool) → len (retain_keys held p) ≡ length (where_key order p (entries held))
keys_passing held p = len-entries (retain_keys held p) ∙ ap length (entries-retain_keys held p)

one_grows : (held : KeyDigests) (p : List ℕ → Bool) (key digest : List ℕ) → len (retain_keys held p) ≤ len (retain_keys (changed held key (Some digest)) p)
one_grows held p key digest =
    let old = keys_passing held p in
    let new = keys_passing (changed held key (Some digest)) p ∙ ap (λ es. length (where_key order p es)) (entries-insert nat_list_cmp_total held key digest) in
    let more = more_pass p key digest (entries held) in
    omega (arith, old, new, more)

all_grow : (held : KeyDigests) (p : List ℕ → Bool) (group : List Prepared) → len (retain_keys held p) ≤ len (retain_keys (changed_all held (digests_in group)) p)
all_grow held p [] = omega arith
all_grow held p (Answer reply ∷ group) = all_grow held p group
all_grow held p (Change change ∷ group) =
    let first = one_grows held p change.key (digest_of change) in
    let rest = all_grow (changed held change.key (Some (digest_of change))) p group in
    omega (arith, first, rest)

-- the first changes put in no more keys than all do
front_grows : (held : KeyDigests) (p : List ℕ → Bool) (n : ℕ) (group : List Prepared) → len (retain_keys (changed_all held (take n (digests_in group))) p) ≤ len (retain_keys (changed_all held (digests_in group)) p)
front_grows held p n [] = subst (λ l. len (retain_keys (changed_all held l) p) ≤ len (retain_keys held p)) (sym (take-nil n)) (omega arith)
front_grows held p n (Answer reply ∷ group) = front_grows held p n group
front_grows held p zero (Change change ∷ group) = all_grow held p (Change change ∷ group)
front_grows held p (suc n) (Change change ∷ group) = front_grows (changed held change.key (Some (digest_of change))) p n group

-- ---- what the hash tree takes

module _ (group : List Prepared) (held grown : KeyDigests) (a b c : Hashed) (digested : HashesChanges group a b) where
  both_take : keys_touched grown (digests_in group) ≤ keys_touched (changed_all held (digests_in group)) (digests_in group)
      → Hashes (count_touched 0 (digests_in group) + inner_touched (digests_in group)) (32 * keys_touched grown (digests_in group) + 512 * inner_touched (digests_in group)) b c
      → TreeCosts held group a c
  both_take few hashes =
      hashes_then (2 * changes_in group) (byte_count_in group + changed_bytes (digests_in group)) _ _ _ _ a b c (omega arith) (omega (arith, few)) digested hashes

  takes : (result : Result ⊤ Refusal) → ChangesAll (digests_in group) held grown result b c → TreeCosts held group a c
  takes (Ok done) changes = both_take (let same = ap (λ m. keys_touched m (digests_in group)) changes.ok in omega (arith, same)) changes.hashes
  takes (Err refusal) changes =
      let first = changes.err.1 in
      let same = ap (λ m. keys_touched m (digests_in group)) first.2 in
      let few = front_grows held (λ key. is_member nat_eq (touched 0 (digests_in group)) (bucket_of key)) first.0 group in
      both_take (omega (arith, same, few)) changes.hashes

  pub tree_takes : (changes : Changes) (result : Result ⊤ Refusal) → changes ≡ digests_in group → ChangesAll changes held grown result b c → TreeCosts held group a c
  tree_takes changes result is changed = takes result (subst (λ l. ChangesAll l held grown result b c) is changed)

-- one change alone
pub one_takes : (held grown : KeyDigests) (change : ChangeValue) (k : Key) (digest : List ℕ) (changes : Changes) (result : Result ⊤ Refusal) (a b c d : Hashed) → k ≡ change.key → digest ≡ digest_of change
    → changes ≡ (k, Some digest) ∷ [] → Hashes 1 (length (spelled change.key change.state)) a b → Hashes 1 (length k) b c → ChangesAll changes held grown result c d → TreeCosts held (Change change ∷ []) a d
one_takes held grown change k digest changes result a b c d key is alone digested placed changed =
    let bytes = sum_by-cons (λ (e : Key × Option (List ℕ)). length e.0) (change.key, Some (digest_of change)) [] in
    let long : length k ≡ length change.key = ap length key in
    tree_takes (Change change ∷ []) held grown a c d
    (hashes_then 1 (length (spelled change.key change.state)) 1 (length k) _ _ a b c (omega arith) (omega (arith, bytes, long)) digested placed)
    changes result (alone ∙ (λ i. (key i, Some (is i)) ∷ [])) changed

-- with no change it stays
stays : (group : List Prepared) (held grown : KeyDigests) (b c : Hashed) (result : Result ⊤ Refusal) → changes_in group ≡ 0 → ChangesAll (digests_in group) held grown result b c → grown ≡ held
stays group held grown b c (Ok done) none changes = changes.ok ∙ ap (changed_all held) (no_digests group none)
stays group held grown b c (Err refusal) none changes =
    changes.err.1.2 ∙ ap (λ l. changed_all held (take changes.err.1.0 l)) (no_digests group none) ∙ ap (changed_all held) (take-nil changes.err.1.0)

pub tree_stays : (group : List Prepared) (changes : Changes) (held grown : KeyDigests) (b c : Hashed) (result : Result ⊤ Refusal) → changes ≡ digests_in group → ChangesAll changes held grown result b c → changes_in group ≡ 0 → grown ≡ held
tree_stays group changes held grown b c result is changed none = stays group held grown b c result none (subst (λ l. ChangesAll l held grown result b c) is changed)

-- ---- what states and rows take

-- one piece of work after another
costs_then : (p q r s t u n m k : ℕ) (a b c : Work) → p + s ≤ n → q + t ≤ m → r + u ≤ k → Costs p q r 0 0 a b → Costs s t u 0 0 b c → Costs n m k 0 0 a c
costs_then p q r s t u n m k a b c looks rows updates first second = record {
  on_states = record { least = under _ _ _ first.on_states.least second.on_states.least; most = both _ _ _ p s n looks first.on_states.most second.on_states.most };
  on_rows = record {
    updates = both _ _ _ r u k updates first.on_rows.updates second.on_rows.updates;
    looks = both _ _ _ q t m rows first.on_rows.looks second.on_rows.looks;
    least_updates = under _ _ _ first.on_rows.least_updates second.on_rows.least_updates;
    least_looks = under _ _ _ first.on_rows.least_looks second.on_rows.least_looks;
  };
  hashes = hashes_then 0 0 0 0 0 0 a.hashed b.hashed c.hashed (omega arith) (omega arith) first.hashes second.hashes;
}
  where
    under : (x y z : ℕ) → x ≤ y → y ≤ z → x ≤ z
    under x y z e f = omega arith

    both : (x y z a p m : ℕ) → a + p ≤ m → y ≤ x + a → z ≤ y + p → z ≤ x + m
    both x y z a p m h e f = omega arith

-- what so many changes and so many siblings take of states and rows, where a sibling takes so much, and a change an update more
abbrev pub PartCosts : Definitions → ℕ → ℕ → Work → Work → Type 0
PartCosts defs changes moved = Costs changes (moved * looks_each defs) (moved * updates_each defs + changes) 0 0

with_both : (x y z p s q : ℕ) → x + y ≤ z → q ≡ p + s → (x + p) + (y + s) ≤ z + q
with_both x y z p s q few is = omega arith

with_first : (x y z p s q : ℕ) → x + y ≤ z → q ≡ p + s → (x + p) + y ≤ z + q
with_first x y z p s q few is = omega arith

module _ (defs : Definitions) (states now : States) (group : List Prepared) (prepared : Prepared) (x y z : Work) where
  one_then : now ≡ with_group states group → PartCosts defs (changes_in group) (moved_in states group) x y → PartCosts defs (is_change prepared) (moved_of now prepared) y z
      → PartCosts defs (changes_in (group ++ prepared ∷ [])) (moved_in states (group ++ prepared ∷ [])) x z
  one_then is first second =
      let changes = changes_more group prepared in
      let moved = moved_more states group prepared ∙ ap (λ m. moved_in states group + moved_of m prepared) (sym is) in
      costs_then _ _ _ _ _ _ _ _ _ x y z (omega (arith, changes))
      (one_more_each (moved_in states group) (moved_of now prepared) (moved_of now prepared) (moved_in states (group ++ prepared ∷ [])) (looks_each defs) (looks_each defs) (omega arith) refl moved)
      (with_both _ _ _ _ _ _ (one_more_each (moved_in states group) (moved_of now prepared) (moved_of now prepared) (moved_in states (group ++ prepared ∷ [])) (updates_each defs) (updates_each defs) (omega arith) refl moved) changes)
      first second

  none_then : PartCosts defs (changes_in group) (moved_in states group) x y → PartCosts defs (changes_in (group ++ prepared ∷ [])) (moved_in states (group ++ prepared ∷ [])) x y
  none_then first =
      let changes = changes_more group prepared in
      let moved = moved_more states group prepared in
      costs_then _ _ _ 0 (0 * looks_each defs) (0 * updates_each defs) _ _ _ x y y (omega (arith, changes))
      (one_more_each (moved_in states group) 0 (moved_of (with_group states group) prepared) (moved_in states (group ++ prepared ∷ [])) (looks_each defs) (looks_each defs) (omega arith) refl moved)
      (with_first _ _ _ _ _ _ (one_more_each (moved_in states group) 0 (moved_of (with_group states group) prepared) (moved_in states (group ++ prepared ∷ [])) (updates_each defs) (updates_each defs) (omega arith) refl moved) changes)
      first (free 0 (0 * looks_each defs) (0 * updates_each defs) 0 0 y)

  -- one more, where it is put in, or the site was broken before
  pub costs_more : (broken : Bool) → (broken ≡ false → now ≡ with_group states group) → PartCosts defs (changes_in group) (moved_in states group) x y
      → (broken ≡ false → PartCosts defs (is_change prepared) (moved_of now prepared) y z) → (broken ≡ true → z ≡ y)
      → PartCosts defs (changes_in (group ++ prepared ∷ [])) (moved_in states (group ++ prepared ∷ [])) x z
  costs_more true are first second idle = subst (PartCosts defs (changes_in (group ++ prepared ∷ [])) (moved_in states (group ++ prepared ∷ [])) x) (sym (idle refl)) (none_then first)
  costs_more false are first second idle = one_then (are refl) first (second refl)

-- ---- all of it

-- the hash tree first, and then states and rows
pub installs_take : (site : SiteValue) (group : List Prepared) (held : KeyDigests) (a b c : Work) → held ≡ digests site.states → b.looks ≡ a.looks → b.rows ≡ a.rows
    → TreeCosts held (last_changes group) a.hashed b.hashed → PartCosts site.config.defs (changes_in group) (moved_in site.states group) b c → InstallCosts site group a c
installs_take site group held a b c is same_looks same_rows tree rest = record {
  on_states = subst (λ n. RoseBy (changes_in group) n c.looks) same_looks rest.on_states;
  on_rows = subst (λ m. Within (moved_in site.states group * updates_each site.config.defs + changes_in group) (moved_in site.states group * looks_each site.config.defs) m c.rows) same_rows rest.on_rows;
  hashes =
      let lasts = last_changes group in
      let all : changed_all held (digests_in lasts) ≡ digests (with_group site.states group) =
      ap (λ m. changed_all m (digests_in lasts)) is ∙ digests_with site.states lasts ∙ ap digests (lasts_leave site.states group) in
      let keys = ap (λ m. keys_touched m (digests_in lasts)) all in
      hashes_then _ _ 0 0 _ _ a.hashed b.hashed c.hashed (omega arith) (omega (arith, keys)) tree rest.hashes;
}

-- a broken site does nothing
pub all_take : (config : ConfigValue) (states : States) (was : Bool) (tree : KeyDigests) (group : List Prepared) (a c : Work) (hashed : Hashed) → (was ≡ false → tree ≡ digests states)
    → TreeCosts tree (last_changes group) a.hashed hashed → PartCosts config.defs (changes_in group) (moved_in states group) (record { looks = a.looks; rows = a.rows; hashed = hashed }) c → (was ≡ true → c ≡ a)
    → InstallCosts (record { config = config; states = states; broken = was }) group a c
all_take config states true tree group a c hashed is first rest idle = subst (InstallCosts (record { config = config; states = states; broken = true }) group a) (sym (idle refl)) (free _ _ _ _ _ a)
all_take config states false tree group a c hashed is first rest idle =
    installs_take (record { config = config; states = states; broken = false }) group tree a (record { looks = a.looks; rows = a.rows; hashed = hashed }) c (is refl) refl refl first rest
