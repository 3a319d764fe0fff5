-- What work comes to.
use Rattle.std.proofs.Common.{◌≡◌, ◌≢◌, ℕ, ◌+◌, ◌*◌, ◌≤◌, Bool, false, List, [], ◌∷◌, refl, length, Option, ap, sym, subst, subst₂, ◌∙◌, arith, Some, None, unwrap_or, Result, Ok, Err}
use Rattle.std.proofs.lemmas.List.Sums.{sum_by-cons}
use Rattle.std.specs.FinMap.{insert}
use Rattle.mvd_count.specs.Counted.{RoseBy}
use Rattle.mvd_dots.specs.declared.refusals.Refusal.{Refusal}
use Rattle.mvd_dots.specs.declared.refusals.Refusal.TheVariants.{Memory}
use Rattle.mvd_keys.specs.State.{State}
use Rattle.mvd_keys.specs.Writes.{Key}
use Rattle.mvd_rows.specs.Changes.{differing, looks_each, updates_each}
use Rattle.mvd_rows.specs.Counted.{Within}
use Rattle.mvd_rows.specs.Stands.{definitions_of}
use Rattle.mvd_rows.specs.declared.changes.Rows.{Rows as Kept}
use Rattle.mvd_rows.specs.declared.meters.Meter.{Meter}
use Rattle.mvd_tree.specs.Change.{changed, changed_all}
use Rattle.mvd_digest.specs.Counted.{Hashes}
use Rattle.mvd_tree.specs.Counted.{keys_beside}
use Rattle.mvd_tree.specs.HashTree.{KeyDigests}
use Rattle.mvd_tree.specs.States.{key_digest}
use Rattle.mvd_tree.specs.Touched.{Changes, changed_bytes, count_touched, inner_touched, keys_touched}
use Rattle.mvd_digest.specs.declared.digest.Hashed.{Hashed}
use Rattle.mvd_tree.proofs.Counts.{hashes_then}
use Rattle.mvd_tree.proofs.Held.{digests_of-insert}
use Rattle.mvd_tree.proofs.Wholly.{one_touched}
use Rattle.mvd_wire.specs.declared.request.Request.{Request}
use Rattle.mvd_wire.specs.declared.request.Request.TheVariants.{Get, Put, Delete, Find, Row, Rows, Node, Bucket, Push, Range, Keys, Conflicts, Hello, Bye}
use Rattle.mvd_wire.specs.declared.reply.Reply.{Reply}
use Rattle.mvd_wire.specs.declared.reply.Reply.TheVariants.{Refused}
use Rattle.mvd_kept.specs.Answer.{digests, spelled}
use Rattle.mvd_kept.specs.Config.{ConfigValue}
use Rattle.mvd_kept.specs.Costs.{AnswerCosts, ChangeCosts, Costs, PrepareCosts, WriteCosts, page_looks}
use Rattle.mvd_kept.specs.Held.{States, state_at}
use Rattle.mvd_kept.specs.Installs.{TreeCosts}
use Rattle.mvd_kept.specs.Prepared.{PreparesChangeFrom}
use Rattle.mvd_kept.specs.Change.{ChangeValue}
use Rattle.mvd_kept.specs.Sites.{KeepsKeys, SiteValue}
use Rattle.mvd_kept.specs.declared.prepared.Prepared.{Prepared}
use Rattle.mvd_kept.specs.declared.prepared.Prepared.TheVariants.{Answer, Change}
use Rattle.mvd_kept.proofs.Answered.{insert_differs}
use Rattle.mvd_kept.specs.declared.work.Work.{Work}

same : (n : ℕ) → n ≤ n
same n = omega arith

no_more : (n m : ℕ) → n ≤ n + m
no_more n m = omega arith

-- no work is within any bounds
-- work with other counts of what was hashed
abbrev pub with_hashed : Work → Hashed → Work
with_hashed work hashed = record { looks = work.looks; rows = work.rows; hashed = hashed }

pub free : (a b c d e : ℕ) (work : Work) → Costs a b c d e work work
free a b c d e work = record {
  on_states = record { least = same _; most = no_more _ a };
  on_rows = record { updates = no_more _ c; looks = no_more _ b; least_updates = same _; least_looks = same _ };
  hashes = record { ends = no_more _ d; reads = no_more _ e; least_ends = same _; least_reads = same _ };
}

pub free_request : (request : Request) (prepared : Result Prepared Refusal) (work : Work) → PrepareCosts request prepared work work
free_request (Get key) prepared work = free _ _ _ _ _ work
free_request (Put key seen document) prepared work = free _ _ _ _ _ work
free_request (Delete key seen) prepared work = free _ _ _ _ _ work
free_request (Push key pushed) prepared work = free _ _ _ _ _ work
free_request (Find field term after) prepared work = free _ _ _ _ _ work
free_request (Range field from to after) prepared work = free _ _ _ _ _ work
free_request (Rows view after) prepared work = free _ _ _ _ _ work
free_request (Row view term) prepared work = free _ _ _ _ _ work
free_request (Node path) prepared work = free _ _ _ _ _ work
free_request (Bucket path after) prepared work = free _ _ _ _ _ work
free_request (Keys prefix after) prepared work = free _ _ _ _ _ work
free_request (Conflicts after) prepared work = free _ _ _ _ _ work
free_request (Hello token) prepared work = free _ _ _ _ _ work
free_request Bye prepared work = free _ _ _ _ _ work

-- looks at held states alone
pub looked : (work : Work) (looks n : ℕ) → RoseBy n work.looks looks → Costs n 0 0 0 0 work (record { looks = looks; rows = work.rows; hashed = work.hashed })
looked work looks n rose = record { on_states = rose; on_rows = (free 0 0 0 0 0 work).on_rows; hashes = (free 0 0 0 0 0 work).hashes }

-- a page of keys that is refused was refused memory
pub refused_keys : (refusal : Refusal) (old new : ℕ) → refusal ≡ Memory → RoseBy 1002 old new → RoseBy (page_looks (Refused refusal)) old new
refused_keys refusal old new is rose = subst (λ r. RoseBy (page_looks (Refused r)) old new) (sym is) rose

-- looks at kept rows alone
pub paged : (work : Work) (rows : Meter) (n : ℕ) → Within 0 n work.rows rows → Costs 0 n 0 0 0 work (record { looks = work.looks; rows = rows; hashed = work.hashed })
paged work rows n within = record { on_states = (free 0 0 0 0 0 work).on_states; on_rows = within; hashes = (free 0 0 0 0 0 work).hashes }

-- no look at kept rows
pub unlooked : (n : ℕ) (rows : Meter) → Within 0 n rows rows
unlooked n rows = record { updates = no_more _ 0; looks = no_more _ n; least_updates = same _; least_looks = same _ }

-- a page that is refused looks at nothing, but for want of memory
pub refused_looks : (refusal : Refusal) (old new : Meter) → Within 0 1002 old new → (refusal ≢ Memory → Within 0 0 old new) → Within 0 (page_looks (Refused refusal)) old new
refused_looks Memory old new most none = most
refused_looks refusal old new most none = none (λ is. cc)

-- what is refused for another cause than memory looks at nothing
pub refused_unlooked : (refusal : Refusal) (old new : Meter) → Within 0 0 old new → Within 0 (page_looks (Refused refusal)) old new
refused_unlooked refusal old new none = refused_looks refusal old new (record { updates = none.updates; looks = wider _ _ none.looks; least_updates = none.least_updates; least_looks = none.least_looks }) (λ other. none)
  where
    wider : (x y : ℕ) → y ≤ x + 0 → y ≤ x + 1002
    wider x y e = omega arith

-- what it takes the hash tree that one key changes
tree_took : (states : States) (tree : KeyDigests) (change : ChangeValue) (a c : Hashed) → tree ≡ digests states → TreeCosts tree (Change change ∷ []) a c
    → Hashes 6 (length (spelled change.key change.state) + length change.key + 32 * keys_beside (digests (insert states change.key change.state)) change.key + 1536) a c
tree_took states tree change a c is took =
    let moved : Changes = (change.key, Some (key_digest spelled change.key change.state)) ∷ [] in
    let all : changed_all tree moved ≡ digests (insert states change.key change.state) =
    ap (λ t. changed t change.key (Some (key_digest spelled change.key change.state))) is ∙ sym (digests_of-insert spelled states change.key change.state) in
    let keys : keys_touched (changed_all tree moved) moved ≡ keys_beside (digests (insert states change.key change.state)) change.key =
    one_touched (changed_all tree moved) change.key (Some (key_digest spelled change.key change.state)) ∙ ap (λ t. keys_beside t change.key) all in
    let four : count_touched 0 moved + inner_touched moved ≡ 4 = refl in
    let three : inner_touched moved ≡ 3 = refl in
    let bytes : changed_bytes moved ≡ length change.key = sum_by-cons (λ (e : Key × Option (List ℕ)). length e.0) (change.key, Some (key_digest spelled change.key change.state)) [] ∙ omega arith in
    hashes_then _ _ 0 0 6 _ a c c (omega (arith, four)) (omega (arith, keys, three, bytes)) took (record { ends = omega arith; reads = omega arith; least_ends = omega arith; least_reads = omega arith })

-- a change was put in: the hash tree has taken it, and the rows have followed
pub put_in_costs : (config : ConfigValue) (states : States) (broken : Bool) (tree : KeyDigests) (rows : Kept) (change : ChangeValue) (k : Key) (t : State) (old new : Work) (then : Hashed)
    → KeepsKeys config states tree rows broken → broken ≡ false → k ≡ change.key → t ≡ change.state
    → TreeCosts tree (Change change ∷ []) old.hashed then
    → new.hashed ≡ then
    → RoseBy 1 old.looks new.looks
    → Within (differing (state_at states k) t * updates_each (definitions_of rows) + 1) (differing (state_at states k) t * looks_each (definitions_of rows)) old.rows new.rows
    → ChangeCosts 0 (record { config = config; states = states; broken = broken }) change.key change.state old new
put_in_costs config states broken tree rows change k t old new then keeps whole one same took hashed rose within =
    let defs = (keeps.listed whole).defs in
    let moved : differing (state_at states k) t ≡ differing (state_at states change.key) change.state = λ i. differing (state_at states (one i)) (same i) in
    record {
      on_states = rose;
      on_rows = subst (λ p. Within p (differing (state_at states change.key) change.state * looks_each config.defs) old.rows new.rows) (λ i. moved i * updates_each (defs i) + 1)
          (subst (λ p. Within (differing (state_at states k) t * updates_each (definitions_of rows) + 1) p old.rows new.rows) (λ i. moved i * looks_each (defs i)) within);
      hashes = subst (Hashes 6 (length (spelled change.key change.state) + length change.key + 32 * keys_beside (digests (insert states change.key change.state)) change.key + 1536) old.hashed) (sym hashed)
          (tree_took states tree change old.hashed then (keeps.digested whole) took);
    }

-- and where the hash tree was refused memory, that is all
pub not_put_in_costs : (config : ConfigValue) (states : States) (broken : Bool) (tree : KeyDigests) (rows : Kept) (change : ChangeValue) (work : Work) (then : Hashed)
    → KeepsKeys config states tree rows broken → broken ≡ false → TreeCosts tree (Change change ∷ []) work.hashed then
    → ChangeCosts 0 (record { config = config; states = states; broken = broken }) change.key change.state work (with_hashed work then)
not_put_in_costs config states broken tree rows change work then keeps whole took =
    let none = free 1 (differing (state_at states change.key) change.state * looks_each config.defs) (differing (state_at states change.key) change.state * updates_each config.defs + 1) 0 0 work in
    record { on_states = none.on_states; on_rows = none.on_rows; hashes = tree_took states tree change work.hashed then (keeps.digested whole) took }

-- one look, and then other work
look_then : (p q r t u : ℕ) (x y z : Work) → Costs 1 0 0 0 0 x y → Costs p q r t u y z → Costs (1 + p) q r t u x z
look_then p q r t u x y z first second = record {
  on_states = record { least = under _ _ _ first.on_states.least second.on_states.least; most = both _ _ _ 1 p first.on_states.most second.on_states.most };
  on_rows = record {
    updates = none _ _ _ r first.on_rows.updates second.on_rows.updates;
    looks = none _ _ _ q first.on_rows.looks second.on_rows.looks;
    least_updates = under _ _ _ first.on_rows.least_updates second.on_rows.least_updates;
    least_looks = under _ _ _ first.on_rows.least_looks second.on_rows.least_looks;
  };
  hashes = hashes_then 0 0 t u t u x.hashed y.hashed z.hashed (nothing t) (nothing u) first.hashes second.hashes;
}
  where
    under : (x y z : ℕ) → x ≤ y → y ≤ z → x ≤ z
    under x y z e f = omega arith

    both : (x y z a p : ℕ) → y ≤ x + a → z ≤ y + p → z ≤ x + (a + p)
    both x y z a p e f = omega arith

    none : (x y z p : ℕ) → y ≤ x + 0 → z ≤ y + p → z ≤ x + p
    none x y z p e f = omega arith

    nothing : (n : ℕ) → 0 + n ≤ n
    nothing n = omega arith

-- a look at a held state, and no change
pub one_look : (site : SiteValue) (request : Request) (old new : Work) → Costs 1 0 0 0 0 old new → WriteCosts site request old new
one_look site request old new look = record { still = λ _. look; change = λ key s _. look_then 1 _ _ _ _ old new new look (free 1 _ _ _ _ new) }

-- a refusal, or an answer with nothing to change, takes no more than what prepared it
pub refused_costs : (site : SiteValue) (request : Request) (refusal : Refusal) (old new : Work) → PrepareCosts request (Err refusal) old new → AnswerCosts site request (Refused refusal) old new
refused_costs site (Get key) refusal old new costs = costs
refused_costs site (Put key seen document) refusal old new costs = one_look site (Put key seen document) old new costs
refused_costs site (Delete key seen) refusal old new costs = one_look site (Delete key seen) old new costs
refused_costs site (Push key pushed) refusal old new costs = one_look site (Push key pushed) old new costs
refused_costs site (Find field term after) refusal old new costs = costs
refused_costs site (Range field from to after) refusal old new costs = costs
refused_costs site (Rows view after) refusal old new costs = costs
refused_costs site (Row view term) refusal old new costs = costs
refused_costs site (Node path) refusal old new costs = costs
refused_costs site (Bucket path after) refusal old new costs = costs
refused_costs site (Keys prefix after) refusal old new costs = costs
refused_costs site (Conflicts after) refusal old new costs = costs
refused_costs site (Hello token) refusal old new costs = costs
refused_costs site Bye refusal old new costs = costs

pub told_costs : (site : SiteValue) (request : Request) (reply : Reply) (old new : Work) → PrepareCosts request (Ok (Answer reply)) old new → AnswerCosts site request reply old new
told_costs site (Get key) reply old new costs = costs
told_costs site (Put key seen document) reply old new costs = one_look site (Put key seen document) old new costs
told_costs site (Delete key seen) reply old new costs = one_look site (Delete key seen) old new costs
told_costs site (Push key pushed) reply old new costs = one_look site (Push key pushed) old new costs
told_costs site (Find field term after) reply old new costs = costs
told_costs site (Range field from to after) reply old new costs = costs
told_costs site (Rows view after) reply old new costs = costs
told_costs site (Row view term) reply old new costs = costs
told_costs site (Node path) reply old new costs = costs
told_costs site (Bucket path after) reply old new costs = costs
told_costs site (Keys prefix after) reply old new costs = costs
told_costs site (Conflicts after) reply old new costs = costs
told_costs site (Hello token) reply old new costs = costs
told_costs site Bye reply old new costs = costs

-- a change that was put in, or broke the site, takes a look and what it costs
pub wrote : (site : SiteValue) (request : Request) (change : ChangeValue) (old mid new : Work) → PreparesChangeFrom site.config site.states request change
    → Costs 1 0 0 0 0 old mid → ChangeCosts 0 site change.key change.state mid new → WriteCosts site request old new
wrote site request change old mid new prepared look costs = record {
  still = λ stays. absurd (insert_differs site.states change.key change.state prepared.differs (sym prepared.after ∙ stays));
  change = λ key s is.
      let both : Some (change.key, change.state) ≡ Some (key, s) = sym prepared.leaves ∙ is in
      let one : change.key ≡ key = ap (λ o. (unwrap_or {T = Key × State} o (key, s)).0) both in
      let last : change.state ≡ s = ap (λ o. (unwrap_or {T = Key × State} o (key, s)).1) both in
      subst₂ (λ k t. ChangeCosts 1 site k t old new) one last (look_then 1 _ _ _ _ old mid new look costs);
}

none_some : {X : Type 0} (x : X) → None ≡ Some x → ⊥
none_some x is = cc

pub changed_costs : (site : SiteValue) (request : Request) (change : ChangeValue) (reply : Reply) (old mid new : Work) → PreparesChangeFrom site.config site.states request change
    → PrepareCosts request (Ok (Change change)) old mid → ChangeCosts 0 site change.key change.state mid new → AnswerCosts site request reply old new
changed_costs site (Put key seen document) change reply old mid new prepared look costs = wrote site (Put key seen document) change old mid new prepared look costs
changed_costs site (Delete key seen) change reply old mid new prepared look costs = wrote site (Delete key seen) change old mid new prepared look costs
changed_costs site (Push key pushed) change reply old mid new prepared look costs = wrote site (Push key pushed) change old mid new prepared look costs
changed_costs site (Get key) change reply old mid new prepared look costs = absurd (none_some _ prepared.leaves)
changed_costs site (Find field term after) change reply old mid new prepared look costs = absurd (none_some _ prepared.leaves)
changed_costs site (Range field from to after) change reply old mid new prepared look costs = absurd (none_some _ prepared.leaves)
changed_costs site (Rows view after) change reply old mid new prepared look costs = absurd (none_some _ prepared.leaves)
changed_costs site (Row view term) change reply old mid new prepared look costs = absurd (none_some _ prepared.leaves)
changed_costs site (Node path) change reply old mid new prepared look costs = absurd (none_some _ prepared.leaves)
changed_costs site (Bucket path after) change reply old mid new prepared look costs = absurd (none_some _ prepared.leaves)
changed_costs site (Keys prefix after) change reply old mid new prepared look costs = absurd (none_some _ prepared.leaves)
changed_costs site (Conflicts after) change reply old mid new prepared look costs = absurd (none_some _ prepared.leaves)
changed_costs site (Hello token) change reply old mid new prepared look costs = absurd (none_some _ prepared.leaves)
changed_costs site Bye change reply old mid new prepared look costs = absurd (none_some _ prepared.leaves)
