-- What a client with a right is told depends on its own keys alone.
use Rattle.std.proofs.Common.{◌≡◌, ◌≤◌, ℕ, Bool, true, false, cond, ◌&&◌, List, [], ◌∷◌, length, take, map, filter, Option, Some, None, Result, Ok, Err, refl, sym, ap, ◌∙◌, subst, arith}
use Rattle.std.specs.Prelude.{IfOk}
use Rattle.std.specs.List.{AllByRecursion}
use Rattle.std.specs.FinSet.{union}
use Rattle.std.specs.FinMap.{entries, entries-from_sorted, entries_sorted, from_sorted, get, get-entries, get-from_sorted, get-retain_keys, retain_keys, same_map}
use Rattle.std.specs.FinMap.Entries.{find-where_key, is_sorted-where_key, where_key}
use Rattle.std.proofs.lemmas.Bool.{eqb-true}
use Rattle.std.proofs.lemmas.List.{length-take, nil_from_length, take-take}
use Rattle.std.proofs.lemmas.Slice.Eq.{bytes_eq-Decides}
use Rattle.mvd_conn.specs.Rights.{AgreeWithin, covers, is_of_all, may, prefix_of}
use Rattle.mvd_conn.specs.declared.right.Right.{Right}
use Rattle.mvd_keys.proofs.KeyOrder.{key_antisymmetric, key_total}
use Rattle.mvd_keys.proofs.Lists.{and_true}
use Rattle.mvd_keys.specs.Key.{key_cmp}
use Rattle.mvd_keys.specs.Minting.{mint}
use Rattle.mvd_keys.specs.State.{State, Text}
use Rattle.mvd_keys.specs.Writes.{Key}
use Rattle.mvd_dots.specs.Context.{DotSet}
use Rattle.mvd_dots.specs.Dot.{DotValue}
use Rattle.mvd_dots.specs.declared.refusals.Refusal.{Refusal}
use Rattle.mvd_host.specs.Within.{AreWithin, ChangesWithin, IsWithin, RepliesWithin, is_filled}
use Rattle.mvd_replica.specs.Turns.{Turn}
use Rattle.mvd_rows.specs.Siblings.{begins_with, is_after_key, sibling_count, sibling_counts}
use Rattle.mvd_rows.specs.Answers.{page_of}
use Rattle.mvd_site.specs.Answer.{States, answer_from, counts_reply, put_from, state_at}
use Rattle.mvd_site.specs.Config.{ConfigValue}
use Rattle.mvd_wire.specs.declared.reply.Reply.TheVariants as told
use Rattle.mvd_wire.specs.declared.request.Request.{Request}
use Rattle.mvd_wire.specs.declared.request.Request.TheVariants.{Get, Put, Delete, Find, Row, Rows, Node, Bucket, Push, Range, Keys, Conflicts, Hello, Bye}

-- ---- all keys

covers_all : (prefix key : List ℕ) → prefix ≡ [] → covers prefix key ≡ true
covers_all prefix key none = subst (λ (p : List ℕ). covers p key ≡ true) (sym none) refl

all_same : (right : Right) (a b : States) → is_of_all right ≡ true → AgreeWithin (prefix_of right) a b → a ≡ b
all_same right a b all agree =
    let none : prefix_of right ≡ [] = nil_from_length (prefix_of right) (eqb-true (length (prefix_of right)) 0 all) in
    same_map key_total key_antisymmetric a b (λ key. agree key (covers_all (prefix_of right) key none))

whole : (right : Right) (config : ConfigValue) (a b : States) (request : Request) → is_of_all right ≡ true → AgreeWithin (prefix_of right) a b → answer_from config a request ≡ answer_from config b request
whole right config a b request all agree = ap (λ (m : States). answer_from config m request) (all_same right a b all agree)

-- ---- one key

module _ (config : ConfigValue) (a b : States) (key : Key) (same : get a key ≡ get b key) (full : is_filled config a ≡ is_filled config b) where
  pub get_same : answer_from config a (Get key) ≡ answer_from config b (Get key)
  get_same = rw same refl

  pub put_same : (seen : DotSet) (document : Text) → answer_from config a (Put key seen document) ≡ answer_from config b (Put key seen document)
  put_same seen document = ap (λ (s : State). put_from config a key seen document (mint config.site (union s.context seen))) at ∙ by_dot (mint config.site (union (state_at b key).context seen))
    where
      at : state_at a key ≡ state_at b key
      at = rw same refl

      by_dot : (dot : Option DotValue) → put_from config a key seen document dot ≡ put_from config b key seen document dot
      by_dot None = refl
      by_dot (Some dot) = rw (same, full) refl

  pub delete_same : (seen : DotSet) → answer_from config a (Delete key seen) ≡ answer_from config b (Delete key seen)
  delete_same seen = rw (same, full) refl

  pub push_same : (pushed : State) → answer_from config a (Push key pushed) ≡ answer_from config b (Push key pushed)
  push_same pushed = rw (same, full) refl

-- ---- lists of keys

-- the entries whose keys pass a test
kept_entries : (m : States) (p : List ℕ → Bool) → entries (retain_keys m p) ≡ where_key key_cmp p (entries m)
kept_entries m p =
    let alike : (q x : List ℕ) → key_cmp q x ≡ _ → p x ≡ p q = λ q x e. ap p (sym (key_antisymmetric q x e)) in
    let sorted = is_sorted-where_key key_cmp p (entries m) (entries_sorted m) in
    ap entries (same_map key_total key_antisymmetric (retain_keys m p) (from_sorted (where_key key_cmp p (entries m))) (λ q.
    get-retain_keys m p q (alike q) ∙ ap (λ o. cond (p q) o None) (get-entries m q) ∙ sym (get-from_sorted key_cmp _ q sorted ∙ find-where_key key_cmp p q (alike q) (entries m))))
    ∙ entries-from_sorted key_cmp _ sorted

cond_same : {X : Type 0} (b : Bool) (x y : X) → (b ≡ true → x ≡ y) → (z : X) → cond b x z ≡ cond b y z
cond_same true x y same z = same refl
cond_same false x y same z = refl

within_entries : (prefix : List ℕ) (a b : States) → AgreeWithin prefix a b → where_key key_cmp (covers prefix) (entries a) ≡ where_key key_cmp (covers prefix) (entries b)
within_entries prefix a b agree =
    let p = covers prefix in
    let alike : (q x : List ℕ) → key_cmp q x ≡ _ → p x ≡ p q = λ q x e. ap p (sym (key_antisymmetric q x e)) in
    let same : retain_keys a p ≡ retain_keys b p = same_map key_total key_antisymmetric (retain_keys a p) (retain_keys b p) (λ q.
    get-retain_keys a p q (alike q) ∙ cond_same (p q) (get a q) (get b q) (agree q) None ∙ sym (get-retain_keys b p q (alike q))) in
    sym (kept_entries a p) ∙ ap entries same ∙ kept_entries b p

-- what is listed is of keys that pass the first test
listed_on : (p q : List ℕ → Bool) → ((key : List ℕ) → q key ≡ true → p key ≡ true) → (es : List (Key × State)) →
    filter (λ (c : Key × ℕ). q c.0) (map sibling_count es) ≡ filter (λ (c : Key × ℕ). q c.0) (map sibling_count (where_key key_cmp p es))
listed_on p q only [] = refl
listed_on p q only (e ∷ es) = on (p e.0) (q e.0) refl refl (listed_on p q only es)
  where
    on : (pb qb : Bool) → p e.0 ≡ pb → q e.0 ≡ qb → filter (λ (c : Key × ℕ). q c.0) (map sibling_count es) ≡ filter (λ (c : Key × ℕ). q c.0) (map sibling_count (where_key key_cmp p es))
        → cond (q e.0) (sibling_count e ∷ filter (λ (c : Key × ℕ). q c.0) (map sibling_count es)) (filter (λ (c : Key × ℕ). q c.0) (map sibling_count es))
        ≡ filter (λ (c : Key × ℕ). q c.0) (map sibling_count (cond (p e.0) (e ∷ where_key key_cmp p es) (where_key key_cmp p es)))
    on true true pe qe rest = rw (pe, qe) (ap (λ (l : List (Key × ℕ)). sibling_count e ∷ l) rest)
    on true false pe qe rest = rw (pe, qe) rest
    on false true pe qe rest = absurd (let yes : p e.0 ≡ true = only e.0 qe in let no : true ≡ false = sym yes ∙ pe in cc)
    on false false pe qe rest = rw (pe, qe) rest

-- ---- a longer prefix is within

pub front_covers : (first longer key : List ℕ) → covers first longer ≡ true → covers longer key ≡ true → covers first key ≡ true
front_covers first longer key one other =
    let a : first ≡ take (length first) longer = (bytes_eq-Decides first (take (length first) longer)).0 one in
    let b : longer ≡ take (length longer) key = (bytes_eq-Decides longer (take (length longer) key)).0 other in
    let few : length first ≤ length longer = omega (arith, ap length a, length-take (length first) longer) in
    let c : first ≡ take (length first) key = a ∙ ap (take (length first)) b ∙ take-take (length first) (length longer) key few in
    (bytes_eq-Decides first (take (length first) key)).1 c

keys_same : (config : ConfigValue) (first : List ℕ) (a b : States) (prefix : List ℕ) (after : Option Key) → covers first prefix ≡ true → AgreeWithin first a b → answer_from config a (Keys prefix after) ≡ answer_from config b (Keys prefix after)
unfolding sibling_counts
keys_same config first a b prefix after within agree =
    let q : List ℕ → Bool = λ key. begins_with prefix key && is_after_key after key in
    let only : (key : List ℕ) → q key ≡ true → covers first key ≡ true = λ key is. front_covers first prefix key within (and_true (begins_with prefix key) (is_after_key after key) is).0 in
    let same : filter (λ (c : Key × ℕ). q c.0) (map sibling_count (entries a)) ≡ filter (λ (c : Key × ℕ). q c.0) (map sibling_count (entries b))
    = listed_on (covers first) q only (entries a) ∙ ap (λ (es : List (Key × State)). filter (λ (c : Key × ℕ). q c.0) (map sibling_count es)) (within_entries first a b agree) ∙ sym (listed_on (covers first) q only (entries b)) in
    ap (λ (es : List (Key × ℕ)). counts_reply (page_of es)) same

-- ---- all requests

pub replies_within : (right : Right) (request : Request) → may right request ≡ true → RepliesWithin right request
replies_within right (Get key) is config a b agree full = get_same config a b key (agree key is) full
replies_within right (Put key seen document) is config a b agree full = put_same config a b key (agree key (and_true right.writes (covers (prefix_of right) key) is).1) full seen document
replies_within right (Delete key seen) is config a b agree full = delete_same config a b key (agree key (and_true right.writes (covers (prefix_of right) key) is).1) full seen
replies_within right (Push key state) is config a b agree full = push_same config a b key (agree key (and_true right.writes (covers (prefix_of right) key) is).1) full state
replies_within right (Keys prefix after) is config a b agree full = keys_same config (prefix_of right) a b prefix after is agree
replies_within right (Find field term after) is config a b agree full = whole right config a b (Find field term after) is agree
replies_within right (Row view term) is config a b agree full = whole right config a b (Row view term) is agree
replies_within right (Rows view after) is config a b agree full = whole right config a b (Rows view after) is agree
replies_within right (Node path) is config a b agree full = whole right config a b (Node path) is agree
replies_within right (Bucket path after) is config a b agree full = whole right config a b (Bucket path after) is agree
replies_within right (Range field low high after) is config a b agree full = whole right config a b (Range field low high after) is agree
replies_within right (Conflicts after) is config a b agree full = whole right config a b (Conflicts after) is agree
replies_within right (Hello token) is config a b agree full = refl
replies_within right Bye is config a b agree full = refl

-- ---- what is changed

of_key : (right : Right) (key k : Key) (s t : State) → right.writes && covers (prefix_of right) key ≡ true → ◌≡◌ {A = Option (Key × State)} (Some (key, s)) (Some (k, t)) → (right.writes ≡ true) × (covers (prefix_of right) k ≡ true)
of_key right key k s t is e =
    let both = and_true right.writes (covers (prefix_of right) key) is in
    let same : key ≡ k = first_is (key, s) (k, t) e in
    (both.0, subst (λ (x : Key). covers (prefix_of right) x ≡ true) same both.1)
  where
    some_is : (x y : Key × State) → ◌≡◌ {A = Option (Key × State)} (Some x) (Some y) → x ≡ y
    some_is x y h = cc

    first_is : (x y : Key × State) → ◌≡◌ {A = Option (Key × State)} (Some x) (Some y) → x.0 ≡ y.0
    first_is x y h = ap (λ (p : Key × State). p.0) (some_is x y h)

no_change : (right : Right) (k : Key) (t : State) → ◌≡◌ {A = Option (Key × State)} None (Some (k, t)) → (right.writes ≡ true) × (covers (prefix_of right) k ≡ true)
no_change right k t e = absurd cc

pub changes_within : (right : Right) (request : Request) → may right request ≡ true → ChangesWithin right request
changes_within right (Put key seen document) is states (told.State s) k t e = no_change right k t e
changes_within right (Put key seen document) is states (told.Written dot) k t e = of_key right key k _ t is e
changes_within right (Put key seen document) is states told.Done k t e = no_change right k t e
changes_within right (Put key seen document) is states (told.Places l m) k t e = no_change right k t e
changes_within right (Put key seen document) is states (told.Row r) k t e = no_change right k t e
changes_within right (Put key seen document) is states (told.Rows l m) k t e = no_change right k t e
changes_within right (Put key seen document) is states (told.Digests d) k t e = no_change right k t e
changes_within right (Put key seen document) is states (told.Keys l m) k t e = no_change right k t e
changes_within right (Put key seen document) is states (told.Counts l m) k t e = no_change right k t e
changes_within right (Put key seen document) is states (told.Refused r) k t e = no_change right k t e
changes_within right (Delete key seen) is states (told.State s) k t e = no_change right k t e
changes_within right (Delete key seen) is states (told.Written dot) k t e = no_change right k t e
changes_within right (Delete key seen) is states told.Done k t e = of_key right key k _ t is e
changes_within right (Delete key seen) is states (told.Places l m) k t e = no_change right k t e
changes_within right (Delete key seen) is states (told.Row r) k t e = no_change right k t e
changes_within right (Delete key seen) is states (told.Rows l m) k t e = no_change right k t e
changes_within right (Delete key seen) is states (told.Digests d) k t e = no_change right k t e
changes_within right (Delete key seen) is states (told.Keys l m) k t e = no_change right k t e
changes_within right (Delete key seen) is states (told.Counts l m) k t e = no_change right k t e
changes_within right (Delete key seen) is states (told.Refused r) k t e = no_change right k t e
changes_within right (Push key pushed) is states (told.State s) k t e = no_change right k t e
changes_within right (Push key pushed) is states (told.Written dot) k t e = no_change right k t e
changes_within right (Push key pushed) is states told.Done k t e = of_key right key k _ t is e
changes_within right (Push key pushed) is states (told.Places l m) k t e = no_change right k t e
changes_within right (Push key pushed) is states (told.Row r) k t e = no_change right k t e
changes_within right (Push key pushed) is states (told.Rows l m) k t e = no_change right k t e
changes_within right (Push key pushed) is states (told.Digests d) k t e = no_change right k t e
changes_within right (Push key pushed) is states (told.Keys l m) k t e = no_change right k t e
changes_within right (Push key pushed) is states (told.Counts l m) k t e = no_change right k t e
changes_within right (Push key pushed) is states (told.Refused r) k t e = no_change right k t e
changes_within right (Get key) is states reply k t e = no_change right k t e
changes_within right (Find field term after) is states reply k t e = no_change right k t e
changes_within right (Row view term) is states reply k t e = no_change right k t e
changes_within right (Rows view after) is states reply k t e = no_change right k t e
changes_within right (Node path) is states reply k t e = no_change right k t e
changes_within right (Bucket path after) is states reply k t e = no_change right k t e
changes_within right (Range field low high after) is states reply k t e = no_change right k t e
changes_within right (Keys prefix after) is states reply k t e = no_change right k t e
changes_within right (Conflicts after) is states reply k t e = no_change right k t e
changes_within right (Hello token) is states reply k t e = no_change right k t e
changes_within right Bye is states reply k t e = no_change right k t e

-- ---- what is within a right

pub within : (right : Right) (request : Request) → may right request ≡ true → IsWithin right request
within right request is = record { allowed = is; replies = replies_within right request is; changes = changes_within right request is }

if_within : (right : Right) (asked : Result Request Refusal) → IfOk asked (λ request. may right request ≡ true) → IfOk asked (IsWithin right)
if_within right (Ok request) is = within right request is
if_within right (Err refusal) is = tt

pub are_within : (right : Right) (turns : List Turn) → AllByRecursion (λ turn. IfOk turn.asked (λ request. may right request ≡ true)) turns → AreWithin right turns
are_within right [] all = tt
are_within right (turn ∷ turns) all = (if_within right turn.asked all.0, are_within right turns all.1)
