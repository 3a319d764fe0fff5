-- What is visible once some siblings of a key went and others came, dot by dot.
use Rattle.std.proofs.Common.{◌≡◌, ℕ, ◌+◌, ◌-◌, ◌≤◌, Bool, true, false, not, T, ◌&&◌, cond, List, [], ◌∷◌, Option, Some, None, is_some, refl, sym, ap, ap₂, ◌∙◌, subst, true≢false, arith}
use Rattle.std.specs.Ordering.{eq_by_cmp}
use Rattle.std.specs.Option.{option_or}
use Rattle.std.specs.Str.{bytes_eq}
use Rattle.std.proofs.lemmas.Slice.Eq.{bytes_eq-Decides}
use Rattle.std.specs.FinMap.{get, find, insert, remove, len, is_sorted, get-insert, get-remove, len-insert, len-remove, same_map, contains_key}
use Rattle.std.specs.FinMap.Entries.{below_all}
use Rattle.mvd_dots.specs.Dot.{dot_cmp, DotValue}
use Rattle.mvd_dots.proofs.Sets.{dot_total, dot_antisymmetric}
use Rattle.mvd_keys.specs.Key.{key_cmp}
use Rattle.mvd_keys.specs.State.{Text}
use Rattle.mvd_keys.specs.Writes.{Key}
use Rattle.mvd_keys.proofs.KeyOrder.{tied_itself_key, same_where_tied}
use Rattle.mvd_rows.specs.Changes.{CanMove, HasSiblings, is_among, is_document, not_among, put_in, taken_out}
use Rattle.mvd_rows.specs.Marks.{spots_total, spots_exact}
use Rattle.mvd_rows.specs.Visible.{Visible, spot}
use Rattle.mvd_rows.specs.declared.marks.Spot.{Spot}
use Rattle.mvd_rows.specs.declared.moves.Way.TheVariants.{Comes, Goes}
use Rattle.mvd_rows.proofs.Sorted.{kept, none_below, sorted-filter, find-filter, first, second}
use Rattle.mvd_rows.proofs.Spots.{spots_tied}

abbrev pub Pair : Type 0
Pair = DotValue × Text

gone_by : (k t : Bool) (x : Text) (f g : Option Text) → cond (k && is_some f) None (cond (k && t) None g) ≡ cond (k && is_some (cond t (Some x) f)) None g
gone_by true true x None g = refl
gone_by true true x (Some y) g = refl
gone_by true false x f g = refl
gone_by false t x f g = refl

pub get-taken_out : (visible : Visible) (key : Key) (es : List Pair) (q : Spot) →
    get (taken_out visible key es) q ≡ cond (eq_by_cmp key_cmp q.key key && is_some (find dot_cmp q.dot es)) None (get visible q)
get-taken_out visible key [] q = elim (eq_by_cmp key_cmp q.key key) as (λ b. get visible q ≡ cond (b && false) None (get visible q)) [ true ↦ refl | false ↦ refl ]
get-taken_out visible key (e ∷ es) q =
    get-taken_out (remove visible (spot key e.0)) key es q
    ∙ ap (cond (eq_by_cmp key_cmp q.key key && is_some (find dot_cmp q.dot es)) None) (get-remove spots_total visible (spot key e.0) q ∙ ap (λ b. cond b None (get visible q)) (spots_tied q (spot key e.0)))
    ∙ gone_by (eq_by_cmp key_cmp q.key key) (eq_by_cmp dot_cmp q.dot e.0) e.1 (find dot_cmp q.dot es) (get visible q)

come_by : (k t : Bool) (x : Text) (f g : Option Text) → (t ≡ true → f ≡ None) → cond k (option_or f (cond (k && t) (Some x) g)) (cond (k && t) (Some x) g) ≡ cond k (option_or (cond t (Some x) f) g) g
come_by true true x f g none = ap (λ o. option_or o (Some x)) (none refl)
come_by true false x f g none = refl
come_by false t x f g none = refl

pub get-put_in : (visible : Visible) (key : Key) (es : List Pair) (q : Spot) → T (is_sorted dot_cmp es) →
    get (put_in visible key es) q ≡ cond (eq_by_cmp key_cmp q.key key) (option_or (find dot_cmp q.dot es) (get visible q)) (get visible q)
get-put_in visible key [] q sorted = elim (eq_by_cmp key_cmp q.key key) as (λ b. get visible q ≡ cond b (get visible q) (get visible q)) [ true ↦ refl | false ↦ refl ]
get-put_in visible key (e ∷ es) q sorted =
    let k = eq_by_cmp key_cmp q.key key in
    let t = eq_by_cmp dot_cmp q.dot e.0 in
    get-put_in (insert visible (spot key e.0) e.1) key es q (second (below_all dot_cmp e.0 es) _ sorted)
    ∙ ap (λ g. cond k (option_or (find dot_cmp q.dot es) g) g) (get-insert spots_total visible (spot key e.0) e.1 q ∙ ap (λ b. cond b (Some e.1) (get visible q)) (spots_tied q (spot key e.0)))
    ∙ come_by k t e.1 (find dot_cmp q.dot es) (get visible q) (λ tied. none_below dot_total q.dot e.0 es tied (first _ _ sorted))

same_text : (x y : Text) → bytes_eq x y ≡ true → bytes_eq y x ≡ true
same_text x y e = (bytes_eq-Decides y x).1 (sym ((bytes_eq-Decides x y).0 e))

-- a sibling that stays is the same in both
stays_same : (d x : Text) → bytes_eq d x ≡ true → d ≡ x
stays_same d x e = (bytes_eq-Decides d x).0 e

abbrev leaves : Option Text → Option Text → Option Text
leaves None other = None
leaves (Some x) other = cond (not (is_document x other)) (Some x) None

changed_by : (old new : Option Text) → option_or (leaves new old) (cond (is_some (leaves old new)) None old) ≡ new
changed_by None None = refl
changed_by (Some x) None = refl
changed_by None (Some y) = refl
changed_by (Some x) (Some y) = elim (bytes_eq y x) as (λ b. bytes_eq y x ≡ b → option_or (cond (not b) (Some y) None) (cond (is_some (cond (not (bytes_eq x y)) (Some x) None)) None (Some x)) ≡ Some y) [
  | true ↦ λ e. ap (λ b. cond (is_some (cond (not b) (Some x) None)) None (Some x)) (same_text y x e) ∙ ap Some (sym (stays_same y x e))
  | false ↦ λ _. refl
] refl

leaves_is : (others es : List Pair) (dot : DotValue) (o : Option Text) → kept (λ e. not (is_among others e)) dot o ≡ leaves o (find dot_cmp dot others)
leaves_is others es dot None = refl
leaves_is others es dot (Some x) = refl

pub find-not_among : (others es : List Pair) (dot : DotValue) → T (is_sorted dot_cmp es) → find dot_cmp dot (not_among others es) ≡ leaves (find dot_cmp dot es) (find dot_cmp dot others)
find-not_among others es dot sorted = find-filter dot_total dot_antisymmetric (λ e. not (is_among others e)) dot es sorted ∙ leaves_is others es dot (find dot_cmp dot es)

at_key : (visible : Visible) (key : Key) (old : List Pair) → HasSiblings visible key old → (q : Spot) → eq_by_cmp key_cmp q.key key ≡ true → get visible q ≡ find dot_cmp q.dot old
at_key visible key old has q tied = ap (λ k. get visible (spot k q.dot)) (same_where_tied q.key key tied) ∙ has.at q.dot

-- once those that are not new went and those that are not old came, the siblings are the new ones
pub changed : (visible after : Visible) (key : Key) (old new : List Pair) → T (is_sorted dot_cmp old) → T (is_sorted dot_cmp new) → HasSiblings visible key old →
    ((q : Spot) → get after q ≡ cond (eq_by_cmp key_cmp q.key key) (find dot_cmp q.dot new) (get visible q)) →
    put_in (taken_out visible key (not_among new old)) key (not_among old new) ≡ after
changed visible after key old new old_sorted new_sorted has is = same_map spots_total spots_exact _ _ (λ q.
    let gone = get-taken_out visible key (not_among new old) q in
    get-put_in (taken_out visible key (not_among new old)) key (not_among old new) q (sorted-filter dot_total (λ e. not (is_among old e)) new new_sorted)
    ∙ ap (λ g. cond (eq_by_cmp key_cmp q.key key) (option_or (find dot_cmp q.dot (not_among old new)) g) g) gone
    ∙ ap₂ (λ (f g : Option Text). cond (eq_by_cmp key_cmp q.key key) (option_or f (cond (eq_by_cmp key_cmp q.key key && is_some g) None (get visible q))) (cond (eq_by_cmp key_cmp q.key key && is_some g) None (get visible q)))
    (find-not_among old new q.dot new_sorted) (find-not_among new old q.dot old_sorted)
    ∙ elim (eq_by_cmp key_cmp q.key key) as (λ k. eq_by_cmp key_cmp q.key key ≡ k →
    cond k (option_or (leaves (find dot_cmp q.dot new) (find dot_cmp q.dot old)) (cond (k && is_some (leaves (find dot_cmp q.dot old) (find dot_cmp q.dot new))) None (get visible q))) (cond (k && is_some (leaves (find dot_cmp q.dot old) (find dot_cmp q.dot new))) None (get visible q))
    ≡ cond k (find dot_cmp q.dot new) (get visible q)) [
      | true ↦ λ tied. ap (λ g. option_or (leaves (find dot_cmp q.dot new) (find dot_cmp q.dot old)) (cond (is_some (leaves (find dot_cmp q.dot old) (find dot_cmp q.dot new))) None g)) (at_key visible key old has q tied)
          ∙ changed_by (find dot_cmp q.dot old) (find dot_cmp q.dot new)
      | false ↦ λ _. refl
    ] refl
    ∙ sym (is q))

free_by : (old new : Option Text) (d : Text) → new ≡ Some d → is_document d old ≡ false → cond (is_some (leaves old new)) None old ≡ None
free_by None new d is apart = refl
free_by (Some x) new d is apart =
    ap (λ o. cond (is_some (leaves (Some x) o)) None (Some x)) is
    ∙ elim (bytes_eq x d) as (λ b. bytes_eq x d ≡ b → cond (is_some (cond (not b) (Some x) None)) None (Some x) ≡ None) [
      | true ↦ λ e. absurd (true≢false (sym (same_text x d e) ∙ apart))
      | false ↦ λ _. refl
    ] refl

-- a key's siblings can go
pub can_go : (visible : Visible) (key : Key) (others es : List Pair) → HasSiblings visible key es → CanMove Goes visible key others es
can_go visible key others es has = record { at = λ dot d found _. has.at dot ∙ found }

-- where those that are not new went, nothing stands under the dots of those that are not old
pub free : (visible : Visible) (key : Key) (old new : List Pair) → T (is_sorted dot_cmp old) → HasSiblings visible key old → CanMove Comes (taken_out visible key (not_among new old)) key old new
free visible key old new old_sorted has = record {
  at = λ dot d found apart.
      get-taken_out visible key (not_among new old) (spot key dot)
      ∙ ap (λ k. cond (k && is_some (find dot_cmp dot (not_among new old))) None (get visible (spot key dot))) (tied_itself_key key)
      ∙ ap₂ (λ (f g : Option Text). cond (is_some f) None g) (find-not_among new old dot old_sorted) (has.at dot)
      ∙ free_by (find dot_cmp dot old) (find dot_cmp dot new) d found apart;
}

len_less : (b : Bool) (n m : ℕ) → n ≤ m → cond b (n - 1) n ≤ m
len_less true n m h = omega arith
len_less false n m h = h

pub len-gone : (visible : Visible) (s : Spot) (m : ℕ) → len visible ≤ m → len (remove visible s) ≤ m
len-gone visible s m h = subst (λ n. n ≤ m) (sym (len-remove spots_total visible s)) (len_less (contains_key visible s) (len visible) m h)

len_more : (b : Bool) (n m : ℕ) → n + 1 ≤ m → cond b n (n + 1) ≤ m
len_more true n m h = omega arith
len_more false n m h = h

pub len-come : (visible : Visible) (s : Spot) (d : Text) (m : ℕ) → len visible + 1 ≤ m → len (insert visible s d) ≤ m
len-come visible s d m h = subst (λ n. n ≤ m) (sym (len-insert spots_total visible s d)) (len_more (contains_key visible s) (len visible) m h)
