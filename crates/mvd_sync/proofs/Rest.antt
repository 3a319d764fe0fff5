-- What is left of a bucket after a key.
use Rattle.std.specs.Cmp.Lexicographic.{pointwise}
use Rattle.std.specs.Prelude.{nat_eq}
use Rattle.std.proofs.lemmas.Slice.Eq.{bytes_eq-Decides}
use Rattle.std.proofs.Common.{◌≡◌, ◌≢◌, ℕ, Bool, true, false, true≢false, cond, ◌&&◌, List, [], ◌∷◌, ◌++◌, refl, sym, ap, subst, ◌∙◌, Some, None, Option}
use Rattle.std.specs.Prelude.{IsTrue, T}
use Rattle.std.specs.declared.cmp.Ordering.{Ordering}
use Rattle.std.specs.declared.cmp.Ordering.TheVariants.{Less, Equal, Greater}
use Rattle.std.specs.Ordering.{nat_cmp, eq_by_cmp, is_eq, is_lt, ordering_reverse}
use Rattle.std.specs.Cmp.{Equal-is, tied_itself}
use Rattle.std.specs.Cmp.Lexicographic.{slice_cmp, nat_list_cmp_total}
use Rattle.std.specs.FinMap.{get, entries, entries_sorted, get-entries, get-retain_keys, find, is_sorted, from_sorted, entries-from_sorted, get-from_sorted, same_map}
use Rattle.std.specs.FinMap.Entries.{below_all}
use Rattle.mvd_tree.specs.HashTree.{KeyDigests, is_under}
use Rattle.mvd_tree.proofs.Under.{keys_same}
use Rattle.mvd_tree.specs.Page.{is_after, keys_after}
use Rattle.mvd_sync.proofs.Readings.{IsListing}
use Rattle.mvd_sync.specs.Answers.{PageEntry, StartsAfter, TakesLesser, of_first, of_second, of_both}
use Rattle.mvd_peer.specs.Sides.{two}
use Rattle.mvd_sync.specs.declared.cursor.Entry.{Entry}

-- ---- the order of keys

is_lt-Less : (o : Ordering) → T (is_lt o) → o ≡ Less
is_lt-Less Less h = refl
is_lt-Less Equal h = absurd h
is_lt-Less Greater h = absurd h

pub lt-true : (o : Ordering) → is_lt o ≡ true → o ≡ Less
lt-true Less h = refl
lt-true Equal h = absurd (cc)
lt-true Greater h = absurd (cc)

front : (a b : Bool) → T (a && b) → T a
front true b h = tt
front false b h = absurd h

back : (a b : Bool) → T (a && b) → T b
back true b h = h
back false b h = absurd h

both : (a b : Bool) → T a → T b → T (a && b)
both true b p q = q
both false b p q = p

-- a lesser key is another
pub not_tied : (k q : List ℕ) → slice_cmp nat_cmp k q ≡ Less → eq_by_cmp (slice_cmp nat_cmp) q k ≡ false
not_tied k q h = ap is_eq (nat_list_cmp_total.antisymm q k ∙ ap ordering_reverse h)

pub after_trans : (b : Option (List ℕ)) (k q : List ℕ) → is_after b k ≡ true → slice_cmp nat_cmp k q ≡ Less → is_after b q ≡ true
after_trans None k q h l = refl
after_trans (Some b) k q h l = ap is_lt (nat_list_cmp_total.trans b k q (lt-true (slice_cmp nat_cmp b k) h) l)

-- ---- lists of entries in order

found_after : (k : List ℕ) (t : List PageEntry) (q : List ℕ) → T (below_all (slice_cmp nat_cmp) k t) → (slice_cmp nat_cmp k q ≡ Less → ⊥) → find (slice_cmp nat_cmp) q t ≡ None
found_after k [] q h never = refl
found_after k (f ∷ t) q h never =
    elim (eq_by_cmp (slice_cmp nat_cmp) q f.0) as (λ b. eq_by_cmp (slice_cmp nat_cmp) q f.0 ≡ b → cond b (Some f.1) (find (slice_cmp nat_cmp) q t) ≡ None) [
      | true ↦ λ tie. absurd (never (ap (slice_cmp nat_cmp k) (keys_same q f.0 ((Equal-is _).0 tie)) ∙ is_lt-Less (slice_cmp nat_cmp k f.0) (front _ _ h)))
      | false ↦ λ _. found_after k t q (back _ _ h) never
    ] refl

below_later : (x k : List ℕ) (t : List PageEntry) → slice_cmp nat_cmp x k ≡ Less → T (below_all (slice_cmp nat_cmp) k t) → T (below_all (slice_cmp nat_cmp) x t)
below_later x k [] l h = tt
below_later x k (f ∷ t) l h = both _ _ (subst (λ o. T (is_lt o)) (sym (nat_list_cmp_total.trans x k f.0 l (is_lt-Less (slice_cmp nat_cmp k f.0) (front _ _ h)))) tt) (below_later x k t l (back _ _ h))

-- ---- what is left after a key

pub get-rest : (m : KeyDigests) (path : List ℕ) (b : Option (List ℕ)) (q : List ℕ) → get (keys_after m path b) q ≡ cond (is_under path q && is_after b q) (get m q) None
unfolding keys_after
get-rest m path b q = get-retain_keys m (λ key. is_under path key && is_after b key) q (λ x tie. ap (λ key. is_under path key && is_after b key) (sym (keys_same q x tie)))

none_of : {X : Type 0} (a : Bool) (o : Option X) → cond (a && false) o None ≡ None
none_of true o = refl
none_of false o = refl

-- the key's entry, if there is one, and then the others
abbrev pub with_head : List ℕ → Option (List ℕ) → List PageEntry → List PageEntry
with_head k None t = t
with_head k (Some digest) t = (k, digest) ∷ t

-- after b there is nothing before k, this digest or none at k, and then t
pub record HeadIs (m : KeyDigests) (path : List ℕ) (b : Option (List ℕ)) (k : List ℕ) (digest : Option (List ℕ)) (t : List PageEntry) : Type 0 where
  pub is : entries (keys_after m path b) ≡ with_head k digest t
  pub after : T (below_all (slice_cmp nat_cmp) k t)
  pub sorted : T (is_sorted (slice_cmp nat_cmp) t)

found-with_head : (k : List ℕ) (digest : Option (List ℕ)) (t : List PageEntry) (q : List ℕ) → eq_by_cmp (slice_cmp nat_cmp) q k ≡ false → find (slice_cmp nat_cmp) q (with_head k digest t) ≡ find (slice_cmp nat_cmp) q t
found-with_head k None t q other = refl
found-with_head k (Some digest) t q other = ap (λ b. cond b (Some digest) (find (slice_cmp nat_cmp) q t)) other

found_at_head : (k : List ℕ) (digest : Option (List ℕ)) (t : List PageEntry) → T (below_all (slice_cmp nat_cmp) k t) → find (slice_cmp nat_cmp) k (with_head k digest t) ≡ digest
found_at_head k None t h = found_after k t k h (λ l. let e : Equal ≡ Less = sym (tied_itself nat_list_cmp_total k) ∙ l in absurd (cc))
found_at_head k (Some digest) t h = ap (λ o. cond (is_eq o) (Some digest) (find (slice_cmp nat_cmp) k t)) (tied_itself nat_list_cmp_total k)

module _ (m : KeyDigests) (path : List ℕ) (b : Option (List ℕ)) (k : List ℕ) (digest : Option (List ℕ)) (t : List PageEntry) (head : HeadIs m path b k digest t) where
  pub found_rest : (q : List ℕ) → get (keys_after m path b) q ≡ find (slice_cmp nat_cmp) q (with_head k digest t)
  found_rest q = get-entries (keys_after m path b) q ∙ ap (find (slice_cmp nat_cmp) q) head.is

  inside : (q : List ℕ) → IsTrue (is_under path q) → is_after b q ≡ true → get m q ≡ find (slice_cmp nat_cmp) q (with_head k digest t)
  inside q u h = sym (get-rest m path b q ∙ ap (λ x. cond x (get m q) None) ((λ i. u i && h i))) ∙ found_rest q

  -- nothing is held before k
  pub gap : (q : List ℕ) → IsTrue (is_under path q) → is_after b q ≡ true → eq_by_cmp (slice_cmp nat_cmp) q k ≡ false → is_after (Some k) q ≡ false → get m q ≡ None
  gap q u h other before =
      inside q u h ∙ found-with_head k digest t q other ∙ found_after k t q head.after (λ l. let e : true ≡ false = sym (ap is_lt l) ∙ before in absurd (cc))

  pub at_head : IsTrue (is_under path k) → is_after b k ≡ true → get m k ≡ digest
  at_head u h = inside k u h ∙ found_at_head k digest t head.after

  -- what is left after k is t, also where k itself has changed
  pub left_after : is_after b k ≡ true → (m' : KeyDigests) → ((q : List ℕ) → slice_cmp nat_cmp k q ≡ Less → get m' q ≡ get m q) → entries (keys_after m' path (Some k)) ≡ t
  left_after h m' kept =
      let same : keys_after m' path (Some k) ≡ from_sorted t = same_map nat_list_cmp_total keys_same _ _ (λ q.
      get-rest m' path (Some k) q
      ∙ elim (is_lt (slice_cmp nat_cmp k q)) as (λ x. is_lt (slice_cmp nat_cmp k q) ≡ x → cond (is_under path q && x) (get m' q) None ≡ find (slice_cmp nat_cmp) q t) [
        | true ↦ λ e.
            let less = lt-true (slice_cmp nat_cmp k q) e in
            ap (λ o. cond (is_under path q && true) o None) (kept q less)
            ∙ sym (get-rest m path b q ∙ ap (λ x. cond (is_under path q && x) (get m q) None) (after_trans b k q h less))
            ∙ found_rest q ∙ found-with_head k digest t q (not_tied k q less)
        | false ↦ λ e. none_of (is_under path q) (get m' q) ∙ sym (found_after k t q head.after (λ l. let e' : true ≡ false = sym (ap is_lt l) ∙ e in absurd (cc)))
      ] refl
      ∙ sym (get-from_sorted (slice_cmp nat_cmp) t q head.sorted)) in
      ap entries same ∙ entries-from_sorted (slice_cmp nat_cmp) t head.sorted

-- ---- from the listing of a side

-- the taken entry is the first of what is left
head_taken : (m : KeyDigests) (path : List ℕ) (b : Option (List ℕ)) (k : List ℕ) (xs xs' later : List PageEntry) (e : PageEntry) → entries (keys_after m path b) ≡ xs ++ later → xs ≡ e ∷ xs' → k ≡ e.0 → HeadIs m path b k (Some e.1) (xs' ++ later)
head_taken m path b k xs xs' later e is p same =
    let all : entries (keys_after m path b) ≡ e ∷ (xs' ++ later) = is ∙ ap (λ ys. ys ++ later) p in
    let sorted : T (is_sorted (slice_cmp nat_cmp) (e ∷ (xs' ++ later))) = subst (λ ys. T (is_sorted (slice_cmp nat_cmp) ys)) all (entries_sorted (keys_after m path b)) in
    record {
      is = all ∙ ap (λ k. (k, e.1) ∷ (xs' ++ later)) (sym same);
      after = subst (λ k. T (below_all (slice_cmp nat_cmp) k (xs' ++ later))) (sym same) (front _ _ sorted);
      sorted = back _ _ sorted;
    }

-- a later entry is the first of what is left
head_left : (m : KeyDigests) (path : List ℕ) (b : Option (List ℕ)) (k : List ℕ) (ys later : List PageEntry) → entries (keys_after m path b) ≡ ys ++ later → StartsAfter k ys → (ys ≡ [] → later ≡ []) → HeadIs m path b k None (ys ++ later)
head_left m path b k [] later is starts ended =
    let none = ended refl in
    record { is = is; after = subst (λ ys. T (below_all (slice_cmp nat_cmp) k ys)) (sym none) tt; sorted = subst (λ ys. T (is_sorted (slice_cmp nat_cmp) ys)) (sym none) tt }
head_left m path b k (f ∷ ys) later is starts ended =
    let sorted : T (is_sorted (slice_cmp nat_cmp) (f ∷ (ys ++ later))) = subst (λ zs. T (is_sorted (slice_cmp nat_cmp) zs)) is (entries_sorted (keys_after m path b)) in
    record {
      is = is;
      after = both _ _ (subst (λ o. T (is_lt o)) (sym starts) tt) (below_later k f.0 (ys ++ later) starts (front _ _ sorted));
      sorted = sorted;
    }

kept_by_and : {X : Type 0} (a b : Bool) (o : Option X) (x : X) → cond (a && b) o None ≡ Some x → IsTrue a × (b ≡ true)
kept_by_and true true o x e = (refl, refl)
kept_by_and true false o x e = absurd (cc)
kept_by_and false b o x e = absurd (cc)

-- a key that is left stands under the path, after b
head_where : (m : KeyDigests) (path : List ℕ) (b : Option (List ℕ)) (k : List ℕ) (digest : List ℕ) (t : List PageEntry) → HeadIs m path b k (Some digest) t → IsTrue (is_under path k) × (is_after b k ≡ true)
head_where m path b k digest t head =
    kept_by_and (is_under path k) (is_after b k) (get m k) digest
    (sym (get-rest m path b k) ∙ found_rest m path b k (Some digest) t head k ∙ found_at_head k (Some digest) t head.after)

-- both sides, as the next key is taken
pub record Heads (m n : KeyDigests) (path : List ℕ) (b : Option (List ℕ)) (k : List ℕ) (has has' differs : Bool) (t u : List PageEntry) : Type 0 where
  pub first : Option (List ℕ)
  pub second : Option (List ℕ)
  pub mine : HeadIs m path b k first t
  pub theirs : HeadIs n path b k second u
  pub no_first : has ≡ false → first ≡ None
  pub no_second : has' ≡ false → second ≡ None
  pub differ : IsTrue differs → first ≢ second
  pub same : differs ≡ false → first ≡ second
  pub below : IsTrue (is_under path k)
  pub next : is_after b k ≡ true

stable : (xs ys : List ℕ) → ((xs ≡ ys → ⊥) → ⊥) → xs ≡ ys
stable xs ys h =
    elim (pointwise nat_eq xs ys) as (λ b. pointwise nat_eq xs ys ≡ b → xs ≡ ys) [
      | true ↦ λ e. (bytes_eq-Decides xs ys).0 e
      | false ↦ λ e. absurd (h (λ s. let t : pointwise nat_eq xs ys ≡ true = (bytes_eq-Decides xs ys).1 s in cc))
    ] refl

pub heads : (m n : KeyDigests) (path : List ℕ) (b : Option (List ℕ)) (e : Entry) (xs ys xs' ys' : List PageEntry) (more more' : Bool)
    → (p : IsListing m path b xs more) → (q : IsListing n path b ys more') → (xs ≡ [] → more ≡ false) → (ys ≡ [] → more' ≡ false)
    → TakesLesser (two xs ys) e (two xs' ys') → Heads m n path b e.key e.mine e.theirs e.differs (xs' ++ p.later) (ys' ++ q.later)
heads m n path b e xs ys xs' ys' more more' p q ended ended' (of_first x is same key mine_is theirs_is sure starts) =
    let mine = head_taken m path b e.key xs xs' p.later x p.is is key in
    let theirs = head_left n path b e.key ys q.later q.is starts (λ none. q.ended (ended' none)) in
    let at = head_where m path b e.key x.1 (xs' ++ p.later) mine in
    record {
      first = Some x.1;
      second = None;
      mine = mine;
      theirs = subst (λ zs. HeadIs n path b e.key None (zs ++ q.later)) same theirs;
      no_first = λ no. absurd (true≢false (sym mine_is ∙ no));
      no_second = λ _. refl;
      differ = λ _ h. absurd (cc);
      same = λ never. absurd (cc);
      below = at.0;
      next = at.1;
    }
heads m n path b e xs ys xs' ys' more more' p q ended ended' (of_second y same is key mine_is theirs_is sure starts) =
    let mine = head_left m path b e.key xs p.later p.is starts (λ none. p.ended (ended none)) in
    let theirs = head_taken n path b e.key ys ys' q.later y q.is is key in
    let at = head_where n path b e.key y.1 (ys' ++ q.later) theirs in
    record {
      first = None;
      second = Some y.1;
      theirs = theirs;
      mine = subst (λ zs. HeadIs m path b e.key None (zs ++ p.later)) same mine;
      no_first = λ _. refl;
      no_second = λ no. absurd (true≢false (sym theirs_is ∙ no));
      differ = λ _ h. absurd (cc);
      same = λ never. absurd (cc);
      below = at.0;
      next = at.1;
    }
heads m n path b e xs ys xs' ys' more more' p q ended ended' (of_both x y is is' key key' mine_is theirs_is h) =
    let mine = head_taken m path b e.key xs xs' p.later x p.is is key in
    let theirs = head_taken n path b e.key ys ys' q.later y q.is is' key' in
    let at = head_where m path b e.key x.1 (xs' ++ p.later) mine in
    record {
      first = Some x.1;
      second = Some y.1;
      mine = mine;
      theirs = theirs;
      no_first = λ no. absurd (true≢false (sym mine_is ∙ no));
      no_second = λ no. absurd (true≢false (sym theirs_is ∙ no));
      differ = λ sure s. h.0 sure (cc);
      same = λ never. ap Some (stable x.1 y.1 (λ other. let sure : e.differs ≡ true = h.1 other in cc));
      below = at.0;
      next = at.1;
    }
