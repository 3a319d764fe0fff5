-- What is told of indexes, views and keys is not too long, and is refused only for want of an index, a view or memory.
use Rattle.std.proofs.Common.{◌≡◌, ◌≢◌, ℕ, ℤ, zero, suc, ◌≤◌, Bool, true, false, cond, if◌then◌else◌, List, [], ◌∷◌, ◌++◌, take, length, map, ◌&&◌, Option, Some, None, IfSome, Result, Ok, Err, refl, sym, ap, ◌∙◌, subst, arith}
use Rattle.std.specs.Prelude.{filter, filter_map, flat_map, option_map, option_and_then}
use Rattle.std.proofs.lemmas.Bool.{leb-true}
use Rattle.std.proofs.lemmas.List.{length-map, length-take}
use Rattle.std.proofs.lemmas.List.Sums.{count_by-le-length, length-filter}
use Rattle.std.proofs.lemmas.List.Concat.{flat_map-cons}
use Rattle.std.specs.List.{AllByRecursion}
use Rattle.std.specs.declared.cmp.Ordering.{Ordering}
use Rattle.std.specs.Ordering.{eq_by_cmp}
use Rattle.std.specs.Cmp.{Equal-is, IsTotalOrder}
use Rattle.std.specs.FinMap.{IsAntisymmetric, entries, find, from_entries, get, get-from_entries, keys, len, len-entries}
use Rattle.serde_json.specs.Data.{Data, null, boolean, number, string, array, object}
use Rattle.serde_json.specs.Find.{as_i64}
use Rattle.mvd_docs.specs.Document.{member_of, term_of}
use Rattle.mvd_docs.specs.Term.{term_cmp, term_of_data}
use Rattle.mvd_docs.specs.TermText.{is_term_text}
use Rattle.mvd_docs.specs.declared.term.Term.{Term}
use Rattle.mvd_docs.specs.declared.term.Term.TheVariants.{Whole, Text}
use Rattle.mvd_docs.proofs.TermOrder.{term_cmp_total, term_cmp-IsAntisymmetric}
use Rattle.mvd_dots.specs.Dot.{DotValue}
use Rattle.mvd_dots.specs.declared.refusals.Refusal.{Refusal}
use Rattle.mvd_dots.specs.declared.refusals.Refusal.TheVariants.{Broken, Memory, NoIndex, NoView}
use Rattle.mvd_keys.specs.Key.{is_key}
use Rattle.mvd_keys.specs.State.{State, Text as Document}
use Rattle.mvd_keys.specs.Writes.{Key}
use Rattle.mvd_keys.specs.declared.places.Place.{Place}
use Rattle.mvd_keys.proofs.KeyOrder.{key_total}
use Rattle.mvd_keys.proofs.PlaceOrder.{place_antisymmetric, place_total}
use Rattle.mvd_rows.specs.Answers.{find_answer, group_of, groups_in, is_place_after, is_after_place, is_after_term, is_between, page_of, place_at, place_of, places_in, range_answer, row_answer, row_of_view, rows_answer, rows_of_view, shown, view_in, view_named}
use Rattle.mvd_rows.specs.Defs.{Definitions, has_index}
use Rattle.mvd_rows.specs.Marks.{spots_exact, spots_total}
use Rattle.mvd_rows.specs.Siblings.{begins_with, conflicts_answer, conflicts_in, is_after_key, is_conflict, keys_answer, sibling_count, sibling_counts}
use Rattle.mvd_rows.specs.Views.{row_of}
use Rattle.mvd_rows.specs.Visible.{Visible, siblings_at, spot, visible_in}
use Rattle.mvd_rows.specs.declared.definitions.ViewDef.{ViewDef}
use Rattle.mvd_rows.specs.declared.marks.Spot.{Spot}
use Rattle.mvd_tree.proofs.KeyDigests.{Each, got_each}
use Rattle.mvd_wire.proofs.SentPages.{IsShortPlace, IsShortTerm}
use Rattle.mvd_kept.specs.Held.{AreHeld, States}

-- ---- what holds of each of a list

module _ {X : Type 0} (P : X → Type 0) where
  each_of_both : (xs ys : List X) → AllByRecursion P xs → AllByRecursion P ys → AllByRecursion P (xs ++ ys)
  each_of_both [] ys first second = second
  each_of_both (x ∷ xs) ys first second = (first.0, each_of_both xs ys first.1 second)

  each_taken : (n : ℕ) (xs : List X) → AllByRecursion P xs → AllByRecursion P (take n xs)
  each_taken zero xs all = tt
  each_taken (suc n) [] all = tt
  each_taken (suc n) (x ∷ xs) all = (all.0, each_taken n xs all.1)

  each_kept : (p : X → Bool) (xs : List X) → AllByRecursion P xs → AllByRecursion P (filter p xs)
  each_kept p [] all = tt
  each_kept p (x ∷ xs) all =
      elim (p x) as (λ b. AllByRecursion P (cond b (x ∷ filter p xs) (filter p xs))) [
        | true ↦ (all.0, each_kept p xs all.1)
        | false ↦ each_kept p xs all.1
      ]

-- ---- what holds of the keys of entries, holds of those of their map

module _ {K X : Type 0} {R : K → K → Ordering} (total : IsTotalOrder R) (exact : IsAntisymmetric R) (P : K → Type 0) where
  found_key : (es : List (K × X)) (k : K) (x : X) → AllByRecursion (λ e. P e.0) es → find R k es ≡ Some x → P k
  found_key [] k x all found = cc
  found_key (e ∷ es) k x all found =
      elim (eq_by_cmp R k e.0) as (λ b. eq_by_cmp R k e.0 ≡ b → cond b (Some e.1) (find R k es) ≡ Some x → P k) [
        | true ↦ λ tied _. subst P (sym (exact k e.0 ((Equal-is _).0 tied))) all.0
        | false ↦ λ _ rest. found_key es k x all.1 rest
      ] refl found

  got_keys : (es fs : List (K × X)) → AllByRecursion (λ e. P e.0) es → Each (λ e. get (from_entries {R = R} es) e.0 ≡ Some e.1) fs → AllByRecursion (λ e. P e.0) fs
  got_keys es [] all got = tt
  got_keys es (f ∷ fs) all got = (found_key es f.0 f.1 all (sym (get-from_entries total es f.0) ∙ got.0), got_keys es fs all got.1)

  each_entry : (es : List (K × X)) → AllByRecursion (λ e. P e.0) es → AllByRecursion (λ e. P e.0) (entries (from_entries {R = R} es))
  each_entry es all = got_keys es (entries (from_entries {R = R} es)) all (got_each total (from_entries {R = R} es))

  each_first : (es : List (K × X)) → AllByRecursion (λ e. P e.0) es → AllByRecursion P (map (λ e. e.0) es)
  each_first [] all = tt
  each_first (e ∷ es) all = (all.0, each_first es all.1)

  each_key : (es : List (K × X)) → AllByRecursion (λ e. P e.0) es → AllByRecursion P (keys (from_entries {R = R} es))
  each_key es all = each_first (entries (from_entries {R = R} es)) (each_entry es all)

-- ---- terms of documents are short

short_text : (s : List ℕ) (t : Term) → (if is_term_text s then Some (Text s) else None) ≡ Some t → IsShortTerm t
short_text s t found =
    elim (is_term_text s) as (λ b. is_term_text s ≡ b → (if b then Some (Text s) else None) ≡ Some t → IsShortTerm t) [
      | true ↦ λ short is. subst (λ o. IfSome o IsShortTerm) is (leb-true _ _ short)
      | false ↦ λ _ is. cc
    ] refl found

short_data : (d : Data) (t : Term) → term_of_data d ≡ Some t → IsShortTerm t
short_data null t found = subst (λ o. IfSome o IsShortTerm) found tt
short_data (boolean true) t found = subst (λ o. IfSome o IsShortTerm) found tt
short_data (boolean false) t found = subst (λ o. IfSome o IsShortTerm) found tt
short_data (number n) t found =
    elim (as_i64 n) as (λ o. option_map Whole o ≡ Some t → IsShortTerm t) [
      | Some z ↦ λ is. subst (λ o. IfSome o IsShortTerm) is tt
      | None ↦ λ is. cc
    ] found
short_data (string s) t found = short_text s t found
short_data (array ds) t found = cc
short_data (object ms) t found = cc

short_term_of : (field document : List ℕ) (t : Term) → term_of field document ≡ Some t → IsShortTerm t
unfolding term_of
short_term_of field document t found =
    elim (member_of field document) as (λ o. option_and_then term_of_data o ≡ Some t → IsShortTerm t) [
      | Some d ↦ λ is. short_data d t is
      | None ↦ λ is. cc
    ] found

-- ---- what is visible stands at keys

abbrev IsAtKey : Spot → Type 0
IsAtKey s = is_key s.key ≡ true

siblings_at_key : (key : Key) (es : List (DotValue × Document)) → is_key key ≡ true → AllByRecursion (λ (e : Spot × Document). IsAtKey e.0) (map (λ e. (spot key e.0, e.1)) es)
siblings_at_key key [] is = tt
siblings_at_key key (e ∷ es) is = (is, siblings_at_key key es is)

all_at_keys : (es : List (Key × State)) → AllByRecursion (λ (e : Key × State). is_key e.0 ≡ true) es → AllByRecursion (λ (e : Spot × Document). IsAtKey e.0) (flat_map (λ e. siblings_at e.0 e.1.siblings) es)
all_at_keys [] all = tt
all_at_keys (e ∷ es) all = subst (AllByRecursion (λ (x : Spot × Document). IsAtKey x.0)) (sym (flat_map-cons (λ (x : Key × State). siblings_at x.0 x.1.siblings) e es))
    (each_of_both (λ (x : Spot × Document). IsAtKey x.0) (siblings_at e.0 e.1.siblings) (flat_map (λ e. siblings_at e.0 e.1.siblings) es) (siblings_at_key e.0 (entries e.1.siblings) all.0) (all_at_keys es all.1))

held_keys : (states : States) → AreHeld states → (es : List (Key × State)) → Each (λ e. get states e.0 ≡ Some e.1) es → AllByRecursion (λ (e : Key × State). is_key e.0 ≡ true) es
held_keys states kept [] got = tt
held_keys states kept (e ∷ es) got = (kept.key e.0 e.1 got.0, held_keys states kept es got.1)

visible_at_keys : (states : States) → AreHeld states → AllByRecursion (λ (e : Spot × Document). IsAtKey e.0) (entries (visible_in states))
unfolding visible_in
visible_at_keys states kept = each_entry spots_total spots_exact IsAtKey _ (all_at_keys (entries states) (held_keys states kept (entries states) (got_each key_total states)))

-- ---- places

place_is_short : (field : List ℕ) (e : Spot × Document) (p : Place × Unit {0}) → IsAtKey e.0 → place_of field e ≡ Some p → IsShortPlace p.0
place_is_short field e p at found =
    elim (term_of field e.1) as (λ o. term_of field e.1 ≡ o → option_map (λ term. (place_at e.0 term, tt)) o ≡ Some p → IsShortPlace p.0) [
      | Some t ↦ λ is gives. subst (λ o. IfSome o (λ p. IsShortPlace p.0)) gives (record { term = short_term_of field e.1 t is; key = at })
      | None ↦ λ _ gives. cc
    ] refl found

short_places : (field : List ℕ) (es : List (Spot × Document)) → AllByRecursion (λ (e : Spot × Document). IsAtKey e.0) es → AllByRecursion (λ p. IsShortPlace p.0) (filter_map (place_of field) es)
short_places field [] all = tt
short_places field (e ∷ es) all =
    elim (place_of field e) as (λ o. place_of field e ≡ o → AllByRecursion (λ p. IsShortPlace p.0) (filter_map (place_of field) (e ∷ es))) [
      | Some p ↦ λ is. rw is (place_is_short field e p all.0 is, short_places field es all.1)
      | None ↦ λ is. rw is (short_places field es all.1)
    ] refl

places_are_short : (states : States) → AreHeld states → (field : List ℕ) → AllByRecursion IsShortPlace (places_in field (visible_in states))
unfolding places_in
places_are_short states kept field = each_key place_total place_antisymmetric IsShortPlace _ (short_places field (entries (visible_in states)) (visible_at_keys states kept))

-- ---- groups

group_is_short : (field : List ℕ) (e : Spot × Document) (g : Term × Unit {0}) → group_of field e ≡ Some g → IsShortTerm g.0
group_is_short field e g found =
    elim (term_of field e.1) as (λ o. term_of field e.1 ≡ o → option_map (λ term. (term, tt)) o ≡ Some g → IsShortTerm g.0) [
      | Some t ↦ λ is gives. subst (λ o. IfSome o (λ g. IsShortTerm g.0)) gives (short_term_of field e.1 t is)
      | None ↦ λ _ gives. cc
    ] refl found

short_groups : (field : List ℕ) (es : List (Spot × Document)) → AllByRecursion (λ g. IsShortTerm g.0) (filter_map (group_of field) es)
short_groups field [] = tt
short_groups field (e ∷ es) =
    elim (group_of field e) as (λ o. group_of field e ≡ o → AllByRecursion (λ g. IsShortTerm g.0) (filter_map (group_of field) (e ∷ es))) [
      | Some g ↦ λ is. rw is (group_is_short field e g is, short_groups field es)
      | None ↦ λ is. rw is (short_groups field es)
    ] refl

groups_are_short : (field : List ℕ) (visible : Visible) → AllByRecursion IsShortTerm (groups_in field visible)
unfolding groups_in
groups_are_short field visible = each_key term_cmp_total term_cmp-IsAntisymmetric IsShortTerm _ (short_groups field (entries visible))

-- ---- answers

-- a page of what is short
pub record IsShortPage {X : Type 0} (P : X → Type 0) (page : List X) : Type 0 where
  pub each : AllByRecursion P page
  pub few : length page ≤ 1000

page_is_short : {X : Type 0} (P : X → Type 0) (test : X → Bool) (all page : List X) (more : Bool) → AllByRecursion P all → page_of (filter test all) ≡ (page, more) → IsShortPage P page
page_is_short P test all page more each is =
    let first : take 1000 (filter test all) ≡ page = ap (λ p. p.0) is in
    record {
      each = subst (AllByRecursion P) first (each_taken P 1000 (filter test all) (each_kept P test all each));
      few = subst (λ l. length l ≤ 1000) first (subst (λ n. n ≤ 1000) (sym (length-take 1000 (filter test all))) (omega arith));
    }

ok_is : {X Y : Type 0} (x y : X) → ◌≡◌ {A = Result X Y} (Ok x) (Ok y) → x ≡ y
ok_is x y e = cc

pub found_page : (defs : Definitions) (states : States) (field : List ℕ) (term : Term) (after : Option (Key × DotValue)) (page : List Place) (more : Bool) → AreHeld states → find_answer defs (visible_in states) field term after ≡ Ok (page, more) → IsShortPage IsShortPlace page
found_page defs states field term after page more kept is =
    elim (has_index defs.indexes field) as (λ b. (if b then Ok (page_of (filter (λ p. eq_by_cmp term_cmp term p.term && is_place_after after p) (places_in field (visible_in states)))) else Err NoIndex) ≡ Ok (page, more) → IsShortPage IsShortPlace page) [
      | true ↦ λ e. page_is_short IsShortPlace (λ p. eq_by_cmp term_cmp term p.term && is_place_after after p) (places_in field (visible_in states)) page more (places_are_short states kept field) (ok_is _ _ e)
      | false ↦ λ e. cc
    ] is

pub ranged_page : (defs : Definitions) (states : States) (field : List ℕ) (from to : Term) (after : Option Place) (page : List Place) (more : Bool) → AreHeld states → range_answer defs (visible_in states) field from to after ≡ Ok (page, more) → IsShortPage IsShortPlace page
ranged_page defs states field from to after page more kept is =
    elim (has_index defs.indexes field) as (λ b. (if b then Ok (page_of (filter (λ p. is_between from to p.term && is_after_place after p) (places_in field (visible_in states)))) else Err NoIndex) ≡ Ok (page, more) → IsShortPage IsShortPlace page) [
      | true ↦ λ e. page_is_short IsShortPlace (λ p. is_between from to p.term && is_after_place after p) (places_in field (visible_in states)) page more (places_are_short states kept field) (ok_is _ _ e)
      | false ↦ λ e. cc
    ] is

short_shown : (view : ViewDef) (visible : Visible) (terms : List Term) → AllByRecursion IsShortTerm terms → AllByRecursion (λ r. IsShortTerm r.0) (map (λ term. shown term (row_of view.group view.sum term visible)) terms)
short_shown view visible [] all = tt
short_shown view visible (t ∷ terms) all = (all.0, short_shown view visible terms all.1)

pub rows_page : (defs : Definitions) (visible : Visible) (name : List ℕ) (after : Option Term) (page : List (Term × ℕ × ℤ × Option (ℤ × ℤ))) (more : Bool) → rows_answer defs visible name after ≡ Ok (page, more) → IsShortPage (λ r. IsShortTerm r.0) page
rows_page defs visible name after page more is =
    elim (view_named defs.views name) as (λ v. rows_of_view visible after v ≡ Ok (page, more) → IsShortPage (λ r. IsShortTerm r.0) page) [
      | Some v ↦ λ e. page_is_short (λ r. IsShortTerm r.0) (λ r. is_after_term after r.0) (view_in v visible) page more (short_shown v visible (groups_in v.group visible) (groups_are_short v.group visible)) (ok_is _ _ e)
      | None ↦ λ e. cc
    ] is

-- ---- keys

abbrev IsOfKey : Key × ℕ → Type 0
IsOfKey c = is_key c.0 ≡ true

counts_of_keys : (es : List (Key × State)) → AllByRecursion (λ (e : Key × State). is_key e.0 ≡ true) es → AllByRecursion IsOfKey (map sibling_count es)
counts_of_keys [] all = tt
counts_of_keys (e ∷ es) all = (all.0, counts_of_keys es all.1)

counted_keys : (states : States) → AreHeld states → AllByRecursion IsOfKey (sibling_counts states)
unfolding sibling_counts
counted_keys states kept = counts_of_keys (entries states) (held_keys states kept (entries states) (got_each key_total states))

conflicting_keys : (states : States) → AreHeld states → AllByRecursion IsOfKey (conflicts_in states)
unfolding conflicts_in
conflicting_keys states kept = each_kept IsOfKey (λ c. is_conflict c.1) (sibling_counts states) (counted_keys states kept)

pub keys_page : (states : States) (prefix : List ℕ) (after : Option Key) (page : List (Key × ℕ)) (more : Bool) → AreHeld states → keys_answer states prefix after ≡ (page, more) → IsShortPage IsOfKey page
keys_page states prefix after page more kept is =
    page_is_short IsOfKey (λ c. begins_with prefix c.0 && is_after_key after c.0) (sibling_counts states) page more (counted_keys states kept) is

pub conflicts_page : (states : States) (after : Option Key) (page : List (Key × ℕ)) (more : Bool) → AreHeld states → conflicts_answer states after ≡ (page, more) → IsShortPage IsOfKey page
conflicts_page states after page more kept is = page_is_short IsOfKey (λ c. is_after_key after c.0) (conflicts_in states) page more (conflicting_keys states kept) is

-- no more keys are in conflict than are held
pub few_conflicts : (states : States) → length (conflicts_in states) ≤ len states
unfolding conflicts_in sibling_counts
few_conflicts states =
    let few = count_by-le-length (λ (c : Key × ℕ). is_conflict c.1) (sibling_counts states) in
    let kept = length-filter (λ (c : Key × ℕ). is_conflict c.1) (sibling_counts states) in
    let all = length-map (entries states) sibling_count in
    let held = len-entries states in
    omega (arith, few, kept, all, held)

-- ---- refusals

pub find_refuses : (defs : Definitions) (visible : Visible) (field : List ℕ) (term : Term) (after : Option (Key × DotValue)) (refusal : Refusal) → refusal ≢ NoIndex → find_answer defs visible field term after ≢ Err refusal
find_refuses defs visible field term after refusal other is =
    elim (has_index defs.indexes field) as (λ b. (if b then Ok (page_of (filter (λ p. eq_by_cmp term_cmp term p.term && is_place_after after p) (places_in field visible))) else Err NoIndex) ≡ Err refusal → ⊥) [
      | true ↦ λ e. cc
      | false ↦ λ e. other (cc)
    ] is

pub range_refuses : (defs : Definitions) (visible : Visible) (field : List ℕ) (from to : Term) (after : Option Place) (refusal : Refusal) → refusal ≢ NoIndex → range_answer defs visible field from to after ≢ Err refusal
range_refuses defs visible field from to after refusal other is =
    elim (has_index defs.indexes field) as (λ b. (if b then Ok (page_of (filter (λ p. is_between from to p.term && is_after_place after p) (places_in field visible))) else Err NoIndex) ≡ Err refusal → ⊥) [
      | true ↦ λ e. cc
      | false ↦ λ e. other (cc)
    ] is

pub row_refuses : (defs : Definitions) (visible : Visible) (name : List ℕ) (term : Term) (refusal : Refusal) → refusal ≢ NoView → row_answer defs visible name term ≢ Err refusal
row_refuses defs visible name term refusal other is =
    elim (view_named defs.views name) as (λ v. row_of_view visible term v ≡ Err refusal → ⊥) [
      | Some v ↦ λ e. cc
      | None ↦ λ e. other (cc)
    ] is

pub rows_refuses : (defs : Definitions) (visible : Visible) (name : List ℕ) (after : Option Term) (refusal : Refusal) → refusal ≢ NoView → rows_answer defs visible name after ≢ Err refusal
rows_refuses defs visible name after refusal other is =
    elim (view_named defs.views name) as (λ v. rows_of_view visible after v ≡ Err refusal → ⊥) [
      | Some v ↦ λ e. cc
      | None ↦ λ e. other (cc)
    ] is

-- what may be refused for memory, or for what is not broken, is not broken
pub never_broken : {X : Type 0} (refusal : Refusal) (answer : Result X Refusal) → answer ≢ Err Broken → (refusal ≢ Memory → answer ≡ Err refusal) → refusal ≢ Broken
never_broken refusal answer not_broken refused broken = not_broken (refused (λ memory. cc) ∙ ap Err broken)
