-- Joins of valid states: order, grouping and repeats do not matter.
use Rattle.std.specs.Prelude.{bytes_eq}
use Rattle.std.proofs.Common.{◌≡◌, Bool, true, false, not, ◌||◌, List, [], ◌++◌, Option, Some, None, is_some, refl, sym, ap, ◌∙◌, true≢false, append_assoc}
use Rattle.std.specs.FinMap.{get, keys, contains_key-keys, get-empty}
use Rattle.std.specs.FinSet.{contains, contains-empty}
use Rattle.std.proofs.lemmas.Slice.Eq.{bytes_eq-Decides}
use Rattle.mvd_dots.specs.Dot.{DotValue, dot_cmp}
use Rattle.mvd_keys.specs.State.{IsValid, State, Text, clashes, differ, empty_state, join}
use Rattle.mvd_keys.specs.Writes.{Write, state, writes_for}
use Rattle.mvd_keys.proofs.StatesOfWrites.{get-join, join_at, contains-join, same_state, join-state}
use Rattle.mvd_keys.proofs.Sets.{never, same_document, state-writes_for}
use Rattle.mvd_keys.proofs.Lists.{any_tied}

-- ---- at one dot

some_differ : (f g : Option Text) → differ f g ≡ true → is_some f ≡ true
some_differ None g h = absurd (true≢false (sym h))
some_differ (Some x) g h = refl

-- where two states do not clash, no dot has two documents
pub apart_at : (s t : State) → clashes s t ≡ false → (q : DotValue) → differ (get s.siblings q) (get t.siblings q) ≡ false
unfolding clashes
apart_at s t apart q =
    elim (differ (get s.siblings q) (get t.siblings q)) as (λ b. differ (get s.siblings q) (get t.siblings q) ≡ b → b ≡ false) [
      | true ↦ λ two. absurd (true≢false (sym (any_tied (λ d. differ (get s.siblings d) (get t.siblings d)) (keys s.siblings) q (sym (contains_key-keys s.siblings q) ∙ some_differ _ _ two) two) ∙ apart))
      | false ↦ λ _. refl
    ] refl

from_not : (b : Bool) → not b ≡ false → b ≡ true
from_not true h = refl
from_not false h = absurd (true≢false h)

one_text : (x y : Text) → not (bytes_eq x y) ≡ false → x ≡ y
one_text x y h = (bytes_eq-Decides x y).0 (from_not (bytes_eq x y) h)

commutes_at : (f g : Option Text) (c e : Bool) → (is_some f ≡ true → c ≡ true) → (is_some g ≡ true → e ≡ true) → differ f g ≡ false → join_at f c g e ≡ join_at g e f c
commutes_at None None true true p q apart = refl
commutes_at None None true false p q apart = refl
commutes_at None None false true p q apart = refl
commutes_at None None false false p q apart = refl
commutes_at None (Some y) true true p q apart = refl
commutes_at None (Some y) false true p q apart = refl
commutes_at None (Some y) c false p q apart = absurd (true≢false (sym (q refl)))
commutes_at (Some x) None true true p q apart = refl
commutes_at (Some x) None true false p q apart = refl
commutes_at (Some x) None false e p q apart = absurd (true≢false (sym (p refl)))
commutes_at (Some x) (Some y) true true p q apart = ap Some (one_text x y apart)
commutes_at (Some x) (Some y) true false p q apart = absurd (true≢false (sym (q refl)))
commutes_at (Some x) (Some y) false e p q apart = absurd (true≢false (sym (p refl)))

repeats_at : (f : Option Text) (c : Bool) → (is_some f ≡ true → c ≡ true) → join_at f c f c ≡ f
repeats_at None true p = refl
repeats_at None false p = refl
repeats_at (Some x) true p = refl
repeats_at (Some x) false p = absurd (true≢false (sym (p refl)))

or_swap : (a b : Bool) → (a || b) ≡ (b || a)
or_swap true true = refl
or_swap true false = refl
or_swap false true = refl
or_swap false false = refl

or_twice : (a : Bool) → (a || a) ≡ a
or_twice true = refl
or_twice false = refl

-- ---- the laws

pub join_commutes : (s t : State) → IsValid s → IsValid t → clashes s t ≡ false → join s t ≡ join t s
join_commutes s t p q apart = same_state _ _
    (λ d. get-join s t d ∙ commutes_at (get s.siblings d) (get t.siblings d) (contains s.context d) (contains t.context d) (p.seen d) (q.seen d) (apart_at s t apart d) ∙ sym (get-join t s d))
    (λ d. contains-join s t d ∙ or_swap (contains s.context d) (contains t.context d) ∙ sym (contains-join t s d))

pub join_repeats : (s : State) → IsValid s → join s s ≡ s
join_repeats s p = same_state _ _
    (λ d. get-join s s d ∙ repeats_at (get s.siblings d) (contains s.context d) (p.seen d))
    (λ d. contains-join s s d ∙ or_twice (contains s.context d))

pub join_groups : (s t u : State) → IsValid s → IsValid t → IsValid u → join (join s t) u ≡ join s (join t u)
join_groups s t u p q r =
    let of : State → List Write = writes_for [] in
    let first : state [] (of s) ≡ s = state-writes_for [] s p in
    let second : state [] (of t) ≡ t = state-writes_for [] t q in
    let third : state [] (of u) ≡ u = state-writes_for [] u r in
    (λ i. join (join (sym first i) (sym second i)) (sym third i))
    ∙ ap (λ v. join v (state [] (of u))) (join-state [] (of s) (of t))
    ∙ join-state [] (of s ++ of t) (of u)
    ∙ ap (state []) (append_assoc (of s) (of t) (of u))
    ∙ sym (join-state [] (of s) (of t ++ of u))
    ∙ ap (join (state [] (of s))) (sym (join-state [] (of t) (of u)))
    ∙ (λ i. join (first i) (join (second i) (third i)))

-- ---- a join once more

-- where no dot has two documents, the two do not clash
pub apart_of : (s t : State) → ((q : DotValue) → differ (get s.siblings q) (get t.siblings q) ≡ false) → clashes s t ≡ false
unfolding clashes
apart_of s t apart = never _ _ apart

differ_none : (f : Option Text) → differ f None ≡ false
differ_none None = refl
differ_none (Some x) = refl

turned_at : (f g : Option Text) → differ f g ≡ false → differ g f ≡ false
turned_at None g h = differ_none g
turned_at (Some x) None h = refl
turned_at (Some x) (Some y) h = same_document y x (sym (one_text x y h))

turned : (s t : State) → clashes s t ≡ false → clashes t s ≡ false
turned s t apart = apart_of t s (λ q. turned_at (get s.siblings q) (get t.siblings q) (apart_at s t apart q))

same_answer : (a b : Bool) → (a ≡ false → b ≡ false) → (b ≡ false → a ≡ false) → a ≡ b
same_answer true true there back = refl
same_answer true false there back = back refl
same_answer false b there back = sym (there refl)

pub clashes_turned : (s t : State) → clashes s t ≡ clashes t s
clashes_turned s t = same_answer _ _ (turned s t) (turned t s)

joined_at : (f g : Option Text) (c e : Bool) → differ f g ≡ false → differ (join_at f c g e) g ≡ false
joined_at f None c e h = differ_none (join_at f c None e)
joined_at None (Some y) true e h = refl
joined_at None (Some y) false e h = same_document y y refl
joined_at (Some x) (Some y) c e h = h

pub apart_joined : (s t : State) → clashes s t ≡ false → clashes (join s t) t ≡ false
apart_joined s t apart = apart_of (join s t) t (λ q.
    ap (λ f. differ f (get t.siblings q)) (get-join s t q)
    ∙ joined_at (get s.siblings q) (get t.siblings q) (contains s.context q) (contains t.context q) (apart_at s t apart q))

pub joined_apart : (s t : State) → clashes s t ≡ false → clashes t (join s t) ≡ false
joined_apart s t apart = turned (join s t) t (apart_joined s t apart)

pub join_again : (s t : State) → IsValid s → IsValid t → join (join s t) t ≡ join s t
join_again s t p q = join_groups s t t p q q ∙ ap (join s) (join_repeats t q)

pub join_back : (s t : State) → IsValid s → IsValid t → clashes s t ≡ false → join t (join s t) ≡ join s t
join_back s t p q apart =
    let swap : join s t ≡ join t s = join_commutes s t p q apart in
    ap (join t) swap ∙ sym (join_groups t t s q q p) ∙ ap (λ u. join u s) (join_repeats t q) ∙ sym swap

-- ---- joins with the empty state

left_at : (f : Option Text) (c : Bool) → join_at None false f c ≡ f
left_at None true = refl
left_at None false = refl
left_at (Some x) c = refl

right_at : (f : Option Text) (c : Bool) → join_at f c None false ≡ f
right_at None true = refl
right_at None false = refl
right_at (Some x) c = refl

or-false : (a : Bool) → (a || false) ≡ a
or-false true = refl
or-false false = refl

pub join_empty_left : (s : State) → join empty_state s ≡ s
join_empty_left s = same_state _ _
    (λ q. get-join empty_state s q ∙ (λ i. join_at (get-empty dot_cmp q i) (contains-empty dot_cmp q i) (get s.siblings q) (contains s.context q)) ∙ left_at (get s.siblings q) (contains s.context q))
    (λ q. contains-join empty_state s q ∙ ap (λ b. b || contains s.context q) (contains-empty dot_cmp q))

pub join_empty_right : (s : State) → join s empty_state ≡ s
join_empty_right s = same_state _ _
    (λ q. get-join s empty_state q ∙ (λ i. join_at (get s.siblings q) (contains s.context q) (get-empty dot_cmp q i) (contains-empty dot_cmp q i)) ∙ right_at (get s.siblings q) (contains s.context q))
    (λ q. contains-join s empty_state q ∙ ap (λ b. contains s.context q || b) (contains-empty dot_cmp q) ∙ or-false _)

pub empty_apart : (s : State) → clashes s empty_state ≡ false
empty_apart s = apart_of s empty_state (λ q. ap (differ (get s.siblings q)) (get-empty dot_cmp q) ∙ differ_none (get s.siblings q))

pub apart_empty : (s : State) → clashes empty_state s ≡ false
apart_empty s = turned s empty_state (empty_apart s)
