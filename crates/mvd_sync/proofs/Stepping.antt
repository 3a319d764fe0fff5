-- What a session asks of a side at once, and what is read of the answers.
use Rattle.std.proofs.Common.{◌≡◌, ◌≢◌, ℕ, suc, ◌≤◌, Bool, true, false, cond, List, [], ◌∷◌, length, take, drop, min, refl, sym, ap, ◌∙◌, arith, Option, Some, None, inl, inr}
use Rattle.std.specs.Prelude.{Result, Ok, Vec, sum_by}
use Rattle.std.specs.declared.alloc.Global.{Global}
use Rattle.std.proofs.Math.Seq.{take-nil}
use Rattle.std.proofs.lemmas.Bool.{cases_lt}
use Rattle.std.proofs.lemmas.List.{length-map, length-take, take-append-drop, take_all}
use Rattle.std.proofs.lemmas.List.Sums.{sum_by-append}
use Rattle.mvd_dots.specs.declared.refusals.Refusal.{Refusal}
use Rattle.mvd_keys.specs.State.{State}
use Rattle.mvd_keys.specs.Writes.{Key}
use Rattle.mvd_peer.specs.Windows.{ForEach}
use Rattle.mvd_peer.specs.Asking.{PageQuestion, only_gets, only_nodes, only_pages, only_pushes}
use Rattle.mvd_sync.specs.Meetings.{held_keys, is_held}
use Rattle.mvd_sync.specs.Made.{PassesFault}
use Rattle.mvd_sync.specs.Questions.{IsWindow, push_bytes}
use Rattle.mvd_sync.specs.Steps.{AreSmall, cut_wanted}
use Rattle.mvd_sync.specs.Tellings.{IsRead}
use Rattle.mvd_sync.specs.Walking.{Walking, first_page, is_asked, pages_next, pages_of}
use Rattle.mvd_sync.specs.declared.cursor.Entry.{Entry}
use Rattle.mvd_sync.specs.declared.report.Side.{Side}
use Rattle.mvd_sync.specs.declared.telling.Share.{Share}
use Rattle.mvd_sync.specs.declared.walking.Bucket.{Bucket}
use Rattle.mvd_sync.proofs.Stages.{held_one}

-- ---- as many as are left

take_least : {X : Type 0} (left count : ℕ) (xs : List X) → count ≡ min left (length xs) → take count xs ≡ take left xs
take_least left count xs e = elim (cases_lt left (length xs)) [
  | inl less ↦ ap (λ k. take k xs) (omega (arith, e, less))
  | inr more ↦ take_all count xs (omega (arith, e, more)) ∙ sym (take_all left xs more)
]

pub cut_nodes : (left count : ℕ) (xs ys : List (List ℕ)) → count ≡ min left (length xs) → ys ≡ take count xs → only_nodes ys ≡ cut_wanted left (only_nodes xs)
cut_nodes left count xs ys e is = λ i. record { nodes = (is ∙ take_least left count xs e) i; pages = sym (take-nil left) i; gets = sym (take-nil left) i; pushes = sym (take-nil left) i }

pub cut_pages : (left count : ℕ) (xs ys : List PageQuestion) → count ≡ min left (length xs) → ys ≡ take count xs → only_pages ys ≡ cut_wanted left (only_pages xs)
cut_pages left count xs ys e is = λ i. record { nodes = sym (take-nil left) i; pages = (is ∙ take_least left count xs e) i; gets = sym (take-nil left) i; pushes = sym (take-nil left) i }

pub cut_gets : (left count : ℕ) (xs ys : List Key) → count ≡ min left (length xs) → ys ≡ take count xs → only_gets ys ≡ cut_wanted left (only_gets xs)
cut_gets left count xs ys e is = λ i. record { nodes = sym (take-nil left) i; pages = sym (take-nil left) i; gets = (is ∙ take_least left count xs e) i; pushes = sym (take-nil left) i }

pub cut_pushes : (left count : ℕ) (xs ys : List (Key × State)) → count ≡ min left (length xs) → ys ≡ take count xs → only_pushes ys ≡ cut_wanted left (only_pushes xs)
cut_pushes left count xs ys e is = λ i. record { nodes = sym (take-nil left) i; pages = sym (take-nil left) i; gets = sym (take-nil left) i; pushes = (is ∙ take_least left count xs e) i }

-- ---- and not too many

-- the first of some, of which there is one at least
pub few_first : {X : Type 0} (left count most : ℕ) (xs ys : List X) → count ≡ min left (length xs) → count ≢ 0 → length xs ≤ most → ys ≡ take count xs → (1 ≤ length ys) × (length ys ≤ most)
few_first left count most xs ys e some low is =
    let n = ap length is in
    let m = length-take count xs in
    (omega (arith, n, m, e, some, low), omega (arith, n, m, e, some, low))

sum_first : {X : Type 0} (f : X → ℕ) (n : ℕ) (xs : List X) → sum_by f (take n xs) ≤ sum_by f xs
sum_first f n xs =
    let a = sum_by-append f (take n xs) (drop n xs) in
    let b = ap (sum_by f) (take-append-drop n xs) in
    omega (arith, a, b)

pub small_first : (left count : ℕ) (xs ys : List (Key × State)) → count ≡ min left (length xs) → count ≢ 0 → AreSmall xs → ys ≡ take count xs → (1 ≤ length ys) × AreSmall ys
small_first left count xs ys e some small is =
    let n = ap length is in
    let m = length-take count xs in
    let b = ap (sum_by push_bytes) is in
    let s = sum_first push_bytes count xs in
    (omega (arith, n, m, e, some), λ more. let h = small (omega (arith, n, m, e, more)) in omega (arith, b, s, h))

-- the pushes that are next, if it is the side's turn
pub own_small : (is_own : Bool) (count : ℕ) (pairs : List (Key × State)) → IsWindow pairs count → AreSmall (cond is_own (take count pairs) [])
own_small true count pairs w = λ more. let n = length-take count pairs in w.small (omega (arith, n, more))
own_small false count pairs w = λ more. absurd (omega (arith, more))

pages_next_few : (b : Option Bucket) (e : Option Entry) (rest : List (List ℕ)) → length (pages_next b e rest) ≤ 64
pages_next_few None e rest = let n = length-map (take 64 rest) first_page in let m = length-take 64 rest in omega (arith, n, m)
pages_next_few (Some b) None rest = omega arith
pages_next_few (Some b) (Some e) rest = omega arith

cond_few : {X : Type 0} (b : Bool) (xs : List X) → length xs ≤ 64 → length (cond b xs []) ≤ 64
cond_few true xs low = low
cond_few false xs low = omega arith

pub pages_few : (side : Side) (walk : Walking) → length (pages_of side walk) ≤ 64
pages_few side walk = cond_few (is_asked side walk.bucket) (pages_next walk.bucket walk.entry walk.rest) (pages_next_few walk.bucket walk.entry walk.rest)

-- ---- what is read

each_long : {A B : Type 0} (P : A → B → Type 0) (qs : List A) (bs : List B) → ForEach P qs bs → length bs ≡ length qs
each_long P [] [] h = refl
each_long P [] (b ∷ bs) h = absurd h
each_long P (q ∷ qs) [] h = absurd h
each_long P (q ∷ qs) (b ∷ bs) h = ap suc (each_long P qs bs h.1)

-- as many are read as were wanted
pub read_long : {A B : Type 0} (IsOf : A → B → Type 0) (IsNone : A → Type 0) (told : Result (List (Result A Refusal)) Refusal) (share : Share) (read : Vec B Global) → IsRead IsOf IsNone told share (Ok read)
    → share.asked ≤ share.wanted → length read.items ≡ share.wanted
read_long IsOf IsNone told share read h low =
    let n = each_long (PassesFault IsOf) h.answers read.items h.each in
    let c = h.counted in
    let w = h.whole in
    omega (arith, n, c, w, low)

cond_one : (b : Bool) → cond b 1 0 ≤ 1
cond_one true = omega arith
cond_one false = omega arith

-- a side holds no more of the keys than there are
pub held_few : (side : Side) (es : List Entry) → length (held_keys side es) ≤ length es
held_few side [] = omega arith
held_few side (e ∷ es) =
    let one = held_one side e es in
    let rest = held_few side es in
    let most = cond_one (is_held side e) in
    omega (arith, one, rest, most)
