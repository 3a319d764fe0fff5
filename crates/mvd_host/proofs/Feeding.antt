-- What is noted, and what of it is told.
use Rattle.std.proofs.Common.{◌≡◌, ℕ, ◌&&◌, ◌+◌, ◌-◌, ◌<◌, ◌≤◌, Bool, true, false, filter, if◌then◌else◌, nat_le, List, [], ◌∷◌, ◌++◌, length, drop, take, get_or, map, reverse, Option, Some, None, refl, sym, ap, ap₂, subst, true≢false, ◌∙◌, arith, append_assoc, append-nil, suc, zero}
use Rattle.std.proofs.lemmas.List.{drop_more, reverse-append, length-reverse, length-map, get_or-map, drop-drop, take_more}
use Rattle.std.proofs.lemmas.List.Elements.{filter-append}
use Rattle.std.proofs.lemmas.Bool.Decides.{nat_tests}
use Rattle.std.specs.Option.{option_map}
use Rattle.std.specs.Borrow.{Bor}
use Rattle.mvd_keys.specs.Writes.{Key}
use Rattle.mvd_host.specs.declared.feed.Gathered.{Gathered}
use Rattle.mvd_host.specs.Feeds.{FeedValue, NotedValue, after_root, are_few, begins_with, fitted, is_root, keys_in, keys_most, later_or, met_all, met_one, page_of, root_after, root_now, rounds_most, since_start, told_most}
use Rattle.mvd_host.specs.Gathered.{Met}

-- the last round left the root
pub root_after-last : (root : List ℕ) (rounds : List NotedValue) (last : NotedValue) → 0 < length rounds → last ≡ get_or rounds (length rounds - 1) last → root_after root rounds ≡ last.root
root_after-last root [] last some is = absurd (omega arith)
root_after-last root (noted ∷ []) last some is = ap (λ (m : NotedValue). m.root) (sym is)
root_after-last root (noted ∷ next ∷ rounds) last some is =
    let e : length (noted ∷ next ∷ rounds) - 1 ≡ suc (length (next ∷ rounds) - 1) = omega arith in
    root_after-last noted.root (next ∷ rounds) last (omega arith) (is ∙ ap (λ i. get_or (noted ∷ next ∷ rounds) i last) e)

-- the root now is the one that the last round left
pub root_told : (start : Option (List ℕ)) (rounds : List NotedValue) (last : NotedValue) → (start ≡ None → rounds ≡ []) → 0 < length rounds → last ≡ get_or rounds (length rounds - 1) last → Some last.root ≡ root_now (record { start = start; rounds = rounds })
root_told None rounds last none some is = let no = ap (λ (l : List NotedValue). length l) (none refl) in absurd (omega (arith, no))
root_told (Some start) rounds last none some is = ap (λ (r : List ℕ). Some r) (sym (root_after-last start rounds last some is))

-- ---- where a root is found

-- what is found from a later round on is the last
pub after_drop : (rounds : List NotedValue) (n : ℕ) (root : List ℕ) (found : List NotedValue) → after_root (drop n rounds) root ≡ Some found → after_root rounds root ≡ Some found
after_drop rounds zero root found is = is
after_drop [] (suc n) root found is = is
after_drop (noted ∷ rounds) (suc n) root found is = ap (λ o. later_or o (if is_root noted.root root then Some rounds else None)) (after_drop rounds n root found is)

-- where it is not found behind a round
pub after_at : (rounds : List NotedValue) (i : ℕ) (noted : NotedValue) (root : List ℕ) → i < length rounds → noted ≡ get_or rounds i noted → after_root (drop (i + 1) rounds) root ≡ None
    → after_root (drop i rounds) root ≡ (if is_root noted.root root then Some (drop (i + 1) rounds) else None)
after_at rounds i noted root within is none =
    ap (λ l. after_root l root) (drop_more rounds i noted within ∙ ap (λ (m : NotedValue). m ∷ drop (i + 1) rounds) (sym is))
    ∙ ap (λ o. later_or o (if is_root noted.root root then Some (drop (i + 1) rounds) else None)) none

-- the rounds since a root, where it was found behind a round, or at the start, or not at all
pub since_found : (start : List ℕ) (rounds : List NotedValue) (i left : ℕ) (noted : NotedValue) (root : List ℕ) → left ≡ i + 1 → i < length rounds → noted ≡ get_or rounds i noted → is_root noted.root root ≡ true → after_root (drop left rounds) root ≡ None
    → since_start start rounds root ≡ Some (drop left rounds)
since_found start rounds i left noted root next within is same none =
    let behind : after_root (drop (i + 1) rounds) root ≡ None = subst (λ n. after_root (drop n rounds) root ≡ None) next none in
    let here : after_root (drop i rounds) root ≡ Some (drop (i + 1) rounds) = after_at rounds i noted root within is behind ∙ ap (λ b. if b then Some (drop (i + 1) rounds) else None) same in
    ap (λ o. later_or o (if is_root start root then Some rounds else None)) (after_drop rounds i root (drop (i + 1) rounds) here) ∙ ap (λ n. Some (drop n rounds)) (sym next)

-- ---- rounds from one to another

-- these rounds begin with this one
pub rounds_first : (rounds : List NotedValue) (i end : ℕ) (noted : NotedValue) → i < end → end ≤ length rounds → noted ≡ get_or rounds i noted
    → take (end - i) (drop i rounds) ≡ noted ∷ take (end - (i + 1)) (drop (i + 1) rounds)
rounds_first rounds i end noted before within is =
    let count : end - i ≡ suc (end - (i + 1)) = omega arith in
    ap₂ (λ n l. take n l) count (drop_more rounds i noted (omega arith) ∙ ap (λ (m : NotedValue). m ∷ drop (i + 1) rounds) (sym is))

take_next : {X : Type 0} (xs : List X) (n : ℕ) (x : X) (rest : List X) → drop n xs ≡ x ∷ rest → take (n + 1) xs ≡ take n xs ++ x ∷ []
take_next xs zero x rest is = ap (λ l. take 1 l) is
take_next [] (suc n) x rest is = cc
take_next (y ∷ xs) (suc n) x rest is =
    let count : suc n + 1 ≡ suc (n + 1) = omega arith in ap (λ k. take k (y ∷ xs)) count ∙ ap (λ l. y ∷ l) (take_next xs n x rest is)

-- these and one more
pub rounds_last : (rounds : List NotedValue) (place i : ℕ) (noted : NotedValue) → place ≤ i → i < length rounds → noted ≡ get_or rounds i noted
    → take (i + 1 - place) (drop place rounds) ≡ take (i - place) (drop place rounds) ++ noted ∷ []
rounds_last rounds place i noted from within is =
    let rest = drop place rounds in
    let n = i - place in
    let here : drop n rest ≡ noted ∷ drop (i + 1) rounds = drop-drop n place rounds ∙ ap (λ k. drop k rounds) (omega arith) ∙ drop_more rounds i noted within ∙ ap (λ (m : NotedValue). m ∷ drop (i + 1) rounds) (sym is) in
    let count : i + 1 - place ≡ n + 1 = omega arith in
    ap (λ k. take k rest) count ∙ take_next rest n noted (drop (i + 1) rounds) here

-- ---- a page

pub met_append : (met first second : List Key) → met_all met (first ++ second) ≡ met_all (met_all met first) second
met_append met [] second = refl
met_append met (key ∷ first) second = met_append (met_one met key) first second

-- the keys that begin with a prefix, with one more
pub met_more : (p : Key → Bool) (met keys : List Key) (i : ℕ) (key : Key) → i < length keys → key ≡ get_or keys i key → met_all (met_all met (filter p (take i keys))) (filter p (key ∷ [])) ≡ met_all met (filter p (take (i + 1) keys))
met_more p met keys i key within is =
    sym (ap (λ l. met_all met (filter p l)) (take_more keys i key within ∙ ap (λ (k : Key). take i keys ++ k ∷ []) (sym is)) ∙ ap (met_all met) (filter-append p (take i keys) (key ∷ [])) ∙ met_append met (filter p (take i keys)) (filter p (key ∷ [])))

-- the same from the last one on
pub kept_more : (p : Key → Bool) (keys later : List Key) (i : ℕ) (key : Key) → i < length keys → key ≡ get_or keys i key → filter p (key ∷ []) ++ (filter p (drop (i + 1) keys) ++ later) ≡ filter p (drop i keys) ++ later
kept_more p keys later i key within is =
    let rest = drop (i + 1) keys in
    sym (append_assoc (filter p (key ∷ [])) (filter p rest) later)
    ∙ ap (λ l. l ++ later) (sym (filter-append p (key ∷ []) rest) ∙ ap (filter p) (sym (drop_more keys i key within ∙ ap (λ (k : Key). k ∷ rest) (sym is))))

page_next : (prefix : List ℕ) (met : List Key) (noted : NotedValue) (rounds : List NotedValue) → length met < told_most → page_of prefix met (noted ∷ rounds) ≡ noted ∷ page_of prefix (met_all met (filter (begins_with prefix) noted.keys)) rounds
page_next prefix met noted rounds few =
    let more : nat_le told_most (length met) ≡ false = grind (arith, nat_tests) in
    ap (λ b. if b then [] else noted ∷ page_of prefix (met_all met (filter (begins_with prefix) noted.keys)) rounds) more

-- one round more of a page
pub page_on : (prefix : List ℕ) (whole rounds : List NotedValue) (place i : ℕ) (noted : NotedValue) (met : List Key) → place ≤ i → i < length rounds → noted ≡ get_or rounds i noted → length met < told_most
    → whole ≡ take (i - place) (drop place rounds) ++ page_of prefix met (drop i rounds)
    → whole ≡ take (i + 1 - place) (drop place rounds) ++ page_of prefix (met_all met (filter (begins_with prefix) noted.keys)) (drop (i + 1) rounds)
page_on prefix whole rounds place i noted met from within is few so_far =
    let so = take (i - place) (drop place rounds) in
    let rest = page_of prefix (met_all met (filter (begins_with prefix) noted.keys)) (drop (i + 1) rounds) in
    so_far
    ∙ ap (λ l. so ++ page_of prefix met l) (drop_more rounds i noted within ∙ ap (λ (m : NotedValue). m ∷ drop (i + 1) rounds) (sym is))
    ∙ ap (λ l. so ++ l) (page_next prefix met noted (drop (i + 1) rounds) few)
    ∙ sym (append_assoc so (noted ∷ []) rest)
    ∙ ap (λ l. l ++ rest) (sym (rounds_last rounds place i noted from within is))

-- and none more
pub page_done : (prefix : List ℕ) (whole so rounds : List NotedValue) (met : List Key) → rounds ≡ [] → whole ≡ so ++ page_of prefix met rounds → so ≡ whole
page_done prefix whole so rounds met none so_far = sym (so_far ∙ ap (λ l. so ++ page_of prefix met l) none ∙ append-nil so)

page_none : (prefix : List ℕ) (met : List Key) (rounds : List NotedValue) → told_most ≤ length met → page_of prefix met rounds ≡ []
page_none prefix met [] many = refl
page_none prefix met (noted ∷ rounds) many =
    let enough : nat_le told_most (length met) ≡ true = grind (arith, nat_tests) in
    ap (λ b. if b then [] else noted ∷ page_of prefix (met_all met (filter (begins_with prefix) noted.keys)) rounds) enough

pub page_full : (prefix : List ℕ) (whole so rounds : List NotedValue) (met : List Key) → told_most ≤ length met → whole ≡ so ++ page_of prefix met rounds → so ≡ whole
page_full prefix whole so rounds met many so_far = sym (so_far ∙ ap (λ l. so ++ l) (page_none prefix met rounds many) ∙ append-nil so)

-- as many keys were met as are kept
pub met_count : (gathered : Gathered) (met : List Key) → Met gathered met → length met ≡ length gathered.found.items
met_count gathered met m =
    ap (λ (l : List Key). length l) (sym m.order) ∙ length-reverse (map (λ (k : Bor Key). k.now) gathered.found.items) ∙ length-map gathered.found.items (λ (k : Bor Key). k.now)

root_behind : (root : List ℕ) (rounds : List NotedValue) (last : NotedValue) → root_after root (rounds ++ last ∷ []) ≡ last.root
root_behind root [] last = refl
root_behind root (noted ∷ rounds) last = root_behind noted.root rounds last

-- the root after rounds is the one that the last of them left
pub root_then : (root : List ℕ) (rounds : List NotedValue) (place end : ℕ) (last : NotedValue) → place < end → end ≤ length rounds → last ≡ get_or rounds (end - 1) last → root_after root (take (end - place) (drop place rounds)) ≡ last.root
root_then root rounds place end last some within is =
    let all = rounds_last rounds place (end - 1) last (omega arith) (omega arith) is in
    let count : end - 1 + 1 - place ≡ end - place = omega arith in
    ap (λ n. root_after root (take n (drop place rounds))) (sym count) ∙ ap (root_after root) all ∙ root_behind root (take (end - 1 - place) (drop place rounds)) last

and_true_of : (a b : Bool) → a ≡ true → b ≡ true → (a && b) ≡ true
and_true_of a b p q = ap₂ (λ x y. x && y) p q

-- rounds that are few enough are all remembered
fitted_few : (root : List ℕ) (rounds : List NotedValue) → length rounds ≤ rounds_most → length (keys_in rounds) ≤ keys_most → fitted root rounds ≡ record { start = Some root; rounds = rounds }
fitted_few root [] rounds keys = refl
fitted_few root (noted ∷ rounds) few short =
    let e : are_few (noted ∷ rounds) ≡ true = and_true_of (nat_le (length (noted ∷ rounds)) rounds_most) (nat_le (length (keys_in (noted ∷ rounds))) keys_most) (grind arith) (grind arith) in
    ap (λ b. if b then record { start = Some root; rounds = noted ∷ rounds } else fitted noted.root rounds) e

pub fitted_is : (start : Option (List ℕ)) (rounds : List NotedValue) (feed : FeedValue) → option_map (λ root. fitted root rounds) start ≡ Some feed → length rounds ≤ rounds_most → length (keys_in rounds) ≤ keys_most → record { start = start; rounds = rounds } ≡ feed
fitted_is None rounds feed is few short = cc
fitted_is (Some root) rounds feed is few short = sym (fitted_few root rounds few short) ∙ (let some : (a b : FeedValue) → Some a ≡ Some b → a ≡ b = λ (a b : FeedValue) (e : Some a ≡ Some b). (let r : a ≡ b = cc in r) in some (fitted root rounds) feed is)

-- with no round, the root now is the one at the start
pub root_at_start : (start : Option (List ℕ)) (rounds : List NotedValue) → (0 < length rounds → false ≡ true) → start ≡ root_now (record { start = start; rounds = rounds })
root_at_start None rounds none = refl
root_at_start (Some root) [] none = refl
root_at_start (Some root) (noted ∷ rounds) none = absurd (true≢false (sym (none (omega arith))))

-- the keys that are copied, with one more
pub one_copied : (found : List (Bor Key)) (i : ℕ) (key : Bor Key) (copy : Key) → i < length found → key ≡ get_or found i key → key.now ≡ copy →
    reverse (drop (i + 1) (map (λ (k : Bor Key). k.now) found)) ++ copy ∷ [] ≡ reverse (drop i (map (λ (k : Bor Key). k.now) found))
one_copied found i key copy within is same =
    let keys = map (λ (k : Bor Key). k.now) found in
    let here : get_or keys i copy ≡ copy = get_or-map (λ (k : Bor Key). k.now) found i key copy within ∙ ap (λ (k : Bor Key). k.now) (sym is) ∙ same in
    let one : drop i keys ≡ copy ∷ drop (i + 1) keys = drop_more keys i copy (subst (λ n. i < n) (sym (length-map found (λ (k : Bor Key). k.now))) within) ∙ ap (λ (k : Key). k ∷ drop (i + 1) keys) here in
    sym (ap (λ (l : List Key). reverse l) one ∙ reverse-append (copy ∷ []) (drop (i + 1) keys))
