-- The feed lists what changed.
use Rattle.std.proofs.Common.{◌≡◌, ◌⊎◌, inl, inr, ℕ, Bool, true, false, ◌||◌, if◌then◌else◌, cond, filter, nat_le, length, List, [], ◌∷◌, ◌++◌, Option, Some, None, IfSome, refl, sym, ap, subst, ◌∙◌}
use Rattle.std.specs.Option.{option_map}
use Rattle.std.specs.List.{AllByRecursion}
use Rattle.std.specs.FinMap.{get}
use Rattle.std.specs.Ordering.{eq_by_cmp}
use Rattle.std.specs.Cmp.Lexicographic.{same_text}
use Rattle.std.proofs.lemmas.List.Folds.{list_any-append}
use Rattle.mvd_keys.specs.Key.{key_cmp}
use Rattle.mvd_keys.specs.Writes.{Key}
use Rattle.mvd_site.specs.Held.{States}
use Rattle.mvd_keys.proofs.KeyOrder.{same_where_tied}
use Rattle.mvd_host.specs.Feeds.{FeedValue, NotedValue, are_few, begins_with, fitted, is_listed, is_root, keys_with, knows_nothing, knows_root, lasts, later_or, met_all, noted_behind, noted_in, page_of, page_told, root_after, root_now, since_start, told_most, told_since}
use Rattle.mvd_host.specs.Lists.{AnyByRecursion, AnyWithLater, ChangesAmong, ChangesWith, IsListed, Lists, ListsFrom, ListsIf, ListsOn, first_or, root_of}

-- ---- which keys changed

or_true : (a b : Bool) → (a || b) ≡ true → (a ≡ true) ⊎ (b ≡ true)
or_true true b e = inl refl
or_true false b e = inr e

pub or_left : (a b : Bool) → a ≡ true → (a || b) ≡ true
or_left a b e = ap (λ x. x || b) e

or_right : (a b : Bool) → b ≡ true → (a || b) ≡ true
or_right true b e = refl
or_right false b e = e

in_front : (first second : List Key) (key : Key) → is_listed first key ≡ true → is_listed (first ++ second) key ≡ true
in_front first second key is = list_any-append (λ k. eq_by_cmp key_cmp k key) first second ∙ or_left (is_listed first key) (is_listed second key) is

in_back : (first second : List Key) (key : Key) → is_listed second key ≡ true → is_listed (first ++ second) key ≡ true
in_back first second key is = list_any-append (λ k. eq_by_cmp key_cmp k key) first second ∙ or_right (is_listed first key) (is_listed second key) is

changes_by : (first second : List Key) (old mid new : States) (key : Key) → (get old key ≡ get mid key) ⊎ (is_listed first key ≡ true) → (get mid key ≡ get new key) ⊎ (is_listed second key ≡ true) →
    (get old key ≡ get new key) ⊎ (is_listed (first ++ second) key ≡ true)
changes_by first second old mid new key (inl p) (inl q) = inl (p ∙ q)
changes_by first second old mid new key (inl p) (inr q) = inr (in_back first second key q)
changes_by first second old mid new key (inr p) q = inr (in_front first second key p)

pub changes_on : (first second : List Key) (old mid new : States) → ChangesAmong first old mid → ChangesAmong second mid new → ChangesAmong (first ++ second) old new
changes_on first second old mid new p q key = changes_by first second old mid new key (p key) (q key)

-- ---- a round is noted

lists_more : (root : List ℕ) (rounds : List NotedValue) (past : List States) (keys : List Key) (last : List ℕ) (old new : States) →
    ListsFrom root rounds past old → ChangesAmong keys old new → last ≡ root_of new → ListsFrom root (rounds ++ record { keys = keys; root = last } ∷ []) (past ++ new ∷ []) new
lists_more root [] [] keys last old new lists changes is = elim lists [ ]
lists_more root (noted ∷ rounds) [] keys last old new lists changes is = elim lists [ ]
lists_more root [] (was ∷ past) keys last old new lists changes is =
    let here : ChangesAmong keys was new = subst (λ s. ChangesAmong keys s new) (sym lists.1) changes in
    subst (λ (l : List States). ListsFrom root (record { keys = keys; root = last } ∷ []) (was ∷ l ++ new ∷ []) new) (sym lists.2) (lists.0, here, (is, refl, refl))
lists_more root (noted ∷ []) (was ∷ []) keys last old new lists changes is = elim lists.2 [ ]
lists_more root (noted ∷ more ∷ rounds) (was ∷ []) keys last old new lists changes is = elim lists.2 [ ]
lists_more root (noted ∷ rounds) (was ∷ next ∷ past) keys last old new lists changes is =
    (lists.0, lists.1, lists_more noted.root rounds (next ∷ past) keys last old new lists.2 changes is)

-- ---- the oldest rounds are forgotten

-- some of these, and no others
abbrev AreSome : List States → List States → Type 0
AreSome past later = AllByRecursion (λ was. AnyByRecursion (λ old. old ≡ was) past) later

some_more : (first : States) (past later : List States) → AreSome past later → AreSome (first ∷ past) later
some_more first past [] some = tt
some_more first past (was ∷ later) some = (inr some.0, some_more first past later some.1)

one_or_now : (past : List States) (was now : States) → AnyByRecursion (λ old. old ≡ was) (past ++ now ∷ []) → AnyByRecursion (λ old. old ≡ was) past ⊎ (was ≡ now)
one_or_now [] was now (inl is) = inr (sym is)
one_or_now [] was now (inr none) = elim none [ ]
one_or_now (first ∷ past) was now (inl is) = inl (inl is)
one_or_now (first ∷ past) was now (inr more) = elim (one_or_now past was now more) [ inl is ↦ inl (inr is) | inr is ↦ inr is ]

all_some : (now : States) (past later : List States) → AreSome past later → AllByRecursion (λ was. AnyByRecursion (λ old. old ≡ was) past ⊎ (was ≡ now)) later
all_some now past [] some = tt
all_some now past (was ∷ later) some = (inl some.0, all_some now past later some.1)

some_self : (past : List States) → AreSome past past
some_self [] = tt
some_self (was ∷ past) = (inl refl, some_more was past past (some_self past))

-- what is listed of some of the moments
record Forgets (past : List States) (feed : FeedValue) (now : States) : Type 0 where
  later : List States
  some : AreSome past later
  lists : Lists feed later now

forgets_more : (first : States) (past : List States) (feed : FeedValue) (now : States) → Forgets past feed now → Forgets (first ∷ past) feed now
forgets_more first past feed now f = record { later = f.later; some = some_more first past f.later f.some; lists = f.lists }

fitted_lists : (root : List ℕ) (rounds : List NotedValue) (past : List States) (now : States) → ListsFrom root rounds past now → Forgets past (fitted root rounds) now
fitted_lists root [] past now lists = record { later = past; some = some_self past; lists = lists }
fitted_lists root (noted ∷ rounds) [] now lists = elim lists [ ]
fitted_lists root (noted ∷ rounds) (was ∷ past) now lists =
    elim (are_few (noted ∷ rounds)) as (λ few. Forgets (was ∷ past) (if few then record { start = Some root; rounds = noted ∷ rounds } else fitted noted.root rounds) now) [
      | true ↦ record { later = was ∷ past; some = some_self (was ∷ past); lists = lists }
      | false ↦ forgets_more was past (fitted noted.root rounds) now (fitted_lists noted.root rounds past now lists.2)
    ]

-- ---- a round

some_or_now : (past later : List States) (now : States) → AreSome (past ++ now ∷ []) later → AllByRecursion (λ was. AnyByRecursion (λ old. old ≡ was) past ⊎ (was ≡ now)) later
some_or_now past [] now some = tt
some_or_now past (was ∷ later) now some = (one_or_now past was now some.0, some_or_now past later now some.1)

-- where nothing changed
pub lists_still : (feed : FeedValue) (states : States) → ListsOn feed states feed states
lists_still feed states past lists = (past, all_some states past past (some_self past), lists)

-- where all but the root now was forgotten
pub lists_root : (feed : FeedValue) (root : List ℕ) (old new : States) → root ≡ root_of new → ListsOn feed old (knows_root root) new
lists_root feed root old new is past lists = (new ∷ [], (inr refl, tt), (is, refl, refl))

-- where a round was noted
noted_lists_by : (start : Option (List ℕ)) (rounds : List NotedValue) (keys : List Key) (root : List ℕ) (old new : States) → ChangesAmong keys old new → root ≡ root_of new →
    ListsOn (record { start = start; rounds = rounds }) old (noted_behind start rounds keys root) new
noted_lists_by None rounds keys root old new changes is past lists = (new ∷ [], (inr refl, tt), (is, refl, refl))
noted_lists_by (Some start) rounds keys root old new changes is past lists =
    let all = lists_more start rounds past keys root old new lists changes is in
    let left = fitted_lists start (rounds ++ record { keys = keys; root = root } ∷ []) (past ++ new ∷ []) new all in
    (left.later, some_or_now past left.later new left.some, left.lists)

pub noted_lists : (feed : FeedValue) (keys : List Key) (root : List ℕ) (old new : States) → ChangesAmong keys old new → root ≡ root_of new → ListsOn feed old (noted_in feed keys root) new
noted_lists feed keys root old new changes is = noted_lists_by feed.start feed.rounds keys root old new changes is

-- ---- what is told

again_in : (first : Key) (keys : List Key) (key : Key) → is_listed keys first ≡ true → (eq_by_cmp key_cmp first key ≡ true) ⊎ (is_listed keys key ≡ true) → is_listed keys key ≡ true
again_in first keys key again (inl same) = subst (λ k. is_listed keys k ≡ true) (same_where_tied first key same) again
again_in first keys key again (inr later) = later

-- a key that is noted is told
in_lasts : (keys : List Key) (key : Key) → is_listed keys key ≡ true → is_listed (lasts keys) key ≡ true
in_lasts [] key is = is
in_lasts (first ∷ keys) key is =
    elim (is_listed keys first) as (λ b. is_listed keys first ≡ b → is_listed (if b then lasts keys else first ∷ lasts keys) key ≡ true) [
      | true ↦ λ again. in_lasts keys key (again_in first keys key again (or_true (eq_by_cmp key_cmp first key) (is_listed keys key) is))
      | false ↦ λ once. elim (or_true (eq_by_cmp key_cmp first key) (is_listed keys key) is) [ inl here ↦ or_left (eq_by_cmp key_cmp first key) (is_listed (lasts keys) key) here | inr later ↦ or_right (eq_by_cmp key_cmp first key) (is_listed (lasts keys) key) (in_lasts keys key later) ]
    ] refl

-- the root now is that of the states now
root_after_is : (root : List ℕ) (rounds : List NotedValue) (past : List States) (now : States) → ListsFrom root rounds past now → root_after root rounds ≡ root_of now
root_after_is root [] [] now lists = elim lists [ ]
root_after_is root [] (was ∷ past) now lists = lists.0 ∙ ap root_of lists.1
root_after_is root (noted ∷ rounds) [] now lists = elim lists [ ]
root_after_is root (noted ∷ rounds) (was ∷ past) now lists = root_after_is noted.root rounds past now lists.2

root_is_by : (start : Option (List ℕ)) (rounds : List NotedValue) (past : List States) (now : States) → ListsIf start rounds past now → (root : List ℕ) → root_now (record { start = start; rounds = rounds }) ≡ Some root → root ≡ root_of now
root_is_by None rounds past now lists root is = cc
root_is_by (Some start) rounds past now lists root is =
    let same : (a b : List ℕ) → Some a ≡ Some b → a ≡ b = λ (a b : List ℕ) (e : Some a ≡ Some b). (let r : a ≡ b = cc in r) in
    sym (same (root_after start rounds) root is) ∙ root_after_is start rounds past now lists

pub root_now_is : (feed : FeedValue) (past : List States) (now : States) → Lists feed past now → (root : List ℕ) → root_now feed ≡ Some root → root ≡ root_of now
root_now_is feed past now lists root is = root_is_by feed.start feed.rounds past now lists root is

-- a key that was met is listed among those that begin with a prefix, if it does
in_filter : (prefix : List ℕ) (keys : List Key) (key : Key) → begins_with prefix key ≡ true → is_listed keys key ≡ true → is_listed (filter (begins_with prefix) keys) key ≡ true
in_filter prefix [] key begins is = is
in_filter prefix (first ∷ keys) key begins is =
    elim (or_true (eq_by_cmp key_cmp first key) (is_listed keys key) is) [
      | inl here ↦
          let same : begins_with prefix first ≡ true = ap (begins_with prefix) (same_where_tied first key here) ∙ begins in
          ap (λ b. is_listed (cond b (first ∷ filter (begins_with prefix) keys) (filter (begins_with prefix) keys)) key) same
          ∙ or_left (eq_by_cmp key_cmp first key) (is_listed (filter (begins_with prefix) keys) key) here
      | inr later ↦
          let rest = in_filter prefix keys key begins later in
          elim (begins_with prefix first) as (λ b. is_listed (cond b (first ∷ filter (begins_with prefix) keys) (filter (begins_with prefix) keys)) key ≡ true) [
            | true ↦ or_right (eq_by_cmp key_cmp first key) (is_listed (filter (begins_with prefix) keys) key) rest
            | false ↦ rest
          ]
    ]

-- keys that begin with a prefix, of a round and of those after it
changes_with_by : (prefix : List ℕ) (keys later : List Key) (old mid new : States) (key : Key) → begins_with prefix key ≡ true → (get old key ≡ get mid key) ⊎ (is_listed keys key ≡ true) → (get mid key ≡ get new key) ⊎ (is_listed later key ≡ true) →
    (get old key ≡ get new key) ⊎ (is_listed (filter (begins_with prefix) keys ++ later) key ≡ true)
changes_with_by prefix keys later old mid new key begins (inl p) (inl q) = inl (p ∙ q)
changes_with_by prefix keys later old mid new key begins (inl p) (inr q) = inr (in_back (filter (begins_with prefix) keys) later key q)
changes_with_by prefix keys later old mid new key begins (inr p) q = inr (in_front (filter (begins_with prefix) keys) later key (in_filter prefix keys key begins p))

told_with : (prefix : List ℕ) (keys : List Key) (old new : States) → ChangesWith prefix keys old new → ChangesWith prefix (lasts keys) old new
told_with prefix keys old new changes key begins = elim (changes key begins) [ inl same ↦ inl same | inr is ↦ inr (in_lasts keys key is) ]

-- one of them is so, and it is known of each what follows
any_so : {X : Type 0} (P Q : X → Type 0) (xs : List X) → ((x : X) → P x → Q x) → AnyByRecursion P xs → AnyByRecursion Q xs
any_so P Q [] so any = elim any [ ]
any_so P Q (x ∷ xs) so (inl here) = inl (so x here)
any_so P Q (x ∷ xs) so (inr later) = inr (any_so P Q xs so later)

any_later_so : {X : Type 0} (P Q : X → List X → Type 0) (xs : List X) → ((x : X) (l : List X) → P x (x ∷ l) → Q x (x ∷ l)) → AnyWithLater P xs → AnyWithLater Q xs
any_later_so P Q [] so any = elim any [ ]
any_later_so P Q (x ∷ xs) so (inl here) = inl (so x xs here)
any_later_so P Q (x ∷ xs) so (inr later) = inr (any_later_so P Q xs so later)

-- the keys of a page are those that changed up to its end
page_lists : (prefix root : List ℕ) (met : List Key) (rounds : List NotedValue) (past : List States) (now : States) → ListsFrom root rounds past now →
    AnyByRecursion (λ mid. (root_after root (page_of prefix met rounds) ≡ root_of mid) × ChangesWith prefix (keys_with prefix (page_of prefix met rounds)) (first_or now past) mid) past
page_lists prefix root met [] [] now lists = elim lists [ ]
page_lists prefix root met (noted ∷ rounds) [] now lists = elim lists [ ]
page_lists prefix root met [] (was ∷ past) now lists = inl (lists.0, λ key begins. inl refl)
page_lists prefix root met (noted ∷ rounds) (was ∷ past) now lists =
    let more = met_all met (filter (begins_with prefix) noted.keys) in
    let page = page_of prefix more rounds in
    elim (nat_le told_most (length met)) as (λ b. AnyByRecursion (λ mid. (root_after root (if b then [] else noted ∷ page) ≡ root_of mid) × ChangesWith prefix (keys_with prefix (if b then [] else noted ∷ page)) was mid) (was ∷ past)) [
      | true ↦ inl (lists.0, λ key begins. inl refl)
      | false ↦
          let P : States → Type 0 = λ mid. (root_after noted.root page ≡ root_of mid) × ChangesWith prefix (keys_with prefix page) (first_or now past) mid in
          let Q : States → Type 0 = λ mid. (root_after noted.root page ≡ root_of mid) × ChangesWith prefix (filter (begins_with prefix) noted.keys ++ keys_with prefix page) was mid in
          inr (any_so P Q past (λ mid is. (is.0, λ key begins. changes_with_by prefix noted.keys (keys_with prefix page) was (first_or now past) mid key begins (lists.1 key) (is.1 key begins))) (page_lists prefix noted.root more rounds past now lists.2))
    ]

rounds_are : (a b : List NotedValue) → Some a ≡ Some b → a ≡ b
rounds_are a b e = cc

-- the rounds since a root are those after a moment at which the site had it
abbrev Since : List ℕ → List NotedValue → States → States → List States → Type 0
Since root rest now was later = (root ≡ root_of was) × ListsFrom root rest later now

here_since : (start : List ℕ) (rounds : List NotedValue) (was : States) (past : List States) (now : States) (root : List ℕ) → ListsFrom start rounds (was ∷ past) now → start ≡ root_of was → (rest : List NotedValue)
    → (if is_root start root then Some rounds else None) ≡ Some rest → Since root rest now was (was ∷ past)
here_since start rounds was past now root lists of_start rest is =
    elim (is_root start root) as (λ b. is_root start root ≡ b → (if b then Some rounds else None) ≡ Some rest → Since root rest now was (was ∷ past)) [
      | true ↦ λ same given.
          let text : start ≡ root = same_text start root (sym same) in
          (sym text ∙ of_start, subst (λ (l : List NotedValue). ListsFrom root l (was ∷ past) now) (rounds_are rounds rest given) (subst (λ (r : List ℕ). ListsFrom r rounds (was ∷ past) now) text lists))
      | false ↦ λ other given. cc
    ] refl is

since_lists : (start : List ℕ) (rounds : List NotedValue) (past : List States) (now : States) (root : List ℕ) → ListsFrom start rounds past now → (rest : List NotedValue) → since_start start rounds root ≡ Some rest →
    AnyWithLater (Since root rest now) past
since_lists start [] [] now root lists rest is = elim lists [ ]
since_lists start (noted ∷ rounds) [] now root lists rest is = elim lists [ ]
since_lists start [] (was ∷ past) now root lists rest is = inl (here_since start [] was past now root lists lists.0 rest is)
since_lists start (noted ∷ rounds) (was ∷ past) now root lists rest is =
    elim (since_start noted.root rounds root) as (λ o. since_start noted.root rounds root ≡ o → later_or o (if is_root start root then Some (noted ∷ rounds) else None) ≡ Some rest → AnyWithLater (Since root rest now) (was ∷ past)) [
      | Some later ↦ λ found given. inr (since_lists noted.root rounds past now root lists.2 rest (found ∙ given))
      | None ↦ λ none given. inl (here_since start (noted ∷ rounds) was past now root lists lists.0 rest given)
    ] refl is

told_lists : (start : Option (List ℕ)) (rounds : List NotedValue) (past : List States) (now : States) (prefix root : List ℕ) → ListsIf start rounds past now → IsListed prefix root past (told_since (record { start = start; rounds = rounds }) prefix root)
told_lists None rounds past now prefix root lists = tt
told_lists (Some start) rounds past now prefix root lists =
    elim (since_start start rounds root) as (λ o. since_start start rounds root ≡ o → IsListed prefix root past (option_map (page_told prefix root) o)) [
      | None ↦ λ is. tt
      | Some rest ↦ λ is.
          let told = page_told prefix root rest in
          let keys = keys_with prefix (page_of prefix [] rest) in
          let Q : States → List States → Type 0 = λ was later. (root ≡ root_of was) × AnyByRecursion (λ mid. (told.root ≡ root_of mid) × ChangesWith prefix told.keys was mid) later in
          any_later_so (Since root rest now) Q past (λ was later since. (
            since.0,
            any_so (λ mid. (told.root ≡ root_of mid) × ChangesWith prefix keys was mid) (λ mid. (told.root ≡ root_of mid) × ChangesWith prefix told.keys was mid) (was ∷ later)
                (λ mid so. (so.0, told_with prefix keys was mid so.1)) (page_lists prefix root [] rest (was ∷ later) now since.1),
          ))
          (since_lists start rounds past now root lists rest is)
    ] refl

pub told_listed : (feed : FeedValue) (past : List States) (now : States) (prefix root : List ℕ) → Lists feed past now → IsListed prefix root past (told_since feed prefix root)
told_listed feed past now prefix root lists = told_lists feed.start feed.rounds past now prefix root lists

-- ---- as the calls tell it

pub if_root_is : (feed : FeedValue) (past : List States) (now : States) → Lists feed past now → (told : Option (List ℕ)) → told ≡ root_now feed → IfSome told (λ root. root ≡ root_of now)
if_root_is feed past now lists None is = tt
if_root_is feed past now lists (Some root) is = root_now_is feed past now lists root (sym is)
