-- What the types of questions hold has a spelling, and how lists are spelled.
use Rattle.std.proofs.Common.{◌≡◌, ℕ, ℤ, suc, ◌^◌, ◌<◌, ◌≤◌, Bool, true, false, ltb, leb, ◌&&◌, List, [], ◌∷◌, ◌++◌, length, Option, Some, None, Result, Ok, Err, take, refl, sym, ap, subst, ◌∙◌, arith, append_assoc}
use Rattle.std.specs.Prelude.{FitsSigned}
use Rattle.std.specs.Int.{w16, w128}
use Rattle.std.specs.List.{All, flat_map, list_all}
use Rattle.std.specs.Str.{IsUtf8}
use Rattle.std.proofs.lemmas.Bool.{leb-true, le-leb}
use Rattle.std.proofs.lemmas.List.{append-nil, take_all}
use Rattle.std.proofs.lemmas.List.Concat.{flat_map-cons}
use Rattle.mvd_dots.specs.declared.refusals.Refusal.{Refusal}
use Rattle.std.proofs.lemmas.Str.{is_utf8-from_IsUtf8}
use Rattle.std.proofs.Math.Facts.{Fits-of_z}
use Rattle.mvd_docs.specs.Name.{is_graphic, is_field, is_view_name, is_some_name, names_of}
use Rattle.mvd_dots.specs.Dot.{DotValue, IsDot}
use Rattle.mvd_keys.specs.Key.{is_key}
use Rattle.mvd_keys.specs.Path.{is_digit, is_path}
use Rattle.mvd_keys.proofs.Lists.{and_true}
use Rattle.mvd_wire.specs.Codec.{◌>>=◌, Codec, byte, number, raw, FitEach, read_each, spell_each}
use Rattle.mvd_wire.specs.Codecs.{path}
use Rattle.mvd_wire.specs.Rows.{field, view_name, term_text_codec, sum, ends, row_codec, spot_codec, key_entry, digest, children, children_of, flag, item_of, items, page, page_limit}
use Rattle.mvd_wire.proofs.Fits.{key_fits, dot_fits}
use Rattle.mvd_wire.proofs.Spellings.{spell_each-flat_map}

short_name : (v : List ℕ) → is_view_name v ≡ true → length v ≤ 64
short_name v is = leb-true _ _ (and_true (ltb 0 (length v)) (leb (length v) 64) (and_true (ltb 0 (length v) && leb (length v) 64) (list_all is_graphic v) is).0).1

pub view_name_fits : (v : List ℕ) → is_view_name v ≡ true → view_name.Fits v
unfolding view_name raw number
view_name_fits v is =
    let few = short_name v is in
    (omega arith, (refl, rw is refl))

pub field_fits : (f : List ℕ) → is_field f ≡ true → field.Fits f
unfolding field raw number
field_fits f is =
    let name = (and_true (is_view_name f) (leb (length (names_of f)) 8) (and_true (is_view_name f && leb (length (names_of f)) 8) (list_all is_some_name (names_of f)) is).0).0 in
    let few = short_name f name in
    (omega arith, (refl, rw is refl))

pub path_fits : (p : List ℕ) → is_path p ≡ true → path.Fits p
unfolding path raw
path_fits p is =
    let some = (and_true (leb (length p) 3) (list_all is_digit p) is).0 in
    let few : length p ≤ 3 = leb-true _ _ some in
    ((omega arith, some), (refl, rw is refl))

pub term_text_fits : (t : List ℕ) → IsUtf8 t → length t ≤ 512 → term_text_codec.Fits t
unfolding term_text_codec raw number
term_text_fits t text few =
    let short : leb (length t) 512 ≡ true = le-leb _ _ few in
    ((omega arith, short), (refl, rw (is_utf8-from_IsUtf8 t text, short) refl))

pub sum_fits : (z : ℤ) → FitsSigned w128 z → sum.Fits z
unfolding sum number
sum_fits z fits =
    let below = Fits-of_z {w = w128} {z = z} fits in
    (fits, (omega (arith, below), omega (arith, below)))

pub spot_fits : (k : List ℕ) (d : DotValue) → is_key k ≡ true → IsDot d → spot_codec.Fits (k, d)
unfolding spot_codec
spot_fits k d is dot_is = (key_fits k is, dot_fits d dot_is)

pub key_entry_fits : (k d : List ℕ) → is_key k ≡ true → length d ≡ 32 → key_entry.Fits (k, d)
unfolding key_entry digest raw
key_entry_fits k d is long = (key_fits k is, long)

pub row_fits : (count : ℕ) (z : ℤ) (e : Option (ℤ × ℤ)) → count < 2 ^ 64 → sum.Fits z → ends.Fits e → row_codec.Fits (record { count = count; sum = z; ends = e })
unfolding row_codec number
row_fits count z e few fits ends_fit = (few, (fits, ends_fit))

-- ---- lists

pub each_fit : {X : Type 0} (kind : Codec X) (xs : List X) → All kind.Fits xs → FitEach (item_of kind) (λ s _. s) tt xs
each_fit kind [] all = tt
each_fit kind (x ∷ xs) all = (all 0 x (omega arith), each_fit kind xs (λ k d lt. all (suc k) d (omega arith)))

pub each_is : {X : Type 0} (kind : Codec X) (xs : List X) → spell_each (item_of kind) (λ s _. s) tt xs ≡ flat_map kind.spell xs
each_is kind xs = spell_each-flat_map (item_of kind) (λ s _. s) kind.spell (λ s x. refl) tt xs

flag_fits : (b : Bool) → flag.Fits b
flag_fits true = (omega arith, refl)
flag_fits false = (omega arith, refl)

pub page_fits : {X : Type 0} (kind : Codec X) (xs : List X) (more : Bool) → All kind.Fits xs → length xs ≤ page_limit → (page kind).Fits (xs, more)
unfolding page items number
page_fits kind xs more all few = (flag_fits more, ((omega arith, le-leb _ _ few), (refl, each_fit kind xs all)))

pub page_is : {X : Type 0} (kind : Codec X) (xs : List X) (more : Bool) → (page kind).spell (xs, more) ≡ flag.spell more ++ ((number w16).spell (length xs) ++ flat_map kind.spell xs)
unfolding page items
page_is kind xs more = ap (λ (t : List ℕ). flag.spell more ++ ((number w16).spell (length xs) ++ t)) (each_is kind xs)

pub page_put : {X : Type 0} (kind : Codec X) (xs : List X) (more : Bool) (a b c : List ℕ) → b ≡ a ++ (flag.spell more ++ (number w16).spell (length xs)) → c ≡ b ++ flat_map kind.spell xs → c ≡ a ++ (page kind).spell (xs, more)
page_put kind xs more a b c p q =
    rw page_is (q ∙ ap (λ (t : List ℕ). t ++ flat_map kind.spell xs) p ∙ simp append_assoc)

-- ---- children

pub children_fit : (ds : List (List ℕ)) → length ds ≡ 16 → All (λ d. length d ≡ 32) ds → children.Fits (Some ds)
unfolding children digest raw
children_fit ds sixteen all = (sixteen, ((omega (arith, sixteen), rw sixteen refl), (refl, each_fit digest ds all)))

pub no_children_fit : children.Fits None
unfolding children
no_children_fit = (tt, ((omega arith, refl), (refl, tt)))

pub no_children_is : children.spell None ≡ 0 ∷ []
unfolding children
no_children_is = refl

pub children_is : (ds : List (List ℕ)) → length ds ≡ 16 → children.spell (Some ds) ≡ 16 ∷ flat_map (λ d. d) ds
unfolding children digest raw
children_is ds sixteen = ap (λ (n : ℕ). n ∷ spell_each (item_of digest) (λ s _. s) tt ds) sixteen ∙ ap (λ (t : List ℕ). 16 ∷ t) (spell_each-flat_map (item_of digest) (λ s _. s) (λ d. d) (λ s x. refl) tt ds)

-- ---- one item more

flat_one : {X : Type 0} (f : X → List ℕ) (xs : List X) (x : X) → flat_map f (xs ++ x ∷ []) ≡ flat_map f xs ++ f x
flat_one f [] x = rw flat_map-cons (append-nil (f x))
flat_one f (y ∷ ys) x = rw (flat_map-cons, flat_one f ys x, flat_map-cons) (sym (append_assoc (f y) (flat_map f ys) (f x)))

pub flat_push : {X : Type 0} (f : X → List ℕ) (xs : List X) (x : X) (a b c : List ℕ) → b ≡ a ++ flat_map f xs → c ≡ b ++ f x → c ≡ a ++ flat_map f (xs ++ x ∷ [])
flat_push f xs x a b c p q = q ∙ ap (λ (t : List ℕ). t ++ f x) p ∙ append_assoc a (flat_map f xs) (f x) ∙ ap (λ (t : List ℕ). a ++ t) (sym (flat_one f xs x))

pub all_taken : {X : Type 0} (P : X → Type 0) (xs : List X) (n : ℕ) → length xs ≤ n → All P (take n xs) → All P xs
all_taken P xs n le all = subst (All P) (take_all n xs le) all

-- ---- digests, read

abbrev pub as_children : Result (List (List ℕ) × List ℕ) Refusal → Result (Option (List (List ℕ)) × List ℕ) Refusal
as_children found = found >>= λ x. Ok (children_of x.0, x.1)

counted_children : (found : Result (List (List ℕ) × List ℕ) Refusal) → as_children (◌>>=◌ {A = (ℕ × List (List ℕ)) × List ℕ} (found >>= λ y. Ok ((16, y.0), y.1)) (λ x. Ok (x.0.1, x.1))) ≡ as_children found
counted_children (Ok x) = refl
counted_children (Err f) = refl

pub children_none : (bytes rest : List ℕ) → byte.read bytes ≡ Ok (0, rest) → children.read bytes ≡ Ok (None, rest)
unfolding children read_each
children_none bytes rest e = rw e refl

pub children_some : (bytes rest : List ℕ) → byte.read bytes ≡ Ok (16, rest) → children.read bytes ≡ as_children (read_each (item_of digest) (λ s _. s) tt 16 rest)
unfolding children
children_some bytes rest e = rw e (counted_children (read_each (item_of digest) (λ s _. s) tt 16 rest))
