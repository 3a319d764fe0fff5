-- The answers to questions about indexes, views and the hash tree are never too long for a frame.
use Rattle.std.proofs.Common.{◌≡◌, ℕ, ℤ, ◌+◌, ◌*◌, ◌/◌, ◌%◌, ◌^◌, ◌≤◌, Bool, true, false, leb, IfSome, List, [], ◌∷◌, length, Option, Some, None, refl, arith}
use Rattle.std.specs.List.{AllByRecursion, flat_map}
use Rattle.std.specs.Int.{w64, w128, cast_unsigned}
use Rattle.std.proofs.lemmas.Bool.{le-leb}
use Rattle.std.proofs.lemmas.List.{length-append}
use Rattle.std.proofs.lemmas.List.Concat.{flat_map-cons}
use Rattle.mvd_docs.specs.declared.term.Term.{Term}
use Rattle.mvd_docs.specs.declared.term.Term.TheVariants.{Null, False, True, Whole, Text}
use Rattle.mvd_keys.specs.Key.{is_key}
use Rattle.mvd_keys.specs.declared.places.Place.{Place}
use Rattle.mvd_wire.specs.Codec.{Codec, raw}
use Rattle.mvd_wire.specs.Codecs.{dot}
use Rattle.mvd_wire.specs.Frames.{frame_limit}
use Rattle.mvd_wire.specs.Rows.{children, digest, digests_codec, ends, flag, key_count, key_entry, page, page_limit, place, row_codec, spot_codec, sum, term, term_text_codec, view_row, whole_number}
use Rattle.mvd_wire.specs.declared.reply.Digests.{Digests}
use Rattle.mvd_wire.specs.declared.reply.RowValue.{RowValue}
use Rattle.mvd_wire.specs.declared.reply.Reply.TheVariants as reply
use Rattle.mvd_wire.specs.Replies.{CanBeSent}
use Rattle.mvd_wire.proofs.RowFits.{children_is, no_children_is, page_is}
use Rattle.mvd_wire.proofs.SentFrames.{short_key}
use Rattle.mvd_wire.proofs.Spellings.{sized_number}

-- so many items, none of them longer than 700 bytes
items_short : {X : Type 0} (f : X → List ℕ) (xs : List X) → AllByRecursion (λ x. length (f x) ≤ 700) xs → length (flat_map f xs) ≤ length xs * 700
items_short f [] all = omega arith
items_short f (x ∷ xs) all = rw (flat_map-cons, length-append) (omega (arith, all.0, items_short f xs all.1))

page_short : {X : Type 0} (kind : Codec X) (xs : List X) (more : Bool) → AllByRecursion (λ x. length (kind.spell x) ≤ 700) xs → length xs ≤ page_limit → leb (length ((page kind).spell (xs, more)) + 1) frame_limit ≡ true
page_short kind xs more all few =
    le-leb _ _ (rw (page_is kind xs more, length-append, length-append) (omega (arith, few, one more, (sized_number (length xs)).0, items_short kind.spell xs all)))
  where
    one : (b : Bool) → length (flag.spell b) ≡ 1
    one true = refl
    one false = refl

each_weaker : {X : Type 0} (P Q : X → Type 0) → ((x : X) → P x → Q x) → (xs : List X) → AllByRecursion P xs → AllByRecursion Q xs
each_weaker P Q f [] all = tt
each_weaker P Q f (x ∷ xs) all = (f x all.0, each_weaker P Q f xs all.1)

-- ---- the hash tree

-- a key with a digest
pub record IsEntry (e : List ℕ × List ℕ) : Type 0 where
  pub key : is_key e.0 ≡ true
  pub digest : length e.1 ≡ 32

short_entry : (e : List ℕ × List ℕ) → IsEntry e → length (key_entry.spell e) ≤ 700
unfolding key_entry digest raw
short_entry e is = rw length-append (omega (arith, short_key e.0 is.key, is.digest))

pub keys_can_be_sent : (es : List (List ℕ × List ℕ)) (more : Bool) → AllByRecursion IsEntry es → length es ≤ page_limit → CanBeSent (reply.Keys es more)
keys_can_be_sent es more all few =
    let short : leb (length ((page key_entry).spell (es, more)) + 1) frame_limit ≡ true = page_short key_entry es more (each_weaker _ _ short_entry es all) few in
    let some : leb (length es) page_limit ≡ true = le-leb _ _ few in
    rw (some, short) refl

-- ---- keys with numbers

short_count : (c : List ℕ × ℕ) → is_key c.0 ≡ true → length (key_count.spell c) ≤ 700
unfolding key_count
short_count c is = rw length-append (omega (arith, short_key c.0 is, (sized_number c.1).1))

pub counts_can_be_sent : (cs : List (List ℕ × ℕ)) (more : Bool) → AllByRecursion (λ c. is_key c.0 ≡ true) cs → length cs ≤ page_limit → CanBeSent (reply.Counts cs more)
counts_can_be_sent cs more all few =
    let short : leb (length ((page key_count).spell (cs, more)) + 1) frame_limit ≡ true = page_short key_count cs more (each_weaker _ _ short_count cs all) few in
    let some : leb (length cs) page_limit ≡ true = le-leb _ _ few in
    rw (some, short) refl

-- ---- the digests of a node

-- a digest, and sixteen more above the buckets
pub record AreDigests (d : Digests) : Type 0 where
  pub own : length d.own ≡ 32
  pub children : IfSome d.children (λ ds. (length ds ≡ 16) × AllByRecursion (λ x. length x ≡ 32) ds)

short_digest : (x : List ℕ) → length x ≡ 32 → length x ≤ 700
short_digest x is = omega (arith, is)

short_children : (ds : Option (List (List ℕ))) → IfSome ds (λ ds. (length ds ≡ 16) × AllByRecursion (λ x. length x ≡ 32) ds) → length (children.spell ds) ≤ 12000
short_children None are = rw no_children_is (omega arith)
short_children (Some ds) are = rw (children_is ds are.0) (omega (arith, are.0, items_short (λ d. d) ds (each_weaker _ _ short_digest ds are.1)))

length_digests : (d : Digests) → length (digests_codec.spell d) ≡ length d.own + length (children.spell d.children)
unfolding digests_codec digest raw
length_digests d = length-append d.own (children.spell d.children)

pub digests_can_be_sent : (d : Digests) → AreDigests d → CanBeSent (reply.Digests d)
digests_can_be_sent d are =
    let short : leb (length (digests_codec.spell d) + 1) frame_limit ≡ true = le-leb _ _ (omega (arith, length_digests d, are.own, short_children d.children are.children)) in
    rw short refl

-- ---- indexes and views

-- a text of a term has at most 512 bytes
abbrev pub IsShortTerm : Term → Type 0
IsShortTerm (Text t) = length t ≤ 512
IsShortTerm t = Unit {0}

length_whole : (z : ℤ) → length (whole_number.spell z) ≡ 8
unfolding whole_number
length_whole z = (sized_number (cast_unsigned w64 z)).2

short_term : (t : Term) → IsShortTerm t → length (term.spell t) ≤ 515
unfolding term term_text_codec raw
short_term Null is = omega arith
short_term False is = omega arith
short_term True is = omega arith
short_term (Whole z) is = omega (arith, length_whole z)
short_term (Text t) is = simp length-append (omega (arith, (sized_number (length t)).0, is))

pub record IsShortPlace (p : Place) : Type 0 where
  pub term : IsShortTerm p.term
  pub key : is_key p.key ≡ true

short_place : (p : Place) → IsShortPlace p → length (place.spell p) ≤ 700
unfolding place spot_codec dot
short_place p is = simp length-append (omega (arith, short_term p.term is.term, short_key p.key is.key, (sized_number p.dot.site).1, (sized_number p.dot.counter).2))

pub places_can_be_sent : (ps : List Place) (more : Bool) → AllByRecursion IsShortPlace ps → length ps ≤ page_limit → CanBeSent (reply.Places ps more)
places_can_be_sent ps more all few =
    let short : leb (length ((page place).spell (ps, more)) + 1) frame_limit ≡ true = page_short place ps more (each_weaker _ _ short_place ps all) few in
    let some : leb (length ps) page_limit ≡ true = le-leb _ _ few in
    rw (some, short) refl

length_sum : (z : ℤ) → length (sum.spell z) ≡ 16
unfolding sum
length_sum z = simp length-append (omega (arith, (sized_number (cast_unsigned w128 z / 2 ^ 64)).2, (sized_number (cast_unsigned w128 z % 2 ^ 64)).2))

short_ends : (e : Option (ℤ × ℤ)) → length (ends.spell e) ≤ 17
unfolding ends
short_ends None = omega arith
short_ends (Some e) = simp length-append (omega (arith, length_whole e.0, length_whole e.1))

short_row : (r : RowValue) → length (row_codec.spell r) ≤ 41
unfolding row_codec
short_row r = simp length-append (omega (arith, (sized_number r.count).2, length_sum r.sum, short_ends r.ends))

pub row_can_be_sent : (r : RowValue) → CanBeSent (reply.Row r)
row_can_be_sent r =
    let short : leb (length (row_codec.spell r) + 1) frame_limit ≡ true = le-leb _ _ (omega (arith, short_row r)) in
    rw short refl

abbrev ViewRow : Type 0
ViewRow = Term × ℕ × ℤ × Option (ℤ × ℤ)

short_view_row : (r : ViewRow) → IsShortTerm r.0 → length (view_row.spell r) ≤ 700
unfolding view_row
short_view_row r is = rw length-append (omega (arith, short_term r.0 is, short_row (record { count = r.1; sum = r.2; ends = r.3 })))

pub rows_can_be_sent : (rs : List ViewRow) (more : Bool) → AllByRecursion (λ r. IsShortTerm r.0) rs → length rs ≤ page_limit → CanBeSent (reply.Rows rs more)
rows_can_be_sent rs more all few =
    let short : leb (length ((page view_row).spell (rs, more)) + 1) frame_limit ≡ true = page_short view_row rs more (each_weaker _ _ short_view_row rs all) few in
    let some : leb (length rs) page_limit ≡ true = le-leb _ _ few in
    rw (some, short) refl
