-- What a frame asks pushes no state but one of some writes: each sibling that is read has a dot of the context.
use Rattle.std.proofs.Common.{◌≡◌, ◌∙◌, ℕ, Bool, true, false, cond, eqb, length, List, [], ◌∷◌, Option, Some, None, Result, Ok, Err, refl, sym, ap, subst}
use Rattle.std.specs.Int.{w16}
use Rattle.std.specs.Prelude.{◌&&◌, is_some, nat_le, suc, zero}
use Rattle.std.specs.List.{AllByRecursion}
use Rattle.std.specs.Ordering.{eq_by_cmp}
use Rattle.std.specs.FinMap.{entries as pairs, find, from_entries, get-from_entries}
use Rattle.std.specs.FinSet.{contains}
use Rattle.mvd_dots.proofs.Sets.{dot_total, same_dot}
use Rattle.mvd_dots.specs.Context.{DotSet}
use Rattle.mvd_dots.specs.Dot.{DotValue, dot_cmp}
use Rattle.mvd_dots.specs.declared.refusals.Refusal.{Refusal}
use Rattle.mvd_dots.specs.declared.refusals.Refusal.TheVariants.{BadBody, BadKind, StateTooLarge}
use Rattle.mvd_keys.proofs.Rising.{Pair}
use Rattle.mvd_keys.specs.State.{IsValid, State, Text}
use Rattle.mvd_site.specs.Known.{IsValidRequest}
use Rattle.mvd_wire.proofs.Laws.{bind_ok, ok_is, passed_ok}
use Rattle.mvd_wire.specs.Codec.{◌>>=◌, Codec, checked, each, followed, named, nothing, number, optional, read_each, tagged, whole}
use Rattle.mvd_wire.specs.Codecs.{comes_after, context_codec, document, dot, key, layout2, path, sibling, siblings_codec, state_codec, token, unlimited_state}
use Rattle.mvd_wire.specs.Requests.{bucket, delete, find_codec, keys_of_prefix, push, put, range, request_of, row_of_view_codec, rows_of_view_codec}
use Rattle.mvd_wire.specs.declared.request.Request.{Request}
use Rattle.mvd_wire.specs.declared.request.Request.TheVariants.{Get, Put, Delete, Find, Row, Rows, Node, Bucket, Push, Range, Keys, Conflicts, Hello, Bye}

-- ---- what a codec reads

checked_read : {X : Type 0} (refusal : Refusal) (test : X → Bool) (kind : Codec X) (bytes : List ℕ) (x : X × List ℕ) → (checked refusal test kind).read bytes ≡ Ok x → (test x.0 ≡ true) × (kind.read bytes ≡ Ok x)
checked_read {X} refusal test kind bytes x is =
    let (z, read, passed) = bind_ok (kind.read bytes) (λ z. cond (test z.0) (Ok z) (Err refusal)) x is in
    let (passes, same) = passed_ok (test z.0) refusal z x passed in
    subst (λ (w : X × List ℕ). (test w.0 ≡ true) × (kind.read bytes ≡ Ok w)) same (passes, read)

followed_read : {X Y : Type 0} (first : Codec X) (second : X → Codec Y) (bytes : List ℕ) (x : (X × Y) × List ℕ) → (followed first second).read bytes ≡ Ok x →
    (mid : List ℕ) × (first.read bytes ≡ Ok (x.0.0, mid)) × ((second x.0.0).read mid ≡ Ok (x.0.1, x.1))
followed_read {X} {Y} first second bytes x is =
    let (a, one, rest) = bind_ok (first.read bytes) (λ a. (second a.0).read a.1 >>= λ y. Ok ((a.0, y.0), y.1)) x is in
    let (b, two, both) = bind_ok ((second a.0).read a.1) (λ y. Ok ((a.0, y.0), y.1)) x rest in
    subst (λ (w : (X × Y) × List ℕ). (mid : List ℕ) × (first.read bytes ≡ Ok (w.0.0, mid)) × ((second w.0.0).read mid ≡ Ok (w.0.1, w.1))) (ok_is ((a.0, b.0), b.1) x both) (a.1, one, two)

named_read : {X Y : Type 0} (parts : Y → X) (made : X → Y) (kind : Codec X) (bytes : List ℕ) (y : Y × List ℕ) → (named parts made kind).read bytes ≡ Ok y →
    (x : X) × (kind.read bytes ≡ Ok (x, y.1)) × (made x ≡ y.0)
named_read {X} {Y} parts made kind bytes y is =
    let (a, read, same) = bind_ok (kind.read bytes) (λ a. Ok (made a.0, a.1)) y is in
    subst (λ (w : Y × List ℕ). (x : X) × (kind.read bytes ≡ Ok (x, w.1)) × (made x ≡ w.0)) (ok_is (made a.0, a.1) y same) (a.0, read, refl)

whole_read : {X : Type 0} (kind : Codec X) (bytes : List ℕ) (x : X) → whole kind bytes ≡ Ok x → (rest : List ℕ) × (kind.read bytes ≡ Ok (x, rest))
whole_read {X} kind bytes x is =
    let (a, read, ends) = bind_ok (kind.read bytes) (λ a. cond (eqb (length a.1) 0) (Ok a.0) (Err BadBody)) x is in
    let (none, same) = passed_ok (eqb (length a.1) 0) BadBody a.0 x ends in
    subst (λ (w : X). (rest : List ℕ) × (kind.read bytes ≡ Ok (w, rest))) same (a.1, read)

-- ---- a state

abbrev AreSeen : DotSet → List Pair → Type 0
AreSeen dots ps = AllByRecursion (λ (p : Pair). contains dots p.0 ≡ true) ps

found_seen : (dots : DotSet) (ps : List Pair) (q : DotValue) → AreSeen dots ps → is_some (find dot_cmp q ps) ≡ true → contains dots q ≡ true
found_seen dots [] q seen found = absurd cc
found_seen dots (p ∷ ps) q (one, seen) found =
    elim (eq_by_cmp dot_cmp q p.0) as (λ b. eq_by_cmp dot_cmp q p.0 ≡ b → is_some (cond b (Some p.1) (find dot_cmp q ps)) ≡ true → contains dots q ≡ true) [
      | true ↦ λ tied _. subst (λ (d : DotValue). contains dots d ≡ true) (sym (same_dot q p.0 tied)) one
      | false ↦ λ _ later. found_seen dots ps q seen later
    ] refl found

valid_seen : (dots : DotSet) (ps : List Pair) → AreSeen dots ps → IsValid (record { siblings = from_entries ps; context = dots })
valid_seen dots ps seen = record { seen = λ q held. found_seen dots ps q seen (sym (ap is_some (get-from_entries dot_total ps q)) ∙ held) }

second_of : (a b : Bool) → (a && b) ≡ true → b ≡ true
second_of true b passes = passes
second_of false b passes = absurd cc

sibling_seen : (dots : DotSet) (previous : Option DotValue) (bytes : List ℕ) (x : Pair × List ℕ) → (sibling layout2 dots previous).read bytes ≡ Ok x → contains dots x.0.0 ≡ true
unfolding sibling
sibling_seen dots previous bytes x is =
    let test : DotValue → Bool = λ d. comes_after previous d && contains dots d in
    let (mid, one, two) = followed_read (checked BadBody test (dot layout2)) (λ _. document) bytes x is in
    let (passes, read) = checked_read BadBody test (dot layout2) bytes (x.0.0, mid) one in
    second_of (comes_after previous x.0.0) (contains dots x.0.0) passes

each_seen : (dots : DotSet) (previous : Option DotValue) (n : ℕ) (bytes : List ℕ) (x : List Pair × List ℕ) → read_each (sibling layout2 dots) (λ _ s. Some s.0) previous n bytes ≡ Ok x → AreSeen dots x.0
unfolding read_each
each_seen dots previous zero bytes x is = subst (λ (w : List Pair × List ℕ). AreSeen dots w.0) (ok_is ([], bytes) x is) tt
each_seen dots previous (suc n) bytes x is =
    let (p, read, rest) = bind_ok ((sibling layout2 dots previous).read bytes) (λ p. read_each (sibling layout2 dots) (λ _ s. Some s.0) (Some p.0.0) n p.1 >>= λ xs. Ok (p.0 ∷ xs.0, xs.1)) x is in
    let (xs, others, made) = bind_ok (read_each (sibling layout2 dots) (λ _ s. Some s.0) (Some p.0.0) n p.1) (λ xs. Ok (p.0 ∷ xs.0, xs.1)) x rest in
    subst (λ (w : List Pair × List ℕ). AreSeen dots w.0) (ok_is (p.0 ∷ xs.0, xs.1) x made)
    (sibling_seen dots previous bytes p read, each_seen dots (Some p.0.0) n p.1 xs others)

siblings_seen : (dots : DotSet) (bytes : List ℕ) (x : List Pair × List ℕ) → (siblings_codec layout2 dots).read bytes ≡ Ok x → AreSeen dots x.0
unfolding siblings_codec
siblings_seen dots bytes x is =
    let all = each (sibling layout2 dots) (λ _ s. Some s.0) None in
    let (p, read, made) = named_read (λ (xs : List Pair). (length xs, xs)) (λ (p : ℕ × List Pair). p.1) (followed (number w16) all) bytes x is in
    let (mid, one, two) = followed_read (number w16) all bytes (p, x.1) read in
    subst (AreSeen dots) made (each_seen dots None p.0 mid (p.1, x.1) two)

state_seen : (bytes : List ℕ) (x : State × List ℕ) → (state_codec layout2).read bytes ≡ Ok x → IsValid x.0
unfolding state_codec unlimited_state
state_seen bytes x is =
    let parts : State → DotSet × List Pair = λ s. (s.context, pairs s.siblings) in
    let made : DotSet × List Pair → State = λ p. record { siblings = from_entries p.1; context = p.0 } in
    let both : Codec (DotSet × List Pair) = followed (context_codec layout2) (λ dots. siblings_codec layout2 dots) in
    let (within, read) = checked_read StateTooLarge (λ s. nat_le (length ((unlimited_state layout2).spell s)) layout2.limit) (named parts made both) bytes x is in
    let (p, found, same) = named_read parts made both bytes x read in
    let (mid, one, two) = followed_read (context_codec layout2) (λ dots. siblings_codec layout2 dots) bytes (p, x.1) found in
    subst IsValid same (valid_seen p.0 p.1 (siblings_seen p.0 mid (p.1, x.1) two))

-- ---- a request

abbrev AsksFine : (ℕ → List ℕ → Result Request Refusal) → Type 0
AsksFine decode = (kind : ℕ) (payload : List ℕ) (request : Request) → decode kind payload ≡ Ok request → IsValidRequest request

chosen : (b : Bool) (x y z : Result Request Refusal) (P : Type 0) → cond b x y ≡ z → (x ≡ z → P) → (y ≡ z → P) → P
chosen true x y z P e first second = first e
chosen false x y z P e first second = second e

fine_tagged : {X : Type 0} (tag : ℕ) (kind : Codec X) (made : X → Request) (otherwise : ℕ → List ℕ → Result Request Refusal) → ((bytes : List ℕ) (x : X) → whole kind bytes ≡ Ok x → IsValidRequest (made x)) →
    AsksFine otherwise → AsksFine (tagged tag kind made otherwise)
fine_tagged tag kind made otherwise fine others byte payload request e =
    chosen (eqb byte tag) (whole kind payload >>= λ x. Ok (made x)) (otherwise byte payload) (Ok request) (IsValidRequest request) e
    (λ found.
    let (x, read, is) = bind_ok (whole kind payload) (λ x. Ok (made x)) request found in
    subst IsValidRequest (ok_is (made x) request is) (fine payload x read))
    (λ other. others byte payload request other)

push_fine : (bytes : List ℕ) (x : Text × State) → whole push bytes ≡ Ok x → IsValid x.1
unfolding push
push_fine bytes x is =
    let (rest, read) = whole_read push bytes x is in
    let (mid, one, two) = followed_read key (λ _. state_codec layout2) bytes (x, rest) read in
    state_seen mid (x.1, rest) two

pub request_fine : AsksFine request_of
request_fine =
    fine_tagged 0x21 key Get _ (λ _ _ _. tt)
    (fine_tagged 0x22 put (λ p. Put p.0 p.1.0 p.1.1) _ (λ _ _ _. tt)
    (fine_tagged 0x23 delete (λ p. Delete p.0 p.1) _ (λ _ _ _. tt)
    (fine_tagged 0x24 find_codec (λ p. Find p.0 p.1.0 p.1.1) _ (λ _ _ _. tt)
    (fine_tagged 0x25 row_of_view_codec (λ p. Row p.0 p.1) _ (λ _ _ _. tt)
    (fine_tagged 0x26 rows_of_view_codec (λ p. Rows p.0 p.1) _ (λ _ _ _. tt)
    (fine_tagged 0x27 path Node _ (λ _ _ _. tt)
    (fine_tagged 0x28 bucket (λ p. Bucket p.0 p.1) _ (λ _ _ _. tt)
    (fine_tagged 0x29 push (λ p. Push p.0 p.1) _ push_fine
    (fine_tagged 0x2A range (λ p. Range p.0 p.1.0 p.1.1.0 p.1.1.1) _ (λ _ _ _. tt)
    (fine_tagged 0x2B keys_of_prefix (λ p. Keys p.0 p.1) _ (λ _ _ _. tt)
    (fine_tagged 0x2C (optional key) Conflicts _ (λ _ _ _. tt)
    (fine_tagged 0x2D token Hello _ (λ _ _ _. tt)
    (fine_tagged 0x2F nothing (λ _. Bye) (λ _ _. Err BadKind) (λ _ _ _. tt)
    (λ kind payload request e. absurd cc))))))))))))))
