-- The values of questions are lawful.
use Rattle.std.proofs.Common.{◌≡◌, ℕ, ℤ, zero, suc, ◌+◌, ◌*◌, ◌/◌, ◌%◌, ◌^◌, ◌<◌, Bool, true, false, cond, leb, eqb, ◌||◌, List, [], ◌∷◌, ◌++◌, length, Option, Some, None, Result, Ok, Err, refl, sym, ap, subst, ◌∙◌, arith}
use Rattle.std.specs.Prelude.{FitsSigned, MatchOption, ⊤}
use Rattle.std.specs.Int.{w16, w32, w64, w128, cast_signed, cast_unsigned}
use Rattle.std.specs.Str.{is_utf8}
use Rattle.std.proofs.lemmas.Bool.{eqb-true, leb-true}
use Rattle.std.proofs.Math.Dec.{eqb-suc-zero}
use Rattle.std.proofs.lemmas.Int.{to_z-of_z, of_z-to_z}
use Rattle.std.proofs.Math.Facts.{Fits-of_z}
use borrow.Author.Gap.{read_sfits}
use Rattle.mvd_dots.specs.declared.refusals.Refusal.{Refusal}
use Rattle.mvd_dots.specs.declared.refusals.Refusal.TheVariants.{BadTerm, BadBody}
use Rattle.mvd_docs.specs.declared.term.Term.{Term}
use Rattle.mvd_docs.specs.declared.term.Term.TheVariants.{Null, False, True, Whole, Text}
use Rattle.mvd_docs.specs.Name.{is_field, is_view_name}
use Rattle.mvd_docs.specs.TermText.{term_text_of}
use Rattle.mvd_wire.specs.Codec.{◌>>=◌, Codec, byte, number, raw, followed, checked, accepted, read_optional, spell_optional, optional, with_count, nothing, variant}
use Rattle.mvd_wire.specs.Codecs.{layout2, dot, key}
use Rattle.mvd_wire.specs.Rows.{field_of_bytes, field, view_name_of_bytes, view_name, whole_number, text_of_bytes, term_text_codec, term, spot_codec, place, sum, ends, row_codec, view_row, digest, key_count, key_entry, list_of, children_of, children, digests_codec, flag, item_of, items, page, page_limit}
use Rattle.mvd_wire.proofs.Laws.{IsBytes, IsBytes-rest, IsLawful, Takes, bind_ok, ok_is, passed_ok, wide16, wide32, wide64, lawful_byte, lawful_number, lawful_raw, lawful_followed, lawful_checked, lawful_accepted, lawful_named, lawful_named_where, lawful_counted}
use Rattle.mvd_frames.proofs.Tagged.{chosen, lawful_nothing}
use Rattle.mvd_wire.proofs.CodecLaws.{wide_layout2, lawful_sized, lawful_key, lawful_dot}

pub lawful_optional : {X : Type 0} (kind : Codec X) → IsLawful kind → IsLawful (optional kind)
unfolding read_optional
lawful_optional {X} kind law = record { again = λ o rest fits. again o rest fits; takes = λ bytes x fits e. takes bytes x fits e } where
  again : (o : Option X) (rest : List ℕ) → (optional kind).Fits o → read_optional kind (spell_optional kind o ++ rest) ≡ Ok (o, rest)
  again None rest fits = refl
  again (Some x) rest fits = rw (law.again x rest fits) refl

  takes : (bytes : List ℕ) (o : Option X × List ℕ) → IsBytes bytes → read_optional kind bytes ≡ Ok o → Takes bytes (spell_optional kind o.0) o.1 × (optional kind).Fits o.0
  takes [] o fits e = absurd cc
  takes (zero ∷ bytes) o fits e = subst (λ (p : Option X × List ℕ). Takes (0 ∷ bytes) (spell_optional kind p.0) p.1 × (optional kind).Fits p.0) (ok_is (None, bytes) o e) (record { parts = refl; rest_fits = IsBytes-rest 0 bytes fits }, tt)
  takes (suc zero ∷ bytes) o fits e =
      let a = bind_ok (kind.read bytes) (λ x. Ok (Some x.0, x.1)) o e in
      let t = law.takes bytes a.0 (IsBytes-rest 1 bytes fits) a.1 in
      subst (λ (p : Option X × List ℕ). Takes (1 ∷ bytes) (spell_optional kind p.0) p.1 × (optional kind).Fits p.0) (ok_is (Some a.0.0, a.0.1) o a.2) (record { parts = ap (λ (w : List ℕ). 1 ∷ w) t.0.parts; rest_fits = t.0.rest_fits }, t.1)
  takes (suc (suc b) ∷ bytes) o fits e = absurd cc

-- ---- names

accepts_field : (text f : List ℕ) → field_of_bytes text ≡ Ok f → text ≡ f
accepts_field text f e = (passed_ok (is_field text) BadBody text f e).1

accepts_view_name : (text v : List ℕ) → view_name_of_bytes text ≡ Ok v → text ≡ v
accepts_view_name text v e = (passed_ok (is_view_name text) BadBody text v e).1

pub lawful_field : IsLawful field
unfolding field raw
lawful_field = lawful_sized (number w16) (λ n. accepted field_of_bytes (raw n)) (lawful_number w16 wide16)
    (λ n. lawful_accepted field_of_bytes (raw n) accepts_field (lawful_raw n))
    (λ n t fits. fits.0)

pub lawful_view_name : IsLawful view_name
unfolding view_name raw
lawful_view_name = lawful_sized (number w16) (λ n. accepted view_name_of_bytes (raw n)) (lawful_number w16 wide16)
    (λ n. lawful_accepted view_name_of_bytes (raw n) accepts_view_name (lawful_raw n))
    (λ n t fits. fits.0)

-- ---- terms

pub lawful_whole_number : IsLawful whole_number
unfolding whole_number number
lawful_whole_number = record {
  again = λ z rest fits.
      let law = lawful_number w64 wide64 in
      let below : cast_unsigned w64 z < 2 ^ 64 = omega (arith, Fits-of_z {w = w64} {z = z} fits) in
      rw (law.again (cast_unsigned w64 z) rest below, to_z-of_z w64 z fits) refl;
  takes = λ bytes x fits e.
      let law = lawful_number w64 wide64 in
      let a = bind_ok ((number w64).read bytes) (λ n. Ok (cast_signed w64 n.0, n.1)) x e in
      let t = law.takes bytes a.0 fits a.1 in
      subst (λ (p : ℤ × List ℕ). Takes bytes ((number w64).spell (cast_unsigned w64 p.0)) p.1 × FitsSigned w64 p.0) (ok_is (cast_signed w64 a.0.0, a.0.1) x a.2)
      (subst (λ (n : ℕ). Takes bytes ((number w64).spell n) a.0.1) (sym (of_z-to_z w64 a.0.0 t.1)) t.0, read_sfits w64 a.0.0);
}

accepts_text : (text t : List ℕ) → text_of_bytes text ≡ Ok t → text ≡ t
accepts_text text t e = inner (is_utf8 text) e
  where
    inner : (b : Bool) → cond b (term_text_of text) (Err BadTerm) ≡ Ok t → text ≡ t
    inner true e = (passed_ok (leb (length text) 512) BadTerm text t e).1
    inner false e = absurd cc

lawful_term_text : IsLawful term_text_codec
unfolding term_text_codec raw
lawful_term_text = lawful_sized (checked BadTerm (λ n. leb n 512) (number w16)) (λ n. accepted text_of_bytes (raw n))
    (lawful_checked BadTerm (λ n. leb n 512) (number w16) (lawful_number w16 wide16))
    (λ n. lawful_accepted text_of_bytes (raw n) accepts_text (lawful_raw n))
    (λ n t fits. fits.0)

-- every value that is read behind a tag is spelled by the tag and what was taken
abbrev ReadsBehind : {Y : Type 0} → Codec Y → (ℕ → List ℕ → Result (Y × List ℕ) Refusal) → Type 0
ReadsBehind {Y} whole_kind read = (tag : ℕ) (rest : List ℕ) (y : Y × List ℕ) → IsBytes (tag ∷ rest) → read tag rest ≡ Ok y → Takes (tag ∷ rest) (whole_kind.spell y.0) y.1 × whole_kind.Fits y.0

reads_variant : {X Y : Type 0} (outer : Codec Y) (tag : ℕ) (kind : Codec X) (made : X → Y) (otherwise : ℕ → List ℕ → Result (Y × List ℕ) Refusal)
    → IsLawful kind → ((x : X) → outer.spell (made x) ≡ tag ∷ kind.spell x) → ((x : X) → kind.Fits x → outer.Fits (made x)) → ReadsBehind outer otherwise → ReadsBehind outer (variant tag kind made otherwise)
reads_variant {X} {Y} outer tag kind made otherwise law spelled fits others byte' rest y bytes e =
    chosen (eqb byte' tag) (kind.read rest >>= λ x. Ok (made x.0, x.1)) (otherwise byte' rest) (Ok y) (Takes (byte' ∷ rest) (outer.spell y.0) y.1 × outer.Fits y.0) e
    (λ is found.
    let a = bind_ok (kind.read rest) (λ x. Ok (made x.0, x.1)) y found in
    let t = law.takes rest a.0 (IsBytes-rest byte' rest bytes) a.1 in
    let parts : byte' ∷ rest ≡ outer.spell (made a.0.0) ++ a.0.1 = ap (λ (w : List ℕ). byte' ∷ w) t.0.parts ∙ ap (λ (n : ℕ). n ∷ (kind.spell a.0.0 ++ a.0.1)) (eqb-true byte' tag is) ∙ ap (λ (w : List ℕ). w ++ a.0.1) (sym (spelled a.0.0)) in
    subst (λ (p : Y × List ℕ). Takes (byte' ∷ rest) (outer.spell p.0) p.1 × outer.Fits p.0) (ok_is (made a.0.0, a.0.1) y a.2) (record { parts = parts; rest_fits = t.0.rest_fits }, fits a.0.0 t.1))
    (λ other. others byte' rest y bytes other)

term_takes : (bytes : List ℕ) (x : Term × List ℕ) → IsBytes bytes → term.read bytes ≡ Ok x → Takes bytes (term.spell x.0) x.1 × term.Fits x.0
unfolding term
term_takes [] x fits e = absurd cc
term_takes (tag ∷ rest) x fits e =
    reads_variant term 0 nothing (λ _. Null) _ lawful_nothing (λ _. refl) (λ _ _. tt)
    (reads_variant term 1 nothing (λ _. False) _ lawful_nothing (λ _. refl) (λ _ _. tt)
    (reads_variant term 2 nothing (λ _. True) _ lawful_nothing (λ _. refl) (λ _ _. tt)
    (reads_variant term 3 whole_number Whole _ lawful_whole_number (λ _. refl) (λ _ f. f)
    (reads_variant term 4 term_text_codec Text (λ _ _. Err BadTerm) lawful_term_text (λ _. refl) (λ _ f. f)
    (λ tag rest y bytes e. absurd cc))))) tag rest x fits e

term_again : (x : Term) (rest : List ℕ) → term.Fits x → term.read (term.spell x ++ rest) ≡ Ok (x, rest)
unfolding term
term_again Null rest fits = refl
term_again False rest fits = refl
term_again True rest fits = refl
term_again (Whole z) rest fits = rw (lawful_whole_number.again z rest fits) refl
term_again (Text t) rest fits = rw (lawful_term_text.again t rest fits) refl

pub lawful_term : IsLawful term
lawful_term = record { again = term_again; takes = term_takes }

-- ---- places

pub lawful_spot : IsLawful spot_codec
unfolding spot_codec
lawful_spot = lawful_followed key (λ _. dot layout2) lawful_key (λ _. lawful_dot layout2 wide_layout2)

pub lawful_place : IsLawful place
unfolding place
lawful_place = lawful_named (λ p. (p.term, (p.key, p.dot))) (λ p. record { term = p.0; key = p.1.0; dot = p.1.1 }) (followed term (λ _. spot_codec)) (λ p fits. refl) (λ p. refl)
    (lawful_followed term (λ _. spot_codec) lawful_term (λ _. lawful_spot))

-- ---- rows

halves : (n : ℕ) → n / 2 ^ 64 * 2 ^ 64 + n % 2 ^ 64 ≡ n
halves n = omega arith

upper : (h l : ℕ) → l < 2 ^ 64 → (h * 2 ^ 64 + l) / 2 ^ 64 ≡ h
upper h l lt = omega arith

lower : (h l : ℕ) → l < 2 ^ 64 → (h * 2 ^ 64 + l) % 2 ^ 64 ≡ l
lower h l lt = omega arith

pub lawful_sum : IsLawful sum
unfolding sum number
lawful_sum = lawful_named_where (FitsSigned w128) (λ z. (cast_unsigned w128 z / 2 ^ 64, cast_unsigned w128 z % 2 ^ 64)) (λ p. cast_signed w128 (p.0 * 2 ^ 64 + p.1)) (followed (number w64) (λ _. number w64))
    (λ p fits.
    let high : p.0 < 2 ^ 64 = fits.0 in
    let low : p.1 < 2 ^ 64 = fits.1 in
    let whole : cast_unsigned w128 (cast_signed w128 (p.0 * 2 ^ 64 + p.1)) ≡ p.0 * 2 ^ 64 + p.1 = of_z-to_z w128 (p.0 * 2 ^ 64 + p.1) (omega arith) in
    (rw (whole, upper p.0 p.1 low, lower p.0 p.1 low) refl, read_sfits w128 (p.0 * 2 ^ 64 + p.1)))
    (λ z fits. rw (halves (cast_unsigned w128 z)) (to_z-of_z w128 z fits))
    (lawful_followed (number w64) (λ _. number w64) (lawful_number w64 wide64) (λ _. lawful_number w64 wide64))

pub lawful_ends : IsLawful ends
unfolding ends
lawful_ends = lawful_optional (followed whole_number (λ _. whole_number)) (lawful_followed whole_number (λ _. whole_number) lawful_whole_number (λ _. lawful_whole_number))

pub lawful_row : IsLawful row_codec
unfolding row_codec
lawful_row = lawful_named (λ r. (r.count, (r.sum, r.ends))) (λ p. record { count = p.0; sum = p.1.0; ends = p.1.1 }) (followed (number w64) (λ _. followed sum (λ _. ends))) (λ p fits. refl) (λ r. refl)
    (lawful_followed (number w64) (λ _. followed sum (λ _. ends)) (lawful_number w64 wide64) (λ _. lawful_followed sum (λ _. ends) lawful_sum (λ _. lawful_ends)))

pub lawful_view_row : IsLawful view_row
unfolding view_row
lawful_view_row = lawful_named (λ r. (r.0, record { count = r.1; sum = r.2; ends = r.3 })) (λ p. (p.0, p.1.count, p.1.sum, p.1.ends)) (followed term (λ _. row_codec)) (λ p fits. refl) (λ r. refl)
    (lawful_followed term (λ _. row_codec) lawful_term (λ _. lawful_row))

pub lawful_key_count : IsLawful key_count
unfolding key_count
lawful_key_count = lawful_followed key (λ _. number w32) lawful_key (λ _. lawful_number w32 wide32)

-- ---- digests

pub lawful_digest : IsLawful digest
unfolding digest
lawful_digest = lawful_raw 32

pub lawful_key_entry : IsLawful key_entry
unfolding key_entry
lawful_key_entry = lawful_followed key (λ _. digest) lawful_key (λ _. lawful_digest)

none_or_all : (ds : List (List ℕ)) → (eqb (length ds) 0 || eqb (length ds) 16) ≡ true → (list_of (children_of ds) ≡ ds) × MatchOption (children_of ds) ⊤ (λ cs. length cs ≡ 16)
none_or_all [] is = (refl, tt)
none_or_all (d ∷ ds) is = (refl, eqb-true _ _ (second (eqb (length (d ∷ ds)) 0) (eqb (length (d ∷ ds)) 16) (rw eqb-suc-zero refl) is))
  where
    second : (a b : Bool) → a ≡ false → (a || b) ≡ true → b ≡ true
    second true b never e = absurd cc
    second false b never e = e

back_again : (c : Option (List (List ℕ))) → MatchOption c ⊤ (λ ds. length ds ≡ 16) → children_of (list_of c) ≡ c
back_again None good = refl
back_again (Some []) good = absurd (omega (arith, good))
back_again (Some (d ∷ ds)) good = refl

pub lawful_children : IsLawful children
unfolding children
lawful_children =
    let count = checked BadBody (λ n. eqb n 0 || eqb n 16) byte in
    lawful_named_where (λ c. MatchOption c ⊤ (λ ds. length ds ≡ 16)) list_of children_of (with_count (item_of digest) (λ s _. s) count tt)
    (λ ds fits. none_or_all ds fits.0.1) back_again
    (lawful_counted (item_of digest) (λ s _. s) (λ _. lawful_digest) count tt (lawful_checked BadBody (λ n. eqb n 0 || eqb n 16) byte lawful_byte))

pub lawful_digests : IsLawful digests_codec
unfolding digests_codec
lawful_digests = lawful_named (λ d. (d.own, d.children)) (λ p. record { own = p.0; children = p.1 }) (followed digest (λ _. children)) (λ p fits. refl) (λ d. refl)
    (lawful_followed digest (λ _. children) lawful_digest (λ _. lawful_children))

-- ---- pages

lawful_flag : IsLawful flag
lawful_flag = lawful_named (λ b. cond b 1 0) (λ n. eqb n 1) (checked BadBody (λ n. leb n 1) byte) there (λ b. back b) (lawful_checked BadBody (λ n. leb n 1) byte lawful_byte)
  where
    there : (n : ℕ) → (checked BadBody (λ m. leb m 1) byte).Fits n → cond (eqb n 1) 1 0 ≡ n
    there zero fits = refl
    there (suc zero) fits = refl
    there (suc (suc n)) fits = absurd (omega (arith, leb-true (suc (suc n)) 1 fits.1))

    back : (b : Bool) → eqb (cond b 1 0) 1 ≡ b
    back true = refl
    back false = refl

pub lawful_items : {X : Type 0} (kind : Codec X) → IsLawful kind → IsLawful (items kind)
unfolding items
lawful_items kind law =
    let count = checked BadBody (λ n. leb n page_limit) (number w16) in
    lawful_counted (item_of kind) (λ s _. s) (λ _. law) count tt (lawful_checked BadBody (λ n. leb n page_limit) (number w16) (lawful_number w16 wide16))

pub lawful_page : {X : Type 0} (kind : Codec X) → IsLawful kind → IsLawful (page kind)
unfolding page
lawful_page kind law =
    lawful_named (λ p. (p.1, p.0)) (λ p. (p.1, p.0)) (followed flag (λ _. items kind)) (λ p fits. refl) (λ p. refl)
    (lawful_followed flag (λ _. items kind) lawful_flag (λ _. lawful_items kind law))
