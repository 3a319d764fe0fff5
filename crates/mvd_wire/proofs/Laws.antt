-- What is read is what was spelled, and what was spelled is read again: for each way to make a kind of kinds.
use Rattle.std.proofs.Common.{◌≡◌, ℕ, zero, suc, ◌+◌, ◌*◌, ◌^◌, ◌<◌, ◌≤◌, Bool, true, false, cond, ltb, eqb, List, [], ◌∷◌, ◌++◌, length, get_or, take, drop, Result, Ok, Err, refl, sym, ap, subst, ◌∙◌, append_assoc, arith, inl, inr}
use Rattle.std.specs.Prelude.{IfOk}
use Rattle.std.specs.Int.{Width, w16, w32, w64, byte_len, from_be_bytes, to_be_bytes}
use Rattle.std.proofs.lemmas.Bool.{cases_lt, ltb-false, le-ltb, eqb-true}
use Rattle.std.proofs.lemmas.List.{take_at, drop_at, take-append-drop, length-append, length-take, get_or-drop, get_or-take, get_or_past, append-nil, nil_from_length}
use Rattle.std.proofs.lemmas.Nat.{be_bytes_2, be_bytes_4, be_bytes_8, from_be_bytes-to_be_bytes_2, from_be_bytes-to_be_bytes_4, from_be_bytes-to_be_bytes_8}
use Rattle.mvd_dots.specs.declared.refusals.Refusal.{Refusal}
use Rattle.mvd_dots.specs.declared.refusals.Refusal.TheVariants.{BadBody}
use Rattle.mvd_dots.specs.Answer.{IsAnswer}
use Rattle.mvd_wire.specs.Codec.{◌>>=◌, Codec, byte, number, raw, followed, checked, accepted, named, named_where, read_each, spell_each, FitEach, each, with_count, whole, Gives, Spells, IsPrefixFree}

abbrev pub IsBytes : List ℕ → Type 0
IsBytes bytes = (i : ℕ) → get_or bytes i 0 < 256

IsBytes-drop : (n : ℕ) (bytes : List ℕ) → IsBytes bytes → IsBytes (drop n bytes)
IsBytes-drop n bytes h i = rw get_or-drop (h (n + i))

pub IsBytes-take : (n : ℕ) (bytes : List ℕ) → IsBytes bytes → IsBytes (take n bytes)
IsBytes-take n bytes h i =
    elim (cases_lt i n) [
      | inl lt ↦ rw (get_or-take n bytes i 0 lt) (h i)
      | inr le ↦ rw (get_or_past (take n bytes) i 0 (omega (arith, length-take n bytes))) (omega arith)
    ]

pub IsBytes-rest : (b : ℕ) (bytes : List ℕ) → IsBytes (b ∷ bytes) → IsBytes bytes
IsBytes-rest b bytes h i = h (suc i)

-- the value of a step that did not fail
pub bind_ok : {A B : Type 0} (r : Result A Refusal) (f : A → Result B Refusal) (y : B) → (r >>= f) ≡ Ok y → (x : A) × (r ≡ Ok x) × (f x ≡ Ok y)
bind_ok (Ok x) f y e = (x, refl, e)
bind_ok (Err d) f y e = absurd cc

-- a test that did not fail
pub guard_ok : {A : Type 0} (b : Bool) (d : Refusal) (x y : A) → cond b (Err d) (Ok x) ≡ Ok y → (b ≡ false) × (x ≡ y)
guard_ok true d x y e = absurd cc
guard_ok false d x y e = (refl, cc)

pub passed_ok : {A : Type 0} (b : Bool) (d : Refusal) (x y : A) → cond b (Ok x) (Err d) ≡ Ok y → (b ≡ true) × (x ≡ y)
passed_ok true d x y e = (refl, cc)
passed_ok false d x y e = absurd cc

abbrev done : {A : Type 0} → A → Result A Refusal
done x = Ok x

pub ok_is : {A : Type 0} (x y : A) → done x ≡ done y → x ≡ y
ok_is x y e = cc

-- what was taken from the front
pub record Takes (bytes text rest : List ℕ) : Type 0 where
  pub parts : bytes ≡ text ++ rest
  pub rest_fits : IsBytes rest

Takes-then : (a x b y c : List ℕ) → Takes a x b → Takes b y c → Takes a (x ++ y) c
Takes-then a x b y c p q = record { parts = p.parts ∙ ap (λ (t : List ℕ). x ++ t) q.parts ∙ sym (append_assoc x y c); rest_fits = q.rest_fits }

pub record IsLawful {X : Type 0} (kind : Codec X) : Type 0 where
  pub again : (x : X) (rest : List ℕ) → kind.Fits x → kind.read (kind.spell x ++ rest) ≡ Ok (x, rest)
  pub takes : (bytes : List ℕ) (x : X × List ℕ) → IsBytes bytes → kind.read bytes ≡ Ok x → Takes bytes (kind.spell x.0) x.1 × kind.Fits x.0

-- ---- what follows for every lawful kind

pub prefix_free : {X : Type 0} (kind : Codec X) → IsLawful kind → IsPrefixFree kind
prefix_free {X} kind law x y a b fits_x fits_y e =
    let same : (x, a) ≡ (y, b) = ok_is (x, a) (y, b) (sym (law.again x a fits_x) ∙ ap kind.read e ∙ law.again y b fits_y) in
    (ap (λ (p : X × List ℕ). p.0) same, ap (λ (p : X × List ℕ). p.1) same)

pub whole_takes : {X : Type 0} (kind : Codec X) → IsLawful kind → (bytes : List ℕ) (x : X) → IsBytes bytes → whole kind bytes ≡ Ok x → Spells kind x bytes
whole_takes {X} kind law bytes x fits e =
    let a = bind_ok (kind.read bytes) (λ y. cond (eqb (length y.1) 0) (Ok y.0) (Err BadBody)) x e in
    let g = passed_ok (eqb (length a.0.1) 0) BadBody a.0.0 x a.2 in
    let t = law.takes bytes a.0 fits a.1 in
    let nothing : a.0.1 ≡ [] = nil_from_length a.0.1 (eqb-true _ _ g.0) in
    let all : bytes ≡ kind.spell a.0.0 = t.0.parts ∙ ap (λ (r : List ℕ). kind.spell a.0.0 ++ r) nothing ∙ append-nil (kind.spell a.0.0) in
    subst (λ (y : X). Spells kind y bytes) g.1 (t.1, all)

pub whole_again : {X : Type 0} (kind : Codec X) → IsLawful kind → (x : X) → kind.Fits x → whole kind (kind.spell x) ≡ Ok x
whole_again {X} kind law x fits =
    let e : kind.read (kind.spell x) ≡ Ok (x, []) = ap kind.read (sym (append-nil (kind.spell x))) ∙ law.again x [] fits in
    rw e refl

-- ---- the smallest kinds

pub lawful_byte : IsLawful byte
lawful_byte = record {
  again = λ x rest fits. refl;
  takes = λ bytes x fits e. byte_takes bytes x fits e;
} where
  byte_takes : (bytes : List ℕ) (x : ℕ × List ℕ) → IsBytes bytes → byte.read bytes ≡ Ok x → Takes bytes (byte.spell x.0) x.1 × byte.Fits x.0
  byte_takes [] x fits e = absurd cc
  byte_takes (b ∷ rest) x fits e = subst (λ (y : ℕ × List ℕ). Takes (b ∷ rest) (y.0 ∷ []) y.1 × (y.0 < 256)) (ok_is (b, rest) x e) (record { parts = refl; rest_fits = IsBytes-rest b rest fits }, fits 0)

pub record IsWide (w : Width) : Type 0 where
  pub len : (n : ℕ) → length (to_be_bytes w n) ≡ byte_len w
  pub back : (bytes : List ℕ) → length bytes ≡ byte_len w → IsBytes bytes → to_be_bytes w (from_be_bytes w bytes) ≡ bytes
  pub again : (n : ℕ) → n < 2 ^ (8 * byte_len w) → from_be_bytes w (to_be_bytes w n) ≡ n
  pub below : (bytes : List ℕ) → IsBytes bytes → from_be_bytes w bytes < 2 ^ (8 * byte_len w)

pub wide16 : IsWide w16
wide16 = record {
  len = λ n. refl;
  back = λ bytes len fits. be_bytes_2 bytes _ len fits refl;
  again = λ n lt. from_be_bytes-to_be_bytes_2 n lt;
  below = λ bytes fits. omega (arith, fits 0, fits 1);
}

pub wide32 : IsWide w32
wide32 = record {
  len = λ n. refl;
  back = λ bytes len fits. be_bytes_4 bytes _ len fits refl;
  again = λ n lt. from_be_bytes-to_be_bytes_4 n lt;
  below = λ bytes fits. omega (arith, fits 0, fits 1, fits 2, fits 3);
}

pub wide64 : IsWide w64
wide64 = record {
  len = λ n. refl;
  back = λ bytes len fits. be_bytes_8 bytes _ len fits refl;
  again = λ n lt. from_be_bytes-to_be_bytes_8 n lt;
  below = λ bytes fits. omega (arith, fits 0, fits 1, fits 2, fits 3, fits 4, fits 5, fits 6, fits 7);
}

number_takes : (w : Width) → IsWide w → (bytes : List ℕ) (n : ℕ) (rest : List ℕ) → IsBytes bytes → (number w).read bytes ≡ Ok (n, rest) → Takes bytes (to_be_bytes w n) rest × (n < 2 ^ (8 * byte_len w))
unfolding number
number_takes w wide bytes n rest fits e =
    let g = guard_ok (ltb (length bytes) (byte_len w)) BadBody (from_be_bytes w (take (byte_len w) bytes), drop (byte_len w) bytes) (n, rest) e in
    let long : byte_len w ≤ length bytes = ltb-false _ _ g.0 in
    let n-is : from_be_bytes w (take (byte_len w) bytes) ≡ n = ap (λ (p : ℕ × List ℕ). p.0) g.1 in
    let rest-is : drop (byte_len w) bytes ≡ rest = ap (λ (p : ℕ × List ℕ). p.1) g.1 in
    let front : to_be_bytes w n ≡ take (byte_len w) bytes = rw (← n-is) (wide.back (take (byte_len w) bytes) (omega (arith, length-take (byte_len w) bytes)) (IsBytes-take (byte_len w) bytes fits)) in
    (record { parts = rw (front, ← rest-is) (sym (take-append-drop (byte_len w) bytes)); rest_fits = rw (← rest-is) (IsBytes-drop (byte_len w) bytes fits) }, rw (← n-is) (wide.below (take (byte_len w) bytes) (IsBytes-take (byte_len w) bytes fits)))

number_again : (w : Width) → IsWide w → (n : ℕ) (rest : List ℕ) → n < 2 ^ (8 * byte_len w) → (number w).read (to_be_bytes w n ++ rest) ≡ Ok (n, rest)
unfolding number
number_again w wide n rest lt =
    let len = wide.len n in
    let long : ltb (length (to_be_bytes w n ++ rest)) (byte_len w) ≡ false = le-ltb _ _ (omega (arith, length-append (to_be_bytes w n) rest)) in
    rw (long, take_at (to_be_bytes w n) rest (byte_len w) len, drop_at (to_be_bytes w n) rest (byte_len w) len, wide.again n lt) refl

pub lawful_number : (w : Width) → IsWide w → IsLawful (number w)
unfolding number
lawful_number w wide = record {
  again = λ n rest fits. number_again w wide n rest fits;
  takes = λ bytes x fits e. number_takes w wide bytes x.0 x.1 fits e;
}

pub lawful_raw : (n : ℕ) → IsLawful (raw n)
unfolding raw
lawful_raw n = record {
  again = λ text rest len.
      let long : ltb (length (text ++ rest)) n ≡ false = le-ltb _ _ (omega (arith, length-append text rest)) in
      rw (long, take_at text rest n len, drop_at text rest n len) refl;
  takes = λ bytes x fits e.
      let g = guard_ok (ltb (length bytes) n) BadBody (take n bytes, drop n bytes) x e in
      let long : n ≤ length bytes = ltb-false _ _ g.0 in
      let len : length (take n bytes) ≡ n = omega (arith, length-take n bytes) in
      subst (λ (y : List ℕ × List ℕ). Takes bytes y.0 y.1 × (length y.0 ≡ n)) g.1 (record { parts = sym (take-append-drop n bytes); rest_fits = IsBytes-drop n bytes fits }, len);
}

-- ---- kinds made of kinds

pub lawful_followed : {X Y : Type 0} (first : Codec X) (second : X → Codec Y) → IsLawful first → ((x : X) → IsLawful (second x)) → IsLawful (followed first second)
lawful_followed {X} {Y} first second one two = record {
  again = λ p rest fits. rw (append_assoc (first.spell p.0) ((second p.0).spell p.1) rest, one.again p.0 ((second p.0).spell p.1 ++ rest) fits.0, (two p.0).again p.1 rest fits.1) refl;
  takes = λ bytes p fits e.
      let a = bind_ok (first.read bytes) (λ x. (second x.0).read x.1 >>= λ y. Ok ((x.0, y.0), y.1)) p e in
      let b = bind_ok ((second a.0.0).read a.0.1) (λ y. Ok ((a.0.0, y.0), y.1)) p a.2 in
      let t1 = one.takes bytes a.0 fits a.1 in
      let t2 = (two a.0.0).takes a.0.1 b.0 t1.0.rest_fits b.1 in
      let both = Takes-then bytes (first.spell a.0.0) a.0.1 ((second a.0.0).spell b.0.0) b.0.1 t1.0 t2.0 in
      subst (λ (q : (X × Y) × List ℕ). Takes bytes ((followed first second).spell q.0) q.1 × (followed first second).Fits q.0) (ok_is ((a.0.0, b.0.0), b.0.1) p b.2) (both, (t1.1, t2.1));
}

pub lawful_checked : {X : Type 0} (refusal : Refusal) (test : X → Bool) (kind : Codec X) → IsLawful kind → IsLawful (checked refusal test kind)
lawful_checked {X} refusal test kind law = record {
  again = λ x rest fits. rw (law.again x rest fits.0, fits.1) refl;
  takes = λ bytes x fits e.
      let a = bind_ok (kind.read bytes) (λ y. cond (test y.0) (Ok y) (Err refusal)) x e in
      let g = passed_ok (test a.0.0) refusal a.0 x a.2 in
      let t = law.takes bytes a.0 fits a.1 in
      subst (λ (y : X × List ℕ). Takes bytes (kind.spell y.0) y.1 × (checked refusal test kind).Fits y.0) g.1 (t.0, (t.1, g.0));
}

pub lawful_accepted : {X : Type 0} (accept : X → Result X Refusal) (kind : Codec X) → ((x y : X) → accept x ≡ Ok y → x ≡ y) → IsLawful kind → IsLawful (accepted accept kind)
lawful_accepted {X} accept kind same law = record {
  again = λ x rest fits. rw (law.again x rest fits.0, fits.1) refl;
  takes = λ bytes x fits e.
      let a = bind_ok (kind.read bytes) (λ y. accept y.0 >>= λ z. Ok (z, y.1)) x e in
      let b = bind_ok (accept a.0.0) (λ z. Ok (z, a.0.1)) x a.2 in
      let t = law.takes bytes a.0 fits a.1 in
      let is = same a.0.0 b.0 b.1 in
      let at : Takes bytes (kind.spell b.0) a.0.1 × ((kind.Fits b.0) × (accept b.0 ≡ Ok b.0)) = subst (λ (z : X). Takes bytes (kind.spell z) a.0.1 × ((kind.Fits z) × (accept z ≡ Ok z))) is (t.0, (t.1, b.1 ∙ ap (λ (z : X). Ok z) (sym is))) in
      subst (λ (y : X × List ℕ). Takes bytes (kind.spell y.0) y.1 × (accepted accept kind).Fits y.0) (ok_is (b.0, a.0.1) x b.2) at;
}

pub lawful_named : {X Y : Type 0} (parts : Y → X) (made : X → Y) (kind : Codec X) → ((x : X) → kind.Fits x → parts (made x) ≡ x) → ((y : Y) → made (parts y) ≡ y) → IsLawful kind → IsLawful (named parts made kind)
lawful_named {X} {Y} parts made kind there back law = record {
  again = λ y rest fits. rw (law.again (parts y) rest fits, back y) refl;
  takes = λ bytes y fits e.
      let a = bind_ok (kind.read bytes) (λ x. Ok (made x.0, x.1)) y e in
      let t = law.takes bytes a.0 fits a.1 in
      let at : Takes bytes (kind.spell (parts (made a.0.0))) a.0.1 × kind.Fits (parts (made a.0.0)) = subst (λ (x : X). Takes bytes (kind.spell x) a.0.1 × kind.Fits x) (sym (there a.0.0 t.1)) t in
      subst (λ (z : Y × List ℕ). Takes bytes (kind.spell (parts z.0)) z.1 × kind.Fits (parts z.0)) (ok_is (made a.0.0, a.0.1) y a.2) at;
}

pub lawful_named_where : {X Y : Type 0} (Good : Y → Type 0) (parts : Y → X) (made : X → Y) (kind : Codec X) → ((x : X) → kind.Fits x → (parts (made x) ≡ x) × Good (made x)) → ((y : Y) → Good y → made (parts y) ≡ y) → IsLawful kind → IsLawful (named_where Good parts made kind)
lawful_named_where {X} {Y} Good parts made kind there back law = record {
  again = λ y rest fits. rw (law.again (parts y) rest fits.1, back y fits.0) refl;
  takes = λ bytes y fits e.
      let a = bind_ok (kind.read bytes) (λ x. Ok (made x.0, x.1)) y e in
      let t = law.takes bytes a.0 fits a.1 in
      let is = there a.0.0 t.1 in
      let at : Takes bytes (kind.spell (parts (made a.0.0))) a.0.1 × kind.Fits (parts (made a.0.0)) = subst (λ (x : X). Takes bytes (kind.spell x) a.0.1 × kind.Fits x) (sym is.0) t in
      subst (λ (z : Y × List ℕ). Takes bytes (kind.spell (parts z.0)) z.1 × (Good z.0 × kind.Fits (parts z.0))) (ok_is (made a.0.0, a.0.1) y a.2) (at.0, (is.1, at.1));
}

-- ---- values one after the other

module _ {S X : Type 0} (kind : S → Codec X) (next : S → X → S) (law : (s : S) → IsLawful (kind s)) where
  each_again : (s : S) (xs : List X) (rest : List ℕ) → FitEach kind next s xs → read_each kind next s (length xs) (spell_each kind next s xs ++ rest) ≡ Ok (xs, rest)
  unfolding read_each
  each_again s [] rest fits = refl
  each_again s (x ∷ xs) rest fits =
      rw (append_assoc ((kind s).spell x) (spell_each kind next (next s x) xs) rest, (law s).again x (spell_each kind next (next s x) xs ++ rest) fits.0, each_again (next s x) xs rest fits.1) refl

  each_takes : (s : S) (n : ℕ) (bytes : List ℕ) (xs : List X × List ℕ) → IsBytes bytes → read_each kind next s n bytes ≡ Ok xs → Takes bytes (spell_each kind next s xs.0) xs.1 × ((length xs.0 ≡ n) × FitEach kind next s xs.0)
  unfolding read_each
  each_takes s zero bytes xs fits e =
      subst (λ (y : List X × List ℕ). Takes bytes (spell_each kind next s y.0) y.1 × ((length y.0 ≡ 0) × FitEach kind next s y.0)) (ok_is ([], bytes) xs e) (record { parts = refl; rest_fits = fits }, (refl, tt))
  each_takes s (suc n) bytes xs fits e =
      let a = bind_ok ((kind s).read bytes) (λ x. read_each kind next (next s x.0) n x.1 >>= λ ys. Ok (x.0 ∷ ys.0, ys.1)) xs e in
      let b = bind_ok (read_each kind next (next s a.0.0) n a.0.1) (λ ys. Ok (a.0.0 ∷ ys.0, ys.1)) xs a.2 in
      let t1 = (law s).takes bytes a.0 fits a.1 in
      let t2 = each_takes (next s a.0.0) n a.0.1 b.0 t1.0.rest_fits b.1 in
      let both = Takes-then bytes ((kind s).spell a.0.0) a.0.1 (spell_each kind next (next s a.0.0) b.0.0) b.0.1 t1.0 t2.0 in
      subst (λ (y : List X × List ℕ). Takes bytes (spell_each kind next s y.0) y.1 × ((length y.0 ≡ suc n) × FitEach kind next s y.0)) (ok_is (a.0.0 ∷ b.0.0, b.0.1) xs b.2) (both, (ap suc t2.1.0, (t1.1, t2.1.1)))

  pub lawful_each : (s : S) (n : ℕ) → IsLawful (each kind next s n)
  lawful_each s n = record {
    again = λ xs rest fits. subst (λ (k : ℕ). read_each kind next s k (spell_each kind next s xs ++ rest) ≡ Ok (xs, rest)) fits.0 (each_again s xs rest fits.1);
    takes = λ bytes xs fits e. each_takes s n bytes xs fits e;
  }

  pub lawful_counted : (count : Codec ℕ) (s : S) → IsLawful count → IsLawful (with_count kind next count s)
  lawful_counted count s counts =
      lawful_named (λ xs. (length xs, xs)) (λ p. p.1) (followed count (each kind next s))
      (λ p fits. ap (λ (n : ℕ). (n, p.1)) fits.1.0) (λ xs. refl)
      (lawful_followed count (each kind next s) counts (lawful_each s))

-- ---- what a function that reads a lawful kind found

module _ {Y : Type 0} (kind : Codec Y) (law : IsLawful kind) (bytes : List ℕ) (fits : IsBytes bytes) where
  pub is_found : (r : Result Y Refusal) → IsAnswer r (whole kind bytes) → IfOk r (λ x. Spells kind x bytes)
  is_found (Ok x) given = whole_takes kind law bytes x fits given
  is_found (Err e) given = tt

  pub is_only : (r : Result Y Refusal) → IsAnswer r (whole kind bytes) → (y : Y) → Spells kind y bytes → IsAnswer r (Ok y)
  is_only r given y spelled = subst (λ (f : Result Y Refusal). IsAnswer r f) (ap (whole kind) spelled.1 ∙ whole_again kind law y spelled.0) given

  module _ {Z : Type 0} (front : Z → Y) (rest : Z → List ℕ) where
    -- what was read fits, and what follows from that
    pub is_read : (P : Z → Type 0) → ((z : Z) → kind.Fits (front z) → P z) → (r : Result Z Refusal) → Gives (λ z. (front z, rest z)) r (kind.read bytes) → IfOk r P
    is_read P follows (Ok z) given = follows z (law.takes bytes (front z, rest z) fits given).1
    is_read P follows (Err e) given = tt

    pub is_length : (r : Result Z Refusal) → Gives (λ z. (front z, rest z)) r (kind.read bytes) → IfOk r (λ z. length (kind.spell (front z)) + length (rest z) ≡ length bytes)
    is_length (Ok z) given =
        let t = law.takes bytes (front z, rest z) fits given in
        omega (arith, length-append (kind.spell (front z)) (rest z), ap length t.0.parts)
    is_length (Err e) given = tt
