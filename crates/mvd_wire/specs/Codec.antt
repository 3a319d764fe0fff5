-- Codecs of values, of which this project's own format (docs/FORMATS.md) is made: how a value is spelled, which values
-- have a spelling, and what is read at the front of a list of bytes, with the refusal that the first fault from the
-- left has.
use Rattle.std.specs.Prelude.{◌≡◌, ◌≢◌, ℕ, zero, suc, ◌*◌, ◌^◌, ◌<◌, Bool, IsTrue, nat_lt, nat_le, ◌==◌, if◌then◌else◌, List, [], ◌∷◌, ◌++◌, length, take, drop, Option, Some, None, IfSome, Result, Ok, Err, MatchResult}
use Rattle.std.specs.Int.{Width, byte_len, from_be_bytes, to_be_bytes}
use Rattle.mvd_dots.specs.declared.refusals.Refusal.{Refusal}
use Rattle.mvd_dots.specs.declared.refusals.Refusal.TheVariants.{BadBody, Memory}

infixl 10 ◌>>=◌
abbrev pub ◌>>=◌ : {A B : Type 0} → Result A Refusal → (A → Result B Refusal) → Result B Refusal
(Ok x) >>= f = f x
(Err e) >>= f = Err e

-- What a function returned, seen by view, is what reading gives, unless memory ran out.
abbrev pub Gives : {X Y : Type 0} → (X → Y) → Result X Refusal → Result Y Refusal → Type 0
Gives view result read = MatchResult result (λ x. read ≡ Ok (view x)) (λ e. e ≢ Memory → read ≡ Err e)

pub record Codec (X : Type 0) : Type 1 where
  pub spell : X → List ℕ
  pub Fits : X → Type 0
  pub read : List ℕ → Result (X × List ℕ) Refusal

-- ---- the smallest kinds

abbrev pub read_byte : List ℕ → Result (ℕ × List ℕ) Refusal
read_byte [] = Err BadBody
read_byte (b ∷ rest) = Ok (b, rest)

abbrev pub byte : Codec ℕ
byte = record {
  spell = λ b. b ∷ [];
  Fits = λ b. b < 256;
  read = read_byte;
}

-- a number of fixed width, the highest byte first
unfoldable pub number : Width → Codec ℕ
number w = record {
  spell = to_be_bytes w;
  Fits = λ n. n < 2 ^ (8 * byte_len w);
  read = λ bytes. if nat_lt (length bytes) (byte_len w) then Err BadBody
      else Ok (from_be_bytes w (take (byte_len w) bytes), drop (byte_len w) bytes);
}

-- n bytes as they stand
unfoldable pub raw : ℕ → Codec (List ℕ)
raw n = record {
  spell = λ text. text;
  Fits = λ text. length text ≡ n;
  read = λ bytes. if nat_lt (length bytes) n then Err BadBody else Ok (take n bytes, drop n bytes);
}

-- ---- kinds made of kinds

-- a value, and then one whose kind may depend on it
abbrev pub followed : {X Y : Type 0} → Codec X → (X → Codec Y) → Codec (X × Y)
followed first second = record {
  spell = λ p. first.spell p.0 ++ (second p.0).spell p.1;
  Fits = λ p. first.Fits p.0 × (second p.0).Fits p.1;
  read = λ bytes. first.read bytes >>= λ x. (second x.0).read x.1 >>= λ y. Ok ((x.0, y.0), y.1);
}

-- only the values that pass a test; the others have this refusal
abbrev pub checked : {X : Type 0} → Refusal → (X → Bool) → Codec X → Codec X
checked refusal test kind = record {
  spell = kind.spell;
  Fits = λ x. kind.Fits x × IsTrue (test x);
  read = λ bytes. kind.read bytes >>= λ x. if test x.0 then Ok x else Err refusal;
}

-- only the values that are accepted as they are; the others have the refusal of the acceptance
abbrev pub accepted : {X : Type 0} → (X → Result X Refusal) → Codec X → Codec X
accepted accept kind = record {
  spell = kind.spell;
  Fits = λ x. kind.Fits x × (accept x ≡ Ok x);
  read = λ bytes. kind.read bytes >>= λ x. accept x.0 >>= λ y. Ok (y, x.1);
}

-- the values of a kind under another name: parts takes a value apart, and made puts it together
abbrev pub named : {X Y : Type 0} → (Y → X) → (X → Y) → Codec X → Codec Y
named parts made kind = record {
  spell = λ y. kind.spell (parts y);
  Fits = λ y. kind.Fits (parts y);
  read = λ bytes. kind.read bytes >>= λ x. Ok (made x.0, x.1);
}

-- the same for the good values alone, where parts and made are inverse
abbrev pub named_where : {X Y : Type 0} → (Y → Type 0) → (Y → X) → (X → Y) → Codec X → Codec Y
named_where Good parts made kind = record {
  spell = λ y. kind.spell (parts y);
  Fits = λ y. Good y × kind.Fits (parts y);
  read = λ bytes. kind.read bytes >>= λ x. Ok (made x.0, x.1);
}

-- 00, or 01 and a value
unfoldable pub read_optional : {X : Type 0} → Codec X → List ℕ → Result (Option X × List ℕ) Refusal
read_optional kind [] = Err BadBody
read_optional kind (zero ∷ rest) = Ok (None, rest)
read_optional kind (suc zero ∷ rest) = kind.read rest >>= λ x. Ok (Some x.0, x.1)
read_optional kind (suc (suc b) ∷ rest) = Err BadBody

abbrev pub spell_optional : {X : Type 0} → Codec X → Option X → List ℕ
spell_optional kind None = 0 ∷ []
spell_optional kind (Some x) = 1 ∷ kind.spell x

abbrev pub optional : {X : Type 0} → Codec X → Codec (Option X)
optional kind = record {
  spell = spell_optional kind;
  Fits = λ o. IfSome o kind.Fits;
  read = read_optional kind;
}

-- ---- values one after the other, each of a kind that may depend on those before it

module _ {S X : Type 0} (kind : S → Codec X) (next : S → X → S) where
  abbrev pub spell_each : S → List X → List ℕ
  spell_each s [] = []
  spell_each s (x ∷ xs) = (kind s).spell x ++ spell_each (next s x) xs

  abbrev pub FitEach : S → List X → Type 0
  FitEach s [] = Unit {0}
  FitEach s (x ∷ xs) = (kind s).Fits x × FitEach (next s x) xs

  unfoldable pub read_each : S → ℕ → List ℕ → Result (List X × List ℕ) Refusal
  read_each s zero bytes = Ok ([], bytes)
  read_each s (suc n) bytes = (kind s).read bytes >>= λ x. read_each (next s x.0) n x.1 >>= λ xs. Ok (x.0 ∷ xs.0, xs.1)

  abbrev pub each : S → ℕ → Codec (List X)
  each s n = record {
    spell = spell_each s;
    Fits = λ xs. (length xs ≡ n) × FitEach s xs;
    read = read_each s n;
  }

  -- their number, and the values
  abbrev pub with_count : Codec ℕ → S → Codec (List X)
  with_count count s = named (λ xs. (length xs, xs)) (λ p. p.1) (followed count (each s))

-- all of the bytes
abbrev pub whole : {X : Type 0} → Codec X → List ℕ → Result X Refusal
whole kind bytes = kind.read bytes >>= λ x. if length x.1 == 0 then Ok x.0 else Err BadBody

-- the bytes are the spelling of the value
abbrev pub Spells : {X : Type 0} → Codec X → X → List ℕ → Type 0
Spells kind x bytes = kind.Fits x × (bytes ≡ kind.spell x)

-- Each value has one spelling, no two values have the same, and none begins another.
abbrev pub IsPrefixFree : {X : Type 0} → Codec X → Type 0
IsPrefixFree {X} kind = (x y : X) (a b : List ℕ) → kind.Fits x → kind.Fits y → kind.spell x ++ a ≡ kind.spell y ++ b
    → (x ≡ y) × (a ≡ b)

-- the spelling, where it is no longer than the limit
abbrev pub spelled_within : {X : Type 0} → Refusal → ℕ → Codec X → X → Result (List ℕ) Refusal
spelled_within refusal limit kind x = if nat_le (length (kind.spell x)) limit then Ok (kind.spell x) else Err refusal

-- no byte at all
abbrev pub nothing : Codec (Unit {0})
nothing = record {
  spell = λ _. [];
  Fits = λ _. Unit {0};
  read = λ bytes. Ok (tt, bytes);
}

-- the values of a kind byte, and otherwise those of other kind bytes
abbrev pub tagged : {X Y : Type 0} → ℕ → Codec X → (X → Y) → (ℕ → List ℕ → Result Y Refusal) → ℕ → List ℕ
    → Result Y Refusal
tagged tag kind made otherwise byte' payload = if byte' == tag then (whole kind payload >>= λ x. Ok (made x))
    else otherwise byte' payload

-- the values behind a tag, and otherwise those behind other tags
abbrev pub variant : {X Y : Type 0} → ℕ → Codec X → (X → Y) → (ℕ → List ℕ → Result (Y × List ℕ) Refusal) → ℕ → List ℕ
    → Result (Y × List ℕ) Refusal
variant tag kind made otherwise byte' rest = if byte' == tag then (kind.read rest >>= λ x. Ok (made x.0, x.1))
    else otherwise byte' rest
