-- What the frame of a Hello asks.
use Rattle.std.proofs.Common.{◌≡◌, ℕ, suc, ◌+◌, ◌*◌, ◌≤◌, ◌<◌, ◌&&◌, ◌⊎◌, Bool, true, false, cond, eqb, leb, ltb, List, [], ◌∷◌, length, take, drop, Option, Some, None, Ok, refl, sym, ap, subst, ◌∙◌, arith, inl, inr}
use Rattle.std.specs.List.{All, Contains}
use Rattle.std.specs.Str.{bytes_eq}
use Rattle.std.specs.Int.{byte_at, from_be_bytes, w16}
use Rattle.std.proofs.lemmas.Bool.{eq-eqb, eqb-true, leb-true, le-leb, le-ltb}
use Rattle.std.proofs.lemmas.List.{drop_all, take_all}
use Rattle.std.proofs.lemmas.Slice.Eq.{bytes_eq-Decides}
use Rattle.sha2.specs.Sha256.{sha256}
use Rattle.mvd_keys.proofs.Lists.{and_true}
use Rattle.mvd_wire.specs.declared.request.Request.TheVariants.{Hello}
use Rattle.mvd_wire.specs.Codec.{number, raw}
use Rattle.mvd_wire.specs.Codecs.{token}
use Rattle.mvd_wire.specs.Requests.{request_of}
use Rattle.mvd_wire.specs.Frames.{FrameValue}
use Rattle.mvd_wire.proofs.Laws.{wide16}
use Rattle.mvd_frames.proofs.RequestLaws.{request_found}
use Rattle.mvd_conn.specs.Guard.{is_of, shows}
use Rattle.mvd_conn.specs.Passes.{IsTokenOf, pass_if, pass_of_digest, pass_shown, token_said, token_shown}
use Rattle.mvd_conn.specs.declared.passes.Pass.{Pass}
use Rattle.mvd_conn.proofs.CourseLemmas.{bytes_of}

-- two bytes, the higher one first
pair_value : (high low : ℕ) → from_be_bytes w16 (high ∷ low ∷ []) ≡ high * 256 + low
pair_value high low = omega arith

-- a token behind its length
pair_asks : (high low : ℕ) (t : List ℕ) → high * 256 + low ≡ length t → length t ≤ 256 → request_of 0x2D (high ∷ low ∷ t) ≡ Ok (Hello t)
unfolding token number raw
pair_asks high low t value few =
    let long : ltb (length (high ∷ low ∷ t)) 2 ≡ false = le-ltb _ _ (omega arith) in
    let n : from_be_bytes w16 (high ∷ low ∷ []) ≡ length t = pair_value high low ∙ value in
    let fits : leb (length t) 256 ≡ true = le-leb _ _ few in
    let all : ltb (length t) (length t) ≡ false = le-ltb _ _ (omega arith) in
    let front : take (length t) t ≡ t = take_all (length t) t (omega arith) in
    let back : drop (length t) t ≡ [] = drop_all (length t) t (omega arith) in
    rw (long, n, fits, all, front, fits, back) refl

if_some : (b : Bool) (x y : List ℕ) → cond b (Some x) None ≡ Some y → (b ≡ true) × (x ≡ y)
if_some true x y e = (refl, cc)
if_some false x y e = absurd cc

said_asks : (payload t : List ℕ) → token_said payload ≡ Some t → request_of 0x2D payload ≡ Ok (Hello t)
said_asks [] t is = absurd cc
said_asks (high ∷ []) t is = absurd cc
said_asks (high ∷ low ∷ u) t is =
    let given = if_some (eqb (high * 256 + low) (length u) && leb (length u) 256) u t is in
    let both = and_true (eqb (high * 256 + low) (length u)) (leb (length u) 256) given.0 in
    subst (λ (x : List ℕ). request_of 0x2D (high ∷ low ∷ u) ≡ Ok (Hello x)) given.1 (pair_asks high low u (eqb-true _ _ both.0) (leb-true _ _ both.1))

shown_if : (b : Bool) (said : Option (List ℕ)) (t : List ℕ) → cond b said None ≡ Some t → (b ≡ true) × (said ≡ Some t)
shown_if true said t e = (refl, e)
shown_if false said t e = absurd cc

-- a frame that shows a token asks a Hello with it
pub shown_asks : (f : FrameValue) (t : List ℕ) → token_shown f ≡ Some t → request_of f.kind f.payload ≡ Ok (Hello t)
shown_asks f t is =
    let both = shown_if (eqb f.kind 0x2D) (token_said f.payload) t is in
    ap (λ (k : ℕ). request_of k f.payload) (eqb-true f.kind 0x2D both.0) ∙ said_asks f.payload t both.1

-- one that shows the token of a pass shows a token, which is that
pub shows_some : (pass : Pass) (shown : Option (List ℕ)) → is_of pass shown ≡ true → (t : List ℕ) × (shown ≡ Some t) × IsTokenOf pass t
shows_some pass None is = absurd cc
shows_some pass (Some t) is = (t, refl, (bytes_eq-Decides (sha256 t) pass.digest).0 is)

pub hello_asks : (pass : Pass) (f : FrameValue) → shows pass f ≡ true → (t : List ℕ) × (request_of f.kind f.payload ≡ Ok (Hello t)) × IsTokenOf pass t
hello_asks pass f is =
    let some = shows_some pass (token_shown f) is in
    (some.0, shown_asks f some.0 some.1, some.2)

spelled_said : (t : List ℕ) → token.Fits t → token_said (token.spell t) ≡ Some t
unfolding token number raw
spelled_said t fits =
    let few : leb (length t) 256 ≡ true = fits.0.1 in
    let value : byte_at 1 (length t) * 256 + byte_at 0 (length t) ≡ length t = sym (pair_value (byte_at 1 (length t)) (byte_at 0 (length t))) ∙ wide16.again (length t) fits.0.0 in
    let eq : eqb (byte_at 1 (length t) * 256 + byte_at 0 (length t)) (length t) ≡ true = eq-eqb _ _ value in
    rw (eq, few) refl

-- and one that asks a Hello shows its token
pub asks_shown : (f : FrameValue) (t : List ℕ) → All (λ b. b < 256) f.payload → request_of f.kind f.payload ≡ Ok (Hello t) → token_shown f ≡ Some t
asks_shown f t fits e =
    let spelled = request_found f.kind f.payload (bytes_of f.payload fits) (Ok (Hello t)) e in
    rw (spelled.1, spelled.2) (spelled_said t spelled.0)

pub asks_hello : (pass : Pass) (f : FrameValue) (t : List ℕ) → All (λ b. b < 256) f.payload → request_of f.kind f.payload ≡ Ok (Hello t) → IsTokenOf pass t → shows pass f ≡ true
asks_hello pass f t fits e is = rw (asks_shown f t fits e) ((bytes_eq-Decides (sha256 t) pass.digest).1 is)

-- ---- the pass of a token

first_pass : (b : Bool) (pass : Pass) (rest : Option Pass) (found : Pass) → cond b (Some pass) rest ≡ Some found → ((b ≡ true) × (pass ≡ found)) ⊎ (rest ≡ Some found)
first_pass true pass rest found e = inl (refl, cc)
first_pass false pass rest found e = inr e

here_is : (passes : List Pass) (pass found : Pass) → pass ≡ found → Contains (pass ∷ passes) found
here_is passes pass found e = (0, omega arith, e)

later_is : (passes : List Pass) (pass found : Pass) → Contains passes found → Contains (pass ∷ passes) found
later_is passes pass found it = (suc it.0, (let few : it.0 < length passes = it.1 in omega (arith, few)), it.2)

of_digest : (passes : List Pass) (digest : List ℕ) (found : Pass) → pass_of_digest passes digest ≡ Some found → Contains passes found × (bytes_eq digest found.digest ≡ true)
of_digest [] digest found e = absurd cc
of_digest (pass ∷ passes) digest found e =
    elim (first_pass (bytes_eq digest pass.digest) pass (pass_of_digest passes digest) found e) [
      | inl here ↦ (here_is passes pass found here.1, subst (λ (p : Pass). bytes_eq digest p.digest ≡ true) here.1 here.0)
      | inr later ↦ let it = of_digest passes digest found later in (later_is passes pass found it.0, it.1)
    ]

of_shown : (passes : List Pass) (shown : Option (List ℕ)) (found : Pass) → pass_if passes shown ≡ Some found → Contains passes found × (is_of found shown ≡ true)
of_shown passes None found e = absurd cc
of_shown passes (Some t) found e = of_digest passes (sha256 t) found e

pub shown_known : (passes : List Pass) (f : FrameValue) (found : Pass) → pass_shown passes f ≡ Some found → Contains passes found × (shows found f ≡ true)
shown_known passes f found e = of_shown passes (token_shown f) found e
