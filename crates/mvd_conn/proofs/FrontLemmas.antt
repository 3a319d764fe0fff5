-- What stands at the front of bytes.
use Rattle.std.proofs.Common.{◌≡◌, ℕ, zero, suc, false, true, ◌+◌, ◌-◌, ◌<◌, ◌≤◌, ◌&&◌, ◌⊎◌, ltb, leb, eqb, List, [], ◌∷◌, ◌++◌, length, slice_index, take, drop, Some, Ok, Err, refl, sym, ap, ◌∙◌, arith, inl, inr}
use Rattle.std.proofs.lemmas.Bool.{le-ltb, lt-ltb, le-leb, lt-leb, leb-true, cases_Bool}
use Rattle.std.proofs.lemmas.List.{take-append-drop, length-take, length-drop}
use Rattle.std.proofs.Math.Dec.{eqb-suc-zero}
use Rattle.std.specs.Int.{w32, to_be_bytes, from_be_bytes}
use Rattle.mvd_dots.specs.declared.refusals.Refusal.TheVariants.{FrameTooLong}
use Rattle.mvd_keys.proofs.Lists.{and_true}
use Rattle.mvd_wire.specs.Codec.{number}
use Rattle.mvd_wire.specs.Frames.{FrameValue, body_at, length_at, frame_at, frame_limit, spell_frame}
use Rattle.mvd_wire.proofs.Laws.{IsBytes, IsBytes-take, wide32}
use Rattle.mvd_frames.proofs.FrameLemmas.{frame_again}
use Rattle.mvd_conn.specs.Front.{IsPart, IsWholeFrame}
use Rattle.mvd_conn.specs.Stands.{frame_of}

-- five bytes and more, as the head, the kind and the payload
parted : (bytes : List ℕ) (m : ℕ) → 4 + suc m ≤ length bytes → (take (4 + suc m) bytes ≡ take 4 bytes ++ slice_index (take (4 + suc m) bytes) 4 ∷ drop 5 (take (4 + suc m) bytes)) × (length (drop 5 (take (4 + suc m) bytes)) ≡ m)
parted [] m long = absurd (omega (arith, long))
parted (a ∷ []) m long = absurd (omega (arith, long))
parted (a ∷ b ∷ []) m long = absurd (omega (arith, long))
parted (a ∷ b ∷ c ∷ []) m long = absurd (omega (arith, long))
parted (a ∷ b ∷ c ∷ d ∷ []) m long = absurd (omega (arith, long))
parted (a ∷ b ∷ c ∷ d ∷ kind ∷ rest) m long =
    let n : 4 + suc m ≡ suc (suc (suc (suc (suc m)))) = omega arith in
    rw n (refl, omega (arith, length-take m rest, long))

-- a length within its limits, and as many bytes behind it
pub whole_front : (bytes : List ℕ) (n : ℕ) → IsBytes bytes → from_be_bytes w32 (take 4 bytes) ≡ n → 1 ≤ n → n ≤ frame_limit → 4 + n ≤ length bytes → IsWholeFrame bytes (4 + n)
unfolding number
whole_front bytes zero fits value some few long = absurd (omega (arith, some))
whole_front bytes (suc m) fits value some few long =
    let f : FrameValue = frame_of (take (4 + suc m) bytes) in
    let parts = parted bytes m long in
    let n : length f.payload + 1 ≡ suc m = omega (arith, parts.1) in
    let head : to_be_bytes w32 (suc m) ≡ take 4 bytes = rw (← value) (wide32.back (take 4 bytes) (omega (arith, length-take 4 bytes, long)) (IsBytes-take 4 bytes fits)) in
    let same : take (4 + suc m) bytes ≡ spell_frame f = parts.0 ∙ ap (λ (t : List ℕ). t ++ f.kind ∷ f.payload) (sym head ∙ ap (to_be_bytes w32) (sym n)) in
    let all : spell_frame f ++ drop (4 + suc m) bytes ≡ bytes = ap (λ (t : List ℕ). t ++ drop (4 + suc m) bytes) (sym same) ∙ take-append-drop (4 + suc m) bytes in
    record {
      some = omega (arith, some);
      few = omega (arith, few);
      within = long;
      spelled = same;
      read = ap frame_at (sym all) ∙ frame_again f (drop (4 + suc m) bytes) (omega (arith, few, n));
    }

-- fewer bytes than a length has
pub short_front : (bytes : List ℕ) → length bytes < 4 → IsPart bytes
unfolding frame_at length_at
short_front [] short = record { few = omega arith; read = inl (refl, refl) }
short_front (b ∷ bytes) short =
    let more : length (b ∷ bytes) ≡ suc (length bytes) = refl in
    let some : eqb (length (b ∷ bytes)) 0 ≡ false = eqb-suc-zero (length bytes) in
    let less : ltb (length (b ∷ bytes)) 4 ≡ true = lt-ltb _ _ short in
    record { few = omega (arith, short); read = inr (rw (some, less) refl) }

not_empty : (bytes : List ℕ) → 4 ≤ length bytes → eqb (length bytes) 0 ≡ false
not_empty [] long = absurd (omega (arith, long))
not_empty (b ∷ bytes) long = eqb-suc-zero (length bytes)

-- a length within its limits, and fewer bytes behind it
pub cut_front : (bytes : List ℕ) (n : ℕ) → from_be_bytes w32 (take 4 bytes) ≡ n → 4 ≤ length bytes → 1 ≤ n → n ≤ frame_limit → length bytes - 4 < n → IsPart bytes
unfolding frame_at length_at body_at
cut_front bytes n value long some few cut =
    let less : ltb (length bytes) 4 ≡ false = le-ltb _ _ long in
    let least : leb 1 n ≡ true = le-leb _ _ some in
    let most : leb n frame_limit ≡ true = le-leb _ _ few in
    let short : ltb (length (drop 4 bytes)) n ≡ true = lt-ltb _ _ (omega (arith, length-drop 4 bytes, cut)) in
    record { few = omega (arith, cut, few); read = inr (rw (not_empty bytes long, less, value, least, most, short) refl) }

-- a length out of its limits
pub long_front : (bytes : List ℕ) → 4 ≤ length bytes → (from_be_bytes w32 (take 4 bytes) ≡ 0) ⊎ (frame_limit < from_be_bytes w32 (take 4 bytes)) → frame_at bytes ≡ Err FrameTooLong
unfolding frame_at length_at
long_front bytes long (inl none) =
    let less : ltb (length bytes) 4 ≡ false = le-ltb _ _ long in
    rw (not_empty bytes long, less, none) refl
long_front bytes long (inr over) =
    let less : ltb (length bytes) 4 ≡ false = le-ltb _ _ long in
    let v = from_be_bytes w32 (take 4 bytes) in
    let least : leb 1 v ≡ true = le-leb _ _ (omega (arith, over)) in
    let most : leb v frame_limit ≡ false = lt-leb _ _ over in
    rw (not_empty bytes long, less, least, most) refl

-- as many bytes as the longest frame has are no part of a frame
pub full_front : (bytes : List ℕ) → 1200004 ≤ length bytes → ((f : FrameValue) × (rest : List ℕ) × (frame_at bytes ≡ Ok (Some f, rest))) ⊎ (frame_at bytes ≡ Err FrameTooLong)
unfolding frame_at length_at body_at
full_front bytes long =
    let v = from_be_bytes w32 (take 4 bytes) in
    let some = not_empty bytes (omega (arith, long)) in
    let less : ltb (length bytes) 4 ≡ false = le-ltb _ _ (omega (arith, long)) in
    elim (cases_Bool (leb 1 v && leb v frame_limit)) [
      | inl within ↦
          let few : v ≤ frame_limit = leb-true _ _ (and_true (leb 1 v) (leb v frame_limit) within).1 in
          let fits : ltb (length (drop 4 bytes)) v ≡ false = le-ltb _ _ (omega (arith, length-drop 4 bytes, long, few)) in
          inl (record { kind = slice_index (drop 4 bytes) 0; payload = take (v - 1) (drop 1 (drop 4 bytes)) }, drop v (drop 4 bytes), rw (some, less, within, fits) refl)
      | inr over ↦ inr (rw (some, less, over) refl)
    ]
