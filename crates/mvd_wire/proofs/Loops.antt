-- Reading values one after the other, as a loop does.
use Rattle.std.proofs.Common.{◌≡◌, ◌≢◌, ℕ, suc, ◌-◌, ◌+◌, ◌≤◌, ◌<◌, List, [], ◌∷◌, ◌++◌, Result, Ok, Err, refl, sym, ap, ◌∙◌, append_assoc, arith}
use Rattle.std.proofs.lemmas.List.{append-nil}
use Rattle.mvd_dots.specs.declared.refusals.Refusal.{Refusal}
use Rattle.mvd_dots.specs.declared.refusals.Refusal.TheVariants.{Memory}
use Rattle.mvd_wire.specs.Codec.{◌>>=◌, Codec, read_each}

-- what was read before, and what is still read
abbrev pub with_front : {X : Type 0} → List X → Result (List X × List ℕ) Refusal → Result (List X × List ℕ) Refusal
with_front front read = read >>= λ x. Ok (front ++ x.0, x.1)

pub starts : {X : Type 0} (read : Result (List X × List ℕ) Refusal) → with_front [] read ≡ read
starts (Ok x) = refl
starts (Err f) = refl

regroup : {X : Type 0} (front : List X) (n : X) (read : Result (List X × List ℕ) Refusal) → with_front front (read >>= λ x. Ok (n ∷ x.0, x.1)) ≡ with_front (front ++ n ∷ []) read
regroup {X} front n (Ok x) = ap (λ (ns : List X). Ok (ns, x.1)) (simp append_assoc)
regroup front n (Err f) = refl

module _ {S X : Type 0} (kind : S → Codec X) (next : S → X → S) where
  pub goes_on : (front : List X) (s : S) (count i : ℕ) (bytes : List ℕ) (x : X) (after : List ℕ) (total : Result (List X × List ℕ) Refusal) → i < count → (kind s).read bytes ≡ Ok (x, after)
      → with_front front (read_each kind next s (count - i) bytes) ≡ total → with_front (front ++ x ∷ []) (read_each kind next (next s x) (count - (i + 1)) after) ≡ total
  unfolding read_each
  goes_on front s count i bytes x after total lt h so_far =
      let k : count - i ≡ suc (count - (i + 1)) = omega arith in
      let one : with_front front (read_each kind next s (count - i) bytes) ≡ with_front (front ++ x ∷ []) (read_each kind next (next s x) (count - (i + 1)) after) = rw (k, h) (regroup front x (read_each kind next (next s x) (count - (i + 1)) after)) in
      sym one ∙ so_far

  pub ends : (e : Refusal) (front : List X) (s : S) (count i : ℕ) (bytes : List ℕ) (total : Result (List X × List ℕ) Refusal) → i < count → (e ≢ Memory → (kind s).read bytes ≡ Err e)
      → with_front front (read_each kind next s (count - i) bytes) ≡ total → e ≢ Memory → total ≡ Err e
  unfolding read_each
  ends e front s count i bytes total lt h so_far no_memory =
      let k : count - i ≡ suc (count - (i + 1)) = omega arith in
      let fault = h no_memory in
      let one : with_front front (read_each kind next s (count - i) bytes) ≡ Err e = rw (k, fault) refl in
      sym so_far ∙ one

  pub is_done : (front : List X) (s : S) (count i : ℕ) (bytes : List ℕ) (total : Result (List X × List ℕ) Refusal) → count ≤ i → with_front front (read_each kind next s (count - i) bytes) ≡ total → total ≡ Ok (front, bytes)
  unfolding read_each
  is_done front s count i bytes total le so_far =
      let k : count - i ≡ 0 = omega arith in
      let one : with_front front (read_each kind next s (count - i) bytes) ≡ Ok (front, bytes) = rw k (ap (λ (ns : List X). Ok (ns, bytes)) (append-nil front)) in
      sym so_far ∙ one
