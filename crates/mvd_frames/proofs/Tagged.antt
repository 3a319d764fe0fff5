-- What is decoded behind a kind byte.
use Rattle.std.proofs.Common.{◌≡◌, ℕ, Bool, true, false, cond, eqb, List, [], Result, Ok, refl, sym, subst}
use Rattle.std.proofs.lemmas.Bool.{eqb-true}
use Rattle.mvd_dots.specs.declared.refusals.Refusal.{Refusal}
use Rattle.mvd_wire.specs.Codec.{◌>>=◌, Codec, nothing, whole, tagged}
use Rattle.mvd_wire.proofs.Laws.{IsBytes, IsLawful, bind_ok, ok_is, whole_takes, Takes}

pub lawful_nothing : IsLawful nothing
lawful_nothing = record {
  again = λ x rest fits. refl;
  takes = λ bytes x fits e. subst (λ (y : Unit {0} × List ℕ). Takes bytes [] y.1 × Unit {0}) (ok_is (tt, bytes) x e) (record { parts = refl; rest_fits = fits }, tt);
}

-- every value that is decoded is spelled by the kind byte and the payload
abbrev pub Decodes : {Y : Type 0} → (Y → ℕ → List ℕ → Type 0) → (ℕ → List ℕ → Result Y Refusal) → Type 0
Decodes {Y} Spelled decode = (kind : ℕ) (payload : List ℕ) (y : Y) → IsBytes payload → decode kind payload ≡ Ok y → Spelled y kind payload

pub chosen : {A : Type 0} (b : Bool) (x y z : A) (P : Type 0) → cond b x y ≡ z → (b ≡ true → x ≡ z → P) → (y ≡ z → P) → P
chosen true x y z P e first second = first refl e
chosen false x y z P e first second = second e

pub decodes_tagged : {X Y : Type 0} (Spelled : Y → ℕ → List ℕ → Type 0) (tag : ℕ) (kind : Codec X) (made : X → Y) (otherwise : ℕ → List ℕ → Result Y Refusal)
    → IsLawful kind → ((x : X) → kind.Fits x → Spelled (made x) tag (kind.spell x)) → Decodes Spelled otherwise → Decodes Spelled (tagged tag kind made otherwise)
decodes_tagged {X} {Y} Spelled tag kind made otherwise law fits others byte payload y bytes e =
    chosen (eqb byte tag) (whole kind payload >>= λ x. Ok (made x)) (otherwise byte payload) (Ok y) (Spelled y byte payload) e
    (λ is found.
    let a = bind_ok (whole kind payload) (λ x. Ok (made x)) y found in
    let s = whole_takes kind law payload a.0 bytes a.1 in
    let one : Spelled (made a.0) tag payload = subst (λ (p : List ℕ). Spelled (made a.0) tag p) (sym s.1) (fits a.0 s.0) in
    let two : Spelled (made a.0) byte payload = subst (λ (t : ℕ). Spelled (made a.0) t payload) (sym (eqb-true byte tag is)) one in
    subst (λ (z : Y). Spelled z byte payload) (ok_is (made a.0) y a.2) two)
    (λ other. others byte payload y bytes other)
