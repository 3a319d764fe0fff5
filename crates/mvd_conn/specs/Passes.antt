-- The tokens that a server knows. A token is known by its SHA-256 (FIPS 180-4), and nothing else is kept of it.
use Rattle.std.specs.Prelude.{◌≡◌, ℕ, ◌+◌, ◌*◌, ◌==◌, ◌&&◌, nat_le, if◌then◌else◌, Bool, true, false, not, ◌||◌, List, [], ◌∷◌, length, Option, Some, None}
use Rattle.std.specs.Str.{bytes_eq}
use Rattle.sha2.specs.Sha256.{sha256}
use Rattle.mvd_conn.specs.Rights.{prefix_of}
use Rattle.mvd_conn.specs.declared.passes.Pass.{Pass}
use Rattle.mvd_conn.specs.declared.right.Right.{Right}
use Rattle.mvd_wire.specs.Frames.{FrameValue}

-- whether a token is that of a pass
abbrev pub admits : Pass → List ℕ → Bool
admits pass token = bytes_eq (sha256 token) pass.digest

abbrev pub IsTokenOf : Pass → List ℕ → Type 0
IsTokenOf pass token = sha256 token ≡ pass.digest

-- the first pass of a digest
abbrev pub pass_of_digest : List Pass → List ℕ → Option Pass
pass_of_digest [] digest = None
pass_of_digest (pass ∷ passes) digest =
    if bytes_eq digest pass.digest then Some pass else pass_of_digest passes digest

-- THE PASS OF A TOKEN
abbrev pub pass_of : List Pass → List ℕ → Option Pass
pass_of passes token = pass_of_digest passes (sha256 token)

-- ---- a pass is there still where its token is, and allows the same

abbrev pub are_equal : Bool → Bool → Bool
are_equal true b = b
are_equal false b = not b

abbrev pub is_same_right : Right → Right → Bool
is_same_right a b = are_equal a.writes b.writes && bytes_eq (prefix_of a) (prefix_of b)

abbrev pub allows_same : Right → Option Pass → Bool
allows_same right None = false
allows_same right (Some pass) = is_same_right right pass.right

abbrev pub has_pass : List Pass → Pass → Bool
has_pass passes pass = allows_same pass.right (pass_of_digest passes pass.digest)

-- whether one of these passes has this right
abbrev pub grants : List Pass → Right → Bool
grants [] right = false
grants (pass ∷ passes) right = if is_same_right right pass.right then true else grants passes right

-- ---- a Hello

-- a payload is the length of the token in two bytes, and the token
abbrev pub token_said : List ℕ → Option (List ℕ)
token_said [] = None
token_said (high ∷ []) = None
token_said (high ∷ low ∷ token) =
    if (high * 256 + low == length token) && nat_le (length token) 256 then Some token else None

-- the token that a frame shows, if it is a Hello
abbrev pub token_shown : FrameValue → Option (List ℕ)
token_shown f = if f.kind == 0x2D then token_said f.payload else None

abbrev pub pass_if : List Pass → Option (List ℕ) → Option Pass
pass_if passes None = None
pass_if passes (Some token) = pass_of passes token

-- the pass of the token that a frame shows
abbrev pub pass_shown : List Pass → FrameValue → Option Pass
pass_shown passes f = pass_if passes (token_shown f)
