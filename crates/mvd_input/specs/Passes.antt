-- The lines of a file with tokens (a format of this repository's own): a token; a blank and `read` or `write`, or
-- nothing, which is `write`; and a blank and a prefix of keys, or nothing, which is all keys.
use Rattle.std.specs.Prelude.{ℕ, ◌+◌, ◌==◌, ◌&&◌, nat_le, nat_lt, not, if◌then◌else◌, Bool, true, false, List, [], length, take, drop, codes, Option, Some, None, option_copied, option_map, option_and_then}
use Rattle.std.specs.List.{list_all, prefix_len}
use Rattle.std.specs.Str.{bytes_eq}
use Rattle.mvd_docs.specs.Name.{is_graphic}
use Rattle.mvd_input.specs.Tokens.{is_token}
use Rattle.mvd_input.specs.declared.pass_lines.PassLine.{PassLine}

-- what a line says: a token, whether who shows it may write, and what each key begins with that it allows
pub record PassText : Type 0 where
  pub token : List ℕ
  pub writes : Bool
  pub prefix : List ℕ

abbrev pub said_by : PassLine → PassText
said_by line = record { token = line.token.now; writes = line.writes; prefix = line.prefix.now }

-- ---- what blanks part

-- where the first blank (32) stands, and what stands before it, and behind it
abbrev pub blank_at : List ℕ → ℕ
blank_at text = prefix_len (λ b. not (b == 32)) text

abbrev pub before_blank : List ℕ → List ℕ
before_blank text = take (blank_at text) text

abbrev pub behind_blank : List ℕ → Option (List ℕ)
behind_blank text = if nat_lt (blank_at text) (length text) then Some (drop (blank_at text + 1) text) else None

-- ---- a line

abbrev pub writes_by : List ℕ → Option Bool
writes_by word =
    if bytes_eq word (codes "read") then Some false else (if bytes_eq word (codes "write") then Some true else None)

-- 1 to 128 ASCII characters that are seen on paper
abbrev pub is_key_prefix : List ℕ → Bool
is_key_prefix text = nat_lt 0 (length text) && nat_le (length text) 128 && list_all is_graphic text

abbrev pub prefix_in : Option (List ℕ) → Option (List ℕ)
prefix_in None = Some []
prefix_in (Some text) = if is_key_prefix text then Some text else None

abbrev pub pass_with : List ℕ → Option Bool → Option (List ℕ) → Option PassText
pass_with token (Some writes) (Some prefix) = Some (record { token = token; writes = writes; prefix = prefix })
pass_with token None prefix = None
pass_with token (Some writes) None = None

abbrev pub pass_behind : List ℕ → Option (List ℕ) → Option PassText
pass_behind token None = Some (record { token = token; writes = true; prefix = [] })
pass_behind token (Some text) = pass_with token (writes_by (before_blank text)) (prefix_in (behind_blank text))

-- what a line says, where it has the form of one
abbrev pub pass_of : List ℕ → Option PassText
pass_of line = if is_token (before_blank line) then pass_behind (before_blank line) (behind_blank line) else None
