-- What a file with tokens lets in.
use Rattle.std.specs.Prelude.{◌≡◌, List, [], ◌∷◌, Option, is_some, option_map, option_copied, ⊤}
use Rattle.sha2.specs.Sha256.{sha256}
use Rattle.mvd_conn.specs.Rights.{prefix_of}
use Rattle.mvd_conn.specs.declared.passes.Pass.{Pass}
pub use Rattle.mvd_http.specs.Guard.{Named}
use Rattle.mvd_input.specs.Ends.{ReadsNot}
use Rattle.mvd_input.specs.Passes.{PassText}
use Rattle.mvd_server.specs.declared.terms.Terms.{Terms}
use Rattle.mvd_server.specs.declared.tokens.Tokens.{Tokens}
use Rattle.mvd_server.specs.declared.tokens.TokensFault.{TokensFault}
use Rattle.mvd_server.specs.declared.tokens.TokensFault.TheVariants.{Bad, Unread}

-- where a file could not be read, it is as for any other
abbrev pub IsUnreadSo : TokensFault → Type 0
IsUnreadSo (Unread fault) = ReadsNot fault
IsUnreadSo (Bad fault) = ⊤

-- a pass is of a line: its token's, and what that allows
pub record IsPassOf (text : PassText) (pass : Pass) : Type 0 where
  pub digest : pass.digest ≡ sha256 text.token
  pub writes : pass.right.writes ≡ text.writes
  pub prefix : prefix_of pass.right ≡ text.prefix

-- one of each line, in order
abbrev pub ArePassesOf : List PassText → List Pass → Type 0
ArePassesOf [] [] = ⊤
ArePassesOf [] (pass ∷ passes) = ⊥
ArePassesOf (text ∷ texts) [] = ⊥
ArePassesOf (text ∷ texts) (pass ∷ passes) = IsPassOf text pass × ArePassesOf texts passes

abbrev pub passes_in : Option Tokens → Option (List Pass)
passes_in tokens = option_map (λ t. t.passes) tokens

-- the passes of those who may come in, if not everybody may
abbrev pub passes_asked : Terms → Option (List Pass)
passes_asked terms = passes_in (option_copied terms.tokens)

-- by which names it is asked, and of which origins a page may ask: by any name, where a token is asked for
abbrev pub names_asked : Terms → Named
names_asked terms =
    record { hosts = terms.hosts.now; origins = terms.origins.now; any_host = is_some (option_copied terms.tokens) }
