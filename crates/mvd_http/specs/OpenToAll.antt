-- Which requests need no token.
use Rattle.std.specs.Prelude.{◌||◌, ℕ, Bool, false, List, codes}
use Rattle.std.specs.Str.{bytes_eq}
use Rattle.mvd_http.specs.Asked.{verb_of}
use Rattle.mvd_http.specs.Paths.{text_before}
use Rattle.mvd_http.specs.declared.question.Verb.{Verb}
use Rattle.mvd_http.specs.declared.question.Verb.TheVariants.{Read}

abbrev pub is_open_path : List ℕ → Bool
is_open_path path = bytes_eq path (codes "/") || bytes_eq path (codes "/health")

abbrev pub reads_page : Verb → List ℕ → Bool
reads_page Read target = is_open_path (text_before 63 target)
reads_page _ target = false

-- it asks for the page, or whether the server can answer
abbrev pub is_open_to_all : List ℕ → List ℕ → Bool
is_open_to_all method target = reads_page (verb_of method) target
