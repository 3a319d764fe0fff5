-- Which requests of HTTP ask for a change.
use Rattle.std.specs.Prelude.{ℕ, Bool, true, false, List}
use Rattle.mvd_http.specs.Asked.{takes_changes, verb_of}
use Rattle.mvd_http.specs.Paths.{text_before}
use Rattle.mvd_http.specs.declared.question.Verb.{Verb}
use Rattle.mvd_http.specs.declared.question.Verb.TheVariants.{Read, Put, Delete, Post, Other}

abbrev pub is_write_by : Verb → List ℕ → Bool
is_write_by Put path = true
is_write_by Delete path = true
is_write_by Post path = takes_changes path
is_write_by Read path = false
is_write_by Other path = false

-- a request of this method and target does
abbrev pub is_write : List ℕ → List ℕ → Bool
is_write method target = is_write_by (verb_of method) (text_before 63 target)
