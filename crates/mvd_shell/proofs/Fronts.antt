-- What was written where a writer failed.
use Rattle.std.proofs.Common.{◌≡◌, ◌∙◌, ℕ, List, Option, Some, None, length, sym, subst, arith}
use Rattle.std.proofs.lemmas.List.{take_all}
use Rattle.std.specs.Io.KnownBytes.{Appends, Keeps}
use Rattle.mvd_wire.specs.Frames.{AppendsFront}

-- all of it is a front of it
kept_on : (out mid out' : Option (List ℕ)) (text : List ℕ) → Appends out mid text → Keeps mid out' → Appends out out' text
kept_on None mid out' text all kept = tt
kept_on (Some x) None out' text all kept = absurd all
kept_on (Some x) (Some y) None text all kept = absurd kept
kept_on (Some x) (Some y) (Some z) text all kept = kept ∙ all

pub front_all : (out mid out' : Option (List ℕ)) (text : List ℕ) → Appends out mid text → Keeps mid out' → AppendsFront out out' text
front_all out mid out' text all kept = (length text, subst (Appends out out') (sym (take_all (length text) text (omega arith))) (kept_on out mid out' text all kept))
