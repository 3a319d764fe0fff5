use Rattle.std.proofs.Common.{◌≡◌, ◌+◌, ◌<◌, [], ◌∷◌, ◌++◌, Ok, List, ℕ, Option, Some, Bor, map, length, arith, subst, sym, inr}
use Rattle.std.specs.Option.{option_copied}
use Rattle.std.proofs.lemmas.List.{length-append}
use Rattle.mvd_input.specs.PassFiles.{read_line, unless_empty}
use Rattle.mvd_input.specs.Passes.{said_by}
use Rattle.mvd_input.specs.declared.pass_lines.PassLine.{PassLine}
use Rattle.mvd_input.proofs.Passing.{ReadsOn, reads_more}
use Rattle.mvd_input.proofs.pass_files.passes_in.Goals as goal

pub loop-rest-preserved : goal.loop-rest-preserved
loop-rest-preserved c =
    let text = c.args.text.now in
    let passes : List PassLine = c.loop-rest.passes.items in
    let line = c.first_line.result.0.now in
    let after = option_copied c.first_line.result.1 in
    let pass = c.in_ok-pass.pass in
    let so_far : ReadsOn text (Some c.in-Some.lines.now) passes = subst (λ (r : Option (Bor (List ℕ))). ReadsOn text (option_copied r) passes) c.in-Some.is c.loop-rest.invariant.reads in
    let is : read_line (map said_by passes) line ≡ Ok (said_by pass) = subst (λ (ps : List PassLine). read_line (map said_by ps) line ≡ Ok (said_by pass)) c.deref.ensures.value c.in_ok-pass.ensures in
    let next : ReadsOn text (unless_empty after) (passes ++ pass ∷ []) = reads_more text c.in-Some.lines.now line after passes pass so_far c.first_line.ensures.cut is in
    let pushed : c.push.new.self.items ≡ passes ++ pass ∷ [] = c.in_ok-push.ensures.items in
    record {
      reads = subst (λ (ps : List PassLine). ReadsOn text (option_copied c.unless_empty-rest.result) ps) (sym pushed) (subst (λ (r : Option (List ℕ)). ReadsOn text r (passes ++ pass ∷ [])) (sym c.unless_empty-rest.ensures) next);
      some = inr (rw pushed (omega (arith, length-append {A = PassLine})));
    }
