use Rattle.std.proofs.Common.{Option, List, ℕ, Bor, Some, subst, sym}
use Rattle.std.specs.Prelude.{string_bytes}
use Rattle.std.specs.Io.KnownBytes.{Appends}
use Rattle.std.specs.Option.{option_copied}
use Rattle.mvd_script.proofs.Running.{Running, begins, ended, fails, goes_on}
use Rattle.mvd_script.proofs.script.run_lines.Goals as goal

pub loop-rest-init : goal.loop-rest-init
loop-rest-init g c =
    let start = g.W.Write.contents c.args.writer.now in
    subst (λ (out : List ℕ). Running c.args.text.now (Some c.args.text.now) 0 c.args.script.now start start out) (sym c.requires.empty) (begins c.args.text.now c.args.script.now start c.requires.blank)

pub loop-rest-preserved : goal.loop-rest-preserved
loop-rest-preserved g c =
    let start = g.W.Write.contents c.args.writer.now in
    let now = g.W.Write.contents c.loop-rest.writer in
    let so_far = subst (λ (r : Option (Bor (List ℕ))). Running c.args.text.now (option_copied r) c.loop-rest.number c.loop-rest.script start now (string_bytes c.loop-rest.out)) c.in-Some.is c.loop-rest.invariant in
    goes_on c.args.text.now c.in-Some.lines.now c.first_line.result.0.now c.first_line.result.1 c.loop-rest.number c.loop-rest.script c.run_line.new.script start now (g.W.Write.contents c.write_piece.new.writer) (string_bytes c.loop-rest.out) (string_bytes c.run_line.new.out) (string_bytes c.write_piece.new.out) c.in-Ok.field-0 so_far c.first_line.ensures.cut c.first_line.ensures.shorter c.in-Ok.ensures c.in_ok-write_piece.ensures.sent

pub returns-in-Err-clause-played : goal.returns-in-Err-clause-played
returns-in-Err-clause-played g c =
    let start = g.W.Write.contents c.args.writer.now in
    let now = g.W.Write.contents c.loop-rest.writer in
    let last = g.W.Write.contents c.write_out.new.writer in
    let so_far = subst (λ (r : Option (Bor (List ℕ))). Running c.args.text.now (option_copied r) c.loop-rest.number c.loop-rest.script start now (string_bytes c.loop-rest.out)) c.in-Some.is c.loop-rest.invariant in
    fails c.args.text.now c.in-Some.lines.now c.first_line.result.0.now (option_copied c.first_line.result.1) c.loop-rest.number c.loop-rest.script c.run_line.new.script start now last (string_bytes c.loop-rest.out) (string_bytes c.run_line.new.out) c.in-Err.fault so_far c.first_line.ensures.cut c.in-Err.ensures (subst (λ (t : List ℕ). Appends now last t) c.as_str.ensures.value c.in_ok-write_out-in-Err.ensures.ok)

pub returns-clause-played : goal.returns-clause-played
returns-clause-played g c =
    let start = g.W.Write.contents c.args.writer.now in
    let now = g.W.Write.contents c.loop-rest.writer in
    let last = g.W.Write.contents c.write_out-2.new.writer in
    let so_far = subst (λ (r : Option (Bor (List ℕ))). Running c.args.text.now (option_copied r) c.loop-rest.number c.loop-rest.script start now (string_bytes c.loop-rest.out)) c.in_default.is c.loop-rest.invariant in
    ended c.args.text.now c.loop-rest.number c.loop-rest.script start now last (string_bytes c.loop-rest.out) c.as_str-2.result.now c.write_out-2.result c.as_str-2.ensures.value so_far c.write_out-2.ensures.ok c.write_out-2.ensures.err
