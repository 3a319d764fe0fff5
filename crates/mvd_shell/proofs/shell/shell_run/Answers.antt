use Rattle.std.proofs.Common.{◌≡◌, ◌-◌, ◌^◌, Bool, Ok, arith, subst}
use Rattle.mvd_shell.specs.Shell.{ShellTakesLine, at}
use Rattle.mvd_shell.proofs.Typing.{asks_none, begins, counted_out, ends, fails, far_asks, goes_on}
use Rattle.mvd_shell.proofs.shell.shell_run.Goals as goal

pub loop-number-init : goal.loop-number-init
loop-number-init g c = begins g.A.Endpoint.answers g.L.Losses.lost (at c.args.asked.now (g.R.Read.remaining c.args.reader.now) (g.W.Write.contents c.args.writer.now))

pub loop-number-preserved : goal.loop-number-preserved
loop-number-preserved g c =
    let start = at c.args.asked.now (g.R.Read.remaining c.args.reader.now) (g.W.Write.contents c.args.writer.now) in
    let now = at c.loop-number.asked (g.R.Read.remaining c.loop-number.reader) (g.W.Write.contents c.loop-number.writer) in
    let then = at c.take_line.new.asked (g.R.Read.remaining c.take_line.new.reader) (g.W.Write.contents c.take_line.new.writer) in
    goes_on g.A.Endpoint.answers g.L.Losses.lost start now then c.loop-number.number c.loop-number.invariant
    (subst (λ (b : Bool). ShellTakesLine g.A.Endpoint.answers g.L.Losses.lost c.loop-number.number now then (Ok b)) c.in-Ok-true.field-0-test c.in-Ok-true.ensures.told)

pub returns-in-Ok-false-clause-told : goal.returns-in-Ok-false-clause-told
returns-in-Ok-false-clause-told g c =
    let start = at c.args.asked.now (g.R.Read.remaining c.args.reader.now) (g.W.Write.contents c.args.writer.now) in
    let now = at c.loop-number.asked (g.R.Read.remaining c.loop-number.reader) (g.W.Write.contents c.loop-number.writer) in
    let then = at c.take_line.new.asked (g.R.Read.remaining c.take_line.new.reader) (g.W.Write.contents c.take_line.new.writer) in
    ends g.A.Endpoint.answers g.L.Losses.lost start now then c.loop-number.number tt c.loop-number.invariant
    (subst (λ (b : Bool). ShellTakesLine g.A.Endpoint.answers g.L.Losses.lost c.loop-number.number now then (Ok b)) c.in-Ok-false.field-0-test c.in-Ok-false.ensures.told)

pub returns-in-Err-clause-told : goal.returns-in-Err-clause-told
returns-in-Err-clause-told g c =
    let start = at c.args.asked.now (g.R.Read.remaining c.args.reader.now) (g.W.Write.contents c.args.writer.now) in
    let now = at c.loop-number.asked (g.R.Read.remaining c.loop-number.reader) (g.W.Write.contents c.loop-number.writer) in
    let then = at c.take_line.new.asked (g.R.Read.remaining c.take_line.new.reader) (g.W.Write.contents c.take_line.new.writer) in
    fails g.A.Endpoint.answers g.L.Losses.lost start now then c.loop-number.number c.in-Err.fault c.loop-number.invariant c.in-Err.ensures.told

pub returns-clause-told : goal.returns-clause-told
returns-clause-told g c =
    let start = at c.args.asked.now (g.R.Read.remaining c.args.reader.now) (g.W.Write.contents c.args.writer.now) in
    let now = at c.loop-number.asked (g.R.Read.remaining c.loop-number.reader) (g.W.Write.contents c.loop-number.writer) in
    let counted : c.loop-number.number ≡ 2 ^ 64 - 1 = omega (arith, c.loop-number-test.false, c.loop-number.auto.number-end) in
    counted_out g.A.Endpoint.answers g.L.Losses.lost start now c.loop-number.number c.loop-number.invariant counted

pub returns-in-Ok-false-clause-asked : goal.returns-in-Ok-false-clause-asked
returns-in-Ok-false-clause-asked g c =
    let start = at c.args.asked.now (g.R.Read.remaining c.args.reader.now) (g.W.Write.contents c.args.writer.now) in
    let now = at c.loop-number.asked (g.R.Read.remaining c.loop-number.reader) (g.W.Write.contents c.loop-number.writer) in
    far_asks g.A.Endpoint.answers g.L.Losses.lost start now c.take_line.new.asked c.loop-number.number c.loop-number.invariant c.take_line.ensures.asked

pub returns-in-Err-clause-asked : goal.returns-in-Err-clause-asked
returns-in-Err-clause-asked g c =
    let start = at c.args.asked.now (g.R.Read.remaining c.args.reader.now) (g.W.Write.contents c.args.writer.now) in
    let now = at c.loop-number.asked (g.R.Read.remaining c.loop-number.reader) (g.W.Write.contents c.loop-number.writer) in
    far_asks g.A.Endpoint.answers g.L.Losses.lost start now c.take_line.new.asked c.loop-number.number c.loop-number.invariant c.take_line.ensures.asked

pub returns-clause-asked : goal.returns-clause-asked
returns-clause-asked g c =
    let start = at c.args.asked.now (g.R.Read.remaining c.args.reader.now) (g.W.Write.contents c.args.writer.now) in
    let now = at c.loop-number.asked (g.R.Read.remaining c.loop-number.reader) (g.W.Write.contents c.loop-number.writer) in
    far_asks g.A.Endpoint.answers g.L.Losses.lost start now c.loop-number.asked c.loop-number.number c.loop-number.invariant (asks_none g.A.Endpoint.answers c.loop-number.asked)
