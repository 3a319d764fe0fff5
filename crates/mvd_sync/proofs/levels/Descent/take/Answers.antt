use Rattle.std.proofs.Common.{◌≡◌, ◌++◌, ap, arith, drop, length, take, ◌∙◌}
use Rattle.mvd_sync.specs.Walk.{told_all}
use Rattle.mvd_sync.proofs.Descending.{goes_along, goes_down, rest_told}
use Rattle.mvd_sync.proofs.levels.Descent.take.Goals as goal

pub returns-then-self-len-clause-goes : goal.returns-then-self-len-clause-goes
returns-then-self-len-clause-goes c =
    let d = c.self.inside in
    let rest = rest_told c.deref.result.now d.paths.items d.told c.deref.ensures.value in
    let window : c.first_of-window.result.now ≡ take 64 (drop d.told d.paths.items) = c.first_of-window.ensures ∙ ap (take 64) rest in
    let found : c.add_all_children.new.below.items ≡ d.below.items ++ told_all (take 64 (drop d.told d.paths.items)) c.args.mine.now c.args.theirs.now =
    c.in_ok-add_all_children.ensures.added ∙ ap (λ w. d.below.items ++ told_all w c.args.mine.now c.args.theirs.now) window in
    let n = c.len.ensures in
    goes_along c.args.self.now d.depth d.told (length c.first_of-window.result.now) d.paths.items d.below.items c.add_all_children.new.below.items c.args.mine.now c.args.theirs.now c.self.view_is (ap length window) found
    (omega (arith, c.if-self-len.true, n))

pub returns-clause-goes : goal.returns-clause-goes
returns-clause-goes c =
    let d = c.self.inside in
    let rest = rest_told c.deref.result.now d.paths.items d.told c.deref.ensures.value in
    let window : c.first_of-window.result.now ≡ take 64 (drop d.told d.paths.items) = c.first_of-window.ensures ∙ ap (take 64) rest in
    let found : c.add_all_children.new.below.items ≡ d.below.items ++ told_all (take 64 (drop d.told d.paths.items)) c.args.mine.now c.args.theirs.now =
    c.in_ok-add_all_children.ensures.added ∙ ap (λ w. d.below.items ++ told_all w c.args.mine.now c.args.theirs.now) window in
    let n = c.len.ensures in
    goes_down c.args.self.now d.depth d.told (length c.first_of-window.result.now) d.paths.items d.below.items c.add_all_children.new.below.items c.args.mine.now c.args.theirs.now c.self.view_is (ap length window) found
    c.replace.result.items c.replace.new.dest.items (ap (λ v. v.items) c.replace.ensures.value) (ap (λ v. v.items) c.replace.ensures.after ∙ c.new.ensures.items)
    (omega (arith, c.if-self-len.false, n))
