use Rattle.std.proofs.Common.{rules, ◌≡◌, ◌*◌, ◌<◌, length, refl, arith}
use Rattle.mvd_tree.proofs.BitSet.{is_new, numbers_in-set}
use Rattle.mvd_tree.proofs.numbers.Numbers.insert.Goals as goal

pub returns : goal.returns
returns c =
    let words = c.self.inside.words in
    let all : length words ≡ 64 = search rules in
    let within : c.args.number < 64 * length words = omega (arith, all, c.requires) in
    rw (← c.self.view_is) (record { new = is_new words c.args.number _ within refl; numbers = numbers_in-set words c.args.number _ within refl })
