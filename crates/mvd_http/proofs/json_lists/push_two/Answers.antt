use Rattle.std.proofs.Common.{◌≡◌, ◌++◌, ℤ, subst, string_bytes}
use Rattle.std.specs.Fmt.{signed_decimal}
use Rattle.std.specs.Int.{w64}
use Rattle.std.proofs.lemmas.Int.{to_z-of_z}
use Rattle.mvd_http.proofs.Steps.{steps4}
use Rattle.mvd_http.proofs.json_lists.push_two.Goals as goal

pub returns : goal.returns
returns c =
    let First : ℤ → Type 0 = λ z. string_bytes c.push_whole.new.out ≡ string_bytes c.push_word.new.out ++ signed_decimal z in
    let Second : ℤ → Type 0 = λ z. string_bytes c.push_whole-2.new.out ≡ string_bytes c.push_word-2.new.out ++ signed_decimal z in
    let first = subst First (to_z-of_z w64 c.args.least c.ranges.least) c.in_ok-push_whole.ensures.text in
    let second = subst Second (to_z-of_z w64 c.args.greatest c.ranges.greatest) c.in_ok-push_whole-2.ensures.text in
    steps4 _ _ _ _ _ _ _ _ _ c.in_ok-push_word.ensures.text first c.in_ok-push_word-2.ensures.text second
