use Rattle.std.proofs.Common.{◌≡◌, ◌≢◌, ◌++◌, ℕ, List}
use Rattle.std.proofs.lemmas.Bool.Decides.{Decides-eqb}
use Rattle.std.proofs.lemmas.Slice.Eq.{strip_prefix_is}
use Rattle.mvd_docs.proofs.PlainTexts.{matched}
use Rattle.mvd_docs.proofs.plain.literal.Goals as goal

pub returns : goal.returns
returns c =
    matched (λ x. c.args.text.now ≡ c.args.literal.now ++ x.now) ((rest : List ℕ) → c.args.text.now ≢ c.args.literal.now ++ rest) c.strip_prefix.result (strip_prefix_is Decides-eqb c.args.text.now c.args.literal.now c.strip_prefix.result c.strip_prefix.ensures.cases)
