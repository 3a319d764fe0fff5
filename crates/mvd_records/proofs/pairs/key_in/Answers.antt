use Rattle.std.proofs.Common.{◌≡◌, List, ℕ, ap, sym, subst, ◌∙◌}
use Rattle.std.specs.Str.{IsUtf8}
use Rattle.sqlite.specs.Order.{Row, column}
use Rattle.sqlite.specs.Value.{owned}
use Rattle.sqlite.specs.declared.types.Value.{Value}
use Rattle.sqlite.specs.declared.types.Value.TheVariants.{Text}
use Rattle.mvd_records.proofs.KeyTexts.{key_utf8}
use Rattle.mvd_records.proofs.pairs.key_in.Goals as goal

same_text : (a b : List ℕ) → ◌≡◌ {A = Value} (Text a) (Text b) → a ≡ b
same_text a b e = cc

pub returns-in_default-from_utf8-clause-damaged : goal.returns-in_default-from_utf8-clause-damaged
returns-in_default-from_utf8-clause-damaged c _ pair =
    let own = c.in-Ok-Text.ensures.ok in
    let shown = ap owned c.in-Ok-Text.field-0-is in
    let is = same_text c.in-Ok-Text.text.now pair.key (sym shown ∙ (own.1 ∙ ap (λ (r : Row). column r 0) pair.is)) in
    c.in_default-from_utf8.ensures.cases.0 (subst IsUtf8 (sym is) (key_utf8 pair.key pair.form))
