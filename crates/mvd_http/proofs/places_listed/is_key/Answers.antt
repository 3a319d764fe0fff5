use Rattle.std.proofs.Common.{◌∙◌, Some, ap, sym}
use Rattle.std.specs.Option.{option_copied}
use Rattle.mvd_keys.proofs.KeyOrder.{same_where_tied}
use Rattle.mvd_keys.specs.Writes.{Key}
use Rattle.mvd_http.proofs.places_listed.is_key.Goals as goal

pub returns-in-Some : goal.returns-in-Some
returns-in-Some c same = ap option_copied c.in-Some.is ∙ ap (λ (k : Key). Some k) (same_where_tied c.in-Some.last.now c.args.key.now (sym c.eq.ensures ∙ same))
