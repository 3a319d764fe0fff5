use Rattle.std.proofs.Common.{◌≡◌, ◌∙◌, ◌==◌, ap, refl, rules, lit<, Some, None, false}
use Rattle.std.specs.List.{slice_split}
use Rattle.std.proofs.lemmas.Bool.{ne_eqb}
use Rattle.std.proofs.lemmas.List.Elements.{All-from_get_or}
use Rattle.std.proofs.lemmas.List.Splits.{slice_split_at, slice_split_none}
use Rattle.std.proofs.lemmas.Str.Pattern.{split_parts}
use Rattle.mvd_input.proofs.addresses.first_item.Goals as goal

pub returns-in-Some : goal.returns-in-Some
returns-in-Some c =
    let item = c.in-Some.item.now in
    let parts = split_parts 44 c.args.list.now (Some (c.in-Some.item, c.in-Some.rest)) c.in-Some.ensures.cases (lit< tt) in
    let front = All-from_get_or (λ byte. (byte == 44) ≡ false) item 0 (λ i below. ne_eqb _ 44 (parts.1 i below)) in
    record {
      split = ap (slice_split (λ byte. byte == 44)) parts.0 ∙ slice_split_at (λ byte. byte == 44) item 44 c.in-Some.rest.now front refl;
      shorter = search rules;
    }

pub returns-in-None : goal.returns-in-None
returns-in-None c =
    let list = c.args.list.now in
    let lacks = split_parts 44 list None c.in-None.ensures.cases (lit< tt) in
    record {
      split = slice_split_none (λ byte. byte == 44) list (All-from_get_or (λ byte. (byte == 44) ≡ false) list 0 (λ i below. ne_eqb _ 44 (lacks i below)));
      shorter = tt;
    }
