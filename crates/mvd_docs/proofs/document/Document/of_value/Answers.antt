use Rattle.std.proofs.Common.{◌≡◌, Ok, arith, string_bytes, ap, ◌∙◌}
use Rattle.serde_json.specs.View.{view}
use Rattle.mvd_docs.specs.Document.{document_of_data}
use Rattle.mvd_docs.proofs.Own.{is_its_own}
use Rattle.mvd_docs.proofs.WholeNumbers.{no_float_where_whole}
use Rattle.mvd_docs.proofs.document.Document.of_value.Goals as goal

pub invariant_of-result : goal.invariant_of-result
invariant_of-result c =
    let kept = ap string_bytes c.in_ok-text-2.ensures.ok ∙ c.shrink_to_fit.ensures.bytes in
    let written : document_of_data (view c.args.value) ≡ Ok (string_bytes c.in_ok-text.text) = grind (arith, no_float_where_whole) in
    is_its_own _ _ (view c.args.value) kept (c.in_ok-text.ensures.reads_back c.requires) written
