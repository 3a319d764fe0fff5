use Rattle.std.proofs.Common.{Ok, sym, ap, ◌∙◌}
use Rattle.std.specs.Option.{option_map}
use Rattle.serde_json.specs.Read.{read}
use Rattle.serde_json.specs.View.{view}
use Rattle.mvd_docs.proofs.Own.{own_text, own_reads_back, never_unread}
use Rattle.mvd_docs.proofs.document.Parsed.of.Goals as goal

pub invariant_of-result : goal.invariant_of-result
invariant_of-result c =
    let reads = ap (option_map view) (sym c.in-Some.is) ∙ c.in_ok-value.ensures.value ∙ ap read c.text.ensures.same in
    own_reads_back c.args.document.now (view c.in-Some.value) c.text.ensures.document.is_its_own reads

pub unreachable-requires : goal.unreachable-requires
unreachable-requires c =
    let reads = ap (option_map view) (sym c.in-None.is) ∙ c.in_ok-value.ensures.value ∙ ap read c.text.ensures.same in
    never_unread c.args.document.now c.text.ensures.document.is_its_own reads

pub returns : goal.returns
returns c =
    let reads = ap (option_map view) (sym c.in-Some.is) ∙ c.in_ok-value.ensures.value ∙ ap read c.text.ensures.same in
    ap Ok (sym (own_text c.args.document.now (view c.in-Some.value) c.text.ensures.document.is_its_own reads))
