use Rattle.std.proofs.Common.{[], ◌∷◌, ◌++◌, take, sym, ap, ◌∙◌}
use Rattle.std.proofs.lemmas.List.{map_push, map_more}
use Rattle.http1.specs.Head.{header_parts, pairs}
use Rattle.http_server.specs.Response.{fields}
use Rattle.mvd_web.proofs.response.own_fields.Goals as goal

pub loop-field-preserved : goal.loop-field-preserved
loop-field-preserved c =
    let item = c.field-item.result in
    ap pairs c.in_ok-push.ensures.items ∙ map_push header_parts _ _
    ∙ (λ i. c.loop-field.invariant i ++ (c.as_bytes.ensures.value i, c.as_bytes-in-loop-field.ensures.value i) ∷ [])
    ∙ (λ i. fields (take c.loop-field.field-index c.args.fields.now) ++ ((c.field-item.is i).0, (c.field-item.is i).1.bytes) ∷ [])
    ∙ sym (map_more (λ h. (h.0, h.1.bytes)) c.args.fields.now _ item c.loop-field-test.true)
