use Rattle.std.proofs.Common.{◌≡◌, ◌++◌, ◌∷◌, ◌+◌, [], take, sym, ap, ◌∙◌, arith}
use Rattle.std.proofs.lemmas.List.{take_more}
use Rattle.std.proofs.lemmas.List.Elements.{All-push}
use Rattle.mvd_wire.specs.Codecs.{document}
use Rattle.mvd_wire.proofs.Spellings.{one_sibling_more}
use Rattle.mvd_wire.proofs.lengths.siblings_length.Goals as goal

pub loop-sibling-preserved : goal.loop-sibling-preserved
loop-sibling-preserved c =
    let i = c.loop-sibling.sibling-index in
    let ss = c.args.siblings.now in
    let s = c.sibling-item.result in
    let more : take (i + 1) ss ≡ take i ss ++ s ∷ [] = take_more ss i s c.loop-sibling-test.true ∙ ap (λ x. take i ss ++ x ∷ []) (sym c.sibling-item.is) in
    record {
      length_so_far = rw (more, one_sibling_more (take i ss) s) (omega (arith, c.loop-sibling.invariant.length_so_far, c.saturating_add-total.ensures, c.sibling_length.ensures.length));
      fit = rw more (All-push (λ x. document.Fits x.document) (take i ss) s c.loop-sibling.invariant.fit c.sibling_length.ensures.fits);
    }
