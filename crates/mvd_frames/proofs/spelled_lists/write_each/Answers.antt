use Rattle.std.proofs.Common.{◌≡◌, ◌+◌, ◌++◌, ◌∷◌, [], take, sym, ap, ◌∙◌}
use Rattle.std.proofs.lemmas.List.{take_more}
use Rattle.std.proofs.lemmas.List.Elements.{All-push}
use Rattle.mvd_wire.proofs.RowFits.{flat_push}
use Rattle.mvd_frames.proofs.spelled_lists.write_each.Goals as goal

pub loop-item-preserved : goal.loop-item-preserved
loop-item-preserved g c =
    let i = c.loop-item.item-index in
    let xs = c.args.items.now in
    let x = c.item-item.result in
    let more : take (i + 1) xs ≡ take i xs ++ x ∷ [] = take_more xs i x c.loop-item-test.true ∙ ap (λ y. take i xs ++ y ∷ []) (sym c.item-item.is) in
    record {
      bytes = rw more (flat_push g.T.Spelled.kind.spell (take i xs) x c.args.out.now.items c.loop-item.out.items c.put.new.out.items c.loop-item.invariant.bytes c.in_ok-put.ensures.bytes);
      fit = rw more (All-push g.T.Spelled.kind.Fits (take i xs) x c.loop-item.invariant.fit c.in_ok-put.ensures.fits);
    }
