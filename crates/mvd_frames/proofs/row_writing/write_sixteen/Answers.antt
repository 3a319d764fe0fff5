use Rattle.std.proofs.Common.{◌≡◌, ◌+◌, ◌++◌, ◌∷◌, [], ℕ, List, get_or, length, take, arith}
use Rattle.std.proofs.lemmas.List.{take_more}
use Rattle.std.proofs.lemmas.List.Elements.{All-push}
use Rattle.mvd_wire.proofs.RowFits.{flat_push}
use Rattle.mvd_frames.proofs.row_writing.write_sixteen.Goals as goal

pub loop-digest-preserved : goal.loop-digest-preserved
loop-digest-preserved c =
    let i = c.loop-digest.digest-index in
    let ds = c.args.digests.now in
    let more : take (i + 1) ds ≡ take i ds ++ get_or ds i [] ∷ [] = take_more ds i [] (omega (arith, c.told-digests, c.loop-digest-test.true)) in
    record {
      bytes = rw more (flat_push (λ (d : List ℕ). d) (take i ds) (get_or ds i []) c.args.out.now.items c.loop-digest.out.items c.write_digest.new.out.items c.loop-digest.invariant.bytes c.in_ok-write_digest.ensures.bytes);
      long = rw more (All-push (λ d. length d ≡ 32) (take i ds) (get_or ds i []) c.loop-digest.invariant.long c.in_ok-write_digest.ensures.long);
    }
