use Rattle.std.proofs.Common.{◌∷◌, [], ◌∙◌, append_assoc}
use Rattle.std.specs.List.{flat_map}
use Rattle.mvd_wire.proofs.RowFits.{children_fit, children_is, no_children_fit, no_children_is}
use Rattle.mvd_frames.proofs.row_writing.write_children.Goals as goal

pub returns-in_ok-write_sixteen-in-Some-clause-bytes : goal.returns-in_ok-write_sixteen-in-Some-clause-bytes
returns-in_ok-write_sixteen-in-Some-clause-bytes c =
    rw (c.in-Some.is, children_is c.in-Some.digests c.write_sixteen.ensures.sixteen) (c.in_ok-write_sixteen-in-Some.ensures.bytes ∙ rw c.in_ok-push-in-Some.ensures.items (append_assoc c.args.out.now.items (16 ∷ []) (flat_map (λ d. d) c.in-Some.digests)))

pub returns-in_ok-write_sixteen-in-Some-clause-fits : goal.returns-in_ok-write_sixteen-in-Some-clause-fits
returns-in_ok-write_sixteen-in-Some-clause-fits c = rw c.in-Some.is (children_fit c.in-Some.digests c.write_sixteen.ensures.sixteen c.in_ok-write_sixteen-in-Some.ensures.long)

pub returns-in_ok-push-in-None-clause-bytes : goal.returns-in_ok-push-in-None-clause-bytes
returns-in_ok-push-in-None-clause-bytes c = rw (c.in-None.is, no_children_is) c.in_ok-push-in-None.ensures.items

pub returns-in_ok-push-in-None-clause-fits : goal.returns-in_ok-push-in-None-clause-fits
returns-in_ok-push-in-None-clause-fits c = rw c.in-None.is no_children_fit
