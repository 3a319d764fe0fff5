use Rattle.std.proofs.Common.{◌∙◌, ap, inl, refl, sym}
use Rattle.mvd_app.proofs.Ending.{stops_broken, stops_same, stops_unclosed}
use Rattle.mvd_hint.specs.declared.hint.Stop.{Stop}
use Rattle.mvd_replica.specs.Replicas.{site_of}
use Rattle.mvd_app.proofs.closing.finish_whole.Goals as goal

pub returns-then-is_broken : goal.returns-then-is_broken
returns-then-is_broken g c =
    let broke = sym c.is_broken.ensures ∙ c.if-is_broken.true in
    record {
      left = (refl, inl broke);
      ended = stops_broken _ _ _ (site_of c.args.replica).broken c.and-ended.result c.args.worked c.from.result c.args.replica c.and-ended.ensures broke
          (ap (λ (s : Stop). s.fault) c.from.ensures);
    }

pub returns-in-Ok : goal.returns-in-Ok
returns-in-Ok g c = record {
  left = (sym c.is_broken.ensures ∙ c.if-is_broken.false, (λ bars. bars, c.in-Ok.ensures.closed));
  ended = stops_same _ _ _ (site_of c.args.replica).broken c.args.worked c.args.worked c.in-Ok.files refl;
}

pub returns-in-Err : goal.returns-in-Err
returns-in-Err g c =
    let whole = sym c.is_broken.ensures ∙ c.if-is_broken.false in
    record {
      left = (c.in-Err.error, c.in-Err.ensures.failed);
      ended = stops_unclosed _ _ _ (site_of c.args.replica).broken c.and-ended-in-Err.result c.args.worked c.in_file.result c.in-Err.store c.and-ended-in-Err.ensures whole c.in_file.ensures;
    }
