use Rattle.std.proofs.Common.{◌≡◌, ◌∙◌, arith, inl, refl}
use Rattle.mvd_replica.proofs.Loading.{loaded_holds, unmoved_not_full, unmoved_unloaded, whenever}
use Rattle.mvd_replica.proofs.Moving.{same_then, same_unchanged}
use Rattle.mvd_replica.proofs.RestoredOrder.{alone_ordered, order_by, order_migrated, resumes_moved, resumes_same, too_many_after, too_many_moved}
use Rattle.mvd_replica.proofs.restoring.site_in.Goals as goal

pub returns-then-version-eq2 : goal.returns-then-version-eq2
returns-then-version-eq2 g c =
    let version = c.args.records.now.version in
    let two : version ≡ 2 = omega (arith, c.version.ensures.value, c.if-version-eq2.true) in
    record {
      config = c.load.ensures.config;
      stands = c.load.ensures.stands;
      version = whenever c.load.result (c.load.ensures.version ∙ two);
      holds = λ number sound holds. loaded_holds c.load.result _ _ version number two (c.load.ensures.unchanged version number sound holds) holds (c.load.ensures.spelled version number sound holds);
      alone = λ number sound holds. alone_ordered c.load.result _ _ (c.load.ensures.unchanged version number sound holds) (c.load.ensures.order version number sound holds);
      refusal = c.load.ensures.refusal;
      order = λ number sound holds. order_by c.load.result version _ _ two (c.load.ensures.order version number sound holds);
      full = λ number sound holds. too_many_after c.load.result c.args.config.max_keys version _ _ two (c.load.ensures.unchanged version number sound holds) (c.load.ensures.full version number sound holds);
      states = λ number sound holds. same_unchanged _ _ (c.load.ensures.unchanged version number sound holds);
      still = λ _ number sound holds. c.load.ensures.unchanged version number sound holds;
      resumes = λ number sound holds. resumes_same version number _ _ (c.load.ensures.unchanged version number sound holds) holds;
      before = c.load.ensures.before;
      stays_open = c.load.ensures.stays_open;
    }

pub returns-in-Ok : goal.returns-in-Ok
returns-in-Ok g c =
    let version = c.args.records.now.version in
    record {
      config = c.load-in-Ok.ensures.config;
      stands = c.load-in-Ok.ensures.stands;
      version = whenever c.load-in-Ok.result (c.load-in-Ok.ensures.version ∙ c.in-Ok.ensures.version);
      holds = λ number sound holds. (
          let moved = c.in-Ok.ensures.moved number (c.load-in-Ok.ensures.before sound) holds in
          loaded_holds c.load-in-Ok.result _ _ 2 number refl (c.load-in-Ok.ensures.unchanged 2 number sound moved) moved (c.load-in-Ok.ensures.spelled 2 number sound moved));
      alone = λ number sound holds. (
          let moved = c.in-Ok.ensures.moved number (c.load-in-Ok.ensures.before sound) holds in
          alone_ordered c.load-in-Ok.result _ _ (c.load-in-Ok.ensures.unchanged 2 number sound moved) (c.load-in-Ok.ensures.order 2 number sound moved));
      refusal = c.load-in-Ok.ensures.refusal;
      order = λ number sound holds. (
          let before = c.load-in-Ok.ensures.before sound in
          order_migrated c.load-in-Ok.result version _ _ (c.in-Ok.ensures.order number before holds) (c.load-in-Ok.ensures.order 2 number sound (c.in-Ok.ensures.moved number before holds)));
      full = λ number sound holds. (
          let before = c.load-in-Ok.ensures.before sound in
          let moved = c.in-Ok.ensures.moved number before holds in
          too_many_moved c.load-in-Ok.result c.args.config.max_keys version _ _ _ (c.load-in-Ok.ensures.unchanged 2 number sound moved) (c.in-Ok.ensures.order number before holds) (c.load-in-Ok.ensures.full 2 number sound moved));
      states = λ number sound holds. (
          let before = c.load-in-Ok.ensures.before sound in
          same_then _ _ _ (c.in-Ok.ensures.states number before holds) (same_unchanged _ _ (c.load-in-Ok.ensures.unchanged 2 number sound (c.in-Ok.ensures.moved number before holds))));
      still = λ two. absurd (omega (arith, two, c.version.ensures.value, c.if-version-eq2.false));
      resumes = λ number sound holds. (
          let before = c.load-in-Ok.ensures.before sound in
          let moved = c.in-Ok.ensures.moved number before holds in
          resumes_moved version number _ _ _ (c.load-in-Ok.ensures.unchanged 2 number sound moved) moved (c.in-Ok.ensures.order number before holds));
      before = λ sound. c.in-Ok.ensures.before (c.load-in-Ok.ensures.before sound);
      stays_open = c.load-in-Ok.ensures.stays_open;
    }

pub returns-in-Err : goal.returns-in-Err
returns-in-Err g c = record {
  config = tt;
  stands = tt;
  version = tt;
  holds = λ number sound holds. tt;
  alone = λ number sound holds. tt;
  refusal = unmoved_unloaded _ c.in-Err.ensures.refusal;
  order = λ number sound holds. c.in-Err.ensures.order number sound holds;
  full = λ number sound holds full. absurd (unmoved_not_full _ c.in-Err.ensures.refusal full);
  states = c.in-Err.ensures.states;
  still = λ two. absurd (omega (arith, two, c.version.ensures.value, c.if-version-eq2.false));
  resumes = λ number sound holds. (c.args.records.now.version, inl refl, c.in-Err.ensures.moved number sound holds, c.in-Err.ensures.alike number sound holds);
  before = c.in-Err.ensures.before;
  stays_open = λ clean. tt;
}
