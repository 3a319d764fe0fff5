use Rattle.std.proofs.Common.{◌≡◌, ◌∙◌, refl, subst, sym}
use Rattle.mvd_site.specs.Held.{AreHeld}
use Rattle.mvd_site.specs.Sites.{SiteValue}
use Rattle.mvd_peer.specs.Live.{Grows}
use Rattle.mvd_peer.proofs.Telling.{grows_same}
use Rattle.mvd_line_tests.proofs.Among.{Waits, waits_all, waits_none, waits_on}
use Rattle.mvd_line_tests.proofs.among_others.ServedAmongOthersLine.send.Goals as goal

still : (old new : SiteValue) → new ≡ old → AreHeld old.states → AreHeld new.states × Grows old.states new.states
still old new same held = (subst (λ (s : SiteValue). AreHeld s.states) (sym same) held, subst (λ (s : SiteValue). Grows old.states s.states) (sym same) (grows_same old.states held))

pub loop-turn-init : goal.loop-turn-init
loop-turn-init c = record { site = refl; waits = λ rs f. waits_none _ rs _ f }

pub returns-in-Ok-None-clause-live : goal.returns-in-Ok-None-clause-live
returns-in-Ok-None-clause-live c t =
    let came = c.in-Ok-None.ensures.read c.loop-turn.rest.now refl in
    let same = still c.args.self.now.site c.loop-turn.self.site c.loop-turn.invariant.site t in
    (same.0, same.1, λ rs f. waits_all _ _ rs _ _ came.0 c.in-Ok-None.field-0-is came.2 (c.loop-turn.invariant.waits rs f))

pub returns-in-Err-clause-live : goal.returns-in-Err-clause-live
returns-in-Err-clause-live c t =
    let same = still c.args.self.now.site c.loop-turn.self.site c.loop-turn.invariant.site t in
    (same.0, same.1, λ rs f. tt)

pub returns-clause-live : goal.returns-clause-live
returns-clause-live c t =
    let same = still c.args.self.now.site c.loop-turn.self.site c.loop-turn.invariant.site t in
    (same.0, same.1, λ rs f. tt)

pub returns-in-Err-take-clause-live : goal.returns-in-Err-take-clause-live
returns-in-Err-take-clause-live c t =
    let same = still c.args.self.now.site c.take.new.self.site (c.take.ensures.site ∙ c.loop-turn.invariant.site) t in
    (same.0, same.1, λ rs f. tt)

pub loop-turn-preserved : goal.loop-turn-preserved
loop-turn-preserved c =
    let came = c.in-Ok-Some.ensures.read c.loop-turn.rest.now refl in
    let rest : c.read_frame.new.reader.now ≡ came.0 = let e = came.1 in cc in
    record {
      site = c.take.ensures.site ∙ c.loop-turn.invariant.site;
      waits = λ rs f.
          subst (Waits c.args.self.now.waiting.items c.take.new.self.waiting.items rs) (sym rest)
          (waits_on c.args.self.now.waiting.items c.loop-turn.self.waiting.items c.take.new.self.waiting.items rs c.loop-turn.rest.now c.in-Ok-Some.field-0 c.in-Ok-Some.frame came.0 c.in-Ok-Some.field-0-is came.2 (c.loop-turn.invariant.waits rs f) c.in-Ok.ensures.taken);
    }
