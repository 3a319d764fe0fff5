use Rattle.std.proofs.Common.{◌-◌, length, refl, sym, ap, ◌∙◌, arith}
use Rattle.std.specs.Vec.{with_item}
use Rattle.std.proofs.lemmas.Option.{slice_get_read}
use Rattle.mvd_world.specs.declared.open_world.OpenSession.{OpenSession}
use Rattle.mvd_world.specs.declared.open_world.OpenWorld.{OpenWorld}
use Rattle.std.specs.Prelude.{slice_set}
use Rattle.mvd_world.proofs.Opened.{go_acts, go_ended, none_of}
use Rattle.mvd_world.proofs.Taking.{numbered}
use Rattle.mvd_world.proofs.open_world.OpenWorld.go.Goals as goal

pub returns-in_default : goal.returns-in_default
returns-in_default c =
    let old = c.args.self.now in
    let session = c.index_mut-session.result.now in
    let low = numbered (length old.sessions.items) c.args.number (sym c.has.ensures ∙ c.if-not-has.false) in
    let i = c.args.number - 1 in
    let session' : OpenSession = record { local = session.local; peer = session.peer; machine = c.take.new.self } in
    let new : OpenWorld = record { alloc = old.alloc; world = old.world; sessions = with_item old.sessions i session' } in
    go_ended old new c.args.number i session (omega (arith, low.0))
    (slice_get_read old.sessions.items (length old.sessions.items) i session refl (omega (arith, low.0, low.1)) c.index_mut-session.ensures.value)
    (sym c.take.ensures.value ∙ none_of _ c.in_default.not-Some) refl
    (ap (λ left. slice_set old.sessions.items i (record { local = session.local; peer = session.peer; machine = left })) c.take.ensures.after)

pub returns : goal.returns
returns c =
    let old = c.args.self.now in
    let session = c.index_mut-session.result.now in
    let low = numbered (length old.sessions.items) c.args.number (sym c.has.ensures ∙ c.if-not-has.false) in
    let i = c.args.number - 1 in
    let session' : OpenSession = record { local = session.local; peer = session.peer; machine = c.go_on-came.result.1 } in
    let new : OpenWorld = record { alloc = old.alloc; world = c.go_on-came.new.world; sessions = with_item old.sessions i session' } in
    go_acts old new c.args.number i session c.in-Some.machine c.go_on-came.result.0 c.go_on-came.result.1 (omega (arith, low.0))
    (slice_get_read old.sessions.items (length old.sessions.items) i session refl (omega (arith, low.0, low.1)) c.index_mut-session.ensures.value)
    (sym c.take.ensures.value ∙ c.in-Some.is) c.go_on-came.ensures refl
