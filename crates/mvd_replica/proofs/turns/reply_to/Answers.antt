use Rattle.std.proofs.Common.{◌≡◌, [], ◌∷◌, sym, ap, subst, ◌∙◌}
use Rattle.mvd_wire.specs.Requests.{request_of}
use Rattle.mvd_replica.proofs.Answering.{asked_as, refused_frame, replied}
use Rattle.mvd_replica.proofs.Batching.{broken_from, choice_from, fits_one, stays_from, stored_from}
use Rattle.mvd_replica.proofs.Commits.{answer_broken, answer_config, answer_follows, answers_one, answers_stored}
use Rattle.mvd_replica.proofs.Sides.{follows_wider}
use Rattle.mvd_replica.specs.Replicas.{stored_of}
use Rattle.mvd_replica.specs.Sides.{replica_follows_self}
use Rattle.mvd_replica.specs.Whole.{leaves_self}
use Rattle.mvd_replica.specs.Turns.{LeavesTurns}
use Rattle.mvd_replica.proofs.turns.reply_to.Goals as goal

pub returns-in-Err-clause-told : goal.returns-in-Err-clause-told
returns-in-Err-clause-told g c =
    let same : request_of c.args.frame.now.kind c.args.frame.now.payload.items ≡ request_of c.args.frame.now.kind c.deref.result.now = ap (request_of c.args.frame.now.kind) (sym c.deref.ensures.value) in
    refused_frame c.args.replica.now.site (request_of c.args.frame.now.kind c.args.frame.now.payload.items) c.in-Err.refusal (λ other. same ∙ c.in-Err.ensures.exact other) (λ bye. c.in-Err.ensures.bye (sym same ∙ bye))

pub returns-clause-told : goal.returns-clause-told
returns-clause-told g c =
    let same : request_of c.args.frame.now.kind c.args.frame.now.payload.items ≡ request_of c.args.frame.now.kind c.deref.result.now = ap (request_of c.args.frame.now.kind) (sym c.deref.ensures.value) in
    let said = c.answer.ensures in
    let one = answers_one c.args.replica.now c.answer.new.self c.in-Ok.request c.answer.result said in
    replied c.args.replica.now.site c.answer.new.self.site (request_of c.args.frame.now.kind c.args.frame.now.payload.items) c.in-Ok.request c.answer.result (same ∙ c.in-Ok.ensures.exact)
    (answers_stored c.args.replica.now c.answer.new.self c.in-Ok.request c.answer.result said) (stored_from one) (fits_one c.args.replica.now.site c.answer.new.self.site c.in-Ok.request c.answer.result c.stands.ensures.held one) (c.is_bye.ensures.no c.if-is_bye.false) (choice_from one)
    (answer_config c.args.replica.now c.answer.new.self c.in-Ok.request c.answer.result said) (answer_broken c.args.replica.now c.answer.new.self c.in-Ok.request c.answer.result said) (broken_from one)
    (λ broken. (stays_from one broken).1)

pub returns-in-Err-clause-follows : goal.returns-in-Err-clause-follows
returns-in-Err-clause-follows g c = replica_follows_self _

pub returns-then-is_bye-clause-follows : goal.returns-then-is_bye-clause-follows
returns-then-is_bye-clause-follows g c = replica_follows_self _

pub returns-clause-follows : goal.returns-clause-follows
returns-clause-follows g c =
    let same : request_of c.args.frame.now.kind c.args.frame.now.payload.items ≡ request_of c.args.frame.now.kind c.deref.result.now = ap (request_of c.args.frame.now.kind) (sym c.deref.ensures.value) in
    follows_wider _ _ _ _ _ _ (λ request is. asked_as (request_of c.args.frame.now.kind c.args.frame.now.payload.items) (request_of c.args.frame.now.kind c.deref.result.now) c.in-Ok.request request same c.in-Ok.ensures.exact is)
    (answer_follows c.args.replica.now c.answer.new.self c.in-Ok.request c.answer.result c.answer.ensures)

pub returns-in-Err-clause-leaves : goal.returns-in-Err-clause-leaves
returns-in-Err-clause-leaves g c = leaves_self _ _ tt

pub returns-then-is_bye-clause-leaves : goal.returns-then-is_bye-clause-leaves
returns-then-is_bye-clause-leaves g c = leaves_self _ _ tt

pub returns-clause-leaves : goal.returns-clause-leaves
returns-clause-leaves g c =
    let same : request_of c.args.frame.now.kind c.args.frame.now.payload.items ≡ request_of c.args.frame.now.kind c.deref.result.now = ap (request_of c.args.frame.now.kind) (sym c.deref.ensures.value) in
    subst (λ a. LeavesTurns (record { asked = a; reply = c.answer.result } ∷ []) (stored_of c.args.replica.now) (stored_of c.answer.new.self)) (sym (same ∙ c.in-Ok.ensures.exact)) c.answer.ensures.leaves
