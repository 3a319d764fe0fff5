use Rattle.std.proofs.Common.{sym, ◌∙◌}
use Rattle.mvd_rows.proofs.ByKey.{visible_of_writes}
use Rattle.mvd_kept.specs.Answer.{states_of}
use Rattle.mvd_kept.proofs.KnownKeys.{states_of-stands}
use Rattle.mvd_kept.proofs.Steps.{state_known}
use Rattle.mvd_kept.proofs.Answered.{after_stands, answered}
use Rattle.mvd_kept.proofs.Clashes.{clash_alone}
use Rattle.mvd_kept.proofs.laws.answers_from_states.Goals as goal

pub returns-clause-state : goal.returns-clause-state
returns-clause-state c = λ known key. state_known known key

pub returns-clause-visible : goal.returns-clause-visible
returns-clause-visible c = λ known. visible_of_writes (states_of known) known (states_of-stands known)

pub returns-clause-answer : goal.returns-clause-answer
returns-clause-answer c = λ config states known request stands. answered config states known request stands

pub returns-clause-after : goal.returns-clause-after
returns-clause-after c = λ config states known request added stands adds. after_stands config states known request added stands adds

pub returns-clause-alike : goal.returns-clause-alike
returns-clause-alike c = λ config states V W request left right. sym (answered config states V request left) ∙ answered config states W request right

pub returns-clause-clash : goal.returns-clause-clash
returns-clause-clash c = λ config states request is. clash_alone config states request is
