use Rattle.mvd_world.specs.Machine.{nothing_yet}
use Rattle.mvd_world.proofs.Happening.{happens_apart, sound_events, steps_happen}
use Rattle.mvd_world.proofs.Sound.{sound_start}
use Rattle.mvd_world.proofs.laws.every_schedule_with_sites_opened_again.Goals as goal

pub returns-clause-sound : goal.returns-clause-sound
returns-clause-sound c = λ setting events end happen. sound_events setting nothing_yet events end sound_start happen

pub returns-clause-apart : goal.returns-clause-apart
returns-clause-apart c = λ setting before after step outcome sound happens. happens_apart setting before step outcome after sound happens

pub returns-clause-steps : goal.returns-clause-steps
returns-clause-steps c = λ setting before end steps outcomes runs. steps_happen setting before steps outcomes end runs
