use Rattle.mvd_world.specs.Machine.{nothing_yet}
use Rattle.mvd_world.proofs.Apart.{step_apart}
use Rattle.mvd_world.proofs.Sound.{sound_run, sound_start}
use Rattle.mvd_world.proofs.laws.every_schedule.Goals as goal

pub returns-clause-sound : goal.returns-clause-sound
returns-clause-sound c = λ setting steps outcomes end runs. sound_run setting nothing_yet steps outcomes end sound_start runs

pub returns-clause-apart : goal.returns-clause-apart
returns-clause-apart c = λ setting before after step outcome sound may. step_apart setting before step outcome after sound may
