use Rattle.std.proofs.Common.{ap}
use Rattle.mvd_sync.specs.Walking.{of_memory}
use Rattle.mvd_sync.specs.declared.report.SyncFault.TheVariants.{Local}
use Rattle.mvd_sync.proofs.Machined.{told_found}
use Rattle.mvd_sync.proofs.hearing.go_on_with.Goals as goal

pub settle-requires : goal.settle-requires
settle-requires c = record { held = told_found c.args.walk c.args.mine.items c.args.theirs.items c.in-Ok.found c.take.new.self c.requires.held c.in-Ok.ensures.told }

pub returns-in-Ok-settle : goal.returns-in-Ok-settle
returns-in-Ok-settle c = (c.take.new.self, c.in-Ok.found, c.in-Ok.ensures.told, c.in-Ok-settle.ensures.settles)

pub returns-in-Err-settle : goal.returns-in-Err-settle
returns-in-Err-settle c = of_memory (ap Local c.in-Err-settle.ensures.memory)
