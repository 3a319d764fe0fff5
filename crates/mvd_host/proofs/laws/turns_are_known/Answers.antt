use Rattle.mvd_host.proofs.Known.{choice_known, replies_known, stands_known, told_known}
use Rattle.mvd_host.proofs.laws.turns_are_known.Goals as goal

pub returns : goal.returns
returns c = record { replies = replies_known; stands = stands_known; choice = choice_known; told = told_known }
