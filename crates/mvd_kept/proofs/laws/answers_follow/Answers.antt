use Rattle.mvd_kept.proofs.AnsweredAtOnce.{adds_some, answers_one, broken_told, keeps_config, refused_unchanged, told_broken}
use Rattle.mvd_kept.proofs.Fitting.{sent_fits}
use Rattle.mvd_kept.proofs.laws.answers_follow.Goals as goal

pub returns-clause-known : goal.returns-clause-known
returns-clause-known c = λ old new request reply does. answers_one old new request reply does

pub returns-clause-config : goal.returns-clause-config
returns-clause-config c = λ old new request reply does. keeps_config old new request reply does

pub returns-clause-told : goal.returns-clause-told
returns-clause-told c = λ old new request reply does. (told_broken old new request reply does, broken_told old new request reply does)

pub returns-clause-unchanged : goal.returns-clause-unchanged
returns-clause-unchanged c = λ old new request reply refusal does told other. refused_unchanged old new request reply does refusal told other

pub returns-clause-adds : goal.returns-clause-adds
returns-clause-adds c = λ old new request reply does. adds_some old new request reply does

pub returns-clause-fits : goal.returns-clause-fits
returns-clause-fits c = λ old new request reply kept does. sent_fits old new request reply kept does
