use Rattle.std.proofs.Common.{refl, ◌∙◌}
use Rattle.mvd_sync.specs.Machines.{both, of_local, of_peer}
use Rattle.mvd_sync.specs.Tellings.{IsNoPage, IsListingOf, pages_told}
use Rattle.mvd_sync.proofs.Stepping.{read_long}
use Rattle.mvd_sync.proofs.hearing.hear_pages.Goals as goal

pub returns-in-Err : goal.returns-in-Err
returns-in-Err c = of_local c.in-Err.refusal c.in-Err.ensures refl

pub returns-in-Err-read_pages : goal.returns-in-Err-read_pages
returns-in-Err-read_pages c = of_peer c.in-Ok.pages c.in-Err-read_pages.refusal c.in-Ok.ensures c.in-Err-read_pages.ensures refl

pub go_on_with-requires-clause-mine : goal.go_on_with-requires-clause-mine
go_on_with-requires-clause-mine c = read_long IsListingOf IsNoPage (pages_told c.args.answers.mine) c.args.shares.local c.in-Ok.pages c.in-Ok.ensures c.requires.local_most ∙ c.requires.local

pub go_on_with-requires-clause-theirs : goal.go_on_with-requires-clause-theirs
go_on_with-requires-clause-theirs c = read_long IsListingOf IsNoPage (pages_told c.args.answers.theirs) c.args.shares.peer c.in-Ok-read_pages.pages c.in-Ok-read_pages.ensures c.requires.peer_most ∙ c.requires.peer

pub returns : goal.returns
returns c = both c.in-Ok.pages c.in-Ok-read_pages.pages c.in-Ok.ensures c.in-Ok-read_pages.ensures c.go_on_with.ensures
