use Rattle.std.proofs.Common.{subst}
use Rattle.mvd_sync.specs.Tellings.{IsNoPage, IsListingOf, IsRead}
use Rattle.mvd_sync.proofs.telling.read_pages.Goals as goal

pub returns : goal.returns
returns c = subst (λ t. IsRead IsListingOf IsNoPage t c.args.share c.read.result) c.pages_in.ensures c.read.ensures
