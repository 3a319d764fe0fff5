use Rattle.mvd_server.proofs.Bounding.{lines_within, news_within, page_within}
use Rattle.mvd_server.proofs.laws.rights_bound_lists.Goals as goal

pub returns : goal.returns
returns c = record { lines = lines_within; page = page_within; news = news_within }
