use Rattle.std.proofs.Common.{sym}
use Rattle.mvd_keys.specs.Writes.{context}
use Rattle.mvd_keys.proofs.Minted.{minted_above, minted_next, minted_unwritten, minted_within}
use Rattle.mvd_keys.proofs.Parts.{minted_not_seen, minted_unseen}
use Rattle.mvd_keys.proofs.laws.minted_dots.Goals as goal

pub returns : goal.returns
returns c = record {
  site = λ site seen dot is. (minted_next site seen dot is).own;
  counter = minted_within;
  above = minted_above;
  unseen = λ key W site seen dot is. (minted_unseen (context key W) seen site dot (sym is), minted_not_seen (context key W) seen site dot (sym is));
  unwritten = minted_unwritten;
}
