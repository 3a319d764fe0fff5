use Rattle.mvd_keys.proofs.Growing.{delete_grows, grows, join_above, put_grows, stays}
use Rattle.mvd_keys.proofs.laws.no_edit_is_lost.Goals as goal

pub returns : goal.returns
returns c = record { stays = stays; grows = grows; put = put_grows; delete = delete_grows; join = join_above }
