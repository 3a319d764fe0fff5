use Rattle.mvd_host.proofs.Orders.{arranged_count, arranged_twice}
use Rattle.mvd_host.proofs.arranging.arranged.Goals as goal

pub led_by-requires : goal.led_by-requires
led_by-requires c = arranged_count _ _ _ c.led_by-clients.ensures

pub returns : goal.returns
returns c = arranged_twice _ _ _ _ _ c.led_by-clients.ensures c.led_by.ensures
