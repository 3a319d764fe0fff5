use Rattle.std.proofs.Common.{◌∙◌, ap, sym, subst, length, zip}
use Rattle.mvd_host.specs.Arranging.{Arranged, HasPlaces}
use Rattle.mvd_host.proofs.Orders.{arranged_same, zip_length}
use Rattle.mvd_host.proofs.arranging.led_by.Goals as goal

pub returns-then-not-is_mixed : goal.returns-then-not-is_mixed
returns-then-not-is_mixed c = arranged_same c.args.clients.items c.args.requests.items c.requires

pub returns-in_default : goal.returns-in_default
returns-in_default c = arranged_same c.args.clients.items c.args.requests.items c.requires

pub joined-requires : goal.joined-requires
joined-requires c =
    let same = ap length c.deref-2.ensures.value ∙ c.requires in
    record { room = (zip c.deref-2.result.now c.args.requests.items, c.place_all.ensures.lays, subst (λ n. HasPlaces n c.place_all.new.self) (sym (zip_length c.deref-2.result.now c.args.requests.items same)) c.place_all.ensures.room) }

pub returns : goal.returns
returns c =
    subst (λ l. Arranged (zip l c.args.requests.items) c.joined.result.0.items c.joined.result.1.items) c.deref-2.ensures.value
    (c.joined.ensures (zip c.deref-2.result.now c.args.requests.items) c.place_all.ensures.lays)
