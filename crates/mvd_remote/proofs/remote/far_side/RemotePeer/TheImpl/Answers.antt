use Rattle.mvd_remote.proofs.remote.far_side.RemotePeer.TheImpl.Goals as goal

pub ask-tells : goal.ask-tells
ask-tells g c = record { says = c.ensures.says; within = c.ensures.within }
