use Rattle.mvd_host.proofs.arranging.Lanes.place.Goals as goal

pub lead-requires : goal.lead-requires
lead-requires c = record { room = c.requires.room; unshut = c.leads.ensures.unshut c.if-leads.true; none = c.leads.ensures.none c.if-leads.true }

pub follow-requires : goal.follow-requires
follow-requires c = record { room = c.requires.room }

pub returns-then-leads : goal.returns-then-leads
returns-then-leads c = record { lays = c.lead.ensures.lays; room = c.lead.ensures.room }

pub returns : goal.returns
returns c = record { lays = c.follow.ensures.lays; room = c.follow.ensures.room }
