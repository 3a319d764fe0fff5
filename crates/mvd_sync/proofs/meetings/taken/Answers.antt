use Rattle.mvd_sync.proofs.Plans.{asked_more, pairs_more}
use Rattle.mvd_sync.proofs.meetings.taken.Goals as goal

pub loop-meeting-preserved : goal.loop-meeting-preserved
loop-meeting-preserved c = record {
  asked = asked_more c.args.side c.loop-meeting.yielded c.in-Some.meeting _ _ _ c.loop-meeting.invariant.asked c.take_out-state.ensures.taken c.in_ok-push.ensures.items;
  pairs = pairs_more c.args.side c.loop-meeting.yielded c.in-Some.meeting _ _ _ _ c.loop-meeting.invariant.pairs c.take_out-state.ensures.wanted c.take_out-state.ensures.taken c.in_ok-add_pair.ensures.added;
}
