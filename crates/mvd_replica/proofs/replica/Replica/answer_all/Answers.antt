use Rattle.std.proofs.Common.{ap, length, take, sym, subst, arith}
use Rattle.std.proofs.lemmas.List.{take_all}
use Rattle.mvd_replica.specs.Commits.{AnswersInCommits, SharesFront}
use Rattle.mvd_replica.proofs.Fronts.{each_none, front_answers, front_grows, front_within, rest_of}
use Rattle.mvd_replica.proofs.replica.Replica.answer_all.Goals as goal

pub groups-init : goal.groups-init
groups-init g c =
    let none = c.in_ok-replies.ensures.items in
    record {
      answers = subst (λ l. AnswersInCommits (take (length l) c.args.requests.now) l c.args.self.now c.args.self.now) (sym none) (each_none c.args.self.now);
      within = omega (arith, ap length none);
      room = c.in_ok-replies.ensures.capacity;
    }

pub groups-preserved : goal.groups-preserved
groups-preserved g c =
    let requests = c.args.requests.now in
    let told = c.groups.replies.items in
    let given = c.answer_front.new.replies.items in
    let front = subst (λ r. SharesFront r told given c.groups.self c.answer_front.new.self)
    (rest_of requests c.len-in-groups.result told (omega (arith, c.len-in-groups.ensures, c.groups.replies.ok.0))) c.answer_front.ensures.answers in
    record {
      answers = front_answers requests told given c.args.self.now c.groups.self c.answer_front.new.self c.groups.invariant.within c.groups.invariant.answers front;
      within = front_within requests told given c.args.self.now c.groups.self c.answer_front.new.self c.groups.invariant.within c.groups.invariant.answers front;
      room = omega (arith, c.groups.invariant.room, c.answer_front.ensures.room);
    }

pub groups-smaller : goal.groups-smaller
groups-smaller g c =
    let requests = c.args.requests.now in
    let told = c.groups.replies.items in
    let given = c.answer_front.new.replies.items in
    let front = subst (λ r. SharesFront r told given c.groups.self c.answer_front.new.self)
    (rest_of requests c.len-in-groups.result told (omega (arith, c.len-in-groups.ensures, c.groups.replies.ok.0))) c.answer_front.ensures.answers in
    let grows = front_grows requests told given c.args.self.now c.groups.self c.answer_front.new.self c.groups.invariant.within c.groups.invariant.answers front in
    omega (arith, grows, c.groups-test.true, c.len.ensures, c.groups.replies.ok.0)

pub returns : goal.returns
returns g c =
    let all = take_all (length c.groups.replies.items) c.args.requests.now (omega (arith, c.groups-test.false, c.len.ensures, c.groups.replies.ok.0)) in
    record {
      answers = subst (λ l. AnswersInCommits l c.groups.replies.items c.args.self.now c.groups.self) all c.groups.invariant.answers;
      memory = tt;
    }
