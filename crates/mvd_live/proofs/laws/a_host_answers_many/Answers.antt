use Rattle.mvd_live.proofs.Hosted.{host_answers}
use Rattle.mvd_live.proofs.HostBetween.{host_tells_between}
use Rattle.mvd_live.proofs.HostMail.{host_at_hand, host_tells}
use Rattle.mvd_live.proofs.laws.a_host_answers_many.Goals as goal

pub returns : goal.returns
returns g c = record {
  turns = λ n turns old new held list. host_answers n turns old.site new.site held list.serves.states;
  at_hand = λ n turns old new requests held list asked. host_at_hand n turns old.site new.site requests held list.serves.states asked;
  windows = λ n turns old new h windows held list own asked. host_tells n turns old.site new.site h.answers windows held list.serves.states own.told asked;
  between = λ n turns old new h before later windows held list own asked. host_tells_between n turns old.site new.site h.answers before later windows held list.serves.states own.told asked;
}
