-- What a site does with one request.
use Rattle.std.specs.Prelude.{◌≡◌, ◌≢◌, true}
use Rattle.mvd_dots.specs.declared.refusals.Refusal.TheVariants.{Broken, Memory}
use Rattle.mvd_wire.specs.declared.request.Request.{Request}
use Rattle.mvd_wire.specs.declared.reply.Reply.{Reply}
use Rattle.mvd_wire.specs.declared.reply.Reply.TheVariants.{Done, Refused}
use Rattle.mvd_kept.specs.FromStates.{AnswersFrom}
use Rattle.mvd_kept.specs.Known.{IsValidRequest}
use Rattle.mvd_kept.specs.Prepared.{IsFrugal}
use Rattle.mvd_kept.specs.Sites.{SiteValue}

-- It gives the answer from its states, and has the states after the request, or it refuses that as a site may; a broken
-- one refuses all. A push that is done is of the state of some writes. A request that takes no memory is not told want
-- of it. What it adds, and that its reply is not too long for a frame, follows (laws `answers_follow`)
pub record AnswersRequest (old new : SiteValue) (request : Request) (reply : Reply) : Type 0 where
  pub step : AnswersFrom old new request reply
  pub broken : old.broken ≡ true → (reply ≡ Refused Broken) × (new ≡ old)
  pub valid : reply ≡ Done → IsValidRequest request
  pub frugal : IsFrugal old.states request → reply ≢ Refused Memory
