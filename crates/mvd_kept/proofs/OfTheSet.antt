-- Of writes that agree, order and repeats do not matter to an answer.
use Rattle.std.proofs.Common.{◌≡◌, List, ap}
use Rattle.mvd_keys.specs.Writes.{Agree, SameWrites, Write}
use Rattle.mvd_keys.proofs.Standing.{Stands-SameWrites}
use Rattle.mvd_wire.specs.declared.request.Request.{Request}
use Rattle.mvd_kept.specs.Answer.{answer, answer_from, states_of}
use Rattle.mvd_kept.specs.Config.{ConfigValue}
use Rattle.mvd_kept.proofs.KnownKeys.{states-stands, states_of-stands}

pub of_the_set : (config : ConfigValue) (V W : List Write) (request : Request) → SameWrites V W → Agree V → answer config V request ≡ answer config W request
of_the_set config V W request same agree =
    ap (λ m. answer_from config m request) (states-stands (states_of V) W (Stands-SameWrites (states_of V) V W (states_of-stands V) same agree))
