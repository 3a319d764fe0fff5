use Rattle.std.proofs.Common.{◌≡◌, ℕ}
use Rattle.mvd_host.specs.AtHand.{AtHandValue}
use Rattle.mvd_server.specs.Lines.{IsOnlyTold, PassesRefused, TellsEachLine}
use Rattle.mvd_server.proofs.batch.Batch.tell_refused.Given as goal

-- each write so far that was refused at once has its line
abbrev pub invariant-loop-left : goal.invariant-loop-left
invariant-loop-left l =
    IsOnlyTold l.initial.self l.self × ((n : ℕ) (hand : AtHandValue) → TellsEachLine n l.initial.self hand l.self hand)
    × (l.self.told ≡ l._left) × PassesRefused l.initial.self l.self
