use Rattle.std.proofs.Common.{◌≡◌, drop, string_bytes}
use Rattle.mvd_server.specs.Questions.{asks_text}
use Rattle.mvd_server.proofs.asks.push_asks.Given as goal

abbrev pub invariant-loop-ask : goal.invariant-loop-ask
invariant-loop-ask l = asks_text l.right l.site l.spelling (string_bytes l.out) (drop l.ask-index l.asks) ≡ asks_text l.right l.site l.spelling (string_bytes l.initial.out) l.asks
