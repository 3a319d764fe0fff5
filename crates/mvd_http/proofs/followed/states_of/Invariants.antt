use Rattle.std.proofs.Common.{◌≡◌, [], drop, string_bytes, true}
use Rattle.mvd_http.specs.Followed.{states_text}
use Rattle.mvd_http.proofs.followed.states_of.Given as goal

abbrev pub invariant-loop-key : goal.invariant-loop-key
invariant-loop-key g l = states_text (g.H.Holds.states l.held) l.spelling l.is_first (string_bytes l.told) (drop l.key-index l.keys) ≡ states_text (g.H.Holds.states l.held) l.spelling true [] l.keys
