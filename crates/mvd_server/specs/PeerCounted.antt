-- What is counted of the sessions with a peer.
use Rattle.std.specs.Prelude.{ℕ, ◌+◌, ◌-◌, ◌^◌, Bool, true, false, min}
use Rattle.mvd_server.specs.declared.peer_counts.PeerCounts.{PeerCounts}

-- a count stays where it can rise no more
abbrev pub raised : ℕ → ℕ → ℕ
raised count other = min (count + other) (2 ^ 64 - 1)

abbrev pub one_more : ℕ → ℕ
one_more count = raised count 1

-- a session ended that exchanged so many keys, and left some or none
abbrev pub ended_with : ℕ → Bool → ℕ → PeerCounts → PeerCounts
ended_with keys true now old = record old { keys = raised old.keys keys; last = now; left = one_more old.left }
ended_with keys false now old = record old { keys = raised old.keys keys; last = now; done = one_more old.done }
