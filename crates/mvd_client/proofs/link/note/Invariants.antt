use Rattle.std.specs.Prelude.{◌≡◌, ◌++◌, take}
use Rattle.mvd_client.specs.Sent.{bytes_in}
use Rattle.mvd_client.proofs.link.note.Given as goal

abbrev pub invariant-loop-byte : goal.invariant-loop-byte
invariant-loop-byte l = bytes_in l.sent.items ≡ bytes_in l.initial.sent.items ++ take l.byte-index l.bytes
