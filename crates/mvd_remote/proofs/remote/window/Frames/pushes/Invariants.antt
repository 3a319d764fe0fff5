use Rattle.std.proofs.Common.{◌≡◌, map, take}
use Rattle.mvd_wire.specs.declared.request.Request.TheVariants.{Push}
use Rattle.mvd_remote.specs.LinkWindows.{frames_of}
use Rattle.mvd_remote.specs.Lines.{HaveFrames}
use Rattle.mvd_keys.specs.State.{IsValid}
use Rattle.mvd_peer.specs.PushedStates.{Each}
use Rattle.mvd_remote.proofs.remote.window.Frames.pushes.Given as goal

-- the frames of the first requests
abbrev pub invariant-loop-key : goal.invariant-loop-key
invariant-loop-key l = record {
  window : l.window ≡ frames_of (map (λ pair. Push pair.0 pair.1) (take l.key-index l.pairs));
  spelled : HaveFrames (map (λ pair. Push pair.0 pair.1) (take l.key-index l.pairs));
  valid : Each (λ pair. IsValid pair.1) (take l.key-index l.pairs);
}
