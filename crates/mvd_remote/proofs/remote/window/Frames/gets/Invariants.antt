use Rattle.std.proofs.Common.{◌≡◌, map, take}
use Rattle.mvd_wire.specs.declared.request.Request.TheVariants.{Get}
use Rattle.mvd_remote.specs.LinkWindows.{frames_of}
use Rattle.mvd_remote.specs.Lines.{HaveFrames}
use Rattle.mvd_remote.proofs.remote.window.Frames.gets.Given as goal

-- the frames of the first requests
abbrev pub invariant-loop-key : goal.invariant-loop-key
invariant-loop-key l = record {
  window : l.window ≡ frames_of (map (λ key. Get key) (take l.key-index l.keys));
  spelled : HaveFrames (map (λ key. Get key) (take l.key-index l.keys));
}
