use Rattle.std.proofs.Common.{◌≡◌, map, take}
use Rattle.mvd_wire.specs.declared.request.Request.TheVariants.{Node}
use Rattle.mvd_remote.specs.LinkWindows.{frames_of}
use Rattle.mvd_remote.specs.Lines.{HaveFrames}
use Rattle.mvd_remote.proofs.remote.window.Frames.nodes.Given as goal

-- the frames of the first requests
abbrev pub invariant-loop-path : goal.invariant-loop-path
invariant-loop-path l = record {
  window : l.window ≡ frames_of (map (λ path. Node path) (take l.path-index l.paths));
  spelled : HaveFrames (map (λ path. Node path) (take l.path-index l.paths));
}
