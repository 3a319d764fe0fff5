use Rattle.std.proofs.Common.{◌≡◌, map, take}
use Rattle.mvd_wire.specs.declared.request.Request.TheVariants.{Bucket}
use Rattle.mvd_remote.specs.LinkWindows.{frames_of}
use Rattle.mvd_remote.specs.Lines.{HaveFrames}
use Rattle.mvd_remote.proofs.remote.window.Frames.pages.Given as goal

-- the frames of the first requests
abbrev pub invariant-loop-path : goal.invariant-loop-path
invariant-loop-path l = record {
  window : l.window ≡ frames_of (map (λ q. Bucket q.0 q.1) (take l.path-index l.asked));
  spelled : HaveFrames (map (λ q. Bucket q.0 q.1) (take l.path-index l.asked));
}
