use Rattle.std.proofs.Common.{◌≡◌, ◌∙◌, ◌-◌, ℕ, List, Ok, Option, Result, Some, length, take, drop, slice_index, sym, ap, arith}
use Rattle.std.proofs.lemmas.List.{length-drop, take_all}
use Rattle.mvd_dots.specs.declared.refusals.Refusal.{Refusal}
use Rattle.mvd_wire.specs.Frames.{FrameValue, frame_at}
use Rattle.mvd_conn.specs.History.{History}
use Rattle.mvd_conn.proofs.connection.Connection.coming.Goals as goal

pub returns-in-Whole : goal.returns-in-Whole
returns-in-Whole c =
    let items = c.as_slice.result.now in
    let hand = c.self.inside.hand in
    let size = c.in-Whole.size in
    let bytes : List ℕ = take (length items - hand) (drop hand items) in
    let whole : bytes ≡ drop hand items = take_all (length items - hand) (drop hand items) (omega (arith, length-drop hand items)) in
    let held : bytes ≡ c.args.self.now.held = whole ∙ ap (drop hand) c.as_slice.ensures ∙ ap (λ (h : History). h.held) c.self.view_is in
    let frame : List ℕ = take size bytes in
    let all : take (length frame - 5) (drop 5 frame) ≡ drop 5 frame = take_all (length frame - 5) (drop 5 frame) (omega (arith, length-drop 5 frame)) in
    let read : List ℕ → Result (Option FrameValue × List ℕ) Refusal = λ payload. Ok (Some (record { kind = slice_index frame 4; payload = payload }), drop size bytes) in (
      drop size bytes,
      ap frame_at (sym held) ∙ c.in-Whole.ensures.read ∙ ap read (sym all),
    )
