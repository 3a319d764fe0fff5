-- Who may come in: whoever shows a token that is known, and as long as it is.
use Rattle.std.specs.Prelude.{◌≡◌, ℕ, Bool, true, false, ◌&&◌, nat_le, nat_lt, if◌then◌else◌, List, [], ◌∷◌, length, take, Option, Some, None, Result, Ok, Err, ⊤}
use Rattle.std.specs.Int.{w32, from_be_bytes}
use Rattle.mvd_conn.specs.Passes.{admits, has_pass, pass_shown, token_shown}
use Rattle.mvd_conn.specs.Rights.{may}
use Rattle.mvd_conn.specs.declared.guard.Guard.{Guard}
use Rattle.mvd_conn.specs.declared.guard.Guard.TheVariants.{Asks, Knows, Left}
use Rattle.mvd_conn.specs.declared.passes.Pass.{Pass}
use Rattle.mvd_dots.specs.declared.refusals.Refusal.{Refusal}
use Rattle.mvd_dots.specs.declared.refusals.Refusal.TheVariants.{NotAdmitted}
use Rattle.mvd_wire.specs.Frames.{FrameValue}
use Rattle.mvd_wire.specs.declared.request.Request.{Request}

abbrev pub is_of : Pass → Option (List ℕ) → Bool
is_of pass None = false
is_of pass (Some token) = admits pass token

-- a frame is a Hello that shows the token of a pass
abbrev pub shows : Pass → FrameValue → Bool
shows pass f = is_of pass (token_shown f)

-- a frame may be taken, behind these: the first one only where it shows a token that is known, and others as long as
-- that is
abbrev pub may_come : Option Guard → List FrameValue → FrameValue → Bool
may_come None taken f = true
may_come (Some Asks) taken f = false
may_come (Some (Knows pass)) [] f = shows pass f
may_come (Some (Knows pass)) (g ∷ taken) f = true
may_come (Some (Left pass)) taken f = false

-- behind these, no frame that begins so may be taken: it is the first, and its length is none that a Hello has, which
-- counts a kind, two bytes, and at most 256 of a token
abbrev pub is_barred : Option Guard → List FrameValue → List ℕ → Bool
is_barred None taken held = false
is_barred (Some guard) [] held = nat_le 4 (length held) && nat_lt 259 (from_be_bytes w32 (take 4 held))
is_barred (Some guard) (g ∷ taken) held = false

-- THE FIRST FRAME THAT WAS TAKEN, where there is a guard, shows the token of a pass
abbrev pub IsShown : Option Guard → List FrameValue → Type 0
IsShown None taken = ⊤
IsShown (Some guard) [] = ⊤
IsShown (Some Asks) (f ∷ taken) = ⊥
IsShown (Some (Knows pass)) (f ∷ taken) = shows pass f ≡ true
IsShown (Some (Left pass)) (f ∷ taken) = shows pass f ≡ true

-- ---- where the passes are these

abbrev pub guard_by : Option Pass → Guard
guard_by None = Asks
guard_by (Some pass) = Knows pass

-- what comes first is a frame that shows a token
abbrev pub guard_at : List Pass → Result (Option FrameValue × List ℕ) Refusal → Guard
guard_at passes (Ok (Some f, rest)) = guard_by (pass_shown passes f)
guard_at passes (Ok (None, rest)) = Asks
guard_at passes (Err refusal) = Asks

-- a pass that is not there any more is left for good
abbrev pub guard_kept : List Pass → Guard → Guard
guard_kept passes Asks = Asks
guard_kept passes (Knows pass) = if has_pass passes pass then Knows pass else Left pass
guard_kept passes (Left pass) = Left pass

-- before the first frame its token decides, and then whether it is known still
abbrev pub guard_met : List Pass → List FrameValue → Result (Option FrameValue × List ℕ) Refusal → Option Guard
    → Option Guard
guard_met passes taken next None = None
guard_met passes [] next (Some guard) = Some (guard_at passes next)
guard_met passes (f ∷ taken) next (Some guard) = Some (guard_kept passes guard)

-- ---- what a client asks

-- its right allows a request; without a guard each client may ask all
abbrev pub may_under : Option Guard → Request → Bool
may_under None request = true
may_under (Some Asks) request = false
may_under (Some (Knows pass)) request = may pass.right request
may_under (Some (Left pass)) request = may pass.right request

-- WHAT A CLIENT ASKS: the request that its right allows. Any other is refused as 38
abbrev pub asked_under : Option Guard → Result Request Refusal → Result Request Refusal
asked_under guard (Ok request) = if may_under guard request then Ok request else Err NotAdmitted
asked_under guard (Err refusal) = Err refusal
