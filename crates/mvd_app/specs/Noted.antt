-- Whoever is asked, with all that it was asked noted beside it, each request with its reply.
use Rattle.std.specs.Prelude.{◌≡◌, ◌++◌, ℕ, List, [], ◌∷◌}
use Rattle.mvd_shell.specs.Asked.{Exchange}
use Rattle.mvd_shell.specs.Shell.{At, at}
use Rattle.mvd_wire.specs.declared.reply.Reply.{Reply}
use Rattle.mvd_wire.specs.declared.request.Request.{Request}

pub record Noted (A : Type 0) : Type 0 where
  pub asked : A
  pub exchanges : List Exchange

abbrev pub with_noted : {A : Type 0} → A → List Exchange → Noted A
with_noted asked exchanges = record { asked = asked; exchanges = exchanges }

-- a moment of a shell, so far
abbrev pub at_noted : {A : Type 0} → At A → List Exchange → At (Noted A)
at_noted moment exchanges = at (with_noted moment.asked exchanges) moment.input moment.out

-- it answers as before, and this is noted behind what was noted
pub record Noting {A : Type 0} (Answers : A → A → Request → Reply → Type 0) (old new : Noted A) (request : Request)
    (reply : Reply) : Type 0 where
  pub answers : Answers old.asked new.asked request reply
  pub notes : new.exchanges ≡ old.exchanges ++ record { request = request; reply = reply } ∷ []

-- how many writes are lost is told as before
abbrev pub lost_noted : {A : Type 0} → (A → ℕ) → Noted A → ℕ
lost_noted lost = λ old. lost old.asked
