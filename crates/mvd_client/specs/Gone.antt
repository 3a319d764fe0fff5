-- The lines that were had, and those that were let go, each with its side as that was then, and with what a stored site
-- refused in its session.
use Rattle.std.specs.Prelude.{◌≡◌, ◌++◌, ◌∷◌, [], List}
use Rattle.mvd_client.specs.Refusals.{noted_in}
use Rattle.mvd_client.specs.declared.gone.Gone.{Gone}
use Rattle.mvd_client.specs.declared.stored_side.Refusals.{Refusals}
use Rattle.mvd_dots.specs.declared.refusals.Refusal.{Refusal}
use Rattle.mvd_remote.specs.declared.remote.Remote.{Remote}

-- one more was had
abbrev pub HasLine : {L : Type 0} → L → Gone L → Gone L → Type 0
HasLine line old new =
    (new.had.items ≡ old.had.items ++ (line, tt) ∷ []) × (new.lines.items ≡ old.lines.items)

-- one more was let go, whose side was left so, and the stored site refused this
abbrev pub LetsGo : {L : Type 0} → Remote L → List (Refusal × Unit {0}) → Gone L → Gone L → Type 0
LetsGo remote refused old new =
    (told : Refusals) × (noted_in told ≡ refused) × (new.lines.items ≡ old.lines.items ++ (remote, told) ∷ [])
    × (new.had.items ≡ old.had.items)
