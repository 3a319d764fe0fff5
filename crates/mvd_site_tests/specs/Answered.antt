-- A window is told in full.
use Rattle.std.specs.Prelude.{◌≡◌, length}
use Rattle.mvd_peer.specs.declared.window.Told.{Told}
use Rattle.mvd_peer.specs.declared.window.Told.TheVariants.{Nodes, Pages, Pushes, Refused, States}
use Rattle.mvd_peer.specs.declared.window.Window.{Window}
use Rattle.mvd_peer.specs.declared.window.Window.TheVariants as wanted

-- as many answers as there are questions, or a refusal of the whole
abbrev pub HasAnswers : Window → Told → Type 0
HasAnswers (wanted.Nodes paths) (Nodes told) = length told.items ≡ length paths.items
HasAnswers (wanted.Pages pages) (Pages told) = length told.items ≡ length pages.items
HasAnswers (wanted.Gets keys) (States told) = length told.items ≡ length keys.items
HasAnswers (wanted.Pushes pairs) (Pushes told) = length told.items ≡ length pairs.items
HasAnswers window (Refused refusal) = Unit {0}
HasAnswers window told = ⊥
