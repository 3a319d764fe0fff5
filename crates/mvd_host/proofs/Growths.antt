-- What turns leave of what a site held.
use Rattle.std.proofs.Common.{List, ◌++◌, sym, ap₂, ◌∙◌}
use Rattle.mvd_keys.specs.State.{join}
use Rattle.mvd_keys.specs.Writes.{Stands, Write}
use Rattle.mvd_keys.proofs.Growing.{grows}
use Rattle.mvd_keys.proofs.Standing.{Stands-for}
use Rattle.mvd_site.proofs.Steps.{state_at-stands}
use Rattle.mvd_site.specs.Held.{AreHeld, States}
use Rattle.mvd_replica.specs.Replicas.{StoredSite}
use Rattle.mvd_replica.specs.Turns.{Turn, known_after_turns}
use Rattle.mvd_host.specs.Grown.{Grows}
use Rattle.mvd_host.specs.Round.{Serves}
use Rattle.mvd_host.proofs.Known.{choice_known, stands_known}

pub grows_by : (old new : States) (W V : List Write) → Stands old W → Stands new (W ++ V) → Grows old new
grows_by old new W V p q key =
    ap₂ join (state_at-stands old W key p) (state_at-stands new (W ++ V) key q)
    ∙ grows key W V
    ∙ sym (state_at-stands new (W ++ V) key q)

-- whatever the turns, what was held is held, or was replaced by a write that had seen it
pub turns_grow : (turns : List Turn) (old new : StoredSite) → AreHeld old.site.states → Serves turns old new → Grows old.site.states new.site.states
turns_grow turns old new held serves =
    let choice = choice_known turns old.site new.site serves.states in
    let known = Stands-for old.site.states (λ key s found. (held.valid key s found, (held.held key s found).seen)) in
    grows_by old.site.states new.site.states known.0 (known_after_turns choice.0) known.1 (stands_known turns old.site new.site serves.states known.0 choice.0 known.1 choice.1)
