-- Sites that know nothing of one another: what happens at each alone, in whatever order all of it comes.
use Rattle.std.specs.Prelude.{◌≡◌, ◌==◌, ℕ, if◌then◌else◌, List, [], ◌∷◌}
use Rattle.mvd_model.specs.TheStore.{Does, Event, Site, at_site}

-- what happens at one site, from what it knows to what it knows then
abbrev pub HappenAt : Site → List Event → Site → Type 0
HappenAt s [] end = end ≡ s
HappenAt s (event ∷ events) end = (t : Site) × Does event s t × HappenAt t events end

-- the events of one site
abbrev pub events_at : ℕ → List Event → List Event
events_at i [] = []
events_at i (event ∷ events) = if i == at_site event then event ∷ events_at i events else events_at i events
