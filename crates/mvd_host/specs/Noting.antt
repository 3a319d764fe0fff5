-- What a feed notes of requests that were answered.
use Rattle.std.specs.Prelude.{◌≡◌, ◌⊎◌, List, [], ◌∷◌, ◌++◌}
use Rattle.std.specs.Option.{option_to_list}
use Rattle.mvd_keys.specs.Writes.{Key}
use Rattle.mvd_wire.specs.declared.request.Request.{Request}
use Rattle.mvd_site.specs.Held.{States}
pub use Rattle.mvd_replica.specs.Adding.{key_to_change}
use Rattle.mvd_host.specs.Feeds.{FeedValue, knows_nothing, knows_root, noted_in}
use Rattle.mvd_host.specs.Lists.{root_of}

-- the keys that requests ask to change, in order
abbrev pub keys_to_change : List Request → List Key
keys_to_change [] = []
keys_to_change (request ∷ requests) = option_to_list (key_to_change request) ++ keys_to_change requests

-- The keys that these requests ask to change were noted, and the root of the states now. Where memory was refused, all
-- but the root was forgotten; and where the root is not told, all was
abbrev pub Notes : List Request → States → FeedValue → FeedValue → Type 0
Notes requests now old new =
    (new ≡ noted_in old (keys_to_change requests) (root_of now))
    ⊎ ((new ≡ knows_root (root_of now)) ⊎ (new ≡ knows_nothing))

-- nothing changed, or what may have is noted
abbrev pub NotesChanges : List Request → States → States → FeedValue → FeedValue → Type 0
NotesChanges requests before now old new = ((now ≡ before) × (new ≡ old)) ⊎ Notes requests now old new
