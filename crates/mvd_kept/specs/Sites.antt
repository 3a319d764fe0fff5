-- What a site is seen as, and what it does with a request.
use Rattle.std.specs.Prelude.{◌≡◌, ◌≤◌, Bool, false, refl, nat_lt, List, [], ◌++◌, length, Result, Ok, Err, if◌then◌else◌, is_some}
use Rattle.std.specs.Coded.{Coded, code_by, coded×, coded_ℕ, coded_bool, coded_list}
use Rattle.std.specs.FinMap.{code, from_entries, get, len as map_len}
use Rattle.mvd_dots.specs.declared.refusals.Refusal.{Refusal}
use Rattle.mvd_dots.specs.declared.refusals.Refusal.TheVariants.{Full}
use Rattle.mvd_keys.specs.State.{State, state_code}
use Rattle.mvd_keys.specs.Writes.{Key, Stands, Write}
use Rattle.mvd_wire.specs.declared.request.Request.{Request}
use Rattle.mvd_wire.specs.declared.reply.Reply.{Reply}
use Rattle.mvd_rows.specs.Stands.{IsRowsOf}
use Rattle.mvd_rows.specs.declared.changes.Rows.{Rows}
use Rattle.mvd_tree.specs.HashTree.{KeyDigests}
use Rattle.mvd_kept.specs.Answer.{digests, is_full}
use Rattle.mvd_kept.specs.Config.{ConfigValue, config_code}
use Rattle.mvd_kept.specs.Held.{States}
use Rattle.mvd_kept.specs.Known.{Adds, AllReplied, KnownEvent, MayReply, Tells, known_after}

-- a site: what it was set up with, the states of its keys, and whether an install was refused memory
pub record SiteValue : Type 0 where
  pub config : ConfigValue
  pub states : States
  pub broken : Bool

abbrev pub site_code : Coded SiteValue
site_code =
    code_by (ConfigValue × (States × Bool))
    (coded× config_code (coded× (code (coded_list coded_ℕ) state_code) coded_bool))
    (λ s. (s.config, (s.states, s.broken)))
    (λ p. record { config = p.0; states = p.1.0; broken = p.1.1 }) (λ _. refl)

-- what a site keeps: no more keys than it may hold, and, unless it is broken, the digests of its keys, and the rows of
-- its indexes and views
pub record KeepsKeys (config : ConfigValue) (states : States) (tree : KeyDigests) (rows : Rows)
    (broken : Bool) : Type 0 where
  pub room : map_len states ≤ config.max_keys
  pub digested : broken ≡ false → tree ≡ digests states
  pub listed : broken ≡ false → IsRowsOf rows config.defs states

-- unless it is broken, the site's states are those of the writes
abbrev pub SiteStands : SiteValue → List Write → Type 0
SiteStands site known = site.broken ≡ false → Stands site.states known

-- What a site does with one request, from any writes that its states stood for: the reply is one that it may
-- give, and whatever the request then adds, the states afterwards stand for that too
pub record AnswersOne (old new : SiteValue) (request : Request) (reply : Reply) : Type 0 where
  pub replies : (known : List Write) → SiteStands old known
      → MayReply old.config known old.broken request reply new.broken
  pub stands : (known added : List Write) → SiteStands old known → Adds request reply added
      → SiteStands new (known ++ added)

-- What a site that began with no key has done with requests: for every choice of what they added, each reply
-- is one that it may give from the writes known before it, and the states stand for all that was added
abbrev pub AnswersFromNothing : ConfigValue → SiteValue → List Request → List Reply → Type 0
AnswersFromNothing config site requests replies = (events : List KnownEvent) → Tells events requests replies →
    AllReplied config [] false events site.broken × SiteStands site (known_after events)

-- the map has as many keys as it may have, and this is none of them
abbrev pub has_no_room : ConfigValue → States → Key → Bool
has_no_room config states key = is_full config (is_some (get states key)) (map_len states)

-- the site that holds just these states, where they are not too many
abbrev pub opened : ConfigValue → List (Key × State) → Result SiteValue Refusal
opened config states =
    if nat_lt config.max_keys (length states) then Err Full
    else Ok (record { config = config; states = from_entries states; broken = false })
