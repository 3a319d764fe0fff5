-- What a request comes to over a state that its key was found in, whatever states that was found among.
use Rattle.std.specs.Prelude.{◌≡◌, Bool, false, is_some, Option, Result, IfOk}
use Rattle.std.specs.FinMap.{get}
use Rattle.mvd_dots.specs.Dot.{DotValue}
use Rattle.mvd_dots.specs.declared.refusals.Refusal.{Refusal}
use Rattle.mvd_keys.specs.State.{State}
use Rattle.mvd_keys.specs.Writes.{Key}
use Rattle.mvd_wire.specs.declared.request.Request.{Request}
use Rattle.mvd_wire.specs.declared.request.Request.TheVariants.{Put, Delete, Push}
use Rattle.mvd_kept.specs.Held.{States, state_at}
use Rattle.mvd_kept.specs.Prepared.{IsReady, LimitsTo, PreparesFrom}
use Rattle.mvd_kept.specs.Sites.{SiteValue}
use Rattle.mvd_kept.specs.declared.prepared.Prepared.{Prepared}

-- the request asks to change this key
abbrev pub AsksToChange : Key → Request → Type 0
AsksToChange key (Put own seen document) = own ≡ key
AsksToChange key (Delete own seen) = own ≡ key
AsksToChange key (Push own pushed) = own ≡ key
AsksToChange key request = ⊥

-- the site with other states
abbrev pub with_states : SiteValue → States → SiteValue
with_states site states = record { config = site.config; states = states; broken = site.broken }

-- In these states the key is held, or not, and has this state; where it is not held they are the site's own
pub record IsFoundIn (site : SiteValue) (key : Key) (held : Bool) (found : State) (states : States) : Type 0 where
  pub is_held : held ≡ is_some (get states key)
  pub state : found ≡ state_at states key
  pub own : held ≡ false → states ≡ site.states

-- wherever the key is found so, this is what the request comes to
abbrev pub PreparesOver : SiteValue → Key → Bool → State → Request → Result Prepared Refusal → Type 0
PreparesOver site key is_held found request result = (states : States) → IsFoundIn site key is_held found states
    → PreparesFrom site.config states request result

-- and it may be put in
abbrev pub IsReadyOver : SiteValue → Key → Bool → State → Result Prepared Refusal → Type 0
IsReadyOver site key is_held found result = (states : States) → IsFoundIn site key is_held found states
    → IfOk result (IsReady (with_states site states))

-- where the key is to have a state, what is prepared there, by the limits
abbrev pub LimitsOver : SiteValue → Key → Bool → State → State → Option DotValue → Result Prepared Refusal → Type 0
LimitsOver site key is_held found after dot result = (states : States) → IsFoundIn site key is_held found states
    → LimitsTo (with_states site states) key after dot result
