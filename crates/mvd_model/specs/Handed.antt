-- Behaviours in which nobody makes up what he pushes: each push that is done brings writes that some site knew, as a
-- state that a site told does. There no two documents have one dot, at one site or at two.
use Rattle.std.proofs.Common.{inl, inr}
use Rattle.std.specs.Prelude.{◌≡◌, ◌⊎◌, ⊤, false, ℕ, Contains, List, [], ◌∷◌, ◌++◌}
use Rattle.std.specs.List.{AllByRecursion}
use Rattle.mvd_dots.specs.Dot.{DotValue}
use Rattle.mvd_dots.specs.Context.{DotSet}
use Rattle.mvd_keys.specs.State.{State, Text}
use Rattle.mvd_keys.specs.Writes.{Key, Write, Wrote, state}
use Rattle.mvd_wire.specs.declared.request.Request.{Request}
use Rattle.mvd_wire.specs.declared.request.Request.TheVariants.{Get, Push}
use Rattle.mvd_wire.specs.declared.reply.Reply.TheVariants.{State as Shown}
use Rattle.mvd_kept.specs.Config.{ConfigValue}
use Rattle.mvd_model.specs.TheStore.{AddAll, Broke, Event, Happen, Knows, Next, Opened, Setup, Site, Told, config}

-- at first nobody knows anything
abbrev pub nothing_known : (ℕ → Setup) → Knows
nothing_known setups i = record { setup = setups i; known = []; refused = []; broken = false }

-- the writes that each site knows
abbrev pub knows : Knows → ℕ → List Write
knows a i = (a i).known

-- some site knew what a push adds
abbrev pub IsHanded : (ℕ → List Write) → Request → List Write → Type 0
IsHanded known (Push key pushed) added = (w : Write) → Contains added w → (j : ℕ) × Contains (known j) w
IsHanded known request added = ⊤

abbrev pub AreHanded : (ℕ → List Write)
    → (c : ConfigValue) (here : List Write) (requests : List Request) (added : List Write)
    → AddAll c here requests added → Type 0
AreHanded known c here [] added all = ⊤
AreHanded known c here (request ∷ requests) added (first, rest, is, one, others) =
    IsHanded known request first × AreHanded known c (here ++ first) requests rest others

abbrev pub Brings : (a : Knows) (event : Event) (b : Knows) → Next a event b → Type 0
Brings a (Told i request reply) b (inl told, others) = IsHanded (knows a) request told.2
Brings a (Told i request reply) b (inr refused, others) = ⊤
Brings a (Broke i requests) b next = ⊤
Brings a (Opened i setup some) b (opens, others) =
    AreHanded (knows a) (config i (a i).setup) (a i).known some opens.1 opens.2

abbrev pub AllBring : (a : Knows) (events : List Event) (end : Knows) → Happen a events end → Type 0
AllBring a [] end happen = ⊤
AllBring a (event ∷ events) end (b, next, rest) = Brings a event b next × AllBring b events end rest

-- two puts of a key with one dot have one document, wherever they are known, and each site knows its own puts
pub record AreSound (known : ℕ → List Write) : Type 0 where
  pub one : (i j : ℕ) (key : Key) (dot : DotValue) (seen also_seen : DotSet) (document other : Text)
      → Contains (known i) (Wrote key dot seen document) → Contains (known j) (Wrote key dot also_seen other)
      → document ≡ other
  pub own : (i : ℕ) (key : Key) (dot : DotValue) (seen : DotSet) (document : Text)
      → Contains (known i) (Wrote key dot seen document) → Contains (known dot.site) (Wrote key dot seen document)

-- ---- pushes of states that were told

-- it is one of these
abbrev pub IsPairIn : List (Key × State) → Key × State → Type 0
IsPairIn [] pair = ⊥
IsPairIn (p ∷ pairs) pair = (p ≡ pair) ⊎ IsPairIn pairs pair

abbrev pub IsToldPush : List (Key × State) → Request → Type 0
IsToldPush told (Push key pushed) = IsPairIn told (key, pushed)
IsToldPush told request = ⊤

-- each state that is pushed is among these, or a site told it before as that of its key
abbrev pub PushTold : List (Key × State) → List Event → Type 0
PushTold told [] = ⊤
PushTold told (Told i (Get key) (Shown s) ∷ events) = PushTold ((key, s) ∷ told) events
PushTold told (Told i request reply ∷ events) = IsToldPush told request × PushTold told events
PushTold told (Broke i requests ∷ events) = AllByRecursion (IsToldPush told) requests × PushTold told events
PushTold told (Opened i setup some ∷ events) = PushTold told events

-- two sites with the same states and all else
pub record IsSame (s t : Site) : Type 0 where
  pub setup : s.setup ≡ t.setup
  pub refused : s.refused ≡ t.refused
  pub broken : s.broken ≡ t.broken
  pub states : (key : Key) → state key s.known ≡ state key t.known

-- the same events from there, with the same states at each site, where nobody makes up what he pushes
pub record Handed (a : Knows) (events : List Event) (end : Knows) : Type 0 where
  pub other : Knows
  pub happen : Happen a events other
  pub bring : AllBring a events other happen
  pub same : (i : ℕ) → IsSame (end i) (other i)
