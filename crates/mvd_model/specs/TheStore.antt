-- The store, on one page. Writes says which state of a key follows from a set of writes, as in a multi-value register
-- (Shapiro et al., INRIA RR-7506), and Answer which reply follows from the states. Here is a machine over them, as at
-- the top of IronFleet (Hawblitzel et al. 2015): what each site, or replica, knows, and the steps that it may take.
-- It has no message and no session: what one site tells is pushed to another, and may be lost, repeated or reordered.
use Rattle.std.specs.Prelude.{◌≡◌, ◌≢◌, ◌⊎◌, ⊤, ℕ, Bool, true, false, Contains, List, [], ◌∷◌, ◌++◌, Some}
use Rattle.std.specs.List.{slice_get}
use Rattle.std.specs.FinMap.{get}
use Rattle.std.specs.FinSet.{contains}
use Rattle.mvd_dots.specs.Dot.{DotValue}
use Rattle.mvd_dots.specs.Context.{DotSet}
use Rattle.mvd_dots.specs.declared.refusals.Refusal.TheVariants.{Broken, Memory, Store}
use Rattle.mvd_keys.specs.State.{Text}
use Rattle.mvd_keys.specs.Writes.{Agree, Key, SameWrites, Write, covered, siblings}
use Rattle.mvd_rows.specs.Defs.{Definitions}
use Rattle.mvd_wire.specs.declared.request.Request.{Request}
use Rattle.mvd_wire.specs.declared.request.Request.TheVariants.{Put}
use Rattle.mvd_wire.specs.declared.reply.Reply.{Reply}
use Rattle.mvd_wire.specs.declared.reply.Reply.TheVariants.{Refused, Written}
use Rattle.mvd_kept.specs.Answer.{answer}
use Rattle.mvd_kept.specs.Config.{ConfigValue}
use Rattle.mvd_kept.specs.Known.{Adds, ChangesKey}
use Rattle.mvd_model.specs.Alike.{SpeakAlike}

-- what a site is opened with: how many keys it may hold, and its indexes and views
pub record Setup : Type 0 where
  pub max_keys : ℕ
  pub defs : Definitions

-- A site: the writes that it knows, which its file holds; the requests that it refused with 21 since it was opened, and
-- those with which it broke, which its file may hold all the same; and whether it is broken
pub record Site : Type 0 where
  pub setup : Setup
  pub known : List Write
  pub refused : List Request
  pub broken : Bool

-- all sites, by their numbers; and a site as it is set up
abbrev pub Knows : Type 0
Knows = ℕ → Site

abbrev pub config : ℕ → Setup → ConfigValue
config i setup = record { site = i; max_keys = setup.max_keys; defs = setup.defs }

pub data Event : Type 0 where
  -- a script, a shell, a frame, HTTP, a session or a call asked this site, and was told
  Told : ℕ → Request → Reply → Event
  -- this site broke: these, which it was asked at once, are told 22, and its file may hold them all the same
  Broke : ℕ → List Request → Event
  -- this site was closed, killed or without power, and is opened again; its file holds these, which it had refused
  Opened : ℕ → Setup → List Request → Event

-- A site tells its answer, and knows what that adds: a put or a delete its write, a push some of its state (`Adds`)
abbrev pub Answers : ConfigValue → Site → Request → Reply → Site → Type 0
Answers c s request reply t = (s.broken ≡ false) × (reply ≡ answer c s.known request)
    × (added : List Write) × Adds request reply added × (t ≡ record s { known = s.known ++ added })

-- Or it refuses, and knows no more: for want of memory (20); or, only where its answer would change a state
-- (`ChangesKey`), for its store (21). A broken site tells 22, or 20, until it is opened again, and nothing changes
abbrev pub Refuses : ConfigValue → Site → Request → Reply → Site → Type 0
Refuses c s request (Refused Memory) t = t ≡ s
Refuses c s request (Refused Store) t =
    (s.broken ≡ false) × ChangesKey c s.known request × (t ≡ record s { refused = s.refused ++ request ∷ [] })
Refuses c s request (Refused Broken) t = (s.broken ≡ true) × (t ≡ s)
Refuses c s request reply t = ⊥

-- It breaks at a request whose answer would change a state. That is told 22, and so are those asked with it behind it
abbrev pub Breaks : ConfigValue → Site → List Request → Site → Type 0
Breaks c s [] t = ⊥
Breaks c s (request ∷ behind) t = (s.broken ≡ false) × ChangesKey c s.known request
    × (t ≡ record s { refused = s.refused ++ request ∷ behind; broken = true })

-- these are some of those, in their order
abbrev pub AreAmong : List Request → List Request → Type 0
AreAmong [] those = ⊤
AreAmong (one ∷ more) [] = ⊥
AreAmong (one ∷ more) (first ∷ rest) = ((one ≡ first) × AreAmong more rest) ⊎ AreAmong (one ∷ more) rest

-- what requests add, each answered from the writes known before it
abbrev pub AddAll : ConfigValue → List Write → List Request → List Write → Type 0
AddAll c known [] added = added ≡ []
AddAll c known (request ∷ requests) added = (first rest : List Write) × (added ≡ first ++ rest)
    × Adds request (answer c known request) first × AddAll c (known ++ first) requests rest

-- it is whole, is set up so, and knows what it knew and what some of the refused requests add
abbrev pub Reopens : ConfigValue → Site → Setup → List Request → Site → Type 0
Reopens c s setup some t = AreAmong some s.refused × (added : List Write) × AddAll c s.known some added
    × (t ≡ record { setup = setup; known = s.known ++ added; refused = []; broken = false })

-- where an event happens, and what it does to that site
abbrev pub at_site : Event → ℕ
at_site (Told i request reply) = i
at_site (Broke i requests) = i
at_site (Opened i setup some) = i

abbrev pub Does : Event → Site → Site → Type 0
Does (Told i request reply) s t =
    Answers (config i s.setup) s request reply t ⊎ Refuses (config i s.setup) s request reply t
Does (Broke i requests) s t = Breaks (config i s.setup) s requests t
Does (Opened i setup some) s t = Reopens (config i s.setup) s setup some t

-- a step: all other sites are as they were
abbrev pub Next : Knows → Event → Knows → Type 0
Next a event b = Does event (a (at_site event)) (b (at_site event)) × ((j : ℕ) → j ≢ at_site event → b j ≡ a j)

-- a behaviour: steps one after the other
abbrev pub Happen : Knows → List Event → Knows → Type 0
Happen a [] end = end ≡ a
Happen a (event ∷ events) end = (b : Knows) × Next a event b × Happen b events end

abbrev pub put_told : ℕ → Key → DotSet → Text → DotValue → Event
put_told i key seen document dot = Told i (Put key seen document) (Written dot)

-- WHAT IS PROMISED of each behaviour, wherever it begins
pub record Promise (events : List Event) (end : Knows) : Type 0 where
  -- no two puts of a key are told one dot
  pub dots : (m n i j : ℕ) (key : Key) (seen also_seen : DotSet) (document other : Text) (dot other_dot : DotValue)
      → m ≢ n → slice_get events m ≡ Some (put_told i key seen document dot)
      → slice_get events n ≡ Some (put_told j key also_seen other other_dot) → dot ≢ other_dot
  -- what a reply told as done is known at its site at the end
  pub kept : (n i : ℕ) (request : Request) (reply : Reply) → slice_get events n ≡ Some (Told i request reply)
      → (added : List Write) × Adds request reply added × ((w : Write) → Contains added w → Contains (end i).known w)
  -- no edit is lost: a put is a sibling of its key there until a known write has its dot among those it saw
  pub shown : (n i : ℕ) (key : Key) (seen : DotSet) (document : Text) (dot : DotValue)
      → slice_get events n ≡ Some (put_told i key seen document dot) → contains (covered key (end i).known) dot ≡ false
      → get (siblings key (end i).known) dot ≡ Some document
  -- two sites that know the same writes, which agree, answer a question alike, where its index or view is defined alike
  pub alike : (i j : ℕ) (request : Request) → SameWrites (end i).known (end j).known → Agree (end i).known
      → SpeakAlike (end i).setup.defs (end j).setup.defs request
      → answer (config i (end i).setup) (end i).known request ≡ answer (config j (end j).setup) (end j).known request
