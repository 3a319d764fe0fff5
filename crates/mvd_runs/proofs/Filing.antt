-- A run of a program is a behaviour of the store, whether its file was closed or it was stopped.
use Rattle.std.proofs.Common.{◌≡◌, ◌⊎◌, ℕ, Bool, true, false, List, [], ◌∷◌, ◌++◌, refl, sym, ap, ◌∙◌, subst, inl, inr, ⊎_elim, append-nil, append_assoc}
use Rattle.std.specs.List.{AllByRecursion}
use Rattle.mvd_keys.specs.Writes.{Stands, Write}
use Rattle.mvd_wire.specs.declared.request.Request.{Request}
use Rattle.mvd_kept.specs.Answer.{answer}
use Rattle.mvd_kept.specs.Known.{IsValidRequest}
use Rattle.mvd_kept.proofs.Answered.{after_stands}
use Rattle.mvd_records.specs.Records.{IsOurs, IsSound}
use Rattle.mvd_replica.specs.Holds.{HoldsSite, HoldsStates}
use Rattle.mvd_site.specs.Config.{ConfigValue}
use Rattle.mvd_site.specs.FromStates.{after_from}
use Rattle.mvd_site.specs.Held.{States}
use Rattle.mvd_site.specs.Sites.{SiteValue}
use Rattle.mvd_model.specs.TheStore.{AddAll, AreAmong, Happen, Knows, Opened, Site, config}
use Rattle.mvd_replica.specs.File.{HoldsFile, IsFoundAt}
use Rattle.mvd_replica.specs.Restarts.{Run}
use Rattle.mvd_replica.specs.Turns.{AreUndoneIn, Turn}
use Rattle.mvd_replica.specs.Whole.{after_all}
use Rattle.mvd_replica.proofs.EmptyFiles.{just_none}
use Rattle.mvd_replica.proofs.Follows.{ours_held}
use Rattle.mvd_replica.proofs.Stops.{held_in_file}
use Rattle.std.specs.FinMap.{empty}
use Rattle.mvd_kept.proofs.Prepare.{Stands-none}
use Rattle.mvd_replica.proofs.RestoredOrder.{just_one}
use Rattle.sqlite.specs.Effect.{Database}
use Rattle.sqlite.specs.Recovery.{Image}
use Rattle.sqlite.specs.State.{State}
use Rattle.mvd_runs.specs.Calls.{AreUndoneAtOnce, HoldsUndone, all_turns}
use Rattle.mvd_runs.specs.Events.{AreEvents, AreTurns, IsSiteKnown, events_of}
use Rattle.mvd_runs.specs.Files.{AreChained, Begins, CarriedRuns, Closes, IsFile, IsNewFile, IsValidTurn, Passed, Passes, PassesFrom, Stops, setup_of}
use Rattle.mvd_model.proofs.Placing.{adds_some, placed, placed_at, placed_else}
use Rattle.mvd_runs.proofs.Calling.{back_of, front_of, none_at_once}
use Rattle.mvd_runs.proofs.Telling.{come, happen_append}

-- ---- what requests add

adds_all : (c : ConfigValue) (known : List Write) (requests : List Request) → AllByRecursion IsValidRequest requests → (added : List Write) × AddAll c known requests added
adds_all c known [] valid = ([], refl)
adds_all c known (request ∷ requests) (valid, others) =
    let first = adds_some request (answer c known request) valid in
    let rest = adds_all c (known ++ first.0) requests others in
    (first.0 ++ rest.0, (first.0, rest.0, refl, first.1, rest.1))

-- states stand for what is known, and after requests for what these add as well
all_stand : (c : ConfigValue) (states : States) (known : List Write) (requests : List Request) (added : List Write) → Stands states known →
    AddAll c known requests added → Stands (after_all c states requests) (known ++ added)
all_stand c states known [] added stands is = subst (Stands states) (sym (append-nil known) ∙ ap (λ ws. known ++ ws) (sym is)) stands
all_stand c states known (request ∷ requests) added stands (first, rest, is, one, others) =
    subst (Stands (after_all c (after_from c states request) requests)) (append_assoc known first rest ∙ ap (λ ws. known ++ ws) (sym is))
    (all_stand c (after_from c states request) (known ++ first) requests rest (after_stands c states known request first stands one) others)

-- a file that holds the site's states after some requests that it refused
file_of : (a : Knows) (i : ℕ) (image : Image) (site : SiteValue) (some : List Request) → IsSiteKnown a i site → AreAmong some (a i).refused → AllByRecursion IsValidRequest some →
    HoldsFile image i (after_all site.config site.states some) → IsFile a i image
file_of a i image site some is among valid holds =
    let c : ConfigValue = config i (a i).setup in
    let adds = adds_all c (a i).known some valid in
    record {
      some = some;
      among = among;
      added = adds.0;
      adds = adds.1;
      states = after_all c site.states some;
      holds = subst (λ d. HoldsFile image i (after_all d site.states some)) is.config holds;
      stands = all_stand c site.states (a i).known some adds.0 is.stands adds.1;
    }

-- ---- requests among turns

valid_undone : (turns : List Turn) (requests : List Request) → AllByRecursion IsValidTurn turns → AreUndoneIn turns requests → AllByRecursion IsValidRequest requests
valid_undone turns [] valid h = tt
valid_undone [] (request ∷ requests) valid h = absurd h
valid_undone (turn ∷ turns) (request ∷ requests) (valid, others) h = ⊎_elim
    (λ here. (valid request here.0.0, valid_undone turns requests others here.1))
    (λ later. valid_undone turns (request ∷ requests) others later)
    h

valid_at_once : (calls : List (List Turn)) (requests : List Request) → AllByRecursion IsValidTurn (all_turns calls) → AreUndoneAtOnce calls requests → AllByRecursion IsValidRequest requests
valid_at_once [] requests valid none = subst (AllByRecursion IsValidRequest) (sym none) tt
valid_at_once (turns ∷ calls) requests valid h = ⊎_elim
    (λ here. valid_undone turns requests (front_of IsValidTurn turns (all_turns calls) valid) here)
    (λ later. valid_at_once calls requests (back_of IsValidTurn turns (all_turns calls) valid) later.1)
    h

-- ---- what was found

ours_found : (a : Knows) (i : ℕ) (image : Image) (was : Database) → IsFoundAt image was → IsFile a i image ⊎ IsNewFile a i image → IsOurs was
ours_found a i image was found (inl file) =
    ours_held i file.states was (subst (HoldsStates i file.states) (sym (found.holds file.holds.db file.holds.held)) file.holds.holds)
ours_found a i image was found (inr new) = new.ours was found

-- the site that was opened stands for what is known of it, and for what some refused requests add
record IsFoundAs (a : Knows) (i : ℕ) (states : States) : Type 0 where
  some : List Request
  among : AreAmong some (a i).refused
  added : List Write
  adds : AddAll (config i (a i).setup) (a i).known some added
  stands : Stands states ((a i).known ++ added)

none_among : (requests : List Request) → AreAmong [] requests
none_among requests = tt

of_file : {C : Type 0} (f : C → State) (i : ℕ) (calls : List (List Turn)) (run : Run C) (begins : Begins f calls run) (a : Knows) (sound : IsSound (f run.before)) → IsFile a i run.image ⊎ IsNewFile a i run.image → IsFoundAs a i run.old.states
of_file f i calls run begins a sound (inl file) = record {
  some = file.some;
  among = file.among;
  added = file.added;
  adds = file.adds;
  stands = subst (λ m. Stands m ((a i).known ++ file.added)) (sym ((begins.opens sound).just i file.states file.holds)) file.stands;
}
of_file f i calls run begins a sound (inr new) =
    let it = begins.opens sound in
    let is : run.old.states ≡ empty = just_one it.was run.old.states empty (it.opened (new.ours it.was it.found)).spelled (just_none it.was (new.none it.was it.found).0 (new.none it.was it.found).1) in
    record {
      some = [];
      among = none_among (a i).refused;
      added = [];
      adds = refl;
      stands = subst (Stands run.old.states) (sym (ap (λ W. W ++ []) new.nothing)) (Stands-none run.old.states is);
    }

-- ---- a run

module _ {C : Type 0} (f : C → State) (i : ℕ) (calls : List (List Turn)) (run : Run C) (begins : Begins f calls run) (number : run.config.site ≡ i) (a : Knows) (sound : IsSound (f run.before)) (file : IsFile a i run.image ⊎ IsNewFile a i run.image) where
  found : IsFoundAs a i run.old.states
  found = of_file f i calls run begins a sound file

  abbrev opened : Site
  opened = record { setup = setup_of run.config; known = (a i).known ++ found.added; refused = []; broken = false }

  abbrev after_open : Knows
  after_open = placed a i opened

  configured : run.config ≡ config i (setup_of run.config)
  configured = λ k. record { site = number k; max_keys = run.config.max_keys; defs = run.config.defs }

  is_site : IsSiteKnown after_open i run.old
  is_site = subst (λ (s : Site). (run.old.config ≡ config i s.setup) × ((run.old.broken ≡ s.broken) × Stands run.old.states s.known) → IsSiteKnown after_open i run.old) (placed_at a i opened)
      (λ h. record { config = h.0; broken = h.1.0; stands = h.1.1 })
      (begins.config ∙ configured, (begins.whole, found.stands))

  came : AreEvents after_open i calls run.new
  came = come after_open i calls run.old run.new (subst (λ (ts : List Turn). AreTurns ts run.old run.new) begins.all begins.turns) is_site

  opened_whole : (after_open i).broken ≡ false
  opened_whole = ap (λ (s : Site). s.broken) (placed_at a i opened)

  numbered : run.new.config.site ≡ i
  numbered = ap (λ (c : ConfigValue). c.site) (begins.turns.config ∙ begins.config) ∙ number

  -- the file holds what the site then has, and what some requests were to change that it refused
  abbrev Leaves : Type 0
  Leaves = (some : List Request) × AreUndoneAtOnce calls some × HoldsFile run.left i (after_all run.new.config run.new.states some)

  -- what it leaves in the file passes on
  passes : Leaves → PassesFrom a i (setup_of run.config) calls run.left
  passes (some, undone, holds) = (
    found.some,
    came.end,
    (after_open, ((found.among, found.added, found.adds, placed_at a i opened), λ j other. placed_else a i opened j other), subst (λ b. Happen after_open (events_of i b calls) came.end) opened_whole came.happen),
    file_of came.end i run.left run.new some came.site (came.refused opened_whole some undone)
        (valid_at_once calls some (subst (AllByRecursion IsValidTurn) begins.all begins.valid) undone) holds,
    λ j other. came.others j other ∙ placed_else a i opened j other,
  )

  -- ---- that closed its file

  module _ (closes : Closes f calls run) where
    held_before : HoldsSite run.old (f run.before).committed
    held_before = let it = begins.opens sound in (it.opened (ours_found a i run.image it.was it.found file)).holds

    closed_as : (is : Bool) → run.new.broken ≡ is → Leaves
    closed_as false whole = (
      [],
      none_at_once calls,
      closes.closes i run.new.states
          (subst (λ n. HoldsStates n run.new.states (f run.after).committed) numbered (closes.holds whole (closes.follows.store.holds closes.sound held_before))),
    )
    closed_as true broken =
        let it : HoldsUndone calls run.new (f run.after).committed = closes.follows.store.stored closes.sound held_before begins.whole broken in (
          it.some,
          it.undone,
          closes.closes i _ (subst (λ n. HoldsStates n (after_all run.new.config run.new.states it.some) (f run.after).committed) numbered it.holds),
        )

    closed : Leaves
    closed = closed_as run.new.broken refl

  -- ---- that was stopped

  module _ (stops : Stops f calls run) where
    stopped : Leaves
    stopped =
        let rests = stops.rests in
        let it = stops.leaves.leaves stops.clean (rests.2 (ours_found a i run.image rests.0 rests.1 file)) stops.trees stops.may in (
          it.undone,
          it.are,
          subst (λ n. HoldsFile run.left n (after_all run.new.config run.new.states it.undone)) numbered
              (held_in_file run.left run.new.config.site _ stops.trees it.left stops.holds),
        )

pub run_closed : {C : Type 0} (f : C → State) (i : ℕ) (calls : List (List Turn)) (run : Run C) → Begins f calls run → run.config.site ≡ i → Closes f calls run → Passes i (setup_of run.config) calls run.image run.left
run_closed f i calls run begins number closes a file =
    let sound : IsSound (f run.before) = closes.follows.store.sound closes.sound in
    passes f i calls run begins number a sound file (closed f i calls run begins number a sound file closes)

pub run_stopped : {C : Type 0} (f : C → State) (i : ℕ) (calls : List (List Turn)) (run : Run C) → Begins f calls run → run.config.site ≡ i → Stops f calls run → Passes i (setup_of run.config) calls run.image run.left
run_stopped f i calls run begins number stops a file =
    passes f i calls run begins number a stops.opened file (stopped f i calls run begins number a stops.opened file stops)

-- ---- many runs

after_one : (i : ℕ) (image : Image) (a : Knows) (run : Passed) (runs : List Passed) (h : PassesFrom a i run.setup run.calls run.after) → CarriedRuns h.1 i run.after runs → CarriedRuns a i image (run ∷ runs)
after_one i image a run runs h t = record {
  events = (Opened i run.setup h.0 ∷ events_of i false run.calls) ++ t.events;
  end = t.end;
  happen = happen_append a h.1 t.end (Opened i run.setup h.0 ∷ events_of i false run.calls) t.events h.2 t.happen;
  tell = (h.0, t.events, refl, t.tell);
  file = t.file;
  others = λ j other. t.others j other ∙ h.4 j other;
}

pub chained : (i : ℕ) (image : Image) (a : Knows) (runs : List Passed) → IsFile a i image → AreChained i image runs → CarriedRuns a i image runs
chained i image a [] file are = record { events = []; end = a; happen = refl; tell = refl; file = file; others = λ j other. refl }
chained i image a (run ∷ runs) file (from, passes, rest) =
    let h = passes a (inl (subst (IsFile a i) (sym from) file)) in
    after_one i image a run runs h (chained i run.after h.1 runs h.3 rest)

pub chained_new : (i : ℕ) (image : Image) (a : Knows) (run : Passed) (runs : List Passed) → IsNewFile a i image → AreChained i image (run ∷ runs) → CarriedRuns a i image (run ∷ runs)
chained_new i image a run runs new (from, passes, rest) =
    let h = passes a (inr (subst (IsNewFile a i) (sym from) new)) in
    after_one i image a run runs h (chained i run.after h.1 runs h.3 rest)
