-- A message that has nothing new for its site.
use Rattle.std.proofs.Common.{◌≡◌, ◌≢◌, inl, inr, ℕ, ◌-◌, ◌≤◌, true, false, true≢false, zero, suc, if◌then◌else◌, List, [], ◌∷◌, ◌++◌, length, Contains, Some, None, refl, sym, ap, ◌∙◌, subst, subst₂, ⊎_elim, arith, unwrap_or}
use Rattle.std.specs.Prelude.{slice_set}
use Rattle.std.specs.List.{AllByRecursion, slice_get}
use Rattle.std.specs.FinMap.{get}
use Rattle.std.specs.Vec.{with_item}
use Rattle.std.specs.declared.vec.Vec.{Vec}
use Rattle.std.proofs.Math.Nat.{ℕ_set}
use Rattle.std.proofs.lemmas.List.Elements.{Contains-append_left, Contains-append_cases}
use Rattle.mvd_dots.specs.declared.refusals.Refusal.{Refusal}
use Rattle.mvd_dots.specs.declared.refusals.Refusal.TheVariants.{Broken, DotClash, Memory, StateTooLarge}
use Rattle.mvd_keys.specs.State.{State, clashes, empty_state, join}
use Rattle.mvd_keys.specs.Writes.{Key, SameWrites, Write, state}
use Rattle.mvd_keys.proofs.Sets.{state-SameWrites}
use Rattle.mvd_keys.proofs.StatesOfWrites.{join-state}
use Rattle.mvd_wire.specs.declared.request.Request.TheVariants.{Push}
use Rattle.mvd_wire.specs.declared.reply.Reply.{Reply}
use Rattle.mvd_wire.specs.declared.reply.Reply.TheVariants.{Done, Refused}
use Rattle.mvd_site.specs.Answer.{is_too_large}
use Rattle.mvd_site.specs.Config.{ConfigValue}
use Rattle.mvd_site.specs.FromStates.{Answered, AnswersFrom, answer_from, change_from, with_change, with_state, within}
use Rattle.mvd_site.specs.Held.{AreHeld, States, state_at}
use Rattle.mvd_site.specs.Sites.{SiteValue}
use Rattle.mvd_site.proofs.Answered.{with_state-same}
use Rattle.mvd_site.proofs.Lengths.{kept_empty}
use Rattle.mvd_site.proofs.Steps.{state_at-stands, within-still}
use Rattle.mvd_peer.proofs.SiteSides.{is_broken}
use Rattle.mvd_world.specs.declared.steps.Outcome.TheVariants.{Replied}
use Rattle.mvd_world.specs.declared.steps.Step.TheVariants.{Receive}
use Rattle.mvd_world.specs.declared.worlds.Message.{Message}
use Rattle.mvd_world.specs.declared.worlds.World.{World}
use Rattle.mvd_world.specs.Machine.{IsConsistent, Knowledge, SentMessage, Setting}
use Rattle.mvd_world.specs.Worlds.{AcceptsAgain, HasNothingNew, IsSiteOf, IsWorld, KnownChangesNothing, StaysTheSame, message_of}
use Rattle.mvd_world.proofs.Apart.{WasMade, agree_within, apart_within}
use Rattle.mvd_world.proofs.Leading.{message_at, site_of}
use Rattle.mvd_world.proofs.Sound.{found}

-- ---- a push that has nothing new

after_nothing : (m : States) (key : Key) (pushed : State) (reply : Reply) → join (state_at m key) pushed ≡ state_at m key → with_change m (change_from m (Push key pushed) reply) ≡ m
after_nothing m key pushed Done same = with_state-same m key (join (state_at m key) pushed) same
after_nothing m key pushed reply same = refl

-- a push that was done
pub same_done : (s s' : SiteValue) (m : Message) → s.broken ≡ false → HasNothingNew s m → s' ≡ record { config = s.config; states = with_state s.states m.key (join (state_at s.states m.key) m.state); broken = false } → s' ≡ s
same_done s s' m whole nothing joined = joined ∙ (λ i. record { config = s.config; states = with_state-same s.states m.key (join (state_at s.states m.key) m.state) (nothing whole) i; broken = sym whole i })

-- it breaks no site that was whole
never_breaks : (s s' : SiteValue) (m : Message) (refusal : Refusal) → s.broken ≡ false → HasNothingNew s m → AnswersFrom s s' (Push m.key m.state) (Refused refusal) → refusal ≡ Broken → s'.broken ≡ true → ⊥
never_breaks s s' m refusal whole nothing answers is broken = ⊎_elim
    (λ (here : Answered s s' (Push m.key m.state) (Refused refusal)). true≢false (sym broken ∙ ap (λ (v : SiteValue). v.broken) here.site))
    (λ rest. ⊎_elim
    (λ memory. let e : Refused Broken ≡ Refused Memory = ap Refused (sym is) ∙ memory.0 in cc)
    (λ broke. broke.1.changes (after_nothing s.states m.key m.state (answer_from s.config s.states (Push m.key m.state)) (nothing whole)))
    rest)
    (answers whole)

-- a push that was refused
pub same_refused : (s s' : SiteValue) (m : Message) (refusal : Refusal) → HasNothingNew s m → AnswersFrom s s' (Push m.key m.state) (Refused refusal) →
    (refusal ≢ Broken → s' ≡ s) → (refusal ≡ Broken → s' ≡ record { config = s.config; states = s.states; broken = true }) → s' ≡ s
same_refused s s' m refusal nothing answers unchanged told = ⊎_elim
    (λ is. elim s.broken as (λ b. s.broken ≡ b → s' ≡ s) [
      | true ↦ λ broken. told is ∙ (λ i. record { config = s.config; states = s.states; broken = sym broken i })
      | false ↦ λ whole. absurd (never_breaks s s' m refusal whole nothing answers is (ap (λ (v : SiteValue). v.broken) (told is)))
    ] refl)
    unchanged
    (is_broken refusal)

-- ---- the world with one site as it was

set_same : {X : Type 0} (xs : List X) (i : ℕ) (x : X) → slice_get xs i ≡ Some x → slice_set xs i x ≡ xs
set_same [] i x h = refl
set_same (y ∷ xs) zero x h = let e : x ≡ y = cc in ap (λ z. z ∷ xs) e
set_same (y ∷ xs) (suc i) x h = ap (λ l. y ∷ l) (set_same xs i x h)

same_vec : {X Z : Type 0} (v : Vec X Z) (i : ℕ) (x : X) → slice_get v.items i ≡ Some x → with_item v i x ≡ v
same_vec v i x h =
    subst (λ l. (p : v.len ≡ length l) → with_item v i x ≡ record { ptr = v.ptr; len = v.len; cap = v.cap; alloc = v.alloc; items = l; ok = (p, v.ok.1); small = v.small })
    (set_same v.items i x h)
    (λ p. ap (λ q. record { ptr = v.ptr; len = v.len; cap = v.cap; alloc = v.alloc; items = slice_set v.items i x; ok = (q, v.ok.1); small = v.small }) (ℕ_set _ _ _ p))
    v.ok.0

pub same_again : (old : World) (i : ℕ) (s s' : SiteValue) → slice_get old.sites.items i ≡ Some s → s' ≡ s → record { alloc = old.alloc; sites = with_item old.sites i s'; messages = old.messages } ≡ old
same_again old i s s' here same =
    ap (λ x. record { alloc = old.alloc; sites = with_item old.sites i x; messages = old.messages }) same
    ∙ ap (λ v. record { alloc = old.alloc; sites = v; messages = old.messages }) (same_vec old.sites i s here)

-- what was found is what is there
pub one_found : {X : Type 0} (xs : List X) (i : ℕ) (x y : X) → slice_get xs i ≡ Some x → slice_get xs i ≡ Some y → x ≡ y
one_found xs i x y here there = let e : Some x ≡ Some y = sym here ∙ there in cc

-- ---- a message that the site knows

same_with : (V W : List Write) → ((w : Write) → Contains W w → Contains V w) → SameWrites (V ++ W) V
same_with V W part w = (λ here. ⊎_elim (λ old. old) (part w) (Contains-append_cases V W w here), Contains-append_left V W w)

-- by the states that the world's sets tell of
pub nothing_new : (setting : Setting) (old : World) (before : Knowledge) (number message : ℕ) (s : SiteValue) (sending : SentMessage) → IsWorld setting old before → IsSiteOf setting before number s →
    slice_get before.messages (message - 1) ≡ Some sending → ((w : Write) → Contains sending.writes w → Contains (before.known number) w) → HasNothingNew s (message_of sending)
nothing_new setting old before number message s sending world site sent part whole =
    let V = before.known number in
    let here : state_at s.states sending.key ≡ state sending.key V = state_at-stands s.states V sending.key (site.stands whole) in
    let made : WasMade before (V ++ sending.writes) = λ w there. world.sound.known number w ((same_with V sending.writes part w).0 there) in
    ap (λ t. join t (state sending.key sending.writes)) here
    ∙ join-state sending.key V sending.writes
    ∙ state-SameWrites sending.key (V ++ sending.writes) V (same_with V sending.writes part) (agree_within before (V ++ sending.writes) world.sound made)
    ∙ sym here

pub short_at : (m : States) (key : Key) → AreHeld m → is_too_large (state_at m key) ≡ false
short_at m key held =
    elim (get m key) as (λ o. get m key ≡ o → is_too_large (unwrap_or o empty_state) ≡ false) [
      | None ↦ λ _. kept_empty.short
      | Some s ↦ λ there. (held.held key s there).short
    ] refl

-- its answer is that it is done
done_from : (config : ConfigValue) (m : States) (key : Key) (pushed : State) → AreHeld m → is_too_large pushed ≡ false → clashes (state_at m key) pushed ≡ false → join (state_at m key) pushed ≡ state_at m key →
    answer_from config m (Push key pushed) ≡ Done
done_from config m key pushed held short apart same =
    (λ i. if short i then Refused StateTooLarge else if apart i then Refused DotClash else within config m key (join (state_at m key) pushed) Done)
    ∙ within-still config m key (join (state_at m key) pushed) Done (ap is_too_large same ∙ short_at m key held) same

-- ---- a message that comes

all_at : {X : Type 0} (P : X → Type 0) (xs : List X) (i : ℕ) (x : X) → AllByRecursion P xs → slice_get xs i ≡ Some x → P x
all_at P [] i x all here = cc
all_at P (y ∷ xs) zero x all here = let e : y ≡ x = cc in subst P e all.0
all_at P (y ∷ xs) (suc i) x all here = all_at P xs i x all.1 here

-- what came of a push at a site, where nothing was new
pub record Repeats (old new : World) (number message : ℕ) (s : SiteValue) (m : Message) (reply : Reply) : Type 0 where
  pub some : 1 ≤ number
  pub here : slice_get old.sites.items (number - 1) ≡ Some s
  pub there : slice_get old.messages.items (message - 1) ≡ Some m
  pub same : HasNothingNew s m → new ≡ old
  pub accepts : HasNothingNew s m → is_too_large m.state ≡ false → (s.broken ≡ false → clashes (state_at s.states m.key) m.state ≡ false) → AcceptsAgain s.broken (Replied reply)

pub stays_the_same : (old new : World) (number message : ℕ) (s : SiteValue) (m : Message) (reply : Reply) → Repeats old new number message s m reply → StaysTheSame old new (Receive number message)
stays_the_same old new number message s m reply repeats x y at at' nothing =
    repeats.same (subst₂ HasNothingNew (one_found old.sites.items (number - 1) x s at repeats.here) (one_found old.messages.items (message - 1) y m at' repeats.there) nothing)

apart_known : (before : Knowledge) (number message : ℕ) (s : SiteValue) (setting : Setting) (sending : SentMessage) → IsConsistent before → IsSiteOf setting before number s → slice_get before.messages (message - 1) ≡ Some sending →
    s.broken ≡ false → clashes (state_at s.states sending.key) (state sending.key sending.writes) ≡ false
apart_known before number message s setting sending sound site sent whole =
    ap (λ t. clashes t (state sending.key sending.writes)) (state_at-stands s.states (before.known number) sending.key (site.stands whole))
    ∙ apart_within before (before.known number) sending.writes sending.key sound (sound.known number) (λ w here. sound.sent sending w (found before.messages (message - 1) sending sent) here)

pub known_changes_nothing : (old new : World) (number message : ℕ) (s : SiteValue) (m : Message) (reply : Reply) → Repeats old new number message s m reply → KnownChangesNothing old new (Receive number message) (Replied reply)
known_changes_nothing old new number message s m reply repeats setting before world may knows =
    let site = site_of setting before old.sites.items (number - 1) number s world.sites (omega (arith, repeats.some)) repeats.here in
    let sent = message_at before.messages (message - 1) m (subst (λ ms. slice_get ms (message - 1) ≡ Some m) world.messages repeats.there) in
    let is : m ≡ message_of knows.sending = sent.2 ∙ ap message_of (one_found before.messages (message - 1) sent.0 knows.sending sent.1 knows.sent) in
    let nothing : HasNothingNew s m = subst (HasNothingNew s) (sym is) (nothing_new setting old before number message s knows.sending world site knows.sent knows.known) in
    let apart : s.broken ≡ false → clashes (state_at s.states m.key) m.state ≡ false = λ whole.
    subst (λ (x : Message). clashes (state_at s.states x.key) x.state ≡ false) (sym is) (apart_known before number message s setting knows.sending world.sound site knows.sent whole) in (
      repeats.same nothing,
      (λ short. subst (λ b. AcceptsAgain b (Replied reply)) site.broken (repeats.accepts nothing (all_at _ old.messages.items (message - 1) m short repeats.there) apart)),
    )

-- it was done
pub repeats_done : (old new : World) (number message : ℕ) (s s' : SiteValue) (m : Message) → 1 ≤ number → slice_get old.sites.items (number - 1) ≡ Some s → slice_get old.messages.items (message - 1) ≡ Some m → (s' ≡ s → new ≡ old) →
    (s.broken ≡ true → ⊥) → s' ≡ record { config = s.config; states = with_state s.states m.key (join (state_at s.states m.key) m.state); broken = false } → Repeats old new number message s m Done
repeats_done old new number message s s' m some here there still stays joined =
    let whole : s.broken ≡ false = elim s.broken as (λ b. s.broken ≡ b → s.broken ≡ false) [ true ↦ λ e. absurd (stays e) | false ↦ λ e. e ] refl in
    record {
      some = some;
      here = here;
      there = there;
      same = λ nothing. still (same_done s s' m whole nothing joined);
      accepts = λ _ _ _. subst (λ b. AcceptsAgain b (Replied Done)) (sym whole) (inl refl);
    }

accepts_refused : (s s' : SiteValue) (m : Message) (refusal : Refusal) → AreHeld s.states → AnswersFrom s s' (Push m.key m.state) (Refused refusal) → (s.broken ≡ true → Refused refusal ≡ Refused Broken) →
    HasNothingNew s m → is_too_large m.state ≡ false → (s.broken ≡ false → clashes (state_at s.states m.key) m.state ≡ false) → AcceptsAgain s.broken (Replied (Refused refusal))
accepts_refused s s' m refusal held answers stays nothing short apart =
    elim s.broken as (λ b. s.broken ≡ b → AcceptsAgain b (Replied (Refused refusal))) [
      | true ↦ λ broken. ap Replied (stays broken)
      | false ↦ λ whole. ⊎_elim
          (λ (here : Answered s s' (Push m.key m.state) (Refused refusal)). let e : Refused refusal ≡ Done = here.answers ∙ done_from s.config s.states m.key m.state held short (apart whole) (nothing whole) in cc)
          (λ rest. ⊎_elim
          (λ memory. inr (ap Replied memory.0))
          (λ broke. absurd (broke.1.changes (after_nothing s.states m.key m.state (answer_from s.config s.states (Push m.key m.state)) (nothing whole))))
          rest)
          (answers whole)
    ] refl

-- it was refused
pub repeats_refused : (old new : World) (number message : ℕ) (s s' : SiteValue) (m : Message) (refusal : Refusal) → 1 ≤ number → slice_get old.sites.items (number - 1) ≡ Some s → slice_get old.messages.items (message - 1) ≡ Some m → (s' ≡ s → new ≡ old) →
    AreHeld s.states → AnswersFrom s s' (Push m.key m.state) (Refused refusal) → (s.broken ≡ true → Refused refusal ≡ Refused Broken) →
    (refusal ≢ Broken → s' ≡ s) → (refusal ≡ Broken → s' ≡ record { config = s.config; states = s.states; broken = true }) → Repeats old new number message s m (Refused refusal)
repeats_refused old new number message s s' m refusal some here there still held answers stays unchanged told = record {
  some = some;
  here = here;
  there = there;
  same = λ nothing. still (same_refused s s' m refusal nothing answers unchanged told);
  accepts = accepts_refused s s' m refusal held answers stays;
}

-- ---- messages are short

pub short_push : (items : List Message) (m : Message) → AllByRecursion (λ (x : Message). is_too_large x.state ≡ false) items → is_too_large m.state ≡ false → AllByRecursion (λ (x : Message). is_too_large x.state ≡ false) (items ++ m ∷ [])
short_push [] m all here = (here, tt)
short_push (x ∷ items) m all here = (all.0, short_push items m all.1 here)
