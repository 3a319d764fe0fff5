-- What a session reads of the answers of a live side: each was right at some moment.
use Rattle.std.proofs.Common.{◌≡◌, ℕ, ◌≤◌, List, [], ◌∷◌, ◌++◌, length, take, refl, sym, ap, subst, ◌∙◌, arith, Some, None, Option}
use Rattle.std.specs.Prelude.{Contains, Result, Ok, Err}
use Rattle.std.proofs.lemmas.List.{take_all}
use Rattle.std.proofs.lemmas.List.Elements.{Contains-append_left, Contains-append_right, Contains-push}
use Rattle.mvd_dots.specs.declared.refusals.Refusal.{Refusal}
use Rattle.mvd_keys.specs.State.{State}
use Rattle.mvd_keys.specs.Writes.{Key}
use Rattle.mvd_wire.specs.declared.reply.Digests.{Digests}
use Rattle.mvd_site.specs.Held.{AreHeld, States}
use Rattle.mvd_peer.specs.Live.{Grows}
use Rattle.mvd_peer.specs.Windows.{ForEach}
use Rattle.mvd_sync.specs.Made.{PassesFault}
use Rattle.mvd_sync.specs.Questions.{TakesBudget}
use Rattle.mvd_peer.specs.Asking.{Wanted}
use Rattle.mvd_sync.specs.Tellings.{AllRead, Page, nodes_told, pages_told, pushes_told, states_told}
use Rattle.mvd_peer.specs.Asking.{PageQuestion}
use Rattle.mvd_sync.specs.declared.telling.Share.{Share}
use Rattle.mvd_peer.specs.declared.window.Told.{Told}
use Rattle.mvd_peer.specs.declared.window.Told.TheVariants as told
use Rattle.mvd_live.specs.Told.{LiveTells, TellsEach, TellsNode, TellsNothing, PageTold, TellsPush, StateTold}
use Rattle.mvd_live.proofs.Moments.{AtMoment, grown_on}

no_more : {X : Type 0} (xs : List X) → length xs ≤ 0 → xs ≡ []
no_more [] h = refl
no_more (x ∷ xs) h = absurd (omega (arith, h))

-- ---- the answers of a kind

nothing_told : {Q A : Type 0} (Right : States → Q → Result A Refusal → Type 0) (qs : List Q) (answers : List (Result A Refusal)) (old new : States) (moments : List States)
    → TellsNothing old moments new → [] ≡ answers → length qs ≤ length answers → TellsEach Right qs answers old moments new
nothing_told Right qs answers old new moments none is few =
    let empty = no_more qs (subst (λ xs. length qs ≤ length xs) (sym is) few) in
    subst (λ xs. TellsEach Right xs answers old moments new) (sym empty)
    (subst (λ xs. TellsEach Right [] xs old moments new) is
    (subst (λ ms. TellsEach Right [] [] old ms new) (sym none.0) none.1))

module _ (most : ℕ) (w : Wanted) (old new : States) (moments : List States) where
  pub heard_nodes : (t : Option Told) (answers : List (Result Digests Refusal)) → LiveTells most w t old moments new → nodes_told t ≡ Ok answers → length w.nodes ≤ length answers → TellsEach TellsNode w.nodes answers old moments new
  heard_nodes None answers tells is few = nothing_told TellsNode w.nodes answers old new moments tells (cc) few
  heard_nodes (Some (told.Nodes given)) answers tells is few = let same : given.items ≡ answers = cc in subst (λ xs. TellsEach TellsNode w.nodes xs old moments new) same tells
  heard_nodes (Some (told.Pages given)) answers tells is few = absurd (cc)
  heard_nodes (Some (told.States given)) answers tells is few = absurd (cc)
  heard_nodes (Some (told.Pushes given)) answers tells is few = absurd (cc)
  heard_nodes (Some (told.Refused refusal)) answers tells is few = absurd (cc)

  pub heard_pages : (t : Option Told) (answers : List (Result Page Refusal)) → LiveTells most w t old moments new → pages_told t ≡ Ok answers → length w.pages ≤ length answers → TellsEach PageTold w.pages answers old moments new
  heard_pages None answers tells is few = nothing_told PageTold w.pages answers old new moments tells (cc) few
  heard_pages (Some (told.Pages given)) answers tells is few = let same : given.items ≡ answers = cc in subst (λ xs. TellsEach PageTold w.pages xs old moments new) same tells
  heard_pages (Some (told.Nodes given)) answers tells is few = absurd (cc)
  heard_pages (Some (told.States given)) answers tells is few = absurd (cc)
  heard_pages (Some (told.Pushes given)) answers tells is few = absurd (cc)
  heard_pages (Some (told.Refused refusal)) answers tells is few = absurd (cc)

  pub heard_states : (t : Option Told) (answers : List (Result State Refusal)) → LiveTells most w t old moments new → states_told t ≡ Ok answers → length w.gets ≤ length answers → TellsEach StateTold w.gets answers old moments new
  heard_states None answers tells is few = nothing_told StateTold w.gets answers old new moments tells (cc) few
  heard_states (Some (told.States given)) answers tells is few = let same : given.items ≡ answers = cc in subst (λ xs. TellsEach StateTold w.gets xs old moments new) same tells
  heard_states (Some (told.Nodes given)) answers tells is few = absurd (cc)
  heard_states (Some (told.Pages given)) answers tells is few = absurd (cc)
  heard_states (Some (told.Pushes given)) answers tells is few = absurd (cc)
  heard_states (Some (told.Refused refusal)) answers tells is few = absurd (cc)

  pub heard_pushes : (t : Option Told) (answers : List (Result (Unit {0}) Refusal)) → LiveTells most w t old moments new → pushes_told t ≡ Ok answers → length w.pushes ≤ length answers → TellsEach (TellsPush most) w.pushes answers old moments new
  heard_pushes None answers tells is few = nothing_told (TellsPush most) w.pushes answers old new moments tells (cc) few
  heard_pushes (Some (told.Pushes given)) answers tells is few = let same : given.items ≡ answers = cc in subst (λ xs. TellsEach (TellsPush most) w.pushes xs old moments new) same tells
  heard_pushes (Some (told.Nodes given)) answers tells is few = absurd (cc)
  heard_pushes (Some (told.Pages given)) answers tells is few = absurd (cc)
  heard_pushes (Some (told.States given)) answers tells is few = absurd (cc)
  heard_pushes (Some (told.Refused refusal)) answers tells is few = absurd (cc)

-- ---- what is held only grows

pub each_grows : {Q A : Type 0} (Right : States → Q → A → Type 0) (qs : List Q) (answers : List A) (old new : States) (moments : List States) → AreHeld old → AreHeld new → TellsEach Right qs answers old moments new → Grows old new
each_grows Right [] [] old new [] p q tells = tells
each_grows Right [] [] old new (held ∷ later) p q tells = absurd tells
each_grows Right [] (a ∷ answers) old new moments p q tells = absurd tells
each_grows Right (x ∷ qs) [] old new moments p q tells = absurd tells
each_grows Right (x ∷ qs) (a ∷ answers) old new [] p q tells = absurd tells
each_grows Right (x ∷ qs) (a ∷ answers) old new (held ∷ later) p q tells =
    grown_on old held new p tells.0 q tells.1 (each_grows Right qs answers held new later tells.0 q tells.3)

pub tells_grow : (most : ℕ) (w : Wanted) (t : Option Told) (old new : States) (moments : List States) → AreHeld old → AreHeld new → LiveTells most w t old moments new → Grows old new
tells_grow most w None old new moments p q tells = tells.1
tells_grow most w (Some (told.Nodes given)) old new moments p q tells = each_grows TellsNode w.nodes given.items old new moments p q tells
tells_grow most w (Some (told.Pages given)) old new moments p q tells = each_grows PageTold w.pages given.items old new moments p q tells
tells_grow most w (Some (told.States given)) old new moments p q tells = each_grows StateTold w.gets given.items old new moments p q tells
tells_grow most w (Some (told.Pushes given)) old new moments p q tells = each_grows (TellsPush most) w.pushes given.items old new moments p q tells
tells_grow most w (Some (told.Refused refusal)) old new moments p q tells = tells.1

-- ---- each answer at its moment

-- a side from the first to the last, in the course of which a window was told
pub record Within (moments : List States) (first last old new : States) (these : List States) : Type 0 where
  pub first_held : AreHeld first
  pub last_held : AreHeld last
  pub old_held : AreHeld old
  pub new_held : AreHeld new
  pub since : Grows first old
  pub until : Grows new last
  pub among : (held : States) → Contains these held → Contains moments held

pub each_seen : {Q A : Type 0} (Right : States → Q → A → Type 0) (qs : List Q) (answers : List A) (moments : List States) (first last old new : States) (these : List States) → Within moments first last old new these
    → TellsEach Right qs answers old these new → ForEach (λ q t. AtMoment moments first last (λ held. Right held q t)) qs answers
each_seen Right [] [] moments first last old new [] w tells = tt
each_seen Right [] [] moments first last old new (held ∷ later) w tells = absurd tells
each_seen Right [] (a ∷ answers) moments first last old new these w tells = absurd tells
each_seen Right (x ∷ qs) [] moments first last old new these w tells = absurd tells
each_seen Right (x ∷ qs) (a ∷ answers) moments first last old new [] w tells = absurd tells
each_seen Right (x ∷ qs) (a ∷ answers) moments first last old new (held ∷ later) w tells =
    let since : Grows first held = grown_on first old held w.first_held w.old_held tells.0 w.since tells.1 in
    let rest : Grows held new = each_grows Right qs answers held new later tells.0 w.new_held tells.3 in
    let until : Grows held last = grown_on held new last tells.0 w.new_held w.last_held rest w.until in
    let here : Contains (held ∷ later) held = Contains-append_left (held ∷ []) later held (Contains-push [] held) in (
      (held, record { among = w.among held here; form = tells.0; since = since; until = until }, tells.2),
      each_seen Right qs answers moments first last held new later (record {
        first_held = w.first_held;
        last_held = w.last_held;
        old_held = tells.0;
        new_held = w.new_held;
        since = since;
        until = w.until;
        among = λ x c. w.among x (Contains-append_right (held ∷ []) later x c);
      }) tells.3,
    )

-- what was made of the answers
pub each_read : {Q A B : Type 0} (P : Q → Result A Refusal → Type 0) (IsOf : A → B → Type 0) (qs : List Q) (answers : List (Result A Refusal)) (read : List B)
    → ForEach P qs answers → ForEach (PassesFault IsOf) answers read → ForEach (λ q b. (a : A) × P q (Ok a) × IsOf a b) qs read
each_read P IsOf [] [] [] p r = tt
each_read P IsOf [] [] (b ∷ read) p r = absurd r
each_read P IsOf [] (t ∷ answers) read p r = absurd p
each_read P IsOf (q ∷ qs) [] read p r = absurd p
each_read P IsOf (q ∷ qs) (t ∷ answers) [] p r = absurd r
each_read P IsOf (q ∷ qs) (Ok a ∷ answers) (b ∷ read) p r = ((a, p.0, r.0), each_read P IsOf qs answers read p.1 r.1)
each_read P IsOf (q ∷ qs) (Err refusal ∷ answers) (b ∷ read) p r = absurd r.0

-- those that were told to the first questions
each_first : {Q A : Type 0} (P : Q → A → Type 0) (ones others : List Q) (answers : List A) → ForEach P (ones ++ others) answers → ForEach P ones (take (length ones) answers)
each_first P [] others [] h = tt
each_first P [] others (t ∷ answers) h = tt
each_first P (q ∷ ones) others [] h = absurd h
each_first P (q ∷ ones) others (t ∷ answers) h = (h.0, each_first P ones others answers h.1)

-- ---- one window of a side

-- what a live side told of these questions, amid a session
pub record Heard (most : ℕ) (moments : List States) (first last : States) (w : Wanted) (t : Option Told) : Type 0 where
  pub old : States
  pub new : States
  pub these : List States
  pub within : Within moments first last old new these
  pub tells : LiveTells most w t old these new

-- all that was wanted was asked
pub record AllAsked {X : Type 0} (qs : List X) (asked : List X) (left left' wanted : ℕ) (share : Share) : Type 0 where
  pub cut : asked ≡ take left qs
  pub short : length qs ≤ wanted
  pub budget : TakesBudget left left' wanted share.asked
  pub counted : share.wanted ≡ wanted

none_cut : {X : Type 0} (qs asked : List X) (left left' wanted : ℕ) (share : Share) → AllAsked qs asked left left' wanted share → share.wanted ≤ share.asked → asked ≡ qs
none_cut qs asked left left' wanted share a whole = a.cut ∙ take_all left qs (let e = a.budget.spent in let s = a.short in let c = a.counted in omega (arith, e, s, c, whole))

few_asked : {X Y : Type 0} (qs asked : List X) (answers : List Y) (left left' wanted : ℕ) (share : Share) → AllAsked qs asked left left' wanted share → share.wanted ≤ share.asked → length answers ≡ share.asked → length asked ≤ length answers
few_asked qs asked answers left left' wanted share a whole counted =
    let n : length asked ≡ length qs = ap length (none_cut qs asked left left' wanted share a whole) in
    let s = a.short in
    let c = a.counted in
    omega (arith, n, s, c, whole, counted)

module _ (most : ℕ) (moments : List States) (first last : States) (w : Wanted) (t : Option Told) (h : Heard most moments first last w t) (left left' wanted : ℕ) (share : Share) where
  seen_at : {Q A B : Type 0} (Right : States → Q → Result A Refusal → Type 0) (IsOf : A → B → Type 0) (qs asked : List Q) (answers : List (Result A Refusal)) (read : List B) → asked ≡ qs → TellsEach Right asked answers h.old h.these h.new → ForEach (PassesFault IsOf) answers read
      → ForEach (λ q b. (a : A) × AtMoment moments first last (λ held. Right held q (Ok a)) × IsOf a b) qs read
  seen_at Right IsOf qs asked answers read same tells each =
      each_read (λ q t. AtMoment moments first last (λ held. Right held q t)) IsOf qs answers read
      (each_seen Right qs answers moments first last h.old h.new h.these h.within (subst (λ xs. TellsEach Right xs answers h.old h.these h.new) same tells)) each

  pub read_nodes : {B : Type 0} (IsOf : Digests → B → Type 0) (qs : List (List ℕ)) (read : List B) → AllAsked qs w.nodes left left' wanted share → AllRead IsOf (nodes_told t) share read
      → ForEach (λ q b. (a : Digests) × AtMoment moments first last (λ held. TellsNode held q (Ok a)) × IsOf a b) qs read
  read_nodes IsOf qs read all r =
      seen_at TellsNode IsOf qs w.nodes r.answers read (none_cut qs w.nodes left left' wanted share all r.whole)
      (heard_nodes most w h.old h.new h.these t r.answers h.tells r.is (few_asked qs w.nodes r.answers left left' wanted share all r.whole r.counted)) r.each

  pub read_pages : {B : Type 0} (IsOf : Page → B → Type 0) (qs : List PageQuestion) (read : List B) → AllAsked qs w.pages left left' wanted share → AllRead IsOf (pages_told t) share read
      → ForEach (λ q b. (a : Page) × AtMoment moments first last (λ held. PageTold held q (Ok a)) × IsOf a b) qs read
  read_pages IsOf qs read all r =
      seen_at PageTold IsOf qs w.pages r.answers read (none_cut qs w.pages left left' wanted share all r.whole)
      (heard_pages most w h.old h.new h.these t r.answers h.tells r.is (few_asked qs w.pages r.answers left left' wanted share all r.whole r.counted)) r.each

  pub read_states : {B : Type 0} (IsOf : State → B → Type 0) (qs : List Key) (read : List B) → AllAsked qs w.gets left left' wanted share → AllRead IsOf (states_told t) share read
      → ForEach (λ q b. (a : State) × AtMoment moments first last (λ held. StateTold held q (Ok a)) × IsOf a b) qs read
  read_states IsOf qs read all r =
      seen_at StateTold IsOf qs w.gets r.answers read (none_cut qs w.gets left left' wanted share all r.whole)
      (heard_states most w h.old h.new h.these t r.answers h.tells r.is (few_asked qs w.gets r.answers left left' wanted share all r.whole r.counted)) r.each

  -- of a window that is cut, the first
  pub read_first : {B : Type 0} (IsOf : State → B → Type 0) (ones others : List Key) (answers : List (Result State Refusal)) (read : List B) → AllAsked (ones ++ others) w.gets left left' wanted share → states_told t ≡ Ok answers → share.wanted ≤ share.asked → length answers ≡ share.asked
      → ForEach (PassesFault IsOf) (take (length ones) answers) read → ForEach (λ q b. (a : State) × AtMoment moments first last (λ held. StateTold held q (Ok a)) × IsOf a b) ones read
  read_first IsOf ones others answers read all is whole counted each =
      let qs = ones ++ others in
      let P : Key → Result State Refusal → Type 0 = λ q t. AtMoment moments first last (λ held. StateTold held q t) in
      let tells = heard_states most w h.old h.new h.these t answers h.tells is (few_asked qs w.gets answers left left' wanted share all whole counted) in
      let seen = each_seen StateTold qs answers moments first last h.old h.new h.these h.within (subst (λ xs. TellsEach StateTold xs answers h.old h.these h.new) (none_cut qs w.gets left left' wanted share all whole) tells) in
      each_read P IsOf ones (take (length ones) answers) read (each_first P ones others answers seen) each

  pub seen_pushes : (qs : List (Key × State)) (answers : List (Result (Unit {0}) Refusal)) → AllAsked qs w.pushes left left' wanted share → pushes_told t ≡ Ok answers → share.wanted ≤ share.asked → length answers ≡ share.asked
      → ForEach (λ p t. AtMoment moments first last (λ held. TellsPush most held p t)) qs answers
  seen_pushes qs answers all is whole counted =
      each_seen (TellsPush most) qs answers moments first last h.old h.new h.these h.within
      (subst (λ xs. TellsEach (TellsPush most) xs answers h.old h.these h.new) (none_cut qs w.pushes left left' wanted share all whole)
      (heard_pushes most w h.old h.new h.these t answers h.tells is (few_asked qs w.pushes answers left left' wanted share all whole counted)))
