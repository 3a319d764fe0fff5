-- What a world stands for after one of its sites changed.
use Rattle.std.proofs.Common.{◌≡◌, ◌≢◌, ◌⊎◌, inl, inr, ℕ, zero, suc, ◌+◌, Bool, if◌then◌else◌, List, [], ◌∷◌, ◌++◌, length, Some, Result, refl, sym, ap, ap₂, ◌∙◌, subst, ⊎_elim, arith, eq-eqb}
use Rattle.std.specs.Prelude.{slice_set}
use Rattle.std.specs.List.{slice_get}
use Rattle.std.proofs.lemmas.Bool.Decides.{eqb_tells}
use Rattle.mvd_keys.specs.Writes.{Stands, Write}
use Rattle.mvd_site.specs.Sites.{SiteStands, SiteValue}
use Rattle.std.proofs.lemmas.List.{length-set}
use Rattle.mvd_sync.specs.declared.report.Report.{Report}
use Rattle.mvd_sync.specs.declared.report.SyncFault.{SyncFault}
use Rattle.mvd_world.specs.Machine.{Knowledge, SentMessage, Setting, becomes, learns}
use Rattle.mvd_world.specs.Worlds.{AreSites, ExchangeSites, IsSiteOf, TwoMeet}

-- an element of a list in which one was replaced
pub set_cases : {X : Type 0} (xs : List X) (i : ℕ) (y : X) (j : ℕ) (x : X) → slice_get (slice_set xs i y) j ≡ Some x → ((j ≡ i) × (y ≡ x)) ⊎ ((j ≢ i) × (slice_get xs j ≡ Some x))
set_cases [] i y j x h = cc
set_cases (a ∷ xs) zero y zero x h = inl (refl, cc)
set_cases (a ∷ xs) zero y (suc j) x h = inr (λ e. absurd (omega (arith, e)), h)
set_cases (a ∷ xs) (suc i) y zero x h = inr (λ e. absurd (omega (arith, e)), h)
set_cases (a ∷ xs) (suc i) y (suc j) x h = ⊎_elim
    (λ same. inl (ap suc same.0, same.1))
    (λ other. inr (λ e. other.0 (omega (arith, e)), other.1))
    (set_cases xs i y j x h)

pub set_other : {X : Type 0} (xs : List X) (i : ℕ) (y : X) (j : ℕ) → j ≢ i → slice_get (slice_set xs i y) j ≡ slice_get xs j
set_other [] i y j other = refl
set_other (a ∷ xs) zero y zero other = absurd (other refl)
set_other (a ∷ xs) zero y (suc j) other = refl
set_other (a ∷ xs) (suc i) y zero other = refl
set_other (a ∷ xs) (suc i) y (suc j) other = set_other xs i y j (λ e. other (ap suc e))

-- what is known at another site, or at this one
pub learns_here : (known : ℕ → List Write) (site : ℕ) (more : List Write) → learns known site more site ≡ known site ++ more
learns_here known site more = ap (λ b. if b then known site ++ more else known site) (eq-eqb site site refl)

pub learns_other : (known : ℕ → List Write) (site : ℕ) (more : List Write) (other : ℕ) → other ≢ site → learns known site more other ≡ known other
learns_other known site more other apart = ⊎_elim (λ same. absurd (apart same.1)) (λ no. ap (λ b. if b then known other ++ more else known other) no.0) (eqb_tells other site)

becomes_here : (broken : ℕ → Bool) (site : ℕ) (now : Bool) → becomes broken site now site ≡ now
becomes_here broken site now = ap (λ b. if b then now else broken site) (eq-eqb site site refl)

becomes_other : (broken : ℕ → Bool) (site : ℕ) (now : Bool) (other : ℕ) → other ≢ site → becomes broken site now other ≡ broken other
becomes_other broken site now other apart = ⊎_elim (λ same. absurd (apart same.1)) (λ no. ap (λ b. if b then now else broken other) no.0) (eqb_tells other site)

-- one site changed, and learnt of more
pub sites_changed : (setting : Setting) (sites : List SiteValue) (before : Knowledge) (index number : ℕ) (s s' : SiteValue) (added : List Write) (messages : List SentMessage) (made : List Write) →
    AreSites setting before sites → index + 1 ≡ number → slice_get sites index ≡ Some s → s'.config ≡ s.config → SiteStands s' (before.known number ++ added) →
    AreSites setting (record { known = learns before.known number added; broken = becomes before.broken number s'.broken; messages = messages; made = made }) (slice_set sites index s')
sites_changed setting sites before index number s s' added messages made are at here config stands i x found =
    let after : Knowledge = record { known = learns before.known number added; broken = becomes before.broken number s'.broken; messages = messages; made = made } in
    let changed : IsSiteOf setting after number s' = record {
      config = ap setting.configs (sym at) ∙ (are index s here).config ∙ ap Some (sym config);
      broken = sym (becomes_here before.broken number s'.broken);
      stands = λ whole. subst (Stands s'.states) (sym (learns_here before.known number added)) (stands whole);
    } in
    ⊎_elim
    (λ same. subst (IsSiteOf setting after (i + 1)) same.1 (subst (λ n. IsSiteOf setting after n s') (sym at ∙ ap (λ n. n + 1) (sym same.0)) changed))
    (λ other.
    let was = are i x other.1 in
    let apart : i + 1 ≢ number = λ e. other.0 (omega (arith, e, at)) in
    record {
      config = was.config;
      broken = was.broken ∙ sym (becomes_other before.broken number s'.broken (i + 1) apart);
      stands = λ whole. subst (Stands x.states) (sym (learns_other before.known number added (i + 1) apart)) (was.stands whole);
    })
    (set_cases sites index s' i x found)

-- ---- a list in two parts

pub get_left : {X : Type 0} (xs ys : List X) (i : ℕ) (x : X) → slice_get xs i ≡ Some x → slice_get (xs ++ ys) i ≡ Some x
get_left [] ys i x h = cc
get_left (y ∷ xs) ys zero x h = h
get_left (y ∷ xs) ys (suc i) x h = get_left xs ys i x h

pub get_right : {X : Type 0} (xs ys : List X) → slice_get (xs ++ ys) (length xs) ≡ slice_get ys 0
get_right [] ys = refl
get_right (x ∷ xs) ys = get_right xs ys

pub set_left : {X : Type 0} (xs ys : List X) (i : ℕ) (x y : X) → slice_get xs i ≡ Some y → slice_set (xs ++ ys) i x ≡ slice_set xs i x ++ ys
set_left [] ys i x y h = cc
set_left (z ∷ xs) ys zero x y h = refl
set_left (z ∷ xs) ys (suc i) x y h = ap (λ l. z ∷ l) (set_left xs ys i x y h)

pub set_right : {X : Type 0} (xs ys : List X) (x : X) → slice_set (xs ++ ys) (length xs) x ≡ xs ++ slice_set ys 0 x
set_right [] ys x = refl
set_right (z ∷ xs) ys x = ap (λ l. z ∷ l) (set_right xs ys x)

pub get_push : {X : Type 0} (xs : List X) (y : X) (i : ℕ) (x : X) → slice_get (xs ++ y ∷ []) i ≡ Some x → (slice_get xs i ≡ Some x) ⊎ ((i ≡ length xs) × (y ≡ x))
get_push [] y zero x h = inr (refl, cc)
get_push [] y (suc i) x h = cc
get_push (z ∷ xs) y zero x h = inl h
get_push (z ∷ xs) y (suc i) x h = ⊎_elim (λ old. inl old) (λ new. inr (ap suc new.0, new.1)) (get_push xs y i x h)

-- two sites of a list met, each in its part
pub met_front : (sites front back : List SiteValue) (a b a' b' : SiteValue) (local peer : ℕ) (result : Result Report SyncFault) → sites ≡ front ++ back → length front ≡ peer → slice_get front local ≡ Some a → slice_get back 0 ≡ Some b →
    a'.config ≡ a.config → b'.config ≡ b.config → ExchangeSites a b a' b' result → TwoMeet sites (slice_set front local a' ++ slice_set back 0 b') local peer result
met_front sites front back a b a' b' local peer result parts at first second config config' exchange =
    let long : length (slice_set front local a') ≡ peer = length-set front local a' ∙ at in
    record {
      first = a;
      second = b;
      first' = a';
      second' = b';
      first_is = ap (λ l. slice_get l local) parts ∙ get_left front back local a first;
      second_is = ap₂ slice_get parts (sym at) ∙ get_right front back ∙ second;
      new_is = sym (ap (λ l. slice_set (slice_set l local a') peer b') parts ∙ ap (λ l. slice_set l peer b') (set_left front back local a' a first)
          ∙ ap (λ n. slice_set (slice_set front local a' ++ back) n b') (sym long) ∙ set_right (slice_set front local a') back b');
      first_config = config;
      second_config = config';
      exchange = exchange;
    }

pub met_back : (sites front back : List SiteValue) (a b a' b' : SiteValue) (local peer : ℕ) (result : Result Report SyncFault) → sites ≡ front ++ back → length front ≡ local → slice_get back 0 ≡ Some a → slice_get front peer ≡ Some b →
    a'.config ≡ a.config → b'.config ≡ b.config → ExchangeSites a b a' b' result → TwoMeet sites (slice_set front peer b' ++ slice_set back 0 a') local peer result
met_back sites front back a b a' b' local peer result parts at first second config config' exchange =
    record {
      first = a;
      second = b;
      first' = a';
      second' = b';
      first_is = ap₂ slice_get parts (sym at) ∙ get_right front back ∙ first;
      second_is = ap (λ l. slice_get l peer) parts ∙ get_left front back peer b second;
      new_is = sym (ap₂ (λ l n. slice_set (slice_set l n a') peer b') parts (sym at) ∙ ap (λ l. slice_set l peer b') (set_right front back a') ∙ set_left front (slice_set back 0 a') peer b' b second);
      first_config = config;
      second_config = config';
      exchange = exchange;
    }
