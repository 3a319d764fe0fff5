-- What a call on one client leaves of the others, and of what it asked and was told.
use Rattle.std.proofs.Common.{◌≡◌, ℕ, ◌==◌, Bool, true, false, cond, List, [], ◌∷◌, map, Option, Some, None, Result, Ok, Err, refl, sym, ap, ap₂, ◌∙◌, subst, subst₂, arith}
use Rattle.std.proofs.lemmas.Bool.Decides.{nat_tests}
use Rattle.std.specs.Ordering.{nat_cmp}
use Rattle.std.specs.BTreeMap.{is_at}
use Rattle.std.specs.Map.{set_value}
use Rattle.mvd_conn.proofs.Guarded.{may_met, shown_met}
use Rattle.mvd_conn.specs.Guard.{IsShown, asked_under, guard_met}
use Rattle.mvd_conn.specs.declared.guard.Guard.{Guard}
use Rattle.mvd_conn.specs.declared.passes.Pass.{Pass}
use Rattle.mvd_conn.specs.History.{History, closed, coming, cut, fed, met, released, sent}
use Rattle.mvd_dots.specs.declared.refusals.Refusal.{Refusal}
use Rattle.mvd_dots.specs.declared.refusals.Refusal.TheVariants.{NotAdmitted}
use Rattle.mvd_wire.specs.Frames.{FrameValue}
use Rattle.mvd_wire.specs.Requests.{request_of}
use Rattle.mvd_wire.specs.declared.request.Request.{Request}
use Rattle.mvd_replica.specs.Turns.{Turn}
use Rattle.mvd_host.specs.Hosts.{HostValue, altered, altered_if, client_in, client_of, with_client}
use Rattle.mvd_host.specs.Course.{AreQueued, asked_by}
use Rattle.mvd_host.specs.Runs.{Call, Closes, Cuts, Feeds, Meets, Releases, Sends, TellsOwn, after_call}
use Rattle.mvd_host.proofs.Hosts.{at_is}

set_other : (n q : ℕ) → (q == n) ≡ false → (es : List (ℕ × History)) (w : History) → client_in (set_value (is_at (nat_cmp n)) es w) q ≡ client_in es q
set_other n q apart [] w = refl
set_other n q apart (e ∷ es) w = on (set_other n q apart es w) (is_at (nat_cmp n) e.0) refl
  where
    on : client_in (set_value (is_at (nat_cmp n)) es w) q ≡ client_in es q → (b : Bool) → is_at (nat_cmp n) e.0 ≡ b → client_in (cond b ((e.0, w) ∷ es) (e ∷ set_value (is_at (nat_cmp n)) es w)) q ≡ cond (is_at (nat_cmp q) e.0) (Some e.1) (client_in es q)
    on rest true is =
        let hit : (e.0 == n) ≡ true = sym (at_is n e.0) ∙ is in
        let miss : (e.0 == q) ≡ false = grind (arith, nat_tests, hit, apart) in
        let off : is_at (nat_cmp q) e.0 ≡ false = at_is q e.0 ∙ miss in
        ap (λ c. cond c (Some w) (client_in es q)) off ∙ sym (ap (λ c. cond c (Some e.1) (client_in es q)) off)
    on rest false is = ap (λ (o : Option History). cond (is_at (nat_cmp q) e.0) (Some e.1) o) rest

set_here : (n : ℕ) (es : List (ℕ × History)) (w h : History) → client_in es n ≡ Some h → client_in (set_value (is_at (nat_cmp n)) es w) n ≡ Some w
set_here n [] w h found = absurd (let no : ◌≡◌ {A = Option History} None (Some h) = found in cc)
set_here n (e ∷ es) w h found = on (set_here n es w h) (is_at (nat_cmp n) e.0) refl found
  where
    on : (client_in es n ≡ Some h → client_in (set_value (is_at (nat_cmp n)) es w) n ≡ Some w) → (b : Bool) → is_at (nat_cmp n) e.0 ≡ b → cond (is_at (nat_cmp n) e.0) (Some e.1) (client_in es n) ≡ Some h → client_in (cond b ((e.0, w) ∷ es) (e ∷ set_value (is_at (nat_cmp n)) es w)) n ≡ Some w
    on rest true is at = ap (λ c. cond c (Some w) (client_in es n)) is
    on rest false is at =
        ap (λ c. cond c (Some e.1) (client_in (set_value (is_at (nat_cmp n)) es w) n)) is
        ∙ rest (sym (ap (λ c. cond c (Some e.1) (client_in es n)) is) ∙ at)

-- what is true of each client before a call and after it
called_if : (host : HostValue) (n : ℕ) (f : History → History) (P : ℕ → History → Type 0) → ((q : ℕ) (h : History) → P q h → P q (f h)) → (o : Option History) → client_of host n ≡ o
    → ((q : ℕ) (h : History) → client_of host q ≡ Some h → P q h) → (q : ℕ) (h : History) → client_of (altered_if host n o f) q ≡ Some h → P q h
called_if host n f P keeps None at each q h found = each q h found
called_if host n f P keeps (Some x) at each q h found = on (q == n) refl
  where
    on : (b : Bool) → (q == n) ≡ b → P q h
    on true is =
        let same : q ≡ n = grind (arith, nat_tests, is) in
        let here : client_of (with_client host n (f x)) n ≡ Some (f x) = set_here n host.clients (f x) x at in
        let some : ◌≡◌ {A = Option History} (Some (f x)) (Some h) = sym here ∙ ap (client_of (with_client host n (f x))) (sym same) ∙ found in
        let eq : f x ≡ h = cc in
        subst (P q) eq (keeps q x (each q x (ap (client_of host) same ∙ at)))
    on false is = each q h (sym (set_other n q is host.clients (f x)) ∙ found)

pub called : (host : HostValue) (n : ℕ) (f : History → History) (P : ℕ → History → Type 0) → ((q : ℕ) (h : History) → P q h → P q (f h))
    → ((q : ℕ) (h : History) → client_of host q ≡ Some h → P q h) → (q : ℕ) (h : History) → client_of (altered host n f) q ≡ Some h → P q h
called host n f P keeps each = called_if host n f P keeps (client_of host n) refl each

pub none_called : (host : HostValue) (n : ℕ) (f : History → History) (q : ℕ) → (o : Option History) → client_of host n ≡ o → client_of host q ≡ None → client_of (altered_if host n o f) q ≡ None
none_called host n f q None at gone = gone
none_called host n f q (Some x) at gone = on (q == n) refl
  where
    on : (b : Bool) → (q == n) ≡ b → client_of (with_client host n (f x)) q ≡ None
    on true is =
        let same : q ≡ n = grind (arith, nat_tests, is) in
        absurd (let no : ◌≡◌ {A = Option History} (Some x) None = sym at ∙ ap (client_of host) (sym same) ∙ gone in cc)
    on false is = set_other n q is host.clients (f x) ∙ gone

pub admitted_called : (host : HostValue) (n : ℕ) (f : History → History) (o : Option History) → (altered_if host n o f).admitted ≡ host.admitted
admitted_called host n f None = refl
admitted_called host n f (Some x) = refl

-- ---- what was asked is the same, whichever passes are known now

same_under : (passes : List Pass) (f : FrameValue) (taken : List FrameValue) (guard : Option Guard) (next : Result (Option FrameValue × List ℕ) Refusal) (asked : Result Request Refusal) → asked_under (guard_met passes (f ∷ taken) next guard) asked ≡ asked_under guard asked
same_under passes f taken guard next (Ok request) = ap {B = Result Request Refusal} (λ (b : Bool). cond b (Ok request) (Err NotAdmitted)) (may_met passes f taken guard next request)
same_under passes f taken guard next (Err refusal) = refl

same_each : (passes : List Pass) (f : FrameValue) (taken : List FrameValue) (guard : Option Guard) (next : Result (Option FrameValue × List ℕ) Refusal) (gs : List FrameValue) → map (asked_by (guard_met passes (f ∷ taken) next guard)) gs ≡ map (asked_by guard) gs
same_each passes f taken guard next [] = refl
same_each passes f taken guard next (g ∷ gs) = ap₂ (λ (a : Result Request Refusal) (l : List (Result Request Refusal)). a ∷ l) (same_under passes f taken guard next (request_of g.kind g.payload)) (same_each passes f taken guard next gs)

same_asked : (passes : List Pass) (taken : List FrameValue) (guard : Option Guard) (next : Result (Option FrameValue × List ℕ) Refusal) → map (asked_by (guard_met passes taken next guard)) taken ≡ map (asked_by guard) taken
same_asked passes [] guard next = refl
same_asked passes (f ∷ taken) guard next = same_each passes f taken guard next (f ∷ taken)

tells_met : (turns : List Turn) (passes : List Pass) (h : History) → TellsOwn turns h → TellsOwn turns (met passes h)
tells_met turns passes h t = record { asked = same_asked passes h.taken h.guard (coming h) ∙ t.asked; told = t.told; shown = shown_met passes h.taken (coming h) h.guard t.shown }

tells_same : (turns : List Turn) (h k : History) → k.taken ≡ h.taken → k.answers ≡ h.answers → k.guard ≡ h.guard → TellsOwn turns h → TellsOwn turns k
tells_same turns h k taken answers guard t = record {
  asked = ap₂ (λ (g : Option Guard) (fs : List FrameValue). map (asked_by g) fs) guard taken ∙ t.asked;
  told = subst (AreQueued (map (λ (t : Turn). t.reply) turns)) (sym answers) t.told;
  shown = subst₂ (λ (g : Option Guard) (fs : List FrameValue). IsShown g fs) (sym guard) (sym taken) t.shown;
}

pub tells_call : (turns : List Turn) (call : Call) (h : History) → TellsOwn turns h → TellsOwn turns (after_call call h)
tells_call turns (Meets passes) h t = tells_met turns passes h t
tells_call turns (Feeds bytes) h t = tells_same turns h (fed h bytes) refl refl refl t
tells_call turns Releases h t = tells_same turns h (released h) refl refl refl t
tells_call turns (Closes source) h t = tells_same turns h (closed h source) refl refl refl t
tells_call turns (Sends count) h t = tells_same turns h (sent h count) refl refl refl t
tells_call turns Cuts h t = tells_same turns h (cut h) refl refl refl t
