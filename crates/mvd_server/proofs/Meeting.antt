-- Each client that has a turn has met the passes that are known.
use Rattle.std.proofs.Common.{◌≡◌, ◌∙◌, ◌⊎◌, ◌<◌, ◌==◌, ◌&&◌, ◌+◌, ℕ, zero, suc, Bool, true, false, cond, List, [], ◌∷◌, map, length, slice_index, Option, Some, None, Result, Ok, Err, inl, inr, refl, sym, ap, ap₂, subst, arith}
use Rattle.std.proofs.lemmas.Bool.{eqb-true}
use Rattle.std.proofs.lemmas.Bool.Decides.{nat_tests}
use Rattle.std.proofs.lemmas.Slice.Eq.{bytes_eq-Decides}
use Rattle.mvd_conn.proofs.Hellos.{shown_known, shows_some}
use Rattle.mvd_conn.specs.Guard.{guard_at, guard_by, guard_met}
use Rattle.mvd_conn.specs.History.{History, coming, met}
use Rattle.mvd_conn.specs.Passes.{allows_same, are_equal, has_pass, is_same_right, pass_if, pass_of_digest, pass_shown, token_shown}
use Rattle.mvd_conn.specs.Rights.{prefix_of}
use Rattle.mvd_conn.specs.declared.guard.Guard.{Guard}
use Rattle.mvd_conn.specs.declared.guard.Guard.TheVariants.{Asks, Knows, Left}
use Rattle.mvd_conn.specs.declared.passes.Pass.{Pass}
use Rattle.mvd_conn.specs.declared.right.Right.{Right}
use Rattle.mvd_dots.specs.declared.refusals.Refusal.{Refusal}
use Rattle.mvd_host.specs.Course.{BothClients, IsOut, MayGoOn, asked_by, own}
use Rattle.mvd_host.specs.Hosts.{HostValue, IfClient, IsClient, altered, altered_if, client_of}
use Rattle.mvd_host.specs.Round.{ClientCourse, Spares}
use Rattle.mvd_replica.specs.Turns.{Turn}
use Rattle.mvd_wire.specs.Frames.{FrameValue}
use Rattle.mvd_wire.specs.declared.request.Request.{Request}
use Rattle.mvd_server.proofs.Keyed.{each_set, set_here}
use Rattle.mvd_server.specs.Guarded.{AreSettled, IsKnownNow, IsSettled}
use Rattle.mvd_server.specs.Rounds.{MayAllTurn, MayTurn}
use Rattle.mvd_server.specs.Talking.{Talking}

-- ---- whose token is known has its pass

same_bool : (b : Bool) → are_equal b b ≡ true
same_bool true = refl
same_bool false = refl

same_right : (right : Right) → is_same_right right right ≡ true
same_right right = ap₂ (λ (a b : Bool). a && b) (same_bool right.writes) ((bytes_eq-Decides (prefix_of right) (prefix_of right)).1 refl)

shown_had : (passes : List Pass) (f : FrameValue) (found : Pass) → pass_shown passes f ≡ Some found → has_pass passes found ≡ true
shown_had passes f found e =
    let some = shows_some found (token_shown f) (shown_known passes f found e).1 in
    let at : pass_of_digest passes found.digest ≡ Some found =
    sym (ap (pass_of_digest passes) some.2) ∙ sym (ap (pass_if passes) some.1) ∙ e in
    ap (allows_same found.right) at ∙ same_right found.right

-- ---- who has met passes

by_known : (passes : List Pass) (found : Option Pass) → ((pass : Pass) → found ≡ Some pass → has_pass passes pass ≡ true) → IsSettled (Some passes) (Some (guard_by found))
by_known passes None all = λ no. absurd no
by_known passes (Some pass) all = λ goes. all pass refl

at_known : (passes : List Pass) (next : Result (Option FrameValue × List ℕ) Refusal) → IsSettled (Some passes) (Some (guard_at passes next))
at_known passes (Ok (Some f, rest)) = by_known passes (pass_shown passes f) (shown_had passes f)
at_known passes (Ok (None, rest)) = λ no. absurd no
at_known passes (Err refusal) = λ no. absurd no

if_known : (passes : List Pass) (pass : Pass) (b : Bool) → has_pass passes pass ≡ b → IsSettled (Some passes) (Some (cond b (Knows pass) (Left pass)))
if_known passes pass true is = λ goes. is
if_known passes pass false is = λ no. absurd no

met_known : (passes : List Pass) (taken : List FrameValue) (next : Result (Option FrameValue × List ℕ) Refusal) (guard : Option Guard) → IsSettled (Some passes) (guard_met passes taken next guard)
met_known passes taken next None = λ goes. tt
met_known passes [] next (Some guard) = at_known passes next
met_known passes (f ∷ taken) next (Some Asks) = λ no. absurd no
met_known passes (f ∷ taken) next (Some (Knows pass)) = if_known passes pass (has_pass passes pass) refl
met_known passes (f ∷ taken) next (Some (Left pass)) = λ no. absurd no

abbrev pub IsCalm : Option (List Pass) → History → Type 0
IsCalm passes h = IsSettled passes h.guard

settled_met : (passes : List Pass) (h : History) → IsCalm (Some passes) (met passes h)
settled_met passes h = met_known passes h.taken (coming h) h.guard

-- ---- one client after the other

to_if : (P : History → Type 0) (o : Option History) → ((h : History) → o ≡ Some h → P h) → IfClient o P
to_if P None all = tt
to_if P (Some h) all = all h refl

of_if : (P : History → Type 0) (o : Option History) (h : History) → IfClient o P → o ≡ Some h → P h
of_if P o h is at = subst (λ (x : Option History). IfClient x P) at is

here : (passes : List Pass) (host : HostValue) (n : ℕ) (o : Option History) → client_of host n ≡ o → (h : History) → client_of (altered_if host n o (met passes)) n ≡ Some h → IsCalm (Some passes) h
here passes host n None at h found = absurd (let no : ◌≡◌ {A = Option History} None (Some h) = sym at ∙ found in cc)
here passes host n (Some x) at h found =
    let some : ◌≡◌ {A = Option History} (Some (met passes x)) (Some h) = sym (set_here n host.clients (met passes x) x at) ∙ found in
    let eq : met passes x ≡ h = cc in
    subst (IsCalm (Some passes)) eq (settled_met passes x)

there : (passes : List Pass) (host : HostValue) (n : ℕ) (o : Option History) → client_of host n ≡ o → (P : ℕ → Type 0)
    → ((q : ℕ) (h : History) → client_of host q ≡ Some h → P q → IsCalm (Some passes) h) → (q : ℕ) (h : History) → client_of (altered_if host n o (met passes)) q ≡ Some h → P q → IsCalm (Some passes) h
there passes host n None at P each = each
there passes host n (Some x) at P each = each_set n host.clients (met passes x) x (λ q h. P q → IsCalm (Some passes) h) at (λ p. settled_met passes x) each

pub settled_none : (passes : List Pass) (ready : List ℕ) (host : HostValue) → AreSettled (Some passes) ready 0 host
settled_none passes ready host i below = absurd (omega (arith, below))

pub settled_more : (passes : List Pass) (ready : List ℕ) (count : ℕ) (host : HostValue) → AreSettled (Some passes) ready count host → AreSettled (Some passes) ready (count + 1) (altered host (slice_index ready count) (met passes))
settled_more passes ready count host each i below = on (i == count) refl
  where
    n : ℕ
    n = slice_index ready count

    new : HostValue
    new = altered host n (met passes)

    P : ℕ → Type 0
    P q = (j : ℕ) × (j < count) × (slice_index ready j ≡ q)

    old : (q : ℕ) (h : History) → client_of host q ≡ Some h → P q → IsCalm (Some passes) h
    old q h found (j, small, at) = of_if (IsCalm (Some passes)) (client_of host (slice_index ready j)) h (each j small) (ap (client_of host) at ∙ found)

    on : (b : Bool) → (i == count) ≡ b → IfClient (client_of new (slice_index ready i)) (IsCalm (Some passes))
    on true is =
        let same : i ≡ count = eqb-true i count is in
        to_if (IsCalm (Some passes)) (client_of new (slice_index ready i))
        (λ h found. here passes host n (client_of host n) refl h (sym (ap (λ (k : ℕ). client_of new (slice_index ready k)) same) ∙ found))
    on false is =
        let small : i < count = grind (arith, nat_tests, is, below) in
        to_if (IsCalm (Some passes)) (client_of new (slice_index ready i))
        (λ h found. there passes host n (client_of host n) refl P old (slice_index ready i) h found (i, small, refl))

-- where no token is asked for, each is
pub settled_open : (ready : List ℕ) (count : ℕ) (host : HostValue) → AreSettled None ready count host
settled_open ready count host i below = to_if (IsCalm None) (client_of host (slice_index ready i)) (λ h found goes. tt)

-- ---- so whoever has a turn is known

is_out : (n : ℕ) (xs : List ℕ) (count : ℕ) → ((i : ℕ) × (i < count) × (slice_index xs i ≡ n)) ⊎ IsOut n xs count
is_out n xs zero = inr (λ i below. absurd (omega (arith, below)))
is_out n xs (suc count) = on (is_out n xs count) (slice_index xs count == n) refl
  where
    on : ((i : ℕ) × (i < count) × (slice_index xs i ≡ n)) ⊎ IsOut n xs count → (b : Bool) → (slice_index xs count == n) ≡ b → ((i : ℕ) × (i < suc count) × (slice_index xs i ≡ n)) ⊎ IsOut n xs (suc count)
    on (inl (i, small, at)) b is = inl (i, omega (arith, small), at)
    on (inr out) true is = inl (count, omega arith, eqb-true (slice_index xs count) n is)
    on (inr out) false is = inr (λ i below at. last i below at (i == count) refl)
      where
        last : (i : ℕ) → i < suc count → slice_index xs i ≡ n → (c : Bool) → (i == count) ≡ c → ⊥
        last i below at true same =
            let here : slice_index xs count ≡ n = ap (slice_index xs) (sym (eqb-true i count same)) ∙ at in
            grind (arith, nat_tests, is, here)
        last i below at false apart = out i (grind (arith, nat_tests, apart, below)) at

no_turns : (turns : List Turn) → map (λ (t : Turn). t.asked) turns ≡ [] → turns ≡ []
no_turns [] e = refl
no_turns (turn ∷ turns) e = absurd (let no : ◌≡◌ {A = List (Result Request Refusal)} (turn.asked ∷ map (λ (t : Turn). t.asked) turns) [] = e in cc)

sees : (h : History) (o : Option History) (R : History → History → Type 0) → BothClients (Some h) o R → (k : History) × R h k
sees h None R both = absurd both
sees h (Some k) R both = (k, both)

turns_known : (passes : Option (List Pass)) (turns : List Turn) (h k : History) → ClientCourse turns h k → IsCalm passes h → (turns ≡ []) ⊎ IsKnownNow passes h.guard
turns_known passes turns h k course calm = elim course.goes_on [
  | inl none ↦ inl (no_turns turns (sym course.asked ∙ ap (map (asked_by k.guard)) none))
  | inr goes ↦ inr (calm (subst MayGoOn course.moved.guard goes))
]

pub all_may_turn : (t : Talking) (host : HostValue) (ready : List ℕ) (turns : List (ℕ × Turn)) → AreSettled t.passes ready (length ready) t.host → Spares ready turns t.host host
    → ((n : ℕ) → BothClients (client_of t.host n) (client_of host n) (ClientCourse (own n turns))) → MayAllTurn t turns
all_may_turn t host ready turns settled spares courses n below = on (client_of t.host n) refl
  where
    known : (h : History) → client_of t.host n ≡ Some h → (own n turns ≡ []) ⊎ IsKnownNow t.passes h.guard → (own n turns ≡ []) ⊎ MayTurn t n
    known h found (inl none) = inl none
    known h found (inr is) = inr (subst (λ (o : Option History). IsClient o (λ x. IsKnownNow t.passes x.guard)) (sym found) is)

    on : (o : Option History) → client_of t.host n ≡ o → (own n turns ≡ []) ⊎ MayTurn t n
    on None gone = inl (spares.none n below gone)
    on (Some h) found = elim (is_out n ready (length ready)) [
      | inr out ↦ inl (spares.only n below out)
      | inl (i, small, at) ↦
          let met : IsCalm t.passes h = of_if (IsCalm t.passes) (client_of t.host (slice_index ready i)) h (settled i small) (ap (client_of t.host) at ∙ found) in
          let seen = sees h (client_of host n) (ClientCourse (own n turns)) (subst (λ (o : Option History). BothClients o (client_of host n) (ClientCourse (own n turns))) found (courses n)) in
          known h found (turns_known t.passes (own n turns) h seen.0 seen.1 met)
    ]
