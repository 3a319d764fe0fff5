-- What turns weigh.
use Rattle.std.proofs.Common.{◌≡◌, ℕ, ◌≤◌, List, [], ◌∷◌, ◌++◌, map, Result, Ok, ap, sym, subst, arith}
use Rattle.mvd_dots.specs.declared.refusals.Refusal.{Refusal}
use Rattle.mvd_replica.specs.Turns.{Turn}
use Rattle.mvd_site.specs.Held.{States}
use Rattle.mvd_wire.specs.declared.request.Request.{Request}
use Rattle.mvd_host.specs.Weights.{AreHeavy, AreHeavyTurns, weights_asked, weights_in}
use Rattle.mvd_host.proofs.RoundLemmas.{asks, requested}

-- the turns of requests weigh what these do
no_turn : (r : ℕ × Request) (rs : List (ℕ × Request)) → ◌≡◌ {A = List (ℕ × Result Request Refusal)} [] ((r.0, Ok r.1) ∷ requested rs) → ⊥
no_turn r rs is = absurd cc

weights_turns : (states : States) (ts : List (ℕ × Turn)) (rs : List (ℕ × Request)) → asks ts ≡ requested rs → weights_in states (map (λ r. r.1) rs) ≤ weights_asked states ts
weights_turns states ts [] is = omega arith
weights_turns states [] (r ∷ rs) is = absurd (no_turn r rs is)
weights_turns states (t ∷ ts) (r ∷ rs) is =
    let all : ◌≡◌ {A = List (ℕ × Result Request Refusal)} ((t.0, t.1.asked) ∷ asks ts) ((r.0, Ok r.1) ∷ requested rs) = is in
    let pair : ◌≡◌ {A = ℕ × Result Request Refusal} (t.0, t.1.asked) (r.0, Ok r.1) = cc in
    let head : t.1.asked ≡ Ok r.1 = ap (λ (p : ℕ × Result Request Refusal). p.1) pair in
    let tail : asks ts ≡ requested rs = cc in
    let rest = weights_turns states ts rs tail in
    subst (λ a. weights_in states (map (λ r. r.1) (r ∷ rs)) ≤ weights_asked states ((t.0, record { asked = a; reply = t.1.reply }) ∷ ts)) (sym head) (omega (arith, rest))

turns_append : (states : States) (xs ys : List (ℕ × Turn)) → weights_asked states xs ≤ weights_asked states (xs ++ ys)
turns_append states [] ys = omega arith
turns_append states (x ∷ xs) ys = let rest = turns_append states xs ys in omega (arith, rest)

pub heavy_turns : (states : States) (ts others : List (ℕ × Turn)) (rs : List (ℕ × Request)) → asks ts ≡ requested rs → AreHeavy states rs → AreHeavyTurns states (ts ++ others)
heavy_turns states ts others rs is heavy =
    let some = weights_turns states ts rs is in
    let all = turns_append states ts others in
    omega (arith, some, all, heavy)
