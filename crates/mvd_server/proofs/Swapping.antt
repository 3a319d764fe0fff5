-- A place is taken.
use Rattle.std.proofs.Common.{◌≡◌, ◌≤◌, ◌+◌, ◌∙◌, ℕ, Bool, true, false, ap, arith, refl, sym}
use Rattle.mvd_server.specs.Peerings.{SwapsPlaces, count_if}
use Rattle.mvd_server.specs.declared.own_session.OwnSession.{OwnSession}

pub takes_one : (had : Bool) (free free' : ℕ) → had ≡ false → free' + 1 ≤ free → SwapsPlaces had free true free'
takes_one had free free' is fewer = let none : count_if had ≡ 0 = ap count_if is in omega (arith, none, fewer)

-- a session that has as much of a place as before is as before
pub same_session : (old new : OwnSession) → new ≡ record old { runs = new.runs } → new.runs ≡ old.runs → new ≡ old
same_session old new is same = is ∙ ap (λ (r : Bool). record old { runs = r }) same

-- one that had none, and for which none is free, has none
pub none_free : (had has : Bool) (free free' : ℕ) → SwapsPlaces had free has free' → had ≡ false → free ≡ 0 → has ≡ true → ⊥
none_free had has free free' swaps none full got =
    let one : count_if has ≡ 1 = ap count_if got in
    let zero : count_if had ≡ 0 = ap count_if none in
    omega (arith, one, zero, swaps)

stays_without : (had has : Bool) (free free' : ℕ) → SwapsPlaces had free has free' → had ≡ false → free ≡ 0 → has ≡ had
stays_without had false free free' swaps none full = sym none
stays_without had true free free' swaps none full = absurd (none_free had true free free' swaps none full refl)

-- it stays as it is
pub same_without : (old new : OwnSession) (free free' : ℕ) → SwapsPlaces old.runs free new.runs free' → new ≡ record old { runs = new.runs }
    → old.runs ≡ false → free ≡ 0 → new ≡ old
same_without old new free free' swaps is none full = same_session old new is (stays_without old.runs new.runs free free' swaps none full)
