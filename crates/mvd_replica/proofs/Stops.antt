-- What a stop leaves: the states before the call in hand, or those after it.
use Rattle.std.proofs.Common.{refl, subst, inl, arith}
use Rattle.sqlite.specs.Files.{HoldsDatabase}
use Rattle.sqlite.specs.State.{State, Survives}
use Rattle.sqlite.specs.Tree.{Trees}
use Rattle.mvd_replica.specs.Stops.{HoldsWhatIsLeft}

-- nothing was called
pub survives_self : (s : State) (P : Trees → Type 0) → Survives s s P
survives_self s P = record {
  clean = omega arith;
  shield = λ it. it;
  counts = omega arith;
  limit = refl;
  closes = λ _ is_open. inl is_open;
  crash = λ _ trees may. inl may;
}

-- what a stop left is what the next open finds
pub held_in_file : HoldsWhatIsLeft
held_in_file image site states trees left held = record {
  db = left.0;
  held = record { trees = subst (λ t. ∥ HoldsDatabase image t ∥₁) left.3 held; sound = left.1 };
  holds = left.2;
}
