-- Records as their callers see them.
use Rattle.std.specs.Prelude.{ℕ, refl}
use Rattle.std.specs.Coded.{Coded, code_by, coded×, coded_ℕ}
use Rattle.sqlite.specs.Held.{Held, held_code, state}
use Rattle.sqlite.specs.State.{State}
use Rattle.sqlite_trees.specs.declared.store.Store.{Ghosts}

-- the version that they told when they were opened, or got since, and the connection that they stand in
pub record RecordsValue (S : Type 0) : Type 0 where
  pub version : ℕ
  pub conn : Held S

abbrev pub records_code : {S : Type 0} → Coded S → Coded (RecordsValue S)
records_code {S} store =
    code_by (ℕ × Held S) (coded× coded_ℕ (held_code store)) (λ r. (r.version, r.conn))
    (λ p. record { version = p.0; conn = p.1 }) (λ _. refl)

-- the same, with the connection as what it shows of its database: what was committed, what a crash leaves, and
-- whether the disk is clean and the store open
pub record Seen : Type 1 where
  pub version : ℕ
  pub store : State

abbrev pub seen : {S : Type 0} → Ghosts S → RecordsValue S → Seen
seen g r = record { version = r.version; store = state g r.conn }
