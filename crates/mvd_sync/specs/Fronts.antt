-- How many keys of a window are met at once: those before the first of which a side does not hold the state. A side
-- refuses a get with 20 where the states before it are as many bytes as it holds at once.
use Rattle.std.specs.Prelude.{◌≡◌, ◌≤◌, ◌<◌, ◌+◌, ◌||◌, ℕ, Bool, true, false, cond, List, [], ◌∷◌, length, take}
use Rattle.std.specs.Prelude.{Option, Some, None, Result, Ok, Err}
use Rattle.mvd_dots.specs.declared.refusals.Refusal.{Refusal}
use Rattle.mvd_dots.specs.declared.refusals.Refusal.TheVariants.{Memory}
use Rattle.mvd_keys.specs.State.{State}
use Rattle.mvd_peer.specs.declared.window.Told.{Told}
use Rattle.mvd_sync.specs.Meetings.{first_if, held_keys, rest_if}
use Rattle.mvd_sync.specs.Tellings.{states_told}
use Rattle.mvd_sync.specs.declared.cursor.Entry.{Entry}
use Rattle.mvd_sync.specs.declared.report.Side.{Side}
use Rattle.mvd_sync.specs.declared.telling.Answers.{Answers}
use Rattle.mvd_sync.specs.declared.telling.Share.{Share}
use Rattle.mvd_sync.specs.declared.telling.Shares.{Shares}

-- an answer to a get
abbrev pub StateAnswer : Type 0
StateAnswer = Result State Refusal

-- the state is not held: its get was refused with 20
abbrev pub is_lack : Option StateAnswer → Bool
is_lack (Some (Err Memory)) = true
is_lack answer = false

-- whether the first of the answers is so, if one is wanted
abbrev pub lacks : Bool → List StateAnswer → Bool
lacks is_wanted answers = is_lack (first_if is_wanted answers)

-- how many keys come before the first of which a side does not hold the state, where the answers of each side are those
-- of the keys that it holds, in their order
abbrev pub front : List Entry → (mine theirs : List StateAnswer) → ℕ
front [] mine theirs = 0
front (e ∷ es) mine theirs =
    cond (lacks e.mine mine || lacks e.theirs theirs) 0 (1 + front es (rest_if e.mine mine) (rest_if e.theirs theirs))

-- a side told as many answers as were wanted of it
pub record IsWhole (told : Option Told) (share : Share) (answers : List StateAnswer) : Type 0 where
  pub is : states_told told ≡ Ok answers
  pub counted : length answers ≡ share.asked
  pub all : share.asked ≡ share.wanted

-- A WINDOW IS CUT behind so many keys: both sides told answers to all gets, and of the next key one does not hold the
-- state
pub record IsCut (entries : List Entry) (shares : Shares) (answers : Answers) (count : ℕ) : Type 0 where
  pub mine : List StateAnswer
  pub theirs : List StateAnswer
  pub from_local : IsWhole answers.mine shares.local mine
  pub from_peer : IsWhole answers.theirs shares.peer theirs
  pub is : count ≡ front entries mine theirs
  pub some : 1 ≤ count
  pub less : count < length entries

-- the answers to the gets of the first keys
abbrev pub told_first : ℕ → Result (List StateAnswer) Refusal → Result (List StateAnswer) Refusal
told_first count (Ok answers) = Ok (take count answers)
told_first count (Err refusal) = Err refusal

-- as many as are wanted of a side of these keys
abbrev pub share_in : Side → List Entry → Share
share_in side entries =
    record { asked = length (held_keys side entries); wanted = length (held_keys side entries) }

abbrev pub front_told : Side → List Entry → Option Told → Result (List StateAnswer) Refusal
front_told side entries told = told_first (length (held_keys side entries)) (states_told told)
