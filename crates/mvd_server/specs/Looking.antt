-- When a server looks at its file: a second after a commit.
use Rattle.std.specs.Prelude.{◌≡◌, ◌==◌, ◌+◌, ◌-◌, ◌^◌, ℕ, min, nat_le, not, if◌then◌else◌, Bool, true, false, is_some, Option, None, Some}
use Rattle.mvd_server.specs.declared.look.Look.{Look}

abbrev pub second_after : Bool → ℕ → Option ℕ
second_after true now = Some (min (now + 1000) (2 ^ 64 - 1))
second_after false now = None

-- the time that was set, or a second from now where something was committed
abbrev pub set_time : Option ℕ → Bool → ℕ → Option ℕ
set_time (Some due) committed now = Some due
set_time None committed now = second_after committed now

abbrev pub time_of_look : ℕ → ℕ → Look → Option ℕ
time_of_look now commits look = set_time look.due (not (commits == look.commits)) now

abbrev pub has_come : Option ℕ → ℕ → Bool
has_come None now = false
has_come (Some due) now = nat_le due now

-- it looks where that time has come, and waits for it else. A commit that comes before that is looked at later
pub record LooksAfter (now commits : ℕ) (old new : Look) (looks : Bool) : Type 0 where
  pub looks_if : looks ≡ has_come (time_of_look now commits old) now
  pub next : new.due ≡ if looks then None else time_of_look now commits old
  pub seen : new.commits ≡ if is_some old.due then old.commits else commits
