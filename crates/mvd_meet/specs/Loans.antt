-- A place that is lent.
use Rattle.std.specs.Prelude.{ℕ, ◌+◌, ◌-◌, ◌^◌, if◌then◌else◌, max, min, nat_lt}
use Rattle.mvd_meet.specs.declared.loan.Loan.{Loan}

-- bytes moved: once these are 65,536 since the mark, it is set anew
abbrev pub moved_on : ℕ → ℕ → Loan → Loan
moved_on bytes now loan =
    if nat_lt (loan.moved + bytes) 65536 then record loan { moved = loan.moved + bytes }
    else record loan { mark = now; moved = 0 }

-- WHEN IT IS OVER: after two seconds, once a second is over since the mark; after five in any case
abbrev pub over_at : Loan → ℕ
over_at loan = min (min (max (loan.mark + 1000) (loan.since + 2000)) (loan.since + 5000)) (2 ^ 64 - 1)
