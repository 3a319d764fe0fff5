-- What became of a file while it was open, and of the log beside it.
use Rattle.std.specs.Prelude.{◌≡◌, ◌==◌, ◌&&◌, ◌||◌, not, nat_lt, if◌then◌else◌, Bool, true, false, IsSome, Option, Some, None}
use Rattle.mvd_hint.specs.declared.harm.Change.{Change}
use Rattle.mvd_hint.specs.declared.harm.Change.TheVariants.{Removed, Replaced, Cut}
use Rattle.mvd_hint.specs.declared.harm.Found.{Found}
use Rattle.mvd_hint.specs.declared.harm.Found.TheVariants.{Untold, Missing, There}
use Rattle.mvd_hint.specs.declared.harm.Harm.{Harm}
use Rattle.mvd_hint.specs.declared.harm.Harm.TheVariants as harm
use Rattle.mvd_hint.specs.declared.harm.Mark.{Mark}
use Rattle.mvd_hint.specs.declared.watch.Marks.{Marks}

-- the same file
abbrev pub is_same_file : Mark → Mark → Bool
is_same_file mark now = (now.device == mark.device) && (now.number == mark.number)

-- it is shorter, or begins with zeros now
abbrev pub is_cut : Mark → Mark → Bool
is_cut mark now = nat_lt now.length mark.length || (now.is_blank && not mark.is_blank)

-- what became of a file with a mark, by what its name leads to now
abbrev pub change_of : Mark → Found → Option Change
change_of mark Untold = None
change_of mark Missing = Some Removed
change_of mark (There now) =
    if not (is_same_file mark now) then Some Replaced else (if is_cut mark now then Some Cut else None)

abbrev pub harm_of_log : Option Change → Option Harm
harm_of_log None = None
harm_of_log (Some Removed) = Some harm.LogRemoved
harm_of_log (Some Replaced) = Some harm.LogReplaced
harm_of_log (Some Cut) = Some harm.LogCut

-- the harm to a site, by what became of its file and of its log: that of the file goes first
abbrev pub harm_of : Option Change → Option Change → Option Harm
harm_of None log = harm_of_log log
harm_of (Some Removed) log = Some harm.Removed
harm_of (Some Replaced) log = Some harm.Replaced
harm_of (Some Cut) log = Some harm.Cut

-- the file is not closed then
abbrev pub bars_closing : Harm → Bool
bars_closing harm.Removed = true
bars_closing harm.Cut = true
bars_closing harm.LogCut = true
bars_closing _ = false

-- ---- looks

-- what became of it since it had a mark, if it has one
abbrev pub change_if : Option Mark → Found → Option Change
change_if None found = None
change_if (Some mark) found = change_of mark found

-- its mark after a look
abbrev pub mark_then : Option Mark → Found → Option Mark
mark_then (Some mark) (There now) = Some now
mark_then (Some mark) _ = Some mark
mark_then None found = None

-- By what the system tells of a file and of its log this harm came to them. The marks stay where there is some, so that
-- it is found again; else they are those of now
pub record Looks (file log : Found) (old new : Marks) (harm : Option Harm) : Type 0 where
  pub is : harm ≡ harm_of (change_if old.file file) (change_if old.log log)
  pub stay : IsSome harm → new ≡ old
  pub move : harm ≡ None → new ≡ record { file = mark_then old.file file; log = mark_then old.log log }

-- so it is by what the system told of them
abbrev pub FindsHarm : Marks → Marks → Option Harm → Type 0
FindsHarm old new harm = (file log : Found) × Looks file log old new harm
