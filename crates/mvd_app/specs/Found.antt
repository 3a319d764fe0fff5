-- What the system tells of the file of a site, and of the log beside it.
use Rattle.std.specs.Prelude.{Bool, true, false, ◌&&◌, ℕ, nat_le, Option, Some, None}
use Rattle.mvd_app.specs.declared.opening.Told.{Told}

-- it tells that the file is missing
abbrev pub is_missing : Option Bool → Bool
is_missing (Some false) = true
is_missing (Some true) = false
is_missing None = false

-- it tells that a log has at least a page: with 32 bytes for its head, 24 for that of the page, and 512 for the page
abbrev pub has_page : Option ℕ → Bool
has_page (Some bytes) = nat_le 568 bytes
has_page None = false

-- the file was lost: it is missing, and its log has a page
abbrev pub is_lost : Told → Bool
is_lost told = is_missing told.is_there && has_page told.log
