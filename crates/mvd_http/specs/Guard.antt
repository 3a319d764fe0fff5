-- Which hosts a request may name, and of which pages it may come (RFC 6454, the origin of a page): others are refused,
-- against pages that lead a browser here under a name of their own.
use Rattle.std.specs.Prelude.{◌==◌, ◌&&◌, ◌||◌, ℕ, Bool, false, not, nat_lt, if◌then◌else◌, List, [], ◌∷◌, codes, length, Option, Some, None, string_bytes}
use Rattle.std.specs.Char.{is_ascii_digit}
use Rattle.std.specs.List.{list_all, slice_split}
use Rattle.std.specs.Str.{bytes_eq}
use Rattle.mvd_http.specs.Paths.{text_before, without}
use Rattle.mvd_http.specs.declared.guard.Names.{Names}
use Rattle.mvd_http.specs.declared.http_fault.Fault.{Fault}
use Rattle.mvd_http.specs.declared.http_fault.Fault.TheVariants.{ForeignHost, ForeignOrigin}

-- digits and points, as of an IPv4 address and of no name of a domain
abbrev pub is_number_byte : ℕ → Bool
is_number_byte b = is_ascii_digit b || (b == 46)

abbrev pub is_safe_name : List ℕ → Bool
is_safe_name name = bytes_eq name (codes "localhost") || (nat_lt 0 (length name) && list_all is_number_byte name)

-- in brackets stands an IPv6 address: the server has refused all else there
abbrev pub is_safe_host : List ℕ → Bool
is_safe_host [] = false
is_safe_host (b ∷ bs) = (b == 91) || is_safe_name (text_before 58 (b ∷ bs))

-- the name of a host without its port, where it is no address and not `localhost`
abbrev pub name_in : List ℕ → Option (List ℕ)
name_in host = if is_safe_host host then None else Some (text_before 58 host)

abbrev pub is_this : Option (List ℕ) → Option (List ℕ) → Bool
is_this (Some host) (Some other) = bytes_eq other host
is_this (Some host) None = false
is_this None other = false

-- the page of this origin is the host's own, over HTTP or behind a proxy that speaks TLS
abbrev pub is_own_origin : Option (List ℕ) → List ℕ → Bool
is_own_origin host origin =
    is_this host (without (codes "http://") origin) || is_this host (without (codes "https://") origin)

-- the origin, where it is not the host's own
abbrev pub origin_in : Option (List ℕ) → Option (List ℕ) → Option (List ℕ)
origin_in host None = None
origin_in host (Some origin) = if is_own_origin host origin then None else Some origin

-- the texts of a list with commas (44) between them
abbrev pub parts_of : List ℕ → List (List ℕ)
parts_of list = slice_split (λ b. b == 44) list

-- a text is one of them
abbrev pub has_part : List ℕ → List (List ℕ) → Bool
has_part item [] = false
has_part item (part ∷ parts) = bytes_eq part item || has_part item parts

abbrev pub has_item : List ℕ → List ℕ → Bool
has_item list item = nat_lt 0 (length item) && has_part item (parts_of list)

-- the names of a server beside its addresses and `localhost`, and the origins beside its own whose pages may ask it, each
-- a list with commas; or it may be asked by any name
pub record Named : Type 0 where
  pub hosts : List ℕ
  pub origins : List ℕ
  pub any_host : Bool

abbrev pub named_by : Names → Named
named_by names =
    record { hosts = string_bytes names.hosts; origins = string_bytes names.origins; any_host = names.any_host }

-- a name that is none of the server's, and an origin whose pages may not ask it
abbrev pub is_foreign_host : Named → Option (List ℕ) → Bool
is_foreign_host names None = false
is_foreign_host names (Some host) = not names.any_host && not (has_item names.hosts host)

abbrev pub is_foreign_origin : Named → Option (List ℕ) → Bool
is_foreign_origin names None = false
is_foreign_origin names (Some origin) = not (has_item names.origins origin)

-- why a request is not answered that names a host so, and comes of a page of such an origin
abbrev pub stranger_of : Named → Option (List ℕ) → Option (List ℕ) → Option Fault
stranger_of names host origin =
    if is_foreign_host names host then Some ForeignHost else (
    if is_foreign_origin names origin then Some ForeignOrigin else None)
