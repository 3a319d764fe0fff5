-- What this server's own sessions are told by its site.
use Rattle.std.specs.Prelude.{◌≡◌, ◌⊎◌, ◌<◌, ◌++◌, ◌==◌, ℕ, nat_le, Bool, true, false, List, [], ◌∷◌, get_or, length, set}
use Rattle.std.specs.Prelude.{Option, None, Some, ⊤}
use Rattle.std.specs.List.{All, filter}
use Rattle.mvd_meet.specs.Nears.{NearHears, near_has_all}
use Rattle.mvd_server.specs.Talking.{first_own}
use Rattle.mvd_server.specs.declared.own_session.OwnSession.{OwnSession}
use Rattle.mvd_server.specs.declared.peering.Peering.{Peering}
use Rattle.mvd_server.specs.declared.talks.Talks.{Talks}
use Rattle.mvd_wire.specs.declared.reply.Reply.{Reply}

-- ---- replies that were taken away

-- of replies, those to sessions
abbrev pub told_own : List (ℕ × Reply) → List (ℕ × Reply)
told_own replies = filter (λ told. nat_le first_own told.0) replies

-- THOSE TO SESSIONS ARE KEPT for them, in order, unless one is lost, for want of memory
pub record KeepsReplies (old new : Talks) : Type 0 where
  pub more : List (ℕ × Reply)
  pub taken : new.hand.taken ≡ old.hand.taken ++ more
  pub kept : new.heard.has_lost ≡ false → new.heard.told.items ≡ old.heard.told.items ++ told_own more
  pub lost : old.heard.has_lost ≡ true → new.heard.has_lost ≡ true

-- ---- which session is told

-- a peer's session has this number
abbrev pub has_number : ℕ → Option OwnSession → Bool
has_number n None = false
has_number n (Some session) = session.client == n

abbrev pub IsPlaceOf : ℕ → List Peering → ℕ → Type 0
IsPlaceOf n peers place =
    (place < length peers) × ((d : Peering) → has_number n (get_or peers place d).session ≡ true)

abbrev pub HaveNone : ℕ → List Peering → Type 0
HaveNone n peers = All (λ peering. has_number n peering.session ≡ false) peers

-- A SESSION HEARS A REPLY, and is else as it was; or it is over
abbrev pub SessionHears : Reply → Option OwnSession → Option OwnSession → Type 0
SessionHears reply old new =
    (new ≡ None) ⊎ ((a : OwnSession) × (b : OwnSession) × (old ≡ Some a) × (new ≡ Some b)
    × NearHears reply a.near b.near × (b ≡ record a { near = b.near }))

-- so does the one with the number that is told. Where none has it, nobody hears it
abbrev pub HearsAs : ℕ → Reply → List Peering → List Peering → Type 0
HearsAs n reply old new =
    (HaveNone n old × (new ≡ old))
    ⊎ ((place : ℕ) × (d : Peering) × (p : Peering) × IsPlaceOf n old place × (new ≡ set old place p)
    × SessionHears reply (get_or old place d).session p.session)

-- ALL REPLIES ARE HEARD, one after the other
abbrev pub HearsAll : List (ℕ × Reply) → List Peering → List Peering → Type 0
HearsAll [] old new = new ≡ old
HearsAll (told ∷ rest) old new = (mid : List Peering) × HearsAs told.0 told.1 old mid × HearsAll rest mid new

-- A SESSION THAT WAITS FOR A REPLY which may be lost is over: no later one is heard in its place
abbrev pub EndsIfLost : Bool → Option OwnSession → Option OwnSession → Type 0
EndsIfLost lost None new = ⊤
EndsIfLost lost (Some session) new = lost ≡ true → near_has_all session.near ≡ false → new ≡ None

abbrev pub HaveEnded : Bool → List Peering → List Peering → Type 0
HaveEnded lost old new = (k : ℕ) (d : Peering) → k < length new
    → EndsIfLost lost (get_or old k d).session (get_or new k d).session
