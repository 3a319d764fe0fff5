-- The hints that name a server.
use Rattle.std.specs.Prelude.{◌≡◌}
use Rattle.std.specs.declared.net.socket_addr.SocketAddr.{SocketAddr}
use Rattle.mvd_hint.specs.declared.hint.Hint.{Hint}
use Rattle.mvd_hint.specs.declared.hint.Hint.TheVariants as hint

-- the hint is about the server at this address
abbrev pub NamesServer : SocketAddr → Hint → Type 0
NamesServer address (hint.NoPeer named) = named ≡ address
NamesServer address (hint.Refused named) = named ≡ address
NamesServer address (hint.NotAdmitted named) = named ≡ address
NamesServer address (hint.Broken named) = named ≡ address
NamesServer address (hint.NoPlace named) = named ≡ address
NamesServer address _ = ⊥
