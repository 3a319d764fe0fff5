-- What a host keeps, and what of it is true.
use Rattle.mvd_host.specs.declared.host.Host.TheInside.{Inside}
use Rattle.mvd_host.specs.Hosts.{AreKept, HostValue}

abbrev pub value_of : Inside → HostValue
value_of h = record { clients = h.clients.entries; admitted = h.admitted }

abbrev pub IsKeptHost : Inside → Type 0
IsKeptHost h = AreKept h.clients.entries h.admitted
