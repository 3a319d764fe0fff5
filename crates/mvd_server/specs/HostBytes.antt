-- The bytes that come of a client of the host, and those that wait to leave to it.
use Rattle.std.specs.Prelude.{◌≡◌, ◌⊎◌, ℕ, List, [], Option, None, Some}
use Rattle.mvd_conn.specs.History.{History, closed, fed, released, sent}
use Rattle.mvd_conn.specs.declared.source.Source.TheVariants.{Failed}
use Rattle.mvd_dots.specs.declared.refusals.Refusal.TheVariants.{Memory}
use Rattle.mvd_host.specs.Hosts.{HostValue, altered, client_of}

-- the bytes that wait to leave to a client, if there is one
abbrev pub waits_in : Option History → List ℕ
waits_in None = []
waits_in (Some h) = h.waits

abbrev pub waits_of : HostValue → ℕ → List ℕ
waits_of host client = waits_in (client_of host client)

-- so many of them left
abbrev pub sent_of : HostValue → ℕ → ℕ → HostValue
sent_of host client count = altered host client (λ h. sent h count)

-- bytes came of a client; or there was no memory for them, and nothing more is taken of it
abbrev pub TakesBytes : HostValue → ℕ → List ℕ → HostValue → Type 0
TakesBytes old client bytes new =
    (new ≡ altered old client (λ h. fed h bytes))
    ⊎ (new ≡ altered (altered old client released) client (λ h. closed h (Failed Memory)))
