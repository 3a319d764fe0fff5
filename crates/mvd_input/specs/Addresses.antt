-- Lists of addresses, as a command line has them.
use Rattle.std.specs.Prelude.{◌≡◌, ℕ, ◌==◌, ◌≤◌, List, [], Option, Some, None, length}
use Rattle.std.specs.List.{AllByRecursion, slice_split}
use Rattle.std.specs.Net.Grammar.{IsSocketText}
use Rattle.std.specs.Net.Socket.{IsPlainSocket, socket_ip, socket_port}
use Rattle.std.specs.declared.net.ip_addr.IpAddr.{IpAddr}
use Rattle.std.specs.declared.net.socket_addr.SocketAddr.{SocketAddr}
use Rattle.mvd_input.specs.Lines.{IsNumber}
use Rattle.mvd_input.specs.declared.addresses.Item.{Item}
use Rattle.mvd_input.specs.declared.addresses.Item.TheVariants.{Port, At}

-- the texts between the commas (44) of a list
abbrev pub items_of : List ℕ → List (List ℕ)
items_of list = slice_split (λ byte. byte == 44) list

-- those of what stands behind a comma, if one does
abbrev pub items_left : Option (List ℕ) → List (List ℕ)
items_left None = []
items_left (Some list) = items_of list

-- an item spells a port of 1..=65,535, or an address with such a port
abbrev pub IsItem : List ℕ → Item → Type 0
IsItem text (Port port) = IsNumber port text × (1 ≤ port) × (port ≤ 65535)
IsItem text (At address) = IsSocketText text address × (1 ≤ socket_port address)

abbrev pub HasItem : List ℕ → Type 0
HasItem text = (item : Item) × IsItem text item

-- at most `most` texts, each of which is an item
abbrev pub AreItems : ℕ → List (List ℕ) → Type 0
AreItems most texts = (length texts ≤ most) × AllByRecursion HasItem texts

-- 1..=16 items
abbrev pub IsAddressList : List ℕ → Type 0
IsAddressList list = AreItems 16 (items_of list)

-- the address that an item is, at this IP address where it is a port alone
abbrev pub IsAddressOf : IpAddr → Item → SocketAddr → Type 0
IsAddressOf ip (Port port) address = (socket_ip address ≡ ip) × IsPlainSocket address port
IsAddressOf ip (At own) address = address ≡ own

-- the address that an item's text is
abbrev pub IsAddress : IpAddr → List ℕ → SocketAddr → Type 0
IsAddress ip text address = (item : Item) × IsItem text item × IsAddressOf ip item address
