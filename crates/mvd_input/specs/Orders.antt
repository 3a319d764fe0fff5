-- What a command line may ask for.
use Rattle.std.specs.Prelude.{ℕ, Bool, Option, Some, None, ◌≡◌, ◌<◌, ◌≤◌, ◌^◌, ◌⊎◌, ◌↔◌, ◌≢◌, ◌||◌, ⊤, true, false, List, [], ◌∷◌, IsSomeAnd, Result, Ok, Err, IsTrue, codes, find, option_and_then, option_map}
use Rattle.std.specs.Net.Grammar.{IsIpText}
use Rattle.std.specs.Net.Socket.{socket_ip, socket_port}
use Rattle.std.specs.Borrow.{Bor}
use Rattle.std.specs.Option.{ForSome, option_map_or}
use Rattle.std.specs.Str.{bytes_eq}
use Rattle.std.specs.declared.net.ip_addr.IpAddr.{IpAddr}
use Rattle.std.specs.declared.net.socket_addr.SocketAddr.{SocketAddr}
use Rattle.clap.specs.Walk.{Text}
use Rattle.clap.specs.Words.{Row, first_of, found_of, kind_of, rows_of, subcommand_of, takes}
use Rattle.clap.specs.declared.error.Error.{Error}
use Rattle.clap.specs.declared.parser.matches.ArgMatches.{ArgMatches}
use Rattle.clap.specs.declared.parser.matches.ValueSource.{ValueSource}
use Rattle.clap.specs.declared.parser.matches.ValueSource.TheVariants.{DefaultValue, CommandLine}
use Rattle.clap.specs.declared.error.kind.ErrorKind.TheVariants.{OutOfMemory}
use Rattle.mvd_dots.specs.declared.refusals.Refusal.TheVariants.{Memory}
use Rattle.mvd_input.specs.Addresses.{IsAddress, IsAddressList}
use Rattle.mvd_input.specs.Lines.{IsNoNumber, IsNumber}
use Rattle.mvd_input.specs.Names.{is_name_list}
use Rattle.mvd_input.specs.Words.{program}
use Rattle.mvd_input.specs.declared.order.Order.{Order}
use Rattle.mvd_input.specs.declared.order.Order.TheVariants.{Sim, Loop, Serve, Shell, RemoteShell, Sync, Meet}
use Rattle.mvd_input.specs.declared.order.OrderFault.{OrderFault}
use Rattle.mvd_input.specs.declared.order.OrderFault.TheVariants.{Words, Range, Stopped}
use Rattle.mvd_input.specs.declared.order.Setup.{Setup}
use Rattle.mvd_input.specs.declared.options.Named.{Named}
use Rattle.mvd_input.specs.declared.options.Peers.{Peers}
use Rattle.mvd_input.specs.declared.options.Unread.{Unread}
use Rattle.mvd_input.specs.declared.options.Unread.TheVariants as unread

-- a site is 1..=2^32 - 1, and it holds 1..=1,000,000 keys at the most
abbrev pub IsSetUp : Setup → Type 0
IsSetUp setup = (0 < setup.site) × (setup.site < 2 ^ 32) × (0 < setup.max_keys) × (setup.max_keys ≤ 1000000)

-- a port is 1..=65,535, and 1..=1,000 connections are served where they are counted
abbrev pub HasPort : SocketAddr → Type 0
HasPort address = (1 ≤ socket_port address) × (socket_port address ≤ 65535)

abbrev pub AreConnections : Option ℕ → Type 0
AreConnections conns = ForSome conns (λ n. (1 ≤ n) × (n ≤ 1000))

-- 1..=10,000 clients are served at once
abbrev pub AreClients : ℕ → Type 0
AreClients clients = (1 ≤ clients) × (clients ≤ 10000)

-- a second port is 1..=65,535 where there is one
abbrev pub IsPort : Option ℕ → Type 0
IsPort port = ForSome port (λ n. (1 ≤ n) × (n ≤ 65535))

-- no byte need move for 1..=86,400 seconds
abbrev pub IsIdleTime : ℕ → Type 0
IsIdleTime seconds = (1 ≤ seconds) × (seconds ≤ 86400)

-- a server meets 1..=16 others by itself, and each again after 1..=3,600 seconds
abbrev pub ArePeers : Peers → Type 0
ArePeers peers = IsAddressList peers.list.now × (1 ≤ peers.every) × (peers.every ≤ 3600)

-- names, and origins, are lists where they are told
abbrev pub are_names : Option (List ℕ) → Bool
are_names None = true
are_names (Some list) = is_name_list list

abbrev pub named_hosts : Named → Option (List ℕ)
named_hosts named = option_map (λ text. text.now) named.hosts

abbrev pub named_origins : Named → Option (List ℕ)
named_origins named = option_map (λ text. text.now) named.origins

abbrev pub AreNamed : Named → Type 0
AreNamed named = IsTrue (are_names (named_hosts named)) × IsTrue (are_names (named_origins named))

-- a site may be set up with the numbers of an order
abbrev pub IsInRange : Order → Type 0
IsInRange Sim = ⊤
IsInRange (Loop setup) = IsSetUp setup
IsInRange (Serve _ setup address conns idle http clients peers named _ _) = IsSetUp setup × HasPort address
    × AreConnections conns × IsIdleTime idle × IsPort http × AreClients clients × ForSome peers ArePeers
    × AreNamed named
IsInRange (Shell _ setup) = IsSetUp setup
IsInRange (RemoteShell address idle _) = HasPort address × IsIdleTime idle
IsInRange (Sync _ setup address idle _ _) = IsSetUp setup × HasPort address × IsIdleTime idle
IsInRange (Meet address with idle _ _) = HasPort address × HasPort with × IsIdleTime idle

-- ---- the order that the words are

-- the options of a command, with their values
abbrev pub options_of : ArgMatches → List Row
options_of matches = rows_of (found_of matches)

-- the option's value, which is its default where the words have none, spells this number
abbrev pub GivesNumber : List Row → List ℕ → ℕ → Type 0
GivesNumber rows option number = (text : List ℕ) × (first_of option rows ≡ Some text) × IsNumber number text

-- the option's number is 0 or too great
abbrev pub IsOutOfRange : List Row → List ℕ → ℕ → Type 0
IsOutOfRange rows option most = (number : ℕ) × GivesNumber rows option number × ((number ≡ 0) ⊎ (most < number))

-- the number of an option, or why there is none: the option is told, and the most that it may be
abbrev pub ReadsNumber : List Row → List ℕ → ℕ → Result (Option ℕ) Unread → Type 0
ReadsNumber rows option most (Ok None) = first_of option rows ≡ None
ReadsNumber rows option most (Ok (Some number)) = GivesNumber rows option number × (1 ≤ number) × (number ≤ most)
ReadsNumber rows option most (Err (unread.Range told bound)) = (told.now ≡ option) × (bound ≡ most)
    × IsOutOfRange rows option most
ReadsNumber rows option most (Err (unread.Text _)) = (text : List ℕ) × (first_of option rows ≡ Some text)
    × IsNoNumber text

-- the same of a number that the command cannot do without
abbrev pub ReadsGiven : List Row → List ℕ → ℕ → Result ℕ Unread → Type 0
ReadsGiven rows option most (Ok number) = GivesNumber rows option number × (1 ≤ number) × (number ≤ most)
ReadsGiven rows option most (Err (unread.Range told bound)) = (told.now ≡ option) × (bound ≡ most)
    × IsOutOfRange rows option most
ReadsGiven rows option most (Err (unread.Text _)) = (number : ℕ) → GivesNumber rows option number → ⊥

-- the greatest number that each option may have
abbrev pub mosts : List (List ℕ × ℕ)
mosts = (codes "site", 4294967295) ∷ (codes "max-keys", 1000000) ∷ (codes "port", 65535) ∷ (codes "conns", 1000)
    ∷ (codes "idle", 86400) ∷ (codes "http", 65535) ∷ (codes "every", 3600) ∷ (codes "clients", 10000) ∷ []

abbrev pub bound_of : List ℕ → Option ℕ
bound_of option = option_map (λ row. row.1) (find (λ row. bytes_eq row.0 option) mosts)

-- the number of this option is out of its range, whose greatest number is this
abbrev pub IsBadNumber : List Row → List ℕ → ℕ → Type 0
IsBadNumber rows option most = (bound_of option ≡ Some most) × IsOutOfRange rows option most

-- why the values of options mean nothing of a kind: the number of the option that is told is out of the range that is
-- told, or nothing of the kind has these values
abbrev pub IsUnreadValue : {X : Type 0} → List Row → (List Row → X → Type 0) → Unread → Type 0
IsUnreadValue rows Means (unread.Range option most) = IsBadNumber rows option.now most
IsUnreadValue {X} rows Means (unread.Text _) = (x : X) → Means rows x → ⊥

-- a site is set up with the values of its options
pub record IsSetupOf (rows : List Row) (setup : Setup) : Type 0 where
  pub site : GivesNumber rows (codes "site") setup.site
  pub defs : first_of (codes "defs") rows ≡ option_map (λ file. file.now) setup.defs
  pub max_keys : GivesNumber rows (codes "max-keys") setup.max_keys

-- the file of a database
abbrev pub IsDbOf : List Row → Bor (List ℕ) → Type 0
IsDbOf rows db = first_of (codes "db") rows ≡ Some db.now

-- the IP address that is spelled
abbrev pub IsIpOf : List Row → IpAddr → Type 0
IsIpOf rows ip = (text : List ℕ) × (first_of (codes "address") rows ≡ Some text) × IsIpText text ip

-- an address has both
pub record IsAddressOfOrder (rows : List Row) (address : SocketAddr) : Type 0 where
  pub port : GivesNumber rows (codes "port") (socket_port address)
  pub ip : IsIpOf rows (socket_ip address)

-- how many connections are served, where it is told, and how many seconds no byte need move
abbrev pub IsConns : List Row → Option ℕ → Type 0
IsConns rows None = first_of (codes "conns") rows ≡ None
IsConns rows (Some number) = GivesNumber rows (codes "conns") number

-- the port at which HTTP is served, where it is told
abbrev pub IsHttp : List Row → Option ℕ → Type 0
IsHttp rows None = first_of (codes "http") rows ≡ None
IsHttp rows (Some number) = GivesNumber rows (codes "http") number

-- no port is both the one for frames and the one for HTTP
abbrev pub IsOtherPort : SocketAddr → Option ℕ → Type 0
IsOtherPort address http = http ≢ Some (socket_port address)

abbrev pub IsSeconds : List Row → ℕ → Type 0
IsSeconds rows seconds = GivesNumber rows (codes "idle") seconds

-- the file with the token, where it is told
abbrev pub IsTokenFile : List Row → Option (Bor (List ℕ)) → Type 0
IsTokenFile rows file = first_of (codes "token-file") rows ≡ option_map (λ text. text.now) file

-- how many clients are served at once
abbrev pub IsClients : List Row → ℕ → Type 0
IsClients rows clients = GivesNumber rows (codes "clients") clients

-- an option is among the words, and has not its default
abbrev pub is_word : ValueSource → Bool
is_word DefaultValue = false
is_word CommandLine = true

abbrev pub source_in : List Row → List ℕ → Option ValueSource
source_in rows option = option_and_then (λ r. r.source) (find (λ r. bytes_eq r.id option) rows)

abbrev pub is_given_option : List Row → List ℕ → Bool
is_given_option rows option = option_map_or is_word (source_in rows option) false

-- the words of a shell name a server or what is shown to it, or say how a site is set up
abbrev pub names_server : List Row → Bool
names_server rows =
    is_given_option rows (codes "port")
    || (is_given_option rows (codes "address") || (is_given_option rows (codes "idle")
    || is_given_option rows (codes "token-file")))

abbrev pub sets_up : List Row → Bool
sets_up rows =
    is_given_option rows (codes "site")
    || (is_given_option rows (codes "defs") || is_given_option rows (codes "max-keys"))

-- the words name a database, or say how a site is set up
abbrev pub has_file : List Row → Bool
has_file rows = is_given_option rows (codes "db") || sets_up rows

-- the server that the one at the port meets: one that is told by its port alone is at the IP address of that one
abbrev pub IsWithOf : SocketAddr → List Row → SocketAddr → Type 0
IsWithOf address rows with = (text : List ℕ) × (first_of (codes "with") rows ≡ Some text)
    × IsAddress (socket_ip address) text with

-- the servers that are met, where they are told: only then is it told how often
abbrev pub IsPeersOf : List Row → Option Peers → Type 0
IsPeersOf rows None = (first_of (codes "peer") rows ≡ None) × (is_given_option rows (codes "every") ≡ false)
IsPeersOf rows (Some peers) = (first_of (codes "peer") rows ≡ Some peers.list.now) × IsAddressList peers.list.now
    × GivesNumber rows (codes "every") peers.every

-- the names of a server, and the origins whose pages may ask it, where they are told: each is a list
abbrev pub IsNamedOf : List Row → Named → Type 0
IsNamedOf rows named = (first_of (codes "host") rows ≡ named_hosts named)
    × (first_of (codes "origin") rows ≡ named_origins named) × AreNamed named

-- it is told how far a session is
abbrev pub IsVerbose : List Row → Bool → Type 0
IsVerbose rows verbose = IsTrue verbose ↔ (first_of (codes "verbose") rows ≡ Some (codes "true"))

-- what ends well is not told
abbrev pub IsQuiet : List Row → Bool → Type 0
IsQuiet rows quiet = IsTrue quiet ↔ (first_of (codes "quiet") rows ≡ Some (codes "true"))

-- the order that a command with the values of its options is
abbrev pub IsOrderOf : List ℕ → List Row → Order → Type 0
IsOrderOf name rows Sim = name ≡ codes "sim"
IsOrderOf name rows (Loop setup) = (name ≡ codes "loop") × IsSetupOf rows setup
IsOrderOf name rows (Serve db setup address conns idle http clients peers named quiet token_file) =
    (name ≡ codes "serve")
    × IsDbOf rows db × IsSetupOf rows setup × IsAddressOfOrder rows address × IsConns rows conns × IsSeconds rows idle
    × IsHttp rows http × IsClients rows clients × IsPeersOf rows peers × IsNamedOf rows named
    × IsQuiet rows quiet × IsTokenFile rows token_file × IsOtherPort address http
IsOrderOf name rows (Shell db setup) = (name ≡ codes "shell") × IsDbOf rows db × IsSetupOf rows setup
    × (names_server rows ≡ false)
IsOrderOf name rows (RemoteShell address idle token_file) = (name ≡ codes "shell") × (first_of (codes "db") rows ≡ None)
    × IsAddressOfOrder rows address × IsSeconds rows idle × (sets_up rows ≡ false) × IsTokenFile rows token_file
IsOrderOf name rows (Sync db setup address idle verbose token_file) = (name ≡ codes "sync") × IsDbOf rows db
    × IsSetupOf rows setup × IsAddressOfOrder rows address × IsSeconds rows idle × IsVerbose rows verbose
    × (first_of (codes "with") rows ≡ None) × IsTokenFile rows token_file
IsOrderOf name rows (Meet address with idle verbose token_file) = (name ≡ codes "sync")
    × IsWithOf address rows with × (has_file rows ≡ false) × IsAddressOfOrder rows address
    × IsSeconds rows idle × IsVerbose rows verbose × IsTokenFile rows token_file

-- the order in its ranges, or why there is none
abbrev pub ReadsOptions : List ℕ → List Row → Result Order Unread → Type 0
ReadsOptions name rows (Ok order) = IsOrderOf name rows order × IsInRange order
ReadsOptions name rows (Err why) = IsUnreadValue rows (IsOrderOf name) why

-- the same where memory may be refused
abbrev pub ReadsOrder : List ℕ → List Row → Result Order OrderFault → Type 0
ReadsOrder name rows (Ok order) = IsOrderOf name rows order × IsInRange order
ReadsOrder name rows (Err (Range option most)) = IsBadNumber rows option.now most
ReadsOrder name rows (Err (Words _)) = (order : Order) → IsOrderOf name rows order → ⊥
ReadsOrder name rows (Err (Stopped refusal)) = refusal ≡ Memory

-- the words name the command of this order, and its options have the values of the order
abbrev pub AskFor : List Text → Order → Type 0
AskFor words order = IsSomeAnd (subcommand_of program words) (λ command. IsOrderOf command.0 command.1 order)

-- the order that the words ask for, in its ranges, or why there is none. `Words` comes of no words that `clap` takes
-- and that ask for an order
abbrev pub ReadsWords : List Text → Result Order OrderFault → Type 0
ReadsWords words (Ok order) = AskFor words order × IsInRange order
ReadsWords words (Err (Range option most)) = IsSomeAnd (subcommand_of program words)
    (λ command. IsBadNumber command.1 option.now most)
ReadsWords words (Err (Words _)) = takes program words ≡ true → (order : Order) → AskFor words order → ⊥
ReadsWords words (Err (Stopped refusal)) = refusal ≡ Memory

-- what an error of `clap` becomes
abbrev pub IsFaultBy : Error → OrderFault → Type 0
IsFaultBy error (Range _ _) = ⊥
IsFaultBy error (Words told) = (told ≡ error) × (kind_of error ≢ OutOfMemory)
IsFaultBy error (Stopped refusal) = (refusal ≡ Memory) × (kind_of error ≡ OutOfMemory)
