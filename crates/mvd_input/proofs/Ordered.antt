-- What the words ask for.
use Rattle.std.proofs.Common.{◌≡◌, ◌∙◌, ap, refl, sym, subst, ℕ, List, Bor, Option, Some, None, Result, Ok, Err, true, false, is_some, codes, find, option_and_then, option_map, IsSomeAnd, true≢false, true-eqb, nat_eq}
use Rattle.std.specs.Prelude.{Box}
use Rattle.std.specs.Box.{box_value}
use Rattle.std.specs.Option.{option_eq, option_map_or}
use Rattle.std.specs.Str.{bytes_eq}
use Rattle.std.proofs.lemmas.Slice.Eq.{bytes_eq-Decides}
use Rattle.std.proofs.lemmas.Fmt.{decimal_injective}
use Rattle.std.specs.Net.Socket.{socket_port}
use Rattle.std.specs.declared.net.socket_addr.SocketAddr.{SocketAddr}
use Rattle.clap.proofs.WalkLemmas.{find_row}
use Rattle.clap.specs.Facts.{Entry}
use Rattle.clap.specs.Walk.{Text, row_of}
use Rattle.clap.specs.Words.{HasMatchesOf, Row, app_of, first_of, has_subcommand, is_simple, kind_of, matched_of, rows_of, subcommand_name_of, subcommand_of, subcommand_rows, subcommand_rows_of, takes}
use Rattle.clap.specs.declared.builder.command.Command.{Command}
use Rattle.clap.specs.declared.error.Error.{Error}
use Rattle.clap.specs.declared.error.kind.ErrorKind.TheVariants.{OutOfMemory}
use Rattle.clap.specs.declared.parser.matches.ArgMatches.{ArgMatches}
use Rattle.clap.specs.declared.parser.matches.Found.{Found}
use Rattle.clap.specs.declared.parser.matches.MatchedArg.{MatchedArg}
use Rattle.clap.specs.declared.parser.matches.ValueSource.{ValueSource}
use Rattle.clap.specs.declared.parser.matches.SubCommand.{SubCommand}
use Rattle.clap.specs.declared.parser.matches.ArgMatches.TheViews.{out-ArgMatches, out-SubCommand}
use Rattle.mvd_input.specs.Orders.{AskFor, GivesNumber, IsAddressOfOrder, IsBadNumber, IsClients, IsDbOf, IsFaultBy, IsHttp, IsOrderOf, IsNamedOf, IsPeersOf, IsSeconds, IsSetupOf, IsUnreadValue, ReadsGiven, ReadsOrder, ReadsWords, has_file, is_given_option, is_word, bound_of, names_server, sets_up, source_in}
use Rattle.mvd_input.specs.Addresses.{HasItem, IsItem}
use Rattle.mvd_input.specs.Words.{program}
use Rattle.mvd_input.specs.declared.order.Order.{Order}
use Rattle.mvd_input.specs.declared.order.Order.TheVariants.{Sim, Loop, Serve, Shell, RemoteShell, Sync, Meet}
use Rattle.mvd_input.specs.declared.options.Unread.{Unread}
use Rattle.mvd_input.specs.declared.options.Unread.TheVariants as unread
use Rattle.mvd_input.specs.declared.order.Setup.{Setup}
use Rattle.mvd_input.specs.declared.options.Named.{Named}
use Rattle.mvd_input.specs.declared.options.Peers.{Peers}
use Rattle.mvd_input.specs.declared.order.OrderFault.{OrderFault}
use Rattle.mvd_input.specs.declared.order.OrderFault.TheVariants.{Words, Range, Stopped}

-- ---- what is not meant

-- where a part is not meant, the whole is not either
pub within : {X Y : Type 0} (rows : List Row) (Part : List Row → X → Type 0) (Whole : List Row → Y → Type 0) (why : Unread) → ((y : Y) → Whole rows y → (x : X) × Part rows x)
    → IsUnreadValue rows Part why → IsUnreadValue rows Whole why
within rows Part Whole (unread.Range _ _) part h = h
within rows Part Whole (unread.Text _) part h = λ y w. h (part y w).0 (part y w).1

-- nor where a number is not given
pub without : {Y : Type 0} (rows : List Row) (option : List ℕ) (most : ℕ) (Whole : List Row → Y → Type 0) (why : Unread)
    → bound_of option ≡ Some most → ((y : Y) → Whole rows y → (n : ℕ) × GivesNumber rows option n)
    → ReadsGiven rows option most (Err why) → IsUnreadValue rows Whole why
without rows option most Whole (unread.Range told bound) bad part (is, same, h) = rw (is, same) (bad, h)
without rows option most Whole (unread.Text _) bad part h = λ y w. h (part y w).0 (part y w).1

-- two texts that a test tells apart
differ : {X : Type 0} (a b : List ℕ) → a ≡ b → bytes_eq a b ≡ false → X
differ a b e f = absurd (cc ((bytes_eq-Decides a b).1 e, f))

-- an address and the seconds of an order
abbrev pub Meets : List Row → Type 0
Meets rows = ((address : SocketAddr) × IsAddressOfOrder rows address) × ((idle : ℕ) × IsSeconds rows idle)

pub serve_meets : (rows : List Row) (order : Order) → IsOrderOf (codes "serve") rows order → Meets rows
serve_meets rows Sim h = differ _ _ h refl
serve_meets rows (Loop _) h = differ _ _ h.0 refl
serve_meets rows (Serve _ _ address _ idle _ _ _ _ _ _) h = ((address, h.3), (idle, h.5))
serve_meets rows (Shell _ _) h = differ _ _ h.0 refl
serve_meets rows (RemoteShell _ _ _) h = differ _ _ h.0 refl
serve_meets rows (Sync _ _ _ _ _ _) h = differ _ _ h.0 refl
serve_meets rows (Meet _ _ _ _ _) h = differ _ _ h.0 refl

pub serve_clients : (rows : List Row) (order : Order) → IsOrderOf (codes "serve") rows order → (clients : ℕ) × IsClients rows clients
serve_clients rows Sim h = differ _ _ h refl
serve_clients rows (Loop _) h = differ _ _ h.0 refl
serve_clients rows (Serve _ _ _ _ _ _ clients _ _ _ _) h = (clients, h.7)
serve_clients rows (Shell _ _) h = differ _ _ h.0 refl
serve_clients rows (RemoteShell _ _ _) h = differ _ _ h.0 refl
serve_clients rows (Sync _ _ _ _ _ _) h = differ _ _ h.0 refl
serve_clients rows (Meet _ _ _ _ _) h = differ _ _ h.0 refl

pub serve_peers : (rows : List Row) (order : Order) → IsOrderOf (codes "serve") rows order → (peers : Option Peers) × IsPeersOf rows peers
serve_peers rows Sim h = differ _ _ h refl
serve_peers rows (Loop _) h = differ _ _ h.0 refl
serve_peers rows (Serve _ _ _ _ _ _ _ peers _ _ _) h = (peers, h.8)
serve_peers rows (Shell _ _) h = differ _ _ h.0 refl
serve_peers rows (RemoteShell _ _ _) h = differ _ _ h.0 refl
serve_peers rows (Sync _ _ _ _ _ _) h = differ _ _ h.0 refl
serve_peers rows (Meet _ _ _ _ _) h = differ _ _ h.0 refl

pub serve_named : (rows : List Row) (order : Order) → IsOrderOf (codes "serve") rows order → (named : Named) × IsNamedOf rows named
serve_named rows Sim h = differ _ _ h refl
serve_named rows (Loop _) h = differ _ _ h.0 refl
serve_named rows (Serve _ _ _ _ _ _ _ _ named _ _) h = (named, h.9)
serve_named rows (Shell _ _) h = differ _ _ h.0 refl
serve_named rows (RemoteShell _ _ _) h = differ _ _ h.0 refl
serve_named rows (Sync _ _ _ _ _ _) h = differ _ _ h.0 refl
serve_named rows (Meet _ _ _ _ _) h = differ _ _ h.0 refl

-- a number is read from one text, which spells one
same_number : (rows : List Row) (option : List ℕ) (m n : ℕ) → GivesNumber rows option m → GivesNumber rows option n → m ≡ n
same_number rows option m n (s, first, (is, fits)) (t, second, (also, small)) =
    let same : s ≡ t = cc (first, second) in
    decimal_injective m n fits small (sym is ∙ same ∙ also)

-- nor is a server with one port for both
one_port_given : (rows : List Row) (address : SocketAddr) (port : ℕ) → IsAddressOfOrder rows address → GivesNumber rows (codes "http") port → port ≡ socket_port address
    → (order : Order) → IsOrderOf (codes "serve") rows order → ⊥
one_port_given rows address port a h e Sim w = differ _ _ w refl
one_port_given rows address port a h e (Loop _) w = differ _ _ w.0 refl
one_port_given rows address port a h e (Serve _ _ _ _ _ None _ _ _ _ _) w = cc (w.6, h.1)
one_port_given rows address port a h e (Serve _ _ other _ _ (Some http) _ _ _ _ _) w =
    w.12 (ap Some (same_number rows (codes "http") http port w.6 h ∙ e ∙ same_number rows (codes "port") (socket_port address) (socket_port other) a.port w.3.port))
one_port_given rows address port a h e (Shell _ _) w = differ _ _ w.0 refl
one_port_given rows address port a h e (RemoteShell _ _ _) w = differ _ _ w.0 refl
one_port_given rows address port a h e (Sync _ _ _ _ _ _) w = differ _ _ w.0 refl
one_port_given rows address port a h e (Meet _ _ _ _ _) w = differ _ _ w.0 refl

pub one_port : (rows : List Row) (address : SocketAddr) (http : Option ℕ) → IsAddressOfOrder rows address → IsHttp rows http → true ≡ option_eq nat_eq http (Some (socket_port address))
    → (order : Order) → IsOrderOf (codes "serve") rows order → ⊥
one_port rows address None a h e order w = absurd (true≢false e)
one_port rows address (Some port) a h e order w = one_port_given rows address port a h (true-eqb port (socket_port address) e) order w

pub sync_meets : (rows : List Row) (order : Order) → IsOrderOf (codes "sync") rows order → Meets rows
sync_meets rows Sim h = differ _ _ h refl
sync_meets rows (Loop _) h = differ _ _ h.0 refl
sync_meets rows (Serve _ _ _ _ _ _ _ _ _ _ _) h = differ _ _ h.0 refl
sync_meets rows (Shell _ _) h = differ _ _ h.0 refl
sync_meets rows (RemoteShell _ _ _) h = differ _ _ h.0 refl
sync_meets rows (Sync _ _ address idle _ _) h = ((address, h.3), (idle, h.4))
sync_meets rows (Meet address _ idle _ _) h = ((address, h.3), (idle, h.4))

pub remote_meets : (rows : List Row) → first_of (codes "db") rows ≡ None → (order : Order) → IsOrderOf (codes "shell") rows order → Meets rows
remote_meets rows e Sim h = differ _ _ h refl
remote_meets rows e (Loop _) h = differ _ _ h.0 refl
remote_meets rows e (Serve _ _ _ _ _ _ _ _ _ _ _) h = differ _ _ h.0 refl
remote_meets rows e (Shell _ _) h = absurd (cc (h.1, e))
remote_meets rows e (RemoteShell address idle _) h = ((address, h.2), (idle, h.3))
remote_meets rows e (Sync _ _ _ _ _ _) h = differ _ _ h.0 refl
remote_meets rows e (Meet _ _ _ _ _) h = differ _ _ h.0 refl

-- where peers are told it is told how often they are met, and what they are is a list
pub peers_every : (rows : List Row) (list : Text) → first_of (codes "peer") rows ≡ Some list → (peers : Option Peers) → IsPeersOf rows peers → (n : ℕ) × GivesNumber rows (codes "every") n
peers_every rows list e None h = absurd (cc (h.0, e))
peers_every rows list e (Some peers) h = (peers.every, h.2)

-- a text that is no item names no server, and a session that names one has no database
pub no_server : (rows : List Row) (text : Text) → first_of (codes "with") rows ≡ Some text → (HasItem text → ⊥) → (order : Order) → IsOrderOf (codes "sync") rows order → ⊥
no_server rows text e none Sim h = differ _ _ h refl
no_server rows text e none (Loop _) h = differ _ _ h.0 refl
no_server rows text e none (Serve _ _ _ _ _ _ _ _ _ _ _) h = differ _ _ h.0 refl
no_server rows text e none (Shell _ _) h = differ _ _ h.0 refl
no_server rows text e none (RemoteShell _ _ _) h = differ _ _ h.0 refl
no_server rows text e none (Sync _ _ _ _ _ _) h = cc (h.6, e)
no_server rows text e none (Meet _ _ _ _ _) h =
    let (told, is, (item, fits, _)) = h.1 in
    let same : told ≡ text = cc (is, e) in
    none (item, subst (λ t. IsItem t item) same fits)

-- ---- where a value came from

source_row : (f : Found) (option : Text) → option_and_then (λ (a : MatchedArg). a.source) (matched_of f option) ≡ source_in (rows_of f) option
source_row f option = go (find (λ (e : Entry). bytes_eq e.0.now option) f.entries.items) ∙ ap (option_and_then (λ (r : Row). r.source)) (sym (find_row f.entries.items option))
  where
    go : (o : Option Entry) → option_and_then (λ (a : MatchedArg). a.source) (option_map (λ e. e.1) o) ≡ option_and_then (λ (r : Row). r.source) (option_map row_of o)
    go None = refl
    go (Some e) = refl

pub given_by : (f : Found) (option : Text) (o : Option ValueSource) → o ≡ option_and_then (λ (a : MatchedArg). a.source) (matched_of f option) → option_map_or is_word o false ≡ is_given_option (rows_of f) option
given_by f option o e = ap (λ (s : Option ValueSource). option_map_or is_word s false) (e ∙ source_row f option)

-- ---- the matches are those of the words

pub simple_program : is_simple program ≡ true
unfolding program
simple_program = refl

pub of_words : (command : Command) (words : List Text) (m : ArgMatches) → app_of command ≡ program → HasMatchesOf (app_of command) words m
    → subcommand_rows_of m ≡ subcommand_of program words
of_words command words m e h = (h (ap is_simple e ∙ simple_program)).1 ∙ ap (λ a. subcommand_of a words) e

module _ {Z : Type 0} where
  met : (o : Option (Box SubCommand Z)) (name : Text) (rows : List Row) → option_map (λ b. (out-SubCommand (box_value b)).name.now) o ≡ Some name
      → option_map (λ p. p.1) (subcommand_rows o) ≡ Some rows → subcommand_rows o ≡ Some (name, rows)
  met None name rows e f = absurd (cc e)
  met (Some b) name rows e f = cc

  unmet : (o : Option (Box SubCommand Z)) → false ≡ is_some o → subcommand_rows o ≡ None
  unmet None e = refl
  unmet (Some b) e = absurd (cc e)

pub met_rows : (m : ArgMatches) (name : Text) (rows : List Row) → subcommand_name_of m ≡ Some name
    → option_map (λ p. p.1) (subcommand_rows (out-ArgMatches m).subcommand) ≡ Some rows → subcommand_rows_of m ≡ Some (name, rows)
met_rows m name rows e f = met (out-ArgMatches m).subcommand name rows e f

pub unmet_rows : (m : ArgMatches) → false ≡ has_subcommand m → subcommand_rows_of m ≡ None
unmet_rows m e = unmet (out-ArgMatches m).subcommand e

pub none_asked : (words : List Text) → subcommand_of program words ≡ None → (order : Order) → AskFor words order → ⊥
none_asked words e order h = subst (λ s. IsSomeAnd s (λ command. IsOrderOf command.0 command.1 order)) e h

pub reads_words : (words : List Text) (name : Text) (rows : List Row) (result : Result Order OrderFault) → subcommand_of program words ≡ Some (name, rows)
    → ReadsOrder name rows result → ReadsWords words result
reads_words words name rows (Ok order) e h = (subst (λ s. IsSomeAnd s (λ command. IsOrderOf command.0 command.1 order)) (sym e) h.0, h.1)
reads_words words name rows (Err (Range option most)) e h = subst (λ s. IsSomeAnd s (λ command. IsBadNumber command.1 option.now most)) (sym e) h
reads_words words name rows (Err (Words _)) e h = λ _ order asked. h order (subst (λ s. IsSomeAnd s (λ command. IsOrderOf command.0 command.1 order)) e asked)
reads_words words name rows (Err (Stopped _)) e h = h

pub refused_words : (words : List Text) (error : Error) (fault : OrderFault) → (takes program words ≡ true → kind_of error ≡ OutOfMemory)
    → IsFaultBy error fault → ReadsWords words (Err fault)
refused_words words error (Range _ _) passes h = absurd h
refused_words words error (Words _) passes h = λ taken order asked. h.1 (passes taken)
refused_words words error (Stopped _) passes h = h.0
