-- The words that the program takes: its commands, and of each its options.
use Rattle.std.specs.Prelude.{List, [], ◌∷◌, ◌++◌, Some, true, false, codes}
use Rattle.clap.specs.Simple.{new_shape}
use Rattle.clap.specs.Walk.{Text}
use Rattle.clap.specs.Words.{App, Rule, new_rule}
use Rattle.clap.specs.declared.builder.action.ArgAction.TheVariants.{SetTrue}
use Rattle.clap.specs.declared.builder.value_parser.ValueParser.TheVariants.{Unsigned}

-- ---- an option

-- `--name TEXT`
abbrev pub text_option : Text → Rule
text_option name = record (new_rule name) { long = Some name; value_names = 1 }

-- `--name NUMBER`, below 2^64
abbrev pub number_option : Text → Rule
number_option name = record (text_option name) { parser = Some (Unsigned 0 18446744073709551615) }

-- `--name` alone
abbrev pub flag_rule : Text → Rule
flag_rule name = record (new_rule name) { long = Some name; action = Some SetTrue }

-- it has to be given
abbrev pub needed : Rule → Rule
needed option = record option { required = true }

-- left out, it has this value
abbrev pub by_default : Text → Rule → Rule
by_default value option = record option { defaults = value ∷ [] }

-- ---- the options

abbrev pub db : Rule
db = text_option (codes "db")

abbrev pub site : Rule
site = number_option (codes "site")

abbrev pub defs : Rule
defs = text_option (codes "defs")

abbrev pub max_keys : Rule
max_keys = by_default (codes "1000000") (number_option (codes "max-keys"))

abbrev pub address : Rule
address = by_default (codes "127.0.0.1") (text_option (codes "address"))

abbrev pub port : Rule
port = number_option (codes "port")

abbrev pub http : Rule
http = number_option (codes "http")

abbrev pub conns : Rule
conns = number_option (codes "conns")

abbrev pub clients : Rule
clients = by_default (codes "256") (number_option (codes "clients"))

abbrev pub with : Rule
with = text_option (codes "with")

abbrev pub peer : Rule
peer = text_option (codes "peer")

abbrev pub host : Rule
host = text_option (codes "host")

abbrev pub origin : Rule
origin = text_option (codes "origin")

abbrev pub every : Rule
every = by_default (codes "30") (number_option (codes "every"))

abbrev pub idle : Text → Rule
idle seconds = by_default seconds (number_option (codes "idle"))

abbrev pub verbose : Rule
verbose = flag_rule (codes "verbose")

abbrev pub quiet : Rule
quiet = flag_rule (codes "quiet")

abbrev pub token_file : Rule
token_file = text_option (codes "token-file")

-- those with which a command begins on a database that meets a peer
abbrev pub database : List Rule
database = needed db ∷ needed site ∷ defs ∷ max_keys ∷ address ∷ []

-- ---- the commands

-- a command with its options, and none below it
abbrev pub leaf : Text → List Rule → App
leaf name options = record { top = record (new_shape name) { rules = options }; subs = [] }

abbrev pub sim_words : App
sim_words = leaf (codes "sim") []

abbrev pub loop_words : App
loop_words = leaf (codes "loop") (needed site ∷ defs ∷ max_keys ∷ [])

abbrev pub serve_words : App
serve_words = leaf (codes "serve")
    (database ++ needed port ∷ http ∷ conns ∷ idle (codes "300") ∷ clients ∷ peer ∷ every ∷ host ∷ origin
    ∷ quiet ∷ token_file ∷ [])

abbrev pub shell_words : App
shell_words = leaf (codes "shell")
    (db ∷ site ∷ defs ∷ max_keys ∷ port ∷ address ∷ idle (codes "60") ∷ token_file ∷ [])

abbrev pub sync_words : App
sync_words = leaf (codes "sync")
    (db ∷ site ∷ defs ∷ max_keys ∷ address ∷ needed port ∷ with ∷ idle (codes "60") ∷ verbose ∷ token_file ∷ [])

-- the program: a command has to be given, and `--version` may be
unfoldable pub program : App
program = record {
  top = record (new_shape (codes "mvd")) {
    is_leaf = false;
    has_version = true;
    subcommand_required = true;
    arg_required_else_help = true;
  };
  subs = sim_words.top ∷ loop_words.top ∷ serve_words.top ∷ shell_words.top ∷ sync_words.top ∷ [];
}
