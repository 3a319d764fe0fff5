-- How the lines of scripts are spelled, and those that are typed (formats of this repository's own).
use Rattle.std.specs.Prelude.{◌≡◌, ◌≢◌, ◌⊎◌, ◌==◌, ℕ, ◌<◌, ◌^◌, ⊤, false, if◌then◌else◌, List, [], ◌∷◌, ◌++◌, codes, get_or, length, Option, Some, None, IsSomeAnd}
use Rattle.std.specs.Fmt.{decimal}
use Rattle.std.specs.List.{list_any}
use Rattle.std.specs.Option.{option_copied}
use Rattle.mvd_input.specs.declared.command.Ask.{Ask}
use Rattle.mvd_input.specs.declared.command.Ask.TheVariants.{Put, Delete, Get, Row, Node, Find, Range, Rows, Keys, Conflicts}
use Rattle.mvd_input.specs.declared.command.Command.{Command}
use Rattle.mvd_input.specs.declared.command.Command.TheVariants as command
use Rattle.mvd_input.specs.declared.command.Line.{Line}
use Rattle.mvd_input.specs.declared.command.Line.TheVariants as line
use Rattle.mvd_input.specs.declared.command.Typed.{Typed}
use Rattle.mvd_input.specs.declared.command.View.{View}
use Rattle.mvd_input.specs.declared.command.Typed.TheVariants as typed

-- what a line says: nothing where a `#` (35) stands first
abbrev pub said : List ℕ → List ℕ
said line = if get_or line 0 0 == 35 then [] else line

-- no space (32) is in the text
abbrev pub IsWord : List ℕ → Type 0
IsWord text = list_any (λ byte. byte == 32) text ≡ false

-- two texts, parted by a space
abbrev pub spaced : List ℕ → List ℕ → List ℕ
spaced first rest = first ++ 32 ∷ rest

-- the digits of a number of 64 bits
abbrev pub IsNumber : ℕ → List ℕ → Type 0
IsNumber number digits = (digits ≡ decimal number) × (number < 2 ^ 64)

-- a word, with what stands behind it where something does
abbrev pub with_rest : List ℕ → Option (List ℕ) → List ℕ
with_rest word None = word
with_rest word (Some rest) = spaced word rest

-- the word of a question or a write, and what stands behind it, where a script has the site's number between the two
abbrev pub word_of : Ask → List ℕ
word_of (Put _ _ _) = codes "put"
word_of (Delete _ _) = codes "del"
word_of (Get _) = codes "get"
word_of (Row _ _) = codes "row"
word_of (Node _) = codes "node"
word_of (Find _ _) = codes "find"
word_of (Range _ _) = codes "range"
word_of (Rows _) = codes "rows"
word_of (Keys _) = codes "keys"
word_of Conflicts = codes "conflicts"

abbrev pub rest_of : Ask → Option (List ℕ)
rest_of (Put key context document) = Some (spaced key.now (spaced context.now document.now))
rest_of (Delete key context) = Some (spaced key.now context.now)
rest_of (Get key) = Some key.now
rest_of (Row view term) = Some (spaced view.now term.now)
rest_of (Node path) = Some path.now
rest_of (Find field term) = Some (spaced field.now term.now)
rest_of (Range field terms) = Some (spaced field.now terms.now)
rest_of (Rows view) = Some view.now
rest_of (Keys prefix) = option_copied prefix
rest_of Conflicts = None

-- each text in it that another follows, and each that may have no space, is a word; a prefix that is written has a byte
abbrev pub HasWords : Ask → Type 0
HasWords (Put key context _) = IsWord key.now × IsWord context.now
HasWords (Delete key context) = IsWord key.now × IsWord context.now
HasWords (Get key) = IsWord key.now
HasWords (Row view _) = IsWord view.now
HasWords (Node path) = IsWord path.now
HasWords (Find field _) = IsWord field.now
HasWords (Range field _) = IsWord field.now
HasWords (Rows view) = IsWord view.now
HasWords (Keys None) = ⊤
HasWords (Keys (Some prefix)) = IsWord prefix.now × (prefix.now ≢ [])
HasWords Conflicts = ⊤

-- the question or write has this word, and this stands behind it
abbrev pub IsAsked : Ask → List ℕ → Option (List ℕ) → Type 0
IsAsked ask word rest = (word ≡ word_of ask) × (rest ≡ rest_of ask) × HasWords ask

-- the same of a command
abbrev pub IsCommand : Command → List ℕ → Option (List ℕ) → Type 0
IsCommand (command.Ask ask) word rest = IsAsked ask word rest
IsCommand (command.Send key) word rest = (word ≡ codes "send") × (rest ≡ Some key.now) × IsWord key.now
IsCommand (command.Receive message) word rest = (word ≡ codes "recv") × IsSomeAnd rest (IsNumber message)
IsCommand (command.Sync peer) word rest = (word ≡ codes "sync") × IsSomeAnd rest (IsNumber peer)

-- behind a command's word stand the site's number and what the command is about
abbrev pub IsSiteLine : ℕ → Command → List ℕ → List ℕ → Type 0
IsSiteLine site command word behind =
    (digits : List ℕ) × (rest : Option (List ℕ)) × (behind ≡ with_rest digits rest) × IsNumber site digits
    × IsCommand command word rest

-- it asks for the whole hash tree's digest, for which `root` stands, too
abbrev pub IsRoot : Ask → Type 0
IsRoot ask = IsAsked ask (codes "node") (Some (codes "-"))

abbrev pub IsView : View → List ℕ → Type 0
IsView view text = (text ≡ spaced view.name.now (spaced view.group.now view.sum.now)) × IsWord view.name.now
    × IsWord view.group.now

-- the text spells the line
abbrev pub IsLine : Line → List ℕ → Type 0
IsLine (line.Sites count) text = (digits : List ℕ) × (text ≡ spaced (codes "sites") digits) × IsNumber count digits
IsLine (line.Max count) text = (digits : List ℕ) × (text ≡ spaced (codes "max") digits) × IsNumber count digits
IsLine (line.Index field) text = text ≡ spaced (codes "index") field.now
IsLine (line.View view) text = (rest : List ℕ) × (text ≡ spaced (codes "view") rest) × IsView view rest
IsLine (line.At site command) text =
    ((word : List ℕ) × (behind : List ℕ) × (text ≡ spaced word behind) × IsSiteLine site command word behind)
    ⊎ ((digits : List ℕ) × (text ≡ spaced (codes "root") digits) × IsNumber site digits
    × IsCommand command (codes "node") (Some (codes "-")))

-- the typed text is that of the question or write
abbrev pub IsTypedAsk : Ask → List ℕ → Type 0
IsTypedAsk ask text = (word : List ℕ) × (rest : Option (List ℕ)) × (text ≡ with_rest word rest) × IsAsked ask word rest

abbrev pub IsTyped : Typed → List ℕ → Type 0
IsTyped typed.Help text = text ≡ codes "help"
IsTyped (typed.Ask ask) text = IsTypedAsk ask text ⊎ ((text ≡ codes "root") × IsRoot ask)

-- the texts that spell nothing
abbrev pub IsNoNumber : List ℕ → Type 0
IsNoNumber text = (number : ℕ) → IsNumber number text → ⊥

abbrev pub IsNoView : List ℕ → Type 0
IsNoView text = (view : View) → IsView view text → ⊥

abbrev pub IsNoAsk : List ℕ → Option (List ℕ) → Type 0
IsNoAsk word rest = (ask : Ask) → IsAsked ask word rest → ⊥

abbrev pub IsNoCommand : List ℕ → Option (List ℕ) → Type 0
IsNoCommand word rest = (command : Command) → IsCommand command word rest → ⊥

abbrev pub IsNoAt : List ℕ → List ℕ → Type 0
IsNoAt word behind = (site : ℕ) (command : Command) → IsSiteLine site command word behind → ⊥

abbrev pub IsNoLine : List ℕ → Type 0
IsNoLine text = (line : Line) → IsLine line text → ⊥

abbrev pub IsNoTypedAsk : List ℕ → Type 0
IsNoTypedAsk text = (ask : Ask) → IsTypedAsk ask text → ⊥

abbrev pub IsNotTyped : List ℕ → Type 0
IsNotTyped text = (typed : Typed) → IsTyped typed text → ⊥

-- a `+` (43) stands first, or a zero (48) that is not all: so no number is spelled
abbrev pub IsPadded : List ℕ → Type 0
IsPadded digits = (get_or digits 0 0 ≡ 43) ⊎ ((get_or digits 0 0 ≡ 48) × (1 < length digits))
