-- The spelled values, in either version of this project's own format (docs/FORMATS.md, Spelled values). A document is
-- the text of a JSON object (RFC 8259), and texts are UTF-8 (RFC 3629).
use Rattle.std.specs.Prelude.{◌≡◌, ℕ, ◌≤◌, ◌+◌, Bool, true, ◌&&◌, nat_lt, nat_le, if◌then◌else◌, List, ◌++◌, length, Option, Some, None, Result, Ok, Err}
use Rattle.std.specs.List.{flat_map}
use Rattle.std.specs.Int.{Width, w16, w32, w64}
use Rattle.std.specs.Str.{is_utf8}
use Rattle.std.specs.Ordering.{is_lt}
use Rattle.std.specs.FinMap.{entries as pairs, from_entries, get}
use Rattle.std.specs.FinSet.{contains}
use Rattle.mvd_dots.specs.declared.refusals.Refusal.{Refusal}
use Rattle.mvd_dots.specs.declared.refusals.Refusal.TheVariants.{BadKey, BadContext, BadDocument, DocumentTooLong, StateTooLarge, BadPath, BadBody}
use Rattle.mvd_dots.specs.declared.dots.TheConstants.{COUNTER_MAX}
use Rattle.mvd_dots.specs.Dot.{DotValue, dot_cmp}
use Rattle.mvd_dots.specs.Entry.{EntryValue}
use Rattle.mvd_dots.specs.Context.{DotSet, AreInRange, entries_of, set_of}
use Rattle.mvd_docs.specs.Document.{IsDocument, canonical_document_of}
use Rattle.mvd_keys.specs.Key.{key_of_text}
use Rattle.mvd_keys.specs.Path.{path_of}
use Rattle.mvd_keys.specs.State.{State, Text, IsValid}
use Rattle.mvd_wire.specs.Prefix.{prefix_of_text}
use Rattle.mvd_wire.specs.Token.{token_of_bytes}
use Rattle.mvd_wire.specs.declared.version.Version.{Version}
use Rattle.mvd_wire.specs.declared.version.Version.TheVariants.{First, Second}
use Rattle.mvd_wire.specs.Codec.{Codec, ◌>>=◌, byte, number, raw, followed, checked, accepted, named, with_count}

-- the greatest length of a spelled state, in bytes
abbrev pub state_limit : ℕ
state_limit = 1150000

-- what differs between the versions of the format: the widths of sites and counts, and the greatest length
pub record Layout : Type 0 where
  pub site : Width
  pub entries : Width
  pub limit : ℕ

abbrev pub layout1 : Layout
layout1 = record { site = w16; entries = w16; limit = 1000000 }

abbrev pub layout2 : Layout
layout2 = record { site = w32; entries = w32; limit = state_limit }

abbrev pub layout_of : Version → Layout
layout_of First = layout1
layout_of Second = layout2

-- ---- dots

unfoldable pub dot : Layout → Codec DotValue
dot v = named (λ d. (d.site, d.counter)) (λ p. record { site = p.0; counter = p.1 }) (followed
    (checked BadBody (λ site. nat_le 1 site) (number v.site)) (λ _.
    (checked BadBody (λ counter. nat_le 1 counter && nat_le counter COUNTER_MAX) (number w64))))

-- ---- contexts

-- a loose counter, from the least that may come next
unfoldable pub loose_from : ℕ → Codec ℕ
loose_from least = checked BadContext (λ n. nat_le least n && nat_le n COUNTER_MAX) (number w64)

unfoldable pub loose_above : ℕ → Codec (List ℕ)
loose_above base = with_count loose_from (λ _ n. n + 1) (number w32) (base + 2)

-- the entry of a site above the one before; it has a base or a loose counter
unfoldable pub entry : Layout → ℕ → Codec EntryValue
entry v previous = checked BadContext (λ e. nat_lt 0 (e.base + length e.loose))
    (named (λ e. (e.site, (e.base, e.loose))) (λ p. record { site = p.0; base = p.1.0; loose = p.1.1 }) (followed
    (checked BadContext (λ site. nat_lt previous site) (number v.site)) (λ _. followed
    (checked BadContext (λ base. nat_le base COUNTER_MAX) (number w64))
    loose_above)))

unfoldable pub entries : Layout → Codec (List EntryValue)
entries v = with_count (entry v) (λ _ e. e.site) (number v.entries) 0

-- the dots of entries that were read
abbrev pub dots_read : Result (List EntryValue × List ℕ) Refusal → Result (DotSet × List ℕ) Refusal
dots_read found = found >>= λ x. Ok (set_of x.0, x.1)

-- a set of dots, by its entries
unfoldable pub context_codec : Layout → Codec DotSet
context_codec v = record {
  spell = λ dots. (entries v).spell (entries_of dots);
  Fits = λ dots. AreInRange dots × (entries v).Fits (entries_of dots);
  read = λ bytes. dots_read ((entries v).read bytes);
}

-- ---- keys, documents, paths, prefixes, tokens

unfoldable pub key : Codec Text
key = named (λ k. (length k, k)) (λ p. p.1) (followed
    (checked BadKey (λ n. nat_le 1 n && nat_le n 128) byte) (λ n.
    accepted key_of_text (raw n)))

-- the document that some bytes are
abbrev pub document_of_bytes : List ℕ → Result Text Refusal
document_of_bytes bytes = if is_utf8 bytes then canonical_document_of bytes else Err BadDocument

unfoldable pub document : Codec Text
document = named (λ d. (length d, d)) (λ p. p.1) (followed
    (checked DocumentTooLong (λ n. nat_le n 65536) (number w32)) (λ n.
    accepted document_of_bytes (raw n)))

unfoldable pub path : Codec (List ℕ)
path = named (λ p. (length p, p)) (λ p. p.1) (followed
    (checked BadPath (λ n. nat_le n 3) byte) (λ n.
    accepted path_of (raw n)))

unfoldable pub prefix : Codec Text
prefix = named (λ p. (length p, p)) (λ p. p.1) (followed
    (checked BadKey (λ n. nat_le n 128) byte) (λ n.
    accepted prefix_of_text (raw n)))

unfoldable pub token : Codec (List ℕ)
token = named (λ t. (length t, t)) (λ p. p.1) (followed
    (checked BadBody (λ n. nat_le n 256) (number w16)) (λ n.
    accepted token_of_bytes (raw n)))

-- ---- states

-- d comes after the dot before it, if there is one
abbrev pub comes_after : Option DotValue → DotValue → Bool
comes_after None d = true
comes_after (Some e) d = is_lt (dot_cmp e d)

-- a dot of the context, after the one before, and its document
unfoldable pub sibling : Layout → DotSet → Option DotValue → Codec (DotValue × Text)
sibling v dots previous = followed
    (checked BadBody (λ d. comes_after previous d && contains dots d) (dot v)) (λ _.
    document)

-- by rising dot
unfoldable pub siblings_codec : Layout → DotSet → Codec (List (DotValue × Text))
siblings_codec v dots = with_count (sibling v dots) (λ _ s. Some s.0) (number w16) None

unfoldable pub unlimited_state : Layout → Codec State
unlimited_state v =
    named (λ s. (s.context, pairs s.siblings)) (λ p. record { siblings = from_entries p.1; context = p.0 }) (followed
    (context_codec v) (λ dots.
    siblings_codec v dots))

unfoldable pub state_codec : Layout → Codec State
state_codec v = checked StateTooLarge (λ s. nat_le (length ((unlimited_state v).spell s)) v.limit) (unlimited_state v)

-- ---- the spelling alone, which does not depend on what came before

abbrev pub spell_entry : EntryValue → List ℕ
spell_entry e =
    (number w32).spell e.site
    ++ ((number w64).spell e.base ++ ((number w32).spell (length e.loose) ++ flat_map (number w64).spell e.loose))

abbrev pub spell_sibling : DotValue × Text → List ℕ
spell_sibling s =
    ((number w32).spell s.0.site ++ (number w64).spell s.0.counter) ++ ((number w32).spell (length s.1) ++ s.1)

-- the spelling of a key's state: its codec's (law `spelled_states`)
unfoldable pub spell_state : State → List ℕ
spell_state s =
    ((number w32).spell (length (entries_of s.context)) ++ flat_map spell_entry (entries_of s.context))
    ++ ((number w16).spell (length (pairs s.siblings)) ++ flat_map spell_sibling (pairs s.siblings))

-- what a state with a spelling is: each sibling's dot was seen, all dots are within the limits, each document is
-- the text of its own value, and the spelling is not too long
pub record IsInForm (s : State) : Type 0 where
  pub valid : IsValid s
  pub in_range : AreInRange s.context
  pub documents : (d : DotValue) (text : Text) → get s.siblings d ≡ Some text → IsDocument text × (length text ≤ 65536)
  pub short : length (spell_state s) ≤ state_limit
