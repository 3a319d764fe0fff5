-- A state that is pushed, this repository's own: an object of `key`, `context` and `siblings`, as the state of a key is
-- told; each sibling is an object of `dot`, and `document` or `text`, the document's text.
use Rattle.std.specs.Prelude.{ℕ, ◌+◌, ◌==◌, ◌&&◌, if◌then◌else◌, Bool, true, List, [], ◌∷◌, codes, is_some, Option, Some, None, option_copied, option_map, option_and_then, Result, Ok, Err}
use Rattle.std.specs.FinMap.{from_entries}
use Rattle.std.specs.FinSet.{contains}
use Rattle.serde_json.specs.Data.{Data, Items, no_items, item}
use Rattle.serde_json.specs.Find.{as_array, as_object, as_str, get}
use Rattle.serde_json.specs.View.{items_view, view}
use Rattle.mvd_dots.specs.Context.{DotSet}
use Rattle.mvd_dots.specs.Dot.{DotValue}
use Rattle.mvd_dots.specs.declared.refusals.Refusal.{Refusal}
use Rattle.mvd_dots.specs.declared.refusals.Refusal.TheVariants.{BadBody, BadContext}
use Rattle.mvd_docs.specs.Document.{document_of, document_of_data}
use Rattle.mvd_keys.specs.Key.{key_of_text}
use Rattle.mvd_keys.specs.State.{Text}
use Rattle.mvd_keys.specs.Writes.{Key}
use Rattle.mvd_wire.specs.Codecs.{comes_after}
use Rattle.mvd_wire.specs.declared.request.Request.{Request}
use Rattle.mvd_wire.specs.declared.request.Request.TheVariants.{Push}
use Rattle.mvd_http.specs.Dots.{dot_in}
use Rattle.mvd_http.specs.Members.{member_count_of, one_if, text_if}
use Rattle.mvd_http.specs.Seen.{IsWrite, then_read}
use Rattle.mvd_http.specs.declared.pushed.SiblingLine.{SiblingLine}
use Rattle.mvd_http.specs.declared.pushed.StateLine.{StateLine}

-- ---- its form

-- a sibling has its document, or the text of it
pub record SiblingValue : Type 0 where
  pub dot : List ℕ
  pub document : Option Data
  pub text : Option (List ℕ)

abbrev pub sibling_said : SiblingLine → SiblingValue
sibling_said s =
    record {
      dot = s.dot.now;
      document = option_map (λ v. view v.now) s.document;
      text = option_copied s.text;
    }

abbrev pub sibling_with : ℕ → Option (List ℕ) → Option Data → Option (Option (List ℕ)) → Option SiblingValue
sibling_with count (Some dot) document (Some text) =
    if (count == 2) && (one_if document + one_if text == 1)
    then Some (record { dot = dot; document = document; text = text }) else None
sibling_with count _ document _ = None

abbrev pub sibling_of : Data → Option SiblingValue
sibling_of d =
    sibling_with (member_count_of (as_object d)) (option_and_then as_str (get (codes "dot") d))
    (get (codes "document") d) (text_if (get (codes "text") d))

abbrev pub are_siblings : Items → Bool
are_siblings no_items = true
are_siblings (item d ds) = is_some (sibling_of d) && are_siblings ds

pub record StateValue : Type 0 where
  pub key : List ℕ
  pub context : List ℕ
  pub siblings : Items

abbrev pub state_said : StateLine → StateValue
state_said line =
    record { key = line.key.now; context = line.context.now; siblings = items_view line.siblings.now }

abbrev pub state_with : ℕ → Option (List ℕ) → Option (List ℕ) → Option Items → Option StateValue
state_with count (Some key) (Some context) (Some siblings) =
    if (count == 3) && are_siblings siblings
    then Some (record { key = key; context = context; siblings = siblings }) else None
state_with count _ _ _ = None

abbrev pub state_line_of : Data → Option StateValue
state_line_of d =
    state_with (member_count_of (as_object d)) (option_and_then as_str (get (codes "key") d))
    (option_and_then as_str (get (codes "context") d)) (option_and_then as_array (get (codes "siblings") d))

-- ---- what it pushes

abbrev pub document_told : Option Data → Option (List ℕ) → Result Text Refusal
document_told (Some d) text = document_of_data d
document_told None (Some text) = document_of text
document_told None None = Err BadBody

-- a dot that rises above the one before, and was seen
abbrev pub dot_after : DotSet → Option DotValue → DotValue → Result DotValue Refusal
dot_after dots previous dot = if comes_after previous dot && contains dots dot then Ok dot else Err BadBody

abbrev pub sibling_read : DotSet → Option DotValue → Option SiblingValue → Result (DotValue × Text) Refusal
sibling_read dots previous None = Err BadBody
sibling_read dots previous (Some s) =
    then_read (dot_in s.dot) (λ d.
    then_read (dot_after dots previous d) (λ dot.
    then_read (document_told s.document s.text) (λ text. Ok (dot, text))))

-- the siblings from the first on, or the first refusal
unfoldable pub siblings_read : DotSet → Option DotValue → Items → Result (List (DotValue × Text)) Refusal
siblings_read dots previous no_items = Ok []
siblings_read dots previous (item d ds) =
    then_read (sibling_read dots previous (sibling_of d)) (λ s.
    then_read (siblings_read dots (Some s.0) ds) (λ ss. Ok (s ∷ ss)))

abbrev pub push_of : Items → Key → DotSet → Result Request Refusal
push_of siblings key dots =
    then_read (siblings_read dots None siblings)
    (λ ss. Ok (Push key (record { siblings = from_entries ss; context = dots })))

abbrev pub IsPushOf : StateValue → Result Request Refusal → Type 0
IsPushOf line asked =
    IsWrite (Err BadContext) (key_of_text line.key) (Some line.context) (push_of line.siblings) asked
