-- Requests: their kind bytes and their payloads, by this project's own format (docs/FORMATS.md, Frames).
use Rattle.std.specs.Prelude.{◌≡◌, ℕ, ◌+◌, nat_le, if◌then◌else◌, List, [], ◌∷◌, length, Option, Result, Ok, Err}
use Rattle.mvd_dots.specs.declared.refusals.Refusal.{Refusal}
use Rattle.mvd_dots.specs.declared.refusals.Refusal.TheVariants.{BadKind, FrameTooLong, StateTooLarge}
use Rattle.mvd_dots.specs.Context.{DotSet}
use Rattle.mvd_keys.specs.State.{State, Text}
use Rattle.mvd_wire.specs.declared.request.Request.{Request}
use Rattle.mvd_wire.specs.declared.request.Request.TheVariants.{Get, Put, Delete, Find, Row, Rows, Node, Bucket, Push, Range, Keys, Conflicts, Hello, Bye}
use Rattle.mvd_dots.specs.Dot.{DotValue}
use Rattle.mvd_docs.specs.declared.term.Term.{Term}
use Rattle.mvd_keys.specs.declared.places.Place.{Place}
use Rattle.mvd_wire.specs.Codec.{Codec, followed, nothing, optional, tagged}
use Rattle.mvd_wire.specs.Codecs.{layout2, key, context_codec, document, path, prefix, token, state_codec, spell_state, state_limit}
use Rattle.mvd_wire.specs.Rows.{field, view_name, term, spot_codec, place}
use Rattle.mvd_wire.specs.Frames.{spell_frame, frame_limit}

unfoldable pub put : Codec (Text × (DotSet × Text))
put = followed key (λ _. followed (context_codec layout2) (λ _. document))

unfoldable pub delete : Codec (Text × DotSet)
delete = followed key (λ _. context_codec layout2)

unfoldable pub push : Codec (Text × State)
push = followed key (λ _. state_codec layout2)

unfoldable pub find_codec : Codec (Text × (Term × Option (Text × DotValue)))
find_codec = followed field (λ _. followed term (λ _. optional spot_codec))

unfoldable pub row_of_view_codec : Codec (Text × Term)
row_of_view_codec = followed view_name (λ _. term)

unfoldable pub rows_of_view_codec : Codec (Text × Option Term)
rows_of_view_codec = followed view_name (λ _. optional term)

unfoldable pub bucket : Codec (List ℕ × Option Text)
bucket = followed path (λ _. optional key)

unfoldable pub range : Codec (Text × (Term × (Term × Option Place)))
range = followed field (λ _. followed term (λ _. followed term (λ _. optional place)))

unfoldable pub keys_of_prefix : Codec (Text × Option Text)
keys_of_prefix = followed prefix (λ _. optional key)

abbrev pub request_kind : Request → ℕ
request_kind (Get k) = 0x21
request_kind (Put k c d) = 0x22
request_kind (Delete k c) = 0x23
request_kind (Find f t after) = 0x24
request_kind (Row v t) = 0x25
request_kind (Rows v after) = 0x26
request_kind (Node p) = 0x27
request_kind (Bucket p after) = 0x28
request_kind (Push k s) = 0x29
request_kind (Range f from to after) = 0x2A
request_kind (Keys p after) = 0x2B
request_kind (Conflicts after) = 0x2C
request_kind (Hello t) = 0x2D
request_kind Bye = 0x2F

abbrev pub request_payload : Request → List ℕ
request_payload (Get k) = key.spell k
request_payload (Put k c d) = put.spell (k, (c, d))
request_payload (Delete k c) = delete.spell (k, c)
request_payload (Find f t after) = find_codec.spell (f, (t, after))
request_payload (Row v t) = row_of_view_codec.spell (v, t)
request_payload (Rows v after) = rows_of_view_codec.spell (v, after)
request_payload (Node p) = path.spell p
request_payload (Bucket p after) = bucket.spell (p, after)
request_payload (Push k s) = push.spell (k, s)
request_payload (Range f from to after) = range.spell (f, (from, (to, after)))
request_payload (Keys p after) = keys_of_prefix.spell (p, after)
request_payload (Conflicts after) = (optional key).spell after
request_payload (Hello t) = token.spell t
request_payload Bye = []

-- what has a spelling
abbrev pub IsRequest : Request → Type 0
IsRequest (Get k) = key.Fits k
IsRequest (Put k c d) = put.Fits (k, (c, d))
IsRequest (Delete k c) = delete.Fits (k, c)
IsRequest (Find f t after) = find_codec.Fits (f, (t, after))
IsRequest (Row v t) = row_of_view_codec.Fits (v, t)
IsRequest (Rows v after) = rows_of_view_codec.Fits (v, after)
IsRequest (Node p) = path.Fits p
IsRequest (Bucket p after) = bucket.Fits (p, after)
IsRequest (Push k s) = push.Fits (k, s)
IsRequest (Range f from to after) = range.Fits (f, (from, (to, after)))
IsRequest (Keys p after) = keys_of_prefix.Fits (p, after)
IsRequest (Conflicts after) = (optional key).Fits after
IsRequest (Hello t) = token.Fits t
IsRequest Bye = Unit {0}

-- the request of a kind byte and a payload, or the first fault
abbrev pub request_of : ℕ → List ℕ → Result Request Refusal
request_of =
    tagged 0x21 key Get
    (tagged 0x22 put (λ p. Put p.0 p.1.0 p.1.1)
    (tagged 0x23 delete (λ p. Delete p.0 p.1)
    (tagged 0x24 find_codec (λ p. Find p.0 p.1.0 p.1.1)
    (tagged 0x25 row_of_view_codec (λ p. Row p.0 p.1)
    (tagged 0x26 rows_of_view_codec (λ p. Rows p.0 p.1)
    (tagged 0x27 path Node
    (tagged 0x28 bucket (λ p. Bucket p.0 p.1)
    (tagged 0x29 push (λ p. Push p.0 p.1)
    (tagged 0x2A range (λ p. Range p.0 p.1.0 p.1.1.0 p.1.1.1)
    (tagged 0x2B keys_of_prefix (λ p. Keys p.0 p.1)
    (tagged 0x2C (optional key) Conflicts
    (tagged 0x2D token Hello
    (tagged 0x2F nothing (λ _. Bye)
    (λ _ _. Err BadKind))))))))))))))

-- the kind byte and the payload are the spelling of the request
abbrev pub SpellsRequest : Request → ℕ → List ℕ → Type 0
SpellsRequest r kind payload = IsRequest r × (kind ≡ request_kind r) × (payload ≡ request_payload r)

-- the frame of a kind byte and a payload, where it is not too long
abbrev pub framed : ℕ → List ℕ → Result (List ℕ) Refusal
framed kind payload =
    if nat_le (length payload + 1) frame_limit then Ok (spell_frame (record { kind = kind; payload = payload }))
    else Err FrameTooLong

-- a frame that is being written, with a place for its length
abbrev pub unmeasured : ℕ → List ℕ → List ℕ
unmeasured kind payload = 0 ∷ 0 ∷ 0 ∷ 0 ∷ kind ∷ payload

-- the answer, where the state is not too long
abbrev pub within_limit : State → Result (List ℕ) Refusal → Result (List ℕ) Refusal
within_limit s answer = if nat_le (length (spell_state s)) state_limit then answer else Err StateTooLarge

-- the frame of a request, however long it is
abbrev pub request_bytes : Request → List ℕ
request_bytes r = spell_frame (record { kind = request_kind r; payload = request_payload r })

-- the frame of a request, where nothing in it is too long
abbrev pub request_frame : Request → Result (List ℕ) Refusal
request_frame (Get k) = framed 0x21 (key.spell k)
request_frame (Put k c d) = framed 0x22 (put.spell (k, (c, d)))
request_frame (Delete k c) = framed 0x23 (delete.spell (k, c))
request_frame (Find f t after) = framed 0x24 (find_codec.spell (f, (t, after)))
request_frame (Row v t) = framed 0x25 (row_of_view_codec.spell (v, t))
request_frame (Rows v after) = framed 0x26 (rows_of_view_codec.spell (v, after))
request_frame (Node p) = framed 0x27 (path.spell p)
request_frame (Bucket p after) = framed 0x28 (bucket.spell (p, after))
request_frame (Range f from to after) = framed 0x2A (range.spell (f, (from, (to, after))))
request_frame (Push k s) = within_limit s (framed 0x29 (push.spell (k, s)))
request_frame (Keys p after) = framed 0x2B (keys_of_prefix.spell (p, after))
request_frame (Conflicts after) = framed 0x2C ((optional key).spell after)
request_frame (Hello t) = framed 0x2D (token.spell t)
request_frame Bye = framed 0x2F []
