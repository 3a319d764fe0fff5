-- Replies: their kind bytes and their payloads, by this project's own format (docs/FORMATS.md, Frames).
use Rattle.std.specs.Prelude.{◌≡◌, ℕ, ◌==◌, nat_le, if◌then◌else◌, length, Bool, true, false, List, [], ◌∷◌, Option, ok_or, Result, Ok, Err}
use Rattle.std.specs.List.{find}
use Rattle.mvd_dots.specs.declared.refusals.Refusal.{Refusal}
use Rattle.mvd_dots.specs.declared.refusals.Refusal.TheVariants.{BadKey, BadContext, BadDocument, NotObject, BadNumber, DocumentTooLong, NotCanonical, Exhausted, StateTooLarge, Full, DotClash, NoIndex, NoView, BadPath, BadTerm, SiteMismatch, Damaged, Memory, Store, Broken, Truncated, FrameTooLong, BadKind, BadBody, ReadFailed, WriteFailed, TooManyRequests, BadDefs, NotAdmitted}
use Rattle.mvd_dots.specs.Refusal.{number_of}
use Rattle.mvd_wire.specs.declared.reply.Reply.{Reply}
use Rattle.mvd_wire.specs.declared.reply.Reply.TheVariants as reply
use Rattle.mvd_wire.specs.Codec.{Codec, ◌>>=◌, byte, nothing, tagged}
use Rattle.mvd_wire.specs.Codecs.{layout2, dot, state_codec, spell_state}
use Rattle.mvd_wire.specs.Rows.{digests_codec, key_count, key_entry, page, page_limit, place, row_codec, view_row}
use Rattle.mvd_wire.specs.Frames.{spell_frame}
use Rattle.mvd_wire.specs.Requests.{framed, within_limit}

abbrev pub refusals : List Refusal
refusals = BadKey ∷ BadContext ∷ BadDocument ∷ NotObject ∷ BadNumber ∷ DocumentTooLong ∷ NotCanonical ∷ Exhausted
    ∷ StateTooLarge ∷ Full ∷ DotClash ∷ NoIndex ∷ NoView ∷ BadPath ∷ BadTerm ∷ SiteMismatch ∷ Damaged ∷ Memory ∷ Store
    ∷ Broken ∷ Truncated ∷ FrameTooLong ∷ BadKind ∷ BadBody ∷ ReadFailed ∷ WriteFailed ∷ TooManyRequests ∷ BadDefs
    ∷ NotAdmitted ∷ []

-- the refusal with this number
unfoldable pub numbered : ℕ → Option Refusal
numbered n = find (λ r. number_of r == n) refusals

-- a refusal, by its number
unfoldable pub refusal : Codec Refusal
refusal = record {
  spell = λ r. number_of r ∷ [];
  Fits = λ _. Unit {0};
  read = λ bytes. byte.read bytes >>= λ n. ok_or (numbered n.0) BadBody >>= λ r. Ok (r, n.1);
}

abbrev pub reply_kind : Reply → ℕ
reply_kind (reply.State s) = 0xA1
reply_kind (reply.Written d) = 0xA2
reply_kind reply.Done = 0xA3
reply_kind (reply.Places ps more) = 0xA4
reply_kind (reply.Row r) = 0xA5
reply_kind (reply.Rows rs more) = 0xA6
reply_kind (reply.Digests d) = 0xA7
reply_kind (reply.Keys ks more) = 0xA8
reply_kind (reply.Counts cs more) = 0xA9
reply_kind (reply.Refused r) = 0xEE

abbrev pub reply_payload : Reply → List ℕ
reply_payload (reply.State s) = spell_state s
reply_payload (reply.Written d) = (dot layout2).spell d
reply_payload reply.Done = []
reply_payload (reply.Places ps more) = (page place).spell (ps, more)
reply_payload (reply.Row r) = row_codec.spell r
reply_payload (reply.Rows rs more) = (page view_row).spell (rs, more)
reply_payload (reply.Digests d) = digests_codec.spell d
reply_payload (reply.Keys ks more) = (page key_entry).spell (ks, more)
reply_payload (reply.Counts cs more) = (page key_count).spell (cs, more)
reply_payload (reply.Refused r) = refusal.spell r

-- what has a spelling
abbrev pub IsReply : Reply → Type 0
IsReply (reply.State s) = (state_codec layout2).Fits s
IsReply (reply.Written d) = (dot layout2).Fits d
IsReply reply.Done = Unit {0}
IsReply (reply.Places ps more) = (page place).Fits (ps, more)
IsReply (reply.Row r) = row_codec.Fits r
IsReply (reply.Rows rs more) = (page view_row).Fits (rs, more)
IsReply (reply.Digests d) = digests_codec.Fits d
IsReply (reply.Keys ks more) = (page key_entry).Fits (ks, more)
IsReply (reply.Counts cs more) = (page key_count).Fits (cs, more)
IsReply (reply.Refused r) = refusal.Fits r

-- the reply of a kind byte and a payload, or the first fault
abbrev pub reply_of : ℕ → List ℕ → Result Reply Refusal
reply_of =
    tagged 0xA1 (state_codec layout2) reply.State
    (tagged 0xA2 (dot layout2) reply.Written
    (tagged 0xA3 nothing (λ _. reply.Done)
    (tagged 0xA4 (page place) (λ p. reply.Places p.0 p.1)
    (tagged 0xA5 row_codec reply.Row
    (tagged 0xA6 (page view_row) (λ p. reply.Rows p.0 p.1)
    (tagged 0xA7 digests_codec reply.Digests
    (tagged 0xA8 (page key_entry) (λ p. reply.Keys p.0 p.1)
    (tagged 0xA9 (page key_count) (λ p. reply.Counts p.0 p.1)
    (tagged 0xEE refusal reply.Refused
    (λ _ _. Err BadKind))))))))))

-- the kind byte and the payload are the spelling of the reply
abbrev pub SpellsReply : Reply → ℕ → List ℕ → Type 0
SpellsReply r kind payload = IsReply r × (kind ≡ reply_kind r) × (payload ≡ reply_payload r)

-- the frame of a reply, however long it is
abbrev pub reply_bytes : Reply → List ℕ
reply_bytes r = spell_frame (record { kind = reply_kind r; payload = reply_payload r })

-- the answer, where the list is not too long
abbrev pub within_page : {X : Type 0} → List X → Result (List ℕ) Refusal → Result (List ℕ) Refusal
within_page xs answer = if nat_le (length xs) page_limit then answer else Err BadBody

-- the frame of a reply, where nothing in it is too long
abbrev pub reply_frame : Reply → Result (List ℕ) Refusal
reply_frame (reply.State s) = within_limit s (framed 0xA1 (spell_state s))
reply_frame (reply.Written d) = framed 0xA2 ((dot layout2).spell d)
reply_frame reply.Done = framed 0xA3 []
reply_frame (reply.Places ps more) = within_page ps (framed 0xA4 ((page place).spell (ps, more)))
reply_frame (reply.Row r) = framed 0xA5 (row_codec.spell r)
reply_frame (reply.Rows rs more) = within_page rs (framed 0xA6 ((page view_row).spell (rs, more)))
reply_frame (reply.Digests d) = framed 0xA7 (digests_codec.spell d)
reply_frame (reply.Keys ks more) = within_page ks (framed 0xA8 ((page key_entry).spell (ks, more)))
reply_frame (reply.Counts cs more) = within_page cs (framed 0xA9 ((page key_count).spell (cs, more)))
reply_frame (reply.Refused r) = framed 0xEE (refusal.spell r)

-- nothing in the reply is too long for its frame
abbrev pub CanBeSent : Reply → Type 0
CanBeSent r = reply_frame r ≡ Ok (reply_bytes r)

-- a reply whose frame has a place of fixed size
abbrev pub is_short : Reply → Bool
is_short (reply.State s) = false
is_short (reply.Written d) = true
is_short reply.Done = true
is_short (reply.Places ps more) = false
is_short (reply.Row r) = false
is_short (reply.Rows rs more) = false
is_short (reply.Digests d) = false
is_short (reply.Keys ks more) = false
is_short (reply.Counts cs more) = false
is_short (reply.Refused r) = true
