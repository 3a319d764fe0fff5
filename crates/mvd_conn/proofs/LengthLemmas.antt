-- How long the frames of replies are.
use Rattle.std.proofs.Common.{◌≡◌, ℕ, Bool, true, false, ◌+◌, ◌≤◌, leb, cond, List, [], ◌∷◌, length, Result, Ok, Err, refl, arith, length-append}
use Rattle.std.proofs.lemmas.Bool.{leb-true}
use Rattle.std.specs.Int.{w32, to_be_bytes}
use Rattle.mvd_dots.specs.declared.refusals.Refusal.{Refusal}
use Rattle.mvd_dots.specs.declared.refusals.Refusal.TheVariants.{FrameTooLong}
use Rattle.mvd_wire.specs.Codec.{number}
use Rattle.mvd_wire.specs.Codecs.{dot}
use Rattle.mvd_wire.specs.Frames.{FrameValue, frame_limit, spell_frame}
use Rattle.mvd_wire.specs.Requests.{framed}
use Rattle.mvd_wire.specs.Replies.{CanBeSent, is_short, reply_kind, reply_payload, refusal, reply_bytes}
use Rattle.mvd_wire.specs.declared.reply.Reply.{Reply}
use Rattle.mvd_wire.specs.declared.reply.Reply.TheVariants as reply
use Rattle.mvd_wire.proofs.Laws.{passed_ok, wide32}
use Rattle.mvd_conn.specs.History.{frame_most}

pub frame_length : (f : FrameValue) → length (spell_frame f) ≡ 5 + length f.payload
unfolding number
frame_length f = omega (arith, length-append (to_be_bytes w32 (length f.payload + 1)) (f.kind ∷ f.payload), wide32.len (length f.payload + 1))

went_on : {A : Type 0} (b : Bool) (r : Result A Refusal) (e : Refusal) (x : A) → cond b r (Err e) ≡ Ok x → r ≡ Ok x
went_on true r e x is = is
went_on false r e x is = absurd cc

framed_fits : (kind : ℕ) (payload bytes : List ℕ) → framed kind payload ≡ Ok bytes → length payload + 1 ≤ frame_limit
framed_fits kind payload bytes is = leb-true _ _ (passed_ok (leb (length payload + 1) frame_limit) FrameTooLong (spell_frame (record { kind = kind; payload = payload })) bytes is).0

pub payload_fits : (r : Reply) → CanBeSent r → length (reply_payload r) + 1 ≤ frame_limit
payload_fits (reply.State s) is = framed_fits 0xA1 _ _ (went_on _ _ _ _ is)
payload_fits (reply.Written d) is = framed_fits 0xA2 _ _ is
payload_fits reply.Done is = framed_fits 0xA3 [] _ is
payload_fits (reply.Places ps more) is = framed_fits 0xA4 _ _ (went_on _ _ _ _ is)
payload_fits (reply.Row r) is = framed_fits 0xA5 _ _ is
payload_fits (reply.Rows rs more) is = framed_fits 0xA6 _ _ (went_on _ _ _ _ is)
payload_fits (reply.Digests d) is = framed_fits 0xA7 _ _ is
payload_fits (reply.Keys ks more) is = framed_fits 0xA8 _ _ (went_on _ _ _ _ is)
payload_fits (reply.Counts cs more) is = framed_fits 0xA9 _ _ (went_on _ _ _ _ is)
payload_fits (reply.Refused r) is = framed_fits 0xEE _ _ is

-- a reply that can be sent is at most as long as a frame
pub sent_fits : (r : Reply) → CanBeSent r → length (reply_bytes r) ≤ frame_most
sent_fits r is = omega (arith, frame_length (record { kind = reply_kind r; payload = reply_payload r }), payload_fits r is)

pub refused_length : (r : Refusal) → length (reply_bytes (reply.Refused r)) ≡ 6
unfolding number refusal
refused_length r = refl
