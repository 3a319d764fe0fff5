-- What fits in a frame, and that what was sent has a spelling.
use Rattle.std.proofs.Common.{◌≡◌, ℕ, ◌+◌, ◌<◌, ◌≤◌, true, ◌++◌, ltb, leb, ◌&&◌, List, length, Option, Some, None, Result, Ok, Err, refl, ap, ◌∙◌, arith}
use Rattle.std.specs.Prelude.{IfOk}
use Rattle.std.specs.List.{list_all}
use Rattle.std.proofs.lemmas.Bool.{leb-true, le-leb}
use Rattle.std.proofs.lemmas.List.{length-append}
use Rattle.mvd_dots.specs.Context.{DotSet, AreInRange}
use Rattle.mvd_docs.specs.Name.{is_graphic}
use Rattle.mvd_docs.specs.Document.{IsDocument}
use Rattle.mvd_keys.specs.Key.{is_key}
use Rattle.mvd_keys.specs.Path.{is_path}
use Rattle.mvd_keys.specs.State.{State, Text}
use Rattle.mvd_keys.proofs.Lists.{and_true}
use Rattle.mvd_wire.specs.Codec.{number, optional, raw}
use Rattle.mvd_wire.specs.Codecs.{layout2, state_limit, dot, key, document, context_codec, path, prefix, token, state_codec, spell_state}
use Rattle.mvd_wire.specs.Frames.{frame_limit}
use Rattle.mvd_wire.specs.declared.request.Request.TheVariants.{Get, Node, Bucket, Push, Keys, Conflicts, Hello}
use Rattle.mvd_wire.specs.declared.reply.Reply.{Reply}
use Rattle.mvd_wire.specs.declared.reply.Reply.TheVariants as reply
use Rattle.mvd_wire.specs.Requests.{IsRequest, bucket, keys_of_prefix, put, delete, push, request_bytes, request_frame}
use Rattle.mvd_wire.specs.Replies.{refusal, is_short, CanBeSent}
use Rattle.mvd_wire.proofs.RowFits.{path_fits}
use Rattle.mvd_wire.proofs.Fits.{key_fits, document_fits, context_fits}
use Rattle.mvd_wire.proofs.Spellings.{codec_is, sized_number}

-- what holds of every result, holds of a good one
pub always : {A E : Type 0} (r : Result A E) (P : Type 0) → P → IfOk r (λ _. P)
always (Ok x) P p = p
always (Err e) P p = tt

length_key : (k : Text) → length (key.spell k) ≡ length k + 1
unfolding key raw
length_key k = omega arith

pub short_key : (k : Text) → is_key k ≡ true → length (key.spell k) ≤ 129
short_key k is =
    let parts = and_true (ltb 0 (length k) && leb (length k) 128) (list_all is_graphic k) is in
    let few : length k ≤ 128 = leb-true _ _ (and_true (ltb 0 (length k)) (leb (length k) 128) parts.0).1 in
    omega (arith, length_key k)

pub get_is_short : (k : Text) → is_key k ≡ true → request_frame (Get k) ≡ Ok (request_bytes (Get k))
get_is_short k is =
    let few : leb (length (key.spell k) + 1) frame_limit ≡ true = le-leb _ _ (omega (arith, short_key k is)) in
    rw few refl

length_path : (p : List ℕ) → length (path.spell p) ≡ length p + 1
unfolding path raw
length_path p = omega arith

three_digits : (p : List ℕ) → path.Fits p → length p ≤ 3
unfolding path
three_digits p fits = leb-true _ _ fits.0.1

key_size : (k : Text) → key.Fits k → length k ≤ 128
unfolding key
key_size k fits = leb-true _ _ (and_true (leb 1 (length k)) (leb (length k) 128) fits.0.1).1

pub node_is_short : (p : List ℕ) → is_path p ≡ true → request_frame (Node p) ≡ Ok (request_bytes (Node p))
node_is_short p is =
    let few : leb (length (path.spell p) + 1) frame_limit ≡ true = le-leb _ _ (omega (arith, length_path p, three_digits p (path_fits p is))) in
    rw few refl

short_option : (after : Option Text) → (optional key).Fits after → length ((optional key).spell after) ≤ 130
short_option None fits = omega arith
short_option (Some k) fits = omega (arith, length_key k, key_size k fits)

pub bucket_is_short : (p : List ℕ) (after : Option Text) → IsRequest (Bucket p after) → request_frame (Bucket p after) ≡ Ok (request_bytes (Bucket p after))
unfolding bucket
bucket_is_short p after fits =
    let all : length (bucket.spell (p, after)) ≡ length (path.spell p) + length ((optional key).spell after) = length-append (path.spell p) ((optional key).spell after) in
    let few : leb (length (bucket.spell (p, after)) + 1) frame_limit ≡ true = le-leb _ _ (omega (arith, all, length_path p, three_digits p fits.0, short_option after fits.1)) in
    rw few refl

length_prefix : (p : Text) → length (prefix.spell p) ≡ length p + 1
unfolding prefix raw
length_prefix p = omega arith

prefix_size : (p : Text) → prefix.Fits p → length p ≤ 128
unfolding prefix
prefix_size p fits = leb-true _ _ fits.0.1

pub keys_are_short : (p : Text) (after : Option Text) → IsRequest (Keys p after) → request_frame (Keys p after) ≡ Ok (request_bytes (Keys p after))
unfolding keys_of_prefix
keys_are_short p after fits =
    let all : length (keys_of_prefix.spell (p, after)) ≡ length (prefix.spell p) + length ((optional key).spell after) = length-append (prefix.spell p) ((optional key).spell after) in
    let few : leb (length (keys_of_prefix.spell (p, after)) + 1) frame_limit ≡ true = le-leb _ _ (omega (arith, all, length_prefix p, prefix_size p fits.0, short_option after fits.1)) in
    rw few refl

pub conflicts_are_short : (after : Option Text) → IsRequest (Conflicts after) → request_frame (Conflicts after) ≡ Ok (request_bytes (Conflicts after))
conflicts_are_short after fits =
    let few : leb (length ((optional key).spell after) + 1) frame_limit ≡ true = le-leb _ _ (omega (arith, short_option after fits)) in
    rw few refl

length_token : (t : List ℕ) → length (token.spell t) ≡ length t + 2
unfolding token raw
length_token t = rw length-append (omega (arith, (sized_number (length t)).0))

token_size : (t : List ℕ) → token.Fits t → length t ≤ 256
unfolding token
token_size t fits = leb-true _ _ fits.0.1

pub hello_is_short : (t : List ℕ) → IsRequest (Hello t) → request_frame (Hello t) ≡ Ok (request_bytes (Hello t))
hello_is_short t fits =
    let few : leb (length (token.spell t) + 1) frame_limit ≡ true = le-leb _ _ (omega (arith, length_token t, token_size t fits)) in
    rw few refl

pub push_is_short : (k : Text) (s : State) → is_key k ≡ true → length (spell_state s) ≤ state_limit → request_frame (Push k s) ≡ Ok (request_bytes (Push k s))
unfolding push
push_is_short k s is short =
    let all : length (push.spell (k, s)) ≡ length (key.spell k) + length (spell_state s) =
    length-append (key.spell k) ((state_codec layout2).spell s) ∙ ap (λ (bytes : List ℕ). length (key.spell k) + length bytes) (codec_is s) in
    let state_few : leb (length (spell_state s)) state_limit ≡ true = le-leb _ _ short in
    let few : leb (length (push.spell (k, s)) + 1) frame_limit ≡ true = le-leb _ _ (omega (arith, short_key k is, all, short)) in
    rw (state_few, few) refl

pub push_fits : (k : Text) (s : State) → is_key k ≡ true → (state_codec layout2).Fits s → push.Fits (k, s)
unfolding push
push_fits k s is fits = (key_fits k is, fits)

pub put_fits : (k : Text) (c : DotSet) (d : Text) → is_key k ≡ true → AreInRange c → IsDocument d → length d ≤ 65536 → length (put.spell (k, (c, d))) < frame_limit → put.Fits (k, (c, d))
unfolding put
put_fits k c d is in_range document_is few short =
    let all = length-append (key.spell k) ((context_codec layout2).spell c ++ document.spell d) in
    let rest = length-append ((context_codec layout2).spell c) (document.spell d) in
    (key_fits k is, (context_fits c in_range (omega (arith, all, rest, short)), document_fits d document_is few))

pub delete_fits : (k : Text) (c : DotSet) → is_key k ≡ true → AreInRange c → length (delete.spell (k, c)) < frame_limit → delete.Fits (k, c)
unfolding delete
delete_fits k c is in_range short =
    let all = length-append (key.spell k) ((context_codec layout2).spell c) in
    (key_fits k is, context_fits c in_range (omega (arith, all, short)))

-- ---- replies

pub state_can_be_sent : (s : State) → length (spell_state s) ≤ state_limit → CanBeSent (reply.State s)
state_can_be_sent s short =
    let state_few : leb (length (spell_state s)) state_limit ≡ true = le-leb _ _ short in
    let few : leb (length (spell_state s) + 1) frame_limit ≡ true = le-leb _ _ (omega (arith, short)) in
    rw (state_few, few) refl

pub short_can_be_sent : (r : Reply) → is_short r ≡ true → CanBeSent r
unfolding dot number refusal
short_can_be_sent (reply.State s) is = absurd cc
short_can_be_sent (reply.Written d) is = refl
short_can_be_sent reply.Done is = refl
short_can_be_sent (reply.Places ps more) is = absurd cc
short_can_be_sent (reply.Row r) is = absurd cc
short_can_be_sent (reply.Rows rs more) is = absurd cc
short_can_be_sent (reply.Digests d) is = absurd cc
short_can_be_sent (reply.Keys ks more) is = absurd cc
short_can_be_sent (reply.Counts cs more) is = absurd cc
short_can_be_sent (reply.Refused r) is = refl
