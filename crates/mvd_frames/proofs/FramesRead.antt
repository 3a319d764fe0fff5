-- What was read as a frame is the spelling of that frame.
use Rattle.std.proofs.Common.{◌≡◌, ℕ, zero, suc, Bool, false, true, ◌+◌, ◌-◌, ◌<◌, ◌≤◌, ◌&&◌, cond, ltb, leb, eqb, List, [], ◌∷◌, ◌++◌, length, slice_index, take, drop, Option, Some, None, Result, Ok, Err, refl, sym, ap, subst, ◌∙◌, arith, append_assoc, inl, inr}
use Rattle.std.specs.Int.{w32, from_be_bytes}
use Rattle.std.specs.List.{All}
use Rattle.std.proofs.lemmas.Bool.{cases_lt, leb-true, ltb-false, eqb-true}
use Rattle.std.proofs.lemmas.List.{take-append-drop, length-take, get_or_past, nil_from_length}
use Rattle.std.proofs.lemmas.List.Elements.{All-get_or}
use Rattle.mvd_dots.specs.declared.refusals.Refusal.{Refusal}
use Rattle.mvd_dots.specs.declared.refusals.Refusal.TheVariants.{Truncated, FrameTooLong}
use Rattle.mvd_keys.proofs.Lists.{and_true}
use Rattle.mvd_wire.specs.Codec.{number}
use Rattle.mvd_wire.specs.Frames.{FrameValue, body_at, length_at, frame_at, frame_behind, frame_limit, spell_frame}
use Rattle.mvd_wire.specs.declared.request.Request.{Request}
use Rattle.mvd_wire.specs.declared.reply.Reply.{Reply}
use Rattle.mvd_wire.specs.Requests as asked
use Rattle.mvd_wire.specs.Requests.{IsRequest, request_bytes, request_of}
use Rattle.mvd_wire.specs.Replies as told
use Rattle.mvd_wire.specs.Replies.{IsReply, reply_bytes, reply_of}
use Rattle.mvd_frames.proofs.FrameLemmas.{frame_again}
use Rattle.mvd_frames.proofs.RequestLaws.{requests_again}
use Rattle.mvd_frames.proofs.ReplyLaws.{replies_again}
use Rattle.mvd_wire.proofs.Laws.{IsBytes, wide32, IsBytes-take, bind_ok, guard_ok, passed_ok, ok_is}

all_bytes : (bytes : List ℕ) → All (λ b. b < 256) bytes → IsBytes bytes
all_bytes bytes fits i =
    elim (cases_lt i (length bytes)) [
      | inl lt ↦ All-get_or (λ b. b < 256) bytes i 0 lt fits
      | inr le ↦ rw (get_or_past bytes i 0 le) (omega arith)
    ]

none_some : {A : Type 0} (a b : List ℕ) (x : A) (r : Result (Option A × List ℕ) Refusal) → r ≡ Ok (None, a) → r ≡ Ok (Some x, b) → ⊥
none_some {A} a b x r e g =
    let both : (Some x, b) ≡ (None, a) = ok_is (Some x, b) (None, a) (sym g ∙ e) in
    let none : Some x ≡ None = ap (λ (p : Option A × List ℕ). p.0) both in
    absurd cc

some_is : {A : Type 0} (x y : A) → Some x ≡ Some y → x ≡ y
some_is x y e = cc

-- a test that did not give up
went_on : {A : Type 0} (b : Bool) (d : Refusal) (r : Result A Refusal) (y : A) → cond b (Err d) r ≡ Ok y → (b ≡ false) × (r ≡ Ok y)
went_on true d r y e = absurd cc
went_on false d r y e = (refl, e)

had_bytes : (b : Bool) (r : Result (Option ℕ × List ℕ) Refusal) (n : ℕ) (rest : List ℕ) → cond b (Ok (None, [])) r ≡ Ok (Some n, rest) → r ≡ Ok (Some n, rest)
had_bytes true r n rest e = absurd (none_some [] rest n (Ok (None, [])) refl e)
had_bytes false r n rest e = e

-- a length that was read is spelled by the bytes that it was read from
length_taken : (bytes : List ℕ) (n : ℕ) (rest : List ℕ) → IsBytes bytes → length_at bytes ≡ Ok (Some n, rest) → (bytes ≡ (number w32).spell n ++ rest) × (1 ≤ n) × (n ≤ frame_limit)
unfolding length_at number
length_taken bytes n rest fits e =
    let value = from_be_bytes w32 (take 4 bytes) in
    let test = leb 1 value && leb value frame_limit in
    let a = had_bytes (eqb (length bytes) 0) (cond (ltb (length bytes) 4) (Err Truncated) (cond test (Ok (Some value, drop 4 bytes)) (Err FrameTooLong))) n rest e in
    let b = went_on (ltb (length bytes) 4) Truncated (cond test (Ok (Some value, drop 4 bytes)) (Err FrameTooLong)) (Some n, rest) a in
    let c = passed_ok test FrameTooLong (Some value, drop 4 bytes) (Some n, rest) b.1 in
    let value-is : value ≡ n = some_is value n (ap (λ (p : Option ℕ × List ℕ). p.0) c.1) in
    let rest-is : drop 4 bytes ≡ rest = ap (λ (p : Option ℕ × List ℕ). p.1) c.1 in
    let in_range = and_true (leb 1 value) (leb value frame_limit) c.0 in
    let long : 4 ≤ length bytes = ltb-false _ _ b.0 in
    let front : (number w32).spell n ≡ take 4 bytes = rw (← value-is) (wide32.back (take 4 bytes) (omega (arith, length-take 4 bytes)) (IsBytes-take 4 bytes fits)) in
    (sym (take-append-drop 4 bytes) ∙ ap (λ (t : List ℕ). t ++ drop 4 bytes) (sym front) ∙ ap (λ (t : List ℕ). (number w32).spell n ++ t) rest-is, rw (← value-is) (leb-true _ _ in_range.0), rw (← value-is) (leb-true _ _ in_range.1))

abbrev IsBodyOf : ℕ → List ℕ → FrameValue × List ℕ → Type 0
IsBodyOf n bytes x = (bytes ≡ (x.0.kind ∷ x.0.payload) ++ x.1) × (length x.0.payload + 1 ≡ n)

body_parts : (n : ℕ) (bytes : List ℕ) → 1 ≤ n → n ≤ length bytes → IsBodyOf n bytes (record { kind = slice_index bytes 0; payload = take (n - 1) (drop 1 bytes) }, drop n bytes)
body_parts zero bytes some long = absurd (omega (arith, some))
body_parts (suc m) [] some long = absurd (omega (arith, long))
body_parts (suc m) (b ∷ bs) some long =
    let less : suc m - 1 ≡ m = omega arith in
    rw less (ap (λ (t : List ℕ). b ∷ t) (sym (take-append-drop m bs)), omega (arith, length-take m bs, long))

body_taken : (n : ℕ) (bytes : List ℕ) (f : FrameValue) (rest : List ℕ) → 1 ≤ n → body_at n bytes ≡ Ok (f, rest) → IsBodyOf n bytes (f, rest)
unfolding body_at
body_taken n bytes f rest some e =
    let g = guard_ok (ltb (length bytes) n) Truncated (record { kind = slice_index bytes 0; payload = take (n - 1) (drop 1 bytes) }, drop n bytes) (f, rest) e in
    subst (IsBodyOf n bytes) g.1 (body_parts n bytes some (ltb-false _ _ g.0))

pair_is : (x : FrameValue × List ℕ) (f : FrameValue) (rest : List ℕ) → x.0 ≡ f → x.1 ≡ rest → x ≡ (f, rest)
pair_is (g, r) f rest p q = ap (λ (h : FrameValue). (h, r)) p ∙ ap (λ (t : List ℕ). (f, t)) q

behind_some : (x : Option ℕ × List ℕ) (f : FrameValue) (rest : List ℕ) → frame_behind x ≡ Ok (Some f, rest) → (n : ℕ) × (x.0 ≡ Some n) × (body_at n x.1 ≡ Ok (f, rest))
behind_some (None, r) f rest e = absurd (none_some r rest f (Ok (None, r)) refl e)
behind_some (Some n, r) f rest e =
    let b = bind_ok (body_at n r) (λ g. Ok (Some g.0, g.1)) (Some f, rest) e in
    let both : (Some b.0.0, b.0.1) ≡ (Some f, rest) = ok_is (Some b.0.0, b.0.1) (Some f, rest) b.2 in
    let frame-is : b.0.0 ≡ f = some_is b.0.0 f (ap (λ (p : Option FrameValue × List ℕ). p.0) both) in
    let rest-is : b.0.1 ≡ rest = ap (λ (p : Option FrameValue × List ℕ). p.1) both in
    (n, refl, b.1 ∙ ap (λ (p : FrameValue × List ℕ). Ok p) (pair_is b.0 f rest frame-is rest-is))

length_pair : (x : Option ℕ × List ℕ) (n : ℕ) → x.0 ≡ Some n → x ≡ (Some n, x.1)
length_pair (o, r) n e = ap (λ (p : Option ℕ). (p, r)) e

-- where bytes are read as a frame, they begin with its spelling
pub frame_taken : (bytes : List ℕ) (f : FrameValue) (rest : List ℕ) → All (λ b. b < 256) bytes → frame_at bytes ≡ Ok (Some f, rest) → (bytes ≡ spell_frame f ++ rest) × (length f.payload + 1 ≤ frame_limit)
unfolding frame_at
frame_taken bytes f rest fits e =
    let a = bind_ok (length_at bytes) frame_behind (Some f, rest) e in
    let b = behind_some a.0 f rest a.2 in
    let head = length_taken bytes b.0 a.0.1 (all_bytes bytes fits) (a.1 ∙ ap (λ (p : Option ℕ × List ℕ). Ok p) (length_pair a.0 b.0 b.1)) in
    let body = body_taken b.0 a.0.1 f rest head.1 b.2 in
    let all : bytes ≡ (number w32).spell b.0 ++ ((f.kind ∷ f.payload) ++ rest) = head.0 ∙ ap (λ (t : List ℕ). (number w32).spell b.0 ++ t) body.0 in
    (all ∙ rw (← body.1) (sym (append_assoc ((number w32).spell (length f.payload + 1)) (f.kind ∷ f.payload) rest)), omega (arith, head.2, body.1))

-- the length, where the tests let it pass
abbrev length_passed : ℕ → List ℕ → Bool → Bool → Result (Option ℕ × List ℕ) Refusal
length_passed value rest short test = cond short (Err Truncated) (cond test (Ok (Some value, rest)) (Err FrameTooLong))

length_is_some : (bytes : List ℕ) (value : ℕ) (b test : Bool) (rest : List ℕ) → length_passed value (drop 4 bytes) b test ≡ Ok (None, rest) → ⊥
length_is_some bytes value b test rest e =
    let r : Result (Option ℕ × List ℕ) Refusal = cond test (Ok (Some value, drop 4 bytes)) (Err FrameTooLong) in
    let a = went_on b Truncated r (None, rest) e in
    let c = passed_ok test FrameTooLong (Some value, drop 4 bytes) (None, rest) a.1 in
    none_some rest (drop 4 bytes) value (Ok (None, rest)) refl (ap (λ (p : Option ℕ × List ℕ). Ok p) (sym c.1))

had_none : (b : Bool) (r : Result (Option ℕ × List ℕ) Refusal) (rest : List ℕ) → (r ≡ Ok (None, rest) → ⊥) → cond b (Ok (None, [])) r ≡ Ok (None, rest) → (b ≡ true) × (rest ≡ [])
had_none true r rest never e = (refl, sym (ap (λ (p : Option ℕ × List ℕ). p.1) (ok_is (None, []) (None, rest) e)))
had_none false r rest never e = absurd (never e)

no_length : (bytes : List ℕ) (rest : List ℕ) → length_at bytes ≡ Ok (None, rest) → (bytes ≡ []) × (rest ≡ [])
unfolding length_at
no_length bytes rest e =
    let value = from_be_bytes w32 (take 4 bytes) in
    let test = leb 1 value && leb value frame_limit in
    let r = length_passed value (drop 4 bytes) (ltb (length bytes) 4) test in
    let a = had_none (eqb (length bytes) 0) r rest (λ h. length_is_some bytes value (ltb (length bytes) 4) test rest h) e in
    (nil_from_length bytes (eqb-true _ _ a.0), a.1)

behind_none : (x : Option ℕ × List ℕ) (rest : List ℕ) → frame_behind x ≡ Ok (None, rest) → x ≡ (None, rest)
behind_none (None, r) rest e =
    let same : r ≡ rest = ap (λ (p : Option FrameValue × List ℕ). p.1) (ok_is (None, r) (None, rest) e) in
    ap (λ (t : List ℕ). (None, t)) same
behind_none (Some n, r) rest e =
    let b = bind_ok (body_at n r) (λ g. Ok (Some g.0, g.1)) (None, rest) e in
    absurd (none_some rest b.0.1 b.0.0 (Ok (None, rest)) refl (sym b.2))

-- where no frame is read, there is no byte
pub no_frame_taken : (bytes : List ℕ) (rest : List ℕ) → frame_at bytes ≡ Ok (None, rest) → (bytes ≡ []) × (rest ≡ [])
unfolding frame_at
no_frame_taken bytes rest e =
    let a = bind_ok (length_at bytes) frame_behind (None, rest) e in
    no_length bytes rest (a.1 ∙ ap (λ (p : Option ℕ × List ℕ). Ok p) (behind_none a.0 rest a.2))

-- no frame begins another
pub frames_differ : (f g : FrameValue) (a b : List ℕ) → length f.payload + 1 ≤ frame_limit → length g.payload + 1 ≤ frame_limit → spell_frame f ++ a ≡ spell_frame g ++ b → (f ≡ g) × (a ≡ b)
frames_differ f g a b few_f few_g e =
    let both : (Some f, a) ≡ (Some g, b) = ok_is (Some f, a) (Some g, b) (sym (frame_again f a few_f) ∙ ap frame_at e ∙ frame_again g b few_g) in
    (some_is f g (ap (λ (p : Option FrameValue × List ℕ). p.0) both), ap (λ (p : Option FrameValue × List ℕ). p.1) both)

pub requests_differ : (r s : Request) (a b : List ℕ) → IsRequest r → IsRequest s → length (asked.request_payload r) + 1 ≤ frame_limit → length (asked.request_payload s) + 1 ≤ frame_limit → request_bytes r ++ a ≡ request_bytes s ++ b → (r ≡ s) × (a ≡ b)
requests_differ r s a b is_r is_s few_r few_s e =
    let f : FrameValue = record { kind = asked.request_kind r; payload = asked.request_payload r } in
    let g : FrameValue = record { kind = asked.request_kind s; payload = asked.request_payload s } in
    let parts = frames_differ f g a b few_r few_s e in
    (ok_is r s (sym (requests_again r is_r) ∙ ap (λ (h : FrameValue). request_of h.kind h.payload) parts.0 ∙ requests_again s is_s), parts.1)

pub replies_differ : (r s : Reply) (a b : List ℕ) → IsReply r → IsReply s → length (told.reply_payload r) + 1 ≤ frame_limit → length (told.reply_payload s) + 1 ≤ frame_limit → reply_bytes r ++ a ≡ reply_bytes s ++ b → (r ≡ s) × (a ≡ b)
replies_differ r s a b is_r is_s few_r few_s e =
    let f : FrameValue = record { kind = told.reply_kind r; payload = told.reply_payload r } in
    let g : FrameValue = record { kind = told.reply_kind s; payload = told.reply_payload s } in
    let parts = frames_differ f g a b few_r few_s e in
    (ok_is r s (sym (replies_again r is_r) ∙ ap (λ (h : FrameValue). reply_of h.kind h.payload) parts.0 ∙ replies_again s is_s), parts.1)
