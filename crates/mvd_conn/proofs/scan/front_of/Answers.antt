use Rattle.std.proofs.Common.{◌≡◌, take, sym, ap, ◌∙◌, arith, inl, inr}
use Rattle.std.specs.Int.{w32, from_be_bytes}
use Rattle.mvd_conn.proofs.FrontLemmas.{cut_front, long_front, short_front, whole_front}
use Rattle.mvd_conn.proofs.scan.front_of.Goals as goal

pub returns-then-bytes-lt4 : goal.returns-then-bytes-lt4
returns-then-bytes-lt4 c = short_front c.args.bytes.now c.if-bytes-lt4.true

pub returns-then-length-eq0 : goal.returns-then-length-eq0
returns-then-length-eq0 c =
    let bytes = c.args.bytes.now in
    let value : from_be_bytes w32 (take 4 bytes) ≡ c.from_be_bytes-length.result = sym (c.from_be_bytes-length.ensures ∙ ap (from_be_bytes w32) c.copy_from_slice.ensures.after) in
    long_front bytes c.if-bytes-lt4.false (elim c.then-length-eq0.either [ inl none ↦ inl (value ∙ none) | inr over ↦ inr (rw value over.1) ])

pub returns-then-bytes-length : goal.returns-then-bytes-length
returns-then-bytes-length c =
    let bytes = c.args.bytes.now in
    let value : from_be_bytes w32 (take 4 bytes) ≡ c.from_be_bytes-length.result = sym (c.from_be_bytes-length.ensures ∙ ap (from_be_bytes w32) c.copy_from_slice.ensures.after) in
    cut_front bytes c.from_be_bytes-length.result value c.if-bytes-lt4.false (omega (arith, c.if-length-eq0.false)) c.if-length-gt-FRAME_LIMIT.false c.if-bytes-length.true

pub returns : goal.returns
returns c =
    let bytes = c.args.bytes.now in
    let value : from_be_bytes w32 (take 4 bytes) ≡ c.from_be_bytes-length.result = sym (c.from_be_bytes-length.ensures ∙ ap (from_be_bytes w32) c.copy_from_slice.ensures.after) in
    whole_front bytes c.from_be_bytes-length.result (λ i. omega (arith, c.type_inv.bytes i)) value (omega (arith, c.if-length-eq0.false)) c.if-length-gt-FRAME_LIMIT.false (omega (arith, c.if-bytes-length.false, c.if-bytes-lt4.false))
