-- What is decoded of a reply is what was spelled, and what was spelled is decoded.
use Rattle.std.proofs.Common.{◌≡◌, ℕ, List, [], ◌∷◌, Option, Some, None, Result, Ok, Err, refl, sym, ap, subst, ◌∙◌}
use Rattle.std.specs.Prelude.{IfOk, ok_or}
use Rattle.mvd_dots.specs.declared.refusals.Refusal.{Refusal}
use Rattle.mvd_dots.specs.declared.refusals.Refusal.TheVariants.{BadBody, BadKind}
use Rattle.mvd_dots.specs.Answer.{IsAnswer}
use Rattle.mvd_dots.specs.Refusal.{number_of}
use Rattle.mvd_wire.specs.declared.reply.Reply.{Reply}
use Rattle.mvd_wire.specs.declared.reply.Reply.TheVariants as reply
use Rattle.mvd_wire.specs.Codec.{◌>>=◌, byte, nothing}
use Rattle.mvd_wire.specs.Codecs.{layout2, dot, state_codec}
use Rattle.mvd_wire.specs.Replies.{refusal, numbered, reply_of, SpellsReply, IsReply, reply_kind, reply_payload}
use Rattle.mvd_wire.proofs.Laws.{IsBytes, IsLawful, Takes, bind_ok, ok_is, whole_again, lawful_byte}
use Rattle.mvd_wire.specs.Rows.{digests_codec, key_count, key_entry, page, place, row_codec, view_row}
use Rattle.mvd_frames.proofs.RowLaws.{lawful_digests, lawful_key_count, lawful_key_entry, lawful_page, lawful_place, lawful_row, lawful_view_row}
use Rattle.mvd_wire.proofs.CodecLaws.{wide_layout2, lawful_dot, lawful_state}
use Rattle.mvd_wire.proofs.Spellings.{codec_is}
use Rattle.mvd_frames.proofs.RefusalNumbers.{own_number, number_back}
use Rattle.mvd_frames.proofs.Tagged.{Decodes, decodes_tagged, lawful_nothing}

told : (found : Option Refusal) (r : Refusal) → ok_or found BadBody ≡ Ok r → found ≡ Some r
told (Some q) r e = ap Some (ok_is q r e)
told None r e = absurd cc

pub lawful_refusal : IsLawful refusal
unfolding refusal
lawful_refusal = record {
  again = λ r rest fits. rw (own_number r) refl;
  takes = λ bytes x fits e.
      let a = bind_ok (byte.read bytes) (λ n. ok_or (numbered n.0) BadBody >>= λ r. Ok (r, n.1)) x e in
      let b = bind_ok (ok_or (numbered a.0.0) BadBody) (λ r. Ok (r, a.0.1)) x a.2 in
      let t = lawful_byte.takes bytes a.0 fits a.1 in
      let n : a.0.0 ≡ number_of b.0 = sym (number_back a.0.0 b.0 (told (numbered a.0.0) b.0 b.1)) in
      let at : Takes bytes (number_of b.0 ∷ []) a.0.1 = subst (λ (m : ℕ). Takes bytes (m ∷ []) a.0.1) n t.0 in
      subst (λ (y : Refusal × List ℕ). Takes bytes (number_of y.0 ∷ []) y.1 × Unit {0}) (ok_is (b.0, a.0.1) x b.2) (at, tt);
}

decodes_replies : Decodes SpellsReply reply_of
decodes_replies =
    decodes_tagged SpellsReply 0xA1 (state_codec layout2) reply.State _ (lawful_state layout2 wide_layout2) (λ x fits. (fits, refl, codec_is x))
    (decodes_tagged SpellsReply 0xA2 (dot layout2) reply.Written _ (lawful_dot layout2 wide_layout2) (λ x fits. (fits, refl, refl))
    (decodes_tagged SpellsReply 0xA3 nothing (λ _. reply.Done) _ lawful_nothing (λ x fits. (tt, refl, refl))
    (decodes_tagged SpellsReply 0xA4 (page place) (λ p. reply.Places p.0 p.1) _ (lawful_page place lawful_place) (λ x fits. (fits, refl, refl))
    (decodes_tagged SpellsReply 0xA5 row_codec reply.Row _ lawful_row (λ x fits. (fits, refl, refl))
    (decodes_tagged SpellsReply 0xA6 (page view_row) (λ p. reply.Rows p.0 p.1) _ (lawful_page view_row lawful_view_row) (λ x fits. (fits, refl, refl))
    (decodes_tagged SpellsReply 0xA7 digests_codec reply.Digests _ lawful_digests (λ x fits. (fits, refl, refl))
    (decodes_tagged SpellsReply 0xA8 (page key_entry) (λ p. reply.Keys p.0 p.1) _ (lawful_page key_entry lawful_key_entry) (λ x fits. (fits, refl, refl))
    (decodes_tagged SpellsReply 0xA9 (page key_count) (λ p. reply.Counts p.0 p.1) _ (lawful_page key_count lawful_key_count) (λ x fits. (fits, refl, refl))
    (decodes_tagged SpellsReply 0xEE refusal reply.Refused (λ _ _. Err BadKind) lawful_refusal (λ x fits. (fits, refl, refl))
    (λ kind payload y bytes e. absurd cc))))))))))

pub replies_again : (r : Reply) → IsReply r → reply_of (reply_kind r) (reply_payload r) ≡ Ok r
replies_again (reply.State s) fits = rw (← codec_is s, whole_again (state_codec layout2) (lawful_state layout2 wide_layout2) s fits) refl
replies_again (reply.Written d) fits = rw (whole_again (dot layout2) (lawful_dot layout2 wide_layout2) d fits) refl
replies_again reply.Done fits = refl
replies_again (reply.Places ps more) fits = rw (whole_again (page place) (lawful_page place lawful_place) (ps, more) fits) refl
replies_again (reply.Row r) fits = rw (whole_again row_codec lawful_row r fits) refl
replies_again (reply.Rows rs more) fits = rw (whole_again (page view_row) (lawful_page view_row lawful_view_row) (rs, more) fits) refl
replies_again (reply.Digests d) fits = rw (whole_again digests_codec lawful_digests d fits) refl
replies_again (reply.Keys ks more) fits = rw (whole_again (page key_entry) (lawful_page key_entry lawful_key_entry) (ks, more) fits) refl
replies_again (reply.Counts cs more) fits = rw (whole_again (page key_count) (lawful_page key_count lawful_key_count) (cs, more) fits) refl
replies_again (reply.Refused r) fits = rw (whole_again refusal lawful_refusal r fits) refl

module _ (kind : ℕ) (payload : List ℕ) where
  pub reply_found : IsBytes payload → (r : Result Reply Refusal) → IsAnswer r (reply_of kind payload) → IfOk r (λ x. SpellsReply x kind payload)
  reply_found bytes (Ok x) given = decodes_replies kind payload x bytes given
  reply_found bytes (Err e) given = tt

  pub reply_only : (r : Result Reply Refusal) → IsAnswer r (reply_of kind payload) → (y : Reply) → SpellsReply y kind payload → IsAnswer r (Ok y)
  reply_only r given y spelled =
      let e : reply_of kind payload ≡ Ok y = ap (λ (k : ℕ). reply_of k payload) spelled.1 ∙ ap (reply_of (reply_kind y)) spelled.2 ∙ replies_again y spelled.0 in
      subst (λ (f : Result Reply Refusal). IsAnswer r f) e given
