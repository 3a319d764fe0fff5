-- What is decoded is what was spelled, and what was spelled is decoded.
use Rattle.std.proofs.Common.{◌≡◌, ℕ, List, Result, Ok, Err, refl, ap, subst, ◌∙◌}
use Rattle.std.specs.Prelude.{IfOk}
use Rattle.mvd_dots.specs.declared.refusals.Refusal.{Refusal}
use Rattle.mvd_dots.specs.declared.refusals.Refusal.TheVariants.{BadKind}
use Rattle.mvd_dots.specs.Answer.{IsAnswer}
use Rattle.mvd_wire.specs.declared.request.Request.{Request}
use Rattle.mvd_wire.specs.declared.request.Request.TheVariants.{Get, Put, Delete, Find, Row, Rows, Node, Bucket, Push, Range, Keys, Conflicts, Hello, Bye}
use Rattle.mvd_wire.specs.Codec.{followed, nothing, optional}
use Rattle.mvd_wire.specs.Codecs.{layout2, key, context_codec, document, path, prefix, token, state_codec}
use Rattle.mvd_wire.specs.Rows.{field, view_name, term, spot_codec, place}
use Rattle.mvd_wire.specs.Requests.{request_of, put, delete, find_codec, row_of_view_codec, rows_of_view_codec, bucket, push, range, keys_of_prefix, SpellsRequest, IsRequest, request_kind, request_payload}
use Rattle.mvd_wire.proofs.Laws.{IsBytes, IsLawful, whole_again, lawful_followed}
use Rattle.mvd_wire.proofs.CodecLaws.{wide_layout2, lawful_key, lawful_context, lawful_document, lawful_path, lawful_prefix, lawful_token, lawful_state}
use Rattle.mvd_frames.proofs.RowLaws.{lawful_field, lawful_view_name, lawful_term, lawful_spot, lawful_place, lawful_optional}
use Rattle.mvd_frames.proofs.Tagged.{Decodes, decodes_tagged, lawful_nothing}

pub lawful_put : IsLawful put
unfolding put
lawful_put = lawful_followed key (λ _. followed (context_codec layout2) (λ _. document)) lawful_key
    (λ _. lawful_followed (context_codec layout2) (λ _. document) (lawful_context layout2 wide_layout2) (λ _. lawful_document))

pub lawful_delete : IsLawful delete
unfolding delete
lawful_delete = lawful_followed key (λ _. context_codec layout2) lawful_key (λ _. lawful_context layout2 wide_layout2)

pub lawful_push : IsLawful push
unfolding push
lawful_push = lawful_followed key (λ _. state_codec layout2) lawful_key (λ _. lawful_state layout2 wide_layout2)

lawful_find : IsLawful find_codec
unfolding find_codec
lawful_find = lawful_followed field (λ _. followed term (λ _. optional spot_codec)) lawful_field
    (λ _. lawful_followed term (λ _. optional spot_codec) lawful_term (λ _. lawful_optional spot_codec lawful_spot))

lawful_row_of_view : IsLawful row_of_view_codec
unfolding row_of_view_codec
lawful_row_of_view = lawful_followed view_name (λ _. term) lawful_view_name (λ _. lawful_term)

lawful_rows_of_view : IsLawful rows_of_view_codec
unfolding rows_of_view_codec
lawful_rows_of_view = lawful_followed view_name (λ _. optional term) lawful_view_name (λ _. lawful_optional term lawful_term)

lawful_bucket : IsLawful bucket
unfolding bucket
lawful_bucket = lawful_followed path (λ _. optional key) lawful_path (λ _. lawful_optional key lawful_key)

lawful_range : IsLawful range
unfolding range
lawful_range = lawful_followed field (λ _. followed term (λ _. followed term (λ _. optional place))) lawful_field
    (λ _. lawful_followed term (λ _. followed term (λ _. optional place)) lawful_term
    (λ _. lawful_followed term (λ _. optional place) lawful_term (λ _. lawful_optional place lawful_place)))

lawful_keys_of_prefix : IsLawful keys_of_prefix
unfolding keys_of_prefix
lawful_keys_of_prefix = lawful_followed prefix (λ _. optional key) lawful_prefix (λ _. lawful_optional key lawful_key)

decodes_requests : Decodes SpellsRequest request_of
decodes_requests =
    decodes_tagged SpellsRequest 0x21 key Get _ lawful_key (λ x fits. (fits, refl, refl))
    (decodes_tagged SpellsRequest 0x22 put (λ p. Put p.0 p.1.0 p.1.1) _ lawful_put (λ x fits. (fits, refl, refl))
    (decodes_tagged SpellsRequest 0x23 delete (λ p. Delete p.0 p.1) _ lawful_delete (λ x fits. (fits, refl, refl))
    (decodes_tagged SpellsRequest 0x24 find_codec (λ p. Find p.0 p.1.0 p.1.1) _ lawful_find (λ x fits. (fits, refl, refl))
    (decodes_tagged SpellsRequest 0x25 row_of_view_codec (λ p. Row p.0 p.1) _ lawful_row_of_view (λ x fits. (fits, refl, refl))
    (decodes_tagged SpellsRequest 0x26 rows_of_view_codec (λ p. Rows p.0 p.1) _ lawful_rows_of_view (λ x fits. (fits, refl, refl))
    (decodes_tagged SpellsRequest 0x27 path Node _ lawful_path (λ x fits. (fits, refl, refl))
    (decodes_tagged SpellsRequest 0x28 bucket (λ p. Bucket p.0 p.1) _ lawful_bucket (λ x fits. (fits, refl, refl))
    (decodes_tagged SpellsRequest 0x29 push (λ p. Push p.0 p.1) _ lawful_push (λ x fits. (fits, refl, refl))
    (decodes_tagged SpellsRequest 0x2A range (λ p. Range p.0 p.1.0 p.1.1.0 p.1.1.1) _ lawful_range (λ x fits. (fits, refl, refl))
    (decodes_tagged SpellsRequest 0x2B keys_of_prefix (λ p. Keys p.0 p.1) _ lawful_keys_of_prefix (λ x fits. (fits, refl, refl))
    (decodes_tagged SpellsRequest 0x2C (optional key) Conflicts _ (lawful_optional key lawful_key) (λ x fits. (fits, refl, refl))
    (decodes_tagged SpellsRequest 0x2D token Hello _ lawful_token (λ x fits. (fits, refl, refl))
    (decodes_tagged SpellsRequest 0x2F nothing (λ _. Bye) (λ _ _. Err BadKind) lawful_nothing (λ x fits. (tt, refl, refl))
    (λ kind payload y bytes e. absurd cc))))))))))))))

pub requests_again : (r : Request) → IsRequest r → request_of (request_kind r) (request_payload r) ≡ Ok r
requests_again (Get k) fits = rw (whole_again key lawful_key k fits) refl
requests_again (Put k c d) fits = rw (whole_again put lawful_put (k, (c, d)) fits) refl
requests_again (Delete k c) fits = rw (whole_again delete lawful_delete (k, c) fits) refl
requests_again (Find f t after) fits = rw (whole_again find_codec lawful_find (f, (t, after)) fits) refl
requests_again (Row v t) fits = rw (whole_again row_of_view_codec lawful_row_of_view (v, t) fits) refl
requests_again (Rows v after) fits = rw (whole_again rows_of_view_codec lawful_rows_of_view (v, after) fits) refl
requests_again (Node p) fits = rw (whole_again path lawful_path p fits) refl
requests_again (Bucket p after) fits = rw (whole_again bucket lawful_bucket (p, after) fits) refl
requests_again (Range f from to after) fits = rw (whole_again range lawful_range (f, (from, (to, after))) fits) refl
requests_again (Push k s) fits = rw (whole_again push lawful_push (k, s) fits) refl
requests_again (Keys p after) fits = rw (whole_again keys_of_prefix lawful_keys_of_prefix (p, after) fits) refl
requests_again (Conflicts after) fits = rw (whole_again (optional key) (lawful_optional key lawful_key) after fits) refl
requests_again (Hello t) fits = rw (whole_again token lawful_token t fits) refl
requests_again Bye fits = refl

module _ (kind : ℕ) (payload : List ℕ) where
  pub request_found : IsBytes payload → (r : Result Request Refusal) → IsAnswer r (request_of kind payload) → IfOk r (λ x. SpellsRequest x kind payload)
  request_found bytes (Ok x) given = decodes_requests kind payload x bytes given
  request_found bytes (Err e) given = tt

  pub request_only : (r : Result Request Refusal) → IsAnswer r (request_of kind payload) → (y : Request) → SpellsRequest y kind payload → IsAnswer r (Ok y)
  request_only r given y spelled =
      let e : request_of kind payload ≡ Ok y = ap (λ (k : ℕ). request_of k payload) spelled.1 ∙ ap (request_of (request_kind y)) spelled.2 ∙ requests_again y spelled.0 in
      subst (λ (f : Result Request Refusal). IsAnswer r f) e given
