use Rattle.std.proofs.Common.{ap, ◌∙◌, ◌+◌, ◌*◌, ◌/◌}
use Rattle.std.specs.Prelude.{slice_index}
use Rattle.mvd_digest.specs.Sha256.{sha256}
use Rattle.mvd_tree.specs.Layout.{bucket_of}
use Rattle.mvd_tree.proofs.buckets.bucket_number.Goals as goal

pub returns-clause-number : goal.returns-clause-number
unfolding bucket_of
returns-clause-number c =
    ap (λ d. slice_index d 0 * 16 + slice_index d 1 / 16) (c.text_digest-digest.ensures.digest ∙ ap sha256 (c.as_bytes.ensures.value ∙ c.text.ensures.same))
