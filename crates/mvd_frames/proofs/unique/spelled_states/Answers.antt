use Rattle.mvd_wire.proofs.Forms.{fits_of, form_of}
use Rattle.mvd_wire.proofs.Spellings.{codec_is}
use Rattle.mvd_frames.proofs.unique.spelled_states.Goals as goal

pub returns : goal.returns
returns c = record { in_form = form_of; spelled = fits_of; as_codec = codec_is }
