-- A key with a state is told by its text.
use Rattle.std.proofs.Common.{◌≡◌, true, ◌++◌, [], sym, ◌∙◌}
use Rattle.std.proofs.lemmas.List.{append-nil}
use Rattle.mvd_keys.specs.Key.{is_key}
use Rattle.mvd_keys.specs.State.{State, Text}
use Rattle.mvd_wire.specs.Codecs.{layout2, key, state_codec, spell_state}
use Rattle.mvd_wire.proofs.Fits.{key_fits}
use Rattle.mvd_wire.proofs.Laws.{prefix_free}
use Rattle.mvd_wire.proofs.Spellings.{codec_is}
use Rattle.mvd_wire.proofs.CodecLaws.{wide_layout2, lawful_key, lawful_state}

one_state : (s t : State) → (state_codec layout2).Fits s → (state_codec layout2).Fits t → spell_state s ≡ spell_state t → s ≡ t
one_state s t s_fits t_fits same =
    let spelled : (state_codec layout2).spell s ≡ (state_codec layout2).spell t = codec_is s ∙ same ∙ sym (codec_is t) in
    (prefix_free (state_codec layout2) (lawful_state layout2 wide_layout2) s t [] [] s_fits t_fits (append-nil ((state_codec layout2).spell s) ∙ spelled ∙ sym (append-nil ((state_codec layout2).spell t)))).0

pub one_text_of : (k l : Text) (s t : State) → is_key k ≡ true → is_key l ≡ true → (state_codec layout2).Fits s → (state_codec layout2).Fits t → key.spell k ++ spell_state s ≡ key.spell l ++ spell_state t → (k ≡ l) × (s ≡ t)
one_text_of k l s t k_is l_is s_fits t_fits same =
    let parts = prefix_free key lawful_key k l (spell_state s) (spell_state t) (key_fits k k_is) (key_fits l l_is) same in
    (parts.0, one_state s t s_fits t_fits parts.1)
