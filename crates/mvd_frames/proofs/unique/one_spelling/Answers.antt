use Rattle.mvd_wire.specs.Codec.{optional}
use Rattle.mvd_wire.specs.Codecs.{layout1, layout2, dot, entry, context_codec, sibling, key, document, path, prefix, token, state_codec}
use Rattle.mvd_wire.specs.Rows.{digests_codec, ends, field, key_count, key_entry, page, place, row_codec, spot_codec, sum, term, view_name, view_row}
use Rattle.mvd_frames.proofs.RowLaws.{lawful_digests, lawful_ends, lawful_field, lawful_key_count, lawful_key_entry, lawful_optional, lawful_page, lawful_place, lawful_row, lawful_spot, lawful_sum, lawful_term, lawful_view_name, lawful_view_row}
use Rattle.mvd_frames.proofs.FrameLemmas.{frame_again}
use Rattle.mvd_frames.proofs.FramesRead.{frame_taken, no_frame_taken, frames_differ, requests_differ, replies_differ}
use Rattle.mvd_wire.proofs.Laws.{prefix_free}
use Rattle.mvd_wire.proofs.CodecLaws.{wide_layout1, wide_layout2, lawful_dot, lawful_entry, lawful_context, lawful_sibling, lawful_key, lawful_document, lawful_path, lawful_prefix, lawful_token, lawful_state}
use Rattle.mvd_frames.proofs.unique.one_spelling.Goals as goal

pub returns : goal.returns
returns c = record {
  dots = prefix_free (dot layout2) (lawful_dot layout2 wide_layout2);
  entries_of_contexts = λ previous. prefix_free (entry layout2 previous) (lawful_entry layout2 wide_layout2 previous);
  contexts = prefix_free (context_codec layout2) (lawful_context layout2 wide_layout2);
  keys = prefix_free key lawful_key;
  documents = prefix_free document lawful_document;
  paths = prefix_free path lawful_path;
  prefixes = prefix_free prefix lawful_prefix;
  tokens = prefix_free token lawful_token;
  fields = prefix_free field lawful_field;
  view_names = prefix_free view_name lawful_view_name;
  terms = prefix_free term lawful_term;
  places = prefix_free place lawful_place;
  optional_keys = prefix_free (optional key) (lawful_optional key lawful_key);
  optional_terms = prefix_free (optional term) (lawful_optional term lawful_term);
  optional_places = prefix_free (optional place) (lawful_optional place lawful_place);
  optional_keys_with_dots = prefix_free (optional spot_codec) (lawful_optional spot_codec lawful_spot);
  sums = prefix_free sum lawful_sum;
  ends_of_rows = prefix_free ends lawful_ends;
  rows = prefix_free row_codec lawful_row;
  view_rows = prefix_free view_row lawful_view_row;
  key_entries = prefix_free key_entry lawful_key_entry;
  key_counts = prefix_free key_count lawful_key_count;
  digests_of_nodes = prefix_free digests_codec lawful_digests;
  lists_of_places = prefix_free (page place) (lawful_page place lawful_place);
  lists_of_view_rows = prefix_free (page view_row) (lawful_page view_row lawful_view_row);
  lists_of_key_entries = prefix_free (page key_entry) (lawful_page key_entry lawful_key_entry);
  lists_of_key_counts = prefix_free (page key_count) (lawful_page key_count lawful_key_count);
  siblings = λ dots previous. prefix_free (sibling layout2 dots previous) (lawful_sibling layout2 wide_layout2 dots previous);
  states = prefix_free (state_codec layout2) (lawful_state layout2 wide_layout2);
  old_states = prefix_free (state_codec layout1) (lawful_state layout1 wide_layout1);
  frames_apart = frames_differ;
  requests = requests_differ;
  replies = replies_differ;
  frames = frame_again;
  frames_read = frame_taken;
  no_frame = no_frame_taken;
}
