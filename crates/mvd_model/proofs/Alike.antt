-- Of the definitions a question counts those alone of which it speaks.
use Rattle.std.proofs.Common.{◌≡◌, ◌&&◌, if◌then◌else◌, filter, List, Ok, Err, refl, ap}
use Rattle.std.specs.Ordering.{eq_by_cmp}
use Rattle.mvd_dots.specs.declared.refusals.Refusal.TheVariants.{NoIndex}
use Rattle.mvd_docs.specs.Term.{term_cmp}
use Rattle.mvd_keys.specs.Writes.{Write}
use Rattle.mvd_rows.specs.Answers.{is_place_after, is_after_place, is_between, page_of, places_in, row_of_view, rows_of_view}
use Rattle.mvd_rows.specs.Visible.{visible_in}
use Rattle.mvd_wire.specs.declared.request.Request.{Request}
use Rattle.mvd_wire.specs.declared.request.Request.TheVariants.{Get, Put, Delete, Find, Row, Rows, Node, Bucket, Push, Range, Keys, Conflicts, Hello, Bye}
use Rattle.mvd_kept.specs.Answer.{States, answer, answer_from, places_reply, row_reply, rows_reply, states_of}
use Rattle.mvd_kept.specs.Config.{ConfigValue}
use Rattle.mvd_model.specs.Alike.{SpeakAlike}

spoken_from : (c d : ConfigValue) (m : States) (request : Request) → SpeakAlike c.defs d.defs request → answer_from c m request ≡ answer_from d m request
spoken_from c d m (Find field term after) h =
    ap (λ b. places_reply (if b then Ok (page_of (filter (λ p. eq_by_cmp term_cmp term p.term && is_place_after after p) (places_in field (visible_in m)))) else Err NoIndex)) h
spoken_from c d m (Range field from to after) h =
    ap (λ b. places_reply (if b then Ok (page_of (filter (λ p. is_between from to p.term && is_after_place after p) (places_in field (visible_in m)))) else Err NoIndex)) h
spoken_from c d m (Row view term) h = ap (λ v. row_reply (row_of_view (visible_in m) term v)) h
spoken_from c d m (Rows view after) h = ap (λ v. rows_reply (rows_of_view (visible_in m) after v)) h
spoken_from c d m (Get key) h = refl
spoken_from c d m (Node path) h = refl
spoken_from c d m (Bucket path after) h = refl
spoken_from c d m (Keys prefix after) h = refl
spoken_from c d m (Conflicts after) h = refl
spoken_from c d m (Put key seen document) h = cc
spoken_from c d m (Delete key seen) h = cc
spoken_from c d m (Push key pushed) h = cc
spoken_from c d m (Hello token) h = cc
spoken_from c d m Bye h = cc

pub spoken : (c d : ConfigValue) (known : List Write) (request : Request) → SpeakAlike c.defs d.defs request → answer c known request ≡ answer d known request
spoken c d known request h = spoken_from c d (states_of known) request h
