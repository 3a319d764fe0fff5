-- To a question, of the configuration only the definitions count.
use Rattle.std.proofs.Common.{◌≡◌, true, List, refl, sym, ap, ◌∙◌}
use Rattle.mvd_keys.specs.Writes.{Stands, Write}
use Rattle.mvd_rows.specs.Answers.{find_answer, range_answer, row_answer, rows_answer}
use Rattle.mvd_rows.specs.Visible.{visible_in}
use Rattle.mvd_wire.specs.declared.request.Request.{Request}
use Rattle.mvd_wire.specs.declared.request.Request.TheVariants.{Get, Put, Delete, Find, Row, Rows, Node, Bucket, Push, Range, Keys, Conflicts, Hello, Bye}
use Rattle.mvd_kept.specs.Answer.{answer, is_question, places_reply, row_reply, rows_reply, states_of}
use Rattle.mvd_kept.specs.Config.{ConfigValue}
use Rattle.mvd_kept.specs.FromStates.{after_from, answer_from}
use Rattle.mvd_kept.specs.Held.{States}
use Rattle.mvd_kept.proofs.Answered.{answered}

pub from_states : (a b : ConfigValue) (m : States) (request : Request) → a.defs ≡ b.defs → is_question request ≡ true → answer_from a m request ≡ answer_from b m request
from_states a b m (Get key) same asks = refl
from_states a b m (Put key seen document) same asks = cc
from_states a b m (Delete key seen) same asks = cc
from_states a b m (Push key pushed) same asks = cc
from_states a b m (Find field term after) same asks = ap (λ d. places_reply (find_answer d (visible_in m) field term after)) same
from_states a b m (Range field from to after) same asks = ap (λ d. places_reply (range_answer d (visible_in m) field from to after)) same
from_states a b m (Row view term) same asks = ap (λ d. row_reply (row_answer d (visible_in m) view term)) same
from_states a b m (Rows view after) same asks = ap (λ d. rows_reply (rows_answer d (visible_in m) view after)) same
from_states a b m (Node path) same asks = refl
from_states a b m (Bucket path after) same asks = refl
from_states a b m (Keys prefix after) same asks = refl
from_states a b m (Conflicts after) same asks = refl
from_states a b m (Hello token) same asks = cc
from_states a b m Bye same asks = cc

pub from_writes : (a b : ConfigValue) (known : List Write) (request : Request) → a.defs ≡ b.defs → is_question request ≡ true → answer a known request ≡ answer b known request
from_writes a b known request same asks = from_states a b (states_of known) request same asks

-- two maps of states that stand for the same writes
pub standing : (a b : ConfigValue) (m n : States) (known : List Write) (request : Request) → a.defs ≡ b.defs → is_question request ≡ true → Stands m known → Stands n known →
    answer_from a m request ≡ answer_from b n request
standing a b m n known request same asks left right =
    answered a m known request left ∙ from_writes a b known request same asks ∙ sym (answered b n known request right)

-- two sets of writes with the same states
pub known_alike : (a b : ConfigValue) (m : States) (V W : List Write) (request : Request) → a.defs ≡ b.defs → is_question request ≡ true → Stands m V → Stands m W →
    answer a V request ≡ answer b W request
known_alike a b m V W request same asks left right =
    sym (answered a m V request left) ∙ from_states a b m request same asks ∙ answered b m W request right

-- a question changes nothing
pub still : (config : ConfigValue) (m : States) (request : Request) → is_question request ≡ true → after_from config m request ≡ m
still config m (Get key) asks = refl
still config m (Put key seen document) asks = cc
still config m (Delete key seen) asks = cc
still config m (Push key pushed) asks = cc
still config m (Find field term after) asks = refl
still config m (Range field from to after) asks = refl
still config m (Row view term) asks = refl
still config m (Rows view after) asks = refl
still config m (Node path) asks = refl
still config m (Bucket path after) asks = refl
still config m (Keys prefix after) asks = refl
still config m (Conflicts after) asks = refl
still config m (Hello token) asks = cc
still config m Bye asks = cc
