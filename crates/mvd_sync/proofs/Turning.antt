-- A side's turn, as it stands between two windows of pushes.
use Rattle.std.proofs.Common.{◌≡◌, ◌≢◌, ℕ, false, ◌+◌, ◌<◌, ◌≤◌, inl, inr, List, [], ◌++◌, drop, filter_map, length, map, take, refl, sym, ap, subst, ◌∙◌, arith, length-append, length-drop}
use Rattle.std.specs.Prelude.{All, Result, Ok, IfErr, IfOk}
use Rattle.std.proofs.lemmas.Bool.{cases_lt}
use Rattle.std.proofs.lemmas.List.{length-take, length-take-le, take_all}
use Rattle.std.proofs.lemmas.List.Elements.{All-append, All-nil}
use Rattle.mvd_dots.specs.declared.refusals.Refusal.{Refusal}
use Rattle.mvd_dots.specs.declared.refusals.Refusal.TheVariants.{Broken, Memory}
use Rattle.mvd_keys.specs.State.{State}
use Rattle.mvd_keys.specs.Writes.{Key}
use Rattle.mvd_peer.specs.Sides.{SideOf, is_of_question}
use Rattle.mvd_peer.specs.Windows.{Asked, Ends, Pushes, PushesFirst, for_pushes, manner}
use Rattle.mvd_sync.proofs.Carries.{Carried}
use Rattle.mvd_sync.specs.Machines.{IsUnheard, Pushed, of_answer, of_number, of_questions, refused}
use Rattle.mvd_sync.specs.Meetings.{noted, pushed_pair, taken_from}
use Rattle.mvd_sync.specs.OneTurn.{BeginsTurn, untold}
use Rattle.mvd_sync.proofs.Readings.{ComesToEnd, TakesInFirst, with_left}
use Rattle.mvd_sync.specs.Questions.{IsOfKey, IsWindow, TakesBudget}
use Rattle.mvd_sync.specs.Walking.{Walking}
use Rattle.mvd_sync.specs.declared.meetings.Meeting.{Meeting}
use Rattle.mvd_sync.specs.declared.report.Side.{Side}
use Rattle.mvd_sync.specs.declared.stage.Stage.{Stage}
use Rattle.mvd_sync.specs.declared.telling.Share.{Share}
use Rattle.mvd_sync.specs.declared.turn.Turn.{Turn}
use Rattle.mvd_sync.proofs.Answering.{as_many}
use Rattle.mvd_sync.proofs.Pushing.{FrontPushed, all_pushed, ended_call, ended_for_memory, ended_for_want, ended_told, front_begins, front_on, front_turned}
use Rattle.mvd_sync.proofs.Said.{SaidPushes, none_long, take_of_take}

-- the pairs that were told were pushed, and each answer is of its key
pub record TurnStands {S : Type 0} (s : SideOf S) (name : Side) (before : List Meeting) (turn : Turn) (left left' : ℕ) (old new : S) : Type 0 where
  pub front : FrontPushed s (filter_map (pushed_pair name) before) (untold turn) turn.told.items left left' old new
  pub of_key : All IsOfKey turn.told.items
  pub side : turn.side ≡ name
  pub keys : turn.meetings.items ≡ map (taken_from name) before
  pub pairs : turn.pairs.items ≡ filter_map (pushed_pair name) before
  pub fits : length turn.told.items ≤ length turn.pairs.items
  pub alone : filter_map (pushed_pair name) before ≡ [] → new ≡ old

module _ {S : Type 0} (s : SideOf S) (name : Side) (before : List Meeting) where
  abbrev whole : List (Key × State)
  whole = filter_map (pushed_pair name) before

  pub turn_begins : (turn : Turn) (left : ℕ) (old : S) → s.follows 0 old old → BeginsTurn name before turn → TurnStands s name before turn left left old old
  turn_begins turn left old self begins =
      let none : length turn.told.items ≡ 0 = ap length begins.fresh in
      record {
        front = front_begins s whole turn.pairs.items turn.told.items left old self begins.takes begins.fresh;
        of_key = subst (λ (ts : List (Result (Unit {0}) Refusal)). All IsOfKey ts) (sym begins.fresh) (All-nil IsOfKey);
        side = begins.of_side;
        keys = begins.keys;
        pairs = begins.takes;
        fits = omega (arith, none);
        alone = λ _. refl;
      }

  module _ (turn : Turn) (left left1 : ℕ) (old mid : S) (stands : TurnStands s name before turn left left1 old mid) where
    -- all was told
    pub turn_carried : length turn.pairs.items ≤ length turn.told.items → Carried s name before (noted name turn.meetings.items turn.told.items) (with_left old left) (with_left mid left1)
    turn_carried all =
        let long = length-drop (length turn.told.items) turn.pairs.items in
        let none : untold turn ≡ [] = none_long (untold turn) (omega (arith, long, all)) in
        record {
          told = turn.told.items;
          is = ap (λ ms. noted name ms turn.told.items) stands.keys;
          answered = all_pushed s whole left old turn.told.items left1 mid (subst (λ xs. FrontPushed s whole xs turn.told.items left left1 old mid) none stands.front) stands.of_key;
        }

    -- memory was refused
    pub turn_memory : (refusal : Refusal) → refusal ≡ Memory → ComesToEnd s (TakesInFirst s whole old mid refusal) (length whole) (with_left old left) mid refusal
    turn_memory refusal is = ended_for_memory s whole left old (untold turn) turn.told.items left1 mid refusal stands.front is

    -- some is not told, so there was some
    pub turn_some : length turn.told.items < length turn.pairs.items → whole ≡ [] → ⊥
    turn_some low none = let n : length turn.pairs.items ≡ 0 = ap length (stands.pairs ∙ none) in omega (arith, n, low)

    module _ (on : (m n : ℕ) (old mid new : S) → s.follows m old mid → s.follows n mid new → s.follows (m + n) old new) (stays : (n : ℕ) (old new : S) → s.follows n old new → s.most_keys new ≡ s.most_keys old)
        (left' : ℕ) (new : S) (count : ℕ) (window : IsWindow (untold turn) count) (share : Share) (takes : TakesBudget left1 left' count share.asked) (wanted : share.wanted ≡ count) (low : length turn.told.items < length turn.pairs.items)
        (told : Result (List (Result (Unit {0}) Refusal)) Refusal) (said : SaidPushes s (take left1 (take count (untold turn))) told mid new) where
      within : share.asked ≤ length (untold turn)
      within = let a = takes.most in let b = window.within in omega (arith, a, b)

      cut : take left1 (take count (untold turn)) ≡ take share.asked (untold turn)
      cut =
          let spent = takes.spent in
          let most = takes.most in
          let n = length-take count (untold turn) in
          elim (cases_lt share.asked count) [
            | inl less ↦ let none = takes.all less in ap (λ k. take k (take count (untold turn))) (omega (arith, spent, none)) ∙ take_of_take share.asked count (untold turn) most
            | inr all ↦ take_all left1 (take count (untold turn)) (omega (arith, spent, all, n)) ∙ ap (λ k. take k (untold turn)) (omega (arith, most, all))
          ]

      said_first : SaidPushes s (take share.asked (untold turn)) told mid new
      said_first = subst (λ xs. SaidPushes s xs told mid new) cut said

      module _ (answers : List (Result (Unit {0}) Refusal)) (is : told ≡ Ok answers) where
        asked : Asked (manner s.follows s.can_refuse s.can_answer) for_pushes (take share.asked (untold turn)) answers mid new
        asked = subst (λ r. IfOk r (λ ts. Asked (manner s.follows s.can_refuse s.can_answer) for_pushes (take share.asked (untold turn)) ts mid new)) is said_first.answered

        took : s.is_faithful mid → s.is_faithful new × Pushes (s.most_keys mid) (s.states mid) (take share.asked (untold turn)) answers (s.states new)
        took = subst (λ r. IfOk r (λ ts. s.is_faithful mid → s.is_faithful new × Pushes (s.most_keys mid) (s.states mid) (take share.asked (untold turn)) ts (s.states new))) is said_first.pushes

        many : length answers ≡ share.asked
        many = as_many _ _ answers asked.may ∙ length-take-le share.asked (untold turn) within

        front_more : FrontPushed s whole (drop share.asked (untold turn)) (turn.told.items ++ answers) left left' old new
        front_more = front_on s on stays whole (untold turn) turn.told.items answers left left1 left' share.asked old mid new stands.front takes.spent within asked took

      -- the side told of its pushes
      pub turn_pushed : (walk : Walking) (stage : Stage) → (p : Pushed walk turn told share stage) → TurnStands s name before p.after left left' old new
      turn_pushed walk stage p =
          let same = p.same in
          let pairs = ap (λ v. v.items) same.takes in
          let n = many p.answers p.is in
          let long : length p.after.told.items ≡ length turn.told.items + length p.answers = ap length p.more ∙ length-append turn.told.items p.answers in
          let wide : length p.after.pairs.items ≡ length turn.pairs.items = ap length pairs in
          let all = length-drop (length turn.told.items) turn.pairs.items in
          let few = within in
          record {
            front = front_turned s whole p.after.pairs.items (untold turn) turn.told.items p.answers p.after.told.items left left' old new share.asked (ap (drop (length turn.told.items)) (sym pairs)) p.more n (front_more p.answers p.is);
            of_key = subst (λ (ts : List (Result (Unit {0}) Refusal)). All IsOfKey ts) (sym p.more) (All-append IsOfKey turn.told.items p.answers stands.of_key p.of_key);
            side = same.of_side ∙ stands.side;
            keys = ap (λ v. v.items) same.keys ∙ stands.keys;
            pairs = pairs ∙ stands.pairs;
            fits = omega (arith, n, long, wide, all, few, low);
            alone = λ none. absurd (turn_some low none);
          }

      -- or why it did not
      pub turn_ends : (refusal : Refusal) → IsUnheard told share refusal → ComesToEnd s (TakesInFirst s whole old new refusal) (length whole) (with_left old left) new refusal
      turn_ends refusal (refused e) =
          ended_call s on stays whole (untold turn) turn.told.items [] left left1 left' share.asked old mid new stands.front takes.spent within refusal
          (subst (λ r. IfErr r (Ends s.follows s.can_refuse (length (take share.asked (untold turn))) mid new)) e said_first.ended)
          (subst (λ r. IfErr r (λ refusal. s.is_faithful mid → is_of_question refusal ≡ false)) e said_first.not_of_question)
          (subst (λ r. IfErr r (λ refusal. s.is_faithful mid → refusal ≢ Broken → s.is_faithful new)) e said_first.unbroken)
          (subst (λ r. IfErr r (λ refusal. s.is_faithful mid → PushesFirst (s.is_faithful new) (s.most_keys mid) (s.states mid) (take share.asked (untold turn)) (s.states new))) e said_first.first)
      turn_ends refusal (of_number answers e other bad) = absurd (other (many answers e))
      turn_ends refusal (of_answer answers e why) =
          ended_told s on stays whole (untold turn) turn.told.items answers left left1 left' share.asked old mid new stands.front takes.spent within refusal (asked answers e) (took answers e) why
      turn_ends refusal (of_questions answers e few bad) =
          let n = length-drop share.asked (untold turn) in
          let w = window.within in
          ended_for_want s whole left old (drop share.asked (untold turn)) (turn.told.items ++ answers) left' new refusal (front_more answers e) bad (takes.all (omega (arith, few, wanted))) (omega (arith, n, w, few, wanted))
