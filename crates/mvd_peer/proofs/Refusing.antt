-- A side that refuses all of a window.
use Rattle.std.proofs.Common.{◌≡◌, ◌∙◌, ◌≤◌, List, [], inr, ap, refl, subst, sym, arith}
use Rattle.std.specs.Prelude.{Result, Some, Vec}
use Rattle.std.specs.declared.alloc.Global.{Global}
use Rattle.mvd_dots.specs.declared.refusals.Refusal.{Refusal}
use Rattle.mvd_dots.specs.declared.refusals.Refusal.TheVariants.{Memory}
use Rattle.mvd_keys.specs.State.{State}
use Rattle.mvd_keys.specs.Writes.{Key}
use Rattle.mvd_peer.specs.Sides.{SideOf, StaysFaithful, is_of_question}
use Rattle.mvd_peer.specs.Saying.{RefusesAll, SideSays, SideTells}
use Rattle.mvd_peer.specs.Asking.{Wanted, asked, count_in, count_wanted, only_pushes}
use Rattle.mvd_peer.specs.declared.window.Told.TheVariants.{Pushes as PushesTold, Refused}
use Rattle.mvd_peer.specs.declared.window.Window.{Window}
use Rattle.mvd_peer.specs.declared.window.Window.TheVariants.{Gets, Nodes, Pages, Pushes}

-- for want of memory, before any was asked
pub refuses_unasked : {S : Type 0} (s : SideOf S) (w : Wanted) (old new : S) (refusal : Refusal) → refusal ≡ Memory → s.follows 0 old new → StaysFaithful s.is_faithful s.states old new → RefusesAll s w refusal old new
refuses_unasked s w old new refusal memory follows kept = record {
  ends = record { count = (0, omega arith, follows); cause = inr memory };
  not_of_question = λ _. ap is_of_question memory;
  kept = λ _. kept;
  unbroken = λ t _. (kept t).0;
  first = λ t. (0, [], s.states old, refl, λ _. (kept t).1);
}

-- ---- a window of pushes

count_asked : (window : Window) → count_in window ≡ count_wanted (asked (Some window))
count_asked (Nodes paths) = omega arith
count_asked (Pages pages) = omega arith
count_asked (Gets keys) = omega arith
count_asked (Pushes pairs) = omega arith

module _ {S : Type 0} (s : SideOf S) (window : Window) (pairs : List (Key × State)) (old new : S) (are : asked (Some window) ≡ only_pushes pairs) (some : 1 ≤ count_in window) where
  some_pushes : 1 ≤ count_wanted (only_pushes pairs)
  some_pushes = subst (λ n. 1 ≤ n) (count_asked window ∙ ap count_wanted are) some

  -- that was told
  pub says_pushed : (told : Vec (Result (Unit {0}) Refusal) Global) → SideTells s (only_pushes pairs) (Some (PushesTold told)) old new → SideSays s (asked (Some window)) (Some (PushesTold told)) old new
  says_pushed told tells = subst (λ w. SideSays s w (Some (PushesTold told)) old new) (sym are) (let n = some_pushes in omega (arith, n), tells)

  -- that was refused
  pub says_refused : (refusal : Refusal) → RefusesAll s (only_pushes pairs) refusal old new → SideSays s (asked (Some window)) (Some (Refused refusal)) old new
  says_refused refusal refuses = subst (λ w. SideSays s w (Some (Refused refusal)) old new) (sym are) (some_pushes, refuses)
