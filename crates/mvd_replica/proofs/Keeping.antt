-- The writes known stay known, whatever is done with a site: by turns, by pushes, and from the open of a file to its close.
use Rattle.std.proofs.Common.{◌≡◌, ◌∙◌, true, false, List, [], ◌∷◌, ◌++◌, None, Some, ap, append_assoc, cond, refl, sym, subst}
use Rattle.std.proofs.lemmas.List.{append-nil}
use Rattle.std.specs.FinMap.{get, insert, remove}
use Rattle.mvd_keys.proofs.Lists.{IsValid-join, join-empty, state_of_empty}
use Rattle.mvd_keys.proofs.Sets.{AreOf-writes_for, IsValid-state, state-writes_for}
use Rattle.mvd_keys.proofs.StatesOfWrites.{join-state}
use Rattle.mvd_keys.specs.State.{IsValid, State as KeyState, join}
use Rattle.mvd_keys.specs.Writes.{Key, Stands, Write, is_empty, state, writes_for}
use Rattle.mvd_site.proofs.Steps.{Stands-insert, Stands-same, state_at-stands}
use Rattle.mvd_site.specs.Held.{States, state_at}
use Rattle.mvd_site.specs.Sites.{SiteValue}
use Rattle.mvd_peer.proofs.JoinLaws.{nothing_empty}
use Rattle.mvd_peer.proofs.SiteSides.{not_nothing, removed_same}
use Rattle.mvd_peer.specs.PushedStates.{ComesByPushes, Each, is_nothing, pushed, pushed_all, put_state}
use Rattle.mvd_replica.specs.Programs.{KeepsWrites}
use Rattle.mvd_replica.specs.Turns.{TurnEvent, StandsOn, TellsTurns, Turn, known_after_turns}

pub keeps_self : (site : SiteValue) → KeepsWrites site site
keeps_self site known stands = ([], subst (Stands site.states) (sym (append-nil known)) stands)

pub keeps_on : (old mid new : SiteValue) → KeepsWrites old mid → KeepsWrites mid new → KeepsWrites old new
keeps_on old mid new p q known stands =
    let one = p known stands in
    let two = q (known ++ one.0) one.1 in
    (one.0 ++ two.0, subst (Stands new.states) (append_assoc known one.0 two.0) two.1)

-- turns keep what was known
pub turns_keep : (turns : List Turn) (old new : SiteValue) → StandsOn old new turns → (events : List TurnEvent) × TellsTurns events turns → KeepsWrites old new
turns_keep turns old new stand choice known stands = (known_after_turns choice.0, stand known choice.0 stands choice.1)

-- ---- pushes

-- after a push the states stand for some writes of the key as well, whose state was pushed
stands_pushed : (m : States) (key : Key) (s : KeyState) (known : List Write) → IsValid s → Stands m known → Stands (pushed m key s) (known ++ writes_for key s)
unfolding pushed put_state
stands_pushed m key s known valid stands =
    let mine = subst IsValid (sym (state_at-stands m known key stands)) (IsValid-state key known) in
    let new = join (state_at m key) s in
    let own = AreOf-writes_for key s in
    let is : state key (known ++ writes_for key s) ≡ new =
    sym (join-state key known (writes_for key s)) ∙ ap (λ t. join t (state key (writes_for key s))) (sym (state_at-stands m known key stands)) ∙ ap (join (state_at m key)) (state-writes_for key s valid) in
    elim (is_empty new.context) as (λ b. is_empty new.context ≡ b → Stands (cond (is_nothing new) (remove m key) (insert m key new)) (known ++ writes_for key s)) [
      | true ↦ λ none.
          let same : new ≡ state_at m key = join-empty (state_at m key) s mine valid none in
          let nothing : is_nothing new ≡ true = ap is_nothing (state_of_empty new none (IsValid-join (state_at m key) s mine valid)) ∙ nothing_empty in
          let missing : get m key ≡ None = stands.at key ∙ ap (λ b. cond b None (Some (state key known))) (ap (λ (t : KeyState). is_empty t.context) (sym (state_at-stands m known key stands) ∙ sym same) ∙ none) in
          subst (λ n. Stands n (known ++ writes_for key s)) (removed_same m key missing ∙ sym (ap (λ b. cond b (remove m key) (insert m key new)) nothing))
          (Stands-same m known (writes_for key s) key stands own (is ∙ same ∙ state_at-stands m known key stands))
      | false ↦ λ seen.
          subst (λ n. Stands n (known ++ writes_for key s)) (sym (ap (λ b. cond b (remove m key) (insert m key new)) (not_nothing new seen)))
          (Stands-insert m known (writes_for key s) key new stands own is seen)
    ] refl

pushes_stand : (pushes : List (Key × KeyState)) → Each (λ p. IsValid p.1) pushes → (m : States) (known : List Write) → Stands m known → (added : List Write) × Stands (pushed_all m pushes) (known ++ added)
pushes_stand [] valid m known stands = ([], subst (Stands m) (sym (append-nil known)) stands)
pushes_stand (p ∷ ps) valid m known stands =
    let added = writes_for p.0 p.1 in
    let others = pushes_stand ps valid.1 (pushed m p.0 p.1) (known ++ added) (stands_pushed m p.0 p.1 known valid.0 stands) in
    (added ++ others.0, subst (Stands (pushed_all (pushed m p.0 p.1) ps)) (append_assoc known added others.0) others.1)

-- pushes keep what was known
pub pushes_keep : {can_give : Key → KeyState → Type 0} (old new : SiteValue) → ComesByPushes can_give old.states new.states → KeepsWrites old new
pushes_keep old new comes known stands =
    let it = pushes_stand comes.pushes comes.valid old.states known stands in
    (it.0, subst (λ m. Stands m (known ++ it.0)) (sym comes.is) it.1)
