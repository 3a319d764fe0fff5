-- What is written later takes no put from the siblings but by a context that covers it, and takes a state up.
use Rattle.std.proofs.Common.{ℕ, ◌≡◌, Bool, true, false, not, ◌||◌, cond, List, [], ◌∷◌, ◌++◌, Option, Some, None, sym, ap, ap₂, ◌∙◌}
use Rattle.std.specs.Option.{option_or}
use Rattle.std.specs.FinMap.{get}
use Rattle.std.specs.FinSet.{contains, union}
use Rattle.mvd_dots.specs.Dot.{DotValue}
use Rattle.mvd_dots.specs.Context.{DotSet}
use Rattle.mvd_keys.specs.Minting.{mint}
use Rattle.mvd_keys.specs.State.{IsValid, State, Text, after_delete, after_put, join}
use Rattle.mvd_keys.specs.Writes.{Key, Deleted, Write, Wrote, covered, siblings, state, writes_for}
use Rattle.mvd_keys.proofs.Joins.{join_groups, join_repeats}
use Rattle.mvd_keys.proofs.Parts.{minted_not_seen, minted_unseen}
use Rattle.mvd_keys.proofs.Sets.{IsValid-state, state-writes_for}
use Rattle.mvd_keys.proofs.StatesOfWrites.{contains-covered-append, get-siblings, join-state, put_at, put_at-append, state-delete, state-put}

put_stays : (a b : Bool) (f g : Option Text) (d : Text) → cond (not a) f None ≡ Some d → b ≡ false → cond (not (a || b)) (option_or f g) None ≡ Some d
put_stays true b f g d is apart = cc
put_stays false true f g d is apart = cc
put_stays false false None g d is apart = cc
put_stays false false (Some x) g d is apart = is

pub stays : (key : Key) (W V : List Write) (dot : DotValue) (document : Text) → get (siblings key W) dot ≡ Some document → contains (covered key V) dot ≡ false → get (siblings key (W ++ V)) dot ≡ Some document
stays key W V dot document is apart =
    get-siblings key (W ++ V) dot
    ∙ (λ i. cond (not (contains-covered-append key W V dot i)) (put_at-append key W V dot i) None)
    ∙ put_stays (contains (covered key W) dot) (contains (covered key V) dot) (put_at key W dot) (put_at key V dot) document (sym (get-siblings key W dot) ∙ is) apart

pub join_above : (s t : State) → IsValid s → IsValid t → join s (join s t) ≡ join s t
join_above s t left right = sym (join_groups s s t left left right) ∙ ap (λ u. join u t) (join_repeats s left)

pub grows : (key : Key) (W V : List Write) → join (state key W) (state key (W ++ V)) ≡ state key (W ++ V)
grows key W V =
    ap (join (state key W)) (sym (join-state key W V))
    ∙ join_above (state key W) (state key V) (IsValid-state key W) (IsValid-state key V)
    ∙ join-state key W V

-- of a state that is that of some writes, a write more
grown : (s : State) (W : List Write) (write : Write) (after : State) → state [] W ≡ s → state [] (W ++ write ∷ []) ≡ after → join s after ≡ after
grown s W write after was is = ap₂ join (sym was) (sym is) ∙ grows [] W (write ∷ []) ∙ is

pub put_grows : (s : State) (site : ℕ) (dot : DotValue) (seen : DotSet) (document : Text) → IsValid s → mint site (union s.context seen) ≡ Some dot → join s (after_put s dot seen document) ≡ after_put s dot seen document
put_grows s site dot seen document valid new =
    let W : List Write = writes_for [] s in
    let was : state [] W ≡ s = state-writes_for [] s valid in
    grown s W (Wrote [] dot seen document) (after_put s dot seen document) was
    (state-put [] W dot seen document
    (ap (λ (t : State). contains t.context dot) was ∙ minted_unseen s.context seen site dot (sym new))
    (minted_not_seen s.context seen site dot (sym new))
    ∙ ap (λ t. after_put t dot seen document) was)

pub delete_grows : (s : State) (seen : DotSet) → IsValid s → join s (after_delete s seen) ≡ after_delete s seen
delete_grows s seen valid =
    let W : List Write = writes_for [] s in
    let was : state [] W ≡ s = state-writes_for [] s valid in
    grown s W (Deleted [] seen) (after_delete s seen) was (state-delete [] W seen ∙ ap (λ t. after_delete t seen) was)
