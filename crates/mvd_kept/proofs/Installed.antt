-- A group that is put in, one after the other.
use Rattle.std.proofs.Common.{◌≡◌, ◌⊎◌, ◌∙◌, ℕ, ◌+◌, ◌<◌, Bool, true, false, List, [], ◌∷◌, ◌++◌, length, drop, get_or, refl, sym, ap, subst, inl, inr, true≢false, arith}
use Rattle.std.proofs.lemmas.List.{drop_more}
use Rattle.std.specs.Prelude.{◌≤◌, Result, Ok, Err, OnErr, OnOk}
use Rattle.std.specs.FinMap.{insert, len}
use Rattle.mvd_dots.specs.declared.refusals.Refusal.{Refusal}
use Rattle.mvd_keys.specs.State.{State}
use Rattle.mvd_keys.specs.Writes.{Key}
use Rattle.mvd_rows.specs.Defs.{Definitions}
use Rattle.mvd_rows.specs.Stands.{IsRowsOf}
use Rattle.mvd_rows.specs.declared.changes.Rows.{Rows}
use Rattle.mvd_tree.specs.Change.{changed_all}
use Rattle.mvd_tree.specs.HashTree.{KeyDigests}
use Rattle.mvd_tree.proofs.Held.{digests_of-insert}
use Rattle.mvd_wire.specs.declared.reply.Reply.{Reply}
use Rattle.mvd_kept.specs.Answer.{digests, spelled}
use Rattle.mvd_kept.specs.Config.{ConfigValue}
use Rattle.mvd_kept.specs.Held.{States}
use Rattle.mvd_kept.specs.Installs.{MayAllBeIn, PutsAll, PutsIfWhole, PutsOne, changes_in, digests_in, is_change, last_changes, with_group, with_one, with_prepared}
use Rattle.mvd_kept.specs.Sites.{KeepsKeys, SiteValue, has_no_room}
use Rattle.mvd_kept.specs.declared.prepared.Prepared.{Prepared}
use Rattle.mvd_kept.specs.declared.prepared.Prepared.TheVariants.{Answer, Change}
use Rattle.mvd_kept.proofs.HeldMaps.{room_left}
use Rattle.mvd_kept.proofs.LastChanges.{lasts_leave}

-- ---- one

-- the site after one, if it is not broken
pub whole_after : (old mid : SiteValue) (prepared : Prepared) (reply : Reply) → mid.broken ≡ false → PutsOne old mid prepared reply → mid ≡ with_one old prepared
whole_after old mid (Answer told) reply whole puts = puts.1
whole_after old mid (Change change) reply whole (inl puts) = puts.1
whole_after old mid (Change change) reply whole (inr puts) = absurd (true≢false (sym (ap (λ (s : SiteValue). s.broken) puts.1) ∙ whole))

pub was_whole : (old mid : SiteValue) (prepared : Prepared) (reply : Reply) (was : Bool) → old.broken ≡ was → PutsIfWhole old mid prepared reply → mid.broken ≡ false → old.broken ≡ false
was_whole old mid prepared reply false was puts whole = was
was_whole old mid prepared reply true was puts whole = sym (ap (λ (s : SiteValue). s.broken) (puts.broken was).1) ∙ whole

pub states_with : (old : SiteValue) (prepared : Prepared) → (with_one old prepared).states ≡ with_prepared old.states prepared
states_with old (Answer reply) = refl
states_with old (Change change) = refl

-- ---- all

pub broken_stays : (group : List Prepared) (replies : List Reply) (old new : SiteValue) → old.broken ≡ true → PutsAll old new group replies → new ≡ old
broken_stays [] [] old new was all = all
broken_stays [] (x ∷ replies) old new was all = absurd all
broken_stays (p ∷ group) [] old new was all = absurd all
broken_stays (p ∷ group) (x ∷ replies) old new was all =
    let here : all.0 ≡ old = (all.1.broken was).1 in
    broken_stays group replies all.0 new (ap (λ (s : SiteValue). s.broken) here ∙ was) all.2 ∙ here

states_on : (prepared : Prepared) (reply : Reply) (group : List Prepared) (replies : List Reply) (old mid new : SiteValue) (is : Bool) → mid.broken ≡ is → PutsIfWhole old mid prepared reply → PutsAll mid new group replies →
    (mid.broken ≡ false → new.states ≡ with_group mid.states group) → new.broken ≡ false → new.states ≡ with_group (with_prepared old.states prepared) group
states_on prepared reply group replies old mid new true is puts rest later whole =
    absurd (true≢false (sym (ap (λ (s : SiteValue). s.broken) (broken_stays group replies mid new is rest) ∙ is) ∙ whole))
states_on prepared reply group replies old mid new false is puts rest later whole =
    let was : old.broken ≡ false = was_whole old mid prepared reply old.broken refl puts is in
    later is ∙ ap (λ m. with_group m group) (ap (λ (s : SiteValue). s.states) (whole_after old mid prepared reply is (puts.whole was)) ∙ states_with old prepared)

-- the states in the end
pub states_end : (group : List Prepared) (replies : List Reply) (old new : SiteValue) → PutsAll old new group replies → new.broken ≡ false → new.states ≡ with_group old.states group
states_end [] [] old new all whole = ap (λ (s : SiteValue). s.states) all
states_end [] (x ∷ replies) old new all whole = absurd all
states_end (p ∷ group) [] old new all whole = absurd all
states_end (p ∷ group) (x ∷ replies) old new all whole = states_on p x group replies old all.0 new all.0.broken refl all.1 all.2 (λ is. states_end group replies all.0 new all.2 whole) whole

-- one more
pub puts_more : (group : List Prepared) (told : List Reply) (prepared : Prepared) (reply : Reply) (old mid new : SiteValue) → PutsAll old mid group told → PutsIfWhole mid new prepared reply →
    PutsAll old new (group ++ prepared ∷ []) (told ++ reply ∷ [])
puts_more [] [] prepared reply old mid new all one = (new, subst (λ s. PutsIfWhole s new prepared reply) all one, refl)
puts_more [] (x ∷ told) prepared reply old mid new all one = absurd all
puts_more (p ∷ group) [] prepared reply old mid new all one = absurd all
puts_more (p ∷ group) (x ∷ told) prepared reply old mid new all one = (all.0, all.1, puts_more group told prepared reply all.0 mid new all.2 one)

-- what may be put in after one
pub may_after : (old new : SiteValue) (prepared : Prepared) (reply : Reply) (group : List Prepared) → PutsIfWhole old new prepared reply → (old.broken ≡ false → MayAllBeIn old (prepared ∷ group)) → new.broken ≡ false → MayAllBeIn new group
may_after old new prepared reply group puts may whole =
    let was : old.broken ≡ false = was_whole old new prepared reply old.broken refl puts whole in
    subst (λ s. MayAllBeIn s group) (sym (whole_after old new prepared reply whole (puts.whole was))) (may was).1

pub may_first : (site : SiteValue) (group : List Prepared) (n : ℕ) (prepared : Prepared) → n < length group → prepared ≡ get_or group n prepared → MayAllBeIn site (drop n group) → MayAllBeIn site (prepared ∷ drop (n + 1) group)
may_first site group n prepared low is may = subst (MayAllBeIn site) (drop_more group n prepared low ∙ ap (λ p. p ∷ drop (n + 1) group) (sym is)) may

-- ---- the digests

-- the hash tree's changes follow the site's
pub digests_with : (states : States) (group : List Prepared) → changed_all (digests states) (digests_in group) ≡ digests (with_group states group)
digests_with states [] = refl
digests_with states (Answer reply ∷ group) = digests_with states group
digests_with states (Change change ∷ group) =
    ap (λ held. changed_all held (digests_in group)) (sym (digests_of-insert spelled states change.key change.state))
    ∙ digests_with (insert states change.key change.state) group

-- with no change they stay
pub none_in : (states : States) (group : List Prepared) → changes_in group ≡ 0 → with_group states group ≡ states
none_in states [] none = refl
none_in states (Answer reply ∷ group) none = none_in states group (omega (arith, none))
none_in states (Change change ∷ group) none = absurd (omega (arith, none))

pub no_digests : (group : List Prepared) → changes_in group ≡ 0 → digests_in group ≡ []
no_digests [] none = refl
no_digests (Answer reply ∷ group) none = no_digests group (omega (arith, none))
no_digests (Change change ∷ group) none = absurd (omega (arith, none))

-- what was so of those so far, or there was no change, is so with one more
pub digested_more : (group : List Prepared) (prepared : Prepared) (b : Bool) → (b ≡ true) ⊎ (changes_in group ≡ 0) → (b ≡ true) ⊎ (is_change prepared ≡ 0) → (b ≡ true) ⊎ (changes_in (group ++ prepared ∷ []) ≡ 0)
digested_more group prepared b (inl is) one = inl is
digested_more group prepared b (inr none) (inl is) = inl is
digested_more group prepared b (inr none) (inr nought) = inr (no_more group none)
  where
    no_more : (l : List Prepared) → changes_in l ≡ 0 → changes_in (l ++ prepared ∷ []) ≡ 0
    no_more [] is = omega (arith, nought)
    no_more (p ∷ l) is =
        let rest = no_more l (omega (arith, is)) in
        omega (arith, is, rest)

-- ---- one change, as the code puts it in

pub put_stands : {A : Type 0} (result : Result A Refusal) (config : ConfigValue) (old new : States) (rows listed : Rows) (key : Key) (s : State) → OnOk result (new ≡ insert old key s)
    → OnOk result ((defs : Definitions) → IsRowsOf rows defs old → IsRowsOf listed defs (insert old key s)) → IsRowsOf rows config.defs old → OnOk result (IsRowsOf listed config.defs new)
put_stands (Ok done) config old new rows listed key s is stands stand = subst (IsRowsOf listed config.defs) (sym is) (stands config.defs stand)
put_stands (Err refusal) config old new rows listed key s is stands stand = tt

pub put_few : {A : Type 0} (result : Result A Refusal) (config : ConfigValue) (old new : States) (key : Key) (s : State) → OnOk result (new ≡ insert old key s) → OnErr result (new ≡ old)
    → has_no_room config old key ≡ false → len old ≤ config.max_keys → len new ≤ config.max_keys
put_few (Ok done) config old new key s is same room few = subst (λ (m : States). len m ≤ config.max_keys) (sym is) (room_left config old key s room few)
put_few (Err refusal) config old new key s is same room few = subst (λ (m : States). len m ≤ config.max_keys) (sym same) few

-- ---- what a site keeps

whole_before : (group : List Prepared) (told : List Reply) (old new : SiteValue) (was : Bool) → old.broken ≡ was → PutsAll old new group told → new.broken ≡ false → old.broken ≡ false
whole_before group told old new false is all whole = is
whole_before group told old new true is all whole = sym (ap (λ (s : SiteValue). s.broken) (broken_stays group told old new is all)) ∙ whole

pub keeps_installed : (config : ConfigValue) (states after : States) (tree grown : KeyDigests) (rows listed : Rows) (was is digested : Bool) (group : List Prepared) (told : List Reply) → KeepsKeys config states tree rows was
    → len after ≤ config.max_keys
    → PutsAll (record { config = config; states = states; broken = was }) (record { config = config; states = after; broken = is }) group told
    → (is ≡ false → IsRowsOf listed config.defs after) → (is ≡ false → (digested ≡ true) ⊎ (changes_in group ≡ 0))
    → (digested ≡ true → grown ≡ changed_all tree (digests_in (last_changes group))) → (changes_in group ≡ 0 → grown ≡ tree)
    → KeepsKeys config after grown listed is
keeps_installed config states after tree grown rows listed was is digested group told keeps few puts stand digests_follow follows still = record {
  room = few;
  digested = λ whole.
      let old : SiteValue = record { config = config; states = states; broken = was } in
      let new : SiteValue = record { config = config; states = after; broken = is } in
      let before : tree ≡ digests states = keeps.digested (whole_before group told old new was refl puts whole) in
      let end : after ≡ with_group states group = states_end group told old new puts whole in
      either whole before end (digests_follow whole);
  listed = stand;
}
  where
    either : is ≡ false → tree ≡ digests states → after ≡ with_group states group → (digested ≡ true) ⊎ (changes_in group ≡ 0) → grown ≡ digests after
    either whole before end (inl did) =
        follows did ∙ ap (λ t. changed_all t (digests_in (last_changes group))) before ∙ digests_with states (last_changes group) ∙ ap digests (lasts_leave states group ∙ sym end)
    either whole before end (inr none) = still none ∙ before ∙ ap digests (sym (end ∙ none_in states group none))
