-- What a session with out fault tells of the keys that are done.
use Rattle.std.proofs.Common.{◌≡◌, ◌≢◌, ◌⊎◌, inl, inr, ◌↔◌, ℕ, Bool, true, false, cond, ◌||◌, List, [], ◌∷◌, ◌++◌, map, filter, refl, sym, ap, subst, ◌∙◌, Some, None, Option, option_map, true≢false}
use Rattle.std.specs.Prelude.{MatchBool}
use Rattle.std.specs.List.{cons_option}
use Rattle.std.proofs.lemmas.List.{length-map}
use Rattle.std.specs.Ordering.{nat_cmp, eq_by_cmp}
use Rattle.std.specs.Cmp.{Equal-is}
use Rattle.std.specs.Cmp.Lexicographic.{slice_cmp}
use Rattle.std.specs.FinMap.{get}
use Rattle.mvd_dots.specs.declared.refusals.Refusal.{Refusal}
use Rattle.mvd_tree.proofs.Under.{keys_same}
use Rattle.mvd_tree.specs.Hashed.{HashesTellApart}
use Rattle.mvd_site.specs.Answer.{spelled}
use Rattle.mvd_site.specs.Held.{States}
use Rattle.mvd_sync.proofs.Exchanges.{Counts, is_joined, joined_keys}
use Rattle.mvd_sync.specs.Exchanges.{Done, Exchanging, given_keys, is_given, keys_done, left_keys, left_as}
use Rattle.mvd_sync.specs.Session.{AreDistinct, CannotMeet, IsIn, IsLeft, IsOld, is_member}
use Rattle.mvd_peer.specs.PushedStates.{Each}
use Rattle.mvd_sync.specs.declared.report.Report.{Report}
use Rattle.mvd_sync.specs.declared.report.Left.{Left}
use Rattle.mvd_sync.specs.declared.report.Side.{Side}
use Rattle.mvd_sync.specs.declared.report.Side.TheVariants.{Local as AtLocal, Peer as AtPeer}
use Rattle.mvd_sync.proofs.Joined.{filtered, member_at}
use Rattle.mvd_sync.proofs.Keys.{Each-weaker, is_member-append, or_left, or_right}
use Rattle.mvd_sync.proofs.Positions.{CameToBy, IsDoneBy, ReportsDoneBy, SoFarBy, before_by}

abbrev names : List Left → List (List ℕ)
names ls = map (λ l. l.key) ls

by_bool : (b : Bool) (R : Type 0) → (b ≡ true → R) → (b ≡ false → R) → R
by_bool true R f g = f refl
by_bool false R f g = g refl

both_no : (a b : Bool) → a ≡ false → b ≡ false → (a || b) ≡ false
both_no true b e f = absurd (true≢false e)
both_no false b e f = f

-- ---- the keys given and those refused are the keys done

abbrev tie : List ℕ → List ℕ → Bool
tie k q = eq_by_cmp (slice_cmp nat_cmp) k q

swap_in : (g l t : Bool) → (g || (t || l)) ≡ (t || (g || l))
swap_in true l true = refl
swap_in true l false = refl
swap_in false l true = refl
swap_in false l false = refl

shift : (t g l : Bool) → ((t || g) || l) ≡ (t || (g || l))
shift true g l = refl
shift false g l = refl

-- a key is in either list just where it is done
pub in_parts : (ds : List Done) (k : List ℕ) → (is_member (given_keys ds) k || is_member (names (left_keys ds)) k) ≡ is_member (keys_done ds) k
in_parts [] k = refl
in_parts (d ∷ ds) k =
    let rest = in_parts ds k in
    let key = d.key in
    elim d.refused as (λ o. (is_member (keys_done (cond (is_given o) (d ∷ filter (λ (d : Done). is_given d.refused) ds) (filter (λ (d : Done). is_given d.refused) ds))) k || is_member (names (cons_option (option_map (left_as key) o) (left_keys ds))) k) ≡ (tie k key || is_member (keys_done ds) k)) [
      | None ↦ shift (tie k key) (is_member (given_keys ds) k) (is_member (names (left_keys ds)) k) ∙ ap (λ b. tie k key || b) rest
      | Some r ↦ swap_in (is_member (given_keys ds) k) (is_member (names (left_keys ds)) k) (tie k key) ∙ ap (λ b. tie k key || b) rest
    ]

pub parts_are : (ds : List Done) (k : List ℕ) → is_member (given_keys ds ++ names (left_keys ds)) k ≡ is_member (keys_done ds) k
parts_are ds k = is_member-append (given_keys ds) (names (left_keys ds)) k ∙ in_parts ds k

-- one list goes on with a key where the other two do
insert_later : (k : List ℕ) (gs ls : List (List ℕ)) → is_member (gs ++ ls) k ≡ false → AreDistinct (gs ++ ls) → AreDistinct (gs ++ k ∷ ls)
insert_later k [] ls out d = (out, d)
insert_later k (g ∷ gs) ls out d =
    let apart : tie k g ≡ false = or_left (tie k g) (is_member (gs ++ ls) k) out in
    let apart' : tie g k ≡ false = by_bool (tie g k) (tie g k ≡ false) (λ h. absurd (true≢false (sym h ∙ subst (λ q. tie q k ≡ false) (sym (keys_same g k ((Equal-is _).0 h))) (subst (λ q. tie k q ≡ false) (keys_same g k ((Equal-is _).0 h)) apart)))) (λ h. h) in
    let rest = or_right (tie k g) (is_member (gs ++ ls) k) out in (
      is_member-append gs (k ∷ ls) g ∙ both_no (is_member gs g) (tie g k || is_member ls g) (or_left (is_member gs g) (is_member ls g) (sym (is_member-append gs ls g) ∙ d.0)) (both_no (tie g k) (is_member ls g) apart' (or_right (is_member gs g) (is_member ls g) (sym (is_member-append gs ls g) ∙ d.0))),
      insert_later k gs ls rest d.1,
    )

pub parts_distinct : (ds : List Done) → AreDistinct (keys_done ds) → AreDistinct (given_keys ds ++ names (left_keys ds))
parts_distinct [] h = tt
parts_distinct (d ∷ ds) h =
    let rest = parts_distinct ds h.1 in
    let key = d.key in
    let none = parts_are ds key ∙ h.0 in
    elim d.refused as (λ o. AreDistinct (keys_done (cond (is_given o) (d ∷ filter (λ (d : Done). is_given d.refused) ds) (filter (λ (d : Done). is_given d.refused) ds)) ++ names (cons_option (option_map (left_as key) o) (left_keys ds)))) [
      | None ↦ (none, rest)
      | Some r ↦ insert_later key (given_keys ds) (names (left_keys ds)) none rest
    ]

-- ---- the keys that were refused

-- this of each
left_each : (Q : Done → Type 0) (R : Left → Type 0) → ((d : Done) (r : Side × Refusal) → Q d → d.refused ≡ Some r → R (left_as d.key r)) → (ds : List Done) → Each Q ds → Each R (left_keys ds)
left_each Q R f [] h = tt
left_each Q R f (d ∷ ds) h =
    let key = d.key in
    elim d.refused as (λ o. d.refused ≡ o → Each R (cons_option (option_map (left_as key) o) (left_keys ds))) [
      | None ↦ λ e. left_each Q R f ds h.1
      | Some r ↦ λ e. (f d r h.0 e, left_each Q R f ds h.1)
    ] refl

others : (d : Done) (ds : List Done) → AreDistinct (keys_done (d ∷ ds)) → (ks : List (List ℕ)) (es : List Done) → ((k : List ℕ) → is_member (keys_done es) k ≡ true → is_member (keys_done ds) k ≡ true) → Each (λ (e : Done). is_member (joined_keys ds) e.key ≡ is_joined e.refused) es → Each (λ (e : Done). is_member (joined_keys (d ∷ ds)) e.key ≡ is_joined e.refused) es
others d ds h ks [] sub each = tt
others d ds h ks (e ∷ es) sub each =
    let joined : Done → Bool = λ (d : Done). is_joined d.refused in
    let in_it : is_member (keys_done ds) e.key ≡ true = sub e.key (ap (λ b. b || is_member (keys_done es) e.key) (Rattle.mvd_peer.proofs.Pushes.tied e.key)) in
    let apart : tie e.key d.key ≡ false = Rattle.mvd_sync.proofs.Taking.apart_of (keys_done ds) d.key e.key h.0 in_it in (
      elim (is_joined d.refused) as (λ b. is_member (keys_done (cond b (d ∷ filter joined ds) (filter joined ds))) e.key ≡ is_joined e.refused) [
        | true ↦ ap (λ b. b || is_member (joined_keys ds) e.key) apart ∙ each.0
        | false ↦ each.0
      ],
      others d ds h ks es (λ k yes. sub k (elim (tie k e.key) as (λ b. (b || is_member (keys_done es) k) ≡ true) [ true ↦ refl | false ↦ yes ])) each.1,
    )

-- whether a key was joined is told by how it was refused
joined_is : (ds : List Done) → AreDistinct (keys_done ds) → Each (λ (d : Done). is_member (joined_keys ds) d.key ≡ is_joined d.refused) ds
joined_is [] h = tt
joined_is (d ∷ ds) h =
    let own = d.key in
    let joined : Done → Bool = λ (d : Done). is_joined d.refused in (
      elim (is_joined d.refused) as (λ b. is_member (keys_done (cond b (d ∷ filter joined ds) (filter joined ds))) own ≡ b) [
        | true ↦ ap (λ b. b || is_member (joined_keys ds) own) (Rattle.mvd_peer.proofs.Pushes.tied own)
        | false ↦ filtered joined own ds h.0
      ],
      others d ds h (keys_done ds) ds (λ k yes. yes) (joined_is ds h.1),
    )

left_side : (joined : List (List ℕ)) (key : List ℕ) (r : Side × Refusal) → is_member joined key ≡ is_joined (Some r) → IsLeft joined (left_as key r)
left_side joined key (AtLocal, refusal) h = h
left_side joined key (AtPeer, refusal) h = h

when : (t : Bool) (X Y : Type 0) → t ≡ true → MatchBool t X Y → X
when true X Y e h = h
when false X Y e h = absurd (true≢false (sym e))

unless : (t : Bool) (X Y : Type 0) → t ≡ false → MatchBool t X Y → Y
unless true X Y e h = absurd (true≢false e)
unless false X Y e h = h

or_else : (t : Bool) (X Y Z : Type 0) → MatchBool t X Y → MatchBool t X (Y ⊎ Z)
or_else true X Y Z h = h
or_else false X Y Z h = inl h

module _ (ml mp : ℕ) (number : Option ℕ) (a b a' b' : States) where
  left_cause : (key : List ℕ) (refused : Option (Side × Refusal)) (r : Side × Refusal) → refused ≡ Some r → CameToBy ml mp number a b a' b' key refused → CannotMeet (before_by ml mp number a b) r.0 key r.1 × (get a key ≢ get b key)
  left_cause key refused (AtLocal, refusal) e h = let c = subst (CameToBy ml mp number a b a' b' key) e h in (c.3, c.0)
  left_cause key refused (AtPeer, refusal) e h = let c = subst (CameToBy ml mp number a b a' b' key) e h in (c.3, c.0.differ)

  -- ---- the keys of which the local state was older

  abbrev olds : List Done → List (List ℕ)
  olds ds = keys_done (filter (λ (d : Done). d.is_old) ds)

  olds_distinct : (ds : List Done) → AreDistinct (keys_done ds) → AreDistinct (olds ds)
  olds_distinct [] h = tt
  olds_distinct (d ∷ ds) h =
      let own = d.key in
      let rest = olds_distinct ds h.1 in
      let none = filtered (λ (d : Done). d.is_old) own ds h.0 in
      elim d.is_old as (λ b. AreDistinct (keys_done (cond b (d ∷ filter (λ (d : Done). d.is_old) ds) (filter (λ (d : Done). d.is_old) ds)))) [ true ↦ (none, rest) | false ↦ rest ]

  old_at : (d : Done) → ((d.is_old ≡ true) ↔ IsOld number a b d.key) → MatchBool d.is_old (IsOld number a b d.key) (IsOld number a b d.key → ⊥)
  old_at d h =
      elim d.is_old as (λ t. ((t ≡ true) ↔ IsOld number a b d.key) → MatchBool t (IsOld number a b d.key) (IsOld number a b d.key → ⊥)) [
        | true ↦ λ h. h.0 refl
        | false ↦ λ h o. true≢false (sym (h.1 o))
      ] h

  are_olds : (ds : List Done) → SoFarBy ml mp number a b a' b' ds → (key : List ℕ) → IsIn (olds ds) key ↔ (IsIn (given_keys ds ++ names (left_keys ds)) key × IsOld number a b key)
  are_olds ds so key =
      let at : MatchBool (is_member (olds ds) key) (IsOld number a b key) ((IsOld number a b key → ⊥) ⊎ (is_member (keys_done ds) key ≡ false))
      = member_at (λ (d : Done). d.is_old) (IsOld number a b) (λ k. (IsOld number a b k → ⊥) ⊎ (is_member (keys_done ds) k ≡ false)) key ds so.distinct
      (Each-weaker (IsDoneBy ml mp number a b a' b') (λ (d : Done). MatchBool d.is_old (IsOld number a b d.key) ((IsOld number a b d.key → ⊥) ⊎ (is_member (keys_done ds) d.key ≡ false)))
      (λ d h. or_else d.is_old (IsOld number a b d.key) (IsOld number a b d.key → ⊥) (is_member (keys_done ds) d.key ≡ false) (old_at d h.old)) ds so.each) (λ out. inr out) in (
        λ h. (
          by_bool (is_member (given_keys ds ++ names (left_keys ds)) key) (IsIn (given_keys ds ++ names (left_keys ds)) key) (λ yes. yes)
              (λ out. absurd (true≢false (sym h ∙ filtered (λ (d : Done). d.is_old) key ds (sym (parts_are ds key) ∙ out)))),
          when (is_member (olds ds) key) (IsOld number a b key) ((IsOld number a b key → ⊥) ⊎ (is_member (keys_done ds) key ≡ false)) h at,
        ),
        λ h. by_bool (is_member (olds ds) key) (IsIn (olds ds) key) (λ yes. yes)
            (λ out. absurd (elim (unless (is_member (olds ds) key) (IsOld number a b key) ((IsOld number a b key → ⊥) ⊎ (is_member (keys_done ds) key ≡ false)) out at) [
              | inl never ↦ never h.1
              | inr gone ↦ true≢false (sym h.0 ∙ parts_are ds key ∙ gone)
            ])),
      )

  -- ---- the report

  pub tells_of : (done : List Done) (e : Exchanging) (report : Report) → SoFarBy ml mp number a b a' b' done → Counts done e → report.keys ≡ e.keys → report.refused ≡ e.refused → report.old ≡ e.older → report.first_refused ≡ e.first_refused
      → (HashesTellApart spelled a b → (key : List ℕ) → get a key ≢ get b key → is_member (keys_done done) key ≡ true) → ReportsDoneBy ml mp number a b (joined_keys done) (given_keys done) report
  tells_of done e report so counts keys refused old first all = record {
    left = left_keys done;
    old_keys = olds done;
    distinct = parts_distinct done so.distinct;
    whole = λ key h. by_bool (is_member (given_keys done ++ names (left_keys done)) key) (IsIn (given_keys done ++ names (left_keys done)) key) (λ yes. yes)
        (λ out. absurd (true≢false (sym h ∙ filtered (λ (d : Done). is_joined d.refused) key done (sym (parts_are done key) ∙ out))));
    sides = left_each (λ (d : Done). is_member (joined_keys done) d.key ≡ is_joined d.refused) (IsLeft (joined_keys done))
        (λ d r h e. left_side (joined_keys done) d.key r (h ∙ ap is_joined e)) done (joined_is done so.distinct);
    causes = left_each (IsDoneBy ml mp number a b a' b') (λ l. CannotMeet (before_by ml mp number a b) l.side l.key l.refusal) (λ d r h e. (left_cause d.key d.refused r e h.came).0) done so.each;
    differed = left_each (IsDoneBy ml mp number a b a' b') (λ l. get a l.key ≢ get b l.key) (λ d r h e. (left_cause d.key d.refused r e h.came).1) done so.each;
    all = λ apart key differ. parts_are done key ∙ all apart key differ;
    counted = (keys ∙ counts.keys, refused ∙ counts.refused, first ∙ counts.first_refused);
    older = (olds_distinct done so.distinct, old ∙ counts.older ∙ sym (length-map (filter (λ (d : Done). d.is_old) done) (λ (d : Done). d.key)));
    are_old = are_olds done so;
  }
