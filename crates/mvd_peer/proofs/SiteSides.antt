-- A site as a side of a session.
use Rattle.std.proofs.Common.{◌≡◌, ◌≢◌, ◌⊎◌, inl, inr, Option, ℕ, ◌<◌, ◌≤◌, Bool, true, false, cond, ◌&&◌, ◌==◌, List, [], ◌∷◌, length, refl, sym, ap, subst, ◌∙◌, arith, Some, None, true≢false}
use Rattle.std.specs.Prelude.{IfOk, IfErr, OnOk, Result, Ok, Err, nat_lt, if◌then◌else◌, unwrap_or, is_some, not}
use Rattle.std.proofs.lemmas.Bool.Decides.{nat_tests}
use Rattle.std.specs.Ordering.{nat_cmp, eq_by_cmp}
use Rattle.std.specs.Cmp.{Equal-is}
use Rattle.std.specs.Cmp.Lexicographic.{slice_cmp, nat_list_cmp_total}
use Rattle.std.specs.FinMap.{get, insert, remove, len, get-remove, same_map}
use Rattle.mvd_dots.specs.declared.refusals.Refusal.{Refusal}
use Rattle.mvd_dots.specs.declared.refusals.Refusal.TheVariants.{BadPath, Broken, DotClash, Full, Memory, StateTooLarge}
use Rattle.mvd_keys.specs.State.{State, IsValid, clashes, empty_state, join}
use Rattle.mvd_keys.specs.Writes.{is_empty}
use Rattle.mvd_keys.proofs.Lists.{IsValid-join, join-empty, state_of_empty}
use Rattle.mvd_tree.specs.HashTree.{node_digest}
use Rattle.mvd_tree.specs.Page.{children_digests}
use Rattle.mvd_tree.proofs.Under.{keys_same}
use Rattle.mvd_wire.specs.declared.reply.Digests.{Digests}
use Rattle.mvd_wire.specs.declared.request.Request.TheVariants.{Push}
use Rattle.mvd_wire.specs.declared.reply.Reply.TheVariants.{Done, Refused}
use Rattle.mvd_site.specs.Answer.{digests, is_full, is_too_large, node_digests}
use Rattle.mvd_site.specs.Config.{ConfigValue}
use Rattle.mvd_site.specs.FromStates.{AnswersFrom, bucket_refusal, joined_site, push_reply, unless_broken, with_state}
use Rattle.mvd_site.specs.Installs.{broken_site}
use Rattle.mvd_site.specs.Held.{AreHeld, States, state_at}
use Rattle.mvd_site.specs.Sites.{SiteValue}
use Rattle.mvd_peer.specs.PushedStates.{is_nothing, put_state, pushed}
use Rattle.std.specs.Cmp.{unsigned_Decides}
use Rattle.mvd_peer.specs.Windows.{CannotTake, IsNode, RefusesPage}
use Rattle.mvd_peer.specs.Telling.{TellsEach, TellsLive, TellsPush}
use Rattle.mvd_peer.specs.Sides.{IsWholeSite, SiteFollows, SiteRefuses, is_site_refusal, tells_broken, is_of_question}
use Rattle.mvd_peer.proofs.JoinLaws.{nothing_empty, valid_at}
use Rattle.mvd_peer.proofs.ManyPushes.{second_ok, still_true}
use Rattle.mvd_peer.proofs.Telling.{push_told as one_moment}

-- ---- the digests of a node

told : (broken : Bool) (m : States) (path : List ℕ) (r : Result Digests Refusal) → r ≡ unless_broken broken (Err Broken) (Ok (node_digests (digests m) path)) → broken ≡ false → r ≡ Ok (node_digests (digests m) path)
told broken m path r e whole = e ∙ ap (λ b. unless_broken b (Err Broken) (Ok (node_digests (digests m) path))) whole

module _ (broken : Bool) (m : States) (path : List ℕ) (r : Result Digests Refusal) (e : r ≡ unless_broken broken (Err Broken) (Ok (node_digests (digests m) path))) (whole : broken ≡ false) where
  pub node_own : IfOk r (λ d. d.own ≡ node_digest (digests m) path)
  node_own = subst (λ r. IfOk r (λ d. d.own ≡ node_digest (digests m) path)) (sym (told broken m path r e whole)) refl

  pub node_inner : length path < 3 → IfOk r (λ d. d.children ≡ Some (children_digests (digests m) path))
  node_inner short =
      let is : nat_lt (length path) 3 ≡ true = grind (arith, nat_tests) in
      subst (λ r. IfOk r (λ d. d.children ≡ Some (children_digests (digests m) path))) (sym (told broken m path r e whole)) (ap (λ b. if b then Some (children_digests (digests m) path) else None) is)

  pub node_bucket : 3 ≤ length path → IfOk r (λ d. d.children ≡ None)
  node_bucket long =
      let is : nat_lt (length path) 3 ≡ false = grind (arith, nat_tests) in
      subst (λ r. IfOk r (λ d. d.children ≡ None)) (sym (told broken m path r e whole)) (ap (λ b. if b then Some (children_digests (digests m) path) else None) is)

pub node_is : (m : States) (path : List ℕ) → IsNode (digests m) path (node_digests (digests m) path)
node_is m path = (
  refl,
  λ short. let is : nat_lt (length path) 3 ≡ true = grind (arith, nat_tests) in ap (λ b. if b then Some (children_digests (digests m) path) else None) is,
  λ long. let is : nat_lt (length path) 3 ≡ false = grind (arith, nat_tests) in ap (λ b. if b then Some (children_digests (digests m) path) else None) is,
)

-- ---- a push

-- a key that is held has seen a dot
not_held : (m : States) (key : List ℕ) → AreHeld m → is_empty (state_at m key).context ≡ true → get m key ≡ None
not_held m key held none =
    elim (get m key) as (λ o. get m key ≡ o → is_empty (unwrap_or o empty_state).context ≡ true → o ≡ None) [
      | None ↦ λ _ _. refl
      | Some s ↦ λ e n. absurd (true≢false (sym n ∙ (held.held key s e).seen))
    ] refl none

pub removed_same : (m : States) (key : List ℕ) → get m key ≡ None → m ≡ remove m key
removed_same m key none = same_map nat_list_cmp_total keys_same _ _ (λ q. sym (get-remove nat_list_cmp_total m key q
    ∙ elim (eq_by_cmp (slice_cmp nat_cmp) q key) as (λ b. eq_by_cmp (slice_cmp nat_cmp) q key ≡ b → cond b None (get m q) ≡ get m q) [
      | true ↦ λ tie. sym (ap (get m) (keys_same q key ((Equal-is _).0 tie)) ∙ none)
      | false ↦ λ _. refl
    ] refl))

pub not_nothing : (s : State) → is_empty s.context ≡ false → is_nothing s ≡ false
not_nothing s e = ap (λ b. (len s.siblings == 0) && b) e ∙ elim (len s.siblings == 0) as (λ b. (b && false) ≡ false) [ true ↦ refl | false ↦ refl ]

-- what a site puts in is what was pushed
pub put_is_pushed : (m : States) (key : List ℕ) (s : State) → AreHeld m → IsValid s → with_state m key (join (state_at m key) s) ≡ pushed m key s
unfolding pushed put_state
put_is_pushed m key s held valid =
    let mine = valid_at m held key in
    let new = join (state_at m key) s in
    elim (is_empty new.context) as (λ b. is_empty new.context ≡ b → (if b then m else insert m key new) ≡ cond (is_nothing new) (remove m key) (insert m key new)) [
      | true ↦ λ none.
          let nothing : is_nothing new ≡ true = ap is_nothing (state_of_empty new none (IsValid-join (state_at m key) s mine valid)) ∙ nothing_empty in
          let was : is_empty (state_at m key).context ≡ true = ap (λ (t : State). is_empty t.context) (sym (join-empty (state_at m key) s mine valid none)) ∙ none in
          removed_same m key (not_held m key held was) ∙ sym (ap (λ b. cond b (remove m key) (insert m key new)) nothing)
      | false ↦ λ seen. sym (ap (λ b. cond b (remove m key) (insert m key new)) (not_nothing new seen))
    ] refl

pub is_broken : (refusal : Refusal) → (refusal ≡ Broken) ⊎ (refusal ≢ Broken)
is_broken Broken = inl refl
is_broken refusal = inr (λ e. absurd (cc))

module _ (old new : SiteValue) (key : List ℕ) (s : State) (whole : (old.broken ≡ false) × AreHeld old.states) (held : AreHeld new.states) where
  pub push_ok : (r : Result (Unit {0}) Refusal) → IsValid s → OnOk r (new ≡ record { config = old.config; states = with_state old.states key (join (state_at old.states key) s); broken = false })
      → OnOk r (((new.broken ≡ false) × AreHeld new.states) × (new.states ≡ pushed old.states key s))
  push_ok (Ok done) valid e = ((ap (λ (v : SiteValue). v.broken) e, held), ap (λ (v : SiteValue). v.states) e ∙ put_is_pushed old.states key s whole.1 valid)
  push_ok (Err refusal) valid e = tt

  pub push_refused : (r : Result (Unit {0}) Refusal) → IfErr r (λ refusal. refusal ≢ Broken → new ≡ old) → IfErr r (λ refusal. refusal ≡ Broken → new ≡ record { config = old.config; states = old.states; broken = true })
      → IfErr r (λ _. new.states ≡ old.states)
  push_refused (Ok done) same told = tt
  push_refused (Err refusal) same told = elim (is_broken refusal) [
    | inl is ↦ ap (λ (v : SiteValue). v.states) (told is)
    | inr other ↦ ap (λ (v : SiteValue). v.states) (same other)
  ]

  pub push_unbroken : (r : Result (Unit {0}) Refusal) → IfErr r (λ refusal. refusal ≢ Broken → new ≡ old) → IfErr r (λ refusal. refusal ≢ Broken → (new.broken ≡ false) × AreHeld new.states)
  push_unbroken (Ok done) same = tt
  push_unbroken (Err refusal) same = λ other. (ap (λ (v : SiteValue). v.broken) (same other) ∙ whole.0, held)

-- what a push does not change
pub push_follows : (old new : SiteValue) (after : States) (r : Result (Unit {0}) Refusal) → OnOk r (new ≡ record { config = old.config; states = after; broken = false }) → IfErr r (λ refusal. refusal ≢ Broken → new ≡ old)
    → IfErr r (λ refusal. refusal ≡ Broken → new ≡ record { config = old.config; states = old.states; broken = true }) → (old.broken ≡ true → r ≡ Err Broken) → SiteFollows old new
push_follows old new after (Ok done) is same told stays = (ap (λ (v : SiteValue). v.config) is, λ broken. let never = stays broken in absurd (cc))
push_follows old new after (Err refusal) is same told stays = elim (is_broken refusal) [
  | inl e ↦ (ap (λ (v : SiteValue). v.config) (told e), λ broken. told e ∙ (λ i. record { config = old.config; states = old.states; broken = sym broken i }))
  | inr other ↦ (ap (λ (v : SiteValue). v.config) (same other), λ _. same other)
]

-- ---- what a site refuses

same_refusal : (refusal told : Refusal) → Refused told ≡ Refused refusal → refusal ≡ told
same_refusal refusal told e = cc

is_told : (site : SiteValue) (refusal told : Refusal) → refusal ≡ told → is_site_refusal told ≡ true → site.broken ≡ tells_broken told → SiteRefuses site refusal
is_told site refusal told e one broken = (ap is_site_refusal e ∙ one, broken ∙ sym (ap tells_broken e))

bucket_told : (broken three : Bool) (refusal : Refusal) → refusal ≡ (if broken then Broken else if three then Memory else BadPath) → (is_site_refusal refusal ≡ true) × (broken ≡ tells_broken refusal)
bucket_told true three refusal e = (ap is_site_refusal e, sym (ap tells_broken e))
bucket_told false true refusal e = (ap is_site_refusal e, sym (ap tells_broken e))
bucket_told false false refusal e = (ap is_site_refusal e, sym (ap tells_broken e))

pub bucket_refuses : {X : Type 0} (site : SiteValue) (path : List ℕ) (r : Result X Refusal) → IfErr r (λ refusal. refusal ≡ bucket_refusal site.broken path) → IfErr r (SiteRefuses site)
bucket_refuses site path (Ok done) e = tt
bucket_refuses site path (Err refusal) e = bucket_told site.broken (length path == 3) refusal e

pub get_refuses : {X : Type 0} (site : SiteValue) (r : Result X Refusal) → IfErr r (λ refusal. refusal ≡ unless_broken site.broken Broken Memory) → IfErr r (SiteRefuses site)
get_refuses site (Ok done) e = tt
get_refuses site (Err refusal) e = bucket_told site.broken true refusal e

-- no question is refused for its key, and a page for its path alone
bucket_apart : (path : List ℕ) (broken three : Bool) (refusal : Refusal) → (length path == 3) ≡ three → refusal ≡ (if broken then Broken else if three then Memory else BadPath) → RefusesPage path refusal
bucket_apart path true three refusal is e = subst (RefusesPage path) (sym e) refl
bucket_apart path false true refusal is e = subst (RefusesPage path) (sym e) refl
bucket_apart path false false refusal is e = subst (RefusesPage path) (sym e) is

pub bucket_not_of_key : {X : Type 0} (broken : Bool) (path : List ℕ) (r : Result X Refusal) → IfErr r (λ refusal. refusal ≡ bucket_refusal broken path) → IfErr r (RefusesPage path)
bucket_not_of_key broken path (Ok done) e = tt
bucket_not_of_key broken path (Err refusal) e = bucket_apart path broken (length path == 3) refusal refl e

get_apart : (broken : Bool) (refusal : Refusal) → refusal ≡ (if broken then Broken else Memory) → is_of_question refusal ≡ false
get_apart true refusal e = ap is_of_question e
get_apart false refusal e = ap is_of_question e

pub get_not_of_key : {X : Type 0} (broken : Bool) (r : Result X Refusal) → IfErr r (λ refusal. refusal ≡ unless_broken broken Broken Memory) → IfErr r (λ refusal. is_of_question refusal ≡ false)
get_not_of_key broken (Ok done) e = tt
get_not_of_key broken (Err refusal) e = get_apart broken refusal e

-- why a push is refused, by the limits
push_told : (large clash larger full : Bool) (refusal : Refusal) → (if large then Refused StateTooLarge else if clash then Refused DotClash else if larger then Refused StateTooLarge else if full then Refused Full else Done) ≡ Refused refusal
    → (is_site_refusal refusal ≡ true) × (false ≡ tells_broken refusal)
push_told true clash larger full refusal e = let is = same_refusal refusal StateTooLarge e in (ap is_site_refusal is, sym (ap tells_broken is))
push_told false true larger full refusal e = let is = same_refusal refusal DotClash e in (ap is_site_refusal is, sym (ap tells_broken is))
push_told false false true full refusal e = let is = same_refusal refusal StateTooLarge e in (ap is_site_refusal is, sym (ap tells_broken is))
push_told false false false true refusal e = let is = same_refusal refusal Full e in (ap is_site_refusal is, sym (ap tells_broken is))
push_told false false false false refusal e = absurd (cc)

module _ (old new : SiteValue) (key : List ℕ) (s : State) where
  pub push_refuses : (r : Result (Unit {0}) Refusal) → AnswersFrom old new (Push key s) (push_reply r) → IfErr r (λ refusal. refusal ≡ Broken → new ≡ record { config = old.config; states = old.states; broken = true }) → (old.broken ≡ true → r ≡ Err Broken)
      → IfErr r (SiteRefuses new)
  push_refuses (Ok done) from told stays = tt
  push_refuses (Err refusal) from told stays = elim old.broken as (λ b. old.broken ≡ b → SiteRefuses new refusal) [
    | true ↦ λ was.
        let e : Err refusal ≡ Err Broken = stays was in
        let is : refusal ≡ Broken = cc in
        is_told new refusal Broken is refl (ap (λ (v : SiteValue). v.broken) (told is))
    | false ↦ λ was. elim (from was) [
      | inl answered ↦
          let why = push_told (is_too_large s) (clashes (state_at old.states key) s) (is_too_large (join (state_at old.states key) s)) (is_full old.config (is_some (get old.states key)) (len old.states) && not (is_empty (join (state_at old.states key) s).context)) refusal (sym answered.answers) in
          (why.0, ap (λ (v : SiteValue). v.broken) answered.site ∙ why.1)
      | inr (inl memory) ↦ is_told new refusal Memory (same_refusal refusal Memory (sym memory.0)) refl (ap (λ (v : SiteValue). v.broken) memory.1 ∙ was)
      | inr (inr broke) ↦ is_told new refusal Broken (same_refusal refusal Broken (sym broke.0)) refl (ap (λ (v : SiteValue). v.broken) broke.1.site)
    ]
  ] refl

pub push_answers : (new : SiteValue) (config : ConfigValue) (after : States) (r : Result (Unit {0}) Refusal) → OnOk r (new ≡ record { config = config; states = after; broken = false }) → OnOk r (new.broken ≡ false)
push_answers new config after (Ok done) e = ap (λ (v : SiteValue). v.broken) e
push_answers new config after (Err refusal) e = tt

-- ---- the cause of a refused push

by_limits : (P : Refusal → Type 0) (large clash larger full : Bool) (refusal : Refusal) → (if large then Refused StateTooLarge else if clash then Refused DotClash else if larger then Refused StateTooLarge else if full then Refused Full else Done) ≡ Refused refusal
    → (large ≡ true → P StateTooLarge) → (clash ≡ true → P DotClash) → (larger ≡ true → P StateTooLarge) → (full ≡ true → P Full) → P refusal
by_limits P true clash larger full refusal e p q r t = subst P (sym (same_refusal refusal StateTooLarge e)) (p refl)
by_limits P false true larger full refusal e p q r t = subst P (sym (same_refusal refusal DotClash e)) (q refl)
by_limits P false false true full refusal e p q r t = subst P (sym (same_refusal refusal StateTooLarge e)) (r refl)
by_limits P false false false true refusal e p q r t = subst P (sym (same_refusal refusal Full e)) (t refl)
by_limits P false false false false refusal e p q r t = absurd (cc)

both : (a b : Bool) → (a && b) ≡ true → (a ≡ true) × (b ≡ true)
both true b e = (refl, e)
both false b e = absurd (cc)

no_state : (o : Option State) → not (is_some o) ≡ true → o ≡ None
no_state None e = refl
no_state (Some s) e = absurd (cc)

full_means : (config : ConfigValue) (m : States) (key : List ℕ) (seen : Bool) → (is_full config (is_some (get m key)) (len m) && seen) ≡ true → (get m key ≡ None) × (config.max_keys ≤ len m)
full_means config m key seen e =
    let full = both (is_full config (is_some (get m key)) (len m)) seen e in
    let parts = both (not (is_some (get m key))) (len m == config.max_keys) full.0 in
    let same : len m ≡ config.max_keys = (unsigned_Decides (len m) config.max_keys).0 parts.1 in
    (no_state (get m key) parts.0, omega (arith, same))

pub push_cause : (old new : SiteValue) (key : List ℕ) (s : State) → old.broken ≡ false → (r : Result (Unit {0}) Refusal) → AnswersFrom old new (Push key s) (push_reply r) → IfErr r (CannotTake old.config.max_keys old.states key s)
push_cause old new key s whole (Ok done) from = tt
push_cause old new key s whole (Err refusal) from =
    let P = CannotTake old.config.max_keys old.states key s in
    elim (from whole) [
      | inl answered ↦ by_limits P (is_too_large s) (clashes (state_at old.states key) s) (is_too_large (join (state_at old.states key) s)) (is_full old.config (is_some (get old.states key)) (len old.states) && not (is_empty (join (state_at old.states key) s).context)) refusal
          (sym answered.answers) (λ e. inl e) (λ e. e) (λ e. inr e) (full_means old.config old.states key (not (is_empty (join (state_at old.states key) s).context)))
      | inr (inl memory) ↦ subst P (sym (same_refusal refusal Memory (sym memory.0))) tt
      | inr (inr broke) ↦ subst P (sym (same_refusal refusal Broken (sym broke.0))) tt
    ]

-- ---- one push, as a side tells it

pub record SitePushed (old new : SiteValue) (key : List ℕ) (s : State) (r : Result (Unit {0}) Refusal) : Type 0 where
  pub valid : IsValid s
  pub ok : IsWholeSite old → OnOk r (IsWholeSite new × (new.states ≡ pushed old.states key s))
  pub apart : OnOk r (clashes (state_at old.states key) s ≡ false)
  pub refused : IsWholeSite old → IfErr r (λ _. new.states ≡ old.states)
  pub unbroken : IsWholeSite old → IfErr r (λ refusal. refusal ≢ Broken → IsWholeSite new)
  pub cause : IsWholeSite old → IfErr r (CannotTake old.config.max_keys old.states key s)
  pub follows : SiteFollows old new
  pub refuses : IfErr r (SiteRefuses new)
  pub answers : OnOk r (new.broken ≡ false)

module _ (old new : SiteValue) (key : List ℕ) (s : State) (r : Result (Unit {0}) Refusal) where
  pub site_pushed : IsValid s → AreHeld new.states → AnswersFrom old new (Push key s) (push_reply r) → OnOk r (new ≡ joined_site old key s) → OnOk r (clashes (state_at old.states key) s ≡ false) → IfErr r (λ refusal. refusal ≢ Broken → new ≡ old) → IfErr r (λ refusal. refusal ≡ Broken → new ≡ broken_site old)
      → (old.broken ≡ true → r ≡ Err Broken) → SitePushed old new key s r
  site_pushed valid held answer joined agreed unchanged told stays = record {
    valid = valid;
    ok = λ whole. push_ok old new key s whole held r valid joined;
    apart = agreed;
    refused = λ whole. push_refused old new key s whole held r unchanged told;
    unbroken = λ whole. push_unbroken old new key s whole held r unchanged;
    cause = λ whole. push_cause old new key s whole.0 r answer;
    follows = push_follows old new _ r joined unchanged told stays;
    refuses = push_refuses old new key s r answer told stays;
    answers = push_answers new old.config _ r joined;
  }

  -- of a live one too
  pub push_live : (most : ℕ) → old.config.max_keys ≡ most → SitePushed old new key s r → (r ≡ Err Broken → ⊥) → TellsLive IsWholeSite (λ site. site.states) (TellsPush most) ((key, s) ∷ []) (r ∷ []) old new
  push_live most same it unbroken = λ whole.
      let still = still_true _ _ r (it.ok whole) (it.unbroken whole) unbroken in
      let told = one_moment old.config.max_keys old.states new.states key s r whole.1 still.1 it.valid (second_ok _ _ r (it.ok whole)) it.apart (it.refused whole) (it.cause whole) in
      (still, told.0, subst (λ n. TellsEach (TellsPush n) ((key, s) ∷ []) (r ∷ []) old.states told.0 new.states) same told.1)
