-- Requests change no states but those of the keys that they ask to change.
use Rattle.std.proofs.Common.{◌≡◌, ◌⊎◌, inl, inr, ℕ, ◌<◌, ◌≤◌, ◌^◌, ◌-◌, ◌+◌, min, Bool, true, false, cond, if◌then◌else◌, List, [], ◌∷◌, ◌++◌, map, Option, None, Some, Result, Ok, Err, refl, sym, ap, subst, ◌∙◌, append-nil, append_assoc, arith}
use Rattle.std.specs.Option.{option_to_list}
use Rattle.std.specs.FinMap.{get, insert, get-insert}
use Rattle.std.specs.Ordering.{eq_by_cmp}
use Rattle.mvd_dots.specs.declared.refusals.Refusal.{Refusal}
use Rattle.mvd_dots.specs.declared.refusals.Refusal.TheVariants.{Broken}
use Rattle.mvd_keys.specs.Key.{key_cmp}
use Rattle.mvd_keys.specs.State.{State, after_delete, after_put, join}
use Rattle.mvd_keys.specs.Writes.{Key, is_empty}
use Rattle.mvd_keys.proofs.KeyOrder.{key_total, same_where_tied, tied_where_same}
use Rattle.mvd_wire.specs.declared.request.Request.{Request}
use Rattle.mvd_wire.specs.declared.request.Request.TheVariants.{Put, Delete, Push}
use Rattle.mvd_wire.specs.declared.reply.Reply.{Reply}
use Rattle.mvd_wire.specs.declared.reply.Reply.TheVariants.{Written, Done}
use Rattle.mvd_tree.specs.HashTree.{node_digest}
use Rattle.mvd_site.specs.Answer.{change_from, digests, with_change}
use Rattle.mvd_site.specs.FromStates.{answer_from, unless_broken, with_state}
use Rattle.mvd_site.specs.Held.{States, state_at}
use Rattle.mvd_site.specs.Sites.{SiteValue}
use Rattle.mvd_replica.specs.Batch.{AnswersOneFrom, TakesAllFrom, TakesFrom}
use Rattle.mvd_replica.proofs.Batching.{stays_from, stored_from}
use Rattle.mvd_replica.specs.Commits.{AnswersInCommits}
use Rattle.mvd_replica.specs.ReplicaCalls.{root_answer}
use Rattle.mvd_replica.specs.Replicas.{commits_of, site_of}
use Rattle.mvd_replica.specs.Sides.{AnswersFromStored}
use Rattle.mvd_replica.specs.Turns.{Turn}
use Rattle.mvd_replica.specs.declared.replica.Replica.{Replica}
use Rattle.mvd_replica.proofs.Commits.{answers_all, answers_count}
use Rattle.sqlite_trees.specs.declared.store.Store.{Ghosts}
use Rattle.mvd_host.specs.Feeds.{is_listed}
use Rattle.mvd_host.specs.Lists.{ChangesAmong, root_of}
use Rattle.mvd_host.specs.Noting.{key_to_change, keys_to_change}
use Rattle.mvd_host.proofs.Listing.{changes_on, or_left}

-- ---- one request

insert_changes : (states : States) (key : Key) (s : State) → ChangesAmong (key ∷ []) states (insert states key s)
insert_changes states key s q =
    elim (eq_by_cmp key_cmp q key) as (λ b. eq_by_cmp key_cmp q key ≡ b → (get states q ≡ get (insert states key s) q) ⊎ (is_listed (key ∷ []) q ≡ true)) [
      | true ↦ λ tied. inr (or_left (eq_by_cmp key_cmp key q) false (tied_where_same key q (sym (same_where_tied q key tied))))
      | false ↦ λ apart. inl (sym (get-insert key_total states key s q ∙ ap (λ b. cond b (Some s) (get states q)) apart))
    ] refl

put_changes : (states : States) (key : Key) (s : State) → ChangesAmong (key ∷ []) states (with_state states key s)
put_changes states key s q =
    elim (is_empty s.context) as (λ b. (get states q ≡ get (if b then states else insert states key s) q) ⊎ (is_listed (key ∷ []) q ≡ true)) [ true ↦ inl refl | false ↦ insert_changes states key s q ]

reply_changes : (states : States) (request : Request) (reply : Reply) → ChangesAmong (option_to_list (key_to_change request)) states (with_change states (change_from states request reply))
reply_changes states (Put key seen document) (Written dot) = put_changes states key (after_put (state_at states key) dot seen document)
reply_changes states (Delete key seen) Done = put_changes states key (after_delete (state_at states key) seen)
reply_changes states (Push key pushed) Done = put_changes states key (join (state_at states key) pushed)
reply_changes states request reply = λ key. inl refl

same_changes : (keys : List Key) (old new : States) → new ≡ old → ChangesAmong keys old new
same_changes keys old new same key = inl (ap (λ (s : States). get s key) (sym same))

module _ (old new : SiteValue) (request : Request) (reply : Reply) where
  from_changes : (old.broken ≡ false) → AnswersFromStored old new request reply → ChangesAmong (option_to_list (key_to_change request)) old.states new.states
  from_changes whole (inr refused) = same_changes _ old.states new.states (ap (λ (s : SiteValue). s.states) refused.site)
  from_changes whole (inl answers) = elim (answers whole) [
    | inl answered ↦ subst (λ s. ChangesAmong (option_to_list (key_to_change request)) old.states s) (sym (ap (λ (s : SiteValue). s.states) answered.site)) (reply_changes old.states request (answer_from old.config old.states request))
    | inr other ↦ elim other [
      | inl memory ↦ same_changes _ old.states new.states (ap (λ (s : SiteValue). s.states) memory.1)
      | inr broke ↦ same_changes _ old.states new.states (ap (λ (s : SiteValue). s.states) broke.1.site)
    ]
  ]

  request_changes : AnswersOneFrom old new request reply → ChangesAmong (option_to_list (key_to_change request)) old.states new.states
  request_changes one =
      elim old.broken as (λ b. old.broken ≡ b → ChangesAmong (option_to_list (key_to_change request)) old.states new.states) [
        | true ↦ λ broken. same_changes _ old.states new.states (ap (λ (s : SiteValue). s.states) (stays_from one broken).1)
        | false ↦ λ whole. from_changes whole (stored_from one)
      ] refl

-- ---- many

ok_is : (a b : Request) → ◌≡◌ {A = Result Request Refusal} (Ok a) (Ok b) → a ≡ b
ok_is a b e = cc

turn_changes : (old new : SiteValue) (asked : Result Request Refusal) (reply : Reply) (request : Request) → asked ≡ Ok request → TakesFrom old new asked reply → ChangesAmong (option_to_list (key_to_change request)) old.states new.states
turn_changes old new (Ok own) reply request is takes =
    subst (λ r. ChangesAmong (option_to_list (key_to_change r)) old.states new.states) (ok_is own request is) (request_changes old new own reply takes)
turn_changes old new (Err fault) reply request is takes = absurd cc

pub turns_change : (old new : SiteValue) (turns : List Turn) (requests : List Request) → map (λ turn. turn.asked) turns ≡ map (λ request. Ok request) requests → TakesAllFrom old new turns → ChangesAmong (keys_to_change requests) old.states new.states
turns_change old new [] [] asked takes = same_changes [] old.states new.states (ap (λ (s : SiteValue). s.states) takes)
turns_change old new [] (request ∷ requests) asked takes = absurd cc
turns_change old new (turn ∷ turns) [] asked takes = absurd cc
turns_change old new (turn ∷ turns) (request ∷ requests) asked takes =
    let mid = takes.0 in
    let first : turn.asked ≡ Ok request = cc in
    let others : map (λ turn. turn.asked) turns ≡ map (λ request. Ok request) requests = cc in
    changes_on (option_to_list (key_to_change request)) (keys_to_change requests) old.states mid.states new.states
    (turn_changes old mid turn.asked turn.reply request first takes.1) (turns_change mid new turns requests others takes.2)

-- ---- the keys that are noted

changed_more : (requests : List Request) (request : Request) → keys_to_change (requests ++ request ∷ []) ≡ keys_to_change requests ++ option_to_list (key_to_change request)
changed_more [] request = append-nil (option_to_list (key_to_change request))
changed_more (r ∷ requests) request =
    ap (λ (l : List Key). option_to_list (key_to_change r) ++ l) (changed_more requests request) ∙ sym (append_assoc (option_to_list (key_to_change r)) (keys_to_change requests) (option_to_list (key_to_change request)))

-- with one more, whose request asks to change it
pub with_key : (requests : List Request) (request : Request) (key : Key) (keys more : List Key) → keys ≡ keys_to_change requests → Some key ≡ key_to_change request → more ≡ keys ++ key ∷ [] → more ≡ keys_to_change (requests ++ request ∷ [])
with_key requests request key keys more so_far some is =
    is ∙ ap (λ (l : List Key). l ++ key ∷ []) so_far ∙ ap (λ (o : Option Key). keys_to_change requests ++ option_to_list o) some ∙ sym (changed_more requests request)

none_where : (o : Option Key) → ((key : Key) → o ≡ Some key → ⊥) → o ≡ None
none_where None other = refl
none_where (Some key) other = absurd (other key refl)

-- with one request more that asks to change none
pub without_key : (requests : List Request) (request : Request) (keys : List Key) → keys ≡ keys_to_change requests → ((key : Key) → key_to_change request ≡ Some key → ⊥) → keys ≡ keys_to_change (requests ++ request ∷ [])
without_key requests request keys so_far other =
    so_far ∙ sym (append-nil (keys_to_change requests)) ∙ ap (λ (o : Option Key). keys_to_change requests ++ option_to_list o) (sym (none_where (key_to_change request) other)) ∙ sym (changed_more requests request)

-- ---- commits

commits_same : (site : Type 0) (count old new most : ℕ) → site ⊎ (0 < count) → min (old + count) most ≤ new → new ≡ old → old < most → site
commits_same site count old new most (inl same) least is few = same
commits_same site count old new most (inr some) least is few = absurd (omega (arith, some, least, is, few))

module _ {S : Type 0} {g : Ghosts S} where
  -- where no commit was counted, the site is as it was
  pub uncounted : (requests : List Request) (replies : List Reply) (old new : Replica S g) → AnswersInCommits requests replies old new → commits_of new ≡ commits_of old → commits_of old < 2 ^ 64 - 1 → site_of new ≡ site_of old
  uncounted requests replies old new each same few =
      let counts = answers_count requests replies old new each in
      commits_same (site_of new ≡ site_of old) counts.count (commits_of old) (commits_of new) (2 ^ 64 - 1) counts.some counts.least same few

  -- what answered requests changed
  pub each_changes : (requests : List Request) (replies : List Reply) (old new : Replica S g) → AnswersInCommits requests replies old new → ChangesAmong (keys_to_change requests) (site_of old).states (site_of new).states
  each_changes requests replies old new each =
      let all = answers_all requests replies old new each in
      turns_change (site_of old) (site_of new) all.turns requests all.asked all.states

-- ---- the root

told_is : (a b : List ℕ) → ◌≡◌ {A = Result (List ℕ) Refusal} (Ok a) (Ok b) → a ≡ b
told_is a b e = cc

root_by : (broken : Bool) (states : States) (root : List ℕ) → unless_broken broken (Err Broken) (Ok (node_digest (digests states) [])) ≡ Ok root → root ≡ root_of states
unfolding root_of
root_by true states root is = cc
root_by false states root is = sym (told_is (node_digest (digests states) []) root is)

-- the root that is told is that of the states
pub root_is : (site : SiteValue) (root : List ℕ) → root_answer site ≡ Ok root → root ≡ root_of site.states
root_is site root is = root_by site.broken site.states root is
