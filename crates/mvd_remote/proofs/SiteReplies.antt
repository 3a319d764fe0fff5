-- The reply of a site is that of a faithful side.
use Rattle.std.proofs.Common.{◌≡◌, ◌⊎◌, inl, inr, ℕ, ◌≤◌, ◌==◌, ◌&&◌, Bool, true, false, List, length, Option, refl, sym, ap, subst, ◌∙◌, true≢false, arith}
use Rattle.std.specs.Prelude.{Ok, Err, is_some, not, if◌then◌else◌}
use Rattle.std.specs.FinMap.{get, len}
use Rattle.mvd_dots.specs.Refusal.{number_of}
use Rattle.mvd_dots.specs.declared.refusals.Refusal.{Refusal}
use Rattle.mvd_dots.specs.declared.refusals.Refusal.TheVariants.{BadPath, Broken, DotClash, Full, Memory, StateTooLarge}
use Rattle.mvd_keys.specs.State.{IsValid, State, clashes, join}
use Rattle.mvd_keys.specs.Writes.{Key, is_empty}
use Rattle.mvd_tree.specs.Page.{is_more_after_page, bucket_page}
use Rattle.mvd_wire.specs.declared.request.Request.{Request}
use Rattle.mvd_wire.specs.declared.request.Request.TheVariants.{Get, Put, Delete, Find, Row, Rows, Node, Bucket, Push, Range, Keys as KeysAsked, Conflicts, Hello, Bye}
use Rattle.mvd_wire.specs.declared.reply.Reply.{Reply}
use Rattle.mvd_wire.specs.declared.reply.Reply.TheVariants.{Done, Keys, Refused}
use Rattle.mvd_site.specs.Answer.{digests, is_full, is_too_large, node_digests}
use Rattle.mvd_site.specs.Config.{ConfigValue}
use Rattle.mvd_site.specs.FromStates.{Answered, AnswersFrom, after_from, answer_from, change_from, with_change}
use Rattle.mvd_site.specs.Held.{AreHeld, States, state_at}
use Rattle.mvd_site.specs.Known.{IsValidRequest}
use Rattle.mvd_site.specs.Sites.{SiteValue}
use Rattle.mvd_peer.specs.PushedStates.{pushed}
use Rattle.mvd_peer.specs.Sides.{is_of_question}
use Rattle.mvd_peer.specs.Windows.{CannotTake, RefusesPage}
use Rattle.mvd_peer.proofs.SiteSides.{node_bucket, node_inner, node_own, push_cause, put_is_pushed}
use Rattle.mvd_remote.specs.Lines.{TrueReply}

page_so : (path : List ℕ) (refusal : Refusal) → is_of_question refusal ≡ false → RefusesPage path refusal
page_so path BadPath free = absurd (true≢false free)
page_so path refusal free = free

-- want of memory, or that the site is broken
pub refused_so : (config : ConfigValue) (old new : States) (q : Request) (refusal : Refusal) → new ≡ old → 20 ≤ number_of refusal → is_of_question refusal ≡ false → ((key : Key) (s : State) → CannotTake config.max_keys old key s refusal) → TrueReply config old q (Refused refusal) new
refused_so config old new (Get key) refusal same own free why = (free, same)
refused_so config old new (Node path) refusal same own free why = (free, same)
refused_so config old new (Bucket path after) refusal same own free why = (page_so path refusal free, same)
refused_so config old new (Push key s) refusal same own free why = inl (why key s, same)
refused_so config old new Bye refusal same own free why = inr (refusal, refl, own, inl same)
refused_so config old new (Put k c d) refusal same own free why = inr (refusal, refl, own, inl same)
refused_so config old new (Delete k c) refusal same own free why = inr (refusal, refl, own, inl same)
refused_so config old new (Find f t after) refusal same own free why = inr (refusal, refl, own, inl same)
refused_so config old new (Row v t) refusal same own free why = inr (refusal, refl, own, inl same)
refused_so config old new (Rows v after) refusal same own free why = inr (refusal, refl, own, inl same)
refused_so config old new (Range f from to after) refusal same own free why = inr (refusal, refl, own, inl same)
refused_so config old new (KeysAsked p after) refusal same own free why = inr (refusal, refl, own, inl same)
refused_so config old new (Conflicts after) refusal same own free why = inr (refusal, refl, own, inl same)
refused_so config old new (Hello t) refusal same own free why = inr (refusal, refl, own, inl same)

bucket_so : (config : ConfigValue) (old : States) (path : List ℕ) (after : Option Key) (three : Bool) → (length path == 3) ≡ three → TrueReply config old (Bucket path after) (if three then Keys (bucket_page (digests old) path after) (is_more_after_page (digests old) path after) else Refused BadPath) old
bucket_so config old path after true is = (refl, refl, refl)
bucket_so config old path after false is = (is, refl)

node_so : (config : ConfigValue) (old : States) (path : List ℕ) → TrueReply config old (Node path) (answer_from config old (Node path)) old
node_so config old path = ((node_own false old path (Ok (node_digests (digests old) path)) refl refl, node_inner false old path (Ok (node_digests (digests old) path)) refl refl, node_bucket false old path (Ok (node_digests (digests old) path)) refl refl), refl)

-- what a site that is not broken does with a request, its answer apart
module _ (old new : SiteValue) (q : Request) (reply : Reply) (whole : old.broken ≡ false) (from : AnswersFrom old new q reply) where
  kept_so : ((answered : Answered old new q reply) → TrueReply old.config old.states q reply new.states) → TrueReply old.config old.states q reply new.states
  kept_so f = elim (from whole) [
    | inl answered ↦ f answered
    | inr (inl memory) ↦ subst (λ (r : Reply). TrueReply old.config old.states q r new.states) (sym memory.0) (refused_so old.config old.states new.states q Memory (ap (λ (v : SiteValue). v.states) memory.1) (omega arith) refl (λ key s. tt))
    | inr (inr broke) ↦ subst (λ (r : Reply). TrueReply old.config old.states q r new.states) (sym broke.0) (refused_so old.config old.states new.states q Broken (ap (λ (v : SiteValue). v.states) broke.1.site) (omega arith) refl (λ key s. tt))
  ]

  so : (answered : Answered old new q reply) → TrueReply old.config old.states q (answer_from old.config old.states q) (after_from old.config old.states q) → TrueReply old.config old.states q reply new.states
  so answered t = subst (λ (r : Reply). TrueReply old.config old.states q r new.states) (sym answered.answers) (subst (TrueReply old.config old.states q (answer_from old.config old.states q)) (sym (ap (λ (v : SiteValue). v.states) answered.site)) t)

-- ---- a push

shape : (large clash larger full : Bool) (r : Reply) → r ≡ (if large then Refused StateTooLarge else if clash then Refused DotClash else if larger then Refused StateTooLarge else if full then Refused Full else Done) → ((r ≡ Done) × (clash ≡ false)) ⊎ ((refusal : Refusal) × (r ≡ Refused refusal))
shape true clash larger full r e = inr (StateTooLarge, e)
shape false true larger full r e = inr (DotClash, e)
shape false false true full r e = inr (StateTooLarge, e)
shape false false false true r e = inr (Full, e)
shape false false false false r e = inl (e, refl)

push_so : (old new : SiteValue) (key : Key) (s : State) (reply : Reply) → old.broken ≡ false → AreHeld old.states → (reply ≡ Done → IsValid s) → AnswersFrom old new (Push key s) reply → Answered old new (Push key s) reply → TrueReply old.config old.states (Push key s) reply new.states
push_so old new key s reply whole held valid from answered =
    let states : new.states ≡ after_from old.config old.states (Push key s) = ap (λ (v : SiteValue). v.states) answered.site in
    let changed : after_from old.config old.states (Push key s) ≡ with_change old.states (change_from old.states (Push key s) reply) = ap (λ (r : Reply). with_change old.states (change_from old.states (Push key s) r)) (sym answered.answers) in
    elim (shape (is_too_large s) (clashes (state_at old.states key) s) (is_too_large (join (state_at old.states key) s)) (is_full old.config (is_some (get old.states key)) (len old.states) && not (is_empty (join (state_at old.states key) s).context)) reply answered.answers) [
      | inl done ↦
          let put : new.states ≡ pushed old.states key s = states ∙ changed ∙ ap (λ (r : Reply). with_change old.states (change_from old.states (Push key s) r)) done.0 ∙ put_is_pushed old.states key s held (valid done.0) in
          subst (λ (r : Reply). TrueReply old.config old.states (Push key s) r new.states) (sym done.0) (done.1, put)
      | inr (refusal, is) ↦
          let same : new.states ≡ old.states = states ∙ changed ∙ ap (λ (r : Reply). with_change old.states (change_from old.states (Push key s) r)) is in
          let why : CannotTake old.config.max_keys old.states key s refusal = push_cause old new key s whole (Err refusal) (subst (λ (r : Reply). AnswersFrom old new (Push key s) r) is from) in
          subst (λ (r : Reply). TrueReply old.config old.states (Push key s) r new.states) (sym is) (inl (why, same))
    ]

-- ---- any request

whole_so : (old new : SiteValue) (q : Request) (reply : Reply) → old.broken ≡ false → AreHeld old.states → (reply ≡ Done → IsValidRequest q) → AnswersFrom old new q reply → TrueReply old.config old.states q reply new.states
whole_so old new (Get key) reply whole held valid from = kept_so old new (Get key) reply whole from (λ a. so old new (Get key) reply whole from a (refl, refl))
whole_so old new (Node path) reply whole held valid from = kept_so old new (Node path) reply whole from (λ a. so old new (Node path) reply whole from a (node_so old.config old.states path))
whole_so old new (Bucket path after) reply whole held valid from = kept_so old new (Bucket path after) reply whole from (λ a. so old new (Bucket path after) reply whole from a (bucket_so old.config old.states path after (length path == 3) refl))
whole_so old new (Push key s) reply whole held valid from = kept_so old new (Push key s) reply whole from (λ a. push_so old new key s reply whole held valid from a)
whole_so old new Bye reply whole held valid from = kept_so old new Bye reply whole from (λ a. inl (a.answers, ap (λ (v : SiteValue). v.states) a.site))
whole_so old new (Put k c d) reply whole held valid from = kept_so old new (Put k c d) reply whole from (λ a. inl (a.answers, ap (λ (v : SiteValue). v.states) a.site))
whole_so old new (Delete k c) reply whole held valid from = kept_so old new (Delete k c) reply whole from (λ a. inl (a.answers, ap (λ (v : SiteValue). v.states) a.site))
whole_so old new (Find f t after) reply whole held valid from = kept_so old new (Find f t after) reply whole from (λ a. inl (a.answers, ap (λ (v : SiteValue). v.states) a.site))
whole_so old new (Row v t) reply whole held valid from = kept_so old new (Row v t) reply whole from (λ a. inl (a.answers, ap (λ (v : SiteValue). v.states) a.site))
whole_so old new (Rows v after) reply whole held valid from = kept_so old new (Rows v after) reply whole from (λ a. inl (a.answers, ap (λ (v : SiteValue). v.states) a.site))
whole_so old new (Range f start to after) reply whole held valid from = kept_so old new (Range f start to after) reply whole from (λ a. inl (a.answers, ap (λ (v : SiteValue). v.states) a.site))
whole_so old new (KeysAsked p after) reply whole held valid from = kept_so old new (KeysAsked p after) reply whole from (λ a. inl (a.answers, ap (λ (v : SiteValue). v.states) a.site))
whole_so old new (Conflicts after) reply whole held valid from = kept_so old new (Conflicts after) reply whole from (λ a. inl (a.answers, ap (λ (v : SiteValue). v.states) a.site))
whole_so old new (Hello t) reply whole held valid from = kept_so old new (Hello t) reply whole from (λ a. inl (a.answers, ap (λ (v : SiteValue). v.states) a.site))

-- THE REPLY OF A SITE is a true one, also where it is broken; what was pushed and is done is valid
pub replies_truly : (old new : SiteValue) (q : Request) (reply : Reply) → AreHeld old.states → (reply ≡ Done → IsValidRequest q) → AnswersFrom old new q reply → (old.broken ≡ true → (reply ≡ Refused Broken) × (new ≡ old)) → TrueReply old.config old.states q reply new.states
replies_truly old new q reply held valid from stays = elim old.broken as (λ b. old.broken ≡ b → TrueReply old.config old.states q reply new.states) [
  | true ↦ λ was.
      let same = stays was in
      subst (λ (r : Reply). TrueReply old.config old.states q r new.states) (sym same.0) (refused_so old.config old.states new.states q Broken (ap (λ (v : SiteValue). v.states) same.1) (omega arith) refl (λ key s. tt))
  | false ↦ λ was. whole_so old new q reply was held valid from
] refl
