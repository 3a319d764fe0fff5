-- Turns of a replica after turns: the records, requests that are answered at once, and the first of some.
use Rattle.std.proofs.Common.{◌≡◌, ◌∙◌, Bool, true, false, List, [], ◌∷◌, ◌++◌, Result, refl, sym, ap, subst, inl, inr, true≢false, append_assoc}
use Rattle.std.specs.List.{AllByRecursion}
use Rattle.mvd_dots.specs.declared.refusals.Refusal.{Refusal}
use Rattle.mvd_dots.specs.declared.refusals.Refusal.TheVariants.{Broken, Memory}
use Rattle.mvd_wire.specs.declared.request.Request.{Request}
use Rattle.mvd_wire.specs.declared.reply.Reply.TheVariants.{Refused}
use Rattle.mvd_records.specs.Records.{IsSound}
use Rattle.mvd_site.specs.Sites.{SiteValue}
use Rattle.mvd_site.proofs.Pushes.{refusal_is}
use Rattle.mvd_replica.specs.Batch.{AreAmongTurns, HoldsLost, Loses}
use Rattle.mvd_replica.specs.Holds.{HoldsSite}
use Rattle.mvd_replica.specs.Whole.{leaves_on, leaves_self, leaves_wider}
use Rattle.mvd_replica.specs.Turns.{AreUndoneIn, IsFirstBroken, IsToldElse, RepliesOne, Turn}
use Rattle.mvd_replica.proofs.Positions.{TakesTurns, TurnsFollow, stored_site}
use Rattle.mvd_replica.proofs.Breaking.{else_both, first_kept, first_later}
use Rattle.mvd_replica.proofs.Leaving.{undone_later, undone_more}
use Rattle.mvd_replica.proofs.Replying.{AddsAt-Refused, AddsAt-Refused-none, HasChoice-append, MayTell-memory, Replies-append, Replies-one, StandsOn-append, StandsOn-one}
use Rattle.sqlite.specs.Effect.{Database}
use Rattle.sqlite.specs.State.{HasCleanDisk, State}
use Rattle.mvd_replica.proofs.Batching.{HasChoice-turn, site_broken, still_stands, takes}

-- ---- the records

pub among_more : (requests : List Request) (turns more : List Turn) → AreAmongTurns requests turns → AreAmongTurns requests (turns ++ more)
among_more [] turns more all = tt
among_more (request ∷ requests) [] more all = absurd all
among_more (request ∷ requests) (turn ∷ turns) more (inl here) = inl (here.0, among_more requests turns more here.1)
among_more (request ∷ requests) (turn ∷ turns) more (inr later) = inr (among_more (request ∷ requests) turns more later)

abbrev loses_more : (turns more : List Turn) (site : SiteValue) → Loses turns site → Loses (turns ++ more) site
loses_more turns more site lost = record {
  before = lost.before;
  broke = lost.broke;
  later = lost.later ++ more;
  all = ap (λ l. l ++ more) lost.all ∙ append_assoc lost.before (lost.broke ∷ lost.later) more;
  first = lost.first;
  request = lost.request;
  asked = lost.asked;
  changes = lost.changes;
  rest = lost.rest;
  among = among_more lost.rest lost.later more lost.among;
}

pub lost_more : (turns more : List Turn) (site : SiteValue) (db : Database) → HoldsLost turns site db → HoldsLost (turns ++ more) site db
lost_more turns more site db it = record { lost = loses_more turns more site it.lost; holds = it.holds }

abbrev pub loses_later : (first turns : List Turn) (site : SiteValue) → AllByRecursion IsToldElse first → Loses turns site → Loses (first ++ turns) site
loses_later first turns site none lost = record {
  before = first ++ lost.before;
  broke = lost.broke;
  later = lost.later;
  all = ap (λ l. first ++ l) lost.all ∙ sym (append_assoc first lost.before (lost.broke ∷ lost.later));
  first = else_both first lost.before none lost.first;
  request = lost.request;
  asked = lost.asked;
  changes = lost.changes;
  rest = lost.rest;
  among = lost.among;
}

pub lost_later : (first turns : List Turn) (site : SiteValue) (db : Database) → AllByRecursion IsToldElse first → HoldsLost turns site db → HoldsLost (first ++ turns) site db
lost_later first turns site db none it = record { lost = loses_later first turns site none it.lost; holds = it.holds }

module _ (first second : List Turn) (old mid new : SiteValue) (before between after : State) (p : TurnsFollow first old mid before between) (q : TurnsFollow second mid new between after)
    (none : mid.broken ≡ false → AllByRecursion IsToldElse first) where
  lost_on : (is : Bool) → mid.broken ≡ is → IsSound after → HoldsSite old before.committed → old.broken ≡ false → new.broken ≡ true → HoldsLost (first ++ second) new after.committed
  lost_on true is sound holds whole broken =
      lost_more first second new after.committed
      (subst (λ s. HoldsLost first s after.committed) (sym (q.still is)) (subst (HoldsLost first mid) (sym (q.stays is)) (p.stored (q.sound sound) holds whole is)))
  lost_on false is sound holds whole broken = lost_later first second new after.committed (none is) (q.stored sound (p.holds (q.sound sound) holds) is broken)

  shut_on : (is : Bool) → between.is_open ≡ is → HasCleanDisk after → before.is_open ≡ false → new ≡ old
  shut_on true is clean shut =
      let sound : IsSound between = record { clean = q.clean clean; is_open = is } in
      absurd (true≢false (sym (p.sound sound).is_open ∙ shut))
  shut_on false is clean shut = q.shut clean is ∙ p.shut (q.clean clean) shut

  pub TurnsFollow-append : TurnsFollow (first ++ second) old new before after
  TurnsFollow-append = record {
    config = q.config ∙ p.config;
    still = λ broken. q.still (ap (λ (s : SiteValue). s.broken) (p.still broken) ∙ broken) ∙ p.still broken;
    sound = λ sound. p.sound (q.sound sound);
    holds = λ sound holds. q.holds sound (p.holds (q.sound sound) holds);
    stays = λ broken. q.stays (subst (λ (s : SiteValue). s.broken ≡ true) (sym (p.still broken)) broken) ∙ p.stays broken;
    stored = lost_on mid.broken refl;
    clean = λ clean. p.clean (q.clean clean);
    shut = shut_on between.is_open refl;
    leaves = leaves_on (AreUndoneIn (first ++ second)) (stored_site old before) (stored_site mid between) (stored_site new after)
        (leaves_wider _ _ _ _ (undone_more first second) p.leaves) (leaves_wider _ _ _ _ (undone_later first second) q.leaves)
        p.still q.still p.sound q.sound q.clean p.holds q.shut;
  }

-- ---- both

whole_before : (mid new : SiteValue) (is : Bool) → mid.broken ≡ is → (mid.broken ≡ true → new ≡ mid) → new.broken ≡ false → mid.broken ≡ false
whole_before mid new false is still whole = is
whole_before mid new true is still whole = sym (site_broken new mid (still is)) ∙ whole

breaks_both : (first second : List Turn) (old mid new : SiteValue) (is : Bool) → mid.broken ≡ is → (mid.broken ≡ false → AllByRecursion IsToldElse first) → (mid.broken ≡ true → (request : Request) × IsFirstBroken first request) →
    (mid.broken ≡ false → (request : Request) × IsFirstBroken second request) → (request : Request) × IsFirstBroken (first ++ second) request
breaks_both first second old mid new true is none one other = let found : (request : Request) × IsFirstBroken first request = one is in (found.0, first_kept first second found.0 found.1)
breaks_both first second old mid new false is none one other = let found : (request : Request) × IsFirstBroken second request = other is in (found.0, first_later first second found.0 (none is) found.1)

-- nothing was done
pub still_follows : (turns : List Turn) (site : SiteValue) (s : State) → TurnsFollow turns site site s s
still_follows turns site s = record {
  config = refl;
  still = λ _. refl;
  sound = λ sound. sound;
  holds = λ _ holds. holds;
  stays = λ _. refl;
  stored = λ _ _ whole broken. absurd (true≢false (sym broken ∙ whole));
  clean = λ clean. clean;
  shut = λ _ _. refl;
  leaves = leaves_self (AreUndoneIn turns) (stored_site site s) tt;
}

-- no turn
pub TakesTurns-none : (site : SiteValue) (s : State) → TakesTurns [] site site s s
TakesTurns-none site s = takes [] site site s s refl (still_follows [] site s)

-- turns after turns
pub TakesTurns-append : (first second : List Turn) (old mid new : SiteValue) (before between after : State) → TakesTurns first old mid before between → TakesTurns second mid new between after →
    TakesTurns (first ++ second) old new before after
TakesTurns-append first second old mid new before between after one other = record {
  replies = Replies-append old mid new first second one.config one.replies other.replies;
  stands = StandsOn-append old mid new first second one.stands other.stands;
  config = other.config ∙ one.config;
  choice = HasChoice-append first second one.choice other.choice;
  told = λ whole. else_both first second (one.told (whole_before mid new mid.broken refl other.follows.still whole)) (other.told whole);
  breaks = λ whole broken. breaks_both first second old mid new mid.broken refl (one.told) (one.breaks whole) (λ is. other.breaks is broken);
  follows = TurnsFollow-append first second old mid new before between after one.follows other.follows one.told;
}

-- want of memory in place of a reply
pub RepliesOne-memory : (site : SiteValue) (asked : Result Request Refusal) → RepliesOne site site (record { asked = asked; reply = Refused Memory })
RepliesOne-memory site asked = record {
  replies = λ known stands. MayTell-memory site.config known site.broken site.broken asked refl;
  stands = λ known added stands adds whole. still_stands site site known added refl (stands whole) (AddsAt-Refused asked Memory added adds);
  keeps = λ known added stands adds. still_stands site site known added refl stands (AddsAt-Refused asked Memory added adds);
}

pub TakesTurns-memory : (site : SiteValue) (s : State) (asked : Result Request Refusal) → TakesTurns (record { asked = asked; reply = Refused Memory } ∷ []) site site s s
TakesTurns-memory site s asked =
    let turn : Turn = record { asked = asked; reply = Refused Memory } in
    let one : RepliesOne site site turn = RepliesOne-memory site asked in
    record {
      replies = Replies-one site site turn one;
      stands = StandsOn-one site site turn one;
      config = refl;
      choice = HasChoice-turn asked (Refused Memory) ([], AddsAt-Refused-none asked Memory);
      told = λ _. ((λ request bad. (let is : Memory ≡ Broken = refusal_is Memory Broken bad.1 in absurd cc)), tt);
      breaks = λ whole broken. absurd (true≢false (sym broken ∙ whole));
      follows = still_follows (turn ∷ []) site s;
    }
