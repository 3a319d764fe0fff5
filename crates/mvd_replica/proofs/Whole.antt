-- Turns, and what ends them.
use Rattle.std.proofs.Common.{◌≡◌, ℕ, ◌+◌, ◌<◌, List, [], ◌∷◌, ◌++◌, length, Option, Some, None, Result, Ok, Err, inl, inr, refl, sym, ap, ◌∙◌, subst, append-nil, arith}
use Rattle.std.proofs.lemmas.Grind.{flat_map-append}
use Rattle.std.proofs.lemmas.List.{length-append}
use Rattle.std.proofs.KnownBytes.{Appends-trans, Appends-nil}
use Rattle.std.specs.Io.KnownBytes.{Appends}
use Rattle.mvd_dots.specs.declared.refusals.Refusal.{Refusal}
use Rattle.mvd_dots.specs.declared.refusals.Refusal.TheVariants.{WriteFailed, TooManyRequests}
use Rattle.mvd_wire.specs.declared.reply.Reply.TheVariants.{Refused}
use Rattle.mvd_wire.specs.Replies.{reply_bytes}
use Rattle.mvd_replica.specs.declared.serving.Ended.{Ended}
use Rattle.mvd_replica.specs.declared.serving.TheConstants.{FRAMES_MAX}
use Rattle.mvd_replica.specs.Replicas.{StoredSite}
use Rattle.mvd_replica.specs.Sides.{replica_follows_self}
use Rattle.mvd_replica.specs.Whole.{leaves_on, leaves_self, leaves_wider}
use Rattle.mvd_replica.specs.Turns.{AreFrames, AreUndoneIn, Turn}
use Rattle.mvd_replica.specs.Served.{Conversation, Close, AtBye, AtEnd, AtRefusal, AtWriter, StopsServing, IsCount, IsCutCount, Served, ServesTurns, Went, frames_most, replies_bytes, ending_bytes, result_of}
use Rattle.mvd_replica.specs.Steps.{EndsConversation, IsLastCount, TakesTurn}
use Rattle.mvd_replica.proofs.Positions.{GoesOut, GoesOutAfter}
use Rattle.mvd_replica.proofs.Breaking.{follows_both, told_both}
use Rattle.mvd_replica.proofs.Leaving.{undone_later, undone_more}
use Rattle.mvd_replica.proofs.Replying.{Replies-append, Replies-none, StandsOn-append, StandsOn-none, AreFrames-append, GoesOn-append, HasChoice-none, HasChoice-append}

pub replies_bytes-append : (first second : List Turn) → replies_bytes (first ++ second) ≡ replies_bytes first ++ replies_bytes second
replies_bytes-append first second = flat_map-append (λ (t : Turn). reply_bytes t.reply) first second

-- no turn at all
pub Went-none : (conversation : Conversation) → Went [] conversation conversation
Went-none conversation = record {
  takes = record {
    replies = Replies-none conversation.stored.site;
    stands = StandsOn-none conversation.stored.site;
    choice = HasChoice-none;
    goes_on = tt;
    told = λ _. tt;
    follows = replica_follows_self conversation.stored;
    leaves = leaves_self _ conversation.stored tt;
  };
  config = refl;
  read = λ bytes known. (bytes, known, refl);
  wrote = Appends-nil conversation.output;
}

Takes-append : (first second : List Turn) (a b c : StoredSite) → b.site.config ≡ a.site.config → ServesTurns first a b → ServesTurns second b c → ServesTurns (first ++ second) a c
Takes-append first second a b c config one other = record {
  replies = Replies-append a.site b.site c.site first second config one.replies other.replies;
  stands = StandsOn-append a.site b.site c.site first second one.stands other.stands;
  choice = HasChoice-append first second one.choice other.choice;
  goes_on = GoesOn-append first second one.goes_on other.goes_on;
  told = told_both first second a.site b.site c.site a.store b.store c.store one.follows other.follows one.told other.told;
  follows = follows_both first second a.site b.site c.site a.store b.store c.store one.follows other.follows one.told;
  leaves = leaves_on (AreUndoneIn (first ++ second)) a b c
      (leaves_wider _ _ a b (undone_more first second) one.leaves) (leaves_wider _ _ b c (undone_later first second) other.leaves)
      one.follows.site.1 other.follows.site.1 one.follows.store.sound other.follows.store.sound other.follows.store.clean one.follows.store.holds other.follows.store.shut;
}

pub Went-append : (first second : List Turn) (a b c : Conversation) → Went first a b → Went second b c → Went (first ++ second) a c
Went-append first second a b c one other = record {
  takes = Takes-append first second a.stored b.stored c.stored one.config one.takes other.takes;
  config = other.config ∙ one.config;
  read = λ bytes known.
      let p : (rest : List ℕ) × (b.input ≡ Some rest) × AreFrames first bytes rest = one.read bytes known in
      let q : (rest : List ℕ) × (c.input ≡ Some rest) × AreFrames second p.0 rest = other.read p.0 p.1 in
      (q.0, q.1, AreFrames-append first second bytes p.0 q.0 p.2 q.2);
  wrote = subst (Appends a.output c.output) (sym (replies_bytes-append first second)) (Appends-trans _ _ _ _ _ one.wrote other.wrote);
}

-- as many frames as the code counts
most : FRAMES_MAX ≡ frames_most
most = refl

cut_count : (count : ℕ) (ending : Close) → IsLastCount count ending → IsCutCount count ending
cut_count count AtBye last = last
cut_count count AtEnd last = last
cut_count count (AtRefusal refusal) last = last.0
cut_count count AtWriter last = last

GoesOutAfter-first : {X : Type 0} (a b c : Option (List ℕ)) (first bytes : List ℕ) (failed result wanted : X) → Appends a b first → GoesOut b c bytes failed result wanted → GoesOutAfter a c first bytes failed result wanted
GoesOutAfter-first a b c first bytes failed result wanted one (inl other) = inl (other.0, Appends-trans _ _ _ _ _ one other.1)
GoesOutAfter-first a b c first bytes failed result wanted one (inr other) = inr (other.0, (other.1.0, Appends-trans _ _ _ _ _ one other.1.1))

counted : (n count : ℕ) (ending : Close) → n < frames_most → IsLastCount count ending → IsCount (n + count) ending
counted n count AtBye room last = omega arith
counted n count AtEnd room last = omega arith
counted n count (AtRefusal refusal) room last = inl (omega (arith, last.0), last.1)
counted n count AtWriter room last = omega arith

pub Served-after : (turns : List Turn) (a b c : Conversation) (result : Result Ended Refusal) → Went turns a b → length turns < FRAMES_MAX → EndsConversation b c result → Served a c result
Served-after turns a b c result one room last = record {
  turns = turns ++ last.turns;
  ending = last.ending;
  takes = Takes-append turns last.turns a.stored b.stored c.stored one.config one.takes last.takes;
  count = subst (λ n. IsCount n last.ending) (sym (length-append turns last.turns)) (counted (length turns) (length last.turns) last.ending (subst (λ m. length turns < m) most room) last.count);
  read = λ bytes known.
      let p : (rest : List ℕ) × (b.input ≡ Some rest) × AreFrames turns bytes rest = one.read bytes known in
      let q : (rest : List ℕ) × AreFrames last.turns p.0 rest × StopsServing rest c.input last.ending = last.read p.0 p.1 in
      (q.0, AreFrames-append turns last.turns bytes p.0 q.0 p.2 q.1, q.2);
  went_out = record {
    whole = turns;
    cut = last.turns;
    all = refl;
    count = cut_count (length last.turns) last.ending last.count;
    wrote = GoesOutAfter-first a.output b.output c.output (replies_bytes turns) (replies_bytes last.turns ++ ending_bytes c.stored.site.broken last.ending) (Err WriteFailed) result (result_of last.ending) one.wrote last.wrote;
  };
}

pub GoesOut-err : (a b : Option (List ℕ)) (bytes : List ℕ) (failed fault wanted : Refusal) → GoesOut a b bytes failed fault wanted → GoesOut {X = Result Ended Refusal} a b bytes (Err failed) (Err fault) (Err wanted)
GoesOut-err a b bytes failed fault wanted (inl h) = inl (ap (λ (f : Refusal). Err f) h.0, h.1)
GoesOut-err a b bytes failed fault wanted (inr h) = inr (ap (λ (f : Refusal). Err f) h.0, h.1)

-- as many turns as there may be
pub Served-full : (turns : List Turn) (a b : Conversation) (output : Option (List ℕ)) (fault : Refusal) → Went turns a b → length turns ≡ FRAMES_MAX →
    GoesOut b.output output (reply_bytes (Refused TooManyRequests)) WriteFailed fault TooManyRequests →
    Served a (record b { output = output }) (Err fault)
Served-full turns a b output fault one full told = record {
  turns = turns;
  ending = AtRefusal TooManyRequests;
  takes = record {
    replies = one.takes.replies;
    stands = one.takes.stands;
    choice = one.takes.choice;
    goes_on = one.takes.goes_on;
    told = one.takes.told;
    follows = one.takes.follows;
    leaves = one.takes.leaves;
  };
  count = inr (full ∙ most, refl);
  read = λ bytes known.
      let p : (rest : List ℕ) × (b.input ≡ Some rest) × AreFrames turns bytes rest = one.read bytes known in
      (p.0, p.2, inr (inr (inl (refl, p.1))));
  went_out = record {
    whole = turns;
    cut = [];
    all = sym (append-nil turns);
    count = refl;
    wrote = GoesOutAfter-first a.output b.output output (replies_bytes turns) (reply_bytes (Refused TooManyRequests)) (Err WriteFailed) (Err fault) (Err TooManyRequests) one.wrote
        (GoesOut-err b.output output (reply_bytes (Refused TooManyRequests)) WriteFailed fault TooManyRequests told);
  };
}

-- ---- as the code has them

pub Served-some : (turns : List Turn) (a b c : Conversation) (found : Option Ended) (ended : Ended) → Went turns a b → length turns < FRAMES_MAX → found ≡ Some ended → TakesTurn b c (Ok found) → Served a c (Ok ended)
Served-some turns a b c found ended one room same taken =
    Served-after turns a b c (Ok ended) one room (subst (λ o. TakesTurn b c (Ok o)) same taken)

pub Went-more : (turns : List Turn) (a b c : Conversation) (found : Option Ended) (n : ℕ) → length turns ≡ n → Went turns a b → found ≡ None → TakesTurn b c (Ok found) →
    (all : List Turn) × (length all ≡ n + 1) × Went all a c
Went-more turns a b c found n count one same taken =
    let next : (turn : Turn) × Went (turn ∷ []) b c = subst (λ o. TakesTurn b c (Ok o)) same taken in
    (turns ++ next.0 ∷ [], length-append turns (next.0 ∷ []) ∙ ap (λ k. k + 1) count, Went-append turns (next.0 ∷ []) a b c one next.1)
