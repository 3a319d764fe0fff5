-- A client at hand, from one moment to a later one.
use Rattle.std.proofs.Common.{◌≡◌, inl, inr, ℕ, ◌≤◌, List, [], ◌∷◌, ◌++◌, map, Ok, sym, ap, ap₂, ◌∙◌, subst, append-nil, append_assoc, Result}
use Rattle.std.proofs.lemmas.List.{map-append}
use Rattle.mvd_dots.specs.declared.refusals.Refusal.{Refusal}
use Rattle.mvd_wire.specs.declared.request.Request.{Request}
use Rattle.mvd_wire.specs.declared.reply.Reply.{Reply}
use Rattle.mvd_replica.specs.Turns.{Turn}
use Rattle.mvd_host.specs.AtHand.{AtHandValue, StepsAtHand, first_at_hand, none_at_hand}
use Rattle.mvd_host.specs.Course.{own}
use Rattle.mvd_host.specs.Round.{AnswersAtHand}
use Rattle.mvd_host.specs.Runs.{TellsAtHand}
use Rattle.mvd_host.proofs.Own.{own-append}

-- what it asked in rounds
abbrev asks_so_far : ℕ → AtHandValue → List (Result Request Refusal)
asks_so_far n hand = map (λ r. Ok r) (own n hand.done)

-- what it was told, or is left to tell it
abbrev told_so_far : ℕ → AtHandValue → List Reply
told_so_far n hand = own n hand.taken ++ own n hand.left

-- it asked these turns after what it had asked, and their replies come after what it was told
pub record MoreAtHand (turns : List Turn) (n : ℕ) (old new : AtHandValue) : Type 0 where
  asked : asks_so_far n new ≡ asks_so_far n old ++ map (λ t. t.asked) turns
  told : told_so_far n new ≡ told_so_far n old ++ map (λ t. t.reply) turns

pub none_more : (n : ℕ) (hand : AtHandValue) → MoreAtHand [] n hand hand
none_more n hand = record { asked = sym (append-nil (asks_so_far n hand)); told = sym (append-nil (told_so_far n hand)) }

pub more_on : (first second : List Turn) (n : ℕ) (old mid new : AtHandValue) → MoreAtHand first n old mid → MoreAtHand second n mid new → MoreAtHand (first ++ second) n old new
more_on first second n old mid new p q = record {
  asked = on (λ t. t.asked) (asks_so_far n old) (asks_so_far n mid) (asks_so_far n new) p.asked q.asked;
  told = on (λ t. t.reply) (told_so_far n old) (told_so_far n mid) (told_so_far n new) p.told q.told;
}
  where
    on : {X : Type 0} (f : Turn → X) (before between after : List X) → between ≡ before ++ map f first → after ≡ between ++ map f second → after ≡ before ++ map f (first ++ second)
    on f before between after one other =
        other ∙ ap (λ l. l ++ map f second) one ∙ append_assoc before (map f first) (map f second) ∙ ap (λ l. before ++ l) (sym (map-append f first second))

-- the first reply that is left is taken away, or something is asked
told_moves : (n : ℕ) (taken left : List (ℕ × Reply)) (told : ℕ × Reply) → own n (taken ++ told ∷ []) ++ own n left ≡ own n taken ++ own n (told ∷ left)
told_moves n taken left told =
    ap (λ l. l ++ own n left) (own-append n taken (told ∷ [])) ∙ append_assoc (own n taken) (own n (told ∷ [])) (own n left)
    ∙ ap (λ l. own n taken ++ l) (sym (own-append n (told ∷ []) left))

pub more_stepped : (n : ℕ) (old new : AtHandValue) → StepsAtHand old new → MoreAtHand [] n old new
more_stepped n old new (inl (m, requests, may, is)) = subst (MoreAtHand [] n old) (sym is) (record { asked = sym (append-nil (asks_so_far n old)); told = sym (append-nil (told_so_far n old)) })
more_stepped n old new (inr (told, (left, is))) = record {
  asked = ap (λ (hand : AtHandValue). asks_so_far n hand) is ∙ sym (append-nil (asks_so_far n old));
  told = ap (λ (hand : AtHandValue). told_so_far n hand) is ∙ told_moves n old.taken new.left told ∙ ap (λ l. own n old.taken ++ own n l) (sym left) ∙ sym (append-nil (told_so_far n old));
}

pub more_answered : (turns : List (ℕ × Turn)) (n : ℕ) (old new : AtHandValue) → first_at_hand ≤ n → AnswersAtHand turns old new → MoreAtHand (own n turns) n old new
more_answered turns n old new above a = record {
  asked = ap (λ l. map (λ r. Ok r) (own n l)) a.done ∙ ap (map (λ r. Ok r)) (own-append n old.done a.asks)
      ∙ map-append (λ r. Ok r) (own n old.done) (own n a.asks) ∙ ap (λ l. asks_so_far n old ++ l) (sym (a.asked n above));
  told = ap₂ (λ x y. own n x ++ y) a.taken (a.told n above)
      ∙ ap (λ l. l ++ map (λ (t : Turn). t.reply) (own n turns)) (sym (ap (λ l. own n old.taken ++ own n l) a.none ∙ append-nil (own n old.taken)));
}

pub tells_at_hand : (turns : List Turn) (n : ℕ) (old new : AtHandValue) → old ≡ none_at_hand → MoreAtHand turns n old new → TellsAtHand turns n new
tells_at_hand turns n old new none more = record {
  asked = more.asked ∙ ap (λ (hand : AtHandValue). asks_so_far n hand ++ map (λ (t : Turn). t.asked) turns) none;
  told = more.told ∙ ap (λ (hand : AtHandValue). told_so_far n hand ++ map (λ (t : Turn). t.reply) turns) none;
}
