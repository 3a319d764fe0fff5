-- Bytes between a socket and the side that is asked over it.
use Rattle.std.proofs.Common.{◌≡◌, ◌∙◌, ◌++◌, ℕ, List, [], ap, append_assoc, append-nil, drop, sym, take, take-append-drop}
use Rattle.mvd_meet.specs.Callers.{asked_of_caller, came_at, leaving_at}
use Rattle.mvd_meet.specs.declared.caller.Caller.{Caller}
use Rattle.mvd_server.specs.PeerLinks.{MovesBytes}

module _ (old new : Caller) where
  pub moves_none : leaving_at new ≡ leaving_at old → came_at new ≡ came_at old → asked_of_caller new ≡ asked_of_caller old → MovesBytes old new
  moves_none leaving came asked = record { left = []; more = []; leaving = sym leaving; came = came ∙ sym (append-nil (came_at old)); asked = asked }

  pub moves_left : (count : ℕ) → leaving_at new ≡ drop count (leaving_at old) → came_at new ≡ came_at old → asked_of_caller new ≡ asked_of_caller old → MovesBytes old new
  moves_left count leaving came asked = record {
    left = take count (leaving_at old);
    more = [];
    leaving = sym (ap (λ (l : List ℕ). take count (leaving_at old) ++ l) leaving ∙ take-append-drop count (leaving_at old));
    came = came ∙ sym (append-nil (came_at old));
    asked = asked;
  }

  pub moves_came : (bytes : List ℕ) → leaving_at new ≡ leaving_at old → came_at new ≡ came_at old ++ bytes → asked_of_caller new ≡ asked_of_caller old → MovesBytes old new
  moves_came bytes leaving came asked = record { left = []; more = bytes; leaving = sym leaving; came = came; asked = asked }

  pub moves_both : (mid : Caller) → MovesBytes old mid → MovesBytes mid new → MovesBytes old new
  moves_both mid p q = record {
    left = p.left ++ q.left;
    more = p.more ++ q.more;
    leaving = p.leaving ∙ ap (λ (l : List ℕ). p.left ++ l) q.leaving ∙ sym (append_assoc p.left q.left (leaving_at new));
    came = q.came ∙ ap (λ (l : List ℕ). l ++ q.more) p.came ∙ append_assoc (came_at old) p.more q.more;
    asked = q.asked ∙ p.asked;
  }
