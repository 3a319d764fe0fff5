-- What changed is heard of.
use Rattle.std.proofs.Common.{◌≡◌, ◌<◌, ◌+◌, ℕ, Bool, true, false, List, Option, Some, None, arith, get_or, length, set, refl, subst, sym, ⊎_elim}
use Rattle.std.proofs.lemmas.Bool.{cases_eq}
use Rattle.std.proofs.lemmas.List.{get_or-set_other, get_or-set_same}
use Rattle.std.specs.Prelude.{IsSome}
use Rattle.mvd_meet.specs.Times.{news_at}
use Rattle.mvd_meet.specs.declared.schedule.Author.{Author}
use Rattle.mvd_meet.specs.declared.schedule.Schedule.{Schedule}
use Rattle.mvd_server.specs.Peerings.{HearsNews}
use Rattle.mvd_server.specs.declared.peering.Peering.{Peering}

some_at : (author : Author) (news : Option ℕ) (now : ℕ) → IsSome (news_at author news now)
some_at author None now = refl
some_at author (Some n) now = refl

heard : (changed : Bool) (author : Author) (now : ℕ) (old new : Schedule) → HearsNews changed author now old new → changed ≡ true → IsSome new.news
heard false author now old new hears is = cc
heard true author now old new hears is = subst (λ (o : Option ℕ). IsSome o) (sym hears) (some_at author old.news now)

-- so many of them heard of it
abbrev pub HeardBelow : Bool → ℕ → List Peering → Type 0
HeardBelow changed n peers = changed ≡ true → (k : ℕ) (d : Peering) → k < n → IsSome (get_or peers k d).schedule.news

-- one more
pub heard_more : (changed : Bool) (peers : List Peering) (i now : ℕ) (author : Author) (old : Schedule) (new : Peering) → i < length peers
    → HearsNews changed author now old new.schedule → HeardBelow changed i peers → HeardBelow changed (i + 1) (set peers i new)
heard_more changed peers i now author old new at hears below is k d low = ⊎_elim
    (λ same. subst (λ (n : ℕ). IsSome (get_or (set peers i new) n d).schedule.news) (sym same)
    (subst (λ (p : Peering). IsSome p.schedule.news) (sym (get_or-set_same peers i new d at)) (heard changed author now old new.schedule hears is)))
    (λ other. subst (λ (p : Peering). IsSome p.schedule.news) (sym (get_or-set_other peers i k new d other)) (below is k d (omega (arith, other))))
    (cases_eq k i)
