-- One site put in place of another; and to each request a site tells something.
use Rattle.std.proofs.Common.{◌≡◌, ◌≢◌, ℕ, ◌==◌, true, false, if◌then◌else◌, List, [], ◌++◌, refl, sym, ap, subst, inl, inr, eq-eqb, ne_eqb}
use Rattle.mvd_dots.specs.declared.refusals.Refusal.TheVariants.{Broken}
use Rattle.mvd_keys.specs.Writes.{Write, writes_for}
use Rattle.mvd_keys.proofs.Sets.{AreOf-writes_for, state-writes_for}
use Rattle.mvd_wire.specs.declared.request.Request.{Request}
use Rattle.mvd_wire.specs.declared.request.Request.TheVariants.{Delete, Push, Put}
use Rattle.mvd_wire.specs.declared.reply.Reply.{Reply}
use Rattle.mvd_wire.specs.declared.reply.Reply.TheVariants.{Done, Refused, Written}
use Rattle.mvd_kept.specs.Answer.{answer}
use Rattle.mvd_kept.specs.Known.{Adds, IsValidRequest}
use Rattle.mvd_model.specs.TheStore.{Does, Event, Knows, Next, Site, Told, at_site, config}

-- the store with another site in place of this one
abbrev pub placed : Knows → ℕ → Site → Knows
placed a i s j = if j == i then s else a j

pub placed_at : (a : Knows) (i : ℕ) (s : Site) → placed a i s i ≡ s
placed_at a i s = ap (λ b. if b then s else a i) (eq-eqb i i refl)

pub placed_else : (a : Knows) (i : ℕ) (s : Site) (j : ℕ) → j ≢ i → placed a i s j ≡ a j
placed_else a i s j other = ap (λ b. if b then s else a j) (ne_eqb j i other)

-- what an event does to its site is a step
pub does_next : (a : Knows) (event : Event) (t : Site) → Does event (a (at_site event)) t → Next a event (placed a (at_site event) t)
does_next a event t does = (
  subst (λ s. Does event (a (at_site event)) s) (sym (placed_at a (at_site event) t)) does,
  λ j other. placed_else a (at_site event) t j other,
)

-- there are writes that a request adds
pub adds_some : (request : Request) (reply : Reply) → IsValidRequest request → (added : List Write) × Adds request reply added
adds_some (Put key seen document) (Written dot) valid = (_, refl)
adds_some (Put key seen document) reply valid = ([], refl)
adds_some (Delete key seen) Done valid = (_, refl)
adds_some (Delete key seen) reply valid = ([], refl)
adds_some (Push key pushed) Done valid = (writes_for key pushed, (AreOf-writes_for key pushed, state-writes_for key pushed valid))
adds_some (Push key pushed) reply valid = ([], refl)
adds_some request reply valid = ([], refl)

pub tells : (a : Knows) (i : ℕ) (request : Request) → IsValidRequest request → (reply : Reply) × (b : Knows) × Next a (Told i request reply) b
tells a i request valid =
    elim (a i).broken as (λ b. (a i).broken ≡ b → (reply : Reply) × (b : Knows) × Next a (Told i request reply) b) [
      | true ↦ λ broken. (Refused Broken, placed a i (a i), does_next a (Told i request (Refused Broken)) (a i) (inr (broken, refl)))
      | false ↦ λ whole.
          let reply : Reply = answer (config i (a i).setup) (a i).known request in
          let adds = adds_some request reply valid in
          let t : Site = record { setup = (a i).setup; known = (a i).known ++ adds.0; refused = (a i).refused; broken = (a i).broken } in
          (reply, placed a i t, does_next a (Told i request reply) t (inl (whole, refl, adds.0, adds.1, refl)))
    ] refl
