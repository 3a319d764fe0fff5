-- Why a server ends.
use Rattle.std.proofs.Common.{◌≡◌, ◌⊎◌, Bool, true, false, List, ℕ, Option, Ok, Err, inl, inr, refl, sym}
use Rattle.mvd_dots.specs.declared.refusals.Refusal.{Refusal}
use Rattle.mvd_dots.specs.declared.refusals.Refusal.TheVariants.{Broken, Memory, ReadFailed, Store, WriteFailed}
use Rattle.mvd_input.specs.declared.fault.Fault.{Fault}
use Rattle.mvd_input.specs.declared.fault.Fault.TheVariants.{Stopped}
use Rattle.mvd_replica.specs.ReplicaCalls.{TellsRoot, root_answer}
use Rattle.mvd_print.specs.Text.{root_text}
use Rattle.mvd_server.specs.Closing.{EndsAtFault, PrintsRoot}
use Rattle.std.specs.Io.KnownBytes.{Appends}
use Rattle.mvd_site.specs.Sites.{SiteValue}
use Rattle.std.proofs.Common.{subst}

module _ (site : SiteValue) where
  pub ends_unread : (fault : Fault) → fault ≡ Stopped ReadFailed → EndsAtFault site fault
  ends_unread fault is = subst (EndsAtFault site) (sym is) (λ other. inl refl)

  pub ends_memory : (fault : Fault) → fault ≡ Stopped Memory → EndsAtFault site fault
  ends_memory fault is = subst (EndsAtFault site) (sym is) (λ other. absurd (other refl))

  pub ends_untold : (fault : Fault) → (fault ≡ Stopped Memory) ⊎ (fault ≡ Stopped WriteFailed) → EndsAtFault site fault
  ends_untold fault (inl is) = ends_memory fault is
  ends_untold fault (inr is) = subst (EndsAtFault site) (sym is) (λ other. inr (inl refl))

  -- its file is no longer what was opened
  pub ends_harmed : (fault : Fault) → fault ≡ Stopped Store → EndsAtFault site fault
  ends_harmed fault is = subst (EndsAtFault site) (sym is) (λ other. inr (inr (inl refl)))

  -- a site tells its root, unless it is broken
  pub ends_rootless : (e : Refusal) → TellsRoot site (Err e) → EndsAtFault site (Stopped e)
  ends_rootless e (answer, broken) other = on site.broken refl (answer other)
    where
      on : (b : Bool) → site.broken ≡ b → root_answer (record site { broken = b }) ≡ Err e → (e ≡ ReadFailed) ⊎ ((e ≡ WriteFailed) ⊎ ((e ≡ Store) ⊎ ((e ≡ Broken) × (site.broken ≡ true))))
      on true is told = inr (inr (inr (sym (let same : Broken ≡ e = cc in same), is)))
      on false is told = absurd (let no : ⊥ = cc in no)

  -- the line of its root is printed
  pub prints_root : (root text : List ℕ) (old new : Option (List ℕ)) → TellsRoot site (Ok root) → text ≡ root_text root → Appends old new text → PrintsRoot site old new
  prints_root root text old new (answer, broken) is appends = (root, answer, subst (λ (t : List ℕ). Appends old new t) is appends)
