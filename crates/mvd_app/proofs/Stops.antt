-- What a command is stopped with by a file that it reads first.
use Rattle.std.proofs.Common.{◌≡◌, ◌∙◌, ℕ, Bool, true, false, List, [], ◌∷◌, Option, Some, None, Result, Ok, Err, Bor, ap, cond, inl, inr, length, refl, subst, sym}
use Rattle.std.specs.Prelude.{◌≢◌, ◌&&◌, IfErr, nat_le}
use Rattle.mvd_app.specs.Named.{IsDefsFault, IsTokenFault, TellsDefs}
use Rattle.mvd_dots.specs.declared.refusals.Refusal.{Refusal}
use Rattle.mvd_dots.specs.declared.refusals.Refusal.TheVariants.{BadBody, FrameTooLong, Memory, ReadFailed}
use Rattle.mvd_hint.specs.declared.hint.Hint.{Hint}
use Rattle.mvd_hint.specs.declared.hint.Hint.TheVariants as hints
use Rattle.mvd_hint.specs.declared.hint.Stop.{Stop}
use Rattle.mvd_input.specs.Definitions.{HasDefsFault}
use Rattle.mvd_input.specs.Ends.{ReadsNot}
use Rattle.mvd_input.specs.Hexadecimal.{lines_of}
use Rattle.mvd_input.specs.declared.fault.Fault.{Fault}
use Rattle.mvd_input.specs.declared.fault.Fault.TheVariants as of_fault
use Rattle.mvd_input.specs.declared.pass_files.PassFault.{PassFault}

-- ---- definitions

pub defs_unread : (fault : Fault) → ReadsNot fault → IsDefsFault fault
defs_unread (of_fault.Line number) it = absurd it
defs_unread (of_fault.Stopped refusal) it = it

defs_unfit : (text : List ℕ) (fault : Fault) → HasDefsFault text fault → IsDefsFault fault
defs_unfit text (of_fault.Line number) it = tt
defs_unfit text (of_fault.Stopped refusal) (inl memory) = inl memory
defs_unfit text (of_fault.Stopped refusal) (inr (long, is)) = inr (inl long)

pub defs_refused : {X : Type 0} (text : List ℕ) (result : Result X Fault) → IfErr result (HasDefsFault text) → IfErr result IsDefsFault
defs_refused text (Ok x) it = tt
defs_refused text (Err fault) it = defs_unfit text fault it

pub tells_defs : (file : Bor (List ℕ)) (fault : Fault) (stop : Stop) → stop.fault ≡ fault → IsDefsFault fault →
    ((number : ℕ) → fault ≡ of_fault.Line number → stop.hint ≡ Some (hints.BadDefs file)) → (fault ≡ of_fault.Stopped ReadFailed → stop.hint ≡ Some (hints.NoDefs file)) →
    (fault ≡ of_fault.Stopped FrameTooLong → stop.hint ≡ Some hints.TooLong) → TellsDefs file stop
tells_defs file fault stop same is line unread long = record {
  fault = subst IsDefsFault (sym same) is;
  line = λ number that. line number (sym same ∙ that);
  unread = λ that. unread (sym same ∙ that);
  long = λ that. long (sym same ∙ that);
}

-- ---- a token

tells_unread : (file : Bor (List ℕ)) (fault : Fault) (hint : Option Hint) → ReadsNot fault → (fault ≡ of_fault.Stopped ReadFailed → hint ≡ Some (hints.NoToken file)) →
    (fault ≡ of_fault.Stopped FrameTooLong → hint ≡ Some hints.TooLong) → IsTokenFault file fault hint
tells_unread file (of_fault.Line number) hint it unread long = absurd it
tells_unread file (of_fault.Stopped refusal) hint (inl memory) unread long = λ other. absurd (other memory)
tells_unread file (of_fault.Stopped refusal) hint (inr (inl is)) unread long = λ other. inl (is, long (ap of_fault.Stopped is))
tells_unread file (of_fault.Stopped refusal) hint (inr (inr is)) unread long = λ other. inr (is, inl (unread (ap of_fault.Stopped is)))

pub token_unread : (file : Bor (List ℕ)) (fault : Fault) (stop : Stop) → stop.fault ≡ fault → ReadsNot fault → (fault ≡ of_fault.Stopped ReadFailed → stop.hint ≡ Some (hints.NoToken file)) →
    (fault ≡ of_fault.Stopped FrameTooLong → stop.hint ≡ Some hints.TooLong) → IsTokenFault file stop.fault stop.hint
token_unread file fault stop same it unread long = subst (λ (f : Fault). IsTokenFault file f stop.hint) (sym same) (tells_unread file fault stop.hint it unread long)

pub token_none : (file : Bor (List ℕ)) (why : PassFault) (stop : Stop) → stop.fault ≡ of_fault.Stopped ReadFailed → stop.hint ≡ Some (hints.BadToken file why) → IsTokenFault file stop.fault stop.hint
token_none file why stop same hint = subst (λ (f : Fault). IsTokenFault file f stop.hint) (sym same) (λ other. inr (refl, inr (why, hint)))

pub token_memory : (file : Bor (List ℕ)) (stop : Stop) → stop.fault ≡ of_fault.Stopped Memory → IsTokenFault file stop.fault stop.hint
token_memory file stop same = subst (λ (f : Fault). IsTokenFault file f stop.hint) (sym same) (λ other. absurd (other refl))
