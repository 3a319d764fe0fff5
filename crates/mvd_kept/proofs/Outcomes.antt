-- What a change of a key's state answered says of it.
use Rattle.std.proofs.Common.{◌≡◌, ◌≢◌, ◌⊎◌, Bool, true, false, Option, Some, None, Result, Ok, Err, if◌then◌else◌, refl, sym, ap, ◌∙◌, inl, inr}
use Rattle.std.specs.Result.{OnOk, is_err}
use Rattle.mvd_dots.specs.Dot.{DotValue}
use Rattle.mvd_dots.specs.Context.{DotSet}
use Rattle.mvd_dots.specs.declared.refusals.Refusal.{Refusal}
use Rattle.mvd_dots.specs.declared.refusals.Refusal.TheVariants.{Memory, Exhausted, DotClash, Broken}
use Rattle.mvd_keys.specs.State.{State, Text, after_put, clashes, join, join_answer, put_with}
use Rattle.mvd_wire.specs.declared.reply.Reply.TheVariants.{Written, Done, Refused}
use Rattle.mvd_wire.specs.Replies.{CanBeSent}
use Rattle.mvd_wire.proofs.SentFrames.{short_can_be_sent}
use Rattle.mvd_kept.specs.Change.{change_reply}
use Rattle.mvd_kept.specs.Prepared.{IsPlain}

pub memory_or_not : (refusal : Refusal) → (refusal ≡ Memory) ⊎ (refusal ≢ Memory)
memory_or_not Memory = inl refl
memory_or_not refusal = inr (λ e. cc)

-- what holds of a call that was not refused
pub where_ok : {A E : Type 0} (result : Result A E) (P : Type 0) → OnOk result P → false ≡ is_err result → P
where_ok (Ok x) P holds not_err = holds
where_ok (Err e) P holds not_err = cc

pub put_ok : (s : State) (seen : DotSet) (document : Text) (o : Option DotValue) (after : State) (dot : DotValue) → put_with s seen document o ≡ Ok (after, dot) → (o ≡ Some dot) × (after ≡ after_put s dot seen document)
put_ok s seen document None after dot e = cc
put_ok s seen document (Some minted) after dot e =
    let pair : ◌≡◌ {A = State × DotValue} (after_put s minted seen document, minted) (after, dot) = cc in
    (ap (λ p. Some p.1) pair, sym (ap (λ p. p.0) pair) ∙ ap (λ p. after_put s p.1 seen document) pair)

pub put_err : (s : State) (seen : DotSet) (document : Text) (o : Option DotValue) (refusal : Refusal) → put_with s seen document o ≡ Err refusal → (o ≡ None) × (refusal ≡ Exhausted)
put_err s seen document None refusal e = (refl, cc)
put_err s seen document (Some minted) refusal e = cc

abbrev joined : State → State → Bool → Result State Refusal
joined s t b = if b then Err DotClash else Ok (join s t)

join_cases : (s t u : State) (b : Bool) → joined s t b ≡ Ok u → (b ≡ false) × (u ≡ join s t)
join_cases s t u true e = cc
join_cases s t u false e = (refl, cc)

pub join_ok : (s t u : State) → join_answer s t ≡ Ok u → (clashes s t ≡ false) × (u ≡ join s t)
join_ok s t u e = join_cases s t u (clashes s t) e

clash_cases : (s t : State) (refusal : Refusal) (b : Bool) → joined s t b ≡ Err refusal → (b ≡ true) × (refusal ≡ DotClash)
clash_cases s t refusal true e = (refl, cc)
clash_cases s t refusal false e = cc

pub join_err : (s t : State) (refusal : Refusal) → join_answer s t ≡ Err refusal → (clashes s t ≡ true) × (refusal ≡ DotClash)
join_err s t refusal e = clash_cases s t refusal (clashes s t) e

pub err_is : {A : Type 0} (refusal other : Refusal) → ◌≡◌ {A = Result A Refusal} (Err refusal) (Err other) → refusal ≡ other
err_is refusal other e = cc

-- what answered Ok was not broken
pub whole_where_ok : {T : Type 0} (broken : Bool) (x : T) → (broken ≡ true → ◌≡◌ {A = Result T Refusal} (Ok x) (Err Broken)) → broken ≡ false
whole_where_ok {T} true x says = let e : ◌≡◌ {A = Result T Refusal} (Ok x) (Err Broken) = says refl in cc
whole_where_ok false x says = refl

-- ---- no reply is too long for its frame

pub refused_fits : (refusal : Refusal) → CanBeSent (Refused refusal)
refused_fits refusal = short_can_be_sent (Refused refusal) refl

-- what a change is answered with is no refusal
pub change_plain : (dot : Option DotValue) → IsPlain (change_reply dot)
change_plain None = record { accepts = refl; fits = short_can_be_sent Done refl }
change_plain (Some dot) = record { accepts = refl; fits = short_can_be_sent (Written dot) refl }
