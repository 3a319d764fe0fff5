-- What a connection within the process is asked, and what of it is printed.
use Rattle.std.proofs.Common.{◌≡◌, ◌∙◌, ◌<◌, ℕ, List, [], ◌++◌, Option, None, Some, Result, Ok, Err, true, drop, inl, inr, length, take, ap, refl, subst, sym}
use Rattle.std.proofs.lemmas.List.{append-nil, take-append-drop}
use Rattle.std.proofs.lemmas.Slice.Eq.{bytes_eq-Decides}
use Rattle.std.specs.Cmp.Lexicographic.{pointwise}
use Rattle.std.specs.Io.KnownBytes.{Appends, Consumes, IsAtEnd}
use Rattle.std.specs.List.{flat_map}
use Rattle.std.specs.Prelude.{◌≢◌, IfErr, OnOk, nat_eq}
use Rattle.mvd_app.specs.Looped.{FailsLines, IsStopped, Loops, PrintsFrames, PrintsReplies, ReadsToEnd, ServesAlone, StopsUntold, ended_line, frame_line}
use Rattle.mvd_app.specs.Stored.{site_without_keys}
use Rattle.mvd_dots.specs.declared.refusals.Refusal.{Refusal}
use Rattle.mvd_dots.specs.declared.refusals.Refusal.TheVariants.{FrameTooLong, WriteFailed}
use Rattle.mvd_input.specs.Ends.{ReadsNot}
use Rattle.mvd_input.specs.Hexadecimal.{AreJoined, HasFault}
use Rattle.mvd_input.specs.declared.fault.Fault.{Fault}
use Rattle.mvd_input.specs.declared.fault.Fault.TheVariants as of_fault
use Rattle.mvd_replica.specs.Replicas.{site_of}
use Rattle.mvd_replica.specs.Served.{Served, conversation_of}
use Rattle.mvd_replica.specs.declared.replica.Replica.{Replica}
use Rattle.mvd_replica.specs.declared.serving.Ended.{Ended}
use Rattle.mvd_site.specs.Config.{ConfigValue}
use Rattle.sqlite.specs.Steps.{over_memory}
use Rattle.sqlite_trees.specs.declared.memory.MemStore.{MemStore}

-- ---- the lines

pub fails_unread : (input input' : Option (List ℕ)) (fault : Fault) → ReadsNot fault →
    (fault ≡ of_fault.Stopped FrameTooLong → (front : List ℕ) × Consumes input input' front × (131072 < length front)) → FailsLines input input' fault
fails_unread input input' (of_fault.Line number) it long = absurd it
fails_unread input input' (of_fault.Stopped refusal) (inl memory) long = inl memory
fails_unread input input' (of_fault.Stopped refusal) (inr (inl much)) long = inr (inr (much, inl (long (ap of_fault.Stopped much))))
fails_unread input input' (of_fault.Stopped refusal) (inr (inr unread)) long = inr (inl unread)

pub fails_spelling : (input input' : Option (List ℕ)) (text : List ℕ) (fault : Fault) → ReadsToEnd input input' text → HasFault text fault → FailsLines input input' fault
fails_spelling input input' text (of_fault.Line number) reads it = (text, reads, it)
fails_spelling input input' text (of_fault.Stopped refusal) reads (inl memory) = inl memory
fails_spelling input input' text (of_fault.Stopped refusal) reads (inr (much, inl long)) = inr (inr (much, inl (text, reads.read, long)))
fails_spelling input input' text (of_fault.Stopped refusal) reads (inr (much, inr at)) = inr (inr (much, inr (text, reads, at)))

-- ---- the whole command

pub stopped_unread : (fault : Fault) → ReadsNot fault → IsStopped fault
stopped_unread (of_fault.Line number) it = absurd it
stopped_unread (of_fault.Stopped refusal) it = tt

pub untold_written : (out out' : Option (List ℕ)) (result : Result (Unit {0}) Fault) → IfErr result (λ fault. fault ≡ of_fault.Stopped WriteFailed) → IfErr result (StopsUntold out out')
untold_written out out' (Ok done) failed = tt
untold_written out out' (Err (of_fault.Line number)) failed = absurd cc
untold_written out out' (Err (of_fault.Stopped refusal)) failed = inl cc

pub loops_unread : (config : ConfigValue) (input input' out : Option (List ℕ)) (fault : Fault) → FailsLines input input' fault → Loops config input input' out out (Err fault)
loops_unread config input input' out fault it = inl (it, refl)

pub loops_unsent : (config : ConfigValue) (input input' out : Option (List ℕ)) (text sent : List ℕ) (fault : Fault) → ReadsToEnd input input' text → AreJoined text sent → IsStopped fault →
    Loops config input input' out out (Err fault)
loops_unsent config input input' out text sent (of_fault.Line number) reads spelled it = absurd it
loops_unsent config input input' out text sent (of_fault.Stopped refusal) reads spelled it = inr ((text, sent, reads, spelled), inr refl)

pub prints_replies : (bytes start mid text : List ℕ) (ended : Result Ended Refusal) (out out' : Option (List ℕ)) (result : Result (Unit {0}) Fault) → start ≡ [] → PrintsFrames bytes start mid →
    text ≡ mid ++ ended_line ended → OnOk result (Appends out out' text) → OnOk result (PrintsReplies bytes ended out out')
prints_replies bytes start mid text ended out out' (Ok done) none (frames, whole, printed) is appends = record {
  frames = frames;
  whole = whole;
  printed = subst (λ (t : List ℕ). Appends out out' t) (is ∙ ap (λ (b : List ℕ). b ++ ended_line ended) (printed ∙ ap (λ (b : List ℕ). b ++ flat_map frame_line frames) none)) appends;
}
prints_replies bytes start mid text ended out out' (Err fault) none prints is appends = tt

pub loops_told : (config : ConfigValue) (input input' out out' : Option (List ℕ)) (result : Result (Unit {0}) Fault) (text sent replies : List ℕ) (ended : Result Ended Refusal) →
    ReadsToEnd input input' text → AreJoined text sent → ServesAlone config (Some sent) (Some []) (Some replies) ended → ended ≢ Err WriteFailed →
    OnOk result (PrintsReplies replies ended out out') → IfErr result (StopsUntold out out') → Loops config input input' out out' result
loops_told config input input' out out' (Ok done) text sent replies ended reads spelled serves whole prints stops = record {
  text = text;
  reads = reads;
  sent = sent;
  spelled = spelled;
  replies = replies;
  ended = ended;
  serves = serves;
  none_lost = whole;
  prints = prints;
}
loops_told config input input' out out' (Err fault) text sent replies ended reads spelled serves whole prints stops = inr ((text, sent, reads, spelled), stops)

-- ---- the connection

-- what is left is what is awaited behind what came
pub awaited_rest : (awaited front rest : List ℕ) → pointwise nat_eq (take (length front) awaited) front ≡ true → rest ≡ drop (length front) awaited → awaited ≡ front ++ rest
awaited_rest awaited front rest same is =
    sym (take-append-drop (length front) awaited) ∙ ap (λ (b : List ℕ). b ++ drop (length front) awaited) ((bytes_eq-Decides (take (length front) awaited) front).0 same)
    ∙ ap (λ (b : List ℕ). front ++ b) (sym is)

-- a stream of known bytes that is read to its end gave them
pub awaited_all : (awaited came : List ℕ) (left : Option (List ℕ)) → Consumes (Some awaited) left came → IsAtEnd left → came ≡ awaited
awaited_all awaited came None takes ends = absurd takes
awaited_all awaited came (Some rest) takes ends = sym (takes ∙ ap (λ (b : List ℕ). came ++ b) ends ∙ append-nil came)

pub serves_alone : (config : ConfigValue) (old new : Replica MemStore over_memory) (input left out out' : Option (List ℕ)) (ended : Result Ended Refusal) → site_of old ≡ site_without_keys config →
    Served (conversation_of old input out) (conversation_of new left out') ended → ServesAlone config input out out' ended
serves_alone config old new input left out out' ended is served = record { old = old; is_new = is; new = new; left = left; served = served }
