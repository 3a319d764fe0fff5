-- Why a session ends by a side.
use Rattle.std.specs.Prelude.{◌≡◌, ℕ, false}
use Rattle.mvd_dots.specs.declared.refusals.Refusal.{Refusal}
use Rattle.mvd_dots.specs.declared.refusals.Refusal.TheVariants.{BadBody, Memory, TooManyRequests}
use Rattle.mvd_peer.specs.Sides.{HasRefused, SideOf, is_of_question}
use Rattle.mvd_sync.specs.declared.report.SyncFault.{SyncFault}
use Rattle.mvd_sync.specs.declared.report.SyncFault.TheVariants.{Local, Peer}

-- a side before and after it was asked: the most questions that it might be asked, how many it was
-- asked, and how many more were wanted that there was no budget for
pub record Inquiry (S : Type 0) : Type 0 where
  pub most : ℕ
  pub asked : ℕ
  pub wanted : ℕ
  pub old : S
  pub new : S

-- it refused so on the way, and if it was faithful that is no refusal of one question alone (9, 10, 11, 14); or it gave
-- what no faithful side gives (33); or all questions were made that it might be asked, and one more was wanted (36); or
-- memory was refused
pub data Blames {S : Type 0} (s : SideOf S) (a : Inquiry S) (refusal : Refusal) : Type 0 where
  of_side : HasRefused s.follows s.can_refuse a.old a.new refusal
      → (s.is_faithful a.old → is_of_question refusal ≡ false) →
      Blames s a refusal
  of_answer : refusal ≡ BadBody → (s.is_faithful a.old → ⊥) → Blames s a refusal
  of_questions : refusal ≡ TooManyRequests → a.asked ≡ a.most → a.wanted ≡ 1 → Blames s a refusal
  of_memory : refusal ≡ Memory → Blames s a refusal

-- the fault is of the side that it names
abbrev pub IsFaultOf : (Refusal → Type 0) → (Refusal → Type 0) → SyncFault → Type 0
IsFaultOf local peer (Local refusal) = local refusal
IsFaultOf local peer (Peer refusal) = peer refusal
