-- A walk that came to an end by a side, after questions to both.
use Rattle.std.proofs.Common.{◌≡◌, ℕ, ◌+◌, ◌≤◌, List, ◌++◌, length, take, ap, arith, length-append}
use Rattle.std.proofs.lemmas.List.{length-take}
use Rattle.mvd_dots.specs.declared.refusals.Refusal.{Refusal}
use Rattle.mvd_dots.specs.declared.refusals.Refusal.TheVariants.{Memory}
use Rattle.mvd_sync.proofs.Readings.{ComesToEnd, Keeps, with_left}
use Rattle.mvd_peer.specs.Sides.{SideOf}
use Rattle.mvd_sync.specs.Faults.{of_memory}
use Rattle.mvd_sync.proofs.Walk.{ReadsSide}
use Rattle.mvd_sync.specs.declared.asking.Questions.{Questions}
use Rattle.mvd_sync.specs.declared.report.SyncFault.TheVariants.{Local, Peer}
use Rattle.mvd_sync.proofs.Compose.{Moves, blames_later, keeps_on}
use Rattle.mvd_sync.proofs.Positions.{ReadsEndBy}

module _ {L P : Type 0} (l : SideOf L) (p : SideOf P) (most n m left_l left_p : ℕ) (left : Questions) (local local1 : L) (peer peer1 : P)
    (first : ReadsSide l n (with_left local left.local) (with_left local1 left_l)) (second : ReadsSide p m (with_left peer left.peer) (with_left peer1 left_p)) (few_l : n ≤ most) (few_p : m ≤ most) (refusal : Refusal) where
  -- the peer was asked the same, too
  pub local_fails : (on : (m n : ℕ) (old mid new : L) → l.follows m old mid → l.follows n mid new → l.follows (m + n) old new) (on' : (m n : ℕ) (old mid new : P) → p.follows m old mid → p.follows n mid new → p.follows (m + n) old new)
      (k : ℕ) (local2 : L) (peer2 : P) → n + k ≤ most → m + k ≤ most → ComesToEnd l (Keeps l local1 local2) k (with_left local1 left_l) local2 refusal → Moves p k left_p peer1 peer2
      → ReadsEndBy l p (λ asked. asked ≤ most) left local local2 peer peer2 (Local refusal)
  local_fails on on' k local2 peer2 small small' e also = record {
    asked_local = n + e.asked;
    asked_peer = m + also.asked;
    wanted_local = e.wanted;
    wanted_peer = 0;
    within = let a = first.spent in let b = second.spent in let c = e.within in let d = also.within in (omega (arith, a, c), omega (arith, b, d));
    few = let c = e.few in let d = also.few in (omega (arith, c, small), omega (arith, d, small'));
    follows = (on n e.asked local local1 local2 first.follows e.follows, on' m also.asked peer peer1 peer2 second.follows also.follows);
    cause = blames_later l on left.local left_l n local local1 local2 first.spent first.follows (λ t. (first.kept t).still) e.asked e.wanted refusal e.cause;
    kept_local = λ t. let k = first.kept t in keeps_on l local local1 local2 k (e.right k.still);
    kept_peer = λ t. let k = second.kept t in keeps_on p peer peer1 peer2 k (also.kept k.still);
  }

  pub peer_fails : (on : (m n : ℕ) (old mid new : P) → p.follows m old mid → p.follows n mid new → p.follows (m + n) old new) (k : ℕ) (peer2 : P) → m + k ≤ most → ComesToEnd p (Keeps p peer1 peer2) k (with_left peer1 left_p) peer2 refusal
      → ReadsEndBy l p (λ asked. asked ≤ most) left local local1 peer peer2 (Peer refusal)
  peer_fails on k peer2 small e = record {
    asked_local = n;
    asked_peer = m + e.asked;
    wanted_local = 0;
    wanted_peer = e.wanted;
    within = let a = first.spent in let b = second.spent in let c = e.within in (omega (arith, a), omega (arith, b, c));
    few = let c = e.few in (omega (arith, few_l), omega (arith, c, small));
    follows = (first.follows, on m e.asked peer peer1 peer2 second.follows e.follows);
    cause = blames_later p on left.peer left_p m peer peer1 peer2 second.spent second.follows (λ t. (second.kept t).still) e.asked e.wanted refusal e.cause;
    kept_local = first.kept;
    kept_peer = λ t. let k = second.kept t in keeps_on p peer peer1 peer2 k (e.right k.still);
  }

  pub memory_fails : refusal ≡ Memory → ReadsEndBy l p (λ asked. asked ≤ most) left local local1 peer peer1 (Local refusal)
  memory_fails is = record {
    asked_local = n;
    asked_peer = m;
    wanted_local = 0;
    wanted_peer = 0;
    within = let a = first.spent in let b = second.spent in (omega (arith, a), omega (arith, b));
    few = (omega (arith, few_l), omega (arith, few_p));
    follows = (first.follows, second.follows);
    cause = of_memory is;
    kept_local = first.kept;
    kept_peer = second.kept;
  }

-- a window is of the list
pub window_fits : {X : Type 0} (paths done rest : List X) (n : ℕ) → paths ≡ done ++ rest → length done + length (take n rest) ≤ length paths
window_fits paths done rest n e =
    let a : length paths ≡ length (done ++ rest) = ap length e in
    let b = length-append done rest in
    let c = length-take n rest in
    omega (arith, a, b, c)
