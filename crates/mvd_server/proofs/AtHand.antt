-- What is asked at hand.
use Rattle.std.proofs.Common.{◌≡◌, ◌∷◌, ◌++◌, ℕ, true, List, [], Result, Ok, Err, inl, inr, ap, refl}
use Rattle.std.specs.Prelude.{⊤}
use Rattle.std.specs.Result.{OnErr, OnOk}
use Rattle.std.specs.declared.alloc.Global.{Global}
use Rattle.std.specs.declared.vec.Vec.{Vec}
use Rattle.mvd_dots.specs.declared.refusals.Refusal.{Refusal}
use Rattle.mvd_host.specs.AtHand.{AllMayWait, AtHandValue, asked_by_one, asks_of}
use Rattle.mvd_server.specs.Batches.{HandsBatch}
use Rattle.mvd_server.specs.OwnSides.{HandsRequests}
use Rattle.mvd_server.specs.Talking.{AreOfSession, is_of_session}
use Rattle.mvd_server.specs.declared.batch.Batch.{Batch}
use Rattle.mvd_wire.specs.declared.request.Request.{Request}

-- all that the writes ask is asked, or nothing is
pub asks_or_not : (n : ℕ) (old : Batch) (hand hand' : AtHandValue) (left : Vec Request Global) (result : Result ⊤ Refusal)
    → OnOk result (AllMayWait (asks_of n old.requests.items) × (left.items ≡ []) × (hand' ≡ asked_by_one hand n old.requests.items))
    → OnErr result ((hand' ≡ hand) × (left ≡ old.requests)) → HandsBatch n old hand (record old { requests = left }) hand'
asks_or_not n old hand hand' left (Ok done) (may, gone, is) none = inl (record { may = may; asks = is; gone = gone; same = refl })
asks_or_not n old hand hand' left (Err e) none (same, kept) = inr (ap (λ (r : Vec Request Global). record old { requests = r }) kept, same)

-- so it is of what a session asks
pub hands_or_not : (n : ℕ) (old left : Vec Request Global) (hand hand' : AtHandValue) (result : Result ⊤ Refusal)
    → OnOk result (AllMayWait (asks_of n old.items) × (left.items ≡ []) × (hand' ≡ asked_by_one hand n old.items))
    → OnErr result ((hand' ≡ hand) × (left ≡ old)) → AreOfSession old.items → HandsRequests n old.items hand left.items hand'
hands_or_not n old left hand hand' (Ok done) (may, gone, is) none are = inl (record { are = are; may = may; asks = is; gone = gone })
hands_or_not n old left hand hand' (Err e) none (same, kept) are = inr (ap (λ (r : Vec Request Global). r.items) kept, same)

-- one more of a session
pub of_more : (requests : List Request) (request : Request) → AreOfSession requests → is_of_session request ≡ true → AreOfSession (requests ++ request ∷ [])
of_more [] request all is = (is, tt)
of_more (r ∷ requests) request all is = (all.0, of_more requests request all.1 is)
