-- Windows over a link.
use Rattle.std.proofs.Common.{◌≡◌, ◌⊎◌, ℕ, suc, ◌+◌, ◌<◌, List, [], ◌∷◌, ◌++◌, length, length-append, map, take, get_or, refl, sym, ap, subst, ◌∙◌, arith}
use Rattle.std.specs.Prelude.{Option, Some, None, Result, Ok, Err, IfOk, IfErr, MatchResult, Contains}
use Rattle.std.proofs.lemmas.List.{map-append, take_more}
use Rattle.mvd_dots.specs.declared.refusals.Refusal.{Refusal}
use Rattle.mvd_dots.specs.declared.refusals.Refusal.TheVariants.{Broken, Memory}
use Rattle.mvd_wire.specs.declared.request.Request.{Request}
use Rattle.mvd_wire.specs.declared.reply.Reply.{Reply}
use Rattle.mvd_wire.specs.declared.reply.Reply.TheVariants.{Refused}
use Rattle.mvd_wire.specs.Requests.{request_frame}
use Rattle.mvd_remote.specs.LinkWindows.{AnswersInTurn, IsToldBy, AsksAll, Frames, RefusesAll, AnswersTurn, TakeTurns, and_frame, frames_after, frames_of, of_answer}
use Rattle.mvd_remote.specs.Links.{Link}
use Rattle.mvd_peer.specs.Windows.{ForEach}

-- ---- what goes out

after_more : (before : Frames) (rs : List Request) (r : Request) → frames_after before (rs ++ r ∷ []) ≡ and_frame (frames_after before rs) (request_frame r)
after_more before [] r = refl
after_more before (q ∷ rs) r = after_more (and_frame before (request_frame q)) rs r

-- one request more, in turn
pub frames_more : {X : Type 0} (f : X → Request) (xs : List X) (i : ℕ) (x : X) (window more : Frames) → i < length xs → x ≡ get_or xs i x → window ≡ frames_of (map f (take i xs)) → more ≡ and_frame window (request_frame (f x)) → more ≡ frames_of (map f (take (i + 1) xs))
frames_more f xs i x window more low at before added =
    let longer : take (i + 1) xs ≡ take i xs ++ x ∷ [] = take_more xs i x low ∙ ap (λ y. take i xs ++ y ∷ []) (sym at) in
    added ∙ ap (λ w. and_frame w (request_frame (f x))) before ∙ sym (after_more ([], []) (map f (take i xs)) (f x)) ∙ ap frames_of (sym (map-append f (take i xs) (x ∷ []))) ∙ ap (λ ys. frames_of (map f ys)) (sym longer)

-- ---- what comes in

turns_more : (kind : ℕ) (nones : List (Option Refusal)) (replies : List (Result Reply Refusal)) (none : Option Refusal) (reply : Result Reply Refusal) (old mid new : Option (List ℕ)) → TakeTurns kind nones replies old mid → AnswersTurn kind none reply mid new → TakeTurns kind (nones ++ none ∷ []) (replies ++ reply ∷ []) old new
turns_more kind [] [] why reply old mid new h t = (new, subst (λ (o : Option (List ℕ)). AnswersTurn kind why reply o new) h t, refl)
turns_more kind [] (r ∷ rs) why reply old mid new h t = absurd h
turns_more kind (n ∷ ns) [] why reply old mid new h t = absurd h
turns_more kind (n ∷ ns) (r ∷ rs) why reply old mid new h t = (h.0, h.1, turns_more kind ns rs why reply h.0 mid new h.2 t)

-- one turn more
pub turns_more_at : (kind : ℕ) (all : List (Option Refusal)) (i : ℕ) (why d : Option Refusal) (replies us : List (Result Reply Refusal)) (reply : Result Reply Refusal) (old mid new : Option (List ℕ)) → i < length all → why ≡ get_or all i d → us ≡ replies ++ reply ∷ [] → TakeTurns kind (take i all) replies old mid → AnswersTurn kind why reply mid new → TakeTurns kind (take (i + 1) all) us old new
turns_more_at kind all i why d replies us reply old mid new low at told before turn =
    let longer : take (i + 1) all ≡ take i all ++ why ∷ [] = take_more all i d low ∙ ap (λ x. take i all ++ x ∷ []) (sym at) in
    subst (λ (ns : List (Option Refusal)). TakeTurns kind ns us old new) (sym longer) (subst (λ (us : List (Result Reply Refusal)). TakeTurns kind (take i all ++ why ∷ []) us old new) (sym told) (turns_more kind (take i all) replies why reply old mid new before turn))

-- ---- a window

-- all were answered, and this was made of it
pub all_answered : {V A : Type 0} (as_reply : A → Reply) (items : V → List (Result A Refusal)) (kind : ℕ) (frames : Frames) (replies : List (Result Reply Refusal)) (old new : Link) (made : Result V Refusal) → AnswersInTurn kind frames replies old new → IfOk made (λ v. ForEach (IsToldBy as_reply) replies (items v))
    → IfErr made (λ refusal. (refusal ≡ Memory) ⊎ ((refusal ≡ Broken) × (Contains replies (Ok (Refused Broken)) ⊎ Contains replies (Err Broken)))) → MatchResult made (λ v. AsksAll as_reply kind frames (items v) old new) (RefusesAll kind frames old new)
all_answered as_reply items kind frames replies old new (Ok v) answered told ended = record { replies = replies; answered = answered; tells = told }
all_answered as_reply items kind frames replies old new (Err refusal) answered told ended = of_answer replies answered ended

-- ---- as many answers as requests

one_longer : (before : Frames) (frame : Result (List ℕ) Refusal) → length (and_frame before frame).1 ≡ length before.1 + 1
one_longer (frames, nones) (Ok frame) = length-append nones (None ∷ [])
one_longer (frames, nones) (Err refusal) = length-append nones (Some refusal ∷ [])

pub many_after : (before : Frames) (rs : List Request) → length (frames_after before rs).1 ≡ length before.1 + length rs
many_after before [] = omega arith
many_after before (r ∷ rs) = let e = many_after (and_frame before (request_frame r)) rs in let o = one_longer before (request_frame r) in omega arith

pub many_turns : (kind : ℕ) (nones : List (Option Refusal)) (replies : List (Result Reply Refusal)) (old new : Option (List ℕ)) → TakeTurns kind nones replies old new → length replies ≡ length nones
many_turns kind [] [] old new h = refl
many_turns kind [] (r ∷ rs) old new h = absurd h
many_turns kind (n ∷ ns) [] old new h = absurd h
many_turns kind (n ∷ ns) (r ∷ rs) old new h = ap suc (many_turns kind ns rs h.0 new h.2)
