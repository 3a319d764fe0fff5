-- The replies that came, each in its turn.
use Rattle.std.proofs.Common.{◌≡◌, inl, inr, ℕ, ◌+◌, ◌-◌, ◌<◌, ◌≤◌, Bool, true, false, List, [], ◌∷◌, ◌++◌, length, take, drop, get_or, Option, Some, None, refl, sym, ap, subst, ◌∙◌, arith, length-append}
use Rattle.std.specs.Prelude.{All, Result, Ok, Err, is_some}
use Rattle.std.specs.declared.alloc.Global.{Global}
use Rattle.bytes.specs.declared.unique.BytesMut.{BytesMut}
use Rattle.std.proofs.lemmas.List.{append_assoc, drop_all, flat_map_more, length-take, length-drop, take_all}
use Rattle.std.proofs.lemmas.List.Elements.{All-push}
use Rattle.mvd_dots.specs.declared.refusals.Refusal.{Refusal}
use Rattle.mvd_dots.specs.declared.refusals.Refusal.TheVariants.{FrameTooLong, Memory, Truncated}
use Rattle.mvd_wire.specs.Frames.{FrameValue, frame_at, frame_limit}
use Rattle.mvd_wire.specs.declared.reply.Reply.{Reply}
use Rattle.mvd_frames.proofs.FrameLemmas.{frame_again}
use Rattle.mvd_conn.specs.Front.{IsPart, IsWholeFrame}
use Rattle.mvd_conn.specs.Stands.{frame_of}
use Rattle.mvd_peer.specs.Windows.{GivesWithin}
use Rattle.mvd_remote.specs.LinkWindows.{AnswersTurn, CollectsNone, IsKeptOf, IsOfKind, TakeTurns, TurnBreaks, of_read, state_in}
use Rattle.mvd_remote.specs.Links.{EndsWithinFrame, Link, ReadCause, ReceivesFrame, of_end, of_length, of_reader}
use Rattle.mvd_remote.proofs.Holding.{kept_kind, kept_turn, within_replies}
use Rattle.mvd_remote.proofs.Turns.{turns_more_at}
use Rattle.mvd_meet.specs.Kept.{BrokeTurns, KeepsAsked, KeepsTurns, taken_in}
use Rattle.mvd_meet.specs.Posts.{PostTells, PostTellsOf, PostValue, TellsBy, has_asked, has_turns, kind_of, link_by}
use Rattle.mvd_meet.specs.Turns.{EndsWith}
use Rattle.mvd_meet.specs.declared.asked.Asked.{Asked}
use Rattle.mvd_meet.specs.declared.asked.Sort.{Sort}
use Rattle.mvd_meet.specs.declared.asked.Sort.TheVariants as sort
use Rattle.mvd_peer.specs.declared.window.Told.TheVariants as told

pub no_some : (r : Option Refusal) → ((x : Refusal) → r ≡ Some x → ⊥) → r ≡ None
no_some None never = refl
no_some (Some x) never = absurd (never x refl)

pub not_some : (r : Option Refusal) (b : Bool) → b ≡ is_some r → b ≡ false → r ≡ None
not_some None b is none = refl
not_some (Some x) b is none = let never : true ≡ false = sym is ∙ none in absurd (cc)

-- ---- a frame

-- all that is behind the first
pub behind_of : {X : Type 0} (xs : List X) (n : ℕ) → take (length xs - n) (drop n xs) ≡ drop n xs
behind_of xs n = take_all (length xs - n) (drop n xs) (omega (arith, length-drop n xs))

-- a whole frame is read, whatever comes behind it
pub whole_more : (bytes : List ℕ) (n : ℕ) → IsWholeFrame bytes n → (more : List ℕ) → frame_at (take n bytes ++ more) ≡ Ok (Some (frame_of (take n bytes)), more)
whole_more bytes n w more =
    let f : FrameValue = frame_of (take n bytes) in
    let few : length f.payload + 1 ≤ frame_limit = omega (arith, length-drop 5 (take n bytes), length-take n bytes, w.within, w.few, w.some) in
    ap (λ (t : List ℕ). frame_at (t ++ more)) w.spelled ∙ frame_again f more few

pub received : (bytes : List ℕ) (n : ℕ) (Came : FrameValue → Type 0) → IsWholeFrame bytes n → Came (frame_of (take n bytes)) → (more : List ℕ) → ReceivesFrame (Some (take n bytes ++ more)) (Some more) Came
received bytes n Came w came more all some =
    let same : take n bytes ++ more ≡ all = cc in
    (frame_of (take n bytes), more, ap frame_at (sym same) ∙ whole_more bytes n w more, refl, came)

-- ---- the end of what came

pub cut_part : (bytes : List ℕ) (kind : ℕ) → IsPart bytes → ReadCause (Some bytes) (Some bytes) kind Truncated
cut_part bytes kind part = of_end refl (λ all some.
    let same : bytes ≡ all = cc in
    subst EndsWithinFrame same (elim part.read [ inl none ↦ inr ([], none.1) | inr cut ↦ inl cut ]))

pub cut_long : (bytes : List ℕ) (kind : ℕ) → frame_at bytes ≡ Err FrameTooLong → ReadCause (Some bytes) (Some bytes) kind FrameTooLong
cut_long bytes kind long = of_length refl (λ all some.
    let same : bytes ≡ all = cc in
    ap frame_at (sym same) ∙ long)

-- ---- the first replies

-- they are no more than the requests
pub few_replies : (kind : ℕ) (replies : List (Result Reply Refusal)) (nones : List (Option Refusal)) (old new : Option (List ℕ)) → TakeTurns kind (take (length replies) nones) replies old new → length replies ≤ length nones
few_replies kind [] nones old new h = omega arith
few_replies kind (r ∷ rs) [] old new h = absurd h
few_replies kind (r ∷ rs) (n ∷ ns) old new h = let less = few_replies kind rs ns h.0 new h.2 in omega (arith, less)

-- what is left says whether all came
pub left_turns : (kind : ℕ) (replies : List (Result Reply Refusal)) (nones : List (Option Refusal)) (a b : List ℕ) → TakeTurns kind (take (length replies) nones) replies (Some a) (Some b) → has_turns nones a ≡ has_turns (drop (length replies) nones) b
left_turns kind [] nones a b h = let same : a ≡ b = cc in ap (has_turns nones) same
left_turns kind (r ∷ rs) [] a b h = absurd h
left_turns kind (r ∷ rs) (None ∷ ns) a b h =
    let (frame, rest, read, on, told) = h.1 a refl in
    rw read (left_turns kind rs ns rest b (subst (λ m. TakeTurns kind (take (length rs) ns) rs m (Some b)) on h.2))
left_turns kind (r ∷ rs) (Some refusal ∷ ns) a b h = left_turns kind rs ns a b (subst (λ m. TakeTurns kind (take (length rs) ns) rs m (Some b)) h.1.1 h.2)

-- ---- one reply more

module _ (kind : ℕ) (nones : List (Option Refusal)) (replies : List (Result Reply Refusal)) (bytes : ℕ) (taken : List ℕ) (kept : KeepsTurns kind nones replies bytes taken) where
  joined : (taken' front more : List ℕ) → taken' ≡ taken ++ front → taken' ++ more ≡ taken ++ (front ++ more)
  joined taken' front more is = ap (λ (t : List ℕ). t ++ more) is ∙ append_assoc taken front more

  pub one_kept : (us : List (Result Reply Refusal)) (reply told : Result Reply Refusal) (bytes' : ℕ) (taken' front : List ℕ) (none d : Option Refusal) → length replies < length nones → none ≡ get_or nones (length replies) d → us ≡ replies ++ told ∷ [] → taken' ≡ taken ++ front → IsKeptOf reply told → GivesWithin bytes bytes' (state_in told) → IsOfKind kind reply
      → ((more : List ℕ) → AnswersTurn kind none reply (Some (front ++ more)) (Some more)) → KeepsTurns kind nones us bytes' taken'
  one_kept us reply told bytes' taken' front none d low at all grown is within kinded turn = record {
    read = λ more.
        let longer : length us ≡ length replies + 1 = ap length all ∙ length-append replies (told ∷ []) in
        let turns : TakeTurns kind (take (length replies + 1) nones) us (Some (taken ++ (front ++ more))) (Some more) =
        turns_more_at kind nones (length replies) none d replies us told (Some (taken ++ (front ++ more))) (Some (front ++ more)) (Some more) low at all (kept.read (front ++ more)) (kept_turn kind none reply told (Some (front ++ more)) (Some more) is (turn more)) in
        subst (λ (n : ℕ). TakeTurns kind (take n nones) us (Some (taken' ++ more)) (Some more)) (sym longer)
        (subst (λ (a : List ℕ). TakeTurns kind (take (length replies + 1) nones) us (Some a) (Some more)) (sym (joined taken' front more grown)) turns);
    of_kind = subst (λ (rs : List (Result Reply Refusal)). All (IsOfKind kind) rs) (sym all) (All-push (IsOfKind kind) replies told kept.of_kind (kept_kind kind reply told is kinded));
    within = within_replies bytes bytes' replies us told all kept.within.0 kept.within.1 within;
  }

  pub one_broke : (taken' front : List ℕ) (refusal : Refusal) → taken' ≡ taken ++ front → ((more : List ℕ) → ReadCause (Some (front ++ more)) (Some more) kind refusal) → BrokeTurns kind nones taken' refusal
  one_broke taken' front refusal grown cause more =
      subst (λ (a : List ℕ). TurnBreaks kind nones (Some a) (Some more) refusal) (sym (joined taken' front more grown)) (length replies, replies, Some (front ++ more), kept.read (front ++ more), cause more)

  pub no_memory : BrokeTurns kind nones taken Memory
  no_memory more = (length replies, replies, Some more, kept.read more, of_reader (inr refl))

-- ---- the frames that were taken

pub one_taken : (frames frames' : List (BytesMut Global × ℕ)) (came : BytesMut Global) (size : ℕ) → frames' ≡ frames ++ (came, size) ∷ [] → taken_in frames' ≡ taken_in frames ++ take size came.items
one_taken frames frames' came size is = ap taken_in is ∙ sym (flat_map_more (λ (r : BytesMut Global × ℕ). take r.1 r.0.items) [] frames (came, size))

-- ---- what is kept of a window

pub kept_at : (asked : Option Asked) (refused : Option Refusal) (a : Asked) (replies : List (Result Reply Refusal)) (bytes : ℕ) (taken : List ℕ) → asked ≡ Some a → refused ≡ None → KeepsAsked asked refused replies bytes taken → KeepsTurns (kind_of a.sort) a.frames.1 replies bytes taken
kept_at asked refused a replies bytes taken is none k = subst (λ r. KeepsAsked (Some a) r replies bytes taken) none (subst (λ x. KeepsAsked x refused replies bytes taken) is k)

pub kept_as : (asked : Option Asked) (refused : Option Refusal) (a : Asked) (replies : List (Result Reply Refusal)) (bytes : ℕ) (taken : List ℕ) → asked ≡ Some a → refused ≡ None → KeepsTurns (kind_of a.sort) a.frames.1 replies bytes taken → KeepsAsked asked refused replies bytes taken
kept_as asked refused a replies bytes taken is none k = subst (λ x. KeepsAsked x refused replies bytes taken) (sym is) (subst (λ r. KeepsAsked (Some a) r replies bytes taken) (sym none) k)

pub broke_at : (asked : Option Asked) (refused : Option Refusal) (a : Asked) (refusal : Refusal) (replies : List (Result Reply Refusal)) (bytes : ℕ) (taken : List ℕ) → asked ≡ Some a → refused ≡ Some refusal → KeepsAsked asked refused replies bytes taken → BrokeTurns (kind_of a.sort) a.frames.1 taken refusal
broke_at asked refused a refusal replies bytes taken is some k = subst (λ r. KeepsAsked (Some a) r replies bytes taken) some (subst (λ x. KeepsAsked x refused replies bytes taken) is k)

pub broke_as : (asked : Option Asked) (refused : Option Refusal) (a : Asked) (refusal : Refusal) (replies : List (Result Reply Refusal)) (bytes : ℕ) (taken : List ℕ) → asked ≡ Some a → refused ≡ Some refusal → BrokeTurns (kind_of a.sort) a.frames.1 taken refusal → KeepsAsked asked refused replies bytes taken
broke_as asked refused a refusal replies bytes taken is some k = subst (λ x. KeepsAsked x refused replies bytes taken) (sym is) (subst (λ r. KeepsAsked (Some a) r replies bytes taken) (sym some) k)

-- ---- what is told

pub none_told : (sort : Sort) (nones : List (Option Refusal)) (old new : Link) (refusal : Refusal) → CollectsNone (kind_of sort) nones old new refusal → TellsBy sort nones old new (told.Refused refusal)
none_told sort.Nodes nones old new refusal h = (Err refusal, h, refl)
none_told sort.Pages nones old new refusal h = (Err refusal, h, refl)
none_told sort.States nones old new refusal h = (Err refusal, h, refl)
none_told sort.Pushes nones old new refusal h = (Err refusal, h, refl)

-- what came broke the link, or ends before all is answered
ends_turns : (a : Asked) (refused : Option Refusal) (replies : List (Result Reply Refusal)) (bytes : ℕ) (taken came : List ℕ) (refusal : Refusal) → KeepsAsked (Some a) refused replies bytes taken → EndsWith refused came refusal → TurnBreaks (kind_of a.sort) a.frames.1 (Some (taken ++ came)) (Some came) refusal
ends_turns a None replies bytes taken came refusal k e = (length replies, replies, Some came, k.read came, e (kind_of a.sort))
ends_turns a (Some before) replies bytes taken came refusal k e = subst (λ r. TurnBreaks (kind_of a.sort) a.frames.1 (Some (taken ++ came)) (Some came) r) (sym e) (k came)

module _ (asked : Option Asked) (a : Asked) (refused : Option Refusal) (leaving came : List ℕ) (frames frames' : List (BytesMut Global × ℕ)) (replies replies' : List (Result Reply Refusal)) (is : asked ≡ Some a) (none : frames' ≡ []) (v : PostValue)
    (was : record { leaving = leaving; came = taken_in frames ++ came; waits = came; asked = asked; answered = length replies; refused = refused } ≡ v) where
  left_behind : taken_in frames' ++ came ≡ came
  left_behind = ap (λ (l : List (BytesMut Global × ℕ)). taken_in l ++ came) none

  pub tells_end : (bytes : ℕ) (asked' : Option Asked) (refusal : Refusal) → asked' ≡ None → KeepsAsked asked refused replies bytes (taken_in frames) → EndsWith refused came refusal
      → PostTells v.asked v (record { leaving = leaving; came = taken_in frames' ++ came; waits = came; asked = asked'; answered = length replies'; refused = Some refusal }) (Some (told.Refused refusal))
  tells_end bytes asked' refusal gone k e =
      let new : PostValue = record { leaving = leaving; came = taken_in frames' ++ came; waits = came; asked = asked'; answered = length replies'; refused = Some refusal } in
      let old : PostValue = record { leaving = leaving; came = taken_in frames ++ came; waits = came; asked = asked; answered = length replies; refused = refused } in
      let broke = ends_turns a refused replies bytes (taken_in frames) came refusal (subst (λ x. KeepsAsked x refused replies bytes (taken_in frames)) is k) e in
      let so : PostTellsOf a old new (told.Refused refusal) = record {
        tells = none_told a.sort a.frames.1 (link_by old) (link_by new) refusal (of_read (subst (λ (l : List ℕ). TurnBreaks (kind_of a.sort) a.frames.1 (Some (taken_in frames ++ came)) (Some l) refusal) (sym left_behind) broke) refl);
        asked = gone;
      } in
      subst (λ (w : PostValue). PostTells w.asked w new (Some (told.Refused refusal))) was (subst (λ x. PostTells x old new (Some (told.Refused refusal))) (sym is) so)

-- ---- whether all came

pub come_is : (asked : Option Asked) (refused : Option Refusal) (a : Asked) (replies : List (Result Reply Refusal)) (bytes : ℕ) (taken came : List ℕ) → asked ≡ Some a → refused ≡ None → KeepsAsked asked refused replies bytes taken → has_turns (drop (length replies) a.frames.1) came ≡ has_asked asked refused (taken ++ came)
come_is asked refused a replies bytes taken came is none k =
    let kept = kept_at asked refused a replies bytes taken is none k in
    sym (left_turns (kind_of a.sort) replies a.frames.1 (taken ++ came) came (kept.read came)) ∙ sym (ap (λ x. has_asked x refused (taken ++ came)) is ∙ ap (λ r. has_asked (Some a) r (taken ++ came)) none)

pub all_come : (nones : List (Option Refusal)) (n : ℕ) (bytes : List ℕ) → length nones ≤ n → true ≡ has_turns (drop n nones) bytes
all_come nones n bytes few = sym (ap (λ ns. has_turns ns bytes) (drop_all n nones few))
