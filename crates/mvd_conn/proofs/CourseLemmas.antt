-- The frames that are taken follow from the bytes that came.
use Rattle.std.proofs.Common.{◌≡◌, ℕ, ◌<◌, ◌≤◌, true, eqb, List, [], ◌∷◌, ◌++◌, length, Option, Some, Ok, refl, sym, ap, subst, ◌∙◌, arith, append_assoc, inl, inr}
use Rattle.std.specs.List.{All}
use Rattle.std.proofs.lemmas.Bool.{cases_lt, eqb-true}
use Rattle.std.proofs.lemmas.List.{get_or_past, nil_from_length}
use Rattle.std.proofs.lemmas.List.Elements.{All-get_or}
use Rattle.mvd_keys.proofs.Lists.{and_true}
use Rattle.mvd_wire.specs.declared.request.Request.TheVariants.{Bye}
use Rattle.mvd_wire.specs.Requests.{request_of}
use Rattle.mvd_frames.proofs.RequestLaws.{request_found}
use Rattle.mvd_wire.specs.Frames.{FrameValue}
use Rattle.mvd_wire.proofs.Laws.{IsBytes, ok_is}
use Rattle.mvd_conn.specs.History.{History, is_bye}
use Rattle.mvd_conn.specs.Stands.{AreFirst, HistoryStands, frames_spelled}
use Rattle.mvd_conn.proofs.StandLemmas.{first_in}

same_frame : (f g : FrameValue) (a b : List ℕ) → ◌≡◌ {A = Option FrameValue × List ℕ} (Some f, a) (Some g, b) → (f ≡ g) × (a ≡ b)
same_frame f g a b e =
    let one : Some f ≡ Some g = ap (λ (p : Option FrameValue × List ℕ). p.0) e in
    (some_is f g one, ap (λ (p : Option FrameValue × List ℕ). p.1) e) where
      some_is : (x y : FrameValue) → Some x ≡ Some y → x ≡ y
      some_is x y h = cc

one_front : (fs gs : List FrameValue) (bytes r s : List ℕ) → AreFirst fs bytes r → AreFirst gs bytes s → length fs ≤ length gs → (rest : List FrameValue) × (gs ≡ fs ++ rest)
one_front [] gs bytes r s p q few = (gs, refl)
one_front (f ∷ fs) [] bytes r s p q few = absurd (omega (arith, few))
one_front (f ∷ fs) (g ∷ gs) bytes r s p q few =
    let same = same_frame f g p.0 q.0 (ok_is (Some f, p.0) (Some g, q.0) (sym p.1 ∙ q.1)) in
    let next : AreFirst gs p.0 s = subst (λ (t : List ℕ). AreFirst gs t s) (sym same.1) q.2 in
    let rest = one_front fs gs p.0 r s p.2 next (omega (arith, few)) in
    (rest.0, ap (λ (x : FrameValue). x ∷ gs) (sym same.0) ∙ ap (λ (t : List FrameValue). f ∷ t) rest.1)

pub one_way : (a b : History) (more : List ℕ) → HistoryStands a → HistoryStands b → b.came ≡ a.came ++ more → length a.taken ≤ length b.taken → (rest : List FrameValue) × (b.taken ≡ a.taken ++ rest)
one_way a b more p q e few =
    let all : b.came ≡ frames_spelled a.taken ++ (a.held ++ more) = e ∙ ap (λ (t : List ℕ). t ++ more) p.input ∙ append_assoc (frames_spelled a.taken) a.held more in
    one_front a.taken b.taken b.came (a.held ++ more) b.held (first_in a.taken b.came (a.held ++ more) p.fit all) q.first few

pub bye_asks : (f : FrameValue) → is_bye f ≡ true → request_of f.kind f.payload ≡ Ok Bye
bye_asks f is =
    let both = and_true (eqb f.kind 0x2F) (eqb (length f.payload) 0) is in
    let kind : f.kind ≡ 0x2F = eqb-true f.kind 0x2F both.0 in
    let none : f.payload ≡ [] = nil_from_length f.payload (eqb-true (length f.payload) 0 both.1) in
    rw (kind, none) refl

pub bytes_of : (bytes : List ℕ) → All (λ b. b < 256) bytes → IsBytes bytes
bytes_of bytes fits i =
    elim (cases_lt i (length bytes)) [
      | inl lt ↦ All-get_or (λ b. b < 256) bytes i 0 lt fits
      | inr le ↦ rw (get_or_past bytes i 0 le) (omega arith)
    ]

pub asks_bye : (f : FrameValue) → All (λ b. b < 256) f.payload → request_of f.kind f.payload ≡ Ok Bye → is_bye f ≡ true
asks_bye f fits e =
    let frames_spelled = request_found f.kind f.payload (bytes_of f.payload fits) (Ok Bye) e in
    rw (frames_spelled.1, frames_spelled.2) refl
