-- What a list of addresses has, item by item.
use Rattle.std.proofs.Common.{◌≡◌, ◌∙◌, ◌≤◌, ◌<◌, ◌-◌, ℕ, List, [], ◌∷◌, ◌++◌, Option, Some, None, length, drop, sym, ap, subst, arith, append_assoc, append-nil, codes}
use Rattle.std.specs.List.{AllByRecursion, AllZip}
use Rattle.std.specs.Net.Grammar.{IsSocketText}
use Rattle.std.specs.Net.Socket.{socket_port}
use Rattle.std.specs.Str.Parse.{AllDigits, digits_value}
use Rattle.std.specs.declared.net.ip_addr.IpAddr.{IpAddr}
use Rattle.std.specs.declared.net.socket_addr.SocketAddr.{SocketAddr}
use Rattle.std.specs.declared.net.socket_addr.SocketAddr.TheVariants.{V4, V6}
use Rattle.std.proofs.lemmas.Fmt.{decimal_injective}
use Rattle.std.proofs.lemmas.Str.Parse.{digit_from_value}
use Rattle.mvd_input.specs.Addresses.{AreItems, HasItem, IsAddress, IsItem, items_left, items_of}
use Rattle.mvd_input.specs.Lines.{IsNumber}
use Rattle.mvd_input.specs.declared.addresses.Item.{Item}
use Rattle.mvd_input.specs.declared.addresses.Item.TheVariants.{Port, At}

-- ---- one text has one port

-- no colon (58) is among digits
no_colon : (front back : List ℕ) → AllDigits 10 (front ++ 58 ∷ back) → ⊥
no_colon [] back all = let range = digit_from_value 58 all.0 in omega (arith, range.0, range.1)
no_colon (byte ∷ front) back all = no_colon front back all.1

one_end : (a b d e : List ℕ) → a ++ 58 ∷ d ≡ b ++ 58 ∷ e → AllDigits 10 d → AllDigits 10 e → d ≡ e
one_end [] [] d e same p q = ap (λ (t : List ℕ). drop 1 t) same
one_end [] (y ∷ b) d e same p q = absurd (no_colon b e (subst (AllDigits 10) (ap (λ (t : List ℕ). drop 1 t) same) p))
one_end (x ∷ a) [] d e same p q = absurd (no_colon a d (subst (AllDigits 10) (sym (ap (λ (t : List ℕ). drop 1 t) same)) q))
one_end (x ∷ a) (y ∷ b) d e same p q = one_end a b d e (ap (λ (t : List ℕ). drop 1 t) same) p q

-- an address ends with a colon and the digits of its port
pub record EndsSo (text : List ℕ) (port : ℕ) : Type 0 where
  pub front : List ℕ
  pub digits : List ℕ
  pub spelled : text ≡ front ++ 58 ∷ digits
  pub are_digits : AllDigits 10 digits
  pub value : digits_value 10 digits ≡ port

ends_so : (text : List ℕ) (a : SocketAddr) → IsSocketText text a → EndsSo text (socket_port a)
ends_so text (V4 a) (ip, port, same, _, (digits, is, number, _)) = record {
  front = ip;
  digits = digits;
  spelled = same ∙ ap (λ (p : List ℕ). ip ++ p) is;
  are_digits = number.0.1;
  value = number.1;
}
ends_so text (V6 a) h =
    let (digits, is, number, _) = h.port_text in
    let front = codes "[" ++ h.ip ++ h.scope ++ codes "]" in
    record {
      front = front;
      digits = digits;
      spelled = h.spelled ∙ ap (λ (p : List ℕ). front ++ p) is;
      are_digits = number.0.1;
      value = number.1;
    }

pub one_port : (text : List ℕ) (a b : SocketAddr) → IsSocketText text a → IsSocketText text b → socket_port a ≡ socket_port b
one_port text a b p q =
    let x = ends_so text a p in
    let y = ends_so text b q in
    sym x.value ∙ ap (digits_value 10) (one_end x.front y.front x.digits y.digits (sym x.spelled ∙ y.spelled) x.are_digits y.are_digits) ∙ y.value

pub one_number : (text : List ℕ) (m n : ℕ) → IsNumber m text → IsNumber n text → m ≡ n
one_number text m n p q = decimal_injective m n p.1 q.1 (sym p.0 ∙ q.0)

-- ---- the items of a list

pub too_many : (most : ℕ) (texts left : List (List ℕ)) (text : List ℕ) → texts ≡ text ∷ left → most ≡ 0 → AreItems most texts → ⊥
too_many most texts left text split none are = omega (arith, ap length split, are.0, none)

pub no_first : (most : ℕ) (texts left : List (List ℕ)) (text : List ℕ) → texts ≡ text ∷ left → ((item : Item) → IsItem text item → ⊥) → AreItems most texts → ⊥
no_first most texts left text split none are = let first = (subst (AllByRecursion HasItem) split are.1).0 in none first.0 first.1

pub and_left : (most : ℕ) (texts left : List (List ℕ)) (text : List ℕ) → texts ≡ text ∷ left → HasItem text → 0 < most → AreItems (most - 1) left → AreItems most texts
and_left most texts left text split is some are = (omega (arith, ap length split, are.0, some), subst (AllByRecursion HasItem) (sym split) (is, are.1))

pub left_of : (most : ℕ) (texts left : List (List ℕ)) (text : List ℕ) → texts ≡ text ∷ left → AreItems most texts → AreItems (most - 1) left
left_of most texts left text split are = (omega (arith, ap length split, are.0), (subst (AllByRecursion HasItem) split are.1).1)

-- a list has these items, if what is left of it has them behind those that were found
abbrev pub Finding : IpAddr → List ℕ → Option (List ℕ) → List SocketAddr → Type 0
Finding ip list left found = AllByRecursion HasItem (items_left left)
    × ((later : List SocketAddr) → AllZip (IsAddress ip) (items_left left) later → AllZip (IsAddress ip) (items_of list) (found ++ later))

pub begins_finding : (ip : IpAddr) (list : List ℕ) → AllByRecursion HasItem (items_of list) → Finding ip list (Some list) []
begins_finding ip list have = (have, λ later h. h)

pub finds_more : (ip : IpAddr) (list left text : List ℕ) (after : Option (List ℕ)) (found : List SocketAddr) (a : SocketAddr)
    → items_of left ≡ text ∷ items_left after → IsAddress ip text a → Finding ip list (Some left) found → Finding ip list after (found ++ a ∷ [])
finds_more ip list left text after found a split is (have, finds) = (
  (subst (AllByRecursion HasItem) split have).1,
  λ later h. subst (AllZip (IsAddress ip) (items_of list)) (sym (append_assoc found (a ∷ []) later))
      (finds (a ∷ later) (subst (λ items. AllZip (IsAddress ip) items (a ∷ later)) (sym split) (is, h))),
)

pub finds_all : (ip : IpAddr) (list : List ℕ) (found : List SocketAddr) → Finding ip list None found → AllZip (IsAddress ip) (items_of list) found
finds_all ip list found (have, finds) = subst (AllZip (IsAddress ip) (items_of list)) (append-nil found) (finds [] tt)
