-- Lists of keys with the numbers of their siblings, and the members of an object.
use Rattle.std.proofs.Common.{◌≡◌, ◌∙◌, ◌==◌, add-one, ℕ, ◌+◌, ◌<◌, ◌≤◌, Bool, false, cond, nat_lt, List, [], ◌∷◌, ◌++◌, length, get_or, take, refl, sym, ap, append_assoc, append-nil, lt-ltb, le-ltb, arith}
use Rattle.std.specs.List.{flat_map}
use Rattle.std.proofs.lemmas.List.Elements.{filter_more}
use Rattle.std.proofs.lemmas.List.{length_push}
use Rattle.std.proofs.lemmas.Grind.{flat_map-append}
use Rattle.std.proofs.lemmas.Bool.Decides.{nat_tests}
use Rattle.std.proofs.Math.Dec.{eqb-suc-zero}
use Rattle.std.specs.declared.alloc.Global.{Global}
use Rattle.std.specs.Prelude.{String}
use Rattle.serde_json.specs.View.{members_view}
use Rattle.serde_json.specs.declared.value.Value.{Value}
use Rattle.mvd_keys.specs.Writes.{Key}
use Rattle.mvd_http.specs.Json.{commaed, led, led_if, live_of}
use Rattle.mvd_http.specs.Members.{member_count}

-- one entry more behind the others
pub commaed_more : {X : Type 0} (f : X → List ℕ) (xs : List X) (x : X) → commaed f (xs ++ x ∷ []) ≡ commaed f xs ++ led_if (length xs == 0) f x
commaed_more f [] x = append-nil (f x)
commaed_more f (y ∷ ys) x =
    ap (λ t. f y ++ t) (flat_map-append (led f) ys (x ∷ []) ∙ ap (λ t. flat_map (led f) ys ++ t) (append-nil (led f x)))
    ∙ sym (append_assoc (f y) (flat_map (led f) ys) (led f x))
    ∙ ap (λ b. f y ++ flat_map (led f) ys ++ led_if b f x) (sym (eqb-suc-zero (length ys)))

more : (keys : List (Key × ℕ)) (i : ℕ) (entry : Key × ℕ) → i < length keys → entry ≡ get_or keys i entry → live_of (take (i + 1) keys) ≡ live_of (take i keys) ++ cond (nat_lt 0 entry.1) (entry ∷ []) []
more keys i entry within is =
    filter_more (λ (e : Key × ℕ). nat_lt 0 e.1) keys i entry within
    ∙ ap (λ (e : Key × ℕ). live_of (take i keys) ++ cond (nat_lt 0 e.1) (e ∷ []) []) (sym is)

pub live_more : (keys : List (Key × ℕ)) (i : ℕ) (entry : Key × ℕ) → i < length keys → entry ≡ get_or keys i entry → 0 < entry.1 → live_of (take (i + 1) keys) ≡ live_of (take i keys) ++ entry ∷ []
live_more keys i entry within is live =
    more keys i entry within is ∙ ap (λ b. live_of (take i keys) ++ cond b (entry ∷ []) []) (lt-ltb 0 entry.1 live)

pub live_same : (keys : List (Key × ℕ)) (i : ℕ) (entry : Key × ℕ) → i < length keys → entry ≡ get_or keys i entry → entry.1 ≤ 0 → live_of (take (i + 1) keys) ≡ live_of (take i keys)
live_same keys i entry within is gone =
    more keys i entry within is ∙ ap (λ b. live_of (take i keys) ++ cond b (entry ∷ []) []) (le-ltb 0 entry.1 gone) ∙ append-nil (live_of (take i keys))

-- the text so far, with one entry more
pub text_more : (f : Key × ℕ → List ℕ) (old s0 s1 : List ℕ) (b : Bool) (keys : List (Key × ℕ)) (i : ℕ) (entry : Key × ℕ) → i < length keys → entry ≡ get_or keys i entry → 0 < entry.1
    → (s0 ≡ old ++ commaed f (live_of (take i keys))) × (b ≡ (length (live_of (take i keys)) == 0)) → s1 ≡ s0 ++ led_if b f entry
    → (s1 ≡ old ++ commaed f (live_of (take (i + 1) keys))) × (false ≡ (length (live_of (take (i + 1) keys)) == 0))
text_more f old s0 s1 b keys i entry within is live was now =
    let all = live_more keys i entry within is live in
    let so_far = live_of (take i keys) in
    let size : length (so_far ++ entry ∷ []) ≡ length so_far + 1 = length_push so_far entry in (
      now ∙ ap (λ t. t ++ led_if b f entry) was.0 ∙ append_assoc old (commaed f so_far) (led_if b f entry)
          ∙ ap (λ c. old ++ (commaed f so_far ++ led_if c f entry)) was.1
          ∙ ap (λ t. old ++ t) (sym (commaed_more f so_far entry) ∙ ap (commaed f) (sym all)),
      let none : length (so_far ++ entry ∷ []) == 0 ≡ false = grind (arith, nat_tests) in sym (ap (λ ks. length ks == 0) all ∙ none),
    )

-- as many members as a map has entries
pub counted : (ms : List (String Global × Value)) → member_count (members_view ms) ≡ length ms
counted [] = refl
counted (m ∷ ms) = ap (λ n. n + 1) (counted ms) ∙ add-one (length ms)
