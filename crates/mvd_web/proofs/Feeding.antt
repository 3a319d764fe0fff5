-- How bytes come in, and how the input ends.
use Rattle.std.proofs.Common.{arith, rules, ◌≡◌, ◌∙◌, ◌++◌, ◌+◌, ◌≤◌, ◌==◌, append_assoc, append-nil, inl, inr, refl, Bool, true, false, ℕ, if◌then◌else◌, length, List, [], ◌∷◌, Result, Ok, Err, IfOk, is_err, subst, sym, ap}
use Rattle.std.proofs.lemmas.List.{length-append}
use Rattle.http_server.specs.History.{after_read}
use Rattle.mvd_dots.specs.declared.refusals.Refusal.TheVariants.{Memory}
use Rattle.mvd_web.specs.Web.{EndsInput, Feeds, WebValue, at_end, web_fed, heard_more, stopped_by}

-- a front of the bytes came, and in so many reads no byte was missed
pub record Feeding (old : WebValue) (bytes rest : List ℕ) (reads : ℕ) (now : WebValue) : Type 0 where
  pub front : List ℕ
  pub joined : bytes ≡ front ++ rest
  pub same : now ≡ web_fed old front
  pub left : old.heard.ended ≡ false → length rest + reads ≤ length bytes

-- what a read of a slice says
pub record Reading (ended : Bool) (rest more left : List ℕ) : Type 0 where
  pub joined : rest ≡ more ++ left
  pub some : rest ≡ [] → ⊥
  pub at_end : length more ≡ 0 → ended ≡ false → left ≡ []

goes_on : (e : Bool) (rest more left : List ℕ) → Reading e rest more left → (if e then e else (length more == 0)) ≡ e
goes_on true rest more left r = refl
goes_on false rest [] left r = absurd (r.some (r.joined ∙ r.at_end refl refl))
goes_on false rest (b ∷ bs) left r = search rules

fewer : (rest more left : List ℕ) (n all : ℕ) → Reading false rest more left → length rest + n ≤ all → length left + (n + 1) ≤ all
fewer rest [] left n all r h = absurd (r.some (r.joined ∙ r.at_end refl refl))
fewer rest (b ∷ bs) left n all r h = let l : length rest ≡ length (b ∷ bs) + length left = ap length r.joined ∙ length-append (b ∷ bs) left in omega (arith, l, h)

pub begins : (old : WebValue) (bytes : List ℕ) → Feeding old bytes bytes 0 (record old { rests = false })
begins old bytes = record {
  front = [];
  joined = refl;
  same = (λ i. record old { heard = record (old.heard) { received = sym (append-nil old.heard.received) i; unread = sym (append-nil old.heard.unread) i }; rests = false });
  left = λ _. omega arith;
}

further_at : (old : WebValue) (front more : List ℕ) → (if old.heard.ended then old.heard.ended else (length more == 0)) ≡ old.heard.ended
    → record (web_fed old front) { heard = after_read (heard_more old.heard front) more } ≡ web_fed old (front ++ more)
further_at old front more e =
    let r : (old.heard.received ++ front) ++ more ≡ old.heard.received ++ (front ++ more) = simp append_assoc in
    let u : (old.heard.unread ++ front) ++ more ≡ old.heard.unread ++ (front ++ more) = simp append_assoc in
    λ i. record old { heard = record (old.heard) { received = r i; unread = u i; ended = e i }; rests = false }

pub further : (old mid : WebValue) (bytes rest more left : List ℕ) (n : ℕ) → Feeding old bytes rest n mid → Reading mid.heard.ended rest more left
    → Feeding old bytes left (n + 1) (record mid { heard = after_read mid.heard more })
further old mid bytes rest more left n f r =
    let here : Reading old.heard.ended rest more left = subst (λ (w : WebValue). Reading w.heard.ended rest more left) f.same r in
    record {
      front = f.front ++ more;
      joined = f.joined ∙ ap (λ l. f.front ++ l) r.joined ∙ sym (append_assoc f.front more left);
      same = ap (λ (w : WebValue). record w { heard = after_read w.heard more }) f.same ∙ further_at old f.front more (goes_on old.heard.ended rest more left here);
      left = λ going. fewer rest more left n (length bytes) (subst (λ e. Reading e rest more left) going here) (f.left going);
    }

none_left : (rest : List ℕ) (n : ℕ) → length rest + n ≤ n → rest ≡ []
none_left [] n h = refl
none_left (b ∷ bs) n h = absurd (omega (arith, h))

pub ends : (old new : WebValue) (bytes rest : List ℕ) → Feeding old bytes rest (length bytes) new → Feeds old bytes new
ends old new bytes rest f = (f.front, rest, f.joined, inl (f.same, λ going. none_left rest (length bytes) (f.left going)))

-- what a result says that is no error
pub got : {E : Type 0} (r : Result ℕ E) (P : ℕ → Type 0) → is_err r ≡ false → IfOk r P → (n : ℕ) × (r ≡ Ok n) × P n
got (Ok n) P e h = (n, refl, h)
got (Err x) P e h = absurd (cc e)

-- ---- the end

nothing : (more left : List ℕ) → [] ≡ more ++ left → more ≡ []
nothing [] left e = refl
nothing (b ∷ bs) left e = absurd (cc e)

ended_now : (e : Bool) → (if e then e else true) ≡ true
ended_now true = refl
ended_now false = refl

pub input_ended : (old new : WebValue) (more left : List ℕ) → [] ≡ more ++ left → new ≡ record old { heard = after_read old.heard more; rests = false } → EndsInput old new
input_ended old new more left e is =
    let at_none : record old { heard = after_read old.heard []; rests = false } ≡ at_end old =
    λ i. record old { heard = record (old.heard) { received = append-nil old.heard.received i; unread = append-nil old.heard.unread i; ended = ended_now old.heard.ended i }; rests = false } in
    inl (is ∙ ap (λ m. record old { heard = after_read old.heard m; rests = false }) (nothing more left e) ∙ at_none)
