-- Pieces of a line that came in, and what they are of the lines of a text.
use Rattle.std.proofs.Common.{◌≡◌, ◌∙◌, ◌<◌, ◌≤◌, ◌+◌, ◌==◌, ℕ, Bool, true, false, List, [], ◌∷◌, ◌++◌, Option, Some, None, is_some, IfSome, Bor, Ok, Err, inl, inr, length, take, refl, sym, ap, subst, arith, append_assoc, eqb-true}
use Rattle.std.specs.Io.{StartsWith}
use Rattle.std.specs.Io.BufRead.{DropsConsumable}
use Rattle.std.specs.Io.KnownBytes.{Appends, Consumes, IsAtEnd, Keeps}
use Rattle.std.specs.Option.{option_copied}
use Rattle.std.proofs.BufReadLemmas.{Consumes_shown}
use Rattle.std.proofs.lemmas.List.{append-nil, append_cancel_right, length-append, take_all, take_at}
use Rattle.mvd_input.specs.declared.fault.Fault.{Fault}
use Rattle.mvd_input.specs.Hexadecimal.{lines_after, lines_of, onto_first}
use Rattle.mvd_shell.specs.declared.line_reader.Piece.TheVariants.{End, Last, Part}
use Rattle.mvd_shell.specs.ReadLine.{IsOneLine, ReadsOneLine, ReadsPiece}

-- ---- bytes that are read

pub consumes_none : (a : Option (List ℕ)) → Consumes a a []
consumes_none None = tt
consumes_none (Some x) = refl

pub consumes_on : (a b c : Option (List ℕ)) (xs ys : List ℕ) → Consumes a b xs → Consumes b c ys → Consumes a c (xs ++ ys)
consumes_on None b c xs ys first second = tt
consumes_on (Some s) None c xs ys first second = absurd first
consumes_on (Some s) (Some t) None xs ys first second = absurd second
consumes_on (Some s) (Some t) (Some u) xs ys first second = first ∙ ap (λ (l : List ℕ). xs ++ l) second ∙ sym (append_assoc xs ys u)

-- ---- bytes that are written

pub appends_none : (bytes : Option (List ℕ)) → Appends bytes bytes []
appends_none None = tt
appends_none (Some xs) = sym (append-nil xs)

pub appends_on : (old mid new : Option (List ℕ)) (xs ys : List ℕ) → Appends old mid xs → Appends mid new ys → Appends old new (xs ++ ys)
appends_on None mid new xs ys first then = tt
appends_on (Some a) None new xs ys first then = absurd first
appends_on (Some a) (Some b) None xs ys first then = absurd then
appends_on (Some a) (Some b) (Some c) xs ys first then = then ∙ ap (λ (t : List ℕ). t ++ ys) first ∙ append_assoc a xs ys

-- ---- lines

front_on : (b : Bool) (byte : ℕ) (bytes : List ℕ) → (byte == 10) ≡ b → IsOneLine (byte ∷ bytes) → ((byte == 10) ≡ false) × IsOneLine bytes
front_on true byte bytes is one = let here : true ≡ false = rw is at one in absurd cc
front_on false byte bytes is one = let here : IsOneLine bytes = rw is at one in (is, here)

-- a text with no line feed stands in front of the first line of what follows it
pub lines_on : (text more first : List ℕ) (rest : List (List ℕ)) → IsOneLine text → lines_of more ≡ first ∷ rest → lines_of (text ++ more) ≡ (text ++ first) ∷ rest
unfolding lines_of onto_first
lines_on [] more first rest one is = is
lines_on (byte ∷ bytes) more first rest one is =
    let (plain, others) = front_on (byte == 10) byte bytes refl one in
    rw (plain, lines_on bytes more first rest others is) refl

pub lines_one : (text : List ℕ) → IsOneLine text → lines_of text ≡ text ∷ []
unfolding lines_of
lines_one text one = subst (λ (t : List ℕ). lines_of t ≡ t ∷ []) (append-nil text) (lines_on text [] [] [] one refl)

pub lines_fed : (text more : List ℕ) → IsOneLine text → lines_of (text ++ 10 ∷ more) ≡ text ∷ lines_of more
unfolding lines_of
lines_fed text more one = lines_on text (10 ∷ more) [] (lines_of more) one refl ∙ ap (λ (t : List ℕ). t ∷ lines_of more) (append-nil text)

pub one_both : (first then : List ℕ) → IsOneLine first → IsOneLine then → IsOneLine (first ++ then)
one_both [] then one other = other
one_both (byte ∷ bytes) then one other =
    let (plain, others) = front_on (byte == 10) byte bytes refl one in
    rw plain (one_both bytes then others other)

-- the first line of a text is one
onto_one : (byte : ℕ) (lines : List (List ℕ)) (line : List ℕ) (rest : List (List ℕ)) → (byte == 10) ≡ false → ((first : List ℕ) (others : List (List ℕ)) → lines ≡ first ∷ others → IsOneLine first) → onto_first byte lines ≡ line ∷ rest → IsOneLine line
unfolding onto_first
onto_one byte [] line rest plain one is = let same : byte ∷ [] ≡ line = cc in subst IsOneLine same (rw plain refl)
onto_one byte (first ∷ others) line rest plain one is = let same : byte ∷ first ≡ line = cc in subst IsOneLine same (rw plain (one first others refl))

head_on : (b : Bool) (byte : ℕ) (bytes line : List ℕ) (rest : List (List ℕ)) → (byte == 10) ≡ b → ((first : List ℕ) (others : List (List ℕ)) → lines_of bytes ≡ first ∷ others → IsOneLine first) → lines_of (byte ∷ bytes) ≡ line ∷ rest → IsOneLine line
unfolding lines_of
head_on true byte bytes line rest b one is =
    let here : [] ∷ lines_of bytes ≡ line ∷ rest = rw b at is in
    let same : [] ≡ line = cc in subst IsOneLine same refl
head_on false byte bytes line rest b one is =
    let here : onto_first byte (lines_of bytes) ≡ line ∷ rest = rw b at is in
    onto_one byte (lines_of bytes) line rest b one here

pub head_one : (text line : List ℕ) (rest : List (List ℕ)) → lines_of text ≡ line ∷ rest → IsOneLine line
unfolding lines_of
head_one [] line rest is = let same : [] ≡ line = cc in subst IsOneLine same refl
head_one (byte ∷ bytes) line rest is = head_on (byte == 10) byte bytes line rest refl (head_one bytes) is

-- lines with a line feed behind each
ended : List (List ℕ) → List ℕ
ended [] = []
ended (line ∷ lines) = line ++ 10 ∷ ended lines

onto_ended : (byte : ℕ) (lines : List (List ℕ)) (text : List ℕ) → ended lines ≡ text → 0 < length text → ended (onto_first byte lines) ≡ byte ∷ text
unfolding onto_first ended
onto_ended byte [] text is some = absurd (omega (arith, ap (λ (t : List ℕ). length t) is, some))
onto_ended byte (line ∷ lines) text is some = ap (λ (t : List ℕ). byte ∷ t) is

ended_on : (b : Bool) (byte : ℕ) (bytes : List ℕ) → (byte == 10) ≡ b → ended (lines_of bytes) ≡ bytes ++ 10 ∷ [] → ended (lines_of (byte ∷ bytes)) ≡ byte ∷ (bytes ++ 10 ∷ [])
unfolding lines_of ended
ended_on true byte bytes b so_far = rw b (ap (λ (t : List ℕ). 10 ∷ t) so_far ∙ ap (λ (x : ℕ). x ∷ (bytes ++ 10 ∷ [])) (sym (eqb-true byte 10 b)))
ended_on false byte bytes b so_far = rw b (onto_ended byte (lines_of bytes) (bytes ++ 10 ∷ []) so_far (omega (arith, length-append bytes (10 ∷ []))))

ended_text : (text : List ℕ) → ended (lines_of text) ≡ text ++ 10 ∷ []
unfolding lines_of ended
ended_text [] = refl
ended_text (byte ∷ bytes) = ended_on (byte == 10) byte bytes refl (ended_text bytes)

-- what stands before and behind the first line feed
cut_fed : (text line after : List ℕ) → lines_of text ≡ line ∷ lines_of after → text ≡ line ++ 10 ∷ after
unfolding ended
cut_fed text line after is = append_cancel_right text (line ++ 10 ∷ after) (10 ∷ [])
    (sym (ended_text text) ∙ ap ended is ∙ ap (λ (t : List ℕ). line ++ 10 ∷ t) (ended_text after) ∙ sym (append_assoc line (10 ∷ after) (10 ∷ [])))

cut_whole : (text line : List ℕ) → lines_of text ≡ line ∷ [] → text ≡ line
unfolding ended
cut_whole text line is = append_cancel_right text line (10 ∷ []) (sym (ended_text text) ∙ ap ended is)

-- ---- one piece

-- the input was at its end
pub nothing_left : (a b : Option (List ℕ)) (held : List ℕ) → IfSome a (λ xs. length held ≡ 0 → xs ≡ []) → Keeps a b → length held ≡ 0 → Consumes a b [] × IsAtEnd a
nothing_left None b held end kept none = (tt, tt)
nothing_left (Some x) None held end kept none = absurd kept
nothing_left (Some x) (Some y) held end kept none = (sym kept, end none)

-- What the reader held is consumed as far as its first line feed, or all of it
module _ (a b c : Option (List ℕ)) (limit : Option ℕ) (held : List ℕ) (front : IfSome a (λ xs. StartsWith xs held)) (end : IfSome a (λ xs. length held ≡ 0 → xs ≡ [])) (kept : Keeps a b) (fits : IfSome a (λ _. IfSome limit (λ n. length held ≤ n))) (part : List ℕ) where
  fed_by : (after : List ℕ) → lines_of held ≡ part ∷ lines_of after → DropsConsumable b c limit (length part + 1) → IsOneLine part × Consumes a c (part ++ 10 ∷ [])
  fed_by after is drops =
      let split : held ≡ (part ++ 10 ∷ []) ++ after = cut_fed held part after is ∙ sym (append_assoc part (10 ∷ []) after) in
      let within : length part + 1 ≤ length held = omega (arith, ap (λ (t : List ℕ). length t) split, length-append (part ++ 10 ∷ []) after, length-append part (10 ∷ [])) in
      let taken : take (length part + 1) held ≡ part ++ 10 ∷ [] = ap (λ (t : List ℕ). take (length part + 1) t) split ∙ take_at (part ++ 10 ∷ []) after (length part + 1) (length-append part (10 ∷ [])) in
      (head_one held part (lines_of after) is, subst (Consumes a c) taken (Consumes_shown a b c limit held (length part + 1) within front end kept fits drops).0)

  pub fed : (after : Option (Bor (List ℕ))) → lines_of held ≡ part ∷ lines_after (option_copied after) → is_some after ≡ true → DropsConsumable b c limit (length part + 1) → IsOneLine part × Consumes a c (part ++ 10 ∷ [])
  unfolding lines_after
  fed None is there drops = absurd cc
  fed (Some after) is there drops = fed_by after.now is drops

  whole_by : lines_of held ≡ part ∷ [] → DropsConsumable b c limit (length part) → IsOneLine part × Consumes a c part × (held ≡ part)
  whole_by is drops =
      let same = cut_whole held part is in
      let within : length part ≤ length held = omega (arith, ap (λ (t : List ℕ). length t) same) in
      let taken : take (length part) held ≡ part = take_all (length part) held (omega (arith, ap (λ (t : List ℕ). length t) same)) ∙ same in
      (head_one held part [] is, subst (Consumes a c) taken (Consumes_shown a b c limit held (length part) within front end kept fits drops).0, same)

  pub whole : (after : Option (Bor (List ℕ))) → lines_of held ≡ part ∷ lines_after (option_copied after) → is_some after ≡ false → DropsConsumable b c limit (length part) → IsOneLine part × Consumes a c part × (held ≡ part)
  unfolding lines_after
  whole None is there drops = whole_by is drops
  whole (Some after) is there drops = absurd cc

-- ---- pieces

-- pieces of a line that came in so far
pub record SoFar (input input' : Option (List ℕ)) (line : List ℕ) : Type 0 where
  pub one : IsOneLine line
  pub short : length line ≤ 16777216
  pub read : Consumes input input' line

pub begins : (input : Option (List ℕ)) (line : List ℕ) → line ≡ [] → SoFar input input line
begins input line none = subst (λ (l : List ℕ). SoFar input input l) (sym none) (record { one = refl; short = omega arith; read = consumes_none input })

pub goes_on : (input mid input' : Option (List ℕ)) (old new : List ℕ) → SoFar input mid old → ReadsPiece mid input' old new (Ok Part) → SoFar input input' new × (length old < length new)
goes_on input mid input' old new so_far (part, (one, is, short), read, some) = (
  record {
    one = subst IsOneLine (sym is) (one_both old part so_far.one one);
    short = short;
    read = subst (Consumes input input') (sym is) (consumes_on input mid input' old part so_far.read read);
  },
  omega (arith, ap (λ (t : List ℕ). length t) is, length-append old part, some),
)

pub ends : (input mid input' : Option (List ℕ)) (old new : List ℕ) → SoFar input mid old → ReadsPiece mid input' old new (Ok End) → ReadsOneLine input input' new (Ok true)
ends input mid input' old new so_far (part, (one, is, short), read) =
    let all : old ++ (part ++ 10 ∷ []) ≡ new ++ 10 ∷ [] = sym (append_assoc old part (10 ∷ [])) ∙ ap (λ (t : List ℕ). t ++ 10 ∷ []) (sym is) in (
      subst IsOneLine (sym is) (one_both old part so_far.one one),
      short,
      subst (Consumes input input') all (consumes_on input mid input' old (part ++ 10 ∷ []) so_far.read read),
    )

at_end : (input mid : Option (List ℕ)) (line : List ℕ) → Consumes input mid line → IsAtEnd mid → IfSome input (λ all. all ≡ line)
at_end None mid line read none = tt
at_end (Some x) None line read none = absurd read
at_end (Some x) (Some y) line read none = read ∙ ap (λ (t : List ℕ). line ++ t) none ∙ append-nil line

pub stops : (input mid input' : Option (List ℕ)) (old new : List ℕ) → SoFar input mid old → ReadsPiece mid input' old new (Ok Last) → ReadsOneLine input input' new (Ok false)
stops input mid input' old new so_far (same, read, none) = (
  subst IsOneLine (sym same) so_far.one,
  subst (λ (l : List ℕ). length l ≤ 16777216) (sym same) so_far.short,
  subst (Consumes input input') (append-nil old ∙ sym same) (consumes_on input mid input' old [] so_far.read read),
  subst (λ (l : List ℕ). IfSome input (λ all. all ≡ l)) (sym same) (at_end input mid old so_far.read none),
)

pub fails : (input mid input' : Option (List ℕ)) (old new : List ℕ) (fault : Fault) → SoFar input mid old → ReadsPiece mid input' old new (Err fault) → ReadsOneLine input input' new (Err fault)
fails input mid input' old new fault so_far (part, (one, inl read), unread) =
    (old ++ part, (one_both old part so_far.one one, inl (consumes_on input mid input' old part so_far.read read)), unread)
fails input mid input' old new fault so_far (part, (one, inr read), unread) =
    (old ++ part, (one_both old part so_far.one one, inr (subst (Consumes input input') (sym (append_assoc old part (10 ∷ []))) (consumes_on input mid input' old (part ++ 10 ∷ []) so_far.read read))), unread)
