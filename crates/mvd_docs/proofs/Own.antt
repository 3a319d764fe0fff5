-- What the text of a document says of the value that it reads as.
use Rattle.std.proofs.Common.{◌≡◌, ℕ, ◌≤◌, List, length, Bool, true, false, cond, not, is_some, ltb, ltb-false, Option, Some, None, Ok, Err, refl, sym, ap, ◌∙◌, subst}
use Rattle.serde_json.specs.Data.{Data}
use Rattle.serde_json.specs.Find.{as_object}
use Rattle.serde_json.specs.Read.{read}
use Rattle.serde_json.specs.Written.{compact_text}
use Rattle.mvd_dots.specs.declared.refusals.Refusal.TheVariants.{NotObject, BadNumber, DocumentTooLong}
use Rattle.mvd_docs.specs.Document.{ReadsBack, document_of, document_of_data, document_of_read}
use Rattle.mvd_docs.specs.Numbers.{has_whole_numbers}

-- the text is the compact text of the value, and short
record IsOwn (text : List ℕ) (d : Data) : Type 0 where
  same : compact_text d ≡ text
  short : length text ≤ 65536

own_of : (object whole long : Bool) (d : Data) (text : List ℕ) → ltb 65536 (length (compact_text d)) ≡ long →
    cond (not object) (Err NotObject) (cond (not whole) (Err BadNumber) (cond long (Err DocumentTooLong) (Ok (compact_text d)))) ≡ Ok text → IsOwn text d
own_of false whole long d text few e = absurd cc
own_of true false long d text few e = absurd cc
own_of true true true d text few e = absurd cc
own_of true true false d text few e =
    let same : compact_text d ≡ text = cc in
    record { same = same; short = subst (λ t. length t ≤ 65536) same (ltb-false 65536 (length (compact_text d)) few) }

own : (text : List ℕ) (d : Data) → document_of_data d ≡ Ok text → IsOwn text d
own text d e = own_of (is_some (as_object d)) (has_whole_numbers d) (ltb 65536 (length (compact_text d))) d text refl e

-- a document reads as a value, whose compact text it is
record Reads (text : List ℕ) : Type 0 where
  value : Data
  reads : read text ≡ Some value
  is : IsOwn text value

reads_of : (text : List ℕ) (found : Option Data) → read text ≡ found → document_of_read found ≡ Ok text → Reads text
reads_of text None e h = absurd cc
reads_of text (Some d) e h = record { value = d; reads = e; is = own text d h }

reads : (text : List ℕ) → document_of text ≡ Ok text → Reads text
unfolding document_of
reads text is = reads_of text (read text) refl is

-- a document is read again
pub own_text : (text : List ℕ) (d : Data) → document_of text ≡ Ok text → Some d ≡ read text → compact_text d ≡ text
own_text text d is e =
    let r = reads text is in
    let same : d ≡ r.value = cc in
    ap compact_text same ∙ r.is.same

pub own_reads_back : (text : List ℕ) (d : Data) → document_of text ≡ Ok text → Some d ≡ read text → ReadsBack d
own_reads_back text d is e = record { reads_back = ap read (own_text text d is e) ∙ sym e }

pub never_unread : (text : List ℕ) → document_of text ≡ Ok text → None ≡ read text → ⊥
never_unread text is e = let r = reads text is in cc

-- the text of a value that is a document is one
pub is_its_own : (text written : List ℕ) (d : Data) → text ≡ written → read written ≡ Some d → document_of_data d ≡ Ok written → document_of text ≡ Ok text
unfolding document_of
is_its_own text written d same e h = rw same (ap document_of_read e ∙ h)
