-- Many writes that were all refused at once are told at once.
use Rattle.std.proofs.Common.{◌≡◌, ◌≢◌, ◌∙◌, ◌⊎◌, ℕ, zero, suc, Bool, true, false, cond, if◌then◌else◌, List, [], ◌∷◌, ◌++◌, Option, Some, None, Result, Ok, Err, inl, inr, refl, sym, ap, ap₂, subst, arith}
use Rattle.std.proofs.lemmas.Bool.Decides.{nat_tests}
use Rattle.std.proofs.lemmas.List.{append-nil}
use Rattle.std.specs.BTreeMap.{insert_entry, is_at}
use Rattle.std.specs.List.{slice_get}
use Rattle.std.specs.Map.{remove_entry, set_value}
use Rattle.std.specs.Result.{OnOk}
use Rattle.std.specs.Ordering.{is_eq, match_ordering, nat_cmp}
use Rattle.std.specs.declared.cmp.Ordering.{Ordering}
use Rattle.std.specs.declared.cmp.Ordering.TheVariants.{Less, Equal, Greater}
use Rattle.mvd_conn.specs.Rights.{may}
use Rattle.mvd_conn.specs.declared.right.Right.{Right}
use Rattle.mvd_dots.specs.declared.refusals.Refusal.{Refusal}
use Rattle.mvd_dots.specs.declared.refusals.Refusal.TheVariants.{BadKind, Memory, NotAdmitted}
use Rattle.mvd_host.specs.AtHand.{AtHandValue, asks_of}
use Rattle.mvd_host.proofs.Hosts.{at_is}
use Rattle.mvd_http.specs.declared.fields.Answer.{Answer}
use Rattle.mvd_server.specs.Batches.{HandsBatch, asked_if, asked_in, is_web_request, refusals_of, refused_if}
use Rattle.mvd_server.specs.Errands.{IsBatchFor, KeepsWrites, TellsAllLines, TellsBatch, batch_in, desk}
use Rattle.mvd_server.specs.Lines.{IsOnlyTold, TellsEachLine}
use Rattle.mvd_server.specs.Responding.{RefusesWeb}
use Rattle.mvd_server.specs.Talking.{HandsWrites, IsWriting, KeepsBatch, LacksMemory, MayBeginWrites, Talking, TellsAtOnce, TellsFirst, web_in, with_web}
use Rattle.mvd_server.specs.declared.batch.Batch.{Batch}
use Rattle.mvd_server.proofs.Keyed.{found_at, found_new, set_here}
use Rattle.mvd_web.specs.Inside.{web_of}
use Rattle.mvd_web.specs.Web.{RespondsTo, WebValue}
use Rattle.mvd_web.specs.declared.taken.Asked.{Asked}
use Rattle.mvd_web.specs.declared.web_connection.WebConnection.{WebConnection}
use Rattle.mvd_wire.specs.declared.request.Request.{Request}

-- ---- one comes into a table, and goes

is_here : (n : ℕ) → is_at (nat_cmp n) n ≡ true
is_here n = at_is n n ∙ grind (arith, nat_tests)

module _ {X : Type 0} where
  remove_set : (test : ℕ → Bool) (es : List (ℕ × X)) (w : X) → remove_entry test (set_value test es w) ≡ remove_entry test es
  remove_set test [] w = refl
  remove_set test (e ∷ es) w = on (remove_set test es w) (test e.0) refl
    where
      on : remove_entry test (set_value test es w) ≡ remove_entry test es → (b : Bool) → test e.0 ≡ b → remove_entry test (cond b ((e.0, w) ∷ es) (e ∷ set_value test es w)) ≡ cond b es (e ∷ remove_entry test es)
      on rest true is = ap (λ c. cond c es ((e.0, w) ∷ remove_entry test es)) is
      on rest false is = ap (λ c. cond c (set_value test es w) (e ∷ remove_entry test (set_value test es w))) is ∙ ap (λ l. e ∷ l) rest

  remove_new : (n : ℕ) (w : X) (es : List (ℕ × X)) → found_at n es ≡ None → remove_entry (is_at (nat_cmp n)) (insert_entry nat_cmp es n w) ≡ es
  remove_new n w [] none = ap (λ c. cond c [] ((n, w) ∷ [])) (is_here n)
  remove_new n w (e ∷ es) none = on (remove_new n w es) (nat_cmp n e.0) refl none
    where
      on : (found_at n es ≡ None → remove_entry (is_at (nat_cmp n)) (insert_entry nat_cmp es n w) ≡ es) → (o : Ordering) → nat_cmp n e.0 ≡ o → cond (is_eq o) (Some e.1) (found_at n es) ≡ None
          → remove_entry (is_at (nat_cmp n)) (match_ordering o ((n, w) ∷ e ∷ es) ((e.0, w) ∷ es) (e ∷ insert_entry nat_cmp es n w)) ≡ e ∷ es
      on rest Less is none = ap (λ c. cond c (e ∷ es) ((n, w) ∷ remove_entry (is_at (nat_cmp n)) (e ∷ es))) (is_here n)
      on rest Equal is none = absurd (let no : ◌≡◌ {A = Option X} (Some e.1) None = none in cc)
      on rest Greater is none = ap (λ (o : Ordering). cond (is_eq o) (insert_entry nat_cmp es n w) (e ∷ remove_entry (is_at (nat_cmp n)) (insert_entry nat_cmp es n w))) is ∙ ap (λ l. e ∷ l) (rest none)

-- ---- no write is left to be asked

none_if : (right : Right) (write : Result Request Refusal) → asked_if right write ≡ [] → refused_if right write ≡ None → ⊥
none_if right (Ok request) = on (may right request) (is_web_request request)
  where
    on : (b c : Bool) → (if b then (if c then request ∷ [] else []) else []) ≡ [] → (if b then (if c then None else Some BadKind) else Some NotAdmitted) ≡ None → ⊥
    on true true asked refused = let no : ◌≡◌ {A = List Request} (request ∷ []) [] = asked in absurd cc
    on true false asked refused = let no : ◌≡◌ {A = Option Refusal} (Some BadKind) None = refused in absurd cc
    on false c asked refused = let no : ◌≡◌ {A = Option Refusal} (Some NotAdmitted) None = refused in absurd cc
none_if right (Err refusal) = λ asked refused. let no : ◌≡◌ {A = Option Refusal} (Some refusal) None = refused in absurd cc

both_none : (xs ys : List Request) → xs ++ ys ≡ [] → (xs ≡ []) × (ys ≡ [])
both_none [] ys is = (refl, is)
both_none (x ∷ xs) ys is = let no : ◌≡◌ {A = List Request} (x ∷ (xs ++ ys)) [] = is in absurd cc

none_in : (right : Right) (writes : List (Result Request Refusal)) → asked_in right writes ≡ [] → (i : ℕ) → slice_get (refusals_of right writes) i ≢ Some None
none_in right [] is i at = let no : ◌≡◌ {A = Option (Option Refusal)} None (Some None) = at in absurd cc
none_in right (write ∷ writes) is zero at =
    let same : ◌≡◌ {A = Option (Option Refusal)} (Some (refused_if right write)) (Some None) = at in
    let none : refused_if right write ≡ None = cc in
    none_if right write (both_none (asked_if right write) (asked_in right writes) is).0 none
none_in right (write ∷ writes) is (suc i) at = none_in right writes (both_none (asked_if right write) (asked_in right writes) is).1 i at

none_for : (o : Option Asked) (batch : Batch) → IsBatchFor o batch → batch.requests.items ≡ [] → (i : ℕ) → slice_get batch.refused.items i ≢ Some None
none_for None batch never = absurd never
none_for (Some asked) batch (right, entry, (writes, many, begins)) = λ empty i at.
    none_in right writes (sym begins.requests ∙ empty) i (ap (λ l. slice_get l i) (sym begins.refused) ∙ at)

-- a request waits
pub asks_for : (o : Option Asked) (batch : Batch) → IsBatchFor o batch → o ≢ None
asks_for None batch never = absurd never
asks_for (Some asked) batch mine = λ is. let no : ◌≡◌ {A = Option Asked} (Some asked) None = is in absurd cc

-- it is answered
pub ends_asked : (o : Option Asked) (old : WebValue) (answer : Answer) (body : List ℕ) (new : WebValue) → o ≢ None → RespondsTo o old answer body new → new.asked ≡ None
ends_asked None old answer body new some same = absurd (some refl)
ends_asked (Some asked) old answer body new some (inl is) = ap (λ (w : WebValue). w.asked) is
ends_asked (Some asked) old answer body new some (inr is) = ap (λ (w : WebValue). w.asked) is

-- ---- nothing is asked

same_hand : (n : ℕ) (batch : Batch) (hand : AtHandValue) (batch' : Batch) (hand' : AtHandValue) → batch.requests.items ≡ [] → HandsBatch n batch hand batch' hand' → hand' ≡ hand
same_hand n batch hand batch' hand' empty (inl asks) =
    asks.asks ∙ ap (λ (l : List (ℕ × Request)). record hand { waits = l }) (ap (λ l. hand.waits ++ asks_of n l) empty ∙ append-nil hand.waits)
same_hand n batch hand batch' hand' empty (inr same) = same.1

same_batch : (n : ℕ) (batch : Batch) (hand : AtHandValue) (batch' : Batch) (hand' : AtHandValue) → HandsBatch n batch hand batch' hand' → batch' ≡ record batch { requests = batch'.requests }
same_batch n batch hand batch' hand' (inl asks) = asks.same
same_batch n batch hand batch' hand' (inr same) = same.0 ∙ ap (λ (b : Batch). record batch { requests = b.requests }) (sym same.0)

-- ---- the first lines are told

pub tells_first : (n : ℕ) (now web' : WebConnection) (writes batch' : Batch) (old : Talking) (batches : List (ℕ × Batch)) (entries : List (ℕ × WebConnection)) → web_in old n ≡ Some now → batch_in old.batches n ≡ Some writes
    → TellsBatch n (web_of now) writes old.hand (web_of web') batch' old.hand → KeepsWrites n batch' (desk old.hand (web_of now) old.batches) (desk old.hand (web_of web') batches) → entries ≡ set_value (is_at (nat_cmp n)) old.webs web'
    → (web : WebConnection) (batch : Batch) → web_in old n ≡ Some web → batch_in old.batches n ≡ Some batch → TellsFirst n web batch old (record old { webs = entries; batches = batches })
tells_first n now web' writes batch' old batches entries at own tells keeps is web batch has mine =
    let new : Talking = record old { webs = entries; batches = batches } in
    let here : ◌≡◌ {A = Option WebConnection} (Some now) (Some web) = sym at ∙ has in
    let held : ◌≡◌ {A = Option Batch} (Some writes) (Some batch) = sym own ∙ mine in
    let one : now ≡ web = cc in
    let same : writes ≡ batch = cc in
    subst (λ (w : WebConnection). TellsFirst n w batch old new) one
    (subst (λ (b : Batch). TellsFirst n now b old new) same (web', batch', tells, keeps, ap (λ e. record old { webs = e; batches = batches }) is))

pub hands_writes : (n : ℕ) (writes batch' : Batch) (old : Talking) (hand : AtHandValue) (entries : List (ℕ × Batch)) → batch_in old.batches n ≡ Some writes → HandsBatch n writes old.hand batch' hand → entries ≡ set_value (is_at (nat_cmp n)) old.batches batch'
    → (batch : Batch) → batch_in old.batches n ≡ Some batch → HandsWrites n batch old (record old { hand = hand; batches = entries })
hands_writes n writes batch' old hand entries own hands is batch mine =
    let new : Talking = record old { hand = hand; batches = entries } in
    let held : ◌≡◌ {A = Option Batch} (Some writes) (Some batch) = sym own ∙ mine in
    let same : writes ≡ batch = cc in
    subst (λ (b : Batch). HandsWrites n b old new) same (batch', (own, hands, ap (λ e. record old { hand = hand; batches = e }) is))

-- ---- all of them

module _ (n : ℕ) (batch mid_batch batch' : Batch) (web web' : WebConnection) (old handed new : Talking) where
  all_told : IsBatchFor (web_of web).asked batch → batch.requests.items ≡ [] → web_in old n ≡ Some web → batch_in old.batches n ≡ None
      → handed ≡ record old { hand = handed.hand; batches = set_value (is_at (nat_cmp n)) (insert_entry nat_cmp old.batches n batch) mid_batch } → handed.hand ≡ old.hand → mid_batch ≡ record batch { requests = mid_batch.requests }
      → (told : Result Bool Refusal) → IsOnlyTold mid_batch batch' → (told ≡ Ok true → TellsEachLine n mid_batch handed.hand batch' handed.hand) → TellsAllLines told (web_of web) batch' (web_of web')
      → KeepsWrites n batch' (desk handed.hand (web_of web) handed.batches) (desk handed.hand (web_of web') new.batches) → new ≡ record (with_web handed n web') { batches = new.batches } → TellsAtOnce n batch old new
  all_told mine empty has none from hand is_batch told only each lines keeps is = λ e. on told refl lines
    where
      whole : new ≡ record old { hand = handed.hand; webs = set_value (is_at (nat_cmp n)) old.webs web'; batches = new.batches }
      whole = is ∙ ap (λ (t : Talking). record (with_web t n web') { batches = new.batches }) from

      webs : new.webs ≡ (with_web old n web').webs
      webs = ap (λ (t : Talking). t.webs) whole

      kept : handed.batches ≡ set_value (is_at (nat_cmp n)) (insert_entry nat_cmp old.batches n batch) mid_batch
      kept = ap (λ (t : Talking). t.batches) from

      on : (t : Result Bool Refusal) → told ≡ t → TellsAllLines t (web_of web) batch' (web_of web')
          → (w : WebConnection) × (w' : WebConnection) × (web_in old n ≡ Some w) × (new.webs ≡ (with_web old n w').webs)
          × (((b : Batch) × IsOnlyTold (record batch { requests = b.requests }) b × TellsEachLine n batch old.hand b old.hand × TellsAllLines (Ok true) (web_of w) b (web_of w') × (new ≡ with_web old n w'))
          ⊎ RefusesWeb Memory (web_of w) (web_of w'))
      on (Ok true) so lines =
          let ended : (web_of web').asked ≡ None = ends_asked (web_of web).asked (web_of web) _ _ (web_of web') (asks_for (web_of web).asked batch mine) lines.1 in
          let gone : new.batches ≡ old.batches = elim keeps [
            | inl (asked, kept_on) ↦ absurd (asks_for (web_of web).asked batch mine (sym asked ∙ ended))
            | inr (asked, removed) ↦ removed ∙ ap (λ l. remove_entry (is_at (nat_cmp n)) (set_value (is_at (nat_cmp n)) l batch')) kept
                ∙ remove_set (is_at (nat_cmp n)) (set_value (is_at (nat_cmp n)) (insert_entry nat_cmp old.batches n batch) mid_batch) batch'
                ∙ remove_set (is_at (nat_cmp n)) (insert_entry nat_cmp old.batches n batch) mid_batch ∙ remove_new n batch old.batches none
          ] in
          let requests : batch'.requests ≡ mid_batch.requests = ap (λ (b : Batch). b.requests) only in
          let only_so : IsOnlyTold (record batch { requests = batch'.requests }) batch' =
          only ∙ ap (λ (b : Batch). record b { told = batch'.told; lines = batch'.lines }) is_batch ∙ ap (λ r. record batch { requests = r; told = batch'.told; lines = batch'.lines }) (sym requests) in
          let each_so : TellsEachLine n batch old.hand batch' old.hand =
          subst (λ (h : AtHandValue). TellsEachLine n batch h batch' h) hand (subst (λ (b : Batch). TellsEachLine n b handed.hand batch' handed.hand) is_batch (each so)) in
          let same : new ≡ with_web old n web' = whole ∙ ap₂ (λ h l. record old { hand = h; webs = set_value (is_at (nat_cmp n)) old.webs web'; batches = l }) hand gone in
          (web, web', has, webs, inl (batch', only_so, each_so, lines, same))
      on (Ok false) so lines =
          let refused : batch'.refused.items ≡ batch.refused.items = ap (λ (b : Batch). b.refused.items) (only ∙ ap (λ (b : Batch). record b { told = batch'.told; lines = batch'.lines }) is_batch) in
          absurd (none_for (web_of web).asked batch mine empty batch'.told (ap (λ l. slice_get l batch'.told) (sym refused) ∙ lines.0))
      on (Err refusal) so lines = (web, web', has, webs, inr (inr (refusal, lines)))

-- the client has a connection
pub some_web : (o : Option WebConnection) (batch : Batch) → IsWriting o batch → (web : WebConnection) × (o ≡ Some web) × IsBatchFor (web_of web).asked batch
some_web None batch never = absurd never
some_web (Some web) batch mine = (web, refl, mine)

pub told_at_once : (n : ℕ) (batch : Batch) (old mid handed new : Talking) → MayBeginWrites n batch old → KeepsBatch n batch old mid → ((b : Batch) → batch_in mid.batches n ≡ Some b → HandsWrites n b mid handed)
    → ((web : WebConnection) (b : Batch) → web_in handed n ≡ Some web → batch_in handed.batches n ≡ Some b → TellsFirst n web b handed new) → TellsAtOnce n batch old new
told_at_once n batch old mid handed new may keeps hands tells = λ empty.
    let some = some_web (web_in old n) batch may.0 in
    let web : WebConnection = some.0 in
    let at : batch_in mid.batches n ≡ Some batch = ap (λ (t : Talking). batch_in t.batches n) keeps ∙ found_new n batch old.batches in
    let handing = hands batch at in
    let mid_batch : Batch = handing.0 in
    let is_handed : handed ≡ record mid { hand = handed.hand; batches = set_value (is_at (nat_cmp n)) mid.batches mid_batch } = handing.1.2 in
    let from : handed ≡ record old { hand = handed.hand; batches = set_value (is_at (nat_cmp n)) (insert_entry nat_cmp old.batches n batch) mid_batch } =
    is_handed ∙ ap (λ (t : Talking). record t { hand = handed.hand; batches = set_value (is_at (nat_cmp n)) t.batches mid_batch }) keeps in
    let hand : handed.hand ≡ old.hand = same_hand n batch mid.hand mid_batch handed.hand empty handing.1.1 ∙ ap (λ (t : Talking). t.hand) keeps in
    let has : web_in handed n ≡ Some web = ap (λ (t : Talking). web_in t n) from ∙ some.1 in
    let own : batch_in handed.batches n ≡ Some mid_batch = ap (λ (t : Talking). batch_in t.batches n) is_handed ∙ set_here n mid.batches mid_batch batch at in
    let told = tells web mid_batch has own in
    let lines = told.2 in
    all_told n batch mid_batch told.1 web told.0 old handed new some.2 empty some.1 may.1 from hand (same_batch n batch mid.hand mid_batch handed.hand handing.1.1)
    lines.1.2.0 lines.0 (λ so. subst (λ (r : Result Bool Refusal). OnOk r (TellsEachLine n mid_batch handed.hand told.1 handed.hand)) so lines.1.2.1) lines.1.2.3 told.3 told.4 empty

-- or there is no memory for them
pub lacks_at_once : (n : ℕ) (batch : Batch) (old new : Talking) → MayBeginWrites n batch old → LacksMemory n old new → TellsAtOnce n batch old new
lacks_at_once n batch old new may (inl (none, same)) = absurd (subst (λ (o : Option WebConnection). IsWriting o batch) none may.0)
lacks_at_once n batch old new may (inr (web, web', has, refuses, is)) = λ empty. (web, web', has, ap (λ (t : Talking). t.webs) is, inr refuses)
