-- Every behaviour of the store keeps the promise.
use Rattle.std.proofs.Common.{◌≡◌, ◌≢◌, ℕ, Bool, true, false, not, ◌||◌, cond, zero, suc, List, [], ◌∷◌, ◌++◌, Contains, Option, Some, None, refl, sym, ap, ◌∙◌, subst, inl, inr, ⊎_elim, append-nil}
use Rattle.std.specs.List.{slice_get}
use Rattle.std.specs.FinMap.{get, get-insert, retain_keys}
use Rattle.std.specs.FinSet.{contains, union}
use Rattle.std.specs.Ordering.{is_eq}
use Rattle.std.specs.Cmp.{tied_itself}
use Rattle.std.proofs.lemmas.Bool.Decides.{eqb_tells}
use Rattle.std.proofs.lemmas.List.{append_assoc}
use Rattle.std.proofs.lemmas.List.Elements.{Contains-append_left, Contains-append_right}
use Rattle.mvd_dots.specs.Dot.{DotValue}
use Rattle.mvd_dots.specs.Context.{DotSet}
use Rattle.mvd_dots.proofs.Sets.{dot_total}
use Rattle.mvd_dots.specs.declared.refusals.Refusal.{Refusal}
use Rattle.mvd_dots.specs.declared.refusals.Refusal.TheVariants.{Broken, Memory, Store}
use Rattle.mvd_keys.specs.Minting.{mint}
use Rattle.mvd_keys.specs.State.{State, Text, after_put}
use Rattle.mvd_keys.specs.Writes.{Key, Write, Wrote, context, covered, siblings, state}
use Rattle.mvd_keys.proofs.Growing.{stays}
use Rattle.mvd_keys.proofs.Minted.{minted_next, minted_unwritten}
use Rattle.mvd_keys.proofs.Parts.{minted_not_seen, minted_unseen}
use Rattle.mvd_keys.proofs.Sets.{Contains-head, none_empty}
use Rattle.mvd_keys.proofs.StatesOfWrites.{contains-covered-append, state-put}
use Rattle.mvd_wire.specs.declared.request.Request.{Request}
use Rattle.mvd_wire.specs.declared.request.Request.TheVariants.{Delete, Push, Put}
use Rattle.mvd_wire.specs.declared.reply.Reply.{Reply}
use Rattle.mvd_wire.specs.declared.reply.Reply.TheVariants.{Refused, Written}
use Rattle.mvd_kept.specs.Answer.{States, answer, put_from, states_of}
use Rattle.mvd_kept.specs.Config.{ConfigValue}
use Rattle.mvd_kept.specs.Known.{Adds}
use Rattle.mvd_kept.proofs.Answered.{limited_cases}
use Rattle.mvd_kept.proofs.OfTheSet.{of_the_set}
use Rattle.mvd_kept.proofs.Steps.{state_known}
use Rattle.mvd_model.proofs.Alike.{spoken}
use Rattle.mvd_model.specs.TheStore.{Breaks, Broke, Event, Happen, Knows, Next, Opened, Promise, Refuses, Site, Told, config, put_told}

-- ---- what is known stays known

-- each site knows what it knew, and maybe more
abbrev pub Grows : Knows → Knows → Type 0
Grows a b = (j : ℕ) → (more : List Write) × ((b j).known ≡ (a j).known ++ more)

grows_self : (a b : Knows) → b ≡ a → Grows a b
grows_self a b is j = ([], ap (λ (k : Knows). (k j).known) is ∙ sym (append-nil (a j).known))

grows_on : (a b c : Knows) → Grows a b → Grows b c → Grows a c
grows_on a b c p q j =
    let m = p j in
    let n = q j in
    (m.0 ++ n.0, n.1 ∙ ap (λ W. W ++ n.0) m.1 ∙ append_assoc (a j).known m.0 n.0)

site_grows : (a b : Knows) (i : ℕ) → (more : List Write) × ((b i).known ≡ (a i).known ++ more) → ((j : ℕ) → j ≢ i → b j ≡ a j) → Grows a b
site_grows a b i here others j = ⊎_elim
    (λ same. subst (λ n. (more : List Write) × ((b n).known ≡ (a n).known ++ more)) (sym same.1) here)
    (λ other. ([], ap (λ (s : Site). s.known) (others j other.1) ∙ sym (append-nil (a j).known)))
    (eqb_tells j i)

pub refuses_same : (c : ConfigValue) (s : Site) (request : Request) (reply : Reply) (t : Site) → Refuses c s request reply t → t.known ≡ s.known
refuses_same c s request (Refused Memory) t h = ap (λ (x : Site). x.known) h
refuses_same c s request (Refused Store) t h = ap (λ (x : Site). x.known) h.2
refuses_same c s request (Refused Broken) t h = ap (λ (x : Site). x.known) h.1
refuses_same c s request reply t h = absurd h

pub breaks_same : (c : ConfigValue) (s : Site) (requests : List Request) (t : Site) → Breaks c s requests t → t.known ≡ s.known
breaks_same c s [] t h = absurd h
breaks_same c s (request ∷ behind) t h = ap (λ (x : Site). x.known) h.2

pub next_grows : (a : Knows) (event : Event) (b : Knows) → Next a event b → Grows a b
next_grows a (Told i request reply) b next = site_grows a b i
    (⊎_elim
    (λ h. (h.2, ap (λ (x : Site). x.known) h.4))
    (λ h. ([], refuses_same (config i (a i).setup) (a i) request reply (b i) h ∙ sym (append-nil (a i).known)))
    next.0) next.1
next_grows a (Broke i requests) b next = site_grows a b i ([], breaks_same (config i (a i).setup) (a i) requests (b i) next.0 ∙ sym (append-nil (a i).known)) next.1
next_grows a (Opened i setup some) b next = site_grows a b i (next.0.1, ap (λ (x : Site). x.known) next.0.3) next.1

pub happen_grows : (a : Knows) (events : List Event) (end : Knows) → Happen a events end → Grows a end
happen_grows a [] end is = grows_self a end is
happen_grows a (event ∷ events) end (b, next, rest) = grows_on a b end (next_grows a event b next) (happen_grows b events end rest)

known_grows : (a b : Knows) (i : ℕ) (w : Write) → Grows a b → Contains (a i).known w → Contains (b i).known w
known_grows a b i w grows here = subst (λ W. Contains W w) (sym (grows i).1) (Contains-append_left (a i).known (grows i).0 w here)

-- ---- a put that was told its dot

record Puts (a b : Knows) (i : ℕ) (key : Key) (seen : DotSet) (document : Text) (dot : DotValue) : Type 0 where
  minted : mint i (union (context key (a i).known) seen) ≡ Some dot
  known : (b i).known ≡ (a i).known ++ Wrote key dot seen document ∷ []

written_from : (c : ConfigValue) (m : States) (key : Key) (seen : DotSet) (document : Text) (dot : DotValue) (minted : Option DotValue) → Written dot ≡ put_from c m key seen document minted → minted ≡ Some dot
written_from c m key seen document dot None e = cc
written_from c m key seen document dot (Some d) e =
    limited_cases (λ r. Written dot ≡ r → ◌≡◌ {A = Option DotValue} (Some d) (Some dot)) c _ _ _ (Written d) (λ e. cc) (λ e. cc) (λ e. let one : dot ≡ d = cc in ap Some (sym one)) e

pub answer_written : (c : ConfigValue) (known : List Write) (key : Key) (seen : DotSet) (document : Text) (dot : DotValue) → Written dot ≡ answer c known (Put key seen document) → mint c.site (union (context key known) seen) ≡ Some dot
answer_written c known key seen document dot told =
    ap (λ (s : State). mint c.site (union s.context seen)) (sym (state_known known key)) ∙ written_from c (states_of known) key seen document dot _ told

puts : (a b : Knows) (i : ℕ) (key : Key) (seen : DotSet) (document : Text) (dot : DotValue) → Next a (put_told i key seen document dot) b → Puts a b i key seen document dot
puts a b i key seen document dot next = ⊎_elim
    (λ h. record {
      minted = answer_written (config i (a i).setup) (a i).known key seen document dot h.1;
      known = ap (λ (x : Site). x.known) h.4 ∙ ap (λ W. (a i).known ++ W) h.3;
    })
    (λ h. absurd h)
    next.0

first_is : (event told : Event) → Some event ≡ Some told → event ≡ told
first_is event told e = cc

puts_at : (a b : Knows) (event : Event) (i : ℕ) (key : Key) (seen : DotSet) (document : Text) (dot : DotValue) → Some event ≡ Some (put_told i key seen document dot) → Next a event b → Puts a b i key seen document dot
puts_at a b event i key seen document dot is next = puts a b i key seen document dot (subst (λ e. Next a e b) (first_is event (put_told i key seen document dot) is) next)

own_dot : (a b : Knows) (i : ℕ) (key : Key) (seen : DotSet) (document : Text) (dot : DotValue) → Puts a b i key seen document dot → dot.site ≡ i
own_dot a b i key seen document dot p = (minted_next i (union (context key (a i).known) seen) dot p.minted).own

known_now : (a b : Knows) (i : ℕ) (key : Key) (seen : DotSet) (document : Text) (dot : DotValue) → Puts a b i key seen document dot → Contains (b i).known (Wrote key dot seen document)
known_now a b i key seen document dot p = subst (λ W. Contains W (Wrote key dot seen document)) (sym p.known) (Contains-append_right (a i).known (Wrote key dot seen document ∷ []) (Wrote key dot seen document) (Contains-head (Wrote key dot seen document) []))

-- ---- no two puts of a key are told one dot

-- a dot that its site knows is told to no put of the key later
never_again : (a : Knows) (events : List Event) (end : Knows) (n i j : ℕ) (key : Key) (seen also_seen : DotSet) (document other : Text) (dot : DotValue) → Happen a events end →
    slice_get events n ≡ Some (put_told j key seen document dot) → dot.site ≡ i → Contains (a i).known (Wrote key dot also_seen other) → ⊥
never_again a [] end n i j key seen also_seen document other dot happen at mine known = cc
never_again a (event ∷ events) end zero i j key seen also_seen document other dot (b, next, rest) at mine known =
    let p = puts_at a b event j key seen document dot at next in
    minted_unwritten key (a j).known j seen also_seen dot other p.minted
    (subst (λ n. Contains (a n).known (Wrote key dot also_seen other)) (sym mine ∙ own_dot a b j key seen document dot p) known)
never_again a (event ∷ events) end (suc n) i j key seen also_seen document other dot (b, next, rest) at mine known =
    never_again b events end n i j key seen also_seen document other dot rest at mine (known_grows a b i _ (next_grows a event b next) known)

pub own_dots : (a : Knows) (events : List Event) (end : Knows) → Happen a events end → (m n i j : ℕ) (key : Key) (seen also_seen : DotSet) (document other : Text) (dot other_dot : DotValue) → m ≢ n →
    slice_get events m ≡ Some (put_told i key seen document dot) → slice_get events n ≡ Some (put_told j key also_seen other other_dot) → dot ≢ other_dot
own_dots a [] end happen m n i j key seen also_seen document other dot other_dot apart first second same = cc
own_dots a (event ∷ events) end happen zero zero i j key seen also_seen document other dot other_dot apart first second same = absurd (apart refl)
own_dots a (event ∷ events) end (b, next, rest) zero (suc n) i j key seen also_seen document other dot other_dot apart first second same =
    let p = puts_at a b event i key seen document dot first next in
    never_again b events end n i j key also_seen seen other document other_dot rest second
    (ap (λ (d : DotValue). d.site) (sym same) ∙ own_dot a b i key seen document dot p)
    (subst (λ d. Contains (b i).known (Wrote key d seen document)) same (known_now a b i key seen document dot p))
own_dots a (event ∷ events) end (b, next, rest) (suc m) zero i j key seen also_seen document other dot other_dot apart first second same =
    let p = puts_at a b event j key also_seen other other_dot second next in
    never_again b events end m j i key seen also_seen document other dot rest first
    (ap (λ (d : DotValue). d.site) same ∙ own_dot a b j key also_seen other other_dot p)
    (subst (λ d. Contains (b j).known (Wrote key d also_seen other)) (sym same) (known_now a b j key also_seen other other_dot p))
own_dots a (event ∷ events) end (b, next, rest) (suc m) (suc n) i j key seen also_seen document other dot other_dot apart first second same =
    own_dots b events end rest m n i j key seen also_seen document other dot other_dot (λ e. apart (ap suc e)) first second same

-- ---- no edit is lost

or_right : (a b : Bool) → (a || b) ≡ false → b ≡ false
or_right true b h = cc
or_right false b h = h

shown : (s : State) (dot : DotValue) (seen : DotSet) (document : Text) → get (after_put s dot seen document).siblings dot ≡ Some document
unfolding after_put
shown s dot seen document =
    get-insert dot_total (retain_keys s.siblings (λ d. not (contains seen d))) dot document dot
    ∙ ap (λ t. cond t (Some document) (get (retain_keys s.siblings (λ d. not (contains seen d))) dot)) (ap is_eq (tied_itself dot_total dot))

put_shown : (key : Key) (W : List Write) (i : ℕ) (dot : DotValue) (seen : DotSet) (document : Text) → mint i (union (context key W) seen) ≡ Some dot → get (siblings key (W ++ Wrote key dot seen document ∷ [])) dot ≡ Some document
put_shown key W i dot seen document minted =
    ap (λ (s : State). get s.siblings dot)
    (state-put key W dot seen document (minted_unseen (context key W) seen i dot (sym minted)) (minted_not_seen (context key W) seen i dot (sym minted)))
    ∙ shown (state key W) dot seen document

abbrev Stays : Knows → ℕ → Key → DotSet → Text → DotValue → Type 0
Stays end i key seen document dot = contains (covered key (end i).known) dot ≡ false → get (siblings key (end i).known) dot ≡ Some document

put_stays : (a b : Knows) (events : List Event) (end : Knows) (i : ℕ) (key : Key) (seen : DotSet) (document : Text) (dot : DotValue) → Puts a b i key seen document dot → Happen b events end → Stays end i key seen document dot
put_stays a b events end i key seen document dot p rest apart =
    let W : List Write = (a i).known ++ Wrote key dot seen document ∷ [] in
    let grows = happen_grows b events end rest i in
    let is : (end i).known ≡ W ++ grows.0 = grows.1 ∙ ap (λ V. V ++ grows.0) p.known in
    ap (λ V. get (siblings key V) dot) is
    ∙ stays key W grows.0 dot document (put_shown key (a i).known i dot seen document p.minted)
    (or_right (contains (covered key W) dot) (contains (covered key grows.0) dot) (sym (contains-covered-append key W grows.0 dot) ∙ ap (λ V. contains (covered key V) dot) (sym is) ∙ apart))

pub shown_puts : (a : Knows) (events : List Event) (end : Knows) → Happen a events end → (n i : ℕ) (key : Key) (seen : DotSet) (document : Text) (dot : DotValue) → slice_get events n ≡ Some (put_told i key seen document dot) → Stays end i key seen document dot
shown_puts a [] end happen n i key seen document dot at = cc
shown_puts a (event ∷ events) end (b, next, rest) zero i key seen document dot at = put_stays a b events end i key seen document dot (puts_at a b event i key seen document dot at next) rest
shown_puts a (event ∷ events) end (b, next, rest) (suc n) i key seen document dot at = shown_puts b events end rest n i key seen document dot at

-- ---- what is told as done is kept

abbrev Keeps : Knows → ℕ → Request → Reply → Type 0
Keeps end i request reply = (added : List Write) × Adds request reply added × ((w : Write) → Contains added w → Contains (end i).known w)

adds_refused : (request : Request) (refusal : Refusal) → Adds request (Refused refusal) []
adds_refused (Put key seen document) refusal = refl
adds_refused (Delete key seen) refusal = refl
adds_refused (Push key pushed) refusal = refl
adds_refused request refusal = refl

refuses_none : (c : ConfigValue) (s : Site) (request : Request) (reply : Reply) (t : Site) → Refuses c s request reply t → Adds request reply []
refuses_none c s request (Refused Memory) t h = adds_refused request Memory
refuses_none c s request (Refused Store) t h = adds_refused request Store
refuses_none c s request (Refused Broken) t h = adds_refused request Broken
refuses_none c s request reply t h = absurd h

keeps_next : (a b : Knows) (i : ℕ) (request : Request) (reply : Reply) → Next a (Told i request reply) b → Keeps b i request reply
keeps_next a b i request reply (inl told, others) =
    (told.2, told.3, λ w here. subst (λ W. Contains W w) (sym (ap (λ (s : Site). s.known) told.4)) (Contains-append_right (a i).known told.2 w here))
keeps_next a b i request reply (inr refused, others) = ([], refuses_none (config i (a i).setup) (a i) request reply (b i) refused, λ w here. absurd (none_empty w here))

keeps_at : (a b : Knows) (event : Event) (i : ℕ) (request : Request) (reply : Reply) → Some event ≡ Some (Told i request reply) → Next a event b → Keeps b i request reply
keeps_at a b event i request reply is next = keeps_next a b i request reply (subst (λ e. Next a e b) (first_is event (Told i request reply) is) next)

pub all_kept : (a : Knows) (events : List Event) (end : Knows) → Happen a events end → (n i : ℕ) (request : Request) (reply : Reply) → slice_get events n ≡ Some (Told i request reply) → Keeps end i request reply
all_kept a [] end happen n i request reply at = cc
all_kept a (event ∷ events) end (b, next, rest) zero i request reply at =
    let it = keeps_at a b event i request reply at next in
    (it.0, it.1, λ w here. known_grows b end i w (happen_grows b events end rest) (it.2 w here))
all_kept a (event ∷ events) end (b, next, rest) (suc n) i request reply at = all_kept b events end rest n i request reply at

-- ---- all together

pub promised : (a : Knows) (events : List Event) (end : Knows) → Happen a events end → Promise events end
promised a events end happen = record {
  dots = own_dots a events end happen;
  kept = all_kept a events end happen;
  shown = shown_puts a events end happen;
  alike = λ i j request same agree alike.
      of_the_set (config i (end i).setup) (end i).known (end j).known request same agree
      ∙ spoken (config i (end i).setup) (config j (end j).setup) (end j).known request alike;
}
