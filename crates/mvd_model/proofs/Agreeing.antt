-- What is known agrees, where nobody makes up what he pushes.
use Rattle.std.proofs.Common.{◌≡◌, ◌≢◌, ◌⊎◌, ℕ, ◌==◌, true, false, if◌then◌else◌, List, [], ◌∷◌, ◌++◌, Contains, Some, refl, sym, ap, ◌∙◌, subst, inl, inr, ⊎_elim, append-nil, append_assoc, eq-eqb}
use Rattle.std.specs.FinSet.{union}
use Rattle.std.proofs.lemmas.Bool.Decides.{eqb_tells}
use Rattle.std.proofs.lemmas.List.Elements.{Contains-append_cases, Contains-append_left, Contains-append_right}
use Rattle.mvd_dots.specs.Dot.{DotValue}
use Rattle.mvd_dots.specs.Context.{DotSet}
use Rattle.mvd_keys.specs.Minting.{mint}
use Rattle.mvd_keys.specs.State.{Text}
use Rattle.mvd_keys.specs.Writes.{Key, Deleted, Write, Wrote, context}
use Rattle.mvd_keys.proofs.Minted.{minted_next, minted_unwritten}
use Rattle.mvd_keys.proofs.Sets.{Contains-either, none_empty}
use Rattle.mvd_wire.specs.declared.request.Request.{Request}
use Rattle.mvd_wire.specs.declared.request.Request.TheVariants.{Put, Delete, Push}
use Rattle.mvd_wire.specs.declared.reply.Reply.{Reply}
use Rattle.mvd_wire.specs.declared.reply.Reply.TheVariants.{Done, Written}
use Rattle.mvd_kept.specs.Answer.{answer}
use Rattle.mvd_kept.specs.Known.{Adds}
use Rattle.mvd_model.specs.TheStore.{AddAll, Broke, Event, Happen, Knows, Next, Opened, Setup, Site, Told, config}
use Rattle.mvd_model.specs.Handed.{AllBring, AreHanded, AreSound, Brings, IsHanded, knows, nothing_known}
use Rattle.mvd_model.proofs.Runs.{answer_written, breaks_same, refuses_same}

-- ---- what is known with more

abbrev learns : (ℕ → List Write) → ℕ → List Write → ℕ → List Write
learns known i more j = if j == i then known j ++ more else known j

learned : (known : ℕ → List Write) (i : ℕ) (more : List Write) (j : ℕ) (w : Write) → Contains (learns known i more j) w → Contains (known j) w ⊎ Contains more w
learned known i more j w = elim (j == i) as (λ b. Contains (if b then known j ++ more else known j) w → Contains (known j) w ⊎ Contains more w) [
  | true ↦ Contains-append_cases (known j) more w
  | false ↦ λ here. inl here
]

kept : (known : ℕ → List Write) (i : ℕ) (more : List Write) (j : ℕ) (w : Write) → Contains (known j) w → Contains (learns known i more j) w
kept known i more j w here = elim (j == i) as (λ b. Contains (if b then known j ++ more else known j) w) [ true ↦ Contains-append_left (known j) more w here | false ↦ here ]

own_learned : (known : ℕ → List Write) (i : ℕ) (more : List Write) (j : ℕ) (w : Write) → j ≡ i → Contains more w → Contains (learns known i more j) w
own_learned known i more j w same here = subst (λ b. Contains (if b then known j ++ more else known j) w) (sym (eq-eqb j i same)) (Contains-append_right (known j) more w here)

here_is : (known : ℕ → List Write) (i : ℕ) (more : List Write) → learns known i more i ≡ known i ++ more
here_is known i more = ap (λ b. if b then known i ++ more else known i) (eq-eqb i i refl)

-- a put that some site knew, or a new one of this site
abbrev IsOld : (ℕ → List Write) → Write → Type 0
IsOld known w = (j : ℕ) × Contains (known j) w

pub record IsNew (known : ℕ → List Write) (i : ℕ) (added : List Write) (key : Key) (dot : DotValue) (document : Text) : Type 0 where
  own : dot.site ≡ i
  fresh : (seen : DotSet) (other : Text) → Contains (known i) (Wrote key dot seen other) → ⊥
  alone : (seen : DotSet) (other : Text) → Contains added (Wrote key dot seen other) → document ≡ other

abbrev AreAdded : (ℕ → List Write) → ℕ → List Write → Type 0
AreAdded known i added = (key : Key) (dot : DotValue) (seen : DotSet) (document : Text) → Contains added (Wrote key dot seen document) → IsOld known (Wrote key dot seen document) ⊎ IsNew known i added key dot document

module _ (known : ℕ → List Write) (i : ℕ) (added : List Write) (sound : AreSound known) (new : AreAdded known i added) where
  not_both : (key : Key) (dot : DotValue) (seen : DotSet) (document other : Text) → IsNew known i added key dot document → IsOld known (Wrote key dot seen other) → ⊥
  not_both key dot seen document other it (j, here) = it.fresh seen other (subst (λ n. Contains (known n) (Wrote key dot seen other)) it.own (sound.own j key dot seen other here))

  sort : (j : ℕ) (key : Key) (dot : DotValue) (seen : DotSet) (document : Text) → Contains (learns known i added j) (Wrote key dot seen document) →
      IsOld known (Wrote key dot seen document) ⊎ (Contains added (Wrote key dot seen document) × IsNew known i added key dot document)
  sort j key dot seen document here = ⊎_elim (λ old. inl (j, old)) (λ more. ⊎_elim (λ old. inl old) (λ is. inr (more, is)) (new key dot seen document more)) (learned known i added j _ here)

  one_sorted : (key : Key) (dot : DotValue) (seen also_seen : DotSet) (document other : Text) →
      IsOld known (Wrote key dot seen document) ⊎ (Contains added (Wrote key dot seen document) × IsNew known i added key dot document) →
      IsOld known (Wrote key dot also_seen other) ⊎ (Contains added (Wrote key dot also_seen other) × IsNew known i added key dot other) → document ≡ other
  one_sorted key dot seen also_seen document other (inl (j, here)) (inl (k, there)) = sound.one j k key dot seen also_seen document other here there
  one_sorted key dot seen also_seen document other (inl old) (inr (more, is)) = absurd (not_both key dot seen other document is old)
  one_sorted key dot seen also_seen document other (inr (more, is)) (inl old) = absurd (not_both key dot also_seen document other is old)
  one_sorted key dot seen also_seen document other (inr (more, is)) (inr (too, it)) = is.alone also_seen other too

  sound_learns : AreSound (learns known i added)
  sound_learns = record {
    one = λ j k key dot seen also_seen document other here there. one_sorted key dot seen also_seen document other (sort j key dot seen document here) (sort k key dot also_seen other there);
    own = λ j key dot seen document here. ⊎_elim
        (λ (old : IsOld known (Wrote key dot seen document)). kept known i added dot.site _ (sound.own old.0 key dot seen document old.1))
        (λ more. own_learned known i added dot.site _ more.1.own more.0)
        (sort j key dot seen document here);
  }

-- ---- what a request adds

only : (w v : Write) → Contains (w ∷ []) v → w ≡ v
only w v here = ⊎_elim (λ e. e) (λ none. absurd (none_empty v none)) (Contains-either v w [] here)

none_added : (known : ℕ → List Write) (i : ℕ) (added : List Write) → added ≡ [] → AreAdded known i added
none_added known i added none key dot seen document here = absurd (none_empty _ (subst (λ W. Contains W (Wrote key dot seen document)) none here))

put_added : (known : ℕ → List Write) (i : ℕ) (key : Key) (seen : DotSet) (document : Text) (dot : DotValue) → mint i (union (context key (known i)) seen) ≡ Some dot → AreAdded known i (Wrote key dot seen document ∷ [])
put_added known i key seen document dot minted k d s x here =
    let e : Wrote key dot seen document ≡ Wrote k d s x = only _ _ here in
    let same_key : k ≡ key = cc in
    let same : d ≡ dot = cc in
    let text : document ≡ x = cc in
    inr (record {
      own = ap (λ (y : DotValue). y.site) same ∙ (minted_next i _ dot minted).own;
      fresh = λ t o there. minted_unwritten key (known i) i seen t dot o minted (subst (Contains (known i)) (λ n. Wrote (same_key n) (same n) t o) there);
      alone = λ t o there. let f : Wrote key dot seen document ≡ Wrote k d t o = only _ _ there in let other : document ≡ o = cc in sym text ∙ other;
    })

deleted_added : (known : ℕ → List Write) (i : ℕ) (key : Key) (seen : DotSet) → AreAdded known i (Deleted key seen ∷ [])
deleted_added known i key seen k d s x here = let e : Deleted key seen ≡ Wrote k d s x = only _ _ here in absurd (cc)

request_adds : (known : ℕ → List Write) (i : ℕ) (setup : Setup) (here : List Write) (request : Request) (reply : Reply) (added : List Write) → here ≡ known i → reply ≡ answer (config i setup) here request → Adds request reply added → IsHanded known request added → AreAdded known i added
request_adds known i setup here (Put key seen document) (Written dot) added same told adds handed = subst (AreAdded known i) (sym adds)
    (put_added known i key seen document dot
    (subst (λ W. mint i (union (context key W) seen) ≡ Some dot) same (answer_written (config i setup) here key seen document dot told)))
request_adds known i setup here (Delete key seen) Done added same told adds handed = subst (AreAdded known i) (sym adds) (deleted_added known i key seen)
request_adds known i setup here (Push key pushed) reply added same told adds handed = λ k d s x in_added. inl (handed (Wrote k d s x) in_added)
request_adds known i setup here request reply added same told adds handed = none_added known i added adds

-- ---- several, one after the other

handed_in : (first known : ℕ → List Write) (request : Request) (added : List Write) → ((j : ℕ) (w : Write) → Contains (first j) w → IsOld known w) → IsHanded first request added → IsHanded known request added
handed_in first known (Push key pushed) added grows handed = λ w here. let old = handed w here in grows old.0 w old.1
handed_in first known request added grows handed = handed

learns_twice : (known : ℕ → List Write) (i : ℕ) (first rest added : List Write) → added ≡ first ++ rest → (j : ℕ) → learns (learns known i first) i rest j ≡ learns known i added j
learns_twice known i first rest added is j =
    elim (j == i) as (λ b. (if b then (if b then known j ++ first else known j) ++ rest else (if b then known j ++ first else known j)) ≡ (if b then known j ++ added else known j)) [
      | true ↦ append_assoc (known j) first rest ∙ ap (λ W. known j ++ W) (sym is)
      | false ↦ refl
    ]

sound_all : (start known : ℕ → List Write) (i : ℕ) (setup : Setup) (here : List Write) (requests : List Request) (added : List Write) (all : AddAll (config i setup) here requests added) → AreHanded start (config i setup) here requests added all → here ≡ known i →
    ((j : ℕ) (w : Write) → Contains (start j) w → IsOld known w) → AreSound known → AreSound (learns known i added)
sound_all start known i setup here [] added all handed same grows sound = sound_learns known i added sound (none_added known i added all)
sound_all start known i setup here (request ∷ requests) added (first, rest, is, one, others) (handed, later) same grows sound =
    let more = learns known i first in
    let one_sound : AreSound more = sound_learns known i first sound
    (request_adds known i setup here request (answer (config i setup) here request) first same refl one (handed_in start known request first grows handed)) in
    subst AreSound (λ k j. learns_twice known i first rest added is j k)
    (sound_all start more i setup (here ++ first) requests rest others later (ap (λ W. W ++ first) same ∙ sym (here_is known i first))
    (λ j w there. let old = grows j w there in (old.0, kept known i first old.0 w old.1)) one_sound)

-- ---- each event

at_each : (a b : Knows) (i : ℕ) (more : List Write) → (b i).known ≡ (a i).known ++ more → ((j : ℕ) → j ≢ i → b j ≡ a j) → (j : ℕ) → learns (knows a) i more j ≡ knows b j
at_each a b i more here others j = ⊎_elim
    (λ same. subst (λ n. learns (knows a) i more n ≡ knows b n) (sym same.1) (here_is (knows a) i more ∙ sym here))
    (λ other. ap (λ t. if t then (a j).known ++ more else (a j).known) other.0 ∙ ap (λ (s : Site). s.known) (sym (others j other.1)))
    (eqb_tells j i)

-- what is known after an event, where this site learnt more
known_after : (a b : Knows) (i : ℕ) (more : List Write) → (b i).known ≡ (a i).known ++ more → ((j : ℕ) → j ≢ i → b j ≡ a j) → AreSound (learns (knows a) i more) → AreSound (knows b)
known_after a b i more here others sound = subst AreSound (λ k j. at_each a b i more here others j k) sound

sound_next : (a : Knows) (event : Event) (b : Knows) (next : Next a event b) → Brings a event b next → AreSound (knows a) → AreSound (knows b)
sound_next a (Told i request reply) b (inl told, others) brings sound =
    known_after a b i told.2 (ap (λ (s : Site). s.known) told.4) others
    (sound_learns (knows a) i told.2 sound (request_adds (knows a) i (a i).setup (a i).known request reply told.2 refl told.1 told.3 brings))
sound_next a (Told i request reply) b (inr refused, others) brings sound =
    known_after a b i [] (refuses_same (config i (a i).setup) (a i) request reply (b i) refused ∙ sym (append-nil (a i).known)) others
    (sound_learns (knows a) i [] sound (none_added (knows a) i [] refl))
sound_next a (Broke i requests) b (breaks, others) brings sound =
    known_after a b i [] (breaks_same (config i (a i).setup) (a i) requests (b i) breaks ∙ sym (append-nil (a i).known)) others
    (sound_learns (knows a) i [] sound (none_added (knows a) i [] refl))
sound_next a (Opened i setup some) b (opens, others) brings sound =
    known_after a b i opens.1 (ap (λ (s : Site). s.known) opens.3) others
    (sound_all (knows a) (knows a) i (a i).setup (a i).known some opens.1 opens.2 brings refl (λ j w here. (j, here)) sound)

pub sound_run : (a : Knows) (events : List Event) (end : Knows) (happen : Happen a events end) → AllBring a events end happen → AreSound (knows a) → AreSound (knows end)
sound_run a [] end happen brings sound = subst (λ k. AreSound (knows k)) (sym happen) sound
sound_run a (event ∷ events) end (b, next, rest) (first, later) sound = sound_run b events end rest later (sound_next a event b next first sound)

pub sound_start : (setups : ℕ → Setup) → AreSound (knows (nothing_known setups))
sound_start setups = record {
  one = λ i j key dot seen also_seen document other here there. absurd (none_empty _ here);
  own = λ i key dot seen document here. absurd (none_empty _ here);
}
