-- The calls of a desk that keeps one request, and what the connection makes of them.
use Rattle.std.proofs.Common.{arith, ◌≡◌, ◌⊎◌, ◌↔◌, ◌∙◌, ◌++◌, ◌-◌, ◌<◌, ◌≤◌, ◌&&◌, ap, append-nil, append_assoc, inl, inr, Option, refl, is_none, is_some, is_err, nat_lt, Bool, true, false, ℕ, option_copied, option_map, drop, length, List, [], ◌∷◌, Some, None, Result, Ok, Err, OnOk, IsTrue, subst, sym}
use Rattle.std.proofs.lemmas.List.{length-drop, take-append-drop}
use Rattle.bytes.specs.Unread.{IsChunkOf}
use Rattle.http_server.specs.Exchange.{Call, Calls, Chain}
use Rattle.http_server.specs.History.{History, Rests, after_sent}
use Rattle.http_server.specs.declared.state.Config.{Config}
use Rattle.mvd_dots.specs.declared.refusals.Refusal.{Refusal}
use Rattle.mvd_dots.specs.declared.refusals.Refusal.TheVariants.{Memory}
use Rattle.http_server.specs.declared.state.State.{State}
use Rattle.mvd_http.specs.declared.fields.Answer.{Answer}
use Rattle.mvd_http.specs.declared.http_fault.Fault.{Fault}
use Rattle.mvd_conn.specs.declared.passes.Pass.{Pass}
use Rattle.mvd_http.specs.Guard.{Named, named_by}
use Rattle.mvd_web.specs.Asked.{IsAskedBy, KeepsAsked}
use Rattle.mvd_web.specs.Ends.{fault_in}
use Rattle.mvd_web.specs.Response.{fault_bytes, origin_or_none, response_bytes}
use Rattle.mvd_web.specs.Steps.{Drops, StepsOn, PassesAll, PassesOn, Quiet, ReadsOn, ReadsNone, ReadsOne, Settles}
use Rattle.mvd_web.specs.Web.{LooksIf, MayRest, Queues, RespondsTo, NothingCame, TakesRequest, SaysAll, WebValue, first_cause, is_closed, is_free, manner_asked, said_of, stopped_by, unasked, with_waits}
use Rattle.mvd_web.specs.declared.taken.Asked.{Asked}
use Rattle.mvd_web.specs.declared.desk.Desk.{Desk}
use Rattle.mvd_web.specs.declared.response.Manner.{Manner}

-- ---- the desk

pub none_kept : (asked : Option Asked) → is_some asked ≡ false → asked ≡ None
none_kept None e = refl
none_kept (Some asked) e = absurd (cc e)

-- it was called once, and keeps that request
pub record CalledOnce (old new : Desk) (calls : List Call) : Type 0 where
  pub call : Call
  pub one : calls ≡ call ∷ []
  pub keeps : KeepsAsked old call.0 call.1 new

pub at_most_one : (old new : Desk) (calls : List Call) → Chain KeepsAsked old calls new → ((calls ≡ []) × (new ≡ old)) ⊎ CalledOnce old new calls
at_most_one old new [] h = inl (refl, h)
at_most_one old new (c ∷ []) (next, k, e) = inr (record { call = c; one = refl; keeps = subst (λ d. KeepsAsked old c.0 c.1 d) (sym e) k })
at_most_one old new (c ∷ d ∷ calls) (next, k, (later, l, h)) = absurd (cc (k.kept, l.none))

took : (before after : Desk) (old new : WebValue) (calls : List Call) → new.heard.calls ≡ old.heard.calls ++ calls → old.asked ≡ before.asked → new.asked ≡ after.asked → before.asked ≡ None
    → Quiet old new → Rests new.config new.heard → ((calls ≡ []) × (after ≡ before)) ⊎ CalledOnce before after calls → ReadsOn (option_copied before.passes) (named_by before.names.now) old (is_some new.asked) new
took before after old new calls e p q none quiet rests (inl (n, s)) =
    let still : new.asked ≡ None = q ∙ ap (λ (d : Desk). d.asked) s ∙ none in
    subst (λ o. ReadsOn (option_copied before.passes) (named_by before.names.now) old (is_some o) new) (sym still) (record { calls = e ∙ ap (λ l. old.heard.calls ++ l) n ∙ append-nil old.heard.calls; asked = still ∙ sym (p ∙ none); rests = rests; quiet = quiet })
took before after old new calls e p q none quiet rests (inr once) =
    let kept : new.asked ≡ Some once.keeps.asked = q ∙ once.keeps.kept in
    subst (λ o. ReadsOn (option_copied before.passes) (named_by before.names.now) old (is_some o) new) (sym kept)
    (record { call = once.call; calls = e ∙ ap (λ l. old.heard.calls ++ l) once.one; plain = once.keeps.plain; asked = once.keeps.asked; kept = kept; asks = subst (λ n. IsAskedBy (option_copied before.passes) (named_by n.now) once.call.0 once.keeps.asked) once.keeps.names (subst (λ g. IsAskedBy (option_copied g) (named_by after.names.now) once.call.0 once.keeps.asked) once.keeps.passes once.keeps.asks); quiet = quiet })

-- a desk that kept nothing reads one request or none
pub reads : (before after : Desk) (old new : WebValue) → Calls KeepsAsked before after old.heard.calls new.heard.calls → old.asked ≡ before.asked → new.asked ≡ after.asked
    → before.asked ≡ None → Quiet old new → Rests new.config new.heard → ReadsOn (option_copied before.passes) (named_by before.names.now) old (is_some new.asked) new
reads before after old new (calls, e, chain) p q none quiet rests = took before after old new calls e p q none quiet rests (at_most_one before after calls chain)

-- ---- one call after another

pub stays_then : (a b c : WebValue) → NothingCame a b → NothingCame b c → NothingCame a c
stays_then a b c one two = record { config = two.config ∙ one.config; received = two.received ∙ one.received; ended = two.ended ∙ one.ended }

pub takes_one : (passes : Option (List Pass)) (names : Named) (a b c : WebValue) → IsTrue (is_free a) → ReadsOne passes names a b → Drops b c → c.heard.pending ≡ [] → TakesRequest passes names a true c
takes_one passes names a b c free one two none = (
  free,
  record {
    call = one.call;
    calls = two.calls ∙ one.calls;
    plain = one.plain;
    asked = one.asked;
    kept = two.asked ∙ one.kept;
    asks = one.asks;
    waits = two.waits ∙ one.quiet.waits;
    none_left = none;
    stopped = two.stopped ∙ one.quiet.stopped;
    stays = stays_then a b c one.quiet.stays two.stays;
  },
)

may_rest : (told : List ℕ) (b c : WebValue) → Rests b.config b.heard → c.config ≡ b.config → Settles told b c → MayRest told c
may_rest [] b c rests same (true_now, heard) = (true_now, subst (λ h. Rests c.config h) (sym heard) (subst (λ f. Rests f b.heard) (sym same) rests))
may_rest (x ∷ xs) b c rests same settles = settles

tells : (told queued : List ℕ) (a b c : WebValue) → b.stopped ≡ a.stopped → Rests b.config b.heard → c.config ≡ b.config → PassesAll b told queued c → SaysAll a told queued c
tells told queued a b c was rests same (inl (s, none, settles, whole)) = inl (s ∙ was, none, may_rest told b c rests same settles, whole)
tells told queued a b c was rests same (inr (s, part)) = inr (s ∙ ap (λ o. first_cause o Memory) was, part)

pub takes_none : (passes : Option (List Pass)) (names : Named) (a b c : WebValue) → IsTrue (is_free a) → ReadsNone a b → PassesOn b c → TakesRequest passes names a false c
takes_none passes names a b c free one two = subst (λ f. LooksIf f a c) (sym free) (record {
  calls = two.calls ∙ one.calls;
  asked = two.asked ∙ one.asked;
  told = two.told;
  sent = rw (two.sent, one.quiet.sent) refl;
  queued = two.queued;
  waits = rw (two.waits, one.quiet.waits) refl;
  tells = tells two.told two.queued a b c one.quiet.stopped one.rests two.stays.config two.ends;
  stays = stays_then a b c one.quiet.stays two.stays;
})

-- ---- the parts of a call

free_at : (stopped : Option Refusal) (asked : Option Asked) (room : Bool) → IsTrue (is_none stopped && (is_none asked && room)) → asked ≡ None
free_at None None room h = refl
free_at None (Some asked) room h = absurd (cc h)
free_at (Some refusal) asked room h = absurd (cc h)

pub free_desk : (w : WebValue) → IsTrue (is_free w) → w.asked ≡ None
free_desk w free = free_at w.stopped w.asked (nat_lt (length w.waits) 262144) free

pub not_free : (passes : Option (List Pass)) (names : Named) (w : WebValue) (free : Bool) → free ≡ is_free w → free ≡ false → TakesRequest passes names w false w
not_free passes names w free e is = subst (λ f. LooksIf f w w) (sym is ∙ e) refl

none_waits : (xs : List ℕ) (b : Bool) → (IsTrue b ↔ (0 < length xs)) → b ≡ false → xs ≡ []
none_waits [] b h e = refl
none_waits (x ∷ xs) b h e = absurd (cc (h.1 (omega arith), e))

said_nothing : (fault : Option Fault) → [] ≡ said_of fault []
said_nothing None = refl
said_nothing (Some fault) = refl

pub passes_nothing : (old : WebValue) (b : Bool) → (IsTrue b ↔ (0 < length old.heard.pending)) → b ≡ false → PassesOn old (record old { rests = true })
passes_nothing old b h e = record {
  told = [];
  sent = sym (append-nil old.heard.sent);
  queued = [];
  waits = sym (append-nil old.waits);
  calls = refl;
  asked = refl;
  ends = inl (refl, none_waits old.heard.pending b h e, (refl, refl), said_nothing (fault_in old.heard.state));
  stays = record { config = refl; received = refl; ended = refl };
}

told_some : (part pending : List ℕ) (old new : WebValue) → pending ≡ part ++ [] → 0 < length pending → new.rests ≡ false → Settles part old new
told_some [] pending old new e some awake = let l : length pending ≡ 0 = ap length e in absurd (omega (arith, l, some))
told_some (b ∷ bs) pending old new e some awake = awake

pub on_ok : {T E : Type 0} (r : Result T E) (P : Type 0) → is_err r ≡ false → OnOk r P → P
on_ok (Ok x) P e h = h
on_ok (Err x) P e h = absurd (cc e)

pub moved_all : (old mid : WebValue) → StepsOn (record old { rests = false }) mid → mid.heard.pending ≡ [] → 0 < length old.heard.pending → fault_in old.heard.state ≡ None → PassesOn old mid
moved_all old mid m none some well = record {
  told = m.part;
  sent = m.sent;
  queued = m.part;
  waits = m.waits;
  calls = m.calls;
  asked = m.asked;
  ends = inl (m.stopped, none, told_some m.part old.heard.pending old mid (m.split ∙ ap (λ l. m.part ++ l) none) some m.rests, sym (ap (λ s. said_of (fault_in s) m.part) m.state ∙ ap (λ f. said_of f m.part) well));
  stays = record { config = m.stays.config; received = m.stays.received; ended = m.stays.ended };
}

pub moved_some : (old mid new : WebValue) → StepsOn (record old { rests = false }) mid → new ≡ stopped_by mid Memory → PassesOn old new
moved_some old mid new m e = subst (λ w. PassesOn old w) (sym e) (record {
  told = m.part;
  sent = m.sent;
  queued = m.part;
  waits = m.waits;
  calls = m.calls;
  asked = m.asked;
  ends = inr (ap (λ o. first_cause o Memory) m.stopped, inl refl);
  stays = record { config = m.stays.config; received = m.stays.received; ended = m.stays.ended };
})

-- ---- a fault

said_whole : (part pending : List ℕ) (state : State) (fault : Fault) → pending ≡ part ++ [] → 0 < length pending → fault_in state ≡ Some fault → fault_bytes fault ≡ said_of (fault_in state) part
said_whole [] pending state fault e some is = let l : length pending ≡ 0 = ap length e in absurd (omega (arith, l, some))
said_whole (b ∷ bs) pending state fault e some is = sym (ap (λ f. said_of f (b ∷ bs)) is)

-- what was pending is dropped, and the response that names the fault is queued, or nothing
pub told_fault : (old mid new : WebValue) (fault : Fault) → Drops old mid → mid.heard.pending ≡ [] → 0 < length old.heard.pending → fault_in old.heard.state ≡ Some fault → Queues mid (fault_bytes fault) new → PassesOn old new
told_fault old mid new fault d none some is (inl e) =
    let all = d.split ∙ ap (λ l. d.part ++ l) none in
    let next : WebValue = with_waits mid (mid.waits ++ fault_bytes fault) in
    subst (λ w. PassesOn old w) (sym e) (record {
      told = d.part;
      sent = d.sent;
      queued = fault_bytes fault;
      waits = ap (λ l. l ++ fault_bytes fault) d.waits;
      calls = d.calls;
      asked = d.asked;
      ends = inl (d.stopped, none, told_some d.part old.heard.pending old next all some refl, said_whole d.part old.heard.pending mid.heard.state fault all some (ap fault_in d.state ∙ is));
      stays = record { config = d.stays.config; received = d.stays.received; ended = d.stays.ended };
    })
told_fault old mid new fault d none some is (inr e) = subst (λ w. PassesOn old w) (sym e) (record {
  told = d.part;
  sent = d.sent;
  queued = [];
  waits = d.waits ∙ sym (append-nil old.waits);
  calls = d.calls;
  asked = d.asked;
  ends = inr (ap (λ o. first_cause o Memory) d.stopped, inr refl);
  stays = record { config = d.stays.config; received = d.stays.received; ended = d.stays.ended };
})

-- the response that is queued is the one to the request that waited
pub responds : (old mid now new : WebValue) (answer : Answer) (body : List ℕ) (waits : Asked) (manner : Manner) (origin : List ℕ) → Some waits ≡ old.asked
    → mid ≡ unasked old → manner ≡ record { is_last = is_closed mid.heard.state; is_head = waits.is_head } → origin ≡ origin_or_none waits.origin → Queues mid (response_bytes answer body manner origin) now → new ≡ now
    → (asked : Option Asked) → old.asked ≡ asked → RespondsTo asked old answer body new
responds old mid now new answer body waits manner origin h e k o q same None none = absurd (cc (h ∙ none))
responds old mid now new answer body waits manner origin h e k o q same (Some asked) some =
    let one : waits ≡ asked = cc in
    let shown : manner ≡ manner_asked old asked = k ∙ (λ i. record { is_last = is_closed (e i).heard.state; is_head = (one i).is_head }) in
    let to : origin ≡ origin_or_none asked.origin = o ∙ ap (λ (a : Asked). origin_or_none a.origin) one in
    subst (λ w. Queues (unasked old) (response_bytes answer body (manner_asked old asked) (origin_or_none asked.origin)) w) (sym same)
    (subst (λ w. Queues w (response_bytes answer body (manner_asked old asked) (origin_or_none asked.origin)) now) e
    (subst (λ p. Queues mid (response_bytes answer body (manner_asked old asked) p) now) to
    (subst (λ m. Queues mid (response_bytes answer body m origin) now) shown q)))

pub nobody : (old mid : WebValue) (answer : Answer) (body : List ℕ) (asked : Option Asked) → None ≡ old.asked → mid ≡ unasked old → old.asked ≡ asked
    → RespondsTo asked old answer body mid
nobody old mid answer body None h e none = e ∙ (λ i. record old { asked = sym none i })
nobody old mid answer body (Some asked) h e some = absurd (cc (h ∙ some))
