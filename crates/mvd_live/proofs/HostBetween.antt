-- What a host tells one of its clients of windows that stand between its other turns.
use Rattle.std.proofs.Common.{◌≡◌, ℕ, ◌==◌, Bool, true, false, List, [], ◌∷◌, ◌++◌, length, take, drop, refl, sym, ap, subst, ◌∙◌}
use Rattle.std.specs.Prelude.{Ok, Result, flat_map, if◌then◌else◌}
use Rattle.std.specs.List.{concat}
use Rattle.std.proofs.lemmas.List.{length-map}
use Rattle.mvd_dots.specs.declared.refusals.Refusal.{Refusal}
use Rattle.mvd_wire.specs.declared.reply.Reply.{Reply}
use Rattle.mvd_wire.specs.declared.request.Request.{Request}
use Rattle.mvd_site.specs.Config.{ConfigValue}
use Rattle.mvd_site.specs.Held.{AreHeld}
use Rattle.mvd_site.specs.Sites.{SiteValue}
use Rattle.mvd_replica.specs.Turns.{Turn}
use Rattle.mvd_host.specs.Course.{AreQueued, own}
use Rattle.mvd_host.specs.Round.{ServesAllFrom, turns_of}
use Rattle.mvd_host.proofs.Positions.{ServesFrom}
use Rattle.mvd_remote.specs.Remotes.{requests_of}
use Rattle.mvd_peer.specs.declared.window.Window.{Window}
use Rattle.mvd_live.specs.Hosts.{TellsBetween, TellsWindows}
use Rattle.mvd_live.proofs.Hosted.{LeavesAll, all_left}
use Rattle.mvd_live.proofs.HostMail.{all_ok, asked_by_turns, host_tells, told_by_turns}

abbrev Asked : Type 0
Asked = Result Request Refusal

-- the turns of all clients, cut behind those by which one of them asked the first of these
record Cut (n : ℕ) (first later : List Asked) (answers : List (List ℕ)) (old new : SiteValue) : Type 0 where
  pub front : List (ℕ × Turn)
  pub rest : List (ℕ × Turn)
  pub mid : SiteValue
  pub before : ServesAllFrom old mid (turns_of front)
  pub behind : ServesAllFrom mid new (turns_of rest)
  pub asked : asked_by_turns (own n front) ≡ first
  pub asks : asked_by_turns (own n rest) ≡ later
  pub told : AreQueued (told_by_turns (own n front)) (take (length first) answers)
  pub tells : AreQueued (told_by_turns (own n rest)) (drop (length first) answers)

-- ---- one turn more

own_here : (n : ℕ) (t : ℕ × Turn) (ts : List (ℕ × Turn)) → (t.0 == n) ≡ true → own n (t ∷ ts) ≡ t.1 ∷ own n ts
own_here n t ts is = ap (λ (b : Bool). if b then t.1 ∷ own n ts else own n ts) is

own_not : (n : ℕ) (t : ℕ × Turn) (ts : List (ℕ × Turn)) → (t.0 == n) ≡ false → own n (t ∷ ts) ≡ own n ts
own_not n t ts is = ap (λ (b : Bool). if b then t.1 ∷ own n ts else own n ts) is

-- the frames of replies begin with that of the first
record Begins (r : Reply) (rs : List Reply) (answers : List (List ℕ)) : Type 0 where
  pub bytes : List ℕ
  pub more : List (List ℕ)
  pub are : answers ≡ bytes ∷ more
  pub one : AreQueued (r ∷ []) (bytes ∷ [])
  pub others : AreQueued rs more

begins : (r : Reply) (rs : List Reply) (answers : List (List ℕ)) → AreQueued (r ∷ rs) answers → Begins r rs answers
begins r rs [] queued = absurd queued
begins r rs (b ∷ bs) (one, others) = record { bytes = b; more = bs; are = refl; one = (one, tt); others = others }

module _ (n : ℕ) (t : ℕ × Turn) (later : List Asked) (old mid new : SiteValue) (one : ServesFrom old mid t.1) where
  cut_own : (first : List Asked) (bytes : List ℕ) (more : List (List ℕ)) → (t.0 == n) ≡ true → AreQueued (t.1.reply ∷ []) (bytes ∷ []) → Cut n first later more mid new → Cut n (t.1.asked ∷ first) later (bytes ∷ more) old new
  cut_own first bytes more is queued it = record {
    front = t ∷ it.front;
    rest = it.rest;
    mid = it.mid;
    before = (mid, one, it.before);
    behind = it.behind;
    asked = ap asked_by_turns (own_here n t it.front is) ∙ ap (λ (qs : List Asked). t.1.asked ∷ qs) it.asked;
    asks = it.asks;
    told = subst (λ (mine : List Turn). AreQueued (told_by_turns mine) (bytes ∷ take (length first) more)) (sym (own_here n t it.front is)) (queued.0, it.told);
    tells = it.tells;
  }

  cut_other : (first : List Asked) (answers : List (List ℕ)) → (t.0 == n) ≡ false → Cut n first later answers mid new → Cut n first later answers old new
  cut_other first answers is it = record {
    front = t ∷ it.front;
    rest = it.rest;
    mid = it.mid;
    before = (mid, one, it.before);
    behind = it.behind;
    asked = ap asked_by_turns (own_not n t it.front is) ∙ it.asked;
    asks = it.asks;
    told = subst (λ (mine : List Turn). AreQueued (told_by_turns mine) (take (length first) answers)) (sym (own_not n t it.front is)) it.told;
    tells = it.tells;
  }

-- ---- all of them

heads : (a b : Asked) (xs ys : List Asked) → a ∷ xs ≡ b ∷ ys → (a ≡ b) × (xs ≡ ys)
heads a b xs ys same = (cc, cc)

cut : (n : ℕ) (turns : List (ℕ × Turn)) (first later : List Asked) (answers : List (List ℕ)) (old new : SiteValue) → ServesAllFrom old new (turns_of turns) → asked_by_turns (own n turns) ≡ first ++ later → AreQueued (told_by_turns (own n turns)) answers → Cut n first later answers old new
cut n turns [] later answers old new all asked queued = record { front = []; rest = turns; mid = old; before = refl; behind = all; asked = refl; asks = asked; told = tt; tells = queued }
cut n [] (x ∷ first) later answers old new all asked queued = absurd (cc)
cut n (t ∷ ts) (x ∷ first) later answers old new (mid, one, all) asked queued = elim (t.0 == n) as (λ b. (t.0 == n) ≡ b → Cut n (x ∷ first) later answers old new) [
  | true ↦ λ is.
      let mine = own_here n t ts is in
      let same = heads t.1.asked x (asked_by_turns (own n ts)) (first ++ later) (sym (ap asked_by_turns mine) ∙ asked) in
      let it : Begins t.1.reply (told_by_turns (own n ts)) answers = begins t.1.reply (told_by_turns (own n ts)) answers (subst (λ (ms : List Turn). AreQueued (told_by_turns ms) answers) mine queued) in
      subst (λ (bs : List (List ℕ)). Cut n (x ∷ first) later bs old new) (sym it.are)
      (subst (λ (q : Asked). Cut n (q ∷ first) later (it.bytes ∷ it.more) old new) same.0
      (cut_own n t later old mid new one first it.bytes it.more is it.one (cut n ts first later it.more mid new all same.1 it.others)))
  | false ↦ λ is.
      let mine = own_not n t ts is in
      cut_other n t later old mid new one (x ∷ first) answers is
      (cut n ts (x ∷ first) later answers mid new all (sym (ap asked_by_turns mine) ∙ asked) (subst (λ (ms : List Turn). AreQueued (told_by_turns ms) answers) mine queued))
] refl

as_many : (requests : List Request) → length (all_ok requests) ≡ length requests
as_many requests = length-map requests (λ (request : Request). Ok request)

-- WHAT A HOST QUEUED FOR A CLIENT of windows that stand between its other turns
pub host_tells_between : (n : ℕ) (turns : List (ℕ × Turn)) (old new : SiteValue) (answers : List (List ℕ)) (before later : List Asked) (windows : List Window) → AreHeld old.states → ServesAllFrom old new (turns_of turns) → AreQueued (told_by_turns (own n turns)) answers →
    asked_by_turns (own n turns) ≡ before ++ (all_ok (flat_map requests_of windows) ++ later) → TellsBetween old.config (length before) windows answers old.states new.states
host_tells_between n turns old new answers before later windows held all queued asked =
    let requests = flat_map requests_of windows in
    let first : Cut n before (all_ok requests ++ later) answers old new = cut n turns before (all_ok requests ++ later) answers old new all asked queued in
    let second : Cut n (all_ok requests) later (drop (length before) answers) first.mid new = cut n first.rest (all_ok requests) later (drop (length before) answers) first.mid new first.behind first.asks first.tells in
    let here : LeavesAll old first.mid = all_left (turns_of first.front) old first.mid held first.before in
    let there : LeavesAll first.mid second.mid = all_left (turns_of second.front) first.mid second.mid here.form second.before in
    let last : LeavesAll second.mid new = all_left (turns_of second.rest) second.mid new there.form second.behind in
    let asks : List (List ℕ) = take (length (all_ok requests)) (drop (length before) answers) in
    let told : TellsWindows first.mid.config windows (concat asks) first.mid.states second.mid.states = host_tells n second.front first.mid second.mid asks windows here.form second.before second.told second.asked in
    record {
      begun = first.mid.states;
      ended = second.mid.states;
      form = (here.form, there.form);
      grows = (here.grows, last.grows);
      tells = subst (λ (k : ℕ). TellsWindows old.config windows (concat (take k (drop (length before) answers))) first.mid.states second.mid.states) (as_many requests)
          (subst (λ (c : ConfigValue). TellsWindows c windows (concat asks) first.mid.states second.mid.states) here.config told);
    }
