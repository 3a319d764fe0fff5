-- A site at the other end of a true line, as a faithful side.
use Rattle.std.proofs.Common.{◌≡◌, inl, inr, ℕ, zero, suc, ◌+◌, true, false, List, [], ◌∷◌, length, map, take, Option, refl, sym, ap, subst, ◌∙◌, arith}
use Rattle.std.proofs.lemmas.Bool.Decides.{nat_tests}
use Rattle.std.specs.Prelude.{Result, Ok, Err, nat_le, if◌then◌else◌}
use Rattle.mvd_dots.specs.declared.refusals.Refusal.{Refusal}
use Rattle.mvd_dots.specs.declared.refusals.Refusal.TheVariants.{FrameTooLong, StateTooLarge}
use Rattle.mvd_keys.specs.State.{State}
use Rattle.mvd_keys.specs.Writes.{Key}
use Rattle.mvd_wire.specs.declared.request.Request.{Request}
use Rattle.mvd_wire.specs.declared.request.Request.TheVariants.{Get, Node, Bucket, Push}
use Rattle.mvd_wire.specs.declared.reply.Reply.{Reply}
use Rattle.mvd_wire.specs.declared.reply.Reply.TheVariants as reply
use Rattle.mvd_wire.specs.Codecs.{spell_state, state_limit}
use Rattle.mvd_wire.specs.Frames.{frame_limit, spell_frame}
use Rattle.mvd_wire.specs.Requests.{framed as frame_within, push, request_frame}
use Rattle.mvd_site.specs.Answer.{is_too_large}
use Rattle.mvd_site.specs.Config.{ConfigValue}
use Rattle.mvd_site.specs.Held.{States}
use Rattle.mvd_remote.specs.Lines.{SettleTruly, SettlesTruly, TrueReplies, TrueReply, and_framed, framed_requests}
use Rattle.mvd_peer.specs.PushedStates.{pushed}
use Rattle.mvd_peer.specs.Sides.{is_of_question}
use Rattle.mvd_peer.specs.Windows.{CannotTake, EachAnswer, EachRefusal, Pushes, RefusesPage, TakesState}

-- ---- questions

-- what is so of a request that changes nothing, and is refused so
pub record IsQuestion (q : Request) (May : Refusal → Type 0) : Type 0 where
  pub keeps : (config : ConfigValue) (old : States) (r : Reply) (new : States) → TrueReply config old q r new → new ≡ old
  pub refuses : (config : ConfigValue) (old : States) (refusal : Refusal) (new : States) → TrueReply config old q (reply.Refused refusal) new → May refusal
  pub unframed : (refusal : Refusal) → request_frame q ≡ Err refusal → May refusal

too_long : (kind : ℕ) (payload : List ℕ) (refusal : Refusal) → frame_within kind payload ≡ Err refusal → refusal ≡ FrameTooLong
too_long kind payload refusal e = elim (nat_le (length payload + 1) frame_limit) as (λ b. (if b then Ok (spell_frame (record { kind = kind; payload = payload })) else Err FrameTooLong) ≡ Err refusal → refusal ≡ FrameTooLong) [
  | true ↦ λ e. absurd (cc)
  | false ↦ λ e. cc
] e

pub get_keeps : (key : Key) (config : ConfigValue) (old : States) (r : Reply) (new : States) → TrueReply config old (Get key) r new → new ≡ old
get_keeps key config old (reply.State s) new h = h.1
get_keeps key config old (reply.Refused refusal) new h = h.1
get_keeps key config old (reply.Written d) new h = absurd h
get_keeps key config old reply.Done new h = absurd h
get_keeps key config old (reply.Places ps more) new h = absurd h
get_keeps key config old (reply.Row r) new h = absurd h
get_keeps key config old (reply.Rows rs more) new h = absurd h
get_keeps key config old (reply.Digests d) new h = absurd h
get_keeps key config old (reply.Keys ks more) new h = absurd h
get_keeps key config old (reply.Counts cs more) new h = absurd h

node_keeps : (path : List ℕ) (config : ConfigValue) (old : States) (r : Reply) (new : States) → TrueReply config old (Node path) r new → new ≡ old
node_keeps path config old (reply.Digests d) new h = h.1
node_keeps path config old (reply.Refused refusal) new h = h.1
node_keeps path config old (reply.State s) new h = absurd h
node_keeps path config old (reply.Written d) new h = absurd h
node_keeps path config old reply.Done new h = absurd h
node_keeps path config old (reply.Places ps more) new h = absurd h
node_keeps path config old (reply.Row r) new h = absurd h
node_keeps path config old (reply.Rows rs more) new h = absurd h
node_keeps path config old (reply.Keys ks more) new h = absurd h
node_keeps path config old (reply.Counts cs more) new h = absurd h

bucket_keeps : (path : List ℕ) (after : Option Key) (config : ConfigValue) (old : States) (r : Reply) (new : States) → TrueReply config old (Bucket path after) r new → new ≡ old
bucket_keeps path after config old (reply.Keys ks more) new h = h.2
bucket_keeps path after config old (reply.Refused refusal) new h = h.1
bucket_keeps path after config old (reply.State s) new h = absurd h
bucket_keeps path after config old (reply.Written d) new h = absurd h
bucket_keeps path after config old reply.Done new h = absurd h
bucket_keeps path after config old (reply.Places ps more) new h = absurd h
bucket_keeps path after config old (reply.Row r) new h = absurd h
bucket_keeps path after config old (reply.Rows rs more) new h = absurd h
bucket_keeps path after config old (reply.Digests d) new h = absurd h
bucket_keeps path after config old (reply.Counts cs more) new h = absurd h

pub get_asks : (key : Key) → IsQuestion (Get key) (λ refusal. is_of_question refusal ≡ false)
get_asks key = record { keeps = get_keeps key; refuses = λ config old refusal new h. h.0; unframed = λ refusal e. ap is_of_question (too_long _ _ refusal e) }

pub node_asks : (path : List ℕ) → IsQuestion (Node path) (λ refusal. is_of_question refusal ≡ false)
node_asks path = record { keeps = node_keeps path; refuses = λ config old refusal new h. h.0; unframed = λ refusal e. ap is_of_question (too_long _ _ refusal e) }

pub bucket_asks : (path : List ℕ) (after : Option Key) → IsQuestion (Bucket path after) (RefusesPage path)
bucket_asks path after = record { keeps = bucket_keeps path after; refuses = λ config old refusal new h. h.0; unframed = λ refusal e. subst (RefusesPage path) (sym (too_long _ _ refusal e)) refl }

-- what is so of questions that change nothing
module _ (config : ConfigValue) {Q : Type 0} (request : Q → Request) {May : Q → Refusal → Type 0} (is : (q : Q) → IsQuestion (request q) (May q)) where
  -- a window that was answered
  module _ {A : Type 0} (as_reply : A → Reply) where
    one_settles : (q : Q) (old new : States) (t : Result A Refusal) → SettlesTruly as_reply config old (request q) t new → new ≡ old
    one_settles q old new (Ok a) h = (is q).keeps config old (as_reply a) new h
    one_settles q old new (Err refusal) (inl h) = (is q).keeps config old (reply.Refused refusal) new h.1
    one_settles q old new (Err refusal) (inr h) = h.1

    pub all_kept : (qs : List Q) (ts : List (Result A Refusal)) (old new : States) → SettleTruly as_reply config old (map request qs) ts new → new ≡ old
    all_kept [] [] old new h = h
    all_kept [] (t ∷ ts) old new h = absurd h
    all_kept (q ∷ qs) [] old new h = absurd h
    all_kept (q ∷ qs) (t ∷ ts) old new h = all_kept qs ts h.0 new h.2 ∙ one_settles q old h.0 t h.1

    pub all_right : (Right : Q → A → Type 0) (old : States) → ((q : Q) (a : A) (new : States) → TrueReply config old (request q) (as_reply a) new → Right q a) → (qs : List Q) (ts : List (Result A Refusal)) (mid new : States) → mid ≡ old → SettleTruly as_reply config mid (map request qs) ts new → EachAnswer Right qs ts
    all_right Right old f [] [] mid new e h = tt
    all_right Right old f [] (t ∷ ts) mid new e h = absurd h
    all_right Right old f (q ∷ qs) [] mid new e h = absurd h
    all_right Right old f (q ∷ qs) (Ok a ∷ ts) mid new e h = (f q a h.0 (subst (λ m. TrueReply config m (request q) (as_reply a) h.0) e h.1), all_right Right old f qs ts h.0 new (one_settles q mid h.0 (Ok a) h.1 ∙ e) h.2)
    all_right Right old f (q ∷ qs) (Err refusal ∷ ts) mid new e h = all_right Right old f qs ts h.0 new (one_settles q mid h.0 (Err refusal) h.1 ∙ e) h.2

    pub all_not_of_key : (qs : List Q) (ts : List (Result A Refusal)) (old new : States) → SettleTruly as_reply config old (map request qs) ts new → EachRefusal May qs ts
    all_not_of_key [] [] old new h = tt
    all_not_of_key [] (t ∷ ts) old new h = absurd h
    all_not_of_key (q ∷ qs) [] old new h = absurd h
    all_not_of_key (q ∷ qs) (Ok a ∷ ts) old new h = all_not_of_key qs ts h.0 new h.2
    all_not_of_key (q ∷ qs) (Err refusal ∷ ts) old new h = (elim h.1 [ inl told ↦ (is q).refuses config old refusal h.0 told.1 | inr none ↦ (is q).unframed refusal none.0 ], all_not_of_key qs ts h.0 new h.2)

  -- a window that was refused
  first_kept : (q : Q) (qs : List Q) (f : Result (List ℕ) Refusal) (old new : States) (n : ℕ) (rs : List Reply) → ((old : States) (n : ℕ) (rs : List Reply) → TrueReplies config old (take n (framed_requests (map request qs))) rs new → new ≡ old) → TrueReplies config old (take n (and_framed (request q) f (framed_requests (map request qs)))) rs new → new ≡ old
  first_kept q qs (Ok frame) old new zero [] later h = h
  first_kept q qs (Ok frame) old new zero (r ∷ rs) later h = absurd h
  first_kept q qs (Ok frame) old new (suc n) [] later h = absurd h
  first_kept q qs (Ok frame) old new (suc n) (r ∷ rs) later h = later h.0 n rs h.2 ∙ (is q).keeps config old r h.0 h.1
  first_kept q qs (Err refusal) old new n rs later h = later old n rs h

  none_first : (n : ℕ) (rs : List Reply) (old new : States) → TrueReplies config old (take n []) rs new → new ≡ old
  none_first zero [] old new h = h
  none_first zero (r ∷ rs) old new h = absurd h
  none_first (suc n) [] old new h = h
  none_first (suc n) (r ∷ rs) old new h = absurd h

  pub first_all_kept : (qs : List Q) (new old : States) (n : ℕ) (rs : List Reply) → TrueReplies config old (take n (framed_requests (map request qs))) rs new → new ≡ old
  first_all_kept [] new old n rs h = none_first n rs old new h
  first_all_kept (q ∷ qs) new old n rs h = first_kept q qs (request_frame (request q)) old new n rs (first_all_kept qs new) h

-- ---- pushes

-- why a push has no frame
pub unframed_push : (config : ConfigValue) (old : States) (key : Key) (s : State) (refusal : Refusal) → request_frame (Push key s) ≡ Err refusal → CannotTake config.max_keys old key s refusal
unframed_push config old key s refusal e = elim (nat_le (length (spell_state s)) state_limit) as (λ b. nat_le (length (spell_state s)) state_limit ≡ b → (if b then frame_within 0x29 (push.spell (key, s)) else Err StateTooLarge) ≡ Err refusal → CannotTake config.max_keys old key s refusal) [
  | true ↦ λ is e. subst (CannotTake config.max_keys old key s) (sym (too_long 0x29 (push.spell (key, s)) refusal e)) tt
  | false ↦ λ is e.
      let large : refusal ≡ StateTooLarge = cc in
      let long : is_too_large s ≡ true = grind (arith, nat_tests) in
      subst (CannotTake config.max_keys old key s) (sym large) (inl long)
] refl e

module _ (config : ConfigValue) where
  abbrev asked : Key × State → Request
  asked p = Push p.0 p.1

  pushes_from : (old mid new : States) (ps : List (Key × State)) (ts : List (Result (Unit {0}) Refusal)) → mid ≡ old → Pushes config.max_keys mid ps ts new → Pushes config.max_keys old ps ts new
  pushes_from old mid new ps ts e h = subst (λ m. Pushes config.max_keys m ps ts new) e h

  pub all_pushed : (ps : List (Key × State)) (ts : List (Result (Unit {0}) Refusal)) (old new : States) → SettleTruly (λ _. reply.Done) config old (map asked ps) ts new → Pushes config.max_keys old ps ts new
  all_pushed [] [] old new h = h
  all_pushed [] (t ∷ ts) old new h = absurd h
  all_pushed (p ∷ ps) [] old new h = absurd h
  all_pushed (p ∷ ps) (Ok done ∷ ts) old new h = (h.1.0, pushes_from (pushed old p.0 p.1) h.0 new ps ts h.1.1 (all_pushed ps ts h.0 new h.2))
  all_pushed (p ∷ ps) (Err refusal ∷ ts) old new (mid, inl (other, inl why), later) = (why.0, pushes_from old mid new ps ts why.1 (all_pushed ps ts mid new later))
  all_pushed (p ∷ ps) (Err refusal ∷ ts) old new (mid, inl (other, inr broke), later) = absurd (other broke.0)
  all_pushed (p ∷ ps) (Err refusal ∷ ts) old new (mid, inr none, later) = (unframed_push config old p.0 p.1 refusal none.0, pushes_from old mid new ps ts none.1 (all_pushed ps ts mid new later))

  -- the first of them
  abbrev First : States → List (Key × State) → States → Type 0
  First old ps new = (n : ℕ) × (ts : List (Result (Unit {0}) Refusal)) × Pushes config.max_keys old (take n ps) ts new

  and_taken : (p : Key × State) (ps : List (Key × State)) (old mid new : States) → TakesState old p.0 p.1 mid → First mid ps new → First old (p ∷ ps) new
  and_taken p ps old mid new took f = (suc f.0, Ok tt ∷ f.1, (took.0, pushes_from (pushed old p.0 p.1) mid new (take f.0 ps) f.1 took.1 f.2))

  and_refused : (p : Key × State) (ps : List (Key × State)) (old mid new : States) (refusal : Refusal) → CannotTake config.max_keys old p.0 p.1 refusal → mid ≡ old → First mid ps new → First old (p ∷ ps) new
  and_refused p ps old mid new refusal why same f = (suc f.0, Err refusal ∷ f.1, (why, pushes_from old mid new (take f.0 ps) f.1 same f.2))

  and_replied : (p : Key × State) (ps : List (Key × State)) (old mid new : States) (r : Reply) → TrueReply config old (asked p) r mid → First mid ps new → First old (p ∷ ps) new
  and_replied p ps old mid new reply.Done h f = and_taken p ps old mid new h f
  and_replied p ps old mid new (reply.Refused refusal) (inl h) f = and_refused p ps old mid new refusal h.0 h.1 f
  and_replied p ps old mid new (reply.Refused refusal) (inr h) f = and_taken p ps old mid new h.1 f
  and_replied p ps old mid new (reply.State t) h f = absurd h
  and_replied p ps old mid new (reply.Written d) h f = absurd h
  and_replied p ps old mid new (reply.Places xs more) h f = absurd h
  and_replied p ps old mid new (reply.Row r) h f = absurd h
  and_replied p ps old mid new (reply.Rows rs more) h f = absurd h
  and_replied p ps old mid new (reply.Digests d) h f = absurd h
  and_replied p ps old mid new (reply.Keys ks more) h f = absurd h
  and_replied p ps old mid new (reply.Counts cs more) h f = absurd h

  first_step : (p : Key × State) (ps : List (Key × State)) (f : Result (List ℕ) Refusal) → request_frame (asked p) ≡ f → (old new : States) (n : ℕ) (rs : List Reply) → ((old : States) (n : ℕ) (rs : List Reply) → TrueReplies config old (take n (framed_requests (map asked ps))) rs new → First old ps new) → TrueReplies config old (take n (and_framed (asked p) f (framed_requests (map asked ps)))) rs new → First old (p ∷ ps) new
  first_step p ps (Ok frame) e old new zero [] later h = (0, [], h)
  first_step p ps (Ok frame) e old new zero (r ∷ rs) later h = absurd h
  first_step p ps (Ok frame) e old new (suc n) [] later h = absurd h
  first_step p ps (Ok frame) e old new (suc n) (r ∷ rs) later h = and_replied p ps old h.0 new r h.1 (later h.0 n rs h.2)
  first_step p ps (Err refusal) e old new n rs later h = and_refused p ps old old new refusal (unframed_push config old p.0 p.1 refusal e) refl (later old n rs h)

  first_none : (n : ℕ) (rs : List Reply) (old new : States) → TrueReplies config old (take n []) rs new → First old [] new
  first_none zero [] old new h = (0, [], h)
  first_none zero (r ∷ rs) old new h = absurd h
  first_none (suc n) [] old new h = (0, [], h)
  first_none (suc n) (r ∷ rs) old new h = absurd h

  pub first_pushed : (ps : List (Key × State)) (new old : States) (n : ℕ) (rs : List Reply) → TrueReplies config old (take n (framed_requests (map asked ps))) rs new → First old ps new
  first_pushed [] new old n rs h = first_none n rs old new h
  first_pushed (p ∷ ps) new old n rs h = first_step p ps (request_frame (asked p)) refl old new n rs (first_pushed ps new) h
