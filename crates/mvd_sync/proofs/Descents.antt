-- One level of the walk after the other.
use Rattle.std.proofs.Common.{◌≡◌, ◌≢◌, ℕ, zero, suc, ◌+◌, ◌<◌, List, [], ◌∷◌, ◌++◌, length, take, get_or, refl, sym, ap, subst, ◌∙◌, arith, add-one, append_assoc, length-append, true, false}
use Rattle.std.proofs.Math.Seq.{take-suc}
use Rattle.std.proofs.lemmas.List.{append-nil, length-take}
use Rattle.mvd_site.specs.Answer.{digests}
use Rattle.mvd_tree.specs.HashTree.{KeyDigests}
use Rattle.mvd_sync.specs.Nodes.{differing_children}
use Rattle.mvd_sync.proofs.Readings.{AllAnswered, AnswersEach, IsInner, with_left}
use Rattle.mvd_peer.specs.Windows.{ForEach}
use Rattle.mvd_peer.specs.PushedStates.{Each}
use Rattle.mvd_peer.specs.Sides.{HasAnswered, SideOf}
use Rattle.mvd_sync.specs.Faults.{IsFaultOf}
use Rattle.mvd_sync.proofs.Walk.{ReadsSide}
use Rattle.mvd_sync.specs.Walk.{told, told_all}
use Rattle.mvd_sync.specs.declared.asking.Node.{Node}
use Rattle.mvd_sync.specs.declared.asking.Questions.{Questions}
use Rattle.mvd_sync.specs.declared.report.SyncFault.{SyncFault}
use Rattle.mvd_sync.specs.declared.report.SyncFault.TheVariants.{Local, Peer}
use Rattle.std.specs.Prelude.{bytes_eq, cond, map, not}
use Rattle.std.specs.List.{filter}
use Rattle.std.proofs.Common.{slice_index_or}
use Rattle.mvd_tree.specs.HashTree.{digits}
use Rattle.mvd_sync.proofs.Compose.{answered_later, answered_still, blames_later, keeps_on}
use Rattle.mvd_sync.proofs.Nodes.{AreLong, Each-append, differing_children-append, told-is}
use Rattle.mvd_sync.proofs.Positions.{BlamesBy, DescendsBy, HaveAnsweredBy, ReadsEndBy}

-- ---- lists

pub Each-at : {X : Type 0} (P : X → Type 0) (xs : List X) (i : ℕ) (d : X) → Each P xs → i < length xs → P (get_or xs i d)
Each-at P [] i d e h = absurd (omega arith)
Each-at P (x ∷ xs) zero d e h = e.0
Each-at P (x ∷ xs) (suc i) d e h = Each-at P xs i d e.1 (omega arith)

pub Each-take : {X : Type 0} (P : X → Type 0) (n : ℕ) (xs : List X) → Each P xs → Each P (take n xs)
Each-take P zero [] e = tt
Each-take P zero (x ∷ xs) e = tt
Each-take P (suc n) [] e = tt
Each-take P (suc n) (x ∷ xs) e = (e.0, Each-take P n xs e.1)

pub Each-left : {X : Type 0} (P : X → Type 0) (xs ys : List X) → Each P (xs ++ ys) → Each P xs
Each-left P [] ys e = tt
Each-left P (x ∷ xs) ys e = (e.0, Each-left P xs ys e.1)

pub Each-right : {X : Type 0} (P : X → Type 0) (xs ys : List X) → Each P (xs ++ ys) → Each P ys
Each-right P [] ys e = e
Each-right P (x ∷ xs) ys e = Each-right P xs ys e.1

told_all-last : (ps : List (List ℕ)) (ms ts : List Node) (p : List ℕ) (m t : Node) → length ms ≡ length ps → length ts ≡ length ps → told_all (ps ++ p ∷ []) (ms ++ m ∷ []) (ts ++ t ∷ []) ≡ told_all ps ms ts ++ told p m t
told_all-last [] [] [] p m t e f = append-nil (told p m t)
told_all-last [] [] (y ∷ ts) p m t e f = absurd (omega arith)
told_all-last [] (x ∷ ms) ts p m t e f = absurd (omega arith)
told_all-last (q ∷ ps) [] ts p m t e f = absurd (omega arith)
told_all-last (q ∷ ps) (x ∷ ms) [] p m t e f = absurd (omega arith)
told_all-last (q ∷ ps) (x ∷ ms) (y ∷ ts) p m t e f =
    ap (λ xs. told q x y ++ xs) (told_all-last ps ms ts p m t (omega arith) (omega arith)) ∙ sym (append_assoc (told q x y) (told_all ps ms ts) (told p m t))

pub one_taken : {X : Type 0} (xs : List X) (i : ℕ) (x : X) → i < length xs → x ≡ get_or xs i x → take (i + 1) xs ≡ take i xs ++ x ∷ []
one_taken xs i x h is = rw add-one (take-suc xs i x h ∙ ap (λ y. take i xs ++ y ∷ []) (sym is))

pub told_all-more : (below old : List (List ℕ)) (ps : List (List ℕ)) (ms ts : List Node) (i : ℕ) (p : List ℕ) (d : Node) → length ms ≡ length ps → length ts ≡ length ps → i < length ps → p ≡ get_or ps i p
    → below ≡ old ++ told_all (take i ps) (take i ms) (take i ts) → below ++ told p (get_or ms i d) (get_or ts i d) ≡ old ++ told_all (take (i + 1) ps) (take (i + 1) ms) (take (i + 1) ts)
told_all-more below old ps ms ts i p d e f h at is =
    let m = get_or ms i d in
    let t = get_or ts i d in
    let a = one_taken ps i p h at in
    let b : take (i + 1) ms ≡ take i ms ++ m ∷ [] = rw add-one (take-suc ms i d (omega (arith, e, h))) in
    let c : take (i + 1) ts ≡ take i ts ++ t ∷ [] = rw add-one (take-suc ts i d (omega (arith, f, h))) in
    let n = length-take i ps in
    let k = length-take i ms in
    let j = length-take i ts in
    ap (λ xs. xs ++ told p m t) is ∙ append_assoc old (told_all (take i ps) (take i ms) (take i ts)) (told p m t)
    ∙ ap (λ xs. old ++ xs) (sym (told_all-last (take i ps) (take i ms) (take i ts) p m t (omega (arith, n, k, e)) (omega (arith, n, j, f))) ∙ (λ x. told_all (sym a x) (sym b x) (sym c x)))

-- ---- what is told of nodes

long_children : (n : ℕ) (path : List ℕ) → length path ≡ n → (ds : List ℕ) → Each (λ child. length child ≡ n + 1) (map (λ d. path ++ d ∷ []) ds)
long_children n path e [] = tt
long_children n path e (d ∷ ds) = (length-append path (d ∷ []) ∙ ap (λ m. m + 1) e, long_children n path e ds)

long_told : (n : ℕ) (path : List ℕ) (m t : Node) → length path ≡ n → Each (λ child. length child ≡ n + 1) (told path m t)
long_told n path m t e =
    let ds = filter (λ d. not (bytes_eq (slice_index_or m.children d []) (slice_index_or t.children d []))) digits in
    elim (bytes_eq m.own t.own) as (λ b. Each (λ child. length child ≡ n + 1) (cond b [] (map (λ d. path ++ d ∷ []) ds))) [
      | true ↦ tt
      | false ↦ long_children n path e ds
    ]

pub long_told_all : (n : ℕ) (ps : List (List ℕ)) (ms ts : List Node) → AreLong n ps → AreLong (n + 1) (told_all ps ms ts)
long_told_all n [] ms ts e = tt
long_told_all n (p ∷ ps) [] ts e = tt
long_told_all n (p ∷ ps) (m ∷ ms) [] e = tt
long_told_all n (p ∷ ps) (m ∷ ms) (t ∷ ts) e = Each-append (λ child. length child ≡ n + 1) (told p m t) (told_all ps ms ts) (long_told n p m t e.0) (long_told_all n ps ms ts e.1)

told_all-is : (a b : KeyDigests) (ps : List (List ℕ)) (ms ts : List Node) → ForEach (IsInner a) ps ms → ForEach (IsInner b) ps ts → told_all ps ms ts ≡ differing_children a b ps
told_all-is a b [] ms ts p q = refl
told_all-is a b (x ∷ ps) [] ts p q = absurd p
told_all-is a b (x ∷ ps) (m ∷ ms) [] p q = absurd q
told_all-is a b (x ∷ ps) (m ∷ ms) (t ∷ ts) p q =
    (λ i. told-is a b x (m.own, m.children) (t.own, t.children) p.0.own p.0.children q.0.own q.0.children i ++ told_all-is a b ps ms ts p.1 q.1 i)
    ∙ sym (differing_children-append a b (x ∷ []) ps)

pub answers_long : {Q A : Type 0} (P : Q → A → Type 0) (qs : List Q) (ts : List A) → ForEach P qs ts → length ts ≡ length qs
answers_long P [] [] e = refl
answers_long P [] (t ∷ ts) e = absurd e
answers_long P (q ∷ qs) [] e = absurd e
answers_long P (q ∷ qs) (t ∷ ts) e = let rest = answers_long P qs ts e.1 in omega (arith, rest)

-- some answer was given where some question was asked
some_answered : {Q A : Type 0} (T : Type 0) (qs : List Q) (ts : List A) → ForEach (λ _ _. T) qs ts → (qs ≡ [] → ⊥) → T
some_answered T [] ts e h = absurd (h refl)
some_answered T (q ∷ qs) [] e h = absurd e
some_answered T (q ∷ qs) (t ∷ ts) e h = e.0

-- ---- questions after questions

-- questions of one side, and then more
pub reads_on : {S : Type 0} (s : SideOf S) (on : (m n : ℕ) (old mid new : S) → s.follows m old mid → s.follows n mid new → s.follows (m + n) old new) (m n left mid left' : ℕ) (old at new : S) → ReadsSide s m (with_left old left) (with_left at mid) → ReadsSide s n (with_left at mid) (with_left new left') → ReadsSide s (m + n) (with_left old left) (with_left new left')
reads_on s on m n left mid left' old at new p q = record {
  spent = let e = p.spent in let f = q.spent in omega (arith, e, f);
  follows = on m n old at new p.follows q.follows;
  kept = λ t. let k = p.kept t in keeps_on s old at new k (q.kept k.still);
}

pub reads_of : {S Q A : Type 0} (s : SideOf S) (May Right : Q → A → Type 0) (qs : List Q) (ts : List A) (left left' : ℕ) (old new : S) → AllAnswered s May (AnswersEach s Right qs ts old new) qs ts (with_left old left) (with_left new left') → ReadsSide s (length qs) (with_left old left) (with_left new left')
reads_of s May Right qs ts left left' old new a = record { spent = a.spent; follows = a.follows; kept = λ t. (a.right t).kept }

module _ {L P : Type 0} (l : SideOf L) (p : SideOf P)
    (on : (m n : ℕ) (old mid new : L) → l.follows m old mid → l.follows n mid new → l.follows (m + n) old new)
    (on' : (m n : ℕ) (old mid new : P) → p.follows m old mid → p.follows n mid new → p.follows (m + n) old new) where
  sums : (a b c : ℕ) → a + (b + c) ≡ (a + b) + c
  sums a b c = omega arith

  fault_later : (left mid : Questions) (n m : ℕ) (local local1 local2 : L) (peer peer1 peer2 : P) → ReadsSide l n (with_left local left.local) (with_left local1 mid.local) → ReadsSide p m (with_left peer left.peer) (with_left peer1 mid.peer) → (i j v w : ℕ) (fault : SyncFault)
      → IsFaultOf (BlamesBy l mid.local i v local1 local2) (BlamesBy p mid.peer j w peer1 peer2) fault → IsFaultOf (BlamesBy l left.local (n + i) v local local2) (BlamesBy p left.peer (m + j) w peer peer2) fault
  fault_later left mid n m local local1 local2 peer peer1 peer2 r q i j v w (Local refusal) h = blames_later l on left.local mid.local n local local1 local2 r.spent r.follows (λ t. (r.kept t).still) i v refusal h
  fault_later left mid n m local local1 local2 peer peer1 peer2 r q i j v w (Peer refusal) h = blames_later p on' left.peer mid.peer m peer peer1 peer2 q.spent q.follows (λ t. (q.kept t).still) j w refusal h

  -- a walk that came to an end after questions
  pub end_later : (Few Most : ℕ → Type 0) (left mid : Questions) (n m : ℕ) (local local1 local2 : L) (peer peer1 peer2 : P) (fault : SyncFault) → ReadsSide l n (with_left local left.local) (with_left local1 mid.local) → ReadsSide p m (with_left peer left.peer) (with_left peer1 mid.peer) → ((i : ℕ) → Few i → Most (n + i)) → ((i : ℕ) → Few i → Most (m + i))
      → ReadsEndBy l p Few mid local1 local2 peer1 peer2 fault → ReadsEndBy l p Most left local local2 peer peer2 fault
  end_later Few Most left mid n m local local1 local2 peer peer1 peer2 fault r q f f' e = record {
    asked_local = n + e.asked_local;
    asked_peer = m + e.asked_peer;
    wanted_local = e.wanted_local;
    wanted_peer = e.wanted_peer;
    within = let a = r.spent in let b = q.spent in let c = e.within in (omega (arith, a, c.0), omega (arith, b, c.1));
    few = (subst Most (sums n e.asked_local e.wanted_local) (f (e.asked_local + e.wanted_local) e.few.0), subst Most (sums m e.asked_peer e.wanted_peer) (f' (e.asked_peer + e.wanted_peer) e.few.1));
    follows = (on n e.asked_local local local1 local2 r.follows e.follows.0, on' m e.asked_peer peer peer1 peer2 q.follows e.follows.1);
    cause = fault_later left mid n m local local1 local2 peer peer1 peer2 r q e.asked_local e.asked_peer e.wanted_local e.wanted_peer fault e.cause;
    kept_local = λ t. let k = r.kept t in keeps_on l local local1 local2 k (e.kept_local k.still);
    kept_peer = λ t. let k = q.kept t in keeps_on p peer peer1 peer2 k (e.kept_peer k.still);
  }

  -- ---- a window more

  pub nothing_asked : (self : (s : L) → l.follows 0 s s) (self' : (s : P) → p.follows 0 s s) (left : Questions) (local : L) (peer : P) (below : List (List ℕ)) → below ≡ [] → DescendsBy l p [] left left local local peer peer below
  nothing_asked self self' left local peer below none = record {
    local_side = record { spent = omega arith; follows = self local; kept = λ t. record { still = t; states = refl } };
    peer_side = record { spent = omega arith; follows = self' peer; kept = λ t. record { still = t; states = refl } };
    answers = λ some. absurd (some refl);
    longer = λ n e. subst (Each (λ path. length path ≡ n + 1)) (sym none) tt;
    is = λ u v. none;
  }

  module _ (done window : List (List ℕ)) (left mid left' : Questions) (local local1 local2 : L) (peer peer1 peer2 : P) (below : List (List ℕ)) (mine theirs : List Node)
      (before : DescendsBy l p done left mid local local1 peer peer1 below)
      (first : AllAnswered l (λ _ _. HasAnswered l.follows l.can_answer local1 local2) (AnswersEach l (IsInner (digests (l.states local1))) window mine local1 local2) window mine (with_left local1 mid.local) (with_left local2 left'.local))
      (second : AllAnswered p (λ _ _. HasAnswered p.follows p.can_answer peer1 peer2) (AnswersEach p (IsInner (digests (p.states peer1))) window theirs peer1 peer2) window theirs (with_left peer1 mid.peer) (with_left peer2 left'.peer)) where
    answers_more : (ds : List (List ℕ)) → ds ≡ done → ds ++ window ≢ [] → HaveAnsweredBy l p local local2 peer peer2
    answers_more [] e some = (
      answered_later l on local local1 local2 (length done, before.local_side.follows) (some_answered (HasAnswered l.follows l.can_answer local1 local2) window mine first.may some),
      answered_later p on' peer peer1 peer2 (length done, before.peer_side.follows) (some_answered (HasAnswered p.follows p.can_answer peer1 peer2) window theirs second.may some),
    )
    answers_more (d ∷ ds) e some =
        let old = before.answers (λ none. let both : d ∷ ds ≡ [] = e ∙ none in absurd (cc)) in (
          answered_still l on local local1 local2 (length window, first.follows) old.0,
          answered_still p on' peer peer1 peer2 (length window, second.follows) old.1,
        )

    pub descends_more : DescendsBy l p (done ++ window) left left' local local2 peer peer2 (below ++ told_all window mine theirs)
    descends_more =
        let long = length-append done window in
        let both_l = reads_on l on (length done) (length window) left.local mid.local left'.local local local1 local2 before.local_side (reads_of l (λ _ _. HasAnswered l.follows l.can_answer local1 local2) (IsInner (digests (l.states local1))) window mine mid.local left'.local local1 local2 first) in
        let both_p = reads_on p on' (length done) (length window) left.peer mid.peer left'.peer peer peer1 peer2 before.peer_side (reads_of p (λ _ _. HasAnswered p.follows p.can_answer peer1 peer2) (IsInner (digests (p.states peer1))) window theirs mid.peer left'.peer peer1 peer2 second) in
        record {
          local_side = subst (λ n. ReadsSide l n (with_left local left.local) (with_left local2 left'.local)) (sym long) both_l;
          peer_side = subst (λ n. ReadsSide p n (with_left peer left.peer) (with_left peer2 left'.peer)) (sym long) both_p;
          answers = answers_more done refl;
          longer = λ n e. Each-append (λ path. length path ≡ n + 1) below (told_all window mine theirs) (before.longer n (Each-left (λ path. length path ≡ n) done window e)) (long_told_all n window mine theirs (Each-right (λ path. length path ≡ n) done window e));
          is = λ u v.
              let k = before.local_side.kept u in
              let j = before.peer_side.kept v in
              let a = digests (l.states local) in
              let b = digests (p.states peer) in
              let own = subst (λ m. ForEach (IsInner (digests m)) window mine) k.states (first.right k.still).right in
              let other = subst (λ m. ForEach (IsInner (digests m)) window theirs) j.states (second.right j.still).right in
              (λ i. before.is u v i ++ told_all-is a b window mine theirs own other i) ∙ sym (differing_children-append a b done window);
        }
