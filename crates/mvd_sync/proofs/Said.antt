-- What a side says of a window, as a session reads it.
use Rattle.std.proofs.Common.{◌≡◌, ◌≢◌, ℕ, zero, suc, ◌<◌, ◌≤◌, ◌^◌, List, [], ◌∷◌, length, take, refl, sym, ap, subst, ◌∙◌, arith, Option, Some, None, false}
use Rattle.std.specs.Prelude.{Result, Ok, Err, IfOk, IfErr, Vec}
use Rattle.std.specs.declared.alloc.Global.{Global}
use Rattle.std.proofs.lemmas.List.{length-take, take_all}
use Rattle.mvd_dots.specs.declared.refusals.Refusal.{Refusal}
use Rattle.mvd_dots.specs.declared.refusals.Refusal.TheVariants.{Broken}
use Rattle.mvd_keys.specs.State.{State}
use Rattle.mvd_keys.specs.Writes.{Key}
use Rattle.mvd_peer.specs.PushedStates.{Each}
use Rattle.mvd_peer.specs.Sides.{HasAnswered, SideOf, is_of_question}
use Rattle.mvd_peer.specs.Windows.{Asked, Ends, Kind, Pushes, PushesFirst, for_pushes, for_nodes, for_pages, for_states, gets_of, manner, nodes_of, pages_kind}
use Rattle.mvd_peer.specs.Asking.{PageQuestion, Wanted, count_wanted}
use Rattle.mvd_peer.specs.Saying.{RefusesAll, SideSays, SideTells}
use Rattle.mvd_peer.specs.declared.window.Told.{Told}
use Rattle.mvd_peer.specs.declared.window.Told.TheVariants.{Nodes, Pages, Pushes as Pushed, Refused, States}
use Rattle.mvd_site.specs.Answer.{digests}
use Rattle.mvd_site.specs.Held.{state_at}
use Rattle.mvd_wire.specs.declared.reply.Digests.{Digests}
use Rattle.mvd_sync.specs.Answers.{IsPage, ListingValue}
use Rattle.mvd_sync.proofs.Readings.{IsBucketPage}
use Rattle.mvd_sync.proofs.Readings.{IsInner}
use Rattle.mvd_sync.specs.Questions.{TakesBudget}
use Rattle.mvd_sync.specs.Tellings.{AllRead, IsListingOf, IsNoNode, IsNoPage, IsNodeOf, IsRead, IsStateOf, Page, never, nodes_told, pages_told, pushes_told, states_told}
use Rattle.mvd_sync.specs.declared.asking.Node.{Node}
use Rattle.mvd_sync.specs.declared.telling.Share.{Share}
use Rattle.mvd_sync.proofs.Answering.{ReadOrEnded, Said, each_all, page_apart, read_told}
use Rattle.mvd_sync.proofs.Inner.{inner_right, never_without}
use Rattle.mvd_sync.proofs.ToldPages.{listing_right, not_bad}

-- ---- lists

pub take_none : {X : Type 0} (n : ℕ) (xs : List X) → xs ≡ [] → take n xs ≡ []
take_none zero [] none = refl
take_none (suc n) [] none = refl
take_none n (x ∷ xs) none = absurd (cc)

pub take_of_take : {X : Type 0} (m n : ℕ) (xs : List X) → m ≤ n → take m (take n xs) ≡ take m xs
take_of_take zero zero [] low = refl
take_of_take zero zero (x ∷ xs) low = refl
take_of_take zero (suc n) [] low = refl
take_of_take zero (suc n) (x ∷ xs) low = refl
take_of_take (suc m) zero xs low = absurd (omega (arith, low))
take_of_take (suc m) (suc n) [] low = refl
take_of_take (suc m) (suc n) (x ∷ xs) low = ap (λ ys. x ∷ ys) (take_of_take m n xs (omega (arith, low)))

pub none_long : {X : Type 0} (xs : List X) → length xs ≡ 0 → xs ≡ []
none_long [] e = refl
none_long (x ∷ xs) e = absurd (omega (arith, e))

-- as many as are left are as many as are taken
pub cut_taken : {X : Type 0} (xs : List X) (left left' taken : ℕ) → TakesBudget left left' (length xs) taken → take left xs ≡ take taken xs
cut_taken xs left left' taken takes =
    let spent = takes.spent in
    let most = takes.most in
    let n = length-take left xs in
    elim (Rattle.std.proofs.lemmas.Bool.cases_lt taken (length xs)) [
      | Rattle.std.proofs.Common.inl less ↦ let none = takes.all less in ap (λ k. take k xs) (omega (arith, spent, none))
      | Rattle.std.proofs.Common.inr all ↦ take_all left xs (omega (arith, spent, all)) ∙ sym (take_all taken xs all)
    ]

-- ---- all that it said

module _ {S : Type 0} (s : SideOf S) (old new : S) where
  said_nothing : {Q A : Type 0} (kind : Kind Q A) (qs : List Q) → s.follows 0 old old → qs ≡ [] → new ≡ old → Said s kind qs (Ok []) old new
  said_nothing kind qs self none same =
      subst (λ n. Said s kind qs (Ok []) old n) (sym same)
      (subst (λ xs. Said s kind xs (Ok []) old old) (sym none)
      (record {
        answered = record { count = self; may = tt; right = λ _. tt; told = tt; not_of_question = λ _. tt };
        ended = tt;
        not_of_question = λ _. tt;
        kept = λ t. record { still = t; states = refl };
      }))

  said_refused : {Q A : Type 0} (kind : Kind Q A) (qs : List Q) (w : Wanted) (refusal : Refusal) → length qs ≡ count_wanted w → w.pushes ≡ [] → RefusesAll s w refusal old new → Said s kind qs (Err refusal) old new
  said_refused kind qs w refusal many none h = record {
    answered = tt;
    ended = subst (λ n. Ends s.follows s.can_refuse n old new refusal) (sym many) h.ends;
    not_of_question = h.not_of_question;
    kept = λ t. let k = h.kept none t in record { still = k.0; states = k.1 };
  }

  module _ (w : Wanted) (self : s.follows 0 old old) where
    -- of nodes
    tells_nodes : (v : Vec (Result Digests Refusal) Global) → SideTells s w (Some (Nodes v)) old new → Said s (nodes_of s.is_faithful s.states old) w.nodes (Ok v.items) old new
    tells_nodes v h = record { answered = h.0; ended = tt; not_of_question = λ _. tt; kept = λ t. let k = h.1 t in record { still = k.0; states = k.1 } }

    pub said_nodes : (told : Option Told) → w.pages ≡ [] → w.gets ≡ [] → w.pushes ≡ [] → SideSays s w told old new → Said s (nodes_of s.is_faithful s.states old) w.nodes (nodes_told told) old new
    said_nodes None p g u h = said_nothing (nodes_of s.is_faithful s.states old) w.nodes self (none_long w.nodes (let e = h.0 in omega (arith, e))) h.1
    said_nodes (Some (Nodes v)) p g u h = tells_nodes v h.1
    said_nodes (Some (Pages v)) p g u h = let n = ap length p in let m = h.0 in absurd (omega (arith, n, m))
    said_nodes (Some (States v)) p g u h = let n = ap length g in let m = h.0 in absurd (omega (arith, n, m))
    said_nodes (Some (Pushed v)) p g u h = let n = ap length u in let m = h.0 in absurd (omega (arith, n, m))
    said_nodes (Some (Refused refusal)) p g u h =
        let a = ap length p in
        let b = ap length g in
        let c = ap length u in
        said_refused (nodes_of s.is_faithful s.states old) w.nodes w refusal (omega (arith, a, b, c)) u h.1

    pub told_nodes : (told : Option Told) (ts : List (Result Digests Refusal)) → SideTells s w told old new → nodes_told told ≡ Ok ts → length ts ≡ length w.nodes → Said s (nodes_of s.is_faithful s.states old) w.nodes (nodes_told told) old new
    told_nodes None ts h is long =
        let none : [] ≡ ts = cc in
        let n = ap length none in
        said_nothing (nodes_of s.is_faithful s.states old) w.nodes self (none_long w.nodes (omega (arith, n, long))) h
    told_nodes (Some (Nodes v)) ts h is long = tells_nodes v h
    told_nodes (Some (Pages v)) ts h is long = absurd (cc)
    told_nodes (Some (States v)) ts h is long = absurd (cc)
    told_nodes (Some (Pushed v)) ts h is long = absurd (cc)
    told_nodes (Some (Refused refusal)) ts h is long = absurd h

    -- of pages
    tells_pages : (v : Vec (Result Page Refusal) Global) → SideTells s w (Some (Pages v)) old new → Said s (pages_kind s.is_faithful s.states old) w.pages (Ok v.items) old new
    tells_pages v h = record { answered = h.0; ended = tt; not_of_question = λ _. tt; kept = λ t. let k = h.1 t in record { still = k.0; states = k.1 } }

    pub said_pages : (told : Option Told) → w.nodes ≡ [] → w.gets ≡ [] → w.pushes ≡ [] → SideSays s w told old new → Said s (pages_kind s.is_faithful s.states old) w.pages (pages_told told) old new
    said_pages None p g u h = said_nothing (pages_kind s.is_faithful s.states old) w.pages self (none_long w.pages (let e = h.0 in omega (arith, e))) h.1
    said_pages (Some (Nodes v)) p g u h = let n = ap length p in let m = h.0 in absurd (omega (arith, n, m))
    said_pages (Some (Pages v)) p g u h = tells_pages v h.1
    said_pages (Some (States v)) p g u h = let n = ap length g in let m = h.0 in absurd (omega (arith, n, m))
    said_pages (Some (Pushed v)) p g u h = let n = ap length u in let m = h.0 in absurd (omega (arith, n, m))
    said_pages (Some (Refused refusal)) p g u h =
        let a = ap length p in
        let b = ap length g in
        let c = ap length u in
        said_refused (pages_kind s.is_faithful s.states old) w.pages w refusal (omega (arith, a, b, c)) u h.1

    pub told_pages : (told : Option Told) (ts : List (Result Page Refusal)) → SideTells s w told old new → pages_told told ≡ Ok ts → length ts ≡ length w.pages → Said s (pages_kind s.is_faithful s.states old) w.pages (pages_told told) old new
    told_pages None ts h is long =
        let none : [] ≡ ts = cc in
        let n = ap length none in
        said_nothing (pages_kind s.is_faithful s.states old) w.pages self (none_long w.pages (omega (arith, n, long))) h
    told_pages (Some (Nodes v)) ts h is long = absurd (cc)
    told_pages (Some (Pages v)) ts h is long = tells_pages v h
    told_pages (Some (States v)) ts h is long = absurd (cc)
    told_pages (Some (Pushed v)) ts h is long = absurd (cc)
    told_pages (Some (Refused refusal)) ts h is long = absurd h

    -- of states
    tells_states : (v : Vec (Result State Refusal) Global) → SideTells s w (Some (States v)) old new → Said s (gets_of s.can_give s.is_faithful s.states old) w.gets (Ok v.items) old new
    tells_states v h = record { answered = h.0; ended = tt; not_of_question = λ _. tt; kept = λ t. let k = h.1 t in record { still = k.0; states = k.1 } }

    pub said_states : (told : Option Told) → w.nodes ≡ [] → w.pages ≡ [] → w.pushes ≡ [] → SideSays s w told old new → Said s (gets_of s.can_give s.is_faithful s.states old) w.gets (states_told told) old new
    said_states None p g u h = said_nothing (gets_of s.can_give s.is_faithful s.states old) w.gets self (none_long w.gets (let e = h.0 in omega (arith, e))) h.1
    said_states (Some (Nodes v)) p g u h = let n = ap length p in let m = h.0 in absurd (omega (arith, n, m))
    said_states (Some (Pages v)) p g u h = let n = ap length g in let m = h.0 in absurd (omega (arith, n, m))
    said_states (Some (States v)) p g u h = tells_states v h.1
    said_states (Some (Pushed v)) p g u h = let n = ap length u in let m = h.0 in absurd (omega (arith, n, m))
    said_states (Some (Refused refusal)) p g u h =
        let a = ap length p in
        let b = ap length g in
        let c = ap length u in
        said_refused (gets_of s.can_give s.is_faithful s.states old) w.gets w refusal (omega (arith, a, b, c)) u h.1

    pub told_states : (told : Option Told) (ts : List (Result State Refusal)) → SideTells s w told old new → states_told told ≡ Ok ts → length ts ≡ length w.gets → Said s (gets_of s.can_give s.is_faithful s.states old) w.gets (states_told told) old new
    told_states None ts h is long =
        let none : [] ≡ ts = cc in
        let n = ap length none in
        said_nothing (gets_of s.can_give s.is_faithful s.states old) w.gets self (none_long w.gets (omega (arith, n, long))) h
    told_states (Some (Nodes v)) ts h is long = absurd (cc)
    told_states (Some (Pages v)) ts h is long = absurd (cc)
    told_states (Some (States v)) ts h is long = tells_states v h
    told_states (Some (Pushed v)) ts h is long = absurd (cc)
    told_states (Some (Refused refusal)) ts h is long = absurd h

-- ---- what is read of it

-- all of a window was asked, where all was read
pub all_long : {Q A B : Type 0} (IsOf : A → B → Type 0) (qs : List Q) (left left' : ℕ) (told : Result (List (Result A Refusal)) Refusal) (share : Share) (read : List B) → TakesBudget left left' (length qs) share.asked → share.wanted ≡ length qs → (all : AllRead IsOf told share read) → length all.answers ≡ length (take left qs)
all_long IsOf qs left left' told share read takes wanted all =
    let spent = takes.spent in
    let most = takes.most in
    let counted = all.counted in
    let whole = all.whole in
    let n = length-take left qs in
    omega (arith, spent, most, counted, whole, n, wanted)

module _ {S : Type 0} (s : SideOf S) (left left' : ℕ) (old new : S) (share : Share) where
  abbrev Answered : Type 0
  Answered = HasAnswered s.follows s.can_answer old new

  pub nodes_read : (qs : List (List ℕ)) → TakesBudget left left' (length qs) share.asked → share.wanted ≡ length qs → Each (λ path. length path < 3) qs → (told : Result (List (Result Digests Refusal)) Refusal) → Said s (nodes_of s.is_faithful s.states old) (take left qs) told old new
      → (result : Result (Vec Node Global) Refusal) → IsRead IsNodeOf IsNoNode told share result → ReadOrEnded s qs left left' old new (λ _ _. Answered) (IsInner (digests (s.states old))) result
  nodes_read qs takes wanted short told said result read =
      let states = s.states old in
      read_told s qs left left' share.asked old new takes (for_nodes (s.is_faithful old) states) (λ path. length path < 3) IsNodeOf IsNoNode (λ _ _. Answered) (IsInner (digests states))
      (λ _ _ _ _ answered _. answered) (inner_right (digests states)) (never_without (digests states)) (λ _ _ _ h. h) (λ t. t) short told
      (subst (λ xs. Said s (nodes_of s.is_faithful s.states old) xs told old new) (cut_taken qs left left' share.asked takes) said) share refl result wanted read

  pub pages_read : (qs : List PageQuestion) → TakesBudget left left' (length qs) share.asked → share.wanted ≡ length qs → Each (λ (q : PageQuestion). length q.0 ≡ 3) qs → (told : Result (List (Result Page Refusal)) Refusal) → Said s (pages_kind s.is_faithful s.states old) (take left qs) told old new
      → (result : Result (Vec ListingValue Global) Refusal) → IsRead IsListingOf IsNoPage told share result → ReadOrEnded s qs left left' old new (λ _ page. IsPage None page.0 page.1 × (length page.0 < 2 ^ 64) × Answered) (λ q page. IsBucketPage (digests (s.states old)) q.0 q.1 page.0 page.1) result
  pages_read qs takes wanted deep told said result read =
      let states = s.states old in
      read_told s qs left left' share.asked old new takes (for_pages (s.is_faithful old) states) (λ (q : PageQuestion). length q.0 ≡ 3) IsListingOf IsNoPage (λ _ page. IsPage None page.0 page.1 × (length page.0 < 2 ^ 64) × Answered) (λ q page. IsBucketPage (digests states) q.0 q.1 page.0 page.1)
      (λ _ _ _ _ answered is. (is.1, is.2, answered)) (λ q page listing _. listing_right (digests states) q page listing) (λ q page _. not_bad (digests states) q page) (λ q refusal. page_apart q.0 refusal) (λ t. t) deep told
      (subst (λ xs. Said s (pages_kind s.is_faithful s.states old) xs told old new) (cut_taken qs left left' share.asked takes) said) share refl result wanted read

  pub states_read : (qs : List Key) → TakesBudget left left' (length qs) share.asked → share.wanted ≡ length qs → (told : Result (List (Result State Refusal)) Refusal) → Said s (gets_of s.can_give s.is_faithful s.states old) (take left qs) told old new
      → (result : Result (Vec State Global) Refusal) → IsRead IsStateOf never told share result → ReadOrEnded s qs left left' old new (λ key state. s.can_give key state × Answered) (λ key state. state ≡ state_at (s.states old) key) result
  states_read qs takes wanted told said result read =
      let states = s.states old in
      read_told s qs left left' share.asked old new takes (for_states s.can_give (s.is_faithful old) states) (λ _. Unit {0}) IsStateOf never (λ key state. s.can_give key state × Answered) (λ key state. state ≡ state_at states key)
      (λ key _ _ given answered is. (subst (s.can_give key) (sym is) given, answered)) (λ _ _ _ _ right is. is ∙ right) (λ _ _ _ _ none. none) (λ _ _ _ h. h) (λ t. t) (each_all qs) told
      (subst (λ xs. Said s (gets_of s.can_give s.is_faithful s.states old) xs told old new) (cut_taken qs left left' share.asked takes) said) share refl result wanted read

-- ---- pushes

-- what a side said of pushes
pub record SaidPushes {S : Type 0} (s : SideOf S) (pairs : List (Key × State)) (told : Result (List (Result (Unit {0}) Refusal)) Refusal) (old new : S) : Type 0 where
  pub answered : IfOk told (λ ts. Asked (manner s.follows s.can_refuse s.can_answer) for_pushes pairs ts old new)
  pub pushes : IfOk told (λ ts. s.is_faithful old → s.is_faithful new × Pushes (s.most_keys old) (s.states old) pairs ts (s.states new))
  pub ended : IfErr told (Ends s.follows s.can_refuse (length pairs) old new)
  pub not_of_question : IfErr told (λ refusal. s.is_faithful old → is_of_question refusal ≡ false)
  pub unbroken : IfErr told (λ refusal. s.is_faithful old → refusal ≢ Broken → s.is_faithful new)
  pub first : IfErr told (λ refusal. s.is_faithful old → PushesFirst (s.is_faithful new) (s.most_keys old) (s.states old) pairs (s.states new))

module _ {S : Type 0} (s : SideOf S) (old new : S) (w : Wanted) (self : s.follows 0 old old) where
  pushes_nothing : (pairs : List (Key × State)) → pairs ≡ [] → new ≡ old → SaidPushes s pairs (Ok []) old new
  pushes_nothing pairs none same =
      subst (λ n. SaidPushes s pairs (Ok []) old n) (sym same)
      (subst (λ xs. SaidPushes s xs (Ok []) old old) (sym none)
      (record {
        answered = record { count = self; may = tt; right = λ _. tt; told = tt; not_of_question = λ _. tt };
        pushes = λ t. (t, refl);
        ended = tt;
        not_of_question = tt;
        unbroken = tt;
        first = tt;
      }))

  tells_pushes : (v : Vec (Result (Unit {0}) Refusal) Global) → SideTells s w (Some (Pushed v)) old new → SaidPushes s w.pushes (Ok v.items) old new
  tells_pushes v h = record { answered = h.0; pushes = h.1; ended = tt; not_of_question = tt; unbroken = tt; first = tt }

  pub said_pushes : (told : Option Told) → w.nodes ≡ [] → w.pages ≡ [] → w.gets ≡ [] → SideSays s w told old new → SaidPushes s w.pushes (pushes_told told) old new
  said_pushes None p g u h = pushes_nothing w.pushes (none_long w.pushes (let e = h.0 in omega (arith, e))) h.1
  said_pushes (Some (Nodes v)) p g u h = let n = ap length p in let m = h.0 in absurd (omega (arith, n, m))
  said_pushes (Some (Pages v)) p g u h = let n = ap length g in let m = h.0 in absurd (omega (arith, n, m))
  said_pushes (Some (States v)) p g u h = let n = ap length u in let m = h.0 in absurd (omega (arith, n, m))
  said_pushes (Some (Pushed v)) p g u h = tells_pushes v h.1
  said_pushes (Some (Refused refusal)) p g u h =
      let a = ap length p in
      let b = ap length g in
      let c = ap length u in
      let many : count_wanted w ≡ length w.pushes = omega (arith, a, b, c) in
      record {
        answered = tt;
        pushes = tt;
        ended = subst (λ n. Ends s.follows s.can_refuse n old new refusal) many h.1.ends;
        not_of_question = h.1.not_of_question;
        unbroken = h.1.unbroken;
        first = h.1.first;
      }

  pub told_pushes : (told : Option Told) (ts : List (Result (Unit {0}) Refusal)) → SideTells s w told old new → pushes_told told ≡ Ok ts → length ts ≡ length w.pushes → SaidPushes s w.pushes (pushes_told told) old new
  told_pushes None ts h is long =
      let none : [] ≡ ts = cc in
      let n = ap length none in
      pushes_nothing w.pushes (none_long w.pushes (omega (arith, n, long))) h
  told_pushes (Some (Nodes v)) ts h is long = absurd (cc)
  told_pushes (Some (Pages v)) ts h is long = absurd (cc)
  told_pushes (Some (States v)) ts h is long = absurd (cc)
  told_pushes (Some (Pushed v)) ts h is long = tells_pushes v h
  told_pushes (Some (Refused refusal)) ts h is long = absurd h
