-- What is told over HTTP at once depends on no key beyond the prefix of who asks.
use Rattle.std.proofs.Common.{◌≡◌, ◌∙◌, ◌==◌, ◌-◌, ◌++◌, ◌&&◌, ◌||◌, ℕ, zero, suc, Bool, true, false, cond, List, [], ◌∷◌, length, take, map, filter, Option, Some, None, option_map, Result, Ok, Err, refl, sym, ap, subst}
use Rattle.std.specs.Prelude.{codes, nat_le, nat_lt}
use Rattle.std.specs.List.{AllByRecursion, flat_map}
use Rattle.mvd_conn.specs.Rights.{AgreeWithin, covers, may, prefix_of}
use Rattle.mvd_conn.specs.declared.right.Right.{Right}
use Rattle.mvd_dots.specs.declared.refusals.Refusal.{Refusal}
use Rattle.mvd_host.proofs.Within.{front_covers, within}
use Rattle.mvd_host.specs.Feeds.{ChangedValue, FeedValue, NotedValue, begins_with, is_listed, keys_with, lasts, page_of, page_told, root_now, rounds_since}
use Rattle.mvd_http.specs.Answers.{denied_told, later_told, line_told}
use Rattle.mvd_http.specs.Followed.{changed_text, state_or_later, states_text}
use Rattle.mvd_http.specs.Json.{changes_text, comma_if, commaed, count_mark, digest_json, led, later_json, next_text, next_text_of, state_json}
use Rattle.mvd_http.specs.Listed.{front, front_of, is_told, item_bytes, item_json, items_json, listed_json, listed_told, page_json}
use Rattle.mvd_http.specs.Seen.{then_read}
use Rattle.mvd_http.specs.declared.question.Followed.{Followed}
use Rattle.mvd_http.specs.declared.question.Question.TheVariants.{Changes, Listed}
use Rattle.mvd_http.specs.declared.question.Spelling.{Spelling}
use Rattle.mvd_http.specs.declared.question.Wanted.{Wanted}
use Rattle.mvd_keys.proofs.Lists.{and_true}
use Rattle.mvd_keys.specs.State.{State}
use Rattle.mvd_keys.specs.Writes.{Key}
use Rattle.mvd_rows.specs.Siblings.{is_after_key, keys_answer, sibling_counts}
use Rattle.mvd_server.specs.Bounds.{AreAlike, LinesWithin, NewsWithin, PageWithin}
use Rattle.mvd_server.specs.Questions.{answer_line, ask_line, asks_text, later_or}
use Rattle.mvd_server.specs.Since.{news_text, since_text, text_from, told_if}
use Rattle.mvd_site.specs.Answer.{answer_from, state_at}
use Rattle.mvd_site.specs.Config.{ConfigValue}
use Rattle.mvd_site.specs.Held.{States}
use Rattle.mvd_site.specs.Sites.{SiteValue}
use Rattle.mvd_web.specs.Rights.{may_ask}
use Rattle.mvd_wire.specs.declared.reply.Reply.{Reply}
use Rattle.mvd_wire.specs.declared.request.Request.{Request}
use Rattle.mvd_wire.specs.declared.request.Request.TheVariants.{Keys}

-- ---- all of a list

all_map : {X : Type 0} (P Q : X → Type 0) → ((x : X) → P x → Q x) → (xs : List X) → AllByRecursion P xs → AllByRecursion Q xs
all_map P Q step [] all = tt
all_map P Q step (x ∷ xs) all = (step x all.0, all_map P Q step xs all.1)

all_if : {X : Type 0} (P : X → Type 0) (b : Bool) (x : X) (xs : List X) → P x → AllByRecursion P xs → AllByRecursion P (cond b (x ∷ xs) xs)
all_if P true x xs one all = (one, all)
all_if P false x xs one all = all

all_filter : {X : Type 0} (P : X → Type 0) (test : X → Bool) (xs : List X) → AllByRecursion P xs → AllByRecursion P (filter test xs)
all_filter P test [] all = tt
all_filter P test (x ∷ xs) all = all_if P (test x) x (filter test xs) all.0 (all_filter P test xs all.1)

all_take : {X : Type 0} (P : X → Type 0) (n : ℕ) (xs : List X) → AllByRecursion P xs → AllByRecursion P (take n xs)
all_take P zero xs all = tt
all_take P (suc n) [] all = tt
all_take P (suc n) (x ∷ xs) all = (all.0, all_take P n xs all.1)

all_append : {X : Type 0} (P : X → Type 0) (xs ys : List X) → AllByRecursion P xs → AllByRecursion P ys → AllByRecursion P (xs ++ ys)
all_append P [] ys first second = second
all_append P (x ∷ xs) ys first second = (first.0, all_append P xs ys first.1 second)

-- those that pass a test pass it
all_pass : {X : Type 0} (test : X → Bool) (xs : List X) → AllByRecursion (λ x. test x ≡ true) (filter test xs)
all_pass test [] = tt
all_pass test (x ∷ xs) = on (all_pass test xs) (test x) refl
  where
    on : AllByRecursion (λ x. test x ≡ true) (filter test xs) → (b : Bool) → test x ≡ b → AllByRecursion (λ x. test x ≡ true) (cond b (x ∷ filter test xs) (filter test xs))
    on rest true is = (is, rest)
    on rest false is = rest

flat_same : {X A : Type 0} (f g : X → List A) (xs : List X) → AllByRecursion (λ x. f x ≡ g x) xs → flat_map f xs ≡ flat_map g xs
flat_same f g [] all = refl
flat_same f g (x ∷ xs) all = ap (λ l. l ++ flat_map f xs) all.0 ∙ ap (λ l. g x ++ l) (flat_same f g xs all.1)

-- ---- lines

then_same : {A B : Type 0} (r : Result A Refusal) (f g : A → Result B Refusal) → ((x : A) → f x ≡ g x) → then_read r f ≡ then_read r g
then_same (Ok x) f g same = same x
then_same (Err refusal) f g same = refl

answers_same : (right : Right) (a b : SiteValue) (request : Request) → AreAlike (prefix_of right) a b → may right request ≡ true
    → answer_from a.config a.states request ≡ answer_from b.config b.states request
answers_same right a b request alike is =
    (within right request is).replies a.config a.states b.states alike.states alike.filled
    ∙ ap (λ (c : ConfigValue). answer_from c b.states request) alike.config

line_same : (right : Right) (a b : SiteValue) (spelling : Spelling) (told : ℕ) (ask : Result Request Refusal) → AreAlike (prefix_of right) a b → ask_line right a spelling told ask ≡ ask_line right b spelling told ask
line_same right a b spelling told (Err refusal) alike = refl
line_same right a b spelling told (Ok request) alike = on (may right request) refl
  where
    on : (m : Bool) → may right request ≡ m → cond m (answer_line a spelling told request) (Ok (denied_told request)) ≡ cond m (answer_line b spelling told request) (Ok (denied_told request))
    on true is = ap (λ (reply : Reply). later_or (nat_le 1048576 told) (later_told request) (line_told spelling request reply)) (answers_same right a b request alike is)
    on false is = refl

pub lines_within : (right : Right) (asks : List (Result Request Refusal)) → LinesWithin right asks
unfolding asks_text
lines_within right [] a b spelling told alike = refl
lines_within right (ask ∷ asks) a b spelling told alike =
    ap (λ (r : Result (List ℕ) Refusal). then_read r (λ line. asks_text right a spelling ((told ++ line) ++ 10 ∷ []) asks)) (line_same right a b spelling (length told) ask alike)
    ∙ then_same (ask_line right b spelling (length told) ask) (λ line. asks_text right a spelling ((told ++ line) ++ 10 ∷ []) asks) (λ line. asks_text right b spelling ((told ++ line) ++ 10 ∷ []) asks)
    (λ line. lines_within right asks a b spelling ((told ++ line) ++ 10 ∷ []) alike)

-- ---- pages

module _ (wanted : Wanted) (sa sb : Key → State) where
  abbrev Same : Key × ℕ → Type 0
  Same e = sa e.0 ≡ sb e.0

  fronts_same : (room : ℕ) (es : List (Key × ℕ)) → AllByRecursion Same es → front (λ e. item_bytes wanted e (sa e.0)) room es ≡ front (λ e. item_bytes wanted e (sb e.0)) room es
  unfolding front
  fronts_same room [] all = refl
  fronts_same room (e ∷ es) all =
      on (fronts_same (room - item_bytes wanted e (sa e.0)) es all.1 ∙ ap (λ (s : State). front (λ e. item_bytes wanted e (sb e.0)) (room - item_bytes wanted e s) es) all.0) (room == 0)
    where
      on : front (λ e. item_bytes wanted e (sa e.0)) (room - item_bytes wanted e (sa e.0)) es ≡ front (λ e. item_bytes wanted e (sb e.0)) (room - item_bytes wanted e (sb e.0)) es
          → (b : Bool) → cond b [] (e ∷ front (λ e. item_bytes wanted e (sa e.0)) (room - item_bytes wanted e (sa e.0)) es)
          ≡ cond b [] (e ∷ front (λ e. item_bytes wanted e (sb e.0)) (room - item_bytes wanted e (sb e.0)) es)
      on rest true = refl
      on rest false = ap (λ (l : List (Key × ℕ)). e ∷ l) rest

  all_front : (bytes : Key × ℕ → ℕ) (room : ℕ) (es : List (Key × ℕ)) → AllByRecursion Same es → AllByRecursion Same (front bytes room es)
  unfolding front
  all_front bytes room [] all = tt
  all_front bytes room (e ∷ es) all = on (all_front bytes (room - bytes e) es all.1) (room == 0)
    where
      on : AllByRecursion Same (front bytes (room - bytes e) es) → (b : Bool) → AllByRecursion Same (cond b [] (e ∷ front bytes (room - bytes e) es))
      on rest true = tt
      on rest false = (all.0, rest)

  item_same : (e : Key × ℕ) → Same e → item_json wanted e (sa e.0) ≡ item_json wanted e (sb e.0)
  item_same e same = ap (λ (s : State). item_json wanted e s) same

  commaed_same : (es : List (Key × ℕ)) → AllByRecursion Same es → commaed (λ e. item_json wanted e (sa e.0)) es ≡ commaed (λ e. item_json wanted e (sb e.0)) es
  commaed_same [] all = refl
  commaed_same (e ∷ es) all =
      ap (λ l. l ++ flat_map (led (λ e. item_json wanted e (sa e.0))) es) (item_same e all.0)
      ∙ ap (λ l. item_json wanted e (sb e.0) ++ l) (flat_same (led (λ e. item_json wanted e (sa e.0))) (led (λ e. item_json wanted e (sb e.0))) es
      (all_map Same (λ e. led (λ e. item_json wanted e (sa e.0)) e ≡ led (λ e. item_json wanted e (sb e.0)) e) (λ e same. ap (λ l. codes "," ++ l) (item_same e same)) es all.1))

  page_same : (es : List (Key × ℕ)) (more : Bool) → AllByRecursion Same es → page_json wanted sa es more ≡ page_json wanted sb es more
  page_same es more all =
      ap (λ items. codes "{\"keys\":[" ++ (items ++ (codes "]" ++ (next_text (next_text_of count_mark more es) ++ codes "}"))))
      (commaed_same (filter (is_told wanted) es) (all_filter Same (is_told wanted) es all))

  listed_same : (es : List (Key × ℕ)) (more : Bool) → AllByRecursion Same es → listed_json wanted sa es more ≡ listed_json wanted sb es more
  listed_same es more all =
      let first = take wanted.limit es in
      let some = all_take Same wanted.limit es all in
      ap (λ fr. page_json wanted sa fr (more || nat_lt (length fr) (length es))) (fronts_same 1048576 first some)
      ∙ page_same (front_of wanted sb first) (more || nat_lt (length (front_of wanted sb first)) (length es)) (all_front (λ e. item_bytes wanted e (sb e.0)) 1048576 first some)

-- a key within the prefix has one state in both
state_same : (prefix : List ℕ) (a b : States) (key : Key) → AgreeWithin prefix a b → covers prefix key ≡ true → state_at a key ≡ state_at b key
state_same prefix a b key agree is = rw (agree key is) refl

pub page_within : (right : Right) (prefix : List ℕ) (after : Option Key) (wanted : Wanted) → may_ask right (Listed (Keys prefix after) wanted) ≡ true → PageWithin right (Listed (Keys prefix after) wanted)
page_within right prefix after wanted is a b alike =
    ap (λ (reply : Reply). listed_told wanted (state_at a.states) reply) (answers_same right a b (Keys prefix after) alike is)
    ∙ ap Ok (listed_same wanted (state_at a.states) (state_at b.states) page.0 page.1 all)
  where
    test : Key × ℕ → Bool
    test e = begins_with prefix e.0 && is_after_key after e.0

    page : List (Key × ℕ) × Bool
    page = keys_answer b.states prefix after

    all : AllByRecursion (λ (e : Key × ℕ). state_at a.states e.0 ≡ state_at b.states e.0) page.0
    all = all_take (λ (e : Key × ℕ). state_at a.states e.0 ≡ state_at b.states e.0) 1000 (filter test (sibling_counts b.states))
        (all_map (λ e. test e ≡ true) (λ e. state_at a.states e.0 ≡ state_at b.states e.0)
        (λ e passes. state_same (prefix_of right) a.states b.states e.0 alike.states (front_covers (prefix_of right) prefix e.0 is (and_true (begins_with prefix e.0) (is_after_key after e.0) passes).0))
        (filter test (sibling_counts b.states)) (all_pass test (sibling_counts b.states)))

-- ---- changes

all_lasts : (P : Key → Type 0) (keys : List Key) → AllByRecursion P keys → AllByRecursion P (lasts keys)
all_lasts P [] all = tt
all_lasts P (key ∷ keys) all = on (all_lasts P keys all.1) (is_listed keys key)
  where
    on : AllByRecursion P (lasts keys) → (b : Bool) → AllByRecursion P (cond b (lasts keys) (key ∷ lasts keys))
    on rest true = rest
    on rest false = (all.0, rest)

all_with : (prefix : List ℕ) (rounds : List NotedValue) → AllByRecursion (λ key. begins_with prefix key ≡ true) (keys_with prefix rounds)
all_with prefix [] = tt
all_with prefix (noted ∷ rounds) =
    all_append (λ key. begins_with prefix key ≡ true) (filter (begins_with prefix) noted.keys) (keys_with prefix rounds) (all_pass (begins_with prefix) noted.keys) (all_with prefix rounds)

told_begin : (feed : FeedValue) (prefix : List ℕ) (since : Option (List ℕ)) (told : ChangedValue) → told_if feed prefix since ≡ Some told → AllByRecursion (λ key. begins_with prefix key ≡ true) told.keys
told_begin feed prefix None told is = absurd (let no : ◌≡◌ {A = Option ChangedValue} None (Some told) = is in cc)
told_begin feed prefix (Some root) told is = on (rounds_since feed root) refl
  where
    on : (o : Option (List NotedValue)) → rounds_since feed root ≡ o → AllByRecursion (λ key. begins_with prefix key ≡ true) told.keys
    on None none = absurd (let no : ◌≡◌ {A = Option ChangedValue} None (Some told) = ap (λ (o : Option (List NotedValue)). option_map (page_told prefix root) o) (sym none) ∙ is in cc)
    on (Some rounds) some =
        let one : page_told prefix root rounds ≡ told = (let both : ◌≡◌ {A = Option ChangedValue} (Some (page_told prefix root rounds)) (Some told) = ap (λ (o : Option (List NotedValue)). option_map (page_told prefix root) o) (sym some) ∙ is in cc) in
        subst (λ (t : ChangedValue). AllByRecursion (λ key. begins_with prefix key ≡ true) t.keys) one (all_lasts (λ key. begins_with prefix key ≡ true) (keys_with prefix (page_of prefix [] rounds)) (all_with prefix (page_of prefix [] rounds)))

module _ (sa sb : Key → State) (spelling : Spelling) where
  states_same : (is_first : Bool) (told : List ℕ) (keys : List Key) → AllByRecursion (λ key. sa key ≡ sb key) keys → states_text sa spelling is_first told keys ≡ states_text sb spelling is_first told keys
  unfolding states_text
  states_same is_first told [] all = refl
  states_same is_first told (key ∷ keys) all =
      states_same false ((told ++ comma_if is_first) ++ state_or_later sa spelling (told ++ comma_if is_first) key) keys all.1
      ∙ ap (λ item. states_text sb spelling false ((told ++ comma_if is_first) ++ item) keys) (ap (λ (s : State). cond (nat_le 1048576 (length (told ++ comma_if is_first))) (later_json key) (state_json spelling key s)) all.0)

changed_same : (sa sb : Key → State) (with_states : Option Spelling) (root : List ℕ) (keys : List Key) → AllByRecursion (λ key. sa key ≡ sb key) keys → changed_text sa with_states root keys ≡ changed_text sb with_states root keys
changed_same sa sb (Some spelling) root keys all = ap (λ items. codes "{\"root\":" ++ (digest_json root ++ (codes ",\"keys\":[" ++ (items ++ codes "],\"resync\":false}")))) (states_same sa sb spelling true [] keys all)
changed_same sa sb None root keys all = refl

pub news_within : (right : Right) (since : Option (List ℕ)) (wait : ℕ) (followed : Followed) → may_ask right (Changes since wait followed) ≡ true → NewsWithin right followed
news_within right asked wait followed may feed root since a b known agree = from (root_now feed) known
  where
    news : (now : List ℕ) (told : Option ChangedValue) → told_if feed followed.prefix since ≡ told → news_text followed a now told ≡ news_text followed b now told
    news now None is = refl
    news now (Some told) is =
        changed_same (state_at a) (state_at b) followed.states told.root told.keys
        (all_map (λ key. begins_with followed.prefix key ≡ true) (λ key. state_at a key ≡ state_at b key)
        (λ key begins. state_same (prefix_of right) a b key agree (front_covers (prefix_of right) followed.prefix key may begins)) told.keys (told_begin feed followed.prefix since told is))

    from : (o : Option (List ℕ)) → o ≡ Some root → text_from o feed followed a since ≡ text_from o feed followed b since
    from None is = absurd (let no : ◌≡◌ {A = Option (List ℕ)} None (Some root) = is in cc)
    from (Some now) is = news now (told_if feed followed.prefix since) refl
