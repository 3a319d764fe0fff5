-- Commits one after the other, as requests are answered that came at once.
use Rattle.std.proofs.Common.{arith, ◌≡◌, ◌∙◌, ◌+◌, ◌-◌, ◌<◌, ◌≤◌, ℕ, List, [], ◌∷◌, ◌++◌, Ok, flat_map, length, map, take, drop, get_or, refl, sym, ap, ap₂, subst, append-nil, length-append, length-drop}
use Rattle.std.proofs.Math.Seq.{take-add}
use Rattle.std.proofs.lemmas.Grind.{flat_map-append}
use Rattle.std.proofs.lemmas.List.{length-map, length-take-le, map-append, take_rest}
use Rattle.mvd_wire.specs.declared.request.Request.{Request}
use Rattle.mvd_wire.specs.declared.reply.Reply.{Reply}
use Rattle.sqlite_trees.specs.declared.store.Store.{Ghosts}
use Rattle.mvd_replica.specs.declared.replica.Replica.{Replica}
use Rattle.mvd_replica.specs.Commits.{AllCommit, AnswersOneRequest, AnswersInCommits, SharesCommit, Shares, SharesFront}
use Rattle.mvd_replica.specs.Turns.{Turn}

-- what is left of the requests, as the code has it
pub rest_of : (requests : List Request) (n : ℕ) (told : List Reply) → n ≡ length told → take (length requests - n) (drop n requests) ≡ drop (length told) requests
rest_of requests n told same = take_rest requests n ∙ ap (λ k. drop k requests) same

first_taken : (requests : List Request) (request : Request) → 0 < length requests → request ≡ get_or requests 0 request → take 1 requests ≡ request ∷ []
first_taken [] request some is = absurd (omega (arith, some))
first_taken (r ∷ requests) request some is = ap (λ r. r ∷ []) (sym is)

last_is : (init : List Reply) (told reply : Reply) → told ∷ [] ≡ init ++ reply ∷ [] → told ≡ reply
last_is [] told reply is = cc
last_is (x ∷ []) told reply is = absurd cc
last_is (x ∷ y ∷ init) told reply is = absurd cc

alone_turns : (turns : List Turn) (request : Request) (init : List Reply) (reply : Reply) → map (λ (t : Turn). t.asked) turns ≡ Ok request ∷ [] → map (λ (t : Turn). t.reply) turns ≡ init ++ reply ∷ [] →
    turns ≡ record { asked = Ok request; reply = reply } ∷ []
alone_turns [] request init reply asked told = absurd cc
alone_turns (t ∷ []) request init reply asked told =
    let a : t.asked ≡ Ok request = cc in
    let r : t.reply ≡ reply = last_is init t.reply reply told in
    ap₂ (λ a r. record { asked = a; reply = r } ∷ []) a r
alone_turns (t ∷ u ∷ turns) request init reply asked told = absurd cc

alone_told : (turns : List Turn) (request : Request) → map (λ (t : Turn). t.asked) turns ≡ Ok request ∷ [] → length (map (λ (t : Turn). t.reply) turns) ≡ 1
alone_told [] request asked = absurd cc
alone_told (t ∷ []) request asked = refl
alone_told (t ∷ u ∷ turns) request asked = absurd cc

module _ {S : Type 0} {g : Ghosts S} where
  -- ---- one request

  pub shares_alone : (request : Request) (before after init : List Reply) (reply : Reply) (old new : Replica S g) → before ≡ [] → after ≡ init ++ reply ∷ [] → Shares (request ∷ []) before after old new → AnswersOneRequest old request reply new
  shares_alone request before after init reply old new none last it =
      let told : map (λ (t : Turn). t.reply) it.turns ≡ init ++ reply ∷ [] = ap (λ l. l ++ map (λ (t : Turn). t.reply) it.turns) (sym none) ∙ sym it.told ∙ last in
      subst (λ turns. SharesCommit turns old new) (alone_turns it.turns request init reply it.asked told) it.commits

  pub shares_one : (request : Request) (before after : List Reply) (old new : Replica S g) → before ≡ [] → Shares (request ∷ []) before after old new → length after ≡ 1
  shares_one request before after old new none it =
      ap length (it.told ∙ ap (λ l. l ++ map (λ (t : Turn). t.reply) it.turns) none) ∙ alone_told it.turns request it.asked

  -- the first by itself
  pub front_alone : (requests : List Request) (request : Request) (reply : Reply) (before after : List Reply) (old same new : Replica S g) → 0 < length requests → request ≡ get_or requests 0 request → same ≡ old →
      after ≡ before ++ reply ∷ [] → AnswersOneRequest same request reply new → SharesFront requests before after old new
  front_alone requests request reply before after old same new some is still appended it = (
    1,
    omega arith,
    omega (arith, some),
    record {
      turns = record { asked = Ok request; reply = reply } ∷ [];
      asked = ap (map (λ (r : Request). Ok r)) (sym (first_taken requests request some is));
      told = appended;
      commits = subst (λ (r : Replica S g). AnswersOneRequest r request reply new) still it;
    },
  )

  -- ---- one commit more

  pub each_none : (old : Replica S g) → AnswersInCommits [] [] old old
  each_none old = record { groups = []; asked = refl; told = refl; commits = refl }

  all_more : (groups : List (List Turn)) (turns : List Turn) (old mid new : Replica S g) → AllCommit groups old mid → SharesCommit turns mid new → AllCommit (groups ++ turns ∷ []) old new
  all_more [] turns old mid new all one = (new, subst (λ (r : Replica S g). SharesCommit turns r new) all one, refl)
  all_more (first ∷ groups) turns old mid new all one = (all.0, all.1, all_more groups turns all.0 mid new all.2 one)

  module _ (requests : List Request) (told given : List Reply) (old mid new : Replica S g) (few : length told ≤ length requests)
      (one : AnswersInCommits (take (length told) requests) told old mid) (front : SharesFront (drop (length told) requests) told given mid new) where
    count_front : length front.3.turns ≡ front.0
    count_front =
        sym (length-map front.3.turns (λ (t : Turn). t.asked)) ∙ ap length front.3.asked ∙ length-map (take front.0 (drop (length told) requests)) (λ (r : Request). Ok r)
        ∙ length-take-le front.0 (drop (length told) requests) front.2

    length_front : length given ≡ length told + front.0
    length_front = ap length front.3.told ∙ length-append told (map (λ (t : Turn). t.reply) front.3.turns) ∙ ap (λ n. length told + n) (length-map front.3.turns (λ (t : Turn). t.reply) ∙ count_front)

    pub front_grows : length told < length given
    front_grows = omega (arith, length_front, front.1)

    pub front_within : length given ≤ length requests
    front_within = omega (arith, length_front, front.2, length-drop (length told) requests, few)

    -- those that are answered by then
    front_taken : take (length told) requests ++ take front.0 (drop (length told) requests) ≡ take (length given) requests
    front_taken = sym (ap (λ n. take n requests) length_front ∙ take-add (length told) front.0 requests)

    all_turns : flat_map (λ turns. turns) (one.groups ++ front.3.turns ∷ []) ≡ flat_map (λ turns. turns) one.groups ++ front.3.turns
    all_turns = flat_map-append (λ turns. turns) one.groups (front.3.turns ∷ []) ∙ ap (λ l. flat_map (λ turns. turns) one.groups ++ l) (append-nil front.3.turns)

    pub front_answers : AnswersInCommits (take (length given) requests) given old new
    front_answers = record {
      groups = one.groups ++ front.3.turns ∷ [];
      asked = ap (map (λ (t : Turn). t.asked)) all_turns ∙ map-append (λ (t : Turn). t.asked) (flat_map (λ turns. turns) one.groups) front.3.turns ∙ ap₂ (λ a b. a ++ b) one.asked front.3.asked
          ∙ sym (map-append (λ (r : Request). Ok r) (take (length told) requests) (take front.0 (drop (length told) requests))) ∙ ap (map (λ (r : Request). Ok r)) front_taken;
      told = ap (map (λ (t : Turn). t.reply)) all_turns ∙ map-append (λ (t : Turn). t.reply) (flat_map (λ turns. turns) one.groups) front.3.turns
          ∙ ap (λ l. l ++ map (λ (t : Turn). t.reply) front.3.turns) one.told ∙ sym front.3.told;
      commits = all_more one.groups front.3.turns old mid new one.commits front.3.commits;
    }
