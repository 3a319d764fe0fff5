-- The digests that a site keeps are those of its keys, and what it tells of them is not too long.
use Rattle.std.proofs.Common.{◌≡◌, ℕ, zero, suc, ◌<◌, ◌≤◌, ◌-◌, Bool, true, false, cond, nat_eq, nat_lt, if◌then◌else◌, ◌&&◌, List, [], ◌∷◌, ◌++◌, drop, take, length, map, Option, Some, None, IfSome, Result, Ok, Err, true≢false, refl, sym, ap, ◌∙◌, subst, arith, length-append}
use Rattle.std.specs.Prelude.{option_map}
use Rattle.std.proofs.Math.Seq.{drop-append_seam}
use Rattle.std.proofs.lemmas.Bool.{ltb-false, ltb-true}
use Rattle.std.proofs.lemmas.List.{length-take}
use Rattle.std.specs.List.{AllByRecursion}
use Rattle.std.specs.FinMap.{entries, get, insert, len, len-empty, empty, from_entries, get-retain_keys}
use Rattle.mvd_digest.specs.Sha256.{sha256}
use Rattle.mvd_digest.proofs.Facts256.{length-sha256}
use Rattle.mvd_dots.specs.declared.refusals.Refusal.{Refusal}
use Rattle.mvd_dots.specs.declared.refusals.Refusal.TheVariants.{Broken}
use Rattle.mvd_keys.specs.Key.{key_cmp}
use Rattle.mvd_keys.specs.State.{State}
use Rattle.mvd_keys.specs.Writes.{Key}
use Rattle.mvd_keys.proofs.KeyOrder.{key_antisymmetric, key_total}
use Rattle.mvd_rows.specs.Stands.{IsRowsOf}
use Rattle.mvd_rows.specs.declared.changes.Rows.{Rows}
use Rattle.mvd_tree.specs.Change.{changed}
use Rattle.mvd_tree.specs.HashTree.{KeyDigests, digest_above, digest_unless_empty, digits, is_under, node_digest, zero_digest}
use Rattle.mvd_tree.specs.Page.{children_digests, is_after, bucket_page, keys_after}
use Rattle.mvd_tree.specs.States.{key_digest}
use Rattle.mvd_tree.proofs.Held.{digests_of-empty, digests_of-entries, digests_of-insert}
use Rattle.mvd_tree.proofs.KeyDigests.{Each, get-digests_of, got_each}
use Rattle.mvd_wire.specs.Codecs.{key as spelled_key, spell_state, state_limit, IsInForm}
use Rattle.mvd_wire.specs.Replies.{CanBeSent}
use Rattle.mvd_wire.specs.declared.reply.Digests.{Digests}
use Rattle.mvd_wire.specs.declared.reply.Reply.TheVariants.{Digests as Told}
use Rattle.mvd_wire.proofs.SentPages.{IsEntry, digests_can_be_sent}
use Rattle.mvd_kept.specs.Answer.{digests, node_digests, spelled}
use Rattle.mvd_kept.specs.Change.{SpellsChange}
use Rattle.mvd_kept.specs.Config.{ConfigValue}
use Rattle.mvd_kept.specs.FromStates.{unless_broken}
use Rattle.mvd_kept.specs.Held.{AreHeld, States, key_digests}
use Rattle.mvd_kept.specs.Sites.{KeepsKeys, has_no_room}
use Rattle.mvd_kept.proofs.HeldMaps.{room_left}

-- the digest of a key is that of its spelling
pub digest_is : (key : Key) (s : State) (bytes : List ℕ) → bytes ≡ spelled key s → sha256 bytes ≡ key_digest spelled key s
unfolding key_digest
digest_is key s bytes is = ap sha256 is

-- a key and its state, one behind the other
pub behind : (key : Key) (s : State) (first second whole : List ℕ) → first ≡ spelled_key.spell key → second ≡ spell_state s → whole ≡ first ++ second → IsInForm s → length (spell_state s) ≤ state_limit →
    SpellsChange key s (length first) whole
unfolding spelled
behind key s first second whole one two all form low = record {
  whole = all ∙ ap (λ l. l ++ second) one ∙ ap (λ l. spelled_key.spell key ++ l) two;
  state = ap (drop (length first)) all ∙ drop-append_seam first second ∙ two;
  within = grind (arith, length-append, all);
  spelled = form;
  short = low;
}

-- ---- what a site keeps

-- with no key, and with no key more than it may have
pub keeps_none : (config : ConfigValue) (states : States) (tree : KeyDigests) (rows : Rows) (broken : Bool) → states ≡ empty → tree ≡ empty → IsRowsOf rows config.defs empty → KeepsKeys config states tree rows broken
keeps_none config states tree rows broken none no_digest no_row = record {
  room = subst (λ (m : States). len m ≤ config.max_keys) (sym none) (subst (λ n. n ≤ config.max_keys) (sym (len-empty key_cmp State)) (omega arith));
  digested = λ _. no_digest ∙ sym (ap digests none ∙ digests_of-empty spelled);
  listed = λ _. subst (IsRowsOf rows config.defs) (sym none) no_row;
}

-- opened with rising entries
pub keeps_opened : (config : ConfigValue) (entries : List (Key × State)) (states : States) (tree : KeyDigests) (rows : Rows) (broken : Bool) → states ≡ from_entries entries → tree ≡ from_entries (key_digests entries) →
    IsRowsOf rows config.defs (from_entries entries) → len states ≤ config.max_keys → KeepsKeys config states tree rows broken
keeps_opened config entries states tree rows broken are digested listed few = record {
  room = few;
  digested = λ _. digested ∙ sym (ap digests are ∙ digests_of-entries spelled entries);
  listed = λ _. subst (IsRowsOf rows config.defs) (sym are) listed;
}

-- and with one key's state put in
pub keeps_inserted : (config : ConfigValue) (states after : States) (tree grown : KeyDigests) (rows listed : Rows) (broken : Bool) (key : Key) (s : State) → KeepsKeys config states tree rows broken → has_no_room config states key ≡ false →
    after ≡ insert states key s → grown ≡ changed tree key (Some (key_digest spelled key s)) → (IsRowsOf rows config.defs states → IsRowsOf listed config.defs (insert states key s)) → KeepsKeys config after grown listed broken
keeps_inserted config states after tree grown rows listed broken key s keeps room is digested follows = record {
  room = subst (λ (m : States). len m ≤ config.max_keys) (sym is) (room_left config states key s room keeps.room);
  digested = λ whole. digested ∙ ap (λ t. changed t key (Some (key_digest spelled key s))) (keeps.digested whole) ∙ sym (ap digests is ∙ digests_of-insert spelled states key s);
  listed = λ whole. subst (IsRowsOf listed config.defs) (sym is) (follows (keeps.listed whole));
}

-- ---- what is told of a node

unless_empty : (held : KeyDigests) (text : List ℕ) → length (digest_unless_empty held text) ≡ 32
unfolding digest_unless_empty zero_digest
unless_empty held text =
    elim (nat_eq (len held) 0) as (λ b. length (cond b zero_digest (sha256 text)) ≡ 32) [
      | true ↦ refl
      | false ↦ length-sha256 text
    ]

length_above : (levels : ℕ) (held : KeyDigests) (path : List ℕ) → length (digest_above levels held path) ≡ 32
unfolding digest_above
length_above zero held path = unless_empty _ _
length_above (suc levels) held path = unless_empty _ _

each_digest : (held : KeyDigests) (path ds : List ℕ) → AllByRecursion (λ x. length x ≡ 32) (map (λ d. node_digest held (path ++ d ∷ [])) ds)
each_digest held path [] = tt
each_digest held path (d ∷ ds) = (length_above (3 - length (path ++ d ∷ [])) held (path ++ d ∷ []), each_digest held path ds)

sixteen_children : (held : KeyDigests) (path : List ℕ) → length (children_digests held path) ≡ 16
unfolding digits
sixteen_children held path = refl

-- what a site that is not broken tells of a node
pub node_told : (broken : Bool) (held : KeyDigests) (path : List ℕ) (told : Digests) → broken ≡ false →
    ◌≡◌ {A = Result Digests Refusal} (Ok told) (unless_broken broken (Err Broken) (Ok (node_digests held path))) → told ≡ node_digests held path
node_told true held path told whole is = absurd (true≢false whole)
node_told false held path told whole is = cc

-- the digests of a node and of its children can be sent
pub node_can_be_sent : (held : KeyDigests) (path : List ℕ) → CanBeSent (Told (node_digests held path))
node_can_be_sent held path = digests_can_be_sent (node_digests held path) (record {
  own = length_above (3 - length path) held path;
  children = elim (nat_lt (length path) 3) as (λ b. IfSome (if b then Some (children_digests held path) else None) (λ ds. (length ds ≡ 16) × AllByRecursion (λ x. length x ≡ 32) ds)) [
    | true ↦ (sixteen_children held path, each_digest held path digits)
    | false ↦ tt
  ];
})

-- ---- what is told of a bucket

module _ (states : States) (kept : AreHeld states) (path : List ℕ) (after : Option Key) where
  length_digest : (key : Key) (s : State) → length (key_digest spelled key s) ≡ 32
  unfolding key_digest
  length_digest key s = length-sha256 (spelled key s)

  held_entry : (e : Key × List ℕ) (o : Option State) → get states e.0 ≡ o → option_map (key_digest spelled e.0) o ≡ Some e.1 → IsEntry e
  held_entry e None found is = cc
  held_entry e (Some s) found is =
      let digest : key_digest spelled e.0 s ≡ e.1 = cc in
      record { key = kept.key e.0 s found; digest = ap length (sym digest) ∙ length_digest e.0 s }

  one_entry : (e : Key × List ℕ) → get (keys_after (digests states) path after) e.0 ≡ Some e.1 → IsEntry e
  unfolding keys_after
  one_entry e found =
      elim (is_under path e.0 && is_after after e.0) as (λ b. cond b (get (digests states) e.0) None ≡ Some e.1 → IsEntry e) [
        | true ↦ λ is. held_entry e (get states e.0) refl (sym (get-digests_of spelled states e.0) ∙ is)
        | false ↦ λ is. cc
      ] (sym (get-retain_keys (digests states) (λ key. is_under path key && is_after after key) e.0
      (λ x tie. ap (λ key. is_under path key && is_after after key) (sym (key_antisymmetric e.0 x tie)))) ∙ found)

  each_taken : (n : ℕ) (es : List (Key × List ℕ)) → Each (λ e. get (keys_after (digests states) path after) e.0 ≡ Some e.1) es → AllByRecursion IsEntry (take n es)
  each_taken zero es all = tt
  each_taken (suc n) [] all = tt
  each_taken (suc n) (e ∷ es) all = (one_entry e all.0, each_taken n es all.1)

  -- a page of a bucket has keys with digests
  pub page_entries : AllByRecursion IsEntry (bucket_page (digests states) path after)
  page_entries = each_taken 1000 (entries (keys_after (digests states) path after)) (got_each key_total (keys_after (digests states) path after))

pub short_page : (held : KeyDigests) (path : List ℕ) (after : Option Key) → length (bucket_page held path after) ≤ 1000
short_page held path after = subst (λ n. n ≤ 1000) (sym (length-take 1000 (entries (keys_after held path after)))) (omega arith)
