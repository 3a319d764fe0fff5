-- What each step leads to.
use Rattle.std.proofs.Common.{◌≡◌, ◌≢◌, ℕ, ◌≤◌, ◌+◌, ◌-◌, Bool, true, false, zero, suc, List, [], ◌∷◌, ◌++◌, map, length, take, drop, Some, is_some, refl, sym, ap, ap₂, ◌∙◌, subst, subst₂, ⊎_elim, arith, Result, Ok, Err}
use Rattle.std.specs.Prelude.{slice_index_or, slice_set}
use Rattle.std.specs.List.{slice_get}
use Rattle.std.specs.FinMap.{empty}
use Rattle.std.proofs.Math.Seq.{take-append_seam}
use Rattle.std.proofs.lemmas.Bool.Decides.{nat_tests}
use Rattle.std.proofs.lemmas.Option.{slice_get_read}
use Rattle.std.proofs.lemmas.List.{length-set, length-map, map-append}
use Rattle.mvd_dots.specs.declared.refusals.Refusal.TheVariants.{Broken, Memory}
use Rattle.mvd_dots.specs.declared.refusals.Refusal.{Refusal}
use Rattle.mvd_keys.specs.Writes.{AreOf, Key, Write, state, writes_of}
use Rattle.mvd_keys.proofs.Standing.{state-own}
use Rattle.mvd_wire.specs.declared.request.Request.{Request}
use Rattle.mvd_wire.specs.declared.request.Request.TheVariants.{Push}
use Rattle.mvd_wire.specs.declared.reply.Reply.{Reply}
use Rattle.mvd_wire.specs.declared.reply.Reply.TheVariants.{Done, Refused}
use Rattle.std.proofs.Common.{IfOk}
use Rattle.mvd_rows.specs.Defs.{Definitions}
use Rattle.mvd_site.specs.Config.{ConfigValue}
use Rattle.mvd_site.specs.FromStates.{AnswersFrom, unless_broken}
use Rattle.mvd_site.specs.Held.{state_at}
use Rattle.mvd_site.specs.Known.{Adds, MayReply}
use Rattle.mvd_site.specs.Sites.{AnswersOne, SiteStands, SiteValue}
use Rattle.mvd_site.proofs.AnsweredAtOnce.{one_known}
use Rattle.mvd_site.proofs.Prepare.{Stands-none}
use Rattle.mvd_site.proofs.Steps.{state_at-stands}
use Rattle.mvd_peer.proofs.SiteSides.{is_broken}
use Rattle.mvd_sync.specs.Session.{ReportsDone}
use Rattle.mvd_sync.specs.declared.report.Report.{Report}
use Rattle.mvd_sync.specs.declared.report.SyncFault.{SyncFault}
use Rattle.mvd_sync.specs.declared.report.SyncFault.TheVariants.{Local, Peer}
use Rattle.mvd_world.specs.declared.worlds.Message.{Message}
use Rattle.mvd_world.specs.declared.worlds.World.{World}
use Rattle.mvd_world.specs.Machine.{AnswersAtSite, BreaksBy, IsOwn, IsConsistent, Knowledge, MeetSites, Receives, SentMessage, Sends, SendsNot, Setting, ToldAtOnce, becomes, config_of, config_where, is_numbered, learns, nothing_yet, received, setting_of, writes_in, two_sites}
use Rattle.mvd_world.specs.Worlds.{AreAll, AreSites, IsSiteOf, IsWorld, Leads, TwoMeet, message_of}
use Rattle.mvd_world.proofs.Changed.{get_push, learns_here, learns_other, set_other, sites_changed}
use Rattle.mvd_world.proofs.Sound.{found as found_in, sound_answers, sound_meets, sound_receives, sound_sends}

-- the site of a number
pub site_of : (setting : Setting) (before : Knowledge) (sites : List SiteValue) (index number : ℕ) (s : SiteValue) → AreSites setting before sites → index + 1 ≡ number → slice_get sites index ≡ Some s → IsSiteOf setting before number s
site_of setting before sites index number s are at here = subst (λ n. IsSiteOf setting before n s) at (are index s here)

-- so many sites are all still
pub still_all : (setting : Setting) (old new : List SiteValue) → length new ≡ length old → AreAll setting old → AreAll setting new
still_all setting old new same all number = ap (λ n. is_numbered n number) same ∙ all number

-- nothing changed
pub same_world : (setting : Setting) (old new : World) (before : Knowledge) → new.sites.items ≡ old.sites.items → new.messages.items ≡ old.messages.items → IsWorld setting old before → IsWorld setting new before
same_world setting old new before same_sites same_messages world = record {
  all = still_all setting old.sites.items new.sites.items (ap length same_sites) world.all;
  sites = subst (AreSites setting before) (sym same_sites) world.sites;
  messages = same_messages ∙ world.messages;
  sound = world.sound;
}

-- one site changed, and the messages are as they were
pub record SiteChanges (old new : World) (number : ℕ) (s s' : SiteValue) : Type 0 where
  pub index : ℕ
  pub at : index + 1 ≡ number
  pub here : slice_get old.sites.items index ≡ Some s
  pub sites : new.sites.items ≡ slice_set old.sites.items index s'
  pub messages : new.messages.items ≡ old.messages.items
  pub config : s'.config ≡ s.config

-- the world after it, where the sets are sound
world_changed : (setting : Setting) (old new : World) (before : Knowledge) (number : ℕ) (s s' : SiteValue) (added made : List Write) → IsWorld setting old before → SiteChanges old new number s s' →
    SiteStands s' (before.known number ++ added) →
    (after : Knowledge) → after ≡ record { known = learns before.known number added; broken = becomes before.broken number s'.broken; messages = before.messages; made = made } → IsConsistent after → IsWorld setting new after
world_changed setting old new before number s s' added made world change stands after is sound = record {
  all = still_all setting old.sites.items new.sites.items (ap length change.sites ∙ length-set old.sites.items change.index s') world.all;
  sites = subst₂ (AreSites setting) (sym is) (sym change.sites)
      (sites_changed setting old.sites.items before change.index number s s' added before.messages made world.sites change.at change.here change.config stands);
  messages = change.messages ∙ world.messages ∙ ap (λ (w : Knowledge). map message_of w.messages) (sym is);
  sound = sound;
}

-- ---- a site's reply to a request of its own

pub answers_lead : (old new : World) (number : ℕ) (s s' : SiteValue) (request : Request) (reply : Reply) → SiteChanges old new number s s' → IsOwn request → AnswersOne s s' request reply → (added : List Write) × Adds request reply added →
    Leads old new (λ setting before after. AnswersAtSite setting before number request reply after)
answers_lead old new number s s' request reply change own one choice setting before world =
    let site = site_of setting before old.sites.items change.index number s world.sites change.at change.here in
    let after : Knowledge = record { known = learns before.known number choice.0; broken = becomes before.broken number s'.broken; messages = before.messages; made = before.made ++ choice.0 } in
    let told : AnswersAtSite setting before number request reply after = record {
      config = s.config;
      setup = site.config;
      broken = s'.broken;
      added = choice.0;
      replies = subst (λ b. MayReply s.config (before.known number) b request reply s'.broken) site.broken (one.replies (before.known number) site.stands);
      adds = choice.1;
      is = refl;
    } in (
      after,
      (
        told,
        world_changed setting old new before number s s' choice.0 (before.made ++ choice.0) world change (one.stands (before.known number) choice.0 site.stands choice.1) after refl
            (sound_answers setting before number request reply after world.sound own told),
      ),
    )

-- ---- a message that comes

received_adds : (key : Key) (writes : List Write) (reply : Reply) → AreOf key writes → Adds (Push key (state key writes)) reply (received reply writes)
received_adds key writes Done of = (of, refl)
received_adds key writes reply of = refl

-- a message of the world stands for one that was sent
pub message_at : (ms : List SentMessage) (i : ℕ) (m : Message) → slice_get (map message_of ms) i ≡ Some m → (sending : SentMessage) × (slice_get ms i ≡ Some sending) × (m ≡ message_of sending)
message_at [] i m h = cc
message_at (sending ∷ ms) zero m h = (sending, refl, cc)
message_at (sending ∷ ms) (suc i) m h = message_at ms i m h

pub receives_lead : (old new : World) (number message index : ℕ) (m : Message) (s s' : SiteValue) (reply : Reply) → SiteChanges old new number s s' → slice_get old.messages.items index ≡ Some m → message - 1 ≡ index →
    AnswersFrom s s' (Push m.key m.state) reply → (s.broken ≡ true → (reply ≡ Refused Broken) × (s'.broken ≡ true)) →
    Leads old new (λ setting before after. Receives setting before number message reply after)
receives_lead old new number message index m s s' reply change here at answers stays setting before world =
    let site = site_of setting before old.sites.items change.index number s world.sites change.at change.here in
    let found = message_at before.messages index m (subst (λ ms. slice_get ms index ≡ Some m) world.messages here) in
    let sending = found.0 in
    let there : slice_get before.messages (message - 1) ≡ Some sending = ap (slice_get before.messages) at ∙ found.1 in
    let push : Request = Push sending.key (state sending.key sending.writes) in
    let does : AnswersOne s s' push reply = one_known s s' push reply (subst (λ (x : Message). AnswersFrom s s' (Push x.key x.state) reply) found.2 answers) stays in
    let added = received reply sending.writes in
    let after : Knowledge = record { known = learns before.known number added; broken = becomes before.broken number s'.broken; messages = before.messages; made = before.made } in
    let told : Receives setting before number message reply after = record {
      config = s.config;
      setup = site.config;
      broken = s'.broken;
      sending = sending;
      sent = there;
      replies = subst (λ b. MayReply s.config (before.known number) b push reply s'.broken) site.broken (does.replies (before.known number) site.stands);
      is = refl;
    } in
    let of = world.sound.of_key sending (found_in before.messages (message - 1) sending there) in (
      after,
      (
        told,
        world_changed setting old new before number s s' added before.made world change (does.stands (before.known number) added site.stands (received_adds sending.key sending.writes reply of)) after refl
            (sound_receives setting before number message reply after world.sound told),
      ),
    )

-- ---- a message that is sent

pub sends_lead : (old new : World) (number index : ℕ) (s : SiteValue) (key : Key) (m : Message) (count : ℕ) → index + 1 ≡ number → slice_get old.sites.items index ≡ Some s → s.broken ≡ false → m ≡ record { key = key; state = state_at s.states key } →
    new.sites.items ≡ old.sites.items → new.messages.items ≡ old.messages.items ++ m ∷ [] → count ≡ length new.messages.items → Leads old new (λ setting before after. Sends before number key count after)
sends_lead old new number index s key m count at here whole is same_sites grown counted setting before world =
    let site = site_of setting before old.sites.items index number s world.sites at here in
    let W = before.known number in
    let sending : SentMessage = record { key = key; writes = writes_of key W } in
    let after : Knowledge = record { known = before.known; broken = before.broken; messages = before.messages ++ sending ∷ []; made = before.made } in
    let stands_for : m ≡ message_of sending = is ∙ ap (λ s. record { key = key; state = s }) (state_at-stands s.states W key (site.stands whole) ∙ state-own key W) in
    let messages : new.messages.items ≡ map message_of after.messages = grown ∙ ap₂ (λ ms x. ms ++ x ∷ []) world.messages stands_for ∙ sym (map-append message_of before.messages (sending ∷ [])) in
    let told : Sends before number key count after = record { whole = sym site.broken ∙ whole; numbered = counted ∙ ap length messages ∙ length-map after.messages message_of; is = refl } in (
      after,
      (
        told,
        record {
          all = still_all setting old.sites.items new.sites.items (ap length same_sites) world.all;
          sites = λ i x found. let was = world.sites i x (subst (λ l. slice_get l i ≡ Some x) same_sites found) in record { config = was.config; broken = was.broken; stands = was.stands };
          messages = messages;
          sound = sound_sends before number key count after world.sound told;
        },
      ),
    )

pub sends_not_lead : (old new : World) (number index : ℕ) (s : SiteValue) (refusal : Refusal) → index + 1 ≡ number → slice_get old.sites.items index ≡ Some s → refusal ≡ unless_broken s.broken Broken Memory →
    new.sites.items ≡ old.sites.items → new.messages.items ≡ old.messages.items → Leads old new (λ setting before after. SendsNot before number (Refused refusal) after)
sends_not_lead old new number index s refusal at here why same_sites same_messages setting before world =
    let site = site_of setting before old.sites.items index number s world.sites at here in
    (before, (record { refused = ap Refused why ∙ ap (λ b. Refused (unless_broken b Broken Memory)) site.broken; is = refl }, same_world setting old new before same_sites same_messages world))

-- ---- a session

first_other : (i j : ℕ) (local peer : ℕ) → i + 1 ≡ local → j + 1 ≡ peer → local ≢ peer → j ≢ i
first_other i j local peer at at' two same = two (omega (arith, at, at', same))

pub meets_lead : (old new : World) (local peer i j : ℕ) (result : Result Report SyncFault) → i + 1 ≡ local → j + 1 ≡ peer → local ≢ peer → TwoMeet old.sites.items new.sites.items i j result → new.messages.items ≡ old.messages.items →
    Leads old new (λ setting before after. MeetSites setting before local peer result after)
meets_lead old new local peer i j result at at' two both same_messages setting before world =
    let mine = site_of setting before old.sites.items i local both.first world.sites at both.first_is in
    let theirs = site_of setting before old.sites.items j peer both.second world.sites at' both.second_is in
    let V = before.known local in
    let W = before.known peer in
    let does = both.exchange V W mine.stands theirs.stands in
    let more = writes_in does.joined W in
    let first : Knowledge = record { known = learns before.known local more; broken = becomes before.broken local both.first'.broken; messages = before.messages; made = before.made } in
    let here : first.known local ≡ V ++ more = learns_here before.known local more in
    let there : first.known peer ≡ W = learns_other before.known local more peer (λ e. two (sym e)) in
    let back = writes_in does.given (first.known local) in
    let after : Knowledge = record { known = learns first.known peer back; broken = becomes first.broken peer both.second'.broken; messages = before.messages; made = before.made } in
    let told : MeetSites setting before local peer result after = record {
      mine = both.first.config;
      theirs = both.second.config;
      setup = mine.config;
      peer_setup = theirs.config;
      joined = does.joined;
      given = does.given;
      part = does.part;
      meet = does.meet;
      tells = subst (λ n. IfOk result (ReportsDone (two_sites both.first.config both.second.config n V W) does.joined does.given))
          (sym (setting.numbers local both.first.config mine.config)) does.tells;
      local_broken = both.first'.broken;
      peer_broken = both.second'.broken;
      local_breaks = subst (λ b. BreaksBy b both.first'.broken (Local Broken) result) mine.broken does.local_breaks;
      peer_breaks = subst (λ b. BreaksBy b both.second'.broken (Peer Broken) result) theirs.broken does.peer_breaks;
      at_once = subst₂ (λ a b. ToldAtOnce a b does.joined result) mine.broken theirs.broken does.at_once;
      fails = does.fails;
      is = refl;
    } in
    let sites_first : AreSites setting first (slice_set old.sites.items i both.first') =
    sites_changed setting old.sites.items before i local both.first both.first' more before.messages before.made world.sites at both.first_is both.first_config does.local_stands in
    let still : slice_get (slice_set old.sites.items i both.first') j ≡ Some both.second = set_other old.sites.items i both.first' j (first_other i j local peer at at' two) ∙ both.second_is in
    let stands : SiteStands both.second' (first.known peer ++ back) = subst₂ (λ X Y. SiteStands both.second' (X ++ writes_in does.given Y)) (sym there) (sym here) does.peer_stands in (
      after,
      (
        told,
        record {
          all = still_all setting old.sites.items new.sites.items (ap length both.new_is ∙ length-set (slice_set old.sites.items i both.first') j both.second' ∙ length-set old.sites.items i both.first') world.all;
          sites = subst (AreSites setting after) (sym both.new_is)
              (sites_changed setting (slice_set old.sites.items i both.first') first j peer both.second both.second' back before.messages before.made sites_first at' still both.second_config stands);
          messages = same_messages ∙ world.messages;
          sound = sound_meets setting before local peer result after world.sound told;
        },
      ),
    )

-- ---- how the code tells of one site that changed

pub changes_at : (old new : World) (number : ℕ) (s s' : SiteValue) → 1 ≤ number → number ≤ length old.sites.items → s ≡ slice_index_or old.sites.items (number - 1) s → new.sites.items ≡ slice_set old.sites.items (number - 1) s' → new.messages.items ≡ old.messages.items → s'.config ≡ s.config →
    SiteChanges old new number s s'
changes_at old new number s s' some within read sites messages config = record {
  index = number - 1;
  at = omega (arith, some);
  here = slice_get_read old.sites.items (length old.sites.items) (number - 1) s refl (omega (arith, some, within)) read;
  sites = sites;
  messages = messages;
  config = config;
}

-- a site that is whole was refused memory
pub for_memory : (broken : Bool) (refusal : Refusal) → broken ≡ false → refusal ≡ Memory → refusal ≡ unless_broken broken Broken Memory
for_memory broken refusal whole is = is ∙ ap (λ b. unless_broken b Broken Memory) (sym whole)

-- ---- at first

-- one of the numbers
pub number_in : (count number : ℕ) → 1 ≤ number → number ≤ count → is_numbered count number ≡ true
number_in count number low high = grind (arith, nat_tests)

-- the config of a site that there is
pub config_there : (there : Bool) (config : ConfigValue) → there ≡ true → config_where there config ≡ Some config
config_there true config is = refl
config_there false config is = absurd (cc)

some_where : (there : Bool) (config : ConfigValue) → there ≡ is_some (config_where there config)
some_where true config = refl
some_where false config = refl

pub all_sites : (count max_keys : ℕ) (defs : Definitions) (sites : List SiteValue) → length sites ≡ count → AreAll (setting_of count max_keys defs) sites
all_sites count max_keys defs sites counted number = ap (λ n. is_numbered n number) counted ∙ some_where (is_numbered count number) (config_of max_keys defs number)

pub one_more_site : (setting : Setting) (sites more : List SiteValue) (s : SiteValue) (number : ℕ) (config : ConfigValue) → AreSites setting nothing_yet sites → more ≡ sites ++ s ∷ [] → length sites ≡ number → setting.configs (number + 1) ≡ Some config →
    s ≡ record { config = config; states = empty; broken = false } → AreSites setting nothing_yet more
one_more_site setting sites more s number config so_far grown count setup is i x found = ⊎_elim
    (λ old. so_far i x old)
    (λ new. subst (IsSiteOf setting nothing_yet (i + 1)) new.1 (record {
      config = ap (λ n. setting.configs (n + 1)) (new.0 ∙ count) ∙ setup ∙ ap (λ (v : SiteValue). Some v.config) (sym is);
      broken = ap (λ (v : SiteValue). v.broken) is;
      stands = λ _. Stands-none s.states (ap (λ (v : SiteValue). v.states) is);
    }))
    (get_push sites s i x (subst (λ l. slice_get l i ≡ Some x) grown found))

-- ---- how the code tells of a push

pub never_ok : (done : Unit {0}) (refusal : Refusal) → ◌≡◌ {A = Result (Unit {0}) Refusal} (Ok done) (Err refusal) → ⊥
never_ok done refusal e = cc

pub refused_so : (s s' : SiteValue) (refusal : Refusal) → ◌≡◌ {A = Result (Unit {0}) Refusal} (Err refusal) (Err Broken) → (refusal ≡ Broken → s' ≡ record { config = s.config; states = s.states; broken = true }) →
    (Refused refusal ≡ Refused Broken) × (s'.broken ≡ true)
refused_so s s' refusal e told = let is : refusal ≡ Broken = cc in (ap Refused is, ap (λ (v : SiteValue). v.broken) (told is))

pub same_config : (s s' : SiteValue) (refusal : Refusal) → (refusal ≢ Broken → s' ≡ s) → (refusal ≡ Broken → s' ≡ record { config = s.config; states = s.states; broken = true }) → s'.config ≡ s.config
same_config s s' refusal unchanged told = ⊎_elim (λ is. ap (λ (v : SiteValue). v.config) (told is)) (λ other. ap (λ (v : SiteValue). v.config) (unchanged other)) (is_broken refusal)

-- a list written over whole
pub refilled : (n : ℕ) (items old new : List SiteValue) (local peer : ℕ) (result : Result Report SyncFault) → n ≡ length items → old ≡ items → TwoMeet old new local peer result → take n (new ++ drop (length new) items) ≡ new
refilled n items old new local peer result long same both =
    let kept : length new ≡ length old = ap length both.new_is ∙ length-set (slice_set old local both.first') peer both.second' ∙ length-set old local both.first' in
    let full : n ≡ length new = long ∙ ap length (sym same) ∙ sym kept in
    ap (λ k. take k (new ++ drop (length new) items)) full ∙ take-append_seam new (drop (length new) items)

pub no_sites : (setting : Setting) → AreSites setting nothing_yet []
no_sites setting i x found = cc
