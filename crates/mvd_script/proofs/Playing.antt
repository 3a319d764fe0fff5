-- What a world tells of a command is what the machine tells.
use Rattle.std.proofs.Common.{OnOk, is_some, if◌then◌else◌, ◌≡◌, ◌∙◌, ℕ, List, [], ◌∷◌, Bool, true, false, Option, Some, None, Result, Ok, Err, MatchBool, refl, sym, ap, subst, Bor, length}
use Rattle.std.specs.Option.{option_copied}
use Rattle.mvd_dots.specs.Answer.{IsAnswer}
use Rattle.mvd_dots.specs.declared.refusals.Refusal.{Refusal}
use Rattle.mvd_input.specs.declared.command.Ask.{Ask}
use Rattle.mvd_input.specs.declared.command.Command.{Command}
use Rattle.mvd_input.specs.declared.command.Command.TheVariants as command
use Rattle.mvd_keys.specs.Key.{key_of_text}
use Rattle.mvd_keys.specs.Writes.{Key}
use Rattle.mvd_print.specs.Added.{Prints}
use Rattle.mvd_print.specs.Text.{none_such_text}
use Rattle.mvd_wire.specs.declared.request.Request.{Request}
use Rattle.mvd_world.specs.declared.steps.Step.{Step}
use Rattle.mvd_world.specs.declared.steps.Step.TheVariants as step
use Rattle.mvd_world.specs.declared.steps.Outcome.{Outcome}
use Rattle.mvd_world.specs.declared.worlds.World.{World}
use Rattle.mvd_world.specs.Machine.{Knowledge, Setting, is_numbered, is_site}
use Rattle.mvd_world.specs.Worlds.{IsWorld, Steps}
use Rattle.mvd_script.specs.declared.member.Member.{Member}
use Rattle.mvd_shell.specs.Asked.{Exchange}
use Rattle.mvd_script.specs.Script.{Says, SiteReplies, TellsCommand, TellsSend, TellsStep, asked_step, reply_in}
use Rattle.mvd_script.specs.Staged.{Acts, ActsFor, CommandSays, MemberReplies}
use Rattle.mvd_shell.specs.Talk.{AnswersExchanges, ShowsText, Speaks, told_text}
use Rattle.mvd_script.specs.Outcomes.{outcome_text}
use Rattle.mvd_shell.proofs.Talking.{extends_none}

-- ---- one request

pub replies : (old new : Member) (request : Request) (outcome : Outcome) → new.site ≡ old.site → Steps old.world new.world (asked_step old.site request) outcome → MemberReplies old new request (reply_in outcome)
replies old new request outcome same steps = record {
  site = same;
  leads = λ setting before world. let (after, (may, stands)) = steps setting before world in (after, ((outcome, may, refl), stands));
}

lifts : (exchanges : List Exchange) (old new : Member) → AnswersExchanges MemberReplies exchanges old new → (setting : Setting) (before : Knowledge) → IsWorld setting old.world before
    → (after : Knowledge) × (AnswersExchanges (SiteReplies setting old.site) exchanges before after × IsWorld setting new.world after)
unfolding AnswersExchanges
lifts [] old new same setting before world = (before, (refl, subst (λ (m : Member). IsWorld setting m.world before) (sym same) world))
lifts (exchange ∷ exchanges) old new (between, answers, rest) setting before world =
    let (middle, (first, stands)) = answers.leads setting before world in
    let (after, (others, ends)) = lifts exchanges between new rest setting middle stands in
    (after, ((middle, first, subst (λ (n : ℕ). AnswersExchanges (SiteReplies setting n) exchanges middle after) answers.site others), ends))

pub asks : (ask : Ask) (old new : Member) (text text' : List ℕ) (result : Result (Unit {0}) Refusal) → Speaks MemberReplies old new ask text text' result → Acts (command.Ask ask) old new text text' result
asks ask old new text text' result speaks = record {
  told = speaks.told;
  leads = λ setting before world.
      let (after, (answered, stands)) = lifts speaks.talks.exchanges old new speaks.talks.answered setting before world in
      (after, (record { exchanges = speaks.talks.exchanges; answered = answered; tells = speaks.talks.tells }, stands));
  shows = speaks.shows;
}

-- ---- one step

printed : (answer : Result (List ℕ) Refusal) (text text' : List ℕ) (result : Result (Unit {0}) Refusal) → Prints answer text text' result → (told : Result (List ℕ) Refusal) × (IsAnswer told answer × ShowsText told text text' result)
printed (Ok line) text text' (Ok done) prints = (Ok line, (refl, prints))
printed (Ok line) text text' (Err refusal) (memory, more) = (Err refusal, ((λ not. absurd (not memory)), (refl, more)))
printed (Err other) text text' (Ok done) (same, stays) = absurd cc
printed (Err other) text text' (Err refusal) (same, stays) = let is : refusal ≡ other = cc in (Err refusal, ((λ not. ap Err (sym is)), (refl, extends_none text text' stays)))

pub took : (step : Step) (outcome : Outcome) (old new : World) (text text' : List ℕ) (result : Result (Unit {0}) Refusal) → Steps old new step outcome → Prints (outcome_text outcome) text text' result
    → ActsFor (λ setting before after told. TellsStep setting step before after told) old new text text' result
took step outcome old new text text' result steps prints =
    let (told, (answer, shows)) = printed (outcome_text outcome) text text' result prints in record {
      told = told;
      leads = λ setting before world. let (after, (may, stands)) = steps setting before world in (after, ((outcome, may, answer), stands));
      shows = shows;
    }

abbrev Sends : ℕ → List ℕ → Setting → Knowledge → Knowledge → Result (List ℕ) Refusal → Type 0
Sends site key setting before after told = (read : Result Key Refusal) × IsAnswer read (key_of_text key) × TellsSend setting site read before after told

pub sends : (site : ℕ) (bytes : List ℕ) (key : Key) (old new : World) (text text' : List ℕ) (result : Result (Unit {0}) Refusal) → IsAnswer (Ok key) (key_of_text bytes)
    → ActsFor (λ setting before after told. TellsStep setting (step.Send site key) before after told) old new text text' result
    → ActsFor (Sends site bytes) old new text text' result
sends site bytes key old new text text' result read acts = record {
  told = acts.told;
  leads = λ setting before world. let (after, (tells, stands)) = acts.leads setting before world in (after, ((Ok key, read, tells), stands));
  shows = acts.shows;
}

pub unsent : (site : ℕ) (bytes : List ℕ) (refusal : Refusal) (old : World) (text : List ℕ) → IsAnswer {T = Key} (Err refusal) (key_of_text bytes) → ActsFor (Sends site bytes) old old text text (Err refusal)
unsent site bytes refusal old text read = record {
  told = Err refusal;
  leads = λ setting before world. (before, ((Err refusal, read, (refl, refl)), world));
  shows = (refl, extends_none text text refl);
}

-- ---- what is said

says_on : (b : Bool) (setting : Setting) (site : ℕ) (command : Command) (before after : Knowledge) (told : Result (List ℕ) Refusal) (text : List ℕ) → is_site setting site ≡ b → b ≡ true
    → TellsCommand setting site command before after told → text ≡ told_text told → Says setting site command before after text
says_on true setting site command before after told text is _ tells same =
    subst (λ (b : Bool). MatchBool b ((told : Result (List ℕ) Refusal) × TellsCommand setting site command before after told × (text ≡ told_text told)) ((after ≡ before) × (text ≡ none_such_text))) (sym is) (told, tells, same)
says_on false setting site command before after told text is nowhere tells same = absurd cc

pub says : (command : Command) (old new : Member) (text text' : List ℕ) (result : Result (Unit {0}) Refusal) → is_numbered (length old.world.sites.items) old.site ≡ true → (acts : Acts command old new [] text result) → text' ≡ told_text acts.told
    → CommandSays old.site command old.world new.world text'
says command old new text text' result there acts same = λ setting before world.
    let (after, (tells, stands)) = acts.leads setting before world in
    (after, (says_on (is_site setting old.site) setting old.site command before after acts.told text' refl (sym (world.all old.site) ∙ there) tells same, stands))

-- ---- from a command to its line

-- a site was found, so its number is one of the world's
pub numbered : {X : Type 0} (b : Bool) (site : Option (Bor X)) (at : Option X) → option_copied site ≡ (if b then at else None) → is_some site ≡ true → b ≡ true
numbered true site at is found = refl
numbered false None at is found = absurd cc
numbered false (Some x) at is found = absurd cc

pub says_so : (done : Result (Unit {0}) Refusal) (number site : ℕ) (command : Command) (old : Member) (new : Member) (empty text text' : List ℕ) (result : Result (Unit {0}) Refusal) → old.site ≡ site → empty ≡ []
    → is_numbered (length old.world.sites.items) old.site ≡ true → (acts : Acts command old new empty text result) → ((told : Result (List ℕ) Refusal) → ShowsText told [] text result → OnOk done (text' ≡ told_text told))
    → OnOk done (CommandSays site command old.world new.world text')
says_so (Err refusal) number site command old new empty text text' result same none there acts settled = tt
says_so (Ok done) number site command old new empty text text' result same none there acts settled =
    let plain : Acts command old new [] text result = subst (λ (t : List ℕ). Acts command old new t text result) none acts in
    subst (λ (n : ℕ). CommandSays n command old.world new.world text') same (says command old new text text' result there plain (settled plain.told plain.shows))
