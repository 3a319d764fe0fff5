-- What the parts of a script in hand stand for.
use Rattle.std.specs.Prelude.{◌≡◌, ◌++◌, ℕ, Bool, true, false, List, Option, Some, None, IsSome, unwrap_or, Result, Ok, Err}
use Rattle.mvd_dots.specs.declared.refusals.Refusal.{Refusal}
use Rattle.mvd_dots.specs.declared.refusals.Refusal.TheVariants.{Memory}
use Rattle.mvd_input.specs.declared.command.Command.{Command}
use Rattle.mvd_input.specs.declared.command.Line.{Line}
use Rattle.mvd_input.specs.declared.fault.Fault.{Fault}
use Rattle.mvd_input.specs.declared.fault.Fault.TheVariants as fault
use Rattle.mvd_rows.specs.Defs.{no_definitions}
use Rattle.mvd_wire.specs.declared.reply.Reply.{Reply}
use Rattle.mvd_wire.specs.declared.request.Request.{Request}
use Rattle.mvd_world.specs.declared.worlds.World.{World}
use Rattle.mvd_world.specs.Machine.{Knowledge, Setting, nothing_yet, setting_of}
use Rattle.mvd_world.specs.Worlds.{IsWorld, Leads}
use Rattle.mvd_script.specs.declared.member.Member.{Member}
use Rattle.mvd_script.specs.declared.head.Head.{Head}
use Rattle.mvd_script.specs.declared.script.Script.{Script}
use Rattle.mvd_script.specs.Script.{Blank, Headed, IsAtFault, MayNotStand, Plays, ReadsLine, Running, Says, SiteReplies, Stage, TellsCommand, site_in}
use Rattle.mvd_shell.specs.Talk.{ShowsText}

-- a site of a world replies as a site of the machine does
pub record MemberReplies (old new : Member) (request : Request) (reply : Reply) : Type 0 where
  pub site : new.site ≡ old.site
  pub leads : Leads old.world new.world
      (λ setting before after. SiteReplies setting old.site before after request reply)

-- what was told of a world, and shown of it
pub record ActsFor (Tells : Setting → Knowledge → Knowledge → Result (List ℕ) Refusal → Type 0) (old new : World)
    (text text' : List ℕ) (result : Result (Unit {0}) Refusal) : Type 0 where
  pub told : Result (List ℕ) Refusal
  pub leads : Leads old new (λ setting before after. Tells setting before after told)
  pub shows : ShowsText told text text' result

-- a command was played at a site of a world
abbrev pub Acts : Command → Member → Member → List ℕ → List ℕ → Result (Unit {0}) Refusal → Type 0
Acts command old new text text' result =
    ActsFor (λ setting before after told. TellsCommand setting old.site command before after told) old.world new.world
    text text' result

-- a command said this
abbrev pub CommandSays : ℕ → Command → World → World → List ℕ → Type 0
CommandSays site command old new text =
    Leads old new (λ setting before after. Says setting site command before after text)

-- a head in hand is this
pub record IsHead (head : Head) (sites : ℕ) (most : Option ℕ) : Type 0 where
  pub sites_are : head.sites ≡ sites
  pub most_is : head.max_keys ≡ most

-- the script in hand stands for this stage
abbrev pub IsStage : Script → Stage → Type 0
IsStage script Blank = (script.head ≡ None) × (script.defs ≡ no_definitions) × (script.world ≡ None)
IsStage script (Headed sites most defs) =
    ((head : Head) × (script.head ≡ Some head) × IsHead head sites most) × (script.defs ≡ defs) × (script.world ≡ None)
IsStage script (Running setting knowledge) =
    (member : Member) × (script.world ≡ Some member) × IsWorld setting member.world knowledge

-- a line that may stand here is taken; of one that may not only that is told
abbrev pub TakesLine : Line → Script → Script → Bool → List ℕ → Type 0
TakesLine line old new true text = (stage : Stage) → IsStage old stage
    → (next : Stage) × Plays line stage next text × IsStage new next
TakesLine line old new false text = (stage : Stage) → IsStage old stage → MayNotStand line stage

-- a line's bytes are run, or are at fault, or memory is refused
abbrev pub RunsLine : ℕ → List ℕ → Script → Script → List ℕ → Result (Unit {0}) Fault → Type 0
RunsLine number bytes old new text (Ok done) = (stage : Stage) → IsStage old stage
    → (next : Stage) × ReadsLine bytes stage next text × IsStage new next
RunsLine number bytes old new text (Err (fault.Line at)) =
    (at ≡ number) × ((stage : Stage) → IsStage old stage → IsAtFault bytes stage)
RunsLine number bytes old new text (Err (fault.Stopped refusal)) = refusal ≡ Memory

-- a line is taken, or may not stand here, or memory is refused
abbrev pub TakesAt : ℕ → Line → Script → Script → List ℕ → Result (Unit {0}) Fault → Type 0
TakesAt number line old new text (Ok done) = (stage : Stage) → IsStage old stage
    → (next : Stage) × Plays line stage next text × IsStage new next
TakesAt number line old new text (Err (fault.Line at)) =
    (at ≡ number) × ((stage : Stage) → IsStage old stage → MayNotStand line stage)
TakesAt number line old new text (Err (fault.Stopped refusal)) = refusal ≡ Memory

-- a line is run, and what it prints is added; after a fault nothing is
abbrev pub AddsLine : ℕ → List ℕ → Script → Script → List ℕ → List ℕ → Result (Unit {0}) Fault → Type 0
AddsLine number bytes old new out out' (Ok done) =
    (text : List ℕ) × RunsLine number bytes old new text (Ok done) × (out' ≡ out ++ text)
AddsLine number bytes old new out out' (Err fault) =
    (text : List ℕ) × RunsLine number bytes old new text (Err fault) × (out' ≡ out)

-- The sites begin from the head: they know nothing yet; or there are sites already
abbrev pub StartsAt : Stage → Setting → Knowledge → Type 0
StartsAt Blank setting knowledge = ⊥
StartsAt (Headed sites most defs) setting knowledge =
    (setting ≡ setting_of sites (unwrap_or most 1000000) defs) × (knowledge ≡ nothing_yet)
StartsAt (Running setting' knowledge') setting knowledge = (setting' ≡ setting) × (knowledge' ≡ knowledge)

-- where there was a head or were sites, there are sites; else nothing was read yet
abbrev pub ScriptBegins : Script → Script → Bool → Type 0
ScriptBegins old new true =
    IsSome new.world
    × ((stage : Stage) → IsStage old stage
    → (setting : Setting) × (knowledge : Knowledge) × StartsAt stage setting knowledge
    × IsStage new (Running setting knowledge))
ScriptBegins old new false = (stage : Stage) → IsStage old stage → stage ≡ Blank

-- a command was run by the sites, if there are any
abbrev pub RunsAt : ℕ → Command → Script → Script → List ℕ → Type 0
RunsAt site command old new text = (member : Member) → old.world ≡ Some member
    → (member' : Member) × (new.world ≡ Some member')
    × CommandSays (site_in site) command member.world member'.world text
