-- The lines of a head, and the sites that begin from it.
use Rattle.std.proofs.Common.{◌≡◌, ◌∙◌, ◌<◌, ◌≤◌, ℕ, Bool, true, false, List, [], Option, Some, None, IsSome, OnOk, is_some, unwrap_or, Result, Ok, Err, refl, sym, ap, subst}
use Rattle.mvd_dots.specs.declared.refusals.Refusal.{Refusal}
use Rattle.mvd_input.specs.declared.command.Command.{Command}
use Rattle.mvd_input.specs.declared.command.Line.TheVariants as line
use Rattle.mvd_input.specs.declared.command.View.{View}
use Rattle.mvd_input.specs.Definitions.{IsDefinitionTaken, index_added, view_added}
use Rattle.mvd_rows.specs.Defs.{Definitions, no_definitions}
use Rattle.mvd_world.specs.Machine.{Knowledge, Setting, nothing_yet, setting_of}
use Rattle.mvd_world.specs.Worlds.{IsWorld}
use Rattle.mvd_script.specs.declared.member.Member.{Member}
use Rattle.mvd_script.specs.declared.head.Head.{Head}
use Rattle.mvd_script.specs.declared.script.Script.{Script}
use Rattle.mvd_script.specs.Script.{Blank, Commands, DefinesMore, Headed, Plays, Running, Says, Stage, site_in}
use Rattle.mvd_script.specs.Staged.{CommandSays, ScriptBegins, IsStage, RunsAt, StartsAt, TakesLine}

pub none_of : {X : Type 0} (option : Option X) → is_some option ≡ false → option ≡ None
none_of None is = refl
none_of (Some x) is = absurd cc

-- ---- the number of sites, and the most keys

pub sites_taken : (old new : Script) (head : Head) (count : ℕ) → old.head ≡ None → old.world ≡ None → (0 < count) × (count ≤ 16) → head.sites ≡ count → head.max_keys ≡ None → new.head ≡ Some head → new.defs ≡ old.defs → new.world ≡ old.world
    → (stage : Stage) → IsStage old stage → (next : Stage) × Plays (line.Sites count) stage next [] × IsStage new next
sites_taken old new head count no_head no_world (some, few) sites most is defs world Blank (_, none, _) =
    (Headed count None no_definitions, (some, few, refl, refl), ((head, is, record { sites_are = sites; most_is = most }), (defs ∙ none), (world ∙ no_world)))
sites_taken old new head count no_head no_world within sites most is defs world (Headed _ _ _) ((other, is_other, _), _, _) = absurd cc
sites_taken old new head count no_head no_world within sites most is defs world (Running _ _) (member, is_member, _) = absurd cc

one_head : (head other : Head) (option : Option Head) → option ≡ Some head → option ≡ Some other → head ≡ other
one_head head other option first second = let both : Some head ≡ Some other = sym first ∙ second in cc

pub max_taken : (old new : Script) (before head : Head) (count : ℕ) → old.head ≡ Some before → before.max_keys ≡ None → old.world ≡ None → (0 < count) × (count ≤ 1000000) → head.sites ≡ before.sites → head.max_keys ≡ Some count → new.head ≡ Some head
    → new.defs ≡ old.defs → new.world ≡ old.world → (stage : Stage) → IsStage old stage → (next : Stage) × Plays (line.Max count) stage next [] × IsStage new next
max_taken old new before head count is_before none no_world within sites most is defs world Blank (no_head, _, _) = absurd cc
max_taken old new before head count is_before none no_world (some, few) sites most is defs world (Headed number None given) ((other, is_other, same), same_defs, _) =
    let one = one_head other before old.head is_other is_before in
    (Headed number (Some count) given, (some, few, refl, refl), ((head, is, record { sites_are = sites ∙ sym (ap (λ (h : Head). h.sites) one) ∙ same.sites_are; most_is = most }), (defs ∙ same_defs), (world ∙ no_world)))
max_taken old new before head count is_before none no_world within sites most is defs world (Headed number (Some m) given) ((other, is_other, same), same_defs, _) =
    let one = one_head other before old.head is_other is_before in
    let here : None ≡ Some m = sym none ∙ sym (ap (λ (h : Head). h.max_keys) one) ∙ same.most_is in absurd cc
max_taken old new before head count is_before none no_world within sites most is defs world (Running _ _) (member, is_member, _) = absurd cc

-- ---- indexes and views

abbrev TakesMore : (Definitions → Result Definitions Refusal) → Script → Script → Bool → Type 0
TakesMore added old new true = (stage : Stage) → IsStage old stage → (next : Stage) × DefinesMore added stage next [] × IsStage new next
TakesMore added old new false = (stage : Stage) → IsStage old stage → (next : Stage) (text : List ℕ) → DefinesMore added stage next text → ⊥

no_some : {X : Type 0} (option : Option X) → IsSome option → option ≡ None → ⊥
no_some None some none = absurd cc
no_some (Some x) some none = absurd cc

more_on : (added : Definitions → Result Definitions Refusal) (old new : Script) → IsSome old.head → old.world ≡ None → new.head ≡ old.head → new.world ≡ old.world → added old.defs ≡ Ok new.defs
    → (stage : Stage) → IsStage old stage → (next : Stage) × DefinesMore added stage next [] × IsStage new next
more_on added old new some no_world head world ok Blank (no_head, _, _) = absurd (no_some old.head some no_head)
more_on added old new some no_world head world ok (Headed sites most defs) ((h, is, same), same_defs, _) =
    (Headed sites most new.defs, (new.defs, subst (λ (d : Definitions). added d ≡ Ok new.defs) same_defs ok, refl, refl), ((h, head ∙ is, same), refl, (world ∙ no_world)))
more_on added old new some no_world head world ok (Running _ _) (member, is_member, _) = absurd cc

none_more : (added : Definitions → Result Definitions Refusal) (old : Script) (refusal : Refusal) → added old.defs ≡ Err refusal → (stage : Stage) → IsStage old stage → (next : Stage) (text : List ℕ) → DefinesMore added stage next text → ⊥
none_more added old refusal refused Blank stands next text defines = absurd defines
none_more added old refusal refused (Headed sites most defs) (_, same_defs, _) next text (more, ok, _, _) =
    let here : Err refusal ≡ Ok more = sym refused ∙ ap added same_defs ∙ ok in absurd cc
none_more added old refusal refused (Running _ _) stands next text defines = absurd defines

more_taken : (added : Definitions → Result Definitions Refusal) (old new : Script) (taken : Bool) → IsSome old.head × (old.world ≡ None) → new.head ≡ old.head → new.world ≡ old.world → IsDefinitionTaken (added old.defs) taken old.defs new.defs → TakesMore added old new taken
more_taken added old new true (some, no_world) head world ok = more_on added old new some no_world head world ok
more_taken added old new false within head world (refusal, refused, same) = none_more added old refusal refused

pub index_taken : (field : Rattle.std.proofs.Common.Bor (List ℕ)) (old new : Script) (taken : Bool) → IsSome old.head × (old.world ≡ None) → new.head ≡ old.head → new.world ≡ old.world → IsDefinitionTaken (index_added old.defs field.now) taken old.defs new.defs → TakesLine (line.Index field) old new taken []
index_taken field old new true within head world is = more_taken (λ d. index_added d field.now) old new true within head world is
index_taken field old new false within head world is = more_taken (λ d. index_added d field.now) old new false within head world is

pub view_taken : (view : View) (old new : Script) (taken : Bool) → IsSome old.head × (old.world ≡ None) → new.head ≡ old.head → new.world ≡ old.world → IsDefinitionTaken (view_added old.defs view) taken old.defs new.defs → TakesLine (line.View view) old new taken []
view_taken view old new true within head world is = more_taken (λ d. view_added d view) old new true within head world is
view_taken view old new false within head world is = more_taken (λ d. view_added d view) old new false within head world is

-- ---- the sites

pub begun : (old new : Script) (head : Head) (member : Member) → old.world ≡ None → old.head ≡ Some head → IsWorld (setting_of head.sites (unwrap_or head.max_keys 1000000) old.defs) member.world nothing_yet → new.world ≡ Some member
    → (stage : Stage) → IsStage old stage → (setting : Setting) × (knowledge : Knowledge) × StartsAt stage setting knowledge × IsStage new (Running setting knowledge)
begun old new head member no_world is_head world is Blank (no_head, _, _) = absurd cc
begun old new head member no_world is_head world is (Headed sites most defs) ((other, is_other, same), same_defs, _) =
    let one = one_head head other old.head is_head is_other in
    let sites_are : head.sites ≡ sites = ap (λ (h : Head). h.sites) one ∙ same.sites_are in
    let most_is : head.max_keys ≡ most = ap (λ (h : Head). h.max_keys) one ∙ same.most_is in
    let setting : setting_of head.sites (unwrap_or head.max_keys 1000000) old.defs ≡ setting_of sites (unwrap_or most 1000000) defs = rw (sites_are, most_is, same_defs) refl in
    (setting_of sites (unwrap_or most 1000000) defs, nothing_yet, (refl, refl), (member, is, subst (λ (s : Setting). IsWorld s member.world nothing_yet) setting world))
begun old new head member no_world is_head world is (Running _ _) (other, is_other, _) = absurd cc

-- the sites that there are stay
pub are_there : (script : Script) → IsSome script.world → (stage : Stage) → IsStage script stage → (setting : Setting) × (knowledge : Knowledge) × StartsAt stage setting knowledge × IsStage script (Running setting knowledge)
are_there script some Blank (_, _, none) = absurd (no_some script.world some none)
are_there script some (Headed sites most defs) (_, _, none) = absurd (no_some script.world some none)
are_there script some (Running setting knowledge) stands = (setting, knowledge, (refl, refl), stands)

one_member : (member other : Member) (option : Option Member) → option ≡ Some member → option ≡ Some other → member ≡ other
one_member member other option first second = let both : Some member ≡ Some other = sym first ∙ second in cc

pub ran_at : (done : Result (Unit {0}) Refusal) (site : ℕ) (command : Command) (old new : Script) (member member' : Member) (text : List ℕ) → old.world ≡ Some member → new.world ≡ Some member'
    → OnOk done (CommandSays (site_in site) command member.world member'.world text) → OnOk done (RunsAt site command old new text)
ran_at (Err refusal) site command old new member member' text is is' answers = tt
ran_at (Ok unit) site command old new member member' text is is' answers = λ other is_other.
    (member', is', subst (λ (m : Member). CommandSays (site_in site) command m.world member'.world text) (one_member member other old.world is is_other) answers)

plays_at : (site : ℕ) (command : Command) (stage : Stage) (setting : Setting) (knowledge after : Knowledge) (text : List ℕ) → StartsAt stage setting knowledge → Says setting (site_in site) command knowledge after text
    → Plays (line.At site command) stage (Running setting after) text
plays_at site command Blank setting knowledge after text starts says = absurd starts
plays_at site command (Headed sites most defs) setting knowledge after text (same, none) says =
    subst (λ (s : Setting). Commands (setting_of sites (unwrap_or most 1000000) defs) site command nothing_yet (Running s after) text) (sym same)
    (after, subst (λ (s : Setting). Says s (site_in site) command nothing_yet after text) same (subst (λ (k : Knowledge). Says setting (site_in site) command k after text) none says), refl)
plays_at site command (Running setting' knowledge') setting knowledge after text (same, known) says =
    subst (λ (s : Setting). Commands setting' site command knowledge' (Running s after) text) same
    (after, subst (λ (s : Setting). Says s (site_in site) command knowledge' after text) (sym same) (subst (λ (k : Knowledge). Says setting (site_in site) command k after text) (sym known) says), refl)

pub commanded : (site : ℕ) (command : Command) (old mid new : Script) (text : List ℕ) → ScriptBegins old mid true → RunsAt site command mid new text
    → (stage : Stage) → IsStage old stage → (next : Stage) × Plays (line.At site command) stage next text × IsStage new next
commanded site command old mid new text (there, begins) runs stage stands =
    let (setting, knowledge, starts, (member, is, world)) = begins stage stands in
    let (member', is', answers) = runs member is in
    let (after, (says, world')) = answers setting knowledge world in
    (Running setting after, plays_at site command stage setting knowledge after text starts says, (member', is', world'))
