-- A command with one more option, or with one more command below it.
use Rattle.std.proofs.Common.{◌≡◌, ◌∙◌, ap, ap₂, refl, sym, true, false, not, Bool, is_some, ◌&&◌, List, [], ◌∷◌, map}
use Rattle.std.proofs.lemmas.Bool.{and_parts}
use Rattle.std.proofs.lemmas.Result.{IfOk-at_ok}
use Rattle.std.specs.Prelude.{IfOk, Ok, Result}
use Rattle.clap.specs.Words.{App, Rule, app_of, rule_of, with_rule, with_subcommand, AddsArg, AddsInTurn, AddsSubcommand}
use Rattle.clap.specs.Walk.{is_empty, is_simple_arg}
use Rattle.clap.specs.Simple.{has_plain_fields}
use Rattle.clap.specs.declared.builder.arg.Arg.{Arg}
use Rattle.clap.specs.declared.builder.command.Command.{Command}
use Rattle.clap.specs.declared.builder.command.Command.TheViews.{out-Command}

no : (b : Bool) → not b ≡ true → b ≡ false
no true e = absurd (cc e)
no false e = refl

-- a simple argument is not global
local : (a : Arg) → is_simple_arg a ≡ true → a.global ≡ false
local a e =
    let e1 = and_parts (is_empty a.overrides.items) _ e in
    let e2 = and_parts (is_empty a.default_vals_ifs.items) _ e1.1 in
    let e3 = and_parts (is_empty a.groups.items) _ e2.1 in
    let e4 = and_parts (not (is_some a.val_delim)) _ e3.1 in
    let e5 = and_parts (not (is_some a.terminator)) _ e4.1 in
    let e6 = and_parts (not a.allow_hyphen_values) _ e5.1 in
    let e7 = and_parts (not a.allow_negative_numbers) _ e6.1 in
    let e8 = and_parts (not a.require_equals) _ e7.1 in
    let e9 = and_parts (not a.last) (not a.global) e8.1 in
    no a.global e9.1

-- a plain command has no global argument
plain : (c : Command) → has_plain_fields (out-Command c) ≡ true → (out-Command c).has_globals ≡ false
plain c e =
    let e1 = and_parts (is_empty (out-Command c).groups.items) _ e in
    let e2 = and_parts (not (out-Command c).allow_external_subcommands) _ e1.1 in
    let e3 = and_parts (not (out-Command c).has_globals) _ e2.1 in
    no (out-Command c).has_globals e3.0

pub adds : (old : Command) (a : Arg) (new : Command) (s : App) (r : Rule) → AddsArg old a new → app_of old ≡ s → rule_of a ≡ r → r.is_simple ≡ true → app_of new ≡ with_rule s r
adds old a new s r h e f simple =
    h.shape (local a (ap (λ (x : Rule). x.is_simple) f ∙ simple)) ∙ ap₂ with_rule e f

-- a command with options, in turn
abbrev with_rules : App → List Rule → App
with_rules command [] = command
with_rules command (option ∷ options) = with_rules (with_rule command option) options

abbrev are_simple : List Rule → Bool
are_simple [] = true
are_simple (rule ∷ rules) = rule.is_simple && are_simple rules

-- options in turn, each of which is simple
pub adds_all : (old : Command) (options : List Arg) (new : Command) (s : App) (rules : List Rule) → AddsInTurn AddsArg old options new → app_of old ≡ s
    → map rule_of options ≡ rules → are_simple rules ≡ true → app_of new ≡ with_rules s rules
adds_all old [] new s [] same e f simple = ap app_of (sym same) ∙ e
adds_all old [] new s (rule ∷ rules) same e f simple = absurd (cc f)
adds_all old (a ∷ options) new s [] h e f simple = absurd (cc f)
adds_all old (a ∷ options) new s (rule ∷ rules) (mid, h, more) e f simple =
    let both = and_parts rule.is_simple (are_simple rules) simple in
    adds_all mid options new (with_rule s rule) rules more (adds old a mid s rule h e (cc f) both.0) (cc f) both.1

-- the rules of options, one by one
pub one_more : {x y : Rule} {xs ys : List Rule} → x ≡ y → xs ≡ ys → x ∷ xs ≡ y ∷ ys
one_more e f = ap₂ ◌∷◌ e f

pub no_more : map rule_of [] ≡ []
no_more = refl

pub adds_below : (old sub new : Command) (s below : App) → AddsSubcommand old sub new → app_of old ≡ s → app_of sub ≡ below → below.top.is_plain ≡ true → app_of new ≡ with_subcommand s below.top
adds_below old sub new s below h e f simple =
    h.shape (plain sub (ap (λ (x : App). x.top.is_plain) f ∙ simple)) ∙ ap₂ with_subcommand e (ap (λ (x : App). x.top) f)

-- the same, where either command may not have been made
pub adds_made : {E : Type 0} (old made : Result Command E) (new : Command) (s below : App)
    → (a : Command) × (b : Command) × (old ≡ Ok a) × (made ≡ Ok b) × AddsSubcommand a b new
    → IfOk old (λ a. app_of a ≡ s) → IfOk made (λ b. app_of b ≡ below) → below.top.is_plain ≡ true → app_of new ≡ with_subcommand s below.top
adds_made old made new s below (a, b, is_a, is_b, h) e f simple =
    adds_below a b new s below h (IfOk-at_ok (λ (a : Command). app_of a ≡ s) is_a e) (IfOk-at_ok (λ (b : Command). app_of b ≡ below) is_b f) simple
