-- Building commands argument by argument, and the program command by command.
use Rattle.std.proofs.Common.{◌≡◌, ◌∙◌, ◌||◌, ◌∷◌, [], ap, ap₂, sym, false, List, Result, Ok, Err}
use Rattle.std.specs.Prelude.{IfOk, IsOkAnd}
use Rattle.clap.specs.Words.{AddsArg, AddsSubcommand, App, Rule, app_of, rule_of, with_rule, with_subcommand}
use Rattle.clap.specs.declared.builder.Arg.{Arg}
use Rattle.clap.specs.declared.builder.Command.{Command}
use Rattle.clap.specs.declared.builder.Command.TheViews.{out-Command}
use Rattle.ctt_words.specs.CommandLine.{IsCommand, with_commands, with_rules}

-- with these arguments added the command is this one
pub record Wants (whole : App) (rules : List Rule) (now : Command) : Type 0 where
  pub reads_by : with_rules (app_of now) rules ≡ whole
  pub is_local : (out-Command now).has_globals ≡ false

pub one_argument : (whole : App) (rule : Rule) (rules : List Rule) (old : Command) (a : Arg) (new : Command)
    → Wants whole (rule ∷ rules) old → rule_of a ≡ rule → a.global ≡ false → AddsArg old a new → Wants whole rules new
one_argument whole rule rules old a new was rule_is local adds = record {
  reads_by = ap (λ app. with_rules app rules) (adds.shape local ∙ ap (with_rule (app_of old)) rule_is) ∙ was.reads_by;
  is_local = adds.globals ∙ ap₂ (◌||◌) was.is_local local;
}

pub none_wanted : (whole : App) (rules : List Rule) (now : Command) → rules ≡ [] → Wants whole rules now → IsCommand whole now
none_wanted whole rules now none wants = record {
  reads_by = ap (λ (left : List Rule). with_rules (app_of now) left) (sym none) ∙ wants.reads_by;
  is_local = wants.is_local;
}

-- with these commands added the program is this one
pub record WantsCommands (whole : App) (subs : List App) (now : Command) : Type 0 where
  pub reads_by : with_commands (app_of now) subs ≡ whole
  pub is_local : (out-Command now).has_globals ≡ false

one_more : (whole sub : App) (subs : List App) (old command new : Command)
    → WantsCommands whole (sub ∷ subs) old → IsCommand sub command → AddsSubcommand old command new → WantsCommands whole subs new
one_more whole sub subs old command new was command_is adds = record {
  reads_by = ap (λ app. with_commands app subs) (adds.shape command_is.is_local
      ∙ ap (λ (a : App). with_subcommand (app_of old) a.top) command_is.reads_by) ∙ was.reads_by;
  is_local = adds.globals ∙ ap₂ (◌||◌) was.is_local command_is.is_local;
}

-- a command is added if both could be built
pub one_command : {E : Type 0} (whole sub : App) (subs : List App) (program made new : Result Command E)
    → IfOk program (WantsCommands whole (sub ∷ subs)) → IfOk made (IsCommand sub)
    → IfOk new (λ new. IsOkAnd program (λ old. IsOkAnd made (λ command. AddsSubcommand old command new)))
    → IfOk new (WantsCommands whole subs)
one_command whole sub subs program made (Err e) was is adds = tt
one_command whole sub subs (Err e) made (Ok new) was is adds = absurd adds
one_command whole sub subs (Ok old) (Err e) (Ok new) was is adds = absurd adds
one_command whole sub subs (Ok old) (Ok command) (Ok new) was is adds = one_more whole sub subs old command new was is adds

pub no_command_wanted : (whole : App) (subs : List App) (now : Command) → subs ≡ [] → WantsCommands whole subs now → IsCommand whole now
no_command_wanted whole subs now none wants = record {
  reads_by = ap (λ (left : List App). with_commands (app_of now) left) (sym none) ∙ wants.reads_by;
  is_local = wants.is_local;
}
