-- Laws of commands that are built step by step, and that the command line is one of which clap tells everything.
use Rattle.std.proofs.Common.{◌≡◌, ◌∙◌, ◌||◌, Bool, refl, ap, ap₂, true, false, codes}
use Rattle.clap.specs.Words.{AddsArg, AddsSubcommand, App, Rule, app_of, is_simple, is_simple_and_free, rule_of, with_rule}
use Rattle.clap.specs.declared.builder.arg.Arg.{Arg}
use Rattle.clap.specs.declared.builder.command.Command.{Command}
use Rattle.clap.proofs.OnLiterals.{clap_on_literals}
use Rattle.st_words.specs.Building.{Becomes, IsCommand, IsLocal}
use Rattle.st_words.specs.Command.{with_option, with_flag, with_command, with_room, with_budgets, with_ways, with_file_commands, with_number_commands, of_one, run_command, audit_command, command_line}

-- a call that adds an argument adds its rule to the command line that the command stands for
pub rule_added : (r : Rule) (old new : Command) (a : Arg) → rule_of a ≡ r → a.global ≡ false → AddsArg old a new → Becomes (λ app. with_rule app r) old new
rule_added r old new a is local h = record {
  shape = h.shape local ∙ ap (with_rule (app_of old)) is;
  local = λ l. h.globals ∙ ap₂ (λ (x y : Bool). x || y) l local;
}

-- a call that adds a subcommand adds it to the command line that the command stands for
pub command_added : (old sub new : Command) → IsLocal sub → AddsSubcommand old sub new → Becomes (with_command (app_of sub)) old new
command_added old sub new local h = record {
  shape = h.shape local;
  local = λ l. h.globals ∙ ap₂ (λ (x y : Bool). x || y) l local;
}

-- two changes, one after the other
pub chain : (f g : App → App) (a b c : Command) → Becomes f a b → Becomes g b c → Becomes (λ x. g (f x)) a c
chain f g a b c first second = record { shape = second.shape ∙ ap g first.shape; local = λ l. second.local (first.local l) }

-- a change of a command that is known
pub changed : (f : App → App) (app : App) (a b : Command) → IsCommand app a → Becomes f a b → IsCommand (f app) b
changed f app a b is change = record { shape = change.shape ∙ ap f is.shape; local = change.local is.local }

-- one command more that is known
pub with_known : (app : App) (command a b : Command) → IsCommand app command → Becomes (with_command (app_of command)) a b → Becomes (with_command app) a b
with_known app command a b is change = record { shape = change.shape ∙ ap (λ (x : App). with_command x (app_of a)) is.shape; local = change.local }

-- the three options, one after another, are the options of what a run may keep
pub room_is : (a b c d : Command) → Becomes (with_option (codes "lanes")) a b → Becomes (with_option (codes "objects")) b c → Becomes (with_option (codes "copies")) c d → Becomes with_room a d
unfolding with_room
room_is a b c d one two three = chain _ _ a c d (chain _ _ a b c one two) three

-- the two options, one after the other, are the options of what a run may spend
pub budgets_are : (a b c : Command) → Becomes (with_option (codes "events")) a b → Becomes (with_option (codes "calls")) b c → Becomes with_budgets a c
unfolding with_budgets
budgets_are a b c one two = chain _ _ a b c one two

-- the two options and two flags, one after another, are those of how a run is made and what is written
pub ways_are : (a b c d e : Command) → Becomes (with_option (codes "checkers")) a b → Becomes (with_option (codes "schedule")) b c → Becomes (with_flag (codes "json")) c d
    → Becomes (with_flag (codes "journal")) d e → Becomes with_ways a e
unfolding with_ways
ways_are a b c d e one two three four = chain _ _ a d e (chain _ _ a c d (chain _ _ a b c one two) three) four

-- run, check and audit, added one after another, are the commands on files
pub file_commands_are : (a b c d run check audit : Command) → IsCommand run_command run → IsCommand (of_one (codes "check") (codes "file")) check → IsCommand audit_command audit
    → Becomes (with_command (app_of run)) a b → Becomes (with_command (app_of check)) b c → Becomes (with_command (app_of audit)) c d → Becomes with_file_commands a d
unfolding with_file_commands
file_commands_are a b c d run check audit r k u one two three =
    chain _ _ a c d (chain _ _ a b c (with_known _ run a b r one) (with_known _ check b c k two)) (with_known _ audit c d u three)

-- gen and demo, added one after the other, are the commands on a number
pub number_commands_are : (a b c gen demo : Command) → IsCommand (of_one (codes "gen") (codes "n")) gen → IsCommand (of_one (codes "demo") (codes "n")) demo
    → Becomes (with_command (app_of gen)) a b → Becomes (with_command (app_of demo)) b c → Becomes with_number_commands a c
unfolding with_number_commands
number_commands_are a b c gen demo g d one two = chain _ _ a b c (with_known _ gen a b g one) (with_known _ demo b c d two)

-- clap tells of this command line exactly which words it takes, and what it finds in them
pub line_is_simple_and_free : is_simple_and_free command_line ≡ true
unfolding clap_on_literals command_line with_number_commands with_file_commands with_room with_budgets with_ways
line_is_simple_and_free = refl

-- the command line is one level of subcommands, whose words clap's contract tells
pub line_is_simple : is_simple command_line ≡ true
unfolding clap_on_literals command_line with_number_commands with_file_commands with_room with_budgets with_ways
line_is_simple = refl
