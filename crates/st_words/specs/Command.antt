-- The command line of the program, as a simple command of clap: one level of subcommands, each with its options, flags and names.
use Rattle.std.specs.Prelude.{true, Some, codes}
use Rattle.clap.specs.Words.{App, Rule, Shape, Text, new_app, new_rule, with_rule, with_subcommand}
use Rattle.clap.specs.Simple.{on_top}
use Rattle.clap.specs.declared.builder.ArgAction.TheVariants.{Set, SetTrue}

-- an option with a value: `--name VALUE` or `--name=VALUE`
abbrev pub option : Text → Rule
option name = record (new_rule name) { long = Some name; action = Some Set }

-- a flag: `--name`
abbrev pub flag : Text → Rule
flag name = record (new_rule name) { long = Some name; action = Some SetTrue }

-- a word at its place, which must stand
abbrev pub word : Text → Rule
word name = record (new_rule name) { required = true }

-- an option more
abbrev pub with_option : Text → App → App
with_option name a = with_rule a (option name)

-- a flag more
abbrev pub with_flag : Text → App → App
with_flag name a = with_rule a (flag name)

-- a command more
abbrev pub with_command : App → App → App
with_command command a = with_subcommand a command.top

-- the options of what a run may keep
unfoldable pub with_room : App → App
with_room a = with_option (codes "copies") (with_option (codes "objects") (with_option (codes "lanes") a))

-- the options of what a run may spend
unfoldable pub with_budgets : App → App
with_budgets a = with_option (codes "calls") (with_option (codes "events") a)

-- the options of how a run is made, and the flags of what is written
unfoldable pub with_ways : App → App
with_ways a = with_flag (codes "journal") (with_flag (codes "json") (with_option (codes "schedule") (with_option (codes "checkers") a)))

-- a command with one word
abbrev pub of_one : Text → Text → App
of_one name first = with_rule (new_app name) (word first)

-- `run FILE` with its options and flags
abbrev pub run_command : App
run_command = with_ways (with_budgets (with_room (of_one (codes "run") (codes "file"))))

-- `audit FILE JOURNAL`
abbrev pub audit_command : App
audit_command = with_rule (of_one (codes "audit") (codes "file")) (word (codes "journal"))

-- the commands on files
unfoldable pub with_file_commands : App → App
with_file_commands a = with_command audit_command (with_command (of_one (codes "check") (codes "file")) (with_command run_command a))

-- the commands on a number
unfoldable pub with_number_commands : App → App
with_number_commands a = with_command (of_one (codes "demo") (codes "n")) (with_command (of_one (codes "gen") (codes "n")) a)

-- the words are without the program's name, a command is asked for, and help and version are switched off
abbrev pub with_settings : Shape → Shape
with_settings s = record s {
  no_binary_name = true;
  disable_help_flag = true;
  disable_help_subcommand = true;
  disable_version_flag = true;
  subcommand_required = true;
}

-- the program, before it has commands
abbrev pub top_alone : App
top_alone = on_top with_settings (new_app (codes "strobe"))

-- the command line
unfoldable pub command_line : App
command_line = with_number_commands (with_file_commands top_alone)
