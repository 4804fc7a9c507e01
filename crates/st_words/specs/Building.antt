-- What is said of a clap command while it is built.
use Rattle.std.specs.Prelude.{◌≡◌, false}
use Rattle.clap.specs.Words.{App, app_of}
use Rattle.clap.specs.declared.builder.command.Command.{Command}
use Rattle.clap.specs.declared.builder.command.Command.TheViews.{out-Command}

-- no argument is global
abbrev pub IsLocal : Command → Type 0
IsLocal command = (out-Command command).has_globals ≡ false

-- what a parse reads of the command is this, and no argument is global
pub record IsCommand (app : App) (command : Command) : Type 0 where
  pub shape : app_of command ≡ app
  pub local : IsLocal command

-- the new command is the old one after a change, which brings no global argument
pub record Becomes (change : App → App) (old new : Command) : Type 0 where
  pub shape : app_of new ≡ change (app_of old)
  pub local : IsLocal old → IsLocal new
