use Rattle.st_words.proofs.BuildingLemmas.{file_commands_are}
use Rattle.st_words.proofs.command.with_file_commands.Goals as goal

pub returns : goal.returns
returns c = file_commands_are _ _ _ _ _ _ _ c.in_ok-run.ensures c.in_ok-with_word.ensures c.in_ok-audit.ensures c.in_ok-line.ensures c.in_ok-line-2.ensures c.in_ok-line-3.ensures
