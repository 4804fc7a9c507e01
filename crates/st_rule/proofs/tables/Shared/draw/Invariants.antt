use Rattle.st_rule.proofs.tables.Shared.draw.Given as goal

-- the event that is drawn
abbrev pub ghosts-add_clock : goal.ghosts-add_clock
ghosts-add_clock g a = record { event = a.event }
