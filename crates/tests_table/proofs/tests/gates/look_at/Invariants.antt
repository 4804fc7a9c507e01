use Rattle.std.proofs.Common.{Some}
use Rattle.st_rule.specs.Seats.{table_of, judge_of, sizes_of}
use Rattle.tests_table.proofs.tests.gates.look_at.Given as goal

-- the table that is handed in
abbrev pub ghosts-look_behind_a_lock : goal.ghosts-look_behind_a_lock
ghosts-look_behind_a_lock g a = record {
  table = table_of a.shared.now;
  judge = Some (judge_of a.shared.now);
  sizes = sizes_of a.shared.now;
}
