use Rattle.std.proofs.Common.{◌-◌, length}
use Rattle.st_sched.proofs.running.Running.+retire_finished.Given as goal

abbrev pub decreases-retire_finished : goal.decreases-retire_finished
decreases-retire_finished l = length l.self.now.checks.items - l.index
