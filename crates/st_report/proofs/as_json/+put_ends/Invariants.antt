use Rattle.std.proofs.Common.{length}
use Rattle.st_report.proofs.as_json.+put_ends.Given as goal

abbrev pub decreases-put_ends : goal.decreases-put_ends
decreases-put_ends l = length l.threads.now
