use Rattle.st_canonical_laws.proofs.Law.{reads_back}
use Rattle.st_canonical_laws.proofs.laws.canonical_text_reads_back.Goals as goal

pub returns : goal.returns
returns c = reads_back
