use Rattle.std.proofs.Common.{◌∙◌, sym}
use Rattle.st_events.specs.Terms.{heap_of}
use Rattle.st_events.proofs.ReplayLemmas.{words_ended_too_soon}
use Rattle.st_events.proofs.replaying.Replay.have_kinds.Goals as goal

pub returns-in-None : goal.returns-in-None
returns-in-None c = sym
    (c.loop-place.invariant
    ∙ words_ended_too_soon (heap_of c.args.self.now.heap) c.args.kinds.now c.args.words.now c.loop-place.place c.loop-place-test.true c.in-None.ensures.lookup.3)
