use Rattle.st_barrier.proofs.NeedLemmas.{place_loaded, place_fits}
use Rattle.st_barrier.proofs.needs.load_word.Goals as goal

pub returns-clause-loads : goal.returns-clause-loads
returns-clause-loads g c =
    place_loaded c.args.seat.now c.board_load.new.seat c.board_load.ensures.seat c.args.place c.board_load.result c.board_load.ensures.view c.board_load.ensures.found

pub returns-clause-fits : goal.returns-clause-fits
returns-clause-fits g c =
    place_fits c.args.seat.now c.board_load.new.seat c.board_load.ensures.seat c.args.place c.board_load.result c.board_load.ensures.view c.board_load.ensures.found
