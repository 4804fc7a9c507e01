use Rattle.st_barrier.proofs.KeepLemmas.{may_build, copy_keeps, copy_awaits, one_word_more}
use Rattle.st_barrier.proofs.versions.build_word.Goals as goal

pub copy_store-requires-clause-flight : goal.copy_store-requires-clause-flight
copy_store-requires-clause-flight g c =
    let x = c.args.change in
    may_build c.args.seat.now x.obj x.field x.value c.args.index c.args.copy c.args.fields.now c.args.k c.args.word c.requires.flight c.requires.copy c.requires.within c.requires.word

pub returns-clause-board : goal.returns-clause-board
returns-clause-board g c = copy_keeps c.args.seat.now c.copy_store.new.seat c.copy_store.ensures.seat c.copy_store.ensures.view

pub returns-clause-awaiting : goal.returns-clause-awaiting
returns-clause-awaiting g c =
    let x = c.args.change in
    copy_awaits c.args.seat.now c.copy_store.new.seat c.copy_store.ensures.seat c.copy_store.ensures.view x.obj x.field x.value c.args.index c.args.fields.now c.args.k c.requires.flight

pub returns-clause-flight : goal.returns-clause-flight
returns-clause-flight g c =
    let x = c.args.change in
    one_word_more c.args.seat.now c.copy_store.new.seat c.copy_store.ensures.seat c.copy_store.ensures.view x.obj x.field x.value c.args.index c.args.fields.now c.args.k c.requires.flight
