use Rattle.std.proofs.Common.{◌≡◌, ◌-◌, [], ◌++◌, length, map, ◌∙◌, ap, arith}
use Rattle.st_events.specs.Terms.{kept_rows}
use Rattle.st_mutator.specs.Mutators.{turn_of_want}
use Rattle.st_snap.specs.Snapshots.{Snapshots, rows_now}
use Rattle.st_run_meaning.specs.Runs.{end_of}
use Rattle.st_run_meaning.specs.Steps.{retires}
use Rattle.st_sched.specs.declared.seats.Seat.{Seat}
use Rattle.st_sched.specs.Standing.{finished_in, heap_of_journal}
use Rattle.st_sched.proofs.EndLemmas.{way_is_under_way, ran_is_left}
use Rattle.st_sched.proofs.running.Running.close.Goals as goal

pub add_ends-requires : goal.add_ends-requires
add_ends-requires c =
    let run = c.requires.run.1 in
    let stands = c.retire_all.ensures.stands c.requires.run.0 run in
    let none : length c.retire_all.new.self.ends.items ≡ 0 = ap length stands.room.no_ends in
    let seats : length c.as_slice.result.now ≡ length c.args.self.seats.items = ap length (c.as_slice.ensures.value ∙ c.retire_all.ensures.rest.seats) in
    let threads : c.args.self.heap.sizes.mutators ≡ run.sizes.mutators = ap (λ (h : Snapshots). h.sizes.mutators) run.stands.heap in
    omega (arith, none, seats, threads, c.requires.seats, stands.room.ends, c.retire_all.new.self.ends.ok.0)

pub returns : goal.returns
returns c = λ shape p sizes start t.
    let s = t.way.state in
    let run = way_is_under_way shape p sizes start c.args.self t.way in
    let stands = c.retire_all.ensures.stands p run in
    let gone = finished_in c.args.self.checks.items in
    let heap : c.retire_all.new.self.heap ≡ heap_of_journal shape sizes (s.journal ++ retires c.args.main gone) = stands.heap in
    let journal : c.into_events.result.items ≡ s.journal ++ retires c.args.main gone =
    c.into_events.ensures ∙ c.into_journal.ensures.events ∙ ap (λ (h : Snapshots). h.journal) heap in
    let seats : c.as_slice.result.now ≡ c.args.self.seats.items = c.as_slice.ensures.value ∙ c.retire_all.ensures.rest.seats in
    let none : c.retire_all.new.self.ends.items ≡ [] = stands.room.no_ends in
    let ends : c.add_ends.new.ends.items ≡ map (λ (seat : Seat). end_of (turn_of_want seat.want)) c.args.self.seats.items =
    c.add_ends.ensures ∙ (λ k. none k ++ map (λ (seat : Seat). end_of (turn_of_want seat.want)) (seats k)) in
    let free : c.free-free.result ≡ sizes.copies - length (kept_rows shape sizes (s.journal ++ retires c.args.main gone)) =
    c.free-free.ensures ∙ ap (λ (h : Snapshots). h.sizes.copies - length (rows_now h)) heap in
    ran_is_left shape p sizes s c.args.main c.args.self.checks.items c.args.self.seats.items c.retire_all.new.self.verdicts.items _ t.way.formed t.way.limits t.way.sound t.over
    (record {
      all_checks = t.way.stands.checks;
      all_seats = t.way.seats;
      all_verdicts = stands.verdicts;
      is_main = c.requires.main ∙ ap (λ (h : Snapshots). h.sizes.mutators) t.way.stands.heap;
    })
    (λ k. record { journal = journal k; verdicts = c.retire_all.new.self.verdicts.items; ends = ends k; free = free k })
