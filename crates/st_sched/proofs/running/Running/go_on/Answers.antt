use Rattle.std.proofs.Common.{◌≡◌, ◌<◌, length, Some, None, refl, sym, ◌∙◌, ap, subst, arith}
use Rattle.std.specs.Option.{option_map}
use Rattle.st_resolved.specs.Views.{program_of}
use Rattle.st_run_meaning.specs.Agents.{mutator, check, next_agent}
use Rattle.st_run_meaning.specs.Steps.{turn_of}
use Rattle.st_snap.specs.Snapshots.{Snapshots}
use Rattle.st_sched.specs.declared.agents.Agent.TheVariants.{Mutator, Check}
use Rattle.st_sched.specs.declared.running.Running.{Running}
use Rattle.st_sched.specs.Choosing.{agent_of}
use Rattle.st_sched.specs.Standing.{number_at}
use Rattle.st_sched.specs.UnderWay.{AreSeats}
use Rattle.st_sched.proofs.ChoiceLemmas.{chosen_check_is_there}
use Rattle.st_sched.proofs.GoLemmas.{turn_of_way, chosen_on_way, way_listed, way_after_numbered_turn, fewer_reads, journal_grows, seats_and_checks_fit}
use Rattle.st_sched.proofs.running.Running.go_on.Goals as goal

pub next_ready-requires : goal.next_ready-requires
next_ready-requires c =
    let r = c.requires in
    seats_and_checks_fit r.0 (program_of c.args.program.now) r.1 r.2 c.turns.self (c.turns.invariant.way r.0 r.1 r.2 r.3)

pub returns-in-None-clause-over : goal.returns-in-None-clause-over
returns-in-None-clause-over c = λ shape sizes start first e.
    let p = program_of c.args.program.now in
    let way = c.turns.invariant.way shape sizes start first in
    let is : c.next_ready.result ≡ None = c.in-None.is in
    let next : next_agent shape p sizes way.state ≡ None =
    chosen_on_way shape p sizes start c.turns.self c.number_after-x.result c.next_ready.result way c.number_after-x.ensures c.next_ready.ensures.chosen
    ∙ ap (option_map (agent_of c.turns.self.checks.items)) is in
    record { way = way_listed shape p sizes start c.turns.self c.next_ready.new.self c.next_ready.ensures.rest c.next_ready.ensures.capacity way; over = next }

pub turn_of_mutator-requires : goal.turn_of_mutator-requires
turn_of_mutator-requires c =
    let p = program_of c.args.program.now in
    let r = c.requires in
    let way = c.turns.invariant.way r.0 r.1 r.2 r.3 in
    let is : c.next_ready.result ≡ Some (Mutator c.in-Some-Mutator.m) = cc in
    let next : next_agent r.0 p r.1 way.state ≡ Some (mutator c.in-Some-Mutator.m) =
    chosen_on_way r.0 p r.1 r.2 c.turns.self c.number_after-x.result c.next_ready.result way c.number_after-x.ensures c.next_ready.ensures.chosen
    ∙ ap (option_map (agent_of c.turns.self.checks.items)) is in
    turn_of_way r.0 p r.1 r.2 c.next_ready.new.self (mutator c.in-Some-Mutator.m)
    (way_listed r.0 p r.1 r.2 c.turns.self c.next_ready.new.self c.next_ready.ensures.rest c.next_ready.ensures.capacity way) next

pub returns-in-Some-Mutator-clause-on : goal.returns-in-Some-Mutator-clause-on
returns-in-Some-Mutator-clause-on c = λ shape sizes start first e.
    let p = program_of c.args.program.now in
    let way = c.turns.invariant.way shape sizes start first in
    let is : c.next_ready.result ≡ Some (Mutator c.in-Some-Mutator.m) = cc in
    let next : next_agent shape p sizes way.state ≡ Some (mutator c.in-Some-Mutator.m) =
    chosen_on_way shape p sizes start c.turns.self c.number_after-x.result c.next_ready.result way c.number_after-x.ensures c.next_ready.ensures.chosen
    ∙ ap (option_map (agent_of c.turns.self.checks.items)) is in
    let listed = way_listed shape p sizes start c.turns.self c.next_ready.new.self c.next_ready.ensures.rest c.next_ready.ensures.capacity way in
    let turn = turn_of_way shape p sizes start c.next_ready.new.self (mutator c.in-Some-Mutator.m) listed next in
    way_after_numbered_turn shape p sizes start c.turns.self c.turn_of_mutator.new.self (mutator c.in-Some-Mutator.m) way _ next
    (c.turn_of_mutator.ensures.stands turn) (c.turn_of_mutator.ensures.seats turn) refl c.number_after-x.ensures

pub returns-in-Some-Mutator-clause-more : goal.returns-in-Some-Mutator-clause-more
returns-in-Some-Mutator-clause-more c = λ e.
    let p = program_of c.args.program.now in
    let r = c.requires in
    let way = c.turns.invariant.way r.0 r.1 r.2 r.3 in
    let is : c.next_ready.result ≡ Some (Mutator c.in-Some-Mutator.m) = cc in
    let next : next_agent r.0 p r.1 way.state ≡ Some (mutator c.in-Some-Mutator.m) =
    chosen_on_way r.0 p r.1 r.2 c.turns.self c.number_after-x.result c.next_ready.result way c.number_after-x.ensures c.next_ready.ensures.chosen
    ∙ ap (option_map (agent_of c.turns.self.checks.items)) is in
    let listed = way_listed r.0 p r.1 r.2 c.turns.self c.next_ready.new.self c.next_ready.ensures.rest c.next_ready.ensures.capacity way in
    let turn = turn_of_way r.0 p r.1 r.2 c.next_ready.new.self (mutator c.in-Some-Mutator.m) listed next in
    let stands = c.turn_of_mutator.ensures.stands turn in
    let later : length c.turn_of_mutator.new.self.heap.journal ≡ length (turn_of r.0 p r.1 way.state (mutator c.in-Some-Mutator.m)).journal =
    ap (λ (s : Snapshots). length s.journal) stands.heap in
    let now : length c.turns.self.heap.journal ≡ length way.state.journal = ap (λ (s : Snapshots). length s.journal) way.stands.heap in
    let first : length c.turns.self.heap.journal ≡ length c.args.self.now.heap.journal = ap (λ (s : Snapshots). length s.journal) c.turns.invariant.heap in
    let grows = journal_grows r.0 p r.1 way.state c.in-Some-Mutator.m next in
    omega (arith, later, now, first, grows)

pub turn_of_check-requires-clause-turn : goal.turn_of_check-requires-clause-turn
turn_of_check-requires-clause-turn c =
    let p = program_of c.args.program.now in
    let r = c.requires in
    let way = c.turns.invariant.way r.0 r.1 r.2 r.3 in
    let is : c.next_ready.result ≡ Some (Check c.in-Some-Check.index) = cc in
    let next : next_agent r.0 p r.1 way.state ≡ Some (check (number_at c.next_ready.new.self.checks.items c.in-Some-Check.index)) =
    chosen_on_way r.0 p r.1 r.2 c.turns.self c.number_after-x.result c.next_ready.result way c.number_after-x.ensures c.next_ready.ensures.chosen
    ∙ ap (option_map (agent_of c.turns.self.checks.items)) is
    ∙ ap (λ (x : Running). Some (check (number_at x.checks.items c.in-Some-Check.index))) (sym c.next_ready.ensures.rest) in
    turn_of_way r.0 p r.1 r.2 c.next_ready.new.self (check (number_at c.next_ready.new.self.checks.items c.in-Some-Check.index))
    (way_listed r.0 p r.1 r.2 c.turns.self c.next_ready.new.self c.next_ready.ensures.rest c.next_ready.ensures.capacity way) next

pub turn_of_check-requires-clause-index : goal.turn_of_check-requires-clause-index
turn_of_check-requires-clause-index c =
    let p = program_of c.args.program.now in
    let r = c.requires in
    let way = c.turns.invariant.way r.0 r.1 r.2 r.3 in
    let is : c.next_ready.result ≡ Some (Check c.in-Some-Check.index) = cc in
    let next : next_agent r.0 p r.1 way.state ≡ Some (check (number_at c.turns.self.checks.items c.in-Some-Check.index)) =
    chosen_on_way r.0 p r.1 r.2 c.turns.self c.number_after-x.result c.next_ready.result way c.number_after-x.ensures c.next_ready.ensures.chosen
    ∙ ap (option_map (agent_of c.turns.self.checks.items)) is in
    let there = chosen_check_is_there r.0 p r.1 way.state c.turns.self.checks.items c.in-Some-Check.index way.formed way.sound way.stands.checks next in
    subst (λ (x : Running). c.in-Some-Check.index < length x.checks.items) (sym c.next_ready.ensures.rest) there

pub turns-smaller : goal.turns-smaller
turns-smaller c =
    let p = program_of c.args.program.now in
    let r = c.requires in
    let way = c.turns.invariant.way r.0 r.1 r.2 r.3 in
    let n = number_at c.next_ready.new.self.checks.items c.in-Some-Check.index in
    let is : c.next_ready.result ≡ Some (Check c.in-Some-Check.index) = cc in
    let next : next_agent r.0 p r.1 way.state ≡ Some (check n) =
    chosen_on_way r.0 p r.1 r.2 c.turns.self c.number_after-x.result c.next_ready.result way c.number_after-x.ensures c.next_ready.ensures.chosen
    ∙ ap (option_map (agent_of c.turns.self.checks.items)) is
    ∙ ap (λ (x : Running). Some (check (number_at x.checks.items c.in-Some-Check.index))) (sym c.next_ready.ensures.rest) in
    let listed = way_listed r.0 p r.1 r.2 c.turns.self c.next_ready.new.self c.next_ready.ensures.rest c.next_ready.ensures.capacity way in
    let turn = turn_of_way r.0 p r.1 r.2 c.next_ready.new.self (check n) listed next in
    fewer_reads r.0 p r.1 way.state n c.turns.self c.turn_of_check.new.self next way.stands (c.turn_of_check.ensures.stands turn)

pub turns-preserved : goal.turns-preserved
turns-preserved c = record {
  way = λ shape sizes start first.
      let p = program_of c.args.program.now in
      let way = c.turns.invariant.way shape sizes start first in
      let n = number_at c.next_ready.new.self.checks.items c.in-Some-Check.index in
      let is : c.next_ready.result ≡ Some (Check c.in-Some-Check.index) = cc in
      let next : next_agent shape p sizes way.state ≡ Some (check n) =
      chosen_on_way shape p sizes start c.turns.self c.number_after-x.result c.next_ready.result way c.number_after-x.ensures c.next_ready.ensures.chosen
      ∙ ap (option_map (agent_of c.turns.self.checks.items)) is
      ∙ ap (λ (x : Running). Some (check (number_at x.checks.items c.in-Some-Check.index))) (sym c.next_ready.ensures.rest) in
      let listed = way_listed shape p sizes start c.turns.self c.next_ready.new.self c.next_ready.ensures.rest c.next_ready.ensures.capacity way in
      let turn = turn_of_way shape p sizes start c.next_ready.new.self (check n) listed next in
      way_after_numbered_turn shape p sizes start c.turns.self c.turn_of_check.new.self (check n) way _ next
      (c.turn_of_check.ensures.stands turn)
      (subst (AreSeats p sizes way.state.journal) (sym (c.turn_of_check.ensures.seats ∙ ap (λ (x : Running). x.seats.items) c.next_ready.ensures.rest)) way.seats)
      refl c.number_after-x.ensures;
  heap = c.turn_of_check.ensures.heap ∙ ap (λ (x : Running). x.heap) c.next_ready.ensures.rest ∙ c.turns.invariant.heap;
}
