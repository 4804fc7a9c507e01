use Rattle.std.proofs.Common.{◌≡◌, ℕ, ◌<◌, ◌/◌, ◌%◌, ◌^◌, List, [], ◌++◌, length, Some, slice_get, sym, ◌∙◌, ap, arith}
use Rattle.std.proofs.lemmas.Option.{slice_get-get_or}
use Rattle.st_run_meaning.specs.declared.limits.TheConstants.{LOW_BITS}
use Rattle.st_sched.specs.declared.agents.Agent.{Agent}
use Rattle.st_sched.specs.Choosing.{ready_seats, ready_checks, has_room, all_ready, chosen_of}
use Rattle.st_sched.proofs.ChoiceLemmas.{ready_seats_are_few, none_taken}
use Rattle.st_sched.proofs.running.Running.next_ready.Goals as goal

pub add_checks-requires : goal.add_checks-requires
add_checks-requires c =
    let old = c.args.self.now in
    let empty : c.truncate.new.self.items ≡ [] = c.truncate.ensures.items ∙ none_taken old.ready.items in
    let listed : c.add_mutators.new.ready.items ≡ ready_seats 0 c.can_launch-room.result c.as_slice.result.now =
    c.add_mutators.ensures.added ∙ ap (λ (xs : List Agent). xs ++ ready_seats 0 c.can_launch-room.result c.as_slice.result.now) empty in
    let many : length c.add_mutators.new.ready.items ≡ length (ready_seats 0 c.can_launch-room.result c.as_slice.result.now) = ap length listed in
    let few = ready_seats_are_few 0 c.can_launch-room.result c.as_slice.result.now in
    let seats : length c.as_slice.result.now ≡ length old.seats.items = ap length c.as_slice.ensures.value in
    let checks : length c.as_slice-2.result.now ≡ length old.checks.items = ap length c.as_slice-2.ensures.value in
    omega (arith, many, few, seats, checks, c.requires, c.add_mutators.new.ready.ok.0, c.add_mutators.ensures.capacity, c.truncate.ensures.capacity)

pub returns-clause-chosen : goal.returns-clause-chosen
returns-clause-chosen c =
    let old = c.args.self.now in
    let ready = c.add_checks.new.ready.items in
    let empty : c.truncate.new.self.items ≡ [] = c.truncate.ensures.items ∙ none_taken old.ready.items in
    let threads : c.add_mutators.new.ready.items ≡ ready_seats 0 (has_room (length old.idle.items) old.checks.items) old.seats.items =
    c.add_mutators.ensures.added ∙ (λ k. empty k ++ ready_seats 0 (c.can_launch-room.ensures k) (c.as_slice.ensures.value k)) in
    let whole : ready ≡ all_ready old.seats.items old.checks.items (length old.idle.items) =
    c.add_checks.ensures.added ∙ (λ k. threads k ++ ready_checks 0 (c.as_slice-2.ensures.value k)) in
    let len : c.len.result ≡ length ready = omega (arith, c.len.ensures, c.add_checks.new.ready.ok.0) in
    let within : c.choice.result < length ready = omega (arith, c.choice.ensures.within, len) in
    let at : slice_get ready c.choice.result ≡ Some c.index.result.now = slice_get-get_or ready c.choice.result c.index.result.now within ∙ ap Some (sym c.index.ensures) in
    let place : c.choice.result ≡ (c.args.x / 2 ^ LOW_BITS) % length ready = c.choice.ensures.chosen ∙ ap (λ (n : ℕ). (c.args.x / 2 ^ LOW_BITS) % n) len in
    sym at ∙ ap (slice_get ready) place ∙ ap (chosen_of c.args.x) whole
