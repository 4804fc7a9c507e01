use Rattle.std.proofs.Common.{◌≡◌, ℕ, true, false, List, length, take, get_or, refl, subst, arith, length-take}
use Rattle.std.proofs.lemmas.List.{take_all}
use Rattle.st_events.specs.declared.events.Event.{Event}
use Rattle.st_events.specs.declared.events.Event.TheVariants.{New}
use Rattle.st_events.specs.History.{is_own}
use Rattle.st_events.specs.Terms.{own_events}
use Rattle.st_resolved.specs.Views.{program_of}
use Rattle.st_mutator.specs.Mutators.{turn_of_want}
use Rattle.st_audit.specs.Differences.{is_end}
use Rattle.st_audit.proofs.DifferenceLemmas.{IsFollowed, Narrows, GoesOn, followed_at_first, own_are_few}
use Rattle.st_audit.proofs.DifferenceLemmas.{own_within_charge, compared_further, compared_one_more, differs_here, follows_to_its_end, misses_one}
use Rattle.st_audit.proofs.differences.first_difference.Goals as goal

pub loop-event-init : goal.loop-event-init
loop-event-init c = record {
  followed = followed_at_first (program_of c.args.program.now) c.args.sizes.now c.args.m c.in_ok-thread.thread c.next-want.new.self c.next-want.result
      (c.in_ok-thread.ensures c.args.sizes.now refl refl) c.next-want.ensures.narrow c.next-want.ensures.goes_on;
  counted = refl;
}

pub loop-event-preserved-then-not-is_own : goal.loop-event-preserved-then-not-is_own
loop-event-preserved-then-not-is_own c =
    let other : is_own c.args.m (get_or c.args.events.now c.loop-event.event-index (New 0 0 0)) ≡ false = cc in
    compared_further (program_of c.args.program.now) c.args.sizes.now c.args.m c.args.events.now c.loop-event.event-index (New 0 0 0) c.loop-event.thread c.loop-event.want
    c.loop-event.count c.loop-event-test.true other c.loop-event.invariant

pub overflow_add-result : goal.overflow_add-result
overflow_add-result c =
    let few = own_are_few c.args.m (take c.loop-event.event-index c.args.events.now) in
    omega (arith, few, length-take c.loop-event.event-index c.args.events.now, c.loop-event.invariant.counted, c.loop-event-test.true, c.requires.events)

pub returns-then-not-answers : goal.returns-then-not-answers
returns-then-not-answers c =
    let own : is_own c.args.m (get_or c.args.events.now c.loop-event.event-index (New 0 0 0)) ≡ true = cc in
    differs_here (program_of c.args.program.now) c.args.sizes.now c.args.m c.args.events.now c.loop-event.event-index (New 0 0 0) c.loop-event.thread c.loop-event.want
    c.loop-event.count c.loop-event-test.true own (c.requires.small c.loop-event.event-index (New 0 0 0) c.loop-event-test.true)
    (c.answers.ensures.other c.if-not-answers.true) c.loop-event.invariant.counted c.loop-event.invariant.followed

pub overflow_add-count : goal.overflow_add-count
overflow_add-count c =
    let few = own_are_few c.args.m (take c.loop-event.event-index c.args.events.now) in
    omega (arith, few, length-take c.loop-event.event-index c.args.events.now, c.loop-event.invariant.counted, c.loop-event-test.true, c.requires.events)

pub loop-event-preserved : goal.loop-event-preserved
loop-event-preserved c =
    let own : is_own c.args.m (get_or c.args.events.now c.loop-event.event-index (New 0 0 0)) ≡ true = cc in
    compared_one_more (program_of c.args.program.now) c.args.sizes.now c.args.m c.args.events.now c.loop-event.event-index (New 0 0 0) c.loop-event.thread
    c.next-want-in-loop-event.new.self c.loop-event.want c.next-want-in-loop-event.result c.loop-event.count c.loop-event-test.true own
    (c.requires.small c.loop-event.event-index (New 0 0 0) c.loop-event-test.true) (c.answers.ensures.right c.if-not-answers.false) c.loop-event.invariant
    (subst (λ (r : ℕ). Narrows c.loop-event.thread r c.next-want-in-loop-event.result) c.reply_of.ensures c.next-want-in-loop-event.ensures.narrow)
    (subst (λ (r : ℕ). GoesOn c.loop-event.thread r c.next-want-in-loop-event.new.self) c.reply_of.ensures c.next-want-in-loop-event.ensures.goes_on)

pub returns-then-has_ended : goal.returns-then-has_ended
returns-then-has_ended c =
    let whole = take_all c.loop-event.event-index c.args.events.now c.loop-event-test.false in
    let i = subst (λ (es : List Event). IsFollowed (program_of c.args.program.now) c.args.sizes.now c.args.m (own_events c.args.m es) c.loop-event.thread c.loop-event.want)
    whole c.loop-event.invariant.followed in
    let over : is_end (turn_of_want c.loop-event.want) ≡ true = cc in
    follows_to_its_end (program_of c.args.program.now) c.args.sizes.now c.args.m c.args.events.now c.loop-event.thread c.loop-event.want over i

pub overflow_add-result-else-has_ended : goal.overflow_add-result-else-has_ended
overflow_add-result-else-has_ended c =
    let few = own_within_charge (program_of c.args.program.now) c.args.sizes.now c.args.m (own_events c.args.m (take c.loop-event.event-index c.args.events.now)) c.loop-event.thread
    c.loop-event.want c.loop-event.invariant.followed in
    omega (arith, few, c.loop-event.invariant.counted, c.requires.sizes.events.1)

pub returns : goal.returns
returns c =
    let whole = take_all c.loop-event.event-index c.args.events.now c.loop-event-test.false in
    let i = subst (λ (es : List Event). IsFollowed (program_of c.args.program.now) c.args.sizes.now c.args.m (own_events c.args.m es) c.loop-event.thread c.loop-event.want)
    whole c.loop-event.invariant.followed in
    let counted : c.loop-event.count ≡ length (own_events c.args.m c.args.events.now) =
    subst (λ (es : List Event). c.loop-event.count ≡ length (own_events c.args.m es)) whole c.loop-event.invariant.counted in
    let more : is_end (turn_of_want c.loop-event.want) ≡ false = cc in
    misses_one (program_of c.args.program.now) c.args.sizes.now c.args.m c.args.events.now c.loop-event.thread c.loop-event.want c.loop-event.count more counted i
