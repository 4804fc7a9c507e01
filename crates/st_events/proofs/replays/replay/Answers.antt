use Rattle.std.proofs.Common.{◌≡◌, ℕ, ◌∙◌, sym, subst, arith, Some, None, get_or, rules}
use Rattle.st_events.specs.Terms.{New, next, illegal_reason}
use Rattle.st_events.specs.declared.errors.ReplayError.TheVariants.{NotLegal}
use Rattle.st_events.specs.declared.errors.Why.{Why}
use Rattle.st_events.specs.Seen.{seen, LooksAlike}
use Rattle.st_events.specs.Legal.{IsFirstIllegal}
use Rattle.st_events.proofs.AlikeLemmas.{replayed_none, replayed_one_more, replayed_up_to_a_fault}
use Rattle.st_events.proofs.replays.replay.Goals as goal

-- two answers that are the same name the same place and reason
place_of : {p q : ℕ} {v w : Why} → NotLegal p v ≡ NotLegal q w → p ≡ q
place_of e = cc

why_of : {p q : ℕ} {v w : Why} → NotLegal p v ≡ NotLegal q w → v ≡ w
why_of e = cc

pub loop-event-init : goal.loop-event-init
loop-event-init c = record {
  replayed = replayed_none c.args.shape.now c.args.sizes.now c.args.events.now (seen c.in_ok-replay.replay) c.in_ok-replay.ensures.first;
  room = c.in_ok-replay.ensures.room;
  shape = c.in_ok-replay.ensures.shape;
  sizes = c.in_ok-replay.ensures.sizes;
  place = search rules;
  launches = omega (arith, c.in_ok-replay.ensures.first.epoch);
}

pub returns-in-Some-clause-not_legal : goal.returns-in-Some-clause-not_legal
returns-in-Some-clause-not_legal c = λ place why f.
    let e : NotLegal c.loop-event.place c.in-Some.why ≡ NotLegal place why = cc in
    let i = c.loop-event.invariant in
    let reason : Some c.in-Some.why ≡ illegal_reason c.args.shape.now c.args.sizes.now (seen c.loop-event.replay) (get_or c.args.events.now c.loop-event.event-index (New 0 0 0)) =
    rw (← i.shape, ← i.sizes) c.in-Some.ensures in
    let at_place : c.loop-event.event-index ≡ place = sym i.place ∙ place_of e in
    let here = replayed_up_to_a_fault c.args.shape.now c.args.sizes.now c.args.events.now c.loop-event.event-index (New 0 0 0)
    (seen c.loop-event.replay) c.in-Some.why c.loop-event-test.true reason i.replayed in
    subst (λ (n : ℕ). IsFirstIllegal c.args.shape.now c.args.sizes.now c.args.events.now n why) at_place
    (subst (λ (w : Why). IsFirstIllegal c.args.shape.now c.args.sizes.now c.args.events.now c.loop-event.event-index w) (why_of e) here)

pub loop-event-preserved : goal.loop-event-preserved
loop-event-preserved c =
    let i = c.loop-event.invariant in
    let now = c.in_ok-apply-in-None.ensures in
    let legal : None ≡ illegal_reason c.args.shape.now c.args.sizes.now (seen c.loop-event.replay) (get_or c.args.events.now c.loop-event.event-index (New 0 0 0)) =
    rw (← i.shape, ← i.sizes) c.in-None.ensures in
    let later : LooksAlike (seen c.apply.new.self)
    (next c.args.shape.now c.args.sizes.now (seen c.loop-event.replay) (get_or c.args.events.now c.loop-event.event-index (New 0 0 0))) = rw (← i.shape, ← i.sizes) now.next in
    record {
      replayed = replayed_one_more c.args.shape.now c.args.sizes.now c.args.events.now c.loop-event.event-index (New 0 0 0) (seen c.loop-event.replay)
          (seen c.apply.new.self) c.loop-event-test.true legal later i.replayed;
      room = now.room;
      shape = now.shape ∙ i.shape;
      sizes = now.sizes ∙ i.sizes;
      place = omega (arith, i.place);
      launches = omega (arith, i.launches, now.launches);
    }
