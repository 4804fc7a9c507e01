use Rattle.std.proofs.Common.{◌≡◌, ◌≢◌, ◌∙◌, ℕ, List, sym, subst, get_or, ◌<◌, length}
use Rattle.st_events.proofs.AmongLemmas.{remove_then_without, without_what_is_absent}
use Rattle.st_events.proofs.replaying.drop_number.Goals as goal

pub loop-place-preserved : goal.loop-place-preserved
loop-place-preserved c =
    let there = subst (λ (xs : List ℕ). (c.in-Some.place < length xs) × (get_or xs c.in-Some.place 0 ≡ c.args.number)) c.deref.ensures.value c.in-Some.ensures.there in
    rw c.remove.ensures.items (remove_then_without c.args.number c.loop-place.numbers.items c.in-Some.place there.0 there.1 ∙ c.loop-place.invariant)

pub returns : goal.returns
returns c =
    let none = subst (λ (xs : List ℕ). (k : ℕ) → k < length xs → get_or xs k 0 ≢ c.args.number) c.deref.ensures.value c.in_default.ensures.none in
    sym (without_what_is_absent c.args.number c.loop-place.numbers.items none) ∙ c.loop-place.invariant
