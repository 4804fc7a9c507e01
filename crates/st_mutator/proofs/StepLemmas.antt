-- What one step makes of a machine: it stands, its deed is the same, and less is left to do
use Rattle.std.proofs.Common.{◌≡◌, ℕ, zero, suc, ◌+◌, ◌-◌, ◌*◌, ◌<◌, ◌≤◌, ◌==◌, nat_lt, Bool, true, false, List, [], ◌∷◌, length, refl, sym, ◌∙◌, ap, subst, arith}
use Rattle.std.proofs.Common.{Option, Some, None}
use Rattle.std.proofs.Math.Nat.{mul_comm}
use Rattle.std.proofs.lemmas.Nat.{mul-add-lt}
use Rattle.st_events.specs.declared.verdicts.End.{End}
use Rattle.st_events.specs.declared.verdicts.End.TheVariants.{Finished, EventsSpent}
use Rattle.st_check_meaning.specs.Numbers.{is_true}
use Rattle.st_thread_meaning.specs.declared.limits.TheConstants.{MOST_OPEN_CALLS}
use Rattle.st_thread_meaning.specs.Deeds.{Request, Deed, ends, asks, Means, paying, cost_of, asking}
use Rattle.st_thread_meaning.specs.Threads.{Turn, asks_for, has_ended}
use Rattle.st_thread_meaning.proofs.LoopLemmas.{paid, paying_spent}
use Rattle.st_mutator.specs.declared.asking.Asked.{Asked}
use Rattle.st_mutator.specs.declared.asking.Asked.TheVariants as asked
use Rattle.st_mutator.specs.declared.machines.Machine.{Machine}
use Rattle.st_mutator.specs.declared.nodes.Next.{Next}
use Rattle.st_mutator.specs.declared.nodes.Next.TheVariants.{At, Last}
use Rattle.st_mutator.specs.declared.nodes.Frame.{Frame}
use Rattle.st_mutator.specs.declared.nodes.Frame.TheVariants.{Test, Body, Return}
use Rattle.st_mutator.specs.Stacked.{Stacked, top, below}
use Rattle.st_mutator.specs.Running.{code_meaning}
use Rattle.st_mutator.specs.Standing.{IsStanding, IsStep, IsWaiting, WaitsFor, Becomes, means_of, rest_of, going_in, deed_of, deed_when_told, told_operands, awaited}
use Rattle.st_mutator.specs.Standing.{turn_of_asked, deed_by_turn, rank, AreBelow, AreFrames, behind, work_of, weight_of}

-- where the charge is enough, it is paid
pub paying_enough : (cost : ℕ) (means : Means) (rest : Means → Deed) → nat_lt means.charge cost ≡ false → paying cost means rest ≡ rest (paid cost means)
paying_enough cost means rest e = by (nat_lt means.charge cost) e
  where
    by : (t : Bool) → t ≡ false → ◌≡◌ {A = Deed} (elim t [ true ↦ ends EventsSpent | false ↦ rest (paid cost means) ]) (rest (paid cost means))
    by true e = absurd (cc)
    by false e = refl

-- where it is too little, the thread ends
pub paying_short : (cost : ℕ) (means : Means) (rest : Means → Deed) → nat_lt means.charge cost ≡ true → paying cost means rest ≡ ends EventsSpent
paying_short cost means rest e = by (nat_lt means.charge cost) e
  where
    by : (t : Bool) → t ≡ true → ◌≡◌ {A = Deed} (elim t [ true ↦ ends EventsSpent | false ↦ rest (paid cost means) ]) (ends EventsSpent)
    by true e = refl
    by false e = absurd (cc)

-- where code has ended, the last frame says what the thread does
pub ended_deed : (m : Machine) → m.next ≡ Last → deed_of m ≡ rest_of m m.operands.items m.locals (means_of m)
unfolding code_meaning
ended_deed m e =
    ap (λ (next : Next). going_in m next m.operands.items m.locals (means_of m) (rest_of m)) e

-- a step from the machine whose last frame was taken is one from the machine with it
pub framed_step :
    (m : Machine) (frame : Frame) (left : Stacked Frame) (a : Option Asked) (new : Machine)
    → m.frames ≡ record { items = frame ∷ left.items; room = left.room }
    → m.next ≡ Last
    → IsStep a new m.nodes m.entries (work_of (record m { frames = record { items = frame ∷ left.items; room = left.room } }))
    (behind m.nodes m.entries (frame ∷ left.items) m.callers.items m.operands.items m.locals (means_of m))
    → IsStep a new m.nodes m.entries (work_of m) (deed_of m)
framed_step m frame left a new e ended h =
    let deed : behind m.nodes m.entries (frame ∷ left.items) m.callers.items m.operands.items m.locals (means_of m) ≡ deed_of m =
    ap (λ (fs : Stacked Frame). behind m.nodes m.entries fs.items m.callers.items m.operands.items m.locals (means_of m)) (sym e) ∙ sym (ended_deed m ended) in
    let work : work_of (record m { frames = record { items = frame ∷ left.items; room = left.room } }) ≡ work_of m =
    ap (λ (fs : Stacked Frame). work_of (record m { frames = fs })) (sym e) in
    subst (λ (w : ℕ). IsStep a new m.nodes m.entries w (deed_of m)) work
    (subst (λ (d : Deed). IsStep a new m.nodes m.entries (work_of (record m { frames = record { items = frame ∷ left.items; room = left.room } })) d) deed h)

-- with no frame left, the thread is finished
pub finished_step :
    (m : Machine)
    → IsStanding m
    → m.frames.items ≡ []
    → m.next ≡ Last
    → IsStep (Some (asked.End Finished)) m m.nodes m.entries (work_of m) (deed_of m)
finished_step m h e ended = record {
  becomes =
      ended_deed m ended
      ∙ ap (λ (fs : List Frame). behind m.nodes m.entries fs m.callers.items m.operands.items m.locals (means_of m)) e;
  standing = h;
  waits = tt;
  nodes_same = refl;
  entries_same = refl;
  smaller = λ n. absurd (cc);
}
