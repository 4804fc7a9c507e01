use Rattle.std.proofs.Common.{◌≡◌, ℕ, ◌-◌, refl, sym, ◌∙◌, ap, subst, arith}
use Rattle.std.proofs.lemmas.Option.{get_or_from_slice_get}
use Rattle.st_snap.specs.Snapshots.{IsLaneOf}
use Rattle.std.specs.Prelude.{slice_set}
use Rattle.st_sched.specs.declared.checks.ActiveCheck.{ActiveCheck}
use Rattle.st_sched.proofs.RunLemmas.{retire_is_possible, retire_stands, retire_history}
use Rattle.st_sched.proofs.running.Running.retire.Goals as goal

pub overflow_sub-number : goal.overflow_sub-number
overflow_sub-number c =
    let v = c.requires.verdict in
    let removed : c.take_out-eval.result ≡ v.0 = c.take_out-eval.ensures.taken ∙ get_or_from_slice_get _ c.args.index v.0 c.take_out-eval.result v.1 in
    let number : c.number.result ≡ v.0.lane.number = c.number.ensures ∙ ap (λ (x : ActiveCheck). x.lane.number) removed in
    let can = retire_is_possible c.requires.run.0 c.args.self.now c.args.index c.args.verdict c.requires.run.1 v in
    omega (arith, number, can.0)

pub index_mut-requires : goal.index_mut-requires
index_mut-requires c =
    let v = c.requires.verdict in
    let removed : c.take_out-eval.result ≡ v.0 = c.take_out-eval.ensures.taken ∙ get_or_from_slice_get _ c.args.index v.0 c.take_out-eval.result v.1 in
    let number : c.number.result ≡ v.0.lane.number = c.number.ensures ∙ ap (λ (x : ActiveCheck). x.lane.number) removed in
    let can = retire_is_possible c.requires.run.0 c.args.self.now c.args.index c.args.verdict c.requires.run.1 v in
    omega (arith, number, can.0, can.1, c.args.self.now.verdicts.ok.0)

pub retire-requires-clause-lane : goal.retire-requires-clause-lane
retire-requires-clause-lane c =
    let v = c.requires.verdict in
    let removed : c.take_out-eval.result ≡ v.0 = c.take_out-eval.ensures.taken ∙ get_or_from_slice_get _ c.args.index v.0 c.take_out-eval.result v.1 in
    let can = retire_is_possible c.requires.run.0 c.args.self.now c.args.index c.args.verdict c.requires.run.1 v in
    subst (λ (x : ActiveCheck). IsLaneOf c.args.self.now.heap x.lane) (sym removed) can.2

pub returns-clause-stands : goal.returns-clause-stands
returns-clause-stands c = λ p t.
    let v = c.requires.verdict in
    let removed : c.take_out-eval.result ≡ v.0 = c.take_out-eval.ensures.taken ∙ get_or_from_slice_get _ c.args.index v.0 c.take_out-eval.result v.1 in
    retire_stands p c.args.self.now _ c.args.m c.args.index c.args.verdict c.take_out-eval.result.lane c.take_out-eval.result.eval t v
    (ap (λ (x : ActiveCheck). x.lane) removed) (ap (λ (x : ActiveCheck). x.eval) removed)
    c.retire.ensures.event c.retire.ensures.others c.take_out-eval.ensures.others c.push_reserved.ensures.items
    (ap (λ (k : ℕ). slice_set c.args.self.now.verdicts.items (k - 1) c.args.verdict) c.number.ensures)
    (record { checks = c.take_out-eval.ensures.capacity; idle = c.push_reserved.ensures.capacity; verdicts = refl; ready = refl; ends = refl; items = refl })

pub returns-clause-history : goal.returns-clause-history
returns-clause-history c = λ p t.
    let v = c.requires.verdict in
    let removed : c.take_out-eval.result ≡ v.0 = c.take_out-eval.ensures.taken ∙ get_or_from_slice_get _ c.args.index v.0 c.take_out-eval.result v.1 in
    retire_history p c.args.self.now c.retire.new.self c.args.m c.args.index c.args.verdict c.take_out-eval.result.lane t v
    (ap (λ (x : ActiveCheck). x.lane) removed) c.retire.ensures.event c.retire.ensures.legal
