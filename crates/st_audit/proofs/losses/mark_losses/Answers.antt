use Rattle.std.proofs.Common.{◌≡◌, ◌++◌, ℕ, true, false, List, filter, Some, subst}
use Rattle.std.specs.Prelude.{nat_lt}
use Rattle.st_audit.specs.Ledgers.{changed_by, is_full_in, stamp_in}
use Rattle.st_audit.specs.Marks.{AreMarks}
use Rattle.st_audit.proofs.MarkLemmas.{pairs_of, marks_stay_with_room, marks_at_loss}
use Rattle.st_audit.proofs.losses.mark_losses.Goals as goal

pub returns-then-not-is_full-clause-marks : goal.returns-then-not-is_full-clause-marks
returns-then-not-is_full-clause-marks c = λ shape sizes w objects l old.
    let change : changed_by c.args.event ≡ Some c.in-Some.obj = cc in
    let room : is_full_in c.args.ledger.now ≡ false = cc in
    marks_stay_with_room shape sizes c.args.ledger.now w c.args.event c.in-Some.obj objects c.args.verdicts.now c.args.marks.now.items change l room old

pub returns-clause-marks : goal.returns-clause-marks
returns-clause-marks c = λ shape sizes w objects l old.
    let change : changed_by c.args.event ≡ Some c.in-Some.obj = cc in
    let full : is_full_in c.args.ledger.now ≡ true = cc in
    let marked = subst (λ (s : ℕ). AreMarks c.args.verdicts.now (w.lost ++ pairs_of c.in-Some.obj (filter (λ n. nat_lt s n) c.active.result.now)) c.mark.new.marks.items)
    c.stamp.ensures (c.mark.ensures.marks w.lost old) in
    marks_at_loss shape sizes c.args.ledger.now w c.args.event c.in-Some.obj objects c.args.verdicts.now c.mark.new.marks.items change l full
    (subst (λ (ns : List ℕ). AreMarks c.args.verdicts.now (w.lost ++ pairs_of c.in-Some.obj (filter (λ n. nat_lt (stamp_in c.args.ledger.now c.in-Some.obj) n) ns)) c.mark.new.marks.items)
    c.active.ensures marked)
