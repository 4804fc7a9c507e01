-- No two names of a plan have one word.
use Rattle.std.proofs.Common.{◌≡◌, ℕ, arith, refl, ap}
use Rattle.st_layout.specs.declared.plans.Plan.{Plan}
use Rattle.st_layout.specs.Limits.{IsWithinLimits}
use Rattle.st_layout.specs.Names.{WordName, ClosingWord, ClockWord, EpochWord, AvailableWord, FlagWord, LaneWord}
use Rattle.st_layout.specs.Names.{ClassWord, HeaderWord, ForwardWord, FieldWord, CopyWord, FreeWord, RowWord}
use Rattle.st_layout.specs.Layout.{word_of, HasDistinctWords}

-- names of one kind with the same two numbers are the same
same_by_numbers : (kind : ℕ → ℕ → WordName) {a b c d : ℕ} → a ≡ b → c ≡ d → kind a c ≡ kind b d
same_by_numbers kind first second = cc

-- no two names of a plan have one word; the last case stands for all pairs of different kinds, whose words differ
pub words_distinct : (plan : Plan) → IsWithinLimits plan → HasDistinctWords plan
unfolding word_of
words_distinct plan limits ClosingWord ClosingWord within within' same = refl
words_distinct plan limits ClockWord ClockWord within within' same = refl
words_distinct plan limits EpochWord EpochWord within within' same = refl
words_distinct plan limits AvailableWord AvailableWord within within' same = refl
words_distinct plan limits (FlagWord number) (FlagWord number') within within' same = ap FlagWord (omega arith)
words_distinct plan limits (LaneWord lane) (LaneWord lane') within within' same = ap LaneWord (omega arith)
words_distinct plan limits (ClassWord object) (ClassWord object') within within' same = ap ClassWord (omega arith)
words_distinct plan limits (HeaderWord object) (HeaderWord object') within within' same = ap HeaderWord (omega arith)
words_distinct plan limits (ForwardWord object lane) (ForwardWord object' lane') within within' same =
    same_by_numbers ForwardWord (omega (arith, limits.lanes.1)) (omega (arith, limits.lanes.1))
words_distinct plan limits (FieldWord object field) (FieldWord object' field') within within' same =
    same_by_numbers FieldWord (omega arith) (omega arith)
words_distinct plan limits (CopyWord copy index) (CopyWord copy' index') within within' same =
    same_by_numbers CopyWord (omega arith) (omega arith)
words_distinct plan limits (FreeWord index) (FreeWord index') within within' same = ap FreeWord (omega arith)
words_distinct plan limits (RowWord check index) (RowWord check' index') within within' same =
    same_by_numbers RowWord (omega arith) (omega arith)
words_distinct plan limits a b within within' same = absurd (omega (arith, limits.lanes.1))
