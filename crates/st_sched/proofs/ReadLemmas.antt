-- What stays in memory where a check reads
use Rattle.std.proofs.Common.{◌≡◌, ◌≢◌, ℕ, zero, suc, ◌+◌, ◌<◌, Bool, true, false, List, [], ◌∷◌, length, get_or}
use Rattle.std.proofs.Common.{Option, slice_get, slice_set, Some, None, refl, sym, ◌∙◌, ap, subst, arith, IsSome}
use Rattle.std.specs.Prelude.{unwrap_or}
use Rattle.std.specs.List.{All}
use Rattle.std.proofs.lemmas.Option.{slice_get_within, get_or_from_slice_get, slice_get-get_or}
use Rattle.st_events.specs.declared.limits.Sizes.{Sizes}
use Rattle.st_events.specs.declared.verdicts.Verdict.{Verdict}
use Rattle.st_events.specs.declared.verdicts.Verdict.TheVariants.{Abandoned}
use Rattle.st_events.specs.Sizes.{AreWithinLimits}
use Rattle.st_events.specs.Sound.{IsRising}
use Rattle.st_events.specs.Terms.{ShapeLists, Launched, IsLegal, is_among, is_lost, lost_pairs, word_at, launch_of, active_checks}
use Rattle.st_events.proofs.WorldLemmas.{at_same, at_other}
use Rattle.st_resolved.specs.Terms.{Program}
use Rattle.st_resolved.specs.WellFormed.{IsWellFormed}
use Rattle.st_check_meaning.specs.Plain.{Cell as CellRead, Followed, word_found}
use Rattle.st_check_meaning.specs.Turns.{followed_from}
use Rattle.st_eval.specs.declared.evals.Eval.{Eval}
use Rattle.st_eval.specs.Evaluations.{IsMadeFor, budget, turn_by}
use Rattle.st_snap.specs.declared.lanes.Lane.{Lane}
use Rattle.st_snap.specs.Snapshots.{IsLaneOf, HadCell, word_at_launch, word_then, is_lost_for}
use Rattle.st_run_meaning.specs.States.{Progress, State, has_read, abandoned_at}
use Rattle.st_run_meaning.specs.Agents.{cells_of, cell_after, cell_asked, check}
use Rattle.st_run_meaning.specs.Runs.{verdict_of}
use Rattle.st_run_meaning.specs.Steps.{one_more, progress_after, turn_of}
use Rattle.st_sched.specs.declared.checks.ActiveCheck.{ActiveCheck}
use Rattle.st_sched.specs.declared.checks.Awaits.{Awaits}
use Rattle.st_sched.specs.declared.checks.Awaits.TheVariants.{Cell, Retire}
use Rattle.st_sched.specs.Checks.{AwaitsTurn}
use Rattle.st_sched.specs.Choosing.{numbers}
use Rattle.st_sched.specs.Standing.{IsInMemory, AreChecks, AreVerdicts, HasCome, whole_of, without_first, heap_of_journal, number_at}
use Rattle.st_sched.proofs.CellLemmas.{ReadsWell, launched_reads_well}
use Rattle.st_sched.proofs.CourseLemmas.{turn_has_come, next_of_come, AwaitsNext}
use Rattle.st_sched.proofs.RetireLemmas.{number_is_at, there_is_among, check_stays, length_of_numbers}

-- a check that waits for a cell has read so many before it
pub record HasReadSo (p : Program) (sizes : Sizes) (launch : Launched) (obj field : ℕ) (e : Eval) (q : Progress) : Type 0 where
  pub k : ℕ
  pub reads : q ≡ has_read k
  pub next : AwaitsNext p sizes launch obj field e k

-- a check that waits for a cell is not abandoned: it has read so many cells, and this one is next
pub has_read_so :
    (p : Program) (sizes : Sizes) (launch : Launched) (obj field : ℕ) (e : Eval) (q : Progress)
    → HasCome p sizes launch e (Cell obj field) q
    → HasReadSo p sizes launch obj field e q
has_read_so p sizes launch obj field e (has_read k) come = record { k = k; reads = refl; next = next_of_come p sizes launch obj field e k come }
has_read_so p sizes launch obj field e (abandoned_at o) come = absurd come

-- the cell that it waits for stood at its launch
pub cell_stood :
    (shape : ShapeLists) (p : Program) (sizes : Sizes) (s : State) (c : ActiveCheck) (obj field : ℕ)
    → IsWellFormed shape p
    → AreWithinLimits sizes
    → IsLegal shape sizes s.journal
    → IsInMemory shape p sizes s c
    → c.awaits ≡ Cell obj field
    → HadCell (heap_of_journal shape sizes s.journal) c.lane.number obj field
cell_stood shape p sizes s c obj field formed limits legal h waits =
    let come : HasCome p sizes h.launch c.eval (Cell obj field) (s.progress c.lane.number) =
    subst (λ (a : Awaits). HasCome p sizes h.launch c.eval a (s.progress c.lane.number)) waits h.come in
    let so = has_read_so p sizes h.launch obj field c.eval (s.progress c.lane.number) come in
    let reads = launched_reads_well shape p sizes formed limits s.journal c.lane.number h.launch legal h.launched in
    subst (λ (o : Option Launched). IsSome (word_then o obj field)) (sym h.launched) (reads.exist so.k (record { obj = obj; field = field }) so.next.cell)

-- ---- one read

word_is_found : (o : Option ℕ) → IsSome o → o ≡ Some (unwrap_or o 0)
word_is_found None h = absurd (cc)
word_is_found (Some x) h = refl

-- what the read made of the check
pub record HasReadOne (shape : ShapeLists) (p : Program) (sizes : Sizes) (s : State) (obj field : ℕ) (before after : ActiveCheck) : Type 0 where
  pub lane : after.lane ≡ before.lane
  pub made : IsMadeFor p after.eval
  pub budget_is : budget after.eval ≡ budget before.eval
  pub lost : is_lost_for (heap_of_journal shape sizes s.journal) obj before.lane.number ≡ true → after.awaits ≡ Retire (Abandoned obj)
  pub read :
      (word : ℕ)
      → is_lost_for (heap_of_journal shape sizes s.journal) obj before.lane.number ≡ false
      → word_at_launch (heap_of_journal shape sizes s.journal) before.lane.number obj field ≡ Some word
      → AwaitsTurn p (turn_by p before.eval word) after.awaits after.eval

-- the progress of a check that has read
abbrev read_progress : ShapeLists → Program → Sizes → State → ℕ → Progress
read_progress shape p sizes s n = progress_after (s.progress n) (cell_asked shape p sizes s n) (λ obj. is_lost (lost_pairs shape sizes s.journal) obj n)

-- it has come one read further, or is abandoned
come_further :
    (shape : ShapeLists) (p : Program) (sizes : Sizes) (s : State) (obj field : ℕ) (before after : ActiveCheck)
    → IsWellFormed shape p
    → AreWithinLimits sizes
    → IsLegal shape sizes s.journal
    → (h : IsInMemory shape p sizes s before)
    → before.awaits ≡ Cell obj field
    → HasReadOne shape p sizes s obj field before after
    → HasCome p sizes h.launch after.eval after.awaits (read_progress shape p sizes s before.lane.number)
come_further shape p sizes s obj field before after formed limits legal h waits r = by (is_lost (lost_pairs shape sizes s.journal) obj n) refl
  where
    n : ℕ
    n = before.lane.number

    cells : List CellRead
    cells = cells_of p sizes (Some h.launch)

    so : HasReadSo p sizes h.launch obj field before.eval (s.progress n)
    so = has_read_so p sizes h.launch obj field before.eval (s.progress n)
        (subst (λ (a : Awaits). HasCome p sizes h.launch before.eval a (s.progress n)) waits h.come)

    reads : ReadsWell shape p sizes h.launch
    reads = launched_reads_well shape p sizes formed limits s.journal n h.launch legal h.launched

    asked : cell_asked shape p sizes s n ≡ Some (record { obj = obj; field = field })
    asked =
        ap (λ (o : Option Launched). cell_after (s.progress n) (cells_of p sizes o)) h.launched
        ∙ ap (λ (q : Progress). cell_after q cells) so.reads ∙ so.next.cell

    progress : (b : Bool) → is_lost (lost_pairs shape sizes s.journal) obj n ≡ b
        → read_progress shape p sizes s n ≡ elim b [ true ↦ abandoned_at obj | false ↦ has_read (so.k + 1) ]
    progress b e =
        ap (λ (o : Option CellRead). progress_after (s.progress n) o (λ x. is_lost (lost_pairs shape sizes s.journal) x n)) asked
        ∙ ap (λ (q : Progress). elim (is_lost (lost_pairs shape sizes s.journal) obj n) [ true ↦ abandoned_at obj | false ↦ one_more q ]) so.reads
        ∙ ap (λ (t : Bool). elim t [ true ↦ abandoned_at obj | false ↦ has_read (so.k + 1) ]) e

    word : word_at_launch (heap_of_journal shape sizes s.journal) n obj field ≡ Some (word_found h.launch.past obj field)
    word =
        ap (λ (o : Option Launched). word_then o obj field) h.launched
        ∙ word_is_found (word_at h.launch.past obj field) (reads.exist so.k (record { obj = obj; field = field }) so.next.cell)

    by : (b : Bool) → is_lost (lost_pairs shape sizes s.journal) obj n ≡ b → HasCome p sizes h.launch after.eval after.awaits (read_progress shape p sizes s n)
    by true e =
        subst (λ (a : Awaits). HasCome p sizes h.launch after.eval a (read_progress shape p sizes s n)) (sym (r.lost e))
        (subst (HasCome p sizes h.launch after.eval (Retire (Abandoned obj))) (sym (progress true e)) (refl, refl))
    by false e =
        let more : suc so.k ≡ so.k + 1 = omega arith in
        let turn = r.read (word_found h.launch.past obj field) e word in
        subst (HasCome p sizes h.launch after.eval after.awaits) (sym (progress false e))
        (turn_has_come p sizes h.launch (turn_by p before.eval (word_found h.launch.past obj field)) after.awaits after.eval (so.k + 1) turn
        (subst (λ (k : ℕ). followed_here h.launch ≡ without_first k (whole_of p sizes h.launch)) more so.next.onward) reads.small)
      where
        followed_here : Launched → Followed
        followed_here launch = followed_from launch.past (turn_by p before.eval (word_found launch.past obj field))

-- ---- all checks

numbers_after_set : (checks : List ActiveCheck) (i : ℕ) (before after : ActiveCheck) → slice_get checks i ≡ Some before → after.lane ≡ before.lane
    → numbers (slice_set checks i after) ≡ numbers checks
numbers_after_set [] i before after e same = refl
numbers_after_set (c ∷ cs) zero before after e same =
    let is : c ≡ before = cc in ap (λ (l : Lane). l.number ∷ numbers cs) (same ∙ ap (λ (x : ActiveCheck). x.lane) (sym is))
numbers_after_set (c ∷ cs) (suc i) before after e same = ap (λ (ns : List ℕ). c.lane.number ∷ ns) (numbers_after_set cs i before after e same)

-- an element of a list in which one place was set
set_at_all :
    (P : ActiveCheck → Type 0) (checks : List ActiveCheck) (i : ℕ) (after : ActiveCheck)
    → P after
    → ((k : ℕ) (d : ActiveCheck) → k ≢ i → k < length checks → P (get_or checks k d))
    → All P (slice_set checks i after)
set_at_all P checks i after here others = λ k d lt. by checks i k d others lt
  where
    by : (cs : List ActiveCheck) (j k : ℕ) (d : ActiveCheck) → ((l : ℕ) (x : ActiveCheck) → l ≢ j → l < length cs → P (get_or cs l x))
        → k < length (slice_set cs j after) → P (get_or (slice_set cs j after) k d)
    by [] j k d others lt = absurd (omega (arith, lt))
    by (c ∷ cs) zero zero d others lt = here
    by (c ∷ cs) zero (suc k) d others lt = others (suc k) d (λ e. cc) lt
    by (c ∷ cs) (suc j) zero d others lt = others zero d (λ e. cc) (omega arith)
    by (c ∷ cs) (suc j) (suc k) d others lt = by cs j k d (λ l x differ few. others (suc l) x (λ e. differ (cc)) (omega (arith, few))) (omega (arith, lt))

-- rising numbers at two places differ
rising_apart : (ns : List ℕ) (k i : ℕ) → IsRising ns → k < length ns → i < length ns → k ≢ i → get_or ns k 0 ≢ get_or ns i 0
rising_apart [] k i rising lt lt' differ = absurd (omega (arith, lt))
rising_apart (n ∷ ns) zero zero rising lt lt' differ = absurd (differ refl)
rising_apart (n ∷ ns) zero (suc i) rising lt lt' differ =
    let below : n < get_or ns i 0 = rising.0 (get_or ns i 0) (there_is_among ns i (omega (arith, lt'))) in λ same. absurd (omega (arith, below, same))
rising_apart (n ∷ ns) (suc k) zero rising lt lt' differ =
    let below : n < get_or ns k 0 = rising.0 (get_or ns k 0) (there_is_among ns k (omega (arith, lt))) in λ same. absurd (omega (arith, below, same))
rising_apart (n ∷ ns) (suc k) (suc i) rising lt lt' differ = rising_apart ns k i rising.1 (omega (arith, lt)) (omega (arith, lt')) (λ same. differ (ap suc same))

number_of : (checks : List ActiveCheck) (k : ℕ) (d : ActiveCheck) → k < length checks → number_at checks k ≡ (get_or checks k d).lane.number
number_of checks k d lt = number_is_at checks k (get_or checks k d) (slice_get-get_or checks k d lt)

-- the active checks after the turn of one of them: it has come one read further, and each other one stays as it was
pub checks_after_read :
    (shape : ShapeLists) (p : Program) (sizes : Sizes) (s : State) (checks : List ActiveCheck) (i obj field : ℕ) (before after : ActiveCheck)
    → IsWellFormed shape p
    → AreWithinLimits sizes
    → IsLegal shape sizes s.journal
    → IsRising (active_checks shape sizes s.journal)
    → AreChecks shape p sizes s checks
    → slice_get checks i ≡ Some before
    → before.awaits ≡ Cell obj field
    → HasReadOne shape p sizes s obj field before after
    → AreChecks shape p sizes (turn_of shape p sizes s (check (number_at checks i))) (slice_set checks i after)
checks_after_read shape p sizes s checks i obj field before after formed limits legal rising h at waits r = record {
  each = set_at_all (IsInMemory shape p sizes later) checks i after mine others;
  in_order = numbers_after_set checks i before after at r.lane ∙ h.in_order;
}
  where
    later : State
    later = turn_of shape p sizes s (check (number_at checks i))

    within : i < length checks
    within = slice_get_within checks i before at

    was : IsInMemory shape p sizes s before
    was = subst (IsInMemory shape p sizes s) (get_or_from_slice_get checks i before before at) (h.each i before within)

    number : number_at checks i ≡ before.lane.number
    number = number_is_at checks i before at

    same_number_after : after.lane.number ≡ number_at checks i
    same_number_after = ap (λ (l : Lane). l.number) r.lane ∙ sym number

    progress : later.progress after.lane.number ≡ read_progress shape p sizes s before.lane.number
    progress =
        ap later.progress same_number_after
        ∙ at_same (number_at checks i) (read_progress shape p sizes s (number_at checks i)) s.progress
        ∙ ap (read_progress shape p sizes s) number

    mine : IsInMemory shape p sizes later after
    mine = record {
      lane = subst (IsLaneOf (heap_of_journal shape sizes s.journal)) (sym r.lane) was.lane;
      made = r.made;
      budget_is = r.budget_is ∙ was.budget_is;
      launch = was.launch;
      launched = ap (λ (l : Lane). launch_of shape sizes s.journal l.number) r.lane ∙ was.launched;
      come = subst (HasCome p sizes was.launch after.eval after.awaits) (sym progress)
          (come_further shape p sizes s obj field before after formed limits legal was waits r);
    }

    others : (k : ℕ) (d : ActiveCheck) → k ≢ i → k < length checks → IsInMemory shape p sizes later (get_or checks k d)
    others k d differ lt =
        let rising_numbers : IsRising (numbers checks) = subst IsRising (sym h.in_order) rising in
        let apart : number_at checks k ≢ number_at checks i =
        rising_apart (numbers checks) k i rising_numbers (omega (arith, lt, length_of_numbers checks)) (omega (arith, within, length_of_numbers checks)) differ in
        let other : (get_or checks k d).lane.number ≢ number_at checks i = λ e. apart (number_of checks k d lt ∙ e) in
        check_stays shape p sizes s later (get_or checks k d) (λ lane. lane) (λ l e. e)
        (at_other (number_at checks i) (read_progress shape p sizes s (number_at checks i)) s.progress (get_or checks k d).lane.number other) (h.each k d lt)

-- a read of an active check changes no verdict of a retired one
pub verdicts_after_read :
    (shape : ShapeLists) (p : Program) (sizes : Sizes) (s : State) (verdicts : List Verdict) (n : ℕ)
    → is_among (active_checks shape sizes s.journal) n ≡ true
    → AreVerdicts shape p sizes s verdicts
    → AreVerdicts shape p sizes (turn_of shape p sizes s (check n)) verdicts
verdicts_after_read shape p sizes s verdicts n active h = record {
  count = h.count;
  retired = λ k one most gone. (let was = h.retired k one most gone in
      let differ : k ≢ n = λ same. (let f : false ≡ true = sym gone ∙ ap (is_among (active_checks shape sizes s.journal)) same ∙ active in cc) in
      record {
        launch = was.launch;
        launched = was.launched;
        stands = was.stands ∙ ap (λ (q : Progress). Some (verdict_of p sizes (Some was.launch) q)) (sym (at_other n (read_progress shape p sizes s n) s.progress k differ));
      });
}
