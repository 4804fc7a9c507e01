-- Judging the launch at a place of a legal journal.
use Rattle.std.proofs.Common.{◌≡◌, ℕ, ◌+◌, ◌-◌, ◌<◌, ◌≤◌, ◌^◌, ◌⊎◌, true, false, Bool, inl, inr, List, length, take, get_or, slice_get, Some, None, refl, sym, ◌∙◌, ap, subst, arith}
use Rattle.st_events.specs.declared.events.Event.{Event}
use Rattle.st_events.specs.declared.events.Event.TheVariants.{New, Load, Store, Cas, Launch, Retire}
use Rattle.st_events.specs.declared.limits.Sizes.{Sizes}
use Rattle.st_events.specs.declared.verdicts.Verdict.{Verdict}
use Rattle.st_events.specs.declared.verdicts.Verdict.TheVariants.{Plain as Value}
use Rattle.st_events.specs.Terms.{ShapeLists, World, is_lost, next, world_after, heap_after, epoch_of, lost_pairs, IsLegal}
use Rattle.st_resolved.specs.Terms.{Program}
use Rattle.st_resolved.specs.WellFormed.{IsWellFormed}
use Rattle.st_thread_meaning.specs.Right.{IsRightVerdict}
use Rattle.st_audit.specs.declared.verdicts.Wrong.{Wrong}
use Rattle.st_audit.specs.Findings.{IsRightAt, IsFirstWrong}
use Rattle.st_audit.specs.Judging.{CanJudge, IsJudgedEvent}
use Rattle.st_audit.specs.Marks.{AreMarks}
use Rattle.st_audit.proofs.RoomLemmas.{room, legal_at}
use Rattle.st_audit.proofs.LaunchLemmas.{launch_at, verdict_is_told}

-- each event of a legal journal can be judged
pub can_judge_at :
    (shape : ShapeLists) (p : Program) (sizes : Sizes) → IsWellFormed shape p
    → (es : List Event) (k : ℕ) (d : Event)
    → k < length es
    → room sizes ≤ 2 ^ 32
    → IsLegal shape sizes es
    → CanJudge p (heap_after shape sizes (take k es)) sizes.calls (get_or es k d)
can_judge_at shape p sizes right es k d lt few l = by (get_or es k d) refl
  where
    by : (e : Event) → get_or es k d ≡ e → CanJudge p (heap_after shape sizes (take k es)) sizes.calls e
    by (New m obj class) f = tt
    by (Load m obj field value) f = tt
    by (Store m obj field value) f = tt
    by (Cas m obj field expect value done) f = tt
    by (Launch m site number args) f =
        let a = launch_at shape p sizes right es k m site number args d lt few l f in record { from_one = omega (arith, a.next_number); few = a.few; small = a.small }
    by (Retire m number) f = tt

-- the epoch after one event more
epoch_after :
    (shape : ShapeLists) (sizes : Sizes) (es : List Event) (k : ℕ) (d e : Event)
    → k < length es
    → IsLegal shape sizes es
    → get_or es k d ≡ e
    → epoch_of shape sizes (take (k + 1) es) ≡ (next shape sizes (world_after shape sizes (take k es)) e).epoch
epoch_after shape sizes es k d e lt l f =
    ap (λ (w : World). w.epoch) (legal_at shape sizes es k d lt l).world
    ∙ ap (λ (x : Event). (next shape sizes (world_after shape sizes (take k es)) x).epoch) f

last_or_before : (n epoch : ℕ) → n < epoch + 1 → (n < epoch) ⊎ (n ≡ epoch)
last_or_before n epoch lt = grind arith

-- where the launched check has no wrong verdict, the verdicts up to it are right
pub right_one_more :
    (shape : ShapeLists) (p : Program) (sizes : Sizes) → IsWellFormed shape p
    → (es : List Event) (verdicts : List Verdict) (marks : List Bool) (k : ℕ) (d : Event)
    → k < length es
    → room sizes ≤ 2 ^ 32
    → IsLegal shape sizes es
    → AreMarks verdicts (lost_pairs shape sizes es) marks
    → ((n : ℕ) → n < epoch_of shape sizes (take k es) → IsRightAt shape p sizes es verdicts n)
    → IsJudgedEvent p (heap_after shape sizes (take k es)) sizes.calls verdicts marks (get_or es k d) None
    → (n : ℕ) → n < epoch_of shape sizes (take (k + 1) es) → IsRightAt shape p sizes es verdicts n
right_one_more shape p sizes right es verdicts marks k d lt few l marked before judged = by (get_or es k d) refl judged
  where
    same :
        epoch_of shape sizes (take (k + 1) es) ≡ epoch_of shape sizes (take k es)
        → (n : ℕ) → n < epoch_of shape sizes (take (k + 1) es) → IsRightAt shape p sizes es verdicts n
    same e n below = before n (subst (λ (m : ℕ). n < m) e below)

    by :
        (e : Event) → get_or es k d ≡ e
        → IsJudgedEvent p (heap_after shape sizes (take k es)) sizes.calls verdicts marks e None
        → (n : ℕ) → n < epoch_of shape sizes (take (k + 1) es) → IsRightAt shape p sizes es verdicts n
    by (New m obj class) f j = same (epoch_after shape sizes es k d (New m obj class) lt l f)
    by (Load m obj field value) f j = same (epoch_after shape sizes es k d (Load m obj field value) lt l f)
    by (Store m obj field value) f j = same (epoch_after shape sizes es k d (Store m obj field value) lt l f)
    by (Cas m obj field expect value true) f j = same (epoch_after shape sizes es k d (Cas m obj field expect value true) lt l f)
    by (Cas m obj field expect value false) f j = same (epoch_after shape sizes es k d (Cas m obj field expect value false) lt l f)
    by (Launch m site number args) f j = λ n below verdict found.
        let a = launch_at shape p sizes right es k m site number args d lt few l f in
        let up_to : n < epoch_of shape sizes (take k es) + 1 = subst (λ (x : ℕ). n < x) (epoch_after shape sizes es k d (Launch m site number args) lt l f) below in
        elim (last_or_before n (epoch_of shape sizes (take k es)) up_to) [
          | inl old ↦ before n old verdict found
          | inr here ↦ (
              let number_is : number ≡ n + 1 = omega (arith, a.next_number, here) in
              let index : number - 1 ≡ n = omega (arith, number_is) in
              let its : slice_get verdicts (number - 1) ≡ Some verdict = ap (slice_get verdicts) index ∙ found in
              let back : number - 1 + 1 ≡ number = omega (arith, number_is) in
              let told = verdict_is_told shape p sizes es number (heap_after shape sizes (take k es)) m site args (get_or marks (number - 1) false) verdict a.known
              (λ obj e. marked.each (number - 1) obj (its ∙ ap Some e) ∙ ap (is_lost (lost_pairs shape sizes es) obj) back) in
              subst (λ (x : ℕ). IsRightVerdict shape p sizes es x verdict) number_is (told.right (j verdict its))
              )
        ]
    by (Retire m number) f j = same (epoch_after shape sizes es k d (Retire m number) lt l f)

-- where its verdict is wrong, it is the first
pub first_wrong_is :
    (shape : ShapeLists) (p : Program) (sizes : Sizes) → IsWellFormed shape p
    → (es : List Event) (verdicts : List Verdict) (marks : List Bool) (k : ℕ) (d : Event) (wrong : Wrong)
    → k < length es
    → room sizes ≤ 2 ^ 32
    → IsLegal shape sizes es
    → AreMarks verdicts (lost_pairs shape sizes es) marks
    → ((n : ℕ) → n < epoch_of shape sizes (take k es) → IsRightAt shape p sizes es verdicts n)
    → IsJudgedEvent p (heap_after shape sizes (take k es)) sizes.calls verdicts marks (get_or es k d) (Some wrong)
    → IsFirstWrong shape p sizes es verdicts wrong.number wrong.plain
first_wrong_is shape p sizes right es verdicts marks k d found lt few l marked before judged = by (get_or es k d) refl judged
  where
    by :
        (e : Event) → get_or es k d ≡ e
        → IsJudgedEvent p (heap_after shape sizes (take k es)) sizes.calls verdicts marks e (Some found)
        → IsFirstWrong shape p sizes es verdicts found.number found.plain
    by (New m obj class) f j = absurd (cc)
    by (Load m obj field value) f j = absurd (cc)
    by (Store m obj field value) f j = absurd (cc)
    by (Cas m obj field expect value done) f j = absurd (cc)
    by (Launch m site number args) f j =
        let a = launch_at shape p sizes right es k m site number args d lt few l f in
        let back : number - 1 + 1 ≡ number = omega (arith, a.next_number) in
        let told = verdict_is_told shape p sizes es number (heap_after shape sizes (take k es)) m site args (get_or marks (number - 1) false) j.verdict a.known
        (λ obj e. marked.each (number - 1) obj (j.its_verdict ∙ ap Some e) ∙ ap (is_lost (lost_pairs shape sizes es) obj) back) in
        let plain = verdict_is_told shape p sizes es number (heap_after shape sizes (take k es)) m site args false (Value found.plain) a.known (λ obj e. absurd (cc)) in
        record {
          index = number - 1;
          number_is = j.number_is ∙ sym back;
          before = λ n below. before n (omega (arith, below, a.next_number));
          verdict = j.verdict;
          its_verdict = j.its_verdict;
          wrong = λ h. j.is_wrong.wrong (told.only (subst (λ (x : ℕ). IsRightVerdict shape p sizes es x j.verdict) j.number_is h));
          plain_is_right = subst (λ (x : ℕ). IsRightVerdict shape p sizes es x (Value found.plain)) (sym j.number_is) (plain.right j.is_wrong.value);
        }
    by (Retire m number) f j = absurd (cc)
