-- The launch of a check in a legal journal, and its verdict.
use Rattle.std.proofs.Common.{◌≡◌, ℕ, zero, suc, ◌+◌, ◌<◌, ◌≤◌, ◌^◌, ◌==◌, true, Bool, ◌&&◌, List, []}
use Rattle.std.proofs.Common.{◌∷◌, ◌++◌, length, take, drop, get_or, slice_get, Option, Some, None, refl, sym, ◌∙◌, ap, subst, arith}
use Rattle.std.proofs.lemmas.Option.{slice_get_within, get_or_from_slice_get}
use Rattle.std.specs.List.{list_all}
use Rattle.st_events.specs.declared.shapes.Kind.{Kind}
use Rattle.st_events.specs.declared.shapes.TheConstants.{MOST_ARGS}
use Rattle.st_events.specs.declared.verdicts.Verdict.TheVariants.{Plain as Value, Abandoned}
use Rattle.st_events.specs.Legal.{has_kind, have_kinds}
use Rattle.st_events.specs.Judge.{IsRightOfLaunch}
use Rattle.st_events.specs.declared.events.Args.{Args}
use Rattle.st_events.specs.declared.events.Event.{Event}
use Rattle.st_events.specs.declared.limits.Sizes.{Sizes}
use Rattle.st_events.specs.declared.verdicts.Verdict.{Verdict}
use Rattle.st_events.specs.declared.events.Event.TheVariants.{Launch}
use Rattle.st_events.specs.Terms.{ShapeLists, IsWithinLimits, Heap, Object, Launched, is_lost, args_fit, word_of}
use Rattle.st_events.specs.Terms.{world_after, heap_after, epoch_of, launch_of, lost_pairs, IsLegal, IsLegalNext}
use Rattle.st_events.proofs.KeptLemmas.{and_parts, and_both}
use Rattle.st_events.proofs.LegalEvents.{legal_launch, is_same}
use Rattle.st_events.proofs.LaunchLemmas.{launch_is_known}
use Rattle.st_events.proofs.SoundLemmas.{legal_is_sound}
use Rattle.st_resolved.specs.Terms.{Program}
use Rattle.st_resolved.specs.WellFormed.{IsWellFormed}
use Rattle.st_check_meaning.specs.Plain.{Cell, cells_read}
use Rattle.st_check_meaning.specs.Laws.{IsTypedCell}
use Rattle.st_check_meaning.specs.Safe.{AreOfKinds}
use Rattle.st_check_meaning.proofs.CheckLemmas.{checks_read_cells_that_exist}
use Rattle.st_thread_meaning.specs.Right.{words_of, IsRightOf, IsRightVerdict}
use Rattle.st_audit.specs.Evaluations.{AreSmall, IsRightOn}
use Rattle.st_audit.proofs.RoomLemmas.{room, object_is_within, legal_at}

-- ---- arguments

kinds_of_used : (heap : Heap) (kinds : List Kind) (words : List ℕ) (n : ℕ) → length kinds ≡ n → AreOfKinds heap kinds words → AreOfKinds heap kinds (take n words)
kinds_of_used heap [] words n e h = refl
kinds_of_used heap (k ∷ ks) [] n e h = absurd (cc)
kinds_of_used heap (k ∷ ks) (w ∷ ws) zero e h = absurd (omega (arith, e))
kinds_of_used heap (k ∷ ks) (w ∷ ws) (suc n) e h =
    let parts = and_parts (has_kind heap k w) (have_kinds heap ks ws) h in
    and_both (has_kind heap k w) (have_kinds heap ks (take n ws)) parts.0 (kinds_of_used heap ks ws n (omega (arith, e)) parts.1)

-- the arguments of a launch that fit its statement
record AreArguments (shape : ShapeLists) (heap : Heap) (site : ℕ) (args : Args) : Type 0 where
  kinds : List Kind
  statement : slice_get shape.checks site ≡ Some kinds
  count : args.count ≡ length kinds
  fit : AreOfKinds heap kinds (words_of args)

arguments_of : (shape : ShapeLists) (heap : Heap) (site : ℕ) (args : Args) → args_fit heap (slice_get shape.checks site) args ≡ true → AreArguments shape heap site args
arguments_of shape heap site args h = by (slice_get shape.checks site) refl h
  where
    by : (o : Option (List Kind)) → slice_get shape.checks site ≡ o → args_fit heap o args ≡ true → AreArguments shape heap site args
    by None e f = absurd (cc)
    by (Some kinds) e f =
        let parts = and_parts (args.count == length kinds) (have_kinds heap kinds args.words && list_all (λ word. word == 0) (drop args.count args.words)) f in
        let both = and_parts (have_kinds heap kinds args.words) (list_all (λ word. word == 0) (drop args.count args.words)) parts.1 in
        let count : args.count ≡ length kinds = is_same args.count (length kinds) parts.0 in
        record { kinds = kinds; statement = e; count = count; fit = kinds_of_used heap kinds args.words args.count (sym count) both.0 }

-- ---- the cells of a check on a heap of a legal journal

cell_is_small :
    (shape : ShapeLists) (sizes : Sizes) → IsWithinLimits shape
    → (es : List Event) (cell : Cell)
    → IsLegal shape sizes es
    → room sizes ≤ 2 ^ 32
    → IsTypedCell shape (heap_after shape sizes es) cell
    → cell.obj < 2 ^ 32
cell_is_small shape sizes limits es cell l few there = by (heap_after shape sizes es cell.obj) refl there.holds.found
  where
    by : (o : Option Object) → heap_after shape sizes es cell.obj ≡ o → word_of o cell.field ≡ Some there.word → cell.obj < 2 ^ 32
    by None e f = absurd (cc)
    by (Some x) e f = let within = object_is_within shape sizes limits es cell.obj x l e in omega (arith, within, few)

-- ---- a launch

-- what is known of the launch at a place of a legal journal
pub record IsLaunchAt (shape : ShapeLists) (p : Program) (sizes : Sizes) (es : List Event) (k thread site number : ℕ) (args : Args) : Type 0 where
  pub next_number : number ≡ epoch_of shape sizes (take k es) + 1
  pub few : args.count ≤ MOST_ARGS
  pub small : AreSmall (cells_read p (heap_after shape sizes (take k es)) site (words_of args) sizes.calls)
  pub known : launch_of shape sizes es number ≡ Some (record { past = heap_after shape sizes (take k es); thread = thread; site = site; args = args })

-- a launch in a legal journal is known by its number, and its check can be evaluated on the heap before it
pub launch_at :
    (shape : ShapeLists) (p : Program) (sizes : Sizes) → IsWellFormed shape p
    → (es : List Event) (k thread site number : ℕ) (args : Args) (d : Event)
    → k < length es
    → room sizes ≤ 2 ^ 32
    → IsLegal shape sizes es
    → get_or es k d ≡ Launch thread site number args
    → IsLaunchAt shape p sizes es k thread site number args
launch_at shape p sizes right es k thread site number args d lt few l e =
    let at = legal_at shape sizes es k d lt l in
    let w = world_after shape sizes (take k es) in
    let is = legal_launch shape sizes w thread number site args (subst (λ (x : Event). IsLegalNext shape sizes w x) e at.here) in
    let a = arguments_of shape w.heap site args is.arguments in
    let sound = legal_is_sound shape sizes right.shape_fits (take k es) at.before in
    let cells = checks_read_cells_that_exist shape p w.heap site a.kinds (words_of args) sizes.calls right sound.typed a.statement a.fit in
    let split : es ≡ take k es ++ Launch thread site number args ∷ drop (k + 1) es = at.split ∙ ap (λ (x : Event). take k es ++ x ∷ drop (k + 1) es) e in
    record {
      next_number = is.next_number;
      few = omega (arith, a.count, few_args shape right.shape_fits site a.kinds a.statement);
      small = λ j c below. cell_is_small shape sizes right.shape_fits (take k es) (get_or (cells_read p w.heap site (words_of args) sizes.calls) j c) at.before few (cells j c below);
      known =
          subst (λ (xs : List Event). launch_of shape sizes xs number ≡ Some (record { past = w.heap; thread = thread; site = site; args = args })) (sym split)
          (launch_is_known shape sizes right.shape_fits (take k es) (drop (k + 1) es) thread number site args (subst (IsLegal shape sizes) split l));
    }
  where
    few_args : (s : ShapeLists) → IsWithinLimits s → (place : ℕ) (kinds : List Kind) → slice_get s.checks place ≡ Some kinds → length kinds ≤ MOST_ARGS
    few_args s limits place kinds found =
        subst (λ (ks : List Kind). length ks ≤ MOST_ARGS) (get_or_from_slice_get s.checks place kinds [] found) ((limits.arguments place [] (slice_get_within s.checks place kinds found)).0)

-- ---- verdicts

-- a verdict is right in the journal where it is so on the heap of the check's launch, and the other way
pub record IsToldBy (shape : ShapeLists) (p : Program) (sizes : Sizes) (es : List Event) (number : ℕ) (heap : Heap) (site : ℕ) (args : Args) (lost : Bool) (verdict : Verdict) : Type 0 where
  pub right : IsRightOn p heap site args sizes.calls lost verdict → IsRightVerdict shape p sizes es number verdict
  pub only : IsRightVerdict shape p sizes es number verdict → IsRightOn p heap site args sizes.calls lost verdict

-- whether a verdict is right is told by the heap of its launch and by whether the version that it names is lost
pub verdict_is_told :
    (shape : ShapeLists) (p : Program) (sizes : Sizes) (es : List Event) (number : ℕ) (heap : Heap) (thread site : ℕ) (args : Args) (lost : Bool) (verdict : Verdict)
    → launch_of shape sizes es number ≡ Some (record { past = heap; thread = thread; site = site; args = args })
    → ((obj : ℕ) → verdict ≡ Abandoned obj → lost ≡ is_lost (lost_pairs shape sizes es) obj number)
    → IsToldBy shape p sizes es number heap site args lost verdict
unfolding IsRightVerdict
verdict_is_told shape p sizes es number heap thread site args lost (Value plain) known claims = record {
  right = λ h. subst (λ (o : Option Launched). IsRightOfLaunch (IsRightOf p sizes) o (λ obj. is_lost (lost_pairs shape sizes es) obj number) (Value plain)) (sym known) h;
  only = λ h. subst (λ (o : Option Launched). IsRightOfLaunch (IsRightOf p sizes) o (λ obj. is_lost (lost_pairs shape sizes es) obj number) (Value plain)) known h;
}
verdict_is_told shape p sizes es number heap thread site args lost (Abandoned obj) known claims = record {
  right = λ h.
      subst (λ (o : Option Launched). IsRightOfLaunch (IsRightOf p sizes) o (λ x. is_lost (lost_pairs shape sizes es) x number) (Abandoned obj)) (sym known)
      (sym (claims obj refl) ∙ h.0, h.1);
  only = λ h.
      let now = subst (λ (o : Option Launched). IsRightOfLaunch (IsRightOf p sizes) o (λ x. is_lost (lost_pairs shape sizes es) x number) (Abandoned obj)) known h in
      (claims obj refl ∙ now.0, now.1);
}
