-- The cells that a launched check reads: they exist on its past, and their objects have numbers of 32 bits
use Rattle.std.proofs.Common.{◌≡◌, ℕ, zero, suc, ◌*◌, ◌<◌, ◌≤◌, ◌==◌, true, inl, inr, List, [], ◌∷◌, length, take, Option, Some, None, slice_get, refl, sym, subst, arith, IsSome}
use Rattle.std.specs.List.{AllByRecursion, list_all}
use Rattle.std.specs.Prelude.{drop}
use Rattle.std.proofs.lemmas.List.Elements.{recursion_from_All}
use Rattle.std.proofs.Math.Nat.{mul-le-mul}
use Rattle.st_events.specs.declared.events.Args.{Args}
use Rattle.st_events.specs.declared.limits.Sizes.{Sizes}
use Rattle.st_events.specs.declared.limits.TheConstants.{MOST_MUTATORS, MOST_OBJECTS}
use Rattle.st_events.specs.declared.shapes.Kind.{Kind}
use Rattle.st_events.specs.Legal.{has_kind, have_kinds}
use Rattle.st_events.specs.Sizes.{AreWithinLimits}
use Rattle.st_events.specs.Sound.{IsSoundWorld, IsTypedHeap, IsFittingLaunch}
use Rattle.st_events.specs.Terms.{ShapeLists, IsLegal, World, Launched, Heap, args_fit, word_at, world_after, launch_of}
use Rattle.st_events.proofs.AmongLemmas.{same_numbers}
use Rattle.st_events.proofs.KeptLemmas.{and_parts, and_both}
use Rattle.st_events.proofs.LaunchLemmas.{launch_is_found}
use Rattle.st_events.proofs.LegalLemmas.{prefix_is_legal}
use Rattle.st_events.proofs.SoundLemmas.{legal_is_sound}
use Rattle.st_resolved.specs.Terms.{Program}
use Rattle.st_resolved.specs.WellFormed.{IsWellFormed}
use Rattle.st_check_meaning.specs.Laws.{IsTypedCell}
use Rattle.st_check_meaning.specs.Plain.{Cell as CellRead}
use Rattle.st_check_meaning.specs.Safe.{AreOfKinds}
use Rattle.st_check_meaning.proofs.CheckLemmas.{checks_read_cells_that_exist}
use Rattle.st_thread_meaning.specs.Right.{words_of}
use Rattle.st_eval.specs.Laws.{HasSmallNumbers}
use Rattle.st_eval.proofs.ObjectLemmas.{objects_are_told}
use Rattle.st_run_meaning.specs.Agents.{cells_of}
use Rattle.st_sched.proofs.CourseLemmas.{AreSmall}

-- each object of a sound world has a number of 32 bits
pub objects_are_small : (shape : ShapeLists) (sizes : Sizes) (w : World) → AreWithinLimits sizes → IsSoundWorld shape sizes w → HasSmallNumbers w.heap
objects_are_small shape sizes w limits sound obj x there = elim (sound.regions.objects obj x there) [
  | inl shared ↦ omega (arith, shared)
  | inr made ↦ (let room : made.k < sizes.objects = omega (arith, made.made, sound.regions.room made.m) in
      let few : made.m ≤ MOST_MUTATORS = omega (arith, made.thread, limits.mutators) in
      let most : made.m * sizes.objects ≤ MOST_MUTATORS * MOST_OBJECTS = mul-le-mul few limits.objects.1 in
      omega (arith, made.number, most, room, limits.objects.1))
]

-- the kinds of the first words
kinds_of_first : (heap : Heap) (kinds : List Kind) (words : List ℕ) (most : ℕ) → length kinds ≤ most → AreOfKinds heap kinds words → AreOfKinds heap kinds (take most words)
kinds_of_first heap [] words most h fit = refl
kinds_of_first heap (kind ∷ kinds) words zero h fit = absurd (omega (arith, h))
kinds_of_first heap (kind ∷ kinds) [] (suc most) h fit = absurd (cc)
kinds_of_first heap (kind ∷ kinds) (w ∷ words) (suc most) h fit =
    let parts = and_parts (has_kind heap kind w) (have_kinds heap kinds words) fit in
    and_both (has_kind heap kind w) (have_kinds heap kinds (take most words)) parts.0 (kinds_of_first heap kinds words most (omega (arith, h)) parts.1)

-- arguments that fit a check statement: there is one, and they are of its kinds
pub record FitStatement (heap : Heap) (statement : Option (List Kind)) (args : Args) : Type 0 where
  pub kinds : List Kind
  pub found : statement ≡ Some kinds
  pub count : args.count ≡ length kinds
  pub fit : AreOfKinds heap kinds (words_of args)

-- arguments that pass the test are those of a check statement that there is: as many as it takes, each of its kind
pub args_that_fit : (heap : Heap) (statement : Option (List Kind)) (args : Args) → args_fit heap statement args ≡ true → FitStatement heap statement args
args_that_fit heap None args h = absurd (cc)
args_that_fit heap (Some kinds) args h =
    let parts = and_parts (args.count == length kinds) _ h in
    let rest = and_parts (have_kinds heap kinds args.words) (list_all (λ word. word == 0) (drop args.count args.words)) parts.1 in
    let count : args.count ≡ length kinds = same_numbers args.count (length kinds) parts.0 in
    record { kinds = kinds; found = refl; count = count; fit = kinds_of_first heap kinds args.words args.count (omega (arith, count)) rest.0 }

-- what holds of all holds of each
each_of : (P : CellRead → Type 0) (cells : List CellRead) (k : ℕ) (cell : CellRead) → AllByRecursion P cells → slice_get cells k ≡ Some cell → P cell
each_of P [] k cell h e = cc
each_of P (c ∷ cells) zero cell h e = let same : c ≡ cell = cc in subst P same h.0
each_of P (c ∷ cells) (suc k) cell h e = each_of P cells k cell h.1 e

-- a check of a well-formed program that is launched on a sound world, with arguments that fit
pub record ReadsWell (shape : ShapeLists) (p : Program) (sizes : Sizes) (launch : Launched) : Type 0 where
  pub exist : (k : ℕ) (cell : CellRead) → slice_get (cells_of p sizes (Some launch)) k ≡ Some cell → IsSome (word_at launch.past cell.obj cell.field)
  pub small : AreSmall (cells_of p sizes (Some launch))

some_is_there : (o : Option ℕ) (word : ℕ) → o ≡ Some word → IsSome o
some_is_there None word e = cc
some_is_there (Some x) word e = refl

-- a check that is launched on a sound world with fitting arguments reads only cells that exist there, of objects with numbers of 32 bits
pub launch_reads_well :
    (shape : ShapeLists) (p : Program) (sizes : Sizes) (launch : Launched) (w : World)
    → IsWellFormed shape p
    → AreWithinLimits sizes
    → IsSoundWorld shape sizes w
    → launch.past ≡ w.heap
    → args_fit launch.past (slice_get shape.checks launch.site) launch.args ≡ true
    → ReadsWell shape p sizes launch
launch_reads_well shape p sizes launch w formed limits sound past fits =
    let typed : IsTypedHeap shape launch.past = subst (IsTypedHeap shape) (sym past) sound.typed in
    let numbers : HasSmallNumbers launch.past = subst HasSmallNumbers (sym past) (objects_are_small shape sizes w limits sound) in
    let args = args_that_fit launch.past (slice_get shape.checks launch.site) launch.args fits in
    let all = recursion_from_All (IsTypedCell shape launch.past) (cells_of p sizes (Some launch))
    (checks_read_cells_that_exist shape p launch.past launch.site args.kinds (words_of launch.args) sizes.calls formed typed args.found args.fit) in
    record {
      exist = λ k cell e. (let there = each_of (IsTypedCell shape launch.past) (cells_of p sizes (Some launch)) k cell all e in
          some_is_there (word_at launch.past cell.obj cell.field) there.word there.holds.found);
      small = λ k cell e. objects_are_told shape p launch.past launch.site args.kinds (words_of launch.args) sizes.calls k cell formed typed numbers args.found args.fit e;
    }

-- each launched check of a legal journal reads well
pub launched_reads_well :
    (shape : ShapeLists) (p : Program) (sizes : Sizes)
    → IsWellFormed shape p
    → AreWithinLimits sizes
    → (es : List _) (n : ℕ) (launch : Launched)
    → IsLegal shape sizes es
    → launch_of shape sizes es n ≡ Some launch
    → ReadsWell shape p sizes launch
launched_reads_well shape p sizes formed limits es n launch legal e =
    let there = launch_is_found shape sizes es n launch e in
    let before : IsLegal shape sizes there.before = prefix_is_legal shape sizes there.before _ (subst (IsLegal shape sizes) there.split legal) in
    let fitting : IsFittingLaunch shape sizes launch = (legal_is_sound shape sizes formed.shape_fits es legal).fitting.each n launch e in
    launch_reads_well shape p sizes launch (world_after shape sizes there.before) formed limits (legal_is_sound shape sizes formed.shape_fits there.before before)
    there.past fitting.arguments
