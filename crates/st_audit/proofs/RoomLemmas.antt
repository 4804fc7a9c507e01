-- In a legal journal each object stands within the regions, so each event can be taken in by what has room for these.
use Rattle.std.proofs.Common.{◌≡◌, ℕ, ◌+◌, ◌*◌, ◌<◌, ◌≤◌, ◌^◌, true, false, inl, inr, List, [], ◌∷◌}
use Rattle.std.proofs.Common.{◌++◌, length, take, drop, get_or, All, Option, Some, None, refl, sym, ◌∙◌, ap, subst, arith}
use Rattle.std.specs.Prelude.{IsSome}
use Rattle.std.proofs.Math.Nat.{mul-le-mul, mul-le-mul_right}
use Rattle.std.proofs.lemmas.List.{take_more, take-append-drop, append_assoc}
use Rattle.st_events.specs.declared.heaps.TheConstants.{FIRST_OF_REGIONS}
use Rattle.st_events.specs.declared.events.Event.{Event}
use Rattle.st_events.specs.declared.limits.Sizes.{Sizes}
use Rattle.st_events.specs.declared.events.Event.TheVariants.{New, Load, Store, Cas, Launch, Retire}
use Rattle.st_events.specs.Terms.{ShapeLists, IsWithinLimits, AreWithinLimits, Object, World, next}
use Rattle.st_events.specs.Terms.{word_at, world_after, heap_after, epoch_of, IsLegal, IsLegalNext}
use Rattle.st_events.proofs.LegalEvents.{legal_new, legal_load, legal_store, legal_cas, legal_retire, cell_has_object}
use Rattle.st_events.proofs.LegalLemmas.{prefix_is_legal, each_is_legal}
use Rattle.st_events.proofs.SoundLemmas.{legal_is_sound}
use Rattle.st_events.proofs.WorldLemmas.{world_after_one_more}
use Rattle.st_audit.specs.Differences.{NamesSmall}
use Rattle.st_audit.specs.Heaps.{heap_next, CanTake}
use Rattle.st_audit.specs.Ledgers.{Books}
use Rattle.st_audit.specs.Balance.{CanNote}

-- how many numbers the shared object and all regions have
abbrev pub room : Sizes → ℕ
room sizes = FIRST_OF_REGIONS + sizes.mutators * sizes.objects

-- within the limits there are at most so many numbers
pub room_is_small : (sizes : Sizes) → AreWithinLimits sizes → room sizes ≤ 131074
room_is_small sizes w = let most : sizes.mutators * sizes.objects ≤ 8 * 16384 = mul-le-mul w.mutators w.objects.1 in omega (arith, most)

-- the object of a region
in_a_region :
    (mutators objects m k obj : ℕ) → m < mutators → k < objects → obj ≡ FIRST_OF_REGIONS + m * objects + k → obj < FIRST_OF_REGIONS + mutators * objects
in_a_region mutators objects m k obj a b e = omega (arith, mul-le-mul_right objects a)

-- what stands somewhere
pub standing : {A : Type 0} (o : Option A) → IsSome o → (x : A) × (o ≡ Some x)
standing None i = absurd (cc)
standing (Some x) i = (x, refl)

-- each object of the heap after a legal journal has one of the numbers
pub object_is_within :
    (shape : ShapeLists) (sizes : Sizes) → IsWithinLimits shape
    → (es : List Event) (obj : ℕ) (x : Object)
    → IsLegal shape sizes es
    → heap_after shape sizes es obj ≡ Some x
    → obj < room sizes
object_is_within shape sizes limits es obj x l e =
    let s = legal_is_sound shape sizes limits es l in
    elim (s.regions.objects obj x e) [
      | inl shared ↦ omega (arith, shared)
      | inr made ↦ in_a_region sizes.mutators sizes.objects made.m made.k obj made.thread (omega (arith, made.made, s.regions.room made.m)) made.number
    ]

-- so has the object of each cell that exists
pub cell_is_within :
    (shape : ShapeLists) (sizes : Sizes) → IsWithinLimits shape
    → (es : List Event) (obj field : ℕ)
    → IsLegal shape sizes es
    → IsSome (word_at (heap_after shape sizes es) obj field)
    → obj < room sizes
cell_is_within shape sizes limits es obj field l some =
    let x = standing (heap_after shape sizes es obj) (cell_has_object (heap_after shape sizes es) obj field some) in
    object_is_within shape sizes limits es obj x.0 l x.1

-- a heap can take in what is legal
pub event_can_be_taken :
    (shape : ShapeLists) (sizes : Sizes) → IsWithinLimits shape
    → (es : List Event) (e : Event)
    → IsLegal shape sizes es
    → IsLegalNext shape sizes (world_after shape sizes es) e
    → CanTake (room sizes) (heap_after shape sizes es) e
event_can_be_taken shape sizes limits es (New m obj class) l n =
    let is = legal_new shape sizes (world_after shape sizes es) m obj class n in
    in_a_region sizes.mutators sizes.objects m ((world_after shape sizes es).made m) obj is.thread is.room is.object
event_can_be_taken shape sizes limits es (Load m obj field value) l n = tt
event_can_be_taken shape sizes limits es (Store m obj field value) l n = (legal_store shape sizes (world_after shape sizes es) m obj field value n).cell
event_can_be_taken shape sizes limits es (Cas m obj field expect value done) l n = (legal_cas shape sizes (world_after shape sizes es) m obj field expect value done n).cell
event_can_be_taken shape sizes limits es (Launch m site number args) l n = tt
event_can_be_taken shape sizes limits es (Retire m number) l n = tt

-- and a ledger can note it
pub event_can_be_noted :
    (shape : ShapeLists) (sizes : Sizes) → IsWithinLimits shape
    → (es : List Event) (e : Event) (b : Books)
    → IsLegal shape sizes es
    → IsLegalNext shape sizes (world_after shape sizes es) e
    → length b.stamps ≡ room sizes
    → b.epoch ≡ epoch_of shape sizes es
    → b.epoch + 1 < 2 ^ 32
    → length b.rows < 2 ^ 32
    → CanNote e b
event_can_be_noted shape sizes limits es (New m obj class) b l n same epoch few rows =
    let within = event_can_be_taken shape sizes limits es (New m obj class) l n in omega (arith, within, same)
event_can_be_noted shape sizes limits es (Load m obj field value) b l n same epoch few rows = tt
event_can_be_noted shape sizes limits es (Store m obj field value) b l n same epoch few rows =
    let within = cell_is_within shape sizes limits es obj field l (legal_store shape sizes (world_after shape sizes es) m obj field value n).cell in omega (arith, within, same)
event_can_be_noted shape sizes limits es (Cas m obj field expect value done) b l n same epoch few rows =
    let within = cell_is_within shape sizes limits es obj field l (legal_cas shape sizes (world_after shape sizes es) m obj field expect value done n).cell in
    omega (arith, within, same)
event_can_be_noted shape sizes limits es (Launch m site number args) b l n same epoch few rows = few
event_can_be_noted shape sizes limits es (Retire m number) b l n same epoch few rows =
    let s = legal_is_sound shape sizes limits es l in
    let is = s.active.launched number (legal_retire shape sizes (world_after shape sizes es) m number n).active in
    (is.0, omega (arith, is.1, epoch), rows)

-- the heap of the next world
pub heap_next_is : (shape : ShapeLists) (sizes : Sizes) (w : World) (e : Event) → heap_next shape w.heap e ≡ (next shape sizes w e).heap
heap_next_is shape sizes w (New m obj class) = refl
heap_next_is shape sizes w (Load m obj field value) = refl
heap_next_is shape sizes w (Store m obj field value) = refl
heap_next_is shape sizes w (Cas m obj field expect value true) = refl
heap_next_is shape sizes w (Cas m obj field expect value false) = refl
heap_next_is shape sizes w (Launch m site number args) = refl
heap_next_is shape sizes w (Retire m number) = refl

-- ---- the first events of a journal

-- the first so many events are legal, and so is the next after them
pub record IsLegalAt (shape : ShapeLists) (sizes : Sizes) (es : List Event) (k : ℕ) (d : Event) : Type 0 where
  pub before : IsLegal shape sizes (take k es)
  pub here : IsLegalNext shape sizes (world_after shape sizes (take k es)) (get_or es k d)
  pub world : world_after shape sizes (take (k + 1) es) ≡ next shape sizes (world_after shape sizes (take k es)) (get_or es k d)
  pub split : es ≡ take k es ++ get_or es k d ∷ drop (k + 1) es

-- what is known of the event at a place of a legal journal
pub legal_at : (shape : ShapeLists) (sizes : Sizes) (es : List Event) (k : ℕ) (d : Event) → k < length es → IsLegal shape sizes es → IsLegalAt shape sizes es k d
legal_at shape sizes es k d lt l =
    let more : take (k + 1) es ≡ take k es ++ get_or es k d ∷ [] = take_more es k d lt in
    let whole : IsLegal shape sizes (take (k + 1) es ++ drop (k + 1) es) = subst (IsLegal shape sizes) (sym (take-append-drop (k + 1) es)) l in
    let front : IsLegal shape sizes (take k es ++ get_or es k d ∷ []) = subst (IsLegal shape sizes) more (prefix_is_legal shape sizes (take (k + 1) es) (drop (k + 1) es) whole) in
    record {
      before = prefix_is_legal shape sizes (take k es) (get_or es k d ∷ []) front;
      here = each_is_legal shape sizes (take k es) [] (get_or es k d) front;
      world = ap (world_after shape sizes) more ∙ world_after_one_more shape sizes (take k es) (get_or es k d);
      split = sym (take-append-drop (k + 1) es) ∙ ap (λ (xs : List Event). xs ++ drop (k + 1) es) more ∙ simp append_assoc refl;
    }

-- the heap after one event more
pub heap_one_more :
    (shape : ShapeLists) (sizes : Sizes) (es : List Event) (k : ℕ) (d : Event)
    → k < length es
    → IsLegal shape sizes es
    → heap_next shape (heap_after shape sizes (take k es)) (get_or es k d) ≡ heap_after shape sizes (take (k + 1) es)
heap_one_more shape sizes es k d lt l =
    heap_next_is shape sizes (world_after shape sizes (take k es)) (get_or es k d) ∙ sym (ap (λ (w : World). w.heap) (legal_at shape sizes es k d lt l).world)

-- ---- the objects that events name

small_name :
    (shape : ShapeLists) (sizes : Sizes) → IsWithinLimits shape
    → (es : List Event) (e : Event)
    → IsLegal shape sizes es
    → IsLegalNext shape sizes (world_after shape sizes es) e
    → room sizes ≤ 131074
    → NamesSmall e
small_name shape sizes limits es (New m obj class) l n few = tt
small_name shape sizes limits es (Load m obj field value) l n few =
    let word = (legal_load shape sizes (world_after shape sizes es) m obj field value n).word in
    let within = cell_is_within shape sizes limits es obj field l (subst (λ (o : Option ℕ). IsSome o) (sym word) refl) in omega (arith, within, few)
small_name shape sizes limits es (Store m obj field value) l n few =
    let within = cell_is_within shape sizes limits es obj field l (legal_store shape sizes (world_after shape sizes es) m obj field value n).cell in omega (arith, within, few)
small_name shape sizes limits es (Cas m obj field expect value done) l n few =
    let within = cell_is_within shape sizes limits es obj field l (legal_cas shape sizes (world_after shape sizes es) m obj field expect value done n).cell in
    omega (arith, within, few)
small_name shape sizes limits es (Launch m site number args) l n few = tt
small_name shape sizes limits es (Retire m number) l n few = tt

-- each event of a legal journal names an object with a small number
pub names_are_small :
    (shape : ShapeLists) (sizes : Sizes) → IsWithinLimits shape → AreWithinLimits sizes
    → (es : List Event)
    → IsLegal shape sizes es
    → All NamesSmall es
names_are_small shape sizes limits within es l = λ k d lt.
    let at = legal_at shape sizes es k d lt l in small_name shape sizes limits (take k es) (get_or es k d) at.before at.here (room_is_small sizes within)
