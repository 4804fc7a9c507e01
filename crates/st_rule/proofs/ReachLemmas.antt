-- From what a seat has seen of the heap to what the heap is: objects that it may lock, and its next one.
use Rattle.std.proofs.Common.{◌≡◌, ℕ, zero, suc, ◌+◌, ◌*◌, ◌^◌, ◌<◌, ◌≤◌, ◌⊎◌, List, [], ◌++◌, Option, Some, None, sym, refl, ap, subst}
use Rattle.std.proofs.Common.{◌∙◌, arith, ⊎_elim, inl, inr, suc-mul, mul-le-mul, length, filter, ◌∷◌, Bool, true, false, if◌then◌else◌}
use Rattle.std.proofs.Math.Nat.{mul-le-mul_right}
use Rattle.std.specs.Prelude.{IsSome}
use Rattle.st_layout.specs.Names.{EpochWord, HeaderWord, cells_of}
use Rattle.st_events.specs.History.{is_launch}
use Rattle.st_layout.specs.Packed.{packed}
use Rattle.st_events.specs.declared.heaps.TheConstants.{FIRST_OF_REGIONS}
use Rattle.st_events.specs.declared.limits.Sizes.{Sizes}
use Rattle.st_events.specs.Heap.{Heap, Object}
use Rattle.st_events.specs.Legal.{IsLegal, next_object}
use Rattle.st_events.specs.Sound.{IsSoundWorld, AreRegions, IsMade, Extends}
use Rattle.st_events.specs.World.{World, world_after}
use Rattle.st_events.proofs.CountLemmas.{made_counts_news, epoch_counts_launches}
use Rattle.st_events.proofs.ExtendsLemmas.{heap_extends}
use Rattle.st_events.proofs.SoundLemmas.{legal_is_sound}
use Rattle.st_rule.specs.declared.views.MutView.{MutView}
use Rattle.st_rule.specs.declared.views.Phase.TheVariants.{Outside, Inside}
use Rattle.st_rule.specs.declared.views.Terms.{Terms}
use Rattle.st_rule.specs.declared.views.View.{View}
use Rattle.st_rule.specs.declared.views.View.TheVariants.{Mut}
use Rattle.st_rule.specs.Board.{plan_of}
use Rattle.st_rule.specs.Draws.{MayLock, IsNextOf, heap_seen}
use Rattle.st_rule.specs.Entries.{news_among, objects_made}
use Rattle.st_rule.specs.Holding.{Holds, IsNext, holding, shown_stamp}
use Rattle.st_rule.specs.Parts.{Sits}
use Rattle.st_rule.specs.Rule.{Told, Moment, HoldsAt, world_of}
use Rattle.st_rule.specs.SeatValue.{IsFairView}
use Rattle.st_rule.proofs.EntryLemmas.{news_are, below_most}

some_object : (x : Option Object) → IsSome x → (y : Object) × (x ≡ Some y)
some_object None some = absurd cc
some_object (Some y) some = (y, refl)

none_or_some : (x : Option Object) → (x ≡ None) ⊎ IsSome x
none_or_some None = inl refl
none_or_some (Some y) = inr refl

-- an object of an earlier heap is one of the later
pub still_there : (earlier later : Heap) (o : ℕ) → Extends earlier later → IsSome (earlier o) → IsSome (later o)
still_there earlier later o extends some =
    let x = some_object (earlier o) some in
    let y = extends.object o x.0 x.1 in
    subst (λ (z : Option Object). IsSome z) (sym y.1) refl

-- no more events pass a test than there are
passing_are_fewer : {A : Type 0} (p : A → Bool) (xs : List A) → length (filter p xs) ≤ length xs
passing_are_fewer p [] = omega arith
passing_are_fewer p (x ∷ xs) = cases (passing_are_fewer p xs) (p x)
  where
    cases : length (filter p xs) ≤ length xs → (b : Bool) → length (if b then x ∷ filter p xs else filter p xs) ≤ length (x ∷ xs)
    cases rest true = omega (arith, rest)
    cases rest false = omega (arith, rest)

-- ---- regions

regions_apart : (n m k a b : ℕ) → a < n → b < n → m * n + a ≡ k * n + b → m ≤ k
regions_apart n m k a b la lb e = ⊎_elim (λ le. le) (λ lt. absurd (let c : suc k * n ≤ m * n = mul-le-mul_right n lt in omega (arith, c, e, la, lb, suc-mul k n))) (nat_le_or m k)
  where
    nat_le_or : (x y : ℕ) → (x ≤ y) ⊎ (suc y ≤ x)
    nat_le_or x y = grind arith

one_mutator : (n m k a b : ℕ) → a < n → b < n → m * n + a ≡ k * n + b → m ≡ k
one_mutator n m k a b la lb e = let up = regions_apart n m k a b la lb e in let down = regions_apart n k m b a lb la (sym e) in omega (arith, up, down)

-- one object is the next of one number's region alone
pub one_next : (sizes : Sizes) (w : World) (k n o : ℕ) → IsNext sizes w k o → IsNext sizes w n o → k ≡ n
one_next sizes w k n o p q =
    let same : next_object sizes w k ≡ next_object sizes w n = sym p.object_is ∙ q.object_is in
    one_mutator sizes.objects k n (w.made k) (w.made n) p.room q.room (omega (arith, same))

-- it was not made before
pub next_absent : (sizes : Sizes) (w : World) (n o : ℕ) → AreRegions sizes w → IsNext sizes w n o → w.heap o ≡ None
next_absent sizes w n o r next = ⊎_elim (λ none. none) (λ some. absurd (there some)) (none_or_some (w.heap o))
  where
    not_made : IsMade sizes w o → ⊥
    not_made i =
        let below : i.k < sizes.objects = omega (arith, r.room i.m, i.made) in
        let same : i.m * sizes.objects + i.k ≡ n * sizes.objects + w.made n = omega (arith, i.number, next.object_is) in
        let one : i.m ≡ n = one_mutator sizes.objects i.m n i.k (w.made n) below next.room same in
        let equal : n * sizes.objects + i.k ≡ n * sizes.objects + w.made n = subst (λ (j : ℕ). j * sizes.objects + i.k ≡ n * sizes.objects + w.made n) one same in
        let made : i.k < w.made n = subst (λ (j : ℕ). i.k < w.made j) one i.made in
        omega (arith, made, equal)

    there : IsSome (w.heap o) → ⊥
    there some = let x = some_object (w.heap o) some in
        ⊎_elim (λ shared. absurd (omega (arith, shared, next.object_is))) (λ made. not_made made) (r.objects o x.0 x.1)

within_region : (m mutators objects k : ℕ) → m < mutators → k < objects → m * objects + k < mutators * objects
within_region m mutators objects k lt below = let c : suc m * objects ≤ mutators * objects = mul-le-mul_right objects lt in omega (arith, c, below, suc-mul m objects)

-- an object that exists has a cell
pub exists_within : (sizes : Sizes) (w : World) (o : ℕ) → AreRegions sizes w → IsSome (w.heap o) → o < cells_of (plan_of sizes)
exists_within sizes w o r some = let x = some_object (w.heap o) some in
    ⊎_elim (λ shared. omega (arith, shared))
    (λ made.
    let below : made.k < sizes.objects = omega (arith, r.room made.m, made.made) in
    let c = within_region made.m sizes.mutators sizes.objects made.k made.thread below in
    omega (arith, c, made.number))
    (r.objects o x.0 x.1)

-- what a seat may lock has a cell
pub lock_within : (v : MutView) (o : ℕ) → IsFairView v → MayLock v o → o < cells_of (plan_of v.terms.sizes)
lock_within v o fair may = ⊎_elim
    (λ some. exists_within v.terms.sizes (world_after v.terms.shape v.terms.sizes v.journal.seen) o
    (legal_is_sound v.terms.shape v.terms.sizes fair.shape_fits v.journal.seen fair.legal).regions some)
    (λ next. let c = within_region v.gate.number v.terms.sizes.mutators v.terms.sizes.objects (objects_made v) next.mutator next.room in omega (arith, c, next.object_is))
    may

-- ---- at a moment

module _ (told : Told) (id : ℕ) (v : MutView) (m : Moment) (words : List ℕ) (views : List View) (h : HoldsAt told m words views) (sits : Sits views id (Mut v)) where
  abbrev pub world : World
  world = world_of told.terms m

  pub sound : IsSoundWorld told.terms.shape told.terms.sizes world
  sound = legal_is_sound told.terms.shape told.terms.sizes h.shape_limits m.journal h.journal_part.legal

  -- the journal is short, since each event was paid for
  pub journal_short : length m.journal + 1 < 2 ^ 32
  journal_short =
      let paid = h.journal_part.paid in
      let most = below_most told.terms.sizes.mutators told.terms.sizes.events m.journal h.journal_part.charged in
      let bound : told.terms.sizes.mutators * told.terms.sizes.events ≤ 8 * 1048576 = mul-le-mul h.limits.mutators h.limits.events.1 in
      omega (arith, paid, most, bound)

  -- and so is the epoch
  pub epoch_short : m.board EpochWord < 2 ^ 32
  epoch_short =
      let counts = epoch_counts_launches told.terms.shape told.terms.sizes m.journal in
      let few = passing_are_fewer is_launch m.journal in
      omega (arith, h.board_part.epoch_is, counts, few, journal_short)

  -- the heap that the seat has seen goes on to the heap
  pub seen_extends : Extends (heap_seen v) world.heap
  seen_extends =
      let p = h.journal_part.prefixes id (Mut v) sits in
      let legal : IsLegal told.terms.shape told.terms.sizes (v.journal.seen ++ p.0) = subst (IsLegal told.terms.shape told.terms.sizes) (sym p.1) h.journal_part.legal in
      subst (λ (t : Terms). Extends (world_after t.shape t.sizes v.journal.seen).heap world.heap) (sym (h.seating.told id v sits))
      (subst (λ es. Extends (world_after told.terms.shape told.terms.sizes v.journal.seen).heap (world_after told.terms.shape told.terms.sizes es).heap) p.1
      (heap_extends told.terms.shape told.terms.sizes h.shape_limits v.journal.seen p.0 legal))

  -- it has made as many objects as its entries say
  pub made_is : world.made v.gate.number ≡ objects_made v
  made_is = made_counts_news told.terms.shape told.terms.sizes m.journal v.gate.number ∙ news_are v.gate.number 0 m.journal ∙ ap news_among (h.journal_part.own id v sits)

  -- so its next object is the next of its region
  pub next_is : (o : ℕ) → IsNextOf v o → IsNext told.terms.sizes world v.gate.number o
  next_is o next = record {
    object_is = next.object_is ∙ (λ i. FIRST_OF_REGIONS + v.gate.number * (h.seating.told id v sits i).sizes.objects + sym made_is i);
    room = subst (λ (t : Terms × ℕ). t.1 < t.0.sizes.objects) (λ i. (h.seating.told id v sits i, sym made_is i)) next.room;
  }

  pub may_stand : (o : ℕ) → MayLock v o → IsSome (world.heap o) ⊎ IsNext told.terms.sizes world v.gate.number o
  may_stand o may = ⊎_elim (λ some. inl (still_there (heap_seen v) world.heap o seen_extends some)) (λ next. inr (next_is o next)) may

  -- who holds an object is a mutator or the main thread
  pub holder_fits : (o : ℕ) → m.holder o < 2 ^ 32
  holder_fits o = bounded (m.holder o) refl
    where
      bounded : (j : ℕ) → m.holder o ≡ j → j < 2 ^ 32
      bounded zero names = omega arith
      bounded (suc k) names =
          let inside = h.object_part.only_inside k o ((h.object_part.named k o).1 names) in
          let fits = h.limits.mutators in
          ⊎_elim (λ out. absurd (let e : Outside ≡ Inside = sym out ∙ inside in cc e))
          (λ there. let within = subst (λ n. n ≤ told.terms.sizes.mutators) there.2 (h.seating.numbers (m.seat k) there.0 there.1) in omega (arith, within, fits))
          (h.seating.seated k)

  -- the header of the seat's next object is 0, as long as the seat holds nothing
  pub fresh_header : (o : ℕ) → v.held ≡ None → IsNextOf v o → m.board (HeaderWord o) ≡ 0
  fresh_header o empty next =
      let is_next = next_is o next in
      let absent = next_absent told.terms.sizes world v.gate.number o sound.regions is_next in
      let unheld : m.holder o ≡ 0 = nobody absent is_next (m.holder o) refl in
      h.object_part.headers o
      ∙ (λ i. packed (shown_stamp (holding m.grip (unheld i)) (sound.stamps.unmade o absent i)) (unheld i))
    where
      nobody : world.heap o ≡ None → IsNext told.terms.sizes world v.gate.number o → (j : ℕ) → m.holder o ≡ j → m.holder o ≡ 0
      nobody absent is_next zero names = names
      nobody absent is_next (suc k) names =
          let holds = (h.object_part.named k o).1 names in
          ⊎_elim
          (λ some. absurd (let e : IsSome {T = Object} None = subst (λ (x : Option Object). IsSome x) absent some in cc))
          (λ other.
          let one = one_next told.terms.sizes world k v.gate.number o other is_next in
          let mine : Holds None o = subst (λ g. Holds g o) (ap m.grip one ∙ h.seating.grips id v sits ∙ empty) holds in
          absurd (let e : None ≡ Some mine.held = mine.is in cc))
          (h.object_part.stands k o holds)
