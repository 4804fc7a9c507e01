-- Worlds that the legality of events cannot tell apart
use Rattle.std.proofs.Common.{◌≡◌, ℕ, suc, ◌+◌, ◌<◌, ◌≤◌, true, false, List, [], ◌∷◌, ◌++◌, length, take, drop, get_or, Some}
use Rattle.std.proofs.Common.{None, refl, sym, ◌∙◌, ap, subst, arith}
use Rattle.std.proofs.lemmas.List.{take_more, length-take-le, take-append-drop, take_all}
use Rattle.std.proofs.Math.Seq.{drop-cons}
use Rattle.st_events.specs.Terms.{Event, New, Load, Store, Cas, Launch, Retire, Sizes, ShapeLists, Heap, with_object, with_word, fresh, World, first_world}
use Rattle.st_events.specs.Terms.{next, world_after, at, without, illegal_reason, IsLegal, heap_after}
use Rattle.st_events.specs.declared.errors.Why.{Why}
use Rattle.st_events.specs.Legal.{IsFirstIllegal}
use Rattle.st_events.specs.Seen.{LooksAlike}
use Rattle.st_events.proofs.WorldLemmas.{world_after_one_more}
use Rattle.st_events.proofs.LegalLemmas.{empty_is_legal, one_more_is_legal}

-- the world, but for what legality does not look at
dressed : World → World → World
dressed v w = record w { stamp = v.stamp; launched = v.launched; kept = v.kept; lost = v.lost }

alike_is_dressed : (v w : World) → LooksAlike v w → v ≡ dressed v w
unfolding dressed
alike_is_dressed v w a =
    λ i. record { heap = a.heap i; stamp = v.stamp; made = a.made i; epoch = a.epoch i; launched = v.launched; active = a.active i; kept = v.kept; lost = v.lost }

dressed_has_its_reason :
    (shape : ShapeLists) (sizes : Sizes) (v w : World) (e : Event)
    → illegal_reason shape sizes (dressed v w) e ≡ illegal_reason shape sizes w e
unfolding dressed
dressed_has_its_reason shape sizes v w (New m obj class) = refl
dressed_has_its_reason shape sizes v w (Load m obj field value) = refl
dressed_has_its_reason shape sizes v w (Store m obj field value) = refl
dressed_has_its_reason shape sizes v w (Cas m obj field expect value done) = refl
dressed_has_its_reason shape sizes v w (Launch m site number args) = refl
dressed_has_its_reason shape sizes v w (Retire m number) = refl

-- they have the same reasons
pub alike_have_one_reason :
    (shape : ShapeLists) (sizes : Sizes) (v w : World) (e : Event)
    → LooksAlike v w
    → illegal_reason shape sizes v e ≡ illegal_reason shape sizes w e
alike_have_one_reason shape sizes v w e a = ap (λ (u : World). illegal_reason shape sizes u e) (alike_is_dressed v w a) ∙ dressed_has_its_reason shape sizes v w e

-- and an event leaves them so
pub next_keeps_alike :
    (shape : ShapeLists) (sizes : Sizes) (v w : World) (e : Event)
    → LooksAlike v w
    → LooksAlike (next shape sizes v e) (next shape sizes w e)
next_keeps_alike shape sizes v w (New m obj class) a =
    record { heap = ap (λ (h : Heap). with_object h obj (fresh shape class)) a.heap; made = ap (λ (f : ℕ → ℕ). at m (f m + 1) f) a.made; epoch = a.epoch; active = a.active }
next_keeps_alike shape sizes v w (Load m obj field value) a = a
next_keeps_alike shape sizes v w (Store m obj field value) a =
    record { heap = ap (λ (h : Heap). with_word h obj field value) a.heap; made = a.made; epoch = a.epoch; active = a.active }
next_keeps_alike shape sizes v w (Cas m obj field expect value true) a =
    record { heap = ap (λ (h : Heap). with_word h obj field value) a.heap; made = a.made; epoch = a.epoch; active = a.active }
next_keeps_alike shape sizes v w (Cas m obj field expect value false) a = a
next_keeps_alike shape sizes v w (Launch m site number args) a =
    record { heap = a.heap; made = a.made; epoch = ap (λ (n : ℕ). n + 1) a.epoch; active = ap (λ (ns : List ℕ). ns ++ number ∷ []) a.active }
next_keeps_alike shape sizes v w (Retire m number) a = record { heap = a.heap; made = a.made; epoch = a.epoch; active = ap (without number) a.active }

-- what looks like a look-alike looks alike
pub alike_of_alike : (u v w : World) → LooksAlike u v → LooksAlike v w → LooksAlike u w
alike_of_alike u v w a b = record { heap = a.heap ∙ b.heap; made = a.made ∙ b.made; epoch = a.epoch ∙ b.epoch; active = a.active ∙ b.active }

-- ---- the first events of a journal

-- a journal that has been replayed up to a place: it is legal so far, and what was seen looks like the world after it
pub record IsReplayed (shape : ShapeLists) (sizes : Sizes) (es : List Event) (place : ℕ) (v : World) : Type 0 where
  pub legal : IsLegal shape sizes (take place es)
  pub alike : LooksAlike v (world_after shape sizes (take place es))

-- the next event is legal, and what is seen after it is what it makes of what was seen before
pub replayed_one_more :
    (shape : ShapeLists) (sizes : Sizes) (es : List Event) (place : ℕ) (d : Event) (v u : World)
    → place < length es
    → None ≡ illegal_reason shape sizes v (get_or es place d)
    → LooksAlike u (next shape sizes v (get_or es place d))
    → IsReplayed shape sizes es place v
    → IsReplayed shape sizes es (place + 1) u
replayed_one_more shape sizes es place d v u within legal later r =
    let e = get_or es place d in
    let before = world_after shape sizes (take place es) in
    let more : take (place + 1) es ≡ take place es ++ e ∷ [] = take_more es place d within in
    record {
      legal = subst (IsLegal shape sizes) (sym more)
          (one_more_is_legal shape sizes (take place es) e r.legal (sym (alike_have_one_reason shape sizes v before e r.alike) ∙ sym legal));
      alike = subst (λ (w : World). LooksAlike u w) (sym (ap (world_after shape sizes) more ∙ world_after_one_more shape sizes (take place es) e))
          (alike_of_alike u (next shape sizes v e) (next shape sizes before e) later (next_keeps_alike shape sizes v before e r.alike));
    }

-- the next event is not legal
pub replayed_up_to_a_fault :
    (shape : ShapeLists) (sizes : Sizes) (es : List Event) (place : ℕ) (d : Event) (v : World) (why : Why)
    → place < length es
    → Some why ≡ illegal_reason shape sizes v (get_or es place d)
    → IsReplayed shape sizes es place v
    → IsFirstIllegal shape sizes es place why
replayed_up_to_a_fault shape sizes es place d v why within reason r = record {
  before = take place es;
  event = get_or es place d;
  rest = drop (suc place) es;
  split = sym (take-append-drop place es) ∙ ap (λ (xs : List Event). take place es ++ xs) (drop-cons es place d within);
  place_is = length-take-le place es (omega (arith, within));
  legal_before = r.legal;
  reason = sym (alike_have_one_reason shape sizes v (world_after shape sizes (take place es)) (get_or es place d) r.alike) ∙ sym reason;
}

-- the empty part
pub replayed_none :
    (shape : ShapeLists) (sizes : Sizes) (es : List Event) (v : World)
    → LooksAlike v (first_world shape)
    → IsReplayed shape sizes es 0 v
replayed_none shape sizes es v a = record { legal = empty_is_legal shape sizes; alike = a }

-- the whole
pub replayed_all :
    (shape : ShapeLists) (sizes : Sizes) (es : List Event) (place : ℕ) (v : World)
    → length es ≤ place
    → IsReplayed shape sizes es place v
    → IsLegal shape sizes es × (v.heap ≡ heap_after shape sizes es)
replayed_all shape sizes es place v h r =
    let all : take place es ≡ es = take_all place es h in
    (subst (IsLegal shape sizes) all r.legal, r.alike.heap ∙ ap (heap_after shape sizes) all)
