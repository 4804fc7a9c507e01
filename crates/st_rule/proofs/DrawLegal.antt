-- An event that its seat may draw is legal after the whole journal, whatever others drew since the seat last saw it.
use Rattle.std.proofs.Common.{◌≡◌, ℕ, suc, ◌<◌, Bool, true, false, List, length, Some}
use Rattle.std.proofs.Common.{sym, refl, ap, subst, ◌∙◌}
use Rattle.std.specs.Prelude.{IsSome}
use Rattle.st_layout.specs.Names.{FieldWord, ClassWord, HeaderWord, ForwardWord}
use Rattle.st_events.specs.declared.events.Event.{Event}
use Rattle.st_events.specs.declared.events.Event.TheVariants.{New, Load, Store, Cas, Launch, Retire}
use Rattle.st_events.specs.Heap.{word_at}
use Rattle.st_events.specs.Legal.{IsLegalNext, fits_cell, is_word}
use Rattle.st_events.specs.World.{World, next, at}
use Rattle.st_events.proofs.LegalEvents.{new_is_legal, load_is_legal, store_is_legal, cas_is_legal}
use Rattle.st_rule.specs.declared.views.Held.{Held}
use Rattle.st_rule.specs.declared.views.MutView.{MutView}
use Rattle.st_rule.specs.declared.views.Phase.TheVariants.{Inside}
use Rattle.st_rule.specs.declared.views.Terms.{Terms}
use Rattle.st_events.specs.Shape.{ShapeLists}
use Rattle.st_events.specs.declared.limits.Sizes.{Sizes}
use Rattle.st_rule.specs.declared.views.View.{View}
use Rattle.st_rule.specs.declared.views.View.TheVariants.{Mut}
use Rattle.st_rule.specs.Draws.{MayDraw, Suits, heap_seen, left_in_flight}
use Rattle.st_rule.specs.Holding.{field_loaded}
use Rattle.st_rule.specs.Needs.{needing_lanes}
use Rattle.st_rule.specs.Parts.{Sits, ObjectPart}
use Rattle.st_rule.specs.Rule.{Told, Moment, HoldsAt}
use Rattle.st_rule.proofs.DrawEvents.{cell_stays, kind_stays, cell_word}
use Rattle.st_rule.proofs.FlightLemmas.{field_is, objects_same, objects_store, objects_cas, objects_new}
use Rattle.st_rule.proofs.ReachLemmas.{world, sound, seen_extends, next_is, next_absent}

module _ (told : Told) (id : ℕ) (v : MutView) (m : Moment) (words : List ℕ) (views : List View) (h : HoldsAt told m words views) (sits : Sits views id (Mut v))
    (event : Event) (copy : Bool) (may : MayDraw v event copy) where
  abbrev w : World
  w = world told id v m words views h sits

  abbrev n : ℕ
  n = v.gate.number

  abbrev hand : Held
  hand = may.hand

  terms_is : v.terms ≡ told.terms
  terms_is = h.seating.told id v sits

  grip_is : m.grip n ≡ Some hand
  grip_is = h.seating.grips id v sits ∙ may.held

  is_inside : m.phase n ≡ Inside
  is_inside = h.seating.phases id v sits ∙ may.inside

  pub mutator : n < told.terms.sizes.mutators
  mutator = subst (λ (t : Terms). n < t.sizes.mutators) terms_is may.mutator

  cell_now : (f : ℕ) → IsSome (word_at (heap_seen v) hand.object f) → IsSome (word_at w.heap hand.object f)
  cell_now f cell = cell_stays (heap_seen v) w.heap hand.object f (seen_extends told id v m words views h sits) cell

  kind_now : (f value : ℕ) → fits_cell v.terms.shape (heap_seen v) hand.object f value ≡ true → fits_cell told.terms.shape w.heap hand.object f value ≡ true
  kind_now f value kind = subst (λ (t : Terms). fits_cell t.shape w.heap hand.object f value ≡ true) terms_is
      (kind_stays v.terms.shape (heap_seen v) w.heap hand.object f value (seen_extends told id v m words views h sits) kind)

  -- the word that was loaded is the heap's
  word_now : (f value : ℕ) → IsSome (word_at (heap_seen v) hand.object f) → field_loaded hand.loaded f ≡ Some value → word_at w.heap hand.object f ≡ Some value
  word_now f value cell loaded = cell_word w.heap hand.object f value (cell_now f cell)
      (sym (field_is told.terms.sizes w m.phase m.phase m.grip m.holder (λ o. m.board (HeaderWord o)) (λ o. m.board (ClassWord o))
      (λ o f. m.board (FieldWord o f)) (λ o l. m.board (ForwardWord o l)) h.object_part n (λ k other. refl) hand grip_is may.quiet is_inside f)
      ∙ h.object_part.loaded n hand grip_is f value loaded)

  pub legal_next : (e : Event) → Suits v hand e → IsLegalNext told.terms.shape told.terms.sizes w e
  legal_next (New t obj class) s =
      let next = next_is told id v m words views h sits obj s.2.next in
      subst (λ k. IsLegalNext told.terms.shape told.terms.sizes w (New k obj class)) (sym s.0)
      (new_is_legal told.terms.shape told.terms.sizes w n obj class (record {
        thread = mutator;
        object = next.object_is;
        room = next.room;
        some_class = s.2.some_class;
        declared = subst (λ (x : Terms). class < length x.shape.classes) terms_is s.2.declared;
      }))
  legal_next (Load t obj f value) s =
      subst (λ (x : ℕ × ℕ). IsLegalNext told.terms.shape told.terms.sizes w (Load x.0 x.1 f value)) (λ i. (sym s.0 i, sym s.1 i))
      (load_is_legal told.terms.shape told.terms.sizes w n hand.object f value (record { thread = mutator; word = word_now f value s.2.cell s.2.loaded }))
  legal_next (Store t obj f value) s =
      subst (λ (x : ℕ × ℕ). IsLegalNext told.terms.shape told.terms.sizes w (Store x.0 x.1 f value)) (λ i. (sym s.0 i, sym s.1 i))
      (store_is_legal told.terms.shape told.terms.sizes w n hand.object f value (record { thread = mutator; cell = cell_now f s.2.cell; kind = kind_now f value s.2.kind }))
  legal_next (Cas t obj f expect value done) s =
      subst (λ (x : ℕ × ℕ). IsLegalNext told.terms.shape told.terms.sizes w (Cas x.0 x.1 f expect value done)) (λ i. (sym s.0 i, sym s.1 i))
      (cas_is_legal told.terms.shape told.terms.sizes w n hand.object f expect value done (record {
        thread = mutator;
        cell = cell_now f s.2.cell;
        expected = kind_now f expect s.2.expected;
        kind = kind_now f value s.2.kind;
        answer = s.2.answer ∙ sym (ap (λ z. is_word z expect) (word_now f s.2.found s.2.cell s.2.loaded));
      }))
  legal_next (Launch t site number args) s = absurd s
  legal_next (Retire t number) s = absurd s

  -- what the objects' words show afterwards
  abbrev pub ObjectsAfter : ℕ → Event → Type 0
  ObjectsAfter index e =
      ObjectPart told.terms.sizes (next told.terms.shape told.terms.sizes w e) m.phase (at n (Some (record hand { flight = left_in_flight w.heap (needing_lanes v hand) index e })) m.grip)
      (at hand.object (suc n) m.holder) (λ o. m.board (HeaderWord o)) (λ o. m.board (ClassWord o)) (λ o f. m.board (FieldWord o f)) (λ o l. m.board (ForwardWord o l))

  pub objects_next : (index : ℕ) (e : Event) → Suits v hand e → ObjectsAfter index e
  objects_next index (New t obj class) s =
      let is_next = next_is told id v m words views h sits obj s.2.next in
      let absent = next_absent told.terms.sizes w n obj (sound told id v m words views h sits).regions is_next in
      subst (λ (x : ℕ × ℕ). ObjectsAfter index (New x.0 x.1 class)) (λ i. (sym s.0 i, sym s.1 i))
      (objects_new told.terms.sizes w m.phase m.phase m.grip m.holder (λ o. m.board (HeaderWord o)) (λ o. m.board (ClassWord o))
      (λ o f. m.board (FieldWord o f)) (λ o l. m.board (ForwardWord o l)) h.object_part n (λ k other. refl) hand grip_is may.quiet is_inside told.terms.shape (needing_lanes v hand) index class
      (ap w.heap (sym s.1) ∙ absent))
  objects_next index (Load t obj f value) s =
      objects_same told.terms.sizes w m.phase m.phase m.grip m.holder (λ o. m.board (HeaderWord o)) (λ o. m.board (ClassWord o))
      (λ o f. m.board (FieldWord o f)) (λ o l. m.board (ForwardWord o l)) h.object_part n (λ k other. refl) hand grip_is may.quiet is_inside
  objects_next index (Store t obj f value) s =
      subst (λ (o : ℕ). ObjectsAfter index (Store t o f value)) (sym s.1)
      (objects_store told.terms.sizes w m.phase m.phase m.grip m.holder (λ o. m.board (HeaderWord o)) (λ o. m.board (ClassWord o))
      (λ o f. m.board (FieldWord o f)) (λ o l. m.board (ForwardWord o l)) h.object_part n (λ k other. refl) hand grip_is may.quiet is_inside told.terms.shape (needing_lanes v hand) index t f value
      (cell_now f s.2.cell))
  objects_next index (Cas t obj f expect value done) s =
      subst (λ (o : ℕ). ObjectsAfter index (Cas t o f expect value done)) (sym s.1)
      (objects_cas told.terms.sizes w m.phase m.phase m.grip m.holder (λ o. m.board (HeaderWord o)) (λ o. m.board (ClassWord o))
      (λ o f. m.board (FieldWord o f)) (λ o l. m.board (ForwardWord o l)) h.object_part n (λ k other. refl) hand grip_is may.quiet is_inside told.terms.shape
      (needing_lanes v hand) index t f expect value done
      (cell_now f s.2.cell))
  objects_next index (Launch t site number args) s = absurd s
  objects_next index (Retire t number) s = absurd s

-- such an event changes neither the epoch nor the active checks
pub epoch_same : (v : MutView) (x : Held) (shape : ShapeLists) (sizes : Sizes) (w : World) (e : Event) → Suits v x e → (next shape sizes w e).epoch ≡ w.epoch
epoch_same v x shape sizes w (New t obj class) s = refl
epoch_same v x shape sizes w (Load t obj f value) s = refl
epoch_same v x shape sizes w (Store t obj f value) s = refl
epoch_same v x shape sizes w (Cas t obj f expect value true) s = refl
epoch_same v x shape sizes w (Cas t obj f expect value false) s = refl
epoch_same v x shape sizes w (Launch t site number args) s = absurd s
epoch_same v x shape sizes w (Retire t number) s = absurd s

-- an event that a mutator draws leaves the active checks
pub active_same : (v : MutView) (x : Held) (shape : ShapeLists) (sizes : Sizes) (w : World) (e : Event) → Suits v x e → (next shape sizes w e).active ≡ w.active
active_same v x shape sizes w (New t obj class) s = refl
active_same v x shape sizes w (Load t obj f value) s = refl
active_same v x shape sizes w (Store t obj f value) s = refl
active_same v x shape sizes w (Cas t obj f expect value true) s = refl
active_same v x shape sizes w (Cas t obj f expect value false) s = refl
active_same v x shape sizes w (Launch t site number args) s = absurd s
active_same v x shape sizes w (Retire t number) s = absurd s

-- and it leaves what was launched
pub launched_same : (v : MutView) (x : Held) (shape : ShapeLists) (sizes : Sizes) (w : World) (e : Event) → Suits v x e → (next shape sizes w e).launched ≡ w.launched
launched_same v x shape sizes w (New t obj class) s = refl
launched_same v x shape sizes w (Load t obj f value) s = refl
launched_same v x shape sizes w (Store t obj f value) s = refl
launched_same v x shape sizes w (Cas t obj f expect value true) s = refl
launched_same v x shape sizes w (Cas t obj f expect value false) s = refl
launched_same v x shape sizes w (Launch t site number args) s = absurd s
launched_same v x shape sizes w (Retire t number) s = absurd s
