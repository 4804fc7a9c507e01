-- What a draw makes of the object part: the holder has a change or a New in flight, or nothing.
use Rattle.std.proofs.Common.{◌≡◌, ◌≢◌, ℕ, suc, Bool, true, false, List, Option, Some, None, sym}
use Rattle.std.proofs.Common.{refl, ap, subst, ◌∙◌, inl, inr}
use Rattle.std.specs.Prelude.{IsSome, unwrap_or, ◌==◌}
use Rattle.std.specs.Option.{option_map}
use Rattle.st_layout.specs.Packed.{packed}
use Rattle.st_events.specs.declared.events.Event.TheVariants.{New, Store, Cas}
use Rattle.st_events.specs.declared.limits.Sizes.{Sizes}
use Rattle.st_events.specs.Heap.{Object, word_at, fresh}
use Rattle.st_events.specs.Shape.{ShapeLists}
use Rattle.st_events.specs.World.{World, next, changed, at}
use Rattle.st_events.proofs.SoundHeap.{object_put_here, word_set_keeps_class}
use Rattle.st_rule.specs.declared.views.Flight.{Flight}
use Rattle.st_rule.specs.declared.views.Held.{Held}
use Rattle.st_rule.specs.declared.views.Phase.{Phase}
use Rattle.st_rule.specs.declared.views.Phase.TheVariants.{Inside}
use Rattle.st_rule.specs.Draws.{left_in_flight, fresh_change, fresh_new}
use Rattle.st_rule.specs.Holding.{HasLanded, holding, flight_of, shown_stamp, shown_class, shown_field, sets_field, makes, field_loaded}
use Rattle.st_rule.specs.Holding.{word_or_zero, class_or_zero}
use Rattle.st_rule.specs.Parts.{ObjectPart}
use Rattle.st_rule.proofs.DrawEvents.{change_leaves, change_lands, change_there, change_shows, new_leaves, new_words}
use Rattle.st_rule.proofs.HoldLemmas.{holds_one, some_held, names, held_is, was_it, keeps_handles}
use Rattle.st_rule.proofs.ObjectLemmas.{LeavesElsewhere, objects_after}
use Rattle.st_rule.proofs.ViewLemmas.{at_here}

module _ (sizes : Sizes) (world : World) (phase phase' : ℕ → Phase) (grip : ℕ → Option Held) (holder header class : ℕ → ℕ) (field forward : ℕ → ℕ → ℕ)
    (part : ObjectPart sizes world phase grip holder header class field forward) (n : ℕ) (others : (k : ℕ) → k ≢ n → phase' k ≡ phase k)
    (h : Held) (is : grip n ≡ Some h) (quiet : h.flight ≡ None) (inside : phase' n ≡ Inside) where
  shown_is : holding grip (holder h.object) ≡ Some h
  shown_is = held_is sizes world phase phase' grip holder header class field forward part n others h is

  -- where nothing is in flight, class and fields are the heap's
  pub class_is : class h.object ≡ class_or_zero world.heap h.object
  class_is = part.classes h.object ∙ ap (λ g. shown_class (flight_of g) (class_or_zero world.heap h.object)) shown_is ∙ ap (λ x. shown_class x (class_or_zero world.heap h.object)) quiet

  pub field_is : (f : ℕ) → field h.object f ≡ word_or_zero world.heap h.object f
  field_is f = part.fields h.object f ∙ ap (λ g. shown_field (flight_of g) f (word_or_zero world.heap h.object f)) shown_is
      ∙ ap (λ x. shown_field x f (word_or_zero world.heap h.object f)) quiet

  abbrev ObjectsWith : World → Option Flight → Type 0
  ObjectsWith w flight = ObjectPart sizes w phase' (at n (Some (record h { flight = flight })) grip) (at h.object (suc n) holder) header class field forward

  -- an event that changes nothing
  pub objects_same : ObjectsWith world None
  objects_same = keeps_handles sizes world phase phase' grip holder header class field forward part n others h is (record h { flight = None }) refl refl inside class field
      class_is field_is (λ o other. refl) (λ o f other. refl) (λ none. quiet) (λ y flies. absurd cc) (λ f word found. part.loaded n h is f word found)

  -- an event that changes or makes the object
  objects_flown :
      (after : World) (x : Flight) → LeavesElsewhere world after n h.object
      → after.stamp h.object ≡ after.epoch → HasLanded after.heap h.object x.event → IsSome (after.heap h.object)
      → class_or_zero world.heap h.object ≡ shown_class (Some x) (class_or_zero after.heap h.object)
      → ((f : ℕ) → word_or_zero world.heap h.object f ≡ shown_field (Some x) f (word_or_zero after.heap h.object f))
      → ObjectsWith after (Some x)
  objects_flown after x leaves stamp lands there class_shown field_shown =
      let hand : Held = record h { flight = Some x } in
      objects_after sizes world after phase phase' grip holder header header class class field field forward n h.object (suc n) (Some hand) (Some hand) part leaves
      (record {
        was = was_it sizes world phase phase' grip holder header class field forward part n others h is;
        was_held = inr (names sizes world phase phase' grip holder header class field forward part n others h is);
        phases = others;
        inside = λ o holds. inside;
        is = λ o holds. (sym (holds_one hand o holds), refl);
        held = λ _. record { held = hand; is = refl; object_is = refl };
        low_is = inr refl;
        shown_is = at_here n (Some hand) grip;
        headers = part.headers h.object ∙ (λ i. packed (shown_stamp (shown_is i) (world.stamp h.object))
            (names sizes world phase phase' grip holder header class field forward part n others h is i));
        classes = class_is ∙ class_shown;
        fields = λ f. field_is f ∙ field_shown f;
        headers_else = λ o other. refl;
        classes_else = λ o other. refl;
        fields_else = λ o f other. refl;
        stamp = λ y e none. let f : Some x ≡ None = ap (λ (z : Held). z.flight) (some_held hand y e) ∙ none in absurd cc;
        flying = λ y fl e flies. let s : hand ≡ y = some_held hand y e in
            let same : Some x ≡ Some fl = ap (λ (z : Held). z.flight) s ∙ flies in
            let one : x ≡ fl = cc same in
            let o : h.object ≡ y.object = ap (λ (z : Held). z.object) s in
            record {
              epoch = ap after.stamp (sym o) ∙ stamp;
              landed = subst (λ (t : ℕ × Flight). HasLanded after.heap t.0 t.1.event) (λ i. (o i, one i)) lands;
            };
        loaded = λ y e f word found. let s : hand ≡ y = some_held hand y e in
            ap (λ (o : ℕ). field o f) (ap (λ (z : Held). z.object) (sym s)) ∙ part.loaded n h is f word (ap (λ (z : Held). field_loaded z.loaded f) s ∙ found);
        stands = λ o holds. inl (subst (λ i. IsSome (after.heap i)) (holds_one hand o holds) there);
      })

  -- a change
  objects_changed :
      (f value : ℕ) (x : Flight) → IsSome (word_at world.heap h.object f)
      → x.written ≡ false → x.old ≡ word_or_zero world.heap h.object f → ((g : ℕ) → sets_field x.event g ≡ (f == g)) → makes x.event ≡ false
      → HasLanded (changed sizes world h.object f value).heap h.object x.event
      → ObjectsWith (changed sizes world h.object f value) (Some x)
  objects_changed f value x cell unwritten old sets made lands =
      objects_flown (changed sizes world h.object f value) x (change_leaves sizes world n h.object f value) (at_here h.object world.epoch world.stamp) lands
      (change_there world.heap h.object f value cell)
      (ap (λ z. unwrap_or z 0) (sym (word_set_keeps_class world.heap h.object f value h.object)) ∙ sym (rw made refl))
      (change_shows world.heap h.object f value x cell unwritten old sets)

  pub objects_store :
      (shape : ShapeLists) (lanes : List ℕ) (index m f value : ℕ) → IsSome (word_at world.heap h.object f)
      → ObjectsWith (next shape sizes world (Store m h.object f value)) (left_in_flight world.heap lanes index (Store m h.object f value))
  objects_store shape lanes index m f value cell =
      objects_changed f value (fresh_change (Store m h.object f value) (word_or_zero world.heap h.object f) lanes index) cell refl refl (λ g. refl) refl
      (refl, change_lands world.heap h.object f value cell)

  pub objects_cas :
      (shape : ShapeLists) (lanes : List ℕ) (index m f expect value : ℕ) (done : Bool) → IsSome (word_at world.heap h.object f)
      → ObjectsWith (next shape sizes world (Cas m h.object f expect value done)) (left_in_flight world.heap lanes index (Cas m h.object f expect value done))
  objects_cas shape lanes index m f expect value true cell =
      objects_changed f value (fresh_change (Cas m h.object f expect value true) (word_or_zero world.heap h.object f) lanes index) cell refl refl (λ g. refl) refl
      (refl, refl, change_lands world.heap h.object f value cell)
  objects_cas shape lanes index m f expect value false cell = objects_same

  -- a New
  pub objects_new :
      (shape : ShapeLists) (lanes : List ℕ) (index c : ℕ) → world.heap h.object ≡ None
      → ObjectsWith (next shape sizes world (New n h.object c)) (left_in_flight world.heap lanes index (New n h.object c))
  objects_new shape lanes index c none =
      objects_flown (next shape sizes world (New n h.object c)) (fresh_new (New n h.object c)) (new_leaves shape sizes world n h.object c)
      (at_here h.object world.epoch world.stamp)
      (refl, ap (option_map (λ (x : Object). x.class)) (object_put_here world.heap h.object (fresh shape c)))
      (subst (λ (x : Option Object). IsSome x) (sym (object_put_here world.heap h.object (fresh shape c))) refl)
      (ap (λ x. unwrap_or (option_map (λ (y : Object). y.class) x) 0) none)
      (λ f. new_words shape world.heap h.object c f none)
