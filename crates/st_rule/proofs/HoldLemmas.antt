-- What lock, unlock, field load, field store and class store make of the object part.
use Rattle.std.proofs.Common.{◌≡◌, ◌≢◌, ℕ, suc, ◌⊎◌, ◌==◌, ◌&&◌, not, Bool, true, false, if◌then◌else◌, []}
use Rattle.std.proofs.Common.{◌∷◌, Option, Some, None}
use Rattle.std.proofs.Common.{sym, refl, ap, subst, ◌∙◌, arith, inl, inr, eq-eqb, ne_eqb}
use Rattle.std.specs.Prelude.{IsSome, unwrap_or}
use Rattle.std.proofs.lemmas.Bool.Decides.{nat_tests}
use mathlib.Core.Logic.{dite}
use native.Mathlib.Decide.{ℕ_discrete}
use Rattle.st_layout.specs.Packed.{packed}
use Rattle.st_events.specs.declared.events.Event.{Event}
use Rattle.st_events.specs.declared.events.Event.TheVariants.{New, Load, Store, Cas, Launch, Retire}
use Rattle.st_events.specs.declared.limits.Sizes.{Sizes}
use Rattle.st_events.specs.Heap.{Heap, Object, word_of, word_at, class_at}
use Rattle.std.specs.Option.{option_map}
use Rattle.st_events.specs.World.{World, at}
use Rattle.st_rule.specs.declared.views.Flight.{Flight}
use Rattle.st_rule.specs.declared.views.Held.{Held}
use Rattle.st_rule.specs.declared.views.Phase.{Phase}
use Rattle.st_rule.specs.declared.views.Phase.TheVariants.{Inside}
use Rattle.st_rule.specs.Holding.{Holds, IsNext, HasLanded, holding, flight_of, shown_stamp, shown_class, shown_field, sets_field, makes, field_loaded, IsSetting, IsMaking}
use Rattle.st_rule.specs.Holding.{word_or_zero, class_or_zero}
use Rattle.st_rule.specs.Parts.{ObjectPart, IsFlying}
use Rattle.st_rule.proofs.ObjectLemmas.{leaves_all, Handles, objects_after}
use Rattle.st_rule.proofs.ViewLemmas.{at_here, at_else}

-- a hand holds one object
pub holds_one : (h : Held) (o : ℕ) → Holds (Some h) o → h.object ≡ o
holds_one h o holds = let same : h ≡ holds.held = cc (holds.is) in ap (λ (x : Held). x.object) same ∙ holds.object_is

-- a hand holds its object
pub holds_own : (h : Held) → Holds (Some h) h.object
holds_own h = record { held = h; is = refl; object_is = refl }

-- an empty hand holds nothing
pub holds_none : (o : ℕ) → Holds None o → ⊥
holds_none o holds = let e : None ≡ Some holds.held = holds.is in absurd cc

-- a hand is one hand
pub some_held : (h x : Held) → Some h ≡ Some x → h ≡ x
some_held h x e = cc

-- a function that differs at one object alone
pub else_same : (object value : ℕ) (f : ℕ → ℕ) (o : ℕ) → o ≢ object → at object value f o ≡ f o
else_same object value f o other = at_else object value f o other

-- two numbers as the name of a field
abbrev pub at_field : (object field value : ℕ) → (ℕ → ℕ → ℕ) → ℕ → ℕ → ℕ
at_field object field value words = λ o f. if (o == object) && (f == field) then value else words o f

-- fields of which one was changed have the new word there
pub field_here : (object field value : ℕ) (words : ℕ → ℕ → ℕ) → at_field object field value words object field ≡ value
field_here object field value words = rw (eq-eqb object object refl, eq-eqb field field refl) refl

-- and the old word at every other field of the object
pub field_other : (object field value : ℕ) (words : ℕ → ℕ → ℕ) (o f : ℕ) → f ≢ field → at_field object field value words o f ≡ words o f
field_other object field value words o f other = rw (ne_eqb f field other) (both_no (o == object) value (words o f))
  where
    both_no : (b : Bool) (x y : ℕ) → (if b && false then x else y) ≡ y
    both_no true x y = refl
    both_no false x y = refl

-- and at every field of every other object
pub field_elsewhere : (object field value : ℕ) (words : ℕ → ℕ → ℕ) (o f : ℕ) → o ≢ object → at_field object field value words o f ≡ words o f
field_elsewhere object field value words o f other = rw (ne_eqb o object other) refl

-- an event that sets a field has set it, and no other, and makes nothing
set_landed : (heap : Heap) (object f value : ℕ) (e : Event) → IsSetting e f value → HasLanded heap object e → word_at heap object f ≡ Some value
set_landed heap object f value (New m obj class) s l = absurd s
set_landed heap object f value (Load m obj field x) s l = absurd s
set_landed heap object f value (Store m obj field x) s l = subst (λ (t : ℕ × ℕ). word_at heap object t.0 ≡ Some t.1) (λ i. (s.0 i, s.1 i)) l.1
set_landed heap object f value (Cas m obj field expect x done) s l = subst (λ (t : ℕ × ℕ). word_at heap object t.0 ≡ Some t.1) (λ i. (s.0 i, s.1 i)) l.2
set_landed heap object f value (Launch m site number args) s l = absurd s
set_landed heap object f value (Retire m number) s l = absurd s

sets_this : (f value : ℕ) (e : Event) → IsSetting e f value → (g : ℕ) → sets_field e g ≡ (f == g)
sets_this f value (New m obj class) s g = absurd s
sets_this f value (Load m obj field x) s g = absurd s
sets_this f value (Store m obj field x) s g = ap (λ k. k == g) s.0
sets_this f value (Cas m obj field expect x done) s g = (λ i. s.2 i && (s.0 i == g))
sets_this f value (Launch m site number args) s g = absurd s
sets_this f value (Retire m number) s g = absurd s

sets_makes : (f value : ℕ) (e : Event) → IsSetting e f value → makes e ≡ false
sets_makes f value (New m obj class) s = absurd s
sets_makes f value (Load m obj field x) s = refl
sets_makes f value (Store m obj field x) s = refl
sets_makes f value (Cas m obj field expect x done) s = refl
sets_makes f value (Launch m site number args) s = refl
sets_makes f value (Retire m number) s = refl

-- an event that makes an object has made it, and sets no field
made_landed : (heap : Heap) (object c : ℕ) (e : Event) → IsMaking e c → HasLanded heap object e → class_at heap object ≡ Some c
made_landed heap object c (New m obj class) s l = l.1 ∙ ap Some s
made_landed heap object c (Load m obj field x) s l = absurd s
made_landed heap object c (Store m obj field x) s l = absurd s
made_landed heap object c (Cas m obj field expect x done) s l = absurd s
made_landed heap object c (Launch m site number args) s l = absurd s
made_landed heap object c (Retire m number) s l = absurd s

making_sets : (c : ℕ) (e : Event) → IsMaking e c → (g : ℕ) → sets_field e g ≡ false
making_sets c (New m obj class) s g = refl
making_sets c (Load m obj field x) s g = absurd s
making_sets c (Store m obj field x) s g = absurd s
making_sets c (Cas m obj field expect x done) s g = absurd s
making_sets c (Launch m site number args) s g = absurd s
making_sets c (Retire m number) s g = absurd s

same_numbers : (a b : ℕ) → (a == b) ≡ true → a ≡ b
same_numbers a b t = grind (arith, nat_tests)

module _ (sizes : Sizes) (world : World) (phase phase' : ℕ → Phase) (grip : ℕ → Option Held) (holder header class : ℕ → ℕ) (field forward : ℕ → ℕ → ℕ)
    (part : ObjectPart sizes world phase grip holder header class field forward) (n : ℕ) (others : (k : ℕ) → k ≢ n → phase' k ≡ phase k) where
  -- lock: an object that nobody holds, which exists or is the number's next
  module _ (object stamp : ℕ) (inside : phase' n ≡ Inside) (empty : grip n ≡ None) (free : holder object ≡ 0) (is_stamp : stamp ≡ world.stamp object)
      (stands : IsSome (world.heap object) ⊎ IsNext sizes world n object) where
    abbrev new_hand : Held
    new_hand = record { object = object; stamp = stamp; loaded = []; flight = None }

    was_none : (o : ℕ) → Holds (grip n) o → ⊥
    was_none o holds = holds_none o (subst (λ g. Holds g o) empty holds)

    lock_handles :
        Handles sizes world world phase phase' grip holder header (at object (packed stamp (suc n)) header) class class field field n object (suc n)
        (Some (record { object = object; stamp = stamp; loaded = []; flight = None })) (Some (record { object = object; stamp = stamp; loaded = []; flight = None }))
    lock_handles = record {
      was = λ o holds. absurd (was_none o holds);
      was_held = inl free;
      phases = others;
      inside = λ o holds. inside;
      is = λ o holds. (sym (holds_one new_hand o holds), refl);
      held = λ _. holds_own new_hand;
      low_is = inr refl;
      shown_is = at_here n (Some new_hand) grip;
      headers = at_here object (packed stamp (suc n)) header;
      classes = part.classes object ∙ ap (λ k. shown_class (flight_of (holding grip k)) (class_or_zero world.heap object)) free;
      fields = λ f. part.fields object f ∙ ap (λ k. shown_field (flight_of (holding grip k)) f (word_or_zero world.heap object f)) free;
      headers_else = λ o other. at_else object (packed stamp (suc n)) header o other;
      classes_else = λ o other. refl;
      fields_else = λ o f other. refl;
      stamp = λ h is quiet. let e = some_held new_hand h is in subst (λ (x : Held). x.stamp ≡ world.stamp x.object) e is_stamp;
      flying = λ h x is flies. let e : None ≡ Some x = ap (λ (y : Held). y.flight) (some_held new_hand h is) ∙ flies in absurd cc;
      loaded = λ h is f word found. let e : None ≡ Some word = ap (λ (y : Held). field_loaded y.loaded f) (some_held new_hand h is) ∙ found in absurd cc;
      stands = λ o holds. subst (λ i. IsSome (world.heap i) ⊎ IsNext sizes world n i) (holds_one new_hand o holds) stands;
    }

    pub objects_locked :
        ObjectPart sizes world phase' (at n (Some (record { object = object; stamp = stamp; loaded = []; flight = None })) grip) (at object (suc n) holder)
        (at object (packed stamp (suc n)) header) class field forward
    objects_locked = objects_after sizes world world phase phase' grip holder header (at object (packed stamp (suc n)) header) class class field field forward n object (suc n)
        (Some new_hand) (Some new_hand) part (leaves_all world n object) lock_handles

  -- the number holds an object, and steps on it
  module _ (h : Held) (is : grip n ≡ Some h) where
    pub names : holder h.object ≡ suc n
    names = (part.named n h.object).0 (record { held = h; is = is; object_is = refl })

    pub held_is : holding grip (holder h.object) ≡ Some h
    held_is = ap (holding grip) names ∙ is

    pub was_it : (o : ℕ) → Holds (grip n) o → o ≡ h.object
    was_it o holds = sym (holds_one h o (subst (λ g. Holds g o) is holds))

    -- unlock: nothing is in flight, or only the header is left of it
    module _ (stamp : ℕ) (is_stamp : stamp ≡ world.stamp h.object) (over : (x : Flight) → h.flight ≡ Some x → x.written ≡ true) where
      shows_class : (flight : Option Flight) → ((x : Flight) → flight ≡ Some x → x.written ≡ true) → (c : ℕ) → shown_class flight c ≡ c
      shows_class None written c = refl
      shows_class (Some x) written c = rw (written x refl) (no_old (makes x.event))
        where
          no_old : (b : Bool) → (if b && false then 0 else c) ≡ c
          no_old true = refl
          no_old false = refl

      shows_field : (flight : Option Flight) → ((x : Flight) → flight ≡ Some x → x.written ≡ true) → (f word : ℕ) → shown_field flight f word ≡ word
      shows_field None written f word = refl
      shows_field (Some x) written f word = rw (written x refl) (no_old (sets_field x.event f))
        where
          no_old : (b : Bool) → (if b && false then x.old else word) ≡ word
          no_old true = refl
          no_old false = refl

      unlock_handles :
          Handles sizes world world phase phase' grip holder header (at h.object (packed stamp 0) header) class class field field n h.object 0 None None
      unlock_handles = record {
        was = was_it;
        was_held = inr names;
        phases = others;
        inside = λ o holds. absurd (holds_none o holds);
        is = λ o holds. absurd (holds_none o holds);
        held = λ low. absurd (omega (arith, low));
        low_is = inl refl;
        shown_is = refl;
        headers = at_here h.object (packed stamp 0) header ∙ ap (λ s. packed s 0) is_stamp;
        classes = part.classes h.object ∙ ap (λ g. shown_class (flight_of g) (class_or_zero world.heap h.object)) held_is ∙ shows_class h.flight over (class_or_zero world.heap h.object);
        fields = λ f. part.fields h.object f ∙ ap (λ g. shown_field (flight_of g) f (word_or_zero world.heap h.object f)) held_is
            ∙ shows_field h.flight over f (word_or_zero world.heap h.object f);
        headers_else = λ o other. at_else h.object (packed stamp 0) header o other;
        classes_else = λ o other. refl;
        fields_else = λ o f other. refl;
        stamp = λ x none quiet. absurd cc;
        flying = λ x y none flies. absurd cc;
        loaded = λ x none f word found. absurd cc;
        stands = λ o holds. absurd (holds_none o holds);
      }

      pub objects_unlocked :
          ObjectPart sizes world phase' (at n None grip) (at h.object 0 holder) (at h.object (packed stamp 0) header) class field forward
      objects_unlocked = objects_after sizes world world phase phase' grip holder header (at h.object (packed stamp 0) header) class class field field forward n h.object 0
          None None part (leaves_all world n h.object) unlock_handles

    -- a step that keeps the object, its stamp and its header
    module _ (x : Held) (same_object : x.object ≡ h.object) (same_stamp : x.stamp ≡ h.stamp) (inside : phase' n ≡ Inside) where
      pub keeps_handles :
          (class' : ℕ → ℕ) (field' : ℕ → ℕ → ℕ)
          → class' h.object ≡ shown_class x.flight (class_or_zero world.heap h.object)
          → ((f : ℕ) → field' h.object f ≡ shown_field x.flight f (word_or_zero world.heap h.object f))
          → ((o : ℕ) → o ≢ h.object → class' o ≡ class o)
          → ((o f : ℕ) → o ≢ h.object → field' o f ≡ field o f)
          → (x.flight ≡ None → h.flight ≡ None)
          → ((y : Flight) → x.flight ≡ Some y → IsFlying world h y)
          → ((f word : ℕ) → field_loaded x.loaded f ≡ Some word → field' h.object f ≡ word)
          → ObjectPart sizes world phase' (at n (Some x) grip) (at h.object (suc n) holder) header class' field' forward
      keeps_handles class' field' classes fields classes_else fields_else quiet flying loaded =
          objects_after sizes world world phase phase' grip holder header header class class' field field' forward n h.object (suc n) (Some x) (Some x) part
          (leaves_all world n h.object)
          (record {
            was = was_it;
            was_held = inr names;
            phases = others;
            inside = λ o holds. inside;
            is = λ o holds. (sym (holds_one x o holds) ∙ same_object, refl);
            held = λ _. record { held = x; is = refl; object_is = same_object };
            low_is = inr refl;
            shown_is = at_here n (Some x) grip;
            headers = part.headers h.object ∙ (λ i. packed (shown_stamp (held_is i) (world.stamp h.object)) (names i)) ∙ ap (λ s. packed s (suc n)) (sym same_stamp);
            classes = classes;
            fields = fields;
            headers_else = λ o other. refl;
            classes_else = classes_else;
            fields_else = fields_else;
            stamp = λ y e none. let s : x ≡ y = some_held x y e in
                ap (λ (z : Held). z.stamp) (sym s) ∙ same_stamp ∙ part.stamps n h is (quiet (ap (λ (z : Held). z.flight) s ∙ none))
                ∙ ap world.stamp (sym same_object ∙ ap (λ (z : Held). z.object) s);
            flying = λ y fl e flies. let s : x ≡ y = some_held x y e in
                let old = flying fl (ap (λ (z : Held). z.flight) s ∙ flies) in
                let moved : IsFlying world (record h { object = y.object }) fl =
                subst (λ (o : ℕ). IsFlying world (record h { object = o }) fl) (sym same_object ∙ ap (λ (z : Held). z.object) s) old in
                record { epoch = moved.epoch; landed = moved.landed };
            loaded = λ y e f word found. let s : x ≡ y = some_held x y e in
                ap (λ (o : ℕ). field' o f) (ap (λ (z : Held). z.object) (sym s) ∙ same_object) ∙ loaded f word (ap (λ (z : Held). field_loaded z.loaded f) s ∙ found);
            stands = λ o holds. part.stands n o (subst (λ g. Holds g o) (sym is) (record { held = h; is = refl; object_is = sym same_object ∙ holds_one x o holds }));
          })

    -- field load
    module _ (inside : phase' n ≡ Inside) (f word : ℕ) (found : word ≡ field h.object f) where
      loaded_now : (same : Bool) → (g x : ℕ) → (f == g) ≡ same → (if same then Some word else field_loaded h.loaded g) ≡ Some x → field h.object g ≡ x
      loaded_now true g x here e = ap (field h.object) (sym (same_numbers f g here)) ∙ sym found ∙ cc e
      loaded_now false g x other e = part.loaded n h is g x e

      pub objects_found :
          ObjectPart sizes world phase' (at n (Some (record h { loaded = record { field = f; value = word } ∷ h.loaded })) grip) (at h.object (suc n) holder) header class field forward
      objects_found = keeps_handles (record h { loaded = record { field = f; value = word } ∷ h.loaded }) refl refl inside class field
          (part.classes h.object ∙ ap (λ g. shown_class (flight_of g) (class_or_zero world.heap h.object)) held_is)
          (λ g. part.fields h.object g ∙ ap (λ x. shown_field (flight_of x) g (word_or_zero world.heap h.object g)) held_is)
          (λ o other. refl) (λ o g other. refl) (λ quiet. quiet) (λ y flies. part.flying n h y is flies)
          (λ g x e. loaded_now (f == g) g x refl e)

    -- the word of what is in flight is written
    module _ (inside : phase' n ≡ Inside) (y : Flight) (flies : h.flight ≡ Some y) where
      abbrev over : Flight
      over = record y { written = true }

      abbrev pub written_hand : Held
      written_hand = record h { loaded = []; flight = Some (record y { written = true }) }

      no_old : (b : Bool) (x z : ℕ) → (if b && false then x else z) ≡ z
      no_old true x z = refl
      no_old false x z = refl

      class_shown : class h.object ≡ shown_class (Some y) (class_or_zero world.heap h.object)
      class_shown = part.classes h.object ∙ ap (λ g. shown_class (flight_of g) (class_or_zero world.heap h.object)) held_is ∙ ap (λ g. shown_class g (class_or_zero world.heap h.object)) flies

      field_shown : (g : ℕ) → field h.object g ≡ shown_field (Some y) g (word_or_zero world.heap h.object g)
      field_shown g = part.fields h.object g ∙ ap (λ x. shown_field (flight_of x) g (word_or_zero world.heap h.object g)) held_is
          ∙ ap (λ x. shown_field x g (word_or_zero world.heap h.object g)) flies

      flies_on : (z : Flight) → written_hand.flight ≡ Some z → IsFlying world h z
      flies_on z e = let same : over ≡ z = cc e in let old = part.flying n h y is flies in
          record { epoch = old.epoch; landed = subst (λ (w : Flight). HasLanded world.heap h.object w.event) same old.landed }

      -- a step that leaves the event, its old word and whether the word is written
      pub objects_reflown : (z : Flight) → z.event ≡ y.event → z.old ≡ y.old → z.written ≡ y.written
          → ObjectPart sizes world phase' (at n (Some (record h { flight = Some z })) grip) (at h.object (suc n) holder) header class field forward
      objects_reflown z event old written =
          keeps_handles (record h { flight = Some z }) refl refl inside class field
          (class_shown ∙ (λ i. if makes (sym event i) && not (sym written i) then 0 else class_or_zero world.heap h.object))
          (λ g. field_shown g ∙ (λ i. if sets_field (sym event i) g && not (sym written i) then sym old i else word_or_zero world.heap h.object g))
          (λ o other. refl) (λ o g other. refl) (λ none. absurd cc)
          (λ x e. let same : z ≡ x = cc e in let was = part.flying n h y is flies in record {
            epoch = was.epoch;
            landed = subst (λ (e : Event). HasLanded world.heap h.object e) (sym event ∙ ap (λ (x : Flight). x.event) same) was.landed;
          })
          (λ g x e. part.loaded n h is g x e)

      -- field store
      pub objects_stored :
          (f value : ℕ) → IsSetting y.event f value
          → ObjectPart sizes world phase' (at n (Some (record h { loaded = []; flight = Some (record y { written = true }) })) grip) (at h.object (suc n) holder) header class
          (at_field h.object f value field) forward
      objects_stored f value sets =
          let lands = set_landed world.heap h.object f value y.event sets (part.flying n h y is flies).landed in
          keeps_handles written_hand refl refl inside class (at_field h.object f value field)
          (class_shown ∙ rw (sets_makes f value y.event sets) refl)
          (λ g. dite (ℕ_discrete g f)
          (λ here. ap (at_field h.object f value field h.object) here ∙ field_here h.object f value field ∙ sym (ap (λ o. unwrap_or o 0) lands)
          ∙ ap (word_or_zero world.heap h.object) (sym here) ∙ sym (no_old (sets_field y.event g) y.old (word_or_zero world.heap h.object g)))
          (λ other. field_other h.object f value field h.object g other ∙ field_shown g
          ∙ rw (sets_this f value y.event sets g ∙ ne_eqb f g (λ e. other (sym e))) refl))
          (λ o other. refl) (λ o g other. field_elsewhere h.object f value field o g other) (λ none. absurd cc) flies_on (λ g x e. absurd cc)

      -- class store
      pub objects_classed :
          (c : ℕ) → IsMaking y.event c
          → ObjectPart sizes world phase' (at n (Some (record h { loaded = []; flight = Some (record y { written = true }) })) grip) (at h.object (suc n) holder) header
          (at h.object c class) field forward
      objects_classed c making =
          let lands = made_landed world.heap h.object c y.event making (part.flying n h y is flies).landed in
          keeps_handles written_hand refl refl inside (at h.object c class) field
          (at_here h.object c class ∙ sym (ap (λ o. unwrap_or o 0) lands) ∙ sym (no_old (makes y.event) 0 (class_or_zero world.heap h.object)))
          (λ g. field_shown g ∙ rw (making_sets c y.event making g) refl)
          (λ o other. at_else h.object c class o other) (λ o g other. refl) (λ none. absurd cc) flies_on (λ g x e. absurd cc)

-- what is in flight has its object in the heap
pub landed_there : (heap : Heap) (object : ℕ) (e : Event) → HasLanded heap object e → heap object ≡ None → ⊥
landed_there heap object (New m obj class) l none = absurd (let e : None ≡ Some class = sym (ap (λ (x : Option Object). option_map (λ (y : Object). y.class) x) none) ∙ l.1 in cc)
landed_there heap object (Load m obj field x) l none = absurd l
landed_there heap object (Store m obj field x) l none = absurd (let e : None ≡ Some x = sym (ap (λ (z : Option Object). word_of z field) none) ∙ l.1 in cc)
landed_there heap object (Cas m obj field expect x done) l none = absurd (let e : None ≡ Some x = sym (ap (λ (z : Option Object). word_of z field) none) ∙ l.2 in cc)
landed_there heap object (Launch m site number args) l none = absurd l
landed_there heap object (Retire m number) l none = absurd l

-- a forwarding word is written
pub objects_forwarded :
    (sizes : Sizes) (world : World) (phase : ℕ → Phase) (grip : ℕ → Option Held) (holder header class : ℕ → ℕ) (field forward forward' : ℕ → ℕ → ℕ)
    → ((object lane : ℕ) → world.heap object ≡ None → forward' object lane ≡ 0)
    → ObjectPart sizes world phase grip holder header class field forward
    → ObjectPart sizes world phase grip holder header class field forward'
objects_forwarded sizes world phase grip holder header class field forward forward' unmade part = record {
  only_inside = part.only_inside;
  named = part.named;
  headers = part.headers;
  stamps = part.stamps;
  classes = part.classes;
  fields = part.fields;
  flying = part.flying;
  loaded = part.loaded;
  stands = part.stands;
  unmade = unmade;
}
