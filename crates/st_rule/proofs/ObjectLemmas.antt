-- A step on one object: the hand of one number, the header, class and fields of one object, and what the events say of it. This one lemma serves
-- each kind of step on objects.
use Rattle.std.proofs.Common.{◌≡◌, ◌≢◌, ℕ, zero, suc, ◌<◌, ◌⊎◌, Option, Some, None, sym, refl, ap, subst}
use Rattle.std.proofs.Common.{◌∙◌, arith, ⊎_elim, inl, inr}
use Rattle.std.specs.Prelude.{IsSome}
use mathlib.Core.Logic.{◌↔◌, dite}
use native.Mathlib.Decide.{ℕ_discrete}
use Rattle.st_layout.specs.Packed.{packed}
use Rattle.st_events.specs.declared.events.Event.{Event}
use Rattle.st_events.specs.declared.events.Event.TheVariants.{New, Load, Store, Cas, Launch, Retire}
use Rattle.st_events.specs.declared.limits.Sizes.{Sizes}
use Rattle.st_events.specs.Heap.{Heap, Object, word_of, class_at}
use Rattle.st_events.specs.Legal.{next_object}
use Rattle.st_events.specs.World.{World, at}
use Rattle.st_rule.specs.declared.views.Flight.{Flight}
use Rattle.st_rule.specs.declared.views.Held.{Held}
use Rattle.st_rule.specs.declared.views.Phase.{Phase}
use Rattle.st_rule.specs.declared.views.Phase.TheVariants.{Inside}
use Rattle.st_rule.specs.Holding.{Holds, IsNext, HasLanded, holding, flight_of, shown_stamp, shown_class, shown_field, field_loaded, word_or_zero, class_or_zero}
use Rattle.st_rule.specs.Parts.{ObjectPart, IsFlying}
use Rattle.st_rule.specs.Rule.{flights_of}
use Rattle.st_rule.proofs.ViewLemmas.{at_here, at_else}

module _ (grip : ℕ → Option Held) (holder : ℕ → ℕ) (named : (k o : ℕ) → Holds (grip k) o ↔ (holder o ≡ suc k)) (n object : ℕ) (hand : Option Held)
    (was : (o : ℕ) → Holds (grip n) o → o ≡ object) where
  -- what is in flight elsewhere is as before
  flights_else : (low o : ℕ) → o ≢ object → flights_of (at n hand grip) (at object low holder) o ≡ flights_of grip holder o
  flights_else low o other = ap (λ j. flight_of (holding (at n hand grip) j)) (at_else object low holder o other) ∙ by_holder (holder o) refl
    where
      by_holder : (j : ℕ) → holder o ≡ j → flight_of (holding (at n hand grip) j) ≡ flight_of (holding grip j)
      by_holder zero names = refl
      by_holder (suc k) names = ap flight_of (at_else n hand grip k (λ same. other (was o ((named n o).1 (names ∙ ap suc same)))))

  -- the number holds the object afterwards
  pub flights_taken : (o : ℕ) → flights_of (at n hand grip) (at object (suc n) holder) o ≡ at object (flight_of hand) (flights_of grip holder) o
  flights_taken o = dite (ℕ_discrete o object)
      (λ here. ap (flights_of (at n hand grip) (at object (suc n) holder)) here ∙ ap (λ j. flight_of (holding (at n hand grip) j)) (at_here object (suc n) holder)
      ∙ ap flight_of (at_here n hand grip) ∙ sym (at_here object (flight_of hand) (flights_of grip holder)) ∙ ap (at object (flight_of hand) (flights_of grip holder)) (sym here))
      (λ other. flights_else (suc n) o other ∙ sym (at_else object (flight_of hand) (flights_of grip holder) o other))

  -- nobody holds it
  pub flights_given : (o : ℕ) → flights_of (at n hand grip) (at object 0 holder) o ≡ at object None (flights_of grip holder) o
  flights_given o = dite (ℕ_discrete o object)
      (λ here. ap (flights_of (at n hand grip) (at object 0 holder)) here ∙ ap (λ j. flight_of (holding (at n hand grip) j)) (at_here object 0 holder)
      ∙ sym (at_here object None (flights_of grip holder)) ∙ ap (at object None (flights_of grip holder)) (sym here))
      (λ other. flights_else 0 o other ∙ sym (at_else object None (flights_of grip holder) o other))

-- what events of number m on one object leave of the world: the heap and the stamps elsewhere, the epoch, what other numbers made
pub record LeavesElsewhere (before after : World) (m object : ℕ) : Type 0 where
  pub heap : (o : ℕ) → o ≢ object → after.heap o ≡ before.heap o
  pub stamp : (o : ℕ) → o ≢ object → after.stamp o ≡ before.stamp o
  pub epoch : after.epoch ≡ before.epoch
  pub made : (k : ℕ) → k ≢ m → after.made k ≡ before.made k
  pub none : (o : ℕ) → after.heap o ≡ None → before.heap o ≡ None

-- no event: nothing is left out
pub leaves_all : (w : World) (m object : ℕ) → LeavesElsewhere w w m object
leaves_all w m object = record { heap = λ o ne. refl; stamp = λ o ne. refl; epoch = refl; made = λ k ne. refl; none = λ o e. e }

-- an event that has landed has landed in each heap that has the same object there
pub landed_same : (heap heap' : Heap) (object : ℕ) (e : Event) → heap' object ≡ heap object → HasLanded heap object e → HasLanded heap' object e
landed_same heap heap' object (New m obj class) same l = (l.0, ap (λ (x : Option Object). class_at (λ _. x) object) same ∙ l.1)
landed_same heap heap' object (Load m obj field value) same l = l
landed_same heap heap' object (Store m obj field value) same l = (l.0, ap (λ (x : Option Object). word_of x field) same ∙ l.1)
landed_same heap heap' object (Cas m obj field expect value done) same l = (l.0, l.1, ap (λ (x : Option Object). word_of x field) same ∙ l.2)
landed_same heap heap' object (Launch m site number args) same l = l
landed_same heap heap' object (Retire m number) same l = l

-- where two heaps have the same at an object, it is there in both or in none
pub is_some_same : (x y : Option Object) → y ≡ x → IsSome x → IsSome y
is_some_same x y same some = subst (λ (z : Option Object). IsSome z) (sym same) some

-- what the new hand of the number shows, with the object's header, class and fields afterwards
pub record Handles (sizes : Sizes) (before after : World) (phase phase' : ℕ → Phase) (grip : ℕ → Option Held) (holder : ℕ → ℕ)
    (header header' class class' : ℕ → ℕ) (field field' : ℕ → ℕ → ℕ) (n object low : ℕ) (hand shown : Option Held) : Type 0 where
  -- the number held nothing but this object, which was free or its own
  pub was : (o : ℕ) → Holds (grip n) o → o ≡ object
  pub was_held : (holder object ≡ 0) ⊎ (holder object ≡ suc n)
  pub phases : (k : ℕ) → k ≢ n → phase' k ≡ phase k
  pub inside : (o : ℕ) → Holds hand o → phase' n ≡ Inside
  -- it holds nothing but this object afterwards, and then the header says so
  pub is : (o : ℕ) → Holds hand o → (o ≡ object) × (low ≡ suc n)
  pub held : low ≡ suc n → Holds hand object
  pub low_is : (low ≡ 0) ⊎ (low ≡ suc n)
  pub shown_is : holding (at n hand grip) low ≡ shown
  pub headers : header' object ≡ packed (shown_stamp shown (after.stamp object)) low
  pub classes : class' object ≡ shown_class (flight_of shown) (class_or_zero after.heap object)
  pub fields : (f : ℕ) → field' object f ≡ shown_field (flight_of shown) f (word_or_zero after.heap object f)
  pub headers_else : (o : ℕ) → o ≢ object → header' o ≡ header o
  pub classes_else : (o : ℕ) → o ≢ object → class' o ≡ class o
  pub fields_else : (o f : ℕ) → o ≢ object → field' o f ≡ field o f
  pub stamp : (h : Held) → hand ≡ Some h → h.flight ≡ None → h.stamp ≡ after.stamp h.object
  pub flying : (h : Held) (x : Flight) → hand ≡ Some h → h.flight ≡ Some x → IsFlying after h x
  pub loaded : (h : Held) → hand ≡ Some h → (f word : ℕ) → field_loaded h.loaded f ≡ Some word → field' h.object f ≡ word
  pub stands : (o : ℕ) → Holds hand o → IsSome (after.heap o) ⊎ IsNext sizes after n o

module _ (sizes : Sizes) (before after : World) (phase phase' : ℕ → Phase) (grip : ℕ → Option Held) (holder header header' class class' : ℕ → ℕ)
    (field field' forward : ℕ → ℕ → ℕ) (n object low : ℕ) (hand shown : Option Held)
    (part : ObjectPart sizes before phase grip holder header class field forward) (leaves : LeavesElsewhere before after n object)
    (does : Handles sizes before after phase phase' grip holder header header' class class' field field' n object low hand shown) where
  abbrev grip' : ℕ → Option Held
  grip' = at n hand grip

  abbrev holder' : ℕ → ℕ
  holder' = at object low holder

  grip_here : (k : ℕ) → k ≡ n → grip' k ≡ hand
  grip_here k same = ap grip' same ∙ at_here n hand grip

  grip_else : (k : ℕ) → k ≢ n → grip' k ≡ grip k
  grip_else k other = at_else n hand grip k other

  -- another number holds another object
  apart : (k o : ℕ) → k ≢ n → Holds (grip k) o → o ≢ object
  apart k o other holds same =
      let named : holder object ≡ suc k = ap holder (sym same) ∙ (part.named k o).0 holds in
      ⊎_elim (λ free. absurd (omega (arith, named, free))) (λ own. other (omega (arith, named, own))) does.was_held

  -- and what it holds it held before
  before_held : (k o : ℕ) → k ≢ n → Holds (grip' k) o → Holds (grip k) o
  before_held k o other holds = subst (λ g. Holds g o) (grip_else k other) holds

  named_after : (k o : ℕ) → Holds (grip' k) o ↔ (holder' o ≡ suc k)
  named_after k o = dite (ℕ_discrete k n)
      (λ same. (
        (λ holds.
            let i = does.is o (subst (λ g. Holds g o) (grip_here k same) holds) in
            ap holder' i.0 ∙ at_here object low holder ∙ i.1 ∙ ap suc (sym same)),
        (λ names. dite (ℕ_discrete o object)
            (λ here.
            let low_is : low ≡ suc n = sym (at_here object low holder) ∙ ap holder' (sym here) ∙ names ∙ ap suc same in
            subst (λ (p : Option Held × ℕ). Holds p.0 p.1) (λ i. (sym (grip_here k same) i, sym here i)) (does.held low_is))
            (λ apart'.
            let held : Holds (grip n) o = (part.named n o).1 (sym (at_else object low holder o apart') ∙ names ∙ ap suc same) in
            absurd (apart' (does.was o held)))),
      ))
      (λ other. (
        (λ holds.
            let old = before_held k o other holds in
            at_else object low holder o (apart k o other old) ∙ (part.named k o).0 old),
        (λ names. dite (ℕ_discrete o object)
            (λ here.
            let low_is : low ≡ suc k = sym (at_here object low holder) ∙ ap holder' (sym here) ∙ names in
            ⊎_elim (λ free. absurd (omega (arith, low_is, free))) (λ own. absurd (other (omega (arith, low_is, own)))) does.low_is)
            (λ apart'. subst (λ g. Holds g o) (sym (grip_else k other)) ((part.named k o).1 (sym (at_else object low holder o apart') ∙ names)))),
      ))

  holding_at : (o j : ℕ) → o ≢ object → holder o ≡ j → holding grip' j ≡ holding grip j
  holding_at o zero other names = refl
  holding_at o (suc k) other names = grip_else k (λ same. other (does.was o ((part.named n o).1 (names ∙ ap suc same))))

  -- who holds another object, and what, is as before
  holding_else : (o : ℕ) → o ≢ object → holding grip' (holder' o) ≡ holding grip (holder o)
  holding_else o other = ap (holding grip') (at_else object low holder o other) ∙ holding_at o (holder o) other refl

  holding_here : (o : ℕ) → o ≡ object → holding grip' (holder' o) ≡ shown
  holding_here o same = ap (λ i. holding grip' (holder' i)) same ∙ ap (holding grip') (at_here object low holder) ∙ does.shown_is

  -- what holds of each number's hand, by cases
  each_hand : (P : ℕ → Held → Type 0) → ((h : Held) → hand ≡ Some h → P n h) → ((k : ℕ) (h : Held) → k ≢ n → grip k ≡ Some h → P k h)
      → (k : ℕ) (h : Held) → grip' k ≡ Some h → P k h
  each_hand P here others k h is = dite (ℕ_discrete k n)
      (λ same. subst (λ i. P i h) (sym same) (here h (sym (grip_here k same) ∙ is)))
      (λ other. others k h other (sym (grip_else k other) ∙ is))

  held_by : (k : ℕ) (h : Held) → grip k ≡ Some h → Holds (grip k) h.object
  held_by k h is = record { held = h; is = is; object_is = refl }

  stands_after : (k o : ℕ) → Holds (grip' k) o → IsSome (after.heap o) ⊎ IsNext sizes after k o
  stands_after k o holds = dite (ℕ_discrete k n)
      (λ same. subst (λ i. IsSome (after.heap o) ⊎ IsNext sizes after i o) (sym same) (does.stands o (subst (λ g. Holds g o) (grip_here k same) holds)))
      (λ other.
      let old = before_held k o other holds in
      ⊎_elim (λ some. inl (is_some_same (before.heap o) (after.heap o) (leaves.heap o (apart k o other old)) some))
      (λ next. inr (record {
        object_is = next.object_is ∙ ap (λ (i : ℕ). next_object sizes (record before { made = λ _. i }) k) (sym (leaves.made k other));
        room = subst (λ i. i < sizes.objects) (sym (leaves.made k other)) next.room;
      }))
      (part.stands k o old))

  pub objects_after : ObjectPart sizes after phase' grip' holder' header' class' field' forward
  objects_after = record {
    only_inside = λ k o holds. dite (ℕ_discrete k n)
        (λ same. ap phase' same ∙ does.inside o (subst (λ g. Holds g o) (grip_here k same) holds))
        (λ other. does.phases k other ∙ part.only_inside k o (before_held k o other holds));
    named = named_after;
    headers = λ o. dite (ℕ_discrete o object)
        (λ here. ap header' here ∙ does.headers ∙ (λ i. packed (shown_stamp (sym (holding_here o here) i) (after.stamp (sym here i)))
        ((sym (at_here object low holder) ∙ ap holder' (sym here)) i)))
        (λ other. does.headers_else o other ∙ part.headers o
        ∙ (λ i. packed (shown_stamp (sym (holding_else o other) i) (sym (leaves.stamp o other) i)) (sym (at_else object low holder o other) i)));
    stamps = each_hand (λ k h. h.flight ≡ None → h.stamp ≡ after.stamp h.object) does.stamp
        (λ k h other is quiet. part.stamps k h is quiet ∙ sym (leaves.stamp h.object (apart k h.object other (held_by k h is))));
    classes = λ o. dite (ℕ_discrete o object)
        (λ here. ap class' here ∙ does.classes ∙ (λ i. shown_class (flight_of (sym (holding_here o here) i)) (class_or_zero after.heap (sym here i))))
        (λ other. does.classes_else o other ∙ part.classes o
        ∙ (λ i. shown_class (flight_of (sym (holding_else o other) i)) (class_or_zero (λ _. sym (leaves.heap o other) i) o)));
    fields = λ o f. dite (ℕ_discrete o object)
        (λ here. ap (λ j. field' j f) here ∙ does.fields f ∙ (λ i. shown_field (flight_of (sym (holding_here o here) i)) f (word_or_zero after.heap (sym here i) f)))
        (λ other. does.fields_else o f other ∙ part.fields o f
        ∙ (λ i. shown_field (flight_of (sym (holding_else o other) i)) f (word_or_zero (λ _. sym (leaves.heap o other) i) o f)));
    flying = λ k h x is. each_hand (λ k h. (x : Flight) → h.flight ≡ Some x → IsFlying after h x) (λ h is x. does.flying h x is)
        (λ k h other is x flies.
        let old = part.flying k h x is flies in
        let ne = apart k h.object other (held_by k h is) in
        record { epoch = leaves.stamp h.object ne ∙ old.epoch ∙ sym leaves.epoch; landed = landed_same before.heap after.heap h.object x.event (leaves.heap h.object ne) old.landed })
        k h is x;
    loaded = each_hand (λ k h. (f word : ℕ) → field_loaded h.loaded f ≡ Some word → field' h.object f ≡ word) does.loaded
        (λ k h other is f word found. does.fields_else h.object f (apart k h.object other (held_by k h is)) ∙ part.loaded k h is f word found);
    stands = stands_after;
    unmade = λ o l none. part.unmade o l (leaves.none o none);
  }

-- a step that changes the phase of one number alone
pub objects_turned :
    (sizes : Sizes) (world : World) (phase phase' : ℕ → Phase) (grip : ℕ → Option Held) (holder header class : ℕ → ℕ) (field forward : ℕ → ℕ → ℕ)
    → ((n object : ℕ) → Holds (grip n) object → phase' n ≡ phase n ⊎ (phase' n ≡ Inside))
    → ObjectPart sizes world phase grip holder header class field forward
    → ObjectPart sizes world phase' grip holder header class field forward
objects_turned sizes world phase phase' grip holder header class field forward turns part = record {
  only_inside = λ n o holds. ⊎_elim (λ same. same ∙ part.only_inside n o holds) (λ inside. inside) (turns n o holds);
  named = part.named;
  headers = part.headers;
  stamps = part.stamps;
  classes = part.classes;
  fields = part.fields;
  flying = part.flying;
  loaded = part.loaded;
  stands = part.stands;
  unmade = part.unmade;
}
