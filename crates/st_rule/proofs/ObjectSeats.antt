-- From what a step on an object tells its seat to what contracts say of it, and what the seat's struct keeps.
use Rattle.std.proofs.Common.{◌≡◌, ℕ, ◌+◌, ◌-◌, ◌<◌, ◌≤◌, ◌==◌, nat_lt, Bool, true, false, if◌then◌else◌, List, []}
use Rattle.std.proofs.Common.{◌∷◌, ◌++◌, length, filter}
use Rattle.std.proofs.Common.{Option, Some, None, sym, refl, ap, subst, ◌∙◌, arith, length-append}
use Rattle.std.proofs.lemmas.Bool.Decides.{nat_tests}
use Rattle.std.proofs.lemmas.List.Elements.{filter-append}
use mathlib.Core.List.{IsPrefix}
use Rattle.atomic_table.specs.Table.{State, Allows}
use Rattle.st_layout.specs.declared.plans.Plan.{Plan}
use Rattle.st_layout.specs.Names.{HeaderWord, FieldWord, ForwardWord, cells_of}
use Rattle.st_layout.specs.Layout.{word_of}
use Rattle.st_layout.specs.Packed.{packed, high_half}
use Rattle.st_events.specs.declared.events.Event.{Event}
use Rattle.st_events.specs.declared.events.Event.TheVariants.{New, Load, Store, Cas, Launch, Retire}
use Rattle.st_events.specs.History.{is_new}
use Rattle.st_events.specs.Legal.{IsLegal}
use Rattle.st_rule.specs.declared.views.Entry.{Entry}
use Rattle.st_rule.specs.declared.views.Held.{Held}
use Rattle.st_rule.specs.declared.views.MutView.{MutView}
use Rattle.st_rule.specs.declared.views.View.{View}
use Rattle.st_rule.specs.declared.views.View.TheVariants.{Mut}
use Rattle.st_rule.specs.Board.{plan_of}
use Rattle.st_rule.specs.Draws.{MayDraw, HasInHand, Suits, IsNextOf, drew, drawn_hand, left_in_flight}
use Rattle.st_rule.specs.Entries.{own_entries, charge_of, news_of, news_among, charge_spent, objects_made, whole_charge, whole_region}
use Rattle.st_rule.specs.Plays.{Seated, Becomes, Learns, LoadsBoard, FindsBoard, IsBoardWord, Locks, LocksWhere, FindsField, StoresForward, FindsLock, Draws, FindsAndDraws}
use Rattle.st_rule.specs.SeatValue.{IsFairView, KeepsSeat}
use Rattle.st_rule.specs.Turns.{looked_last, board_loaded, locked, locked_at, unlocked, field_found, word_written, copy_stored, forwarded, with_field, with_written, with_built}
use Rattle.st_rule.specs.Turns.{with_forward, object_of_header, field_of_word, lane_of_word}
use Rattle.st_rule.specs.Views.{mutator_of}
use Rattle.st_rule.specs.Needs.{HasFlight, needing_lanes}
use Rattle.st_events.specs.Heap.{Heap}
use Rattle.st_rule.proofs.DrawEvents.{suits_own}
use Rattle.st_rule.proofs.EntryLemmas.{entry, own_more, charge_more}
use Rattle.st_rule.proofs.SeatLemmas.{Steady, fair_after, held_same, seat_kept, kept_with}
use Rattle.st_rule.proofs.ViewLemmas.{mut_is}

-- ---- which word it is

header_tells : (plan : Plan) (object place : ℕ) → place ≡ word_of plan (HeaderWord object) → object_of_header plan place ≡ object
unfolding word_of
header_tells plan object place is = omega (arith, is)

field_tells : (plan : Plan) (object field place : ℕ) → place ≡ word_of plan (FieldWord object field) → field_of_word plan object place ≡ field
unfolding word_of
field_tells plan object field place is = omega (arith, is)

lane_tells : (plan : Plan) (object lane place : ℕ) → place ≡ word_of plan (ForwardWord object lane) → lane_of_word plan object place ≡ lane
unfolding word_of
lane_tells plan object lane place is = omega (arith, is)

-- what a step may tell more
pub allows_more :
    (holds : State Unit View → Type 0) (slots id : ℕ) (me : Seated) (i : ℕ) (f : ℕ → ℕ) (P Q : ℕ → Seated → Type 0)
    → ((x : ℕ) (after : Seated) → P x after → Q x after)
    → Allows holds slots id me i f P → Allows holds slots id me i f Q
allows_more holds slots id me i f P Q more allows s sound wide at_id found = let r = allows s sound wide at_id found in (r.0, r.1, r.2, r.3, more _ _ r.4)

-- a lock of this object is a lock of the object whose header the word's number names
pub locks_where :
    (object stamp old place word : ℕ) (me after : Seated) (v : MutView) → me.0 ≡ Mut v
    → place ≡ word_of (plan_of v.terms.sizes) (HeaderWord object) → high_half old ≡ stamp
    → Locks object stamp me word after → LocksWhere place (high_half old) me word after
locks_where object stamp old place word me after v is is_place is_old locks = record {
  locks = λ u e. subst (λ (x : ℕ × ℕ). Locks x.0 x.1 me word after)
      (λ i. (
        sym (header_tells (plan_of u.terms.sizes) object place (is_place
            ∙ ap (λ (x : MutView). word_of (plan_of x.terms.sizes) (HeaderWord object)) (mut_is v u (sym is ∙ e)))) i,
        sym is_old i,
      ))
      locks;
}

-- and the other way round
pub where_locks :
    (object stamp old place word : ℕ) (me after : Seated) (v : MutView) → me.0 ≡ Mut v
    → place ≡ word_of (plan_of v.terms.sizes) (HeaderWord object) → high_half old ≡ stamp
    → LocksWhere place (high_half old) me word after → Locks object stamp me word after
where_locks object stamp old place word me after v is is_place is_old locks =
    subst (λ (x : ℕ × ℕ). Locks x.0 x.1 me word after) (λ i. (header_tells (plan_of v.terms.sizes) object place is_place i, is_old i)) (locks.locks v is)

some_one : (h x : Held) → Some h ≡ Some x → h ≡ x
some_one h x e = cc

-- a load of this field of the held object is a load of the field that the word's number names
pub finds_field :
    (field place word : ℕ) (me after : Seated) (v : MutView) (h : Held) → me.0 ≡ Mut v → v.held ≡ Some h
    → place ≡ word_of (plan_of v.terms.sizes) (FieldWord h.object field)
    → Becomes (field_found field) me word after → FindsField place me word after
finds_field field place word me after v h is held is_place becomes = record {
  finds = λ u x e held'. subst (λ f. Becomes (field_found f) me word after)
      (let same = mut_is v u (sym is ∙ e) in
      let hand : h ≡ x = some_one h x (sym held ∙ ap (λ (y : MutView). y.held) same ∙ held') in
      sym (field_tells (plan_of u.terms.sizes) x.object field place
      (is_place ∙ (λ i. word_of (plan_of (same i).terms.sizes) (FieldWord (hand i).object field)))))
      becomes;
}

-- and the other way round
pub field_finds :
    (field place word : ℕ) (me after : Seated) (v : MutView) (h : Held) → me.0 ≡ Mut v → v.held ≡ Some h
    → place ≡ word_of (plan_of v.terms.sizes) (FieldWord h.object field)
    → FindsField place me word after → Becomes (field_found field) me word after
field_finds field place word me after v h is held is_place finds =
    subst (λ f. Becomes (field_found f) me word after) (field_tells (plan_of v.terms.sizes) h.object field place is_place) (finds.finds v h is held)

-- a store of this lane's forwarding word at the held object is a store of the one that the word's number names
pub stores_forward :
    (lane place word : ℕ) (me after : Seated) (v : MutView) (h : Held) → me.0 ≡ Mut v → v.held ≡ Some h
    → place ≡ word_of (plan_of v.terms.sizes) (ForwardWord h.object lane)
    → Becomes (λ _ u. forwarded lane u) me word after → StoresForward place me word after
stores_forward lane place word me after v h is held is_place becomes = record {
  stores = λ u x e held'. subst (λ l. Becomes (λ _ u. forwarded l u) me word after)
      (let same = mut_is v u (sym is ∙ e) in
      let hand : h ≡ x = some_one h x (sym held ∙ ap (λ (y : MutView). y.held) same ∙ held') in
      sym (lane_tells (plan_of u.terms.sizes) x.object lane place
      (is_place ∙ (λ i. word_of (plan_of (same i).terms.sizes) (ForwardWord (hand i).object lane)))))
      becomes;
}

-- and the other way round
pub forward_stores :
    (lane place word : ℕ) (me after : Seated) (v : MutView) (h : Held) → me.0 ≡ Mut v → v.held ≡ Some h
    → place ≡ word_of (plan_of v.terms.sizes) (ForwardWord h.object lane)
    → StoresForward place me word after → Becomes (λ _ u. forwarded lane u) me word after
forward_stores lane place word me after v h is held is_place stores =
    subst (λ l. Becomes (λ _ u. forwarded l u) me word after) (lane_tells (plan_of v.terms.sizes) h.object lane place is_place) (stores.stores v h is held)

-- ---- what the hand holds is within the table

lock_hand : (b : Bool) (object stamp word count : ℕ) (v : MutView) → object < count → ((h : Held) → v.held ≡ Some h → h.object < count)
    → (h : Held) → (locked_at b object stamp word v).held ≡ Some h → h.object < count
lock_hand true object stamp word count v within old h e =
    subst (λ (x : Held). x.object < count) (some_one (record { object = object; stamp = stamp; loaded = []; flight = None }) h e) within
lock_hand false object stamp word count v within old h e = old h e

field_hand : (field word count : ℕ) (hand : Option Held) → ((h : Held) → hand ≡ Some h → h.object < count) → (h : Held) → with_field field word hand ≡ Some h → h.object < count
field_hand field word count None old h e = absurd cc
field_hand field word count (Some x) old h e = subst (λ (y : Held). y.object < count) (some_one (record x { loaded = record { field = field; value = word } ∷ x.loaded }) h e) (old x refl)

written_hand : (count : ℕ) (hand : Option Held) → ((h : Held) → hand ≡ Some h → h.object < count) → (h : Held) → with_written hand ≡ Some h → h.object < count
written_hand count None old h e = absurd cc
written_hand count (Some x) old h e = let s = some_one (record x { loaded = []; flight = _ }) h e in subst (λ (k : ℕ). k < count) (ap (λ (y : Held). y.object) s) (old x refl)

flown_hand :
    (v : MutView) (heap : Heap) (index : ℕ) (event : Event) (count : ℕ) (hand : Option Held)
    → ((h : Held) → hand ≡ Some h → h.object < count) → (h : Held) → drawn_hand v heap index event hand ≡ Some h → h.object < count
flown_hand v heap index event count None old h e = absurd cc
flown_hand v heap index event count (Some x) old h e =
    subst (λ (y : Held). y.object < count) (some_one (record x { flight = left_in_flight heap (needing_lanes v x) index event }) h e) (old x refl)

built_hand : (count : ℕ) (hand : Option Held) → ((h : Held) → hand ≡ Some h → h.object < count) → (h : Held) → with_built hand ≡ Some h → h.object < count
built_hand count None old h e = absurd cc
built_hand count (Some x) old h e = let s = some_one (record x { flight = _ }) h e in subst (λ (k : ℕ). k < count) (ap (λ (y : Held). y.object) s) (old x refl)

forward_hand : (lane count : ℕ) (hand : Option Held) → ((h : Held) → hand ≡ Some h → h.object < count) → (h : Held) → with_forward lane hand ≡ Some h → h.object < count
forward_hand lane count None old h e = absurd cc
forward_hand lane count (Some x) old h e = let s = some_one (record x { flight = _ }) h e in subst (λ (k : ℕ). k < count) (ap (λ (y : Held). y.object) s) (old x refl)

-- what a seat has in hand has a cell
pub hand_within : (v : MutView) (object : ℕ) → IsFairView v → HasInHand v object → object < cells_of (plan_of v.terms.sizes)
hand_within v object fair has = subst (λ k. k < cells_of (plan_of v.terms.sizes)) (sym has.object_is) (fair.held_within has.hand has.held)

-- an object with something in flight is one of the table's
pub flight_within : (v : MutView) (object : ℕ) → IsFairView v → (has : HasFlight v) → object ≡ has.hand.object → object < cells_of (plan_of v.terms.sizes)
flight_within v object fair has is = subst (λ k. k < cells_of (plan_of v.terms.sizes)) (sym is) (fair.held_within has.hand has.held)

-- ---- what the seat's struct keeps

module _ {before : Seated} {number spare room capacity : ℕ} {entries : List Entry} (keeps : KeepsSeat before number spare room entries capacity) where
  abbrev v : MutView
  v = mutator_of before.0

  is : before.0 ≡ Mut v
  is = ap (λ m. m.0) keeps.mutator

  steady : (w : MutView) → w.terms ≡ v.terms → w.gate ≡ v.gate → w.journal.entries ≡ v.journal.entries → Steady v w
  steady w terms gate entries' = record { terms = terms; number = ap (λ g. g.number) gate; entries = entries' }

  module _ {after : Seated} where
    pub lock_kept : (object stamp word : ℕ) → object < cells_of (plan_of v.terms.sizes) → Locks object stamp before word after → KeepsSeat after number spare room entries capacity
    lock_kept object stamp word within locks = kept_with keeps (locked object stamp) word locks.becomes (steady (locked object stamp word v) refl refl refl) refl
        (lock_hand (word == packed stamp 0) object stamp word (cells_of (plan_of v.terms.sizes)) v within keeps.fair.held_within)

    pub unlock_kept : (word : ℕ) → Becomes (λ _ u. unlocked u) before word after → KeepsSeat after number spare room entries capacity
    unlock_kept word becomes = kept_with keeps (λ _ u. unlocked u) word becomes (steady (unlocked v) refl refl refl) refl (λ h e. absurd cc)

    pub found_kept : (field word : ℕ) → Becomes (field_found field) before word after → KeepsSeat after number spare room entries capacity
    found_kept field word becomes = kept_with keeps (field_found field) word becomes (steady (field_found field word v) refl refl refl) refl
        (field_hand field word (cells_of (plan_of v.terms.sizes)) v.held keeps.fair.held_within)

    pub written_kept : (word : ℕ) → Becomes (λ _ u. word_written u) before word after → KeepsSeat after number spare room entries capacity
    written_kept word becomes = kept_with keeps (λ _ u. word_written u) word becomes (steady (word_written v) refl refl refl) refl
        (written_hand (cells_of (plan_of v.terms.sizes)) v.held keeps.fair.held_within)

    pub built_kept : (word : ℕ) → Becomes (λ _ u. copy_stored u) before word after → KeepsSeat after number spare room entries capacity
    built_kept word becomes = kept_with keeps (λ _ u. copy_stored u) word becomes (steady (copy_stored v) refl refl refl) refl
        (built_hand (cells_of (plan_of v.terms.sizes)) v.held keeps.fair.held_within)

    pub forwarded_kept : (lane word : ℕ) → Becomes (λ _ u. forwarded lane u) before word after → KeepsSeat after number spare room entries capacity
    forwarded_kept lane word becomes = kept_with keeps (λ _ u. forwarded lane u) word becomes (steady (forwarded lane v) refl refl refl) refl
        (forward_hand lane (cells_of (plan_of v.terms.sizes)) v.held keeps.fair.held_within)

    pub last_kept : (word : ℕ) → Learns looked_last before word after → KeepsSeat after number spare room entries capacity
    last_kept word learns =
        let w = looked_last word learns.seen v in
        let stays = steady w refl refl refl in
        seat_kept keeps w (learns.view v is) learns.slots stays
        (fair_after v w stays keeps.fair (learns.legal v is) (learns.own v is) (held_same v w refl keeps.fair))

    -- board load, as contracts see it
    pub board_found : (place word : ℕ) → LoadsBoard place before word after → (old : MutView) → v ≡ old → FindsBoard place old (mutator_of after.0)
    board_found place word loads old same = record {
      word = word;
      view = ap mutator_of (loads.becomes.view v is) ∙ ap (board_loaded place word) same;
      fits = subst (λ (x : MutView). IsBoardWord x.terms.sizes place word) same (loads.fits v is);
    }

    -- lock, as contracts see it
    pub lock_found : (object stamp word : ℕ) → Locks object stamp before word after → (old : MutView) → v ≡ old → FindsLock object stamp old (mutator_of after.0)
    lock_found object stamp word locks old same = record {
      finds = record { word = word; view = ap mutator_of (locks.becomes.view v is) ∙ ap (locked object stamp word) same };
      fresh = λ next. ap (λ x. (mutator_of x).tally.found) (locks.becomes.view v is) ∙ ap Some (locks.fresh v is (subst (λ (x : MutView). IsNextOf x object) (sym same) next));
    }

    -- a draw, as contracts see it
    pub draw_found : (event : Event) (word : ℕ) → Draws event before word after → (old : MutView) → v ≡ old → FindsAndDraws event old (mutator_of after.0)
    draw_found event word draws old same = record {
      finds = record {
        word = word;
        seen = draws.learns.seen;
        view = ap mutator_of (draws.learns.view v is) ∙ ap (drew event word draws.learns.seen) same;
        goes_on = subst (λ (u : MutView). IsPrefix u.journal.seen draws.learns.seen) same (draws.learns.goes_on v is);
        legal = subst (λ (u : MutView). IsLegal u.terms.shape u.terms.sizes draws.learns.seen) same (draws.learns.legal v is);
        own = subst (λ (u : MutView). own_entries u.gate.number 0 draws.learns.seen ≡ u.journal.entries) same (draws.learns.own v is);
      };
      legal = subst (λ (u : MutView). IsLegal u.terms.shape u.terms.sizes (draws.learns.seen ++ event ∷ [])) same (draws.legal v is);
      ticket = draws.ticket;
    }

    module _ (event : Event) (copy : Bool) (may : MayDraw v event copy) (word : ℕ) (draws : Draws event before word after) where
      abbrev w : MutView
      w = drew event word draws.learns.seen v

      is_mutator : nat_lt v.gate.number v.terms.sizes.mutators ≡ true
      is_mutator = let lt = may.mutator in grind (arith, nat_tests)

      pub drawn_fair : IsFairView w
      drawn_fair = record {
        within = keeps.fair.within;
        shape_fits = keeps.fair.shape_fits;
        sizes_fit = keeps.fair.sizes_fit;
        legal = draws.legal v is;
        own = own_more v.gate.number draws.learns.seen event (suits_own v may.hand event may.suits)
            ∙ (λ i. draws.learns.own v is i ++ entry (sym draws.ticket i) event ∷ []);
        held_within = flown_hand v _ _ event (cells_of (plan_of v.terms.sizes)) v.held keeps.fair.held_within;
      }

      charge_left : spare + charge_spent v ≡ v.terms.sizes.events
      charge_left = keeps.spare_is ∙ ap (λ b. if b then v.terms.sizes.events else 0) is_mutator

      room_left : room + objects_made v ≡ v.terms.sizes.objects
      room_left = keeps.room_is ∙ ap (λ b. if b then v.terms.sizes.objects else 0) is_mutator

      -- a draw costs one of the charge
      cost_is : (e : Event) → Suits v may.hand e → charge_of e ≡ 1
      cost_is (New m obj class) s = refl
      cost_is (Load m obj field value) s = refl
      cost_is (Store m obj field value) s = refl
      cost_is (Cas m obj field expect value done) s = refl
      cost_is (Launch m site n args) s = absurd s
      cost_is (Retire m n) s = absurd s

      pub some_spare : 1 ≤ spare
      some_spare = omega (arith, charge_left, may.charge, cost_is event may.suits)

      room_for : (e : Event) → Suits v may.hand e → news_of e ≤ room
      room_for (New m obj class) s = omega (arith, room_left, s.2.next.room)
      room_for (Load m obj field value) s = omega arith
      room_for (Store m obj field value) s = omega arith
      room_for (Cas m obj field expect value done) s = omega arith
      room_for (Launch m site n args) s = absurd s
      room_for (Retire m n) s = absurd s

      pub some_room : news_of event ≤ room
      some_room = room_for event may.suits

      news_more : (es : List Entry) (ticket : ℕ) → news_among (es ++ entry ticket event ∷ []) ≡ news_among es + news_of event
      news_more es ticket =
          ap length (filter-append (λ (e : Entry). is_new e.event) es (entry ticket event ∷ []))
          ∙ length-append (filter (λ (e : Entry). is_new e.event) es) (filter (λ (e : Entry). is_new e.event) (entry ticket event ∷ []))
          ∙ ap (λ k. news_among es + k) (one (is_new event))
        where
          one : (b : Bool) → length (if b then entry ticket event ∷ [] else []) ≡ (if b then 1 else 0)
          one true = refl
          one false = refl

      pub drawn_kept : (entries' : List Entry) → entries' ≡ entries ++ entry (high_half word) event ∷ [] → KeepsSeat after number (spare - 1) (room - news_of event) entries' capacity
      drawn_kept entries' is_entries =
          let same : w ≡ mutator_of after.0 = sym (ap mutator_of (draws.learns.view v is)) in
          let listed : entries' ≡ w.journal.entries = is_entries ∙ ap (λ es. es ++ entry (high_half word) event ∷ []) keeps.entries_are in
          record {
            mutator = λ k. ((draws.learns.view v is ∙ ap Mut same) k, (draws.learns.slots ∙ ap (λ m. m.1) keeps.mutator) k);
            fair = subst IsFairView same drawn_fair;
            number_is = keeps.number_is ∙ ap (λ (u : MutView). u.gate.number) same;
            entries_are = listed ∙ ap (λ (u : MutView). u.journal.entries) same;
            reserved =
                let count = ap length is_entries ∙ length-append entries (entry (high_half word) event ∷ []) in
                omega (arith, count, keeps.reserved, some_spare);
            spare_is = subst (λ (u : MutView). (spare - 1) + charge_spent u ≡ whole_charge u.terms.sizes u.gate.number) same
                (let more = charge_more v.journal.entries (high_half word) event in
                let left : (spare - 1) + charge_spent w ≡ spare + charge_spent v = omega (arith, more, some_spare, cost_is event may.suits) in
                left ∙ keeps.spare_is);
            room_is = subst (λ (u : MutView). (room - news_of event) + objects_made u ≡ whole_region u.terms.sizes u.gate.number) same
                (let more = news_more v.journal.entries (high_half word) in
                let left : (room - news_of event) + objects_made w ≡ room + objects_made v = omega (arith, more, some_room) in
                left ∙ keeps.room_is);
          }
