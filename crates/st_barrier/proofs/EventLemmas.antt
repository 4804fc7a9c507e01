-- A draw with what follows it is one event; what a seat may draw before a call it may draw once it holds the object.
use Rattle.std.proofs.Common.{◌≡◌, ℕ, ◌+◌, ◌<◌, ◌≤◌, ◌==◌, Bool, true, false, if◌then◌else◌, List, [], ◌∷◌, ◌++◌, length, Some}
use Rattle.std.proofs.Common.{Option, None, sym, refl, ap, subst, ◌∙◌, eq-eqb}
use Rattle.std.specs.Prelude.{IsSome}
use mathlib.Core.List.{IsPrefix}
use Rattle.st_layout.specs.declared.limits.TheConstants.{MOST_FIELDS}
use Rattle.st_layout.specs.Layout.{word_of}
use Rattle.st_layout.specs.Names.{EpochWord}
use Rattle.st_layout.specs.Packed.{low_half}
use Rattle.st_events.specs.declared.events.Event.{Event}
use Rattle.st_events.specs.declared.events.Event.TheVariants.{New, Load, Store, Cas, Launch, Retire}
use Rattle.st_events.specs.Heap.{Heap, word_at}
use Rattle.st_events.specs.History.{heap_after}
use Rattle.st_events.specs.Legal.{IsLegal, fits_cell}
use Rattle.st_events.specs.World.{world_after}
use Rattle.st_events.proofs.LegalLemmas.{each_is_legal}
use Rattle.st_events.proofs.LegalEvents.{legal_load, legal_cas}
use Rattle.st_rule.specs.declared.views.Flight.{Flight}
use Rattle.st_rule.specs.declared.views.GateView.{GateView}
use Rattle.st_rule.specs.declared.views.Held.{Held}
use Rattle.st_rule.specs.declared.views.JournalView.{JournalView}
use Rattle.st_rule.specs.declared.views.LoadedField.{LoadedField}
use Rattle.st_rule.specs.declared.views.MutView.{MutView}
use Rattle.st_rule.specs.declared.views.Phase.TheVariants.{Inside}
use Rattle.st_rule.specs.declared.views.Terms.{Terms}
use Rattle.st_rule.specs.Board.{plan_of}
use Rattle.st_rule.specs.Draws.{MayDraw, MayUnlock, HasInHand, AwaitsField, AwaitsClass, Suits, IsNextOf, heap_seen, drawn_hand, left_in_flight}
use Rattle.st_rule.specs.Draws.{fresh_change, fresh_new}
use Rattle.st_rule.specs.Needs.{KnowsNeed, needing_lanes, is_change, is_any, takes_copy, index_for}
use Rattle.st_rule.specs.Entries.{charge_of, charge_of_all, charge_spent, objects_made, next_of}
use Rattle.st_rule.specs.Holding.{IsSetting, IsMaking, field_loaded, word_loaded, word_or_zero}
use Rattle.st_rule.specs.Plays.{FindsAndDraws}
use Rattle.st_rule.specs.SeatValue.{SeatValue}
use Rattle.st_rule.specs.Seats.{IsSameSeat}
use Rattle.st_rule.specs.Turns.{unlocked, word_written, with_written, landed}
use Rattle.st_rule.proofs.EntryLemmas.{entry, charge_more}
use Rattle.st_barrier.specs.Calls.{MayCall, HasCell, FitsCell, MakesEvent, Loads, Compares}
use Rattle.st_barrier.specs.Hands.{StaysAs, HasLoadedFields, HoldsQuietly, HasEpoch, IsPlain, KeepsEpoch, OwesHeader}
use Rattle.st_barrier.specs.Keeping.{HasFound, HasFields, MayChange, Flies, event_of_change, quiet_hand, awaiting_of}
use Rattle.st_barrier.proofs.HandLemmas.{stays_self, stays_by, heap_same}

-- an event that sets a field leaves itself in flight
pub setting_flies :
    (h : Heap) (lanes : List ℕ) (index : ℕ) (e : Event) (f word : ℕ) → IsSetting e f word
    → (old : ℕ) × (left_in_flight h lanes index e ≡ Some (fresh_change e old lanes index))
setting_flies h lanes index (New m obj class) f word s = absurd s
setting_flies h lanes index (Load m obj field value) f word s = absurd s
setting_flies h lanes index (Store m obj field value) f word s = (word_or_zero h obj field, refl)
setting_flies h lanes index (Cas m obj field expect value true) f word s = (word_or_zero h obj field, refl)
setting_flies h lanes index (Cas m obj field expect value false) f word s = absurd (let e : false ≡ true = s.2 in cc)
setting_flies h lanes index (Launch m site number args) f word s = absurd s
setting_flies h lanes index (Retire m number) f word s = absurd s

-- and changes a field
pub setting_changes : (e : Event) (f word : ℕ) → IsSetting e f word → is_change e ≡ true
setting_changes (New m obj class) f word s = absurd s
setting_changes (Load m obj field value) f word s = absurd s
setting_changes (Store m obj field value) f word s = refl
setting_changes (Cas m obj field expect value done) f word s = s.2
setting_changes (Launch m site number args) f word s = absurd s
setting_changes (Retire m number) f word s = absurd s

-- a New that is drawn is in flight
pub making_flies : (h : Heap) (lanes : List ℕ) (index : ℕ) (e : Event) (c : ℕ) → IsMaking e c → left_in_flight h lanes index e ≡ Some (fresh_new e)
making_flies h lanes index (New m obj class) c s = refl
making_flies h lanes index (Load m obj field value) c s = absurd s
making_flies h lanes index (Store m obj field value) c s = absurd s
making_flies h lanes index (Cas m obj field expect value done) c s = absurd s
making_flies h lanes index (Launch m site number args) c s = absurd s
making_flies h lanes index (Retire m number) c s = absurd s

-- one that makes an object changes none
pub making_changes_none : (e : Event) (c : ℕ) → IsMaking e c → is_change e ≡ false
making_changes_none (New m obj class) c s = refl
making_changes_none (Load m obj field value) c s = absurd s
making_changes_none (Store m obj field value) c s = absurd s
making_changes_none (Cas m obj field expect value done) c s = absurd s
making_changes_none (Launch m site number args) c s = absurd s
making_changes_none (Retire m number) c s = absurd s

-- what changes nothing takes no copy, and asks for no check
takes_none : (e : Event) (lanes : List ℕ) → is_change e ≡ false → false ≡ takes_copy e lanes
takes_none e lanes still = ap (λ b. if b then is_any lanes else false) (sym still)

asks_none : (e : Event) (v : MutView) (h : Held) → is_change e ≡ false → is_change e ≡ true → KnowsNeed v h
asks_none e v h still moves = absurd (let e : false ≡ true = sym still ∙ moves in cc)

-- ---- one event

cost_is : (v : MutView) (h : Held) (e : Event) → Suits v h e → charge_of e ≡ 1
cost_is v h (New m obj class) s = refl
cost_is v h (Load m obj field value) s = refl
cost_is v h (Store m obj field value) s = refl
cost_is v h (Cas m obj field expect value done) s = refl
cost_is v h (Launch m site n args) s = absurd s
cost_is v h (Retire m n) s = absurd s

module _ (before mid : SeatValue) (event : Event) (copy : Bool) (may : MayDraw before.view event copy) (same : IsSameSeat before mid)
    (draws : FindsAndDraws event before.view mid.view) where
  -- the draw, and then what leaves the list and the entries
  pub event_made : (after : SeatValue) → StaysAs mid after → MakesEvent event before after
  event_made after stays =
      let view = draws.finds.view in
      let terms : after.view.terms ≡ before.view.terms = stays.terms ∙ ap (λ (v : MutView). v.terms) view in
      let entries : after.view.journal.entries ≡ before.view.journal.entries ++ entry (length draws.finds.seen) event ∷ [] =
      ap (λ (j : JournalView). j.entries) stays.journal ∙ ap (λ (v : MutView). v.journal.entries) view
      ∙ ap (λ t. before.view.journal.entries ++ entry t event ∷ []) draws.ticket in
      record {
        past = draws.finds.seen;
        goes_on = draws.finds.goes_on;
        seen = ap (λ (j : JournalView). j.seen) stays.journal ∙ ap (λ (v : MutView). v.journal.seen) view;
        legal = subst (λ (t : Terms). IsLegal t.shape t.sizes (draws.finds.seen ++ event ∷ [])) (sym terms) draws.legal;
        entries = entries;
        spare = ap charge_of_all entries ∙ charge_more before.view.journal.entries (length draws.finds.seen) event
            ∙ ap (λ k. charge_spent before.view + k) (cost_is before.view may.hand event may.suits);
        terms = terms;
        gate = stays.gate ∙ ap (λ (v : MutView). v.gate) view;
        hands = stays.hands ∙ ap (λ (v : MutView). v.hands) view;
        table = stays.table ∙ same.table;
        id = stays.id ∙ same.id;
      }

  -- the draw alone
  pub draw_made : MakesEvent event before mid
  draw_made = event_made mid (stays_self mid)

  pub draw_keeps_epoch : KeepsEpoch before mid
  draw_keeps_epoch epoch known =
      (λ i. word_loaded (ap (λ (v : MutView). v.board) draws.finds.view i).loaded
      (word_of (plan_of (ap (λ (v : MutView). v.terms) draws.finds.view i).sizes) EpochWord)) ∙ known

  abbrev heap : Heap
  heap = heap_after before.view.terms.shape before.view.terms.sizes draws.finds.seen

  abbrev lanes_of : Held → List ℕ
  lanes_of h = needing_lanes before.view h

  abbrev index : ℕ
  index = low_half draws.finds.word

  hand_after : (h : Held) → before.view.held ≡ Some h → mid.view.held ≡ Some (record h { flight = left_in_flight heap (needing_lanes before.view h) index event })
  hand_after h held = ap (λ (v : MutView). v.held) draws.finds.view ∙ ap (drawn_hand before.view heap index event) held

  -- an event that changes nothing leaves nothing in flight
  pub quiet_stays : (obj stamp : ℕ) → HoldsQuietly obj stamp before → IsPlain event → HoldsQuietly obj stamp mid
  quiet_stays obj stamp quiet plain =
      let h : Held = record { object = obj; stamp = stamp; loaded = quiet.loaded; flight = None } in
      record {
        loaded = quiet.loaded;
        held = hand_after (record { object = obj; stamp = stamp; loaded = quiet.loaded; flight = None }) quiet.held
            ∙ ap (λ (x : Option Flight). Some (record { object = obj; stamp = stamp; loaded = quiet.loaded; flight = x }))
            (plain heap (needing_lanes before.view (record { object = obj; stamp = stamp; loaded = quiet.loaded; flight = None })) index);
      }

  -- a New is in flight
  pub new_flies : (obj class : ℕ) → HasInHand before.view obj → IsMaking event class → AwaitsClass mid.view obj class
  new_flies obj class has makes = record {
    has = record {
      hand = record has.hand { flight = Some (fresh_new event) };
      held = hand_after has.hand has.held ∙ ap (λ (x : Option Flight). Some (record has.hand { flight = x })) (making_flies heap (needing_lanes before.view has.hand) index event class makes);
      object_is = has.object_is;
    };
    flight = fresh_new event;
    flies = refl;
    making = makes;
    forwarded = refl;
  }

  -- a change is in flight
  module _ (obj stamp : ℕ) (loaded : List LoadedField) (held : before.view.held ≡ Some (quiet_hand obj stamp loaded)) (field value : ℕ) (sets : IsSetting event field value) where
    abbrev old : ℕ
    old = (setting_flies heap (needing_lanes before.view (quiet_hand obj stamp loaded)) index event field value sets).0

    abbrev flown : Flight
    flown = fresh_change event old (needing_lanes before.view (quiet_hand obj stamp loaded)) index

    flown_held : mid.view.held ≡ Some (record { object = obj; stamp = stamp; loaded = loaded; flight = Some flown })
    flown_held =
        hand_after (quiet_hand obj stamp loaded) held
        ∙ ap (λ (x : Option Flight). Some (record { object = obj; stamp = stamp; loaded = loaded; flight = x }))
        (setting_flies heap (needing_lanes before.view (quiet_hand obj stamp loaded)) index event field value sets).1

    -- where no lane needs the old version, the field is next
    pub unneeded_flies : needing_lanes before.view (quiet_hand obj stamp loaded) ≡ [] → AwaitsField mid.view obj field value
    unneeded_flies none = record {
      has = record { hand = record { object = obj; stamp = stamp; loaded = loaded; flight = Some flown }; held = flown_held; object_is = refl };
      flight = flown;
      flies = refl;
      sets = sets;
      forwarded = none;
    }

    -- else its copy is
    pub needed_flies :
        (fields : List ℕ) (drawn : ℕ) → HasFields fields MOST_FIELDS loaded → is_any (needing_lanes before.view (quiet_hand obj stamp loaded)) ≡ true → index ≡ drawn
        → Flies obj field value drawn fields 0 mid
    needed_flies fields drawn fields_are some is = record {
      hand = record { object = obj; stamp = stamp; loaded = loaded; flight = Some flown };
      flight = flown;
      held = flown_held;
      object_is = refl;
      flies = refl;
      sets = sets;
      unwritten = refl;
      index_is = index_some (needing_lanes before.view (quiet_hand obj stamp loaded)) index some ∙ ap Some is;
      built_is = refl;
      fields_are = fields_are;
    }
      where
        index_some : (lanes : List ℕ) (k : ℕ) → is_any lanes ≡ true → index_for lanes k ≡ Some k
        index_some [] k some = absurd cc
        index_some (n ∷ ns) k some = refl

    -- and these lanes await it
    pub needed_awaits : awaiting_of mid.view.held ≡ needing_lanes before.view (quiet_hand obj stamp loaded)
    needed_awaits = ap awaiting_of flown_held

-- ---- what is left to do

-- a quiet hand may give the object back
pub quiet_unlocks : (obj stamp : ℕ) (seat : SeatValue) → HoldsQuietly obj stamp seat → MayUnlock seat.view obj stamp
quiet_unlocks obj stamp seat quiet = record {
  has = record { hand = record { object = obj; stamp = stamp; loaded = quiet.loaded; flight = None }; held = quiet.held; object_is = refl };
  found = λ none. refl;
  written = λ x flies. absurd cc;
  epoch = λ x flies. absurd cc;
}

-- so may one that wrote its word, with the epoch
pub owed_unlocks : (obj epoch : ℕ) (seat : SeatValue) → OwesHeader obj seat → HasEpoch epoch seat → MayUnlock seat.view obj epoch
owed_unlocks obj epoch seat owes known = record {
  has = owes.has;
  found = λ none. absurd (let e : None ≡ Some owes.flight = sym none ∙ owes.flies in cc);
  written = λ y flies. let e : Some owes.flight ≡ Some y = sym owes.flies ∙ flies in ap (λ (z : Flight). z.written) (sym (flight_is owes.flight y e)) ∙ owes.written;
  epoch = λ y flies. known;
}
  where
    flight_is : (x y : Flight) → Some x ≡ Some y → x ≡ y
    flight_is x y e = cc

-- the step that gives it back leaves all else
pub unlock_stays : (before after : SeatValue) → IsSameSeat before after → after.view ≡ unlocked before.view → StaysAs before after
unlock_stays before after same view = stays_by before after (unlocked before.view) same view refl refl refl refl

module _ (before after : SeatValue) (same : IsSameSeat before after) (view : after.view ≡ word_written before.view) where
  -- so does the one that writes the word
  pub write_stays : StaysAs before after
  write_stays = stays_by before after (word_written before.view) same view refl refl refl refl

  pub write_keeps_epoch : KeepsEpoch before after
  write_keeps_epoch epoch known =
      (λ i. word_loaded (ap (λ (v : MutView). v.board) view i).loaded (word_of (plan_of (ap (λ (v : MutView). v.terms) view i).sizes) EpochWord)) ∙ known

  -- and the header is owed
  pub write_owes : (obj : ℕ) (has : HasInHand before.view obj) (x : Flight) → has.hand.flight ≡ Some x → OwesHeader obj after
  write_owes obj has x flies = record {
    has = record {
      hand = record has.hand { loaded = []; flight = landed has.hand.flight };
      held = ap (λ (v : MutView). v.held) view ∙ ap with_written has.held;
      object_is = has.object_is;
    };
    flight = record x { written = true };
    flies = ap landed flies;
    written = refl;
  }

-- ---- one step after another

-- an event, and then what leaves the list and the entries
pub event_then : (a b c : SeatValue) (e : Event) → MakesEvent e a b → StaysAs b c → MakesEvent e a c
event_then a b c e made stays =
    let terms = stays.terms ∙ made.terms in
    record {
      past = made.past;
      goes_on = made.goes_on;
      seen = ap (λ (j : JournalView). j.seen) stays.journal ∙ made.seen;
      legal = subst (λ (t : Terms). IsLegal t.shape t.sizes (made.past ++ e ∷ [])) (sym stays.terms) made.legal;
      entries = ap (λ (j : JournalView). j.entries) stays.journal ∙ made.entries;
      spare = ap (λ (j : JournalView). charge_of_all j.entries) stays.journal ∙ made.spare;
      terms = terms;
      gate = stays.gate ∙ made.gate;
      hands = stays.hands ∙ made.hands;
      table = stays.table ∙ made.table;
      id = stays.id ∙ made.id;
    }

-- ---- what a seat may draw

-- charge, objects made and heap seen are by the list and the entries alone
spent_same : (a b : SeatValue) → StaysAs a b → charge_spent b.view ≡ charge_spent a.view
spent_same a b stays = ap (λ (j : JournalView). charge_of_all j.entries) stays.journal

module _ (a b : SeatValue) (stays : StaysAs a b) where
  number_is : b.view.gate.number ≡ a.view.gate.number
  number_is = ap (λ g. g.number) stays.gate

  cell_stays : (obj f : ℕ) → IsSome (word_at (heap_seen a.view) obj f) → IsSome (word_at (heap_seen b.view) obj f)
  cell_stays obj f cell = subst (λ (h : Heap). IsSome (word_at h obj f)) (sym (heap_same a b stays)) cell

  kind_stays : (obj f word : ℕ) → fits_cell a.view.terms.shape (heap_seen a.view) obj f word ≡ true → fits_cell b.view.terms.shape (heap_seen b.view) obj f word ≡ true
  kind_stays obj f word kind = subst (λ (t : Terms × Heap). fits_cell t.0.shape t.1 obj f word ≡ true) (λ i. (sym stays.terms i, sym (heap_same a b stays) i)) kind

  next_stays : (obj : ℕ) → IsNextOf a.view obj → IsNextOf b.view obj
  next_stays obj next = record {
    object_is = next.object_is ∙ (λ i. next_of (record b.view { terms = sym stays.terms i; gate = sym stays.gate i; journal = sym stays.journal i }));
    room = subst (λ (t : Terms × JournalView). objects_made (record b.view { journal = t.1 }) < t.0.sizes.objects) (λ i. (sym stays.terms i, sym stays.journal i)) next.room;
    mutator = subst (λ (t : ℕ × Terms). t.0 < t.1.sizes.mutators) (λ i. (sym number_is i, sym stays.terms i)) next.mutator;
  }

  -- the same events suit the same hand
  suits_stay : (h : Held) (e : Event) → Suits a.view h e → Suits b.view h e
  suits_stay h (New m obj class) s = (
    s.0 ∙ sym number_is,
    s.1,
    record {
      next = next_stays obj s.2.next;
      some_class = s.2.some_class;
      declared = subst (λ (t : Terms). class < length t.shape.classes) (sym stays.terms) s.2.declared;
    },
  )
  suits_stay h (Load m obj field value) s = (s.0 ∙ sym number_is, s.1, record { cell = cell_stays h.object field s.2.cell; loaded = s.2.loaded })
  suits_stay h (Store m obj field value) s = (s.0 ∙ sym number_is, s.1, record { cell = cell_stays h.object field s.2.cell; kind = kind_stays h.object field value s.2.kind })
  suits_stay h (Cas m obj field expect value done) s = (
    s.0 ∙ sym number_is,
    s.1,
    record {
      cell = cell_stays h.object field s.2.cell;
      expected = kind_stays h.object field expect s.2.expected;
      kind = kind_stays h.object field value s.2.kind;
      found = s.2.found;
      loaded = s.2.loaded;
      answer = s.2.answer;
    },
  )
  suits_stay h (Launch m site number args) s = absurd s
  suits_stay h (Retire m number) s = absurd s

  pub draw_stays : (e : Event) → is_change e ≡ false → b.view.held ≡ a.view.held → MayDraw a.view e false → MayDraw b.view e false
  draw_stays e still held may = record {
    inside = ap (λ g. g.phase) stays.gate ∙ may.inside;
    mutator = subst (λ (t : ℕ × Terms). t.0 < t.1.sizes.mutators) (λ i. (sym number_is i, sym stays.terms i)) may.mutator;
    charge = subst (λ (t : ℕ × Terms). t.0 + charge_of e ≤ t.1.sizes.events) (λ i. (sym (spent_same a b stays) i, sym stays.terms i)) may.charge;
    hand = may.hand;
    held = held ∙ may.held;
    quiet = may.quiet;
    suits = suits_stay may.hand e may.suits;
    known = asks_none e b.view may.hand still;
    copied = takes_none e (needing_lanes b.view may.hand) still;
  }

  -- what may be changed may be changed still
  pub change_stays : (e : Event) (obj stamp field value : ℕ) (found : Option ℕ) → MayChange e obj stamp field value found a → MayChange e obj stamp field value found b
  change_stays e obj stamp field value found may = record {
    inside = ap (λ g. g.phase) stays.gate ∙ may.inside;
    mutator = subst (λ (t : ℕ × Terms). t.0 < t.1.sizes.mutators) (λ i. (sym number_is i, sym stays.terms i)) may.mutator;
    charge = subst (λ (t : ℕ × Terms). t.0 + charge_of e ≤ t.1.sizes.events) (λ i. (sym (spent_same a b stays) i, sym stays.terms i)) may.charge;
    sets = may.sets;
    suits = λ loaded found_is. suits_stay (quiet_hand obj stamp loaded) e (may.suits loaded found_is);
  }

  -- once the object is locked, the seat may change what suits whatever it loads
  pub may_change :
      (e : Event) (obj stamp field value : ℕ) (found : Option ℕ)
      → a.view.gate.phase ≡ Inside → MayCall a → charge_of e ≡ 1 → IsSetting e field value
      → ((loaded : List LoadedField) → HasFound loaded field found → Suits a.view (quiet_hand obj stamp loaded) e)
      → MayChange e obj stamp field value found b
  may_change e obj stamp field value found inside call cost sets suits = record {
    inside = ap (λ g. g.phase) stays.gate ∙ inside;
    mutator = subst (λ (t : ℕ × Terms). t.0 < t.1.sizes.mutators) (λ i. (sym number_is i, sym stays.terms i)) call.mutator;
    charge = subst (λ (t : ℕ × Terms). t.0 + charge_of e ≤ t.1.sizes.events) (λ i. (sym (spent_same a b stays) i, sym stays.terms i))
        (subst (λ k. charge_spent a.view + k ≤ a.view.terms.sizes.events) (sym cost) call.spare);
    sets = sets;
    suits = λ loaded found_is. suits_stay (quiet_hand obj stamp loaded) e (suits loaded found_is);
  }

  -- once the object is locked and its fields are loaded, the seat may draw what suits
  pub may_draw :
      (e : Event) (obj stamp : ℕ) (loaded : List LoadedField)
      → a.view.gate.phase ≡ Inside → MayCall a → HasLoadedFields obj stamp loaded b
      → charge_of e ≡ 1 → is_change e ≡ false
      → Suits a.view (record { object = obj; stamp = stamp; loaded = loaded; flight = None }) e
      → MayDraw b.view e false
  may_draw e obj stamp loaded inside call held cost still suits = record {
    inside = ap (λ g. g.phase) stays.gate ∙ inside;
    mutator = subst (λ (t : ℕ × Terms). t.0 < t.1.sizes.mutators) (λ i. (sym number_is i, sym stays.terms i)) call.mutator;
    charge = subst (λ (t : ℕ × Terms). t.0 + charge_of e ≤ t.1.sizes.events) (λ i. (sym (spent_same a b stays) i, sym stays.terms i))
        (subst (λ k. charge_spent a.view + k ≤ a.view.terms.sizes.events) (sym cost) call.spare);
    hand = record { object = obj; stamp = stamp; loaded = loaded; flight = None };
    held = held;
    quiet = refl;
    suits = suits_stay (record { object = obj; stamp = stamp; loaded = loaded; flight = None }) e suits;
    known = asks_none e b.view (record { object = obj; stamp = stamp; loaded = loaded; flight = None }) still;
    copied = takes_none e (needing_lanes b.view (record { object = obj; stamp = stamp; loaded = loaded; flight = None })) still;
  }

-- the event of a later part of a call is that of the call
pub event_of_call : (a b c : SeatValue) (e : Event) → StaysAs a b → MakesEvent e b c → MakesEvent e a c
event_of_call a b c e stays made = record {
  past = made.past;
  goes_on = subst (λ (j : JournalView). IsPrefix j.seen made.past) stays.journal made.goes_on;
  seen = made.seen;
  legal = made.legal;
  entries = made.entries ∙ ap (λ (j : JournalView). j.entries ++ entry (length made.past) e ∷ []) stays.journal;
  spare = made.spare ∙ ap (λ k. k + 1) (spent_same a b stays);
  terms = made.terms ∙ stays.terms;
  gate = made.gate ∙ stays.gate;
  hands = made.hands ∙ stays.hands;
  table = made.table ∙ stays.table;
  id = made.id ∙ stays.id;
}

-- the value of a Load, and the answer of a Cas, are by the heap just before
pub load_of : (a c : SeatValue) (obj f value : ℕ) → MakesEvent (Load a.view.gate.number obj f value) a c → Loads obj f value a c
load_of a c obj f value made = record {
  made = made;
  word = (legal_load c.view.terms.shape c.view.terms.sizes (world_after c.view.terms.shape c.view.terms.sizes made.past) a.view.gate.number obj f value
      (each_is_legal c.view.terms.shape c.view.terms.sizes made.past [] (Load a.view.gate.number obj f value) made.legal)).word;
}

-- an event that the call made as a Cas is done exactly where the word just before was the expected one, since the list is legal
pub cas_of : (a c : SeatValue) (obj f expect value : ℕ) (done : Bool) → MakesEvent (Cas a.view.gate.number obj f expect value done) a c → Compares obj f expect value done a c
cas_of a c obj f expect value done made = record {
  made = made;
  answer = (legal_cas c.view.terms.shape c.view.terms.sizes (world_after c.view.terms.shape c.view.terms.sizes made.past) a.view.gate.number obj f expect value done
      (each_is_legal c.view.terms.shape c.view.terms.sizes made.past [] (Cas a.view.gate.number obj f expect value done) made.legal)).answer;
}

-- a change by the seat's own number it may draw once nothing was drawn since
pub own_change_stays :
    (a b : SeatValue) → StaysAs a b → (obj stamp f value : ℕ) (found : Option ℕ)
    → MayChange (event_of_change a.view.gate.number obj f value found) obj stamp f value found a
    → MayChange (event_of_change b.view.gate.number obj f value found) obj stamp f value found b
own_change_stays a b stays obj stamp f value found may =
    subst (λ m. MayChange (event_of_change m obj f value found) obj stamp f value found b) (sym (ap (λ (x : GateView). x.number) stays.gate))
    (change_stays a b stays (event_of_change a.view.gate.number obj f value found) obj stamp f value found may)

-- a Cas that is not done leaves nothing in flight
pub undone_plain : (m obj f expect value : ℕ) (done : Bool) → done ≡ false → IsPlain (Cas m obj f expect value done)
undone_plain m obj f expect value done undone h lanes index = subst (λ b. left_in_flight h lanes index (Cas m obj f expect value b) ≡ None) (sym undone) refl

-- ---- the four calls

field_is_loaded : (f value : ℕ) → field_loaded (record { field = f; value = value } ∷ []) f ≡ Some value
field_is_loaded f value = ap (λ b. if b then Some value else None) (eq-eqb f f refl)

module _ (a b : SeatValue) (stays : StaysAs a b) (inside : a.view.gate.phase ≡ Inside) (call : MayCall a) (m : ℕ) (is_m : m ≡ a.view.gate.number) (obj stamp : ℕ) where
  pub may_load :
      (f value : ℕ) → HasCell a obj f → HasLoadedFields obj stamp (record { field = f; value = value } ∷ []) b
      → MayDraw b.view (Load m obj f value) false
  may_load f value cell held = may_draw a b stays (Load m obj f value) obj stamp (record { field = f; value = value } ∷ []) inside call held refl refl
      (is_m, refl, record { cell = cell; loaded = field_is_loaded f value })

  pub may_store : (f value : ℕ) → HasCell a obj f → FitsCell a obj f value → MayChange (Store m obj f value) obj stamp f value None b
  may_store f value cell kind = may_change a b stays (Store m obj f value) obj stamp f value None inside call refl (refl, refl)
      (λ loaded none. (is_m, refl, record { cell = cell; kind = kind }))

  -- a Cas that is done is a change
  pub may_cas :
      (f expect value found : ℕ) (done : Bool) → done ≡ (found == expect)
      → HasCell a obj f → FitsCell a obj f expect → FitsCell a obj f value
      → done ≡ true → MayChange (Cas m obj f expect value done) obj stamp f value (Some found) b
  may_cas f expect value found done answer cell expected kind is_done =
      may_change a b stays (Cas m obj f expect value done) obj stamp f value (Some found) inside call refl (refl, refl, is_done)
      (λ loaded found_is.
      (is_m, refl, record { cell = cell; expected = expected; kind = kind; found = found; loaded = found_is found refl; answer = answer }))

  -- and one that is not changes nothing
  pub may_miss :
      (f expect value found : ℕ) (done : Bool) → done ≡ (found == expect)
      → HasCell a obj f → FitsCell a obj f expect → FitsCell a obj f value
      → HasLoadedFields obj stamp (record { field = f; value = found } ∷ []) b
      → done ≡ false → MayDraw b.view (Cas m obj f expect value done) false × IsPlain (Cas m obj f expect value done)
  may_miss f expect value found done answer cell expected kind held undone = (
    may_draw a b stays (Cas m obj f expect value done) obj stamp (record { field = f; value = found } ∷ []) inside call held refl undone
        (is_m, refl, record { cell = cell; expected = expected; kind = kind; found = found; loaded = field_is_loaded f found; answer = answer }),
    undone_plain m obj f expect value done undone,
  )

  pub may_new :
      (class : ℕ) → IsNextOf a.view obj → 1 ≤ class → class < length a.view.terms.shape.classes
      → HasLoadedFields obj stamp [] b
      → MayDraw b.view (New m obj class) false
  may_new class next some declared held = may_draw a b stays (New m obj class) obj stamp [] inside call held refl refl
      (is_m, refl, record { next = next; some_class = some; declared = declared })

-- the number of the event is the seat's
pub load_made :
    (a b c : SeatValue) (m obj f value : ℕ) → m ≡ a.view.gate.number → StaysAs a b → MakesEvent (Load m obj f value) b c → Loads obj f value a c
load_made a b c m obj f value is_m stays made =
    load_of a c obj f value (subst (λ k. MakesEvent (Load k obj f value) a c) is_m (event_of_call a b c (Load m obj f value) stays made))

-- a store that draws after steps that drew nothing is one event of the whole call
pub store_made :
    (a b c : SeatValue) (m obj f value : ℕ) → m ≡ a.view.gate.number → StaysAs a b → MakesEvent (Store m obj f value) b c
    → MakesEvent (Store a.view.gate.number obj f value) a c
store_made a b c m obj f value is_m stays made = subst (λ k. MakesEvent (Store k obj f value) a c) is_m (event_of_call a b c (Store m obj f value) stays made)

-- and so is a cas
pub cas_made :
    (a b c : SeatValue) (m obj f expect value : ℕ) (done : Bool) → m ≡ a.view.gate.number → StaysAs a b → MakesEvent (Cas m obj f expect value done) b c
    → Compares obj f expect value done a c
cas_made a b c m obj f expect value done is_m stays made =
    cas_of a c obj f expect value done (subst (λ k. MakesEvent (Cas k obj f expect value done) a c) is_m (event_of_call a b c (Cas m obj f expect value done) stays made))

-- and so is a New
pub new_made :
    (a b c : SeatValue) (m obj class : ℕ) → m ≡ a.view.gate.number → StaysAs a b → MakesEvent (New m obj class) b c
    → MakesEvent (New a.view.gate.number obj class) a c
new_made a b c m obj class is_m stays made = subst (λ k. MakesEvent (New k obj class) a c) is_m (event_of_call a b c (New m obj class) stays made)

-- the object of a quiet hand is in hand
pub quiet_in_hand : (obj stamp : ℕ) (seat : SeatValue) → HoldsQuietly obj stamp seat → HasInHand seat.view obj
quiet_in_hand obj stamp seat quiet = record { hand = record { object = obj; stamp = stamp; loaded = quiet.loaded; flight = None }; held = quiet.held; object_is = refl }
