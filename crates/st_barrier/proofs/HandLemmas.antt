-- What the steps before and after a draw make of the seat.
use Rattle.std.proofs.Common.{◌≡◌, ◌≢◌, ℕ, ◌^◌, ◌<◌, if◌then◌else◌, inl, List, [], ◌∷◌, Option, Some, None}
use Rattle.std.proofs.Common.{sym, refl, ap, subst, ◌∙◌, arith, eq-eqb, ne_eqb}
use Rattle.std.specs.Prelude.{IsSome}
use Rattle.st_layout.specs.Layout.{word_of, words_of}
use Rattle.st_layout.proofs.Bounds.{words_below}
use Rattle.st_rule.proofs.BoardLemmas.{plan_fits}
use Rattle.st_rule.specs.declared.views.Phase.TheVariants.{Inside}
use Rattle.st_layout.specs.Names.{EpochWord}
use Rattle.st_layout.specs.Packed.{packed}
use Rattle.st_layout.specs.declared.limits.TheConstants.{MOST_FIELDS}
use Rattle.st_events.specs.Heap.{Heap, Object, word_at, word_of as word_in}
use Rattle.st_events.specs.History.{heap_after}
use Rattle.st_events.proofs.HeapLemmas.{kinds_are_few}
use Rattle.st_events.proofs.SoundLemmas.{legal_is_sound}
use Rattle.std.proofs.lemmas.Option.{slice_get_within}
use Rattle.st_rule.specs.declared.views.LoadedField.{LoadedField}
use Rattle.st_rule.specs.declared.views.MutView.{MutView}
use Rattle.st_rule.specs.Board.{plan_of}
use Rattle.st_rule.specs.Draws.{HasInHand, MayLoadBoard, heap_seen}
use Rattle.st_rule.specs.Holding.{word_loaded}
use Rattle.st_rule.specs.Plays.{Finds, FindsBoard, FindsLock}
use Rattle.st_rule.specs.SeatValue.{SeatValue, IsFairView}
use Rattle.st_rule.specs.Seats.{IsSameSeat}
use Rattle.st_rule.specs.Turns.{board_loaded, locked, locked_at, field_found, with_field}
use Rattle.st_barrier.specs.Hands.{StaysAs, HasLoadedFields, HasEpoch}

-- where nothing was done, the seat stays as it is
pub stays_self : (seat : SeatValue) → StaysAs seat seat
stays_self seat = record { table = refl; id = refl; terms = refl; gate = refl; journal = refl; hands = refl }

-- and so it does after two things that leave it as it is
pub stays_then : (a b c : SeatValue) → StaysAs a b → StaysAs b c → StaysAs a c
stays_then a b c p q = record {
  table = q.table ∙ p.table;
  id = q.id ∙ p.id;
  terms = q.terms ∙ p.terms;
  gate = q.gate ∙ p.gate;
  journal = q.journal ∙ p.journal;
  hands = q.hands ∙ p.hands;
}

-- a view that leaves all but the hand, the board and the count
pub stays_by :
    (before after : SeatValue) (w : MutView) → IsSameSeat before after → after.view ≡ w
    → w.terms ≡ before.view.terms → w.gate ≡ before.view.gate → w.journal ≡ before.view.journal → w.hands ≡ before.view.hands
    → StaysAs before after
stays_by before after w same view terms gate journal hands = record {
  table = same.table;
  id = same.id;
  terms = ap (λ (v : MutView). v.terms) view ∙ terms;
  gate = ap (λ (v : MutView). v.gate) view ∙ gate;
  journal = ap (λ (v : MutView). v.journal) view ∙ journal;
  hands = ap (λ (v : MutView). v.hands) view ∙ hands;
}

some_is : (a b : ℕ) → Some a ≡ Some b → a ≡ b
some_is a b e = cc

-- ---- lock

module _ (before after : SeatValue) (same : IsSameSeat before after) (obj stamp : ℕ) (finds : FindsLock obj stamp before.view after.view) where
  word_is : (x : ℕ) → after.view.tally.found ≡ Some x → finds.finds.word ≡ x
  word_is x found = some_is finds.finds.word x (sym (ap (λ (v : MutView). v.tally.found) finds.finds.view) ∙ found)

  pub lock_stays : StaysAs before after
  lock_stays = stays_by before after (locked obj stamp finds.finds.word before.view) same finds.finds.view refl refl refl refl

  pub lock_taken : after.view.tally.found ≡ Some (packed stamp 0) → HasLoadedFields obj stamp [] after
  lock_taken found = ap (λ (v : MutView). v.held)
      (finds.finds.view ∙ ap (λ b. locked_at b obj stamp finds.finds.word before.view) (eq-eqb finds.finds.word (packed stamp 0) (word_is (packed stamp 0) found)))

  pub lock_missed : (x : ℕ) → after.view.tally.found ≡ Some x → x ≢ packed stamp 0 → after.view.held ≡ before.view.held
  lock_missed x found other = ap (λ (v : MutView). v.held)
      (finds.finds.view ∙ ap (λ b. locked_at b obj stamp finds.finds.word before.view) (ne_eqb finds.finds.word (packed stamp 0) (λ e. other (sym (word_is x found) ∙ e))))

-- ---- reads

read_view :
    (before after : SeatValue) (field : ℕ) (finds : Finds (field_found field) before.view after.view) (x : ℕ)
    → after.view.tally.found ≡ Some x → after.view ≡ field_found field x before.view
read_view before after field finds x found =
    finds.view ∙ ap (λ k. field_found field k before.view) (some_is finds.word x (sym (ap (λ (v : MutView). v.tally.found) finds.view) ∙ found))

-- a load of a field draws nothing
pub read_stays : (before after : SeatValue) (same : IsSameSeat before after) (field : ℕ) (finds : Finds (field_found field) before.view after.view) → StaysAs before after
read_stays before after same field finds = stays_by before after (field_found field finds.word before.view) same finds.view refl refl refl refl

-- and the hand has one field more loaded, with the word that was found
pub read_hand :
    (before after : SeatValue) (field obj stamp : ℕ) (loaded : List LoadedField) (finds : Finds (field_found field) before.view after.view) (x : ℕ)
    → after.view.tally.found ≡ Some x → HasLoadedFields obj stamp loaded before
    → HasLoadedFields obj stamp (record { field = field; value = x } ∷ loaded) after
read_hand before after field obj stamp loaded finds x found held =
    ap (λ (v : MutView). v.held) (read_view before after field finds x found) ∙ ap (with_field field x) held

-- the object is in hand
pub in_hand : (obj stamp : ℕ) (loaded : List LoadedField) (seat : SeatValue) → HasLoadedFields obj stamp loaded seat → HasInHand seat.view obj
in_hand obj stamp loaded seat held = record { hand = record { object = obj; stamp = stamp; loaded = loaded; flight = None }; held = held; object_is = refl }

-- the same hand
pub hand_stays : (obj : ℕ) (before after : SeatValue) → after.view.held ≡ before.view.held → HasInHand before.view obj → HasInHand after.view obj
hand_stays obj before after same has = record { hand = has.hand; held = same ∙ has.held; object_is = has.object_is }

-- ---- the epoch

-- a seat that is inside may load it
pub may_load_epoch : (v : MutView) (place : ℕ) → IsFairView v → v.gate.phase ≡ Inside → place ≡ word_of (plan_of v.terms.sizes) EpochWord → MayLoadBoard v place
may_load_epoch v place fair inside is = record {
  within = subst (λ k. k < words_of (plan_of v.terms.sizes)) (sym is) (words_below (plan_of v.terms.sizes) (plan_fits v.terms.sizes fair.sizes_fit) EpochWord tt);
  allowed = inl (inside, EpochWord, tt, refl, is);
}

module _ (before after : SeatValue) (same : IsSameSeat before after) (place : ℕ) (finds : FindsBoard place before.view after.view) where
  pub board_stays : StaysAs before after
  board_stays = stays_by before after (board_loaded place finds.word before.view) same finds.view refl refl refl refl

  pub board_held : after.view.held ≡ before.view.held
  board_held = ap (λ (v : MutView). v.held) finds.view

  module _ (x : ℕ) (found : after.view.tally.found ≡ Some x) (is_place : place ≡ word_of (plan_of before.view.terms.sizes) EpochWord) where
    found_is : finds.word ≡ x
    found_is = some_is finds.word x (sym (ap (λ (v : MutView). v.tally.found) finds.view) ∙ found)

    pub epoch_fits : x < 2 ^ 32
    epoch_fits = subst (λ k. k < 2 ^ 32) found_is (finds.fits.epoch is_place)

    pub epoch_known : HasEpoch x after
    epoch_known =
        let loaded : word_loaded (board_loaded place x before.view).board.loaded place ≡ Some x =
        ap (λ b. if b then Some x else word_loaded before.view.board.loaded place) (eq-eqb place place refl) in
        (λ i. word_loaded ((finds.view ∙ ap (λ k. board_loaded place k before.view) found_is) i).board.loaded
        (word_of (plan_of (ap (λ (v : MutView). v.terms) finds.view i).sizes) EpochWord))
        ∙ ap (word_loaded (board_loaded place x before.view).board.loaded) (sym is_place) ∙ loaded

-- ---- cells

-- what the seat has seen of the heap stays as it is
pub heap_same : (before after : SeatValue) → StaysAs before after → heap_seen after.view ≡ heap_seen before.view
heap_same before after stays = λ i. heap_after (stays.terms i).shape (stays.terms i).sizes (stays.journal i).seen

cell_object : (x : Option Object) (f : ℕ) → IsSome (word_in x f) → IsSome x
cell_object None f some = absurd cc
cell_object (Some x) f some = refl

-- the object of a cell exists
pub object_of_cell : (heap : Heap) (obj f : ℕ) → IsSome (word_at heap obj f) → IsSome (heap obj)
object_of_cell heap obj f some = cell_object (heap obj) f some

-- a cell's field is one of the table's
pub field_of_cell : (v : MutView) (obj f : ℕ) → IsFairView v → IsSome (word_at (heap_seen v) obj f) → f < MOST_FIELDS
field_of_cell v obj f fair some = within (heap_seen v obj) refl some
  where
    word_there : (o : Option ℕ) → IsSome o → (x : ℕ) × (o ≡ Some x)
    word_there None i = absurd cc
    word_there (Some x) i = (x, refl)

    within : (z : Option Object) → heap_seen v obj ≡ z → IsSome (word_in z f) → f < MOST_FIELDS
    within None e i = absurd cc
    within (Some x) e i =
        let sound = legal_is_sound v.terms.shape v.terms.sizes fair.shape_fits v.journal.seen fair.legal in
        let word = word_there (word_in (Some x) f) i in
        let lt = slice_get_within x.words f word.0 word.1 in
        let len = sound.typed.lengths obj x e in
        let few = kinds_are_few v.terms.shape fair.shape_fits x.class in
        omega (arith, lt, len, few)
