-- How an old version is kept: the draw of its index, the words of its copy, and the forwarding words.
use Rattle.std.proofs.Common.{◌≡◌, ◌≢◌, ℕ, zero, suc, ◌+◌, ◌^◌, ◌<◌, ◌≤◌, ◌==◌, nat_lt, Bool, true, false, not, if◌then◌else◌, inl, inr, List, []}
use Rattle.std.proofs.Common.{◌∷◌, Option, Some, None, sym, refl, ap, subst, ◌∙◌, arith, eq-eqb, ne_eqb, ⊎_elim}
use Rattle.std.specs.Prelude.{slice_index, slice_set, length}
use Rattle.std.proofs.lemmas.List.{get_or-set_same, get_or-set_other}
use mathlib.Core.Logic.{dite}
use native.Mathlib.Decide.{ℕ_discrete}
use Rattle.st_layout.specs.declared.limits.TheConstants.{MOST_FIELDS}
use Rattle.st_layout.specs.Layout.{word_of}
use Rattle.st_layout.specs.Names.{WordName, EpochWord, AvailableWord, LaneWord, FreeWord}
use Rattle.st_layout.specs.Packed.{packed, low_half}
use Rattle.st_events.specs.World.{is_among, without}
use Rattle.st_events.specs.declared.events.Event.{Event}
use Rattle.st_events.proofs.AmongLemmas.{or_first, or_second, or_cases, same_numbers}
use Rattle.st_rule.specs.declared.forwards.TheConstants.{LOST}
use Rattle.st_rule.specs.declared.views.BoardView.{BoardView}
use Rattle.st_rule.specs.declared.views.Flight.{Flight}
use Rattle.st_rule.specs.declared.views.Held.{Held}
use Rattle.st_rule.specs.declared.views.LoadedField.{LoadedField}
use Rattle.st_rule.specs.declared.views.MutView.{MutView}
use Rattle.st_rule.specs.declared.views.Terms.{Terms}
use Rattle.st_rule.specs.Board.{plan_of}
use Rattle.st_rule.specs.Draws.{MayDraw, AwaitsField}
use Rattle.st_rule.specs.Holding.{field_loaded, word_loaded}
use Rattle.st_rule.specs.Needs.{AwaitsCopyWord, AwaitsForward, IsVersionWord, KnowsNeed, needing_lanes, is_change, is_any, takes_copy}
use Rattle.st_rule.specs.SeatValue.{SeatValue}
use Rattle.st_rule.specs.Seats.{IsSameSeat, IsFair}
use Rattle.st_rule.specs.Plays.{Finds, FindsAndDraws}
use Rattle.st_rule.proofs.PackedLemmas.{low_packed}
use Rattle.st_rule.specs.Turns.{copy_stored, forwarded, field_found, with_field, with_built, with_forward}
use Rattle.st_barrier.specs.Hands.{StaysAs, KeepsEpoch, HasLoadedFields, HoldsQuietly}
use Rattle.st_barrier.specs.Keeping.{HasFound, HoldsFound, HoldsFields, LoadsField, HasFields, MayChange, KnowsChecks, KnowsNoNeed, KeepsBoard, KeepsLanes, HasLoadedWord}
use Rattle.st_barrier.specs.Keeping.{LoadsWord, Flies, IsWord, NamesCopy, NamesNone, IsTargeted, IsKept, AreKnown, quiet_hand, lanes_in, awaiting_of}
use Rattle.st_barrier.proofs.HandLemmas.{stays_by, stays_self, stays_then}
use Rattle.st_barrier.proofs.EventLemmas.{setting_changes}
use Rattle.st_barrier.proofs.NeedLemmas.{other_known, lane_available, lane_free, epoch_available, epoch_free, available_free, true_lt, not_lt, plus_one}

-- ---- the board as it is

-- where nothing was done, the board's words are known still
pub board_self : (seat : SeatValue) → KeepsBoard seat seat
board_self seat = record { stays = stays_self seat; board = refl }

-- and so they are after one thing that keeps them and another
pub board_then : (a b c : SeatValue) → KeepsBoard a b → KeepsBoard b c → KeepsBoard a c
board_then a b c p q = record { stays = stays_then a b c p.stays q.stays; board = q.board ∙ p.board }

module _ (a b : SeatValue) (keeps : KeepsBoard a b) where
  pub word_kept : (name : WordName) (word : ℕ) → HasLoadedWord name word a → HasLoadedWord name word b
  word_kept name word known =
      (λ i. word_loaded (keeps.board i).loaded (word_of (plan_of (keeps.stays.terms i).sizes) name)) ∙ known

  pub board_keeps_epoch : KeepsEpoch a b
  board_keeps_epoch epoch known = word_kept EpochWord epoch known

  pub board_keeps_lanes : KeepsLanes a b
  board_keeps_lanes lane word within known = word_kept (LaneWord lane) word known

  pub known_kept : (checks : List ℕ) → AreKnown checks a → AreKnown checks b
  known_kept checks known lane within some =
      word_kept (LaneWord lane) (slice_index checks lane) (known lane (subst (λ (t : Terms). lane < t.sizes.lanes) keeps.stays.terms within) some)

  pub copy_kept : (index copy : ℕ) → NamesCopy index copy a → NamesCopy index copy b
  copy_kept index copy names = record {
    available = names.available;
    loaded = word_kept AvailableWord names.available names.loaded;
    below = names.below;
    named = word_kept (FreeWord index) copy names.named;
    within = subst (λ (t : Terms). copy < t.sizes.copies) (sym keeps.stays.terms) names.within;
  }

  pub none_kept : (index : ℕ) → NamesNone index a → NamesNone index b
  none_kept index names = record { available = names.available; loaded = word_kept AvailableWord names.available names.loaded; beyond = names.beyond }

  pub targeted_kept : (index target built : ℕ) → IsTargeted index target built a → IsTargeted index target built b
  targeted_kept index target built t = ⊎_elim
      (λ c. inl (c.0, copy_kept index c.0 c.1, c.2, c.3))
      (λ n. inr (none_kept index n.0, n.1))
      t

  pub checks_kept : (stamp : ℕ) (checks : List ℕ) → KnowsChecks stamp checks a → KnowsChecks stamp checks b
  checks_kept stamp checks knows = record {
    lanes = λ h stamp_is.
        (λ i. needing_lanes (record b.view { board = keeps.board i; terms = keeps.stays.terms i }) h) ∙ knows.lanes h stamp_is
        ∙ ap (λ (t : Terms). lanes_in checks t.sizes.lanes) (sym keeps.stays.terms);
    known = λ h stamp_is.
        subst (λ (p : BoardView × Terms). KnowsNeed (record b.view { board = p.0; terms = p.1 }) h) (λ i. (sym keeps.board i, sym keeps.stays.terms i)) (knows.known h stamp_is);
    loaded = known_kept checks knows.loaded;
  }

-- ---- the fields

field_here : (place word : ℕ) (loaded : List LoadedField) → field_loaded (record { field = place; value = word } ∷ loaded) place ≡ Some word
field_here place word loaded = ap (λ b. if b then Some word else field_loaded loaded place) (eq-eqb place place refl)

field_there : (place word f : ℕ) (loaded : List LoadedField) → f ≢ place → field_loaded (record { field = place; value = word } ∷ loaded) f ≡ field_loaded loaded f
field_there place word f loaded ne = ap (λ b. if b then Some word else field_loaded loaded f) (ne_eqb place f (λ e. ne (sym e)))

some_is : (a b : ℕ) → Some a ≡ Some b → a ≡ b
some_is a b e = cc

-- a field of which nothing was found is loaded
pub field_more :
    (before after : SeatValue) (same : IsSameSeat before after) (place result : ℕ) (finds : Finds (field_found place) before.view after.view)
    → after.view.tally.found ≡ Some result
    → (obj stamp field : ℕ) (found : Option ℕ) → (if place == field then found else None) ≡ None
    → (loaded : List LoadedField) → before.view.held ≡ Some (quiet_hand obj stamp loaded) → HasFound loaded field found
    → LoadsField obj stamp field found place result loaded after
field_more before after same place result finds told obj stamp field found apart loaded held found_is =
    let word : finds.word ≡ result = some_is finds.word result (sym (ap (λ (v : MutView). v.tally.found) finds.view) ∙ told) in
    record {
      more = record { field = place; value = result } ∷ loaded;
      held = ap (λ (v : MutView). v.held) finds.view ∙ ap (λ k. with_field place k before.view.held) word ∙ ap (with_field place result) held;
      found_is = λ x is. field_there place result field loaded (λ same_field. absurd (none_there x is same_field)) ∙ found_is x is;
      here = field_here place result loaded;
      others = λ f ne. field_there place result f loaded ne;
    }
  where
    none_there : (x : ℕ) → found ≡ Some x → field ≡ place → ⊥
    none_there x is same_field =
        let e : found ≡ None = ap (λ b. if b then found else None) (sym (eq-eqb place field (sym same_field))) ∙ apart in
        let f : None ≡ Some x = sym e ∙ is in cc

-- one that was found is known
pub field_known :
    (obj stamp field place word : ℕ) (found : Option ℕ) (seat : SeatValue) → (if place == field then found else None) ≡ Some word
    → (loaded : List LoadedField) → seat.view.held ≡ Some (quiet_hand obj stamp loaded) → HasFound loaded field found
    → LoadsField obj stamp field found place word loaded seat
field_known obj stamp field place word found seat is loaded held found_is = record {
  more = loaded;
  held = held;
  found_is = found_is;
  here = cases (place == field) refl is;
  others = λ f ne. refl;
}
  where
    cases : (b : Bool) → (place == field) ≡ b → (if b then found else None) ≡ Some word → field_loaded loaded place ≡ Some word
    cases true same e = ap (field_loaded loaded) (same_numbers place field same) ∙ found_is word e
    cases false other e = absurd (let f : None ≡ Some word = e in cc)

-- one field more
pub fields_more :
    (obj stamp field : ℕ) (found : Option ℕ) (fields : List ℕ) (place word : ℕ) (before after : SeatValue) → place < length fields
    → HoldsFields obj stamp field found fields place before
    → ((loaded : List LoadedField) → before.view.held ≡ Some (quiet_hand obj stamp loaded) → HasFound loaded field found → LoadsField obj stamp field found place word loaded after)
    → HoldsFields obj stamp field found (slice_set fields place word) (place + 1) after
fields_more obj stamp field found fields place word before after within holds loads =
    let more = loads holds.loaded holds.held holds.found_is in
    record {
      loaded = more.more;
      held = more.held;
      found_is = more.found_is;
      fields_are = λ f lt. dite (ℕ_discrete f place)
          (λ same. ap (field_loaded more.more) same ∙ more.here
          ∙ ap Some (sym (get_or-set_same fields place word 0 within) ∙ ap (slice_index (slice_set fields place word)) (sym same)))
          (λ other. more.others f other ∙ holds.fields_are f (below f place lt other) ∙ ap Some (sym (get_or-set_other fields place f word 0 other)));
    }
  where
    below : (f place : ℕ) → f < place + 1 → f ≢ place → f < place
    below f place lt ne = grind arith

-- a load of a field leaves what is known of the board
pub field_keeps : (before after : SeatValue) (same : IsSameSeat before after) (place : ℕ) (finds : Finds (field_found place) before.view after.view) → KeepsBoard before after
field_keeps before after same place finds = record {
  stays = stays_by before after (field_found place finds.word before.view) same finds.view refl refl refl refl;
  board = ap (λ (v : MutView). v.board) finds.view;
}

-- ---- the draw

takes_some : (e : Event) (lanes : List ℕ) → is_change e ≡ true → is_any lanes ≡ true → true ≡ takes_copy e lanes
takes_some e lanes moves some = sym some ∙ ap (λ b. if b then is_any lanes else false) (sym moves)

takes_unneeded : (e : Event) (lanes : List ℕ) → is_change e ≡ true → is_any lanes ≡ false → false ≡ takes_copy e lanes
takes_unneeded e lanes moves none = sym none ∙ ap (λ b. if b then is_any lanes else false) (sym moves)

module _ (seat : SeatValue) (e : Event) (obj stamp field value : ℕ) (found : Option ℕ) (may : MayChange e obj stamp field value found seat)
    (loaded : List LoadedField) (held : seat.view.held ≡ Some (quiet_hand obj stamp loaded)) (found_is : HasFound loaded field found) where
  pub draws_unneeded : KnowsNoNeed stamp seat → MayDraw seat.view e false
  draws_unneeded unneeded = record {
    inside = may.inside;
    mutator = may.mutator;
    charge = may.charge;
    hand = quiet_hand obj stamp loaded;
    held = held;
    quiet = refl;
    suits = may.suits loaded found_is;
    known = λ _. unneeded.known (quiet_hand obj stamp loaded) refl;
    copied =
        takes_unneeded e (needing_lanes seat.view (quiet_hand obj stamp loaded)) (setting_changes e field value may.sets)
        (ap is_any (unneeded.none (quiet_hand obj stamp loaded) refl));
  }

  module _ (checks : List ℕ) (knows : KnowsChecks stamp checks seat) where
    pub lanes_are : needing_lanes seat.view (quiet_hand obj stamp loaded) ≡ lanes_in checks seat.view.terms.sizes.lanes
    lanes_are = knows.lanes (quiet_hand obj stamp loaded) refl

    pub draws_needed : is_any (lanes_in checks seat.view.terms.sizes.lanes) ≡ true → MayDraw seat.view e true
    draws_needed some = record {
      inside = may.inside;
      mutator = may.mutator;
      charge = may.charge;
      hand = quiet_hand obj stamp loaded;
      held = held;
      quiet = refl;
      suits = may.suits loaded found_is;
      known = λ _. knows.known (quiet_hand obj stamp loaded) refl;
      copied = takes_some e (needing_lanes seat.view (quiet_hand obj stamp loaded)) (setting_changes e field value may.sets) (ap is_any lanes_are ∙ some);
    }

-- ---- the copy

-- the free list and the copy's number stay known beside the lanes and the epoch
pub available_keeps_epoch : (word : ℕ) (a b : SeatValue) → IsFair a → LoadsWord AvailableWord word a b → KeepsEpoch a b
available_keeps_epoch word a b fair loads epoch known = other_known AvailableWord EpochWord a b word epoch loads (epoch_available a fair) known

-- a load of the free list's length leaves what is known of the lanes
pub available_keeps_lanes : (word : ℕ) (a b : SeatValue) → IsFair a → LoadsWord AvailableWord word a b → KeepsLanes a b
available_keeps_lanes word a b fair loads lane check within known = other_known AvailableWord (LaneWord lane) a b word check loads (lane_available a fair lane within) known

module _ (index word : ℕ) (a b : SeatValue) (fair : IsFair a) (within : index < a.view.terms.sizes.copies) (loads : LoadsWord (FreeWord index) word a b) where
  pub free_keeps_epoch : KeepsEpoch a b
  free_keeps_epoch epoch known = other_known (FreeWord index) EpochWord a b word epoch loads (epoch_free a fair index within) known

  pub free_keeps_lanes : KeepsLanes a b
  free_keeps_lanes lane check in_lane known = other_known (FreeWord index) (LaneWord lane) a b word check loads (lane_free a fair lane index in_lane within) known

  pub free_keeps_available : (available : ℕ) → HasLoadedWord AvailableWord available a → HasLoadedWord AvailableWord available b
  free_keeps_available available known = other_known (FreeWord index) AvailableWord a b word available loads (available_free a fair index within) known

-- what keeps the epoch, and then again what keeps it, keeps it
pub epoch_then : (a b c : SeatValue) → KeepsEpoch a b → KeepsEpoch b c → KeepsEpoch a c
epoch_then a b c p q epoch known = q epoch (p epoch known)

-- what keeps the lanes, and then again what keeps them, keeps them
pub lanes_then : (a b c : SeatValue) → StaysAs a b → KeepsLanes a b → KeepsLanes b c → KeepsLanes a c
lanes_then a b c stays p q lane word within known =
    q lane word (subst (λ (t : Terms). lane < t.sizes.lanes) (sym stays.terms) within) (p lane word within known)

module _ (before after : SeatValue) (same : IsSameSeat before after) (view : after.view ≡ copy_stored before.view) where
  pub copy_keeps : KeepsBoard before after
  copy_keeps = record { stays = stays_by before after (copy_stored before.view) same view refl refl refl refl; board = ap (λ (v : MutView). v.board) view }

  held_built : after.view.held ≡ with_built before.view.held
  held_built = ap (λ (v : MutView). v.held) view

  pub copy_awaits : (obj field value index : ℕ) (fields : List ℕ) (built : ℕ) → Flies obj field value index fields built before → awaiting_of after.view.held ≡ awaiting_of before.view.held
  copy_awaits obj field value index fields built f =
      let was : before.view.held ≡ Some (record f.hand { flight = Some f.flight }) = f.held ∙ ap (λ (x : Option Flight). Some (record f.hand { flight = x })) f.flies in
      ap awaiting_of (held_built ∙ ap with_built was) ∙ sym (ap awaiting_of was)

  pub one_word_more : (obj field value index : ℕ) (fields : List ℕ) (built : ℕ) → Flies obj field value index fields built before → Flies obj field value index fields (built + 1) after
  one_word_more obj field value index fields built f =
      let was : before.view.held ≡ Some (record f.hand { flight = Some f.flight }) = f.held ∙ ap (λ (x : Option Flight). Some (record f.hand { flight = x })) f.flies in
      record {
        hand = record f.hand { flight = Some (record f.flight { built = f.flight.built + 1 }) };
        flight = record f.flight { built = f.flight.built + 1 };
        held = held_built ∙ ap with_built was;
        object_is = f.object_is;
        flies = refl;
        sets = f.sets;
        unwritten = f.unwritten;
        index_is = f.index_is;
        built_is = ap (λ k. k + 1) f.built_is;
        fields_are = f.fields_are;
      }

version_word : (h : Held) (obj : ℕ) (fields : List ℕ) → obj ≡ h.object → HasFields fields MOST_FIELDS h.loaded → (k word : ℕ) → k ≤ MOST_FIELDS → IsWord obj fields k word → IsVersionWord h k word
version_word h obj fields object_is loaded zero word within is = is ∙ object_is
version_word h obj fields object_is loaded (suc f) word within is = loaded f (omega (arith, within)) ∙ ap Some (sym is)

-- the next word may be written
pub may_build :
    (seat : SeatValue) (obj field value index copy : ℕ) (fields : List ℕ) (k word : ℕ)
    → Flies obj field value index fields k seat → NamesCopy index copy seat → k ≤ MOST_FIELDS → IsWord obj fields k word
    → AwaitsCopyWord seat.view copy k word
may_build seat obj field value index copy fields k word f names within is = record {
  has = record { hand = f.hand; held = f.held; flight = f.flight; flies = f.flies };
  free = record { index = index; drawn = f.index_is; available = names.available; loaded = names.loaded; below = names.below; named = names.named };
  unwritten = f.unwritten;
  next = sym f.built_is;
  within = within;
  copy_within = names.within;
  word = version_word f.hand obj fields f.object_is f.fields_are k word within is;
}

-- once all words stand, the version is kept
pub kept_in_copy :
    (seat : SeatValue) (obj field value index copy : ℕ) (fields : List ℕ) → Flies obj field value index fields (MOST_FIELDS + 1) seat → NamesCopy index copy seat
    → IsKept obj field value (copy + 1) seat
kept_in_copy seat obj field value index copy fields f names = record {
  hand = f.hand;
  flight = f.flight;
  held = f.held;
  object_is = f.object_is;
  flies = f.flies;
  sets = f.sets;
  index = index;
  index_is = f.index_is;
  targeted = inl (copy, names, subst (λ k. MOST_FIELDS < k) (sym f.built_is) (omega arith), refl);
}

-- without a copy it is lost
pub kept_as_lost :
    (seat : SeatValue) (obj field value index : ℕ) (fields : List ℕ) (built : ℕ) → Flies obj field value index fields built seat → NamesNone index seat
    → IsKept obj field value LOST seat
kept_as_lost seat obj field value index fields built f names = record {
  hand = f.hand;
  flight = f.flight;
  held = f.held;
  object_is = f.object_is;
  flies = f.flies;
  sets = f.sets;
  index = index;
  index_is = f.index_is;
  targeted = inr (names, refl);
}

-- a step that leaves the hand leaves the change in flight
pub flies_still :
    (a b : SeatValue) (obj field value index : ℕ) (fields : List ℕ) (built : ℕ) → b.view.held ≡ a.view.held → Flies obj field value index fields built a
    → Flies obj field value index fields built b
flies_still a b obj field value index fields built same f = record {
  hand = f.hand;
  flight = f.flight;
  held = same ∙ f.held;
  object_is = f.object_is;
  flies = f.flies;
  sets = f.sets;
  unwritten = f.unwritten;
  index_is = f.index_is;
  built_is = f.built_is;
  fields_are = f.fields_are;
}

-- ---- the forwarding words

all_below : (checks : List ℕ) (count lane : ℕ) → is_among (lanes_in checks count) lane ≡ true → lane < count
all_below checks zero lane e = absurd cc
all_below checks (suc n) lane e = cases (nat_lt 0 (slice_index checks n)) (all_below checks n lane) e
  where
    cases : (b : Bool) → (is_among (lanes_in checks n) lane ≡ true → lane < n) → is_among (if b then n ∷ lanes_in checks n else lanes_in checks n) lane ≡ true → lane < suc n
    cases true below among = ⊎_elim
        (λ here. let same = same_numbers n lane here in omega (arith, same))
        (λ there. let lt = below there in omega (arith, lt))
        (or_cases (n == lane) (is_among (lanes_in checks n) lane) among)
    cases false below among = let lt = below among in omega (arith, lt)

without_none : (number : ℕ) (xs : List ℕ) → ((n : ℕ) → is_among xs n ≡ true → n ≢ number) → without number xs ≡ xs
without_none number [] apart = refl
without_none number (x ∷ xs) apart =
    let ne : x ≢ number = apart x (or_first (x == x) (is_among xs x) (eq-eqb x x refl)) in
    ap (λ b. if not b then x ∷ without number xs else without number xs) (ne_eqb x number ne)
    ∙ ap (λ rest. x ∷ rest) (without_none number xs (λ n among. apart n (or_second (x == n) (is_among xs n) among)))

without_here : (number : ℕ) (xs : List ℕ) → without number (number ∷ xs) ≡ without number xs
without_here number xs = ap (λ b. if not b then number ∷ without number xs else without number xs) (eq-eqb number number refl)

-- the lanes below, once the greatest is forwarded
pub lanes_left : (checks : List ℕ) (lane : ℕ) → 0 < slice_index checks lane → without lane (lanes_in checks (suc lane)) ≡ lanes_in checks lane
lanes_left checks lane some =
    ap (λ b. without lane (if b then lane ∷ lanes_in checks lane else lanes_in checks lane)) (true_lt 0 (slice_index checks lane) some)
    ∙ without_here lane (lanes_in checks lane)
    ∙ without_none lane (lanes_in checks lane) (λ n among same. let lt = all_below checks lane n among in omega (arith, lt, same))

-- a lane that needs nothing is none of them
pub lanes_skip : (checks : List ℕ) (lane : ℕ) → slice_index checks lane ≤ 0 → lanes_in checks (lane + 1) ≡ lanes_in checks lane
lanes_skip checks lane none =
    ap (lanes_in checks) (plus_one lane) ∙ ap (λ b. if b then lane ∷ lanes_in checks lane else lanes_in checks lane) (not_lt 0 (slice_index checks lane) none)

module _ (seat : SeatValue) (obj field value target : ℕ) (k : IsKept obj field value target seat) where
  as_held : seat.view.held ≡ Some (record k.hand { flight = Some k.flight })
  as_held = k.held ∙ ap (λ (x : Option Flight). Some (record k.hand { flight = x })) k.flies

  awaiting_is : awaiting_of seat.view.held ≡ k.flight.awaiting
  awaiting_is = ap awaiting_of as_held

  -- the lane's forwarding word may be written
  pub may_forward :
      (checks : List ℕ) (lane check : ℕ) → lane < seat.view.terms.sizes.lanes → 0 < slice_index checks lane → check ≡ slice_index checks lane
      → AreKnown checks seat → awaiting_of seat.view.held ≡ lanes_in checks (lane + 1)
      → (word : ℕ) → word ≡ packed check target
      → AwaitsForward seat.view obj lane word
  may_forward checks lane check within some check_is known awaiting word word_is = record {
    has = record { hand = k.hand; held = k.held; flight = k.flight; flies = k.flies };
    object_is = k.object_is;
    within = within;
    awaits =
        ap (λ ls. is_among ls lane)
        (sym awaiting_is ∙ awaiting ∙ ap (lanes_in checks) (plus_one lane)
        ∙ ap (λ b. if b then lane ∷ lanes_in checks lane else lanes_in checks lane) (true_lt 0 (slice_index checks lane) some))
        ∙ or_first (lane == lane) (is_among (lanes_in checks lane) lane) (eq-eqb lane lane refl);
    check = check;
    loaded = known lane within some ∙ ap Some (sym check_is);
    target = ⊎_elim
        (λ c. inl (
          c.0,
          record { index = k.index; drawn = k.index_is; available = c.1.available; loaded = c.1.loaded; below = c.1.below; named = c.1.named },
          c.2,
          word_is ∙ ap (packed check) c.3,
        ))
        (λ n. inr (record { index = k.index; drawn = k.index_is; available = n.0.available; loaded = n.0.loaded; beyond = n.0.beyond }, word_is ∙ ap (packed check) n.1))
        k.targeted;
  }

  module _ (lane : ℕ) (after : SeatValue) (same : IsSameSeat seat after) (view : after.view ≡ forwarded lane seat.view) where
    pub forward_keeps : KeepsBoard seat after
    forward_keeps = record { stays = stays_by seat after (forwarded lane seat.view) same view refl refl refl refl; board = ap (λ (v : MutView). v.board) view }

    held_forwarded : after.view.held ≡ Some (record k.hand { flight = Some (record k.flight { awaiting = without lane k.flight.awaiting }) })
    held_forwarded = ap (λ (v : MutView). v.held) view ∙ ap (with_forward lane) as_held

    pub forward_kept : IsKept obj field value target after
    forward_kept = record {
      hand = record k.hand { flight = Some (record k.flight { awaiting = without lane k.flight.awaiting }) };
      flight = record k.flight { awaiting = without lane k.flight.awaiting };
      held = held_forwarded;
      object_is = k.object_is;
      flies = refl;
      sets = k.sets;
      index = k.index;
      index_is = k.index_is;
      targeted = targeted_kept seat after forward_keeps k.index target k.flight.built k.targeted;
    }

    pub forward_awaits : (checks : List ℕ) → 0 < slice_index checks lane → awaiting_of seat.view.held ≡ lanes_in checks (lane + 1) → awaiting_of after.view.held ≡ lanes_in checks lane
    forward_awaits checks some awaiting =
        ap awaiting_of held_forwarded ∙ ap (without lane) (sym awaiting_is ∙ awaiting ∙ ap (lanes_in checks) (plus_one lane)) ∙ lanes_left checks lane some

  -- once no lane awaits it, the field is next
  pub field_next : awaiting_of seat.view.held ≡ [] → AwaitsField seat.view obj field value
  field_next none = record {
    has = record { hand = k.hand; held = k.held; object_is = k.object_is };
    flight = k.flight;
    flies = k.flies;
    sets = k.sets;
    forwarded = sym awaiting_is ∙ none;
  }

  -- the forwarding words fit
  pub target_fits : seat.view.terms.sizes.copies + 1 < 2 ^ 32 → target < 2 ^ 32
  target_fits few = ⊎_elim
      (λ c. let lt = c.1.within in let is = c.3 in omega (arith, lt, is, few))
      (λ n. let is = n.1 in omega (arith, is))
      k.targeted

-- ---- hands

-- what was found of the field is known still, where the hand stays
pub found_stays :
    (a b : SeatValue) (obj stamp field : ℕ) (found : Option ℕ) → b.view.held ≡ a.view.held → HoldsFound obj stamp field found a → HoldsFound obj stamp field found b
found_stays a b obj stamp field found same h = record { loaded = h.loaded; held = same ∙ h.held; found_is = h.found_is }

-- the field that was read first is found
pub found_first :
    (obj stamp field word : ℕ) (seat : SeatValue) → HasLoadedFields obj stamp (record { field = field; value = word } ∷ []) seat → HoldsFound obj stamp field (Some word) seat
found_first obj stamp field word seat held = record {
  loaded = record { field = field; value = word } ∷ [];
  held = held;
  found_is = λ w is. field_here field word [] ∙ is;
}

-- what a quiet hand found it may give back
pub found_quiet : (obj stamp field : ℕ) (found : Option ℕ) (seat : SeatValue) → HoldsFound obj stamp field found seat → HoldsQuietly obj stamp seat
found_quiet obj stamp field found seat h = record { loaded = h.loaded; held = h.held }

-- a copy part of the clock that was told is the index
pub index_drawn :
    (before after : MutView) (event : Event) (draws : FindsAndDraws event before after) (ticket index : ℕ) → after.tally.found ≡ Some (packed ticket index) → index < 2 ^ 32
    → low_half draws.finds.word ≡ index
index_drawn before after event draws ticket index found within =
    ap low_half (some_is draws.finds.word (packed ticket index) (sym (ap (λ (v : MutView). v.tally.found) draws.finds.view) ∙ found)) ∙ low_packed ticket index within

-- a seat that has found holds what it has of the fields
pub fields_none :
    (obj stamp field : ℕ) (found : Option ℕ) (fields : List ℕ) (seat : SeatValue) → HoldsFound obj stamp field found seat → HoldsFields obj stamp field found fields 0 seat
fields_none obj stamp field found fields seat h = record { loaded = h.loaded; held = h.held; found_is = h.found_is; fields_are = λ f lt. absurd (omega (arith, lt)) }

-- a hand with its fields loaded has the field found
pub fields_found :
    (obj stamp field : ℕ) (found : Option ℕ) (fields : List ℕ) (count : ℕ) (seat : SeatValue) → HoldsFields obj stamp field found fields count seat → HoldsFound obj stamp field found seat
fields_found obj stamp field found fields count seat h = record { loaded = h.loaded; held = h.held; found_is = h.found_is }
