-- What a view shows that settles the pool: with the new length of the free list the part on copies holds, whatever the words are that it has not loaded.
use Rattle.std.proofs.Common.{◌≡◌, ◌≢◌, ℕ, zero, suc, ◌+◌, ◌<◌, ◌≤◌, ◌==◌, ◌⊎◌, nat_lt, nat_le, not, Bool, true, false, if◌then◌else◌, List, [], ◌∷◌, length}
use Rattle.std.proofs.Common.{Option, Some, None, sym, refl, ap, subst, ◌∙◌, arith, ⊎_elim, eq-eqb}
use Rattle.std.specs.Prelude.{IsSome, ◌&&◌}
use Rattle.std.proofs.lemmas.Bool.Decides.{nat_tests}
use mathlib.Core.Logic.{dite}
use native.Mathlib.Decide.{ℕ_discrete}
use Rattle.st_layout.specs.Layout.{word_of}
use Rattle.st_layout.specs.Names.{WordName, ClockWord, LaneWord, ForwardWord, CopyWord, FreeWord, HasWord}
use Rattle.st_layout.specs.Packed.{high_half, low_half}
use Rattle.st_events.specs.declared.events.Event.{Event}
use Rattle.st_events.specs.declared.limits.Sizes.{Sizes}
use Rattle.st_events.specs.Heap.{Object}
use Rattle.st_events.specs.World.{World, world_after, is_kept}
use Rattle.st_events.proofs.AmongLemmas.{or_cases, or_first, or_second, same_numbers}
use Rattle.st_events.proofs.KeptLemmas.{and_parts}
use Rattle.st_rule.specs.declared.views.MutView.{MutView}
use Rattle.st_rule.specs.declared.views.Phase.{Phase}
use Rattle.st_rule.specs.declared.views.Phase.TheVariants.{Outside, Entering, Inside, Closing, Alone}
use Rattle.st_rule.specs.declared.views.Terms.{Terms}
use Rattle.st_rule.specs.declared.views.View.{View}
use Rattle.st_rule.specs.declared.views.View.TheVariants.{Mut}
use Rattle.st_rule.specs.Board.{Board, plan_of, stays_loaded}
use Rattle.st_rule.specs.Holding.{word_loaded}
use Rattle.st_rule.specs.Parts.{Sits}
use Rattle.st_rule.specs.Rule.{Told, Moment, HoldsAt, world_of}
use Rattle.st_rule.specs.Settling.{words_known, is_named_in, free_known, lane_spares, lanes_spare, copy_is_spared, names_spared, fits_rows, is_settled_at, is_alone, settles}
use Rattle.st_rule.specs.Versions.{IsNamed}
use Rattle.st_rule.proofs.ReachLemmas.{sound, exists_within}

-- what holds of the words with a length of the free list that settles the pool
pub record IsSettled (sizes : Sizes) (world : World) (board : Board) (available : ℕ) : Type 0 where
  -- the rows kept are as many as the copies that are not free
  pub listed : available ≤ sizes.copies
  pub some_left : low_half (board ClockWord) ≤ available → length world.kept + available ≡ sizes.copies + low_half (board ClockWord)
  pub none_left : available ≤ low_half (board ClockWord) → length world.kept ≡ sizes.copies
  -- the free list names each of its copies once
  pub named : (i : ℕ) → low_half (board ClockWord) ≤ i → i < available → board (FreeWord i) < sizes.copies
  pub once :
      (i j : ℕ) → low_half (board ClockWord) ≤ i → i < available → low_half (board ClockWord) ≤ j → j < available → board (FreeWord i) ≡ board (FreeWord j) → i ≡ j
  -- and no forwarding word of an active check names one of them
  pub spared :
      (o l c : ℕ) → IsNamed sizes world (λ l. board (LaneWord l)) (λ o l. board (ForwardWord o l)) o l c
      → (i : ℕ) → low_half (board ClockWord) ≤ i → i < available → board (FreeWord i) ≢ c

-- only a closer that saw every other number is alone
alone_is : (p : Phase) → is_alone p ≡ true → p ≡ Alone
alone_is Outside e = absurd cc
alone_is Entering e = absurd cc
alone_is Inside e = absurd cc
alone_is Closing e = absurd cc
alone_is Alone e = refl

le_is_true : (a b : ℕ) → a ≤ b → nat_le a b ≡ true
le_is_true a b le = grind (arith, nat_tests)

lt_is : (a b : ℕ) → nat_lt a b ≡ true → a < b
lt_is a b e = grind (arith, nat_tests)

le_is : (a b : ℕ) → nat_le a b ≡ true → a ≤ b
le_is a b e = grind (arith, nat_tests)

not_both : (b : Bool) → not b ≡ true → b ≡ true → ⊥
not_both true e f = absurd cc
not_both false e f = absurd cc

-- ---- the tests over what is known of the words

module _ (sizes : Sizes) (known : WordName → Option ℕ) where
  -- each entry of the free list that passes is known, names a copy, and is spared
  pub record IsSparedEntry (i : ℕ) : Type 0 where
    pub copy : ℕ
    pub known_is : known (FreeWord i) ≡ Some copy
    pub within : copy < sizes.copies
    pub spared : copy_is_spared known sizes.lanes (known (CopyWord copy 0)) copy ≡ true

  -- what the test says of the first entry, and of the rest
  first_entry : (o : Option ℕ) (free : List (Option ℕ)) → names_spared sizes known (o ∷ free) ≡ true
      → (copy : ℕ) × (o ≡ Some copy) × (copy < sizes.copies) × (is_named_in free copy ≡ true → ⊥)
      × (copy_is_spared known sizes.lanes (known (CopyWord copy 0)) copy ≡ true) × (names_spared sizes known free ≡ true)
  first_entry None free e = absurd cc
  first_entry (Some copy) free e =
      let a = and_parts (nat_lt copy sizes.copies)
      (not (is_named_in free copy) && (copy_is_spared known sizes.lanes (known (CopyWord copy 0)) copy && names_spared sizes known free)) e in
      let b = and_parts (not (is_named_in free copy)) (copy_is_spared known sizes.lanes (known (CopyWord copy 0)) copy && names_spared sizes known free) a.1 in
      let c = and_parts (copy_is_spared known sizes.lanes (known (CopyWord copy 0)) copy) (names_spared sizes known free) b.1 in
      (copy, refl, lt_is copy sizes.copies a.0, not_both (is_named_in free copy) b.0, c.0, c.1)

  -- one index more in the list
  free_more : (drawn i : ℕ) → drawn ≤ i → free_known known drawn (suc i) ≡ known (FreeWord i) ∷ free_known known drawn i
  free_more drawn i le = ap (λ b. if b then known (FreeWord i) ∷ free_known known drawn i else []) (le_is_true drawn i le)

  -- the copies known of the list are among its names
  named_below : (drawn available j copy : ℕ) → drawn ≤ j → j < available → known (FreeWord j) ≡ Some copy → is_named_in (free_known known drawn available) copy ≡ true
  named_below drawn zero j copy le lt is = absurd (omega (arith, lt))
  named_below drawn (suc i) j copy le lt is =
      subst (λ free. is_named_in free copy ≡ true) (sym (free_more drawn i (below drawn j i le lt)))
      (dite (ℕ_discrete j i)
      (λ same. here (known (FreeWord i)) (ap (λ k. known (FreeWord k)) (sym same) ∙ is))
      (λ other. there (known (FreeWord i)) (named_below drawn i j copy le (less j i lt other) is)))
    where
      below : (d j i : ℕ) → d ≤ j → j < suc i → d ≤ i
      below d j i le lt = omega (arith, le, lt)

      less : (j i : ℕ) → j < suc i → j ≢ i → j < i
      less j i lt ne = grind arith

      here : (o : Option ℕ) → o ≡ Some copy → is_named_in (o ∷ free_known known drawn i) copy ≡ true
      here None e = absurd cc
      here (Some c) e = or_first (c == copy) (is_named_in (free_known known drawn i) copy) (eq-eqb c copy cc)

      there : (o : Option ℕ) → is_named_in (free_known known drawn i) copy ≡ true → is_named_in (o ∷ free_known known drawn i) copy ≡ true
      there None e = e
      there (Some c) e = or_second (c == copy) (is_named_in (free_known known drawn i) copy) e

  -- the test says so of each index from the copy part on
  entries : (drawn available : ℕ) → names_spared sizes known (free_known known drawn available) ≡ true → (i : ℕ) → drawn ≤ i → i < available → IsSparedEntry i
  entries drawn zero e i le lt = absurd (omega (arith, lt))
  entries drawn (suc k) e i le lt =
      let first = first_entry (known (FreeWord k)) (free_known known drawn k)
      (ap (names_spared sizes known) (sym (free_more drawn k (below drawn i k le lt))) ∙ e) in
      dite (ℕ_discrete i k)
      (λ same. subst IsSparedEntry (sym same) (record { copy = first.0; known_is = first.1; within = first.2; spared = first.4 }))
      (λ other. entries drawn k first.5 i le (less i k lt other))
    where
      below : (d j i : ℕ) → d ≤ j → j < suc i → d ≤ i
      below d j i le lt = omega (arith, le, lt)

      less : (j i : ℕ) → j < suc i → j ≢ i → j < i
      less j i lt ne = grind arith

  -- an entry is not among those below it
  apart_below : (drawn available : ℕ) → names_spared sizes known (free_known known drawn available) ≡ true
      → (i j copy : ℕ) → drawn ≤ i → i < j → j < available → known (FreeWord i) ≡ Some copy → known (FreeWord j) ≡ Some copy → ⊥
  apart_below drawn zero e i j copy le less lt is_i is_j = absurd (omega (arith, lt))
  apart_below drawn (suc k) e i j copy le less lt is_i is_j =
      let first = first_entry (known (FreeWord k)) (free_known known drawn k)
      (ap (names_spared sizes known) (sym (free_more drawn k (between drawn i j k le less lt))) ∙ e) in
      dite (ℕ_discrete j k)
      (λ same.
      let one : first.0 ≡ copy = one_number first.0 copy (sym first.1 ∙ ap (λ n. known (FreeWord n)) (sym same) ∙ is_j) in
      first.3 (ap (is_named_in (free_known known drawn k)) one ∙ named_below drawn k i copy le (subst (λ n. i < n) same less) is_i))
      (λ other. apart_below drawn k first.5 i j copy le less (lower j k lt other) is_i is_j)
    where
      between : (d i j k : ℕ) → d ≤ i → i < j → j < suc k → d ≤ k
      between d i j k le less lt = omega (arith, le, less, lt)

      lower : (j k : ℕ) → j < suc k → j ≢ k → j < k
      lower j k lt ne = grind arith

      one_number : (a b : ℕ) → Some a ≡ Some b → a ≡ b
      one_number a b e = cc

  -- each lane below the count spares the copy
  lane_below : (object copy count : ℕ) → lanes_spare known object copy count ≡ true → (l : ℕ) → l < count → lane_spares (known (LaneWord l)) (known (ForwardWord object l)) copy ≡ true
  lane_below object copy zero e l lt = absurd (omega (arith, lt))
  lane_below object copy (suc k) e l lt =
      let parts = and_parts (lane_spares (known (LaneWord k)) (known (ForwardWord object k)) copy) (lanes_spare known object copy k) e in
      dite (ℕ_discrete l k)
      (λ same. subst (λ n. lane_spares (known (LaneWord n)) (known (ForwardWord object n)) copy ≡ true) (sym same) parts.0)
      (λ other. lane_below object copy k parts.1 l (less l k lt other))
    where
      less : (j i : ℕ) → j < suc i → j ≢ i → j < i
      less j i lt ne = grind arith

-- ---- the words themselves

module _ (told : Told) (id : ℕ) (v : MutView) (m : Moment) (words : List ℕ) (views : List View) (h : HoldsAt told m words views) (sits : Sits views id (Mut v))
    (available : ℕ) (shows : settles v available ≡ true) where
  abbrev w : World
  w = world_of told.terms m

  abbrev sizes : Sizes
  sizes = told.terms.sizes

  abbrev drawn : ℕ
  drawn = low_half (m.board ClockWord)

  tests : (is_alone v.gate.phase ≡ true)
      × (is_settled_at v.terms.sizes (length (world_after v.terms.shape v.terms.sizes v.journal.seen).kept) (words_known v) (words_known v ClockWord) available ≡ true)
  tests = and_parts (is_alone v.gate.phase)
      (is_settled_at v.terms.sizes (length (world_after v.terms.shape v.terms.sizes v.journal.seen).kept) (words_known v) (words_known v ClockWord) available) shows

  alone : v.gate.phase ≡ Alone
  alone = alone_is v.gate.phase tests.0

  told_is : v.terms ≡ told.terms
  told_is = h.seating.told id v sits

  -- what the view knows of a word that only who is alone changes is what it is
  known_is : (name : WordName) → HasWord (plan_of told.terms.sizes) name → stays_loaded Alone name ≡ true → (x : ℕ) → words_known v name ≡ Some x → m.board name ≡ x
  known_is name has stays x known = h.loaded_part.loaded id v sits name has (ap (λ p. stays_loaded p name) alone ∙ stays) x
      (ap (λ (t : Terms). word_loaded v.board.loaded (word_of (plan_of t.sizes) name)) (sym told_is) ∙ known)

  -- the tests are of the journal's rows and of the clock
  test_is : is_settled_at told.terms.sizes (length w.kept) (words_known v) (words_known v ClockWord) available ≡ true
  test_is = subst (λ (t : Terms × List Event).
      is_settled_at t.0.sizes (length (world_after t.0.shape t.0.sizes t.1).kept) (words_known v) (words_known v ClockWord) available ≡ true)
      (λ i. (told_is i, h.gate_part.alone_saw_journal id v sits alone i)) tests.1

  by_clock : (fits_rows told.terms.sizes (length w.kept) (low_half (m.board ClockWord)) available ≡ true)
      × (names_spared told.terms.sizes (words_known v) (free_known (words_known v) (low_half (m.board ClockWord)) available) ≡ true)
  by_clock = cases (words_known v ClockWord) refl test_is
    where
      cases : (o : Option ℕ) → words_known v ClockWord ≡ o → is_settled_at told.terms.sizes (length w.kept) (words_known v) o available ≡ true
          → (fits_rows told.terms.sizes (length w.kept) (low_half (m.board ClockWord)) available ≡ true)
          × (names_spared told.terms.sizes (words_known v) (free_known (words_known v) (low_half (m.board ClockWord)) available) ≡ true)
      cases None known e = absurd cc
      cases (Some clock) known e =
          let is : m.board ClockWord ≡ clock = known_is ClockWord tt refl clock known in
          subst (λ x. (fits_rows told.terms.sizes (length w.kept) (low_half x) available ≡ true)
          × (names_spared told.terms.sizes (words_known v) (free_known (words_known v) (low_half x) available) ≡ true)) (sym is)
          (and_parts (fits_rows told.terms.sizes (length w.kept) (low_half clock) available)
          (names_spared told.terms.sizes (words_known v) (free_known (words_known v) (low_half clock) available)) e)

  -- the rows kept, by the copies drawn
  fits : (available ≤ told.terms.sizes.copies) × (length w.kept + available ≡ told.terms.sizes.copies + (if nat_le drawn available then drawn else available))
  fits = let parts = and_parts (nat_le available told.terms.sizes.copies)
      (length w.kept + available == told.terms.sizes.copies + (if nat_le drawn available then drawn else available)) by_clock.0 in
      (le_is available told.terms.sizes.copies parts.0, same_numbers (length w.kept + available) (told.terms.sizes.copies + (if nat_le drawn available then drawn else available)) parts.1)

  smaller : (a b : ℕ) → a ≤ b → (if nat_le a b then a else b) ≡ a
  smaller a b le = ap (λ t. if t then a else b) (le_is_true a b le)

  not_smaller : (a b : ℕ) → b ≤ a → (if nat_le a b then a else b) ≡ b
  not_smaller a b le = cases (nat_le a b) refl
    where
      cases : (t : Bool) → nat_le a b ≡ t → (if t then a else b) ≡ b
      cases true e = let up = le_is a b e in omega (arith, up, le)
      cases false e = refl

  -- each entry of the free list
  entry : (i : ℕ) → drawn ≤ i → i < available → IsSparedEntry told.terms.sizes (words_known v) i
  entry i le lt = entries told.terms.sizes (words_known v) drawn available by_clock.1 i le lt

  in_list : (i : ℕ) → i < available → i < told.terms.sizes.copies
  in_list i lt = let most = fits.0 in omega (arith, lt, most)

  free_is : (i : ℕ) (le : drawn ≤ i) (lt : i < available) → m.board (FreeWord i) ≡ (entry i le lt).copy
  free_is i le lt = known_is (FreeWord i) (in_list i lt) refl (entry i le lt).copy (entry i le lt).known_is

  differ : (i j : ℕ) → drawn ≤ i → i < j → j < available → m.board (FreeWord i) ≡ m.board (FreeWord j) → ⊥
  differ i j le less lt same =
      let below : i < available = omega (arith, less, lt) in
      let above : drawn ≤ j = omega (arith, le, less) in
      let a = entry i le below in
      let b = entry j above lt in
      let one : a.copy ≡ b.copy = sym (free_is i le below) ∙ same ∙ free_is j above lt in
      apart_below told.terms.sizes (words_known v) drawn available by_clock.1 i j b.copy le less lt (a.known_is ∙ ap Some one) b.known_is

  -- an object that a check's forwarding word names a copy of exists, and is not 0
  nonzero : (o : ℕ) (x : Object) → w.heap o ≡ Some x → o ≢ 0
  nonzero o x is none = ⊎_elim (λ shared. absurd (omega (arith, shared, none))) (λ made. absurd (let n = made.number in omega (arith, n, none)))
      ((sound told id v m words views h sits).regions.objects o x is)

  module _ (o l c : ℕ) (named : IsNamed told.terms.sizes (world_of told.terms m) (λ l. m.board (LaneWord l)) (λ o l. m.board (ForwardWord o l)) o l c) where
    launched : 1 ≤ m.board (LaneWord l)
    launched = ((sound told id v m words views h sits).active.launched (m.board (LaneWord l)) named.active).0

    noted : (is_kept w.kept o (m.board (LaneWord l)) ≡ true)
    noted = (h.kept_part.named_kept o l c named).0

    there : (x : Object) × (w.heap o ≡ Some x)
    there = cases (w.heap o) refl
      where
        cases : (z : Option Object) → w.heap o ≡ z → (x : Object) × (w.heap o ≡ Some x)
        cases None none =
            let since = ((sound told id v m words views h sits).copies.kept_noted o (m.board (LaneWord l)) noted).changed in
            let stamp = (sound told id v m words views h sits).stamps.unmade o none in
            absurd (let first = launched in omega (arith, since, stamp, first))
        cases (Some x) is = (x, is)

    -- word 0 of the copy is the object's number
    number_is : m.board (CopyWord c 0) ≡ o
    number_is =
        let note = (sound told id v m words views h sits).copies.kept_noted o (m.board (LaneWord l)) noted in
        let at = h.lane_part.lanes l o note.launch named.within named.active note.launched note.stood in
        ⊎_elim
        (λ copied. ap (λ k. m.board (CopyWord k 0)) (one c copied.0 (sym named.low ∙ copied.1)) ∙ copied.3.number)
        (λ gone. absurd (named.kept gone.0))
        (at.forwarded named.epoch)
      where
        one : (a b : ℕ) → suc a ≡ suc b → a ≡ b
        one a b e = omega (arith, e)

    lane_not : (check word : Option ℕ) → lane_spares check word c ≡ true → ((n : ℕ) → check ≡ Some n → m.board (LaneWord l) ≡ n) → ((n : ℕ) → word ≡ Some n → m.board (ForwardWord o l) ≡ n) → ⊥
    lane_not None word e is_check is_word = absurd cc
    lane_not (Some n) None e is_check is_word = let none = same_numbers n 0 e in let is = is_check n refl in absurd (let first = launched in omega (arith, none, is, first))
    lane_not (Some n) (Some x) e is_check is_word = ⊎_elim
        (λ idle. let none = same_numbers n 0 idle in let is = is_check n refl in absurd (let first = launched in omega (arith, none, is, first)))
        (λ spares. not_both ((high_half x == n) && (low_half x == suc c)) spares
        (both_true (high_half x == n) (low_half x == suc c)
        (eq-eqb (high_half x) n (ap high_half (sym (is_word x refl)) ∙ named.epoch ∙ is_check n refl))
        (eq-eqb (low_half x) (suc c) (ap low_half (sym (is_word x refl)) ∙ named.low))))
        (or_cases (n == 0) (not ((high_half x == n) && (low_half x == suc c))) e)
      where
        both_true : (a b : Bool) → a ≡ true → b ≡ true → (a && b) ≡ true
        both_true true b p q = q
        both_true false b p q = absurd cc

    -- so the copy passes at no entry of the list
    not_spared : (object : Option ℕ) → copy_is_spared (words_known v) told.terms.sizes.lanes object c ≡ true → ((n : ℕ) → object ≡ Some n → m.board (CopyWord c 0) ≡ n) → ⊥
    not_spared None e is = absurd cc
    not_spared (Some n) e is = ⊎_elim
        (λ none. nonzero o there.0 there.1 (sym number_is ∙ is n refl ∙ same_numbers n 0 none))
        (λ lanes.
        let object_is : n ≡ o = sym (is n refl) ∙ number_is in
        let at_o = subst (λ k. lane_spares (words_known v (LaneWord l)) (words_known v (ForwardWord k l)) c ≡ true) object_is
        (lane_below told.terms.sizes (words_known v) n c told.terms.sizes.lanes lanes l named.within) in
        let cell = exists_within told.terms.sizes w o (sound told id v m words views h sits).regions (subst (λ (z : Option Object). IsSome z) (sym there.1) refl) in
        lane_not (words_known v (LaneWord l)) (words_known v (ForwardWord o l)) at_o
        (λ k known. known_is (LaneWord l) named.within refl k known) (λ k known. known_is (ForwardWord o l) (cell, named.within) refl k known))
        (or_cases (n == 0) (lanes_spare (words_known v) n c told.terms.sizes.lanes) e)

    not_free : (i : ℕ) → drawn ≤ i → i < available → m.board (FreeWord i) ≢ c
    not_free i le lt same =
        let e = entry i le lt in
        let is : e.copy ≡ c = sym (free_is i le lt) ∙ same in
        not_spared (words_known v (CopyWord c 0))
        (subst (λ k. copy_is_spared (words_known v) told.terms.sizes.lanes (words_known v (CopyWord k 0)) k ≡ true) is e.spared)
        (λ n known. known_is (CopyWord c 0) (subst (λ k. k < told.terms.sizes.copies) is e.within, omega arith) refl n known)

  -- what the view shows stands
  pub shown_settled : IsSettled told.terms.sizes (world_of told.terms m) m.board available
  shown_settled = record {
    listed = fits.0;
    some_left = λ le. fits.1 ∙ ap (λ k. told.terms.sizes.copies + k) (smaller drawn available le);
    none_left = λ le. let sum = fits.1 ∙ ap (λ k. told.terms.sizes.copies + k) (not_smaller drawn available le) in omega (arith, sum);
    named = λ i le lt. subst (λ k. k < told.terms.sizes.copies) (sym (free_is i le lt)) (entry i le lt).within;
    once = λ i j le lt le' lt' same. dite (ℕ_discrete i j)
        (λ e. e)
        (λ other. ⊎_elim
        (λ less. absurd (differ i j le less lt' same))
        (λ more. absurd (differ j i le' more lt (sym same)))
        (less_or_more i j other));
    spared = λ o l c named i le lt. not_free o l c named i le lt;
  }
    where
      less_or_more : (i j : ℕ) → i ≢ j → (i < j) ⊎ (j < i)
      less_or_more i j ne = grind arith
