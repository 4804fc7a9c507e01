-- From what the three steps tell to what the read says.
use Rattle.std.proofs.Common.{◌≡◌, ◌≢◌, ℕ, ◌+◌, ◌-◌, ◌<◌, ◌≤◌, ◌==◌, ◌&&◌, not, Bool, true, false, Option, Some, None}
use Rattle.std.proofs.Common.{sym, refl, ap, subst, ◌∙◌, arith, eq-eqb, ne_eqb}
use Rattle.std.specs.Prelude.{IsSome}
use mathlib.Core.List.{IsPrefix}
use Rattle.std.proofs.lemmas.Option.{slice_get_within}
use Rattle.st_layout.specs.declared.limits.TheConstants.{MOST_FIELDS}
use Rattle.st_layout.specs.Packed.{high_half, low_half}
use Rattle.st_events.specs.Heap.{Heap, Object, word_at, word_of as word_in}
use Rattle.st_events.proofs.HeapLemmas.{kinds_are_few}
use Rattle.st_events.proofs.SoundLemmas.{legal_is_sound}
use Rattle.st_rule.specs.declared.forwards.TheConstants.{LOST}
use Rattle.st_rule.specs.declared.views.HalfRead.{HalfRead}
use Rattle.st_rule.specs.declared.views.LaneView.{LaneView}
use Rattle.st_rule.specs.Holding.{word_or_zero}
use Rattle.st_rule.specs.LaneSeats.{LaneValue, IsFairLane, IsSameLane, FindsField, FindsForward, FindsCopy}
use Rattle.st_rule.specs.Reading.{past_of, names_copy, with_target, forward_read, copy_read, IsSecondHalf, TellsOfVersion}
use Rattle.st_rule.proofs.DrawEvents.{cell_word}
use Rattle.st_rule.proofs.LaneSteps.{object_of_cell}
use Rattle.st_reader.specs.Reads.{IsLostTo, LeavesLane, CountsSteps, HasLive, LoadsLive, LoadsForward, LoadsBoth}

one_word : (a b : ℕ) → Some a ≡ Some b → a ≡ b
one_word a b e = cc

-- a field of an object of the past is one of the most
pub field_few : (u : LaneView) (obj f : ℕ) → IsFairLane u → IsSome (word_at (past_of u) obj f) → f < MOST_FIELDS
field_few u obj f fair cell = within (past_of u obj) refl cell
  where
    within : (z : Option Object) → past_of u obj ≡ z → IsSome (word_in z f) → f < MOST_FIELDS
    within None e i = absurd cc
    within (Some x) e i = at_word (word_in (Some x) f) refl i
      where
        at_word : (o : Option ℕ) → word_in (Some x) f ≡ o → IsSome o → f < MOST_FIELDS
        at_word None e' i' = absurd cc
        at_word (Some word) e' i' =
            let sound = legal_is_sound u.terms.shape u.terms.sizes fair.shape_fits u.past fair.legal_past in
            let few = kinds_are_few u.terms.shape fair.shape_fits x.class in
            let lt = slice_get_within x.words f word e' in
            let same = sound.typed.lengths obj x e in
            omega (arith, few, lt, same)

-- an object with a cell in the past stood in the past
pub object_stood : (u : LaneView) (obj field : ℕ) → IsSome (word_at (past_of u) obj field) → IsSome (past_of u obj)
object_stood u obj field cell = object_of_cell (past_of u obj) field cell

-- the first half and then the second are both
pub loads_both :
    (a b c : LaneValue) (obj field value word : ℕ) → LoadsLive obj field value a b → LoadsForward word b c
    → LoadsBoth obj field value word a c
loads_both a b c obj field value word live forward = record { between = b; live = live; forward = forward }

module _ (before one : LaneValue) (obj field value : ℕ) (cell : IsSome (word_at (past_of before.view) obj field)) (first : LoadsLive obj field value before one) where
  abbrev finds : FindsField obj field before.view one.view
  finds = first.finds

  value_is : finds.word ≡ value
  value_is = one_word finds.word value (sym (ap (λ (x : LaneView). x.tally.found) finds.view) ∙ first.found)

  abbrev half : HalfRead
  half = record { object = obj; field = field; value = value; forward = None }

  read_is : one.view.read ≡ Some (record { object = obj; field = field; value = value; forward = None })
  read_is = ap (λ (x : LaneView). x.read) finds.view ∙ ap (λ k. Some (record { object = obj; field = field; value = k; forward = None })) value_is

  pub past_is : past_of one.view ≡ past_of before.view
  past_is = ap past_of finds.view

  pub check_is : one.view.check ≡ before.view.check
  check_is = ap (λ (x : LaneView). x.check) finds.view

  -- the first half is done, of a cell of the past
  pub has_live : HasLive obj field one
  has_live = record {
    half = record { half = half; read = read_is; unforwarded = refl; object_is = refl };
    cell = subst (λ (h : Heap). IsSome (word_at h obj field)) (sym past_is) cell;
  }

  module _ (two : LaneValue) (word : ℕ) (second : LoadsForward word one two) where
    abbrev tells : FindsForward one.view two.view
    tells = second.finds

    word_is : tells.word ≡ word
    word_is = one_word tells.word word (sym (ap (λ (x : LaneView). x.tally.found) tells.view) ∙ second.found)

    told : TellsOfVersion one.view half word tells.seen
    told = subst (λ k. TellsOfVersion one.view half k tells.seen) word_is (tells.tells half read_is)

    -- the forwarding word is of another epoch: the live word counts
    pub live : high_half word ≢ before.view.check → word_at (past_of before.view) obj field ≡ Some value
    live apart = cell_word (past_of before.view) obj field value cell
        (ap (λ (h : Heap). word_or_zero h obj field) (sym past_is) ∙ sym (told.live (λ e. apart (e ∙ check_is))))

    -- it is the check's, and says lost
    pub lost : high_half word ≡ before.view.check → low_half word ≡ LOST → IsLostTo two.view obj
    lost epoch is_lost' = subst (λ (x : LaneView). IsLostTo x obj) (sym tells.view) (told.lost (epoch ∙ sym check_is) is_lost')

    -- it is the check's, and names a copy
    names_is : high_half word ≡ before.view.check → low_half word ≢ LOST → names_copy one.view.check tells.word ≡ true
    names_is epoch kept = subst (λ k. names_copy one.view.check k ≡ true) (sym word_is)
        (both (high_half word == one.view.check) (low_half word == LOST) (eq-eqb (high_half word) one.view.check (epoch ∙ sym check_is)) (ne_eqb (low_half word) LOST kept))
      where
        both : (a b : Bool) → a ≡ true → b ≡ false → (a && not b) ≡ true
        both true true e f = absurd cc
        both true false e f = refl
        both false b e f = absurd cc

    pub second_half : high_half word ≡ before.view.check → low_half word ≢ LOST → (copy : ℕ) → copy ≡ low_half word - 1 → IsSecondHalf two.view copy field
    second_half epoch kept copy is_copy =
        let c = told.copy (epoch ∙ sym check_is) kept in
        let low = c.1 in
        let one_copy : c.0 ≡ copy = omega (arith, low, is_copy) in
        record {
          half = record half { forward = Some word };
          read = ap (λ (x : LaneView). x.read) tells.view ∙ ap (λ b. with_target b tells.word one.view.read) (names_is epoch kept)
              ∙ ap (with_target true tells.word) read_is ∙ ap (λ k. Some (record half { forward = Some k })) word_is;
          word = word;
          forwarded = refl;
          names = omega (arith, low, is_copy);
          field_is = refl;
          within = subst (λ (t : ℕ × LaneView). t.0 < t.1.terms.sizes.copies) (λ i. (one_copy i, sym (terms_two) i)) c.2;
        }
      where
        terms_two : two.view ≡ forward_read tells.word tells.seen one.view
        terms_two = tells.view

    pub low_some : high_half word ≡ before.view.check → low_half word ≢ LOST → 1 ≤ low_half word
    low_some epoch kept = let low = (told.copy (epoch ∙ sym check_is) kept).1 in omega (arith, low)

    -- what two steps leave
    pub leaves_two : two.view.read ≡ None → LeavesLane before two
    leaves_two quiet = record {
      table = second.same.table ∙ first.same.table;
      id = second.same.id ∙ first.same.id;
      terms = ap (λ (x : LaneView). x.terms) tells.view ∙ ap (λ (x : LaneView). x.terms) finds.view;
      lane = ap (λ (x : LaneView). x.lane) tells.view ∙ ap (λ (x : LaneView). x.lane) finds.view;
      check = ap (λ (x : LaneView). x.check) tells.view ∙ check_is;
      past = ap (λ (x : LaneView). x.past) tells.view ∙ ap (λ (x : LaneView). x.past) finds.view;
      goes_on = subst (λ (t : LaneView × LaneView). IsPrefix t.0.seen t.1.seen) (λ i. (finds.view i, sym tells.view i)) tells.goes_on;
      legal = second.fair.legal;
      fair = second.fair;
      quiet = quiet;
    }

    -- a read whose forwarding word names no copy is done
    pub done_two : ((high_half word == before.view.check) && not (low_half word == LOST)) ≡ false → two.view.read ≡ None
    done_two none = ap (λ (x : LaneView). x.read) tells.view
        ∙ ap (λ b. with_target b tells.word one.view.read) ((λ i. (high_half (word_is i) == check_is i) && not (low_half (word_is i) == LOST)) ∙ none)

    steps_two : two.view.tally.steps ≡ before.view.tally.steps + 2
    steps_two =
        let a = ap (λ (x : LaneView). x.tally.steps) tells.view in
        let b = ap (λ (x : LaneView). x.tally.steps) finds.view in
        omega (arith, a, b)

    pub counts_two : (counted counted' : ℕ) → counted' ≡ counted + 2 → CountsSteps before.view two.view counted counted'
    counts_two counted counted' is = record { taken = 2; few = omega arith; seat = steps_two; count = is }

    module _ (three : LaneValue) (answer : ℕ) (same : IsSameLane two three) (fair : IsFairLane three.view) (copied : FindsCopy two.view three.view)
        (found : three.view.tally.found ≡ Some answer) (epoch : high_half word ≡ before.view.check) (kept : low_half word ≢ LOST) where
      answer_is : copied.word ≡ answer
      answer_is = one_word copied.word answer (sym (ap (λ (x : LaneView). x.tally.found) copied.view) ∙ found)

      past_two : past_of two.view ≡ past_of before.view
      past_two = ap past_of tells.view ∙ past_is

      pub copied_word : word_at (past_of before.view) obj field ≡ Some answer
      unfolding second_half
      copied_word =
          let names = second_half epoch kept (low_half word - 1) refl in
          let told' = copied.tells names.half names.read in
          cell_word (past_of before.view) obj field answer cell (ap (λ (h : Heap). word_or_zero h obj field) (sym past_two) ∙ sym told' ∙ answer_is)

      pub leaves_three : LeavesLane before three
      leaves_three = record {
        table = same.table ∙ second.same.table ∙ first.same.table;
        id = same.id ∙ second.same.id ∙ first.same.id;
        terms = ap (λ (x : LaneView). x.terms) copied.view ∙ ap (λ (x : LaneView). x.terms) tells.view ∙ ap (λ (x : LaneView). x.terms) finds.view;
        lane = ap (λ (x : LaneView). x.lane) copied.view ∙ ap (λ (x : LaneView). x.lane) tells.view ∙ ap (λ (x : LaneView). x.lane) finds.view;
        check = ap (λ (x : LaneView). x.check) copied.view ∙ ap (λ (x : LaneView). x.check) tells.view ∙ check_is;
        past = ap (λ (x : LaneView). x.past) copied.view ∙ ap (λ (x : LaneView). x.past) tells.view ∙ ap (λ (x : LaneView). x.past) finds.view;
        goes_on = subst (λ (t : LaneView × LaneView). IsPrefix t.0.seen t.1.seen)
            (λ i. (finds.view i, (ap (λ (x : LaneView). copy_read copied.word x) (sym tells.view) ∙ sym copied.view) i)) tells.goes_on;
        legal = fair.legal;
        fair = fair;
        quiet = ap (λ (x : LaneView). x.read) copied.view;
      }

      pub counts_three : (counted counted' : ℕ) → counted' ≡ counted + 3 → CountsSteps before.view three.view counted counted'
      counts_three counted counted' is =
          let more = ap (λ (x : LaneView). x.tally.steps) copied.view in
          let two' = steps_two in
          record { taken = 3; few = omega arith; seat = omega (arith, more, two'); count = is }
