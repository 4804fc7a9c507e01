-- The table at the start meets the rule.
use Rattle.std.proofs.Common.{◌≡◌, ◌≢◌, ◌==◌, Bool, map, Some, None, ℕ, zero, suc, ◌+◌, ◌<◌, ◌≤◌, true, false, nat_lt, if◌then◌else◌, List, []}
use Rattle.std.proofs.Common.{◌∷◌, sym}
use Rattle.std.proofs.Common.{refl, subst, arith, inl}
use Rattle.std.proofs.lemmas.Bool.Decides.{nat_tests}
use mathlib.Core.List.{IsPrefix}
use mathlib.Core.Option.{some-injective, some-ne-none}
use Rattle.atomic_table.specs.Table.{opening}
use Rattle.st_events.specs.declared.limits.Sizes.{Sizes}
use Rattle.st_events.specs.Sizes.{AreWithinLimits}
use Rattle.st_events.specs.Shape.{ShapeLists}
use Rattle.st_events.specs.Legal.{IsLegal}
use Rattle.std.specs.Prelude.{All}
use Rattle.st_events.specs.World.{is_among}
use Rattle.st_rule.specs.declared.views.Phase.TheVariants.{Outside, Inside, Alone}
use Rattle.st_rule.specs.declared.views.Terms.{Terms}
use Rattle.st_rule.specs.declared.views.MutView.{MutView}
use Rattle.st_rule.specs.declared.views.View.{View}
use Rattle.st_rule.specs.declared.views.View.TheVariants.{Mut, Lane}
use Rattle.st_rule.specs.Board.{Displays, first_board, plan_of}
use Rattle.st_rule.specs.Parts.{Sits, HasLoaded, ObjectPart, IsJoined}
use Rattle.st_rule.specs.Entries.{own_entries}
use Rattle.st_rule.specs.Holding.{Holds}
use Rattle.st_rule.proofs.LoadedLemmas.{nothing_loaded}
use Rattle.st_events.specs.Shape.{IsWithinLimits, kinds_of}
use Rattle.st_events.specs.Heap.{Object, word_of, fresh}
use Rattle.st_events.specs.World.{first_world}
use Rattle.st_events.specs.declared.heaps.TheConstants.{SHARED_OBJECT}
use Rattle.st_events.specs.declared.shapes.Kind.{Kind}
use Rattle.std.specs.Option.{option_map}
use Rattle.std.specs.Prelude.{unwrap_or, slice_get}
use Rattle.st_rule.specs.Rule.{Told, Moment, IsSoundTable, first_view}
use Rattle.st_rule.specs.SeatValue.{KeepsSeat}
use Rattle.st_rule.specs.Views.{seen_by, is_closer}
use Rattle.st_rule.proofs.ViewLemmas.{mut_is}
use Rattle.st_rule.specs.Reading.{IsReading}
use Rattle.st_rule.proofs.ReadLemmas.{mut_is_no_lane}
use Rattle.st_rule.proofs.PrefixLemmas.{prefix_self}

-- no event is no illegal one
pub nothing_legal : (shape : ShapeLists) (sizes : Sizes) → IsLegal shape sizes []
unfolding IsLegal
nothing_legal shape sizes = tt

only_one : (P : ℕ → View → Type 0) (x : View) → P 0 x → (id : ℕ) (y : View) → Sits (x ∷ []) id y → P id y
only_one P x here zero y sits = subst (P 0) (some-injective x y sits) here
only_one P x here (suc id) y sits = absurd (some-ne-none y (sym sits))

only_mut : (P : ℕ → MutView → Type 0) (v : MutView) → P 0 v → (id : ℕ) (u : MutView) → Sits (Mut v ∷ []) id (Mut u) → P id u
only_mut P v here zero u sits = subst (P 0) (mut_is v u (some-injective (Mut v) (Mut u) sits)) here
only_mut P v here (suc id) u sits = absurd (some-ne-none (Mut u) (sym sits))

nobody_holds : (object : ℕ) → Holds None object → ⊥
nobody_holds object holds = let e : None ≡ Some holds.held = holds.is in absurd cc

-- the first heap has the shared object alone, with zeros
abbrev zeros : List Kind → List ℕ
zeros kinds = map (λ _. 0) kinds

zero_words : (kinds : List Kind) (f : ℕ) → unwrap_or (slice_get (zeros kinds) f) 0 ≡ 0
zero_words [] f = refl
zero_words (k ∷ ks) zero = refl
zero_words (k ∷ ks) (suc f) = zero_words ks f

first_words_zero : (shape : ShapeLists) (b : Bool) (f : ℕ) → unwrap_or (word_of (if b then Some (fresh shape 0) else None) f) 0 ≡ 0
first_words_zero shape true f = zero_words (kinds_of shape 0) f
first_words_zero shape false f = refl

first_classes_zero : (shape : ShapeLists) (b : Bool) → unwrap_or (option_map (λ (x : Object). x.class) (if b then Some (fresh shape 0) else None)) 0 ≡ 0
first_classes_zero shape true = refl
first_classes_zero shape false = refl

start_objects : (shape : ShapeLists) (sizes : Sizes)
    → ObjectPart sizes (first_world shape) (λ _. Outside) (λ _. None) (λ _. 0) (λ o. 0) (λ o. 0) (λ o f. 0) (λ o l. 0)
start_objects shape sizes = record {
  only_inside = λ n o holds. absurd (nobody_holds o holds);
  named = λ n o. ((λ holds. absurd (nobody_holds o holds)), (λ names. absurd (omega (arith, names))));
  headers = λ o. omega arith;
  stamps = λ n h is quiet. absurd cc;
  classes = λ o. sym (first_classes_zero shape (o == SHARED_OBJECT));
  fields = λ o f. sym (first_words_zero shape (o == SHARED_OBJECT) f);
  flying = λ n h x is flies. absurd cc;
  loaded = λ n h is f word found. absurd cc;
  stands = λ n o holds. absurd (nobody_holds o holds);
  unmade = λ o l none. refl;
}

module _ (told : Told) (fits : AreWithinLimits told.terms.sizes) (shape_fits : IsWithinLimits told.terms.shape)
    (words : List ℕ) (displays : Displays (plan_of told.terms.sizes) words (first_board (plan_of told.terms.sizes))) where
  abbrev v : MutView
  v = first_view told.terms

  abbrev m : Moment
  m = record { board = first_board (plan_of told.terms.sizes); journal = []; phase = λ _. Outside; grip = λ _. None; holder = λ _. 0; seat = λ _. 0; split = 0; since = 0; copy_of = λ _ _. 0 }

  pub start_sound : IsSoundTable told (opening words [] (Mut (first_view told.terms)))
  start_sound = (
    m,
    record {
      limits = fits;
      shape_limits = shape_fits;
      displayed = displays;
      journal_part = record {
        legal = nothing_legal told.terms.shape told.terms.sizes;
        prefixes = only_one (λ id x. IsPrefix (seen_by x) []) (Mut v) (prefix_self []);
        seen_whole = (0, v, refl, refl);
        tickets = omega arith;
        copies_drawn = omega arith;
        own = only_mut (λ id u. own_entries u.gate.number 0 [] ≡ u.journal.entries) v refl;
        own_seen = only_mut (λ id u. own_entries u.gate.number 0 u.journal.seen ≡ u.journal.entries) v refl;
        own_unsplit = λ n beyond below. refl;
        charged = λ n below. omega arith;
        paid = omega arith;
      };
      gate_part = record {
        flags = λ n within. refl;
        closer = λ n within. ((λ closes. absurd cc), (λ taken. absurd (omega (arith, taken))));
        nobody_closes = inl refl;
        clear = only_mut (λ id u. is_closer u.gate.phase ≡ true → (n : ℕ) → is_among u.gate.clear n ≡ true → Outside ≢ Inside) v (λ closes. absurd cc);
        alone_saw_all = only_mut (λ id u. u.gate.phase ≡ Alone → (n : ℕ) → n ≤ told.terms.sizes.mutators → n ≢ u.gate.number → is_among u.gate.clear n ≡ true) v
            (λ alone. absurd cc);
        alone_saw_journal = only_mut (λ id u. u.gate.phase ≡ Alone → u.journal.seen ≡ []) v (λ alone. refl);
        one_view_each = only_mut (λ id u. 0 ≡ id) v refl;
        split_off = only_mut (λ id u. u.gate.number < told.terms.sizes.mutators → u.gate.number < 0) v (λ below. absurd (omega (arith, below)));
      };
      board_part = record {
        epoch_is = refl;
        lanes = λ n active. absurd cc;
        idle = λ l within. inl refl;
      };
      loaded_part = record { loaded = only_mut (λ id u. HasLoaded (plan_of told.terms.sizes) m.board u) v (nothing_loaded (plan_of told.terms.sizes) m.board v refl) };
      object_part = start_objects told.terms.shape told.terms.sizes;
      lane_part = record {
        lanes = λ l object launch within active. absurd cc;
        epochs = λ object l. omega arith;
        owed = λ object l x flies. absurd cc;
        built = λ object x flies. absurd cc;
      };
      read_part = record {
        reads = λ id u there. only_one (λ id x. x ≡ Lane u → IsReading told.terms (first_world told.terms.shape) (λ l. 0) (λ o l. 0) u) (Mut v)
            (λ e. absurd (mut_is_no_lane v u e)) id (Lane u) there refl;
      };
      row_part = record { unwritten = λ check k none. refl };
      copy_part = record {
        some_left = λ few. omega arith;
        none_left = λ none. let c : told.terms.sizes.copies ≤ 0 = none in omega (arith, c);
        listed = omega arith;
        since_then = omega arith;
        named = λ i below. below;
        once = λ i j from below also under same. same;
        indexes = λ object x i flies. absurd cc;
        differ = λ o p x y i flies. absurd cc;
        spares_free = λ object l c named. absurd (let e : false ≡ true = named.active in cc);
        spares_built = λ object l c named. absurd (let e : false ≡ true = named.active in cc);
      };
      kept_part = record {
        within = λ o n kept. absurd cc;
        one_copy = λ o n k shared. absurd cc;
        rows_apart = λ o p n k kept. absurd cc;
        not_free = λ o n kept. absurd cc;
        named_kept = λ o l c named. absurd (let e : false ≡ true = named.active in cc);
        kept_named = λ o l within active. absurd cc;
        drew_copy = λ o l i x flies. absurd cc;
      };
      hand_part = record { joined = only_mut (λ id u. All (IsJoined m.seat 0 [] (Mut v ∷ []) u.journal.seen) u.hands.joined) v (λ k d within. absurd (omega (arith, within))) };
      seating = record {
        phases = only_mut (λ id u. Outside ≡ u.gate.phase) v refl;
        grips = only_mut (λ id u. None ≡ u.held) v refl;
        numbers = only_mut (λ id u. u.gate.number ≤ told.terms.sizes.mutators) v (omega arith);
        told = only_mut (λ id u. u.terms ≡ told.terms) v refl;
        counts = only_mut (λ id u. u.gate.number ≡ told.terms.sizes.mutators → u.gate.split ≡ 0) v (λ _. refl);
        seated = λ n. inl refl;
      };
    },
  )

not_below : (n : ℕ) → nat_lt n n ≡ false
not_below n = grind (arith, nat_tests)

no_less : (n count : ℕ) → 0 + zero ≡ (if nat_lt n n then count else 0)
no_less n count = rw (not_below n) refl

-- the main thread's seat at the start
pub first_kept : (terms : Terms) → AreWithinLimits terms.sizes → IsWithinLimits terms.shape → (capacity : ℕ) → KeepsSeat (Mut (first_view terms), []) terms.sizes.mutators 0 0 [] capacity
first_kept terms fits shape_fits capacity = record {
  mutator = refl;
  fair = record {
    within = omega arith;
    shape_fits = shape_fits;
    sizes_fit = fits;
    legal = nothing_legal terms.shape terms.sizes;
    own = refl;
    held_within = λ h is. absurd cc;
  };
  number_is = refl;
  entries_are = refl;
  reserved = omega arith;
  spare_is = no_less terms.sizes.mutators terms.sizes.events;
  room_is = no_less terms.sizes.mutators terms.sizes.objects;
}
