-- What a legal event says, and when an event is legal
use Rattle.std.proofs.Common.{◌≡◌, ℕ, ◌+◌, ◌<◌, ◌≤◌, ◌==◌, cond, Bool, true, false, List, [], ◌∷◌, length, Option, Some, None}
use Rattle.std.proofs.Common.{refl, ap, arith, IsSome, nat_le, nat_lt}
use Rattle.std.proofs.lemmas.Bool.Decides.{nat_tests}
use Rattle.st_events.specs.Terms.{Args, New, Load, Store, Cas, Launch, Retire, Sizes, ShapeLists, Heap, Object, word_of, word_at, World, IsLegalNext}
use Rattle.st_events.specs.Terms.{next_object, fits_cell, LegalNew, LegalLoad, LegalStore, LegalCas, LegalLaunch, LegalRetire}
use Rattle.st_events.specs.Legal.{Rule, first_failing, rules_of, is_word, same_truth}
use Rattle.st_events.specs.LegalEvents.{TellOfEvents}
use Rattle.st_events.proofs.AmongLemmas.{same_number}
use Rattle.st_events.proofs.KeptLemmas.{and_parts, and_both}

-- ---- tests

-- a test of numbers as a fact
pub is_below : (a b : ℕ) → nat_lt a b ≡ true → a < b
is_below a b t = grind (arith, nat_tests)

-- the same of the test that allows equal numbers
pub is_at_most : (a b : ℕ) → nat_le a b ≡ true → a ≤ b
is_at_most a b t = grind (arith, nat_tests)

-- the same of the test for equal numbers
pub is_same : (a b : ℕ) → (a == b) ≡ true → a ≡ b
is_same a b t = grind (arith, nat_tests)

-- a fact as a test of numbers
pub below_holds : (a b : ℕ) → a < b → nat_lt a b ≡ true
below_holds a b h = grind (arith, nat_tests)

-- the same of the test that allows equal numbers
pub at_most_holds : (a b : ℕ) → a ≤ b → nat_le a b ≡ true
at_most_holds a b h = grind (arith, nat_tests)

-- the same of the test for equal numbers
pub same_holds : (a b : ℕ) → a ≡ b → (a == b) ≡ true
same_holds a b h = grind (arith, nat_tests)

-- two truths that test as the same are
same_truths : (a b : Bool) → same_truth a b ≡ true → a ≡ b
same_truths true true h = refl
same_truths true false h = cc
same_truths false true h = cc
same_truths false false h = refl

-- a truth is the same as itself
truth_is_itself : (b : Bool) → same_truth b b ≡ true
truth_is_itself true = refl
truth_is_itself false = refl

-- the word found is the one that the test asks for
word_found : (o : Option ℕ) (value : ℕ) → is_word o value ≡ true → o ≡ Some value
word_found None value h = cc
word_found (Some found) value h = ap Some (is_same found value h)

-- an object with a cell exists
pub cell_has_object : (heap : Heap) (obj field : ℕ) → IsSome (word_at heap obj field) → IsSome (heap obj)
cell_has_object heap obj field some = there (heap obj) some
  where
    there : (o : Option Object) → IsSome (word_of o field) → IsSome o
    there None i = cc
    there (Some x) i = refl

-- ---- rules

-- each rule holds
abbrev AllHold : List Rule → Type 0
AllHold [] = Unit {0}
AllHold (rule ∷ rules) = (rule.holds ≡ true) × AllHold rules

-- a list of rules of which none fails begins with one that holds, and none of the others fails
first_rule_holds :
    (rule : Rule) (rules : List Rule)
    → first_failing (rule ∷ rules) ≡ None
    → (rule.holds ≡ true) × (first_failing rules ≡ None)
first_rule_holds rule rules n = cases rule.holds refl n
  where
    cases :
        (b : Bool)
        → rule.holds ≡ b
        → cond b (first_failing rules) (Some rule.reason) ≡ None
        → (rule.holds ≡ true) × (first_failing rules ≡ None)
    cases true e n = (e, n)
    cases false e n = cc

-- where no rule fails, each holds
all_hold : (rules : List Rule) → first_failing rules ≡ None → AllHold rules
all_hold [] n = tt
all_hold (rule ∷ rules) n = let h = first_rule_holds rule rules n in (h.0, all_hold rules h.1)

-- where each holds, none fails
none_fails : (rules : List Rule) → AllHold rules → first_failing rules ≡ None
none_fails [] h = refl
none_fails (rule ∷ rules) h = rw h.0 (none_fails rules h.1)

-- a legal Cas asks of its value what a Store of it asks
pub cas_stores :
    (shape : ShapeLists) (sizes : Sizes) (w : World) (m obj field expect value : ℕ) (done : Bool)
    → LegalCas shape sizes w m obj field expect value done
    → LegalStore shape sizes w m obj field value
cas_stores shape sizes w m obj field expect value done l = record { thread = l.thread; cell = l.cell; kind = l.kind }

-- ---- what a legal event says

-- of a New
pub legal_new :
    (shape : ShapeLists) (sizes : Sizes) (w : World) (m obj class : ℕ)
    → IsLegalNext shape sizes w (New m obj class)
    → LegalNew shape sizes w m obj class
legal_new shape sizes w m obj class l =
    let h = all_hold (rules_of shape sizes w (New m obj class)) l in
    let next = and_parts (obj == next_object sizes w m) (nat_lt (w.made m) sizes.objects) h.1.0 in
    let known = and_parts (nat_le 1 class) (nat_lt class (length shape.classes)) h.1.1.0 in
    record {
      thread = is_below m sizes.mutators h.0;
      object = is_same obj (next_object sizes w m) next.0;
      room = is_below (w.made m) sizes.objects next.1;
      some_class = is_at_most 1 class known.0;
      declared = is_below class (length shape.classes) known.1;
    }

-- of a Load
pub legal_load :
    (shape : ShapeLists) (sizes : Sizes) (w : World) (m obj field value : ℕ)
    → IsLegalNext shape sizes w (Load m obj field value)
    → LegalLoad sizes w m obj field value
legal_load shape sizes w m obj field value l =
    let h = all_hold (rules_of shape sizes w (Load m obj field value)) l in
    record { thread = is_below m sizes.mutators h.0; word = word_found (word_at w.heap obj field) value h.1.1.1.0 }

-- of a Store
pub legal_store :
    (shape : ShapeLists) (sizes : Sizes) (w : World) (m obj field value : ℕ)
    → IsLegalNext shape sizes w (Store m obj field value)
    → LegalStore shape sizes w m obj field value
legal_store shape sizes w m obj field value l =
    let h = all_hold (rules_of shape sizes w (Store m obj field value)) l in
    record { thread = is_below m sizes.mutators h.0; cell = h.1.1.0; kind = h.1.1.1.0 }

-- of a Cas
pub legal_cas :
    (shape : ShapeLists) (sizes : Sizes) (w : World) (m obj field expect value : ℕ) (done : Bool)
    → IsLegalNext shape sizes w (Cas m obj field expect value done)
    → LegalCas shape sizes w m obj field expect value done
legal_cas shape sizes w m obj field expect value done l =
    let h = all_hold (rules_of shape sizes w (Cas m obj field expect value done)) l in
    let kinds = and_parts (fits_cell shape w.heap obj field expect) (fits_cell shape w.heap obj field value) h.1.1.1.0 in
    record {
      thread = is_below m sizes.mutators h.0;
      cell = h.1.1.0;
      expected = kinds.0;
      kind = kinds.1;
      answer = same_truths done (is_word (word_at w.heap obj field) expect) h.1.1.1.1.0;
    }

-- of a Launch
pub legal_launch :
    (shape : ShapeLists) (sizes : Sizes) (w : World) (m number site : ℕ) (args : Args)
    → IsLegalNext shape sizes w (Launch m site number args)
    → LegalLaunch shape sizes w m number site args
legal_launch shape sizes w m number site args l =
    let h = all_hold (rules_of shape sizes w (Launch m site number args)) l in
    record {
      thread = is_below m sizes.mutators h.0;
      next_number = is_same number (w.epoch + 1) h.1.0;
      statement = is_below site (length shape.checks) h.1.1.0;
      arguments = h.1.1.1.0;
      lane = is_below (length w.active) sizes.lanes h.1.1.1.1.0;
    }

-- of a Retire
pub legal_retire :
    (shape : ShapeLists) (sizes : Sizes) (w : World) (m number : ℕ)
    → IsLegalNext shape sizes w (Retire m number)
    → LegalRetire sizes w m number
legal_retire shape sizes w m number l =
    let h = all_hold (rules_of shape sizes w (Retire m number)) l in
    record { thread = is_at_most m sizes.mutators h.0; active = h.1.0 }

-- ---- when an event is legal

-- a New is legal where its conditions hold
pub new_is_legal :
    (shape : ShapeLists) (sizes : Sizes) (w : World) (m obj class : ℕ)
    → LegalNew shape sizes w m obj class
    → IsLegalNext shape sizes w (New m obj class)
new_is_legal shape sizes w m obj class l =
    let next = and_both (obj == next_object sizes w m) (nat_lt (w.made m) sizes.objects) (same_holds obj (next_object sizes w m) l.object)
    (below_holds (w.made m) sizes.objects l.room) in
    let known = and_both (nat_le 1 class) (nat_lt class (length shape.classes)) (at_most_holds 1 class l.some_class) (below_holds class (length shape.classes) l.declared) in
    none_fails (rules_of shape sizes w (New m obj class)) (below_holds m sizes.mutators l.thread, (next, (known, tt)))

-- a Load is
pub load_is_legal :
    (shape : ShapeLists) (sizes : Sizes) (w : World) (m obj field value : ℕ)
    → LegalLoad sizes w m obj field value
    → IsLegalNext shape sizes w (Load m obj field value)
load_is_legal shape sizes w m obj field value l =
    none_fails (rules_of shape sizes w (Load m obj field value))
    (below_holds m sizes.mutators l.thread, (cell_has_object w.heap obj field (rw l.word refl), (rw l.word refl, (rw l.word (same_number value), tt))))

-- a Store is
pub store_is_legal :
    (shape : ShapeLists) (sizes : Sizes) (w : World) (m obj field value : ℕ)
    → LegalStore shape sizes w m obj field value
    → IsLegalNext shape sizes w (Store m obj field value)
store_is_legal shape sizes w m obj field value l =
    none_fails (rules_of shape sizes w (Store m obj field value))
    (below_holds m sizes.mutators l.thread, (cell_has_object w.heap obj field l.cell, (l.cell, (l.kind, tt))))

-- a Cas is
pub cas_is_legal :
    (shape : ShapeLists) (sizes : Sizes) (w : World) (m obj field expect value : ℕ) (done : Bool)
    → LegalCas shape sizes w m obj field expect value done
    → IsLegalNext shape sizes w (Cas m obj field expect value done)
cas_is_legal shape sizes w m obj field expect value done l =
    let kinds = and_both (fits_cell shape w.heap obj field expect) (fits_cell shape w.heap obj field value) l.expected l.kind in
    let answer : same_truth done (is_word (word_at w.heap obj field) expect) ≡ true = rw l.answer (truth_is_itself (is_word (word_at w.heap obj field) expect)) in
    none_fails (rules_of shape sizes w (Cas m obj field expect value done))
    (below_holds m sizes.mutators l.thread, (cell_has_object w.heap obj field l.cell, (l.cell, (kinds, (answer, tt)))))

-- a Launch is
pub launch_is_legal :
    (shape : ShapeLists) (sizes : Sizes) (w : World) (m number site : ℕ) (args : Args)
    → LegalLaunch shape sizes w m number site args
    → IsLegalNext shape sizes w (Launch m site number args)
launch_is_legal shape sizes w m number site args l =
    none_fails (rules_of shape sizes w (Launch m site number args)) (
      below_holds m sizes.mutators l.thread,
      (
        same_holds number (w.epoch + 1) l.next_number,
        (below_holds site (length shape.checks) l.statement, (l.arguments, (below_holds (length w.active) sizes.lanes l.lane, tt))),
      ),
    )

-- a Retire is
pub retire_is_legal :
    (shape : ShapeLists) (sizes : Sizes) (w : World) (m number : ℕ)
    → LegalRetire sizes w m number
    → IsLegalNext shape sizes w (Retire m number)
retire_is_legal shape sizes w m number l =
    none_fails (rules_of shape sizes w (Retire m number)) (at_most_holds m sizes.mutators l.thread, (l.active, tt))

-- both ways
pub events_are_told : TellOfEvents
events_are_told = record {
  new = λ shape sizes w m obj class. (legal_new shape sizes w m obj class, new_is_legal shape sizes w m obj class);
  load = λ shape sizes w m obj field value. (legal_load shape sizes w m obj field value, load_is_legal shape sizes w m obj field value);
  store = λ shape sizes w m obj field value. (legal_store shape sizes w m obj field value, store_is_legal shape sizes w m obj field value);
  cas = λ shape sizes w m obj field expect value done. (legal_cas shape sizes w m obj field expect value done, cas_is_legal shape sizes w m obj field expect value done);
  launch = λ shape sizes w m number site args. (legal_launch shape sizes w m number site args, launch_is_legal shape sizes w m number site args);
  retire = λ shape sizes w m number. (legal_retire shape sizes w m number, retire_is_legal shape sizes w m number);
}
