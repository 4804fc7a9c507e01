-- Events with one fault each, and the reasons that the definitions give, computed by the prover
use Rattle.std.proofs.Common.{◌≡◌, ℕ, true, false, List, [], ◌∷◌, map, Option, Some, None, refl}
use Rattle.st_events.specs.declared.errors.Why.{Why}
use Rattle.st_events.specs.declared.errors.Why.TheVariants.{WrongThread, WrongObject, WrongField, WrongNumber, WrongSite, WrongValue, WrongDone, NoLane}
use Rattle.st_events.specs.declared.shapes.Kind.TheVariants.{Int, Bool as Truth, Ref}
use Rattle.st_events.specs.Terms.{Args, Event, New, Load, Store, Cas, Launch, Retire, Sizes, ShapeLists, world_after, illegal_reason}

-- one shared number; class 1 of a number, a truth and a reference to its own, class 2 of a number; a check without arguments, one of
-- an object of class 1, and one of such an object and a truth
abbrev shape : ShapeLists
shape = record {
  classes = (Int ∷ []) ∷ (Int ∷ Truth ∷ Ref 1 ∷ []) ∷ (Int ∷ []) ∷ [];
  checks = [] ∷ (Ref 1 ∷ []) ∷ (Ref 1 ∷ Truth ∷ []) ∷ [];
}

-- two threads, one lane, two objects each
abbrev sizes : Sizes
sizes = record { mutators = 2; lanes = 1; objects = 2; copies = 4; events = 100; calls = 10 }

-- so many arguments, the first two words of which are these
abbrev args : ℕ → ℕ → ℕ → Args
args count first second = record { count = count; words = first ∷ second ∷ 0 ∷ 0 ∷ [] }

-- the first reason why an event is not legal after these
abbrev reason_after : List Event → Event → Option Why
reason_after es e = illegal_reason shape sizes (world_after shape sizes es) e

-- an object of class 1, and one of class 2
abbrev two_objects : List Event
two_objects = New 0 2 1 ∷ New 0 3 2 ∷ []

-- ---- kinds

own_class : reason_after two_objects (Store 0 2 2 2) ≡ None
own_class = refl

higher_class : reason_after two_objects (Store 0 2 2 3) ≡ Some WrongValue
higher_class = refl

lower_class : reason_after two_objects (Store 0 2 2 1) ≡ Some WrongValue
lower_class = refl

no_object : reason_after two_objects (Store 0 2 2 4) ≡ Some WrongValue
no_object = refl

null : reason_after two_objects (Store 0 2 2 0) ≡ None
null = refl

no_truth : reason_after two_objects (Store 0 2 1 2) ≡ Some WrongValue
no_truth = refl

-- ---- arguments

both_fit : reason_after two_objects (Launch 0 2 1 (args 2 2 1)) ≡ None
both_fit = refl

second_is_no_truth : reason_after two_objects (Launch 0 2 1 (args 2 2 2)) ≡ Some WrongValue
second_is_no_truth = refl

first_is_of_another_class : reason_after two_objects (Launch 0 2 1 (args 2 3 1)) ≡ Some WrongValue
first_is_of_another_class = refl

too_many : reason_after two_objects (Launch 0 1 1 (args 2 2 0)) ≡ Some WrongValue
too_many = refl

too_few : reason_after two_objects (Launch 0 2 1 (args 1 2 0)) ≡ Some WrongValue
too_few = refl

unused_word : reason_after two_objects (Launch 0 1 1 (args 1 2 1)) ≡ Some WrongValue
unused_word = refl

-- ---- NoLane comes last

abbrev full_lanes : List Event
full_lanes = Launch 0 0 1 (args 0 0 0) ∷ []

number_before_lane : reason_after full_lanes (Launch 0 0 3 (args 0 0 0)) ≡ Some WrongNumber
number_before_lane = refl

site_before_lane : reason_after full_lanes (Launch 0 3 2 (args 0 0 0)) ≡ Some WrongSite
site_before_lane = refl

value_before_lane : reason_after full_lanes (Launch 0 1 2 (args 1 1 0)) ≡ Some WrongValue
value_before_lane = refl

no_lane : reason_after full_lanes (Launch 0 0 2 (args 0 0 0)) ≡ Some NoLane
no_lane = refl

-- ---- compare and set

not_done_with_wrong_kind : reason_after two_objects (Cas 0 2 1 1 2 false) ≡ Some WrongValue
not_done_with_wrong_kind = refl

expected_wrong_kind : reason_after two_objects (Cas 0 2 1 2 1 false) ≡ Some WrongValue
expected_wrong_kind = refl

not_done : reason_after two_objects (Cas 0 2 1 1 0 false) ≡ None
not_done = refl

done : reason_after two_objects (Cas 0 2 1 1 0 true) ≡ Some WrongDone
done = refl

-- ---- regions

first_of_second : reason_after [] (New 1 4 1) ≡ None
first_of_second = refl

first_of_second_later : reason_after two_objects (New 1 4 1) ≡ None
first_of_second_later = refl

second_of_second : reason_after [] (New 1 5 1) ≡ Some WrongObject
second_of_second = refl

of_another : reason_after [] (New 1 2 1) ≡ Some WrongObject
of_another = refl

full_region : reason_after two_objects (New 0 4 1) ≡ Some WrongObject
full_region = refl

shared_class : reason_after [] (New 0 2 0) ≡ Some WrongField
shared_class = refl

-- ---- the main thread only retires

main_makes_none : reason_after full_lanes (New 2 6 1) ≡ Some WrongThread
main_makes_none = refl

main_loads_none : reason_after full_lanes (Load 2 1 0 0) ≡ Some WrongThread
main_loads_none = refl

main_stores_none : reason_after full_lanes (Store 2 1 0 5) ≡ Some WrongThread
main_stores_none = refl

main_sets_none : reason_after full_lanes (Cas 2 1 0 0 5 true) ≡ Some WrongThread
main_sets_none = refl

main_launches_none : reason_after [] (Launch 2 0 1 (args 0 0 0)) ≡ Some WrongThread
main_launches_none = refl

main_retires : reason_after full_lanes (Retire 2 1) ≡ None
main_retires = refl

nobody_retires : reason_after full_lanes (Retire 3 1) ≡ Some WrongThread
nobody_retires = refl

-- ---- the reasons of one event, in their order: after one object of class 1, with one thread, one lane and two objects
abbrev one_thread : Sizes
one_thread = record { mutators = 1; lanes = 1; objects = 2; copies = 4; events = 100; calls = 10 }

abbrev reason_of : Event → Option Why
reason_of e = illegal_reason shape one_thread (world_after shape one_thread (New 0 2 1 ∷ [])) e

reasons_of_new :
    map reason_of (New 1 9 9 ∷ New 0 2 9 ∷ New 0 4 1 ∷ New 0 3 0 ∷ New 0 3 3 ∷ New 0 3 2 ∷ [])
    ≡ Some WrongThread ∷ Some WrongObject ∷ Some WrongObject ∷ Some WrongField ∷ Some WrongField ∷ None ∷ []
reasons_of_new = refl

reasons_of_load :
    map reason_of (Load 1 9 9 9 ∷ Load 0 0 9 9 ∷ Load 0 1 1 9 ∷ Load 0 2 0 9 ∷ Load 0 2 0 0 ∷ [])
    ≡ Some WrongThread ∷ Some WrongObject ∷ Some WrongField ∷ Some WrongValue ∷ None ∷ []
reasons_of_load = refl

reasons_of_store :
    map reason_of (Store 1 9 9 9 ∷ Store 0 3 0 9 ∷ Store 0 2 3 9 ∷ Store 0 2 1 2 ∷ Store 0 2 2 1 ∷ Store 0 2 2 3 ∷ [])
    ≡ Some WrongThread ∷ Some WrongObject ∷ Some WrongField ∷ Some WrongValue ∷ Some WrongValue ∷ Some WrongValue ∷ []
reasons_of_store = refl

reasons_of_cas :
    map reason_of (
    Cas 1 9 9 9 9 true ∷ Cas 0 9 9 9 9 true ∷ Cas 0 2 9 9 9 true ∷ Cas 0 2 1 2 0 true ∷ Cas 0 2 1 0 2 true ∷ Cas 0 2 1 1 2 false ∷ Cas 0 2 1 0 1 false
    ∷ Cas 0 2 1 1 0 true ∷ []
    )
    ≡ Some WrongThread ∷ Some WrongObject ∷ Some WrongField ∷ Some WrongValue ∷ Some WrongValue ∷ Some WrongValue ∷ Some WrongDone ∷ Some WrongDone ∷ []
reasons_of_cas = refl

reasons_of_launch :
    map reason_of (
    Launch 1 9 9 (args 0 0 0) ∷ Launch 0 9 2 (args 0 0 0) ∷ Launch 0 0 0 (args 0 0 0) ∷ Launch 0 3 1 (args 0 0 0) ∷ Launch 0 1 1 (args 0 0 0)
    ∷ Launch 0 1 1 (args 1 1 0) ∷ Launch 0 1 1 (args 1 2 7) ∷ Launch 0 1 1 (args 2 2 0) ∷ Launch 0 2 1 (args 1 2 0) ∷ Launch 0 2 1 (args 2 2 2) ∷ []
    )
    ≡ Some WrongThread ∷ Some WrongNumber ∷ Some WrongNumber ∷ Some WrongSite ∷ Some WrongValue ∷ Some WrongValue ∷ Some WrongValue ∷ Some WrongValue
    ∷ Some WrongValue ∷ Some WrongValue ∷ []
reasons_of_launch = refl

reasons_of_retire : map reason_of (Retire 2 1 ∷ Retire 1 1 ∷ []) ≡ Some WrongThread ∷ Some WrongNumber ∷ []
reasons_of_retire = refl

-- a full set of lanes is the last reason of a Launch; a check is retired once, by any mutator or the main thread
abbrev reason_after_launch : Event → Option Why
reason_after_launch e = illegal_reason shape one_thread (world_after shape one_thread (Launch 0 0 1 (args 0 0 0) ∷ [])) e

reasons_after_a_launch :
    map reason_after_launch (
    Launch 0 0 3 (args 0 0 0) ∷ Launch 0 3 2 (args 0 0 0) ∷ Launch 0 1 2 (args 1 1 0) ∷ Launch 0 0 2 (args 0 0 0) ∷ Retire 0 1 ∷ Retire 1 1 ∷ Retire 2 1 ∷ []
    )
    ≡ Some WrongNumber ∷ Some WrongSite ∷ Some WrongValue ∷ Some NoLane ∷ None ∷ None ∷ Some WrongThread ∷ []
reasons_after_a_launch = refl
