-- Small journals, on which the definitions of a journal's history are computed: copies kept and versions lost, stamps, active
-- checks, launches, and the events of a thread
use Rattle.std.proofs.Common.{◌≡◌, ℕ, true, false, List, [], ◌∷◌, Option, Some, None, refl}
use Rattle.std.specs.Option.{option_map}
use Rattle.st_events.specs.Terms.{Event, New, Load, Store, Cas, Launch, Retire, Sizes, ShapeLists, word_at, Launched, world_after, first_world, illegal_reason}
use Rattle.st_events.specs.Terms.{heap_after, epoch_of, stamp_of, active_checks, needing, kept_rows, lost_pairs, launch_of, own_events, objects_of, has_launch}
use Rattle.st_events.specs.History.{made_by}
use Rattle.st_events.specs.declared.errors.Why.TheVariants.{NoLane, WrongField}
use Rattle.st_events.specs.declared.shapes.Kind.TheVariants.{Int}

-- one shared number, a class of one number, and a check without arguments
abbrev shape : ShapeLists
shape = record { classes = (Int ∷ []) ∷ (Int ∷ []) ∷ []; checks = [] ∷ [] }

-- two lanes and so many copies
abbrev sizes : ℕ → Sizes
sizes copies = record { mutators = 1; lanes = 2; objects = 4; copies = copies; events = 100; calls = 10 }

abbrev launch : ℕ → Event
launch number = Launch 0 0 number (record { count = 0; words = 0 ∷ 0 ∷ 0 ∷ 0 ∷ [] })

-- two checks share one copy, and it stays until both are retired
shared_copy : kept_rows shape (sizes 4) (launch 1 ∷ launch 2 ∷ Store 0 1 0 5 ∷ []) ≡ record { obj = 1; checks = 1 ∷ 2 ∷ [] } ∷ []
shared_copy = refl

after_one_retire : kept_rows shape (sizes 4) (launch 1 ∷ launch 2 ∷ Store 0 1 0 5 ∷ Retire 0 1 ∷ []) ≡ record { obj = 1; checks = 2 ∷ [] } ∷ []
after_one_retire = refl

after_both_retires : kept_rows shape (sizes 4) (launch 1 ∷ launch 2 ∷ Store 0 1 0 5 ∷ Retire 0 1 ∷ Retire 0 2 ∷ []) ≡ []
after_both_retires = refl

-- a second check needs the version that the first change left
a_copy_each : kept_rows shape (sizes 4) (launch 1 ∷ Store 0 1 0 5 ∷ launch 2 ∷ Store 0 1 0 6 ∷ []) ≡ record { obj = 1; checks = 1 ∷ [] } ∷ record { obj = 1; checks = 2 ∷ [] } ∷ []
a_copy_each = refl

-- a third launch has no lane
no_third_lane : illegal_reason shape (sizes 4) (world_after shape (sizes 4) (launch 1 ∷ Store 0 1 0 5 ∷ launch 2 ∷ Store 0 1 0 6 ∷ [])) (launch 3) ≡ Some NoLane
no_third_lane = refl

-- with one copy the version of the second object is lost, and that of the first is kept
one_copy_kept : kept_rows shape (sizes 1) (New 0 2 1 ∷ launch 1 ∷ Store 0 1 0 5 ∷ Store 0 2 0 6 ∷ []) ≡ record { obj = 1; checks = 1 ∷ [] } ∷ []
one_copy_kept = refl

second_lost : lost_pairs shape (sizes 1) (New 0 2 1 ∷ launch 1 ∷ Store 0 1 0 5 ∷ Store 0 2 0 6 ∷ []) ≡ record { obj = 2; check = 1 } ∷ []
second_lost = refl

-- a lost version stays lost, and the copy comes back
lost_after_retire : lost_pairs shape (sizes 1) (New 0 2 1 ∷ launch 1 ∷ Store 0 1 0 5 ∷ Store 0 2 0 6 ∷ Retire 0 1 ∷ []) ≡ record { obj = 2; check = 1 } ∷ []
lost_after_retire = refl

none_kept_after_retire : kept_rows shape (sizes 1) (New 0 2 1 ∷ launch 1 ∷ Store 0 1 0 5 ∷ Store 0 2 0 6 ∷ Retire 0 1 ∷ []) ≡ []
none_kept_after_retire = refl

-- a copy that a Retire gave back is given again
copy_given_again :
    kept_rows shape (sizes 1) (launch 1 ∷ Store 0 1 0 5 ∷ Retire 0 1 ∷ launch 2 ∷ Store 0 1 0 6 ∷ []) ≡ record { obj = 1; checks = 2 ∷ [] } ∷ []
copy_given_again = refl

none_lost_with_it : lost_pairs shape (sizes 1) (launch 1 ∷ Store 0 1 0 5 ∷ Retire 0 1 ∷ launch 2 ∷ Store 0 1 0 6 ∷ []) ≡ []
none_lost_with_it = refl

-- without copies each change loses its version for each check that needs it, and once
both_lost :
    lost_pairs shape (sizes 0) (launch 1 ∷ launch 2 ∷ Store 0 1 0 5 ∷ Store 0 1 0 6 ∷ [])
    ≡ record { obj = 1; check = 1 } ∷ record { obj = 1; check = 2 } ∷ []
both_lost = refl

none_kept_of_no_copies : kept_rows shape (sizes 0) (launch 1 ∷ launch 2 ∷ Store 0 1 0 5 ∷ []) ≡ []
none_kept_of_no_copies = refl

-- a Store of the word that is there is a change: it keeps the version, and makes the stamp the epoch
equal_store_keeps : kept_rows shape (sizes 4) (launch 1 ∷ Store 0 1 0 0 ∷ []) ≡ record { obj = 1; checks = 1 ∷ [] } ∷ []
equal_store_keeps = refl

equal_store_stamps : stamp_of shape (sizes 4) (launch 1 ∷ Store 0 1 0 0 ∷ []) 1 ≡ 1
equal_store_stamps = refl

-- a Retire takes its check out of the active ones; its Launch stays
retired_by_main : active_checks shape (sizes 4) (launch 1 ∷ Retire 1 1 ∷ []) ≡ []
retired_by_main = refl

has_its_launch : has_launch 1 (New 0 2 1 ∷ launch 1 ∷ Retire 1 1 ∷ []) ≡ true
has_its_launch = refl

has_no_launch : has_launch 2 (New 0 2 1 ∷ launch 1 ∷ Retire 1 1 ∷ []) ≡ false
has_no_launch = refl

-- the heap is the live one
live_word : word_at (heap_after shape (sizes 1) (New 0 2 1 ∷ launch 1 ∷ Store 0 1 0 5 ∷ Store 0 2 0 6 ∷ [])) 2 0 ≡ Some 6
live_word = refl

-- a field that the shared object does not have
no_such_field : illegal_reason shape (sizes 1) (first_world shape) (Load 0 1 1 0) ≡ Some WrongField
no_such_field = refl

-- ---- stamps, active checks, and the checks that need a copy

-- the journals of two checks: no store, one after both launches, one between them, and one after each
abbrev two_launches : List Event
two_launches = launch 1 ∷ launch 2 ∷ []

abbrev then_a_store : List Event
then_a_store = launch 1 ∷ launch 2 ∷ Store 0 1 0 5 ∷ []

abbrev store_between : List Event
store_between = launch 1 ∷ Store 0 1 0 5 ∷ launch 2 ∷ []

abbrev two_stores : List Event
two_stores = launch 1 ∷ Store 0 1 0 5 ∷ launch 2 ∷ Store 0 1 0 6 ∷ []

-- the epoch counts launches, and a Retire does not take one back
no_epoch : epoch_of shape (sizes 4) [] ≡ 0
no_epoch = refl

second_epoch : epoch_of shape (sizes 4) two_stores ≡ 2
second_epoch = refl

epoch_after_retire : epoch_of shape (sizes 4) (launch 1 ∷ Retire 0 1 ∷ []) ≡ 1
epoch_after_retire = refl

-- the shared object has stamp 0 until it changes; a change makes its stamp the epoch, and a later launch does not
stamp_before_change : stamp_of shape (sizes 4) two_launches 1 ≡ 0
stamp_before_change = refl

stamp_at_change : stamp_of shape (sizes 4) then_a_store 1 ≡ 2
stamp_at_change = refl

stamp_after_launch : stamp_of shape (sizes 4) store_between 1 ≡ 1
stamp_after_launch = refl

stamp_at_second_change : stamp_of shape (sizes 4) two_stores 1 ≡ 2
stamp_at_second_change = refl

-- a Load is no change, a Cas is one only where it is done
stamp_after_load : stamp_of shape (sizes 4) (launch 1 ∷ Load 0 1 0 0 ∷ []) 1 ≡ 0
stamp_after_load = refl

stamp_after_cas : stamp_of shape (sizes 4) (launch 1 ∷ Cas 0 1 0 0 5 true ∷ []) 1 ≡ 1
stamp_after_cas = refl

stamp_after_failed_cas : stamp_of shape (sizes 4) (launch 1 ∷ Cas 0 1 0 7 5 false ∷ []) 1 ≡ 0
stamp_after_failed_cas = refl

-- an object has the epoch of its New, and the change of another object leaves it
stamp_at_new : stamp_of shape (sizes 4) (launch 1 ∷ New 0 2 1 ∷ launch 2 ∷ Store 0 1 0 5 ∷ []) 2 ≡ 1
stamp_at_new = refl

-- active checks stand in the order of their launches, and a Retire takes out its own
both_active : active_checks shape (sizes 4) then_a_store ≡ 1 ∷ 2 ∷ []
both_active = refl

second_active : active_checks shape (sizes 4) (launch 1 ∷ launch 2 ∷ Retire 0 1 ∷ []) ≡ 2 ∷ []
second_active = refl

first_active : active_checks shape (sizes 4) (launch 1 ∷ launch 2 ∷ Retire 0 2 ∷ []) ≡ 1 ∷ []
first_active = refl

-- before a change each active check needs a copy; after it none does, but for those launched later
both_need : needing shape (sizes 4) two_launches 1 ≡ 1 ∷ 2 ∷ []
both_need = refl

none_needs : needing shape (sizes 4) then_a_store 1 ≡ []
none_needs = refl

second_needs : needing shape (sizes 4) store_between 1 ≡ 2 ∷ []
second_needs = refl

retired_needs_none : needing shape (sizes 4) (launch 1 ∷ launch 2 ∷ Retire 0 1 ∷ []) 1 ≡ 2 ∷ []
retired_needs_none = refl

-- a check launched before an object was made needs no copy of it, one launched after it does
none_needs_new : needing shape (sizes 4) (launch 1 ∷ New 0 2 1 ∷ []) 2 ≡ []
none_needs_new = refl

later_needs_new : needing shape (sizes 4) (launch 1 ∷ New 0 2 1 ∷ launch 2 ∷ []) 2 ≡ 2 ∷ []
later_needs_new = refl

-- ---- launches

-- the past of a check is the heap before its Launch: the first store is in that of the second check, the second store in neither
abbrev past_word : ℕ → Launched → Option ℕ
past_word obj launch = word_at launch.past obj 0

past_of_first : option_map (past_word 1) (launch_of shape (sizes 4) two_stores 1) ≡ Some (Some 0)
past_of_first = refl

past_of_second : option_map (past_word 1) (launch_of shape (sizes 4) two_stores 2) ≡ Some (Some 5)
past_of_second = refl

not_launched : launch_of shape (sizes 4) two_stores 3 ≡ None
not_launched = refl

-- ---- events of a thread, and objects

-- two threads; the Retire is nobody's own
abbrev of_two_threads : List Event
of_two_threads = New 0 2 1 ∷ Load 1 1 0 0 ∷ launch 1 ∷ Store 1 1 0 5 ∷ Cas 1 2 0 0 6 true ∷ Retire 0 1 ∷ New 1 6 1 ∷ []

own_of_first : own_events 0 of_two_threads ≡ New 0 2 1 ∷ launch 1 ∷ []
own_of_first = refl

own_of_second : own_events 1 of_two_threads ≡ Load 1 1 0 0 ∷ Store 1 1 0 5 ∷ Cas 1 2 0 0 6 true ∷ New 1 6 1 ∷ []
own_of_second = refl

own_of_none : own_events 2 of_two_threads ≡ []
own_of_none = refl

-- the shared object, and one for each New
only_shared : objects_of then_a_store ≡ 1
only_shared = refl

made_by_second : made_by shape (sizes 4) of_two_threads 1 ≡ 1
made_by_second = refl

two_made : objects_of of_two_threads ≡ 3
two_made = refl
