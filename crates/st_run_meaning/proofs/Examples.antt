-- Scheduled runs, computed by the prover: what they leave
use Rattle.std.proofs.Common.{◌≡◌, ℕ, List, [], ◌∷◌, map, pos, refl}
use Rattle.st_events.specs.declared.events.Args.{Args}
use Rattle.st_events.specs.declared.events.Site.{Site}
use Rattle.st_events.specs.declared.shapes.Kind.TheVariants.{Int, Ref}
use Rattle.st_events.specs.declared.verdicts.End.TheVariants.{Finished, Null}
use Rattle.st_events.specs.declared.verdicts.Plain.TheVariants as plain
use Rattle.st_events.specs.declared.verdicts.Verdict.TheVariants.{Plain as Value, Abandoned}
use Rattle.st_events.specs.declared.events.Event.TheVariants.{New, Store, Launch, Retire}
use Rattle.st_events.specs.declared.limits.Sizes.{Sizes}
use Rattle.st_events.specs.Terms.{ShapeLists, RanLists}
use Rattle.st_resolved.specs.declared.expressions.Operator.TheVariants.{Div, Sub, Equal}
use Rattle.st_resolved.specs.Terms.{Term, a_number, a_null, a_local, a_shared, a_field, a_binary, to_shared, to_field, from_term, from_new}
use Rattle.st_resolved.specs.Terms.{Command, a_set, a_put, a_launch, Block, no_commands, command_then, CheckStatement, Program}
use Rattle.st_check_meaning.specs.Meaning as meaning
use Rattle.st_check_meaning.specs.Plain.{check_course, plain_value, cells_read}
use Rattle.st_thread_meaning.specs.Threads.{call_within, thread_deed, next_request}
use Rattle.st_run_meaning.specs.Runs.{scheduled_run}

-- a place in a text
abbrev pub place : ℕ → ℕ → Site
place line n = record { line = line; column = n }

-- the words of arguments: the first so many are used
abbrev pub args : ℕ → ℕ → Args
args count first = record { count = count; words = first ∷ 0 ∷ 0 ∷ 0 ∷ [] }

-- statements in order
abbrev pub block_of : List Command → Block
block_of [] = no_commands
block_of (c ∷ cs) = command_then c (block_of cs)

-- a program of threads with one local, a reference
abbrev pub program : List (List Command) → List CheckStatement → Program
program bodies checks = record {
  preds = [];
  procs = [];
  threads = map (λ cs. record { params = 0; locals = Ref 1 ∷ []; block = block_of cs }) bodies;
  checks = checks;
}

-- a check statement, with the locals that it takes
abbrev pub statement : List ℕ → Term → Site → CheckStatement
statement names body at = record { args = names; body = body; at = at }

-- what the run of a program leaves
unfoldable pub leaves : ShapeLists → Program → Sizes → ℕ → RanLists
unfolding scheduled_run next_request thread_deed call_within check_course plain_value cells_read meaning.call_within
leaves shape p sizes seed = scheduled_run shape p sizes seed

-- the usual sizes of so many threads, but for lanes and copies
abbrev pub sizes : ℕ → ℕ → ℕ → Sizes
sizes threads lanes copies = record { mutators = threads; lanes = lanes; objects = 4096; copies = copies; events = 65536; calls = 100000 }

-- ---- `two`: a new object, a check of it, a store. At the third turn the number is odd beyond its low bits, so the check reads first

abbrev two_shape : ShapeLists
two_shape = record { classes = [] ∷ (Int ∷ Ref 1 ∷ []) ∷ []; checks = (Ref 1 ∷ []) ∷ [] }

abbrev two : Program
two = program ((a_set 0 (from_new 1 (place 3 17)) ∷ a_launch 0 ∷ a_put (to_field (a_local 0) 0 (place 5 4)) (from_term (a_number (pos 1))) ∷ []) ∷ [])
    (statement (0 ∷ []) (a_binary Equal (a_field (a_local 0) 0 (place 4 10)) (a_number (pos 0)) (place 4 15)) (place 4 3) ∷ [])

two_leaves :
    leaves two_shape two (sizes 1 8 4096) 0
    ≡ record {
      journal = New 0 2 1 ∷ Launch 0 0 1 (args 1 2) ∷ Store 0 2 0 1 ∷ Retire 1 1 ∷ [];
      verdicts = Value plain.Holds ∷ [];
      ends = Finished ∷ [];
      free = 4096;
    }
unfolding leaves
two_leaves = refl

-- ---- `lost`: a check of the shared variable, a store in it, a new object, a check of that. At the second turn the number is even beyond its
-- low bits, so the store comes before the read; the second launch retires the first check

abbrev pub lost_shape : ShapeLists
lost_shape = record { classes = (Int ∷ []) ∷ (Int ∷ []) ∷ []; checks = [] ∷ (Ref 1 ∷ []) ∷ [] }

abbrev lost : Program
lost = program
    ((a_launch 0 ∷ a_put (to_shared 0) (from_term (a_number (pos 1))) ∷ a_set 0 (from_new 1 (place 6 16)) ∷ a_launch 1 ∷ []) ∷ [])
    (statement [] (a_binary Equal (a_shared 0) (a_number (pos 0)) (place 4 18)) (place 4 3)
    ∷ statement (0 ∷ []) (a_binary Equal (a_field (a_local 0) 0 (place 7 10)) (a_number (pos 0)) (place 7 13)) (place 7 3) ∷ [])

-- without a copy the first check is abandoned
lost_without_copies :
    leaves lost_shape lost (sizes 1 8 0) 0
    ≡ record {
      journal = Launch 0 0 1 (args 0 0) ∷ Store 0 1 0 1 ∷ New 0 2 1 ∷ Retire 0 1 ∷ Launch 0 1 2 (args 1 2) ∷ Retire 1 2 ∷ [];
      verdicts = Abandoned 1 ∷ Value plain.Holds ∷ [];
      ends = Finished ∷ [];
      free = 0;
    }
unfolding leaves
lost_without_copies = refl

-- with copies it is not, and each is free again
lost_with_copies :
    leaves lost_shape lost (sizes 1 8 24) 0
    ≡ record {
      journal = Launch 0 0 1 (args 0 0) ∷ Store 0 1 0 1 ∷ New 0 2 1 ∷ Retire 0 1 ∷ Launch 0 1 2 (args 1 2) ∷ Retire 1 2 ∷ [];
      verdicts = Value plain.Holds ∷ Value plain.Holds ∷ [];
      ends = Finished ∷ [];
      free = 24;
    }
unfolding leaves
lost_with_copies = refl

-- another seed lets the check read before the store
lost_by_seed_1 :
    leaves lost_shape lost (sizes 1 8 0) 1
    ≡ record {
      journal = Launch 0 0 1 (args 0 0) ∷ Store 0 1 0 1 ∷ New 0 2 1 ∷ Retire 0 1 ∷ Launch 0 1 2 (args 1 2) ∷ Retire 1 2 ∷ [];
      verdicts = Value plain.Holds ∷ Value plain.Holds ∷ [];
      ends = Finished ∷ [];
      free = 0;
    }
unfolding leaves
lost_by_seed_1 = refl

-- a third one lets it read after the second launch, so the main thread retires both
lost_by_seed_2 :
    leaves lost_shape lost (sizes 1 8 0) 2
    ≡ record {
      journal = Launch 0 0 1 (args 0 0) ∷ Store 0 1 0 1 ∷ New 0 2 1 ∷ Launch 0 1 2 (args 1 2) ∷ Retire 1 1 ∷ Retire 1 2 ∷ [];
      verdicts = Abandoned 1 ∷ Value plain.Holds ∷ [];
      ends = Finished ∷ [];
      free = 0;
    }
unfolding leaves
lost_by_seed_2 = refl

-- ---- one lane: the second launch waits until the first check has finished, and retires it

abbrev twice : Program
twice = program ((a_launch 0 ∷ a_launch 0 ∷ []) ∷ [])
    (statement [] (a_binary Equal (a_shared 0) (a_number (pos 0)) (place 4 18)) (place 4 3) ∷ [])

twice_on_one_lane :
    leaves lost_shape twice (sizes 1 1 0) 0
    ≡ record {
      journal = Launch 0 0 1 (args 0 0) ∷ Retire 0 1 ∷ Launch 0 0 2 (args 0 0) ∷ Retire 1 2 ∷ [];
      verdicts = Value plain.Holds ∷ Value plain.Holds ∷ [];
      ends = Finished ∷ [];
      free = 0;
    }
unfolding leaves
twice_on_one_lane = refl

-- ---- `faults`: checks that read nothing have finished when they are launched

abbrev faults : Program
faults = program ((a_set 0 (from_term a_null) ∷ a_launch 0 ∷ a_launch 1 ∷ []) ∷ [])
    (statement (0 ∷ []) (a_binary Equal (a_field (a_local 0) 0 (place 4 10)) (a_number (pos 0)) (place 4 15)) (place 4 3)
    ∷ statement [] (a_binary Equal
    (a_binary Div (a_number (pos 1)) (a_binary Sub (a_number (pos 2)) (a_number (pos 2)) (place 5 16)) (place 5 11)) (a_number (pos 0)) (place 5 20)) (place 5 3) ∷ [])

faults_leaves :
    leaves (record { classes = [] ∷ (Int ∷ Ref 1 ∷ []) ∷ []; checks = (Ref 1 ∷ []) ∷ [] ∷ [] }) faults (sizes 1 8 0) 0
    ≡ record {
      journal = Launch 0 0 1 (args 1 0) ∷ Retire 0 1 ∷ Launch 0 1 2 (args 0 0) ∷ Retire 1 2 ∷ [];
      verdicts = Value (plain.Null (place 4 10)) ∷ Value (plain.Divide (place 5 11)) ∷ [];
      ends = Finished ∷ [];
      free = 0;
    }
unfolding leaves
faults_leaves = refl

-- ---- two threads, one of which ends in a fault: the main thread, here number 2, retires the check of the other

abbrev halves : Program
halves = program
    ((a_launch 0 ∷ []) ∷ (a_set 0 (from_term a_null) ∷ a_put (to_field (a_local 0) 0 (place 4 32)) (from_term (a_number (pos 1))) ∷ []) ∷ [])
    (statement [] (a_binary Equal (a_shared 0) a_null (place 3 27)) (place 3 12) ∷ [])

halves_leave :
    leaves (record { classes = (Ref 1 ∷ []) ∷ (Int ∷ []) ∷ []; checks = [] ∷ [] }) halves (sizes 2 8 0) 0
    ≡ record {
      journal = Launch 0 0 1 (args 0 0) ∷ Retire 2 1 ∷ [];
      verdicts = Value plain.Holds ∷ [];
      ends = Finished ∷ Null (place 4 32) ∷ [];
      free = 0;
    }
unfolding leaves
halves_leave = refl
