-- The words that the program accepts, and what they say.
use Rattle.std.specs.Prelude.{◌≡◌, ℕ, ◌≤◌, ◌-◌, ◌^◌, Bool, true, false, List, Option, Some, None, Result, Ok, Err, if◌then◌else◌, String, ⊤}
use Rattle.std.specs.Prelude.{is_some, codes, map, option_map, option_and_then, string_bytes}
use Rattle.std.specs.Global.{Global}
use Rattle.std.specs.Option.{option_map_or}
use Rattle.std.specs.Str.{bytes_eq}
use Rattle.clap.specs.Words.{Row, Text, first_of, subcommand_of, fault_of}
use Rattle.clap.specs.Walk.{is_empty}
use Rattle.st_events.specs.declared.limits.TheConstants.{MOST_LANES, MOST_OBJECTS, MOST_COPIES, MOST_EVENTS, MOST_CALLS}
use Rattle.st_events.specs.declared.limits.TheConstants.{USUAL_LANES, USUAL_OBJECTS, USUAL_COPIES, USUAL_EVENTS, USUAL_CALLS}
use Rattle.st_words.specs.declared.limits.TheConstants.{MOST_CHECKERS, MOST_TURNS, USUAL_CHECKERS}
use Rattle.st_words.specs.declared.words.Form.{Form}
use Rattle.st_words.specs.declared.words.Form.TheVariants as form
use Rattle.st_words.specs.declared.choices.Numbers.{Numbers}
use Rattle.st_words.specs.declared.choices.Way.{Way}
use Rattle.st_words.specs.declared.words.Words.{Words}
use Rattle.st_words.specs.declared.words.Words.TheVariants.{Run, Check, Audit, Gen, Demo}
use Rattle.st_words.specs.declared.errors.WordsError.{WordsError}
use Rattle.st_words.specs.declared.errors.WordsError.TheVariants.{Memory, Refused}
use Rattle.st_words.specs.Command.{command_line}
use Rattle.st_words.specs.Numbers.{number_in, number_or}

-- the bytes of each word
abbrev pub texts : List (String Global) → List Text
texts words = map string_bytes words

-- what a value leads to, where there is one
abbrev pub given : {X Y : Type 0} → Option X → (X → Option Y) → Option Y
given value next = option_and_then next value

-- the numbers of a run, each the usual one where its option does not stand, where each is within its range
unfoldable pub numbers_of : List Row → Option Numbers
numbers_of rows =
    given (number_or USUAL_CHECKERS 0 MOST_CHECKERS (codes "checkers") rows) (λ checkers.
    given (number_or USUAL_LANES 1 MOST_LANES (codes "lanes") rows) (λ lanes.
    given (number_or USUAL_OBJECTS 1 MOST_OBJECTS (codes "objects") rows) (λ objects.
    given (number_or USUAL_COPIES 0 MOST_COPIES (codes "copies") rows) (λ copies.
    given (number_or USUAL_EVENTS 1 MOST_EVENTS (codes "events") rows) (λ events.
    given (number_or USUAL_CALLS 0 MOST_CALLS (codes "calls") rows) (λ calls.
    Some (record { checkers = checkers; lanes = lanes; objects = objects; copies = copies; events = events; calls = calls })))))))

-- the seed, a number of 64 bits, where `--schedule` stands, and `--checkers` not beside it; none where it does not stand
unfoldable pub schedule_of : List Row → Option (Option ℕ)
schedule_of rows = option_map_or
    (λ word. if is_some (first_of (codes "checkers") rows) then None else option_map (λ seed. Some seed) (number_in 0 (2 ^ 64 - 1) word))
    (first_of (codes "schedule") rows) (Some None)

-- the flag stands
abbrev pub is_given : Text → List Row → Bool
is_given name rows = option_map_or (λ value. bytes_eq value (codes "true")) (first_of name rows) false

-- what is written, by whether `--json` and `--journal` stand; not both
abbrev pub form_by : Bool → Bool → Option Form
form_by true true = None
form_by true false = Some form.Json
form_by false true = Some form.Journal
form_by false false = Some form.Text

-- what is written, by the flags that were found
unfoldable pub form_of : List Row → Option Form
form_of rows = form_by (is_given (codes "json") rows) (is_given (codes "journal") rows)

-- how the run is made and told
unfoldable pub way_of : List Row → Option Way
way_of rows = given (schedule_of rows) (λ schedule. given (form_of rows) (λ form. Some (record { schedule = schedule; form = form })))

-- a run of the file, with these numbers, made and told in this way
abbrev pub run_with : Text → Numbers → Way → Words
run_with file numbers way = Run (record {
  file = file;
  checkers = numbers.checkers;
  lanes = numbers.lanes;
  objects = numbers.objects;
  copies = numbers.copies;
  events = numbers.events;
  calls = numbers.calls;
  schedule = way.schedule;
  form = way.form;
})

-- the next three tell what the words of a command say, by what was found for its names, options and flags: a run of the file
unfoldable pub run_of : List Row → Option Words
run_of rows = given (first_of (codes "file") rows) (λ file. given (numbers_of rows) (λ numbers. given (way_of rows) (λ way. Some (run_with file numbers way))))

-- a check of the file
unfoldable pub check_of : List Row → Option Words
check_of rows = given (first_of (codes "file") rows) (λ file. Some (Check file))

-- an audit of the file by the journal
unfoldable pub audit_of : List Row → Option Words
audit_of rows = given (first_of (codes "file") rows) (λ file. given (first_of (codes "journal") rows) (λ journal. Some (Audit file journal)))

-- the turns that `gen` and `demo` are given
unfoldable pub turns_of : List Row → Option ℕ
turns_of rows = given (first_of (codes "n") rows) (number_in 1 MOST_TURNS)

-- what a command of this name says
unfoldable pub value_of : Text → List Row → Option Words
value_of name rows =
    if bytes_eq name (codes "run") then run_of rows
    else (if bytes_eq name (codes "check") then check_of rows
    else (if bytes_eq name (codes "audit") then audit_of rows
    else (if bytes_eq name (codes "gen") then option_map (λ n. Gen n) (turns_of rows)
    else (if bytes_eq name (codes "demo") then option_map (λ n. Demo n) (turns_of rows)
    else None))))

-- what the command that was named says
abbrev pub command_value : Option (Text × List Row) → Option Words
command_value command = given command (λ named. value_of named.0 named.1)

-- what the words say, where they are accepted: clap finds no fault in them at this command line, and what it finds for the command that they name is a value
unfoldable pub accepted_words : List Text → Option Words
accepted_words words = if is_empty (fault_of command_line words) then command_value (subcommand_of command_line words) else None

-- an answer that is not for want of memory is this: the value, or refused where there is none
abbrev pub IsAnswerTo : {X : Type 0} → Option X → Result X WordsError → Type 0
IsAnswerTo told (Ok value) = told ≡ Some value
IsAnswerTo told (Err Memory) = ⊤
IsAnswerTo told (Err Refused) = told ≡ None

-- the numbers of a run are within the table of limits
pub record AreWithin (checkers lanes objects copies events calls : ℕ) : Type 0 where
  pub few_checkers : checkers ≤ MOST_CHECKERS
  pub some_lanes : 1 ≤ lanes
  pub few_lanes : lanes ≤ MOST_LANES
  pub some_objects : 1 ≤ objects
  pub few_objects : objects ≤ MOST_OBJECTS
  pub few_copies : copies ≤ MOST_COPIES
  pub some_events : 1 ≤ events
  pub few_events : events ≤ MOST_EVENTS
  pub few_calls : calls ≤ MOST_CALLS

-- the numbers of what the words say are within the table of limits
abbrev pub HasFittingNumbers : Words → Type 0
HasFittingNumbers (Run call) = AreWithin call.checkers call.lanes call.objects call.copies call.events call.calls
HasFittingNumbers (Check file) = ⊤
HasFittingNumbers (Audit file journal) = ⊤
HasFittingNumbers (Gen n) = (1 ≤ n) × (n ≤ MOST_TURNS)
HasFittingNumbers (Demo n) = (1 ≤ n) × (n ≤ MOST_TURNS)
