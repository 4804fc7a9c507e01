-- The report as a value of JSON. What serde_json writes of it, and a newline, is the line that is written.
use Rattle.std.specs.Prelude.{ℕ, List, [], ◌∷◌, length, count_by, codes, map}
use Rattle.std.specs.List.{enumerate_from, flat_map, zip}
use Rattle.serde_json.specs.Data.{Data, array, object, member, no_members, Items, no_items, item}
use Rattle.st_events.specs.declared.events.Event.{Event}
use Rattle.st_events.specs.declared.events.Site.{Site}
use Rattle.st_events.specs.declared.verdicts.End.{End}
use Rattle.st_events.specs.declared.verdicts.Verdict.{Verdict}
use Rattle.st_events.specs.Ran.{RanLists}
use Rattle.st_report.specs.Checks.{checks_of}
use Rattle.st_report.specs.Counts.{is_holds, is_fails, is_other_verdict}
use Rattle.st_report.specs.Json.{check_object, count_object, thread_object, name_text}
use Rattle.st_report.specs.declared.checks.LaunchedCheck.{LaunchedCheck}
use Rattle.st_texts.specs.Texts.{verdict_text, end_text}

-- these values, in their order, as the items of an array
abbrev pub items_of : List Data → Items
items_of [] = no_items
items_of (value ∷ values) = item value (items_of values)

-- a launch of a thread of this name
abbrev pub check_value : List ℕ → LaunchedCheck → Data
check_value thread check = check_object check.event check.place (name_text thread) (verdict_text check.verdict)

-- all launches, thread by thread, in their order
abbrev pub check_values : List (List ℕ) → List Site → List Verdict → List Event → List Data
check_values threads places verdicts journal =
    flat_map (λ thread. map (check_value thread.1) (checks_of thread.0 places verdicts journal)) (enumerate_from 0 threads)

-- a thread with its end
abbrev pub thread_value : List ℕ × End → Data
thread_value thread = thread_object (end_text thread.1) (name_text thread.0)

-- how many checks there are, and how many of them fail, hold, or have another verdict
abbrev pub count_value : List Verdict → Data
count_value verdicts = count_object (length verdicts) (count_by is_fails verdicts) (count_by is_holds verdicts) (count_by is_other_verdict verdicts)

-- the report: the launches, the counts, and the threads with their ends
unfoldable pub report_value : List (List ℕ) → List Site → RanLists → Data
report_value threads places ran = object
    (member (codes "checks") (array (items_of (check_values threads places ran.verdicts ran.journal)))
    (member (codes "counts") (count_value ran.verdicts)
    (member (codes "threads") (array (items_of (map thread_value (zip threads ran.ends)))) no_members)))
