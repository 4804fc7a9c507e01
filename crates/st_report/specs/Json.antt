-- The report of a run as one line of JSON.
use Rattle.std.specs.Prelude.{ℕ, List, [], ◌++◌, length, count_by, codes, map, if◌then◌else◌}
use Rattle.std.specs.List.{enumerate_from, flat_map, join_with_byte, zip}
use Rattle.std.specs.Fmt.{decimal}
use Rattle.std.specs.Str.{is_utf8}
use Rattle.json.specs.Print.{quoted}
use Rattle.serde_json.specs.Data.{Data, number, string, unsigned, object, member, no_members}
use Rattle.st_events.specs.declared.events.Event.{Event}
use Rattle.st_events.specs.declared.events.Site.{Site}
use Rattle.st_events.specs.declared.verdicts.End.{End}
use Rattle.st_events.specs.declared.verdicts.Verdict.{Verdict}
use Rattle.st_events.specs.Ran.{RanLists}
use Rattle.st_report.specs.declared.checks.LaunchedCheck.{LaunchedCheck}
use Rattle.st_report.specs.Checks.{checks_of}
use Rattle.st_report.specs.Counts.{is_holds, is_fails, is_other_verdict}
use Rattle.st_texts.specs.Texts.{verdict_text, end_text}

-- the name of a thread; bytes that are no text, which no source has as a name, are told as nothing
abbrev pub name_text : List ℕ → List ℕ
name_text name = if is_utf8 name then name else []

-- the next three are values of serde_json: a launch with its place, its count among the thread's events, the thread's name and the verdict
abbrev pub check_object : ℕ → Site → List ℕ → List ℕ → Data
check_object event place thread verdict = object
    (member (codes "column") (number (unsigned place.column)) (member (codes "event") (number (unsigned event))
    (member (codes "line") (number (unsigned place.line)) (member (codes "thread") (string thread)
    (member (codes "verdict") (string verdict) no_members)))))

-- the end of a thread and its name
abbrev pub thread_object : List ℕ → List ℕ → Data
thread_object end name = object (member (codes "end") (string end) (member (codes "name") (string name) no_members))

-- how many checks there are, and how many of them fail, hold, or have another verdict
abbrev pub count_object : ℕ → ℕ → ℕ → ℕ → Data
count_object checks fails holds other = object
    (member (codes "checks") (number (unsigned checks)) (member (codes "fails") (number (unsigned fails))
    (member (codes "holds") (number (unsigned holds)) (member (codes "other") (number (unsigned other)) no_members))))

-- a launch, its keys in the order of bytes
abbrev pub check_json : List ℕ → LaunchedCheck → List ℕ
check_json thread check =
    codes "{\"column\":" ++ (decimal check.place.column
    ++ (codes ",\"event\":" ++ (decimal check.event
    ++ (codes ",\"line\":" ++ (decimal check.place.line
    ++ (codes ",\"thread\":" ++ (quoted (name_text thread)
    ++ (codes ",\"verdict\":" ++ (quoted (verdict_text check.verdict) ++ codes "}")))))))))

-- the end of a thread
abbrev pub thread_json : List ℕ × End → List ℕ
thread_json thread = codes "{\"end\":" ++ (quoted (end_text thread.1) ++ (codes ",\"name\":" ++ (quoted (name_text thread.0) ++ codes "}")))

-- how many checks there are, and how many of them hold, fail, or have another verdict
abbrev pub count_json : List Verdict → List ℕ
count_json verdicts =
    codes "{\"checks\":" ++ (decimal (length verdicts)
    ++ (codes ",\"fails\":" ++ (decimal (count_by is_fails verdicts)
    ++ (codes ",\"holds\":" ++ (decimal (count_by is_holds verdicts)
    ++ (codes ",\"other\":" ++ (decimal (count_by is_other_verdict verdicts) ++ codes "}")))))))

-- items with a comma between two
abbrev pub joined : List (List ℕ) → List ℕ
joined items = join_with_byte 44 items

-- the objects of all launches, thread by thread, in their order
abbrev pub check_items : List (List ℕ) → List Site → List Verdict → List Event → List (List ℕ)
check_items threads places verdicts journal =
    flat_map (λ thread. map (check_json thread.1) (checks_of thread.0 places verdicts journal)) (enumerate_from 0 threads)

-- one compact line whose keys are in the order of bytes: a list of the launches, the counts, and a list of the threads with their ends
abbrev pub json_line : List ℕ → List ℕ → List ℕ → List ℕ
json_line checks counts threads =
    codes "{\"checks\":[" ++ (checks ++ (codes "],\"counts\":" ++ (counts ++ (codes ",\"threads\":[" ++ (threads ++ codes "]}\n")))))

-- the same of what a run leaves, part by part
abbrev pub json_of_parts : List (List ℕ) → List Site → List Verdict → List Event → List End → List ℕ
json_of_parts threads places verdicts journal ends =
    json_line (joined (check_items threads places verdicts journal)) (count_json verdicts) (joined (map thread_json (zip threads ends)))

-- the report as JSON
unfoldable pub json_text : List (List ℕ) → List Site → RanLists → List ℕ
json_text threads places ran = json_of_parts threads places ran.verdicts ran.journal ran.ends

-- the next three are for private clauses: an item with a comma behind it
abbrev pub before_comma : List ℕ → List ℕ
before_comma item = item ++ codes ","

-- the launches of a thread, each with a comma behind it
abbrev pub checks_before_commas : List ℕ → List LaunchedCheck → List ℕ
checks_before_commas thread checks = flat_map (λ check. before_comma (check_json thread check)) checks

-- the end of a thread, with a comma behind it
abbrev pub end_before_comma : List ℕ × End → List ℕ
end_before_comma thread = before_comma (thread_json thread)
