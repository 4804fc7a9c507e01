-- The report of a run.
use Rattle.std.specs.Prelude.{ℕ, List, ◌++◌, length, count_by, codes}
use Rattle.std.specs.List.{enumerate_from, flat_map, zip}
use Rattle.std.specs.Fmt.{decimal}
use Rattle.st_events.specs.declared.events.Site.{Site}
use Rattle.st_events.specs.declared.verdicts.End.{End}
use Rattle.st_events.specs.declared.verdicts.Verdict.{Verdict}
use Rattle.st_events.specs.Ran.{RanLists}
use Rattle.st_report.specs.declared.checks.LaunchedCheck.{LaunchedCheck}
use Rattle.st_report.specs.Checks.{checks_of}
use Rattle.st_report.specs.Counts.{is_holds, is_fails, is_other_verdict}
use Rattle.st_texts.specs.Texts.{place_text, verdict_text, end_text}

-- a launch: its number among the thread's own events, the place of its check, and the verdict
abbrev pub check_line : List ℕ → LaunchedCheck → List ℕ
check_line thread check =
    codes "check " ++ (thread ++ (codes " " ++ (decimal check.event
    ++ (codes " " ++ (place_text check.place ++ (codes " " ++ (verdict_text check.verdict ++ codes "\n")))))))

-- the lines of a thread's launches
abbrev pub check_lines : List ℕ → List LaunchedCheck → List ℕ
check_lines thread checks = flat_map (check_line thread) checks

-- the end of a thread
abbrev pub thread_line : List ℕ × End → List ℕ
thread_line thread = codes "thread " ++ (thread.0 ++ (codes " " ++ (end_text thread.1 ++ codes "\n")))

-- how many checks there are, and how many of them hold, fail, or have another verdict
abbrev pub count_line : List Verdict → List ℕ
count_line verdicts =
    codes "checks " ++ (decimal (length verdicts)
    ++ (codes " holds " ++ (decimal (count_by is_holds verdicts)
    ++ (codes " fails " ++ (decimal (count_by is_fails verdicts)
    ++ (codes " other " ++ (decimal (count_by is_other_verdict verdicts) ++ codes "\n")))))))

-- the report, of a program whose threads have these names and whose check statements stand at these places: for each thread
-- the lines of its launches, for each thread its end, and the counts
unfoldable pub report_text : List (List ℕ) → List Site → RanLists → List ℕ
report_text threads places ran =
    flat_map (λ thread. check_lines thread.1 (checks_of thread.0 places ran.verdicts ran.journal)) (enumerate_from 0 threads)
    ++ (flat_map thread_line (zip threads ran.ends) ++ count_line ran.verdicts)
