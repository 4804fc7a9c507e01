-- Places, verdicts and ends as texts.
use Rattle.std.specs.Prelude.{ℕ, List, ◌++◌, codes}
use Rattle.std.specs.Fmt.{decimal}
use Rattle.st_events.specs.declared.events.Site.{Site}
use Rattle.st_events.specs.declared.verdicts.Plain.{Plain}
use Rattle.st_events.specs.declared.verdicts.Plain.TheVariants as plain
use Rattle.st_events.specs.declared.verdicts.Verdict.{Verdict}
use Rattle.st_events.specs.declared.verdicts.Verdict.TheVariants as verdict
use Rattle.st_events.specs.declared.verdicts.End.{End}
use Rattle.st_events.specs.declared.verdicts.End.TheVariants as end

-- LINE:COLUMN
abbrev pub place_text : Site → List ℕ
place_text place = decimal place.line ++ (codes ":" ++ decimal place.column)

-- the value of a check
abbrev pub plain_text : Plain → List ℕ
plain_text plain.Holds = codes "holds"
plain_text plain.Fails = codes "fails"
plain_text (plain.Null place) = codes "fault null " ++ place_text place
plain_text (plain.Divide place) = codes "fault divide " ++ place_text place
plain_text (plain.Overflow place) = codes "fault overflow " ++ place_text place
plain_text plain.Spent = codes "spent"
plain_text plain.Deep = codes "deep"

-- a verdict
abbrev pub verdict_text : Verdict → List ℕ
verdict_text (verdict.Plain value) = plain_text value
verdict_text (verdict.Abandoned obj) = codes "abandoned " ++ decimal obj

-- the end of a thread
abbrev pub end_text : End → List ℕ
end_text end.Finished = codes "finished"
end_text (end.Null place) = codes "fault null " ++ place_text place
end_text (end.Divide place) = codes "fault divide " ++ place_text place
end_text (end.Overflow place) = codes "fault overflow " ++ place_text place
end_text (end.HeapFull place) = codes "fault heap full " ++ place_text place
end_text end.EventsSpent = codes "fault events spent"
end_text (end.ProcDeep place) = codes "fault deep " ++ place_text place
