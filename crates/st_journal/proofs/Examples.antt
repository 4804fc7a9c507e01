-- The journal of a small run, line by line, as the prover computes it.
use Rattle.std.proofs.Common.{◌≡◌, ℕ, List, [], ◌∷◌, refl}
use Rattle.std.specs.Prelude.{codes, true}
use Rattle.std.specs.Fmt.{digits}
use Rattle.st_events.specs.declared.verdicts.Plain.TheVariants as plain
use Rattle.st_events.specs.declared.verdicts.Verdict.TheVariants as verdict
use Rattle.st_journal.specs.Terms.{New, Load, Store, Cas, Launch, Retire}
use Rattle.st_journal.specs.Format.{FileLists, file_lines, journal_text, event_words, line}
use Rattle.st_journal.specs.Lines.{lines}

abbrev two : FileLists
two = record {
  sizes = record { mutators = 1; lanes = 8; objects = 4096; copies = 4096; events = 65536; calls = 100000 };
  events = New 0 2 1 ∷ Launch 0 0 1 (record { count = 1; words = 2 ∷ 0 ∷ 0 ∷ 0 ∷ [] }) ∷ Store 0 2 0 1 ∷ Retire 1 1 ∷ [];
  verdicts = verdict.Plain plain.Holds ∷ [];
}

abbrev text_of_two : List ℕ
text_of_two = codes "strobe journal 1\nsizes 1 8 4096 4096 65536 100000\nN 0 2 1\nK 0 1 0 1 2\nS 0 2 0 1\nR 1 1\nV 1 holds\nend 4 1\n"

-- an object is made, checked and changed
text_is : journal_text two ≡ text_of_two
unfolding journal_text file_lines digits
text_is = refl

-- and its lines are those of the text
lines_are : lines text_of_two ≡ file_lines two
unfolding file_lines digits
lines_are = refl

cas_is : line (event_words (Cas 1 2 0 5 6 true)) ≡ codes "C 1 2 0 5 6 1\n"
unfolding digits
cas_is = refl

load_is : line (event_words (Load 7 131073 11 18446744073709551615)) ≡ codes "L 7 131073 11 18446744073709551615\n"
unfolding digits
load_is = refl

-- a launch without arguments, and one with four
bare_launch_is : line (event_words (Launch 0 1023 9 (record { count = 0; words = 0 ∷ 0 ∷ 0 ∷ 0 ∷ [] }))) ≡ codes "K 0 9 1023 0\n"
unfolding digits
bare_launch_is = refl

full_launch_is : line (event_words (Launch 0 0 1 (record { count = 4; words = 1 ∷ 2 ∷ 3 ∷ 4 ∷ [] }))) ≡ codes "K 0 1 0 4 1 2 3 4\n"
unfolding digits
full_launch_is = refl
