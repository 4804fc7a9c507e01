-- What is put piece by piece is the text of the format.
use Rattle.std.proofs.Common.{◌≡◌, ℕ, ◌+◌, ◌<◌, get_or, map, take, List, [], ◌∷◌, ◌++◌, length}
use Rattle.std.proofs.Common.{refl, sym, ap, ◌∙◌, append_assoc, arith}
use Rattle.std.specs.Prelude.{codes}
use Rattle.std.specs.Fmt.{decimal}
use Rattle.std.specs.List.{enumerate_from, flat_map, join_with_byte}
use Rattle.std.proofs.lemmas.Grind.{flat_map-append}
use Rattle.std.proofs.lemmas.List.{append-nil, length-take-le, take_more}
use Rattle.st_texts.specs.Texts.{verdict_text}
use Rattle.st_journal.specs.Terms.{Sizes, Verdict}
use Rattle.st_journal.specs.declared.versions.TheConstants.{VERSION}
use Rattle.st_journal.specs.Format.{FileLists, newline, line, numbered, version_words, sizes_words, end_words, file_lines, journal_text}
use Rattle.st_journal.specs.Spaced.{spaced, event_part, verdict_part}
use Rattle.st_journal.proofs.StepLemmas.{next_number}

-- one piece more
pub one_piece_more : {X : Type 0} (f : X → List ℕ) (xs : List X) (i : ℕ) (d : X) (old so_far now : List ℕ) → i < length xs
    → so_far ≡ old ++ flat_map f (take i xs) → now ≡ so_far ++ f (get_or xs i d) → now ≡ old ++ flat_map f (take (i + 1) xs)
one_piece_more f xs i d old so_far now within before after =
    after ∙ ap (λ (t : List ℕ). t ++ f (get_or xs i d)) before ∙ append_assoc old (flat_map f (take i xs)) (f (get_or xs i d))
    ∙ ap (λ (t : List ℕ). old ++ t)
    (ap (λ (t : List ℕ). flat_map f (take i xs) ++ t) (sym (append-nil (f (get_or xs i d)))) ∙ sym (flat_map-append f (take i xs) (get_or xs i d ∷ []))
    ∙ sym (ap (flat_map f) (take_more xs i d within)))

-- a blank and the next number make the text of one number more
pub one_number_more : (numbers : List ℕ) (i d : ℕ) (old so_far now : List ℕ) → i < length numbers
    → so_far ≡ old ++ spaced (take i numbers) → now ≡ (so_far ++ 32 ∷ []) ++ decimal (get_or numbers i d) → now ≡ old ++ spaced (take (i + 1) numbers)
one_number_more numbers i d old so_far now within before after =
    one_piece_more (λ number. 32 ∷ decimal number) numbers i d old so_far now within before (after ∙ append_assoc so_far (32 ∷ []) (decimal (get_or numbers i d)))

-- the line of the next verdict makes the text of one verdict more
pub one_verdict_more : (verdicts : List Verdict) (i : ℕ) (d : Verdict) (old so_far now : List ℕ) → i < length verdicts
    → so_far ≡ old ++ flat_map verdict_part (enumerate_from 1 (take i verdicts)) → now ≡ so_far ++ verdict_part (i + 1, get_or verdicts i d)
    → now ≡ old ++ flat_map verdict_part (enumerate_from 1 (take (i + 1) verdicts))
one_verdict_more verdicts i d old so_far now within before after =
    let there : length (take i verdicts) ≡ i = length-take-le i verdicts (omega arith) in
    let seen : enumerate_from 1 (take (i + 1) verdicts) ≡ enumerate_from 1 (take i verdicts) ++ (i + 1, get_or verdicts i d) ∷ [] =
    ap (enumerate_from 1) (take_more verdicts i d within) ∙ next_number 1 (take i verdicts) (get_or verdicts i d)
    ∙ ap (λ (n : ℕ). enumerate_from 1 (take i verdicts) ++ (n + 1, get_or verdicts i d) ∷ []) there in
    after ∙ ap (λ (t : List ℕ). t ++ verdict_part (i + 1, get_or verdicts i d)) before
    ∙ append_assoc old (flat_map verdict_part (enumerate_from 1 (take i verdicts))) (verdict_part (i + 1, get_or verdicts i d))
    ∙ ap (λ (t : List ℕ). old ++ t)
    (ap (λ (t : List ℕ). flat_map verdict_part (enumerate_from 1 (take i verdicts)) ++ t) (sym (append-nil (verdict_part (i + 1, get_or verdicts i d))))
    ∙ sym (flat_map-append verdict_part (enumerate_from 1 (take i verdicts)) ((i + 1, get_or verdicts i d) ∷ [])) ∙ sym (ap (flat_map verdict_part) seen))

-- the format of a verdict's line
pub verdict_line_is_put : (n : ℕ) (v : Verdict) → codes "V " ++ (decimal n ++ (codes " " ++ (verdict_text v ++ codes "\n"))) ≡ verdict_part (n, v)
verdict_line_is_put n v = ap (λ (t : List ℕ). codes "V " ++ t) (sym (append_assoc (decimal n) (32 ∷ verdict_text v) (newline ∷ [])))

-- numbers after a tag
joined_is_spaced : (tag : List ℕ) (numbers : List ℕ) → join_with_byte 32 (numbered tag numbers) ≡ tag ++ spaced numbers
joined_is_spaced tag [] = sym (append-nil tag)
joined_is_spaced tag (n ∷ numbers) = ap (λ (t : List ℕ). tag ++ 32 ∷ t) (joined_is_spaced (decimal n) numbers)

-- a tag, numbers each after a blank, and a newline make the line of the tag and all these numbers
pub line_is_spaced : (old tag numbers more : List ℕ) → (((old ++ tag) ++ spaced numbers) ++ spaced more) ++ newline ∷ [] ≡ old ++ line (numbered tag (numbers ++ more))
line_is_spaced old tag numbers more =
    let both : spaced (numbers ++ more) ≡ spaced numbers ++ spaced more = flat_map-append (λ number. 32 ∷ decimal number) numbers more in
    let whole : join_with_byte 32 (numbered tag (numbers ++ more)) ≡ tag ++ (spaced numbers ++ spaced more) =
    joined_is_spaced tag (numbers ++ more) ∙ ap (λ (t : List ℕ). tag ++ t) both in
    simp append_assoc (ap (λ (t : List ℕ). old ++ t) (simp append_assoc at (sym (ap (λ (t : List ℕ). t ++ newline ∷ []) whole))))

-- the whole text
flat_of_lines : {X : Type 0} (f : X → List ℕ) (xs : List X) → flat_map (λ one_line. one_line) (map f xs) ≡ flat_map f xs
flat_of_lines f [] = refl
flat_of_lines f (x ∷ xs) = ap (λ (t : List ℕ). f x ++ t) (flat_of_lines f xs)

-- two lines, the lines of the events and of the verdicts, and the counts, one put after another, are the text of the file
pub text_is_put : (file : FileLists) → ((([] ++ (line (version_words VERSION) ++ line (sizes_words file.sizes))) ++ flat_map event_part file.events)
    ++ flat_map verdict_part (enumerate_from 1 file.verdicts)) ++ line (end_words file) ≡ journal_text file
unfolding journal_text file_lines
text_is_put file =
    let told : List (List ℕ) = map verdict_part (enumerate_from 1 file.verdicts) in
    let last : List ℕ = line (end_words file) in
    let es : List ℕ = flat_map event_part file.events in
    let vs : List ℕ = flat_map verdict_part (enumerate_from 1 file.verdicts) in
    let head : List ℕ = line (version_words VERSION) ++ line (sizes_words file.sizes) in
    let rows : flat_map (λ one_line. one_line) (map event_part file.events ++ (told ++ last ∷ [])) ≡ es ++ (vs ++ (last ++ [])) =
    flat_map-append (λ one_line. one_line) (map event_part file.events) (told ++ last ∷ [])
    ∙ ap (λ (t : List ℕ). t ++ flat_map (λ one_line. one_line) (told ++ last ∷ [])) (flat_of_lines event_part file.events)
    ∙ ap (λ (t : List ℕ). es ++ t)
    (flat_map-append (λ one_line. one_line) told (last ∷ []) ∙ ap (λ (t : List ℕ). t ++ (last ++ [])) (flat_of_lines verdict_part (enumerate_from 1 file.verdicts))) in
    append_assoc (head ++ es) vs last ∙ append_assoc head es (vs ++ last) ∙ append_assoc (line (version_words VERSION)) (line (sizes_words file.sizes)) (es ++ (vs ++ last))
    ∙ ap (λ (t : List ℕ). line (version_words VERSION) ++ (line (sizes_words file.sizes) ++ t))
    (ap (λ (t : List ℕ). es ++ (vs ++ t)) (sym (append-nil last)) ∙ sym rows)

-- the same, step by step
pub text_is_put_in_steps : (file : FileLists) (a b c d : List ℕ) → a ≡ [] ++ (line (version_words VERSION) ++ line (sizes_words file.sizes))
    → b ≡ a ++ flat_map event_part file.events → c ≡ b ++ flat_map verdict_part (enumerate_from 1 file.verdicts) → d ≡ c ++ line (end_words file) → d ≡ journal_text file
text_is_put_in_steps file a b c d head es vs last =
    last ∙ ap (λ (t : List ℕ). t ++ line (end_words file))
    (vs ∙ ap (λ (t : List ℕ). t ++ flat_map verdict_part (enumerate_from 1 file.verdicts)) (es ∙ ap (λ (t : List ℕ). t ++ flat_map event_part file.events) head))
    ∙ text_is_put file

-- the first two lines
pub head_is_put : (old first now : List ℕ) (z : Sizes) → first ≡ old ++ line (version_words VERSION) → now ≡ first ++ line (sizes_words z)
    → now ≡ old ++ (line (version_words VERSION) ++ line (sizes_words z))
head_is_put old first now z one two =
    two ∙ ap (λ (t : List ℕ). t ++ line (sizes_words z)) one ∙ append_assoc old (line (version_words VERSION)) (line (sizes_words z))
