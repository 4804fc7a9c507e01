-- The first two lines: the version, and the sizes.
use Rattle.std.proofs.Common.{◌≡◌, ℕ, suc, ◌^◌, Bool, true, false, not, cond, leb, ◌&&◌, ◌⊎◌, take, List, [], ◌∷◌, Option, Some, None, Result, Ok, Err}
use Rattle.std.proofs.Common.{refl, sym, ap, subst, ◌∙◌, arith, inl, inr}
use Rattle.std.specs.Prelude.{codes}
use Rattle.std.specs.Fmt.{decimal}
use Rattle.std.specs.List.{All}
use Rattle.std.specs.Str.{bytes_eq}
use Rattle.std.proofs.lemmas.Bool.{and_parts, eqb-true, leb-true, le-leb, false≢true, false_from_ne_true}
use Rattle.std.proofs.lemmas.List.Elements.{All-cons, All-nil}
use Rattle.st_events.specs.declared.limits.TheConstants.{MOST_MUTATORS, MOST_LANES, MOST_OBJECTS, MOST_COPIES, MOST_EVENTS, MOST_CALLS}
use Rattle.st_journal.specs.declared.errors.JournalError.{JournalError}
use Rattle.st_journal.specs.declared.errors.JournalError.TheVariants as journal
use Rattle.st_journal.specs.declared.reading.TheConstants.{VERSION_LINE}
use Rattle.st_journal.specs.declared.versions.TheConstants.{VERSION}
use Rattle.st_journal.specs.Terms.{Sizes, AreWithinLimits}
use Rattle.st_journal.specs.Format.{numbered, version_words, sizes_words, IsWord}
use Rattle.st_journal.specs.Reading.{byte, half, content, line_or_bad, with_rest, sizes_of, sizes_in}
use Rattle.st_journal.specs.Rows.{is_known, version_of, version_in}
use Rattle.st_journal.specs.Words.{◌>>=◌, is_number, number_in, numbers_in}
use Rattle.st_journal.proofs.EventLemmas.{step_of, below_step, below_again, tested, words_same, numbers_are_written, written_are_read}
use Rattle.st_journal.proofs.NumberLemmas.{number_is_written, written_is_number, written_is_read, number_is_digits}
use Rattle.st_journal.proofs.RowLemmas.{first_is, first_line_parts}
use Rattle.st_journal.proofs.SplitLemmas.{IsPlain, numbered_are_plain, digits_are_plain, decimal_is_plain}

-- ---- the first of some lines

-- where a first line is taken, the lines begin with it, and it had an end
pub first_line_of : (n : ℕ) (lines : List (List ℕ)) (text : List ℕ) (rest : List (List ℕ)) → line_or_bad n lines ≡ first_is text rest
    → (whole : List ℕ) × (lines ≡ whole ∷ rest) × (content whole ≡ Some text)
unfolding line_or_bad
first_line_of n [] text rest e = absurd cc
first_line_of n (whole ∷ lines) text rest e =
    let parts = first_line_parts n (content whole) lines text rest e in
    (whole, ap (λ (ls : List (List ℕ)). whole ∷ ls) parts.1, parts.0)

-- a line with an end is taken where it comes first
pub first_line_is : (n : ℕ) (whole text : List ℕ) (rest : List (List ℕ)) → content whole ≡ Some text → line_or_bad n (whole ∷ rest) ≡ first_is text rest
unfolding line_or_bad
first_line_is n whole text rest is = rw is refl

alike_parts : (j : ℕ) (x y : List ℕ) (a b : List (List ℕ)) → take (suc j) (x ∷ a) ≡ take (suc j) (y ∷ b) → (x ≡ y) × (take j a ≡ take j b)
alike_parts j x y a b e = (cc, cc)

no_first_line : (n : ℕ) (text : List ℕ) (rest : List (List ℕ)) → line_or_bad n [] ≡ first_is text rest → ⊥
unfolding line_or_bad
no_first_line n text rest e = cc

none_is_some : (j : ℕ) (x : List ℕ) (a : List (List ℕ)) → take (suc j) [] ≡ take (suc j) (x ∷ a) → ⊥
none_is_some j x a e = cc

-- lines that begin alike have the same first line
pub first_lines_alike : (n j : ℕ) (lines others : List (List ℕ)) (text : List ℕ) (rest : List (List ℕ)) → take (suc j) lines ≡ take (suc j) others
    → line_or_bad n lines ≡ first_is text rest → (more : List (List ℕ)) × (line_or_bad n others ≡ first_is text more) × (take j rest ≡ take j more)
first_lines_alike n j [] others text rest alike e = absurd (no_first_line n text rest e)
first_lines_alike n j (l ∷ lines) [] text rest alike e = absurd (none_is_some j l lines (sym alike))
first_lines_alike n j (l ∷ lines) (m ∷ others) text rest alike e =
    let parts = alike_parts j l m lines others alike in
    let first = first_line_of n (l ∷ lines) text rest e in
    let heads : l ≡ first.0 = same_heads l first.0 lines rest first.1 in
    let tails : lines ≡ rest = same_tails l first.0 lines rest first.1 in
    (others, first_line_is n m text others (ap content (sym parts.0 ∙ heads) ∙ first.2), subst (λ (ls : List (List ℕ)). take j ls ≡ take j others) tails parts.1)
  where
    same_heads : (x y : List ℕ) (a b : List (List ℕ)) → x ∷ a ≡ y ∷ b → x ≡ y
    same_heads x y a b e = cc

    same_tails : (x y : List ℕ) (a b : List (List ℕ)) → x ∷ a ≡ y ∷ b → a ≡ b
    same_tails x y a b e = cc

-- or lack it alike
error_of_first : (n : ℕ) (found : Option (List ℕ)) (rest : List (List ℕ)) (error : JournalError) → with_rest n found rest ≡ Err error → (found ≡ None) × (error ≡ journal.BadLine n)
error_of_first n None rest error e = (refl, cc)
error_of_first n (Some text) rest error e = absurd cc

-- where no first line is taken, the answer is that this line is bad
pub first_error : (n : ℕ) (lines : List (List ℕ)) (error : JournalError) → line_or_bad n lines ≡ Err error → error ≡ journal.BadLine n
unfolding line_or_bad
first_error n [] error e = cc
first_error n (l ∷ lines) error e = (error_of_first n (content l) lines error e).1

-- that no first line is taken depends on the first line alone
pub errors_alike : (n j : ℕ) (lines others : List (List ℕ)) (error : JournalError) → take (suc j) lines ≡ take (suc j) others
    → line_or_bad n lines ≡ Err error → line_or_bad n others ≡ Err error
unfolding line_or_bad
errors_alike n j [] [] error alike e = e
errors_alike n j [] (m ∷ others) error alike e = absurd (none_is_some j m others alike)
errors_alike n j (l ∷ lines) [] error alike e = absurd (none_is_some j l lines (sym alike))
errors_alike n j (l ∷ lines) (m ∷ others) error alike e =
    let parts = alike_parts j l m lines others alike in
    let bad = error_of_first n (content l) lines error e in
    rw (← parts.0, bad.0, bad.1) refl

-- ---- the version

abbrev Known : Type 0
Known = Result (Unit {0}) JournalError

abbrev known : Known
known = Ok tt

abbrev fails : JournalError → Known
fails e = Err e

known_parts : (a b c d : Bool) → cond (not a) (fails (journal.BadLine VERSION_LINE)) (cond (not b) (fails (journal.BadLine VERSION_LINE))
    (cond (not c) (fails (journal.BadLine VERSION_LINE)) (cond d known (fails journal.BadVersion)))) ≡ known
    → (a ≡ true) × (b ≡ true) × (d ≡ true)
known_parts false b c d e = absurd cc
known_parts true false c d e = absurd cc
known_parts true true false d e = absurd cc
known_parts true true true false e = absurd cc
known_parts true true true true e = (refl, refl, refl)

other_parts : (a b c d : Bool) → cond (not a) (fails (journal.BadLine VERSION_LINE)) (cond (not b) (fails (journal.BadLine VERSION_LINE))
    (cond (not c) (fails (journal.BadLine VERSION_LINE)) (cond d known (fails journal.BadVersion)))) ≡ fails journal.BadVersion
    → (a ≡ true) × (b ≡ true) × (c ≡ true) × (d ≡ false)
other_parts false b c d e = absurd cc
other_parts true false c d e = absurd cc
other_parts true true false d e = absurd cc
other_parts true true true true e = absurd cc
other_parts true true true false e = (refl, refl, refl, refl)

error_parts : (a b c d : Bool) (error : JournalError) → cond (not a) (fails (journal.BadLine VERSION_LINE)) (cond (not b) (fails (journal.BadLine VERSION_LINE))
    (cond (not c) (fails (journal.BadLine VERSION_LINE)) (cond d known (fails journal.BadVersion)))) ≡ fails error
    → (error ≡ journal.BadLine VERSION_LINE) ⊎ (error ≡ journal.BadVersion)
error_parts false b c d error e = inl cc
error_parts true false c d error e = inl cc
error_parts true true false d error e = inl cc
error_parts true true true true error e = absurd cc
error_parts true true true false error e = inr cc

known_number : (n : Option ℕ) → is_known n ≡ true → n ≡ Some VERSION
known_number None e = absurd cc
known_number (Some n) e = ap Some (eqb-true n VERSION e)

-- only the words that `write` puts first tell the version that is read
pub known_version_is : (words : List (List ℕ)) → version_in words ≡ known → words ≡ version_words VERSION
unfolding version_in version_of
known_version_is [] e = absurd cc
known_version_is (a ∷ []) e = absurd cc
known_version_is (a ∷ b ∷ []) e = absurd cc
known_version_is (a ∷ b ∷ c ∷ []) e =
    let parts = known_parts (bytes_eq a (codes "strobe")) (bytes_eq b (codes "journal")) (is_number c) (is_known (number_in c)) e in
    let number = number_is_written c VERSION (known_number (number_in c) parts.2) in
    rw (words_same a (codes "strobe") parts.0, words_same b (codes "journal") parts.1, number.0) refl
known_version_is (a ∷ b ∷ c ∷ d ∷ more) e = absurd cc

-- the words that `write` puts first tell the version that is read
pub version_is_known : version_in (version_words VERSION) ≡ known
unfolding version_in version_of
version_is_known =
    rw (written_is_number VERSION (omega arith), written_is_read VERSION (omega arith)) refl

-- the words of another version
pub record OtherVersion (words : List (List ℕ)) : Type 0 where
  pub digits : List ℕ
  pub number : is_number digits ≡ true
  pub other : digits ≡ decimal VERSION → ⊥
  pub told : words ≡ codes "strobe" ∷ codes "journal" ∷ digits ∷ []

-- words for which reading answers BadVersion are strobe, journal and another decimal number
pub other_version_is : (words : List (List ℕ)) → version_in words ≡ fails journal.BadVersion → OtherVersion words
unfolding version_in version_of
other_version_is [] e = absurd cc
other_version_is (a ∷ []) e = absurd cc
other_version_is (a ∷ b ∷ []) e = absurd cc
other_version_is (a ∷ b ∷ c ∷ []) e =
    let parts = other_parts (bytes_eq a (codes "strobe")) (bytes_eq b (codes "journal")) (is_number c) (is_known (number_in c)) e in
    record {
      digits = c;
      number = parts.2;
      other = λ same. false≢true (sym parts.3 ∙ ap is_known (ap number_in same ∙ written_is_read VERSION (omega arith)));
      told = rw (words_same a (codes "strobe") parts.0, words_same b (codes "journal") parts.1) refl;
    }
other_version_is (a ∷ b ∷ c ∷ d ∷ more) e = absurd cc

-- the words strobe, journal and another decimal number make reading answer BadVersion
pub version_is_other : (digits : List ℕ) → is_number digits ≡ true → (digits ≡ decimal VERSION → ⊥)
    → version_in (codes "strobe" ∷ codes "journal" ∷ digits ∷ []) ≡ fails journal.BadVersion
unfolding version_in version_of
version_is_other digits number other =
    let unknown : is_known (number_in digits) ≡ false =
    false_from_ne_true (is_known (number_in digits)) (λ e. other ((number_is_written digits VERSION (known_number (number_in digits) e)).0)) in
    rw (number, unknown) refl

-- the words of the first line have two errors alone: the line is bad, or the version is another
pub version_error : (words : List (List ℕ)) (error : JournalError) → version_in words ≡ fails error → (error ≡ journal.BadLine VERSION_LINE) ⊎ (error ≡ journal.BadVersion)
unfolding version_in version_of
version_error [] error e = inl cc
version_error (a ∷ []) error e = inl cc
version_error (a ∷ b ∷ []) error e = inl cc
version_error (a ∷ b ∷ c ∷ []) error e = error_parts (bytes_eq a (codes "strobe")) (bytes_eq b (codes "journal")) (is_number c) (is_known (number_in c)) error e
version_error (a ∷ b ∷ c ∷ d ∷ more) error e = inl cc

three_plain : (digits : List ℕ) → IsPlain digits → All IsPlain (codes "strobe" ∷ codes "journal" ∷ digits ∷ [])
three_plain digits plain =
    All-cons IsPlain (codes "strobe") (codes "journal" ∷ digits ∷ []) refl
    (All-cons IsPlain (codes "journal") (digits ∷ []) refl (All-cons IsPlain digits [] plain (All-nil IsPlain)))

-- the words of the first line have no blank and no newline in them
pub version_is_plain : All IsPlain (version_words VERSION)
version_is_plain = three_plain (decimal VERSION) (decimal_is_plain VERSION (omega arith))

-- the words of a first line with another version have no blank and no newline in them
pub other_is_plain : (digits : List ℕ) → is_number digits ≡ true → All IsPlain (codes "strobe" ∷ codes "journal" ∷ digits ∷ [])
other_is_plain digits number = three_plain digits (digits_are_plain digits (number_is_digits digits number))

-- ---- the sizes

abbrev sized : ℕ → ℕ → ℕ → ℕ → ℕ → ℕ → Sizes
sized mutators lanes objects copies events calls = record { mutators = mutators; lanes = lanes; objects = objects; copies = copies; events = events; calls = calls }

abbrev within : Sizes → Bool
within z =
    leb z.mutators MOST_MUTATORS && leb 1 z.lanes && leb z.lanes MOST_LANES && leb 1 z.objects && leb z.objects MOST_OBJECTS && leb z.copies MOST_COPIES
    && leb 1 z.events && leb z.events MOST_EVENTS && leb z.calls MOST_CALLS

abbrev some_sizes : Sizes → Option Sizes
some_sizes z = Some z

within_limits : (z : Sizes) → within z ≡ true → AreWithinLimits z
within_limits z e =
    let t9 = and_parts (leb z.mutators MOST_MUTATORS && leb 1 z.lanes && leb z.lanes MOST_LANES && leb 1 z.objects && leb z.objects MOST_OBJECTS && leb z.copies MOST_COPIES
    && leb 1 z.events && leb z.events MOST_EVENTS) (leb z.calls MOST_CALLS) e in
    let t8 = and_parts (leb z.mutators MOST_MUTATORS && leb 1 z.lanes && leb z.lanes MOST_LANES && leb 1 z.objects && leb z.objects MOST_OBJECTS && leb z.copies MOST_COPIES
    && leb 1 z.events) (leb z.events MOST_EVENTS) t9.0 in
    let t7 = and_parts (leb z.mutators MOST_MUTATORS && leb 1 z.lanes && leb z.lanes MOST_LANES && leb 1 z.objects && leb z.objects MOST_OBJECTS && leb z.copies MOST_COPIES)
    (leb 1 z.events) t8.0 in
    let t6 = and_parts (leb z.mutators MOST_MUTATORS && leb 1 z.lanes && leb z.lanes MOST_LANES && leb 1 z.objects && leb z.objects MOST_OBJECTS) (leb z.copies MOST_COPIES) t7.0 in
    let t5 = and_parts (leb z.mutators MOST_MUTATORS && leb 1 z.lanes && leb z.lanes MOST_LANES && leb 1 z.objects) (leb z.objects MOST_OBJECTS) t6.0 in
    let t4 = and_parts (leb z.mutators MOST_MUTATORS && leb 1 z.lanes && leb z.lanes MOST_LANES) (leb 1 z.objects) t5.0 in
    let t3 = and_parts (leb z.mutators MOST_MUTATORS && leb 1 z.lanes) (leb z.lanes MOST_LANES) t4.0 in
    let t2 = and_parts (leb z.mutators MOST_MUTATORS) (leb 1 z.lanes) t3.0 in
    record {
      mutators = leb-true z.mutators MOST_MUTATORS t2.0;
      lanes = (leb-true 1 z.lanes t2.1, leb-true z.lanes MOST_LANES t3.1);
      objects = (leb-true 1 z.objects t4.1, leb-true z.objects MOST_OBJECTS t5.1);
      copies = leb-true z.copies MOST_COPIES t6.1;
      events = (leb-true 1 z.events t7.1, leb-true z.events MOST_EVENTS t8.1);
      calls = leb-true z.calls MOST_CALLS t9.1;
    }

limits_within : (z : Sizes) → AreWithinLimits z → within z ≡ true
limits_within z fits =
    rw (
      le-leb z.mutators MOST_MUTATORS fits.mutators,
      le-leb 1 z.lanes fits.lanes.0,
      le-leb z.lanes MOST_LANES fits.lanes.1,
      le-leb 1 z.objects fits.objects.0,
      le-leb z.objects MOST_OBJECTS fits.objects.1,
      le-leb z.copies MOST_COPIES fits.copies,
      le-leb 1 z.events fits.events.0,
      le-leb z.events MOST_EVENTS fits.events.1,
      le-leb z.calls MOST_CALLS fits.calls,
    ) refl

abbrev size_numbers : Sizes → List ℕ
size_numbers z = z.mutators ∷ z.lanes ∷ z.objects ∷ z.copies ∷ z.events ∷ z.calls ∷ []

sizes_are_numbers : (numbers : List ℕ) (z : Sizes) → sizes_of numbers ≡ Some z → (numbers ≡ size_numbers z) × AreWithinLimits z
unfolding sizes_of
sizes_are_numbers (m ∷ l ∷ o ∷ p ∷ e ∷ q ∷ []) z is =
    let last : Option Sizes = cond (within (sized m l o p e q)) (some_sizes (sized m l o p e q)) None in
    let a1 = below_step (2 ^ 8) m (λ m. byte l >>= λ l. half o >>= λ o. half p >>= λ p. half e >>= λ e. half q >>= λ q. cond (within (sized m l o p e q)) (some_sizes (sized m l o p e q)) None)
    z is in
    let a2 = below_step (2 ^ 8) l (λ l. half o >>= λ o. half p >>= λ p. half e >>= λ e. half q >>= λ q. cond (within (sized m l o p e q)) (some_sizes (sized m l o p e q)) None) z a1.1 in
    let a3 = below_step (2 ^ 32) o (λ o. half p >>= λ p. half e >>= λ e. half q >>= λ q. cond (within (sized m l o p e q)) (some_sizes (sized m l o p e q)) None) z a2.1 in
    let a4 = below_step (2 ^ 32) p (λ p. half e >>= λ e. half q >>= λ q. cond (within (sized m l o p e q)) (some_sizes (sized m l o p e q)) None) z a3.1 in
    let a5 = below_step (2 ^ 32) e (λ e. half q >>= λ q. cond (within (sized m l o p e q)) (some_sizes (sized m l o p e q)) None) z a4.1 in
    let a6 = below_step (2 ^ 32) q (λ q. cond (within (sized m l o p e q)) (some_sizes (sized m l o p e q)) None) z a5.1 in
    let t = tested (within (sized m l o p e q)) (some_sizes (sized m l o p e q)) z a6.1 in
    let all : sized m l o p e q ≡ z = cc (t.1) in
    subst (λ (z : Sizes). (m ∷ l ∷ o ∷ p ∷ e ∷ q ∷ [] ≡ size_numbers z) × AreWithinLimits z) all (refl, within_limits (sized m l o p e q) t.0)
sizes_are_numbers _ z is = absurd cc

-- words that are read as sizes are those that `write` puts for these sizes, which are within the limits
pub sizes_are_written : (words : List (List ℕ)) (z : Sizes) → sizes_in words ≡ Some z → (words ≡ sizes_words z) × AreWithinLimits z
unfolding sizes_in
sizes_are_written [] z e = absurd cc
sizes_are_written (tag ∷ words) z e =
    let t = tested (bytes_eq tag (codes "sizes")) (numbers_in words >>= sizes_of) z e in
    let a = step_of (numbers_in words) sizes_of z t.1 in
    let w = numbers_are_written words a.0 a.1 in
    let n = sizes_are_numbers a.0 z a.2 in
    (ap (λ (t : List ℕ). t ∷ words) (words_same tag (codes "sizes") t.0) ∙ ap (λ (ws : List (List ℕ)). codes "sizes" ∷ ws) w.0 ∙ ap (numbered (codes "sizes")) n.0, n.1)

size_words : (z : Sizes) → AreWithinLimits z → All IsWord (size_numbers z)
size_words z fits =
    All-cons IsWord z.mutators (z.lanes ∷ z.objects ∷ z.copies ∷ z.events ∷ z.calls ∷ []) (omega (arith, fits.mutators))
    (All-cons IsWord z.lanes (z.objects ∷ z.copies ∷ z.events ∷ z.calls ∷ []) (omega (arith, fits.lanes.1))
    (All-cons IsWord z.objects (z.copies ∷ z.events ∷ z.calls ∷ []) (omega (arith, fits.objects.1))
    (All-cons IsWord z.copies (z.events ∷ z.calls ∷ []) (omega (arith, fits.copies))
    (All-cons IsWord z.events (z.calls ∷ []) (omega (arith, fits.events.1))
    (All-cons IsWord z.calls [] (omega (arith, fits.calls)) (All-nil IsWord))))))

-- the words of the second line have no blank and no newline in them
pub sizes_are_plain : (z : Sizes) → AreWithinLimits z → All IsPlain (sizes_words z)
sizes_are_plain z fits = numbered_are_plain (codes "sizes") (size_numbers z) refl (size_words z fits)

-- the words of sizes within the limits are read as these sizes
pub sizes_are_read : (z : Sizes) → AreWithinLimits z → sizes_in (sizes_words z) ≡ Some z
unfolding sizes_in sizes_of
sizes_are_read z fits =
    rw (
      written_are_read (size_numbers z) (size_words z fits),
      below_again (2 ^ 8) z.mutators (omega (arith, fits.mutators)),
      below_again (2 ^ 8) z.lanes (omega (arith, fits.lanes.1)),
      below_again (2 ^ 32) z.objects (omega (arith, fits.objects.1)),
      below_again (2 ^ 32) z.copies (omega (arith, fits.copies)),
      below_again (2 ^ 32) z.events (omega (arith, fits.events.1)),
      below_again (2 ^ 32) z.calls (omega (arith, fits.calls)),
      limits_within z fits,
    ) refl
