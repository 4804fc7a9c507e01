-- What is read as a verdict is what is written of it, and what is written is read.
use Rattle.std.proofs.Common.{◌≡◌, ℕ, ◌^◌, true, false, cond, leb, eqb, List, [], ◌∷◌, ◌++◌, Option, Some, None}
use Rattle.std.proofs.Common.{refl, ap, subst, ◌∙◌, arith, inl, inr}
use Rattle.std.specs.Prelude.{codes}
use Rattle.std.specs.Char.{is_ascii_digit}
use Rattle.std.specs.Fmt.{decimal}
use Rattle.std.specs.List.{All, join_with_byte}
use Rattle.std.specs.Str.{all_ascii_digits, bytes_eq}
use Rattle.std.proofs.lemmas.Bool.{and_parts, leb-true, ne_eqb}
use Rattle.std.proofs.lemmas.Fmt.{digits_decimal}
use Rattle.std.proofs.lemmas.List.Elements.{All-cons, All-nil}
use Rattle.std.proofs.lemmas.List.Folds.{list_all-append}
use Rattle.st_events.specs.declared.verdicts.Plain.TheVariants as plain
use Rattle.st_events.specs.declared.verdicts.Verdict.TheVariants as verdict
use Rattle.st_texts.specs.Texts.{place_text, verdict_text}
use Rattle.st_journal.specs.Terms.{Site, Plain, Verdict}
use Rattle.st_journal.specs.Format.{FitsPlace, FitsVerdict, IsHalf}
use Rattle.st_journal.specs.Reading.{half, half_in, place_in, plain_in, fault_in, verdict_in}
use Rattle.st_journal.specs.Words.{◌>>=◌, below, cut, number_in}
use Rattle.st_journal.proofs.EventLemmas.{step_of, below_step, below_again, choice, tested, words_same}
use Rattle.st_journal.proofs.LineLemmas.{some_parts, cut_gives}
use Rattle.st_journal.proofs.NumberLemmas.{decimals, number_is_written, written_is_read}
use Rattle.st_journal.proofs.SplitLemmas.{IsPlain, is_plain, decimal_is_plain}
use Rattle.st_journal.proofs.WrittenLemmas.{half_is_word}

-- ---- numbers of 32 bits, and places

-- a word that is read as a number of 32 bits is its decimal text
pub half_is_written : (word : List ℕ) (n : ℕ) → half_in word ≡ Some n → (word ≡ decimal n) × IsHalf n
unfolding half_in
half_is_written word n e =
    let a = step_of (number_in word) half n e in
    let b = below_step (2 ^ 32) a.0 (λ k. Some k) n (and_then_some (below (2 ^ 32) a.0) n a.2) in
    let same : a.0 ≡ n = cc (b.1) in
    (rw (← same) ((number_is_written word a.0 a.1).0), omega (arith, b.0, same))
  where
    and_then_some : (x : Option ℕ) (n : ℕ) → x ≡ Some n → (x >>= λ k. Some k) ≡ Some n
    and_then_some (Some k) n e = e
    and_then_some None n e = absurd cc

-- the decimal text of a number of 32 bits is read as this number
pub half_is_read : (n : ℕ) → IsHalf n → half_in (decimal n) ≡ Some n
unfolding half_in
half_is_read n fits = rw (written_is_read n (half_is_word n fits), below_again (2 ^ 32) n fits) refl

digit_is_no_colon : (b : ℕ) → is_ascii_digit b ≡ true → eqb b 58 ≡ false
digit_is_no_colon b e = let parts = and_parts (leb 48 b) (leb b 57) e in ne_eqb b 58 (λ same. omega (arith, leb-true b 57 parts.1, same))

digits_are_cut : (word more : List ℕ) → all_ascii_digits word ≡ true → cut 58 (word ++ 58 ∷ more) ≡ some_parts word more
digits_are_cut [] more e = refl
digits_are_cut (b ∷ word) more e =
    let parts = and_parts (is_ascii_digit b) (all_ascii_digits word) e in
    rw (digit_is_no_colon b parts.0, digits_are_cut word more parts.1) refl

abbrev at_site : ℕ → ℕ → Site
at_site line column = record { line = line; column = column }

abbrev site_of : ℕ → ℕ → Option Site
site_of line column = Some (at_site line column)

place_is_written : (word : List ℕ) (place : Site) → place_in word ≡ Some place → (word ≡ place_text place) × FitsPlace place
unfolding place_in
place_is_written word place e =
    let a = step_of (cut 58 word) (λ parts. half_in parts.0 >>= λ line. half_in parts.1 >>= λ column. site_of line column) place e in
    let b = step_of (half_in a.0.0) (λ line. half_in a.0.1 >>= λ column. site_of line column) place a.2 in
    let c = step_of (half_in a.0.1) (λ column. site_of b.0 column) place b.2 in
    let parts : word ≡ a.0.0 ++ 58 ∷ a.0.1 = (cut_gives 58 word a.0.0 a.0.1 a.1).parts in
    let line = half_is_written a.0.0 b.0 b.1 in
    let column = half_is_written a.0.1 c.0 c.1 in
    let is : at_site b.0 c.0 ≡ place = cc (c.2) in
    subst (λ (p : Site). (word ≡ place_text p) × FitsPlace p) is
    (parts ∙ ap (λ (l : List ℕ). l ++ 58 ∷ a.0.1) line.0 ∙ ap (λ (c : List ℕ). decimal b.0 ++ 58 ∷ c) column.0, (line.1, column.1))

place_is_read : (place : Site) → FitsPlace place → place_in (place_text place) ≡ Some place
unfolding place_in
place_is_read place fits =
    rw (
      digits_are_cut (decimal place.line) (decimal place.column) (digits_decimal decimals place.line (half_is_word place.line fits.0)),
      half_is_read place.line fits.0,
      half_is_read place.column fits.1,
    ) refl

place_is_plain : (place : Site) → FitsPlace place → IsPlain (place_text place)
place_is_plain place fits =
    list_all-append is_plain (decimal place.line) (58 ∷ decimal place.column)
    ∙ rw (decimal_is_plain place.line (half_is_word place.line fits.0), decimal_is_plain place.column (half_is_word place.column fits.1)) refl

-- ---- verdicts

-- the words of a verdict, without blanks
abbrev pub parts_of : Verdict → List (List ℕ)
parts_of (verdict.Plain plain.Holds) = codes "holds" ∷ []
parts_of (verdict.Plain plain.Fails) = codes "fails" ∷ []
parts_of (verdict.Plain (plain.Null place)) = codes "fault" ∷ codes "null" ∷ place_text place ∷ []
parts_of (verdict.Plain (plain.Divide place)) = codes "fault" ∷ codes "divide" ∷ place_text place ∷ []
parts_of (verdict.Plain (plain.Overflow place)) = codes "fault" ∷ codes "overflow" ∷ place_text place ∷ []
parts_of (verdict.Plain plain.Spent) = codes "spent" ∷ []
parts_of (verdict.Plain plain.Deep) = codes "deep" ∷ []
parts_of (verdict.Abandoned obj) = codes "abandoned" ∷ decimal obj ∷ []

-- joined they are its text
pub parts_join : (v : Verdict) → join_with_byte 32 (parts_of v) ≡ verdict_text v
parts_join (verdict.Plain plain.Holds) = refl
parts_join (verdict.Plain plain.Fails) = refl
parts_join (verdict.Plain (plain.Null place)) = refl
parts_join (verdict.Plain (plain.Divide place)) = refl
parts_join (verdict.Plain (plain.Overflow place)) = refl
parts_join (verdict.Plain plain.Spent) = refl
parts_join (verdict.Plain plain.Deep) = refl
parts_join (verdict.Abandoned obj) = refl

abbrev Told : List (List ℕ) → Verdict → Type 0
Told words v = (words ≡ parts_of v) × FitsVerdict v

plain_is_written : (word : List ℕ) (value : Plain) → plain_in word ≡ Some value → Told (word ∷ []) (verdict.Plain value)
unfolding plain_in
plain_is_written word value e =
    let after_spent : Option Plain = cond (bytes_eq word (codes "deep")) (Some plain.Deep) None in
    let after_fails : Option Plain = cond (bytes_eq word (codes "spent")) (Some plain.Spent) after_spent in
    let after_holds : Option Plain = cond (bytes_eq word (codes "fails")) (Some plain.Fails) after_fails in
    elim (choice (bytes_eq word (codes "holds")) (Some plain.Holds) after_holds value e) [
      | inl h ↦ let is : plain.Holds ≡ value = cc (h.1) in one_word (codes "holds") plain.Holds refl tt h.0 is
      | inr no_h ↦ elim (choice (bytes_eq word (codes "fails")) (Some plain.Fails) after_fails value no_h) [
        | inl f ↦ let is : plain.Fails ≡ value = cc (f.1) in one_word (codes "fails") plain.Fails refl tt f.0 is
        | inr no_f ↦ elim (choice (bytes_eq word (codes "spent")) (Some plain.Spent) after_spent value no_f) [
          | inl s ↦ let is : plain.Spent ≡ value = cc (s.1) in one_word (codes "spent") plain.Spent refl tt s.0 is
          | inr no_s ↦
              let d = tested (bytes_eq word (codes "deep")) (Some plain.Deep) value no_s in
              let is : plain.Deep ≡ value = cc (d.1) in one_word (codes "deep") plain.Deep refl tt d.0 is
        ]
      ]
    ]
  where
    one_word : (known : List ℕ) (p : Plain) → known ∷ [] ≡ parts_of (verdict.Plain p) → FitsVerdict (verdict.Plain p) → bytes_eq word known ≡ true
        → p ≡ value → Told (word ∷ []) (verdict.Plain value)
    one_word known p spelled fits same is =
        subst (λ (v : Plain). Told (word ∷ []) (verdict.Plain v)) is (ap (λ (w : List ℕ). w ∷ []) (words_same word known same) ∙ spelled, fits)

fault_is_written : (kind word : List ℕ) (place : Site) (value : Plain) → word ≡ place_text place → FitsPlace place → fault_in kind place ≡ Some value
    → Told (codes "fault" ∷ kind ∷ word ∷ []) (verdict.Plain value)
unfolding fault_in
fault_is_written kind word place value spelled fits e =
    let after_divide : Option Plain = cond (bytes_eq kind (codes "overflow")) (Some (plain.Overflow place)) None in
    let after_null : Option Plain = cond (bytes_eq kind (codes "divide")) (Some (plain.Divide place)) after_divide in
    elim (choice (bytes_eq kind (codes "null")) (Some (plain.Null place)) after_null value e) [
      | inl n ↦ let is : plain.Null place ≡ value = cc (n.1) in of_kind (codes "null") (plain.Null place) refl fits n.0 is
      | inr no_n ↦ elim (choice (bytes_eq kind (codes "divide")) (Some (plain.Divide place)) after_divide value no_n) [
        | inl d ↦ let is : plain.Divide place ≡ value = cc (d.1) in of_kind (codes "divide") (plain.Divide place) refl fits d.0 is
        | inr no_d ↦
            let o = tested (bytes_eq kind (codes "overflow")) (Some (plain.Overflow place)) value no_d in
            let is : plain.Overflow place ≡ value = cc (o.1) in of_kind (codes "overflow") (plain.Overflow place) refl fits o.0 is
      ]
    ]
  where
    of_kind : (known : List ℕ) (p : Plain) → codes "fault" ∷ known ∷ place_text place ∷ [] ≡ parts_of (verdict.Plain p) → FitsVerdict (verdict.Plain p)
        → bytes_eq kind known ≡ true → p ≡ value → Told (codes "fault" ∷ kind ∷ word ∷ []) (verdict.Plain value)
    of_kind known p told fits same is =
        subst (λ (v : Plain). Told (codes "fault" ∷ kind ∷ word ∷ []) (verdict.Plain v)) is
        (ap (λ (k : List ℕ). codes "fault" ∷ k ∷ word ∷ []) (words_same kind known same) ∙ ap (λ (w : List ℕ). codes "fault" ∷ known ∷ w ∷ []) spelled ∙ told, fits)

abbrev plain_verdict : Plain → Option Verdict
plain_verdict value = Some (verdict.Plain value)

abbrev lost_at : ℕ → Option Verdict
lost_at obj = Some (verdict.Abandoned obj)

-- words that are read as a verdict are the words of this verdict, and its numbers fit
pub verdict_is_written : (words : List (List ℕ)) (v : Verdict) → verdict_in words ≡ Some v → Told words v
unfolding verdict_in
verdict_is_written [] v e = absurd cc
verdict_is_written (word ∷ []) v e =
    let a = step_of (plain_in word) plain_verdict v e in
    let is : verdict.Plain a.0 ≡ v = cc (a.2) in
    subst (Told (word ∷ [])) is (plain_is_written word a.0 a.1)
verdict_is_written (head ∷ obj ∷ []) v e =
    let t = tested (bytes_eq head (codes "abandoned")) (half_in obj >>= lost_at) v e in
    let a = step_of (half_in obj) lost_at v t.1 in
    let is : verdict.Abandoned a.0 ≡ v = cc (a.2) in
    let n = half_is_written obj a.0 a.1 in
    subst (Told (head ∷ obj ∷ [])) is
    (ap (λ (h : List ℕ). h ∷ obj ∷ []) (words_same head (codes "abandoned") t.0) ∙ ap (λ (o : List ℕ). codes "abandoned" ∷ o ∷ []) n.0, n.1)
verdict_is_written (head ∷ kind ∷ place ∷ []) v e =
    let t = tested (bytes_eq head (codes "fault")) (place_in place >>= λ at. fault_in kind at >>= plain_verdict) v e in
    let a = step_of (place_in place) (λ at. fault_in kind at >>= plain_verdict) v t.1 in
    let b = step_of (fault_in kind a.0) plain_verdict v a.2 in
    let is : verdict.Plain b.0 ≡ v = cc (b.2) in
    let at = place_is_written place a.0 a.1 in
    let told = fault_is_written kind place a.0 b.0 at.0 at.1 b.1 in
    subst (Told (head ∷ kind ∷ place ∷ [])) is (ap (λ (h : List ℕ). h ∷ kind ∷ place ∷ []) (words_same head (codes "fault") t.0) ∙ told.0, told.1)
verdict_is_written (a ∷ b ∷ c ∷ d ∷ more) v e = absurd cc

-- the words of a verdict whose numbers fit are read as this verdict
pub verdict_is_read : (v : Verdict) → FitsVerdict v → verdict_in (parts_of v) ≡ Some v
unfolding verdict_in plain_in fault_in
verdict_is_read (verdict.Plain plain.Holds) fits = refl
verdict_is_read (verdict.Plain plain.Fails) fits = refl
verdict_is_read (verdict.Plain (plain.Null place)) fits = rw (place_is_read place fits) refl
verdict_is_read (verdict.Plain (plain.Divide place)) fits = rw (place_is_read place fits) refl
verdict_is_read (verdict.Plain (plain.Overflow place)) fits = rw (place_is_read place fits) refl
verdict_is_read (verdict.Plain plain.Spent) fits = refl
verdict_is_read (verdict.Plain plain.Deep) fits = refl
verdict_is_read (verdict.Abandoned obj) fits = rw (half_is_read obj fits) refl

one_plain : (word : List ℕ) → IsPlain word → All IsPlain (word ∷ [])
one_plain word plain = All-cons IsPlain word [] plain (All-nil IsPlain)

three_plain : (kind : List ℕ) (place : Site) → IsPlain kind → FitsPlace place → All IsPlain (codes "fault" ∷ kind ∷ place_text place ∷ [])
three_plain kind place plain fits =
    All-cons IsPlain (codes "fault") (kind ∷ place_text place ∷ []) refl (All-cons IsPlain kind (place_text place ∷ []) plain (one_plain (place_text place) (place_is_plain place fits)))

-- the words of a verdict whose numbers fit have no blank and no newline in them
pub verdict_is_plain : (v : Verdict) → FitsVerdict v → All IsPlain (parts_of v)
verdict_is_plain (verdict.Plain plain.Holds) fits = one_plain (codes "holds") refl
verdict_is_plain (verdict.Plain plain.Fails) fits = one_plain (codes "fails") refl
verdict_is_plain (verdict.Plain (plain.Null place)) fits = three_plain (codes "null") place refl fits
verdict_is_plain (verdict.Plain (plain.Divide place)) fits = three_plain (codes "divide") place refl fits
verdict_is_plain (verdict.Plain (plain.Overflow place)) fits = three_plain (codes "overflow") place refl fits
verdict_is_plain (verdict.Plain plain.Spent) fits = one_plain (codes "spent") refl
verdict_is_plain (verdict.Plain plain.Deep) fits = one_plain (codes "deep") refl
verdict_is_plain (verdict.Abandoned obj) fits = All-cons IsPlain (codes "abandoned") (decimal obj ∷ []) refl (one_plain (decimal obj) (decimal_is_plain obj (half_is_word obj fits)))
