-- What the canonical text writes for a token is a token of the same kind, with the same value.
use Rattle.std.proofs.Common.{◌≡◌, ℕ, ◌+◌, ◌-◌, ◌*◌, ◌^◌, ◌<◌, ◌≤◌, Bool, true, false}
use Rattle.std.proofs.Common.{List, [], ◌∷◌, length, fold, refl, ap, sym, ◌∙◌, subst, arith, pos, ℤ}
use Rattle.std.specs.Prelude.{if◌then◌else◌, nat_le}
use Rattle.std.specs.Fmt.{decimal, signed_decimal}
use Rattle.std.specs.Int.{IsInRange}
use Rattle.std.specs.List.{list_all}
use Rattle.std.specs.Str.{bytes_eq}
use Rattle.std.proofs.lemmas.Bool.{true≢false, and_parts, and_from, leb-true}
use Rattle.std.proofs.lemmas.Bool.Decides.{nat_tests}
use Rattle.std.proofs.lemmas.Fmt.{decimal_nonempty, digits_decimal, digits_value-decimal}
use Rattle.std.proofs.lemmas.Slice.Eq.{bytes_eq-Decides}
use Rattle.std.proofs.lemmas.Str.Parse.{IsDigitsTest, FoldsDigits, IsNumeralModel, numerals_by_fold}
use Rattle.st_events.specs.declared.events.Site.{Site}
use Rattle.st_lex.specs.declared.kinds.Token.{Token}
use Rattle.st_lex.specs.declared.kinds.TokenKind.{TokenKind}
use Rattle.st_lex.specs.declared.kinds.TokenKind.TheVariants.{Word, Key, Number, Mark}
use Rattle.st_lex.specs.declared.limits.TheConstants.{LARGEST_NUMBER}
use Rattle.st_lex.specs.Bytes.{is_digit}
use Rattle.st_lex.specs.Spellings.{is_number, HasForm}
use Rattle.st_lex.specs.Spellings as spelling
use Rattle.st_lex.specs.Tokens.{IsToken, text_of}
use Rattle.st_grammar.specs.declared.sorts.Sort.{Sort}
use Rattle.st_grammar.specs.Sorts.{look_up, keywords, marks, sort_of}
use Rattle.st_grammar.specs.Terminals.{Terminal, terminal_of, value_of}
use Rattle.st_canonical_laws.proofs.Written.{word_of, is_used, word}

-- ---- numbers

digit_tests : IsDigitsTest (λ ds. list_all is_digit ds ≡ true)
digit_tests = record {
  empty = refl;
  parts = λ c cs h. (let p = and_parts (is_digit c) (list_all is_digit cs) h in (in_range c p.0, p.1));
  more = λ c cs k h. and_from (is_digit c) (list_all is_digit cs) (from_range c k) h;
}
  where
    in_range : (c : ℕ) → is_digit c ≡ true → IsInRange 48 57 c
    in_range c h = let m = and_parts (nat_le 48 c) (nat_le c 57) h in (leb-true 48 c m.0, leb-true c 57 m.1)

    from_range : (c : ℕ) → IsInRange 48 57 c → is_digit c ≡ true
    from_range c h = grind (arith, nat_tests)

-- the number so far, and digits after it
read_on : ℕ → List ℕ → ℕ
read_on n digits = fold (λ value digit. 10 * value + (digit - 48)) n digits

reads_on : FoldsDigits read_on
unfolding read_on
reads_on = record {
  empty = λ n. refl;
  more = λ n c cs k. (let e : 10 * n + (c - 48) ≡ n * 10 + (c - 48) = omega arith in ap (λ m. fold (λ value digit. 10 * value + (digit - 48)) m cs) e);
}

model : IsNumeralModel (λ ds. list_all is_digit ds ≡ true) (read_on 0)
model = numerals_by_fold (λ ds. list_all is_digit ds ≡ true) digit_tests read_on reads_on

some_digits : (ds : List ℕ) → 0 < length ds → list_all is_digit ds ≡ true → is_number ds ≡ true
some_digits [] some h = absurd (omega arith)
some_digits (d ∷ ds) some h = h

largest_small : LARGEST_NUMBER < 2 ^ 64
largest_small = omega arith

number_form : (n : ℕ) → n ≤ LARGEST_NUMBER → HasForm (Number (pos n)) (decimal n)
unfolding read_on
number_form n fits =
    let small : n < 2 ^ 64 = omega (arith, largest_small) in
    let value : spelling.decimal (decimal n) ≡ n = digits_value-decimal model n small in
    (some_digits (decimal n) (decimal_nonempty n small) (digits_decimal model n small), ap pos (sym value), omega (arith, value))

-- ---- keywords and marks

-- each word of the table is the word of its sort
abbrev AreWords : List (List ℕ × Sort) → Type 0
AreWords [] = Unit {0}
AreWords (w ∷ ws) = ((bytes : List ℕ) (value : ℤ) → word_of w.1 bytes value ≡ w.0) × AreWords ws

found : (ws : List (List ℕ × Sort)) → AreWords ws → (bytes : List ℕ) (value : ℤ) → is_used (look_up ws bytes) ≡ true → word_of (look_up ws bytes) bytes value ≡ bytes
found [] are bytes value used = absurd (true≢false (sym used))
found (w ∷ ws) are bytes value used = by (bytes_eq w.0 bytes) refl (found ws are.1 bytes value)
  where
    by : (b : Bool) → bytes_eq w.0 bytes ≡ b → (is_used (look_up ws bytes) ≡ true → word_of (look_up ws bytes) bytes value ≡ bytes)
        → word_of (look_up (w ∷ ws) bytes) bytes value ≡ bytes
    by true e later =
        ap (λ b. word_of (if b then w.1 else look_up ws bytes) bytes value) e ∙ are.0 bytes value ∙ (bytes_eq-Decides w.0 bytes).0 e
    by false e later =
        ap (λ b. word_of (if b then w.1 else look_up ws bytes) bytes value) e
        ∙ later (sym (ap (λ b. is_used (if b then w.1 else look_up ws bytes)) e) ∙ used)

keywords_are : AreWords keywords
keywords_are = (
  λ bytes value. refl,
  (
    λ bytes value. refl,
    (
      λ bytes value. refl,
      (
        λ bytes value. refl,
        (
          λ bytes value. refl,
          (
            λ bytes value. refl,
            (
              λ bytes value. refl,
              (
                λ bytes value. refl,
                (
                  λ bytes value. refl,
                  (
                    λ bytes value. refl,
                    (
                      λ bytes value. refl,
                      (
                        λ bytes value. refl,
                        (λ bytes value. refl, (λ bytes value. refl, (λ bytes value. refl, (λ bytes value. refl, (λ bytes value. refl, tt))))),
                      ),
                    ),
                  ),
                ),
              ),
            ),
          ),
        ),
      ),
    ),
  ),
)

marks_are : AreWords marks
marks_are = (
  λ bytes value. refl,
  (
    λ bytes value. refl,
    (
      λ bytes value. refl,
      (
        λ bytes value. refl,
        (
          λ bytes value. refl,
          (
            λ bytes value. refl,
            (
              λ bytes value. refl,
              (
                λ bytes value. refl,
                (
                  λ bytes value. refl,
                  (
                    λ bytes value. refl,
                    (
                      λ bytes value. refl,
                      (
                        λ bytes value. refl,
                        (
                          λ bytes value. refl,
                          (
                            λ bytes value. refl,
                            (
                              λ bytes value. refl,
                              (
                                λ bytes value. refl,
                                (
                                  λ bytes value. refl,
                                  (
                                    λ bytes value. refl,
                                    (λ bytes value. refl, (λ bytes value. refl, (λ bytes value. refl, (λ bytes value. refl, (λ bytes value. refl, (λ bytes value. refl, tt)))))),
                                  ),
                                ),
                              ),
                            ),
                          ),
                        ),
                      ),
                    ),
                  ),
                ),
              ),
            ),
          ),
        ),
      ),
    ),
  ),
)

-- ---- terminals

-- what is written for the terminal is a token of its sort and value
pub record Fine (t : Terminal) : Type 0 where
  pub kind : TokenKind
  pub form : HasForm kind (word t)
  pub sort : sort_of kind (word t) ≡ t.sort
  pub value : value_of kind ≡ t.value

abbrev terminal : TokenKind → List ℕ → Site → Terminal
terminal kind bytes site = record { sort = sort_of kind bytes; bytes = bytes; value = value_of kind; site = site }

fine_of : (kind : TokenKind) (bytes : List ℕ) (site : Site) → HasForm kind bytes → is_used (sort_of kind bytes) ≡ true → Fine (terminal kind bytes site)
unfolding sort_of
fine_of Word bytes site form used = record { kind = Word; form = form; sort = refl; value = refl }
fine_of (Number value) bytes site form used = record {
  kind = Number value;
  form = subst (λ v. HasForm (Number v) (signed_decimal v)) (sym form.1) (number_form (spelling.decimal bytes) form.2);
  sort = refl;
  value = refl;
}
fine_of Key bytes site form used =
    let same : word_of (look_up keywords bytes) bytes (pos 0) ≡ bytes = found keywords keywords_are bytes (pos 0) used in
    record { kind = Key; form = subst (HasForm Key) (sym same) form; sort = ap (look_up keywords) same; value = refl }
fine_of Mark bytes site form used =
    let same : word_of (look_up marks bytes) bytes (pos 0) ≡ bytes = found marks marks_are bytes (pos 0) used in
    record { kind = Mark; form = subst (HasForm Mark) (sym same) form; sort = ap (look_up marks) same; value = refl }

-- a token of a text
pub fine : (text : List ℕ) (token : Token) → IsToken text token → is_used (terminal_of text token).sort ≡ true → Fine (terminal_of text token)
fine text token h used = fine_of token.kind (text_of text token) token.site h.form used
