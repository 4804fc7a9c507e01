-- Reading a text that is made of words and blanks: its tokens are the words.
use Rattle.std.proofs.Common.{◌≡◌, ℕ, ℤ, suc, ◌+◌, ◌-◌, ◌<◌, ◌≤◌, Bool, true, false, not, ◌&&◌, List, [], ◌∷◌, ◌++◌, length, take, drop, map}
use Rattle.std.proofs.Common.{refl, ap, sym, ◌∙◌, subst, arith, inl, length-append, length-drop}
use Rattle.std.specs.Prelude.{◌==◌, nat_eq, slice_index, slice_range}
use Rattle.std.specs.List.{list_all, list_any, AllByRecursion}
use Rattle.std.specs.Str.{bytes_eq}
use Rattle.std.proofs.lemmas.Bool.{true≢false, false≢true, and_parts, not-true, eqb-true}
use Rattle.std.proofs.lemmas.Bool.Decides.{nat_tests}
use Rattle.std.proofs.lemmas.List.{drop-drop}
use Rattle.std.proofs.Math.Seq.{take-append_seam, take-append-add, drop-append_seam}
use Rattle.st_lex.specs.declared.kinds.Token.{Token}
use Rattle.st_lex.specs.declared.kinds.TokenKind.{TokenKind}
use Rattle.st_lex.specs.declared.kinds.TokenKind.TheVariants.{Word, Key, Number, Mark}
use Rattle.st_lex.specs.declared.words.TheConstants.{DOUBLE_MARKS}
use Rattle.st_lex.specs.Bytes.{is_blank, is_letter, is_digit, is_name_byte, opens_comment}
use Rattle.st_lex.specs.Spellings.{is_name, is_number, is_mark, is_double_mark, is_spelling, HasForm}
use Rattle.st_lex.specs.Tokens.{IsGap, IsToken, AreTokensApart, text_of}
use Rattle.st_lex.specs.Reading.{token_at}
use Rattle.st_lex.proofs.Runs.{false_where_not_true}
use Rattle.st_lex.proofs.GapLemmas.{gap_none, gap_onto}
use Rattle.st_grammar.specs.declared.sorts.Sort.{Sort}
use Rattle.st_grammar.specs.declared.sorts.Sort.TheVariants as sort
use Rattle.st_grammar.specs.Sorts.{sort_of}
use Rattle.st_grammar.specs.Terminals.{Terminal, terminal_of, terminals_of, value_of}
use Rattle.st_canonical_laws.specs.Placeless.{nowhere}
use Rattle.st_canonical_laws.proofs.Written.{word, word_of, blank}
use Rattle.st_canonical_laws.proofs.Fine.{Fine}

-- ---- a word before a blank is as long as it can be

and_no : (b : Bool) → (b && false) ≡ false
and_no true = refl
and_no false = refl

none_all : (p : ℕ → Bool) (xs ys : List ℕ) (b : ℕ) → p b ≡ false → list_all p (xs ++ b ∷ ys) ≡ false
none_all p [] ys b h = ap (λ t. t && list_all p ys) h
none_all p (x ∷ xs) ys b h = ap (λ t. p x && t) (none_all p xs ys b h) ∙ and_no (p x)

-- blanks are no bytes of words
blank_apart : (b : ℕ) → is_blank b ≡ true → (is_name_byte b ≡ false) × (is_digit b ≡ false) × ((b == 47) ≡ false)
blank_apart b h = (grind (arith, nat_tests), grind (arith, nat_tests), grind (arith, nat_tests))

-- a blank ends no mark of two bytes
not_second : (p : ℕ → Bool) (xs : List (List ℕ)) → list_all (λ m. not (p (slice_index m 1))) xs ≡ true → (a b : ℕ) → p b ≡ true
    → list_any (λ m. bytes_eq m (a ∷ b ∷ [])) xs ≡ false
not_second p [] fail a b pass = refl
not_second p ([] ∷ xs) fail a b pass = not_second p xs (and_parts (not (p 0)) (list_all (λ m. not (p (slice_index m 1))) xs) fail).1 a b pass
not_second p ((x ∷ []) ∷ xs) fail a b pass =
    rw (and_no (nat_eq x a), not_second p xs (and_parts (not (p 0)) (list_all (λ m. not (p (slice_index m 1))) xs) fail).1 a b pass) refl
not_second p ((x ∷ y ∷ m) ∷ xs) fail a b pass =
    let parts = and_parts (not (p y)) (list_all (λ m. not (p (slice_index m 1))) xs) fail in
    let differs : nat_eq y b ≡ false = false_where_not_true (nat_eq y b) (λ e.
    let same = eqb-true y b e in absurd (true≢false (rw (← pass) (rw (← same) (not-true (p y) parts.0))))) in
    rw (differs, and_no (nat_eq x a), not_second p xs parts.1 a b pass) refl

no_pair : (a b : ℕ) → is_blank b ≡ true → is_double_mark a b ≡ false
unfolding is_double_mark
no_pair = not_second is_blank DOUBLE_MARKS refl

no_mark : (w : List ℕ) (b : ℕ) (y : List ℕ) → 0 < length w → is_blank b ≡ true → is_mark (w ++ b ∷ y) ≡ false
no_mark [] b y some h = absurd (omega arith)
no_mark (c ∷ []) b [] some h = no_pair c b h
no_mark (c ∷ []) b (d ∷ y) some h = refl
no_mark (c ∷ d ∷ []) b y some h = refl
no_mark (c ∷ d ∷ e ∷ w) b y some h = refl

no_name : (w : List ℕ) (b : ℕ) (y : List ℕ) → 0 < length w → is_blank b ≡ true → is_name (w ++ b ∷ y) ≡ false
no_name [] b y some h = absurd (omega arith)
no_name (c ∷ w) b y some h = ap (λ t. is_letter c && t) (none_all is_name_byte w y b (blank_apart b h).0) ∙ and_no (is_letter c)

no_number : (w : List ℕ) (b : ℕ) (y : List ℕ) → 0 < length w → is_blank b ≡ true → is_number (w ++ b ∷ y) ≡ false
no_number [] b y some h = absurd (omega arith)
no_number (c ∷ w) b y some h = ap (λ t. is_digit c && t) (none_all is_digit w y b (blank_apart b h).1) ∙ and_no (is_digit c)

no_spelling : (w : List ℕ) (b : ℕ) (y : List ℕ) → 0 < length w → is_blank b ≡ true → is_spelling (w ++ b ∷ y) ≡ false
unfolding is_spelling
no_spelling w b y some h = rw (no_name w b y some h, no_number w b y some h, no_mark w b y some h) refl

-- words are not empty, and begin no comment before a blank
some_bytes : (kind : TokenKind) (w : List ℕ) → HasForm kind w → 0 < length w
some_bytes Word [] form = absurd (false≢true form.0)
some_bytes Key [] form = absurd (false≢true form.0)
some_bytes (Number value) [] form = absurd (false≢true form.0)
some_bytes Mark [] form = absurd (false≢true form)
some_bytes kind (c ∷ w) form = omega arith

no_slash : (c : ℕ) → is_letter c ≡ true → (c == 47) ≡ false
no_slash c h = grind (arith, nat_tests)

no_digit_slash : (c : ℕ) → is_digit c ≡ true → (c == 47) ≡ false
no_digit_slash c h = grind (arith, nat_tests)

no_double_slash : is_double_mark 47 47 ≡ false
unfolding is_double_mark
no_double_slash = refl

slashes : (c d : ℕ) → is_double_mark c d ≡ true → (c == 47 && d == 47) ≡ false
slashes c d h = false_where_not_true (c == 47 && d == 47) (λ both.
    let parts = and_parts (c == 47) (d == 47) both in
    let one : c ≡ 47 = eqb-true c 47 parts.0 in
    let two : d ≡ 47 = eqb-true d 47 parts.1 in
    let slash : is_double_mark 47 47 ≡ true = subst (λ x. is_double_mark 47 x ≡ true) two (subst (λ x. is_double_mark x d ≡ true) one h) in
    true≢false (sym slash ∙ no_double_slash))

first_apart : (c d : ℕ) → (c == 47) ≡ false → (c == 47 && d == 47) ≡ false
first_apart c d h = ap (λ t. t && d == 47) h

no_comment : (kind : TokenKind) (w : List ℕ) (b : ℕ) (z : List ℕ) → HasForm kind w → is_blank b ≡ true → opens_comment (w ++ b ∷ z) ≡ false
no_comment kind [] b z form h = absurd (let some = some_bytes kind [] form in omega arith)
no_comment kind (c ∷ []) b z form h = ap (λ t. c == 47 && t) (blank_apart b h).2 ∙ and_no (c == 47)
no_comment Word (c ∷ d ∷ w) b z form h = first_apart c d (no_slash c (and_parts _ _ form.0).0)
no_comment Key (c ∷ d ∷ w) b z form h = first_apart c d (no_slash c (and_parts _ _ form.0).0)
no_comment (Number value) (c ∷ d ∷ w) b z form h = first_apart c d (no_digit_slash c (and_parts _ _ form.0).0)
no_comment Mark (c ∷ d ∷ []) b z form h = slashes c d form
no_comment Mark (c ∷ d ∷ e ∷ w) b z form h = absurd (false≢true form)

-- ---- the tokens of the rest of a text

-- from an offset on the text is tokens, which are these terminals but for places
pub record Lexed (text : List ℕ) (from : ℕ) (ts : List Terminal) : Type 0 where
  pub tokens : List Token
  pub each : AllByRecursion (IsToken text) tokens
  pub apart : AreTokensApart text from tokens (length text)
  pub same : map blank (terminals_of text tokens) ≡ map blank ts

-- the same wherever the rest is this one
abbrev pub Reads : List ℕ → List ℕ → List Terminal → Type 0
Reads text rest ts = (from : ℕ) → from ≤ length text → drop from text ≡ rest → Lexed text from ts

-- nothing is left
pub at_end : (text : List ℕ) → Reads text [] []
at_end text from within e =
    let at : from ≡ length text = omega (arith, length-drop from text, ap length e) in
    record {
      tokens = [];
      each = tt;
      apart = subst (IsGap text from) at (gap_none text from within (λ inside. absurd (omega arith)));
      same = refl;
    }

-- the offset after bytes at the front of the rest
rest_after : (text : List ℕ) (from : ℕ) (w z : List ℕ) → drop from text ≡ w ++ z → drop (from + length w) text ≡ z
rest_after text from w z e = sym (drop-drop (length w) from text) ∙ ap (drop (length w)) e ∙ drop-append_seam w z

within_after : (text : List ℕ) (from : ℕ) (w z : List ℕ) → from ≤ length text → drop from text ≡ w ++ z → from + length w ≤ length text
within_after text from w z within e = omega (arith, length-drop from text, ap length e, length-append w z)

onto : (text : List ℕ) (from : ℕ) (tokens : List Token) → from + 1 ≤ length text → is_blank (slice_index (drop from text) 0) ≡ true
    → AreTokensApart text (from + 1) tokens (length text) → AreTokensApart text from tokens (length text)
onto text from [] within h gap = gap_onto text from 1 (length text) (omega arith) within (inl (refl, h)) gap
onto text from (t ∷ tokens) within h apart = (gap_onto text from 1 t.start (omega arith) within (inl (refl, h)) apart.0, apart.1)

-- a blank
pub after_blank : (text : List ℕ) (b : ℕ) (z : List ℕ) (ts : List Terminal) → is_blank b ≡ true → Reads text z ts → Reads text (b ∷ z) ts
after_blank text b z ts h later from within e =
    let inside : from + 1 ≤ length text = within_after text from (b ∷ []) z within e in
    let l : Lexed text (from + 1) ts = later (from + 1) inside (rest_after text from (b ∷ []) z e) in
    record {
      tokens = l.tokens;
      each = l.each;
      apart = onto text from l.tokens inside (subst (λ r. is_blank (slice_index r 0) ≡ true) (sym e) h) l.apart;
      same = l.same;
    }

-- what is written for a word is written for it
word_again : (s : Sort) (bytes : List ℕ) (value : ℤ) → word_of s (word_of s bytes value) value ≡ word_of s bytes value
word_again sort.Name bytes value = refl
word_again sort.Number bytes value = refl
word_again s bytes value = refl

slice_is : (text : List ℕ) (from len : ℕ) → slice_range text from (from + len) ≡ take len (drop from text)
slice_is text from len = let e : from + len - from ≡ len = omega arith in ap (λ n. take n (drop from text)) e

longer : (w : List ℕ) (b : ℕ) (z : List ℕ) (n : ℕ) → length w < n → 0 < length w → is_blank b ≡ true → is_spelling (take n (w ++ b ∷ z)) ≡ false
longer w b z n beyond some h =
    let k : ℕ = n - length w - 1 in
    let e : n ≡ length w + suc k = omega arith in
    subst (λ l. is_spelling l ≡ false) (sym (ap (λ m. take m (w ++ b ∷ z)) e ∙ take-append-add w (b ∷ z) (suc k))) (no_spelling w b (take k z) some h)

module _ (text : List ℕ) (t : Terminal) (b : ℕ) (z : List ℕ) (f : Fine t) (h : is_blank b ≡ true) (from : ℕ) (within : from ≤ length text)
    (e : drop from text ≡ word t ++ b ∷ z) where
  len : ℕ
  len = length (word t)

  abbrev token : Token
  token = token_at text from f.kind (length (word t))

  bytes_are : text_of text token ≡ word t
  bytes_are = slice_is text from (length (word t)) ∙ ap (take (length (word t))) e ∙ take-append_seam (word t) (b ∷ z)

  some : 0 < length (word t)
  some = some_bytes f.kind (word t) f.form

  stands : IsToken text token
  stands = record {
    forward = omega (arith, some);
    within = within_after text from (word t) (b ∷ z) within e;
    form = subst (HasForm f.kind) (sym bytes_are) f.form;
    longest = λ more beyond inside. subst (λ l. is_spelling (take (more - from) l) ≡ false) (sym e) (longer (word t) b z (more - from) (omega arith) some h);
    site = refl;
  }

  terminal_is : blank (terminal_of text token) ≡ blank t
  terminal_is =
      ap (λ l. record { sort = sort_of f.kind l; bytes = word_of (sort_of f.kind l) l (value_of f.kind); value = value_of f.kind; site = nowhere }) bytes_are
      ∙ ap (λ s. record { sort = s; bytes = word_of s (word t) (value_of f.kind); value = value_of f.kind; site = nowhere }) f.sort
      ∙ ap (λ v. record { sort = t.sort; bytes = word_of t.sort (word t) v; value = v; site = nowhere }) f.value
      ∙ ap (λ l. record { sort = t.sort; bytes = l; value = t.value; site = nowhere }) (word_again t.sort t.bytes t.value)

  pub word_there : (ts : List Terminal) → Lexed text (from + length (word t)) ts → Lexed text from (t ∷ ts)
  word_there ts l = record {
    tokens = token ∷ l.tokens;
    each = (stands, l.each);
    apart = (gap_none text from within (λ inside. subst (λ r. opens_comment r ≡ false) (sym e) (no_comment f.kind (word t) b z f.form h)), l.apart);
    same = ap (λ x. x ∷ map blank (terminals_of text l.tokens)) terminal_is ∙ ap (λ l. blank t ∷ l) l.same;
  }

-- a word before a blank
pub before_blank : (text : List ℕ) (t : Terminal) (b : ℕ) (z : List ℕ) (ts : List Terminal) → Fine t → is_blank b ≡ true → Reads text (b ∷ z) ts
    → Reads text (word t ++ b ∷ z) (t ∷ ts)
before_blank text t b z ts f h later from within e =
    word_there text t b z f h from within e ts
    (later (from + length (word t)) (within_after text from (word t) (b ∷ z) within e) (rest_after text from (word t) (b ∷ z) e))
