-- Reading lines of words: their tokens are the words.
use Rattle.std.proofs.Common.{◌≡◌, ℕ, zero, suc, ◌*◌, true, List, []}
use Rattle.std.proofs.Common.{◌∷◌, ◌++◌, refl, ap, sym, ◌∙◌, subst, append_assoc}
use Rattle.std.specs.Prelude.{replicate}
use Rattle.std.specs.List.{flat_map, AllByRecursion}
use Rattle.st_ast.specs.Lines.{Line, joined, line_text, lines_text}
use Rattle.st_ast.specs.Words.{Word}
use Rattle.st_lex.specs.Bytes.{is_blank}
use Rattle.st_grammar.specs.Terminals.{Terminal}
use Rattle.st_canonical_laws.proofs.Written.{word, is_used, Written, wrote_none, wrote}
use Rattle.st_canonical_laws.proofs.Fine.{Fine}
use Rattle.st_canonical_laws.proofs.Lexed.{Reads, at_end, after_blank, before_blank}
use Rattle.st_canonical_laws.proofs.StmtNodes.{words_in}

-- the terminals are written as these words, which are tokens again
pub data Told : List Terminal → List Word → Type 0 where
  told_none : Told [] []
  told : {t : Terminal} {ts : List Terminal} {w : Word} {ws : List Word} → Fine t → word t ≡ w → Told ts ws → Told (t ∷ ts) (w ∷ ws)

-- a terminal that rules use is a token again
abbrev pub IsGood : Terminal → Type 0
IsGood t = is_used t.sort ≡ true → Fine t

-- written terminals that come from the tokens of a text are tokens again
pub told_from : {ts : List Terminal} {ws : List Word} → Written ts ws → AllByRecursion IsGood ts → Told ts ws
told_from wrote_none all = told_none
told_from (wrote h p) all = told (all.0 h.used) h.bytes (told_from p all.1)

-- words of two parts
pub record Parted (ts : List Terminal) (ws vs : List Word) : Type 0 where
  pub front : List Terminal
  pub back : List Terminal
  pub is : ts ≡ front ++ back
  pub first : Told front ws
  pub second : Told back vs

-- terminals that are told as two lists of words are two lists themselves
pub parted : (ws vs : List Word) (ts : List Terminal) → Told ts (ws ++ vs) → Parted ts ws vs
parted [] vs ts h = record { front = []; back = ts; is = refl; first = told_none; second = h }
parted (w ∷ ws) vs all (told {t = t} {ts = ts} f e p) =
    let rest : Parted ts ws vs = parted ws vs ts p in
    record { front = t ∷ rest.front; back = rest.back; is = ap (λ l. t ∷ l) rest.is; first = told f e rest.first; second = rest.second }

-- the words after the first, and the end of the line
abbrev rest_of_line : List Word → List ℕ → List ℕ
rest_of_line ws rest = flat_map (λ w. 32 ∷ w) ws ++ 10 ∷ rest

-- it begins with a blank
record Begun (z : List ℕ) : Type 0 where
  byte : ℕ
  others : List ℕ
  is : z ≡ byte ∷ others
  blank_first : is_blank byte ≡ true

begun : (ws : List Word) (rest : List ℕ) → Begun (rest_of_line ws rest)
begun [] rest = record { byte = 10; others = rest; is = refl; blank_first = refl }
begun (w ∷ ws) rest = record { byte = 32; others = (w ++ flat_map (λ w. 32 ∷ w) ws) ++ 10 ∷ rest; is = refl; blank_first = refl }

-- a word before a rest that begins with a blank
word_before : (text : List ℕ) (t : Terminal) (w : Word) (z : List ℕ) (ts : List Terminal) → Fine t → word t ≡ w → Begun z → Reads text z ts
    → Reads text (w ++ z) (t ∷ ts)
word_before text t w z ts f e b r =
    subst (λ l. Reads text (l ++ z) (t ∷ ts)) e
    (subst (λ l. Reads text (word t ++ l) (t ∷ ts)) (sym b.is) (before_blank text t b.byte b.others ts f b.blank_first (subst (λ l. Reads text l ts) b.is r)))

later_words : (text : List ℕ) (ws : List Word) (ts : List Terminal) (rest : List ℕ) (us : List Terminal) → Told ts ws → Reads text rest us
    → Reads text (rest_of_line ws rest) (ts ++ us)
later_words text [] ts rest us told_none r = after_blank text 10 rest us refl r
later_words text (w ∷ ws) all rest us (told {t = t} {ts = ts} f e p) r =
    after_blank text 32 ((w ++ flat_map (λ w. 32 ∷ w) ws) ++ 10 ∷ rest) (t ∷ ts ++ us) refl
    (subst (λ l. Reads text l (t ∷ ts ++ us)) (sym (append_assoc w (flat_map (λ w. 32 ∷ w) ws) (10 ∷ rest)))
    (word_before text t w (rest_of_line ws rest) (ts ++ us) f e (begun ws rest) (later_words text ws ts rest us p r)))

line_words : (text : List ℕ) (ws : List Word) (ts : List Terminal) (rest : List ℕ) (us : List Terminal) → Told ts ws → Reads text rest us
    → Reads text (joined ws ++ 10 ∷ rest) (ts ++ us)
line_words text [] ts rest us told_none r = after_blank text 10 rest us refl r
line_words text (w ∷ ws) all rest us (told {t = t} {ts = ts} f e p) r =
    subst (λ l. Reads text l (t ∷ ts ++ us)) (sym (append_assoc w (flat_map (λ w. 32 ∷ w) ws) (10 ∷ rest)))
    (word_before text t w (rest_of_line ws rest) (ts ++ us) f e (begun ws rest) (later_words text ws ts rest us p r))

blanks : (text : List ℕ) (n : ℕ) (z : List ℕ) (ts : List Terminal) → Reads text z ts → Reads text (replicate n 32 ++ z) ts
blanks text zero z ts r = r
blanks text (suc n) z ts r = after_blank text 32 (replicate n 32 ++ z) ts refl (blanks text n z ts r)

line_reads : (text : List ℕ) (l : Line) (ts : List Terminal) (rest : List ℕ) (us : List Terminal) → Told ts l.words → Reads text rest us
    → Reads text (line_text l ++ rest) (ts ++ us)
line_reads text l ts rest us p r =
    let indented : List ℕ = replicate (2 * l.depth) 32 in
    let same : line_text l ++ rest ≡ indented ++ (joined l.words ++ 10 ∷ rest) =
    append_assoc (indented ++ joined l.words) (10 ∷ []) rest ∙ append_assoc indented (joined l.words) (10 ∷ rest) in
    subst (λ z. Reads text z (ts ++ us)) (sym same) (blanks text (2 * l.depth) (joined l.words ++ 10 ∷ rest) (ts ++ us) (line_words text l.words ts rest us p r))

-- the tokens of a text of such lines are the words of the lines, one by one
pub lines_read : (text : List ℕ) (ls : List Line) (ts : List Terminal) → Told ts (words_in ls) → Reads text (lines_text ls) ts
unfolding lines_text
lines_read text [] ts told_none = at_end text
lines_read text (l ∷ ls) ts p =
    let parts : Parted ts l.words (words_in ls) = parted l.words (words_in ls) ts p in
    subst (λ us. Reads text (line_text l ++ lines_text ls) us) (sym parts.is)
    (line_reads text l parts.front (lines_text ls) parts.back parts.first (lines_read text ls parts.back parts.second))
