-- Laws of the lines of a text: each is what stands before a newline, with it.
use Rattle.std.proofs.Common.{◌≡◌, ℕ, ◌<◌, Bool, true, false, cond, eqb, ◌⊎◌, List, [], ◌∷◌, ◌++◌, length, Option, Some, None, Ok, Err}
use Rattle.std.proofs.Common.{refl, ap, subst, arith, inl, inr}
use Rattle.std.proofs.lemmas.Bool.{eqb-true, eq-eqb}
use Rattle.std.proofs.lemmas.List.{length-append}
use Rattle.std.specs.Prelude.{option_map}
use Rattle.std.specs.List.{onto_first}
use Rattle.st_journal.specs.declared.errors.JournalError.TheVariants as journal
use Rattle.st_journal.specs.Format.{newline}
use Rattle.st_journal.specs.Lines.{lines}
use Rattle.st_journal.specs.Reading.{content, line_or_bad}
use Rattle.st_journal.specs.Words.{cut}

-- what stands before a byte, and what stands after it
abbrev pub Parts : Type 0
Parts = List ℕ × List ℕ

-- something was cut off: these are the two parts
abbrev pub some_parts : List ℕ → List ℕ → Option Parts
some_parts a b = Some (a, b)

abbrev pair_of : List ℕ → List ℕ → Parts
pair_of a b = (a, b)

same_parts : (a b c d : List ℕ) → some_parts a b ≡ some_parts c d → (a ≡ c) × (b ≡ d)
same_parts a b c d e =
    let pair : pair_of a b ≡ pair_of c d = cc in
    (ap (λ (p : Parts). p.0) pair, ap (λ (p : Parts). p.1) pair)

-- what is cut off a text: its parts, what they make of the text's lines, and that the first is cut off again whatever follows
pub record Cuts (byte : ℕ) (text first rest : List ℕ) : Type 0 where
  pub parts : text ≡ first ++ byte ∷ rest
  pub again : (more : List ℕ) → cut byte (first ++ byte ∷ more) ≡ some_parts first more

starts_here : (byte b : ℕ) (text first rest : List ℕ) → b ≡ byte → some_parts [] text ≡ some_parts first rest → Cuts byte (b ∷ text) first rest
starts_here byte b text first rest same e =
    let ends = same_parts [] text first rest e in
    record {
      parts = rw (← ends.0, same, ends.1) refl;
      again = λ more. rw (← ends.0) (rw (eq-eqb byte byte refl) refl);
    }

goes_further : (byte b : ℕ) (text first rest : List ℕ) → eqb b byte ≡ false → Cuts byte text first rest → Cuts byte (b ∷ text) (b ∷ first) rest
goes_further byte b text first rest other cuts = record {
  parts = ap (λ (t : List ℕ). b ∷ t) cuts.parts;
  again = λ more. rw (other, cuts.again more) refl;
}

cuts_after : (byte b : ℕ) (text : List ℕ) (found : Option Parts) (first rest : List ℕ) (t : Bool) → eqb b byte ≡ t
    → ((f r : List ℕ) → found ≡ some_parts f r → Cuts byte text f r)
    → cond t (some_parts [] text) (option_map (λ parts. (b ∷ parts.0, parts.1)) found) ≡ some_parts first rest → Cuts byte (b ∷ text) first rest
cuts_after byte b text found first rest true same further e = starts_here byte b text first rest (eqb-true b byte same) e
cuts_after byte b text None first rest false other further e = absurd cc
cuts_after byte b text (Some parts) first rest false other further e =
    let ends = same_parts (b ∷ parts.0) parts.1 first rest e in
    subst (λ (p : Parts). Cuts byte (b ∷ text) p.0 p.1) (λ i. (ends.0 i, ends.1 i)) (goes_further byte b text parts.0 parts.1 other (further parts.0 parts.1 refl))

-- what is cut off a text and what is left make the text again, with the byte between them
pub cut_gives : (byte : ℕ) (text first rest : List ℕ) → cut byte text ≡ some_parts first rest → Cuts byte text first rest
cut_gives byte [] first rest e = absurd cc
cut_gives byte (b ∷ text) first rest e = cuts_after byte b text (cut byte text) first rest (eqb b byte) refl (cut_gives byte text) e

-- the lines of a text of which something is cut off
lines_after : (b : ℕ) (text first rest : List ℕ) (found : Option Parts) (t : Bool) → eqb b newline ≡ t
    → ((f r : List ℕ) → found ≡ some_parts f r → lines text ≡ (f ++ newline ∷ []) ∷ lines r)
    → cond t (some_parts [] text) (option_map (λ parts. (b ∷ parts.0, parts.1)) found) ≡ some_parts first rest
    → cond t ((newline ∷ []) ∷ lines text) (onto_first b (lines text)) ≡ (first ++ newline ∷ []) ∷ lines rest
lines_after b text first rest found true here further e =
    let ends = same_parts [] text first rest e in rw (← ends.0, ends.1) refl
lines_after b text first rest None false other further e = absurd cc
lines_after b text first rest (Some parts) false other further e =
    let ends = same_parts (b ∷ parts.0) parts.1 first rest e in rw (← ends.0, ← ends.1, further parts.0 parts.1 refl) refl

-- what is cut off at the first newline is the first line, and the other lines are those of what is left
pub lines_of_cut : (text first rest : List ℕ) → cut newline text ≡ some_parts first rest → lines text ≡ (first ++ newline ∷ []) ∷ lines rest
lines_of_cut [] first rest e = absurd cc
lines_of_cut (b ∷ text) first rest e = lines_after b text first rest (cut newline text) (eqb b newline) refl (lines_of_cut text) e

-- a text without a newline is one line, or none
one_line : (b : ℕ) (text : List ℕ) (found : Option Parts) (t : Bool)
    → (found ≡ None → (lines text ≡ []) ⊎ (lines text ≡ text ∷ [])) → (lines text ≡ [] → text ≡ [])
    → cond t (some_parts [] text) (option_map (λ parts. (b ∷ parts.0, parts.1)) found) ≡ None
    → cond t ((newline ∷ []) ∷ lines text) (onto_first b (lines text)) ≡ (b ∷ text) ∷ []
one_line b text found true rest none e = absurd cc
one_line b text (Some parts) false rest none e = absurd cc
one_line b text None false rest none e = elim (rest refl) [
  | inl no_line ↦ rw (no_line, none no_line) refl
  | inr one ↦ rw one refl
]

onto_first_is_some : (b : ℕ) (all : List (List ℕ)) → onto_first b all ≡ [] → ⊥
onto_first_is_some b [] e = cc
onto_first_is_some b (x ∷ all) e = cc

no_line_of : (b : ℕ) (text : List ℕ) (t : Bool) → cond t ((newline ∷ []) ∷ lines text) (onto_first b (lines text)) ≡ [] → ⊥
no_line_of b text true e = cc
no_line_of b text false e = onto_first_is_some b (lines text) e

-- only the empty text has no line
pub no_lines : (text : List ℕ) → lines text ≡ [] → text ≡ []
no_lines [] e = refl
no_lines (b ∷ text) e = absurd (no_line_of b text (eqb b newline) e)

-- a text without a newline is empty, or it is one line
pub lines_without_end : (text : List ℕ) → cut newline text ≡ None → (lines text ≡ []) ⊎ (lines text ≡ text ∷ [])
lines_without_end [] e = inl refl
lines_without_end (b ∷ text) e = inr (one_line b text (cut newline text) (eqb b newline) (lines_without_end text) (no_lines text) e)

-- the first line of a text, where one is cut off
pub content_of_a_line : (first : List ℕ) (cuts : (more : List ℕ) → cut newline (first ++ newline ∷ more) ≡ some_parts first more) → content (first ++ newline ∷ []) ≡ Some first
unfolding content
content_of_a_line first cuts = rw (cuts []) refl

-- where something can be cut off at a newline, it is what is taken as the first line
pub first_line_is_cut : (n : ℕ) (text first rest : List ℕ) → cut newline text ≡ some_parts first rest → line_or_bad n (lines text) ≡ Ok (first, lines rest)
unfolding line_or_bad
first_line_is_cut n text first rest e =
    rw (lines_of_cut text first rest e, content_of_a_line first (cut_gives newline text first rest e).again) refl

-- in a text without a newline there is no line to take, and the answer is that this line is bad
pub no_first_line : (n : ℕ) (text : List ℕ) → cut newline text ≡ None → line_or_bad n (lines text) ≡ Err (journal.BadLine n)
unfolding line_or_bad content
no_first_line n text e = elim (lines_without_end text e) [
  | inl none ↦ rw none refl
  | inr one ↦ rw (one, e) refl
]

-- what is left after a line is shorter than the text, so reading line by line ends
pub rest_is_shorter : (text first rest : List ℕ) → cut newline text ≡ some_parts first rest → length rest < length text
rest_is_shorter text first rest e =
    let parts : text ≡ first ++ newline ∷ rest = (cut_gives newline text first rest e).parts in
    rw parts (omega (arith, length-append first (newline ∷ rest)))
