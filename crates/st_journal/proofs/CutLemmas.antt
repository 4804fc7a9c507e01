-- Laws of the first place of a byte, and of what stands before and after it.
use Rattle.std.proofs.Common.{◌≡◌, ℕ, suc, ◌+◌, ◌-◌, ◌<◌, Bool, true, false, not, cond, ltb, eqb, take, drop, List, [], ◌∷◌, length, Option, Some, None}
use Rattle.std.proofs.Common.{refl, sym, ◌∙◌, arith}
use Rattle.std.specs.Prelude.{option_map}
use Rattle.std.specs.List.{position, position_or_len}
use Rattle.std.proofs.Common.{inl, inr}
use Rattle.std.proofs.lemmas.Bool.{cases_lt, lt-ltb, le-ltb}
use Rattle.std.proofs.lemmas.List.{take_all, length-drop}
use Rattle.st_journal.specs.Words.{cut, is_byte}

abbrev some_parts : List ℕ → List ℕ → Option (List ℕ × List ℕ)
some_parts a b = Some (a, b)

abbrev no_parts : Option (List ℕ × List ℕ)
no_parts = None

-- one byte more, which is not the one that is looked for
cut_further : (b : ℕ) (text : List ℕ) (n : ℕ) (rest : Option (List ℕ × List ℕ))
    → rest ≡ cond (ltb n (length text)) (some_parts (take n text) (drop (n + 1) text)) no_parts
    → option_map (λ parts. (b ∷ parts.0, parts.1)) rest
    ≡ cond (ltb (1 + n) (suc (length text))) (some_parts (take (1 + n) (b ∷ text)) (drop (1 + n + 1) (b ∷ text))) no_parts
cut_further b text n rest e =
    let k : 1 + n ≡ suc n = omega arith in
    let j : suc n + 1 ≡ suc (n + 1) = omega arith in
    elim (cases_lt n (length text)) [
      | inl lt ↦
          let now : ltb n (length text) ≡ true = lt-ltb n (length text) lt in
          let then : ltb (suc n) (suc (length text)) ≡ true = lt-ltb (suc n) (suc (length text)) (omega arith) in
          rw (k, then, j) (rw (e, now) refl)
      | inr le ↦
          let now : ltb n (length text) ≡ false = le-ltb n (length text) le in
          let then : ltb (suc n) (suc (length text)) ≡ false = le-ltb (suc n) (suc (length text)) (omega arith) in
          rw (k, then) (rw (e, now) refl)
    ]

cut_one_more : (byte b : ℕ) (text : List ℕ) (n : ℕ) (rest : Option (List ℕ × List ℕ)) (t : Bool)
    → rest ≡ cond (ltb n (length text)) (some_parts (take n text) (drop (n + 1) text)) no_parts
    → cond t (some_parts [] text) (option_map (λ parts. (b ∷ parts.0, parts.1)) rest)
    ≡ cond (ltb (cond (not t) (1 + n) 0) (suc (length text))) (some_parts (take (cond (not t) (1 + n) 0) (b ∷ text)) (drop (cond (not t) (1 + n) 0 + 1) (b ∷ text))) no_parts
cut_one_more byte b text n rest true e = let here : ltb 0 (suc (length text)) ≡ true = lt-ltb 0 (suc (length text)) (omega arith) in rw here refl
cut_one_more byte b text n rest false e = cut_further b text n rest e

-- what stands before and after a byte, by its place
pub cut_at_its_place : (byte : ℕ) (text : List ℕ)
    → cut byte text
    ≡ cond (ltb (position_or_len (is_byte byte) text) (length text))
    (some_parts (take (position_or_len (is_byte byte) text) text) (drop (position_or_len (is_byte byte) text + 1) text)) no_parts
cut_at_its_place byte [] = refl
cut_at_its_place byte (b ∷ text) = cut_one_more byte b text (position_or_len (is_byte byte) text) (cut byte text) (eqb b byte) (cut_at_its_place byte text)

abbrev found : Bool → ℕ → Option ℕ
found t n = cond t (Some n) None

at_its_place : (t : Bool) (n at : ℕ) (text : List ℕ) → found t n ≡ Some at
    → cond t (some_parts (take n text) (drop (n + 1) text)) no_parts ≡ some_parts (take at text) (drop (at + 1) text)
at_its_place true n at text e = let same : n ≡ at = cc in rw same refl
at_its_place false n at text e = absurd cc

nowhere : (t : Bool) (n : ℕ) (text : List ℕ) → found t n ≡ None → cond t (some_parts (take n text) (drop (n + 1) text)) no_parts ≡ no_parts
nowhere true n text e = absurd cc
nowhere false n text e = refl

-- the parts of a slice before and after the byte at a place
pub cut_found : (byte : ℕ) (text : List ℕ) (at : ℕ) → position (is_byte byte) text ≡ Some at → at < length text
    → some_parts (take at text) (take (length text - (at + 1)) (drop (at + 1) text)) ≡ cut byte text
cut_found byte text at e within =
    let whole : take (length text - (at + 1)) (drop (at + 1) text) ≡ drop (at + 1) text =
    take_all (length text - (at + 1)) (drop (at + 1) text) (omega (arith, length-drop (at + 1) text)) in
    rw whole (sym (cut_at_its_place byte text ∙ at_its_place _ _ at text e))

-- where the search for a byte finds no place, nothing is cut off
pub cut_nowhere : (byte : ℕ) (text : List ℕ) → position (is_byte byte) text ≡ None → no_parts ≡ cut byte text
cut_nowhere byte text e = sym (cut_at_its_place byte text ∙ nowhere _ _ text e)
