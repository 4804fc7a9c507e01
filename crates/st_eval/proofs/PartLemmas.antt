-- Parts of code, from a place on.
use Rattle.std.proofs.Common.{◌≡◌, ◌≤◌, ◌<◌, ℕ, zero, suc, ◌+◌, ◌-◌, List, [], ◌∷◌, length, take, drop, min, Some, None, slice_get}
use Rattle.std.proofs.Common.{refl, sym, ◌∙◌, ap, arith, ◌⊎◌, inl, inr}
use Rattle.std.proofs.lemmas.Bool.{cases_lt}
use Rattle.std.proofs.lemmas.List.{drop_all, length-take, length-drop}
use Rattle.st_eval.specs.declared.instructions.Instruction.{Instruction}
use Rattle.st_check_meaning.specs.Meaning.{Calls}
use Rattle.st_eval.specs.StraightCode.{code_course}
use Rattle.st_eval.specs.Steps.{part}
use Rattle.st_eval.proofs.StackLemmas.{drop_twice}

-- a list with a first element
pub first_of : {A : Type 0} (xs : List A) (x : A) → slice_get xs 0 ≡ Some x → xs ≡ x ∷ drop 1 xs
first_of [] x h = cc
first_of (y ∷ ys) x h = cc

-- a list without
pub none_of : {A : Type 0} (xs : List A) → slice_get xs 0 ≡ None → xs ≡ []
none_of [] h = refl
none_of (y ∷ ys) h = cc

-- the next instruction, and the part after it
pub part_first :
    (code : List Instruction) (place end : ℕ) (i : Instruction)
    → slice_get (part code place end) 0 ≡ Some i
    → part code place end ≡ i ∷ part code (place + 1) end
part_first code place end i h = first_of (part code place end) i h ∙ ap (λ is. i ∷ is) (drop_twice place 1 (take end code))

-- a part past so many instructions
pub part_past : (code : List Instruction) (place end n : ℕ) → part code (place + min n (end - place)) end ≡ drop n (part code place end)
part_past code place end n = by (cases_lt n (end - place))
  where
    short : length (take end code) ≤ end
    short = let e : length (take end code) ≡ min end (length code) = length-take end code in omega arith

    by : (n < end - place) ⊎ (end - place ≤ n) → part code (place + min n (end - place)) end ≡ drop n (part code place end)
    by (inl h) = ap (λ k. drop k (take end code)) (let e : place + min n (end - place) ≡ place + n = omega arith in e) ∙ sym (drop_twice place n (take end code))
    by (inr h) =
        drop_all (place + min n (end - place)) (take end code) (let s : length (take end code) ≤ end = short in omega arith)
        ∙ sym (drop_all (place + n) (take end code) (let s : length (take end code) ≤ end = short in omega arith))
        ∙ sym (drop_twice place n (take end code))

-- code that is passed over does nothing
pub passed :
    (calls : Calls) (locals : List ℕ) (is : List Instruction) (n : ℕ) (stack : List ℕ)
    → code_course calls locals is n stack ≡ code_course calls locals (drop n is) 0 stack
passed calls locals [] zero stack = refl
passed calls locals [] (suc n) stack = refl
passed calls locals (i ∷ is) zero stack = refl
passed calls locals (i ∷ is) (suc n) stack = passed calls locals is n stack

-- a part is no longer than the code
pub part_length : (code : List Instruction) (place end : ℕ) → length (part code place end) ≤ length code
part_length code place end =
    let d : length (part code place end) ≡ length (take end code) - place = length-drop place (take end code) in
    let t : length (take end code) ≡ min end (length code) = length-take end code in
    omega arith
