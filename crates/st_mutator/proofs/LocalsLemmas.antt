-- The first locals of a body, cut from as many words as there may be locals
use Rattle.std.proofs.Common.{◌≡◌, ℕ, ◌+◌, ◌-◌, ◌≤◌, List, ◌++◌, length, take, replicate, sym, ◌∙◌, ap, arith, append_assoc, length-append}
use Rattle.std.proofs.lemmas.List.{take-take, take-append-le, replicate-append-replicate, length-replicate}

-- so many of the words and then zeros, whatever more zeros there are
pub first_of_filled :
    (words : List ℕ) (count most : ℕ)
    → count ≤ most
    → take count (take most (words ++ replicate most 0)) ≡ take count (words ++ replicate count 0)
first_of_filled words count most few =
    take-take count most (words ++ replicate most 0) few
    ∙ ap (λ n. take count (words ++ replicate n 0)) enough
    ∙ ap (λ zs. take count (words ++ zs)) (sym (replicate-append-replicate count (most - count) 0))
    ∙ ap (take count) (sym (append_assoc words (replicate count 0) (replicate (most - count) 0)))
    ∙ take-append-le count (words ++ replicate count 0) (replicate (most - count) 0) (omega (arith, length-append words (replicate count 0), length-replicate {A = ℕ} count 0))
  where
    enough : most ≡ count + (most - count)
    enough = omega (arith, few)
