-- The last words of a list are the first of its reverse
use Rattle.std.proofs.Common.{◌≡◌, ℕ, ◌-◌, ◌<◌, ◌≤◌, ◌⊎◌, min, List, ◌++◌, length, take, drop, reverse, refl, sym, ◌∙◌, ap, subst, inl, inr, arith, leb, true, false}
use Rattle.std.proofs.lemmas.List.{take-append-drop, reverse-append, reverse-reverse, take_rest, take_all, length-drop, length-reverse}
use Rattle.std.proofs.lemmas.Bool.Decides.{leb_tells}
use Rattle.std.proofs.Math.Seq.{take-append_seam}

taken : (ys zs : List ℕ) (count : ℕ) → length ys ≡ count → take count (ys ++ zs) ≡ ys
taken ys zs count e = subst (λ n. take n (ys ++ zs) ≡ ys) e (take-append_seam ys zs)

-- the last words, so many or all
pub last_words :
    (xs : List ℕ) (count : ℕ)
    → take (length xs - (length xs - min count (length xs))) (drop (length xs - min count (length xs)) xs) ≡ reverse (take count (reverse xs))
last_words xs count = take_rest xs before ∙ by (leb_tells count (length xs))
  where
    before : ℕ
    before = length xs - min count (length xs)

    parted : reverse (drop before xs) ++ reverse (take before xs) ≡ reverse xs
    parted = sym (reverse-append (take before xs) (drop before xs)) ∙ ap reverse (take-append-drop before xs)

    some : count ≤ length xs → take count (reverse xs) ≡ reverse (drop before xs)
    some h =
        ap (take count) (sym parted)
        ∙ taken (reverse (drop before xs)) (reverse (take before xs)) count (omega (arith, length-reverse (drop before xs), length-drop before xs, h))

    none_before : length xs < count → before ≡ 0
    none_before h = omega (arith, h)

    by : ((leb count (length xs) ≡ true) × (count ≤ length xs)) ⊎ ((leb count (length xs) ≡ false) × (length xs < count)) → drop before xs ≡ reverse (take count (reverse xs))
    by (inl h) = sym (reverse-reverse (drop before xs)) ∙ ap reverse (sym (some h.1))
    by (inr h) =
        ap (λ n. drop n xs) (none_before h.1) ∙ sym (reverse-reverse xs)
        ∙ ap reverse (sym (take_all count (reverse xs) (omega (arith, length-reverse xs, h.1))))
