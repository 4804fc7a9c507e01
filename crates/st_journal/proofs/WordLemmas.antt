-- Laws of the numbers that words write, one word after another.
use Rattle.std.proofs.Common.{◌≡◌, ℕ, suc, ◌+◌, ◌<◌, List, [], ◌∷◌, ◌++◌, length, map, take, drop, get_or, Option, Some, None, Bor}
use Rattle.std.proofs.Common.{refl, sym, ap, ◌∙◌}
use Rattle.std.proofs.Math.Seq.{drop-cons}
use Rattle.std.proofs.lemmas.List.{take_more, take-append-drop, map-append}
use Rattle.st_journal.specs.Words.{◌>>=◌, number_in, numbers_in}

abbrev seen : List (Bor (List ℕ)) → List (List ℕ)
seen words = map (λ word. word.now) words

-- one number more, where the first is told
after_the_first : (n : Option ℕ) (all more : Option (List ℕ)) (numbers : List ℕ) (number : ℕ)
    → ((ns : List ℕ) → all ≡ Some ns → more ≡ Some (ns ++ number ∷ []))
    → (n >>= λ n. all >>= λ ns. Some (n ∷ ns)) ≡ Some numbers
    → (n >>= λ n. more >>= λ ns. Some (n ∷ ns)) ≡ Some (numbers ++ number ∷ [])
after_the_first None all more numbers number further e = absurd cc
after_the_first (Some n) None more numbers number further e = absurd cc
after_the_first (Some n) (Some ns) more numbers number further e =
    let are : n ∷ ns ≡ numbers = cc in rw (further ns refl, ← are) refl

numbers_and_one : (words : List (List ℕ)) (word : List ℕ) (numbers : List ℕ) (number : ℕ)
    → numbers_in words ≡ Some numbers → number_in word ≡ Some number → numbers_in (words ++ word ∷ []) ≡ Some (numbers ++ number ∷ [])
numbers_and_one [] word numbers number all one = let none : [] ≡ numbers = cc in rw (← none, one) refl
numbers_and_one (first ∷ words) word numbers number all one =
    after_the_first (number_in first) (numbers_in words) (numbers_in (words ++ word ∷ [])) numbers number (λ ns e. numbers_and_one words word ns number e one) all

-- a word that is no number
none_after : (n : Option ℕ) → (n >>= λ n. None >>= λ (ns : List ℕ). Some (n ∷ ns)) ≡ None
none_after None = refl
none_after (Some n) = refl

none_with_a_bad_one : (words : List (List ℕ)) (word : List ℕ) (rest : List (List ℕ)) → number_in word ≡ None → numbers_in (words ++ word ∷ rest) ≡ None
none_with_a_bad_one [] word rest bad = rw bad refl
none_with_a_bad_one (first ∷ words) word rest bad = rw (none_with_a_bad_one words word rest bad) (none_after (number_in first))

-- the numbers that the first words write, with the number that the next word writes, are those of one word more
pub next_number_is_read : (words : List (Bor (List ℕ))) (i : ℕ) (d : Bor (List ℕ)) (number : ℕ) (old now : List ℕ) → i < length words
    → number_in (get_or words i d).now ≡ Some number
    → numbers_in (seen (take i words)) ≡ Some old → now ≡ old ++ number ∷ []
    → numbers_in (seen (take (i + 1) words)) ≡ Some now
next_number_is_read words i d number old now within reads so_far is =
    ap (λ (some : List (Bor (List ℕ))). numbers_in (seen some)) (take_more words i d within)
    ∙ ap numbers_in (map-append (λ (word : Bor (List ℕ)). word.now) (take i words) (get_or words i d ∷ []))
    ∙ numbers_and_one (seen (take i words)) (get_or words i d).now old number so_far reads ∙ ap Some (sym is)

-- where one word is no number, the words together are no numbers
pub bad_number_spoils_all : (words : List (Bor (List ℕ))) (i : ℕ) (d : Bor (List ℕ)) → i < length words
    → number_in (get_or words i d).now ≡ None → numbers_in (seen words) ≡ None
bad_number_spoils_all words i d within bad =
    let parts : words ≡ take i words ++ (get_or words i d ∷ drop (suc i) words) =
    sym (take-append-drop i words) ∙ ap (λ (rest : List (Bor (List ℕ))). take i words ++ rest) (drop-cons words i d within) in
    ap (λ (all : List (Bor (List ℕ))). numbers_in (seen all)) parts
    ∙ ap numbers_in (map-append (λ (word : Bor (List ℕ)). word.now) (take i words) (get_or words i d ∷ drop (suc i) words))
    ∙ none_with_a_bad_one (seen (take i words)) (get_or words i d).now (seen (drop (suc i) words)) bad
