-- Words written one after another.
use Rattle.std.proofs.Common.{◌≡◌, ℕ, ◌+◌, ◌<◌, ◌≤◌, List, [], ◌∷◌, ◌++◌, map, length, take, take_all, get_or}
use Rattle.std.proofs.Common.{refl, ap, sym, ◌∙◌, append_assoc, append-nil, arith}
use Rattle.std.specs.Prelude.{◌*◌, codes, replicate, OnOk, Result, Ok, Err}
use Rattle.std.specs.List.{flat_map}
use Rattle.std.proofs.lemmas.Grind.{flat_map-append}
use Rattle.std.proofs.lemmas.List.{take_more, map-append, replicate-append-replicate}
use Rattle.st_ast.specs.declared.declarations.Field.{Field}
use Rattle.st_ast.specs.Lines.{Line, line, joined, line_text, lines_text, shared_lines, fields_lines}
use Rattle.st_ast.specs.Spaced.{spaced}
use Rattle.st_ast.specs.Words.{Word, after_commas, listed}

-- words, and then more
pub spaced_join : (x y : List Word) → spaced x ++ spaced y ≡ spaced (x ++ y)
unfolding spaced
spaced_join x y = sym (flat_map-append _ x y)

-- no words leave nothing written
pub spaced_none : spaced [] ≡ []
unfolding spaced
spaced_none = refl

-- one item more after the first
pub commas_more : {X : Type 0} (f : X → List Word) (xs : List X) (k : ℕ) (d : X) → k < length xs
    → after_commas (map f (take (k + 1) xs)) ≡ after_commas (map f (take k xs)) ++ codes "," ∷ f (get_or xs k d)
commas_more f xs k d within =
    ap (λ l. after_commas (map f l)) (take_more xs k d within) ∙ ap after_commas (map-append f (take k xs) (get_or xs k d ∷ []))
    ∙ flat_map-append (λ words. codes "," ∷ words) (map f (take k xs)) (f (get_or xs k d) ∷ [])
    ∙ ap (λ l. after_commas (map f (take k xs)) ++ codes "," ∷ l) (append-nil (f (get_or xs k d)))

-- the loop over the items after the first
pub commas_step : {X : Type 0} (f : X → List Word) (xs : List X) (k : ℕ) (d : X) (a b c e : List ℕ) → k < length xs → d ≡ get_or xs k d
    → b ≡ a ++ spaced (after_commas (map f (take k xs))) → c ≡ b ++ spaced (codes "," ∷ []) → e ≡ c ++ spaced (f d)
    → e ≡ a ++ spaced (after_commas (map f (take (k + 1) xs)))
commas_step {X = X} f xs k d a b c e within is h i j =
    let before : List Word = after_commas (map f (take k xs)) in
    j ∙ ap (λ l. l ++ spaced (f d)) (i ∙ ap (λ l. l ++ spaced (codes "," ∷ [])) h)
    ∙ append_assoc (a ++ spaced before) (spaced (codes "," ∷ [])) (spaced (f d)) ∙ append_assoc a (spaced before) (spaced (codes "," ∷ []) ++ spaced (f d))
    ∙ ap (λ l. a ++ (spaced before ++ l)) (spaced_join (codes "," ∷ []) (f d)) ∙ ap (λ l. a ++ l) (spaced_join before (codes "," ∷ f d))
    ∙ ap (λ (x : X). a ++ spaced (before ++ codes "," ∷ f x)) is ∙ ap (λ l. a ++ spaced l) (sym (commas_more f xs k d within))

-- no items
pub listed_none : {X : Type 0} (f : X → List Word) (xs : List X) (a : List ℕ) → length xs ≡ 0 → a ≡ a ++ spaced (listed (map f xs))
listed_none f [] a e = sym (ap (λ l. a ++ l) spaced_none ∙ append-nil a)
listed_none f (x ∷ xs) a e = absurd (omega arith)

-- the first item, and those after it
pub listed_some : {X : Type 0} (f : X → List Word) (xs more : List X) (x : X) (k : ℕ) (a b c : List ℕ) → xs ≡ x ∷ more → length more ≤ k
    → b ≡ a ++ spaced (f x) → c ≡ b ++ spaced (after_commas (map f (take k more))) → c ≡ a ++ spaced (listed (map f xs))
listed_some f xs more x k a b c e all h i =
    i ∙ ap (λ l. b ++ spaced (after_commas (map f l))) (take_all k more all) ∙ ap (λ l. l ++ spaced (after_commas (map f more))) h
    ∙ append_assoc a (spaced (f x)) (spaced (after_commas (map f more)))
    ∙ ap (λ l. a ++ l) (spaced_join (f x) (after_commas (map f more))) ∙ ap (λ l. a ++ spaced (listed (map f l))) (sym e)

-- ---- lines

-- lines, and then more
pub lines_join : (x y : List Line) → lines_text x ++ lines_text y ≡ lines_text (x ++ y)
unfolding lines_text
lines_join x y = sym (flat_map-append line_text x y)

-- no lines are an empty text
pub lines_none : lines_text [] ≡ []
unfolding lines_text
lines_none = refl

-- one brace more
pub indent_more : (k : ℕ) → replicate {A = ℕ} (2 * (k + 1)) 32 ≡ replicate {A = ℕ} (2 * k) 32 ++ 32 ∷ 32 ∷ []
indent_more k = let e : 2 * (k + 1) ≡ 2 * k + 2 = omega arith in ap (λ n. replicate {A = ℕ} n 32) e ∙ sym (replicate-append-replicate (2 * k) 2 32)

joined_more : (first : Word) (more : List Word) (last : Word)
    → (first ++ 32 ∷ []) ++ (flat_map (λ word. word ++ 32 ∷ []) more ++ last) ≡ first ++ flat_map (λ word. 32 ∷ word) (more ++ last ∷ [])
joined_more first [] last = append_assoc first (32 ∷ []) last ∙ ap (λ l. first ++ 32 ∷ l) (sym (append-nil last))
joined_more first (next ∷ more) last =
    append_assoc first (32 ∷ []) (flat_map (λ word. word ++ 32 ∷ []) (next ∷ more) ++ last)
    ∙ ap (λ l. first ++ 32 ∷ l) (append_assoc (next ++ 32 ∷ []) (flat_map (λ word. word ++ 32 ∷ []) more) last ∙ joined_more next more last)

-- the front of a line and its last word
pub joined_front : (front : List Word) (last : Word) → spaced front ++ last ≡ joined (front ++ last ∷ [])
unfolding spaced
joined_front [] last = sym (append-nil last)
joined_front (first ∷ more) last =
    append_assoc (first ++ 32 ∷ []) (flat_map (λ word. word ++ 32 ∷ []) more) last ∙ joined_more first more last

-- a line in three parts
pub line_in_parts : {T E : Type 0} (r : Result T E) (depth : ℕ) (front : List Word) (last : Word) (a b c e : List ℕ)
    → b ≡ a ++ replicate (2 * depth) 32 → c ≡ b ++ spaced front → OnOk r (e ≡ c ++ last ++ 10 ∷ [])
    → OnOk r (e ≡ a ++ lines_text (line depth (front ++ last ∷ []) ∷ []))
unfolding lines_text
line_in_parts (Ok t) depth front last a b c e h i j =
    let blanks : List ℕ = replicate (2 * depth) 32 in
    let words : List ℕ = joined (front ++ last ∷ []) in
    let front_is : (a ++ blanks) ++ (spaced front ++ last) ≡ (a ++ blanks) ++ words = ap (λ l. (a ++ blanks) ++ l) (joined_front front last) in
    j ∙ ap (λ l. (l ++ last) ++ 10 ∷ []) (i ∙ ap (λ l. l ++ spaced front) h)
    ∙ ap (λ l. l ++ 10 ∷ []) (append_assoc (a ++ blanks) (spaced front) last ∙ front_is ∙ append_assoc a blanks words)
    ∙ append_assoc a (blanks ++ words) (10 ∷ [])
    ∙ ap (λ l. a ++ l) (sym (append-nil ((blanks ++ words) ++ 10 ∷ [])))
line_in_parts (Err t) depth front last a b c e h i j = tt

-- a line of depth 0 in two parts
pub head_in_parts : {T E : Type 0} (r : Result T E) (front : List Word) (last : Word) (a c e : List ℕ)
    → c ≡ a ++ spaced front → OnOk r (e ≡ c ++ last ++ 10 ∷ []) → OnOk r (e ≡ a ++ lines_text (line 0 (front ++ last ∷ []) ∷ []))
head_in_parts r front last a c e h i = line_in_parts r 0 front last a a c e (sym (append-nil a)) h i

-- the loop over items of some lines each
pub lines_step : {X : Type 0} (f : X → List Line) (xs : List X) (k : ℕ) (d : X) (a b c : List ℕ) → k < length xs → d ≡ get_or xs k d
    → b ≡ a ++ lines_text (flat_map f (take k xs)) → c ≡ b ++ lines_text (f d) → c ≡ a ++ lines_text (flat_map f (take (k + 1) xs))
lines_step {X = X} f xs k d a b c within is h i =
    let longer : flat_map f (take (k + 1) xs) ≡ flat_map f (take k xs) ++ f d =
    ap (flat_map f) (take_more xs k d within) ∙ flat_map-append f (take k xs) (get_or xs k d ∷ []) ∙ ap (λ l. flat_map f (take k xs) ++ l)
    (append-nil (f (get_or xs k d)) ∙ ap f (sym is)) in
    i ∙ ap (λ l. l ++ lines_text (f d)) h ∙ append_assoc a (lines_text (flat_map f (take k xs))) (lines_text (f d))
    ∙ ap (λ l. a ++ l) (lines_join (flat_map f (take k xs)) (f d)) ∙ ap (λ l. a ++ lines_text l) (sym longer)

-- the loop over words
pub words_step : {X : Type 0} (f : X → Word) (xs : List X) (k : ℕ) (d : X) (a b c : List ℕ) → k < length xs
    → b ≡ a ++ spaced (map f (take k xs)) → c ≡ b ++ spaced (f (get_or xs k d) ∷ []) → c ≡ a ++ spaced (map f (take (k + 1) xs))
words_step f xs k d a b c within h i =
    let longer : map f (take (k + 1) xs) ≡ map f (take k xs) ++ f (get_or xs k d) ∷ [] =
    ap (map f) (take_more xs k d within) ∙ map-append f (take k xs) (get_or xs k d ∷ []) in
    i ∙ ap (λ l. l ++ spaced (f (get_or xs k d) ∷ [])) h ∙ append_assoc a (spaced (map f (take k xs))) (spaced (f (get_or xs k d) ∷ []))
    ∙ ap (λ l. a ++ l) (spaced_join (map f (take k xs)) (f (get_or xs k d) ∷ [])) ∙ ap (λ l. a ++ spaced l) (sym longer)

-- another name of the last word
pub last_as : {T E : Type 0} (r : Result T E) (front : List Word) (depth : ℕ) (last other : Word) (a e : List ℕ) → last ≡ other
    → OnOk r (e ≡ a ++ lines_text (line depth (front ++ last ∷ []) ∷ [])) → OnOk r (e ≡ a ++ lines_text (line depth (front ++ other ∷ []) ∷ []))
last_as (Ok t) front depth last other a e same h = h ∙ ap (λ w. a ++ lines_text (line depth (front ++ w ∷ []) ∷ [])) same
last_as (Err t) front depth last other a e same h = tt

-- without shared variables there is no shared block
pub shared_none : (fields : List Field) → length fields ≡ 0 → shared_lines fields ≡ []
shared_none [] e = refl
shared_none (first ∷ more) e = absurd (omega arith)

-- with a shared variable there is a block: its head, and then the variables
pub shared_some : (fields : List Field) → 0 < length fields
    → shared_lines fields ≡ line 0 (codes "shared" ∷ codes "{" ∷ []) ∷ fields_lines fields
shared_some [] some = absurd (omega arith)
shared_some (first ∷ more) some = refl
