-- Whatever has been asked for can be given.
use Rattle.std.proofs.Common.{◌≡◌, ℕ, zero, suc, Bool, true, false, cond, ◌&&◌, ◌||◌, List, [], ◌∷◌, ◌++◌, Option, Some, None, map, refl, ap, subst, ◌∙◌, append_assoc}
use Rattle.std.specs.List.{list_any, list_all}
use Rattle.st_charts.specs.Charts.{Symbol, token, part, Told, Grammar, next, told_of, choice_at, sort_of_next, Faults, whole, fits, goes}
use Rattle.st_charts.specs.Checks.{Samples, same_or_end, next_or, read_whole, nexts, is_within, is_followed, choices_of, most_steps, IsChecked}

-- the element stands in the list
pub data In {A : Type 0} : A → List A → Type 0 where
  here : {x : A} {xs : List A} → In x (x ∷ xs)
  there : {x y : A} {xs : List A} → In x xs → In x (y ∷ xs)

-- where two tests hold together, each holds
pub both : (a b : Bool) → (a && b) ≡ true → (a ≡ true) × (b ≡ true)
both true b e = (refl, e)
both false b e = absurd cc

all_at : {A : Type 0} (p : A → Bool) {x : A} {xs : List A} → In x xs → list_all p xs ≡ true → p x ≡ true
all_at p (here {x = x} {xs = xs}) e = (both (p x) (list_all p xs) e).0
all_at p (there {y = y} {xs = xs} i) e = all_at p i (both (p y) (list_all p xs) e).1

same_is : {K : Type 0} (same : K → K → Bool) → ((a b : K) → same a b ≡ true → a ≡ b) → (a b : Option K) → same_or_end same a b ≡ true → a ≡ b
same_is same means None None e = refl
same_is same means None (Some b) e = absurd cc
same_is same means (Some a) None e = absurd cc
same_is same means (Some a) (Some b) e = ap Some (means a b e)

one_more : {K : Type 0} (same : K → K → Bool) → ((a b : K) → same a b ≡ true → a ≡ b) → (a k : Option K) (ks : List (Option K)) (b : Bool) → same_or_end same a k ≡ b
    → (b || list_any (same_or_end same a) ks) ≡ true
    → (list_any (same_or_end same a) ks ≡ true → In a ks) → In a (k ∷ ks)
one_more same means a k ks true f e more = subst (λ (z : Option _). In a (z ∷ ks)) (same_is same means a k f) here
one_more same means a k ks false f e more = there (more e)

among_is : {K : Type 0} (same : K → K → Bool) → ((a b : K) → same a b ≡ true → a ≡ b) → (a : Option K) (ks : List (Option K)) → list_any (same_or_end same a) ks ≡ true → In a ks
among_is same means a [] e = absurd cc
among_is same means a (k ∷ ks) e = one_more same means a k ks (same_or_end same a k) refl e (among_is same means a ks)

one_told : {K N : Type 0} (first : Told K N) (later : List (Told K N)) (other : Option (List (Symbol K N))) (c : List (Symbol K N)) (b : Bool) (more : Option (List (Symbol K N)))
    → cond b (Some first.symbols) more ≡ Some c → (more ≡ Some c → In c (choices_of later other)) → In c (first.symbols ∷ choices_of later other)
one_told first later other c true more e among = let same : first.symbols ≡ c = cc in subst (λ d. In d (first.symbols ∷ choices_of later other)) same here
one_told first later other c false more e among = there (among e)

-- the chosen choice is one of the part's
told_in : {K N : Type 0} (test : K → Bool) (later : List (Told K N)) (other : Option (List (Symbol K N))) (c : List (Symbol K N)) → told_of test later other ≡ Some c
    → In c (choices_of later other)
told_in test [] None c e = absurd cc
told_in test [] (Some d) c e = let same : d ≡ c = cc in subst (λ x. In x (d ∷ [])) same here
told_in test (first ∷ later) other c e = one_told first later other c (list_any test first.sorts) (told_of test later other) e (told_in test later other c)

other_in : {K N : Type 0} (later : List (Told K N)) (other : Option (List (Symbol K N))) (c : List (Symbol K N)) → other ≡ Some c → In c (choices_of later other)
other_in [] None c e = absurd cc
other_in [] (Some d) c e = let same : d ≡ c = cc in subst (λ x. In x (d ∷ [])) same here
other_in (first ∷ later) other c e = there (other_in later other c e)

-- the choice taken for a part at a next sort, or at the end, is one of those that the grammar lists for the part
pub choice_in : {T K N : Type 0} (g : Grammar T K N) (n : N) (k : Option K) (c : List (Symbol K N)) → choice_at g n k ≡ Some c → In c (choices_of (g.choices n).told (g.choices n).other)
choice_in g n None c e = other_in (g.choices n).told (g.choices n).other c e
choice_in g n (Some k) c e = told_in (g.same k) (g.choices n).told (g.choices n).other c e

-- words that may be given for what has been asked for
pub data Finish {T K N : Type 0} (s : Samples T K N) : List (Symbol K N) → List K → Type 0 where
  finish_end : Finish s [] []
  finish_token : {k : K} {ss : List (Symbol K N)} {ws : List K} → Finish s ss ws → Finish s (token k ∷ ss) (k ∷ ws)
  finish_part : {n : N} {ss : List (Symbol K N)} {ws : List K} → In (next ws) (s.followers n) → Finish s ss ws → Finish s (part n ∷ ss) (s.words n ++ ws)

module _ {T K N : Type 0} (g : Grammar T K N) (s : Samples T K N) (start : N) (checked : IsChecked g s start) where
  sampled : (ks ws : List K) → sort_of_next g (map s.sample (ks ++ ws)) ≡ next_or ks (next ws)
  sampled [] [] = refl
  sampled [] (w ∷ ws) = ap Some (checked.sort_of_sample w)
  sampled (k ∷ ks) ws = ap Some (checked.sort_of_sample k)

  Whole : List (Symbol K N) → List K → Option K → Type 0
  Whole cs ks after = (ss : List (Symbol K N)) (ws : List K) (o : Option (List T)) → next ws ≡ after → Faults g ss (map s.sample ws) o → Faults g (cs ++ ss) (map s.sample (ks ++ ws)) o

  whole_token : (n : ℕ) (j : K) (cs : List (Symbol K N)) (k : K) (ks : List K) (after : Option K) (b : Bool) → g.same k j ≡ b
      → (elim b [ true ↦ read_whole g n cs ks after | false ↦ false ]) ≡ true → (read_whole g n cs ks after ≡ true → Whole cs ks after) → Whole (token j ∷ cs) (k ∷ ks) after
  unfolding Whole
  whole_token n j cs k ks after true f e more ss ws o same h = fits (ap (λ (x : K). g.same x j) (checked.sort_of_sample k) ∙ f) (more e ss ws o same h)
  whole_token n j cs k ks after false f e more ss ws o same h = absurd cc

  whole_part : (n : ℕ) (p : N) (cs : List (Symbol K N)) (ks : List K) (after : Option K) (c : Option (List (Symbol K N))) → choice_at g p (next_or ks after) ≡ c
      → (elim c [ None ↦ false | Some d ↦ read_whole g n (d ++ cs) ks after ]) ≡ true
      → ((d : List (Symbol K N)) → read_whole g n (d ++ cs) ks after ≡ true → Whole (d ++ cs) ks after) → Whole (part p ∷ cs) ks after
  unfolding Whole
  whole_part n p cs ks after None f e more ss ws o same h = absurd cc
  whole_part n p cs ks after (Some d) f e more ss ws o same h =
      let at : choice_at g p (sort_of_next g (map s.sample (ks ++ ws))) ≡ Some d = ap (choice_at g p) (sampled ks ws ∙ ap (next_or ks) same) ∙ f in
      goes at (subst (λ (x : List (Symbol K N)). Faults g x (map s.sample (ks ++ ws)) o) (append_assoc d cs ss) (more d e ss ws o same h))

  whole_reads : (n : ℕ) (cs : List (Symbol K N)) (ks : List K) (after : Option K) → read_whole g n cs ks after ≡ true → Whole cs ks after
  whole_reads zero cs ks after e = absurd cc
  whole_reads (suc n) [] [] after e = unfold Whole in λ ss ws o same h. h
  whole_reads (suc n) [] (k ∷ ks) after e = absurd cc
  whole_reads (suc n) (token j ∷ cs) [] after e = absurd cc
  whole_reads (suc n) (token j ∷ cs) (k ∷ ks) after e = whole_token n j cs k ks after (g.same k j) refl e (whole_reads n cs ks after)
  whole_reads (suc n) (part p ∷ cs) ks after e = whole_part n p cs ks after (choice_at g p (next_or ks after)) refl e (λ d. whole_reads n (d ++ cs) ks after)

  part_checks : (n : N) → (list_all (λ after. read_whole g most_steps (part n ∷ []) (s.words n) after) (s.followers n) ≡ true)
      × (list_all (λ c. is_followed g s c (s.followers n)) (choices_of (g.choices n).told (g.choices n).other) ≡ true)
  part_checks n = both _ _ (checked.parts n)

  -- what may be given is read
  pub finish_reads : {ss : List (Symbol K N)} {ws : List K} → Finish s ss ws → Faults g ss (map s.sample ws) None
  unfolding Whole
  finish_reads finish_end = whole
  finish_reads (finish_token {k = k} h) = fits (ap (λ (x : K). g.same x k) (checked.sort_of_sample k) ∙ checked.same_self k) (finish_reads h)
  finish_reads (finish_part {n = n} {ss = ss} {ws = ws} i h) =
      whole_reads most_steps (part n ∷ []) (s.words n) (next ws) (all_at (λ after. read_whole g most_steps (part n ∷ []) (s.words n) after) i (part_checks n).0) ss ws None refl (finish_reads h)

  next_of : (n : N) (cs : List (Symbol K N)) (after : List (Option K)) (ks ws : List K) → In (next ws) (nexts s cs after)
      → In (next (ks ++ ws)) (elim ks [ [] ↦ nexts s cs after | k ∷ rest ↦ Some k ∷ [] ])
  next_of n cs after [] ws i = i
  next_of n cs after (k ∷ ks) ws i = here

  record Followed (cs : List (Symbol K N)) (ss : List (Symbol K N)) (after : List (Option K)) : Type 0 where
    words : List K
    finish : Finish s (cs ++ ss) words
    begins : In (next words) (nexts s cs after)

  followed : (cs ss : List (Symbol K N)) (after : List (Option K)) (ws : List K) → is_followed g s cs after ≡ true → In (next ws) after → Finish s ss ws → Followed cs ss after
  followed [] ss after ws e i h = record { words = ws; finish = h; begins = i }
  followed (token k ∷ cs) ss after ws e i h =
      let rest = followed cs ss after ws e i h in
      record { words = k ∷ rest.words; finish = finish_token rest.finish; begins = here }
  followed (part n ∷ cs) ss after ws e i h =
      let tests = both (is_within g.same (nexts s cs after) (s.followers n)) (is_followed g s cs after) e in
      let rest = followed cs ss after ws tests.1 i h in
      let stands = among_is g.same checked.same_means (next rest.words) (s.followers n) (all_at (λ x. list_any (same_or_end g.same x) (s.followers n)) rest.begins tests.0) in
      record { words = s.words n ++ rest.words; finish = finish_part stands rest.finish; begins = next_of n cs after (s.words n) rest.words rest.begins }

  -- after a choice of the part something may be given, too
  pub finish_choice : {n : N} {ss : List (Symbol K N)} {ws : List K} (c : List (Symbol K N)) → In c (choices_of (g.choices n).told (g.choices n).other) → Finish s (part n ∷ ss) ws
      → (more : List K) × Finish s (c ++ ss) more
  finish_choice c i (finish_part {n = n} {ss = ss} {ws = ws} stands h) =
      let done = followed c ss (s.followers n) ws (all_at (λ d. is_followed g s d (s.followers n)) i (part_checks n).1) stands h in
      (done.words, done.finish)

  pub finish_start : Finish s (part start ∷ []) (s.words start ++ [])
  finish_start = finish_part (among_is g.same checked.same_means None (s.followers start) checked.ends_there) finish_end
