-- A test of a chart: whatever has been asked for can be given. Each part has sample words, which are read whole before
-- each sort that may stand after it.
use Rattle.std.specs.Prelude.{◌≡◌, ℕ, zero, suc, Bool, true, false, ◌&&◌, List, [], ◌∷◌, ◌++◌, Option, Some, None}
use Rattle.std.specs.List.{list_any, list_all}
use Rattle.st_charts.specs.Charts.{Symbol, token, part, Told, Grammar, choice_at}

-- sample words of each part, as sorts, and the sorts that may stand after it (nothing: the end)
pub record Samples (T K N : Type 0) : Type 0 where
  pub sample : K → T
  pub words : N → List K
  pub followers : N → List (Option K)

-- the same sort, or the end twice
abbrev pub same_or_end : {K : Type 0} → (K → K → Bool) → Option K → Option K → Bool
same_or_end same None None = true
same_or_end same None (Some b) = false
same_or_end same (Some a) None = false
same_or_end same (Some a) (Some b) = same a b

-- the first sort, or what comes after no sorts
abbrev pub next_or : {K : Type 0} → List K → Option K → Option K
next_or [] after = after
next_or (k ∷ ks) after = Some k

-- whether the words are read for the symbols, all of both, where `after` comes next
abbrev pub read_whole : {T K N : Type 0} → Grammar T K N → ℕ → List (Symbol K N) → List K → Option K → Bool
read_whole g zero ss ks after = false
read_whole g (suc n) [] [] after = true
read_whole g (suc n) [] (k ∷ ks) after = false
read_whole g (suc n) (token j ∷ ss) [] after = false
read_whole g (suc n) (token j ∷ ss) (k ∷ ks) after = elim (g.same k j) [ true ↦ read_whole g n ss ks after | false ↦ false ]
read_whole g (suc n) (part p ∷ ss) ks after = elim (choice_at g p (next_or ks after)) [ None ↦ false | Some c ↦ read_whole g n (c ++ ss) ks after ]

-- the sorts with which the sample words of the symbols begin, where these may stand after them
abbrev pub nexts : {T K N : Type 0} → Samples T K N → List (Symbol K N) → List (Option K) → List (Option K)
nexts s [] after = after
nexts s (token k ∷ ss) after = Some k ∷ []
nexts s (part n ∷ ss) after = elim (s.words n) [ [] ↦ nexts s ss after | k ∷ ks ↦ Some k ∷ [] ]

-- whether each sort is among the others
abbrev pub is_within : {K : Type 0} → (K → K → Bool) → List (Option K) → List (Option K) → Bool
is_within same xs ys = list_all (λ x. list_any (same_or_end same x) ys) xs

-- whether each part among the symbols stands before a sort that may stand after it
abbrev pub is_followed : {T K N : Type 0} → Grammar T K N → Samples T K N → List (Symbol K N) → List (Option K) → Bool
is_followed g s [] after = true
is_followed g s (token k ∷ ss) after = is_followed g s ss after
is_followed g s (part n ∷ ss) after = is_within g.same (nexts s ss after) (s.followers n) && is_followed g s ss after

-- all choices, the other one last
abbrev pub choices_of : {K N : Type 0} → List (Told K N) → Option (List (Symbol K N)) → List (List (Symbol K N))
choices_of [] None = []
choices_of [] (Some c) = c ∷ []
choices_of (first ∷ later) other = first.symbols ∷ choices_of later other

-- the steps in which sample words are read
abbrev pub most_steps : ℕ
most_steps = 100

-- the sample words of the part are read whole before each of its followers, and each choice stands before followers of its parts
abbrev pub is_part_checked : {T K N : Type 0} → Grammar T K N → Samples T K N → N → Bool
is_part_checked g s n =
    list_all (λ after. read_whole g most_steps (part n ∷ []) (s.words n) after) (s.followers n)
    && list_all (λ c. is_followed g s c (s.followers n)) (choices_of (g.choices n).told (g.choices n).other)

-- a chart in which whatever has been asked for can be given, from a part after which nothing stands
pub record IsChecked {T K N : Type 0} (g : Grammar T K N) (s : Samples T K N) (start : N) : Type 0 where
  pub same_means : (a b : K) → g.same a b ≡ true → a ≡ b
  pub same_self : (a : K) → g.same a a ≡ true
  pub sort_of_sample : (k : K) → g.sort (s.sample k) ≡ k
  pub parts : (n : N) → is_part_checked g s n ≡ true
  pub ends_there : list_any (same_or_end g.same None) (s.followers start) ≡ true
