-- A check takes no more arguments than its expression has distinct names.
use Rattle.std.proofs.Common.{eq-eqb}
use Rattle.std.proofs.Common.{◌≡◌, ℕ, ◌+◌, ◌≤◌, ◌==◌, Bool, true, false, List, [], ◌∷◌, ◌++◌, length, map, Option, Some, None, refl, ap, sym}
use Rattle.std.proofs.Common.{◌∙◌, arith, length-append, zero-add}
use Rattle.std.specs.Prelude.{◌||◌, slice_get, if◌then◌else◌}
use Rattle.std.specs.List.{list_any, flat_map}
use Rattle.std.specs.Str.{bytes_eq}
use Rattle.std.proofs.lemmas.List.Folds.{list_any-append}
use Rattle.std.proofs.lemmas.Slice.Eq.{bytes_eq-Decides}
use Rattle.st_ast.specs.declared.expressions.Expr.{Expr}
use Rattle.st_types.specs.declared.names.Named.{Named}
use Rattle.st_types.specs.Names.{Local, find_local}
use Rattle.st_types.specs.Statements.{mentions, with_number, numbers_of, args_of_check, locals_at, if_any}
use Rattle.st_types.specs.declared.scopes.Local as code_local
use Rattle.st_types.specs.Scopes.{local_view}
use Rattle.st_types.proofs.ArgumentLemmas.{found_views}
use Rattle.st_types.specs.Tallies.{count_new, distinct_names}

-- the number of each known local that a name before stands for is among the numbers
abbrev AreNumbered : List Local → List (List ℕ) → List ℕ → Type 0
AreNumbered locals before numbers =
    (name : List ℕ) (named : Named) → list_any (λ other. bytes_eq other name) before ≡ true → find_local locals name ≡ Some named
    → list_any (λ n. n == named.number) numbers ≡ true

same_number : (n : ℕ) → (n == n) ≡ true
same_number n = eq-eqb n n refl

one_longer : (numbers : List ℕ) (named : Named) (b : Bool) → length (if b then numbers else numbers ++ named.number ∷ []) ≤ length numbers + 1
one_longer numbers named true = omega arith
one_longer numbers named false = omega (arith, length-append numbers (named.number ∷ []))

-- one name more makes one number more at most, and none where it is not new
longer : (locals : List Local) (before : List (List ℕ)) (numbers : List ℕ) (name : List ℕ) (b : Bool) (found : Option Named) → AreNumbered locals before numbers
    → list_any (λ other. bytes_eq other name) before ≡ b → find_local locals name ≡ found
    → length (with_number numbers found) ≤ length numbers + (if b then 0 else 1)
longer locals before numbers name b None are k f = omega arith
longer locals before numbers name true (Some named) are k f = rw (are name named k f) (omega arith)
longer locals before numbers name false (Some named) are k f = one_longer numbers named (list_any (λ n. n == named.number) numbers)

-- what is among the numbers stays so
kept : (q : ℕ → Bool) (numbers : List ℕ) (found : Option Named) → list_any q numbers ≡ true → list_any q (with_number numbers found) ≡ true
kept q numbers None h = h
kept q numbers (Some named) h = by_test (list_any (λ n. n == named.number) numbers)
  where
    by_test : (b : Bool) → list_any q (if b then numbers else numbers ++ named.number ∷ []) ≡ true
    by_test true = h
    by_test false = list_any-append q numbers (named.number ∷ []) ∙ ap (λ b. b || list_any q (named.number ∷ [])) h

-- the number that joins is among them
joined_number : (numbers : List ℕ) (named : Named) → list_any (λ n. n == named.number) (with_number numbers (Some named)) ≡ true
joined_number numbers named = by_test (list_any (λ n. n == named.number) numbers) refl
  where
    either_true : (b : Bool) → (b || (true || false)) ≡ true
    either_true true = refl
    either_true false = refl

    by_test : (b : Bool) → list_any (λ n. n == named.number) numbers ≡ b → list_any (λ n. n == named.number) (if b then numbers else numbers ++ named.number ∷ []) ≡ true
    by_test true h = h
    by_test false h =
        list_any-append (λ n. n == named.number) numbers (named.number ∷ [])
        ∙ ap (λ b. list_any (λ n. n == named.number) numbers || (b || false)) (same_number named.number)
        ∙ either_true (list_any (λ n. n == named.number) numbers)

-- with one name more
numbered_more : (locals : List Local) (before : List (List ℕ)) (numbers : List ℕ) (name : List ℕ) → AreNumbered locals before numbers
    → AreNumbered locals (before ++ name ∷ []) (with_number numbers (find_local locals name))
numbered_more locals before numbers name are other named h f =
    by_test (list_any (λ x. bytes_eq x other) before) (bytes_eq name other) refl refl (sym (list_any-append (λ x. bytes_eq x other) before (name ∷ [])) ∙ h)
  where
    by_test : (a b : Bool) → list_any (λ x. bytes_eq x other) before ≡ a → bytes_eq name other ≡ b
        → (a || (b || false)) ≡ true
        → list_any (λ n. n == named.number) (with_number numbers (find_local locals name)) ≡ true
    by_test true b ha hb k = kept (λ n. n == named.number) numbers (find_local locals name) (are other named ha f)
    by_test false true ha hb k = rw ((bytes_eq-Decides name other).0 hb, f) (joined_number numbers named)
    by_test false false ha hb k = cc

numbers_are_few : (locals : List Local) (before names : List (List ℕ)) (numbers : List ℕ) → AreNumbered locals before numbers
    → length (numbers_of locals names numbers) ≤ length numbers + count_new before names
numbers_are_few locals before [] numbers are = omega arith
numbers_are_few locals before (name ∷ names) numbers are =
    let more = numbers_are_few locals (before ++ name ∷ []) names (with_number numbers (find_local locals name)) (numbered_more locals before numbers name are) in
    let one = longer locals before numbers name (list_any (λ other. bytes_eq other name) before) (find_local locals name) are refl refl in
    omega (arith, more, one)

-- the arguments of a check
pub few_arguments : (locals : List Local) (e : Expr) → length (args_of_check locals e) ≤ distinct_names e
few_arguments locals e = rw zero-add at (numbers_are_few locals [] (mentions e) [] (λ name named h f. cc))

-- the locals of numbers are no more than the numbers
pub few_found : {X : Type 0} (xs : List X) (numbers : List ℕ) → length (flat_map (λ n. if_any (slice_get xs n)) numbers) ≤ length numbers
few_found xs [] = omega arith
few_found xs (n ∷ numbers) = omega (arith, length-append (if_any (slice_get xs n)) (flat_map (λ n. if_any (slice_get xs n)) numbers), one (slice_get xs n), few_found xs numbers)
  where
    one : {X : Type 0} (x : Option X) → length (if_any x) ≤ 1
    one None = omega arith
    one (Some x) = omega arith

-- what the code takes for a check: `given` are the numbers that it looked up
pub locals_taken : (locals found : List code_local.Local) (numbers given : List ℕ) (e : Expr)
    → numbers ≡ args_of_check (map local_view locals) e → given ≡ numbers → found ≡ flat_map (λ n. if_any (slice_get locals n)) given
    → map local_view found ≡ locals_at (map local_view locals) (args_of_check (map local_view locals) e)
locals_taken locals found numbers given e n g f = rw (f, g, n) (found_views locals (args_of_check (map local_view locals) e))

-- a check takes no more locals than its expression has distinct names
pub few_taken : (locals found : List code_local.Local) (numbers given : List ℕ) (e : Expr)
    → numbers ≡ args_of_check (map local_view locals) e → given ≡ numbers → found ≡ flat_map (λ n. if_any (slice_get locals n)) given
    → length found ≤ distinct_names e
few_taken locals found numbers given e n g f =
    omega (arith, ap length f, few_found locals given, ap length (g ∙ n), few_arguments (map local_view locals) e)
