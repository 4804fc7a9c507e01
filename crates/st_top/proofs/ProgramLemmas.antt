-- A program and its numbers: its threads and its check statements are told alike by both.
use Rattle.std.proofs.Common.{◌≡◌, ℕ, suc, List, [], ◌∷◌, ◌++◌, length, map, refl, sym, ap, ◌∙◌}
use Rattle.st_ast.specs.declared.declarations.Program.{Program}
use Rattle.st_events.specs.declared.events.Site.{Site}
use Rattle.st_resolved.specs.declared.programs.Check.{Check}
use Rattle.st_resolved.specs.declared.programs.Resolved.{Resolved}
use Rattle.st_resolved.specs.Terms.{Program as Numbers}
use Rattle.st_resolved.specs.Views.{program_of, check_of}
use Rattle.st_top.specs.Programs.{places_of, mutators_of, counts_line, accepted_line}
use Rattle.st_types.specs.Rules.{WalkedRoutine, walk_routines, walk_thread, walked_procs, resolution}
use Rattle.st_types.specs.Statements.{Launched}

-- each routine is walked
walked_are_as_many : {X : Type 0} (f : List X → List Launched → X → WalkedRoutine) (earlier : List X) (checks : List Launched) (xs : List X)
    → length (walk_routines f earlier checks xs).routines ≡ length xs
walked_are_as_many f earlier checks [] = refl
walked_are_as_many f earlier checks (x ∷ xs) = ap suc (walked_are_as_many f (earlier ++ x ∷ []) (f earlier checks x).checks xs)

-- a program has as many threads with numbers as with names
pub threads_are_as_many : (tree : Program) → length (resolution tree).threads ≡ mutators_of tree
unfolding resolution
threads_are_as_many tree = walked_are_as_many (walk_thread tree) [] (walked_procs tree).checks tree.threads

-- the resolved program names the threads of the tree, in order
pub numbers_have_the_threads : (tree : Program) (resolved : Resolved) → program_of resolved ≡ resolution tree → length (program_of resolved).threads ≡ mutators_of tree
numbers_have_the_threads tree resolved same = ap (λ (p : Numbers). length p.threads) same ∙ threads_are_as_many tree

-- the places of check statements
places_stay : (checks : List Check) → map (λ check. check.at) (map check_of checks) ≡ map (λ check. check.at) checks
places_stay [] = refl
places_stay (check ∷ checks) = ap (λ (rest : List Site). check.at ∷ rest) (places_stay checks)

-- the resolved program has the places of the tree's check statements, in order
pub numbers_have_the_places : (tree : Program) (resolved : Resolved) → program_of resolved ≡ resolution tree → map (λ check. check.at) resolved.checks ≡ places_of tree
numbers_have_the_places tree resolved same = sym (places_stay resolved.checks) ∙ ap (λ (p : Numbers). map (λ check. check.at) p.checks) same

-- how many check statements there are
checks_stay : (checks : List Check) → length (map check_of checks) ≡ length checks
checks_stay [] = refl
checks_stay (check ∷ checks) = ap suc (checks_stay checks)

-- the resolved program has as many check statements as the tree
pub numbers_have_the_checks : (tree : Program) (resolved : Resolved) → program_of resolved ≡ resolution tree → length resolved.checks ≡ length (resolution tree).checks
numbers_have_the_checks tree resolved same = sym (checks_stay resolved.checks) ∙ ap (λ (p : Numbers). length p.checks) same

-- the line of an accepted source is that of its counts
pub counts_are_told : (tree : Program) (resolved : Resolved) (classes preds procs threads checks : ℕ)
    → classes ≡ length tree.classes
    → preds ≡ length tree.preds
    → procs ≡ length tree.procs
    → threads ≡ length tree.threads
    → checks ≡ length resolved.checks
    → program_of resolved ≡ resolution tree
    → counts_line classes preds procs threads checks ≡ accepted_line tree
counts_are_told tree resolved classes preds procs threads checks a b c d e same =
    let all : checks ≡ length (resolution tree).checks = e ∙ numbers_have_the_checks tree resolved same in
    λ i. counts_line (a i) (b i) (c i) (d i) (all i)
