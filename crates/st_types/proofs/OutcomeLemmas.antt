-- A whole tree comes to the first of its faults, or to itself with numbers.
use Rattle.std.proofs.Common.{◌≡◌, ℕ, ◌+◌, ◌<◌, ◌≤◌, List, [], ◌∷◌, ◌++◌, map, length, take, get_or, Ok, Err, IsErrAnd, refl, ap, sym}
use Rattle.std.proofs.Common.{◌∙◌, subst, arith, append_assoc, append-nil, Vec, Global}
use Rattle.std.specs.Prelude.{IfOk, IfErr}
use Rattle.std.proofs.lemmas.List.{length-map, map-append, take_more}
use Rattle.st_ast.specs.declared.declarations.Program.{Program}
use Rattle.st_events.specs.declared.shapes.TheConstants.{MOST_CHECKS}
use Rattle.st_resolved.specs.Terms.{Predicate}
use Rattle.st_resolved.specs.Views.{predicate_of, routine_of}
use Rattle.st_resolved.specs.declared.programs.Body.{Body}
use Rattle.st_resolved.specs.declared.programs.Pred.{Pred}
use Rattle.st_types.specs.declared.checking.Bodies.{Bodies}
use Rattle.st_types.specs.declared.checking.Numbered.{Numbered}
use Rattle.st_types.specs.declared.errors.TypeError.{TypeError}
use Rattle.st_types.specs.declared.errors.TypeError.TheVariants.{Memory, UnknownName, Twice, Mismatch, WrongCount, NotPure, NotHere}
use Rattle.st_types.specs.declared.walks.Launched as code_launched
use Rattle.st_types.specs.Checked.{Checked, verdict, Fails}
use Rattle.st_types.specs.Limits.{HasRoomFor, IsWithinLimits, proc_tally, thread_tally}
use Rattle.st_types.specs.Outcomes.{IsFirstFault, Parts, bodies_of, walked_bodies, resolved_at, resolved_of, joined_parts, Whole}
use Rattle.st_types.specs.Routines.{RoutedAll, routed_all, routed_all_at}
use Rattle.st_types.specs.Rules.{each_with_earlier, class_faults, fields_faults, pred_faults, predicate_at, faults_of, resolution, shape_of, class_kinds, WalkedRoutine}
use Rattle.st_types.specs.Rules.{walk_routines, walk_proc, walk_thread, walked_procs, walked_threads}
use Rattle.st_types.specs.Statements.{Launched}
use Rattle.st_types.specs.Tallies.{Tally, all_of}
use Rattle.st_types.specs.Walks.{launched_of}
use Rattle.st_types.proofs.CheckedLemmas.{no_faults, value_is, fails_too, first_of_more}
use Rattle.st_types.proofs.RoutineLemmas.{CountsChecks, procs_count, threads_count}

-- what is made of each joins what stands in front, and what was made before
pub made_goes : {X A C : Type 0} (view : C → A) (at : X → A) (front : List A) (old new : List C) (c : C) (xs : List X) (i : ℕ) (d : X) → i < length xs → d ≡ get_or xs i d
    → new ≡ old ++ c ∷ [] → view c ≡ at d → map view old ≡ front ++ map at (take i xs) → map view new ≡ front ++ map at (take (i + 1) xs)
made_goes view at front old new c xs i d h is n same inv =
    rw (n, map-append view old (c ∷ []), inv, take_more xs i d h, map-append at (take i xs) (get_or xs i d ∷ []), ← is, same)
    (append_assoc front (map at (take i xs)) (at d ∷ []))

-- what is told of the one at the index joins what was told of those in front
pub collected_goes : {X A : Type 0} (at : X → A) (old new : List A) (a : A) (xs : List X) (i : ℕ) (d : X) → i < length xs → d ≡ get_or xs i d
    → new ≡ old ++ a ∷ [] → a ≡ at d → old ≡ map at (take i xs) → new ≡ map at (take (i + 1) xs)
collected_goes at old new a xs i d h is n same inv = rw (n, inv, take_more xs i d h, map-append at (take i xs) (get_or xs i d ∷ []), ← is, same) refl

-- one check statement more, of which a part is told
pub told_goes : {B C : Type 0} (view : C → B) (pick : Launched → B) (old new : List C) (c : C) (ls : List code_launched.Launched) (l : code_launched.Launched)
    → new ≡ old ++ c ∷ [] → view c ≡ pick (launched_of l) → map view old ≡ map pick (map launched_of ls) → map view new ≡ map pick (map launched_of (ls ++ l ∷ []))
told_goes view pick old new c ls l n same inv =
    rw (n, map-append view old (c ∷ []), inv, map-append launched_of ls (l ∷ []), map-append pick (map launched_of ls) (launched_of l ∷ []), same) refl

-- how many check statements there are behind declarations
pub checks_count : {X : Type 0} (f : List X → List Launched → X → WalkedRoutine) (t : X → Tally) (earlier : List X) (checks : List Launched) (xs : List X) → CountsChecks f t
    → length (walk_routines f earlier checks xs).checks ≡ length checks + (all_of (map t xs)).checks
checks_count f t earlier checks [] count = omega arith
checks_count f t earlier checks (x ∷ xs) count =
    omega (arith, count earlier checks x, checks_count f t (earlier ++ x ∷ []) (f earlier checks x).checks xs count)

-- the limits leave room for all procedures, and then for all threads
pub room_for_procs : (p : Program) (start : Vec code_launched.Launched Global) → IsWithinLimits p → start.items ≡ [] → HasRoomFor start (all_of (map proc_tally p.procs))
room_for_procs p start h e = record {
  few_checks = omega (arith, h.checks, ap length e);
  few_names = omega (arith, h.arguments);
}

-- behind the procedures, the limits leave room for all threads
pub room_for_threads : (p : Program) (start mid : Vec code_launched.Launched Global) (procs : List Body) → IsWithinLimits p → start.items ≡ []
    → routed_all (walk_routines (walk_proc p) [] (map launched_of start.items) p.procs) ≡ Ok (routed_all_at mid procs)
    → HasRoomFor mid (all_of (map thread_tally p.threads))
room_for_threads p start mid procs h e k =
    let w = walk_routines (walk_proc p) [] (map launched_of start.items) p.procs in
    let same = value_is w.faults (record { routines = w.routines; checks = w.checks }) (routed_all_at mid procs) k in
    let long = ap (λ (r : RoutedAll). length r.checks) same in
    let count = checks_count (walk_proc p) proc_tally [] (map launched_of start.items) p.procs (procs_count p) in
    record {
      few_checks = omega (arith, h.checks, long, count, length-map mid.items launched_of, length-map start.items launched_of, ap length e);
      few_names = omega (arith, h.arguments);
    }

-- the number of check statements
pub few_checks : (p : Program) → IsWithinLimits p → length (walked_threads p).checks ≤ MOST_CHECKS
few_checks p h =
    omega (
      arith,
      h.checks,
      checks_count (walk_proc p) proc_tally [] [] p.procs (procs_count p),
      checks_count (walk_thread p) thread_tally [] (walked_procs p).checks p.threads (threads_count p),
    )

-- procedures, and then threads
procs_first : (p : Program) (start : Vec code_launched.Launched Global) → start.items ≡ []
    → walk_routines (walk_proc p) [] (map launched_of start.items) p.procs ≡ walked_procs p
procs_first p start e = ap (λ ls. walk_routines (walk_proc p) [] (map launched_of ls) p.procs) e

-- procedures and then threads without faults are the bodies of the program
pub bodies_are : (p : Program) (start mid after : Vec code_launched.Launched Global) (procs threads : List Body) → start.items ≡ []
    → routed_all (walk_routines (walk_proc p) [] (map launched_of start.items) p.procs) ≡ Ok (routed_all_at mid procs)
    → routed_all (walk_routines (walk_thread p) [] (map launched_of mid.items) p.threads) ≡ Ok (routed_all_at after threads)
    → walked_bodies p ≡ Ok (record { procs = map routine_of procs; threads = map routine_of threads; checks = map launched_of after.items })
bodies_are p start mid after procs threads e h k =
    let w = walked_procs p in
    let first : routed_all w ≡ Ok (routed_all_at mid procs) = ap routed_all (sym (procs_first p start e)) ∙ h in
    let none = no_faults w.faults (record { routines = w.routines; checks = w.checks }) (routed_all_at mid procs) first in
    let same = value_is w.faults (record { routines = w.routines; checks = w.checks }) (routed_all_at mid procs) first in
    let u = walked_threads p in
    let later : routed_all u ≡ Ok (routed_all_at after threads) = ap (λ (r : RoutedAll). routed_all (walk_routines (walk_thread p) [] r.checks p.threads)) same ∙ k in
    let none_then = no_faults u.faults (record { routines = u.routines; checks = u.checks }) (routed_all_at after threads) later in
    let same_then = value_is u.faults (record { routines = u.routines; checks = u.checks }) (routed_all_at after threads) later in
    rw (none, none_then)
    (ap (λ (r : RoutedAll). let x : Parts = record { procs = w.routines; threads = r.routines; checks = r.checks } in Ok x) same_then
    ∙ ap (λ (r : RoutedAll). let x : Parts = record { procs = r.routines; threads = map routine_of threads; checks = map launched_of after.items } in Ok x) same)

-- a fault of the procedures is the first of the bodies
pub procs_fail : (p : Program) (start : Vec code_launched.Launched Global) (e : TypeError) → start.items ≡ []
    → Fails e (routed_all (walk_routines (walk_proc p) [] (map launched_of start.items) p.procs)) → Fails e (walked_bodies p)
procs_fail p start e n h =
    fails_too (routed_all (walk_routines (walk_proc p) [] (map launched_of start.items) p.procs)) (walked_bodies p) e h
    (λ k. first_of_more (walked_procs p).faults (walked_threads p).faults _ _ e (ap routed_all (sym (procs_first p start n)) ∙ k))

-- no fault among the first, and one among the others
second_of_more : {A B : Type 0} (xs ys : List TypeError) (a : A) (b : B) (e : TypeError) → xs ≡ [] → verdict ys a ≡ Err e → verdict (xs ++ ys) b ≡ Err e
second_of_more xs [] a b e h k = cc
second_of_more xs (y ∷ ys) a b e h k = let same : y ≡ e = cc in rw (h, same) refl

-- where they have none, one of the threads is
pub threads_fail : (p : Program) (start mid : Vec code_launched.Launched Global) (procs : List Body) (e : TypeError) → start.items ≡ []
    → routed_all (walk_routines (walk_proc p) [] (map launched_of start.items) p.procs) ≡ Ok (routed_all_at mid procs)
    → Fails e (routed_all (walk_routines (walk_thread p) [] (map launched_of mid.items) p.threads)) → Fails e (walked_bodies p)
threads_fail p start mid procs e n h k =
    let w = walked_procs p in
    let first : routed_all w ≡ Ok (routed_all_at mid procs) = ap routed_all (sym (procs_first p start n)) ∙ h in
    let none = no_faults w.faults (record { routines = w.routines; checks = w.checks }) (routed_all_at mid procs) first in
    let same = value_is w.faults (record { routines = w.routines; checks = w.checks }) (routed_all_at mid procs) first in
    fails_too (routed_all (walk_routines (walk_thread p) [] (map launched_of mid.items) p.threads)) (walked_bodies p) e k
    (λ err. second_of_more w.faults (walked_threads p).faults _ _ e none
    (ap (λ (r : RoutedAll). routed_all (walk_routines (walk_thread p) [] r.checks p.threads)) same ∙ err))

-- all faults, in three parts
three_parts : (p : Program) → faults_of p
    ≡ (each_with_earlier (class_faults p) [] p.classes ++ fields_faults p p.shared) ++ (each_with_earlier (pred_faults p) [] p.preds ++ ((walked_procs p).faults ++ (walked_threads p).faults))
unfolding faults_of
three_parts p = simp (append_assoc, append-nil)

-- a fault of classes or shared variables is the first of the whole tree
pub cells_fail : (p : Program) (e : TypeError) → Err e ≡ verdict (each_with_earlier (class_faults p) [] p.classes ++ fields_faults p p.shared) (tt {0})
    → verdict (faults_of p) (resolved_of p) ≡ Err e
cells_fail p e h =
    ap (λ fs. verdict fs (resolved_of p)) (three_parts p)
    ∙ first_of_more (each_with_earlier (class_faults p) [] p.classes ++ fields_faults p p.shared) _ (tt {0}) (resolved_of p) e (sym h)

-- where they have none, one of the predicates is
pub preds_fail : (p : Program) (e : TypeError) → Ok (tt {0}) ≡ verdict (each_with_earlier (class_faults p) [] p.classes ++ fields_faults p p.shared) (tt {0})
    → Fails e (verdict (each_with_earlier (pred_faults p) [] p.preds) (map (predicate_at p) p.preds)) → Fails e (verdict (faults_of p) (resolved_of p))
preds_fail p e c h =
    let cells = each_with_earlier (class_faults p) [] p.classes ++ fields_faults p p.shared in
    fails_too (verdict (each_with_earlier (pred_faults p) [] p.preds) (map (predicate_at p) p.preds)) (verdict (faults_of p) (resolved_of p)) e h
    (λ k. ap (λ fs. verdict fs (resolved_of p)) (three_parts p)
    ∙ second_of_more cells _ (resolved_of p) (resolved_of p) e (no_faults cells (tt {0}) (tt {0}) (sym c))
    (first_of_more (each_with_earlier (pred_faults p) [] p.preds) _ _ (resolved_of p) e k))

-- where these have none either, one of the bodies is
pub bodies_fail : (p : Program) (preds : List Pred) (e : TypeError)
    → Ok (tt {0}) ≡ verdict (each_with_earlier (class_faults p) [] p.classes ++ fields_faults p p.shared) (tt {0})
    → verdict (each_with_earlier (pred_faults p) [] p.preds) (map (predicate_at p) p.preds) ≡ Ok (map predicate_of preds)
    → Fails e (walked_bodies p) → Fails e (verdict (faults_of p) (resolved_of p))
bodies_fail p preds e c q h =
    let cells = each_with_earlier (class_faults p) [] p.classes ++ fields_faults p p.shared in
    let ps = each_with_earlier (pred_faults p) [] p.preds in
    fails_too (walked_bodies p) (verdict (faults_of p) (resolved_of p)) e h
    (λ k. ap (λ fs. verdict fs (resolved_of p)) (three_parts p)
    ∙ second_of_more cells _ (resolved_of p) (resolved_of p) e (no_faults cells (tt {0}) (tt {0}) (sym c))
    (second_of_more ps _ _ (resolved_of p) e (no_faults ps _ _ q) k))

-- a program with numbers of its parts
abbrev whole_of : Program → List Predicate → Parts → Whole
whole_of p preds parts = record {
  program = record { preds = preds; procs = parts.procs; threads = parts.threads; checks = map (λ l. l.check) parts.checks };
  shape = record { classes = class_kinds p; checks = map (λ l. l.kinds) parts.checks };
}

-- where no part has a fault, the parts together are the resolution of the tree and its shape
pub resolved_is : (p : Program) (preds : List Pred) (b : Bodies) (n : Numbered)
    → Ok (tt {0}) ≡ verdict (each_with_earlier (class_faults p) [] p.classes ++ fields_faults p p.shared) (tt {0})
    → verdict (each_with_earlier (pred_faults p) [] p.preds) (map (predicate_at p) p.preds) ≡ Ok (map predicate_of preds)
    → walked_bodies p ≡ Ok (bodies_of b) → resolved_at n ≡ joined_parts p preds b → verdict (faults_of p) (resolved_of p) ≡ Ok (resolved_at n)
unfolding resolution shape_of
resolved_is p preds b n c q h k =
    let cells = each_with_earlier (class_faults p) [] p.classes ++ fields_faults p p.shared in
    let ps = each_with_earlier (pred_faults p) [] p.preds in
    let bs = (walked_procs p).faults ++ (walked_threads p).faults in
    let parts : Parts = record { procs = (walked_procs p).routines; threads = (walked_threads p).routines; checks = (walked_threads p).checks } in
    let no_cells : cells ≡ [] = no_faults cells (tt {0}) (tt {0}) (sym c) in
    let no_preds : ps ≡ [] = no_faults ps (map (predicate_at p) p.preds) (map predicate_of preds) q in
    let same_preds : map (predicate_at p) p.preds ≡ map predicate_of preds = value_is ps (map (predicate_at p) p.preds) (map predicate_of preds) q in
    let no_bodies : bs ≡ [] = no_faults bs parts (bodies_of b) h in
    let same_bodies : parts ≡ bodies_of b = value_is bs parts (bodies_of b) h in
    let none : faults_of p ≡ [] = three_parts p ∙ (rw (no_cells, no_preds, no_bodies) refl) in
    ap (λ fs. verdict fs (resolved_of p)) none ∙ ap Ok (ap (whole_of p (map (predicate_at p) p.preds)) same_bodies ∙ ap (λ qs. whole_of p qs (bodies_of b)) same_preds ∙ sym k)

-- an error is the first of the faults
pub first_fault : {A : Type 0} (faults : List TypeError) (a : A) (e : TypeError) → Fails e (verdict faults a) → IsFirstFault e faults
first_fault faults a Memory h = tt
first_fault [] a (UnknownName at) h = cc
first_fault (x ∷ faults) a (UnknownName at) h = (faults, ap (λ y. y ∷ faults) (let same : x ≡ UnknownName at = cc in same))
first_fault [] a (Twice at) h = cc
first_fault (x ∷ faults) a (Twice at) h = (faults, ap (λ y. y ∷ faults) (let same : x ≡ Twice at = cc in same))
first_fault [] a (Mismatch at wanted found) h = cc
first_fault (x ∷ faults) a (Mismatch at wanted found) h = (faults, ap (λ y. y ∷ faults) (let same : x ≡ Mismatch at wanted found = cc in same))
first_fault [] a (WrongCount at) h = cc
first_fault (x ∷ faults) a (WrongCount at) h = (faults, ap (λ y. y ∷ faults) (let same : x ≡ WrongCount at = cc in same))
first_fault [] a (NotPure at) h = cc
first_fault (x ∷ faults) a (NotPure at) h = (faults, ap (λ y. y ∷ faults) (let same : x ≡ NotPure at = cc in same))
first_fault [] a (NotHere at) h = cc
first_fault (x ∷ faults) a (NotHere at) h = (faults, ap (λ y. y ∷ faults) (let same : x ≡ NotHere at = cc in same))

-- an answer that is no typed program
pub nothing_given : {A : Type 0} (P : A → Type 0) (result : Checked A) (e : TypeError) → IsErrAnd result (λ x. x ≡ e) → IfOk result P
nothing_given P (Ok a) e r = elim r [ ]
nothing_given P (Err x) e r = tt

-- an error that is handed on, unless memory ran out, is the first of the faults
pub first_told : {A B : Type 0} (result : Checked A) (faults : List TypeError) (b : B) (e : TypeError) → IsErrAnd result (λ x. x ≡ e) → Fails e (verdict faults b)
    → IfErr result (λ x. IsFirstFault x faults)
first_told (Ok a) faults b e r h = elim r [ ]
first_told (Err x) faults b e r h = subst (λ y. IsFirstFault y faults) (sym r) (first_fault faults b e h)
