-- Procedures and threads one after another: how far a loop over them has come.
use Rattle.std.proofs.Common.{◌≡◌, ℕ, ◌+◌, ◌<◌, ◌≤◌, List, [], ◌∷◌, ◌++◌, map, length, take, drop, get_or, Ok, Err, refl, ap, sym}
use Rattle.std.proofs.Common.{◌∙◌, subst, arith, add-one, drop-cons, suc, append_assoc, append-nil}
use Rattle.std.specs.Prelude.{Vec}
use Rattle.std.specs.declared.alloc.Global.{Global}
use Rattle.std.proofs.Math.Seq.{take-suc}
use Rattle.std.proofs.lemmas.List.{drop_all, length-map, map-append}
use Rattle.st_ast.specs.declared.declarations.Program.{Program}
use Rattle.st_ast.specs.declared.declarations.Param.{Param}
use Rattle.st_ast.specs.declared.statements.Stmt as trees
use Rattle.st_events.specs.declared.shapes.Kind.{Kind}
use Rattle.st_resolved.specs.Terms.{Routine}
use Rattle.st_resolved.specs.Views.{block_of}
use Rattle.st_resolved.specs.declared.statements.Stmt.{Stmt}
use Rattle.st_types.specs.declared.errors.TypeError.{TypeError}
use Rattle.st_types.specs.declared.scopes.Local as code_local
use Rattle.st_types.specs.declared.walks.Launched as code_launched
use Rattle.st_types.specs.declared.walks.Walk.{Walk}
use Rattle.st_types.specs.Checked.{Checked, verdict, Fails}
use Rattle.st_resolved.specs.Views.{routine_of}
use Rattle.st_resolved.specs.declared.programs.Body.{Body}
use Rattle.st_types.specs.Limits.{HasRoomFor, proc_tally, thread_tally}
use Rattle.st_types.specs.Names.{Local}
use Rattle.st_types.specs.Routines.{Routed, RoutedAll, routed, routed_all, routed_at, routed_all_at}
use Rattle.st_types.specs.Rules.{param_locals, walk_body, walked_body, WalkedRoutine, WalkedRoutines, walk_routines, walk_proc, walk_thread}
use Rattle.st_types.specs.Scopes.{local_view}
use Rattle.st_types.specs.Statements.{Launched, Reached, known_kind}
use Rattle.st_types.specs.Stepwise.{SteppedBlock, step, step_all}
use Rattle.st_types.specs.Tallies.{Tally, joined, all_of}
use Rattle.st_types.specs.Walks.{reached_of, launched_of, stepped_block_at}
use Rattle.st_types.proofs.CheckedLemmas.{no_faults, value_is, fails_too, first_of_more}
use Rattle.st_types.proofs.TallyLemmas.{walk_all_grows}
use Rattle.st_types.proofs.ScopeLemmas.{kinds_of_views}
use Rattle.st_types.proofs.WalkLemmas.{steps_are_first, stepped_block_of}

-- routines that are there already, and then others
abbrev pub onto : List Routine → Checked RoutedAll → Checked RoutedAll
onto front (Ok r) = Ok (record { routines = front ++ r.routines; checks = r.checks })
onto front (Err e) = Err e

-- no routines in front change nothing
pub onto_none : (r : Checked RoutedAll) → onto [] r ≡ r
onto_none (Ok r) = refl
onto_none (Err e) = refl

onto_one : (front : List Routine) (a : Routine) (faults : List TypeError) (routines : List Routine) (checks : List Launched) →
    onto (front ++ a ∷ []) (verdict faults (record { routines = routines; checks = checks })) ≡ onto front (verdict faults (record { routines = a ∷ routines; checks = checks }))
onto_one front a [] routines checks = ap (λ rs. let r : RoutedAll = record { routines = rs; checks = checks } in Ok r) (append_assoc front (a ∷ []) routines)
onto_one front a (x ∷ faults) routines checks = refl

one_more : (w : WalkedRoutine) (r : Routed) (front : List Routine) (more : List Launched → WalkedRoutines) → routed w ≡ Ok r
    → onto (front ++ r.routine ∷ []) (routed_all (more r.checks))
    ≡ onto front (routed_all (record { faults = w.faults ++ (more w.checks).faults; routines = w.routine ∷ (more w.checks).routines; checks = (more w.checks).checks }))
one_more w r front more h =
    let none : w.faults ≡ [] = no_faults w.faults _ r h in
    let same = value_is w.faults (record { routine = w.routine; checks = w.checks }) r h in
    rw (← same, none) (onto_one front w.routine (more w.checks).faults (more w.checks).routines (more w.checks).checks)

-- the one at the index joins those in front
pub routines_go : {X : Type 0} (f : List X → List Launched → X → WalkedRoutine) (front : List Routine) (xs : List X) (i : ℕ) (d : X) (checks : List Launched) (r : Routed)
    → i < length xs → d ≡ get_or xs i d → routed (f (take i xs) checks d) ≡ Ok r
    → onto (front ++ r.routine ∷ []) (routed_all (walk_routines f (take (i + 1) xs) r.checks (drop (i + 1) xs)))
    ≡ onto front (routed_all (walk_routines f (take i xs) checks (drop i xs)))
routines_go f front xs i d checks r h is k =
    let here : routed (f (take i xs) checks (get_or xs i d)) ≡ Ok r = ap (λ x. routed (f (take i xs) checks x)) (sym is) ∙ k in
    rw (drop-cons xs i d h, add-one, take-suc xs i d h)
    (one_more (f (take i xs) checks (get_or xs i d)) r front (λ cs. walk_routines f (take i xs ++ get_or xs i d ∷ []) cs (drop (suc i) xs)) here)

-- its fault is that of all
pub routines_fail : {X : Type 0} (f : List X → List Launched → X → WalkedRoutine) (front : List Routine) (xs : List X) (i : ℕ) (d : X) (checks : List Launched) (e : TypeError)
    → i < length xs → d ≡ get_or xs i d → routed (f (take i xs) checks d) ≡ Err e → onto front (routed_all (walk_routines f (take i xs) checks (drop i xs))) ≡ Err e
routines_fail f front xs i d checks e h is k =
    let w = f (take i xs) checks (get_or xs i d) in
    let here : routed w ≡ Err e = ap (λ x. routed (f (take i xs) checks x)) (sym is) ∙ k in
    rw (drop-cons xs i d h) (ap (onto front) (first_of_more w.faults _ _ _ e here))

-- past the last, those in front are all
pub routines_end : {X : Type 0} (f : List X → List Launched → X → WalkedRoutine) (front : List Routine) (xs : List X) (i : ℕ) (checks : List Launched) → length xs ≤ i
    → onto front (routed_all (walk_routines f (take i xs) checks (drop i xs))) ≡ Ok (record { routines = front; checks = checks })
routines_end f front xs i checks h = rw (drop_all i xs h) (ap (λ rs. let r : RoutedAll = record { routines = rs; checks = checks } in Ok r) (append-nil front))

-- where the walk over a body begins
pub begun : (p : Program) (params : List Param) (old : Vec code_launched.Launched Global) (locals : Vec code_local.Local Global) (checks : Vec code_launched.Launched Global)
    → map local_view locals.items ≡ param_locals p params → checks ≡ old
    → reached_of (record { locals = locals; checks = checks }) ≡ record { locals = param_locals p params; checks = map launched_of old.items }
begun p params old locals checks l c = rw (c) (ap (λ ls. let r : Reached = record { locals = ls; checks = map launched_of old.items } in r) l)

-- the body of a procedure or a thread
pub body_is : (p : Program) (params : List Param) (body : List trees.Stmt) (checks : List Launched) (before after : Walk) (done : List Stmt) (kinds : List Kind) (n : ℕ)
    → reached_of before ≡ record { locals = param_locals p params; checks = checks }
    → step_all (map (step p) body) (reached_of before) ≡ Ok (stepped_block_at after done)
    → kinds ≡ map (λ l. known_kind l.kind) after.locals.items → n ≡ length params
    → routed (walked_body p params body checks) ≡ Ok (record { routine = record { params = n; locals = kinds; block = block_of done }; checks = map launched_of after.checks.items })
body_is p params body checks before after done kinds n b h k l =
    let walked = walk_body p params body checks in
    let steps : step_all (map (step p) body) (record { locals = param_locals p params; checks = checks }) ≡ Ok (stepped_block_at after done) = rw b at h in
    let stepped = sym (steps_are_first p body (record { locals = param_locals p params; checks = checks })) ∙ steps in
    let none : walked.faults ≡ [] = no_faults walked.faults (stepped_block_of walked) (stepped_block_at after done) stepped in
    let same = value_is walked.faults (stepped_block_of walked) (stepped_block_at after done) stepped in
    let made = λ (s : SteppedBlock) (ks : List Kind). let r : Routed = record { routine = record { params = length params; locals = ks; block = s.block }; checks = s.reached.checks } in r in
    rw (none, l) (ap (λ (s : SteppedBlock). Ok (made s (map (λ (x : Local). known_kind x.kind) s.reached.locals))) same
    ∙ ap (λ ks. Ok (made (stepped_block_at after done) ks)) (kinds_of_views after.locals.items ∙ sym k))

-- the first fault of the walk over a body is the first of the body
pub body_fails : (p : Program) (params : List Param) (body : List trees.Stmt) (checks : List Launched) (before : Walk) (e : TypeError)
    → reached_of before ≡ record { locals = param_locals p params; checks = checks } → Fails e (step_all (map (step p) body) (reached_of before))
    → Fails e (routed (walked_body p params body checks))
body_fails p params body checks before e b h =
    let r : Reached = record { locals = param_locals p params; checks = checks } in
    let steps : Fails e (step_all (map (step p) body) r) = rw b at h in
    fails_too (step_all (map (step p) body) r) (routed (walked_body p params body checks)) e steps
    (λ k. of_walk (walk_body p params body checks).faults _ _ e (sym (steps_are_first p body r) ∙ k))
  where
    of_walk : {A B : Type 0} (faults : List TypeError) (a : A) (b : B) (e : TypeError) → verdict faults a ≡ Err e → verdict faults b ≡ Err e
    of_walk [] a b e h = cc
    of_walk (x ∷ faults) a b e h = let same : x ≡ e = cc in ap Err same

-- the check statements of the code, for which the limits leave room
pub room_for_first : (checks : Vec code_launched.Launched Global) (a b : Tally) → HasRoomFor checks (joined a b) → HasRoomFor checks a
room_for_first checks a b h = record { few_checks = omega (arith, h.few_checks); few_names = omega (arith, h.few_names) }

-- what the check statements of the first of two parts leave is room for the second
pub room_for_second : (before after : Vec code_launched.Launched Global) (a b : Tally) → HasRoomFor before (joined a b)
    → length after.items ≡ length before.items + a.checks → HasRoomFor after b
room_for_second before after a b h k = record { few_checks = omega (arith, h.few_checks, k); few_names = omega (arith, h.few_names) }

-- a walk over one declaration, and what its body has of what is limited
abbrev pub CountsChecks : {X : Type 0} → (List X → List Launched → X → WalkedRoutine) → (X → Tally) → Type 0
CountsChecks {X} f t = (earlier : List X) (checks : List Launched) (x : X) → length (f earlier checks x).checks ≡ length checks + (t x).checks

-- behind a procedure there are its check statements more
pub procs_count : (p : Program) → CountsChecks (walk_proc p) proc_tally
procs_count p earlier checks q = (walk_all_grows p q.body (record { locals = param_locals p q.params; checks = checks })).checks

-- and behind a thread
pub threads_count : (p : Program) → CountsChecks (walk_thread p) thread_tally
threads_count p earlier checks t = (walk_all_grows p t.body (record { locals = []; checks = checks })).checks

-- one step of a loop over declarations, of which `before` and `after` are the check statements around it
pub walked_goes : {X : Type 0} (f : List X → List Launched → X → WalkedRoutine) (done new : List Body) (b : Body) (xs : List X) (i : ℕ) (d : X)
    (before after : Vec code_launched.Launched Global) (whole : Checked RoutedAll)
    → i < length xs → d ≡ get_or xs i d → routed (f (take i xs) (map launched_of before.items) d) ≡ Ok (routed_at after b) → new ≡ done ++ b ∷ []
    → onto (map routine_of done) (routed_all (walk_routines f (take i xs) (map launched_of before.items) (drop i xs))) ≡ whole
    → onto (map routine_of new) (routed_all (walk_routines f (take (i + 1) xs) (map launched_of after.items) (drop (i + 1) xs))) ≡ whole
walked_goes f done new b xs i d before after whole h is k n inv =
    rw (n, map-append routine_of done (b ∷ [])) (routines_go f (map routine_of done) xs i d (map launched_of before.items) (routed_at after b) h is k ∙ inv)

-- room for all declarations from an index on is room for the one at the index
pub room_here : {X : Type 0} (t : X → Tally) (xs : List X) (i : ℕ) (d : X) (before : Vec code_launched.Launched Global) → i < length xs → d ≡ get_or xs i d
    → HasRoomFor before (all_of (map t (drop i xs))) → HasRoomFor before (t d)
room_here t xs i d before h is room =
    let r : HasRoomFor before (joined (t (get_or xs i d)) (all_of (map t (drop (suc i) xs)))) = rw (drop-cons xs i d h) at room in
    subst (λ x. HasRoomFor before (t x)) (sym is) (room_for_first before (t (get_or xs i d)) (all_of (map t (drop (suc i) xs))) r)

-- behind that one there is room for those after it
pub room_goes : {X : Type 0} (f : List X → List Launched → X → WalkedRoutine) (t : X → Tally) (b : Body) (xs : List X) (i : ℕ) (d : X)
    (before after : Vec code_launched.Launched Global)
    → CountsChecks f t → i < length xs → d ≡ get_or xs i d → routed (f (take i xs) (map launched_of before.items) d) ≡ Ok (routed_at after b)
    → HasRoomFor before (all_of (map t (drop i xs))) → HasRoomFor after (all_of (map t (drop (i + 1) xs)))
room_goes f t b xs i d before after count h is k room =
    let w = f (take i xs) (map launched_of before.items) d in
    let same = value_is w.faults (record { routine = w.routine; checks = w.checks }) (routed_at after b) k in
    let long : length w.checks ≡ length (map launched_of after.items) = ap (λ (r : Routed). length r.checks) same in
    let here : length w.checks ≡ length (map launched_of before.items) + (t d).checks = count (take i xs) (map launched_of before.items) d in
    let both : length after.items ≡ length before.items + (t d).checks =
    omega (arith, long, here, length-map after.items launched_of, length-map before.items launched_of) in
    let r : HasRoomFor before (joined (t (get_or xs i d)) (all_of (map t (drop (suc i) xs)))) = rw (drop-cons xs i d h) at room in
    rw add-one (room_for_second before after (t d) (all_of (map t (drop (suc i) xs)))
    (subst (λ x. HasRoomFor before (joined (t x) (all_of (map t (drop (suc i) xs))))) (sym is) r) both)

-- a fault of one is that of all; `given` are the declarations
pub routed_fails : {X : Type 0} (f : List X → List Launched → X → WalkedRoutine) (front : List Routine) (given xs : List X) (i : ℕ) (d : X) (before start : List Launched) (e : TypeError)
    → i < length given → d ≡ get_or given i d → given ≡ xs → Fails e (routed (f (take i given) before d))
    → onto front (routed_all (walk_routines f (take i given) before (drop i given))) ≡ routed_all (walk_routines f [] start given)
    → Fails e (routed_all (walk_routines f [] start xs))
routed_fails f front given xs i d before start e h is g k inv =
    fails_too (routed (f (take i given) before d)) (routed_all (walk_routines f [] start xs)) e k
    (λ err. ap (λ ys. routed_all (walk_routines f [] start ys)) (sym g) ∙ sym inv ∙ routines_fail f front given i d before e h is err)

-- all of them
pub routed_are : {X : Type 0} (f : List X → List Launched → X → WalkedRoutine) (given xs : List X) (i : ℕ) (done all : List Body)
    (after : Vec code_launched.Launched Global) (start : List Launched) → length given ≤ i → given ≡ xs → all ≡ done
    → onto (map routine_of done) (routed_all (walk_routines f (take i given) (map launched_of after.items) (drop i given))) ≡ routed_all (walk_routines f [] start given)
    → routed_all (walk_routines f [] start xs) ≡ Ok (routed_all_at after all)
routed_are f given xs i done all after start h g a inv =
    rw (a) (ap (λ ys. routed_all (walk_routines f [] start ys)) (sym g) ∙ sym inv ∙ routines_end f (map routine_of done) given i (map launched_of after.items) h)
