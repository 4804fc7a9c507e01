-- What statements have of what is limited, and how far the walk is behind them.
use Rattle.std.proofs.Common.{◌≡◌, ℕ, ◌+◌, ◌<◌, List, [], ◌∷◌, ◌++◌, map, length, take, drop, get_or, Option, Some, None}
use Rattle.std.proofs.Common.{refl, ap, sym, ◌∙◌, subst, arith, add-one, drop-cons, length-append}
use Rattle.std.proofs.lemmas.List.{length-map, take-append-drop}
use Rattle.std.specs.Prelude.{option_map}
use Rattle.st_events.specs.declared.events.Site.{Site}
use Rattle.st_ast.specs.declared.declarations.Program.{Program}
use Rattle.st_ast.specs.declared.expressions.Expr.{Expr}
use Rattle.st_ast.specs.declared.statements.Stmt.{Stmt}
use Rattle.st_ast.specs.declared.statements.Stmt.TheOpen.{Stmt-F}
use Rattle.st_ast.specs.declared.statements.Stmt.TheViews.{roll-Stmt}
use Rattle.st_ast.specs.declared.statements.Stmt.TheVariants as stmts
use Rattle.st_ast.specs.declared.statements.Stmt.TheFolds.{fold-roll-Stmt, ind-Stmt, map-Stmt}
use Rattle.st_types.specs.Names.{Local}
use Rattle.st_types.specs.Statements.{Reached, Walked, walk_all, walk_block, walk_node, walk, forgotten}
use Rattle.st_types.specs.Tallies.{Tally, empty, joined, all_of, tally, tally_node, tally_all, of_other}

-- the walk has so many more locals and check statements behind it
pub record HasGrown (before after : Reached) (t : Tally) : Type 0 where
  pub locals : length after.locals ≡ length before.locals + t.locals
  pub checks : length after.checks ≡ length before.checks + t.checks

abbrev Grows : Program → Stmt → Type 0
Grows p s = (r : Reached) → HasGrown r (walk p s r).reached (tally s)

all_grow : (p : Program) (ss : List ((s : Stmt) × Grows p s)) (r : Reached) →
    HasGrown r (walk_all (map (walk p) (map (λ s. s.0) ss)) r).reached (all_of (map tally (map (λ s. s.0) ss)))
all_grow p [] r = record { locals = omega arith; checks = omega arith }
all_grow p (s ∷ ss) r =
    let one = s.1 r in
    let more = all_grow p ss (walk p s.0 r).reached in
    record { locals = omega (arith, one.locals, more.locals); checks = omega (arith, one.checks, more.checks) }

-- at the end of a block there are as many locals
closed_length : (before : ℕ) (locals : List Local) → length (take before locals ++ map forgotten (drop before locals)) ≡ length locals
closed_length before locals =
    simp (length-append, length-map) (sym (length-append (take before locals) (drop before locals)) ∙ ap length (take-append-drop before locals))

-- the end of a block takes no local and no check statement away
pub block_grows : (walks : List (Reached → Walked)) (r : Reached) (t : Tally) → HasGrown r (walk_all walks r).reached t → HasGrown r (walk_block walks r).reached t
block_grows walks r t h = record { locals = closed_length (length r.locals) (walk_all walks r).reached.locals ∙ h.locals; checks = h.checks }

joined_grow : (a b c : Reached) (s t : Tally) → HasGrown a b s → HasGrown b c t → HasGrown a c (joined s t)
joined_grow a b c s t h k = record { locals = omega (arith, h.locals, k.locals); checks = omega (arith, h.checks, k.checks) }

grows_not : (r : Reached) → HasGrown r r empty
grows_not r = record { locals = omega arith; checks = omega arith }

-- the statements that a layer holds, each with its proof
abbrev bare : (p : Program) → Stmt-F ((s : Stmt) × Grows p s) → Stmt-F Stmt
bare p y = map-Stmt ((s : Stmt) × Grows p s) Stmt (λ s. s.0) y

layer_grows : (p : Program) (y : Stmt-F ((s : Stmt) × Grows p s)) (r : Reached) →
    HasGrown r (walk_node p (map-Stmt Stmt (Reached → Walked) (walk p) (bare p y)) r).reached (tally_node (map-Stmt Stmt Tally tally (bare p y)))
layer_grows p (Stmt-F.Var name name_site kind value site) r =
    record { locals = simp length-append; checks = omega arith }
layer_grows p (Stmt-F.Assign name value site) r = grows_not r
layer_grows p (Stmt-F.Put place value site) r = grows_not r
layer_grows p (Stmt-F.If cond first None site) r =
    let yes = walk_block (map (walk p) (map (λ s. s.0) first)) r in
    joined_grow r yes.reached (walk_block [] yes.reached).reached _ empty
    (block_grows (map (walk p) (map (λ s. s.0) first)) r _ (all_grow p first r)) (block_grows [] yes.reached empty (grows_not yes.reached))
layer_grows p (Stmt-F.If cond first (Some other) site) r =
    let yes = walk_block (map (walk p) (map (λ s. s.0) first)) r in
    joined_grow r yes.reached (walk_block (map (walk p) (map (λ s. s.0) other)) yes.reached).reached _ _
    (block_grows (map (walk p) (map (λ s. s.0) first)) r _ (all_grow p first r))
    (block_grows (map (walk p) (map (λ s. s.0) other)) yes.reached _ (all_grow p other yes.reached))
layer_grows p (Stmt-F.While cond body site) r = block_grows (map (walk p) (map (λ s. s.0) body)) r _ (all_grow p body r)
layer_grows p (Stmt-F.Call name args site) r = grows_not r
layer_grows p (Stmt-F.Check body site) r =
    record { locals = omega arith; checks = simp length-append }

-- a statement
pub walk_grows : (p : Program) (s : Stmt) → Grows p s
walk_grows p = ind-Stmt (Grows p) (λ x y grows.
    subst (λ z. Grows p (roll-Stmt z)) grows
    (λ r. subst (λ (f : Reached → Walked). HasGrown r (f r).reached (tally (roll-Stmt (bare p y)))) (sym (fold-roll-Stmt (Reached → Walked) (walk_node p) (bare p y)))
    (subst (λ t. HasGrown r (walk_node p (map-Stmt Stmt (Reached → Walked) (walk p) (bare p y)) r).reached t) (sym (fold-roll-Stmt Tally tally_node (bare p y)))
    (layer_grows p y r))))

-- statements, one after another
pub walk_all_grows : (p : Program) (ss : List Stmt) (r : Reached) → HasGrown r (walk_all (map (walk p) ss) r).reached (tally_all ss)
walk_all_grows p [] r = grows_not r
walk_all_grows p (s ∷ ss) r = joined_grow r (walk p s r).reached _ (tally s) (tally_all ss) (walk_grows p s r) (walk_all_grows p ss (walk p s r).reached)

-- what the tally of a statement is, where it holds others
pub tally_of_if : (cond : Expr) (first : List Stmt) (other : Option (List Stmt)) (site : Site) →
    tally (stmts.If cond first other site) ≡ joined (tally_all first) (of_other (option_map (map tally) other))
tally_of_if cond first None site = ap tally (sym (stmts.rolls-If cond first None site)) ∙ fold-roll-Stmt Tally tally_node (Stmt-F.If cond first None site)
tally_of_if cond first (Some other) site =
    ap tally (sym (stmts.rolls-If cond first (Some other) site)) ∙ fold-roll-Stmt Tally tally_node (Stmt-F.If cond first (Some other) site)

-- a `while` has what its body has
pub tally_of_while : (cond : Expr) (body : List Stmt) (site : Site) → tally (stmts.While cond body site) ≡ tally_all body
tally_of_while cond body site = ap tally (sym (stmts.rolls-While cond body site)) ∙ fold-roll-Stmt Tally tally_node (Stmt-F.While cond body site)

-- the statements that are left, and the one at the index
pub tally_goes : (ss : List Stmt) (i : ℕ) (d : Stmt) → i < length ss → tally_all (drop i ss) ≡ joined (tally (get_or ss i d)) (tally_all (drop (i + 1) ss))
tally_goes ss i d h = rw (drop-cons ss i d h, add-one) refl
