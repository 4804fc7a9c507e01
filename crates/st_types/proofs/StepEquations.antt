-- What a statement that holds others comes to.
use Rattle.std.proofs.Common.{◌≡◌, ℕ, List, [], map, length, Option, Some, None, Ok, refl, ap, sym, ◌∙◌}
use Rattle.std.specs.Prelude.{option_map}
use Rattle.st_events.specs.declared.events.Site.{Site}
use Rattle.st_ast.specs.declared.declarations.Program.{Program}
use Rattle.st_ast.specs.declared.expressions.Expr.{Expr}
use Rattle.st_ast.specs.declared.statements.Stmt.{Stmt}
use Rattle.st_ast.specs.declared.statements.Stmt.TheVariants as stmts
use Rattle.st_ast.specs.declared.statements.Stmt.TheOpen.{Stmt-F}
use Rattle.st_ast.specs.declared.statements.Stmt.TheFolds.{fold-roll-Stmt}
use Rattle.std.proofs.Common.{Err}
use Rattle.st_resolved.specs.Terms.{Command, an_if, no_commands}
use Rattle.st_resolved.specs.Views.{command_of, block_of}
use Rattle.st_resolved.specs.declared.statements.Stmt as code
use Rattle.st_types.specs.declared.errors.TypeError.TheVariants.{Memory, UnknownName, Twice, Mismatch, WrongCount, NotPure, NotHere}
use Rattle.st_types.specs.declared.walks.Walk.{Walk}
use Rattle.st_types.specs.Checked.{Checked, Gives}
use Rattle.std.proofs.Common.{true, subst}
use Rattle.std.proofs.lemmas.List.{length-map}
use Rattle.st_events.specs.declared.shapes.Kind.{Kind}
use Rattle.st_resolved.specs.Terms.{Term, a_launch}
use Rattle.st_types.specs.declared.scopes.Local as code_local
use Rattle.st_types.specs.Names.{Local}
use Rattle.st_types.specs.Nodes.{Seen}
use Rattle.st_types.specs.Scopes.{ScopeView, local_view}
use Rattle.st_types.specs.Statements.{Reached, plain_scope, check_scope, args_of_check, locals_at, known_kind}
use Rattle.st_types.specs.Stepwise.{Stepped, step, step_block, step_node, step_check, with_check, typed_condition}
use Rattle.st_types.specs.Walks.{reached_of, stepped_at, stepped_block_at, launched_of}
use Rattle.st_types.proofs.GrowthLemmas.{nothing_closed}
use Rattle.st_types.proofs.ScopeLemmas.{kinds_of_views}

-- a step over an `if` is that of its layer, over the steps of its blocks
pub step_of_if : (p : Program) (cond : Expr) (first : List Stmt) (other : Option (List Stmt)) (site : Site) (r : Reached) →
    step p (stmts.If cond first other site) r ≡ step_node p (Stmt-F.If cond (map (step p) first) (option_map (map (step p)) other) site) r
step_of_if p cond first None site r =
    ap (λ s. step p s r) (sym (stmts.rolls-If cond first None site))
    ∙ ap (λ (f : Reached → Checked Stepped). f r) (fold-roll-Stmt (Reached → Checked Stepped) (step_node p) (Stmt-F.If cond first None site))
step_of_if p cond first (Some other) site r =
    ap (λ s. step p s r) (sym (stmts.rolls-If cond first (Some other) site))
    ∙ ap (λ (f : Reached → Checked Stepped). f r) (fold-roll-Stmt (Reached → Checked Stepped) (step_node p) (Stmt-F.If cond first (Some other) site))

-- a step over a `while` is that of its layer, over the steps of its body
pub step_of_while : (p : Program) (cond : Expr) (body : List Stmt) (site : Site) (r : Reached) →
    step p (stmts.While cond body site) r ≡ step_node p (Stmt-F.While cond (map (step p) body) site) r
step_of_while p cond body site r =
    ap (λ s. step p s r) (sym (stmts.rolls-While cond body site))
    ∙ ap (λ (f : Reached → Checked Stepped). f r) (fold-roll-Stmt (Reached → Checked Stepped) (step_node p) (Stmt-F.While cond body site))

-- a statement of the code that comes to this command, behind which the walk is there
stepped_gives : (w : Walk) (result : Checked code.Stmt) (command : Command) → Gives command_of result (Ok command)
    → Gives (stepped_at w) result (Ok (record { command = command; reached = reached_of w }))
stepped_gives w (Ok s) command h = let same : command ≡ command_of s = cc in ap (λ c. let t : Stepped = record { command = c; reached = reached_of w } in Ok t) same
stepped_gives w (Err Memory) command h = tt
stepped_gives w (Err (UnknownName at)) command h = cc
stepped_gives w (Err (Twice at)) command h = cc
stepped_gives w (Err (Mismatch at wanted found)) command h = cc
stepped_gives w (Err (WrongCount at)) command h = cc
stepped_gives w (Err (NotPure at)) command h = cc
stepped_gives w (Err (NotHere at)) command h = cc

-- an `if` without `else`
pub if_without_else : (p : Program) (cond : Expr) (first given : List Stmt) (site : Site) (before after : Walk) (s : ScopeView) (seen : Seen) (done others : List code.Stmt)
    (result : Checked code.Stmt)
    → s ≡ plain_scope p (reached_of before).locals → typed_condition s cond ≡ Ok seen
    → given ≡ first → step_block (map (step p) given) (reached_of before) ≡ Ok (stepped_block_at after done)
    → others ≡ [] → Gives command_of result (Ok (an_if seen.term (block_of done) (block_of others)))
    → Gives (stepped_at after) result (step p (stmts.If cond first None site) (reached_of before))
if_without_else p cond first given site before after s seen done others result v h g k o e =
    let condition : typed_condition (plain_scope p (reached_of before).locals) cond ≡ Ok seen = ap (λ x. typed_condition x cond) (sym v) ∙ h in
    let block : step_block (map (step p) first) (reached_of before) ≡ Ok (stepped_block_at after done) = ap (λ ss. step_block (map (step p) ss) (reached_of before)) (sym g) ∙ k in
    let command : Gives command_of result (Ok (an_if seen.term (block_of done) no_commands)) =
    subst (λ ss. Gives command_of result (Ok (an_if seen.term (block_of done) (block_of ss)))) o e in
    rw (step_of_if p cond first None site (reached_of before), condition, block, nothing_closed (reached_of after))
    (stepped_gives after result (an_if seen.term (block_of done) no_commands) command)

-- a check statement: `at_hand` are the locals that it was looked up in, `given` and `again` those that were found
pub check_is : (p : Program) (before : Walk) (body : Expr) (at : Site) (at_hand locals given again : List code_local.Local) (args given_args : List ℕ) (seen : Seen) (term : Term)
    (kinds : List Kind) (done : Stepped)
    → at_hand ≡ before.locals.items
    → map local_view locals ≡ locals_at (map local_view at_hand) (args_of_check (map local_view at_hand) body)
    → args ≡ args_of_check (map local_view at_hand) body → given_args ≡ args → given ≡ locals → again ≡ locals
    → typed_condition (record { program = p; locals = map local_view given; may_call = true }) body ≡ Ok seen
    → term ≡ seen.term → kinds ≡ map (λ l. known_kind l.kind) again
    → done ≡ record { command = a_launch (length before.checks.items); reached = with_check (reached_of before) (record { args = given_args; body = term; at = at }) kinds }
    → step_check p (reached_of before) body at ≡ Ok done
check_is p before body at at_hand locals given again args given_args seen term kinds done w l a ga g g2 h t k d =
    let r = reached_of before in
    let found : map local_view locals ≡ locals_at r.locals (args_of_check r.locals body) = rw w at l in
    let condition : typed_condition (check_scope p r.locals body) body ≡ Ok seen =
    ap (λ ls. typed_condition (record { program = p; locals = ls; may_call = true }) body) (sym (ap (map local_view) g ∙ found)) ∙ h in
    let numbers : args_of_check r.locals body ≡ given_args = sym (ga ∙ (rw w at a)) in
    let kinds_are : map (λ (x : Local). known_kind x.kind) (locals_at r.locals (args_of_check r.locals body)) ≡ kinds =
    sym (k ∙ (ap (map (λ (x : code_local.Local). known_kind x.kind)) g2 ∙ (sym (kinds_of_views locals) ∙ ap (map (λ (x : Local). known_kind x.kind)) found))) in
    let count : length r.checks ≡ length before.checks.items = length-map before.checks.items launched_of in
    rw (condition, kinds_are, numbers, count, d, t) refl
