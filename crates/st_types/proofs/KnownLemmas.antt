-- A statement adds to the locals and changes none of those before it; so a local stays known from its `var` to the end of its block.
use Rattle.std.proofs.Common.{◌≡◌, ℕ, Bool, true, false, List, [], ◌∷◌, ◌++◌, map, length, take, drop, Option, Some, None}
use Rattle.std.proofs.Common.{refl, ap, sym, ◌∙◌, subst, append-nil, append_assoc}
use Rattle.std.proofs.Math.Seq.{take-append_seam, drop-append_seam}
use Rattle.std.specs.Prelude.{slice_get}
use Rattle.st_events.specs.declared.events.Site.{Site}
use Rattle.st_ast.specs.declared.declarations.Program.{Program}
use Rattle.st_ast.specs.declared.declarations.TypeName.{TypeName}
use Rattle.st_ast.specs.declared.statements.Stmt.{Stmt}
use Rattle.st_ast.specs.declared.statements.Stmt.TheOpen.{Stmt-F}
use Rattle.st_ast.specs.declared.statements.Stmt.TheViews.{roll-Stmt}
use Rattle.st_ast.specs.declared.statements.Stmt.TheVariants as stmts
use Rattle.st_ast.specs.declared.statements.Stmt.TheFolds.{fold-roll-Stmt, ind-Stmt, map-Stmt}
use Rattle.st_ast.specs.declared.statements.Value.{Value}
use Rattle.st_types.specs.Names.{Local, kind_of}
use Rattle.st_types.specs.Statements.{Reached, Walked, walk_all, walk_block, walk_node, walk, forgotten, closed, declare}

-- the locals before are the first of those after
abbrev Extends : List Local → List Local → Type 0
Extends before after = (more : List Local) × (after ≡ before ++ more)

extends_not : (a : List Local) → Extends a a
extends_not a = ([], sym (append-nil a))

extends_twice : (a b c : List Local) → Extends a b → Extends b c → Extends a c
extends_twice a b c h k = (h.0 ++ k.0, k.1 ∙ ap (λ l. l ++ k.0) h.1 ∙ append_assoc a h.0 k.0)

abbrev Keeps : Program → Stmt → Type 0
Keeps p s = (r : Reached) → Extends r.locals (walk p s r).reached.locals

all_keep : (p : Program) (ss : List ((s : Stmt) × Keeps p s)) (r : Reached) → Extends r.locals (walk_all (map (walk p) (map (λ s. s.0) ss)) r).reached.locals
all_keep p [] r = extends_not r.locals
all_keep p (s ∷ ss) r =
    extends_twice r.locals (walk p s.0 r).reached.locals (walk_all (map (walk p) (map (λ s. s.0) ss)) (walk p s.0 r).reached).reached.locals
    (s.1 r) (all_keep p ss (walk p s.0 r).reached)

-- the end of a block changes what the block declared, and nothing else
closed_is : (before more : List Local) → take (length before) (before ++ more) ++ map forgotten (drop (length before) (before ++ more)) ≡ before ++ map forgotten more
closed_is before more = rw (take-append_seam before more, drop-append_seam before more) refl

block_keeps : (walks : List (Reached → Walked)) (r : Reached) → Extends r.locals (walk_all walks r).reached.locals → Extends r.locals (walk_block walks r).reached.locals
block_keeps walks r h =
    (map forgotten h.0, ap (λ ls. take (length r.locals) ls ++ map forgotten (drop (length r.locals) ls)) h.1 ∙ closed_is r.locals h.0)

-- the statements that a layer holds, each with its proof
abbrev bare : (p : Program) → Stmt-F ((s : Stmt) × Keeps p s) → Stmt-F Stmt
bare p y = map-Stmt ((s : Stmt) × Keeps p s) Stmt (λ s. s.0) y

layer_keeps : (p : Program) (y : Stmt-F ((s : Stmt) × Keeps p s)) (r : Reached) →
    Extends r.locals (walk_node p (map-Stmt Stmt (Reached → Walked) (walk p) (bare p y)) r).reached.locals
layer_keeps p (Stmt-F.Var name name_site kind value site) r = (record { name = name; kind = kind_of p kind; is_known = true } ∷ [], refl)
layer_keeps p (Stmt-F.Assign name value site) r = extends_not r.locals
layer_keeps p (Stmt-F.Put place value site) r = extends_not r.locals
layer_keeps p (Stmt-F.If cond first None site) r =
    let yes = walk_block (map (walk p) (map (λ s. s.0) first)) r in
    extends_twice r.locals yes.reached.locals (walk_block [] yes.reached).reached.locals
    (block_keeps (map (walk p) (map (λ s. s.0) first)) r (all_keep p first r)) (block_keeps [] yes.reached (extends_not yes.reached.locals))
layer_keeps p (Stmt-F.If cond first (Some other) site) r =
    let yes = walk_block (map (walk p) (map (λ s. s.0) first)) r in
    extends_twice r.locals yes.reached.locals (walk_block (map (walk p) (map (λ s. s.0) other)) yes.reached).reached.locals
    (block_keeps (map (walk p) (map (λ s. s.0) first)) r (all_keep p first r))
    (block_keeps (map (walk p) (map (λ s. s.0) other)) yes.reached (all_keep p other yes.reached))
layer_keeps p (Stmt-F.While cond body site) r = block_keeps (map (walk p) (map (λ s. s.0) body)) r (all_keep p body r)
layer_keeps p (Stmt-F.Call name args site) r = extends_not r.locals
layer_keeps p (Stmt-F.Check body site) r = extends_not r.locals

-- a statement
walk_keeps : (p : Program) (s : Stmt) → Keeps p s
walk_keeps p = ind-Stmt (Keeps p) (λ x y keeps.
    subst (λ z. Keeps p (roll-Stmt z)) keeps
    (λ r. subst (λ (f : Reached → Walked). Extends r.locals (f r).reached.locals) (sym (fold-roll-Stmt (Reached → Walked) (walk_node p) (bare p y))) (layer_keeps p y r)))

-- statements, one after another
walk_all_keeps : (p : Program) (ss : List Stmt) (r : Reached) → Extends r.locals (walk_all (map (walk p) ss) r).reached.locals
walk_all_keeps p [] r = extends_not r.locals
walk_all_keeps p (s ∷ ss) r =
    extends_twice r.locals (walk p s r).reached.locals (walk_all (map (walk p) ss) (walk p s r).reached).reached.locals
    (walk_keeps p s r) (walk_all_keeps p ss (walk p s r).reached)

-- what stands behind as many as there are before it
slice_get_seam : (before : List Local) (l : Local) (more : List Local) → slice_get (before ++ l ∷ more) (length before) ≡ Some l
slice_get_seam [] l more = refl
slice_get_seam (b ∷ before) l more = slice_get_seam before l more

-- what a `var` declares
abbrev declared : Program → List ℕ → TypeName → Local
declared p name kind = record { name = name; kind = kind_of p kind; is_known = true }

var_declares : (p : Program) (name : List ℕ) (name_site : Site) (kind : TypeName) (value : Value) (site : Site) (r : Reached)
    → (walk p (stmts.Var name name_site kind value site) r).reached.locals ≡ r.locals ++ declared p name kind ∷ []
var_declares p name name_site kind value site r =
    ap (λ (s : Stmt). (walk p s r).reached.locals) (sym (stmts.rolls-Var name name_site kind value site))
    ∙ ap (λ (f : Reached → Walked). (f r).reached.locals) (fold-roll-Stmt (Reached → Walked) (walk_node p) (Stmt-F.Var name name_site kind value site))

-- behind the `var`, and the statements after it, it is the next of the locals
behind_var : (p : Program) (name : List ℕ) (name_site : Site) (kind : TypeName) (value : Value) (site : Site) (more : List Stmt) (r : Reached)
    → (later : List Local) × ((walk_all (map (walk p) (stmts.Var name name_site kind value site ∷ more)) r).reached.locals ≡ r.locals ++ declared p name kind ∷ later)
behind_var p name name_site kind value site more r =
    let first = walk p (stmts.Var name name_site kind value site) r in
    let rest = walk_all_keeps p more first.reached in
    (rest.0, rest.1 ∙ ap (λ ls. ls ++ rest.0) (var_declares p name name_site kind value site r) ∙ append_assoc r.locals (declared p name kind ∷ []) rest.0)

-- it is known there
pub known_to_the_end : (p : Program) (name : List ℕ) (name_site : Site) (kind : TypeName) (value : Value) (site : Site) (more : List Stmt) (r : Reached)
    → slice_get (walk_all (map (walk p) (stmts.Var name name_site kind value site ∷ more)) r).reached.locals (length r.locals) ≡ Some (declared p name kind)
known_to_the_end p name name_site kind value site more r =
    let b = behind_var p name name_site kind value site more r in
    ap (λ ls. slice_get ls (length r.locals)) b.1 ∙ slice_get_seam r.locals (declared p name kind) b.0

-- and no more behind the end of its block
pub known_no_further : (p : Program) (name : List ℕ) (name_site : Site) (kind : TypeName) (value : Value) (site : Site) (more : List Stmt) (r : Reached)
    → slice_get (walk_block (map (walk p) (stmts.Var name name_site kind value site ∷ more)) r).reached.locals (length r.locals)
    ≡ Some (record { name = name; kind = kind_of p kind; is_known = false })
known_no_further p name name_site kind value site more r =
    let b = behind_var p name name_site kind value site more r in
    ap (λ ls. slice_get (take (length r.locals) ls ++ map forgotten (drop (length r.locals) ls)) (length r.locals)) b.1
    ∙ ap (λ ls. slice_get ls (length r.locals)) (closed_is r.locals (declared p name kind ∷ b.0))
    ∙ slice_get_seam r.locals (forgotten (declared p name kind)) (map forgotten b.0)
