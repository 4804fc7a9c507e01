-- What a program has too many of. A program is seen as a list of items in the order of the text.
use Rattle.std.specs.Prelude.{ℕ, ◌+◌, Bool, if◌then◌else◌, nat_lt, List, [], ◌∷◌, ◌++◌, replicate, slice_index, slice_set, Option, Some, None}
use Rattle.std.specs.List.{flat_map, list_any}
use Rattle.std.specs.Str.{bytes_eq}
use Rattle.st_events.specs.declared.events.Site.{Site}
use Rattle.st_events.specs.declared.limits.TheConstants.{MOST_MUTATORS}
use Rattle.st_events.specs.declared.shapes.TheConstants.{MOST_FIELDS, MOST_CHECKS, MOST_ARGS}
use Rattle.st_resolved.specs.declared.limits.TheConstants.{MOST_PREDS, MOST_PROCS, MOST_PARAMS, MOST_LOCALS}
use Rattle.st_ast.specs.declared.declarations.Class.{Class}
use Rattle.st_ast.specs.declared.declarations.Field.{Field}
use Rattle.st_ast.specs.declared.declarations.Param.{Param}
use Rattle.st_ast.specs.declared.declarations.Pred.{Pred}
use Rattle.st_ast.specs.declared.declarations.Proc.{Proc}
use Rattle.st_ast.specs.declared.declarations.Program.{Program}
use Rattle.st_ast.specs.declared.declarations.Thread.{Thread}
use Rattle.st_ast.specs.declared.expressions.Expr.{Expr, fold-Expr}
use Rattle.st_ast.specs.declared.expressions.Expr.TheOpen.{Expr-F}
use Rattle.st_ast.specs.declared.statements.Stmt.{Stmt, fold-Stmt}
use Rattle.st_ast.specs.declared.statements.Stmt.TheOpen.{Stmt-F}
use Rattle.st_ast.specs.declared.limits.TheConstants.{MOST_SOURCE_CLASSES}
use Rattle.st_grammar.specs.declared.counts.What.{What}
use Rattle.st_grammar.specs.declared.counts.What.TheVariants as what
use Rattle.st_grammar.specs.Firsts as firsts
use Rattle.st_grammar.specs.Firsts.{first_from}
use Rattle.st_grammar.specs.declared.counts.Item.{Item}
use Rattle.st_grammar.specs.declared.counts.Item.TheVariants as item

-- the most that there may be
abbrev pub most : What → ℕ
most what.Classes = MOST_SOURCE_CLASSES
most what.Fields = MOST_FIELDS
most what.Preds = MOST_PREDS
most what.Procs = MOST_PROCS
most what.Threads = MOST_MUTATORS
most what.Params = MOST_PARAMS
most what.Locals = MOST_LOCALS
most what.CheckArgs = MOST_ARGS
most what.Checks = MOST_CHECKS

-- a name of a local in an expression, with its place
pub record Mention : Type 0 where
  pub name : List ℕ
  pub site : Site

-- lists one after another, as one list
abbrev pub all_of : {A : Type 0} → List (List A) → List A
all_of = flat_map (λ xs. xs)

-- the mentions of an expression from those of its parts: a local is one itself, every other node has those of its parts from left to right
abbrev pub mentions_step : Expr-F (List Mention) → List Mention
mentions_step (Expr-F.Number value site) = []
mentions_step (Expr-F.Truth value site) = []
mentions_step (Expr-F.Null site) = []
mentions_step (Expr-F.Local name site) = record { name = name; site = site } ∷ []
mentions_step (Expr-F.Call name args site) = all_of args
mentions_step (Expr-F.Shared name site) = []
mentions_step (Expr-F.Field object name site) = object
mentions_step (Expr-F.Paren inner site) = inner
mentions_step (Expr-F.Not inner site) = inner
mentions_step (Expr-F.Minus inner site) = inner
mentions_step (Expr-F.Binary op left right site) = left ++ right
mentions_step (Expr-F.Cond test left right site) = test ++ left ++ right

-- the names of locals in an expression, from left to right
unfoldable pub mentions : Expr → List Mention
mentions e = fold-Expr (List Mention) mentions_step e

-- one of the mentions has this name
abbrev pub is_named : List Mention → List ℕ → Bool
is_named mentions name = list_any (λ m. bytes_eq m.name name) mentions

-- a mention is an argument of the check where none before it has its name
abbrev pub argument_item : List Mention → Mention → List Item
argument_item before m = if is_named before m.name then [] else item.One what.CheckArgs m.site ∷ []

-- the first mentions of all names, where others stand before
abbrev pub argument_items : List Mention → List Mention → List Item
argument_items before [] = []
argument_items before (m ∷ ms) = argument_item before m ++ argument_items (before ++ m ∷ []) ms

-- a check statement and its arguments
unfoldable pub check_items : Expr → Site → List Item
check_items body site = item.One what.Checks site ∷ item.Anew what.CheckArgs ∷ argument_items [] (mentions body)

-- the items of an `else` block, or none where there is no `else`
abbrev pub other_items : Option (List (List Item)) → List Item
other_items None = []
other_items (Some lists) = all_of lists

-- the items of a statement from those of its blocks: a `var` is a local, a `check` counts with its arguments, and blocks hand theirs on
abbrev pub stmt_step : Stmt-F (List Item) → List Item
stmt_step (Stmt-F.Var name name_site kind value site) = item.One what.Locals name_site ∷ []
stmt_step (Stmt-F.Assign name value site) = []
stmt_step (Stmt-F.Put place value site) = []
stmt_step (Stmt-F.If cond body other site) = all_of body ++ other_items other
stmt_step (Stmt-F.While cond body site) = all_of body
stmt_step (Stmt-F.Call name args site) = []
stmt_step (Stmt-F.Check body site) = check_items body site

-- a statement with the blocks in it
unfoldable pub stmt_items : Stmt → List Item
stmt_items s = fold-Stmt (List Item) stmt_step s

-- a field, and likewise a shared variable, is one item
abbrev pub field_items : Field → List Item
field_items field = item.One what.Fields field.site ∷ []

-- a class, after which fields count anew, with its fields
abbrev pub class_items : Class → List Item
class_items class = item.One what.Classes class.site ∷ item.Anew what.Fields ∷ flat_map field_items class.fields

-- a parameter is a local, too
abbrev pub param_items : Param → List Item
param_items param = item.One what.Params param.site ∷ item.One what.Locals param.site ∷ []

-- what begins a body with parameters
abbrev pub head_items : List Param → List Item
head_items params = item.Anew what.Params ∷ item.Anew what.Locals ∷ flat_map param_items params

-- a predicate with its parameters; its body has nothing that counts
abbrev pub pred_items : Pred → List Item
pred_items pred = item.One what.Preds pred.site ∷ head_items pred.params

-- a procedure with its parameters and the statements of its body
abbrev pub proc_items : Proc → List Item
proc_items proc = (item.One what.Procs proc.site ∷ head_items proc.params) ++ flat_map stmt_items proc.body

-- a thread, which has no parameters, with the statements of its body
abbrev pub thread_items : Thread → List Item
thread_items thread = item.One what.Threads thread.site ∷ item.Anew what.Locals ∷ flat_map stmt_items thread.body

-- what is counted in a program, in the order of the text
unfoldable pub items_of : Program → List Item
items_of p =
    flat_map class_items p.classes ++ (item.Anew what.Fields ∷ flat_map field_items p.shared)
    ++ flat_map pred_items p.preds ++ flat_map proc_items p.procs ++ flat_map thread_items p.threads

-- the place of a count among the counts
abbrev pub slot : What → ℕ
slot what.Classes = 0
slot what.Fields = 1
slot what.Preds = 2
slot what.Procs = 3
slot what.Threads = 4
slot what.Params = 5
slot what.Locals = 6
slot what.CheckArgs = 7
slot what.Checks = 8

-- the counts after one item more, where these stood before
abbrev pub counted : List ℕ → Item → List ℕ
counted counts (item.Anew what) = slice_set counts (slot what) 0
counted counts (item.One what site) = slice_set counts (slot what) (slice_index counts (slot what) + 1)

-- all counts are 0 at the start
abbrev pub at_start : List ℕ
at_start = replicate 9 0

-- one item more is in excess where as many as there may be stand before, and it is told with its place
abbrev pub excess : List ℕ → Item → Option (What × Site)
excess counts (item.Anew what) = None
excess counts (item.One what site) = if nat_lt (slice_index counts (slot what)) (most what) then None else Some (what, site)

-- nothing is above its limit
abbrev pub IsWithinCounts : Program → Type 0
IsWithinCounts p = firsts.AreWithin excess counted at_start (items_of p)

-- the first that is above its limit, and where it stands
abbrev pub IsFirstExcess : Program → What → Site → Type 0
IsFirstExcess p what at = firsts.IsFirst excess counted at_start (items_of p) (what, at)

-- the first of these items that is above its limit, by going over them once
unfoldable pub first_excess : List Item → Option (What × Site)
first_excess items = first_from excess counted at_start items
