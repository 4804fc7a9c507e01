-- The grammar as a chart: what each part may be, told by the next token; sample words of each part, and what may stand after it.
use Rattle.std.proofs.Common.{◌≡◌, pos, true, List, [], ◌∷◌, map, Option, Some, None, refl}
use Rattle.st_events.specs.declared.events.Site.{Site}
use Rattle.st_grammar.specs.declared.sorts.Sort.{Sort}
use Rattle.st_grammar.specs.declared.sorts.Sort.TheVariants as sort
use Rattle.st_grammar.specs.Sorts.{same_sort}
use Rattle.st_grammar.specs.Terminals.{Terminal, next_sort}
use Rattle.st_charts.specs.Charts.{Symbol, token, part, Told, Choices, Grammar}
use Rattle.st_grammar.proofs.SortLemmas.{sort_means, sort_self}
use Rattle.st_charts.specs.Checks.{Samples, is_part_checked, IsChecked}

-- the parts of a source; a tail is what may follow, or nothing
pub data Part : Type 0 where
  program : Part
  classes : Part
  shared_block : Part
  preds : Part
  procs : Part
  threads : Part
  class : Part
  fields : Part
  field : Part
  type : Part
  pred : Part
  params : Part
  params_tail : Part
  param : Part
  proc : Part
  thread : Part
  block : Part
  stmts : Part
  stmt : Part
  after_name : Part
  else_tail : Part
  assigned : Part
  value : Part
  place : Part
  field_tail : Part
  args : Part
  args_tail : Part
  expr : Part
  cond_tail : Part
  or : Part
  or_tail : Part
  and : Part
  and_tail : Part
  cmp : Part
  cmp_tail : Part
  sum : Part
  sum_tail : Part
  term : Part
  term_tail : Part
  unary : Part
  postfix : Part
  primary : Part
  call_tail : Part

-- what a rule of the chart asks for, one after another
abbrev pub Symbols : Type 0
Symbols = List (Symbol Sort Part)

-- a choice that a sort tells
abbrev pub at_sort : Sort → Symbols → Told Sort Part
at_sort k ss = record { sorts = k ∷ []; symbols = ss }

-- one choice alone; choices told; choices told, or nothing; choices told, or another
abbrev pub only : Symbols → Choices Sort Part
only ss = record { told = []; other = Some ss }

-- one of these, as the next token tells; at any other token the part goes wrong
abbrev pub told : List (Told Sort Part) → Choices Sort Part
told rows = record { told = rows; other = None }

-- one of these, or this one at any other token
abbrev pub or_else : List (Told Sort Part) → Symbols → Choices Sort Part
or_else rows ss = record { told = rows; other = Some ss }

-- one of these, or nothing at any other token
abbrev pub or_nothing : List (Told Sort Part) → Choices Sort Part
or_nothing rows = or_else rows []

-- an operator of a chain, another operand, and more of the chain
abbrev pub after_operator : Part → Part → Sort → Told Sort Part
after_operator operand tail s = at_sort s (token s ∷ part operand ∷ part tail ∷ [])

-- the sorts with which a statement of a block is looked for
abbrev pub in_blocks : List Sort
in_blocks =
    sort.Name ∷ sort.Number ∷ sort.Class ∷ sort.Shared ∷ sort.Pred ∷ sort.Proc ∷ sort.Thread ∷ sort.Var ∷ sort.If ∷ sort.Else ∷ sort.While
    ∷ sort.Check ∷ sort.New ∷ sort.Cas ∷ sort.Null ∷ sort.True ∷ sort.False ∷ sort.Int ∷ sort.Bool ∷ sort.OpenBrace ∷ sort.OpenParen ∷ sort.CloseParen
    ∷ sort.Semicolon ∷ sort.Colon ∷ sort.Comma ∷ sort.Dot ∷ sort.Assign ∷ sort.Equal ∷ sort.NotEqual ∷ sort.Less ∷ sort.LessEq ∷ sort.Greater ∷ sort.GreaterEq
    ∷ sort.Plus ∷ sort.Minus ∷ sort.Star ∷ sort.Slash ∷ sort.Percent ∷ sort.Not ∷ sort.Both ∷ sort.Either ∷ sort.Question ∷ []

-- what each part may be
abbrev pub rules : Part → Choices Sort Part
rules program = only (part classes ∷ part shared_block ∷ part preds ∷ part procs ∷ part threads ∷ [])
rules classes = or_nothing (at_sort sort.Class (part class ∷ part classes ∷ []) ∷ [])
rules shared_block = or_nothing (at_sort sort.Shared (token sort.Shared ∷ token sort.OpenBrace ∷ part fields ∷ token sort.CloseBrace ∷ []) ∷ [])
rules preds = or_nothing (at_sort sort.Pred (part pred ∷ part preds ∷ []) ∷ [])
rules procs = or_nothing (at_sort sort.Proc (part proc ∷ part procs ∷ []) ∷ [])
rules threads = or_nothing (at_sort sort.Thread (part thread ∷ part threads ∷ []) ∷ [])
rules class = only (token sort.Class ∷ token sort.Name ∷ token sort.OpenBrace ∷ part fields ∷ token sort.CloseBrace ∷ [])
rules fields = or_nothing (at_sort sort.Name (part field ∷ part fields ∷ []) ∷ [])
rules field = only (token sort.Name ∷ token sort.Colon ∷ part type ∷ token sort.Semicolon ∷ [])
rules type = told (at_sort sort.Int (token sort.Int ∷ []) ∷ at_sort sort.Bool (token sort.Bool ∷ []) ∷ at_sort sort.Name (token sort.Name ∷ []) ∷ [])
rules pred = only
    (token sort.Pred ∷ token sort.Name ∷ token sort.OpenParen ∷ part params ∷ token sort.CloseParen
    ∷ token sort.Colon ∷ part type ∷ token sort.Assign ∷ part expr ∷ token sort.Semicolon ∷ [])
rules params = or_else (at_sort sort.CloseParen [] ∷ []) (part param ∷ part params_tail ∷ [])
rules params_tail = or_nothing (at_sort sort.Comma (token sort.Comma ∷ part param ∷ part params_tail ∷ []) ∷ [])
rules param = only (token sort.Name ∷ token sort.Colon ∷ part type ∷ [])
rules proc = only (token sort.Proc ∷ token sort.Name ∷ token sort.OpenParen ∷ part params ∷ token sort.CloseParen ∷ part block ∷ [])
rules thread = only (token sort.Thread ∷ token sort.Name ∷ part block ∷ [])
rules block = only (token sort.OpenBrace ∷ part stmts ∷ token sort.CloseBrace ∷ [])
rules stmts = or_nothing (record { sorts = in_blocks; symbols = part stmt ∷ part stmts ∷ [] } ∷ [])
rules stmt = told
    (at_sort sort.Var (token sort.Var ∷ token sort.Name ∷ token sort.Colon ∷ part type ∷ part assigned ∷ [])
    ∷ at_sort sort.Name (token sort.Name ∷ part after_name ∷ [])
    ∷ at_sort sort.Shared (part place ∷ part assigned ∷ [])
    ∷ at_sort sort.If (token sort.If ∷ token sort.OpenParen ∷ part expr ∷ token sort.CloseParen ∷ part block ∷ part else_tail ∷ [])
    ∷ at_sort sort.While (token sort.While ∷ token sort.OpenParen ∷ part expr ∷ token sort.CloseParen ∷ part block ∷ [])
    ∷ at_sort sort.Check (token sort.Check ∷ part expr ∷ token sort.Semicolon ∷ [])
    ∷ [])
rules after_name = told (at_sort sort.Assign (part assigned ∷ []) ∷ at_sort sort.Dot (token sort.Dot ∷ token sort.Name ∷ part field_tail ∷ part assigned ∷ []) ∷ at_sort sort.OpenParen
    (token sort.OpenParen ∷ part args ∷ token sort.CloseParen ∷ token sort.Semicolon ∷ []) ∷ [])
rules else_tail = or_nothing (at_sort sort.Else (token sort.Else ∷ part block ∷ []) ∷ [])
rules assigned = only (token sort.Assign ∷ part value ∷ token sort.Semicolon ∷ [])
rules value = or_else
    (at_sort sort.New (token sort.New ∷ token sort.Name ∷ [])
    ∷ at_sort sort.Cas (token sort.Cas ∷ token sort.OpenParen ∷ part place ∷ token sort.Comma ∷ part expr ∷ token sort.Comma ∷ part expr ∷ token sort.CloseParen ∷ [])
    ∷ []) (part expr ∷ [])
rules place = or_else (at_sort sort.Shared (token sort.Shared ∷ token sort.Dot ∷ token sort.Name ∷ part field_tail ∷ []) ∷ [])
    (token sort.Name ∷ token sort.Dot ∷ token sort.Name ∷ part field_tail ∷ [])
rules field_tail = or_nothing (at_sort sort.Dot (token sort.Dot ∷ token sort.Name ∷ part field_tail ∷ []) ∷ [])
rules args = or_else (at_sort sort.CloseParen [] ∷ []) (part expr ∷ part args_tail ∷ [])
rules args_tail = or_nothing (at_sort sort.Comma (token sort.Comma ∷ part expr ∷ part args_tail ∷ []) ∷ [])
rules expr = only (part or ∷ part cond_tail ∷ [])
rules cond_tail = or_nothing (at_sort sort.Question (token sort.Question ∷ part expr ∷ token sort.Colon ∷ part expr ∷ []) ∷ [])
rules or = only (part and ∷ part or_tail ∷ [])
rules or_tail = or_nothing (after_operator and or_tail sort.Either ∷ [])
rules and = only (part cmp ∷ part and_tail ∷ [])
rules and_tail = or_nothing (after_operator cmp and_tail sort.Both ∷ [])
rules cmp = only (part sum ∷ part cmp_tail ∷ [])
rules cmp_tail = or_nothing (map (λ s. at_sort s (token s ∷ part sum ∷ [])) (sort.Equal ∷ sort.NotEqual ∷ sort.Less ∷ sort.LessEq ∷ sort.Greater ∷ sort.GreaterEq ∷ []))
rules sum = only (part term ∷ part sum_tail ∷ [])
rules sum_tail = or_nothing (after_operator term sum_tail sort.Plus ∷ after_operator term sum_tail sort.Minus ∷ [])
rules term = only (part unary ∷ part term_tail ∷ [])
rules term_tail = or_nothing (after_operator unary term_tail sort.Star ∷ after_operator unary term_tail sort.Slash ∷ after_operator unary term_tail sort.Percent ∷ [])
rules unary = or_else (at_sort sort.Not (token sort.Not ∷ part unary ∷ []) ∷ at_sort sort.Minus (token sort.Minus ∷ part unary ∷ []) ∷ []) (part postfix ∷ [])
rules postfix = only (part primary ∷ part field_tail ∷ [])
rules primary = told
    (at_sort sort.Number (token sort.Number ∷ [])
    ∷ at_sort sort.True (token sort.True ∷ [])
    ∷ at_sort sort.False (token sort.False ∷ [])
    ∷ at_sort sort.Null (token sort.Null ∷ [])
    ∷ at_sort sort.Name (token sort.Name ∷ part call_tail ∷ [])
    ∷ at_sort sort.Shared (token sort.Shared ∷ token sort.Dot ∷ token sort.Name ∷ [])
    ∷ at_sort sort.OpenParen (token sort.OpenParen ∷ part expr ∷ token sort.CloseParen ∷ [])
    ∷ [])
rules call_tail = or_nothing (at_sort sort.OpenParen (token sort.OpenParen ∷ part args ∷ token sort.CloseParen ∷ []) ∷ [])

-- the chart of a source: tokens by their sorts, and the rules
abbrev pub grammar : Grammar Terminal Sort Part
grammar = record { sort = λ t. t.sort; same = same_sort; choices = rules }

abbrev nowhere : Site
nowhere = record { line = 1; column = 1 }

-- a token of a sort, which stands for all tokens of it
abbrev pub sample : Sort → Terminal
sample s = record { sort = s; bytes = []; value = pos 0; site = nowhere }

-- short words for each part; none where it may be empty
abbrev pub words : Part → List Sort
words class = sort.Class ∷ sort.Name ∷ sort.OpenBrace ∷ sort.CloseBrace ∷ []
words field = sort.Name ∷ sort.Colon ∷ sort.Int ∷ sort.Semicolon ∷ []
words type = sort.Int ∷ []
words pred = sort.Pred ∷ sort.Name ∷ sort.OpenParen ∷ sort.CloseParen ∷ sort.Colon ∷ sort.Int ∷ sort.Assign ∷ sort.Number ∷ sort.Semicolon ∷ []
words param = sort.Name ∷ sort.Colon ∷ sort.Int ∷ []
words proc = sort.Proc ∷ sort.Name ∷ sort.OpenParen ∷ sort.CloseParen ∷ sort.OpenBrace ∷ sort.CloseBrace ∷ []
words thread = sort.Thread ∷ sort.Name ∷ sort.OpenBrace ∷ sort.CloseBrace ∷ []
words block = sort.OpenBrace ∷ sort.CloseBrace ∷ []
words stmt = sort.Name ∷ sort.Assign ∷ sort.Number ∷ sort.Semicolon ∷ []
words after_name = sort.Assign ∷ sort.Number ∷ sort.Semicolon ∷ []
words assigned = sort.Assign ∷ sort.Number ∷ sort.Semicolon ∷ []
words value = sort.Number ∷ []
words place = sort.Name ∷ sort.Dot ∷ sort.Name ∷ []
words expr = sort.Number ∷ []
words or = sort.Number ∷ []
words and = sort.Number ∷ []
words cmp = sort.Number ∷ []
words sum = sort.Number ∷ []
words term = sort.Number ∷ []
words unary = sort.Number ∷ []
words postfix = sort.Number ∷ []
words primary = sort.Number ∷ []
words other = []

abbrev after_expr : List (Option Sort)
after_expr = Some sort.Semicolon ∷ Some sort.CloseParen ∷ Some sort.Comma ∷ Some sort.Colon ∷ []

-- what may stand behind each part, as far as the sample words show it; None is the end
abbrev pub followers : Part → List (Option Sort)
followers program = None ∷ []
followers classes = None ∷ []
followers shared_block = None ∷ []
followers preds = None ∷ []
followers procs = None ∷ []
followers threads = None ∷ []
followers class = None ∷ []
followers fields = Some sort.CloseBrace ∷ []
followers field = Some sort.CloseBrace ∷ []
followers type = Some sort.Semicolon ∷ Some sort.Assign ∷ Some sort.Comma ∷ Some sort.CloseParen ∷ []
followers pred = None ∷ []
followers params = Some sort.CloseParen ∷ []
followers params_tail = Some sort.CloseParen ∷ []
followers param = Some sort.CloseParen ∷ []
followers proc = None ∷ []
followers thread = None ∷ []
followers block = None ∷ Some sort.CloseBrace ∷ []
followers stmts = Some sort.CloseBrace ∷ []
followers stmt = Some sort.CloseBrace ∷ []
followers after_name = Some sort.CloseBrace ∷ []
followers else_tail = Some sort.CloseBrace ∷ []
followers assigned = Some sort.CloseBrace ∷ []
followers value = Some sort.Semicolon ∷ []
followers place = Some sort.Comma ∷ Some sort.Assign ∷ []
followers field_tail = Some sort.Assign ∷ after_expr
followers args = Some sort.CloseParen ∷ []
followers args_tail = Some sort.CloseParen ∷ []
followers other = after_expr

-- the samples by which the chart is tested
abbrev pub samples : Samples Terminal Sort Part
samples = record { sample = sample; words = words; followers = followers }

parts : (n : Part) → is_part_checked grammar samples n ≡ true
unfolding same_sort
parts program = refl
parts classes = refl
parts shared_block = refl
parts preds = refl
parts procs = refl
parts threads = refl
parts class = refl
parts fields = refl
parts field = refl
parts type = refl
parts pred = refl
parts params = refl
parts params_tail = refl
parts param = refl
parts proc = refl
parts thread = refl
parts block = refl
parts stmts = refl
parts stmt = refl
parts after_name = refl
parts else_tail = refl
parts assigned = refl
parts value = refl
parts place = refl
parts field_tail = refl
parts args = refl
parts args_tail = refl
parts expr = refl
parts cond_tail = refl
parts or = refl
parts or_tail = refl
parts and = refl
parts and_tail = refl
parts cmp = refl
parts cmp_tail = refl
parts sum = refl
parts sum_tail = refl
parts term = refl
parts term_tail = refl
parts unary = refl
parts postfix = refl
parts primary = refl
parts call_tail = refl

-- each part passes the test: whatever has been asked for can be given
pub checked : IsChecked grammar samples program
checked = record { same_means = sort_means; same_self = sort_self; sort_of_sample = λ k. refl; parts = parts; ends_there = unfold same_sort in refl }
