-- A resolved program as definitions read it: expressions are terms, and lists of terms and of statements are data beside them.
use Rattle.std.specs.Prelude.{ℕ, ℤ, Bool, List}
use Rattle.st_events.specs.declared.events.Site.{Site}
use Rattle.st_events.specs.declared.shapes.Kind.{Kind}
use Rattle.st_resolved.specs.declared.expressions.Operator.{Operator}

-- An expression. Locals, fields and predicates are numbers; a place is where the fault of the node is told.
mutual
  pub data Term : Type 0 where
    a_number : ℤ → Term
    a_truth : Bool → Term
    a_null : Term
    a_local : ℕ → Term
    a_shared : ℕ → Term
    a_field : Term → ℕ → Site → Term
    a_not : Term → Term
    a_minus : Term → Site → Term
    a_binary : Operator → Term → Term → Site → Term
    a_both : Term → Term → Term
    an_either : Term → Term → Term
    a_cond : Term → Term → Term → Term
    a_call : ℕ → Terms → Term

  -- arguments, from left to right
  pub data Terms : Type 0 where
    no_terms : Terms
    term_then : Term → Terms → Terms

-- where a statement stores: a shared variable, or a field of an object
pub data Target : Type 0 where
  to_shared : ℕ → Target
  to_field : Term → ℕ → Site → Target

-- what stands to the right of `=`: a plain expression, `new` of a class at a place, or a `cas`
pub data Source : Type 0 where
  from_term : Term → Source
  from_new : ℕ → Site → Source
  from_cas : Target → Term → Term → Source

-- A statement: a local gets a value, a store, `if`, `while`, a call of a procedure at a place, the launch of a check statement.
mutual
  pub data Command : Type 0 where
    a_set : ℕ → Source → Command
    a_put : Target → Source → Command
    an_if : Term → Block → Block → Command
    a_while : Term → Block → Command
    a_proc_call : ℕ → Terms → Site → Command
    a_launch : ℕ → Command

  -- statements, one after another
  pub data Block : Type 0 where
    no_commands : Block
    command_then : Command → Block → Block

-- a predicate: the kinds of its parameters, which are its locals, the kind of its value, and its body
pub record Predicate : Type 0 where
  pub params : List Kind
  pub result : Kind
  pub body : Term

-- the body of a procedure or a thread: how many of its locals are parameters, the kinds of its locals, its statements
pub record Routine : Type 0 where
  pub params : ℕ
  pub locals : List Kind
  pub block : Block

-- a check statement: the locals, in the body around it, whose values it takes; its expression, over these; the place of the word `check`
pub record CheckStatement : Type 0 where
  pub args : List ℕ
  pub body : Term
  pub at : Site

-- a program; each list is in source order
pub record Program : Type 0 where
  pub preds : List Predicate
  pub procs : List Routine
  pub threads : List Routine
  pub checks : List CheckStatement
