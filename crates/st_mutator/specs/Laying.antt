-- How code is laid out: what comes behind a piece of code is laid before it, so each node names earlier ones alone.
use Rattle.std.specs.Prelude.{ℕ, suc, List, [], ◌∷◌, ◌++◌, length, Option, Some, None, slice_get}
use Rattle.st_events.specs.declared.events.Site.{Site}
use Rattle.st_events.specs.declared.heaps.TheConstants.{SHARED_OBJECT}
use Rattle.st_resolved.specs.Terms.{Term, a_number, a_truth, a_null, a_local, a_shared, a_field, a_not, a_minus, a_binary, a_both, an_either, a_cond, a_call}
use Rattle.st_resolved.specs.Terms.{Terms, no_terms, term_then, Target, to_shared, to_field, Source, from_term, from_new, from_cas}
use Rattle.st_resolved.specs.Terms.{Command, a_set, a_put, an_if, a_while, a_proc_call, a_launch, Block, no_commands, command_then, Routine, CheckStatement, Program}
use Rattle.st_check_meaning.specs.Numbers.{word_of_number, word_of_truth}
use Rattle.st_thread_meaning.specs.Statements.{names_of}
use Rattle.st_mutator.specs.declared.nodes.Next.{Next}
use Rattle.st_mutator.specs.declared.nodes.Next.TheVariants.{At, Last}
use Rattle.st_mutator.specs.declared.nodes.Node.{Node}
use Rattle.st_mutator.specs.declared.nodes.Node.TheVariants as node
use Rattle.st_mutator.specs.declared.nodes.Entry.{Entry}

-- nodes, and where a piece of code among them begins
pub record Laid : Type 0 where
  pub nodes : List Node
  pub first : Next

-- one node more
abbrev pub put : Node → List Node → Laid
put n nodes = record { nodes = nodes ++ n ∷ []; first = At (length nodes) }

-- a branch to code that is laid, or to a word that is pushed in its place
abbrev pub put_both : Next → Laid → Laid
put_both next right =
    let word = put (node.Push 0 next) right.nodes in
    put (node.Branch right.first word.first) word.nodes

-- a branch to a word that is pushed, 1, or to code that is laid in its place
abbrev pub put_either : Next → Laid → Laid
put_either next right =
    let word = put (node.Push 1 next) right.nodes in
    put (node.Branch word.first right.first) word.nodes

-- the place of a null test that is never met: that of the shared object
abbrev pub no_place : Site
no_place = record { line = 0; column = 0 }

-- a shared variable: a field of the shared object
abbrev pub put_shared : ℕ → Next → List Node → Laid
put_shared field next nodes =
    let load = put (node.Field field no_place next) nodes in
    put (node.Push SHARED_OBJECT load.first) load.nodes

-- how many arguments
abbrev pub count_of : Terms → ℕ
count_of no_terms = 0
count_of (term_then t ts) = suc (count_of ts)

-- the code of a term in front of what comes next: it pushes the word of the term
abbrev mutual
  pub lay_term : Term → Next → List Node → Laid
  lay_term (a_number value) next nodes = put (node.Push (word_of_number value) next) nodes
  lay_term (a_truth value) next nodes = put (node.Push (word_of_truth value) next) nodes
  lay_term a_null next nodes = put (node.Push 0 next) nodes
  lay_term (a_local local) next nodes = put (node.Local local next) nodes
  lay_term (a_shared field) next nodes = put_shared field next nodes
  lay_term (a_field object field at) next nodes = let load = put (node.Field field at next) nodes in lay_term object load.first load.nodes
  lay_term (a_not inner) next nodes = let turn = put (node.Not next) nodes in lay_term inner turn.first turn.nodes
  lay_term (a_minus inner at) next nodes = let turn = put (node.Minus at next) nodes in lay_term inner turn.first turn.nodes
  lay_term (a_binary operator left right at) next nodes =
      let both = put (node.Binary operator at next) nodes in
      let second = lay_term right both.first both.nodes in
      lay_term left second.first second.nodes
  lay_term (a_both left right) next nodes = let branch = put_both next (lay_term right next nodes) in lay_term left branch.first branch.nodes
  lay_term (an_either left right) next nodes = let branch = put_either next (lay_term right next nodes) in lay_term left branch.first branch.nodes
  lay_term (a_cond test left right) next nodes =
      let second = lay_term right next nodes in
      let first = lay_term left next second.nodes in
      let branch = put (node.Branch first.first second.first) first.nodes in
      lay_term test branch.first branch.nodes
  lay_term (a_call pred args) next nodes = let word = put (node.Push 0 next) nodes in lay_dropped args word.first word.nodes

  -- arguments whose words are dropped, one after another: an expression of a thread calls nothing
  pub lay_dropped : Terms → Next → List Node → Laid
  lay_dropped no_terms next nodes = record { nodes = nodes; first = next }
  lay_dropped (term_then t ts) next nodes =
      let rest = lay_dropped ts next nodes in
      let pop = put (node.Pop rest.first) rest.nodes in
      lay_term t pop.first pop.nodes

-- arguments, from left to right
abbrev pub lay_terms : Terms → Next → List Node → Laid
lay_terms no_terms next nodes = record { nodes = nodes; first = next }
lay_terms (term_then t ts) next nodes = let rest = lay_terms ts next nodes in lay_term t rest.first rest.nodes

-- the words of locals
abbrev pub lay_names : List ℕ → Next → List Node → Laid
lay_names [] next nodes = record { nodes = nodes; first = next }
lay_names (name ∷ names) next nodes = let rest = lay_names names next nodes in put (node.Local name rest.first) rest.nodes

-- the field of a target, and the place of its null test
abbrev pub field_of_target : Target → ℕ
field_of_target (to_shared field) = field
field_of_target (to_field object field at) = field

-- where null is told of a target: at its `.`; a shared variable has no such place
abbrev pub place_of_target : Target → Site
place_of_target (to_shared field) = no_place
place_of_target (to_field object field at) = at

-- the object of a target
abbrev pub lay_object : Target → Next → List Node → Laid
lay_object (to_shared field) next nodes = put (node.Push SHARED_OBJECT next) nodes
lay_object (to_field object field at) next nodes = lay_term object next nodes

-- what stands to the right of `=`
abbrev pub lay_source : Source → Next → List Node → Laid
lay_source (from_term t) next nodes = lay_term t next nodes
lay_source (from_new class at) next nodes = put (node.New class at next) nodes
lay_source (from_cas target expect value) next nodes =
    let exchange = put (node.Cas (field_of_target target) (place_of_target target) next) nodes in
    let word = lay_term value exchange.first exchange.nodes in
    let expected = lay_term expect word.first word.nodes in
    lay_object target expected.first expected.nodes

-- a condition in front of two pieces of code that are laid
abbrev pub lay_branch : Term → Next → Next → List Node → Laid
lay_branch test when_true when_false nodes = let branch = put (node.Branch when_true when_false) nodes in lay_term test branch.first branch.nodes

-- a loop whose body is laid: its condition leaves a truth where its code ends
abbrev pub lay_loop : Term → Next → Next → List Node → Laid
lay_loop test body next nodes = let condition = lay_term test Last nodes in put (node.While condition.first body next) condition.nodes

-- statements, each in front of those that follow it
abbrev mutual
  pub lay_command : List CheckStatement → Command → Next → List Node → Laid
  lay_command checks (a_set local source) next nodes = let set = put (node.Set local next) nodes in lay_source source set.first set.nodes
  lay_command checks (a_put target source) next nodes =
      let store = put (node.Store (field_of_target target) (place_of_target target) next) nodes in
      let word = lay_source source store.first store.nodes in
      lay_object target word.first word.nodes
  lay_command checks (an_if test first other) next nodes =
      let second = lay_block checks other next nodes in
      let body = lay_block checks first next second.nodes in
      lay_branch test body.first second.first body.nodes
  lay_command checks (a_while test body) next nodes =
      let inner = lay_block checks body Last nodes in
      lay_loop test inner.first next inner.nodes
  lay_command checks (a_proc_call called args at) next nodes =
      let call = put (node.Call called (count_of args) at next) nodes in lay_terms args call.first call.nodes
  lay_command checks (a_launch site) next nodes =
      let launch = put (node.Launch site (length (names_of (slice_get checks site))) next) nodes in
      lay_names (names_of (slice_get checks site)) launch.first launch.nodes

  pub lay_block : List CheckStatement → Block → Next → List Node → Laid
  lay_block checks no_commands next nodes = record { nodes = nodes; first = next }
  lay_block checks (command_then c cs) next nodes = let rest = lay_block checks cs next nodes in lay_command checks c rest.first rest.nodes

-- the code of a body, which nothing comes behind
abbrev pub entry_of : Laid → Routine → Entry
entry_of laid r = record { first = laid.first; locals = length r.locals }

-- the code of procedures, one after another, and where each begins
pub record LaidProcs : Type 0 where
  pub nodes : List Node
  pub entries : List Entry

-- procedures in source order: the code of each behind that of the earlier ones, and an entry for each
abbrev pub lay_procs : List CheckStatement → List Routine → List Node → LaidProcs
lay_procs checks [] nodes = record { nodes = nodes; entries = [] }
lay_procs checks (r ∷ rs) nodes =
    let body = lay_block checks r.block Last nodes in
    let rest = lay_procs checks rs body.nodes in
    record { nodes = rest.nodes; entries = entry_of body r ∷ rest.entries }

-- nodes, and an entry among them
pub record LaidEntry : Type 0 where
  pub nodes : List Node
  pub entry : Entry

-- the code of a thread; where there is no such thread there is nothing to do
abbrev pub lay_thread : List CheckStatement → Option Routine → List Node → LaidEntry
lay_thread checks None nodes = record { nodes = nodes; entry = record { first = Last; locals = 0 } }
lay_thread checks (Some r) nodes = let body = lay_block checks r.block Last nodes in record { nodes = body.nodes; entry = entry_of body r }

-- the code of the procedures and, behind it, of one thread, and where the thread begins
pub record LaidProgram : Type 0 where
  pub nodes : List Node
  pub entries : List Entry
  pub entry : Entry

-- the procedures first, then the thread with this number: so each body begins within one list of nodes
abbrev pub lay_program : Program → ℕ → LaidProgram
lay_program p thread =
    let procs = lay_procs p.checks p.procs [] in
    let own = lay_thread p.checks (slice_get p.threads thread) procs.nodes in
    record { nodes = own.nodes; entries = procs.entries; entry = own.entry }
