-- The code of a whole program: its calls are the program's calls, and from the thread's first node on it does what the thread does
use Rattle.std.proofs.Common.{◌≡◌, ℕ, zero, suc, ◌+◌, ◌≤◌, List, [], ◌∷◌, ◌++◌, length, take, refl, sym, ◌∙◌, ap, subst, arith, Option, Some, None}
use Rattle.std.specs.Prelude.{slice_get, replicate}
use mathlib.Core.Path.{fun_ext}
use Rattle.st_events.specs.declared.events.Site.{Site}
use Rattle.st_events.specs.declared.verdicts.End.TheVariants.{Finished}
use Rattle.st_resolved.specs.Terms.{Routine, Program}
use Rattle.st_thread_meaning.specs.declared.limits.TheConstants.{CALL_COST, MOST_OPEN_CALLS}
use Rattle.st_thread_meaning.specs.Deeds.{Deed, ends, Means, paying}
use Rattle.st_thread_meaning.specs.Statements.{ProcCalls, block_deed}
use Rattle.st_thread_meaning.specs.Threads.{first_locals, body_deed, call_within, thread_deed}
use Rattle.st_thread_meaning.proofs.LoopLemmas.{paid, paying_same}
use Rattle.st_mutator.specs.declared.nodes.Next.{Next}
use Rattle.st_mutator.specs.declared.nodes.Next.TheVariants.{At, Last}
use Rattle.st_mutator.specs.declared.nodes.Node.{Node}
use Rattle.st_mutator.specs.declared.nodes.Entry.{Entry}
use Rattle.st_mutator.specs.Running.{Rest, Meaning, code_meaning, entered, code_calls}
use Rattle.st_mutator.specs.Standing.{rank, AreOrdered, IsCode}
use Rattle.st_mutator.specs.Laying.{Laid, LaidProcs, LaidProgram, entry_of, lay_block, lay_procs, lay_thread, lay_program}
use Rattle.st_mutator.proofs.LayLemmas.{Grows, grows_same, grows_both, grows_length, grows_keeps}
use Rattle.st_mutator.proofs.CommandLemmas.{Begin, begin, IsBegun, after_block, at_end, block_is_begun}

-- an entry is that of a routine: at its first node begins the code of its block
pub record IsEntryOf (p : Program) (nodes : List Node) (r : Routine) (entry : Entry) : Type 0 where
  pub locals : entry.locals ≡ length r.locals
  pub within : rank entry.first ≤ length nodes
  pub means : (calls : ProcCalls) → begin calls nodes entry.first ≡ after_block p calls r.block at_end

-- there is an entry for each routine, in order, and it is that routine's
abbrev pub AreEntriesOf : Program → List Node → List Routine → List Entry → Type 0
AreEntriesOf p nodes [] [] = Unit {0}
AreEntriesOf p nodes (r ∷ rs) (entry ∷ entries) = IsEntryOf p nodes r entry × AreEntriesOf p nodes rs entries
AreEntriesOf p nodes rs entries = ⊥

-- they stay so behind more nodes
entry_keeps : (p : Program) (a b : List Node) (r : Routine) (entry : Entry) → Grows a b → IsEntryOf p a r entry → IsEntryOf p b r entry
entry_keeps p a b r entry g h = record {
  locals = h.locals;
  within = omega (arith, h.within, grows_length a b g);
  means = λ calls. ap {B = Begin} (λ (m : Meaning) l ms rest. m [] l ms rest) (grows_keeps a b entry.first g h.within calls) ∙ h.means calls;
}

entries_keep :
    (p : Program) (a b : List Node) (rs : List Routine) (entries : List Entry) → Grows a b → AreEntriesOf p a rs entries → AreEntriesOf p b rs entries
entries_keep p a b [] [] g h = tt
entries_keep p a b [] (entry ∷ entries) g h = absurd h
entries_keep p a b (r ∷ rs) [] g h = absurd h
entries_keep p a b (r ∷ rs) (entry ∷ entries) g h = (entry_keeps p a b r entry g h.0, entries_keep p a b rs entries g h.1)

-- a body that is laid is an entry
body_is_entry :
    (p : Program) (r : Routine) (nodes : List Node)
    → IsBegun (lay_block p.checks r.block Last nodes) nodes (λ calls. after_block p calls r.block (begin calls nodes Last))
    → IsEntryOf p (lay_block p.checks r.block Last nodes).nodes r (entry_of (lay_block p.checks r.block Last nodes) r)
unfolding code_meaning
body_is_entry p r nodes h = record { locals = refl; within = h.within; means = h.means }

-- procedures are laid one after another
pub record AreLaidProcs (p : Program) (rs : List Routine) (nodes : List Node) (laid : LaidProcs) : Type 0 where
  pub grows : Grows nodes laid.nodes
  pub ordered : AreOrdered laid.nodes
  pub entries : AreEntriesOf p laid.nodes rs laid.entries

-- behind nodes in order the code of the procedures is in order, and each has its entry
pub procs_are_laid :
    (p : Program) (rs : List Routine) (nodes : List Node)
    → AreOrdered nodes
    → AreLaidProcs p rs nodes (lay_procs p.checks rs nodes)
procs_are_laid p [] nodes o = record { grows = grows_same nodes; ordered = o; entries = tt }
procs_are_laid p (r ∷ rs) nodes o =
    let body = lay_block p.checks r.block Last nodes in
    let b = block_is_begun p r.block Last nodes o (omega arith) in
    let rest = lay_procs p.checks rs body.nodes in
    let q = procs_are_laid p rs body.nodes b.ordered in
    record {
      grows = grows_both nodes body.nodes rest.nodes b.grows q.grows;
      ordered = q.ordered;
      entries = (entry_keeps p body.nodes rest.nodes r (entry_of body r) q.grows (body_is_entry p r nodes b), q.entries);
    }

-- to enter at an entry is to do the body
entered_is_body :
    (p : Program) (nodes : List Node) (rs : List Routine) (entries : List Entry) (called : ℕ) (calls : ProcCalls) (words : List ℕ) (means : Means)
    (rest : Means → Deed)
    → AreEntriesOf p nodes rs entries
    → entered (code_meaning calls nodes) (slice_get entries called) words means rest ≡ body_deed p calls (slice_get rs called) words means rest
entered_is_body p nodes [] [] called calls words means rest h = refl
entered_is_body p nodes [] (entry ∷ entries) called calls words means rest h = absurd h
entered_is_body p nodes (r ∷ rs) [] called calls words means rest h = absurd h
entered_is_body p nodes (r ∷ rs) (entry ∷ entries) zero calls words means rest h =
    ap (λ (b : Begin). b (take entry.locals (words ++ replicate entry.locals 0)) means (λ _ _ left. rest left)) (h.0.means calls)
    ∙ ap (λ (n : ℕ). block_deed p calls r.block (take n (words ++ replicate n 0)) means (λ _ left. rest left)) h.0.locals
entered_is_body p nodes (r ∷ rs) (entry ∷ entries) (suc called) calls words means rest h = entered_is_body p nodes rs entries called calls words means rest h.1

-- calls in the code are calls of the program
pub calls_are_same :
    (p : Program) (nodes : List Node) (entries : List Entry) → AreEntriesOf p nodes p.procs entries
    → (depth : ℕ)
    → code_calls nodes entries depth ≡ call_within p depth
unfolding code_calls call_within
calls_are_same p nodes entries h zero = refl
calls_are_same p nodes entries h (suc depth) =
    fun_ext (λ called. fun_ext (λ words. fun_ext (λ at. fun_ext (λ means. fun_ext (λ rest.
    paying_same CALL_COST means
    (λ left. entered (code_meaning (code_calls nodes entries depth) nodes) (slice_get entries called) words left rest)
    (λ left. body_deed p (call_within p depth) (slice_get p.procs called) words left rest)
    (ap (λ (calls : ProcCalls). entered (code_meaning calls nodes) (slice_get entries called) words (paid CALL_COST means) rest) (calls_are_same p nodes entries h depth)
    ∙ entered_is_body p nodes p.procs entries called (call_within p depth) words (paid CALL_COST means) rest h))))))

-- what is laid of a whole program, and that the thread begins there
pub record IsProgramCode (p : Program) (thread : ℕ) (laid : LaidProgram) : Type 0 where
  pub ordered : AreOrdered laid.nodes
  pub within : rank laid.entry.first ≤ length laid.nodes
  pub entries : AreEntriesOf p laid.nodes p.procs laid.entries
  pub does :
      (objects events : ℕ)
      → begin (code_calls laid.nodes laid.entries MOST_OPEN_CALLS) laid.nodes laid.entry.first
      (take laid.entry.locals (replicate laid.entry.locals 0)) (record { charge = events; room = objects }) (λ _ _ _. ends Finished)
      ≡ thread_deed p objects events thread

none_ordered : AreOrdered []
none_ordered index node e = absurd (cc)

-- the code of a program is in order, has an entry for each procedure, and from its first node on does what the thread does
pub program_is_laid : (p : Program) (thread : ℕ) → IsProgramCode p thread (lay_program p thread)
unfolding thread_deed code_meaning
program_is_laid p thread = by (slice_get p.threads thread) refl
  where
    procs : LaidProcs
    procs = lay_procs p.checks p.procs []

    q : AreLaidProcs p p.procs [] procs
    q = procs_are_laid p p.procs [] none_ordered

    start : ℕ → ℕ → Means
    start objects events = record { charge = events; room = objects }

    by : (o : Option Routine)
        → slice_get p.threads thread ≡ o
        → IsProgramCode p thread (record { nodes = (lay_thread p.checks o procs.nodes).nodes; entries = procs.entries; entry = (lay_thread p.checks o procs.nodes).entry })
    by None e = record {
      ordered = q.ordered;
      within = omega arith;
      entries = q.entries;
      does = λ objects events. sym (ap (λ (x : Option Routine). body_deed p (call_within p MOST_OPEN_CALLS) x [] (start objects events) (λ _. ends Finished)) e);
    }
    by (Some r) e =
        let body = lay_block p.checks r.block Last procs.nodes in
        let b = block_is_begun p r.block Last procs.nodes q.ordered (omega arith) in
        let entries : AreEntriesOf p body.nodes p.procs procs.entries = entries_keep p procs.nodes body.nodes p.procs procs.entries b.grows q.entries in
        let entry = body_is_entry p r procs.nodes b in
        record {
          ordered = b.ordered;
          within = b.within;
          entries = entries;
          does = λ objects events.
              ap (λ (c : Begin). c (first_locals r []) (start objects events) (λ _ _ _. ends Finished)) (entry.means (code_calls body.nodes procs.entries MOST_OPEN_CALLS))
              ∙ ap (λ (calls : ProcCalls). block_deed p calls r.block (first_locals r []) (start objects events) (λ _ _. ends Finished))
              (calls_are_same p body.nodes procs.entries entries MOST_OPEN_CALLS)
              ∙ sym (ap (λ (x : Option Routine). body_deed p (call_within p MOST_OPEN_CALLS) x [] (start objects events) (λ _. ends Finished)) e);
        }

-- an entry begins within the code, and has as many locals as its routine
pub entry_within :
    (p : Program) (nodes : List Node) (rs : List Routine) (entries : List Entry) (index : ℕ) (entry : Entry)
    → AreEntriesOf p nodes rs entries
    → slice_get entries index ≡ Some entry
    → (r : Routine) × (slice_get rs index ≡ Some r) × (entry.locals ≡ length r.locals) × (rank entry.first ≤ length nodes)
entry_within p nodes [] [] index entry h e = absurd (cc)
entry_within p nodes [] (x ∷ entries) index entry h e = absurd h
entry_within p nodes (r ∷ rs) [] index entry h e = absurd h
entry_within p nodes (r ∷ rs) (x ∷ entries) zero entry h e =
    let same : x ≡ entry = cc in
    (r, refl, ap (λ (y : Entry). y.locals) (sym same) ∙ h.0.locals, subst (λ (y : Entry). rank y.first ≤ length nodes) same h.0.within)
entry_within p nodes (r ∷ rs) (x ∷ entries) (suc index) entry h e = entry_within p nodes rs entries index entry h.1 e
