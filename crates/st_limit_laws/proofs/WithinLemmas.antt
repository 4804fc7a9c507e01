-- A tree of the parser keeps the condition of `check_types`.
use Rattle.std.proofs.Common.{◌≡◌, ℕ, ◌+◌, ◌≤◌, List, [], map, None, arith}
use Rattle.std.specs.List.{flat_map}
use Rattle.std.proofs.lemmas.List.Elements.{All-weaker}
use Rattle.st_ast.specs.declared.declarations.Program.{Program}
use Rattle.st_ast.specs.declared.declarations.Proc.{Proc}
use Rattle.st_ast.specs.declared.declarations.Thread.{Thread}
use Rattle.st_events.specs.declared.shapes.TheConstants.{MOST_CHECKS, MOST_ARGS}
use Rattle.st_resolved.specs.declared.limits.TheConstants.{MOST_LOCALS}
use Rattle.st_lex.specs.declared.kinds.Token.{Token}
use Rattle.st_lex.specs.Tokens.{IsTokensOf}
use Rattle.st_grammar.specs.declared.counts.What.TheVariants as what
use Rattle.st_grammar.specs.Counts.{counted, excess, at_start, items_of, stmt_items, proc_items, thread_items, IsWithinCounts}
use Rattle.st_grammar.specs.Firsts.{first_from}
use Rattle.st_grammar.specs.Grammar.{Parses}
use Rattle.st_grammar.specs.Terminals.{terminals_of}
use Rattle.st_limit_laws.specs.Few.{HasFewOfEach, IsFewBody, how_many}
use Rattle.st_limit_laws.proofs.FewLemmas.{few_of_each, Bodies, bodies_of}
use Rattle.st_limit_laws.proofs.TotalLemmas.{within_none}
use Rattle.st_types.specs.Limits.{IsWithinLimits, IsSmallBody, proc_tally, thread_tally, tally_of}
use Rattle.st_types.specs.Tallies.{all_of, tally_all}
use Rattle.st_limit_laws.proofs.TallyLemmas.{body_counted, proc_checks, thread_checks, proc_names, thread_names}
use Rattle.st_limit_laws.proofs.PlaceLemmas.{targets_are, threads_have_names}

small_proc : (procedure : Proc) → IsFewBody procedure → IsSmallBody procedure.params procedure.body
small_proc procedure few =
    let same : how_many what.Locals (flat_map stmt_items procedure.body) ≡ (tally_all procedure.body).locals = (body_counted procedure.body).locals in
    record { few_params = few.params; few_locals = omega (arith, same, few.locals) }

small_thread : (thread : Thread) → how_many what.Locals (flat_map stmt_items thread.body) ≤ MOST_LOCALS → IsSmallBody [] thread.body
small_thread thread few =
    let same : how_many what.Locals (flat_map stmt_items thread.body) ≡ (tally_all thread.body).locals = (body_counted thread.body).locals in
    record { few_params = omega arith; few_locals = omega (arith, same, few) }

few_checks : (p : Program) → how_many what.Checks (flat_map proc_items p.procs) + how_many what.Checks (flat_map thread_items p.threads) ≤ MOST_CHECKS
    → (tally_of p).checks ≤ MOST_CHECKS
few_checks p few =
    let procs : how_many what.Checks (flat_map proc_items p.procs) ≡ (all_of (map proc_tally p.procs)).checks = proc_checks p.procs in
    let threads : how_many what.Checks (flat_map thread_items p.threads) ≡ (all_of (map thread_tally p.threads)).checks = thread_checks p.threads in
    omega (arith, procs, threads, few)

few_names : (p : Program) → first_from excess counted at_start (items_of p) ≡ None → (tally_of p).names ≤ MOST_ARGS
few_names p none =
    let inner : Bodies p = bodies_of p none in
    let procs : (all_of (map proc_tally p.procs)).names ≤ MOST_ARGS = proc_names p.procs inner.before_procs inner.long_procs inner.procs in
    let threads : (all_of (map thread_tally p.threads)).names ≤ MOST_ARGS = thread_names p.threads inner.before_threads inner.long_threads inner.threads in
    omega (arith, procs, threads)

-- the law: a tree that the grammar spells and that is within the limits on counts keeps the condition of `check_types`
pub within_limits : (text : List ℕ) (tokens : List Token) (p : Program) → IsTokensOf text tokens → Parses (terminals_of text tokens) p
    → IsWithinCounts p → IsWithinLimits p
within_limits text tokens p lexed spelled within =
    let few : HasFewOfEach p = few_of_each (terminals_of text tokens) p spelled within in
    record {
      names = record { classes = few.classes; fields = few.fields; shared = few.shared; preds = few.preds; procs = few.procs };
      threads = few.threads;
      small_preds = few.pred_params;
      small_procs = All-weaker IsFewBody (λ (x : Proc). IsSmallBody x.params x.body) small_proc p.procs few.bodies;
      small_threads = All-weaker (λ (x : Thread). how_many what.Locals (flat_map stmt_items x.body) ≤ MOST_LOCALS) (λ (x : Thread). IsSmallBody [] x.body)
          small_thread p.threads few.thread_locals;
      checks = few_checks p few.checks;
      arguments = few_names p (within_none excess counted at_start (items_of p) within);
      targets = targets_are spelled;
      thread_names = threads_have_names text tokens p lexed spelled;
    }
