-- The canonical text of a tree of the grammar reads back.
use Rattle.std.proofs.Common.{◌≡◌, ℕ, ◌+◌, ◌-◌, List, [], ◌∷◌, ◌++◌}
use Rattle.std.proofs.Common.{map, fold, refl, ap, sym, ◌∙◌, subst, append_assoc, arith}
use Rattle.std.specs.Prelude.{codes}
use Rattle.std.specs.List.{flat_map, AllByRecursion}
use Rattle.std.proofs.lemmas.List.{map-append}
use Rattle.st_ast.specs.declared.declarations.Class.{Class}
use Rattle.st_ast.specs.declared.declarations.Field.{Field}
use Rattle.st_ast.specs.declared.declarations.Pred.{Pred}
use Rattle.st_ast.specs.declared.declarations.Proc.{Proc}
use Rattle.st_ast.specs.declared.declarations.Program.{Program}
use Rattle.st_ast.specs.declared.declarations.Thread.{Thread}
use Rattle.st_ast.specs.Lines.{class_lines, shared_lines, pred_lines, proc_lines, thread_lines, lines_of, canonical_text}
use Rattle.st_lex.specs.declared.kinds.Token.{Token}
use Rattle.st_lex.specs.Tokens.{IsToken}
use Rattle.st_grammar_laws.proofs.Exact.{one_tree}
use Rattle.st_grammar.specs.declared.sorts.Sort.TheVariants as sort
use Rattle.st_grammar.specs.declared.token_limits.TokenCounts.{TokenCounts}
use Rattle.st_grammar.specs.Grammar.{AreMany, none, more, IsField, IsClass, class, IsShared, no_shared, shared_block, IsPred, IsProc, IsThread, Parses, program}
use Rattle.st_grammar.specs.Terminals.{Terminal, Is, terminals_of}
use Rattle.st_grammar.specs.TokenLimits.{counted_by, counted, excess, at_start}
use Rattle.st_canonical_laws.specs.Placeless.{bare_class, bare_field, bare_pred, bare_proc, bare_thread, bare}
use Rattle.st_canonical_laws.specs.Trees.{IsOfGrammar, ReadsBack}
use Rattle.st_canonical_laws.proofs.Written.{blank, Written, wrote_none, wrote, wrote_all, is_word, blank_is}
use Rattle.st_canonical_laws.proofs.ProgramAgain.{fields_again, class_again, pred_again, proc_again, thread_again, each_again, braced_fields}
use Rattle.st_canonical_laws.proofs.StmtNodes.{words_in, words_in_two}
use Rattle.st_canonical_laws.proofs.TextLemmas.{spelled_again}
use Rattle.st_canonical_laws.proofs.LimitLemmas.{Each, each_from, each_to, each_front, each_back, each_both, fold_on, limits_same}
use Rattle.st_canonical_laws.proofs.CountLemmas.{counts_same}
use Rattle.st_canonical_laws.proofs.Fine.{fine}
use Rattle.st_canonical_laws.proofs.LineLexed.{IsGood, told_from, lines_read}
use Rattle.st_canonical_laws.proofs.Lexed.{Lexed}

-- ---- the same program from terminals without their places

shared_again : {ts : List Terminal} {fields : List Field} → IsShared ts fields → IsShared (map blank ts) (map bare_field fields)
shared_again no_shared = no_shared
shared_again (shared_block {word = w} {opening = opening} {closing = end} {ts = ts} {fields = fields} h o f z) =
    subst (λ l. IsShared l (map bare_field fields)) (sym (map-append blank (w ∷ opening ∷ ts) (end ∷ [])))
    (shared_block (blank_is h) (blank_is o) (fields_again f).again (blank_is z))

program_again : {ts : List Terminal} {p : Program} → Parses ts p → Parses (map blank ts) (bare p)
unfolding bare
program_again (program {ts = ts} {us = us} {vs = vs} {ws = ws} {xs = xs} {classes = classes} {shared = shared} {preds = preds} {procs = procs} {threads = threads} c s d r t) =
    subst (λ l. Parses l (record {
      classes = map bare_class classes;
      shared = map bare_field shared;
      preds = map bare_pred preds;
      procs = map bare_proc procs;
      threads = map bare_thread threads;
    }))
    (sym (map-append blank (ts ++ us ++ vs ++ ws) xs ∙ ap (λ l. l ++ map blank xs) (map-append blank (ts ++ us ++ vs) ws
    ∙ ap (λ l. l ++ map blank ws) (map-append blank (ts ++ us) vs ∙ ap (λ l. l ++ map blank vs) (map-append blank ts us)))))
    (program (each_again bare_class class_lines class_again c).again (shared_again s) (each_again bare_pred pred_lines pred_again d).again
    (each_again bare_proc proc_lines proc_again r).again (each_again bare_thread thread_lines thread_again t).again)

-- ---- without an empty shared block

-- terminals without some that stand in the midst of them
pub record Lean (ts : List Terminal) (p : Program) : Type 0 where
  pub us : List Terminal
  pub spelled : Parses us p
  pub written : Written us (words_in (lines_of p))
  pub limits : Each excess counted at_start ts → Each excess counted at_start us
  pub good : AllByRecursion IsGood ts → AllByRecursion IsGood us

-- after classes stands no token since the last brace
class_ends : (ts : List Terminal) (c : Class) → IsClass ts c → (b : TokenCounts) → (fold counted b ts).since ≡ 0
class_ends all c (class {word = w} {name = name} {opening = opening} {closing = end} {ts = ts} h k o f z) b =
    ap (λ (x : TokenCounts). x.since) (fold_on excess counted b (w ∷ name ∷ opening ∷ ts) (end ∷ []))
    ∙ ap (λ s. (counted_by (fold counted b (w ∷ name ∷ opening ∷ ts)) s).since) z.same

classes_end : {ts : List Terminal} {cs : List Class} → AreMany IsClass ts cs → (b : TokenCounts) → b.since ≡ 0 → (fold counted b ts).since ≡ 0
classes_end none b e = e
classes_end (more {ts = ts} {us = us} {item = item} h r) b e =
    ap (λ (x : TokenCounts). x.since) (fold_on excess counted b ts us) ∙ classes_end r (fold counted b ts) (class_ends ts item h b)

count : ℕ → ℕ → TokenCounts
count braces since = record { braces = braces; since = since }

-- an empty block leaves the counts as they were
block_counts : (b : TokenCounts) (w opening end : Terminal) → Is sort.Shared w → Is sort.OpenBrace opening → Is sort.CloseBrace end → b.since ≡ 0
    → counted (counted (counted b w) opening) end ≡ b
unfolding count
block_counts b w opening end h o z e =
    let back : b.braces + 1 - 1 ≡ b.braces = omega arith in
    ap (λ s. counted (counted (counted_by b s) opening) end) h.same ∙ ap (λ s. counted (counted_by (counted_by b sort.Shared) s) end) o.same
    ∙ ap (λ s. counted_by (counted_by (counted_by b sort.Shared) sort.OpenBrace) s) z.same
    ∙ ap (λ n. count n 0) back ∙ ap (λ n. count b.braces n) (sym e)

without : (ts : List Terminal) (cs : List Class) (w opening end : Terminal) (us : List Terminal) → AreMany IsClass ts cs → Is sort.Shared w
    → Is sort.OpenBrace opening → Is sort.CloseBrace end → Each excess counted at_start (ts ++ (w ∷ opening ∷ end ∷ us)) → Each excess counted at_start (ts ++ us)
without ts cs w opening end us c h o z each =
    let back : Each excess counted (fold counted at_start ts) (w ∷ opening ∷ end ∷ us) = each_back excess counted at_start ts (w ∷ opening ∷ end ∷ us) each in
    each_both excess counted at_start ts us (each_front excess counted at_start ts (w ∷ opening ∷ end ∷ us) each)
    (subst (λ b. Each excess counted b us) (block_counts (fold counted at_start ts) w opening end h o z (classes_end c at_start refl)) back.1.1.1)

all_front : (P : Terminal → Type 0) (ts us : List Terminal) → AllByRecursion P (ts ++ us) → AllByRecursion P ts
all_front P [] us h = tt
all_front P (t ∷ ts) us h = (h.0, all_front P ts us h.1)

all_back : (P : Terminal → Type 0) (ts us : List Terminal) → AllByRecursion P (ts ++ us) → AllByRecursion P us
all_back P [] us h = h
all_back P (t ∷ ts) us h = all_back P ts us h.1

all_both : (P : Terminal → Type 0) (ts us : List Terminal) → AllByRecursion P ts → AllByRecursion P us → AllByRecursion P (ts ++ us)
all_both P [] us h k = k
all_both P (t ∷ ts) us h k = (h.0, all_both P ts us h.1 k)

-- four parts after the first, grouped to the right
grouped : (a b c d e : List Terminal) → a ++ b ++ c ++ d ++ e ≡ a ++ (b ++ (c ++ d ++ e))
grouped a b c d e =
    append_assoc (a ++ b ++ c) d e ∙ append_assoc (a ++ b) c (d ++ e) ∙ append_assoc a b (c ++ (d ++ e))
    ∙ ap (λ l. a ++ (b ++ l)) (sym (append_assoc c d e))

words_of_program : (classes : List Class) (shared : List Field) (preds : List Pred) (procs : List Proc) (threads : List Thread)
    → words_in (lines_of (record { classes = classes; shared = shared; preds = preds; procs = procs; threads = threads }))
    ≡ words_in (flat_map class_lines classes) ++ words_in (shared_lines shared) ++ words_in (flat_map pred_lines preds)
    ++ words_in (flat_map proc_lines procs) ++ words_in (flat_map thread_lines threads)
unfolding lines_of
words_of_program classes shared preds procs threads =
    let c = flat_map class_lines classes in
    let s = shared_lines shared in
    let d = flat_map pred_lines preds in
    let r = flat_map proc_lines procs in
    let t = flat_map thread_lines threads in
    words_in_two (c ++ s ++ d ++ r) t ∙ ap (λ l. l ++ words_in t) (words_in_two (c ++ s ++ d) r
    ∙ ap (λ l. l ++ words_in r) (words_in_two (c ++ s) d ∙ ap (λ l. l ++ words_in d) (words_in_two c s)))

-- no fields have no terminals
no_fields : {ts : List Terminal} {fields : List Field} → AreMany IsField ts fields → fields ≡ [] → ts ≡ []
no_fields none e = refl
no_fields (more h r) e = absurd cc

-- a shared block that is written, or none
module _ {ts vs ws xs : List Terminal} {classes : List Class} {preds : List Pred} {procs : List Proc} {threads : List Thread}
    (c : AreMany IsClass ts classes) (d : AreMany IsPred vs preds) (r : AreMany IsProc ws procs) (t : AreMany IsThread xs threads) where
  abbrev tree : List Field → Program
  tree shared = record { classes = classes; shared = shared; preds = preds; procs = procs; threads = threads }

  all_written : {us : List Terminal} (shared : List Field) → Written us (words_in (shared_lines shared)) → Written (ts ++ us ++ vs ++ ws ++ xs) (words_in (lines_of (tree shared)))
  all_written {us = us} shared w =
      subst (Written (ts ++ us ++ vs ++ ws ++ xs)) (sym (words_of_program classes shared preds procs threads))
      (wrote_all (wrote_all (wrote_all (wrote_all (each_again bare_class class_lines class_again c).written w)
      (each_again bare_pred pred_lines pred_again d).written) (each_again bare_proc proc_lines proc_again r).written)
      (each_again bare_thread thread_lines thread_again t).written)

  -- without an empty block
  lean_without : {w opening end : Terminal} → Is sort.Shared w → Is sort.OpenBrace opening → Is sort.CloseBrace end
      → Lean (ts ++ (w ∷ opening ∷ end ∷ []) ++ vs ++ ws ++ xs) (tree [])
  lean_without {w = w} {opening = opening} {end = end} h o z = record {
    us = ts ++ [] ++ vs ++ ws ++ xs;
    spelled = program c no_shared d r t;
    written = all_written [] wrote_none;
    limits = λ each. subst (Each excess counted at_start) (sym (grouped ts [] vs ws xs))
        (without ts classes w opening end (vs ++ ws ++ xs) c h o z (subst (Each excess counted at_start) (grouped ts (w ∷ opening ∷ end ∷ []) vs ws xs) each));
    good = λ all.
        (let right : AllByRecursion IsGood (ts ++ (w ∷ opening ∷ end ∷ (vs ++ ws ++ xs))) = subst (AllByRecursion IsGood) (grouped ts (w ∷ opening ∷ end ∷ []) vs ws xs) all in
        subst (AllByRecursion IsGood) (sym (grouped ts [] vs ws xs)) (all_both IsGood ts (vs ++ ws ++ xs) (all_front IsGood ts (w ∷ opening ∷ end ∷ (vs ++ ws ++ xs)) right)
        (all_back IsGood ts (w ∷ opening ∷ end ∷ (vs ++ ws ++ xs)) right).1.1.1));
  }

  lean_by : {us : List Terminal} (shared : List Field) → IsShared us shared → Lean (ts ++ us ++ vs ++ ws ++ xs) (tree shared)
  lean_by shared no_shared = record {
    us = ts ++ [] ++ vs ++ ws ++ xs;
    spelled = program c no_shared d r t;
    written = all_written [] wrote_none;
    limits = λ h. h;
    good = λ h. h;
  }
  lean_by shared (shared_block {word = w} {opening = opening} {closing = end} {ts = inner} {fields = []} h o f z) =
      subst (λ l. Lean (ts ++ (w ∷ opening ∷ l ++ end ∷ []) ++ vs ++ ws ++ xs) (tree [])) (sym (no_fields f refl)) (lean_without h o z)
  lean_by shared (shared_block {word = w} {opening = opening} {closing = end} {ts = inner} {fields = first ∷ others} h o f z) = record {
    us = ts ++ (w ∷ opening ∷ inner ++ end ∷ []) ++ vs ++ ws ++ xs;
    spelled = program c (shared_block h o f z) d r t;
    written = all_written (first ∷ others)
        (subst (Written (w ∷ opening ∷ inner ++ end ∷ [])) (ap (λ l. codes "shared" ∷ codes "{" ∷ l) (sym (braced_fields (first ∷ others))))
        (wrote_all (wrote (is_word refl h) (wrote (is_word refl o) (fields_again f).written)) (wrote (is_word refl z) wrote_none)));
    limits = λ h. h;
    good = λ h. h;
  }

lean : {ts : List Terminal} {p : Program} → Parses ts p → Lean ts p
lean (program {shared = shared} c s d r t) = lean_by c d r t shared s

-- ---- the law

-- tokens of a text are good
all_good : (text : List ℕ) (tokens : List Token) → AllByRecursion (IsToken text) tokens → AllByRecursion IsGood (terminals_of text tokens)
all_good text [] h = tt
all_good text (token ∷ tokens) h = (λ used. fine text token h.0 used, all_good text tokens h.1)

sorts_same : (us ts : List Terminal) → map blank us ≡ map blank ts → map (λ (t : Terminal). t.sort) us ≡ map (λ (t : Terminal). t.sort) ts
sorts_same us ts e = sym (blanked us) ∙ ap (map (λ (t : Terminal). t.sort)) e ∙ blanked ts
  where
    blanked : (ts : List Terminal) → map (λ (t : Terminal). t.sort) (map blank ts) ≡ map (λ (t : Terminal). t.sort) ts
    blanked [] = refl
    blanked (t ∷ ts) = ap (λ l. t.sort ∷ l) (blanked ts)

-- the written words are tokens again, and these spell one tree only, which is the first one but for places
pub reads_back : (p : Program) → IsOfGrammar p → ReadsBack p
unfolding canonical_text
reads_back p g =
    let text : List ℕ = canonical_text p in
    let ts : List Terminal = terminals_of g.text g.tokens in
    let l : Lean ts p = lean g.spelled.spelled in
    let read : Lexed text 0 l.us = lines_read text (lines_of p) l.us (told_from l.written (l.good (all_good g.text g.tokens g.listed.each))) 0 (omega arith) refl in
    let us : List Terminal = terminals_of text read.tokens in
    let again : (q : Program) × Parses us q = spelled_again l.us us p l.spelled (sorts_same us l.us read.same) in
    let same : bare again.0 ≡ bare p =
    one_tree (map blank us) (bare again.0) (bare p) (program_again again.1) (subst (λ x. Parses x (bare p)) (sym read.same) (program_again l.spelled)) in
    let few : Each excess counted at_start us = limits_same at_start l.us us read.same (l.limits (each_from excess counted at_start ts g.spelled.few_tokens)) in
    record {
      tokens = read.tokens;
      listed = record { each = read.each; apart = read.apart };
      tree = again.0;
      spelled = record {
        spelled = again.1;
        few_tokens = each_to excess counted at_start us few;
        few_items = counts_same p again.0 (sym same) g.spelled.few_items;
      };
      same = same;
    }
