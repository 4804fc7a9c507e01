-- What the readers of programs answer, in the terms of the grammar.
use Rattle.std.proofs.Common.{◌≡◌, ℕ, zero, suc, pred, ◌+◌, ◌≤◌, ◌<◌, Bool, true, false, cond, ◌⊎◌, inl, inr, List, [], ◌∷◌, ◌++◌, length, take, drop}
use Rattle.std.proofs.Common.{Option, Some, None, Result}
use Rattle.std.proofs.Common.{Ok, Err, refl, ap, sym, ◌∙◌, subst, append_assoc, append-nil, arith, add-one, length-append}
use Rattle.std.proofs.Math.Seq.{take-append_seam, take-append-add, drop-append_seam}
use Rattle.std.proofs.lemmas.List.{take-append-drop, take-take}
use Rattle.st_ast.specs.declared.declarations.Program.{Program}
use Rattle.st_events.specs.declared.events.Site.{Site}
use Rattle.st_lex.specs.declared.kinds.Token.{Token}
use Rattle.st_ast.specs.declared.limits.TheConstants.{MOST_OPEN_BRACES}
use Rattle.st_grammar.specs.declared.limits.TheConstants.{MOST_TOKENS_BETWEEN}
use Rattle.st_grammar.specs.declared.sorts.Sort.{Sort}
use Rattle.st_grammar.specs.declared.sorts.Sort.TheVariants as sort
use Rattle.st_grammar.specs.FirstFault.{BeginsText, IsFirstFault, IsUnexpected, place_from}
use Rattle.st_grammar.specs.Grammar.{Parses}
use Rattle.st_grammar_laws.specs.Reading as r
use Rattle.st_grammar_laws.specs.Reading.{Outcome}
use Rattle.st_grammar.specs.Terminals.{Terminal, terminals_of}
use Rattle.st_charts.specs.Texts.{IsText, IsFirst}
use Rattle.st_charts.specs.Charts.{part, Faults, next}
use Rattle.st_charts.proofs.FaultLemmas.{first_fault}
use Rattle.st_charts.proofs.ReadLemmas.{one_fault}
use Rattle.st_grammar_laws.proofs.Chart as chart
use Rattle.st_grammar_laws.proofs.Chart.{grammar, samples, checked}
use Rattle.st_grammar_laws.proofs.CompleteProgram.{spelled_is_read}
use Rattle.st_grammar_laws.proofs.FaultProgram.{Final, follows_program}
use Rattle.st_grammar_laws.proofs.Free as free
use Rattle.st_grammar_laws.proofs.FreeLemmas.{program_same}
use Rattle.st_grammar_laws.proofs.LimitLemmas.{step, Within, within_end, within_more}
use Rattle.st_grammar_laws.proofs.SoundProgram.{read_is_spelled}
use Rattle.st_grammar_laws.proofs.WordLemmas.{separates, span}

-- ---- limits that the length keeps

shorter_span : (ts : List Terminal) (b : Bool) → span ts ≤ length ts → cond b 0 (suc (span ts)) ≤ suc (length ts)
shorter_span ts true h = omega arith
shorter_span ts false h = omega arith

span_within : (ts : List Terminal) → span ts ≤ length ts
span_within [] = omega arith
span_within (t ∷ ts) = shorter_span ts (separates t.sort) (span_within ts)

pred_within : (n : ℕ) → pred n ≤ suc n
pred_within n = omega arith

step_within : (n : ℕ) (s : Sort) → step n s ≤ suc n
step_within n sort.OpenBrace = omega arith
step_within n sort.CloseBrace = pred_within n
step_within n s = omega arith

free_within : (tokens braces n : ℕ) (ts : List Terminal) → length ts ≤ tokens → n + length ts ≤ braces → Within tokens braces n ts
free_within tokens braces n [] a b = within_end
free_within tokens braces n (t ∷ ts) a b =
    within_more (omega (arith, span_within (t ∷ ts))) (omega (arith, step_within n t.sort)) (free_within tokens braces (step n t.sort) ts (omega arith) (omega (arith, step_within n t.sort)))

freely : (ts : List Terminal) → Within (length ts) (length ts) 0 ts
freely ts = free_within (length ts) (length ts) 0 ts (omega arith) (omega arith)

-- ---- texts of the chart and of the grammar

-- what spells a program is a text of the chart
pub spelled_is_text : (ts : List Terminal) (tree : Program) → Parses ts tree → IsText grammar chart.program ts
spelled_is_text ts tree h =
    subst (λ (o : Outcome Program). Final (length ts) (length ts) (part chart.program ∷ []) ts o) (spelled_is_read (length ts) (length ts) h (freely ts))
    (follows_program (length ts) (length ts) ts (freely ts))

-- a text of the chart spells a program
pub text_is_spelled : (ts : List Terminal) → IsText grammar chart.program ts → (tree : Program) × Parses ts tree
text_is_spelled ts h = by (free.program (length ts) (length ts) ts) refl (follows_program (length ts) (length ts) ts (freely ts))
  where
    by : (o : Outcome Program) → free.program (length ts) (length ts) ts ≡ o → Final (length ts) (length ts) (part chart.program ∷ []) ts o → (tree : Program) × Parses ts tree
    by (Ok p) e f = (p.0, (read_is_spelled (length ts) (length ts) ts p.0 p.1 e).0)
    by (Err rest) e f = let clash = one_fault grammar f h in absurd cc

abbrev tree_or : Program → Outcome Program → Program
tree_or tree (Ok p) = p.0
tree_or tree (Err rest) = tree

-- a list of terminals has at most one tree
pub one_tree : (ts : List Terminal) (a b : Program) → Parses ts a → Parses ts b → a ≡ b
one_tree ts a b h k = ap (tree_or a) (sym (spelled_is_read (length ts) (length ts) h (freely ts)) ∙ spelled_is_read (length ts) (length ts) k (freely ts))

-- ---- the readers of these limits

-- what is read is spelled by all of the terminals
pub read_is_program : (ts rest : List Terminal) (tree : Program) → r.program ts ≡ Ok (tree, rest) → Parses ts tree × (rest ≡ [])
read_is_program ts rest tree e = read_is_spelled MOST_TOKENS_BETWEEN MOST_OPEN_BRACES ts tree rest (sym (ap (λ (f : List Terminal → Outcome Program). f ts) program_same) ∙ e)

-- within the limits, what is spelled is read
pub program_is_read : (ts : List Terminal) (tree : Program) → Within MOST_TOKENS_BETWEEN MOST_OPEN_BRACES 0 ts → Parses ts tree → r.program ts ≡ Ok (tree, [])
program_is_read ts tree w h = ap (λ (f : List Terminal → Outcome Program). f ts) program_same ∙ spelled_is_read MOST_TOKENS_BETWEEN MOST_OPEN_BRACES h w

-- what is left at a fault of the reader
pub record LeftAt (ts rest : List Terminal) : Type 0 where
  pub index : ℕ
  pub fault : IsFirstFault ts index
  pub left : rest ≡ drop index ts

text_begins : (ts : List Terminal) → BeginsText ts → (more : List Terminal) × IsText grammar chart.program (ts ++ more)
text_begins ts b = (b.more, spelled_is_text (ts ++ b.more) b.tree b.spelled)

-- with the next terminal they begin none
none_with : (read rest : List Terminal) → ((other : List Terminal) → next other ≡ next rest → IsText grammar chart.program (read ++ other) → ⊥) → length read < length (read ++ rest)
    → BeginsText (take (suc (length read)) (read ++ rest)) → ⊥
none_with read [] ends h b = omega (arith, length-append {A = Terminal} read [])
none_with read (t ∷ us) ends h b =
    let front : take (suc (length read)) (read ++ t ∷ us) ≡ read ++ t ∷ [] = ap (λ (n : ℕ). take n (read ++ t ∷ us)) (sym (add-one (length read))) ∙ take-append-add read (t ∷ us) 1 in
    let begun = text_begins (read ++ t ∷ []) (subst BeginsText front b) in
    ends (t ∷ begun.0) refl (subst (IsText grammar chart.program) (append_assoc read (t ∷ []) begun.0) begun.1)

first_of : (ts rest : List Terminal) → IsFirst grammar chart.program ts rest → LeftAt ts rest
first_of ts rest f =
    let known : (tree : Program) × Parses (f.read ++ f.more) tree = text_is_spelled (f.read ++ f.more) f.begins in
    let front : take (length f.read) ts ≡ f.read = ap (take (length f.read)) f.split ∙ take-append_seam f.read rest in
    record {
      index = length f.read;
      fault = record {
        within = omega (arith, ap length f.split, length-append f.read rest);
        before = subst BeginsText (sym front) (record { more = f.more; tree = known.0; spelled = known.1 });
        here = λ less b. none_with f.read rest f.ends (subst (λ (l : List Terminal). length f.read < length l) f.split less)
            (subst (λ (l : List Terminal). BeginsText (take (suc (length f.read)) l)) f.split b);
        no_text = λ tree h. f.ends rest refl (subst (IsText grammar chart.program) f.split (spelled_is_text ts tree h));
      };
      left = sym (ap (drop (length f.read)) f.split ∙ drop-append_seam f.read rest);
    }

-- within the limits, the reader stops at the first fault
pub stops_at_fault : (ts rest : List Terminal) → Within MOST_TOKENS_BETWEEN MOST_OPEN_BRACES 0 ts → r.program ts ≡ Err rest → LeftAt ts rest
stops_at_fault ts rest w e =
    let same : free.program MOST_TOKENS_BETWEEN MOST_OPEN_BRACES ts ≡ Err rest = sym (ap (λ (f : List Terminal → Outcome Program). f ts) program_same) ∙ e in
    let fault : Faults grammar (part chart.program ∷ []) ts (Some rest) =
    subst (λ (o : Outcome Program). Final MOST_TOKENS_BETWEEN MOST_OPEN_BRACES (part chart.program ∷ []) ts o) same (follows_program MOST_TOKENS_BETWEEN MOST_OPEN_BRACES ts w) in
    first_of ts rest (first_fault grammar samples chart.program checked ts rest fault)

-- a list of terminals has a tree or a first fault
pub text_or_fault : (ts : List Terminal) → ((tree : Program) × Parses ts tree) ⊎ ((index : ℕ) × IsFirstFault ts index)
text_or_fault ts = by (free.program (length ts) (length ts) ts) refl (follows_program (length ts) (length ts) ts (freely ts))
  where
    by : (o : Outcome Program) → free.program (length ts) (length ts) ts ≡ o → Final (length ts) (length ts) (part chart.program ∷ []) ts o
        → ((tree : Program) × Parses ts tree) ⊎ ((index : ℕ) × IsFirstFault ts index)
    by (Ok p) e f = inl (p.0, (read_is_spelled (length ts) (length ts) ts p.0 p.1 e).0)
    by (Err rest) e f = let at : LeftAt ts rest = first_of ts rest (first_fault grammar samples chart.program checked ts rest f) in inr (at.index, at.fault)

-- ---- one first fault

prefix_begins : (ts us : List Terminal) → BeginsText (ts ++ us) → BeginsText ts
prefix_begins ts us b = record { more = us ++ b.more; tree = b.tree; spelled = subst (λ (l : List Terminal). Parses l b.tree) (append_assoc ts us b.more) b.spelled }

earlier_begins : (ts : List Terminal) (m n : ℕ) → m ≤ n → BeginsText (take n ts) → BeginsText (take m ts)
earlier_begins ts m n less b =
    let front : take m (take n ts) ≡ take m ts = take-take m n ts less in
    subst BeginsText front (prefix_begins (take m (take n ts)) (drop m (take n ts)) (subst BeginsText (sym (take-append-drop m (take n ts))) b))

not_before : (ts : List Terminal) (m n : ℕ) → IsFirstFault ts m → IsFirstFault ts n → m < n → ⊥
not_before ts m n a b less = a.here (omega (arith, b.within)) (earlier_begins ts (suc m) n less b.before)

-- the tokens have at most one first fault
pub one_index : (ts : List Terminal) (m n : ℕ) → IsFirstFault ts m → IsFirstFault ts n → m ≡ n
one_index ts m n a b =
    let less : m < n → ⊥ = not_before ts m n a b in
    let more : n < m → ⊥ = not_before ts n m b a in
    omega arith

-- so at most one place of a text is where something unexpected stands
pub one_place : (text : List ℕ) (tokens : List Token) (a b : Site) → IsUnexpected text tokens a → IsUnexpected text tokens b → a ≡ b
one_place text tokens a b h k =
    h.place ∙ ap (λ (n : ℕ). place_from text (drop n tokens)) (one_index (terminals_of text tokens) h.index k.index h.fault k.fault) ∙ sym k.place
