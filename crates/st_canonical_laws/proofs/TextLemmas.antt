-- Whether terminals are a text of the grammar depends on their sorts alone.
use Rattle.std.proofs.Common.{◌≡◌, List, [], ◌∷◌, map, Option, Some, None, refl, ap, ◌∙◌}
use Rattle.st_ast.specs.declared.declarations.Program.{Program}
use Rattle.st_charts.specs.Charts.{Symbol, Grammar, Faults, whole, left_over, ends, fits, misfits, goes, stuck, choice_at, sort_of_next}
use Rattle.st_grammar_laws.proofs.Chart.{grammar}
use Rattle.st_grammar_laws.proofs.Exact.{spelled_is_text, text_is_spelled}
use Rattle.st_grammar.specs.Grammar.{Parses}
use Rattle.st_grammar.specs.Terminals.{Terminal}

-- the first of a list, or this one where there is none
abbrev pub head_or : {A : Type 0} → A → List A → A
head_or a [] = a
head_or a (x ∷ xs) = x

-- all but the first
abbrev pub tail_of : {A : Type 0} → List A → List A
tail_of [] = []
tail_of (x ∷ xs) = xs

-- the sort of the next token
next_same : {T K N : Type 0} (g : Grammar T K N) (us ts : List T) → map g.sort us ≡ map g.sort ts → sort_of_next g us ≡ sort_of_next g ts
next_same g [] [] e = refl
next_same g [] (t ∷ ts) e = absurd cc
next_same g (u ∷ us) [] e = absurd cc
next_same g (u ∷ us) (t ∷ ts) e = ap (λ l. Some (head_or (g.sort u) l)) e

-- what is read whole is read whole by the same sorts
same_sorts : {T K N : Type 0} (g : Grammar T K N) {ss : List (Symbol K N)} {ts : List T} {o : Option (List T)} → Faults g ss ts o → o ≡ None
    → (us : List T) → map g.sort us ≡ map g.sort ts → Faults g ss us None
same_sorts g whole none [] e = whole
same_sorts g whole none (u ∷ us) e = absurd cc
same_sorts g left_over none us e = absurd cc
same_sorts g ends none us e = absurd cc
same_sorts g (fits h f) none [] e = absurd cc
same_sorts g (fits {k = k} {t = t} h f) none (u ∷ us) e =
    fits (ap (λ l. g.same (head_or (g.sort u) l) k) e ∙ h) (same_sorts g f none us (ap tail_of e))
same_sorts g (misfits h) none us e = absurd cc
same_sorts g (goes {n = n} {ts = ts} h f) none us e =
    goes (ap (choice_at g n) (next_same g us ts e) ∙ h) (same_sorts g f none us e)
same_sorts g (stuck h) none us e = absurd cc

-- terminals of the same sorts spell some tree, too
pub spelled_again : (ts us : List Terminal) (p : Program) → Parses ts p → map (λ t. t.sort) us ≡ map (λ t. t.sort) ts
    → (q : Program) × Parses us q
spelled_again ts us p h e = text_is_spelled us (same_sorts grammar (spelled_is_text ts p h) refl us e)
