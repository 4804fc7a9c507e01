-- The locals that expressions name, one after another.
use Rattle.std.proofs.Common.{◌≡◌, ℕ, ◌+◌, ◌<◌, ◌≤◌, suc, List, [], ◌∷◌, ◌++◌, map, length, drop}
use Rattle.std.proofs.Common.{get_or, Option, Some, None, slice_get, refl, ap, sym, ◌∙◌, add-one, drop-cons, append_assoc, append-nil}
use Rattle.std.specs.List.{flat_map}
use Rattle.std.specs.Prelude.{option_map}
use Rattle.std.proofs.lemmas.List.{drop_all, map-append}
use Rattle.std.proofs.lemmas.Option.{slice_get-map}
use Rattle.st_types.specs.declared.scopes.Local as code_local
use Rattle.st_types.specs.Scopes.{local_view}
use Rattle.st_events.specs.declared.events.Site.{Site}
use Rattle.st_ast.specs.declared.operators.Op.{Op}
use Rattle.st_ast.specs.declared.expressions.Expr.{Expr}
use Rattle.st_ast.specs.declared.expressions.Expr.TheVariants.{Call, Binary, Cond, rolls-Call, rolls-Binary, rolls-Cond}
use Rattle.st_ast.specs.declared.expressions.Expr.TheFolds.{fold-roll-Expr}
use Rattle.st_ast.specs.declared.expressions.Expr.TheOpen.{Expr-F}
use Rattle.st_types.specs.Names.{Local, find_local}
use Rattle.st_types.specs.Statements.{mentions, mentions_layer, with_number, numbers_of, locals_at, if_any}

-- names after names
pub numbers_of_append : (locals : List Local) (xs ys : List (List ℕ)) (numbers : List ℕ) → numbers_of locals (xs ++ ys) numbers ≡ numbers_of locals ys (numbers_of locals xs numbers)
numbers_of_append locals [] ys numbers = refl
numbers_of_append locals (x ∷ xs) ys numbers = numbers_of_append locals xs ys (with_number numbers (find_local locals x))

-- the expression at the index is the next
pub mentions_go : (locals : List Local) (es : List Expr) (i : ℕ) (d : Expr) (numbers : List ℕ) → i < length es
    → numbers_of locals (flat_map mentions (drop (i + 1) es)) (numbers_of locals (mentions (get_or es i d)) numbers) ≡ numbers_of locals (flat_map mentions (drop i es)) numbers
mentions_go locals es i d numbers h =
    rw (drop-cons es i d h, add-one) (sym (numbers_of_append locals (mentions (get_or es i d)) (flat_map mentions (drop (suc i) es)) numbers))

-- past the last, none are left
pub mentions_end : (locals : List Local) (es : List Expr) (i : ℕ) (numbers : List ℕ) → length es ≤ i → numbers_of locals (flat_map mentions (drop i es)) numbers ≡ numbers
mentions_end locals es i numbers h = rw (drop_all i es h) refl

all_of_mapped : (es : List Expr) → flat_map (λ names. names) (map mentions es) ≡ flat_map mentions es
all_of_mapped [] = refl
all_of_mapped (e ∷ es) = ap (λ names. mentions e ++ names) (all_of_mapped es)

-- the names in a call are those in its arguments
pub mentions_of_call : (name : List ℕ) (args : List Expr) (site : Site) → mentions (Call name args site) ≡ flat_map mentions args
mentions_of_call name args site = ap mentions (sym (rolls-Call name args site)) ∙ fold-roll-Expr (List (List ℕ)) mentions_layer (Expr-F.Call name args site) ∙ all_of_mapped args

-- an operator mentions what its left operand does, and then what its right one does
pub mentions_of_binary : (op : Op) (left right : Expr) (site : Site) → mentions (Binary op left right site) ≡ mentions left ++ mentions right
mentions_of_binary op left right site =
    ap mentions (sym (rolls-Binary op left right site)) ∙ fold-roll-Expr (List (List ℕ)) mentions_layer (Expr-F.Binary op left right site)
    ∙ ap (λ names. mentions left ++ names) (append-nil (mentions right))

-- a condition mentions what its test does, and then what its branches do
pub mentions_of_cond : (test left right : Expr) (site : Site) → mentions (Cond test left right site) ≡ mentions test ++ (mentions left ++ mentions right)
mentions_of_cond test left right site =
    ap mentions (sym (rolls-Cond test left right site)) ∙ fold-roll-Expr (List (List ℕ)) mentions_layer (Expr-F.Cond test left right site)
    ∙ ap (λ names. mentions test ++ (mentions left ++ names)) (append-nil (mentions right))

-- the locals that two expressions name, and three
pub after_two : (locals : List Local) (left right : List (List ℕ)) (old middle new : List ℕ)
    → middle ≡ numbers_of locals left old → new ≡ numbers_of locals right middle → new ≡ numbers_of locals (left ++ right) old
after_two locals left right old middle new a b = b ∙ ap (numbers_of locals right) a ∙ sym (numbers_of_append locals left right old)

-- what stands for the number at the index joins what is in front
pub found_goes : {X : Type 0} (f : ℕ → List X) (front : List X) (numbers : List ℕ) (i d : ℕ) → i < length numbers
    → (front ++ f (get_or numbers i d)) ++ flat_map f (drop (i + 1) numbers) ≡ front ++ flat_map f (drop i numbers)
found_goes f front numbers i d h = rw (drop-cons numbers i d h, add-one) (append_assoc front (f (get_or numbers i d)) (flat_map f (drop (suc i) numbers)))

-- the views of what is found are found among the views
pub found_views : (locals : List code_local.Local) (numbers : List ℕ) → map local_view (flat_map (λ n. if_any (slice_get locals n)) numbers) ≡ locals_at (map local_view locals) numbers
found_views locals [] = refl
found_views locals (n ∷ numbers) =
    map-append local_view (if_any (slice_get locals n)) (flat_map (λ n. if_any (slice_get locals n)) numbers)
    ∙ ap (λ ls. map local_view (if_any (slice_get locals n)) ++ ls) (found_views locals numbers)
    ∙ ap (λ ls. ls ++ locals_at (map local_view locals) numbers) (one (slice_get locals n) ∙ ap if_any (sym (slice_get-map local_view locals n)))
  where
    one : (l : Option code_local.Local) → map local_view (if_any l) ≡ if_any (option_map local_view l)
    one None = refl
    one (Some l) = refl
