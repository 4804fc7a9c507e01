-- What is known of a reader's answer, by how it ended.
use Rattle.std.proofs.Common.{◌≡◌, Bool, true, false, List, [], ◌∷◌, ◌++◌, Result, Ok, Err, refl, ap, subst, sym, ◌∙◌, rules}
use Rattle.std.specs.Prelude.{IsErrAnd}
use Rattle.std.proofs.lemmas.Result.{err_from_is_err_and}
use Rattle.st_grammar.specs.declared.sorts.Sort.{Sort}
use Rattle.st_grammar.specs.declared.sorts.Sort.TheVariants as sort
use Rattle.st_parse.specs.declared.stops.Stop.{Stop}
use Rattle.st_parse.specs.declared.stops.Stop.TheVariants as stop
use Rattle.st_grammar.specs.Terminals.{Terminal, next_sort}
use Rattle.st_grammar_laws.specs.Reading.{Outcome, Reader, and_then, turns, many, one_more, listed, is_sort, after_comma}
use Rattle.st_parse.specs.Reads.{StopsAt, Reads}
use Rattle.st_parse.proofs.Turns.{no_turn, turn_refused}

-- a reader that answers with a value has read what the reading function reads
pub reads_ok : {X A : Type 0} (view : X → A) (o : Outcome A) (r : Result X Stop) (left : List Terminal) (x : X)
    → Reads view o r left → r ≡ Ok x → o ≡ Ok (view x, left)
reads_ok view o r left x h e = subst (λ r. Reads view o r left) e h

-- a reader that answers with an error has stopped where the reading function stops, unless memory ran out
pub reads_err : {X A : Type 0} (view : X → A) (o : Outcome A) (r : Result X Stop) (left : List Terminal) (why : Stop)
    → Reads view o r left → r ≡ Err why → StopsAt o why left
reads_err view o r left why h e = subst (λ r. Reads view o r left) e h

-- a loop stops where its turn stops
pub loop_stops : {A : Type 0} (asks : Sort → Bool) (turn : A → Reader A) (x : A) (ts us : List Terminal) (start : Outcome A) (why : Stop)
    → asks sort.Other ≡ false → start ≡ turns asks turn x ts → asks (next_sort ts) ≡ true → StopsAt (turn x ts) why us → StopsAt start why us
loop_stops asks turn x ts us start stop.Memory none same asked h = tt
loop_stops asks turn x ts us start stop.Fault none same asked h = same ∙ turn_refused asks turn x ts us none asked h

-- the exit of a `?` hands on why a reader stopped
pub handed_on : {X A : Type 0} (view : X → A) (o : Outcome A) (r : Result X Stop) (left : List Terminal) (why : Stop)
    → IsErrAnd r (λ e. e ≡ why) → StopsAt o why left → Reads view o r left
handed_on view o r left why is h =
    let p = err_from_is_err_and r is in
    subst (λ r. Reads view o r left) (sym p.1) (subst (λ e. StopsAt o e left) (sym p.2) h)

-- the exit of a `?` that wants memory
pub memory_gone : {X A : Type 0} (view : X → A) (o : Outcome A) (r : Result X Stop) (left : List Terminal)
    → IsErrAnd r (λ e. e ≡ stop.Memory) → Reads view o r left
memory_gone view o r left is = handed_on view o r left stop.Memory is tt

-- one more item is read where the item is
pub more_made : {A : Type 0} (item : Reader A) (items longer : List A) (x : A) (ts us : List Terminal)
    → item ts ≡ Ok (x, us) → longer ≡ items ++ x ∷ [] → one_more item items ts ≡ Ok (longer, us)
more_made item items longer x ts us made is = ap (λ o. and_then o (λ x us. Ok (items ++ x ∷ [], us))) made ∙ ap (λ l. Ok (l, us)) (sym is)

-- a list gets no further item where the item stops, and stops there too
pub more_stops : {A : Type 0} (item : Reader A) (items : List A) (ts us : List Terminal) (why : Stop)
    → StopsAt (item ts) why us → StopsAt (one_more item items ts) why us
more_stops item items ts us stop.Memory h = tt
more_stops item items ts us stop.Fault h = ap (λ o. and_then o (λ x us. Ok (items ++ x ∷ [], us))) h

-- a list with commas goes on after its first item
pub listed_begins : {A : Type 0} (item : Reader A) (x : A) (found : List A) (ts us : List Terminal)
    → item ts ≡ Ok (x, us) → found ≡ x ∷ [] → listed item ts ≡ turns (is_sort sort.Comma) (one_more (after_comma item)) found us
unfolding listed
listed_begins item x found ts us made is =
    ap (λ o. and_then o (λ first. turns (is_sort sort.Comma) (one_more (after_comma item)) (first ∷ []))) made
    ∙ ap (λ l. turns (is_sort sort.Comma) (one_more (after_comma item)) l us) (sym is)

-- a list begins empty
pub many_begins : {A : Type 0} (asks : Sort → Bool) (item : Reader A) (found : List A) (ts : List Terminal)
    → found ≡ [] → many asks item ts ≡ turns asks (one_more item) found ts
unfolding many
many_begins asks item found ts is = ap (λ l. turns asks (one_more item) l ts) (sym is)

-- a list with commas stops where its first item stops
pub listed_stops : {A : Type 0} (item : Reader A) (ts us : List Terminal) (why : Stop) → StopsAt (item ts) why us → StopsAt (listed item ts) why us
unfolding listed
listed_stops item ts us stop.Memory h = tt
listed_stops item ts us stop.Fault h = ap (λ o. and_then o (λ first. turns (is_sort sort.Comma) (one_more (after_comma item)) (first ∷ []))) h
