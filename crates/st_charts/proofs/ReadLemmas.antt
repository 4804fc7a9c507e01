-- One step of the chart, backwards and forwards.
use Rattle.std.proofs.Common.{◌≡◌, Bool, true, false, List, [], ◌∷◌, ◌++◌, Option, Some, None, refl, sym, subst}
use Rattle.st_charts.specs.Charts.{Symbol, token, part, Grammar, choice_at, sort_of_next, Faults, whole, left_over, ends, fits, misfits, goes, stuck}

-- what a fault says, by the first symbol and the first token
abbrev AtToken : {T K N : Type 0} → Grammar T K N → List (Symbol K N) → T → List T → Option (List T) → Bool → Type 0
AtToken g ss t ts o true = Faults g ss ts o
AtToken g ss t ts o false = o ≡ Some (t ∷ ts)

abbrev AtPart : {T K N : Type 0} → Grammar T K N → List (Symbol K N) → List T → Option (List T) → Option (List (Symbol K N)) → Type 0
AtPart g ss ts o None = o ≡ Some ts
AtPart g ss ts o (Some c) = Faults g (c ++ ss) ts o

abbrev Turn : {T K N : Type 0} → Grammar T K N → List (Symbol K N) → List T → Option (List T) → Type 0
Turn g [] [] o = o ≡ None
Turn g [] (t ∷ ts) o = o ≡ Some (t ∷ ts)
Turn g (token k ∷ ss) [] o = o ≡ Some []
Turn g (token k ∷ ss) (t ∷ ts) o = AtToken g ss t ts o (g.same (g.sort t) k)
Turn g (part n ∷ ss) ts o = AtPart g ss ts o (choice_at g n (sort_of_next g ts))

turn : {T K N : Type 0} (g : Grammar T K N) {ss : List (Symbol K N)} {ts : List T} {o : Option (List T)} → Faults g ss ts o → Turn g ss ts o
turn g whole = refl
turn g left_over = refl
turn g ends = refl
turn g (fits {ss = ss} {t = t} {ts = ts} {o = o} e h) = subst (AtToken g ss t ts o) (sym e) h
turn g (misfits {ss = ss} {t = t} {ts = ts} e) = subst (AtToken g ss t ts (Some (t ∷ ts))) (sym e) refl
turn g (goes {ss = ss} {ts = ts} {o = o} e h) = subst (AtPart g ss ts o) (sym e) h
turn g (stuck {ss = ss} {ts = ts} e) = subst (AtPart g ss ts (Some ts)) (sym e) refl

-- tokens have one first fault
pub one_fault : {T K N : Type 0} (g : Grammar T K N) {ss : List (Symbol K N)} {ts : List T} {a b : Option (List T)} → Faults g ss ts a → Faults g ss ts b → a ≡ b
one_fault g whole h = sym (turn g h)
one_fault g left_over h = sym (turn g h)
one_fault g ends h = sym (turn g h)
one_fault g {b = b} (fits {ss = ss} {t = t} {ts = ts} e f) h = one_fault g f (subst (AtToken g ss t ts b) e (turn g h))
one_fault g {b = b} (misfits {ss = ss} {t = t} {ts = ts} e) h = sym (subst (AtToken g ss t ts b) e (turn g h))
one_fault g {b = b} (goes {ss = ss} {ts = ts} e f) h = one_fault g f (subst (AtPart g ss ts b) e (turn g h))
one_fault g {b = b} (stuck {ss = ss} {ts = ts} e) h = sym (subst (AtPart g ss ts b) e (turn g h))
