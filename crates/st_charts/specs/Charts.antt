-- A grammar as a chart: what each part may be, told by the sort of the next token; and where a list of tokens goes wrong.
use Rattle.std.specs.Prelude.{◌≡◌, Bool, true, false, cond, List, [], ◌∷◌, ◌++◌, Option, Some, None, option_map}
use Rattle.std.specs.List.{list_any}

-- what a rule asks for next: a token of a sort, or a part that has rules of its own
pub data Symbol (K N : Type 0) : Type 0 where
  token : K → Symbol K N
  part : N → Symbol K N

-- a choice, and the sorts of the next token that tell it
pub record Told (K N : Type 0) : Type 0 where
  pub sorts : List K
  pub symbols : List (Symbol K N)

-- the choices of a part; the other one is taken at any other token and at the end
pub record Choices (K N : Type 0) : Type 0 where
  pub told : List (Told K N)
  pub other : Option (List (Symbol K N))

-- a grammar over tokens T of sorts K, with parts N: the sort of a token, whether two sorts are one, and the choices of each part
pub record Grammar (T K N : Type 0) : Type 0 where
  pub sort : T → K
  pub same : K → K → Bool
  pub choices : N → Choices K N

-- the first of a list
abbrev pub next : {A : Type 0} → List A → Option A
next [] = None
next (x ∷ xs) = Some x

-- the first choice that the sort tells, else the other choice
abbrev pub told_of : {K N : Type 0} → (K → Bool) → List (Told K N) → Option (List (Symbol K N)) → Option (List (Symbol K N))
told_of test [] other = other
told_of test (first ∷ later) other = cond (list_any test first.sorts) (Some first.symbols) (told_of test later other)

-- by the sort of the next token; nothing is the end
abbrev pub choice_of : {K N : Type 0} → (K → K → Bool) → Choices K N → Option K → Option (List (Symbol K N))
choice_of same choices None = choices.other
choice_of same choices (Some sort) = told_of (same sort) choices.told choices.other

-- the choice of a part where this is the sort of the next token, or nothing follows
abbrev pub choice_at : {T K N : Type 0} → Grammar T K N → N → Option K → Option (List (Symbol K N))
choice_at g n sort = choice_of g.same (g.choices n) sort

-- the sort of the next token, if there is one
abbrev pub sort_of_next : {T K N : Type 0} → Grammar T K N → List T → Option K
sort_of_next g ts = option_map g.sort (next ts)

-- Reading tokens for symbols, with one token of sight: what is left where the tokens first go wrong, or nothing where all
-- is read.
pub data Faults {T K N : Type 0} (g : Grammar T K N) : List (Symbol K N) → List T → Option (List T) → Type 0 where
  -- all symbols and all tokens are used
  whole : Faults g [] [] None
  -- tokens are left over
  left_over : {t : T} {ts : List T} → Faults g [] (t ∷ ts) (Some (t ∷ ts))
  -- the tokens end early
  ends : {k : K} {ss : List (Symbol K N)} → Faults g (token k ∷ ss) [] (Some [])
  -- the next token is of the sort
  fits : {k : K} {ss : List (Symbol K N)} {t : T} {ts : List T} {o : Option (List T)} → g.same (g.sort t) k ≡ true → Faults g ss ts o
      → Faults g (token k ∷ ss) (t ∷ ts) o
  -- it is not
  misfits : {k : K} {ss : List (Symbol K N)} {t : T} {ts : List T} → g.same (g.sort t) k ≡ false → Faults g (token k ∷ ss) (t ∷ ts) (Some (t ∷ ts))
  -- a choice of the part
  goes : {n : N} {c ss : List (Symbol K N)} {ts : List T} {o : Option (List T)} → choice_at g n (sort_of_next g ts) ≡ Some c → Faults g (c ++ ss) ts o
      → Faults g (part n ∷ ss) ts o
  -- no choice of the part
  stuck : {n : N} {ss : List (Symbol K N)} {ts : List T} → choice_at g n (sort_of_next g ts) ≡ None → Faults g (part n ∷ ss) ts (Some ts)
