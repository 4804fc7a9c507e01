-- The first of a list that is in excess, where those before it are counted.
use Rattle.std.specs.Prelude.{◌≡◌, List, [], ◌∷◌, ◌++◌, fold, Option, Some, None}

-- `excess` says what is in excess of a limit after such counts, and `next` are the counts after one more.
module _ {S T O : Type 0} (excess : S → T → Option O) (next : S → T → S) (start : S) where
  -- none is in excess
  abbrev pub AreWithin : List T → Type 0
  AreWithin ts = (before after : List T) (t : T) → ts ≡ before ++ t ∷ after → excess (fold next start before) t ≡ None

  -- this is the first that is in excess
  pub record IsFirst (ts : List T) (over : O) : Type 0 where
    pub before : List T
    pub here : T
    pub after : List T
    pub split : ts ≡ before ++ here ∷ after
    pub within : AreWithin before
    pub excess_here : excess (fold next start before) here ≡ Some over

-- what is in excess here comes before what is in excess later
abbrev pub or_else : {O : Type 0} → Option O → Option O → Option O
or_else None rest = rest
or_else (Some over) rest = Some over

-- the first that is in excess, where these counts stand before
abbrev pub first_from : {S T O : Type 0} → (S → T → Option O) → (S → T → S) → S → List T → Option O
first_from excess next counts [] = None
first_from excess next counts (t ∷ ts) = or_else (excess counts t) (first_from excess next (next counts t) ts)
