-- Faults in the order of the walk, and what they come to: the first of them, or what is asked for.
use Rattle.std.specs.Prelude.{◌≡◌, List, [], ◌∷◌, Result, Ok, Err}
use Rattle.st_types.specs.declared.errors.TypeError.{TypeError}
use Rattle.st_types.specs.declared.errors.TypeError.TheVariants.{Memory}

-- a value, or a fault
abbrev pub Checked : Type 0 → Type 0
Checked A = Result A TypeError

-- the first fault, or the value where there is none
abbrev pub verdict : {A : Type 0} → List TypeError → A → Checked A
verdict [] a = Ok a
verdict (fault ∷ faults) a = Err fault

infixl 10 ◌>>=◌
-- first one, then with its value the other
abbrev pub ◌>>=◌ : {A B : Type 0} → Checked A → (A → Checked B) → Checked B
(Ok a) >>= f = f a
(Err fault) >>= f = Err fault

infixl 10 ◌>>◌
-- first one, then the other, whatever the value of the first
abbrev pub ◌>>◌ : {A B : Type 0} → Checked A → Checked B → Checked B
p >> q = p >>= (λ _. q)

-- the error is this fault, unless memory ran out
abbrev pub Fails : {B : Type 0} → TypeError → Checked B → Type 0
Fails Memory expected = Unit {0}
Fails fault expected = expected ≡ Err fault

-- what a function returned, seen by `view`, is what is expected, unless memory ran out
abbrev pub Gives : {A B : Type 0} → (A → B) → Checked A → Checked B → Type 0
Gives view (Ok a) expected = expected ≡ Ok (view a)
Gives view (Err fault) expected = Fails fault expected
