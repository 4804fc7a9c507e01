-- What is read as an event is what is written of it, and what is written of an event is read.
use Rattle.std.proofs.Common.{◌≡◌, ℕ, ◌^◌, ◌<◌, Bool, true, false, cond, ltb, eqb, ◌⊎◌, List, [], ◌∷◌, map, take, Option, Some, None}
use Rattle.std.proofs.Common.{refl, sym, ap, subst, ◌∙◌, arith, inl, inr}
use Rattle.std.specs.Prelude.{codes, replicate}
use Rattle.std.specs.Fmt.{decimal}
use Rattle.std.specs.List.{All}
use Rattle.std.specs.Str.{bytes_eq}
use Rattle.std.proofs.lemmas.Bool.{cases_lt, lt-ltb, le-ltb, eqb-true}
use Rattle.std.proofs.lemmas.List.Elements.{All-head, All-tail, All-cons, All-nil, All-append, All-replicate}
use Rattle.std.proofs.lemmas.Slice.Eq.{bytes_eq-Decides}
use Rattle.st_journal.specs.Terms.{Event, New, Load, Store, Cas, Launch, Retire, Args}
use Rattle.st_journal.specs.Format.{numbered, flag, event_words, FitsFields, HasArgWords, IsWord}
use Rattle.st_journal.specs.Reading.{byte, short, half, truth, new_in, load_in, store_in, cas_in, args_in, launch_in, retire_in, event_in}
use Rattle.st_journal.specs.Words.{◌>>=◌, below, number_in, numbers_in}
use Rattle.st_journal.proofs.NumberLemmas.{number_is_written, written_is_read}

-- ---- steps that may have no value

-- where two steps together have a value, the first has one, and the second gives the value from it
pub step_of : {A B : Type 0} (r : Option A) (f : A → Option B) (y : B) → (r >>= f) ≡ Some y → (x : A) × (r ≡ Some x) × (f x ≡ Some y)
step_of (Some x) f y e = (x, refl, e)
step_of None f y e = absurd cc

-- a number below a limit, and what comes of it
pub below_step : {B : Type 0} (limit n : ℕ) (f : ℕ → Option B) (y : B) → (below limit n >>= f) ≡ Some y → (n < limit) × (f n ≡ Some y)
below_step limit n f y e = elim (cases_lt n limit) [
  | inl lt ↦ let there : ltb n limit ≡ true = lt-ltb n limit lt in (lt, rw there at e)
  | inr le ↦ let past : ltb n limit ≡ false = le-ltb n limit le in absurd (nothing f y (rw past at e))
]
  where
    nothing : {B : Type 0} (f : ℕ → Option B) (y : B) → (None >>= f) ≡ Some y → ⊥
    nothing f y e = cc

-- a number below a limit passes the test of that limit
pub below_again : (limit n : ℕ) → n < limit → below limit n ≡ Some n
below_again limit n lt = let there : ltb n limit ≡ true = lt-ltb n limit lt in rw there refl

-- a tested choice
pub tested : {A : Type 0} (t : Bool) (x : Option A) (y : A) → cond t x None ≡ Some y → (t ≡ true) × (x ≡ Some y)
tested true x y e = (refl, e)
tested false x y e = absurd cc

-- words that the comparison of bytes finds equal are one word
pub words_same : (a b : List ℕ) → bytes_eq a b ≡ true → a ≡ b
words_same a b e = (bytes_eq-Decides a b).0 e

-- ---- the numbers of a line

-- where words are read as numbers, they are the decimal texts of these numbers, each of 64 bits
pub numbers_are_written : (words : List (List ℕ)) (numbers : List ℕ) → numbers_in words ≡ Some numbers → (words ≡ map decimal numbers) × All IsWord numbers
numbers_are_written [] numbers e = let none : [] ≡ numbers = cc in subst (λ (ns : List ℕ). ([] ≡ map decimal ns) × All IsWord ns) none (refl, All-nil IsWord)
numbers_are_written (word ∷ words) numbers e =
    let first = step_of (number_in word) (λ n. numbers_in words >>= λ ns. Some (n ∷ ns)) numbers e in
    let others = step_of (numbers_in words) (λ ns. Some (first.0 ∷ ns)) numbers first.2 in
    let all : first.0 ∷ others.0 ≡ numbers = cc (others.2) in
    let one = number_is_written word first.0 first.1 in
    let rest = numbers_are_written words others.0 others.1 in
    subst (λ (ns : List ℕ). (word ∷ words ≡ map decimal ns) × All IsWord ns) all
    (ap (λ (w : List ℕ). w ∷ words) one.0 ∙ ap (λ (ws : List (List ℕ)). decimal first.0 ∷ ws) rest.0, All-cons IsWord first.0 others.0 one.1 rest.1)

-- the decimal texts of numbers of 64 bits are read as these numbers
pub written_are_read : (numbers : List ℕ) → All IsWord numbers → numbers_in (map decimal numbers) ≡ Some numbers
written_are_read [] fit = refl
written_are_read (n ∷ numbers) fit = rw (written_is_read n (All-head IsWord n numbers fit), written_are_read numbers (All-tail IsWord n numbers fit)) refl

-- ---- what is read as an event is what is written of it

-- numbers after a tag are what is written of the event, and it fits
abbrev pub Spells : List ℕ → List ℕ → Event → Type 0
Spells tag numbers event = (numbered tag numbers ≡ event_words event) × FitsFields event

abbrev some_event : Event → Option Event
some_event event = Some event

new_takes : (numbers : List ℕ) (e : Event) → new_in numbers ≡ Some e → Spells (codes "N") numbers e
unfolding new_in
new_takes (m ∷ obj ∷ class ∷ []) e is =
    let a = below_step (2 ^ 8) m (λ m. half obj >>= λ obj. byte class >>= λ class. some_event (New m obj class)) e is in
    let b = below_step (2 ^ 32) obj (λ obj. byte class >>= λ class. some_event (New m obj class)) e a.1 in
    let c = below_step (2 ^ 8) class (λ class. some_event (New m obj class)) e b.1 in
    let all : New m obj class ≡ e = cc (c.1) in
    subst (Spells (codes "N") (m ∷ obj ∷ class ∷ [])) all (refl, (a.0, b.0, c.0))
new_takes _ e is = absurd cc

fourth_fits : (a b c d : ℕ) (more : List ℕ) → All IsWord (a ∷ b ∷ c ∷ d ∷ more) → IsWord d
fourth_fits a b c d more fit =
    All-head IsWord d more (All-tail IsWord c (d ∷ more) (All-tail IsWord b (c ∷ d ∷ more) (All-tail IsWord a (b ∷ c ∷ d ∷ more) fit)))

fifth_fits : (a b c d e : ℕ) (more : List ℕ) → All IsWord (a ∷ b ∷ c ∷ d ∷ e ∷ more) → IsWord e
fifth_fits a b c d e more fit = fourth_fits b c d e more (All-tail IsWord a (b ∷ c ∷ d ∷ e ∷ more) fit)

load_takes : (numbers : List ℕ) (e : Event) → All IsWord numbers → load_in numbers ≡ Some e → Spells (codes "L") numbers e
unfolding load_in
load_takes (m ∷ obj ∷ field ∷ value ∷ []) e fit is =
    let a = below_step (2 ^ 8) m (λ m. half obj >>= λ obj. byte field >>= λ field. some_event (Load m obj field value)) e is in
    let b = below_step (2 ^ 32) obj (λ obj. byte field >>= λ field. some_event (Load m obj field value)) e a.1 in
    let c = below_step (2 ^ 8) field (λ field. some_event (Load m obj field value)) e b.1 in
    let all : Load m obj field value ≡ e = cc (c.1) in
    subst (Spells (codes "L") (m ∷ obj ∷ field ∷ value ∷ [])) all (refl, (a.0, b.0, c.0, fourth_fits m obj field value [] fit))
load_takes _ e fit is = absurd cc

store_takes : (numbers : List ℕ) (e : Event) → All IsWord numbers → store_in numbers ≡ Some e → Spells (codes "S") numbers e
unfolding store_in
store_takes (m ∷ obj ∷ field ∷ value ∷ []) e fit is =
    let a = below_step (2 ^ 8) m (λ m. half obj >>= λ obj. byte field >>= λ field. some_event (Store m obj field value)) e is in
    let b = below_step (2 ^ 32) obj (λ obj. byte field >>= λ field. some_event (Store m obj field value)) e a.1 in
    let c = below_step (2 ^ 8) field (λ field. some_event (Store m obj field value)) e b.1 in
    let all : Store m obj field value ≡ e = cc (c.1) in
    subst (Spells (codes "S") (m ∷ obj ∷ field ∷ value ∷ [])) all (refl, (a.0, b.0, c.0, fourth_fits m obj field value [] fit))
store_takes _ e fit is = absurd cc

-- 1 or 0
truth_step : {B : Type 0} (n : ℕ) (f : Bool → Option B) (y : B) → (truth n >>= f) ≡ Some y → (t : Bool) × (n ≡ flag t) × (f t ≡ Some y)
truth_step n f y e = chosen_truth (eqb n 1) (eqb n 0) refl refl e
  where
    chosen_truth : (one none : Bool) → eqb n 1 ≡ one → eqb n 0 ≡ none → (cond one (Some true) (cond none (Some false) None) >>= f) ≡ Some y
        → (t : Bool) × (n ≡ flag t) × (f t ≡ Some y)
    chosen_truth true none is is_none e = (true, eqb-true n 1 is, e)
    chosen_truth false true is is_none e = (false, eqb-true n 0 is_none, e)
    chosen_truth false false is is_none e = absurd cc

cas_takes : (numbers : List ℕ) (e : Event) → All IsWord numbers → cas_in numbers ≡ Some e → Spells (codes "C") numbers e
unfolding cas_in
cas_takes (m ∷ obj ∷ field ∷ expect ∷ value ∷ done ∷ []) e fit is =
    let a = below_step (2 ^ 8) m (λ m. half obj >>= λ obj. byte field >>= λ field. truth done >>= λ done. some_event (Cas m obj field expect value done)) e is in
    let b = below_step (2 ^ 32) obj (λ obj. byte field >>= λ field. truth done >>= λ done. some_event (Cas m obj field expect value done)) e a.1 in
    let c = below_step (2 ^ 8) field (λ field. truth done >>= λ done. some_event (Cas m obj field expect value done)) e b.1 in
    let d = truth_step done (λ done. some_event (Cas m obj field expect value done)) e c.1 in
    let all : Cas m obj field expect value d.0 ≡ e = cc (d.2) in
    subst (Spells (codes "C") (m ∷ obj ∷ field ∷ expect ∷ value ∷ done ∷ [])) all (
      ap (λ (n : ℕ). numbered (codes "C") (m ∷ obj ∷ field ∷ expect ∷ value ∷ n ∷ [])) d.1,
      (a.0, b.0, c.0, fourth_fits m obj field expect (value ∷ done ∷ []) fit, fifth_fits m obj field expect value (done ∷ []) fit),
    )
cas_takes _ e fit is = absurd cc

-- the arguments of a launch
abbrev made : ℕ → List ℕ → Args
made count words = record { count = count; words = words }

abbrev some_args : ℕ → List ℕ → Option Args
some_args count words = Some (made count words)

abbrev SpellsArgs : ℕ → List ℕ → Args → Type 0
SpellsArgs count words args = (count ∷ words ≡ args.count ∷ take args.count args.words) × HasArgWords args

zeros_fit : (n : ℕ) → All IsWord (replicate n 0)
zeros_fit n = All-replicate IsWord n 0 (omega arith)

-- so many words and zeros
args_of : (count n : ℕ) (words all : List ℕ) (args : Args) → SpellsArgs n words (made n all) → cond (eqb count n) (some_args count all) None ≡ Some args → SpellsArgs count words args
args_of count n words all args spelled e =
    let t = tested (eqb count n) (some_args count all) args e in
    let same : count ≡ n = eqb-true count n t.0 in
    let is : made count all ≡ args = cc (t.1) in
    subst (SpellsArgs count words) is (subst (λ (k : ℕ). SpellsArgs k words (made k all)) (sym same) spelled)

args_take : (count : ℕ) (words : List ℕ) (args : Args) → All IsWord words → args_in count words ≡ Some args → SpellsArgs count words args
unfolding args_in
args_take count [] args fit e =
    args_of count 0 [] (0 ∷ 0 ∷ 0 ∷ 0 ∷ []) args (refl, record { room = refl; words = zeros_fit 4; used = record { count = omega arith; unused = refl } }) e
args_take count (a ∷ []) args fit e =
    args_of count 1 (a ∷ []) (a ∷ 0 ∷ 0 ∷ 0 ∷ []) args
    (refl, record { room = refl; words = All-append IsWord (a ∷ []) (0 ∷ 0 ∷ 0 ∷ []) fit (zeros_fit 3); used = record { count = omega arith; unused = refl } }) e
args_take count (a ∷ b ∷ []) args fit e =
    args_of count 2 (a ∷ b ∷ []) (a ∷ b ∷ 0 ∷ 0 ∷ []) args
    (refl, record { room = refl; words = All-append IsWord (a ∷ b ∷ []) (0 ∷ 0 ∷ []) fit (zeros_fit 2); used = record { count = omega arith; unused = refl } }) e
args_take count (a ∷ b ∷ c ∷ []) args fit e =
    args_of count 3 (a ∷ b ∷ c ∷ []) (a ∷ b ∷ c ∷ 0 ∷ []) args
    (refl, record { room = refl; words = All-append IsWord (a ∷ b ∷ c ∷ []) (0 ∷ []) fit (zeros_fit 1); used = record { count = omega arith; unused = refl } }) e
args_take count (a ∷ b ∷ c ∷ d ∷ []) args fit e =
    args_of count 4 (a ∷ b ∷ c ∷ d ∷ []) (a ∷ b ∷ c ∷ d ∷ []) args
    (refl, record { room = refl; words = fit; used = record { count = omega arith; unused = refl } }) e
args_take count (a ∷ b ∷ c ∷ d ∷ x ∷ more) args fit e = absurd cc

launch_takes : (numbers : List ℕ) (e : Event) → All IsWord numbers → launch_in numbers ≡ Some e → Spells (codes "K") numbers e
unfolding launch_in
launch_takes (m ∷ number ∷ site ∷ count ∷ words) e fit is =
    let a = below_step (2 ^ 8) m (λ m. half number >>= λ number. short site >>= λ site. args_in count words >>= λ args. some_event (Launch m site number args)) e is in
    let b = below_step (2 ^ 32) number (λ number. short site >>= λ site. args_in count words >>= λ args. some_event (Launch m site number args)) e a.1 in
    let c = below_step (2 ^ 16) site (λ site. args_in count words >>= λ args. some_event (Launch m site number args)) e b.1 in
    let d = step_of (args_in count words) (λ args. some_event (Launch m site number args)) e c.1 in
    let all : Launch m site number d.0 ≡ e = cc (d.2) in
    let rest = All-tail IsWord count words (All-tail IsWord site (count ∷ words) (All-tail IsWord number (site ∷ count ∷ words) (All-tail IsWord m (number ∷ site ∷ count ∷ words) fit))) in
    let args = args_take count words d.0 rest d.1 in
    subst (Spells (codes "K") (m ∷ number ∷ site ∷ count ∷ words)) all
    (ap (λ (ns : List ℕ). numbered (codes "K") (m ∷ number ∷ site ∷ ns)) args.0, (a.0, b.0, c.0, args.1))
launch_takes _ e fit is = absurd cc

retire_takes : (numbers : List ℕ) (e : Event) → retire_in numbers ≡ Some e → Spells (codes "R") numbers e
unfolding retire_in
retire_takes (m ∷ number ∷ []) e is =
    let a = below_step (2 ^ 8) m (λ m. half number >>= λ number. some_event (Retire m number)) e is in
    let b = below_step (2 ^ 32) number (λ number. some_event (Retire m number)) e a.1 in
    let all : Retire m number ≡ e = cc (b.1) in
    subst (Spells (codes "R") (m ∷ number ∷ [])) all (refl, (a.0, b.0))
retire_takes _ e is = absurd cc

-- what a choice gives comes from its first side, and then the test held, or from its second side
pub choice : {A : Type 0} (t : Bool) (x y : Option A) (z : A) → cond t x y ≡ Some z → ((t ≡ true) × (x ≡ Some z)) ⊎ (y ≡ Some z)
choice true x y z e = inl (refl, e)
choice false x y z e = inr e

retagged : (tag known numbers : List ℕ) (e : Event) → bytes_eq tag known ≡ true → Spells known numbers e → Spells tag numbers e
retagged tag known numbers e same spelled = subst (λ (t : List ℕ). Spells t numbers e) (sym (words_same tag known same)) spelled

-- the event that a tag and numbers are read as has this tag and these numbers for its words, and they fit its fields
pub event_takes : (tag numbers : List ℕ) (e : Event) → All IsWord numbers → event_in tag numbers ≡ Some e → Spells tag numbers e
unfolding event_in
event_takes tag numbers e fit is =
    let after_k : Option Event = cond (bytes_eq tag (codes "R")) (retire_in numbers) None in
    let after_c : Option Event = cond (bytes_eq tag (codes "K")) (launch_in numbers) after_k in
    let after_s : Option Event = cond (bytes_eq tag (codes "C")) (cas_in numbers) after_c in
    let after_l : Option Event = cond (bytes_eq tag (codes "S")) (store_in numbers) after_s in
    let after_n : Option Event = cond (bytes_eq tag (codes "L")) (load_in numbers) after_l in
    elim (choice (bytes_eq tag (codes "N")) (new_in numbers) after_n e is) [
      | inl n ↦ retagged tag (codes "N") numbers e n.0 (new_takes numbers e n.1)
      | inr no_n ↦ elim (choice (bytes_eq tag (codes "L")) (load_in numbers) after_l e no_n) [
        | inl l ↦ retagged tag (codes "L") numbers e l.0 (load_takes numbers e fit l.1)
        | inr no_l ↦ elim (choice (bytes_eq tag (codes "S")) (store_in numbers) after_s e no_l) [
          | inl s ↦ retagged tag (codes "S") numbers e s.0 (store_takes numbers e fit s.1)
          | inr no_s ↦ elim (choice (bytes_eq tag (codes "C")) (cas_in numbers) after_c e no_s) [
            | inl c ↦ retagged tag (codes "C") numbers e c.0 (cas_takes numbers e fit c.1)
            | inr no_c ↦ elim (choice (bytes_eq tag (codes "K")) (launch_in numbers) after_k e no_c) [
              | inl k ↦ retagged tag (codes "K") numbers e k.0 (launch_takes numbers e fit k.1)
              | inr no_k ↦
                  let r = tested (bytes_eq tag (codes "R")) (retire_in numbers) e no_k in
                  retagged tag (codes "R") numbers e r.0 (retire_takes numbers e r.1)
            ]
          ]
        ]
      ]
    ]
