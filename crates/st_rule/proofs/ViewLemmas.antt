-- One view changes, and the others stay.
use Rattle.std.proofs.Common.{◌≡◌, ◌≢◌, ℕ, zero, suc, List, [], ◌∷◌, set, sym, refl, ap, subst}
use Rattle.std.proofs.Common.{◌∙◌, ⊎_elim, eq-eqb, ne_eqb}
use mathlib.Core.Logic.{dite}
use native.Mathlib.Decide.{ℕ_discrete}
use mathlib.Core.Option.{some, some-injective, some-ne-none}
use lib.ListN.{get_elem?}
use Rattle.atomic_table.proofs.Lists.{at_set}
use Rattle.st_events.specs.World.{at}
use Rattle.st_rule.specs.declared.views.MutView.{MutView}
use Rattle.st_rule.specs.declared.views.View.{View}
use Rattle.st_rule.specs.declared.views.View.TheVariants.{Mut, Gone}
use Rattle.st_rule.specs.Parts.{Sits}
use Rattle.st_rule.specs.Views.{mutator_of}

-- the new view sits where the old one did
pub set_there : {A : Type 0} → (xs : List A) (i : ℕ) (a b : A) → get_elem? xs i ≡ some a → get_elem? (set xs i b) i ≡ some b
set_there [] i a b e = absurd (some-ne-none a (sym e))
set_there (x ∷ xs) zero a b e = refl
set_there (x ∷ xs) (suc i) a b e = set_there xs i a b e

-- one seat has one view
pub sits_once : (views : List View) (id : ℕ) (x y : View) → Sits views id x → Sits views id y → x ≡ y
sits_once views id x y p q = some-injective x y (sym p ∙ q)

-- a view that was joined away is not a mutator's
pub gone_is_no_mutator : (u : MutView) → Gone ≡ Mut u → ⊥
gone_is_no_mutator u e = absurd cc

-- one view is one mutator's view
pub mut_is : (v w : MutView) → Mut v ≡ Mut w → v ≡ w
mut_is v w e = ap mutator_of e

-- what holds of the new view, and of each that stays, holds of each
pub all_set :
    (P : ℕ → View → Type 0) (views : List View) (id : ℕ) (w : View)
    → P id w
    → ((j : ℕ) (u : View) → j ≢ id → Sits views j u → P j u)
    → (j : ℕ) (u : View) → Sits (set views id w) j u → P j u
all_set P views id w here others j u sits = ⊎_elim
    (λ t. subst (λ (p : ℕ × View). P p.0 p.1) (λ k. (sym t.0 k, t.1 k)) here)
    (λ t. others j u t.0 t.1)
    (at_set views id j w u sits)

-- the same of mutators' views alone
pub all_mut_set :
    (P : ℕ → MutView → Type 0) (views : List View) (id : ℕ) (w : MutView)
    → P id w
    → ((j : ℕ) (u : MutView) → j ≢ id → Sits views j (Mut u) → P j u)
    → (j : ℕ) (u : MutView) → Sits (set views id (Mut w)) j (Mut u) → P j u
all_mut_set P views id w here others j u sits = ⊎_elim
    (λ t. subst (λ (p : ℕ × MutView). P p.0 p.1) (λ k. (sym t.0 k, mut_is w u t.1 k)) here)
    (λ t. others j u t.0 t.1)
    (at_set views id j (Mut w) (Mut u) sits)

-- a function changed at one number
pub at_here : {A : Type 0} → (k : ℕ) (x : A) (f : ℕ → A) → at k x f k ≡ x
at_here k x f = rw (eq-eqb k k refl) refl

-- a function changed at one number is at every other number what it was
pub at_else : {A : Type 0} → (k : ℕ) (x : A) (f : ℕ → A) (n : ℕ) → n ≢ k → at k x f n ≡ f n
at_else k x f n apart = rw (ne_eqb n k apart) refl

-- a function changed to what it is
pub at_same : {A : Type 0} → (k : ℕ) (x : A) (f : ℕ → A) (n : ℕ) → f k ≡ x → at k x f n ≡ f n
at_same k x f n is = dite (ℕ_discrete n k) (λ same. ap (at k x f) same ∙ at_here k x f ∙ sym is ∙ ap f (sym same)) (λ other. at_else k x f n other)
