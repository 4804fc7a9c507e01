-- The main thread's number has no own events in a legal list, so what it has seen may grow by a join.
use Rattle.std.proofs.Common.{◌≡◌, ℕ, suc, ◌<◌, ◌==◌, Bool, true, false, if◌then◌else◌, nat_lt, List, [], ◌∷◌, length, sym, refl, ap, subst, ◌∙◌}
use Rattle.std.proofs.Common.{arith, ne_eqb}
use Rattle.st_events.specs.declared.events.Event.{Event}
use Rattle.st_events.specs.declared.events.Event.TheVariants.{New, Load, Store, Cas, Launch, Retire}
use Rattle.st_events.specs.declared.limits.Sizes.{Sizes}
use Rattle.st_events.specs.Shape.{ShapeLists}
use Rattle.st_events.specs.World.{World, next, first_world}
use Rattle.st_events.specs.Legal.{IsLegalNext, IsLegalFrom, IsLegal}
use Rattle.st_events.specs.History.{is_own}
use Rattle.st_events.proofs.LegalEvents.{legal_new, legal_load, legal_store, legal_cas, legal_launch}
use Rattle.st_rule.specs.declared.views.MutView.{MutView}
use Rattle.st_rule.specs.Entries.{own_entries}
use Rattle.st_rule.specs.SeatValue.{IsFairView}
use Rattle.st_rule.specs.Turns.{longer, joined_with}
use Rattle.st_rule.proofs.EntryLemmas.{entry}

below_is_other : (m count : ℕ) → m < count → (m == count) ≡ false
below_is_other m count lt = ne_eqb m count (λ e. absurd (omega (arith, lt, e)))

not_mains : (shape : ShapeLists) (sizes : Sizes) (w : World) (e : Event) → IsLegalNext shape sizes w e → is_own sizes.mutators e ≡ false
not_mains shape sizes w (New m obj class) l = below_is_other m sizes.mutators (legal_new shape sizes w m obj class l).thread
not_mains shape sizes w (Load m obj field value) l = below_is_other m sizes.mutators (legal_load shape sizes w m obj field value l).thread
not_mains shape sizes w (Store m obj field value) l = below_is_other m sizes.mutators (legal_store shape sizes w m obj field value l).thread
not_mains shape sizes w (Cas m obj field expect value done) l = below_is_other m sizes.mutators (legal_cas shape sizes w m obj field expect value done l).thread
not_mains shape sizes w (Launch m site number args) l = below_is_other m sizes.mutators (legal_launch shape sizes w m number site args l).thread
not_mains shape sizes w (Retire m number) l = refl

main_owns_none : (shape : ShapeLists) (sizes : Sizes) (w : World) (k : ℕ) (es : List Event) → IsLegalFrom shape sizes w es → own_entries sizes.mutators k es ≡ []
main_owns_none shape sizes w k [] l = refl
main_owns_none shape sizes w k (e ∷ es) l =
    ap (λ b. if b then entry k e ∷ own_entries sizes.mutators (suc k) es else own_entries sizes.mutators (suc k) es) (not_mains shape sizes w e l.0)
    ∙ main_owns_none shape sizes (next shape sizes w e) (suc k) es l.1

-- in a legal journal no event is the main thread's
pub main_has_none : (shape : ShapeLists) (sizes : Sizes) (es : List Event) → IsLegal shape sizes es → own_entries sizes.mutators 0 es ≡ []
unfolding IsLegal
main_has_none shape sizes es l = main_owns_none shape sizes (first_world shape) 0 es l

one_of : (P : List Event → Type 0) (b : Bool) (xs ys : List Event) → P xs → P ys → P (if b then ys else xs)
one_of P true xs ys p q = q
one_of P false xs ys p q = p

-- of two lists seen the longer one
longer_is_one : (P : List Event → Type 0) (xs ys : List Event) → P xs → P ys → P (longer xs ys)
longer_is_one P xs ys p q = one_of P (nat_lt (length xs) (length ys)) xs ys p q

-- the main thread's view stays fair at a join
pub joined_fair :
    (v u : MutView) → v.gate.number ≡ v.terms.sizes.mutators → u.terms ≡ v.terms
    → IsFairView v → IsFairView u
    → IsFairView (joined_with v u)
joined_fair v u is_main same fair other =
    let that : IsLegal v.terms.shape v.terms.sizes u.journal.seen = subst (λ t. IsLegal t.shape t.sizes u.journal.seen) same other.legal in
    let none : (es : List Event) → IsLegal v.terms.shape v.terms.sizes es → own_entries v.gate.number 0 es ≡ v.journal.entries =
    λ es l. ap (λ n. own_entries n 0 es) is_main ∙ main_has_none v.terms.shape v.terms.sizes es l
    ∙ sym (main_has_none v.terms.shape v.terms.sizes v.journal.seen fair.legal) ∙ ap (λ n. own_entries n 0 v.journal.seen) (sym is_main) ∙ fair.own in
    let legal = longer_is_one (IsLegal v.terms.shape v.terms.sizes) v.journal.seen u.journal.seen fair.legal that in
    record {
      within = fair.within;
      shape_fits = fair.shape_fits;
      sizes_fit = fair.sizes_fit;
      legal = legal;
      own = none (longer v.journal.seen u.journal.seen) legal;
      held_within = fair.held_within;
    }
