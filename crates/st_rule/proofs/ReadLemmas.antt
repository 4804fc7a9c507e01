-- What the steps of others make of a check's read: its check stays active, and its forwarding word is written at most once.
use Rattle.std.proofs.Common.{◌≡◌, ◌≢◌, ℕ, ◌==◌, ◌&&◌, Bool, true, false, not, List, Option, Some, set, sym, refl, ap, ◌∙◌, ⊎_elim, inl, inr}
use Rattle.std.proofs.lemmas.Bool.Decides.{nat_tests}
use Rattle.std.proofs.Common.{arith}
use Rattle.atomic_table.proofs.Lists.{at_set}
use Rattle.st_layout.specs.Packed.{high_half, low_half}
use Rattle.st_events.specs.World.{World, Launched, is_among}
use Rattle.st_rule.specs.declared.forwards.TheConstants.{LOST}
use Rattle.st_rule.specs.declared.views.HalfRead.{HalfRead}
use Rattle.st_rule.specs.declared.views.LaneView.{LaneView}
use Rattle.st_rule.specs.declared.views.MutView.{MutView}
use Rattle.st_rule.specs.declared.views.Terms.{Terms}
use Rattle.st_rule.specs.declared.views.View.{View}
use Rattle.st_rule.specs.declared.views.View.TheVariants.{Mut, Lane, Gone}
use Rattle.st_rule.specs.Parts.{Sits}
use Rattle.st_rule.specs.Reading.{IsReading, IsHalfDone, names_copy}

-- a mutator's view is not a lane's
pub mut_is_no_lane : (w : MutView) (u : LaneView) → Mut w ≡ Lane u → ⊥
mut_is_no_lane w u e = absurd cc

-- a view that was joined away is not a lane's
pub gone_is_no_lane : (u : LaneView) → Gone ≡ Lane u → ⊥
gone_is_no_lane u e = absurd cc

-- and a lane's is not one that was joined away
pub gone_is_lane : (u : LaneView) → Lane u ≡ Gone → ⊥
gone_is_lane u e = absurd cc

-- where a mutator's view changes, the lanes' views stay
pub lanes_stay :
    (views : List View) (id : ℕ) (w : MutView) (P : ℕ → LaneView → Type 0)
    → ((j : ℕ) (u : LaneView) → Sits views j (Lane u) → P j u)
    → (j : ℕ) (u : LaneView) → Sits (set views id (Mut w)) j (Lane u) → P j u
lanes_stay views id w P old j u there = ⊎_elim
    (λ new. absurd (mut_is_no_lane w u new.1))
    (λ was. old j u was.1)
    (at_set views id j (Mut w) (Lane u) there)

-- where a lane's view changes, the mutators' views stay
pub muts_stay :
    (views : List View) (id : ℕ) (w : LaneView) (P : ℕ → MutView → Type 0)
    → ((j : ℕ) (u : MutView) → Sits views j (Mut u) → P j u)
    → (j : ℕ) (u : MutView) → Sits (set views id (Lane w)) j (Mut u) → P j u
muts_stay views id w P old j u there = ⊎_elim
    (λ new. absurd (mut_is_no_lane u w (sym new.1)))
    (λ was. old j u was.1)
    (at_set views id j (Lane w) (Mut u) there)

-- a forwarding word that names a copy for the check is of the check's epoch
pub names_epoch : (check word : ℕ) → names_copy check word ≡ true → high_half word ≡ check
names_epoch check word names = first (high_half word == check) (not (low_half word == LOST)) names refl
  where
    first : (a b : Bool) → (a && b) ≡ true → (high_half word == check) ≡ a → high_half word ≡ check
    first true b e is = grind (arith, nat_tests)
    first false b e is = absurd cc

-- a forwarding word that names a copy for the check does not say lost
pub names_some : (check word : ℕ) → names_copy check word ≡ true → low_half word ≢ LOST
names_some check word names lost = second (high_half word == check) (low_half word == LOST) names refl
  where
    second : (a b : Bool) → (a && not b) ≡ true → (low_half word == LOST) ≡ b → ⊥
    second true true e is = absurd cc
    second true false e is = absurd (grind (arith, nat_tests))
    second false b e is = absurd cc

module _ (terms : Terms) (world world' : World) (lane lane' : ℕ → ℕ) (forward forward' : ℕ → ℕ → ℕ) (u : LaneView)
    (active : world'.active ≡ world.active) (launched : world'.launched ≡ world.launched) (lanes : (l : ℕ) → lane' l ≡ lane l)
    (told : (o l : ℕ) → high_half (forward o l) ≡ lane l → forward' o l ≡ forward o l) (old : IsReading terms world lane forward u) where
  half_on : (r : HalfRead) → u.read ≡ Some r → IsHalfDone u r (forward' r.object u.lane)
  half_on r is = let was = old.half r is in record {
    stood = was.stood;
    first = λ none. ⊎_elim
        (λ value. inl value)
        (λ epoch. inr (ap high_half (told r.object u.lane (epoch ∙ sym old.has_lane)) ∙ epoch))
        (was.first none);
    second = λ word some. let w = was.second word some in
        (told r.object u.lane (ap high_half w.0 ∙ names_epoch u.check word w.1 ∙ sym old.has_lane) ∙ w.0, w.1);
  }

  -- a step of another seat leaves the read
  pub reading_on : IsReading terms world' lane' forward' u
  reading_on = record {
    told = old.told;
    within = old.within;
    active = ap (λ ns. is_among ns u.check) active ∙ old.active;
    has_lane = lanes u.lane ∙ old.has_lane;
    launch = old.launch;
    launched = ap (λ (f : ℕ → Option Launched). f u.check) launched ∙ old.launched;
    past = old.past;
    known = old.known;
    half = half_on;
  }
