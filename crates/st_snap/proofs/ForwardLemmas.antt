-- Forwarding words after a change
use Rattle.std.proofs.Common.{◌≡◌, ℕ, zero, suc, ◌<◌, ◌≤◌, ◌⊎◌, cond, Bool, true, false, inl, inr, List, [], ◌∷◌, slice_get, Option, Some}
use Rattle.std.proofs.Common.{None, refl, subst, arith, nat_lt}
use Rattle.std.proofs.lemmas.Bool.Decides.{nat_tests}
use Rattle.st_snap.specs.declared.headers.Forward.{Forward}
use Rattle.st_snap.specs.declared.headers.Target.{Target}
use Rattle.st_snap.specs.Headers.{forward_one, forward_all}
use Rattle.st_events.proofs.LegalEvents.{is_below}

-- the forwarding word of a lane after a change: as before, where no check is at the lane that was launched after the stamp;
-- else that check is sent to the target
pub record IsForwarded (stamp : ℕ) (target : Target) (lane : Option (Option ℕ)) (before after : Forward) : Type 0 where
  pub cases :
      ((after ≡ before) × ((n : ℕ) → lane ≡ Some (Some n) → n ≤ stamp)) ⊎ ((n : ℕ) × (lane ≡ Some (Some n)) × (stamp < n) × (after.epoch ≡ n) × (after.target ≡ target))

one_is_forwarded :
    (stamp : ℕ) (target : Target) (lane : Option ℕ) (f : Forward)
    → IsForwarded stamp target (Some lane) f (forward_one stamp target lane f)
one_is_forwarded stamp target None f = record { cases = inl (refl, λ n e. cc) }
one_is_forwarded stamp target (Some k) f = record { cases = cases (nat_lt stamp k) refl }
  where
    at_most : (a b : ℕ) → nat_lt a b ≡ false → b ≤ a
    at_most a b e = grind (arith, nat_tests)

    cases :
        (b : Bool)
        → nat_lt stamp k ≡ b
        → ((cond b (record { epoch = k; target = target }) f ≡ f) × ((n : ℕ) → Some (Some k) ≡ Some (Some n) → n ≤ stamp)) ⊎
        ((n : ℕ) × (Some (Some k) ≡ Some (Some n)) × (stamp < n) × ((cond b (record { epoch = k; target = target }) f).epoch ≡ n)
        × ((cond b (record { epoch = k; target = target }) f).target ≡ target))
    cases true e = inr (k, refl, is_below stamp k e, refl, refl)
    cases false e = inl (refl, λ n s. let t : k ≡ n = cc in omega (arith, at_most stamp k e))

-- at each place
pub forwarded_at_lane :
    (stamp : ℕ) (target : Target) (lanes : List (Option ℕ)) (fs : List Forward) (l : ℕ) (after : Forward)
    → slice_get (forward_all stamp target lanes fs) l ≡ Some after
    → (before : Forward) × (slice_get fs l ≡ Some before) × IsForwarded stamp target (slice_get lanes l) before after
forwarded_at_lane stamp target lanes [] l after e = cc
forwarded_at_lane stamp target [] (f ∷ fs) l after e = (after, e, record { cases = inl (refl, λ n s. nothing l n s) })
  where
    nothing : (l n : ℕ) → slice_get [] l ≡ Some (Some n) → n ≤ stamp
    nothing l n s = cc
forwarded_at_lane stamp target (lane ∷ lanes) (f ∷ fs) zero after e = (f, refl, same (forward_one stamp target lane f) e (one_is_forwarded stamp target lane f))
  where
    same : (g : Forward) → Some g ≡ Some after → IsForwarded stamp target (Some lane) f g → IsForwarded stamp target (Some lane) f after
    same g s h = let t : g ≡ after = cc in subst (λ (x : Forward). IsForwarded stamp target (Some lane) f x) t h
forwarded_at_lane stamp target (lane ∷ lanes) (f ∷ fs) (suc l) after e = forwarded_at_lane stamp target lanes fs l after e
