-- What a change makes of the rows kept and the versions lost, by the clock and the length of the free list.
use Rattle.std.proofs.Common.{◌≡◌, ℕ, ◌+◌, ◌<◌, ◌≤◌, ◌⊎◌, nat_lt, not, Bool, true, false, if◌then◌else◌, List, []}
use Rattle.std.proofs.Common.{◌∷◌, ◌++◌, length, map, sym, refl, ap, subst, ◌∙◌, arith, ⊎_elim, inl, inr, length-append, append-nil}
use Rattle.std.proofs.lemmas.Bool.Decides.{nat_tests}
use Rattle.st_events.specs.declared.limits.Sizes.{Sizes}
use Rattle.st_events.specs.World.{World, is_among, is_lost, is_full, needing_in, row_if_needed, kept_at_change, lost_at_change}
use Rattle.st_events.proofs.KeptLemmas.{lost_in_front, lost_in_back, pairs_are_lost}
use Rattle.st_rule.specs.Needs.{is_any}

one_if : Bool → ℕ
one_if b = if b then 1 else 0

full_is : (a b : ℕ) → (x : Bool) → nat_lt a b ≡ x → ((x ≡ true) × (a < b)) ⊎ ((x ≡ false) × (b ≤ a))
full_is a b true e = inl (refl, grind (arith, nat_tests))
full_is a b false e = inr (refl, grind (arith, nat_tests))

module _ (sizes : Sizes) (w : World) (object : ℕ) where
  rows_more : (ns : List ℕ) → length (w.kept ++ row_if_needed object ns) ≡ length w.kept + (if is_any ns then 1 else 0)
  rows_more [] = ap length (append-nil w.kept) ∙ omega arith
  rows_more (n ∷ ns) = length-append w.kept (record { obj = object; checks = n ∷ ns } ∷ [])

  -- where a copy is left one more row is kept, and else none
  kept_more : length w.kept < sizes.copies → length (kept_at_change sizes w object) ≡ length w.kept + (if is_any (needing_in w object) then 1 else 0)
  kept_more few = cases (nat_lt (length w.kept) sizes.copies) refl
    where
      cases : (x : Bool) → nat_lt (length w.kept) sizes.copies ≡ x
          → length (if not x then w.kept else (w.kept ++ row_if_needed object (needing_in w object))) ≡ length w.kept + (if is_any (needing_in w object) then 1 else 0)
      cases true e = rows_more (needing_in w object)
      cases false e = absurd (let f : false ≡ true = sym e ∙ lt in cc)
        where
          lt : nat_lt (length w.kept) sizes.copies ≡ true
          lt = grind (arith, nat_tests)

  -- where a copy is left, the rows are one more, if some check needs the old version
  pub kept_grows : length w.kept < sizes.copies → kept_at_change sizes w object ≡ w.kept ++ row_if_needed object (needing_in w object)
  kept_grows few = ap (λ x. if not x then w.kept else (w.kept ++ row_if_needed object (needing_in w object))) lt
    where
      lt : nat_lt (length w.kept) sizes.copies ≡ true
      lt = grind (arith, nat_tests)

  -- and else they stay as they are
  pub kept_same : sizes.copies ≤ length w.kept → kept_at_change sizes w object ≡ w.kept
  kept_same full = ap (λ x. if not x then w.kept else (w.kept ++ row_if_needed object (needing_in w object))) not_lt
    where
      not_lt : nat_lt (length w.kept) sizes.copies ≡ false
      not_lt = grind (arith, nat_tests)

  -- what is lost stays lost
  pub lost_stays : (o n : ℕ) → is_lost w.lost o n ≡ true → is_lost (lost_at_change sizes w object) o n ≡ true
  lost_stays o n lost = cases (is_full sizes w)
    where
      cases : (x : Bool) → is_lost (if x then (w.lost ++ map (λ n. record { obj = object; check = n }) (needing_in w object)) else w.lost) o n ≡ true
      cases true = lost_in_front w.lost (map (λ n. record { obj = object; check = n }) (needing_in w object)) o n lost
      cases false = lost

  -- where no copy is left, the old version is lost for each check that needs it
  pub lost_now : sizes.copies ≤ length w.kept → (n : ℕ) → is_among (needing_in w object) n ≡ true → is_lost (lost_at_change sizes w object) object n ≡ true
  lost_now full n among = subst (λ x. is_lost (if not x then (w.lost ++ map (λ n. record { obj = object; check = n }) (needing_in w object)) else w.lost) object n ≡ true) (sym not_lt)
      (lost_in_back w.lost (map (λ n. record { obj = object; check = n }) (needing_in w object)) object n (pairs_are_lost object (needing_in w object) n among))
    where
      not_lt : nat_lt (length w.kept) sizes.copies ≡ false
      not_lt = grind (arith, nat_tests)

  -- the rows kept afterwards, by the copies drawn: one more where some check needs a copy
  module _ (available drawn : ℕ) (some_left : drawn ≤ available → length w.kept + available ≡ sizes.copies + drawn) (none_left : available ≤ drawn → length w.kept ≡ sizes.copies) where
    by_need : (b : Bool) → is_any (needing_in w object) ≡ b
        → ((drawn + (if b then 1 else 0) ≤ available → length (kept_at_change sizes w object) + available ≡ sizes.copies + (drawn + (if b then 1 else 0)))
        × (available ≤ drawn + (if b then 1 else 0) → length (kept_at_change sizes w object) ≡ sizes.copies))
    by_need b need = ⊎_elim
        (λ below.
        let left = some_left (omega (arith, below)) in
        let few : length w.kept < sizes.copies = omega (arith, left, below) in
        let more : length (kept_at_change sizes w object) ≡ length w.kept + (if b then 1 else 0) = kept_more few ∙ ap (λ x. length w.kept + (if x then 1 else 0)) need in
        let k : ℕ = length (kept_at_change sizes w object) in
        ((λ le. sum (length w.kept) k available sizes.copies drawn (if b then 1 else 0) left more), (λ ge. last k b more left ge below)))
        (λ beyond.
        let full = none_left beyond in
        let same = ap length (kept_same (omega (arith, full))) in
        let k : ℕ = length (kept_at_change sizes w object) in
        ((λ le. at_end k b (same ∙ full) beyond le), (λ ge. same ∙ full)))
        (lt_or_ge drawn available)
      where
        lt_or_ge : (a b : ℕ) → (a < b) ⊎ (b ≤ a)
        lt_or_ge a b = grind arith

        sum : (k k' a c d x : ℕ) → k + a ≡ c + d → k' ≡ k + x → k' + a ≡ c + (d + x)
        sum k k' a c d x e f = omega (arith, e, f)

        last : (k : ℕ) (b : Bool) → k ≡ length w.kept + (if b then 1 else 0) → length w.kept + available ≡ sizes.copies + drawn → available ≤ drawn + (if b then 1 else 0) → drawn < available
            → k ≡ sizes.copies
        last k true more left ge below = omega (arith, more, left, ge, below)
        last k false more left ge below = absurd (omega (arith, ge, below))

        at_end : (k : ℕ) (b : Bool) → k ≡ sizes.copies → available ≤ drawn → drawn + (if b then 1 else 0) ≤ available → k + available ≡ sizes.copies + (drawn + (if b then 1 else 0))
        at_end k true is beyond le = absurd (omega (arith, beyond, le))
        at_end k false is beyond le = omega (arith, is, beyond, le)

    pub kept_after : (b : Bool) → is_any (needing_in w object) ≡ b
        → ((drawn + (if b then 1 else 0) ≤ available → length (kept_at_change sizes w object) + available ≡ sizes.copies + (drawn + (if b then 1 else 0)))
        × (available ≤ drawn + (if b then 1 else 0) → length (kept_at_change sizes w object) ≡ sizes.copies))
    kept_after b need = by_need b need
