-- Which lanes need the old version of a held object: what its holder has loaded tells just those of the active checks above the object's stamp.
use Rattle.std.proofs.Common.{◌≡◌, ◌≢◌, ℕ, zero, suc, ◌<◌, ◌≤◌, ◌==◌, nat_lt, nat_le, Bool, true, false, if◌then◌else◌, List, []}
use Rattle.std.proofs.Common.{◌∷◌, Option, Some, None, sym, refl, ap, subst, ◌∙◌, arith, ⊎_elim, eq-eqb}
use Rattle.std.specs.Prelude.{IsSome, unwrap_or}
use Rattle.std.proofs.lemmas.Bool.Decides.{nat_tests}
use mathlib.Core.Logic.{dite}
use native.Mathlib.Decide.{ℕ_discrete}
use Rattle.st_layout.specs.declared.plans.Plan.{Plan}
use Rattle.st_layout.specs.Layout.{word_of}
use Rattle.st_layout.specs.Names.{EpochWord, LaneWord}
use Rattle.st_events.specs.World.{World, is_among, needing_in}
use Rattle.st_events.proofs.AmongLemmas.{or_cases, or_first, or_second, same_numbers, among_passing, passing_is_among}
use Rattle.st_rule.specs.declared.views.Held.{Held}
use Rattle.st_rule.specs.declared.views.LoadedWord.{LoadedWord}
use Rattle.st_rule.specs.declared.views.MutView.{MutView}
use Rattle.st_rule.specs.declared.views.Phase.TheVariants.{Inside}
use Rattle.st_rule.specs.declared.views.Terms.{Terms}
use Rattle.st_rule.specs.declared.views.View.{View}
use Rattle.st_rule.specs.declared.views.View.TheVariants.{Mut}
use Rattle.st_rule.specs.Board.{plan_of, stays_loaded}
use Rattle.st_rule.specs.Holding.{word_loaded}
use Rattle.st_rule.specs.Needs.{lane_loaded, lanes_above, needing_lanes, knows_none, is_at_most, KnowsNeed, is_any}
use Rattle.st_rule.specs.Parts.{Sits}
use Rattle.st_rule.specs.Rule.{Told, Moment, HoldsAt, world_of}
use Rattle.st_rule.proofs.ReachLemmas.{sound}

-- a number that tests as below another is
pub lt_true : (a b : ℕ) → nat_lt a b ≡ true → a < b
lt_true a b e = grind (arith, nat_tests)

le_true : (a b : ℕ) → nat_le a b ≡ true → a ≤ b
le_true a b e = grind (arith, nat_tests)

bool_no : (b : Bool) → (b ≡ true → ⊥) → b ≡ false
bool_no true never = absurd (never refl)
bool_no false never = refl

true_lt : (a b : ℕ) → a < b → nat_lt a b ≡ true
true_lt a b lt = grind (arith, nat_tests)

-- the lanes of the list are below the count, and their checks above the stamp
among_lanes : (plan : Plan) (loaded : List LoadedWord) (stamp count l : ℕ) → is_among (lanes_above plan loaded stamp count) l ≡ true → (l < count) × (stamp < lane_loaded plan loaded l)
among_lanes plan loaded stamp zero l e = absurd cc
among_lanes plan loaded stamp (suc n) l e = cases (among_lanes plan loaded stamp n l) (nat_lt stamp (lane_loaded plan loaded n)) refl e
  where
    cases :
        (is_among (lanes_above plan loaded stamp n) l ≡ true → (l < n) × (stamp < lane_loaded plan loaded l))
        → (b : Bool) → nat_lt stamp (lane_loaded plan loaded n) ≡ b
        → is_among (if b then n ∷ lanes_above plan loaded stamp n else lanes_above plan loaded stamp n) l ≡ true
        → (l < suc n) × (stamp < lane_loaded plan loaded l)
    cases below true above among = ⊎_elim
        (λ here. let same : n ≡ l = same_numbers n l here in
        let lt : stamp < lane_loaded plan loaded n = lt_true stamp (lane_loaded plan loaded n) above in
        (omega (arith, same), subst (λ k. stamp < lane_loaded plan loaded k) same lt))
        (λ there. let r = below there in let lt = r.0 in (omega (arith, lt), r.1))
        (or_cases (n == l) (is_among (lanes_above plan loaded stamp n) l) among)
    cases below false above among = let r = below among in let lt = r.0 in (omega (arith, lt), r.1)

lanes_among : (plan : Plan) (loaded : List LoadedWord) (stamp count l : ℕ) → l < count → stamp < lane_loaded plan loaded l → is_among (lanes_above plan loaded stamp count) l ≡ true
lanes_among plan loaded stamp zero l lt above = absurd (omega (arith, lt))
lanes_among plan loaded stamp (suc n) l lt above = dite (ℕ_discrete n l)
    (λ same. subst (λ b. is_among (if b then n ∷ lanes_above plan loaded stamp n else lanes_above plan loaded stamp n) l ≡ true)
    (sym (true_lt stamp (lane_loaded plan loaded n) (subst (λ k. stamp < lane_loaded plan loaded k) (sym same) above)))
    (or_first (n == l) (is_among (lanes_above plan loaded stamp n) l) (eq-eqb n l same)))
    (λ other. either_way (lanes_among plan loaded stamp n l (below n l lt other) above) (nat_lt stamp (lane_loaded plan loaded n)))
  where
    below : (n l : ℕ) → l < suc n → n ≢ l → l < n
    below n l lt ne = grind arith

    either_way : is_among (lanes_above plan loaded stamp n) l ≡ true → (b : Bool)
        → is_among (if b then n ∷ lanes_above plan loaded stamp n else lanes_above plan loaded stamp n) l ≡ true
    either_way rest true = or_second (n == l) (is_among (lanes_above plan loaded stamp n) l) rest
    either_way rest false = rest

-- there is one of a list, or it is empty
pub some_of : (ns : List ℕ) → is_any ns ≡ true → (n : ℕ) × (is_among ns n ≡ true)
some_of [] e = absurd cc
some_of (n ∷ ns) e = (n, or_first (n == n) (is_among ns n) (eq-eqb n n refl))

-- where a number is in a list, the list has any
pub any_of : (ns : List ℕ) (n : ℕ) → is_among ns n ≡ true → is_any ns ≡ true
any_of [] n e = absurd cc
any_of (k ∷ ns) n e = refl

same_truth : (a b : Bool) → (a ≡ true → b ≡ true) → (b ≡ true → a ≡ true) → a ≡ b
same_truth true true p q = refl
same_truth true false p q = sym (p refl)
same_truth false true p q = q refl
same_truth false false p q = refl

module _ (told : Told) (id : ℕ) (v : MutView) (m : Moment) (words : List ℕ) (views : List View) (h : HoldsAt told m words views) (sits : Sits views id (Mut v))
    (hand : Held) (held : v.held ≡ Some hand) (quiet : hand.flight ≡ None) (inside : v.gate.phase ≡ Inside) where
  abbrev pub w : World
  w = world_of told.terms m

  -- the stamp that the holder found is the object's
  pub stamp_is : hand.stamp ≡ w.stamp hand.object
  stamp_is = h.object_part.stamps v.gate.number hand (h.seating.grips id v sits ∙ held) quiet

  abbrev lanes : ℕ
  lanes = told.terms.sizes.lanes

  lanes_are : v.terms.sizes.lanes ≡ told.terms.sizes.lanes
  lanes_are = ap (λ (t : Terms). t.sizes.lanes) (h.seating.told id v sits)

  -- what was loaded of a lane is its word
  loaded_is : (l x : ℕ) → l < told.terms.sizes.lanes → word_loaded v.board.loaded (word_of (plan_of v.terms.sizes) (LaneWord l)) ≡ Some x → m.board (LaneWord l) ≡ x
  loaded_is l x within found = h.loaded_part.loaded id v sits (LaneWord l) within (ap (λ p. stays_loaded p (LaneWord l)) inside) x
      (ap (λ (t : Terms). word_loaded v.board.loaded (word_of (plan_of t.sizes) (LaneWord l))) (sym (h.seating.told id v sits)) ∙ found)

  lane_is : (l : ℕ) → l < told.terms.sizes.lanes → (o : Option ℕ) → word_loaded v.board.loaded (word_of (plan_of v.terms.sizes) (LaneWord l)) ≡ o
      → hand.stamp < unwrap_or o 0 → hand.stamp < m.board (LaneWord l)
  lane_is l within None found above = absurd (omega (arith, above))
  lane_is l within (Some x) found above = subst (λ k. hand.stamp < k) (sym (loaded_is l x within found)) above

  -- a lane that needs the old version has an active check, launched since the stamp
  pub needs : (l : ℕ) → is_among (needing_lanes v hand) l ≡ true
      → (l < told.terms.sizes.lanes) × (is_among w.active (m.board (LaneWord l)) ≡ true) × (w.stamp hand.object < m.board (LaneWord l))
  needs l among =
      let r = among_lanes (plan_of v.terms.sizes) v.board.loaded hand.stamp v.terms.sizes.lanes l (not_none (knows_none v hand) among) in
      let within : l < told.terms.sizes.lanes = subst (λ k. l < k) lanes_are r.0 in
      let above = lane_is l within (word_loaded v.board.loaded (word_of (plan_of v.terms.sizes) (LaneWord l))) refl r.1 in
      (within, ⊎_elim (λ none. absurd (omega (arith, above, none))) (λ active. active) (h.board_part.idle l within), subst (λ k. k < m.board (LaneWord l)) stamp_is above)
    where
      not_none : (b : Bool) → is_among (if b then [] else lanes_above (plan_of v.terms.sizes) v.board.loaded hand.stamp v.terms.sizes.lanes) l ≡ true
          → is_among (lanes_above (plan_of v.terms.sizes) v.board.loaded hand.stamp v.terms.sizes.lanes) l ≡ true
      not_none true e = absurd cc
      not_none false e = e

  -- where the epoch is not above the stamp, no active check was launched since
  none_above : knows_none v hand ≡ true → (l : ℕ) → is_among w.active (m.board (LaneWord l)) ≡ true → w.stamp hand.object < m.board (LaneWord l) → ⊥
  none_above none l active above = by_word (word_loaded v.board.loaded (word_of (plan_of v.terms.sizes) EpochWord)) refl none
    where
      by_word : (o : Option ℕ) → word_loaded v.board.loaded (word_of (plan_of v.terms.sizes) EpochWord) ≡ o → is_at_most o hand.stamp ≡ true → ⊥
      by_word None found most = absurd cc
      by_word (Some x) found few =
          let epoch : m.board EpochWord ≡ x = h.loaded_part.loaded id v sits EpochWord tt (ap (λ p. stays_loaded p EpochWord) inside) x
          (ap (λ (t : Terms). word_loaded v.board.loaded (word_of (plan_of t.sizes) EpochWord)) (sym (h.seating.told id v sits)) ∙ found) in
          let low : x ≤ hand.stamp = le_true x hand.stamp few in
          let most = ((sound told id v m words views h sits).active.launched (m.board (LaneWord l)) active).1 in
          let is_epoch = h.board_part.epoch_is in
          let stamp = stamp_is in
          absurd (omega (arith, above, most, is_epoch, epoch, low, stamp))

  some_word : (o : Option ℕ) → IsSome o → (x : ℕ) × (o ≡ Some x)
  some_word None some = absurd cc
  some_word (Some x) some = (x, refl)

  -- and each lane of such a check is one of them
  pub needed : KnowsNeed v hand → (l : ℕ) → l < told.terms.sizes.lanes → is_among w.active (m.board (LaneWord l)) ≡ true → w.stamp hand.object < m.board (LaneWord l)
      → is_among (needing_lanes v hand) l ≡ true
  needed knows l within active above = subst (λ b. is_among (if b then [] else lanes_above (plan_of v.terms.sizes) v.board.loaded hand.stamp v.terms.sizes.lanes) l ≡ true)
      (sym (bool_no (knows_none v hand) (λ none. none_above none l active above))) (⊎_elim
      (λ all.
      let x = some_word (word_loaded v.board.loaded (word_of (plan_of v.terms.sizes) (LaneWord l))) (all l (subst (λ k. l < k) (sym lanes_are) within)) in
      let same : lane_loaded (plan_of v.terms.sizes) v.board.loaded l ≡ m.board (LaneWord l) = ap (λ o. unwrap_or o 0) x.1 ∙ sym (loaded_is l x.0 within x.1) in
      lanes_among (plan_of v.terms.sizes) v.board.loaded hand.stamp v.terms.sizes.lanes l (subst (λ k. l < k) (sym lanes_are) within)
      (subst (λ (p : ℕ × ℕ). p.0 < p.1) (λ i. (sym stamp_is i, sym same i)) above))
      (λ none. absurd (none_above none l active above))
      knows)

  -- so there is such a lane exactly where some active check needs a copy
  pub same_need : KnowsNeed v hand → is_any (needing_in w hand.object) ≡ is_any (needing_lanes v hand)
  same_need knows = same_truth (is_any (needing_in w hand.object)) (is_any (needing_lanes v hand))
      (λ some.
      let n = some_of (needing_in w hand.object) some in
      let r = among_passing (λ k. nat_lt (w.stamp hand.object) k) w.active n.0 n.1 in
      let l = h.board_part.lanes n.0 r.0 in
      any_of (needing_lanes v hand) l.0 (needed knows l.0 l.1 (subst (λ k. is_among w.active k ≡ true) (sym l.2) r.0)
      (subst (λ k. w.stamp hand.object < k) (sym l.2) (lt_true (w.stamp hand.object) n.0 r.1))))
      (λ some.
      let l = some_of (needing_lanes v hand) some in
      let r = needs l.0 l.1 in
      any_of (needing_in w hand.object) (m.board (LaneWord l.0))
      (passing_is_among (λ k. nat_lt (w.stamp hand.object) k) w.active (m.board (LaneWord l.0)) r.1 (true_lt (w.stamp hand.object) (m.board (LaneWord l.0)) r.2)))

  -- and each of those checks needs one
  pub check_needs : (l : ℕ) → is_among (needing_lanes v hand) l ≡ true → is_among (needing_in w hand.object) (m.board (LaneWord l)) ≡ true
  check_needs l among = let r = needs l among in
      passing_is_among (λ k. nat_lt (w.stamp hand.object) k) w.active (m.board (LaneWord l)) r.1 (true_lt (w.stamp hand.object) (m.board (LaneWord l)) r.2)
