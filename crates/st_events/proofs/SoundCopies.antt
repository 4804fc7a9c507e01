-- Copies kept and versions lost, kept by each legal event
use Rattle.std.proofs.Common.{◌≡◌, ◌≢◌, ℕ, ◌<◌, ◌≤◌, cond, not, Bool, true, false, ◌⊎◌, inl, inr, [], ◌∷◌, ◌++◌, length}
use Rattle.std.proofs.Common.{map, Option, Some, None, refl, sym, ◌∙◌, subst, arith}
use Rattle.std.proofs.Common.{IsSome, is_some}
use Rattle.std.specs.Prelude.{nat_lt}
use Rattle.std.proofs.lemmas.List.{length-append}
use Rattle.std.proofs.lemmas.Bool.Decides.{eqb_tells, nat_tests}
use Rattle.st_events.specs.Terms.{New, Launch, Retire, Args, Sizes, ShapeLists, Object, World, Launched, next, at, changed, is_among, is_kept, is_lost}
use Rattle.st_events.specs.Terms.{needing_in, LegalLaunch}
use Rattle.st_events.specs.World.{is_full, row_if_needed, released}
use Rattle.st_events.specs.Sound.{AreLaunches, AreActive, AreStamps, ArePasts, AreVersionsNoted, IsNoted}
use Rattle.st_events.proofs.WorldLemmas.{at_same, at_other}
use Rattle.st_events.proofs.AmongLemmas.{among_one_more, among_front, among_passing, passing_is_among, among_without, without_is_among}
use Rattle.st_events.proofs.KeptLemmas.{kept_in_either, kept_in_front, kept_in_back, kept_by_row, row_keeps, one_row_at_most, released_was_kept, others_stay_kept}
use Rattle.st_events.proofs.KeptLemmas.{released_are_no_more, lost_in_either, lost_in_front, lost_in_back, lost_by_pairs, pairs_are_lost}

below_or : (a b : ℕ) → (nat_lt a b ≡ true) ⊎ (b ≤ a)
below_or a b = grind (arith, nat_tests)

lt_of : (a b : ℕ) → nat_lt a b ≡ true → a < b
lt_of a b t = grind (arith, nat_tests)

-- a stamp only rises
stamp_rises : (w : World) (obj o n : ℕ) → n ≤ w.epoch → n ≤ w.stamp o → n ≤ at obj w.epoch w.stamp o
stamp_rises w obj o n e s = elim (eqb_tells o obj) [ inl t ↦ rw t.0 e | inr t ↦ rw t.0 s ]

-- ---- a change

-- what was noted stays noted
change_keeps_noted :
    (sizes : Sizes) (w : World) (obj field value : ℕ)
    → AreLaunches w
    → (o n : ℕ)
    → IsNoted w o n
    → IsNoted (changed sizes w obj field value) o n
change_keeps_noted sizes w obj field value a o n i =
    record { launch = i.launch; launched = i.launched; stood = i.stood; changed = stamp_rises w obj o n (a.only n i.launch i.launched).1 i.changed }

-- a check that needs the old version is noted with the object once it has changed
change_notes_needing :
    (sizes : Sizes) (w : World) (obj field value : ℕ)
    → IsSome (w.heap obj)
    → AreLaunches w
    → AreActive sizes w
    → ArePasts w
    → (n : ℕ)
    → is_among (needing_in w obj) n ≡ true
    → IsNoted (changed sizes w obj field value) obj n
change_notes_needing sizes w obj field value some a c p n h =
    let need = among_passing (λ k. nat_lt (w.stamp obj) k) w.active n h in
    let within = c.launched n need.0 in
    let l = a.launched n within.0 within.1 in
    let same = p.same obj n l.0 l.1 (lt_of (w.stamp obj) n need.1) in
    record {
      launch = l.0;
      launched = l.1;
      stood = subst (λ (x : Option Object). IsSome x) (sym same) some;
      changed =
          subst (λ (k : ℕ). n ≤ k) (sym (at_same obj w.epoch w.stamp)) within.1;
    }

-- a change notes the old version for each check that needs it
pub change_keeps_versions :
    (sizes : Sizes) (w : World) (obj field value : ℕ)
    → IsSome (w.heap obj)
    → AreLaunches w
    → AreActive sizes w
    → ArePasts w
    → AreVersionsNoted sizes w
    → AreVersionsNoted sizes (changed sizes w obj field value)
change_keeps_versions sizes w obj field value some a c p r = record {
  copies = few (is_full sizes w) refl;
  kept_active = λ o n h. active (is_full sizes w) o n h;
  kept_noted = λ o n h. noted_kept (is_full sizes w) o n h;
  lost_noted = λ o n h. noted_lost (is_full sizes w) o n h;
  whole = λ o n act i. whole (is_full sizes w) o n act i;
}
  where
    few : (b : Bool) → is_full sizes w ≡ b → length (cond b w.kept (w.kept ++ row_if_needed obj (needing_in w obj))) ≤ sizes.copies
    few true e = r.copies
    few false e = let below : length w.kept < sizes.copies =
        room (nat_lt (length w.kept) sizes.copies) refl e in omega
        (arith, below, one_row_at_most obj (needing_in w obj), length-append w.kept (row_if_needed obj (needing_in w obj)))
      where
        room : (t : Bool) → nat_lt (length w.kept) sizes.copies ≡ t → not t ≡ false → length w.kept < sizes.copies
        room true e f = lt_of (length w.kept) sizes.copies e
        room false e f = cc

    active :
        (b : Bool) (o n : ℕ)
        → is_kept (cond b w.kept (w.kept ++ row_if_needed obj (needing_in w obj))) o n ≡ true
        → is_among w.active n ≡ true
    active true o n h = r.kept_active o n h
    active false o n h = elim (kept_in_either w.kept (row_if_needed obj (needing_in w obj)) o n h) [
      | inl old ↦ r.kept_active o n old
      | inr new ↦ (among_passing (λ k. nat_lt (w.stamp obj) k) w.active n (kept_by_row obj (needing_in w obj) o n new).1).0
    ]

    noted_kept :
        (b : Bool) (o n : ℕ)
        → is_kept (cond b w.kept (w.kept ++ row_if_needed obj (needing_in w obj))) o n ≡ true
        → IsNoted (changed sizes w obj field value) o n
    noted_kept true o n h = change_keeps_noted sizes w obj field value a o n (r.kept_noted o n h)
    noted_kept false o n h = elim (kept_in_either w.kept (row_if_needed obj (needing_in w obj)) o n h) [
      | inl old ↦ change_keeps_noted sizes w obj field value a o n (r.kept_noted o n old)
      | inr new ↦ (let k = kept_by_row obj (needing_in w obj) o n new in subst (λ (q : ℕ). IsNoted (changed sizes w obj field value) q n) k.0
          (change_notes_needing sizes w obj field value some a c p n k.1))
    ]

    noted_lost :
        (b : Bool) (o n : ℕ)
        → is_lost (cond b (w.lost ++ map (λ k. record { obj = obj; check = k }) (needing_in w obj)) w.lost) o n ≡ true
        → IsNoted (changed sizes w obj field value) o n
    noted_lost true o n h = elim (lost_in_either w.lost (map (λ k. record { obj = obj; check = k }) (needing_in w obj)) o n h) [
      | inl old ↦ change_keeps_noted sizes w obj field value a o n (r.lost_noted o n old)
      | inr new ↦ (let k = lost_by_pairs obj (needing_in w obj) o n new in subst (λ (q : ℕ). IsNoted (changed sizes w obj field value) q n) k.0
          (change_notes_needing sizes w obj field value some a c p n k.1))
    ]
    noted_lost false o n h = change_keeps_noted sizes w obj field value a o n (r.lost_noted o n h)

    old_found :
        (b : Bool) (o n : ℕ)
        → (is_kept w.kept o n ≡ true) ⊎ (is_lost w.lost o n ≡ true)
        → (is_kept (cond b w.kept (w.kept ++ row_if_needed obj (needing_in w obj))) o n ≡ true) ⊎
        (is_lost (cond b (w.lost ++ map (λ k. record { obj = obj; check = k }) (needing_in w obj)) w.lost) o n ≡ true)
    old_found true o n (inl k) = inl k
    old_found true o n (inr l) = inr (lost_in_front w.lost (map (λ k. record { obj = obj; check = k }) (needing_in w obj)) o n l)
    old_found false o n (inl k) = inl (kept_in_front w.kept (row_if_needed obj (needing_in w obj)) o n k)
    old_found false o n (inr l) = inr l

    new_found :
        (b : Bool) (n : ℕ)
        → is_among (needing_in w obj) n ≡ true
        → (is_kept (cond b w.kept (w.kept ++ row_if_needed obj (needing_in w obj))) obj n ≡ true) ⊎
        (is_lost (cond b (w.lost ++ map (λ k. record { obj = obj; check = k }) (needing_in w obj)) w.lost) obj n ≡ true)
    new_found true n h = inr (lost_in_back w.lost (map (λ k. record { obj = obj; check = k }) (needing_in w obj)) obj n (pairs_are_lost obj (needing_in w obj) n h))
    new_found false n h = inl (kept_in_back w.kept (row_if_needed obj (needing_in w obj)) obj n (row_keeps obj (needing_in w obj) n h))

    whole :
        (b : Bool) (o n : ℕ)
        → is_among w.active n ≡ true
        → IsNoted (changed sizes w obj field value) o n
        → (is_kept (cond b w.kept (w.kept ++ row_if_needed obj (needing_in w obj))) o n ≡ true) ⊎
        (is_lost (cond b (w.lost ++ map (λ k. record { obj = obj; check = k }) (needing_in w obj)) w.lost) o n ≡ true)
    whole b o n act i = elim (eqb_tells o obj) [
      | inl e ↦ elim (below_or (w.stamp obj) n) [
        | inl t ↦ subst (λ (q : ℕ). (is_kept (cond b w.kept (w.kept ++ row_if_needed obj (needing_in w obj))) q n ≡ true) ⊎
            (is_lost (cond b (w.lost ++ map (λ k. record { obj = obj; check = k }) (needing_in w obj)) w.lost) q n ≡ true)) (sym e.1)
            (new_found b n (passing_is_among (λ k. nat_lt (w.stamp obj) k) w.active n act t))
        | inr before ↦ old_found b o n
            (r.whole o n act (record { launch = i.launch; launched = i.launched; stood = i.stood; changed = subst (λ (q : ℕ). n ≤ w.stamp q) (sym e.1) before }))
      ]
      | inr e ↦ old_found b o n
          (r.whole o n act (record {
            launch = i.launch;
            launched = i.launched;
            stood = i.stood;
            changed =
                subst (λ (k : ℕ). n ≤ k) (at_other obj w.epoch w.stamp o e.1) i.changed;
          }))
    ]

-- ---- a new object

-- what had not been made was in no heap
unmade_then :
    (w : World) (obj n : ℕ) (l : Launched)
    → w.heap obj ≡ None
    → AreLaunches w
    → AreStamps w
    → ArePasts w
    → w.launched n ≡ Some l
    → l.past obj ≡ None
unmade_then w obj n l absent a s p h = p.same obj n l h (omega (arith, s.unmade obj absent, (a.only n l h).0)) ∙ absent

-- a New notes none
pub new_keeps_versions :
    (shape : ShapeLists) (sizes : Sizes) (w : World) (m obj class : ℕ)
    → w.heap obj ≡ None
    → AreLaunches w
    → AreStamps w
    → ArePasts w
    → AreVersionsNoted sizes w
    → AreVersionsNoted sizes (next shape sizes w (New m obj class))
new_keeps_versions shape sizes w m obj class absent a s p r = record {
  copies = r.copies;
  kept_active = r.kept_active;
  kept_noted = λ o n h. noted o n (r.kept_noted o n h);
  lost_noted = λ o n h. noted o n (r.lost_noted o n h);
  whole = λ o n act i. elim (eqb_tells o obj) [
    | inl e ↦ absurd (nothing i.launch (subst (λ (q : ℕ). IsSome (i.launch.past q)) e.1 i.stood) (unmade_then w obj n i.launch absent a s p i.launched))
    | inr e ↦ r.whole o n act
        (record { launch = i.launch; launched = i.launched; stood = i.stood; changed = subst (λ (k : ℕ). n ≤ k) (at_other obj w.epoch w.stamp o e.1) i.changed })
  ];
}
  where
    noted : (o n : ℕ) → IsNoted w o n → IsNoted (next shape sizes w (New m obj class)) o n
    noted o n i = record { launch = i.launch; launched = i.launched; stood = i.stood; changed = stamp_rises w obj o n (a.only n i.launch i.launched).1 i.changed }

    nothing : (l : Launched) → IsSome (l.past obj) → l.past obj ≡ None → ⊥
    nothing l some none = let f : is_some {T = Object} None ≡ true = subst (λ (x : Option Object). IsSome x) none some in cc

-- ---- a launch

-- a Launch notes none
pub launch_keeps_versions :
    (shape : ShapeLists) (sizes : Sizes) (w : World) (m number site : ℕ) (args : Args)
    → LegalLaunch shape sizes w m number site args
    → AreLaunches w
    → AreStamps w
    → AreVersionsNoted sizes w
    → AreVersionsNoted sizes (next shape sizes w (Launch m site number args))
launch_keeps_versions shape sizes w m number site args l a s r = record {
  copies = r.copies;
  kept_active = λ o n h. among_front w.active (number ∷ []) n (r.kept_active o n h);
  kept_noted = λ o n h. noted o n (r.kept_noted o n h);
  lost_noted = λ o n h. noted o n (r.lost_noted o n h);
  whole = λ o n act i. elim (eqb_tells n number) [
    | inl e ↦ absurd (omega (arith, e.1, l.next_number, i.changed, s.epoch o))
    | inr e ↦ r.whole o n (older n e.1 (among_one_more w.active number n act))
        (record { launch = i.launch; launched = sym (at_other number (Some here) w.launched n e.1) ∙ i.launched; stood = i.stood; changed = i.changed })
  ];
}
  where
    here : Launched
    here = record { past = w.heap; thread = m; site = site; args = args }

    older : (n : ℕ) → n ≢ number → (is_among w.active n ≡ true) ⊎ (n ≡ number) → is_among w.active n ≡ true
    older n ne (inl h) = h
    older n ne (inr e) = absurd (ne e)

    noted : (o n : ℕ) → IsNoted w o n → IsNoted (next shape sizes w (Launch m site number args)) o n
    noted o n i =
        let other : n ≢ number = omega (arith, (a.only n i.launch i.launched).1, l.next_number) in
        record {
          launch = i.launch;
          launched = at_other number (Some (record { past = w.heap; thread = m; site = site; args = args })) w.launched n other ∙ i.launched;
          stood =
              i.stood;
          changed = i.changed;
        }

-- ---- a Retire

-- a Retire releases those of its check
pub retire_keeps_versions :
    (shape : ShapeLists) (sizes : Sizes) (w : World) (m number : ℕ)
    → AreVersionsNoted sizes w
    → AreVersionsNoted sizes (next shape sizes w (Retire m number))
retire_keeps_versions shape sizes w m number r = record {
  copies = omega (arith, r.copies, released_are_no_more number w.kept);
  kept_active = λ o n h. let k = released_was_kept number w.kept o n h in without_is_among number w.active n (r.kept_active o n k.0) k.1;
  kept_noted = λ o n h. noted o n (r.kept_noted o n (released_was_kept number w.kept o n h).0);
  lost_noted = λ o n h. noted o n (r.lost_noted o n h);
  whole = λ o n act i. let b =
      among_without number w.active n act in found o n b.1 (r.whole o n b.0 (record { launch = i.launch; launched = i.launched; stood = i.stood; changed = i.changed }));
}
  where
    noted : (o n : ℕ) → IsNoted w o n → IsNoted (next shape sizes w (Retire m number)) o n
    noted o n i = record { launch = i.launch; launched = i.launched; stood = i.stood; changed = i.changed }

    found :
        (o n : ℕ)
        → n ≢ number
        → (is_kept w.kept o n ≡ true) ⊎ (is_lost w.lost o n ≡ true)
        → (is_kept (released number w.kept) o n ≡ true) ⊎ (is_lost w.lost o n ≡ true)
    found o n ne (inl k) = inl (others_stay_kept number w.kept o n k ne)
    found o n ne (inr l) = inr l
