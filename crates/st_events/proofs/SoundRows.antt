-- Rows and lost pairs are apart, kept by each legal event
use Rattle.std.proofs.Common.{◌≡◌, ℕ, ◌+◌, ◌≤◌, ◌==◌, cond, Bool, true, false, inl, inr, List, [], ◌∷◌, ◌++◌, length, map}
use Rattle.std.proofs.Common.{filter, All, refl, sym, ◌∙◌, ap, subst, arith}
use Rattle.std.specs.Prelude.{◌||◌, nat_lt}
use Rattle.std.proofs.lemmas.List.{length-append}
use Rattle.std.proofs.lemmas.List.Elements.{All-nil, All-cons, All-append, All-head, filter-append}
use Rattle.st_events.specs.Terms.{Retire, Sizes, ShapeLists, World, Row, next, changed, is_among, is_kept, is_lost, needing_in, without}
use Rattle.st_events.specs.World.{is_full, row_if_needed, released}
use Rattle.st_events.specs.Sound.{AreVersionsNoted, AreRowsApart, is_row_of, rows_of}
use Rattle.st_events.proofs.AmongLemmas.{or_first, same_number, among_passing, among_without}
use Rattle.st_events.proofs.KeptLemmas.{and_both, kept_in_either, kept_by_row, released_was_kept, lost_in_either, lost_by_pairs}
use Rattle.st_events.proofs.LegalEvents.{is_below}
use Rattle.st_events.proofs.RowLemmas.{one_if, one_if_is_few}

-- a test that does not hold
not_true : (b : Bool) → (b ≡ true → ⊥) → b ≡ false
not_true true h = absurd (h refl)
not_true false h = refl

-- ---- each row is needed

-- some check needs the row
abbrev IsNeeded : Row → Type 0
IsNeeded row = 1 ≤ length row.checks

-- the row that a change adds, where it adds one
needed_row : (obj : ℕ) (ns : List ℕ) → All IsNeeded (row_if_needed obj ns)
needed_row obj [] = All-nil IsNeeded
needed_row obj (n ∷ ns) = All-cons IsNeeded (record { obj = obj; checks = n ∷ ns }) [] (omega arith) (All-nil IsNeeded)

-- a Retire leaves needed rows
needed_released : (number : ℕ) (rows : List Row) → All IsNeeded (released number rows)
needed_released number [] = All-nil IsNeeded
needed_released number (row ∷ rows) =
    All-append IsNeeded (row_if_needed row.obj (without number row.checks)) (released number rows) (needed_row row.obj (without number row.checks)) (needed_released number rows)

-- where rows are needed only by active checks and none is active, there is no row
none_idle :
    (active : List ℕ) (rows : List Row)
    → All IsNeeded rows
    → ((obj n : ℕ) → is_kept rows obj n ≡ true → is_among active n ≡ true)
    → active ≡ []
    → rows ≡ []
none_idle active [] needed only idle = refl
none_idle active (row ∷ rows) needed only idle = absurd (first row.checks refl (All-head IsNeeded row rows needed))
  where
    first : (ns : List ℕ) → row.checks ≡ ns → 1 ≤ length ns → ⊥
    first [] e h = omega (arith, h)
    first (n ∷ ns) e h =
        let here : is_among row.checks n ≡ true = subst (λ (ks : List ℕ). is_among ks n ≡ true) (sym e) (or_first (n == n) (is_among ns n) (same_number n)) in
        let kept : is_kept (row ∷ rows) row.obj n ≡ true =
        or_first (is_row_of row.obj n row) (is_kept rows row.obj n) (and_both (row.obj == row.obj) (is_among row.checks n) (same_number row.obj) here) in
        let f : is_among [] n ≡ true = subst (λ (ks : List ℕ). is_among ks n ≡ true) idle (only row.obj n kept) in cc

-- ---- a pair is in one row

-- a row more
rows_of_more : (obj n : ℕ) (row : Row) (rows : List Row) → rows_of obj n (row ∷ rows) ≡ one_if (is_row_of obj n row) + rows_of obj n rows
rows_of_more obj n row rows = cases (is_row_of obj n row)
  where
    cases :
        (b : Bool)
        → length (cond b (row ∷ filter (is_row_of obj n) rows) (filter (is_row_of obj n) rows)) ≡ one_if b + rows_of obj n rows
    cases true = omega arith
    cases false = omega arith

-- rows more
rows_of_both : (obj n : ℕ) (rows more : List Row) → rows_of obj n (rows ++ more) ≡ rows_of obj n rows + rows_of obj n more
rows_of_both obj n rows more = ap length (filter-append (is_row_of obj n) rows more) ∙ length-append (filter (is_row_of obj n) rows) (filter (is_row_of obj n) more)

-- a pair that no row keeps is in none
no_row : (obj n : ℕ) (rows : List Row) → is_kept rows obj n ≡ false → rows_of obj n rows ≡ 0
no_row obj n [] h = refl
no_row obj n (row ∷ rows) h = cases (no_row obj n rows) (is_row_of obj n row) refl h
  where
    cases :
        (is_kept rows obj n ≡ false → rows_of obj n rows ≡ 0)
        → (b : Bool)
        → is_row_of obj n row ≡ b
        → (b || is_kept rows obj n) ≡ false
        → rows_of obj n (row ∷ rows) ≡ 0
    cases others true e f = cc
    cases others false e f = omega (arith, rows_of_more obj n row rows, ap one_if e, others f)

-- the row that a change adds is one at most, and of the checks that need it
added_row : (obj n o : ℕ) (ns : List ℕ) → rows_of obj n (row_if_needed o ns) ≤ 1
added_row obj n o [] = omega arith
added_row obj n o (k ∷ ks) = omega (arith, rows_of_more obj n (record { obj = o; checks = k ∷ ks }) [], one_if_is_few (is_row_of obj n (record { obj = o; checks = k ∷ ks })))

-- where its checks do not have this one, or it is of another object, it is none
other_row : (obj n o : ℕ) (ns : List ℕ) → (is_kept (row_if_needed o ns) obj n ≡ true → ⊥) → rows_of obj n (row_if_needed o ns) ≡ 0
other_row obj n o ns h = no_row obj n (row_if_needed o ns) (not_true (is_kept (row_if_needed o ns) obj n) h)

-- a Retire only takes rows away
released_rows : (obj n number : ℕ) (rows : List Row) → rows_of obj n (released number rows) ≤ rows_of obj n rows
released_rows obj n number [] = omega arith
released_rows obj n number (row ∷ rows) =
    omega (arith, rows_of_both obj n (row_if_needed row.obj (without number row.checks)) (released number rows), left, rows_of_more obj n row rows, released_rows obj n number rows)
  where
    left : rows_of obj n (row_if_needed row.obj (without number row.checks)) ≤ one_if (is_row_of obj n row)
    left = cases (is_row_of obj n row) refl
      where
        cases : (b : Bool) → is_row_of obj n row ≡ b → rows_of obj n (row_if_needed row.obj (without number row.checks)) ≤ one_if b
        cases true e = added_row obj n row.obj (without number row.checks)
        cases false e = omega (
          arith,
          other_row obj n row.obj (without number row.checks) (λ k.
              let part = kept_by_row row.obj (without number row.checks) obj n k in
              let was = (among_without number row.checks n part.1).0 in
              let f : false ≡ true = sym e ∙ and_both (row.obj == obj) (is_among row.checks n) (subst (λ (o : ℕ). (row.obj == o) ≡ true) part.0 (same_number row.obj)) was in cc),
        )

-- ---- each event

-- a check that needs a copy of an object where it changes was not noted with it
not_noted : (sizes : Sizes) (w : World) (obj n : ℕ) → is_among (needing_in w obj) n ≡ true → n ≤ w.stamp obj → ⊥
not_noted sizes w obj n need noted = omega (arith, noted, is_below (w.stamp obj) n (among_passing (λ k. nat_lt (w.stamp obj) k) w.active n need).1)

-- so no row has it
not_kept :
    (sizes : Sizes) (w : World) (obj n : ℕ)
    → AreVersionsNoted sizes w
    → is_among (needing_in w obj) n ≡ true
    → is_kept w.kept obj n ≡ false
not_kept sizes w obj n c need = not_true (is_kept w.kept obj n) (λ k. not_noted sizes w obj n need (c.kept_noted obj n k).changed)

-- and it is not lost
not_lost :
    (sizes : Sizes) (w : World) (obj n : ℕ)
    → AreVersionsNoted sizes w
    → is_among (needing_in w obj) n ≡ true
    → is_lost w.lost obj n ≡ false
not_lost sizes w obj n c need = not_true (is_lost w.lost obj n) (λ k. not_noted sizes w obj n need (c.lost_noted obj n k).changed)

-- a change adds a row, or loses pairs
pub change_keeps_rows :
    (sizes : Sizes) (w : World) (obj field value : ℕ)
    → AreVersionsNoted sizes w
    → AreVersionsNoted sizes (changed sizes w obj field value)
    → AreRowsApart w
    → AreRowsApart (changed sizes w obj field value)
change_keeps_rows sizes w obj field value c later r = record {
  needed = needed (is_full sizes w);
  one_row = λ o n. one_row (is_full sizes w) o n;
  not_both = λ o n k. not_both (is_full sizes w) o n k;
  none_idle = none_idle w.active (changed sizes w obj field value).kept (needed (is_full sizes w)) later.kept_active;
}
  where
    needed : (b : Bool) → All IsNeeded (cond b w.kept (w.kept ++ row_if_needed obj (needing_in w obj)))
    needed true = r.needed
    needed false = All-append IsNeeded w.kept (row_if_needed obj (needing_in w obj)) r.needed (needed_row obj (needing_in w obj))

    added :
        (o n : ℕ) (b : Bool)
        → is_kept (row_if_needed obj (needing_in w obj)) o n ≡ b
        → rows_of o n w.kept + rows_of o n (row_if_needed obj (needing_in w obj)) ≤ 1
    added o n true e =
        let part = kept_by_row obj (needing_in w obj) o n e in
        let none : rows_of o n w.kept ≡ 0 = no_row o n w.kept (subst (λ (p : ℕ). is_kept w.kept p n ≡ false) part.0 (not_kept sizes w obj n c part.1)) in
        omega (arith, none, added_row o n obj (needing_in w obj))
    added o n false e = omega (arith, no_row o n (row_if_needed obj (needing_in w obj)) e, r.one_row o n)

    one_row : (b : Bool) (o n : ℕ) → rows_of o n (cond b w.kept (w.kept ++ row_if_needed obj (needing_in w obj))) ≤ 1
    one_row true o n = r.one_row o n
    one_row false o n = omega (arith, rows_of_both o n w.kept (row_if_needed obj (needing_in w obj)), added o n (is_kept (row_if_needed obj (needing_in w obj)) o n) refl)

    not_both :
        (b : Bool) (o n : ℕ)
        → is_kept (cond b w.kept (w.kept ++ row_if_needed obj (needing_in w obj))) o n ≡ true
        → is_lost (cond b (w.lost ++ map (λ k. record { obj = obj; check = k }) (needing_in w obj)) w.lost) o n ≡ false
    not_both true o n k =
        not_true (is_lost (w.lost ++ map (λ j. record { obj = obj; check = j }) (needing_in w obj)) o n)
        (λ l. elim (lost_in_either w.lost (map (λ j. record { obj = obj; check = j }) (needing_in w obj)) o n l) [
          | inl old ↦ (let f : false ≡ true = sym (r.not_both o n k) ∙ old in cc)
          | inr new ↦ (let part = lost_by_pairs obj (needing_in w obj) o n new in
              let f : false ≡ true = sym (subst (λ (p : ℕ). is_kept w.kept p n ≡ false) part.0 (not_kept sizes w obj n c part.1)) ∙ k in cc)
        ])
    not_both false o n k = elim (kept_in_either w.kept (row_if_needed obj (needing_in w obj)) o n k) [
      | inl old ↦ r.not_both o n old
      | inr new ↦ (let part = kept_by_row obj (needing_in w obj) o n new in subst (λ (p : ℕ). is_lost w.lost p n ≡ false) part.0 (not_lost sizes w obj n c part.1))
    ]

-- a Retire takes its check out of each row
pub retire_keeps_rows :
    (shape : ShapeLists) (sizes : Sizes) (w : World) (m number : ℕ)
    → AreVersionsNoted sizes (next shape sizes w (Retire m number))
    → AreRowsApart w
    → AreRowsApart (next shape sizes w (Retire m number))
retire_keeps_rows shape sizes w m number later r = record {
  needed = needed_released number w.kept;
  one_row = λ o n. omega (arith, released_rows o n number w.kept, r.one_row o n);
  not_both = λ o n k. r.not_both o n (released_was_kept number w.kept o n k).0;
  none_idle = none_idle (without number w.active) (released number w.kept) (needed_released number w.kept) later.kept_active;
}

-- where neither rows nor pairs change, and rows are of active checks
pub same_rows_stay :
    (sizes : Sizes) (w v : World)
    → v.kept ≡ w.kept
    → v.lost ≡ w.lost
    → AreVersionsNoted sizes v
    → AreRowsApart w
    → AreRowsApart v
same_rows_stay sizes w v kept lost later r = record {
  needed = needed;
  one_row = λ o n. subst (λ (rows : List Row). rows_of o n rows ≤ 1) (sym kept) (r.one_row o n);
  not_both = λ o n k. rw lost (r.not_both o n (subst (λ (rows : List Row). is_kept rows o n ≡ true) kept k));
  none_idle = none_idle v.active v.kept needed later.kept_active;
}
  where
    needed : All IsNeeded v.kept
    needed = subst (λ (rows : List Row). All IsNeeded rows) (sym kept) r.needed
