-- What an event makes of a ledger: it stays balanced, and says of the next world what it said of this one.
use Rattle.std.proofs.Common.{◌≡◌, ℕ, zero, suc, ◌+◌, ◌-◌, ◌*◌, ◌<◌, ◌≤◌, ◌==◌, ◌&&◌, ◌||◌, ◌⊎◌, cond, not, Bool, true, false}
use Rattle.std.proofs.Common.{inl, inr, List, [], ◌∷◌, ◌++◌, length, map, filter, take, drop, get_or, replicate, All, refl, sym, ◌∙◌, ap, subst, arith}
use Rattle.std.specs.Prelude.{nat_lt, nat_le, slice_set}
use Rattle.std.specs.List.{list_any}
use Rattle.std.proofs.lemmas.List.{append_assoc, append-nil, take_all, take-append-le, take-append-drop}
use Rattle.std.proofs.lemmas.List.{length-append, length-drop, length-set, length-replicate, get_or-set_same, get_or-set_other}
use Rattle.std.proofs.lemmas.List.Elements.{All-head, All-tail, All-append, filter-append}
use Rattle.std.proofs.Math.ListN.{get_or-append}
use Rattle.std.proofs.Math.Seq.{get_or-append_seam}
use Rattle.std.proofs.lemmas.Bool.Decides.{eqb_tells}
use Rattle.st_events.specs.declared.heaps.TheConstants.{FIRST_OF_REGIONS}
use Rattle.st_events.specs.declared.events.Event.{Event}
use Rattle.st_events.specs.declared.limits.Sizes.{Sizes}
use Rattle.st_events.specs.declared.events.Event.TheVariants.{New, Load, Store, Cas, Launch, Retire}
use Rattle.st_events.specs.Terms.{ShapeLists, World, Row, is_among, without, at, needing_in, next, first_world, IsLegalNext}
use Rattle.st_events.specs.World.{is_full, row_if_needed, kept_at_change, released}
use Rattle.st_events.proofs.AmongLemmas.{among_one_more, among_without, or_first, or_second, same_number}
use Rattle.st_events.proofs.LegalEvents.{at_most_holds, is_at_most, legal_launch}
use Rattle.st_audit.specs.declared.rows.Row.{Row as Span}
use Rattle.st_audit.specs.Ledgers.{needs, is_needed, count_needed, Books, stamp_in, is_full_in, stamped, row_of, with_row, copied_if_needed, copied, launched, rows_since, retired, noted}
use Rattle.st_audit.specs.Balance.{CanNote, first_books, IsKeptBy, IsBalanced, if_any, checks_left, Tells, IsLedgerOf}

-- ---- lists

-- whether the list has a number
abbrev has_any : List ℕ → Bool
has_any [] = false
has_any (n ∷ ns) = true

-- some number passes a test where those that pass it are some
any_passes : (p : ℕ → Bool) (ns : List ℕ) → list_any p ns ≡ has_any (filter p ns)
any_passes p [] = refl
any_passes p (n ∷ ns) = by (p n) (any_passes p ns)
  where
    by : (b : Bool) → list_any p ns ≡ has_any (filter p ns) → (b || list_any p ns) ≡ has_any (cond b (n ∷ filter p ns) (filter p ns))
    by true h = refl
    by false h = h

-- tests that agree on the list let the same pass
same_pass : (p q : ℕ → Bool) (ns : List ℕ) → ((n : ℕ) → is_among ns n ≡ true → p n ≡ q n) → filter p ns ≡ filter q ns
same_pass p q [] h = refl
same_pass p q (n ∷ ns) h =
    ap (λ (b : Bool). cond b (n ∷ filter p ns) (filter p ns)) (h n (or_first (n == n) (is_among ns n) (same_number n)))
    ∙ ap (λ (xs : List ℕ). cond (q n) (n ∷ xs) xs) (same_pass p q ns (λ k a. h k (or_second (n == k) (is_among ns k) a)))

-- one test after another, in any order
pass_both : (p q : ℕ → Bool) (ns : List ℕ) → filter p (filter q ns) ≡ filter q (filter p ns)
pass_both p q [] = refl
pass_both p q (n ∷ ns) = by (p n) (q n) refl refl (pass_both p q ns)
  where
    by :
        (a b : Bool) → p n ≡ a → q n ≡ b
        → filter p (filter q ns) ≡ filter q (filter p ns)
        → filter p (cond b (n ∷ filter q ns) (filter q ns)) ≡ filter q (cond a (n ∷ filter p ns) (filter p ns))
    by true true e f h = rw (e, f) (ap (λ (xs : List ℕ). n ∷ xs) h)
    by true false e f h = rw f h
    by false true e f h = rw e h
    by false false e f h = h

-- ---- rows and the checks that need them

-- as many lists of checks are left as rows are needed
pub left_are_counted : (active : List ℕ) (rows : List Span) → length (checks_left active rows) ≡ count_needed active rows
left_are_counted active [] = refl
left_are_counted active (row ∷ rows) =
    by (filter (needs row) active) (is_needed active row) (any_passes (needs row) active) (left_are_counted active rows)
  where
    by :
        (ns : List ℕ) (b : Bool) → b ≡ has_any ns
        → length (checks_left active rows) ≡ count_needed active rows
        → length (if_any ns ++ checks_left active rows) ≡ length (cond b (row ∷ filter (is_needed active) rows) (filter (is_needed active) rows))
    by [] true e h = cc
    by [] false e h = h
    by (n ∷ ns) true e h = omega (arith, h)
    by (n ∷ ns) false e h = cc

left_joined : (active : List ℕ) (xs ys : List Span) → checks_left active (xs ++ ys) ≡ checks_left active xs ++ checks_left active ys
left_joined active [] ys = refl
left_joined active (row ∷ xs) ys =
    ap (λ (zs : List (List ℕ)). if_any (filter (needs row) active) ++ zs) (left_joined active xs ys)
    ∙ sym (append_assoc (if_any (filter (needs row) active)) (checks_left active xs) (checks_left active ys))

counted_joined : (active : List ℕ) (xs ys : List Span) → count_needed active (xs ++ ys) ≡ count_needed active xs + count_needed active ys
counted_joined active xs ys =
    ap (λ (zs : List Span). length zs) (filter-append (is_needed active) xs ys) ∙ length-append (filter (is_needed active) xs) (filter (is_needed active) ys)

-- no more rows are needed than there are
pub counted_are_few : (active : List ℕ) (rows : List Span) → count_needed active rows ≤ length rows
counted_are_few active [] = omega arith
counted_are_few active (row ∷ rows) = by (is_needed active row) (counted_are_few active rows)
  where
    by : (b : Bool) → count_needed active rows ≤ length rows → length (cond b (row ∷ filter (is_needed active) rows) (filter (is_needed active) rows)) ≤ length (row ∷ rows)
    by true h = omega (arith, h)
    by false h = omega (arith, h)

-- a check that is launched later needs no row
not_needed : (row : Span) (n number : ℕ) → IsKeptBy n row → n < number → needs row number ≡ false
not_needed row n number low above = by (nat_le number row.up_to) refl (nat_lt row.after number)
  where
    by : (b : Bool) → nat_le number row.up_to ≡ b → (a : Bool) → (a && b) ≡ false
    by true e a = absurd (omega (arith, is_at_most number row.up_to e, low, above))
    by false e true = refl
    by false e false = refl

-- the checks are the same for rows that no later check needs
one_more_passes_not : (p : ℕ → Bool) (ns : List ℕ) (k : ℕ) → p k ≡ false → filter p (ns ++ k ∷ []) ≡ filter p ns
one_more_passes_not p ns k e =
    filter-append p ns (k ∷ []) ∙ ap (λ (b : Bool). filter p ns ++ cond b (k ∷ []) []) e ∙ append-nil (filter p ns)

-- a check that is launched after rows were kept leaves what is needed of them as it was
pub left_at_launch :
    (active : List ℕ) (rows : List Span) (n number : ℕ)
    → n < number
    → All (IsKeptBy n) rows
    → checks_left (active ++ number ∷ []) rows ≡ checks_left active rows
left_at_launch active [] n number above low = refl
left_at_launch active (row ∷ rows) n number above low =
    ap (λ (ns : List ℕ). if_any ns ++ checks_left (active ++ number ∷ []) rows)
    (one_more_passes_not (needs row) active number (not_needed row n number (All-head (IsKeptBy n) row rows low) above))
    ∙ ap (λ (zs : List (List ℕ)). if_any (filter (needs row) active) ++ zs) (left_at_launch active rows n number above (All-tail (IsKeptBy n) row rows low))

-- so are those of rows that were kept before a check was launched, once it is retired
left_of_earlier :
    (active : List ℕ) (rows : List Span) (n number : ℕ)
    → n < number
    → All (IsKeptBy n) rows
    → checks_left (without number active) rows ≡ checks_left active rows
left_of_earlier active [] n number above low = refl
left_of_earlier active (row ∷ rows) n number above low =
    ap (λ (ns : List ℕ). if_any ns ++ checks_left (without number active) rows) (passed active)
    ∙ ap (λ (zs : List (List ℕ)). if_any (filter (needs row) active) ++ zs) (left_of_earlier active rows n number above (All-tail (IsKeptBy n) row rows low))
  where
    other : (k : ℕ) → needs row k ≡ true → not (k == number) ≡ true
    other k t = elim (eqb_tells k number) [
      | inl e ↦ (let f : needs row k ≡ false = not_needed row n k (All-head (IsKeptBy n) row rows low) (omega (arith, e.1, above)) in cc)
      | inr e ↦ ap not e.0
    ]

    passed : (ns : List ℕ) → filter (needs row) (without number ns) ≡ filter (needs row) ns
    passed ns = pass_both (needs row) (λ k. not (k == number)) ns ∙ all_pass (λ k. not (k == number)) (needs row) ns other
      where
        all_pass : (p q : ℕ → Bool) (ks : List ℕ) → ((k : ℕ) → q k ≡ true → p k ≡ true) → filter p (filter q ks) ≡ filter q ks
        all_pass p q [] h = refl
        all_pass p q (k ∷ ks) h = each (q k) refl (all_pass p q ks h)
          where
            each : (b : Bool) → q k ≡ b → filter p (filter q ks) ≡ filter q ks → filter p (cond b (k ∷ filter q ks) (filter q ks)) ≡ cond b (k ∷ filter q ks) (filter q ks)
            each true e i = rw (h k e) (ap (λ (xs : List ℕ). k ∷ xs) i)
            each false e i = i

-- ---- rows of the world

-- a check leaves each list, and a list without checks is gone
abbrev left_without : ℕ → List (List ℕ) → List (List ℕ)
left_without number [] = []
left_without number (ns ∷ nss) = if_any (without number ns) ++ left_without number nss

released_checks : (number : ℕ) (rows : List Row) → map (λ row. row.checks) (released number rows) ≡ left_without number (map (λ row. row.checks) rows)
released_checks number [] = refl
released_checks number (row ∷ rows) = by (without number row.checks) (released_checks number rows)
  where
    by :
        (ns : List ℕ)
        → map (λ row. row.checks) (released number rows) ≡ left_without number (map (λ row. row.checks) rows)
        → map (λ row. row.checks) (row_if_needed row.obj ns ++ released number rows) ≡ if_any ns ++ left_without number (map (λ row. row.checks) rows)
    by [] h = h
    by (n ∷ ns) h = ap (λ (zs : List (List ℕ)). (n ∷ ns) ∷ zs) h

left_at_retire : (number : ℕ) (active : List ℕ) (rows : List Span) → left_without number (checks_left active rows) ≡ checks_left (without number active) rows
left_at_retire number active [] = refl
left_at_retire number active (row ∷ rows) =
    by (filter (needs row) active) (left_at_retire number active rows)
    ∙ ap (λ (ns : List ℕ). if_any ns ++ checks_left (without number active) rows) (pass_both (λ k. not (k == number)) (needs row) active)
  where
    by :
        (ns : List ℕ)
        → left_without number (checks_left active rows) ≡ checks_left (without number active) rows
        → left_without number (if_any ns ++ checks_left active rows) ≡ if_any (without number ns) ++ checks_left (without number active) rows
    by [] h = h
    by (n ∷ ns) h = ap (λ (zs : List (List ℕ)). if_any (without number (n ∷ ns)) ++ zs) h

map_joined : (xs ys : List Row) → map (λ row. row.checks) (xs ++ ys) ≡ map (λ row. row.checks) xs ++ map (λ row. row.checks) ys
map_joined [] ys = refl
map_joined (row ∷ xs) ys = ap (λ (zs : List (List ℕ)). row.checks ∷ zs) (map_joined xs ys)

map_length : (xs : List Row) → length (map (λ row. row.checks) xs) ≡ length xs
map_length [] = refl
map_length (row ∷ xs) = ap suc (map_length xs)

-- ---- the pool

-- the ledger knows when the pool is full
pub fullness_is_told : (sizes : Sizes) (b : Books) (w : World) → b.copies ≡ sizes.copies → IsBalanced b → Tells b w → is_full_in b ≡ is_full sizes w
fullness_is_told sizes b w copies balance tells =
    let many : b.kept ≡ length w.kept =
    balance.kept ∙ sym (left_are_counted b.active b.rows) ∙ ap (λ (zs : List (List ℕ)). length zs) tells.rows ∙ map_length w.kept in
    ap (λ (n : ℕ). not (nat_lt n b.copies)) many ∙ ap (λ (n : ℕ). not (nat_lt (length w.kept) n)) copies

-- the checks that need the old version of an object
pub needing_is_told : (b : Books) (w : World) (obj : ℕ) → IsBalanced b → Tells b w → filter (needs (row_of obj b)) b.active ≡ needing_in w obj
needing_is_told b w obj balance tells =
    same_pass (needs (row_of obj b)) (λ n. nat_lt (w.stamp obj) n) b.active same ∙ ap (λ (ns : List ℕ). filter (λ n. nat_lt (w.stamp obj) n) ns) tells.active
  where
    and_true : (a b : Bool) → b ≡ true → (a && b) ≡ a
    and_true true true e = refl
    and_true false true e = refl
    and_true a false e = cc

    same : (n : ℕ) → is_among b.active n ≡ true → needs (row_of obj b) n ≡ nat_lt (w.stamp obj) n
    same n a =
        and_true (nat_lt (stamp_in b obj) n) (nat_le n b.epoch) (at_most_holds n b.epoch (balance.active n a)) ∙ ap (λ (s : ℕ). nat_lt s n) (tells.stamps obj)

row_checks : (obj : ℕ) (ns : List ℕ) → map (λ row. row.checks) (row_if_needed obj ns) ≡ if_any ns
row_checks obj [] = refl
row_checks obj (n ∷ ns) = refl

-- the rows after a change
copied_tells :
    (sizes : Sizes) (b : Books) (w : World) (obj : ℕ)
    → b.copies ≡ sizes.copies
    → IsBalanced b
    → Tells b w
    → checks_left (copied obj b).active (copied obj b).rows ≡ map (λ row. row.checks) (kept_at_change sizes w obj)
copied_tells sizes b w obj copies balance tells = by (is_full_in b) (is_full sizes w) (fullness_is_told sizes b w copies balance tells)
  where
    more : checks_left b.active (b.rows ++ row_of obj b ∷ []) ≡ map (λ row. row.checks) (w.kept ++ row_if_needed obj (needing_in w obj))
    more =
        left_joined b.active b.rows (row_of obj b ∷ [])
        ∙ ap (λ (zs : List (List ℕ)). zs ++ checks_left b.active (row_of obj b ∷ [])) tells.rows
        ∙ ap (λ (zs : List (List ℕ)). map (λ row. row.checks) w.kept ++ zs)
        (append-nil (if_any (filter (needs (row_of obj b)) b.active)) ∙ ap if_any (needing_is_told b w obj balance tells) ∙ sym (row_checks obj (needing_in w obj)))
        ∙ sym (map_joined w.kept (row_if_needed obj (needing_in w obj)))

    by_need :
        (n : Bool) → is_needed b.active (row_of obj b) ≡ n
        → checks_left (cond n (with_row (row_of obj b) b) b).active (cond n (with_row (row_of obj b) b) b).rows
        ≡ map (λ row. row.checks) (w.kept ++ row_if_needed obj (needing_in w obj))
    by_need true e = more
    by_need false e =
        let none : has_any (needing_in w obj) ≡ false =
        ap has_any (sym (needing_is_told b w obj balance tells)) ∙ sym (any_passes (needs (row_of obj b)) b.active) ∙ e in
        tells.rows ∙ sym (empty (needing_in w obj) none)
      where
        empty : (ns : List ℕ) → has_any ns ≡ false → map (λ row. row.checks) (w.kept ++ row_if_needed obj ns) ≡ map (λ row. row.checks) w.kept
        empty [] e = ap (λ (rows : List Row). map (λ row. row.checks) rows) (append-nil w.kept)
        empty (n ∷ ns) e = cc

    by :
        (f g : Bool) → f ≡ g
        → checks_left (cond f b (copied_if_needed obj b)).active (cond f b (copied_if_needed obj b)).rows
        ≡ map (λ row. row.checks) (cond g w.kept (w.kept ++ row_if_needed obj (needing_in w obj)))
    by true true e = tells.rows
    by true false e = cc
    by false true e = cc
    by false false e = by_need (is_needed b.active (row_of obj b)) refl

-- ---- balance

copied_is_balanced : (b : Books) (obj : ℕ) → IsBalanced b → IsBalanced (copied obj b)
copied_is_balanced b obj balance = by (is_full_in b)
  where
    pushed : is_needed b.active (row_of obj b) ≡ true → IsBalanced (with_row (row_of obj b) b)
    pushed e = record {
      kept =
          let one : count_needed b.active (row_of obj b ∷ []) ≡ 1 = ap (λ (t : Bool). length (cond t (row_of obj b ∷ []) [])) e in
          omega (arith, balance.kept, counted_joined b.active b.rows (row_of obj b ∷ []), one);
      rows = All-append (IsKeptBy b.epoch) b.rows (row_of obj b ∷ []) balance.rows (here b.epoch (row_of obj b) (omega arith));
      active = balance.active;
      launches = balance.launches;
      before = λ n lt. subst (λ (rows : List Span). All (IsKeptBy n) rows) (sym (take-append-le (get_or b.before n 0) b.rows (row_of obj b ∷ []) (balance.places n lt))) (balance.before n lt);
      places = λ n lt. omega (arith, balance.places n lt, length-append b.rows (row_of obj b ∷ []));
    }
      where
        here : (n : ℕ) (row : Span) → row.up_to ≤ n → All (IsKeptBy n) (row ∷ [])
        here n row low = λ k d lt. at k d lt
          where
            at : (k : ℕ) (d : Span) → k < length (row ∷ []) → IsKeptBy n (get_or (row ∷ []) k d)
            at zero d lt = low
            at (suc k) d lt = absurd (omega (arith, lt))

    by_need : (n : Bool) → is_needed b.active (row_of obj b) ≡ n → IsBalanced (cond n (with_row (row_of obj b) b) b)
    by_need true e = pushed e
    by_need false e = balance

    by : (f : Bool) → IsBalanced (cond f b (copied_if_needed obj b))
    by true = balance
    by false = by_need (is_needed b.active (row_of obj b)) refl

stamped_is_balanced : (b : Books) (obj : ℕ) → IsBalanced b → IsBalanced (stamped obj b)
stamped_is_balanced b obj balance =
    record { kept = balance.kept; rows = balance.rows; active = balance.active; launches = balance.launches; before = balance.before; places = balance.places }

-- a copy changes rows alone
copied_keeps : (b : Books) (obj : ℕ) → ((copied obj b).epoch ≡ b.epoch) × ((copied obj b).stamps ≡ b.stamps) × ((copied obj b).active ≡ b.active) × ((copied obj b).copies ≡ b.copies)
copied_keeps b obj = by (is_full_in b) (is_needed b.active (row_of obj b))
  where
    by :
        (f n : Bool)
        → ((cond f b (cond n (with_row (row_of obj b) b) b)).epoch ≡ b.epoch)
        × ((cond f b (cond n (with_row (row_of obj b) b) b)).stamps ≡ b.stamps)
        × ((cond f b (cond n (with_row (row_of obj b) b) b)).active ≡ b.active)
        × ((cond f b (cond n (with_row (row_of obj b) b) b)).copies ≡ b.copies)
    by true n = (refl, refl, refl, refl)
    by false true = (refl, refl, refl, refl)
    by false false = (refl, refl, refl, refl)

-- a number of a list that is one longer
at_one_more : (xs : List ℕ) (x n : ℕ) → n < length xs + 1 → ((n < length xs) × (get_or (xs ++ x ∷ []) n 0 ≡ get_or xs n 0)) ⊎ ((n ≡ length xs) × (get_or (xs ++ x ∷ []) n 0 ≡ x))
at_one_more xs x n lt = by (below n (length xs))
  where
    below : (a b : ℕ) → (a < b) ⊎ (b ≤ a)
    below a b = grind arith

    by : (n < length xs) ⊎ (length xs ≤ n) → ((n < length xs) × (get_or (xs ++ x ∷ []) n 0 ≡ get_or xs n 0)) ⊎ ((n ≡ length xs) × (get_or (xs ++ x ∷ []) n 0 ≡ x))
    by (inl h) = inl (h, get_or-append xs (x ∷ []) 0 n h)
    by (inr h) =
        let e : n ≡ length xs = omega (arith, h, lt) in inr (e, ap (λ (k : ℕ). get_or (xs ++ x ∷ []) k 0) e ∙ get_or-append_seam xs x [] 0)

kept_later : (n m : ℕ) (rows : List Span) → n ≤ m → All (IsKeptBy n) rows → All (IsKeptBy m) rows
kept_later n m rows le low = λ k d lt. let h : IsKeptBy n (get_or rows k d) = low k d lt in omega (arith, h, le)

launched_is_balanced : (b : Books) (number : ℕ) → number ≡ b.epoch + 1 → IsBalanced b → IsBalanced (launched number b)
launched_is_balanced b number e balance = record {
  kept =
      balance.kept ∙ sym (left_are_counted b.active b.rows)
      ∙ sym (ap (λ (zs : List (List ℕ)). length zs) (left_at_launch b.active b.rows b.epoch number (omega (arith, e)) balance.rows))
      ∙ left_are_counted (b.active ++ number ∷ []) b.rows;
  rows = kept_later b.epoch (b.epoch + 1) b.rows (omega arith) balance.rows;
  active = λ n a. elim (among_one_more b.active number n a) [ inl old ↦ omega (arith, balance.active n old) | inr new ↦ omega (arith, new, e) ];
  launches = omega (arith, length-append b.before (length b.rows ∷ []), balance.launches);
  before = λ n lt. elim (at_one_more b.before (length b.rows) n (omega (arith, lt, balance.launches))) [
    | inl old ↦ subst (λ (k : ℕ). All (IsKeptBy n) (take k b.rows)) (sym old.1) (balance.before n (omega (arith, old.0, balance.launches)))
    | inr new ↦ subst (λ (k : ℕ). All (IsKeptBy n) (take k b.rows)) (sym new.1)
        (subst (λ (rows : List Span). All (IsKeptBy n) rows) (sym (take_all (length b.rows) b.rows (omega arith)))
        (kept_later b.epoch n b.rows (omega (arith, new.0, balance.launches)) balance.rows))
  ];
  places = λ n lt. elim (at_one_more b.before (length b.rows) n (omega (arith, lt, balance.launches))) [
    | inl old ↦ omega (arith, old.1, balance.places n (omega (arith, old.0, balance.launches)))
    | inr new ↦ omega (arith, new.1)
  ];
}

-- what is needed at a Retire, before and after it
pub record IsCounted (b : Books) (number : ℕ) : Type 0 where
  pub enough : count_needed b.active (rows_since number b) ≤ b.kept
  pub left : b.kept - count_needed b.active (rows_since number b) + count_needed (without number b.active) (rows_since number b) ≡ count_needed (without number b.active) b.rows

-- the Retire of a launched check counts right: the rows before its launch are needed as before, and those since are counted anew
pub retire_is_counted : (b : Books) (number : ℕ) → 1 ≤ number → number ≤ b.epoch → IsBalanced b → IsCounted b number
retire_is_counted b number some launched_it balance =
    let i : number - 1 < b.epoch = omega (arith, some, launched_it) in
    let first = get_or b.before (number - 1) 0 in
    let split : take first b.rows ++ drop first b.rows ≡ b.rows = take-append-drop first b.rows in
    let before : count_needed b.active b.rows ≡ count_needed b.active (take first b.rows) + count_needed b.active (drop first b.rows) =
    ap (count_needed b.active) (sym split) ∙ counted_joined b.active (take first b.rows) (drop first b.rows) in
    let after : count_needed (without number b.active) b.rows
    ≡ count_needed (without number b.active) (take first b.rows) + count_needed (without number b.active) (drop first b.rows) =
    ap (count_needed (without number b.active)) (sym split) ∙ counted_joined (without number b.active) (take first b.rows) (drop first b.rows) in
    let same : count_needed (without number b.active) (take first b.rows) ≡ count_needed b.active (take first b.rows) =
    sym (left_are_counted (without number b.active) (take first b.rows))
    ∙ ap (λ (zs : List (List ℕ)). length zs) (left_of_earlier b.active (take first b.rows) (number - 1) number (omega (arith, some)) (balance.before (number - 1) i))
    ∙ left_are_counted b.active (take first b.rows) in
    record { enough = omega (arith, balance.kept, before); left = omega (arith, balance.kept, before, after, same) }

retired_is_balanced : (b : Books) (number : ℕ) → 1 ≤ number → number ≤ b.epoch → IsBalanced b → IsBalanced (retired number b)
retired_is_balanced b number some launched_it balance = record {
  kept = (retire_is_counted b number some launched_it balance).left;
  rows = balance.rows;
  active = λ n a. balance.active n (among_without number b.active n a).0;
  launches = balance.launches;
  before = balance.before;
  places = balance.places;
}

-- ---- one event

-- what a ledger says once an object has its new stamp
stamps_after : (b : Books) (w : World) (obj : ℕ) → obj < length b.stamps → b.epoch ≡ w.epoch → ((o : ℕ) → stamp_in b o ≡ w.stamp o) → (o : ℕ) → stamp_in (stamped obj b) o ≡ at obj w.epoch w.stamp o
stamps_after b w obj lt epoch was o = elim (eqb_tells o obj) [
  | inl e ↦ rw e.0 (ap (λ (k : ℕ). get_or (slice_set b.stamps obj b.epoch) k 0) e.1 ∙ get_or-set_same b.stamps obj b.epoch 0 lt ∙ epoch)
  | inr e ↦ rw e.0 (get_or-set_other b.stamps obj o b.epoch 0 e.1 ∙ was o)
]

-- the first books tell of the first world
pub first_is_ledger : (shape : ShapeLists) (sizes : Sizes) → IsLedgerOf sizes (first_books sizes) (first_world shape) (FIRST_OF_REGIONS + sizes.mutators * sizes.objects)
first_is_ledger shape sizes = record {
  copies = refl;
  objects_are = length-replicate (FIRST_OF_REGIONS + sizes.mutators * sizes.objects) 0;
  balance = record {
    kept = refl;
    rows = λ k d lt. absurd (omega (arith, lt));
    active = λ n a. absurd (cc);
    launches = refl;
    before = λ n lt. absurd (omega (arith, lt));
    places = λ n lt. absurd (omega (arith, lt));
  };
  tells = record { epoch = refl; stamps = λ obj. zeros (FIRST_OF_REGIONS + sizes.mutators * sizes.objects) obj; active = refl; rows = refl };
}
  where
    zeros : (n obj : ℕ) → get_or (replicate {A = ℕ} n 0) obj 0 ≡ 0
    zeros zero obj = refl
    zeros (suc n) zero = refl
    zeros (suc n) (suc obj) = zeros n obj

-- after a change
changed_is_ledger :
    (shape : ShapeLists) (sizes : Sizes) (b : Books) (w : World) (m obj field value objects : ℕ)
    → obj < length b.stamps
    → IsLedgerOf sizes b w objects
    → IsLedgerOf sizes (stamped obj (copied obj b)) (next shape sizes w (Store m obj field value)) objects
changed_is_ledger shape sizes b w m obj field value objects lt l =
    let keep = copied_keeps b obj in
    let within : obj < length (copied obj b).stamps = subst (λ (xs : List ℕ). obj < length xs) (sym keep.1) lt in
    record {
      copies = keep.3 ∙ l.copies;
      objects_are = length-set (copied obj b).stamps obj (copied obj b).epoch ∙ ap (λ (xs : List ℕ). length xs) keep.1 ∙ l.objects_are;
      balance = stamped_is_balanced (copied obj b) obj (copied_is_balanced b obj l.balance);
      tells = record {
        epoch = keep.0 ∙ l.tells.epoch;
        stamps = stamps_after (copied obj b) w obj within (keep.0 ∙ l.tells.epoch) (λ o. ap (λ (xs : List ℕ). get_or xs o 0) keep.1 ∙ l.tells.stamps o);
        active = keep.2 ∙ l.tells.active;
        rows = copied_tells sizes b w obj l.copies l.balance l.tells;
      };
    }

-- a ledger that tells of a world tells, once it has noted a legal event, of the next
pub noted_is_ledger :
    (shape : ShapeLists) (sizes : Sizes) (b : Books) (w : World) (e : Event) (objects : ℕ)
    → IsLegalNext shape sizes w e
    → CanNote e b
    → IsLedgerOf sizes b w objects
    → IsLedgerOf sizes (noted e b) (next shape sizes w e) objects
noted_is_ledger shape sizes b w (New m obj class) objects legal can l = record {
  copies = l.copies;
  objects_are = length-set b.stamps obj b.epoch ∙ l.objects_are;
  balance = stamped_is_balanced b obj l.balance;
  tells = record { epoch = l.tells.epoch; stamps = stamps_after b w obj can l.tells.epoch l.tells.stamps; active = l.tells.active; rows = l.tells.rows };
}
noted_is_ledger shape sizes b w (Load m obj field value) objects legal can l = l
noted_is_ledger shape sizes b w (Store m obj field value) objects legal can l = changed_is_ledger shape sizes b w m obj field value objects can l
noted_is_ledger shape sizes b w (Cas m obj field expect value true) objects legal can l = changed_is_ledger shape sizes b w m obj field value objects can l
noted_is_ledger shape sizes b w (Cas m obj field expect value false) objects legal can l = l
noted_is_ledger shape sizes b w (Launch m site number args) objects legal can l =
    let is = legal_launch shape sizes w m number site args legal in
    let e : number ≡ b.epoch + 1 = is.next_number ∙ ap (λ (n : ℕ). n + 1) (sym l.tells.epoch) in
    record {
      copies = l.copies;
      objects_are = l.objects_are;
      balance = launched_is_balanced b number e l.balance;
      tells = record {
        epoch = ap (λ (n : ℕ). n + 1) l.tells.epoch;
        stamps = l.tells.stamps;
        active = ap (λ (ns : List ℕ). ns ++ number ∷ []) l.tells.active;
        rows = left_at_launch b.active b.rows b.epoch number (omega (arith, e)) l.balance.rows ∙ l.tells.rows;
      };
    }
noted_is_ledger shape sizes b w (Retire m number) objects legal can l =
    record {
      copies = l.copies;
      objects_are = l.objects_are;
      balance = retired_is_balanced b number can.0 can.1 l.balance;
      tells = record {
        epoch = l.tells.epoch;
        stamps = l.tells.stamps;
        active = ap (without number) l.tells.active;
        rows = sym (left_at_retire number b.active b.rows) ∙ ap (left_without number) l.tells.rows ∙ sym (released_checks number w.kept);
      };
    }

-- ---- how much an event adds

-- the rows since a launch are some of all rows
pub few_since : (number : ℕ) (b : Books) → count_needed b.active (rows_since number b) ≤ length b.rows
few_since number b =
    omega (arith, counted_are_few b.active (rows_since number b), length-drop (get_or b.before (number - 1) 0) b.rows)

copied_rows : (b : Books) (obj : ℕ) → length (copied obj b).rows ≤ length b.rows + 1
copied_rows b obj = by (is_full_in b) (is_needed b.active (row_of obj b))
  where
    by : (f n : Bool) → length (cond f b (cond n (with_row (row_of obj b) b) b)).rows ≤ length b.rows + 1
    by true n = omega arith
    by false true = omega (arith, length-append b.rows (row_of obj b ∷ []))
    by false false = omega arith

-- an event adds one launch and one row at most
pub record AddsOne (e : Event) (b : Books) : Type 0 where
  pub epoch : (noted e b).epoch ≤ b.epoch + 1
  pub rows : length (noted e b).rows ≤ length b.rows + 1

-- no event adds more than one launch and one row
pub noted_adds_one : (e : Event) (b : Books) → AddsOne e b
noted_adds_one (New m obj class) b = record { epoch = omega arith; rows = omega arith }
noted_adds_one (Load m obj field value) b = record { epoch = omega arith; rows = omega arith }
noted_adds_one (Store m obj field value) b = record { epoch = omega (arith, (copied_keeps b obj).0); rows = copied_rows b obj }
noted_adds_one (Cas m obj field expect value true) b = record { epoch = omega (arith, (copied_keeps b obj).0); rows = copied_rows b obj }
noted_adds_one (Cas m obj field expect value false) b = record { epoch = omega arith; rows = omega arith }
noted_adds_one (Launch m site number args) b = record { epoch = omega arith; rows = omega arith }
noted_adds_one (Retire m number) b = record { epoch = omega arith; rows = omega arith }
