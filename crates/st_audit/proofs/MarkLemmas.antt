-- Marks: one pair more, one event more.
use Rattle.std.proofs.Common.{◌≡◌, ◌≢◌, ℕ, zero, suc, ◌+◌, ◌<◌, ◌≤◌, ◌==◌, ◌&&◌, ◌||◌, cond, Bool, true, false, inl, inr, List}
use Rattle.std.proofs.Common.{[], ◌∷◌, ◌++◌, length, map, filter, take, get_or, slice_get, replicate, Some, None, refl, sym, ◌∙◌, ap, subst, arith}
use Rattle.std.specs.Prelude.{nat_lt, slice_set}
use Rattle.std.proofs.lemmas.List.{append-nil, append_assoc, take_more, length-set, length-replicate, get_or-set_same, get_or-set_other}
use Rattle.std.proofs.lemmas.List.Folds.{list_any-append}
use Rattle.std.proofs.lemmas.List.Elements.{filter-append}
use Rattle.std.proofs.lemmas.Option.{slice_get_within}
use Rattle.std.proofs.lemmas.Bool.Decides.{eqb_tells}
use Rattle.st_events.specs.declared.events.Event.{Event}
use Rattle.st_events.specs.declared.events.Event.TheVariants.{New, Load, Store, Cas, Launch, Retire}
use Rattle.st_events.specs.declared.limits.Sizes.{Sizes}
use Rattle.st_events.specs.declared.verdicts.Verdict.{Verdict}
use Rattle.st_events.specs.declared.verdicts.Verdict.TheVariants.{Abandoned}
use Rattle.st_events.specs.Terms.{ShapeLists, Pair, World, is_lost, next, needing_in}
use Rattle.st_events.specs.World.{is_full, lost_at_change}
use Rattle.st_events.proofs.AmongLemmas.{or_second, same_number}
use Rattle.st_events.proofs.LegalEvents.{below_holds, is_below}
use Rattle.st_audit.specs.Ledgers.{Books, changed_by, is_full_in, stamp_in}
use Rattle.st_audit.specs.Marks.{AreMarks}
use Rattle.st_audit.specs.Balance.{IsLedgerOf}
use Rattle.st_audit.proofs.BooksLemmas.{fullness_is_told}

-- ---- one pair more

or_none : (a : Bool) → (a || false) ≡ a
or_none true = refl
or_none false = refl

lost_one_more : (pairs : List Pair) (obj number o k : ℕ) → is_lost (pairs ++ (record { obj = obj; check = number }) ∷ []) o k ≡ (is_lost pairs o k || ((obj == o) && (number == k)))
lost_one_more pairs obj number o k =
    list_any-append (λ (pair : Pair). (pair.obj == o) && (pair.check == k)) pairs ((record { obj = obj; check = number }) ∷ [])
    ∙ ap (λ (b : Bool). is_lost pairs o k || b) (or_none ((obj == o) && (number == k)))

another_pair : (obj number o k : ℕ) → (obj ≡ o → number ≡ k → ⊥) → ((obj == o) && (number == k)) ≡ false
another_pair obj number o k other = elim (eqb_tells obj o) [
  | inl a ↦ elim (eqb_tells number k) [ inl b ↦ absurd (other a.1 b.1) | inr b ↦ rw (a.0, b.0) refl ]
  | inr a ↦ rw a.0 refl
]

same_claim : (verdicts : List Verdict) (n obj o : ℕ) → slice_get verdicts n ≡ Some (Abandoned obj) → slice_get verdicts n ≡ Some (Abandoned o) → obj ≡ o
same_claim verdicts n obj o e f = let both : Some (Abandoned obj) ≡ Some (Abandoned o) = sym e ∙ f in cc

-- one pair more is lost, and the verdict of its check claims its object: a mark at that verdict keeps the marks right
pub marks_one_more :
    (verdicts : List Verdict) (pairs : List Pair) (marks : List Bool) (index obj number : ℕ)
    → number ≡ index + 1
    → slice_get verdicts index ≡ Some (Abandoned obj)
    → AreMarks verdicts pairs marks
    → AreMarks verdicts (pairs ++ (record { obj = obj; check = number }) ∷ []) (slice_set marks index true)
marks_one_more verdicts pairs marks index obj number e claim old = record { count = length-set marks index true ∙ old.count; each = each }
  where
    within : index < length marks
    within = let lt : index < length verdicts = slice_get_within verdicts index (Abandoned obj) claim in omega (arith, lt, old.count)

    each : (n o : ℕ) → slice_get verdicts n ≡ Some (Abandoned o) → get_or (slice_set marks index true) n false ≡ is_lost (pairs ++ (record { obj = obj; check = number }) ∷ []) o (n + 1)
    each n o f = elim (eqb_tells n index) [
      | inl same ↦ (
          let now : slice_get verdicts n ≡ Some (Abandoned obj) = rw same.1 claim in
          let objs : obj ≡ o = same_claim verdicts n obj o now f in
          let pair : ((obj == o) && (number == n + 1)) ≡ true =
          rw objs (rw (same_number o) (ap (λ (k : ℕ). k == n + 1) (e ∙ ap (λ (k : ℕ). k + 1) (sym same.1)) ∙ same_number (n + 1))) in
          ap (λ (k : ℕ). get_or (slice_set marks index true) k false) same.1
          ∙ get_or-set_same marks index true false within
          ∙ sym (lost_one_more pairs obj number o (n + 1) ∙ or_second (is_lost pairs o (n + 1)) ((obj == o) && (number == n + 1)) pair)
          )
      | inr other ↦ (
          let pair : ((obj == o) && (number == n + 1)) ≡ false = another_pair obj number o (n + 1) (λ _ is. other.1 (omega (arith, is, e))) in
          get_or-set_other marks index n true false other.1
          ∙ old.each n o f
          ∙ sym (lost_one_more pairs obj number o (n + 1) ∙ ap (λ (b : Bool). is_lost pairs o (n + 1) || b) pair ∙ or_none (is_lost pairs o (n + 1)))
          )
    ]

-- one pair more is lost, and no verdict claims it: the marks are right as they are
pub marks_of_no_claim :
    (verdicts : List Verdict) (pairs : List Pair) (marks : List Bool) (obj number : ℕ)
    → ((index : ℕ) → number ≡ index + 1 → slice_get verdicts index ≢ Some (Abandoned obj))
    → AreMarks verdicts pairs marks
    → AreMarks verdicts (pairs ++ (record { obj = obj; check = number }) ∷ []) marks
marks_of_no_claim verdicts pairs marks obj number none old = record { count = old.count; each = each }
  where
    each : (n o : ℕ) → slice_get verdicts n ≡ Some (Abandoned o) → get_or marks n false ≡ is_lost (pairs ++ (record { obj = obj; check = number }) ∷ []) o (n + 1)
    each n o f =
        let pair : ((obj == o) && (number == n + 1)) ≡ false = another_pair obj number o (n + 1) (λ same is. none n is (f ∙ ap (λ (x : ℕ). Some (Abandoned x)) (sym same))) in
        old.each n o f ∙ sym (lost_one_more pairs obj number o (n + 1) ∙ ap (λ (b : Bool). is_lost pairs o (n + 1) || b) pair ∙ or_none (is_lost pairs o (n + 1)))

-- ---- the pairs of a change

-- a pair of the object and each check
abbrev pub pairs_of : ℕ → List ℕ → List Pair
pairs_of obj ns = map (λ n. record { obj = obj; check = n }) ns

pairs_joined : (obj : ℕ) (xs ys : List ℕ) → pairs_of obj (xs ++ ys) ≡ pairs_of obj xs ++ pairs_of obj ys
pairs_joined obj [] ys = refl
pairs_joined obj (x ∷ xs) ys = ap (λ (zs : List Pair). (record { obj = obj; check = x }) ∷ zs) (pairs_joined obj xs ys)

-- the checks above a stamp among the first so many
above_one_more :
    (stamp : ℕ) (ns : List ℕ) (k d : ℕ)
    → k < length ns
    → filter (λ n. nat_lt stamp n) (take (k + 1) ns)
    ≡ filter (λ n. nat_lt stamp n) (take k ns) ++ cond (nat_lt stamp (get_or ns k d)) (get_or ns k d ∷ []) []
above_one_more stamp ns k d lt =
    ap (λ (xs : List ℕ). filter (λ n. nat_lt stamp n) xs) (take_more ns k d lt) ∙ filter-append (λ n. nat_lt stamp n) (take k ns) (get_or ns k d ∷ [])

-- the next active check, launched after the stamp, adds its pair
pub pairs_one_more :
    (pairs : List Pair) (obj stamp : ℕ) (ns : List ℕ) (k d : ℕ)
    → k < length ns
    → stamp < get_or ns k d
    → pairs ++ pairs_of obj (filter (λ n. nat_lt stamp n) (take (k + 1) ns))
    ≡ (pairs ++ pairs_of obj (filter (λ n. nat_lt stamp n) (take k ns))) ++ (record { obj = obj; check = get_or ns k d }) ∷ []
pairs_one_more pairs obj stamp ns k d lt above =
    ap (λ (xs : List ℕ). pairs ++ pairs_of obj xs)
    (above_one_more stamp ns k d lt ∙ ap (λ (b : Bool). filter (λ n. nat_lt stamp n) (take k ns) ++ cond b (get_or ns k d ∷ []) []) (below_holds stamp (get_or ns k d) above))
    ∙ ap (λ (zs : List Pair). pairs ++ zs) (pairs_joined obj (filter (λ n. nat_lt stamp n) (take k ns)) (get_or ns k d ∷ []))
    ∙ sym (append_assoc pairs (pairs_of obj (filter (λ n. nat_lt stamp n) (take k ns))) ((record { obj = obj; check = get_or ns k d }) ∷ []))

-- the next active check, launched no later than the stamp, adds none
pub pairs_as_before :
    (pairs : List Pair) (obj stamp : ℕ) (ns : List ℕ) (k d : ℕ)
    → k < length ns
    → get_or ns k d ≤ stamp
    → pairs ++ pairs_of obj (filter (λ n. nat_lt stamp n) (take (k + 1) ns)) ≡ pairs ++ pairs_of obj (filter (λ n. nat_lt stamp n) (take k ns))
pairs_as_before pairs obj stamp ns k d lt low =
    ap (λ (xs : List ℕ). pairs ++ pairs_of obj xs)
    (above_one_more stamp ns k d lt ∙ ap (λ (b : Bool). filter (λ n. nat_lt stamp n) (take k ns) ++ cond b (get_or ns k d ∷ []) []) not_above
    ∙ append-nil (filter (λ n. nat_lt stamp n) (take k ns)))
  where
    not_above : nat_lt stamp (get_or ns k d) ≡ false
    not_above = by (nat_lt stamp (get_or ns k d)) refl
      where
        by : (b : Bool) → nat_lt stamp (get_or ns k d) ≡ b → b ≡ false
        by true e = absurd (omega (arith, is_below stamp (get_or ns k d) e, low))
        by false e = refl

-- ---- one event more

-- an event that changes no object loses nothing
lost_of_no_change : (shape : ShapeLists) (sizes : Sizes) (w : World) (e : Event) → changed_by e ≡ None → (next shape sizes w e).lost ≡ w.lost
lost_of_no_change shape sizes w (New m obj class) n = refl
lost_of_no_change shape sizes w (Load m obj field value) n = refl
lost_of_no_change shape sizes w (Store m obj field value) n = cc
lost_of_no_change shape sizes w (Cas m obj field expect value true) n = cc
lost_of_no_change shape sizes w (Cas m obj field expect value false) n = refl
lost_of_no_change shape sizes w (Launch m site number args) n = refl
lost_of_no_change shape sizes w (Retire m number) n = refl

lost_of_change : (shape : ShapeLists) (sizes : Sizes) (w : World) (e : Event) (obj : ℕ) → changed_by e ≡ Some obj → (next shape sizes w e).lost ≡ lost_at_change sizes w obj
lost_of_change shape sizes w (New m o class) obj n = cc
lost_of_change shape sizes w (Load m o field value) obj n = cc
lost_of_change shape sizes w (Store m o field value) obj n = let same : o ≡ obj = cc in ap (lost_at_change sizes w) same
lost_of_change shape sizes w (Cas m o field expect value true) obj n = let same : o ≡ obj = cc in ap (lost_at_change sizes w) same
lost_of_change shape sizes w (Cas m o field expect value false) obj n = cc
lost_of_change shape sizes w (Launch m site number args) obj n = cc
lost_of_change shape sizes w (Retire m number) obj n = cc

-- an event that changes no object leaves the marks right
pub marks_stay :
    (shape : ShapeLists) (sizes : Sizes) (w : World) (e : Event) (verdicts : List Verdict) (marks : List Bool)
    → changed_by e ≡ None
    → AreMarks verdicts w.lost marks
    → AreMarks verdicts (next shape sizes w e).lost marks
marks_stay shape sizes w e verdicts marks n old = subst (λ (pairs : List Pair). AreMarks verdicts pairs marks) (sym (lost_of_no_change shape sizes w e n)) old

-- so does a change while a copy is left
pub marks_stay_with_room :
    (shape : ShapeLists) (sizes : Sizes) (b : Books) (w : World) (e : Event) (obj objects : ℕ) (verdicts : List Verdict) (marks : List Bool)
    → changed_by e ≡ Some obj
    → IsLedgerOf sizes b w objects
    → is_full_in b ≡ false
    → AreMarks verdicts w.lost marks
    → AreMarks verdicts (next shape sizes w e).lost marks
marks_stay_with_room shape sizes b w e obj objects verdicts marks n l room old =
    let free : is_full sizes w ≡ false = sym (fullness_is_told sizes b w l.copies l.balance l.tells) ∙ room in
    let same : (next shape sizes w e).lost ≡ w.lost =
    lost_of_change shape sizes w e obj n ∙ ap (λ (f : Bool). cond f (w.lost ++ pairs_of obj (needing_in w obj)) w.lost) free in
    subst (λ (pairs : List Pair). AreMarks verdicts pairs marks) (sym same) old

-- marks for the pairs of a change in a full pool, as the ledger tells them, are right for the next world
pub marks_at_loss :
    (shape : ShapeLists) (sizes : Sizes) (b : Books) (w : World) (e : Event) (obj objects : ℕ) (verdicts : List Verdict) (marks : List Bool)
    → changed_by e ≡ Some obj
    → IsLedgerOf sizes b w objects
    → is_full_in b ≡ true
    → AreMarks verdicts (w.lost ++ pairs_of obj (filter (λ n. nat_lt (stamp_in b obj) n) b.active)) marks
    → AreMarks verdicts (next shape sizes w e).lost marks
marks_at_loss shape sizes b w e obj objects verdicts marks n l full now =
    let spent : is_full sizes w ≡ true = sym (fullness_is_told sizes b w l.copies l.balance l.tells) ∙ full in
    let needed : filter (λ n. nat_lt (stamp_in b obj) n) b.active ≡ needing_in w obj =
    ap (λ (s : ℕ). filter (λ n. nat_lt s n) b.active) (l.tells.stamps obj) ∙ ap (λ (ns : List ℕ). filter (λ n. nat_lt (w.stamp obj) n) ns) l.tells.active in
    let same : (next shape sizes w e).lost ≡ w.lost ++ pairs_of obj (needing_in w obj) =
    lost_of_change shape sizes w e obj n ∙ ap (λ (f : Bool). cond f (w.lost ++ pairs_of obj (needing_in w obj)) w.lost) spent in
    subst (λ (pairs : List Pair). AreMarks verdicts pairs marks) (sym same) (subst (λ (ns : List ℕ). AreMarks verdicts (w.lost ++ pairs_of obj ns) marks) needed now)

-- before anything is lost no verdict has a mark
pub no_marks : (verdicts : List Verdict) (n : ℕ) → n ≡ length verdicts → AreMarks verdicts [] (replicate n false)
no_marks verdicts n e = record { count = length-replicate n false ∙ e; each = λ i obj claim. none n i }
  where
    none : (m i : ℕ) → get_or (replicate m false) i false ≡ false
    none zero i = refl
    none (suc m) zero = refl
    none (suc m) (suc i) = none m i
