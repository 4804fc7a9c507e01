-- Counts of items: how many of one kind a list has, and that a count which never begins anew stays within its limit.
use Rattle.std.proofs.Common.{◌≡◌, ◌≢◌, ℕ, zero, suc, ◌+◌, ◌≤◌, ◌<◌, Bool, true, false, if◌then◌else◌, nat_lt, List, [], ◌∷◌, ◌++◌, length, fold, get_or}
use Rattle.std.proofs.Common.{◌⊎◌, inl, inr, Option, Some, None, refl, ap, sym, subst, ◌∙◌, arith, rules}
use Rattle.std.specs.List.{flat_map}
use Rattle.std.proofs.Math.Dec.{eqb}
use Rattle.std.proofs.lemmas.Bool.Decides.{eqb_tells}
use Rattle.std.proofs.lemmas.List.{get_or-set_same, get_or-set_other, length-set}
use Rattle.st_events.specs.declared.events.Site.{Site}
use Rattle.st_grammar.specs.declared.counts.Item.{Item}
use Rattle.st_grammar.specs.declared.counts.Item.TheVariants as item
use Rattle.st_grammar.specs.declared.counts.What.{What}
use Rattle.st_grammar.specs.declared.counts.What.TheVariants as what
use Rattle.st_grammar.specs.Counts.{most, slot, counted, excess}
use Rattle.st_grammar.specs.Firsts.{or_else, first_from}
use Rattle.st_grammar.specs.Firsts as firsts
use Rattle.st_grammar.proofs.FirstLemmas.{none_of}
use Rattle.st_limit_laws.specs.Few.{as_one, how_many}

-- where none is in excess there is no first
pub within_none : {S T O : Type 0} (excess : S → T → Option O) (next : S → T → S) (counts : S) (ts : List T)
    → firsts.AreWithin excess next counts ts → first_from excess next counts ts ≡ None
within_none excess next counts [] h = refl
within_none excess next counts (t ∷ ts) h =
    ap (λ o. or_else o (first_from excess next (next counts t) ts)) (h [] ts t refl)
    ∙ within_none excess next (next counts t) ts (λ before after x split. h (t ∷ before) after x (ap (λ l. t ∷ l) split))

-- none of two lists one after the other
pub none_append : {S T O : Type 0} (excess : S → T → Option O) (next : S → T → S) (counts : S) (xs ys : List T)
    → first_from excess next counts (xs ++ ys) ≡ None
    → (first_from excess next counts xs ≡ None) × (first_from excess next (fold next counts xs) ys ≡ None)
none_append excess next counts [] ys e = (refl, e)
none_append excess next counts (x ∷ xs) ys e =
    let parts = none_of (excess counts x) (first_from excess next (next counts x) (xs ++ ys)) e in
    let later = none_append excess next (next counts x) xs ys parts.1 in
    (ap (λ o. or_else o (first_from excess next (next counts x) xs)) parts.0 ∙ later.0, later.1)

-- the count of this
abbrev pub at : List ℕ → What → ℕ
at counts w = get_or counts (slot w) 0

-- the count of this does not begin anew
abbrev pub Lasts : What → List Item → Type 0
Lasts w [] = Unit {0}
Lasts w (item.Anew v ∷ ts) = (slot w ≢ slot v) × Lasts w ts
Lasts w (item.One v site ∷ ts) = Lasts w ts

-- two lists one after the other have of a kind what both have together
pub ones_append : (w : What) (xs ys : List Item) → how_many w (xs ++ ys) ≡ how_many w xs + how_many w ys
ones_append w [] ys = omega arith
ones_append w (item.Anew v ∷ xs) ys = ones_append w xs ys
ones_append w (item.One v site ∷ xs) ys = let h : how_many w (xs ++ ys) ≡ how_many w xs + how_many w ys = ones_append w xs ys in omega (arith, h)

-- where each thing gives at least one item of a kind, there are no more things than items
pub ones_each : {A : Type 0} (w : What) (items : A → List Item) → ((x : A) → 1 ≤ how_many w (items x)) → (xs : List A)
    → length xs ≤ how_many w (flat_map items xs)
ones_each w items h [] = omega arith
ones_each w items h (x ∷ xs) =
    let here : 1 ≤ how_many w (items x) = h x in
    let later : length xs ≤ how_many w (flat_map items xs) = ones_each w items h xs in
    let both : how_many w (items x ++ flat_map items xs) ≡ how_many w (items x) + how_many w (flat_map items xs) = ones_append w (items x) (flat_map items xs) in
    omega (arith, here, later, both)

-- a count that neither of two lists begins anew is not begun anew by both, one after the other
pub lasts_append : (w : What) (xs ys : List Item) → Lasts w xs → Lasts w ys → Lasts w (xs ++ ys)
lasts_append w [] ys h k = k
lasts_append w (item.Anew v ∷ xs) ys h k = (h.0, lasts_append w xs ys h.1 k)
lasts_append w (item.One v site ∷ xs) ys h k = lasts_append w xs ys h k

-- nor by the items of many things, where those of each do not
pub lasts_each : {A : Type 0} (w : What) (items : A → List Item) → ((x : A) → Lasts w (items x)) → (xs : List A) → Lasts w (flat_map items xs)
lasts_each w items h [] = tt
lasts_each w items h (x ∷ xs) = lasts_append w (items x) (flat_map items xs) (h x) (lasts_each w items h xs)

-- each kind has its own count among the nine
pub slot_below : (w : What) → slot w < 9
slot_below what.Classes = omega arith
slot_below what.Fields = omega arith
slot_below what.Preds = omega arith
slot_below what.Procs = omega arith
slot_below what.Threads = omega arith
slot_below what.Params = omega arith
slot_below what.Locals = omega arith
slot_below what.CheckArgs = omega arith
slot_below what.Checks = omega arith

-- the limit of a slot
abbrev limit : ℕ → ℕ
limit n = if eqb n 0 then most what.Classes else if eqb n 1 then most what.Fields else if eqb n 2 then most what.Preds
    else if eqb n 3 then most what.Procs else if eqb n 4 then most what.Threads else if eqb n 5 then most what.Params
    else if eqb n 6 then most what.Locals else if eqb n 7 then most what.CheckArgs else most what.Checks

limit_of : (w : What) → limit (slot w) ≡ most w
limit_of what.Classes = refl
limit_of what.Fields = refl
limit_of what.Preds = refl
limit_of what.Procs = refl
limit_of what.Threads = refl
limit_of what.Params = refl
limit_of what.Locals = refl
limit_of what.CheckArgs = refl
limit_of what.Checks = refl

-- an item that is not in excess had room
room : (m n : ℕ) (x : What × Site) → (if nat_lt m n then None else Some x) ≡ None → m < n
room m n x e = by (nat_lt m n) refl e
  where
    by : (b : Bool) → nat_lt m n ≡ b → (if b then None else Some x) ≡ None → m < n
    by true is e = search (rules, is)
    by false is e = absurd cc

-- counting an item leaves nine counts
pub counted_length : (counts : List ℕ) (t : Item) → length counts ≡ 9 → length (counted counts t) ≡ 9
counted_length counts (item.Anew v) e = length-set counts (slot v) 0 ∙ e
counted_length counts (item.One v site) e = length-set counts (slot v) (at counts v + 1) ∙ e

-- one more of these, above no limit
counted_one : (w v : What) (site : Site) (ts : List Item) (counts : List ℕ)
    → ((eqb (slot w) (slot v) ≡ true) × (slot w ≡ slot v)) ⊎ ((eqb (slot w) (slot v) ≡ false) × (slot w ≢ slot v))
    → length counts ≡ 9 → at counts v < most v → at counts w ≤ most w
    → (at (counted counts (item.One v site)) w ≤ most w → at (counted counts (item.One v site)) w + how_many w ts ≤ most w)
    → at counts w + how_many w (item.One v site ∷ ts) ≤ most w
counted_one w v site ts counts (inl p) long less few later =
    let place : slot v < 9 = slot_below v in
    let within : slot v < length counts = omega (arith, place, long) in
    let as_counted : at counts w ≡ at counts v = ap (λ n. get_or counts n 0) p.1 in
    let as_limited : most w ≡ most v = sym (limit_of w) ∙ ap limit p.1 ∙ limit_of v in
    let one : as_one w v ≡ 1 = ap (λ b. if b then 1 else 0) p.0 in
    let more : at (counted counts (item.One v site)) w ≡ at counts v + 1 =
    ap (λ n. get_or (counted counts (item.One v site)) n 0) p.1 ∙ get_or-set_same counts (slot v) (at counts v + 1) 0 within in
    let h : at (counted counts (item.One v site)) w + how_many w ts ≤ most w = later (omega (arith, more, less, as_limited)) in
    omega (arith, h, more, as_counted, one)
counted_one w v site ts counts (inr p) long less few later =
    let kept : at (counted counts (item.One v site)) w ≡ at counts w = get_or-set_other counts (slot v) (slot w) (at counts v + 1) 0 p.1 in
    let none : as_one w v ≡ 0 = ap (λ b. if b then 1 else 0) p.0 in
    let h : at (counted counts (item.One v site)) w + how_many w ts ≤ most w = later (omega (arith, kept, few)) in
    omega (arith, h, kept, none)

-- a count that does not begin anew stays within its limit
pub total : (w : What) (ts : List Item) (counts : List ℕ) → length counts ≡ 9 → first_from excess counted counts ts ≡ None
    → Lasts w ts → at counts w ≤ most w → at counts w + how_many w ts ≤ most w
total w [] counts long e lasts few = omega (arith, few)
total w (item.Anew v ∷ ts) counts long e lasts few =
    let kept : at (counted counts (item.Anew v)) w ≡ at counts w = get_or-set_other counts (slot v) (slot w) 0 0 lasts.0 in
    let h = total w ts (counted counts (item.Anew v)) (counted_length counts (item.Anew v) long) e lasts.1 (subst (λ n. n ≤ most w) (sym kept) few) in
    subst (λ n. n + how_many w ts ≤ most w) kept h
total w (item.One v site ∷ ts) counts long e lasts few =
    let parts = none_of (excess counts (item.One v site)) (first_from excess counted (counted counts (item.One v site)) ts) e in
    counted_one w v site ts counts (eqb_tells (slot w) (slot v)) long (room (at counts v) (most v) (v, site) parts.0) few
    (λ k. total w ts (counted counts (item.One v site)) (counted_length counts (item.One v site) long) parts.1 lasts k)
