-- The own events of each number: one event more, prefixes, what they cost, and what they make.
use Rattle.std.proofs.Common.{◌≡◌, ◌≢◌, ℕ, zero, suc, ◌+◌, ◌*◌, ◌<◌, ◌≤◌, ◌==◌, Bool, true, false, if◌then◌else◌, List, [], ◌∷◌, ◌++◌}
use Rattle.std.proofs.Common.{length, filter}
use Rattle.std.proofs.Common.{sym, refl, ap, ◌∙◌, arith, suc-mul}
use Rattle.std.proofs.lemmas.List.Sums.{sum_by_push}
use mathlib.Core.Logic.{dite}
use mathlib.Core.List.{IsPrefix}
use native.Mathlib.Decide.{ℕ_discrete}
use Rattle.st_events.specs.declared.events.Event.{Event}
use Rattle.st_events.specs.declared.events.Event.TheVariants.{New, Load, Store, Cas, Launch, Retire}
use Rattle.st_events.specs.History.{is_own, is_new, is_new_of}
use Rattle.st_rule.specs.declared.views.Entry.{Entry}
use Rattle.st_rule.specs.Entries.{own_entries, charge_of, charge_of_all, charge_below, news_among}

-- an event with its ticket
abbrev pub entry : ℕ → Event → Entry
entry ticket e = record { ticket = ticket; event = e }

abbrev first_of : Bool → ℕ → ℕ → Event → List Event → List Entry
first_of own n k e es = if own then entry k e ∷ own_entries n (suc k) es else own_entries n (suc k) es

-- of two lists, one after the other
joined_step :
    (n k : ℕ) (e : Event) (xs ys : List Event)
    → own_entries n (suc k) (xs ++ ys) ≡ own_entries n (suc k) xs ++ own_entries n (suc k + length xs) ys
    → suc k + length xs ≡ k + length (e ∷ xs)
    → (own : Bool)
    → first_of own n k e (xs ++ ys) ≡ first_of own n k e xs ++ own_entries n (k + length (e ∷ xs)) ys
joined_step n k e xs ys rest count true = ap (λ zs. entry k e ∷ zs) (rest ∙ ap (λ t. own_entries n (suc k) xs ++ own_entries n t ys) count)
joined_step n k e xs ys rest count false = rest ∙ ap (λ t. own_entries n (suc k) xs ++ own_entries n t ys) count

-- a number's own events of two lists, one behind the other, are those of the first and those of the second, whose tickets go on
pub own_joined : (n k : ℕ) (xs ys : List Event) → own_entries n k (xs ++ ys) ≡ own_entries n k xs ++ own_entries n (k + length xs) ys
own_joined n k [] ys = ap (λ t. own_entries n t ys) (let e : k ≡ k + length {A = Event} [] = omega arith in e)
own_joined n k (e ∷ xs) ys = joined_step n k e xs ys (own_joined n (suc k) xs ys) (omega arith) (is_own n e)

-- one event more of the number's own
pub own_more : (n : ℕ) (es : List Event) (e : Event) → is_own n e ≡ true → own_entries n 0 (es ++ e ∷ []) ≡ own_entries n 0 es ++ entry (length es) e ∷ []
own_more n es e own = own_joined n 0 es (e ∷ []) ∙ ap (λ zs. own_entries n 0 es ++ zs) (ap (λ b. first_of b n (0 + length es) e []) own
    ∙ ap (λ t. entry t e ∷ []) (let z : 0 + length es ≡ length es = omega arith in z))

append_nil : {A : Type 0} (xs : List A) → xs ++ [] ≡ xs
append_nil [] = refl
append_nil (x ∷ xs) = ap (λ ys. x ∷ ys) (append_nil xs)

-- one event more, which is another's
pub own_other : (n : ℕ) (es : List Event) (e : Event) → is_own n e ≡ false → own_entries n 0 (es ++ e ∷ []) ≡ own_entries n 0 es
own_other n es e other = own_joined n 0 es (e ∷ []) ∙ ap (λ zs. own_entries n 0 es ++ zs) (ap (λ b. first_of b n (0 + length es) e []) other) ∙ append_nil (own_entries n 0 es)

none_first : {A : Type 0} (xs ys : List A) → xs ++ ys ≡ [] → xs ≡ []
none_first [] ys e = refl
none_first (x ∷ xs) ys e = absurd cc

-- where a list has none, no prefix of it has
pub own_none : (n : ℕ) (seen whole : List Event) → IsPrefix seen whole → own_entries n 0 whole ≡ [] → own_entries n 0 seen ≡ []
own_none n seen whole p none = none_first (own_entries n 0 seen) (own_entries n (0 + length seen) p.0) (sym (own_joined n 0 seen p.0) ∙ ap (own_entries n 0) p.1 ∙ none)

begins_both : {A : Type 0} (xs ys zs : List A) → (xs ++ ys) ++ zs ≡ xs → xs ++ ys ≡ xs
begins_both [] [] zs e = refl
begins_both [] (y ∷ ys) zs e = absurd cc
begins_both (x ∷ xs) ys zs e = ap (λ t. x ∷ t) (begins_both xs ys zs (cc e))

-- a list between two that have the same own events of a number has these too
pub own_between :
    (n : ℕ) (short middle long : List Event) (entries : List Entry)
    → IsPrefix short middle → IsPrefix middle long
    → own_entries n 0 short ≡ entries → own_entries n 0 long ≡ entries → own_entries n 0 middle ≡ entries
own_between n short middle long entries p q is is' =
    let first = own_entries n 0 short in
    let second = own_entries n (0 + length short) p.0 in
    let third = own_entries n (0 + length middle) q.0 in
    let split : own_entries n 0 middle ≡ first ++ second = ap (own_entries n 0) (sym p.1) ∙ own_joined n 0 short p.0 in
    let whole : (first ++ second) ++ third ≡ first =
    ap (λ es. es ++ third) (sym split) ∙ sym (own_joined n 0 middle q.0) ∙ ap (own_entries n 0) q.1 ∙ is' ∙ sym is in
    split ∙ begins_both first second third whole ∙ is

-- what one entry more costs
pub charge_more : (entries : List Entry) (ticket : ℕ) (e : Event) → charge_of_all (entries ++ entry ticket e ∷ []) ≡ charge_of_all entries + charge_of e
charge_more entries ticket e = sum_by_push (λ (x : Entry). charge_of x.event) entries (entry ticket e)

-- what one event more of number m costs the numbers below
pub below_other :
    (count m : ℕ) (es : List Event) (e : Event)
    → ((n : ℕ) → n ≢ m → is_own n e ≡ false) → count ≤ m
    → charge_below count (es ++ e ∷ []) ≡ charge_below count es
below_other zero m es e others le = refl
below_other (suc n) m es e others le =
    let rest = below_other n m es e others (omega (arith, le)) in
    let same = ap charge_of_all (own_other n es e (others n (λ s. absurd (omega (arith, s, le))))) in
    omega (arith, rest, same)

-- an event more of one number costs the numbers below the count just what the event costs
pub below_more :
    (count m : ℕ) (es : List Event) (e : Event)
    → ((n : ℕ) → n ≢ m → is_own n e ≡ false) → is_own m e ≡ true → m < count
    → charge_below count (es ++ e ∷ []) ≡ charge_below count es + charge_of e
below_more zero m es e others own lt = absurd (omega (arith, lt))
below_more (suc n) m es e others own lt = dite (ℕ_discrete n m)
    (λ here.
    let rest = below_other n m es e others (omega (arith, here)) in
    let more = ap charge_of_all (own_more n es e (ap (λ k. is_own k e) here ∙ own)) ∙ charge_more (own_entries n 0 es) (length es) e in
    omega (arith, rest, more))
    (λ apart.
    let rest = below_more n m es e others own (omega (arith, lt, (λ (s : m ≡ n). apart (sym s)))) in
    let same = ap charge_of_all (own_other n es e (others n apart)) in
    omega (arith, rest, same))

-- no more than so much for each
pub below_most : (count most : ℕ) (es : List Event) → ((n : ℕ) → n < count → charge_of_all (own_entries n 0 es) ≤ most) → charge_below count es ≤ count * most
below_most zero most es each = omega arith
below_most (suc n) most es each =
    let rest = below_most n most es (λ k lt. each k (omega (arith, lt))) in
    let here = each n (omega arith) in
    omega (arith, rest, here, suc-mul n most)

-- the New events of a number are those among its entries
news_step :
    (m k : ℕ) (e : Event) (es : List Event)
    → length (filter (is_new_of m) es) ≡ news_among (own_entries m (suc k) es)
    → (own new : Bool) → is_new e ≡ new
    → length (if (if own then new else false) then e ∷ filter (is_new_of m) es else filter (is_new_of m) es) ≡ news_among (first_of own m k e es)
news_step m k e es rest true true is = rw is (ap suc rest)
news_step m k e es rest true false is = rw is rest
news_step m k e es rest false new is = rest

both_tests : (b : Bool) → b ≡ (if b then true else false)
both_tests true = refl
both_tests false = refl

neither : (b : Bool) → false ≡ (if b then false else false)
neither true = refl
neither false = refl

new_test : (m : ℕ) (e : Event) → is_new_of m e ≡ (if is_own m e then is_new e else false)
new_test m (New t obj class) = both_tests (t == m)
new_test m (Load t obj field value) = neither (t == m)
new_test m (Store t obj field value) = neither (t == m)
new_test m (Cas t obj field expect value done) = neither (t == m)
new_test m (Launch t site number args) = neither (t == m)
new_test m (Retire t number) = refl

-- the New events of a number among these events are as many as among its entries
pub news_are : (m k : ℕ) (es : List Event) → length (filter (is_new_of m) es) ≡ news_among (own_entries m k es)
news_are m k [] = refl
news_are m k (e ∷ es) =
    ap (λ b. length (if b then e ∷ filter (is_new_of m) es else filter (is_new_of m) es)) (new_test m e)
    ∙ news_step m k e es (news_are m (suc k) es) (is_own m e) (is_new e) refl
