-- The first of a list that is in excess.
use Rattle.std.proofs.Common.{◌≡◌, ◌≢◌, ℕ, zero, suc, ◌+◌, ◌<◌, ◌≤◌, List, [], ◌∷◌, ◌++◌, length, fold}
use Rattle.std.proofs.Common.{drop, get_or, Option, Some, None, refl, ap, sym, subst, ◌∙◌, append_assoc, add-one, drop-cons, arith}
use Rattle.st_grammar.specs.Firsts.{or_else, first_from}
use Rattle.st_grammar.specs.Firsts as firsts

-- where one is in excess, it is the first
pub first_here : {S T O : Type 0} (excess : S → T → Option O) (next : S → T → S) (counts : S) (ts : List T) (k : ℕ) (d : T) (over : O)
    → k < length ts → excess counts (get_or ts k d) ≡ Some over → first_from excess next counts (drop k ts) ≡ Some over
first_here excess next counts ts k d over within here =
    ap (first_from excess next counts) (drop-cons ts k d within)
    ∙ ap (λ o. or_else o (first_from excess next (next counts (get_or ts k d)) (drop (suc k) ts))) here

-- where one is not in excess, it is counted
pub first_later : {S T O : Type 0} (excess : S → T → Option O) (next : S → T → S) (counts : S) (ts : List T) (k : ℕ) (d : T)
    → k < length ts → excess counts (get_or ts k d) ≡ None
    → first_from excess next counts (drop k ts) ≡ first_from excess next (next counts (get_or ts k d)) (drop (k + 1) ts)
first_later excess next counts ts k d within here =
    ap (first_from excess next counts) (drop-cons ts k d within)
    ∙ ap (λ o. or_else o (first_from excess next (next counts (get_or ts k d)) (drop (suc k) ts))) here
    ∙ ap (λ j. first_from excess next (next counts (get_or ts k d)) (drop j ts)) (sym (add-one k))

-- none is first: the front is none, and none is in the rest
pub none_of : {O : Type 0} (o rest : Option O) → or_else o rest ≡ None → (o ≡ None) × (rest ≡ None)
none_of None rest e = (refl, e)
none_of (Some x) rest e = absurd cc

-- where there is no first, none is in excess
pub none_within : {S T O : Type 0} (excess : S → T → Option O) (next : S → T → S) (counts : S) (ts : List T)
    → first_from excess next counts ts ≡ None → firsts.AreWithin excess next counts ts
none_within excess next counts ts e [] after t split =
    (none_of (excess counts t) (first_from excess next (next counts t) after) (sym (ap (first_from excess next counts) split) ∙ e)).0
none_within excess next counts ts e (b ∷ bs) after t split =
    let later = none_of (excess counts b) (first_from excess next (next counts b) (bs ++ t ∷ after)) (sym (ap (first_from excess next counts) split) ∙ e) in
    none_within excess next (next counts b) (bs ++ t ∷ after) later.1 bs after t refl

abbrev head_or : {T : Type 0} → T → List T → T
head_or d [] = d
head_or d (t ∷ ts) = t

abbrev rest_of : {T : Type 0} → List T → List T
rest_of [] = []
rest_of (t ∷ ts) = ts

-- one that is not in excess may stand before others that are not
within_more : {S T O : Type 0} (excess : S → T → Option O) (next : S → T → S) (counts : S) (t : T) (ts : List T)
    → excess counts t ≡ None → firsts.AreWithin excess next (next counts t) ts → firsts.AreWithin excess next counts (t ∷ ts)
within_more excess next counts t ts here within [] after x split = ap (excess counts) (sym (ap (head_or t) split)) ∙ here
within_more excess next counts t ts here within (b ∷ bs) after x split =
    let same : t ≡ b = ap (head_or t) split in
    ap (λ c. excess (fold next (next counts c) bs) x) (sym same) ∙ within bs after x (ap rest_of split)

no_split : {T : Type 0} (before after : List T) (x : T) → [] ≡ before ++ x ∷ after → ⊥
no_split [] after x split = cc
no_split (b ∷ bs) after x split = cc

-- where there is a first, it is so
pub some_first : {S T O : Type 0} (excess : S → T → Option O) (next : S → T → S) (counts : S) (ts : List T) (over : O)
    → first_from excess next counts ts ≡ Some over → firsts.IsFirst excess next counts ts over
some_first {O = O} excess next counts [] over e = absurd cc
some_first {O = O} excess next counts (t ∷ ts) over e = by (excess counts t) refl e (some_first excess next (next counts t) ts over)
  where
    by : (o : Option O) → excess counts t ≡ o → or_else o (first_from excess next (next counts t) ts) ≡ Some over
        → (first_from excess next (next counts t) ts ≡ Some over → firsts.IsFirst excess next (next counts t) ts over)
        → firsts.IsFirst excess next counts (t ∷ ts) over
    by None is e later =
        let r = later e in
        record {
          before = t ∷ r.before;
          here = r.here;
          after = r.after;
          split = ap (λ l. t ∷ l) r.split;
          within = within_more excess next counts t r.before is r.within;
          excess_here = r.excess_here;
        }
    by (Some x) is e later = record {
      before = [];
      here = t;
      after = ts;
      split = refl;
      within = λ before after x split. absurd (no_split before after x split);
      excess_here = is ∙ e;
    }
