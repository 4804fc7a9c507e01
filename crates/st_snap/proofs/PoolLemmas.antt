-- The pool's lists: a copy is free or holds one version
use Rattle.std.proofs.Common.{◌≡◌, ℕ, ◌+◌, ◌==◌, ◌<◌, ◌≤◌, nat_lt, not, ◌-◌, cond, Bool, true, false, List, [], ◌∷◌, ◌++◌, length}
use Rattle.std.proofs.Common.{map, filter, take, drop, get_or, set, Option, append_assoc, append-nil, refl, ap, sym, subst, ◌∙◌, inl, inr, arith, length-append}
use Rattle.std.proofs.lemmas.List.Filters.{FiltersInPlace, length-filter_both, sum_by-filter_both}
use Rattle.std.specs.List.{count_by, Contains, All}
use Rattle.std.proofs.lemmas.List.{get_or-set_same, get_or-set_other, get_or-take, get_or-drop, get_or_default, get_or-map, length-map, length-take, map-append}
use Rattle.std.proofs.lemmas.List.Sums.{sum_by-cons, sum_by-append, sum_by_push}
use Rattle.std.proofs.lemmas.List.Elements.{All-map, All-contains, All-head, All-tail, filter_more}
use Rattle.std.proofs.lemmas.Bool.Decides.{eqb_tells}
use Rattle.st_events.proofs.LegalEvents.{is_below}
use Rattle.st_snap.specs.declared.pools.Version.{Version}
use Rattle.st_snap.specs.Pool.{KeptVersion, AreInOrder, is_read}
use Rattle.st_snap.specs.PoolLists.{kept_of, uses, is_version_read, AreVersionsInOrder}

-- a copy that is taken from the free ones, and holds a version then
pub keeping_uses_as_many :
    (free rest : List ℕ) (kept : List Version) (version : Version) (k : ℕ)
    → free ≡ rest ++ version.copy ∷ []
    → uses rest (kept ++ version ∷ []) k ≡ uses free kept k
keeping_uses_as_many free rest kept version k e =
    let a = sum_by_push (λ v. cond (v.copy == k) 1 0) kept version in
    let b = sum_by_push (λ c. cond (c == k) 1 0) rest version.copy in
    rw (e, a, b) (omega arith)

one_is_true : (b : Bool) (n : ℕ) → n + 1 ≤ cond b 1 0 → b ≡ true
one_is_true true n h = refl
one_is_true false n h = absurd (omega arith)

-- a free number is that of a copy
pub free_is_copy :
    (size : ℕ) (rest : List ℕ) (kept : List Version) (copy : ℕ)
    → uses (rest ++ copy ∷ []) kept copy ≡ cond (nat_lt copy size) 1 0
    → copy < size
free_is_copy size rest kept copy h =
    let b = sum_by_push (λ c. cond (c == copy) 1 0) rest copy in
    elim (eqb_tells copy copy) [
      | inl e ↦ is_below copy size (one_is_true (nat_lt copy size) (count_by (λ c. c == copy) rest + count_by (λ v. v.copy == copy) kept) (let k = rw (b, e.0) at h in omega arith))
      | inr e ↦ absurd (e.1 refl)
    ]

no_more_than_one : (b : Bool) (n m : ℕ) → n + 1 + m ≡ cond b 1 0 → m ≡ 0
no_more_than_one true n m h = omega arith
no_more_than_one false n m h = omega arith

-- it holds no version
pub free_is_unused :
    (size : ℕ) (rest : List ℕ) (kept : List Version) (copy : ℕ)
    → uses (rest ++ copy ∷ []) kept copy ≡ cond (nat_lt copy size) 1 0
    → count_by (λ v. v.copy == copy) kept ≡ 0
free_is_unused size rest kept copy h =
    let b = sum_by_push (λ c. cond (c == copy) 1 0) rest copy in
    elim (eqb_tells copy copy) [
      | inl e ↦ no_more_than_one (nat_lt copy size) (count_by (λ c. c == copy) rest) (count_by (λ v. v.copy == copy) kept) (rw (b, e.0) at h)
      | inr e ↦ absurd (e.1 refl)
    ]

-- what is written to it changes no version that is kept
pub writing_free_keeps_words :
    (words : List (List ℕ)) (copy : ℕ) (ws : List ℕ) (kept : List Version)
    → count_by (λ v. v.copy == copy) kept ≡ 0
    → map (kept_of (set words copy ws)) kept ≡ map (kept_of words) kept
writing_free_keeps_words words copy ws [] h = refl
writing_free_keeps_words words copy ws (v ∷ kept) h =
    let e = sum_by-cons (λ v. cond (v.copy == copy) 1 0) v kept in
    elim (eqb_tells v.copy copy) [
      | inl y ↦ absurd (omega (arith, (rw (e, y.0) at h)))
      | inr n ↦ rw (get_or-set_other words copy v.copy ws [] n.1, writing_free_keeps_words words copy ws kept (omega (arith, (rw (e, n.0) at h)))) refl
    ]

-- and to the copy itself, one version more
pub keeping_adds_version :
    (words : List (List ℕ)) (kept : List Version) (version : Version) (ws : List ℕ)
    → version.copy < length words
    → count_by (λ v. v.copy == version.copy) kept ≡ 0
    → map (kept_of (set words version.copy ws)) (kept ++ version ∷ []) ≡ map (kept_of words) kept ++ record { version = version; words = ws } ∷ []
keeping_adds_version words kept version ws h none =
    map-append (kept_of (set words version.copy ws)) kept (version ∷ []) ∙ rw (writing_free_keeps_words words version.copy ws kept none, get_or-set_same words version.copy ws [] h) refl

-- the words of a version that is kept are those of its copy
pub words_of_kept :
    (words : List (List ℕ)) (kept : List Version) (k : KeptVersion)
    → Contains (map (kept_of words) kept) k
    → k.words ≡ get_or words k.version.copy []
words_of_kept words kept k h =
    All-contains (λ (k : KeptVersion). k.words ≡ get_or words k.version.copy []) (map (kept_of words) kept) k
    (All-map (λ (k : KeptVersion). k.words ≡ get_or words k.version.copy []) (kept_of words) kept (λ _ _ _. refl)) h

-- leaving out versions, and then their words
map_of_either :
    {X Y : Type 0} (f : X → Y) (b : Bool) (x : X) (xs : List X) (ys : List Y)
    → map f xs ≡ ys
    → map f (cond b (x ∷ xs) xs) ≡ cond b (f x ∷ ys) ys
map_of_either f true x xs ys e = ap (λ zs. f x ∷ zs) e
map_of_either f false x xs ys e = e

-- what passes of a mapped list comes from what passes once it is mapped
pub filter_of_mapped : {X Y : Type 0} (f : X → Y) (p : Y → Bool) (xs : List X) → map f (filter (λ x. p (f x)) xs) ≡ filter p (map f xs)
filter_of_mapped f p [] = refl
filter_of_mapped f p (x ∷ xs) = map_of_either f (p (f x)) x (filter (λ x. p (f x)) xs) (filter p (map f xs)) (filter_of_mapped f p xs)

count_of_mapped : {X : Type 0} (f : X → ℕ) (k : ℕ) (xs : List X) → count_by (λ c. c == k) (map f xs) ≡ count_by (λ x. f x == k) xs
count_of_mapped f k [] = refl
count_of_mapped f k (x ∷ xs) =
    sum_by-cons (λ c. cond (c == k) 1 0) (f x) (map f xs) ∙ ap (λ n. cond (f x == k) 1 0 + n) (count_of_mapped f k xs) ∙ sym (sum_by-cons (λ x. cond (f x == k) 1 0) x xs)

-- a copy that is given back is free, and holds no version
pub releasing_uses_as_many :
    (p : Version → Bool) (free : List ℕ) (kept : List Version) (k : ℕ)
    → uses (free ++ map (λ v. v.copy) (filter (λ v. not (p v)) kept)) (filter p kept) k ≡ uses free kept k
releasing_uses_as_many p free kept k =
    let a = sum_by-append (λ c. cond (c == k) 1 0) free (map (λ (v : Version). v.copy) (filter (λ v. not (p v)) kept)) in
    let b = count_of_mapped (λ (v : Version). v.copy) k (filter (λ v. not (p v)) kept) in
    let c = sum_by-filter_both p (λ v. not (p v)) (λ _. refl) (λ (v : Version). cond (v.copy == k) 1 0) kept in
    rw (a, b) (omega (arith, c))

-- free copies and kept versions are as many together
pub releasing_keeps_count :
    (p : Version → Bool) (free : List ℕ) (kept : List Version)
    → length (free ++ map (λ v. v.copy) (filter (λ v. not (p v)) kept)) + length (filter p kept) ≡ length free + length kept
releasing_keeps_count p free kept =
    let a = length-append free (map (λ (v : Version). v.copy) (filter (λ v. not (p v)) kept)) in
    let b = length-map (filter (λ v. not (p v)) kept) (λ (v : Version). v.copy) in
    let c = length-filter_both p (λ v. not (p v)) (λ _. refl) kept in
    omega (arith, a, b, c)

-- one version more is looked at, and its copy given back, or not
pub unread_is_given_back :
    (p : Version → Bool) (free : List ℕ) (kept : List Version) (i : ℕ) (v : Version)
    → i < length kept
    → get_or kept i v ≡ v
    → p v ≡ true
    → (free ++ map (λ v. v.copy) (filter p (take i kept))) ++ v.copy ∷ [] ≡ free ++ map (λ v. v.copy) (filter p (take (i + 1) kept))
unread_is_given_back p free kept i v h here t =
    rw (filter_more p kept i v h, here, t, map-append (λ (v : Version). v.copy) (filter p (take i kept)) (v ∷ []), append_assoc) refl

-- where the version is read, its copy stays
pub read_is_not_given_back :
    (p : Version → Bool) (free : List ℕ) (kept : List Version) (i : ℕ) (v : Version)
    → i < length kept
    → get_or kept i v ≡ v
    → p v ≡ false
    → free ++ map (λ v. v.copy) (filter p (take i kept)) ≡ free ++ map (λ v. v.copy) (filter p (take (i + 1) kept))
read_is_not_given_back p free kept i v h here t = rw (filter_more p kept i v h, here, t, append-nil) refl

first_of_drop : (i : ℕ) (kept : List Version) (v : Version) → get_or (drop i kept) 0 v ≡ get_or kept i v
first_of_drop i kept v = let same : i + 0 ≡ i = omega arith in get_or-drop i kept 0 v ∙ ap (λ (k : ℕ). get_or kept k v) same

-- what stands from the place on that is looked at stood there at first
pub in_place_as_before :
    (p : Version → Bool) (before now : List Version) (k i : ℕ) (v : Version)
    → FiltersInPlace p before now k i
    → v ≡ get_or now i v
    → get_or before i v ≡ v
in_place_as_before p before now k i v place here = sym (first_of_drop i before v) ∙ ap (λ (vs : List Version). get_or vs 0 v) (sym place.rest) ∙ first_of_drop i now v ∙ sym here

-- versions that all pass are left as they are, and none of them is given back
pub filter_passing : {X : Type 0} (p : X → Bool) (xs : List X) → All (λ x. p x ≡ true) xs → filter p xs ≡ xs
filter_passing p [] h = refl
filter_passing p (x ∷ xs) h = rw (All-head (λ y. p y ≡ true) x xs h, filter_passing p xs (All-tail (λ y. p y ≡ true) x xs h)) refl

-- and none of them is left where they must not pass
pub filter_not_passing : {X : Type 0} (p : X → Bool) (xs : List X) → All (λ x. p x ≡ true) xs → filter (λ x. not (p x)) xs ≡ []
filter_not_passing p [] h = refl
filter_not_passing p (x ∷ xs) h = rw (All-head (λ y. p y ≡ true) x xs h, filter_not_passing p xs (All-tail (λ y. p y ≡ true) x xs h)) refl

-- versions that all pass stand in place
pub in_place_at_first :
    (p : Version → Bool) (kept : List Version) (start : ℕ)
    → start ≤ length kept
    → All (λ v. p v ≡ true) (take start kept)
    → FiltersInPlace p kept kept start start
in_place_at_first p kept start within all = record { front = sym (filter_passing p (take start kept) all); rest = refl; behind = omega arith; within = within; long = refl }

-- where no version was kept at an earlier epoch than one before it, all before an earlier one are earlier
pub all_before_are_earlier :
    (since : ℕ) (kept : List Version) (count : ℕ) (last : Version)
    → AreVersionsInOrder kept
    → 0 < count
    → count ≤ length kept
    → (get_or kept (count - 1) last).upto < since
    → All (λ (v : Version). v.upto < since) (take count kept)
all_before_are_earlier since kept count last order some within old k d lt =
    let place : k < count = omega (arith, lt, length-take count kept) in
    let end : count - 1 < length kept = omega arith in
    let old' : (get_or kept (count - 1) d).upto < since = rw (get_or_default kept (count - 1) d last end) old in
    rw (get_or-take count kept k d place) (elim (eqb_tells k (count - 1)) [
      | inl y ↦ subst (λ (i : ℕ). (get_or kept i d).upto < since) (sym y.1) old'
      | inr ne ↦ (let less : k < count - 1 = omega (arith, place, ne.1) in omega (arith, order k (count - 1) d less end, old'))
    ])

-- the order of the versions, and of them with their words
pub versions_in_order : (words : List (List ℕ)) (kept : List Version) → AreInOrder (map (kept_of words) kept) → AreVersionsInOrder kept
versions_in_order words kept order i j d less within =
    let long : j < length (map (kept_of words) kept) = omega (arith, within, length-map kept (kept_of words)) in
    let both = order i j (kept_of words d) less long in
    rw (get_or-map (kept_of words) kept i d (kept_of words d) (omega (arith, less, within)), get_or-map (kept_of words) kept j d (kept_of words d) within) at both

-- where each version that was kept before a check is read, so are the first ones that were
pub earlier_are_read :
    (words : List (List ℕ)) (kept : List Version) (lanes : List (Option ℕ)) (since n : ℕ)
    → ((k : KeptVersion) → Contains (map (kept_of words) kept) k → k.version.upto < since → is_read lanes k ≡ true)
    → All (λ (v : Version). v.upto < since) (take n kept)
    → All (λ (v : Version). is_version_read lanes v ≡ true) (take n kept)
earlier_are_read words kept lanes since n read early k d lt =
    let v = get_or (take n kept) k d in
    let long : k < length kept = omega (arith, lt, length-take n kept) in
    let there : get_or kept k v ≡ v = get_or_default kept k v d long ∙ sym (get_or-take n kept k d (omega (arith, lt, length-take n kept))) in
    read (kept_of words v) (k, omega (arith, long, length-map kept (kept_of words)), get_or-map (kept_of words) kept k v (kept_of words v) long ∙ ap (kept_of words) there) (early k d lt)
