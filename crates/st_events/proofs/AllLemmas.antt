-- What holds of each element of a list, and of each element's image
use Rattle.std.proofs.Common.{List, map, All, subst, arith, Vec, Global}
use Rattle.std.proofs.lemmas.List.{length-map, get_or-map}
use Rattle.std.proofs.lemmas.List.Elements.{All-map}

-- what holds of each image holds of each element
pub all_of_images : {X : Type 0} (P : X → Type 0) → {Y : Type 0} (f : Y → X) (ys : List Y) → All P (map f ys) → All (λ y. P (f y)) ys
all_of_images {X} P {Y} f ys h = λ k d lt. subst P (get_or-map f ys k d (f d) lt) (h k (f d) (omega (arith, length-map ys f)))

-- what holds of the items of each vector, and of each list of them
pub all_items : {X : Type 0} (P : List X → Type 0) (vs : List (Vec X Global)) → All (λ v. P v.items) vs → All P (map (λ v. v.items) vs)
all_items {X} P vs h = All-map P (λ (v : Vec X Global). v.items) vs h

-- the same, the other way
pub all_of_items : {X : Type 0} (P : List X → Type 0) (vs : List (Vec X Global)) → All P (map (λ v. v.items) vs) → All (λ v. P v.items) vs
all_of_items {X} P vs h = all_of_images P (λ (v : Vec X Global). v.items) vs h
