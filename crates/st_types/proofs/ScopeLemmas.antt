-- What is found among the locals of the code, and among their views.
use Rattle.std.proofs.Common.{◌≡◌, ℕ, ◌+◌, Bool, cond, ◌&&◌, List, [], ◌∷◌, map, length, get_or, ◌<◌, position, slice_get, Option, Some}
use Rattle.std.proofs.Common.{None, refl, ap, ◌∙◌}
use Rattle.std.specs.Prelude.{option_map, not, ◌||◌}
use Rattle.std.specs.List.{prefix_len, list_any}
use Rattle.std.specs.Option.{option_and_then}
use Rattle.std.specs.Str.{bytes_eq}
use Rattle.std.proofs.lemmas.List.{length-map}
use Rattle.std.proofs.lemmas.Option.{slice_get-map, slice_get_read}
use Rattle.st_types.specs.declared.names.Named.{Named}
use Rattle.st_types.specs.declared.scopes.Local as code_local
use Rattle.st_types.specs.Names.{Local, find_local}
use Rattle.st_types.specs.Scopes.{local_view}
use Rattle.st_types.specs.Statements.{known_kind}

prefix_len_of_map : {A B : Type 0} (p : B → Bool) (f : A → B) (xs : List A) → prefix_len p (map f xs) ≡ prefix_len (λ x. p (f x)) xs
prefix_len_of_map p f [] = refl
prefix_len_of_map p f (x ∷ xs) = ap (λ n. cond (p (f x)) (1 + n) 0) (prefix_len_of_map p f xs)

-- the first of some images that passes a test stands where the first does whose image passes
pub position_of_map : {A B : Type 0} (p : B → Bool) (f : A → B) (xs : List A) → position p (map f xs) ≡ position (λ x. p (f x)) xs
position_of_map p f xs = rw (prefix_len_of_map (λ y. not (p y)) f xs, length-map xs f) refl

of_index : (locals : List code_local.Local) (index : Option ℕ) →
    option_and_then (λ n. option_map {U = Named} (λ l. record { number = n; kind = l.kind }) (slice_get (map local_view locals) n)) index
    ≡ option_and_then (λ n. option_map {U = Named} (λ l. record { number = n; kind = l.kind }) (slice_get locals n)) index
of_index locals None = refl
of_index locals (Some n) = rw (slice_get-map local_view locals n) (same n (slice_get locals n))
  where
    same : (n : ℕ) (l : Option code_local.Local) → option_map {U = Named} (λ (l : Local). record { number = n; kind = l.kind }) (option_map local_view l)
        ≡ option_map {U = Named} (λ l. record { number = n; kind = l.kind }) l
    same n None = refl
    same n (Some l) = refl

-- to look a name up among the views of locals is to look it up among the locals of the code
pub local_of_views : (locals : List code_local.Local) (name : List ℕ) →
    find_local (map local_view locals) name ≡
    option_and_then (λ n. option_map (λ l. record { number = n; kind = l.kind }) (slice_get locals n)) (position (λ l. l.is_known && bytes_eq l.name.now name) locals)
local_of_views locals name =
    ap (option_and_then (λ n. option_map (λ l. record { number = n; kind = l.kind }) (slice_get (map local_view locals) n)))
    (position_of_map (λ l. l.is_known && bytes_eq l.name name) local_view locals)
    ∙ of_index locals (position (λ l. l.is_known && bytes_eq l.name.now name) locals)

-- a local that is found by its index
pub found_by_index : (locals : List code_local.Local) (name : List ℕ) (index : ℕ) (local : code_local.Local) →
    Some index ≡ position (λ l. l.is_known && bytes_eq l.name.now name) locals → index < length locals → local ≡ get_or locals index local →
    Some (record { number = index; kind = local.kind }) ≡ find_local (map local_view locals) name
found_by_index locals name index local p within read = rw (local_of_views locals name, ← p, slice_get_read locals (length locals) index local refl within read) refl

-- no local is found
pub not_found : (locals : List code_local.Local) (name : List ℕ) → None ≡ position (λ l. l.is_known && bytes_eq l.name.now name) locals →
    None ≡ find_local (map local_view locals) name
not_found locals name p = rw (local_of_views locals name, ← p) refl

-- a test of the views, and of what they are of
pub list_any_of_map : {A B : Type 0} (p : B → Bool) (f : A → B) (xs : List A) → list_any p (map f xs) ≡ list_any (λ x. p (f x)) xs
list_any_of_map p f [] = refl
list_any_of_map p f (x ∷ xs) = ap (λ b. p (f x) || b) (list_any_of_map p f xs)

-- their kinds
pub kinds_of_views : (locals : List code_local.Local) → map (λ (l : Local). known_kind l.kind) (map local_view locals) ≡ map (λ (l : code_local.Local). known_kind l.kind) locals
kinds_of_views [] = refl
kinds_of_views (l ∷ locals) = ap (λ ks. known_kind l.kind ∷ ks) (kinds_of_views locals)
