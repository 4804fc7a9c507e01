-- What the names of a scope stand for: where declarations keep the rules, names that are found have kinds in the setting of the resolved program.
use Rattle.std.proofs.Common.{◌≡◌, ℕ, zero, suc, ◌-◌, true, false, List, [], ◌∷◌, ◌++◌, map, length, take, drop, Option, Some, None, refl, ap, sym, ◌∙◌, subst}
use Rattle.std.proofs.Common.{arith}
use Rattle.std.specs.Prelude.{slice_get, option_map, unwrap_or, position, ◌&&◌, if◌then◌else◌}
use Rattle.std.specs.List.{AllByRecursion}
use Rattle.std.specs.Option.{option_and_then}
use Rattle.std.specs.Str.{bytes_eq}
use Rattle.std.proofs.lemmas.Option.{slice_get-map}
use Rattle.std.proofs.Math.Dec.{eqb-suc-zero}
use Rattle.st_ast.specs.declared.declarations.Class.{Class}
use Rattle.st_ast.specs.declared.declarations.Field.{Field}
use Rattle.st_ast.specs.declared.declarations.Pred.{Pred}
use Rattle.st_ast.specs.declared.declarations.Proc.{Proc}
use Rattle.st_ast.specs.declared.declarations.Program as trees
use Rattle.st_events.specs.declared.shapes.Kind.{Kind}
use Rattle.st_events.specs.Shape.{ShapeLists, kinds_of}
use Rattle.st_resolved.specs.Terms.{Predicate, Routine, Program}
use Rattle.st_resolved.specs.WellFormed as formed
use Rattle.st_types.specs.declared.kinds.Found.{Found}
use Rattle.st_types.specs.declared.kinds.Found.TheVariants.{Known}
use Rattle.st_types.specs.declared.names.Named.{Named}
use Rattle.st_types.specs.Names.{kind_of, fields_of, fields_at, find_field, find_local, param_kinds, Local}
use Rattle.st_types.specs.Rules.{field_kinds, class_kinds}
use Rattle.st_types.specs.Statements.{known_kind, forgotten}
use Rattle.st_types.proofs.ShapeLemmas.{IsDeclaredFound, all_at}
use Rattle.st_types.proofs.TermLemmas.{HasNamed, HasKindsOf, IsSetting}

-- the kinds of locals are the first of these
abbrev pub AreFirst : List Local → List Found → Type 0
AreFirst [] founds = Unit {0}
AreFirst (l ∷ locals) [] = ⊥
AreFirst (l ∷ locals) (found ∷ founds) = (l.kind ≡ found) × AreFirst locals founds

-- the kind of a local at an index is the one at that index of the list
pub first_at : (locals : List Local) (founds : List Found) (i : ℕ) (l : Local) → AreFirst locals founds → slice_get locals i ≡ Some l → slice_get founds i ≡ Some l.kind
first_at [] founds i l h k = cc
first_at (x ∷ locals) [] i l h k = elim h [ ]
first_at (x ∷ locals) (found ∷ founds) zero l h k = let same : x ≡ l = cc in ap Some (sym h.0 ∙ ap (λ (y : Local). y.kind) same)
first_at (x ∷ locals) (found ∷ founds) (suc i) l h k = first_at locals founds i l h.1 k

-- a front of locals whose kinds are the first of a list has its kinds there, too
pub first_front : (xs ys : List Local) (founds : List Found) → AreFirst (xs ++ ys) founds → AreFirst xs founds
first_front [] ys founds h = tt
first_front (x ∷ xs) ys [] h = elim h [ ]
first_front (x ∷ xs) ys (found ∷ founds) h = (h.0, first_front xs ys founds h.1)

-- behind some locals, the kind of the next stands at their number
pub first_last : (xs : List Local) (l : Local) (founds : List Found) → AreFirst (xs ++ l ∷ []) founds → slice_get founds (length xs) ≡ Some l.kind
first_last [] l [] h = elim h [ ]
first_last [] l (found ∷ founds) h = ap Some (sym h.0)
first_last (x ∷ xs) l [] h = elim h [ ]
first_last (x ∷ xs) l (found ∷ founds) h = first_last xs l founds h.1

first_known : (locals : List Local) (founds : List Found) → AreFirst (map forgotten locals) founds → AreFirst locals founds
first_known [] founds h = tt
first_known (l ∷ locals) [] h = elim h [ ]
first_known (l ∷ locals) (found ∷ founds) h = (h.0, first_known locals founds h.1)

-- the end of a block forgets names and no kinds: locals whose kinds are the first behind it are so in front of it
pub first_open : (n : ℕ) (locals : List Local) (founds : List Found) → AreFirst (take n locals ++ map forgotten (drop n locals)) founds → AreFirst locals founds
first_open zero locals founds h = first_known locals founds h
first_open (suc n) [] founds h = tt
first_open (suc n) (l ∷ locals) [] h = elim h [ ]
first_open (suc n) (l ∷ locals) (found ∷ founds) h = (h.0, first_open n locals founds h.1)

-- locals that are the first of declared kinds have declared kinds
pub first_of_all : (p : trees.Program) (locals : List Local) (founds : List Found) → AreFirst locals founds → AllByRecursion (IsDeclaredFound p) founds
    → AllByRecursion (λ l. IsDeclaredFound p l.kind) locals
first_of_all p [] founds h d = tt
first_of_all p (l ∷ locals) [] h d = elim h [ ]
first_of_all p (l ∷ locals) (found ∷ founds) h d = (subst (IsDeclaredFound p) (sym h.0) d.0, first_of_all p locals founds h.1 d.1)

-- a known kind at a place
pub known_at : (p : trees.Program) (founds : List Found) (n : ℕ) (found : Found) → AllByRecursion (IsDeclaredFound p) founds → slice_get founds n ≡ Some found
    → (kind : Kind) × (found ≡ Known kind) × (slice_get (map known_kind founds) n ≡ Some kind)
known_at p founds n found d h =
    let known = all_at (IsDeclaredFound p) founds n found d h in
    (known.0, known.1, slice_get-map known_kind founds n ∙ ap (option_map known_kind) h ∙ ap (λ f. Some (known_kind f)) known.1)

-- what is found at an index that a test picks
pub named_in : (locals : List Local) (named : Named) (o : Option ℕ) → option_and_then (λ n. option_map {U = Named} (λ l. record { number = n; kind = l.kind }) (slice_get locals n)) o ≡ Some named
    → (l : Local) × (slice_get locals named.number ≡ Some l) × (l.kind ≡ named.kind)
named_in locals named None h = cc
named_in locals named (Some n) h = by_place (slice_get locals n) refl h
  where
    by_place : (o : Option Local) → slice_get locals n ≡ o → option_map {U = Named} (λ l. record { number = n; kind = l.kind }) o ≡ Some named
        → (l : Local) × (slice_get locals named.number ≡ Some l) × (l.kind ≡ named.kind)
    by_place None e h = cc
    by_place (Some l) e h =
        let numbered : Named = record { number = n; kind = l.kind } in
        let same : numbered ≡ named = cc in
        (l, subst (λ (m : Named). slice_get locals m.number ≡ Some l) same e, ap (λ (m : Named). m.kind) same)

-- the number of a local that is found has a kind in the setting, and it is the one that is found
pub local_named : (p : trees.Program) (locals : List Local) (founds : List Found) → AreFirst locals founds → AllByRecursion (IsDeclaredFound p) founds
    → (name : List ℕ) (named : Named) → find_local locals name ≡ Some named → HasNamed (map known_kind founds) named
local_named p locals founds first d name named h =
    let l = named_in locals named (position (λ l. l.is_known && bytes_eq l.name name) locals) h in
    let known = known_at p founds named.number l.0.kind d (first_at locals founds named.number l.0 first l.1) in
    (known.0, sym l.2 ∙ known.1, known.2)

field_in : (p : trees.Program) (fields : List Field) (named : Named) (o : Option ℕ)
    → option_and_then (λ n. option_map {U = Named} (λ f. record { number = n; kind = kind_of p f.kind }) (slice_get fields n)) o ≡ Some named
    → (f : Field) × (slice_get fields named.number ≡ Some f) × (kind_of p f.kind ≡ named.kind)
field_in p fields named None h = cc
field_in p fields named (Some n) h = by_place (slice_get fields n) refl h
  where
    by_place : (o : Option Field) → slice_get fields n ≡ o → option_map {U = Named} (λ f. record { number = n; kind = kind_of p f.kind }) o ≡ Some named
        → (f : Field) × (slice_get fields named.number ≡ Some f) × (kind_of p f.kind ≡ named.kind)
    by_place None e h = cc
    by_place (Some f) e h =
        let numbered : Named = record { number = n; kind = kind_of p f.kind } in
        let same : numbered ≡ named = cc in
        (f, subst (λ (m : Named). slice_get fields m.number ≡ Some f) same e, ap (λ (m : Named). m.kind) same)

-- each of these fields has a type whose class is declared
abbrev pub AreDeclaredFields : trees.Program → List Field → Type 0
AreDeclaredFields p fields = AllByRecursion (λ f. IsDeclaredFound p (kind_of p f.kind)) fields

-- the number of a field that is found has a kind among those of the fields, and it is the one that is found
pub field_named : (p : trees.Program) (fields : List Field) → AreDeclaredFields p fields
    → (name : List ℕ) (named : Named) → find_field p fields name ≡ Some named → HasNamed (field_kinds p fields) named
field_named p fields d name named h =
    let f = field_in p fields named (position (λ f. bytes_eq f.name name) fields) h in
    let known = all_at (λ (f : Field). IsDeclaredFound p (kind_of p f.kind)) fields named.number f.0 d f.1 in
    (known.0, sym f.2 ∙ known.1, (rw (slice_get-map (λ (f : Field). known_kind (kind_of p f.kind)) fields named.number, f.1, known.1) refl))

-- a shape and a program stand for a tree whose declarations keep the rules
pub record StandsFor (p : trees.Program) (shape : ShapeLists) (q : Program) : Type 0 where
  pub classes : shape.classes ≡ class_kinds p
  pub shared : AreDeclaredFields p p.shared
  pub fields : AllByRecursion (λ c. AreDeclaredFields p c.fields) p.classes
  pub preds : (n : ℕ) (pred : Pred) → slice_get p.preds n ≡ Some pred → (r : Predicate) × (slice_get q.preds n ≡ Some r) × HasKindsOf p pred r
  pub procs :
      (n : ℕ) (procedure : Proc) → slice_get p.procs n ≡ Some procedure
      → (r : Routine) × (slice_get q.procs n ≡ Some r) × (param_kinds p procedure.params ≡ map Known (formed.param_kinds r))

shared_named : (p : trees.Program) (shape : ShapeLists) (q : Program) → StandsFor p shape q
    → (name : List ℕ) (named : Named) → find_field p p.shared name ≡ Some named → HasNamed (kinds_of shape 0) named
shared_named p shape q w name named h =
    subst (λ cs. HasNamed (unwrap_or (slice_get cs 0) []) named) (sym w.classes) (field_named p p.shared w.shared name named h)

class_field_named : (p : trees.Program) (shape : ShapeLists) (q : Program) → StandsFor p shape q
    → (class : ℕ) (name : List ℕ) (named : Named) → find_field p (fields_of p class) name ≡ Some named → HasNamed (kinds_of shape class) named
class_field_named p shape q w zero name named h = cc
class_field_named p shape q w (suc c) name named h =
    let back : suc c - 1 ≡ c = omega arith in
    let next : fields_of p (suc c) ≡ fields_at (slice_get p.classes c) =
    ap (λ b. if b then [] else fields_at (slice_get p.classes (suc c - 1))) (eqb-suc-zero c) ∙ ap (λ n. fields_at (slice_get p.classes n)) back in
    subst (λ cs. HasNamed (unwrap_or (slice_get cs (suc c)) []) named) (sym w.classes)
    (subst (λ o. HasNamed (unwrap_or o []) named) (sym (slice_get-map (λ (x : Class). field_kinds p x.fields) p.classes c))
    (by_class (slice_get p.classes c) refl (subst (λ fields. find_field p fields name ≡ Some named) next h)))
  where
    by_class : (o : Option Class) → slice_get p.classes c ≡ o → find_field p (fields_at o) name ≡ Some named
        → HasNamed (unwrap_or (option_map (λ (x : Class). field_kinds p x.fields) o) []) named
    by_class None e h = cc
    by_class (Some class) e h = field_named p class.fields (all_at (λ (x : Class). AreDeclaredFields p x.fields) p.classes c class w.fields e) name named h

-- what an expression of a body stands in
pub plain_is : (p : trees.Program) (shape : ShapeLists) (q : Program) (locals : List Local) (founds : List Found) → StandsFor p shape q → AreFirst locals founds
    → AllByRecursion (IsDeclaredFound p) founds
    → IsSetting (record { program = p; locals = locals; may_call = false }) (formed.plain_setting shape (map known_kind founds))
plain_is p shape q locals founds w first d = record {
  locals = local_named p locals founds first d;
  shared = shared_named p shape q w;
  fields = class_field_named p shape q w;
  preds = λ may n pred h. cc;
}

-- what an expression of a predicate or a check stands in
pub calling_is : (p : trees.Program) (shape : ShapeLists) (q : Program) (locals : List Local) (founds : List Found) → StandsFor p shape q → AreFirst locals founds
    → AllByRecursion (IsDeclaredFound p) founds
    → IsSetting (record { program = p; locals = locals; may_call = true }) (record { shape = shape; preds = q.preds; locals = map known_kind founds })
calling_is p shape q locals founds w first d = record {
  locals = local_named p locals founds first d;
  shared = shared_named p shape q w;
  fields = class_field_named p shape q w;
  preds = λ may n pred h. w.preds n pred h;
}
