-- Which kinds go together, and how a mismatch tells them.
use Rattle.std.specs.Prelude.{Bool, true, false, ◌==◌, List, [], ◌∷◌, if◌then◌else◌}
use Rattle.st_events.specs.declared.events.Site.{Site}
use Rattle.st_events.specs.declared.shapes.Kind.{Kind}
use Rattle.st_events.specs.declared.shapes.Kind.TheVariants as kinds
use Rattle.st_types.specs.declared.errors.TypeError.{TypeError}
use Rattle.st_types.specs.declared.errors.TypeError.TheVariants.{Mismatch}
use Rattle.st_types.specs.declared.errors.Wanted.{Wanted}
use Rattle.st_types.specs.declared.errors.Wanted.TheVariants as wanted
use Rattle.st_types.specs.declared.kinds.Found.{Found}
use Rattle.st_types.specs.declared.kinds.Found.TheVariants.{Unknown, Null, Known}

-- whether the two kinds are one
abbrev pub same_kind : Kind → Kind → Bool
same_kind kinds.Int kinds.Int = true
same_kind kinds.Bool kinds.Bool = true
same_kind (kinds.Ref a) (kinds.Ref b) = a == b
same_kind a b = false

-- whether the kind is that of a class
abbrev pub is_class : Kind → Bool
is_class (kinds.Ref class) = true
is_class kind = false

-- Whether what is found may stand where the other is asked. `null` goes with every class, and with `null`;
-- where one of the two is not known, nothing is asked.
abbrev pub goes_with : Found → Found → Bool
goes_with Unknown found = true
goes_with Null Unknown = true
goes_with Null Null = true
goes_with Null (Known kind) = is_class kind
goes_with (Known kind) Unknown = true
goes_with (Known kind) Null = is_class kind
goes_with (Known asked) (Known found) = same_kind asked found

-- a kind as a mismatch tells it
abbrev pub kind_told : Kind → Wanted
kind_told kinds.Int = wanted.Int
kind_told kinds.Bool = wanted.Bool
kind_told (kinds.Ref class) = wanted.Ref class

-- what is asked, as a mismatch tells it: any class where it is `null`
abbrev pub asked_as : Found → Wanted
asked_as Unknown = wanted.AnyRef
asked_as Null = wanted.AnyRef
asked_as (Known kind) = kind_told kind

-- what is found, as a mismatch tells it
abbrev pub told_as : Found → Wanted
told_as Unknown = wanted.Null
told_as Null = wanted.Null
told_as (Known kind) = kind_told kind

-- the fault of what stands at a place, where its kind does not go with the one that is asked
abbrev pub asks : Found → Site → Found → List TypeError
asks asked at found = if goes_with asked found then [] else (Mismatch at (asked_as asked) (told_as found) ∷ [])
