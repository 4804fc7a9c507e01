-- All that events say, and what one event more makes of it.
use Rattle.std.specs.Prelude.{ℕ, ◌+◌, ◌==◌, nat_lt, Bool, if◌then◌else◌, not, ◌&&◌, List, [], ◌∷◌, ◌++◌, length, map, filter, Option, Some, None}
use Rattle.std.specs.List.{list_any}
use Rattle.st_events.specs.declared.events.Event.{Event}
use Rattle.st_events.specs.declared.events.Event.TheVariants.{New, Load, Store, Cas, Launch, Retire}
use Rattle.st_events.specs.declared.events.Args.{Args}
use Rattle.st_events.specs.declared.limits.Sizes.{Sizes}
use Rattle.st_events.specs.Shape.{ShapeLists}
use Rattle.st_events.specs.Heap.{Heap, with_object, with_word, fresh, first_heap}

-- a launched check: the heap just before its launch, its thread, its statement and its arguments
pub record Launched : Type 0 where
  pub past : Heap
  pub thread : ℕ
  pub site : ℕ
  pub args : Args

-- a copy kept: the object whose old version it holds, and the active checks that need this version
pub record Row : Type 0 where
  pub obj : ℕ
  pub checks : List ℕ

-- a version lost: the object and a check that needed it
pub record Pair : Type 0 where
  pub obj : ℕ
  pub check : ℕ

-- all that the events so far say. The epoch is the number of launches; the stamp of an object is the epoch at its New or
-- at its last change, whichever is later, and 0 for the shared object without a change; `made` counts the objects of each mutator
pub record World : Type 0 where
  pub heap : Heap
  pub stamp : ℕ → ℕ
  pub made : ℕ → ℕ
  pub epoch : ℕ
  pub launched : ℕ → Option Launched
  pub active : List ℕ
  pub kept : List Row
  pub lost : List Pair

-- the function, but for one argument
abbrev pub at : {A : Type 0} → ℕ → A → (ℕ → A) → ℕ → A
at k x f = λ n. if n == k then x else f n

-- before the first event there is the shared object alone
abbrev pub first_world : ShapeLists → World
first_world shape = record {
  heap = first_heap shape;
  stamp = λ _. 0;
  made = λ _. 0;
  epoch = 0;
  launched = λ _. None;
  active = [];
  kept = [];
  lost = [];
}

-- the active checks that need a copy of the object where it changes: those launched after its stamp
abbrev pub needing_in : World → ℕ → List ℕ
needing_in w obj = filter (λ n. nat_lt (w.stamp obj) n) w.active

-- whether the pool has no copy left
abbrev pub is_full : Sizes → World → Bool
is_full sizes w = not (nat_lt (length w.kept) sizes.copies)

-- the row of an object and the checks that need its version, where there is such a check
abbrev pub row_if_needed : ℕ → List ℕ → List Row
row_if_needed obj [] = []
row_if_needed obj (n ∷ ns) = record { obj = obj; checks = n ∷ ns } ∷ []

-- the rows after a change of the object: one more where some check needs its old version and a copy is left
abbrev pub kept_at_change : Sizes → World → ℕ → List Row
kept_at_change sizes w obj = if is_full sizes w then w.kept else (w.kept ++ row_if_needed obj (needing_in w obj))

-- the pairs after a change of the object: where no copy is left, its old version is lost for each check that needs it
abbrev pub lost_at_change : Sizes → World → ℕ → List Pair
lost_at_change sizes w obj = if is_full sizes w then (w.lost ++ map (λ n. record { obj = obj; check = n }) (needing_in w obj)) else w.lost

-- after one word of an object was set
abbrev pub changed : Sizes → World → ℕ → ℕ → ℕ → World
changed sizes w obj field value = record w {
  heap = with_word w.heap obj field value;
  stamp = at obj w.epoch w.stamp;
  kept = kept_at_change sizes w obj;
  lost = lost_at_change sizes w obj;
}

-- the number is one of the list's
abbrev pub is_among : List ℕ → ℕ → Bool
is_among ns number = list_any (λ n. n == number) ns

-- whether a copy is kept of this object for this check
abbrev pub is_kept : List Row → ℕ → ℕ → Bool
is_kept rows obj number = list_any (λ row. (row.obj == obj) && is_among row.checks number) rows

-- whether the version of this object is lost for this check
abbrev pub is_lost : List Pair → ℕ → ℕ → Bool
is_lost pairs obj number = list_any (λ pair. (pair.obj == obj) && (pair.check == number)) pairs

-- the checks but for one
abbrev pub without : ℕ → List ℕ → List ℕ
without number = filter (λ n. not (n == number))

-- the rows once a check is retired: it leaves each row, and a row that no other check needs is gone
abbrev pub released : ℕ → List Row → List Row
released number [] = []
released number (row ∷ rows) = row_if_needed row.obj (without number row.checks) ++ released number rows

-- what one event makes of all this; it does not ask whether the event is legal
abbrev pub next : ShapeLists → Sizes → World → Event → World
next shape sizes w (New m obj class) = record w {
  heap = with_object w.heap obj (fresh shape class);
  stamp = at obj w.epoch w.stamp;
  made = at m (w.made m + 1) w.made;
}
next shape sizes w (Load m obj field value) = w
next shape sizes w (Store m obj field value) = changed sizes w obj field value
next shape sizes w (Cas m obj field expect value done) = if done then changed sizes w obj field value else w
next shape sizes w (Launch m site number args) = record w {
  epoch = w.epoch + 1;
  launched = at number (Some (record { past = w.heap; thread = m; site = site; args = args })) w.launched;
  active = w.active ++ number ∷ [];
}
next shape sizes w (Retire m number) = record w { active = without number w.active; kept = released number w.kept }

-- what a list of events makes of all this
abbrev pub world_from : ShapeLists → Sizes → World → List Event → World
world_from shape sizes w [] = w
world_from shape sizes w (e ∷ es) = world_from shape sizes (next shape sizes w e) es

-- what a journal says
abbrev pub world_after : ShapeLists → Sizes → List Event → World
world_after shape sizes es = world_from shape sizes (first_world shape) es
