-- The parts of the rule on old versions: what the forwarding words of active checks say, and which copies are whose.
use Rattle.std.specs.Prelude.{◌≡◌, ◌≢◌, ℕ, zero, suc, ◌+◌, ◌<◌, ◌≤◌, ◌⊎◌, ◌==◌, ◌&&◌, Bool, true, false, if◌then◌else◌, List, length, Option, Some}
use Rattle.std.specs.Prelude.{IsSome}
use Rattle.std.specs.List.{list_any}
use Rattle.st_layout.specs.declared.limits.TheConstants.{MOST_FIELDS}
use Rattle.st_layout.specs.Packed.{high_half, low_half}
use Rattle.st_events.specs.declared.limits.Sizes.{Sizes}
use Rattle.st_events.specs.Heap.{Heap}
use Rattle.st_events.specs.World.{World, Launched, Row, is_among, is_kept, is_lost, needing_in}
use Rattle.st_rule.specs.declared.forwards.TheConstants.{LOST}
use Rattle.st_rule.specs.declared.views.Flight.{Flight}
use Rattle.st_rule.specs.Holding.{word_or_zero}

-- what is in flight at the object still owes this lane its forwarding word
pub record IsAwaiting (flight : Option Flight) (lane : ℕ) : Type 0 where
  pub one : Flight
  pub flies : flight ≡ Some one
  pub awaits : is_among one.awaiting lane ≡ true

-- the copy has the object's number and then the fields that it had in this heap
pub record IsCopyOf (words : ℕ → ℕ) (object : ℕ) (past : Heap) : Type 0 where
  pub number : words 0 ≡ object
  pub fields : (f : ℕ) → f < MOST_FIELDS → words (suc f) ≡ word_or_zero past object f

-- what the low half of a forwarding word of a check says: the copy of its version, or that the version is lost
abbrev pub IsForwarded : (sizes : Sizes) (world : World) (low object check : ℕ) (past : Heap) (copy : ℕ → ℕ → ℕ) → Type 0
IsForwarded sizes world low object check past copy =
    ((c : ℕ) × (low ≡ suc c) × (c < sizes.copies) × IsCopyOf (copy c) object past)
    ⊎ ((low ≡ LOST) × (is_lost world.lost object check ≡ true))

-- a lane at an object of its check's past. Its forwarding word is of another epoch: then the fields are those of the past, and a change since
-- the launch is in flight and has not written the word. Or it is the check's: then it names the copy of the version, or says that it is lost
pub record LaneAt (sizes : Sizes) (world : World) (flight : Option Flight) (field : ℕ → ℕ) (forward : ℕ) (copy : ℕ → ℕ → ℕ) (object lane check : ℕ) (past : Heap)
    : Type 0 where
  pub live : high_half forward ≢ check → (f : ℕ) → field f ≡ word_or_zero past object f
  pub unchanged : high_half forward ≢ check → check ≤ world.stamp object → IsAwaiting flight lane
  pub forwarded : high_half forward ≡ check → IsForwarded sizes world (low_half forward) object check past copy

-- a lane that what is in flight still owes its forwarding word: its check is active and has none yet, the field is not written, and where the
-- drawn index reached no copy the version is lost
pub record IsOwed (sizes : Sizes) (world : World) (lane : ℕ → ℕ) (available : ℕ) (forward : ℕ) (x : Flight) (object l : ℕ) : Type 0 where
  pub within : l < sizes.lanes
  pub active : is_among world.active (lane l) ≡ true
  pub apart : high_half forward ≢ lane l
  pub unwritten : x.written ≡ false
  pub lost : (index : ℕ) → x.index ≡ Some index → available ≤ index → is_lost world.lost object (lane l) ≡ true

-- the word of an object's version: its number, then its fields
abbrev pub version_word : (field : ℕ → ℕ → ℕ) (object k : ℕ) → ℕ
version_word field object zero = object
version_word field object (suc f) = field object f

-- the part on lanes; `flight` is what is in flight at each object
pub record LanePart (sizes : Sizes) (world : World) (lane : ℕ → ℕ) (available : ℕ) (flight : ℕ → Option Flight) (field forward copy : ℕ → ℕ → ℕ) (free : ℕ → ℕ) : Type 0 where
  -- each lane of an active check at each object of its past
  pub lanes :
      (l object : ℕ) (launch : Launched) → l < sizes.lanes
      → is_among world.active (lane l) ≡ true
      → world.launched (lane l) ≡ Some launch
      → IsSome (launch.past object)
      → LaneAt sizes world (flight object) (field object) (forward object l) copy object l (lane l) launch.past
  -- no forwarding word is of an epoch above its object's stamp
  pub epochs : (object l : ℕ) → high_half (forward object l) ≤ world.stamp object
  -- the lanes that are still owed their forwarding words
  pub owed : (object l : ℕ) (x : Flight) → flight object ≡ Some x → is_among x.awaiting l ≡ true → IsOwed sizes world lane available (forward object l) x object l
  -- each word written so far of a copy in flight is the object's number, or a field that is not overwritten yet
  pub built :
      (object : ℕ) (x : Flight) → flight object ≡ Some x
      → x.written ≡ false
      → (index : ℕ) → x.index ≡ Some index → index < available
      → (k : ℕ) → k < x.built → copy (free index) k ≡ version_word field object k

-- the forwarding word of a lane's active check names this copy
pub record IsNamed (sizes : Sizes) (world : World) (lane : ℕ → ℕ) (forward : ℕ → ℕ → ℕ) (object l c : ℕ) : Type 0 where
  pub within : l < sizes.lanes
  pub active : is_among world.active (lane l) ≡ true
  pub epoch : high_half (forward object l) ≡ lane l
  pub low : low_half (forward object l) ≡ suc c
  pub kept : low_half (forward object l) ≢ LOST

-- the part on copies; `drawn` is the copy part of the clock, and `since` what it was when the pool was settled last
pub record CopyPart (sizes : Sizes) (world : World) (lane : ℕ → ℕ) (available drawn since : ℕ) (flight : ℕ → Option Flight) (forward : ℕ → ℕ → ℕ) (free : ℕ → ℕ) : Type 0 where
  -- the rows kept are as many as the copies that are not free
  pub some_left : drawn ≤ available → length world.kept + available ≡ sizes.copies + drawn
  pub none_left : available ≤ drawn → length world.kept ≡ sizes.copies
  pub listed : available ≤ sizes.copies
  pub since_then : since ≤ drawn
  -- the free list names copies, and each of those that it named since once
  pub named : (i : ℕ) → i < sizes.copies → free i < sizes.copies
  pub once : (i j : ℕ) → since ≤ i → i < available → since ≤ j → j < available → free i ≡ free j → i ≡ j
  -- indexes in flight were drawn since, and differ
  pub indexes : (object : ℕ) (x : Flight) (i : ℕ) → flight object ≡ Some x → x.index ≡ Some i → (since ≤ i) × (i < drawn)
  pub differ : (o p : ℕ) (x y : Flight) (i : ℕ) → flight o ≡ Some x → flight p ≡ Some y → x.index ≡ Some i → y.index ≡ Some i → o ≡ p
  -- no copy that is free, or drawn and not complete, is named by the forwarding word of an active check
  pub spares_free : (object l c : ℕ) → IsNamed sizes world lane forward object l c → (i : ℕ) → drawn ≤ i → i < available → free i ≢ c
  pub spares_built :
      (object l c : ℕ) → IsNamed sizes world lane forward object l c
      → (p : ℕ) (x : Flight) (i : ℕ) → flight p ≡ Some x → x.index ≡ Some i → i < available → x.built ≤ MOST_FIELDS → free i ≢ c

-- whether one row keeps the object's version for both checks
abbrev pub share_row : List Row → (object check other : ℕ) → Bool
share_row rows object check other = list_any (λ row. (row.obj == object) && (is_among row.checks check && is_among row.checks other)) rows

-- the copies of the rows once a change of the object drew this copy: it is that of the checks that need the old version, and the others' are as before
abbrev pub with_row : World → (object copy : ℕ) → (ℕ → ℕ → ℕ) → ℕ → ℕ → ℕ
with_row world object copy copy_of = λ o n. if (o == object) && is_among (needing_in world object) n then copy else copy_of o n

-- the rest of the part on copies: which copy is whose. `copy_of` gives the copy of the row that keeps a version of an object for a check
pub record KeptPart (sizes : Sizes) (world : World) (lane : ℕ → ℕ) (available drawn : ℕ) (flight : ℕ → Option Flight) (forward : ℕ → ℕ → ℕ) (free : ℕ → ℕ)
    (copy_of : ℕ → ℕ → ℕ) : Type 0 where
  -- each row kept has one copy, by whichever of its checks
  pub within : (o n : ℕ) → is_kept world.kept o n ≡ true → copy_of o n < sizes.copies
  pub one_copy : (o n k : ℕ) → share_row world.kept o n k ≡ true → copy_of o n ≡ copy_of o k
  -- no two rows have the same one
  pub rows_apart :
      (o p n k : ℕ) → is_kept world.kept o n ≡ true → is_kept world.kept p k ≡ true → copy_of o n ≡ copy_of p k
      → (o ≡ p) × (share_row world.kept o n k ≡ true)
  -- and none of these is free
  pub not_free : (o n : ℕ) → is_kept world.kept o n ≡ true → (i : ℕ) → drawn ≤ i → i < available → free i ≢ copy_of o n
  -- where the forwarding word of an active check at an object names a copy, it is that of the object's row with the check
  pub named_kept : (o l c : ℕ) → IsNamed sizes world lane forward o l c → (is_kept world.kept o (lane l) ≡ true) × (c ≡ copy_of o (lane l))
  -- where there is such a row, this word names its copy, but for a change in flight that has not written it yet
  pub kept_named :
      (o l : ℕ) → l < sizes.lanes → is_among world.active (lane l) ≡ true → is_kept world.kept o (lane l) ≡ true
      → IsAwaiting (flight o) l ⊎ IsNamed sizes world lane forward o l (copy_of o (lane l))
  -- which drew this copy
  pub drew_copy :
      (o l i : ℕ) (x : Flight) → flight o ≡ Some x → is_among x.awaiting l ≡ true → x.index ≡ Some i → i < available
      → (is_kept world.kept o (lane l) ≡ true) × (free i ≡ copy_of o (lane l))
