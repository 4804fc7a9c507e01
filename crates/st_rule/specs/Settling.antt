-- When the pool of copies is settled: whether what a view that is alone has loaded or stored shows that no free copy is in use.
-- No kind of step asks it yet. A step that stores the length of the free list will: from then on an index drawn below it reaches a copy that no check reads.
use Rattle.std.specs.Prelude.{ℕ, zero, suc, ◌+◌, ◌==◌, ◌&&◌, ◌||◌, not, nat_lt, nat_le, Bool, true, false, if◌then◌else◌, List, [], ◌∷◌, length}
use Rattle.std.specs.Prelude.{Option, Some, None}
use Rattle.st_layout.specs.Layout.{word_of}
use Rattle.st_layout.specs.Names.{WordName, ClockWord, LaneWord, ForwardWord, CopyWord, FreeWord}
use Rattle.st_layout.specs.Packed.{high_half, low_half}
use Rattle.st_events.specs.declared.limits.Sizes.{Sizes}
use Rattle.st_events.specs.World.{world_after}
use Rattle.st_rule.specs.declared.views.MutView.{MutView}
use Rattle.st_rule.specs.declared.views.Phase.{Phase}
use Rattle.st_rule.specs.declared.views.Phase.TheVariants.{Outside, Entering, Inside, Closing, Alone}
use Rattle.st_rule.specs.Board.{plan_of}
use Rattle.st_rule.specs.Holding.{word_loaded}

-- what a view knows of the words by their names: what it has loaded or stored last, and None where it has not
abbrev pub words_known : MutView → WordName → Option ℕ
words_known v name = word_loaded v.board.loaded (word_of (plan_of v.terms.sizes) name)

-- whether the number is known and is one of the list's
abbrev pub is_named_in : List (Option ℕ) → ℕ → Bool
is_named_in [] copy = false
is_named_in (None ∷ free) copy = is_named_in free copy
is_named_in (Some c ∷ free) copy = (c == copy) || is_named_in free copy

-- what is known of the free list from the copy part of the clock on, below its length; the last index first
abbrev pub free_known : (known : WordName → Option ℕ) (drawn available : ℕ) → List (Option ℕ)
free_known known drawn zero = []
free_known known drawn (suc i) = if nat_le drawn i then known (FreeWord i) ∷ free_known known drawn i else []

-- whether a lane's forwarding word is known not to name the copy for the lane's check; a lane without a check has the word 0
abbrev pub lane_spares : (check forward : Option ℕ) (copy : ℕ) → Bool
lane_spares None forward copy = false
lane_spares (Some check) None copy = check == 0
lane_spares (Some check) (Some word) copy = (check == 0) || not ((high_half word == check) && (low_half word == suc copy))

-- whether each lane below a count spares the copy, by its forwarding word at the object
abbrev pub lanes_spare : (known : WordName → Option ℕ) (object copy count : ℕ) → Bool
lanes_spare known object copy zero = true
lanes_spare known object copy (suc l) = lane_spares (known (LaneWord l)) (known (ForwardWord object l)) copy && lanes_spare known object copy l

-- whether no lane names the copy. Only forwarding words at the object whose number is the copy's word 0 may; there is no object 0
abbrev pub copy_is_spared : (known : WordName → Option ℕ) (lanes : ℕ) (object : Option ℕ) (copy : ℕ) → Bool
copy_is_spared known lanes None copy = false
copy_is_spared known lanes (Some object) copy = (object == 0) || lanes_spare known object copy lanes

-- whether each entry of the free list is known, and names a copy that no other entry names and no lane
abbrev pub names_spared : (sizes : Sizes) (known : WordName → Option ℕ) → List (Option ℕ) → Bool
names_spared sizes known [] = true
names_spared sizes known (None ∷ free) = false
names_spared sizes known (Some copy ∷ free) =
    nat_lt copy sizes.copies && (not (is_named_in free copy) && (copy_is_spared known sizes.lanes (known (CopyWord copy 0)) copy && names_spared sizes known free))

-- whether the copies that are not free are as many as the rows kept
abbrev pub fits_rows : (sizes : Sizes) (rows drawn available : ℕ) → Bool
fits_rows sizes rows drawn available = nat_le available sizes.copies && (rows + available == sizes.copies + (if nat_le drawn available then drawn else available))

-- whether the free list of this length is one of exactly the copies that are not in use, by what is known of the words
abbrev pub is_settled_at : (sizes : Sizes) (rows : ℕ) (known : WordName → Option ℕ) (clock : Option ℕ) (available : ℕ) → Bool
is_settled_at sizes rows known None available = false
is_settled_at sizes rows known (Some clock) available =
    fits_rows sizes rows (low_half clock) available && names_spared sizes known (free_known known (low_half clock) available)

-- whether a seat in this phase is alone
abbrev pub is_alone : Phase → Bool
is_alone Outside = false
is_alone Entering = false
is_alone Inside = false
is_alone Closing = false
is_alone Alone = true

-- whether the store of this length of the free list settles the pool: the view is alone, so nothing is in flight and what it has seen is the journal
abbrev pub settles : MutView → (available : ℕ) → Bool
settles v available =
    is_alone v.gate.phase
    && is_settled_at v.terms.sizes (length (world_after v.terms.shape v.terms.sizes v.journal.seen).kept) (words_known v) (words_known v ClockWord) available
