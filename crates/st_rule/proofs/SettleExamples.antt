-- When the pool is settled, in rows that the prover computes: what is known of the words of one small table, and what one word more or less does.
use Rattle.std.proofs.Common.{◌≡◌, ℕ, Bool, true, false, if◌then◌else◌, Option, Some, None, refl}
use Rattle.st_layout.specs.Names.{WordName, LaneWord, ForwardWord, CopyWord, FreeWord}
use Rattle.st_layout.specs.Packed.{packed}
use Rattle.st_events.specs.declared.limits.Sizes.{Sizes}
use Rattle.st_rule.specs.Board.{same_name}
use Rattle.st_rule.specs.Settling.{is_settled_at}

-- one thread, two lanes, three copies
abbrev sizes : Sizes
sizes = record { mutators = 1; lanes = 2; objects = 8; copies = 3; events = 100; calls = 10 }

-- what is known, but for one word
abbrev but : WordName → Option ℕ → (WordName → Option ℕ) → WordName → Option ℕ
but name word known = λ other. if same_name other name then word else known other

-- check 4 has lane 0, and lane 1 is idle. The free list has copies 1 and 2. Copy 1 was of object 5, whose word at lane 0 is of check 3; copy 2 was of none
abbrev words : WordName → Option ℕ
words = but (LaneWord 0) (Some 4) (but (LaneWord 1) (Some 0) (but (FreeWord 0) (Some 1) (but (FreeWord 1) (Some 2)
    (but (CopyWord 1 0) (Some 5) (but (CopyWord 2 0) (Some 0) (but (ForwardWord 5 0) (Some (packed 3 2)) (λ _. None)))))))

-- whether two free copies settle the pool, beside one row kept, where the clock has seven tickets and no copy drawn
abbrev settled : (WordName → Option ℕ) → Bool
settled known = is_settled_at sizes 1 known (Some (packed 7 0)) 2

both_free : settled words ≡ true
both_free = refl

-- ---- how many

one_free : is_settled_at sizes 1 words (Some (packed 7 0)) 1 ≡ false
one_free = refl

two_rows : is_settled_at sizes 2 words (Some (packed 7 0)) 2 ≡ false
two_rows = refl

two_rows_one_free : is_settled_at sizes 2 words (Some (packed 7 0)) 1 ≡ true
two_rows_one_free = refl

none_free : is_settled_at sizes 3 (λ _. None) (Some (packed 7 0)) 0 ≡ true
none_free = refl

more_than_there_are : is_settled_at sizes 0 words (Some (packed 7 4)) 4 ≡ false
more_than_there_are = refl

-- one copy is drawn, so the list counts from index 1
one_drawn : is_settled_at sizes 2 (but (FreeWord 0) None words) (Some (packed 7 1)) 2 ≡ true
one_drawn = refl

clock_unknown : is_settled_at sizes 1 words None 2 ≡ false
clock_unknown = refl

-- ---- the list

named_twice : settled (but (FreeWord 1) (Some 1) words) ≡ false
named_twice = refl

no_such_copy : settled (but (FreeWord 1) (Some 3) words) ≡ false
no_such_copy = refl

entry_unknown : settled (but (FreeWord 0) None words) ≡ false
entry_unknown = refl

-- ---- who reads the copies

copy_1_is_read : settled (but (ForwardWord 5 0) (Some (packed 4 2)) words) ≡ false
copy_1_is_read = refl

copy_0_is_read : settled (but (ForwardWord 5 0) (Some (packed 4 1)) words) ≡ true
copy_0_is_read = refl

forward_unknown : settled (but (ForwardWord 5 0) None words) ≡ false
forward_unknown = refl

lane_unknown : settled (but (LaneWord 1) None words) ≡ false
lane_unknown = refl

other_lane_reads : settled (but (LaneWord 1) (Some 6) (but (ForwardWord 5 1) (Some (packed 6 2)) words)) ≡ false
other_lane_reads = refl

object_unknown : settled (but (CopyWord 1 0) None words) ≡ false
object_unknown = refl

-- a copy without an object is read by nobody, whatever the words say
no_object : settled (but (CopyWord 1 0) (Some 0) (but (ForwardWord 5 0) None words)) ≡ true
no_object = refl
