-- Statements one after another: how far a loop over them has come.
use Rattle.std.proofs.Common.{◌≡◌, ℕ, ◌+◌, ◌<◌, ◌≤◌, List, [], ◌∷◌, ◌++◌, map, length, drop, get_or}
use Rattle.std.proofs.Common.{Ok, Err, refl, ap, add-one, drop-cons, suc}
use Rattle.std.proofs.lemmas.List.{drop_all}
use Rattle.st_resolved.specs.Terms.{Command, Block, no_commands, command_then}
use Rattle.st_resolved.specs.Views.{commands_of}
use Rattle.st_types.specs.declared.errors.TypeError.{TypeError}
use Rattle.st_types.specs.Checked.{Checked, ◌>>=◌}
use Rattle.st_types.specs.Statements.{Reached}
use Rattle.st_types.specs.Stepwise.{Stepped, SteppedBlock, step_all}

-- commands in front of a block
abbrev pub onto : List Command → Block → Block
onto [] block = block
onto (c ∷ cs) block = command_then c (onto cs block)

-- one more command in front of a block stands behind those in front of it
pub onto_more : (front : List Command) (c : Command) (block : Block) → onto (front ++ c ∷ []) block ≡ onto front (command_then c block)
onto_more [] c block = refl
onto_more (d ∷ front) c block = ap (command_then d) (onto_more front c block)

-- commands in front of the empty block are the block of these commands
pub onto_none : (front : List Command) → onto front no_commands ≡ commands_of front
onto_none [] = refl
onto_none (c ∷ front) = ap (command_then c) (onto_none front)

-- statements that are there already, and then others
abbrev pub with_commands : List Command → Checked SteppedBlock → Checked SteppedBlock
with_commands front (Ok b) = Ok (record { block = onto front b.block; reached = b.reached })
with_commands front (Err e) = Err e

-- none are there yet
pub none_in_front : (r : Checked SteppedBlock) → with_commands [] r ≡ r
none_in_front (Ok b) = refl
none_in_front (Err e) = refl

one_more_command : (front : List Command) (c : Command) (r : Checked SteppedBlock) →
    with_commands (front ++ c ∷ []) r ≡ with_commands front (r >>= (λ b. Ok (record { block = command_then c b.block; reached = b.reached })))
one_more_command front c (Ok b) = ap (λ block. Ok (record { block = block; reached = b.reached })) (onto_more front c b.block)
one_more_command front c (Err e) = refl

-- the statement at the index joins those in front
pub steps_go : {X : Type 0} (f : X → Reached → Checked Stepped) (front : List Command) (xs : List X) (i : ℕ) (d : X) (r : Reached) (a : Stepped)
    → i < length xs → f (get_or xs i d) r ≡ Ok a
    → with_commands (front ++ a.command ∷ []) (step_all (map f (drop (i + 1) xs)) a.reached) ≡ with_commands front (step_all (map f (drop i xs)) r)
steps_go f front xs i d r a h e = rw (drop-cons xs i d h, e, add-one) (one_more_command front a.command (step_all (map f (drop (suc i) xs)) a.reached))

-- the fault at the index is that of all
pub steps_fail : {X : Type 0} (f : X → Reached → Checked Stepped) (front : List Command) (xs : List X) (i : ℕ) (d : X) (r : Reached) (e : TypeError)
    → i < length xs → f (get_or xs i d) r ≡ Err e → with_commands front (step_all (map f (drop i xs)) r) ≡ Err e
steps_fail f front xs i d r e h k = rw (drop-cons xs i d h, k) refl

-- past the last, those in front are all
pub steps_end : {X : Type 0} (f : X → Reached → Checked Stepped) (front : List Command) (xs : List X) (i : ℕ) (r : Reached) → length xs ≤ i
    → with_commands front (step_all (map f (drop i xs)) r) ≡ Ok (record { block = commands_of front; reached = r })
steps_end f front xs i r h = rw (drop_all i xs h) (ap (λ block. Ok (record { block = block; reached = r })) (onto_none front))
