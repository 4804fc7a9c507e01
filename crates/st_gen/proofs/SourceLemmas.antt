-- The pieces of the source with the number between them are its lines.
use Rattle.std.proofs.Common.{◌≡◌, ℕ, ◌++◌, append_assoc}
use Rattle.std.specs.Fmt.{decimal}
use Rattle.st_gen.specs.Source.{source_text}
use Rattle.st_gen.specs.declared.pieces.TheConstants.{AFTER_PLANTS, BEFORE_PLANTS, BEFORE_PUSHED, BEFORE_PUSHES}

-- the constant pieces with the number between them, as `generate` puts them, are the lines of the source with the number in them
pub pieces_are_the_source : (n : ℕ)
    → BEFORE_PUSHES.now ++ (decimal n ++ (BEFORE_PUSHED.now ++ (decimal n ++ (BEFORE_PLANTS.now ++ (decimal n ++ AFTER_PLANTS.now))))) ≡ source_text n
unfolding source_text
pieces_are_the_source n = simp append_assoc
