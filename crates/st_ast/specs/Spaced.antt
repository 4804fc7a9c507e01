-- Words, each with a blank after it: the front of a line, as it is written.
use Rattle.std.specs.Prelude.{ℕ, List, [], ◌∷◌, ◌++◌}
use Rattle.std.specs.List.{flat_map}
use Rattle.st_ast.specs.Words.{Word}

-- a blank behind each word, the last one too
unfoldable pub spaced : List Word → List ℕ
spaced words = flat_map (λ word. word ++ 32 ∷ []) words
