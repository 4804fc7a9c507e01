-- The program of a source, and what the outputs tell of it: its names, its places, and how many of each it has.
use Rattle.std.specs.Prelude.{◌≡◌, ℕ, List, ◌++◌, length, map, codes, Option, IfSome}
use Rattle.std.specs.Fmt.{decimal}
use Rattle.st_ast.specs.declared.declarations.Program.{Program}
use Rattle.st_events.specs.declared.events.Site.{Site}
use Rattle.st_source.specs.Accepted.{IsSourceOf}
use Rattle.st_types.specs.Rules.{resolution}

-- the program is that of some text, which is the one told, where one is told
pub record IsOfSource (source : Option (List ℕ)) (program : Program) : Type 0 where
  pub text : List ℕ
  pub spelled : IsSourceOf text program
  pub told : IfSome source (λ bytes. text ≡ bytes)

-- the names of the threads, in the order of the source
abbrev pub names_of : Program → List (List ℕ)
names_of tree = map (λ thread. thread.name) tree.threads

-- the places of the check statements, in the order of the source
abbrev pub places_of : Program → List Site
places_of tree = map (λ check. check.at) (resolution tree).checks

-- how many mutators a run has: one for each thread
abbrev pub mutators_of : Program → ℕ
mutators_of tree = length tree.threads

-- the line of so many of each
unfoldable pub counts_line : ℕ → ℕ → ℕ → ℕ → ℕ → List ℕ
counts_line classes preds procs threads checks =
    codes "accepted classes " ++ (decimal classes
    ++ (codes " predicates " ++ (decimal preds
    ++ (codes " procedures " ++ (decimal procs
    ++ (codes " threads " ++ (decimal threads
    ++ (codes " checks " ++ (decimal checks ++ codes "\n")))))))))

-- the line of an accepted source: how many of each it has
abbrev pub accepted_line : Program → List ℕ
accepted_line tree = counts_line (length tree.classes) (length tree.preds) (length tree.procs) (length tree.threads) (length (resolution tree).checks)
