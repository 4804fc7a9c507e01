-- What is refused is not accepted.
use Rattle.std.proofs.Common.{◌≢◌, ℕ, List, Result, Ok, Err}
use Rattle.std.specs.Prelude.{IfErr}
use Rattle.st_source.specs.Accepted.{IsAccepted}
use Rattle.st_source.specs.Refused.{IsRefusedFor}
use Rattle.st_source.specs.Terms.{SourceError}
use Rattle.st_source.specs.Terms.error
use Rattle.st_source.proofs.VerdictLemmas.{not_both}

-- an answer that is a refusal tells a fault of the text, which is then not accepted
pub not_accepted : {X : Type 0} (text : List ℕ) (answer : Result X SourceError)
    → IfErr answer (λ why. why ≢ error.Memory → IsRefusedFor text why) → IfErr answer (λ why. why ≢ error.Memory → IsAccepted text → ⊥)
not_accepted text (Ok x) told = tt
not_accepted text (Err why) told = λ other h. not_both text h.tree why h.source (told other)
