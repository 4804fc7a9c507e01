-- From what clap promises of the command line to what the words say.
use Rattle.std.proofs.Common.{◌≡◌, ◌∙◌, arith, Bool, true, false, cond, refl, sym, ap, subst, List, [], ◌∷◌, length, None, Err, inl, inr}
use Rattle.std.specs.Prelude.{◌↔◌}
use Rattle.std.proofs.lemmas.Bool.{ne_eqb}
use Rattle.clap.specs.Words.{App, HasKind, HasMatchesOf, IsAmong, Kinds, Text, fault_of, is_simple, is_simple_and_free, kind_of, subcommand_of, subcommand_rows_of}
use Rattle.clap.specs.Walk.{is_empty}
use Rattle.clap.specs.declared.error.ErrorKind.{ErrorKind}
use Rattle.clap.specs.declared.error.ErrorKind.TheVariants.{OutOfMemory}
use Rattle.clap.specs.declared.error.Error.{Error}
use Rattle.clap.specs.declared.parser.matches.ArgMatches.{ArgMatches}
use Rattle.st_words.specs.declared.errors.WordsError.{WordsError}
use Rattle.st_words.specs.declared.errors.WordsError.TheVariants.{Memory, Refused}
use Rattle.st_words.specs.Accepted.{accepted_words, command_value, IsAnswerTo}
use Rattle.st_words.specs.Command.{command_line}
use Rattle.st_words.proofs.BuildingLemmas.{line_is_simple, line_is_simple_and_free}

-- where clap finds no fault, the words say what it found for the command that they name
pub no_fault : (words : List Text) → fault_of command_line words ≡ [] → accepted_words words ≡ command_value (subcommand_of command_line words)
unfolding accepted_words
no_fault words none = rw none refl

among_some : (k : ErrorKind) (ks : Kinds) → IsAmong k ks → is_empty ks ≡ false
among_some k [] among = absurd among
among_some k (x ∷ xs) among = ne_eqb (length (x ∷ xs)) 0 (λ e. absurd (omega (arith, e)))

-- where it finds one, they are not accepted
pub some_fault : (words : List Text) (k : ErrorKind) → IsAmong k (fault_of command_line words) → accepted_words words ≡ None
unfolding accepted_words
some_fault words k among =
    ap (λ (b : Bool). cond b (command_value (subcommand_of command_line words)) None) (among_some k (fault_of command_line words) among)

-- the answer to what clap found
pub accepted_by : (app : App) (words : List Text) (m : ArgMatches) → app ≡ command_line → (is_simple_and_free app ≡ true → fault_of app words ≡ []) → HasMatchesOf app words m
    → command_value (subcommand_rows_of m) ≡ accepted_words words
accepted_by app words m is free matches =
    let none : fault_of command_line words ≡ [] = ap (λ (a : App). fault_of a words) (sym is) ∙ free (ap is_simple_and_free is ∙ line_is_simple_and_free) in
    let met : subcommand_rows_of m ≡ subcommand_of command_line words = (matches (ap is_simple is ∙ line_is_simple)).1 ∙ ap (λ (a : App). subcommand_of a words) is in
    ap command_value met ∙ sym (no_fault words none)

not_refused : Refused ≡ Memory → ⊥
not_refused e = absurd cc

-- the answer to an error of clap
pub refused_by : (app : App) (words : List Text) (e : Error) (kind : ErrorKind) (why : WordsError) → app ≡ command_line → kind ≡ kind_of e
    → (is_simple_and_free app ≡ true → HasKind (fault_of app words) e) → (why ≡ Memory) ↔ (kind ≡ OutOfMemory) → IsAnswerTo (accepted_words words) (Err why)
refused_by app words e kind Memory is of kinds memory = tt
refused_by app words e kind Refused is of kinds memory =
    let found : HasKind (fault_of command_line words) e = subst (λ (a : App). HasKind (fault_of a words) e) is (kinds (ap is_simple_and_free is ∙ line_is_simple_and_free)) in
    elim found [
      | inl wants ↦ absurd (not_refused (memory.1 (of ∙ wants)))
      | inr among ↦ some_fault words (kind_of e) among
    ]
