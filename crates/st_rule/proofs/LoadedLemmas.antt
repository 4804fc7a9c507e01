-- What views have loaded of the board, and which stores leave it.
use Rattle.std.proofs.Common.{◌≡◌, ◌≢◌, ℕ, Bool, true, false, if◌then◌else◌, Some, None, sym, refl, ap, ◌∙◌}
use Rattle.std.proofs.lemmas.Bool.{both_ways}
use Rattle.st_layout.specs.declared.plans.Plan.{Plan}
use Rattle.st_layout.specs.Names.{WordName, ClosingWord, FlagWord, ClassWord, HeaderWord, FieldWord}
use Rattle.st_layout.specs.Layout.{word_of}
use Rattle.st_rule.specs.declared.views.MutView.{MutView}
use Rattle.st_rule.specs.declared.views.Phase.{Phase}
use Rattle.st_rule.specs.declared.views.Phase.TheVariants.{Outside, Entering, Inside, Closing, Alone}
use Rattle.st_rule.specs.Board.{Board, written, same_name}
use Rattle.st_rule.specs.Holding.{word_loaded}
use Rattle.st_rule.specs.Board.{stays_loaded}
use Rattle.st_rule.specs.Parts.{HasLoaded}
use Rattle.st_rule.specs.Turns.{no_board}
use Rattle.st_rule.specs.Views.{is_closer}
use Rattle.st_rule.proofs.BoardLemmas.{same_name_is_one}
use Rattle.st_rule.proofs.TurnLemmas.{LeavesBoard}

-- words that no seat keeps what it has loaded of
abbrev pub IsFleeting : WordName → Type 0
IsFleeting name = (p : Phase) → stays_loaded p name ≡ false

-- no seat may keep what it loaded of a flag, whatever its phase is
pub flags_fleet : (n : ℕ) → IsFleeting (FlagWord n)
flags_fleet n Outside = refl
flags_fleet n Entering = refl
flags_fleet n Inside = refl
flags_fleet n Closing = refl
flags_fleet n Alone = refl

-- nor of the closing word
pub closing_fleets : IsFleeting ClosingWord
closing_fleets Outside = refl
closing_fleets Entering = refl
closing_fleets Inside = refl
closing_fleets Closing = refl
closing_fleets Alone = refl

-- nor of an object's header
pub headers_fleet : (o : ℕ) → IsFleeting (HeaderWord o)
headers_fleet o Outside = refl
headers_fleet o Entering = refl
headers_fleet o Inside = refl
headers_fleet o Closing = refl
headers_fleet o Alone = refl

-- nor of its class word
pub classes_fleet : (o : ℕ) → IsFleeting (ClassWord o)
classes_fleet o Outside = refl
classes_fleet o Entering = refl
classes_fleet o Inside = refl
classes_fleet o Closing = refl
classes_fleet o Alone = refl

-- nor of one of its fields
pub fields_fleet : (o f : ℕ) → IsFleeting (FieldWord o f)
fields_fleet o f Outside = refl
fields_fleet o f Entering = refl
fields_fleet o f Inside = refl
fields_fleet o f Closing = refl
fields_fleet o f Alone = refl

-- a store to a word that no seat in the phase may keep leaves each word that such a seat may keep
pub written_else : (p : Phase) (name other : WordName) (value : ℕ) (board : Board) → stays_loaded p name ≡ false → stays_loaded p other ≡ true
    → (b : Bool) → same_name other name ≡ b → (if b then value else board other) ≡ board other
written_else p name other value board fleets keeps true is =
    absurd (both_ways (stays_loaded p name) fleets (ap (stays_loaded p) (sym (same_name_is_one other name is)) ∙ keeps))
written_else p name other value board fleets keeps false is = refl

-- a store of such a word leaves the board
pub written_quiet : (name : WordName) (value : ℕ) (board : Board) → IsFleeting name → LeavesBoard board (written name value board)
written_quiet name value board fleets p other keeps = written_else p name other value board (fleets p) keeps (same_name other name) refl

-- a seat that is neither inside nor a closer keeps nothing
pub stays_nowhere : (p : Phase) (name : WordName) → is_closer p ≡ false → p ≢ Inside → stays_loaded p name ≡ true → ⊥
stays_nowhere Outside name out not_inside keeps = absurd cc
stays_nowhere Entering name out not_inside keeps = absurd cc
stays_nowhere Inside name out not_inside keeps = not_inside refl
stays_nowhere Closing name out not_inside keeps = absurd cc
stays_nowhere Alone name out not_inside keeps = absurd cc

-- a seat that has loaded nothing yet
pub nothing_loaded : (plan : Plan) (board : Board) (w : MutView) → w.board ≡ no_board → HasLoaded plan board w
nothing_loaded plan board w none name has keeps word found =
    let e : None ≡ Some word = ap (λ b. word_loaded b.loaded (word_of plan name)) (sym none) ∙ found in absurd cc

-- a seat that kept its phase and what it had loaded
pub same_loaded : (plan : Plan) (board : Board) (v w : MutView) → w.gate.phase ≡ v.gate.phase → w.board ≡ v.board → HasLoaded plan board v → HasLoaded plan board w
same_loaded plan board v w phase same loaded name has keeps word found =
    loaded name has (ap (λ p. stays_loaded p name) (sym phase) ∙ keeps) word (ap (λ b. word_loaded b.loaded (word_of plan name)) (sym same) ∙ found)
