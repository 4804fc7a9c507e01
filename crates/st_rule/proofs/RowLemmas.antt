-- The part on check rows is kept: so far no step writes a row, and a journal that grows retires no fewer checks.
use Rattle.std.proofs.Common.{◌≡◌, ℕ, ◌+◌, ◌-◌, ◌*◌, List, [], ◌∷◌, ◌++◌, ap, ◌∙◌, arith, append_assoc}
use Rattle.std.specs.Prelude.{slice_index}
use Rattle.std.proofs.lemmas.List.{get_or-drop}
use Rattle.st_layout.specs.declared.plans.Plan.{Plan}
use Rattle.st_layout.specs.declared.words.TheConstants.{ROW_WORDS}
use Rattle.st_layout.specs.Layout.{word_of, first_row}
use Rattle.st_layout.specs.Names.{RowWord}
use Rattle.st_events.specs.declared.events.Event.{Event}
use Rattle.st_events.specs.declared.events.Event.TheVariants.{Retire}
use Rattle.st_events.specs.declared.limits.Sizes.{Sizes}
use Rattle.st_events.specs.History.{IsRetireIn, epoch_of}
use Rattle.st_events.specs.Legal.{IsLegal}
use Rattle.st_events.specs.Shape.{ShapeLists, IsWithinLimits}
use Rattle.st_events.proofs.RetireLemmas.{retired_is_launched}
use Rattle.st_events.proofs.SoundLemmas.{legal_is_sound}
use Rattle.st_rule.specs.Board.{Board}
use Rattle.st_rule.specs.Rows.{RowPart, IsUnretired, rows_told, row_word}

-- a check that was retired is retired in every journal that goes on from there
pub retired_more : (es more : List Event) (check thread : ℕ) → IsRetireIn es check thread → IsRetireIn (es ++ more) check thread
retired_more es more check thread r = record {
  before = r.before;
  rest = r.rest ++ more;
  split = ap (λ l. l ++ more) r.split ∙ append_assoc r.before (Retire thread check ∷ r.rest) more;
}

-- where no check was launched, none was retired
pub none_retired :
    (shape : ShapeLists) (sizes : Sizes) → IsWithinLimits shape
    → (es : List Event) → IsLegal shape sizes es
    → epoch_of shape sizes es ≡ 0
    → (check : ℕ) → IsUnretired es check
none_retired shape sizes limits es legal none check thread retired =
    let launch = retired_is_launched shape sizes limits es check thread legal retired in
    let bounds = (legal_is_sound shape sizes limits es legal).launches.only check launch.0 launch.1 in
    absurd (omega (arith, bounds.0, bounds.1, none))

-- an event more leaves the rows of the checks that are still not retired
pub rows_drawn : (journal : List Event) (event : Event) (row : ℕ → ℕ → ℕ) → RowPart journal row → RowPart (journal ++ event ∷ []) row
rows_drawn journal event row p = record {
  unwritten = λ check k none. p.unwritten check k (λ thread retired. none thread (retired_more journal (event ∷ []) check thread retired));
}

-- a step that writes no row leaves them
pub rows_stay :
    (journal : List Event) (before after : Board) → ((check k : ℕ) → after (RowWord check k) ≡ before (RowWord check k))
    → RowPart journal (λ c k. before (RowWord c k)) → RowPart journal (λ c k. after (RowWord c k))
rows_stay journal before after same p = record { unwritten = λ check k none. same check k ∙ p.unwritten check k none }

-- word k of a check's row is that of the table
pub row_is : (plan : Plan) (words : List ℕ) (check k : ℕ) → row_word (rows_told plan words) check k ≡ slice_index words (word_of plan (RowWord check k))
unfolding word_of
row_is plan words check k =
    get_or-drop (first_row plan) words ((check - 1) * ROW_WORDS + k) 0
    ∙ ap (slice_index words) (let e : first_row plan + ((check - 1) * ROW_WORDS + k) ≡ first_row plan + (check - 1) * ROW_WORDS + k = omega arith in e)
