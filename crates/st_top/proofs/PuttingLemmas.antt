-- A text that is put line by line.
use Rattle.std.proofs.Common.{◌≡◌, ℕ, List, [], ◌∷◌, ◌++◌, length, Option, refl, sym, ap, ◌∙◌, subst, append_assoc, append-nil, arith}
use Rattle.std.proofs.Common.{Result, Ok, Err, OnOk, OnErr, inl, inr}
use Rattle.st_io.specs.Counts.{RoseBy}
use Rattle.st_io.specs.Growth.{Grows, GrowsByFront}
use Rattle.st_io.specs.States.{SinkState}
use Rattle.st_io.specs.declared.errors.SinkFault.{SinkFault}
use Rattle.st_io.proofs.GrowthLemmas.{nothing_is_growth_by_nothing, growths_add_up, growth_stopped_within_a_piece, growth_is_growth_by_a_front}
use Rattle.st_top.specs.Putting.{IsLinePut, IsWritten}
use Rattle.st_top.specs.declared.statuses.TheConstants.{STATUS_WRITE_FAULT}

-- all of the text but the rest was put
pub record HasPut (before : Option (List ℕ)) (text rest : List ℕ) (now : Option (List ℕ)) : Type 0 where
  pub front : List ℕ
  pub whole : text ≡ front ++ rest
  pub grew : Grows before front now

-- at first nothing is put, and all of the text is left
pub nothing_is_put : (before : Option (List ℕ)) (text : List ℕ) → HasPut before text text before
nothing_is_put before text = record { front = []; whole = refl; grew = nothing_is_growth_by_nothing before }

-- a line that was put stands behind what was put before
pub one_line_more_is_put :
    {before between now : Option (List ℕ)} {text rest : List ℕ} (line more : List ℕ)
    → HasPut before text rest between
    → rest ≡ line ++ more
    → Grows between line now
    → HasPut before text more now
one_line_more_is_put {before} {between} {now} {text} {rest} line more put split grew = record {
  front = put.front ++ line;
  whole = put.whole ∙ ap (λ (left : List ℕ). put.front ++ left) split ∙ sym (append_assoc put.front line more);
  grew = growths_add_up before between now put.front line put.grew grew;
}

nothing_is_left : (rest : List ℕ) → length rest ≡ 0 → rest ≡ []
nothing_is_left [] none = refl
nothing_is_left (byte ∷ rest) none = absurd (omega (arith, none))

-- where nothing is left the whole text was put
pub all_is_put : {before now : Option (List ℕ)} {text : List ℕ} (rest : List ℕ) → HasPut before text rest now → length rest ≡ 0 → Grows before text now
all_is_put {before} {now} {text} rest put none =
    let all : text ≡ put.front = put.whole ∙ ap (λ (left : List ℕ). put.front ++ left) (nothing_is_left rest none) ∙ append-nil put.front in
    subst (λ (front : List ℕ). Grows before front now) (sym all) put.grew

-- a put that failed leaves a front of the text
pub put_stopped_in_a_line :
    {before between now : Option (List ℕ)} {text rest : List ℕ} (line more : List ℕ)
    → HasPut before text rest between
    → rest ≡ line ++ more
    → GrowsByFront between line now
    → GrowsByFront before text now
put_stopped_in_a_line {before} {between} {now} {text} {rest} line more put split cut =
    growth_stopped_within_a_piece more (put.whole ∙ ap (λ (left : List ℕ). put.front ++ left) split) put.grew cut

-- a line that was put whole, or stopped
pub put_line_is_put : (result : Result (Unit {0}) SinkFault) (line : List ℕ) (before now : SinkState)
    → OnOk result (Grows before.written line now.written)
    → OnErr result (GrowsByFront before.written line now.written)
    → OnErr result (RoseBy 1 before.faults now.faults)
    → IsLinePut line before now
put_line_is_put (Ok done) line before now grew cut rose = record { part = growth_is_growth_by_a_front before.written now.written line grew; whole = λ no_fault. grew }
put_line_is_put (Err fault) line before now grew cut rose = record { part = cut; whole = λ no_fault. absurd (no_fault rose) }

-- a text that was put, with the status of that
pub put_text_is_written : (result : Result (Unit {0}) SinkFault) (own : ℕ) (text : List ℕ) (status : ℕ) (before now : SinkState)
    → OnOk result (Grows before.written text now.written)
    → OnErr result (GrowsByFront before.written text now.written)
    → OnErr result (RoseBy 1 before.faults now.faults)
    → OnOk result (status ≡ own)
    → OnErr result (status ≡ STATUS_WRITE_FAULT)
    → IsWritten own text status before now
put_text_is_written (Ok done) own text status before now grew cut rose own_status fault_status = inl (record { as_own = own_status; written = grew })
put_text_is_written (Err fault) own text status before now grew cut rose own_status fault_status =
    inr (record { as_fault = fault_status; written = cut; faults = rose })
