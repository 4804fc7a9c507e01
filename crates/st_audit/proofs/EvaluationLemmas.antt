-- An evaluation on a heap: what is left to read, and what it comes to.
use Rattle.std.proofs.Common.{◌≡◌, ℕ, suc, ◌<◌, ◌^◌, ◌==◌, ◌||◌, Bool, true, false, List, [], length, refl, sym, ◌∙◌, ap, subst, arith}
use Rattle.std.proofs.Math.Bool.{or_assoc}
use Rattle.std.proofs.lemmas.List.Elements.{All-head, All-tail}
use Rattle.st_events.specs.declared.verdicts.Plain.{Plain}
use Rattle.st_events.specs.Terms.{Heap}
use Rattle.st_resolved.specs.Terms.{Program}
use Rattle.st_check_meaning.specs.Plain.{Cell, Followed, after_reading, followed, word_found, check_course, plain_value, cells_read}
use Rattle.st_check_meaning.specs.Turns.{turn_of, followed_from}
use Rattle.st_check_meaning.proofs.TurnLemmas.{following_is_by_turns}
use Rattle.st_thread_meaning.specs.Right.{has_cell_of}
use Rattle.st_eval.specs.declared.asks.Ask.TheVariants.{Read, Done}
use Rattle.st_eval.specs.declared.evals.Eval.{Eval}
use Rattle.st_eval.specs.Evaluations.{turn_by, IsTurn}
use Rattle.st_audit.specs.Evaluations.{AreSmall}

-- what is left of an evaluation on a heap, by this reply
abbrev pub left_of : Program → Heap → Eval → ℕ → Followed
left_of p heap e reply = followed_from heap (turn_by p e reply)

-- An evaluation is under way: what is left comes to the plain value; the cells that were read, as far as the object is asked about, and those that are left, are those
-- of the check; and those that are left are small.
pub record IsEvaluating (p : Program) (heap : Heap) (site : ℕ) (args : List ℕ) (calls about : ℕ) (e : Eval) (reply : ℕ) (reads : Bool) : Type 0 where
  pub value : (left_of p heap e reply).value ≡ plain_value p heap site args calls
  pub seen : has_cell_of about (cells_read p heap site args calls) ≡ (reads || has_cell_of about (left_of p heap e reply).cells)
  pub small : AreSmall (left_of p heap e reply).cells

-- an evaluator that was just started is at the beginning of its check
pub evaluation_begins :
    (p : Program) (heap : Heap) (site : ℕ) (args : List ℕ) (calls about : ℕ) (e : Eval)
    → turn_by p e 0 ≡ turn_of (check_course p site args) calls
    → AreSmall (cells_read p heap site args calls)
    → IsEvaluating p heap site args calls about e 0 false
unfolding plain_value cells_read
evaluation_begins p heap site args calls about e turn small =
    let same : left_of p heap e 0 ≡ followed heap (check_course p site args) calls =
    ap (followed_from heap) turn ∙ sym (following_is_by_turns heap (check_course p site args) calls) in
    record {
      value = ap (λ (f : Followed). f.value) same;
      seen = sym (ap (λ (f : Followed). has_cell_of about f.cells) same);
      small = subst (λ (f : Followed). AreSmall f.cells) (sym same) small;
    }

-- one cell was read
pub record IsStep (p : Program) (heap : Heap) (site : ℕ) (args : List ℕ) (calls about : ℕ) (old new : Eval) (reply obj field : ℕ) (reads : Bool) : Type 0 where
  pub on : IsEvaluating p heap site args calls about new (word_found heap obj field) (reads || (obj == about))
  pub fewer : length (left_of p heap new (word_found heap obj field)).cells < length (left_of p heap old reply).cells

-- a read that is given the word of the heap is one step of the evaluation, and leaves fewer cells to read
pub evaluation_reads :
    (p : Program) (heap : Heap) (site : ℕ) (args : List ℕ) (calls about : ℕ) (old new : Eval) (reply obj field : ℕ) (reads : Bool)
    → IsEvaluating p heap site args calls about old reply reads
    → IsTurn p (turn_by p old reply) (Read obj field) new
    → IsStep p heap site args calls about old new reply obj field reads
unfolding IsTurn
evaluation_reads p heap site args calls about old new reply obj field reads was t =
    let first : left_of p heap old reply ≡ after_reading t.object field (followed heap (t.next (word_found heap t.object field)) t.units) = ap (followed_from heap) t.asks_it in
    let rest : (w : ℕ) → followed heap (t.next w) t.units ≡ left_of p heap new w =
    λ w. following_is_by_turns heap (t.next w) t.units ∙ ap (followed_from heap) (sym (t.goes_on w)) in
    let all : left_of p heap old reply ≡ after_reading t.object field (left_of p heap new (word_found heap t.object field)) =
    first ∙ ap (after_reading t.object field) (rest (word_found heap t.object field)) in
    let cells = subst (λ (f : Followed). AreSmall f.cells) all was.small in
    let object : obj ≡ t.object =
    t.number (All-head (λ (cell : Cell). cell.obj < 2 ^ 32) (record { obj = t.object; field = field }) (left_of p heap new (word_found heap t.object field)).cells cells) in
    let now : left_of p heap old reply ≡ after_reading obj field (left_of p heap new (word_found heap obj field)) =
    all ∙ ap (λ (o : ℕ). after_reading o field (left_of p heap new (word_found heap o field))) (sym object) in
    record {
      on = record {
        value = sym (ap (λ (f : Followed). f.value) now) ∙ was.value;
        seen =
            was.seen ∙ ap (λ (f : Followed). reads || has_cell_of about f.cells) now
            ∙ sym (or_assoc reads (obj == about) (has_cell_of about (left_of p heap new (word_found heap obj field)).cells));
        small = All-tail (λ (cell : Cell). cell.obj < 2 ^ 32) (record { obj = obj; field = field }) (left_of p heap new (word_found heap obj field)).cells
            (subst (λ (f : Followed). AreSmall f.cells) now was.small);
      };
      fewer = let many : length (left_of p heap old reply).cells ≡ suc (length (left_of p heap new (word_found heap obj field)).cells) = ap (λ (f : Followed). length f.cells) now in
          omega (arith, many);
    }

-- it is over
pub evaluation_ends :
    (p : Program) (heap : Heap) (site : ℕ) (args : List ℕ) (calls about : ℕ) (old new : Eval) (reply : ℕ) (plain : Plain) (reads : Bool)
    → IsEvaluating p heap site args calls about old reply reads
    → IsTurn p (turn_by p old reply) (Done plain) new
    → (plain ≡ plain_value p heap site args calls) × (reads ≡ has_cell_of about (cells_read p heap site args calls))
unfolding IsTurn
evaluation_ends p heap site args calls about old new reply plain reads was t =
    let end : left_of p heap old reply ≡ record { cells = []; value = plain } = ap (followed_from heap) t in (
      sym (ap (λ (f : Followed). f.value) end) ∙ was.value,
      sym (was.seen ∙ ap (λ (f : Followed). reads || has_cell_of about f.cells) end ∙ or_none reads),
    )
  where
    or_none : (a : Bool) → (a || false) ≡ a
    or_none true = refl
    or_none false = refl
