-- What the evaluator's calls promise, from their turns.
use Rattle.std.proofs.Common.{◌≡◌, ◌≤◌, ℕ, zero, suc, ◌+◌, List, [], ◌∷◌, ◌++◌, length, take, drop, min, Some, slice_get}
use Rattle.std.proofs.Common.{◌-◌, ◌^◌}
use Rattle.std.proofs.Common.{refl, sym, ◌∙◌, ap, subst, arith}
use Rattle.std.proofs.lemmas.List.{append-nil, length-take}
use Rattle.st_events.specs.Heap.{Heap}
use Rattle.st_events.specs.declared.events.Args.{Args}
use Rattle.st_events.specs.declared.verdicts.Plain.{Plain}
use Rattle.st_events.specs.declared.shapes.TheConstants.{MOST_ARGS}
use Rattle.st_resolved.specs.Terms.{Program, CheckStatement}
use Rattle.st_check_meaning.specs.declared.limits.TheConstants.{MOST_DEPTH}
use Rattle.st_check_meaning.specs.Courses.{Course}
use Rattle.st_check_meaning.specs.Meaning.{Calls, course_of, call_within}
use Rattle.st_check_meaning.specs.Plain.{Cell, word_found, statement_course, check_course, plain_value, cells_read}
use Rattle.st_check_meaning.specs.Turns.{Turn, asks, is_over, turn_of, turn_after, words_of_first, IsTurnFor}
use Rattle.st_check_meaning.proofs.TurnLemmas.{checks_ask_in_order}
use Rattle.st_eval.specs.declared.asks.Ask.{Ask}
use Rattle.st_eval.specs.declared.asks.Ask.TheVariants.{Read, Done}
use Rattle.st_eval.specs.declared.evals.Eval.{Eval}
use Rattle.st_eval.specs.declared.frames.Span.{Span}
use Rattle.st_eval.specs.declared.instructions.Instruction.{Instruction}
use Rattle.st_eval.specs.declared.program_codes.ProgramCode.{ProgramCode}
use Rattle.st_eval.specs.StraightCode.{code_of, code_course}
use Rattle.st_eval.specs.Activations.{Activations, alone, pushed}
use Rattle.st_eval.specs.Steps.{part, span_of}
use Rattle.st_eval.specs.Bodies.{AreBodies, IsCodeOf, check_bodies}
use Rattle.st_eval.specs.Rests.{course_at, rest_at}
use Rattle.st_eval.specs.Room.{growth, HasRooms, IsPaused, HasOneRoom}
use Rattle.st_eval.specs.Runs.{turn_at, IsRun}
use Rattle.st_eval.specs.Evaluations.{words_of, begun, IsMadeFor, budget, turn_by, IsTurn, IsAfterCells, AsksNext, AnswersInOrder}
use Rattle.st_eval.proofs.CodeLemmas.{code_runs, then_nothing}
use Rattle.st_eval.proofs.RoomLemmas.{body_room}
use Rattle.st_eval.proofs.ReadyLemmas.{one_room, else_of}

-- the code of a check statement, from a first word of 0
statement_is :
    (code : List Instruction) (most : ℕ) (spans : List Span) (checks : List CheckStatement) (calls : Calls) (site : ℕ) (args : List ℕ)
    → AreBodies code most spans (check_bodies checks)
    → code_course calls args (part code (span_of spans site).start (span_of spans site).end) 0 (0 ∷ []) ≡ statement_course calls (slice_get checks site) args
statement_is code most [] [] calls site args h = refl
statement_is code most [] (k ∷ checks) calls site args h = absurd h
statement_is code most (s ∷ spans) [] calls site args h = absurd h
statement_is code most (s ∷ spans) (k ∷ checks) calls zero args h =
    ap (λ is. code_course calls args is 0 (0 ∷ [])) (h.1 ∙ sym (append-nil (code_of k.body)))
    ∙ code_runs calls args k.body [] (0 ∷ [])
    ∙ then_nothing (course_of calls k.body args)
statement_is code most (s ∷ spans) (k ∷ checks) calls (suc site) args h = statement_is code most spans checks calls site args h.3

-- a check that begins has its course before it
pub start_turn :
    (p : Program) (code : ProgramCode) (site : ℕ) (args : List ℕ) (s : Activations) (units : ℕ)
    → IsCodeOf p code
    → turn_of (rest_at p.preds code.instructions (alone (span_of code.checks site) args s) 0) units ≡ turn_of (check_course p site args) units
unfolding check_course
start_turn p code site args s units h =
    ap (λ c. turn_of c units)
    (then_nothing (code_course (call_within p.preds MOST_DEPTH) args (part code.instructions (span_of code.checks site).start (span_of code.checks site).end) 0 (0 ∷ []))
    ∙ statement_is code.instructions code.most_words code.checks p.checks (call_within p.preds MOST_DEPTH) site args h.checks)

-- and there is room for it
pub start_room :
    (p : Program) (code : ProgramCode) (site : ℕ) (args : List ℕ) (s : Activations)
    → IsCodeOf p code
    → length args ≤ MOST_ARGS
    → HasRooms code.most_words s
    → IsPaused code.instructions code.most_words (alone (span_of code.checks site) args s)
start_room p code site args s h few rooms =
    let r = body_room code.instructions code.most_words code.checks (check_bodies p.checks) site 1 h.checks (omega arith) h.some in
    record { running = record { holds = r.0; grows = r.1 }; waiting = few; depth = omega arith; words_room = rooms.0; calls_room = rooms.1 }

-- after the end nothing is left but the memory
pub over_room :
    (p : Program) (code : ProgramCode) (s : Activations)
    → IsCodeOf p code
    → HasRooms code.most_words s
    → IsPaused code.instructions code.most_words (alone (record { start = 0; end = 0 }) [] s)
over_room p code s h rooms =
    let some : 1 ≤ code.most_words = h.some in
    record { running = record { holds = tt; grows = omega arith }; waiting = omega arith; depth = omega arith; words_room = rooms.0; calls_room = rooms.1 }

-- a body that waits for a word has room for it
pub paused_room : (code : List Instruction) (most : ℕ) (s : Activations) → IsPaused code most s → HasOneRoom s
paused_room code most s h =
    let g : suc (length s.running.words) + growth (part code s.running.place s.running.end) ≤ most = h.running.grows in
    one_room code most s (else_of code most s _ h) (omega arith)

-- the words of the first so many cells, one more
words_further :
    (heap : Heap) (k : ℕ) (cells : List Cell) (cell : Cell) (rest : List Cell)
    → drop k cells ≡ cell ∷ rest
    → words_of_first heap (suc k) cells ≡ words_of_first heap k cells ++ word_found heap cell.obj cell.field ∷ []
words_further heap zero [] cell rest h = cc
words_further heap zero (c ∷ cells) cell rest h = let e : c ≡ cell = cc in ap (λ (x : Cell). word_found heap x.obj x.field ∷ []) e
words_further heap (suc k) [] cell rest h = cc
words_further heap (suc k) (c ∷ cells) cell rest h =
    ap (λ ws. word_found heap c.obj c.field ∷ ws) (words_further heap k cells cell rest h)

-- the cell that stands there
cell_there : (k : ℕ) (cells : List Cell) (cell : Cell) (rest : List Cell) → drop k cells ≡ cell ∷ rest → slice_get cells k ≡ Some cell
cell_there zero [] cell rest h = cc
cell_there zero (c ∷ cells) cell rest h = let e : c ≡ cell = cc in ap Some e
cell_there (suc k) [] cell rest h = cc
cell_there (suc k) (c ∷ cells) cell rest h = cell_there k cells cell rest h

-- a word after others
turn_after_more : (words : List ℕ) (word : ℕ) (turn : Turn) → turn_after (words ++ word ∷ []) turn ≡ turn_after (word ∷ []) (turn_after words turn)
turn_after_more [] word turn = refl
turn_after_more (w ∷ words) word (asks obj field next units) = turn_after_more words word (turn_of (next w) units)
turn_after_more (w ∷ words) word (is_over plain) = refl

-- parts of a turn that asks
object_asked : {o f : ℕ} {n : ℕ → Course ℕ} {u : ℕ} {o' f' : ℕ} {n' : ℕ → Course ℕ} {u' : ℕ} → asks o f n u ≡ asks o' f' n' u' → o ≡ o'
object_asked e = cc

field_asked : {o f : ℕ} {n : ℕ → Course ℕ} {u : ℕ} {o' f' : ℕ} {n' : ℕ → Course ℕ} {u' : ℕ} → asks o f n u ≡ asks o' f' n' u' → f ≡ f'
field_asked e = cc

-- the answer is the turn: the cells are asked for in order
pub answers_in_order :
    (p : Program) (heap : Heap) (site : ℕ) (args : List ℕ) (calls k : ℕ) (e : Eval) (reply : ℕ) (ask : Ask) (after : Eval)
    → IsTurn p (turn_by p e reply) ask after
    → IsAfterCells p heap site args calls k e reply
    → AnswersInOrder p heap site args calls k ask after
unfolding IsTurn IsAfterCells AnswersInOrder
answers_in_order p heap site args calls k e reply (Read obj field) after t h =
    by (drop k (cells_read p heap site args calls)) refl (checks_ask_in_order p heap site args calls k)
  where
    first : Turn
    first = turn_of (check_course p site args) calls

    so_far : Turn
    so_far = turn_after (words_of_first heap k (cells_read p heap site args calls)) first

    by : (cells : List Cell)
        → drop k (cells_read p heap site args calls) ≡ cells
        → IsTurnFor cells (plain_value p heap site args calls) so_far
        → AsksNext p heap site args calls k obj field after
    by [] d over = let w : asks t.object field t.next t.units ≡ is_over (plain_value p heap site args calls) = sym t.asks_it ∙ h ∙ over in absurd (cc)
    by (cell ∷ rest) d asked =
        let w : asks t.object field t.next t.units ≡ asks cell.obj cell.field asked.0 asked.1 = sym t.asks_it ∙ h ∙ asked.2 in
        let same : cell ≡ record { obj = t.object; field = field } = λ i. record { obj = sym (object_asked w) i; field = sym (field_asked w) i } in
        record {
          object = t.object;
          cell = cell_there k (cells_read p heap site args calls) cell rest d ∙ ap Some same;
          number = t.number;
          goes_on =
              t.goes_on (word_found heap t.object field)
              ∙ ap (turn_after (word_found heap t.object field ∷ [])) (sym t.asks_it ∙ h)
              ∙ sym (turn_after_more (words_of_first heap k (cells_read p heap site args calls)) (word_found heap t.object field) first)
              ∙ ap (λ (c : Cell). turn_after (words_of_first heap k (cells_read p heap site args calls) ++ word_found heap c.obj c.field ∷ []) first) (sym same)
              ∙ ap (λ ws. turn_after ws first) (sym (words_further heap k (cells_read p heap site args calls) cell rest d));
        }
answers_in_order p heap site args calls k e reply (Done plain) after t h =
    by (drop k (cells_read p heap site args calls)) refl (checks_ask_in_order p heap site args calls k)
  where
    first : Turn
    first = turn_of (check_course p site args) calls

    by : (cells : List Cell)
        → drop k (cells_read p heap site args calls) ≡ cells
        → IsTurnFor cells (plain_value p heap site args calls) (turn_after (words_of_first heap k (cells_read p heap site args calls)) first)
        → (drop k (cells_read p heap site args calls) ≡ []) × (plain ≡ plain_value p heap site args calls)
    by [] d over = let w : is_over plain ≡ is_over (plain_value p heap site args calls) = sym t ∙ h ∙ over in (d, cc)
    by (cell ∷ rest) d asked = let w : is_over plain ≡ asks cell.obj cell.field asked.0 asked.1 = sym t ∙ h ∙ asked.2 in absurd (cc)

-- the evaluator where a check begins
pub started :
    (e after : Eval) (site : ℕ) (args : Args) (spans : List Span) (number count : ℕ) (span : Span)
    → spans ≡ e.code.checks
    → number ≡ site
    → count ≡ args.count
    → span ≡ span_of spans number
    → after ≡ begun span (take count args.words) e
    → after ≡ begun (span_of e.code.checks site) (words_of args) e
started e after site args spans number count span f g h k b =
    b ∙ (λ i. begun (k i) (take (h i) args.words) e) ∙ (λ i. begun (span_of (f i) (g i)) (words_of args) e)

-- it stays the program's
pub start_keeps :
    (p : Program) (e after : Eval) (site : ℕ) (args : Args)
    → IsMadeFor p e
    → args.count ≤ MOST_ARGS
    → after ≡ begun (span_of e.code.checks site) (words_of args) e
    → IsMadeFor p after
start_keeps p e after site args made few is =
    let n : length (words_of args) ≡ min args.count (length args.words) = length-take args.count args.words in
    subst (λ x. IsMadeFor p x) (sym is)
    (record {
      code = made.code;
      room = start_room p e.code site (words_of args) e.stack made.code (omega arith) (made.room.words_room, made.room.calls_room);
    })

-- its budget stays
pub start_budget : (e after : Eval) (span : Span) (locals : List ℕ) → after ≡ begun span locals e → budget after ≡ budget e
unfolding budget
start_budget e after span locals is = ap (λ (x : Eval). x.calls) is

-- its first turn is the check's
pub start_turns :
    (p : Program) (e after : Eval) (site : ℕ) (args : Args)
    → IsMadeFor p e
    → after ≡ begun (span_of e.code.checks site) (words_of args) e
    → turn_by p after 0 ≡ turn_of (check_course p site (words_of args)) (budget e)
unfolding turn_by budget
start_turns p e after site args made is =
    ap (λ (x : Eval). turn_of (rest_at p.preds x.code.instructions x.stack 0) x.units) is
    ∙ start_turn p e.code site (words_of args) e.stack e.calls made.code

-- and no cell was asked for
pub start_order :
    (p : Program) (heap : Heap) (site : ℕ) (args : List ℕ) (calls : ℕ) (e : Eval)
    → turn_by p e 0 ≡ turn_of (check_course p site args) calls
    → IsAfterCells p heap site args calls 0 e 0
unfolding IsAfterCells
start_order p heap site args calls e h = h

-- what the steps come to is the turn
pub next_turns :
    (p : Program) (e : Eval) (reply : ℕ) (s after : Activations) (units : ℕ) (ask : Ask)
    → s ≡ pushed reply e.stack
    → IsRun p e.code (turn_at p e.code s e.units) ask after units
    → IsTurn p (turn_by p e reply) ask (record { code = e.code; stack = after; calls = e.calls; units = units })
unfolding IsTurn turn_by
next_turns p e reply s after units (Read obj field) is h =
    record {
      object = h.object;
      next = rest_at p.preds e.code.instructions after;
      units = units;
      asks_it = ap (λ x. turn_of (course_at p.preds e.code.instructions x) e.units) (sym is) ∙ h.asks_it;
      number = λ few. let n : obj ≡ min h.object (2 ^ 32 - 1) = h.number in omega arith;
      goes_on = λ word. refl;
    }
next_turns p e reply s after units (Done plain) is h = ap (λ x. turn_of (course_at p.preds e.code.instructions x) e.units) (sym is) ∙ h

-- an end is the same, whatever is left
pub end_turns :
    (p : Program) (e after other : Eval) (reply : ℕ) (ask : Ask) (plain : Plain)
    → ask ≡ Done plain
    → IsTurn p (turn_by p e reply) ask after
    → IsTurn p (turn_by p e reply) ask other
unfolding IsTurn
end_turns p e after other reply (Read obj field) plain is h = cc
end_turns p e after other reply (Done found) plain is h = h
