use Rattle.std.proofs.Common.{ℕ, List, Some, None, IsSome, IfSome, ◌↔◌, ap, subst, arith}
use Rattle.st_io.specs.Counts.{RoseBy}
use Rattle.st_words.specs.Accepted.{accepted_words, texts}
use Rattle.st_top.specs.Endings.{IsDoneStatus, IsDoneCall, IsRefusedExactly}
use Rattle.st_top.specs.Headline.{IsHeadline}
use Rattle.st_top.specs.Putting.{untold_sink}
use Rattle.st_top.specs.Commands.{Told}
use Rattle.st_top.specs.Orders.{order_of}
use Rattle.st_top.proofs.CallLemmas.{complete_on_text, run_status_on_text}
use Rattle.st_top.proofs.calls.strobe_on_text.Goals as goal

pub returns-clause-headline : goal.returns-clause-headline
returns-clause-headline g c =
    subst (λ (text : List ℕ). IfSome c.strobe.result.ran (λ ran. IfSome (accepted_words (texts c.args.words.now)) (λ accepted.
    IfSome (order_of (λ _. Some text) accepted) (λ order. IsHeadline order c.strobe.result.status ran untold_sink untold_sink))))
    c.make-files.ensures.text c.strobe.ensures.headline

pub returns-clause-done : goal.returns-clause-done
returns-clause-done g c =
    subst (λ (text : List ℕ). IfSome (accepted_words (texts c.args.words.now)) (λ accepted.
    IsDoneStatus c.strobe.result.status → IsDoneCall (λ _. Some text) accepted c.strobe.result untold_sink untold_sink))
    c.make-files.ensures.text c.strobe.ensures.done

pub returns-clause-input : goal.returns-clause-input
returns-clause-input g c =
    subst (λ (text : List ℕ). IfSome (accepted_words (texts c.args.words.now)) (λ accepted. IsRefusedExactly (λ _. Some text) accepted c.strobe.result.status))
    c.make-files.ensures.text c.strobe.ensures.input

pub returns-clause-no_read_fault : goal.returns-clause-no_read_fault
returns-clause-no_read_fault g c = λ five. omega (arith, c.strobe.ensures.read_fault five)

pub returns-clause-no_write_fault : goal.returns-clause-no_write_fault
returns-clause-no_write_fault g c = λ six. omega (arith, c.strobe.ensures.write_fault six)

pub returns-clause-ran : goal.returns-clause-ran
returns-clause-ran g c =
    subst (λ (text : List ℕ). IfSome (accepted_words (texts c.args.words.now)) (λ accepted.
    IsSome c.strobe.result.ran ↔ (IsSome (order_of (λ _. Some text) accepted) × IsDoneStatus c.strobe.result.status)))
    c.make-files.ensures.text c.strobe.ensures.ran

pub returns-clause-run_status : goal.returns-clause-run_status
returns-clause-run_status g c = run_status_on_text c.strobe.result.status c.strobe.result.ran (λ six. omega (arith, c.strobe.ensures.write_fault six)) c.strobe.ensures.run_status

pub returns-clause-complete : goal.returns-clause-complete
returns-clause-complete g c =
    complete_on_text (accepted_words (texts c.args.words.now)) c.args.text.items
    (record { told = λ (file : List ℕ). Some c.make-files.result.text; faults = 0; taken = c.make-files.result.taken })
    (record { told = λ (file : List ℕ). Some c.strobe.new.files.text; faults = 0; taken = c.strobe.new.files.taken })
    c.strobe.result.status (record { written = None; faults = 0 }) (record { written = None; faults = 0 })
    (ap {B = Told} (λ (text : List ℕ). λ (file : List ℕ). Some text) c.make-files.ensures.text) (λ (rose : RoseBy 1 0 0). omega (arith, rose)) (λ (rose : RoseBy 1 0 0). omega (arith, rose))
    c.strobe.ensures.complete
