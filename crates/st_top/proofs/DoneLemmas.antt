-- What a command that was done comes to: its status, and its run.
use Rattle.std.proofs.Common.{◌≡◌, ℕ, ◌⊎◌, ◌↔◌, Bool, true, false, Option, Some, None, IsSome, IfSome, IsTrue, IsFalse, if◌then◌else◌}
use Rattle.std.proofs.Common.{inl, inr, refl, sym, ap, ◌∙◌, subst, arith}
use Rattle.std.specs.List.{list_any}
use Rattle.st_audit.specs.declared.findings.Finding.{Finding}
use Rattle.st_events.specs.Terms.{RanLists}
use Rattle.st_io.specs.States.{SinkState}
use Rattle.st_report.specs.Status.{run_status, is_unfinished, is_fault, is_undecided}
use Rattle.st_top.specs.Commands.{Told, IsDone}
use Rattle.st_top.specs.Deeds.{Left, IsRunAs}
use Rattle.st_top.specs.Endings.{IsRunStatus, IsStatusOf, IsDoneStatus, HasRunStatus, IsDoneCall}
use Rattle.st_top.specs.Headline.{IsHeadline}
use Rattle.st_top.specs.Orders.{Order, order_of, run_order, demo_order}
use Rattle.st_top.specs.Outputs.{audit_status}
use Rattle.st_top.specs.Putting.{IsWritten}
use Rattle.st_top.specs.declared.outcomes.Outcome.{Outcome}
use Rattle.st_words.specs.declared.words.Words.{Words}
use Rattle.st_words.specs.declared.words.Words.TheVariants as words

-- ---- the status of a run

-- what a status says of the tests that decide it
record SaysOfTests (unfinished fault undecided : Bool) (status : ℕ) : Type 0 where
  some : IsRunStatus status
  four : (status ≡ 4) ↔ IsTrue unfinished
  one : (status ≡ 1) ↔ (IsFalse unfinished × IsTrue fault)
  eight : (status ≡ 8) ↔ (IsFalse unfinished × IsFalse fault × IsTrue undecided)

-- true is not false
no_truth_is_false : true ≡ false → ⊥
no_truth_is_false same = cc

no_falsehood_is_true : false ≡ true → ⊥
no_falsehood_is_true same = cc

says_of_tests : (unfinished fault undecided : Bool) (status : ℕ)
    → status ≡ (if unfinished then 4 else (if fault then 1 else (if undecided then 8 else 0)))
    → SaysOfTests unfinished fault undecided status
says_of_tests true fault undecided status is = record {
  some = inr (inr (inl is));
  four = (λ e. refl, λ e. is);
  one = (λ e. absurd (omega (arith, is, e)), λ h. absurd (no_truth_is_false h.0));
  eight = (λ e. absurd (omega (arith, is, e)), λ h. absurd (no_truth_is_false h.0));
}
says_of_tests false true undecided status is = record {
  some = inr (inl is);
  four = (λ e. absurd (omega (arith, is, e)), λ h. absurd (no_falsehood_is_true h));
  one = (λ e. (refl, refl), λ h. is);
  eight = (λ e. absurd (omega (arith, is, e)), λ h. absurd (no_truth_is_false h.1));
}
says_of_tests false false true status is = record {
  some = inr (inr (inr is));
  four = (λ e. absurd (omega (arith, is, e)), λ h. absurd (no_falsehood_is_true h));
  one = (λ e. absurd (omega (arith, is, e)), λ h. absurd (no_falsehood_is_true h.1));
  eight = (λ e. (refl, refl, refl), λ h. is);
}
says_of_tests false false false status is = record {
  some = inl is;
  four = (λ e. absurd (omega (arith, is, e)), λ h. absurd (no_falsehood_is_true h));
  one = (λ e. absurd (omega (arith, is, e)), λ h. absurd (no_falsehood_is_true h.1));
  eight = (λ e. absurd (omega (arith, is, e)), λ h. absurd (no_falsehood_is_true h.2));
}

run_status_says : (ran : RanLists) (status : ℕ) → status ≡ run_status ran
    → SaysOfTests (list_any is_unfinished ran.ends) (list_any is_fault ran.verdicts) (list_any is_undecided ran.verdicts) status
unfolding run_status
run_status_says ran status is = says_of_tests (list_any is_unfinished ran.ends) (list_any is_fault ran.verdicts) (list_any is_undecided ran.verdicts) status is

-- the status of a run, by its order: 4, then 1, then 8
pub run_has_its_status : (ran : RanLists) (status : ℕ) → status ≡ run_status ran → HasRunStatus status ran
run_has_its_status ran status is =
    let says = run_status_says ran status is in
    record { unfinished = says.four; check_fails = says.one; undecided = says.eight }

-- ---- what is left of each command

-- the status that is left of a run
run_left_has_status : (order : Order) (left : Left) → IsRunAs order left → IsRunStatus left.status
run_left_has_status order left run =
    let is : left.status ≡ run_status run.ran = ap (λ (l : Left). l.status) run.is_left in
    (run_status_says run.ran left.status is).some

audit_has_status : (found : Option Finding) (status : ℕ) → status ≡ audit_status found → (status ≡ 0) ⊎ (status ≡ 1)
audit_has_status None status is = inl is
audit_has_status (Some finding) status is = inr is

-- what a command leaves has one of the statuses of that command
pub left_has_status : (told : Told) (call : Words) (left : Left) → IsDone told call left → IsStatusOf call left.status
left_has_status told (words.Run call) left done = run_left_has_status (run_order (told call.file) call) left done
left_has_status told (words.Check file) left done = ap (λ (l : Left). l.status) done.is_left
left_has_status told (words.Audit file journal) left done = audit_has_status done.found left.status (ap (λ (l : Left). l.status) done.is_left)
left_has_status told (words.Gen n) left done = ap (λ (l : Left). l.status) done
left_has_status told (words.Demo n) left done = run_left_has_status (demo_order n) left done

-- each of these is one of 0, 1, 4 and 8
run_status_of : (call : Words) (status : ℕ) → IsStatusOf call status → IsRunStatus status
run_status_of (words.Run call) status is = is
run_status_of (words.Check file) status is = inl is
run_status_of (words.Audit file journal) status (inl is) = inl is
run_status_of (words.Audit file journal) status (inr is) = inr (inl is)
run_status_of (words.Gen n) status is = inl is
run_status_of (words.Demo n) status is = is

done_status_of : (status : ℕ) → IsRunStatus status → IsDoneStatus status
done_status_of status (inl is) = inl is
done_status_of status (inr (inl is)) = inr (inl is)
done_status_of status (inr (inr (inl is))) = inr (inr (inl is))
done_status_of status (inr (inr (inr is))) = inr (inr (inr (inl is)))

-- a status of a run is not 6
pub run_status_is_no_fault : (call : Words) (status : ℕ) → IsStatusOf call status → status ≡ 6 → ⊥
run_status_is_no_fault call status is six = by (run_status_of call status is)
  where
    by : IsRunStatus status → ⊥
    by (inl p) = omega (arith, p, six)
    by (inr (inl p)) = omega (arith, p, six)
    by (inr (inr (inl p))) = omega (arith, p, six)
    by (inr (inr (inr p))) = omega (arith, p, six)

-- a call that was done has a status of its own
pub done_call_has_status : (told : Told) (call : Words) (outcome : Outcome) (before now : SinkState)
    → IsDoneCall told call outcome before now → IsDoneStatus outcome.status
done_call_has_status told call outcome before now h = elim h.written [
  | inl w ↦ subst IsDoneStatus (sym w.as_own) (done_status_of h.left.status (run_status_of call h.left.status (left_has_status told call h.left h.done)))
  | inr w ↦ inr (inr (inr (inr w.as_fault)))
]

-- ---- the run that is left

-- the words order a run, and the headline holds of it
pub record HasHeadline (told : Told) (words : Words) (status : ℕ) (ran : RanLists) (before now : SinkState) : Type 0 where
  pub order : Order
  pub ordered : order_of told words ≡ Some order
  pub headline : IsHeadline order status ran before now

-- so the headline holds of whatever run the words order
pub headline_is_shown : (told : Told) (call : Words) (status : ℕ) (ran : Option RanLists) (before now : SinkState)
    → IfSome ran (λ r. HasHeadline told call status r before now)
    → IfSome ran (λ r. IfSome (order_of told call) (λ order. IsHeadline order status r before now))
headline_is_shown told call status None before now h = tt
headline_is_shown told call status (Some ran) before now h =
    subst (λ (o : Option Order). IfSome o (λ order. IsHeadline order status ran before now)) (sym h.ordered) h.headline

-- where a run was done, the headline holds of what is left
run_has_headline : (told : Told) (call : Words) (order : Order) (left : Left) (outcome : Outcome) (before now : SinkState)
    → order_of told call ≡ Some order → IsRunAs order left → outcome.ran ≡ left.ran → IsWritten left.status left.output outcome.status before now
    → IfSome outcome.ran (λ ran. HasHeadline told call outcome.status ran before now)
run_has_headline told call order left outcome before now ordered run same written =
    let ran : outcome.ran ≡ Some run.ran = same ∙ ap (λ (l : Left). l.ran) run.is_left in
    subst (λ (o : Option RanLists). IfSome o (λ ran. HasHeadline told call outcome.status ran before now)) (sym ran) (record {
      order = order;
      ordered = ordered;
      headline = record {
        run = run.run;
        written = subst (λ (l : Left). IsWritten l.status l.output outcome.status before now) run.is_left written;
      };
    })

-- where nothing was run, nothing is left of a run
no_run_has_headline : (told : Told) (call : Words) (left : Left) (outcome : Outcome) (before now : SinkState)
    → left.ran ≡ None → outcome.ran ≡ left.ran → IfSome outcome.ran (λ ran. HasHeadline told call outcome.status ran before now)
no_run_has_headline told call left outcome before now none same =
    subst (λ (o : Option RanLists). IfSome o (λ ran. HasHeadline told call outcome.status ran before now)) (sym (same ∙ none)) tt

-- a run that was done has the headline
pub done_call_has_headline : (told : Told) (call : Words) (outcome : Outcome) (before now : SinkState)
    → IsDoneCall told call outcome before now → IfSome outcome.ran (λ ran. HasHeadline told call outcome.status ran before now)
done_call_has_headline told (words.Run call) outcome before now h =
    run_has_headline told (words.Run call) (run_order (told call.file) call) h.left outcome before now refl h.done h.ran h.written
done_call_has_headline told (words.Check file) outcome before now h =
    no_run_has_headline told (words.Check file) h.left outcome before now (ap (λ (l : Left). l.ran) h.done.is_left) h.ran
done_call_has_headline told (words.Audit file journal) outcome before now h =
    no_run_has_headline told (words.Audit file journal) h.left outcome before now (ap (λ (l : Left). l.ran) h.done.is_left) h.ran
done_call_has_headline told (words.Gen n) outcome before now h =
    no_run_has_headline told (words.Gen n) h.left outcome before now (ap (λ (l : Left). l.ran) h.done) h.ran
done_call_has_headline told (words.Demo n) outcome before now h =
    run_has_headline told (words.Demo n) (demo_order n) h.left outcome before now refl h.done h.ran h.written

-- there is a run exactly where one was ordered
is_some_of : (a b : Option RanLists) (ran : RanLists) → a ≡ b → b ≡ Some ran → IsSome a
is_some_of a b ran same is = rw (same ∙ is) refl

is_none_of : (a b : Option RanLists) → a ≡ b → b ≡ None → IsSome a → ⊥
is_none_of a b same none there = let no : a ≡ None = same ∙ none in cc

-- a command that was done left a run exactly where it is one that runs
pub done_call_has_its_run : (told : Told) (call : Words) (outcome : Outcome) (before now : SinkState)
    → IsDoneCall told call outcome before now → IsSome outcome.ran ↔ IsSome (order_of told call)
done_call_has_its_run told (words.Run call) outcome before now h =
    (λ there. refl, λ ordered. is_some_of outcome.ran h.left.ran h.done.ran h.ran (ap (λ (l : Left). l.ran) h.done.is_left))
done_call_has_its_run told (words.Check file) outcome before now h =
    (λ there. absurd (is_none_of outcome.ran h.left.ran h.ran (ap (λ (l : Left). l.ran) h.done.is_left) there), λ ordered. cc)
done_call_has_its_run told (words.Audit file journal) outcome before now h =
    (λ there. absurd (is_none_of outcome.ran h.left.ran h.ran (ap (λ (l : Left). l.ran) h.done.is_left) there), λ ordered. cc)
done_call_has_its_run told (words.Gen n) outcome before now h =
    (λ there. absurd (is_none_of outcome.ran h.left.ran h.ran (ap (λ (l : Left). l.ran) h.done) there), λ ordered. cc)
done_call_has_its_run told (words.Demo n) outcome before now h =
    (λ there. refl, λ ordered. is_some_of outcome.ran h.left.ran h.done.ran h.ran (ap (λ (l : Left). l.ran) h.done.is_left))
