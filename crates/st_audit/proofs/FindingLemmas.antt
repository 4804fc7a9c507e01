-- A right journal has no finding, and a journal has one finding at most.
use Rattle.std.proofs.Common.{◌≡◌, ℕ, List, [], ◌∷◌, ◌++◌, Some, None, refl, sym, ◌∙◌, subst}
use Rattle.std.proofs.lemmas.List.{append-nil}
use Rattle.st_events.specs.declared.events.Event.{Event}
use Rattle.st_events.specs.declared.errors.Why.{Why}
use Rattle.st_events.specs.declared.limits.Sizes.{Sizes}
use Rattle.st_events.specs.declared.verdicts.End.{End}
use Rattle.st_events.specs.declared.verdicts.Verdict.{Verdict}
use Rattle.st_events.specs.Legal.{illegal_reason, IsFirstIllegal}
use Rattle.st_events.specs.Terms.{ShapeLists, IsLegal, world_after, own_events}
use Rattle.st_events.proofs.LegalLemmas.{each_is_legal}
use Rattle.st_resolved.specs.Terms.{Program}
use Rattle.st_thread_meaning.specs.Threads.{Turn, asks_for, has_ended, next_request, IsAnswerTo, LeadTo, Follows}
use Rattle.st_thread_meaning.specs.Laws.{replies_of}
use Rattle.st_thread_meaning.specs.Right.{IsRightVerdict}
use Rattle.st_thread_meaning.proofs.FollowLemmas.{events_lead_by_replies}
use Rattle.st_audit.specs.declared.findings.Finding.{Finding}
use Rattle.st_audit.specs.declared.findings.Finding.TheVariants as found
use Rattle.st_audit.specs.Differences.{Differs, IsFirstDifference, IsTrace}
use Rattle.st_audit.specs.Findings.{IsRightJournal, IsFinding}

-- a legal journal has no first illegal event
pub legal_has_no_fault : (shape : ShapeLists) (sizes : Sizes) (es : List Event) (place : ℕ) (why : Why) → IsLegal shape sizes es → IsFirstIllegal shape sizes es place why → ⊥
legal_has_no_fault shape sizes es place why l f =
    let here : illegal_reason shape sizes (world_after shape sizes f.before) f.event ≡ None = each_is_legal shape sizes f.before f.rest f.event (subst (IsLegal shape sizes) f.split l) in
    let fault : Some why ≡ None = sym f.reason ∙ here in cc

-- what leads on from the first events does not differ from those that follow
leads_on :
    (p : Program) (sizes : Sizes) (thread : ℕ) (before rest : List Event) (turn : Turn) (end : End)
    → LeadTo p sizes thread before turn
    → LeadTo p sizes thread (before ++ rest) (has_ended end)
    → Differs turn rest
    → ⊥
leads_on p sizes thread before (e ∷ rest) turn end leads whole differs =
    let answer = (events_lead_by_replies.before p sizes thread before rest e (has_ended end) whole).1 in
    differs (subst (IsAnswerTo e) (events_lead_by_replies.now p sizes thread before turn leads) answer)
leads_on p sizes thread before [] (asks_for request) end leads whole differs =
    let over : next_request p sizes thread (replies_of before) ≡ has_ended end =
    events_lead_by_replies.now p sizes thread before (has_ended end) (subst (λ (es : List Event). LeadTo p sizes thread es (has_ended end)) (append-nil before) whole) in
    let both : asks_for request ≡ has_ended end = sym (events_lead_by_replies.now p sizes thread before (asks_for request) leads) ∙ over in cc
leads_on p sizes thread before [] (has_ended other) end leads whole differs = differs

-- own events that follow the code to its end have no first difference
pub trace_does_not_differ : (p : Program) (sizes : Sizes) (es : List Event) (thread number : ℕ) → IsTrace p sizes es thread → IsFirstDifference p sizes thread (own_events thread es) number → ⊥
unfolding Follows
trace_does_not_differ p sizes es thread number t d =
    leads_on p sizes thread d.before d.rest d.turn t.0 d.leads (subst (λ (own : List Event). LeadTo p sizes thread own (has_ended t.0)) d.split t.1) d.differs

-- a right journal has no finding but want of memory
pub right_has_no_finding :
    (shape : ShapeLists) (p : Program) (sizes : Sizes) (es : List Event) (verdicts : List Verdict) (f : Finding)
    → IsRightJournal shape p sizes es verdicts
    → IsFinding shape p sizes es verdicts f
    → f ≡ found.Memory
right_has_no_finding shape p sizes es verdicts found.Memory r h = refl
right_has_no_finding shape p sizes es verdicts found.WrongSizes r h = absurd (h r.threads)
right_has_no_finding shape p sizes es verdicts (found.NotLegal place) r h = absurd (legal_has_no_fault shape sizes es place h.why r.legal h.first)
right_has_no_finding shape p sizes es verdicts (found.NotTrace thread number) r h =
    absurd (trace_does_not_differ p sizes es thread number (r.traces thread h.stray.is_thread) h.stray.first)
right_has_no_finding shape p sizes es verdicts (found.VerdictCount launches count) r h = absurd (h.differ (h.verdicts_are ∙ r.count ∙ sym h.launches_are))
right_has_no_finding shape p sizes es verdicts (found.WrongVerdict number plain) r h =
    absurd (h.first.wrong (subst (λ (n : ℕ). IsRightVerdict shape p sizes es n h.first.verdict) (sym h.first.number_is) (r.right h.first.index h.first.verdict h.first.its_verdict)))
