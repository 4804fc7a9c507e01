-- A journal has one finding at most, memory aside.
use Rattle.std.proofs.Common.{◌≡◌, ℕ, ◌+◌, ◌<◌, ◌≤◌, ◌⊎◌, inl, inr, List, [], ◌∷◌, ◌++◌, length, Option, Some, None, refl, sym, ◌∙◌, ap, subst, arith}
use Rattle.st_events.specs.declared.events.Event.{Event}
use Rattle.st_events.specs.declared.errors.Why.{Why}
use Rattle.st_events.specs.declared.limits.Sizes.{Sizes}
use Rattle.st_events.specs.declared.verdicts.Plain.{Plain}
use Rattle.st_events.specs.declared.verdicts.Verdict.{Verdict}
use Rattle.st_events.specs.declared.verdicts.Verdict.TheVariants.{Plain as Value}
use Rattle.st_events.specs.Judge.{IsRightOfLaunch}
use Rattle.st_events.specs.Legal.{illegal_reason, IsFirstIllegal}
use Rattle.st_events.specs.Terms.{ShapeLists, Launched, IsLegal, world_after, own_events, launch_of, lost_pairs, is_lost}
use Rattle.st_events.proofs.LegalLemmas.{each_is_legal}
use Rattle.st_resolved.specs.Terms.{Program}
use Rattle.st_thread_meaning.specs.Threads.{next_request, IsAnswerTo, LeadTo}
use Rattle.st_thread_meaning.specs.Laws.{replies_of}
use Rattle.st_thread_meaning.specs.Right.{IsRightOf, IsRightVerdict}
use Rattle.st_thread_meaning.proofs.FollowLemmas.{events_lead_by_replies}
use Rattle.st_audit.specs.declared.findings.Finding.{Finding}
use Rattle.st_audit.specs.declared.findings.Finding.TheVariants as found
use Rattle.st_audit.specs.Differences.{Differs, IsFirstDifference}
use Rattle.st_audit.specs.Findings.{IsFirstStray, IsFirstWrong, IsFinding}
use Rattle.st_audit.proofs.FindingLemmas.{legal_has_no_fault, trace_does_not_differ}

-- numbers of which none is below the other
same_by_order : (a b : ℕ) → (a < b → ⊥) → (b < a → ⊥) → a ≡ b
same_by_order a b f g = elim (below a b) [ inl h ↦ absurd (f h) | inr h ↦ elim (below b a) [ inl k ↦ absurd (g k) | inr k ↦ omega (arith, h, k) ] ]
  where
    below : (x y : ℕ) → (x < y) ⊎ (y ≤ x)
    below x y = grind arith

-- of two ways to cut a list, the longer front goes on as the rest of the shorter one begins
record IsCut (xs ys rs : List Event) : Type 0 where
  item : Event
  more : List Event
  left : List Event
  front : ys ≡ xs ++ item ∷ more
  rest : rs ≡ item ∷ left

cut_at : (xs ys rs ss : List Event) → xs ++ rs ≡ ys ++ ss → length xs < length ys → IsCut xs ys rs
cut_at xs [] rs ss e lt = absurd (omega (arith, lt))
cut_at [] (z ∷ ys) rs ss e lt = record { item = z; more = ys; left = ys ++ ss; front = refl; rest = e }
cut_at (w ∷ xs) (z ∷ ys) rs ss e lt =
    let same : w ∷ (xs ++ rs) ≡ z ∷ (ys ++ ss) = e in
    let tails : xs ++ rs ≡ ys ++ ss = cc in
    let heads : z ≡ w = cc in
    let inner = cut_at xs ys rs ss tails (omega (arith, lt)) in
    record {
      item = inner.item;
      more = inner.more;
      left = inner.left;
      front = ap (λ (h : Event). h ∷ ys) heads ∙ ap (λ (zs : List Event). w ∷ zs) inner.front;
      rest = inner.rest;
    }

-- the first illegal event stands at one place
no_earlier_fault :
    (shape : ShapeLists) (sizes : Sizes) (es : List Event) (a b : ℕ) (v w : Why)
    (f : IsFirstIllegal shape sizes es a v) (g : IsFirstIllegal shape sizes es b w)
    → length f.before < length g.before
    → ⊥
no_earlier_fault shape sizes es a b v w f g lt =
    let cut = cut_at f.before g.before (f.event ∷ f.rest) (g.event ∷ g.rest) (sym f.split ∙ g.split) lt in
    let rest : f.event ∷ f.rest ≡ cut.item ∷ cut.left = cut.rest in
    let same : cut.item ≡ f.event = cc in
    let here : illegal_reason shape sizes (world_after shape sizes f.before) cut.item ≡ None =
    each_is_legal shape sizes f.before cut.more cut.item (subst (IsLegal shape sizes) cut.front g.legal_before) in
    let fault : Some v ≡ None = sym f.reason ∙ ap (illegal_reason shape sizes (world_after shape sizes f.before)) (sym same) ∙ here in cc

one_place : (shape : ShapeLists) (sizes : Sizes) (es : List Event) (a b : ℕ) (v w : Why) → IsFirstIllegal shape sizes es a v → IsFirstIllegal shape sizes es b w → a ≡ b
one_place shape sizes es a b v w f g =
    sym f.place_is ∙ same_by_order (length f.before) (length g.before) (no_earlier_fault shape sizes es a b v w f g) (no_earlier_fault shape sizes es b a w v g f) ∙ g.place_is

-- the first difference has one number
no_earlier_difference :
    (p : Program) (sizes : Sizes) (thread : ℕ) (own : List Event) (n m : ℕ)
    (a : IsFirstDifference p sizes thread own n) (b : IsFirstDifference p sizes thread own m)
    → length a.before < length b.before
    → ⊥
no_earlier_difference p sizes thread own n m a b lt =
    let cut = cut_at a.before b.before a.rest b.rest (sym a.split ∙ b.split) lt in
    let answer = (events_lead_by_replies.before p sizes thread a.before cut.more cut.item b.turn (subst (λ (es : List Event). LeadTo p sizes thread es b.turn) cut.front b.leads)).1 in
    let now : next_request p sizes thread (replies_of a.before) ≡ a.turn = events_lead_by_replies.now p sizes thread a.before a.turn a.leads in
    let other = subst (λ (es : List Event). Differs a.turn es) cut.rest a.differs in
    other (subst (IsAnswerTo cut.item) now answer)

one_number : (p : Program) (sizes : Sizes) (thread : ℕ) (own : List Event) (n m : ℕ) → IsFirstDifference p sizes thread own n → IsFirstDifference p sizes thread own m → n ≡ m
one_number p sizes thread own n m a b =
    a.number_is ∙ ap (λ (k : ℕ). k + 1) (same_by_order (length a.before) (length b.before) (no_earlier_difference p sizes thread own n m a b) (no_earlier_difference p sizes thread own m n b a))
    ∙ sym b.number_is

one_stray : (p : Program) (sizes : Sizes) (es : List Event) (t u n m : ℕ) → IsFirstStray p sizes es t n → IsFirstStray p sizes es u m → (t ≡ u) × (n ≡ m)
one_stray p sizes es t u n m a b =
    let same : t ≡ u =
    same_by_order t u (λ lt. trace_does_not_differ p sizes es t n (b.before t lt) a.first) (λ lt. trace_does_not_differ p sizes es u m (a.before u lt) b.first) in
    (same, one_number p sizes u (own_events u es) n m (subst (λ (x : ℕ). IsFirstDifference p sizes x (own_events x es) n) same a.first) b.first)

-- a check has one plain value
one_plain :
    (shape : ShapeLists) (p : Program) (sizes : Sizes) (es : List Event) (n : ℕ) (a b : Plain)
    → IsRightVerdict shape p sizes es n (Value a)
    → IsRightVerdict shape p sizes es n (Value b)
    → a ≡ b
unfolding IsRightVerdict
one_plain shape p sizes es n a b r s = by (launch_of shape sizes es n) r s
  where
    by :
        (o : Option Launched)
        → IsRightOfLaunch (IsRightOf p sizes) o (λ obj. is_lost (lost_pairs shape sizes es) obj n) (Value a)
        → IsRightOfLaunch (IsRightOf p sizes) o (λ obj. is_lost (lost_pairs shape sizes es) obj n) (Value b)
        → a ≡ b
    by None x y = absurd x
    by (Some launch) x y = x ∙ sym y

no_earlier_wrong :
    (shape : ShapeLists) (p : Program) (sizes : Sizes) (es : List Event) (verdicts : List Verdict) (n m : ℕ) (v w : Plain)
    (a : IsFirstWrong shape p sizes es verdicts n v) (b : IsFirstWrong shape p sizes es verdicts m w)
    → a.index < b.index
    → ⊥
no_earlier_wrong shape p sizes es verdicts n m v w a b lt =
    a.wrong (subst (λ (k : ℕ). IsRightVerdict shape p sizes es k a.verdict) (sym a.number_is) (b.before a.index lt a.verdict a.its_verdict))

one_wrong :
    (shape : ShapeLists) (p : Program) (sizes : Sizes) (es : List Event) (verdicts : List Verdict) (n m : ℕ) (v w : Plain)
    → IsFirstWrong shape p sizes es verdicts n v
    → IsFirstWrong shape p sizes es verdicts m w
    → (n ≡ m) × (v ≡ w)
one_wrong shape p sizes es verdicts n m v w a b =
    let index = same_by_order a.index b.index (no_earlier_wrong shape p sizes es verdicts n m v w a b) (no_earlier_wrong shape p sizes es verdicts m n w v b a) in
    let same : n ≡ m = a.number_is ∙ ap (λ (k : ℕ). k + 1) index ∙ sym b.number_is in
    (same, one_plain shape p sizes es m v w (subst (λ (k : ℕ). IsRightVerdict shape p sizes es k (Value v)) same a.plain_is_right) b.plain_is_right)

-- ---- two findings

-- two findings of one journal, neither of them want of memory, are the same
pub one_finding :
    (shape : ShapeLists) (p : Program) (sizes : Sizes) (es : List Event) (verdicts : List Verdict) (f g : Finding)
    → (f ≡ found.Memory → ⊥)
    → (g ≡ found.Memory → ⊥)
    → IsFinding shape p sizes es verdicts f
    → IsFinding shape p sizes es verdicts g
    → f ≡ g
one_finding shape p sizes es verdicts found.Memory g nf ng a b = absurd (nf refl)
one_finding shape p sizes es verdicts found.WrongSizes found.Memory nf ng a b = absurd (ng refl)
one_finding shape p sizes es verdicts found.WrongSizes found.WrongSizes nf ng a b = refl
one_finding shape p sizes es verdicts found.WrongSizes (found.NotLegal place) nf ng a b = absurd (a b.threads)
one_finding shape p sizes es verdicts found.WrongSizes (found.NotTrace t n) nf ng a b = absurd (a b.threads)
one_finding shape p sizes es verdicts found.WrongSizes (found.VerdictCount l c) nf ng a b = absurd (a b.threads)
one_finding shape p sizes es verdicts found.WrongSizes (found.WrongVerdict n v) nf ng a b = absurd (a b.threads)
one_finding shape p sizes es verdicts (found.NotLegal place) found.Memory nf ng a b = absurd (ng refl)
one_finding shape p sizes es verdicts (found.NotLegal place) found.WrongSizes nf ng a b = absurd (b a.threads)
one_finding shape p sizes es verdicts (found.NotLegal place) (found.NotLegal other) nf ng a b =
    ap (λ (k : ℕ). found.NotLegal k) (one_place shape sizes es place other a.why b.why a.first b.first)
one_finding shape p sizes es verdicts (found.NotLegal place) (found.NotTrace t n) nf ng a b = absurd (legal_has_no_fault shape sizes es place a.why b.legal a.first)
one_finding shape p sizes es verdicts (found.NotLegal place) (found.VerdictCount l c) nf ng a b = absurd (legal_has_no_fault shape sizes es place a.why b.legal a.first)
one_finding shape p sizes es verdicts (found.NotLegal place) (found.WrongVerdict n v) nf ng a b = absurd (legal_has_no_fault shape sizes es place a.why b.legal a.first)
one_finding shape p sizes es verdicts (found.NotTrace t n) found.Memory nf ng a b = absurd (ng refl)
one_finding shape p sizes es verdicts (found.NotTrace t n) found.WrongSizes nf ng a b = absurd (b a.threads)
one_finding shape p sizes es verdicts (found.NotTrace t n) (found.NotLegal place) nf ng a b = absurd (legal_has_no_fault shape sizes es place b.why a.legal b.first)
one_finding shape p sizes es verdicts (found.NotTrace t n) (found.NotTrace u m) nf ng a b =
    let same = one_stray p sizes es t u n m a.stray b.stray in ap (λ (k : ℕ). found.NotTrace k n) same.0 ∙ ap (λ (k : ℕ). found.NotTrace u k) same.1
one_finding shape p sizes es verdicts (found.NotTrace t n) (found.VerdictCount l c) nf ng a b =
    absurd (trace_does_not_differ p sizes es t n (b.traces t a.stray.is_thread) a.stray.first)
one_finding shape p sizes es verdicts (found.NotTrace t n) (found.WrongVerdict m v) nf ng a b =
    absurd (trace_does_not_differ p sizes es t n (b.traces t a.stray.is_thread) a.stray.first)
one_finding shape p sizes es verdicts (found.VerdictCount l c) found.Memory nf ng a b = absurd (ng refl)
one_finding shape p sizes es verdicts (found.VerdictCount l c) found.WrongSizes nf ng a b = absurd (b a.threads)
one_finding shape p sizes es verdicts (found.VerdictCount l c) (found.NotLegal place) nf ng a b = absurd (legal_has_no_fault shape sizes es place b.why a.legal b.first)
one_finding shape p sizes es verdicts (found.VerdictCount l c) (found.NotTrace t n) nf ng a b =
    absurd (trace_does_not_differ p sizes es t n (a.traces t b.stray.is_thread) b.stray.first)
one_finding shape p sizes es verdicts (found.VerdictCount l c) (found.VerdictCount k d) nf ng a b =
    ap (λ (x : ℕ). found.VerdictCount x c) (a.launches_are ∙ sym b.launches_are) ∙ ap (λ (x : ℕ). found.VerdictCount k x) (a.verdicts_are ∙ sym b.verdicts_are)
one_finding shape p sizes es verdicts (found.VerdictCount l c) (found.WrongVerdict n v) nf ng a b = absurd (a.differ (a.verdicts_are ∙ b.count ∙ sym a.launches_are))
one_finding shape p sizes es verdicts (found.WrongVerdict n v) found.Memory nf ng a b = absurd (ng refl)
one_finding shape p sizes es verdicts (found.WrongVerdict n v) found.WrongSizes nf ng a b = absurd (b a.threads)
one_finding shape p sizes es verdicts (found.WrongVerdict n v) (found.NotLegal place) nf ng a b = absurd (legal_has_no_fault shape sizes es place b.why a.legal b.first)
one_finding shape p sizes es verdicts (found.WrongVerdict n v) (found.NotTrace t m) nf ng a b =
    absurd (trace_does_not_differ p sizes es t m (a.traces t b.stray.is_thread) b.stray.first)
one_finding shape p sizes es verdicts (found.WrongVerdict n v) (found.VerdictCount l c) nf ng a b = absurd (b.differ (b.verdicts_are ∙ a.count ∙ sym b.launches_are))
one_finding shape p sizes es verdicts (found.WrongVerdict n v) (found.WrongVerdict m w) nf ng a b =
    let same = one_wrong shape p sizes es verdicts n m v w a.first b.first in
    ap (λ (x : ℕ). found.WrongVerdict x v) same.0 ∙ ap (λ (x : Plain). found.WrongVerdict m x) same.1
