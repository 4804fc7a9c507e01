-- Whose own events a turn makes
use Rattle.std.proofs.Common.{◌≡◌, ◌≢◌, ℕ, ◌==◌, Bool, true, false, cond, inl, inr, List, [], ◌∷◌, ◌++◌, refl, sym, ◌∙◌, ap, subst, append-nil}
use Rattle.std.proofs.lemmas.Bool.Decides.{eqb_tells}
use Rattle.std.proofs.lemmas.List.Elements.{filter-append}
use Rattle.st_events.specs.declared.events.Event.{Event}
use Rattle.st_events.specs.declared.limits.Sizes.{Sizes}
use Rattle.st_events.specs.History.{is_own}
use Rattle.st_events.specs.Terms.{ShapeLists, World, world_after, own_events}
use Rattle.st_events.proofs.AmongLemmas.{same_number}
use Rattle.st_resolved.specs.Terms.{Program}
use Rattle.st_thread_meaning.specs.Deeds.{Request, make, load, store, cas, launch}
use Rattle.st_thread_meaning.specs.Laws.{replies_of}
use Rattle.st_thread_meaning.specs.Threads.{Turn, asks_for, has_ended, next_request, IsAnswerTo, LeadTo}
use Rattle.st_thread_meaning.proofs.FollowLemmas.{events_lead_by_replies}
use Rattle.st_run_meaning.specs.States.{State}
use Rattle.st_run_meaning.specs.Agents.{request_of, finished_checks, Agent, mutator, check}
use Rattle.st_run_meaning.specs.Steps.{event_of, retires, retired_for, turn_events, turn_of}

-- a Retire is nobody's own
pub retires_are_not_own : (thread m : ℕ) (ns : List ℕ) → own_events thread (retires m ns) ≡ []
retires_are_not_own thread m [] = refl
retires_are_not_own thread m (n ∷ ns) = retires_are_not_own thread m ns

-- the event of a mutator's request is its own, and no other's
own_by_request : (sizes : Sizes) (w : World) (m : ℕ) (request : Request) (thread : ℕ) → is_own thread (event_of sizes w m request) ≡ (m == thread)
own_by_request sizes w m (make class) thread = refl
own_by_request sizes w m (load obj field) thread = refl
own_by_request sizes w m (store obj field value) thread = refl
own_by_request sizes w m (cas obj field expect value) thread = refl
own_by_request sizes w m (launch site args) thread = refl

-- events without own ones add none
pub own_after_others : (thread : ℕ) (es fs : List Event) → own_events thread fs ≡ [] → own_events thread (es ++ fs) ≡ own_events thread es
own_after_others thread es fs none = filter-append (is_own thread) es fs ∙ ap (λ (gs : List Event). own_events thread es ++ gs) none ∙ append-nil (own_events thread es)

-- checks are retired, and then there is one event more
pub retires_then_own :
    (thread m : ℕ) (es : List Event) (ns : List ℕ) (e : Event)
    → is_own thread e ≡ true
    → own_events thread (es ++ (retires m ns ++ e ∷ [])) ≡ own_events thread es ++ e ∷ []
retires_then_own thread m es ns e own =
    let last : own_events thread (e ∷ []) ≡ e ∷ [] = ap (λ (b : Bool). cond b (e ∷ []) []) own in
    let behind : own_events thread (retires m ns ++ e ∷ []) ≡ e ∷ [] =
    filter-append (is_own thread) (retires m ns) (e ∷ []) ∙ ap (λ (gs : List Event). gs ++ own_events thread (e ∷ [])) (retires_are_not_own thread m ns) ∙ last in
    filter-append (is_own thread) es (retires m ns ++ e ∷ []) ∙ ap (λ (gs : List Event). own_events thread es ++ gs) behind

-- checks are retired, and then there is an event of another thread: a thread's own events stay
pub retires_then_other :
    (thread m : ℕ) (es : List Event) (ns : List ℕ) (e : Event)
    → is_own thread e ≡ false
    → own_events thread (es ++ (retires m ns ++ e ∷ [])) ≡ own_events thread es
retires_then_other thread m es ns e other =
    let last : own_events thread (e ∷ []) ≡ [] = ap (λ (b : Bool). cond b (e ∷ []) []) other in
    let behind : own_events thread (retires m ns ++ e ∷ []) ≡ [] =
    filter-append (is_own thread) (retires m ns) (e ∷ []) ∙ ap (λ (gs : List Event). gs ++ own_events thread (e ∷ [])) (retires_are_not_own thread m ns) ∙ last in
    own_after_others thread es (retires m ns ++ e ∷ []) behind

-- what a turn of mutator m, which asks for this, does to the own events of a thread
pub own_after_turn :
    (shape : ShapeLists) (p : Program) (sizes : Sizes) (s : State) (m : ℕ) (request : Request)
    → request_of p sizes s m ≡ asks_for request
    → own_events m (turn_of shape p sizes s (mutator m)).journal ≡ own_events m s.journal ++ event_of sizes (world_after shape sizes s.journal) m request ∷ []
own_after_turn shape p sizes s m request asked =
    let e = event_of sizes (world_after shape sizes s.journal) m request in
    ap (λ (t : Turn). own_events m (s.journal ++ turn_events shape p sizes s m t)) asked
    ∙ retires_then_own m m s.journal (retired_for request (finished_checks shape p sizes s)) e
    (own_by_request sizes (world_after shape sizes s.journal) m request m ∙ same_number m)

-- a mutator's turn leaves the own events of every other thread as they were
pub others_after_turn :
    (shape : ShapeLists) (p : Program) (sizes : Sizes) (s : State) (m thread : ℕ)
    → thread ≢ m
    → own_events thread (turn_of shape p sizes s (mutator m)).journal ≡ own_events thread s.journal
others_after_turn shape p sizes s m thread other = by (request_of p sizes s m)
  where
    by : (t : Turn) → own_events thread (s.journal ++ turn_events shape p sizes s m t) ≡ own_events thread s.journal
    by (has_ended end) = ap (own_events thread) (append-nil s.journal)
    by (asks_for request) =
        let w = world_after shape sizes s.journal in
        retires_then_other thread m s.journal (retired_for request (finished_checks shape p sizes s)) (event_of sizes w m request)
        (own_by_request sizes w m request thread ∙ elim (eqb_tells m thread) [ inl same ↦ absurd (other (sym same.1)) | inr differ ↦ differ.0 ])

-- ---- the events of a thread follow its code

-- the event of a request answers it
pub event_answers : (sizes : Sizes) (w : World) (m : ℕ) (request : Request) (turn : Turn) → turn ≡ asks_for request → IsAnswerTo (event_of sizes w m request) turn
event_answers sizes w m (make class) turn h = h
event_answers sizes w m (load obj field) turn h = h
event_answers sizes w m (store obj field value) turn h = h
event_answers sizes w m (cas obj field expect value) turn h = h
event_answers sizes w m (launch site args) turn h = h

-- the own events of each thread lead to what it asks for next
abbrev pub AreLed : Program → Sizes → State → Type 0
AreLed p sizes s = (thread : ℕ) → LeadTo p sizes thread (own_events thread s.journal) (request_of p sizes s thread)

-- whoever takes a turn, each thread's events lead to what it asks for then
pub turn_leads :
    (shape : ShapeLists) (p : Program) (sizes : Sizes) (s : State) (a : Agent)
    → AreLed p sizes s
    → AreLed p sizes (turn_of shape p sizes s a)
turn_leads shape p sizes s (check n) led thread = led thread
turn_leads shape p sizes s (mutator m) led thread = elim (eqb_tells thread m) [ inl same ↦ mine same.1 | inr differ ↦ others differ.1 ]
  where
    later : State
    later = turn_of shape p sizes s (mutator m)

    by_events : (es : List Event) → own_events thread later.journal ≡ es → LeadTo p sizes thread es (next_request p sizes thread (replies_of es))
        → LeadTo p sizes thread (own_events thread later.journal) (request_of p sizes later thread)
    by_events es e h = subst (λ (fs : List Event). LeadTo p sizes thread fs (next_request p sizes thread (replies_of fs))) (sym e) h

    others : thread ≢ m → LeadTo p sizes thread (own_events thread later.journal) (request_of p sizes later thread)
    others differ = by_events (own_events thread s.journal) (others_after_turn shape p sizes s m thread differ) (led thread)

    mine : thread ≡ m → LeadTo p sizes thread (own_events thread later.journal) (request_of p sizes later thread)
    mine same = subst (λ (t : ℕ). LeadTo p sizes t (own_events t later.journal) (request_of p sizes later t)) (sym same) (of_turn (request_of p sizes s m) refl)
      where
        of_turn : (t : Turn) → request_of p sizes s m ≡ t → LeadTo p sizes m (own_events m later.journal) (request_of p sizes later m)
        of_turn (has_ended end) e =
            let still : own_events m later.journal ≡ own_events m s.journal =
            ap (λ (t : Turn). own_events m (s.journal ++ turn_events shape p sizes s m t)) e ∙ ap (own_events m) (append-nil s.journal) in
            subst (λ (fs : List Event). LeadTo p sizes m fs (next_request p sizes m (replies_of fs))) (sym still) (led m)
        of_turn (asks_for request) e =
            let event = event_of sizes (world_after shape sizes s.journal) m request in
            subst (λ (fs : List Event). LeadTo p sizes m fs (next_request p sizes m (replies_of fs)))
            (sym (own_after_turn shape p sizes s m request e))
            (events_lead_by_replies.grow p sizes m (own_events m s.journal) event (request_of p sizes s m) (led m)
            (event_answers sizes (world_after shape sizes s.journal) m request (request_of p sizes s m) e))
