-- Each state that a run comes to is sound
use Rattle.std.proofs.Common.{◌≡◌, ◌≢◌, ℕ, ◌<◌, ◌≤◌, ◌==◌, ◌||◌, nat_lt, true, ◌⊎◌, inl, inr, List, [], ◌∷◌, ◌++◌, length, refl, sym}
use Rattle.std.proofs.Common.{◌∙◌, ap, subst, append_assoc, arith}
use Rattle.std.proofs.lemmas.Bool.Decides.{eqb_tells}
use Rattle.std.proofs.lemmas.List.{map-append}
use Rattle.st_events.specs.declared.events.Event.{Event}
use Rattle.st_events.specs.declared.limits.Sizes.{Sizes}
use Rattle.st_events.specs.Legal.{IsLegal, IsLegalNext, next_object}
use Rattle.st_events.specs.Sound.{IsRising, IsSoundWorld}
use Rattle.st_events.specs.Terms.{ShapeLists, Heap, World, at, is_among, is_lost, next, world_after, heap_after, launch_of, lost_pairs, active_checks, own_events}
use Rattle.st_events.proofs.AmongLemmas.{or_cases, or_first, same_number, among_passing, passing_are_rising}
use Rattle.st_events.proofs.ExtendsLemmas.{heap_extends, launch_stays, lost_stays}
use Rattle.st_events.proofs.LegalEvents.{is_below}
use Rattle.st_events.proofs.LegalLemmas.{empty_is_legal, one_more_is_legal}
use Rattle.st_events.proofs.SoundLemmas.{legal_is_sound}
use Rattle.st_events.proofs.WorldLemmas.{world_after_one_more, at_same, at_other}
use Rattle.st_resolved.specs.Terms.{Program}
use Rattle.st_resolved.specs.WellFormed.{IsWellFormed}
use Rattle.st_thread_meaning.specs.Deeds.{Request, make, load, store, cas, launch, Deed, ends, asks}
use Rattle.st_thread_meaning.specs.Laws.{replies_of}
use Rattle.st_thread_meaning.specs.Threads.{Turn, asks_for, has_ended, turn_of as first_of, deed_after, thread_deed, next_request, reply_of, LeadTo}
use Rattle.st_thread_meaning.specs.Typed.{GoesOn, IsTyped, IsRightRequest, IsRightReply}
use Rattle.st_thread_meaning.proofs.FollowLemmas.{after_both, events_lead_by_replies}
use Rattle.st_thread_meaning.proofs.TypedJournals.{deed_stays}
use Rattle.st_thread_meaning.proofs.TypedStatements.{thread_is_typed}
use Rattle.st_run_meaning.specs.States.{State, first_state, Progress}
use Rattle.st_run_meaning.specs.Agents.{request_of, cells_of, cell_asked, has_finished, finished_checks, can_launch, can_turn, Agent, mutator, check}
use Rattle.st_run_meaning.specs.Steps.{event_of, retires, retired_for, turn_events, progress_after, turn_of}
use Rattle.st_run_meaning.specs.SoundStates.{deed_of, IsSoundProgress, IsSoundState}
use Rattle.st_run_meaning.proofs.AgentLemmas.{IsReady}
use Rattle.st_run_meaning.proofs.EventLemmas.{HasRoomFor, event_is_legal, event_after_retires, reply_fits, room_for_new}
use Rattle.st_run_meaning.proofs.OwnLemmas.{own_after_turn, others_after_turn, turn_leads}
use Rattle.st_run_meaning.proofs.ProgressLemmas.{progress_stays, read_keeps_progress}
use Rattle.st_run_meaning.proofs.RetiresLemmas.{removed, with_retired, world_after_retires, retires_are_legal, removed_are_no_more, removed_are_fewer}

-- ---- requests

-- what a thread asks for comes first of what is left of its code
first_is_asked : (p : Program) (sizes : Sizes) (s : State) (m : ℕ) (request : Request) → request_of p sizes s m ≡ asks_for request
    → first_of (deed_of p sizes s m) ≡ asks_for request
unfolding next_request
first_is_asked p sizes s m request e = e

-- what a typed deed asks for is right
asked_fits :
    (shape : ShapeLists) (heap : Heap) (deed : Deed) (request : Request)
    → IsTyped shape deed heap
    → first_of deed ≡ asks_for request
    → IsRightRequest shape heap request
asked_fits shape heap (ends end) request h e = absurd (cc)
asked_fits shape heap (asks r rest) request h e = let same : r ≡ request = cc in subst (IsRightRequest shape heap) same h.0

-- after a reply that fits a later heap, what is left is typed on that
replied_is_typed :
    (shape : ShapeLists) (heap later : Heap) (deed : Deed) (request : Request) (reply : ℕ)
    → IsTyped shape deed heap
    → first_of deed ≡ asks_for request
    → GoesOn shape heap later
    → IsRightReply shape later request reply
    → IsTyped shape (deed_after (reply ∷ []) deed) later
replied_is_typed shape heap later (ends end) request reply h e l fits = absurd (cc)
replied_is_typed shape heap later (asks r rest) request reply h e l fits =
    let same : r ≡ request = cc in h.1 later l reply (subst (λ (x : Request). IsRightReply shape later x reply) (sym same) fits)

-- the checks that are retired for a request are active, in order
retired_are_active :
    (shape : ShapeLists) (p : Program) (sizes : Sizes) (s : State) (request : Request) (k : ℕ)
    → is_among (retired_for request (finished_checks shape p sizes s)) k ≡ true
    → is_among (active_checks shape sizes s.journal) k ≡ true
retired_are_active shape p sizes s (make class) k h = cc
retired_are_active shape p sizes s (load obj field) k h = cc
retired_are_active shape p sizes s (store obj field value) k h = cc
retired_are_active shape p sizes s (cas obj field expect value) k h = cc
retired_are_active shape p sizes s (launch site args) k h = (among_passing (has_finished shape p sizes s) (active_checks shape sizes s.journal) k h).0

retired_are_rising :
    (shape : ShapeLists) (p : Program) (sizes : Sizes) (s : State) (request : Request)
    → IsRising (active_checks shape sizes s.journal)
    → IsRising (retired_for request (finished_checks shape p sizes s))
retired_are_rising shape p sizes s (make class) h = tt
retired_are_rising shape p sizes s (load obj field) h = tt
retired_are_rising shape p sizes s (store obj field value) h = tt
retired_are_rising shape p sizes s (cas obj field expect value) h = tt
retired_are_rising shape p sizes s (launch site args) h = passing_are_rising (has_finished shape p sizes s) (active_checks shape sizes s.journal) h

-- where a check can be launched, a lane is idle once the finished checks are retired
lane_is_idle :
    (active finished : List ℕ) (lanes : ℕ)
    → length active ≤ lanes
    → ((k : ℕ) → is_among finished k ≡ true → is_among active k ≡ true)
    → (nat_lt (length active) lanes || nat_lt 0 (length finished)) ≡ true
    → length (removed finished active) < lanes
lane_is_idle active finished lanes few h room = by finished h (or_cases (nat_lt (length active) lanes) (nat_lt 0 (length finished)) room)
  where
    by : (ns : List ℕ) → ((k : ℕ) → is_among ns k ≡ true → is_among active k ≡ true) → ((nat_lt (length active) lanes ≡ true) ⊎ (nat_lt 0 (length ns) ≡ true))
        → length (removed ns active) < lanes
    by ns k (inl idle) = omega (arith, removed_are_no_more ns active, is_below (length active) lanes idle)
    by [] k (inr some) = absurd (cc)
    by (n ∷ ns) k (inr some) = omega (arith, few, removed_are_fewer n ns active (k n (or_first (n == n) (is_among ns n) (same_number n))))

-- a turn of a mutator, which asks for this
pub record IsTurn (shape : ShapeLists) (p : Program) (sizes : Sizes) (s : State) (m : ℕ) (request : Request) : Type 0 where
  pub sound : IsSoundState shape p sizes s
  pub asked : request_of p sizes s m ≡ asks_for request
  pub thread : m < sizes.mutators
  pub can : can_turn (asks_for request) (can_launch shape p sizes s) ≡ true

-- there is room for its event, once checks are retired for it
has_room :
    (shape : ShapeLists) (p : Program)
    → IsWellFormed shape p
    → (sizes : Sizes) (s : State) (m : ℕ) (request : Request)
    → IsTurn shape p sizes s m request
    → HasRoomFor sizes (with_retired (world_after shape sizes s.journal) (retired_for request (finished_checks shape p sizes s))) m request
has_room shape p formed sizes s m (make class) t =
    let obj = next_object sizes (world_after shape sizes s.journal) m in
    room_for_new shape p sizes s.journal m obj class (request_of p sizes (turn_of shape p sizes s (mutator m)) m)
    (subst (λ (es : List Event). LeadTo p sizes m es (request_of p sizes (turn_of shape p sizes s (mutator m)) m)) (own_after_turn shape p sizes s m (make class) t.asked)
    (turn_leads shape p sizes s (mutator m) t.sound.led m))
has_room shape p formed sizes s m (load obj field) t = tt
has_room shape p formed sizes s m (store obj field value) t = tt
has_room shape p formed sizes s m (cas obj field expect value) t = tt
has_room shape p formed sizes s m (launch site args) t =
    let sound : IsSoundWorld shape sizes (world_after shape sizes s.journal) = legal_is_sound shape sizes formed.shape_fits s.journal t.sound.legal in
    lane_is_idle (active_checks shape sizes s.journal) (finished_checks shape p sizes s) sizes.lanes sound.active.lanes
    (λ k h. retired_are_active shape p sizes s (launch site args) k h) t.can

-- what a turn of a mutator makes: its events are legal, and the reply of the last one fits
record Performed (shape : ShapeLists) (p : Program) (sizes : Sizes) (s : State) (m : ℕ) (request : Request) : Type 0 where
  legal : IsLegal shape sizes (turn_of shape p sizes s (mutator m)).journal
  fits :
      IsRightReply shape (heap_after shape sizes (turn_of shape p sizes s (mutator m)).journal) request
      (reply_of (event_of sizes (world_after shape sizes s.journal) m request))

performed :
    (shape : ShapeLists) (p : Program)
    → IsWellFormed shape p
    → (sizes : Sizes) (s : State) (m : ℕ) (request : Request)
    → IsTurn shape p sizes s m request
    → Performed shape p sizes s m request
performed shape p formed sizes s m request t =
    let sound : IsSoundWorld shape sizes w = legal_is_sound shape sizes formed.shape_fits s.journal t.sound.legal in
    let fits : IsRightRequest shape w.heap request = asked_fits shape w.heap (deed_of p sizes s m) request (t.sound.typed m) asked in
    let before : IsLegal shape sizes middle =
    retires_are_legal shape sizes s.journal m gone t.sound.legal (omega (arith, t.thread)) (retired_are_rising shape p sizes s request sound.active.rising)
    (λ k h. retired_are_active shape p sizes s request k h) in
    let one : IsLegalNext shape sizes (with_retired w gone) (event_of sizes (with_retired w gone) m request) =
    event_is_legal shape sizes (with_retired w gone) m request t.thread fits (has_room shape p formed sizes s m request t) in
    let next_is : IsLegalNext shape sizes (world_after shape sizes middle) event =
    subst (λ (v : World). IsLegalNext shape sizes v event) (sym (world_after_retires shape sizes s.journal m gone))
    (subst (IsLegalNext shape sizes (with_retired w gone)) (event_after_retires sizes w gone m request) one) in
    let reply : IsRightReply shape (next shape sizes (with_retired w gone) event).heap request (reply_of event) =
    subst (λ (e : Event). IsRightReply shape (next shape sizes (with_retired w gone) e).heap request (reply_of e)) (event_after_retires sizes w gone m request)
    (reply_fits shape sizes (with_retired w gone) m request sound.typed fits) in
    record {
      legal = subst (IsLegal shape sizes) (sym whole) (one_more_is_legal shape sizes middle event before next_is);
      fits = subst (λ (v : World). IsRightReply shape v.heap request (reply_of event)) (sym after) reply;
    }
  where
    w : World
    w = world_after shape sizes s.journal

    gone : List ℕ
    gone = retired_for request (finished_checks shape p sizes s)

    event : Event
    event = event_of sizes w m request

    middle : List Event
    middle = s.journal ++ retires m gone

    asked : first_of (deed_of p sizes s m) ≡ asks_for request
    asked = first_is_asked p sizes s m request t.asked

    whole : (turn_of shape p sizes s (mutator m)).journal ≡ middle ++ event ∷ []
    whole = ap (λ (r : Turn). s.journal ++ turn_events shape p sizes s m r) t.asked ∙ sym (append_assoc s.journal (retires m gone) (event ∷ []))

    after : world_after shape sizes (turn_of shape p sizes s (mutator m)).journal ≡ next shape sizes (with_retired w gone) event
    after =
        ap (world_after shape sizes) whole ∙ world_after_one_more shape sizes middle event
        ∙ ap (λ (v : World). next shape sizes v event) (world_after_retires shape sizes s.journal m gone)

-- ---- states

-- before the first turn the journal is empty, each thread stands at its beginning, and no check has come anywhere
pub first_is_sound :
    (shape : ShapeLists) (p : Program)
    → IsWellFormed shape p
    → (sizes : Sizes) (seed : ℕ)
    → IsSoundState shape p sizes (first_state seed)
first_is_sound shape p formed sizes seed = record {
  legal = empty_is_legal shape sizes;
  led = λ thread. events_lead_by_replies.first p sizes thread;
  typed = λ thread.
      thread_is_typed shape p formed sizes.objects sizes.events thread (heap_after shape sizes [])
      (legal_is_sound shape sizes formed.shape_fits [] (empty_is_legal shape sizes)).typed;
  progress = λ n. omega arith;
}

mutator_keeps_sound :
    (shape : ShapeLists) (p : Program)
    → IsWellFormed shape p
    → (sizes : Sizes) (s : State) (m : ℕ) (request : Request)
    → IsTurn shape p sizes s m request
    → IsSoundState shape p sizes (turn_of shape p sizes s (mutator m))
mutator_keeps_sound shape p formed sizes s m request t = record {
  legal = done.legal;
  led = turn_leads shape p sizes s (mutator m) t.sound.led;
  typed = λ thread. elim (eqb_tells thread m) [
    | inl same ↦ subst (λ (k : ℕ). IsTyped shape (deed_of p sizes later k) (heap_after shape sizes later.journal)) (sym same.1) mine
    | inr differ ↦ others thread differ.1
  ];
  progress = λ n.
      progress_stays p sizes (launch_of shape sizes s.journal n) (launch_of shape sizes later.journal n) (λ obj. is_lost (lost_pairs shape sizes s.journal) obj n)
      (λ obj. is_lost (lost_pairs shape sizes later.journal) obj n) (s.progress n)
      (λ l known. launch_stays shape sizes formed.shape_fits s.journal added n l done.legal known)
      (λ obj gone. lost_stays shape sizes s.journal added obj n gone) (t.sound.progress n);
}
  where
    later : State
    later = turn_of shape p sizes s (mutator m)

    done : Performed shape p sizes s m request
    done = performed shape p formed sizes s m request t

    added : List Event
    added = turn_events shape p sizes s m (request_of p sizes s m)

    later_heap : GoesOn shape (heap_after shape sizes s.journal) (heap_after shape sizes later.journal)
    later_heap = record {
      extends = heap_extends shape sizes formed.shape_fits s.journal added done.legal;
      typed = (legal_is_sound shape sizes formed.shape_fits later.journal done.legal).typed;
    }

    asked : first_of (deed_of p sizes s m) ≡ asks_for request
    asked = first_is_asked p sizes s m request t.asked

    mine : IsTyped shape (deed_of p sizes later m) (heap_after shape sizes later.journal)
    mine =
        let event = event_of sizes (world_after shape sizes s.journal) m request in
        let own = own_events m s.journal in
        let replies : replies_of (own_events m later.journal) ≡ replies_of own ++ reply_of event ∷ [] =
        ap replies_of (own_after_turn shape p sizes s m request t.asked) ∙ map-append reply_of own (event ∷ []) in
        let left : deed_of p sizes later m ≡ deed_after (reply_of event ∷ []) (deed_of p sizes s m) =
        ap (λ (rs : List ℕ). deed_after rs (thread_deed p sizes.objects sizes.events m)) replies
        ∙ after_both (replies_of own) (reply_of event ∷ []) (thread_deed p sizes.objects sizes.events m) in
        subst (λ (d : Deed). IsTyped shape d (heap_after shape sizes later.journal)) (sym left)
        (replied_is_typed shape (heap_after shape sizes s.journal) (heap_after shape sizes later.journal) (deed_of p sizes s m) request (reply_of event) (t.sound.typed m) asked
        later_heap done.fits)

    others : (thread : ℕ) → thread ≢ m → IsTyped shape (deed_of p sizes later thread) (heap_after shape sizes later.journal)
    others thread differ =
        let left : deed_of p sizes later thread ≡ deed_of p sizes s thread =
        ap (λ (es : List Event). deed_after (replies_of es) (thread_deed p sizes.objects sizes.events thread)) (others_after_turn shape p sizes s m thread differ) in
        subst (λ (d : Deed). IsTyped shape d (heap_after shape sizes later.journal)) (sym left)
        (deed_stays shape (heap_after shape sizes s.journal) (heap_after shape sizes later.journal) (deed_of p sizes s thread) later_heap (t.sound.typed thread))

-- a check has come as far as is said in the journal of a state
abbrev ComesSoFar : ShapeLists → Program → Sizes → State → ℕ → Progress → Type 0
ComesSoFar shape p sizes s k q = IsSoundProgress (cells_of p sizes (launch_of shape sizes s.journal k)) (λ obj. is_lost (lost_pairs shape sizes s.journal) obj k) q

check_keeps_sound :
    (shape : ShapeLists) (p : Program) (sizes : Sizes) (s : State) (n : ℕ)
    → IsSoundState shape p sizes s
    → IsSoundState shape p sizes (turn_of shape p sizes s (check n))
check_keeps_sound shape p sizes s n h = record {
  legal = h.legal;
  led = h.led;
  typed = h.typed;
  progress = λ k. elim (eqb_tells k n) [
    | inl same ↦ subst (λ (j : ℕ). ComesSoFar shape p sizes s j (at n read s.progress j)) (sym same.1) here
    | inr differ ↦ there k differ.1
  ];
}
  where
    read : Progress
    read = progress_after (s.progress n) (cell_asked shape p sizes s n) (λ obj. is_lost (lost_pairs shape sizes s.journal) obj n)

    here : ComesSoFar shape p sizes s n (at n read s.progress n)
    here =
        subst (ComesSoFar shape p sizes s n) (sym (at_same n read s.progress))
        (read_keeps_progress (cells_of p sizes (launch_of shape sizes s.journal n)) (λ obj. is_lost (lost_pairs shape sizes s.journal) obj n) (s.progress n) (h.progress n))

    there : (k : ℕ) → k ≢ n → ComesSoFar shape p sizes s k (at n read s.progress k)
    there k differ = subst (ComesSoFar shape p sizes s k) (sym (at_other n read s.progress k differ)) (h.progress k)

-- a turn of an agent keeps the state sound
pub turn_keeps_sound :
    (shape : ShapeLists) (p : Program)
    → IsWellFormed shape p
    → (sizes : Sizes) (s : State) (a : Agent)
    → IsSoundState shape p sizes s
    → IsReady shape p sizes s a
    → IsSoundState shape p sizes (turn_of shape p sizes s a)
turn_keeps_sound shape p formed sizes s (check n) h ready = check_keeps_sound shape p sizes s n h
turn_keeps_sound shape p formed sizes s (mutator m) h ready = by (request_of p sizes s m) refl ready.1
  where
    by : (t : Turn) → request_of p sizes s m ≡ t → can_turn t (can_launch shape p sizes s) ≡ true → IsSoundState shape p sizes (turn_of shape p sizes s (mutator m))
    by (has_ended end) e can = absurd (cc)
    by (asks_for request) e can = mutator_keeps_sound shape p formed sizes s m request (record { sound = h; asked = e; thread = ready.0; can = can })
