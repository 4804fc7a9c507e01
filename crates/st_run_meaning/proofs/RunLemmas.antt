-- What a scheduled run of a well-formed program leaves is right
use Rattle.std.proofs.Common.{◌≡◌, ℕ, ◌+◌, ◌<◌, ◌≤◌, ◌==◌, ◌||◌, nat_lt, Bool, true, false, not, List, [], ◌∷◌, length, map, filter, slice_get, get_or}
use Rattle.std.proofs.Common.{Option, Some, None, refl, sym, ◌∙◌, ap, subst, arith}
use Rattle.std.specs.List.{range_with_len}
use Rattle.std.proofs.lemmas.List.Elements.{All-from_get_or}
use Rattle.std.proofs.lemmas.List.FromFn.{length-map-range_with_len, get_or-map-range_with_len}
use Rattle.std.proofs.lemmas.Option.{slice_get_within, get_or_from_slice_get, slice_get-get_or}
use Rattle.st_events.specs.declared.events.Event.{Event}
use Rattle.st_events.specs.declared.limits.Sizes.{Sizes}
use Rattle.st_events.specs.declared.verdicts.End.{End}
use Rattle.st_events.specs.declared.verdicts.Verdict.{Verdict}
use Rattle.st_events.specs.declared.verdicts.Verdict.TheVariants.{Abandoned}
use Rattle.st_events.specs.Judge.{IsRightOfLaunch}
use Rattle.st_events.specs.Legal.{IsLegal}
use Rattle.st_events.specs.Sizes.{AreWithinLimits}
use Rattle.st_events.specs.Sound.{IsSoundWorld}
use Rattle.st_events.specs.Terms.{ShapeLists, World, Launched, RanLists, is_among, is_lost, world_after, launch_of, active_checks, kept_rows, epoch_of, own_events}
use Rattle.st_events.proofs.AmongLemmas.{or_first, or_second, same_number, passing_is_among}
use Rattle.st_events.proofs.LegalEvents.{below_holds}
use Rattle.st_events.proofs.SoundLemmas.{legal_is_sound}
use Rattle.st_resolved.specs.Terms.{Program}
use Rattle.st_resolved.specs.WellFormed.{IsWellFormed}
use Rattle.st_thread_meaning.specs.Deeds.{Request, make, load, store, cas, launch}
use Rattle.st_thread_meaning.specs.Right.{IsRightOf, IsRightVerdict, IsPlain, IsRightRun}
use Rattle.st_thread_meaning.specs.Threads.{Turn, asks_for, has_ended, LeadTo, Follows}
use Rattle.st_thread_meaning.proofs.RightLemmas.{copies_abandon_nothing}
use Rattle.st_run_meaning.specs.States.{Progress, has_read, abandoned_at, State, first_state}
use Rattle.st_run_meaning.specs.Agents.{request_of, cells_of, has_finished, can_launch, can_turn, next_agent}
use Rattle.st_run_meaning.specs.Steps.{retires, turn_of}
use Rattle.st_run_meaning.specs.Runs.{ComesTo, is_over, by_turn, verdict_of, end_of, whole_journal, ran_of, scheduled_run}
use Rattle.st_run_meaning.specs.SoundStates.{IsSoundProgress, IsSoundState}
use Rattle.st_run_meaning.proofs.AgentLemmas.{range_has, chosen_is_ready, none_is_ready}
use Rattle.st_run_meaning.proofs.EndLemmas.{runs_come_to_one_end}
use Rattle.st_run_meaning.proofs.OwnLemmas.{retires_are_not_own, own_after_others}
use Rattle.st_run_meaning.proofs.RetiresLemmas.{with_retired, world_after_retires, retires_are_legal, all_removed}
use Rattle.st_run_meaning.proofs.SoundLemmas.{first_is_sound, turn_keeps_sound}

-- ---- the state at the end

-- a state at which no agent is left
record IsAtEnd (shape : ShapeLists) (p : Program) (sizes : Sizes) (s : State) : Type 0 where
  sound : IsSoundState shape p sizes s
  nobody : next_agent shape p sizes s ≡ None

comes_to_sound :
    (shape : ShapeLists) (p : Program)
    → IsWellFormed shape p
    → (sizes : Sizes) (s end : State)
    → ComesTo shape p sizes s end
    → IsSoundState shape p sizes s
    → IsAtEnd shape p sizes end
comes_to_sound shape p formed sizes s end (is_over t none) h = record { sound = h; nobody = none }
comes_to_sound shape p formed sizes s end (by_turn t u a some more) h =
    comes_to_sound shape p formed sizes (turn_of shape p sizes t a) end more (turn_keeps_sound shape p formed sizes t a h (chosen_is_ready shape p sizes t a some))

-- what is among the numbers that pass is none where there are none
none_pass : (test : ℕ → Bool) (ns : List ℕ) → filter test ns ≡ [] → (k : ℕ) → is_among ns k ≡ true → test k ≡ false
none_pass test ns none k there = by (test k) refl
  where
    by : (b : Bool) → test k ≡ b → test k ≡ false
    by true e =
        let passes : is_among (filter test ns) k ≡ true = passing_is_among test ns k there e in
        let f : false ≡ true = subst (λ (ks : List ℕ). is_among ks k ≡ true) none passes in cc
    by false e = e

some_among : (ns : List ℕ) (k : ℕ) → is_among ns k ≡ true → nat_lt 0 (length ns) ≡ true
some_among [] k h = cc
some_among (n ∷ ns) k h = below_holds 0 (length (n ∷ ns)) (omega arith)

not_not : (b : Bool) → not b ≡ false → b ≡ true
not_not true h = refl
not_not false h = cc

-- where each active check has finished, one more can be launched
room_at_end : (finished : ℕ → Bool) (active : List ℕ) (lanes : ℕ) → 1 ≤ lanes → filter (λ n. not (finished n)) active ≡ []
    → (nat_lt (length active) lanes || nat_lt 0 (length (filter finished active))) ≡ true
room_at_end finished [] lanes some none = or_first (nat_lt 0 lanes) (nat_lt 0 0) (below_holds 0 lanes (omega (arith, some)))
room_at_end finished (n ∷ ns) lanes some none =
    let here : is_among (n ∷ ns) n ≡ true = or_first (n == n) (is_among ns n) (same_number n) in
    let done : finished n ≡ true = not_not (finished n) (none_pass (λ k. not (finished k)) (n ∷ ns) none n here) in
    or_second (nat_lt (length (n ∷ ns)) lanes) (nat_lt 0 (length (filter finished (n ∷ ns))))
    (some_among (filter finished (n ∷ ns)) n (passing_is_among finished (n ∷ ns) n here done))

-- who asks for something can take a turn where there is room
asks_can : (request : Request) (room : Bool) → room ≡ true → can_turn (asks_for request) room ≡ true
asks_can (make class) room h = refl
asks_can (load obj field) room h = refl
asks_can (store obj field value) room h = refl
asks_can (cas obj field expect value) room h = refl
asks_can (launch site args) room h = h

-- at the end each mutator has ended
each_has_ended :
    (shape : ShapeLists) (p : Program) (sizes : Sizes) (s : State)
    → AreWithinLimits sizes
    → next_agent shape p sizes s ≡ None
    → (m : ℕ)
    → m < sizes.mutators
    → (end : End) × (request_of p sizes s m ≡ has_ended end)
each_has_ended shape p sizes s limits nobody m few = by (request_of p sizes s m) refl
  where
    room : can_launch shape p sizes s ≡ true
    room = room_at_end (has_finished shape p sizes s) (active_checks shape sizes s.journal) sizes.lanes limits.lanes.0 (none_is_ready shape p sizes s nobody).1

    cannot : can_turn (request_of p sizes s m) (can_launch shape p sizes s) ≡ false
    cannot =
        none_pass (λ k. can_turn (request_of p sizes s k) (can_launch shape p sizes s)) (range_with_len 0 sizes.mutators) (none_is_ready shape p sizes s nobody).0 m
        (range_has 0 sizes.mutators m (omega arith) (omega (arith, few)))

    by : (t : Turn) → request_of p sizes s m ≡ t → (end : End) × (request_of p sizes s m ≡ has_ended end)
    by (has_ended end) e = (end, e)
    by (asks_for request) e =
        let can : can_turn (request_of p sizes s m) (can_launch shape p sizes s) ≡ true = rw e (asks_can request (can_launch shape p sizes s) room) in
        let f : true ≡ false = sym can ∙ cannot in absurd (cc)

-- ---- verdicts

verdict_is_right :
    (p : Program) (sizes : Sizes) (launched : Launched) (lost : ℕ → Bool) (q : Progress)
    → IsSoundProgress (cells_of p sizes (Some launched)) lost q
    → IsRightOf p sizes launched lost (verdict_of p sizes (Some launched) q)
verdict_is_right p sizes launched lost (has_read k) h = refl
verdict_is_right p sizes launched lost (abandoned_at obj) h = h

-- ---- what is left

-- an element of the images of a range
image_of_range : {A : Type 0} (f : ℕ → A) (a n i j : ℕ) (x : A) → a + i ≡ j → slice_get (map f (range_with_len a n)) i ≡ Some x → (i < n) × (x ≡ f j)
image_of_range f a n i j x sum e =
    let within : i < length (map f (range_with_len a n)) = slice_get_within (map f (range_with_len a n)) i x e in
    let few : i < n = omega (arith, within, length-map-range_with_len f a n) in
    (few, sym (get_or_from_slice_get (map f (range_with_len a n)) i x x e) ∙ get_or-map-range_with_len f a n i j x few sum)

-- the whole journal of a state at the end
record IsWhole (shape : ShapeLists) (sizes : Sizes) (s : State) : Type 0 where
  legal : IsLegal shape sizes (whole_journal shape sizes s)
  world : world_after shape sizes (whole_journal shape sizes s) ≡ with_retired (world_after shape sizes s.journal) (active_checks shape sizes s.journal)
  active : active_checks shape sizes (whole_journal shape sizes s) ≡ []
  kept : kept_rows shape sizes (whole_journal shape sizes s) ≡ []

whole : (shape : ShapeLists) (p : Program) → IsWellFormed shape p → (sizes : Sizes) (s : State) → IsSoundState shape p sizes s → IsWhole shape sizes s
whole shape p formed sizes s h =
    let active = active_checks shape sizes s.journal in
    let sound : IsSoundWorld shape sizes (world_after shape sizes s.journal) = legal_is_sound shape sizes formed.shape_fits s.journal h.legal in
    let legal : IsLegal shape sizes (whole_journal shape sizes s) =
    retires_are_legal shape sizes s.journal sizes.mutators active h.legal (omega arith) sound.active.rising (λ k there. there) in
    let world = world_after_retires shape sizes s.journal sizes.mutators active in
    let none : active_checks shape sizes (whole_journal shape sizes s) ≡ [] = ap (λ (w : World). w.active) world ∙ all_removed active active (λ k there. there) in
    record {
      legal = legal;
      world = world;
      active = none;
      kept = (legal_is_sound shape sizes formed.shape_fits (whole_journal shape sizes s) legal).rows.none_idle none;
    }

-- the verdict of each check is right
right_verdicts :
    (shape : ShapeLists) (p : Program)
    → IsWellFormed shape p
    → (sizes : Sizes) (s : State)
    → IsSoundState shape p sizes s
    → (n : ℕ) (verdict : Verdict)
    → slice_get (ran_of shape p sizes s).verdicts n ≡ Some verdict
    → IsRightVerdict shape p sizes (whole_journal shape sizes s) (n + 1) verdict
unfolding IsRightVerdict
right_verdicts shape p formed sizes s h n verdict e =
    let is = image_of_range (λ k. verdict_of p sizes (launch_of shape sizes s.journal k) (s.progress k)) 1 (epoch_of shape sizes s.journal) n (n + 1) verdict (omega arith) e in
    let sound : IsSoundWorld shape sizes w = legal_is_sound shape sizes formed.shape_fits s.journal h.legal in
    let l = sound.launches.launched (n + 1) (omega arith) (omega (arith, is.0)) in
    let right : IsRightOf p sizes l.0 (λ obj. is_lost w.lost obj (n + 1)) (verdict_of p sizes (Some l.0) (s.progress (n + 1))) =
    verdict_is_right p sizes l.0 (λ obj. is_lost w.lost obj (n + 1)) (s.progress (n + 1))
    (subst (λ (o : Option Launched). IsSoundProgress (cells_of p sizes o) (λ obj. is_lost w.lost obj (n + 1)) (s.progress (n + 1))) l.1 (h.progress (n + 1))) in
    let told : verdict ≡ verdict_of p sizes (Some l.0) (s.progress (n + 1)) = is.1 ∙ ap (λ (o : Option Launched). verdict_of p sizes o (s.progress (n + 1))) l.1 in
    subst (λ (v : World). IsRightOfLaunch (IsRightOf p sizes) (v.launched (n + 1)) (λ obj. is_lost v.lost obj (n + 1)) verdict) (sym (whole shape p formed sizes s h).world)
    (subst (λ (o : Option Launched). IsRightOfLaunch (IsRightOf p sizes) o (λ obj. is_lost w.lost obj (n + 1)) verdict) (sym l.1)
    (subst (λ (v : Verdict). IsRightOf p sizes l.0 (λ obj. is_lost w.lost obj (n + 1)) v) (sym told) right))
  where
    w : World
    w = world_after shape sizes s.journal

-- each thread has come to its end
to_its_end :
    (shape : ShapeLists) (p : Program) (sizes : Sizes) (s : State)
    → AreWithinLimits sizes
    → IsAtEnd shape p sizes s
    → (thread : ℕ) (end : End)
    → slice_get (ran_of shape p sizes s).ends thread ≡ Some end
    → Follows p sizes thread (own_events thread (whole_journal shape sizes s)) end
unfolding Follows
to_its_end shape p sizes s limits h thread end e =
    let is = image_of_range (λ m. end_of (request_of p sizes s m)) 0 sizes.mutators thread thread end (omega arith) e in
    let ended = each_has_ended shape p sizes s limits h.nobody thread is.0 in
    let told : end ≡ ended.0 = is.1 ∙ ap end_of ended.1 in
    let own : own_events thread (whole_journal shape sizes s) ≡ own_events thread s.journal =
    own_after_others thread s.journal (retires sizes.mutators active) (retires_are_not_own thread sizes.mutators active) in
    subst (λ (x : End). LeadTo p sizes thread (own_events thread (whole_journal shape sizes s)) (has_ended x)) (sym told)
    (subst (λ (es : List Event). LeadTo p sizes thread es (has_ended ended.0)) (sym own)
    (subst (λ (t : Turn). LeadTo p sizes thread (own_events thread s.journal) t) ended.1 (h.sound.led thread)))
  where
    active : List ℕ
    active = active_checks shape sizes s.journal

-- what is left at the end is right
end_is_right :
    (shape : ShapeLists) (p : Program)
    → IsWellFormed shape p
    → (sizes : Sizes) (s : State)
    → AreWithinLimits sizes
    → sizes.mutators ≡ length p.threads
    → IsAtEnd shape p sizes s
    → IsRightRun shape p sizes (ran_of shape p sizes s)
end_is_right shape p formed sizes s limits threads h = record {
  legal = all.legal;
  one_end_each = length-map-range_with_len (λ m. end_of (request_of p sizes s m)) 0 sizes.mutators ∙ threads;
  to_its_end = to_its_end shape p sizes s limits h;
  one_verdict_each =
      length-map-range_with_len (λ n. verdict_of p sizes (launch_of shape sizes s.journal n) (s.progress n)) 1 (epoch_of shape sizes s.journal)
      ∙ sym (ap (λ (w : World). w.epoch) all.world);
  right_verdicts = λ n verdict e. right n verdict e;
  none_active = all.active;
  all_free = let none : length (kept_rows shape sizes (whole_journal shape sizes s)) ≡ 0 = ap length all.kept in omega (arith, none);
  none_abandoned = λ enough.
      All-from_get_or IsPlain ran.verdicts (Abandoned 0) (λ i within.
      copies_abandon_nothing shape p sizes formed.shape_fits ran.journal (i + 1) (get_or ran.verdicts i (Abandoned 0)) all.legal enough
      (right i (get_or ran.verdicts i (Abandoned 0)) (slice_get-get_or ran.verdicts i (Abandoned 0) within)));
}
  where
    all : IsWhole shape sizes s
    all = whole shape p formed sizes s h.sound

    ran : RanLists
    ran = ran_of shape p sizes s

    right : (n : ℕ) (verdict : Verdict) → slice_get ran.verdicts n ≡ Some verdict → IsRightVerdict shape p sizes ran.journal (n + 1) verdict
    right n verdict e = right_verdicts shape p formed sizes s h.sound n verdict e

-- the state in which a scheduled run ends is sound, so what it leaves there is right
pub scheduled_run_is_right :
    (shape : ShapeLists) (p : Program) (sizes : Sizes) (seed : ℕ)
    → IsWellFormed shape p
    → AreWithinLimits sizes
    → sizes.mutators ≡ length p.threads
    → IsRightRun shape p sizes (scheduled_run shape p sizes seed)
scheduled_run_is_right shape p sizes seed formed limits threads =
    let end = runs_come_to_one_end.some shape p sizes seed in
    subst (IsRightRun shape p sizes) (sym (runs_come_to_one_end.run shape p sizes seed end.0 end.1))
    (end_is_right shape p formed sizes end.0 limits threads (comes_to_sound shape p formed sizes (first_state seed) end.0 end.1 (first_is_sound shape p formed sizes seed)))
