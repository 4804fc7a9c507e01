-- What is left of a scheduled run has a journal text: its arguments are used as a text tells them, and its events and verdicts are few.
use Rattle.std.proofs.Common.{◌≡◌, ℕ, ◌*◌, ◌<◌, ◌≤◌, ◌==◌, ◌&&◌, ◌^◌, true, List, [], ◌∷◌, length, drop, Option, Some, None, slice_get, refl, sym, subst, arith}
use Rattle.std.proofs.Common.{length-append}
use Rattle.std.specs.List.{All, list_all}
use Rattle.std.proofs.lemmas.List.{length-map}
use Rattle.std.proofs.lemmas.List.Elements.{All-get_or, All-cons}
use Rattle.std.proofs.lemmas.List.FromFn.{length-map-range_with_len}
use Rattle.std.proofs.lemmas.Option.{slice_get_within, get_or_from_slice_get}
use Rattle.st_events.specs.declared.shapes.TheConstants.{MOST_ARGS}
use Rattle.st_events.specs.Kind.{AreKindsWithin}
use Rattle.st_events.specs.Legal.{have_kinds}
use Rattle.st_events.specs.declared.events.Args.{Args}
use Rattle.st_events.specs.declared.events.Event.{Event}
use Rattle.st_events.specs.declared.shapes.Kind.{Kind}
use Rattle.st_events.specs.declared.limits.Sizes.{Sizes}
use Rattle.st_events.specs.declared.events.Event.TheVariants.{New, Load, Store, Cas, Launch, Retire}
use Rattle.st_events.specs.Terms.{Heap, ShapeLists, IsWithinLimits, World, RanLists, AreWithinLimits}
use Rattle.st_events.specs.Terms.{IsLegal, IsLegalNext, IsLegalFrom, next, first_world, args_fit, active_checks, epoch_of, launch_of}
use Rattle.st_events.proofs.KeptLemmas.{and_parts}
use Rattle.st_events.proofs.LegalEvents.{is_same, legal_launch}
use Rattle.st_journal.specs.Format.{HasUsedArgs, HasUsedWords}
use Rattle.st_resolved.specs.Terms.{Program}
use Rattle.st_resolved.specs.WellFormed.{IsWellFormed}
use Rattle.st_run_meaning.specs.Runs.{ComesTo, is_over, by_turn, verdict_of, ran_of, scheduled_run}
use Rattle.st_run_meaning.specs.SoundStates.{IsSoundState}
use Rattle.st_run_meaning.specs.States.{State, first_state}
use Rattle.st_run_meaning.specs.Steps.{retires, turn_of}
use Rattle.st_run_meaning.proofs.AgentLemmas.{chosen_is_ready}
use Rattle.st_run_meaning.proofs.EndLemmas.{runs_come_to_one_end}
use Rattle.st_run_meaning.proofs.RoomLemmas.{sound_state_has_room}
use Rattle.st_run_meaning.proofs.SoundLemmas.{first_is_sound, turn_keeps_sound}

-- ---- arguments

-- the kinds of the arguments of a check statement are few
kinds_are_few : (shape : ShapeLists) → IsWithinLimits shape → (site : ℕ) (kinds : List Kind) → slice_get shape.checks site ≡ Some kinds → length kinds ≤ MOST_ARGS
kinds_are_few shape fits site kinds is =
    let within : site < length shape.checks = slice_get_within shape.checks site kinds is in
    let there = All-get_or (AreKindsWithin MOST_ARGS (length shape.classes)) shape.checks site kinds within fits.arguments in
    subst (λ (found : List Kind). length found ≤ MOST_ARGS) (get_or_from_slice_get shape.checks site kinds kinds is) there.0

-- arguments that fit a check statement are used as a text tells them
fitting_words_are_used :
    (heap : Heap) (kinds : Option (List Kind)) (args : Args)
    → ((some : List Kind) → kinds ≡ Some some → length some ≤ MOST_ARGS)
    → args_fit heap kinds args ≡ true
    → HasUsedWords args
fitting_words_are_used heap None args few fit = cc
fitting_words_are_used heap (Some kinds) args few fit =
    let count = and_parts (args.count == length kinds) (have_kinds heap kinds args.words && list_all (λ word. word == 0) (drop args.count args.words)) fit in
    let rest = and_parts (have_kinds heap kinds args.words) (list_all (λ word. word == 0) (drop args.count args.words)) count.1 in
    let same : args.count ≡ length kinds = is_same args.count (length kinds) count.0 in
    let most : length kinds ≤ MOST_ARGS = few kinds refl in
    record { count = omega (arith, same, most); unused = rest.1 }

legal_event_has_used_args : (shape : ShapeLists) (sizes : Sizes) → IsWithinLimits shape → (w : World) (e : Event) → IsLegalNext shape sizes w e → HasUsedArgs e
legal_event_has_used_args shape sizes fits w (New m obj class) legal = tt
legal_event_has_used_args shape sizes fits w (Load m obj field value) legal = tt
legal_event_has_used_args shape sizes fits w (Store m obj field value) legal = tt
legal_event_has_used_args shape sizes fits w (Cas m obj field expect value done) legal = tt
legal_event_has_used_args shape sizes fits w (Launch m site number args) legal =
    fitting_words_are_used w.heap (slice_get shape.checks site) args (λ kinds is. kinds_are_few shape fits site kinds is)
    (legal_launch shape sizes w m number site args legal).arguments
legal_event_has_used_args shape sizes fits w (Retire m number) legal = tt

legal_events_have_used_args : (shape : ShapeLists) (sizes : Sizes) → IsWithinLimits shape → (w : World) (es : List Event) → IsLegalFrom shape sizes w es → All HasUsedArgs es
legal_events_have_used_args shape sizes fits w [] legal = λ k d below. absurd (omega (arith, below))
legal_events_have_used_args shape sizes fits w (e ∷ es) legal =
    All-cons HasUsedArgs e es (legal_event_has_used_args shape sizes fits w e legal.0) (legal_events_have_used_args shape sizes fits (next shape sizes w e) es legal.1)

-- the launches of a legal journal use no more words than they count, so its text tells them
pub legal_journal_has_used_args : (shape : ShapeLists) (sizes : Sizes) (es : List Event) → IsWithinLimits shape → IsLegal shape sizes es → All HasUsedArgs es
unfolding IsLegal
legal_journal_has_used_args shape sizes es fits legal = legal_events_have_used_args shape sizes fits (first_world shape) es legal

-- ---- counts

-- each state that a run comes to is sound
comes_to_sound :
    (shape : ShapeLists) (p : Program)
    → IsWellFormed shape p
    → (sizes : Sizes) (s end : State)
    → ComesTo shape p sizes s end
    → IsSoundState shape p sizes s
    → IsSoundState shape p sizes end
comes_to_sound shape p formed sizes s end (is_over t none) h = h
comes_to_sound shape p formed sizes s end (by_turn t u a some more) h =
    comes_to_sound shape p formed sizes (turn_of shape p sizes t a) end more (turn_keeps_sound shape p formed sizes t a h (chosen_is_ready shape p sizes t a some))

-- there are few events and few verdicts
pub record IsShort (ran : RanLists) : Type 0 where
  pub events : length ran.journal < 2 ^ 32
  pub verdicts : length ran.verdicts < 2 ^ 32

-- at most 8 mutators have at most 1,048,576 events each
most_room : (mutators events : ℕ) → mutators ≤ 8 → events ≤ 1048576 → mutators * events ≤ 8388608
most_room mutators events few short = grind arith

sound_end_is_short : (shape : ShapeLists) (p : Program) (sizes : Sizes) (s : State) → AreWithinLimits sizes → IsSoundState shape p sizes s → IsShort (ran_of shape p sizes s)
sound_end_is_short shape p sizes s limits sound =
    let room = sound_state_has_room shape p sizes s sound in
    let most : sizes.mutators * sizes.events ≤ 8388608 = most_room sizes.mutators sizes.events limits.mutators limits.events.1 in
    let ended : length (retires sizes.mutators (active_checks shape sizes s.journal)) ≡ length (active_checks shape sizes s.journal) =
    length-map (active_checks shape sizes s.journal) (λ (n : ℕ). Retire sizes.mutators n) in
    let joined = length-append s.journal (retires sizes.mutators (active_checks shape sizes s.journal)) in
    let told : length (ran_of shape p sizes s).verdicts ≡ epoch_of shape sizes s.journal =
    length-map-range_with_len (λ (n : ℕ). verdict_of p sizes (launch_of shape sizes s.journal n) (s.progress n)) 1 (epoch_of shape sizes s.journal) in
    record {
      events = let events = room.events in omega (arith, events, most, ended, joined);
      verdicts = let checks = room.checks in omega (arith, checks, most, told);
    }

-- a scheduled run has fewer events, and fewer verdicts, than 2^32: its journal has a text
pub scheduled_run_is_short :
    (shape : ShapeLists) (p : Program) (sizes : Sizes) (seed : ℕ)
    → IsWellFormed shape p
    → AreWithinLimits sizes
    → IsShort (scheduled_run shape p sizes seed)
scheduled_run_is_short shape p sizes seed formed limits =
    let end = runs_come_to_one_end.some shape p sizes seed in
    subst IsShort (sym (runs_come_to_one_end.run shape p sizes seed end.0 end.1))
    (sound_end_is_short shape p sizes end.0 limits
    (comes_to_sound shape p formed sizes (first_state seed) end.0 end.1 (first_is_sound shape p formed sizes seed)))
