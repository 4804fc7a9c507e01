-- A journal has room for all that its threads may do, and for the Retire of each check
use Rattle.std.proofs.Common.{◌≡◌, ℕ, ◌+◌, ◌*◌, ◌<◌, ◌≤◌, ◌==◌, cond, Bool, true, false, ◌⊎◌, inl, inr, List, [], ◌∷◌, ◌++◌, length, filter}
use Rattle.std.proofs.Common.{refl, sym, ◌∙◌, ap, subst}
use Rattle.std.proofs.Common.{append_assoc, append-nil, length-append, suc-mul, arith}
use Rattle.std.specs.List.{sum_by, range_with_len}
use Rattle.std.proofs.lemmas.List.Elements.{filter-append}
use Rattle.std.proofs.lemmas.List.FromFn.{length-range_with_len}
use Rattle.std.proofs.lemmas.List.Sums.{sum_by-cons}
use Rattle.st_events.specs.declared.events.Event.{Event}
use Rattle.st_events.specs.declared.events.Event.TheVariants.{New, Load, Store, Cas, Launch, Retire}
use Rattle.st_events.specs.declared.limits.Sizes.{Sizes}
use Rattle.st_events.specs.History.{is_own, is_launch}
use Rattle.st_events.specs.Legal.{IsLegalFrom, IsLegalNext}
use Rattle.st_events.specs.Terms.{ShapeLists, World, is_among, next, world_after, own_events}
use Rattle.st_events.proofs.AmongLemmas.{or_cases, same_number, same_numbers}
use Rattle.st_events.proofs.LegalEvents.{legal_new, legal_load, legal_store, legal_cas, legal_launch, legal_retire}
use Rattle.st_events.proofs.LegalLemmas.{rest_is_legal}
use Rattle.st_events.proofs.WorldLemmas.{world_after_one_more}
use Rattle.st_resolved.specs.Terms.{Program}
use Rattle.st_thread_meaning.proofs.MeansLemmas.{events_are_within_charge}
use Rattle.st_run_meaning.specs.States.{State}
use Rattle.st_run_meaning.specs.Agents.{request_of}
use Rattle.st_run_meaning.specs.SoundStates.{IsSoundState}
use Rattle.st_run_meaning.proofs.AgentLemmas.{range_has}
use Rattle.st_run_meaning.proofs.EndLemmas.{sum_stays}
use Rattle.st_run_meaning.proofs.RetiresLemmas.{without_is_less}

-- what the own events of a thread have used of its charge: a launch counts twice
abbrev used : ℕ → List Event → ℕ
used thread es = length (own_events thread es) + length (filter is_launch (own_events thread es))

-- what all threads have used
abbrev all_used : Sizes → List Event → ℕ
all_used sizes es = sum_by (λ m. used m es) (range_with_len 0 sizes.mutators)

used_joined : (thread : ℕ) (es fs : List Event) → used thread (es ++ fs) ≡ used thread es + used thread fs
used_joined thread es fs =
    let own = filter-append (is_own thread) es fs in
    let first : length (own_events thread (es ++ fs)) ≡ length (own_events thread es) + length (own_events thread fs) =
    ap length own ∙ length-append (own_events thread es) (own_events thread fs) in
    let launches : length (filter is_launch (own_events thread (es ++ fs))) ≡ length (filter is_launch (own_events thread es)) + length (filter is_launch (own_events thread fs)) =
    ap (λ (gs : List Event). length (filter is_launch gs)) own ∙ ap length (filter-append is_launch (own_events thread es) (own_events thread fs))
    ∙ length-append (filter is_launch (own_events thread es)) (filter is_launch (own_events thread fs)) in
    omega (arith, first, launches)

-- no part is less and one is more by so many, and so is the sum
sum_rises :
    (f g : ℕ → ℕ) (ns : List ℕ) (m more : ℕ)
    → ((k : ℕ) → f k ≤ g k)
    → is_among ns m ≡ true
    → f m + more ≤ g m
    → sum_by f ns + more ≤ sum_by g ns
sum_rises f g [] m more le h up = absurd (cc)
sum_rises f g (n ∷ ns) m more le h up = by (or_cases (n == m) (is_among ns m) h) (λ there. sum_rises f g ns m more le there up)
  where
    by : (((n == m) ≡ true) ⊎ (is_among ns m ≡ true)) → (is_among ns m ≡ true → sum_by f ns + more ≤ sum_by g ns) → sum_by f (n ∷ ns) + more ≤ sum_by g (n ∷ ns)
    by (inl same) others =
        let e : n ≡ m = same_numbers n m same in
        let first : f n + more ≤ g n = subst (λ (k : ℕ). f k + more ≤ g k) (sym e) up in
        omega (arith, sum_by-cons f n ns, sum_by-cons g n ns, first, sum_stays g f ns (λ k there. le k))
    by (inr there) others = omega (arith, sum_by-cons f n ns, sum_by-cons g n ns, le n, others there)

-- the events so far, one more for each active check, and two for each launch are paid for
record ArePaid (shape : ShapeLists) (sizes : Sizes) (es : List Event) : Type 0 where
  events : length es + length (world_after shape sizes es).active ≤ all_used sizes es
  launches : 2 * (world_after shape sizes es).epoch ≤ all_used sizes es

-- one event more, of a mutator, that costs so much
one_more_used : (sizes : Sizes) (es : List Event) (e : Event) (m cost : ℕ) → m < sizes.mutators → cost ≤ used m (e ∷ []) → all_used sizes es + cost ≤ all_used sizes (es ++ e ∷ [])
one_more_used sizes es e m cost few pays =
    sum_rises (λ k. used k es) (λ k. used k (es ++ e ∷ [])) (range_with_len 0 sizes.mutators) m cost (λ k. let j = used_joined k es (e ∷ []) in omega (arith, j))
    (range_has 0 sizes.mutators m (omega arith) (omega (arith, few))) (let j = used_joined m es (e ∷ []) in omega (arith, j, pays))

-- and of whomever
more_used : (sizes : Sizes) (es : List Event) (e : Event) → all_used sizes es ≤ all_used sizes (es ++ e ∷ [])
more_used sizes es e =
    sum_stays (λ k. used k (es ++ e ∷ [])) (λ k. used k es) (range_with_len 0 sizes.mutators) (λ k there. let j = used_joined k es (e ∷ []) in omega (arith, j))

-- what its own event costs a thread: 1, and a launch 2
own_cost : (m : ℕ) (e : Event) → is_own m e ≡ true → is_launch e ≡ false → 1 ≤ used m (e ∷ [])
own_cost m e own plain =
    let there : own_events m (e ∷ []) ≡ e ∷ [] = ap (λ (b : Bool). cond b (e ∷ []) []) own in
    let one : length (own_events m (e ∷ [])) ≡ 1 = ap length there in omega (arith, one)

launch_cost : (m : ℕ) (e : Event) → is_own m e ≡ true → is_launch e ≡ true → 2 ≤ used m (e ∷ [])
launch_cost m e own launches =
    let there : own_events m (e ∷ []) ≡ e ∷ [] = ap (λ (b : Bool). cond b (e ∷ []) []) own in
    let one : length (own_events m (e ∷ [])) ≡ 1 = ap length there in
    let launched : filter is_launch (e ∷ []) ≡ e ∷ [] = ap (λ (b : Bool). cond b (e ∷ []) []) launches in
    let two : length (filter is_launch (own_events m (e ∷ []))) ≡ 1 = ap (λ (gs : List Event). length (filter is_launch gs)) there ∙ ap length launched in
    omega (arith, one, two)

-- an event that launches and retires nothing
plain_is_paid :
    (shape : ShapeLists) (sizes : Sizes) (es : List Event) (e : Event) (m : ℕ)
    → ArePaid shape sizes es
    → m < sizes.mutators
    → is_own m e ≡ true
    → is_launch e ≡ false
    → (next shape sizes (world_after shape sizes es) e).active ≡ (world_after shape sizes es).active
    → (next shape sizes (world_after shape sizes es) e).epoch ≡ (world_after shape sizes es).epoch
    → ArePaid shape sizes (es ++ e ∷ [])
plain_is_paid shape sizes es e m h few own plain active epoch =
    let after = world_after_one_more shape sizes es e in
    let up = one_more_used sizes es e m 1 few (own_cost m e own plain) in
    let same : length (world_after shape sizes (es ++ e ∷ [])).active ≡ length (world_after shape sizes es).active =
    ap (λ (w : World). length w.active) after ∙ ap length active in
    let launched : (world_after shape sizes (es ++ e ∷ [])).epoch ≡ (world_after shape sizes es).epoch = ap (λ (w : World). w.epoch) after ∙ epoch in
    record {
      events = omega (arith, h.events, up, same, length-append es (e ∷ []));
      launches = omega (arith, h.launches, up, launched);
    }

cas_keeps :
    (shape : ShapeLists) (sizes : Sizes) (w : World) (m obj field expect value : ℕ) (done : Bool)
    → ((next shape sizes w (Cas m obj field expect value done)).active ≡ w.active) × ((next shape sizes w (Cas m obj field expect value done)).epoch ≡ w.epoch)
cas_keeps shape sizes w m obj field expect value true = (refl, refl)
cas_keeps shape sizes w m obj field expect value false = (refl, refl)

one_more_is_paid :
    (shape : ShapeLists) (sizes : Sizes) (es : List Event) (e : Event)
    → ArePaid shape sizes es
    → IsLegalNext shape sizes (world_after shape sizes es) e
    → ArePaid shape sizes (es ++ e ∷ [])
one_more_is_paid shape sizes es (New m obj class) h l =
    plain_is_paid shape sizes es (New m obj class) m h (legal_new shape sizes (world_after shape sizes es) m obj class l).thread (same_number m) refl refl refl
one_more_is_paid shape sizes es (Load m obj field value) h l =
    plain_is_paid shape sizes es (Load m obj field value) m h (legal_load shape sizes (world_after shape sizes es) m obj field value l).thread (same_number m) refl refl refl
one_more_is_paid shape sizes es (Store m obj field value) h l =
    plain_is_paid shape sizes es (Store m obj field value) m h (legal_store shape sizes (world_after shape sizes es) m obj field value l).thread (same_number m) refl refl refl
one_more_is_paid shape sizes es (Cas m obj field expect value done) h l =
    let keeps = cas_keeps shape sizes (world_after shape sizes es) m obj field expect value done in
    plain_is_paid shape sizes es (Cas m obj field expect value done) m h (legal_cas shape sizes (world_after shape sizes es) m obj field expect value done l).thread (same_number m)
    refl keeps.0 keeps.1
one_more_is_paid shape sizes es (Launch m site number args) h l =
    let e = Launch m site number args in
    let w = world_after shape sizes es in
    let after = world_after_one_more shape sizes es e in
    let up = one_more_used sizes es e m 2 (legal_launch shape sizes w m number site args l).thread (launch_cost m e (same_number m) refl) in
    let more : length (world_after shape sizes (es ++ e ∷ [])).active ≡ length w.active + 1 =
    ap (λ (v : World). length v.active) after ∙ length-append w.active (number ∷ []) in
    let launched : (world_after shape sizes (es ++ e ∷ [])).epoch ≡ w.epoch + 1 = ap (λ (v : World). v.epoch) after in
    record {
      events = omega (arith, h.events, up, more, length-append es (e ∷ []));
      launches = omega (arith, h.launches, up, launched);
    }
one_more_is_paid shape sizes es (Retire m number) h l =
    let e = Retire m number in
    let w = world_after shape sizes es in
    let after = world_after_one_more shape sizes es e in
    let up = more_used sizes es e in
    let less = without_is_less number w.active (legal_retire shape sizes w m number l).active in
    let gone : length (world_after shape sizes (es ++ e ∷ [])).active ≡ length (next shape sizes w e).active = ap (λ (v : World). length v.active) after in
    let launched : (world_after shape sizes (es ++ e ∷ [])).epoch ≡ w.epoch = ap (λ (v : World). v.epoch) after in
    record {
      events = omega (arith, h.events, up, less, gone, length-append es (e ∷ []));
      launches = omega (arith, h.launches, up, launched);
    }

all_are_paid :
    (shape : ShapeLists) (sizes : Sizes) (before es : List Event)
    → ArePaid shape sizes before
    → IsLegalFrom shape sizes (world_after shape sizes before) es
    → ArePaid shape sizes (before ++ es)
all_are_paid shape sizes before [] h l = subst (ArePaid shape sizes) (sym (append-nil before)) h
all_are_paid shape sizes before (e ∷ es) h l =
    subst (ArePaid shape sizes) (append_assoc before (e ∷ []) es)
    (all_are_paid shape sizes (before ++ e ∷ []) es (one_more_is_paid shape sizes before e h l.0)
    (subst (λ (w : World). IsLegalFrom shape sizes w es) (sym (world_after_one_more shape sizes before e)) l.1))

-- a sum of parts that are no more than this
sum_is_at_most : (f : ℕ → ℕ) (ns : List ℕ) (most : ℕ) → ((k : ℕ) → f k ≤ most) → sum_by f ns ≤ length ns * most
sum_is_at_most f [] most le = omega arith
sum_is_at_most f (n ∷ ns) most le =
    let rest : sum_by f ns ≤ length ns * most = sum_is_at_most f ns most le in
    let more : length (n ∷ ns) * most ≡ length ns * most + most = suc-mul (length ns) most in
    omega (arith, sum_by-cons f n ns, le n, rest, more)

-- a sound state has no more events, with one more for each active check, than the journal has room for, and no more checks than half of it
pub record HasRoom (shape : ShapeLists) (sizes : Sizes) (es : List Event) : Type 0 where
  pub events : length es + length (world_after shape sizes es).active ≤ sizes.mutators * sizes.events
  pub checks : 2 * (world_after shape sizes es).epoch ≤ sizes.mutators * sizes.events

-- each event was paid for by its thread, so a sound state has room for what it has and for the Retires to come
pub sound_state_has_room : (shape : ShapeLists) (p : Program) (sizes : Sizes) (s : State) → IsSoundState shape p sizes s → HasRoom shape sizes s.journal
sound_state_has_room shape p sizes s h =
    let none : ArePaid shape sizes [] = record { events = omega arith; launches = omega arith } in
    let paid : ArePaid shape sizes s.journal = all_are_paid shape sizes [] s.journal none (rest_is_legal shape sizes [] s.journal h.legal) in
    let most : all_used sizes s.journal ≤ length (range_with_len 0 sizes.mutators) * sizes.events =
    sum_is_at_most (λ m. used m s.journal) (range_with_len 0 sizes.mutators) sizes.events
    (λ m. events_are_within_charge p sizes m (own_events m s.journal) (request_of p sizes s m) (h.led m)) in
    let count : length (range_with_len 0 sizes.mutators) * sizes.events ≡ sizes.mutators * sizes.events = ap (λ (n : ℕ). n * sizes.events) (length-range_with_len 0 sizes.mutators) in
    record { events = omega (arith, paid.events, most, count); checks = omega (arith, paid.launches, most, count) }
