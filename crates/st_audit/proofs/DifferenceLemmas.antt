-- A thread's own events beside what its code does, event by event.
use Rattle.std.proofs.Common.{◌≡◌, ℕ, ◌+◌, ◌-◌, ◌<◌, ◌≤◌, ◌^◌, cond, Bool, true, false, List, [], ◌∷◌}
use Rattle.std.proofs.Common.{◌++◌, length, take, drop, get_or, refl, sym, ◌∙◌, ap, subst, arith}
use Rattle.std.proofs.lemmas.List.{take_more, take-append-drop, append_assoc, append-nil, length-append}
use Rattle.std.proofs.lemmas.List.Elements.{filter-append}
use Rattle.st_events.specs.declared.events.Event.{Event}
use Rattle.st_events.specs.declared.events.Event.TheVariants.{New, Load, Store, Cas, Launch, Retire}
use Rattle.st_events.specs.declared.limits.Sizes.{Sizes}
use Rattle.st_events.specs.declared.verdicts.End.{End}
use Rattle.st_events.specs.History.{is_own}
use Rattle.st_events.specs.Terms.{own_events}
use Rattle.st_resolved.specs.Terms.{Program}
use Rattle.st_thread_meaning.specs.Deeds.{make, load, store, cas, launch}
use Rattle.st_thread_meaning.specs.Threads.{Turn, asks_for, has_ended, next_request, reply_of, IsAnswerTo, LeadTo, Follows}
use Rattle.st_thread_meaning.specs.Laws.{replies_of}
use Rattle.st_thread_meaning.proofs.FollowLemmas.{events_lead_by_replies}
use Rattle.st_thread_meaning.proofs.MeansLemmas.{events_are_within_charge}
use Rattle.st_mutator.specs.Mutators.{Mutating, HasHad, narrow, narrowed, turn_of_want, replies_in}
use Rattle.st_mutator.specs.declared.wants.Want.{Want}
use Rattle.st_audit.specs.Differences.{Differs, IsFirstDifference, IsTrace, NamesSmall, is_end}

-- ---- requests of objects with small numbers

-- the object that is asked for, if one is, has a number below the greatest of 32 bits
abbrev IsSmallTurn : Turn → Type 0
IsSmallTurn (asks_for (make class)) = Unit {0}
IsSmallTurn (asks_for (load obj field)) = obj < 2 ^ 32 - 1
IsSmallTurn (asks_for (store obj field value)) = obj < 2 ^ 32 - 1
IsSmallTurn (asks_for (cas obj field expect value)) = obj < 2 ^ 32 - 1
IsSmallTurn (asks_for (launch site args)) = Unit {0}
IsSmallTurn (has_ended end) = Unit {0}

-- such a number is told as it is
as_it_is : (obj : ℕ) → narrow obj < 2 ^ 32 - 1 → narrow obj ≡ obj
as_it_is obj h = omega arith

small_as_it_is : (obj : ℕ) → obj < 2 ^ 32 - 1 → narrow obj ≡ obj
small_as_it_is obj h = omega arith

widened : (t : Turn) → IsSmallTurn (narrowed t) → narrowed t ≡ t
widened (asks_for (make class)) h = refl
widened (asks_for (load obj field)) h = ap (λ (o : ℕ). asks_for (load o field)) (as_it_is obj h)
widened (asks_for (store obj field value)) h = ap (λ (o : ℕ). asks_for (store o field value)) (as_it_is obj h)
widened (asks_for (cas obj field expect value)) h = ap (λ (o : ℕ). asks_for (cas o field expect value)) (as_it_is obj h)
widened (asks_for (launch site args)) h = refl
widened (has_ended end) h = refl

small_is_narrowed : (t : Turn) → IsSmallTurn t → narrowed t ≡ t
small_is_narrowed (asks_for (make class)) h = refl
small_is_narrowed (asks_for (load obj field)) h = ap (λ (o : ℕ). asks_for (load o field)) (small_as_it_is obj h)
small_is_narrowed (asks_for (store obj field value)) h = ap (λ (o : ℕ). asks_for (store o field value)) (small_as_it_is obj h)
small_is_narrowed (asks_for (cas obj field expect value)) h = ap (λ (o : ℕ). asks_for (cas o field expect value)) (small_as_it_is obj h)
small_is_narrowed (asks_for (launch site args)) h = refl
small_is_narrowed (has_ended end) h = refl

same_turn : (t s : Turn) → IsSmallTurn s → narrowed t ≡ s → t ≡ s
same_turn t s small e = sym (widened t (subst IsSmallTurn (sym e) small)) ∙ e

same_narrowed : (t s : Turn) → IsSmallTurn s → t ≡ s → narrowed t ≡ s
same_narrowed t s small e = small_is_narrowed t (subst IsSmallTurn (sym e) small) ∙ e

-- an event that names a small object and answers what the machine told answers what the code asks for
pub answer_told : (e : Event) (t : Turn) → NamesSmall e → IsAnswerTo e (narrowed t) → IsAnswerTo e t
answer_told (New m obj class) t small h = same_turn t (asks_for (make class)) tt h
answer_told (Load m obj field value) t small h = same_turn t (asks_for (load obj field)) small h
answer_told (Store m obj field value) t small h = same_turn t (asks_for (store obj field value)) small h
answer_told (Cas m obj field expect value done) t small h = same_turn t (asks_for (cas obj field expect value)) small h
answer_told (Launch m site number args) t small h = same_turn t (asks_for (launch site args)) tt h
answer_told (Retire m number) t small h = h

-- and the other way: what answers the code answers what the machine told
pub answer_narrowed : (e : Event) (t : Turn) → NamesSmall e → IsAnswerTo e t → IsAnswerTo e (narrowed t)
answer_narrowed (New m obj class) t small h = same_narrowed t (asks_for (make class)) tt h
answer_narrowed (Load m obj field value) t small h = same_narrowed t (asks_for (load obj field)) small h
answer_narrowed (Store m obj field value) t small h = same_narrowed t (asks_for (store obj field value)) small h
answer_narrowed (Cas m obj field expect value done) t small h = same_narrowed t (asks_for (cas obj field expect value)) small h
answer_narrowed (Launch m site number args) t small h = same_narrowed t (asks_for (launch site args)) tt h
answer_narrowed (Retire m number) t small h = h

-- ---- own events, one event more

own_one_more :
    (thread : ℕ) (es : List Event) (k : ℕ) (d : Event)
    → k < length es
    → own_events thread (take (k + 1) es) ≡ own_events thread (take k es) ++ cond (is_own thread (get_or es k d)) (get_or es k d ∷ []) []
own_one_more thread es k d lt = ap (own_events thread) (take_more es k d lt) ∙ filter-append (is_own thread) (take k es) (get_or es k d ∷ [])

own_as_before : (thread : ℕ) (es : List Event) (k : ℕ) (d : Event) → k < length es → is_own thread (get_or es k d) ≡ false → own_events thread (take (k + 1) es) ≡ own_events thread (take k es)
own_as_before thread es k d lt no_own =
    own_one_more thread es k d lt ∙ ap (λ (b : Bool). own_events thread (take k es) ++ cond b (get_or es k d ∷ []) []) no_own ∙ append-nil (own_events thread (take k es))

own_and_one :
    (thread : ℕ) (es : List Event) (k : ℕ) (d : Event)
    → k < length es
    → is_own thread (get_or es k d) ≡ true
    → own_events thread (take (k + 1) es) ≡ own_events thread (take k es) ++ get_or es k d ∷ []
own_and_one thread es k d lt own =
    own_one_more thread es k d lt ∙ ap (λ (b : Bool). own_events thread (take k es) ++ cond b (get_or es k d ∷ []) []) own

own_split : (thread : ℕ) (es : List Event) (k : ℕ) → own_events thread es ≡ own_events thread (take k es) ++ own_events thread (drop k es)
own_split thread es k = ap (own_events thread) (sym (take-append-drop k es)) ∙ filter-append (is_own thread) (take k es) (drop k es)

-- a thread has no more own events than the journal has events
pub own_are_few : (thread : ℕ) (es : List Event) → length (own_events thread es) ≤ length es
own_are_few thread [] = omega arith
own_are_few thread (e ∷ es) = by (is_own thread e) (own_are_few thread es)
  where
    by : (b : Bool) → length (own_events thread es) ≤ length es → length (cond b (e ∷ own_events thread es) (own_events thread es)) ≤ length (e ∷ es)
    by true h = omega (arith, h)
    by false h = omega (arith, h)

replies_and_one : (es : List Event) (e : Event) → replies_of (es ++ e ∷ []) ≡ replies_of es ++ reply_of e ∷ []
replies_and_one [] e = refl
replies_and_one (f ∷ es) e = ap (λ (rs : List ℕ). reply_of f ∷ rs) (replies_and_one es e)

-- ---- the comparison

-- The thread's own events among the first so many follow its code, the machine has had their replies, and it has told what comes next.
pub record IsFollowed (p : Program) (sizes : Sizes) (thread : ℕ) (own : List Event) (m : Mutating) (want : Want) : Type 0 where
  pub had : HasHad p sizes thread m (0 ∷ replies_of own)
  pub told : turn_of_want want ≡ narrowed (next_request p sizes thread (replies_of own))
  pub leads : LeadTo p sizes thread own (next_request p sizes thread (replies_of own))

-- what `next` says of its machine and its want
abbrev pub Narrows : Mutating → ℕ → Want → Type 0
Narrows m reply want =
    (p : Program) (sizes : Sizes) (thread : ℕ) (words : List ℕ) → HasHad p sizes thread m words → turn_of_want want ≡ narrowed (next_request p sizes thread (replies_in (words ++ reply ∷ [])))

-- what `next` says of the machine that it leaves: it has had one reply more
abbrev pub GoesOn : Mutating → ℕ → Mutating → Type 0
GoesOn old reply new = (p : Program) (sizes : Sizes) (thread : ℕ) (words : List ℕ) → HasHad p sizes thread old words → HasHad p sizes thread new (words ++ reply ∷ [])

-- a machine that was just made, once it was started, has followed no own events
pub followed_at_first :
    (p : Program) (sizes : Sizes) (thread : ℕ) (old new : Mutating) (want : Want)
    → HasHad p sizes thread old []
    → Narrows old 0 want
    → GoesOn old 0 new
    → IsFollowed p sizes thread [] new want
followed_at_first p sizes thread old new want made narrows goes =
    record { had = goes p sizes thread [] made; told = narrows p sizes thread [] made; leads = events_lead_by_replies.first p sizes thread }

-- an own event that answers what was told, and the reply of which the machine was given, is followed too
pub followed_one_more :
    (p : Program) (sizes : Sizes) (thread : ℕ) (own : List Event) (e : Event) (old new : Mutating) (want later : Want)
    → NamesSmall e
    → IsAnswerTo e (turn_of_want want)
    → IsFollowed p sizes thread own old want
    → Narrows old (reply_of e) later
    → GoesOn old (reply_of e) new
    → IsFollowed p sizes thread (own ++ e ∷ []) new later
followed_one_more p sizes thread own e old new want later small answer was narrows goes =
    let same : replies_of own ++ reply_of e ∷ [] ≡ replies_of (own ++ e ∷ []) = sym (replies_and_one own e) in
    record {
      had = subst (λ (rs : List ℕ). HasHad p sizes thread new (0 ∷ rs)) same (goes p sizes thread (0 ∷ replies_of own) was.had);
      told = subst (λ (rs : List ℕ). turn_of_want later ≡ narrowed (next_request p sizes thread rs)) same (narrows p sizes thread (0 ∷ replies_of own) was.had);
      leads = events_lead_by_replies.grow p sizes thread own e (next_request p sizes thread (replies_of own)) was.leads
          (answer_told e (next_request p sizes thread (replies_of own)) small (subst (IsAnswerTo e) was.told answer));
    }

-- the next own event is another one
pub differs_here :
    (p : Program) (sizes : Sizes) (thread : ℕ) (es : List Event) (k : ℕ) (d : Event) (m : Mutating) (want : Want) (count : ℕ)
    → k < length es
    → is_own thread (get_or es k d) ≡ true
    → NamesSmall (get_or es k d)
    → (IsAnswerTo (get_or es k d) (turn_of_want want) → ⊥)
    → count ≡ length (own_events thread (take k es))
    → IsFollowed p sizes thread (own_events thread (take k es)) m want
    → IsFirstDifference p sizes thread (own_events thread es) (count + 1)
differs_here p sizes thread es k d m want count lt own small other counted was = record {
  before = own_events thread (take k es);
  rest = get_or es k d ∷ own_events thread (drop (k + 1) es);
  split =
      own_split thread es (k + 1)
      ∙ ap (λ (xs : List Event). xs ++ own_events thread (drop (k + 1) es)) (own_and_one thread es k d lt own)
      ∙ append_assoc (own_events thread (take k es)) (get_or es k d ∷ []) (own_events thread (drop (k + 1) es));
  number_is = ap (λ (n : ℕ). n + 1) counted;
  turn = next_request p sizes thread (replies_of (own_events thread (take k es)));
  leads = was.leads;
  differs = λ answer.
      other (subst (IsAnswerTo (get_or es k d)) (sym was.told)
      (answer_narrowed (get_or es k d) (next_request p sizes thread (replies_of (own_events thread (take k es)))) small answer));
}

-- ---- the end

ended_at : (t : Turn) → is_end (narrowed t) ≡ true → (end : End) × (t ≡ has_ended end)
ended_at (asks_for (make class)) h = absurd (cc)
ended_at (asks_for (load obj field)) h = absurd (cc)
ended_at (asks_for (store obj field value)) h = absurd (cc)
ended_at (asks_for (cas obj field expect value)) h = absurd (cc)
ended_at (asks_for (launch site args)) h = absurd (cc)
ended_at (has_ended end) h = (end, refl)

asks_more : (t : Turn) → is_end (narrowed t) ≡ false → Differs t []
asks_more (asks_for (make class)) h = tt
asks_more (asks_for (load obj field)) h = tt
asks_more (asks_for (store obj field value)) h = tt
asks_more (asks_for (cas obj field expect value)) h = tt
asks_more (asks_for (launch site args)) h = tt
asks_more (has_ended end) h = absurd (cc)

-- where all own events are followed and the thread has ended, they are a trace
pub follows_to_its_end :
    (p : Program) (sizes : Sizes) (thread : ℕ) (es : List Event) (m : Mutating) (want : Want)
    → is_end (turn_of_want want) ≡ true
    → IsFollowed p sizes thread (own_events thread es) m want
    → IsTrace p sizes es thread
unfolding Follows
follows_to_its_end p sizes thread es m want over was =
    let end = ended_at (next_request p sizes thread (replies_of (own_events thread es))) (subst (λ (t : Turn). is_end t ≡ true) was.told over) in
    (end.0, subst (LeadTo p sizes thread (own_events thread es)) end.1 was.leads)

-- where all own events are followed and the thread asks for more, the first difference stands behind the last of them
pub misses_one :
    (p : Program) (sizes : Sizes) (thread : ℕ) (es : List Event) (m : Mutating) (want : Want) (count : ℕ)
    → is_end (turn_of_want want) ≡ false
    → count ≡ length (own_events thread es)
    → IsFollowed p sizes thread (own_events thread es) m want
    → IsFirstDifference p sizes thread (own_events thread es) (count + 1)
misses_one p sizes thread es m want count more counted was = record {
  before = own_events thread es;
  rest = [];
  split = sym (append-nil (own_events thread es));
  number_is = ap (λ (n : ℕ). n + 1) counted;
  turn = next_request p sizes thread (replies_of (own_events thread es));
  leads = was.leads;
  differs = asks_more (next_request p sizes thread (replies_of (own_events thread es))) (subst (λ (t : Turn). is_end t ≡ false) was.told more);
}

-- a thread's own events are no more than its charge
pub own_within_charge :
    (p : Program) (sizes : Sizes) (thread : ℕ) (own : List Event) (m : Mutating) (want : Want)
    → IsFollowed p sizes thread own m want
    → length own ≤ sizes.events
own_within_charge p sizes thread own m want was =
    let paid = events_are_within_charge p sizes thread own (next_request p sizes thread (replies_of own)) was.leads in omega (arith, paid)

-- ---- the loop

-- the same with its count, after the first k events
pub record IsComparedUpTo (p : Program) (sizes : Sizes) (thread : ℕ) (es : List Event) (k : ℕ) (m : Mutating) (want : Want) (count : ℕ) : Type 0 where
  pub followed : IsFollowed p sizes thread (own_events thread (take k es)) m want
  pub counted : count ≡ length (own_events thread (take k es))

-- an event that is not the thread's own leaves the comparison as it is
pub compared_further :
    (p : Program) (sizes : Sizes) (thread : ℕ) (es : List Event) (k : ℕ) (d : Event) (m : Mutating) (want : Want) (count : ℕ)
    → k < length es
    → is_own thread (get_or es k d) ≡ false
    → IsComparedUpTo p sizes thread es k m want count
    → IsComparedUpTo p sizes thread es (k + 1) m want count
compared_further p sizes thread es k d m want count lt no_own was = record {
  followed = subst (λ (own : List Event). IsFollowed p sizes thread own m want) (sym (own_as_before thread es k d lt no_own)) was.followed;
  counted = was.counted ∙ ap (λ (own : List Event). length own) (sym (own_as_before thread es k d lt no_own));
}

-- an own event that answers what was told takes the comparison and its count one further
pub compared_one_more :
    (p : Program) (sizes : Sizes) (thread : ℕ) (es : List Event) (k : ℕ) (d : Event) (old new : Mutating) (want later : Want) (count : ℕ)
    → k < length es
    → is_own thread (get_or es k d) ≡ true
    → NamesSmall (get_or es k d)
    → IsAnswerTo (get_or es k d) (turn_of_want want)
    → IsComparedUpTo p sizes thread es k old want count
    → Narrows old (reply_of (get_or es k d)) later
    → GoesOn old (reply_of (get_or es k d)) new
    → IsComparedUpTo p sizes thread es (k + 1) new later (count + 1)
compared_one_more p sizes thread es k d old new want later count lt own small answer was narrows goes = record {
  followed = subst (λ (xs : List Event). IsFollowed p sizes thread xs new later) (sym (own_and_one thread es k d lt own))
      (followed_one_more p sizes thread (own_events thread (take k es)) (get_or es k d) old new want later small answer was.followed narrows goes);
  counted =
      ap (λ (n : ℕ). n + 1) was.counted
      ∙ sym (ap (λ (xs : List Event). length xs) (own_and_one thread es k d lt own) ∙ length-append (own_events thread (take k es)) (get_or es k d ∷ []));
}
