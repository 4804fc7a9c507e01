-- A thread's events lead by their replies to what it does next, and to one end
use Rattle.std.proofs.Common.{◌≡◌, ℕ, List, [], ◌∷◌, ◌++◌, refl, sym, ◌∙◌, ap, subst, append_assoc}
use Rattle.std.proofs.lemmas.List.{append-nil}
use Rattle.st_events.specs.declared.events.Event.{Event}
use Rattle.st_events.specs.declared.events.Event.TheVariants.{New, Load, Store, Cas, Launch, Retire}
use Rattle.st_events.specs.declared.limits.Sizes.{Sizes}
use Rattle.st_events.specs.declared.verdicts.End.{End}
use Rattle.st_resolved.specs.Terms.{Program}
use Rattle.st_thread_meaning.specs.Deeds.{Deed, ends, asks}
use Rattle.st_thread_meaning.specs.Threads.{Turn, has_ended, turn_of, deed_after, thread_deed, next_request, reply_of, IsAnswerTo, LeadsAfter, LeadTo, Follows}
use Rattle.st_thread_meaning.specs.Laws.{replies_of, LeadByReplies, HaveOneEnd}

-- who has ended does nothing more
pub ended_stays : (replies : List ℕ) (end : End) → deed_after replies (ends end) ≡ ends end
ended_stays [] end = refl
ended_stays (reply ∷ replies) end = refl

-- after some replies and then others
pub after_both : (before behind : List ℕ) (deed : Deed) → deed_after (before ++ behind) deed ≡ deed_after behind (deed_after before deed)
after_both [] behind deed = refl
after_both (reply ∷ before) behind (ends end) = sym (ended_stays behind end)
after_both (reply ∷ before) behind (asks request next) = after_both before behind (next reply)

-- what the thread does next, after the replies so far and those of the events
now_after :
    (p : Program) (sizes : Sizes) (thread : ℕ) (replies : List ℕ) (es : List Event) (turn : Turn)
    → LeadsAfter p sizes thread replies es turn
    → next_request p sizes thread (replies ++ replies_of es) ≡ turn
now_after p sizes thread replies [] turn h = ap (next_request p sizes thread) (append-nil replies) ∙ h
now_after p sizes thread replies (e ∷ es) turn h =
    ap (next_request p sizes thread) (sym (append_assoc replies (reply_of e ∷ []) (replies_of es)))
    ∙ now_after p sizes thread (replies ++ reply_of e ∷ []) es turn h.1

-- one event more
grow_after :
    (p : Program) (sizes : Sizes) (thread : ℕ) (replies : List ℕ) (es : List Event) (e : Event) (turn : Turn)
    → LeadsAfter p sizes thread replies es turn
    → IsAnswerTo e turn
    → LeadsAfter p sizes thread replies (es ++ e ∷ []) (next_request p sizes thread (replies ++ replies_of (es ++ e ∷ [])))
grow_after p sizes thread replies [] e turn h answer = (subst (IsAnswerTo e) (sym h) answer, refl)
grow_after p sizes thread replies (f ∷ es) e turn h answer = (
  h.0,
  subst (λ (all : List ℕ). LeadsAfter p sizes thread (replies ++ reply_of f ∷ []) (es ++ e ∷ []) (next_request p sizes thread all))
      (append_assoc replies (reply_of f ∷ []) (replies_of (es ++ e ∷ [])))
      (grow_after p sizes thread (replies ++ reply_of f ∷ []) es e turn h.1 answer),
)

-- the events before one of them, and that this one answers what they lead to
before_after :
    (p : Program) (sizes : Sizes) (thread : ℕ) (replies : List ℕ) (es fs : List Event) (e : Event) (turn : Turn)
    → LeadsAfter p sizes thread replies (es ++ e ∷ fs) turn
    → LeadsAfter p sizes thread replies es (next_request p sizes thread (replies ++ replies_of es))
    × IsAnswerTo e (next_request p sizes thread (replies ++ replies_of es))
before_after p sizes thread replies [] fs e turn h =
    let same : next_request p sizes thread replies ≡ next_request p sizes thread (replies ++ []) = ap (next_request p sizes thread) (sym (append-nil replies)) in
    (same, subst (IsAnswerTo e) same h.0)
before_after p sizes thread replies (f ∷ es) fs e turn h =
    let rest = before_after p sizes thread (replies ++ reply_of f ∷ []) es fs e turn h.1 in
    let same : next_request p sizes thread ((replies ++ reply_of f ∷ []) ++ replies_of es) ≡ next_request p sizes thread (replies ++ replies_of (f ∷ es)) =
    ap (next_request p sizes thread) (append_assoc replies (reply_of f ∷ []) (replies_of es)) in (
      (h.0, subst (LeadsAfter p sizes thread (replies ++ reply_of f ∷ []) es) same rest.0),
      subst (IsAnswerTo e) same rest.1,
    )

-- where a thread is, is found from the replies in its events alone
pub events_lead_by_replies : LeadByReplies
unfolding LeadTo
events_lead_by_replies = record {
  now = λ p sizes thread es turn h. now_after p sizes thread [] es turn h;
  first = λ p sizes thread. refl;
  grow = λ p sizes thread es e turn h answer. grow_after p sizes thread [] es e turn h answer;
  before = λ p sizes thread es fs e turn h. before_after p sizes thread [] es fs e turn h;
}

-- no event answers an end
no_answer_to_end : (e : Event) (end : End) → IsAnswerTo e (has_ended end) → ⊥
no_answer_to_end (New m obj class) end h = cc
no_answer_to_end (Load m obj field value) end h = cc
no_answer_to_end (Store m obj field value) end h = cc
no_answer_to_end (Cas m obj field expect value done) end h = cc
no_answer_to_end (Launch m site number args) end h = cc
no_answer_to_end (Retire m number) end h = h

-- the events fix what comes next, so there is one end, and an end is answered by no event
pub threads_have_one_end : HaveOneEnd
unfolding Follows LeadTo
threads_have_one_end = record {
  one = λ p sizes thread es end other h k.
      let same : has_ended end ≡ has_ended other = sym (now_after p sizes thread [] es (has_ended end) h) ∙ now_after p sizes thread [] es (has_ended other) k in cc;
  last = λ p sizes thread es fs e end turn h k.
      no_answer_to_end e end (subst (IsAnswerTo e) (now_after p sizes thread [] es (has_ended end) h) (before_after p sizes thread [] es fs e turn k).1);
}

-- the same by deeds: each event answers what the deed asks for, and after the last one it does this
abbrev pub LeadsFrom : List Event → Deed → Turn → Type 0
LeadsFrom [] deed turn = turn_of deed ≡ turn
LeadsFrom (e ∷ es) deed turn = IsAnswerTo e (turn_of deed) × LeadsFrom es (deed_after (reply_of e ∷ []) deed) turn

-- events that lead on after some replies lead on from the deed that is left after these
pub leads_from :
    (p : Program) (sizes : Sizes) (thread : ℕ) (replies : List ℕ) (es : List Event) (turn : Turn)
    → LeadsAfter p sizes thread replies es turn
    → LeadsFrom es (deed_after replies (thread_deed p sizes.objects sizes.events thread)) turn
unfolding next_request
leads_from p sizes thread replies [] turn h = h
leads_from p sizes thread replies (e ∷ es) turn h = (
  h.0,
  subst (λ (deed : Deed). LeadsFrom es deed turn) (after_both replies (reply_of e ∷ []) (thread_deed p sizes.objects sizes.events thread))
      (leads_from p sizes thread (replies ++ reply_of e ∷ []) es turn h.1),
)
