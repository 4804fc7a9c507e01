-- What a thread of a well-formed program asks for, after its events in a legal journal, is legal on the journal's heap
use Rattle.std.proofs.Common.{◌≡◌, ℕ, ◌<◌, ◌≤◌, ◌==◌, ◌&&◌, Bool, true, false, if◌then◌else◌, List, [], ◌∷◌, ◌++◌, length, drop, refl, sym, ◌∙◌, ap, subst, arith}
use Rattle.std.proofs.Common.{Option, Some, None, IsSome}
use Rattle.std.specs.Prelude.{slice_get}
use Rattle.std.specs.List.{list_all}
use Rattle.std.specs.Option.{option_map}
use Rattle.st_events.specs.declared.shapes.Kind.{Kind}
use Rattle.st_events.specs.declared.events.Args.{Args}
use Rattle.st_events.specs.declared.events.Event.{Event}
use Rattle.st_events.specs.declared.events.Event.TheVariants.{New, Load, Store, Cas, Launch, Retire}
use Rattle.st_events.specs.declared.limits.Sizes.{Sizes}
use Rattle.st_events.specs.declared.verdicts.End.{End}
use Rattle.st_events.specs.Heap.{Object, Heap, class_at, fresh}
use Rattle.st_events.specs.Shape.{ShapeLists, IsWithinLimits}
use Rattle.st_events.specs.World.{World, next, first_world, world_from, world_after}
use Rattle.st_events.specs.Legal.{IsLegal, IsLegalNext, IsLegalFrom}
use Rattle.st_events.specs.History.{is_own, own_events}
use Rattle.st_events.specs.Legal.{have_kinds, args_fit}
use Rattle.st_events.specs.Sound.{IsSoundWorld}
use Rattle.st_thread_meaning.proofs.ExtendLemmas.{next_extends}
use Rattle.st_events.proofs.KeptLemmas.{and_parts, and_both}
use Rattle.st_events.proofs.LegalEvents.{legal_load}
use Rattle.st_events.proofs.SoundHeap.{object_put_here}
use Rattle.st_events.proofs.SoundLemmas.{first_is_sound, next_is_sound}
use Rattle.st_resolved.specs.Terms.{Program}
use Rattle.st_resolved.specs.WellFormed.{IsWellFormed}
use Rattle.st_thread_meaning.specs.Deeds.{Request, make, load, store, cas, launch, Deed, ends, asks}
use Rattle.st_thread_meaning.specs.Threads.{Turn, asks_for, has_ended, turn_of, deed_after, thread_deed, reply_of, IsAnswerTo, LeadTo}
use Rattle.st_thread_meaning.specs.Typed.{GoesOn, IsTyped, IsRightRequest, IsRightReply, IsRightTurn}
use Rattle.st_thread_meaning.specs.Laws.{AskLegally}
use Rattle.st_thread_meaning.proofs.FollowLemmas.{LeadsFrom, leads_from}
use Rattle.st_thread_meaning.proofs.KindLemmas.{goes_on_further, kinds_stay, cell_stays, fits_stays}
use Rattle.st_thread_meaning.proofs.TypedStatements.{thread_is_typed}

-- a request that is right stays so
request_stays : (shape : ShapeLists) (a b : Heap) (request : Request) → GoesOn shape a b → IsRightRequest shape a request → IsRightRequest shape b request
request_stays shape a b (make class) g h = h
request_stays shape a b (load obj field) g h = cell_stays shape a b obj field g h
request_stays shape a b (store obj field value) g h = (cell_stays shape a b obj field g h.0, fits_stays shape a b obj field value g h.1)
request_stays shape a b (cas obj field expect value) g h =
    (cell_stays shape a b obj field g h.0, fits_stays shape a b obj field expect g h.1, fits_stays shape a b obj field value g h.2)
request_stays shape a b (launch site args) g h = (h.0, by (slice_get shape.checks site) h.1)
  where
    by : (o : Option (List Kind)) → args_fit a o args ≡ true → args_fit b o args ≡ true
    by None k = absurd (cc)
    by (Some kinds) k =
        let zeros : Bool = list_all (λ word. word == 0) (drop args.count args.words) in
        let outer = and_parts (args.count == length kinds) (have_kinds a kinds args.words && zeros) k in
        let inner = and_parts (have_kinds a kinds args.words) zeros outer.1 in
        and_both (args.count == length kinds) (have_kinds b kinds args.words && zeros) outer.0
        (and_both (have_kinds b kinds args.words) zeros (kinds_stay shape a b kinds args.words g inner.0) inner.1)

-- a typed deed stays so
pub deed_stays : (shape : ShapeLists) (a b : Heap) (deed : Deed) → GoesOn shape a b → IsTyped shape deed a → IsTyped shape deed b
deed_stays shape a b (ends end) g h = tt
deed_stays shape a b (asks request rest) g h =
    (request_stays shape a b request g h.0, λ later g' reply fits. h.1 later (goes_on_further shape a b later g g') reply fits)

few_or_one : (done : Bool) → (if done then 1 else 0) ≤ 1
few_or_one true = omega arith
few_or_one false = omega arith

-- the event of a legal journal that answers a request brings a reply that fits
reply_fits :
    (shape : ShapeLists) (sizes : Sizes) (w : World) (e : Event) (request : Request)
    → IsSoundWorld shape sizes w
    → IsLegalNext shape sizes w e
    → IsAnswerTo e (asks_for request)
    → IsRightReply shape (next shape sizes w e).heap request (reply_of e)
reply_fits shape sizes w (New m obj class) request sound legal answer =
    let same : make class ≡ request = cc in
    subst (λ (r : Request). IsRightReply shape (next shape sizes w (New m obj class)).heap r obj) same
    (ap (option_map (λ (x : Object). x.class)) (object_put_here w.heap obj (fresh shape class)))
reply_fits shape sizes w (Load m obj field value) request sound legal answer =
    let same : load obj field ≡ request = cc in
    subst (λ (r : Request). IsRightReply shape w.heap r value) same
    (sound.typed.kinds obj field value (legal_load shape sizes w m obj field value legal).word)
reply_fits shape sizes w (Store m obj field value) request sound legal answer =
    let same : store obj field value ≡ request = cc in subst (λ (r : Request). IsRightReply shape (next shape sizes w (Store m obj field value)).heap r 0) same tt
reply_fits shape sizes w (Cas m obj field expect value done) request sound legal answer =
    let same : cas obj field expect value ≡ request = cc in
    subst (λ (r : Request). IsRightReply shape (next shape sizes w (Cas m obj field expect value done)).heap r (if done then 1 else 0)) same (few_or_one done)
reply_fits shape sizes w (Launch m site number args) request sound legal answer =
    let same : launch site args ≡ request = cc in subst (λ (r : Request). IsRightReply shape w.heap r 0) same tt
reply_fits shape sizes w (Retire m number) request sound legal answer = absurd answer

no_answer : (e : Event) (end : End) → IsAnswerTo e (has_ended end) → ⊥
no_answer (New m obj class) end k = cc
no_answer (Load m obj field value) end k = cc
no_answer (Store m obj field value) end k = cc
no_answer (Cas m obj field expect value done) end k = cc
no_answer (Launch m site number args) end k = cc
no_answer (Retire m number) end k = k

-- a deed after the reply of an event
deed_goes_on :
    (shape : ShapeLists) (sizes : Sizes) (w : World) (e : Event) (deed : Deed)
    → IsSoundWorld shape sizes w
    → IsLegalNext shape sizes w e
    → GoesOn shape w.heap (next shape sizes w e).heap
    → IsTyped shape deed w.heap
    → IsAnswerTo e (turn_of deed)
    → IsTyped shape (deed_after (reply_of e ∷ []) deed) (next shape sizes w e).heap
deed_goes_on shape sizes w e (ends end) sound legal g typed answer = absurd (no_answer e end answer)
deed_goes_on shape sizes w e (asks request rest) sound legal g typed answer =
    typed.1 (next shape sizes w e).heap g (reply_of e) (reply_fits shape sizes w e request sound legal answer)

turn_is_right : (shape : ShapeLists) (heap : Heap) (deed : Deed) → IsTyped shape deed heap → IsRightTurn shape heap (turn_of deed)
turn_is_right shape heap (ends end) h = tt
turn_is_right shape heap (asks request rest) h = h.0

-- along a journal
along :
    (shape : ShapeLists) (sizes : Sizes) (thread : ℕ) (w : World) (es : List Event) (deed : Deed) (turn : Turn)
    → IsSoundWorld shape sizes w
    → IsLegalFrom shape sizes w es
    → IsTyped shape deed w.heap
    → LeadsFrom (own_events thread es) deed turn
    → IsRightTurn shape (world_from shape sizes w es).heap turn
along shape sizes thread w [] deed turn sound legal typed leads = subst (IsRightTurn shape w.heap) leads (turn_is_right shape w.heap deed typed)
along shape sizes thread w (e ∷ es) deed turn sound legal typed leads =
    by (is_own thread e) leads
    (λ leads'. along shape sizes thread (next shape sizes w e) es (deed_after (reply_of e ∷ []) deed) turn after legal.1
    (deed_goes_on shape sizes w e deed sound legal.0 goes typed leads'.0) leads'.1)
    (λ leads'. along shape sizes thread (next shape sizes w e) es deed turn after legal.1 (deed_stays shape w.heap (next shape sizes w e).heap deed goes typed) leads')
  where
    after : IsSoundWorld shape sizes (next shape sizes w e)
    after = next_is_sound shape sizes w e sound legal.0

    goes : GoesOn shape w.heap (next shape sizes w e).heap
    goes = record { extends = next_extends shape sizes w e sound legal.0; typed = after.typed }

    by : (t : Bool) → LeadsFrom (if t then (e ∷ own_events thread es) else own_events thread es) deed turn
        → (LeadsFrom (e ∷ own_events thread es) deed turn → IsRightTurn shape (world_from shape sizes w (e ∷ es)).heap turn)
        → (LeadsFrom (own_events thread es) deed turn → IsRightTurn shape (world_from shape sizes w (e ∷ es)).heap turn)
        → IsRightTurn shape (world_from shape sizes w (e ∷ es)).heap turn
    by true l f k = f l
    by false l f k = k l

-- the thread's deed stays typed along a legal journal, through its own events and those of others
pub threads_ask_legally : AskLegally
unfolding LeadTo IsLegal
threads_ask_legally shape p sizes right es thread turn legal leads =
    let sound = first_is_sound shape sizes right.shape_fits in
    along shape sizes thread (first_world shape) es (thread_deed p sizes.objects sizes.events thread) turn sound legal
    (thread_is_typed shape p right sizes.objects sizes.events thread (first_world shape).heap sound.typed)
    (leads_from p sizes thread [] (own_events thread es) turn leads)
