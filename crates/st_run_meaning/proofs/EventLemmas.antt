-- The event of a request that fits is legal, and its reply fits the heap after it
use Rattle.std.proofs.Common.{◌≡◌, ℕ, ◌+◌, ◌<◌, ◌≤◌, ◌==◌, cond, Bool, true, false, if◌then◌else◌, List, [], ◌∷◌, ◌++◌, length, filter, Option}
use Rattle.std.proofs.Common.{Some, None, refl, ◌∙◌, ap, arith, length-append}
use Rattle.std.specs.Prelude.{IsSome, unwrap_or}
use Rattle.std.specs.Option.{option_map}
use Rattle.std.proofs.lemmas.List.Elements.{filter-append}
use Rattle.st_events.specs.declared.events.Event.{Event}
use Rattle.st_events.specs.declared.events.Event.TheVariants.{New, Load, Store, Cas, Launch, Retire}
use Rattle.st_events.specs.declared.limits.Sizes.{Sizes}
use Rattle.st_events.specs.History.{is_new, is_new_of}
use Rattle.st_events.specs.Legal.{IsLegalNext, is_word}
use Rattle.st_events.specs.Sound.{IsTypedHeap}
use Rattle.st_events.specs.Terms.{ShapeLists, World, Object, word_at, fresh, next, next_object, world_after, own_events}
use Rattle.st_events.proofs.CountLemmas.{made_counts_news}
use Rattle.st_events.proofs.LegalEvents.{new_is_legal, load_is_legal, store_is_legal, cas_is_legal, launch_is_legal}
use Rattle.st_events.proofs.SoundHeap.{object_put_here}
use Rattle.st_resolved.specs.Terms.{Program}
use Rattle.st_check_meaning.specs.Plain.{word_found}
use Rattle.st_thread_meaning.specs.Deeds.{Request, make, load, store, cas, launch}
use Rattle.st_thread_meaning.specs.Threads.{Turn, reply_of, LeadTo}
use Rattle.st_thread_meaning.proofs.MeansLemmas.{threads_keep_within_means}
use Rattle.st_thread_meaning.specs.Typed.{IsRightRequest, IsRightReply}
use Rattle.st_run_meaning.specs.Steps.{event_of}
use Rattle.st_run_meaning.proofs.RetiresLemmas.{with_retired}

-- besides, a new object wants room, and a launch an idle lane
abbrev pub HasRoomFor : Sizes → World → ℕ → Request → Type 0
HasRoomFor sizes w m (make class) = w.made m < sizes.objects
HasRoomFor sizes w m (load obj field) = Unit {0}
HasRoomFor sizes w m (store obj field value) = Unit {0}
HasRoomFor sizes w m (cas obj field expect value) = Unit {0}
HasRoomFor sizes w m (launch site args) = length w.active < sizes.lanes

some_is_found : (o : Option ℕ) → IsSome o → o ≡ Some (unwrap_or o 0)
some_is_found None h = absurd (cc)
some_is_found (Some x) h = refl

-- a request that fits the heap, with room for it, makes a legal event
pub event_is_legal :
    (shape : ShapeLists) (sizes : Sizes) (w : World) (m : ℕ) (request : Request)
    → m < sizes.mutators
    → IsRightRequest shape w.heap request
    → HasRoomFor sizes w m request
    → IsLegalNext shape sizes w (event_of sizes w m request)
event_is_legal shape sizes w m (make class) few fits room =
    new_is_legal shape sizes w m (next_object sizes w m) class (record { thread = few; object = refl; room = room; some_class = fits.0; declared = fits.1 })
event_is_legal shape sizes w m (load obj field) few fits room =
    load_is_legal shape sizes w m obj field (word_found w.heap obj field) (record { thread = few; word = some_is_found (word_at w.heap obj field) fits })
event_is_legal shape sizes w m (store obj field value) few fits room =
    store_is_legal shape sizes w m obj field value (record { thread = few; cell = fits.0; kind = fits.1 })
event_is_legal shape sizes w m (cas obj field expect value) few fits room =
    cas_is_legal shape sizes w m obj field expect value (is_word (word_at w.heap obj field) expect)
    (record { thread = few; cell = fits.0; expected = fits.1; kind = fits.2; answer = refl })
event_is_legal shape sizes w m (launch site args) few fits room =
    launch_is_legal shape sizes w m (w.epoch + 1) site args (record { thread = few; next_number = refl; statement = fits.0; arguments = fits.1; lane = room })

-- retired checks change no event
pub event_after_retires : (sizes : Sizes) (w : World) (ns : List ℕ) (m : ℕ) (request : Request) → event_of sizes (with_retired w ns) m request ≡ event_of sizes w m request
event_after_retires sizes w ns m (make class) = refl
event_after_retires sizes w ns m (load obj field) = refl
event_after_retires sizes w ns m (store obj field value) = refl
event_after_retires sizes w ns m (cas obj field expect value) = refl
event_after_retires sizes w ns m (launch site args) = refl

-- the reply of the event fits the heap after it
pub reply_fits :
    (shape : ShapeLists) (sizes : Sizes) (w : World) (m : ℕ) (request : Request)
    → IsTypedHeap shape w.heap
    → IsRightRequest shape w.heap request
    → IsRightReply shape (next shape sizes w (event_of sizes w m request)).heap request (reply_of (event_of sizes w m request))
reply_fits shape sizes w m (make class) typed fits =
    ap (option_map (λ (x : Object). x.class)) (object_put_here w.heap (next_object sizes w m) (fresh shape class))
reply_fits shape sizes w m (load obj field) typed fits = typed.kinds obj field (word_found w.heap obj field) (some_is_found (word_at w.heap obj field) fits)
reply_fits shape sizes w m (store obj field value) typed fits = tt
reply_fits shape sizes w m (cas obj field expect value) typed fits = by (is_word (word_at w.heap obj field) expect)
  where
    by : (b : Bool) → (if b then 1 else 0) ≤ 1
    by true = omega arith
    by false = omega arith
reply_fits shape sizes w m (launch site args) typed fits = tt

-- ---- room for a new object

-- of what is no New, whether it is taken or not
no_new : (b : Bool) (e : Event) (es : List Event) → is_new e ≡ false → filter is_new (cond b (e ∷ es) es) ≡ filter is_new es
no_new true e es h = ap (λ (c : Bool). cond c (e ∷ filter is_new es) (filter is_new es)) h
no_new false e es h = refl

-- the New events of a mutator are those of its own events
pub news_are_own : (m : ℕ) (es : List Event) → filter is_new (own_events m es) ≡ filter (is_new_of m) es
news_are_own m [] = refl
news_are_own m (New k obj class ∷ es) = by (k == m) (news_are_own m es)
  where
    by : (b : Bool) → filter is_new (own_events m es) ≡ filter (is_new_of m) es
        → filter is_new (cond b (New k obj class ∷ own_events m es) (own_events m es)) ≡ cond b (New k obj class ∷ filter (is_new_of m) es) (filter (is_new_of m) es)
    by true rest = ap (λ (fs : List Event). New k obj class ∷ fs) rest
    by false rest = rest
news_are_own m (Load k obj field value ∷ es) = no_new (k == m) (Load k obj field value) (own_events m es) refl ∙ news_are_own m es
news_are_own m (Store k obj field value ∷ es) = no_new (k == m) (Store k obj field value) (own_events m es) refl ∙ news_are_own m es
news_are_own m (Cas k obj field expect value done ∷ es) = no_new (k == m) (Cas k obj field expect value done) (own_events m es) refl ∙ news_are_own m es
news_are_own m (Launch k site number args ∷ es) = no_new (k == m) (Launch k site number args) (own_events m es) refl ∙ news_are_own m es
news_are_own m (Retire k number ∷ es) = news_are_own m es

-- a thread whose code goes on with a New has room for it
pub room_for_new :
    (shape : ShapeLists) (p : Program) (sizes : Sizes) (es : List Event) (m obj class : ℕ) (turn : Turn)
    → LeadTo p sizes m (own_events m es ++ New m obj class ∷ []) turn
    → (world_after shape sizes es).made m < sizes.objects
room_for_new shape p sizes es m obj class turn led =
    let means = threads_keep_within_means.room p sizes m (own_events m es ++ New m obj class ∷ []) turn led in
    let joined : length (filter is_new (own_events m es ++ New m obj class ∷ [])) ≡ length (filter is_new (own_events m es)) + 1 =
    ap length (filter-append is_new (own_events m es) (New m obj class ∷ [])) ∙ length-append (filter is_new (own_events m es)) (New m obj class ∷ []) in
    let made : (world_after shape sizes es).made m ≡ length (filter (is_new_of m) es) = made_counts_news shape sizes es m in
    let same : length (filter is_new (own_events m es)) ≡ length (filter (is_new_of m) es) = ap length (news_are_own m es) in
    omega (arith, means, joined, made, same)
