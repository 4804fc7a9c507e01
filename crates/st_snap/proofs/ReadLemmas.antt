-- A read gives the word of the heap at the launch, or tells that the version is lost
use Rattle.std.proofs.Common.{◌≡◌, ℕ, ◌<◌, ◌≤◌, ◌⊎◌, Bool, true, false, inl, inr, List, length, slice_get, slice_index, Option, Some, None, refl}
use Rattle.std.proofs.Common.{sym, ◌∙◌, ap, subst, arith, IsSome}
use Rattle.std.specs.Option.{option_flatten}
use Rattle.std.proofs.lemmas.Bool.Decides.{eqb_tells}
use Rattle.std.proofs.lemmas.Option.{slice_get_within}
use Rattle.st_snap.specs.Terms.{Event, New, Load, Store, Cas, Launch, Retire, Sizes, ShapeLists, IsWithinLimits}
use Rattle.st_snap.specs.Terms.{Heap, Object, heap_of, word_of, word_at, World, Launched, next, world_after, is_lost, IsLegal, IsLegalNext}
use Rattle.st_events.specs.declared.shapes.TheConstants.{MOST_FIELDS}
use Rattle.st_events.specs.Sound.{IsSoundWorld, IsTypedHeap}
use Rattle.st_events.proofs.HeapLemmas.{kinds_are_few}
use Rattle.st_events.proofs.LegalLemmas.{stays}
use Rattle.st_events.proofs.SoundLemmas.{first_is_sound, next_is_sound}
use Rattle.st_snap.specs.declared.headers.Target.{Target}
use Rattle.st_snap.specs.declared.headers.Target.TheVariants.{Copied, Gone}
use Rattle.st_snap.specs.declared.lanes.Lane.{Lane}
use Rattle.st_snap.specs.Table.{TableLists, ReadsByForward, AnswersAt, IsLiveUnlessSent, IsSentToCopies, HasWords}
use Rattle.st_snap.specs.Represents.{Represents, IsTargetOf}

-- ---- no object has more words than there may be fields

-- each object has at most the most fields
abbrev pub IsSmall : Heap → Type 0
IsSmall heap = (obj : ℕ) (x : Object) → heap obj ≡ Some x → length x.words ≤ MOST_FIELDS

-- an object that has the words of its class has few
pub typed_is_small : (shape : ShapeLists) (heap : Heap) → IsWithinLimits shape → IsTypedHeap shape heap → IsSmall heap
typed_is_small shape heap l t obj x e = omega (arith, t.lengths obj x e, kinds_are_few shape l x.class)

-- so a field of a cell is below that number
pub field_is_small : (heap : Heap) (obj field : ℕ) → IsSmall heap → IsSome (word_at heap obj field) → field < MOST_FIELDS
field_is_small heap obj field small some = cases (heap obj) refl some
  where
    within : (x : Object) (o : Option ℕ) → slice_get x.words field ≡ o → IsSome o → field < length x.words
    within x None e i = cc
    within x (Some word) e i = slice_get_within x.words field word e

    cases : (o : Option Object) → heap obj ≡ o → IsSome (word_of o field) → field < MOST_FIELDS
    cases None e i = cc
    cases (Some x) e i = omega (arith, small obj x e, within x (slice_get x.words field) refl i)

-- the same of the heap at each launch
record HasSmallPasts (shape : ShapeLists) (sizes : Sizes) (w : World) : Type 0 where
  sound : IsSoundWorld shape sizes w
  pasts : (n : ℕ) (l : Launched) → w.launched n ≡ Some l → IsSmall l.past

next_is_small :
    (shape : ShapeLists) (sizes : Sizes) (w : World) (e : Event)
    → IsWithinLimits shape
    → HasSmallPasts shape sizes w
    → IsLegalNext shape sizes w e
    → (n : ℕ) (l : Launched)
    → (next shape sizes w e).launched n ≡ Some l
    → IsSmall l.past
next_is_small shape sizes w (New m obj class) fits s legal n l h = s.pasts n l h
next_is_small shape sizes w (Load m obj field value) fits s legal n l h = s.pasts n l h
next_is_small shape sizes w (Store m obj field value) fits s legal n l h = s.pasts n l h
next_is_small shape sizes w (Cas m obj field expect value true) fits s legal n l h = s.pasts n l h
next_is_small shape sizes w (Cas m obj field expect value false) fits s legal n l h = s.pasts n l h
next_is_small shape sizes w (Launch m site number args) fits s legal n l h = elim (eqb_tells n number) [
  | inl y ↦ past_is_small (record { past = w.heap; thread = m; site = site; args = args }) (rw y.0 at h) (typed_is_small shape w.heap fits s.sound.typed)
  | inr ne ↦ s.pasts n l (rw ne.0 at h)
]
  where
    past_is_small : (k : Launched) → Some k ≡ Some l → IsSmall k.past → IsSmall l.past
    past_is_small k e small = let same : k ≡ l = cc in subst (λ (x : Launched). IsSmall x.past) same small
next_is_small shape sizes w (Retire m number) fits s legal n l h = s.pasts n l h

-- so it is in the past of each launched check
pub pasts_are_small :
    (shape : ShapeLists) (sizes : Sizes) (es : List Event)
    → IsWithinLimits shape
    → IsLegal shape sizes es
    → (n : ℕ) (l : Launched)
    → (world_after shape sizes es).launched n ≡ Some l
    → IsSmall l.past
pasts_are_small shape sizes es fits legal = (stays shape sizes (HasSmallPasts shape sizes)
    (record { sound = first_is_sound shape sizes fits; pasts = λ n l e. cc })
    (λ w e s ok. record { sound = next_is_sound shape sizes w e s.sound ok; pasts = next_is_small shape sizes w e fits s ok })
    es legal).pasts

-- ---- what a read comes to

-- an object that stood at a launch stands now
pub object_is_still_there :
    (shape : ShapeLists) (sizes : Sizes) (w : World) (obj n : ℕ) (l : Launched)
    → IsSoundWorld shape sizes w
    → w.launched n ≡ Some l
    → IsSome (l.past obj)
    → IsSome (w.heap obj)
object_is_still_there shape sizes w obj n l s e stood = cases (w.heap obj) refl
  where
    cases : (o : Option Object) → w.heap obj ≡ o → IsSome (w.heap obj)
    cases (Some x) h = rw h refl
    cases None h =
        let first = s.launches.only n l e in
        let stamp = s.stamps.unmade obj h in
        let past : l.past obj ≡ None = s.pasts.same obj n l e (omega (arith, stamp, first)) ∙ h in
        let g = rw past at stood in cc

-- an object that stands has its place
pub object_has_place : (objects : List (Option Object)) (obj : ℕ) → IsSome (heap_of objects obj) → obj < length objects
object_has_place objects obj some = cases (slice_get objects obj) refl some
  where
    cases : (o : Option (Option Object)) → slice_get objects obj ≡ o → IsSome (option_flatten o) → obj < length objects
    cases None e i = cc
    cases (Some x) e i = slice_get_within objects obj x e

-- a cell's object stands
pub cell_has_object : (heap : Heap) (obj field : ℕ) → IsSome (word_at heap obj field) → IsSome (heap obj)
cell_has_object heap obj field some = cases (heap obj) refl some
  where
    cases : (o : Option Object) → heap obj ≡ o → IsSome (word_of o field) → IsSome (heap obj)
    cases None e i = cc
    cases (Some x) e i = rw e refl

-- the answer is the word then, and the version is not lost; or there is none, and the version is lost
pub record IsAnswer (w : World) (past : Heap) (obj n field : ℕ) (answer : Option ℕ) : Type 0 where
  pub cases : ((answer ≡ word_at past obj field) × (is_lost w.lost obj n ≡ false)) ⊎ ((answer ≡ None) × (is_lost w.lost obj n ≡ true))

not_lost : (shape : ShapeLists) (sizes : Sizes) (w : World) (obj n : ℕ) → IsSoundWorld shape sizes w → w.stamp obj < n → is_lost w.lost obj n ≡ false
not_lost shape sizes w obj n s low = cases (is_lost w.lost obj n) refl
  where
    cases : (b : Bool) → is_lost w.lost obj n ≡ b → b ≡ false
    cases false e = refl
    cases true e = absurd (omega (arith, low, (s.copies.lost_noted obj n e).changed))

-- the words of a copy are those of the version
words_at_launch :
    (words : List ℕ) (x : Option Object) (field : ℕ)
    → HasWords words x
    → IsSome (word_of x field)
    → Some (slice_index words field) ≡ word_of x field
words_at_launch words x field has some = cases (word_of x field) refl some
  where
    cases : (o : Option ℕ) → word_of x field ≡ o → IsSome o → Some (slice_index words field) ≡ word_of x field
    cases None e i = cc
    cases (Some word) e i = ap Some (has field word e) ∙ sym e

answer_where_sent :
    (w : World) (t : TableLists) (past : Heap) (obj n field : ℕ) (target : Target) (answer : Option ℕ)
    → IsSome (word_at past obj field)
    → IsTargetOf w.lost t.pool obj n (past obj) target
    → AnswersAt t.pool field target answer
    → IsAnswer w past obj n field answer
answer_where_sent w t past obj n field Gone answer some lost a = record { cases = inr (a, lost) }
answer_where_sent w t past obj n field (Copied copy) answer some held a =
    record { cases = inl (a held.1.kept held.1.among held.1.number ∙ words_at_launch held.1.kept.words (past obj) field held.1.words some, held.2) }

-- what a check reads by its forwarding word is the word at its launch, or nothing exactly where that version is lost
pub read_is_right :
    (shape : ShapeLists) (sizes : Sizes) (w : World) (t : TableLists) (lane : Lane) (l : Launched) (obj field : ℕ) (answer : Option ℕ)
    → IsSoundWorld shape sizes w
    → Represents sizes w t
    → slice_get t.lanes lane.index ≡ Some (Some lane.number)
    → w.launched lane.number ≡ Some l
    → IsSome (word_at l.past obj field)
    → ReadsByForward t lane obj field answer
    → IsAnswer w l.past obj lane.number field answer
read_is_right shape sizes w t lane l obj field answer s r here launched some a =
    let stood = cell_has_object l.past obj field some in
    let v = r.forwards.versions obj lane.index lane.number a.forward l here launched stood (record { header = a.header; found = a.found; forward = a.forwarded }) in
    elim (eqb_tells a.forward.epoch lane.number) [
      | inl y ↦ answer_where_sent w t l.past obj lane.number field a.forward.target answer some (v.forwarded y.1).1 (a.sent y.1)
      | inr ne ↦ record {
        cases = inl (
          a.live ne.1 ∙ ap (λ (h : Heap). word_at h obj field) r.live.heap
              ∙ sym (ap (λ (x : Option Object). word_of x field) (s.pasts.same obj lane.number l launched (v.live ne.1))),
          not_lost shape sizes w obj lane.number s (v.live ne.1),
        );
      }
    ]

-- each copy that the check is sent to is one of the pool's
pub sent_to_copies :
    (sizes : Sizes) (w : World) (t : TableLists) (lane : Lane) (l : Launched) (obj : ℕ)
    → Represents sizes w t
    → slice_get t.lanes lane.index ≡ Some (Some lane.number)
    → w.launched lane.number ≡ Some l
    → IsSome (l.past obj)
    → IsSentToCopies t lane obj
sent_to_copies sizes w t lane l obj r here launched stood = λ header forward copy found forwarded epoch target.
    let v = r.forwards.versions obj lane.index lane.number forward l here launched stood (record { header = header; found = found; forward = forwarded }) in
    (subst (IsTargetOf w.lost t.pool obj lane.number (l.past obj)) target (v.forwarded epoch).1).0

-- where the check is not sent anywhere, the live heap has the cell that it had at the launch
pub live_unless_sent :
    (shape : ShapeLists) (sizes : Sizes) (w : World) (t : TableLists) (lane : Lane) (l : Launched) (obj field : ℕ)
    → IsSoundWorld shape sizes w
    → Represents sizes w t
    → slice_get t.lanes lane.index ≡ Some (Some lane.number)
    → w.launched lane.number ≡ Some l
    → IsSome (word_at l.past obj field)
    → IsLiveUnlessSent t lane obj field
live_unless_sent shape sizes w t lane l obj field s r here launched some = λ header forward found forwarded elsewhere.
    let stood = cell_has_object l.past obj field some in
    let v = r.forwards.versions obj lane.index lane.number forward l here launched stood (record { header = header; found = found; forward = forwarded }) in
    let word = ap (λ (h : Heap). word_at h obj field) r.live.heap
    ∙ sym (ap (λ (x : Option Object). word_of x field) (s.pasts.same obj lane.number l launched (v.live elsewhere))) in
    subst IsSome (sym word) some
