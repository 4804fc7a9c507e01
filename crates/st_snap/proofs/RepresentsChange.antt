-- The tables go on meaning the world: a change
use Rattle.std.proofs.Common.{◌≡◌, ◌≢◌, ℕ, ◌<◌, ◌≤◌, cond, Bool, true, false, inl, inr, List, [], ◌∷◌, ◌++◌, length, map, slice_get}
use Rattle.std.proofs.Common.{Option, Some, refl, sym, ◌∙◌, ap, subst, arith, IsSome, append-nil, nat_lt}
use Rattle.std.specs.List.{list_any, Contains}
use Rattle.std.proofs.lemmas.List.{length-map, map-append}
use Rattle.std.proofs.lemmas.List.Elements.{Contains-append_left, Contains-push}
use Rattle.std.proofs.lemmas.Bool.Decides.{eqb_tells, nat_tests}
use Rattle.st_snap.specs.Terms.{Sizes, ShapeLists, Heap, Object, heap_of, with_word, World, Launched, changed, at, is_among, is_lost, needing_in}
use Rattle.st_events.specs.World.{is_full, kept_at_change, lost_at_change}
use Rattle.st_events.specs.Sound.{IsSoundWorld}
use Rattle.st_events.proofs.WorldLemmas.{at_same, at_other}
use Rattle.st_events.proofs.AmongLemmas.{passing_is_among}
use Rattle.st_events.proofs.KeptLemmas.{lost_in_back, pairs_are_lost}
use Rattle.st_snap.specs.declared.headers.Forward.{Forward}
use Rattle.st_snap.specs.declared.headers.Header.{Header}
use Rattle.st_snap.specs.declared.headers.Target.{Target}
use Rattle.st_snap.specs.declared.headers.Target.TheVariants.{Copied, Gone}
use Rattle.st_snap.specs.Lanes.{is_between, is_launched_within, newest_of}
use Rattle.st_snap.specs.Pool.{PoolVersions, KeptVersion, Keeps, kept_in}
use Rattle.st_snap.specs.Table.{TableLists, KeepsVersion, KeepsFor, Changes, HasWords, adjust, stamped, sent}
use Rattle.st_snap.specs.Represents.{Represents, IsForwardAt, IsForwardOf, IsTargetOf, row_of, AreNeeded}
use Rattle.st_snap.proofs.AnyLemmas.{found_any, none_passes, needed_row_stands}
use Rattle.st_snap.proofs.ListLemmas.{adjusting_keeps_length, adjusted_elsewhere, adjusted_stood_before}
use Rattle.st_snap.proofs.LaneLemmas.{between_is_active, newest_found, none_between}
use Rattle.st_snap.proofs.RowLemmas.{between_is_within, needing_are_within, not_full_where_less_kept, full_where_all_kept, needed_push}
use Rattle.st_snap.proofs.ForwardLemmas.{forwarded_at_lane, IsForwarded}
use Rattle.st_snap.proofs.TargetLemmas.{target_is_kept, lost_for_others_stays, stamping_keeps_forwards}

-- what keeping the version of an object comes to: its headers and its pool serve the world after the change
pub record IsReady (sizes : Sizes) (w : World) (t : TableLists) (obj : ℕ) (headers : List Header) (pool : PoolVersions) : Type 0 where
  pub room : length headers ≡ length t.headers
  pub others : (o : ℕ) → o ≢ obj → slice_get headers o ≡ slice_get t.headers o
  pub size : pool.size ≡ sizes.copies
  pub same_size : pool.size ≡ t.pool.size
  pub rows : map (row_of w.active) pool.versions ≡ kept_at_change sizes w obj
  pub needed : AreNeeded w.epoch w.active pool.versions
  pub stays : (kept : KeptVersion) → Contains t.pool.versions kept → Contains pool.versions kept
  pub epochs : (lane : ℕ) (f : Forward) → IsForwardAt headers obj lane f → f.epoch ≤ w.epoch
  pub sent_all :
      (lane n : ℕ) (f : Forward) (l : Launched)
      → slice_get t.lanes lane ≡ Some (Some n)
      → w.launched n ≡ Some l
      → IsSome (l.past obj)
      → IsForwardAt headers obj lane f
      → (f.epoch ≡ n) × IsTargetOf (lost_at_change sizes w obj) pool obj n (l.past obj) f.target

either_is_same : {X : Type 0} (b : Bool) (x : X) → cond b x x ≡ x
either_is_same true x = refl
either_is_same false x = refl

-- ---- no check needs the version

-- an active check of which none needs the version was launched before the stamp
not_above_stamp :
    (sizes : Sizes) (w : World) (t : TableLists) (stamp n lane : ℕ)
    → ((k : ℕ) → is_among w.active k ≡ true → k ≤ w.epoch)
    → Represents sizes w t
    → list_any (is_between stamp t.epoch) t.lanes ≡ false
    → slice_get t.lanes lane ≡ Some (Some n)
    → n ≤ stamp
not_above_stamp sizes w t stamp n lane upto r none e = cases (nat_lt stamp n) refl
  where
    at_most : (a b : ℕ) → nat_lt a b ≡ false → b ≤ a
    at_most a b h = grind (arith, nat_tests)

    below : (a b : ℕ) → nat_lt a b ≡ true → a < b
    below a b h = grind (arith, nat_tests)

    cases : (b : Bool) → nat_lt stamp n ≡ b → n ≤ stamp
    cases false h = at_most stamp n h
    cases true h =
        let in_epoch : n ≤ t.epoch = omega (arith, upto n (r.lanes.are_active lane n e), r.live.epoch) in
        let some : list_any (is_between stamp t.epoch) t.lanes ≡ true =
        found_any (is_between stamp t.epoch) t.lanes lane (Some n) e (between_is_within stamp t.epoch n (below stamp n h) in_epoch) in
        let f : true ≡ false = sym some ∙ none in cc

-- the forwarding word of a check that was launched before the stamp
old_target_stays :
    (sizes : Sizes) (w : World) (t : TableLists) (obj lane n : ℕ) (f : Forward) (l : Launched) (pool : PoolVersions)
    → Represents sizes w t
    → n ≤ w.stamp obj
    → slice_get t.lanes lane ≡ Some (Some n)
    → w.launched n ≡ Some l
    → IsSome (l.past obj)
    → IsForwardAt t.headers obj lane f
    → pool.size ≡ t.pool.size
    → ((kept : KeptVersion) → Contains t.pool.versions kept → Contains pool.versions kept)
    → (f.epoch ≡ n) × IsTargetOf (lost_at_change sizes w obj) pool obj n (l.past obj) f.target
old_target_stays sizes w t obj lane n f l pool r old e g stood a size stays =
    let v = r.forwards.versions obj lane n f l e g stood a in
    elim (eqb_tells f.epoch n) [
      | inl y ↦ (
        y.1,
        target_is_kept w.lost (lost_at_change sizes w obj) t.pool pool obj n (l.past obj) f.target
            (lost_for_others_stays sizes w obj obj n (inr old)) size (λ kept low high c. stays kept c) (v.forwarded y.1).1,
      )
      | inr ne ↦ absurd (omega (arith, v.live ne.1, old))
    ]

none_needs :
    (sizes : Sizes) (w : World) (t : TableLists) (obj stamp : ℕ)
    → ((k : ℕ) → is_among w.active k ≡ true → k ≤ w.epoch)
    → Represents sizes w t
    → stamp ≡ w.stamp obj
    → list_any (is_between stamp t.epoch) t.lanes ≡ false
    → needing_in w obj ≡ []
none_needs sizes w t obj stamp upto r same none =
    let active : list_any (is_launched_within (w.stamp obj) w.epoch) w.active ≡ false =
    sym (between_is_active sizes w.active t.lanes (w.stamp obj) w.epoch r.lanes) ∙ (rw (← same, ← r.live.epoch) none) in
    needing_are_within w obj upto ∙ none_passes (is_launched_within (w.stamp obj) w.epoch) w.active active

ready_where_unneeded :
    (shape : ShapeLists) (sizes : Sizes) (w : World) (t : TableLists) (obj : ℕ) (header : Header)
    → IsSoundWorld shape sizes w
    → Represents sizes w t
    → slice_get t.headers obj ≡ Some header
    → list_any (is_between header.stamp t.epoch) t.lanes ≡ false
    → IsReady sizes w t obj t.headers t.pool
ready_where_unneeded shape sizes w t obj header s r found none =
    let stamp = r.live.stamps obj header found in
    let upto = λ (k : ℕ) (a : is_among w.active k ≡ true). (s.active.launched k a).1 in
    record {
      room = refl;
      others = λ o ne. refl;
      size = r.pool.size;
      same_size = refl;
      rows = r.pool.rows ∙ sym (rw (none_needs sizes w t obj header.stamp upto r stamp none, append-nil) (either_is_same (is_full sizes w) w.kept));
      needed = r.pool.needed;
      stays = λ kept c. c;
      epochs = λ lane f a. r.forwards.epochs obj lane f a;
      sent_all = λ lane n f l e g stood a.
          let low = not_above_stamp sizes w t header.stamp n lane upto r none e in
          old_target_stays sizes w t obj lane n f l t.pool r (omega (arith, low, stamp)) e g stood a refl (λ kept c. c);
    }

-- ---- some check needs the version

-- the forwarding words of the object afterwards: as before for a check launched before the stamp, else sent to the target
sent_at_lane :
    (t : TableLists) (obj lane : ℕ) (target : Target) (header : Header) (after : Forward)
    → slice_get t.headers obj ≡ Some header
    → IsForwardAt (adjust (sent target t.lanes) t.headers obj) obj lane after
    → (before : Forward) × IsForwardAt t.headers obj lane before × IsForwarded header.stamp target (slice_get t.lanes lane) before after
sent_at_lane t obj lane target header after found a =
    let b = adjusted_stood_before (sent target t.lanes) t.headers obj a.header a.found in
    let same : b.0 ≡ header = the_same b.0 (sym b.1 ∙ found) in
    let f = forwarded_at_lane b.0.stamp target t.lanes b.0.forward lane after (ap (λ (h : Header). slice_get h.forward lane) (sym b.2) ∙ a.forward) in
    (f.0, record { header = b.0; found = b.1; forward = f.1 }, subst (λ (h : Header). IsForwarded h.stamp target (slice_get t.lanes lane) f.0 after) same f.2)
  where
    the_same : (h : Header) → Some h ≡ Some header → h ≡ header
    the_same h e = cc

-- what is asked of a target for the checks that are sent to it
abbrev IsNewTarget : Sizes → World → TableLists → ℕ → PoolVersions → Target → Type 0
IsNewTarget sizes w t obj pool target =
    (n : ℕ) (l : Launched) → is_among w.active n ≡ true → w.launched n ≡ Some l → w.stamp obj < n → IsTargetOf (lost_at_change sizes w obj) pool obj n (l.past obj) target

ready_where_sent :
    (shape : ShapeLists) (sizes : Sizes) (w : World) (t : TableLists) (obj : ℕ) (header : Header) (target : Target) (pool : PoolVersions)
    → IsSoundWorld shape sizes w
    → Represents sizes w t
    → slice_get t.headers obj ≡ Some header
    → pool.size ≡ t.pool.size
    → map (row_of w.active) pool.versions ≡ kept_at_change sizes w obj
    → AreNeeded w.epoch w.active pool.versions
    → ((kept : KeptVersion) → Contains t.pool.versions kept → Contains pool.versions kept)
    → IsNewTarget sizes w t obj pool target
    → IsReady sizes w t obj (adjust (sent target t.lanes) t.headers obj) pool
ready_where_sent shape sizes w t obj header target pool s r found size rows needed stays fresh =
    let stamp = r.live.stamps obj header found in
    record {
      room = adjusting_keeps_length (sent target t.lanes) t.headers obj;
      others = λ o ne. adjusted_elsewhere (sent target t.lanes) t.headers obj o ne;
      size = size ∙ r.pool.size;
      same_size = size;
      rows = rows;
      needed = needed;
      stays = stays;
      epochs = λ lane f a. let b = sent_at_lane t obj lane target header f found a in elim b.2.cases [
        | inl old ↦ omega (arith, r.forwards.epochs obj lane b.0 b.1, ap (λ (x : Forward). x.epoch) old.0)
        | inr new ↦ omega (arith, s.active.launched new.0 (r.lanes.are_active lane new.0 new.1), new.3)
      ];
      sent_all = λ lane n f l e g stood a. let b = sent_at_lane t obj lane target header f found a in elim b.2.cases [
        | inl old ↦ subst (λ (x : Forward). (x.epoch ≡ n) × IsTargetOf (lost_at_change sizes w obj) pool obj n (l.past obj) x.target) (sym old.0)
            (old_target_stays sizes w t obj lane n b.0 l pool r (omega (arith, old.1 n e, stamp)) e g stood b.1 size stays)
        | inr new ↦ (let one : new.0 ≡ n = the_check new.0 n (sym new.1 ∙ e) in (
          new.3 ∙ one,
          subst (λ (x : Target). IsTargetOf (lost_at_change sizes w obj) pool obj n (l.past obj) x) (sym new.4)
              (fresh n l (r.lanes.are_active lane n e) g (omega (arith, new.2, one, stamp))),
        ))
      ];
    }
  where
    the_check : (x y : ℕ) → Some (Some x) ≡ Some (Some y) → x ≡ y
    the_check x y e = cc

-- no version of the object is lost yet for a check that was launched after its stamp
not_lost : (shape : ShapeLists) (sizes : Sizes) (w : World) (obj n : ℕ) → IsSoundWorld shape sizes w → w.stamp obj < n → is_lost w.lost obj n ≡ false
not_lost shape sizes w obj n s low = cases (is_lost w.lost obj n) refl
  where
    cases : (b : Bool) → is_lost w.lost obj n ≡ b → b ≡ false
    cases false e = refl
    cases true e = absurd (omega (arith, low, (s.copies.lost_noted obj n e).changed))

below_is_true : (a b : ℕ) → a < b → nat_lt a b ≡ true
below_is_true a b h = grind (arith, nat_tests)

-- a copy was free
ready_where_copied :
    (shape : ShapeLists) (sizes : Sizes) (w : World) (t : TableLists) (obj : ℕ) (header : Header) (words : List ℕ) (copy : ℕ)
    → IsSoundWorld shape sizes w
    → Represents sizes w t
    → slice_get t.headers obj ≡ Some header
    → list_any (is_between header.stamp t.epoch) t.lanes ≡ true
    → HasWords words (heap_of t.heap obj)
    → length t.pool.versions < t.pool.size
    → copy < t.pool.size
    → IsReady sizes w t obj (adjust (sent (Copied copy) t.lanes) t.headers obj) (record t.pool { versions = t.pool.versions ++ kept_in obj header.stamp t.epoch words copy ∷ [] })
ready_where_copied shape sizes w t obj header words copy s r found some has free within_pool =
    let stamp = r.live.stamps obj header found in
    let new = kept_in obj header.stamp t.epoch words copy in
    let short : length w.kept < sizes.copies = omega (arith, free, r.pool.size, length-map t.pool.versions (row_of w.active), ap length r.pool.rows) in
    let room = not_full_where_less_kept sizes w short in
    let active : list_any (is_launched_within (w.stamp obj) w.epoch) w.active ≡ true =
    sym (between_is_active sizes w.active t.lanes (w.stamp obj) w.epoch r.lanes) ∙ (rw (← stamp, ← r.live.epoch) some) in
    let needing = needing_are_within w obj (λ k a. (s.active.launched k a).1) in
    ready_where_sent shape sizes w t obj header (Copied copy) (record t.pool { versions = t.pool.versions ++ new ∷ [] }) s r found refl
    (map-append (row_of w.active) t.pool.versions (new ∷ [])
    ∙ rw (r.pool.rows, room, needing, needed_row_stands obj (is_launched_within (w.stamp obj) w.epoch) w.active active, stamp, r.live.epoch) refl)
    (needed_push w.epoch w.active t.pool.versions new r.pool.needed r.live.epoch (rw (stamp, r.live.epoch) active))
    (λ kept c. Contains-append_left t.pool.versions (new ∷ []) kept c)
    (λ n l a g low. (
      within_pool,
      record {
        kept = new;
        among = Contains-push t.pool.versions new;
        object = refl;
        after = omega (arith, low, stamp);
        upto = omega (arith, s.active.launched n a, r.live.epoch);
        number = refl;
        words = subst (HasWords words) (ap (λ (h : Heap). h obj) r.live.heap ∙ sym (s.pasts.same obj n l g low)) has;
      },
      (rw room (not_lost shape sizes w obj n s low)),
    ))

-- no copy was free
ready_where_gone :
    (shape : ShapeLists) (sizes : Sizes) (w : World) (t : TableLists) (obj : ℕ) (header : Header)
    → IsSoundWorld shape sizes w
    → Represents sizes w t
    → slice_get t.headers obj ≡ Some header
    → t.pool.size ≤ length t.pool.versions
    → IsReady sizes w t obj (adjust (sent Gone t.lanes) t.headers obj) t.pool
ready_where_gone shape sizes w t obj header s r found full =
    let long : sizes.copies ≤ length w.kept = omega (arith, full, r.pool.size, length-map t.pool.versions (row_of w.active), ap length r.pool.rows) in
    let none = full_where_all_kept sizes w long in
    ready_where_sent shape sizes w t obj header Gone t.pool s r found refl
    (rw none r.pool.rows)
    r.pool.needed
    (λ kept c. c)
    (λ n l a g low. rw none
    (lost_in_back w.lost (map (λ k. record { obj = obj; check = k }) (needing_in w obj)) obj n
    (pairs_are_lost obj (needing_in w obj) n (passing_is_among (λ k. nat_lt (w.stamp obj) k) w.active n a (below_is_true (w.stamp obj) n low)))))

-- where the newest check needs the version, some check does
newest_needs :
    (shape : ShapeLists) (sizes : Sizes) (w : World) (t : TableLists) (stamp : ℕ)
    → IsSoundWorld shape sizes w
    → Represents sizes w t
    → stamp < newest_of t.lanes
    → list_any (is_between stamp t.epoch) t.lanes ≡ true
newest_needs shape sizes w t stamp s r h =
    let f = newest_found t.lanes stamp h in
    let n = newest_of t.lanes in
    let launched = s.active.launched n (r.lanes.are_active f.0 n f.1) in
    found_any (is_between stamp t.epoch) t.lanes f.0 (Some n) f.1 (between_is_within stamp t.epoch n h (omega (arith, launched, r.live.epoch)))

-- ---- the change

ready_is_represented :
    (shape : ShapeLists) (sizes : Sizes) (w : World) (t : TableLists) (obj field value : ℕ) (heap : List (Option Object)) (headers : List Header) (pool : PoolVersions)
    → IsSoundWorld shape sizes w
    → Represents sizes w t
    → IsReady sizes w t obj headers pool
    → heap_of heap ≡ with_word (heap_of t.heap) obj field value
    → length heap ≡ length t.heap
    → Represents sizes (changed sizes w obj field value) (record t { heap = heap; headers = adjust (stamped t.epoch) headers obj; pool = pool })
ready_is_represented shape sizes w t obj field value heap headers pool s r k e room = record {
  live = record {
    heap = e ∙ ap (λ (h : Heap). with_word h obj field value) r.live.heap;
    room = room ∙ r.live.room;
    header_room = adjusting_keeps_length (stamped t.epoch) headers obj ∙ k.room ∙ r.live.header_room;
    stamps = λ o h f. elim (eqb_tells o obj) [
      | inl y ↦ (let b = adjusted_stood_before (stamped t.epoch) headers obj h (ap (slice_get (adjust (stamped t.epoch) headers obj)) (sym y.1) ∙ f) in
          ap (λ (x : Header). x.stamp) b.2 ∙ r.live.epoch ∙ sym (at_same obj w.epoch w.stamp) ∙ ap (at obj w.epoch w.stamp) (sym y.1))
      | inr n ↦ r.live.stamps o h (sym (k.others o n.1) ∙ sym (adjusted_elsewhere (stamped t.epoch) headers obj o n.1) ∙ f) ∙ sym (at_other obj w.epoch w.stamp o n.1)
    ];
    made_room = r.live.made_room;
    made = r.live.made;
    epoch = r.live.epoch;
  };
  lanes = r.lanes;
  pool = record { size = k.size; rows = k.rows; needed = k.needed };
  forwards = record {
    epochs = λ o lane f a. let b = stamping_keeps_forwards t.epoch headers obj o lane f a in elim (eqb_tells o obj) [
      | inl y ↦ k.epochs lane f (moved o lane f y.1 b)
      | inr n ↦ r.forwards.epochs o lane f (other o lane f n.1 b)
    ];
    versions = λ o lane n f l g h stood a. let b = stamping_keeps_forwards t.epoch headers obj o lane f a in elim (eqb_tells o obj) [
      | inl y ↦ (let sent = k.sent_all lane n f l g h (subst (λ (i : ℕ). IsSome (l.past i)) y.1 stood) (moved o lane f y.1 b) in
          let active = s.active.launched n (r.lanes.are_active lane n g) in
          subst (λ (i : ℕ). IsForwardOf (at obj w.epoch w.stamp i) (lost_at_change sizes w obj) pool i n (l.past i) f) (sym y.1)
          (subst (λ (stamp : ℕ). IsForwardOf stamp (lost_at_change sizes w obj) pool obj n (l.past obj) f) (sym (at_same obj w.epoch w.stamp))
          (record { forwarded = λ _. (active.1, sent.1); live = λ ne. absurd (ne sent.0) })))
      | inr ne ↦ (let v = r.forwards.versions o lane n f l g h stood (other o lane f ne.1 b) in
          subst (λ (stamp : ℕ). IsForwardOf stamp (lost_at_change sizes w obj) pool o n (l.past o) f) (sym (at_other obj w.epoch w.stamp o ne.1))
          (record {
            forwarded = λ q. let fw = v.forwarded q in (
              fw.0,
              target_is_kept w.lost (lost_at_change sizes w obj) t.pool pool o n (l.past o) f.target
                  (lost_for_others_stays sizes w obj o n (inl ne.1)) k.same_size (λ kept low high c. k.stays kept c) fw.1,
            );
            live = v.live;
          }))
    ];
  };
}
  where
    moved : (o lane : ℕ) (f : Forward) → o ≡ obj → IsForwardAt headers o lane f → IsForwardAt headers obj lane f
    moved o lane f y b = subst (λ (i : ℕ). IsForwardAt headers i lane f) y b

    other : (o lane : ℕ) (f : Forward) → o ≢ obj → IsForwardAt headers o lane f → IsForwardAt t.headers o lane f
    other o lane f ne b = record { header = b.header; found = sym (k.others o ne) ∙ b.found; forward = b.forward }

-- the tables after a version was kept differ from those before in headers and pool alone
frame : (t x y : TableLists) → x ≡ y → y ≡ record t { headers = y.headers; pool = y.pool } → x ≡ record t { headers = x.headers; pool = x.pool }
frame t x y e f = e ∙ f ∙ ap (λ (z : TableLists). record t { headers = z.headers; pool = z.pool }) (sym e)

ready_for_target :
    (shape : ShapeLists) (sizes : Sizes) (w : World) (t b : TableLists) (obj : ℕ) (header : Header)
    → IsSoundWorld shape sizes w
    → Represents sizes w t
    → slice_get t.headers obj ≡ Some header
    → (k : KeepsFor t b obj header) (target : Target)
    → k.target ≡ target
    → Keeps t.pool b.pool obj header.stamp t.epoch k.words target
    → IsReady sizes w t obj b.headers b.pool
ready_for_target shape sizes w t b obj header s r found k (Copied copy) e h =
    let headers : b.headers ≡ adjust (sent (Copied copy) t.lanes) t.headers obj = ap (λ (x : TableLists). x.headers) k.rest ∙ ap (λ (x : Target). adjust (sent x t.lanes) t.headers obj) e in
    subst (λ (hs : List Header). IsReady sizes w t obj hs b.pool) (sym headers)
    (subst (λ (p : PoolVersions). IsReady sizes w t obj (adjust (sent (Copied copy) t.lanes) t.headers obj) p) (sym h.2)
    (ready_where_copied shape sizes w t obj header k.words copy s r found (newest_needs shape sizes w t header.stamp s r k.needed) k.has h.0 h.1))
ready_for_target shape sizes w t b obj header s r found k Gone e h =
    let headers : b.headers ≡ adjust (sent Gone t.lanes) t.headers obj = ap (λ (x : TableLists). x.headers) k.rest ∙ ap (λ (x : Target). adjust (sent x t.lanes) t.headers obj) e in
    subst (λ (hs : List Header). IsReady sizes w t obj hs b.pool) (sym headers)
    (subst (λ (p : PoolVersions). IsReady sizes w t obj (adjust (sent Gone t.lanes) t.headers obj) p) (sym h.1) (ready_where_gone shape sizes w t obj header s r found h.0))

ready :
    (shape : ShapeLists) (sizes : Sizes) (w : World) (t b : TableLists) (obj : ℕ)
    → IsSoundWorld shape sizes w
    → Represents sizes w t
    → KeepsVersion t b obj
    → (b ≡ record t { headers = b.headers; pool = b.pool }) × IsReady sizes w t obj b.headers b.pool
ready shape sizes w t b obj s r k = elim k.cases [
  | inl y ↦ (
    frame t b (record t { pool = b.pool; headers = adjust (sent y.target t.lanes) t.headers obj }) y.rest refl,
    ready_for_target shape sizes w t b obj k.header s r k.found y y.target refl y.kept,
  )
  | inr n ↦ (
    frame t b t n.1 refl,
    subst (λ (x : TableLists). IsReady sizes w t obj x.headers x.pool) (sym n.1)
        (ready_where_unneeded shape sizes w t obj k.header s r k.found (none_between t.lanes k.header.stamp t.epoch n.0)),
  )
]

-- tables that mean a world mean, after a change of a word, the world after that change
pub change_is_represented :
    (shape : ShapeLists) (sizes : Sizes) (w : World) (t t' : TableLists) (obj field value : ℕ)
    → IsSoundWorld shape sizes w
    → Represents sizes w t
    → Changes t t' obj field value
    → Represents sizes (changed sizes w obj field value) t'
change_is_represented shape sizes w t t' obj field value s r c =
    let b = c.between in
    let k = ready shape sizes w t b obj s r c.version in
    let whole : t' ≡ record t { heap = t'.heap; headers = adjust (stamped t.epoch) b.headers obj; pool = b.pool } =
    c.rest ∙ ap (λ (y : TableLists). record y { heap = t'.heap; headers = adjust (stamped t.epoch) b.headers obj }) k.0 in
    subst (λ (x : TableLists). Represents sizes (changed sizes w obj field value) x) (sym whole)
    (ready_is_represented shape sizes w t obj field value t'.heap b.headers b.pool s r k.1 c.heap c.room)
