-- The tables go on meaning the world: the start, a new object, a launch and a retire
use Rattle.std.proofs.Common.{◌≡◌, ℕ, zero, suc, ◌+◌, ◌<◌, ◌≤◌, cond, inl, inr, List, [], length, slice_get, slice_set, replicate, Option, Some}
use Rattle.std.proofs.Common.{None, refl, sym, ◌∙◌, ap, subst, arith, IsSome}
use Rattle.std.specs.List.{count_by}
use Rattle.std.proofs.lemmas.List.{length-set, length-replicate}
use Rattle.std.proofs.lemmas.List.Elements.{All-weaker}
use Rattle.std.proofs.lemmas.Option.{slice_get_within}
use Rattle.std.proofs.lemmas.Bool.Decides.{eqb_tells}
use Rattle.std.proofs.lemmas.List.Sums.{sum_by-cons}
use Rattle.st_snap.specs.Terms.{New, Launch, Retire, Args, Sizes, ShapeLists, Heap, with_object, fresh, World, Launched, next, first_world, at, without, LegalNew}
use Rattle.st_events.specs.World.{released}
use Rattle.st_events.specs.Sound.{IsSoundWorld}
use Rattle.st_events.proofs.WorldLemmas.{at_same, at_other}
use Rattle.st_events.proofs.SoundHeap.{next_is_absent}
use Rattle.st_snap.specs.declared.headers.Header.{Header}
use Rattle.st_snap.specs.Lanes.{is_idle, is_between}
use Rattle.st_snap.specs.Pool.{KeptVersion, is_read}
use Rattle.st_snap.specs.Table.{TableLists, AreFirstTables, Makes, adjust, stamped, retired_at, released_pool}
use Rattle.st_snap.specs.Represents.{Represents, IsForwardOf}
use Rattle.st_snap.proofs.AnyLemmas.{found_any}
use Rattle.st_snap.proofs.ListLemmas.{replicated_is_one, adjusting_keeps_length, adjusted_elsewhere, adjusted_stood_before}
use Rattle.st_snap.proofs.LaneLemmas.{set_here, set_elsewhere, lanes_at_launch, lanes_at_retire, between_is_active}
use Rattle.st_snap.proofs.RowLemmas.{launch_keeps_rows, retire_leaves_rows, contained_if_passing, between_is_within, needed_none, needed_launch, needed_retire}
use Rattle.st_snap.proofs.TargetLemmas.{target_is_kept, stamping_keeps_forwards}

-- ---- the start

all_idle_at_first : (n : ℕ) → count_by is_idle (replicate n None) ≡ n
all_idle_at_first zero = refl
all_idle_at_first (suc n) = sum_by-cons (λ l. cond (is_idle l) 1 0) None (replicate n None) ∙ rw (all_idle_at_first n) (omega arith)

no_check_at_first : (n lane k : ℕ) → slice_get (replicate n None) lane ≡ Some (Some k) → ⊥
no_check_at_first n lane k e = let f : Some k ≡ None = replicated_is_one n None lane (Some k) e in cc

-- the first tables mean the world before the first event
pub first_is_represented :
    (shape : ShapeLists) (sizes : Sizes) (t : TableLists)
    → AreFirstTables shape sizes t
    → Represents sizes (first_world shape) t
first_is_represented shape sizes t f = record {
  live = record {
    heap = f.heap;
    room = f.room;
    header_room = f.header_room;
    stamps = f.headers;
    made_room = ap length f.made ∙ length-replicate sizes.mutators 0;
    made = λ m count e. replicated_is_one sizes.mutators 0 m count (ap (λ (ns : List ℕ). slice_get ns m) (sym f.made) ∙ e);
    epoch = f.epoch;
  };
  lanes = record {
    room = ap length f.lanes ∙ length-replicate sizes.lanes None;
    idle = rw (f.lanes, all_idle_at_first sizes.lanes) (omega arith);
    are_active = λ lane n e. absurd (no_check_at_first sizes.lanes lane n (ap (λ (ls : List (Option ℕ)). slice_get ls lane) (sym f.lanes) ∙ e));
    have_lanes = λ n h. cc;
    once = λ lane other n e g. absurd (no_check_at_first sizes.lanes lane n (ap (λ (ls : List (Option ℕ)). slice_get ls lane) (sym f.lanes) ∙ e));
  };
  pool = rw f.pool (record { size = refl; rows = refl; needed = needed_none 0 [] });
  forwards = record {
    epochs = λ obj lane g a. omega (arith, f.forward obj lane a.header g a.found a.forward);
    versions = λ obj lane n g l e. absurd (no_check_at_first sizes.lanes lane n (ap (λ (ls : List (Option ℕ)). slice_get ls lane) (sym f.lanes) ∙ e));
  };
}

-- ---- a new object

-- it stood in no heap of a launch
new_is_in_no_past :
    (shape : ShapeLists) (sizes : Sizes) (w : World) (obj n : ℕ) (l : Launched)
    → IsSoundWorld shape sizes w
    → w.heap obj ≡ None
    → w.launched n ≡ Some l
    → IsSome (l.past obj)
    → ⊥
new_is_in_no_past shape sizes w obj n l s none e stood =
    let first = s.launches.only n l e in
    let stamp = s.stamps.unmade obj none in
    let past : l.past obj ≡ None = s.pasts.same obj n l e (omega (arith, stamp, first)) ∙ none in
    let h = rw past at stood in cc

-- tables that mean a world mean, with the new object, the world after its New
pub new_is_represented :
    (shape : ShapeLists) (sizes : Sizes) (w : World) (t t' : TableLists) (m obj class : ℕ)
    → IsSoundWorld shape sizes w
    → LegalNew shape sizes w m obj class
    → Represents sizes w t
    → Makes shape sizes.objects t t' m class obj
    → Represents sizes (next shape sizes w (New m obj class)) t'
new_is_represented shape sizes w t t' m obj class s l r k = subst (λ (x : TableLists). Represents sizes (next shape sizes w (New m obj class)) x) (sym k.rest) (record {
  live = record {
    heap = k.heap ∙ ap (λ (h : Heap). with_object h obj (fresh shape class)) r.live.heap;
    room = k.room ∙ r.live.room;
    header_room = adjusting_keeps_length (stamped t.epoch) t.headers obj ∙ r.live.header_room;
    stamps = λ o h e. elim (eqb_tells o obj) [
      | inl y ↦ (let b = adjusted_stood_before (stamped t.epoch) t.headers obj h (ap (slice_get (adjust (stamped t.epoch) t.headers obj)) (sym y.1) ∙ e) in
          ap (λ (x : Header). x.stamp) b.2 ∙ r.live.epoch ∙ sym (at_same obj w.epoch w.stamp) ∙ ap (at obj w.epoch w.stamp) (sym y.1))
      | inr n ↦ r.live.stamps o h (sym (adjusted_elsewhere (stamped t.epoch) t.headers obj o n.1) ∙ e) ∙ sym (at_other obj w.epoch w.stamp o n.1)
    ];
    made_room = length-set t.made m (k.count + 1) ∙ r.live.made_room;
    made = λ i count e. elim (eqb_tells i m) [
      | inl y ↦ (let one : k.count + 1 ≡ count = same (k.count + 1) count
          (sym (set_here t.made m (k.count + 1) (slice_get_within t.made m k.count k.found)) ∙ ap (slice_get (slice_set t.made m (k.count + 1))) (sym y.1) ∙ e) in
          sym one ∙ ap (λ n. n + 1) (r.live.made m k.count k.found) ∙ sym (at_same m (w.made m + 1) w.made) ∙ ap (at m (w.made m + 1) w.made) (sym y.1))
      | inr n ↦ r.live.made i count (sym (set_elsewhere t.made m (k.count + 1) i (slice_get_within t.made m k.count k.found) n.1) ∙ e) ∙ sym (at_other m (w.made m + 1) w.made i n.1)
    ];
    epoch = r.live.epoch;
  };
  lanes = r.lanes;
  pool = record { size = r.pool.size; rows = r.pool.rows; needed = r.pool.needed };
  forwards = record {
    epochs = λ o lane f a. r.forwards.epochs o lane f (stamping_keeps_forwards t.epoch t.headers obj o lane f a);
    versions = λ o lane n f lc e g stood a. elim (eqb_tells o obj) [
      | inl y ↦ absurd (new_is_in_no_past shape sizes w obj n lc s (next_is_absent shape sizes w m obj class s.regions l) g (subst (λ (i : ℕ). IsSome (lc.past i)) y.1 stood))
      | inr ne ↦ subst (λ (stamp : ℕ). IsForwardOf stamp w.lost t.pool o n (lc.past o) f) (sym (at_other obj w.epoch w.stamp o ne.1))
          (r.forwards.versions o lane n f lc e g stood (stamping_keeps_forwards t.epoch t.headers obj o lane f a))
    ];
  };
})
  where
    same : (x y : ℕ) → Some x ≡ Some y → x ≡ y
    same x y e = cc

-- ---- a launch

-- tables that mean a world mean, with the check at an idle lane, the world after its Launch
pub launch_is_represented :
    (shape : ShapeLists) (sizes : Sizes) (w : World) (t : TableLists) (m n site i : ℕ) (args : Args)
    → IsSoundWorld shape sizes w
    → n ≡ w.epoch + 1
    → slice_get t.lanes i ≡ Some None
    → Represents sizes w t
    → Represents sizes (next shape sizes w (Launch m site n args)) (record t { epoch = n; lanes = slice_set t.lanes i (Some n) })
launch_is_represented shape sizes w t m n site i args s number idle r = record {
  live = record {
    heap = r.live.heap;
    room = r.live.room;
    header_room = r.live.header_room;
    stamps = r.live.stamps;
    made_room = r.live.made_room;
    made = r.live.made;
    epoch = number;
  };
  lanes = lanes_at_launch sizes w.active t.lanes i n r.lanes idle (λ k a e. omega (arith, s.active.launched k a, e, number));
  pool = record {
    size = r.pool.size;
    rows = launch_keeps_rows w.active n t.pool.versions
        (All-weaker (λ (kept : KeptVersion). kept.version.upto ≤ w.epoch) (λ (kept : KeptVersion). kept.version.upto < n)
        (λ kept h. omega (arith, h, number)) t.pool.versions r.pool.needed.upto) ∙ r.pool.rows;
    needed = needed_launch w.epoch n w.active t.pool.versions r.pool.needed;
  };
  forwards = record {
    epochs = λ o lane f a. omega (arith, r.forwards.epochs o lane f a);
    versions = λ o lane k f l e g stood a. elim (eqb_tells lane i) [
      | inl y ↦ (let one : n ≡ k = same n k (sym (set_here t.lanes i (Some n) (slice_get_within t.lanes i None idle)) ∙ ap (slice_get (slice_set t.lanes i (Some n))) (sym y.1) ∙ e) in
          record {
            forwarded = λ h. absurd (omega (arith, r.forwards.epochs o lane f a, h, one, number));
            live = λ h. omega (arith, s.stamps.epoch o, one, number);
          })
      | inr ne ↦ (let old = sym (set_elsewhere t.lanes i (Some n) lane (slice_get_within t.lanes i None idle) ne.1) ∙ e in
          let active = s.active.launched k (r.lanes.are_active lane k old) in
          r.forwards.versions o lane k f l old
          (sym (at_other n (Some (record { past = w.heap; thread = m; site = site; args = args })) w.launched k (λ h. omega (arith, active, h, number))) ∙ g) stood a)
    ];
  };
}
  where
    same : (x y : ℕ) → Some (Some x) ≡ Some (Some y) → x ≡ y
    same x y e = cc

-- ---- a retire

-- tables that mean a world mean, once the check has left its lane, the world after its Retire
pub retire_is_represented :
    (shape : ShapeLists) (sizes : Sizes) (w : World) (t : TableLists) (m n i : ℕ)
    → IsSoundWorld shape sizes w
    → slice_get t.lanes i ≡ Some (Some n)
    → Represents sizes w t
    → Represents sizes (next shape sizes w (Retire m n)) (retired_at t i)
retire_is_represented shape sizes w t m n i s here r =
    let lanes = lanes_at_retire sizes w.active t.lanes i n r.lanes s.active.rising here in
    record {
      live = record {
        heap = r.live.heap;
        room = r.live.room;
        header_room = r.live.header_room;
        stamps = r.live.stamps;
        made_room = r.live.made_room;
        made = r.live.made;
        epoch = r.live.epoch;
      };
      lanes = lanes;
      pool = record {
        size = r.pool.size;
        rows = retire_leaves_rows n w.active (slice_set t.lanes i None)
            (λ a u. between_is_active sizes (without n w.active) (slice_set t.lanes i None) a u lanes) t.pool.versions ∙ ap (λ rows. released n rows) r.pool.rows;
        needed = needed_retire w.epoch n w.active (slice_set t.lanes i None) t.pool.versions
            (λ a u. between_is_active sizes (without n w.active) (slice_set t.lanes i None) a u lanes) r.pool.needed;
      };
      forwards = record {
        epochs = r.forwards.epochs;
        versions = λ o lane k f l e g stood a.
            let old = before lane k e in
            let v = r.forwards.versions o lane k f l old g stood a in
            record {
              forwarded = λ h. let fw = v.forwarded h in (
                fw.0,
                target_is_kept w.lost w.lost t.pool (released_pool (slice_set t.lanes i None) t.pool) o k (l.past o) f.target refl refl
                    (λ kept low high c. contained_if_passing (is_read (slice_set t.lanes i None)) t.pool.versions kept c
                    (found_any (is_between kept.version.after kept.version.upto) (slice_set t.lanes i None) lane (Some k) e
                    (between_is_within kept.version.after kept.version.upto k low high))) fw.1,
              );
              live = v.live;
            };
      };
    }
  where
    before : (lane k : ℕ) → slice_get (slice_set t.lanes i None) lane ≡ Some (Some k) → slice_get t.lanes lane ≡ Some (Some k)
    before lane k e = elim (eqb_tells lane i) [
      | inl y ↦ (let g : Some None ≡ Some (Some k) = sym (set_here t.lanes i None (slice_get_within t.lanes i (Some n) here)) ∙ ap (slice_get (slice_set t.lanes i None)) (sym y.1) ∙ e in cc)
      | inr ne ↦ sym (set_elsewhere t.lanes i None lane (slice_get_within t.lanes i (Some n) here) ne.1) ∙ e
    ]
