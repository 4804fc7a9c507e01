-- What holds after every legal journal
use Rattle.std.proofs.Common.{◌≡◌, ℕ, length, ◌≤◌, ◌==◌, cond, Bool, true, false, inl, inr, List, Some, None, refl, sym, ◌∙◌, ap, arith}
use Rattle.std.proofs.lemmas.Bool.Decides.{eqb_tells}
use Rattle.std.proofs.lemmas.List.Elements.{All-nil}
use Rattle.st_events.specs.declared.heaps.TheConstants.{SHARED_OBJECT}
use Rattle.st_events.specs.Terms.{Event, New, Load, Store, Cas, Launch, Retire, Sizes, ShapeLists, IsWithinLimits, Object, fresh, first_heap, World, Row, next}
use Rattle.st_events.specs.Terms.{first_world, world_after, changed, IsLegalNext, IsLegal, LegalStore}
use Rattle.st_events.specs.Sound.{IsSoundWorld}
use Rattle.st_events.proofs.LegalLemmas.{stays}
use Rattle.st_events.proofs.LegalEvents.{legal_new, legal_store, legal_cas, legal_launch, cas_stores, cell_has_object}
use Rattle.st_events.proofs.SoundHeap.{next_is_absent, new_keeps_regions, change_keeps_regions}
use Rattle.st_events.proofs.SoundTypes.{first_is_typed, new_keeps_typed, change_keeps_typed}
use Rattle.st_events.proofs.SoundChecks.{launch_keeps_launches, launch_keeps_active, retire_keeps_active, new_keeps_stamps, change_keeps_stamps, new_keeps_pasts}
use Rattle.st_events.proofs.SoundChecks.{change_keeps_pasts, launch_keeps_pasts, launch_keeps_fitting}
use Rattle.st_events.proofs.SoundRows.{change_keeps_rows, retire_keeps_rows, same_rows_stay}
use Rattle.st_events.proofs.SoundCopies.{new_keeps_versions, change_keeps_versions, launch_keeps_versions, retire_keeps_versions}

-- before the first event
pub first_is_sound : (shape : ShapeLists) (sizes : Sizes) → IsWithinLimits shape → IsSoundWorld shape sizes (first_world shape)
first_is_sound shape sizes limits = record {
  typed = first_is_typed shape limits;
  regions = record { room = λ m. omega arith; objects = λ obj x h. elim (eqb_tells obj SHARED_OBJECT) [ inl e ↦ inl e.1 | inr e ↦ absurd (nothing obj x e.0 h) ] };
  launches = record { launched = λ n low high. absurd (omega arith); only = λ n l h. cc };
  active = record { lanes = omega arith; rising = tt; launched = λ n h. cc };
  stamps = record { epoch = λ obj. omega arith; unmade = λ obj h. refl };
  pasts = record { same = λ obj n l h below. cc };
  copies = record { copies = omega arith; kept_active = λ o n h. cc; kept_noted = λ o n h. cc; lost_noted = λ o n h. cc; whole = λ o n h i. cc };
  rows = record { needed = All-nil (λ (row : Row). 1 ≤ length row.checks); one_row = λ o n. omega arith; not_both = λ o n h. cc; none_idle = λ idle. refl };
  fitting = record { each = λ n l h. cc };
}
  where
    nothing : (obj : ℕ) (x : Object) → (obj == SHARED_OBJECT) ≡ false → first_heap shape obj ≡ Some x → ⊥
    nothing obj x e h = let f : None ≡ Some x = sym (ap (λ (b : Bool). cond b (Some (fresh shape 0)) None) e) ∙ h in cc

-- one change
change_keeps_sound :
    (shape : ShapeLists) (sizes : Sizes) (w : World) (m obj field value : ℕ)
    → LegalStore shape sizes w m obj field value
    → IsSoundWorld shape sizes w
    → IsSoundWorld shape sizes (changed sizes w obj field value)
change_keeps_sound shape sizes w m obj field value l s =
    let there = cell_has_object w.heap obj field l.cell in
    let copies = change_keeps_versions sizes w obj field value there s.launches s.active s.pasts s.copies in
    record {
      typed = change_keeps_typed shape w.heap obj field value l.kind s.typed;
      regions = change_keeps_regions sizes w obj field value s.regions;
      launches = record { launched = s.launches.launched; only = s.launches.only };
      active = record { lanes = s.active.lanes; rising = s.active.rising; launched = s.active.launched };
      stamps = change_keeps_stamps sizes w obj field value there s.stamps;
      pasts = change_keeps_pasts sizes w obj field value s.launches s.pasts;
      copies = copies;
      rows = change_keeps_rows sizes w obj field value s.copies copies s.rows;
      fitting = record { each = s.fitting.each };
    }

-- one more event
pub next_is_sound :
    (shape : ShapeLists) (sizes : Sizes) (w : World) (e : Event)
    → IsSoundWorld shape sizes w
    → IsLegalNext shape sizes w e
    → IsSoundWorld shape sizes (next shape sizes w e)
next_is_sound shape sizes w (New m obj class) s l =
    let legal = legal_new shape sizes w m obj class l in
    let absent = next_is_absent shape sizes w m obj class s.regions legal in
    let copies = new_keeps_versions shape sizes w m obj class absent s.launches s.stamps s.pasts s.copies in
    record {
      typed = new_keeps_typed shape w.heap obj class absent legal.declared s.typed;
      regions = new_keeps_regions shape sizes w m obj class s.regions legal;
      launches = record { launched = s.launches.launched; only = s.launches.only };
      active = record { lanes = s.active.lanes; rising = s.active.rising; launched = s.active.launched };
      stamps = new_keeps_stamps shape sizes w m obj class s.stamps;
      pasts = new_keeps_pasts shape sizes w m obj class s.launches s.pasts;
      copies = copies;
      rows = same_rows_stay sizes w (next shape sizes w (New m obj class)) refl refl copies s.rows;
      fitting = record { each = s.fitting.each };
    }
next_is_sound shape sizes w (Load m obj field value) s l = s
next_is_sound shape sizes w (Store m obj field value) s l = change_keeps_sound shape sizes w m obj field value (legal_store shape sizes w m obj field value l) s
next_is_sound shape sizes w (Cas m obj field expect value true) s l =
    change_keeps_sound shape sizes w m obj field value (cas_stores shape sizes w m obj field expect value true (legal_cas shape sizes w m obj field expect value true l)) s
next_is_sound shape sizes w (Cas m obj field expect value false) s l = s
next_is_sound shape sizes w (Launch m site number args) s l =
    let legal = legal_launch shape sizes w m number site args l in
    let copies = launch_keeps_versions shape sizes w m number site args legal s.launches s.stamps s.copies in
    record {
      typed = s.typed;
      regions = record {
        room = s.regions.room;
        objects =
            λ o x h. elim (s.regions.objects o x h) [ inl one ↦ inl one | inr i ↦ inr (record { m = i.m; k = i.k; thread = i.thread; made = i.made; number = i.number }) ];
      };
      launches = launch_keeps_launches shape sizes w m number site args s.launches legal;
      active = launch_keeps_active shape sizes w m number site args s.active legal;
      stamps = record { epoch = λ o. omega (arith, s.stamps.epoch o); unmade = s.stamps.unmade };
      pasts = launch_keeps_pasts shape sizes w m number site args s.pasts;
      copies = copies;
      rows = same_rows_stay sizes w (next shape sizes w (Launch m site number args)) refl refl copies s.rows;
      fitting = launch_keeps_fitting shape sizes w m number site args s.fitting legal;
    }
next_is_sound shape sizes w (Retire m number) s l = let copies = retire_keeps_versions shape sizes w m number s.copies in record {
  typed = s.typed;
  regions = record {
    room = s.regions.room;
    objects =
        λ o x h. elim (s.regions.objects o x h) [ inl one ↦ inl one | inr i ↦ inr (record { m = i.m; k = i.k; thread = i.thread; made = i.made; number = i.number }) ];
  };
  launches = record { launched = s.launches.launched; only = s.launches.only };
  active = retire_keeps_active shape sizes w m number s.active;
  stamps = record { epoch = s.stamps.epoch; unmade = s.stamps.unmade };
  pasts = record { same = s.pasts.same };
  copies = copies;
  rows = retire_keeps_rows shape sizes w m number copies s.rows;
  fitting = record { each = s.fitting.each };
}

-- all of it, after every legal journal
pub legal_is_sound :
    (shape : ShapeLists) (sizes : Sizes)
    → IsWithinLimits shape
    → (es : List Event)
    → IsLegal shape sizes es
    → IsSoundWorld shape sizes (world_after shape sizes es)
legal_is_sound shape sizes limits es l = stays shape sizes (λ w. IsSoundWorld shape sizes w) (first_is_sound shape sizes limits) (λ w e s n. next_is_sound shape sizes w e s n) es l
