use Rattle.std.proofs.Common.{◌≡◌, length, ℕ, ◌+◌, ◌*◌, ◌<◌, ap, sym, subst, ◌∙◌}
use Rattle.st_snap.specs.Terms.{New, world_after, next_object}
use Rattle.st_snap.specs.Snapshots.{Snapshots, HasSpare, lanes_now, world_of}
use Rattle.st_snap.proofs.HoldsLemmas.{holds_after_event, world_is_sound}
use Rattle.st_snap.proofs.RepresentsSteps.{new_is_represented}
use Rattle.st_snap.proofs.TableLemmas.{made_same_lanes}
use Rattle.st_snap.proofs.snapshots.SnapHeap.new.Goals as goal
use Rattle.st_events.proofs.LegalEvents.{legal_new, new_is_legal}

pub invariant_of-self : goal.invariant_of-self
invariant_of-self c =
    let f = c.self.inside in
    let w = world_after f.shape f.sizes f.journal.events in
    let obj = c.make_object-obj.result in
    let k = c.make_object-obj.ensures in
    let spare : HasSpare (record { shape = f.shape; sizes = f.sizes; journal = f.journal.events }) = subst (λ (s : Snapshots). HasSpare s) (sym c.self.view_is) c.requires.spare in
    let thread : c.args.m < f.sizes.mutators = subst (λ (s : Snapshots). c.args.m < s.sizes.mutators) (sym c.self.view_is) c.requires.thread in
    let room = subst (λ (s : Snapshots). (world_of s).made c.args.m < s.sizes.objects) (sym c.self.view_is) c.requires.room in
    let declared = subst (λ (s : Snapshots). c.args.class < length s.shape.classes) (sym c.self.view_is) c.requires.declared in
    let made = c.self.invariant.tables.live.made c.args.m k.count k.found in
    let number : obj ≡ next_object f.sizes w c.args.m = k.number ∙ ap (λ (n : ℕ). 2 + c.args.m * f.sizes.objects + n) made in
    let legal = new_is_legal f.shape f.sizes w c.args.m obj c.args.class (record { thread = thread; object = number; room = room; some_class = c.requires.class; declared = declared }) in
    holds_after_event f.shape f.sizes f.table c.make_object-obj.new.self f.journal c.append.new.journal
    (New c.args.m obj c.args.class) c.self.invariant spare c.append.ensures.events c.append.ensures.spare
    legal
    (made_same_lanes f.shape f.sizes.objects f.table c.make_object-obj.new.self c.args.m c.args.class obj c.make_object-obj.ensures)
    (new_is_represented f.shape f.sizes w f.table c.make_object-obj.new.self c.args.m obj c.args.class
    (world_is_sound f.shape f.sizes f.table f.journal c.self.invariant) (legal_new f.shape f.sizes w c.args.m obj c.args.class legal) c.self.invariant.tables c.make_object-obj.ensures)

pub returns-clause-legal : goal.returns-clause-legal
returns-clause-legal c = (invariant_of-self c).legal

pub returns-clause-lanes : goal.returns-clause-lanes
returns-clause-lanes c =
    sym (invariant_of-self c).lanes
    ∙ made_same_lanes c.self.inside.shape c.self.inside.sizes.objects c.self.inside.table c.make_object-obj.new.self c.args.m c.args.class
    c.make_object-obj.result c.make_object-obj.ensures ∙ c.self.invariant.lanes ∙ ap lanes_now c.self.view_is
