-- From what a step of a read tells its seat to what contracts say of it, and what the seat's struct keeps.
use Rattle.std.proofs.Common.{◌≡◌, ℕ, ◌<◌, sym, refl, ap, subst, ◌∙◌, arith}
use Rattle.std.specs.Prelude.{IsSome}
use mathlib.Core.List.{IsPrefix}
use Rattle.st_layout.specs.declared.limits.TheConstants.{MOST_FIELDS}
use Rattle.st_layout.specs.declared.plans.Plan.{Plan}
use Rattle.st_layout.specs.Names.{FieldWord, cells_of}
use Rattle.st_layout.specs.Layout.{word_of}
use Rattle.st_events.specs.Heap.{word_at}
use Rattle.st_events.specs.Legal.{IsLegal}
use Rattle.st_events.specs.World.{world_after}
use Rattle.st_events.proofs.SoundLemmas.{legal_is_sound}
use Rattle.st_rule.specs.declared.views.LaneView.{LaneView}
use Rattle.st_rule.specs.declared.views.View.TheVariants.{Lane}
use Rattle.st_rule.specs.Board.{plan_of}
use Rattle.st_rule.specs.LaneSeats.{lane_of, IsFairLane, KeepsLane, LaneBecomes, ReadsField, ReadsForward, ReadsCopy, FindsField, FindsForward, FindsCopy}
use Rattle.st_rule.specs.Plays.{Seated}
use Rattle.st_rule.specs.Reading.{past_of, field_read, forward_read, copy_read, TellsOfVersion}
use Rattle.st_rule.specs.Turns.{object_of_header, field_of_word}
use Rattle.st_rule.specs.Holding.{word_or_zero}
use Rattle.st_rule.proofs.LaneSteps.{object_of_cell}
use Rattle.st_rule.proofs.ReachLemmas.{exists_within}

lane_is : (u x : LaneView) → Lane u ≡ Lane x → u ≡ x
lane_is u x e = ap lane_of e

-- ---- which word it is

object_tells : (plan : Plan) (object field place : ℕ) → field < MOST_FIELDS → place ≡ word_of plan (FieldWord object field) → object_of_header plan place ≡ object
unfolding word_of
object_tells plan object field place few is = omega (arith, is, few)

field_tells : (plan : Plan) (object field place : ℕ) → place ≡ word_of plan (FieldWord object field) → field_of_word plan object place ≡ field
unfolding word_of
field_tells plan object field place is = omega (arith, is)

both_tell : (plan : Plan) (object field place : ℕ) → field < MOST_FIELDS → place ≡ word_of plan (FieldWord object field)
    → (object_of_header plan place ≡ object) × (field_of_word plan (object_of_header plan place) place ≡ field)
both_tell plan object field place few is =
    let o = object_tells plan object field place few is in (o, ap (λ k. field_of_word plan k place) o ∙ field_tells plan object field place is)

-- a check's load of this field is one of the object and the field that the word's number names
pub reads_field :
    (object field place word : ℕ) (me after : Seated) (u : LaneView) → me.0 ≡ Lane u → field < MOST_FIELDS → place ≡ word_of (plan_of u.terms.sizes) (FieldWord object field)
    → LaneBecomes (field_read object field) me word after → ReadsField place me word after
reads_field object field place word me after u is few is_place becomes = record {
  reads = λ x e. let both = both_tell (plan_of x.terms.sizes) object field place few
      (is_place ∙ ap (λ (y : LaneView). word_of (plan_of y.terms.sizes) (FieldWord object field)) (lane_is u x (sym is ∙ e))) in
      subst (λ (t : ℕ × ℕ). LaneBecomes (field_read t.0 t.1) me word after) (λ i. (sym both.0 i, sym both.1 i)) becomes;
}

-- and the other way round
pub field_reads :
    (object field place word : ℕ) (me after : Seated) (u : LaneView) → me.0 ≡ Lane u → field < MOST_FIELDS → place ≡ word_of (plan_of u.terms.sizes) (FieldWord object field)
    → ReadsField place me word after → LaneBecomes (field_read object field) me word after
field_reads object field place word me after u is few is_place reads =
    let both = both_tell (plan_of u.terms.sizes) object field place few is_place in
    subst (λ (t : ℕ × ℕ). LaneBecomes (field_read t.0 t.1) me word after) (λ i. (both.0 i, both.1 i)) (reads.reads u is)

-- an object of the past has a cell
pub past_within : (u : LaneView) (object : ℕ) → IsFairLane u → IsSome (past_of u object) → object < cells_of (plan_of u.terms.sizes)
past_within u object fair stood = exists_within u.terms.sizes (world_after u.terms.shape u.terms.sizes u.past) object
    (legal_is_sound u.terms.shape u.terms.sizes fair.shape_fits u.past fair.legal_past).regions stood

-- an object with a cell in the check's past is one of the table's
pub cell_within : (u : LaneView) (object field : ℕ) → IsFairLane u → IsSome (word_at (past_of u) object field) → object < cells_of (plan_of u.terms.sizes)
cell_within u object field fair stood = past_within u object fair (object_of_cell (past_of u object) field stood)

-- ---- what the seat's struct keeps

module _ {before : Seated} (keeps : KeepsLane before) where
  abbrev pub u : LaneView
  u = lane_of before.0

  pub u_is : before.0 ≡ Lane u
  u_is = ap (λ m. m.0) keeps.lane

  module _ {after : Seated} where
    lane_kept : (x : LaneView) → after.0 ≡ Lane x → after.1 ≡ before.1 → x.lane ≡ u.lane → x.check ≡ u.check → IsFairLane x
        → KeepsLane after × (u.lane ≡ (lane_of after.0).lane) × (u.check ≡ (lane_of after.0).check)
    lane_kept x is slots same same_check fair = let here : x ≡ lane_of after.0 = sym (ap lane_of is) in (
      record {
        lane = λ k. ((is ∙ ap Lane here) k, (slots ∙ ap (λ m. m.1) keeps.lane) k);
        fair = subst IsFairLane here fair;
      },
      sym same ∙ ap (λ (y : LaneView). y.lane) here,
      sym same_check ∙ ap (λ (y : LaneView). y.check) here,
    )

    pub field_kept : (object field word : ℕ) → LaneBecomes (field_read object field) before word after → KeepsLane after × (u.lane ≡ (lane_of after.0).lane) × (u.check ≡ (lane_of after.0).check)
    field_kept object field word becomes = lane_kept (field_read object field word u) (becomes.view u u_is) becomes.slots refl refl (record {
      within = keeps.fair.within;
      shape_fits = keeps.fair.shape_fits;
      sizes_fit = keeps.fair.sizes_fit;
      legal_past = keeps.fair.legal_past;
      legal = keeps.fair.legal;
    })

    pub forward_kept : (word : ℕ) → ReadsForward before word after → KeepsLane after × (u.lane ≡ (lane_of after.0).lane) × (u.check ≡ (lane_of after.0).check)
    forward_kept word reads = lane_kept (forward_read word reads.seen u) (reads.view u u_is) reads.slots refl refl (record {
      within = keeps.fair.within;
      shape_fits = keeps.fair.shape_fits;
      sizes_fit = keeps.fair.sizes_fit;
      legal_past = keeps.fair.legal_past;
      legal = reads.legal u u_is;
    })

    pub copy_kept : (word : ℕ) → ReadsCopy before word after → KeepsLane after × (u.lane ≡ (lane_of after.0).lane) × (u.check ≡ (lane_of after.0).check)
    copy_kept word reads = lane_kept (copy_read word u) (reads.becomes.view u u_is) reads.becomes.slots refl refl (record {
      within = keeps.fair.within;
      shape_fits = keeps.fair.shape_fits;
      sizes_fit = keeps.fair.sizes_fit;
      legal_past = keeps.fair.legal_past;
      legal = keeps.fair.legal;
    })

    -- ---- the steps, as contracts see them

    pub field_found : (object field word : ℕ) → LaneBecomes (field_read object field) before word after → (old : LaneView) → u ≡ old → FindsField object field old (lane_of after.0)
    field_found object field word becomes old same = record { word = word; view = ap lane_of (becomes.view u u_is) ∙ ap (field_read object field word) same }

    pub forward_found : (word : ℕ) → ReadsForward before word after → (old : LaneView) → u ≡ old → FindsForward old (lane_of after.0)
    forward_found word reads old same = record {
      word = word;
      seen = reads.seen;
      view = ap lane_of (reads.view u u_is) ∙ ap (forward_read word reads.seen) same;
      goes_on = subst (λ (x : LaneView). IsPrefix x.seen reads.seen) same (reads.goes_on u u_is);
      legal = subst (λ (x : LaneView). IsLegal x.terms.shape x.terms.sizes reads.seen) same (reads.legal u u_is);
      tells = λ r read. subst (λ (x : LaneView). TellsOfVersion x r word reads.seen) same (reads.tells u r u_is (ap (λ (x : LaneView). x.read) same ∙ read));
    }

    pub copy_found : (word : ℕ) → ReadsCopy before word after → (old : LaneView) → u ≡ old → FindsCopy old (lane_of after.0)
    copy_found word reads old same = record {
      word = word;
      view = ap lane_of (reads.becomes.view u u_is) ∙ ap (copy_read word) same;
      tells = λ r read. subst (λ (x : LaneView). word ≡ word_or_zero (past_of x) r.object r.field) same (reads.tells u r u_is (ap (λ (x : LaneView). x.read) same ∙ read));
    }
