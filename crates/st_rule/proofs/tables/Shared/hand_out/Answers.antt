use Rattle.std.proofs.Common.{◌∙◌, sym, ap, subst}
use Rattle.st_rule.specs.Keys.{told_by}
use Rattle.atomic_table.specs.Table.{Splits}
use Rattle.st_rule.specs.Rule.{IsSoundTable}
use Rattle.st_rule.specs.Turns.{left_of, right_of}
use Rattle.st_rule.proofs.BoardLemmas.{some_word}
use Rattle.st_rule.specs.Views.{mutator_of}
use Rattle.st_rule.proofs.SplitLemmas.{split_keeps, some_left}
use Rattle.st_rule.proofs.tables.Shared.hand_out.Goals as goal

pub split_seat-seat-requires : goal.split_seat-seat-requires
split_seat-seat-requires g c =
    let table = c.args.self.now in
    let me = c.main.inside.seat.me in
    let told = (told_by g.J.Judge.meant g.J.Judge.right c.args.self.now.table.shared.key) in
    let same = ap (λ s. s.view) c.main.view_is in (
      ap (λ s. s.table) c.main.view_is ∙ c.requires.table.table,
      some_word table.table.shared.key.sizes table.plan _ table.fits table.plan_is table.counted,
      subst (λ x. Splits (IsSoundTable told) c.main.inside.seat.id x (left_of x) (right_of x)) (sym (ap (λ m. m.0) c.main.invariant.mutator))
          (split_keeps told c.main.inside.seat.id (mutator_of me.0)
          (ap (λ v. v.gate.number) same ∙ c.requires.main ∙ ap (λ t. t.sizes.mutators) c.requires.table.terms)
          (some_left _ _ _ _ same c.requires.table.terms c.requires.next c.requires.mutator)),
    )
