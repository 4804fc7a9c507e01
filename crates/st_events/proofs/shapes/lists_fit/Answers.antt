use Rattle.std.proofs.Common.{rules, ◌↔◌, IsTrue, All}
use Rattle.st_events.specs.Kind.{AreKindsWithin}
use Rattle.st_events.proofs.AllLemmas.{all_items, all_of_items}
use Rattle.st_events.proofs.shapes.lists_fit.Goals as goal

pub returns : goal.returns
returns c =
    let each : IsTrue c.all.result ↔ All (λ kinds. AreKindsWithin c.args.most c.args.classes kinds.items) c.args.lists.now = search rules in (
      λ t. all_items (AreKindsWithin c.args.most c.args.classes) c.args.lists.now (each.0 t),
      λ a. each.1 (all_of_items (AreKindsWithin c.args.most c.args.classes) c.args.lists.now a),
    )
