-- What a key tells of its table, by what a judge means.
use Rattle.std.specs.Prelude.{ℕ, List}
use Rattle.st_events.specs.declared.events.Event.{Event}
use Rattle.st_events.specs.declared.limits.Sizes.{Sizes}
use Rattle.st_events.specs.declared.verdicts.Verdict.{Verdict}
use Rattle.st_events.specs.Shape.{ShapeLists}
use Rattle.st_rule.specs.declared.keys.Key.{Key}
use Rattle.st_rule.specs.declared.views.Terms.{Terms}
use Rattle.st_rule.specs.Rule.{Told}

-- the shape that the judge means, and the sizes
abbrev pub terms_by : {J : Type 0} → (J → ShapeLists) → Key J → Terms
terms_by meant key = record { shape = meant key.judge.value; sizes = key.sizes }

-- the terms, and which verdicts the judge calls right at these sizes
abbrev pub told_by : {J : Type 0} → (J → ShapeLists) → (J → Sizes → List Event → ℕ → Verdict → Type 0) → Key J → Told
told_by meant right key = record { terms = terms_by meant key; right = right key.judge.value key.sizes }
