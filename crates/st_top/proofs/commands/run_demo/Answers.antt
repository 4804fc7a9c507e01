use Rattle.std.proofs.Common.{◌∙◌, refl}
use Rattle.st_gen.specs.Source.{source_text}
use Rattle.st_top.proofs.commands.run_demo.Goals as goal

pub returns-in-Ok-clause-done : goal.returns-in-Ok-clause-done
returns-in-Ok-clause-done c = c.in_ok-run_as_demo-in-Ok.ensures c.args.n (record {
  text = source_text c.args.n;
  spelled = rw (c.deref.ensures.value ∙ c.in_ok-text.ensures) at c.in-Ok.ensures.accepted;
  told = refl;
})

pub returns-clause-cause : goal.returns-clause-cause
returns-clause-cause c = rw (c.deref.ensures.value ∙ c.in_ok-text.ensures) at c.in-Err.ensures.cause
