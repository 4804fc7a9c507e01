use Rattle.std.proofs.Common.{refl, arith}
use Rattle.st_resolved.specs.Views.{program_of}
use Rattle.st_mutator.proofs.FewLemmas.{well_formed_has_few_locals}
use Rattle.st_sched.proofs.OpenLemmas.{opened_is_on_the_way}
use Rattle.st_sched.proofs.running.Running.open.Goals as goal

pub seats_of-requires : goal.seats_of-requires
seats_of-requires c = well_formed_has_few_locals c.args.shape.now (program_of c.args.program.now) c.requires.formed

pub returns : goal.returns
returns c =
    opened_is_on_the_way c.args.shape.now (program_of c.args.program.now) c.args.sizes.now c.args.seed _ c.requires.formed c.requires.sizes c.in_ok-make.ensures refl
    (record {
      seats = c.in_ok-seats_of.ensures;
      checks = c.in_ok-with_capacity.ensures.items;
      check_room = omega (arith, c.from-lanes.ensures, c.in_ok-with_capacity.ensures.capacity);
      idle = c.in_ok-evaluators.ensures.made;
      idle_count = c.in_ok-evaluators.ensures.count;
      idle_room = c.in_ok-evaluators.ensures.room;
      verdicts = c.in_ok-with_capacity-2.ensures.items;
      verdict_room = omega (arith, c.most_checks.ensures, c.in_ok-with_capacity-2.ensures.capacity);
      ready_room = omega (arith, c.from-lanes.ensures, c.from-mutators.ensures, c.in_ok-with_capacity-3.ensures.capacity);
      ends = c.in_ok-with_capacity-4.ensures.items;
      end_room = omega (arith, c.from-mutators.ensures, c.in_ok-with_capacity-4.ensures.capacity);
    })
