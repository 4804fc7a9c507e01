use Rattle.std.proofs.Common.{◌∙◌, ◌-◌, sym, ap, refl, arith}
use Rattle.st_reader.proofs.ReadLemmas.{field_few, live, lost, second_half, low_some, counts_two, copied_word, counts_three}
use Rattle.st_reader.proofs.reading.read.Goals as goal

pub returns-then-hi-check-clause-word : goal.returns-then-hi-check-clause-word
returns-then-hi-check-clause-word g c =
    let h = c.load_both-value in
    live c.args.lane.now h.ensures.both.between c.args.obj c.args.field h.result.0 c.requires.cell h.ensures.both.live h.new.lane h.result.1 h.ensures.both.forward
    (λ e. c.if-hi-check.true (c.hi.ensures.half ∙ e ∙ sym (c.from-check.ensures ∙ c.check.ensures)))

pub returns-then-hi-check-clause-steps : goal.returns-then-hi-check-clause-steps
returns-then-hi-check-clause-steps g c =
    let h = c.load_both-value in
    counts_two c.args.lane.now h.ensures.both.between c.args.obj c.args.field h.result.0 c.requires.cell h.ensures.both.live h.new.lane h.result.1 h.ensures.both.forward
    c.args.steps.now h.new.steps h.ensures.steps

pub returns-then-named-from-clause-lost : goal.returns-then-named-from-clause-lost
returns-then-named-from-clause-lost g c =
    let h = c.load_both-value in (
      refl,
      lost c.args.lane.now h.ensures.both.between c.args.obj c.args.field h.result.0 c.requires.cell h.ensures.both.live h.new.lane h.result.1 h.ensures.both.forward
          (sym c.hi.ensures.half ∙ c.if-hi-check.false ∙ c.from-check.ensures ∙ c.check.ensures) (sym c.lo-named.ensures.half ∙ c.if-named-from.true ∙ c.from.ensures),
    )

pub returns-then-named-from-clause-steps : goal.returns-then-named-from-clause-steps
returns-then-named-from-clause-steps g c =
    let h = c.load_both-value in
    counts_two c.args.lane.now h.ensures.both.between c.args.obj c.args.field h.result.0 c.requires.cell h.ensures.both.live h.new.lane h.result.1 h.ensures.both.forward
    c.args.steps.now h.new.steps h.ensures.steps

pub overflow_sub-named : goal.overflow_sub-named
overflow_sub-named g c =
    let h = c.load_both-value in
    let some = low_some c.args.lane.now h.ensures.both.between c.args.obj c.args.field h.result.0 c.requires.cell h.ensures.both.live h.new.lane h.result.1 h.ensures.both.forward
    (sym c.hi.ensures.half ∙ c.if-hi-check.false ∙ c.from-check.ensures ∙ c.check.ensures) (λ e. c.if-named-from.false (c.lo-named.ensures.half ∙ e ∙ sym c.from.ensures)) in
    let half = c.lo-named.ensures.half in
    omega (arith, some, half)

pub check_copy-requires-clause-second : goal.check_copy-requires-clause-second
check_copy-requires-clause-second g c =
    let h = c.load_both-value in
    second_half c.args.lane.now h.ensures.both.between c.args.obj c.args.field h.result.0 c.requires.cell h.ensures.both.live h.new.lane h.result.1 h.ensures.both.forward
    (sym c.hi.ensures.half ∙ c.if-hi-check.false ∙ c.from-check.ensures ∙ c.check.ensures) (λ e. c.if-named-from.false (c.lo-named.ensures.half ∙ e ∙ sym c.from.ensures))
    (c.lo-named.result - 1) (ap (λ k. k - 1) c.lo-named.ensures.half)

pub check_copy-requires-clause-field : goal.check_copy-requires-clause-field
check_copy-requires-clause-field g c = field_few c.args.lane.now.view c.args.obj c.args.field c.is_fair.ensures c.requires.cell

pub returns-clause-word : goal.returns-clause-word
returns-clause-word g c =
    let h = c.load_both-value in
    copied_word c.args.lane.now h.ensures.both.between c.args.obj c.args.field h.result.0 c.requires.cell h.ensures.both.live h.new.lane h.result.1 h.ensures.both.forward
    c.check_copy.new.seat c.check_copy.result c.check_copy.ensures.seat c.check_copy.ensures.fair c.check_copy.ensures.view c.check_copy.ensures.found
    (sym c.hi.ensures.half ∙ c.if-hi-check.false ∙ c.from-check.ensures ∙ c.check.ensures) (λ e. c.if-named-from.false (c.lo-named.ensures.half ∙ e ∙ sym c.from.ensures))

pub returns-clause-steps : goal.returns-clause-steps
returns-clause-steps g c =
    let h = c.load_both-value in
    counts_three c.args.lane.now h.ensures.both.between c.args.obj c.args.field h.result.0 c.requires.cell h.ensures.both.live h.new.lane h.result.1 h.ensures.both.forward
    c.check_copy.new.seat c.check_copy.result c.check_copy.ensures.seat c.check_copy.ensures.fair c.check_copy.ensures.view c.check_copy.ensures.found
    (sym c.hi.ensures.half ∙ c.if-hi-check.false ∙ c.from-check.ensures ∙ c.check.ensures) (λ e. c.if-named-from.false (c.lo-named.ensures.half ∙ e ∙ sym c.from.ensures))
    c.args.steps.now c.tick.new.self (omega (arith, h.ensures.steps, c.tick.ensures))
