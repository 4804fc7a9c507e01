use Rattle.std.proofs.Common.{◌≡◌, ℕ, Option, length, sym, ◌∙◌, subst, arith}
use Rattle.std.proofs.lemmas.List.{length-map}
use Rattle.std.proofs.lemmas.Option.{slice_get_within}
use Rattle.st_events.specs.Terms.{epoch_of}
use Rattle.st_events.proofs.CountLemmas.{epoch_counts_launches}
use Rattle.st_resolved.specs.Views.{program_of, routine_of}
use Rattle.st_mutator.proofs.FewLemmas.{well_formed_has_few_locals}
use Rattle.st_audit.specs.declared.strays.Stray.{Stray}
use Rattle.st_audit.specs.declared.findings.Finding.{Finding}
use Rattle.st_audit.specs.declared.findings.Finding.TheVariants as found
use Rattle.st_audit.specs.declared.verdicts.Wrong.{Wrong}
use Rattle.st_audit.specs.Findings.{HasItsThreads, IsFinding, AreReplayed, AreCompared, AreJudged}
use Rattle.st_audit.proofs.RoomLemmas.{names_are_small}
use Rattle.st_audit.proofs.audits.first_finding.Goals as goal

pub first_stray-requires-clause-few : goal.first_stray-requires-clause-few
first_stray-requires-clause-few c = well_formed_has_few_locals c.args.shape.now (program_of c.args.program.now) c.requires.well_formed

pub first_stray-requires-clause-small : goal.first_stray-requires-clause-small
first_stray-requires-clause-small c =
    names_are_small c.args.shape.now c.args.sizes.now c.requires.well_formed.shape_fits c.requires.sizes c.args.events.now
    (subst (λ (o : Option ℕ). AreReplayed c.args.shape.now c.args.sizes.now c.args.events.now o) c.in-None.is c.in_ok-place.ensures)

pub returns-in-Some-other_count-clause-found : goal.returns-in-Some-other_count-clause-found
returns-in-Some-other_count-clause-found c = λ f e.
    let p = program_of c.args.program.now in
    let other = c.in-Some-other_count.other in
    let d = c.in-Some-other_count.ensures.differ in
    let same : found.VerdictCount other.launches other.verdicts ≡ f = cc in
    let threads : HasItsThreads p c.args.sizes.now = omega (arith, c.if-len-from.false, c.len.ensures, c.from.ensures, length-map c.args.program.now.threads routine_of) in
    subst (λ (g : Finding). IsFinding c.args.shape.now p c.args.sizes.now c.args.events.now c.args.verdicts.now g) same (record {
      threads = threads;
      legal = subst (λ (o : Option ℕ). AreReplayed c.args.shape.now c.args.sizes.now c.args.events.now o) c.in-None.is c.in_ok-place.ensures;
      traces = subst (λ (o : Option Stray). AreCompared p c.args.sizes.now c.args.events.now o) c.in-None-2.is c.in_ok-thread.ensures;
      launches_are = d.1 ∙ c.count_launches.ensures ∙ sym (epoch_counts_launches c.args.shape.now c.args.sizes.now c.args.events.now);
      verdicts_are = d.2;
      differ = λ s. d.0 (sym d.1 ∙ sym s ∙ d.2);
    })

pub returns-in-Some-3-clause-found : goal.returns-in-Some-3-clause-found
returns-in-Some-3-clause-found c = λ f e.
    let p = program_of c.args.program.now in
    let same : found.WrongVerdict c.in-Some-3.field-0.number c.in-Some-3.field-0.plain ≡ f = cc in
    let threads : HasItsThreads p c.args.sizes.now = omega (arith, c.if-len-from.false, c.len.ensures, c.from.ensures, length-map c.args.program.now.threads routine_of) in
    let launches : c.count_launches.result ≡ epoch_of c.args.shape.now c.args.sizes.now c.args.events.now =
    c.count_launches.ensures ∙ sym (epoch_counts_launches c.args.shape.now c.args.sizes.now c.args.events.now) in
    subst (λ (g : Finding). IsFinding c.args.shape.now p c.args.sizes.now c.args.events.now c.args.verdicts.now g) same (record {
      threads = threads;
      legal = subst (λ (o : Option ℕ). AreReplayed c.args.shape.now c.args.sizes.now c.args.events.now o) c.in-None.is c.in_ok-place.ensures;
      traces = subst (λ (o : Option Stray). AreCompared p c.args.sizes.now c.args.events.now o) c.in-None-2.is c.in_ok-thread.ensures;
      count = sym c.in-None-other_count.ensures.same ∙ launches;
      first = subst (λ (o : Option Wrong). AreJudged c.args.shape.now p c.args.sizes.now c.args.events.now c.args.verdicts.now o) c.in-Some-3.is c.in_ok-number.ensures;
    })

pub returns-clause-ok : goal.returns-clause-ok
returns-clause-ok c =
    let p = program_of c.args.program.now in
    let threads : HasItsThreads p c.args.sizes.now = omega (arith, c.if-len-from.false, c.len.ensures, c.from.ensures, length-map c.args.program.now.threads routine_of) in
    let launches : c.count_launches.result ≡ epoch_of c.args.shape.now c.args.sizes.now c.args.events.now =
    c.count_launches.ensures ∙ sym (epoch_counts_launches c.args.shape.now c.args.sizes.now c.args.events.now) in
    let judged = subst (λ (o : Option Wrong). AreJudged c.args.shape.now p c.args.sizes.now c.args.events.now c.args.verdicts.now o) c.in-None-3.is c.in_ok-number.ensures in
    let count : length c.args.verdicts.now ≡ epoch_of c.args.shape.now c.args.sizes.now c.args.events.now = sym c.in-None-other_count.ensures.same ∙ launches in
    record {
      threads = threads;
      legal = subst (λ (o : Option ℕ). AreReplayed c.args.shape.now c.args.sizes.now c.args.events.now o) c.in-None.is c.in_ok-place.ensures;
      traces = subst (λ (o : Option Stray). AreCompared p c.args.sizes.now c.args.events.now o) c.in-None-2.is c.in_ok-thread.ensures;
      count = count;
      right = λ n verdict found. judged n (omega (arith, count, slice_get_within c.args.verdicts.now n verdict found)) verdict found;
    }
