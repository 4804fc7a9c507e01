use Rattle.std.proofs.Common.{ap, subst}
use Rattle.st_top.specs.Deeds.{Left}
use Rattle.st_top.specs.Putting.{IsWritten}
use Rattle.st_top.proofs.PuttingLemmas.{put_text_is_written}
use Rattle.st_top.proofs.writing.publish.Goals as goal

pub returns-clause-written : goal.returns-clause-written
returns-clause-written g c =
    let before = g.S.Sink.state c.args.out.now in
    let now = g.S.Sink.state c.put_text-put.new.out in
    let whole = rw c.deref.ensures.value at c.put_text-put.ensures.whole in
    let part = rw c.deref.ensures.value at c.put_text-put.ensures.part in
    subst (λ (l : Left). IsWritten l.status l.output c.status_of_put.result before now) c.left.view_is
    (put_text_is_written c.put_text-put.result _ _ _ before now whole part c.put_text-put.ensures.failed c.status_of_put.ensures.whole c.status_of_put.ensures.cut)

pub returns-clause-ran : goal.returns-clause-ran
returns-clause-ran g c = ap (λ (l : Left). l.ran) c.left.view_is
