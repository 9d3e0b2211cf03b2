-- `bucket` meets its contract. The loop's invariant: what is left of the row, mixed into what is mixed so far, gives the row's bucket. Assumes nothing.
use borrow.Author.Rules.{rules}
use Rattle.running.proofs.HashLaws.{bucket_small, bucket_begin, bucket_step, bucket_end}
use Rattle.running.proofs.records.bucket.Goals as goal

pub loop-x-init : goal.loop-x-init
loop-x-init c = (search rules, bucket_begin c.args.by c.args.row.now)

pub loop-x-preserved : goal.loop-x-preserved
loop-x-preserved c =
    let loop = c.loop-x in
    (search rules, bucket_step c.args.by c.args.row.now loop.h loop.x-index c.mix-h.result c.loop-x-test.true c.mix-h.ensures.0 loop.invariant.1)

pub returns : goal.returns
returns c =
    let loop = c.loop-x in
    (bucket_end c.args.by c.args.row.now loop.h loop.x-index c.loop-x-test.false loop.invariant.1, bucket_small loop.h loop.invariant.0)
