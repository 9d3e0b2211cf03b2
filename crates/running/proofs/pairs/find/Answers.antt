-- `pairs::find` meets its contract: what is looked for is in its bucket's chain. Assumes nothing.
use native.Mathlib.Omega.{arith}
use Rattle.running.specs.Inner.Pairs.{bucket_of_pair}
use Rattle.running.proofs.PairLaws.{pair_falls}
use Rattle.running.proofs.pairs.find.Goals as goal

pub find_in-requires : goal.find_in-requires
find_in-requires c =
    let a = c.args in
    let k = c.requires.5 in
    let n = k.noted in
    record {
      bucket = bucket_of_pair k.by a.table.now a.rows.now a.index.now;
      size = n.size;
      low = omega arith;
      small = c.requires.4;
      chain = n.chain;
      asks = λ j h. (c.requires.0, omega (arith, h, n.chain.small), n.size, c.requires.1.each j h, c.requires.2, c.requires.3);
      one_way = λ j h f t. f t;
      falls = λ j h t. pair_falls k.by a.table.now a.rows.now a.index.now a.r a.i a.b k.is j t;
    }

pub returns : goal.returns
returns c = c.find_in.ensures
