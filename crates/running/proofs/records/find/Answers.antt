-- `records::find` meets its contract: what is looked for is in its bucket's chain. Assumes nothing.
use mathlib.Core.Path.{sym, ap, ◌∙◌}
use native.Mathlib.Omega.{arith}
use Rattle.running.specs.Inner.Chains.{bucket_of}
use Rattle.running.specs.Inner.Held.{bucket_at}
use Rattle.running.proofs.records.find.Goals as goal

pub find_in-requires : goal.find_in-requires
find_in-requires c =
    let s = c.requires.0 in
    record {
      bucket = bucket_at c.args.by c.args.rows.now;
      size = s.size;
      low = omega arith;
      small = c.requires.3;
      chain = s.chain;
      asks = λ j h. (c.requires.1, omega (arith, h, s.few), omega (arith, h, s.few, s.room));
      one_way = λ j h f t. f t;
      falls = λ j h t. ap (bucket_of c.args.by) t ∙ sym c.requires.2;
    }

pub returns : goal.returns
returns c = c.find_in.ensures
