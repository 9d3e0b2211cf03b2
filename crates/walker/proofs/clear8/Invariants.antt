-- `clear8` meets its contract. The loop's invariant: where `clear` still holds, none of the first k bytes is byte 10. The measure is what is left of the eight. Assumes nothing.
use mathlib.Core.Path.{◌≡◌}
use mathlib.Core.Bool.{true}
use Prim.Native.Nat.{◌+◌}
use Rattle.walker.specs.Inner.Clear.{Clear}
use Rattle.walker.proofs.clear8.Given as goal

abbrev pub invariant-loop-byte : goal.invariant-loop-byte
invariant-loop-byte l = l.clear ≡ true → Clear l.text l.i (l.i + l.byte-index)
