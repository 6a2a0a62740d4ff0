use native.Mathlib.Omega.{arith}
use Prim.Native.Nat.{◌+◌, ◌%◌}
use mathlib.Core.Path.{sym}
use Rattle.lines.specs.Line.{decimal}
use Rattle.lines.proofs.Decimals.{decimal_one, decimal_more, shorter}
use Rattle.lines.proofs.Pieces.{puts-length, puts_ends, puts_as, byte_as, then_puts}
use Rattle.lines.proofs.Page.+put_decimal.Goals as goal

pub returns-then-x-lt10-clause-put : goal.returns-then-x-lt10-clause-put
returns-then-x-lt10-clause-put t c =
    let x = c.args.x in
    puts_as (byte_as (48 + x) c.digit.ensures c.put_byte.ensures) (decimal x) (sym (decimal_one x (omega arith)))

pub put_byte-requires-2 : goal.put_byte-requires-2
put_byte-requires-2 t c =
    let h = c.put_decimal.ensures.put in
    omega (arith, puts-length h, puts_ends h, shorter c.args.x (omega arith) (omega arith))

pub returns-clause-put : goal.returns-clause-put
returns-clause-put t c =
    let x = c.args.x in
    let last = byte_as (48 + x % 10) c.digit-2.ensures c.put_byte-2.ensures in
    puts_as (then_puts c.put_decimal.ensures.put last) (decimal x) (sym (decimal_more x (omega arith) (omega arith)))

pub returns-clause-upper_bound : goal.returns-clause-upper_bound
returns-clause-upper_bound t c =
    omega (arith, puts_ends c.put_decimal.ensures.put, puts_ends c.put_byte-2.ensures, shorter c.args.x (omega arith) (omega arith))
