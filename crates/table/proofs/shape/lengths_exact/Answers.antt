-- `shape::lengths_exact` meets its contract.
use Rattle.std.proofs.Common.{mul-le-mul, arith}
use Rattle.rules.specs.Layout.{file}
use Rattle.rules.specs.WellFormed.{lengths_exact}
use Rattle.table.proofs.Config.{slots_read, base_read, blocks-read}
use Rattle.table.proofs.shape.lengths_exact.Goals as goal

pub overflow_mul-result : goal.overflow_mul-result
overflow_mul-result c =
    omega (arith, c.wide-2.ensures, c.requires.1.few-blocks)

pub overflow_mul-result-2 : goal.overflow_mul-result-2
overflow_mul-result-2 c =
    rw (c.wide.ensures, c.wide-2.ensures) (omega (arith, mul-le-mul c.requires.1.few-files c.requires.1.few-blocks))

pub returns : goal.returns
unfolding lengths_exact
returns c =
    let t = c.args.t.now in
    let n = c.args.n in
    rw (
      c.table_words.ensures,
      c.wide.ensures,
      c.wide-2.ensures,
      base_read t n c.requires.0 file,
      slots_read t n c.requires.0 file,
      blocks-read t n c.requires.0,
    )
