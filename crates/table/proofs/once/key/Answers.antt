-- `once::key` meets its contract.
use Rattle.std.proofs.Common.{ℕ, ◌+◌, ◌*◌, ◌%◌, ◌∙◌, ap₂, arith}
use Rattle.laws.proofs.Seids.{index-small, serial-small}
use Rattle.table.proofs.once.key.Goals as goal

pub overflow_mul-result : goal.overflow_mul-result
overflow_mul-result c =
    omega (arith, c.wide-2.ensures, c.serial_of.ensures, serial-small c.args.s)

pub overflow_add-result : goal.overflow_add-result
overflow_add-result c =
    omega (
      arith,
      c.wide-2.ensures,
      c.serial_of.ensures,
      serial-small c.args.s,
      c.wide.ensures,
      c.index_of.ensures,
      index-small c.args.s,
    )

pub returns : goal.returns
returns c =
    (ap₂ (λ (i x : ℕ). (i + 67 * x) % 256) (c.wide.ensures ∙ c.index_of.ensures) (c.wide-2.ensures ∙ c.serial_of.ensures), omega arith)
