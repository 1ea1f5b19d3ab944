-- `regrade::copy_blocks` meets its contract: both stretches lie within the store.
use mathlib.Core.Path.{refl}
use Rattle.calls.proofs.RegradeLaws.{start_fits, blocks-copied}
use Rattle.calls.proofs.regrade.copy_blocks.Goals as goal

pub overflow_mul-from : goal.overflow_mul-from
overflow_mul-from c = record { fits = start_fits c.args.f c.args.blocks c.requires.few-files.0 c.requires.few-blocks refl refl }

pub overflow_mul-to : goal.overflow_mul-to
overflow_mul-to c = record { fits = start_fits c.args.g c.args.blocks c.requires.few-files.1 c.requires.few-blocks refl refl }

pub returns : goal.returns
returns c = blocks-copied c.requires c.copy_within.ensures.after
