-- `shape::header_ok` meets its contract: the header's claims, word by word.
use Rattle.rules.specs.Layout.{process, segment, file}
use Rattle.rules.specs.WellFormed.{header_ok}
use Rattle.table.proofs.Config.{head-word, cells-read, slots_read, blocks-read, guard-read, subtypes-read}
use Rattle.std.proofs.Common.{rules}
use Rattle.table.proofs.shape.header_ok.Goals as goal

pub returns : goal.returns
unfolding header_ok
returns c =
    let t = c.args.t.now in
    let n = c.args.n in
    rw (
      cells-read t n c.requires.1,
      slots_read t n c.requires.1 process,
      slots_read t n c.requires.1 segment,
      slots_read t n c.requires.1 file,
      blocks-read t n c.requires.1,
      guard-read t n c.requires.1,
      subtypes-read t n c.requires.1,
      head-word t 7 (search rules),
    )
