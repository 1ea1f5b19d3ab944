-- `session::run` meets its contract.
use Rattle.std.proofs.Common.{refl}
use Rattle.session.proofs.Ways.{ran}
use Rattle.session.proofs.run.Goals as goal

pub returns : goal.returns
returns c =
    ran _ _ _ _ _ _ _ _ _ _ _ _ _ _ _ _ _ _ _ c.min-words.ensures c.min-bytes.ensures c.min.ensures c.min-k.ensures refl c.call-r.ensures.answered
    c.call-r.ensures.table c.call-r.ensures.store c.call-r.ensures.buffer c.call-r.auto.table
    c.call-r.auto.store c.call-r.auto.buffer c.put_line.ensures
