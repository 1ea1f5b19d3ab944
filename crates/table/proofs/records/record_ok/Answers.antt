-- `records::record_ok` meets its contract, for a free record and for any other.
use Rattle.rules.specs.Claim.{is}
use Rattle.layout.specs.Kinds.{kind_of}
use Rattle.table.specs.Entries.{record_at}
use Rattle.table.proofs.Record.{free-record, other-record}
use Rattle.table.proofs.records.record_ok.Goals as goal

pub returns-then-live-eq0 : goal.returns-then-live-eq0
returns-then-live-eq0 c =
    let a = c.args in
    rw (c.zeros.ensures, c.record_words.ensures) (free-record (record_at a.t.now a.at) (kind_of a.kind) 0 (is a.alive)
    c.if-live-eq0.true)

pub returns : goal.returns
returns c =
    let a = c.args in
    other-record (record_at a.t.now a.at) (kind_of a.kind) 0 (is a.alive) c.if-live-eq0.false
