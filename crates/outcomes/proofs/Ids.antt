-- The public functions of crates/ids.
use mathlib.Core.Path.{refl}
use Rattle.ids.proofs as code
use Rattle.outcomes.proofs.Exact.{Exact, one}

pub ProcessId-check : Exact code.ProcessIdIdentifier.check.Kinds.ps code.ProcessIdIdentifier.check.Kinds.r code.ProcessIdIdentifier.check.Reads.Asked code.ProcessIdIdentifier.check.Reads.Learnt
ProcessId-check = (λ κs a. tt, λ κs a z z' w w' p q. (one p q, refl))

pub ProcessId-index : Exact code.ProcessIdIdentifier.index.Kinds.ps code.ProcessIdIdentifier.index.Kinds.r code.ProcessIdIdentifier.index.Reads.Asked code.ProcessIdIdentifier.index.Reads.Learnt
ProcessId-index = (λ κs a. tt, λ κs a z z' w w' p q. (one p q, refl))

pub ProcessId-serial : Exact code.ProcessIdIdentifier.serial.Kinds.ps code.ProcessIdIdentifier.serial.Kinds.r code.ProcessIdIdentifier.serial.Reads.Asked code.ProcessIdIdentifier.serial.Reads.Learnt
ProcessId-serial = (λ κs a. tt, λ κs a z z' w w' p q. (one p q, refl))

pub ProcessId-word : Exact code.ProcessIdIdentifier.word.Kinds.ps code.ProcessIdIdentifier.word.Kinds.r code.ProcessIdIdentifier.word.Reads.Asked code.ProcessIdIdentifier.word.Reads.Learnt
ProcessId-word = (λ κs a. tt, λ κs a z z' w w' p q. (one p q, refl))

pub SegmentId-check : Exact code.SegmentIdIdentifier.check.Kinds.ps code.SegmentIdIdentifier.check.Kinds.r code.SegmentIdIdentifier.check.Reads.Asked code.SegmentIdIdentifier.check.Reads.Learnt
SegmentId-check = (λ κs a. tt, λ κs a z z' w w' p q. (one p q, refl))

pub SegmentId-index : Exact code.SegmentIdIdentifier.index.Kinds.ps code.SegmentIdIdentifier.index.Kinds.r code.SegmentIdIdentifier.index.Reads.Asked code.SegmentIdIdentifier.index.Reads.Learnt
SegmentId-index = (λ κs a. tt, λ κs a z z' w w' p q. (one p q, refl))

pub SegmentId-serial : Exact code.SegmentIdIdentifier.serial.Kinds.ps code.SegmentIdIdentifier.serial.Kinds.r code.SegmentIdIdentifier.serial.Reads.Asked code.SegmentIdIdentifier.serial.Reads.Learnt
SegmentId-serial = (λ κs a. tt, λ κs a z z' w w' p q. (one p q, refl))

pub SegmentId-word : Exact code.SegmentIdIdentifier.word.Kinds.ps code.SegmentIdIdentifier.word.Kinds.r code.SegmentIdIdentifier.word.Reads.Asked code.SegmentIdIdentifier.word.Reads.Learnt
SegmentId-word = (λ κs a. tt, λ κs a z z' w w' p q. (one p q, refl))

pub FileId-check : Exact code.FileIdIdentifier.check.Kinds.ps code.FileIdIdentifier.check.Kinds.r code.FileIdIdentifier.check.Reads.Asked code.FileIdIdentifier.check.Reads.Learnt
FileId-check = (λ κs a. tt, λ κs a z z' w w' p q. (one p q, refl))

pub FileId-index : Exact code.FileIdIdentifier.index.Kinds.ps code.FileIdIdentifier.index.Kinds.r code.FileIdIdentifier.index.Reads.Asked code.FileIdIdentifier.index.Reads.Learnt
FileId-index = (λ κs a. tt, λ κs a z z' w w' p q. (one p q, refl))

pub FileId-serial : Exact code.FileIdIdentifier.serial.Kinds.ps code.FileIdIdentifier.serial.Kinds.r code.FileIdIdentifier.serial.Reads.Asked code.FileIdIdentifier.serial.Reads.Learnt
FileId-serial = (λ κs a. tt, λ κs a z z' w w' p q. (one p q, refl))

pub FileId-word : Exact code.FileIdIdentifier.word.Kinds.ps code.FileIdIdentifier.word.Kinds.r code.FileIdIdentifier.word.Reads.Asked code.FileIdIdentifier.word.Reads.Learnt
FileId-word = (λ κs a. tt, λ κs a z z' w w' p q. (one p q, refl))

pub seid : Exact code.seid.Kinds.ps code.seid.Kinds.r code.seid.Reads.Asked code.seid.Reads.Learnt
seid = (λ κs a. tt, λ κs a z z' w w' p q. (one p q, refl))
