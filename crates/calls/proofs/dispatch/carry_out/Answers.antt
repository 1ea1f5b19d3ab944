-- `dispatch::carry_out` meets its contract: each call has its rule, creating calls are given their slot, and open is told what a working slice tells.
use mathlib.Core.Path.{refl, ap}
use Rattle.calls.specs.World.{Sound}
use Rattle.calls.specs.Codes.{code_number}
use Rattle.calls.proofs.Whole.{sound-read}
use Rattle.calls.proofs.Codes.{plain-1, plain-2, plain-3, plain-4, plain-5, plain-6, plain-7, plain-8, plain-9, plain-10, plain-11, plain-12, plain-18, plain-19, plain-20, plain-through, through-13, through-14, through-15, through-16, through-17, through-21}
use Rattle.calls.proofs.dispatch.carry_out.Goals.{After-header_of-n}
use Rattle.calls.proofs.dispatch.carry_out.Goals as goal

-- the header that was read is the table's
sound-here : (c : After-header_of-n) → Sound c.args.t.now c.header_of-n.result c.args.me
sound-here c = sound-read c.header_of-n.ensures c.requires.0

pub slot_made-q-requires : goal.slot_made-q-requires
slot_made-q-requires c =
    let pre = c.requires in
    (sound-here (goal.at.slot_made-q-requires c).After-header_of-n, pre.3)

pub spawn-requires : goal.spawn-requires
spawn-requires c =
    let pre = c.requires in
    (sound-here (goal.at.spawn-requires c).After-header_of-n, c.slot_made-q.ensures.spawned (ap code_number c.in-Spawn.is))

pub release_process-requires : goal.release_process-requires
release_process-requires c =
    let pre = c.requires in
    record { sound = sound-here (goal.at.release_process-requires c).After-header_of-n; handed = pre.1 }

pub build_segment-requires : goal.build_segment-requires
build_segment-requires c =
    let pre = c.requires in
    (sound-here (goal.at.build_segment-requires c).After-header_of-n, c.slot_made-q.ensures.built (ap code_number c.in-BuildSegment.is))

pub rendezvous-requires : goal.rendezvous-requires
rendezvous-requires c =
    let pre = c.requires in
    record { sound = sound-here (goal.at.rendezvous-requires c).After-header_of-n; handed = pre.1 }

pub give_up-requires : goal.give_up-requires
give_up-requires c =
    let pre = c.requires in
    (sound-here (goal.at.give_up-requires c).After-header_of-n, refl)

pub set_access-requires : goal.set_access-requires
set_access-requires c =
    let pre = c.requires in
    record { sound = sound-here (goal.at.set_access-requires c).After-header_of-n; handed = pre.1 }

pub create-requires : goal.create-requires
create-requires c =
    let pre = c.requires in
    (sound-here (goal.at.create-requires c).After-header_of-n, c.slot_made-q.ensures.created (ap code_number c.in-Create.is))

pub or_self-s-requires : goal.or_self-s-requires
or_self-s-requires c =
    let pre = c.requires in
    (sound-here (goal.at.or_self-s-requires c).After-header_of-n)

pub foretold-x-requires : goal.foretold-x-requires
foretold-x-requires c =
    let pre = c.requires in
    (record { sound = sound-here (goal.at.foretold-x-requires c).After-header_of-n; told = pre.1.told }, pre.3)

pub open-requires : goal.open-requires
open-requires c =
    let pre = c.requires in
    (record { sound = sound-here (goal.at.open-requires c).After-header_of-n; handed = pre.1 }, rw c.or_self-s.ensures at c.foretold-x.ensures)

pub give_up-requires-in-Close : goal.give_up-requires-in-Close
give_up-requires-in-Close c =
    let pre = c.requires in
    (sound-here (goal.at.give_up-requires-in-Close c).After-header_of-n, refl)

pub link-requires : goal.link-requires
link-requires c =
    let pre = c.requires in
    record { sound = sound-here (goal.at.link-requires c).After-header_of-n; handed = pre.1 }

pub unlink-requires : goal.unlink-requires
unlink-requires c =
    let pre = c.requires in
    record { sound = sound-here (goal.at.unlink-requires c).After-header_of-n; handed = pre.1 }

pub set_bits-requires : goal.set_bits-requires
set_bits-requires c =
    let pre = c.requires in
    record { sound = sound-here (goal.at.set_bits-requires c).After-header_of-n; handed = pre.1 }

pub read_block-requires : goal.read_block-requires
read_block-requires c =
    let pre = c.requires in
    (record { sound = sound-here (goal.at.read_block-requires c).After-header_of-n; handed = pre.1 }, pre.2)

pub write_block-requires : goal.write_block-requires
write_block-requires c =
    let pre = c.requires in
    (record { sound = sound-here (goal.at.write_block-requires c).After-header_of-n; handed = pre.1 }, pre.2)

pub post-requires : goal.post-requires
post-requires c =
    let pre = c.requires in
    record { sound = sound-here (goal.at.post-requires c).After-header_of-n; handed = pre.1 }

pub receive-requires : goal.receive-requires
receive-requires c =
    let pre = c.requires in
    (sound-here (goal.at.receive-requires c).After-header_of-n)

pub status-requires : goal.status-requires
status-requires c =
    let pre = c.requires in
    record { sound = sound-here (goal.at.status-requires c).After-header_of-n; handed = pre.1 }

pub access_of-requires : goal.access_of-requires
access_of-requires c =
    let pre = c.requires in
    record { sound = sound-here (goal.at.access_of-requires c).After-header_of-n; handed = pre.1 }

pub remap-requires : goal.remap-requires
remap-requires c =
    let pre = c.requires in
    record { sound = sound-here (goal.at.remap-requires c).After-header_of-n; handed = pre.1 }

pub page_access-requires : goal.page_access-requires
page_access-requires c =
    let pre = c.requires in
    record { sound = sound-here (goal.at.page_access-requires c).After-header_of-n; handed = pre.1 }

pub regrade-requires : goal.regrade-requires
regrade-requires c =
    let pre = c.requires in
    (record { sound = sound-here (goal.at.regrade-requires c).After-header_of-n; handed = pre.1 }, pre.2, c.slot_made-q.ensures.copied (ap code_number c.in-Regrade.is))

pub returns-in-Spawn : goal.returns-in-Spawn
returns-in-Spawn c = plain-through _ _ (plain-1 _ _ _ _ _ _ (ap code_number c.in-Spawn.is) c.spawn.ensures _ _)

pub returns-in-ReleaseProcess : goal.returns-in-ReleaseProcess
returns-in-ReleaseProcess c = plain-through _ _ (plain-2 _ _ _ _ _ _ (ap code_number c.in-ReleaseProcess.is) c.release_process.ensures _ _)

pub returns-in-BuildSegment : goal.returns-in-BuildSegment
returns-in-BuildSegment c = plain-through _ _ (plain-3 _ _ _ _ _ _ (ap code_number c.in-BuildSegment.is) c.build_segment.ensures _ _)

pub returns-in-Rendezvous : goal.returns-in-Rendezvous
returns-in-Rendezvous c = plain-through _ _ (plain-4 _ _ _ _ _ _ (ap code_number c.in-Rendezvous.is) c.rendezvous.ensures _ _)

pub returns-in-ReleaseSegment : goal.returns-in-ReleaseSegment
returns-in-ReleaseSegment c = plain-through _ _ (plain-5 _ _ _ _ _ _ (ap code_number c.in-ReleaseSegment.is) c.give_up.ensures _ _)

pub returns-in-SetAccess : goal.returns-in-SetAccess
returns-in-SetAccess c = plain-through _ _ (plain-6 _ _ _ _ _ _ (ap code_number c.in-SetAccess.is) c.set_access.ensures _ _)

pub returns-in-Create : goal.returns-in-Create
returns-in-Create c = plain-through _ _ (plain-7 _ _ _ _ _ _ (ap code_number c.in-Create.is) c.create.ensures _ _)

pub returns-in-Open : goal.returns-in-Open
returns-in-Open c = plain-through _ _ (plain-8 _ _ _ _ _ _ (ap code_number c.in-Open.is) c.open.ensures _ _)

pub returns-in-Close : goal.returns-in-Close
returns-in-Close c = plain-through _ _ (plain-9 _ _ _ _ _ _ (ap code_number c.in-Close.is) c.give_up-in-Close.ensures _ _)

pub returns-in-Link : goal.returns-in-Link
returns-in-Link c = plain-through _ _ (plain-10 _ _ _ _ _ _ (ap code_number c.in-Link.is) c.link.ensures _ _)

pub returns-in-Unlink : goal.returns-in-Unlink
returns-in-Unlink c = plain-through _ _ (plain-11 _ _ _ _ _ _ (ap code_number c.in-Unlink.is) c.unlink.ensures _ _)

pub returns-in-SetBits : goal.returns-in-SetBits
returns-in-SetBits c = plain-through _ _ (plain-12 _ _ _ _ _ _ (ap code_number c.in-SetBits.is) c.set_bits.ensures _ _)

pub returns-in-ReadBlock : goal.returns-in-ReadBlock
returns-in-ReadBlock c = through-13 _ _ _ _ _ _ _ _ (ap code_number c.in-ReadBlock.is) c.read_block.ensures

pub returns-in-WriteBlock : goal.returns-in-WriteBlock
returns-in-WriteBlock c = through-14 _ _ _ _ _ _ _ _ (ap code_number c.in-WriteBlock.is) c.write_block.ensures

pub returns-in-Post : goal.returns-in-Post
returns-in-Post c = through-15 _ _ _ _ _ _ _ _ (ap code_number c.in-Post.is) c.post.ensures

pub returns-in-Receive : goal.returns-in-Receive
returns-in-Receive c = through-16 _ _ _ _ _ _ _ _ (ap code_number c.in-Receive.is) c.receive.ensures

pub returns-in-Status : goal.returns-in-Status
returns-in-Status c = through-17 _ _ _ _ _ _ _ _ (ap code_number c.in-Status.is) c.status.ensures

pub returns-in-Access : goal.returns-in-Access
returns-in-Access c = plain-through _ _ (plain-18 _ _ _ _ _ _ (ap code_number c.in-Access.is) c.access_of.ensures _ _)

pub returns-in-Remap : goal.returns-in-Remap
returns-in-Remap c = plain-through _ _ (plain-19 _ _ _ _ _ _ (ap code_number c.in-Remap.is) c.remap.ensures _ _)

pub returns-in-PageAccess : goal.returns-in-PageAccess
returns-in-PageAccess c = plain-through _ _ (plain-20 _ _ _ _ _ _ (ap code_number c.in-PageAccess.is) c.page_access.ensures _ _)

pub returns-in-Regrade : goal.returns-in-Regrade
returns-in-Regrade c = through-21 _ _ _ _ _ _ _ _ (ap code_number c.in-Regrade.is) c.regrade.ensures
