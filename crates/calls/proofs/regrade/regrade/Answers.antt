-- `regrade::regrade` meets its contract: the rule's refusals in their order, the record made and the blocks copied.
use mathlib.Core.Path.{◌≡◌, ◌∙◌}
use lib.ListN.{length}
use Rattle.rules.specs.Rule.{first_refusal}
use Rattle.calls.proofs.BlocksLaws.{Used}
use Rattle.calls.proofs.Leaves.{error-named}
use Rattle.calls.proofs.RegradeLaws.{desk-fits, regrade_tests, regrade-unrefused, regrade-desk, regrade-source, regrade-full, regrade-passed, record-ready, store-ready, regrade-seid, regrade-words, regrade-bytes, regrade-stopped, regrade-done}
use Rattle.calls.proofs.regrade.regrade.Goals.{After-read-size, In_ok-may_use}
use Rattle.calls.proofs.regrade.regrade.Goals as goal

used : (c : After-read-size) → Used c.args.t.now c.args.on.n c.args.on.me c.args.a c.entry_of-d.result
    c.look-f.result c.read-size.result
used c = record { sound = c.requires.0.sound; entry = c.entry_of-d.ensures; seen = c.look-f.ensures; sized = c.read-size.ensures }

-- past the refusals none of them holds
judged : (c : In_ok-may_use) → 0 ≡ first_refusal (regrade_tests c.args.on.n c.args.on.me c.args.a c.entry_of-d.result
    c.look-f.result c.args.b c.args.c (length c.args.buffer.now))
judged c =
    regrade-unrefused c.args.on.n c.args.on.me c.args.a c.entry_of-d.result c.look-f.result c.args.b c.args.c (length c.args.buffer.now)
    c.in_ok-refuse.ensures c.in_ok-may_use.ensures

pub overflow_add-at_desk : goal.overflow_add-at_desk
overflow_add-at_desk c =
    record { fits = desk-fits c.requires.0.sound }

pub returns-in_err-refuse : goal.returns-in_err-refuse
returns-in_err-refuse c =
    regrade-stopped _ _ _ _ _ _ _ _ _
    (regrade-desk (used (goal.at.returns-in_err-refuse c).After-read-size) c.args.store.now c.args.b c.args.c c.args.buffer.now _ c.in_err-refuse.ensures)
    c.from_residual.ensures.0 c.from_residual.ensures.1

pub returns-in_err-may_use : goal.returns-in_err-may_use
returns-in_err-may_use c =
    regrade-stopped _ _ _ _ _ _ _ _ _
    (regrade-source (used (goal.at.returns-in_err-may_use c).After-read-size) c.args.store.now c.args.b c.args.c c.args.buffer.now _
    c.in_ok-refuse.ensures c.in_err-may_use.ensures)
    c.from_residual-in_err-may_use.ensures.0 c.from_residual-in_err-may_use.ensures.1

pub returns-in_err-i : goal.returns-in_err-i
returns-in_err-i c =
    regrade-stopped _ _ _ _ _ _ _ _ _
    (error-named _ _ _ c.in_err-i.ensures.value
    ∙ regrade-full (used (goal.at.returns-in_err-i c).After-read-size) c.args.store.now c.args.b c.args.c c.args.buffer.now
    (judged (goal.at.returns-in_err-i c).In_ok-may_use) c.requires.2 c.in_err-i.ensures.ok_part)
    c.from_residual-in_err-i.ensures.0 c.from_residual-in_err-i.ensures.1

pub make_copy-s-requires : goal.make_copy-s-requires
make_copy-s-requires c =
    let ready = record-ready (used (goal.at.make_copy-s-requires c).After-read-size) c.args.store.now c.args.b c.args.c c.args.buffer.now
    (judged (goal.at.make_copy-s-requires c).In_ok-may_use) c.requires.2 c.in_ok-i.ensures.ok_part in
    (c.requires.0.sound.known, ready.0, ready.1)

pub copy_blocks-requires : goal.copy_blocks-requires
copy_blocks-requires c =
    store-ready (used (goal.at.copy_blocks-requires c).After-read-size) c.args.store.now c.args.b c.args.c c.args.buffer.now
    (judged (goal.at.copy_blocks-requires c).In_ok-may_use) c.requires.2 c.in_ok-i.ensures.ok_part c.requires.1

pub returns : goal.returns
returns c =
    let s = c.args in
    let u = used (goal.at.returns c).After-read-size in
    let none = judged (goal.at.returns c).In_ok-may_use in
    let some = c.in_ok-i.ensures.ok_part in
    regrade-done _ _ _ _ _ _ _ (regrade-passed u s.store.now s.b s.c s.buffer.now none c.requires.2 some)
    (regrade-seid u s.store.now s.b s.c s.buffer.now none c.requires.2 some c.make_copy-s.ensures.value)
    (regrade-words u s.store.now s.b s.c s.buffer.now none c.requires.2 some c.two_bytes-owner.ensures c.two_bytes-group.ensures
    c.make_copy-s.ensures.t_after)
    (regrade-bytes u s.store.now s.b s.c s.buffer.now none c.requires.2 some c.copy_blocks.ensures)
