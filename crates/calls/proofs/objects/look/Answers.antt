-- `objects::look` meets its contract: of what names nothing nothing is seen, and else each field is what the rules say of the slot.
use Rattle.rules.specs.Layout.{configuration, slots, record_words, live, serial, owner, group}
use Rattle.layout.specs.Kinds.{kind_of}
use Rattle.calls.specs.World.{words_of}
use Rattle.calls.proofs.Names.{bits_small, sixteen, slot-few, cell-is, record-there, bits_in, named_in, not_seen, seen}
use Rattle.calls.proofs.Searches.{record-some}
use Rattle.calls.proofs.Worlds.{see}
use mathlib.Core.Path.{refl, sym, ◌∙◌}
use Prim.Native.Nat.{ℕ, ◌+◌, ◌≤◌, ◌<◌, ◌^◌}
use lib.ListN.{length}
use native.Mathlib.Omega.{arith}
use Rattle.calls.proofs.objects.look.Goals.{After-bits_word-bits_at, After-record_at-at, After-record_at-mine, In-Some}
use Rattle.calls.proofs.objects.look.Goals as goal

-- past the form the slot is one of the table's
slot-in : (c : In-Some) → c.in-Some.x.slot < slots (configuration c.args.t.now)
    (kind_of c.args.kind)
slot-in c =
    named_in c.requires.sound.known _ _ (sym c.name_of.ensures ∙ c.in-Some.is)

-- past the form the object's record is there, and the caller's is
there : (c : After-record_at-at) (j : ℕ) → let args = c.args in j < record_words (kind_of
    args.kind) → c.record_at-at.result + j < length args.t.now
there c j l =
    record-there c.requires.sound _ _ j (slot-in (goal.at.After-record_at-at c).In-Some) l c.record_at-at.ensures.0

-- as far as the words that every record has
front : (c : After-record_at-at) (j : ℕ) → j ≤ group → c.record_at-at.result + j < length c.args.t.now
front c j l =
    there c j (omega (arith, l, record-some (kind_of c.args.kind)))

home-there : (c : After-record_at-mine) (j : ℕ) → j ≤ group → c.record_at-mine.result + j < length c.args.t.now
home-there c j l =
    let sound = c.requires.sound in
    record-there sound _ _ j sound.caller (omega (arith, l)) c.record_at-mine.ensures.0

near : (c : After-bits_word-bits_at) → c.record_at-at.result + c.bits_word-bits_at.result < 2 ^ 45
near c =
    let small = bits_small (kind_of c.args.kind) c.bits_word-bits_at.ensures in
    omega (arith, small, c.record_at-at.ensures.1)

pub returns-in_default : goal.returns-in_default
returns-in_default c =
    let args = c.args in
    not_seen (configuration args.t.now) (words_of args.t.now) args.on.n args.on.me.slot (kind_of args.kind) args.s
    (sym c.name_of.ensures ∙ c.in_default.is) c.unseen.ensures

pub cell_in-cell-requires : goal.cell_in-cell-requires
cell_in-cell-requires c =
    slot-few c.requires.sound.known _ _ (slot-in (goal.at.cell_in-cell-requires c).In-Some)

pub bounds-t-at : goal.bounds-t-at
bounds-t-at c = front (goal.at.bounds-t-at c).After-record_at-at live (omega arith)

pub bounds-t-at-2 : goal.bounds-t-at-2
bounds-t-at-2 c = front (goal.at.bounds-t-at-2 c).After-record_at-at serial (omega arith)

pub bounds-t-at-3 : goal.bounds-t-at-3
bounds-t-at-3 c = front (goal.at.bounds-t-at-3 c).After-record_at-at owner (omega arith)

pub bounds-t-at-4 : goal.bounds-t-at-4
bounds-t-at-4 c =
    front (goal.at.bounds-t-at-4 c).After-record_at-at group (omega arith)

pub overflow_add-bits : goal.overflow_add-bits
overflow_add-bits c = omega (arith, near (goal.at.overflow_add-bits c).After-bits_word-bits_at)

pub offset_bounds-t-at-5 : goal.offset_bounds-t-at-5
offset_bounds-t-at-5 c = omega (arith, near (goal.at.offset_bounds-t-at-5 c).After-bits_word-bits_at)

pub bounds-t-at-5 : goal.bounds-t-at-5
bounds-t-at-5 c =
    let kind = kind_of c.args.kind in
    there (goal.at.bounds-t-at-5 c).After-record_at-at c.bits_word-bits_at.result (omega (arith, c.bits_word-bits_at.ensures, bits_in kind))

pub bounds-t-mine : goal.bounds-t-mine
bounds-t-mine c = home-there (goal.at.bounds-t-mine c).After-record_at-mine owner (omega arith)

pub bounds-t-mine-2 : goal.bounds-t-mine-2
bounds-t-mine-2 c = home-there (goal.at.bounds-t-mine-2 c).After-record_at-mine group (omega arith)

pub flow_at-flows-requires : goal.flow_at-flows-requires
flow_at-flows-requires c =
    sixteen _ c.requires.handed.matrix

pub returns : goal.returns
returns c =
    let known = c.requires.sound.known in let place = c.record_at-at.ensures.0 in let home = c.record_at-mine.ensures.0 in
    seen c.requires.sound c.requires.handed.matrix _ _ (sym c.name_of.ensures ∙ c.in-Some.is) (cell-is known _ _ c.requires.handed.told
    (slot-in (goal.at.returns c).In-Some) c.cell_in-cell.ensures) (see known _ _ _ place refl) (see known _ _ _ place refl) (see known _ _ _ place refl)
    (see known _ _ _ place refl) c.bits_word-bits_at.ensures (see known _ _ _ place refl) (see known _ _ _ home refl)
    (see known _ _ _ home refl) c.flow_at-flows.ensures c.rights-rights.ensures
