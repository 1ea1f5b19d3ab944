-- `setup::begin` meets its contract: each store keeps the length.
use Rattle.std.proofs.Common.{◌+◌, ◌<◌, length, set, arith, lt-length-set}
use Rattle.table.proofs.setup.begin.Goals as goal

pub bounds-t-at-2 : goal.bounds-t-at-2
bounds-t-at-2 c =
    let t = c.args.t.now in
    let a = c.args.at in
    let l : a + 1 < length t = omega arith in
    lt-length-set t (a + 0) 1 l

pub bounds-t-at-3 : goal.bounds-t-at-3
bounds-t-at-3 c =
    let t = c.args.t.now in
    let a = c.args.at in
    let l : a + 2 < length t = omega arith in
    lt-length-set (set t (a + 0) 1) (a + 1) 1 (lt-length-set t (a + 0) 1 l)

pub bounds-t-at-4 : goal.bounds-t-at-4
bounds-t-at-4 c =
    let t = c.args.t.now in
    let a = c.args.at in
    let l : a + 3 < length t = omega arith in
    lt-length-set (set (set t (a + 0) 1) (a + 1) 1) (a + 2) c.args.cell_owner (lt-length-set (set t (a + 0) 1) (a + 1) 1 (lt-length-set t (a + 0) 1 l))

pub bounds-t-at-5 : goal.bounds-t-at-5
bounds-t-at-5 c =
    let t = c.args.t.now in
    let a = c.args.at in
    let l : a + 6 < length t = omega arith in
    let second = set (set t (a + 0) 1) (a + 1) 1 in
    let third = set second (a + 2) c.args.cell_owner in
    lt-length-set third (a + 3) c.args.cell_group
    (lt-length-set second (a + 2) c.args.cell_owner (lt-length-set (set t (a + 0) 1) (a + 1) 1 (lt-length-set t (a + 0) 1 l)))
