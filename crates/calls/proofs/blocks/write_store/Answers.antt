-- `blocks::write_store` meets its contract: the stretch is lent twice, and only those bytes of the store are written.
use Rattle.calls.proofs.BlocksLaws.{stretch-written}
use Prim.Native.Nat.{◌+◌, ◌-◌, ◌*◌}
use mathlib.Core.Path.{◌≡◌}
use native.Mathlib.Omega.{arith}
use Rattle.calls.proofs.blocks.write_store.Goals as goal

pub returns : goal.returns
returns c =
    let a = c.args in let k : a.f * a.n + a.n - a.f * a.n ≡ a.n = omega arith in stretch-written a.store.now a.buffer.now _ _ (a.f * a.n) a.n _ a.size
    a.b k (omega arith) (omega arith) c.fill_hole.ensures c.fill_block.ensures
