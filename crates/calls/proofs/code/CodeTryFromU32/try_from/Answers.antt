-- A number that no call has names none.
use mathlib.Core.Path.{refl}
use Prim.Native.Nat.{◌≤◌}
use native.Mathlib.Omega.{arith}
use Rattle.calls.proofs.Whole.{uncalled}
use Rattle.calls.proofs.code.CodeTryFromU32.try_from.Goals as goal

pub returns-in_default : goal.returns-in_default
returns-in_default c = (uncalled _ (λ (low : 1 ≤ c.args.code) (high : c.args.code ≤ 21). omega (arith, low, high)), refl)
