-- `rights::access` meets its contract: the four cases.
use mathlib.Core.Bool.{Bool, true, false}
use mathlib.Core.Path.{◌≡◌, refl}
use Prim.Native.Nat.{◌+◌, ◌*◌}
use mir.Val.{bool_byte}
use Rattle.rules.specs.Rights.{access}
use Rattle.rights.proofs.access.Goals as goal

by-cases : (read write : Bool) → 256 * bool_byte read + 128 * bool_byte write ≡ access read write
unfolding access
by-cases true true = refl
by-cases true false = refl
by-cases false true = refl
by-cases false false = refl

pub returns : goal.returns
returns c = rw (c.from.ensures, c.from-2.ensures) (by-cases c.args.read c.args.write)
