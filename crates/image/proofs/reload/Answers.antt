-- `image::reload` meets its contract: a table longer than the largest is refused.
use native.Mathlib.Omega.{arith}
use Rattle.image.proofs.Reloading.{too_long}
use Rattle.image.proofs.reload.Goals as goal

pub returns-in_default : goal.returns-in_default
returns-in_default c = let told = too_long _ _ _ (omega arith) in
    record { value = told.0; t_after = told.1.0; store_after = told.1.1 }
