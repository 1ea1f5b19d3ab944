-- `image::reload_in` meets its contract: nothing is written where nothing was read back, and else what was.
use mathlib.Core.Path.{sym, ◌∙◌}
use Rattle.words.proofs.Copies.{sets-all}
use Rattle.image.proofs.Reloading.{front_length, refused, taken, fits-store}
use Rattle.image.proofs.reload_in.Goals as goal

pub returns-in_default : goal.returns-in_default
returns-in_default g c =
    let told = refused _ _ _ _ (front_length _ _ c.requires.room) c.in_default.ensures in
    record { value = told.0; t_after = told.1.0; store_after = told.1.1 }

pub returns : goal.returns
returns g c =
    let told = taken _ _ _ _ (front_length _ _ c.requires.room) _ _ c.in-Some.ensures in
    let whole = fits-store _ _ _ _ (front_length _ _ c.requires.room) _ _ c.in-Some.ensures in
    record {
      value = told.0;
      t_after = c.copy_from_slice.ensures.after ∙ told.1.0;
      store_after = c.put_bytes.ensures ∙ sets-all _ _ (sym whole) ∙ told.1.1;
    }
