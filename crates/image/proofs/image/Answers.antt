-- `image::image` meets its contract: no length, a short buffer, and neither.
use Rattle.image.proofs.Imaged.{no-image, too_short, is-put}
use Rattle.image.proofs.image.Goals as goal

pub returns-in_default : goal.returns-in_default
returns-in_default c = let told = no-image _ _ _ c.in_default.ensures in
    record { value = told.0; out_after = told.1 }

pub returns-then-out-n : goal.returns-then-out-n
returns-then-out-n c = let told = too_short _ _ _ _ c.in-Some.ensures c.if-out-n.true in
    record { value = told.0; out_after = told.1 }

pub returns : goal.returns
returns c =
    let told = is-put _ _ _ _ c.in-Some.ensures c.if-out-n.false _ _ _ c.put_words-at.ensures
    c.put_bytes.ensures in
    record { value = told.0; out_after = told.1 }
