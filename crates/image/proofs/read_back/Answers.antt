-- `image::read_back` meets its contract: no words, bytes of another number, a table that is not well formed, and none of these.
use mathlib.Core.Path.{sym, ◌∙◌}
use Rattle.image.proofs.Reloading.{unread, read-well, other_length, ill-formed}
use Rattle.image.proofs.read_back.Goals.{else-rest-store_bytes-via-then-rest-store_bytes+else-check, else-rest-store_bytes-via-else-rest-store_bytes}
use Rattle.image.proofs.read_back.Goals as goal

pub returns-in_err-rest : goal.returns-in_err-rest
returns-in_err-rest c = rw c.from_residual.ensures (unread _ _ _ c.in_err-rest.ensures)

pub returns-then-check : goal.returns-then-check
returns-then-check c = read-well _ _ _ _ _ c.in_ok-rest.ensures c.if-rest-store_bytes.true (sym c.check.ensures ∙ c.if-check.true)

pub returns-else-rest-store_bytes : goal.returns-else-rest-store_bytes
returns-else-rest-store_bytes c = elim c.else-rest-store_bytes.branch [
  | else-rest-store_bytes-via-then-rest-store_bytes+else-check w ↦
      ill-formed _ _ _ _ _ c.in_ok-rest.ensures w.if-rest-store_bytes.true (sym w.check.ensures ∙ w.if-check.false)
  | else-rest-store_bytes-via-else-rest-store_bytes w ↦ other_length _ _ _ _ _ c.in_ok-rest.ensures w.if-rest-store_bytes.false
]
