-- `quick::carry_out_by` meets its contract: where a slice is lent and the call has succeeded, the slice follows it.
use mathlib.Core.Path.{◌≡◌, refl, ◌∙◌}
use native.Mathlib.Omega.{arith}
use Prim.Native.Nat.{◌<◌}
use lib.ListN.{length}
use Rattle.calls.proofs.Leaves.{refusal-some}
use Rattle.calls.proofs.Named.{number-low, number-high}
use Rattle.calls.proofs.QuickSteps.{ready-after, right-after, right-still}
use Rattle.calls.proofs.Whole.{sound-read}
use Rattle.calls.specs.World.{words_of}
use Rattle.calls.specs.Codes.{code_number}
use Rattle.follow.specs.Followed.{noted}
use Rattle.calls.proofs.quick.carry_out_by.Goals.{Joined-lent, then-lent, else-lent}
use Rattle.calls.proofs.quick.carry_out_by.Goals as goal

-- where a slice is lent, what the call is about was noted
about : (c : Joined-lent) → 0 < length c.args.w.now
    → c.if-lent.s ≡ noted (words_of c.args.t.now) c.args.me.slot (code_number c.args.code) c.args.a
about c l = elim c.if-lent.branch [
  | then-lent w ↦ w.s-is ∙ w.note-s.ensures
  | else-lent w ↦ absurd (omega (arith, l, w.if-lent.false))
]

pub note-s-requires : goal.note-s-requires
note-s-requires c =
    sound-read c.header_of-n.ensures c.requires.0

pub follow-requires : goal.follow-requires
follow-requires c =
    let pre = c.requires in let code = c.args.code in
    let after = ready-after _ pre.0 pre.2 _ _ _ _ (number-low code) (number-high code) pre.4 _
    c.in_ok-x.ensures refl c.header_of-n.ensures pre.1.told (about (goal.at.follow-requires c).Joined-lent (omega (arith, c.if-lent-2.true))) in
    (record { sound = after.0; told = after.1 }, after.2)

pub returns-in_err-x-clause-right : goal.returns-in_err-x-clause-right
returns-in_err-x-clause-right c =
    let pre = c.requires in let code = c.args.code in
    λ l. right-still _ pre.0 pre.2 _ _ _ _ (number-low code) (number-high code) pre.4 _
    c.in_err-x.ensures (refusal-some c.in_err-x.field-0.0) (pre.3 l)

pub returns-then-lent-2-clause-right : goal.returns-then-lent-2-clause-right
returns-then-lent-2-clause-right c =
    let pre = c.requires in let code = c.args.code in
    λ l. right-after _ pre.0 pre.2 _ _ _ _ (number-low code) (number-high code) pre.4 _
    c.in_ok-x.ensures refl (about (goal.at.returns-then-lent-2-clause-right c).Joined-lent (omega (arith, l, c.follow.auto.w)))
    (pre.3 (omega (arith, l, c.follow.auto.w))) c.follow.ensures
