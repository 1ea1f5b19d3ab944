-- `masks_of` meets its contract: the masks of the descriptors passed are made.
use mathlib.Core.Path.{◌∙◌}
use Prim.Native.Nat.{ℕ}
use lib.ListN.{length-replicate, get_or-replicate}
use Rattle.rules.specs.Layout.{max_slots}
use Rattle.rules.specs.Seid.{index_of}
use Rattle.marks.proofs.Made.{made_none, made-fits, made_more, made_all}
use borrow.Author.Rules.{rules}
use native.Mathlib.Omega.{arith}
use Rattle.marks.proofs.masks_of.Goals as goal

pub loop-d-init : goal.loop-d-init
loop-d-init c = (omega arith, made_none _ _ _ (length-replicate {A = ℕ} max_slots 0) (λ i b. get_or-replicate {A = ℕ} max_slots i 0 0 b))

pub bounds-masks-i : goal.bounds-masks-i
unfolding index_of
bounds-masks-i c = search rules

pub overflow_add-masks : goal.overflow_add-masks
overflow_add-masks c =
    omega (
      arith,
      made-fits c.loop-d.invariant.1 c.word-s.ensures (c.wide-i.ensures ∙ c.index_of.ensures)
          c.class_of.ensures c.power.ensures.0 c.first.ensures (omega arith),
    )

pub bounds-masks-i-in-loop-d : goal.bounds-masks-i-in-loop-d
unfolding index_of
bounds-masks-i-in-loop-d c = search rules

pub loop-d-preserved : goal.loop-d-preserved
loop-d-preserved c = (
  omega arith,
  made_more c.loop-d.invariant.1 c.word-s.ensures (c.wide-i.ensures ∙ c.index_of.ensures)
      c.class_of.ensures c.power.ensures.0 c.first.ensures,
)

pub returns : goal.returns
returns c = made_all _ (omega arith) c.loop-d.invariant.1
