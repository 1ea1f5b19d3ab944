-- How long a table and a store are at most.
use mathlib.Core.Bool.{true}
use mathlib.Core.List.{List}
use mathlib.Core.Path.{◌≡◌}
use Prim.Native.Nat.{ℕ, ◌+◌, ◌*◌, ◌≤◌}
use native.Mathlib.Omega.{arith}
use native.Mathlib.Nat.{mul-le-mul}
use lib.ListN.{length}
use Rattle.rules.specs.Claim.{Holds, test}
use Rattle.rules.specs.Layout.{max_slots, max_blocks, block_bytes, process, segment, file, blocks, configuration}
use Rattle.rules.specs.WellFormed.{lengths_exact, well_formed}
use Rattle.laws.proofs.Claims.{holds}
use Rattle.laws.proofs.Shape.{Shape, shape_of}
use Rattle.rules.specs.Image.{word_bytes}
use Rattle.image.specs.Largest.{most_words}
use Rattle.image.proofs.Lengths.{few_bytes}

module _ (t : List ℕ) (m : ℕ) (e : test (well_formed t m) ≡ true) where
  well : Holds (well_formed t m)
  well = holds (well_formed t m) e

  shape : Shape (configuration t)
  unfolding well_formed
  shape = shape_of (configuration t) well.0

  pub few_words : length t ≤ most_words
  unfolding well_formed lengths_exact
  few_words = omega (arith, well.1.0.0, shape.few-cells, shape.few-subtypes, shape.few process, shape.few segment, shape.few file)

  few-stored : m ≤ max_slots * (max_blocks * block_bytes)
  unfolding well_formed lengths_exact
  few-stored =
      let h = configuration t in
      let b : blocks h * block_bytes ≤ max_blocks * block_bytes = omega (arith, shape.few-blocks) in
      omega (arith, well.1.0.1, mul-le-mul (shape.few file) b)

  -- so the length of an image is no large number
  pub small-image : (n : ℕ) → n ≡ length (word_bytes t) → n + m ≤ 5 * most_words + max_slots * (max_blocks * block_bytes)
  small-image n f = omega (arith, few_words, few-stored, few_bytes t)
