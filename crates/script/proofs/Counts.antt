-- The numbers of cells and of subtypes that a configuration can have, and their test.
use mathlib.Core.Bool.{true, ◌&&◌}
use mathlib.Core.Path.{◌≡◌}
use Prim.Native.Nat.{ℕ}
use lib.Dec.{leb}
use borrow.Author.Tests.{leb-true, le-leb}
use Rattle.rules.specs.Layout.{max_cells, max_subtypes}
use Rattle.laws.proofs.Tests.{and_left, and_right, and_both}
use Rattle.script.specs.Take.{counts_fit}
use Rattle.script.proofs.Meaning.{Fits}

module _ (c u : ℕ) where
  pub fits-of : counts_fit c u ≡ true → Fits c u
  unfolding counts_fit
  fits-of e =
      let few = and_right (leb 1 c) (leb c max_cells && leb u max_subtypes) e in
      record {
        some-cells = leb-true _ _ (and_left (leb 1 c) (leb c max_cells && leb u max_subtypes) e);
        few-cells = leb-true _ _ (and_left (leb c max_cells) (leb u max_subtypes) few);
        few-subtypes = leb-true _ _ (and_right (leb c max_cells) (leb u max_subtypes) few);
      }

  pub fits-counted : Fits c u → counts_fit c u ≡ true
  unfolding counts_fit
  fits-counted x =
      and_both _ _ (le-leb _ _ x.some-cells) (and_both _ _ (le-leb _ _ x.few-cells) (le-leb _ _ x.few-subtypes))
