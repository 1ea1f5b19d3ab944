-- `room::free_entry` meets its contract: every entry before the one that is found is filled.
use Rattle.std.proofs.Common.{arith, rules, tests}
use Rattle.std.proofs.lemmas.Iterator.{first_from_Range}
use Rattle.layout.specs.Kinds.{kind_of}
use Rattle.calls.specs.World.{empty_test}
use Rattle.calls.proofs.Searches.{entry-searched}
use mathlib.Core.Bool.{true, false}
use mathlib.Core.Path.{◌≡◌}
use Prim.Native.Nat.{ℕ}
use Rattle.calls.proofs.room.free_entry.Goals as goal

pub returns : goal.returns
unfolding empty_test
returns c =
    let found = first_from_Range _ _ _ _ (λ (d : ℕ). empty_test c.args.t.now c.entry_at-from.result d ≡ true)
    (λ (d : ℕ). empty_test c.args.t.now c.entry_at-from.result d ≡ false) c.find.ensures.ran (λ x q k. grind (arith, tests))
    (λ x q k. (search rules, grind (arith, tests))) in
    entry-searched c.requires.0 (kind_of c.args.kind) _ c.requires.1 c.entry_at-from.ensures.0 _ found
