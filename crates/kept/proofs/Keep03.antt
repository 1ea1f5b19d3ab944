-- Call 3, build segment, keeps tables well formed.
use mathlib.Core.Path.{◌≡◌, refl}
use mathlib.Core.Bool.{Bool, true, false}
use mathlib.Core.List.{List}
use Prim.Native.Nat.{ℕ, ◌/◌}
use lib.Dec.{ltb}
use borrow.Author.Tests.{ltb-false}
use Rattle.rules.specs.Layout.{max_bits, process, segment, cell_of, Addr}
use Rattle.rules.specs.Rights.{may_read, may_write, access, valid_access}
use Rattle.rules.specs.Find.{free_slot, free_entry}
use Rattle.rules.specs.Call03.{build_segment}
use Rattle.laws.proofs.Tests.{or_left, or_right, passed}
use Rattle.laws.proofs.Refusals.{clear}
use Rattle.kept.proofs.Keeps.{KeptBy, Caller}
use Rattle.kept.proofs.Found.{own-slot, free-entry}
use Rattle.kept.proofs.Created.{created}

access-valid : (x y : Bool) → valid_access (access x y) ≡ true
unfolding valid_access access
access-valid true true = refl
access-valid true false = refl
access-valid false true = refl
access-valid false false = refl

pub keeps : (h : List ℕ) (r : Addr → ℕ) (p : ℕ) → Caller h r p → (a b c : ℕ) (buffer : List ℕ) → KeptBy h r (build_segment h r p a b c buffer)
unfolding build_segment
keeps h r p me a b c buffer e =
    let ok = clear (build_segment h r p a b c buffer).refusals refl e in
    let mine : ℕ = cell_of h process p in
    created h r p me segment tt (free_slot h r segment mine) (free_entry r segment p) (access (may_read (b / 64)) (may_write (b / 64))) b c a 0
    (own-slot h r p me segment ok.1.1.1.0) (free-entry r segment p ok.1.1.0)
    (ltb-false max_bits b (or_left (ltb max_bits b) (ltb 1 c) ok.0)) (ltb-false 1 c (or_right (ltb max_bits b) (ltb 1 c) ok.0), passed _ ok.1.0) tt (access-valid _ _)
