-- Call 13 writes nothing and reads down.
use mathlib.Core.Path.{◌≡◌, sym}
use mathlib.Core.Bool.{Bool, true, false}
use mathlib.Core.List.{List}
use Prim.Native.Nat.{ℕ, ◌+◌, ◌*◌, ◌<◌}
use native.Mathlib.Omega.{arith}
use lib.Dec.{leb}
use lib.ListN.{length}
use Rattle.rules.specs.Layout.{process, file, block_bytes, slots, blocks, stretch, cell_of, flows, Addr}
use Rattle.rules.specs.Call13.{block, read_block}
use Rattle.laws.proofs.Tests.{tests}
use Rattle.secrecy.proofs.Shown.{up-rules, alike-rules, WritesUp, Alike}
use Rattle.secrecy.proofs.View
use Rattle.secrecy.proofs.Lists.{part_same}

pub up13 : {h : List ℕ} {p : ℕ} {r : Addr → ℕ} → View.Here h p r → (st : List ℕ) (a b : ℕ) (buffer : List ℕ)
    → WritesUp h (cell_of h process p) (read_block h r st p a b buffer)
unfolding read_block
up13 v st a b buffer = search up-rules depth 12

same_block : {h : List ℕ} {p : ℕ} {C : ℕ → Bool} {r q : Addr → ℕ} → View.View h p C r q → (s t : List ℕ) → length s ≡ length t → View.Stretches h C s t
    → (f b : ℕ) → f < slots h file → flows h (cell_of h file f) (cell_of h process p) ≡ true → leb (blocks h) b ≡ false → block h t f b ≡ block h s f b
unfolding block
same_block {h} {p} v s t e g f b l m n =
    part_same t s (f * stretch h + b * block_bytes) block_bytes (sym e) (λ j o.
    let k : f * stretch h + b * block_bytes + j ≡ f * stretch h + (b * block_bytes + j) = omega arith in
    let i : b * block_bytes + j < stretch h = omega (arith, tests) in
    rw k (sym (g f (b * block_bytes + j) l i (v.closed (cell_of h file f) (cell_of h process p) m v.within))))

pub alike13 : {h : List ℕ} {p : ℕ} {C : ℕ → Bool} {r q : Addr → ℕ} → View.View h p C r q → (s t : List ℕ) → length s ≡ length t → View.Stretches h C s t
    → (a b : ℕ) (buffer : List ℕ) → Alike h C (read_block h r s p a b buffer) (read_block h q t p a b buffer)
unfolding read_block
alike13 v s t e g a b buffer =
    search (
      alike-rules,
      View.same-held v,
      View.same-used v,
      View.same-below v,
      View.same-stale v,
      View.same-rights v,
      same_block v s t e g,
      View.held_in v.here,
      View.held-flows v.here,
    ) depth 16
