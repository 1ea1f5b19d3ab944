-- Call 14, write block, keeps tables well formed.
use mathlib.Core.Path.{refl}
use mathlib.Core.List.{List}
use Prim.Native.Nat.{ℕ, ◌+◌, max, ◌<◌}
use native.Mathlib.Omega.{arith}
use borrow.Author.Tests.{leb-false}
use Rattle.rules.specs.Layout.{process, file, blocks, Addr, at, held_at, size}
use Rattle.rules.specs.Seid.{index_of}
use Rattle.rules.specs.Call14.{write_block}
use Rattle.laws.proofs.Refusals.{clear}
use Rattle.kept.proofs.Keeps.{KeptBy, Caller}
use Rattle.kept.proofs.Found.{found-held}
use Rattle.kept.proofs.Objects.{alive-now, keeps-word}

pub keeps : (h : List ℕ) (r : Addr → ℕ) (p : ℕ) → Caller h r p → (a b : ℕ) (buffer : List ℕ) → KeptBy h r (write_block h r p a b buffer)
unfolding write_block
keeps h r p c a b buffer e =
    let s : ℕ = r (at process p (held_at file a)) in
    let ok = clear (write_block h r p a b buffer).refusals refl e in
    let f = found-held h r file s ok.1.1.1.1.0 in
    let il = f.parts.index_in in
    let lives = f.here.is_live in
    let bl : b < blocks h = leb-false (blocks h) b ok.1.1.1.1.1.1.0 in
    let x = alive-now h r file tt (index_of s) (c.fine.own file (index_of s) il) lives in
    keeps-word h r c.fine file tt (index_of s) il lives size (max (r (at file (index_of s) size)) (b + 1)) (omega arith) (omega arith)
    (record { bits_fit = x.bits_fit; particular = (x.particular.0, omega (arith, x.particular)); needed = x.needed })
