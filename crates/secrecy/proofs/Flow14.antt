-- Call 14 writes in its own cell and reads in its own cell.
use mathlib.Core.Path.{◌≡◌}
use mathlib.Core.Bool.{Bool, true, false, not}
use mathlib.Core.List.{List}
use Prim.Native.Nat.{ℕ, ◌*◌, ◌-◌, ◌≤◌, ◌<◌}
use native.Mathlib.Omega.{arith}
use lib.Dec.{leb, eqb}
use lib.ListN.{length, replicate, length-replicate}
use Rattle.rules.specs.Claim.{Holds}
use Rattle.rules.specs.Layout.{process, file, block_bytes, slots, blocks, cell_of, flows, Addr, at, entries, held_at, used_at, size}
use Rattle.rules.specs.Seid.{class, index_of, formed, present}
use Rattle.rules.specs.Find.{stale}
use Rattle.rules.specs.Modes.{writes}
use Rattle.rules.specs.Rule.{bytes_at}
use Rattle.rules.specs.WellFormed.{records_ok}
use Rattle.rules.specs.Call14.{block_written, write_block}
use Rattle.laws.proofs.Tests.{tests, and_right, passed}
use Rattle.laws.proofs.Seids.{is-formed, is-present}
use Rattle.laws.proofs.Shape.{formed-object, file-record}
use Rattle.laws.proofs.Written.{AllOf, nil, also}
use Rattle.secrecy.proofs.Shown.{up-rules, alike-rules, UpBytes, WritesUp, Alike}
use Rattle.secrecy.proofs.View

-- what is held for writing is of the own cell
written-own : {h : List ℕ} {p : ℕ} {r : Addr → ℕ} → View.Here h p r → Holds (records_ok h r) → (d : ℕ) → leb entries d ≡ false
    → stale h r file (r (at process p (held_at file d))) ≡ false → not (writes (r (at process p (used_at file d)))) ≡ false
    → cell_of h file (index_of (r (at process p (held_at file d)))) ≡ cell_of h process p
written-own {h} {p} {r} v w d l n m =
    (View.entry_at h r w p file d v.there tt l).writes-own (formed-object h file _ (View.unstale h r file _ n)) (passed (writes (r (at process p (used_at file d)))) m)

pub size_fits : {h : List ℕ} {p : ℕ} {r : Addr → ℕ} → View.Here h p r → Holds (records_ok h r) → (s : ℕ) → stale h r file s ≡ false
    → r (at file (index_of s) size) ≤ blocks h
size_fits {h} {p} {r} v w s e =
    let there = (is-formed (class file) (slots h file) s (View.unstale h r file s e)).index_in in
    ((file-record h r w (index_of s) there).alive (is-present r file s (and_right (formed h file s) (present r file s) (passed _ e))).is_live).size_fits

-- zeros up to block b, and block b
up-block : {h : List ℕ} {p : ℕ} {r : Addr → ℕ} → View.Here h p r → (f n b : ℕ) (buffer : List ℕ) → f < slots h file → cell_of h file f ≡ cell_of h process p
    → n ≤ blocks h → leb (blocks h) b ≡ false → not (eqb (length buffer) block_bytes) ≡ false → AllOf (UpBytes h (cell_of h process p)) (block_written f n b buffer)
unfolding block_written
up-block {h} {p} v f n b buffer l e m i k =
    let full : length buffer ≡ block_bytes = View.same-cell (length buffer) block_bytes k in
    let long : length {A = ℕ} (replicate ((b - n) * block_bytes) 0) ≡ (b - n) * block_bytes = length-replicate ((b - n) * block_bytes) 0 in
    let own : flows h (cell_of h process p) (cell_of h file f) ≡ true = rw e (View.own-flow v) in
    let zeros : UpBytes h (cell_of h process p) (bytes_at f (n * block_bytes) (replicate ((b - n) * block_bytes) 0)) =
    record { there = l; inside = omega (arith, tests); up = own } in
    let bytes : UpBytes h (cell_of h process p) (bytes_at f (b * block_bytes) buffer) = record { there = l; inside = omega (arith, tests); up = own } in
    also zeros (also bytes nil)

pub up14 : {h : List ℕ} {p : ℕ} {r : Addr → ℕ} → View.Here h p r → Holds (records_ok h r) → (a b : ℕ) (buffer : List ℕ)
    → WritesUp h (cell_of h process p) (write_block h r p a b buffer)
unfolding write_block
up14 v w a b buffer = search (up-rules, View.up-own v, up-block v, View.held_in v, written-own v w, size_fits v w) depth 12

pub alike14 : {h : List ℕ} {p : ℕ} {C : ℕ → Bool} {r q : Addr → ℕ} → View.View h p C r q → (a b : ℕ) (buffer : List ℕ)
    → Alike h C (write_block h r p a b buffer) (write_block h q p a b buffer)
unfolding write_block
alike14 v a b buffer =
    search (
      alike-rules,
      View.same-held v,
      View.same-used v,
      View.same-below v,
      View.same-stale v,
      View.same-rights v,
      View.held_in v.here,
      View.held-flows v.here,
    ) depth 16
