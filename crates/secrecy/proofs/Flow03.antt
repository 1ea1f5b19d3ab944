-- Call 3 writes in its own cell and reads in its own cell.
use mathlib.Core.Bool.{Bool}
use mathlib.Core.List.{List}
use Prim.Native.Nat.{ℕ}
use Rattle.rules.specs.Layout.{process, cell_of, Addr}
use Rattle.rules.specs.Call03.{build_segment}
use Rattle.secrecy.proofs.Shown.{up-rules, alike-rules, WritesUp, Alike}
use Rattle.secrecy.proofs.View

pub up03 : {h : List ℕ} {p : ℕ} {r : Addr → ℕ} → View.Here h p r → (a b c : ℕ) (buffer : List ℕ)
    → WritesUp h (cell_of h process p) (build_segment h r p a b c buffer)
unfolding build_segment
up03 v a b c buffer = search (up-rules, View.up-own v, View.up-held v, View.up-used v, View.free_in v, View.free_own v) depth 20

pub alike03 : {h : List ℕ} {p : ℕ} {C : ℕ → Bool} {r q : Addr → ℕ} → View.View h p C r q → (a b c : ℕ) (buffer : List ℕ)
    → Alike h C (build_segment h r p a b c buffer) (build_segment h q p a b c buffer)
unfolding build_segment
alike03 v a b c buffer =
    search (
      alike-rules,
      View.same-me v,
      View.same-below v,
      View.same-free-slot v,
      View.same-free-entry v,
      View.free_in v.here,
      View.own-flows v.here,
      View.free_own v.here,
    ) depth 12
