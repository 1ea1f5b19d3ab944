-- Call 4 writes in its own cell and reads down.
use mathlib.Core.Bool.{Bool}
use mathlib.Core.List.{List}
use mathlib.Core.Path.{◌≡◌}
use Prim.Native.Nat.{ℕ}
use borrow.Author.Tests.{eqb-true, lt-leb}
use Rattle.rules.specs.Layout.{process, segment, cell_of, Addr, entries}
use Rattle.rules.specs.Call04.{already_held, rendezvous}
use Rattle.laws.proofs.Below.{some_same}
use Rattle.secrecy.proofs.Shown.{up-rules, alike-rules, WritesUp, Alike}
use Rattle.secrecy.proofs.View

pub up04 : {h : List ℕ} {p : ℕ} {r : Addr → ℕ} → View.Here h p r → (a b : ℕ) (buffer : List ℕ) → WritesUp h (cell_of h process p) (rendezvous h r p a b buffer)
unfolding rendezvous
up04 v a b buffer =
    search (up-rules, eqb-true, View.up-own v, View.up-held v, View.up-used v, View.formed-in) depth 16

same-already : {h : List ℕ} {p : ℕ} {C : ℕ → Bool} {r q : Addr → ℕ} → View.View h p C r q → (s : ℕ) → already_held q p s ≡ already_held r p s
unfolding already_held
same-already v s = some_same entries _ _ (λ d l. rw (View.same-held v segment d tt (lt-leb entries d l)))

pub alike04 : {h : List ℕ} {p : ℕ} {C : ℕ → Bool} {r q : Addr → ℕ} → View.View h p C r q → (a b : ℕ) (buffer : List ℕ)
    → Alike h C (rendezvous h r p a b buffer) (rendezvous h q p a b buffer)
unfolding rendezvous
alike04 v a b buffer =
    search (
      alike-rules,
      View.same_self v,
      View.same-below v,
      View.same-present v,
      View.same-rights v,
      View.same-free-entry v,
      same-already v,
      View.formed-in,
      View.allowed,
    ) depth 16
