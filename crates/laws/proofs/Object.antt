-- The kinds that entries hold.
use mathlib.Core.Path.{◌≡◌, ap}
use native.Mathlib.Omega.{arith}
use Rattle.rules.specs.Layout.{Kind, process, segment, file}
use Rattle.rules.specs.Seid.{class}

-- an entry holds a segment or a file, not a process
abbrev pub Object : Kind → Type 0
Object process = ⊥
Object segment = Unit {0}
Object file = Unit {0}

pub no-process : (k : Kind) → Object k → k ≡ process → ⊥
no-process process o e = absurd o
no-process segment o e = omega (arith, ap class e)
no-process file o e = omega (arith, ap class e)
