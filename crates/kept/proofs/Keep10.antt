-- Call 10, link, keeps tables well formed.
use mathlib.Core.Path.{refl}
use mathlib.Core.List.{List}
use Prim.Native.Nat.{ℕ, ◌+◌}
use native.Mathlib.Omega.{arith}
use borrow.Author.Tests.{eqb-true, eqb-false}
use Rattle.rules.specs.Layout.{max_links, file, Addr, at, links}
use Rattle.rules.specs.Seid.{index_of, or_self}
use Rattle.rules.specs.Call10.{link}
use Rattle.laws.proofs.Tests.{passed}
use Rattle.laws.proofs.Refusals.{clear}
use Rattle.kept.proofs.Keeps.{KeptBy, Caller}
use Rattle.kept.proofs.Found.{found}
use Rattle.kept.proofs.Objects.{alive-now, keeps-word}

pub keeps : (h : List ℕ) (r : Addr → ℕ) (p : ℕ) → Caller h r p → (a : ℕ) (buffer : List ℕ) → KeptBy h r (link h r p a buffer)
unfolding link
keeps h r p c a buffer e =
    let s : ℕ = or_self r p a in
    let ok = clear (link h r p a buffer).refusals refl e in
    let f = found h r file s ok.0 ok.1.1.0 in
    let n : ℕ = r (at file (index_of s) links) in
    let room = eqb-false n max_links ok.1.1.1.1.0 in
    let own = c.fine.own file (index_of s) f.parts.index_in in
    let x = alive-now h r file tt (index_of s) own f.here.is_live in
    keeps-word h r c.fine file tt (index_of s) f.parts.index_in f.here.is_live links (n + 1) (omega arith) (omega arith) (record {
      bits_fit = x.bits_fit;
      particular = (omega (arith, x.particular), x.particular.1);
      needed = λ z. absurd (omega (arith, eqb-true (n + 1) 0 (passed _ z)));
    })
