-- `segments::already_held` meets its contract: a designator that holds the seid, or none of them all.
use mathlib.Core.Path.{sym, ap, ◌∙◌}
use native.Mathlib.Omega.{arith}
use lib.Dec.{eqb}
use borrow.Author.Tests.{eq-eqb}
use Rattle.rules.specs.Layout.{process, segment, at, entries, held_at}
use Rattle.rules.specs.Call04.{already_held}
use Rattle.laws.proofs.Below.{some_of, some-none}
use Rattle.calls.specs.World.{words_of}
use Rattle.calls.proofs.segments.already_held.Goals as goal

pub returns-then-entry_of-s : goal.returns-then-entry_of-s
unfolding already_held
returns-then-entry_of-s c =
    let a = c.args in
    sym (some_of entries (λ d. eqb (words_of a.t.now (at process a.on.me.slot (held_at segment d))) a.s) c.loop-d.d (omega arith)
    (eq-eqb _ a.s (ap (λ x. x.held) (sym c.entry_of.ensures) ∙ c.if-entry_of-s.true)))

pub returns : goal.returns
unfolding already_held
returns c =
    let a = c.args in
    sym (some-none entries (λ d. eqb (words_of a.t.now (at process a.on.me.slot (held_at segment d))) a.s) (λ k l. c.loop-d.invariant k (omega arith)))
