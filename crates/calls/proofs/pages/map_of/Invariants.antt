-- `pages::map_of` meets its contract: the pages passed are read.
use Rattle.rules.specs.Layout.{process, at, pages, page_at}
use Rattle.laws.proofs.Tab.{Filled}
use Rattle.calls.specs.World.{words_of}
use Rattle.calls.proofs.pages.map_of.Given as goal

abbrev pub invariant-loop-g : goal.invariant-loop-g
invariant-loop-g l = Filled 0 (λ g. words_of l.t (at process l.p (page_at g))) pages l.g l.m
