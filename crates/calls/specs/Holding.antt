-- What giving up a process's entries counts on.
use Rattle.std.specs.Prelude.{◌≡◌, true, List, ℕ, ◌<◌, length}
use Rattle.rules.specs.Layout.{Kind, process, configuration, slots, cell_of, table_words}
use Rattle.layout.specs.declared.Header.{Header}
use Rattle.calls.specs.declared.Caller.{Caller}
use Rattle.calls.specs.World.{Known, holdable}

-- process q is of the caller's cell, and its entries hold objects of the kind
pub record HoldingAt (t : List ℕ) (n : Header) (c : Caller) (k : Kind) (q : ℕ) : Type 0 where
  pub known : Known t n
  pub held : holdable k ≡ true
  pub homed : c.cell ≡ cell_of (configuration t) process q

-- and the table is whole
pub record Holding (t : List ℕ) (n : Header) (c : Caller) (k : Kind) (q : ℕ) : Type 0 where
  pub at_all : HoldingAt t n c k q
  pub words : length t ≡ table_words (configuration t)
  pub here : q < slots (configuration t) process
