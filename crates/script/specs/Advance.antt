-- What a piece of the input does: its bytes are taken up to the end of the configuration or of a call, a fault, or the piece's end.
use Rattle.std.specs.Prelude.{true, false, List, [], ◌∷◌, ◌++◌, ◌≡◌, ℕ, ◌+◌, ◌<◌, drop}
use Rattle.script.specs.declared.Reader.{Reader}
use Rattle.script.specs.declared.What.{What}
use Rattle.script.specs.declared.What.TheVariants.{More}
use Rattle.script.specs.declared.Moved.{Moved}
use Rattle.script.specs.Take.{is_more, Read, take}

-- how far the piece is read, and what of it is left; the table and the buffer by then
pub record Advanced : Type 0 where
  pub moved : Moved
  pub rest : List ℕ
  pub table : List ℕ
  pub buffer : List ℕ

abbrev pub advanced : What → Reader → ℕ → List ℕ → List ℕ → List ℕ → Advanced
advanced w r i s t l = record { moved = record { what = w; reader = r; next = i }; rest = s; table = t; buffer = l }

abbrev pub stopped : Read → ℕ → List ℕ → Advanced
stopped x i s = advanced x.took.what x.took.reader i s x.table x.buffer

-- s is the piece from place i on
unfoldable pub advance : Reader → List ℕ → List ℕ → List ℕ → ℕ → Advanced
advance r t l [] i = advanced More r i [] t l
advance r t l (b ∷ s) i =
    let x : Read = take r t l b in
    elim (is_more x.took.what) [ true ↦ advance x.took.reader x.table x.buffer s (i + 1) | false ↦ stopped x (i + 1) s ]

-- what a further piece makes of what was read
unfoldable pub resumed : Advanced → List ℕ → Advanced
resumed p ys =
    elim (is_more p.moved.what) [
      | true ↦ advance p.moved.reader p.table p.buffer ys p.moved.next
      | false ↦ record { moved = p.moved; rest = p.rest ++ ys; table = p.table; buffer = p.buffer }
    ]

-- the code has read some bytes of the piece s, from place i on: with what is left of it, that comes to what all of it does
pub record Goes (r : Reader) (t l s : List ℕ) (i : ℕ) (m : Moved) (t' l' : List ℕ) : Type 0 where
  pub past : i < m.next
  pub same : advance r t l (drop i s) i ≡ resumed (record { moved = m; rest = []; table = t'; buffer = l' }) (drop m.next s)

-- what the code leaves is that
pub record Advances (x : Advanced) (m : Moved) (t' l' : List ℕ) : Type 0 where
  pub moved : m ≡ x.moved
  pub table : t' ≡ x.table
  pub buffer : l' ≡ x.buffer
