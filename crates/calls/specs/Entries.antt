-- Entries and the records of the objects that they hold, in the table's words: taken up, given up, made, freed.
use Rattle.std.specs.Prelude.{Bool, ◌&&◌, not, cond, List, ℕ, ◌+◌, ◌-◌, ◌*◌, eqb, get_or, set, replicate}
use Rattle.std.proofs.lemmas.List.Edits.{sets}
use Rattle.rules.specs.Layout.{Kind, process, record_words, Addr, at, held_at, used_at, live, owner, holders}
use Rattle.calls.specs.declared.entries.Entry.{Entry}

-- the two words of entry d of process p
abbrev pub entry_of : (Addr → ℕ) → Kind → ℕ → ℕ → Entry
entry_of r k p d = record { held = r (at process p (held_at k d)); used = r (at process p (used_at k d)) }

-- those of entry d of the entries that begin at a place
abbrev pub entry_from : List ℕ → ℕ → ℕ → Entry
entry_from t first d = record { held = get_or t (first + 2 * d) 0; used = get_or t (first + 2 * d + 1) 0 }

-- the record of n words that begins at a place is zero but for its serial
unfoldable pub freed_at : List ℕ → ℕ → ℕ → List ℕ
freed_at t from n = sets (set t (from + live) 0) (from + owner) (replicate (n - owner) 0)

-- the object of kind k whose record begins at a place, and which has n holders, has one less: it is freed, or its count falls
unfoldable pub less_at : List ℕ → Kind → ℕ → ℕ → Bool → List ℕ
less_at t k from n kept = cond (eqb n 1 && not kept) (freed_at t from (record_words k)) (set t (from + holders k) (n - 1))

-- the entry at a place is given up, which holds the object whose record begins at another and which has n holders
unfoldable pub given_up_at : List ℕ → Kind → ℕ → ℕ → ℕ → Bool → Bool → List ℕ
given_up_at t k entry object n own kept =
    cond own (less_at (set (set t entry 0) (entry + 1) 0) k object n kept) (set (set t entry 0) (entry + 1) 0)

-- four words stored from a place on
unfoldable pub four_at : List ℕ → ℕ → ℕ → ℕ → ℕ → ℕ → List ℕ
four_at t i a b c d = set (set (set (set t i a) (i + 1) b) (i + 2) c) (i + 3) d

-- the first eight words of a new object's record
unfoldable pub made_at : List ℕ → ℕ → ℕ → ℕ → ℕ → ℕ → ℕ → ℕ → ℕ → List ℕ
made_at t i s u g b x y z = four_at (four_at t i 1 s u g) (i + 4) b x y z

-- the entry at a place comes to hold s, used so; the object whose record begins at another place has one holder more, where it is of the holder's cell
unfoldable pub taken_up_at : List ℕ → Kind → ℕ → ℕ → ℕ → ℕ → Bool → List ℕ
taken_up_at t k entry s u object own =
    cond own (set (set (set t entry s) (entry + 1) u) (object + holders k) (get_or t (object + holders k) 0 + 1)) (set (set t entry s) (entry + 1) u)
