-- What each call that succeeds does to the working slice. p is the caller, q what the table holds after the call, s what the call was about, x and y its answer's words.
use Rattle.std.specs.Prelude.{Bool, cond, ◌&&◌, List, ℕ, eqb}
use Rattle.std.proofs.lemmas.List.Edits.{sets}
use Rattle.rules.specs.Layout.{Kind, process, segment, file, cell_slots, first_slot, cell_of, Addr, at, held_at}
use Rattle.rules.specs.Seid.{index_of, formed, or_self}
use Rattle.rules.specs.Find.{in_own_cell, can_take}
use Rattle.rules.specs.Step.{regrade_code}
use Rattle.rules.specs.Work.{key_at, free_keys, list_words, masks}
use Rattle.lists.specs.Region.{taken, given}
use Rattle.marks.specs.Masks.{marked, unmarked}
use Rattle.follow.specs.Right.{list_at, mark_of}

-- what a call is about, as the table holds it before: calls 5 and 9 the object that is given up, the others what a names
unfoldable pub noted : (Addr → ℕ) → ℕ → ℕ → ℕ → ℕ
noted r p code a =
    cond (eqb code 5) (r (at process p (held_at segment a))) (cond (eqb code 9) (r (at process p (held_at file a))) (or_self r p a))

-- it is an object of the caller's cell
unfoldable pub here : List ℕ → ℕ → Kind → ℕ → Bool
here h p k s = formed h k s && in_own_cell h p k s

-- a slot of cell c is taken
unfoldable pub taken_in : List ℕ → Kind → ℕ → List ℕ → List ℕ
taken_in h k c w = taken w (list_at h k c)

-- the caller's descriptor d comes to hold s, and ceases to
unfoldable pub marked_by : List ℕ → ℕ → ℕ → ℕ → List ℕ → List ℕ
marked_by h p s d w = cond (here h p file s) (marked w (mark_of h p (index_of s)) d) w

unfoldable pub unmarked_by : List ℕ → ℕ → ℕ → ℕ → List ℕ → List ℕ
unmarked_by h p s d w = cond (here h p file s) (unmarked w (mark_of h p (index_of s)) d) w

-- the slot of s is given back, if it can be taken now
unfoldable pub given_back : List ℕ → (Addr → ℕ) → ℕ → Kind → ℕ → List ℕ → List ℕ
given_back h q p k s w =
    cond (here h p k s && can_take q k (index_of s)) (given w (list_at h k (cell_of h process p)) (key_at q k (index_of s))) w

-- a list of cell c, and the masks of process i of that cell, are made anew
unfoldable pub listed_anew : List ℕ → (Addr → ℕ) → Kind → ℕ → List ℕ → List ℕ
listed_anew h q k c w = sets w (list_at h k c) (list_words (free_keys h q k c) (cell_slots h k c))

unfoldable pub masked_anew : List ℕ → (Addr → ℕ) → ℕ → ℕ → List ℕ → List ℕ
masked_anew h q c i w = sets w (mark_of h i (first_slot h file c)) (masks h q c i)

-- process i of cell c is released: its slot, and those of what it held last, are free
unfoldable pub after_release : List ℕ → (Addr → ℕ) → ℕ → ℕ → List ℕ → List ℕ
after_release h q c i w = masked_anew h q c i (listed_anew h q file c (listed_anew h q segment c (listed_anew h q process c w)))

unfoldable pub followed : List ℕ → (Addr → ℕ) → ℕ → ℕ → ℕ → ℕ → ℕ → ℕ → ℕ → List ℕ → List ℕ
followed h q p s code a b x y w =
    let c : ℕ = cell_of h process p in
    cond (eqb code 1) (taken_in h process c w)
    (cond (eqb code 2) (after_release h q c (index_of s) w)
    (cond (eqb code 3) (taken_in h segment c w)
    (cond (eqb code 5) (given_back h q p segment s w)
    (cond (eqb code 7) (marked_by h p x y (taken_in h file c w))
    (cond (eqb code 8) (marked_by h p s x w)
    (cond (eqb code 9) (given_back h q p file s (unmarked_by h p s a w))
    (cond (eqb code 11) (given_back h q p file s w)
    (cond (eqb code regrade_code) (taken_in h file b w)
    w))))))))
