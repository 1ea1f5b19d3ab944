-- 02, CR 11 speaks of something: a table with two subtypes, on which a file is created with one and opened through it, and is refused without it and with the other; and
-- the high cell reads it through the subtype too.
use mathlib.Core.Path.{◌≡◌, refl, ◌∙◌}
use mathlib.Core.Bool.{true}
use mathlib.Core.List.{List, [], ◌∷◌, ◌++◌}
use Prim.Native.Nat.{ℕ}
use lib.ListN.{length, replicate}
use Rattle.rules.specs.Layout.{file, at, rd, opens, subtype}
use Rattle.rules.specs.Seid.{class, subtype_class, seid}
use Rattle.rules.specs.WellFormed.{well_formed}
use Rattle.rules.specs.SetUp.{fresh_table}
use Rattle.rules.specs.Call12.{set_bits}
use Rattle.rules.specs.Call14.{block_written, write_block}
use Rattle.rules.specs.Step.{State, Call, Reply, answer, run}
use Rattle.rules.specs.Observer.{replies}
use Rattle.laws.proofs.Claims.{holds}
use Rattle.kept.proofs.Kept.{Well}
use Rattle.instances.proofs.Carried.{judged, replies_judged, replies-judged, run_judged, run-judged}
use Rattle.instances.proofs.Instance.{open-rules}

-- two cells, security 1 and 3, a process and a file slot each, no segment slots, B 1; two subtypes of the low cell, bits 438 and 420
unfoldable pub shelf : List ℕ
shelf =
    (2 ∷ 2 ∷ 0 ∷ 2 ∷ 1 ∷ 0 ∷ 2 ∷ 0 ∷ []) ++ ((1 ∷ 0 ∷ 0 ∷ 1 ∷ 0 ∷ 1 ∷ 0 ∷ 0 ∷ []) ++ ((3 ∷ 0 ∷ 0 ∷ 1 ∷ 0 ∷ 1 ∷ 0 ∷ 0 ∷ [])
    ++ ((0 ∷ 0 ∷ 0 ∷ 438 ∷ []) ++ (0 ∷ 0 ∷ 0 ∷ 420 ∷ []))))

unfoldable pub fresh : State
fresh = record { table = fresh_table shelf; store = replicate 1024 0 }

pub fresh-formed : Well fresh
unfolding shelf fresh open-rules
fresh-formed = holds (well_formed fresh.table (length fresh.store)) refl

-- the subtypes, and the file that comes into the low slot
abbrev pub one : ℕ
one = seid subtype_class 0 1

abbrev pub two : ℕ
two = seid subtype_class 1 1

abbrev pub paper : ℕ
paper = seid (class file) 0 1

abbrev call : ℕ → ℕ → ℕ → ℕ → ℕ → Call
call p k a b c = record { caller = p; code = k; a = a; b = b; c = c; buffer = [] }

abbrev said : ℕ → ℕ → ℕ → Reply
said e x y = record { answered = answer e x y; buffer = [] }

-- process 0, the low one, opens both subtypes and creates a file with the first; the file is opened without a subtype, with the other, and with its own. Process 1, the
-- high one, opens the subtype to write, and to read, and the file through it. Process 0 closes the subtype, and opens the file through it no more.
unfoldable pub calls : List Call
calls =
    call 0 8 one 3 0 ∷ call 0 8 two 3 0 ∷ call 0 7 420 1 1 ∷ call 0 8 paper 1 0 ∷ call 0 8 paper 1 2 ∷ call 0 8 paper 1 1
    ∷ call 1 8 one 3 0 ∷ call 1 8 one 1 0 ∷ call 1 8 paper 1 1 ∷ call 0 9 0 0 0 ∷ call 0 8 paper 1 1 ∷ []

pub listed : replies shelf (λ c. true) fresh calls
    ≡ said 0 0 0 ∷ said 0 1 0 ∷ said 0 paper 2 ∷ said 35 0 0 ∷ said 36 0 0 ∷ said 0 3 0
    ∷ said 13 0 0 ∷ said 0 0 0 ∷ said 0 1 0 ∷ said 0 0 0 ∷ said 35 0 0 ∷ []
unfolding shelf fresh calls judged replies_judged open-rules
listed = replies-judged shelf (λ c. true) fresh calls fresh-formed ∙ refl

-- the file has its subtype, and is open twice in its own cell: what the subtype's descriptors did is not counted
pub left : (rd shelf (run fresh calls).table (at file 0 subtype) ≡ one) × (rd shelf (run fresh calls).table (at file 0 opens) ≡ 2)
unfolding shelf fresh calls judged run_judged open-rules
left = (rw (run-judged fresh calls fresh-formed) refl, rw (run-judged fresh calls fresh-formed) refl)

-- ---- each refusal in its place

abbrev block : ℕ → ℕ → Call
block k a = record { caller = 0; code = k; a = a; b = 0; c = 0; buffer = replicate 512 0 }

abbrev unchanged : ℕ → Reply
unchanged e = record { answered = answer e 0 0; buffer = replicate 512 0 }

-- the first subtype is held for both, the second for reading alone; a file is created with the first, and there is room for no other. Creates: of a descriptor that there isn't
-- (35), of one that holds a file (35), of the second subtype (36), each before 26; and with bad modes (7, before 35). Opens that clash: without the subtype (35, before 19), and
-- with it (19). With the file's bits gone, an open without the subtype is 16, before 35. Block calls on a subtype: a read and a write (12), and a write where it is held for
-- reading alone (21, before 12).
unfoldable pub asks : List Call
asks =
    call 0 8 one 3 0 ∷ call 0 8 two 1 0 ∷ call 0 7 420 3 1
    ∷ call 0 7 420 3 17 ∷ call 0 7 420 3 3 ∷ call 0 7 420 3 2 ∷ call 0 7 420 4 17
    ∷ call 0 8 paper 15 0 ∷ call 0 8 paper 15 1 ∷ call 0 12 paper 0 0 ∷ call 0 8 paper 1 0
    ∷ block 13 0 ∷ block 14 0 ∷ block 14 1 ∷ []

pub refused : replies shelf (λ c. true) fresh asks
    ≡ said 0 0 0 ∷ said 0 1 0 ∷ said 0 paper 2
    ∷ said 35 0 0 ∷ said 35 0 0 ∷ said 36 0 0 ∷ said 7 0 0
    ∷ said 35 0 0 ∷ said 19 0 0 ∷ said 0 0 0 ∷ said 16 0 0
    ∷ unchanged 12 ∷ unchanged 12 ∷ unchanged 21 ∷ []
unfolding shelf fresh asks judged replies_judged set_bits write_block block_written open-rules
refused = replies-judged shelf (λ c. true) fresh asks fresh-formed ∙ refl
