-- 02, CR 14 speaks of runs from set-up "without reload". Why: "it takes history back" (CR 6). An evening's image, reloaded after a call, has the call answered again as it was:
-- a creating call hands out the same seid twice (`handed-out-again`; `twice`, by computation).
use mathlib.Core.Path.{◌≡◌, refl, ap, ◌∙◌}
use mathlib.Core.List.{List, [], ◌∷◌}
use Prim.Native.Nat.{ℕ, ◌^◌}
use native.Mathlib.Omega.{arith}
use lib.Dec.{ltb}
use lib.ListN.{length, get_or, take, replicate, length-replicate}
use borrow.Author.Tests.{ltb-true}
use Rattle.rules.specs.Layout.{file}
use Rattle.rules.specs.Seid.{seid, class}
use Rattle.rules.specs.WellFormed.{well_formed}
use Rattle.rules.specs.Errors.{XOK}
use Rattle.rules.specs.Step.{State, Call, answer, step, next, run}
use Rattle.rules.specs.Image.{image_of, image_length, image_answer, image_out}
use Rattle.promises.proofs.Opened.{open-table, open-set-up}
use Rattle.laws.proofs.Below.{all-at}
use Rattle.laws.proofs.Claims.{holds}
use Rattle.kept.proofs.Kept.{Well}
use Rattle.promises.proofs.Image.{AreWords, reloaded, written-where, answered-again}
use Rattle.promises.proofs.Edges.{first-worn, creation, edges}

-- the bytes that an evening writes
abbrev pub evening : State → List ℕ → List ℕ
evening s out = take (image_length s.table (length s.store)) (image_out s.table s.store out)

pub handed-out-again : (s : State) (k : Call) (out : List ℕ) → AreWords s.table → image_answer s.table s.store out ≡ XOK
    → (step (reloaded (next s k) (evening s out)) k).answered ≡ (step s k).answered
unfolding run
handed-out-again s k out words taken = ap (λ o. o.answered) (answered-again s (k ∷ []) out words taken k)

-- ---- so it is of a file, on the table of Edges

formed : Well first-worn
unfolding open-table open-set-up
formed = holds (well_formed first-worn.table (length first-worn.store)) refl

small : AreWords first-worn.table
unfolding open-table open-set-up
small i l = ltb-true _ _ (all-at 146 (λ i. ltb (get_or first-worn.table i 0) (2 ^ 32)) refl i l)

-- room for the image, and no more
abbrev room : List ℕ
room = replicate (length (image_of first-worn.table first-worn.store)) 0

pub twice : ((step first-worn creation).answered ≡ answer XOK (seid (class file) 1 1) 0)
    × ((step (reloaded (next first-worn creation) (evening first-worn room)) creation).answered ≡ answer XOK (seid (class file) 1 1) 0)
twice =
    let n : ℕ = length (image_of first-worn.table first-worn.store) in
    let taken = written-where first-worn.table first-worn.store room formed (omega (arith, length-replicate {A = ℕ} n 0)) in
    (edges.passed_over, handed-out-again first-worn creation room small taken ∙ edges.passed_over)
