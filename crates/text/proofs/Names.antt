-- The table of names has the errors' names, and none is long.
use mathlib.Core.List.{List, [], map}
use mathlib.Core.Path.{◌≡◌, refl, sym, ap, ◌∙◌}
use Prim.Native.Nat.{ℕ, ◌<◌, ◌≤◌}
use denote.Ref.{Bor}
use lib.ListN.{length, get_or, get_or-eq_default, get_or-map as of-ascii}
use lib.Dec.{leb}
use borrow.Author.Tests.{leb-true}
use Rattle.std.proofs.lemmas.List.{get_or-map}
use Rattle.rules.specs.Words.{all_below}
use Rattle.rules.specs.Errors.{ascii, error_names, error_name}
use Rattle.laws.proofs.Below.{all-at}
use Rattle.text.specs.Names.{errors, name_bytes}

-- past the last error there is no name
pub no_name : (n : ℕ) → errors ≤ n → error_name n ≡ []
unfolding error_name error_names ascii
no_name n h = ap ascii (get_or-eq_default error_names "" h)

pub name-short : (n : ℕ) → n < errors → length (error_name n) ≤ name_bytes
unfolding error_name error_names ascii all_below
name-short n h = leb-true _ _ (all-at errors (λ n. leb (length (error_name n)) name_bytes) refl n h)

-- a lent name, read at n in a table of all of them
pub named : (table : List (Bor (List ℕ))) (n : ℕ) (name : Bor (List ℕ)) → map (λ b. b.now) table ≡ map ascii error_names
    → n < length table → name ≡ get_or table n name → name.now ≡ error_name n
unfolding error_name ascii
named table n name same h e =
    ap (λ (b : Bor (List ℕ)). b.now) e ∙ sym (get_or-map (λ (b : Bor (List ℕ)). b.now) table n name [] h)
    ∙ ap (λ (l : List (List ℕ)). get_or l n []) same ∙ of-ascii ascii error_names n ""
