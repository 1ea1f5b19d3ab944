-- Numbers that are read in part: the rules read on from there, and a byte that is fed does the same.
use mathlib.Core.Bool.{cond, ◌&&◌}
use mathlib.Core.List.{List, [], ◌∷◌, ◌++◌}
use mathlib.Core.Path.{◌≡◌, refl, ap, ◌∙◌}
use Prim.Native.Nat.{ℕ, suc}
use lib.Dec.{leb}
use lib.ListN.{length, get_or, take, drop}
use Rattle.rules.specs.Claim.{test}
use Rattle.rules.specs.Step.{Call}
use Rattle.rules.specs.Replay.{Taken, took, bad, number, numbers_from, numbers, header_numbers, numbers_after, configuration_in, replayable, call_numbers, max_buffer, call_from, call_in}
use Rattle.numerals.specs.declared.Part.{Part}
use Rattle.numerals.specs.declared.Fed.{Fed}
use Rattle.numerals.specs.declared.Fed.TheVariants.{More, Done, Bad}
use Rattle.numerals.specs.Fed.{start, fed_by}
use Rattle.numerals.proofs.Read.{read_on, after_byte, Small, read_byte}

-- ---- some numbers, of which vs are read whole and p of the next; k follow that
unfoldable pub then_numbers : List ℕ → ℕ → Taken ℕ → Taken (List ℕ)
then_numbers vs k (took v rest) = numbers_from (vs ++ (v ∷ [])) k rest
then_numbers vs k bad = bad

unfoldable pub going : Part → List ℕ → ℕ → List ℕ → Taken (List ℕ)
going p vs k s = then_numbers vs k (read_on p s)

pub going_start : (vs : List ℕ) (k : ℕ) (s : List ℕ) → numbers_from vs (suc k) s ≡ going start vs k s
unfolding numbers_from going then_numbers
going_start vs k s = go (number s)
  where
    go : (x : Taken ℕ) → elim x as (λ y. Taken (List ℕ)) [ took v rest ↦ numbers_from (vs ++ (v ∷ [])) k rest | bad ↦ bad ] ≡ then_numbers vs k x
    go (took v rest) = refl
    go bad = refl

pub going_end : (p : Part) (vs : List ℕ) (k : ℕ) → going p vs k [] ≡ bad
unfolding going then_numbers Rattle.rules.specs.Replay.number_from
going_end p vs k = refl

unfoldable pub fed_going : List ℕ → ℕ → List ℕ → Fed → Taken (List ℕ)
fed_going vs k s (More q) = going q vs k s
fed_going vs k s (Done v) = numbers_from (vs ++ (v ∷ [])) k s
fed_going vs k s Bad = bad

pub going-byte : (p : Part) (vs : List ℕ) (k b : ℕ) (s : List ℕ) → Small p → going p vs k (b ∷ s) ≡ fed_going vs k s (fed_by p b)
unfolding going then_numbers after_byte fed_going
going-byte p vs k b s h = ap (then_numbers vs k) (read_byte p b s h) ∙ go (fed_by p b)
  where
    go : (f : Fed) → then_numbers vs k (after_byte f s) ≡ fed_going vs k s f
    go (More q) = refl
    go (Done v) = refl
    go Bad = refl

-- ---- the configuration: its body's numbers, then the whole
unfoldable pub body_then : List ℕ → Taken (List ℕ) → Taken (List ℕ)
body_then vs (took ws after) = took (vs ++ (0 ∷ []) ++ ws) after
body_then vs bad = bad

unfoldable pub header_then : Taken (List ℕ) → Taken (List ℕ)
header_then (took vs rest) = body_then vs (numbers (numbers_after vs) rest)
header_then bad = bad

pub configuration-in : (s : List ℕ) → configuration_in s ≡ header_then (numbers header_numbers s)
unfolding configuration_in header_then body_then
configuration-in s = go (numbers header_numbers s)
  where
    inner : (vs : List ℕ) (x : Taken (List ℕ)) → elim x as (λ y. Taken (List ℕ)) [ took ws after ↦ took (vs ++ (0 ∷ []) ++ ws) after | bad ↦ bad ] ≡ body_then vs x
    inner vs (took ws after) = refl
    inner vs bad = refl

    go : (x : Taken (List ℕ)) → elim x as (λ y. Taken (List ℕ)) [
      | took vs rest ↦
          elim (numbers (numbers_after vs) rest) as (λ y. Taken (List ℕ)) [
            | took ws after ↦ took (vs ++ (0 ∷ []) ++ ws) after
            | bad ↦ bad
          ]
      | bad ↦ bad
    ] ≡ header_then x
    go (took vs rest) = inner vs (numbers (numbers_after vs) rest)
    go bad = refl

-- a configuration that replay takes
unfoldable pub accepted : Taken (List ℕ) → Taken (List ℕ)
accepted (took h rest) = cond (test (replayable h)) (took h rest) bad
accepted bad = bad

-- ---- a call: its numbers, then its bytes, of which g are read and k are not
unfoldable pub call_then : Taken (List ℕ) → Taken Call
call_then (took vs rest) =
    cond (leb (get_or vs 5 0) max_buffer && leb (get_or vs 5 0) (length rest))
    (took (call_from vs (take (get_or vs 5 0) rest)) (drop (get_or vs 5 0) rest))
    bad
call_then bad = bad

pub call-in : (s : List ℕ) → call_in s ≡ call_then (numbers call_numbers s)
unfolding call_in call_then
call-in s = refl

unfoldable pub bytes_then : List ℕ → List ℕ → ℕ → List ℕ → Taken Call
bytes_then nums g k s = cond (leb k (length s)) (took (call_from nums (g ++ take k s)) (drop k s)) bad
