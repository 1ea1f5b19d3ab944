-- The lines of a script, call by call.
use Rattle.std.proofs.Common.{◌≡◌, ℕ, zero, suc, ◌+◌, ◌≤◌, true, cond, List, [], ◌∷◌, ◌++◌, length, sym, refl, ap, ◌∙◌, append_assoc, arith}
use Rattle.rules.specs.Step.{State, Call, step, next}
use Rattle.rules.specs.Replay.{Taken, took, bad, call_in, Script, script_in, script, line, lines_from, bad_script}
use Rattle.session.proofs.Shorter.{Leaves, call-leaves}

-- a call and the rest, or a fault
unfoldable pub with_call : (List ℕ → Script) → Taken Call → Script
with_call f (took k rest) = record { calls = k ∷ (f rest).calls; faulty = (f rest).faulty }
with_call f bad = record { calls = []; faulty = true }

script-cons : (n b : ℕ) (s : List ℕ) → script_in (suc n) (b ∷ s) ≡ with_call (script_in n) (call_in (b ∷ s))
unfolding script_in with_call
script-cons n b s = go (call_in (b ∷ s))
  where
    go : (x : Taken Call) → elim x as (λ y. Script) [
      | took k rest ↦ record { calls = k ∷ (script_in n rest).calls; faulty = (script_in n rest).faulty }
      | bad ↦ record { calls = []; faulty = true }
    ] ≡ with_call (script_in n) x
    go (took k rest) = refl
    go bad = refl

-- more than enough is enough
with-same : (f g : List ℕ → Script) (m : ℕ) (x : Taken Call) → Leaves m x → ((s : List ℕ) → length s ≤ m → f s ≡ g s) → with_call f x ≡ with_call g x
unfolding with_call
with-same f g m (took k rest) h e = ap (λ (x : Script). record { calls = k ∷ x.calls; faulty = x.faulty }) (e rest h)
with-same f g m bad h e = refl

enough : (m n : ℕ) (s : List ℕ) → length s ≤ m → length s ≤ n → script_in m s ≡ script_in n s
enough zero zero [] h k = refl
enough zero (suc n) [] h k = unfold script_in in refl
enough (suc m) zero [] h k = unfold script_in in refl
enough (suc m) (suc n) [] h k = unfold script_in in refl
enough zero n (b ∷ s) h k = absurd (omega arith)
enough (suc m) zero (b ∷ s) h k = absurd (omega arith)
enough (suc m) (suc n) (b ∷ s) h k =
    script-cons m b s
    ∙ with-same (script_in m) (script_in n) (length s) (call_in (b ∷ s)) (call-leaves b s) (λ z l. enough m n z (omega arith) (omega arith))
    ∙ sym (script-cons n b s)

-- ---- the text of the calls of a script, of which n are made already
unfoldable pub script_text : ℕ → State → Script → List ℕ
script_text n st x = lines_from n st x.calls ++ cond x.faulty bad_script []

abbrev pub calls_text : ℕ → State → List ℕ → List ℕ
calls_text n st s = script_text n st (script s)

unfoldable pub call_text : ℕ → State → Taken Call → List ℕ
call_text n st (took k rest) = line (n + 1) k.code (step st k).answered (step st k).buffer ++ calls_text (n + 1) (next st k) rest
call_text n st bad = bad_script

pub calls-none : (n : ℕ) (st : State) → calls_text n st [] ≡ []
unfolding script_text script_in lines_from
calls-none n st = refl

with-text : (n m : ℕ) (st : State) (x : Taken Call) → Leaves m x → script_text n st (with_call (script_in m) x) ≡ call_text n st x
unfolding script_text with_call call_text lines_from
with-text n m st (took k rest) h =
    append_assoc (line (n + 1) k.code (step st k).answered (step st k).buffer) (lines_from (n + 1) (next st k) (script_in m rest).calls)
    (cond (script_in m rest).faulty bad_script [])
    ∙ ap (λ (x : Script). line (n + 1) k.code (step st k).answered (step st k).buffer ++ script_text (n + 1) (next st k) x) (enough m (length rest) rest h (omega arith))
with-text n m st bad h = refl

pub calls-cons : (n : ℕ) (st : State) (b : ℕ) (s : List ℕ) → calls_text n st (b ∷ s) ≡ call_text n st (call_in (b ∷ s))
calls-cons n st b s = ap (script_text n st) (script-cons (length s) b s) ∙ with-text n (length s) st (call_in (b ∷ s)) (call-leaves b s)
