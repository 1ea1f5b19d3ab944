-- The two-run theorem, once for all machines: two runs whose calls are equal once those struck out are left out.
use mathlib.Core.Path.{◌≡◌, refl, sym, ap, ◌∙◌}
use mathlib.Core.Option.{Option, none, some}
use mathlib.Core.List.{List, [], ◌∷◌}
use Prim.Native.Nat.{ℕ}
use native.Mathlib.Omega.{arith}

-- ---- A machine takes calls one after the other. `label s k` is none where the call k, made in the state s, is struck out.

abbrev pub push : {L O : Type 0} → Option L → O → List O → List O
push none v vs = vs
push (some l) v vs = v ∷ vs

abbrev pub pushed : {L : Type 0} → Option L → List L → List L
pushed none ls = ls
pushed (some l) ls = l ∷ ls

module _ {S K : Type 0} (next : S → K → S) where
  abbrev pub runs : S → List K → S
  runs s [] = s
  runs s (k ∷ ks) = runs (next s k) ks

module _ {S K L : Type 0} (next : S → K → S) (label : S → K → Option L) where
  -- the labels of the calls that are not struck out, in order
  abbrev pub trace : S → List K → List L
  trace s [] = []
  trace s (k ∷ ks) = pushed (label s k) (trace (next s k) ks)

module _ {S K L O : Type 0} (next : S → K → S) (label : S → K → Option L) (view : S → K → O) where
  -- what the calls that are not struck out are answered, in order
  abbrev pub views : S → List K → List O
  views s [] = []
  views s (k ∷ ks) = push (label s k) (view s k) (views (next s k) ks)

module _ {S K : Type 0} (next : S → K → S) (ok : S → K → Type 0) where
  -- each call of a run is allowed where it is made
  abbrev pub Along : S → List K → Type 0
  Along s [] = Unit {0}
  Along s (k ∷ ks) = ok s k × Along (next s k) ks

-- ---- What has to be shown of it, call by call.

module _ {S K L O : Type 0} (next : S → K → S) (label : S → K → Option L) (view : S → K → O) (ok : S → K → Type 0) (wf : S → Type 0) (◌~◌ : S → S → Type 0) where
  infix 20 ◌~◌
  pub record Unwinds : Type 0 where
    pub sym~ : (s t : S) → s ~ t → t ~ s
    pub trans~ : (s t u : S) → s ~ t → t ~ u → s ~ u
    pub keep : (s : S) (k : K) → wf s → wf (next s k)
    -- a struck-out call leaves what is seen as it was
    pub silent : (s : S) (k : K) → wf s → label s k ≡ none → s ~ next s k
    -- two calls of one label, from states that look alike, are answered alike and leave states that look alike, if the first is allowed
    pub alike : (s t : S) (k j : K) (l : L) → wf s → wf t → s ~ t → label s k ≡ some l → label t j ≡ some l → ok s k
        → (view s k ≡ view t j) × (next s k ~ next t j)

-- ---- The theorem.

module _ {S K L O : Type 0} (next : S → K → S) (label : S → K → Option L) (view : S → K → O) (ok : S → K → Type 0) (wf : S → Type 0) (◌~◌ : S → S → Type 0)
    (U : Unwinds next label view ok wf ◌~◌) where
  infix 20 ◌~◌
  abbrev Ends : S → S → List K → List K → Type 0
  Ends s t ks js = (views next label view s ks ≡ views next label view t js) × (runs next s ks ~ runs next t js)

  quiet-here : (s t : S) (j : K) (js : List K) (o : Option L) → label t j ≡ o → wf t → s ~ t → [] ≡ pushed o (trace next label (next t j) js)
      → (s ~ next t j → wf (next t j) → [] ≡ trace next label (next t j) js → Ends s (next t j) [] js)
      → ([] ≡ push o (view t j) (views next label view (next t j) js)) × (s ~ runs next (next t j) js)
  quiet-here s t j js none eq w a e ih = ih (U.trans~ s t (next t j) a (U.silent t j w eq)) (U.keep t j w) e
  quiet-here s t j js (some l) eq w a e ih = let z : ◌≡◌ {A = ℕ} 0 1 = cc in absurd (omega arith)

  -- the left run has ended: all that the right one still makes is struck out
  quiet : (js : List K) (s t : S) → wf t → s ~ t → [] ≡ trace next label t js → Ends s t [] js
  quiet [] s t w a e = (refl, a)
  quiet (j ∷ js) s t w a e = quiet-here s t j js (label t j) refl w a e (λ a' w' e'. quiet js s (next t j) w' a' e')

  catch-here : (s t : S) (k j : K) (ks js : List K) (l : L) (o : Option L) → label s k ≡ some l → label t j ≡ o → ok s k → wf s → wf t → s ~ t
      → l ∷ trace next label (next s k) ks ≡ pushed o (trace next label (next t j) js)
      → (s ~ next t j → wf (next t j) → l ∷ trace next label (next s k) ks ≡ trace next label (next t j) js
      → (view s k ∷ views next label view (next s k) ks ≡ views next label view (next t j) js) × (runs next (next s k) ks ~ runs next (next t j) js))
      → (next s k ~ next t j → trace next label (next s k) ks ≡ trace next label (next t j) js → Ends (next s k) (next t j) ks js)
      → (view s k ∷ views next label view (next s k) ks ≡ push o (view t j) (views next label view (next t j) js)) × (runs next (next s k) ks ~ runs next (next t j) js)
  catch-here s t k j ks js l none es et al ws wt a e pass go = pass (U.trans~ s t (next t j) a (U.silent t j wt et)) (U.keep t j wt) e
  catch-here s t k j ks js l (some m) es et al ws wt a e pass go =
      let lm : l ≡ m = cc in
      let tails : trace next label (next s k) ks ≡ trace next label (next t j) js = cc in
      let both = U.alike s t k j l ws wt a es (et ∙ ap some (sym lm)) al in
      let rest = go both.1 tails in
      let v : view s k ≡ view t j = both.0 in
      let vs : views next label view (next s k) ks ≡ views next label view (next t j) js = rest.0 in
      (cc, rest.1)

  -- the left run has a call to make; the right one's struck-out calls are passed over up to the one of the same label
  catch : (js : List K) (s t : S) (k : K) (ks : List K) (l : L) → label s k ≡ some l → ok s k → wf s → wf t → s ~ t
      → l ∷ trace next label (next s k) ks ≡ trace next label t js
      → ((t' : S) (js' : List K) → next s k ~ t' → wf t' → trace next label (next s k) ks ≡ trace next label t' js' → Ends (next s k) t' ks js')
      → (view s k ∷ views next label view (next s k) ks ≡ views next label view t js) × (runs next (next s k) ks ~ runs next t js)
  catch [] s t k ks l es al ws wt a e ih = let z : ◌≡◌ {A = ℕ} 0 1 = cc in absurd (omega arith)
  catch (j ∷ js) s t k ks l es al ws wt a e ih =
      catch-here s t k j ks js l (label t j) es refl al ws wt a e
      (λ a' w' e'. catch js s (next t j) k ks l es al ws w' a' e' ih)
      (λ a' e'. ih (next t j) js a' (U.keep t j wt) e')

  main-here : (s t : S) (k : K) (ks js : List K) (o : Option L) → label s k ≡ o → ok s k → wf s → wf t → s ~ t
      → pushed o (trace next label (next s k) ks) ≡ trace next label t js
      → ((t' : S) (js' : List K) → next s k ~ t' → wf t' → trace next label (next s k) ks ≡ trace next label t' js' → Ends (next s k) t' ks js')
      → (push o (view s k) (views next label view (next s k) ks) ≡ views next label view t js) × (runs next (next s k) ks ~ runs next t js)
  main-here s t k ks js none es al ws wt a e ih =
      ih t js (U.trans~ (next s k) s t (U.sym~ s (next s k) (U.silent s k ws es)) a) wt e
  main-here s t k ks js (some l) es al ws wt a e ih = catch js s t k ks l es al ws wt a e ih

  pub two_runs : (ks js : List K) (s t : S) → wf s → wf t → s ~ t → Along next ok s ks → trace next label s ks ≡ trace next label t js
      → (views next label view s ks ≡ views next label view t js) × (runs next s ks ~ runs next t js)
  two_runs [] js s t ws wt a al e = quiet js s t wt a e
  two_runs (k ∷ ks) js s t ws wt a al e =
      main-here s t k ks js (label s k) refl al.0 ws wt a e
      (λ t' js' a' w' e'. two_runs ks js' (next s k) t' (U.keep s k ws) w' a' al.1 e')
