-- The rules' machine: runs, the events of their calls and the replies of the remaining ones are those of the two-run theorem, and what it asks of each call is shown.
use mathlib.Core.Path.{◌≡◌, refl, sym, ap, ◌∙◌}
use mathlib.Core.Bool.{Bool, true, false, cond, ◌&&◌}
use mathlib.Core.Option.{Option, none, some}
use mathlib.Core.List.{List, [], ◌∷◌, ◌++◌}
use Prim.Native.Nat.{ℕ}
use native.Mathlib.Omega.{arith}
use lib.ListN.{length}
use Rattle.rules.specs.Claim.{Holds}
use Rattle.rules.specs.Layout.{configuration, rd}
use Rattle.rules.specs.WellFormed.{well_formed}
use Rattle.rules.specs.Copy.{Copy}
use Rattle.rules.specs.Call21.{carried}
use Rattle.rules.specs.Step.{State, Call, Reply, step, next, reply, run}
use Rattle.rules.specs.Observer.{Closed, Agree, stays, replies}
use Rattle.rules.specs.Regrade.{into, accepted, Event, remains, refused, brings, event, events, without_refused, asks, AsksNone}
use Rattle.secrecy.proofs.Unwind.{push, pushed, runs, trace, views, Along, Unwinds, two_runs}
use Rattle.secrecy.proofs.Apply.{AgreeAt, agree-sym, agree_trans}
use Rattle.secrecy.proofs.Steps as steps

-- ---- labels: a remaining call, and a struck-out regrade into the set that is accepted

unfoldable pub label-if : {K : Type 0} → Bool → Bool → K → Copy → Option (Event K)
label-if b d k x = cond b (some (remains k)) (cond d (some (brings x)) none)

pub none-struck : {K : Type 0} (b d : Bool) (k : K) (x : Copy) → label-if b d k x ≡ none → (b ≡ false) × (d ≡ false)
unfolding label-if
none-struck true d k x e = (cc, cc)
none-struck false true k x e = (cc, cc)
none-struck false false k x e = (refl, refl)

pub data Labelled {K : Type 0} (b d : Bool) (k : K) (x : Copy) (l : Event K) : Type 0 where
  a_call : b ≡ true → l ≡ remains k → Labelled b d k x l
  a_copy : b ≡ false → d ≡ true → l ≡ brings x → Labelled b d k x l

pub labelled : {K : Type 0} (b d : Bool) (k : K) (x : Copy) (l : Event K) → label-if b d k x ≡ some l → Labelled b d k x l
unfolding label-if
labelled true d k x l e = let i : l ≡ remains k = cc in a_call refl i
labelled false true k x l e = let i : l ≡ brings x = cc in a_copy refl refl i
labelled false false k x l e = let z : ◌≡◌ {A = ℕ} 0 1 = cc in absurd (omega arith)

pub pushed-if : {K : Type 0} (b i c : Bool) (k : K) (x : Copy) (es : List (Event K))
    → pushed (label-if b (i && c) k x) (without_refused es) ≡ without_refused (cond b (remains k ∷ []) (cond i (cond c (brings x) refused ∷ []) []) ++ es)
unfolding label-if without_refused
pushed-if true i c k x es = refl
pushed-if false true true k x es = refl
pushed-if false true false k x es = refl
pushed-if false false c k x es = refl

-- ---- what is seen of a call: the reply, where it remains

unfoldable pub view-if : {O : Type 0} → Bool → O → Option O
view-if b v = cond b (some v) none

unfoldable pub given : {O : Type 0} → List (Option O) → List O
given [] = []
given (none ∷ vs) = given vs
given (some v ∷ vs) = v ∷ given vs

pub given-if : {K O : Type 0} (b d : Bool) (k : K) (x : Copy) (v : O) (vs : List (Option O))
    → given (push (label-if b d k x) (view-if b v) vs) ≡ cond b (v ∷ given vs) (given vs)
unfolding label-if view-if given
given-if true d k x v vs = refl
given-if false true k x v vs = refl
given-if false false k x v vs = refl

module _ (h : List ℕ) (C : ℕ → Bool) where
  abbrev copied : State → Call → Copy
  copied s k = carried h (rd h s.table) s.store k.caller k.a k.b k.c k.buffer

  label : State → Call → Option (Event Call)
  label s k = label-if (stays h C k) (into h C k && accepted s k) k (copied s k)

  view : State → Call → Option Reply
  view s k = view-if (stays h C k) (reply s k)

  -- a remaining call asks about no cell outside the set
  abbrev Allowed : State → Call → Type 0
  Allowed s k = stays h C k ≡ true → asks s k ≡ true → C k.b ≡ true

  trace-is : (ks : List Call) (s : State) → trace next label s ks ≡ without_refused (events h C s ks)
  unfolding events event label without_refused
  trace-is [] s = refl
  trace-is (k ∷ ks) s = rw (trace-is ks (next s k)) (pushed-if (stays h C k) (into h C k) (accepted s k) k (copied s k) (events h C (next s k) ks))

  views-is : (ks : List Call) (s : State) → given (views next label view s ks) ≡ replies h C s ks
  unfolding replies label view given
  views-is [] s = refl
  views-is (k ∷ ks) s = given-if (stays h C k) (into h C k && accepted s k) k (copied s k) (reply s k) (views next label view (next s k) ks) ∙ rw (views-is ks (next s k))

  along-is : (ks : List Call) (s : State) → AsksNone h C s ks → Along next Allowed s ks
  unfolding AsksNone
  along-is [] s a = tt
  along-is (k ∷ ks) s a = (a.0, along-is ks (next s k) a.1)

runs-is : (ks : List Call) (s : State) → runs next s ks ≡ run s ks
unfolding run
runs-is [] s = refl
runs-is (k ∷ ks) s = runs-is ks (next s k)

-- a well-formed state
abbrev Well : State → Type 0
Well s = Holds (well_formed s.table (length s.store))

module _ (kept : (s : State) (k : Call) → Well s → Well (step s k).state) where
  pub well-next : (h : List ℕ) (s : State) (k : Call) → steps.WellUnder h s → steps.WellUnder h (next s k)
  well-next h s k f = record { formed = kept s k f.formed; configured = steps.conf-next h s f k }

  module _ (h : List ℕ) (C : ℕ → Bool) (cl : Closed h C) where
    both : (s t : State) (k j : Call) (l : Event Call) → steps.WellUnder h s → steps.WellUnder h t → AgreeAt h C s t → Allowed h C s k
        → Labelled (stays h C k) (into h C k && accepted s k) k (copied h C s k) l → Labelled (stays h C j) (into h C j && accepted t j) j (copied h C t j) l
        → (view h C s k ≡ view h C t j) × AgreeAt h C (next s k) (next t j)
    unfolding view view-if
    both s t k j l f g a ok (a_call b e) (a_call d i) =
        let kj : k ≡ j = cc in
        let x = steps.remains h C cl s t f g a k b (ok b) in
        rw (← kj) (ap (view-if (stays h C k)) x.0, x.1)
    both s t k j l f g a ok (a_copy b c e) (a_copy d m i) =
        let same : copied h C s k ≡ copied h C t j = cc in
        (rw (b, d), steps.both-bring h C s t f g a k j c m same)
    both s t k j l f g a ok (a_call b e) (a_copy d m i) = let z : ◌≡◌ {A = ℕ} 0 1 = cc in absurd (omega arith)
    both s t k j l f g a ok (a_copy b c e) (a_call d i) = let z : ◌≡◌ {A = ℕ} 0 1 = cc in absurd (omega arith)

    unwinds : Unwinds next (label h C) (view h C) (Allowed h C) (steps.WellUnder h) (AgreeAt h C)
    unfolding label
    unwinds = record {
      sym~ = agree-sym h C;
      trans~ = agree_trans h C;
      keep = well-next h;
      silent = λ s k f e. let n = none-struck (stays h C k) (into h C k && accepted s k) k (copied h C s k) e in steps.struck-out h C cl s f k n.0 n.1;
      alike = λ s t k j l f g a e d ok. both s t k j l f g a ok (labelled _ _ k _ l e) (labelled _ _ j _ l d);
    }

  pub well-run : (h : List ℕ) (ks : List Call) (s : State) → steps.WellUnder h s → steps.WellUnder h (run s ks)
  unfolding run
  well-run h [] s f = f
  well-run h (k ∷ ks) s f = well-run h ks (next s k) (well-next h s k f)

  pub two-runs-from : (C : ℕ → Bool) (s t : State) → Well s → Well t → let h : List ℕ = configuration s.table in Closed h C → Agree C s t
      → (ks js : List Call) → without_refused (events h C s ks) ≡ without_refused (events h C t js) → AsksNone h C s ks
      → (replies h C s ks ≡ replies h C t js) × Agree C (run s ks) (run t js)
  two-runs-from C s t ws wt cl a ks js e n =
      let h : List ℕ = configuration s.table in
      let f : steps.WellUnder h s = record { formed = ws; configured = refl } in
      let g : steps.WellUnder h t = record { formed = wt; configured = sym a.configurations } in
      let x = two_runs next (label h C) (view h C) (Allowed h C) (steps.WellUnder h) (AgreeAt h C) (unwinds h C cl) ks js s t f g (steps.at-configuration h C s t refl a)
      (along-is h C ks s n) (trace-is h C ks s ∙ e ∙ sym (trace-is h C js t)) in (
        sym (views-is h C ks s) ∙ ap given x.0 ∙ views-is h C js t,
        steps.from-configuration h C (run s ks) (run t js) (well-run h ks s f).configured (well-run h js t g).configured (rw (runs-is ks s, runs-is js t) at x.1),
      )
