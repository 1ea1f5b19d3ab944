-- Demand 3 of calls by the tray, record by record.
--
-- C is a set of cells that holds with each cell every cell flowing to it; s and t are two well-formed states that agree on all that the set may see. On each a
-- tray is run, and the two trays ask the same once the records of callers outside the set are struck out, whatever stands in the room for the answers. The premises
-- are 02's (`Premises`): neither tray is too long; the two byte slices have one length and are equal at the start on the parts of the remaining records
-- (`SameParts`); in each run these parts lie apart from those of the records struck out (`Apart`). Then the remaining records get the same answers, their parts
-- hold the same bytes at the end, and the states agree (`SameTrays`).
--
-- Regrades, call 21, add to the premises what CR 9 asks of runs (Demand3), record by record (rules/specs/TrayRegrade): `as-asked` says it so, `two-trays` asks for less, and
-- where no record is a regrade, or there is no guard, nothing more is asked (`no-regrades`, `no-guard`).
--
-- It is the two-run theorem (Unwind) of a machine that holds a state and a byte slice and takes one record after the other.
use mathlib.Core.Path.{◌≡◌, refl, sym, ap, ap₂, ◌∙◌}
use mathlib.Core.Bool.{Bool, true, false, ◌&&◌, ◌||◌, not}
use mathlib.Core.Option.{Option}
use mathlib.Core.List.{List, [], ◌∷◌}
use Prim.Native.Nat.{ℕ, ◌+◌, ◌≤◌, ◌<◌}
use native.Mathlib.Omega.{arith}
use lib.Dec.{leb, ltb}
use lib.ListN.{length, get_or}
use lib.Seq.{sets, length-sets}
use borrow.Author.Tests.{leb-true, le-leb, lt-ltb}
use Rattle.rules.specs.Layout.{configuration, guard, rd}
use Rattle.rules.specs.Copy.{Copy}
use Rattle.rules.specs.Call21.{carried}
use Rattle.rules.specs.Step.{State, Call, answer, Outcome, Reply, step, reply}
use Rattle.rules.specs.Observer.{observer, Closed, Agree, stays}
use Rattle.rules.specs.Tray.{Record, part_of, record_call, inside, record_rule, record_step, with_answer, Tray, in_order, most_records, after_tray, stays_in, remaining_in, asked, in_part, seen, hidden, Apart, SameParts}
use Rattle.rules.specs.Regrade.{into, accepted, Event, without_refused, guard_within, NamesNone}
use Rattle.rules.specs.TrayRegrade.{calls_in, accepted_in, event_in, events_in, asks_in, AsksNoneIn}
use Rattle.laws.proofs.Tests.{and_right, and_both, or-by-left, or-by-right, not-of, both_ways, refuted, split}
use Rattle.laws.proofs.Stored.{sets-out, sets-both}
use Rattle.laws.proofs.Written.{AllOf}
use Rattle.laws.proofs.Parts.{part-short, same-part, sets-part}
use Rattle.kept.proofs.Kept.{Well}
use Rattle.kept.proofs.Recorded.{outside_number, inside-is-step, outside-is-refused}
use Rattle.promises.proofs.Tray.{tray-runs, buffer-fits, tray-conf-kept}
use Rattle.secrecy.proofs.CellFlow.{observer-closed}
use Rattle.secrecy.proofs.Unwind.{runs, trace, views, Along, Unwinds, two_runs}
use Rattle.secrecy.proofs.Apply.{AgreeAt, agree-sym, agree_trans}
use Rattle.secrecy.proofs.Steps as steps
use Rattle.secrecy.proofs.Steps.{WellUnder, at-configuration, from-configuration, struck-out, both-bring, same-caller}
use Rattle.secrecy.proofs.Runs.{label-if, none-struck, Labelled, a_call, a_copy, labelled, pushed-if, view-if, given, given-if}
use Rattle.secrecy.proofs.Regrades.{calls, NoRegrade, quiet-other, Guarded, quiet-guarded, all-calls, guarded-none, guarded-within, none_within}
use Rattle.secrecy.proofs.TrayRegrades.{accepted-inside, accepted-outside, asks-inside, inside_of, well-after, names-none-in, only-records, other-asks-none-in}

-- what a record asks
abbrev ask : Record → Record
ask r = with_answer r (answer 0 0 0)

-- a state, and the byte slice
record Hall : Type 0 where
  state : State
  bytes : List ℕ

-- what a record does, whatever stands in the room for its answer
same_step : (s : State) (x : List ℕ) (r : Record) → record_step s x r ≡ record_step s x (ask r)
unfolding record_step record_rule inside
same_step s x r = refl

module _ (h : List ℕ) (C : ℕ → Bool) (P : ℕ → Bool) where
  -- a record whose part lies in P where it remains, and apart from P where it is struck out
  record Placed : Type 0 where
    it : Record
    covered : stays_in h C it ≡ true → (i : ℕ) → in_part it i ≡ true → P i ≡ true
    apart : stays_in h C it ≡ false → (i : ℕ) → in_part it i ≡ true → P i ≡ false

  -- two halls look alike: the states agree, and the byte slices do in P
  record Look (m n : Hall) : Type 0 where
    states : AgreeAt h C m.state n.state
    long : length m.bytes ≡ length n.bytes
    same : (i : ℕ) → P i ≡ true → get_or m.bytes i 0 ≡ get_or n.bytes i 0

  -- the machine
  abbrev out : Hall → Record → Outcome
  out m r = record_step m.state m.bytes r

  abbrev onward : Hall → Record → Hall
  onward m r = record { state = (out m r).state; bytes = sets m.bytes r.offset (out m r).buffer }

  abbrev after : Hall → Placed → Hall
  after m k = onward m k.it

  -- what is told of a record, as of a call (Runs): what it asks where it remains, and what it brings into the set where it is struck out
  abbrev copied : Hall → Record → Copy
  copied m r = carried h (rd h m.state.table) m.state.store r.caller r.a r.b r.c (part_of m.bytes r)

  abbrev brought : Hall → Record → Bool
  brought m r = into h C (record_call m.bytes r) && accepted_in m.state m.bytes r

  label : Hall → Placed → Option (Event Record)
  label m k = label-if (stays_in h C k.it) (brought m k.it) (ask k.it) (copied m k.it)

  view : Hall → Placed → Option Record
  view m k = view-if (stays_in h C k.it) (with_answer k.it (out m k.it).answered)

  -- a remaining record asks about no cell outside the set
  abbrev Allowed : Hall → Placed → Type 0
  Allowed m k = stays_in h C k.it ≡ true → asks_in m.state m.bytes k.it ≡ true → C k.it.b ≡ true

  -- a byte of a part
  is_within : (r : Record) (i : ℕ) → r.offset ≤ i → i < r.offset + r.length → in_part r i ≡ true
  unfolding in_part
  is_within r i a b = and_both (leb r.offset i) (ltb i (r.offset + r.length)) (le-leb r.offset i a) (lt-ltb i (r.offset + r.length) b)

  fits : (x : List ℕ) (r : Record) → inside x r ≡ true → r.offset + r.length ≤ length x
  unfolding inside
  fits x r e = leb-true (r.offset + r.length) (length x) e

  -- ---- one record

  -- a record outside the slice leaves all as it was
  outside-same : (m : Hall) (r : Record) → inside m.bytes r ≡ false → onward m r ≡ m
  outside-same m r e =
      let o = outside-is-refused m.state m.bytes r e in
      λ j. record {
        state = (o j).state;
        bytes = (ap (λ (y : Outcome). sets m.bytes r.offset y.buffer) o ∙ sets-part m.bytes r.offset r.length) j;
      }

  look-same : (m n : Hall) → m ≡ n → Look m n
  look-same m n e = rw (← e) (record { states = record { records = λ a v i. refl; stretches = λ f i x y w. refl }; long = refl; same = λ i p. refl })

  -- a struck-out record whose part lies inside leaves the bytes in P as they were
  apart-same : (m : Hall) (k : Placed) → WellUnder h m.state → stays_in h C k.it ≡ false → inside m.bytes k.it ≡ true
      → (i : ℕ) → P i ≡ true → get_or m.bytes i 0 ≡ get_or (after m k).bytes i 0
  apart-same m k f e t i q =
      let r = k.it in
      let c : Call = record_call m.bytes r in
      let b = buffer-fits m.state c in
      let p = part-short m.bytes r.offset r.length in
      sym (ap (λ (y : Outcome). get_or (sets m.bytes r.offset y.buffer) i 0) (inside-is-step m.state m.bytes r f.formed t)
      ∙ sets-out (step m.state c).buffer m.bytes r.offset i
      (λ a l. both_ways (P i) q (k.apart e i (is_within r i a (omega arith)))))

  struck : (m : Hall) (k : Placed) → WellUnder h m.state → Closed h C → stays_in h C k.it ≡ false → brought m k.it ≡ false → Look m (after m k)
  unfolding stays
  struck m k f cl e n =
      let r = k.it in
      let c : Call = record_call m.bytes r in
      split _ (inside m.bytes r)
      (λ t.
      let o = inside-is-step m.state m.bytes r f.formed t in
      let unbrought : into h C c && accepted m.state c ≡ false = rw (accepted-inside h m.state f m.bytes r t) at n in
      record {
        states = rw o (struck-out h C cl m.state f c e unbrought);
        long = sym (length-sets m.bytes r.offset (out m r).buffer);
        same = apart-same m k f e t;
      })
      (λ t. look-same m (after m k) (sym (outside-same m r t)))

  -- two struck-out records that bring the same
  is-inside : (m : Hall) (r : Record) → WellUnder h m.state → brought m r ≡ true → inside m.bytes r ≡ true
  is-inside m r f e =
      inside_of h m.state f m.bytes r (accepted_in m.state m.bytes r) (accepted-outside h m.state f m.bytes r)
      (and_right (into h C (record_call m.bytes r)) (accepted_in m.state m.bytes r) e)

  as_call : (m : Hall) (r : Record) → WellUnder h m.state → brought m r ≡ true → into h C (record_call m.bytes r) && accepted m.state (record_call m.bytes r) ≡ true
  as_call m r f e = rw (accepted-inside h m.state f m.bytes r (is-inside m r f e)) at e

  bring-alike : (m n : Hall) → WellUnder h m.state → WellUnder h n.state → Look m n → (k j : Placed) → stays_in h C k.it ≡ false → stays_in h C j.it ≡ false
      → brought m k.it ≡ true → brought n j.it ≡ true → copied m k.it ≡ copied n j.it → Look (after m k) (after n j)
  bring-alike m n f g a k j x y p q e =
      let t = is-inside m k.it f p in
      let u = is-inside n j.it g q in
      let s : AgreeAt h C (step m.state (record_call m.bytes k.it)).state (step n.state (record_call n.bytes j.it)).state =
      both-bring h C m.state n.state f g a.states (record_call m.bytes k.it) (record_call n.bytes j.it) (as_call m k.it f p) (as_call n j.it g q) e in
      record {
        states = rw (inside-is-step m.state m.bytes k.it f.formed t, inside-is-step n.state n.bytes j.it g.formed u) s;
        long = length-sets m.bytes k.it.offset (out m k.it).buffer ∙ a.long ∙ sym (length-sets n.bytes j.it.offset (out n j.it).buffer);
        same = λ i w. sym (apart-same m k f x t i w) ∙ a.same i w ∙ apart-same n j g y u i w;
      }

  module _ (cl : Closed h C) (m n : Hall) (f : WellUnder h m.state) (g : WellUnder h n.state) (a : Look m n) (r : Record)
      (stay : stays_in h C r ≡ true) (ok : asks_in m.state m.bytes r ≡ true → C r.b ≡ true) (covered : (i : ℕ) → in_part r i ≡ true → P i ≡ true) where
    abbrev Alike : Type 0
    Alike = ((out m r).answered ≡ (out n r).answered) × Look (onward m r) (onward n r)

    same-inside : inside m.bytes r ≡ inside n.bytes r
    unfolding inside
    same-inside = rw a.long refl

    same-call : inside m.bytes r ≡ true → record_call m.bytes r ≡ record_call n.bytes r
    same-call t =
        let l = a.long in
        let i = fits m.bytes r t in
        let p : part_of m.bytes r ≡ part_of n.bytes r =
        same-part m.bytes n.bytes r.offset r.length i (omega arith) (λ j x y. a.same j (covered j (is_within r j x y))) in
        λ j. record { caller = r.caller; code = r.code; a = r.a; b = r.b; c = r.c; buffer = p j }

    within_both : inside m.bytes r ≡ true → Alike
    unfolding stays reply
    within_both t =
        let c : Call = record_call m.bytes r in
        let x = inside-is-step m.state m.bytes r f.formed t in
        let y : out n r ≡ step n.state c =
        inside-is-step n.state n.bytes r g.formed (sym same-inside ∙ t) ∙ ap (step n.state) (sym (same-call t)) in
        let z = steps.remains h C cl m.state n.state f g a.states c stay (λ e. ok (asks-inside h m.state f m.bytes r t ∙ e)) in
        let buffers : (out m r).buffer ≡ (out n r).buffer = ap (λ (y : Outcome). y.buffer) x ∙ ap (λ (y : Reply). y.buffer) z.0
        ∙ sym (ap (λ (y : Outcome). y.buffer) y) in (
          ap (λ (y : Outcome). y.answered) x ∙ ap (λ (y : Reply). y.answered) z.0 ∙ sym (ap (λ (y : Outcome). y.answered) y),
          record {
            states = rw (x, y) z.1;
            long = length-sets m.bytes r.offset (out m r).buffer ∙ a.long ∙ sym (length-sets n.bytes r.offset (out n r).buffer);
            same = λ i q. sets-both (out m r).buffer m.bytes n.bytes r.offset i a.long (a.same i q)
                ∙ ap (λ (b : List ℕ). get_or (sets n.bytes r.offset b) i 0) buffers;
          },
        )

    same_number : outside_number m.state r ≡ outside_number n.state r
    unfolding stays
    same_number =
        let e = same-caller h C cl m.state n.state f g a.states (record_call [] r) stay in
        rw (f.configured, g.configured, e) refl

    outside-both : inside m.bytes r ≡ false → Alike
    outside-both t =
        let u = sym same-inside ∙ t in (
          ap (λ (y : Outcome). y.answered) (outside-is-refused m.state m.bytes r t) ∙ ap (λ (k : ℕ). answer k 0 0) same_number
              ∙ sym (ap (λ (y : Outcome). y.answered) (outside-is-refused n.state n.bytes r u)),
          rw (outside-same m r t, outside-same n r u) a,
        )

    remains-alike : Alike
    remains-alike = split Alike (inside m.bytes r) within_both outside-both

  -- ---- the machine unwinds

  both : Closed h C → (m n : Hall) (k j : Placed) (l : Event Record) → WellUnder h m.state → WellUnder h n.state → Look m n → Allowed m k
      → Labelled (stays_in h C k.it) (brought m k.it) (ask k.it) (copied m k.it) l
      → Labelled (stays_in h C j.it) (brought n j.it) (ask j.it) (copied n j.it) l
      → (view m k ≡ view n j) × Look (after m k) (after n j)
  unfolding view view-if
  both cl m n k j l f g a ok (a_call b e) (a_call d i) =
      let same : ask j.it ≡ ask k.it = cc in
      let one = remains-alike cl m n f g a k.it b (ok b) (k.covered b) in
      let stepped : out n k.it ≡ out n j.it =
      same_step n.state n.bytes k.it ∙ ap (out n) (sym same) ∙ sym (same_step n.state n.bytes j.it) in
      let ends : onward n k.it ≡ onward n j.it =
      ap₂ (λ (o : Outcome) (at : ℕ). record { state = o.state; bytes = sets n.bytes at o.buffer }) stepped (ap (λ (r : Record). r.offset) (sym same)) in (
        ap₂ view-if (b ∙ sym d) (ap₂ with_answer (sym same) (one.0 ∙ ap (λ (o : Outcome). o.answered) stepped)),
        rw (← ends) one.1,
      )
  both cl m n k j l f g a ok (a_copy b c e) (a_copy d w i) =
      let same : copied m k.it ≡ copied n j.it = cc in
      (rw (b, d), bring-alike m n f g a k j b d c w same)
  both cl m n k j l f g a ok (a_call b e) (a_copy d w i) = let z : ◌≡◌ {A = ℕ} 0 1 = cc in absurd (omega arith)
  both cl m n k j l f g a ok (a_copy b c e) (a_call d i) = let z : ◌≡◌ {A = ℕ} 0 1 = cc in absurd (omega arith)

  unwinds : Closed h C → Unwinds after label view Allowed (λ m. WellUnder h m.state) Look
  unfolding label
  unwinds cl = record {
    sym~ = λ m n a. record { states = agree-sym h C m.state n.state a.states; long = sym a.long; same = λ i p. sym (a.same i p) };
    trans~ = λ m n o a b. record {
      states = agree_trans h C m.state n.state o.state a.states b.states;
      long = a.long ∙ b.long;
      same = λ i p. a.same i p ∙ b.same i p;
    };
    keep = λ m k f. well-after h m.state f m.bytes k.it;
    silent = λ m k f e. let n = none-struck (stays_in h C k.it) (brought m k.it) (ask k.it) (copied m k.it) e in struck m k f cl n.0 n.1;
    alike = λ m n k j l f g a e d ok. both cl m n k j l f g a ok (labelled _ _ (ask k.it) _ l e) (labelled _ _ (ask j.it) _ l d);
  }

  -- ---- a tray is a run of it

  -- the records of a tray, each where its part has to lie
  placed : (rs : List Record) → ((i : ℕ) → seen h C rs i ≡ true → P i ≡ true) → ((i : ℕ) → hidden h C rs i ≡ true → P i ≡ false) → List Placed
  unfolding seen hidden
  placed [] sub dis = []
  placed (r ∷ rs) sub dis =
      record {
        it = r;
        covered = λ m i w. sub i (or-by-left (stays_in h C r && in_part r i) (seen h C rs i) (and_both (stays_in h C r) (in_part r i) m w));
        apart = λ m i w. dis i (or-by-left (not (stays_in h C r) && in_part r i) (hidden h C rs i) (and_both (not (stays_in h C r)) (in_part r i) (not-of (stays_in h C r) m) w));
      }
      ∷ placed rs (λ i e. sub i (or-by-right (stays_in h C r && in_part r i) (seen h C rs i) e))
      (λ i e. dis i (or-by-right (not (stays_in h C r) && in_part r i) (hidden h C rs i) e))

  trace-is : (rs : List Record) (sub : (i : ℕ) → seen h C rs i ≡ true → P i ≡ true) (dis : (i : ℕ) → hidden h C rs i ≡ true → P i ≡ false) (m : Hall)
      → trace after label m (placed rs sub dis) ≡ without_refused (events_in h C m.state m.bytes rs)
  unfolding placed label events_in event_in without_refused
  trace-is [] sub dis m = refl
  trace-is (r ∷ rs) sub dis m =
      rw (trace-is rs _ _ (onward m r)) (pushed-if (stays_in h C r) (into h C (record_call m.bytes r)) (accepted_in m.state m.bytes r) (ask r) (copied m r)
      (events_in h C (onward m r).state (onward m r).bytes rs))

  views-is : (rs : List Record) (sub : (i : ℕ) → seen h C rs i ≡ true → P i ≡ true) (dis : (i : ℕ) → hidden h C rs i ≡ true → P i ≡ false) (m : Hall)
      → given (views after label view m (placed rs sub dis)) ≡ remaining_in h C (in_order m.state m.bytes rs).records
  unfolding placed label view given remaining_in in_order
  views-is [] sub dis m = refl
  views-is (r ∷ rs) sub dis m =
      given-if (stays_in h C r) (brought m r) (ask r) (copied m r) (with_answer r (out m r).answered) _ ∙ rw (views-is rs _ _ (onward m r))

  along-is : (rs : List Record) (sub : (i : ℕ) → seen h C rs i ≡ true → P i ≡ true) (dis : (i : ℕ) → hidden h C rs i ≡ true → P i ≡ false) (m : Hall)
      → AsksNoneIn h C m.state m.bytes rs → Along after Allowed m (placed rs sub dis)
  unfolding placed AsksNoneIn
  along-is [] sub dis m a = tt
  along-is (r ∷ rs) sub dis m a = (a.0, along-is rs _ _ (onward m r) a.1)

  runs-is : (rs : List Record) (sub : (i : ℕ) → seen h C rs i ≡ true → P i ≡ true) (dis : (i : ℕ) → hidden h C rs i ≡ true → P i ≡ false) (m : Hall)
      → runs after m (placed rs sub dis) ≡ record { state = (in_order m.state m.bytes rs).state; bytes = (in_order m.state m.bytes rs).bytes }
  unfolding placed in_order
  runs-is [] sub dis m = refl
  runs-is (r ∷ rs) sub dis m = runs-is rs _ _ (onward m r)

-- ---- the parts of the remaining records hang on what these ask

-- byte i lies in the part of one of them
any_of : List Record → ℕ → Bool
any_of [] i = false
any_of (r ∷ rs) i = in_part r i || any_of rs i

seen-is : (h : List ℕ) (C : ℕ → Bool) (rs : List Record) (i : ℕ) → seen h C rs i ≡ any_of (remaining_in h C (asked rs)) i
unfolding seen remaining_in asked any_of in_part
seen-is h C [] i = refl
seen-is h C (r ∷ rs) i = split _ (stays_in h C r) (λ e. rw (e, seen-is h C rs i) refl) (λ e. rw (e, seen-is h C rs i) refl)

-- ---- demand 3

-- what the set sees of two trays: the remaining records with their answers, the bytes of their parts, the states
pub record SameTrays (h : List ℕ) (C : ℕ → Bool) (rs : List Record) (x y : Tray) : Type 0 where
  pub answers : remaining_in h C x.records ≡ remaining_in h C y.records
  pub parts : SameParts h C rs x.bytes y.bytes
  pub states : Agree C x.state y.state

-- 02's premises, of two trays rs and qs that are lent the byte slices x and y
pub record Premises (h : List ℕ) (C : ℕ → Bool) (rs qs : List Record) (x y : List ℕ) : Type 0 where
  -- "neither tray is too long"
  pub short : length rs ≤ most_records
  pub short' : length qs ≤ most_records
  -- the records that remain ask the same
  pub asked-same : remaining_in h C (asked rs) ≡ remaining_in h C (asked qs)
  -- "both runs have byte slices of one length, equal at the start on the remaining calls' parts"
  pub long : length x ≡ length y
  pub equal : SameParts h C rs x y
  -- "and place those parts apart from the struck-out ones'"
  pub apart : Apart h C rs
  pub apart' : Apart h C qs

pub two-trays : (C : ℕ → Bool) (s t : State) → Well s → Well t → let h : List ℕ = configuration s.table in Closed h C → Agree C s t
    → (rs qs : List Record) (x y : List ℕ) → Premises h C rs qs x y
    → without_refused (events_in h C s x rs) ≡ without_refused (events_in h C t y qs) → AsksNoneIn h C s x rs
    → SameTrays h C rs (after_tray s x rs) (after_tray t y qs)
two-trays C s t ws wt cl a rs qs x y p told unasked =
    let h : List ℕ = configuration s.table in
    let ask-same = p.asked-same in
    let P : ℕ → Bool = seen h C rs in
    let m : Hall = record { state = s; bytes = x } in
    let n : Hall = record { state = t; bytes = y } in
    let seen_same : (i : ℕ) → seen h C qs i ≡ P i = λ i. seen-is h C qs i ∙ ap (λ (l : List Record). any_of l i) (sym ask-same) ∙ sym (seen-is h C rs i) in
    let sub-rs : (i : ℕ) → seen h C rs i ≡ true → P i ≡ true = λ i e. e in
    let sub-qs : (i : ℕ) → seen h C qs i ≡ true → P i ≡ true = λ i e. sym (seen_same i) ∙ e in
    let dis-rs : (i : ℕ) → hidden h C rs i ≡ true → P i ≡ false = λ i e. refuted (P i) (λ q. both_ways (hidden h C rs i) e (p.apart i q)) in
    let dis-qs : (i : ℕ) → hidden h C qs i ≡ true → P i ≡ false = λ i e. refuted (P i) (λ q. both_ways (hidden h C qs i) e (p.apart' i (seen_same i ∙ q))) in
    let ks = placed h C P rs sub-rs dis-rs in
    let js = placed h C P qs sub-qs dis-qs in
    let look : Look h C P m n = record { states = at-configuration h C s t refl a; long = p.long; same = p.equal } in
    let z = two_runs (after h C P) (label h C P) (view h C P) (Allowed h C P) (λ m. WellUnder h m.state) (Look h C P) (unwinds h C P cl) ks js m n
    (record { formed = ws; configured = refl }) (record { formed = wt; configured = sym a.configurations }) look
    (along-is h C P rs sub-rs dis-rs m unasked) (trace-is h C P rs sub-rs dis-rs m ∙ told ∙ sym (trace-is h C P qs sub-qs dis-qs n)) in
    let left = tray-runs s x rs ws p.short in
    let right = tray-runs t y qs wt p.short' in
    let ended : Look h C P (record { state = (in_order s x rs).state; bytes = (in_order s x rs).bytes }) (record { state = (in_order t y qs).state; bytes = (in_order t y qs).bytes })
    = rw (runs-is h C P rs sub-rs dis-rs m, runs-is h C P qs sub-qs dis-qs n) at z.1 in
    record {
      answers =
          ap (λ (w : Tray). remaining_in h C w.records) left ∙ sym (views-is h C P rs sub-rs dis-rs m) ∙ ap given z.0 ∙ views-is h C P qs sub-qs dis-qs n
          ∙ sym (ap (λ (w : Tray). remaining_in h C w.records) right);
      parts = λ i e. ap (λ (w : Tray). get_or w.bytes i 0) left ∙ ended.same i e ∙ sym (ap (λ (w : Tray). get_or w.bytes i 0) right);
      states = from-configuration h C (after_tray s x rs).state (after_tray t y qs).state (tray-conf-kept s x rs ws) (tray-conf-kept t y qs wt ∙ sym a.configurations)
          (rw (left, right) ended.states);
    }

-- ---- as CR 9 and CR 14 say it

pub as-asked : (C : ℕ → Bool) (s t : State) → Well s → Well t → let h : List ℕ = configuration s.table in Closed h C → Agree C s t
    → (rs qs : List Record) (x y : List ℕ) → Premises h C rs qs x y → events_in h C s x rs ≡ events_in h C t y qs → (guard_within h C ≡ true → NamesNone h C (calls_in rs))
    → SameTrays h C rs (after_tray s x rs) (after_tray t y qs)
as-asked C s t ws wt cl a rs qs x y p e n =
    two-trays C s t ws wt cl a rs qs x y p (ap without_refused e) (names-none-in (configuration s.table) C rs s x (record { formed = ws; configured = refl }) n)

-- one observer, a cell o: the set of the cells that flow to it
pub one-observer : (o : ℕ) (s t : State) → Well s → Well t → let h : List ℕ = configuration s.table in let C : ℕ → Bool = observer h o in Agree C s t
    → (rs qs : List Record) (x y : List ℕ) → Premises h C rs qs x y → events_in h C s x rs ≡ events_in h C t y qs → (guard_within h C ≡ true → NamesNone h C (calls_in rs))
    → SameTrays h C rs (after_tray s x rs) (after_tray t y qs)
one-observer o s t ws wt = as-asked (observer (configuration s.table) o) s t ws wt (observer-closed (configuration s.table) o)

-- ---- where CR 3's premises are enough

module _ (C : ℕ → Bool) (s t : State) (ws : Well s) (wt : Well t) (cl : Closed (configuration s.table) C) (a : Agree C s t) (rs qs : List Record) (x y : List ℕ)
    (p : Premises (configuration s.table) C rs qs x y) where
  abbrev h : List ℕ
  h = configuration s.table

  left : WellUnder h s
  left = record { formed = ws; configured = refl }

  right : WellUnder h t
  right = record { formed = wt; configured = sym a.configurations }

  -- P is known of each record's call, and makes it quiet where it is struck out
  quietly : (P : Call → Type 0) → ((s : State) (bytes : List ℕ) (r : Record) → WellUnder h s → P (record_call [] r) → stays h C (record_call bytes r) ≡ false
      → into h C (record_call bytes r) && accepted s (record_call bytes r) ≡ false) → AllOf P (calls_in rs) → AllOf P (calls_in qs) → AsksNoneIn h C s x rs
      → SameTrays h C rs (after_tray s x rs) (after_tray t y qs)
  quietly P quiet n m unasked = two-trays C s t ws wt cl a rs qs x y p
      (only-records h C P quiet rs s x left n ∙ ap calls p.asked-same ∙ sym (only-records h C P quiet qs t y right m)) unasked

  -- demand 3 of trays as it was: no record of either is a regrade
  pub no-regrades : AllOf NoRegrade (calls_in rs) → AllOf NoRegrade (calls_in qs) → SameTrays h C rs (after_tray s x rs) (after_tray t y qs)
  no-regrades n m = quietly NoRegrade (λ s bytes r f q o. quiet-other h C s (record_call bytes r) f q o) n m (other-asks-none-in h C rs s x n)

  guarded : Guarded h C → AsksNoneIn h C s x rs → SameTrays h C rs (after_tray s x rs) (after_tray t y qs)
  guarded g = quietly (λ k. Unit {0}) (λ s bytes r f q o. quiet-guarded h C g s (record_call bytes r) f q o) (all-calls (calls_in rs)) (all-calls (calls_in qs))

  -- or there is no guard cell, whatever the records
  pub no-guard : guard h ≡ 0 → SameTrays h C rs (after_tray s x rs) (after_tray t y qs)
  no-guard z = guarded (guarded-none h C z) (names-none-in h C rs s x left (λ w. both_ways (guard_within h C) w (none_within h C z)))

  -- "Observers above or equal to the guard get demand 3 only where no regrade asks about a cell that doesn't flow to them."
  pub above-guard : guard_within h C ≡ true → AsksNoneIn h C s x rs → SameTrays h C rs (after_tray s x rs) (after_tray t y qs)
  above-guard w = guarded (guarded-within h C w)

  -- observers that the guard does not flow to: the premise on struck-out regrades is all
  pub below-guard : guard_within h C ≡ false → without_refused (events_in h C s x rs) ≡ without_refused (events_in h C t y qs)
      → SameTrays h C rs (after_tray s x rs) (after_tray t y qs)
  below-guard w told = two-trays C s t ws wt cl a rs qs x y p told (names-none-in h C rs s x left (λ v. both_ways (guard_within h C) v w))
