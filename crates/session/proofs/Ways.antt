-- What each way through the session's code comes to.
use Rattle.std.proofs.Common.{◌≡◌, ℕ, ◌+◌, ◌≤◌, min, Bool, true, false, not, eqb, List, [], ◌++◌, length, get_or, take, drop, sym, ap, ◌∙◌, subst, ap₂, arith, length-append, length-take-le, take_at, drop_at, replicate, append-nil, drop_of_length-le}
use Rattle.std.proofs.lemmas.List.{take_min, length-replicate}
use lib.Seq.{sets, sets-eq}
use Rattle.rules.specs.Errors.{XOK, ascii}
use Rattle.rules.specs.SetUp.{set_up_answer, set_up_table}
use Rattle.rules.specs.Step.{Answer, Outcome, step}
use Rattle.rules.specs.Replay.{max_buffer, call_from, line, bad_configuration, bad_script}
use Rattle.laws.proofs.Tests.{cond-false, cond_both}
use Rattle.output.specs.Wrote.{Wrote}
use Rattle.output.proofs.Laws.{none, as-text}
use Rattle.text.specs.Room.{line_bytes}
use Rattle.text.proofs.Length.{line-short}
use Rattle.script.specs.declared.Reader.{Reader}
use Rattle.script.specs.declared.Moved.{Moved}
use Rattle.script.specs.Take.{is_calling, is_between}
use Rattle.script.specs.Advance.{Advanced, advance, Advances}
use Rattle.session.specs.declared.Session.{Session}
use Rattle.session.specs.declared.Stepped.{Stepped}
use Rattle.session.specs.Turn.{fault_text, finish_text, Turn, words_of, bytes_of, accepts, store_ready, outcome_of, acted, turn, Written, Prepared, Ran, Acts, Turned}

-- ---- text that is written, and short enough for a line
pub nothing : (o : List ℕ) (at : ℕ) → Written o at [] at o
nothing o at = record { text = none o at; short = omega arith }

-- where there is room for a line, it stands there
pub stands : (o : List ℕ) (at : ℕ) (s : List ℕ) (r : ℕ) (o' : List ℕ) → at + line_bytes ≤ length o → Written o at s r o' → drop at (take r o') ≡ s
stands o at s r o' m w =
    let h = w.short in
    let e : r ≡ at + length s = omega (arith, w.text.next) in
    let n : length (take at o) ≡ at = length-take-le at o (omega arith) in
    ap (drop at) (ap₂ take e (w.text.left ∙ sets-eq s o at (omega arith)) ∙ take_at (take at o ++ s) (drop (at + length s) o) (at + length s)
    (let f = length-append (take at o) s in omega arith))
    ∙ drop_at (take at o) s at n

-- the fixed lines
short-script : length bad_script ≤ line_bytes
unfolding bad_script ascii
short-script = omega arith

short-configuration : length bad_configuration ≤ line_bytes
unfolding bad_configuration ascii
short-configuration = omega arith

module _ (b : Bool) (o : List ℕ) (at r : ℕ) (o' : List ℕ) where
  pub fault-script : b ≡ true → Wrote o at bad_script r o' → Written o at (fault_text b) r o'
  fault-script e w = rw e (record { text = w; short = short-script })

  pub fault-configuration : b ≡ false → Wrote o at bad_configuration r o' → Written o at (fault_text b) r o'
  fault-configuration e w = rw e (record { text = w; short = short-configuration })

-- and what is due where the input ends
fault-short : (b : Bool) → length (fault_text b) ≤ line_bytes
fault-short true = short-script
fault-short false = short-configuration

pub finish-short : (x : Session) → length (finish_text x) ≤ line_bytes
unfolding finish_text
finish-short x =
    cond_both (λ (s : List ℕ). length s ≤ line_bytes) x.over _ _
    (λ e. omega arith)
    (λ e. cond_both (λ (s : List ℕ). length s ≤ line_bytes) (is_between x.reader) _ _ (λ f. omega arith) (λ f. fault-short (is_calling x.reader)))

-- the same text by another name
pub named : (o : List ℕ) (at : ℕ) (s s' : List ℕ) (r : ℕ) (o' : List ℕ) → s ≡ s' → Written o at s r o' → Written o at s' r o'
named o at s s' r o' e w = subst (λ (z : List ℕ). Written o at z r o') e w

-- ---- a part of a slice that was lent comes back over its front
pub over-front : (t new : List ℕ) (w : ℕ) → length new ≡ length (take w t) → w ≤ length t → new ++ drop w t ≡ sets t 0 new
over-front t new w e h =
    let n : length new ≡ w = e ∙ length-take-le w t h in
    let z : 0 + length new ≡ w = omega arith in
    sym (sets-eq new t 0 (omega arith) ∙ ap (λ (j : ℕ). new ++ drop j t) z)

-- ---- the store is zeros, all of it
pub zeroed : (st : List ℕ) → replicate (length st) 0 ≡ store_ready st
zeroed st =
    let n : length (replicate {A = ℕ} (length st) 0) ≡ length st = length-replicate (length st) 0 in
    sym (sets-eq (replicate (length st) 0) st 0 (omega arith)
    ∙ ap (λ (d : List ℕ). replicate (length st) 0 ++ d) (drop_of_length-le st (omega arith))
    ∙ append-nil (replicate (length st) 0))

-- ---- the configuration is set up: part w of the table, over m bytes of the store; b says whether set-up refuses it
pub prepared : (reader : Reader) (t st : List ℕ) (w m a : ℕ) (b : Bool) (new st' : List ℕ) → w ≡ words_of t → m ≡ bytes_of t st → st' ≡ store_ready st
    → a ≡ set_up_answer (take w t) m → b ≡ not (eqb a XOK) → new ≡ set_up_table (take w t) m → length new ≡ length (take w t)
    → Prepared reader t st (record { reader = reader; lines = 0; words = w; bytes = m; over = b }) (new ++ drop w t) st'
unfolding accepts
prepared reader t st w m a b new st' ew em es ea eb en n =
    record {
      session = λ j. record {
        reader = reader;
        lines = 0;
        words = ew j;
        bytes = em j;
        over = (eb ∙ ap (λ (z : ℕ). not (eqb z XOK)) (ea ∙ ap₂ (λ (x y : ℕ). set_up_answer (take x t) y) ew em)) j;
      };
      table = over-front t new w n (omega arith) ∙ ap (sets t 0) (en ∙ ap₂ (λ (x y : ℕ). set_up_table (take x t) y) ew em);
      store = es;
    }

-- ---- a call is run
pub ran : (x : Session) (n : ℕ) (nums t st l out : List ℕ) (at w v q k : ℕ) (o : Outcome) (a : Answer) (tn sn bn : List ℕ) (r : ℕ) (out' : List ℕ)
    → w ≡ min x.words (length t) → v ≡ min x.bytes (length st) → q ≡ min (get_or nums 5 0) max_buffer → k ≡ min q (length l)
    → o ≡ step (record { table = take w t; store = take v st }) (call_from nums (take k l))
    → a ≡ o.answered → tn ≡ o.state.table → sn ≡ o.state.store → bn ≡ o.buffer
    → length tn ≡ length (take w t) → length sn ≡ length (take v st) → length bn ≡ length (take k l)
    → Wrote out at (line n (get_or nums 1 0) a (take k (bn ++ drop k l))) r out'
    → Ran (outcome_of x nums t st l) n nums t st l out at r (tn ++ drop w t) (sn ++ drop v st) (bn ++ drop k l) out'
unfolding outcome_of
ran x n nums t st l out at w v q k o a tn sn bn r out' ew ev eq ek eo ea et es eb nt ns nb wr =
    let same : o ≡ step (record { table = take x.words t; store = take x.bytes st }) (call_from nums (take (min (get_or nums 5 0) max_buffer) l)) = eo
    ∙ ap₂ (λ (y z : List ℕ). step (record { table = y; store = z }) (call_from nums (take k l))) (ap (λ (j : ℕ). take j t) ew ∙ take_min x.words t)
    (ap (λ (j : ℕ). take j st) ev ∙ take_min x.bytes st)
    ∙ ap (λ (y : List ℕ). step (record { table = take x.words t; store = take x.bytes st }) (call_from nums y))
    (ap (λ (j : ℕ). take j l) ek ∙ take_min q l ∙ ap (λ (j : ℕ). take j l) eq) in
    let long : length bn ≡ k = nb ∙ length-take-le k l (omega arith) in
    record {
      table = over-front t tn w nt (omega arith) ∙ ap (sets t 0) (et ∙ ap (λ (z : Outcome). z.state.table) same);
      store = over-front st sn v ns (omega arith) ∙ ap (sets st 0) (es ∙ ap (λ (z : Outcome). z.state.store) same);
      buffer = over-front l bn k nb (omega arith) ∙ ap (sets l 0) (eb ∙ ap (λ (z : Outcome). z.buffer) same);
      written = named out at (line n (get_or nums 1 0) a bn) _ r out' (ap₂ (line n (get_or nums 1 0)) (ea ∙ ap (λ (z : Outcome). z.answered) same)
          (eb ∙ ap (λ (z : Outcome). z.buffer) same))
          (record {
            text = as-text out at _ (line n (get_or nums 1 0) a bn) r out' (ap (line n (get_or nums 1 0) a) (take_at bn (drop k l) k long)) wr;
            short = line-short n (get_or nums 1 0) a bn (omega arith);
          });
    }

-- ---- a session that is not over acts on what was read, as far as m says
abbrev read_to : Moved → List ℕ → List ℕ → List ℕ → Advanced
read_to m rest t l = record { moved = m; rest = rest; table = t; buffer = l }

pub step-on : (x : Session) (t st l o : List ℕ) (at : ℕ) (s : List ℕ) (i : ℕ) (m : Moved) (t₁ l₁ : List ℕ) (r : Stepped) (t' st' l' o' : List ℕ) → x.over ≡ false
    → Advances (advance x.reader t l s i) m t₁ l₁ → Acts x m t₁ st l₁ o at r t' st' l' o' → Turned (turn x t st l s i) o at r t' st' l' o'
unfolding turn
step-on x t st l o at s i m t₁ l₁ r t' st' l' o' e a k =
    let p : Advanced = advance x.reader t l s i in
    let same : read_to m p.rest t₁ l₁ ≡ p = λ j. record { moved = a.moved j; rest = p.rest; table = a.table j; buffer = a.buffer j } in
    subst (λ (z : Turn). Turned z o at r t' st' l' o') (sym (cond-false x.over _ _ e))
    (subst (λ (z : Advanced). Turned (acted z.moved.what x st z) o at r t' st' l' o') same (k p.rest))
