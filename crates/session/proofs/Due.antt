-- The text that is still to come from a session, by the rules; and that a turn of the session hands out its front.
use Rattle.std.proofs.Common.{◌≡◌, ℕ, suc, ◌+◌, ◌-◌, ◌^◌, ◌<◌, ◌≤◌, Bool, true, false, cond, not, eqb, List, [], ◌∷◌, ◌++◌, length, get_or, take, drop, replicate, sym, refl, ap, ◌∙◌, subst, ap₂, true≢false, append-nil, mod-eq_of_lt, arith, length-append, length-drop, drop_of_length-le, length-take-le, drop-cons}
use native.Mathlib.Nat.{min-eq_left}
use lib.Seq.{sets, length-sets}
use Rattle.rules.specs.Claim.{test}
use Rattle.rules.specs.Layout.{configuration}
use Rattle.rules.specs.SetUp.{set_up_table}
use Rattle.rules.specs.Rule.{first_refusal, Rule}
use Rattle.rules.specs.Step.{State, Call, carried_out, whole_rule, step, next}
use Rattle.rules.specs.Replay.{Taken, took, bad, configuration_in, replayable, call_from, script, script_listing, line, heading, bad_configuration, start_of, listing}
use Rattle.laws.proofs.Tests.{split, cond-true, cond-false, cond_both}
use Rattle.laws.proofs.Written.{length-write}
use Rattle.laws.proofs.Stored.{length-store}
use Rattle.output.proofs.Laws.{take-sets}
use Rattle.script.specs.declared.Stage.{Stage}
use Rattle.script.specs.declared.Stage.TheVariants.{Header, Body, Numbers, Bytes}
use Rattle.script.specs.declared.Reader.{Reader}
use Rattle.script.specs.declared.What.{What}
use Rattle.script.specs.declared.What.TheVariants as what
use Rattle.script.specs.Take.{calling_at, is_calling, is_between}
use Rattle.script.specs.Advance.{Advanced, advanced, advance}
use Rattle.script.proofs.Going.{accepted}
use Rattle.script.proofs.Meaning.{Meaning, configured, called, meaning_at, meaning, fault_of, GoodAt, Good, Called, Told}
use Rattle.script.proofs.Piece.{ends, taken, place, rest_of}
use Rattle.script.proofs.Script.{piece-told, at-start, at_call, at-end}
use Rattle.session.specs.declared.Session.{Session}
use Rattle.session.specs.Turn.{new_session, fault_text, finish_text, Turn, words_of, bytes_of, accepts, table_ready, store_ready, outcome_of, one_more, after_call, acted, turn}
use Rattle.session.proofs.Calls.{script_text, calls_text, call_text, calls-none, calls-cons}
use Rattle.session.proofs.Ready.{most_replay_words, most_replay_bytes, accepts-replayable, begins}

-- ---- what is due for what is being read, where n calls were made and the state is st
unfoldable pub due : ℕ → State → Meaning → List ℕ
due n st (configured (took h s)) = heading ++ calls_text 0 (start_of h) s
due n st (configured bad) = bad_configuration
due n st (called x) = call_text n st x

-- for a configuration the state does not matter
conf-free : (n m : ℕ) (st st' : State) (x : Taken (List ℕ)) → due n st (configured x) ≡ due m st' (configured x)
unfolding due
conf-free n m st st' (took h s) = refl
conf-free n m st st' bad = refl

due-free : (n m : ℕ) (st st' : State) (r : Reader) (t l s : List ℕ) → is_calling r ≡ false → due n st (meaning r t l s) ≡ due m st' (meaning r t l s)
unfolding meaning
due-free n m st st' r t l s e = go r.stage e
  where
    go : (g : Stage) → calling_at g ≡ false → due n st (meaning_at g r t l s) ≡ due m st' (meaning_at g r t l s)
    go Header z = conf-free n m st st' _
    go Body z = conf-free n m st st' _
    go Numbers z = absurd (true≢false z)
    go Bytes z = absurd (true≢false z)

due-fault : (n : ℕ) (st : State) (b : Bool) → due n st (fault_of b) ≡ fault_text b
unfolding due call_text
due-fault n st true = refl
due-fault n st false = refl

-- ---- what is to come from a session
abbrev pub state_of : Session → List ℕ → List ℕ → State
state_of x t st = record { table = take x.words t; store = take x.bytes st }

-- s is what is left of the input
unfoldable pub to_come : Session → List ℕ → List ℕ → List ℕ → List ℕ → List ℕ
to_come x t st l s =
    cond x.over []
    (cond (is_between x.reader) (calls_text x.lines (state_of x t st) s) (due x.lines (state_of x t st) (meaning x.reader t l s)))

-- a session that can come up, and is not over
pub record Fine (x : Session) (t st l s : List ℕ) : Type 0 where
  pub good : Good x.reader t l
  pub long : most_replay_words ≤ length t
  pub wide : most_replay_bytes ≤ length st
  pub count : x.lines + length s < 2 ^ 64
  pub words : is_calling x.reader ≡ true → x.words ≤ length t
  pub bytes : is_calling x.reader ≡ true → x.bytes ≤ length st

-- a turn hands out the front of what is to come, and leaves a session that can come up
pub record Hands (x : Session) (t st l s ys : List ℕ) (k : Turn) : Type 0 where
  pub text : to_come x t st l (s ++ ys) ≡ k.text ++ to_come k.session k.table k.store k.buffer (k.rest ++ ys)
  pub fine : k.session.over ≡ false → Fine k.session k.table k.store k.buffer (k.rest ++ ys)

pub over_nothing : (x : Session) (t st l s : List ℕ) → x.over ≡ true → to_come x t st l s ≡ []
unfolding to_come
over_nothing x t st l s e = rw e

-- ---- something is left of the input
module _ (x : Session) (t st l : List ℕ) (going : x.over ≡ false) where
  -- then a call is being read, or the configuration
  reading : (b : ℕ) (s : List ℕ) → Good x.reader t l → to_come x t st l (b ∷ s) ≡ due x.lines (state_of x t st) (meaning x.reader t l (b ∷ s))
  unfolding to_come due
  reading b s h =
      rw going
      (split _ (is_between x.reader)
      (λ e. rw (e, at_call x.reader t l (b ∷ s) h e) (calls-cons x.lines (state_of x t st) b s))
      (λ e. rw e))

  -- between two calls, and else
  between-to_come : (s : List ℕ) → is_between x.reader ≡ true → to_come x t st l s ≡ calls_text x.lines (state_of x t st) s
  unfolding to_come
  between-to_come s e = rw (going, e)

  mid-to_come : (s : List ℕ) → is_between x.reader ≡ false → to_come x t st l s ≡ due x.lines (state_of x t st) (meaning x.reader t l s)
  unfolding to_come
  mid-to_come s e = rw (going, e)

-- ---- the configuration, taken or not
taken-due : (n : ℕ) (st : State) (h s : List ℕ) → test (replayable h) ≡ true → due n st (configured (accepted (took h s))) ≡ heading ++ calls_text 0 (start_of h) s
unfolding due accepted
taken-due n st h s e = rw e

refused-due : (n : ℕ) (st : State) (h s : List ℕ) → test (replayable h) ≡ false → due n st (configured (accepted (took h s))) ≡ bad_configuration
unfolding due accepted
refused-due n st h s e = rw e

-- at a call's numbers the table does not matter
good-table : (r : Reader) (t t' l : List ℕ) → Good r t l → r.stage ≡ Numbers → Good r t' l
good-table r t t' l g e =
    record {
      small = g.small;
      within = g.within;
      six = g.six;
      buffer = g.buffer;
      here = subst (λ (z : Stage). GoodAt z r t') (sym e) (subst (λ (z : Stage). GoodAt z r t) e g.here);
    }

good-buffer : (r : Reader) (t t' l l' : List ℕ) → Good r t l → r.stage ≡ Numbers → length l' ≡ length l → Good r t' l'
good-buffer r t t' l l' g e n = let f = good-table r t t' l g e in record { small = f.small; within = f.within; six = f.six; buffer = rw n f.buffer; here = f.here }

-- ---- a call keeps the sizes of the table and of the store
sizes : (c : List ℕ) (s : State) (buffer : List ℕ) (k : Rule) → (length (carried_out c s buffer k).state.table ≡ length s.table) ×
    (length (carried_out c s buffer k).state.store ≡ length s.store)
unfolding carried_out
sizes c s buffer k =
    split _ (eqb (first_refusal k.refusals) 0)
    (λ e. rw e (length-write c s.table k.effects.words, length-store c s.store k.effects.bytes))
    (λ e. rw e (refl, refl))

step-sizes : (s : State) (k : Call) → (length (next s k).table ≡ length s.table) × (length (next s k).store ≡ length s.store)
unfolding step
step-sizes s k = sizes (configuration s.table) s k.buffer (whole_rule (configuration s.table) s k)

-- what it leaves, stored over the front of the slices, is the state after it
after-call : (x : Session) (t st : List ℕ) (k : Call) → x.words ≤ length t → x.bytes ≤ length st
    → ◌≡◌ {A = State} (record {
      table = take x.words (sets t 0 (next (state_of x t st) k).table);
      store = take x.bytes (sets st 0 (next (state_of x t st) k).store);
    }) (next (state_of x t st) k)
after-call x t st k w v =
    let z = step-sizes (state_of x t st) k in
    let a = take-sets t (next (state_of x t st) k).table x.words (z.0 ∙ length-take-le x.words t w) w in
    let b = take-sets st (next (state_of x t st) k).store x.bytes (z.1 ∙ length-take-le x.bytes st v) v in
    λ i. record { table = a i; store = b i }

-- ---- by what was read of b ∷ s, with ys after it
module _ (x : Session) (t st l : List ℕ) (b : ℕ) (s ys : List ℕ) (going : x.over ≡ false) (h : Fine x t st l ((b ∷ s) ++ ys)) (p : Advanced)
    (shorter : length p.rest ≤ length s) where
  abbrev r : Reader
  r = x.reader

  abbrev r' : Reader
  r' = p.moved.reader

  left : length (p.rest ++ ys) < length ((b ∷ s) ++ ys)
  left = let a = length-append p.rest ys in let c = length-append s ys in omega arith

  due-now : to_come x t st l ((b ∷ s) ++ ys) ≡ due x.lines (state_of x t st) (meaning r t l ((b ∷ s) ++ ys))
  due-now = reading x t st l going b (s ++ ys) h.good

  -- nothing is whole yet
  hands_more : Told what.More r t l (b ∷ s) r' p.table p.buffer p.rest → Hands x t st l (b ∷ s) ys (acted what.More x st p)
  unfolding acted
  hands_more (e, o) =
      record {
        text =
            due-now
            ∙ ap (due x.lines (state_of x t st)) (o.same ys)
            ∙ split _ (is_calling r)
            (λ c. ap (λ (z : List ℕ). due x.lines (state_of x z st) (meaning r' p.table p.buffer ys)) (sym (o.table c)))
            (λ c. due-free x.lines x.lines (state_of x t st) (state_of x p.table st) r' p.table p.buffer ys (o.stage ∙ c))
            ∙ sym (ap (to_come _ p.table st p.buffer) (ap (λ (z : List ℕ). z ++ ys) e) ∙ mid-to_come _ p.table st p.buffer refl ys (o.begun refl));
        fine = λ z. record {
          good = o.good;
          long = rw o.size h.long;
          wide = h.wide;
          count = let c = h.count in let n = left in omega arith;
          words = λ c. rw o.size (h.words (sym o.stage ∙ c));
          bytes = λ c. h.bytes (sym o.stage ∙ c);
        };
      }

  -- a fault
  hands-fault : Told what.Fault r t l (b ∷ s) r' p.table p.buffer p.rest → Hands x t st l (b ∷ s) ys (acted what.Fault x st p)
  unfolding acted
  hands-fault f =
      record {
        text =
            due-now
            ∙ ap (due x.lines (state_of x t st)) (f.same ys)
            ∙ due-fault x.lines (state_of x t st) (is_calling r)
            ∙ sym (ap (λ (z : List ℕ). fault_text (is_calling r) ++ z) (over_nothing _ p.table st p.buffer (p.rest ++ ys) refl) ∙ append-nil (fault_text (is_calling r)));
        fine = λ z. absurd (true≢false z);
      }

  -- the configuration is whole
  hands-configuration : Told what.Configuration r t l (b ∷ s) r' p.table p.buffer p.rest → Hands x t st l (b ∷ s) ys (acted what.Configuration x st p)
  unfolding acted
  hands-configuration o =
      let long' : most_replay_words ≤ length p.table = rw o.size h.long in
      let same : accepts p.table st ≡ test (replayable (configuration p.table)) = accepts-replayable p.table st o.counts long' h.wide in
      record {
        text =
            due-now
            ∙ ap (due x.lines (state_of x t st)) (o.same ys)
            ∙ split _ (accepts p.table st)
            (λ e. taken-due x.lines (state_of x t st) (configuration p.table) (p.rest ++ ys) (sym same ∙ e)
            ∙ ap (λ (z : State). heading ++ calls_text 0 z (p.rest ++ ys)) (sym (begins p.table st o.counts long' h.wide e))
            ∙ sym (ap₂ ◌++◌ (cond-true (accepts p.table st) heading bad_configuration e)
            (between-to_come _ (table_ready p.table st) (store_ready st) p.buffer (ap not e) (p.rest ++ ys) (ap is_between o.reader))))
            (λ e. refused-due x.lines (state_of x t st) (configuration p.table) (p.rest ++ ys) (sym same ∙ e)
            ∙ sym (ap₂ ◌++◌ (cond-false (accepts p.table st) heading bad_configuration e)
            (over_nothing _ (table_ready p.table st) (store_ready st) p.buffer (p.rest ++ ys) (ap not e)) ∙ append-nil bad_configuration));
        fine = λ z. record {
          good = good-table r' p.table (table_ready p.table st) p.buffer o.good (ap (λ (z : Reader). z.stage) o.reader);
          long = rw (length-sets p.table 0 (set_up_table (take (words_of p.table) p.table) (bytes_of p.table st))) long';
          wide = rw (length-sets st 0 (replicate (length st) 0)) h.wide;
          count = let c = h.count in let n = left in omega arith;
          words = λ c. let w = length-sets p.table 0 (set_up_table (take (words_of p.table) p.table) (bytes_of p.table st)) in omega arith;
          bytes = λ c. let w = length-sets st 0 (replicate (length st) 0) in omega arith;
        };
      }

  -- a call is whole
  hands-outcome : Called r t l (b ∷ s) r' p.table p.buffer p.rest
      → Hands x t st l (b ∷ s) ys (after_call x st p (step (state_of x p.table st) (call_from r'.nums (take (get_or r'.nums 5 0) p.buffer))))
  unfolding due call_text
  hands-outcome o =
      let k : Call = call_from r'.nums (take (get_or r'.nums 5 0) p.buffer) in
      let w : x.words ≤ length p.table = rw o.table (h.words o.stage) in
      let one : x.lines + 1 ≡ one_more x.lines = sym (mod-eq_of_lt (let c = h.count in let n = length-append s ys in omega arith)) in
      record {
        text =
            due-now
            ∙ ap (due x.lines (state_of x t st)) (o.same ys)
            ∙ ap (λ (z : List ℕ). line (x.lines + 1) k.code (step (state_of x z st) k).answered (step (state_of x z st) k).buffer ++ calls_text (x.lines + 1)
            (next (state_of x z st) k) (p.rest ++ ys)) (sym o.table)
            ∙ ap (λ (n : ℕ). line n k.code (step (state_of x p.table st) k).answered (step (state_of x p.table st) k).buffer ++ calls_text n
            (next (state_of x p.table st) k) (p.rest ++ ys)) one
            ∙ ap (λ (z : List ℕ). line (one_more x.lines) k.code (step (state_of x p.table st) k).answered (step (state_of x p.table st) k).buffer ++ z)
            (ap (λ (z : State). calls_text (one_more x.lines) z (p.rest ++ ys)) (sym (after-call x p.table st k w (h.bytes o.stage)))
            ∙ sym (between-to_come _ _ _ _ refl (p.rest ++ ys) (ap is_between o.reader)));
        fine = λ z. record {
          good = good-buffer r' p.table _ p.buffer _ o.good (ap (λ (z : Reader). z.stage) o.reader)
              (length-sets p.buffer 0 (step (state_of x p.table st) k).buffer);
          long = rw (length-sets p.table 0 (next (state_of x p.table st) k).table, o.table) h.long;
          wide = rw (length-sets st 0 (next (state_of x p.table st) k).store) h.wide;
          count = let c = h.count in let n = left in omega arith;
          words = λ c. rw (length-sets p.table 0 (next (state_of x p.table st) k).table) w;
          bytes = λ c. rw (length-sets st 0 (next (state_of x p.table st) k).store) (h.bytes o.stage);
        };
      }

  hands-call : Told what.Call r t l (b ∷ s) r' p.table p.buffer p.rest → Hands x t st l (b ∷ s) ys (acted what.Call x st p)
  unfolding acted outcome_of
  hands-call o =
      subst (λ (n : ℕ). Hands x t st l (b ∷ s) ys (after_call x st p (step (state_of x p.table st) (call_from r'.nums (take n p.buffer))))) (sym (min-eq_left o.short))
      (hands-outcome o)

-- ---- any turn
over-hands : (x : Session) (t st l s ys : List ℕ) (i : ℕ) → x.over ≡ true
    → Hands x t st l s ys (record { session = x; next = i + length s; rest = []; table = t; store = st; buffer = l; text = [] })
over-hands x t st l s ys i e =
    record { text = over_nothing x t st l (s ++ ys) e ∙ sym (over_nothing x t st l ys e); fine = λ z. absurd (true≢false (sym e ∙ z)) }

-- no byte
none-hands : (x : Session) (t st l ys : List ℕ) (i : ℕ) → x.over ≡ false → Fine x t st l ys
    → Hands x t st l [] ys (acted what.More x st (advanced what.More x.reader i [] t l))
unfolding acted
none-hands x t st l ys i e f =
    record {
      text = ap (λ (b : Bool). to_come (record { reader = x.reader; lines = x.lines; words = x.words; bytes = x.bytes; over = b }) t st l ys) e;
      fine = λ z. record { good = f.good; long = f.long; wide = f.wide; count = f.count; words = f.words; bytes = f.bytes };
    }

piece-hands : (x : Session) (t st l s ys : List ℕ) (i : ℕ) → x.over ≡ false → Fine x t st l (s ++ ys)
    → Hands x t st l s ys (acted (advance x.reader t l s i).moved.what x st (advance x.reader t l s i))
piece-hands x t st l [] ys i e f = rw (ends x.reader t l i) (none-hands x t st l ys i e f)
piece-hands x t st l (b ∷ s) ys i e f =
    go (advance x.reader t l (b ∷ s) i).moved.what (piece-told x.reader t l (b ∷ s) i f.good)
  where
    p : Advanced
    p = advance x.reader t l (b ∷ s) i

    go : (w : What) → Told w x.reader t l (b ∷ s) p.moved.reader p.table p.buffer p.rest → Hands x t st l (b ∷ s) ys (acted w x st p)
    go what.More o = hands_more x t st l b s ys e f p (taken x.reader t l b s i) o
    go what.Configuration o = hands-configuration x t st l b s ys e f p (taken x.reader t l b s i) o
    go what.Call o = hands-call x t st l b s ys e f p (taken x.reader t l b s i) o
    go what.Fault o = hands-fault x t st l b s ys e f p (taken x.reader t l b s i) o

pub turn-hands : (x : Session) (t st l s ys : List ℕ) (i : ℕ) → (x.over ≡ false → Fine x t st l (s ++ ys)) → Hands x t st l s ys (turn x t st l s i)
unfolding turn
turn-hands x t st l s ys i f =
    split _ x.over
    (λ e. subst (Hands x t st l s ys) (sym (cond-true x.over _ _ e)) (over-hands x t st l s ys i e))
    (λ e. subst (Hands x t st l s ys) (sym (cond-false x.over _ _ e)) (piece-hands x t st l s ys i e (f e)))

-- ---- where the input ends
pub finish-hands : (x : Session) (t st l : List ℕ) → to_come x t st l [] ≡ finish_text x
unfolding to_come finish_text
finish-hands x t st l =
    split _ x.over
    (λ e. rw e)
    (λ e. rw e (split _ (is_between x.reader)
    (λ z. rw z (calls-none x.lines (state_of x t st)))
    (λ z. rw (z, at-end x.reader t l) (due-fault x.lines (state_of x t st) (is_calling x.reader)))))

-- ---- where it begins
from-configuration : (n : ℕ) (st : State) (x : Taken (List ℕ)) → due n st (configured (accepted x)) ≡ elim x as (λ z. List ℕ) [
  | took h rest ↦ cond (test (replayable h)) (heading ++ script_listing (start_of h) (script rest)) bad_configuration
  | bad ↦ bad_configuration
]
unfolding due accepted script_listing script_text
from-configuration n st bad = refl
from-configuration n st (took h rest) = split _ (test (replayable h)) (λ e. rw e) (λ e. rw e)

pub start-hands : (t st l s : List ℕ) → to_come new_session t st l s ≡ listing s
unfolding to_come listing
start-hands t st l s = ap (due 0 (state_of new_session t st)) (at-start t l s) ∙ from-configuration 0 (state_of new_session t st) (configuration_in s)

-- ---- a turn goes forward
acted-rest : (w : What) (x : Session) (st : List ℕ) (p : Advanced) → ((acted w x st p).rest ≡ p.rest) × ((acted w x st p).next ≡ p.moved.next)
unfolding acted
acted-rest what.More x st p = (refl, refl)
acted-rest what.Configuration x st p = (refl, refl)
acted-rest what.Call x st p = (refl, refl)
acted-rest what.Fault x st p = (refl, refl)

-- a byte is taken, where there is one
pub turn-taken : (x : Session) (t st l : List ℕ) (b : ℕ) (s : List ℕ) (i : ℕ) → length (turn x t st l (b ∷ s) i).rest ≤ length s
unfolding turn
turn-taken x t st l b s i =
    cond_both (λ (k : Turn). length k.rest ≤ length s) x.over _ _
    (λ e. omega arith)
    (λ e. rw (acted-rest (advance x.reader t l (b ∷ s) i).moved.what x st (advance x.reader t l (b ∷ s) i)).0 (taken x.reader t l b s i))

-- and none is passed over
pub turn-place : (x : Session) (t st l s : List ℕ) (i : ℕ) → (turn x t st l s i).next + length (turn x t st l s i).rest ≡ i + length s
unfolding turn
turn-place x t st l s i =
    cond_both (λ (k : Turn). k.next + length k.rest ≡ i + length s) x.over _ _
    (λ e. omega arith)
    (λ e. let a = acted-rest (advance x.reader t l s i).moved.what x st (advance x.reader t l s i) in rw (a.0, a.1) (place x.reader t l s i))

-- what is left stands from there on
pub turn-rest : (x : Session) (t st l s : List ℕ) (i : ℕ) → (turn x t st l (drop i s) i).rest ≡ drop (turn x t st l (drop i s) i).next s
unfolding turn
turn-rest x t st l s i =
    cond_both (λ (k : Turn). k.rest ≡ drop k.next s) x.over _ _
    (λ e. let d = length-drop i s in let m : length s ≤ i + length (drop i s) = omega arith in sym (drop_of_length-le s m))
    (λ e. let a = acted-rest (advance x.reader t l (drop i s) i).moved.what x st (advance x.reader t l (drop i s) i) in
    rw (a.0, a.1) (rest_of x.reader t l (drop i s) i s refl))

-- so a loop over a piece ends
pub nearer : (x : Session) (t st l s : List ℕ) (i n : ℕ) → i < length s → n ≡ (turn x t st l (drop i s) i).next → length s - n < length s - i
nearer x t st l s i n h e =
    let f : drop i s ≡ get_or s i 0 ∷ drop (suc i) s = drop-cons s i 0 h in
    let a = turn-place x t st l (drop i s) i in
    let d = length-drop i s in
    let g = length-drop (suc i) s in
    let b : length (turn x t st l (drop i s) i).rest ≤ length (drop (suc i) s) = rw f (turn-taken x t st l (get_or s i 0) (drop (suc i) s) i) in
    omega arith
