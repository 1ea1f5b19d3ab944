-- What the public call ensures: the answer, every table word, every stored byte and every buffer byte are those of the rules' step.
use Rattle.std.specs.Prelude.{◌≡◌, List, [], ℕ}
use Rattle.rules.specs.Layout.{configuration, rd}
use Rattle.rules.specs.Rule.{Rule}
use Rattle.rules.specs.Step as rules
use Rattle.rules.specs.Step.{State, Call, Outcome, rule_of}
use Rattle.calls.specs.declared.Answer.{Answer}
use Rattle.calls.specs.Left.{answer_of, table_of, store_of, buffer_of, Left}

abbrev pub state_of : List ℕ → List ℕ → State
state_of t s = record { table = t; store = s }

abbrev pub call_of : ℕ → ℕ → ℕ → ℕ → ℕ → List ℕ → Call
call_of p code a b c buffer = record { caller = p; code = code; a = a; b = b; c = c; buffer = buffer }

-- an answer of the code as the rules' answer: the same three numbers
abbrev pub rule_answer : Answer → rules.Answer
rule_answer r = rules.answer r.error r.first r.second

pub record Did (o : Outcome) (r : Answer) (t' s' b' : List ℕ) : Type 0 where
  pub answered : rule_answer r ≡ o.answered
  pub table : t' ≡ o.state.table
  pub store : s' ≡ o.state.store
  pub buffer : b' ≡ o.buffer

-- ---- on the way there

-- a rule carried out, where the table and the caller are good
pub record Through (t s b : List ℕ) (k : Rule) (r : Answer) (t' s' b' : List ℕ) : Type 0 where
  pub answer : r ≡ answer_of k
  pub table : t' ≡ table_of (configuration t) t k
  pub store : s' ≡ store_of (configuration t) s k
  pub buffer : b' ≡ buffer_of b k

-- the rule of a call's code on a table and a store
abbrev pub rule_in : List ℕ → List ℕ → ℕ → ℕ → ℕ → ℕ → ℕ → List ℕ → Rule
rule_in t s p code a b c buffer = rule_of (configuration t) (rd (configuration t) t) s (call_of p code a b c buffer)

-- a call that writes words alone, whatever the store and the buffer
pub record Plain (t : List ℕ) (p code a b c : ℕ) (r : Answer) (t' s buffer : List ℕ) : Type 0 where
  pub left : Left t (λ h q. rule_of h q s (call_of p code a b c buffer)) r t'
  pub bytes : (rule_in t s p code a b c buffer).effects.bytes ≡ []
  pub same : (rule_in t s p code a b c buffer).effects.buffer ≡ buffer
