-- What a call's function leaves: the answer and the table that its rule gives.
use Rattle.std.specs.Prelude.{◌≡◌, cond, List, ℕ, eqb, Result, Ok, Err}
use Rattle.rules.specs.Layout.{Addr, configuration, rd}
use Rattle.rules.specs.Errors.{XOK}
use Rattle.rules.specs.Rule.{first_refusal, Rule, write, store}
use Rattle.calls.specs.declared.Answer.{Answer}
use Rattle.calls.specs.declared.error.Error.{Error}
use Rattle.calls.specs.Refusing.{number_of}

abbrev pub said : ℕ → ℕ → ℕ → Answer
said e x y = record { error = e; first = x; second = y }

-- the answer of a call that ended so
abbrev pub told : Result (ℕ × ℕ) Error → Answer
told (Ok w) = said XOK w.0 w.1
told (Err e) = said (number_of e) 0 0

-- the rule of a call on a table: f takes the configuration and what the table holds
abbrev pub rule_at : List ℕ → (List ℕ → (Addr → ℕ) → Rule) → Rule
rule_at t f = f (configuration t) (rd (configuration t) t)

unfoldable pub answer_of : Rule → Answer
answer_of k =
    cond (eqb (first_refusal k.refusals) 0) (said XOK k.effects.first k.effects.second) (said (first_refusal k.refusals) 0 0)

unfoldable pub table_of : List ℕ → List ℕ → Rule → List ℕ
table_of h t k = cond (eqb (first_refusal k.refusals) 0) (write h t k.effects.words) t

unfoldable pub store_of : List ℕ → List ℕ → Rule → List ℕ
store_of h s k = cond (eqb (first_refusal k.refusals) 0) (store h s k.effects.bytes) s

unfoldable pub buffer_of : List ℕ → Rule → List ℕ
buffer_of b k = cond (eqb (first_refusal k.refusals) 0) k.effects.buffer b

-- the answer and the table that the rule gives
pub record Left (t : List ℕ) (f : List ℕ → (Addr → ℕ) → Rule) (r : Answer) (t' : List ℕ) : Type 0 where
  pub answer : r ≡ answer_of (rule_at t f)
  pub table : t' ≡ table_of (configuration t) t (rule_at t f)
