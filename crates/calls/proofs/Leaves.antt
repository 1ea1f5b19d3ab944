-- The two ways a call ends: refused with the first number whose test holds, or done.
use mathlib.Core.Path.{◌≡◌, refl, ap, ◌∙◌}
use mathlib.Core.Bool.{true}
use mathlib.Core.List.{List}
use Prim.Native.Nat.{ℕ}
use native.Mathlib.Omega.{arith}
use lib.Dec.{ltb}
use borrow.Author.Tests.{eq-eqb, ne_eqb, ltb-true}
use Rattle.std.specs.Prelude.{Option, Some, None, Result, Ok, Err, IsErr, IsErrAnd}
use Rattle.std.specs.Option.{ok_or}
use Rattle.rules.specs.Layout.{Addr, configuration}
use Rattle.rules.specs.Rule.{first_refusal, Rule, write, store}
use Rattle.calls.specs.declared.Answer.{Answer}
use Rattle.calls.specs.declared.error.Error.{Error}
use Rattle.calls.specs.declared.error.Error.TheVariants.{XbTab, XbPrSd, XbdKcl, XbParam, XbSz, XbSgSz, XbadModes, XnSgDes, XbSgDes, XbadOd, XbSgSd, XnoObj, XnoAcc, XnoOwner, XnoPriv, XdapViol, XsgNoAcc, XdupSg, Xbusy, XnotReadable, XnotWritable, XbadBlockNo, XendOfFile, XbadLink, XodSpace, XnoSpace, XnoProc, XpostEh, XbNoMes, XoutSgAldUmp, XinSgAldMap, XvrtMmCfl, XshSg, XnoSPriv, XbadStCap, XbadSubtypeMatch}
use Rattle.calls.specs.Refusing.{number_of, found}
use Rattle.calls.specs.Left.{said, told, rule_at, answer_of, table_of, store_of, buffer_of, Left}

-- e is the number that the code has found
module _ (k : Rule) {e : ℕ} (found : e ≡ first_refusal k.refusals) where
  pub answer-refused : (e ≡ 0 → ⊥) → said e 0 0 ≡ answer_of k
  unfolding answer_of
  answer-refused n = rw (← found, ne_eqb e 0 n)

  pub answer-done : e ≡ 0 → said 0 k.effects.first k.effects.second ≡ answer_of k
  unfolding answer_of
  answer-done z = rw (← found, eq-eqb e 0 z)

  table-refused : (h t : List ℕ) → (e ≡ 0 → ⊥) → t ≡ table_of h t k
  unfolding table_of
  table-refused h t n = rw (← found, ne_eqb e 0 n)

  table_done : (h t : List ℕ) → e ≡ 0 → write h t k.effects.words ≡ table_of h t k
  unfolding table_of
  table_done h t z = rw (← found, eq-eqb e 0 z)

  pub store-refused : (h s : List ℕ) → (e ≡ 0 → ⊥) → s ≡ store_of h s k
  unfolding store_of
  store-refused h s n = rw (← found, ne_eqb e 0 n)

  pub store-done : (h s : List ℕ) → e ≡ 0 → store h s k.effects.bytes ≡ store_of h s k
  unfolding store_of
  store-done h s z = rw (← found, eq-eqb e 0 z)

  pub buffer-refused : (b : List ℕ) → (e ≡ 0 → ⊥) → b ≡ buffer_of b k
  unfolding buffer_of
  buffer-refused b n = rw (← found, ne_eqb e 0 n)

  pub buffer-done : (b : List ℕ) → e ≡ 0 → k.effects.buffer ≡ buffer_of b k
  unfolding buffer_of
  buffer-done b z = rw (← found, eq-eqb e 0 z)

-- every refusal has a number
pub number-some : (e : Error) → ltb 0 (number_of e) ≡ true
number-some = elim [
  | XbTab ↦ refl
  | XbPrSd ↦ refl
  | XbdKcl ↦ refl
  | XbParam ↦ refl
  | XbSz ↦ refl
  | XbSgSz ↦ refl
  | XbadModes ↦ refl
  | XnSgDes ↦ refl
  | XbSgDes ↦ refl
  | XbadOd ↦ refl
  | XbSgSd ↦ refl
  | XnoObj ↦ refl
  | XnoAcc ↦ refl
  | XnoOwner ↦ refl
  | XnoPriv ↦ refl
  | XdapViol ↦ refl
  | XsgNoAcc ↦ refl
  | XdupSg ↦ refl
  | Xbusy ↦ refl
  | XnotReadable ↦ refl
  | XnotWritable ↦ refl
  | XbadBlockNo ↦ refl
  | XendOfFile ↦ refl
  | XbadLink ↦ refl
  | XodSpace ↦ refl
  | XnoSpace ↦ refl
  | XnoProc ↦ refl
  | XpostEh ↦ refl
  | XbNoMes ↦ refl
  | XoutSgAldUmp ↦ refl
  | XinSgAldMap ↦ refl
  | XvrtMmCfl ↦ refl
  | XshSg ↦ refl
  | XnoSPriv ↦ refl
  | XbadStCap ↦ refl
  | XbadSubtypeMatch ↦ refl
]

pub refusal-some : (e : Error) → number_of e ≡ 0 → ⊥
refusal-some e z = omega (arith, ltb-true 0 (number_of e) (number-some e), z)

-- a refusal that is passed on keeps its number
pub passed-on : {A : Type 0} (e : Error) (r : Result A Error) → IsErr r → IsErrAnd r (λ x. x ≡ e) → found r ≡ number_of e
passed-on e (Ok w) is same = absurd same
passed-on e (Err x) is same = ap number_of same

-- where there is nothing, the error is the one that is named for that
pub error-named : {A : Type 0} (o : Option A) (n e : Error) → Err e ≡ ok_or o n → number_of e ≡ number_of n
error-named None n e same = let x : e ≡ n = cc in ap number_of x
error-named (Some x) n e same = absurd cc

-- a call on the table t whose rule there is f
module _ (t : List ℕ) (f : List ℕ → (Addr → ℕ) → Rule) {e : ℕ} (found : e ≡ first_refusal (rule_at t f).refusals) {r : Answer} where
  pub left-refused : (e ≡ 0 → ⊥) → r ≡ said e 0 0 → Left t f r t
  left-refused n a = record { answer = a ∙ answer-refused (rule_at t f) found n; table = table-refused (rule_at t f) found (configuration t) t n }

  pub left-done : {t' : List ℕ} → e ≡ 0 → r ≡ said 0 (rule_at t f).effects.first (rule_at t f).effects.second
      → t' ≡ write (configuration t) t (rule_at t f).effects.words → Left t f r t'
  left-done z a w = record { answer = a ∙ answer-done (rule_at t f) found z; table = w ∙ table_done (rule_at t f) found (configuration t) t z }

-- a call that ends in its words
pub left-told : (t : List ℕ) (f : List ℕ → (Addr → ℕ) → Rule) {x y : ℕ} {t' : List ℕ} → 0 ≡ first_refusal (rule_at t f).refusals
    → x ≡ (rule_at t f).effects.first → y ≡ (rule_at t f).effects.second → t' ≡ write (configuration t) t (rule_at t f).effects.words → Left t f (told (Ok (x, y))) t'
left-told t f found p q w = left-done t f found refl (rw (p, q)) w

-- where a refusal is handed on, what comes of it is that refusal
pub ended-so : {A : Type 0} (e : Error) (r : Result A Error) → IsErr r → IsErrAnd r (λ x. x ≡ e) → r ≡ Err e
ended-so e (Ok a) is same = absurd same
ended-so e (Err x) is same = ap (λ (y : Error). Err y) same

-- a call that a refusal ends
pub left-stopped : (t : List ℕ) (f : List ℕ → (Addr → ℕ) → Rule) (e : Error) (r : Result (ℕ × ℕ) Error) → number_of e ≡ first_refusal (rule_at t f).refusals
    → IsErr r → IsErrAnd r (λ x. x ≡ e) → Left t f (told r) t
left-stopped t f e (Ok w) found is same = absurd same
left-stopped t f e (Err x) found is same = left-refused t f found (refusal-some e) (ap (λ (y : Error). told (Err y)) same)

-- two rules that are one on this table
pub left-same : (t : List ℕ) (f g : List ℕ → (Addr → ℕ) → Rule) {r : Answer} {t' : List ℕ} → rule_at t f ≡ rule_at t g → Left t f r t' → Left t g r t'
left-same t f g e l = record { answer = l.answer ∙ ap answer_of e; table = l.table ∙ ap (table_of (configuration t) t) e }

-- two rules that refuse alike on this table, and do the same
pub left-alike : (t : List ℕ) (f g : List ℕ → (Addr → ℕ) → Rule) {r : Answer} {t' : List ℕ}
    → first_refusal (rule_at t f).refusals ≡ first_refusal (rule_at t g).refusals → (rule_at t f).effects ≡ (rule_at t g).effects → Left t f r t' → Left t g r t'
unfolding answer_of table_of
left-alike t f g e q l = record { answer = rw (← e, ← q) l.answer; table = rw (← e, ← q) l.table }
