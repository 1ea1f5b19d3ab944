-- The codes, once: what holds of each call's rule holds of the rule of any code, and each code's part knows that the call has it. A new call adds a line to `Each`.
-- P speaks of a rule as a function of what the table and the store hold, so that it can speak of the rule in one state, or in two.
use mathlib.Core.Path.{◌≡◌}
use mathlib.Core.Bool.{cond}
use mathlib.Core.List.{List, []}
use Prim.Native.Nat.{ℕ}
use lib.Dec.{eqb}
use borrow.Author.Tests.{eqb-true}
use Rattle.rules.specs.Layout.{Kind, process, segment, file, Addr}
use Rattle.rules.specs.Seid.{or_self, class_of, class}
use Rattle.rules.specs.Rule.{Rule, rule, effect}
use Rattle.rules.specs.Call01.{spawn}
use Rattle.rules.specs.Call02.{release_process}
use Rattle.rules.specs.Call03.{build_segment}
use Rattle.rules.specs.Call04.{rendezvous}
use Rattle.rules.specs.Call05.{release_segment}
use Rattle.rules.specs.Call06.{set_access}
use Rattle.rules.specs.Call07.{create}
use Rattle.rules.specs.Call08.{open_seid}
use Rattle.rules.specs.Call09.{close}
use Rattle.rules.specs.Call10.{link}
use Rattle.rules.specs.Call11.{unlink}
use Rattle.rules.specs.Call12.{set_bits, set_bits_of}
use Rattle.rules.specs.Call13.{read_block}
use Rattle.rules.specs.Call14.{write_block}
use Rattle.rules.specs.Call15.{post}
use Rattle.rules.specs.Call16.{receive}
use Rattle.rules.specs.Call17.{status, status_of}
use Rattle.rules.specs.Call18.{access_of}
use Rattle.rules.specs.Call19.{remap}
use Rattle.rules.specs.Call20.{page_access}
use Rattle.rules.specs.Call21.{regrade}
use Rattle.rules.specs.Step.{Call, regrade_code, rule_of}
use Rattle.laws.proofs.Tests.{split, cond_both}

pub record Each (h : List ℕ) (k : Call) (P : ((Addr → ℕ) → List ℕ → Rule) → Type 0) : Type 0 where
  pub call-1 : k.code ≡ 1 → P (λ r st. spawn h r k.caller k.a k.b k.c k.buffer)
  pub call-2 : k.code ≡ 2 → P (λ r st. release_process h r k.caller k.a k.buffer)
  pub call-3 : k.code ≡ 3 → P (λ r st. build_segment h r k.caller k.a k.b k.c k.buffer)
  pub call-4 : k.code ≡ 4 → P (λ r st. rendezvous h r k.caller k.a k.b k.buffer)
  pub call-5 : k.code ≡ 5 → P (λ r st. release_segment h r k.caller k.a k.buffer)
  pub call-6 : k.code ≡ 6 → P (λ r st. set_access h r k.caller k.a k.b k.buffer)
  pub call-7 : k.code ≡ 7 → P (λ r st. create h r k.caller k.a k.b k.c k.buffer)
  pub call-8 : k.code ≡ 8 → P (λ r st. open_seid h r k.caller k.a k.b k.c k.buffer)
  pub call-9 : k.code ≡ 9 → P (λ r st. close h r k.caller k.a k.buffer)
  pub call-10 : k.code ≡ 10 → P (λ r st. link h r k.caller k.a k.buffer)
  pub call-11 : k.code ≡ 11 → P (λ r st. unlink h r k.caller k.a k.buffer)
  pub call-12 : k.code ≡ 12 → P (λ r st. set_bits h r k.caller k.a k.b k.buffer)
  pub call-13 : k.code ≡ 13 → P (λ r st. read_block h r st k.caller k.a k.b k.buffer)
  pub call-14 : k.code ≡ 14 → P (λ r st. write_block h r k.caller k.a k.b k.buffer)
  pub call-15 : k.code ≡ 15 → P (λ r st. post h r k.caller k.a k.buffer)
  pub call-16 : k.code ≡ 16 → P (λ r st. receive h r k.caller k.buffer)
  pub call-17 : k.code ≡ 17 → P (λ r st. status h r k.caller k.a k.buffer)
  pub call-18 : k.code ≡ 18 → P (λ r st. access_of h r k.caller k.a k.buffer)
  pub call-19 : k.code ≡ 19 → P (λ r st. remap h r k.caller k.a k.b k.c k.buffer)
  pub call-20 : k.code ≡ 20 → P (λ r st. page_access h r k.caller k.a k.buffer)
  pub call-21 : k.code ≡ regrade_code → P (λ r st. regrade h r st k.caller k.a k.b k.c k.buffer)
  -- a code that is no call's
  pub other : P (λ r st. rule [] (effect 0 0 k.buffer [] []))

module _ (h : List ℕ) (k : Call) (P : ((Addr → ℕ) → List ℕ → Rule) → Type 0) where
  pub by_code : Each h k P → P (λ r st. rule_of h r st k)
  unfolding rule_of
  by_code x =
      or 1 x.call-1 (or 2 x.call-2 (or 3 x.call-3 (or 4 x.call-4 (or 5 x.call-5 (or 6 x.call-6 (or 7 x.call-7 (or 8 x.call-8
      (or 9 x.call-9 (or 10 x.call-10 (or 11 x.call-11 (or 12 x.call-12 (or 13 x.call-13 (or 14 x.call-14 (or 15 x.call-15 (or 16 x.call-16
      (or 17 x.call-17 (or 18 x.call-18 (or 19 x.call-19 (or 20 x.call-20 (or regrade_code x.call-21 x.other))))))))))))))))))))
    where
      or : {f g : (Addr → ℕ) → List ℕ → Rule} (n : ℕ) → (k.code ≡ n → P f) → P g → P (λ r st. cond (eqb k.code n) (f r st) (g r st))
      or {f} {g} n p q = split _ (eqb k.code n) (λ e. rw e (p (eqb-true k.code n e))) (λ e. rw e q)

module _ (h : List ℕ) (r : Addr → ℕ) (k : Call) (P : Rule → Type 0) where
  -- two calls go by the seid's class
  by-class : (s : ℕ) (of : Kind → Rule) → ((j : Kind) → P (of j))
      → P (cond (eqb (class_of s) (class process)) (of process) (cond (eqb (class_of s) (class segment)) (of segment) (of file)))
  by-class s of p =
      cond_both P (eqb (class_of s) (class process)) (of process) (cond (eqb (class_of s) (class segment)) (of segment) (of file)) (λ e. p process)
      (λ e. cond_both P (eqb (class_of s) (class segment)) (of segment) (of file) (λ e. p segment) (λ e. p file))

  pub by_bits : ((s : ℕ) (j : Kind) → P (set_bits_of h r k.caller s k.b k.buffer j)) → P (set_bits h r k.caller k.a k.b k.buffer)
  unfolding set_bits
  by_bits p =
      let s = or_self r k.caller k.a in
      let of : Kind → Rule = set_bits_of h r k.caller s k.b k.buffer in
      by-class s of (p s)

  pub by-status : ((s : ℕ) (j : Kind) → P (status_of h r k.caller s k.buffer j)) → P (status h r k.caller k.a k.buffer)
  unfolding status
  by-status p =
      let s = or_self r k.caller k.a in
      let of : Kind → Rule = status_of h r k.caller s k.buffer in
      by-class s of (p s)
