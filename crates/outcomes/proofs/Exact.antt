-- "Every public function, none excepted, states its result for all inputs .. Prove that any two outcomes allowed by it are equal": what that says of a function,
-- and the laws with which it is shown. A contract is read as Rattle makes it for callers, in the function's module `Reads`: `Asked` is what its `requires` says of
-- the arguments, and `Learnt` what its `ensures` says of the arguments, the result and the lent slices at exit. `Kinds` has its parameters and its result. So each
-- statement of this crate is about the contract that stands in the source, and not about a copy of it.
use mathlib.Core.Path.{◌≡◌, sym, ◌∙◌}
use mathlib.Core.List.{List}
use Prim.Native.Nat.{ℕ}
use contract.Lifetimes.{Lfts}
use denote.Triple.Clauses.{Lasts, at_exit}
use borrow.Fn.Kinds.{ParamKind, ResultKind, In, Out, Dens, res_t, ended_of}
use Rattle.output.specs.Wrote.{Wrote}

-- nothing is asked of the arguments
abbrev pub Always : {n : ℕ} (ps : List (ParamKind n)) → In n ps → Type 0
Always {n} ps Asked = (κs : Lfts n) (a : Dens κs ps) → Asked κs a

-- two results z and z', with w and w' left in what was lent, are equal where the contract allows both
abbrev pub Unique : {n : ℕ} (ps : List (ParamKind n)) (r : ResultKind n) → Out n ps r → Type 0
Unique {n} ps r Learnt = (κs : Lfts n) (a : Dens κs ps) (z z' : (res_t r κs).Denot) (w w' : Lasts (ended_of n ps r) κs a)
    → Learnt κs a z (at_exit (ended_of n ps r) κs a w) → Learnt κs a z' (at_exit (ended_of n ps r) κs a w') → (z ≡ z') × (w ≡ w')

-- a contract for all inputs that leaves nothing open
abbrev pub Exact : {n : ℕ} (ps : List (ParamKind n)) (r : ResultKind n) → In n ps → Out n ps r → Type 0
Exact ps r Asked Learnt = Always ps Asked × Unique ps r Learnt

-- two things that equal one thing are equal
pub one : {A : Type 0} {x y v : A} → x ≡ v → y ≡ v → x ≡ y
one p q = p ∙ sym q

-- what is left is a pair: of what is left in the first parameter, and in the others
pub both : {A B : Type 0} {x y : A} {u v : B} → x ≡ y → u ≡ v → ◌≡◌ {A = A × B} (x, u) (y, v)
both p q i = (p i, q i)

-- text written into a buffer
pub one-text : {d s : List ℕ} {at m n : ℕ} {u v : List ℕ} → Wrote d at s m u → Wrote d at s n v → (m ≡ n) × (u ≡ v)
one-text p q = (one p.next q.next, one p.left q.left)
