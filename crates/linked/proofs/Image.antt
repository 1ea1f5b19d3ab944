-- Image and reload of the code that a host links: of each call of the three exported functions its contract is known, and nothing else.
-- What `monitor_image` wrote, as many bytes as `monitor_image_length` told, `monitor_reload` takes, and leaves the evening's table and
-- store; and what it took, written again, gives equal bytes.
-- (`Words` and `Bytes` say of a lent slice that its elements are of its type: 32 bits, 8 bits.)
use mathlib.Core.Path.{◌≡◌, sym, ap, ap₂, ◌∙◌}
use mathlib.Core.List.{List, ◌++◌}
use Prim.Native.Nat.{ℕ, ◌≤◌}
use lib.ListN.{length, take, drop}
use contract.Lifetimes.{Lfts}
use denote.Triple.Clauses.{Lasts, at_exit}
use borrow.Fn.Kinds.{ParamKind, ResultKind, Out, Dens, res_t, ended_of}
use Rattle.rules.specs.Errors.{XOK}
use Rattle.rules.specs.Image.{image_length, image_answer, image_out, reload_answer, reload_table, reload_store}
use Rattle.promises.proofs.Image as rules
use Rattle.monitor.proofs as code

-- a call of a function: what it is lent and told, what it answers, and what it leaves of each slice, as its contract allows
pub record Called {n : ℕ} (ps : List (ParamKind n)) (r : ResultKind n) (Learnt : Out n ps r) : Type 0 where
  pub lifetimes : Lfts n
  pub lent : Dens lifetimes ps
  pub answer : (res_t r lifetimes).Denot
  pub last : Lasts (ended_of n ps r) lifetimes lent
  pub allowed : Learnt lifetimes lent answer (at_exit (ended_of n ps r) lifetimes lent last)

abbrev pub Told : Type 0
Told = Called code.monitor_image_length.Kinds.ps code.monitor_image_length.Kinds.r code.monitor_image_length.Reads.Learnt

abbrev pub Written : Type 0
Written = Called code.monitor_image.Kinds.ps code.monitor_image.Kinds.r code.monitor_image.Reads.Learnt

abbrev pub Reloaded : Type 0
Reloaded = Called code.monitor_reload.Kinds.ps code.monitor_reload.Kinds.r code.monitor_reload.Reads.Learnt

-- what each was lent, and what it left
module _ (n : Told) where
  abbrev pub asked_of : List ℕ
  asked_of = n.lent.0.now

  abbrev pub bytes_of : ℕ
  bytes_of = n.lent.1.0

module _ (i : Written) where
  abbrev pub table : List ℕ
  table = i.lent.0.now

  abbrev pub store : List ℕ
  store = i.lent.1.0.now

  abbrev pub out : List ℕ
  out = i.lent.1.1.0.now

  abbrev pub out-left : List ℕ
  out-left = i.last.1.1.0

module _ (m : Reloaded) where
  abbrev pub table-lent : List ℕ
  table-lent = m.lent.0.now

  abbrev pub store-lent : List ℕ
  store-lent = m.lent.1.0.now

  abbrev pub image : List ℕ
  image = m.lent.1.1.0.now

  abbrev pub table-left : List ℕ
  table-left = m.last.0

  abbrev pub store-left : List ℕ
  store-left = m.last.1.0

-- "Image then reload gives equal table and store"
pub image-then-reload : (n : Told) (i : Written) (m : Reloaded) → rules.AreWords (table i)
    → asked_of n ≡ table i → bytes_of n ≡ length (store i) → i.answer ≡ XOK → image m ≡ take n.answer (out-left i)
    → length (table-lent m) ≡ length (table i) → length (store-lent m) ≡ length (store i)
    → (m.answer ≡ XOK) × (table-left m ≡ table i) × (store-left m ≡ store i)
image-then-reload n i m w a b ok e p q =
    let told : n.answer ≡ image_length (table i) (length (store i)) =
    n.allowed ∙ ap (λ (t : List ℕ). image_length t (bytes_of n)) a ∙ ap (image_length (table i)) b in
    let done : image_answer (table i) (store i) (out i) ≡ XOK = sym i.allowed.0 ∙ ok in
    let kept : image m ≡ take (image_length (table i) (length (store i))) (image_out (table i) (store i) (out i)) =
    e ∙ ap (λ (k : ℕ). take k (out-left i)) told ∙ ap (take (image_length (table i) (length (store i)))) i.allowed.1 in
    let r = rules.image-then-reload (table i) (store i) (out i) (table-lent m) (store-lent m) w done p q in (
      m.allowed.0 ∙ ap (reload_answer (table-lent m) (store-lent m)) kept ∙ r.answered,
      m.allowed.1.0 ∙ ap (reload_table (table-lent m) (store-lent m)) kept ∙ r.table,
      m.allowed.1.1 ∙ ap (reload_store (table-lent m) (store-lent m)) kept ∙ r.store,
    )

-- "an accepted image, written again, gives equal bytes"
pub reload-then-image : (m : Reloaded) (i : Written) → rules.AreBytes (image m) → m.answer ≡ XOK → table i ≡ table-left m → store i ≡ store-left m
    → length (image m) ≤ length (out i) → (i.answer ≡ XOK) × (out-left i ≡ image m ++ drop (length (image m)) (out i))
reload-then-image m i b ok a s l =
    let t' : table i ≡ reload_table (table-lent m) (store-lent m) (image m) = a ∙ m.allowed.1.0 in
    let s' : store i ≡ reload_store (table-lent m) (store-lent m) (image m) = s ∙ m.allowed.1.1 in
    let r = rules.reload-then-image (table-lent m) (store-lent m) (image m) (out i) b (sym m.allowed.0 ∙ ok) l in (
      i.allowed.0 ∙ ap₂ (λ (x y : List ℕ). image_answer x y (out i)) t' s' ∙ r.1,
      i.allowed.1 ∙ ap₂ (λ (x y : List ℕ). image_out x y (out i)) t' s' ∙ r.2,
    )
