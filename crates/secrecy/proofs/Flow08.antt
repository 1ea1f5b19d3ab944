-- Call 8 writes in its own cell and reads down; the clash search stays in its own cell. A subtype is read in the configuration.
use mathlib.Core.Bool.{Bool, true, false, ◌&&◌, not}
use mathlib.Core.List.{List}
use mathlib.Core.Path.{◌≡◌, refl}
use Prim.Native.Nat.{ℕ, ◌+◌, ◌<◌}
use native.Mathlib.Omega.{arith}
use borrow.Author.Tests.{eqb-true, lt-ltb}
use Rattle.rules.specs.Layout.{process, file, slots, cell_slots, first_slot, cell_of, flows, Addr, owner, group, entries, record_words, held_at, used_at, opens, subtype}
use Rattle.rules.specs.Seid.{index_of, or_self, is_subtype, present}
use Rattle.rules.specs.Modes.{reads, writes}
use Rattle.rules.specs.Rights.{lacks}
use Rattle.rules.specs.Find.{in_own_cell, flows_to_caller, rights_at, no_entry}
use Rattle.rules.specs.Subtype.{no_subtype}
use Rattle.rules.specs.Call08.{clashes_at, clashes, is_subtyped, mismatched, open_file, subtype_rights, open_subtype, open_seid}
use Rattle.laws.proofs.Tests.{split}
use Rattle.laws.proofs.Below.{some_same}
use Rattle.laws.proofs.Slots.{InRun}
use Rattle.secrecy.proofs.Shown.{up-rules, alike-rules, WritesUp, up_if, Alike, alike-test, alike-effect, same_effect, alike-if}
use Rattle.secrecy.proofs.View

up-file : {h : List ℕ} {p : ℕ} {r : Addr → ℕ} → View.Here h p r → (s b c : ℕ) (buffer : List ℕ) → WritesUp h (cell_of h process p) (open_file h r p s b c buffer)
unfolding open_file
up-file v s b c buffer = search (up-rules, eqb-true, View.up-own v, View.up-held v, View.up-used v, View.formed-in) depth 20

up-subtype : {h : List ℕ} {p : ℕ} {r : Addr → ℕ} → View.Here h p r → (s b : ℕ) (buffer : List ℕ) → WritesUp h (cell_of h process p) (open_subtype h r p s b buffer)
unfolding open_subtype
up-subtype v s b buffer = search (up-rules, View.up-held v, View.up-used v) depth 16

pub up08 : {h : List ℕ} {p : ℕ} {r : Addr → ℕ} → View.Here h p r → (a b c : ℕ) (buffer : List ℕ) → WritesUp h (cell_of h process p) (open_seid h r p a b c buffer)
unfolding open_seid
up08 {h} {p} {r} v a b c buffer = let s : ℕ = or_self r p a in
    up_if h (cell_of h process p) (is_subtype s) (open_subtype h r p s b buffer) (open_file h r p s b c buffer) (λ t. up-subtype v s b buffer) (λ t. up-file v s b c buffer)

same-clashes : {h : List ℕ} {p : ℕ} {C : ℕ → Bool} {r q : Addr → ℕ} → View.View h p C r q → (s b : ℕ)
    → clashes h q (cell_of h process p) s b ≡ clashes h r (cell_of h process p) s b
unfolding clashes clashes_at
same-clashes {h} {p} v s b =
    let c : ℕ = cell_of h process p in
    some_same (cell_slots h process c) _ _ (λ i l. some_same entries _ _ (λ d m.
    let o : ℕ = first_slot h process c + i in
    let x : InRun h process c o = record { low = omega arith; high = omega arith } in
    let oo = View.run_in v.here process o x in
    let f = View.own-flows v.here (cell_of h process o) (View.run-own v.here process o x) in
    rw (
      View.same-below v process o (held_at file d) oo (lt-ltb (held_at file d) (record_words process) (omega arith)) f,
      View.same-below v process o (used_at file d) oo (lt-ltb (used_at file d) (record_words process) (omega arith)) f,
    )))

module _ {h : List ℕ} {p : ℕ} {C : ℕ → Bool} {r q : Addr → ℕ} (v : View.View h p C r q) where
  -- past refusal 35, the file has no subtype or c names a descriptor
  same-mismatched : (i b c : ℕ) → i < slots h file → flows h (cell_of h file i) (cell_of h process p) ≡ true → is_subtyped r i && no_subtype r p c ≡ false
      → is_subtyped r i && mismatched r p i b c ≡ is_subtyped q i && mismatched q p i b c
  unfolding mismatched
  same-mismatched i b c l f e =
      let word = View.same-below v file i subtype l refl f in
      split _ (is_subtyped r i)
      (λ t. let in-record = View.names-within r p c (rw t at e) in rw (word, View.same_by v c in-record, View.same-modes v c in-record))
      (λ t. rw (word, t))

  same-subtype-rights : (i : ℕ) → subtype_rights h q p i ≡ subtype_rights h r p i
  unfolding subtype_rights
  same-subtype-rights i = rw (View.same-me v owner refl, View.same-me v group refl)

alike-file : {h : List ℕ} {p : ℕ} {C : ℕ → Bool} {r q : Addr → ℕ} → View.View h p C r q → (s b c : ℕ) (buffer : List ℕ)
    → Alike h C (open_file h r p s b c buffer) (open_file h q p s b c buffer)
unfolding open_file
alike-file {h} {p} {C} {r} {q} v s b c buffer = alike-test refl refl (λ x1. alike-test refl refl (λ x2. alike-test refl refl (λ x3.
    let i : ℕ = index_of s in
    let there : i < slots h file = View.formed-in h file s x2 in
    let flow : flows_to_caller h p file s ≡ true = View.allowed (flows_to_caller h p file s) (writes b && not (in_own_cell h p file s)) x3 in
    let here : not (present r file s) ≡ not (present q file s) = rw (View.same-present v file s there flow) in
    let rights : lacks (rights_at r p file i) (reads b) (writes b) ≡ lacks (rights_at q p file i) (reads b) (writes b) = rw (View.same-rights v file i there flow) in
    let unnamed : is_subtyped r i && no_subtype r p c ≡ is_subtyped q i && no_subtype q p c =
    rw (View.same-below v file i subtype there refl flow, View.same-no-subtype v c) in
    let busy : in_own_cell h p file s && clashes h r (cell_of h process p) s b ≡ in_own_cell h p file s && clashes h q (cell_of h process p) s b = rw (same-clashes v s b) in
    let full : no_entry r file p ≡ no_entry q file p = rw (View.same-free-entry v file tt) in
    let entered-same : (open_file h r p s b c buffer).effects ≡ (open_file h q p s b c buffer).effects =
    rw (View.same-free-entry v file tt, View.same-below v file i opens there refl flow) in
    alike-test refl here (λ x4. alike-test refl rights (λ x5. alike-test refl unnamed (λ x6. alike-test refl (same-mismatched v i b c there flow x6) (λ x7.
    alike-test refl busy (λ x8. alike-test refl full (λ x9. alike-effect (same_effect entered-same))))))))))

alike-subtype : {h : List ℕ} {p : ℕ} {C : ℕ → Bool} {r q : Addr → ℕ} → View.View h p C r q → (s b : ℕ) (buffer : List ℕ)
    → Alike h C (open_subtype h r p s b buffer) (open_subtype h q p s b buffer)
unfolding open_subtype
alike-subtype v s b buffer = search (alike-rules, same-subtype-rights v, View.same-free-entry v, same-clashes v) depth 16

pub alike08 : {h : List ℕ} {p : ℕ} {C : ℕ → Bool} {r q : Addr → ℕ} → View.View h p C r q → (a b c : ℕ) (buffer : List ℕ)
    → Alike h C (open_seid h r p a b c buffer) (open_seid h q p a b c buffer)
unfolding open_seid
alike08 {h} {p} {C} {r} {q} v a b c buffer = let s : ℕ = or_self r p a in
    rw (View.same_self v a) (alike-if h C (is_subtype s) _ _ _ _ (λ t. alike-subtype v s b buffer) (λ t. alike-file v s b c buffer))
