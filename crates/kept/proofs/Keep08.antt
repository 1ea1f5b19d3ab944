-- Call 8, open, keeps tables well formed, for a file and a subtype.
use mathlib.Core.Path.{◌≡◌, refl, sym}
use mathlib.Core.Bool.{Bool, true, false, not, ◌&&◌, true≢false}
use mathlib.Core.List.{List}
use Prim.Native.Nat.{ℕ}
use lib.Dec.{eqb}
use borrow.Author.Tests.{eqb-true}
use Rattle.rules.specs.Layout.{process, file, cell_of, flows, subtype_cell, Addr}
use Rattle.rules.specs.Seid.{class, index_of, or_self, is_subtype}
use Rattle.rules.specs.Modes.{writes}
use Rattle.rules.specs.Find.{in_own_cell, flows_to_caller, free_entry}
use Rattle.rules.specs.Call08.{open_file, open_subtype, open_seid}
use Rattle.laws.proofs.Tests.{or_left, or_right, passed}
use Rattle.laws.proofs.Seids.{class-pos, class-some}
use Rattle.laws.proofs.Subtypes.{names-it, no-object, by-opened}
use Rattle.laws.proofs.Refusals.{clear}
use Rattle.kept.proofs.Keeps.{KeptBy, Caller}
use Rattle.kept.proofs.Exchange.{entry-alone}
use Rattle.kept.proofs.Found.{found, free-entry, in-own}
use Rattle.kept.proofs.Entries.{filled, subtype-entry}

keeps-file : (h : List ℕ) (r : Addr → ℕ) (p : ℕ) → Caller h r p → (s b c : ℕ) (buffer : List ℕ) → KeptBy h r (open_file h r p s b c buffer)
unfolding open_file
keeps-file h r p me s b c buffer e =
    let ok = clear (open_file h r p s b c buffer).refusals refl e in
    let free = free-entry r file p ok.1.1.1.1.1.1.1.1.0 in
    let far : Bool = not (flows_to_caller h p file s) in
    let outside : Bool = writes b && not (in_own_cell h p file s) in
    filled h r p me file tt (free_entry r file p) s b free.in-record free.is-empty (found h r file s ok.1.0 ok.1.1.1.0)
    (passed _ (or_left far outside ok.1.1.0)) (passed _ ok.0) (in-own h p file s (writes b) (or_right far outside ok.1.1.0)) tt

-- a cell that must be the own one where something is written
own-cell : (x y : ℕ) (write : Bool) → write && not (eqb x y) ≡ false → write ≡ true → x ≡ y
own-cell x y true e t = eqb-true x y (passed (eqb x y) e)
own-cell x y false e t = absurd (true≢false (sym t))

-- a subtype has no record, and no holders are counted
keeps-subtype : (h : List ℕ) (r : Addr → ℕ) (p : ℕ) → Caller h r p → (s b : ℕ) (buffer : List ℕ) → is_subtype s ≡ true → KeptBy h r (open_subtype h r p s b buffer)
unfolding open_subtype
keeps-subtype h r p me s b buffer t e =
    let ok = clear (open_subtype h r p s b buffer).refusals refl e in
    let free = free-entry r file p ok.1.1.1.1.1.1.0 in
    let cell : ℕ = subtype_cell h (index_of s) in
    let here : ℕ = cell_of h process p in
    let far : Bool = not (flows h cell here) in
    let outside : Bool = writes b && not (eqb cell here) in
    entry-alone h r me.fine file tt p (free_entry r file p) s b me.in-range me.alive free.in-record (record {
      fresh = tt;
      unmapped = tt;
      entry-after = λ q. subtype-entry h q here s b (record {
        names = names-it h s (passed _ ok.1.0) (passed _ ok.1.1.1.0);
        flow = passed _ (or_left far outside ok.1.1.0);
        valid = passed _ ok.0;
        writes-own = own-cell cell here (writes b) (or_right far outside ok.1.1.0);
      });
      old-class = λ c. class-some _ (class file) (class-pos file) c free.is-empty;
      new-class = no-object file s t;
    })

pub keeps : (h : List ℕ) (r : Addr → ℕ) (p : ℕ) → Caller h r p → (a b c : ℕ) (buffer : List ℕ) → KeptBy h r (open_seid h r p a b c buffer)
keeps h r p me a b c buffer =
    let s : ℕ = or_self r p a in
    by-opened h r p a b c buffer (KeptBy h r) (keeps-subtype h r p me s b buffer) (λ n. keeps-file h r p me s b c buffer)
