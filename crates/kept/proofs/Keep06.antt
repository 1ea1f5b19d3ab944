-- Call 6, set access, keeps tables well formed.
use mathlib.Core.Path.{◌≡◌, refl, sym, ◌∙◌}
use mathlib.Core.Bool.{true, true≢false}
use mathlib.Core.List.{List, [], ◌∷◌}
use Prim.Native.Nat.{ℕ, ◌<◌}
use native.Mathlib.Omega.{arith}
use borrow.Author.Tests.{leb-false, eqb-false}
use Rattle.rules.specs.Layout.{Kind, process, segment, file, cell_of, Addr, at, serial, queue, entries, held_at, used_at, message_at, page_at, bits}
use Rattle.rules.specs.Rights.{asks_write}
use Rattle.rules.specs.Rule.{over, ◌≔◌}
use Rattle.rules.specs.WellFormed.{valid_use, write_use}
use Rattle.rules.specs.Call06.{set_access}
use Rattle.rules.specs.Seid.{index_of}
use Rattle.laws.proofs.Tests.{passed}
use Rattle.laws.proofs.Shape.{Entry}
use Rattle.laws.proofs.Written.{nil}
use Rattle.laws.proofs.Object.{Object}
use Rattle.laws.proofs.Refusals.{clear}
use Rattle.kept.proofs.Records.{word_in, word_at, word-past, elsewhere, by-slot}
use Rattle.kept.proofs.Made.{placed}
use Rattle.kept.proofs.Readings.{paged-same, live-process}
use Rattle.kept.proofs.Keeps.{Keeps, KeptBy, Caller, keeps-process}
use Rattle.kept.proofs.Found.{in-own}

module _ (h : List ℕ) (r : Addr → ℕ) (p : ℕ) (me : Caller h r p) (a b : ℕ) (al : a < entries) (some : r (at process p (held_at segment a)) ≡ 0 → ⊥)
    (valid : valid_use segment b ≡ true) (own : write_use segment b ≡ true → cell_of h segment (index_of (r (at process p (held_at segment a)))) ≡ cell_of h process p) where
  -- every other word stays
  past : (j : ℕ) → (j ≡ used_at segment a → ⊥) → over r ((at process p (used_at segment a) ≔ b) ∷ []) (at process p j) ≡ r (at process p j)
  past = word-past r process p (used_at segment a) b

  held : (k : Kind) → Object k → (d : ℕ) → d < entries → over r ((at process p (used_at segment a) ≔ b) ∷ []) (at process p (held_at k d)) ≡ r (at process p (held_at k d))
  held k o d l = let x = placed k o d l in past (held_at k d) (λ e. omega arith)

  entry : (k : Kind) → Object k → (d : ℕ) → d < entries
      → Entry h r k (cell_of h process p) (r (at process p (held_at k d))) (over r ((at process p (used_at segment a) ≔ b) ∷ []) (at process p (used_at k d)))
  entry process o d l = absurd o
  entry file o d l = rw (past (used_at file d) (λ e. omega arith)) (me.fine.entry file tt p d me.in-range l)
  entry segment o d l = by-slot (λ d. d < entries
      → Entry h r segment (cell_of h process p) (r (at process p (held_at segment d))) (over r ((at process p (used_at segment a) ≔ b) ∷ []) (at process p (used_at segment d)))) a
      (λ l. let x = me.fine.entry segment tt p a me.in-range l in rw (word_at r process p (used_at segment a) b) (record {
        empty = λ z. absurd (some z);
        held = x.held;
        current-live = x.current-live;
        current-serial = x.current-serial;
        valid = λ n. valid;
        writes-own = λ n. own;
        subtype = λ t. absurd (true≢false (sym t));
      }))
      (λ d n l. rw (past (used_at segment d) (λ e. n (omega arith))) (me.fine.entry segment tt p d me.in-range l)) d l

  sets : Keeps h r ((at process p (used_at segment a) ≔ b) ∷ [])
  sets =
      let in-it = word_in process p (used_at segment a) b (omega arith) nil in
      let mine = me.fine.own process p me.in-range in
      let x = mine.alive me.alive in
      let e5 = past queue (λ e. omega arith) in
      keeps-process h r me.fine p me.in-range in-it (record {
        others = elsewhere process p in-it r;
        own-process = live-process h r _ p me.alive mine (λ j l n m. past j (λ e. omega arith)) (rw e5 x.queue-fits)
            (rw (past (bits process) (λ e. omega arith)) x.bits_fit)
            (λ d e dl el. rw (held segment tt d dl, held segment tt e el) (x.once d e dl el))
            (λ m j ml jl full. past (message_at m j) (λ e. omega arith) ∙ x.unused m j ml jl (rw e5 at full))
            (λ g l. rw (past (page_at g) (λ e. omega arith)) (paged-same h r (over r ((at process p (used_at segment a) ≔ b) ∷ [])) p _ (held segment tt) (x.paged g l)));
        serial-grown = rw (past serial (λ e. omega arith)) (omega arith);
        same-held = held;
        entry-ok = entry;
        sender-ok = λ m l. rw (past (message_at m 0) (λ e. omega arith)) (me.fine.sender p m me.in-range (rw e5 at l));
      })

pub keeps : (h : List ℕ) (r : Addr → ℕ) (p : ℕ) → Caller h r p → (a b : ℕ) (buffer : List ℕ) → KeptBy h r (set_access h r p a b buffer)
unfolding set_access
keeps h r p me a b buffer e =
    let s : ℕ = r (at process p (held_at segment a)) in
    let ok = clear (set_access h r p a b buffer).refusals refl e in
    sets h r p me a b (leb-false entries a ok.1.0) (eqb-false s 0 ok.1.1.0) (passed _ ok.0) (in-own h p segment s (asks_write b) ok.1.1.1.1.0)
