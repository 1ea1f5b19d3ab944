-- `found::Found::process_ok` meets its contract: a live process test by test, and one that is not, which holds nothing.
use Rattle.std.proofs.Common.{◌≡◌, ℕ, true, ◌&&◌, eqb, leb, sym, ap, ◌∙◌, ap₂, arith}
use mathlib.Core.Bool.{and-true}
use Rattle.rules.specs.Layout.{messages, max_bits, process, segment, file, queue, bits, zero7, at, live}
use Rattle.laws.proofs.Tests.{and_both}
use Rattle.table.specs.Frame.{conf, words}
use Rattle.table.proofs.Alive.{live-process, dead-process, right-files, right-segments, right-once}
use Rattle.table.proofs.Owned.{entries-read, once-read, live-counted, free-counted}
use Rattle.table.proofs.found.Found.process_ok.Goals as goal

pub returns-then-t-at-eq1 : goal.returns-then-t-at-eq1
returns-then-t-at-eq1 c =
    let f = c.args.self.now.frame in
    let h = conf f in
    let r = words f in
    let p = c.args.p in
    let lies = c.record_at-at.ensures in
    let alive = sym (lies.word live) ∙ c.if-t-at-eq1.true in
    let descriptors = c.entry_at.ensures.0 in
    let designators = c.entry_at-then-t-at-eq1.ensures.0 in
    let files = entries-read f p file (λ d. (omega arith, omega arith)) _ descriptors in
    let segments = entries-read f p segment (λ d. (omega arith, omega arith)) _ designators in
    let holds-files = c.held_ok.ensures.value ∙ and-true _ ∙ files in
    let holds-segments = c.held_ok-then-t-at-eq1.ensures.value ∙ ap₂ ◌&&◌ segments (once-read f p _ designators) in
    let queued = ap (λ (x : ℕ). leb x messages) (c.wide.ensures ∙ lies.word queue) in
    let permitted = ap (λ (x : ℕ). leb x max_bits) (lies.word (bits process)) in
    let zero = ap (λ (x : ℕ). eqb x 0) (lies.word zero7) in
    let says = c.record_ok.ensures
    ∙ live-process f p _ lies _ _ _ _ _ _ _ _ c.parent_ok.ensures queued permitted zero holds-files holds-segments c.messages_ok.ensures c.pages_ok.ensures in
    record {
      value = says;
      counted = λ good.
          let is-right = sym says ∙ good in
          let both = and_both _ _ (right-segments h r p alive is-right) (right-once h r p alive is-right) in
          live-counted f p segment (λ d. (omega arith, omega arith)) _ designators _ _ _ c.held_ok-then-t-at-eq1.ensures.counts (holds-segments ∙ both);
      counted_2 = λ good.
          let is-right = sym says ∙ good in
          live-counted f p file (λ d. (omega arith, omega arith)) _ descriptors _ _ _ c.held_ok.ensures.counts (holds-files ∙ right-files h r p alive is-right);
    }

pub returns : goal.returns
returns c =
    let f = c.args.self.now.frame in
    let p = c.args.p in
    let lies = c.record_at-at.ensures in
    let free : words f (at process p live) ≡ 1 → ⊥ = λ e. c.if-t-at-eq1.false (lies.word live ∙ e) in
    let says = c.record_ok-2.ensures ∙ dead-process f p _ lies free true in
    record {
      value = says;
      counted = λ good. free-counted _ _ p free segment _ (sym says ∙ good) (λ d l. (omega arith, omega arith));
      counted_2 = λ good. free-counted _ _ p free file _ (sym says ∙ good) (λ d l. (omega arith, omega arith));
    }
