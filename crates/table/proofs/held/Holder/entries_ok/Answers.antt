-- `held::Holder::entries_ok` meets its contract: of the used entries each is judged and counted, and the others are right and count for nothing.
use Rattle.std.proofs.Common.{◌≡◌, ℕ, Bool, length, get_or, refl, ap, ◌∙◌, arith}
use Rattle.rules.specs.Words.{count_below}
use Rattle.rules.specs.Claim.{test}
use Rattle.rules.specs.Layout.{entries}
use Rattle.rules.specs.WellFormed.{entry_ok}
use Rattle.laws.proofs.Below.{count_none, count-more, count_same}
use Rattle.layout.specs.Kinds.{kind_of}
use Rattle.table.specs.declared.entry.Entry.{Entry}
use Rattle.table.specs.Frame.{conf, words}
use Rattle.table.specs.Entries.{held_word, used_word, entry_at, unused, names}
use Rattle.table.proofs.Loops.{all_first, all-next, all-last}
use Rattle.table.proofs.Tally.{counts-first, counts-next, counts-last}
use Rattle.table.proofs.Listed.{all_same, all_listed, count-listed}
use Rattle.table.proofs.Holders.{busy-word, entry-idle, names-idle}
use Rattle.table.proofs.held.Holder.entries_ok.Invariants.{none}
use Rattle.table.proofs.held.Holder.entries_ok.Goals as goal

pub loop-e-init : goal.loop-e-init
loop-e-init c = (c.requires.countable.long, all_first _, counts-first _ _ (λ i. count_none 0 _ (λ k l. absurd (omega arith))))

pub judge_entry-ok-requires : goal.judge_entry-ok-requires
judge_entry-ok-requires c =
    let l = c.loop-e in
    let x = c.requires.used_are in
    let in_list = c.loop-e-test.true in
    let is = x.entry-is l.e-index in_list none in
    record {
      used = busy-word c.args.row.t.now c.args.row.from _ _ _ (x.lists.busy l.e-index in_list) (ap (λ (e : Entry). e.held) is)
          (ap (λ (e : Entry). e.used) is);
      counts_len = (l.invariant.0, λ i m. omega (arith, l.invariant.2.few i m, c.requires.countable.room i m, x.lists.few, in_list));
    }

pub loop-e-preserved : goal.loop-e-preserved
loop-e-preserved c =
    let l = c.loop-e in
    let holder = c.args.self.now in (
      c.judge_entry-ok.auto.counts ∙ l.invariant.0,
      all-next _ l.invariant.1 c.judge_entry-ok.ensures.value,
      counts-next _ _ _ l.e-index l.ok _ _ _ _ l.invariant.2 c.judge_entry-ok.ensures.counts
          (λ i. count-more l.e-index (λ j. names (conf holder.found.frame) (kind_of holder.kind) holder.mine (get_or c.args.used.now j none).held i)),
    )

pub returns : goal.returns
returns c =
    let f = c.args.self.now.found.frame in
    let t = c.args.row.t.now in
    let from = c.args.row.from in
    let list = c.args.used.now in
    let mine = c.args.self.now.mine in
    let n = length list in
    let l = c.loop-e in
    let k = kind_of c.args.self.now.kind in
    let x = c.requires.used_are in
    let end : l.e-index ≡ n = omega (arith, l.auto.e-index-end, c.loop-e-test.false) in
    -- an entry is right; it counts for slot i
    let right : Entry → Bool = λ e. test (entry_ok (conf f) (words f) k mine e.held e.used) in
    let counts-for : ℕ → Entry → Bool = λ i e. names (conf f) k mine e.held i in
    let right-at : ℕ → Bool = λ d. right (entry_at t from d) in
    let counts-at : ℕ → ℕ → Bool = λ i d. counts-for i (entry_at t from d) in
    record {
      value = all-last _ l.invariant.1 l.auto.e-index-end c.loop-e-test.false refl
          ∙ all_same n (λ j. right (get_or list j none)) (λ j. right-at (get_or x.numbers j 0)) (λ j m. ap right (x.entry-is j m none))
          ∙ all_listed (unused t from) x.numbers n entries x.lists right-at
          (λ d m idle. entry-idle (conf f) (words f) k mine (held_word t from d) (used_word t from d) idle);
      counts = counts-last _ _ l.e-index entries _ _ _ l.invariant.2
          (λ i.
          ap (λ (m : ℕ). count_below m (λ j. counts-for i (get_or list j none))) end
          ∙ count_same n (λ j. counts-for i (get_or list j none)) (λ j. counts-at i (get_or x.numbers j 0)) (λ j m. ap (counts-for i) (x.entry-is j m none))
          ∙ count-listed (unused t from) x.numbers n entries x.lists (counts-at i)
          (λ d m idle. names-idle (conf f) k mine (held_word t from d) (used_word t from d) i idle))
          (omega (arith, end, x.lists.few));
    }
