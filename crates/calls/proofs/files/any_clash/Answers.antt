-- `files::any_clash` meets its contract. Both loops have passed no clashing open, and no more are left than are counted down; the search is left by
-- its label at the first that clashes, and where none is left.
use Rattle.calls.proofs.FilesLaws.{none-clash, some-clash, clash-held}
use Rattle.calls.proofs.Opens.{Unmet, begun, unmet-next, all_there, entry-there, past-other, past-held, all-met}
use Rattle.calls.proofs.Searches.{home-in, run-slots}
use Rattle.calls.proofs.Worlds.{shape}
use Rattle.calls.specs.World.{words_of}
use Rattle.calls.specs.Entries.{entry_of}
use Rattle.laws.proofs.Below.{some-none}
use Rattle.rules.specs.Call08.{clashes_at}
use Rattle.rules.specs.Layout.{process, file, entries}
use borrow.Author.Count.{below_more}
use native.Mathlib.Nat.{not-suc-le-zero, le_trans}
use Prim.Native.Nat.{◌+◌, ◌<◌}
use mathlib.Core.Bool.{false}
use mathlib.Core.Path.{◌≡◌, refl, sym, ◌∙◌}
use native.Mathlib.Omega.{arith}
use Rattle.calls.proofs.files.any_clash.Goals.{After-entry_from-x, Joined-x-s, then-x-s+else-clash+else-left-eq0-2, else-x-s}
use Rattle.calls.proofs.files.any_clash.Goals as goal

-- what was read is the entry
read-so : (c : After-entry_from-x) →
    let args = c.args in
    c.entry_from-x.result ≡ entry_of (words_of args.t.now) file (c.run_of-run.result.from + c.search.p) c.loop-d.d
read-so c =
    let pre = c.requires in
    entry-there pre.0 pre.1 c.run_of-run.ensures.from c.run_of-run.ensures.count _ c.search-test.true
    c.entry_at-first.ensures.0 _ c.entry_from-x.ensures

-- an entry is passed that does not clash, and it was not the last
passed : (c : Joined-x-s) →
    let args = c.args in
    ((clashes_at (words_of args.t.now) args.s args.b (c.run_of-run.result.from + c.search.p) c.loop-d.d ≡ false)
    × Unmet args.t.now args.s c.run_of-run.result.from c.run_of-run.result.count c.if-x-s.left c.search.p (c.loop-d.d + 1))
    × (0 < c.if-x-s.left)
passed c =
    let pre = c.requires in
    let read = read-so (goal.at.Joined-x-s c).After-entry_from-x in
    elim c.if-x-s.branch [
      | then-x-s+else-clash+else-left-eq0-2 w ↦ (
        past-held pre.0 pre.1 c.run_of-run.ensures.from c.run_of-run.ensures.count _ _
            c.search-test.true c.loop-d-test.true read _ c.loop-d.invariant.2 w.if-x-s.true w.clash.ensures w.if-clash.false w.left-is,
        omega (arith, w.if-left-eq0-2.false, w.left-is),
      )
      | else-x-s w ↦ (
        past-other pre.0 pre.1 c.run_of-run.ensures.from c.run_of-run.ensures.count _ _
            c.search-test.true c.loop-d-test.true read _ c.loop-d.invariant.2 w.if-x-s.false w.left-is,
        omega (arith, w.left-is, c.loop-d.invariant.3),
      )
    ]

pub returns-then-left-eq0 : goal.returns-then-left-eq0
returns-then-left-eq0 c =
    let pre = c.requires in
    sym (none-clash _ _ _ _ refl refl
    (all-met pre.0 pre.1 refl refl 0 0 (omega arith) _ (begun pre.0 pre.1 refl refl refl 0) c.if-left-eq0.true
    (λ k h. absurd (not-suc-le-zero h)) (λ k h. absurd (not-suc-le-zero h))))

pub run_of-run-requires : goal.run_of-run-requires
run_of-run-requires c = (c.requires.0.known, home-in c.requires.0)

pub search-init : goal.search-init
search-init c =
    let pre = c.requires in (
      refl,
      λ k h. absurd (not-suc-le-zero h),
      begun pre.0 pre.1 c.run_of-run.ensures.from c.run_of-run.ensures.count refl 0,
      omega (arith, c.if-left-eq0.false),
    )

pub overflow_add-run : goal.overflow_add-run
overflow_add-run c =
    let sound = c.requires.0 in
    record {
      fits = omega (
        arith,
        c.run_of-run.ensures.within,
        (shape sound.known).few process,
        c.search-test.true,
      );
    }

pub loop-d-init : goal.loop-d-init
loop-d-init c = let inv = c.search.invariant in (inv.0, λ k h. absurd (not-suc-le-zero h), inv.2, inv.3)

pub entry_from-x-requires : goal.entry_from-x-requires
entry_from-x-requires c =
    let pre = c.requires in (
      c.loop-d-test.true,
      all_there pre.0 pre.1 c.run_of-run.ensures.from c.run_of-run.ensures.count _ c.search-test.true
          c.entry_at-first.ensures.0,
    )

pub overflow_sub-left : goal.overflow_sub-left
overflow_sub-left c = omega (arith, c.loop-d.invariant.3)

pub loop-d-preserved : goal.loop-d-preserved
loop-d-preserved c =
    let inv = c.loop-d.invariant in
    let past = passed (goal.at.loop-d-preserved c).Joined-x-s in
    (inv.0, below_more _ _ inv.1 past.0.0, past.0.1, past.1)

pub search-preserved : goal.search-preserved
search-preserved c =
    let args = c.args in (
      c.loop-d.invariant.0,
      below_more _ _ c.search.invariant.1 (some-none entries _ (λ k l. c.loop-d.invariant.1 k (le_trans l c.loop-d-test.false))),
      unmet-next args.t.now args.s _ _ _ _ _ (omega (arith, c.loop-d.auto.d-end)) c.loop-d.invariant.2,
      c.loop-d.invariant.3,
    )

pub returns-after-search : goal.returns-after-search
returns-after-search c =
    c.search.invariant.0
    ∙ sym (none-clash _ _ _ _ c.run_of-run.ensures.from c.run_of-run.ensures.count
    (λ k l. c.search.invariant.1 k (le_trans l c.search-test.false)))

pub returns-then-clash : goal.returns-then-clash
returns-then-clash c =
    let pre = c.requires in
    let from = c.run_of-run.ensures.from in let count = c.run_of-run.ensures.count in
    sym (some-clash _ _ _ _ from count _ _ c.search-test.true c.loop-d-test.true
    (sym (clash-held pre.1 _ _ (omega (arith, run-slots pre.0.known process _ (home-in pre.0) from count, c.search-test.true)) c.loop-d-test.true
    (read-so (goal.at.returns-then-clash c).After-entry_from-x) c.if-x-s.true c.clash.ensures) ∙ c.if-clash.true))

pub returns-then-left-eq0-2 : goal.returns-then-left-eq0-2
returns-then-left-eq0-2 c =
    let pre = c.requires in
    let from = c.run_of-run.ensures.from in let count = c.run_of-run.ensures.count in let inv = c.loop-d.invariant in
    let step = past-held pre.0 pre.1 from count _ _ c.search-test.true c.loop-d-test.true (read-so (goal.at.returns-then-left-eq0-2 c).After-entry_from-x) _
    inv.2 c.if-x-s.true c.clash.ensures c.if-clash.false refl in
    inv.0
    ∙ sym (none-clash _ _ _ _ from count
    (all-met pre.0 pre.1 from count _ _ (omega arith) _ step.1 c.if-left-eq0-2.true c.search.invariant.1
    (below_more _ _ inv.1 step.0)))
