-- `runs::slot_cells` meets its contract: the runs of the cells passed are filled, and what lies past them is still 0.
use Rattle.std.proofs.Common.{◌≡◌, ℕ, ◌+◌, ◌-◌, ◌<◌, ◌≤◌, length, get_or, take, drop, replicate, length-take-le, length-drop, sym, ap, ◌∙◌, arith, rules}
use lib.ListN.{length-replicate}
use borrow.Rule.Slice.PartMut.{put_mid}
use Rattle.rules.specs.Layout.{max_slots, Kind, cells, cell_slots_word, first_slot}
use Rattle.layout.specs.Kinds.{kind_of}
use Rattle.table.specs.Frame.{conf}
use Rattle.table.proofs.Loops.{sum_first}
use Rattle.table.proofs.Config.{cells-read}
use Rattle.table.proofs.Filled.{cells_to, length-cells, run_fits, run-next, filled_none, filled_run, filled-all}
use Rattle.table.proofs.runs.slot_cells.Goals.{After-wide}
use Rattle.table.proofs.runs.slot_cells.Goals as goal

pub loop-c-init : goal.loop-c-init
unfolding first_slot
loop-c-init c = (
  search rules,
  c.wide-c-end.ensures ∙ sym (cells-read _ _ c.requires.0.framed.header),
  ap length c.requires.1 ∙ length-replicate {A = ℕ} max_slots 0,
  search rules,
  λ κ e. (sum_first _, filled_none _ κ _ c.requires.1),
)

-- the run of the cell ends where its words say, within the list
next : (c : After-wide) (κ : Kind) → cell_slots_word κ ≡ c.cell_word-k.result
    → first_slot (conf c.args.frame) κ c.loop-c.c + c.wide.result ≡ first_slot (conf c.args.frame) κ (c.loop-c.c + 1)
next c κ e =
    let f = c.args.frame in
    let in_table : c.loop-c.c < get_or f.t.now 0 0 = omega (arith, c.wide-c-end.ensures, c.loop-c-test.true, f.framed.header.cells_is) in
    run-next f.t.now f.n c.requires.0 κ c.loop-c.c _ _ in_table c.cell_word-k.ensures.1 e c.wide.ensures

ends : (c : After-wide) → c.loop-c.i + c.wide.result ≤ max_slots
ends c =
    let f = c.args.frame in
    let κ₀ = kind_of c.args.kind in
    let e₀ = sym c.cell_word-k.ensures.0 in
    let fits = run_fits f.t.now f.n c.requires.0 κ₀ c.loop-c.c (omega (arith, c.wide-c-end.ensures, c.loop-c-test.true)) (sym (cells-read f.t.now f.n f.framed.header)) in
    omega (arith, (c.loop-c.invariant.4 κ₀ e₀).0, next c κ₀ e₀, fits)

pub slice_bounds-fill-end : goal.slice_bounds-fill-end
slice_bounds-fill-end c = let within = ends (goal.at.slice_bounds-fill-end c).After-wide in search rules

pub loop-c-preserved : goal.loop-c-preserved
loop-c-preserved c =
    let before = (goal.at.loop-c-preserved c).After-wide in
    let l = c.loop-c in
    let n : ℕ = c.loop-c.i + c.wide.result - c.loop-c.i in
    let long : length (take n (drop l.i l.of)) ≡ n = length-take-le n (drop l.i l.of) (omega (arith, length-drop l.i l.of, ends before, l.invariant.2)) in
    let run = c.fill.ensures.after (λ y e. e) ∙ ap (λ (m : ℕ). replicate m l.c) long in
    let end : l.i + n ≡ l.i + c.wide.result = omega arith in
    let low : l.c < cells (conf c.args.frame) = omega (arith, c.loop-c-test.true, l.invariant.1) in
    let h = conf c.args.frame in
    let filled : (κ : Kind) → cell_slots_word κ ≡ c.cell_word-k.result → put_mid l.i n l.of c.fill.new.self ≡ cells_to h κ (l.i + c.wide.result) = λ κ e.
    let first = (l.invariant.4 κ e).0 in
    filled_run h κ l.of _ l.i n l.c (omega (arith, end, ends before)) low (omega (arith, first)) (omega (arith, end, first, next before κ e)) (l.invariant.4 κ e).1 run
    ∙ ap (cells_to h κ) end in (
      search rules,
      search rules,
      ap length (filled (kind_of c.args.kind) (sym c.cell_word-k.ensures.0)) ∙ length-cells h _ _,
      ends before,
      λ κ e. (omega (arith, (l.invariant.4 κ e).0, next before κ e), filled κ e),
    )

pub returns : goal.returns
returns c =
    let l = c.loop-c in
    let h = conf c.args.frame in
    let κ₀ = kind_of c.args.kind in
    let f = l.invariant.4 κ₀ (sym c.cell_word-k.ensures.0) in
    let all : l.c ≡ cells h = omega (arith, l.invariant.0, l.invariant.1, c.loop-c-test.false) in
    filled-all _ κ₀ _ l.i (f.0 ∙ ap (first_slot h κ₀) all ∙ c.requires.0.sums κ₀) f.1
