-- `shape::can_set_up` meets its contract: a table that is too short, a bad header and wrong lengths each refute the claim; else the cells and the subtypes decide it.
use Rattle.std.proofs.Common.{sym, ◌∙◌, rules}
use Rattle.table.proofs.Config.{header_read, too_short, wrong-header, wrong-lengths, right-frame, small_of, framed_of}
use Rattle.table.proofs.shape.can_set_up.Goals as goal

pub returns-then-t-lt-HEADER_WORDS : goal.returns-then-t-lt-HEADER_WORDS
returns-then-t-lt-HEADER_WORDS c = sym (too_short _ _ c.if-t-lt-HEADER_WORDS.true)

pub header_ok-requires : goal.header_ok-requires
header_ok-requires c = (search rules, header_read _ _ c.header_of-n.ensures)

pub returns-then-not-header_ok : goal.returns-then-not-header_ok
returns-then-not-header_ok c = sym (wrong-header _ _ (sym c.header_ok.ensures ∙ c.if-not-header_ok.true))

pub lengths_exact-requires : goal.lengths_exact-requires
lengths_exact-requires c =
    let is = header_read _ _ c.header_of-n.ensures in
    (is, small_of _ _ is (sym c.header_ok.ensures ∙ c.if-not-header_ok.false))

pub returns-then-not-lengths_exact : goal.returns-then-not-lengths_exact
returns-then-not-lengths_exact c = sym (wrong-lengths _ _ (sym c.lengths_exact.ensures ∙ c.if-not-lengths_exact.true))

pub invariant_of-configuration_right : goal.invariant_of-configuration_right
invariant_of-configuration_right c =
    let is = header_read _ _ c.header_of-n.ensures in
    let small = small_of _ _ is (sym c.header_ok.ensures ∙ c.if-not-header_ok.false) in
    record { framed = framed_of _ _ is _ small (sym c.lengths_exact.ensures ∙ c.if-not-lengths_exact.false) }

pub returns : goal.returns
returns c =
    c.configuration_right.ensures ∙ right-frame _ _ (sym c.header_ok.ensures ∙ c.if-not-header_ok.false) (sym
    c.lengths_exact.ensures ∙ c.if-not-lengths_exact.false)
