-- `found::Found::message_ok` meets its contract, for a message in the queue and for one past it.
use Rattle.std.proofs.Common.{ℕ, ◌<◌, ◌≤◌, eqb, ap, ◌∙◌, ap₂, arith}
use Rattle.rules.specs.Words.{all_below}
use Rattle.rules.specs.Claim.{test}
use Rattle.rules.specs.Layout.{process, queue, message_words, message_at, at}
use Rattle.rules.specs.WellFormed.{held_ok}
use Rattle.table.specs.Frame.{conf, words}
use Rattle.table.proofs.Holders.{record-words}
use Rattle.table.proofs.Alive.{message-held, message-unused}
use Rattle.table.proofs.found.Found.message_ok.Goals as goal

pub returns-then-m-wide : goal.returns-then-m-wide
returns-then-m-wide c =
    let f = c.args.self.now.frame in
    let word = c.record_at-at.ensures.word in
    let queued : c.args.m < words f (at process c.args.p queue) = omega (arith, c.wide.ensures, c.if-m-wide.true, word queue) in
    c.may_hold.ensures
    ∙ ap₂ (λ (a x : ℕ). test (held_ok (conf f) (words f) process a x)) c.cell.ensures.value (word (message_at c.args.m 0))
    ∙ message-held (conf f) (words f) c.args.p c.args.m queued

pub returns : goal.returns
returns c =
    let f = c.args.self.now.frame in
    let all = record-words f process c.args.p _ c.record_at-at.ensures in
    let past : words f (at process c.args.p queue) ≤ c.args.m = omega (arith, c.wide.ensures, c.if-m-wide.false, c.record_at-at.ensures.word queue) in
    c.zeros.ensures
    ∙ ap (λ (w : ℕ → ℕ). all_below message_words (λ j. eqb (w (message_at c.args.m j)) 0)) all
    ∙ message-unused (conf f) (words f) c.args.p c.args.m past
