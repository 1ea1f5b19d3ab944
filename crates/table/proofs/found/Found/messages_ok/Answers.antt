-- `found::Found::messages_ok` meets its contract: of an empty queue every word is zero; else `ok` says that every message passed is right.
use Rattle.std.proofs.Common.{ℕ, ◌*◌, eqb, sym, refl, ap, ◌∙◌, rules}
use Rattle.rules.specs.Words.{all_below}
use Rattle.rules.specs.Layout.{process, queue, messages, message_words, message_at}
use Rattle.table.specs.Frame.{conf, words}
use Rattle.table.proofs.Holders.{record-words}
use Rattle.table.proofs.Alive.{messages-unused}
use Rattle.table.proofs.Loops.{all_first, all-next, all-last}
use Rattle.table.proofs.found.Found.messages_ok.Goals as goal

pub returns-then-t-at-eq0 : goal.returns-then-t-at-eq0
returns-then-t-at-eq0 c =
    let f = c.args.self.now.frame in
    let empty = sym (c.record_at-at.ensures.word queue) ∙ c.if-t-at-eq0.true in
    let all = record-words f process c.args.p _ c.record_at-at.ensures in
    c.zeros.ensures
    ∙ ap (λ (w : ℕ → ℕ). all_below (messages * message_words) (λ j. eqb (w (message_at 0 j)) 0)) all
    ∙ messages-unused (conf f) (words f) c.args.p empty

pub loop-m-init : goal.loop-m-init
loop-m-init c = (search rules, all_first _)

pub loop-m-preserved : goal.loop-m-preserved
loop-m-preserved c = (search rules, all-next _ c.loop-m.invariant.1 c.message_ok-ok.ensures)

pub returns : goal.returns
returns c = all-last _ c.loop-m.invariant.1 c.loop-m.invariant.0 c.loop-m-test.false refl
