-- `session::prepare` meets its contract.
use Rattle.std.proofs.Common.{◌≡◌, refl, ◌∙◌, rules}
use Rattle.session.specs.Turn.{words_of, bytes_of}
use Rattle.session.proofs.Ways.{prepared, zeroed}
use Rattle.session.proofs.prepare.Goals as goal

pub returns : goal.returns
returns c =
    let a : c.min-words.result ≡ words_of c.args.table.now = search rules in
    let b : c.min-bytes.result ≡ bytes_of c.args.table.now c.args.store.now = search rules in
    prepared _ _ _ _ _ _ _ _ _ a b (c.fill.ensures.after (λ y e. e) ∙ zeroed _) c.set_up-answer.ensures.value refl c.set_up-answer.ensures.t_after c.set_up-answer.auto.t
