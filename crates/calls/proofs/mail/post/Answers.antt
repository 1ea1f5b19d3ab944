-- `mail::post` meets its contract: refused, delivered, or dropped without a word.
use Rattle.calls.proofs.Posts.{Posted, posted, post-refused, post-delivered, post-dropped, post-done}
use mathlib.Core.Path.{◌≡◌, sym, ◌∙◌}
use Rattle.calls.specs.Refusing.{found}
use Rattle.calls.proofs.Names.{sixteen}
use Rattle.calls.proofs.mail.post.Goals.{After-may_post, In_ok-may_post}
use Rattle.calls.proofs.mail.post.Goals as goal

judged : (c : After-may_post) → Posted c.args.t.now c.args.on.n c.args.on.me c.args.a c.args.buffer.now
    c.look-to.result c.read-waiting.result (found c.may_post.result)
judged c =
    posted c.requires.sound c.requires.handed.matrix _ _ c.or_self-s.ensures c.look-to.ensures c.read-waiting.ensures
    c.may_write-allowed.ensures c.flow_at-flows.ensures c.may_post.ensures

pub flow_at-flows-requires : goal.flow_at-flows-requires
flow_at-flows-requires c =
    sixteen _ c.requires.handed.matrix

pub returns-in_err-may_post : goal.returns-in_err-may_post
returns-in_err-may_post c =
    post-refused (judged (goal.at.returns-in_err-may_post c).After-may_post) _ _ (c.in_err-may_post.ensures ∙ sym c.may_post.ensures)
    c.from_residual.ensures.0 c.from_residual.ensures.1

none-found : (c : In_ok-may_post) → found c.may_post.result ≡ 0
none-found c = c.may_post.ensures ∙ sym c.in_ok-may_post.ensures

pub returns-then-to-allowed : goal.returns-then-to-allowed
returns-then-to-allowed c =
    let x = goal.at.returns-then-to-allowed c in
    let p = judged x.After-may_post in
    let none = none-found x.In_ok-may_post in
    post-done p none (post-delivered p none c.may_write-allowed.ensures c.or_self-me.ensures c.if-to-allowed.true c.deliver.ensures)

pub returns-else-to-allowed : goal.returns-else-to-allowed
returns-else-to-allowed c =
    let x = goal.at.returns-else-to-allowed c in
    let p = judged x.After-may_post in
    let none = none-found x.In_ok-may_post in
    post-done p none (post-dropped p none c.may_write-allowed.ensures c.if-to-allowed.false)
