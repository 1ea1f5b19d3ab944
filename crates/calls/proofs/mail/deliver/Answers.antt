-- `mail::deliver` meets its contract: the message's words, in the rule's order.
use Rattle.calls.proofs.Posts.{deliver-words}
use Rattle.calls.proofs.mail.deliver.Goals as goal

pub returns : goal.returns
returns c =
    deliver-words c.requires.0 _ _ _ _ c.record_at.ensures.0 c.write.ensures
    c.word_at.ensures c.word_at-2.ensures c.word_at-3.ensures c.put_four.ensures
