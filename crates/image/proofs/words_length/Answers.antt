-- `image::words_length` meets its contract: word by word.
use Rattle.std.proofs.Common.{◌≡◌, ◌∙◌, length, rules}
use Rattle.std.specs.List.{sum_by}
use Rattle.rules.specs.Replay.{encoded}
use Rattle.image.proofs.Lengths.{words-long}
use Rattle.image.proofs.words_length.Goals as goal

pub returns : goal.returns
returns c =
    let one_by_one : c.sum.result ≡ sum_by (λ v. length (encoded v)) c.args.t.now = search rules in
    one_by_one ∙ words-long _
