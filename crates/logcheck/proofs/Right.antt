-- What logcheck finds is what the rules find: for what it has read, with whatever is left to read.
use Rattle.std.proofs.Common.{◌≡◌, ℕ, ◌^◌, ◌<◌, Option, Some, List, ◌++◌, length, refl, ap, ◌∙◌}
use Rattle.rules.specs.Finding.{Finding, agree, wrong, missing, over, finding, said}
use Rattle.session.specs.Turn.{blank_table}
use Rattle.checker.specs.declared.Finding as code
use Rattle.checker.specs.Check.{new_check, coded, meant}
use Rattle.checker.proofs.Whole.{found_right}
use Rattle.logcheck.specs.declared.Log.{Log}
use Rattle.logcheck.specs.Sought.{Unread, Sought}

meant-coded : (v : Finding) → meant (coded v) ≡ v
meant-coded (agree n) = refl
meant-coded (wrong n) = refl
meant-coded (missing n) = refl
meant-coded (over n) = refl

-- f is found; ys is left of the input, zs of what is recorded
module _ (p p' : Log) (r : Option code.Finding) (a : Sought p r p') (f : code.Finding) (e : r ≡ Some f) (ys zs : List ℕ)
    (u : Unread p'.input.ended ys) (v : Unread p'.recorded.ended zs) (n : length (a.input ++ ys) < 2 ^ 64) (m : length (a.recorded ++ zs) < 2 ^ 64) where
  pub sought-right : f ≡ coded (finding (a.input ++ ys) (a.recorded ++ zs))
  sought-right =
      let s = a.fresh in
      found_right s.table p.store p.buf p.out s.enough.lent new_check (blank_table s.table) (refl, refl) (a.input ++ ys) (a.recorded ++ zs) f n m
      (a.found f e ys zs u v)

  -- the line that `put_found` puts
  pub said-right : said (meant f) ≡ said (finding (a.input ++ ys) (a.recorded ++ zs))
  said-right = ap said (ap meant sought-right ∙ meant-coded (finding (a.input ++ ys) (a.recorded ++ zs)))
