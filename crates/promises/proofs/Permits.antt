-- 02, CR 4: what the rule of a post says of permission, by itself. (What follows for a post that is made: Posts, Delivered.)
use mathlib.Core.Path.{◌≡◌, refl}
use mathlib.Core.Bool.{Bool, true, false, ◌&&◌}
use mathlib.Core.List.{List, []}
use Prim.Native.Nat.{ℕ}
use Rattle.rules.specs.Layout.{process, Addr, at, owner, group, bits}
use Rattle.rules.specs.Seid.{index_of, present, or_self}
use Rattle.rules.specs.Rights.{rights, may_write}
use Rattle.rules.specs.Find.{rights_at}
use Rattle.rules.specs.Call15.{may_post, post}

-- "the type independent information of both processes settles it": the receiver's owner, group and bits against the poster's owner and group
pub settled-by : (r : Addr → ℕ) (p q : ℕ)
    → may_post r p q ≡ may_write (rights (r (at process p owner)) (r (at process p group)) (r (at process q owner)) (r (at process q group)) (r (at process q (bits process))))
unfolding may_post rights_at
settled-by r p q = refl

nothing : (a b : Bool) → a && (false && b) ≡ false
nothing true b = refl
nothing false b = refl

-- permission is judged at the post: a post that its receiver does not permit writes no word, be the receiver in the own cell or above
pub forbidden-written : (h : List ℕ) (r : Addr → ℕ) (p a : ℕ) (buffer : List ℕ) → may_post r p (index_of (or_self r p a)) ≡ false → (post h r p a buffer).effects.words ≡ []
unfolding post
forbidden-written h r p a buffer e = rw (e, nothing (present r process (or_self r p a)) _)
