-- The pages of a process, as the code holds them: what each holds, in a list. What refuses call 19, of what the code has seen.
use Rattle.std.specs.Prelude.{Bool, ◌&&◌, ◌||◌, not, cond, List, [], ◌∷◌, ℕ, ◌+◌, ◌-◌, ◌/◌, ltb, leb, eqb, get_or}
use Rattle.rules.specs.Words.{tab_from}
use Rattle.rules.specs.Layout.{process, Addr, at, entries, pages, page_bytes, page_at}
use Rattle.rules.specs.Errors.{XnSgDes, XbSgDes, XbSgSd, XoutSgAldUmp, XinSgAldMap, XvrtMmCfl}
use Rattle.rules.specs.Rule.{Refusal, ◌⇒◌}
use Rattle.rules.specs.Call19.{named, is_mapped, conflict}

-- what page g holds
abbrev pub held : List ℕ → ℕ → ℕ
held m g = get_or m g 0

-- those of process p
abbrev pub map_of : (Addr → ℕ) → ℕ → List ℕ
map_of r p = tab_from 0 pages (λ g. r (at process p (page_at g)))

-- once designator d has left
abbrev pub left_by : List ℕ → ℕ → List ℕ
left_by m d = tab_from 0 pages (λ g. cond (eqb (held m g) (d + 1)) 0 (held m g))

-- once v has come into the n pages from b on, if one comes
abbrev pub taken_by : List ℕ → Bool → ℕ → ℕ → ℕ → List ℕ
taken_by m comes v b n = tab_from 0 pages (λ g. cond (comes && (leb b g && ltb g (b + n))) v (held m g))

-- how many pages so many bytes take: over 8,192, rounded up
abbrev pub run_of : ℕ → ℕ
run_of bytes = (bytes + (page_bytes - 1)) / page_bytes

-- call 19: s and u are what the two entries hold, m is the map, rest what the outgoing segment leaves of it
abbrev pub remap_tests : ℕ → ℕ → ℕ → ℕ → ℕ → Bool → ℕ → List ℕ → List ℕ → List Refusal
remap_tests a b c s u present run m rest =
    (ltb entries a || ltb entries c ⇒ XnSgDes) ∷ ((named a && eqb s 0) || (named c && eqb u 0) ⇒ XbSgDes) ∷ (named a && not present ⇒ XbSgSd)
    ∷ (named c && not (is_mapped (held m) c) ⇒ XoutSgAldUmp) ∷ (named a && is_mapped (held rest) a ⇒ XinSgAldMap)
    ∷ (named a && conflict (held rest) b run ⇒ XvrtMmCfl) ∷ []
