-- The search for the smallest: what it finds, when there is none, what it hangs on, and the invariant of a loop that makes it.
use mathlib.Core.Path.{◌≡◌, refl, sym, ◌∙◌}
use mathlib.Core.Bool.{Bool, true, false}
use Prim.Native.Nat.{ℕ, zero, suc, ◌+◌, ◌≤◌, ◌<◌}
use native.Mathlib.Omega.{arith}
use native.Mathlib.Decide.{ℕ_discrete, dec_lt, dec_le}
use lib.Dec.{leb}
use borrow.Author.Tests.{le-leb, lt-leb}
use Rattle.rules.specs.Words.{lowest, or_rather, least}
use Rattle.laws.proofs.Tests.{split, both_ways, refuted}
use Rattle.laws.proofs.Search.{lowest-none, lowest-before}

-- b passes the test f; of the numbers from i up to the end that do, none has a smaller g, and none before b the same
pub record Smallest (f : ℕ → Bool) (g : ℕ → ℕ) (i end b : ℕ) : Type 0 where
  pub low : i ≤ b
  pub high : b < end
  pub passes : f b ≡ true
  pub smallest : (j : ℕ) → i ≤ j → j < end → f j ≡ true → g b ≤ g j
  pub first : (j : ℕ) → i ≤ j → j < b → f j ≡ true → g b < g j

-- b is that one, or the mark where none passes
pub record Choice (f : ℕ → Bool) (g : ℕ → ℕ) (i end mark b : ℕ) : Type 0 where
  pub none : b ≡ mark → (j : ℕ) → i ≤ j → j < end → f j ≡ false
  pub one : (b ≡ mark → ⊥) → Smallest f g i end b

module _ (f : ℕ → Bool) (g : ℕ → ℕ) where
  -- there is at most one
  smallest-one : (i end a b : ℕ) → Smallest f g i end a → Smallest f g i end b → a ≡ b
  smallest-one i end a b x y = elim (ℕ_discrete a b) [
    | yes e ↦ e
    | no n ↦ elim (dec_lt a b) [
      | yes l ↦ absurd (omega (arith, y.first a x.low l x.passes, x.smallest b y.low y.high y.passes))
      | no m ↦ absurd (omega (arith, x.first b y.low (omega arith) y.passes, y.smallest a x.low x.high x.passes))
    ]
  ]

  pub choice-one : (i end mark a b : ℕ) → Choice f g i end mark a → Choice f g i end mark b → a ≡ b
  choice-one i end mark a b x y = elim (ℕ_discrete a mark) [
    | yes e ↦ elim (ℕ_discrete b mark) [
      | yes d ↦ e ∙ sym d
      | no n ↦ let s = y.one n in both_ways (f b) s.passes (x.none e b s.low s.high)
    ]
    | no m ↦ elim (ℕ_discrete b mark) [
      | yes d ↦ let s = x.one m in both_ways (f a) s.passes (y.none d a s.low s.high)
      | no n ↦ smallest-one i end a b (x.one m) (y.one n)
    ]
  ]

  -- ---- one number more, before the others

  only : (i end : ℕ) → i < end → f i ≡ true → ((j : ℕ) → suc i ≤ j → j < end → f j ≡ false) → Smallest f g i end i
  only i end l e none = record {
    low = omega arith;
    high = l;
    passes = e;
    smallest = λ j lo hi t. elim (ℕ_discrete i j) [ yes q ↦ rw q (omega arith) | no m ↦ both_ways (f j) t (none j (omega arith) hi) ];
    first = λ j lo hi t. absurd (omega arith);
  }

  before : (i end b : ℕ) → Smallest f g (suc i) end b → f i ≡ true → g i ≤ g b → Smallest f g i end i
  before i end b x e l = record {
    low = omega arith;
    high = omega (arith, x.low, x.high);
    passes = e;
    smallest = λ j lo hi t. elim (ℕ_discrete i j) [ yes q ↦ rw q (omega arith) | no n ↦ omega (arith, x.smallest j (omega arith) hi t) ];
    first = λ j lo hi t. absurd (omega arith);
  }

  after : (i end b : ℕ) → Smallest f g (suc i) end b → (f i ≡ true → g b < g i) → Smallest f g i end b
  after i end b x less = record {
    low = omega (arith, x.low);
    high = x.high;
    passes = x.passes;
    smallest = λ j lo hi t. elim (ℕ_discrete i j) [ yes q ↦ (let s : g b < g j = rw (← q) (less (rw q t)) in omega arith) | no n ↦ x.smallest j (omega arith) hi t ];
    first = λ j lo hi t. elim (ℕ_discrete i j) [ yes q ↦ rw (← q) (less (rw q t)) | no n ↦ x.first j (omega arith) hi t ];
  }

  rather : (i end b : ℕ) → i < end → Choice f g (suc i) end end b → Choice f g i end end (or_rather f g end i b)
  unfolding or_rather
  rather i end b l x = split _ (f i)
      (λ e. elim (ℕ_discrete b end) [
        | yes m ↦ rw (e, m, le-leb end end (omega arith)) (record { none = λ z. absurd (omega arith); one = λ z. only i end l e (x.none m) })
        | no n ↦ let s = x.one n in elim (dec_le (g i) (g b)) [
          | yes a ↦ rw (e, lt-leb end b s.high, le-leb (g i) (g b) a) (record { none = λ z. absurd (omega arith); one = λ z. before i end b s e a })
          | no a ↦ rw (e, lt-leb end b s.high, lt-leb (g i) (g b) (omega arith)) (record { none = λ z. absurd (n z); one = λ z. after i end b s (λ t. omega arith) })
        ]
      ])
      (λ e. rw e (record {
        none = λ m j lo hi. elim (ℕ_discrete i j) [ yes q ↦ rw (← q) e | no n ↦ x.none m j (omega arith) hi ];
        one = λ n. after i end b (x.one n) (λ t. both_ways (f i) t e);
      }))

  -- what the search gives
  pub least-choice : (n i : ℕ) → Choice f g i (i + n) (i + n) (least f g n i)
  unfolding least
  least-choice zero i = record { none = λ m j lo hi. absurd (omega arith); one = λ n. absurd (n (omega arith)) }
  least-choice (suc n) i =
      let e : suc i + n ≡ i + suc n = omega arith in
      rather i (i + suc n) (least f g n (suc i)) (omega arith) (rw e at (least-choice n (suc i)))

  pub least-is : (n i : ℕ) → least f g n i < i + n → Smallest f g i (i + n) (least f g n i)
  least-is n i l = (least-choice n i).one (λ e. omega arith)

  -- ---- the invariant of a loop: of the numbers from i up to j, b is the choice, and the end is the mark

  pub choice-start : (i mark : ℕ) → Choice f g i i mark mark
  choice-start i mark = record { none = λ m j lo hi. absurd (omega arith); one = λ n. absurd (n refl) }

  module _ (i j mark b : ℕ) (lo : i ≤ j) (hi : j < mark) (x : Choice f g i j mark b) where
    -- j is not better
    pub choice-past : (f j ≡ true → (b ≡ mark → ⊥) × (g b ≤ g j)) → Choice f g i (j + 1) mark b
    choice-past past = record {
      none = λ m k a c. elim (ℕ_discrete k j) [ yes q ↦ rw q (refuted (f j) (λ t. (past t).0 m)) | no n ↦ x.none m k a (omega arith) ];
      one = λ n. let s = x.one n in record {
        low = s.low;
        high = omega (arith, s.high);
        passes = s.passes;
        smallest = λ k a c t. elim (ℕ_discrete k j) [ yes q ↦ rw q (past (rw (← q) t)).1 | no m ↦ s.smallest k a (omega arith) t ];
        first = s.first;
      };
    }

    -- j is better
    pub choice-taken : f j ≡ true → ((b ≡ mark → ⊥) → g j < g b) → Choice f g i (j + 1) mark j
    choice-taken t better = record {
      none = λ m. absurd (omega arith);
      one = λ n. elim (ℕ_discrete b mark) [
        | yes m ↦ record {
          low = lo;
          high = omega arith;
          passes = t;
          smallest = λ k a c u. elim (ℕ_discrete k j) [ yes q ↦ rw q (omega arith) | no o ↦ both_ways (f k) u (x.none m k a (omega arith)) ];
          first = λ k a c u. both_ways (f k) u (x.none m k a c);
        }
        | no m ↦ let s = x.one m in let less = better m in record {
          low = lo;
          high = omega arith;
          passes = t;
          smallest = λ k a c u. elim (ℕ_discrete k j) [ yes q ↦ rw q (omega arith) | no o ↦ omega (arith, s.smallest k a (omega arith) u) ];
          first = λ k a c u. omega (arith, s.smallest k a c u);
        }
      ];
    }

  pub choice-end : (n i b : ℕ) → Choice f g i (i + n) (i + n) b → b ≡ least f g n i
  choice-end n i b x = choice-one i (i + n) (i + n) b (least f g n i) x (least-choice n i)

-- two tests and two keys that agree where they are asked
pub least-same : (f f' : ℕ → Bool) (g g' : ℕ → ℕ) (n i : ℕ) → ((j : ℕ) → i ≤ j → j < i + n → (f j ≡ f' j) × (g j ≡ g' j)) → least f g n i ≡ least f' g' n i
least-same f f' g g' n i same = choice-end f' g' n i (least f g n i) (record {
  none = λ m j lo hi. sym (same j lo hi).0 ∙ (least-choice f g n i).none m j lo hi;
  one = λ m.
      let s = (least-choice f g n i).one m in
      let here = same (least f g n i) s.low s.high in record {
        low = s.low;
        high = s.high;
        passes = sym here.0 ∙ s.passes;
        smallest = λ j lo hi t. let e = same j lo hi in omega (arith, here.1, e.1, s.smallest j lo hi (e.0 ∙ t));
        first = λ j lo hi t. let e = same j lo (omega (arith, s.high)) in omega (arith, here.1, e.1, s.first j lo hi (e.0 ∙ t));
      };
})

-- the search for the smallest finds one exactly when the search for the lowest does
pub least-room : (f : ℕ → Bool) (g : ℕ → ℕ) (n i : ℕ) → leb (i + n) (least f g n i) ≡ leb (i + n) (lowest f n i)
least-room f g n i = elim (ℕ_discrete (least f g n i) (i + n)) [
  | yes m ↦ rw (m, lowest-none f n i ((least-choice f g n i).none m))
  | no m ↦ let s = (least-choice f g n i).one m in
      lt-leb (i + n) _ s.high ∙ sym (lt-leb (i + n) _ (lowest-before f n i (least f g n i) s.low s.high s.passes))
]
