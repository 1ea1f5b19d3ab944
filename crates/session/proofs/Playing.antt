-- Playing a piece, turn by turn.
use Rattle.std.proofs.Common.{◌≡◌, ℕ, zero, suc, ◌+◌, ◌-◌, ◌<◌, ◌≤◌, eqb, ltb, List, [], ◌∷◌, ◌++◌, length, take, drop, sym, refl, ap, ◌∙◌, subst, append_assoc, append-nil, arith, length-append, length-drop, length-take-le, le-ltb, lt-ltb, eq-eqb, ne_eqb}
use native.Mathlib.Decide.{dec_lt}
use Rattle.laws.proofs.Tests.{cond-true, cond-false}
use Rattle.output.specs.Wrote.{Wrote}
use Rattle.output.proofs.Laws.{as-text, same_size, then, fits}
use Rattle.text.specs.Room.{line_bytes}
use Rattle.session.specs.declared.Session.{Session}
use Rattle.session.specs.declared.Stepped.{Stepped}
use Rattle.session.specs.Turn.{Turn, turn, Turned}
use Rattle.session.specs.Play.{stay, after, play_in, play, Played}
use Rattle.session.proofs.Due.{turn-taken, turn-place, turn-rest}

-- a text after another
after-after : (a b : List ℕ) (k : Turn) → after a (after b k) ≡ after (a ++ b) k
after-after a b k =
    ap (λ (z : List ℕ). record k { text = z })
    (sym (append_assoc a b k.text))

-- ---- one turn, or none
module _ (x : Session) (t st l s : List ℕ) (i room : ℕ) where
  pub play-none : (n : ℕ) → length s ≡ 0 → play_in n x t st l s i room ≡ stay x t st l s i
  unfolding play_in
  play-none zero e = refl
  play-none (suc n) e = cond-true (eqb (length s) 0) _ _ (eq-eqb (length s) 0 e)

  pub play-full : (n : ℕ) → room < line_bytes → play_in n x t st l s i room ≡ stay x t st l s i
  unfolding play_in
  play-full zero h = refl
  play-full (suc n) h = elim (dec_lt 0 (length s)) [
    | yes p ↦ cond-false (eqb (length s) 0) _ _ (ne_eqb (length s) 0 (λ e. omega arith)) ∙ cond-true (ltb room line_bytes) _ _ (lt-ltb room line_bytes h)
    | no q ↦ cond-true (eqb (length s) 0) _ _ (eq-eqb (length s) 0 (omega arith))
  ]

  abbrev pub k : Turn
  k = turn x t st l s i

  pub play-one : (n : ℕ) → 0 < length s → line_bytes ≤ room
      → play_in (suc n) x t st l s i room ≡ after k.text (play_in n k.session k.table k.store k.buffer k.rest k.next (room - length k.text))
  unfolding play_in
  play-one n p h =
      cond-false (eqb (length s) 0) _ _ (ne_eqb (length s) 0 (λ e. omega arith)) ∙ cond-false (ltb room line_bytes) _ _ (le-ltb room line_bytes h)

-- more turns than are made change nothing
pub enough : (m n : ℕ) (x : Session) (t st l s : List ℕ) (i room : ℕ) → length s ≤ m → length s ≤ n → play_in m x t st l s i room ≡ play_in n x t st l s i room
enough zero n x t st l s i room p q = play-none x t st l s i room zero (omega arith) ∙ sym (play-none x t st l s i room n (omega arith))
enough (suc m) zero x t st l s i room p q = play-none x t st l s i room (suc m) (omega arith) ∙ sym (play-none x t st l s i room zero (omega arith))
enough (suc m) (suc n) x t st l [] i room p q = play-none x t st l [] i room (suc m) refl ∙ sym (play-none x t st l [] i room (suc n) refl)
enough (suc m) (suc n) x t st l (b ∷ s) i room p q = elim (dec_lt room line_bytes) [
  | yes h ↦ play-full x t st l (b ∷ s) i room (suc m) h ∙ sym (play-full x t st l (b ∷ s) i room (suc n) h)
  | no h ↦
      let z = turn-taken x t st l b s i in
      let c : Turn = turn x t st l (b ∷ s) i in
      play-one x t st l (b ∷ s) i room m (omega arith) (omega arith)
      ∙ ap (after c.text) (enough m n c.session c.table c.store c.buffer c.rest c.next (room - length c.text) (omega arith) (omega arith))
      ∙ sym (play-one x t st l (b ∷ s) i room n (omega arith) (omega arith))
]

pub play-on : (x : Session) (t st l s : List ℕ) (i room : ℕ) → 0 < length s → line_bytes ≤ room
    → play x t st l s i room
    ≡ after (turn x t st l s i).text
    (play (turn x t st l s i).session (turn x t st l s i).table (turn x t st l s i).store (turn x t st l s i).buffer (turn x t st l s i).rest
    (turn x t st l s i).next (room - length (turn x t st l s i).text))
play-on x t st l [] i room p h = absurd (omega arith)
play-on x t st l (b ∷ s) i room p h =
    let z = turn-taken x t st l b s i in
    let c : Turn = turn x t st l (b ∷ s) i in
    play-one x t st l (b ∷ s) i room (length s) p h
    ∙ ap (after c.text) (enough (length s) (length c.rest) c.session c.table c.store c.buffer c.rest c.next (room - length c.text) z (omega arith))

-- what is left stands from the place on where playing stopped
pub play-rest : (n : ℕ) (x : Session) (t st l s : List ℕ) (i room : ℕ) → (play_in n x t st l (drop i s) i room).rest ≡ drop (play_in n x t st l (drop i s) i room).next s
play-rest zero x t st l s i room = unfold play_in in refl
play-rest (suc n) x t st l s i room = elim (dec_lt 0 (length (drop i s))) [
  | yes p ↦ elim (dec_lt room line_bytes) [
    | yes h ↦ rw (play-full x t st l (drop i s) i room (suc n) h)
    | no h ↦
        let c : Turn = turn x t st l (drop i s) i in
        rw (play-one x t st l (drop i s) i room n p (omega arith), turn-rest x t st l s i)
        (play-rest n c.session c.table c.store c.buffer s c.next (room - length c.text))
  ]
  | no p ↦ rw (play-none x t st l (drop i s) i room (suc n) (omega arith))
]

-- nothing is passed over
play-place : (n : ℕ) (x : Session) (t st l s : List ℕ) (i room : ℕ) → (play_in n x t st l s i room).next + length (play_in n x t st l s i room).rest ≡ i + length s
play-place zero x t st l s i room = unfold play_in in refl
play-place (suc n) x t st l s i room = elim (dec_lt 0 (length s)) [
  | yes p ↦ elim (dec_lt room line_bytes) [
    | yes h ↦ rw (play-full x t st l s i room (suc n) h)
    | no h ↦
        let c : Turn = turn x t st l s i in
        rw (play-one x t st l s i room n p (omega arith))
        (play-place n c.session c.table c.store c.buffer c.rest c.next (room - length c.text) ∙ turn-place x t st l s i)
  ]
  | no p ↦ rw (play-none x t st l s i room (suc n) (omega arith))
]

-- and nothing is made longer; with room for a line a byte is taken, where there is one
turn-shorter : (x : Session) (t st l s : List ℕ) (i : ℕ) → 0 < length s → length (turn x t st l s i).rest < length s
turn-shorter x t st l [] i p = absurd (omega arith)
turn-shorter x t st l (b ∷ s) i p = let z = turn-taken x t st l b s i in omega arith

play-no-longer : (n : ℕ) (x : Session) (t st l s : List ℕ) (i room : ℕ) → length (play_in n x t st l s i room).rest ≤ length s
play-no-longer zero x t st l s i room = unfold play_in in omega arith
play-no-longer (suc n) x t st l s i room = elim (dec_lt 0 (length s)) [
  | yes p ↦ elim (dec_lt room line_bytes) [
    | yes h ↦ rw (play-full x t st l s i room (suc n) h) (omega arith)
    | no h ↦
        let c : Turn = turn x t st l s i in
        let z = play-no-longer n c.session c.table c.store c.buffer c.rest c.next (room - length c.text) in
        let y = turn-shorter x t st l s i p in
        rw (play-one x t st l s i room n p (omega arith)) (omega arith)
  ]
  | no p ↦ rw (play-none x t st l s i room (suc n) (omega arith)) (omega arith)
]

play-shorter : (x : Session) (t st l s : List ℕ) (i room : ℕ) → 0 < length s → line_bytes ≤ room → length (play x t st l s i room).rest < length s
play-shorter x t st l s i room p h =
    let c : Turn = turn x t st l s i in
    let z = play-no-longer (length c.rest) c.session c.table c.store c.buffer c.rest c.next (room - length c.text) in
    let y = turn-shorter x t st l s i p in
    rw (play-on x t st l s i room p h) (omega arith)

-- so a loop over a piece ends
pub play-nearer : (x : Session) (t st l s : List ℕ) (i room n : ℕ) → i < length s → line_bytes ≤ room → n ≡ (play x t st l (drop i s) i room).next → length s - n < length s - i
play-nearer x t st l s i room n h m e =
    let d = length-drop i s in
    let a = play-place (length (drop i s)) x t st l (drop i s) i room in
    let b = play-shorter x t st l (drop i s) i room (omega arith) m in
    omega arith

-- ---- the same as the code has it: at place i of the piece s, with `at` bytes of the output written
pub play-starts : (x : Session) (t st l s o : List ℕ) (i : ℕ) → after (take 0 o) (play x t st l s i (length o - 0)) ≡ play x t st l s i (length o)
play-starts x t st l s o i = ap (play x t st l s i) (let e : length o - 0 ≡ length o = omega arith in e)

module _ (x : Session) (t st l o : List ℕ) (at : ℕ) (s : List ℕ) (i : ℕ) (r : Stepped) (t' st' l' o' : List ℕ)
    (p : Turned (turn x t st l (drop i s) i) o at r t' st' l' o') (h : i < length s)
    (m : line_bytes ≤ length o - at) where
  abbrev c : Turn
  c = turn x t st l (drop i s) i

  -- its text has room
  size : length o' ≡ length o
  size = same_size o at c.text r.end o' p.written.text

  pub end : r.end ≡ at + length c.text
  end = let n = p.written.short in omega (arith, p.written.text.next)

  pub inside : r.end ≤ length o'
  inside = let n = p.written.short in let e = end in let f = size in omega arith

  -- the next turn goes on from it
  room-left : length o - at - length c.text ≡ length o' - r.end
  room-left = let e = end in let f = size in omega arith

  goes_on : play x t st l (drop i s) i (length o - at) ≡ after c.text (play r.session t' st' l' (drop r.next s) r.next (length o' - r.end))
  goes_on =
      let d = length-drop i s in
      play-on x t st l (drop i s) i (length o - at) (omega arith) m
      ∙ rw (p.session, p.next, p.table, p.store, p.buffer, turn-rest x t st l s i, room-left)

  -- the output, where the texts before were written into o₀
  module _ (o₀ : List ℕ) (w : Wrote o₀ 0 (take at o) at o) where
    both : Wrote o₀ 0 (take at o ++ c.text) r.end o'
    both = then o₀ 0 (take at o) at o c.text r.end o' w p.written.text

    front : take r.end o' ≡ take at o ++ c.text
    front =
        (fits o₀ (take at o ++ c.text) r.end o' both
        (let n = p.written.short in
        let e = same_size o₀ 0 (take at o) at o w in
        let f = length-append (take at o) c.text in
        let g = length-take-le at o (omega arith) in
        omega arith)).1

    pub again-written : Wrote o₀ 0 (take r.end o') r.end o'
    again-written = as-text o₀ 0 (take at o ++ c.text) (take r.end o') r.end o' (sym front) both

    pub again-same : (whole : Turn) → after (take at o) (play x t st l (drop i s) i (length o - at)) ≡ whole
        → after (take r.end o') (play r.session t' st' l' (drop r.next s) r.next (length o' - r.end)) ≡ whole
    again-same whole e =
        ap (λ (z : List ℕ). after z (play r.session t' st' l' (drop r.next s) r.next (length o' - r.end))) front
        ∙ sym (after-after (take at o) c.text (play r.session t' st' l' (drop r.next s) r.next (length o' - r.end)))
        ∙ ap (after (take at o)) (sym goes_on)
        ∙ e

-- nothing is left, or no room
module _ (x : Session) (t st l s : List ℕ) (i : ℕ) (o₀ o : List ℕ) (at : ℕ) (w : Wrote o₀ 0 (take at o) at o) (whole : Turn)
    (e : after (take at o) (play x t st l (drop i s) i (length o - at)) ≡ whole) where
  stopped : play x t st l (drop i s) i (length o - at) ≡ stay x t st l (drop i s) i → Played whole o₀ (record { session = x; next = i; end = at }) t st l o
  stopped f =
      subst (λ (k : Turn). Played k o₀ (record { session = x; next = i; end = at }) t st l o) (ap (after (take at o)) (sym f) ∙ e)
      (record {
        session = refl;
        next = refl;
        table = refl;
        store = refl;
        buffer = refl;
        written = as-text o₀ 0 (take at o) (take at o ++ []) at o (sym (append-nil (take at o))) w;
        handed = sym (append-nil (take at o));
      })

  pub ended : length s ≤ i → Played whole o₀ (record { session = x; next = i; end = at }) t st l o
  ended h = stopped (play-none x t st l (drop i s) i (length o - at) (length (drop i s)) (let d = length-drop i s in omega arith))

  pub filled : length o - at < line_bytes → Played whole o₀ (record { session = x; next = i; end = at }) t st l o
  filled h = stopped (play-full x t st l (drop i s) i (length o - at) (length (drop i s)) h)
