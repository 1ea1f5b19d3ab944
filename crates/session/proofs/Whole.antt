-- The whole: whatever pieces an input comes in, what a session hands out for it is the listing that the rules give.
use Rattle.std.proofs.Common.{◌≡◌, ℕ, zero, suc, ◌+◌, ◌-◌, ◌^◌, ◌<◌, ◌≤◌, true, false, List, [], ◌∷◌, ◌++◌, length, take, drop, sym, refl, ap, ◌∙◌, subst, append_assoc, arith, length-set, drop_of_length-le, get_or-set_same}
use native.Mathlib.Decide.{dec_lt}
use Rattle.rules.specs.Replay.{header_numbers, max_buffer, listing}
use Rattle.numerals.proofs.Read.{small-start}
use Rattle.script.proofs.Meaning.{Roomy}
use Rattle.output.proofs.Laws.{fits}
use Rattle.text.specs.Room.{line_bytes}
use Rattle.session.specs.declared.Session.{Session}
use Rattle.session.specs.declared.Stepped.{Stepped}
use Rattle.session.specs.Turn.{new_session, blank_table, finish_text, Turn, turn, Written, Turned}
use Rattle.session.specs.Play.{play_in, play, Played}
use Rattle.session.proofs.Ready.{most_replay_words, most_replay_bytes}
use Rattle.session.proofs.Due.{Fine, to_come, Hands, over_nothing, turn-hands, turn-taken, turn-rest, finish-hands, start-hands}
use Rattle.session.proofs.Ways.{stands}
use Rattle.session.proofs.Playing.{play-none, play-full, play-one, play-rest}

-- A session x, with the lent table t, store st and buffer l, is driven over what is left of an input, and hands out a text. At each step it is given some piece s of
-- what is left, of any length (i is the place where the piece stands in what the driver holds of the input). Where nothing is left it is asked for its last text. One
-- that is over need not be driven on.
pub data Driven : Session → List ℕ → List ℕ → List ℕ → List ℕ → List ℕ → Type 0 where
  step : (x : Session) (t st l s ys : List ℕ) (i : ℕ) (text : List ℕ)
      → Driven (turn x t st l s i).session (turn x t st l s i).table (turn x t st l s i).store (turn x t st l s i).buffer ((turn x t st l s i).rest ++ ys) text
      → Driven x t st l (s ++ ys) ((turn x t st l s i).text ++ text)
  over : (x : Session) (t st l input : List ℕ) → x.over ≡ true → Driven x t st l input []
  finish : (x : Session) (t st l : List ℕ) → Driven x t st l [] (finish_text x)

-- what is handed out is what is to come
driven : {x : Session} {t st l input text : List ℕ} → Driven x t st l input text → (x.over ≡ false → Fine x t st l input) → text ≡ to_come x t st l input
driven (step x t st l s ys i text d) f =
    let k : Turn = turn x t st l s i in
    let h : Hands x t st l s ys k = turn-hands x t st l s ys i f in
    ap (λ (z : List ℕ). k.text ++ z) (driven d h.fine) ∙ sym h.text
driven (over x t st l input e) f = sym (over_nothing x t st l input e)
driven (finish x t st l) f = sym (finish-hands x t st l)

-- ---- playing a piece is steps

-- what k comes to leads on
abbrev Leads : Session → List ℕ → List ℕ → List ℕ → List ℕ → List ℕ → Turn → Type 0
Leads x t st l s ys k = (text : List ℕ) → Driven k.session k.table k.store k.buffer (k.rest ++ ys) text → Driven x t st l (s ++ ys) (k.text ++ text)

play-leads : (n : ℕ) (x : Session) (t st l s ys : List ℕ) (i room : ℕ) → Leads x t st l s ys (play_in n x t st l s i room)
play-leads zero x t st l s ys i room = unfold play_in in λ text d. d
play-leads (suc n) x t st l s ys i room = elim (dec_lt 0 (length s)) [
  | yes p ↦ elim (dec_lt room line_bytes) [
    | yes h ↦ subst (Leads x t st l s ys) (sym (play-full x t st l s i room (suc n) h)) (λ text d. d)
    | no h ↦
        let k : Turn = turn x t st l s i in
        let q : Turn = play_in n k.session k.table k.store k.buffer k.rest k.next (room - length k.text) in
        subst (Leads x t st l s ys) (sym (play-one x t st l s i room n p (omega arith)))
        (λ text d. subst (Driven x t st l (s ++ ys)) (sym (append_assoc k.text q.text text))
        (step x t st l s ys i (q.text ++ text) (play-leads n k.session k.table k.store k.buffer k.rest ys k.next (room - length k.text) text d)))
  ]
  | no p ↦ subst (Leads x t st l s ys) (sym (play-none x t st l s i room (suc n) (omega arith))) (λ text d. d)
]

-- room for the largest table, store and buffer that replay takes; what stands there does not matter
pub record Lent (t st l : List ℕ) : Type 0 where
  pub table : most_replay_words ≤ length t
  pub store : most_replay_bytes ≤ length st
  pub buffer : max_buffer ≤ length l

blank : (t : List ℕ) → most_replay_words ≤ length t → Roomy (blank_table t)
blank t h =
    record { room = rw (length-set t header_numbers 0) (omega arith); zero7 = get_or-set_same t header_numbers 0 0 (omega arith) }

-- a new session can come up. (The calls are counted in 64 bits: an input is shorter than 2^64 bytes.)
pub fine-start : (t st l input : List ℕ) → Lent t st l → length input < 2 ^ 64 → Fine new_session (blank_table t) st l input
fine-start t st l input m n = record {
  good = record { small = small-start; within = omega arith; six = refl; buffer = m.buffer; here = (refl, blank t m.table) };
  long = rw (length-set t header_numbers 0) m.table;
  wide = m.store;
  count = omega arith;
  words = λ c. omega arith;
  bytes = λ c. omega arith;
}

pub whole : (t st l input text : List ℕ) → Lent t st l → length input < 2 ^ 64 → Driven new_session (blank_table t) st l input text → text ≡ listing input
whole t st l input text m n d = driven d (λ e. fine-start t st l input m n) ∙ start-hands (blank_table t) st l input

-- ---- what the code hands out

-- A driver of the code is at place i of a piece s of the input; ys is what it has not read. It lends one table, store and buffer all through, and each time some output
-- with room for a line. All that is said of `start`, `step`, `play` and `finish` here is what they ensure. The last list is the text: what stands in the outputs.
pub data HandedOn : Session → List ℕ → List ℕ → List ℕ → List ℕ → ℕ → List ℕ → List ℕ → Type 0 where
  stepped : (x : Session) (t st l s : List ℕ) (i : ℕ) (ys o : List ℕ) (at : ℕ) (r : Stepped) (t' st' l' o' text : List ℕ) → at + line_bytes ≤ length o
      → Turned (turn x t st l (drop i s) i) o at r t' st' l' o'
      → HandedOn r.session t' st' l' s r.next ys text
      → HandedOn x t st l s i ys (drop at (take r.end o') ++ text)
  played : (x : Session) (t st l s : List ℕ) (i : ℕ) (ys o : List ℕ) (r : Stepped) (t' st' l' o' text : List ℕ)
      → Played (play x t st l (drop i s) i (length o)) o r t' st' l' o'
      → HandedOn r.session t' st' l' s r.next ys text
      → HandedOn x t st l s i ys (take r.end o' ++ text)
  -- the piece is used up: some more is read
  read : (x : Session) (t st l s : List ℕ) (i : ℕ) (s' ys text : List ℕ) → length s ≤ i → HandedOn x t st l s' 0 ys text → HandedOn x t st l s i (s' ++ ys) text
  stopped : (x : Session) (t st l s : List ℕ) (i : ℕ) (ys : List ℕ) → x.over ≡ true → HandedOn x t st l s i ys []
  -- nothing more is to be read
  finished : (x : Session) (t st l s : List ℕ) (i : ℕ) (o : List ℕ) (r : ℕ) (o' : List ℕ) → length s ≤ i → line_bytes ≤ length o → Written o 0 (finish_text x) r o'
      → HandedOn x t st l s i [] (take r o')

-- so the session is driven
goes-as : (s ys text : List ℕ) (k : Turn) (r : Stepped) (t' st' l' : List ℕ) → r.session ≡ k.session → t' ≡ k.table → st' ≡ k.store → l' ≡ k.buffer
    → k.rest ≡ drop r.next s
    → Driven r.session t' st' l' (drop r.next s ++ ys) text → Driven k.session k.table k.store k.buffer (k.rest ++ ys) text
goes-as s ys text k r t' st' l' e₁ e₂ e₃ e₄ e₅ d = rw (← e₁, ← e₂, ← e₃, ← e₄, e₅) d

handed : {x : Session} {t st l s : List ℕ} {i : ℕ} {ys text : List ℕ} → HandedOn x t st l s i ys text → Driven x t st l (drop i s ++ ys) text
handed (stepped x t st l s i ys o at r t' st' l' o' text m p h) =
    let k : Turn = turn x t st l (drop i s) i in
    subst (λ (z : List ℕ). Driven x t st l (drop i s ++ ys) (z ++ text)) (sym (stands o at k.text r.end o' m p.written))
    (step x t st l (drop i s) ys i text
    (goes-as s ys text k r t' st' l' p.session p.table p.store p.buffer (turn-rest x t st l s i ∙ ap (λ (n : ℕ). drop n s) (sym p.next)) (handed h)))
handed (played x t st l s i ys o r t' st' l' o' text p h) =
    let k : Turn = play x t st l (drop i s) i (length o) in
    subst (λ (z : List ℕ). Driven x t st l (drop i s ++ ys) (z ++ text)) (sym p.handed)
    (play-leads (length (drop i s)) x t st l (drop i s) ys i (length o) text
    (goes-as s ys text k r t' st' l' p.session p.table p.store p.buffer
    (play-rest (length (drop i s)) x t st l s i (length o) ∙ ap (λ (n : ℕ). drop n s) (sym p.next)) (handed h)))
handed (read x t st l s i s' ys text m h) = rw (drop_of_length-le s m) (handed h)
handed (stopped x t st l s i ys e) = over x t st l (drop i s ++ ys) e
handed (finished x t st l s i o r o' m n w) =
    subst (Driven x t st l (drop i s ++ [])) (sym (fits o (finish_text x) r o' w.text (let z = w.short in omega arith)).1)
    (rw (drop_of_length-le s m) (finish x t st l))

-- THE WHOLE: whatever pieces an input comes in, what the code hands out for it is its listing
pub handed_out : (t st l : List ℕ) → Lent t st l → (x : Session) (t' : List ℕ) → (x ≡ new_session) × (t' ≡ blank_table t)
    → (input text : List ℕ) → length input < 2 ^ 64 → HandedOn x t' st l [] 0 input text → text ≡ listing input
handed_out t st l m x t' e input text n h =
    whole t st l input text m n (subst (λ (z : List ℕ). Driven new_session z st l input text) e.1 (subst (λ (z : Session). Driven z t' st l input text) e.0 (handed h)))

-- ---- and any cutting can be driven
pub pieces : List (List ℕ) → List ℕ
pieces [] = []
pieces (s ∷ ss) = s ++ pieces ss

-- what is left can be driven, whatever the session
abbrev pub Drives : List ℕ → Type 0
Drives s = (x : Session) (t st l : List ℕ) → (text : List ℕ) × Driven x t st l s text

-- one step into a piece, where any shorter one can be driven
into : (n : ℕ) (ys : List ℕ) → ((s : List ℕ) → length s ≤ n → Drives (s ++ ys)) → Drives ys → (s : List ℕ) → length s ≤ suc n → Drives (s ++ ys)
into n ys less on [] h x t st l = on x t st l
into n ys less on (b ∷ s) h x t st l =
    let k : Turn = turn x t st l (b ∷ s) 0 in
    let d = less k.rest (let z = turn-taken x t st l b s 0 in omega arith) k.session k.table k.store k.buffer in
    (k.text ++ d.0, step x t st l (b ∷ s) ys 0 d.0 d.1)

-- through a piece, and then on
through : (n : ℕ) (ys : List ℕ) → Drives ys → (s : List ℕ) → length s ≤ n → Drives (s ++ ys)
through zero ys on [] h = on
through zero ys on (b ∷ s) h = absurd (omega arith)
through (suc n) ys on s h = into n ys (through n ys on) on s h

pub drives : (ss : List (List ℕ)) → Drives (pieces ss)
unfolding pieces
drives [] x t st l = (finish_text x, finish x t st l)
drives (s ∷ ss) x t st l = through (length s) (pieces ss) (drives ss) s (omega arith) x t st l
