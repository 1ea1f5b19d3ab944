-- Ways through replay's loop: none, one more playing, one more piece.
use Rattle.std.proofs.Common.{◌≡◌, ℕ, ◌+◌, ◌-◌, ◌%◌, ◌^◌, ◌<◌, ◌≤◌, true, false, Result, Ok, Err, IsErr, OnOk, List, [], ◌++◌, length, take, drop, sym, refl, ◌∙◌, true≢false, append_assoc, append-nil, arith, length-append, length-take-le}
use Rattle.std.specs.Bool.{⊤}
use Rattle.std.specs.Counts.{IsPrefixLen}
use Rattle.std.proofs.lemmas.Result.{IfOk-from_err, on_ok_weaker}
use lib.Seq.{length-sets}
use Rattle.output.specs.Wrote.{Wrote}
use Rattle.text.specs.Room.{line_bytes}
use Rattle.laws.proofs.Tests.{split}
use Rattle.session.specs.declared.Stepped.{Stepped}
use Rattle.session.specs.Turn.{new_session, blank_table, finish_text, Written}
use Rattle.session.specs.Play.{play, Played}
use Rattle.session.proofs.Whole.{HandedOn, played, read as reads_on, stopped, finished}
use Rattle.session.proofs.Playing.{play-nearer}
use Rattle.player.specs.declared.Failed.{Failed}
use Rattle.player.specs.declared.Player.{Player}
use Rattle.player.specs.Went.{Fresh, counted, Way, Pieced, Went, report_of, Replayed}

-- what holds anyhow holds after a success
pub whatever : {P : Type 0} (r : Result ⊤ Failed) → P → OnOk r P
whatever (Ok done) h = h
whatever (Err failed) h = tt

-- what is written ends within the buffer
within : (o : List ℕ) (at : ℕ) (s : List ℕ) (r : ℕ) (o' : List ℕ) → Wrote o at s r o' → at ≤ length o → r ≤ length o'
within o at s r o' w m = rw (w.left, length-sets o at s) (omega (arith, w.next))

no_way : (p : Player) (s : List ℕ) (i : ℕ) → Way p s i p s i []
no_way p s i = record { text = []; counted = omega arith; leads = λ ys more h. h }

-- one way after another: what is read on the second is read then
onward : {p p' p'' : Player} {s s' s'' : List ℕ} {i i' i'' : ℕ} {read read' : List ℕ} → Way p s i p' s' i' read → Way p' s' i' p'' s'' i'' read'
    → Way p s i p'' s'' i'' (read ++ read')
onward {read = first} {read' = second} a b = record {
  text = a.text ++ b.text;
  counted = omega (arith, a.counted, b.counted, length-append a.text b.text);
  leads = λ ys more h. rw (append_assoc a.text b.text more, append_assoc first second ys)
      (a.leads (second ++ ys) (b.text ++ more) (b.leads ys more h));
}

-- a piece is used up
used : {p : Player} {s : List ℕ} {i : ℕ} {p' : Player} {s' : List ℕ} {i' : ℕ} {input : List ℕ} → Way p s i p' s' i' input → length s' ≤ i'
    → Way p s i p' [] 0 input
used {p' = p'} {s' = s'} {i' = i'} a e = record {
  text = a.text;
  counted = a.counted;
  leads = λ ys more h. a.leads ys more (reads_on p'.session p'.table p'.store p'.buf s' i' [] ys more e h);
}

-- ---- a piece

pub no-piece : (p : Player) (n : ℕ) → Pieced p n 0 p
no-piece p n = record { way = no_way p (take n p.input) 0; same-piece = refl; none_read = refl; not-ended = refl }

-- one more playing, and its text handed on
pub played-on : {p p' : Player} {n place : ℕ} {r : Stepped} {t st l o : List ℕ} {p'' : Player} → Pieced p n place p'
    → Played (play p'.session p'.table p'.store p'.buf (drop place (take n p'.input)) place (length p'.out)) p'.out r t st l o
    → p'' ≡ counted (record p' { session = r.session; table = t; store = st; buf = l; out = o }) r.end → Pieced p n r.next p''
played-on {p} {p'} {n} {place} {r} {t} {st} {l} {o} a h e = rw e (record {
  way = onward a.way (record {
    text = take r.end o;
    counted = omega (arith, length-take-le r.end o (within p'.out 0 _ r.end o h.written (omega arith)));
    leads = λ ys more f. played p'.session p'.table p'.store p'.buf (take n p.input) place ys p'.out r t st l o more (rw a.same-piece at h) f;
  });
  same-piece = a.same-piece;
  none_read = a.none_read;
  not-ended = a.not-ended;
})

-- each playing takes a byte or more of a piece that has n, with room for a line
pub nearer : (p : Player) (n i : ℕ) (r : Stepped) (t st l o : List ℕ) → n ≤ length p.input → i < n → line_bytes ≤ length p.out
    → Played (play p.session p.table p.store p.buf (drop i (take n p.input)) i (length p.out)) p.out r t st l o → n - r.next < n - i
nearer p n i r t st l o fits more room h =
    let whole = length-take-le n p.input fits in
    let near = play-nearer p.session p.table p.store p.buf (take n p.input) i (length p.out) r.next (omega arith) room h.next in
    omega arith

-- ---- what a turn comes to

-- the read failed
pub went-none : (p : Player) (r : Result ⊤ Failed) (x : List ℕ) → p.ended ≡ false → Went p r (record p { input = x })
went-none p r x e = record {
  input = [];
  read-counted = omega arith;
  piece = [];
  place = 0;
  way = λ z. record { text = []; counted = omega arith; leads = λ ys more h. h };
  used-up = whatever r (omega arith);
  last = λ z. absurd (true≢false (sym z ∙ e));
}

-- the input has ended
pub went-last : (p : Player) (r : Result ⊤ Failed) (x o : List ℕ) (end : ℕ) (p' : Player) → line_bytes ≤ length p.out
    → Written p.out 0 (finish_text p.session) end o → p' ≡ counted (record p { input = x; out = o; ended = true }) end → Went p r p'
went-last p r x o end p' room w e = rw e (record {
  input = [];
  read-counted = omega arith;
  piece = [];
  place = 0;
  way = λ z. absurd (true≢false z);
  used-up = whatever r (omega arith);
  last = λ z. (
    take end o,
    omega (arith, length-take-le end o (within p.out 0 _ end o w.text (omega arith))),
    finished p.session p.table p.store p.buf [] 0 p.out end o (omega arith) room w,
  );
})

-- a piece came, and was played
pub went-piece : (p : Player) (r : Result ⊤ Failed) (x : List ℕ) (n : ℕ) (p' : Player) → p.ended ≡ false → IsPrefixLen n x
    → (place : ℕ) × Pieced (record p { input = x; read = (p.read + n) % 2 ^ 64 }) n place p' × OnOk r (n ≤ place) → Went p r p'
went-piece p r x n p' e came (place, a, done) = record {
  input = take n x;
  read-counted = omega (arith, a.none_read, length-take-le n x came.0);
  piece = take n x;
  place = place;
  way = λ z. record {
    text = a.way.text;
    counted = a.way.counted;
    leads = λ ys more h. reads_on p.session p.table p.store p.buf [] 0 (take n x) ys (a.way.text ++ more) (omega arith) (a.way.leads ys more h);
  };
  used-up = on_ok_weaker r (λ h. omega (arith, length-take-le n x came.0)) done;
  last = λ z. absurd (true≢false (sym z ∙ (a.not-ended ∙ e)));
}

-- a failure is handed on as it is
pub failed : {p : Player} {r : Result ⊤ Failed} {p' : Player} → Went p r p' → (r' : Result ⊤ Failed) → IsErr r' → Went p r' p'
failed a r' h = record {
  input = a.input;
  read-counted = a.read-counted;
  piece = a.piece;
  place = a.place;
  way = a.way;
  used-up = IfOk-from_err r' _ h;
  last = a.last;
}

-- ---- turn after turn

pub nothing_yet : (p : Player) → p.ended ≡ false → Went p (Ok tt) p
nothing_yet p e = went-none p (Ok tt) p.input e

pub one_more : {p p' : Player} {r : Result ⊤ Failed} {p'' : Player} → Went p (Ok tt) p' → p'.ended ≡ false → Went p' r p'' → Went p r p''
one_more {p} {p'} {r} {p''} a e b =
    let before : Way p [] 0 p' [] 0 a.input = used (a.way e) a.used-up in record {
      input = a.input ++ b.input;
      read-counted = omega (arith, a.read-counted, b.read-counted, length-append a.input b.input);
      piece = b.piece;
      place = b.place;
      way = λ z. onward before (b.way z);
      used-up = b.used-up;
      last = λ z. let f = b.last z in (
        before.text ++ f.0,
        omega (arith, before.counted, f.1, length-append before.text f.0),
        before.leads b.input f.0 f.2,
      );
    }

-- ---- a replay

pub replayed : {p : Player} {r : Result ⊤ Failed} {p' : Player} → Fresh p → Went p r p' → Replayed (report_of p')
replayed {p} {r} {p'} s w =
    let from_start : (ys text : List ℕ) → HandedOn p.session p.table p.store p.buf [] 0 ys text
    → HandedOn new_session (blank_table s.table) p.store p.buf [] 0 ys text
    = λ ys text h. rw (s.session, s.blank) at h in
    split _ p'.ended
    (λ f. let z = w.last f in record {
      table = s.table;
      store = p.store;
      buffer = p.buf;
      lent = s.lent;
      input = w.input;
      text = z.0;
      read-counted = omega (arith, s.read, w.read-counted);
      counted = omega (arith, s.handed, z.1);
      ended = λ g. from_start _ _ z.2;
      over = λ g o ys. absurd (true≢false (sym f ∙ g));
    })
    (λ f. let z = w.way f in record {
      table = s.table;
      store = p.store;
      buffer = p.buf;
      lent = s.lent;
      input = w.input;
      text = z.text;
      read-counted = omega (arith, s.read, w.read-counted);
      counted = omega (arith, s.handed, z.counted);
      ended = λ g. absurd (true≢false (sym g ∙ f));
      over = λ g o ys. from_start _ _ (rw append-nil at (z.leads ys [] (stopped p'.session p'.table p'.store p'.buf w.piece w.place ys o)));
    })
