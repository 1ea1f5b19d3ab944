-- Ways through logcheck's loop: none, one after another, and what each turn comes to.
use Rattle.std.proofs.Common.{◌≡◌, ℕ, ◌<◌, ◌≤◌, true, false, ◌||◌, not, Option, None, Some, List, [], ◌++◌, length, drop, inl, inr, refl, sym, ap, ◌∙◌, subst, true≢false, append_assoc, length-take, length-take-le, arith}
use Rattle.laws.proofs.Tests.{failed, refuted, cond-false, or_left, or-by-right}
use Rattle.text.specs.Room.{line_bytes}
use Rattle.checker.specs.declared.Check.{Check}
use Rattle.checker.specs.declared.Checked.{Checked}
use Rattle.checker.specs.declared.Finding.{Finding}
use Rattle.checker.specs.Check.{waits, wants_input, fed, Feeds, last_check, last_output, agreed, met}
use Rattle.checker.proofs.Whole.{went_on, ended-input, matched, read-input, read-recorded, stopped, ended-recorded}
use Rattle.logcheck.specs.declared.piece.Piece.{Piece}
use Rattle.logcheck.specs.declared.Log.{Log}
use Rattle.logcheck.specs.Sought.{bytes_of, Unread, told, Finds, Way, Came, Went, Fresh, Sought}

pub no_way : (p : Log) → Way p p
no_way p = record { input = []; recorded = []; leads = λ ys zs f g. g }

-- one way after another: what is read on the second is read then
pub onward : {p p' p'' : Log} → Way p p' → Way p' p'' → Way p p''
onward a b = record {
  input = a.input ++ b.input;
  recorded = a.recorded ++ b.recorded;
  leads = λ ys zs f g. rw (append_assoc a.input b.input ys, append_assoc a.recorded b.recorded zs)
      (a.leads (b.input ++ ys) (b.recorded ++ zs) f (b.leads ys zs f g));
}

-- ---- what a turn comes to

-- it goes some way
goes_on : {p p' : Log} (w : Way p p') → Came w.input p'.input → Came w.recorded p'.recorded → Went p None p'
goes_on w a b = record { way = λ _. (w, a, b); found = λ f e. absurd cc }

-- something is found
finds : {p p' : Log} {f : Finding} → ((ys zs : List ℕ) → Unread p'.input.ended ys → Unread p'.recorded.ended zs → Finds p ys zs f) → Went p (Some f) p'
finds {p} {f = f} g = record {
  way = λ e. absurd cc;
  found = λ h e ys zs left none. let same : f ≡ h = cc in subst (Finds p ys zs) same (g ys zs left none);
}

-- a piece is used up
used-up : (a : Piece) → a.end ≤ a.next → length (bytes_of a) ≤ a.next
used-up a u = omega (arith, length-take a.end a.bytes)

-- a piece is as long as it says
whole : (a : Piece) → length (bytes_of a) ≡ a.end
whole a = length-take-le a.end a.bytes a.within

-- ---- on with the input: the check wants some, so it has not ended
module _ (p : Log) (wants : wants_input p.check ≡ true) where
  more-may-come : waits p.check || p.check.session.over ≡ false
  more-may-come = failed (waits p.check || p.check.session.over) wants

  anything : (ys : List ℕ) → Unread p.input.ended ys
  anything ys e = absurd (true≢false (sym (or-by-right (waits p.check) p.check.session.over (p.closed e)) ∙ more-may-come))

  last-over : (last_check p.check p.out).session.over ≡ true
  unfolding last_check
  last-over = ap (λ (z : Check). z.session.over) (cond-false (waits p.check) _ _ (or_left (waits p.check) p.check.session.over more-may-come))

  -- after the last text nothing more of it is wanted
  pub closed-last : (a : Piece) (y : Check) (o : List ℕ) → (y ≡ last_check p.check p.out) × (o ≡ last_output p.check p.out)
      → a.ended ≡ true → y.session.over ≡ true
  closed-last a y o last e = ap (λ (z : Check). z.session.over) last.0 ∙ last-over

  -- the piece is gone on with
  pub went-fed : (q : Checked) (t st l o : List ℕ) (w : p.input.end ≤ length p.input.bytes) (n : p.input.ended ≡ true → p.input.end ≡ 0)
      (h : p.input.ended ≡ true → q.check.session.over ≡ true) → line_bytes ≤ length p.out
      → Feeds (fed p.check p.table p.store p.buf p.out (drop p.input.next (bytes_of p.input)) p.input.next) q t st l o
      → Went p None (record p {
        check = q.check;
        table = t;
        store = st;
        buf = l;
        out = o;
        input = record p.input { next = q.next; within = w; none_left = n };
        closed = h;
      })
  went-fed q t st l o w n h room feeds = goes_on (record {
    input = [];
    recorded = [];
    leads = λ ys zs f g. (
      anything ys,
      went_on p.check p.table p.store p.buf p.out (bytes_of p.input) p.input.next ys (bytes_of p.recorded) p.recorded.next zs q t st l o f room feeds g.1,
    );
  }) (inl refl) (inl refl)

  -- it has ended
  pub went-last : (a : Piece) (y : Check) (o : List ℕ) (h : a.ended ≡ true → y.session.over ≡ true) → line_bytes ≤ length p.out → p.input.end ≤ p.input.next
      → a.next ≡ 0 → a.ended ≡ true → (y ≡ last_check p.check p.out) × (o ≡ last_output p.check p.out)
      → Went p None (record p { check = y; out = o; input = a; closed = h })
  went-last a y o h room u first ended last =
      goes_on (record {
        input = [];
        recorded = [];
        leads = λ ys zs f g.
            let none : ys ≡ [] = g.0 ended in
            let used = used-up p.input u in
            let at-end = rw (a.none_left ended, first, none) at g.1 in (
              anything ys,
              rw none (read-input p.check p.table p.store p.buf p.out (bytes_of p.input) p.input.next [] [] (bytes_of p.recorded) p.recorded.next zs f used
                  (ended-input p.check p.table p.store p.buf p.out [] 0 (bytes_of p.recorded) p.recorded.next zs y o f (omega arith) room last at-end)),
            );
      }) (inl refl) (inl refl)

  -- another piece came
  pub went-input : (a : Piece) (h : a.ended ≡ true → p.check.session.over ≡ true) → p.input.end ≤ p.input.next → a.next ≡ 0
      → Went p None (record p { input = a; closed = h })
  went-input a h u first = goes_on (record {
    input = bytes_of a;
    recorded = [];
    leads = λ ys zs f g. (
      anything (bytes_of a ++ ys),
      read-input p.check p.table p.store p.buf p.out (bytes_of p.input) p.input.next (bytes_of a) ys (bytes_of p.recorded) p.recorded.next zs f
          (used-up p.input u) (rw first at g.1),
    );
  }) (inr refl) (inl refl)

-- ---- on with what is recorded
module _ (p : Log) where
  -- all of the piece agrees, or all that waits
  pub went-met : (q : Checked) (w : p.recorded.end ≤ length p.recorded.bytes) (n : p.recorded.ended ≡ true → p.recorded.end ≡ 0)
      (h : p.input.ended ≡ true → q.check.session.over ≡ true)
      → q ≡ met p.check (agreed p.check p.out (bytes_of p.recorded) p.recorded.next)
      → Went p None (record p { check = q.check; recorded = record p.recorded { next = q.next; within = w; none_left = n }; closed = h })
  went-met q w n h m = goes_on (record {
    input = [];
    recorded = [];
    leads = λ ys zs f g. (
      g.0,
      matched p.check p.table p.store p.buf p.out (bytes_of p.input) p.input.next ys (bytes_of p.recorded) p.recorded.next zs q f m g.1,
    );
  }) (inl refl) (inl refl)

  -- recorded bytes are left that do not agree
  pub went-wrong : (q : Checked) (w : p.recorded.end ≤ length p.recorded.bytes) (n : p.recorded.ended ≡ true → p.recorded.end ≡ 0)
      (h : p.input.ended ≡ true → q.check.session.over ≡ true) (f : Finding)
      → q ≡ met p.check (agreed p.check p.out (bytes_of p.recorded) p.recorded.next) → wants_input q.check ≡ false → q.next < p.recorded.end
      → let p' : Log = record p { check = q.check; recorded = record p.recorded { next = q.next; within = w; none_left = n }; closed = h } in
      f ≡ told p' → Went p (Some f) p'
  went-wrong q w n h f m wants u e =
      let more : not p.recorded.ended ≡ true = ap not (refuted p.recorded.ended (λ z. omega (arith, p.recorded.none_left z))) in
      finds (λ ys zs left none. (
        left,
        stopped p.check p.table p.store p.buf p.out (bytes_of p.input) p.input.next ys (bytes_of p.recorded) p.recorded.next zs q f m wants
            (omega (arith, whole p.recorded)) (rw more at e),
      ))

  -- it has ended
  pub went-out : (a : Piece) (h : p.input.ended ≡ true → p.check.session.over ≡ true) (f : Finding) → p.recorded.end ≤ p.recorded.next → a.ended ≡ true
      → wants_input p.check ≡ false → let p' : Log = record p { recorded = a; closed = h } in f ≡ told p' → Went p (Some f) p'
  went-out a h f u ended wants e = finds (λ ys zs left none. (
    left,
    rw (none ended) (ended-recorded p.check p.table p.store p.buf p.out (bytes_of p.input) p.input.next ys (bytes_of p.recorded) p.recorded.next f wants
        (used-up p.recorded u) (rw ended at e)),
  ))

  -- another piece came
  pub went-recorded : (a : Piece) (h : p.input.ended ≡ true → p.check.session.over ≡ true) → p.recorded.end ≤ p.recorded.next → a.next ≡ 0
      → Went p None (record p { recorded = a; closed = h })
  went-recorded a h u first = goes_on (record {
    input = [];
    recorded = bytes_of a;
    leads = λ ys zs f g. (
      g.0,
      read-recorded p.check p.table p.store p.buf p.out (bytes_of p.input) p.input.next ys (bytes_of p.recorded) p.recorded.next (bytes_of a) zs f
          (used-up p.recorded u) (rw first at g.1),
    );
  }) (inl refl) (inr refl)

-- ---- a whole check: the last turn of it
pub sought : {p p' : Log} {r : Option Finding} {p'' : Log} → Fresh p → Way p p' → Went p' r p'' → Sought p r p''
sought {p} s w a = record {
  fresh = s;
  input = w.input;
  recorded = w.recorded;
  found = λ f e ys zs left none.
      let there = (w.leads ys zs f (a.found f e ys zs left none)).1 in
      rw (s.check, s.blank, s.input.0, s.input.1, s.recorded.0, s.recorded.1) at there;
}
