-- "Image then reload gives equal table and store; an accepted image, written again, gives equal bytes." The length told is the length
-- written, and refusals change nothing. Of every table and store, well formed or not, and of every image.
use mathlib.Core.Path.{◌≡◌, refl, sym, ap, ◌∙◌}
use mathlib.Core.List.{List, [], ◌∷◌, ◌++◌, append_assoc, append-nil}
use Prim.Native.Nat.{ℕ, zero, suc, ◌+◌, ◌^◌, ◌<◌, ◌≤◌}
use native.Mathlib.Omega.{arith}
use lib.Dec.{ltb}
use lib.ListN.{length, get_or, take, drop, length-append}
use lib.Seq.{append_snoc, get_or-append-add, take_at, drop_at}
use borrow.Author.Tests.{eq-eqb, ne_eqb, le-ltb, ltb-false}
use Rattle.rules.specs.Claim.{Holds, test}
use Rattle.rules.specs.Layout.{configuration, table_words, store_bytes}
use Rattle.rules.specs.WellFormed.{lengths_exact, well_formed}
use Rattle.rules.specs.Errors.{XOK, XbTab, XbParam, XbSz}
use Rattle.rules.specs.Replay.{encoded, Taken, took, bad, number, numbers_from, numbers}
use Rattle.rules.specs.Image.{word_bytes, image_of, image_length, image_answer, image_out, read_back, reload_answer, reload_table, reload_store}
use Rattle.rules.specs.Step.{State, Call, step, run}
use Rattle.laws.proofs.Tests.{split, refuted, cond-true, cond-false}
use Rattle.laws.proofs.Claims.{holds, tested}
use Rattle.laws.proofs.Images.{next-number, no_number, not_taken, held-where, held, Reloaded, reloaded-by, refused-by, by-reading}
use Rattle.kept.proofs.Kept.{Well, run-kept, run-conf-kept}
use Rattle.numerals.proofs.Round.{reads-back, was-written}

-- words of 32 bits, and bytes: what lent slices have
abbrev pub AreWords : List ℕ → Type 0
AreWords t = (i : ℕ) → i < length t → get_or t i 0 < 2 ^ 32

abbrev pub AreBytes : List ℕ → Type 0
AreBytes s = (i : ℕ) → i < length s → get_or s i 0 < 256

-- ---- the words of an image, read back

words_tail : (v : ℕ) (t : List ℕ) → AreWords (v ∷ t) → AreWords t
words_tail v t w i l = w (suc i) (omega arith)

words-cons : (v : ℕ) (t : List ℕ) → v < 2 ^ 32 → AreWords t → AreWords (v ∷ t)
words-cons v t h w zero l = h
words-cons v t h w (suc i) l = w i (omega arith)

bytes_rest : (a r s : List ℕ) → s ≡ a ++ r → AreBytes s → AreBytes r
bytes_rest a r s e b i l =
    let f : length s ≡ length a + length r = ap length e ∙ length-append a r in
    let g : get_or s (length a + i) 0 ≡ get_or r i 0 = ap (λ (x : List ℕ). get_or x (length a + i) 0) e ∙ get_or-append-add a r i 0 in
    rw g at (b (length a + i) (omega arith))

-- numbers that stand at the front, as they are written
pub words_back : (t vs rest : List ℕ) → AreWords t → numbers_from vs (length t) (word_bytes t ++ rest) ≡ took (vs ++ t) rest
unfolding word_bytes numbers_from
words_back [] vs rest w = ap (λ (x : List ℕ). took x rest) (sym (append-nil vs))
words_back (v ∷ t) vs rest w =
    ap (numbers_from vs (suc (length t))) (append_assoc (encoded v) (word_bytes t) rest)
    ∙ next-number vs (length t) (encoded v ++ (word_bytes t ++ rest)) v (word_bytes t ++ rest) (reads-back v (word_bytes t ++ rest) (w 0 (omega arith)))
    ∙ words_back t (vs ++ (v ∷ [])) rest (words_tail v t w)
    ∙ ap (λ (x : List ℕ). took x rest) (append_snoc vs v t)

-- n words stood at the front of s, in no other form
pub record Stood (n : ℕ) (vs s ts rest : List ℕ) : Type 0 where
  pub words : List ℕ
  pub after : ts ≡ vs ++ words
  pub bytes : s ≡ word_bytes words ++ rest
  pub many : length words ≡ n
  pub small : AreWords words

stood-none : (vs s ts rest : List ℕ) → took vs s ≡ took ts rest → Stood 0 vs s ts rest
unfolding word_bytes
stood-none vs s ts rest e =
    let f : vs ≡ ts = cc in
    let g : s ≡ rest = cc in
    record { words = []; after = sym f ∙ sym (append-nil vs); bytes = g; many = refl; small = λ i l. absurd (omega arith) }

stood-one : (n v : ℕ) (vs s r ts rest : List ℕ) → s ≡ encoded v ++ r → v < 2 ^ 32 → Stood n (vs ++ (v ∷ [])) r ts rest → Stood (suc n) vs s ts rest
unfolding word_bytes
stood-one n v vs s r ts rest e l x =
    record {
      words = v ∷ x.words;
      after = x.after ∙ append_snoc vs v x.words;
      bytes = e ∙ ap (λ (y : List ℕ). encoded v ++ y) x.bytes ∙ sym (append_assoc (encoded v) (word_bytes x.words) rest);
      many = ap suc x.many;
      small = words-cons v x.words l x.small;
    }

-- the first of them, and those after it
stood-next : (n : ℕ) (vs s ts rest : List ℕ) → AreBytes s
    → ((v : ℕ) (r : List ℕ) → AreBytes r → numbers_from (vs ++ (v ∷ [])) n r ≡ took ts rest → Stood n (vs ++ (v ∷ [])) r ts rest)
    → (x : Taken ℕ) → number s ≡ x → numbers_from vs (suc n) s ≡ took ts rest → Stood (suc n) vs s ts rest
stood-next n vs s ts rest b again (took v r) e f =
    let w = was-written s v r b e in
    stood-one n v vs s r ts rest w.0 w.1 (again v r (bytes_rest (encoded v) r s w.0 b) (sym (next-number vs n s v r e) ∙ f))
stood-next n vs s ts rest b again bad e f = not_taken ts rest (sym (no_number vs n s e) ∙ f)

pub words-stood : (n : ℕ) (vs s ts rest : List ℕ) → AreBytes s → numbers_from vs n s ≡ took ts rest → Stood n vs s ts rest
unfolding numbers_from
words-stood zero vs s ts rest b e = stood-none vs s ts rest e
words-stood (suc n) vs s ts rest b e =
    stood-next n vs s ts rest b (λ v r c f. words-stood n (vs ++ (v ∷ [])) r ts rest c f) (number s) refl e

-- ---- the evening

module _ (t s : List ℕ) where
  -- "Give the exact length needed": of a well-formed table, the length of its image
  pub length-needed : Holds (well_formed t (length s)) → image_length t (length s) ≡ length (image_of t s)
  unfolding image_length image_of
  length-needed w = cond-true _ _ _ (tested (well_formed t (length s)) w) ∙ sym (length-append (word_bytes t) s)

  module _ (out : List ℕ) where
    -- what is known where it is written, and that nothing else is asked
    pub written-for : image_answer t s out ≡ XOK → Holds (well_formed t (length s)) × (length (image_of t s) ≤ length out)
    unfolding image_answer
    written-for e =
        split _ (test (well_formed t (length s)))
        (λ w. split _ (ltb (length out) (length (image_of t s)))
        (λ f. let z : XbSz ≡ XOK = rw (w, f) at e in absurd (omega arith))
        (λ f. (holds (well_formed t (length s)) w, ltb-false _ _ f)))
        (λ w. let z : XbTab ≡ XOK = rw w at e in absurd (omega arith))

    pub written-where : Holds (well_formed t (length s)) → length (image_of t s) ≤ length out → image_answer t s out ≡ XOK
    unfolding image_answer
    written-where w l = rw (tested (well_formed t (length s)) w, le-ltb (length out) (length (image_of t s)) l)

    -- what is then in the buffer
    pub written : image_answer t s out ≡ XOK → image_out t s out ≡ image_of t s ++ drop (length (image_of t s)) out
    unfolding image_out
    written e = cond-true _ _ _ (eq-eqb _ XOK e)

    -- "the length told is the length written": so many bytes of the buffer are the image, and "the rest stays"
    pub told-is-written : image_answer t s out ≡ XOK → let n : ℕ = image_length t (length s) in
        (take n (image_out t s out) ≡ image_of t s) × (drop n (image_out t s out) ≡ drop n out)
    told-is-written e =
        let n : image_length t (length s) ≡ length (image_of t s) = length-needed (written-for e).0 in
        rw (written e, n) (take_at (image_of t s) _ _ refl, drop_at (image_of t s) _ _ refl)

    -- "and the buffer stays as it was"
    pub image-refused : (image_answer t s out ≡ XOK → ⊥) → image_out t s out ≡ out
    unfolding image_out
    image-refused n = cond-false _ _ _ (ne_eqb _ XOK n)

-- and a bad one has length 0, as no other has (`no_length`)
pub no-length-bad : (t : List ℕ) (m : ℕ) → (Holds (well_formed t m) → ⊥) → image_length t m ≡ 0
unfolding image_length
no-length-bad t m n = cond-false _ _ _ (refuted (test (well_formed t m)) (λ e. n (holds (well_formed t m) e)))

-- ---- the morning

-- an image that is taken is that of the table and the store which are left, and these are well formed and as long as those before
pub record TakenIn (t s image t' s' : List ℕ) : Type 0 where
  pub well : Holds (well_formed t' (length s'))
  pub words-stay : length t' ≡ length t
  pub bytes-stay : length s' ≡ length s
  pub small : AreWords t'
  pub is-image : image ≡ image_of t' s'

module _ (t s image : List ℕ) where
  -- a refusal is 4, and "then touches nothing"
  pub reload-refused : (reload_answer t s image ≡ XOK → ⊥)
      → (reload_answer t s image ≡ XbParam) × (reload_table t s image ≡ t) × (reload_store t s image ≡ s)
  reload-refused n = by-reading t s image _ (λ t' s' e. absurd (n (reloaded-by t s image t' s' e).answered)) (refused-by t s image)

  taken-in-by : AreBytes image → (t' s' : List ℕ) → read_back (length t) (length s) image ≡ took t' s' → TakenIn t s image t' s'
  unfolding image_of
  taken-in-by b t' s' e =
      let h = held (length t) (length s) image t' s' e in
      let x = words-stood (length t) [] image t' s' b h.stands in
      record {
        well = rw h.rest h.well;
        words-stay = ap length x.after ∙ x.many;
        bytes-stay = h.rest;
        small = rw x.after x.small;
        is-image = rw x.after x.bytes;
      }

  pub reload-taken : AreBytes image → reload_answer t s image ≡ XOK → TakenIn t s image (reload_table t s image) (reload_store t s image)
  reload-taken b e =
      by-reading t s image _
      (λ t' s' f. let r = reloaded-by t s image t' s' f in rw (r.table, r.store) (taken-in-by b t' s' f))
      (λ f. let z : XbParam ≡ XOK = sym (refused-by t s image f).0 ∙ e in absurd (omega arith))

-- ---- both

-- the words and bytes of a well-formed table and store are read back, whatever follows them is not
module _ (t s t₀ s₀ : List ℕ) (words : AreWords t) (as_long : length t₀ ≡ length t) where
  reads-words : (rest : List ℕ) → numbers (length t₀) (word_bytes t ++ rest) ≡ took t rest
  reads-words rest = rw as_long (words_back t [] rest words)

  pub takes-image : length s₀ ≡ length s → Holds (well_formed t (length s)) → Reloaded t₀ s₀ (image_of t s) t s
  unfolding image_of
  takes-image e w =
      reloaded-by t₀ s₀ (image_of t s) t s
      (held-where (length t₀) (length s₀) (image_of t s) t s (record { stands = reads-words s; rest = sym e; well = rw e w }))

-- "Image then reload gives equal table and store": whatever stood in the lent table and store, if they are as long
pub image-then-reload : (t s out t₀ s₀ : List ℕ) → AreWords t → image_answer t s out ≡ XOK → length t₀ ≡ length t → length s₀ ≡ length s
    → Reloaded t₀ s₀ (take (image_length t (length s)) (image_out t s out)) t s
image-then-reload t s out t₀ s₀ w e a b = rw (told-is-written t s out e).0 (takes-image t s t₀ s₀ w a b (written-for t s out e).0)

-- "an accepted image, written again, gives equal bytes": as long, and the same
pub reload-then-image : (t s image out : List ℕ) → AreBytes image → reload_answer t s image ≡ XOK → length image ≤ length out
    → let t' : List ℕ = reload_table t s image in let s' : List ℕ = reload_store t s image in
    (image_length t' (length s') ≡ length image) × (image_answer t' s' out ≡ XOK) × (image_out t' s' out ≡ image ++ drop (length image) out)
reload-then-image t s image out b e l =
    let x = reload-taken t s image b e in
    let i : image_of (reload_table t s image) (reload_store t s image) ≡ image = sym x.is-image in
    let a : image_answer (reload_table t s image) (reload_store t s image) out ≡ XOK =
    written-where (reload_table t s image) (reload_store t s image) out x.well (rw i l) in (
      length-needed (reload_table t s image) (reload_store t s image) x.well ∙ ap length i,
      a,
      rw i at (written (reload_table t s image) (reload_store t s image) out a),
    )

-- "refuses .. any image that is cut, has bytes over": of two images, of which one is the other with bytes over, not both are taken
module _ (t s image more : List ℕ) (b : AreBytes image) (l : 1 ≤ length more) where
  longer-refused : (t' s' : List ℕ) → read_back (length t) (length s) image ≡ took t' s'
      → (t'' s'' : List ℕ) → read_back (length t) (length s) (image ++ more) ≡ took t'' s'' → ⊥
  longer-refused t' s' e t'' s'' f =
      let h = held (length t) (length s) image t' s' e in
      let g = held (length t) (length s) (image ++ more) t'' s'' f in
      let x = words-stood (length t) [] image t' s' b h.stands in
      let stands : numbers (length t) (image ++ more) ≡ took x.words (s' ++ more) =
      ap (λ (y : List ℕ). numbers (length t) (y ++ more)) x.bytes
      ∙ ap (numbers (length t)) (append_assoc (word_bytes x.words) s' more)
      ∙ reads-words x.words s' t s x.small (sym x.many) (s' ++ more) in
      let same : took t'' s'' ≡ took x.words (s' ++ more) = sym g.stands ∙ stands in
      let bytes : s'' ≡ s' ++ more = cc in
      omega (arith, h.rest, g.rest, ap length bytes, length-append s' more)

  pub not-both : reload_answer t s image ≡ XOK → reload_answer t s (image ++ more) ≡ XOK → ⊥
  not-both e f =
      let refused : XbParam ≡ XOK → ⊥ = λ z. omega arith in
      by-reading t s image _
      (λ t' s' x. by-reading t s (image ++ more) _ (longer-refused t' s' x) (λ y. refused (sym (refused-by t s (image ++ more) y).0 ∙ f)))
      (λ x. refused (sym (refused-by t s image x).0 ∙ e))

-- ---- "A reload is no call: it takes history back"

-- the state that is left where the image is taken
abbrev pub reloaded : State → List ℕ → State
reloaded s image = record { table = reload_table s.table s.store image; store = reload_store s.table s.store image }

-- calls leave table and store as long as they were
same-lengths : (s u : State) → Well s → Well u → configuration u.table ≡ configuration s.table
    → (length u.table ≡ length s.table) × (length u.store ≡ length s.store)
unfolding well_formed lengths_exact
same-lengths s u w v e =
    (v.1.0.0 ∙ ap table_words e ∙ sym w.1.0.0, v.1.0.1 ∙ ap store_bytes e ∙ sym w.1.0.1)

-- the image of an evening, reloaded after any calls: the evening's state is there again. So every call is answered as it would have been
-- then, a creating one with a seid that may have been handed out since. No run of calls has a reload in it: what is said of runs (Single,
-- Gone, demand 3) is said between reloads.
module _ (s : State) (ks : List Call) (out : List ℕ) (words : AreWords s.table) (taken : image_answer s.table s.store out ≡ XOK) where
  abbrev evening : List ℕ
  evening = take (image_length s.table (length s.store)) (image_out s.table s.store out)

  pub history-back : (reload_answer (run s ks).table (run s ks).store evening ≡ XOK) × (reloaded (run s ks) evening ≡ s)
  history-back =
      let w : Well s = (written-for s.table s.store out taken).0 in
      let l = same-lengths s (run s ks) w (run-kept s ks w) (run-conf-kept s ks w) in
      let r = image-then-reload s.table s.store out (run s ks).table (run s ks).store words taken l.0 l.1 in
      (r.answered, λ i. record { table = r.table i; store = r.store i })

  pub answered-again : (k : Call) → step (reloaded (run s ks) evening) k ≡ step s k
  answered-again k = ap (λ (x : State). step x k) history-back.1
