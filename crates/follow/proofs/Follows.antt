-- What a call that succeeds does to the working slice leaves it right.
use mathlib.Core.Path.{◌≡◌, refl, sym, ◌∙◌}
use mathlib.Core.Bool.{true, false, cond, ◌&&◌, not}
use mathlib.Core.List.{List, [], ◌∷◌, ◌++◌}
use Prim.Native.Nat.{ℕ, ◌+◌, ◌/◌, ◌<◌}
use native.Mathlib.Omega.{arith}
use lib.Dec.{ltb, leb, eqb}
use lib.ListN.{length}
use lib.Seq.{ext_get_or}
use borrow.Author.Tests.{eqb-true, eqb-false, leb-false}
use Rattle.rules.specs.Claim.{test}
use Rattle.rules.specs.Layout.{max_bits, Kind, process, segment, file, slots, cells, configuration, cell_slots, first_slot, cell_of, Addr, at, Valid, rd, live, serial, owner, group, entries, held_at, pages, page_at, links, opens}
use Rattle.rules.specs.Seid.{class, class_of, index_of, seid, formed, is_subtype, or_self}
use Rattle.rules.specs.WellFormed.{well_formed}
use Rattle.rules.specs.Errors.{XOK, XbTab, XbPrSd, XbdKcl}
use Rattle.rules.specs.Rule.{Refusal, ◌⇒◌, Word, ◌≔◌, write, over, Rule, first_refusal}
use Rattle.rules.specs.Rights.{may_read, may_write, access}
use Rattle.rules.specs.Find.{in_own_cell, free_slot, free_entry, no_entry, entered, one_more, one_less, page_left, pages_set, emptied, given_up}
use Rattle.rules.specs.Work.{key_at, free_keys, names, masks, work_of, work_in}
use Rattle.rules.specs.Call01.{spawn, spawned}
use Rattle.rules.specs.Call02.{release_process}
use Rattle.rules.specs.Call03.{build_segment, built}
use Rattle.rules.specs.Call05.{release_segment}
use Rattle.rules.specs.Call07.{create, created, subtype_for}
use Rattle.rules.specs.Call08.{open_file, open_subtype, open_seid}
use Rattle.rules.specs.Call09.{close}
use Rattle.rules.specs.Call11.{unlink, unlinked}
use Rattle.rules.specs.Call21.{carried, regraded, regrade}
use Rattle.rules.specs.Step.{State, Call, Outcome, regrade_code, rule_of, bad_caller, bad_code, carried_out, whole_rule, step}
use Rattle.laws.proofs.Tests.{passed, or_left, and_both, both_ways, split, cond_both}
use Rattle.laws.proofs.Cells.{run_end}
use Rattle.laws.proofs.Codes.{by_bits, by-status}
use Rattle.laws.proofs.Refusals.{clear, clear_first}
use Rattle.laws.proofs.Written.{AllOf, nil, also, all-if, all-tab, over-append, rd-write}
use Rattle.laws.proofs.Object.{Object, no-process}
use Rattle.laws.proofs.Seids.{is-formed, made-formed}
use Rattle.laws.proofs.Shape.{Shape, in-run, formed-object, good_of}
use Rattle.laws.proofs.Subtypes.{class-object, not-subtype, by-opened}
use Rattle.marks.proofs.Bits.{mask-same}
use Rattle.kept.proofs.Records.{elsewhere, word_in, freed-in}
use Rattle.kept.proofs.Keeps.{Caller}
use Rattle.kept.proofs.Exchange.{entered-held}
use Rattle.kept.proofs.Found.{found, own-slot, free-entry}
use Rattle.kept.proofs.Created.{made_in, made_word}
use Rattle.kept.proofs.Calls.{keeps}
use Rattle.kept.proofs.Stepped.{caller}
use Rattle.kept.proofs.Kept.{Well, conf-kept}
use Rattle.kept.proofs.Keep01.{spawned-word}
use Rattle.kept.proofs.Keep21.{regraded-in, regraded-word}
use Rattle.follow.specs.Right.{Right}
use Rattle.follow.specs.Followed.{here, noted, taken_in, marked_by, unmarked_by, given_back, listed_anew, masked_anew, after_release, followed}
use Rattle.follow.proofs.One.{right-one, Unseen, keys-same, unseen-right, same-slot, same-held, right-reads}
use Rattle.follow.proofs.Made.{masks-length, masks-word, made-right}
use Rattle.follow.proofs.Unseen.{Quiet, unseen, UnseenBy, unseen-4, unseen-6, unseen-10, unseen-12, unseen-13, unseen-14, unseen-15, unseen-16, unseen-17, unseen-18, unseen-19, unseen-20, unseen-other}
use Rattle.follow.proofs.Release.{follow-2}
use Rattle.follow.proofs.Entries.{is-here, opened-right, closed-right}
use Rattle.follow.proofs.Given.{object-slot, spawned-slot, entered-one, created-right, back-right, less-right}

-- what is done to the slice follows the rule x of a call of process p
unfoldable pub FollowedBy : List ℕ → (Addr → ℕ) → ℕ → ℕ → ℕ → ℕ → List ℕ → Rule → Type 0
FollowedBy h r p code a b w x =
    let q : Addr → ℕ = over r x.effects.words in
    first_refusal x.refusals ≡ 0 → Right h q (followed h q p (noted r p code a) code a b x.effects.first x.effects.second w)

-- a segment's entry is unseen
entered-unseen : (r : Addr → ℕ) (p d s u : ℕ) → Unseen r (over r (entered segment p d s u))
entered-unseen r p d s u =
    unseen r (also (record { late = omega arith; beside = λ e l. omega arith }) (also (record { late = omega arith; beside = λ e l. omega arith }) nil))

module _ (h : List ℕ) (r : Addr → ℕ) (p : ℕ) (me : Caller h r p) (w : List ℕ) (right : Right h r w) where
  abbrev mine : ℕ
  mine = cell_of h process p

  mine-in : mine < cells h
  mine-in = (in-run h me.shape process p me.in-range).0

  -- ---- an object is made

  pub follow-1 : (a b c : ℕ) (buffer : List ℕ) → FollowedBy h r p 1 a b w (spawn h r p a b c buffer)
  unfolding FollowedBy spawn followed
  follow-1 a b c buffer e =
      let ok = clear (spawn h r p a b c buffer).refusals refl e in
      let q : ℕ = free_slot h r process mine in
      let s : ℕ = r (at process q serial) + 1 in
      created-right h me.shape r (over r (spawned r p a b c q s)) w process mine mine-in ok.1.1.0 right (spawned-slot r p a b c q s)
      (spawned-word r p a b c q s live)

  pub follow-3 : (a b c : ℕ) (buffer : List ℕ) → FollowedBy h r p 3 a b w (build_segment h r p a b c buffer)
  unfolding FollowedBy build_segment followed
  follow-3 a b c buffer e =
      let ok = clear (build_segment h r p a b c buffer).refusals refl e in
      let g : ℕ = free_slot h r segment mine in
      let s : ℕ = r (at segment g serial) + 1 in
      let u : ℕ = r (at process p owner) in
      let v : ℕ = r (at process p group) in
      let ws : List Word = built r p a b c g s in
      let vs : List Word = entered segment p (free_entry r segment p) (seid (class segment) g s) (access (may_read (b / 64)) (may_write (b / 64))) in
      rw (over-append r ws vs) (unseen-right h (over r ws) (over (over r ws) vs) (taken_in h segment mine w) (entered-unseen (over r ws) p _ _ _)
      (created-right h me.shape r (over r ws) w segment mine mine-in ok.1.1.1.0 right (object-slot r segment tt g (made_in segment tt g s u v b c a 0))
      (made_word segment tt g s u v b c a 0 r live (omega arith))))

  pub follow-7 : (a b c : ℕ) (buffer : List ℕ) → FollowedBy h r p 7 a b w (create h r p a b c buffer)
  unfolding FollowedBy create followed
  follow-7 a b c buffer e =
      let ok = clear (create h r p a b c buffer).refusals refl e in
      let d : ℕ = free_entry r file p in
      let f : ℕ = free_slot h r file mine in
      let s : ℕ = r (at file f serial) + 1 in
      let n : ℕ = seid (class file) f s in
      let u : ℕ = r (at process p owner) in
      let v : ℕ = r (at process p group) in
      let t : ℕ = subtype_for r p c in
      let ws : List Word = created r p a t f s in
      let slot = own-slot h r p me file ok.1.1.1.1.1.0 in
      let free = free-entry r file p ok.1.1.1.1.0 in
      let inside = made_in file tt f s u v a 0 0 t in
      rw (over-append r ws (entered file p d n b))
      (opened-right h me.shape (over r ws) (over (over r ws) (entered file p d n b)) (taken_in h file mine w) p d n me.in-range free.in-record
      (entered-one (over r ws) p d n b)
      (created-right h me.shape r (over r ws) w file mine mine-in ok.1.1.1.1.1.0 right (object-slot r file tt f inside)
      (made_word file tt f s u v a 0 0 t r live (omega arith)))
      (λ x. made-formed (class file) (slots h file) f s slot.in-range (me.shape.few file) (omega arith) (omega (arith, slot.not-worn)))
      (elsewhere file f inside r process p (held_at file d) (λ x y. no-process file tt (sym x)) ∙ free.is-empty)
      (entered-held (over r ws) file tt p d n b free.in-record))

  pub follow-21 : (st : List ℕ) (a b c : ℕ) (buffer : List ℕ) → FollowedBy h r p regrade_code a b w (regrade h r st p a b c buffer)
  unfolding FollowedBy regrade followed
  follow-21 st a b c buffer e =
      let ok = clear (regrade h r st p a b c buffer).refusals refl e in
      let x = carried h r st p a b c buffer in
      let f : ℕ = free_slot h r file b in
      let s : ℕ = r (at file f serial) + 1 in
      let cell : b < cells h = leb-false (cells h) b (or_left (leb (cells h) b) (ltb max_bits c) ok.1.1.0) in
      created-right h me.shape r (over r (regraded x f s)) w file b cell ok.1.1.1.1.1.1.1.1.0 right
      (object-slot r file tt f (regraded-in x f s)) (regraded-word r x f s live)

  -- ---- a file or a subtype is opened

  opened : (s b : ℕ) (ws : List Word) → (class_of s ≡ class file → formed h file s ≡ true) → AllOf Quiet ws → no_entry r file p ≡ false
      → let q : Addr → ℕ = over r (entered file p (free_entry r file p) s b ++ ws) in Right h q (marked_by h p s (free_entry r file p) w)
  opened s b ws ok quiet some =
      let d : ℕ = free_entry r file p in
      let free = free-entry r file p some in
      let q : Addr → ℕ = over r (entered file p d s b) in
      rw (over-append r (entered file p d s b) ws) (unseen-right h q (over q ws) (marked_by h p s d w) (unseen q quiet)
      (opened-right h me.shape r q w p d s me.in-range free.in-record (entered-one r p d s b) right ok free.is-empty
      (entered-held r file tt p d s b free.in-record)))

  follow-file : (a b c : ℕ) (buffer : List ℕ) → FollowedBy h r p 8 a b w (open_file h r p (or_self r p a) b c buffer)
  unfolding FollowedBy open_file followed noted
  follow-file a b c buffer e =
      let s : ℕ = or_self r p a in
      let ok = clear (open_file h r p s b c buffer).refusals refl e in
      opened s b (one_more h r p file s) (λ x. passed (formed h file s) ok.1.0)
      (all-if Quiet (in_own_cell h p file s) _ _ (λ x. also (record { late = omega arith; beside = λ z. absurd (no-process file tt z) }) nil) (λ x. nil))
      ok.1.1.1.1.1.1.1.1.0

  follow-subtype : (a b : ℕ) (buffer : List ℕ) → is_subtype (or_self r p a) ≡ true → FollowedBy h r p 8 a b w (open_subtype h r p (or_self r p a) b buffer)
  unfolding FollowedBy open_subtype followed noted
  follow-subtype a b buffer t e =
      let s : ℕ = or_self r p a in
      let ok = clear (open_subtype h r p s b buffer).refusals refl e in
      opened s b [] (λ x. both_ways (is_subtype s) t (not-subtype file s x)) nil ok.1.1.1.1.1.1.0

  pub follow-8 : (a b c : ℕ) (buffer : List ℕ) → FollowedBy h r p 8 a b w (open_seid h r p a b c buffer)
  follow-8 a b c buffer = by-opened h r p a b c buffer (FollowedBy h r p 8 a b w) (follow-subtype a b buffer) (λ n. follow-file a b c buffer)

  -- ---- an entry is given up

  -- what an own-cell entry holds lives
  held-lives : (k : Kind) → Object k → (d : ℕ) → d < entries → let s : ℕ = r (at process p (held_at k d)) in here h p k s ≡ true → r (at k (index_of s) live) ≡ 1
  held-lives k o d l e =
      let x = is-here h me.shape p (r (at process p (held_at k d))) k e in
      (me.fine.entry k o p d me.in-range l).current-live (formed-object h k _ x.form) x.same-cell

  pub follow-5 : (a b : ℕ) (buffer : List ℕ) → FollowedBy h r p 5 a b w (release_segment h r p a buffer)
  unfolding FollowedBy release_segment followed noted given_up emptied pages_set
  follow-5 a b buffer e =
      let ok = clear (release_segment h r p a buffer).refusals refl e in
      let s : ℕ = r (at process p (held_at segment a)) in
      let ws : List Word = pages_set p (page_left r p a) in
      let vs : List Word = entered segment p a 0 0 in
      let us : List Word = cond (formed h segment s && in_own_cell h p segment s) (one_less r segment (index_of s)) [] in
      let q : Addr → ℕ = over (over r ws) vs in
      let first = unseen r (all-tab Quiet 0 pages (λ g. at process p (page_at g) ≔ page_left r p a g)
      (λ g lo hi. record { late = omega arith; beside = λ z l. omega arith })) in
      let second = entered-unseen (over r ws) p a 0 0 in
      let before = unseen-right h (over r ws) q w second (unseen-right h r (over r ws) w first right) in
      rw (over-append r ws (vs ++ us), over-append (over r ws) vs us)
      (less-right h me.shape r q w p s segment tt me.in-range before (λ x. second.lives segment (index_of s) ∙ first.lives segment (index_of s)
      ∙ held-lives segment tt a (leb-false entries a ok.0) x))

  pub follow-9 : (a b : ℕ) (buffer : List ℕ) → FollowedBy h r p 9 a b w (close h r p a buffer)
  unfolding FollowedBy close followed noted given_up emptied
  follow-9 a b buffer e =
      let ok = clear (close h r p a buffer).refusals refl e in
      let s : ℕ = r (at process p (held_at file a)) in
      let al : a < entries = leb-false entries a ok.0 in
      let vs : List Word = entered file p a 0 0 in
      let us : List Word = cond (formed h file s && in_own_cell h p file s) (one_less r file (index_of s)) [] in
      let one = entered-one r p a 0 0 in
      rw (over-append r vs us) (less-right h me.shape r (over r vs) (unmarked_by h p s a w) p s file tt me.in-range
      (closed-right h me.shape r (over r vs) w p a s me.in-range al one right
      (λ x. ((me.fine.entry file tt p a me.in-range al).held (class-object file s x)).form) refl (entered-held r file tt p a 0 0 al))
      (λ x. one.lives file (index_of s) ∙ held-lives file tt a al x))

  -- ---- a link is given up

  pub follow-11 : (a b : ℕ) (buffer : List ℕ) → FollowedBy h r p 11 a b w (unlink h r p a buffer)
  unfolding FollowedBy unlink unlinked followed noted here
  follow-11 a b buffer e =
      let ok = clear (unlink h r p a buffer).refusals refl e in
      let s : ℕ = or_self r p a in
      let i : ℕ = index_of s in
      let f = found h r file s ok.0 ok.1.1.0 in
      let own : here h p file s ≡ true = and_both _ _ f.form (passed _ ok.1.0) in
      back-right h me.shape r (over r (unlinked r i)) w p s file me.in-range right
      (λ x. (
        object-slot r file tt i
            (all-if _ (eqb (r (at file i links)) 1 && eqb (r (at file i opens)) 0) _ _ (λ z. freed-in file i) (λ z. word_in file i links _ (omega arith) nil)),
        f.here.is_live,
      ))
      (λ x. both_ways _ own x)

  -- ---- a process is released

  follow-release : (a b : ℕ) (buffer : List ℕ) → FollowedBy h r p 2 a b w (release_process h r p a buffer)
  unfolding FollowedBy followed noted
  follow-release a b buffer e = follow-2 h r w p me a buffer e right

-- ---- of what is written, what is done to the slice looks at words of the table alone

module _ (h : List ℕ) (sh : Shape h) (r q : Addr → ℕ) (same : (a : Addr) → Valid h a → q a ≡ r a) (p : ℕ) (pl : p < slots h process) where
  abbrev cell : ℕ
  cell = cell_of h process p

  back-same : (k : Kind) (s : ℕ) (w : List ℕ) → given_back h q p k s w ≡ given_back h r p k s w
  unfolding given_back key_at
  back-same k s w = split _ (here h p k s)
      (λ e. let x = same-slot h sh r q same k (index_of s) (rw (sh.sums k) (is-here h sh p s k e).in-range) in rw (x.0, x.1))
      (λ e. rw e)

  list_same : (k : Kind) → free_keys h q k cell ≡ free_keys h r k cell
  list_same k = sym (keys-same h r q k cell (λ i a b. same-slot h sh r q same k i (omega (arith, run_end h k cell (in-run h sh process p pl).0))))

  masks-same : (i : ℕ) → i < slots h process → masks h q cell i ≡ masks h r cell i
  unfolding names
  masks-same i l = ext_get_or 0 _ _ (masks-length h q cell i ∙ sym (masks-length h r cell i)) (λ f b.
      let fl : f < cell_slots h file cell = omega (arith, masks-length h q cell i) in
      masks-word h q cell i f fl
      ∙ mask-same (names q i (first_slot h file cell + f)) (names r i (first_slot h file cell + f)) entries 0
      (λ d x y. rw (same-held h sh r q same i d (rw (sh.sums process) l) (omega arith)))
      ∙ sym (masks-word h r cell i f fl))

  release-same : (i : ℕ) → i < slots h process → (w : List ℕ) → after_release h q cell i w ≡ after_release h r cell i w
  unfolding after_release listed_anew masked_anew
  release-same i l w = rw (list_same process, list_same segment, list_same file, masks-same i l)

  pub followed_same : (s code a b x y : ℕ) → (code ≡ 2 → index_of s < slots h process) → (w : List ℕ)
      → followed h q p s code a b x y w ≡ followed h r p s code a b x y w
  unfolding followed
  followed_same s code a b x y l w =
      let one = back-same segment s w in
      let two = back-same file s (unmarked_by h p s a w) in
      let three = back-same file s w in
      split _ (eqb code 2) (λ e. rw (release-same (index_of s) (l (eqb-true code 2 e)) w, one, two, three)) (λ e. rw (e, one, two, three))

-- ---- every code

module _ (h : List ℕ) (r : Addr → ℕ) (st : List ℕ) (k : Call) (me : Caller h r k.caller) (w : List ℕ) (right : Right h r w) where
  abbrev By : ℕ → Rule → Type 0
  By code = FollowedBy h r k.caller code k.a k.b w

  -- a call that leaves the slice alone
  alone : (n : ℕ) (x : Rule) → ((q : Addr → ℕ) (s y z : ℕ) → followed h q k.caller s n k.a k.b y z w ≡ w) → UnseenBy r x → By n x
  unfolding FollowedBy
  alone n x same u e = rw (same (over r x.effects.words) (noted r k.caller n k.a) x.effects.first x.effects.second)
      (unseen-right h r (over r x.effects.words) w u right)

  or : (f g : Rule) (n : ℕ) → By n f → (eqb k.code n ≡ false → By k.code g) → By k.code (cond (eqb k.code n) f g)
  or f g n x y = cond_both (By k.code) (eqb k.code n) f g (λ e. rw (eqb-true k.code n e) x) y

  pub follows : By k.code (rule_of h r st k)
  unfolding rule_of followed
  follows =
      let p : ℕ = k.caller in
      let a : ℕ = k.a in
      let b : ℕ = k.b in
      let c : ℕ = k.c in
      let v : List ℕ = k.buffer in
      or _ _ 1 (follow-1 h r p me w right a b c v) (λ n1. or _ _ 2 (follow-release h r p me w right a b v) (λ n2. or _ _ 3 (follow-3 h r p me w right a b c v) (λ n3.
      or _ _ 4 (alone 4 _ (λ q s y z. refl) (unseen-4 h r p a b v)) (λ n4. or _ _ 5 (follow-5 h r p me w right a b v) (λ n5.
      or _ _ 6 (alone 6 _ (λ q s y z. refl) (unseen-6 h r p a b v)) (λ n6. or _ _ 7 (follow-7 h r p me w right a b c v) (λ n7.
      or _ _ 8 (follow-8 h r p me w right a b c v) (λ n8. or _ _ 9 (follow-9 h r p me w right a b v) (λ n9.
      or _ _ 10 (alone 10 _ (λ q s y z. refl) (unseen-10 h r p a v)) (λ n10. or _ _ 11 (follow-11 h r p me w right a b v) (λ n11.
      or _ _ 12 (alone 12 _ (λ q s y z. refl) (by_bits h r k (UnseenBy r) (unseen-12 h r p b v))) (λ n12.
      or _ _ 13 (alone 13 _ (λ q s y z. refl) (unseen-13 h r p st a b v)) (λ n13. or _ _ 14 (alone 14 _ (λ q s y z. refl) (unseen-14 h r p a b v)) (λ n14.
      or _ _ 15 (alone 15 _ (λ q s y z. refl) (unseen-15 h r p a v)) (λ n15. or _ _ 16 (alone 16 _ (λ q s y z. refl) (unseen-16 h r p v)) (λ n16.
      or _ _ 17 (alone 17 _ (λ q s y z. refl) (by-status h r k (UnseenBy r) (unseen-17 h r p v))) (λ n17.
      or _ _ 18 (alone 18 _ (λ q s y z. refl) (unseen-18 h r p a v)) (λ n18. or _ _ 19 (alone 19 _ (λ q s y z. refl) (unseen-19 h r p a b c v)) (λ n19.
      or _ _ 20 (alone 20 _ (λ q s y z. refl) (unseen-20 h r p a v)) (λ n20. or _ _ regrade_code (follow-21 h r p me w right st a b c v) (λ n21.
      alone k.code _ (λ q s y z. rw (n1, n2, n3, n5, n7, n8, n9, n11, n21)) (unseen-other r v))))))))))))))))))))))

  -- ---- and so for any reading that agrees with what is written, as the table's does

  released-in : k.code ≡ 2 → first_refusal (rule_of h r st k).refusals ≡ 0 → index_of (noted r k.caller k.code k.a) < slots h process
  unfolding noted rule_of release_process
  released-in e n =
      let s : ℕ = or_self r k.caller k.a in
      let ok = clear (release_process h r k.caller k.a k.buffer).refusals refl (rw e at n) in
      rw e (is-formed (class process) (slots h process) s (passed (formed h process s) ok.0)).index_in

  pub follows-read : (q : Addr → ℕ) → let x : Rule = rule_of h r st k in ((a : Addr) → Valid h a → q a ≡ over r x.effects.words a) → first_refusal x.refusals ≡ 0
      → Right h q (followed h q k.caller (noted r k.caller k.code k.a) k.code k.a k.b x.effects.first x.effects.second w)
  unfolding FollowedBy
  follows-read q same e =
      let written : Addr → ℕ = over r (rule_of h r st k).effects.words in
      rw (followed_same h me.shape written q same k.caller me.in-range _ k.code k.a k.b _ _ (λ z. released-in z e) w)
      (right-reads h me.shape written q same _ (follows e))

-- ---- one call: the slice of the table that it leaves

module _ (s : State) (well : Well s) (k : Call) where
  abbrev conf : List ℕ
  conf = configuration s.table

  abbrev reading : Addr → ℕ
  reading = rd conf s.table

  -- what is done to w where the outcome is o
  abbrev pub after_call : List ℕ → Outcome → List ℕ
  after_call w o =
      let p : ℕ = k.caller in
      followed conf (rd conf o.state.table) p (noted reading p k.code k.a) k.code k.a k.b o.answered.first o.answered.second w

  pub follows-step : (w : List ℕ) → Right conf reading w → (step s k).answered.error ≡ XOK → Right conf (rd conf (step s k).state.table) (after_call w (step s k))
  unfolding step carried_out whole_rule
  follows-step w right =
      let own : Rule = rule_of conf reading s.store k in
      let bad-caller : Refusal = bad_caller conf reading k.caller ⇒ XbPrSd in
      let bad-code : Refusal = bad_code k.code ⇒ XbdKcl in
      let bad-table : Refusal = not (test (well_formed s.table (length s.store))) ⇒ XbTab in
      cond_both (λ (o : Outcome). o.answered.error ≡ XOK → Right conf (rd conf o.state.table) (after_call w o))
      (eqb (first_refusal (bad-table ∷ bad-caller ∷ bad-code ∷ own.refusals)) 0) _ _
      (λ e z.
      let x = clear_first bad-table (bad-caller ∷ bad-code ∷ own.refusals) (omega arith) (eqb-true _ 0 e) in
      let y = clear_first bad-caller (bad-code ∷ own.refusals) (omega arith) x.1 in
      let n = (clear_first bad-code own.refusals (omega arith) y.1).1 in
      let me = caller s well k.caller y.0 in
      let valid = (keeps conf reading s.store k me n).valid in
      follows-read conf reading s.store k me w right (rd conf (write conf s.table own.effects.words))
      (rd-write conf s.table valid (good_of s.table (length s.store) well).words) n)
      (λ e z. absurd (eqb-false _ 0 e z))

  -- "and leaves the working slice right again"
  pub work_step : (step s k).answered.error ≡ XOK → after_call (work_in s.table) (step s k) ≡ work_in (step s k).state.table
  unfolding work_in
  work_step e =
      let t : List ℕ = (step s k).state.table in
      let right = follows-step (work_of conf reading) (made-right conf reading) e in
      rw (conf-kept s k well) (right-one conf (rd conf t) _ (work_of conf (rd conf t)) right (made-right conf (rd conf t)))
