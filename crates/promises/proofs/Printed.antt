-- A listing, line by line: the heading is line 0, and the line of call n, which says n, is line n.
use mathlib.Core.Bool.{Bool, true, false, cond, ◌&&◌, not}
use mathlib.Core.List.{List, [], ◌∷◌, ◌++◌, append_assoc}
use mathlib.Core.Path.{◌≡◌, refl, sym, ap, ◌∙◌, subst}
use Prim.Native.Nat.{ℕ, zero, suc, ◌+◌, ◌/◌, ◌%◌}
use Prim.Native.String.{String}
use native.Mathlib.Omega.{arith}
use lib.Dec.{ltb}
use lib.ListN.{get_or}
use borrow.Author.Tests.{ne_eqb}
use Rattle.rules.specs.Claim.{test}
use Rattle.rules.specs.Errors.{ascii, error_names, error_name}
use Rattle.rules.specs.Step.{State, Call, Answer, step, next}
use Rattle.rules.specs.Replay.{Taken, took, bad, configuration_in, replayable, Script, script, decimal_in, decimal, hex_digit, hex, space, newline, shows_buffer, line, lines_from, heading, bad_configuration, bad_script, start_of, script_listing, listing}
use Rattle.rules.specs.Finding.{begins, ends_line, lines_of}
use Rattle.laws.proofs.Tests.{and_left, and_right, and_both, cond-true, cond_both, not-of, failed}
use Rattle.promises.proofs.Finding.{due_lines}

-- ---- text without a newline
unfoldable pub plain : List ℕ → Bool
plain [] = true
plain (b ∷ s) = not (ends_line b) && plain s

plain-both : (s t : List ℕ) → plain s ≡ true → plain t ≡ true → plain (s ++ t) ≡ true
unfolding plain
plain-both [] t p q = q
plain-both (b ∷ s) t p q = and_both (not (ends_line b)) (plain (s ++ t)) (and_left (not (ends_line b)) (plain s) p) (plain-both s t (and_right (not (ends_line b)) (plain s) p) q)

plain-one : (b : ℕ) → ends_line b ≡ false → plain (b ∷ []) ≡ true
unfolding plain
plain-one b e = and_both (not (ends_line b)) true (not-of (ends_line b) e) refl

-- with a newline after it, it is one line
one_line : (s rest : List ℕ) → plain s ≡ true → lines_of ((s ++ newline) ++ rest) ≡ (s ++ newline) ∷ lines_of rest
unfolding plain lines_of begins
one_line [] rest p = refl
one_line (b ∷ s) rest p =
    rw (failed (ends_line b) (and_left (not (ends_line b)) (plain s) p)) (ap (begins b) (one_line s rest (and_right (not (ends_line b)) (plain s) p)))

-- ---- the parts of a line
plain-decimal : (n v : ℕ) → plain (decimal_in n v) ≡ true
unfolding plain decimal_in
plain-decimal zero v = refl
plain-decimal (suc n) v =
    cond_both (λ (s : List ℕ). plain s ≡ true) (ltb v 10) _ _
    (λ e. plain-one (48 + v) (ne_eqb (48 + v) 10 (λ z. omega arith)))
    (λ e. plain-both (decimal_in n (v / 10)) ((48 + v % 10) ∷ []) (plain-decimal n (v / 10)) (plain-one (48 + v % 10) (ne_eqb (48 + v % 10) 10 (λ z. omega arith))))

digit-ends : (d : ℕ) → ends_line (hex_digit d) ≡ false
digit-ends d = cond_both (λ (b : ℕ). ends_line b ≡ false) (ltb d 10) _ _ (λ e. ne_eqb (48 + d) 10 (λ z. omega arith)) (λ e. ne_eqb (87 + d) 10 (λ z. omega arith))

plain-hex : (s : List ℕ) → plain (hex s) ≡ true
unfolding plain hex
plain-hex [] = refl
plain-hex (b ∷ s) =
    and_both (not (ends_line (hex_digit (b / 16)))) _ (not-of _ (digit-ends (b / 16)))
    (and_both (not (ends_line (hex_digit (b % 16)))) _ (not-of _ (digit-ends (b % 16))) (plain-hex s))

plain_names : List String → Bool
plain_names [] = true
plain_names (x ∷ xs) = plain (ascii x) && plain_names xs

plain-name-in : (xs : List String) (n : ℕ) → plain_names xs ≡ true → plain (ascii (get_or xs n "")) ≡ true
unfolding plain_names plain ascii
plain-name-in [] n p = refl
plain-name-in (x ∷ xs) zero p = and_left (plain (ascii x)) (plain_names xs) p
plain-name-in (x ∷ xs) (suc n) p = plain-name-in xs n (and_right (plain (ascii x)) (plain_names xs) p)

names-plain : plain_names error_names ≡ true
unfolding plain_names plain ascii error_names
names-plain = refl

plain-name : (n : ℕ) → plain (error_name n) ≡ true
unfolding error_name
plain-name n = plain-name-in error_names n names-plain

plain-space : plain space ≡ true
unfolding plain
plain-space = refl

plain-shown : (b : Bool) (s : List ℕ) → plain (cond b (space ++ hex s) []) ≡ true
plain-shown true s = plain-both space (hex s) plain-space (plain-hex s)
plain-shown false s = unfold plain in refl

-- a line without its newline
abbrev line_text : ℕ → ℕ → Answer → List ℕ → List ℕ
line_text n code w buffer =
    decimal n ++ (space ++ (error_name w.error ++ (space ++ (decimal w.first ++
    (space ++ (decimal w.second ++ cond (shows_buffer code w.error) (space ++ hex buffer) []))))))

plain-line : (n code : ℕ) (w : Answer) (buffer : List ℕ) → plain (line_text n code w buffer) ≡ true
plain-line n code w buffer =
    plain-both (decimal n) _ (plain-decimal 20 n)
    (plain-both space _ plain-space
    (plain-both (error_name w.error) _ (plain-name w.error)
    (plain-both space _ plain-space
    (plain-both (decimal w.first) _ (plain-decimal 20 w.first)
    (plain-both space _ plain-space
    (plain-both (decimal w.second) _ (plain-decimal 20 w.second) (plain-shown (shows_buffer code w.error) buffer)))))))

line-ends : (n code : ℕ) (w : Answer) (buffer : List ℕ) → line_text n code w buffer ++ newline ≡ line n code w buffer
unfolding line
line-ends n code w buffer = simp append_assoc

line_first : (n code : ℕ) (w : Answer) (buffer rest : List ℕ) → lines_of (line n code w buffer ++ rest) ≡ line n code w buffer ∷ lines_of rest
line_first n code w buffer rest =
    subst (λ (l : List ℕ). lines_of (l ++ rest) ≡ l ∷ lines_of rest) (line-ends n code w buffer) (one_line (line_text n code w buffer) rest (plain-line n code w buffer))

-- ---- the lines of calls, of which n are made already
pub call_lines : ℕ → State → List Call → List (List ℕ)
call_lines n s [] = []
call_lines n s (k ∷ ks) = line (n + 1) k.code (step s k).answered (step s k).buffer ∷ call_lines (n + 1) (next s k) ks

calls-lines : (n : ℕ) (s : State) (ks : List Call) (rest : List ℕ) → lines_of (lines_from n s ks ++ rest) ≡ call_lines n s ks ++ lines_of rest
unfolding lines_from call_lines
calls-lines n s [] rest = refl
calls-lines n s (k ∷ ks) rest =
    let l : List ℕ = line (n + 1) k.code (step s k).answered (step s k).buffer in
    ap lines_of (append_assoc l (lines_from (n + 1) (next s k) ks) rest)
    ∙ line_first (n + 1) k.code (step s k).answered (step s k).buffer (lines_from (n + 1) (next s k) ks ++ rest)
    ∙ ap (λ (ls : List (List ℕ)). l ∷ ls) (calls-lines (n + 1) (next s k) ks rest)

heading-first : (rest : List ℕ) → lines_of (heading ++ rest) ≡ heading ∷ lines_of rest
unfolding heading lines_of begins ascii
heading-first rest = refl

fault-lines : (b : Bool) → lines_of (cond b bad_script []) ≡ cond b (bad_script ∷ []) []
unfolding bad_script lines_of begins ascii
fault-lines true = refl
fault-lines false = refl

-- 'A bad or cut configuration writes only "bad configuration"; else the heading line of the listing comes first.'
taken : (x : Taken (List ℕ)) (h rest : List ℕ) → x ≡ took h rest → test (replayable h) ≡ true → elim x as (λ z. List ℕ) [
  | took h rest ↦ cond (test (replayable h)) (heading ++ script_listing (start_of h) (script rest)) bad_configuration
  | bad ↦ bad_configuration
] ≡ heading ++ script_listing (start_of h) (script rest)
taken x h rest e f =
    subst (λ (y : Taken (List ℕ)). elim y as (λ z. List ℕ) [
      | took h rest ↦ cond (test (replayable h)) (heading ++ script_listing (start_of h) (script rest)) bad_configuration
      | bad ↦ bad_configuration
    ] ≡ heading ++ script_listing (start_of h) (script rest)) (sym e) (cond-true (test (replayable h)) _ _ f)

listed : (input h rest : List ℕ) → configuration_in input ≡ took h rest → test (replayable h) ≡ true → listing input ≡ heading ++ script_listing (start_of h) (script rest)
unfolding listing
listed input h rest e f = taken (configuration_in input) h rest e f

script-lines : (s : State) (x : Script) → lines_of (script_listing s x) ≡ call_lines 0 s x.calls ++ cond x.faulty (bad_script ∷ []) []
unfolding script_listing
script-lines s x =
    calls-lines 0 s x.calls (cond x.faulty bad_script []) ∙ ap (λ (ls : List (List ℕ)). call_lines 0 s x.calls ++ ls) (fault-lines x.faulty)

pub printed : (input h rest : List ℕ) → configuration_in input ≡ took h rest → test (replayable h) ≡ true
    → due_lines input ≡ heading ∷ (call_lines 0 (start_of h) (script rest).calls ++ cond (script rest).faulty (bad_script ∷ []) [])
printed input h rest e f =
    ap lines_of (listed input h rest e f)
    ∙ heading-first (script_listing (start_of h) (script rest))
    ∙ ap (λ (ls : List (List ℕ)). heading ∷ ls) (script-lines (start_of h) (script rest))
