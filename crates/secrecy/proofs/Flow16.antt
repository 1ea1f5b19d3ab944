-- Call 16 writes in its own record and reads its own record.
use mathlib.Core.Path.{◌≡◌, refl, ap}
use mathlib.Core.Bool.{Bool}
use mathlib.Core.List.{List, ◌++◌}
use Prim.Native.Nat.{ℕ, ◌+◌, ◌*◌, ◌-◌}
use native.Mathlib.Omega.{arith}
use borrow.Author.Tests.{lt-ltb}
use Rattle.rules.specs.Layout.{process, cell_of, Addr, record_words, messages, message_words, messages_at, message_at}
use Rattle.rules.specs.Rule.{Word}
use Rattle.rules.specs.Find.{zeros}
use Rattle.rules.specs.Call16.{moved_up, receive}
use Rattle.laws.proofs.Written.{all_append, all-tab}
use Rattle.secrecy.proofs.Shown.{up-rules, alike-rules, Ups, WritesUp, Alike}
use Rattle.secrecy.proofs.View
use Rattle.secrecy.proofs.Lists.{tab-same}
use Rattle.secrecy.proofs.Give.{up-zeros}

up-moved : {h : List ℕ} {p : ℕ} {r : Addr → ℕ} → View.Here h p r → Ups h (cell_of h process p) (moved_up r p)
unfolding moved_up
up-moved v = all_append _ (all-tab _ _ _ _ (λ j lo hi. View.up-me v j (lt-ltb j (record_words process) (omega arith)))) (up-zeros v process _ _ _ v.there refl (omega arith))

pub up16 : {h : List ℕ} {p : ℕ} {r : Addr → ℕ} → View.Here h p r → (buffer : List ℕ) → WritesUp h (cell_of h process p) (receive h r p buffer)
unfolding receive
up16 v buffer = search (up-rules, View.up-me v, up-moved v) depth 12

same-moved : {h : List ℕ} {p : ℕ} {C : ℕ → Bool} {r q : Addr → ℕ} → View.View h p C r q → moved_up q p ≡ moved_up r p
unfolding moved_up
same-moved {p = p} v = ap (λ (ws : List Word). ws ++ zeros process p (message_at (messages - 1) 0) message_words)
    (tab-same messages_at (message_words * (messages - 1)) _ _ (λ j lo hi. rw (View.same-me v (j + message_words)
    (lt-ltb (j + message_words) (record_words process) (omega arith)))))

pub alike16 : {h : List ℕ} {p : ℕ} {C : ℕ → Bool} {r q : Addr → ℕ} → View.View h p C r q → (buffer : List ℕ)
    → Alike h C (receive h r p buffer) (receive h q p buffer)
unfolding receive
alike16 v buffer = search (alike-rules, View.same-me v, same-moved v) depth 12
