-- What refuses some calls, of what the code has seen; and the one rule of calls 5 and 9.
use Rattle.std.specs.Prelude.{Bool, ◌&&◌, ◌||◌, not, List, [], ◌∷◌, ◌++◌, ℕ, ◌/◌, leb, eqb}
use Rattle.rules.specs.Layout.{Kind, process, file, Addr, at, entries, held_at}
use Rattle.rules.specs.Modes.{valid_modes, reads, writes}
use Rattle.rules.specs.Rights.{may_read, may_write, lacks, access}
use Rattle.rules.specs.Errors.{XbPrSd, XbSz, XbadModes, XnoAcc, XdapViol, XbadOd, XnoObj, XpostEh, XbadStCap, XbadSubtypeMatch}
use Rattle.rules.specs.Rule.{Refusal, ◌⇒◌, effect, Rule, rule}
use Rattle.rules.specs.Find.{given_up}
use Rattle.rules.specs.Subtype.{held_by, modes_by, no_subtype}
use Rattle.rules.specs.Call07.{unfit}
use Rattle.rules.specs.Call15.{text_bytes}
use Rattle.calls.specs.declared.objects.Seen.{Seen}
use Rattle.calls.specs.Seen.{find_tests}

-- calls 5 and 9: entry a is given up; two numbers refuse, past the last entry and empty
abbrev pub give_up_rule : List ℕ → (Addr → ℕ) → Kind → ℕ → ℕ → ℕ → ℕ → List ℕ → Rule
give_up_rule h r k p a beyond empty buffer =
    let s : ℕ = r (at process p (held_at k a)) in
    rule ((leb entries a ⇒ beyond) ∷ (eqb s 0 ⇒ empty) ∷ []) (effect 0 0 buffer (given_up h r k p a s) [])

-- call 8, before the search for clashes
abbrev pub open_tests : Seen → ℕ → List Refusal
open_tests f b =
    (not (valid_modes b) ⇒ XbadModes) ∷ find_tests f file (not f.flows || (writes b && not f.own))
    ++ (lacks f.rights (reads b) (writes b) ⇒ XdapViol) ∷ []

-- calls 13, 14 and 21, of the entry: a holds s, with the mode or not, and f is seen of it
abbrev pub use_tests : ℕ → ℕ → Bool → ℕ → Seen → Bool → Bool → List Refusal
use_tests a s held number f read write =
    (leb entries a ⇒ XbadOd) ∷ (eqb s 0 ⇒ XbadOd) ∷ (not held ⇒ number) ∷ (not f.present ⇒ XnoObj) ∷ (lacks f.rights read write ⇒ XdapViol) ∷ []

-- call 15, to the process that is seen: the bytes of the text; whether the caller's cell flows to it; whether its bits allow the post; whether its queue is full
abbrev pub post_tests : Seen → ℕ → Bool → Bool → Bool → List Refusal
post_tests to bytes flow allowed full =
    (not (eqb bytes text_bytes) ⇒ XbSz) ∷ (not to.formed ⇒ XbPrSd) ∷ (not flow ⇒ XnoAcc) ∷ (to.own && not to.present ⇒ XbPrSd)
    ∷ (to.own && not allowed ⇒ XdapViol) ∷ (to.own && full ⇒ XpostEh) ∷ []

-- call 3: "Access is the owner's read and write bits"
abbrev pub owner_access : ℕ → ℕ
owner_access bits = access (may_read (bits / 64)) (may_write (bits / 64))

-- 02, CR 11, of the descriptor that c names. Call 7, of process p
abbrev pub create_under : List ℕ → (Addr → ℕ) → ℕ → ℕ → List Refusal
create_under h r p c =
    (not (eqb c 0) && no_subtype r p c ⇒ XbadStCap) ∷ (not (eqb c 0) && unfit h r p c ⇒ XbadSubtypeMatch) ∷ []

-- call 8, of a file whose subtype is s, with the modes b
abbrev pub open_under : (Addr → ℕ) → ℕ → ℕ → ℕ → ℕ → List Refusal
open_under r p s b c =
    (not (eqb s 0) && no_subtype r p c ⇒ XbadStCap)
    ∷ (not (eqb s 0) && (not (eqb (held_by r p c) s) || ((reads b && not (reads (modes_by r p c))) || (writes b && not (writes (modes_by r p c))))) ⇒ XbadSubtypeMatch) ∷ []
