-- The calls by their names, with the numbers that 01 and 02 give them, and what is found of a call before its own list.
use Rattle.std.specs.Prelude.{◌≡◌, Bool, true, false, [], ◌∷◌, ℕ, Result, Ok, Err}
use Rattle.rules.specs.Errors as rules
use Rattle.rules.specs.Rule.{◌⇒◌, first_refusal}
use Rattle.rules.specs.Step.{bad_code}
use Rattle.calls.specs.declared.code.Code.{Code}
use Rattle.calls.specs.declared.code.Code.TheVariants.{Spawn, ReleaseProcess, BuildSegment, Rendezvous, ReleaseSegment, SetAccess, Create, Open, Close, Link, Unlink, SetBits, ReadBlock, WriteBlock, Post, Receive, Status, Access, Remap, PageAccess, Regrade}
use Rattle.calls.specs.declared.error.Error.{Error}
use Rattle.calls.specs.declared.error.Error.TheVariants.{XbdKcl}
use Rattle.calls.specs.Refusing.{number_of}

abbrev pub code_number : Code → ℕ
code_number Spawn = 1
code_number ReleaseProcess = 2
code_number BuildSegment = 3
code_number Rendezvous = 4
code_number ReleaseSegment = 5
code_number SetAccess = 6
code_number Create = 7
code_number Open = 8
code_number Close = 9
code_number Link = 10
code_number Unlink = 11
code_number SetBits = 12
code_number ReadBlock = 13
code_number WriteBlock = 14
code_number Post = 15
code_number Receive = 16
code_number Status = 17
code_number Access = 18
code_number Remap = 19
code_number PageAccess = 20
code_number Regrade = 21

-- the call that a number names, or that it names none
abbrev pub Means : ℕ → Result Code Error → Type 0
Means n (Ok k) = code_number k ≡ n
Means n (Err e) = (bad_code n ≡ true) × (e ≡ XbdKcl)

-- b says whether the caller is bad, n is the code: the call that is asked for, or the number that refuses it
abbrev pub Asked : Bool → ℕ → Result Code Error → Type 0
Asked b n (Ok k) = (b ≡ false) × (code_number k ≡ n)
Asked b n (Err e) = number_of e ≡ first_refusal ((b ⇒ rules.XbPrSd) ∷ (bad_code n ⇒ rules.XbdKcl) ∷ [])
