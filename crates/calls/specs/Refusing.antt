-- "Refusals in order", as the code finds them: of a list of tests the first that holds, by its name; and the number of each name.
use Rattle.std.specs.Prelude.{Bool, List, [], ◌∷◌, ℕ, Result, Ok, Err}
use Rattle.rules.specs.Errors as rules
use Rattle.rules.specs.Rule.{Refusal, ◌⇒◌}
use Rattle.calls.specs.declared.error.Error.{Error}
use Rattle.calls.specs.declared.error.Error.TheVariants.{XbTab, XbPrSd, XbdKcl, XbParam, XbSz, XbSgSz, XbadModes, XnSgDes, XbSgDes, XbadOd, XbSgSd, XnoObj, XnoAcc, XnoOwner, XnoPriv, XdapViol, XsgNoAcc, XdupSg, Xbusy, XnotReadable, XnotWritable, XbadBlockNo, XendOfFile, XbadLink, XodSpace, XnoSpace, XnoProc, XpostEh, XbNoMes, XoutSgAldUmp, XinSgAldMap, XvrtMmCfl, XshSg, XnoSPriv, XbadStCap, XbadSubtypeMatch}

-- 01, "Error numbers"
abbrev pub number_of : Error → ℕ
number_of XbTab = rules.XbTab
number_of XbPrSd = rules.XbPrSd
number_of XbdKcl = rules.XbdKcl
number_of XbParam = rules.XbParam
number_of XbSz = rules.XbSz
number_of XbSgSz = rules.XbSgSz
number_of XbadModes = rules.XbadModes
number_of XnSgDes = rules.XnSgDes
number_of XbSgDes = rules.XbSgDes
number_of XbadOd = rules.XbadOd
number_of XbSgSd = rules.XbSgSd
number_of XnoObj = rules.XnoObj
number_of XnoAcc = rules.XnoAcc
number_of XnoOwner = rules.XnoOwner
number_of XnoPriv = rules.XnoPriv
number_of XdapViol = rules.XdapViol
number_of XsgNoAcc = rules.XsgNoAcc
number_of XdupSg = rules.XdupSg
number_of Xbusy = rules.Xbusy
number_of XnotReadable = rules.XnotReadable
number_of XnotWritable = rules.XnotWritable
number_of XbadBlockNo = rules.XbadBlockNo
number_of XendOfFile = rules.XendOfFile
number_of XbadLink = rules.XbadLink
number_of XodSpace = rules.XodSpace
number_of XnoSpace = rules.XnoSpace
number_of XnoProc = rules.XnoProc
number_of XpostEh = rules.XpostEh
number_of XbNoMes = rules.XbNoMes
number_of XoutSgAldUmp = rules.XoutSgAldUmp
number_of XinSgAldMap = rules.XinSgAldMap
number_of XvrtMmCfl = rules.XvrtMmCfl
number_of XshSg = rules.XshSg
number_of XnoSPriv = rules.XnoSPriv
number_of XbadStCap = rules.XbadStCap
number_of XbadSubtypeMatch = rules.XbadSubtypeMatch

-- the tests of a list as the rules have them
abbrev pub listed : List (Bool × Error) → List Refusal
listed [] = []
listed (x ∷ xs) = (x.0 ⇒ number_of x.1) ∷ listed xs

-- the number of what was found; 0 where nothing refuses
abbrev pub found : {A : Type 0} → Result A Error → ℕ
found (Ok x) = 0
found (Err e) = number_of e
