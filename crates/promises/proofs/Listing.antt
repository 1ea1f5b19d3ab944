-- 01's listing: its script, number by number, and the lines that replay gives for it.
use mathlib.Core.Path.{◌≡◌, refl}
use mathlib.Core.List.{List, [], ◌∷◌, ◌++◌}
use Prim.Native.Nat.{ℕ}
use Prim.Native.String.{String}
use lib.ListN.{replicate}
use Rattle.rules.specs.Errors.{ascii, error_names, error_name}
use Rattle.rules.specs.Rule.{same_addr, over}
use Rattle.rules.specs.Replay.{newline, groups, number_from, numbers_from, configuration_in, replayable, call_in, script_in, decimal_in, hex, shows_buffer, line, lines_from, heading, start_of, script_listing, listing}
use Rattle.rules.specs.Image.{word_bytes}
use Rattle.promises.proofs.Opened.{open-table, open-set-up, open-calls, open_step}

-- lines of text
abbrev pub lines : List String → List ℕ
lines [] = []
lines (s ∷ ss) = ascii s ++ (newline ++ lines ss)

-- "Two cells, security 1 and 3, integrity, compartments, owner and group 0, two process and two file slots each, no segment slots, B 1." (02, CR 9: no guard cell; CR 11: no subtypes.)
abbrev pub configuration-bytes : List ℕ
configuration-bytes =
    word_bytes (2 ∷ 4 ∷ 0 ∷ 4 ∷ 1 ∷ 0 ∷ 0 ∷ [])
    ++ (word_bytes (1 ∷ 0 ∷ 0 ∷ 2 ∷ 0 ∷ 2 ∷ 0 ∷ 0 ∷ [])
    ++ word_bytes (3 ∷ 0 ∷ 0 ∷ 2 ∷ 0 ∷ 2 ∷ 0 ∷ 0 ∷ []))

-- a call: caller, code, a, b, and no c; a buffer of so many bytes, all 0
abbrev pub call : ℕ → ℕ → ℕ → ℕ → ℕ → List ℕ
call caller code a b bytes = word_bytes (caller ∷ code ∷ a ∷ b ∷ 0 ∷ bytes ∷ []) ++ replicate bytes 0

-- "Callers and calls (reads with 512-byte buffers): 0 create(420,3); 2 open(that,1); 0 create(420,1); 0 create(420,1); 0 close 0; 2 read(0,0); 0 create(420,3);
-- 2 read(0,0)."
abbrev pub calls-bytes : List ℕ
calls-bytes =
    call 0 7 420 3 0
    ++ (call 2 8 2164260865 1 0
    ++ (call 0 7 420 1 0
    ++ (call 0 7 420 1 0
    ++ (call 0 9 0 0 0
    ++ (call 2 13 0 0 512
    ++ (call 0 7 420 3 0
    ++ call 2 13 0 0 512))))))

pub the-listing : listing (configuration-bytes ++ calls-bytes)
    ≡ lines (
    "n error first second"
    ∷ "1 XOK 2164260865 0"
    ∷ "2 XOK 0 0"
    ∷ "3 XOK 2164326401 1"
    ∷ "4 XnoSpace 0 0"
    ∷ "5 XOK 0 0"
    ∷ "6 XnoObj 0 0"
    ∷ "7 XOK 2164260866 0"
    ∷ "8 XnoObj 0 0"
    ∷ [])
unfolding open-table open-set-up open-calls open_step ascii error_names error_name same_addr over groups number_from numbers_from configuration_in replayable call_in script_in decimal_in hex shows_buffer line lines_from heading start_of script_listing listing word_bytes
the-listing = refl
