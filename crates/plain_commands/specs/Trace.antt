-- The text of a trace: the run without a flip, a line for each instruction, then what it sent and how it ended.
use Rattle.std.specs.Prelude.{ℕ, zero, suc, List, [], ◌∷◌, ◌++◌, codes, decimal, Option, Some, None}
use Rattle.std.specs.Int.{w32, to_be_bytes}
use Rattle.hex.specs.Hex.{encode_lower}
use Rattle.fs_model.specs.Case.{CaseData}
use Rattle.fs_model.specs.Machine.{fetch}
use Rattle.fs_model.specs.Run.{End, Halt, Detect, Fault, Ending, Ended, Over, after, golden}

-- a number of 32 bits as eight hexadecimal digits
abbrev pub hex_word : ℕ → List ℕ
hex_word n = encode_lower (to_be_bytes w32 n)

-- the word that is fetched, or hyphens where nothing can be fetched
abbrev pub word_text : Option ℕ → List ℕ
word_text (Some word) = hex_word word
word_text None = codes "--------"

-- an instruction's number from 0, its pc and its word, with a space (32) between and the end of the line (10)
abbrev pub instruction_text : ℕ → ℕ → Option ℕ → List ℕ
instruction_text cycle pc word = decimal cycle ++ 32 ∷ (hex_word pc ++ 32 ∷ (word_text word ++ 10 ∷ []))

unfoldable pub instruction_line : CaseData → ℕ → List ℕ
instruction_line c t = instruction_text t (after c t).core.pc (fetch c (after c t).core)

-- the lines of the first n instructions
unfoldable pub instruction_lines : CaseData → ℕ → List ℕ
instruction_lines c zero = []
instruction_lines c (suc n) = instruction_lines c n ++ instruction_line c n

-- two hexadecimal digits for each byte, or a hyphen if there are no bytes
abbrev pub bytes_text : List ℕ → List ℕ
bytes_text [] = codes "-"
bytes_text (byte ∷ bytes) = encode_lower (byte ∷ bytes)

abbrev pub output_line : List ℕ → List ℕ
output_line output = codes "output " ++ (bytes_text output ++ 10 ∷ [])

abbrev pub end_line : End → List ℕ
end_line (Halt value) = codes "end halted " ++ (decimal value ++ 10 ∷ [])
end_line Detect = codes "end detected\n"
end_line (Fault kind) = codes "end trapped\n"

-- the trace of a run that ended so, or of one that had not ended at the limit
unfoldable pub trace_by : CaseData → Ending → List ℕ
trace_by c (Ended end steps output) = instruction_lines c steps ++ (output_line output ++ end_line end)
trace_by c Over = instruction_lines c c.limit ++ (output_line (after c c.limit).output ++ codes "end limit\n")

abbrev pub trace_text : CaseData → List ℕ
trace_text c = trace_by c (golden c)
