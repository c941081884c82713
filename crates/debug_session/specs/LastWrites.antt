-- Which instructions wrote a register last, in words.
use Rattle.std.specs.Prelude.{ℕ, List, ◌++◌, codes, decimal, Option, Some, None, option_map, slice_get, unwrap_or}
use Rattle.fs_model.specs.declared.sites.Site.{Site}
use Rattle.fs_model.specs.Case.{CaseData}
use Rattle.timeline.specs.Places.{state_at}
use Rattle.timeline.specs.Writes.{last_write}
use Rattle.debug_session.specs.Words.{word_words}

-- the instruction that wrote the register last before this place: how many were before it, and its address
abbrev pub write_before : CaseData → Option Site → ℕ → ℕ → Option (ℕ × ℕ)
write_before c flip k place = option_map (λ n. (n, (state_at c flip n).core.pc)) (last_write c flip k place)

-- what the register holds there
abbrev pub register_value : CaseData → Option Site → ℕ → ℕ → ℕ
register_value c flip k place = unwrap_or (slice_get (state_at c flip place).core.regs k) 0

abbrev pub instruction_words : ℕ → List ℕ
instruction_words n = codes ", written by instruction " ++ decimal n

abbrev pub at_words : ℕ → List ℕ
at_words pc = codes " at " ++ (word_words pc ++ codes "\n")

abbrev pub writer_words : Option (ℕ × ℕ) → List ℕ
writer_words (Some (n, pc)) = instruction_words n ++ at_words pc
writer_words None = codes ", not written before\n"

abbrev pub write_words : List ℕ → ℕ → ℕ → Option (ℕ × ℕ) → List ℕ
write_words name k value writer = name ++ (codes "x" ++ (decimal k ++ (codes " is " ++ (word_words value ++ writer_words writer))))

-- of one of the runs
abbrev pub run_words : List ℕ → CaseData → Option Site → ℕ → ℕ → List ℕ
run_words name c flip k place = write_words name k (register_value c flip k place) (write_before c flip k place)

-- of the injected run at the first place, and of the golden run at the second
abbrev pub last_write_words : CaseData → Site → ℕ → ℕ → ℕ → List ℕ
last_write_words c site k injected golden = run_words (codes "injected ") c (Some site) k injected ++ run_words (codes "golden   ") c None k golden
