-- The line of a job: its site, its weight, its outcome, and the answer of its injected run.
use Rattle.std.specs.Prelude.{ℕ, List, [], ◌∷◌, ◌++◌, Option, Some, None, codes, decimal}
use Rattle.hex.specs.Hex.{encode_lower}
use Rattle.fs_model.specs.declared.outcomes.Outcome.{Outcome}
use Rattle.fs_model.specs.declared.sites.Job.{Job}
use Rattle.fs_model.specs.Case.{CaseData}
use Rattle.fs_model.specs.Job.{site_of}
use Rattle.fs_model.specs.Outcome.{outcome, outcome_word}
use Rattle.fs_model.specs.Run.{End, Halt, Detect, Fault}
use Rattle.run_answers.specs.Answers.{Answer, answer_of}

-- two hexadecimal digits for each byte, or a hyphen if there are no bytes
abbrev pub bytes_word : List ℕ → List ℕ
bytes_word [] = codes "-"
bytes_word (byte ∷ bytes) = encode_lower (byte ∷ bytes)

abbrev pub end_words : Option End → List ℕ
end_words None = codes "limit"
end_words (Some (Halt value)) = codes "halted " ++ decimal value
end_words (Some Detect) = codes "detected"
end_words (Some (Fault kind)) = codes "trapped"

-- the words of the site, the weight and the outcome, each with a space after it
abbrev pub job_words : Job → Outcome → List ℕ
job_words job o =
    decimal job.cycle ++ (codes " " ++ (decimal job.cell ++ (codes " " ++ (decimal job.bit
    ++ (codes " " ++ (decimal job.weight ++ (codes " " ++ (outcome_word o ++ codes " "))))))))

abbrev pub line_with : Job → Outcome → Answer → List ℕ
line_with job o answer = job_words job o ++ (bytes_word answer.output ++ (codes " " ++ (end_words answer.end ++ codes "\n")))

-- the line of a job, with the outcome and the answer of its own run
unfoldable pub answer_line : CaseData → Job → List ℕ
answer_line c job = line_with job (outcome c (site_of job)) (answer_of c (site_of job))
