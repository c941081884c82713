-- The texts of reports: lines of a word and a number, JSON, and comma-separated values.
use Rattle.std.specs.Prelude.{ℕ, List, [], ◌∷◌, ◌++◌, Option, Some, None, codes, decimal, zip}
use Rattle.std.specs.List.{flat_map}
use Rattle.fs_model.specs.declared.outcomes.Outcome.{Outcome}
use Rattle.fs_model.specs.declared.outcomes.Outcome.TheVariants.{NoEffect, Silent, Detected, Illegal, Address, Misaligned, Timeout}
use Rattle.fs_model.specs.declared.sites.Job.{Job}
use Rattle.fs_model.specs.Outcome.{all_outcomes, outcome_word}

-- ---- lines

-- a word, a space (32), a number in decimal digits, and the end of the line (10)
abbrev pub line_text : List ℕ → ℕ → List ℕ
line_text word n = word ++ 32 ∷ (decimal n ++ 10 ∷ [])

abbrev pub lines_text : List (List ℕ × ℕ) → List ℕ
lines_text lines = flat_map (λ (l : List ℕ × ℕ). line_text l.0 l.1) lines

-- how many sites have each of these outcomes
abbrev pub outcomes_text : List Outcome → (Outcome → ℕ) → List ℕ
outcomes_text outcomes counts = flat_map (λ (o : Outcome). line_text (outcome_word o) (counts o)) outcomes

-- how many instructions the golden run has, how many sites there are, and how many of these have each outcome
abbrev pub text : ℕ → ℕ → (Outcome → ℕ) → List ℕ
text cycles sites counts =
    lines_text ((codes "instructions", cycles) ∷ (codes "sites", sites) ∷ []) ++ outcomes_text all_outcomes counts

-- how many instructions the golden run has, how many of them are in a window, how many sites these have, and how many of the sites
-- have each outcome
abbrev pub window_text : ℕ → ℕ → ℕ → (Outcome → ℕ) → List ℕ
window_text cycles inside sites counts =
    lines_text ((codes "instructions", cycles) ∷ (codes "window", inside) ∷ (codes "sites", sites) ∷ []) ++ outcomes_text all_outcomes counts

-- how many instructions the golden run has, how many sites there were to draw from, how many draws there were, and how many of
-- these hit a site of each outcome
abbrev pub sample_text : ℕ → ℕ → ℕ → (Outcome → ℕ) → List ℕ
sample_text cycles population samples counts =
    lines_text ((codes "instructions", cycles) ∷ (codes "population", population) ∷ (codes "samples", samples) ∷ []) ++ outcomes_text all_outcomes counts

-- how many jobs there are beside the instructions and sites, and how many sites belong to one and to none
abbrev pub plan_text : ℕ → ℕ → ℕ → ℕ → ℕ → List ℕ
plan_text cycles sites jobs live dead = lines_text (
    (codes "instructions", cycles) ∷
    (codes "sites", sites) ∷
    (codes "jobs", jobs) ∷
    (codes "live", live) ∷
    (codes "dead", dead) ∷ [])

-- ---- JSON

-- the numbers of `text`, their keys in ascending order
abbrev pub json_members : ℕ → ℕ → (Outcome → ℕ) → List (List ℕ × ℕ)
json_members cycles sites counts =
    (codes "address", counts Address) ∷
    (codes "detected", counts Detected) ∷
    (codes "illegal", counts Illegal) ∷
    (codes "instructions", cycles) ∷
    (codes "misaligned", counts Misaligned) ∷
    (codes "no_effect", counts NoEffect) ∷
    (codes "silent", counts Silent) ∷
    (codes "sites", sites) ∷
    (codes "timeout", counts Timeout) ∷ []

-- the numbers of `window_text`
abbrev pub window_members : ℕ → ℕ → ℕ → (Outcome → ℕ) → List (List ℕ × ℕ)
window_members cycles inside sites counts =
    (codes "address", counts Address) ∷
    (codes "detected", counts Detected) ∷
    (codes "illegal", counts Illegal) ∷
    (codes "instructions", cycles) ∷
    (codes "misaligned", counts Misaligned) ∷
    (codes "no_effect", counts NoEffect) ∷
    (codes "silent", counts Silent) ∷
    (codes "sites", sites) ∷
    (codes "timeout", counts Timeout) ∷
    (codes "window", inside) ∷ []

-- a key in quotes (34), a colon (58), and the number
abbrev pub member_text : List ℕ × ℕ → List ℕ → List ℕ
member_text m rest = 34 ∷ (m.0 ++ 34 ∷ 58 ∷ (decimal m.1 ++ rest))

-- members with a comma (44) before each, and the closing brace (125)
abbrev pub more_members : List (List ℕ × ℕ) → List ℕ
more_members [] = 125 ∷ []
more_members (m ∷ members) = 44 ∷ member_text m (more_members members)

-- an object with no space
abbrev pub object_text : List (List ℕ × ℕ) → List ℕ
object_text [] = codes "{}"
object_text (m ∷ members) = 123 ∷ member_text m (more_members members)

abbrev pub json_object : ℕ → ℕ → (Outcome → ℕ) → List ℕ
json_object cycles sites counts = object_text (json_members cycles sites counts)

-- and the end of the line (10)
abbrev pub json : ℕ → ℕ → (Outcome → ℕ) → List ℕ
json cycles sites counts = json_object cycles sites counts ++ 10 ∷ []

abbrev pub window_object : ℕ → ℕ → ℕ → (Outcome → ℕ) → List ℕ
window_object cycles inside sites counts = object_text (window_members cycles inside sites counts)

abbrev pub window_json : ℕ → ℕ → ℕ → (Outcome → ℕ) → List ℕ
window_json cycles inside sites counts = window_object cycles inside sites counts ++ 10 ∷ []

-- ---- comma-separated values

-- a comma (44), and the text
abbrev pub then_text : List ℕ → List ℕ → List ℕ
then_text text rest = 44 ∷ (text ++ rest)

-- cycle, cell, bit and weight, and then the rest of the line
abbrev pub job_fields : Job → List ℕ → List ℕ
job_fields job rest =
    decimal job.cycle ++ then_text (decimal job.cell) (then_text (decimal job.bit) (then_text (decimal job.weight) rest))

abbrev pub job_row : Job → List ℕ
job_row job = job_fields job (10 ∷ [])

-- the names of the columns, and a line for each job
abbrev pub plan_csv : List Job → List ℕ
plan_csv jobs = codes "cycle,cell,bit,weight\n" ++ flat_map job_row jobs

-- a job with its outcome; a job that has none yet has no line
abbrev pub outcome_row : Job → Option Outcome → List ℕ
outcome_row job None = []
outcome_row job (Some outcome) = job_fields job (then_text (outcome_word outcome) (10 ∷ []))

-- the names of the columns, and a line for each job with its outcome, which is at the job's place on a board
abbrev pub jobs_csv : List Job → List (Option Outcome) → List ℕ
jobs_csv jobs board =
    codes "cycle,cell,bit,weight,outcome\n" ++ flat_map (λ (row : Job × Option Outcome). outcome_row row.0 row.1) (zip jobs board)
