-- The text of an audit.
use Rattle.std.specs.Prelude.{ℕ, Bool, false, not, if◌then◌else◌, List, [], ◌++◌, Option, Some, None, codes, count_by, decimal, zip}
use Rattle.std.specs.List.{flat_map}
use Rattle.fs_model.specs.declared.outcomes.Outcome.{Outcome}
use Rattle.fs_model.specs.declared.sites.Job.{Job}
use Rattle.fs_model.specs.Case.{CaseData}
use Rattle.fs_model.specs.Job.{jobs_in, site_of}
use Rattle.fs_model.specs.Outcome.{outcome, outcome_word, same_outcome}
use Rattle.def_use.specs.Board.{kept_of}

-- ---- the lines

-- cycle, cell and bit of a job, the outcome that is kept of it, and the true one
abbrev pub wrong_line : Job → Outcome → Outcome → List ℕ
wrong_line job kept true_one =
    codes "wrong " ++ (decimal job.cycle
    ++ (codes " " ++ (decimal job.cell
    ++ (codes " " ++ (decimal job.bit
    ++ (codes " " ++ (outcome_word kept
    ++ (codes " " ++ (outcome_word true_one
    ++ codes "\n")))))))))

-- how many jobs have an outcome, and how many of these a wrong one
abbrev pub numbers_line : ℕ → ℕ → List ℕ
numbers_line kept wrong = codes "kept " ++ (decimal kept ++ (codes " wrong " ++ (decimal wrong ++ codes "\n")))

-- ---- a place of a board

-- it has an outcome, and this is not that of its job's site
abbrev pub is_wrong : CaseData → Job → Option Outcome → Bool
is_wrong c job None = false
is_wrong c job (Some kept) = not (same_outcome kept (outcome c (site_of job)))

-- its line, where its outcome is wrong
abbrev pub place_text : CaseData → Job → Option Outcome → List ℕ
place_text c job None = []
place_text c job (Some kept) = if same_outcome kept (outcome c (site_of job)) then [] else wrong_line job kept (outcome c (site_of job))

-- ---- a board

-- how many of its outcomes are wrong
abbrev pub wrong_of : CaseData → List (Option Outcome) → ℕ
wrong_of c board = count_by (λ (row : Job × Option Outcome). is_wrong c row.0 row.1) (zip (jobs_in c) board)

abbrev pub audit_lines : CaseData → List (Option Outcome) → List ℕ
audit_lines c board = flat_map (λ (row : Job × Option Outcome). place_text c row.0 row.1) (zip (jobs_in c) board)

-- a line for each job whose outcome on the board is not that of its own site, in the order of the jobs, and then the numbers
abbrev pub audit_text : CaseData → List (Option Outcome) → List ℕ
audit_text c board = audit_lines c board ++ numbers_line (kept_of board) (wrong_of c board)
