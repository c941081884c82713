-- What is asked, and of what.
use Rattle.std.specs.Prelude.{◌≡◌, ℕ, List, length}
use Rattle.fs_model.specs.AccessLog.{log}
use Rattle.fs_model.specs.Job.{jobs_of}
use Rattle.golden_trace.specs.Goldens.{IsGolden}
use Rattle.answer_pages.specs.Text.{answers_text, lines_behind}
use Rattle.answer_pages.specs.declared.answers.Answers.{Answers}

-- the golden run and the jobs are those of the case, and the board has a place for each job
pub record IsOfOneCase (a : Answers) : Type 0 where
  pub golden : IsGolden a.case.now a.golden.now
  pub list : a.list.now ≡ jobs_of (log a.case.now)
  pub board : length a.board.now ≡ length a.list.now.list

-- the lines that are asked for, and those of the jobs from a number on
abbrev pub text_asked : Answers → List ℕ
text_asked a = answers_text a.case.now a.board.now a.chosen.now

abbrev pub lines_asked_behind : Answers → ℕ → List ℕ
lines_asked_behind a from = lines_behind a.case.now a.board.now a.chosen.now from
