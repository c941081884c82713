-- Reports of boards whose outcomes are right.
use Rattle.std.proofs.Common.{◌≡◌, ℕ, zero, suc, ◌+◌, ◌<◌, cond, Bool, true, false, List, [], ◌∷◌, ◌++◌, length, map, Option, Some, None, Result, Ok, refl, sym, ap, ◌∙◌, arith}
use Rattle.std.specs.Prelude.{slice_get}
use Rattle.std.proofs.Math.Path.{fun_ext}
use Rattle.fs_model.specs.declared.sites.Site.{Site}
use Rattle.fs_model.specs.declared.sites.Job.{Job}
use Rattle.result_keeper.specs.declared.refusals.KeepRefusal.{KeepRefusal}
use Rattle.fs_model.specs.declared.outcomes.Outcome.{Outcome}
use Rattle.fs_model.specs.declared.outcomes.Outcome.TheVariants.{NoEffect}
use Rattle.fs_model.specs.Card.{HasCard, card}
use Rattle.fs_model.specs.Job.{jobs_in, JobTable, jobs_of, site_of, HasOutcomes}
use Rattle.result_keeper.specs.Acceptance.{IsSound, board_of, outcome_rows}
use Rattle.fs_model.specs.AccessLog.{log, dead}
use Rattle.fs_model.specs.Case.{CaseData}
use Rattle.fs_model.specs.Filling.{board_filled, board_total}
use Rattle.keep_format.specs.KeepFile.{file_row_of}
use Rattle.fs_model.specs.Outcome.{TotalsData, outcome, count, total_at, same_outcome}
use Rattle.fs_model.specs.Pages.{missing, missing_from}
use Rattle.fs_model.specs.Run.{cycles}
use Rattle.fs_model.specs.Site.{sites_of}
use Rattle.fault_space.proofs.Boards.{at_end, counts_right}
use Rattle.result_keeper.proofs.Filing.{length-board_of}
use Rattle.result_keeper.proofs.Opened.{WasOpened, WasEmpty, WasWhole, was_accepted}
use Rattle.result_keeper.proofs.Sound.{blank_right}
use Rattle.fs_model.proofs.Tables.{list_of, dead_of}
use Rattle.campaign.proofs.Whole.{filled_right}
use Rattle.command_line.specs.declared.commands.Format.{Format}
use Rattle.command_line.specs.declared.commands.Format.TheVariants as format
use Rattle.phases.specs.Reports.{board_totals, report_of_kept, kept_report, report_in, report_of, run_report, true_board}
use Rattle.audit.specs.Text.{numbers_line, wrong_of}
use Rattle.audit.proofs.Right.{right_counted, right_lines}
use Rattle.def_use.specs.Board.{kept_of as kept_of_board}
use Rattle.campaign.specs.Perform.{IsShort}
use Rattle.campaign.specs.Shards.{in_shard}
use Rattle.kept_commands.specs.Run.{no_job}
use Rattle.kept_commands.proofs.RightRows.{rows_give_right}
use Rattle.kept_commands.specs.Keep.{AuditSays, Finishes, GivesRight, IsTrusted, ReportSays, RunSays, kept_on, opening, sound_audit}

-- ---- boards

pub same_board : (a b : List (Option Outcome)) → (let r : Result (List (Option Outcome)) KeepRefusal = Ok a in r) ≡ Ok b → b ≡ a
same_board a b e = cc

pub length-filled : (outcomes : Site → Outcome) (list : List Job) (board : List (Option Outcome)) → length board ≡ length list → length (board_filled outcomes list board) ≡ length list
unfolding board_filled
length-filled outcomes [] board long = refl
length-filled outcomes (job ∷ list) [] long = absurd (omega arith)
length-filled outcomes (job ∷ list) (place ∷ board) long = let h = length-filled outcomes list board (omega arith) in omega (arith, h)

-- no blank is left
pub each_place : (outcomes : Site → Outcome) (list : List Job) (board : List (Option Outcome)) (i : ℕ) → length board ≡ length list → i < length list → (o : Outcome) × (slice_get (board_filled outcomes list board) i ≡ Some (Some o))
unfolding board_filled
each_place outcomes [] board i long lt = absurd (omega arith)
each_place outcomes (job ∷ list) [] i long lt = absurd (omega arith)
each_place outcomes (job ∷ list) (None ∷ board) zero long lt = (outcomes (site_of job), refl)
each_place outcomes (job ∷ list) (Some o ∷ board) zero long lt = (o, refl)
each_place outcomes (job ∷ list) (place ∷ board) (suc i) long lt = each_place outcomes list board i (omega arith) (omega arith)

-- a board that is right and whole has the outcomes of its jobs' sites
whole_is : (outcomes : Site → Outcome) (at : ℕ) (list : List Job) (board blank : List (Option Outcome)) → length board ≡ length list → length blank ≡ length list → blank ≡ board_of list []
    → HasOutcomes outcomes list board → missing_from at board ≡ [] → board ≡ board_filled outcomes list blank
unfolding board_filled
whole_is outcomes at [] [] blank long short is right none = refl
whole_is outcomes at [] (place ∷ board) blank long short is right none = absurd (omega arith)
whole_is outcomes at (job ∷ list) [] blank long short is right none = absurd (omega arith)
whole_is outcomes at (job ∷ list) (place ∷ board) [] long short is right none = absurd (omega arith)
whole_is outcomes at (job ∷ list) (None ∷ board) (first ∷ blank) long short is right none = absurd (cc)
whole_is outcomes at (job ∷ list) (Some o ∷ board) (Some p ∷ blank) long short is right none = absurd (cc)
whole_is outcomes at (job ∷ list) (Some o ∷ board) (None ∷ blank) long short is right none =
    let o_is : o ≡ outcomes (site_of job) = right 0 job o refl refl in
    let rest_is : blank ≡ board_of list [] = cc in
    ap (λ (x : Outcome). Some x ∷ board) o_is
    ∙ ap (λ (b : List (Option Outcome)). Some (outcomes (site_of job)) ∷ b) (whole_is outcomes (at + 1) list board blank (omega arith) (omega arith) rest_is (λ i j x a b. right (suc i) j x a b) none)

module _ (c : CaseData) where
  -- ---- what an opening gives

  -- a sound file gives right outcomes
  pub sound_right : (file : List ℕ) → HasCard c → IsSound file → GivesRight file c
  unfolding IsSound
  sound_right file has sound board is = (sound c board has is).0

  -- what a command takes from a file that gives right outcomes, or does not take, is right
  pub board_right : (fresh : Bool) (file : List ℕ) (board : List (Option Outcome)) → opening fresh file c ≡ Ok board → (fresh ≡ false → GivesRight file c) → HasOutcomes (outcome c) (jobs_in c) board
  board_right true file board is trust = blank_right c board (same_board (board_of (jobs_in c) []) board is)
  board_right false file board is trust = trust refl board is

  pub open_right : (fresh : Bool) (file : List ℕ) (board : List (Option Outcome)) → opening fresh file c ≡ Ok board → IsTrusted fresh file c → HasOutcomes (outcome c) (jobs_in c) board
  open_right fresh file board is trust = board_right fresh file board is (λ continues. rows_give_right c file (trust continues))

  accepted_long : (file : List ℕ) (board : List (Option Outcome)) → WasOpened (card c) (jobs_in c) file board → length board ≡ length (jobs_in c)
  accepted_long file board (WasEmpty none is) = ap length is ∙ length-board_of (jobs_in c) []
  accepted_long file board (WasWhole rows gate whole fine is) = ap length is ∙ length-board_of (jobs_in c) (outcome_rows (map file_row_of rows))

  pub open_long : (fresh : Bool) (file : List ℕ) (board : List (Option Outcome)) → opening fresh file c ≡ Ok board → length board ≡ length (jobs_in c)
  open_long true file board is = ap length (same_board (board_of (jobs_in c) []) board is) ∙ length-board_of (jobs_in c) []
  open_long false file board is = accepted_long file board (was_accepted file c board is)

  -- ---- what it counts

  pub whole_counts : (board : List (Option Outcome)) → length board ≡ length (jobs_in c) → HasOutcomes (outcome c) (jobs_in c) board
      → ((i : ℕ) → i < length (jobs_in c) → (o : Outcome) × (slice_get board i ≡ Some (Some o))) → (o : Outcome) → board_totals c board o ≡ count c o
  unfolding jobs_of
  whole_counts board long right whole o =
      counts_right c (jobs_of (log c)) board (length (jobs_in c)) (board_totals c board o) o refl right (omega arith) long whole
      (ap (λ (n : ℕ). n + cond (same_outcome NoEffect o) (dead (log c)) 0) (sym (at_end (jobs_in c) board (length (jobs_in c)) o (omega arith) long)))

  -- the totals of a table of the case's jobs that were counted
  pub table_totals : (table : JobTable) (t : TotalsData) (board : List (Option Outcome)) → table ≡ jobs_of (log c)
      → ((o : Outcome) → total_at t o ≡ board_total table.list board o + cond (same_outcome NoEffect o) table.dead 0) → (o : Outcome) → total_at t o ≡ board_totals c board o
  table_totals table t board is each o =
      each o
      ∙ ap (λ (l : List Job). board_total l board o + cond (same_outcome NoEffect o) table.dead 0) (list_of c table is)
      ∙ ap (λ (d : ℕ). board_total (jobs_in c) board o + cond (same_outcome NoEffect o) d 0) (dead_of c table is)

  -- the same of a board with its blanks filled, whose case is this one
  pub run_totals : (d : CaseData) (t : TotalsData) (board : List (Option Outcome)) → d ≡ c
      → ((o : Outcome) → total_at t o ≡ board_total (jobs_in d) (board_filled (outcome d) (jobs_in d) board) o + cond (same_outcome NoEffect o) (dead (log d)) 0)
      → (o : Outcome) → total_at t o ≡ board_totals c (board_filled (outcome c) (jobs_in c) board) o
  run_totals d t board same each o =
      each o ∙ ap (λ (x : CaseData). board_total (jobs_in x) (board_filled (outcome x) (jobs_in x) board) o + cond (same_outcome NoEffect o) (dead (log x)) 0) same

  pub run_counts : (asked : Format) (board : List (Option Outcome)) → length board ≡ length (jobs_in c) → HasOutcomes (outcome c) (jobs_in c) board → run_report asked c board ≡ report_of asked c
  run_counts asked board long right =
      ap (report_in asked (cycles c) (length (sites_of c)))
      (fun_ext (whole_counts (board_filled (outcome c) (jobs_in c) board) (length-filled (outcome c) (jobs_in c) board long) (filled_right (outcome c) (jobs_in c) board right) (λ i lt. each_place (outcome c) (jobs_in c) board i long lt)))

  true_counts : (asked : Format) → kept_report asked c (true_board c) ≡ report_of_kept asked c
  true_counts format.Text = run_counts format.Text (board_of (jobs_in c) []) (length-board_of (jobs_in c) []) (blank_right c (board_of (jobs_in c) []) refl)
  true_counts format.Json = run_counts format.Json (board_of (jobs_in c) []) (length-board_of (jobs_in c) []) (blank_right c (board_of (jobs_in c) []) refl)
  true_counts format.Csv = refl

  pub none_missing : (board : List (Option Outcome)) → (IsShort (Some 0) (in_shard None) board → ⊥) → missing board ≡ []
  none_missing board within = by (missing board) refl
    where
      by : (ns : List ℕ) → missing board ≡ ns → ns ≡ []
      by [] is = refl
      by (n ∷ ns) is = absurd (within (let l = ap length is in omega (arith, l)))

  pub report_counts : (asked : Format) (board : List (Option Outcome)) → length board ≡ length (jobs_in c) → HasOutcomes (outcome c) (jobs_in c) board → missing board ≡ [] → kept_report asked c board ≡ report_of_kept asked c
  report_counts asked board long right none =
      ap (kept_report asked c) (whole_is (outcome c) 0 (jobs_in c) board (board_of (jobs_in c) []) long (length-board_of (jobs_in c) []) refl right none) ∙ true_counts asked

  -- ---- what is written

  -- where the file gives right outcomes, `run` says the counts of the case,
  pub run_text : (f : Format) (fresh : Bool) (file text : List ℕ) → RunSays f fresh file c text → (fresh ≡ false → GivesRight file c) → text ≡ report_of f c
  run_text f fresh file text says trust =
      says.2 ∙ run_counts f says.0 (open_long fresh file says.0 says.1) (board_right fresh file says.0 says.1 trust)

  -- and `report`, where no job is missing, those or each job
  pub report_text : (f : Format) (fresh : Bool) (file text : List ℕ) → ReportSays f fresh file c text → (fresh ≡ false → GivesRight file c) → Finishes fresh no_job file c → text ≡ report_of_kept f c
  report_text f fresh file text says trust end =
      let right = board_right fresh file says.0 says.1 trust in
      let same : end.board ≡ says.0 = same_board says.0 end.board (sym says.1 ∙ end.opened) in
      let none : missing says.0 ≡ [] = ap missing (sym same) ∙ none_missing end.board end.within in
      says.2 ∙ report_counts f says.0 (open_long fresh file says.0 says.1) right none

  -- and `audit` that nothing is wrong
  pub audit_right : (file text : List ℕ) → AuditSays file c text → GivesRight file c → text ≡ sound_audit file c
  audit_right file text says right_file =
      let board = says.0 in
      let right = board_right false file board says.1 (λ _. right_file) in
      says.2 ∙ ap (λ (lines : List ℕ). lines ++ numbers_line (kept_of_board board) (wrong_of c board)) (right_lines c board right)
      ∙ ap (λ (n : ℕ). numbers_line (kept_of_board board) n) (right_counted c board right)
      ∙ ap (λ (r : Result (List (Option Outcome)) KeepRefusal). numbers_line (kept_on r) 0) (sym says.1)

  -- of a file that is begun anew nothing is used
  pub fresh_text : (f : Format) (file text : List ℕ) → RunSays f true file c text → text ≡ report_of f c
  fresh_text f file text says =
      let board_is = same_board (board_of (jobs_in c) []) says.0 says.1 in
      says.2 ∙ run_counts f says.0 (open_long true file says.0 says.1) (blank_right c says.0 board_is)
