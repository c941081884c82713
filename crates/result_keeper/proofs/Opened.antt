-- When a file is accepted, and what is known of one that is.
use Rattle.std.proofs.Common.{◌≡◌, ℕ, ◌<◌, List, [], ◌∷◌, map, length, Option, Some, None, Result, Ok, Err, refl, sym, ◌∙◌, ap, subst, arith}
use Rattle.std.specs.Option.{option_map}
use Rattle.fs_model.specs.declared.sites.Job.{Job}
use Rattle.fs_model.specs.declared.outcomes.Outcome.{Outcome}
use Rattle.keep_format.specs.declared.header.Header.{Header}
use Rattle.keep_format.specs.declared.rows.KeptRow.{KeptRow}
use Rattle.keep_format.specs.declared.fault.FormatFault.{FormatFault}
use Rattle.keep_format.specs.declared.fault.FormatFault.TheVariants.{BadRow}
use Rattle.result_keeper.specs.declared.refusals.KeepRefusal.{KeepRefusal}
use Rattle.result_keeper.specs.declared.refusals.KeepRefusal.TheVariants.{Format, OtherCase}
use Rattle.fs_model.specs.Case.{CaseData}
use Rattle.fs_model.specs.Card.{card}
use Rattle.keep_format.specs.KeepFile.{KeptRows, FileData, header_of, card_of, kept_from, file_row_of, file_data}
use Rattle.fs_model.specs.Steps.{◌>>=◌, ◌>>◌}
use Rattle.keep_format.proofs.Agreeing.{agreeing_data, behind_card, behind_header, data_behind_header}
use Rattle.fs_model.specs.Job.{jobs_in}
use Rattle.result_keeper.specs.Acceptance.{board_of, difference, outcome_rows, stranger, of_format, accept}
use Rattle.result_keeper.specs.Accept.{IsAccepted}
use Rattle.result_keeper.specs.Boards.{filed}
use Rattle.result_keeper.proofs.Filing.{board_of-append}
use Rattle.result_keeper.proofs.Differences.{same_if, differ_itself}

-- the steps of an opening, from each of them on
abbrev named : List Job → List KeptRow → Option ℕ → Result (List (Option Outcome)) KeepRefusal
named list rows bad = option_map (λ at. Format (BadRow at)) bad >> Ok (board_of list (outcome_rows (map file_row_of rows)))

abbrev carded : List Job → Option ℕ → Result KeptRows FormatFault → Result (List (Option Outcome)) KeepRefusal
carded list other read = option_map OtherCase other >> (of_format read >>= λ kept. named list kept.rows (stranger list kept.rows))

abbrev headed : List ℕ → List Job → List ℕ → Result Header FormatFault → Result (List (Option Outcome)) KeepRefusal
headed bytes list file read = of_format read >>= λ header. carded list (difference (card_of file) bytes) (kept_from file header.gate)

accept_some : (file : List ℕ) (c : CaseData) → 0 < length file → accept file c ≡ headed (card c) (jobs_in c) file (header_of file)
unfolding accept
accept_some [] c some = absurd (omega arith)
accept_some (byte ∷ rest) c some = refl

-- ---- the refusals

module _ (file : List ℕ) (c : CaseData) (some : 0 < length file) where
  accept_whole : accept file c ≡ headed (card c) (jobs_in c) file (header_of file)
  accept_whole = accept_some file c some

  pub refused_head : (fault : FormatFault) → header_of file ≡ Err fault → accept file c ≡ Err (Format fault)
  refused_head fault is = accept_whole ∙ ap (headed (card c) (jobs_in c) file) is

  module _ (header : Header) (is : header_of file ≡ Ok header) where
    behind : accept file c ≡ carded (jobs_in c) (difference (card_of file) (card c)) (kept_from file header.gate)
    behind = accept_whole ∙ ap (headed (card c) (jobs_in c) file) is

    pub refused_case : (at : ℕ) → difference (card_of file) (card c) ≡ Some at → accept file c ≡ Err (OtherCase at)
    refused_case at other = behind ∙ ap (λ (d : Option ℕ). carded (jobs_in c) d (kept_from file header.gate)) other

    pub refused_batches : difference (card_of file) (card c) ≡ None → (fault : FormatFault) → kept_from file header.gate ≡ Err fault → accept file c ≡ Err (Format fault)
    refused_batches same fault not = behind ∙ ap (λ (d : Option ℕ). carded (jobs_in c) d (kept_from file header.gate)) same ∙ ap (carded (jobs_in c) None) not

    module _ (same : difference (card_of file) (card c) ≡ None) (kept : KeptRows) (read : kept_from file header.gate ≡ Ok kept) where
      rows_known : accept file c ≡ named (jobs_in c) kept.rows (stranger (jobs_in c) kept.rows)
      rows_known = behind ∙ ap (λ (d : Option ℕ). carded (jobs_in c) d (kept_from file header.gate)) same ∙ ap (carded (jobs_in c) None) read

      whole : file_data file ≡ Ok (record { card = card c; rows = kept.rows; gate = kept.gate })
      whole =
          data_behind_header file
          ∙ ap (behind_header file) is
          ∙ ap (behind_card (card_of file)) read
          ∙ ap (λ (bytes : List ℕ). let d : FileData = record { card = bytes; rows = kept.rows; gate = kept.gate } in Ok d) (same_if (card_of file) (card c) same)

      pub refused_row : (at : ℕ) → stranger (jobs_in c) kept.rows ≡ Some at → accept file c ≡ Err (Format (BadRow at))
      refused_row at bad = rows_known ∙ ap (named (jobs_in c) kept.rows) bad

      pub accepted : stranger (jobs_in c) kept.rows ≡ None → IsAccepted file c (board_of (jobs_in c) (outcome_rows (map file_row_of kept.rows))) kept.gate
      accepted fine = record {
        accepted = rows_known ∙ ap (named (jobs_in c) kept.rows) fine;
        records = record { rows = kept.rows; read = (agreeing_data file _ whole).0; named = fine; board_is = refl };
      }

-- ---- what is known of a board

-- a file that is accepted is empty, or has the card, and rows that all name jobs
pub data WasOpened (bytes : List ℕ) (list : List Job) (file : List ℕ) (board : List (Option Outcome)) : Type 0 where
  WasEmpty : file ≡ [] → board ≡ board_of list [] → WasOpened bytes list file board
  WasWhole : (rows : List KeptRow) (gate : ℕ) → file_data file ≡ Ok (record { card = bytes; rows = rows; gate = gate }) → stranger list rows ≡ None → board ≡ board_of list (outcome_rows (map file_row_of rows))
      → WasOpened bytes list file board

was_named : (bytes : List ℕ) (list : List Job) (file : List ℕ) (board : List (Option Outcome)) (rows : List KeptRow) (gate : ℕ) (bad : Option ℕ)
    → file_data file ≡ Ok (record { card = bytes; rows = rows; gate = gate }) → stranger list rows ≡ bad → named list rows bad ≡ Ok board → WasOpened bytes list file board
was_named bytes list file board rows gate (Some at) whole bad is = absurd (cc)
was_named bytes list file board rows gate None whole fine is = WasWhole rows gate whole fine (ok_same _ _ is)
  where
    ok_same : (x y : List (Option Outcome)) → (let r : Result (List (Option Outcome)) KeepRefusal = Ok x in r) ≡ Ok y → y ≡ x
    ok_same x y e = cc

was_carded : (bytes : List ℕ) (list : List Job) (file : List ℕ) (board : List (Option Outcome)) (at : Option ℕ) (kept : Result KeptRows FormatFault)
    → difference (card_of file) bytes ≡ at → file_data file ≡ behind_card (card_of file) kept → carded list at kept ≡ Ok board → WasOpened bytes list file board
was_carded bytes list file board (Some at) kept differ whole is = absurd (cc)
was_carded bytes list file board None (Err fault) differ whole is = absurd (cc)
was_carded bytes list file board None (Ok kept) differ whole is =
    was_named bytes list file board kept.rows kept.gate (stranger list kept.rows)
    (whole ∙ ap (λ (b : List ℕ). let d : FileData = record { card = b; rows = kept.rows; gate = kept.gate } in Ok d) (same_if (card_of file) bytes differ)) refl is

was_headed : (bytes : List ℕ) (list : List Job) (file : List ℕ) (board : List (Option Outcome)) (header : Result Header FormatFault)
    → file_data file ≡ behind_header file header → headed bytes list file header ≡ Ok board → WasOpened bytes list file board
was_headed bytes list file board (Err fault) whole is = absurd (cc)
was_headed bytes list file board (Ok header) whole is = was_carded bytes list file board (difference (card_of file) bytes) (kept_from file header.gate) refl whole is

pub was_accepted : (file : List ℕ) (c : CaseData) (board : List (Option Outcome)) → accept file c ≡ Ok board → WasOpened (card c) (jobs_in c) file board
unfolding accept
was_accepted [] c board is = WasEmpty refl (ok_same _ _ is)
  where
    ok_same : (x y : List (Option Outcome)) → (let r : Result (List (Option Outcome)) KeepRefusal = Ok x in r) ≡ Ok y → y ≡ x
    ok_same x y e = cc
was_accepted (byte ∷ rest) c board is =
    was_headed (card c) (jobs_in c) (byte ∷ rest) board (header_of (byte ∷ rest)) (data_behind_header (byte ∷ rest)) is

-- and back
if_carded : (bytes : List ℕ) (list : List Job) (file : List ℕ) (kept : Result KeptRows FormatFault) (rows : List KeptRow) (gate : ℕ)
    → behind_card (card_of file) kept ≡ Ok (record { card = bytes; rows = rows; gate = gate }) → stranger list rows ≡ None → carded list (difference (card_of file) bytes) kept ≡ Ok (board_of list (outcome_rows (map file_row_of rows)))
if_carded bytes list file (Err fault) rows gate whole fine = absurd (cc)
if_carded bytes list file (Ok kept) rows gate whole fine =
    let same_card : card_of file ≡ bytes = part (λ (d : FileData). d.card) whole in
    let same_rows : kept.rows ≡ rows = part (λ (d : FileData). d.rows) whole in
    ap (λ (d : Option ℕ). carded list d (Ok kept)) (ap (λ (b : List ℕ). difference b bytes) same_card ∙ differ_itself bytes)
    ∙ ap (λ (l : List KeptRow). named list l (stranger list l)) same_rows
    ∙ ap (named list rows) fine
  where
    part : {A : Type 0} (f : FileData → A) {x y : FileData} → (let r : Result FileData FormatFault = Ok x in r) ≡ Ok y → f x ≡ f y
    part f {x} {y} e = ap f (let s : x ≡ y = cc in s)

if_header : (bytes : List ℕ) (list : List Job) (file : List ℕ) (header : Result Header FormatFault) (rows : List KeptRow) (gate : ℕ)
    → behind_header file header ≡ Ok (record { card = bytes; rows = rows; gate = gate }) → stranger list rows ≡ None → headed bytes list file header ≡ Ok (board_of list (outcome_rows (map file_row_of rows)))
if_header bytes list file (Err fault) rows gate whole fine = absurd (cc)
if_header bytes list file (Ok header) rows gate whole fine = if_carded bytes list file (kept_from file header.gate) rows gate whole fine

pub accept_if : (file : List ℕ) (c : CaseData) (rows : List KeptRow) (gate : ℕ)
    → file_data file ≡ Ok (record { card = card c; rows = rows; gate = gate }) → stranger (jobs_in c) rows ≡ None → accept file c ≡ Ok (board_of (jobs_in c) (outcome_rows (map file_row_of rows)))
unfolding accept
accept_if [] c rows gate whole fine = absurd (cc)
accept_if (byte ∷ rest) c rows gate whole fine =
    if_header (card c) (jobs_in c) (byte ∷ rest) (header_of (byte ∷ rest)) rows gate (sym (data_behind_header (byte ∷ rest)) ∙ whole) fine

pub accept_empty : (file : List ℕ) (c : CaseData) → file ≡ [] → accept file c ≡ Ok (board_of (jobs_in c) [])
unfolding accept
accept_empty file c is = ap (λ (f : List ℕ). accept f c) is

-- ---- the last steps of an opening

module _ (file : List ℕ) (c : CaseData) (some : 0 < length file) (header : Header) (is : header_of file ≡ Ok header) (same : difference (card_of file) (card c) ≡ None)
    (kept : KeptRows) (read : kept_from file header.gate ≡ Ok kept) (list : List Job) (jobs : list ≡ jobs_in c) (rows : List KeptRow) (rows_are : rows ≡ kept.rows) where
  found_in : (bad : Option ℕ) → bad ≡ stranger list rows → stranger (jobs_in c) kept.rows ≡ bad
  found_in bad told = sym (told ∙ ap (λ (l : List KeptRow). stranger list l) rows_are ∙ ap (λ (l : List Job). stranger l kept.rows) jobs)

  pub ends_refused : (at : ℕ) → Some at ≡ stranger list rows → accept file c ≡ Err (Format (BadRow at))
  ends_refused at told = refused_row file c some header is same kept read at (found_in (Some at) told)

  pub ends_accepted : (blank board : List (Option Outcome)) (gate : ℕ) → None ≡ stranger list rows → blank ≡ board_of list [] → board ≡ filed list blank (outcome_rows (map file_row_of rows)) → gate ≡ kept.gate → IsAccepted file c board gate
  ends_accepted blank board gate told blank_is board_is gate_is =
      let all : board ≡ board_of (jobs_in c) (outcome_rows (map file_row_of kept.rows)) =
      board_is
      ∙ ap (λ (b : List (Option Outcome)). filed list b (outcome_rows (map file_row_of rows))) blank_is
      ∙ sym (board_of-append list [] (outcome_rows (map file_row_of rows)))
      ∙ ap (λ (l : List KeptRow). board_of list (outcome_rows (map file_row_of l))) rows_are
      ∙ ap (λ (l : List Job). board_of l (outcome_rows (map file_row_of kept.rows))) jobs in
      subst (λ (g : ℕ). IsAccepted file c board g) (sym gate_is)
      (subst (λ (b : List (Option Outcome)). IsAccepted file c b kept.gate) (sym all) (accepted file c some header is same kept read (found_in None told)))
