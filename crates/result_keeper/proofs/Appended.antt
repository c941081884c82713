-- What an append leaves at any moment.
use Rattle.std.proofs.Common.{All, ◌≡◌, ◌≢◌, ◌⊎◌, inl, inr, ⊎_elim, ℕ, ◌+◌, ◌*◌, ◌^◌, ◌<◌, ◌≤◌, true, false, ◌==◌, List, [], ◌∷◌, ◌++◌, map, length, take, drop, get_or, Option, Some, None, Result, Ok, Err, refl, sym, ◌∙◌, ap, subst, arith, append_assoc, length-append}
use Rattle.std.proofs.lemmas.List.{drop_more, length-drop}
use Rattle.std.proofs.lemmas.Bool.Decides.{eqb_tells}
use Rattle.fs_outside.specs.Past.{Past, content, overwritten, Torn, IsImage, IsSynced, EachImage, LeavesOnly}
use Rattle.fs_outside.proofs.Moments.{weaker, image_if_synced}
use Rattle.fs_model.specs.declared.sites.Job.{Job}
use Rattle.fs_model.specs.declared.outcomes.Outcome.{Outcome}
use Rattle.fs_model.specs.declared.outcomes.Row.{Row}
use Rattle.keep_format.specs.declared.rows.KeptRow.{KeptRow}
use Rattle.keep_format.specs.declared.fault.FormatFault.{FormatFault}
use Rattle.fs_model.specs.Case.{CaseData}
use Rattle.fs_model.specs.Card.{card, HasCard}
use Rattle.fs_model.specs.Verdict.{IsRight}
use Rattle.keep_format.specs.KeepFile.{FileData, FileRow, KeptFile, IsWritable, batch_bytes, placed, file_row_of, conflict_in, file_data, recorded, kept, rows_held, added_rows}
use Rattle.fs_model.specs.Job.{jobs_in}
use Rattle.result_keeper.specs.Acceptance.{HasRightOldRows, IsSound, accept, board_of, outcome_rows}
use Rattle.result_keeper.specs.Boards.{filed, AreFileable}
use Rattle.result_keeper.specs.Keep.{IsBodyOrGate, IsBeforeOrAfter, HoldsMore, HoldsSame, IsSettled, RowStays, Gives}
use Rattle.result_keeper.proofs.Files.{IsFile, file_rows, file_kept, file_recorded, is_file, gate_there, image_closed, image_opened, stranger-append, all_named}
use Rattle.result_keeper.proofs.Gives.{gives_more, settled_gives}
use Rattle.result_keeper.proofs.KeptRows.{board_and_written, rows_and_placed}
use Rattle.result_keeper.proofs.Opened.{accept_if}
use Rattle.result_keeper.proofs.OldRows.{old_either, old_none, sound_old}
use Rattle.result_keeper.proofs.Right.{none_behind_old}
use Rattle.result_keeper.proofs.Sound.{known_rows, sound_either, sound_none}
use Rattle.result_keeper.proofs.Stays.{stays_either}
use Rattle.result_keeper.proofs.Written.{take-overwritten, drop-overwritten, first_known}
use Rattle.keep_format.proofs.Agreeing.{data_if_agreeing, kept_by_read, kept_if_agreeing, kept_if_apart}
use Rattle.keep_format.proofs.Lists.{conflict-append, conflict-front}
use Rattle.keep_format.proofs.Walks.{front_behind, shorter_front}

module _ (file card : List ℕ) (rows : List KeptRow) (gate : ℕ) (is : IsFile file card rows gate) (new : List Row) (few : length new < 2 ^ 16) (fit : All IsWritable new)
    (body : List ℕ) (body_is : body ≡ batch_bytes new ++ 0 ∷ []) where
  pub gate_within : gate + 1 ≤ length file
  gate_within = let there = gate_there file file card rows gate is in let l = length-drop gate file in let m = ap length there.2 in omega (arith, l, m)

  staged_front : take gate (overwritten file (gate + 1) body) ≡ take gate file
  staged_front = shorter_front gate (gate + 1) (overwritten file (gate + 1) body) file (omega arith) (take-overwritten file (gate + 1) body gate_within)

  staged_behind : drop (gate + 1) (overwritten file (gate + 1) body) ≡ batch_bytes new ++ 0 ∷ drop (gate + 1 + length body) file
  staged_behind =
      drop-overwritten file (gate + 1) body gate_within
      ∙ ap (λ (l : List ℕ). l ++ drop (gate + 1 + length body) file) body_is
      ∙ append_assoc (batch_bytes new) (0 ∷ []) (drop (gate + 1 + length body) file)

  -- with the gate closed, whatever stands behind it
  torn_body : (image : List ℕ) → Torn file (gate + 1) (length body) image → IsFile image card rows gate
  torn_body image torn =
      let there = gate_there file file card rows gate is in
      let front : take gate image ≡ take gate file = shorter_front gate (gate + 1) image file (omega arith) torn.before in
      let byte : take 1 (drop gate image) ≡ there.0 ∷ [] = front_behind gate 1 image file torn.before ∙ ap (λ (l : List ℕ). take 1 l) there.2 in
      image_closed file image card rows gate is front there.0 (drop 1 (drop gate image)) (first_known (drop gate image) there.0 byte) there.3

  -- with the batch whole behind it, whatever the gate
  behind_gate : (image : List ℕ) → take gate image ≡ take gate file → gate < length image → drop (gate + 1) image ≡ batch_bytes new ++ 0 ∷ drop (gate + 1 + length body) file
      → IsFile image card rows gate ⊎ IsFile image card (rows ++ placed (gate + 3) new) (gate + 3 + 10 * length new)
  behind_gate image front lt behind =
      let byte = get_or image gate 0 in
      let there : drop gate image ≡ byte ∷ (batch_bytes new ++ 0 ∷ drop (gate + 1 + length body) file) = drop_more image gate 0 lt ∙ ap (λ (l : List ℕ). byte ∷ l) behind in
      ⊎_elim
      (λ (opened : ((byte == 0xA5) ≡ true) × (byte ≡ 0xA5)).
      inr (image_opened file image card rows gate is new 0 (drop (gate + 1 + length body) file) few fit refl front (there ∙ ap (λ b. b ∷ (batch_bytes new ++ 0 ∷ drop (gate + 1 + length body) file)) opened.1)))
      (λ (shut : ((byte == 0xA5) ≡ false) × (byte ≢ 0xA5)). inl (image_closed file image card rows gate is front byte (batch_bytes new ++ 0 ∷ drop (gate + 1 + length body) file) there shut.0))
      (eqb_tells byte 0xA5)

  long_staged : gate < length (overwritten file (gate + 1) body)
  long_staged =
      let l = length-drop (gate + 1) (overwritten file (gate + 1) body) in
      let m = ap length staged_behind in
      let n = length-append (batch_bytes new) (0 ∷ drop (gate + 1 + length body) file) in
      omega (arith, l, m, n)

  torn_gate : (image : List ℕ) → Torn (overwritten file (gate + 1) body) gate 1 image → IsFile image card rows gate ⊎ IsFile image card (rows ++ placed (gate + 3) new) (gate + 3 + 10 * length new)
  torn_gate image torn =
      let long = long_staged in
      behind_gate image (torn.before ∙ staged_front) (omega (arith, torn.no_shorter, long)) (torn.after ∙ staged_behind)

  -- and at the end
  pub at_end : IsFile (overwritten (overwritten file (gate + 1) body) gate (0xA5 ∷ [])) card (rows ++ placed (gate + 3) new) (gate + 3 + 10 * length new)
  at_end =
      let last = overwritten (overwritten file (gate + 1) body) gate (0xA5 ∷ []) in
      let long = long_staged in
      let within : gate ≤ length (overwritten file (gate + 1) body) = omega (arith, long) in
      let front : take gate last ≡ take gate file = take-overwritten (overwritten file (gate + 1) body) gate (0xA5 ∷ []) within ∙ staged_front in
      let behind : drop gate last ≡ 0xA5 ∷ (batch_bytes new ++ 0 ∷ drop (gate + 1 + length body) file) =
      drop-overwritten (overwritten file (gate + 1) body) gate (0xA5 ∷ []) within ∙ ap (λ (l : List ℕ). 0xA5 ∷ l) staged_behind in
      image_opened file last card rows gate is new 0 (drop (gate + 1 + length body) file) few fit refl front behind

  -- what it records
  file_records : recorded file ≡ Ok (record { card = card; rows = map file_row_of rows })
  file_records = file_recorded file card rows gate (file_rows file card rows gate is)

  recorded_added : (image : List ℕ) → IsFile image card (rows ++ placed (gate + 3) new) (gate + 3 + 10 * length new) → recorded image ≡ added_rows (recorded file) new
  recorded_added image more =
      file_recorded image card (rows ++ placed (gate + 3) new) (gate + 3 + 10 * length new) (file_rows image card (rows ++ placed (gate + 3) new) (gate + 3 + 10 * length new) more)
      ∙ ap (λ (l : List FileRow). let f : KeptFile = record { card = card; rows = l } in Ok f) (rows_and_placed rows (gate + 3) new)
      ∙ sym (ap (λ (k : Result KeptFile FormatFault). added_rows k new) file_records)

  -- the same rows
  held_same : (image : List ℕ) → IsFile image card rows gate → HoldsSame (rows_held file) image
  held_same image same =
      let reads = file_rows image card rows gate same ∙ sym (file_rows file card rows gate is) in
      record {
        records = file_recorded image card rows gate (file_rows image card rows gate same) ∙ sym file_records;
        keeps = kept_by_read image file reads;
      }

  -- with the new ones, which do not disagree with them where the premise holds and they agree
  module _ (premise : Type 0) (agree : premise → conflict_in rows ≡ None → conflict_in (rows ++ placed (gate + 3) new) ≡ None) where
    kept_added : (image : List ℕ) → IsFile image card (rows ++ placed (gate + 3) new) (gate + 3 + 10 * length new) → premise → (conflict : Option FormatFault) → conflict_in rows ≡ conflict
        → kept image ≡ added_rows (kept file) new
    kept_added image more holds None none =
        kept_if_agreeing image _ (file_rows image card (rows ++ placed (gate + 3) new) (gate + 3 + 10 * length new) more) (agree holds none)
        ∙ recorded_added image more
        ∙ ap (λ (k : Result KeptFile FormatFault). added_rows k new) (sym (kept_if_agreeing file _ (file_rows file card rows gate is) none))
    kept_added image more holds (Some fault) apart =
        kept_if_apart image _ fault (file_rows image card (rows ++ placed (gate + 3) new) (gate + 3 + 10 * length new) more) (conflict-front [] rows (placed (gate + 3) new) fault apart)
        ∙ ap (λ (k : Result KeptFile FormatFault). added_rows k new) (sym (kept_if_apart file _ fault (file_rows file card rows gate is) apart))

    pub held_added : (image : List ℕ) → IsFile image card (rows ++ placed (gate + 3) new) (gate + 3 + 10 * length new) → HoldsMore premise (rows_held file) new image
    held_added image more = record { records = recorded_added image more; keeps = λ holds. kept_added image more holds (conflict_in rows) refl }

    pub before_or_after : (image : List ℕ) → IsBodyOrGate file gate body image → IsBeforeOrAfter premise (rows_held file) new image
    before_or_after image (inl torn) = inl (held_same image (torn_body image torn))
    before_or_after image (inr torn) = ⊎_elim (λ same. inl (held_same image same)) (λ more. inr (held_added image more)) (torn_gate image torn)

-- rows that are to be appended to a settled disk, as the bytes of a body
pub record Appends (past : Past) (c : CaseData) (board : List (Option Outcome)) (gate : ℕ) (list : List Job) (new : List Row) (body : List ℕ) : Type 0 where
  pub settled : IsSettled c board gate past
  pub reads : IsImage past (content past)
  pub has : HasCard c
  pub jobs : list ≡ jobs_in c
  pub few : length new < 2 ^ 16
  pub fit : All IsWritable new
  pub fresh : AreFileable list board new
  pub body_is : body ≡ batch_bytes new ++ 0 ∷ []

-- the rows are right, and so are the old rows of what each crash leaves
abbrev pub RightAndOld : CaseData → List Row → Past → Type 0
RightAndOld c new past = All (IsRight c) new × EachImage past HasRightOldRows

module _ (past : Past) (c : CaseData) (board : List (Option Outcome)) (gate : ℕ) (list : List Job) (new : List Row) (body : List ℕ) (is : Appends past c board gate list new body) where
  abbrev rows : List KeptRow
  rows = is.settled.file.rows

  file : IsFile (content past) (card c) rows gate
  file = is_file (content past) (card c) rows gate is.settled.file.read

  fresh_rows : AreFileable (jobs_in c) board new
  fresh_rows = subst (λ (l : List Job). AreFileable l board new) is.jobs is.fresh

  pub append_within : gate < length (content past)
  append_within = let h = gate_within (content past) (card c) rows gate file new is.few is.fit body is.body_is in omega (arith, h)

  -- where the old rows are right, and the rows agree, they and the new ones do
  agree_now : RightAndOld c new past → conflict_in rows ≡ None → conflict_in (rows ++ placed (gate + 3) new) ≡ None
  unfolding HasRightOldRows
  agree_now holds none =
      let whole : file_data (content past) ≡ Ok (record { card = card c; rows = rows; gate = gate }) = data_if_agreeing (content past) _ is.settled.file.read none in
      let right = holds.1 (content past) is.reads c (board_of (jobs_in c) (outcome_rows (map file_row_of rows))) is.has (accept_if (content past) c rows gate whole is.settled.file.named) in
      let old = right (record { card = card c; rows = map file_row_of rows }) (file_kept (content past) (card c) rows gate whole) in
      conflict-append [] rows (placed (gate + 3) new) none
      ∙ none_behind_old c rows (gate + 3) new old (subst (λ (b : List (Option Outcome)). AreFileable (jobs_in c) b new) is.settled.file.board_is fresh_rows) holds.0

  module _ (later : Past) (leaves : LeavesOnly past later (IsBodyOrGate (content past) gate body)) where
    pub append_leaves : LeavesOnly past later (IsBeforeOrAfter (RightAndOld c new past) (rows_held (content past)) new)
    append_leaves =
        weaker past later (IsBodyOrGate (content past) gate body) (IsBeforeOrAfter (RightAndOld c new past) (rows_held (content past)) new)
        (before_or_after (content past) (card c) rows gate file new is.few is.fit body is.body_is (RightAndOld c new past) agree_now) leaves

    -- a file that keeps nothing is sound, and so is one that keeps what a sound one does, with right rows
    sound_by : (keeps : Result KeptFile FormatFault) → kept (content past) ≡ keeps → All (IsRight c) new → EachImage past IsSound → (image : List ℕ) → IsBeforeOrAfter (RightAndOld c new past) (rows_held (content past)) new image
        → IsSound image
    sound_by (Err fault) none right sound image (inl same) = sound_none image fault (same.keeps ∙ none)
    sound_by (Err fault) none right sound image (inr more) =
        sound_none image fault (more.keeps (right, λ i now. sound_old i (sound i now)) ∙ ap (λ (k : Result KeptFile FormatFault). added_rows k new) none)
    sound_by (Ok found) keeps right sound image either =
        let known = known_rows (content past) (card c) rows gate is.settled.file.read found keeps in
        sound_either (content past) c is.has (map file_row_of rows) known new right (RightAndOld c new past) (right, λ i now. sound_old i (sound i now)) image (sound (content past) is.reads) either

    pub append_sound : All (IsRight c) new → EachImage past IsSound → LeavesOnly past later IsSound
    append_sound right sound =
        weaker past later (IsBeforeOrAfter (RightAndOld c new past) (rows_held (content past)) new) IsSound (sound_by (kept (content past)) refl right sound) append_leaves

    -- the same of old rows that are right
    old_by : (keeps : Result KeptFile FormatFault) → kept (content past) ≡ keeps → RightAndOld c new past → (image : List ℕ) → IsBeforeOrAfter (RightAndOld c new past) (rows_held (content past)) new image → HasRightOldRows image
    old_by (Err fault) none holds image (inl same) = old_none image fault (same.keeps ∙ none)
    old_by (Err fault) none holds image (inr more) = old_none image fault (more.keeps holds ∙ ap (λ (k : Result KeptFile FormatFault). added_rows k new) none)
    old_by (Ok found) keeps holds image either =
        let known = known_rows (content past) (card c) rows gate is.settled.file.read found keeps in
        old_either (content past) c is.has (map file_row_of rows) known new (RightAndOld c new past) holds image (holds.1 (content past) is.reads) either

    pub append_old : All (IsRight c) new → EachImage past HasRightOldRows → LeavesOnly past later HasRightOldRows
    append_old right old =
        weaker past later (IsBeforeOrAfter (RightAndOld c new past) (rows_held (content past)) new) HasRightOldRows (old_by (kept (content past)) refl (right, old)) append_leaves

    pub append_stays : All (IsRight c) new → (row : FileRow) → RowStays past later row
    append_stays right row = stays_either (RightAndOld c new past) past later row new (λ old. (right, old)) is.reads append_leaves

  module _ (later : Past) (written_is : content later ≡ overwritten (overwritten (content past) (gate + 1) body) gate (0xA5 ∷ [])) where
    last : IsFile (content later) (card c) (rows ++ placed (gate + 3) new) (gate + 3 + 10 * length new)
    last =
        subst (λ (f : List ℕ). IsFile f (card c) (rows ++ placed (gate + 3) new) (gate + 3 + 10 * length new)) (sym written_is)
        (at_end (content past) (card c) rows gate file new is.few is.fit body is.body_is)

    new_board : filed list board new ≡ board_of (jobs_in c) (outcome_rows (map file_row_of (rows ++ placed (gate + 3) new)))
    new_board =
        ap (λ (l : List Job). filed l board new) is.jobs
        ∙ ap (λ (b : List (Option Outcome)). filed (jobs_in c) b new) is.settled.file.board_is
        ∙ sym (ap (λ (l : List FileRow). board_of (jobs_in c) (outcome_rows l)) (rows_and_placed rows (gate + 3) new) ∙ board_and_written (jobs_in c) (map file_row_of rows) new)

    pub append_settled : IsSynced later → IsSettled c (filed list board new) (gate + (3 + 10 * length new)) later
    append_settled synced =
        let place : gate + 3 + 10 * length new ≡ gate + (3 + 10 * length new) = omega arith in
        record {
          synced = synced;
          file = record {
            rows = rows ++ placed (gate + 3) new;
            read = file_rows (content later) (card c) (rows ++ placed (gate + 3) new) (gate + 3 + 10 * length new) last
                ∙ ap (λ (g : ℕ). let d : FileData = record { card = card c; rows = rows ++ placed (gate + 3) new; gate = g } in Ok d) place;
            named = stranger-append (jobs_in c) rows (placed (gate + 3) new) is.settled.file.named (all_named (jobs_in c) board (gate + 3) new fresh_rows);
            board_is = new_board;
          };
        }

    pub append_added : HoldsMore (RightAndOld c new past) (rows_held (content past)) new (content later)
    append_added = held_added (content past) (card c) rows gate file new is.few is.fit body is.body_is (RightAndOld c new past) agree_now (content later) last

    pub append_each : IsSynced later → EachImage later (HoldsMore (RightAndOld c new past) (rows_held (content past)) new)
    append_each synced image now = subst (HoldsMore (RightAndOld c new past) (rows_held (content past)) new) (sym (image_if_synced later image synced now)) append_added

    pub append_gives : IsSynced later → All (IsRight c) new → EachImage past HasRightOldRows → accept (content past) c ≡ Ok board → EachImage later (Gives c (filed list board new))
    append_gives synced right old gives =
        let settled = append_settled synced in
        settled_gives c (filed list board new) (gate + (3 + 10 * length new)) later settled
        (gives_more (content past) (content later) c board (filed list board new) gate (gate + (3 + 10 * length new)) new is.settled.file settled.file (append_added.keeps (right, old)) gives)
