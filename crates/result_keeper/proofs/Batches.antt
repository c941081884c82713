-- Batches, appended one after the other.
use Rattle.std.proofs.Common.{◌≡◌, inl, inr, ℕ, ◌+◌, ◌*◌, List, [], ◌∷◌, ◌++◌, map, length, take, Option, Result, Ok, Err, refl, ap, sym, subst, ◌∙◌, arith, append_assoc, append-nil, length-append}
use Rattle.std.proofs.lemmas.List.{map-append, take_at}
use Rattle.fs_outside.specs.Past.{Past, EachImage, content}
use Rattle.fs_model.specs.declared.outcomes.Outcome.{Outcome}
use Rattle.fs_model.specs.declared.outcomes.Row.{Row}
use Rattle.keep_format.specs.declared.fault.FormatFault.{FormatFault}
use Rattle.keep_format.specs.KeepFile.{FileRow, KeptFile, Held, rows_held, added_rows, written}
use Rattle.result_keeper.specs.Boards.{filed}
use Rattle.result_keeper.specs.Acceptance.{HasRightOldRows}
use Rattle.result_keeper.specs.Keep.{HoldsMore, HoldsSame, KeeperData, IsBeforeOrAfter, appended}
use Rattle.result_keeper.proofs.Filing.{filed-append}
use Rattle.result_keeper.specs.Batches.{KeepsFirst, KeepsSome, after_batches, all_rows, appended_all, gate_behind}

pub all_rows-append : (a b : List (List Row)) → all_rows (a ++ b) ≡ all_rows a ++ all_rows b
all_rows-append [] b = refl
all_rows-append (rows ∷ a) b = ap (λ (l : List Row). rows ++ l) (all_rows-append a b) ∙ sym (append_assoc rows (all_rows a) (all_rows b))

pub all_rows_more : (done : List (List Row)) (rows : List Row) → all_rows (done ++ rows ∷ []) ≡ all_rows done ++ rows
all_rows_more done rows = all_rows-append done (rows ∷ []) ∙ ap (λ (l : List Row). all_rows done ++ l) (append-nil rows)

pub gate_more : (gate : ℕ) (done : List (List Row)) (rows : List Row) → gate_behind gate (done ++ rows ∷ []) ≡ gate_behind gate done + (3 + 10 * length rows)
gate_more gate [] rows = refl
gate_more gate (first ∷ done) rows = gate_more (gate + (3 + 10 * length first)) done rows

pub appended_more : (file : List ℕ) (gate : ℕ) (done : List (List Row)) (rows : List Row) → appended_all file gate (done ++ rows ∷ []) ≡ appended (appended_all file gate done) (gate_behind gate done) rows
appended_more file gate [] rows = refl
appended_more file gate (first ∷ done) rows = appended_more (appended file gate first) (gate + (3 + 10 * length first)) done rows

keeper_of : (keeper : KeeperData) (board : List (Option Outcome)) (gate : ℕ) → KeeperData
keeper_of keeper board gate = record keeper { board = board; gate = gate }

pub after_more : (keeper now new : KeeperData) (done : List (List Row)) (rows : List Row) → now ≡ after_batches keeper done → new ≡ after_batches now (rows ∷ []) → new ≡ after_batches keeper (done ++ rows ∷ [])
after_more keeper now new done rows so_far more =
    let board : filed keeper.list (filed keeper.list keeper.board (all_rows done)) (rows ++ []) ≡ filed keeper.list keeper.board (all_rows (done ++ rows ∷ [])) =
    filed-append keeper.list keeper.board (all_rows done) (rows ++ []) ∙ ap (λ (l : List Row). filed keeper.list keeper.board l) (sym (all_rows-append done (rows ∷ []))) in
    let gate : gate_behind keeper.gate done + (3 + 10 * length rows) ≡ gate_behind keeper.gate (done ++ rows ∷ []) = sym (gate_more keeper.gate done rows) in
    more
    ∙ ap (λ (k : KeeperData). after_batches k (rows ∷ [])) so_far
    ∙ ap (λ (b : List (Option Outcome)). let k : KeeperData = record keeper { board = b; gate = gate_behind keeper.gate done + (3 + 10 * length rows) } in k) board
    ∙ ap (λ (g : ℕ). let k : KeeperData = record keeper { board = filed keeper.list keeper.board (all_rows (done ++ rows ∷ [])); gate = g } in k) gate

-- ---- what is held

rows_and_rows : (file : Result KeptFile FormatFault) (a b : List Row) → added_rows (added_rows file a) b ≡ added_rows file (a ++ b)
rows_and_rows (Err fault) a b = refl
rows_and_rows (Ok file) a b =
    ap (λ (l : List FileRow). let f : KeptFile = record { card = file.card; rows = l } in Ok f)
    (append_assoc file.rows (map written a) (map written b) ∙ ap (λ (l : List FileRow). file.rows ++ l) (sym (map-append written a b)))

added_none : (file : Result KeptFile FormatFault) → file ≡ added_rows file []
added_none (Err fault) = refl
added_none (Ok file) = ap (λ (l : List FileRow). let f : KeptFile = record { card = file.card; rows = l } in Ok f) (sym (append-nil file.rows))

-- an image with no row more
pub more_none : (premise : Type 0) (before : Held) (image : List ℕ) → HoldsSame before image → HoldsMore premise before [] image
more_none premise before image same = record { records = same.records ∙ added_none before.recorded; keeps = λ holds. same.keeps ∙ added_none before.kept }

pub same_itself : (file : List ℕ) → HoldsSame (rows_held file) file
same_itself file = record { records = refl; keeps = refl }

-- the same under a stronger premise
pub more_under : (weak strong : Type 0) (before : Held) (rows : List Row) (image : List ℕ) → (strong → weak) → HoldsMore weak before rows image → HoldsMore strong before rows image
more_under weak strong before rows image by more = record { records = more.records; keeps = λ holds. more.keeps (by holds) }

pub either_under : (weak strong : Type 0) (before : Held) (rows : List Row) (image : List ℕ) → (strong → weak) → IsBeforeOrAfter weak before rows image → IsBeforeOrAfter strong before rows image
either_under weak strong before rows image by (inl same) = inl same
either_under weak strong before rows image by (inr more) = inr (more_under weak strong before rows image by more)

-- an image of a file that holds rows more, and again
module _ (premise : Type 0) (first : Held) (now image : List ℕ) (done : List Row) (so_far : HoldsMore premise first done now) where
  pub more_same : HoldsSame (rows_held now) image → HoldsMore premise first done image
  more_same same = record { records = same.records ∙ so_far.records; keeps = λ holds. same.keeps ∙ so_far.keeps holds }

  pub more_and_more : (later : Type 0) (rows : List Row) → (premise → later) → HoldsMore later (rows_held now) rows image → HoldsMore premise first (done ++ rows) image
  more_and_more later rows by more = record {
    records = more.records ∙ ap (λ (k : Result KeptFile FormatFault). added_rows k rows) so_far.records ∙ rows_and_rows first.recorded done rows;
    keeps = λ holds. more.keeps (by holds) ∙ ap (λ (k : Result KeptFile FormatFault). added_rows k rows) (so_far.keeps holds) ∙ rows_and_rows first.kept done rows;
  }

-- with a batch more
pub with_more : (premise later : Type 0) (first : Held) (now image : List ℕ) (done : List (List Row)) (rows : List Row) → HoldsMore premise first (all_rows done) now → (premise → later)
    → HoldsMore later (rows_held now) rows image → HoldsMore premise first (all_rows (done ++ rows ∷ [])) image
with_more premise later first now image done rows so_far by more =
    subst (λ (l : List Row). HoldsMore premise first l image) (sym (all_rows_more done rows)) (more_and_more premise first now image (all_rows done) so_far later rows by more)

-- an image before or after the next batch
module _ (before : Past) (now : List ℕ) (done rest whole : List (List Row)) (rows : List Row) (is : whole ≡ done ++ rows ∷ rest)
    (so_far : HoldsMore (EachImage before HasRightOldRows) (rows_held (content before)) (all_rows done) now) (later : Type 0) (by : EachImage before HasRightOldRows → later) where
  whole_is : whole ≡ (done ++ rows ∷ []) ++ rest
  whole_is = is ∙ sym (append_assoc done (rows ∷ []) rest)

  pub front_done : take (length done) whole ≡ done
  front_done = ap (take (length done)) is ∙ take_at done (rows ∷ rest) (length done) refl

  pub front_more : take (length done + 1) whole ≡ done ++ rows ∷ []
  front_more = ap (take (length done + 1)) whole_is ∙ take_at (done ++ rows ∷ []) rest (length done + 1) (length-append done (rows ∷ []))

  pub first_before : (image : List ℕ) → HoldsSame (rows_held now) image → KeepsFirst before whole (length done) image
  first_before image same =
      subst (λ (b : List (List Row)). HoldsMore (EachImage before HasRightOldRows) (rows_held (content before)) (all_rows b) image) (sym front_done)
      (more_same (EachImage before HasRightOldRows) (rows_held (content before)) now image (all_rows done) so_far same)

  pub first_after : (image : List ℕ) → HoldsMore later (rows_held now) rows image → KeepsFirst before whole (length done + 1) image
  first_after image more =
      subst (λ (b : List (List Row)). HoldsMore (EachImage before HasRightOldRows) (rows_held (content before)) (all_rows b) image) (sym front_more)
      (with_more (EachImage before HasRightOldRows) later (rows_held (content before)) now image done rows so_far by more)

  pub some_either : (image : List ℕ) → IsBeforeOrAfter later (rows_held now) rows image → KeepsSome before whole image
  some_either image (inl same) = let l = ap length is ∙ length-append done (rows ∷ rest) in record { count = length done; within = omega (arith, l); keeps = first_before image same }
  some_either image (inr more) = let l = ap length is ∙ length-append done (rows ∷ rest) in record { count = length done + 1; within = omega (arith, l); keeps = first_after image more }
