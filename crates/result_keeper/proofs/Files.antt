-- What a file holds, and what another file of the same front holds.
use Rattle.std.proofs.Common.{All, ◌≡◌, ℕ, ◌+◌, ◌-◌, ◌*◌, ◌^◌, ◌<◌, ◌≤◌, Bool, true, false, ◌==◌, nat_lt, if◌then◌else◌, List, [], ◌∷◌, ◌++◌, map, length, take, drop, Option, Some, None, Result, Ok, Err, refl, sym, ◌∙◌, ap, subst, arith}
use Rattle.std.specs.Option.{option_map}
use Rattle.std.proofs.lemmas.List.{append-nil, map-append, drop-drop, length-drop, length-take-le}
use Rattle.fs_model.specs.declared.sites.Job.{Job}
use Rattle.fs_model.specs.declared.outcomes.Outcome.{Outcome}
use Rattle.fs_model.specs.declared.outcomes.Row.{Row}
use Rattle.keep_format.specs.declared.header.Header.{Header}
use Rattle.keep_format.specs.declared.raw_rows.RawRow.{RawRow}
use Rattle.keep_format.specs.declared.rows.KeptRow.{KeptRow}
use Rattle.keep_format.specs.declared.fault.FormatFault.{FormatFault}
use Rattle.keep_format.specs.declared.fault.FormatFault.TheVariants.{BadRow}
use Rattle.fs_model.specs.Verdict.{site_of_row}
use Rattle.keep_format.specs.KeepFile.{Batches, KeptRows, FileData, KeptFile, onto, is_campaign, card_len, card_of, header_of, batches_of, batches_from, batch_bytes, IsWritable, placed, bad_in, kept_row, rows_in, rows_read, file_data, file_row_of, without_places, recorded, kept}
use Rattle.fs_model.specs.Steps.{◌>>=◌, ◌>>◌}
use Rattle.result_keeper.specs.Acceptance.{names_job, site_named, stranger}
use Rattle.keep_format.proofs.Agreeing.{behind_card}
use Rattle.keep_format.proofs.Heads.{HasHead, head_rows, rows_if}
use Rattle.keep_format.proofs.Walks.{front_reads, shorter_front, front_behind, walk_prefix, walk_closed, gate_after, gate_closed}
use Rattle.keep_format.proofs.Written.{raw_of, batch_read, none_bad, outcomes_read}
use Rattle.result_keeper.specs.Boards.{filed, AreFileable}
use Rattle.result_keeper.proofs.Filing.{one_named}
use Rattle.result_keeper.proofs.FileFronts.{front_campaign, number_same}
use Rattle.result_keeper.proofs.Headers.{header_facts}

-- this file has this card and these rows, whether they agree or not, and its closed gate there
pub record IsFile (file card : List ℕ) (rows : List KeptRow) (gate : ℕ) : Type 0 where
  pub head : HasHead file card
  pub found : rows_in (batches_of file (13 + length card)) ≡ Ok (record { rows = rows; gate = gate })

pub file_rows : (file card : List ℕ) (rows : List KeptRow) (gate : ℕ) → IsFile file card rows gate → rows_read file ≡ Ok (record { card = card; rows = rows; gate = gate })
file_rows file card rows gate is = head_rows file card is.head ∙ ap (behind_card card) is.found

without : Result FileData FormatFault → Result KeptFile FormatFault
without read = read >>= λ found. Ok (without_places found)

pub file_recorded : (file card : List ℕ) (rows : List KeptRow) (gate : ℕ) → rows_read file ≡ Ok (record { card = card; rows = rows; gate = gate }) → recorded file ≡ Ok (record { card = card; rows = map file_row_of rows })
unfolding without
file_recorded file card rows gate is = ap without is

pub file_kept : (file card : List ℕ) (rows : List KeptRow) (gate : ℕ) → file_data file ≡ Ok (record { card = card; rows = rows; gate = gate }) → kept file ≡ Ok (record { card = card; rows = map file_row_of rows })
unfolding without
file_kept file card rows gate is = ap without is

part : {A : Type 0} (f : FileData → A) {x y : FileData} → (let r : Result FileData FormatFault = Ok x in r) ≡ Ok y → f x ≡ f y
part f {x} {y} e = ap f (let s : x ≡ y = cc in s)

from_rows : (file bytes card : List ℕ) (rows : List KeptRow) (gate : ℕ) (found : Result KeptRows FormatFault) → behind_card bytes found ≡ Ok (record { card = card; rows = rows; gate = gate })
    → (bytes ≡ card) × (found ≡ Ok (record { rows = rows; gate = gate }))
from_rows file bytes card rows gate (Err fault) is = absurd (cc)
from_rows file bytes card rows gate (Ok kept) is =
    let same_rows : kept.rows ≡ rows = part (λ (d : FileData). d.rows) is in
    let same_gate : kept.gate ≡ gate = part (λ (d : FileData). d.gate) is in (
      part (λ (d : FileData). d.card) is,
      ap (λ (r : List KeptRow). let k : KeptRows = record { rows = r; gate = kept.gate } in Ok k) same_rows ∙ ap (λ (g : ℕ). let k : KeptRows = record { rows = rows; gate = g } in Ok k) same_gate,
    )

from_header : (file card : List ℕ) (rows : List KeptRow) (gate : ℕ) (header : Result Header FormatFault) → header_of file ≡ header
    → (header >>= λ h. behind_card (card_of file) (rows_in (batches_of file h.gate))) ≡ Ok (record { card = card; rows = rows; gate = gate }) → IsFile file card rows gate
from_header file card rows gate (Err fault) head is = absurd (cc)
from_header file card rows gate (Ok header) head is =
    let facts = header_facts file (length file) header head in
    let parts = from_rows file (card_of file) card rows gate (rows_in (batches_of file header.gate)) is in
    let place : header.gate ≡ 13 + card_len file = ap (λ (h : Header). h.gate) facts.is in
    let long : card_len file ≡ length card =
    sym (length-take-le (card_len file) (drop 13 file) (let l = length-drop 13 file in omega (arith, l, facts.within))) ∙ ap length parts.0 in
    record {
      head = record { campaign = facts.campaign; version = facts.version; len = long; same_card = parts.0; within = omega (arith, long, facts.within) };
      found = ap (λ (p : ℕ). rows_in (batches_of file p)) (let e : 13 + length card ≡ header.gate = omega (arith, long, place) in e) ∙ parts.1;
    }

pub is_file : (file card : List ℕ) (rows : List KeptRow) (gate : ℕ) → rows_read file ≡ Ok (record { card = card; rows = rows; gate = gate }) → IsFile file card rows gate
is_file file card rows gate is = from_header file card rows gate (header_of file) refl is

-- ---- the header of another file

pub head_prefix : (file image card : List ℕ) (n : ℕ) → HasHead file card → 13 + length card ≤ n → take n image ≡ take n file → 13 + length card < length image → HasHead image card
head_prefix file image card n head le same within =
    let len : card_len image ≡ length card = number_same image file (shorter_front 13 n image file (omega (arith, le)) same) ∙ head.len in
    record {
      campaign = sym (front_campaign image) ∙ ap is_campaign (shorter_front 8 n image file (omega (arith, le)) same) ∙ front_campaign file ∙ head.campaign;
      version = front_reads n 8 image file (omega (arith, le)) same ∙ head.version;
      len = len;
      same_card =
          ap (λ (k : ℕ). take k (drop 13 image)) len
          ∙ front_behind 13 (length card) image file (shorter_front (13 + length card) n image file le same)
          ∙ ap (λ (k : ℕ). take k (drop 13 file)) (sym head.len)
          ∙ head.same_card;
      within = within;
    }

-- ---- rows

stranger_parts : (t : Bool) (rest : Option ℕ) (at : ℕ) → (if t then rest else Some at) ≡ None → (t ≡ true) × (rest ≡ None)
stranger_parts true rest at is = (refl, is)
stranger_parts false rest at is = absurd (cc)

pub stranger-append : (list : List Job) (a b : List KeptRow) → stranger list a ≡ None → stranger list b ≡ None → stranger list (a ++ b) ≡ None
stranger-append list [] b p q = q
stranger-append list (row ∷ a) b p q =
    let parts = stranger_parts (names_job list (site_named (file_row_of row))) (stranger list a) row.at p in
    ap (λ (t : Bool). if t then stranger list (a ++ b) else Some row.at) parts.0 ∙ stranger-append list a b parts.1 q

pub all_named : (list : List Job) (board : List (Option Outcome)) (at : ℕ) (rows : List Row) → AreFileable list board rows → stranger list (placed at rows) ≡ None
all_named list board at [] new = refl
all_named list board at (row ∷ rows) new =
    ap (λ (t : Bool). if t then stranger list (placed (at + 10) rows) else Some at) (one_named list (site_of_row row) new.0.number (new.0.job, new.0.there, new.0.named))
    ∙ all_named list (filed list board (row ∷ [])) (at + 10) rows new.1

-- ---- what a file's batches are

pub record AreRead (batches : Option Batches) (rows : List KeptRow) (gate : ℕ) : Type 0 where
  pub raw : List RawRow
  pub there : batches ≡ Some (record { rows = raw; gate = gate })
  pub good : bad_in raw ≡ None
  pub read : map kept_row raw ≡ rows

rows_part : {A : Type 0} (f : KeptRows → A) {x y : KeptRows} → (let r : Result KeptRows FormatFault = Ok x in r) ≡ Ok y → f x ≡ f y
rows_part f {x} {y} e = ap f (let s : x ≡ y = cc in s)

read_parts : (inner : Batches) (bad : Option ℕ) (rows : List KeptRow) (gate : ℕ) → bad_in inner.rows ≡ bad
    → (option_map (λ at. BadRow at) bad >> (let k : KeptRows = record { rows = map kept_row inner.rows; gate = inner.gate } in Ok k)) ≡ Ok (record { rows = rows; gate = gate }) → AreRead (Some inner) rows gate
read_parts inner (Some at) rows gate is found = absurd (cc)
read_parts inner None rows gate is found =
    let same_gate : inner.gate ≡ gate = rows_part (λ (k : KeptRows). k.gate) found in
    record {
      raw = inner.rows;
      there = ap (λ (g : ℕ). let b : Batches = record { rows = inner.rows; gate = g } in Some b) same_gate;
      good = is;
      read = rows_part (λ (k : KeptRows). k.rows) found;
    }

read_inverse : (batches : Option Batches) (rows : List KeptRow) (gate : ℕ) → rows_in batches ≡ Ok (record { rows = rows; gate = gate }) → AreRead batches rows gate
read_inverse None rows gate is = absurd (cc)
read_inverse (Some inner) rows gate is = read_parts inner (bad_in inner.rows) rows gate refl is

-- no byte is bad of these and those
bad_case : (t : Bool) (at : ℕ) (rest : Option ℕ) → (if t then Some at else rest) ≡ None → (t ≡ false) × (rest ≡ None)
bad_case true at rest is = absurd (cc)
bad_case false at rest is = (refl, is)

bad-append : (a b : List RawRow) → bad_in a ≡ None → bad_in b ≡ None → bad_in (a ++ b) ≡ None
bad-append [] b p q = q
bad-append (raw ∷ a) b p q =
    let parts = bad_case (nat_lt 7 raw.code) raw.at (bad_in a) p in
    ap (λ (t : Bool). if t then Some raw.at else bad_in (a ++ b)) parts.0 ∙ bad-append a b parts.1 q

-- ---- another file of the same front

module _ (file image card : List ℕ) (rows : List KeptRow) (gate : ℕ) (is : IsFile file card rows gate) where
  pub file_batches : AreRead (batches_of file (13 + length card)) rows gate
  file_batches = read_inverse (batches_of file (13 + length card)) rows gate is.found

  pub gate_behind_start : 13 + length card ≤ gate
  gate_behind_start =
      let kept = file_batches in
      let h = gate_after (13 + length card) 0 (drop (13 + length card) file) (record { rows = kept.raw; gate = gate }) kept.there in omega (arith, h)

  -- the closed gate is there
  pub gate_there : (byte : ℕ) × (rest : List ℕ) × (drop gate file ≡ byte ∷ rest) × ((byte == 0xA5) ≡ false)
  gate_there =
      let n = gate - (13 + length card) in
      let le = gate_behind_start in
      let kept = file_batches in
      let closed = gate_closed (13 + length card) 0 n (drop (13 + length card) file) (record { rows = kept.raw; gate = gate }) kept.there (omega (arith, le)) in
      let place : 13 + length card + n ≡ gate = omega (arith, le) in
      (closed.byte, closed.rest, ap (λ (p : ℕ). drop p file) (sym place) ∙ sym (drop-drop n (13 + length card) file) ∙ closed.there, closed.shut)

  -- the same rows, and then what stands behind the gate
  image_batches : (raw : List RawRow) → batches_of file (13 + length card) ≡ Some (record { rows = raw; gate = gate }) → take gate image ≡ take gate file
      → batches_of image (13 + length card) ≡ onto raw (batches_from gate 0 (drop gate image))
  image_batches raw there same =
      let n = gate - (13 + length card) in
      let le = gate_behind_start in
      let place : 13 + length card + n ≡ gate = omega (arith, le) in
      let front : take n (drop (13 + length card) image) ≡ take n (drop (13 + length card) file) =
      front_behind (13 + length card) n image file (subst (λ (g : ℕ). take g image ≡ take g file) (sym place) same) in
      walk_prefix (13 + length card) 0 n (drop (13 + length card) file) (drop (13 + length card) image) (record { rows = raw; gate = gate }) there (omega (arith, le)) front
      ∙ ap (λ (l : List ℕ). onto raw (batches_from gate 0 l)) (drop-drop n (13 + length card) image ∙ ap (λ (p : ℕ). drop p image) place)

  longer : (byte : ℕ) (rest : List ℕ) → drop gate image ≡ byte ∷ rest → gate < length image
  longer byte rest there = let l = length-drop gate image in let m = ap length there in omega (arith, l, m)

  image_head : take gate image ≡ take gate file → (byte : ℕ) (rest : List ℕ) → drop gate image ≡ byte ∷ rest → HasHead image card
  image_head same byte rest there =
      let le = gate_behind_start in
      let lt = longer byte rest there in
      head_prefix file image card gate is.head le same (omega (arith, le, lt))

  -- with a closed gate there it has the same rows
  pub image_closed : take gate image ≡ take gate file → (byte : ℕ) (rest : List ℕ) → drop gate image ≡ byte ∷ rest → (byte == 0xA5) ≡ false → IsFile image card rows gate
  image_closed same byte rest there shut =
      let kept = file_batches in
      let batches : batches_of image (13 + length card) ≡ Some (record { rows = kept.raw; gate = gate }) =
      image_batches kept.raw kept.there same
      ∙ ap (λ (l : List ℕ). onto kept.raw (batches_from gate 0 l)) there
      ∙ ap (onto kept.raw) (walk_closed byte gate rest shut)
      ∙ ap (λ (r : List RawRow). let b : Batches = record { rows = r; gate = gate } in Some b) (append-nil kept.raw) in
      record {
        head = image_head same byte rest there;
        found = rows_if (batches_of image (13 + length card)) kept.raw rows gate batches kept.good kept.read;
      }

  -- with an open gate there, new rows and a closed gate, it has these too
  pub image_opened : (new : List Row) (byte : ℕ) (rest : List ℕ) → length new < 2 ^ 16 → All IsWritable new → (byte == 0xA5) ≡ false
      → take gate image ≡ take gate file → drop gate image ≡ 0xA5 ∷ (batch_bytes new ++ byte ∷ rest)
      → IsFile image card (rows ++ placed (gate + 3) new) (gate + 3 + 10 * length new)
  image_opened new byte rest few fit shut same there =
      let kept = file_batches in
      let raw : List RawRow = map raw_of (placed (gate + 3) new) in
      let batches : batches_of image (13 + length card) ≡ Some (record { rows = kept.raw ++ map raw_of (placed (gate + 3) new); gate = gate + 3 + 10 * length new }) =
      image_batches kept.raw kept.there same
      ∙ ap (λ (l : List ℕ). onto kept.raw (batches_from gate 0 l)) there
      ∙ ap (onto kept.raw) (batch_read new gate (byte ∷ rest) few fit ∙ ap (onto (map raw_of (placed (gate + 3) new))) (walk_closed byte (gate + 3 + 10 * length new) rest shut))
      ∙ ap (λ (r : List RawRow). let b : Batches = record { rows = kept.raw ++ r; gate = gate + 3 + 10 * length new } in Some b) (append-nil (map raw_of (placed (gate + 3) new))) in
      let good : bad_in (kept.raw ++ map raw_of (placed (gate + 3) new)) ≡ None = bad-append kept.raw (map raw_of (placed (gate + 3) new)) kept.good (none_bad (placed (gate + 3) new)) in
      let read : map kept_row (kept.raw ++ map raw_of (placed (gate + 3) new)) ≡ rows ++ placed (gate + 3) new =
      map-append kept_row kept.raw (map raw_of (placed (gate + 3) new))
      ∙ ap (λ (l : List KeptRow). l ++ map kept_row (map raw_of (placed (gate + 3) new))) kept.read
      ∙ ap (λ (l : List KeptRow). rows ++ l) (outcomes_read (placed (gate + 3) new)) in
      record {
        head = image_head same 0xA5 (batch_bytes new ++ byte ∷ rest) there;
        found = rows_if (batches_of image (13 + length card)) (kept.raw ++ map raw_of (placed (gate + 3) new)) (rows ++ placed (gate + 3) new) (gate + 3 + 10 * length new) batches good read;
      }
