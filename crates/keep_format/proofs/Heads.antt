-- The header and the whole file are read again.
use Rattle.std.proofs.Common.{◌≡◌, ℕ, ◌+◌, ◌^◌, ◌<◌, Bool, true, false, not, ◌&&◌, ◌==◌, nat_lt, if◌then◌else◌, List, [], ◌∷◌, ◌++◌, map, length, take, drop, slice_index, Option, Some, None, Result, Ok, Err, refl, sym, ◌∙◌, ap, arith, length-append}
use Rattle.std.proofs.lemmas.Bool.Decides.{nat_tests}
use Rattle.std.proofs.lemmas.List.{take_at, drop_at}
use Rattle.std.specs.Option.{option_map}
use Rattle.fs_model.specs.declared.outcomes.Row.{Row}
use Rattle.keep_format.specs.declared.header.Header.{Header}
use Rattle.keep_format.specs.declared.raw_rows.RawRow.{RawRow}
use Rattle.keep_format.specs.declared.rows.KeptRow.{KeptRow}
use Rattle.keep_format.specs.declared.fault.FormatFault.{FormatFault}
use Rattle.keep_format.specs.declared.fault.FormatFault.TheVariants.{NotACampaign, Version, Cut, BadRow}
use Rattle.keep_format.specs.KeepFile.{Batches, KeptRows, batch_bytes, is_campaign, card_len, card_of, first_gate, header_of, head_bytes, FileData, batches_of, batches_from, bad_in, kept_row, rows_in, rows_read, placed_batches, blocks}
use Rattle.keep_format.specs.Laws.{ReadAgain, RowsReadAgain}
use Rattle.fs_model.specs.Steps.{◌>>=◌, ◌>>◌}
use Rattle.keep_format.proofs.Agreeing.{behind_card, data_if_agreeing}
use Rattle.keep_format.proofs.Walks.{not_equal}
use Rattle.keep_format.proofs.Written.{raw_of, four_read, batches_read, none_bad, outcomes_read}

module _ (card tail : List ℕ) (fits : length card < 2 ^ 32) where
  pub card_len_read : card_len (head_bytes card ++ tail) ≡ length card
  card_len_read = four_read (length card) (card ++ tail) fits

  pub card_read : card_of (head_bytes card ++ tail) ≡ card
  card_read = ap (λ (n : ℕ). take n (card ++ tail)) card_len_read ∙ take_at card tail (length card) refl

  pub length_head : length (head_bytes card ++ tail) ≡ 13 + length card + length tail
  length_head = let l = length-append card tail in omega arith

  pub gate_behind : drop (13 + length card) (head_bytes card ++ tail) ≡ tail
  gate_behind = drop_at (head_bytes card) tail (13 + length card) (omega arith)

branch : {A : Type 0} (a b c : Bool) (x y z w : A) → a ≡ false → b ≡ false → c ≡ true → (if a then x else if b then y else if c then z else w) ≡ z
branch a b c x y z w p q r = rw (p, q, r) refl

and_false : (a : Bool) → (a && false) ≡ false
and_false true = refl
and_false false = refl

both : (a b : Bool) → a ≡ true → b ≡ true → (a && b) ≡ true
both a b p q = rw (p, q) refl

lt_true : (a b : ℕ) → a < b → nat_lt a b ≡ true
lt_true a b lt = grind (arith, nat_tests)

-- an open header of this card, and a byte behind it
pub record HasHead (file card : List ℕ) : Type 0 where
  pub campaign : is_campaign file ≡ true
  pub version : slice_index file 8 ≡ 1
  pub len : card_len file ≡ length card
  pub same_card : card_of file ≡ card
  pub within : 13 + length card < length file

pub header_if : (file : List ℕ) (n : ℕ) → is_campaign file ≡ true → slice_index file 8 ≡ 1 → card_len file ≡ n → 13 + n < length file
    → header_of file ≡ Ok (record { card_start = 13; card_len = n; gate = 13 + n })
header_if file n campaign version len within =
    let p : not (is_campaign file) ≡ false = ap not campaign in
    let q : (nat_lt 8 (length file) && not (slice_index file 8 == 1)) ≡ false =
    ap (λ v. nat_lt 8 (length file) && not (v == 1)) version ∙ and_false (nat_lt 8 (length file)) in
    let r : (nat_lt 12 (length file) && nat_lt (first_gate file) (length file)) ≡ true =
    both (nat_lt 12 (length file)) (nat_lt (first_gate file) (length file)) (lt_true 12 (length file) (omega (arith, within)))
    (ap (λ k. nat_lt (13 + k) (length file)) len ∙ lt_true (13 + n) (length file) within) in
    branch (not (is_campaign file)) (nat_lt 8 (length file) && not (slice_index file 8 == 1)) (nat_lt 12 (length file) && nat_lt (first_gate file) (length file))
    (Err NotACampaign) (Err Version) (Ok (record { card_start = 13; card_len = card_len file; gate = first_gate file })) (Err Cut) p q r
    ∙ ap (λ (k : ℕ). let h : Header = record { card_start = 13; card_len = k; gate = 13 + k } in Ok h) len

pub head_header : (file card : List ℕ) → HasHead file card → header_of file ≡ Ok (record { card_start = 13; card_len = length card; gate = 13 + length card })
head_header file card head = header_if file (length card) head.campaign head.version head.len head.within

-- what stands in a file of this head
rows_behind_header : List ℕ → Result Header FormatFault → Result FileData FormatFault
rows_behind_header file read = read >>= λ header. behind_card (card_of file) (rows_in (batches_of file header.gate))

pub head_rows : (file card : List ℕ) → HasHead file card → rows_read file ≡ behind_card card (rows_in (batches_of file (13 + length card)))
unfolding rows_behind_header
head_rows file card head =
    ap (rows_behind_header file) (head_header file card head)
    ∙ ap (λ (c : List ℕ). behind_card c (rows_in (batches_of file (13 + length card)))) head.same_card

pub head_written : (card tail : List ℕ) (byte : ℕ) → length card < 2 ^ 32 → HasHead (head_bytes card ++ byte ∷ tail) card
head_written card tail byte fits =
    let long = length_head card (byte ∷ tail) fits in
    record { campaign = refl; version = refl; len = card_len_read card (byte ∷ tail) fits; same_card = card_read card (byte ∷ tail) fits; within = omega (arith, long) }

pub rows_if : (batches : Option Batches) (raw : List RawRow) (rows : List KeptRow) (gate : ℕ) → batches ≡ Some (record { rows = raw; gate = gate }) → bad_in raw ≡ None → map kept_row raw ≡ rows
    → rows_in batches ≡ Ok (record { rows = rows; gate = gate })
rows_if batches raw rows gate is good read =
    ap rows_in is
    ∙ ap (λ (bad : Option ℕ). option_map BadRow bad >> (let k : KeptRows = record { rows = map kept_row raw; gate = gate } in Ok k)) good
    ∙ ap (λ (l : List KeptRow). let k : KeptRows = record { rows = l; gate = gate } in let r : Result KeptRows FormatFault = Ok k in r) read

pub rows_read_again_lem : RowsReadAgain
rows_read_again_lem card batches gate rest fits fit shut =
    let tail = blocks batches ++ gate ∷ rest in
    let start = 13 + length card in
    let read : batches_of (head_bytes card ++ tail) start ≡ Some (record { rows = map raw_of (placed_batches start batches); gate = start + length (blocks batches) }) =
    ap (λ (l : List ℕ). batches_from start 0 l) (gate_behind card tail fits) ∙ batches_read batches start gate rest fit (not_equal gate 0xA5 shut) in
    let first = first_byte batches gate rest in
    ap (λ (l : List ℕ). rows_read (head_bytes card ++ l)) first.2
    ∙ head_rows (head_bytes card ++ first.0 ∷ first.1) card (head_written card first.1 first.0 fits)
    ∙ ap (λ (l : List ℕ). behind_card card (rows_in (batches_of (head_bytes card ++ l) start))) (sym first.2)
    ∙ ap (behind_card card) (rows_if (batches_of (head_bytes card ++ tail) start) (map raw_of (placed_batches start batches)) (placed_batches start batches) (start + length (blocks batches)) read (none_bad (placed_batches start batches)) (outcomes_read (placed_batches start batches)))
  where
    first_byte : (batches : List (List Row)) (gate : ℕ) (rest : List ℕ) → (first : ℕ) × (others : List ℕ) × (blocks batches ++ gate ∷ rest ≡ first ∷ others)
    first_byte [] gate rest = (gate, rest, refl)
    first_byte (batch ∷ batches) gate rest = (0xA5, (batch_bytes batch ++ blocks batches) ++ gate ∷ rest, refl)

pub read_again_lem : ReadAgain
read_again_lem card batches gate rest fits fit agrees shut =
    data_if_agreeing (head_bytes card ++ (blocks batches ++ gate ∷ rest)) _ (rows_read_again_lem card batches gate rest fits fit shut) agrees
