-- What the front of a file tells of it.
use Rattle.std.proofs.Common.{◌≡◌, ⊎_elim, inl, inr, ℕ, zero, suc, ◌+◌, ◌-◌, ◌<◌, ◌≤◌, min, Bool, not, ◌&&◌, ◌==◌, nat_lt, if◌then◌else◌, List, [], ◌∷◌, ◌++◌, length, take, drop, slice_index, Option, Some, Result, Ok, Err, refl, sym, ◌∙◌, ap, arith}
use Rattle.std.specs.Option.{option_map}
use Rattle.std.proofs.lemmas.Bool.{cases_lt}
use Rattle.std.proofs.lemmas.List.{take-take, drop-take, length-take, length-take-le, take_min, take-append-drop}
use Rattle.std.proofs.Math.Seq.{take-append-add}
use Rattle.keep_format.specs.declared.header.Header.{Header}
use Rattle.keep_format.specs.declared.fault.FormatFault.{FormatFault}
use Rattle.keep_format.specs.declared.fault.FormatFault.TheVariants.{NotACampaign, Version, Cut}
use Rattle.keep_format.specs.KeepFile.{is_campaign, card_len, card_of, header_in, header_of}
use Rattle.keep_format.proofs.Walks.{front_reads, shorter_front}
use Rattle.result_keeper.specs.Acceptance.{difference}
use Rattle.result_keeper.specs.Accept.{IsBegun}
use Rattle.result_keeper.specs.Begin.{IsClosed, NeedsClosing}
use Rattle.result_keeper.specs.Reading.{IsFront}
use Rattle.result_keeper.proofs.Headers.{header_facts}
use Rattle.result_keeper.proofs.Written.{first_known}

-- a piece behind a front
pub piece_behind : (file bytes new : List ℕ) (at n : ℕ) → at ≤ length file → take at bytes ≡ take at file → take (at + n) new ≡ take at bytes ++ take n (drop at file) → take (at + n) new ≡ take (at + n) file
piece_behind file bytes new at n within front piece =
    piece
    ∙ ap (λ (l : List ℕ). l ++ take n (drop at file)) front
    ∙ sym (take-append-add (take at file) (drop at file) n)
    ∙ ap (λ (k : ℕ). take (k + n) (take at file ++ drop at file)) (length-take-le at file within)
    ∙ ap (λ (l : List ℕ). take (at + n) l) (take-append-drop at file)

-- ---- the header

pub front_campaign : (file : List ℕ) → is_campaign (take 8 file) ≡ is_campaign file
front_campaign [] = refl
front_campaign (a ∷ []) = refl
front_campaign (a ∷ b ∷ []) = refl
front_campaign (a ∷ b ∷ c ∷ []) = refl
front_campaign (a ∷ b ∷ c ∷ d ∷ []) = refl
front_campaign (a ∷ b ∷ c ∷ d ∷ e ∷ []) = refl
front_campaign (a ∷ b ∷ c ∷ d ∷ e ∷ f ∷ []) = refl
front_campaign (a ∷ b ∷ c ∷ d ∷ e ∷ f ∷ g ∷ []) = refl
front_campaign (a ∷ b ∷ c ∷ d ∷ e ∷ f ∷ g ∷ h ∷ rest) = refl

pub number_same : (xs ys : List ℕ) → take 13 xs ≡ take 13 ys → card_len xs ≡ card_len ys
number_same xs ys same =
    let a = front_reads 13 9 xs ys (omega arith) same in
    let b = front_reads 13 10 xs ys (omega arith) same in
    let c = front_reads 13 11 xs ys (omega arith) same in
    let d = front_reads 13 12 xs ys (omega arith) same in
    rw (a, b, c, d) refl

-- the header, by what is read of it
abbrev header_by : Bool → ℕ → ℕ → ℕ → Result Header FormatFault
header_by campaign version card len =
    if not campaign then Err NotACampaign
    else if nat_lt 8 len && not (version == 1) then Err Version
    else if nat_lt 12 len && nat_lt (13 + card) len
    then Ok (record { card_start = 13; card_len = card; gate = 13 + card })
    else Err Cut

-- ---- the card

-- two lists differ behind the end of one, or before it
pub differ_front : (a b : List ℕ) (n : ℕ) → length b < n → difference (take n a) b ≡ difference a b
differ_front a b zero short = absurd (omega (arith, short))
differ_front [] b (suc n) short = refl
differ_front (x ∷ a) [] (suc n) short = refl
differ_front (x ∷ a) (y ∷ b) (suc n) short =
    ap (λ (d : Option ℕ). if x == y then option_map (λ at. at + 1) d else Some 0) (differ_front a b n (omega (arith, short)))

module _ (bytes file front : List ℕ) (len : ℕ) (is : IsFront (13 + length bytes + 1) file front len) where
  pub front_header : header_in front len ≡ header_of file
  front_header =
      let same : take (13 + length bytes + 1) front ≡ take (13 + length bytes + 1) file = ap (λ (l : List ℕ). take (13 + length bytes + 1) l) is.first ∙ take-take (13 + length bytes + 1) (13 + length bytes + 1) file (omega arith) in
      let eight : take 8 front ≡ take 8 file = shorter_front 8 (13 + length bytes + 1) front file (omega arith) same in
      ap (λ (b : Bool). header_by b (slice_index front 8) (card_len front) len) (sym (front_campaign front) ∙ ap is_campaign eight ∙ front_campaign file)
      ∙ ap (λ (v : ℕ). header_by (is_campaign file) v (card_len front) len) (front_reads (13 + length bytes + 1) 8 front file (omega arith) same)
      ∙ ap (λ (k : ℕ). header_by (is_campaign file) (slice_index file 8) k len) (number_same front file (shorter_front 13 (13 + length bytes + 1) front file (omega arith) same))
      ∙ ap (header_by (is_campaign file) (slice_index file 8) (card_len file)) is.same_len

  front_long : length front ≡ min (13 + length bytes + 1) (length file)
  front_long = ap length is.first ∙ length-take (13 + length bytes + 1) file

  behind_head : drop 13 front ≡ take (length bytes + 1) (drop 13 file)
  behind_head =
      ap (λ (l : List ℕ). drop 13 l) is.first
      ∙ ap (λ (n : ℕ). drop 13 (take n file)) (let e : 13 + length bytes + 1 ≡ 13 + (length bytes + 1) = omega arith in e)
      ∙ drop-take 13 (length bytes + 1) file

  pub front_differs : (header : Header) (end : ℕ) → header_of file ≡ Ok header → end ≡ min (length front) header.gate
      → difference (take (end - 13) (drop 13 front)) bytes ≡ difference (card_of file) bytes
  front_differs header end read end_is =
      let facts = header_facts file (length file) header read in
      let gate : header.gate ≡ 13 + card_len file = ap (λ (h : Header). h.gate) facts.is in
      let long = front_long in
      ap (λ (l : List ℕ). difference (take (end - 13) l) bytes) behind_head
      ∙ ⊎_elim
      (λ short.
      let le : card_len file ≤ length bytes + 1 = omega (arith, short) in
      let all : end - 13 ≡ card_len file = omega (arith, short, gate, long, facts.within, end_is) in
      ap (λ (l : List ℕ). difference l bytes)
      (ap (λ (n : ℕ). take n (take (length bytes + 1) (drop 13 file))) all ∙ take-take (card_len file) (length bytes + 1) (drop 13 file) le))
      (λ more.
      let le : length bytes + 1 ≤ card_len file = omega (arith, more) in
      let all : end - 13 ≡ length bytes + 1 = omega (arith, more, gate, long, facts.within, end_is) in
      ap (λ (l : List ℕ). difference l bytes)
      (ap (λ (n : ℕ). take n (take (length bytes + 1) (drop 13 file))) all
      ∙ take-take (length bytes + 1) (length bytes + 1) (drop 13 file) (omega arith)
      ∙ sym (take-take (length bytes + 1) (card_len file) (drop 13 file) le))
      ∙ differ_front (card_of file) bytes (length bytes + 1) (omega arith))
      (cases_lt (card_len file) (length bytes + 1))

  -- the front is the file's, so far as it goes
  pub front_is : front ≡ take (length front) file
  front_is = is.first ∙ sym (ap (λ (n : ℕ). take n file) front_long ∙ take_min (13 + length bytes + 1) file)

  pub first_is : take 1 front ≡ take 1 file
  first_is = ap (λ (l : List ℕ). take 1 l) is.first ∙ take-take 1 (13 + length bytes + 1) file (omega arith)

-- ---- the first byte

no_first : (file : List ℕ) → take 1 file ≡ [] → file ≡ []
no_first [] none = refl
no_first (byte ∷ file) none = absurd (cc)

module _ (front file : List ℕ) (first : take 1 front ≡ take 1 file) where
  pub none_by_front : front ≡ [] → file ≡ []
  none_by_front none = no_first file (sym first ∙ ap (λ (l : List ℕ). take 1 l) none)

  pub needs_by_front : NeedsClosing front → NeedsClosing file
  needs_by_front (inl none) = inl (none_by_front none)
  needs_by_front (inr (rest, is)) = inr (drop 1 file, first_known file 0xA5 (sym first ∙ ap (λ (l : List ℕ). take 1 l) is))

  pub closed_by_front : IsClosed front → IsClosed file
  closed_by_front closed = record {
    byte = closed.byte;
    rest = drop 1 file;
    is = first_known file closed.byte (sym first ∙ ap (λ (l : List ℕ). take 1 l) closed.is);
    shut = closed.shut;
  }

  pub begun_by_front : (fresh : Bool) → IsBegun fresh front → IsBegun fresh file
  begun_by_front fresh (inl told) = inl told
  begun_by_front fresh (inr none) = inr (none_by_front none)
