-- What a file has whose header is read.
use Rattle.std.proofs.Common.{◌≡◌, ℕ, ◌+◌, ◌<◌, Bool, true, false, not, ◌&&◌, ◌==◌, nat_lt, if◌then◌else◌, List, length, slice_index, Ok, Err, refl, sym, arith}
use Rattle.std.proofs.lemmas.Bool.Decides.{nat_tests}
use Rattle.keep_format.specs.declared.header.Header.{Header}
use Rattle.keep_format.specs.declared.fault.FormatFault.{FormatFault}
use Rattle.keep_format.specs.KeepFile.{is_campaign, card_len, first_gate, header_in, header_of}

pub record HeaderFacts (front : List ℕ) (len : ℕ) (header : Header) : Type 0 where
  pub campaign : is_campaign front ≡ true
  pub version : slice_index front 8 ≡ 1
  pub is : header ≡ record { card_start = 13; card_len = card_len front; gate = 13 + card_len front }
  pub within : 13 + card_len front < len

record Branches (a b c : Bool) (z h : Header) : Type 0 where
  first : a ≡ false
  second : b ≡ false
  third : c ≡ true
  same : z ≡ h

branches : (a b c : Bool) (x y w : FormatFault) (z h : Header) → (if a then Err x else if b then Err y else if c then Ok z else Err w) ≡ Ok h → Branches a b c z h
branches true b c x y w z h is = absurd (cc)
branches false true c x y w z h is = absurd (cc)
branches false false false x y w z h is = absurd (cc)
branches false false true x y w z h is = record { first = refl; second = refl; third = refl; same = cc }

not_false : (a : Bool) → not a ≡ false → a ≡ true
not_false true is = refl
not_false false is = absurd (cc)

both : (a b : Bool) → (a && b) ≡ true → (a ≡ true) × (b ≡ true)
both true b is = (refl, is)
both false b is = absurd (cc)

lt_if : (a b : ℕ) → nat_lt a b ≡ true → a < b
lt_if a b is = grind (arith, nat_tests)

lt_true : (a b : ℕ) → a < b → nat_lt a b ≡ true
lt_true a b lt = grind (arith, nat_tests)

same_number : (a b : ℕ) → (a == b) ≡ true → a ≡ b
same_number a b is = grind (arith, nat_tests)

second_of : (a b : Bool) → (a && b) ≡ false → a ≡ true → b ≡ false
second_of true b is t = is
second_of false b is t = absurd (cc)

pub header_facts : (front : List ℕ) (len : ℕ) (header : Header) → header_in front len ≡ Ok header → HeaderFacts front len header
header_facts front len header is =
    let b = branches (not (is_campaign front)) (nat_lt 8 len && not (slice_index front 8 == 1)) (nat_lt 12 len && nat_lt (first_gate front) len) _ _ _
    (record { card_start = 13; card_len = card_len front; gate = first_gate front }) header is in
    let ends = both (nat_lt 12 len) (nat_lt (first_gate front) len) b.third in
    let long = lt_if 12 len ends.0 in
    record {
      campaign = not_false (is_campaign front) b.first;
      version = same_number (slice_index front 8) 1 (not_false (slice_index front 8 == 1) (second_of (nat_lt 8 len) (not (slice_index front 8 == 1)) b.second (lt_true 8 len (omega (arith, long)))));
      is = sym b.same;
      within = lt_if (13 + card_len front) len ends.1;
    }

-- a file that has a header is not empty
pub some_if : (file : List ℕ) (header : Header) → header_of file ≡ Ok header → 0 < length file
some_if file header is = let facts = header_facts file (length file) header is in omega (arith, facts.within)
