-- How batches are found behind one another.
use Rattle.std.proofs.Common.{◌≡◌, ◌≢◌, ⊎_elim, ℕ, zero, suc, ◌+◌, ◌-◌, ◌*◌, ◌<◌, ◌≤◌, Bool, true, false, ◌==◌, if◌then◌else◌, List, [], ◌∷◌, ◌++◌, length, take, drop, get_or, Option, Some, None, refl, sym, ◌∙◌, ap, subst, arith, add-zero, append_assoc}
use Rattle.std.proofs.lemmas.Bool.Decides.{eqb_tells}
use Rattle.std.proofs.lemmas.List.{take-take, drop-take, drop-drop, drop_all, drop_more, length-drop, get_or-take, get_or-drop}
use Rattle.keep_format.specs.declared.raw_rows.RawRow.{RawRow}
use Rattle.keep_format.specs.KeepFile.{Batches, onto, rows_from, raw_row, batch_count, batches_from}

pub walk_skip : (at k : ℕ) (bytes : List ℕ) → batches_from at k bytes ≡ batches_from (at + k) 0 (drop k bytes)
walk_skip at zero bytes = ap (λ p. batches_from p 0 bytes) (sym (add-zero at))
walk_skip at (suc k) [] = refl
walk_skip at (suc k) (b ∷ bytes) =
    let place : at + 1 + k ≡ at + suc k = omega arith in
    walk_skip (at + 1) k bytes ∙ ap (λ p. batches_from p 0 (drop k bytes)) place

-- what follows a gate
pub data AtGate (is_open : Bool) (rows : List RawRow) (next : Option Batches) (at : ℕ) (found : Batches) : Type 0 where
  Closed : is_open ≡ false → found ≡ record { rows = []; gate = at } → AtGate is_open rows next at found
  Open : is_open ≡ true → (rest : Batches) → next ≡ Some rest → found ≡ record { rows = rows ++ rest.rows; gate = rest.gate }
      → AtGate is_open rows next at found

abbrev closed_at : ℕ → Batches
closed_at at = record { rows = []; gate = at }

some_same : {A : Type 0} (x y : A) → Some x ≡ Some y → x ≡ y
some_same x y e = cc

pub at_gate : (is_open : Bool) (rows : List RawRow) (next : Option Batches) (at : ℕ) (found : Batches) → (if is_open then onto rows next else Some (record { rows = []; gate = at })) ≡ Some found
    → AtGate is_open rows next at found
at_gate false rows next at found is = Closed refl (sym (some_same _ _ is))
at_gate true rows None at found is = absurd (cc)
at_gate true rows (Some rest) at found is = Open refl rest refl (sym (some_same _ _ is))

gate_case : (is_open : Bool) (rows : List RawRow) (next : Option Batches) (at skip : ℕ) (found : Batches) → ((rest : Batches) → next ≡ Some rest → at + 1 + skip ≤ rest.gate)
    → AtGate is_open rows next at found → at ≤ found.gate
gate_case is_open rows next at skip found after (Closed shut is) = let place = ap (λ f. f.gate) is in omega (arith, place)
gate_case is_open rows next at skip found after (Open opened rest next_is is) = let place = ap (λ f. f.gate) is in omega (arith, place, after rest next_is)

-- the gate that is found stands behind what is skipped
pub gate_after : (at k : ℕ) (bytes : List ℕ) (found : Batches) → batches_from at k bytes ≡ Some found → at + k ≤ found.gate
gate_after at k [] found is = absurd (cc)
gate_after at (suc k) (b ∷ bytes) found is = let h = gate_after (at + 1) k bytes found is in omega arith
gate_after at zero (b ∷ bytes) found is =
    let h = gate_case (b == 0xA5) (rows_from (batch_count bytes) (at + 3) (drop 2 bytes)) (batches_from (at + 1) (2 + 10 * batch_count bytes) bytes) at (2 + 10 * batch_count bytes) found
    (λ rest next_is. gate_after (at + 1) (2 + 10 * batch_count bytes) bytes rest next_is)
    (at_gate (b == 0xA5) (rows_from (batch_count bytes) (at + 3) (drop 2 bytes)) (batches_from (at + 1) (2 + 10 * batch_count bytes) bytes) at found is) in
    omega arith

pub onto_none : (found : Option Batches) → onto [] found ≡ found
onto_none None = refl
onto_none (Some found) = refl

pub onto-onto : (a b : List RawRow) (found : Option Batches) → onto a (onto b found) ≡ onto (a ++ b) found
onto-onto a b None = refl
onto-onto a b (Some found) = ap (λ (rows : List RawRow). Some (record { rows = rows; gate = found.gate })) (sym (append_assoc a b found.rows))

-- what is read of a list's front follows from the front
pub front_reads : (n i : ℕ) (xs ys : List ℕ) → i < n → take n xs ≡ take n ys → get_or xs i 0 ≡ get_or ys i 0
front_reads n i xs ys lt same = sym (get_or-take n xs i 0 lt) ∙ ap (λ (l : List ℕ). get_or l i 0) same ∙ get_or-take n ys i 0 lt

pub shorter_front : (m n : ℕ) (xs ys : List ℕ) → m ≤ n → take n xs ≡ take n ys → take m xs ≡ take m ys
shorter_front m n xs ys le same = sym (take-take m n xs le) ∙ ap (λ (l : List ℕ). take m l) same ∙ take-take m n ys le

pub front_behind : (m n : ℕ) (xs ys : List ℕ) → take (m + n) xs ≡ take (m + n) ys → take n (drop m xs) ≡ take n (drop m ys)
front_behind m n xs ys same = sym (drop-take m n xs) ∙ ap (λ (l : List ℕ). drop m l) same ∙ drop-take m n ys

pub count_same : (n : ℕ) (xs ys : List ℕ) → 2 ≤ n → take n xs ≡ take n ys → batch_count xs ≡ batch_count ys
count_same n xs ys le same =
    let a = front_reads n 0 xs ys (omega arith) same in
    let b = front_reads n 1 xs ys (omega arith) same in
    rw (a, b) refl

pub rows_same : (count at n : ℕ) (xs ys : List ℕ) → n ≡ 10 * count → take n xs ≡ take n ys → rows_from count at xs ≡ rows_from count at ys
rows_same zero at n xs ys size same = refl
rows_same (suc count) at n xs ys size same =
    let split : n ≡ 10 + 10 * count = omega (arith, size) in
    let whole : take (10 + 10 * count) xs ≡ take (10 + 10 * count) ys = subst (λ k. take k xs ≡ take k ys) split same in
    let first : take 10 xs ≡ take 10 ys = shorter_front 10 (10 + 10 * count) xs ys (omega arith) whole in
    let rest : rows_from count (at + 10) (drop 10 xs) ≡ rows_from count (at + 10) (drop 10 ys) = rows_same count (at + 10) (10 * count) (drop 10 xs) (drop 10 ys) refl (front_behind 10 (10 * count) xs ys whole) in
    ap (λ (l : List ℕ). raw_row at l ∷ rows_from count (at + 10) (drop 10 xs)) first ∙ ap (λ (l : List RawRow). raw_row at (take 10 ys) ∷ l) rest

tail_same : (a b : ℕ) (xs ys : List ℕ) → a ∷ xs ≡ b ∷ ys → xs ≡ ys
tail_same a b xs ys same = cc

head_same : (a b : ℕ) (xs ys : List ℕ) → a ∷ xs ≡ b ∷ ys → a ≡ b
head_same a b xs ys same = cc

-- where a gate is open
pub walk_open : (gate at : ℕ) (bytes : List ℕ) → (gate == 0xA5) ≡ true
    → batches_from at 0 (gate ∷ bytes) ≡ onto (rows_from (batch_count bytes) (at + 3) (drop 2 bytes)) (batches_from (at + 1) (2 + 10 * batch_count bytes) bytes)
walk_open gate at bytes opened =
    ap (λ (t : Bool). if t then onto (rows_from (batch_count bytes) (at + 3) (drop 2 bytes)) (batches_from (at + 1) (2 + 10 * batch_count bytes) bytes) else Some (closed_at at)) opened

pub walk_closed : (gate at : ℕ) (bytes : List ℕ) → (gate == 0xA5) ≡ false → batches_from at 0 (gate ∷ bytes) ≡ Some (record { rows = []; gate = at })
walk_closed gate at bytes shut =
    ap (λ (t : Bool). if t then onto (rows_from (batch_count bytes) (at + 3) (drop 2 bytes)) (batches_from (at + 1) (2 + 10 * batch_count bytes) bytes) else Some (closed_at at)) shut

-- what another file of the same front has, behind an open gate
open_prefix : (gate at n : ℕ) (bytes other : List ℕ) (rest : Batches) → (gate == 0xA5) ≡ true → take n other ≡ take n bytes → rest.gate ≡ at + 1 + n → 2 + 10 * batch_count bytes ≤ n
    → batches_from (at + 1) (2 + 10 * batch_count bytes) other ≡ onto rest.rows (batches_from rest.gate 0 (drop n other))
    → batches_from at 0 (gate ∷ other) ≡ onto (rows_from (batch_count bytes) (at + 3) (drop 2 bytes) ++ rest.rows) (batches_from rest.gate 0 (drop n other))
open_prefix gate at n bytes other rest opened same place long after =
    let count : batch_count other ≡ batch_count bytes = count_same n other bytes (omega (arith, long)) same in
    let rows : rows_from (batch_count bytes) (at + 3) (drop 2 other) ≡ rows_from (batch_count bytes) (at + 3) (drop 2 bytes) =
    rows_same (batch_count bytes) (at + 3) (10 * batch_count bytes) (drop 2 other) (drop 2 bytes) refl
    (front_behind 2 (10 * batch_count bytes) other bytes (shorter_front (2 + 10 * batch_count bytes) n other bytes long same)) in
    walk_open gate at other opened
    ∙ ap (λ k. onto (rows_from k (at + 3) (drop 2 other)) (batches_from (at + 1) (2 + 10 * k) other)) count
    ∙ ap (λ (l : List RawRow). onto l (batches_from (at + 1) (2 + 10 * batch_count bytes) other)) rows
    ∙ ap (onto (rows_from (batch_count bytes) (at + 3) (drop 2 bytes))) after
    ∙ onto-onto (rows_from (batch_count bytes) (at + 3) (drop 2 bytes)) rest.rows (batches_from rest.gate 0 (drop n other))

-- another list with the same bytes up to the closed gate has the same rows, and then what follows there
prefix_gate : (gate at n : ℕ) (bytes other : List ℕ) (found : Batches) → found.gate ≡ at + n → take n other ≡ take n (gate ∷ bytes)
    → ((rest : Batches) (m : ℕ) (behind : List ℕ) → batches_from (at + 1) (2 + 10 * batch_count bytes) bytes ≡ Some rest → rest.gate ≡ at + 1 + m → take m behind ≡ take m bytes
    → (at + 1 + (2 + 10 * batch_count bytes) ≤ rest.gate) × (batches_from (at + 1) (2 + 10 * batch_count bytes) behind ≡ onto rest.rows (batches_from rest.gate 0 (drop m behind))))
    → AtGate (gate == 0xA5) (rows_from (batch_count bytes) (at + 3) (drop 2 bytes)) (batches_from (at + 1) (2 + 10 * batch_count bytes) bytes) at found
    → batches_from at 0 other ≡ onto found.rows (batches_from found.gate 0 (drop n other))
prefix_gate gate at n bytes other found place same after (Closed shut is) =
    let here : found.gate ≡ at = ap (λ f. f.gate) is in
    let none : n ≡ 0 = omega (arith, here, place) in
    let rows : found.rows ≡ [] = ap (λ f. f.rows) is in
    sym (
    ap (λ (r : List RawRow). onto r (batches_from found.gate 0 (drop n other))) rows
    ∙ onto_none (batches_from found.gate 0 (drop n other))
    ∙ ap (λ g. batches_from g 0 (drop n other)) here
    ∙ ap (λ (m : ℕ). batches_from at 0 (drop m other)) none
    )
prefix_gate gate at zero bytes other found place same after (Open opened rest next_is is) =
    let here : found.gate ≡ rest.gate = ap (λ f. f.gate) is in
    absurd (no_room gate at bytes other found rest place here next_is)
  where
    no_room : (gate at : ℕ) (bytes other : List ℕ) (found rest : Batches) → found.gate ≡ at + 0 → found.gate ≡ rest.gate → batches_from (at + 1) (2 + 10 * batch_count bytes) bytes ≡ Some rest → ⊥
    no_room gate at bytes other found rest place here next_is = let behind = gate_after (at + 1) (2 + 10 * batch_count bytes) bytes rest next_is in omega (arith, place, here, behind)
prefix_gate gate at (suc n) bytes [] found place same after (Open opened rest next_is is) = absurd (cc)
prefix_gate gate at (suc n) bytes (o ∷ other) found place same after (Open opened rest next_is is) =
    let here : found.gate ≡ rest.gate = ap (λ f. f.gate) is in
    let at_rest : rest.gate ≡ at + 1 + n = omega (arith, place, here) in
    let first : o ≡ gate = head_same o gate (take n other) (take n bytes) same in
    let behind : take n other ≡ take n bytes = tail_same o gate (take n other) (take n bytes) same in
    let goes = after rest n other next_is at_rest behind in
    let whole = open_prefix gate at n bytes other rest opened behind at_rest (omega (arith, goes.0, at_rest)) goes.1 in
    ap (λ b. batches_from at 0 (b ∷ other)) first
    ∙ whole
    ∙ sym (
    ap (λ (r : List RawRow). onto r (batches_from found.gate 0 (drop n other))) (ap (λ f. f.rows) is)
    ∙ ap (λ g. onto (rows_from (batch_count bytes) (at + 3) (drop 2 bytes) ++ rest.rows) (batches_from g 0 (drop n other))) here
    )

pub walk_prefix : (at k n : ℕ) (bytes other : List ℕ) (found : Batches) → batches_from at k bytes ≡ Some found → found.gate ≡ at + n → take n other ≡ take n bytes
    → batches_from at k other ≡ onto found.rows (batches_from found.gate 0 (drop n other))
walk_prefix at k n [] other found is place same = absurd (cc)
walk_prefix at (suc k) zero (b ∷ bytes) other found is place same = let h = gate_after at (suc k) (b ∷ bytes) found is in absurd (omega arith)
walk_prefix at (suc k) (suc n) (b ∷ bytes) [] found is place same = absurd (cc)
walk_prefix at (suc k) (suc n) (b ∷ bytes) (o ∷ other) found is place same =
    walk_prefix (at + 1) k n bytes other found is (omega (arith, place)) (tail_same o b (take n other) (take n bytes) same)
walk_prefix at zero n (b ∷ bytes) other found is place same =
    prefix_gate b at n bytes other found place same
    (λ rest m behind next_is at_rest front. (gate_after (at + 1) (2 + 10 * batch_count bytes) bytes rest next_is, walk_prefix (at + 1) (2 + 10 * batch_count bytes) m bytes behind rest next_is at_rest front))
    (at_gate (b == 0xA5) (rows_from (batch_count bytes) (at + 3) (drop 2 bytes)) (batches_from (at + 1) (2 + 10 * batch_count bytes) bytes) at found is)

walk_past : (at skip : ℕ) (bytes : List ℕ) → length bytes ≤ skip → batches_from at skip bytes ≡ None
walk_past at skip bytes le = walk_skip at skip bytes ∙ ap (λ (l : List ℕ). batches_from (at + skip) 0 l) (drop_all skip bytes le)

-- the file ends
pub walk_end : (file : List ℕ) (at : ℕ) → length file ≤ at → batches_from at 0 (drop at file) ≡ None
walk_end file at le = ap (λ (l : List ℕ). batches_from at 0 l) (drop_all at file le)

at_place : (file : List ℕ) (at gate : ℕ) → at < length file → get_or file at 0 ≡ gate → drop at file ≡ gate ∷ drop (at + 1) file
at_place file at gate lt is = drop_more file at 0 lt ∙ ap (λ b. b ∷ drop (at + 1) file) is

-- the count behind a gate
counted : (file : List ℕ) (at count : ℕ) → count ≡ get_or file (at + 1) 0 + get_or file (at + 1 + 1) 0 * 256 → batch_count (drop (at + 1) file) ≡ count
counted file at count is =
    let a : get_or (drop (at + 1) file) 0 0 ≡ get_or file (at + 1) 0 = get_or-drop (at + 1) file 0 0 ∙ ap (λ (p : ℕ). get_or file p 0) (add-zero (at + 1)) in
    let b : get_or (drop (at + 1) file) 1 0 ≡ get_or file (at + 1 + 1) 0 = get_or-drop (at + 1) file 1 0 in
    omega (arith, a, b, is)

open_at : (file : List ℕ) (at count : ℕ) → at < length file → get_or file at 0 ≡ 0xA5 → count ≡ get_or file (at + 1) 0 + get_or file (at + 1 + 1) 0 * 256
    → batches_from at 0 (drop at file) ≡ onto (rows_from count (at + 3) (drop (at + 3) file)) (batches_from (at + 1) (2 + 10 * count) (drop (at + 1) file))
open_at file at count lt is counts =
    let bytes = drop (at + 1) file in
    let behind : drop 2 bytes ≡ drop (at + 3) file = drop-drop 2 (at + 1) file ∙ ap (λ (p : ℕ). drop p file) (let e : at + 1 + 2 ≡ at + 3 = omega arith in e) in
    ap (λ (l : List ℕ). batches_from at 0 l) (at_place file at 0xA5 lt is)
    ∙ walk_open 0xA5 at bytes refl
    ∙ ap (λ k. onto (rows_from k (at + 3) (drop 2 bytes)) (batches_from (at + 1) (2 + 10 * k) bytes)) (counted file at count counts)
    ∙ ap (λ (l : List ℕ). onto (rows_from count (at + 3) l) (batches_from (at + 1) (2 + 10 * count) bytes)) behind

pub not_equal : (a b : ℕ) → (a ≡ b → ⊥) → (a == b) ≡ false
not_equal a b apart = ⊎_elim (λ (y : ((a == b) ≡ true) × (a ≡ b)). absurd (apart y.1)) (λ (n : ((a == b) ≡ false) × (a ≢ b)). n.0) (eqb_tells a b)

-- a closed gate
pub walk_at_closed : (file : List ℕ) (at : ℕ) → at < length file → (get_or file at 0 ≡ 0xA5 → ⊥) → batches_from at 0 (drop at file) ≡ Some (record { rows = []; gate = at })
walk_at_closed file at lt shut =
    ap (λ (l : List ℕ). batches_from at 0 l) (at_place file at (get_or file at 0) lt refl)
    ∙ walk_closed (get_or file at 0) at (drop (at + 1) file) (not_equal _ _ shut)

-- an open gate that ends the file, or has no room for its count
pub walk_at_end : (file : List ℕ) (at : ℕ) → at < length file → get_or file at 0 ≡ 0xA5 → length file - at < 3 → batches_from at 0 (drop at file) ≡ None
walk_at_end file at lt is short =
    let bytes = drop (at + 1) file in
    let none = walk_past (at + 1) (2 + 10 * batch_count bytes) bytes (let l = length-drop (at + 1) file in omega (arith, l, short)) in
    ap (λ (l : List ℕ). batches_from at 0 l) (at_place file at 0xA5 lt is)
    ∙ walk_open 0xA5 at bytes refl
    ∙ ap (onto (rows_from (batch_count bytes) (at + 3) (drop 2 bytes))) none

-- an open gate whose batch is cut
pub walk_at_cut : (file : List ℕ) (at count : ℕ) → at < length file → get_or file at 0 ≡ 0xA5 → count ≡ get_or file (at + 1) 0 + get_or file (at + 1 + 1) 0 * 256 → length file - at - 3 < 10 * count → batches_from at 0 (drop at file) ≡ None
walk_at_cut file at count lt is counts short =
    let none = walk_past (at + 1) (2 + 10 * count) (drop (at + 1) file) (let l = length-drop (at + 1) file in omega (arith, l, short)) in
    open_at file at count lt is counts ∙ ap (onto (rows_from count (at + 3) (drop (at + 3) file))) none

-- one batch more
pub walk_step : (file : List ℕ) (at count : ℕ) → at < length file → get_or file at 0 ≡ 0xA5 → count ≡ get_or file (at + 1) 0 + get_or file (at + 1 + 1) 0 * 256
    → batches_from at 0 (drop at file) ≡ onto (rows_from count (at + 3) (drop (at + 3) file)) (batches_from (at + (3 + 10 * count)) 0 (drop (at + (3 + 10 * count)) file))
walk_step file at count lt is counts =
    let place : at + 1 + (2 + 10 * count) ≡ at + (3 + 10 * count) = omega arith in
    let next : batches_from (at + 1) (2 + 10 * count) (drop (at + 1) file) ≡ batches_from (at + (3 + 10 * count)) 0 (drop (at + (3 + 10 * count)) file) =
    walk_skip (at + 1) (2 + 10 * count) (drop (at + 1) file) ∙ ap (λ (l : List ℕ). batches_from (at + 1 + (2 + 10 * count)) 0 l) (drop-drop (2 + 10 * count) (at + 1) file) ∙ ap (λ (p : ℕ). batches_from p 0 (drop p file)) place in
    open_at file at count lt is counts ∙ ap (onto (rows_from count (at + 3) (drop (at + 3) file))) next

-- the gate that is found is there, and closed
pub record ClosedAt (bytes : List ℕ) (n : ℕ) : Type 0 where
  pub byte : ℕ
  pub rest : List ℕ
  pub there : drop n bytes ≡ byte ∷ rest
  pub shut : (byte == 0xA5) ≡ false

closed_case : (gate at n : ℕ) (bytes : List ℕ) (found : Batches) → found.gate ≡ at + n
    → ((rest : Batches) (m : ℕ) → batches_from (at + 1) (2 + 10 * batch_count bytes) bytes ≡ Some rest → rest.gate ≡ at + 1 + m → (at + 1 + (2 + 10 * batch_count bytes) ≤ rest.gate) × ClosedAt bytes m)
    → AtGate (gate == 0xA5) (rows_from (batch_count bytes) (at + 3) (drop 2 bytes)) (batches_from (at + 1) (2 + 10 * batch_count bytes) bytes) at found → ClosedAt (gate ∷ bytes) n
closed_case gate at n bytes found place after (Closed shut is) =
    let here : found.gate ≡ at = ap (λ f. f.gate) is in
    let none : n ≡ 0 = omega (arith, here, place) in
    subst (λ (m : ℕ). ClosedAt (gate ∷ bytes) m) (sym none) (record { byte = gate; rest = bytes; there = refl; shut = shut })
closed_case gate at zero bytes found place after (Open opened rest next_is is) =
    let here : found.gate ≡ rest.gate = ap (λ f. f.gate) is in
    absurd (no_room at bytes found rest place here (gate_after (at + 1) (2 + 10 * batch_count bytes) bytes rest next_is))
  where
    no_room : (at : ℕ) (bytes : List ℕ) (found rest : Batches) → found.gate ≡ at + 0 → found.gate ≡ rest.gate → at + 1 + (2 + 10 * batch_count bytes) ≤ rest.gate → ⊥
    no_room at bytes found rest place here behind = omega (arith, place, here, behind)
closed_case gate at (suc n) bytes found place after (Open opened rest next_is is) =
    let here : found.gate ≡ rest.gate = ap (λ f. f.gate) is in
    let inner : ClosedAt bytes n = (after rest n next_is (omega (arith, place, here))).1 in
    record { byte = inner.byte; rest = inner.rest; there = inner.there; shut = inner.shut }

pub gate_closed : (at k n : ℕ) (bytes : List ℕ) (found : Batches) → batches_from at k bytes ≡ Some found → found.gate ≡ at + n → ClosedAt bytes n
gate_closed at k n [] found is place = absurd (cc)
gate_closed at (suc k) zero (b ∷ bytes) found is place = let h = gate_after at (suc k) (b ∷ bytes) found is in absurd (omega arith)
gate_closed at (suc k) (suc n) (b ∷ bytes) found is place =
    let inner = gate_closed (at + 1) k n bytes found is (omega (arith, place)) in
    record { byte = inner.byte; rest = inner.rest; there = inner.there; shut = inner.shut }
gate_closed at zero n (b ∷ bytes) found is place =
    closed_case b at n bytes found place
    (λ rest m next_is at_rest. (gate_after (at + 1) (2 + 10 * batch_count bytes) bytes rest next_is, gate_closed (at + 1) (2 + 10 * batch_count bytes) m bytes rest next_is at_rest))
    (at_gate (b == 0xA5) (rows_from (batch_count bytes) (at + 3) (drop 2 bytes)) (batches_from (at + 1) (2 + 10 * batch_count bytes) bytes) at found is)
