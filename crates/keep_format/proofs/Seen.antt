-- What is kept of each name tells which rows disagree with those before.
use Rattle.std.proofs.Common.{◌≡◌, ℕ, Bool, true, false, not, ◌&&◌, ◌||◌, ◌==◌, if◌then◌else◌, List, [], ◌∷◌, ◌++◌, Option, Some, None, refl, sym, ◌∙◌, ap, subst, arith}
use Rattle.std.proofs.lemmas.Bool.Decides.{nat_tests}
use Rattle.std.specs.BTreeMap.{BTreeMap, get, Updates}
use Rattle.keep_format.specs.declared.rows.KeptRow.{KeptRow}
use Rattle.keep_format.specs.declared.agreement.Mark.{Mark}
use Rattle.keep_format.specs.declared.agreement.Marks.{Marks}
use Rattle.keep_format.specs.KeepFile.{agree, apart, byte_of, same_name}
use Rattle.keep_format.specs.Marks.{apart_in, marked}
use Rattle.keep_format.proofs.Names.{name_cmp, name_of, has_name, name_same, same_number, equal_names}
use Rattle.keep_format.proofs.Lists.{or_else, or_none, apart-push}

abbrev pub mark_of : KeptRow → Mark
mark_of row = record { at = row.at; byte = byte_of row.outcome }

abbrev pub seen_from : Option Marks → List KeptRow → ℕ × ℕ × ℕ → Option Marks
seen_from marks [] name = marks
seen_from marks (row ∷ rows) name = seen_from (if has_name row name then Some (marked marks (mark_of row)) else marks) rows name

-- what is kept of a name behind these rows
abbrev pub seen_in : List KeptRow → ℕ × ℕ × ℕ → Option Marks
seen_in rows name = seen_from None rows name

-- the second byte agrees with the first, and is another
abbrev pub IsOther : ℕ → Option Mark → Type 0
IsOther byte None = Unit {0}
IsOther byte (Some mark) = (agree byte mark.byte ≡ true) × ((byte == mark.byte) ≡ false)

abbrev pub AreMarks : Option Marks → Type 0
AreMarks None = Unit {0}
AreMarks (Some marks) = IsOther marks.first.byte marks.other

-- each row disagrees first with what is kept of its name
abbrev pub Told : List KeptRow → Type 0
Told rows = (row : KeptRow) → apart rows row ≡ apart_in (seen_in rows (name_of row)) (byte_of row.outcome)

abbrev pub Kept : List KeptRow → Type 0
Kept rows = (name : ℕ × ℕ × ℕ) → AreMarks (seen_in rows name)

-- ---- bytes

-- of three bytes that agree, two are one
one_of_two : (a b c : ℕ) → agree a b ≡ true → (a == b) ≡ false → agree a c ≡ true → agree b c ≡ true → ((a == c) || (b == c)) ≡ true
one_of_two a b c ab other ac bc = grind (arith, nat_tests)

-- ---- marks

module _ (f o m : ℕ) where
  absorbed : (g : Bool) → (if g then None else Some f) ≡ or_else (if g then None else Some f) (if g then None else Some m)
  absorbed true = refl
  absorbed false = refl

  chained : (g : Bool) (rest : Option ℕ) → (if g then rest else Some f) ≡ or_else (if g then None else Some f) rest
  chained true rest = refl
  chained false rest = refl

  absorbed_first : (g h : Bool) → (if g then (if h then None else Some o) else Some f) ≡ or_else (if g then (if h then None else Some o) else Some f) (if g then None else Some m)
  absorbed_first true true = refl
  absorbed_first true false = refl
  absorbed_first false h = refl

  absorbed_other : (g h : Bool) → (if g then (if h then None else Some o) else Some f) ≡ or_else (if g then (if h then None else Some o) else Some f) (if h then None else Some m)
  absorbed_other true true = refl
  absorbed_other true false = refl
  absorbed_other false h = refl

  both_agree : (g h : Bool) → (if g then (if h then None else Some o) else Some f) ≡ None → (g ≡ true) × (h ≡ true)
  both_agree true true is = (refl, refl)
  both_agree true false is = absurd (cc)
  both_agree false h is = absurd (cc)

  one_agrees : (g : Bool) → (if g then None else Some f) ≡ None → g ≡ true
  one_agrees true is = refl
  one_agrees false is = absurd (cc)

or_true : (a : Bool) → (a || true) ≡ true
or_true true = refl
or_true false = refl

either : (a b : Bool) → (a || b) ≡ true → {R : Type 0} → (a ≡ true → R) → (b ≡ true → R) → R
either true b is left right = left refl
either false b is left right = right is

apart_none : (t : Bool) (first m : Mark) (byte : ℕ) → (first.byte == m.byte) ≡ t
    → apart_in (Some (if t || false then record { first = first; other = None } else record { first = first; other = Some m })) byte
    ≡ or_else (if agree first.byte byte then None else Some first.at) (if agree m.byte byte then None else Some m.at)
apart_none true first m byte is =
    absorbed first.at 0 m.at (agree first.byte byte)
    ∙ ap (λ (b : ℕ). or_else (if agree first.byte byte then None else Some first.at) (if agree b byte then None else Some m.at)) (same_number first.byte m.byte is)
apart_none false first m byte is = chained first.at 0 m.at (agree first.byte byte) (if agree m.byte byte then None else Some m.at)

apart_some : (first o m : Mark) (byte : ℕ) → agree first.byte o.byte ≡ true → (first.byte == o.byte) ≡ false → agree first.byte m.byte ≡ true → agree o.byte m.byte ≡ true
    → apart_in (Some (record { first = first; other = Some o })) byte
    ≡ or_else (apart_in (Some (record { first = first; other = Some o })) byte) (if agree m.byte byte then None else Some m.at)
apart_some first o m byte agrees other am bm =
    let whole = apart_in (Some (record { first = first; other = Some o })) byte in
    either (first.byte == m.byte) (o.byte == m.byte) (one_of_two first.byte o.byte m.byte agrees other am bm)
    (λ is.
    absorbed_first first.at o.at m.at (agree first.byte byte) (agree o.byte byte)
    ∙ ap (λ (b : ℕ). or_else whole (if agree b byte then None else Some m.at)) (same_number first.byte m.byte is))
    (λ is.
    absorbed_other first.at o.at m.at (agree first.byte byte) (agree o.byte byte)
    ∙ ap (λ (b : ℕ). or_else whole (if agree b byte then None else Some m.at)) (same_number o.byte m.byte is))

-- marks with a row more tell the same, and that row
apart_more : (first : Mark) (other : Option Mark) (m : Mark) (byte : ℕ) → IsOther first.byte other → apart_in (Some (record { first = first; other = other })) m.byte ≡ None
    → apart_in (Some (marked (Some (record { first = first; other = other })) m)) byte
    ≡ or_else (apart_in (Some (record { first = first; other = other })) byte) (if agree m.byte byte then None else Some m.at)
apart_more first None m byte kept none = apart_none (first.byte == m.byte) first m byte refl
apart_more first (Some o) m byte kept none =
    let agrees = both_agree first.at o.at 0 (agree first.byte m.byte) (agree o.byte m.byte) none in
    ap (λ (t : Bool). apart_in (Some (if t then record { first = first; other = Some o } else record { first = first; other = Some m })) byte) (or_true (first.byte == m.byte))
    ∙ apart_some first o m byte kept.0 kept.1 agrees.0 agrees.1

marked_tells : (marks : Option Marks) (m : Mark) (byte : ℕ) → AreMarks marks → apart_in marks m.byte ≡ None
    → apart_in (Some (marked marks m)) byte ≡ or_else (apart_in marks byte) (if agree m.byte byte then None else Some m.at)
marked_tells None m byte kept none = refl
marked_tells (Some marks) m byte kept none = apart_more marks.first marks.other m byte kept none

kept_none : (t : Bool) (first m : Mark) → (first.byte == m.byte) ≡ t → agree first.byte m.byte ≡ true
    → AreMarks (Some (if t || false then record { first = first; other = None } else record { first = first; other = Some m }))
kept_none true first m is agrees = tt
kept_none false first m is agrees = (agrees, is)

kept_more : (first : Mark) (other : Option Mark) (m : Mark) → IsOther first.byte other → apart_in (Some (record { first = first; other = other })) m.byte ≡ None
    → AreMarks (Some (marked (Some (record { first = first; other = other })) m))
kept_more first None m kept none = kept_none (first.byte == m.byte) first m refl (one_agrees first.at 0 0 (agree first.byte m.byte) none)
kept_more first (Some o) m kept none =
    subst (λ (t : Bool). AreMarks (Some (if t then record { first = first; other = Some o } else record { first = first; other = Some m }))) (sym (or_true (first.byte == m.byte))) kept

marked_kept : (marks : Option Marks) (m : Mark) → AreMarks marks → apart_in marks m.byte ≡ None → AreMarks (Some (marked marks m))
marked_kept None m kept none = tt
marked_kept (Some marks) m kept none = kept_more marks.first marks.other m kept none

-- ---- a row more

seen-push : (marks : Option Marks) (before : List KeptRow) (row : KeptRow) (name : ℕ × ℕ × ℕ)
    → seen_from marks (before ++ row ∷ []) name ≡ (if has_name row name then Some (marked (seen_from marks before name) (mark_of row)) else seen_from marks before name)
seen-push marks [] row name = refl
seen-push marks (r ∷ before) row name = seen-push (if has_name r name then Some (marked marks (mark_of r)) else marks) before row name

tell_case : (t : Bool) (marks : Option Marks) (m : Mark) (byte : ℕ) → (t ≡ true → apart_in marks m.byte ≡ None) → AreMarks marks
    → or_else (apart_in marks byte) (if t && not (agree m.byte byte) then Some m.at else None) ≡ apart_in (if t then Some (marked marks m) else marks) byte
tell_case true marks m byte none kept = ap (or_else (apart_in marks byte)) (turned (agree m.byte byte)) ∙ sym (marked_tells marks m byte kept (none refl))
  where
    turned : (g : Bool) → (if not g then Some m.at else None) ≡ (if g then None else Some m.at)
    turned true = refl
    turned false = refl
tell_case false marks m byte none kept = or_none (apart_in marks byte)

keep_case : (t : Bool) (marks : Option Marks) (m : Mark) → (t ≡ true → apart_in marks m.byte ≡ None) → AreMarks marks → AreMarks (if t then Some (marked marks m) else marks)
keep_case true marks m none kept = marked_kept marks m kept (none refl)
keep_case false marks m none kept = kept

module _ (before : List KeptRow) (r : KeptRow) (kept : Kept before) (none : apart_in (seen_in before (name_of r)) (byte_of r.outcome) ≡ None) where
  none_of : (name : ℕ × ℕ × ℕ) → has_name r name ≡ true → apart_in (seen_in before name) (byte_of r.outcome) ≡ None
  none_of name is = ap (λ (n : ℕ × ℕ × ℕ). apart_in (seen_in before n) (byte_of r.outcome)) (sym (name_same r name is)) ∙ none

  pub told_more : Told before → Told (before ++ r ∷ [])
  told_more told row =
      apart-push before r row
      ∙ ap (λ (o : Option ℕ). or_else o (if same_name r row && not (agree (byte_of r.outcome) (byte_of row.outcome)) then Some r.at else None)) (told row)
      ∙ tell_case (has_name r (name_of row)) (seen_in before (name_of row)) (mark_of r) (byte_of row.outcome) (none_of (name_of row)) (kept (name_of row))
      ∙ ap (λ (s : Option Marks). apart_in s (byte_of row.outcome)) (sym (seen-push None before r (name_of row)))

  pub all_kept : Kept (before ++ r ∷ [])
  all_kept name = subst AreMarks (sym (seen-push None before r name)) (keep_case (has_name r name) (seen_in before name) (mark_of r) (none_of name) (kept name))

-- the map with a row more
pub map_more : (before : List KeptRow) (row : KeptRow) (old new : BTreeMap (ℕ × ℕ × ℕ) Marks) → ((name : ℕ × ℕ × ℕ) → get name_cmp old name ≡ seen_in before name)
    → Updates name_cmp old new (name_of row) (Some (marked (seen_in before (name_of row)) (mark_of row)))
    → (name : ℕ × ℕ × ℕ) → get name_cmp new name ≡ seen_in (before ++ row ∷ []) name
map_more before row old new so_far updates name =
    updates.0 name
    ∙ ap (λ (b : Bool). if b then Some (marked (seen_in before (name_of row)) (mark_of row)) else get name_cmp old name) (equal_names row name)
    ∙ ap (λ (o : Option Marks). if has_name row name then Some (marked (seen_in before (name_of row)) (mark_of row)) else o) (so_far name)
    ∙ in_case (has_name row name) (name_same row name)
    ∙ sym (seen-push None before row name)
  where
    in_case : (t : Bool) → (t ≡ true → name_of row ≡ name)
        → (if t then Some (marked (seen_in before (name_of row)) (mark_of row)) else seen_in before name) ≡ (if t then Some (marked (seen_in before name) (mark_of row)) else seen_in before name)
    in_case true same = ap (λ (n : ℕ × ℕ × ℕ). Some (marked (seen_in before n) (mark_of row))) (same refl)
    in_case false same = refl
