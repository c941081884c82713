-- Rows that agree with those before, and the first that does not.
use Rattle.std.proofs.Common.{◌≡◌, ℕ, Bool, true, false, if◌then◌else◌, List, [], ◌∷◌, ◌++◌, Option, Some, None, refl, sym, ◌∙◌, ap, append_assoc}
use Rattle.std.proofs.lemmas.List.{append-nil}
use Rattle.keep_format.specs.declared.rows.KeptRow.{KeptRow}
use Rattle.keep_format.specs.declared.fault.FormatFault.{FormatFault}
use Rattle.keep_format.specs.declared.fault.FormatFault.TheVariants.{Conflict}
use Rattle.keep_format.specs.KeepFile.{disagree, apart, conflict_at, conflict_behind}

-- the first of two places that are there
abbrev pub or_else : Option ℕ → Option ℕ → Option ℕ
or_else None other = other
or_else (Some first) other = Some first

pub or_none : (first : Option ℕ) → or_else first None ≡ first
or_none None = refl
or_none (Some first) = refl

apart_case : (t : Bool) (one : ℕ) (first other : Option ℕ) → (if t then Some one else or_else first other) ≡ or_else (if t then Some one else first) other
apart_case true one first other = refl
apart_case false one first other = refl

pub apart-push : (before : List KeptRow) (r row : KeptRow) → apart (before ++ r ∷ []) row ≡ or_else (apart before row) (if disagree r row then Some r.at else None)
apart-push [] r row = refl
apart-push (b ∷ before) r row =
    ap (λ (o : Option ℕ). if disagree b row then Some b.at else o) (apart-push before r row)
    ∙ apart_case (disagree b row) b.at (apart before row) (if disagree r row then Some r.at else None)

-- a row that agrees, in front of others
pub passes : (before rest rows : List KeptRow) (row : KeptRow) (whole : Option FormatFault) → rows ≡ row ∷ rest → apart before row ≡ None → conflict_behind before rows ≡ whole → conflict_behind (before ++ row ∷ []) rest ≡ whole
passes before rest rows row whole is agrees so_far =
    sym (ap (λ (l : List KeptRow). conflict_behind before l) is ∙ ap (λ (o : Option ℕ). conflict_at o row.at (conflict_behind (before ++ row ∷ []) rest)) agrees) ∙ so_far

-- a row that does not, in front of others
pub fails : (before rest rows : List KeptRow) (row : KeptRow) (first : ℕ) (whole : Option FormatFault) → rows ≡ row ∷ rest → apart before row ≡ Some first → conflict_behind before rows ≡ whole
    → Some (Conflict first row.at) ≡ whole
fails before rest rows row first whole is other so_far =
    sym (ap (λ (l : List KeptRow). conflict_behind before l) is ∙ ap (λ (o : Option ℕ). conflict_at o row.at (conflict_behind (before ++ row ∷ []) rest)) other) ∙ so_far

-- ---- rows and more rows

-- with none that disagree, what comes behind
pub conflict-append : (before a b : List KeptRow) → conflict_behind before a ≡ None → conflict_behind before (a ++ b) ≡ conflict_behind (before ++ a) b
conflict-append before [] b fine = ap (λ (l : List KeptRow). conflict_behind l b) (sym (append-nil before))
conflict-append before (row ∷ a) b fine = by (apart before row) refl fine (conflict-append (before ++ row ∷ []) a b)
  where
    by : (found : Option ℕ) → apart before row ≡ found → conflict_at found row.at (conflict_behind (before ++ row ∷ []) a) ≡ None
        → (conflict_behind (before ++ row ∷ []) a ≡ None → conflict_behind (before ++ row ∷ []) (a ++ b) ≡ conflict_behind ((before ++ row ∷ []) ++ a) b)
        → conflict_at (apart before row) row.at (conflict_behind (before ++ row ∷ []) (a ++ b)) ≡ conflict_behind (before ++ row ∷ a) b
    by None is none rest =
        ap (λ (o : Option ℕ). conflict_at o row.at (conflict_behind (before ++ row ∷ []) (a ++ b))) is
        ∙ rest none
        ∙ ap (λ (l : List KeptRow). conflict_behind l b) (append_assoc before (row ∷ []) a)
    by (Some first) is none rest = absurd (cc)

-- the first of rows that disagrees is the first of these and more
pub conflict-front : (before a b : List KeptRow) (fault : FormatFault) → conflict_behind before a ≡ Some fault → conflict_behind before (a ++ b) ≡ Some fault
conflict-front before [] b fault is = absurd (cc)
conflict-front before (row ∷ a) b fault is = by (apart before row) refl is (conflict-front (before ++ row ∷ []) a b fault)
  where
    by : (found : Option ℕ) → apart before row ≡ found → conflict_at found row.at (conflict_behind (before ++ row ∷ []) a) ≡ Some fault
        → (conflict_behind (before ++ row ∷ []) a ≡ Some fault → conflict_behind (before ++ row ∷ []) (a ++ b) ≡ Some fault)
        → conflict_at (apart before row) row.at (conflict_behind (before ++ row ∷ []) (a ++ b)) ≡ Some fault
    by None is there rest = ap (λ (o : Option ℕ). conflict_at o row.at (conflict_behind (before ++ row ∷ []) (a ++ b))) is ∙ rest there
    by (Some first) is there rest = ap (λ (o : Option ℕ). conflict_at o row.at (conflict_behind (before ++ row ∷ []) (a ++ b))) is ∙ there
