-- Runs of rows whose names ascend.
use Rattle.std.proofs.Common.{◌≡◌, ℕ, Bool, true, false, not, ◌&&◌, if◌then◌else◌, List, [], ◌∷◌, ◌++◌, Option, Some, None, refl, sym, ◌∙◌, ap, arith}
use Rattle.std.proofs.lemmas.Bool.Decides.{nat_tests}
use Rattle.std.specs.Prelude.{length, IfSome, ◌<◌}
use Rattle.keep_format.specs.declared.rows.KeptRow.{KeptRow}
use Rattle.keep_format.specs.declared.order.Name.{Name}
use Rattle.keep_format.specs.KeepFile.{agree, byte_of, apart, same_name, disagree}
use Rattle.keep_format.specs.Order.{is_before, is_behind}
use Rattle.keep_format.specs.Runs.{name_in, run_of, front_of, AscendsFrom, Ascends, first_row_of, tail_of, starts_before}
use Rattle.keep_format.proofs.Lists.{or_else, or_none, apart-push}

-- ---- names

pub before_all : (a b c : Name) → is_before a b ≡ true → is_before b c ≡ true → is_before a c ≡ true
before_all a b c ab bc = grind (arith, nat_tests)

pub not_itself : (a : Name) → is_before a a ≡ false
not_itself a = grind (arith, nat_tests)

pub not_back : (a b : Name) → is_before a b ≡ true → is_before b a ≡ false
not_back a b ab = grind (arith, nat_tests)

-- a name up to one that is before another
pub up_to : (a b c : Name) → is_before a b ≡ false → is_before a c ≡ true → is_before b c ≡ true
up_to a b c ab ac = grind (arith, nat_tests)

other_name : (r row : KeptRow) → is_before (name_in r) (name_in row) ≡ true → same_name r row ≡ false
other_name r row is = grind (arith, nat_tests)

other_name_back : (r row : KeptRow) → is_before (name_in row) (name_in r) ≡ true → same_name r row ≡ false
other_name_back r row is = grind (arith, nat_tests)

-- a name behind one that is behind the last
pub behind_all : (last : Option Name) (b c : Name) → is_behind last b ≡ true → is_before b c ≡ true → is_behind last c ≡ true
behind_all None b c ab bc = refl
behind_all (Some a) b c ab bc = before_all a b c ab bc

-- ---- a run

if_run : (t : Bool) (last : Option Name) (row : KeptRow) (rows : List KeptRow) → is_behind last (name_in row) ≡ t → AscendsFrom (Some (name_in row)) rows
    → AscendsFrom last (if t then row ∷ rows else [])
if_run true last row rows is rest = (is, rest)
if_run false last row rows is rest = tt

pub run_ascends : (last : Option Name) (rows : List KeptRow) → AscendsFrom last (run_of last rows)
run_ascends last [] = tt
run_ascends last (row ∷ rows) = if_run (is_behind last (name_in row)) last row (run_of (Some (name_in row)) rows) refl (run_ascends (Some (name_in row)) rows)

from_none : (last : Option Name) (rows : List KeptRow) → AscendsFrom last rows → AscendsFrom None rows
from_none last [] ascends = tt
from_none last (row ∷ rows) ascends = (refl, ascends.1)

pub tail_ascends : (rows : List KeptRow) → Ascends rows → Ascends (tail_of rows)
tail_ascends [] ascends = tt
tail_ascends (row ∷ rows) ascends = from_none (Some (name_in row)) rows ascends.1

other_passes : (r row : KeptRow) (rest : Option ℕ) → same_name r row ≡ false → (if disagree r row then Some r.at else rest) ≡ rest
other_passes r row rest other = ap (λ (t : Bool). if t && not (agree (byte_of r.outcome) (byte_of row.outcome)) then Some r.at else rest) other

-- a row that is not behind a run's last name before it
pub above : (last : Name) (rows : List KeptRow) (row : KeptRow) → AscendsFrom (Some last) rows → is_before last (name_in row) ≡ false → apart rows row ≡ None
above last [] row ascends up = refl
above last (r ∷ rows) row ascends up =
    let less : is_before (name_in row) (name_in r) ≡ true = up_to last (name_in row) (name_in r) up ascends.0 in
    other_passes r row (apart rows row) (other_name_back r row less) ∙ above (name_in r) rows row ascends.1 (not_back (name_in row) (name_in r) less)

-- a name before another is before each from there on
later_than : (a b c : Name) → is_before a b ≡ true → is_before c b ≡ false → is_before a c ≡ true
later_than a b c ab cb = from_case (is_before a c) refl
  where
    from_case : (t : Bool) → is_before a c ≡ t → t ≡ true
    from_case true is = refl
    from_case false is = let back : is_before c b ≡ true = up_to a c b is ab in absurd (cc)

-- a first row that is passed
pub passed : (rows : List KeptRow) (name : Name) (row : KeptRow) → starts_before rows name ≡ true → is_before (name_in row) name ≡ false → apart (tail_of rows) row ≡ apart rows row
passed [] name row starts later = absurd (cc)
passed (r ∷ rows) name row starts later =
    let less : is_before (name_in r) (name_in row) ≡ true = later_than (name_in r) name (name_in row) starts later in
    sym (other_passes r row (apart rows row) (other_name r row less))

pub shorter : (rows : List KeptRow) (name : Name) → starts_before rows name ≡ true → length (tail_of rows) < length rows
shorter [] name starts = absurd (cc)
shorter (r ∷ rows) name starts = omega arith

pub starts_not : (rows : List KeptRow) (name : Name) → starts_before rows name ≡ false → IfSome (first_row_of rows) (λ row. is_before (name_in row) name ≡ false)
starts_not [] name starts = tt
starts_not (r ∷ rows) name starts = starts

abbrev pub told : Option KeptRow → KeptRow → Option ℕ
told None row = None
told (Some r) row = if disagree r row then Some r.at else None

-- what the first row that is left says
pub tells : (rows : List KeptRow) (row : KeptRow) → Ascends rows → IfSome (first_row_of rows) (λ r. is_before (name_in r) (name_in row) ≡ false) → apart rows row ≡ told (first_row_of rows) row
tells [] row ascends first = refl
tells (r ∷ rows) row ascends first = ap (λ (o : Option ℕ). if disagree r row then Some r.at else o) (above (name_in r) rows row ascends.1 first)

-- ---- rows behind others

pub push_other : (before : List KeptRow) (row later : KeptRow) → is_before (name_in row) (name_in later) ≡ true → apart (before ++ row ∷ []) later ≡ apart before later
push_other before row later is =
    apart-push before row later
    ∙ ap (or_else (apart before later)) (other_passes row later None (other_name row later is))
    ∙ or_none (apart before later)

pub front_ascends : (first : Option KeptRow) (rows : List KeptRow) → Ascends (front_of first rows)
front_ascends None rows = tt
front_ascends (Some row) rows = (refl, run_ascends (Some (name_in row)) rows)
