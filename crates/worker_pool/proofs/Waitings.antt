-- Rows that were given to the desk, and those that wait behind them.
use Rattle.std.proofs.Common.{◌≡◌, ℕ, ◌+◌, ◌<◌, ◌≤◌, List, [], ◌∷◌, ◌++◌, length, get_or, take, sym, subst, ap, ◌∙◌, arith, append_assoc, length-append}
use Rattle.std.specs.Prelude.{All}
use Rattle.std.proofs.lemmas.List.{length-take-le, take_more}
use Rattle.std.proofs.lemmas.List.Elements.{All-nil, All-push}
use Rattle.fs_model.specs.declared.outcomes.Row.{Row}
use Rattle.fs_model.specs.Verdict.{IsRight}
use Rattle.result_desk.specs.Tally.{TallyData}
use Rattle.worker_pool.specs.Waiting.{AreWaiting}

-- one row more is given
pub given_so_far : (offered rows : List Row) (i : ℕ) (d : Row) → i < length rows → offered ++ take (i + 1) rows ≡ (offered ++ take i rows) ++ get_or rows i d ∷ []
given_so_far offered rows i d below = ap (λ (l : List Row). offered ++ l) (take_more rows i d below) ∙ sym (append_assoc offered (take i rows) (get_or rows i d ∷ []))

-- there is room for each of them
pub room_so_far : (offered rows : List Row) (i most : ℕ) → i < length rows → length (offered ++ rows) ≤ most → length (offered ++ take i rows) < most
room_so_far offered rows i most below fits = omega (arith, length-append offered rows, length-append offered (take i rows), length-take-le i rows (omega arith), below, fits)

-- nothing was given, and nothing waits
pub none_given : (offered rows : List Row) → offered ≡ [] → rows ≡ [] → offered ++ rows ≡ []
none_given offered rows a b = ap (λ (l : List Row). l ++ rows) a ∙ b

pub none_waits : (tally : TallyData) (rows : List Row) → tally.offered ≡ [] → rows ≡ [] → AreWaiting tally rows
none_waits tally rows a b = record {
  right = subst (λ (l : List Row). All (IsRight tally.case) l) (sym b) (All-nil (IsRight tally.case));
  room = omega (arith, ap (λ (l : List Row). length l) (none_given tally.offered rows a b));
}

-- the last of these rows is the row that came
pub one_more : (offered waiting new : List Row) (row : Row) (came : List Row) → new ≡ waiting ++ row ∷ [] → row ∷ [] ≡ came → offered ++ new ≡ (offered ++ waiting) ++ came
one_more offered waiting new row came pushed is = ap (λ (l : List Row). offered ++ l) (pushed ∙ ap (λ (l : List Row). waiting ++ l) is) ∙ sym (append_assoc offered waiting came)

-- one row more waits
pub waits_more : (tally : TallyData) (rows : List Row) (row : Row) → AreWaiting tally rows → IsRight tally.case row → length (tally.offered ++ rows) < tally.page → AreWaiting tally (rows ++ row ∷ [])
waits_more tally rows row are right room = record {
  right = All-push (IsRight tally.case) rows row are.right right;
  room = omega (arith, ap (λ (l : List Row). length l) (append_assoc tally.offered rows (row ∷ [])), length-append (tally.offered ++ rows) (row ∷ []), room);
}
