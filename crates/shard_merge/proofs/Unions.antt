-- Two boards put together.
use Rattle.std.proofs.Common.{◌≡◌, ◌⊎◌, inl, inr, ⊎_elim, ℕ, zero, suc, Option, Some, None, List, [], ◌∷◌, length, refl, sym, ap, ◌∙◌, arith}
use Rattle.std.specs.Prelude.{slice_get}
use Rattle.fs_model.specs.declared.sites.Site.{Site}
use Rattle.fs_model.specs.declared.sites.Job.{Job}
use Rattle.fs_model.specs.declared.outcomes.Outcome.{Outcome}
use Rattle.result_keeper.specs.Boards.{or_else}
use Rattle.shard_merge.specs.Union.{BoardData, union, Agree}
use Rattle.shard_merge.specs.Laws.{IsRightBoard}

one_commutes : (x y : Option Outcome) → ((p q : Outcome) → x ≡ Some p → y ≡ Some q → p ≡ q) → or_else x y ≡ or_else y x
one_commutes None None same = refl
one_commutes None (Some q) same = refl
one_commutes (Some p) None same = refl
one_commutes (Some p) (Some q) same = ap (λ (o : Outcome). Some o) (same p q refl refl)

pub commutes : (a b : BoardData) → length a ≡ length b → Agree a b → union a b ≡ union b a
commutes [] [] long same = refl
commutes [] (y ∷ b) long same = absurd (omega arith)
commutes (x ∷ a) [] long same = absurd (omega arith)
commutes (x ∷ a) (y ∷ b) long same =
    let here = one_commutes x y (λ p q e f. same 0 p q (ap (λ (z : Option Outcome). Some z) e) (ap (λ (z : Option Outcome). Some z) f)) in
    let there = commutes a b (omega arith) (λ i p q e f. same (suc i) p q e f) in
    rw (here, there) refl

one_associates : (x y z : Option Outcome) → or_else (or_else x y) z ≡ or_else x (or_else y z)
one_associates None y z = refl
one_associates (Some p) y z = refl

pub associates : (a b c : BoardData) → length a ≡ length b → length b ≡ length c → union (union a b) c ≡ union a (union b c)
associates [] b c h k = refl
associates (x ∷ a) [] c h k = absurd (omega arith)
associates (x ∷ a) (y ∷ b) [] h k = absurd (omega arith)
associates (x ∷ a) (y ∷ b) (z ∷ c) h k =
    let here = one_associates x y z in
    let there = associates a b c (omega arith) (omega arith) in
    rw (here, there) refl

one_repeats : (x : Option Outcome) → or_else x x ≡ x
one_repeats None = refl
one_repeats (Some p) = refl

pub repeats : (a : BoardData) → union a a ≡ a
repeats [] = refl
repeats (x ∷ a) = rw (one_repeats x, repeats a) refl

pub length-union : (a b : BoardData) → length (union a b) ≡ length a
length-union [] b = refl
length-union (x ∷ a) [] = refl
length-union (x ∷ a) (y ∷ b) = let h = length-union a b in omega (arith, h)

-- a place of the union: what the first board has there, or else the other
one_from : (x y : Option Outcome) (o : Outcome) → or_else x y ≡ Some o → (x ≡ Some o) ⊎ (y ≡ Some o)
one_from None y o is = inr is
one_from (Some p) y o is = inl is

inside : (x y : Option Outcome) → Some x ≡ Some y → x ≡ y
inside x y e = cc

pub union_from : (a b : BoardData) (i : ℕ) (o : Outcome) → slice_get (union a b) i ≡ Some (Some o) → (slice_get a i ≡ Some (Some o)) ⊎ (slice_get b i ≡ Some (Some o))
union_from [] b i o is = absurd (cc)
union_from (x ∷ a) [] i o is = inl is
union_from (x ∷ a) (y ∷ b) zero o is =
    ⊎_elim (λ (e : x ≡ Some o). inl (ap (λ (z : Option Outcome). Some z) e)) (λ (e : y ≡ Some o). inr (ap (λ (z : Option Outcome). Some z) e)) (one_from x y o (inside (or_else x y) (Some o) is))
union_from (x ∷ a) (y ∷ b) (suc i) o is = union_from a b i o is

-- it has an outcome where one of them has
pub union_left : (a b : BoardData) (i : ℕ) (o : Outcome) → slice_get a i ≡ Some (Some o) → slice_get (union a b) i ≡ Some (Some o)
union_left [] b i o is = absurd (cc)
union_left (x ∷ a) [] i o is = is
union_left (x ∷ a) (y ∷ b) zero o is = let e : x ≡ Some o = inside x (Some o) is in rw e refl
union_left (x ∷ a) (y ∷ b) (suc i) o is = union_left a b i o is

one_right : (x : Option Outcome) (o : Outcome) → (q : Outcome) × (Some (or_else x (Some o)) ≡ Some (Some q))
one_right None o = (o, refl)
one_right (Some p) o = (p, refl)

pub union_right : (a b : BoardData) (i : ℕ) (o : Outcome) → length a ≡ length b → slice_get b i ≡ Some (Some o) → (q : Outcome) × (slice_get (union a b) i ≡ Some (Some q))
union_right [] [] i o long is = absurd (cc)
union_right [] (y ∷ b) i o long is = absurd (omega arith)
union_right (x ∷ a) [] i o long is = absurd (omega arith)
union_right (x ∷ a) (y ∷ b) zero o long is =
    let e : y ≡ Some o = inside y (Some o) is in
    let r = one_right x o in
    (r.0, ap (λ (z : Option Outcome). Some (or_else x z)) e ∙ r.1)
union_right (x ∷ a) (y ∷ b) (suc i) o long is = union_right a b i o (omega arith) is

pub job_at : (list : List Job) (board : BoardData) (i : ℕ) (p : Option Outcome) → length board ≡ length list → slice_get board i ≡ Some p → (job : Job) × (slice_get list i ≡ Some job)
job_at [] [] i p long is = absurd (cc)
job_at [] (y ∷ board) i p long is = absurd (omega arith)
job_at (job ∷ list) [] i p long is = absurd (omega arith)
job_at (job ∷ list) (y ∷ board) zero p long is = (job, refl)
job_at (job ∷ list) (y ∷ board) (suc i) p long is = job_at list board i p (omega arith) is

pub agree : (outcomes : Site → Outcome) (list : List Job) (a b : BoardData) → IsRightBoard outcomes list a → IsRightBoard outcomes list b → Agree a b
agree outcomes list a b ra rb i x y e f =
    let job = job_at list a i (Some x) ra.long e in
    ra.right i job.0 x job.1 e ∙ sym (rb.right i job.0 y job.1 f)

pub right_union : (outcomes : Site → Outcome) (list : List Job) (a b : BoardData) → IsRightBoard outcomes list a → IsRightBoard outcomes list b → IsRightBoard outcomes list (union a b)
right_union outcomes list a b ra rb = record {
  long = length-union a b ∙ ra.long;
  right = λ i job o at is.
      ⊎_elim (λ (e : slice_get a i ≡ Some (Some o)). ra.right i job o at e) (λ (e : slice_get b i ≡ Some (Some o)). rb.right i job o at e) (union_from a b i o is);
}
