-- What a board says of the sites of its jobs.
use Rattle.std.proofs.Common.{◌≡◌, ℕ, zero, suc, false, List, [], ◌∷◌, Option, Some, refl, arith}
use Rattle.std.specs.Prelude.{slice_get}
use Rattle.std.proofs.lemmas.Bool.{false_from_ne_true}
use Rattle.fs_model.specs.declared.sites.Job.{Job}
use Rattle.fs_model.specs.declared.outcomes.Outcome.{Outcome}
use Rattle.fs_model.specs.Site.{same_site}
use Rattle.fs_model.specs.Job.{site_of}
use Rattle.site_counts.specs.Boards.{on_board, IsOnce, OnBoard}
use Rattle.fs_model.proofs.Counts.{same_site-refl, same_site-true}

on_this : (list : List Job) (board : List (Option Outcome)) (i : ℕ) (job : Job) (o : Outcome) → IsOnce list → slice_get list i ≡ Some job → slice_get board i ≡ Some (Some o) → o ≡ on_board list board (site_of job)
unfolding on_board
on_this [] board i job o once a b = absurd cc
on_this (x ∷ list) [] i job o once a b = absurd cc
on_this (x ∷ list) (y ∷ board) zero job o once a b =
    let a' : x ≡ job = cc in
    let b' : y ≡ Some o = cc in
    rw (a', b', same_site-refl (site_of job)) refl
on_this (x ∷ list) (y ∷ board) (suc i) job o once a b =
    let ne : same_site (site_of x) (site_of job) ≡ false = false_from_ne_true (same_site (site_of x) (site_of job)) (λ h. let e : 0 ≡ suc i = once 0 (suc i) x job refl a (same_site-true (site_of x) (site_of job) h) in absurd (omega arith)) in
    rw ne (on_this list board i job o (λ p q u v s t e. let r = once (suc p) (suc q) u v s t e in omega arith) a b)

pub on_boards : OnBoard
on_boards list board once i job o a b = on_this list board i job o once a b
