-- Where a run stops that goes back.
use Rattle.std.proofs.Common.{◌≡◌, ℕ, ◌+◌, ◌-◌, ◌<◌, ◌≤◌, List, Option, Some, None, IfSome, is_some, unwrap_or, arith}
use Rattle.std.specs.Prelude.{option_and_then}
use Rattle.fs_model.specs.declared.sites.Site.{Site}
use Rattle.fs_model.specs.Case.{CaseData}
use Rattle.timeline.specs.declared.watches.Watch.{Watch}
use Rattle.timeline.specs.declared.watches.Hit.{Hit}
use Rattle.timeline.specs.Timelines.{hit_back, previous_hit}
use Rattle.timeline.proofs.Searches.{last_within}

within_by : (o : Option ℕ) (floor place : ℕ) → floor ≤ place → IfSome o (λ m. m < floor + (place - floor)) → unwrap_or o floor ≤ place
within_by None floor place low h = low
within_by (Some m) floor place low h = omega arith

early_by : (o : Option ℕ) (hits : ℕ → Option Hit) (r : Option Hit) (x : Hit) (floor place : ℕ) → floor ≤ place → r ≡ option_and_then hits o → r ≡ Some x → IfSome o (λ m. m < floor + (place - floor)) → unwrap_or o floor < place
early_by None hits r x floor place low e f h = absurd cc
early_by (Some m) hits r x floor place low e f h = omega arith

module _ (c : CaseData) (flip : Option Site) (stops : List ℕ) (watches : List Watch) (floor place : ℕ) (low : floor ≤ place) where
  pub back_within : unwrap_or (previous_hit c flip stops watches floor place) floor ≤ place
  back_within = within_by (previous_hit c flip stops watches floor place) floor place low (last_within (λ n. is_some (hit_back c flip stops watches n)) floor (place - floor))

  -- one that stopped is before the place from which it went
  pub back_early : (r : Option Hit) (x : Hit) → r ≡ option_and_then (hit_back c flip stops watches) (previous_hit c flip stops watches floor place) → r ≡ Some x → unwrap_or (previous_hit c flip stops watches floor place) floor < place
  back_early r x e f = early_by (previous_hit c flip stops watches floor place) (hit_back c flip stops watches) r x floor place low e f (last_within (λ n. is_some (hit_back c flip stops watches n)) floor (place - floor))
